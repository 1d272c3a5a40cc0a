-- Tests that only elements of one key pass, in lists whose keys ascend.
use Rattle.std.proofs.Common.{◌≡◌, ℕ, zero, suc, ◌≤◌, ◌<◌, Bool, true, false, ◌||◌, List, [], ◌∷◌, ◌++◌, length, take, drop, get_or, map, refl, ◌∙◌, ap, arith}
use Rattle.std.specs.List.{list_any}
use Rattle.visible_files.specs.Ids.{Ascends, IsLowerBound}
use Rattle.visible_files.proofs.Orders.{bound_tail, ascends_least}
use Rattle.visible_files.proofs.Equalities.{or_swap}

module _ {X : Type 0} (key : X → ℕ) (k : ℕ) (test : X → Bool) (only : (x : X) → test x ≡ true → key x ≡ k) where
  fails-by : (x : X) (t : Bool) → test x ≡ t → (key x ≡ k → ⊥) → t ≡ false
  fails-by x true e apart = absurd (apart (only x e))
  fails-by x false e apart = refl

  pub fails : (x : X) → (key x ≡ k → ⊥) → test x ≡ false
  fails x apart = fails-by x (test x) refl apart

  pub test-below : (low : ℕ) (xs : List X) → Ascends low (map key xs) → k < low → list_any test xs ≡ false
  test-below low [] h below = refl
  test-below low (x ∷ xs) h below =
      let a : low ≤ key x = h.0 in
      let apart : key x ≡ k → ⊥ = λ e. absurd (omega arith) in
      ap (λ t. t || list_any test xs) (fails x apart) ∙ test-below (suc (key x)) xs h.1 (omega arith)

  at-by : (xs : List X) (t : Bool) → list_any test xs ≡ false → (t || list_any test xs) ≡ t
  at-by xs true none = refl
  at-by xs false none = none

  pub test-at : (low : ℕ) (xs : List X) (n : ℕ) (d : X) → Ascends low (map key xs) → IsLowerBound key xs k n → n < length xs → list_any test xs ≡ test (get_or xs n d)
  test-at low [] n d h b lt = absurd (omega arith)
  test-at low (x ∷ xs) zero d h b lt =
      let le : k ≤ key x = b.rest 0 x (omega arith) lt in
      at-by xs (test x) (test-below (suc (key x)) xs h.1 (omega arith))
  test-at low (x ∷ xs) (suc n) d h b lt =
      let under : key x < k = b.before 0 x (omega arith) in
      let apart : key x ≡ k → ⊥ = λ e. absurd (omega arith) in
      ap (λ t. t || list_any test xs) (fails x apart) ∙ test-at (suc (key x)) xs n d h.1 (bound_tail key x xs k n b) (omega arith)

  pub test-past : (xs : List X) (n : ℕ) → IsLowerBound key xs k n → length xs ≤ n → list_any test xs ≡ false
  test-past [] n b le = refl
  test-past (x ∷ xs) zero b le = absurd (omega arith)
  test-past (x ∷ xs) (suc n) b le =
      let under : key x < k = b.before 0 x (omega arith) in
      let apart : key x ≡ k → ⊥ = λ e. absurd (omega arith) in
      ap (λ t. t || list_any test xs) (fails x apart) ∙ test-past xs n (bound_tail key x xs k n b) (omega arith)

  -- without the element of the key none passes
  pub test-removed : (low : ℕ) (xs : List X) (n : ℕ) (d : X) → Ascends low (map key xs) → n < length xs → key (get_or xs n d) ≡ k → list_any test (take n xs ++ drop (suc n) xs) ≡ false
  test-removed low [] n d h lt is = absurd (omega arith)
  test-removed low (x ∷ xs) zero d h lt is = let same : key x ≡ k = is in test-below (suc (key x)) xs h.1 (omega arith)
  test-removed low (x ∷ xs) (suc n) d h lt is =
      let up = ascends_at (suc (key x)) xs n d h.1 (omega arith) in
      let same : key (get_or xs n d) ≡ k = is in
      let apart : key x ≡ k → ⊥ = λ e. absurd (omega arith) in
      ap (λ t. t || list_any test (take n xs ++ drop (suc n) xs)) (fails x apart) ∙ test-removed (suc (key x)) xs n d h.1 (omega arith) is
    where
      ascends_at : (low : ℕ) (ys : List X) (j : ℕ) (d : X) → Ascends low (map key ys) → j < length ys → low ≤ key (get_or ys j d)
      ascends_at low ys j d h lt = ascends_least key low ys j d h lt

pub any-removed : {X : Type 0} (p : X → Bool) (xs : List X) (n : ℕ) (d : X) → n < length xs → list_any p xs ≡ (p (get_or xs n d) || list_any p (take n xs ++ drop (suc n) xs))
any-removed p [] n d lt = absurd (omega arith)
any-removed p (x ∷ xs) zero d lt = refl
any-removed p (x ∷ xs) (suc n) d lt = ap (λ b. p x || b) (any-removed p xs n d (omega arith)) ∙ or_swap (p x) (p (get_or xs n d)) (list_any p (take n xs ++ drop (suc n) xs))
