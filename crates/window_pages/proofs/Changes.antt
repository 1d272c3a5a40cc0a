-- Whether a list of numbers has one in a window, by the first that isn't below its begin.
use Rattle.std.proofs.Common.{◌≡◌, ℕ, zero, suc, ◌+◌, ◌-◌, ◌≤◌, ◌<◌, ◌&&◌, Bool, true, false, cond, List, [], ◌∷◌, ◌++◌, length, get_or, take, drop, drop-cons, Option, Some, None, refl, sym, ap, subst, ◌∙◌, arith, le-leb, lt-ltb, le-ltb}
use Rattle.std.specs.Prelude.{nat_le, nat_lt, slice_index}
use Rattle.std.specs.Option.{option_or}
use Rattle.std.specs.List.{filter}
use Rattle.std.specs.List.Sorted.{IsNonDecreasing}
use Rattle.std.proofs.lemmas.Bool.{ltb-true, ltb-false}
use Rattle.std.proofs.lemmas.List.{take_more}
use Rattle.agg_model.specs.declared.change.Act.{Act}
use Rattle.agg_model.specs.declared.change.Change.{Change}
use Rattle.agg_model.specs.declared.entity.Entity.{Entity}
use Rattle.agg_model.specs.ChangeList.{last_change, value_of_act}
use Rattle.agg_model.specs.Pairs.{held_value, value_over}
use Rattle.hot_keeper.specs.Windows.{act_of_change}
use Rattle.window_laws.specs.Parts.{is_between}
use Rattle.window_reads.proofs.NumberWalks.{from-place, up-init, up-high, up-none}
use Rattle.window_pages.specs.Places.{Place}
use Rattle.window_pages.specs.Finds.{has_any, first_word, word_at, newest_word, value_at_places}

pub has-take : (xs : List ℕ) → has_any (take 1 xs) ≡ has_any xs
has-take [] = refl
has-take (x ∷ xs) = refl

pub has-length : (xs : List ℕ) → nat_lt 0 (length xs) ≡ has_any xs
has-length [] = refl
has-length (x ∷ xs) = lt-ltb 0 (suc (length xs)) (omega arith)

module _ (a b : ℕ) (xs : List ℕ) where
  pub has-none : ((k : ℕ) → k < length xs → slice_index xs k < a) → false ≡ has_any (filter (is_between a b) xs)
  has-none low = ap has_any (up-none a b 1 [] xs (omega arith) low) ∙ has-take (filter (is_between a b) xs)

  has-by : (place x : ℕ) (t : Bool) → nat_lt x b ≡ t → IsNonDecreasing xs → place < length xs → x ≡ slice_index xs place → a ≤ x → ((k : ℕ) → k < place → slice_index xs k < a)
      → t ≡ has_any (filter (is_between a b) xs)
  has-by place x true is up within here from before =
      let here_is : slice_index xs place ≡ x = sym here in
      let inside : is_between a b (slice_index xs place) ≡ true = ap (is_between a b) here_is ∙ (λ i. le-leb a x from i && is i) in
      sym
      (ap has_any
      (from-place a b place xs (λ k below _. before k below)
      ∙ ap (filter (is_between a b)) (drop-cons xs place 0 within)
      ∙ (λ i. cond (inside i) (slice_index xs place ∷ filter (is_between a b) (drop (suc place) xs)) (filter (is_between a b) (drop (suc place) xs)))))
  has-by place x false is up within here from before =
      let high : b ≤ slice_index xs place = omega (arith, ltb-false x b is, here) in
      let low : a ≤ slice_index xs place = omega (arith, from, here) in
      let begun = up-init a b 1 place [] xs (omega arith) up within low before in
      ap has_any (up-high a b 1 (take 1 (filter (is_between a b) xs)) [] (drop place xs) (slice_index xs place) (drop (suc place) xs) (drop-cons xs place 0 within) begun high)
      ∙ has-take (filter (is_between a b) xs)

  pub has-found : (place x : ℕ) → IsNonDecreasing xs → place < length xs → x ≡ slice_index xs place → a ≤ x → ((k : ℕ) → k < place → slice_index xs k < a)
      → nat_lt x b ≡ has_any (filter (is_between a b) xs)
  has-found place x up within here from before = has-by place x (nat_lt x b) refl up within here from before

-- ---- from the last group down

or-none : (o : Option (List ℕ)) → option_or None o ≡ option_or o None
or-none None = refl
or-none (Some x) = refl

or-three : (o r s : Option (List ℕ)) → option_or (option_or o r) s ≡ option_or o (option_or r s)
or-three None r s = refl
or-three (Some x) r s = refl

or-last : (k : List ℕ) (ps : List Place) (p : Place) → newest_word k (ps ++ p ∷ []) ≡ option_or (word_at k p) (newest_word k ps)
or-last k [] p = or-none (word_at k p)
or-last k (q ∷ ps) p = ap (λ o. option_or o (word_at k q)) (or-last k ps p) ∙ or-three (word_at k p) (newest_word k ps) (word_at k q)

pub newest-last : (k : List ℕ) (ps : List Place) (left : ℕ) (p : Place) → 0 < left → left ≤ length ps → p ≡ get_or ps (left - 1) p
    → newest_word k (take left ps) ≡ option_or (word_at k p) (newest_word k (take (left - 1) ps))
newest-last k ps left p some within is =
    let one_more : left ≡ left - 1 + 1 = omega (arith, some) in
    ap (newest_word k)
    (ap (λ n. take n ps) one_more ∙ take_more ps (left - 1) p (omega (arith, some, within)) ∙ ap (λ q. take (left - 1) ps ++ q ∷ []) (sym is))
    ∙ or-last k (take (left - 1) ps) p

-- ---- the value that is found

told-act : (x y : Act) → Some x ≡ Some y → x ≡ y
told-act x y h = cc

left-some : (found : Option (List ℕ)) (o : Option Change) (act : Act) → Some act ≡ act_of_change o → value_of_act act ≡ value_over found o
left-some found None act h = cc
left-some found (Some c) act h = ap value_of_act (told-act act c.act h)

left-none : (found : Option (List ℕ)) (o : Option Change) → None ≡ act_of_change o → found ≡ value_over found o
left-none found None h = refl
left-none found (Some c) h = cc

module _ (size : ℕ) (places : List Place) (cs : List Change) (e : Entity) (k : List ℕ) (n end : ℕ) where
  abbrev below : Option (List ℕ)
  below = held_value (option_or (first_word size k n places) (newest_word k places))

  abbrev behind : Option (List ℕ)
  behind = value_over (held_value (newest_word k places)) (last_change cs e k n)

  pub found-below : (word : Option (List ℕ)) → n < end → word ≡ option_or (first_word size k n places) (newest_word k places) → held_value word ≡ value_at_places size places cs e k end n
  found-below word low is = ap held_value is ∙ ap (λ t. cond t below behind) (sym (lt-ltb n end low))

  pub found-act : (act : Act) → end ≤ n → Some act ≡ act_of_change (last_change cs e k n) → value_of_act act ≡ value_at_places size places cs e k end n
  found-act act high is =
      left-some (held_value (newest_word k places)) (last_change cs e k n) act is ∙ ap (λ t. cond t below behind) (sym (le-ltb n end high))

  pub found-newest : (word : Option (List ℕ)) → end ≤ n → None ≡ act_of_change (last_change cs e k n) → word ≡ newest_word k places → held_value word ≡ value_at_places size places cs e k end n
  found-newest word high none is =
      ap held_value is ∙ left-none (held_value (newest_word k places)) (last_change cs e k n) none ∙ ap (λ t. cond t below behind) (sym (le-ltb n end high))
