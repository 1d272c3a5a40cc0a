-- Pairs whose keys ascend one by one.
use Rattle.std.proofs.Common.{◌≡◌, ℕ, suc, ◌+◌, ◌<◌, ◌≤◌, List, [], ◌∷◌, length, get_or, Bool, true, false, nat_lt, ltb-true, ltb-false, refl, sym, arith, subst, add-one}
use Rattle.std.specs.Cmp.Lexicographic.{nat_list_cmp_total}
use Rattle.std.proofs.lemmas.List.Elements.{All-cons, All-nil}
use Rattle.agg_model.specs.declared.contents.Pair.{Pair}
use Rattle.agg_model.specs.Pairs.{IsBelow, KeysAscend, pair_keys}
use Rattle.domain_core.specs.KvFile.{key_at}
use Rattle.domain_core.proofs.Words.{below_at, length-pair_keys}

-- each of the first n keys is below the next of them
abbrev pub GoUp : List (List ℕ) → ℕ → Type 0
GoUp ks n = (p : ℕ) → suc p < n → IsBelow (get_or ks p []) (get_or ks (suc p) [])

pub KeysAscend-next : (k l : List ℕ) (ks : List (List ℕ)) → IsBelow k l → KeysAscend (l ∷ ks) → KeysAscend (k ∷ l ∷ ks)
KeysAscend-next k l ks below up =
    (All-cons (IsBelow k) l ks below (λ i z h. nat_list_cmp_total.trans k l (get_or ks i z) below (up.0 i z h)), up)

KeysAscend-GoUp : (ks : List (List ℕ)) → GoUp ks (length ks) → KeysAscend ks
KeysAscend-GoUp [] up = tt
KeysAscend-GoUp (k ∷ []) up = (All-nil (IsBelow k), tt)
KeysAscend-GoUp (k ∷ l ∷ ks) up =
    KeysAscend-next k l ks (up 0 (omega arith)) (KeysAscend-GoUp (l ∷ ks) (λ p h. up (suc p) (omega arith)))

module _ (pairs : List Pair) where
  -- as many pairs go up as have a next one
  pub all_ascend : (n : ℕ) → length pairs ≤ n → GoUp (pair_keys pairs) n → KeysAscend (pair_keys pairs)
  all_ascend n long up = KeysAscend-GoUp (pair_keys pairs) (λ p h. up p (omega (arith, length-pair_keys pairs)))

  pub go_up_more : (place : ℕ) → GoUp (pair_keys pairs) (place + 1) → IsBelow (key_at pairs place) (key_at pairs (place + 1)) → GoUp (pair_keys pairs) (place + 1 + 1)
  go_up_more place up below p h = by_place (nat_lt (suc p) (place + 1)) refl
    where
      here : p ≡ place → IsBelow (key_at pairs p) (key_at pairs (suc p))
      here e =
          subst (λ q. IsBelow (key_at pairs q) (key_at pairs (suc q))) (sym e)
          (subst (λ q. IsBelow (key_at pairs place) (key_at pairs q)) (add-one place) below)

      by_place : (t : Bool) → nat_lt (suc p) (place + 1) ≡ t → IsBelow (key_at pairs p) (key_at pairs (suc p))
      by_place true e = up p (ltb-true (suc p) (place + 1) e)
      by_place false e = let over = ltb-false (suc p) (place + 1) e in here (omega arith)

  pub ascend_at : KeysAscend (pair_keys pairs) → (place : ℕ) → place + 1 < length pairs → IsBelow (key_at pairs place) (key_at pairs (place + 1))
  ascend_at up place h = below_at pairs up place (place + 1) (omega arith) h
