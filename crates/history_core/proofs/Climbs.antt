-- Befores that ascend one by one.
use Rattle.std.proofs.Common.{◌≡◌, ℕ, zero, suc, ◌+◌, ◌<◌, ◌≤◌, Bool, true, false, nat_lt, List, [], ◌∷◌, length, get_or, refl, sym, arith, subst, add-one, ltb-true, ltb-false}
use Rattle.std.specs.Prelude.{AllPairs}
use Rattle.std.proofs.lemmas.List.Elements.{All-cons}
use Rattle.std.proofs.lemmas.List.Kept.{AllPairs-cons}
use Rattle.agg_model.specs.declared.contents.Before.{Before}
use Rattle.history_core.specs.Befores.{IsEarlier}
use Rattle.history_core.specs.KeyWord.{before_at}
use Rattle.history_core.proofs.Orders.{earlier_chain}

-- each of the first n is before the next of them
abbrev pub GoUp : List Before → ℕ → Type 0
GoUp bs n = (p : ℕ) → suc p < n → IsEarlier (before_at bs p) (before_at bs (suc p))

pub go_up_more : (bs : List Before) (place : ℕ) → GoUp bs (place + 1) → IsEarlier (before_at bs place) (before_at bs (place + 1)) → GoUp bs (place + 1 + 1)
go_up_more bs place up below p h = by_place (nat_lt (suc p) (place + 1)) refl
  where
    here : p ≡ place → IsEarlier (before_at bs p) (before_at bs (suc p))
    here e =
        subst (λ q. IsEarlier (before_at bs q) (before_at bs (suc q))) (sym e)
        (subst (λ q. IsEarlier (before_at bs place) (before_at bs q)) (add-one place) below)

    by_place : (t : Bool) → nat_lt (suc p) (place + 1) ≡ t → IsEarlier (before_at bs p) (before_at bs (suc p))
    by_place true e = up p (ltb-true (suc p) (place + 1) e)
    by_place false e = let over = ltb-false (suc p) (place + 1) e in here (omega arith)

-- any default serves inside a list
same_default : (bs : List Before) (i : ℕ) (d e : Before) → i < length bs → get_or bs i d ≡ get_or bs i e
same_default [] i d e h = absurd (omega arith)
same_default (b ∷ bs) zero d e h = refl
same_default (b ∷ bs) (suc i) d e h = same_default bs i d e (omega arith)

next_first : (b c : Before) (bs : List Before) → IsEarlier b c → AllPairs IsEarlier (c ∷ bs) → AllPairs IsEarlier (b ∷ c ∷ bs)
next_first b c bs less up =
    AllPairs-cons IsEarlier b (c ∷ bs)
    (All-cons (IsEarlier b) c bs less (λ i z below. earlier_chain b c (get_or bs i z) less (up 0 (suc i) z (omega arith) (omega arith))))
    up

climbed : (bs : List Before) → GoUp bs (length bs) → AllPairs IsEarlier bs
climbed [] up = λ i j d lt within. absurd (omega arith)
climbed (b ∷ []) up = λ i j d lt within. absurd (omega arith)
climbed (b ∷ c ∷ bs) up =
    next_first b c bs (up 0 (omega arith)) (climbed (c ∷ bs) (λ p h. up (suc p) (omega arith)))

-- as many go up as have a next one
pub all_climb : (bs : List Before) (n : ℕ) → length bs ≤ n → GoUp bs n → AllPairs IsEarlier bs
all_climb bs n long up = climbed bs (λ p h. up p (omega arith))

pub climb_at : (bs : List Before) → AllPairs IsEarlier bs → (place : ℕ) → place + 1 < length bs → IsEarlier (before_at bs place) (before_at bs (place + 1))
climb_at bs up place h = up place (place + 1) (record { key = []; tx = 0; value = [] }) (omega arith) h
