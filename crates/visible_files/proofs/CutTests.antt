-- The test whether the ranges of each entity are a cut.
use Rattle.std.proofs.Common.{◌≡◌, ℕ, Bool, true, ◌==◌, ◌&&◌, List, [], ◌∷◌, sym, ◌∙◌, ap, subst, eqb-true, eq-eqb}
use Rattle.agg_model.specs.declared.entity.Entity.{Entity}
use Rattle.agg_model.specs.declared.entity.Entity.TheVariants.{Accounts, Storage, Code, LogAddrs, LogTopics, TracesFrom, TracesTo}
use Rattle.agg_model.specs.declared.entity.Range.{Range}
use Rattle.merge_ranges.specs.Cut.{is_aligned, IsCutFrom, end_from}
use Rattle.visible_files.specs.declared.ids.GroupId.{GroupId}
use Rattle.visible_files.specs.Ids.{ranges_of, AreCuts, is_cut_to, are_cuts}
use Rattle.visible_files.proofs.Equalities.{both, first_of, second_of}

to_cut : (a : ℕ) (rs : List Range) (end : ℕ) → is_cut_to a rs end ≡ true → IsCutFrom a rs × (end_from a rs ≡ end)
to_cut a [] end h = (tt, eqb-true a end h)
to_cut a (r ∷ rs) end h =
    let two = first_of ((r.from == a) && is_aligned r) (is_cut_to r.to rs end) h in
    let rest = to_cut r.to rs end (second_of ((r.from == a) && is_aligned r) (is_cut_to r.to rs end) h) in
    ((eqb-true r.from a (first_of (r.from == a) (is_aligned r) two), second_of (r.from == a) (is_aligned r) two, rest.0), rest.1)

from_cut : (a : ℕ) (rs : List Range) (end : ℕ) → IsCutFrom a rs → end_from a rs ≡ end → is_cut_to a rs end ≡ true
from_cut a [] end h e = eq-eqb a end e
from_cut a (r ∷ rs) end h e =
    both ((r.from == a) && is_aligned r) (is_cut_to r.to rs end) (both (r.from == a) (is_aligned r) (eq-eqb r.from a h.0) h.1) (from_cut r.to rs end h.2 e)

record Seven (a b c d e f g : Bool) : Type 0 where
  one : a ≡ true
  two : b ≡ true
  three : c ≡ true
  four : d ≡ true
  five : e ≡ true
  six : f ≡ true
  seven : g ≡ true

seven_of : (a b c d e f g : Bool) → (a && b && c && d && e && f && g) ≡ true → Seven a b c d e f g
seven_of a b c d e f g h =
    let h6 = first_of (a && b && c && d && e && f) g h in
    let h5 = first_of (a && b && c && d && e) f h6 in
    let h4 = first_of (a && b && c && d) e h5 in
    let h3 = first_of (a && b && c) d h4 in
    let h2 = first_of (a && b) c h3 in
    record {
      one = first_of a b h2;
      two = second_of a b h2;
      three = second_of (a && b) c h3;
      four = second_of (a && b && c) d h4;
      five = second_of (a && b && c && d) e h5;
      six = second_of (a && b && c && d && e) f h6;
      seven = second_of (a && b && c && d && e && f) g h;
    }

module _ (ids : List GroupId) (end : ℕ) where
  each : are_cuts ids end ≡ true → (e : Entity) → is_cut_to 0 (ranges_of e ids) end ≡ true
  each h Accounts = (seven_of (is_cut_to 0 (ranges_of Accounts ids) end) (is_cut_to 0 (ranges_of Storage ids) end) (is_cut_to 0 (ranges_of Code ids) end) (is_cut_to 0 (ranges_of LogAddrs ids) end) (is_cut_to 0 (ranges_of LogTopics ids) end) (is_cut_to 0 (ranges_of TracesFrom ids) end) (is_cut_to 0 (ranges_of TracesTo ids) end) h).one
  each h Storage = (seven_of (is_cut_to 0 (ranges_of Accounts ids) end) (is_cut_to 0 (ranges_of Storage ids) end) (is_cut_to 0 (ranges_of Code ids) end) (is_cut_to 0 (ranges_of LogAddrs ids) end) (is_cut_to 0 (ranges_of LogTopics ids) end) (is_cut_to 0 (ranges_of TracesFrom ids) end) (is_cut_to 0 (ranges_of TracesTo ids) end) h).two
  each h Code = (seven_of (is_cut_to 0 (ranges_of Accounts ids) end) (is_cut_to 0 (ranges_of Storage ids) end) (is_cut_to 0 (ranges_of Code ids) end) (is_cut_to 0 (ranges_of LogAddrs ids) end) (is_cut_to 0 (ranges_of LogTopics ids) end) (is_cut_to 0 (ranges_of TracesFrom ids) end) (is_cut_to 0 (ranges_of TracesTo ids) end) h).three
  each h LogAddrs = (seven_of (is_cut_to 0 (ranges_of Accounts ids) end) (is_cut_to 0 (ranges_of Storage ids) end) (is_cut_to 0 (ranges_of Code ids) end) (is_cut_to 0 (ranges_of LogAddrs ids) end) (is_cut_to 0 (ranges_of LogTopics ids) end) (is_cut_to 0 (ranges_of TracesFrom ids) end) (is_cut_to 0 (ranges_of TracesTo ids) end) h).four
  each h LogTopics = (seven_of (is_cut_to 0 (ranges_of Accounts ids) end) (is_cut_to 0 (ranges_of Storage ids) end) (is_cut_to 0 (ranges_of Code ids) end) (is_cut_to 0 (ranges_of LogAddrs ids) end) (is_cut_to 0 (ranges_of LogTopics ids) end) (is_cut_to 0 (ranges_of TracesFrom ids) end) (is_cut_to 0 (ranges_of TracesTo ids) end) h).five
  each h TracesFrom = (seven_of (is_cut_to 0 (ranges_of Accounts ids) end) (is_cut_to 0 (ranges_of Storage ids) end) (is_cut_to 0 (ranges_of Code ids) end) (is_cut_to 0 (ranges_of LogAddrs ids) end) (is_cut_to 0 (ranges_of LogTopics ids) end) (is_cut_to 0 (ranges_of TracesFrom ids) end) (is_cut_to 0 (ranges_of TracesTo ids) end) h).six
  each h TracesTo = (seven_of (is_cut_to 0 (ranges_of Accounts ids) end) (is_cut_to 0 (ranges_of Storage ids) end) (is_cut_to 0 (ranges_of Code ids) end) (is_cut_to 0 (ranges_of LogAddrs ids) end) (is_cut_to 0 (ranges_of LogTopics ids) end) (is_cut_to 0 (ranges_of TracesFrom ids) end) (is_cut_to 0 (ranges_of TracesTo ids) end) h).seven

  pub tested : are_cuts ids end ≡ true → AreCuts ids end
  tested h = record {
    cut = λ e. (to_cut 0 (ranges_of e ids) end (each h e)).0;
    ends = λ e. (to_cut 0 (ranges_of e ids) end (each h e)).1;
  }

  one : AreCuts ids end → (e : Entity) → is_cut_to 0 (ranges_of e ids) end ≡ true
  one h e = from_cut 0 (ranges_of e ids) end (h.cut e) (h.ends e)

  pub passes : AreCuts ids end → are_cuts ids end ≡ true
  passes h =
      both (is_cut_to 0 (ranges_of Accounts ids) end && is_cut_to 0 (ranges_of Storage ids) end && is_cut_to 0 (ranges_of Code ids) end && is_cut_to 0 (ranges_of LogAddrs ids) end && is_cut_to 0 (ranges_of LogTopics ids) end && is_cut_to 0 (ranges_of TracesFrom ids) end) (is_cut_to 0 (ranges_of TracesTo ids) end)
      (both (is_cut_to 0 (ranges_of Accounts ids) end && is_cut_to 0 (ranges_of Storage ids) end && is_cut_to 0 (ranges_of Code ids) end && is_cut_to 0 (ranges_of LogAddrs ids) end && is_cut_to 0 (ranges_of LogTopics ids) end) (is_cut_to 0 (ranges_of TracesFrom ids) end)
      (both (is_cut_to 0 (ranges_of Accounts ids) end && is_cut_to 0 (ranges_of Storage ids) end && is_cut_to 0 (ranges_of Code ids) end && is_cut_to 0 (ranges_of LogAddrs ids) end) (is_cut_to 0 (ranges_of LogTopics ids) end)
      (both (is_cut_to 0 (ranges_of Accounts ids) end && is_cut_to 0 (ranges_of Storage ids) end && is_cut_to 0 (ranges_of Code ids) end) (is_cut_to 0 (ranges_of LogAddrs ids) end)
      (both (is_cut_to 0 (ranges_of Accounts ids) end && is_cut_to 0 (ranges_of Storage ids) end) (is_cut_to 0 (ranges_of Code ids) end) (both (is_cut_to 0 (ranges_of Accounts ids) end) (is_cut_to 0 (ranges_of Storage ids) end) (one h Accounts) (one h Storage)) (one h Code)) (one h LogAddrs)) (one h LogTopics)) (one h TracesFrom)) (one h TracesTo)

-- the test as a call answers it

pub tested-at : (seen ids whole : List GroupId) (end : ℕ) (r : Bool) → r ≡ are_cuts seen end → seen ≡ ids → ids ≡ whole → r ≡ true → AreCuts whole end
tested-at seen ids whole end r is same made h = subst (λ (l : List GroupId). AreCuts l end) (same ∙ made) (tested seen end (sym is ∙ h))

pub passes-at : (seen ids whole : List GroupId) (end : ℕ) (r : Bool) → r ≡ are_cuts seen end → seen ≡ ids → ids ≡ whole → AreCuts whole end → r ≡ true
passes-at seen ids whole end r is same made h = is ∙ ap (λ (l : List GroupId). are_cuts l end) (same ∙ made) ∙ passes whole end h
