-- The groups below a step tell the values before it, and the changes of a step stand by entity.
use Rattle.std.specs.Prelude.{◌≡◌, ℕ, suc, ◌+◌, ◌*◌, ◌==◌, ◌≤◌, ◌<◌, ◌&&◌, nat_le, nat_lt, Bool, true, false, cond, List, [], ◌∷◌, map, drop, All, Some, None, refl, unwrap_or}
use Rattle.std.proofs.Common.{sym, ◌∙◌, ap, arith, subst, leb-true, eqb-true, le-leb, ltb-true}
use Rattle.std.specs.Option.{option_map}
use Rattle.std.specs.List.{filter}
use Rattle.std.proofs.lemmas.List.Elements.{All-filter, filter_passes}
use Rattle.agg_model.specs.declared.entity.Entity.{Entity}
use Rattle.agg_model.specs.declared.entity.Entity.TheVariants.{Accounts, Storage, Code, LogAddrs, LogTopics, TracesFrom, TracesTo}
use Rattle.agg_model.specs.declared.entity.Range.{Range}
use Rattle.agg_model.specs.declared.change.Change.{Change}
use Rattle.agg_model.specs.Entity.{entity_number}
use Rattle.agg_model.specs.Place.{place_of, is_before}
use Rattle.agg_model.specs.Arranged.{arranged}
use Rattle.agg_model.specs.ChangeList.{ChangeList, IsChangeList, value_at}
use Rattle.agg_model.specs.Contents.{is_within, changes_over, v_contents, kv_contents}
use Rattle.agg_model.specs.Pairs.{held_value, newest_word}
use Rattle.agg_model.proofs.ArrangedLaws.{IsInOrder, arranged-IsInOrder}
use Rattle.agg_model.proofs.ContentsLaws.{filter-arranged}
use Rattle.content_laws.specs.Parts.{kv_files}
use Rattle.content_laws.specs.Steps.{befores_behind}
use Rattle.content_laws.proofs.PairParts.{value-parts}
use Rattle.content_laws.proofs.StepBefores.{v-behind}
use Rattle.domain_core.specs.KvFile.{TaggedPairs}
use Rattle.collate_step.specs.Runs.{is_numbered, is_behind, is_from}
use Rattle.collate_step.specs.Groups.{GroupFiles, kv_of, group_of, pairs_of, value_in_groups, AreGroupsBelow, is_in_step, step_changes, entities, IsDomain}

-- ---- values

pairs-group : (list : ChangeList) (e : Entity) (r : Range) → IsDomain e → pairs_of (group_of list e r) ≡ kv_contents list.size list.changes e r.from r.to
pairs-group list e r domain =
    ap (λ t. unwrap_or (option_map (λ (f : TaggedPairs). f.pairs) (cond t (Some (kv_of list e r)) None)) []) domain

pairs-groups : (list : ChangeList) (e : Entity) (rs : List Range) → IsDomain e → map pairs_of (map (group_of list e) rs) ≡ kv_files list.size list.changes e rs
pairs-groups list e [] domain = refl
pairs-groups list e (r ∷ rs) domain = λ i. pairs-group list e r domain i ∷ pairs-groups list e rs domain i

value-below : (list : ChangeList) (e : Entity) (step : ℕ) (groups : List GroupFiles) → IsChangeList list → IsDomain e → AreGroupsBelow list step groups
    → (k : List ℕ) → value_in_groups e groups k ≡ value_at list.changes e k (step * list.size)
value-below list e step groups valid domain below k =
    let mine = below e in
    ap (λ fs. held_value (newest_word fs k)) (ap (map pairs_of) mine.1.1 ∙ pairs-groups list e mine.0 domain)
    ∙ sym (value-parts list.size list.changes e k valid.ascend valid.fit step mine.0 mine.1.0)

pub befores-step : (list : ChangeList) (e : Entity) (step : ℕ) (groups : List GroupFiles) → IsChangeList list → IsDomain e → AreGroupsBelow list step groups
    → befores_behind (value_in_groups e groups) None (changes_over list.size list.changes e step (step + 1)) ≡ v_contents list.size list.changes e step (step + 1)
befores-step list e step groups valid domain below =
    (λ i. befores_behind (λ k. value-below list e step groups valid domain below k i) None (changes_over list.size list.changes e step (step + 1)))
    ∙ sym (v-behind list.size list.changes e step (step + 1) valid.ascend valid.no_repeats)

-- ---- entities

filter-order-by : (p : Change → Bool) (c : Change) (cs : List Change) (t : Bool) → IsInOrder (c ∷ cs) → IsInOrder (filter p cs) → IsInOrder (cond t (c ∷ filter p cs) (filter p cs))
filter-order-by p c cs true order rest = (All-filter p (λ x. is_before (place_of x) (place_of c) ≡ false) cs order.0, rest)
filter-order-by p c cs false order rest = rest

pub filter-order : (p : Change → Bool) (cs : List Change) → IsInOrder cs → IsInOrder (filter p cs)
filter-order p [] order = tt
filter-order p (c ∷ cs) order = filter-order-by p c cs (p c) order (filter-order p cs order.1)

filter-both-by : (p q : Change → Bool) (c : Change) (found : List Change) (t : Bool) → filter q (cond t (c ∷ found) found) ≡ cond (t && q c) (c ∷ filter q found) (filter q found)
filter-both-by p q c found true = refl
filter-both-by p q c found false = refl

-- what passes one test and then another
filter-both : (p q r : Change → Bool) → ((c : Change) → (p c && q c) ≡ r c) → (cs : List Change) → filter q (filter p cs) ≡ filter r cs
filter-both p q r same [] = refl
filter-both p q r same (c ∷ cs) =
    filter-both-by p q c (filter p cs) (p c)
    ∙ (λ i. cond (same c i) (c ∷ filter-both p q r same cs i) (filter-both p q r same cs i))

module _ (n : ℕ) where
  one-by : (m : ℕ) (t : Bool) → (m == n) ≡ t → (nat_le n m && t) ≡ t
  one-by m true is = ap (λ t. t && true) (le-leb n m (omega (arith, eqb-true m n is)))
  one-by m false is = and_false (nat_le n m)
    where
      and_false : (t : Bool) → (t && false) ≡ false
      and_false true = refl
      and_false false = refl

  behind-by : (m : ℕ) (t : Bool) → nat_lt n m ≡ t → (nat_le n m && t) ≡ t
  behind-by m true is = ap (λ t. t && true) (le-leb n m (omega (arith, ltb-true n m is)))
  behind-by m false is = and_false (nat_le n m)
    where
      and_false : (t : Bool) → (t && false) ≡ false
      and_false true = refl
      and_false false = refl

  pub run-is : (cs : List Change) → filter (is_numbered n) (filter (is_from n) cs) ≡ filter (is_numbered n) cs
  run-is cs =
      filter-both (is_from n) (is_numbered n) (is_numbered n) (λ c. one-by (entity_number c.entity) (entity_number c.entity == n) refl) cs

  pub rest-is : (cs : List Change) → filter (is_behind n) (filter (is_from n) cs) ≡ filter (is_from (n + 1)) cs
  rest-is cs =
      filter-both (is_from n) (is_behind n) (is_behind n) (λ c. behind-by (entity_number c.entity) (nat_lt n (entity_number c.entity)) refl) cs
      ∙ ap (λ (p : Change → Bool). filter p cs) (λ i c. next (entity_number c.entity) i)
    where
      next : (m : ℕ) → nat_lt n m ≡ nat_le (n + 1) m
      next m = let one : suc n ≡ n + 1 = omega arith in ap (λ x. nat_le x m) one

  pub from-All : (cs : List Change) → All (λ c. n ≤ entity_number c.entity) (filter (is_from n) cs)
  from-All cs = λ i z below. leb-true n _ (filter_passes (is_from n) cs i z below)

-- the changes of a step that are of an entity
swapped : (t u : Bool) → (t && u) ≡ (u && t)
swapped true true = refl
swapped true false = refl
swapped false true = refl
swapped false false = refl

pub changes-of : (list : ChangeList) (e : Entity) (step : ℕ) → filter (is_numbered (entity_number e)) (step_changes list step) ≡ changes_over list.size list.changes e step (step + 1)
unfolding changes_over is_within
changes-of list e step =
    filter-arranged (is_numbered (entity_number e)) (filter (is_in_step list.size step) list.changes)
    ∙ ap arranged (filter-both (is_in_step list.size step) (is_numbered (entity_number e)) (is_within e (step * list.size) ((step + 1) * list.size)) (λ c. swapped (is_in_step list.size step c) (is_numbered (entity_number e) c)) list.changes)

pub from-zero : (cs : List Change) → filter (is_from 0) cs ≡ cs
from-zero [] = refl
from-zero (c ∷ cs) =
    λ i. cond (le-leb 0 (entity_number c.entity) (omega arith) i) (c ∷ from-zero cs i) (from-zero cs i)

-- the entities from one on begin with it
pub entities-from : (e : Entity) → drop (entity_number e) entities ≡ e ∷ drop (entity_number e + 1) entities
unfolding entity_number
entities-from Accounts = refl
entities-from Storage = refl
entities-from Code = refl
entities-from LogAddrs = refl
entities-from LogTopics = refl
entities-from TracesFrom = refl
entities-from TracesTo = refl

-- none has a number above that of the last
pub none-behind : (e : Entity) → 7 ≤ entity_number e + 1 → drop (entity_number e + 1) entities ≡ []
unfolding entity_number
none-behind Accounts h = absurd (omega (arith, h))
none-behind Storage h = absurd (omega (arith, h))
none-behind Code h = absurd (omega (arith, h))
none-behind LogAddrs h = absurd (omega (arith, h))
none-behind LogTopics h = absurd (omega (arith, h))
none-behind TracesFrom h = absurd (omega (arith, h))
none-behind TracesTo h = refl

pub number-low : (e : Entity) → entity_number e < 7
unfolding entity_number
number-low Accounts = omega arith
number-low Storage = omega arith
number-low Code = omega arith
number-low LogAddrs = omega arith
number-low LogTopics = omega arith
number-low TracesFrom = omega arith
number-low TracesTo = omega arith

-- the first group from an entity on, and the others
pub groups-from : (f : Entity → GroupFiles) (e : Entity) → f e ∷ map f (drop (entity_number e + 1) entities) ≡ map f (drop (entity_number e) entities)
groups-from f e = sym (ap (map f) (entities-from e))

-- all changes and all groups are those from the accounts on
pub from-accounts : (cs : List Change) → cs ≡ filter (is_from (entity_number Accounts)) cs
unfolding entity_number
from-accounts cs = sym (from-zero cs)

pub groups-all : (f : Entity → GroupFiles) → map f (drop (entity_number Accounts) entities) ≡ map f entities
unfolding entity_number
groups-all f = refl

-- the changes of an entity in a step and those behind them are what a split at its run gives
pub record AreRuns (list : ChangeList) (step : ℕ) (e : Entity) (mine behind : List Change) : Type 0 where
  pub run : mine ≡ changes_over list.size list.changes e step (step + 1)
  pub others : behind ≡ filter (is_from (entity_number e + 1)) (step_changes list step)

pub runs-of : (list : ChangeList) (step : ℕ) (e : Entity) (rest run others : List Change)
    → rest ≡ filter (is_from (entity_number e)) (step_changes list step)
    → (IsInOrder rest → All (λ c. entity_number e ≤ entity_number c.entity) rest → run ≡ filter (is_numbered (entity_number e)) rest)
    → (IsInOrder rest → All (λ c. entity_number e ≤ entity_number c.entity) rest → others ≡ filter (is_behind (entity_number e)) rest)
    → AreRuns list step e run others
runs-of list step e rest run others from is_run is_rest =
    let all = step_changes list step in
    let n = entity_number e in
    let order = subst IsInOrder (sym from) (filter-order (is_from n) all (arranged-IsInOrder (filter (is_in_step list.size step) list.changes))) in
    let low = subst (All (λ (c : Change). n ≤ entity_number c.entity)) (sym from) (from-All n all) in
    record {
      run = is_run order low ∙ ap (filter (is_numbered n)) from ∙ run-is n all ∙ changes-of list e step;
      others = is_rest order low ∙ ap (filter (is_behind n)) from ∙ rest-is n all;
    }
