-- Laws of the names of the files over the first steps.
use Rattle.std.proofs.Common.{◌≡◌, ℕ, zero, suc, ◌+◌, ◌-◌, ◌*◌, ◌/◌, ◌%◌, ◌<◌, ◌≤◌, Bool, true, false, cond, ◌==◌, ◌&&◌, ◌||◌, nat_le, nat_eq, List, [], ◌∷◌, ◌++◌, filter, All, Contains, refl, ap, subst, sym, ◌∙◌, arith}
use Rattle.std.specs.Prelude.{map}
use Rattle.std.proofs.Math.Nat.{mod-one}
use Rattle.std.proofs.Common.{eqb-true, eq-eqb}
use Rattle.std.proofs.lemmas.Bool.{le-leb, eqb-false}
use Rattle.std.proofs.lemmas.List.Elements.{All-nil, All-cons, All-head, All-tail, All-append, All-push, All-weaker, All-contains, Contains-get_or, Contains-push, Contains-append_left, Contains-append_right}
use Rattle.std.proofs.lemmas.Nat.{div-add-mod', div_below, mul-le}
use Rattle.agg_model.specs.declared.entity.Entity.{Entity}
use Rattle.agg_model.specs.declared.entity.Entity.TheVariants.{Accounts, Storage, Code, LogAddrs, LogTopics, TracesFrom, TracesTo}
use Rattle.agg_model.specs.declared.entity.Range.{Range}
use Rattle.agg_model.specs.declared.entity.FileKind.{FileKind}
use Rattle.agg_model.specs.declared.entity.FileKind.TheVariants.{Kv, Bt, Kvi, V, Vi, Ef, Efi}
use Rattle.agg_model.specs.Entity.{is_domain_entity}
use Rattle.agg_model.specs.ChangeList.{ChangeList, IsChangeList}
use Rattle.merge_ranges.specs.declared.name.FileName.{FileName}
use Rattle.merge_ranges.specs.Cut.{is_size, is_aligned}
use Rattle.merge_ranges.specs.Kind.{is_index_kind}
use Rattle.merge_ranges.specs.Name.{has_kind, is_name}
use Rattle.merge_ranges.specs.CanonicalNames.{kinds, entities, group_names, entity_names, names_of}
use Rattle.agg_core.specs.Names.{complete_steps, single_step, single_steps, written_over}
use Rattle.agg_core.specs.Files.{MayStand}

-- ---- the first steps

All-steps : (P : Range → Type 0) (n : ℕ) → ((step : ℕ) → step < n → P (single_step step)) → All P (single_steps n)
All-steps P zero each = All-nil P
All-steps P (suc n) each =
    All-push P (single_steps n) (single_step n) (All-steps P n (λ step below. each step (omega (arith, below)))) (each n (omega arith))

has-by : (n step : ℕ) (t : Bool) → nat_eq step n ≡ t → (step < n → Contains (single_steps n) (single_step step)) → step < suc n → Contains (single_steps (suc n)) (single_step step)
has-by n step true e before below =
    subst (λ m. Contains (single_steps (suc n)) (single_step m)) (sym (eqb-true step n e)) (Contains-push (single_steps n) (single_step n))
has-by n step false e before below =
    Contains-append_left (single_steps n) (single_step n ∷ []) (single_step step) (before (omega (arith, below, eqb-false step n e)))

steps_has : (n step : ℕ) → step < n → Contains (single_steps n) (single_step step)
steps_has zero step below = absurd (omega (arith, below))
steps_has (suc n) step below = has-by n step (nat_eq step n) refl (steps_has n step) below

-- ---- what holds of each name over some ranges, and the other way round

abbrev pub named : Entity → FileKind → Range → FileName
named e k r = record { entity = e; range = r; kind = k }

module _ (P : FileName → Type 0) where
  group_all-by : (e : Entity) (r : Range) (k : FileKind) (ks : List FileKind) (t : Bool) → has_kind e k ≡ t → ((l : FileKind) → has_kind e l ≡ true → P (named e l r)) → All P (map (λ l. named e l r) (filter (has_kind e) ks)) → All P (map (λ l. named e l r) (cond t (k ∷ filter (has_kind e) ks) (filter (has_kind e) ks)))
  group_all-by e r k ks true is each rest = All-cons P (named e k r) (map (λ l. named e l r) (filter (has_kind e) ks)) (each k is) rest
  group_all-by e r k ks false is each rest = rest

  group_all : (e : Entity) (r : Range) (ks : List FileKind) → ((l : FileKind) → has_kind e l ≡ true → P (named e l r)) → All P (map (λ l. named e l r) (filter (has_kind e) ks))
  group_all e r [] each = All-nil P
  group_all e r (k ∷ ks) each = group_all-by e r k ks (has_kind e k) refl each (group_all e r ks each)

  over_all : (e : Entity) (rs : List Range) → All (λ r. (k : FileKind) → has_kind e k ≡ true → P (named e k r)) rs → All P (entity_names e rs)
  over_all e [] each = All-nil P
  over_all e (r ∷ rs) each =
      All-append P (group_names e r) (entity_names e rs) (group_all e r kinds (All-head (λ q. (k : FileKind) → has_kind e k ≡ true → P (named e k q)) r rs each)) (over_all e rs (All-tail (λ q. (k : FileKind) → has_kind e k ≡ true → P (named e k q)) r rs each))

  all_of : (es : List Entity) (rs : List Range) → ((e : Entity) → All (λ r. (k : FileKind) → has_kind e k ≡ true → P (named e k r)) rs) → All P (names_of es rs)
  all_of [] rs each = All-nil P
  all_of (e ∷ es) rs each = All-append P (entity_names e rs) (names_of es rs) (over_all e rs (each e)) (all_of es rs each)

  pub All-written : (n : ℕ) → ((e : Entity) (k : FileKind) (step : ℕ) → has_kind e k ≡ true → step < n → P (named e k (single_step step))) → All P (written_over (single_steps n))
  All-written n each =
      all_of entities (single_steps n) (λ e. All-steps (λ r. (k : FileKind) → has_kind e k ≡ true → P (named e k r)) n (λ step below k has. each e k step has below))

abbrev seven : Entity → Range → List FileName
seven e r = map (λ k. named e k r) kinds

abbrev two : Entity → Range → List FileName
two e r = named e Ef r ∷ named e Efi r ∷ []

seven_has : (e : Entity) (k : FileKind) (r : Range) → Contains (seven e r) (named e k r)
seven_has e Kv r = Contains-get_or (seven e r) 0 (named e Kv r) (omega arith)
seven_has e Bt r = Contains-get_or (seven e r) 1 (named e Bt r) (omega arith)
seven_has e Kvi r = Contains-get_or (seven e r) 2 (named e Kvi r) (omega arith)
seven_has e V r = Contains-get_or (seven e r) 3 (named e V r) (omega arith)
seven_has e Vi r = Contains-get_or (seven e r) 4 (named e Vi r) (omega arith)
seven_has e Ef r = Contains-get_or (seven e r) 5 (named e Ef r) (omega arith)
seven_has e Efi r = Contains-get_or (seven e r) 6 (named e Efi r) (omega arith)

two_has : (e : Entity) (k : FileKind) (r : Range) → is_index_kind k ≡ true → Contains (two e r) (named e k r)
unfolding is_index_kind
two_has e Kv r has = cc has
two_has e Bt r has = cc has
two_has e Kvi r has = cc has
two_has e V r has = cc has
two_has e Vi r has = cc has
two_has e Ef r has = Contains-get_or (two e r) 0 (named e Ef r) (omega arith)
two_has e Efi r has = Contains-get_or (two e r) 1 (named e Efi r) (omega arith)

group_has-by : (e : Entity) (k : FileKind) (r : Range) (t : Bool) → (t || is_index_kind k) ≡ true → Contains (map (λ l. named e l r) (filter (λ l. t || is_index_kind l) kinds)) (named e k r)
unfolding is_index_kind
group_has-by e k r true has = seven_has e k r
group_has-by e k r false has = two_has e k r has

group_has : (e : Entity) (k : FileKind) (r : Range) → has_kind e k ≡ true → Contains (group_names e r) (named e k r)
unfolding has_kind
group_has e k r has = group_has-by e k r (is_domain_entity e) has

module _ (e : Entity) (k : FileKind) (has : has_kind e k ≡ true) where
  entity_has : (rs : List Range) → All (λ r. Contains (entity_names e rs) (named e k r)) rs
  entity_has [] = All-nil (λ r. Contains (entity_names e []) (named e k r))
  entity_has (r ∷ rs) =
      All-cons (λ q. Contains (entity_names e (r ∷ rs)) (named e k q)) r rs
      (Contains-append_left (group_names e r) (entity_names e rs) (named e k r) (group_has e k r has))
      (All-weaker (λ q. Contains (entity_names e rs) (named e k q)) (λ q. Contains (entity_names e (r ∷ rs)) (named e k q))
      (λ q. Contains-append_right (group_names e r) (entity_names e rs) (named e k q)) rs (entity_has rs))

module _ (name : FileName) (rs : List Range) where
  abbrev Within : List Entity → Entity → Type 0
  Within es e = Contains (entity_names e rs) name → Contains (names_of es rs) name

  entities_has : (es : List Entity) → All (Within es) es
  entities_has [] = All-nil (Within [])
  entities_has (e ∷ es) =
      All-cons (Within (e ∷ es)) e es
      (Contains-append_left (entity_names e rs) (names_of es rs) name)
      (All-weaker (Within es) (Within (e ∷ es))
      (λ f within there. Contains-append_right (entity_names e rs) (names_of es rs) name (within there)) es (entities_has es))

entity_there : (e : Entity) → Contains entities e
entity_there Accounts = Contains-get_or entities 0 Accounts (omega arith)
entity_there Storage = Contains-get_or entities 1 Storage (omega arith)
entity_there Code = Contains-get_or entities 2 Code (omega arith)
entity_there LogAddrs = Contains-get_or entities 3 LogAddrs (omega arith)
entity_there LogTopics = Contains-get_or entities 4 LogTopics (omega arith)
entity_there TracesFrom = Contains-get_or entities 5 TracesFrom (omega arith)
entity_there TracesTo = Contains-get_or entities 6 TracesTo (omega arith)

pub written-has : (n : ℕ) (e : Entity) (k : FileKind) (step : ℕ) → has_kind e k ≡ true → step < n → Contains (written_over (single_steps n)) (named e k (single_step step))
written-has n e k step has below =
    let name = named e k (single_step step) in
    let rs = single_steps n in
    All-contains (Within name rs entities) entities e (entities_has name rs entities) (entity_there e)
    (All-contains (λ r. Contains (entity_names e rs) (named e k r)) rs (single_step step) (entity_has e k has rs) (steps_has n step below))

pub from_written : (P : FileName → Type 0) (n : ℕ) (e : Entity) (k : FileKind) (step : ℕ) → has_kind e k ≡ true → step < n → All P (written_over (single_steps n)) → P (named e k (single_step step))
from_written P n e k step has below all =
    All-contains P (written_over (single_steps n)) (named e k (single_step step)) all (written-has n e k step has below)

pub written-none : written_over [] ≡ []
written-none = refl

-- ---- each is a name of the grammar

one_step : (k : ℕ) → (k + 1) - k ≡ 1
one_step k = omega arith

is_aligned-step : (k : ℕ) → k < 4096 → is_aligned (single_step k) ≡ true
unfolding is_aligned
is_aligned-step k small =
    let P = λ (s : ℕ). (is_size s && (k % s == 0) && nat_le (k + 1) 4096) ≡ true in
    subst P (sym (one_step k)) (λ i. true && (eq-eqb (k % 1) 0 (mod-one k) i) && (le-leb (k + 1) 4096 (omega (arith, small)) i))

pub step-named : (e : Entity) (k : FileKind) (step : ℕ) → has_kind e k ≡ true → step < 4096 → is_name (named e k (single_step step)) ≡ true
unfolding is_name
step-named e k step has small = (λ i. is_aligned-step step small i && has i)

-- the first file of a step
abbrev pub the_name : ℕ → FileName
the_name n = named Accounts Kv (single_step n)

pub the-name : (k : ℕ) → k < 4096 → is_name (the_name k) ≡ true
unfolding has_kind is_domain_entity
the-name k small = step-named Accounts Kv k refl small

-- ---- each is of complete steps

complete : (next size steps k : ℕ) → steps * size ≤ next → k < steps → (k + 1) * size ≤ next
complete next size steps k all below =
    let within : (k + 1) * size ≤ steps * size = mul-le (k + 1) size steps size (omega (arith, below)) (omega arith) in
    omega (arith, within, all)

-- the name is one of the grammar and may stand
abbrev pub IsDue : ChangeList → FileName → Type 0
IsDue list name = (is_name name ≡ true) × MayStand list name

pub are_due : (list : ChangeList) (steps : ℕ) → steps ≤ 4096 → steps * list.size ≤ list.next → All (IsDue list) (written_over (single_steps steps))
are_due list steps small all =
    All-written (IsDue list) steps (λ e k step has below.
    (step-named e k step has (omega (arith, below, small)), record { built = has; complete = complete list.next list.size steps step all below }))

-- complete steps are few, and within the list
pub complete-within : (list : ChangeList) → complete_steps list * list.size ≤ list.next
complete-within list = omega (arith, div-add-mod' list.next list.size)

pub complete-small : (list : ChangeList) → IsChangeList list → complete_steps list ≤ 4096
complete-small list valid =
    let below : list.next / list.size < 4097 = div_below list.next list.size 4097 (omega (arith, valid.size_from_one)) (omega (arith, valid.next_within, valid.size_from_one)) in
    omega (arith, below)
