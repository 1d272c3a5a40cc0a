-- The names over ascending ranges ascend.
use Rattle.std.specs.Prelude.{◌≡◌, ◌≢◌, ℕ, suc, ◌+◌, ◌≤◌, ◌<◌, List, [], ◌∷◌, ◌++◌, filter, map, All, AllPairs, Bool}
use Rattle.std.proofs.Common.{sym, ◌∙◌, ap, arith}
use Rattle.std.specs.Cmp.{nat_cmp_is, nat_cmp_total, tied_itself}
use Rattle.std.specs.Ordering.{nat_cmp, ordering_then}
use Rattle.std.specs.declared.cmp.Ordering.TheVariants.{Less, Equal}
use Rattle.std.proofs.lemmas.List.Elements.{All-cons, All-head, All-tail, All-nil, All-append, All-map}
use Rattle.std.proofs.lemmas.List.Kept.{AllPairs-cons, AllPairs-filter}
use Rattle.agg_model.specs.Entity.{entity_number}
use Rattle.agg_model.specs.declared.entity.Entity.{Entity}
use Rattle.agg_model.specs.declared.entity.Range.{Range}
use Rattle.agg_model.specs.declared.entity.FileKind.{FileKind}
use Rattle.merge_ranges.specs.declared.name.FileName.{FileName}
use Rattle.merge_ranges.specs.Kind.{kind_number}
use Rattle.merge_ranges.specs.Name.{has_kind}
use Rattle.merge_ranges.specs.Cut.{IsCutFrom, IsCut}
use Rattle.merge_ranges.specs.CanonicalNames.{name_cmp, NamesAscend, RangesAscend, entities, kinds, group_names, entity_names, names_of, names_over}
use Rattle.merge_ranges.proofs.CutLaws.{aligned_from}

-- ---- lists of which each item stands in a relation to all later ones

module _ {X : Type 0} (R : X → X → Type 0) where
  pub pairs_none : AllPairs R []
  pairs_none = λ i j d below at. absurd (omega arith)

  pub pairs_head : (x : X) (xs : List X) → AllPairs R (x ∷ xs) → All (R x) xs
  pairs_head x xs h = λ k d below. h 0 (suc k) d (omega arith) (omega arith)

  pub pairs_tail : (x : X) (xs : List X) → AllPairs R (x ∷ xs) → AllPairs R xs
  pairs_tail x xs h = λ i j d below at. h (suc i) (suc j) d (omega arith) (omega arith)

  pub pairs_append : (xs ys : List X) → AllPairs R xs → AllPairs R ys → All (λ x. All (R x) ys) xs → AllPairs R (xs ++ ys)
  pairs_append [] ys first second apart = second
  pairs_append (x ∷ xs) ys first second apart =
      AllPairs-cons R x (xs ++ ys)
      (All-append (R x) xs ys (pairs_head x xs first) (All-head (λ x. All (R x) ys) x xs apart))
      (pairs_append xs ys (pairs_tail x xs first) second (All-tail (λ x. All (R x) ys) x xs apart))

  pub pairs_map : {Y : Type 0} (f : Y → X) (ys : List Y) → AllPairs (λ a b. R (f a) (f b)) ys → AllPairs R (map f ys)
  pairs_map f [] h = pairs_none
  pairs_map {Y} f (y ∷ ys) h =
      let S = λ (a b : Y). R (f a) (f b) in
      AllPairs-cons R (f y) (map f ys)
      (All-map (R (f y)) f ys (λ k d below. h 0 (suc k) d (omega arith) (omega arith)))
      (pairs_map f ys (λ i j d below at. h (suc i) (suc j) d (omega arith) (omega arith)))

module _ {X : Type 0} (f : X → ℕ) where
  -- the first number is `least` or above, and each later one above the one before
  abbrev Rises : ℕ → List X → Type 0
  Rises least [] = Unit {0}
  Rises least (x ∷ xs) = (least ≤ f x) × Rises (f x + 1) xs

  rises_above : (least : ℕ) (xs : List X) → Rises least xs → All (λ x. least ≤ f x) xs
  rises_above least [] h = All-nil (λ (x : X). least ≤ f x)
  rises_above least (x ∷ xs) h =
      All-cons (λ x. least ≤ f x) x xs h.0 (λ k d below. lower h.0 (rises_above (f x + 1) xs h.1 k d below))
    where
      lower : {a b c : ℕ} → a ≤ b → b + 1 ≤ c → a ≤ c
      lower h g = omega arith

  pub rises_pairs : (least : ℕ) (xs : List X) → Rises least xs → AllPairs (λ x y. f x < f y) xs
  rises_pairs least [] h = pairs_none (λ (x y : X). f x < f y)
  rises_pairs least (x ∷ xs) h =
      AllPairs-cons (λ x y. f x < f y) x xs
      (λ k d below. above (rises_above (f x + 1) xs h.1 k d below))
      (rises_pairs (f x + 1) xs h.1)
    where
      above : {b c : ℕ} → b + 1 ≤ c → b < c
      above h = omega arith

kinds_rise : AllPairs (λ k l. kind_number k < kind_number l) kinds
unfolding kind_number
kinds_rise =
    rises_pairs kind_number 0 kinds
    (omega arith, (omega arith, (omega arith, (omega arith, (omega arith, (omega arith, (omega arith, tt)))))))

entities_rise : AllPairs (λ e f. entity_number e < entity_number f) entities
unfolding entity_number
entities_rise =
    rises_pairs entity_number 0 entities
    (omega arith, (omega arith, (omega arith, (omega arith, (omega arith, (omega arith, (omega arith, tt)))))))

-- ---- the order of two names

lower_first : (a b : ℕ) → a < b → nat_cmp a b ≡ Less
lower_first a b h = sym (nat_cmp_is a b Less h)

abbrev Precedes : FileName → FileName → Type 0
Precedes n o = name_cmp n o ≡ Less

abbrev name_in : Entity → Range → FileKind → FileName
name_in e r k = record { entity = e; range = r; kind = k }

by_kind : (e : Entity) (r : Range) (k l : FileKind) → kind_number k < kind_number l → Precedes (name_in e r k) (name_in e r l)
unfolding name_cmp
by_kind e r k l h =
    λ i. ordering_then (tied_itself nat_cmp_total (entity_number e) i)
    (ordering_then (tied_itself nat_cmp_total r.from i) (lower_first (kind_number k) (kind_number l) h i))

by_range : (e : Entity) (r q : Range) (k l : FileKind) → r.from < q.from → Precedes (name_in e r k) (name_in e q l)
unfolding name_cmp
by_range e r q k l h =
    λ i. ordering_then (tied_itself nat_cmp_total (entity_number e) i)
    (ordering_then (lower_first r.from q.from h i) (nat_cmp (kind_number k) (kind_number l)))

by_entity : (e f : Entity) (r q : Range) (k l : FileKind) → entity_number e < entity_number f → Precedes (name_in e r k) (name_in f q l)
unfolding name_cmp
by_entity e f r q k l h =
    λ i. ordering_then (lower_first (entity_number e) (entity_number f) h i)
    (ordering_then (nat_cmp r.from q.from) (nat_cmp (kind_number k) (kind_number l)))

not_itself : (n : FileName) → name_cmp n n ≢ Less
unfolding name_cmp
not_itself n h =
    let same : name_cmp n n ≡ Equal =
    λ i. ordering_then (tied_itself nat_cmp_total (entity_number n.entity) i)
    (ordering_then (tied_itself nat_cmp_total n.range.from i) (tied_itself nat_cmp_total (kind_number n.kind) i)) in
    cc

-- ---- the names of an entity

group_names-All : (P : FileName → Type 0) (e : Entity) (r : Range) → ((k : FileKind) → P (name_in e r k)) → All P (group_names e r)
group_names-All P e r all = All-map P (name_in e r) (filter (has_kind e) kinds) (λ i d below. all _)

group_names-ascend : (e : Entity) (r : Range) → NamesAscend (group_names e r)
group_names-ascend e r =
    let rise = AllPairs-filter (λ k l. kind_number k < kind_number l) (has_kind e) kinds kinds_rise in
    pairs_map Precedes (name_in e r) (filter (has_kind e) kinds) (λ i j d below at. by_kind e r _ _ (rise i j d below at))

entity_names-All : (P : FileName → Type 0) (e : Entity) (rs : List Range) → All (λ r. (k : FileKind) → P (name_in e r k)) rs → All P (entity_names e rs)
entity_names-All P e [] all = All-nil P
entity_names-All P e (r ∷ rs) all =
    let Q = λ (r : Range). (k : FileKind) → P (name_in e r k) in
    All-append P (group_names e r) (entity_names e rs)
    (group_names-All P e r (All-head Q r rs all))
    (entity_names-All P e rs (All-tail Q r rs all))

pub entity_names-ascend : (e : Entity) (rs : List Range) → RangesAscend rs → NamesAscend (entity_names e rs)
entity_names-ascend e [] up = pairs_none Precedes
entity_names-ascend e (r ∷ rs) up =
    let R = λ (r q : Range). r.from < q.from in
    pairs_append Precedes (group_names e r) (entity_names e rs)
    (group_names-ascend e r)
    (entity_names-ascend e rs (pairs_tail R r rs up))
    (group_names-All (λ n. All (Precedes n) (entity_names e rs)) e r
    (λ k. entity_names-All (Precedes (name_in e r k)) e rs (λ i d below l. by_range e r _ k l (pairs_head R r rs up i d below))))

-- ---- the names of all entities

names_of-All : (P : FileName → Type 0) (es : List Entity) (rs : List Range) → All (λ e. (r : Range) (k : FileKind) → P (name_in e r k)) es → All P (names_of es rs)
names_of-All P [] rs all = All-nil P
names_of-All P (e ∷ es) rs all =
    let Q = λ (e : Entity). (r : Range) (k : FileKind) → P (name_in e r k) in
    All-append P (entity_names e rs) (names_of es rs)
    (entity_names-All P e rs (λ i d below. All-head Q e es all _))
    (names_of-All P es rs (All-tail Q e es all))

names_of-ascend : (es : List Entity) (rs : List Range) → AllPairs (λ e f. entity_number e < entity_number f) es → RangesAscend rs → NamesAscend (names_of es rs)
names_of-ascend [] rs rise up = pairs_none Precedes
names_of-ascend (e ∷ es) rs rise up =
    let R = λ (e f : Entity). entity_number e < entity_number f in
    pairs_append Precedes (entity_names e rs) (names_of es rs)
    (entity_names-ascend e rs up)
    (names_of-ascend es rs (pairs_tail R e es rise) up)
    (entity_names-All (λ n. All (Precedes n) (names_of es rs)) e rs
    (λ i d below k. names_of-All (Precedes (name_in e _ k)) es rs (λ j f at q l. by_entity e _ _ q k l (pairs_head R e es rise j f at))))

pub names_over-ascend : (rs : List Range) → RangesAscend rs → NamesAscend (names_over rs)
names_over-ascend rs up = names_of-ascend entities rs entities_rise up

-- what is kept of ascending names ascends
pub filter-ascend : (p : FileName → Bool) (ns : List FileName) → NamesAscend ns → NamesAscend (filter p ns)
filter-ascend p ns up = AllPairs-filter Precedes p ns up

-- no name stands twice among ascending ones
pub ascend-distinct : (ns : List FileName) → NamesAscend ns → AllPairs (λ n o. n ≢ o) ns
ascend-distinct ns up = λ i j d below at same. apart _ _ same (up i j d below at)
  where
    apart : (n o : FileName) → n ≡ o → Precedes n o → ⊥
    apart n o same h = not_itself o (sym (ap (λ m. name_cmp m o) same) ∙ h)

-- ---- the ranges of a cut

cut_above : (a : ℕ) (cut : List Range) → IsCutFrom a cut → All (λ r. a ≤ r.from) cut
cut_above a [] h = All-nil (λ (r : Range). a ≤ r.from)
cut_above a (r ∷ rs) h =
    let some = (aligned_from r h.1).some in
    let starts : r.from ≡ a = h.0 in
    All-cons (λ q. a ≤ q.from) r rs (omega arith) (λ k d below. let above = cut_above r.to rs h.2 k d below in omega (arith, above))

cut_from-ascend : (a : ℕ) (cut : List Range) → IsCutFrom a cut → RangesAscend cut
cut_from-ascend a [] h = pairs_none (λ (r q : Range). r.from < q.from)
cut_from-ascend a (r ∷ rs) h =
    let some = (aligned_from r h.1).some in
    AllPairs-cons (λ r q. r.from < q.from) r rs
    (λ k d below. let above = cut_above r.to rs h.2 k d below in omega (arith, above))
    (cut_from-ascend r.to rs h.2)

pub cut-ascend : (cut : List Range) → IsCut cut → RangesAscend cut
cut-ascend cut h = cut_from-ascend 0 cut h
