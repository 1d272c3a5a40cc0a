-- The order of names, and the names of all files over the canonical cut.
use Rattle.std.specs.Prelude.{◌≡◌, ℕ, ◌<◌, List, [], ◌∷◌, ◌++◌, filter, map, AllPairs}
use Rattle.std.specs.declared.cmp.Ordering.{Ordering}
use Rattle.std.specs.declared.cmp.Ordering.TheVariants.{Less}
use Rattle.std.specs.Ordering.{nat_cmp, ordering_then}
use Rattle.agg_model.specs.Entity.{entity_number}
use Rattle.agg_model.specs.declared.entity.Entity.{Entity}
use Rattle.agg_model.specs.declared.entity.Entity.TheVariants.{Accounts, Storage, Code, LogAddrs, LogTopics, TracesFrom, TracesTo}
use Rattle.agg_model.specs.declared.entity.Range.{Range}
use Rattle.agg_model.specs.declared.entity.FileKind.{FileKind}
use Rattle.agg_model.specs.declared.entity.FileKind.TheVariants.{Kv, Bt, Kvi, V, Vi, Ef, Efi}
use Rattle.merge_ranges.specs.declared.name.FileName.{FileName}
use Rattle.merge_ranges.specs.Kind.{kind_number}
use Rattle.merge_ranges.specs.Name.{has_kind}
use Rattle.merge_ranges.specs.Cut.{canon}

-- by the number of the entity, then by the first step, then by the kind
unfoldable pub name_cmp : FileName → FileName → Ordering
name_cmp n o =
    ordering_then (nat_cmp (entity_number n.entity) (entity_number o.entity))
    (ordering_then (nat_cmp n.range.from o.range.from) (nat_cmp (kind_number n.kind) (kind_number o.kind)))

-- each name is before all later ones
abbrev pub NamesAscend : List FileName → Type 0
NamesAscend names = AllPairs (λ n o. name_cmp n o ≡ Less) names

-- each range begins before all later ones
abbrev pub RangesAscend : List Range → Type 0
RangesAscend ranges = AllPairs (λ r q. r.from < q.from) ranges

abbrev pub entities : List Entity
entities = Accounts ∷ Storage ∷ Code ∷ LogAddrs ∷ LogTopics ∷ TracesFrom ∷ TracesTo ∷ []

abbrev pub kinds : List FileKind
kinds = Kv ∷ Bt ∷ Kvi ∷ V ∷ Vi ∷ Ef ∷ Efi ∷ []

-- the names of an entity over a range
abbrev pub group_names : Entity → Range → List FileName
group_names e r = map (λ k. record { entity = e; range = r; kind = k }) (filter (has_kind e) kinds)

-- the names of an entity over these ranges
abbrev pub entity_names : Entity → List Range → List FileName
entity_names e [] = []
entity_names e (r ∷ rs) = group_names e r ++ entity_names e rs

-- the names of these entities over these ranges
abbrev pub names_of : List Entity → List Range → List FileName
names_of [] rs = []
names_of (e ∷ es) rs = entity_names e rs ++ names_of es rs

-- the names of all entities over these ranges
abbrev pub names_over : List Range → List FileName
names_over rs = names_of entities rs

-- the names of all files of m complete steps once all is merged
unfoldable pub canonical_names : ℕ → List FileName
canonical_names m = names_over (canon m)
