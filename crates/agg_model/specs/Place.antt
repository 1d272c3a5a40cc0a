-- Where a change stands: by its entity, its key and its transaction number, in this order.
use Rattle.std.specs.Prelude.{ℕ, Bool, List, ◌==◌, ◌&&◌, nat_eq}
use Rattle.std.specs.declared.cmp.Ordering.{Ordering}
use Rattle.std.specs.Ordering.{nat_cmp, ordering_then, is_lt, is_eq}
use Rattle.std.specs.Cmp.{IsTotalOrder, then_total, on_total, nat_cmp_total}
use Rattle.std.specs.Cmp.Lexicographic.{pointwise, slice_cmp, nat_list_cmp_total}
use Rattle.agg_model.specs.Entity.{entity_number}
use Rattle.agg_model.specs.declared.entity.Entity.{Entity}
use Rattle.agg_model.specs.declared.change.Change.{Change}

pub record Place : Type 0 where
  pub entity : ℕ
  pub key : List ℕ
  pub number : ℕ

-- the place of the changes of an entity and key at a number
unfoldable pub place : Entity → List ℕ → ℕ → Place
place e k n = record { entity = entity_number e; key = k; number = n }

unfoldable pub place_of : Change → Place
place_of c = record { entity = entity_number c.entity; key = c.key; number = c.tx }

-- by the number of the entity, then by the bytes of the key, then by the transaction number
unfoldable pub place_cmp : Place → Place → Ordering
place_cmp p q =
    ordering_then (nat_cmp p.entity q.entity) (ordering_then (slice_cmp nat_cmp p.key q.key) (nat_cmp p.number q.number))

-- it is a total order, as the type that is ordered by it has to say
pub place_cmp_total : IsTotalOrder place_cmp
unfolding place_cmp
place_cmp_total =
    then_total
    (on_total (λ (p : Place). p.entity) nat_cmp_total)
    (then_total (on_total (λ (p : Place). p.key) nat_list_cmp_total) (on_total (λ (p : Place). p.number) nat_cmp_total))

unfoldable pub is_before : Place → Place → Bool
is_before p q = is_lt (place_cmp p q)

unfoldable pub is_same_place : Place → Place → Bool
is_same_place p q = is_eq (place_cmp p q)

-- the change is one of this entity and key
unfoldable pub is_of : Entity → List ℕ → Change → Bool
is_of e k c = (entity_number c.entity == entity_number e) && pointwise nat_eq c.key k
