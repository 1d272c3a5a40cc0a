-- No two entities have one number or one name.
use Rattle.std.specs.Prelude.{nat_eq, ◌==◌, ◌<◌, ◌≡◌, ℕ, List, refl}
use Rattle.std.proofs.Common.{arith, sym, ◌∙◌, ap, cond}
use Rattle.std.specs.Cmp.Lexicographic.{pointwise}
use Rattle.agg_model.specs.declared.entity.Entity.{Entity}
use Rattle.agg_model.specs.declared.entity.Entity.TheVariants.{Accounts, Storage, Code, LogAddrs, LogTopics, TracesFrom, TracesTo}
use Rattle.agg_model.specs.Entity.{entity_number, entity_name}

entity_at : ℕ → Entity
entity_at n =
    cond (n == 0) Accounts
    (cond (n == 1) Storage
    (cond (n == 2) Code (cond (n == 3) LogAddrs (cond (n == 4) LogTopics (cond (n == 5) TracesFrom TracesTo)))))

entity_at-entity_number : (e : Entity) → entity_at (entity_number e) ≡ e
unfolding entity_at entity_number
entity_at-entity_number Accounts = refl
entity_at-entity_number Storage = refl
entity_at-entity_number Code = refl
entity_at-entity_number LogAddrs = refl
entity_at-entity_number LogTopics = refl
entity_at-entity_number TracesFrom = refl
entity_at-entity_number TracesTo = refl

pub entity_number-injective : (e f : Entity) → entity_number e ≡ entity_number f → e ≡ f
entity_number-injective e f same = sym (entity_at-entity_number e) ∙ ap entity_at same ∙ entity_at-entity_number f

pub entity_number-below : (e : Entity) → entity_number e < 7
unfolding entity_number
entity_number-below Accounts = omega arith
entity_number-below Storage = omega arith
entity_number-below Code = omega arith
entity_number-below LogAddrs = omega arith
entity_number-below LogTopics = omega arith
entity_number-below TracesFrom = omega arith
entity_number-below TracesTo = omega arith

entity_called : List ℕ → Entity
entity_called name =
    cond (pointwise nat_eq name (entity_name Accounts)) Accounts
    (cond (pointwise nat_eq name (entity_name Storage)) Storage
    (cond (pointwise nat_eq name (entity_name Code)) Code
    (cond (pointwise nat_eq name (entity_name LogAddrs)) LogAddrs
    (cond (pointwise nat_eq name (entity_name LogTopics)) LogTopics
    (cond (pointwise nat_eq name (entity_name TracesFrom)) TracesFrom TracesTo)))))

entity_called-entity_name : (e : Entity) → entity_called (entity_name e) ≡ e
unfolding entity_called entity_name
entity_called-entity_name Accounts = refl
entity_called-entity_name Storage = refl
entity_called-entity_name Code = refl
entity_called-entity_name LogAddrs = refl
entity_called-entity_name LogTopics = refl
entity_called-entity_name TracesFrom = refl
entity_called-entity_name TracesTo = refl

pub entity_name-injective : (e f : Entity) → entity_name e ≡ entity_name f → e ≡ f
entity_name-injective e f same = sym (entity_called-entity_name e) ∙ ap entity_called same ∙ entity_called-entity_name f
