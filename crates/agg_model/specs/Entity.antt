-- The entities by number and by name.
use Rattle.std.specs.Prelude.{ℕ, Bool, true, false, List, codes}
use Rattle.agg_model.specs.declared.entity.Entity.{Entity}
use Rattle.agg_model.specs.declared.entity.Entity.TheVariants.{Accounts, Storage, Code, LogAddrs, LogTopics, TracesFrom, TracesTo}

-- the number of an entity
unfoldable pub entity_number : Entity → ℕ
entity_number Accounts = 0
entity_number Storage = 1
entity_number Code = 2
entity_number LogAddrs = 3
entity_number LogTopics = 4
entity_number TracesFrom = 5
entity_number TracesTo = 6

-- the name of an entity, in ASCII
unfoldable pub entity_name : Entity → List ℕ
entity_name Accounts = codes "accounts"
entity_name Storage = codes "storage"
entity_name Code = codes "code"
entity_name LogAddrs = codes "logaddrs"
entity_name LogTopics = codes "logtopics"
entity_name TracesFrom = codes "tracesfrom"
entity_name TracesTo = codes "tracesto"

-- domains keep values, the other entities are indexes and keep marks
unfoldable pub is_domain_entity : Entity → Bool
is_domain_entity Accounts = true
is_domain_entity Storage = true
is_domain_entity Code = true
is_domain_entity LogAddrs = false
is_domain_entity LogTopics = false
is_domain_entity TracesFrom = false
is_domain_entity TracesTo = false
