-- Entities by their names.
use Rattle.std.proofs.Common.{◌≡◌, Bool, true, false, List, ℕ, [], ◌∷◌, Some, None, refl, sym, ap, ◌∙◌}
use Rattle.std.specs.Bool.{Decides}
use Rattle.std.specs.Str.{bytes_eq}
use Rattle.std.proofs.lemmas.Slice.Eq.{bytes_eq-Decides}
use Rattle.agg_model.specs.declared.entity.Entity.{Entity}
use Rattle.agg_model.specs.declared.entity.Entity.TheVariants.{Accounts, Storage, Code, LogAddrs, LogTopics, TracesFrom, TracesTo}
use Rattle.agg_model.specs.Entity.{entity_name}
use Rattle.line_words.specs.Words.{named_among, entity_of_word}

entity_of_word-name : (e : Entity) → entity_of_word (entity_name e) ≡ Some e
unfolding entity_of_word entity_name
entity_of_word-name Accounts = refl
entity_of_word-name Storage = refl
entity_of_word-name Code = refl
entity_of_word-name LogAddrs = refl
entity_of_word-name LogTopics = refl
entity_of_word-name TracesFrom = refl
entity_of_word-name TracesTo = refl

-- the entity that has the name
pub entity_of_word-found : (word : List ℕ) (e : Entity) → entity_name e ≡ word → entity_of_word word ≡ Some e
entity_of_word-found word e is = ap entity_of_word (sym is) ∙ entity_of_word-name e

other_name : {P : Type 0} (t : Bool) → Decides t P → (P → ⊥) → t ≡ false
other_name true is isnt = absurd (isnt (is.0 refl))
other_name false is isnt = refl

named_among-none : (es : List Entity) (word : List ℕ) → ((e : Entity) → entity_name e ≡ word → ⊥) → named_among es word ≡ None
named_among-none [] word other = refl
named_among-none (e ∷ es) word other =
    let isnt : bytes_eq word (entity_name e) ≡ false = other_name (bytes_eq word (entity_name e)) (bytes_eq-Decides word (entity_name e)) (λ is. other e (sym is)) in
    rw isnt (named_among-none es word other)

-- where no entity has it
pub entity_of_word-none : (word : List ℕ) → ((e : Entity) → entity_name e ≡ word → ⊥) → entity_of_word word ≡ None
unfolding entity_of_word
entity_of_word-none word other =
    named_among-none (Accounts ∷ Storage ∷ Code ∷ LogAddrs ∷ LogTopics ∷ TracesFrom ∷ TracesTo ∷ []) word other
