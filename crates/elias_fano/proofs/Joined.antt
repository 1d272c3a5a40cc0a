-- The parts of a text, one put behind the other.
use Rattle.std.proofs.Common.{◌≡◌, ◌++◌, ◌∙◌, ℕ, Bool, List, Result, Ok, Err}
use Rattle.std.specs.Prelude.{OnOk}
use Rattle.agg_outside.specs.declared.errors.Memory.{Memory}

pub same_parts : (a a' b b' c c' d d' : List ℕ) → a ≡ a' → b ≡ b' → c ≡ c' → d ≡ d' → a ++ (b ++ (c ++ d)) ≡ a' ++ (b' ++ (c' ++ d'))
same_parts a a' b b' c c' d d' e f g h = cc

-- what a last call answers, said in other words
pub on_ok : (r : Result (Unit {0}) Memory) (a b c : List Bool) → OnOk r (a ≡ b) → b ≡ c → OnOk r (a ≡ c)
on_ok (Ok x) a b c e f = e ∙ f
on_ok (Err x) a b c e f = tt
