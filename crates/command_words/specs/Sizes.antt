-- The step size as it is read, option by option.
use Rattle.std.specs.Prelude.{ℕ, Bool, true, false, ◌&&◌, if◌then◌else◌, List, [], ◌∷◌, Option, Some, None}
use Rattle.std.specs.Str.{bytes_eq}
use Rattle.command_words.specs.CommandWords.{Setting, Behind, no_others, are_among, values_of, given_once, usual_size}
use Rattle.command_words.specs.CommandWords.{step_value, step_option}

-- the step size after one more option, where none was given before
abbrev pub step_given : Option ℕ → List ℕ → List ℕ → Option ℕ
step_given (Some size) name value = None
step_given None name value = if bytes_eq name step_option then step_value value else None

-- the step size by what was given before and what is still to come
abbrev pub size_from : Option ℕ → Option Behind → Option ℕ
size_from given None = None
size_from None (Some b) =
    if no_others b.others && are_among (step_option ∷ []) b.settings
    then given_once usual_size step_value (values_of step_option b.settings) else None
size_from (Some size) (Some b) =
    if no_others b.others && are_among (step_option ∷ []) b.settings && no_others (values_of step_option b.settings)
    then Some size else None
