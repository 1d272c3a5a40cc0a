-- What the words after the program's name ask for.
use Rattle.std.specs.Prelude.{ℕ, ◌+◌, ◌^◌, ◌≤◌, Bool, true, false, ◌&&◌, ◌||◌, ◌==◌, nat_le, if◌then◌else◌, List, []}
use Rattle.std.specs.Prelude.{◌∷◌, length, take, drop, codes, Option, Some, None}
use Rattle.std.specs.Str.{bytes_eq}
use Rattle.std.specs.List.{position}
use Rattle.line_words.specs.Words.{number_of}
use Rattle.command_words.specs.declared.words.Command.{Command}
use Rattle.command_words.specs.declared.words.Command.TheVariants.{Run}

-- ---- options

-- an option by its name, and the value that it is given
pub record Setting : Type 0 where
  pub name : List ℕ
  pub value : List ℕ

-- what stands behind the command, in the order of the words: options, and words that are none
pub record Behind : Type 0 where
  pub settings : List Setting
  pub others : List (List ℕ)

abbrev pub nothing_behind : Behind
nothing_behind = record { settings = []; others = [] }

-- an option begins with two dashes
abbrev pub is_option : List ℕ → Bool
is_option word = bytes_eq (take 2 word) (codes "--")

abbrev pub is_equals_sign : ℕ → Bool
is_equals_sign b = b == 61

abbrev pub cut_setting : List ℕ → Option ℕ → Option Setting
cut_setting word None = None
cut_setting word (Some i) = Some (record { name = take i word; value = drop (i + 1) word })

-- `--name=value`, cut at the first equals sign
unfoldable pub joined_setting : List ℕ → Option Setting
joined_setting word = cut_setting word (position is_equals_sign word)

abbrev pub with_setting : Setting → Option Behind → Option Behind
with_setting s None = None
with_setting s (Some b) = Some (record b { settings = s ∷ b.settings })

abbrev pub with_other : List ℕ → Option Behind → Option Behind
with_other word None = None
with_other word (Some b) = Some (record b { others = word ∷ b.others })

-- an option has its value in its own word, or else in the next one
abbrev pub with_option : List ℕ → Option Setting → Option Behind → Option (List ℕ) → Option Behind → Option Behind
with_option word (Some s) rest next further = with_setting s rest
with_option word None rest None further = None
with_option word None rest (Some value) further = with_setting (record { name = word; value = value }) further

-- with one word more in front of the rest, which begins with a next word and then goes further
abbrev pub with_word : List ℕ → Option Behind → Option (List ℕ) → Option Behind → Option Behind
with_word word rest next further =
    if is_option word then with_option word (joined_setting word) rest next further else with_other word rest

-- what words say behind the command; none where the last is an option that has no value
unfoldable pub behind_of : List (List ℕ) → Option Behind
behind_of [] = Some nothing_behind
behind_of (word ∷ []) = with_word word (Some nothing_behind) None None
behind_of (word ∷ next ∷ words) = with_word word (behind_of (next ∷ words)) (Some next) (behind_of words)

-- the values that are given to an option
abbrev pub values_of : List ℕ → List Setting → List (List ℕ)
values_of name [] = []
values_of name (s ∷ settings) =
    if bytes_eq s.name name then s.value ∷ values_of name settings else values_of name settings

abbrev pub is_among : List (List ℕ) → List ℕ → Bool
is_among [] word = false
is_among (name ∷ names) word = bytes_eq word name || is_among names word

-- each option is one of these
abbrev pub are_among : List (List ℕ) → List Setting → Bool
are_among names [] = true
are_among names (s ∷ settings) = is_among names s.name && are_among names settings

-- ---- values

-- an option is given once, or not at all, which leaves what is usual
abbrev pub given_once : ℕ → (List ℕ → Option ℕ) → List (List ℕ) → Option ℕ
given_once usual read [] = Some usual
given_once usual read (value ∷ []) = read value
given_once usual read (value ∷ more ∷ values) = None

-- the step size where the words give none
abbrev pub usual_size : ℕ
usual_size = 1562500

-- from 1 to 2 ^ 32
abbrev pub step_within : Option ℕ → Option ℕ
step_within None = None
step_within (Some size) = if nat_le 1 size && nat_le size (2 ^ 32) then Some size else None

-- a value has 1 to 10 digits, and may have leading zeros
unfoldable pub step_value : List ℕ → Option ℕ
step_value word = if nat_le (length word) 10 then step_within (number_of word) else None

abbrev pub step_option : List ℕ
step_option = codes "--step"

-- ---- commands

abbrev pub no_others : List (List ℕ) → Bool
no_others [] = true
no_others (word ∷ words) = false

-- the step size of `run`: it takes no other word, and no other option
abbrev pub run_size : Option Behind → Option ℕ
run_size None = None
run_size (Some b) =
    if no_others b.others && are_among (step_option ∷ []) b.settings
    then given_once usual_size step_value (values_of step_option b.settings) else None

-- `run`; no worker helps it yet
abbrev pub run_of : Option ℕ → Option Command
run_of None = None
run_of (Some size) = Some (Run size 0)

-- the command of the words, which is the first of them; none where they are no command
unfoldable pub command_of : List (List ℕ) → Option Command
command_of [] = None
command_of (command ∷ words) = if bytes_eq command (codes "run") then run_of (run_size (behind_of words)) else None

-- a command's numbers are within their bounds
pub record AreBounds (size workers : ℕ) : Type 0 where
  pub from_one : 1 ≤ size
  pub size_within : size ≤ 2 ^ 32
  pub workers_within : workers ≤ 16

abbrev pub IsCommand : Command → Type 0
IsCommand (Run size workers) = AreBounds size workers
