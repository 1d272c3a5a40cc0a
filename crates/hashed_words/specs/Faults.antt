-- Where a file of a tag is refused.
use Rattle.std.specs.Prelude.{ℕ, ◌==◌, List, if◌then◌else◌, Option, Some, None, Result, Ok, Err}
use Rattle.std.specs.Option.{option_or, option_map}
use Rattle.agg_model.specs.declared.entity.FileKind.{FileKind}
use Rattle.word_file.specs.declared.tag.Tag.{Tag}
use Rattle.word_file.specs.declared.error.WordError.{WordError}
use Rattle.word_file.specs.declared.error.WordError.TheVariants.{Short, Magic, Count}
use Rattle.word_file.specs.declared.access.AccessError.{AccessError}
use Rattle.word_file.specs.declared.access.AccessError.TheVariants.{Differs, Memory as NoAccessMemory}
use Rattle.word_file.specs.Spelling.{TaggedWords, offset_at}
use Rattle.word_file.specs.Reading.{checked}
use Rattle.word_file.specs.Difference.{first_difference}
use Rattle.hashed_words.specs.declared.error.FileError.{FileError}
use Rattle.hashed_words.specs.declared.error.FileError.TheVariants.{Bad, Memory}
use Rattle.hashed_words.specs.Rules.{Rules, bad_place}
use Rattle.hashed_words.specs.Hashed.{accessor_bytes}

-- where bytes are no word file
abbrev pub word_fault : WordError → ℕ
word_fault (Short at) = at
word_fault Magic = 0
word_fault (Count said found) = 32

-- the offset of the first field in which the tags differ
unfoldable pub tag_difference : Tag → Tag → Option ℕ
tag_difference said asked =
    if said.entity == asked.entity then
    if said.kind == asked.kind then
    if said.version == asked.version then
    if said.step == asked.step then
    if said.from == asked.from then if said.to == asked.to then None else Some 24
    else Some 16
    else Some 8
    else Some 6
    else Some 5
    else Some 4

-- the offset of the first word that breaks a rule, or the file's length where it is a value word that is missing
abbrev pub rule_fault : Rules → TaggedWords → Option ℕ
rule_fault rules f = option_map (offset_at f.words) (bad_place rules f.words)

abbrev pub ok_unless : TaggedWords → Option ℕ → Result TaggedWords ℕ
ok_unless f None = Ok f
ok_unless f (Some at) = Err at

-- first the tag, then the words
abbrev pub judged : Rules → Tag → Result TaggedWords WordError → Result TaggedWords ℕ
judged rules tag (Err e) = Err (word_fault e)
judged rules tag (Ok f) = ok_unless f (option_or (tag_difference f.tag tag) (rule_fault rules f))

-- the word file that the bytes are under the tag and the rules, or the offset where one is broken first
unfoldable pub opened : Rules → Tag → List ℕ → Result TaggedWords ℕ
opened rules tag bytes = judged rules tag (checked bytes)

-- with the kind of the file that is refused
abbrev pub named : FileKind → Result TaggedWords ℕ → Result TaggedWords FileError
named kind (Err at) = Err (Bad kind at)
named kind (Ok f) = Ok f

abbrev pub accessor_error : FileKind → AccessError → FileError
accessor_error kind (Differs at) = Bad kind at
accessor_error kind NoAccessMemory = Memory

-- the fault of a file of words, or else that of the files that stand on it
abbrev pub fault_behind : FileKind → (TaggedWords → Option FileError) → Result TaggedWords ℕ → Option FileError
fault_behind kind others (Err at) = Some (Bad kind at)
fault_behind kind others (Ok f) = others f

-- where the bytes of a hash accessor of this kind differ first from that of the words
abbrev pub hash_fault : FileKind → List ℕ → TaggedWords → Option FileError
hash_fault kind accessor f = option_map (Bad kind) (first_difference accessor (accessor_bytes f.words))
