use Rattle.std.proofs.Common.{map, None, Some, refl, ap, ◌∙◌}
use Rattle.std.proofs.lemmas.List.{length-map}
use Rattle.std.specs.String.{string_bytes}
use Rattle.command_words.proofs.CommandLaws.{command_none, command_other, command_run, no_command, a_command}
use Rattle.command_words.proofs.words.read_words.Goals as goal

pub returns-in_default-clause-usage : goal.returns-in_default-clause-usage
returns-in_default-clause-usage c =
    no_command _ _ refl (command_none (map string_bytes c.args.words.now) (length-map c.args.words.now string_bytes ∙ c.in_default.ensures.cases))

pub returns-then-ne-clause-usage : goal.returns-then-ne-clause-usage
returns-then-ne-clause-usage c =
    no_command _ _ refl (command_other _ _ _ _ _ (ap (map string_bytes) c.in-Some.ensures.cases.0) c.as_str.ensures.value c.ne.ensures c.if-ne.true)

pub returns-in-Some-size_from-clause-found : goal.returns-in-Some-size_from-clause-found
returns-in-Some-size_from-clause-found c =
    command_run _ _ _ _ _ (Some c.in-Some-size_from.size) (ap (map string_bytes) c.in-Some.ensures.cases.0) c.as_str.ensures.value c.ne.ensures c.if-ne.false c.in-Some-size_from.ensures.exact

pub returns-in-Some-size_from-clause-usage : goal.returns-in-Some-size_from-clause-usage
returns-in-Some-size_from-clause-usage c =
    a_command _ _ _ refl (command_run _ _ _ _ _ (Some c.in-Some-size_from.size) (ap (map string_bytes) c.in-Some.ensures.cases.0) c.as_str.ensures.value c.ne.ensures c.if-ne.false c.in-Some-size_from.ensures.exact)

pub returns-in-None-clause-usage : goal.returns-in-None-clause-usage
returns-in-None-clause-usage c =
    no_command _ _ refl (command_run _ _ _ _ _ None (ap (map string_bytes) c.in-Some.ensures.cases.0) c.as_str.ensures.value c.ne.ensures c.if-ne.false c.in-None.ensures.exact)
