use Rattle.std.proofs.Common.{◌∙◌, ◌-◌, length, take, drop, sym, refl, arith}
use Rattle.std.proofs.lemmas.List.{take_all, length-drop}
use Rattle.word_file.proofs.Agreements.{field_parts}
use Rattle.word_file.proofs.access.follow.Goals as goal

pub returns-in-Some-clause-place : goal.returns-in-Some-clause-place
returns-in-Some-clause-place c =
    let bytes = c.args.bytes.now in
    let at = c.args.at in
    let rest = take (length bytes - at) (drop at bytes) in
    field_parts bytes c.args.text.now rest (take c.min.result rest) at c.min.result c.in-Some.place c.requires (take_all (length bytes - at) (drop at bytes) (omega (arith, length-drop at bytes))) c.min.ensures refl
    (sym c.in-Some.is ∙ c.first_difference.ensures.value)
