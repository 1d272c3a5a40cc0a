use Rattle.std.specs.Prelude.{IfSome}
use Rattle.std.proofs.Common.{◌≡◌, sym, ◌∙◌, subst}
use Rattle.merge_ranges.specs.Name.{spelled_on_disk}
use Rattle.merge_ranges.proofs.Names.{temporary, lasting, temporary-text, lasting-text}
use Rattle.merge_ranges.proofs.name.DiskName.read.Goals as goal

pub returns-in-Some-clause-same_text : goal.returns-in-Some-clause-same_text
returns-in-Some-clause-same_text c =
    subst (λ o. IfSome o (λ n. spelled_on_disk n ≡ c.args.text.now)) (sym c.on_disk.ensures)
    (temporary-text c.args.text.now c.in-Some.front.now c.read.result c.in-Some.ensures.found c.read.ensures.same_text)

pub returns-in-Some-clause-only : goal.returns-in-Some-clause-only
returns-in-Some-clause-only c = λ name is same.
    c.on_disk.ensures
    ∙ temporary c.args.text.now c.read.result c.in-Some.front.now c.in-Some.ensures.found c.in-Some.ensures.only c.read.ensures.only name is same

pub returns-in-None-clause-same_text : goal.returns-in-None-clause-same_text
returns-in-None-clause-same_text c =
    subst (λ o. IfSome o (λ n. spelled_on_disk n ≡ c.args.text.now)) (sym c.on_disk-in-None.ensures)
    (lasting-text c.args.text.now c.read-in-None.result c.read-in-None.ensures.same_text)

pub returns-in-None-clause-only : goal.returns-in-None-clause-only
returns-in-None-clause-only c = λ name is same.
    c.on_disk-in-None.ensures ∙ lasting c.args.text.now c.read-in-None.result c.in-None.ensures.only c.read-in-None.ensures.only name is same
