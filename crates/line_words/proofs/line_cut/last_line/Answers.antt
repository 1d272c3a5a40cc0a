use Rattle.std.proofs.Common.{drop, None, Some}
use Rattle.std.proofs.lemmas.List.{take_rest}
use Rattle.memchr.specs.Find.{IsLastByte, is_byte}
use Rattle.line_words.proofs.LastLine.{last_from-missed, last_from-found}
use Rattle.line_words.proofs.line_cut.last_line.Goals as goal

pub returns-in-Some-clause-line : goal.returns-in-Some-clause-line
returns-in-Some-clause-line c =
    let last : IsLastByte (is_byte 10) (drop c.args.seen c.args.text.now) (Some c.in-Some.ahead) = rw take_rest at c.in-Some.ensures in
    last_from-found c.args.text.now c.args.start c.args.seen c.requires c.in-Some.ahead last

pub returns-in-None-clause-line : goal.returns-in-None-clause-line
returns-in-None-clause-line c =
    let none : IsLastByte (is_byte 10) (drop c.args.seen c.args.text.now) None = rw take_rest at c.in-None.ensures in
    last_from-missed c.args.text.now c.args.start c.args.seen c.requires none
