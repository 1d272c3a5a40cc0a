use Rattle.window_pages.proofs.Changes.{has-none, has-found}
use Rattle.window_pages.proofs.values.has_between.Goals as goal

pub returns-in-Some : goal.returns-in-Some
returns-in-Some c =
    let says = c.in-Some.ensures.found in
    has-found c.args.numbers.from c.args.numbers.to c.args.list.now c.in-Some.found.0 c.in-Some.found.1 c.len-count.ensures.ascends says.0 says.1 says.2 c.in-Some.ensures.first

pub returns-in-None : goal.returns-in-None
returns-in-None c = has-none c.args.numbers.from c.args.numbers.to c.args.list.now c.in-None.ensures.none
