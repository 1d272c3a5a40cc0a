use Rattle.std.proofs.Common.{List, [], get_or}
use Rattle.agg_model.specs.declared.contents.Times.{Times}
use Rattle.inverted_index.specs.EfFile.{lists_in}
use Rattle.inverted_index.proofs.ListWords.{held_text_of, held_pair}
use Rattle.inverted_index.proofs.parts.pair_in.Goals as goal

pub opened-requires : goal.opened-requires
opened-requires c =
    let p = c.requires.starts in
    let none : Times = record { key = []; items = [] } in
    ((get_or (lists_in c.args.held.now.words) p.0 none).items, held_text_of c.args.held.now c.requires.held p.0 p.1.within c.pair_at.result.1.now (c.pair_at.ensures.value p.0 p.1))

pub returns : goal.returns
returns c = λ place p.
    let none : Times = record { key = []; items = [] } in
    let t : Times = get_or (lists_in c.args.held.now.words) place none in
    held_pair c.args.held.now c.requires.held place p.within c.pair_at.result.0.now c.opened.result (c.pair_at.ensures.key place p)
    (c.opened.ensures t.items (held_text_of c.args.held.now c.requires.held place p.within c.pair_at.result.1.now (c.pair_at.ensures.value place p)))
