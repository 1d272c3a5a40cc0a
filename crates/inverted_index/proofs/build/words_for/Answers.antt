use Rattle.std.proofs.Common.{subst, sym}
use Rattle.agg_model.specs.declared.contents.Times.{Times}
use Rattle.word_file.specs.declared.tag.Tag.{Tag}
use Rattle.inverted_index.specs.EfFile.{IsTimes}
use Rattle.inverted_index.proofs.build.words_for.Goals as goal

pub push_list-requires-clause-times : goal.push_list-requires-clause-times
push_list-requires-clause-times c =
    let here = subst (λ (t : Times). IsTimes c.args.tag t) (sym c.list-item.is) (c.requires.fit c.loop-list.list-index c.list-item.result c.loop-list-test.true) in
    subst (λ (t : Tag). IsTimes t c.list-item.result) (sym c.loop-list.invariant.tag) here
