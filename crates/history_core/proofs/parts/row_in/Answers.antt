use Rattle.history_core.specs.KeyWord.{befores_in}
use Rattle.history_core.proofs.Held.{row_pair, row_long, row_read}
use Rattle.history_core.proofs.parts.row_in.Goals as goal

pub pair_at-requires : goal.pair_at-requires
pair_at-requires c =
    let words = c.args.file.now in
    (c.requires.starts.0, row_pair words (befores_in words.words) c.requires.held c.args.at c.requires.starts.0 c.requires.starts.1)

pub key_of-requires : goal.key_of-requires
key_of-requires c =
    let words = c.args.file.now in
    let row = c.requires.starts.1 in
    let pair = row_pair words (befores_in words.words) c.requires.held c.args.at c.requires.starts.0 row in
    row_long words (befores_in words.words) c.requires.held c.requires.starts.0 c.pair_at.result.0.now row.within (c.pair_at.ensures.key c.requires.starts.0 pair)

pub number_of-requires : goal.number_of-requires
number_of-requires c =
    let words = c.args.file.now in
    let row = c.requires.starts.1 in
    let pair = row_pair words (befores_in words.words) c.requires.held c.args.at c.requires.starts.0 row in
    row_long words (befores_in words.words) c.requires.held c.requires.starts.0 c.pair_at.result.0.now row.within (c.pair_at.ensures.key c.requires.starts.0 pair)

pub returns : goal.returns
returns c =
    λ place row.
    let words = c.args.file.now in
    let pair = row_pair words (befores_in words.words) c.requires.held c.args.at place row in
    row_read words (befores_in words.words) c.requires.held place c.pair_at.result.0.now c.pair_at.result.1.now c.key_of.result.now c.number_of.result row.within
    (c.pair_at.ensures.key place pair)
    (c.pair_at.ensures.value place pair) c.key_of.ensures c.number_of.ensures
