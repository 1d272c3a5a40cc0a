use Rattle.std.proofs.Common.{◌≡◌}
use Rattle.merge_files.proofs.Cursors.{are-paired, pair-there, begins, at-end}
use Rattle.merge_files.proofs.cursor.Cursor.first.Goals as goal

pub pair_at-requires-clause-starts : goal.pair_at-requires-clause-starts
pair_at-requires-clause-starts c =
    let s = c.self.inside in
    (s.place, pair-there s.words.now.words s.at s.place c.self.invariant c.in-Some.at c.in-Some.is)

pub pair_at-requires-clause-paired : goal.pair_at-requires-clause-paired
pair_at-requires-clause-paired c =
    let s = c.self.inside in
    are-paired s.words.now.words s.at s.place c.self.invariant

pub returns-in-Some : goal.returns-in-Some
returns-in-Some c =
    let s = c.self.inside in
    let there = pair-there s.words.now.words s.at s.place c.self.invariant c.in-Some.at c.in-Some.is in
    begins s.words.now.words s.at s.place c.self.invariant c.in-Some.at c.args.self.now c.pair_at.result.0.now c.pair_at.result.1.now
    c.in-Some.is c.self.view_is (c.pair_at.ensures.key s.place there) (c.pair_at.ensures.value s.place there)

pub returns-in-None : goal.returns-in-None
returns-in-None c =
    let s = c.self.inside in
    at-end s.words.now.words s.at s.place c.self.invariant c.args.self.now c.in-None.is c.self.view_is
