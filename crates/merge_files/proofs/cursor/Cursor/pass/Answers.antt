use Rattle.std.proofs.Common.{◌≡◌, None, sym, ◌∙◌, ap, drop, refl}
use Rattle.merge_files.proofs.Cursors.{passed, dropped, at-end}
use Rattle.merge_files.proofs.cursor.Cursor.pass.Goals as goal

pub invariant_of-self : goal.invariant_of-self
invariant_of-self c =
    let s = c.self.inside in
    passed s.words.now.words s.at s.place c.self.invariant c.in-Some.at c.key_after-self-inside.result c.in-Some.is c.key_after-self-inside.ensures

pub returns-in-Some : goal.returns-in-Some
returns-in-Some c =
    let s = c.self.inside in
    dropped s.words.now.words s.at s.place c.self.invariant c.args.self.now c.self.view_is

pub returns-in_default : goal.returns-in_default
returns-in_default c =
    let s = c.self.inside in
    let none : s.at ≡ None = c.in_default.is in
    let over = at-end s.words.now.words s.at s.place c.self.invariant c.args.self.now none c.self.view_is in
    over ∙ sym (ap (drop 1) over)
