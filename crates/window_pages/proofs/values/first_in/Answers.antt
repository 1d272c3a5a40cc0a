use Rattle.std.proofs.Common.{ℕ, ◌≤◌, Some, ap, sym, ◌∙◌, subst}
use Rattle.inverted_index.proofs.FirstFound.{find-first, find-none}
use Rattle.window_pages.proofs.values.first_in.Goals as goal

pub returns-in-Some : goal.returns-in-Some
returns-in-Some c =
    let says = c.in-Some.ensures.found in
    let place : ℕ = c.in-Some.found.0 in
    let above = subst (λ (x : ℕ). c.args.n ≤ x) says.1 says.2 in
    ap (λ (x : ℕ). Some x) says.1 ∙ sym (find-first c.args.n c.args.list.now place says.0 above c.in-Some.ensures.first)

pub returns-in-None : goal.returns-in-None
returns-in-None c = sym (find-none c.args.n c.args.list.now c.in-None.ensures.none)
