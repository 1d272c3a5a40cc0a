use Rattle.std.proofs.Common.{◌≡◌, true, ◌<◌, ◌≤◌, length, rules, arith}
use Rattle.std.proofs.lemmas.Bool.{false≢true}
use Rattle.core_run.proofs.Candidates.{not-reached, not-several, union-decides}
use Rattle.core_run.proofs.publish.is_union.Goals as goal

pub returns-then-end-range : goal.returns-then-end-range
returns-then-end-range c = (
  λ e. absurd (false≢true e),
  λ u. absurd (not-reached c.args.visible.now.keys c.args.replaced.now c.in_ok-set.set.keys c.args.entity c.args.range c.in_ok-parts.parts c.in_ok-parts.end c.in_ok-set.ensures
      c.in_ok-parts.ensures.parts c.in_ok-parts.ensures.end c.if-end-range.true u),
)

pub returns-then-len-lt2 : goal.returns-then-len-lt2
returns-then-len-lt2 c =
    let short : length c.in_ok-parts.parts < 2 = omega (arith, c.len.ensures, c.if-len-lt2.true) in (
      λ e. absurd (false≢true e),
      λ u. absurd (not-several c.args.visible.now.keys c.args.replaced.now c.in_ok-set.set.keys c.args.entity c.args.range c.in_ok-parts.parts c.in_ok-parts.end c.in_ok-set.ensures
          c.in_ok-parts.ensures.parts c.in_ok-parts.ensures.end short u),
    )

pub returns : goal.returns
returns c =
    let on : c.has_all.result ≡ true = first_of (search rules, grind arith) in
    let several : 2 ≤ length c.in_ok-parts.parts = omega (arith, c.len.ensures, c.if-len-lt2.false) in
    union-decides c.args.visible.now.keys c.args.replaced.now c.in_ok-set.set.keys c.args.entity c.args.range c.in_ok-parts.parts c.in_ok-parts.end c.in_ok-set.ensures
    c.in_ok-parts.ensures.parts c.in_ok-parts.ensures.end c.in_ok-wanted.wanted.keys c.are_same.result (c.has_all.ensures.0 on) c.if-end-range.false several c.in_ok-wanted.ensures c.are_same.ensures
