use Rattle.std.proofs.Common.{inl, sym, ◌∙◌}
use Rattle.session_link.proofs.StoreLaws.{kept}
use Rattle.line_words.specs.Requests.{request_of}
use Rattle.session_link.specs.Effects.{read_outcome}
use Rattle.session_link.proofs.StoreLaws.{on_err}
use Rattle.session_link.proofs.LineLaws.{short_effect-empty, short_effect-some, effect_same, effect_told, ends_after, no_bytes, some_bytes}
use Rattle.session_link.proofs.session.Session.line.Goals as goal

pub returns-then-is_empty-clause-exact : goal.returns-then-is_empty-clause-exact
returns-then-is_empty-clause-exact g c = λ s stands.
    effect_same _ c.args.self.now _ s _
    (short_effect-empty c.args.limits.now c.args.number c.args.line.now s (no_bytes c.is_empty.result c.args.line.now c.is_empty.ensures c.if-is_empty.true)
    ∙ (λ i. record { state = s; reply = sym c.in_ok-of.ensures i; settled = 0 }))
    stands

pub returns-in_err-print-clause-err : goal.returns-in_err-print-clause-err
returns-in_err-print-clause-err g c = λ s stands.
    on_err c.from_residual-in_err-print.result _
    (ends_after _ c.read.new.self c.in_ok-reply.reply s (read_outcome c.args.limits.now c.args.number (request_of c.args.line.now) s) _
    (short_effect-some c.args.limits.now c.args.number c.args.line.now s (some_bytes c.is_empty.result c.args.line.now c.is_empty.ensures c.if-is_empty.false))
    (c.in_ok-reply.ensures.exact s stands))

pub returns-clause-exact : goal.returns-clause-exact
returns-clause-exact g c = λ s stands.
    effect_told _ c.read.new.self c.in_ok-reply.reply _
    (read_outcome c.args.limits.now c.args.number (request_of c.args.line.now) s) _
    (short_effect-some c.args.limits.now c.args.number c.args.line.now s (some_bytes c.is_empty.result c.args.line.now c.is_empty.ensures c.if-is_empty.false))
    (c.in_ok-reply.ensures.exact s stands)
    c.in_ok-print.ensures

pub returns-in_err-of-clause-err : goal.returns-in_err-of-clause-err
returns-in_err-of-clause-err g c = λ s stands.
    on_err c.from_residual.result _ (inl (kept g.D.Disk c.args.self.now.store s.list stands.list))
