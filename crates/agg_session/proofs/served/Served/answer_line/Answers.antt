use Rattle.std.proofs.Common.{◌≡◌, Err, true, is_some, Some, None, List, ℕ, ◌++◌, refl, ap, subst, sym, ◌∙◌, arith}
use Rattle.line_words.specs.LineCut.{Uncut, next_cut}
use Rattle.agg_session.proofs.ServingLaws.{next_cut-shorter, next_cut-no_longer, next_cut-none, answered_same, answered_more, none_there, if_none, if_some}
use Rattle.agg_session.specs.Written.{BeginsToPut}
use Rattle.session_link.proofs.StoreLaws.{on_err}
use Rattle.agg_session.proofs.StoppingLaws.{stops_line, stops_put}
use Rattle.agg_session.specs.Ends.{end_of_stop, end_of_sink}
use Rattle.agg_session.proofs.BlameLaws.{is_err_of, want_at_stop, want_at_sink, blamed_stop, blamed_sink}
use Rattle.agg_session.proofs.served.Served.answer_line.Goals as goal

pub returns-in_err-text-clause-lines : goal.returns-in_err-text-clause-lines
returns-in_err-text-clause-lines g c =
    let left : c.next_reply.new.cut.left ≡ (next_cut c.args.self.now.cut).1 = ap (λ (u : Uncut). u.left) c.next_reply.ensures.cut in
    rw left (omega (arith, next_cut-no_longer c.args.self.now.cut))

pub returns-in_default-clause-lines : goal.returns-in_default-clause-lines
returns-in_default-clause-lines g c =
    let left : c.next_reply.new.cut.left ≡ (next_cut c.args.self.now.cut).1 = ap (λ (u : Uncut). u.left) c.next_reply.ensures.cut in
    rw left (omega (arith, next_cut-no_longer c.args.self.now.cut))

pub returns-in_default-clause-none : goal.returns-in_default-clause-none
returns-in_default-clause-none g c =
    let none : (next_cut c.args.self.now.cut).0 ≡ None = none_there (next_cut c.args.self.now.cut).0 (ap is_some (sym c.in_default.is) ∙ c.in_ok-text.ensures.replied.found) in
    subst (λ (u : Uncut). (next_cut u).0 ≡ None) (sym c.next_reply.ensures.cut) (next_cut-none c.args.self.now.cut none)

pub returns-in_default-clause-answered : goal.returns-in_default-clause-answered
returns-in_default-clause-answered g c = λ start first text all.
    let none : (next_cut c.args.self.now.cut).0 ≡ None = none_there (next_cut c.args.self.now.cut).0 (ap is_some (sym c.in_default.is) ∙ c.in_ok-text.ensures.replied.found) in
    answered_same _ c.args.limits.now c.args.self.now _ first _ start text c.requires.sound c.next_reply.ensures.cut none (if_none _ _ c.in_default.is c.in_ok-text.ensures.replied.none) refl all

pub returns-in_err-put_all-clause-lines : goal.returns-in_err-put_all-clause-lines
returns-in_err-put_all-clause-lines g c =
    let left : c.next_reply.new.cut.left ≡ (next_cut c.args.self.now.cut).1 = ap (λ (u : Uncut). u.left) c.next_reply.ensures.cut in
    let found : true ≡ is_some (next_cut c.args.self.now.cut).0 = ap is_some (sym c.in-Some.is) ∙ c.in_ok-text.ensures.replied.found in
    rw left (omega (arith, next_cut-shorter c.args.self.now.cut found))

pub returns-clause-lines : goal.returns-clause-lines
returns-clause-lines g c =
    let left : c.next_reply.new.cut.left ≡ (next_cut c.args.self.now.cut).1 = ap (λ (u : Uncut). u.left) c.next_reply.ensures.cut in
    let found : true ≡ is_some (next_cut c.args.self.now.cut).0 = ap is_some (sym c.in-Some.is) ∙ c.in_ok-text.ensures.replied.found in
    rw left (omega (arith, next_cut-shorter c.args.self.now.cut found))

pub returns-clause-shorter : goal.returns-clause-shorter
returns-clause-shorter g c =
    let left : c.next_reply.new.cut.left ≡ (next_cut c.args.self.now.cut).1 = ap (λ (u : Uncut). u.left) c.next_reply.ensures.cut in
    let found : true ≡ is_some (next_cut c.args.self.now.cut).0 = ap is_some (sym c.in-Some.is) ∙ c.in_ok-text.ensures.replied.found in
    rw left (next_cut-shorter c.args.self.now.cut found)

pub returns-clause-answered : goal.returns-clause-answered
returns-clause-answered g c = λ start first text all.
    let found : true ≡ is_some (next_cut c.args.self.now.cut).0 = ap is_some (sym c.in-Some.is) ∙ c.in_ok-text.ensures.replied.found in
    answered_more _ c.args.limits.now c.args.self.now _ c.in-Some.text first _ _ start text c.requires.sound c.next_reply.ensures.cut found refl c.next_reply.ensures.replied.devices.goes.end (λ s stands. if_some _ _ _ c.in-Some.is (c.in_ok-text.ensures.replied.exact s stands)) (λ b told. subst (λ (p : List ℕ). g.O.Sink.bytes c.put_all.new.sink ≡ Some (b ++ p)) c.as_slice.ensures (c.in_ok-put_all.ensures.ok b told)) all

pub returns-in_err-text-clause-stopped : goal.returns-in_err-text-clause-stopped
returns-in_err-text-clause-stopped g c = λ start first text all.
    on_err c.from_residual.result _
    (stops_line _ c.args.limits.now c.args.self.now first _ _ start text c.next_reply.new.session.store c.next_reply.new.cut c.requires.sound c.next_reply.ensures.cut c.in_err-text.ensures.replied.err_found c.next_reply.ensures.replied.devices.goes.end refl (λ s stands. c.in_err-text.ensures.replied.err s stands) all)

pub returns-in_err-put_all-clause-stopped : goal.returns-in_err-put_all-clause-stopped
returns-in_err-put_all-clause-stopped g c = λ start first text all.
    let found : true ≡ is_some (next_cut c.args.self.now.cut).0 = ap is_some (sym c.in-Some.is) ∙ c.in_ok-text.ensures.replied.found in
    on_err c.from_residual-in_err-put_all.result _
    (stops_put _ c.args.limits.now c.args.self.now first _ _ start text c.next_reply.new.session c.next_reply.new.cut c.in-Some.text c.requires.sound c.next_reply.ensures.cut found c.next_reply.ensures.replied.devices.goes.end
    (λ s stands. if_some _ _ _ c.in-Some.is (c.in_ok-text.ensures.replied.exact s stands))
    (λ b told. subst (λ (p : List ℕ). BeginsToPut b p (g.O.Sink.bytes c.put_all.new.sink)) c.as_slice.ensures (c.in_err-put_all.ensures.err b told))
    all)

pub returns-in_err-text-clause-blamed : goal.returns-in_err-text-clause-blamed
returns-in_err-text-clause-blamed g c =
    blamed_stop g.D.Disk g.O.Sink ⊥ c.args.self.now.session.store _ c.args.sink.now c.args.sink.now c.in_err-text.field-0.0 c.next_reply.result c.from_residual.result
    c.in_err-text.was (is_err_of c.from_residual.result (end_of_stop c.in_err-text.field-0.0) c.from_residual.ensures.1) c.next_reply.ensures.replied.devices (omega arith)

pub returns-in_err-text-clause-wants : goal.returns-in_err-text-clause-wants
returns-in_err-text-clause-wants g c =
    want_at_stop c.from_residual.result c.in_err-text.field-0.0 (is_err_of c.from_residual.result (end_of_stop c.in_err-text.field-0.0) c.from_residual.ensures.1)
    (λ worn. c.next_reply.ensures.replied.devices.unworn (c.in_err-text.was ∙ ap Err worn))

pub returns-in_err-put_all-clause-blamed : goal.returns-in_err-put_all-clause-blamed
returns-in_err-put_all-clause-blamed g c =
    blamed_sink g.D.Disk g.O.Sink ⊥ c.args.self.now.session.store _ c.args.sink.now c.put_all.new.sink c.in_err-put_all.field-0.0 c.put_all.result c.from_residual-in_err-put_all.result
    c.in_err-put_all.was (is_err_of c.from_residual-in_err-put_all.result (end_of_sink c.in_err-put_all.field-0.0) c.from_residual-in_err-put_all.ensures.1)
    c.next_reply.ensures.replied.devices.goes c.put_all.ensures.cause

pub returns-in_err-put_all-clause-wants : goal.returns-in_err-put_all-clause-wants
returns-in_err-put_all-clause-wants g c =
    want_at_sink c.from_residual-in_err-put_all.result c.in_err-put_all.field-0.0 (is_err_of c.from_residual-in_err-put_all.result (end_of_sink c.in_err-put_all.field-0.0) c.from_residual-in_err-put_all.ensures.1)
