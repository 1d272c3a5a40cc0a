use Rattle.std.proofs.Common.{Option, subst}
use Rattle.line_words.specs.LineCut.{Piece}
use Rattle.agg_session.specs.Served.{IsReplied}
use Rattle.agg_session.proofs.served.next_reply.Goals as goal

pub returns-clause-replied : goal.returns-clause-replied
returns-clause-replied g c =
    let said = c.reply_to.ensures in
    subst (λ (piece : Option Piece). IsReplied g.D.Disk c.args.limits.now c.args.number piece c.args.session.now c.reply_to.new.session c.reply_to.result) c.next.ensures.cut
    (record {
      found = said.found;
      none = said.none;
      exact = said.exact;
      err_found = said.err_found;
      err = said.err;
      devices = said.devices;
    })
