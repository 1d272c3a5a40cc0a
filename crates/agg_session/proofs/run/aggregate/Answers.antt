use Rattle.std.proofs.Common.{[], Some, subst, ap, refl, ◌∙◌, arith}
use Rattle.agg_core.proofs.Kept.{outside-refl}
use Rattle.session_link.specs.declared.limits.Limits.{Limits}
use Rattle.agg_session.specs.declared.status.Status.TheVariants as status
use Rattle.agg_session.specs.Served.{EndsLong}
use Rattle.agg_session.specs.Top.{usual_limits}
use Rattle.agg_session.proofs.TakingLaws.{untaken, takes_at_most}
use Rattle.agg_session.proofs.TopLaws.{complete, short_run, usage_of_words, complete_of_words, not_status, not_between, ends_unread}
use Rattle.agg_session.proofs.run.aggregate.Goals as goal

pub returns-in-Ok-Run-clause-complete : goal.returns-in-Ok-Run-clause-complete
returns-in-Ok-Run-clause-complete g c = λ words source sink disk keeper short.
    complete c.run_plain.result.status c.run_plain.ensures.usage
    (λ is. source (c.run_plain.ensures.source is)) (λ is. sink (c.run_plain.ensures.sink is)) (λ is. disk (c.run_plain.ensures.disk is)) (λ is. keeper (c.run_plain.ensures.keeper is))
    (λ is. short_run (g.I.Source.left c.args.source.now) (g.I.Source.left c.run_plain.new.source) 1099511627776
    (λ input told. subst (λ (l : Limits). EndsLong l.bytes input (g.I.Source.left c.run_plain.new.source)) c.usual-limits.ensures (c.run_plain.ensures.long is input told))
    short)

pub returns-in-Err-clause-done : goal.returns-in-Err-clause-done
returns-in-Err-clause-done g c = λ is h holds size asks. absurd (not_status c.in-Err.error c.from.result c.from.ensures status.Done (λ e. cc) (λ e. cc) is)

pub returns-in-Err-clause-between : goal.returns-in-Err-clause-between
returns-in-Err-clause-between g c = λ is h holds size asks. absurd (not_between c.in-Err.error c.from.result c.from.ensures _ _ _ is)

pub returns-in-Err-clause-within : goal.returns-in-Err-clause-within
returns-in-Err-clause-within g c = λ is h holds size asks.
    ends_unread usual_limits size (g.I.Source.left c.args.source.now) (g.O.Sink.bytes c.args.sink.now) (g.K.Keeper.held c.args.keeper) (g.D.Disk.files c.args.disk) (holds ∙ ap Some (c.requires.no_rows h holds)) c.requires.no_files

pub returns-in-Err-clause-usage : goal.returns-in-Err-clause-usage
returns-in-Err-clause-usage g c = usage_of_words c.in-Err.error c.from.result c.read_words.result _ c.from.ensures c.in-Err.is c.read_words.ensures.usage

pub returns-in-Err-clause-complete : goal.returns-in-Err-clause-complete
returns-in-Err-clause-complete g c = λ some source sink disk keeper short.
    complete_of_words c.in-Err.error c.from.result c.read_words.result _ c.from.ensures c.in-Err.is c.read_words.ensures.usage some

pub returns-in-Err-clause-read_whole : goal.returns-in-Err-clause-read_whole
returns-in-Err-clause-read_whole g c = λ is. absurd (not_status c.in-Err.error c.from.result c.from.ensures status.Done (λ e. cc) (λ e. cc) is)

pub returns-in-Err-clause-read_fewer : goal.returns-in-Err-clause-read_fewer
returns-in-Err-clause-read_fewer g c = λ is. absurd (not_status c.in-Err.error c.from.result c.from.ensures status.Done (λ e. cc) (λ e. cc) is)

pub returns-in-Err-clause-read_at_most : goal.returns-in-Err-clause-read_at_most
returns-in-Err-clause-read_at_most g c =
    takes_at_most (g.I.Source.left c.args.source.now) (g.I.Source.left c.args.source.now) [] usual_limits.bytes (untaken (g.I.Source.left c.args.source.now) (g.I.Source.left c.args.source.now) refl) (omega arith)

pub returns-in-Err-clause-outside : goal.returns-in-Err-clause-outside
returns-in-Err-clause-outside g c = outside-refl (g.D.Disk.files c.args.disk)

pub returns-in-Err-clause-source : goal.returns-in-Err-clause-source
returns-in-Err-clause-source g c = λ is. absurd (not_status c.in-Err.error c.from.result c.from.ensures status.SourceFault (λ e. cc) (λ e. cc) is)

pub returns-in-Err-clause-sink : goal.returns-in-Err-clause-sink
returns-in-Err-clause-sink g c = λ is. absurd (not_status c.in-Err.error c.from.result c.from.ensures status.SinkFault (λ e. cc) (λ e. cc) is)

pub returns-in-Err-clause-disk : goal.returns-in-Err-clause-disk
returns-in-Err-clause-disk g c = λ is. absurd (not_status c.in-Err.error c.from.result c.from.ensures status.DiskFault (λ e. cc) (λ e. cc) is)

pub returns-in-Err-clause-keeper : goal.returns-in-Err-clause-keeper
returns-in-Err-clause-keeper g c = λ is. absurd (not_status c.in-Err.error c.from.result c.from.ensures status.KeeperFault (λ e. cc) (λ e. cc) is)

pub returns-in-Err-clause-long : goal.returns-in-Err-clause-long
returns-in-Err-clause-long g c = λ is. absurd (not_status c.in-Err.error c.from.result c.from.ensures status.Long (λ e. cc) (λ e. cc) is)
