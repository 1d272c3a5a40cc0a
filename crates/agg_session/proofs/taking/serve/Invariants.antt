use Rattle.std.proofs.Common.{◌≡◌, ◌≤◌, ◌+◌, ◌-◌, length, None}
use Rattle.line_words.specs.LineCut.{next_cut}
use Rattle.state_store.specs.Store.{Goes}
use Rattle.agg_session.specs.Served.{IsServed, Progress}
use Rattle.agg_session.proofs.taking.serve.Given as goal

abbrev pub invariant-loop-taken : goal.invariant-loop-taken
invariant-loop-taken g l = record {
  sound : IsServed l.limits l.served;
  none : (next_cut l.served.cut).0 ≡ None;
  lines : l.served.lines + length l.served.cut.left ≤ l.taken;
  within : l.taken ≤ l.limits.bytes;
  progress : Progress g.D.Disk l.limits l.initial.served l.served (g.O.Sink.bytes l.initial.sink) (g.O.Sink.bytes l.sink) (g.I.Source.left l.initial.source) (g.I.Source.left l.source) l.taken;
  source : g.I.Source.faults l.initial.source ≤ g.I.Source.faults l.source;
  goes : Goes g.D.Disk l.initial.served.session.store l.served.session.store;
  sink : g.O.Sink.faults l.initial.sink ≤ g.O.Sink.faults l.sink;
}

abbrev pub decreases-loop-taken : goal.decreases-loop-taken
decreases-loop-taken g l = l.limits.bytes - l.taken
