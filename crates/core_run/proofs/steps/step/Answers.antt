use Rattle.core_run.specs.Running.{machine_of}
use Rattle.core_run.proofs.Callers.{any-ingest, any-publish, any-stray, any-sweep, any-settled}
use Rattle.core_run.proofs.steps.step.Goals as goal

pub returns-in-Ingest-clause-is : goal.returns-in-Ingest-clause-is
returns-in-Ingest-clause-is c =
    any-ingest _ c.args.entry.now (machine_of c.args.running.now) (machine_of c.ingest.new.running) _ c.ingest.result c.in-Ingest.is c.ingest.ensures.is

pub returns-in-Publish-clause-is : goal.returns-in-Publish-clause-is
returns-in-Publish-clause-is c =
    any-publish _ c.args.entry.now (machine_of c.args.running.now) (machine_of c.publish.new.running) _ _ c.publish.result c.in-Publish.is c.publish.ensures.is

pub returns-in-Stray-clause-is : goal.returns-in-Stray-clause-is
returns-in-Stray-clause-is c =
    any-stray _ c.args.entry.now (machine_of c.args.running.now) (machine_of c.stray.new.running) _ c.stray.result c.in-Stray.is c.stray.ensures.is

pub returns-in-Settled-clause-is : goal.returns-in-Settled-clause-is
returns-in-Settled-clause-is c =
    any-settled _ c.args.entry.now (machine_of c.args.running.now) (machine_of c.settled.new.running) _ c.settled.result c.in-Settled.is c.settled.ensures.is

pub returns-in-Sweep-clause-is : goal.returns-in-Sweep-clause-is
returns-in-Sweep-clause-is c =
    any-sweep _ c.args.entry.now (machine_of c.args.running.now) (machine_of c.sweep.new.running) _ c.sweep.result c.in-Sweep.is c.sweep.ensures.is
