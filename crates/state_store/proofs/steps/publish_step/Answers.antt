use Rattle.state_store.proofs.StepFiles.{step_ok, step_err, step_named, outside_published}
use Rattle.state_store.proofs.PartFiles.{part_ok, part_err, one_err}
use Rattle.state_store.proofs.steps.publish_step.Goals as goal

pub returns-clause-ok : goal.returns-clause-ok
returns-clause-ok g c = λ list below next has.
    step_ok list c.args.step below _ next (c.name_laws.ensures.apart list c.args.step next.early) (c.name_laws.ensures.step list c.args.step) (c.publish_laws.ensures.step list c.args.step)
    (λ names before now are had published. c.exact_laws.ensures list c.args.step names before now next.early are had published)
    (g.D.Disk.files c.args.disk.now) (g.D.Disk.files c.publish_groups.new.disk) c.publish_groups.result c.publish_groups.ensures.ok c.publish_groups.ensures.silent has

pub returns-clause-err : goal.returns-clause-err
returns-clause-err g c = λ list below next has.
    step_err list c.args.step below _ next (c.name_laws.ensures.apart list c.args.step next.early) (c.name_laws.ensures.step list c.args.step) (c.publish_laws.ensures.step list c.args.step)
    (g.D.Disk.files c.args.disk.now) (g.D.Disk.files c.publish_groups.new.disk) c.publish_groups.result c.publish_groups.ensures.err c.publish_groups.ensures.silent has

pub returns-clause-outside : goal.returns-clause-outside
returns-clause-outside g c =
    outside_published _ (g.D.Disk.files c.args.disk.now) (g.D.Disk.files c.publish_groups.new.disk) c.publish_groups.result (step_named c.args.step _ c.requires.of_step)
    c.publish_groups.ensures.ok c.publish_groups.ensures.err c.publish_groups.ensures.silent

pub returns-clause-one_temporary : goal.returns-clause-one_temporary
returns-clause-one_temporary g c = λ list below next has.
    one_err list c.args.step below _ next (c.name_laws.ensures.apart list c.args.step next.early) (c.name_laws.ensures.step list c.args.step) (c.publish_laws.ensures.step list c.args.step)
    (g.D.Disk.files c.args.disk.now) (g.D.Disk.files c.publish_groups.new.disk) c.publish_groups.result c.publish_groups.ensures.err c.publish_groups.ensures.silent has

pub returns-clause-resumed : goal.returns-clause-resumed
returns-clause-resumed g c = λ list below next has.
    part_ok list c.args.step below _ next (c.name_laws.ensures.apart list c.args.step next.early) (c.name_laws.ensures.step list c.args.step) (c.publish_laws.ensures.step list c.args.step)
    (g.D.Disk.files c.args.disk.now) (g.D.Disk.files c.publish_groups.new.disk) c.publish_groups.result c.publish_groups.ensures.ok c.publish_groups.ensures.silent has

pub returns-clause-stopped : goal.returns-clause-stopped
returns-clause-stopped g c = λ list below next has.
    part_err list c.args.step below _ next (c.name_laws.ensures.apart list c.args.step next.early) (c.name_laws.ensures.step list c.args.step) (c.publish_laws.ensures.step list c.args.step)
    (g.D.Disk.files c.args.disk.now) (g.D.Disk.files c.publish_groups.new.disk) c.publish_groups.result c.publish_groups.ensures.err c.publish_groups.ensures.silent has
