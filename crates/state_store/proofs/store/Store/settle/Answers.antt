use Rattle.std.proofs.Common.{refl, ap, arith, ◌∙◌}
use Rattle.collate_step.specs.Groups.{GroupFiles}
use Rattle.visible_files.specs.Sets.{SetOf}
use Rattle.state_store.specs.declared.store.Store.{Store}
use Rattle.state_store.proofs.SettlingLaws.{all_steps, same_through, goes-refl, goes-trans}
use Rattle.state_store.proofs.ResumeLaws.{resumes_of, resumes_whole}
use Rattle.state_store.proofs.store.Store.settle.Goals as goal

pub loop-alloc-init : goal.loop-alloc-init
loop-alloc-init g c = record {
  sound = λ most sound. sound;
  holds = λ list holds. holds;
  resumes = λ list resumes. resumes;
  same = refl;
  pins = λ n. refl;
  goes = goes-refl g.D.Disk c.args.self.now;
}

pub loop-alloc-preserved : goal.loop-alloc-preserved
loop-alloc-preserved g c =
    let before = c.loop-alloc.invariant in
    let step = c.in_ok-settle_step.ensures in
    record {
      sound = λ most sound. step.sound most (before.sound most sound);
      holds = λ list holds. step.holds list (before.holds list holds);
      resumes = λ list resumes. resumes_of g.D.Disk c.settle_step.new.self list (step.resumed list (before.resumes list resumes));
      same = same_through c.args.self.now c.loop-alloc.self c.settle_step.new.self before.same step.same;
      pins = λ n. step.pins n ∙ before.pins n;
      goes = goes-trans g.D.Disk c.args.self.now c.loop-alloc.self c.settle_step.new.self before.goes step.goes;
    }

pub returns-clause-all : goal.returns-clause-all
returns-clause-all g c =
    let at = c.end.ensures ∙ ap (λ (s : SetOf GroupFiles). s.end) c.current.ensures in
    all_steps c.requires.sound.0 c.args.self.now c.loop-alloc.self
    (ap (λ (s : Store g.row.D.Denot g.row.K.Denot). s.next) c.loop-alloc.invariant.same)
    (ap (λ (s : Store g.row.D.Denot g.row.K.Denot). s.size) c.loop-alloc.invariant.same)
    (c.loop-alloc.invariant.sound c.requires.sound.0 c.requires.sound.1) (omega (arith, c.loop-alloc-test.false, at))

pub returns-clause-resumed : goal.returns-clause-resumed
returns-clause-resumed g c = λ list resumes.
    let at = c.end.ensures ∙ ap (λ (s : SetOf GroupFiles). s.end) c.current.ensures in
    let next = ap (λ (s : Store g.row.D.Denot g.row.K.Denot). s.next) c.loop-alloc.invariant.same in
    let size = ap (λ (s : Store g.row.D.Denot g.row.K.Denot). s.size) c.loop-alloc.invariant.same in
    resumes_whole g.D.Disk c.loop-alloc.self list (c.loop-alloc.invariant.sound c.requires.sound.0 c.requires.sound.1).size_from_one
    (rw (next, size) (omega (arith, c.loop-alloc-test.false, at))) (c.loop-alloc.invariant.resumes list resumes)
