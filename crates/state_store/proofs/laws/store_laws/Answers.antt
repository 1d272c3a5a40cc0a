use Rattle.std.proofs.Common.{subst}
use Rattle.collate_step.specs.Groups.{GroupFiles}
use Rattle.visible_files.specs.Sets.{SetOf, IsFileSet}
use Rattle.state_store.proofs.PlainLaws.{has_rows}
use Rattle.state_store.proofs.SettlingLaws.{few_steps, keeps_now}
use Rattle.state_store.proofs.ResumeLaws.{resumes_of, resumed_rows}
use Rattle.state_store.proofs.NameOrder.{names_in_order, files_in_order}
use Rattle.state_store.proofs.laws.store_laws.Goals as goal

abbrev IsItsSet : SetOf GroupFiles → Type 0
IsItsSet s = IsFileSet (λ (g : GroupFiles). g.entity) (λ (g : GroupFiles). g.range) s.groups s.ids s.end

pub returns-clause-rows : goal.returns-clause-rows
returns-clause-rows g c = λ list holds. has_rows list c.args.store.now.hot c.epoch-present.ensures.rows holds.rows holds.plain

pub returns-clause-keeps : goal.returns-clause-keeps
returns-clause-keeps g c = λ list holds. keeps_now g.D.Disk c.args.store.now list c.epoch-present.ensures.rows holds

pub returns-clause-resumes : goal.returns-clause-resumes
returns-clause-resumes g c = λ list holds. resumes_of g.D.Disk c.args.store.now list holds

pub returns-clause-rows_resumed : goal.returns-clause-rows_resumed
returns-clause-rows_resumed g c = λ list resumes. resumed_rows g.D.Disk c.args.store.now list c.epoch-present.ensures.rows resumes

pub returns-clause-names : goal.returns-clause-names
returns-clause-names g c = λ list holds.
    files_in_order list c.args.store.now.sets.current (few_steps list c.args.store.now.sets.current.end holds.valid holds.complete) (subst IsItsSet c.current.ensures c.groups-groups.ensures.set) holds.groups holds.single

pub returns-clause-names_kept : goal.returns-clause-names_kept
returns-clause-names_kept g c = λ list kept.
    names_in_order list c.args.store.now.sets.current (few_steps list c.args.store.now.sets.current.end kept.valid kept.complete) (subst IsItsSet c.current.ensures c.groups-groups.ensures.set) kept.groups kept.single
