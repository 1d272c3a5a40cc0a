use Rattle.std.proofs.Common.{◌≡◌, true, ◌+◌, refl, arith, ap, sym, ◌∙◌, subst, List}
use Rattle.agg_model.specs.declared.change.Change.{Change}
use Rattle.agg_model.specs.Batch.{content_of, HasNoRepeats}
use Rattle.agg_model.specs.ChangeList.{next_of, begins_from}
use Rattle.agg_model.specs.Merged.{merged}
use Rattle.agg_model.proofs.MergedLaws.{merged-HasNoRepeats}
use Rattle.state_store.proofs.AcceptLaws.{can_add, next_batch, small_content, early_numbers, sound_after, commits_after, ingested, sees_after}
use Rattle.state_store.proofs.ResumeLaws.{commits_resumed}
use Rattle.agg_core.proofs.Kept.{outside-refl}
use Rattle.state_store.proofs.store.Store.accept.Goals as goal

pub content-more-requires : goal.content-more-requires
content-more-requires g c =
    small_content c.args.pending c.in_ok-batch.batch c.args.most c.in_ok-batch.ensures c.requires.raw c.requires.limit

pub overflow_add-self : goal.overflow_add-self
overflow_add-self g c =
    omega (
      arith,
      c.requires.sound.content,
      c.requires.limit,
      c.content-more.ensures,
      small_content c.args.pending c.in_ok-batch.batch c.args.most c.in_ok-batch.ensures c.requires.raw c.requires.limit,
    )

pub next_of-next-requires : goal.next_of-next-requires
next_of-next-requires g c =
    early_numbers c.args.self.now.next _ c.args.pending c.in_ok-batch.batch c.in_ok-batch.ensures c.requires.batch
    (omega (arith, c.requires.sound.size_within))

pub ingest-requires-clause-apart : goal.ingest-requires-clause-apart
ingest-requires-clause-apart g c =
    subst (λ (cs : List Change). HasNoRepeats cs) (sym c.in_ok-batch.ensures) (merged-HasNoRepeats c.args.pending)

pub ingest-requires-clause-new : goal.ingest-requires-clause-new
ingest-requires-clause-new g c =
    let begins : begins_from c.args.self.now.next c.args.pending ≡ true = sym c.begins_from.ensures ∙ c.if-not-begins_from.false in
    can_add c.args.self.now.hot c.args.self.now.next _ c.args.pending c.in_ok-batch.batch c.in_ok-batch.ensures c.requires.sound.below
    (next_batch c.args.self.now.next _ c.args.pending c.requires.batch begins)

pub returns-clause-sound : goal.returns-clause-sound
returns-clause-sound g c =
    let begins : begins_from c.args.self.now.next c.args.pending ≡ true = sym c.begins_from.ensures ∙ c.if-not-begins_from.false in
    sound_after c.args.most c.args.self.now c.ingest.new.self (merged c.args.pending) c.next_of-next.result _ c.requires.sound
    (next_batch c.args.self.now.next _ c.args.pending c.requires.batch begins)
    (ingested c.args.self.now.hot c.ingest.new.self c.args.pending c.in_ok-batch.batch c.in_ok-batch.ensures c.in_ok-ingest.ensures.epoch c.in_ok-ingest.ensures.changes c.in_ok-ingest.ensures.silent c.in_ok-ingest.ensures.ok)
    (c.next_of-next.ensures ∙ ap (next_of c.args.self.now.next) c.in_ok-batch.ensures)
    (omega (arith, c.if-self-more.false))

pub returns-clause-commits : goal.returns-clause-commits
returns-clause-commits g c =
    let begins : begins_from c.args.self.now.next c.args.pending ≡ true = sym c.begins_from.ensures ∙ c.if-not-begins_from.false in
    let more : c.content-more.result ≡ content_of (merged c.args.pending) = c.content-more.ensures ∙ ap content_of c.in_ok-batch.ensures in
    rw (c.len-changes.ensures, c.in_ok-batch.ensures)
    (commits_after g.D.Disk c.args.most c.args.self.now c.ingest.new.self c.args.pending c.next_of-next.result _ c.requires.batch begins
    (omega (arith, c.if-self-more.false, more))
    (ingested c.args.self.now.hot c.ingest.new.self c.args.pending c.in_ok-batch.batch c.in_ok-batch.ensures c.in_ok-ingest.ensures.epoch c.in_ok-ingest.ensures.changes c.in_ok-ingest.ensures.silent c.in_ok-ingest.ensures.ok)
    (c.next_of-next.ensures ∙ ap (next_of c.args.self.now.next) c.in_ok-batch.ensures)
    (ap (λ n. c.args.self.now.content + n) more))

pub returns-clause-resumes : goal.returns-clause-resumes
returns-clause-resumes g c =
    let begins : begins_from c.args.self.now.next c.args.pending ≡ true = sym c.begins_from.ensures ∙ c.if-not-begins_from.false in
    let more : c.content-more.result ≡ content_of (merged c.args.pending) = c.content-more.ensures ∙ ap content_of c.in_ok-batch.ensures in
    rw (c.len-changes.ensures, c.in_ok-batch.ensures)
    (commits_resumed g.D.Disk c.args.most c.args.self.now c.ingest.new.self c.args.pending c.next_of-next.result _ c.requires.batch begins
    (omega (arith, c.if-self-more.false, more))
    (ingested c.args.self.now.hot c.ingest.new.self c.args.pending c.in_ok-batch.batch c.in_ok-batch.ensures c.in_ok-ingest.ensures.epoch c.in_ok-ingest.ensures.changes c.in_ok-ingest.ensures.silent c.in_ok-ingest.ensures.ok)
    (c.next_of-next.ensures ∙ ap (next_of c.args.self.now.next) c.in_ok-batch.ensures)
    (ap (λ n. c.args.self.now.content + n) more))

pub returns-clause-goes : goal.returns-clause-goes
returns-clause-goes g c = record {
  outside = outside-refl (g.D.Disk.files c.args.self.now.disk);
  size = refl;
  end = omega arith;
  disk_faults = omega arith;
  keeper_faults = c.in_ok-ingest.ensures.cause.no_fall;
  sees = sees_after c.args.self.now.hot c.ingest.new.self c.args.self.now.size c.in_ok-ingest.ensures.epoch c.in_ok-ingest.ensures.earlier c.in_ok-ingest.ensures.silent;
}
