use Rattle.std.proofs.Common.{◌-◌, ◌/◌, ℕ, refl, ap, arith}
use Rattle.std.proofs.lemmas.Result.{err_from_is_err_and}
use Rattle.word_file.specs.Paired.{key_offsets}
use Rattle.btree_index.proofs.Comparisons.{after_header, header_parts, after_level, level_parts, after_all}
use Rattle.btree_index.proofs.compare.after_all.Goals as goal

pub returns-in_err-end-clause-place : goal.returns-in_err-end-clause-place
returns-in_err-end-clause-place c =
    let p = err_from_is_err_and c.from_residual.result c.from_residual.ensures.1 in
    rw (p.1, p.2) (header_parts c.args.words.now.words c.args.bytes.now (c.count-count.result / 2) c.in_err-end.field-0.0 (ap (λ (n : ℕ). n / 2) c.count-count.ensures.count) c.in_err-end.ensures.place)

pub loop-level-init : goal.loop-level-init
loop-level-init c = record {
  few = c.levels_of-level.ensures.few;
  left =
      after_header c.args.words.now.words c.args.bytes.now (c.count-count.result / 2) c.levels_of-level.result c.in_ok-end.end (ap (λ (n : ℕ). n / 2) c.count-count.ensures.count) c.levels_of-level.ensures.value
      c.in_ok-end.ensures.end;
}

pub returns-in_err-end-2-clause-place : goal.returns-in_err-end-2-clause-place
returns-in_err-end-2-clause-place c =
    let p = err_from_is_err_and c.from_residual-in_err-end-2.result c.from_residual-in_err-end-2.ensures.1 in
    rw (p.1, p.2)
    (level_parts (key_offsets c.args.words.now.words) c.loop-level.level (c.loop-level.level - 1) c.in_err-end-2.field-0.0 c.loop-level-test.true refl c.in_err-end-2.ensures.place c.loop-level.invariant.left)

pub loop-level-preserved : goal.loop-level-preserved
loop-level-preserved c = record {
  few = omega (arith, c.loop-level.invariant.few);
  left =
      after_level (key_offsets c.args.words.now.words) c.loop-level.level (c.loop-level.level - 1) c.in_ok-end-2.end c.loop-level-test.true refl c.in_ok-end-2.ensures.end c.loop-level.invariant.left;
}

pub returns-clause-end : goal.returns-clause-end
returns-clause-end c = after_all (key_offsets c.args.words.now.words) c.loop-level.level (omega arith) c.loop-level.invariant.left
