use Rattle.std.proofs.Common.{◌<◌, ◌/◌, ℕ, ap, ◌∙◌, arith}
use Rattle.std.proofs.lemmas.Result.{err_from_is_err_and}
use Rattle.btree_index.specs.Levels.{entries}
use Rattle.word_file.specs.Paired.{key_count}
use Rattle.btree_index.proofs.Comparisons.{reading_begins, reading_goes_on, reading_parts, reading_ends, entry_stands, entry_field}
use Rattle.btree_index.proofs.compare.after_read.Goals as goal

pub loop-k-init : goal.loop-k-init
loop-k-init c = reading_begins c.args.words.now.words c.args.bytes.now c.args.j c.args.at c.requires.at

pub overflow_mul-entry : goal.overflow_mul-entry
overflow_mul-entry c =
    let lt : c.loop-k.k < entries (key_count c.args.words.now.words) c.args.j =
    omega (arith, c.entries_of-k-end.ensures ∙ ap (λ (n : ℕ). entries (n / 2) c.args.j) c.count.ensures.count)
    in
    let there = entry_stands c.args.words.now.words c.args.bytes.now c.args.lowest c.args.j c.loop-k.k c.requires.lowest lt in
    rw c.stride_of-stride.ensures.value (omega (arith, there))

pub overflow_mul-entry-in-loop-k : goal.overflow_mul-entry-in-loop-k
overflow_mul-entry-in-loop-k c =
    let lt : c.loop-k.k < entries (key_count c.args.words.now.words) c.args.j =
    omega (arith, c.entries_of-k-end.ensures ∙ ap (λ (n : ℕ). entries (n / 2) c.args.j) c.count.ensures.count)
    in
    let there = entry_stands c.args.words.now.words c.args.bytes.now c.args.lowest c.args.j c.loop-k.k c.requires.lowest lt in
    rw c.stride_of-stride.ensures.value (omega (arith, there))

pub overflow_add-entry : goal.overflow_add-entry
overflow_add-entry c =
    let lt : c.loop-k.k < entries (key_count c.args.words.now.words) c.args.j =
    omega (arith, c.entries_of-k-end.ensures ∙ ap (λ (n : ℕ). entries (n / 2) c.args.j) c.count.ensures.count)
    in
    let there = entry_stands c.args.words.now.words c.args.bytes.now c.args.lowest c.args.j c.loop-k.k c.requires.lowest lt in
    rw c.stride_of-stride.ensures.value (omega (arith, there))

pub overflow_add-entry-in-loop-k : goal.overflow_add-entry-in-loop-k
overflow_add-entry-in-loop-k c =
    let lt : c.loop-k.k < entries (key_count c.args.words.now.words) c.args.j =
    omega (arith, c.entries_of-k-end.ensures ∙ ap (λ (n : ℕ). entries (n / 2) c.args.j) c.count.ensures.count)
    in
    let there = entry_stands c.args.words.now.words c.args.bytes.now c.args.lowest c.args.j c.loop-k.k c.requires.lowest lt in
    rw c.stride_of-stride.ensures.value (omega (arith, there))

pub slice_bounds-follow-end : goal.slice_bounds-follow-end
slice_bounds-follow-end c =
    let lt : c.loop-k.k < entries (key_count c.args.words.now.words) c.args.j =
    omega (arith, c.entries_of-k-end.ensures ∙ ap (λ (n : ℕ). entries (n / 2) c.args.j) c.count.ensures.count)
    in
    let there = entry_stands c.args.words.now.words c.args.bytes.now c.args.lowest c.args.j c.loop-k.k c.requires.lowest lt in
    rw c.stride_of-stride.ensures.value (omega (arith, there))

pub returns-in_err-end-clause-place : goal.returns-in_err-end-clause-place
returns-in_err-end-clause-place c =
    let p = err_from_is_err_and c.from_residual.result c.from_residual.ensures.1 in
    let lt : c.loop-k.k < entries (key_count c.args.words.now.words) c.args.j =
    omega (arith, c.entries_of-k-end.ensures ∙ ap (λ (n : ℕ). entries (n / 2) c.args.j) c.count.ensures.count)
    in
    let is = entry_field c.args.words.now.words c.args.bytes.now c.args.lowest c.args.j c.loop-k.k c.stride_of-stride.result c.requires.lowest lt c.stride_of-stride.ensures.value in
    rw (p.1, p.2) (reading_parts c.args.words.now.words c.args.bytes.now c.args.j c.args.at c.loop-k.k c.loop-k.end c.in_err-end.field-0.0 _ is lt c.loop-k.invariant c.in_err-end.ensures.place)

pub loop-k-preserved : goal.loop-k-preserved
loop-k-preserved c =
    let lt : c.loop-k.k < entries (key_count c.args.words.now.words) c.args.j =
    omega (arith, c.entries_of-k-end.ensures ∙ ap (λ (n : ℕ). entries (n / 2) c.args.j) c.count.ensures.count)
    in
    let is = entry_field c.args.words.now.words c.args.bytes.now c.args.lowest c.args.j c.loop-k.k c.stride_of-stride.result c.requires.lowest lt c.stride_of-stride.ensures.value in
    reading_goes_on c.args.words.now.words c.args.bytes.now c.args.j c.args.at c.loop-k.k c.loop-k.end c.in_ok-end.end _ is c.loop-k.invariant c.in_ok-end.ensures.end

pub returns-clause-end : goal.returns-clause-end
returns-clause-end c =
    reading_ends c.args.words.now.words c.args.bytes.now c.args.j c.args.at c.loop-k.k c.loop-k.end
    (omega (arith, c.loop-k.auto, c.entries_of-k-end.ensures ∙ ap (λ (n : ℕ). entries (n / 2) c.args.j) c.count.ensures.count)) c.loop-k.invariant
