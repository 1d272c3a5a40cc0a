use Rattle.std.proofs.Common.{◌≡◌, ◌<◌, ◌+◌, ◌-◌, ◌*◌, ◌/◌, ◌^◌, ℕ, min, refl, ap, sym, subst, ◌∙◌, arith}
use Rattle.std.proofs.lemmas.Bool.{false≢true}
use Rattle.word_file.specs.Paired.{key_count}
use Rattle.btree_index.specs.Keys.{IsNotBelow}
use Rattle.btree_index.specs.Levels.{entries}
use Rattle.btree_index.proofs.Searches.{IsSearching, begins, entry_place, goes_up, goes_down}
use Rattle.btree_index.proofs.search.search.Goals as goal

pub loop-low-init : goal.loop-low-init
loop-low-init g c =
    let words = c.args.words.now.words in
    let r = c.requires in
    let high : c.min-high.result ≡ min c.args.to (entries (key_count words) c.args.level) =
    c.min-high.ensures ∙ ap (min c.args.to) (c.entries_of.ensures ∙ ap (λ (n : ℕ). entries (n / 2) c.args.level) c.count.ensures.count)
    in
    subst (λ (h : ℕ). IsSearching words c.args.key.now c.args.level c.args.from h c.args.steps.now c.args.steps.now) (sym high)
    (begins words c.args.key.now c.args.level c.args.from c.args.to c.args.steps.now r.order r.some r.few r.below r.not_below)

pub overflow_mul-middle : goal.overflow_mul-middle
overflow_mul-middle g c = omega (arith, c.loop-low.invariant.within, c.requires.part.long)

pub u64_at-at-requires : goal.u64_at-at-requires
u64_at-at-requires g c = omega (arith, c.loop-low.invariant.within, c.requires.part.long)

pub is_below-requires : goal.is_below-requires
is_below-requires g c =
    let middle = c.loop-low.low + (c.loop-low.high - c.loop-low.low) / 2 in
    let lt : middle < entries (key_count c.args.words.now.words) c.args.level = omega (arith, c.loop-low.invariant.within) in
    (2 * (middle * 16 ^ c.args.level), entry_place c.args.words.now.words c.args.part.now c.args.level middle c.u64_at-at.result c.requires.part lt c.u64_at-at.ensures)

pub loop-low-preserved-then-is_below : goal.loop-low-preserved-then-is_below
loop-low-preserved-then-is_below g c =
    let middle = c.loop-low.low + (c.loop-low.high - c.loop-low.low) / 2 in
    let lt : middle < entries (key_count c.args.words.now.words) c.args.level = omega (arith, c.loop-low.invariant.within) in
    let place = entry_place c.args.words.now.words c.args.part.now c.args.level middle c.u64_at-at.result c.requires.part lt c.u64_at-at.ensures in
    let below = (c.is_below.ensures.value (2 * (middle * 16 ^ c.args.level)) place).0 c.if-is_below.true in
    goes_up c.args.words.now.words c.args.key.now c.args.level c.loop-low.low c.loop-low.high middle c.args.steps.now c.loop-low.steps c.is_below.new.steps c.requires.ascending c.loop-low-test.true refl
    c.is_below.ensures.steps below c.loop-low.invariant

pub loop-low-preserved : goal.loop-low-preserved
loop-low-preserved g c =
    let middle = c.loop-low.low + (c.loop-low.high - c.loop-low.low) / 2 in
    let lt : middle < entries (key_count c.args.words.now.words) c.args.level = omega (arith, c.loop-low.invariant.within) in
    let place = entry_place c.args.words.now.words c.args.part.now c.args.level middle c.u64_at-at.result c.requires.part lt c.u64_at-at.ensures in
    let known = c.is_below.ensures.value (2 * (middle * 16 ^ c.args.level)) place in
    goes_down c.args.words.now.words c.args.key.now c.args.level c.loop-low.low c.loop-low.high middle c.args.steps.now c.loop-low.steps c.is_below.new.steps c.loop-low-test.true refl c.is_below.ensures.steps
    (λ below. false≢true (sym c.if-is_below.false ∙ known.1 below)) c.loop-low.invariant

pub returns-clause-within : goal.returns-clause-within
returns-clause-within g c = omega (arith, c.loop-low.invariant.order, c.loop-low.invariant.within)

pub returns-clause-below : goal.returns-clause-below
returns-clause-below g c = c.loop-low.invariant.below

pub returns-clause-not_below : goal.returns-clause-not_below
returns-clause-not_below g c =
    let same : c.loop-low.high ≡ c.loop-low.low = omega (arith, c.loop-low.invariant.order) in
    subst (λ (m : ℕ). IsNotBelow c.args.words.now.words c.args.key.now c.args.level m) same c.loop-low.invariant.not_below

pub returns-clause-steps : goal.returns-clause-steps
returns-clause-steps g c = omega (arith, c.loop-low.invariant.taken, c.loop-low.invariant.few)
