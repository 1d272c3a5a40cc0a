use Rattle.std.proofs.Common.{◌≡◌, ◌-◌, ℕ, List, suc, length, ap, subst, ◌∙◌, arith}
use Rattle.file_numbers.specs.Lists.{AreNumbers}
use Rattle.btree_index.specs.Levels.{entries, levels, spelling}
use Rattle.std.proofs.lemmas.List.{take_rest, length-drop}
use Rattle.word_file.specs.Paired.{key_count, key_offsets}
use Rattle.btree_index.proofs.Spellings.{held_as, spelling_long, spelling_16}
use Rattle.btree_index.proofs.Seeks.{length-key_offsets}
use Rattle.btree_index.proofs.Descents.{begins, goes_on, level_here}
use Rattle.btree_index.proofs.file.BTreeFile.seek.Goals as goal

pub loop-level-init : goal.loop-level-init
loop-level-init g c =
    let words = c.args.words.now.words in
    let h = held_as c.args.self.now c.self.invariant c.self.view_is in
    let is = c.as_slice-bytes.ensures ∙ h.spelled ∙ ap spelling c.requires.of_words in
    let count = h.counted ∙ ap length c.requires.of_words ∙ length-key_offsets words in
    begins words c.args.key.now c.as_slice-bytes.result.now c.levels_of-level.result c.args.steps.now is (spelling_16 (key_offsets words) _ is) (c.levels_of-level.ensures.value ∙ ap levels count)
    c.levels_of-level.ensures.few (omega (arith, spelling_long (key_offsets words) c.as_slice-bytes.result.now is, length-key_offsets words))

held_fits : (words : List (List ℕ)) (offsets : List ℕ) → offsets ≡ key_offsets words → AreNumbers offsets → AreNumbers (key_offsets words)
held_fits words offsets is fits = subst (λ (x : List ℕ). AreNumbers x) is fits

held_entries : (words : List (List ℕ)) (offsets : List ℕ) (count result level : ℕ) → offsets ≡ key_offsets words → count ≡ length offsets → result ≡ entries count level → result ≡ entries (key_count words) level
held_entries words offsets count result level is counted given = given ∙ ap (λ (n : ℕ). entries n level) (counted ∙ ap length is ∙ length-key_offsets words)

pub search-place-requires-clause-part : goal.search-place-requires-clause-part
search-place-requires-clause-part g c =
    let words = c.args.words.now.words in
    let h = held_as c.args.self.now c.self.invariant c.self.view_is in
    rw take_rest (level_here (held_fits words c.args.self.now c.requires.of_words h.fits) c.loop-level-test.true c.loop-level.invariant)

pub overflow_mul-start : goal.overflow_mul-start
overflow_mul-start g c =
    let words = c.args.words.now.words in
    let h = held_as c.args.self.now c.self.invariant c.self.view_is in
    let here = level_here (held_fits words c.args.self.now c.requires.of_words h.fits) c.loop-level-test.true c.loop-level.invariant in
    omega (arith, here.long, length-drop c.loop-level.start c.as_slice-bytes.result.now, held_entries words c.args.self.now c.self.inside.count c.entries_of.result (c.loop-level.level - 1) c.requires.of_words h.counted c.entries_of.ensures)

pub overflow_add-start : goal.overflow_add-start
overflow_add-start g c =
    let words = c.args.words.now.words in
    let h = held_as c.args.self.now c.self.invariant c.self.view_is in
    let here = level_here (held_fits words c.args.self.now c.requires.of_words h.fits) c.loop-level-test.true c.loop-level.invariant in
    omega (arith, here.long, c.loop-level.invariant.started, length-drop c.loop-level.start c.as_slice-bytes.result.now, held_entries words c.args.self.now c.self.inside.count c.entries_of.result (c.loop-level.level - 1) c.requires.of_words h.counted c.entries_of.ensures)

pub overflow_mul-to : goal.overflow_mul-to
overflow_mul-to g c =
    let words = c.args.words.now.words in
    let h = held_as c.args.self.now c.self.invariant c.self.view_is in
    let here = level_here (held_fits words c.args.self.now c.requires.of_words h.fits) c.loop-level-test.true c.loop-level.invariant in
    omega (arith, here.long, length-drop c.loop-level.start c.as_slice-bytes.result.now, c.search-place.ensures.within)

pub loop-level-preserved : goal.loop-level-preserved
loop-level-preserved g c =
    let words = c.args.words.now.words in
    let h = held_as c.args.self.now c.self.invariant c.self.view_is in
    let here = level_here (held_fits words c.args.self.now c.requires.of_words h.fits) c.loop-level-test.true c.loop-level.invariant in
    let down : c.loop-level.level ≡ suc (c.loop-level.level - 1) = omega arith in
    let all = held_entries words c.args.self.now c.self.inside.count c.entries_of.result (c.loop-level.level - 1) c.requires.of_words h.counted c.entries_of.ensures in
    rw (c.saturating_sub-from.ensures, all)
    (goes_on words c.args.key.now c.as_slice-bytes.result.now c.loop-level.level (c.loop-level.level - 1) c.loop-level.start c.loop-level.from c.loop-level.to c.loop-level.place c.search-place.result c.args.steps.now
    c.loop-level.steps c.search-place.new.steps c.requires.ascending down here c.search-place.ensures.within c.search-place.ensures.below c.search-place.ensures.not_below c.search-place.ensures.steps c.loop-level.invariant)
