use Rattle.std.proofs.Common.{◌≡◌, ◌==◌, ◌<◌, ◌≤◌, ℕ, [], length, get_or, take, map}
use Rattle.merge_files.specs.Walks.{behind_word, words_given}
use Rattle.merge_files.proofs.least.give_all.Given as goal

abbrev pub invariant-loop-i : goal.invariant-loop-i
invariant-loop-i l = record {
  few : l.count ≤ l.i;
  passed : (j : ℕ) → j < l.i → get_or l.inputs j [] ≡ behind_word (get_or l.marks j 0 == l.turn) (get_or l.initial.inputs j []);
  rest : (j : ℕ) → l.i ≤ j → get_or l.inputs j [] ≡ get_or l.initial.inputs j [];
  given : map (λ w. w.now) (take l.count l.words) ≡ words_given l.turn (take l.i l.marks) (take l.i l.initial.inputs);
}
