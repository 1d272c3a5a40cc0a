use Rattle.std.proofs.Common.{◌≡◌, ℕ, Result, Ok, sym, arith, rules}
use Rattle.word_file.specs.declared.error.WordError.{WordError}
use Rattle.word_file.specs.Reading.{checked_count}
use Rattle.word_file.proofs.Headers.{held_from_count}
use Rattle.word_file.proofs.read.check_bytes.Goals as goal

abbrev given : ℕ → Result ℕ WordError
given n = Ok n

pub returns-clause-held : goal.returns-clause-held
unfolding checked_count
returns-clause-held c =
    let count : given c.in_ok-found.found ≡ checked_count c.args.bytes.now = search rules in
    held_from_count c.args.bytes.now c.in_ok-found.found (λ i. omega (arith, c.type_inv.bytes i)) (sym count)
