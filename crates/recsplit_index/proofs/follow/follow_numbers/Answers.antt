use Rattle.std.proofs.Common.{ℕ, List, ◌++◌, ◌≡◌, ◌+◌, arith, take, refl, ap, subst}
use Rattle.file_numbers.specs.Lists.{number_bytes}
use Rattle.file_numbers.proofs.Listed.{are_numbers_within, numbers_none, numbers_next}
use Rattle.recsplit_index.specs.Layout.{Follows}
use Rattle.recsplit_index.proofs.follow.follow_numbers.Goals as goal

pub loop-number-init : goal.loop-number-init
loop-number-init c = record {
  text = λ at front f. subst (λ (x : List ℕ). Follows c.args.bytes.now at x c.args.so_far) (numbers_none front) f;
  within = c.requires;
}

pub loop-number-preserved : goal.loop-number-preserved
loop-number-preserved c =
    let numbers = c.args.numbers.now in
    let i = c.loop-number.number-index in
    record {
      text = λ at front f.
          let so_far = front ++ number_bytes (take i numbers) in
          let more : so_far ++ c.to_be_bytes.result ≡ front ++ number_bytes (take (i + 1) numbers) =
          numbers_next front numbers so_far (so_far ++ c.to_be_bytes.result) i c.loop-number-test.true refl (ap (λ (x : List ℕ). so_far ++ x) c.to_be_bytes.ensures)
          in
          subst (λ (x : List ℕ). Follows c.args.bytes.now at x c.follow_on-reached.result) more (c.follow_on-reached.ensures.text at so_far (c.loop-number.invariant.text at front f));
      within = c.follow_on-reached.ensures.within;
    }

pub returns-clause-fits : goal.returns-clause-fits
returns-clause-fits c = are_numbers_within c.args.numbers.now (λ k within. omega (arith, c.type_inv.numbers k))
