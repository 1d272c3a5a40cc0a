use Rattle.std.proofs.Common.{◌≡◌, ◌-◌, ◌<◌, ◌^◌, length, sym, subst, arith}
use Rattle.std.proofs.lemmas.List.{length-take}
use Rattle.history_core.specs.Befores.{IsInside}
use Rattle.history_core.specs.KeyWord.{key_in, number_in}
use Rattle.merge_files.proofs.history.are_row.Goals as goal

pub returns-then-value-le-VALUE_MOST : goal.returns-then-value-le-VALUE_MOST
unfolding key_in number_in
returns-then-value-le-VALUE_MOST c =
    let word = c.args.word.now in
    let number : c.u64_at-number.result ≡ number_in word = c.u64_at-number.ensures in
    let key = length-take (length word - 8) word in
    λ inside. record {
      long = omega arith;
      fits = record {
        lengths = record { not_empty = omega (arith, key); key_within = omega (arith, key); value_within = omega arith };
        number = record {
          fits = subst (λ n. n < 2 ^ 64) number c.u64_at-number.type_inv;
          inside = subst (IsInside c.args.tag) number (c.is_inside.ensures inside);
        };
      };
    }
