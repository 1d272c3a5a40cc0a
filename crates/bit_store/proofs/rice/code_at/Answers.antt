use Rattle.std.proofs.Common.{◌≡◌, ◌≤◌, ◌<◌, ◌+◌, ◌-◌, ◌*◌, ◌%◌, ◌^◌, arith, length, take, drop}
use Rattle.std.proofs.Math.Nat.{mod-eq_of_lt}
use Rattle.std.proofs.lemmas.Nat.{shr_split}
use Rattle.std.proofs.lemmas.List.{length-take, length-drop}
use Rattle.bit_store.specs.Rice.{rice_code, StandsAt}
use Rattle.bit_store.proofs.Numbers.{number_of-lt}
use Rattle.bit_store.proofs.Codes.{coded, has_one, found, value_fits, too_many}
use Rattle.bit_store.proofs.rice.code_at.Goals as goal
use Rattle.bit_store.proofs.rice.code_at.Goals.{then-len-start-via-then-len-start, then-len-start-via-else-len-start+then-zeros-r}

pub returns-in_err-one-clause-only : goal.returns-in_err-one-clause-only
returns-in_err-one-clause-only c v lt stands =
    absurd (omega (arith, has_one c.args.view.now c.args.at c.args.r v stands, c.in_err-one.ensures.none))

pub returns-then-len-start-clause-only : goal.returns-then-len-start-clause-only
returns-then-len-start-clause-only c v lt stands =
    let f = found c.args.view.now c.args.at c.in_ok-one.one c.args.r v c.in_ok-one.ensures.found.0 c.in_ok-one.ensures.found.1 c.in_ok-one.ensures.found.2 stands in
    elim c.then-len-start.branch [
      | then-len-start-via-then-len-start w ↦ absurd (omega (arith, f.long, w.if-len-start.true, c.from-width.ensures, c.len-len.ensures))
      | then-len-start-via-else-len-start+then-zeros-r w ↦ too_many (c.in_ok-one.one - c.args.at) c.args.r v lt w.if-zeros-r.true f.high
    ]

field_small : (c : goal.After-field) → c.field.result < 2 ^ c.args.r
field_small c =
    let rest = drop (c.in_ok-one.one + 1) c.args.view.now in
    let long : c.in_ok-one.one + 1 + c.args.r ≤ length c.args.view.now = omega (arith, c.if-len-start.false, c.from-width.ensures, c.len-len.ensures, c.in_ok-one.ensures.found.1.0) in
    let len : length (take c.args.r rest) ≡ c.args.r = omega (arith, length-take c.args.r rest, length-drop (c.in_ok-one.one + 1) c.args.view.now) in
    rw c.field.ensures (rw len at (number_of-lt (take c.args.r rest)))

value_is : (c : goal.After-field) → ((c.in_ok-one.one - c.args.at) * 2 ^ c.args.r % 18446744073709551616 ≡ (c.in_ok-one.one - c.args.at) * 2 ^ c.args.r) × ((c.in_ok-one.one - c.args.at) * 2 ^ c.args.r + c.field.result < 2 ^ 64)
value_is c =
    let fits = value_fits (c.in_ok-one.one - c.args.at) c.args.r c.field.result c.requires c.if-zeros-r.false (field_small c) in
    (mod-eq_of_lt (omega arith), fits)

pub overflow_add-value : goal.overflow_add-value
overflow_add-value c = let e = value_is c in record { fits = rw e.0 e.1 }

read : (c : goal.After-field) → StandsAt c.args.view.now c.args.at (rice_code c.args.r ((c.in_ok-one.one - c.args.at) * 2 ^ c.args.r + c.field.result)) × (c.in_ok-one.one + 1 + c.args.r ≡ c.args.at + length (rice_code c.args.r ((c.in_ok-one.one - c.args.at) * 2 ^ c.args.r + c.field.result)))
read c =
    let long : c.in_ok-one.one + 1 + c.args.r ≤ length c.args.view.now = omega (arith, c.if-len-start.false, c.from-width.ensures, c.len-len.ensures, c.in_ok-one.ensures.found.1.0) in
    coded c.args.view.now c.args.at c.in_ok-one.one c.args.r c.field.result c.in_ok-one.ensures.found.0 c.in_ok-one.ensures.found.1 c.in_ok-one.ensures.found.2 long c.field.ensures

pub returns-clause-value : goal.returns-clause-value
returns-clause-value c = let e = value_is c in rw e.0 (e.1, (read c).0)

pub returns-clause-end : goal.returns-clause-end
returns-clause-end c = let e = value_is c in rw (e.0, c.from-width.ensures) ((read c).1)

pub returns-clause-only : goal.returns-clause-only
returns-clause-only c v lt stands =
    let e = value_is c in
    let f = found c.args.view.now c.args.at c.in_ok-one.one c.args.r v c.in_ok-one.ensures.found.0 c.in_ok-one.ensures.found.1 c.in_ok-one.ensures.found.2 stands in
    rw (e.0, c.field.ensures, f.field, f.high) (shr_split v c.args.r)
