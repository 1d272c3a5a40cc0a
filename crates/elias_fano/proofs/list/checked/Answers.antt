use Rattle.std.proofs.Common.{◌≡◌, ◌∙◌, ap, sym, refl, arith, Some, None}
use Rattle.std.specs.Option.{option_or, option_map}
use Rattle.elias_fano.specs.declared.error.EfError.TheVariants.{Unused}
use Rattle.bit_store.proofs.Texts.{IsBytes}
use Rattle.elias_fano.specs.Reading.{item_fault, parts_in, last_in}
use Rattle.elias_fano.proofs.Checked.{fault-late, lower-len, upper-len}
use Rattle.elias_fano.proofs.Known.{known_fine}
use Rattle.elias_fano.proofs.list.checked.Goals as goal

pub returns-in-Some-clause-err : goal.returns-in-Some-clause-err
returns-in-Some-clause-err c =
    let h = c.in_ok-header.ensures.ok in
    fault-late c.args.bytes.now h.some h.size ∙ (rw (← c.in-Some.ensures) refl)

pub fault_of-requires-clause-lower : goal.fault_of-requires-clause-lower
fault_of-requires-clause-lower c = rw c.parts_of-parts.ensures (lower-len c.args.bytes.now c.in_ok-header.ensures.ok.size)

pub fault_of-requires-clause-upper : goal.fault_of-requires-clause-upper
fault_of-requires-clause-upper c = rw (c.parts_of-parts.ensures, c.in_ok-header.ensures.ok.last) (upper-len c.args.bytes.now c.in_ok-header.ensures.ok.size)

pub invariant_of-result : goal.invariant_of-result
invariant_of-result c =
    let h = c.in_ok-header.ensures.ok in
    let fine : item_fault (last_in c.args.bytes.now) (parts_in c.args.bytes.now) ≡ None = sym (c.in-None.ensures ∙ ap (λ p. item_fault c.in_ok-header.header.last p) c.parts_of-parts.ensures ∙ ap (λ n. item_fault n (parts_in c.args.bytes.now)) h.last) in
    let bytes : IsBytes c.args.bytes.now = λ i. omega (arith, c.type_inv.bytes i) in
    rw c.parts_of-parts.ensures (known_fine c.args.bytes.now bytes c.requires (record { some = h.some; narrow = h.narrow; size = h.size; unused = sym c.in_default.ensures; items = fine }), tt)

pub returns-in-Some-fault_of-clause-err : goal.returns-in-Some-fault_of-clause-err
returns-in-Some-fault_of-clause-err c =
    let h = c.in_ok-header.ensures.ok in
    let fault : item_fault (last_in c.args.bytes.now) (parts_in c.args.bytes.now) ≡ Some c.in-Some-fault_of.fault = sym (c.in-Some-fault_of.ensures ∙ ap (λ p. item_fault c.in_ok-header.header.last p) c.parts_of-parts.ensures ∙ ap (λ n. item_fault n (parts_in c.args.bytes.now)) h.last) in
    fault-late c.args.bytes.now h.some h.size ∙ ap (λ o. option_or (option_map (λ bit. Unused bit) o) (item_fault (last_in c.args.bytes.now) (parts_in c.args.bytes.now))) (sym c.in_default.ensures) ∙ fault
