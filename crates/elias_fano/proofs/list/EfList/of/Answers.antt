use Rattle.std.proofs.Common.{◌≡◌, ◌∙◌, ap, sym, arith}
use Rattle.bit_store.proofs.Texts.{IsBytes}
use Rattle.elias_fano.specs.Reading.{items_of, parts_in}
use Rattle.elias_fano.proofs.ReadBack.{Told, told}
use Rattle.elias_fano.proofs.Known.{known}
use Rattle.elias_fano.proofs.list.EfList.of.Goals as goal

pub known_header-header-requires-clause-some : goal.known_header-header-requires-clause-some
known_header-header-requires-clause-some c = let k = c.requires.known in (told k.0 c.args.bytes.now k.1.0 k.1.1).some

pub known_header-header-requires-clause-size : goal.known_header-header-requires-clause-size
known_header-header-requires-clause-size c = let k = c.requires.known in (told k.0 c.args.bytes.now k.1.0 k.1.1).size

pub invariant_of-result : goal.invariant_of-result
invariant_of-result c =
    let k = c.requires.known in
    let bytes : IsBytes c.args.bytes.now = λ i. omega (arith, c.type_inv.bytes i) in
    rw c.parts_of.ensures (known k.0 c.args.bytes.now bytes c.requires.small c.known_header-header.ensures.narrow (told k.0 c.args.bytes.now k.1.0 k.1.1), tt)

pub returns : goal.returns
returns c =
    let k = c.requires.known in
    let is : items_of c.parts_of.result ≡ k.0 = ap items_of c.parts_of.ensures ∙ (told k.0 c.args.bytes.now k.1.0 k.1.1).again in
    record {
      found = rw is k.1;
      only = λ items can e. ap items_of c.parts_of.ensures ∙ (told items c.args.bytes.now can e).again;
    }
