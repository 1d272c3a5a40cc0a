use Rattle.std.proofs.Common.{arith, refl, ◌∙◌, ◌≡◌, ◌+◌, ◌/◌, ◌-◌, ◌++◌, take, replicate, length, List, ℕ}
use Rattle.bit_store.proofs.Writing.{zeros_held}
use Rattle.bit_store.proofs.bits.Bits.push_zeros.Goals as goal

pub invariant_of-self-2 : goal.invariant_of-self-2
invariant_of-self-2 c =
    let len : ℕ = c.self.inside.len in
    let old : List ℕ = c.self.inside.bytes.items in
    let same : c.self.inside.bytes.len ≡ length old = omega arith in
    let grown : c.resize.new.self.items ≡ take ((len + c.args.count + 7) / 8) old ++ replicate ((len + c.args.count + 7) / 8 - length old) 0 = c.in_ok-resize.ensures.items ∙ (rw same refl) in
    (zeros_held len c.args.count old c.resize.new.self.items c.self.invariant grown).1

pub returns-clause-ok : goal.returns-clause-ok
returns-clause-ok c =
    let len : ℕ = c.self.inside.len in
    let old : List ℕ = c.self.inside.bytes.items in
    let same : c.self.inside.bytes.len ≡ length old = omega arith in
    let grown : c.resize.new.self.items ≡ take ((len + c.args.count + 7) / 8) old ++ replicate ((len + c.args.count + 7) / 8 - length old) 0 = c.in_ok-resize.ensures.items ∙ (rw same refl) in
    rw (← c.self.view_is) ((zeros_held len c.args.count old c.resize.new.self.items c.self.invariant grown).0)
