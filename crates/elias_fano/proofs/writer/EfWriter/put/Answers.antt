use Rattle.std.proofs.Common.{◌≡◌, ℕ, ◌+◌, ◌-◌, ◌/◌, ◌^◌, ◌<◌, ◌≤◌, true, false, List, [], ◌∷◌, ◌++◌, length, replicate, sym, ap, ◌∙◌, arith}
use Rattle.std.proofs.lemmas.List.{length-append, length-replicate}
use Rattle.bit_store.specs.Bits.{low_bits}
use Rattle.elias_fano.specs.Spelling.{last_of}
use Rattle.elias_fano.specs.Writing.{Writing, IsWriting, items_in}
use Rattle.elias_fano.proofs.Upper.{low-one}
use Rattle.elias_fano.proofs.Written.{lower-room, upper-room, IsPut, put, same_items}
use Rattle.elias_fano.proofs.writer.EfWriter.put.Goals as goal

pub push-requires-clause-room : goal.push-requires-clause-room
push-requires-clause-room c =
    let s = c.self.inside in
    let items = items_in s.placed s.width s.lower.bits s.upper.bits in
    let fits : length items < s.count = rw (← c.self.view_is) at c.requires.fits in
    lower-room s.count s.last s.width s.placed s.high s.lower s.upper items c.self.invariant fits

pub push_zeros-requires : goal.push_zeros-requires
push_zeros-requires c =
    let s = c.self.inside in
    let items = items_in s.placed s.width s.lower.bits s.upper.bits in
    let fits : length items < s.count = rw (← c.self.view_is) at c.requires.fits in
    let up : last_of items ≤ c.args.item = rw (← c.self.view_is) at c.requires.ascends in
    let most : c.args.item ≤ s.last = rw (← c.self.view_is) at c.requires.most in
    omega (arith, upper-room s.count s.last s.width s.placed s.high c.args.item s.lower s.upper items c.self.invariant fits up most)

pub push-requires-2-clause-room : goal.push-requires-2-clause-room
push-requires-2-clause-room c =
    let s = c.self.inside in
    let items = items_in s.placed s.width s.lower.bits s.upper.bits in
    let fits : length items < s.count = rw (← c.self.view_is) at c.requires.fits in
    let up : last_of items ≤ c.args.item = rw (← c.self.view_is) at c.requires.ascends in
    let most : c.args.item ≤ s.last = rw (← c.self.view_is) at c.requires.most in
    let rise : ℕ = c.args.item / 2 ^ s.width - s.high in
    rw (c.push_zeros.ensures) (omega (arith, length-append s.upper.bits (replicate rise false), length-replicate rise false, upper-room s.count s.last s.width s.placed s.high c.args.item s.lower s.upper items c.self.invariant fits up most))

pub invariant_of-self : goal.invariant_of-self
invariant_of-self c =
    let s = c.self.inside in
    let items = items_in s.placed s.width s.lower.bits s.upper.bits in
    let fits : length items < s.count = rw (← c.self.view_is) at c.requires.fits in
    let up : last_of items ≤ c.args.item = rw (← c.self.view_is) at c.requires.ascends in
    let most : c.args.item ≤ s.last = rw (← c.self.view_is) at c.requires.most in
    let rise : ℕ = c.args.item / 2 ^ s.width - s.high in
    let zeros : c.push_zeros.new.self.bits ≡ s.upper.bits ++ replicate rise false = ap (λ r. r.bits) c.push_zeros.ensures in
    let ones : c.push-2.new.self.bits ≡ (s.upper.bits ++ replicate rise false) ++ true ∷ [] =
    ap (λ r. r.bits) c.push-2.ensures ∙ ap (λ bs. bs ++ low_bits 1 1) zeros ∙ ap (λ bs. (s.upper.bits ++ replicate rise false) ++ bs) low-one in
    let room : c.push-2.new.self.room ≡ s.upper.room = ap (λ r. r.room) c.push-2.ensures ∙ ap (λ r. r.room) c.push_zeros.ensures in
    let done = put s.count s.last s.width s.placed s.high c.args.item s.lower s.upper c.push.new.self c.push-2.new.self items c.self.invariant fits up most (ap (λ r. r.bits) c.push.ensures) (ap (λ r. r.room) c.push.ensures) ones room in
    done.writing

pub returns : goal.returns
returns c =
    let s = c.self.inside in
    let items = items_in s.placed s.width s.lower.bits s.upper.bits in
    let fits : length items < s.count = rw (← c.self.view_is) at c.requires.fits in
    let up : last_of items ≤ c.args.item = rw (← c.self.view_is) at c.requires.ascends in
    let most : c.args.item ≤ s.last = rw (← c.self.view_is) at c.requires.most in
    let rise : ℕ = c.args.item / 2 ^ s.width - s.high in
    let zeros : c.push_zeros.new.self.bits ≡ s.upper.bits ++ replicate rise false = ap (λ r. r.bits) c.push_zeros.ensures in
    let ones : c.push-2.new.self.bits ≡ (s.upper.bits ++ replicate rise false) ++ true ∷ [] =
    ap (λ r. r.bits) c.push-2.ensures ∙ ap (λ bs. bs ++ low_bits 1 1) zeros ∙ ap (λ bs. (s.upper.bits ++ replicate rise false) ++ bs) low-one in
    let room : c.push-2.new.self.room ≡ s.upper.room = ap (λ r. r.room) c.push-2.ensures ∙ ap (λ r. r.room) c.push_zeros.ensures in
    let done = put s.count s.last s.width s.placed s.high c.args.item s.lower s.upper c.push.new.self c.push-2.new.self items c.self.invariant fits up most (ap (λ r. r.bits) c.push.ensures) (ap (λ r. r.room) c.push.ensures) ones room in
    rw (← c.self.view_is) (same_items s.count s.last _ _ done.are)
