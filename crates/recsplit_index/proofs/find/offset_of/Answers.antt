use Rattle.std.proofs.Common.{◌-◌, ◌/◌, ◌<◌, arith}
use Rattle.recsplit_index.proofs.Walkings.{none_leads}
use Rattle.recsplit_index.proofs.Finds.{whole_of, no_buckets, read_of, node_read, none_read, slot_room, only_read}
use Rattle.recsplit_index.proofs.find.offset_of.Goals as goal

pub overflow_sub-buckets : goal.overflow_sub-buckets
overflow_sub-buckets c = omega (arith, (whole_of c.requires.0 c.args.starts c.args.count c.args.bits c.args.bytes.now c.requires.1).starts_are)

pub returns-then-buckets-eq0-clause-none : goal.returns-then-buckets-eq0-clause-none
returns-then-buckets-eq0-clause-none c = λ keys s. no_buckets keys c.args.starts c.args.count c.args.bits c.args.hash c.args.bytes.now c.if-buckets-eq0.true s

pub number_at-first-requires : goal.number_at-first-requires
number_at-first-requires c =
    let whole = whole_of c.requires.0 c.args.starts c.args.count c.args.bits c.args.bytes.now c.requires.1 in
    omega (arith, whole.long, c.scale-bucket.ensures.below, c.if-buckets-eq0.false)

pub number_at-bit-requires : goal.number_at-bit-requires
number_at-bit-requires c =
    let whole = whole_of c.requires.0 c.args.starts c.args.count c.args.bits c.args.bytes.now c.requires.1 in
    omega (arith, whole.long, c.scale-bucket.ensures.below, c.if-buckets-eq0.false)

pub number_at-requires : goal.number_at-requires
number_at-requires c =
    let whole = whole_of c.requires.0 c.args.starts c.args.count c.args.bits c.args.bytes.now c.requires.1 in
    omega (arith, whole.long, whole.starts_are, c.scale-bucket.ensures.below, c.if-buckets-eq0.false)

pub overflow_sub-size : goal.overflow_sub-size
overflow_sub-size c =
    let below : c.scale-bucket.result < c.args.starts / 2 - 1 = omega (arith, c.scale-bucket.ensures.below, c.if-buckets-eq0.false) in
    (read_of c.requires.0 c.args.starts c.args.count c.args.bits c.args.hash c.args.bytes.now c.scale-bucket.result c.number_at-first.result c.number_at-bit.result c.number_at.result c.scale-bucket.ensures.value below c.number_at-first.ensures
    c.number_at-bit.ensures c.number_at.ensures c.requires.1).order

pub returns-then-size-eq0-clause-none : goal.returns-then-size-eq0-clause-none
returns-then-size-eq0-clause-none c = λ keys s.
    let below : c.scale-bucket.result < c.args.starts / 2 - 1 = omega (arith, c.scale-bucket.ensures.below, c.if-buckets-eq0.false) in
    none_read keys c.args.starts c.args.count c.args.bits c.args.hash c.args.bytes.now c.scale-bucket.result c.number_at-first.result c.number_at-bit.result c.number_at.result c.if-size-eq0.true
    (read_of keys c.args.starts c.args.count c.args.bits c.args.hash c.args.bytes.now c.scale-bucket.result c.number_at-first.result c.number_at-bit.result c.number_at.result c.scale-bucket.ensures.value below c.number_at-first.ensures
    c.number_at-bit.ensures c.number_at.ensures s)

pub overflow_add-starts : goal.overflow_add-starts
overflow_add-starts c = omega (arith, (whole_of c.requires.0 c.args.starts c.args.count c.args.bits c.args.bytes.now c.requires.1).long)

pub slot_in-requires-clause-long : goal.slot_in-requires-clause-long
slot_in-requires-clause-long c = (whole_of c.requires.0 c.args.starts c.args.count c.args.bits c.args.bytes.now c.requires.1).long

pub slot_in-requires-clause-bits : goal.slot_in-requires-clause-bits
slot_in-requires-clause-bits c = (whole_of c.requires.0 c.args.starts c.args.count c.args.bits c.args.bytes.now c.requires.1).bits_fit

pub slot_in-requires-clause-there : goal.slot_in-requires-clause-there
slot_in-requires-clause-there c =
    let below : c.scale-bucket.result < c.args.starts / 2 - 1 = omega (arith, c.scale-bucket.ensures.below, c.if-buckets-eq0.false) in
    node_read c.requires.0 c.args.starts c.args.count c.args.bits c.args.hash c.args.bytes.now c.scale-bucket.result c.number_at-first.result c.number_at-bit.result c.number_at.result
    (read_of c.requires.0 c.args.starts c.args.count c.args.bits c.args.hash c.args.bytes.now c.scale-bucket.result c.number_at-first.result c.number_at-bit.result c.number_at.result c.scale-bucket.ensures.value below c.number_at-first.ensures
    c.number_at-bit.ensures c.number_at.ensures c.requires.1)

pub returns-in_err-slot-clause-none : goal.returns-in_err-slot-clause-none
returns-in_err-slot-clause-none c =
    let below : c.scale-bucket.result < c.args.starts / 2 - 1 = omega (arith, c.scale-bucket.ensures.below, c.if-buckets-eq0.false) in
    let there = node_read c.requires.0 c.args.starts c.args.count c.args.bits c.args.hash c.args.bytes.now c.scale-bucket.result c.number_at-first.result c.number_at-bit.result c.number_at.result
    (read_of c.requires.0 c.args.starts c.args.count c.args.bits c.args.hash c.args.bytes.now c.scale-bucket.result c.number_at-first.result c.number_at-bit.result c.number_at.result c.scale-bucket.ensures.value below c.number_at-first.ensures
    c.number_at-bit.ensures c.number_at.ensures c.requires.1)
    in
    absurd (none_leads _ c.slot_in.result c.in_err-slot.was (c.slot_in.ensures there.keys there.built there.size_is there.there))

pub overflow_add-starts-2 : goal.overflow_add-starts-2
overflow_add-starts-2 c =
    let below : c.scale-bucket.result < c.args.starts / 2 - 1 = omega (arith, c.scale-bucket.ensures.below, c.if-buckets-eq0.false) in
    let r = read_of c.requires.0 c.args.starts c.args.count c.args.bits c.args.hash c.args.bytes.now c.scale-bucket.result c.number_at-first.result c.number_at-bit.result c.number_at.result c.scale-bucket.ensures.value below c.number_at-first.ensures
    c.number_at-bit.ensures c.number_at.ensures c.requires.1
    in
    omega (arith, r.first_is, r.read.room, (whole_of c.requires.0 c.args.starts c.args.count c.args.bits c.args.bytes.now c.requires.1).long)

pub overflow_add-starts-3 : goal.overflow_add-starts-3
overflow_add-starts-3 c =
    let below : c.scale-bucket.result < c.args.starts / 2 - 1 = omega (arith, c.scale-bucket.ensures.below, c.if-buckets-eq0.false) in
    let r = read_of c.requires.0 c.args.starts c.args.count c.args.bits c.args.hash c.args.bytes.now c.scale-bucket.result c.number_at-first.result c.number_at-bit.result c.number_at.result c.scale-bucket.ensures.value below c.number_at-first.ensures
    c.number_at-bit.ensures c.number_at.ensures c.requires.1
    in
    omega (
      arith,
      slot_room c.requires.0 c.args.starts c.args.count c.args.bits c.args.hash c.args.bytes.now c.scale-bucket.result c.number_at-first.result c.number_at-bit.result c.number_at.result c.in_ok-slot.slot c.slot_in.result r c.slot_in.ensures c.in_ok-slot.was,
      (whole_of c.requires.0 c.args.starts c.args.count c.args.bits c.args.bytes.now c.requires.1).long,
    )

pub number_at-requires-2 : goal.number_at-requires-2
number_at-requires-2 c =
    let below : c.scale-bucket.result < c.args.starts / 2 - 1 = omega (arith, c.scale-bucket.ensures.below, c.if-buckets-eq0.false) in
    let r = read_of c.requires.0 c.args.starts c.args.count c.args.bits c.args.hash c.args.bytes.now c.scale-bucket.result c.number_at-first.result c.number_at-bit.result c.number_at.result c.scale-bucket.ensures.value below c.number_at-first.ensures
    c.number_at-bit.ensures c.number_at.ensures c.requires.1
    in
    omega (
      arith,
      slot_room c.requires.0 c.args.starts c.args.count c.args.bits c.args.hash c.args.bytes.now c.scale-bucket.result c.number_at-first.result c.number_at-bit.result c.number_at.result c.in_ok-slot.slot c.slot_in.result r c.slot_in.ensures c.in_ok-slot.was,
      (whole_of c.requires.0 c.args.starts c.args.count c.args.bits c.args.bytes.now c.requires.1).long,
    )

pub returns-clause-found : goal.returns-clause-found
returns-clause-found c = λ keys s.
    let below : c.scale-bucket.result < c.args.starts / 2 - 1 = omega (arith, c.scale-bucket.ensures.below, c.if-buckets-eq0.false) in
    let r = read_of keys c.args.starts c.args.count c.args.bits c.args.hash c.args.bytes.now c.scale-bucket.result c.number_at-first.result c.number_at-bit.result c.number_at.result c.scale-bucket.ensures.value below c.number_at-first.ensures
    c.number_at-bit.ensures c.number_at.ensures s
    in
    only_read keys c.args.starts c.args.count c.args.bits c.args.hash c.args.bytes.now c.scale-bucket.result c.number_at-first.result c.number_at-bit.result c.number_at.result c.in_ok-slot.slot c.number_at-2.result c.slot_in.result r c.slot_in.ensures c.in_ok-slot.was
    c.number_at-2.ensures
