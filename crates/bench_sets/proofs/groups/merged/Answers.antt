use Rattle.std.proofs.Common.{◌∙◌, length, ap, sym, arith}
use Rattle.bench_sets.specs.declared.groups.Files.{Files}
use Rattle.visible_files.specs.Sets.{SetOf}
use Rattle.visible_files.proofs.Added.{ids-long, fewer, one-long}
use Rattle.bench_sets.proofs.groups.merged.Goals as goal

pub prepare-requires-clause-cuts : goal.prepare-requires-clause-cuts
prepare-requires-clause-cuts c =
    let cuts = c.in_ok-can.ensures.cuts c.if-not-can.false in
    (c.end-end.result, rw (← c.as_slice.ensures.value, ← c.current-4.ensures) cuts)

pub publish-requires-clause-room : goal.publish-requires-clause-room
publish-requires-clause-room c =
    let one = one-long c.in_ok-list.list.items _ c.in_ok-list.ensures.items in
    let gone = fewer _ c.reserve.new.self.current.ids _ c.in_ok-prepared.ensures.replaced in
    let same = ap (λ (s : SetOf Files). length s.ids) (c.in_ok-reserve.ensures.current ∙ sym c.current.ensures) in
    let long = ids-long _ _ c.groups-groups.result.now _ _ c.groups-groups.ensures.value c.groups-groups.ensures.set.same in
    omega (arith, c.in_ok-reserve.ensures.ok, c.in_ok-prepared.ensures.added_count, one, gone, same, long)
