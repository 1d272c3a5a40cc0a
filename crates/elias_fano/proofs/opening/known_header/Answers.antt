use Rattle.std.proofs.Common.{◌+◌, ◌*◌, ◌/◌, ◌^◌, ap, ◌∙◌, arith, refl}
use Rattle.elias_fano.proofs.Opened.{opened, long_enough}
use Rattle.elias_fano.proofs.opening.known_header.Goals as goal

pub returns : goal.returns
returns c =
    let n = c.u64_at-count.result in
    let m = c.u64_at-last.result in
    let w = c.width_for-width.result in
    let lower = n * c.from.result in
    let o = opened c.args.bytes.now n m w lower (m / 2 ^ w + n) (16 + (lower + 7) / 8) (long_enough c.args.bytes.now c.requires.size) c.u64_at-count.ensures c.u64_at-last.ensures c.width_for-width.ensures.value (ap (λ x. n * x) c.from.ensures) refl refl in
    record {
      count = o.count-is;
      last = o.last-is;
      width = o.width-is;
      lower_len = o.lower-is;
      upper_len = o.upper-is;
      start = o.start-is;
      some = c.requires.some;
      narrow = rw o.width-is at c.width_for-width.ensures.narrow;
      size = c.requires.size;
    }
