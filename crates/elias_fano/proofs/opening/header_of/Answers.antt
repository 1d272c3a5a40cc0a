use Rattle.std.proofs.Common.{◌+◌, ◌*◌, ◌/◌, ◌^◌, arith, refl}
use Rattle.elias_fano.proofs.Opened.{opened}
use Rattle.elias_fano.proofs.opening.header_of.Goals as goal

pub returns-clause-ok : goal.returns-clause-ok
returns-clause-ok c =
    let n = c.u64_at-count.result in
    let m = c.u64_at-last.result in
    let w = c.width_for-width.result in
    let o = opened c.args.bytes.now n m w (n * w) (m / 2 ^ w + n) (16 + c.bytes_of-start.result) c.if-size-lt16.false c.u64_at-count.ensures c.u64_at-last.ensures c.width_for-width.ensures.value refl refl (omega (arith, c.bytes_of-start.ensures)) in
    record {
      count = o.count-is;
      last = o.last-is;
      width = o.width-is;
      lower_len = o.lower-is;
      upper_len = o.upper-is;
      start = o.start-is;
      some = omega (arith, o.count-is, c.if-count-eq0.false);
      narrow = rw o.width-is at c.width_for-width.ensures.narrow;
      size = omega (arith, o.asked, c.bytes_of.ensures, c.if-size-asked.false, c.if-asked-size.false);
    }
