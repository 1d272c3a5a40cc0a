use Rattle.std.proofs.Common.{◌≡◌, ◌+◌, ◌<◌, Some, None, length, get_or, slice_set, refl, sym, ◌∙◌, ap, subst, arith}
use Rattle.std.specs.Option.{option_copied}
use Rattle.merge_files.specs.Seen.{HasLower, HasSame, HasNone}
use Rattle.merge_files.specs.Walks.{IsKnown}
use Rattle.merge_files.proofs.Choices.{more-lower, more-same, more-behind, moved, input-at}
use Rattle.merge_files.proofs.least.choose.Goals as goal
use Rattle.merge_files.proofs.least.choose.Goals.{in-Lower, in-Same, in-Behind}

pub loop-i-preserved : goal.loop-i-preserved
loop-i-preserved c =
    let kind = c.args.kind in
    let inputs = c.args.inputs.now in
    let l = c.loop-i in
    let known = option_copied l.word in
    let within : l.i < length inputs = omega arith in
    let here : l.i < length l.marks = omega (arith, c.requires.marks, l.auto.marks) in
    let at = input-at inputs l.i c.index-inputs-i.result within c.index-inputs-i.is in
    elim c.match-look.branch [
      | in-Lower w ↦
          let seen = subst (λ ps. HasLower kind known ps w.in-Lower.lower.now) at w.in-Lower.ensures in
          record {
            known = subst (λ o. IsKnown kind (option_copied o)) (sym w.word-is) w.in-Lower.ensures.is;
            least = moved kind (Some w.in-Lower.lower.now) (option_copied c.match-look.word) (l.turn + 1) c.match-look.turn
                (slice_set l.marks l.i (l.turn + 1)) c.match-look.marks inputs (l.i + 1)
                (ap option_copied w.word-is) w.turn-is w.marks-is
                (more-lower kind l.turn l.marks inputs l.i here known w.in-Lower.lower.now l.invariant.least seen);
          }
      | in-Same w ↦
          let seen = subst (HasSame kind known) at w.in-Same.ensures in
          record {
            known = subst (λ o. IsKnown kind (option_copied o)) (sym w.word-is) l.invariant.known;
            least = moved kind known (option_copied c.match-look.word) l.turn c.match-look.turn
                (slice_set l.marks l.i l.turn) c.match-look.marks inputs (l.i + 1)
                (ap option_copied w.word-is) w.turn-is w.marks-is
                (more-same kind l.turn l.marks inputs l.i here known l.invariant.least seen);
          }
      | in-Behind w ↦
          let seen = subst (HasNone kind known) at w.in-Behind.ensures in
          record {
            known = subst (λ o. IsKnown kind (option_copied o)) (sym w.word-is) l.invariant.known;
            least = moved kind known (option_copied c.match-look.word) l.turn c.match-look.turn
                (slice_set l.marks l.i 0) c.match-look.marks inputs (l.i + 1)
                (ap option_copied w.word-is) w.turn-is w.marks-is
                (more-behind kind l.turn l.marks inputs l.i here known l.invariant.least seen);
          }
    ]
