use Rattle.std.proofs.Common.{ℕ, Result, subst}
use Rattle.recsplit_index.specs.Layout.{Follows}
use Rattle.recsplit_index.proofs.Followings.{ends_short, ends_same, ends_apart}
use Rattle.recsplit_index.proofs.compare.place_of.Goals as goal

pub returns-then-end-bytes : goal.returns-then-end-bytes
returns-then-end-bytes c = λ text f. ends_short c.args.bytes.now text c.in-Ok.end (subst (λ (r : Result ℕ ℕ). Follows c.args.bytes.now 0 text r) c.in-Ok.is f) c.if-end-bytes.true

pub returns-else-end-bytes : goal.returns-else-end-bytes
returns-else-end-bytes c = λ text f. ends_same c.args.bytes.now text c.in-Ok.end (subst (λ (r : Result ℕ ℕ). Follows c.args.bytes.now 0 text r) c.in-Ok.is f) c.if-end-bytes.false

pub returns-in-Err : goal.returns-in-Err
returns-in-Err c = λ text f. ends_apart c.args.bytes.now text c.in-Err.place (subst (λ (r : Result ℕ ℕ). Follows c.args.bytes.now 0 text r) c.in-Err.is f)
