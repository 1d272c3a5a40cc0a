use Rattle.std.proofs.Common.{◌≡◌, ℕ, Some, None, Ok, Err, Option, Result, sym, ◌∙◌, subst}
use Rattle.std.specs.Str.{IsUtf8}
use Rattle.std.proofs.lemmas.Fmt.{parse-decimal, IsAscii-decimal}
use Rattle.std.proofs.lemmas.Str.{IsUtf8-from_ascii}
use Rattle.merge_ranges.proofs.text.parse.Goals as goal

ok_is : {E : Type 0} (m n : ℕ) → ◌≡◌ {A = Result ℕ E} (Ok m) (Ok n) → ◌≡◌ {A = Option ℕ} (Some m) (Some n)
ok_is m n e = cc

err_is : {E : Type 0} (e : E) (n : ℕ) → ◌≡◌ {A = Result ℕ E} (Err e) (Ok n) → ◌≡◌ {A = Option ℕ} None (Some n)
err_is e n h = cc

pub returns-in-Ok-parse : goal.returns-in-Ok-parse
returns-in-Ok-parse c = λ n small same.
    ok_is c.in-Ok-parse.n n (parse-decimal {E = Unit {0}} 64 n c.in-Ok.digits.now (Ok c.in-Ok-parse.n) small small (c.in-Ok.ensures.cases.0 ∙ sym same) c.in-Ok-parse.ensures.value.0)

pub returns-in-Err-parse : goal.returns-in-Err-parse
returns-in-Err-parse c = λ n small same.
    err_is c.in-Err-parse.field-0 n (parse-decimal 64 n c.in-Ok.digits.now (Err c.in-Err-parse.field-0) small small (c.in-Ok.ensures.cases.0 ∙ sym same) c.in-Err-parse.ensures.value.0)

pub returns-in-Err : goal.returns-in-Err
returns-in-Err c = λ n small same.
    absurd (c.in-Err.ensures.cases.0 (subst IsUtf8 same (IsUtf8-from_ascii _ (IsAscii-decimal n small))))
