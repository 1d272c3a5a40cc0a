-- Laws of open rows.
use Rattle.std.proofs.Common.{◌≡◌, Bool, true, false, cond, ◌&&◌, ◌||◌, ◌==◌, List, [], ◌∷◌, ◌++◌, ℕ, All, refl, ◌∙◌, ap, arith}
use Rattle.std.proofs.lemmas.Bool.{true≢false}
use Rattle.std.proofs.lemmas.List.Folds.{list_any-append}
use Rattle.std.proofs.lemmas.List.Elements.{All-cons, All-head, All-tail}
use Rattle.core_machine.specs.declared.machine.Opening.{Opening}
use Rattle.core_machine.specs.Sound.{is_row, has_row, AreApart}
use Rattle.core_machine.specs.Entries.{without_row}

eq-swap : (a b : ℕ) → (a == b) ≡ (b == a)
eq-swap a b = grind arith

is_row-swap : (row new : Opening) → is_row row.caller row.number new ≡ is_row new.caller new.number row
is_row-swap row new = λ i. eq-swap new.caller row.caller i && eq-swap new.number row.number i

or-none : (a b c : Bool) → (a || b) ≡ false → a ≡ false
or-none true b c h = h
or-none false b c h = refl

or-rest : (a b : Bool) → (a || b) ≡ false → b ≡ false
or-rest true b h = absurd (true≢false h)
or-rest false b h = h

pub apart-push : (rows : List Opening) (new : Opening) → AreApart rows → has_row rows new.caller new.number ≡ false → AreApart (rows ++ new ∷ [])
apart-push [] new apart free = (refl, tt)
apart-push (row ∷ rows) new apart free = (
  list_any-append (is_row row.caller row.number) rows (new ∷ [])
      ∙ ap (λ b. b || (is_row row.caller row.number new || false)) apart.0
      ∙ ap (λ b. b || false) (is_row-swap row new ∙ or-none (is_row new.caller new.number row) (has_row rows new.caller new.number) false free),
  apart-push rows new apart.1 (or-rest (is_row new.caller new.number row) (has_row rows new.caller new.number) free),
)

all-pick : (P : Opening → Type 0) (row : Opening) (rows kept : List Opening) (b : Bool) → All P (row ∷ rows) → All P kept → All P (cond b rows (row ∷ kept))
all-pick P row rows kept true all rest = All-tail P row rows all
all-pick P row rows kept false all rest = All-cons P row kept (All-head P row rows all) rest

pub all-without : (P : Opening → Type 0) (caller number : ℕ) (rows : List Opening) → All P rows → All P (without_row caller number rows)
all-without P caller number [] all = all
all-without P caller number (row ∷ rows) all =
    all-pick P row rows (without_row caller number rows) (is_row caller number row) all (all-without P caller number rows (All-tail P row rows all))

none-pick : (row : Opening) (rows kept : List Opening) (c n : ℕ) (b : Bool) → is_row c n row ≡ false → has_row rows c n ≡ false → has_row kept c n ≡ false → has_row (cond b rows (row ∷ kept)) c n ≡ false
none-pick row rows kept c n true here rest less = rest
none-pick row rows kept c n false here rest less = ap (λ b. b || has_row kept c n) here ∙ less

none-without : (rows : List Opening) (c n caller number : ℕ) → has_row rows c n ≡ false → has_row (without_row caller number rows) c n ≡ false
none-without [] c n caller number h = h
none-without (row ∷ rows) c n caller number h =
    let rest = or-rest (is_row c n row) (has_row rows c n) h in
    none-pick row rows (without_row caller number rows) c n (is_row caller number row) (or-none (is_row c n row) (has_row rows c n) false h) rest
    (none-without rows c n caller number rest)

apart-pick : (row : Opening) (rows kept : List Opening) (b : Bool) → AreApart (row ∷ rows) → has_row kept row.caller row.number ≡ false → AreApart kept → AreApart (cond b rows (row ∷ kept))
apart-pick row rows kept true apart none less = apart.1
apart-pick row rows kept false apart none less = (none, less)

pub apart-without : (caller number : ℕ) (rows : List Opening) → AreApart rows → AreApart (without_row caller number rows)
apart-without caller number [] apart = apart
apart-without caller number (row ∷ rows) apart =
    apart-pick row rows (without_row caller number rows) (is_row caller number row) apart (none-without rows row.caller row.number caller number apart.0)
    (apart-without caller number rows apart.1)
