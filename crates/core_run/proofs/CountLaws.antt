-- Laws of counts of names.
use Rattle.std.proofs.Common.{◌≡◌, Bool, true, false, cond, ◌||◌, ℕ, zero, suc, ◌+◌, ◌-◌, ◌<◌, ◌≤◌, List, [], ◌∷◌, ◌++◌, length, get_or, drop, refl, sym, ◌∙◌, ap, subst, arith, lt-ltb, add-one, drop-cons}
use Rattle.std.specs.Prelude.{Option, Some, None, Result, Ok, Err, OnOk, OnErr, nat_lt, remove}
use Rattle.std.specs.Ordering.{nat_cmp}
use Rattle.std.specs.Cmp.Lexicographic.{slice_cmp}
use Rattle.std.specs.Map.{lookup}
use Rattle.std.specs.BTreeMap.{is_at}
use Rattle.core_machine.specs.declared.machine.Opening.{Opening}
use Rattle.core_machine.specs.Texts.{has}
use Rattle.core_machine.specs.Sound.{in_rows}
use Rattle.core_machine.proofs.TextLaws.{same_text}
use Rattle.core_run.specs.declared.running.Row.{Row}
use Rattle.core_run.specs.Counts.{or_zero, count_of, at_once, times, times_in, AreCounted}
use Rattle.core_run.specs.Running.{openings}
use Rattle.core_run.proofs.NameSets.{at-swap}

pub zero-plus : (n : ℕ) → 0 + n ≡ n
zero-plus n = omega arith

pub plus-zero : (n : ℕ) → n + 0 ≡ n
plus-zero n = omega arith

some-one : (x : ℕ) → 0 < 1 + x
some-one x = omega arith

-- ---- a name in a row

has-by : (t : Bool) (x : ℕ) (b : Bool) → nat_lt 0 x ≡ b → nat_lt 0 (cond t 1 0 + x) ≡ (t || b)
has-by true x b h = lt-ltb 0 (1 + x) (some-one x)
has-by false x b h = ap (nat_lt 0) (zero-plus x) ∙ h

has-times : (names : List (List ℕ)) (q : List ℕ) → nat_lt 0 (times names q) ≡ has names q
has-times [] q = refl
has-times (name ∷ names) q =
    has-by (is_at (slice_cmp nat_cmp name) q) (times names q) (has names q) (has-times names q)
    ∙ ap (λ b. b || has names q) (at-swap name q)

either : (a b : ℕ) → nat_lt 0 (a + b) ≡ (nat_lt 0 a || nat_lt 0 b)
either zero b = ap (nat_lt 0) (zero-plus b)
either (suc a) b = lt-ltb 0 (suc a + b) (omega arith) ∙ sym (ap (λ t. t || nat_lt 0 b) (lt-ltb 0 (suc a) (omega arith)))

in-times : (rows : List Opening) (q : List ℕ) → nat_lt 0 (times_in rows q) ≡ in_rows rows q
in-times [] q = refl
in-times (row ∷ rows) q =
    either (times row.names q) (times_in rows q) ∙ (λ i. has-times row.names q i || in-times rows q i)

pub counted-seen : (counts : List (List ℕ × ℕ)) (rows : List Row) (name : List ℕ) → AreCounted counts rows → nat_lt 0 (count_of counts name) ≡ in_rows (openings rows) name
counted-seen counts rows name are = ap (nat_lt 0) (are name) ∙ in-times (openings rows) name

-- ---- once more, and once less

one-more : (n : ℕ) → n + 1 ≡ 1 + n
one-more n = omega arith

pub less-none : (n : ℕ) → n ≡ n - 0
less-none n = omega arith

none-left : {n : ℕ} → n ≤ 1 → 0 ≡ n - 1
none-left h = omega (arith, h)

module _ (old new : List (List ℕ × ℕ)) (name q : List ℕ) where
  pub count-more : (n : ℕ) → lookup (is_at (slice_cmp nat_cmp q)) new ≡ cond (is_at (slice_cmp nat_cmp name) q) (Some n) (lookup (is_at (slice_cmp nat_cmp q)) old)
      → n ≡ count_of old name + 1 → count_of new q ≡ at_once name q + count_of old q
  count-more n is so = ap or_zero is ∙ by (is_at (slice_cmp nat_cmp name) q) refl
    where
      by : (t : Bool) → is_at (slice_cmp nat_cmp name) q ≡ t → or_zero (cond t (Some n) (lookup (is_at (slice_cmp nat_cmp q)) old)) ≡ cond t 1 0 + count_of old q
      by true e = so ∙ ap (λ w. count_of old w + 1) (same_text name q e) ∙ one-more (count_of old q)
      by false e = sym (zero-plus (count_of old q))

  pub count-less : (n : ℕ) → lookup (is_at (slice_cmp nat_cmp q)) new ≡ cond (is_at (slice_cmp nat_cmp name) q) (Some n) (lookup (is_at (slice_cmp nat_cmp q)) old)
      → n ≡ count_of old name - 1 → count_of new q ≡ count_of old q - at_once name q
  count-less n is so = ap or_zero is ∙ by (is_at (slice_cmp nat_cmp name) q) refl
    where
      by : (t : Bool) → is_at (slice_cmp nat_cmp name) q ≡ t → or_zero (cond t (Some n) (lookup (is_at (slice_cmp nat_cmp q)) old)) ≡ count_of old q - cond t 1 0
      by true e = so ∙ ap (λ w. count_of old w - 1) (same_text name q e)
      by false e = less-none (count_of old q)

  pub count-last : lookup (is_at (slice_cmp nat_cmp q)) new ≡ cond (is_at (slice_cmp nat_cmp name) q) None (lookup (is_at (slice_cmp nat_cmp q)) old)
      → count_of old name ≤ 1 → count_of new q ≡ count_of old q - at_once name q
  count-last is few = ap or_zero is ∙ by (is_at (slice_cmp nat_cmp name) q) refl
    where
      by : (t : Bool) → is_at (slice_cmp nat_cmp name) q ≡ t → or_zero (cond t None (lookup (is_at (slice_cmp nat_cmp q)) old)) ≡ count_of old q - cond t 1 0
      by true e = none-left (subst (λ w. count_of old w ≤ 1) (same_text name q e) few)
      by false e = less-none (count_of old q)

-- what is there is put once more without memory
pub put-there : {A E : Type 0} {P : Type 0} (r : Result A E) (o : Option ℕ) → OnErr r (o ≡ None) → OnOk r P → 1 < or_zero o → P
put-there (Ok x) o bad good some = good
put-there (Err x) o bad good some = absurd (none-above (subst (λ p. 1 < or_zero p) bad some))
  where
    none-above : 1 < 0 → ⊥
    none-above h = omega (arith, h)

-- ---- all names of a row

pub more-left : (a x y b c : ℕ) → (x + y) + a ≡ b → c ≡ x + a → y + c ≡ b
more-left a x y b c h is = omega (arith, h, is)

pub less-left : (a x y b c : ℕ) → a - (x + y) ≡ b → c ≡ a - x → c - y ≡ b
less-left a x y b c h is = omega (arith, h, is)

-- ---- rows

plus-left : (a b c : ℕ) → b + (a + c) ≡ a + (b + c)
plus-left a b c = omega arith

pub times-in-push : (rows : List Row) (r : Row) (q : List ℕ) → times_in (openings (rows ++ r ∷ [])) q ≡ times r.names.keys q + times_in (openings rows) q
times-in-push [] r q = refl
times-in-push (row ∷ rows) r q =
    ap (λ n. times row.names.keys q + n) (times-in-push rows r q) ∙ plus-left (times r.names.keys q) (times row.names.keys q) (times_in (openings rows) q)

none-below : {n : ℕ} → n < 0 → ⊥
none-below h = omega (arith, h)

lower : {k n : ℕ} → suc k < suc n → k < n
lower h = omega (arith, h)

pub times-in-remove : (rows : List Row) (i : ℕ) (d : Row) (q : List ℕ) → i < length rows → times_in (openings rows) q ≡ times (get_or rows i d).names.keys q + times_in (openings (remove rows i)) q
times-in-remove [] i d q below = absurd (none-below below)
times-in-remove (row ∷ rows) zero d q below = refl
times-in-remove (row ∷ rows) (suc i) d q below =
    ap (λ n. times row.names.keys q + n) (times-in-remove rows i d q (lower below))
    ∙ plus-left (times (get_or rows i d).names.keys q) (times row.names.keys q) (times_in (openings (remove rows i)) q)

pub counted-open : (old new : List (List ℕ × ℕ)) (rows all : List Row) (r : Row) → AreCounted old rows → ((q : List ℕ) → count_of new q ≡ times r.names.keys q + count_of old q) → all ≡ rows ++ r ∷ [] → AreCounted new all
counted-open old new rows all r are more is q =
    more q ∙ ap (λ n. times r.names.keys q + n) (are q) ∙ sym (times-in-push rows r q) ∙ ap (λ l. times_in (openings l) q) (sym is)

back : (a b c d : ℕ) → c ≡ a + b → d ≡ c - a → d ≡ b
back a b c d h is = omega (arith, h, is)

pub counted-close : (old new : List (List ℕ × ℕ)) (rows all : List Row) (i : ℕ) (r : Row) → AreCounted old rows → ((q : List ℕ) → count_of new q ≡ count_of old q - times r.names.keys q) → i < length rows → r ≡ get_or rows i r → all ≡ remove rows i → AreCounted new all
counted-close old new rows all i r are less below is gone q =
    back (times r.names.keys q) (times_in (openings (remove rows i)) q) (count_of old q) (count_of new q)
    (are q ∙ times-in-remove rows i r q below ∙ ap (λ (x : Row). times x.names.keys q + times_in (openings (remove rows i)) q) (sym is)) (less q)
    ∙ ap (λ l. times_in (openings l) q) (sym gone)

pub drop-row : (rows : List Row) (i : ℕ) (row : Row) → i < length rows → row ≡ get_or rows i row → drop i rows ≡ row ∷ drop (i + 1) rows
drop-row rows i row h is = rw add-one (drop-cons rows i row h ∙ ap (λ r. r ∷ drop (suc i) rows) (sym is))
