-- Each entry but a publish keeps a machine sound.
use Rattle.std.proofs.Common.{◌≡◌, Bool, true, false, not, ◌&&◌, ◌||◌, List, [], ◌∷◌, ℕ, ◌+◌, ◌≤◌, All, refl, sym, ◌∙◌, ap, arith}
use Rattle.std.proofs.lemmas.Bool.{true≢false}
use Rattle.std.specs.Ordering.{nat_cmp}
use Rattle.std.specs.Cmp.Lexicographic.{slice_cmp}
use Rattle.std.specs.BTreeMap.{is_at}
use Rattle.std.proofs.lemmas.List.Elements.{All-append, All-cons, All-head, All-tail}
use Rattle.agg_model.specs.declared.change.Change.{Change}
use Rattle.agg_model.proofs.GrownLaws.{grown-IsChangeList, next_of-above}
use Rattle.core_machine.specs.declared.machine.Machine.{Machine}
use Rattle.core_machine.specs.declared.machine.Opening.{Opening}
use Rattle.core_machine.specs.Texts.{has, AreAmong, IsInForm, with_names, without_names}
use Rattle.core_machine.specs.Sound.{list_of, in_rows, IsSound}
use Rattle.core_machine.specs.Entries.{IsIngest, IsOpen, IsSweep, after_ingest, after_open, after_close, after_stray, after_sweep}
use Rattle.core_machine.proofs.TextLaws.{has-with, has-without, form-with, form-without, same_text}
use Rattle.core_machine.proofs.Rows.{apart-push, apart-without, all-without}

le_chain : {a b c : ℕ} → a ≤ b → b ≤ c → a ≤ c
le_chain h g = omega (arith, h, g)

above : (n : ℕ) → n ≤ n + 1
above n = omega arith

pub kept-ingest : (m : Machine) (batch : List Change) → IsSound m → IsIngest m batch → IsSound (after_ingest m batch)
kept-ingest m batch sound may = record {
  list = grown-IsChangeList (list_of m) batch sound.list may.next may.no_repeats;
  apart = sound.apart;
  groups = sound.groups;
  complete = le_chain sound.complete (next_of-above m.next m.next batch (above m.next) may.next.ascend);
  visible = sound.visible;
  rows = sound.rows;
  form = record { present = sound.form.present; visible = sound.form.visible; rows = sound.form.rows };
}

pub kept-open : (m : Machine) (caller number : ℕ) (names : List (List ℕ)) → IsSound m → IsOpen m caller number names → IsSound (after_open m caller number)
kept-open m caller number names sound may =
    let new : Opening = record { caller = caller; number = number; at = m.next; names = m.visible } in
    record {
      list = sound.list;
      apart = apart-push m.opened new sound.apart may.free;
      groups = sound.groups;
      complete = sound.complete;
      visible = sound.visible;
      rows = All-append (λ (row : Opening). AreAmong row.names m.present) m.opened (new ∷ []) sound.rows (All-cons (λ (row : Opening). AreAmong row.names m.present) new [] sound.visible (λ i z below. absurd (omega (arith, below))));
      form = record {
        present = sound.form.present;
        visible = sound.form.visible;
        rows = All-append (λ (row : Opening). IsInForm row.names) m.opened (new ∷ []) sound.form.rows (All-cons (λ (row : Opening). IsInForm row.names) new [] sound.form.visible (λ i z below. absurd (omega (arith, below))));
      };
    }

pub kept-close : (m : Machine) (caller number : ℕ) → IsSound m → IsSound (after_close m caller number)
kept-close m caller number sound = record {
  list = sound.list;
  apart = apart-without caller number m.opened sound.apart;
  groups = sound.groups;
  complete = sound.complete;
  visible = sound.visible;
  rows = all-without (λ (row : Opening). AreAmong row.names m.present) caller number m.opened sound.rows;
  form = record {
    present = sound.form.present;
    visible = sound.form.visible;
    rows = all-without (λ (row : Opening). IsInForm row.names) caller number m.opened sound.form.rows;
  };
}

or-true : (a : Bool) → (a || true) ≡ true
or-true true = refl
or-true false = refl

-- more names are present
pub among-with : (xs present more : List (List ℕ)) → AreAmong xs present → AreAmong xs (with_names present more)
among-with xs present more all name h = has-with present more name ∙ ap (λ b. has more name || b) (all name h) ∙ or-true (has more name)

pub rows-with : (rows : List Opening) (present more : List (List ℕ)) → All (λ (row : Opening). AreAmong row.names present) rows → All (λ (row : Opening). AreAmong row.names (with_names present more)) rows
rows-with rows present more all = λ i z below. among-with _ present more (all i z below)

pub kept-stray : (m : Machine) (names : List (List ℕ)) → IsSound m → IsSound (after_stray m names)
kept-stray m names sound = record {
  list = sound.list;
  apart = sound.apart;
  groups = sound.groups;
  complete = sound.complete;
  visible = among-with m.visible m.present names sound.visible;
  rows = rows-with m.opened m.present names sound.rows;
  form = record { present = form-with m.present names sound.form.present; visible = sound.form.visible; rows = sound.form.rows };
}

true-false : (b : Bool) → b ≡ true → b ≡ false → ⊥
true-false b h g = true≢false (sym h ∙ g)

-- a name that isn't among these may go
gone-by : (xs : List (List ℕ)) (name q : List ℕ) (b : Bool) → has xs name ≡ false → has xs q ≡ true → is_at (slice_cmp nat_cmp q) name ≡ b → not (b || false) ≡ true
gone-by xs name q true none h e = absurd (true-false (has xs q) h (ap (has xs) (same_text q name e) ∙ none))
gone-by xs name q false none h e = refl

and-true : (a b : Bool) → a ≡ true → b ≡ true → (a && b) ≡ true
and-true a b h g = λ i. and-both (h i) (g i)
  where
    and-both : Bool → Bool → Bool
    and-both x y = x && y

among-without : (xs present : List (List ℕ)) (name : List ℕ) → has xs name ≡ false → AreAmong xs present → AreAmong xs (without_names present (name ∷ []))
among-without xs present name none all q h =
    has-without present (name ∷ []) q
    ∙ and-true (has present q) (not (has (name ∷ []) q)) (all q h) (gone-by xs name q (is_at (slice_cmp nat_cmp q) name) none h refl)

or-none : (a b : Bool) → (a || b) ≡ false → (a ≡ false) × (b ≡ false)
or-none true b h = absurd (true≢false h)
or-none false b h = (refl, h)

rows-without : (rows : List Opening) (present : List (List ℕ)) (name : List ℕ) → in_rows rows name ≡ false → All (λ (row : Opening). AreAmong row.names present) rows → All (λ (row : Opening). AreAmong row.names (without_names present (name ∷ []))) rows
rows-without [] present name none all = λ i z below. absurd (omega (arith, below))
rows-without (row ∷ rows) present name none all =
    let two = or-none (has row.names name) (in_rows rows name) none in
    All-cons (λ (r : Opening). AreAmong r.names (without_names present (name ∷ []))) row rows
    (among-without row.names present name two.0 (All-head (λ (r : Opening). AreAmong r.names present) row rows all))
    (rows-without rows present name two.1 (All-tail (λ (r : Opening). AreAmong r.names present) row rows all))

pub kept-sweep : (m : Machine) (name : List ℕ) → IsSound m → IsSweep m name → IsSound (after_sweep m name)
kept-sweep m name sound may = record {
  list = sound.list;
  apart = sound.apart;
  groups = sound.groups;
  complete = sound.complete;
  visible = among-without m.visible m.present name may.unseen.not_visible sound.visible;
  rows = rows-without m.opened m.present name may.unseen.in_no_row sound.rows;
  form = record { present = form-without m.present (name ∷ []) sound.form.present; visible = sound.form.visible; rows = sound.form.rows };
}
