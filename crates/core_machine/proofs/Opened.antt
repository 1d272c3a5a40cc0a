-- Each open row was opened by one of the entries, and what it sees keeps its bytes.
use Rattle.std.proofs.Common.{◌≡◌, ◌⊎◌, inl, inr, Bool, true, false, cond, List, [], ◌∷◌, ◌++◌, ℕ, All, refl, sym, ◌∙◌, ap, subst, arith}
use Rattle.std.proofs.lemmas.List.Elements.{All-cons}
use Rattle.agg_model.specs.ChangeList.{ChangeList}
use Rattle.merge_ranges.specs.declared.name.FileName.{FileName}
use Rattle.merge_ranges.specs.Name.{is_name, spelled}
use Rattle.core_machine.specs.declared.entry.Entry.{Entry}
use Rattle.core_machine.specs.declared.entry.Entry.TheVariants.{Ingest, Open, Close, Publish, Stray, Sweep, Settled, Work}
use Rattle.core_machine.specs.declared.machine.Machine.{Machine}
use Rattle.core_machine.specs.declared.machine.Opening.{Opening}
use Rattle.core_machine.specs.Texts.{has}
use Rattle.core_machine.specs.Sound.{is_row, list_of, IsSound}
use Rattle.core_machine.specs.Entries.{ArePossible, WasOpened, after, replay, without_row}
use Rattle.core_machine.specs.Histories.{AreLasting}
use Rattle.core_machine.proofs.Inside.{In, in-split}
use Rattle.core_machine.proofs.Kept.{kept-all, replay-append, possible-front}
use Rattle.core_machine.proofs.SeenFiles.{seen-last}

in-pick : (row r : Opening) (rows kept : List Opening) (b : Bool) → (In row kept → In row rows) → In row (cond b rows (r ∷ kept)) → In row (r ∷ rows)
in-pick row r rows kept true less h = inr h
in-pick row r rows kept false less (inl e) = inl e
in-pick row r rows kept false less (inr h) = inr (less h)

in-without : (caller number : ℕ) (rows : List Opening) (row : Opening) → In row (without_row caller number rows) → In row rows
in-without caller number [] row h = h
in-without caller number (r ∷ rows) row h =
    in-pick row r rows (without_row caller number rows) (is_row caller number r) (λ k. in-without caller number rows row k) h

-- a row that is open after an entry was open before it, or the entry opened it
by-one : (m : Machine) (entry : Entry) (entries : List Entry) (row : Opening) → In row (after m entry).opened → In row m.opened ⊎ WasOpened m (entry ∷ entries) row
by-one m (Ingest caller batch) entries row h = inl h
by-one m (Open caller number names) entries row h = by (in-split row m.opened (new ∷ []) h)
  where
    new : Opening
    new = record { caller = caller; number = number; at = m.next; names = m.visible }

    opened : WasOpened m (Open caller number names ∷ entries) new
    opened = record { front = []; names = names; back = entries; parts = refl; at = refl; visible = refl }

    by : In row m.opened ⊎ In row (new ∷ []) → In row m.opened ⊎ WasOpened m (Open caller number names ∷ entries) row
    by (inl k) = inl k
    by (inr (inl e)) = inr (subst (WasOpened m (Open caller number names ∷ entries)) (sym e) opened)
    by (inr (inr none)) = absurd none
by-one m (Close caller number) entries row h = inl (in-without caller number m.opened row h)
by-one m (Publish caller added replaced) entries row h = inl h
by-one m (Stray caller names) entries row h = inl h
by-one m (Sweep caller name) entries row h = inl h
by-one m (Settled caller names) entries row h = inl h
by-one m (Work caller) entries row h = inl h

was-opened : (m : Machine) (entries : List Entry) (row : Opening) → In row (replay m entries).opened → In row m.opened ⊎ WasOpened m entries row
was-opened m [] row h = inl h
was-opened m (entry ∷ entries) row h = by (was-opened (after m entry) entries row h)
  where
    by : In row (after m entry).opened ⊎ WasOpened (after m entry) entries row → In row m.opened ⊎ WasOpened m (entry ∷ entries) row
    by (inl k) = by-one m entry entries row k
    by (inr w) = inr (record { front = entry ∷ w.front; names = w.names; back = w.back; parts = ap (λ l. entry ∷ l) w.parts; at = w.at; visible = w.visible })

all-of-in : (P : Opening → Type 0) (rows : List Opening) → ((row : Opening) → In row rows → P row) → All P rows
all-of-in P [] each = λ i z below. absurd (omega (arith, below))
all-of-in P (row ∷ rows) each = All-cons P row rows (each row (inl refl)) (all-of-in P rows (λ r h. each r (inr h)))

pub all-opened : (m : Machine) (entries : List Entry) → m.opened ≡ [] → All (WasOpened m entries) (replay m entries).opened
all-opened m entries none = all-of-in (WasOpened m entries) (replay m entries).opened (λ row h. by row (was-opened m entries row h))
  where
    by : (row : Opening) → In row m.opened ⊎ WasOpened m entries row → WasOpened m entries row
    by row (inl k) = absurd (subst (In row) none k)
    by row (inr w) = w

pub possible-back : (m : Machine) (xs ys : List Entry) → ArePossible m (xs ++ ys) → ArePossible (replay m xs) ys
possible-back m [] ys all = all
possible-back m (x ∷ xs) ys all = possible-back (after m x) xs ys all.1

-- a file that a row sees keeps the bytes that the list at its opening gives
pub row-last : (bytes : ChangeList → FileName → List ℕ) → AreLasting bytes → (m : Machine) (entries : List Entry) (row : Opening) (name : FileName) → IsSound m → ArePossible m entries
    → (was : WasOpened m entries row) → is_name name ≡ true → has row.names (spelled name) ≡ true → bytes (list_of (replay m entries)) name ≡ bytes (list_of (replay m was.front)) name
row-last bytes lasting m entries row name sound may was is there =
    let rest : List Entry = Open row.caller row.number was.names ∷ was.back in
    let all : ArePossible m (was.front ++ rest) = subst (ArePossible m) was.parts may in
    ap (λ l. bytes (list_of (replay m l)) name) was.parts
    ∙ ap (λ n. bytes (list_of n) name) (replay-append m was.front rest)
    ∙ seen-last bytes lasting (replay m was.front) name rest (kept-all m was.front sound (possible-front m was.front rest all)) is
    (subst (λ l. has l (spelled name) ≡ true) was.visible there)
    (possible-back m was.front rest all)
