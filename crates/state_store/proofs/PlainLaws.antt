-- Laws of rows that are alive and say what their changes say.
use Rattle.std.proofs.Common.{◌≡◌, ℕ, ◌≤◌, Bool, true, false, cond, ◌&&◌, ◌||◌, nat_lt, List, [], ◌∷◌, map, All, Option, Some, None, IfSome, IfNone, IsSomeAnd, refl, ap, subst, sym, ◌∙◌, eq-eqb}
use Rattle.std.specs.Option.{ForSome}
use Rattle.std.proofs.lemmas.Bool.{le-leb}
use Rattle.std.proofs.lemmas.List.Elements.{All-nil, All-cons, All-head, All-tail}
use Rattle.agg_outside.specs.declared.rows.Row.{Row}
use Rattle.agg_outside.specs.Rows.{Held, is_before, insert_row, applied}
use Rattle.agg_model.specs.Act.{act_number, act_value}
use Rattle.agg_model.specs.declared.change.Act.{Act}
use Rattle.agg_model.specs.declared.change.Act.TheVariants.{Put, Del, Mark}
use Rattle.agg_model.specs.declared.change.Change.{Change}
use Rattle.agg_model.specs.Arranged.{arranged}
use Rattle.agg_model.specs.ChangeList.{ChangeList}
use Rattle.row_epochs.specs.Changes.{change_of, changes_seen, act_of, row_born, writes_of}
use Rattle.row_epochs.specs.Seen.{is_seen, seen}
use Rattle.row_epochs.specs.Versions.{Versions, IsVersion, AreVersions}
use Rattle.row_epochs.proofs.RowWalks.{entity_back}
use Rattle.agg_core.specs.Rows.{HasRows, said_by, said_of}
use Rattle.state_store.specs.Store.{IsPlain, ArePlain, SeesAll}

-- ---- rows that are written

act_back : (a : Act) → act_of (act_number a) (act_value a) ≡ a
unfolding act_of
act_back (Put value) = refl
act_back Del = refl
act_back Mark = refl

change_back : (epoch : ℕ) (c : Change) → change_of (row_born epoch c) ≡ c
unfolding change_of row_born
change_back epoch c = λ i. record { tx = c.tx; entity = entity_back c.entity i; key = c.key; act = act_back c.act i }

says_so : (epoch : ℕ) (c : Change) → said_by (row_born epoch c) ≡ said_of c
unfolding row_born
says_so epoch c = refl

is_alive : (epoch : ℕ) (c : Change) → (row_born epoch c).killed ≡ 0
unfolding row_born
is_alive epoch c = refl

born_plain : (epoch : ℕ) (c : Change) → IsPlain (row_born epoch c)
born_plain epoch c = (is_alive epoch c, says_so epoch c ∙ ap said_of (sym (change_back epoch c)))

inserted_plain : (new : Row) (rs : List Row) → IsPlain new → All IsPlain rs → All IsPlain (insert_row new rs)
inserted_plain new [] h all = All-cons IsPlain new [] h (All-nil IsPlain)
inserted_plain new (r ∷ rs) h all = by (is_before r.id new.id) (inserted_plain new rs h (All-tail IsPlain r rs all))
  where
    by : (t : Bool) → All IsPlain (insert_row new rs) → All IsPlain (cond t (r ∷ insert_row new rs) (new ∷ r ∷ rs))
    by true rest = All-cons IsPlain r (insert_row new rs) (All-head IsPlain r rs all) rest
    by false rest = All-cons IsPlain new (r ∷ rs) h all

written_plain : (epoch : ℕ) (cs : List Change) (h : Held) → ArePlain h → ArePlain (applied (writes_of epoch cs) h)
written_plain epoch [] h plain = plain
written_plain epoch (c ∷ cs) h plain =
    written_plain epoch cs (record { rows = insert_row (row_born epoch c) h.rows; floor = h.floor })
    (inserted_plain (row_born epoch c) h.rows (born_plain epoch c) plain.0, plain.1)

some_is : {x y : Held} → Some x ≡ Some y → x ≡ y
some_is e = cc

-- a batch leaves plain rows plain
pub plain_after : (old new : Option Held) (epoch : ℕ) (batch : List Change) → IfSome old (λ h. new ≡ Some (applied (writes_of epoch batch) h)) → IfNone old (new ≡ None) → ForSome old ArePlain → ForSome new ArePlain
plain_after None new epoch batch is silent plain = λ h told. cc (silent, told)
plain_after (Some g) new epoch batch is silent plain = λ h told. subst ArePlain (some_is (sym is ∙ told)) (written_plain epoch batch g (plain g refl))

-- ---- rows of a list

alive_seen : (epoch : ℕ) (row : Row) → row.id.born ≤ epoch → row.killed ≡ 0 → is_seen epoch row ≡ true
unfolding is_seen
alive_seen epoch row born alive = λ i. (le-leb row.id.born epoch born i) && (eq-eqb row.killed 0 alive i || nat_lt epoch row.killed)

all_seen : (epoch : ℕ) (rs : List Row) → All (IsVersion epoch) rs → All IsPlain rs → seen epoch rs ≡ rs
all_seen epoch [] versions plain = refl
all_seen epoch (r ∷ rs) versions plain =
    by (is_seen epoch r) (alive_seen epoch r ((All-head (IsVersion epoch) r rs versions).born) ((All-head IsPlain r rs plain).0))
    (all_seen epoch rs (All-tail (IsVersion epoch) r rs versions) (All-tail IsPlain r rs plain))
  where
    by : (t : Bool) → t ≡ true → seen epoch rs ≡ rs → cond t (r ∷ seen epoch rs) (seen epoch rs) ≡ r ∷ rs
    by true is rest = ap (λ l. r ∷ l) rest
    by false is rest = cc is

all_said : (rs : List Row) → All IsPlain rs → map said_by rs ≡ map said_of (map change_of rs)
all_said [] plain = refl
all_said (r ∷ rs) plain = λ i. (All-head IsPlain r rs plain).1 i ∷ all_said rs (All-tail IsPlain r rs plain) i

all_alive : (rs : List Row) → All IsPlain rs → All (λ (row : Row). row.killed ≡ 0) rs
all_alive rs plain = λ k d below. (plain k d below).0

rows_of : (list : ChangeList) (epoch : ℕ) (h : Held) → AreVersions epoch h → changes_seen epoch h.rows ≡ arranged list.changes → ArePlain h → HasRows h list
rows_of list epoch h versions sees plain = record {
  rows = all_said h.rows plain.0 ∙ ap (map said_of) (ap (map change_of) (sym (all_seen epoch h.rows versions.versions plain.0)) ∙ sees);
  alive = all_alive h.rows plain.0;
  floor = plain.1;
}

-- what the present epoch sees is all that there is
pub has_rows : (list : ChangeList) (hot : Versions) → IfSome hot.told (AreVersions hot.epoch) → SeesAll hot list → ForSome hot.told ArePlain → IsSomeAnd hot.told (λ h. HasRows h list)
has_rows list hot versions sees plain = by hot.told versions sees plain
  where
    by : (o : Option Held) → IfSome o (AreVersions hot.epoch) → IsSomeAnd o (λ h. changes_seen hot.epoch h.rows ≡ arranged list.changes) → ForSome o ArePlain → IsSomeAnd o (λ h. HasRows h list)
    by None versions sees plain = absurd sees
    by (Some h) versions sees plain = rows_of list hot.epoch h versions sees (plain h refl)

-- a keeper that has no row
pub none_plain : (o : Option Held) → IsSomeAnd o (λ h. (h.rows ≡ []) × (h.floor ≡ 0)) → ForSome o ArePlain
none_plain None none = absurd none
none_plain (Some h) none = λ g told. subst ArePlain (some_is told) (subst (All IsPlain) (sym none.0) (All-nil IsPlain), none.1)
