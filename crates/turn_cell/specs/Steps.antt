-- What each step tells the thread that takes it.
use Rattle.std.specs.Prelude.{◌≡◌, ◌≢◌, ◌⊎◌, ℕ, ◌+◌, ◌-◌, ◌%◌, ◌^◌, ◌<◌, true, false, List, [], ◌∷◌, ◌++◌, Option, Some}
use mathlib.Core.Option.{some}
use mathlib.Core.List.{IsPrefix}
use lib.ListN.{get_elem?}
use Rattle.atomic_table.specs.Table.{Me, Step, rest}
use Rattle.turn_cell.specs.declared.view.Stage.TheVariants.{Waits, HasTurn}
use Rattle.turn_cell.specs.declared.view.Ended.{Ended}
use Rattle.turn_cell.specs.declared.view.Knowledge.{Knowledge}
use Rattle.turn_cell.specs.declared.view.View.{View}
use Rattle.turn_cell.specs.Rule.{records_of, idle, HasEnded, fresh, after_join}

module _ {R T : Type 0} where
  -- a history as a pass finds it with its turn: it begins with what the pass has seen, and what came since isn't the pass's own
  pub record Finds (caller : R → ℕ) (m : Knowledge R T) (found : List R) : Type 0 where
    pub seen : IsPrefix m.seen found
    pub own : m.mine ≡ records_of caller m.number found
    pub told : m.mine ≡ records_of caller m.number m.seen
    pub all : m.number ≡ 0 → m.out ≡ 0 → m.seen ≡ found

  -- the pass has seen one record more, which it added
  abbrev pub after_turn : Knowledge R T → List R → R → Knowledge R T
  after_turn m found r = record m { seen = found ++ r ∷ []; mine = m.mine ++ r ∷ [] }

  -- the history at the end: each record has the number 0 or one that was joined, and those of a joined number are the listed ones
  pub record KnowsAll (caller : R → ℕ) (m : Knowledge R T) : Type 0 where
    pub own : m.mine ≡ records_of caller m.number m.seen
    pub owned : (k : ℕ) (r : R) → get_elem? m.seen k ≡ some r → (caller r ≡ 0) ⊎ HasEnded m.ended (caller r)
    pub listed : (k : ℕ) (e : Ended R) → get_elem? m.ended k ≡ some e → e.records ≡ records_of caller e.number m.seen
    pub above : (k : ℕ) (e : Ended R) → get_elem? m.ended k ≡ some e → 0 < e.number
    pub distinct : (j k : ℕ) (d e : Ended R) → get_elem? m.ended j ≡ some d → get_elem? m.ended k ≡ some e → d.number ≡ e.number → j ≡ k

  -- the views after the steps: a number is drawn for a split
  abbrev pub counted_view : View R T → View R T
  counted_view v = record { place = v.place; knowledge = record v.knowledge { made = v.knowledge.made + 1; out = v.knowledge.out + 1; splitting = true } }

  -- the split was refused: the number drawn stays unused
  abbrev pub refused_view : View R T → View R T
  refused_view v = record { place = v.place; knowledge = record v.knowledge { out = v.knowledge.out - 1; splitting = false } }

  -- the split is done: pass 0, and the new pass with the number drawn
  abbrev pub left_view : View R T → View R T
  left_view v = record { place = v.place; knowledge = record v.knowledge { splitting = false } }

  abbrev pub right_view : View R T → View R T
  right_view v = record { place = idle; knowledge = fresh (v.knowledge.made - 1) v.knowledge.start v.knowledge.seen }

  abbrev pub joined_view : View R T → View R T → View R T
  joined_view v w = record { place = v.place; knowledge = after_join v.knowledge w.knowledge }

  -- the turn is over, with the record r
  abbrev pub finished_view : View R T → R → View R T
  finished_view v r = record { place = idle; knowledge = after_turn v.knowledge v.place.found r }

module _ {S R T : Type 0} where
  -- 1: a ticket is drawn, the number found
  abbrev pub drew : Step (Option S) → Me (Option S) (View R T) → ℕ → Me (Option S) (View R T) → Type 0
  drew st m n m' = (m'.0.knowledge ≡ m.0.knowledge) × (m'.0.place.stage ≡ Waits) × (n ≡ m'.0.place.ticket % 2 ^ 64) × (m'.1 ≡ m.1)

  -- it has its turn, and the slot with a state that stands for what it found
  abbrev pub Took : (R → ℕ) → (S → List R → Type 0) → (S → T) → Me (Option S) (View R T) → Me (Option S) (View R T) → Type 0
  Took caller stands start m m' = (m'.0.knowledge ≡ m.0.knowledge) × (m'.0.place.stage ≡ HasTurn) × Finds caller m.0.knowledge m'.0.place.found
      × ((x : S) × (m'.1 ≡ (0, Some x) ∷ m.1) × stands x m'.0.place.found × (Some (start x) ≡ m.0.knowledge.start))

  -- 2: a look at the ticket served. It has its turn where that is its own, and else nothing changes
  abbrev pub looked : (R → ℕ) → (S → List R → Type 0) → (S → T) → Step (Option S) → Me (Option S) (View R T) → ℕ → Me (Option S) (View R T) → Type 0
  looked caller stands start st m n m' =
      (n ≡ m.0.place.ticket % 2 ^ 64 → Took caller stands start m m') × (n ≢ m.0.place.ticket % 2 ^ 64 → m' ≡ m)

  -- 5: the next is served, and the slot is at home. 3 and 4, taking the state out and putting it back, change no view
  abbrev pub served : R → Step (Option S) → Me (Option S) (View R T) → ℕ → Me (Option S) (View R T) → Type 0
  served r st m n m' = (m'.0 ≡ finished_view m.0 r) × (m'.1 ≡ rest m.1)

  -- 6: a number is drawn for a split
  abbrev pub counted : Step (Option S) → Me (Option S) (View R T) → ℕ → Me (Option S) (View R T) → Type 0
  counted st m n m' = (m'.0 ≡ counted_view m.0) × (m'.1 ≡ m.1) × (n ≡ m.0.knowledge.made)

  -- 7, a join, tells nothing by itself. A load after it does: of the two histories joined the shorter begins the longer
  abbrev pub learned : Step (Option S) → Me (Option S) (View R T) → ℕ → Me (Option S) (View R T) → Type 0
  learned st m n m' = (m' ≡ m) × IsPrefix m.0.knowledge.shorter m.0.knowledge.seen

  -- 8: the split was refused
  abbrev pub refused : Step (Option S) → Me (Option S) (View R T) → ℕ → Me (Option S) (View R T) → Type 0
  refused st m n m' = (m'.0 ≡ refused_view m.0) × (m'.1 ≡ m.1)
