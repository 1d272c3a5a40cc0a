-- The rule between two steps: the queue of tickets, the one history with what each pass knows of it, and the state at home.
use Rattle.std.specs.Prelude.{◌≡◌, ◌⊎◌, ℕ, ◌+◌, ◌-◌, ◌%◌, ◌^◌, ◌<◌, ◌≤◌, ◌==◌, nat_le, Bool, true, false, List, [], ◌∷◌, ◌++◌, map, length, Option, Some, None, slice_index, if◌then◌else◌}
use mathlib.Core.Option.{some, none}
use mathlib.Core.Option as maybe
use mathlib.Core.List.{IsPrefix}
use lib.ListN.{get_elem?}
use Rattle.atomic_table.specs.Table.{State}
use Rattle.turn_cell.specs.declared.view.Stage.{Stage}
use Rattle.turn_cell.specs.declared.view.Stage.TheVariants.{Idle, Waits, HasTurn}
use Rattle.turn_cell.specs.declared.view.QueuePlace.{QueuePlace}
use Rattle.turn_cell.specs.declared.view.Ended.{Ended}
use Rattle.turn_cell.specs.declared.view.Knowledge.{Knowledge}
use Rattle.turn_cell.specs.declared.view.View.{View}

-- the number g of each, added up
abbrev pub total : {A : Type 0} → (A → ℕ) → List A → ℕ
total g [] = 0
total g (x ∷ xs) = g x + total g xs

-- the records of one caller
abbrev pub records_of : {R : Type 0} → (R → ℕ) → ℕ → List R → List R
records_of caller n [] = []
records_of caller n (r ∷ rs) = if caller r == n then r ∷ records_of caller n rs else records_of caller n rs

-- 1 for a pass with a ticket
abbrev pub queued : Stage → ℕ
queued Idle = 0
queued Waits = 1
queued HasTurn = 1

-- the longer of two histories, the second where they are equally long
abbrev pub longer : {R : Type 0} → List R → List R → List R
longer xs ys = if nat_le (length xs) (length ys) then ys else xs

-- the other of the two
abbrev pub shorter_of : {R : Type 0} → List R → List R → List R
shorter_of xs ys = if nat_le (length xs) (length ys) then xs else ys

abbrev pub one_if : Bool → ℕ
one_if true = 1
one_if false = 0

module _ {R : Type 0} where
  -- a pass that was joined had the number n
  abbrev pub HasEnded : List (Ended R) → ℕ → Type 0
  HasEnded ended n = (k : ℕ) × (e : Ended R) × (get_elem? ended k ≡ some e) × (e.number ≡ n)

  abbrev pub idle : QueuePlace R
  idle = record { stage = Idle; ticket = 0; found = [] }

  abbrev pub ticketed : QueuePlace R → ℕ
  ticketed p = queued p.stage

  -- a ticket that waits is drawn and not yet served; the one that has its turn is the one served, and found the whole history
  abbrev pub Stands : ℕ → ℕ → List R → ℕ → List R → Stage → Type 0
  Stands served drawn log ticket found Idle = Unit {0}
  Stands served drawn log ticket found Waits = (served ≤ ticket) × (ticket < drawn)
  Stands served drawn log ticket found HasTurn = (ticket ≡ served) × (served < drawn) × (found ≡ log)

  -- nobody has the turn
  abbrev pub NoTurn : List (QueuePlace R) → Type 0
  NoTurn places = (i : ℕ) (p : QueuePlace R) → get_elem? places i ≡ some p → p.stage ≡ HasTurn → ⊥

  -- as many tickets as words 0 and 1 differ by, each from the one served on and below the next to be drawn, no two the same
  pub record IsQueue (words : List ℕ) (log : List R) (places : List (QueuePlace R)) : Type 0 where
    pub served : ℕ
    pub drawn : ℕ
    pub tickets : slice_index words 0 ≡ drawn % 2 ^ 64
    pub serving : slice_index words 1 ≡ served % 2 ^ 64
    pub count : served + total ticketed places ≡ drawn
    pub placed : (i : ℕ) (p : QueuePlace R) → get_elem? places i ≡ some p → Stands served drawn log p.ticket p.found p.stage
    pub apart : (i j : ℕ) (p q : QueuePlace R) → get_elem? places i ≡ some p → get_elem? places j ≡ some q
        → ticketed p ≡ 1 → ticketed q ≡ 1 → p.ticket ≡ q.ticket → i ≡ j

module _ {R T : Type 0} where
  abbrev pub living : Knowledge R T → ℕ
  living m = one_if m.live

  -- what pass 0 knows of the numbers given out
  abbrev pub IsRoot : ℕ → ℕ → List (Ended R) → Bool → Knowledge R T → Type 0
  IsRoot made out ended splitting m = (m.made ≡ made) × (m.out ≡ out) × (m.ended ≡ ended) × (m.splitting ≡ splitting)

  -- what a live pass knows: the start, a prefix of the history, and its own records, all of which it has seen
  pub record Knows (caller : R → ℕ) (first : T) (log : List R) (made out : ℕ) (ended : List (Ended R)) (splitting : Bool) (m : Knowledge R T) : Type 0 where
    pub begins : m.start ≡ Some first
    pub prefix : IsPrefix m.seen log
    pub own : m.mine ≡ records_of caller m.number log
    pub told : m.mine ≡ records_of caller m.number m.seen
    pub begun : IsPrefix m.shorter m.seen
    pub below : m.number + one_if splitting < made
    pub root : m.number ≡ 0 → IsRoot made out ended splitting m

  -- a live pass has the number n
  abbrev pub HasLive : List (Knowledge R T) → ℕ → Type 0
  HasLive passes n = (i : ℕ) × (m : Knowledge R T) × (get_elem? passes i ≡ some m) × (m.live ≡ true) × (m.number ≡ n)

  -- the records of a pass that was joined are listed, and its number is no live pass's
  pub record IsClosed (caller : R → ℕ) (word : ℕ) (log : List R) (passes : List (Knowledge R T)) (splitting : Bool) (e : Ended R) : Type 0 where
    pub listed : e.records ≡ records_of caller e.number log
    pub below : e.number + one_if splitting < word
    pub dead : HasLive passes e.number → ⊥

  -- word 2 counts the numbers given out; live passes are 1 plus those out, but for one whose split is under way; all numbers
  -- differ; one live pass has seen all; each record has the number of a live pass or of one that was joined
  pub record IsHistory (caller : R → ℕ) (first : T) (word : ℕ) (log : List R) (passes : List (Knowledge R T)) : Type 0 where
    pub out : ℕ
    pub ended : List (Ended R)
    pub splitting : Bool
    pub few : word ≤ 65536
    pub room : length passes + one_if splitting ≤ word
    pub count : total living passes + one_if splitting ≡ 1 + out
    pub knows : (i : ℕ) (m : Knowledge R T) → get_elem? passes i ≡ some m → m.live ≡ true
        → Knows caller first log word out ended splitting m
    pub apart : (i j : ℕ) (m n : Knowledge R T) → get_elem? passes i ≡ some m → get_elem? passes j ≡ some n
        → m.live ≡ true → n.live ≡ true → m.number ≡ n.number → i ≡ j
    pub whole : (i : ℕ) × (m : Knowledge R T) × (get_elem? passes i ≡ some m) × (m.live ≡ true) × (m.seen ≡ log)
    pub closed : (k : ℕ) (e : Ended R) → get_elem? ended k ≡ some e → IsClosed caller word log passes splitting e
    pub distinct : (j k : ℕ) (d e : Ended R) → get_elem? ended j ≡ some d → get_elem? ended k ≡ some e → d.number ≡ e.number → j ≡ k
    pub owners : (k : ℕ) (r : R) → get_elem? log k ≡ some r → HasLive passes (caller r) ⊎ HasEnded ended (caller r)

  abbrev pub place_part : View R T → QueuePlace R
  place_part v = v.place

  abbrev pub knowledge_part : View R T → Knowledge R T
  knowledge_part v = v.knowledge

module _ {S R T : Type 0} (caller : R → ℕ) (stands : S → List R → Type 0) (start : S → T) (first : T) where
  -- the slot is at home, with a state that stands for the history and has the start
  abbrev pub AtHome : List R → List (maybe.Option (Option S)) → Type 0
  AtHome log homes = (x : S) × (get_elem? homes 0 ≡ some (some (Some x))) × stands x log × (start x ≡ first)

  -- the whole rule. Where a pass has its turn, its seat holds the slot, so the slot isn't at home
  pub record IsSound (s : State (Option S) (View R T)) : Type 0 where
    pub log : List R
    pub three : length s.words ≡ 3
    pub one : length s.homes ≡ 1
    pub queue : IsQueue s.words log (map place_part s.views)
    pub history : IsHistory caller first (slice_index s.words 2) log (map knowledge_part s.views)
    pub tied : (i : ℕ) (v : View R T) → get_elem? s.views i ≡ some v → ticketed v.place ≡ 1 → v.knowledge.live ≡ true
    pub home : NoTurn (map place_part s.views) → AtHome log s.homes
    pub away : (i : ℕ) (v : View R T) → get_elem? s.views i ≡ some v → v.place.stage ≡ HasTurn → get_elem? s.homes 0 ≡ some none

module _ {R T : Type 0} where
  -- what a new pass knows
  abbrev pub fresh : ℕ → Option T → List R → Knowledge R T
  fresh n first seen = record {
    live = true;
    number = n;
    start = first;
    seen = seen;
    mine = [];
    shorter = [];
    made = 1;
    out = 0;
    ended = [];
    splitting = false;
  }

  abbrev pub newcomer : ℕ → Option T → List R → View R T
  newcomer n first seen = record { place = idle; knowledge = fresh n first seen }

  -- what is left of a pass that was joined
  abbrev pub gone : Knowledge R T
  gone = record {
    live = false;
    number = 0;
    start = None;
    seen = [];
    mine = [];
    shorter = [];
    made = 1;
    out = 0;
    ended = [];
    splitting = false;
  }

  abbrev pub spent : View R T
  spent = record { place = idle; knowledge = gone }

  -- pass 0 after it took another in
  abbrev pub after_join : Knowledge R T → Knowledge R T → Knowledge R T
  after_join m o = record m {
    seen = longer m.seen o.seen;
    shorter = shorter_of m.seen o.seen;
    out = m.out - 1;
    ended = m.ended ++ record { number = o.number; records = o.mine } ∷ [];
  }
