-- Laws of legal histories.
use Rattle.std.proofs.Common.{◌≡◌, Bool, List, [], ◌∷◌, ◌++◌, ℕ, ◌+◌, ◌*◌, ◌≤◌, refl, ◌∙◌, arith}
use Rattle.agg_model.specs.ChangeList.{ChangeList}
use Rattle.agg_model.proofs.GrownLaws.{next_of-above, AscendFrom-All}
use Rattle.merge_ranges.specs.declared.name.FileName.{FileName}
use Rattle.core_machine.specs.declared.entry.Entry.{Entry}
use Rattle.core_machine.specs.declared.entry.Entry.TheVariants.{Ingest, Open, Close, Publish, Stray, Sweep, Settled, Work}
use Rattle.core_machine.specs.declared.machine.Machine.{Machine}
use Rattle.core_machine.specs.Sound.{list_of}
use Rattle.core_machine.specs.Entries.{IsPossible, ArePossible, after, replay}
use Rattle.core_machine.specs.Histories.{Record, entries_of, IsLegalFrom, AreLasting}

le_chain : {a b c : ℕ} → a ≤ b → b ≤ c → a ≤ c
le_chain h g = omega (arith, h, g)

above : (n : ℕ) → n ≤ n + 1
above n = omega arith

pub legal-possible : (bytes : ChangeList → FileName → List ℕ) (solo : Bool) (m : Machine) (history : List Record) → IsLegalFrom bytes solo m history → ArePossible m (entries_of history)
legal-possible bytes solo m [] legal = tt
legal-possible bytes solo m (r ∷ rs) legal = (legal.0.possible, legal-possible bytes solo (after m r.entry) rs legal.1)

pub legal-front : (bytes : ChangeList → FileName → List ℕ) (solo : Bool) (m : Machine) (xs ys : List Record) → IsLegalFrom bytes solo m (xs ++ ys) → IsLegalFrom bytes solo m xs
legal-front bytes solo m [] ys legal = tt
legal-front bytes solo m (r ∷ rs) ys legal = (legal.0, legal-front bytes solo (after m r.entry) rs ys legal.1)

pub legal-joined : (bytes : ChangeList → FileName → List ℕ) (solo : Bool) (m : Machine) (xs ys : List Record) → IsLegalFrom bytes solo m xs → IsLegalFrom bytes solo (replay m (entries_of xs)) ys → IsLegalFrom bytes solo m (xs ++ ys)
legal-joined bytes solo m [] ys first rest = rest
legal-joined bytes solo m (r ∷ rs) ys first rest = (first.0, legal-joined bytes solo (after m r.entry) rs ys first.1 rest)

-- ---- files of complete steps

module _ (bytes : ChangeList → FileName → List ℕ) (lasting : AreLasting bytes) (name : FileName) where
  pub record Lasts (m n : Machine) : Type 0 where
    pub same : bytes (list_of n) name ≡ bytes (list_of m) name
    pub complete : name.range.to * n.size ≤ n.next

  once : (m : Machine) (entry : Entry) → IsPossible m entry → name.range.to * m.size ≤ m.next → Lasts m (after m entry)
  once m (Ingest caller batch) may complete = record {
    same = lasting (list_of m) batch name (AscendFrom-All m.next batch may.next.ascend) complete;
    complete = le_chain complete (next_of-above m.next m.next batch (above m.next) may.next.ascend);
  }
  once m (Open caller number names) may complete = record { same = refl; complete = complete }
  once m (Close caller number) may complete = record { same = refl; complete = complete }
  once m (Publish caller added replaced) may complete = record { same = refl; complete = complete }
  once m (Stray caller names) may complete = record { same = refl; complete = complete }
  once m (Sweep caller gone) may complete = record { same = refl; complete = complete }
  once m (Settled caller names) may complete = record { same = refl; complete = complete }
  once m (Work caller) may complete = record { same = refl; complete = complete }

  pub bytes-last : (m : Machine) (entries : List Entry) → ArePossible m entries → name.range.to * m.size ≤ m.next → bytes (list_of (replay m entries)) name ≡ bytes (list_of m) name
  bytes-last m [] may complete = refl
  bytes-last m (entry ∷ entries) may complete =
      let o = once m entry may.0 complete in
      bytes-last (after m entry) entries may.1 o.complete ∙ o.same
