-- The queue of tickets over the steps that change it.
use Rattle.std.proofs.Common.{◌≡◌, ◌≢◌, ℕ, zero, suc, ◌+◌, ◌%◌, ◌^◌, ◌<◌, ◌≤◌, List, [], ◌∷◌, ◌++◌, length, set, get_or, refl, sym, ap, ◌∙◌, subst, ⊎_elim, arith, get_or-set_same, get_or-set_other}
use mathlib.Core.Option.{some, some-injective, some-ne-none}
use lib.ListN.{get_elem?}
use Rattle.atomic_table.proofs.Lists.{at_set, at_snoc, one_turn}
use Rattle.turn_cell.specs.declared.view.Stage.{Stage}
use Rattle.turn_cell.specs.declared.view.Stage.TheVariants.{Idle, Waits, HasTurn}
use Rattle.turn_cell.specs.declared.view.QueuePlace.{QueuePlace}
use Rattle.turn_cell.specs.Rule.{queued, ticketed, Stands, IsQueue, idle}
use Rattle.turn_cell.proofs.Basics.{mod-next, total-set, total-append, total_most}

pub idle-waits : Idle ≡ Waits → ⊥
idle-waits e = absurd (omega (arith, ap queued e))

pub idle-turn : Idle ≡ HasTurn → ⊥
idle-turn e = absurd (omega (arith, ap queued e))

abbrev turning : Stage → ℕ
turning Idle = 0
turning Waits = 0
turning HasTurn = 1

pub waits-turn : Waits ≡ HasTurn → ⊥
waits-turn e = absurd (omega (arith, ap turning e))

module _ {R : Type 0} where
  pub most_one : (p : QueuePlace R) → ticketed p ≤ 1
  most_one p = go p.stage
    where
      go : (st : Stage) → queued st ≤ 1
      go Idle = omega arith
      go Waits = omega arith
      go HasTurn = omega arith

  -- a ticket lies between the one served next and the one drawn next
  pub lies : (s d : ℕ) (log : List R) (t : ℕ) (f : List R) (st : Stage) → Stands s d log t f st → queued st ≡ 1 → (s ≤ t) × (t < d)
  lies s d log t f Idle k e = absurd (omega arith)
  lies s d log t f Waits k e = k
  lies s d log t f HasTurn k e = let a = k.0 in let b = k.1 in (omega arith, omega arith)

  raised : (s d : ℕ) (log : List R) (t : ℕ) (f : List R) (st : Stage) → Stands s d log t f st → Stands s (d + 1) log t f st
  raised s d log t f Idle k = tt
  raised s d log t f Waits k = let b = k.1 in (k.0, omega arith)
  raised s d log t f HasTurn k = let b = k.1 in (k.0, omega arith, k.2)

  went : (s d : ℕ) (log log' : List R) (t : ℕ) (f : List R) (st : Stage) → Stands s d log t f st → (queued st ≡ 1 → t ≢ s) → Stands (s + 1) d log' t f st
  went s d log log' t f Idle k n = tt
  went s d log log' t f Waits k n = let a = k.0 in let m = n refl in (omega arith, k.1)
  went s d log log' t f HasTurn k n = absurd (n refl k.0)

  abbrev stands_at : ℕ → ℕ → List R → QueuePlace R → Type 0
  stands_at s d log p = Stands s d log p.ticket p.found p.stage

  abbrev pub stands_now : ℕ → ℕ → List R → ℕ → List R → Stage → Type 0
  stands_now = Stands

  pub starts : (n : ℕ) → IsQueue {R = R} (0 ∷ 0 ∷ n ∷ []) [] (idle ∷ [])
  starts n = record {
    served = 0;
    drawn = 0;
    tickets = refl;
    serving = refl;
    count = refl;
    placed = λ i p e. subst (stands_at 0 0 []) (first_is i p e).1 tt;
    apart = λ i j p q ep eq tp tq e. (first_is i p ep).0 ∙ sym (first_is j q eq).0;
  }
    where
      first_is : (i : ℕ) (p : QueuePlace R) → get_elem? (idle ∷ []) i ≡ some p → (i ≡ 0) × (idle ≡ p)
      first_is zero p e = (refl, some-injective idle p e)
      first_is (suc i) p e = absurd (some-ne-none p (sym e))

  pub grows : (words : List ℕ) (log : List R) (places : List (QueuePlace R)) → IsQueue words log places → IsQueue words log (places ++ idle ∷ [])
  grows words log places q =
      let w : QueuePlace R = idle in
      record {
        served = q.served;
        drawn = q.drawn;
        tickets = q.tickets;
        serving = q.serving;
        count = let e = total-append ticketed places (w ∷ []) in let c = q.count in omega arith;
        placed = λ i p e. ⊎_elim (λ (h : get_elem? places i ≡ some p). q.placed i p h) (λ (h : w ≡ p). subst (stands_at q.served q.drawn log) h tt) (at_snoc places w p i e);
        apart = λ i j a b ea eb ta tb e. ⊎_elim
            (λ (x : get_elem? places i ≡ some a). ⊎_elim (λ (y : get_elem? places j ≡ some b). q.apart i j a b x y ta tb e) (λ (y : w ≡ b). let z : ticketed w ≡ 1 = ap ticketed y ∙ tb in absurd (omega arith)) (at_snoc places w b j eb))
            (λ (x : w ≡ a). let z : ticketed w ≡ 1 = ap ticketed x ∙ ta in absurd (omega arith))
            (at_snoc places w a i ea);
      }

  module _ (words : List ℕ) (log : List R) (places : List (QueuePlace R)) (q : IsQueue words log places) (three : length words ≡ 3) where
    -- a place that takes another's, with its ticket
    apart_kept : (id : ℕ) (p w : QueuePlace R) → get_elem? places id ≡ some p → ticketed w ≤ ticketed p → w.ticket ≡ p.ticket
        → (i j : ℕ) (a b : QueuePlace R) → get_elem? (set places id w) i ≡ some a → get_elem? (set places id w) j ≡ some b → ticketed a ≡ 1 → ticketed b ≡ 1 → a.ticket ≡ b.ticket → i ≡ j
    apart_kept id p w at le same i j a b ea eb ta tb e =
        let back : (k : ℕ) (c : QueuePlace R) → get_elem? (set places id w) k ≡ some c → ticketed c ≡ 1 → (d : QueuePlace R) × (get_elem? places k ≡ some d) × (ticketed d ≡ 1) × (d.ticket ≡ c.ticket)
        = λ k c ec tc. ⊎_elim (λ (h : (k ≡ id) × (w ≡ c)). (p, subst (λ (z : ℕ). get_elem? places z ≡ some p) (sym h.0) at, (let u : ticketed w ≡ 1 = ap ticketed h.1 ∙ tc in let v = most_one p in omega arith), sym same ∙ ap (λ (z : QueuePlace R). z.ticket) h.1)) (λ h. (c, h.1, tc, refl)) (at_set places id k w c ec) in
        let x = back i a ea ta in let y = back j b eb tb in
        q.apart i j x.0 y.0 x.1 y.1 x.2 y.2 (x.3 ∙ (e ∙ sym y.3))

    pub draws : (id : ℕ) (p : QueuePlace R) → get_elem? places id ≡ some p → p.stage ≡ Idle
        → IsQueue (set words 0 ((get_or words 0 0 + 1) % 2 ^ 64)) log (set places id (record { stage = Waits; ticket = q.drawn; found = [] }))
    draws id p at is =
        let w : QueuePlace R = record { stage = Waits; ticket = q.drawn; found = [] } in
        let x : ℕ = (get_or words 0 0 + 1) % 2 ^ 64 in
        let none : ticketed p ≡ 0 = ap queued is in
        let old : (i : ℕ) (a : QueuePlace R) → get_elem? places i ≡ some a → ticketed a ≡ 1 → a.ticket ≢ q.drawn = λ i a e t h. let b = (lies q.served q.drawn log a.ticket a.found a.stage (q.placed i a e) t).1 in absurd (omega arith) in
        record {
          served = q.served;
          drawn = q.drawn + 1;
          tickets = get_or-set_same words 0 x 0 (omega arith) ∙ (ap (λ (z : ℕ). (z + 1) % 2 ^ 64) q.tickets ∙ mod-next q.drawn (2 ^ 64));
          serving = get_or-set_other words 0 1 x 0 (λ e. absurd (omega arith)) ∙ q.serving;
          count = let e = total-set ticketed places id p w at in let c = q.count in omega arith;
          placed = λ i a e. ⊎_elim
              (λ (h : (i ≡ id) × (w ≡ a)). subst (stands_at q.served (q.drawn + 1) log) h.1 (let c = q.count in (omega arith, omega arith)))
              (λ h. raised q.served q.drawn log a.ticket a.found a.stage (q.placed i a h.1))
              (at_set places id i w a e);
          apart = λ i j a b ea eb ta tb e. ⊎_elim
              (λ (h : (i ≡ id) × (w ≡ a)). ⊎_elim (λ (k : (j ≡ id) × (w ≡ b)). h.0 ∙ sym k.0) (λ k. absurd (old j b k.1 tb (sym e ∙ sym (ap (λ (z : QueuePlace R). z.ticket) h.1)))) (at_set places id j w b eb))
              (λ h. ⊎_elim (λ (k : (j ≡ id) × (w ≡ b)). absurd (old i a h.1 ta (e ∙ sym (ap (λ (z : QueuePlace R). z.ticket) k.1)))) (λ k. q.apart i j a b h.1 k.1 ta tb e) (at_set places id j w b eb))
              (at_set places id i w a ea);
        }

    -- the ticket that is the word's is the next to be served
    pub next : (id : ℕ) (p : QueuePlace R) → get_elem? places id ≡ some p → p.stage ≡ Waits → length places ≤ 65536 → get_or words 1 0 ≡ p.ticket % 2 ^ 64 → p.ticket ≡ q.served
    next id p at is few e =
        let l = lies q.served q.drawn log p.ticket p.found p.stage (q.placed id p at) (ap queued is) in
        let c = q.count in let m = total_most ticketed most_one places in
        sym (one_turn q.served p.ticket (2 ^ 64) l.0 (let a = l.1 in omega arith) (sym q.serving ∙ e))

    pub looks : (id : ℕ) (p : QueuePlace R) → get_elem? places id ≡ some p → p.stage ≡ Waits → p.ticket ≡ q.served
        → IsQueue words log (set places id (record { stage = HasTurn; ticket = p.ticket; found = log }))
    looks id p at is mine =
        let w : QueuePlace R = record { stage = HasTurn; ticket = p.ticket; found = log } in
        let one : ticketed p ≡ 1 = ap queued is in
        let l = lies q.served q.drawn log p.ticket p.found p.stage (q.placed id p at) one in
        record {
          served = q.served;
          drawn = q.drawn;
          tickets = q.tickets;
          serving = q.serving;
          count = let e = total-set ticketed places id p w at in let c = q.count in omega arith;
          placed = λ i a e. ⊎_elim
              (λ (h : (i ≡ id) × (w ≡ a)). subst (stands_at q.served q.drawn log) h.1 (mine, (let b = l.1 in omega arith), refl))
              (λ h. q.placed i a h.1)
              (at_set places id i w a e);
          apart = apart_kept id p w at (omega arith) refl;
        }

    -- nobody else has the turn
    pub alone : (id : ℕ) (p : QueuePlace R) → get_elem? places id ≡ some p → ticketed p ≡ 1 → p.ticket ≡ q.served → (i : ℕ) (a : QueuePlace R) → get_elem? places i ≡ some a → a.stage ≡ HasTurn → i ≡ id
    alone id p at one mine i a e works =
        let k = subst (λ (st : Stage). Stands q.served q.drawn log a.ticket a.found st) works (q.placed i a e) in
        q.apart i id a p e at (ap queued works) one (k.0 ∙ sym mine)

    pub serves : (log' : List R) (id : ℕ) (p : QueuePlace R) → get_elem? places id ≡ some p → p.stage ≡ HasTurn
        → IsQueue (set words 1 ((get_or words 1 0 + 1) % 2 ^ 64)) log' (set places id idle)
    serves log' id p at is =
        let w : QueuePlace R = idle in
        let x : ℕ = (get_or words 1 0 + 1) % 2 ^ 64 in
        let one : ticketed p ≡ 1 = ap queued is in
        let k = subst (λ (st : Stage). Stands q.served q.drawn log p.ticket p.found st) is (q.placed id p at) in
        record {
          served = q.served + 1;
          drawn = q.drawn;
          tickets = get_or-set_other words 1 0 x 0 (λ e. absurd (omega arith)) ∙ q.tickets;
          serving = get_or-set_same words 1 x 0 (omega arith) ∙ (ap (λ (z : ℕ). (z + 1) % 2 ^ 64) q.serving ∙ mod-next q.served (2 ^ 64));
          count = let e = total-set ticketed places id p w at in let c = q.count in omega arith;
          placed = λ i a e. ⊎_elim
              (λ (h : (i ≡ id) × (w ≡ a)). subst (stands_at (q.served + 1) q.drawn log') h.1 tt)
              (λ h. went q.served q.drawn log log' a.ticket a.found a.stage (q.placed i a h.1) (λ t m. h.0 (q.apart i id a p h.1 at t one (m ∙ sym k.0))))
              (at_set places id i w a e);
          apart = λ i j a b ea eb ta tb e. ⊎_elim
              (λ (h : (i ≡ id) × (w ≡ a)). let z : ticketed w ≡ 1 = ap ticketed h.1 ∙ ta in absurd (omega arith))
              (λ h. ⊎_elim (λ (k : (j ≡ id) × (w ≡ b)). let z : ticketed w ≡ 1 = ap ticketed k.1 ∙ tb in absurd (omega arith)) (λ k. q.apart i j a b h.1 k.1 ta tb e) (at_set places id j w b eb))
              (at_set places id i w a ea);
        }

    -- a place without a ticket becomes idle
    pub rests : (id : ℕ) (p : QueuePlace R) → get_elem? places id ≡ some p → p.stage ≡ Idle → IsQueue words log (set places id idle)
    rests id p at is =
        let w : QueuePlace R = idle in
        let none : ticketed p ≡ 0 = ap queued is in
        record {
          served = q.served;
          drawn = q.drawn;
          tickets = q.tickets;
          serving = q.serving;
          count = let e = total-set ticketed places id p w at in let c = q.count in omega arith;
          placed = λ i a e. ⊎_elim (λ (h : (i ≡ id) × (w ≡ a)). subst (stands_at q.served q.drawn log) h.1 tt) (λ h. q.placed i a h.1) (at_set places id i w a e);
          apart = λ i j a b ea eb ta tb e. ⊎_elim
              (λ (h : (i ≡ id) × (w ≡ a)). let z : ticketed w ≡ 1 = ap ticketed h.1 ∙ ta in absurd (omega arith))
              (λ h. ⊎_elim (λ (k : (j ≡ id) × (w ≡ b)). let z : ticketed w ≡ 1 = ap ticketed k.1 ∙ tb in absurd (omega arith)) (λ k. q.apart i j a b h.1 k.1 ta tb e) (at_set places id j w b eb))
              (at_set places id i w a ea);
        }
