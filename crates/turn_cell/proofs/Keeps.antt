-- Each step keeps the rule.
use Rattle.std.proofs.Common.{◌≡◌, ◌≢◌, ℕ, ◌+◌, ◌%◌, ◌^◌, ◌<◌, ◌≤◌, true, false, List, [], ◌∷◌, ◌++◌, map, length, set, get_or, refl, sym, ap, ◌∙◌, subst, ⊎_elim, arith, length-set, get_or-set_same, get_or-set_other}
use mathlib.Core.Logic.{dite}
use native.Mathlib.Decide.{ℕ_discrete}
use mathlib.Core.Option.{none, some}
use mathlib.Core.List.{map-append}
use lib.ListN.{get_elem?, length-map}
use lib.Seq.{map-set, set-get_or}
use Rattle.std.specs.Prelude.{Option, Some}
use Rattle.atomic_table.specs.Table.{State, Me, step, Act, keeps, takes, gives, Valid, stepped, carried_after, put_back, Allows, Splits, Joins, Final, Seen, opening}
use Rattle.atomic_table.proofs.Lists.{at_set, set_here, set_else, set_again, at_longer, at_map}
use Rattle.turn_cell.specs.declared.view.Stage.{Stage}
use Rattle.turn_cell.specs.declared.view.Stage.TheVariants.{Idle, Waits, HasTurn}
use Rattle.turn_cell.specs.declared.view.QueuePlace.{QueuePlace}
use Rattle.turn_cell.specs.declared.view.Knowledge.{Knowledge}
use Rattle.turn_cell.specs.declared.view.View.{View}
use Rattle.turn_cell.specs.Rule.{records_of, queued, ticketed, IsQueue, IsHistory, place_part, knowledge_part, NoTurn, IsSound, idle, newcomer, gone, spent}
use Rattle.turn_cell.specs.Steps.{after_turn, counted_view, refused_view, left_view, right_view, joined_view, finished_view, KnowsAll, drew, looked, served, counted, refused, learned}
use Rattle.turn_cell.proofs.Basics.{same_at, below_length, at_end}
use Rattle.turn_cell.proofs.Queues as queue
use Rattle.turn_cell.proofs.Queues.{idle-waits, idle-turn, waits-turn}
use Rattle.turn_cell.proofs.Histories as history

module _ {S R T : Type 0} (caller : R → ℕ) (stands : S → List R → Type 0) (start : S → T) (first : T) where
  abbrev V : Type 0
  V = View R T

  abbrev St : Type 0
  St = State (Option S) V

  abbrev M : Type 0
  M = Me (Option S) V

  abbrev pub TurnRule : St → Type 0
  TurnRule = IsSound caller stands start first

  -- the places, where one view changes
  places_set : (vs : List V) (id : ℕ) (w : V) → map place_part (set vs id w) ≡ set (map place_part vs) id w.place
  places_set vs id w = map-set place_part vs id w

  passes_set : (vs : List V) (id : ℕ) (w : V) → map knowledge_part (set vs id w) ≡ set (map knowledge_part vs) id w.knowledge
  passes_set vs id w = map-set knowledge_part vs id w

  passes_stay : (vs : List V) (id : ℕ) (v w : V) → get_elem? vs id ≡ some v → w.knowledge ≡ v.knowledge → map knowledge_part (set vs id w) ≡ map knowledge_part vs
  passes_stay vs id v w at e = passes_set vs id w ∙ (ap (λ (z : Knowledge R T). set (map knowledge_part vs) id z) e ∙ set_again (map knowledge_part vs) id v.knowledge (at_map knowledge_part vs id v at))

  places_stay : (vs : List V) (id : ℕ) (v w : V) → get_elem? vs id ≡ some v → w.place ≡ v.place → map place_part (set vs id w) ≡ map place_part vs
  places_stay vs id v w at e = places_set vs id w ∙ (ap (λ (z : QueuePlace R). set (map place_part vs) id z) e ∙ set_again (map place_part vs) id v.place (at_map place_part vs id v at))

  tied_set : (s : St) (t : TurnRule s) (id : ℕ) (w : V) → w.knowledge.live ≡ true → (i : ℕ) (v : V) → get_elem? (set s.views id w) i ≡ some v → ticketed v.place ≡ 1 → v.knowledge.live ≡ true
  tied_set s t id w alive i v e one = ⊎_elim (λ (h : (i ≡ id) × (w ≡ v)). sym (ap (λ (z : V). z.knowledge.live) h.1) ∙ alive) (λ h. t.tied i v h.1 one) (at_set s.views id i w v e)

  -- nobody had the turn, if nobody has it now and this seat did not have it
  quiet : (places : List (QueuePlace R)) (id : ℕ) (p w : QueuePlace R) → get_elem? places id ≡ some p → (p.stage ≡ HasTurn → ⊥) → NoTurn (set places id w) → NoTurn places
  quiet places id p w at not nobody i a e works = dite (ℕ_discrete i id)
      (λ h. let is : p ≡ a = same_at places id p a at (subst (λ (z : ℕ). get_elem? places z ≡ some a) h e) in not (ap (λ (z : QueuePlace R). z.stage) is ∙ works))
      (λ ne. nobody i a (set_else places id i w ne ∙ e) works)

  -- the slot is out where a pass has its turn, and the view that changed has no turn
  away_set : (s : St) (t : TurnRule s) (id : ℕ) (w : V) → (w.place.stage ≡ HasTurn → ⊥) → (i : ℕ) (u : V) → get_elem? (set s.views id w) i ≡ some u → u.place.stage ≡ HasTurn → get_elem? s.homes 0 ≡ some none
  away_set s t id w not i u e turn = ⊎_elim
      (λ (h : (i ≡ id) × (w ≡ u)). absurd (not (ap (λ (z : V). z.place.stage) h.1 ∙ turn)))
      (λ (h : (i ≢ id) × (get_elem? s.views i ≡ some u)). t.away i u h.1 turn)
      (at_set s.views id i w u e)

  -- the same where the place is as before
  away_stay : (s : St) (t : TurnRule s) (id : ℕ) (v w : V) → get_elem? s.views id ≡ some v → w.place ≡ v.place → (i : ℕ) (u : V) → get_elem? (set s.views id w) i ≡ some u → u.place.stage ≡ HasTurn → get_elem? s.homes 0 ≡ some none
  away_stay s t id v w at same i u e turn = ⊎_elim
      (λ (h : (i ≡ id) × (w ≡ u)). t.away id v at (ap (λ (z : QueuePlace R). z.stage) (sym same) ∙ (ap (λ (z : V). z.place.stage) h.1 ∙ turn)))
      (λ (h : (i ≢ id) × (get_elem? s.views i ≡ some u)). t.away i u h.1 turn)
      (at_set s.views id i w u e)

  few : (s : St) (t : TurnRule s) → length (map place_part s.views) ≤ 65536
  few s t = let a = length-map s.views place_part in let b = length-map s.views knowledge_part in let c = t.history.room in let d = t.history.few in omega arith

  pub draws : (slots id : ℕ) (me : M) → me.0.place.stage ≡ Idle → me.0.knowledge.live ≡ true → Allows TurnRule slots id me 0 (λ n. (n + 1) % 2 ^ 64) (drew (step slots 0 1 0 none) me)
  draws slots id me is alive s t wide at small =
      let v : V = me.0 in
      let p : QueuePlace R = record { stage = Waits; ticket = t.queue.drawn; found = [] } in
      let w : V = record { place = p; knowledge = v.knowledge } in
      let at_p = at_map place_part s.views id v at in
      let x : ℕ = (get_or s.words 0 0 + 1) % 2 ^ 64 in (
        w,
        keeps,
        tt,
        record {
          log = t.log;
          three = length-set s.words 0 x ∙ t.three;
          one = t.one;
          queue = subst (IsQueue (set s.words 0 x) t.log) (sym (places_set s.views id w)) (queue.draws s.words t.log (map place_part s.views) t.queue t.three id v.place at_p is);
          history = subst (λ (z : ℕ). IsHistory caller first z t.log (map knowledge_part (set s.views id w))) (sym (get_or-set_other s.words 0 2 x 0 (λ e. absurd (omega arith))))
              (subst (IsHistory caller first (get_or s.words 2 0) t.log) (sym (passes_stay s.views id v w at refl)) t.history);
          tied = tied_set s t id w alive;
          home = λ n. t.home (quiet (map place_part s.views) id v.place p at_p (λ works. idle-turn (sym is ∙ works)) (subst NoTurn (places_set s.views id w) n));
          away = away_set s t id w waits-turn;
        },
        (refl, refl, t.queue.tickets, refl),
      )

  abbrev Looks : St → ℕ → M → Type 0
  Looks s id me = (w : V) × (a : Act (Option S)) × Valid s.homes me.1 a × TurnRule (stepped s 1 (get_or s.words 1 0) id me.1 w a) × looked caller stands start (step 1 1 0 0 none) me (get_or s.words 1 0) (w, carried_after me.1 a)

  pub looks : (slots id : ℕ) (me : M) → me.0.place.stage ≡ Waits → me.0.knowledge.live ≡ true → Allows TurnRule slots id me 1 (λ n. n) (looked caller stands start (step slots 1 0 0 none) me)
  looks slots id me is alive s t wide at small =
      let v : V = me.0 in
      let n : ℕ = get_or s.words 1 0 in
      let places : List (QueuePlace R) = map place_part s.views in
      let at_p = at_map place_part s.views id v at in
      let at_m = at_map knowledge_part s.views id v at in
      let words_is : set s.words 1 n ≡ s.words = set-get_or s.words 1 0 in
      dite (ℕ_discrete n (v.place.ticket % 2 ^ 64))
      (λ hit.
      let p : QueuePlace R = record { stage = HasTurn; ticket = v.place.ticket; found = t.log } in
      let w : V = record { place = p; knowledge = v.knowledge } in
      let mine = queue.next s.words t.log places t.queue t.three id v.place at_p is (few s t) hit in
      let free : NoTurn places = λ i a e works. (let same = queue.alone s.words t.log places t.queue t.three id v.place at_p (ap queued is) mine i a e works in
      let eq : v.place ≡ a = same_at places id v.place a at_p (subst (λ (z : ℕ). get_elem? places z ≡ some a) same e) in waits-turn (sym is ∙ (ap (λ (z : QueuePlace R). z.stage) eq ∙ works))) in
      let home = t.home free in
      let k = t.history.knows id v.knowledge at_m alive in (
        w,
        takes 0 (Some home.0),
        home.1,
        record {
          log = t.log;
          three = length-set s.words 1 n ∙ t.three;
          one = length-set s.homes 0 none ∙ t.one;
          queue = subst (λ (z : List ℕ). IsQueue z t.log (map place_part (set s.views id w))) (sym words_is)
              (subst (IsQueue s.words t.log) (sym (places_set s.views id w)) (queue.looks s.words t.log places t.queue t.three id v.place at_p is mine));
          history = subst (λ (z : List ℕ). IsHistory caller first (get_or z 2 0) t.log (map knowledge_part (set s.views id w))) (sym words_is)
              (subst (IsHistory caller first (get_or s.words 2 0) t.log) (sym (passes_stay s.views id v w at refl)) t.history);
          tied = tied_set s t id w alive;
          home = λ nobody. absurd (nobody id p (at_map place_part (set s.views id w) id w (set_here s.views id w (below_length s.views id v at))) refl);
          away = λ i u e turn. set_here s.homes 0 none (let o = t.one in omega arith);
        },
        (
          (λ _. (refl, refl, record { seen = k.prefix; own = k.own; told = k.told; all = λ zero_is no_out. history.seen_all caller first (get_or s.words 2 0) t.log (map knowledge_part s.views) t.history id v.knowledge at_m alive zero_is no_out }, (home.0, refl, home.2, ap (λ (z : T). Some z) home.3 ∙ sym k.begins))),
          λ miss. absurd (miss hit),
        ),
      ))
      (λ miss. (
        v,
        keeps,
        tt,
        record {
          log = t.log;
          three = length-set s.words 1 n ∙ t.three;
          one = t.one;
          queue = subst (λ (z : List ℕ). IsQueue z t.log (map place_part (set s.views id v))) (sym words_is) (subst (IsQueue s.words t.log) (sym (places_stay s.views id v v at refl)) t.queue);
          history = subst (λ (z : List ℕ). IsHistory caller first (get_or z 2 0) t.log (map knowledge_part (set s.views id v))) (sym words_is)
              (subst (IsHistory caller first (get_or s.words 2 0) t.log) (sym (passes_stay s.views id v v at refl)) t.history);
          tied = tied_set s t id v alive;
          home = λ nobody. t.home (subst NoTurn (places_stay s.views id v v at refl) nobody);
          away = away_stay s t id v v at refl;
        },
        ((λ hit. absurd (miss hit)), λ _. refl),
      ))

  pub serves : (slots id : ℕ) (me : M) (x : S) (r : R) → me.0.place.stage ≡ HasTurn → me.0.knowledge.live ≡ true → me.1 ≡ (0, Some x) ∷ [] → stands x (me.0.place.found ++ r ∷ [])
      → Some (start x) ≡ me.0.knowledge.start → caller r ≡ me.0.knowledge.number → Allows TurnRule slots id me 1 (λ n. (n + 1) % 2 ^ 64) (served r (step slots 1 1 0 none) me)
  serves slots id me x r is alive held fits begun by s t wide at small =
      let v : V = me.0 in
      let places : List (QueuePlace R) = map place_part s.views in
      let passes : List (Knowledge R T) = map knowledge_part s.views in
      let at_p = at_map place_part s.views id v at in
      let at_m = at_map knowledge_part s.views id v at in
      let n : ℕ = (get_or s.words 1 0 + 1) % 2 ^ 64 in
      let k = subst (λ (st : Stage). queue.stands_now t.queue.served t.queue.drawn t.log v.place.ticket v.place.found st) is (t.queue.placed id v.place at_p) in
      let found : v.place.found ≡ t.log = k.2 in
      let w : V = finished_view v r in
      let log' : List R = t.log ++ r ∷ [] in
      let m' : Knowledge R T = after_turn v.knowledge t.log r in
      let same : w.knowledge ≡ m' = ap (λ (z : List R). after_turn v.knowledge z r) found in
      let known = t.history.knows id v.knowledge at_m alive in
      let start_is : start x ≡ first = history.some_same (start x) first (begun ∙ known.begins) in (
        w,
        gives,
        tt,
        record {
          log = log';
          three = length-set s.words 1 n ∙ t.three;
          one = ap (λ (c : List (ℕ × Option S)). length (put_back s.homes c)) held ∙ (length-set s.homes 0 (some (Some x)) ∙ t.one);
          queue = subst (IsQueue (set s.words 1 n) log') (sym (places_set s.views id w)) (queue.serves s.words t.log places t.queue t.three log' id v.place at_p is);
          history = subst (λ (z : ℕ). IsHistory caller first z log' (map knowledge_part (set s.views id w))) (sym (get_or-set_other s.words 1 2 n 0 (λ e. absurd (omega arith))))
              (subst (IsHistory caller first (get_or s.words 2 0) log') (sym (passes_set s.views id w ∙ ap (λ (z : Knowledge R T). set passes id z) same)) (history.adds caller first (get_or s.words 2 0) t.log passes t.history id v.knowledge r at_m alive by));
          tied = tied_set s t id w alive;
          home = λ _. (x, ap (λ (c : List (ℕ × Option S)). get_elem? (put_back s.homes c) 0) held ∙ set_here s.homes 0 (some (Some x)) (let o = t.one in omega arith), subst (λ (z : List R). stands x (z ++ r ∷ [])) found fits, start_is);
          away = λ i u e turn. ⊎_elim
              (λ (h : (i ≡ id) × (w ≡ u)). absurd (idle-turn (ap (λ (z : V). z.place.stage) h.1 ∙ turn)))
              (λ (h : (i ≢ id) × (get_elem? s.views i ≡ some u)). absurd (h.0 (queue.alone s.words t.log places t.queue t.three id v.place at_p (ap queued is) k.0 i u.place (at_map place_part s.views i u h.1) turn)))
              (at_set s.views id i w u e);
        },
        (refl, refl),
      )

  -- a step on word 2, at which one member changes
  on_word : (s : St) (t : TurnRule s) (id n : ℕ) (v : V) (m : Knowledge R T) → get_elem? s.views id ≡ some v → m.live ≡ true → (c : List (ℕ × Option S))
      → IsHistory caller first n t.log (set (map knowledge_part s.views) id m) → TurnRule (stepped s 2 n id c (record { place = v.place; knowledge = m }) keeps)
  on_word s t id n v m at alive c h =
      let w : V = record { place = v.place; knowledge = m } in
      let x0 = get_or-set_other s.words 2 0 n 0 (λ e. absurd (omega arith)) in
      let x1 = get_or-set_other s.words 2 1 n 0 (λ e. absurd (omega arith)) in
      let q = t.queue in
      record {
        log = t.log;
        three = length-set s.words 2 n ∙ t.three;
        one = t.one;
        queue = subst (IsQueue (set s.words 2 n) t.log) (sym (places_stay s.views id v w at refl)) record {
          served = q.served;
          drawn = q.drawn;
          tickets = x0 ∙ q.tickets;
          serving = x1 ∙ q.serving;
          count = q.count;
          placed = q.placed;
          apart = q.apart;
        };
        history = subst (λ (z : ℕ). IsHistory caller first z t.log (map knowledge_part (set s.views id w))) (sym (get_or-set_same s.words 2 n 0 (let e = t.three in omega arith)))
            (subst (IsHistory caller first n t.log) (sym (passes_set s.views id w)) h);
        tied = tied_set s t id w alive;
        home = λ nobody. t.home (subst NoTurn (places_stay s.views id v w at refl) nobody);
        away = away_stay s t id v w at refl;
      }

  pub counts : (slots id : ℕ) (me : M) → me.0.knowledge.live ≡ true → me.0.knowledge.number ≡ 0 → me.0.knowledge.splitting ≡ false → me.0.knowledge.made < 65536
      → Allows TurnRule slots id me 2 (λ n. (n + 1) % 2 ^ 64) (counted (step slots 2 1 0 none) me)
  counts slots id me alive zero_is calm low s t wide at small =
      let v : V = me.0 in
      let at_m = at_map knowledge_part s.views id v at in
      let word : ℕ = get_or s.words 2 0 in
      let next : (word + 1) % 2 ^ 64 ≡ word + 1 = history.small_mod word t.history.few in
      let w : V = counted_view v in (
        w,
        keeps,
        tt,
        on_word s t id ((word + 1) % 2 ^ 64) v w.knowledge at alive me.1
            (subst (λ (z : ℕ). IsHistory caller first z t.log (set (map knowledge_part s.views) id w.knowledge)) (sym next) (history.counts caller first word t.log (map knowledge_part s.views) t.history id v.knowledge at_m alive zero_is calm low)),
        (refl, refl, sym ((t.history.knows id v.knowledge at_m alive).root zero_is).0),
      )

  pub refuses : (slots id : ℕ) (me : M) → me.0.knowledge.live ≡ true → me.0.knowledge.number ≡ 0 → me.0.knowledge.splitting ≡ true → Allows TurnRule slots id me 2 (λ n. n) (refused (step slots 2 0 0 none) me)
  refuses slots id me alive zero_is calm s t wide at small =
      let v : V = me.0 in
      let at_m = at_map knowledge_part s.views id v at in
      let w : V = refused_view v in (
        w,
        keeps,
        tt,
        on_word s t id (get_or s.words 2 0) v w.knowledge at alive me.1 (history.refuses caller first (get_or s.words 2 0) t.log (map knowledge_part s.views) t.history id v.knowledge at_m alive zero_is calm),
        (refl, refl),
      )

  -- a load that changes nothing
  unmoved : (s : St) (t : TurnRule s) (id i : ℕ) (v : V) → get_elem? s.views id ≡ some v → v.knowledge.live ≡ true → (c : List (ℕ × Option S)) → TurnRule (stepped s i (get_or s.words i 0) id c v keeps)
  unmoved s t id i v at alive c =
      let n : ℕ = get_or s.words i 0 in
      let words_is : set s.words i n ≡ s.words = set-get_or s.words i 0 in
      record {
        log = t.log;
        three = length-set s.words i n ∙ t.three;
        one = t.one;
        queue = subst (λ (z : List ℕ). IsQueue z t.log (map place_part (set s.views id v))) (sym words_is) (subst (IsQueue s.words t.log) (sym (places_stay s.views id v v at refl)) t.queue);
        history = subst (λ (z : List ℕ). IsHistory caller first (get_or z 2 0) t.log (map knowledge_part (set s.views id v))) (sym words_is)
            (subst (IsHistory caller first (get_or s.words 2 0) t.log) (sym (passes_stay s.views id v v at refl)) t.history);
        tied = tied_set s t id v alive;
        home = λ nobody. t.home (subst NoTurn (places_stay s.views id v v at refl) nobody);
        away = away_stay s t id v v at refl;
      }

  pub learns : (slots id : ℕ) (me : M) → me.0.knowledge.live ≡ true → Allows TurnRule slots id me 0 (λ n. n) (learned (step slots 0 0 0 none) me)
  learns slots id me alive s t wide at small =
      (me.0, keeps, tt, unmoved s t id 0 me.0 at alive me.1, (refl, (t.history.knows id me.0.knowledge (at_map knowledge_part s.views id me.0 at) alive).begun))

  -- the places with one idle place more
  grows : (words : List ℕ) (log : List R) (places : List (QueuePlace R)) → IsQueue words log places → IsQueue words log (places ++ idle ∷ [])
  grows words log places q = queue.grows words log places q

  pub divides : (id : ℕ) (v : V) → v.knowledge.live ≡ true → v.knowledge.number ≡ 0 → v.knowledge.splitting ≡ true → Splits TurnRule id v (left_view v) (right_view v)
  divides id v alive zero_is calm s t at =
      let l : V = left_view v in
      let r : V = right_view v in
      let at_m = at_map knowledge_part s.views id v at in
      let old : List V = set s.views id l in
      let ps : map place_part (old ++ r ∷ []) ≡ map place_part s.views ++ idle ∷ [] = map-append place_part old (r ∷ []) ∙ ap (λ (z : List (QueuePlace R)). z ++ idle ∷ []) (places_stay s.views id v l at refl) in
      let ms : map knowledge_part (old ++ r ∷ []) ≡ set (map knowledge_part s.views) id l.knowledge ++ r.knowledge ∷ [] = map-append knowledge_part old (r ∷ []) ∙ ap (λ (z : List (Knowledge R T)). z ++ r.knowledge ∷ []) (passes_set s.views id l) in
      record {
        log = t.log;
        three = t.three;
        one = t.one;
        queue = subst (IsQueue s.words t.log) (sym ps) (grows s.words t.log (map place_part s.views) t.queue);
        history = subst (IsHistory caller first (get_or s.words 2 0) t.log) (sym ms) (history.divides caller first (get_or s.words 2 0) t.log (map knowledge_part s.views) t.history id v.knowledge at_m alive zero_is calm);
        tied = λ i u e one. ⊎_elim (λ (h : get_elem? old i ≡ some u). tied_set s t id l alive i u h one) (λ (h : (i ≡ length old) × (r ≡ u)). sym (ap (λ (z : V). z.knowledge.live) h.1)) (at_end old r u i e);
        home = λ nobody. t.home (λ i p e works. nobody i p (subst (λ (z : List (QueuePlace R)). get_elem? z i ≡ some p) (sym ps) (at_longer (map place_part s.views) (idle ∷ []) i p e)) works);
        away = λ i u e turn. ⊎_elim
            (λ (h : get_elem? old i ≡ some u). away_stay s t id v l at refl i u h turn)
            (λ (h : (i ≡ length old) × (r ≡ u)). absurd (idle-turn (ap (λ (z : V). z.place.stage) h.1 ∙ turn)))
            (at_end old r u i e);
      }

  pub takes_in : (id : ℕ) (v : V) (other : ℕ) (o : V) → v.knowledge.live ≡ true → v.knowledge.number ≡ 0 → o.knowledge.live ≡ true → o.place.stage ≡ Idle → Joins TurnRule id v other o (joined_view v o) spent
  takes_in id v other o alive zero_is alive_o is s t at apart at_o' =
      let w : V = joined_view v o in
      let one : List V = set s.views id w in
      let two : List V = set one other spent in
      let at_o : get_elem? s.views other ≡ some o = sym (set_else s.views id other w apart) ∙ at_o' in
      let at_m = at_map knowledge_part s.views id v at in
      let at_mo = at_map knowledge_part s.views other o at_o in
      let places : List (QueuePlace R) = map place_part s.views in
      let at_po = at_map place_part s.views other o at_o in
      let ps : map place_part two ≡ set places other idle = places_set one other spent ∙ ap (λ (z : List (QueuePlace R)). set z other idle) (places_stay s.views id v w at refl) in
      let ms : map knowledge_part two ≡ set (set (map knowledge_part s.views) id w.knowledge) other gone = passes_set one other spent ∙ ap (λ (z : List (Knowledge R T)). set z other gone) (passes_set s.views id w) in
      record {
        log = t.log;
        three = t.three;
        one = t.one;
        queue = subst (IsQueue s.words t.log) (sym ps) (queue.rests s.words t.log places t.queue t.three other o.place at_po is);
        history = subst (IsHistory caller first (get_or s.words 2 0) t.log) (sym ms) (history.takes_in caller first (get_or s.words 2 0) t.log (map knowledge_part s.views) t.history id v.knowledge other o.knowledge at_m alive zero_is apart at_mo alive_o);
        tied = λ i u e tick. ⊎_elim
            (λ (h : (i ≡ other) × (spent ≡ u)). let z : ticketed u.place ≡ 0 = sym (ap (λ (y : V). ticketed y.place) h.1) in absurd (omega arith))
            (λ (h : (i ≢ other) × (get_elem? one i ≡ some u)). tied_set s t id w alive i u h.1 tick)
            (at_set one other i spent u e);
        home = λ nobody. t.home (quiet places other o.place idle at_po (λ works. idle-turn (sym is ∙ works)) (subst NoTurn ps nobody));
        away = λ i u e turn. ⊎_elim
            (λ (h : (i ≡ other) × (spent ≡ u)). absurd (idle-turn (ap (λ (z : V). z.place.stage) h.1 ∙ turn)))
            (λ (h : (i ≢ other) × (get_elem? one i ≡ some u)). away_stay s t id v w at refl i u h.1 turn)
            (at_set one other i spent u e);
      }

  pub starts : (x : S) → stands x [] → start x ≡ first → TurnRule (opening (0 ∷ 0 ∷ 1 ∷ []) (Some x ∷ []) (newcomer 0 (Some first) []))
  starts x fits begun = record {
    log = [];
    three = refl;
    one = refl;
    queue = queue.starts 1;
    history = history.starts caller first;
    tied = λ i v e one. history.first_lives first i v e;
    home = λ _. (x, refl, fits, begun);
    away = λ i v e turn. absurd (idle-turn (history.first_rests first i v e ∙ turn));
  }

  pub ends : (id : ℕ) (v : V) (ws : List ℕ) (xs : List (Option S)) → Final (Seen TurnRule id v) ws xs → v.place.stage ≡ Idle → v.knowledge.live ≡ true → v.knowledge.number ≡ 0 → v.knowledge.out ≡ 0
      → (x : S) × (get_elem? xs 0 ≡ some (Some x)) × stands x v.knowledge.seen × (Some (start x) ≡ v.knowledge.start) × KnowsAll caller v.knowledge
  ends id v ws xs f is alive zero_is no_out =
      let s : St = f.0 in
      let t : TurnRule s = f.1.0 in
      let at = f.1.1 in
      let passes : List (Knowledge R T) = map knowledge_part s.views in
      let at_m = at_map knowledge_part s.views id v at in
      let word : ℕ = get_or s.words 2 0 in
      let free : NoTurn (map place_part s.views) = λ i p e works. (let u = history.map_at place_part s.views i p e in
      let tick : ticketed u.0.place ≡ 1 = ap ticketed u.2 ∙ ap queued works in
      let same = history.only caller first word t.log passes t.history id v.knowledge at_m alive zero_is no_out i u.0.knowledge (at_map knowledge_part s.views i u.0 u.1) (t.tied i u.0 u.1 tick) in
      let eq : v ≡ u.0 = same_at s.views id v u.0 at (subst (λ (z : ℕ). get_elem? s.views z ≡ some u.0) same u.1) in
      idle-turn (sym is ∙ (ap (λ (z : V). z.place.stage) eq ∙ (ap (λ (z : QueuePlace R). z.stage) u.2 ∙ works)))) in
      let home = t.home free in
      let all : v.knowledge.seen ≡ t.log = history.seen_all caller first word t.log passes t.history id v.knowledge at_m alive zero_is no_out in
      let k = t.history.knows id v.knowledge at_m alive in (
        home.0,
        f.4 0 (Some home.0) home.1,
        subst (stands home.0) (sym all) home.2,
        ap (λ (z : T). Some z) home.3 ∙ sym k.begins,
        record {
          own = k.own ∙ ap (records_of caller v.knowledge.number) (sym all);
          owned = λ i r e. history.owned caller first word t.log passes t.history id v.knowledge at_m alive zero_is no_out i r (subst (λ (z : List R). get_elem? z i ≡ some r) all e);
          listed = λ i e at_e. history.listed caller first word t.log passes t.history id v.knowledge at_m alive zero_is i e at_e ∙ ap (records_of caller e.number) (sym all);
          above = history.above caller first word t.log passes t.history id v.knowledge at_m alive zero_is;
          distinct = history.differ caller first word t.log passes t.history id v.knowledge at_m alive zero_is;
        },
      )
