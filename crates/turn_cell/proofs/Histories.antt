-- The one history, and what each pass knows of it, over the steps that change it.
use Rattle.std.proofs.Common.{◌≡◌, ◌≢◌, ◌⊎◌, ℕ, zero, suc, ◌+◌, ◌-◌, ◌%◌, ◌^◌, ◌<◌, ◌≤◌, true, false, true≢false, List, map, [], ◌∷◌, ◌++◌, length, set, refl, sym, ap, ◌∙◌, subst, inl, inr, ⊎_elim, arith, mod-eq_of_lt, length-set, length-append}
use mathlib.Core.Logic.{dite}
use native.Mathlib.Decide.{ℕ_discrete}
use mathlib.Core.Option.{some, some-injective, some-ne-none}
use Rattle.std.specs.Prelude.{Some}
use lib.ListN.{get_elem?}
use Rattle.atomic_table.proofs.Lists.{at_set, set_here, set_else, at_snoc, at_longer, at_last}
use Rattle.turn_cell.specs.declared.view.Stage.TheVariants.{Idle}
use Rattle.turn_cell.specs.declared.view.Ended.{Ended}
use Rattle.turn_cell.specs.declared.view.Knowledge.{Knowledge}
use Rattle.turn_cell.specs.declared.view.View.{View}
use Rattle.turn_cell.specs.Rule.{total, records_of, one_if, living, Knows, HasLive, HasEnded, IsClosed, IsHistory, fresh, newcomer, longer, gone, after_join}
use Rattle.turn_cell.proofs.Basics.{same_at, below_length, total-set, total-append, terms_le, records_of-own_end, records_of-other_end, records_of-nobody, records_none, records_between, prefix_self, prefix_trans, prefix_more, prefix_whole, longer_prefix, longer_reaches, shorter_meets, both_begin, at_end}

pub small_mod : (n : ℕ) → n ≤ 65536 → (n + 1) % 2 ^ 64 ≡ n + 1
small_mod n h = mod-eq_of_lt (omega arith)

pub some_same : {T : Type 0} (x y : T) → Some x ≡ Some y → x ≡ y
some_same x y e = cc e

pub map_at : {A B : Type 0} (f : A → B) (l : List A) (i : ℕ) (b : B) → get_elem? (map f l) i ≡ some b → (a : A) × (get_elem? l i ≡ some a) × (f a ≡ b)
map_at f [] i b e = absurd (some-ne-none b (sym e))
map_at f (x ∷ xs) zero b e = (x, refl, some-injective (f x) b e)
map_at f (x ∷ xs) (suc i) b e = map_at f xs i b e

module _ {R T : Type 0} where
  first_is : (m : Knowledge R T) (i : ℕ) (p : Knowledge R T) → get_elem? (m ∷ []) i ≡ some p → (i ≡ 0) × (m ≡ p)
  first_is m zero p e = (refl, some-injective m p e)
  first_is m (suc i) p e = absurd (some-ne-none p (sym e))

  pub first_lives : (first : T) (i : ℕ) (v : View R T) → get_elem? (newcomer 0 (Some first) [] ∷ []) i ≡ some v → v.knowledge.live ≡ true
  first_lives first zero v e = sym (ap (λ (z : View R T). z.knowledge.live) (some-injective (newcomer 0 (Some first) []) v e))
  first_lives first (suc i) v e = absurd (some-ne-none v (sym e))

  pub first_rests : (first : T) (i : ℕ) (v : View R T) → get_elem? (newcomer 0 (Some first) [] ∷ []) i ≡ some v → Idle ≡ v.place.stage
  first_rests first zero v e = ap (λ (z : View R T). z.place.stage) (some-injective (newcomer 0 (Some first) []) v e)
  first_rests first (suc i) v e = absurd (some-ne-none v (sym e))

  pub starts : (caller : R → ℕ) (first : T) → IsHistory caller first 1 [] (fresh 0 (Some first) [] ∷ [])
  starts caller first =
      let m : Knowledge R T = fresh 0 (Some first) [] in
      record {
        out = 0;
        ended = [];
        splitting = false;
        few = omega arith;
        room = omega arith;
        count = refl;
        knows = λ i p e _. subst (Knows caller first [] 1 0 [] false) (first_is m i p e).1 record {
          begins = refl;
          prefix = ([], refl);
          own = refl;
          told = refl;
          begun = ([], refl);
          below = omega arith;
          root = λ _. (refl, refl, refl, refl);
        };
        apart = λ i j a b ea eb la lb e. (first_is m i a ea).0 ∙ sym (first_is m j b eb).0;
        whole = (0, m, refl, refl, refl);
        closed = λ k e at. absurd (some-ne-none e (sym at));
        distinct = λ j k d e at_d at_e _. absurd (some-ne-none d (sym at_d));
        owners = λ k r at. absurd (some-ne-none r (sym at));
      }

  -- the same pass, with other knowledge
  abbrev pub Same : Knowledge R T → Knowledge R T → Type 0
  Same m w = (w.live ≡ true) × (w.number ≡ m.number)

  module _ (passes : List (Knowledge R T)) (id : ℕ) (m w : Knowledge R T) (at : get_elem? passes id ≡ some m) (alive : m.live ≡ true) (same : Same m w) where
    -- who has a place now had it before, with the same number
    pub before : (k : ℕ) (c : Knowledge R T) → get_elem? (set passes id w) k ≡ some c → c.live ≡ true → (d : Knowledge R T) × (get_elem? passes k ≡ some d) × (d.live ≡ true) × (d.number ≡ c.number)
    before k c e alive' = ⊎_elim
        (λ (h : (k ≡ id) × (w ≡ c)). (m, subst (λ (z : ℕ). get_elem? passes z ≡ some m) (sym h.0) at, alive, sym same.1 ∙ ap (λ (z : Knowledge R T). z.number) h.1))
        (λ h. (c, h.1, alive', refl))
        (at_set passes id k w c e)

    pub has_back : (n : ℕ) → HasLive (set passes id w) n → HasLive passes n
    has_back n h = let b = before h.0 h.1 h.2 h.3 in (h.0, b.0, b.1, b.2, b.3 ∙ h.4)

    pub has_kept : (n : ℕ) → HasLive passes n → HasLive (set passes id w) n
    has_kept n h = dite (ℕ_discrete h.0 id)
        (λ e. let is : m ≡ h.1 = same_at passes id m h.1 at (subst (λ (z : ℕ). get_elem? passes z ≡ some h.1) e h.2) in (id, w, set_here passes id w (below_length passes id m at), same.0, same.1 ∙ (ap (λ (z : Knowledge R T). z.number) is ∙ h.4)))
        (λ ne. (h.0, h.1, set_else passes id h.0 w ne ∙ h.2, h.3, h.4))

    pub count_kept : total living (set passes id w) ≡ total living passes
    count_kept = let e = total-set living passes id m w at in let a : living m ≡ 1 = ap one_if alive in let b : living w ≡ 1 = ap one_if same.0 in omega arith

  module _ (caller : R → ℕ) (first : T) (word : ℕ) (log : List R) (passes : List (Knowledge R T)) (h : IsHistory caller first word log passes) where
    apart_kept : (id : ℕ) (m w : Knowledge R T) → get_elem? passes id ≡ some m → m.live ≡ true → Same m w
        → (i j : ℕ) (a b : Knowledge R T) → get_elem? (set passes id w) i ≡ some a → get_elem? (set passes id w) j ≡ some b → a.live ≡ true → b.live ≡ true → a.number ≡ b.number → i ≡ j
    apart_kept id m w at alive same i j a b ea eb la lb e =
        let x = before passes id m w at alive same i a ea la in let y = before passes id m w at alive same j b eb lb in
        h.apart i j x.0 y.0 x.1 y.1 x.2 y.2 (x.3 ∙ (e ∙ sym y.3))

    -- the turn of m ends with the record r
    pub adds : (id : ℕ) (m : Knowledge R T) (r : R) → get_elem? passes id ≡ some m → m.live ≡ true → caller r ≡ m.number
        → IsHistory caller first word (log ++ r ∷ []) (set passes id (record m { seen = log ++ r ∷ []; mine = m.mine ++ r ∷ [] }))
    adds id m r at alive by =
        let w : Knowledge R T = record m { seen = log ++ r ∷ []; mine = m.mine ++ r ∷ [] } in
        let same : Same m w = (alive, refl) in
        let k = h.knows id m at alive in
        let mine : Knows caller first (log ++ r ∷ []) word h.out h.ended h.splitting w = record {
          begins = k.begins;
          prefix = prefix_self (log ++ r ∷ []);
          own = ap (λ (z : List R). z ++ r ∷ []) k.own ∙ sym (records_of-own_end caller m.number log r by);
          told = ap (λ (z : List R). z ++ r ∷ []) k.own ∙ sym (records_of-own_end caller m.number log r by);
          begun = prefix_more m.shorter log (r ∷ []) (prefix_trans m.shorter m.seen log k.begun k.prefix);
          below = k.below;
          root = k.root;
        } in
        record {
          out = h.out;
          ended = h.ended;
          splitting = h.splitting;
          few = h.few;
          room = let a = length-set passes id w in let b = h.room in omega arith;
          count = let a = count_kept passes id m w at alive same in let b = h.count in omega arith;
          knows = λ i c e live. ⊎_elim
              (λ (g : (i ≡ id) × (w ≡ c)). subst (Knows caller first (log ++ r ∷ []) word h.out h.ended h.splitting) g.1 mine)
              (λ g. let o = h.knows i c g.1 live in record {
                begins = o.begins;
                prefix = prefix_more c.seen log (r ∷ []) o.prefix;
                own = o.own ∙ sym (records_of-other_end caller c.number log r (λ u. g.0 (h.apart i id c m g.1 at live alive (sym u ∙ by))));
                told = o.told;
                begun = o.begun;
                below = o.below;
                root = o.root;
              })
              (at_set passes id i w c e);
          apart = apart_kept id m w at alive same;
          whole = (id, w, set_here passes id w (below_length passes id m at), alive, refl);
          closed = λ i e at'. let o = h.closed i e at' in record {
            listed = o.listed ∙ sym (records_of-other_end caller e.number log r (λ u. o.dead (id, m, at, alive, sym by ∙ u)));
            below = o.below;
            dead = λ has. o.dead (has_back passes id m w at alive same e.number has);
          };
          distinct = h.distinct;
          owners = λ i x e. ⊎_elim
              (λ g. ⊎_elim (λ o. inl (has_kept passes id m w at alive same (caller x) o)) (λ o. inr o) (h.owners i x g))
              (λ (g : r ≡ x). inl (id, w, set_here passes id w (below_length passes id m at), alive, sym by ∙ ap caller g))
              (at_snoc log r x i e);
        }

    -- pass 0 draws a number for a split
    pub counts : (id : ℕ) (m : Knowledge R T) → get_elem? passes id ≡ some m → m.live ≡ true → m.number ≡ 0 → m.splitting ≡ false → m.made < 65536
        → IsHistory caller first (word + 1) log (set passes id (record m { made = m.made + 1; out = m.out + 1; splitting = true }))
    counts id m at alive zero_is calm few =
        let w : Knowledge R T = record m { made = m.made + 1; out = m.out + 1; splitting = true } in
        let same : Same m w = (alive, refl) in
        let k = h.knows id m at alive in
        let root = k.root zero_is in
        let made : m.made ≡ word = root.0 in
        let out : m.out ≡ h.out = root.1 in
        let off : one_if h.splitting ≡ 0 = ap one_if (sym root.3 ∙ calm) in
        let mine : Knows caller first log (word + 1) (h.out + 1) h.ended true w = record {
          begins = k.begins;
          prefix = k.prefix;
          own = k.own;
          told = k.told;
          begun = k.begun;
          below = let b = k.below in omega arith;
          root = λ _. ((omega arith), (omega arith), root.2, refl);
        } in
        record {
          out = h.out + 1;
          ended = h.ended;
          splitting = true;
          few = omega arith;
          room = let a = length-set passes id w in let b = h.room in omega arith;
          count = let a = count_kept passes id m w at alive same in let b = h.count in omega arith;
          knows = λ i c e live. ⊎_elim
              (λ (g : (i ≡ id) × (w ≡ c)). subst (Knows caller first log (word + 1) (h.out + 1) h.ended true) g.1 mine)
              (λ g. let o = h.knows i c g.1 live in record {
                begins = o.begins;
                prefix = o.prefix;
                own = o.own;
                told = o.told;
                begun = o.begun;
                below = let b = o.below in omega arith;
                root = λ z. absurd (g.0 (h.apart i id c m g.1 at live alive (z ∙ sym zero_is)));
              })
              (at_set passes id i w c e);
          apart = apart_kept id m w at alive same;
          whole = let v = h.whole in dite (ℕ_discrete v.0 id)
              (λ e. let is : m ≡ v.1 = same_at passes id m v.1 at (subst (λ (z : ℕ). get_elem? passes z ≡ some v.1) e v.2) in (id, w, set_here passes id w (below_length passes id m at), alive, ap (λ (z : Knowledge R T). z.seen) is ∙ v.4))
              (λ ne. (v.0, v.1, set_else passes id v.0 w ne ∙ v.2, v.3, v.4));
          closed = λ i e at'. let o = h.closed i e at' in record {
            listed = o.listed;
            below = (let b = o.below in omega arith);
            dead = λ has. o.dead (has_back passes id m w at alive same e.number has);
          };
          distinct = h.distinct;
          owners = λ i x e. ⊎_elim (λ o. inl (has_kept passes id m w at alive same (caller x) o)) (λ o. inr o) (h.owners i x e);
        }

    -- the split was refused
    pub refuses : (id : ℕ) (m : Knowledge R T) → get_elem? passes id ≡ some m → m.live ≡ true → m.number ≡ 0 → m.splitting ≡ true
        → IsHistory caller first word log (set passes id (record m { out = m.out - 1; splitting = false }))
    refuses id m at alive zero_is calm =
        let w : Knowledge R T = record m { out = m.out - 1; splitting = false } in
        let same : Same m w = (alive, refl) in
        let k = h.knows id m at alive in
        let root = k.root zero_is in
        let out : m.out ≡ h.out = root.1 in
        let on : one_if h.splitting ≡ 1 = ap one_if (sym root.3 ∙ calm) in
        let some_out : 1 ≤ h.out = let t = total-set living passes id m (record m { live = false }) at in let a : living m ≡ 1 = ap one_if alive in let b = h.count in omega arith in
        let mine : Knows caller first log word (h.out - 1) h.ended false w = record {
          begins = k.begins;
          prefix = k.prefix;
          own = k.own;
          told = k.told;
          begun = k.begun;
          below = let b = k.below in omega arith;
          root = λ _. (root.0, ap (λ (z : ℕ). z - 1) out, root.2, refl);
        } in
        record {
          out = h.out - 1;
          ended = h.ended;
          splitting = false;
          few = h.few;
          room = let a = length-set passes id w in let b = h.room in omega arith;
          count = let a = count_kept passes id m w at alive same in let b = h.count in omega arith;
          knows = λ i c e live. ⊎_elim
              (λ (g : (i ≡ id) × (w ≡ c)). subst (Knows caller first log word (h.out - 1) h.ended false) g.1 mine)
              (λ g. let o = h.knows i c g.1 live in record {
                begins = o.begins;
                prefix = o.prefix;
                own = o.own;
                told = o.told;
                begun = o.begun;
                below = let b = o.below in omega arith;
                root = λ z. absurd (g.0 (h.apart i id c m g.1 at live alive (z ∙ sym zero_is)));
              })
              (at_set passes id i w c e);
          apart = apart_kept id m w at alive same;
          whole = let v = h.whole in dite (ℕ_discrete v.0 id)
              (λ e. let is : m ≡ v.1 = same_at passes id m v.1 at (subst (λ (z : ℕ). get_elem? passes z ≡ some v.1) e v.2) in (id, w, set_here passes id w (below_length passes id m at), alive, ap (λ (z : Knowledge R T). z.seen) is ∙ v.4))
              (λ ne. (v.0, v.1, set_else passes id v.0 w ne ∙ v.2, v.3, v.4));
          closed = λ i e at'. let o = h.closed i e at' in record {
            listed = o.listed;
            below = (let b = o.below in omega arith);
            dead = λ has. o.dead (has_back passes id m w at alive same e.number has);
          };
          distinct = h.distinct;
          owners = λ i x e. ⊎_elim (λ o. inl (has_kept passes id m w at alive same (caller x) o)) (λ o. inr o) (h.owners i x e);
        }

    -- nobody has the number that was drawn last
    unused : (n : ℕ) → n + one_if h.splitting ≡ word → records_of caller n log ≡ []
    unused n is = records_of-nobody caller n log (λ k r e u. ⊎_elim
        (λ (o : HasLive passes (caller r)). let b = (h.knows o.0 o.1 o.2 o.3).below in let v = o.4 in absurd (omega arith))
        (λ (o : HasEnded h.ended (caller r)). let b = (h.closed o.0 o.1 o.2).below in let v = o.3 in absurd (omega arith))
        (h.owners k r e))

    -- a new pass has the number drawn
    pub divides : (id : ℕ) (m : Knowledge R T) → get_elem? passes id ≡ some m → m.live ≡ true → m.number ≡ 0 → m.splitting ≡ true
        → IsHistory caller first word log (set passes id (record m { splitting = false }) ++ fresh (m.made - 1) m.start m.seen ∷ [])
    divides id m at alive zero_is calm =
        let w : Knowledge R T = record m { splitting = false } in
        let n : Knowledge R T = fresh (m.made - 1) m.start m.seen in
        let same : Same m w = (alive, refl) in
        let k = h.knows id m at alive in
        let root = k.root zero_is in
        let made : m.made ≡ word = root.0 in
        let on : one_if h.splitting ≡ 1 = ap one_if (sym root.3 ∙ calm) in
        let deep : 1 < word = let b = k.below in omega arith in
        let old : List (Knowledge R T) = set passes id w in
        let size : length old ≡ length passes = length-set passes id w in
        let known = λ (i : ℕ) (c : Knowledge R T) (e : get_elem? old i ≡ some c) (live : c.live ≡ true). (let b = before passes id m w at alive same i c e live in let o = (h.knows i b.0 b.1 b.2).below in let u = b.3 in (let g : c.number + 1 < word = omega arith in g)) in
        record {
          out = h.out;
          ended = h.ended;
          splitting = false;
          few = h.few;
          room = let a = length-append old (n ∷ []) in let b = h.room in omega arith;
          count = let a = count_kept passes id m w at alive same in let b = h.count in let c = total-append living old (n ∷ []) in omega arith;
          knows = λ i c e live. ⊎_elim
              (λ (d : get_elem? old i ≡ some c). ⊎_elim
              (λ (g : (i ≡ id) × (w ≡ c)). subst (Knows caller first log word h.out h.ended false) g.1 record {
                begins = k.begins;
                prefix = k.prefix;
                own = k.own;
                told = k.told;
                begun = k.begun;
                below = let b = k.below in omega arith;
                root = λ _. (root.0, root.1, root.2, refl);
              })
              (λ g. let o = h.knows i c g.1 live in record {
                begins = o.begins;
                prefix = o.prefix;
                own = o.own;
                told = o.told;
                begun = o.begun;
                below = let b = o.below in omega arith;
                root = λ z. absurd (g.0 (h.apart i id c m g.1 at live alive (z ∙ sym zero_is)));
              })
              (at_set passes id i w c d))
              (λ (g : (i ≡ length old) × (n ≡ c)). subst (Knows caller first log word h.out h.ended false) g.1 record {
                begins = k.begins;
                prefix = k.prefix;
                own = sym (unused (m.made - 1) (omega arith));
                told = sym (records_none caller (m.made - 1) m.seen log k.prefix (unused (m.made - 1) (omega arith)));
                begun = (m.seen, refl);
                below = omega arith;
                root = λ z. absurd (omega arith);
              })
              (at_end old n c i e);
          apart = λ i j a b ea eb la lb e. ⊎_elim
              (λ (x : get_elem? old i ≡ some a). ⊎_elim
              (λ (y : get_elem? old j ≡ some b). apart_kept id m w at alive same i j a b x y la lb e)
              (λ (y : (j ≡ length old) × (n ≡ b)). let u = known i a x la in let v : m.made - 1 ≡ b.number = ap (λ (z : Knowledge R T). z.number) y.1 in absurd (omega arith))
              (at_end old n b j eb))
              (λ (x : (i ≡ length old) × (n ≡ a)). ⊎_elim
              (λ (y : get_elem? old j ≡ some b). let u = known j b y lb in let v : m.made - 1 ≡ a.number = ap (λ (z : Knowledge R T). z.number) x.1 in absurd (omega arith))
              (λ (y : (j ≡ length old) × (n ≡ b)). x.0 ∙ sym y.0)
              (at_end old n b j eb))
              (at_end old n a i ea);
          whole = let v = h.whole in dite (ℕ_discrete v.0 id)
              (λ e. let is : m ≡ v.1 = same_at passes id m v.1 at (subst (λ (z : ℕ). get_elem? passes z ≡ some v.1) e v.2) in
              (id, w, at_longer old (n ∷ []) id w (set_here passes id w (below_length passes id m at)), alive, ap (λ (z : Knowledge R T). z.seen) is ∙ v.4))
              (λ ne. (v.0, v.1, at_longer old (n ∷ []) v.0 v.1 (set_else passes id v.0 w ne ∙ v.2), v.3, v.4));
          closed = λ i e at'. let o = h.closed i e at' in record {
            listed = o.listed;
            below = (let b = o.below in omega arith);
            dead = λ has. ⊎_elim
                (λ (x : get_elem? old has.0 ≡ some has.1). o.dead (has_back passes id m w at alive same e.number (has.0, has.1, x, has.3, has.4)))
                (λ (x : (has.0 ≡ length old) × (n ≡ has.1)). let v : m.made - 1 ≡ has.1.number = ap (λ (z : Knowledge R T). z.number) x.1 in let u = has.4 in let b = o.below in absurd (omega arith))
                (at_end old n has.1 has.0 has.2);
          };
          distinct = h.distinct;
          owners = λ i x e. ⊎_elim
              (λ o. let g = has_kept passes id m w at alive same (caller x) o in inl (g.0, g.1, at_longer old (n ∷ []) g.0 g.1 g.2, g.3, g.4))
              (λ o. inr o)
              (h.owners i x e);
        }

    -- pass 0 takes another in
    pub takes_in : (id : ℕ) (m : Knowledge R T) (other : ℕ) (o : Knowledge R T) → get_elem? passes id ≡ some m → m.live ≡ true → m.number ≡ 0 → ¬ (other ≡ id)
        → get_elem? passes other ≡ some o → o.live ≡ true → IsHistory caller first word log (set (set passes id (after_join m o)) other gone)
    takes_in id m other o at alive zero_is apart at_o alive_o =
        let w : Knowledge R T = after_join m o in
        let last : Ended R = record { number = o.number; records = o.mine } in
        let same : Same m w = (alive, refl) in
        let k = h.knows id m at alive in
        let ko = h.knows other o at_o alive_o in
        let root = k.root zero_is in
        let one : List (Knowledge R T) = set passes id w in
        let at_one : get_elem? one other ≡ some o = set_else passes id other w apart ∙ at_o in
        let two : List (Knowledge R T) = set one other gone in
        let some_out : 1 ≤ h.out = let t = terms_le living passes id other m o apart at at_o in let a : living m ≡ 1 = ap one_if alive in let c : living o ≡ 1 = ap one_if alive_o in let b = h.count in (omega arith) in
        let split_at = λ (i : ℕ) (c : Knowledge R T) (e : get_elem? two i ≡ some c) (live : c.live ≡ true). (⊎_elim
        (λ (g : (i ≡ other) × (gone ≡ c)). absurd (true≢false (sym live ∙ sym (ap (λ (z : Knowledge R T). z.live) g.1))))
        (λ (g : (i ≢ other) × (get_elem? one i ≡ some c)). g)
        (at_set one other i gone c e)) in
        let longest : (length log ≤ length m.seen) ⊎ (length log ≤ length o.seen) → longer m.seen o.seen ≡ log = λ u. (let r = longer_reaches m.seen o.seen in prefix_whole (longer m.seen o.seen) log (longer_prefix m.seen o.seen log k.prefix ko.prefix)
        (⊎_elim (λ (x : length log ≤ length m.seen). let a = r.0 in (let g : length log ≤ length (longer m.seen o.seen) = omega arith in g)) (λ (x : length log ≤ length o.seen). let a = r.1 in (let g : length log ≤ length (longer m.seen o.seen) = omega arith in g)) u)) in
        let here : get_elem? two id ≡ some w = set_else one other id gone (λ e. apart (sym e)) ∙ set_here passes id w (below_length passes id m at) in
        record {
          out = h.out - 1;
          ended = h.ended ++ last ∷ [];
          splitting = h.splitting;
          few = h.few;
          room = let a = length-set passes id w in let c = length-set one other gone in let b = h.room in omega arith;
          count = let a = count_kept passes id m w at alive same in let t = total-set living one other o gone at_one in let c : living o ≡ 1 = ap one_if alive_o in let b = h.count in omega arith;
          knows = λ i c e live. let s = split_at i c e live in ⊎_elim
              (λ (g : (i ≡ id) × (w ≡ c)). subst (Knows caller first log word (h.out - 1) (h.ended ++ last ∷ []) h.splitting) g.1 record {
                begins = k.begins;
                prefix = longer_prefix m.seen o.seen log k.prefix ko.prefix;
                own = k.own;
                told = k.told ∙ records_between caller m.number m.seen (longer m.seen o.seen) log (both_begin m.seen o.seen (shorter_meets m.seen o.seen log k.prefix ko.prefix)).0 (longer_prefix m.seen o.seen log k.prefix ko.prefix) (sym k.told ∙ k.own);
                begun = shorter_meets m.seen o.seen log k.prefix ko.prefix;
                below = k.below;
                root = λ _. (root.0, ap (λ (z : ℕ). z - 1) root.1, ap (λ (z : List (Ended R)). z ++ last ∷ []) root.2, root.3);
              })
              (λ g. let u = h.knows i c g.1 live in record {
                begins = u.begins;
                prefix = u.prefix;
                own = u.own;
                told = u.told;
                begun = u.begun;
                below = u.below;
                root = λ z. absurd (g.0 (h.apart i id c m g.1 at live alive (z ∙ sym zero_is)));
              })
              (at_set passes id i w c s.1);
          apart = λ i j a b ea eb la lb e. apart_kept id m w at alive same i j a b (split_at i a ea la).1 (split_at j b eb lb).1 la lb e;
          whole = let v = h.whole in dite (ℕ_discrete v.0 id)
              (λ e. let is : m ≡ v.1 = same_at passes id m v.1 at (subst (λ (z : ℕ). get_elem? passes z ≡ some v.1) e v.2) in
              let all : length log ≡ length m.seen = ap length (sym v.4) ∙ ap (λ (z : Knowledge R T). length z.seen) (sym is) in
              (id, w, here, alive, longest (inl (omega arith))))
              (λ ne. dite (ℕ_discrete v.0 other)
              (λ e. let is : o ≡ v.1 = same_at passes other o v.1 at_o (subst (λ (z : ℕ). get_elem? passes z ≡ some v.1) e v.2) in
              let all : length log ≡ length o.seen = ap length (sym v.4) ∙ ap (λ (z : Knowledge R T). length z.seen) (sym is) in
              (id, w, here, alive, longest (inr (omega arith))))
              (λ ne'. (v.0, v.1, set_else one other v.0 gone ne' ∙ (set_else passes id v.0 w ne ∙ v.2), v.3, v.4)));
          closed = λ i e at'. ⊎_elim
              (λ (x : get_elem? h.ended i ≡ some e). let c = h.closed i e x in record {
                listed = c.listed;
                below = c.below;
                dead = λ has. let s = split_at has.0 has.1 has.2 has.3 in c.dead (has_back passes id m w at alive same e.number (has.0, has.1, s.1, has.3, has.4));
              })
              (λ (x : (i ≡ length h.ended) × (last ≡ e)). subst (IsClosed caller word log two h.splitting) x.1 record {
                listed = ko.own;
                below = ko.below;
                dead = λ has. let s = split_at has.0 has.1 has.2 has.3 in let b = before passes id m w at alive same has.0 has.1 s.1 has.3 in s.0 (h.apart has.0 other b.0 o b.1 at_o b.2 alive_o (b.3 ∙ has.4));
              })
              (at_end h.ended last e i at');
          distinct = λ i j d e at_d at_e same_number. ⊎_elim
              (λ (x : get_elem? h.ended i ≡ some d). ⊎_elim
              (λ (y : get_elem? h.ended j ≡ some e). h.distinct i j d e x y same_number)
              (λ (y : (j ≡ length h.ended) × (last ≡ e)). absurd ((h.closed i d x).dead (other, o, at_o, alive_o, ap (λ (z : Ended R). z.number) y.1 ∙ sym same_number)))
              (at_end h.ended last e j at_e))
              (λ (x : (i ≡ length h.ended) × (last ≡ d)). ⊎_elim
              (λ (y : get_elem? h.ended j ≡ some e). absurd ((h.closed j e y).dead (other, o, at_o, alive_o, ap (λ (z : Ended R). z.number) x.1 ∙ same_number)))
              (λ (y : (j ≡ length h.ended) × (last ≡ e)). x.0 ∙ sym y.0)
              (at_end h.ended last e j at_e))
              (at_end h.ended last d i at_d);
          owners = λ i x e. ⊎_elim
              (λ u. dite (ℕ_discrete u.0 other)
              (λ g. let is : o ≡ u.1 = same_at passes other o u.1 at_o (subst (λ (z : ℕ). get_elem? passes z ≡ some u.1) g u.2) in inr (length h.ended, last, at_last h.ended last (length h.ended) refl, ap (λ (z : Knowledge R T). z.number) is ∙ u.4))
              (λ ne. dite (ℕ_discrete u.0 id)
              (λ g. let is : m ≡ u.1 = same_at passes id m u.1 at (subst (λ (z : ℕ). get_elem? passes z ≡ some u.1) g u.2) in inl (id, w, here, alive, ap (λ (z : Knowledge R T). z.number) is ∙ u.4))
              (λ ne'. inl (u.0, u.1, set_else one other u.0 gone ne ∙ (set_else passes id u.0 w ne' ∙ u.2), u.3, u.4))))
              (λ u. inr (u.0, u.1, at_longer h.ended (last ∷ []) u.0 u.1 u.2, u.3))
              (h.owners i x e);
        }

    -- where no split is under way and no other pass is out, pass 0 is the one that is left
    pub only : (id : ℕ) (m : Knowledge R T) → get_elem? passes id ≡ some m → m.live ≡ true → m.number ≡ 0 → m.out ≡ 0
        → (i : ℕ) (c : Knowledge R T) → get_elem? passes i ≡ some c → c.live ≡ true → i ≡ id
    only id m at alive zero_is none i c at_c alive_c =
        let root = (h.knows id m at alive).root zero_is in
        dite (ℕ_discrete i id) (λ e. e) (λ ne. let t = terms_le living passes id i m c ne at at_c in let a : living m ≡ 1 = ap one_if alive in let d : living c ≡ 1 = ap one_if alive_c in let b = h.count in let r = root.1 in absurd (omega arith))

    pub seen_all : (id : ℕ) (m : Knowledge R T) → get_elem? passes id ≡ some m → m.live ≡ true → m.number ≡ 0 → m.out ≡ 0 → m.seen ≡ log
    seen_all id m at alive zero_is none =
        let v = h.whole in
        let e = only id m at alive zero_is none v.0 v.1 v.2 v.3 in
        let is : m ≡ v.1 = same_at passes id m v.1 at (subst (λ (z : ℕ). get_elem? passes z ≡ some v.1) e v.2) in
        ap (λ (z : Knowledge R T). z.seen) is ∙ v.4

    -- each record has the number 0 or one that ended
    pub owned : (id : ℕ) (m : Knowledge R T) → get_elem? passes id ≡ some m → m.live ≡ true → m.number ≡ 0 → m.out ≡ 0
        → (k : ℕ) (r : R) → get_elem? log k ≡ some r → (caller r ≡ 0) ⊎ HasEnded m.ended (caller r)
    owned id m at alive zero_is none k r e =
        let root = (h.knows id m at alive).root zero_is in
        ⊎_elim
        (λ (u : HasLive passes (caller r)). let same = only id m at alive zero_is none u.0 u.1 u.2 u.3 in let is : m ≡ u.1 = same_at passes id m u.1 at (subst (λ (z : ℕ). get_elem? passes z ≡ some u.1) same u.2) in
        inl (sym u.4 ∙ (sym (ap (λ (z : Knowledge R T). z.number) is) ∙ zero_is)))
        (λ u. inr (subst (λ (z : List (Ended R)). HasEnded z (caller r)) (sym root.2) u))
        (h.owners k r e)

    pub listed : (id : ℕ) (m : Knowledge R T) → get_elem? passes id ≡ some m → m.live ≡ true → m.number ≡ 0
        → (k : ℕ) (e : Ended R) → get_elem? m.ended k ≡ some e → e.records ≡ records_of caller e.number log
    listed id m at alive zero_is k e at_e =
        let root = (h.knows id m at alive).root zero_is in
        (h.closed k e (subst (λ (z : List (Ended R)). get_elem? z k ≡ some e) root.2 at_e)).listed

    -- no pass that was joined had the number 0
    pub above : (id : ℕ) (m : Knowledge R T) → get_elem? passes id ≡ some m → m.live ≡ true → m.number ≡ 0
        → (k : ℕ) (e : Ended R) → get_elem? m.ended k ≡ some e → 0 < e.number
    above id m at alive zero_is k e at_e =
        let root = (h.knows id m at alive).root zero_is in
        let closed = h.closed k e (subst (λ (z : List (Ended R)). get_elem? z k ≡ some e) root.2 at_e) in
        dite (ℕ_discrete e.number 0) (λ is. absurd (closed.dead (id, m, at, alive, zero_is ∙ sym is))) (λ not. omega arith)

    pub differ : (id : ℕ) (m : Knowledge R T) → get_elem? passes id ≡ some m → m.live ≡ true → m.number ≡ 0
        → (j k : ℕ) (d e : Ended R) → get_elem? m.ended j ≡ some d → get_elem? m.ended k ≡ some e → d.number ≡ e.number → j ≡ k
    differ id m at alive zero_is j k d e at_d at_e =
        let root = (h.knows id m at alive).root zero_is in
        h.distinct j k d e (subst (λ (z : List (Ended R)). get_elem? z j ≡ some d) root.2 at_d) (subst (λ (z : List (Ended R)). get_elem? z k ≡ some e) root.2 at_e)
