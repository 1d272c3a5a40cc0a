-- What the contents of a file are.
use Rattle.std.proofs.Common.{◌≡◌, ℕ, ◌*◌, ◌<◌, ◌≤◌, ◌^◌, List, [], ◌∷◌, ◌++◌, length, refl, sym, ap, ◌∙◌, arith, subst}
use Rattle.std.specs.Prelude.{All, AllPairs, Option, Some, None, IfSome, IsTrue, true, map, Bool, false, cond}
use Rattle.std.specs.List.{filter}
use Rattle.std.specs.Ordering.{nat_cmp, ordering_then, is_lt}
use Rattle.std.specs.Cmp.{tied_itself, nat_cmp_total}
use Rattle.std.specs.Cmp.Lexicographic.{slice_cmp}
use Rattle.std.specs.declared.cmp.Ordering.{Ordering}
use Rattle.std.specs.declared.cmp.Ordering.TheVariants.{Less, Equal, Greater}
use Rattle.std.proofs.lemmas.List.Elements.{All-head, All-tail, All-map, All-filter}
use Rattle.std.proofs.lemmas.List.Kept.{AllPairs-cons}
use Rattle.agg_model.specs.declared.entity.Entity.{Entity}
use Rattle.agg_model.specs.declared.change.Change.{Change}
use Rattle.agg_model.specs.declared.contents.Before.{Before}
use Rattle.agg_model.specs.Entity.{entity_number}
use Rattle.agg_model.specs.Place.{place_of, place_cmp, is_before}
use Rattle.agg_model.specs.Arranged.{arranged, Ascend}
use Rattle.agg_model.specs.Batch.{IsValue, IsChange}
use Rattle.agg_model.specs.ChangeList.{ChangeList, IsChangeList, value_at}
use Rattle.agg_model.specs.Contents.{is_within, changes_over, word_of, before_of, v_contents}
use Rattle.agg_model.proofs.ArrangedLaws.{arranged-Ascend}
use Rattle.agg_model.proofs.ContentsLaws.{IsWithin, changes_over-All, changes_over-keep, changes_over-arranged, value_at-fits, v_contents-later}
use Rattle.history_core.specs.Befores.{IsEarlier, IsBefore, AreBefores}
use Rattle.history_core.specs.VFile.{TaggedBefores, tagged_befores, v_tag, v_spelling, vi_spelling, v_file_bytes, vi_file_bytes}

Ascend-by : (p : Change → Bool) (c : Change) (cs : List Change) (t : Bool) → All (λ d. IsTrue (is_before (place_of c) (place_of d))) (filter p cs) → Ascend (filter p cs) → Ascend (cond t (c ∷ filter p cs) (filter p cs))
Ascend-by p c cs true above rest = (above, rest)
Ascend-by p c cs false above rest = rest

Ascend-filter : (p : Change → Bool) (cs : List Change) → Ascend cs → Ascend (filter p cs)
Ascend-filter p [] up = tt
Ascend-filter p (c ∷ cs) up =
    Ascend-by p c cs (p c) (All-filter p (λ d. IsTrue (is_before (place_of c) (place_of d))) cs up.0) (Ascend-filter p cs up.1)

less_rest : (r s : Ordering) → r ≡ Equal → is_lt (ordering_then r s) ≡ true → s ≡ Less
less_rest Less s e h = cc
less_rest Equal Less e h = refl
less_rest Equal Equal e h = cc
less_rest Equal Greater e h = cc
less_rest Greater s e h = cc

-- of one entity the key and the number decide
before_earlier : (c d : Change) → entity_number c.entity ≡ entity_number d.entity → is_before (place_of c) (place_of d) ≡ true → ordering_then (slice_cmp nat_cmp c.key d.key) (nat_cmp c.tx d.tx) ≡ Less
unfolding is_before place_of place_cmp
before_earlier c d same h =
    less_rest (nat_cmp (entity_number c.entity) (entity_number d.entity)) (ordering_then (slice_cmp nat_cmp c.key d.key) (nat_cmp c.tx d.tx))
    (ap (nat_cmp (entity_number c.entity)) (sym same) ∙ tied_itself nat_cmp_total (entity_number c.entity)) h

IsTrue-is : (t : Bool) → IsTrue t → t ≡ true
IsTrue-is t h = h

pairs_ascend : (cs : List Change) (e : Entity) (rows : List Change) → Ascend rows → All (λ c. entity_number c.entity ≡ entity_number e) rows → AllPairs IsEarlier (map (before_of cs e) rows)
pairs_ascend cs e [] up one = λ i j d lt within. absurd (omega arith)
pairs_ascend cs e (c ∷ rows) up one =
    let P = λ (c : Change). entity_number c.entity ≡ entity_number e in
    let here = All-head P c rows one in
    let rest = All-tail P c rows one in
    AllPairs-cons IsEarlier (before_of cs e c) (map (before_of cs e) rows)
    (All-map (IsEarlier (before_of cs e c)) (before_of cs e) rows (λ i z below. before_earlier c _ (here ∙ sym (rest i z below)) (IsTrue-is _ (up.0 i z below))))
    (pairs_ascend cs e rows up.1 rest)

word-within : (o : Option (List ℕ)) → IfSome o IsValue → length (word_of o) ≤ 65535
word-within None fit = omega arith
word-within (Some value) fit = fit.within

no_more : (tx next size : ℕ) → tx < next → next ≤ 4096 * size → size ≤ 2 ^ 32 → tx < 2 ^ 64
no_more tx next size lt le few = omega arith

module _ (list : ChangeList) (e : Entity) (from to : ℕ) (valid : IsChangeList list) where
  rows_ascend : Ascend (changes_over list.size list.changes e from to)
  rows_ascend =
      subst Ascend (sym (changes_over-arranged list.size list.changes e from to))
      (Ascend-filter (is_within e (from * list.size) (to * list.size)) (arranged list.changes) (arranged-Ascend list.changes valid.no_repeats))

  row_fits : (c : Change) → IsChange c → IsWithin e (from * list.size) (to * list.size) c → c.tx < list.next → IsBefore (v_tag e list.size from to) (before_of list.changes e c)
  row_fits c change within next = record {
    lengths = record {
      not_empty = change.key.not_empty;
      key_within = change.key.within;
      value_within = word-within (value_at list.changes e c.key c.tx) (value_at-fits list.changes e c.key c.tx valid.fit);
    };
    number = record {
      fits = no_more c.tx list.next list.size next valid.next_within valid.size_within;
      inside = record { low = within.low; high = within.high };
    };
  }

  -- what a list has before its changes in steps may be held by their file
  pub v_contents-AreBefores : AreBefores (v_tag e list.size from to) (v_contents list.size list.changes e from to)
  unfolding v_contents
  v_contents-AreBefores =
      let rows = changes_over list.size list.changes e from to in
      let within = changes_over-All list.size list.changes e from to in
      let change = changes_over-keep IsChange list.size list.changes e from to valid.fit in
      let next = changes_over-keep (λ c. c.tx < list.next) list.size list.changes e from to valid.below_next in
      record {
        ascend = pairs_ascend list.changes e rows rows_ascend (λ i z below. (within i z below).entity);
        fit = All-map (IsBefore (v_tag e list.size from to)) (before_of list.changes e) rows (λ i z below. row_fits _ (change i z below) (within i z below) (next i z below));
      }

-- a file with the contents has the bytes, and so has its accessor
pub v_file_bytes-of : (size : ℕ) (changes : List Change) (e : Entity) (from to : ℕ) (file : TaggedBefores) → file ≡ tagged_befores (v_tag e size from to) (v_contents size changes e from to)
    → (v_spelling file ≡ v_file_bytes size changes e from to) × (vi_spelling file ≡ vi_file_bytes size changes e from to)
unfolding v_file_bytes vi_file_bytes
v_file_bytes-of size changes e from to file is = (ap v_spelling is, ap vi_spelling is)

-- later changes leave both alone
pub v_file_bytes-later : (size : ℕ) (cs ds : List Change) (e : Entity) (from to : ℕ) → All (λ d. to * size ≤ d.tx) ds
    → (v_file_bytes size (cs ++ ds) e from to ≡ v_file_bytes size cs e from to) × (vi_file_bytes size (cs ++ ds) e from to ≡ vi_file_bytes size cs e from to)
unfolding v_file_bytes vi_file_bytes
v_file_bytes-later size cs ds e from to late =
    let same = v_contents-later size cs ds e from to late in
    let file = λ (bs : List Before). tagged_befores (v_tag e size from to) bs in
    (ap (λ bs. v_spelling (file bs)) same, ap (λ bs. vi_spelling (file bs)) same)
