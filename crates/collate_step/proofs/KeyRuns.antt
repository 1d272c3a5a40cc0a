-- Runs of changes of one key, of changes that are sorted by it, are the keys with their numbers.
use Rattle.std.specs.Prelude.{◌≡◌, ℕ, nat_eq, Bool, true, false, cond, List, [], ◌∷◌, ◌++◌, map, All, refl}
use Rattle.std.proofs.Common.{get_or, sym, ◌∙◌, ap, subst, append_assoc}
use Rattle.std.specs.List.{filter}
use Rattle.std.specs.Ordering.{nat_cmp}
use Rattle.std.specs.Cmp.{tied_itself}
use Rattle.std.specs.Cmp.Lexicographic.{pointwise, slice_cmp, nat_list_cmp_total, bytes_decides}
use Rattle.std.specs.declared.cmp.Ordering.TheVariants.{Less, Equal}
use Rattle.agg_model.specs.declared.change.Change.{Change}
use Rattle.agg_model.specs.declared.contents.Times.{Times}
use Rattle.agg_model.specs.Contents.{keys_of}
use Rattle.agg_model.specs.Pairs.{IsBelow, KeysAscend}
use Rattle.agg_model.proofs.ContentsLaws.{filter-none, KeysRise, ends_below, keys_of-All, keys_of-ascend, map-agree}
use Rattle.content_laws.specs.Steps.{numbers_among, lists_among}
use Rattle.collate_step.specs.Runs.{runs_from}

abbrev has_key : List ℕ → Change → Bool
has_key k c = pointwise nat_eq c.key k

abbrev numbers : List ℕ → List Change → List ℕ
numbers k cs = map (λ (c : Change). c.tx) (filter (has_key k) cs)

-- with these numbers before those of the first key
abbrev with_first : List ℕ → List Change → List (List ℕ) → List Times
with_first ns cs [] = []
with_first ns cs (k ∷ ks) = record { key = k; items = ns ++ numbers k cs } ∷ map (numbers_among cs) ks

apart-by : (k l : List ℕ) (t : Bool) → pointwise nat_eq k l ≡ t → IsBelow k l → t ≡ false
apart-by k l true is below =
    let same : slice_cmp nat_cmp k k ≡ Less = subst (λ m. slice_cmp nat_cmp k m ≡ Less) (sym ((bytes_decides k l).0 is)) below in
    let equal : slice_cmp nat_cmp k k ≡ Equal = tied_itself nat_list_cmp_total k in
    cc
apart-by k l false is below = refl

apart : (k l : List ℕ) → IsBelow k l → pointwise nat_eq k l ≡ false
apart k l below = apart-by k l (pointwise nat_eq k l) refl below

-- nor the other way round
flipped-by : (k l : List ℕ) (t : Bool) → pointwise nat_eq l k ≡ t → IsBelow k l → t ≡ false
flipped-by k l true is below =
    let same : slice_cmp nat_cmp k k ≡ Less = subst (λ m. slice_cmp nat_cmp k m ≡ Less) ((bytes_decides l k).0 is) below in
    let equal : slice_cmp nat_cmp k k ≡ Equal = tied_itself nat_list_cmp_total k in
    cc
flipped-by k l false is below = refl

flipped : (k l : List ℕ) → IsBelow k l → pointwise nat_eq l k ≡ false
flipped k l below = flipped-by k l (pointwise nat_eq l k) refl below

-- a change of another key is no matter
other : (c : Change) (cs : List Change) (k : List ℕ) → IsBelow c.key k → numbers_among (c ∷ cs) k ≡ numbers_among cs k
other c cs k below =
    λ i. record { key = k; items = map (λ (c : Change). c.tx) (cond (apart c.key k below i) (c ∷ filter (has_key k) cs) (filter (has_key k) cs)) }

mine : (c : Change) (cs : List Change) (k : List ℕ) → c.key ≡ k → numbers k (c ∷ cs) ≡ c.tx ∷ numbers k cs
mine c cs k is =
    ap (λ t. map (λ (c : Change). c.tx) (cond t (c ∷ filter (has_key k) cs) (filter (has_key k) cs))) ((bytes_decides c.key k).1 is)

-- the first key of changes is that of the first change
first_key-by : (c d : Change) (ds : List Change) (t : Bool) → pointwise nat_eq c.key d.key ≡ t → ((ks : List (List ℕ)) × (keys_of (d ∷ ds) ≡ d.key ∷ ks))
    → (ks : List (List ℕ)) × (cond t (keys_of (d ∷ ds)) (c.key ∷ keys_of (d ∷ ds)) ≡ c.key ∷ ks)
first_key-by c d ds true is rest = (rest.0, rest.1 ∙ ap (λ k. k ∷ rest.0) (sym ((bytes_decides c.key d.key).0 is)))
first_key-by c d ds false is rest = (keys_of (d ∷ ds), refl)

first_key : (c : Change) (cs : List Change) → (ks : List (List ℕ)) × (keys_of (c ∷ cs) ≡ c.key ∷ ks)
first_key c [] = ([], refl)
first_key c (d ∷ ds) = first_key-by c d ds (pointwise nat_eq c.key d.key) refl (first_key d ds)

with_none : (cs : List Change) (ks : List (List ℕ)) → with_first [] cs ks ≡ map (numbers_among cs) ks
with_none cs [] = refl
with_none cs (k ∷ ks) = refl

others : (c : Change) (cs : List Change) (ks : List (List ℕ)) → All (IsBelow c.key) ks → map (numbers_among (c ∷ cs)) ks ≡ map (numbers_among cs) ks
others c cs ks below =
    map-agree (numbers_among (c ∷ cs)) (numbers_among cs) ks (λ i z within. other c cs (get_or ks i z) (below i z within))

module _ (ns : List ℕ) (c d : Change) (ds : List Change) (rise : KeysRise (c ∷ d ∷ ds)) where
  goes-by : pointwise nat_eq c.key d.key ≡ true → (ks : List (List ℕ)) → keys_of (d ∷ ds) ≡ d.key ∷ ks
      → with_first (ns ++ c.tx ∷ []) (d ∷ ds) (keys_of (d ∷ ds)) ≡ with_first ns (c ∷ d ∷ ds) (keys_of (d ∷ ds))
  goes-by is ks are =
      let same : c.key ≡ d.key = (bytes_decides c.key d.key).0 is in
      let up = subst KeysAscend are (keys_of-ascend (d ∷ ds) rise.1) in
      let below : All (IsBelow c.key) ks = subst (λ k. All (IsBelow k) ks) (sym same) up.0 in
      ap (with_first (ns ++ c.tx ∷ []) (d ∷ ds)) are
      ∙ (λ i. record { key = d.key; items = (append_assoc ns (c.tx ∷ []) (numbers d.key (d ∷ ds)) ∙ ap (λ l. ns ++ l) (sym (mine c (d ∷ ds) d.key same))) i } ∷ sym (others c (d ∷ ds) ks below) i)
      ∙ ap (with_first ns (c ∷ d ∷ ds)) (sym are)

  ends-by : pointwise nat_eq c.key d.key ≡ false
      → record { key = c.key; items = ns ++ c.tx ∷ [] } ∷ with_first [] (d ∷ ds) (keys_of (d ∷ ds)) ≡ with_first ns (c ∷ d ∷ ds) (c.key ∷ keys_of (d ∷ ds))
  ends-by is =
      let below = ends_below c (d ∷ ds) rise is in
      let none : numbers c.key (d ∷ ds) ≡ [] =
      ap (map (λ (x : Change). x.tx)) (filter-none (has_key c.key) (d ∷ ds) (λ i z within. flipped c.key (get_or (d ∷ ds) i z).key (below i z within))) in
      (λ i. record { key = c.key; items = ns ++ (sym (mine c (d ∷ ds) c.key refl ∙ ap (λ l. c.tx ∷ l) none)) i }
      ∷ (with_none (d ∷ ds) (keys_of (d ∷ ds)) ∙ sym (others c (d ∷ ds) (keys_of (d ∷ ds)) (keys_of-All (IsBelow c.key) (d ∷ ds) below))) i)

runs-by : (ns : List ℕ) (c d : Change) (ds : List Change) (t : Bool) → pointwise nat_eq c.key d.key ≡ t → KeysRise (c ∷ d ∷ ds)
    → ((ms : List ℕ) → runs_from ms (d ∷ ds) ≡ with_first ms (d ∷ ds) (keys_of (d ∷ ds)))
    → cond t (runs_from (ns ++ c.tx ∷ []) (d ∷ ds)) (record { key = c.key; items = ns ++ c.tx ∷ [] } ∷ runs_from [] (d ∷ ds))
    ≡ with_first ns (c ∷ d ∷ ds) (cond t (keys_of (d ∷ ds)) (c.key ∷ keys_of (d ∷ ds)))
runs-by ns c d ds true is rise rest =
    let first = first_key d ds in
    rest (ns ++ c.tx ∷ []) ∙ goes-by ns c d ds rise is first.0 first.1
runs-by ns c d ds false is rise rest =
    ap (λ l. record { key = c.key; items = ns ++ c.tx ∷ [] } ∷ l) (rest []) ∙ ends-by ns c d ds rise is

runs : (ns : List ℕ) (c : Change) (cs : List Change) → KeysRise (c ∷ cs) → runs_from ns (c ∷ cs) ≡ with_first ns (c ∷ cs) (keys_of (c ∷ cs))
runs ns c [] rise = λ i. record { key = c.key; items = ns ++ sym (mine c [] c.key refl) i } ∷ []
runs ns c (d ∷ ds) rise = runs-by ns c d ds (pointwise nat_eq c.key d.key) refl rise (λ ms. runs ms d ds rise.1)

pub runs-lists : (cs : List Change) → KeysRise cs → runs_from [] cs ≡ lists_among cs
runs-lists [] rise = refl
runs-lists (c ∷ cs) rise = runs [] c cs rise ∙ with_none (c ∷ cs) (keys_of (c ∷ cs))
