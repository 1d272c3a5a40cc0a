-- Lists over the keys of a word file.
use Rattle.std.proofs.Common.{◌≡◌, ◌≢◌, ℕ, ◌+◌, ◌*◌, ◌/◌, ◌<◌, ◌≤◌, Bool, true, cond, ◌==◌, List, [], ◌∷◌, ◌++◌, length, map, take, get_or, set, slice_set, Vec, Global, refl, sym, ap, ◌∙◌, arith, inl, inr, add-one, zero-add, Option, Some, None, subst, ltb}
use Rattle.std.specs.Prelude.{slice_index, slice_index_or}
use Rattle.std.specs.List.{range_with_len}
use Rattle.std.specs.Ordering.{nat_cmp}
use Rattle.std.specs.Cmp.Lexicographic.{slice_cmp}
use Rattle.std.specs.BTreeMap.{insert_entry}
use Rattle.std.proofs.lemmas.Bool.Decides.{eqb_tells}
use Rattle.std.proofs.lemmas.Bool.{eq-eqb, ne_eqb, ltb-false}
use Rattle.std.proofs.lemmas.Grind.{get_or-set_at}
use Rattle.std.proofs.lemmas.List.{append-nil, map-set, map-append, get_or-map, get_or-set_other, length-map, length-set, take_all}
use Rattle.std.proofs.lemmas.List.Elements.{filter_more}
use Rattle.std.proofs.lemmas.List.FromFn.{map-range_with_len_more, get_or-map-range_with_len, length-map-range_with_len, fill_by_all}
use Rattle.word_file.specs.Spelling.{IsPlace, offset_at, offset_of}
use Rattle.word_file.proofs.Places.{placed}
use Rattle.word_file.proofs.Gathers.{none_past}
use Rattle.recsplit_index.specs.declared.keys.HashedKey.{HashedKey}
use Rattle.recsplit_index.specs.Hash.{scaled, key_hash}
use Rattle.word_file.specs.Paired.{IsPaired, key_count, key_at, key_offset, key_offsets}
use Rattle.recsplit_index.specs.Keys.{hashed_key, hashed_keys, first_by_key, by_key}
use Rattle.recsplit_index.specs.Index.{bucket_count, bucket_keys}

-- where the key of a place stands
pub key_place : (words : List (List ℕ)) (offsets : List ℕ) (i : ℕ) → offsets ≡ key_offsets words → i < length offsets → IsPlace words (slice_index offsets i) (2 * i)
key_place words offsets i is lt =
    let few : i < key_count words = omega (arith, ap length is, length-map-range_with_len (key_offset words) 0 (key_count words)) in
    record { within = omega (arith, few); offset = ap (λ (l : List ℕ). get_or l i 0) is ∙ get_or-map-range_with_len (key_offset words) 0 (key_count words) i i 0 few (zero-add i) }

-- a list of so many, one after the other
pub mapped_more : {X : Type 0} (f : ℕ → X) (out new : List X) (x : X) (i : ℕ) → out ≡ map f (range_with_len 0 i) → new ≡ out ++ x ∷ [] → x ≡ f i → new ≡ map f (range_with_len 0 (i + 1))
mapped_more f out new x i so_far is x-is = is ∙ ap (λ l. l ++ x ∷ []) so_far ∙ ap (λ y. map f (range_with_len 0 i) ++ y ∷ []) x-is ∙ sym (map-range_with_len_more f 0 i i (zero-add i))

pub length-hashed_keys : (salt : ℕ) (words : List (List ℕ)) → length (hashed_keys salt words) ≡ key_count words
unfolding hashed_keys
length-hashed_keys salt words = length-map-range_with_len (hashed_key salt words) 0 (key_count words)

hashed_at : (salt : ℕ) (words : List (List ℕ)) (place : ℕ) (d : HashedKey) → place < key_count words → get_or (hashed_keys salt words) place d ≡ hashed_key salt words place
unfolding hashed_keys
hashed_at salt words place d less = get_or-map-range_with_len (hashed_key salt words) 0 (key_count words) place place d less (zero-add place)

pub keyed_none : (words : List (List ℕ)) → [] ≡ first_by_key words 0
unfolding first_by_key
keyed_none words = refl

pub keyed_more : (words : List (List ℕ)) (entries new : List (List ℕ × ℕ)) (at i : ℕ) → entries ≡ first_by_key words i → IsPlace words at (2 * i) → new ≡ insert_entry (slice_cmp nat_cmp) entries (key_at words i) at → new ≡ first_by_key words (i + 1)
unfolding first_by_key
keyed_more words entries new at i so_far place is =
    is ∙ ap (λ (l : List (List ℕ × ℕ)). insert_entry (slice_cmp nat_cmp) l (key_at words i) at) so_far ∙ ap (insert_entry (slice_cmp nat_cmp) (first_by_key words i) (key_at words i)) place.offset
    ∙ ap (first_by_key words) (sym (add-one i))

pub keyed_all : (words : List (List ℕ)) (offsets : List ℕ) (entries : List (List ℕ × ℕ)) (i : ℕ) → offsets ≡ key_offsets words → length offsets ≤ i → i ≤ length offsets → entries ≡ first_by_key words i → entries ≡ by_key words
keyed_all words offsets entries i is ge le so_far =
    let all : i ≡ key_count words = omega (arith, ap length is, length-map-range_with_len (key_offset words) 0 (key_count words)) in
    so_far ∙ ap (first_by_key words) all

-- ---- the keys of each bucket

abbrev pub lists_of : List (Vec HashedKey Global) → List (List HashedKey)
lists_of groups = map (λ g. g.items) groups

-- a list put in a range of lists
set_in_range : (F G : ℕ → List HashedKey) (n b : ℕ) (x : List HashedKey) → b < n → x ≡ G b → ((c : ℕ) → c ≢ b → F c ≡ G c) → set (map F (range_with_len 0 n)) b x ≡ map G (range_with_len 0 n)
set_in_range F G n b x lt here others =
    fill_by_all G (set (map F (range_with_len 0 n)) b x) n [] (length-set (map F (range_with_len 0 n)) b x ∙ length-map-range_with_len F 0 n)
    (λ c less.
    elim (eqb_tells c b) [
      | inl same ↦ get_or-set_at (map F (range_with_len 0 n)) b c x [] same.1 (omega (arith, length-map-range_with_len F 0 n)) ∙ here ∙ ap G (sym same.1)
      | inr other ↦ get_or-set_other (map F (range_with_len 0 n)) b c x [] other.1 ∙ get_or-map-range_with_len F 0 n c c [] less (zero-add c) ∙ others c other.1
    ])

pub grouped_none : (buckets : ℕ) (groups : List (Vec HashedKey Global)) → groups ≡ [] → lists_of groups ≡ map (bucket_keys buckets []) (range_with_len 0 0)
grouped_none buckets groups is = ap lists_of is

-- one more group, which is empty
pub empty_more : (buckets : ℕ) (groups new : List (Vec HashedKey Global)) (g : Vec HashedKey Global) (n : ℕ) → lists_of groups ≡ map (bucket_keys buckets []) (range_with_len 0 n) → new ≡ groups ++ g ∷ [] → g.items ≡ [] → lists_of new ≡ map (bucket_keys buckets []) (range_with_len 0 (n + 1))
unfolding bucket_keys
empty_more buckets groups new g n so_far is none =
    mapped_more (bucket_keys buckets []) (lists_of groups) (lists_of new) g.items n so_far (ap lists_of is ∙ map-append (λ g. g.items) groups (g ∷ [])) none

pub grouped_begin : (buckets : ℕ) (groups : List (Vec HashedKey Global)) (keys : List HashedKey) (n : ℕ) → buckets ≤ n → n ≤ buckets → lists_of groups ≡ map (bucket_keys buckets []) (range_with_len 0 n) → lists_of groups ≡ map (bucket_keys buckets (take 0 keys)) (range_with_len 0 buckets)
grouped_begin buckets groups keys n ge le is =
    let all : n ≡ buckets = omega arith in
    is ∙ ap (λ (m : ℕ). map (bucket_keys buckets []) (range_with_len 0 m)) all

pub group_put : (groups : List (Vec HashedKey Global)) (at : ℕ) (d new : Vec HashedKey Global) (key : HashedKey) → at < length groups → new.items ≡ (get_or groups at d).items ++ key ∷ [] → lists_of (slice_set groups at new) ≡ slice_set (lists_of groups) at (slice_index_or (lists_of groups) at [] ++ key ∷ [])
group_put groups at d new key lt new-is =
    map-set (λ g. g.items) groups at new
    ∙ ap (set (lists_of groups) at) (new-is ∙ ap (λ (l : List HashedKey). l ++ key ∷ []) (sym (get_or-map (λ g. g.items) groups at d [] lt)))

bucket_more : (buckets : ℕ) (keys : List HashedKey) (i c : ℕ) (d : HashedKey) → i < length keys → bucket_keys buckets (take (i + 1) keys) c ≡ bucket_keys buckets (take i keys) c ++ cond (scaled (get_or keys i d).hash buckets == c) (get_or keys i d ∷ []) []
unfolding bucket_keys
bucket_more buckets keys i c d lt = filter_more (λ key. scaled key.hash buckets == c) keys i d lt

pub grouped_more : (buckets : ℕ) (groups new : List (Vec HashedKey Global)) (keys : List HashedKey) (i b : ℕ) (d : HashedKey) → i < length keys → b < buckets → b ≡ scaled (get_or keys i d).hash buckets → lists_of groups ≡ map (bucket_keys buckets (take i keys)) (range_with_len 0 buckets)
    → lists_of new ≡ slice_set (lists_of groups) b (slice_index_or (lists_of groups) b [] ++ get_or keys i d ∷ []) → lists_of new ≡ map (bucket_keys buckets (take (i + 1) keys)) (range_with_len 0 buckets)
grouped_more buckets groups new keys i b d lt less b-is so_far is =
    let F = bucket_keys buckets (take i keys) in
    let key = get_or keys i d in
    let hit : (scaled key.hash buckets == b) ≡ true = eq-eqb (scaled key.hash buckets) b (sym b-is) in
    let old : get_or (lists_of groups) b [] ≡ F b = ap (λ (l : List (List HashedKey)). get_or l b []) so_far ∙ get_or-map-range_with_len F 0 buckets b b [] less (zero-add b) in
    let here : get_or (lists_of groups) b [] ++ key ∷ [] ≡ bucket_keys buckets (take (i + 1) keys) b =
    ap (λ (l : List HashedKey). l ++ key ∷ []) old ∙ sym (bucket_more buckets keys i b d lt ∙ ap (λ (t : Bool). F b ++ cond t (key ∷ []) []) hit)
    in
    is ∙ ap (λ (l : List (List HashedKey)). set l b (get_or (lists_of groups) b [] ++ key ∷ [])) so_far
    ∙ set_in_range F (bucket_keys buckets (take (i + 1) keys)) buckets b (get_or (lists_of groups) b [] ++ key ∷ []) less here
    (λ c other. sym (bucket_more buckets keys i c d lt ∙ ap (λ (t : Bool). F c ++ cond t (key ∷ []) []) (ne_eqb (scaled key.hash buckets) c (λ e. other (sym e ∙ sym b-is))) ∙ append-nil (F c)))

pub grouped_length : (buckets : ℕ) (groups : List (Vec HashedKey Global)) (F : ℕ → List HashedKey) → lists_of groups ≡ map F (range_with_len 0 buckets) → length groups ≡ buckets
grouped_length buckets groups F is = sym (length-map groups (λ g. g.items)) ∙ ap length is ∙ length-map-range_with_len F 0 buckets

pub grouped_all : (buckets : ℕ) (groups : List (Vec HashedKey Global)) (keys : List HashedKey) (i : ℕ) → length keys ≤ i → lists_of groups ≡ map (bucket_keys buckets (take i keys)) (range_with_len 0 buckets) → lists_of groups ≡ map (bucket_keys buckets keys) (range_with_len 0 buckets)
grouped_all buckets groups keys i ge is = is ∙ ap (λ (l : List HashedKey). map (bucket_keys buckets l) (range_with_len 0 buckets)) (take_all i keys ge)

pub group_at : (buckets : ℕ) (groups : List (Vec HashedKey Global)) (keys : List HashedKey) (i : ℕ) (g : Vec HashedKey Global) → i < length groups → g ≡ get_or groups i g → lists_of groups ≡ map (bucket_keys buckets keys) (range_with_len 0 buckets) → g.items ≡ bucket_keys buckets keys i
group_at buckets groups keys i g lt g-is is =
    let less : i < buckets = omega (arith, grouped_length buckets groups (bucket_keys buckets keys) is) in
    ap (λ (h : Vec HashedKey Global). h.items) g-is ∙ sym (get_or-map (λ h. h.items) groups i g [] lt) ∙ ap (λ (l : List (List HashedKey)). get_or l i []) is
    ∙ get_or-map-range_with_len (bucket_keys buckets keys) 0 buckets i i [] less (zero-add i)

-- the first keys are in their groups, and the next stands there
pub record IsGrouped (salt : ℕ) (words : List (List ℕ)) (buckets : ℕ) (groups : List (Vec HashedKey Global)) (next : Option ℕ) (place : ℕ) : Type 0 where
  pub at_is : next ≡ offset_of words (2 * place)
  pub within : place ≤ key_count words
  pub grouped : lists_of groups ≡ map (bucket_keys buckets (take place (hashed_keys salt words))) (range_with_len 0 buckets)

pub group_here : (salt : ℕ) (words : List (List ℕ)) (buckets : ℕ) (groups : List (Vec HashedKey Global)) (next : Option ℕ) (place offset : ℕ) → IsGrouped salt words buckets groups next place → next ≡ Some offset → IsPlace words offset (2 * place)
group_here salt words buckets groups next place offset g e = placed (Some offset) words (2 * place) (sym e ∙ g.at_is)

pub group_more : (salt : ℕ) (words : List (List ℕ)) (buckets : ℕ) (groups new : List (Vec HashedKey Global)) (next after : Option ℕ) (place offset hash b : ℕ) → IsPaired words → IsGrouped salt words buckets groups next place → next ≡ Some offset
    → b < buckets → b ≡ scaled hash buckets → ((i : ℕ) → IsPlace words offset i → hash ≡ key_hash salt (get_or words i [])) → ((i : ℕ) → IsPlace words offset i → after ≡ offset_of words (i + 2))
    → lists_of new ≡ slice_set (lists_of groups) b (slice_index_or (lists_of groups) b [] ++ record { hash = hash; offset = offset } ∷ []) → IsGrouped salt words buckets new after (place + 1)
group_more salt words buckets groups new next after place offset hash b paired g e less b-is hash-is after-is put =
    let at = group_here salt words buckets groups next place offset g e in
    let few : place < key_count words = omega (arith, at.within, paired) in
    let keys = hashed_keys salt words in
    let d : HashedKey = record { hash = 0; offset = 0 } in
    let key : HashedKey = record { hash = hash; offset = offset } in
    let is : key ≡ get_or keys place d =
    ap (λ (h : ℕ). record { hash = h; offset = offset }) (hash-is (2 * place) at) ∙ ap (λ (o : ℕ). record { hash = (hashed_key salt words place).hash; offset = o }) at.offset ∙ sym (hashed_at salt words place d few)
    in
    let twice : 2 * place + 2 ≡ 2 * (place + 1) = omega arith in
    record {
      at_is = after-is (2 * place) at ∙ ap (offset_of words) twice;
      within = omega (arith, few);
      grouped = grouped_more buckets groups new keys place b d (omega (arith, few, length-hashed_keys salt words)) less (b-is ∙ ap (λ (k : HashedKey). scaled k.hash buckets) is) g.grouped
          (subst (λ (k : HashedKey). lists_of new ≡ slice_set (lists_of groups) b (slice_index_or (lists_of groups) b [] ++ k ∷ [])) is put);
    }

pub group_all : (salt : ℕ) (words : List (List ℕ)) (buckets : ℕ) (groups : List (Vec HashedKey Global)) (next : Option ℕ) (place : ℕ) → IsPaired words → IsGrouped salt words buckets groups next place → next ≡ None
    → lists_of groups ≡ map (bucket_keys buckets (hashed_keys salt words)) (range_with_len 0 buckets)
group_all salt words buckets groups next place paired g e =
    let ended = none_past (ltb (2 * place) (length words)) (offset_at words (2 * place)) (sym e ∙ g.at_is) in
    grouped_all buckets groups (hashed_keys salt words) place (omega (arith, ltb-false _ _ ended, paired, length-hashed_keys salt words)) g.grouped

-- the number of buckets over the keys of these words
pub bucket_number : (salt : ℕ) (words : List (List ℕ)) (count buckets : ℕ) → count ≡ length words → buckets ≡ bucket_count (count / 2) → buckets ≡ bucket_count (length (hashed_keys salt words))
bucket_number salt words count buckets count-is is = is ∙ ap (λ (n : ℕ). bucket_count (n / 2)) count-is ∙ ap bucket_count (sym (length-hashed_keys salt words))
