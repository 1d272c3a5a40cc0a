-- The lists that are made of a walk over numbers.
use Rattle.std.proofs.Common.{◌≡◌, ℕ, zero, suc, ◌+◌, ◌*◌, ◌^◌, ◌<◌, ◌≤◌, Bool, true, false, cond, List, [], ◌∷◌, ◌++◌, map, length, get_or, take, append-nil, append_assoc, Option, Some, None, refl, arith, sym, ◌∙◌, ap, subst}
use Rattle.std.specs.Prelude.{All, nat_eq, Result, Ok, Err, IfOk}
use Rattle.std.specs.List.{cons_option, filter_map, flat_map, sum_by}
use Rattle.std.specs.Option.{option_map}
use Rattle.std.specs.Cmp.Lexicographic.{pointwise, bytes_decides}
use Rattle.std.proofs.lemmas.List.{take_more}
use Rattle.std.proofs.lemmas.List.Concat.{flat_map-append}
use Rattle.std.proofs.lemmas.List.Sums.{sum_by-append}
use Rattle.std.proofs.lemmas.List.Elements.{All-nil, All-cons, All-head, All-tail, All-append}
use Rattle.agg_model.specs.declared.entity.FileKind.TheVariants.{Ef}
use Rattle.agg_model.specs.declared.contents.Pair.{Pair}
use Rattle.agg_model.specs.declared.contents.Times.{Times}
use Rattle.agg_model.specs.Pairs.{IsBelow, KeysAscend, pair_keys}
use Rattle.content_laws.specs.Looks.{numbers_in as looked}
use Rattle.content_laws.specs.Parts.{both_numbers, numbers_over}
use Rattle.collate_step.specs.Groups.{GroupFiles}
use Rattle.elias_fano.specs.Spelling.{IsListable, spelling}
use Rattle.word_file.specs.declared.tag.Tag.{Tag}
use Rattle.word_file.specs.Spelling.{TaggedWords}
use Rattle.word_file.specs.Reading.{tagged}
use Rattle.history_core.specs.Befores.{order_of}
use Rattle.inverted_index.specs.EfFile.{IsTimes, AreLists, AreWordsOf, list_keys, number_count, numbers_in, words_of}
use Rattle.inverted_index.proofs.TextLaws.{listable, numbers_in-spelling}
use Rattle.inverted_index.proofs.ListWords.{IsFew, few-each}
use Rattle.merge_files.specs.Adjacent.{lists_of}
use Rattle.merge_files.specs.MergedLists.{all_numbers, times_of, HasLists, ListsPut}
use Rattle.merge_files.specs.Walks.{Item, times_pair, file_pairs, word_order, IsAhead, AreBehind, WordsRise, IsKeyWord, all_keys, item_with, items_left}
use Rattle.merge_files.proofs.Ascents.{earlier-below}
use Rattle.merge_files.proofs.ItemLooks.{all_keys-rise, AreGood, InputsGood, word_by, words_by, item_by, are_some, items-found}

-- ---- the numbers of one list more

pub numbers-more : (words : List (List ℕ)) (i : ℕ) (items : List ℕ) → i < length words → IsListable items → get_or words i [] ≡ spelling items
    → all_numbers (take (i + 1) words) ≡ all_numbers (take i words) ++ items
numbers-more words i items within can is =
    ap all_numbers (take_more words i [] within) ∙ flat_map-append numbers_in (take i words) (get_or words i [] ∷ [])
    ∙ (λ j. all_numbers (take i words) ++ (append-nil (numbers_in (get_or words i [])) ∙ ap numbers_in is ∙ numbers_in-spelling items can) j)

-- ---- in order

below-ahead : (k l : List ℕ) → IsAhead Ef k l → IsBelow k l
unfolding word_order order_of
below-ahead k l is = earlier-below k l [] [] is

all-below : (k : List ℕ) (ks : List (List ℕ)) → AreBehind Ef k ks → All (IsBelow k) ks
all-below k [] behind = All-nil (IsBelow k)
all-below k (l ∷ ks) behind = All-cons (IsBelow k) l ks (below-ahead k l behind.0) (all-below k ks behind.1)

keys-up : (ks : List (List ℕ)) → WordsRise Ef ks → KeysAscend ks
keys-up [] rise = tt
keys-up (k ∷ ks) rise = (all-below k ks rise.0, keys-up ks rise.1)

module _ (inputs : List (List Pair)) where
  times-keys : (ws : List (List ℕ)) → list_keys (map times_of (map (item_with Ef inputs) ws)) ≡ ws
  times-keys [] = refl
  times-keys (w ∷ ws) = λ i. w ∷ times-keys ws i

  pub lists-ascend : KeysAscend (list_keys (map times_of (items_left Ef inputs)))
  lists-ascend = subst KeysAscend (sym (times-keys (all_keys Ef inputs))) (keys-up (all_keys Ef inputs) (all_keys-rise Ef inputs))

-- ---- a look for a key

module _ (k : List ℕ) where
  abbrev is_it : List ℕ → Bool
  is_it w = pointwise nat_eq w k

  one-key : (w v : List ℕ) → IsKeyWord Ef w → IsKeyWord Ef v → is_it w ≡ true → is_it v ≡ true → w ≡ v
  one-key w v one other is at = (bytes_decides w k).0 is ∙ sym ((bytes_decides v k).0 at)

  lists-found : (items : List Item) → looked (map times_of items) k ≡ item_by Ef is_it all_numbers items
  lists-found [] = refl
  lists-found (i ∷ items) = ap (cond (is_it i.key) (Some (all_numbers i.words))) (lists-found items)

  -- what is found is listable
  abbrev CanAll : List Times → Type 0
  CanAll [] = Unit {0}
  CanAll (t ∷ ts) = IsListable t.items × CanAll ts

  can-all : (tag : Tag) (ts : List Times) → All (IsTimes tag) ts → All IsFew ts → CanAll ts
  can-all tag [] fit few = tt
  can-all tag (t ∷ ts) fit few =
      let small : length t.items < 2 ^ 23 = All-head IsFew t ts few in
      (listable tag t.items (All-head (IsTimes tag) t ts fit).numbers (omega (arith, small)), can-all tag ts (All-tail (IsTimes tag) t ts fit) (All-tail IsFew t ts few))

  good-lists : (ts : List Times) → AreGood Ef (pair_keys (map times_pair ts))
  good-lists [] = tt
  good-lists (t ∷ ts) = (tt, good-lists ts)

  good-groups : (gs : List GroupFiles) → InputsGood Ef (map (file_pairs Ef) gs)
  good-groups [] = tt
  good-groups (g ∷ gs) = (good-lists (lists_of g), good-groups gs)

  abbrev numbers_made : List (List ℕ) → Option (List ℕ)
  numbers_made ws = cond (are_some Ef is_it ws) (Some (all_numbers ws)) None

  joined-by : (items : List ℕ) (ws : List (List ℕ)) → IsListable items → numbers_made (spelling items ∷ ws) ≡ both_numbers (Some items) (numbers_made ws)
  joined-by items [] can = ap Some (append-nil (numbers_in (spelling items)) ∙ numbers_in-spelling items can)
  joined-by items (w ∷ ws) can = ap (λ ns. Some (ns ++ all_numbers (w ∷ ws))) (numbers_in-spelling items can)

  file-by : (t : Bool) (x : Times) (ts : List Times) (ws : List (List ℕ)) → IsListable x.items
      → numbers_made (cons_option (word_by Ef is_it (map times_pair ts)) ws) ≡ both_numbers (looked ts k) (numbers_made ws)
      → numbers_made (cons_option (cond t (Some (spelling x.items)) (word_by Ef is_it (map times_pair ts))) ws) ≡ both_numbers (cond t (Some x.items) (looked ts k)) (numbers_made ws)
  file-by true x ts ws can rest = joined-by x.items ws can
  file-by false x ts ws can rest = rest

  file-found : (ts : List Times) (ws : List (List ℕ)) → CanAll ts → numbers_made (cons_option (word_by Ef is_it (map times_pair ts)) ws) ≡ both_numbers (looked ts k) (numbers_made ws)
  file-found [] ws can = refl
  file-found (t ∷ ts) ws can = file-by (is_it t.key) t ts ws can.0 (file-found ts ws can.1)

  groups-found : (gs : List GroupFiles) → All HasLists gs → numbers_made (words_by Ef is_it (map (file_pairs Ef) gs)) ≡ numbers_over (map lists_of gs) k
  groups-found [] has = refl
  groups-found (g ∷ gs) has =
      let are : AreLists g.ef.tag g.ef.lists = All-head HasLists g gs has in
      file-found (lists_of g) (words_by Ef is_it (map (file_pairs Ef) gs)) (can-all g.ef.tag g.ef.lists are.fit (few-each g.ef.lists are.few))
      ∙ ap (both_numbers (looked (lists_of g) k)) (groups-found gs (All-tail HasLists g gs has))

  pub lists-look : (gs : List GroupFiles) → All HasLists gs → looked (map times_of (items_left Ef (map (file_pairs Ef) gs))) k ≡ numbers_over (map lists_of gs) k
  lists-look gs has =
      let inputs = map (file_pairs Ef) gs in
      lists-found (items_left Ef inputs) ∙ items-found Ef is_it one-key all_numbers inputs (good-groups gs) ∙ groups-found gs has

-- ---- item by item

words_of-append : (ts us : List Times) → words_of (ts ++ us) ≡ words_of ts ++ words_of us
words_of-append [] us = refl
words_of-append (t ∷ ts) us = λ i. t.key ∷ spelling t.items ∷ words_of-append ts us i

pub lists-both : (a b c : ℕ) (one two three : TaggedWords) (ts us : List Times) → ListsPut a b one two ts → ListsPut b c two three us → ListsPut a c one three (ts ++ us)
lists-both a b c one two three ts us first second = record {
  words = second.words ∙ (λ i. tagged (first.words i).tag ((first.words i).words ++ words_of us))
      ∙ (λ i. tagged one.tag ((append_assoc one.words (words_of ts) (words_of us) ∙ ap (λ ws. one.words ++ ws) (sym (words_of-append ts us))) i));
  fit = All-append (IsTimes one.tag) ts us first.fit (subst (λ (w : TaggedWords). All (IsTimes w.tag) us) first.words second.fit);
  count = let h = first.count in let j = second.count in omega (arith, h, j, sum_by-append (λ (t : Times). length t.items) ts us);
  few = second.few;
}

pub lists-more : (whole left rest : List Item) (a b c : ℕ) (one two three : TaggedWords) (ts : List Times) (i : Item) → left ≡ i ∷ rest → ts ++ map times_of left ≡ map times_of whole
    → ListsPut a b one two ts → ListsPut b c two three (times_of i ∷ []) → ListsPut a c one three (ts ++ times_of i ∷ []) × ((ts ++ times_of i ∷ []) ++ map times_of rest ≡ map times_of whole)
lists-more whole left rest a b c one two three ts i is before first second = (
  lists-both a b c one two three ts (times_of i ∷ []) first second,
  append_assoc ts (times_of i ∷ []) (map times_of rest) ∙ (λ j. ts ++ map times_of (sym is j)) ∙ before,
)

-- ---- the file of the lists

pub lists-file : (inputs : List (List Pair)) (tag : Tag) (total : ℕ) (begun done file : TaggedWords) → begun ≡ tagged tag [] → file ≡ done
    → ListsPut 0 total begun done (map times_of (items_left Ef inputs)) → AreWordsOf file (map times_of (items_left Ef inputs))
lists-file inputs tag total begun done file new is put =
    let lists = map times_of (items_left Ef inputs) in
    let same : file ≡ tagged begun.tag (begun.words ++ words_of lists) = is ∙ put.words in
    record {
      words = ap (λ (w : TaggedWords). w.words) same ∙ ap (λ (w : TaggedWords). w.words ++ words_of lists) new;
      lists = record {
        ascend = lists-ascend inputs;
        fit = subst (λ (w : TaggedWords). All (IsTimes w.tag) lists) (sym same) put.fit;
        few = let h = put.count in let f = put.few in omega (arith, h, f);
      };
    }

pub both-ok : {A E : Type 0} (r : Result A E) (P Q R : A → Type 0) → ((a : A) → P a → Q a → R a) → IfOk r P → IfOk r Q → IfOk r R
both-ok (Ok a) P Q R more first second = more a first second
both-ok (Err e) P Q R more first second = tt
