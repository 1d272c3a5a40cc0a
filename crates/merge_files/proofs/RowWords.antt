-- The rows that are made of a walk over values before changes.
use Rattle.std.proofs.Common.{AllPairs, ◌≡◌, ℕ, zero, suc, ◌+◌, ◌-◌, ◌*◌, ◌^◌, ◌<◌, ◌≤◌, ◌==◌, Bool, true, false, cond, List, [], ◌∷◌, ◌++◌, map, length, append-nil, append_assoc, eqb-true, Option, Some, None, refl, arith, sym, ◌∙◌, ap, subst}
use Rattle.std.specs.Prelude.{All, nat_eq, ◌&&◌}
use Rattle.std.specs.List.{cons_option, filter_map}
use Rattle.std.specs.Option.{option_or}
use Rattle.std.specs.Ordering.{nat_cmp, ordering_then}
use Rattle.std.specs.Cmp.Lexicographic.{pointwise, slice_cmp, bytes_decides}
use Rattle.std.specs.declared.cmp.Ordering.TheVariants.{Less}
use Rattle.std.proofs.lemmas.List.{map-append, length-take}
use Rattle.std.proofs.lemmas.List.Elements.{All-nil, All-cons, All-head, All-tail, All-append}
use Rattle.std.proofs.lemmas.List.Kept.{AllPairs-cons}
use Rattle.agg_model.specs.declared.entity.FileKind.TheVariants.{V}
use Rattle.agg_model.specs.declared.entity.Range.{Range}
use Rattle.agg_model.specs.declared.entity.Entity.{Entity}
use Rattle.agg_model.specs.declared.contents.Pair.{Pair}
use Rattle.agg_model.specs.declared.contents.Before.{Before}
use Rattle.agg_model.specs.ChangeList.{ChangeList, IsChangeList}
use Rattle.agg_model.specs.Contents.{v_contents}
use Rattle.agg_model.specs.Pairs.{pair_keys}
use Rattle.content_laws.specs.Looks.{before_in}
use Rattle.content_laws.specs.Parts.{before_over}
use Rattle.collate_step.specs.Groups.{GroupFiles, IsDomain, group_of}
use Rattle.file_numbers.proofs.Numbers.{AreBytes}
use Rattle.word_file.specs.declared.tag.Tag.{Tag}
use Rattle.word_file.specs.Spelling.{TaggedWords}
use Rattle.word_file.specs.Reading.{tagged}
use Rattle.history_core.specs.Befores.{order_of, IsEarlier, IsBefore, AreBefores}
use Rattle.history_core.specs.KeyWord.{key_word, key_in, number_in, words_of}
use Rattle.history_core.specs.VFile.{v_tag, IsFileOf}
use Rattle.history_core.proofs.FileLaws.{v_contents-AreBefores}
use Rattle.history_core.proofs.KeyWords.{length-key_word, key_in-key_word, number_in-key_word, key_word-said}
use Rattle.history_core.proofs.Spelled.{words_of-append}
use Rattle.merge_files.specs.Adjacent.{befores_of}
use Rattle.merge_files.specs.MergedRows.{oldest_of, row_of, row_with, AreRow, RowsPut}
use Rattle.merge_files.specs.Walks.{Item, before_pair, file_pairs, word_order, IsAhead, AreBehind, WordsRise, IsKeyWord, all_keys, item_with, items_left}
use Rattle.merge_files.proofs.Wholes.{befores-groups}
use Rattle.merge_files.proofs.ItemLooks.{all_keys-rise, AreGood, InputsGood, word_by, words_by, item_by, are_some, items-found}

-- ---- in order

module _ (inputs : List (List Pair)) where
  behind-rows : (w : List ℕ) (value : List ℕ) (ws : List (List ℕ)) → AreBehind V w ws → All (IsEarlier (row_with w value)) (map row_of (map (item_with V inputs) ws))
  unfolding word_order order_of
  behind-rows w value [] behind = All-nil (IsEarlier (row_with w value))
  behind-rows w value (v ∷ ws) behind =
      All-cons (IsEarlier (row_with w value)) (row_of (item_with V inputs v)) (map row_of (map (item_with V inputs) ws)) behind.0 (behind-rows w value ws behind.1)

  rows-up : (ws : List (List ℕ)) → WordsRise V ws → AllPairs IsEarlier (map row_of (map (item_with V inputs) ws))
  rows-up [] rise = λ i j d lt within. absurd (omega arith)
  rows-up (w ∷ ws) rise =
      let i = item_with V inputs w in
      AllPairs-cons IsEarlier (row_of i) (map row_of (map (item_with V inputs) ws)) (behind-rows w (oldest_of i.words) ws rise.0) (rows-up ws rise.1)

  pub rows-ascend : AllPairs IsEarlier (map row_of (items_left V inputs))
  rows-ascend = rows-up (all_keys V inputs) (all_keys-rise V inputs)

-- ---- a look for a key and a number

both-true : (t u : Bool) → (t && u) ≡ true → (t ≡ true) × (u ≡ true)
both-true true true is = (refl, refl)
both-true true false is = cc
both-true false u is = cc

module _ (k : List ℕ) (n : ℕ) where
  abbrev is_there : List ℕ → Bool
  is_there w = pointwise nat_eq (key_in w) k && number_in w == n

  one-place : (w v : List ℕ) → IsKeyWord V w → IsKeyWord V v → is_there w ≡ true → is_there v ≡ true → w ≡ v
  one-place w v one other is at =
      let first = both-true (pointwise nat_eq (key_in w) k) (number_in w == n) is in
      let second = both-true (pointwise nat_eq (key_in v) k) (number_in v == n) at in
      let keys : key_in w ≡ key_in v = (bytes_decides (key_in w) k).0 first.0 ∙ sym ((bytes_decides (key_in v) k).0 second.0) in
      let numbers : number_in w ≡ number_in v = eqb-true (number_in w) n first.1 ∙ sym (eqb-true (number_in v) n second.1) in
      one.1 ∙ (λ i. key_word (keys i) (numbers i)) ∙ sym other.1

  rows-found : (items : List Item) → before_in (map row_of items) k n ≡ item_by V is_there oldest_of items
  rows-found [] = refl
  rows-found (i ∷ items) = ap (cond (is_there i.key) (Some (oldest_of i.words))) (rows-found items)

  -- numbers that have their eight bytes
  abbrev pub RowsFit : List Before → Type 0
  RowsFit [] = Unit {0}
  RowsFit (b ∷ bs) = (b.tx < 2 ^ 64) × RowsFit bs

  abbrev pub AllFit : List GroupFiles → Type 0
  AllFit [] = Unit {0}
  AllFit (g ∷ gs) = RowsFit (befores_of g) × AllFit gs

  there-by : (b : Before) → b.tx < 2 ^ 64 → is_there (key_word b.key b.tx) ≡ (pointwise nat_eq b.key k && b.tx == n)
  there-by b fits = λ i. pointwise nat_eq (key_in-key_word b.key b.tx i) k && number_in-key_word b.key b.tx fits i == n

  file-found : (bs : List Before) → RowsFit bs → word_by V is_there (map before_pair bs) ≡ before_in bs k n
  file-found [] fit = refl
  file-found (b ∷ bs) fit = λ i. cond (there-by b fit.0 i) (Some b.value) (file-found bs fit.1 i)

  good-rows : (bs : List Before) → RowsFit bs → AreGood V (pair_keys (map before_pair bs))
  good-rows [] fit = tt
  good-rows (b ∷ bs) fit =
      let key = key_in-key_word b.key b.tx in
      let number = number_in-key_word b.key b.tx fit.0 in
      ((omega (arith, length-key_word b.key b.tx), λ i. key_word (sym key i) (sym number i)), good-rows bs fit.1)

  good-groups : (gs : List GroupFiles) → AllFit gs → InputsGood V (map (file_pairs V) gs)
  good-groups [] fit = tt
  good-groups (g ∷ gs) fit = (good-rows (befores_of g) fit.0, good-groups gs fit.1)

  abbrev first_word : List (List ℕ) → Option (List ℕ)
  first_word [] = None
  first_word (w ∷ ws) = Some w

  first-by : (o p : Option (List ℕ)) (ws : List (List ℕ)) → p ≡ first_word ws → first_word (cons_option o ws) ≡ option_or o p
  first-by None p ws is = sym is
  first-by (Some w) p ws is = refl

  groups-found : (gs : List GroupFiles) → AllFit gs → first_word (words_by V is_there (map (file_pairs V) gs)) ≡ before_over (map befores_of gs) k n
  groups-found [] fit = refl
  groups-found (g ∷ gs) fit =
      first-by (word_by V is_there (map before_pair (befores_of g))) (before_over (map befores_of gs) k n) (words_by V is_there (map (file_pairs V) gs)) (sym (groups-found gs fit.1))
      ∙ ap (λ o. option_or o (before_over (map befores_of gs) k n)) (file-found (befores_of g) fit.0)

  oldest-by : (ws : List (List ℕ)) → cond (are_some V is_there ws) (Some (oldest_of ws)) None ≡ first_word ws
  oldest-by [] = refl
  oldest-by (w ∷ ws) = refl

  pub rows-look : (gs : List GroupFiles) → AllFit gs → before_in (map row_of (items_left V (map (file_pairs V) gs))) k n ≡ before_over (map befores_of gs) k n
  rows-look gs fit =
      let inputs = map (file_pairs V) gs in
      rows-found (items_left V inputs) ∙ items-found V is_there one-place oldest_of inputs (good-groups gs fit)
      ∙ oldest-by (words_by V is_there inputs) ∙ groups-found gs fit

-- ---- item by item

pub rows-none : (old : TaggedWords) → RowsPut old old []
rows-none old = record { words = λ i. tagged old.tag (sym (append-nil old.words) i); fit = All-nil (IsBefore old.tag) }

rows-both : (one two three : TaggedWords) (bs cs : List Before) → RowsPut one two bs → RowsPut two three cs → RowsPut one three (bs ++ cs)
rows-both one two three bs cs first second = record {
  words = second.words ∙ (λ i. tagged (first.words i).tag ((first.words i).words ++ words_of cs))
      ∙ (λ i. tagged one.tag ((append_assoc one.words (words_of bs) (words_of cs) ∙ ap (λ ws. one.words ++ ws) (sym (words_of-append bs cs))) i));
  fit = All-append (IsBefore one.tag) bs cs first.fit (subst (λ (w : TaggedWords). All (IsBefore w.tag) cs) first.words second.fit);
}

pub rows-more : (whole left rest : List Item) (one two three : TaggedWords) (bs : List Before) (i : Item) → left ≡ i ∷ rest → bs ++ map row_of left ≡ map row_of whole
    → RowsPut one two bs → RowsPut two three (row_of i ∷ []) → RowsPut one three (bs ++ row_of i ∷ []) × ((bs ++ row_of i ∷ []) ++ map row_of rest ≡ map row_of whole)
rows-more whole left rest one two three bs i is before first second = (
  rows-both one two three bs (row_of i ∷ []) first second,
  append_assoc bs (row_of i ∷ []) (map row_of rest) ∙ (λ j. bs ++ map row_of (sym is j)) ∙ before,
)

module _ (tag : Tag) (word value : List ℕ) (are : AreRow tag word value) where
  pub row-short : length word < 2 ^ 32
  unfolding key_in
  row-short =
      let h = are.fits.lengths.key_within in
      omega (arith, h, length-take (length word - 8) word)

  pub row-put : (old one two : TaggedWords) → old.tag ≡ tag → AreBytes word → one ≡ tagged old.tag (old.words ++ word ∷ []) → two ≡ tagged one.tag (one.words ++ value ∷ [])
      → RowsPut old two (row_with word value ∷ [])
  row-put old one two is bytes first second = record {
    words = second ∙ (λ i. tagged (first i).tag ((first i).words ++ value ∷ []))
        ∙ (λ i. tagged old.tag ((append_assoc old.words (word ∷ []) (value ∷ []) ∙ (λ j. old.words ++ sym (key_word-said word are.long bytes) j ∷ value ∷ [])) i));
    fit = All-cons (IsBefore old.tag) (row_with word value) [] (subst (λ t. IsBefore t (row_with word value)) (sym is) are.fits) (All-nil (IsBefore old.tag));
  }

pub row-same : (old two : TaggedWords) (word value key other : List ℕ) → word ≡ key → value ≡ other → RowsPut old two (row_with word value ∷ []) → RowsPut old two (row_with key other ∷ [])
row-same old two word value key other is at put = subst (λ (b : Before). RowsPut old two (b ∷ [])) (λ i. row_with (is i) (at i)) put

-- ---- the rows of a list's groups have their numbers

abbrev befores_first : List (List Before) → List Before
befores_first [] = []
befores_first (bs ∷ bss) = bs

contents-fit : (bs : List Before) (tag : Tag) → All (IsBefore tag) bs → (k : List ℕ) (n : ℕ) → RowsFit k n bs
contents-fit [] tag fit k n = tt
contents-fit (b ∷ bs) tag fit k n =
    ((All-head (IsBefore tag) b bs fit).number.fits, contents-fit bs tag (All-tail (IsBefore tag) b bs fit) k n)

pub groups-fit : (list : ChangeList) (e : Entity) (valid : IsChangeList list) (domain : IsDomain e) (ranges : List Range) (k : List ℕ) (n : ℕ) → AllFit k n (map (group_of list e) ranges)
groups-fit list e valid domain [] k n = tt
groups-fit list e valid domain (r ∷ ranges) k n =
    let rows : befores_of (group_of list e r) ≡ v_contents list.size list.changes e r.from r.to = ap (λ bss. befores_first bss) (befores-groups list e (r ∷ []) domain) in (
      subst (RowsFit k n) (sym rows) (contents-fit (v_contents list.size list.changes e r.from r.to) (v_tag e list.size r.from r.to) (v_contents-AreBefores list e r.from r.to valid).fit k n),
      groups-fit list e valid domain ranges k n,
    )

-- ---- the file of the rows

pub rows-file : (inputs : List (List Pair)) (tag : Tag) (begun done file : TaggedWords) → begun ≡ tagged tag [] → file ≡ done → RowsPut begun done (map row_of (items_left V inputs))
    → IsFileOf file (map row_of (items_left V inputs))
rows-file inputs tag begun done file new is put =
    let rows = map row_of (items_left V inputs) in
    let same : file ≡ tagged begun.tag (begun.words ++ words_of rows) = is ∙ put.words in
    record {
      are = record {
        ascend = rows-ascend inputs;
        fit = subst (λ (w : TaggedWords). All (IsBefore w.tag) rows) (sym same) put.fit;
      };
      words_are = ap (λ (w : TaggedWords). w.words) same ∙ ap (λ (w : TaggedWords). w.words ++ words_of rows) new;
    }
