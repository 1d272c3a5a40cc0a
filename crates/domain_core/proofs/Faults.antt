-- Where the files of a tag are refused, one after the other.
use Rattle.std.proofs.Common.{◌≡◌, ℕ, List, Option, Some, None, refl, sym, ap, ◌∙◌, subst}
use Rattle.std.specs.Prelude.{Result, Ok, Err}
use Rattle.std.specs.Option.{option_map, option_or}
use Rattle.agg_model.specs.declared.entity.FileKind.{FileKind}
use Rattle.agg_model.specs.declared.entity.FileKind.TheVariants.{Kv, Bt, Kvi}
use Rattle.word_file.specs.declared.tag.Tag.{Tag}
use Rattle.word_file.specs.Spelling.{TaggedWords, spelling}
use Rattle.word_file.specs.Reading.{tagged}
use Rattle.word_file.specs.Paired.{key_offsets}
use Rattle.word_file.specs.Difference.{first_difference}
use Rattle.word_file.proofs.Differences.{first_difference-same}
use Rattle.btree_index.specs.Levels as btree
use Rattle.hashed_words.specs.declared.error.FileError.{FileError}
use Rattle.hashed_words.specs.declared.error.FileError.TheVariants.{Bad}
use Rattle.hashed_words.specs.Hashed.{accessor_bytes}
use Rattle.hashed_words.specs.Faults.{opened, named, fault_behind, hash_fault}
use Rattle.domain_core.specs.KvFile.{TaggedPairs, tagged_pairs, words_of, pairs_in, kv_spelling, bt_spelling, kvi_spelling, ArePairWords, AreFilesOf}
use Rattle.domain_core.specs.KvRules.{kv_rules, bt_fault, kv_fault}
use Rattle.domain_core.proofs.Held.{held_spelling, held_bt, held_kvi}

pub Err-same : {A : Type 0} (x y : FileError) → ◌≡◌ {A = Result A FileError} (Err x) (Err y) → x ≡ y
Err-same x y e = cc

pub Ok-same : {A : Type 0} (x y : A) → ◌≡◌ {A = Result A FileError} (Ok x) (Ok y) → x ≡ y
Ok-same x y e = cc

pub not_both : {A : Type 0} (x : FileError) (y : A) → ◌≡◌ {A = Result A FileError} (Err x) (Ok y) → ⊥
not_both x y e = cc

behind_err : (others : TaggedWords → Option FileError) (error : FileError) (r : Result TaggedWords ℕ) → Err error ≡ named Kv r → fault_behind Kv others r ≡ Some error
behind_err others error (Err at) e = ap (λ x. Some x) (sym (Err-same error (Bad Kv at) e))
behind_err others error (Ok f) e = absurd (not_both error f e)

behind_ok : (others : TaggedWords → Option FileError) (f : TaggedWords) (r : Result TaggedWords ℕ) → Ok f ≡ named Kv r → fault_behind Kv others r ≡ others f
behind_ok others f (Err at) e = absurd (not_both (Bad Kv at) f (sym e))
behind_ok others f (Ok g) e = ap others (sym (Ok-same f g e))

module _ (tag : Tag) (kv bt kvi : List ℕ) where
  pub words_fault : (error : FileError) → Err error ≡ named Kv (opened kv_rules tag kv) → kv_fault tag kv bt kvi ≡ Some error
  unfolding kv_fault
  words_fault error e =
      behind_err (λ f. option_or (bt_fault bt f) (hash_fault Kvi kvi f)) error (opened kv_rules tag kv) e

  module _ (f : TaggedWords) (is : Ok f ≡ named Kv (opened kv_rules tag kv)) where
    other_fault : kv_fault tag kv bt kvi ≡ option_or (bt_fault bt f) (hash_fault Kvi kvi f)
    unfolding kv_fault
    other_fault =
        behind_ok (λ f. option_or (bt_fault bt f) (hash_fault Kvi kvi f)) f (opened kv_rules tag kv) is

    pub btree_fault : (error : FileError) → bt_fault bt f ≡ Some error → kv_fault tag kv bt kvi ≡ Some error
    btree_fault error e = other_fault ∙ ap (λ o. option_or o (hash_fault Kvi kvi f)) e

    pub index_fault : bt ≡ btree.spelling (key_offsets f.words) → (kind : FileKind) (at : ℕ) → kind ≡ Kvi → first_difference kvi (accessor_bytes f.words) ≡ Some at → kv_fault tag kv bt kvi ≡ Some (Bad kind at)
    index_fault same kind at kind_is e =
        let text = btree.spelling (key_offsets f.words) in
        let none : bt_fault bt f ≡ None = ap (λ b. option_map (Bad Bt) (first_difference b text)) same ∙ ap (option_map (Bad Bt)) (first_difference-same text) in
        other_fault
        ∙ ap (λ o. option_or o (hash_fault Kvi kvi f)) none
        ∙ ap (option_map (Bad Kvi)) e
        ∙ ap (λ k. Some (Bad k at)) (sym kind_is)

  pub files_found : (f : TaggedWords) → ArePairWords f.words → f.tag ≡ tag → kv ≡ spelling f → bt ≡ btree.spelling (key_offsets f.words) → kvi ≡ accessor_bytes f.words → AreFilesOf tag kv bt kvi (tagged_pairs f.tag (pairs_in f.words))
  files_found f h tag_is kv_is bt_is kvi_is = record {
    tag_is = tag_is;
    pairs_are = h.are;
    kv_is = kv_is ∙ held_spelling f h;
    bt_is = bt_is ∙ held_bt f h;
    kvi_is = kvi_is ∙ held_kvi f h;
  }

  module _ (file : TaggedPairs) (are : AreFilesOf tag kv bt kvi file) where
    pub kv_text : kv ≡ spelling (tagged tag (words_of file.pairs))
    unfolding kv_spelling
    kv_text = are.kv_is ∙ ap (λ t. spelling (tagged t (words_of file.pairs))) are.tag_is

    pub bt_text : (f : TaggedWords) → f ≡ tagged tag (words_of file.pairs) → bt ≡ btree.spelling (key_offsets f.words)
    unfolding bt_spelling
    bt_text f is = are.bt_is ∙ ap (λ (f : TaggedWords). btree.spelling (key_offsets f.words)) (sym is)

    pub kvi_text : (f : TaggedWords) → f ≡ tagged tag (words_of file.pairs) → kvi ≡ accessor_bytes f.words
    unfolding kvi_spelling
    kvi_text f is = are.kvi_is ∙ ap (λ (f : TaggedWords). accessor_bytes f.words) (sym is)
