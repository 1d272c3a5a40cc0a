-- What files are accepted for, and refused for.
use Rattle.std.proofs.Common.{◌≡◌, ℕ, List, length, Option, Some, None, Result, Ok, Err, refl, sym, ap, ◌∙◌, subst}
use Rattle.std.specs.Prelude.{IsErrAnd, MatchResult}
use Rattle.std.specs.Option.{option_map}
use Rattle.agg_model.specs.declared.entity.FileKind.{FileKind}
use Rattle.agg_model.specs.declared.entity.FileKind.TheVariants.{Ef, Efi}
use Rattle.agg_model.specs.declared.contents.Times.{Times}
use Rattle.word_file.specs.declared.tag.Tag.{Tag}
use Rattle.word_file.specs.Spelling.{TaggedWords, spelling, AreShort}
use Rattle.word_file.specs.Reading.{tagged}
use Rattle.word_file.specs.Difference.{first_difference}
use Rattle.word_file.proofs.Differences.{first_difference-same}
use Rattle.hashed_words.specs.declared.error.FileError.{FileError}
use Rattle.hashed_words.specs.declared.error.FileError.TheVariants.{Bad, Memory as NoMemory}
use Rattle.hashed_words.specs.Rules.{bad_place}
use Rattle.hashed_words.specs.Faults.{opened, named, fault_behind, hash_fault}
use Rattle.hashed_words.specs.Hashed.{accessor_bytes}
use Rattle.inverted_index.specs.EfFile.{TaggedLists, AreLists, IsHeld, tagged_lists, words_of, lists_in, ef_spelling, efi_spelling}
use Rattle.inverted_index.specs.EfRules.{ef_rules, fault_of}
use Rattle.inverted_index.proofs.ListWords.{short_words, few-each, lists_again}
use Rattle.inverted_index.proofs.RuleLaws.{no_bad_place}

-- ---- the bytes of what is held

pub held_spelling : (f : TaggedWords) → IsHeld f → spelling f ≡ ef_spelling (tagged_lists f.tag (lists_in f.words))
unfolding ef_spelling
held_spelling f h = ap (λ (ws : List (List ℕ)). spelling (tagged f.tag ws)) h.words

pub held_accessor : (f : TaggedWords) → IsHeld f → accessor_bytes f.words ≡ efi_spelling (tagged_lists f.tag (lists_in f.words))
unfolding efi_spelling
held_accessor f h = ap accessor_bytes h.words

-- the same where the words are known by another name
module _ (held f : TaggedWords) (is : held ≡ f) (h : IsHeld f) where
  pub seen_spelling : spelling f ≡ ef_spelling (tagged_lists held.tag (lists_in held.words))
  seen_spelling =
      held_spelling f h ∙ ap (λ (w : TaggedWords). ef_spelling (tagged_lists w.tag (lists_in w.words))) (sym is)

  pub seen_accessor : accessor_bytes f.words ≡ efi_spelling (tagged_lists held.tag (lists_in held.words))
  seen_accessor =
      held_accessor f h ∙ ap (λ (w : TaggedWords). efi_spelling (tagged_lists w.tag (lists_in w.words))) (sym is)

  pub seen_lists : (tag : Tag) → f.tag ≡ tag → AreLists tag (lists_in held.words)
  seen_lists tag same =
      subst (λ (w : TaggedWords). AreLists tag (lists_in w.words)) (sym is)
      (subst (λ (t : Tag). AreLists t (lists_in f.words)) same h.lists)

-- ---- errors that are handed on

error_is : {T : Type 0} (q : Result T FileError) (e x : FileError) → IsErrAnd q (λ y. y ≡ e) → q ≡ Err x → e ≡ x
error_is (Ok v) e x h was = absurd h
error_is (Err y) e x h was = let same : y ≡ x = cc in sym h ∙ same

pub was_that : (r : Result TaggedWords FileError) (q : Result TaggedLists FileError) (e x : FileError) → r ≡ Err e → IsErrAnd q (λ y. y ≡ e) → q ≡ Err x → r ≡ Err x
was_that r q e x was h that =
    let P : FileError → Type 0 = λ y. r ≡ Err y in
    subst P (error_is q e x h that) was

pub no_memory : (q : Result TaggedLists FileError) (P : TaggedLists → Type 0) (e : FileError) → IsErrAnd q (λ y. y ≡ e) → e ≡ NoMemory → MatchResult q P (λ y. y ≡ NoMemory)
no_memory (Ok v) P e h is = absurd h
no_memory (Err y) P e h is = h ∙ is

-- ---- which fault it is

named_err : (efi : List ℕ) (r : Result TaggedWords ℕ) (e : FileError) → named Ef r ≡ Err e → fault_behind Ef (hash_fault Efi efi) r ≡ Some e
named_err efi (Err at) e h = let same : Bad Ef at ≡ e = cc in ap (λ (x : FileError). Some x) same
named_err efi (Ok f) e h = absurd cc

named_ok : (r : Result TaggedWords ℕ) (f : TaggedWords) → named Ef r ≡ Ok f → r ≡ Ok f
named_ok (Err at) f h = absurd cc
named_ok (Ok g) f h = let same : g ≡ f = cc in ap (λ (x : TaggedWords). Ok x) same

module _ (tag : Tag) (ef efi : List ℕ) (r : Result TaggedWords FileError) (exact : r ≡ named Ef (opened (ef_rules tag) tag ef)) where
  pub refused_words : (e : FileError) → r ≡ Err e → fault_of tag ef efi ≡ Some e
  unfolding fault_of
  refused_words e was = named_err efi (opened (ef_rules tag) tag ef) e (sym exact ∙ was)

  pub refused_accessor : (f : TaggedWords) (kind : FileKind) (at : ℕ) → r ≡ Ok f → kind ≡ Efi → first_difference efi (accessor_bytes f.words) ≡ Some at → fault_of tag ef efi ≡ Some (Bad kind at)
  unfolding fault_of
  refused_accessor f kind at was is differs =
      ap (fault_behind Ef (hash_fault Efi efi)) (named_ok (opened (ef_rules tag) tag ef) f (sym exact ∙ was))
      ∙ ap (option_map (Bad Efi)) differs
      ∙ ap (λ (k : FileKind). Some (Bad k at)) (sym is)

  pub accepted : (f : TaggedWords) → r ≡ Ok f → efi ≡ accessor_bytes f.words → fault_of tag ef efi ≡ None
  unfolding fault_of
  accepted f was same =
      ap (fault_behind Ef (hash_fault Efi efi)) (named_ok (opened (ef_rules tag) tag ef) f (sym exact ∙ was))
      ∙ ap (option_map (Bad Efi)) (ap (λ (b : List ℕ). first_difference b (accessor_bytes f.words)) same ∙ first_difference-same (accessor_bytes f.words))

-- ---- the bytes of lists are accepted

ok_is : (f g : TaggedWords) → ◌≡◌ {A = Result TaggedWords FileError} (Ok f) (Ok g) → f ≡ g
ok_is f g h = cc

module _ (tag : Tag) (ts : List Times) (are : AreLists tag ts) (ef : List ℕ) (same : ef ≡ ef_spelling (tagged_lists tag ts)) where
  pub spelled_words : ef ≡ spelling (tagged tag (words_of ts))
  unfolding ef_spelling
  spelled_words = same

  pub words_short : AreShort (words_of ts)
  words_short = short_words tag ts are.fit (few-each ts are.few)

  pub words_keep : bad_place (ef_rules tag) (words_of ts) ≡ None
  words_keep = no_bad_place tag ts are

  -- what opening gives is the words of the lists
  pub words_are : (r : Result TaggedWords FileError) → ((f : TaggedWords) → f.tag ≡ tag → AreShort f.words → ef ≡ spelling f → bad_place (ef_rules tag) f.words ≡ None → r ≡ Ok f) → r ≡ Ok (tagged tag (words_of ts))
  words_are r only = only (tagged tag (words_of ts)) refl words_short spelled_words words_keep

  pub words_never_refused : (r : Result TaggedWords FileError) (e : FileError) → ((f : TaggedWords) → f.tag ≡ tag → AreShort f.words → ef ≡ spelling f → bad_place (ef_rules tag) f.words ≡ None → r ≡ Ok f) → r ≡ Err e → ⊥
  words_never_refused r e only was = no (sym was ∙ words_are r only)
    where
      no : {f : TaggedWords} → Err e ≡ Ok f → ⊥
      no h = cc

  pub words_those : (r : Result TaggedWords FileError) (f : TaggedWords) → ((g : TaggedWords) → g.tag ≡ tag → AreShort g.words → ef ≡ spelling g → bad_place (ef_rules tag) g.words ≡ None → r ≡ Ok g) → r ≡ Ok f → f ≡ tagged tag (words_of ts)
  words_those r f only was = ok_is f (tagged tag (words_of ts)) (sym was ∙ words_are r only)

  pub accessor_those : (f : TaggedWords) (efi : List ℕ) → f ≡ tagged tag (words_of ts) → efi ≡ efi_spelling (tagged_lists tag ts) → efi ≡ accessor_bytes f.words
  unfolding efi_spelling
  accessor_those f efi is e = e ∙ ap (λ (g : TaggedWords). accessor_bytes g.words) (sym is)

  pub lists_those : (f : TaggedWords) → f ≡ tagged tag (words_of ts) → tagged_lists f.tag (lists_in f.words) ≡ tagged_lists tag ts
  lists_those f is = ap (λ (g : TaggedWords). tagged_lists g.tag (lists_in g.words)) is ∙ ap (tagged_lists tag) (lists_again tag ts are)
