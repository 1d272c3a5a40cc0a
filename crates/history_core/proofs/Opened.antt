-- What is known of files that are opened.
use Rattle.std.proofs.Common.{◌≡◌, ℕ, List, Some, None, refl, sym, ap, ◌∙◌, subst}
use Rattle.std.specs.Prelude.{Result, Ok, Err, IfOk}
use Rattle.std.specs.Option.{option_map}
use Rattle.agg_model.specs.declared.entity.FileKind.{FileKind}
use Rattle.agg_model.specs.declared.entity.FileKind.TheVariants.{V, Vi}
use Rattle.word_file.specs.declared.tag.Tag.{Tag}
use Rattle.file_numbers.proofs.Numbers.{AreBytes}
use Rattle.word_file.specs.Spelling.{TaggedWords, spelling}
use Rattle.word_file.specs.Difference.{first_difference}
use Rattle.hashed_words.specs.declared.error.FileError.{FileError}
use Rattle.hashed_words.specs.declared.error.FileError.TheVariants.{Bad}
use Rattle.hashed_words.specs.Rules.{bad_place}
use Rattle.hashed_words.specs.Faults.{opened, named, fault_behind, hash_fault}
use Rattle.hashed_words.specs.Hashed.{accessor_bytes}
use Rattle.history_core.specs.Befores.{AreBefores}
use Rattle.history_core.specs.KeyWord.{befores_in}
use Rattle.history_core.specs.Rules.{v_rules}
use Rattle.history_core.specs.VFile.{IsHeld, file_fault}
use Rattle.history_core.proofs.WordBytes.{words_bytes}
use Rattle.history_core.proofs.Checked.{words_keep}

-- words that keep the rules are held
pub opened_held : (tag : Tag) (bytes : List ℕ) (f : TaggedWords) → AreBytes bytes → f.tag ≡ tag → bytes ≡ spelling f → bad_place (v_rules tag) f.words ≡ None → IsHeld f
opened_held tag bytes f fits tag_is found keeps =
    let held = words_keep tag f.words (words_bytes f (subst AreBytes found fits)) keeps in
    record { are = subst (λ tag. AreBefores tag (befores_in f.words)) (sym tag_is) held.0; words_are = held.1 }

pub all_three : {E : Type 0} (r : Result TaggedWords E) (P Q R S : TaggedWords → Type 0) → ((f : TaggedWords) → P f → Q f → R f → S f) → IfOk r P → IfOk r Q → IfOk r R → IfOk r S
all_three (Ok f) P Q R S g p q r = g f p q r
all_three (Err e) P Q R S g p q r = tt

pub err_same : {T : Type 0} (x y : FileError) → ◌≡◌ {A = Result T FileError} (Err x) (Err y) → x ≡ y
err_same x y e = cc

pub err_ok : (x : FileError) (f : TaggedWords) → ◌≡◌ {A = Result TaggedWords FileError} (Err x) (Ok f) → ⊥
err_ok x f e = cc

pub ok_same : (f g : TaggedWords) → ◌≡◌ {A = Result TaggedWords FileError} (Ok f) (Ok g) → f ≡ g
ok_same f g e = cc

-- the fault of the words
pub fault_of_words : (tag : Tag) (v vi : List ℕ) (e : FileError) → Err e ≡ named V (opened (v_rules tag) tag v) → (kind : FileKind) (at : ℕ) → e ≡ Bad kind at → file_fault tag v vi ≡ Some (Bad kind at)
unfolding file_fault
fault_of_words tag v vi e exact kind at is = by_opened (opened (v_rules tag) tag v) refl
  where
    by_opened : (r : Result TaggedWords ℕ) → opened (v_rules tag) tag v ≡ r → fault_behind V (hash_fault Vi vi) (opened (v_rules tag) tag v) ≡ Some (Bad kind at)
    by_opened (Err place) same =
        ap (fault_behind V (hash_fault Vi vi)) same
        ∙ ap (λ e. Some e) (sym (err_same e (Bad V place) (exact ∙ ap (named V) same)) ∙ is)
    by_opened (Ok f) same = absurd (err_ok e f (exact ∙ ap (named V) same))

-- the fault of the accessor, where the words are right
pub fault_of_accessor : (tag : Tag) (v vi : List ℕ) (f : TaggedWords) → Ok f ≡ named V (opened (v_rules tag) tag v) → (at : ℕ) → first_difference vi (accessor_bytes f.words) ≡ Some at → file_fault tag v vi ≡ Some (Bad Vi at)
unfolding file_fault
fault_of_accessor tag v vi f exact at differs = by_opened (opened (v_rules tag) tag v) refl
  where
    by_opened : (r : Result TaggedWords ℕ) → opened (v_rules tag) tag v ≡ r → fault_behind V (hash_fault Vi vi) (opened (v_rules tag) tag v) ≡ Some (Bad Vi at)
    by_opened (Err place) same = absurd (err_ok (Bad V place) f (sym (exact ∙ ap (named V) same)))
    by_opened (Ok g) same =
        let here = ok_same f g (exact ∙ ap (named V) same) in
        ap (fault_behind V (hash_fault Vi vi)) same
        ∙ ap (hash_fault Vi vi) (sym here)
        ∙ ap (option_map (Bad Vi)) differs
