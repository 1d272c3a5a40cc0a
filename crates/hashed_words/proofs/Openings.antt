-- What a file of words is refused for, step by step.
use Rattle.std.proofs.Common.{◌≡◌, ℕ, ◌<◌, ◌^◌, Bool, true, false, cond, nat_eq, eqb-true, rules, List, length, Option, Some, None, refl, sym, ap, ◌∙◌, arith, subst}
use Rattle.std.specs.Prelude.{Result, Ok, Err}
use Rattle.std.specs.Option.{option_map, option_or}
use Rattle.agg_model.specs.declared.entity.FileKind.{FileKind}
use Rattle.word_file.specs.declared.tag.Tag.{Tag}
use Rattle.word_file.specs.declared.error.WordError.{WordError}
use Rattle.word_file.specs.Spelling.{TaggedWords, IsTag, AreShort, Fits, spelling, offset_at, end_of}
use Rattle.word_file.specs.Reading.{checked}
use Rattle.word_file.specs.Paired.{IsPaired}
use Rattle.word_file.proofs.Bodies.{length-body}
use Rattle.hashed_words.specs.declared.error.FileError.TheVariants.{Bad}
use Rattle.hashed_words.specs.Rules.{Rules, bad_place}
use Rattle.hashed_words.specs.Faults.{word_fault, tag_difference, rule_fault, ok_unless, judged, opened, named}
use Rattle.hashed_words.proofs.Walks.{stand_paired, length-spelling}

module _ (r : Rules) (kind : FileKind) (tag : Tag) (bytes : List ℕ) where
  pub no_words : (e : WordError) → checked bytes ≡ Err e → Err (Bad kind (word_fault e)) ≡ named kind (opened r tag bytes)
  unfolding opened
  no_words e is = ap (λ x. named kind (judged r tag x)) (sym is)

  module _ (f : TaggedWords) (is : checked bytes ≡ Ok f) where
    by_fault : (o : Option ℕ) → option_or (tag_difference f.tag tag) (rule_fault r f) ≡ o → named kind (ok_unless f o) ≡ named kind (opened r tag bytes)
    unfolding opened
    by_fault o e = ap (λ o. named kind (ok_unless f o)) (sym e) ∙ ap (λ x. named kind (judged r tag x)) (sym is)

    pub other_tag : (at : ℕ) → tag_difference f.tag tag ≡ Some at → Err (Bad kind at) ≡ named kind (opened r tag bytes)
    other_tag at e = by_fault (Some at) (ap (λ o. option_or o (rule_fault r f)) e)

    pub bad_word : (o : Option ℕ) → tag_difference f.tag tag ≡ None → o ≡ rule_fault r f → named kind (ok_unless f o) ≡ named kind (opened r tag bytes)
    bad_word o e fault = by_fault o (ap (λ o. option_or o (rule_fault r f)) e ∙ sym fault)

    pub all_stands : tag_difference f.tag tag ≡ None → None ≡ rule_fault r f → Ok f ≡ named kind (opened r tag bytes)
    all_stands e fault = bad_word None e fault

pub no_fault : (r : Rules) (f : TaggedWords) (o : Option ℕ) → bad_place r f.words ≡ o → None ≡ option_map (offset_at f.words) o → bad_place r f.words ≡ None
no_fault r f None is e = is
no_fault r f (Some at) is e = absurd cc

pub paired_of : (r : Rules) (f : TaggedWords) → bad_place r f.words ≡ None → IsPaired f.words
paired_of r f e = let twice = stand_paired r None 0 0 f.words e in omega (arith, twice.1)

-- ---- tags

same_at : (x y : ℕ) (a b : Option ℕ) (at : ℕ) → b ≡ Some at → cond (nat_eq x y) a b ≡ None → (x ≡ y) × (a ≡ None)
same_at x y a b at other e = by_test (nat_eq x y) refl
  where
    by_test : (t : Bool) → nat_eq x y ≡ t → (x ≡ y) × (a ≡ None)
    by_test true t = (eqb-true x y t, sym (ap (λ t. cond t a b) t) ∙ e)
    by_test false t = let no : Some at ≡ None = sym (ap (λ t. cond t a b) t ∙ other) ∙ e in absurd cc

pub same_tag : (said asked : Tag) → tag_difference said asked ≡ None → said ≡ asked
unfolding tag_difference
same_tag said asked e =
    let entity = same_at said.entity asked.entity _ _ 4 refl e in
    let kind = same_at said.kind asked.kind _ _ 5 refl entity.1 in
    let version = same_at said.version asked.version _ _ 6 refl kind.1 in
    let step = same_at said.step asked.step _ _ 8 refl version.1 in
    let from = same_at said.from asked.from _ _ 16 refl step.1 in
    let to = same_at said.to asked.to _ _ 24 refl from.1 in
    λ i. record { entity = entity.0 i; kind = kind.0 i; version = version.0 i; step = step.0 i; from = from.0 i; to = to.0 i }

eq_self : (n : ℕ) → nat_eq n n ≡ true
eq_self n = search rules

pub tag_difference-self : (tag : Tag) → tag_difference tag tag ≡ None
unfolding tag_difference
tag_difference-self tag = rw (eq_self tag.entity, eq_self tag.kind, eq_self tag.version, eq_self tag.step, eq_self tag.from, eq_self tag.to) refl

-- ---- what is spelled so fits

pub fits_of : (f : TaggedWords) (tag : Tag) (bytes : List ℕ) → IsTag tag → f.tag ≡ tag → AreShort f.words → bytes ≡ spelling f → length bytes < 2 ^ 64 → Fits f
unfolding end_of
fits_of f tag bytes is_tag tag_is short is fits = record {
  tag = subst IsTag (sym tag_is) is_tag;
  count = omega (arith, length-body f.words, length-spelling f, ap length is);
  words = short;
}

Ok-same : {A B : Type 0} (x y : A) → ◌≡◌ {A = Result A B} (Ok x) (Ok y) → x ≡ y
Ok-same x y e = cc

-- a file that is spelled so isn't refused for its tag, nor for a word
pub tag_refused : (f words : TaggedWords) (tag said : Tag) (at : ℕ) (E : Type 0) → ◌≡◌ {A = Result TaggedWords E} (Ok words) (Ok f) → f.tag ≡ tag → said ≡ words.tag → Some at ≡ tag_difference said tag → ⊥
tag_refused f words tag said at E is tag_is said_is e =
    let same : words ≡ f = Ok-same words f is in
    let none : Some at ≡ None = e ∙ ap (λ t. tag_difference t tag) (said_is ∙ ap (λ (f : TaggedWords). f.tag) same ∙ tag_is) ∙ tag_difference-self tag in
    absurd cc

pub word_refused : (r : Rules) (f words : TaggedWords) (at : ℕ) (E : Type 0) → ◌≡◌ {A = Result TaggedWords E} (Ok words) (Ok f) → bad_place r f.words ≡ None → Some at ≡ rule_fault r words → ⊥
word_refused r f words at E is stands e =
    let same : words ≡ f = Ok-same words f is in
    let none : Some at ≡ None = e ∙ ap (rule_fault r) same ∙ ap (option_map (offset_at f.words)) stands in
    absurd cc

pub not_accepted : (e : WordError) (f : TaggedWords) → ◌≡◌ {A = Result TaggedWords WordError} (Err e) (Ok f) → ⊥
not_accepted e f is = cc
