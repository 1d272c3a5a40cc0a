-- Words that keep the rules are those of lists, and the other way round.
use Rattle.std.proofs.Common.{◌≡◌, ℕ, ◌+◌, ◌<◌, ◌^◌, Bool, true, false, cond, nat_lt, List, [], ◌∷◌, length, Option, Some, None, refl, sym, ap, ◌∙◌, arith, subst, lt-ltb, ltb-true}
use Rattle.std.specs.Prelude.{All}
use Rattle.std.proofs.lemmas.List.Elements.{All-nil, All-cons, All-head, All-tail}
use Rattle.std.proofs.lemmas.List.Sums.{sum_by-cons}
use Rattle.agg_model.specs.declared.contents.Times.{Times}
use Rattle.agg_model.specs.Pairs.{IsBelow, KeysAscend}
use Rattle.elias_fano.specs.Spelling.{spelling}
use Rattle.word_file.specs.declared.tag.Tag.{Tag}
use Rattle.word_file.specs.Spelling.{TaggedWords}
use Rattle.hashed_words.specs.Rules.{behind_value, bad_from, bad_place}
use Rattle.hashed_words.specs.PlainKeys.{is_plain_key}
use Rattle.inverted_index.specs.EfFile.{IsTimes, AreLists, AreWordsOf, list_keys, number_count, words_of, lists_in, numbers_in}
use Rattle.inverted_index.specs.EfRules.{is_text, count_text, ef_rules}
use Rattle.hashed_words.proofs.KeyTests.{AllAbove, above_none, plain-short, plain-above, plain-test}
use Rattle.inverted_index.proofs.TextLaws.{listable, numbers_in-spelling, is_text-true, is_text-spelling}
use Rattle.inverted_index.proofs.ListWords.{IsFew, few-each}

-- ---- one pair

record Stands (plain : Bool) (o : Option ℕ) (go_on : ℕ → Option ℕ) : Type 0 where
  plain_is : plain ≡ true
  sum : ℕ
  sum_is : o ≡ Some sum
  rest : go_on sum ≡ None

stands-by : (b : Bool) (o : Option ℕ) (go_on : ℕ → Option ℕ) (behind here : ℕ) → cond b (behind_value behind go_on o) (Some here) ≡ None → Stands b o go_on
stands-by true None go_on behind here e = absurd cc
stands-by true (Some sum) go_on behind here e = record { plain_is = refl; sum = sum; sum_is = refl; rest = e }
stands-by false o go_on behind here e = absurd cc

stands-from : (b : Bool) (o : Option ℕ) (go_on : ℕ → Option ℕ) (behind here sum : ℕ) → b ≡ true → o ≡ Some sum → go_on sum ≡ None → cond b (behind_value behind go_on o) (Some here) ≡ None
stands-from true None go_on behind here sum e f rest = absurd cc
stands-from true (Some s) go_on behind here sum e f rest = let same : s ≡ sum = cc in ap go_on same ∙ rest
stands-from false o go_on behind here sum e f rest = absurd cc

never : (b : Bool) (x y : ℕ) → cond b (Some x) (Some y) ≡ None → ⊥
never true x y e = cc
never false x y e = cc

pub record IsCounted (b : Bool) (counted more sum : ℕ) : Type 0 where
  pub is : b ≡ true
  pub total : sum ≡ counted + more
  pub few : counted + more < 2 ^ 23

pub counted-by : (b c : Bool) (counted more sum : ℕ) → nat_lt (counted + more) (2 ^ 23) ≡ c → cond b (cond c (Some (counted + more)) None) None ≡ Some sum → IsCounted b counted more sum
counted-by true true counted more sum lt e = record { is = refl; total = let same : counted + more ≡ sum = cc in sym same; few = ltb-true (counted + more) (2 ^ 23) lt }
counted-by true false counted more sum lt e = absurd cc
counted-by false c counted more sum lt e = absurd cc

pub count-by : (b c : Bool) (m : ℕ) → b ≡ true → c ≡ true → cond b (cond c (Some m) None) None ≡ Some m
count-by true true m e f = refl
count-by true false m e f = absurd cc
count-by false c m e f = absurd cc

count_text-is : (tag : Tag) (counted : ℕ) (text : List ℕ) (n : ℕ) → is_text tag text ≡ true → length (numbers_in text) ≡ n → counted + n < 2 ^ 23 → count_text tag counted text ≡ Some (counted + n)
count_text-is tag counted text n is len few =
    ap (λ (k : ℕ). cond (is_text tag text) (cond (nat_lt (counted + k) (2 ^ 23)) (Some (counted + k)) None) None) len
    ∙ count-by (is_text tag text) (nat_lt (counted + n) (2 ^ 23)) (counted + n) is (lt-ltb (counted + n) (2 ^ 23) few)

-- ---- words that keep the rules

record IsKept (tag : Tag) (last : Option (List ℕ)) (counted : ℕ) (words : List (List ℕ)) : Type 0 where
  words_are : words ≡ words_of (lists_in words)
  above : AllAbove last (list_keys (lists_in words))
  ascend : KeysAscend (list_keys (lists_in words))
  fit : All (IsTimes tag) (lists_in words)
  few : counted + number_count (lists_in words) < 2 ^ 23

kept : (tag : Tag) (last : Option (List ℕ)) (counted place : ℕ) (words : List (List ℕ)) → counted < 2 ^ 23 → bad_from (ef_rules tag) last counted place words ≡ None → IsKept tag last counted words
kept tag last counted place [] few e = record { words_are = refl; above = above_none last; ascend = tt; fit = All-nil (IsTimes tag); few = omega arith }
kept tag last counted place (key ∷ []) few e = absurd (never (is_plain_key last key) (place + 1) place e)
kept tag last counted place (key ∷ text ∷ words) few e =
    let go_on = λ (sum : ℕ). bad_from (ef_rules tag) (Some key) sum (place + 2) words in
    let s = stands-by (is_plain_key last key) (count_text tag counted text) go_on (place + 1) place e in
    let n : ℕ = length (numbers_in text) in
    let c = counted-by (is_text tag text) (nat_lt (counted + n) (2 ^ 23)) counted n s.sum refl s.sum_is in
    let t = is_text-true tag text c.is in
    let short = plain-short last key s.plain_is in
    let small : s.sum < 2 ^ 23 = omega (arith, c.total, c.few) in
    let rest = kept tag (Some key) s.sum (place + 2) words small s.rest in
    let here : Times = record { key = key; items = numbers_in text } in
    record {
      words_are = λ i. key ∷ t.spelled i ∷ rest.words_are i;
      above = plain-above last key (list_keys (lists_in words)) s.plain_is rest.above;
      ascend = (rest.above, rest.ascend);
      fit = All-cons (IsTimes tag) here (lists_in words) (record { not_empty = short.not_empty; key_within = short.within; numbers = t.numbers }) rest.fit;
      few = omega (arith, c.total, rest.few, sum_by-cons (λ (t : Times). length t.items) here (lists_in words));
    }

-- words that keep the rules are those of the lists that they say
pub kept_words : (tag : Tag) (f : TaggedWords) → f.tag ≡ tag → bad_place (ef_rules tag) f.words ≡ None → AreWordsOf f (lists_in f.words)
kept_words tag f is e =
    let k = kept tag None 0 0 f.words (omega arith) e in
    let lists : AreLists tag (lists_in f.words) = record { ascend = k.ascend; fit = k.fit; few = omega (arith, k.few) } in
    record { words = k.words_are; lists = subst (λ (t : Tag). AreLists t (lists_in f.words)) (sym is) lists }

-- ---- the words of lists

none_bad : (tag : Tag) (last : Option (List ℕ)) (counted place : ℕ) (ts : List Times) → All (IsTimes tag) ts → All IsFew ts → AllAbove last (list_keys ts) → KeysAscend (list_keys ts) → counted + number_count ts < 2 ^ 23
    → bad_from (ef_rules tag) last counted place (words_of ts) ≡ None
none_bad tag last counted place [] fit each above up few = refl
none_bad tag last counted place (t ∷ ts) fit each above up few =
    let here = All-head (IsTimes tag) t ts fit in
    let some = All-head IsFew t ts each in
    let n : ℕ = length t.items in
    let total = sum_by-cons (λ (x : Times). length x.items) t ts in
    let again = numbers_in-spelling t.items (listable tag t.items here.numbers (omega (arith, some))) in
    stands-from (is_plain_key last t.key) (count_text tag counted (spelling t.items)) (λ (sum : ℕ). bad_from (ef_rules tag) (Some t.key) sum (place + 2) (words_of ts)) (place + 1) place (counted + n)
    (plain-test last t.key (list_keys ts) (record { not_empty = here.not_empty; within = here.key_within }) above)
    (count_text-is tag counted (spelling t.items) n (is_text-spelling tag t.items here.numbers (omega (arith, some))) (ap length again) (omega (arith, few, total)))
    (none_bad tag (Some t.key) (counted + n) (place + 2) ts (All-tail (IsTimes tag) t ts fit) (All-tail IsFew t ts each) up.0 up.1 (omega (arith, few, total)))

-- keep the rules
pub no_bad_place : (tag : Tag) (ts : List Times) → AreLists tag ts → bad_place (ef_rules tag) (words_of ts) ≡ None
no_bad_place tag ts are = none_bad tag None 0 0 ts are.fit (few-each ts are.few) tt are.ascend (omega (arith, are.few))
