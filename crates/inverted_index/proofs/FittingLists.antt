-- Lists that pass the test are those that a file may hold.
use Rattle.std.proofs.Common.{◌≡◌, ℕ, ◌+◌, ◌<◌, ◌^◌, Bool, true, false, cond, nat_lt, List, [], ◌∷◌, length, Option, Some, None, refl, sym, ap, ◌∙◌, arith, lt-ltb, ltb-true}
use Rattle.std.specs.Prelude.{All, ◌&&◌}
use Rattle.std.specs.Option.{option_map_or}
use Rattle.std.specs.Cmp.{first_so, second_so}
use Rattle.std.proofs.lemmas.Bool.{and_from}
use Rattle.std.proofs.lemmas.List.Elements.{All-nil, All-cons, All-head, All-tail}
use Rattle.std.proofs.lemmas.List.Sums.{sum_by-cons}
use Rattle.agg_model.specs.declared.contents.Times.{Times}
use Rattle.agg_model.specs.Pairs.{IsBelow, KeysAscend}
use Rattle.word_file.specs.declared.tag.Tag.{Tag}
use Rattle.hashed_words.specs.PlainKeys.{is_plain_key}
use Rattle.inverted_index.specs.EfFile.{IsTimes, AreLists, list_keys, number_count}
use Rattle.inverted_index.specs.EfRules.{are_numbers, count_list, are_lists_from, are_lists}
use Rattle.hashed_words.proofs.KeyTests.{AllAbove, above_none, plain-short, plain-above, plain-test}
use Rattle.inverted_index.proofs.TextLaws.{are_numbers-true, are_numbers-from}
use Rattle.inverted_index.proofs.RuleLaws.{IsCounted, counted-by, count-by}

record GoesOn (o : Option ℕ) (go_on : ℕ → Bool) : Type 0 where
  sum : ℕ
  sum_is : o ≡ Some sum
  rest : go_on sum ≡ true

goes_on : (o : Option ℕ) (go_on : ℕ → Bool) → option_map_or go_on o false ≡ true → GoesOn o go_on
goes_on None go_on e = absurd cc
goes_on (Some sum) go_on e = record { sum = sum; sum_is = refl; rest = e }

goes_from : (o : Option ℕ) (go_on : ℕ → Bool) (sum : ℕ) → o ≡ Some sum → go_on sum ≡ true → option_map_or go_on o false ≡ true
goes_from None go_on sum e rest = absurd cc
goes_from (Some s) go_on sum e rest = let same : s ≡ sum = cc in ap go_on same ∙ rest

record Fit (tag : Tag) (last : Option (List ℕ)) (counted : ℕ) (ts : List Times) : Type 0 where
  above : AllAbove last (list_keys ts)
  ascend : KeysAscend (list_keys ts)
  fit : All (IsTimes tag) ts
  few : counted + number_count ts < 2 ^ 23

fit_from : (tag : Tag) (last : Option (List ℕ)) (counted : ℕ) (ts : List Times) → counted < 2 ^ 23 → are_lists_from tag last counted ts ≡ true → Fit tag last counted ts
fit_from tag last counted [] few e = record { above = above_none last; ascend = tt; fit = All-nil (IsTimes tag); few = omega arith }
fit_from tag last counted (t ∷ ts) few e =
    let n : ℕ = length t.items in
    let plain = is_plain_key last t.key && are_numbers tag t.items in
    let g = goes_on (count_list tag last counted t) (λ sum. are_lists_from tag (Some t.key) sum ts) e in
    let c = counted-by plain (nat_lt (counted + n) (2 ^ 23)) counted n g.sum refl g.sum_is in
    let key = first_so (is_plain_key last t.key) (are_numbers tag t.items) c.is in
    let numbers = are_numbers-true tag t.items (second_so (is_plain_key last t.key) (are_numbers tag t.items) c.is) in
    let short = plain-short last t.key key in
    let rest = fit_from tag (Some t.key) g.sum ts (omega (arith, c.total, c.few)) g.rest in
    record {
      above = plain-above last t.key (list_keys ts) key rest.above;
      ascend = (rest.above, rest.ascend);
      fit = All-cons (IsTimes tag) t ts (record { not_empty = short.not_empty; key_within = short.within; numbers = numbers }) rest.fit;
      few = omega (arith, c.total, rest.few, sum_by-cons (λ (x : Times). length x.items) t ts);
    }

pub are_lists-true : (tag : Tag) (ts : List Times) → are_lists tag ts ≡ true → AreLists tag ts
are_lists-true tag ts e =
    let f = fit_from tag None 0 ts (omega arith) e in record { ascend = f.ascend; fit = f.fit; few = omega (arith, f.few) }

passes : (tag : Tag) (last : Option (List ℕ)) (counted : ℕ) (ts : List Times) → All (IsTimes tag) ts → AllAbove last (list_keys ts) → KeysAscend (list_keys ts) → counted + number_count ts < 2 ^ 23 → are_lists_from tag last counted ts ≡ true
passes tag last counted [] fit above up few = refl
passes tag last counted (t ∷ ts) fit above up few =
    let here = All-head (IsTimes tag) t ts fit in
    let n : ℕ = length t.items in
    let total = sum_by-cons (λ (x : Times). length x.items) t ts in
    let plain = plain-test last t.key (list_keys ts) (record { not_empty = here.not_empty; within = here.key_within }) above in
    goes_from (count_list tag last counted t) (λ sum. are_lists_from tag (Some t.key) sum ts) (counted + n)
    (count-by (is_plain_key last t.key && are_numbers tag t.items) (nat_lt (counted + n) (2 ^ 23)) (counted + n)
    (and_from (is_plain_key last t.key) (are_numbers tag t.items) plain (are_numbers-from tag t.items here.numbers))
    (lt-ltb (counted + n) (2 ^ 23) (omega (arith, few, total))))
    (passes tag (Some t.key) (counted + n) ts (All-tail (IsTimes tag) t ts fit) up.0 up.1 (omega (arith, few, total)))

pub are_lists-from : (tag : Tag) (ts : List Times) → AreLists tag ts → are_lists tag ts ≡ true
are_lists-from tag ts are = passes tag None 0 ts are.fit tt are.ascend (omega (arith, are.few))
