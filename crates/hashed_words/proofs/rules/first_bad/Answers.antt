use Rattle.std.proofs.Common.{◌≡◌, ◌+◌, true, length, get_or, [], Some, sym, ap, ◌∙◌, subst}
use Rattle.std.specs.Option.{option_copied}
use Rattle.hashed_words.proofs.Walks.{IsPassed, here, value_here, value_lacks, goes_on}
use Rattle.hashed_words.proofs.rules.first_bad.Goals as goal

pub returns-in_default-next : goal.returns-in_default-next
returns-in_default-next g c =
    let r = g.R.WordRules.rules c.args.rules.now in
    let f = c.args.words.now in
    let l = c.loop-next in
    let last = option_copied l.last in
    let place = here r f last l.counted l.place l.next l.invariant c.in-Some.at c.in-Some.is in
    let key_is = c.word_at-key.ensures.word l.place place in
    let stands : r.key_stands last (get_or f.words l.place []) ≡ true =
    ap (λ k. r.key_stands last k) (sym key_is) ∙ sym c.key_stands.ensures ∙ c.if-not-key_stands.false
    in
    ap (λ b. Some (length b)) c.bytes.ensures.spelled
    ∙ value_lacks r f last l.counted l.place l.next l.invariant c.in-Some.at c.in-Some.is stands c.next.result (c.next.ensures.value l.place place) c.in_default-next.is

pub loop-next-preserved : goal.loop-next-preserved
loop-next-preserved g c =
    let r = g.R.WordRules.rules c.args.rules.now in
    let f = c.args.words.now in
    let l = c.loop-next in
    let last = option_copied l.last in
    let place = here r f last l.counted l.place l.next l.invariant c.in-Some.at c.in-Some.is in
    let key_is = c.word_at-key.ensures.word l.place place in
    let stands : r.key_stands last (get_or f.words l.place []) ≡ true =
    ap (λ k. r.key_stands last k) (sym key_is) ∙ sym c.key_stands.ensures ∙ c.if-not-key_stands.false
    in
    let after = c.next.ensures.value l.place place in
    let behind = value_here r f last l.counted l.place l.next l.invariant c.in-Some.at c.in-Some.is stands c.next.result after c.in-Some-next.behind c.in-Some-next.is in
    let value_is = c.word_at-value.ensures.word (l.place + 1) behind in
    let counts : r.count_value l.counted (get_or f.words (l.place + 1) []) ≡ Some c.in-Some-count_value.sum =
    ap (λ v. r.count_value l.counted v) (sym value_is) ∙ sym c.count_value.ensures ∙ c.in-Some-count_value.is
    in
    subst (λ k. IsPassed r f.words (Some k) c.in-Some-count_value.sum (l.place + 2) c.next-next.result) (sym key_is)
    (goes_on r f last l.counted l.place l.next l.invariant c.in-Some.at c.in-Some.is stands c.next.result after c.in-Some-next.behind c.in-Some-next.is c.in-Some-count_value.sum c.next-next.result counts (c.next-next.ensures.value (l.place + 1) behind))
