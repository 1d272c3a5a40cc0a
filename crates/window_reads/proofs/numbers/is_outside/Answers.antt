use Rattle.std.proofs.Common.{◌≡◌, ℕ, ◌*◌, ◌≤◌, [], ap, subst, ◌∙◌, arith}
use Rattle.std.specs.Prelude.{unwrap_or}
use Rattle.std.specs.List.{filter}
use Rattle.std.proofs.lemmas.Bool.{leb-true}
use Rattle.word_file.specs.declared.tag.Tag.{Tag}
use Rattle.inverted_index.specs.EfFile.{TaggedLists, numbers_of}
use Rattle.window_laws.specs.Parts.{is_between}
use Rattle.window_reads.proofs.Outside.{outside-early, outside-late}
use Rattle.window_reads.proofs.numbers.is_outside.Goals as goal

product : {x y a b : ℕ} → x ≡ a → y ≡ b → x * y ≡ a * b
product p q = λ i. p i * q i

pub returns-then-end-from : goal.returns-then-end-from
returns-then-end-from c = λ k outside.
    let a = c.args.numbers.from in
    let b = c.args.numbers.to in
    let f = c.ef-ef.result.now in
    let end : c.from-3.result * c.from-4.result ≡ f.tag.to * f.tag.step =
    product (c.from-3.ensures ∙ ap (λ (t : Tag). t.to) c.tag-tag.ensures) (c.from-4.ensures ∙ ap (λ (t : Tag). t.step) c.tag-tag.ensures) in
    let early : f.tag.to * f.tag.step ≤ a = omega (arith, end, c.if-end-from.true, c.from-5.ensures) in
    subst (λ (h : TaggedLists). filter (is_between a b) (unwrap_or (numbers_of h.lists k) []) ≡ []) c.ef-ef.ensures
    (outside-early f.tag a b f.lists k c.words-held.ensures.lists.fit early)

pub returns-else-end-from : goal.returns-else-end-from
returns-else-end-from c = λ k outside.
    let a = c.args.numbers.from in
    let b = c.args.numbers.to in
    let f = c.ef-ef.result.now in
    let first : c.from.result * c.from-2.result ≡ f.tag.from * f.tag.step =
    product (c.from.ensures ∙ ap (λ (t : Tag). t.from) c.tag-tag.ensures) (c.from-2.ensures ∙ ap (λ (t : Tag). t.step) c.tag-tag.ensures) in
    let far : c.from-else-end-from.result ≤ c.from.result * c.from-2.result = leb-true c.from-else-end-from.result (c.from.result * c.from-2.result) outside in
    let late : b ≤ f.tag.from * f.tag.step = omega (arith, first, far, c.from-else-end-from.ensures) in
    subst (λ (h : TaggedLists). filter (is_between a b) (unwrap_or (numbers_of h.lists k) []) ≡ []) c.ef-ef.ensures
    (outside-late f.tag a b f.lists k c.words-held.ensures.lists.fit late)
