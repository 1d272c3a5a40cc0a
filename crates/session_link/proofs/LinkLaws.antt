-- Laws of what a link keeps.
use Rattle.std.proofs.Common.{◌≡◌, ℕ, ◌+◌, ◌<◌, List, [], ◌∷◌, ◌++◌, length, take, drop, get_or, Some, ap, sym, ◌∙◌, eq-eqb, add-one, arith}
use Rattle.std.proofs.lemmas.List.{drop_more}
use Rattle.std.proofs.lemmas.Option.{slice_get-get_or}
use Rattle.agg_model.specs.Batch.{content_of}
use Rattle.agg_model.specs.declared.change.Change.{Change}
use Rattle.session_link.specs.declared.link.Transaction.{Transaction}
use Rattle.session_link.specs.Links.{open_of, transactions_without, IsPlaceOf}

pub content_of-append : (cs ds : List Change) → content_of (cs ++ ds) ≡ content_of cs + content_of ds
content_of-append [] ds = omega arith
content_of-append (c ∷ cs) ds = omega (arith, content_of-append cs ds)

pub ruleset appending = (content_of-append)

open_of-first : (number : ℕ) (t : Transaction) (ts : List Transaction) → t.number ≡ number → open_of number (t ∷ ts) ≡ Some t
open_of-first number t ts e = rw (eq-eqb t.number number e)

others-first : (number : ℕ) (t : Transaction) (ts : List Transaction) → t.number ≡ number → transactions_without number (t ∷ ts) ≡ ts
others-first number t ts e = rw (eq-eqb t.number number e)

-- the first of this number stands where all before it are passed over
pub is_place_of : (number i : ℕ) (ts : List Transaction) (d : Transaction) → i < length ts → (get_or ts i d).number ≡ number → open_of number (drop i ts) ≡ open_of number ts → take i ts ++ transactions_without number (drop i ts) ≡ transactions_without number ts → IsPlaceOf number ts i
is_place_of number i ts d within here skipped kept =
    let split = drop_more ts i d within in
    let found : open_of number ts ≡ Some (get_or ts i d) =
    sym skipped ∙ ap (open_of number) split ∙ open_of-first number (get_or ts i d) (drop (i + 1) ts) here in
    let left : transactions_without number ts ≡ take i ts ++ drop (i + 1) ts =
    sym kept ∙ ap (λ (xs : List Transaction). take i ts ++ transactions_without number xs) split ∙ ap (λ (xs : List Transaction). take i ts ++ xs) (others-first number (get_or ts i d) (drop (i + 1) ts) here) in
    record {
      within = within;
      there = rw (slice_get-get_or ts i d within) found;
      rest = rw (← add-one) left;
    }
