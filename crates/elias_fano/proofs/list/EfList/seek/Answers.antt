use Rattle.std.proofs.Common.{◌≡◌, ◌<◌, ◌≤◌, ℕ, List, length, sym, ap, ◌∙◌, arith}
use Rattle.std.specs.Prelude.{slice_index}
use Rattle.elias_fano.specs.declared.parts.Parts.{Parts}
use Rattle.elias_fano.specs.Reading.{items_of, item_at}
use Rattle.elias_fano.proofs.Places.{length-items_of, get_or-items_of}
use Rattle.elias_fano.proofs.list.EfList.seek.Goals as goal

-- what is said of the parts, said of the list
below : (items : List ℕ) (p : Parts) (end at : ℕ) → items_of p ≡ items → end ≤ p.count → ((i : ℕ) → i < end → item_at p i < at) → (i : ℕ) → i < end → slice_index items i < at
below items p end at is le all i lt = omega (arith, ap (λ xs. slice_index xs i) is, get_or-items_of p i (omega arith), all i lt)

length_is : (items : List ℕ) (p : Parts) → items_of p ≡ items → length items ≡ p.count
length_is items p is = ap length (sym is) ∙ length-items_of p

pub returns-in_err-place-clause-none : goal.returns-in_err-place-clause-none
returns-in_err-place-clause-none c =
    let p = c.self.inside.parts in
    rw c.from_residual.ensures (λ k lt. below c.args.self.now p p.count c.args.at c.self.view_is (omega arith) c.in_err-place.ensures.none k (omega (arith, length_is c.args.self.now p c.self.view_is, lt)))

pub returns-clause-found : goal.returns-clause-found
returns-clause-found c =
    let p = c.self.inside.parts in
    let found = c.in_ok-place.ensures.found in (
      omega (arith, length_is c.args.self.now p c.self.view_is, found.0),
      c.item.ensures ∙ sym (get_or-items_of p c.in_ok-place.place found.0) ∙ ap (λ xs. slice_index xs c.in_ok-place.place) c.self.view_is,
      omega (arith, c.item.ensures, found.2),
    )

pub returns-clause-first : goal.returns-clause-first
returns-clause-first c =
    let p = c.self.inside.parts in
    let told = c.in_ok-place.ensures in
    below c.args.self.now p c.in_ok-place.place c.args.at c.self.view_is (omega (arith, told.found.0)) told.first
