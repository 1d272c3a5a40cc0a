-- What a walk over sizes, or over the ranges of the canonical cut, still has before it.
use Rattle.std.proofs.Common.{◌≡◌, ℕ, suc, ◌+◌, ◌%◌, ◌<◌, Bool, true, false, cond, ◌==◌, ◌&&◌, nat_le, List, [], ◌∷◌, ◌++◌, Some, find, length, get_or, drop, sym, ◌∙◌, ap, add-one, drop-cons, lt-ltb, append_assoc}
use Rattle.agg_model.specs.declared.entity.Range.{Range}
use Rattle.merge_ranges.specs.Cut.{first_fit, size_at, largest_at, canon_from}

module _ (a m : ℕ) (items : List ℕ) (i : ℕ) (h : i < length items) where
  first_fit-drop : first_fit a m (drop i items) ≡ cond ((a % get_or items i 0 == 0) && nat_le (a + get_or items i 0) m) (get_or items i 0) (first_fit a m (drop (i + 1) items))
  first_fit-drop = rw add-one (ap (first_fit a m) (drop-cons items i 0 h))

  pub fit-here : ((a % get_or items i 0 == 0) && nat_le (a + get_or items i 0) m) ≡ true → first_fit a m (drop i items) ≡ get_or items i 0
  fit-here e = first_fit-drop ∙ ap (λ t. cond t (get_or items i 0) (first_fit a m (drop (i + 1) items))) e

  pub fit-past : ((a % get_or items i 0 == 0) && nat_le (a + get_or items i 0) m) ≡ false → first_fit a m (drop i items) ≡ first_fit a m (drop (i + 1) items)
  fit-past e = first_fit-drop ∙ ap (λ t. cond t (get_or items i 0) (first_fit a m (drop (i + 1) items))) e

-- the canonical cut from a on begins with the largest range there
pub canon_from-step : (most a m : ℕ) → a < m → canon_from (suc most) a m ≡ largest_at a m ∷ canon_from most (a + size_at a m) m
canon_from-step most a m h = ap (λ t. cond t (largest_at a m ∷ canon_from most (a + size_at a m) m) []) (lt-ltb a m h)

-- the range of this size from a on
abbrev pub range_at : ℕ → ℕ → Range
range_at a s = record { from = a; to = a + s }

range_at-is : (a m s : ℕ) → s ≡ size_at a m → range_at a s ≡ largest_at a m
unfolding largest_at
range_at-is a m s e = ap (range_at a) e

canon_from-next : (most a m s : ℕ) → a < m → s ≡ size_at a m → canon_from (suc most) a m ≡ range_at a s ∷ canon_from most (a + s) m
canon_from-next most a m s h e =
    canon_from-step most a m h ∙ (λ i. sym (range_at-is a m s e) i ∷ canon_from most (a + sym e i) m)

-- one more range in the cut is one less to come
pub cut-step : (cut : List Range) (most a m s : ℕ) → a < m → s ≡ size_at a m → (cut ++ range_at a s ∷ []) ++ canon_from most (a + s) m ≡ cut ++ canon_from (suc most) a m
cut-step cut most a m s h e =
    append_assoc cut (range_at a s ∷ []) (canon_from most (a + s) m) ∙ ap (λ l. cut ++ l) (sym (canon_from-next most a m s h e))

-- the search goes on after a range that doesn't pass
pub find-step : (p : Range → Bool) (most a m s : ℕ) → a < m → s ≡ size_at a m → find p (canon_from (suc most) a m) ≡ cond (p (range_at a s)) (Some (range_at a s)) (find p (canon_from most (a + s) m))
find-step p most a m s h e = ap (find p) (canon_from-next most a m s h e)
