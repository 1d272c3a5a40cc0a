-- A group whose steps lie outside a window of numbers has none in it.
use Rattle.std.proofs.Common.{◌≡◌, ℕ, ◌*◌, ◌≤◌, Bool, true, false, cond, List, [], ◌∷◌, Option, Some, arith}
use Rattle.std.specs.Prelude.{All, nat_eq, unwrap_or}
use Rattle.std.specs.List.{filter}
use Rattle.std.specs.Cmp.Lexicographic.{pointwise}
use Rattle.std.proofs.lemmas.List.Elements.{All-nil, All-head, All-tail}
use Rattle.agg_model.specs.declared.contents.Times.{Times}
use Rattle.word_file.specs.declared.tag.Tag.{Tag}
use Rattle.inverted_index.specs.EfFile.{IsInside, IsTimes, numbers_of}
use Rattle.window_laws.specs.Parts.{is_between}
use Rattle.window_reads.proofs.NumberWalks.{none-low, none-high}

module _ (tag : Tag) where
  found-by : (t : Bool) (x : Times) (rest : Option (List ℕ)) → IsTimes tag x → All (IsInside tag) (unwrap_or rest []) → All (IsInside tag) (unwrap_or (cond t (Some x.items) rest) [])
  found-by true x rest is more = is.numbers.inside
  found-by false x rest is more = more

  -- what a look finds is inside the steps
  found-inside : (ts : List Times) (k : List ℕ) → All (IsTimes tag) ts → All (IsInside tag) (unwrap_or (numbers_of ts k) [])
  found-inside [] k all = All-nil (IsInside tag)
  found-inside (t ∷ ts) k all =
      found-by (pointwise nat_eq t.key k) t (numbers_of ts k) (All-head (IsTimes tag) t ts all) (found-inside ts k (All-tail (IsTimes tag) t ts all))

  module _ (a b : ℕ) (ts : List Times) (k : List ℕ) (all : All (IsTimes tag) ts) where
    pub outside-early : tag.to * tag.step ≤ a → filter (is_between a b) (unwrap_or (numbers_of ts k) []) ≡ []
    outside-early early =
        none-low a b (unwrap_or (numbers_of ts k) []) (λ i z below. let is = found-inside ts k all i z below in omega (arith, is.below, early))

    pub outside-late : b ≤ tag.from * tag.step → filter (is_between a b) (unwrap_or (numbers_of ts k) []) ≡ []
    outside-late late =
        none-high a b (unwrap_or (numbers_of ts k) []) (λ i z below. let is = found-inside ts k all i z below in omega (arith, is.from, late))
