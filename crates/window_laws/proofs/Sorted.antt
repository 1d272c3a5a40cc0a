-- The changes from a number on, sorted, tell of one key what they tell in their order.
use Rattle.std.specs.Prelude.{◌≡◌, ℕ, ◌&&◌, nat_le, nat_lt, Bool, true, false, cond, List, [], ◌∷◌, map, Option, Some, None, refl}
use Rattle.std.proofs.Common.{sym, ◌∙◌, ap}
use Rattle.std.specs.Option.{option_or}
use Rattle.std.specs.List.{filter}
use Rattle.std.proofs.lemmas.List.Elements.{filter_passes}
use Rattle.agg_model.specs.declared.entity.Entity.{Entity}
use Rattle.agg_model.specs.declared.change.Change.{Change}
use Rattle.agg_model.specs.Place.{is_of}
use Rattle.agg_model.specs.Batch.{AscendFrom}
use Rattle.agg_model.specs.ChangeList.{last_where, last_change, is_of_before}
use Rattle.agg_model.specs.Contents.{is_of_within, times}
use Rattle.agg_model.specs.Pairs.{hot_change}
use Rattle.agg_model.proofs.ArrangedLaws.{option_or-none}
use Rattle.agg_model.proofs.ContentsLaws.{filter-arranged}
use Rattle.content_laws.proofs.StepLists.{sorted, filter-up}
use Rattle.window_laws.specs.Parts.{changes_from}

-- ---- tests one after the other

filter-twice-by : {A : Type 0} (p : A → Bool) (c : A) (found : List A) (t : Bool) → filter p (cond t (c ∷ found) found) ≡ cond (t && p c) (c ∷ filter p found) (filter p found)
filter-twice-by p c found true = refl
filter-twice-by p c found false = refl

pub filter-twice : {A : Type 0} (p q : A → Bool) (cs : List A) → filter p (filter q cs) ≡ filter (λ c. q c && p c) cs
filter-twice p q [] = refl
filter-twice p q (c ∷ cs) =
    filter-twice-by p c (filter q cs) (q c) ∙ ap (λ xs. cond (q c && p c) (c ∷ xs) xs) (filter-twice p q cs)

pub filter-agree : {A : Type 0} (p q : A → Bool) → ((c : A) → p c ≡ q c) → (cs : List A) → filter p cs ≡ filter q cs
filter-agree p q same [] = refl
filter-agree p q same (c ∷ cs) = λ i. cond (same c i) (c ∷ filter-agree p q same cs i) (filter-agree p q same cs i)

last-filtered-by : (q : Change → Bool) (c : Change) (found : List Change) (o : Option Change) (t : Bool) → last_where q found ≡ o → last_where q (cond t (c ∷ found) found) ≡ option_or o (cond (t && q c) (Some c) None)
last-filtered-by q c found o true is = λ i. option_or (is i) (cond (q c) (Some c) None)
last-filtered-by q c found o false is = is ∙ sym (option_or-none o)

pub last-filtered : (p q : Change → Bool) (cs : List Change) → last_where q (filter p cs) ≡ last_where (λ c. p c && q c) cs
last-filtered p q [] = refl
last-filtered p q (c ∷ cs) =
    last-filtered-by q c (filter p cs) (last_where (λ c. p c && q c) cs) (p c) (last-filtered p q cs)

pub last-agree : (p q : Change → Bool) → ((c : Change) → p c ≡ q c) → (cs : List Change) → last_where p cs ≡ last_where q cs
last-agree p q same [] = refl
last-agree p q same (c ∷ cs) = λ i. option_or (last-agree p q same cs i) (cond (same c i) (Some c) None)

itself : (t : Bool) → (t && t) ≡ t
itself true = refl
itself false = refl

-- the last one that passes is the last of those that pass
last-kept : (p : Change → Bool) (cs : List Change) → last_where p (filter p cs) ≡ last_where p cs
last-kept p cs = last-filtered p p cs ∙ last-agree (λ c. p c && p c) p (λ c. itself (p c)) cs

-- ---- the changes from a number on

module _ (from : ℕ) (e : Entity) (k : List ℕ) (cs : List Change) (up : AscendFrom 0 cs) where
  abbrev late : Change → Bool
  late c = nat_le from c.tx

  module _ (p : Change → Bool) (one : (c : Change) → p c ≡ true → is_of e k c ≡ true) where
    pub filter-from : filter p (changes_from from cs) ≡ filter (λ c. late c && p c) cs
    unfolding changes_from
    filter-from =
        filter-arranged p (filter late cs)
        ∙ sorted e k (filter p (filter late cs)) (λ i z below. one _ (filter_passes p (filter late cs) i z below)) (filter-up p 0 (filter late cs) (filter-up late 0 cs up))
        ∙ filter-twice p late cs

    pub last-from : last_where p (changes_from from cs) ≡ last_where (λ c. late c && p c) cs
    last-from =
        sym (last-kept p (changes_from from cs))
        ∙ ap (last_where p) (filter-from ∙ sym (filter-twice p late cs))
        ∙ last-kept p (filter late cs)
        ∙ last-filtered late p cs

  first-so : (t u : Bool) → (t && u) ≡ true → t ≡ true
  first-so true u h = refl
  first-so false u h = h

  between : (a b c : Bool) → (a && (b && c)) ≡ (b && (a && c))
  between true true c = refl
  between true false c = refl
  between false true c = refl
  between false false c = refl

  -- the last change of a key there below a number
  pub last_change-from : (n : ℕ) → last_change (changes_from from cs) e k n ≡ hot_change cs e k from n
  unfolding last_change hot_change is_of_before is_of_within
  last_change-from n =
      last-from (λ c. is_of e k c && nat_lt c.tx n) (λ c h. first-so (is_of e k c) (nat_lt c.tx n) h)
      ∙ last-agree (λ c. late c && (is_of e k c && nat_lt c.tx n)) (λ c. is_of e k c && (nat_le from c.tx && nat_lt c.tx n))
      (λ c. between (late c) (is_of e k c) (nat_lt c.tx n)) cs

  -- and its numbers there
  pub times-from : (a b : ℕ) → times (changes_from from cs) e k a b ≡ map (λ c. c.tx) (filter (λ c. nat_le from c.tx && is_of_within e k a b c) cs)
  unfolding times is_of_within
  times-from a b =
      ap (map (λ (c : Change). c.tx))
      (filter-from (λ c. is_of e k c && (nat_le a c.tx && nat_lt c.tx b)) (λ c h. first-so (is_of e k c) (nat_le a c.tx && nat_lt c.tx b) h))
