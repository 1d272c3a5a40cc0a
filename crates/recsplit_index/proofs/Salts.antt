-- The first salt that works.
use Rattle.std.proofs.Common.{◌≡◌, ℕ, zero, suc, ◌+◌, ◌-◌, ◌<◌, ◌≤◌, List, Option, Some, None, refl, sym, ap, subst, ◌∙◌, arith, inl, inr, ◌⊎◌}
use Rattle.recsplit_index.specs.declared.keys.HashedKey.{HashedKey}
use Rattle.recsplit_index.specs.declared.buckets.Built.{Built}
use Rattle.recsplit_index.specs.Keys.{hashed_keys}
use Rattle.recsplit_index.specs.Nodes.{Node}
use Rattle.recsplit_index.specs.Spelling.{Index}
use Rattle.recsplit_index.specs.Index.{nodes_of, or_else, split_index, plain_index, index_from, index_of, Holds, HoldsAll}
use Rattle.recsplit_index.proofs.Layouts.{index_with}

salt_by : (tries : ℕ) (words : List (List ℕ)) (more salt : ℕ) (o : Option (List Node)) → nodes_of tries (hashed_keys salt words) ≡ o → index_from tries words (suc more) salt ≡ or_else salt o (index_from tries words more (salt + 1))
unfolding index_from
salt_by tries words more salt o is = ap (λ (x : Option (List Node)). or_else salt x (index_from tries words more (salt + 1))) is

step : (tries : ℕ) (words : List (List ℕ)) (salt : ℕ) (o : Option (List Node)) → salt < 8 → nodes_of tries (hashed_keys salt words) ≡ o → index_from tries words (8 - salt) salt ≡ or_else salt o (index_from tries words (8 - (salt + 1)) (salt + 1))
step tries words salt o lt is =
    let more : 8 - salt ≡ suc (8 - (salt + 1)) = omega arith in
    ap (λ (n : ℕ). index_from tries words n salt) more ∙ salt_by tries words (8 - (salt + 1)) salt o is

none_held : (o : Option (List Node)) → HoldsAll None o → o ≡ None
none_held None h = refl
none_held (Some ns) h = absurd h

some_held : (b : Built) (o : Option (List Node)) → HoldsAll (Some b) o → (ns : List Node) × (o ≡ Some ns) × Holds b ns
some_held b None h = absurd h
some_held b (Some ns) h = (ns, refl, h)

-- a salt that doesn't
pub salt_next : (tries : ℕ) (words : List (List ℕ)) (salt : ℕ) → salt < 8 → nodes_of tries (hashed_keys salt words) ≡ None → index_from tries words (8 - salt) salt ≡ index_from tries words 8 0 → index_from tries words (8 - (salt + 1)) (salt + 1) ≡ index_from tries words 8 0
salt_next tries words salt lt none so_far = sym (step tries words salt None lt none) ∙ so_far

pub salt_more : (tries : ℕ) (words : List (List ℕ)) (salt : ℕ) (keys : List HashedKey) (built : Option Built) → salt < 8 → keys ≡ hashed_keys salt words → built ≡ None → HoldsAll built (nodes_of tries keys)
    → index_from tries words (8 - salt) salt ≡ index_from tries words 8 0 → index_from tries words (8 - (salt + 1)) (salt + 1) ≡ index_from tries words 8 0
salt_more tries words salt keys built lt keys-are none holds so_far =
    let here : HoldsAll None (nodes_of tries (hashed_keys salt words)) = subst (λ (k : List HashedKey). HoldsAll None (nodes_of tries k)) keys-are (subst (λ (b : Option Built). HoldsAll b (nodes_of tries keys)) none holds) in
    salt_next tries words salt lt (none_held (nodes_of tries (hashed_keys salt words)) here) so_far

split_is : (b : Built) (salt : ℕ) (ns : List Node) → Holds b ns → index_with 1 salt b.starts.items b.parts.offsets.items b.parts.codes ≡ split_index salt ns
unfolding split_index
split_is b salt ns h = rw (h.starts_are, h.offsets_are, h.codes_are) refl

-- one that does
pub salt_here : (tries : ℕ) (words : List (List ℕ)) (salt : ℕ) (ns : List Node) → salt < 8 → nodes_of tries (hashed_keys salt words) ≡ Some ns → index_from tries words (8 - salt) salt ≡ index_from tries words 8 0 → split_index salt ns ≡ index_of tries words
unfolding index_of
salt_here tries words salt ns lt some so_far = sym (step tries words salt (Some ns) lt some) ∙ so_far

pub salt_found : (tries : ℕ) (words : List (List ℕ)) (salt : ℕ) (keys : List HashedKey) (built : Option Built) (b : Built) → salt < 8 → keys ≡ hashed_keys salt words → built ≡ Some b → HoldsAll built (nodes_of tries keys)
    → index_from tries words (8 - salt) salt ≡ index_from tries words 8 0 → index_with 1 salt b.starts.items b.parts.offsets.items b.parts.codes ≡ index_of tries words
salt_found tries words salt keys built b lt keys-are some holds so_far =
    let here : HoldsAll (Some b) (nodes_of tries (hashed_keys salt words)) = subst (λ (k : List HashedKey). HoldsAll (Some b) (nodes_of tries k)) keys-are (subst (λ (x : Option Built). HoldsAll x (nodes_of tries keys)) some holds) in
    let found = some_held b (nodes_of tries (hashed_keys salt words)) here in
    split_is b salt found.0 found.2 ∙ salt_here tries words salt found.0 lt found.1 so_far

-- none does
pub salt_none : (tries : ℕ) (words : List (List ℕ)) (salt : ℕ) → 8 ≤ salt → index_from tries words (8 - salt) salt ≡ index_from tries words 8 0 → plain_index words ≡ index_of tries words
unfolding index_of index_from
salt_none tries words salt ge so_far =
    let none : 8 - salt ≡ 0 = omega arith in
    sym (ap (λ (n : ℕ). index_from tries words n salt) none) ∙ so_far

-- ---- which form it is

pub record IsSplitOf (tries : ℕ) (words : List (List ℕ)) (x : Index) : Type 0 where
  pub salt : ℕ
  pub nodes : List Node
  pub nodes_are : nodes_of tries (hashed_keys salt words) ≡ Some nodes
  pub split_is : x ≡ split_index salt nodes

form_by : (tries : ℕ) (words : List (List ℕ)) (salt : ℕ) (o : Option (List Node)) (other : Index) → nodes_of tries (hashed_keys salt words) ≡ o → (IsSplitOf tries words other ⊎ (other ≡ plain_index words)) → IsSplitOf tries words (or_else salt o other) ⊎ (or_else salt o other ≡ plain_index words)
form_by tries words salt None other is rest = rest
form_by tries words salt (Some nodes) other is rest = inl (record { salt = salt; nodes = nodes; nodes_are = is; split_is = refl })

form_from : (tries : ℕ) (words : List (List ℕ)) (more salt : ℕ) → IsSplitOf tries words (index_from tries words more salt) ⊎ (index_from tries words more salt ≡ plain_index words)
unfolding index_from
form_from tries words zero salt = inr refl
form_from tries words (suc more) salt = form_by tries words salt (nodes_of tries (hashed_keys salt words)) (index_from tries words more (salt + 1)) refl (form_from tries words more (salt + 1))

pub form_of : (tries : ℕ) (words : List (List ℕ)) → IsSplitOf tries words (index_of tries words) ⊎ (index_of tries words ≡ plain_index words)
unfolding index_of
form_of tries words = form_from tries words 8 0
