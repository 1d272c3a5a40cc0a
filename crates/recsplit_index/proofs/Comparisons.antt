-- Bytes that were compared with an accessor.
use Rattle.std.proofs.Common.{◌≡◌, ℕ, ◌≤◌, List, ◌++◌, length, Option, Some, None, Result, refl, sym, ap, subst, ◌∙◌}
use Rattle.bit_store.specs.Bits.{text_of}
use Rattle.file_numbers.specs.Lists.{number_bytes}
use Rattle.recsplit_index.specs.declared.keys.HashedKey.{HashedKey}
use Rattle.recsplit_index.specs.declared.follow.Followed.{Followed}
use Rattle.recsplit_index.specs.declared.layout.Layout.{Layout}
use Rattle.recsplit_index.specs.declared.compare.Compared.{Compared}
use Rattle.word_file.specs.Difference.{first_difference}
use Rattle.word_file.proofs.Differences.{same_from_none}
use Rattle.recsplit_index.specs.Spelling.{Index, laid_out, spelling}
use Rattle.recsplit_index.specs.Keys.{hashed_keys}
use Rattle.recsplit_index.specs.Nodes.{Node, offsets_of}
use Rattle.recsplit_index.specs.Index.{nodes_of, split_index, starts_from, slots_of, bits_of_nodes}
use Rattle.recsplit_index.specs.Layout.{IsLayoutOf, IsShapeOf, Follows}
use Rattle.recsplit_index.specs.InPlace.{header, behind, FollowsNodes, FollowsAll, IsCompared}
use Rattle.recsplit_index.proofs.Layings.{laid_same}
use Rattle.recsplit_index.proofs.Followings.{length-header, length-table, laid_in_parts}
use Rattle.recsplit_index.proofs.Alongside.{Carries}

abbrev pub Joins : Result ℕ ℕ → Result ℕ ℕ → Result ℕ ℕ → Type 0
Joins one other joined = (bytes front text : List ℕ) → Follows bytes 0 front one → (length front ≤ length bytes → Follows bytes (length front) text other) → Follows bytes 0 (front ++ text) joined

-- ---- form 1

pub nodes_followed : (bytes : List ℕ) (salt : ℕ) (f : Followed) (nodes : List Node) (head first both reached : Result ℕ ℕ) (text : List ℕ) → FollowsNodes bytes f nodes → text ≡ text_of f.codes → Follows bytes 0 (header 1 salt f.count) head → Joins head f.starts first → Joins first f.offsets both
    → Carries bytes text both reached → Follows bytes 0 (spelling (split_index salt nodes)) reached
unfolding split_index
nodes_followed bytes salt f nodes head first both reached text h text-is top one other carry =
    let starts = starts_from 0 0 nodes in
    let offsets = offsets_of (slots_of nodes) in
    let bits = text_of (bits_of_nodes nodes) in
    let front = header 1 salt f.count in
    let far : length (front ++ number_bytes starts) ≡ behind f.table = length-table 1 salt f.count starts ∙ ap (λ (n : ℕ). behind n) (sym h.table_is) in
    let with_starts = one bytes front (number_bytes starts) top (subst (λ (n : ℕ). n ≤ length bytes → Follows bytes n (number_bytes starts) f.starts) (sym (length-header 1 salt f.count)) h.starts_follow) in
    let with_offsets = other bytes (front ++ number_bytes starts) (number_bytes offsets) with_starts (subst (λ (n : ℕ). n ≤ length bytes → Follows bytes n (number_bytes offsets) f.offsets) (sym far) h.offsets_follow) in
    let whole = carry 0 ((front ++ number_bytes starts) ++ number_bytes offsets) with_offsets in
    subst (λ (t : List ℕ). Follows bytes 0 t reached)
    (ap (λ (t : List ℕ). ((front ++ number_bytes starts) ++ number_bytes offsets) ++ t) (text-is ∙ ap text_of h.codes_are)
    ∙ ap (λ (n : ℕ). ((header 1 salt n ++ number_bytes starts) ++ number_bytes offsets) ++ bits) h.count_is ∙ laid_in_parts 1 salt starts offsets bits)
    whole

pub nodes_shape : (bytes : List ℕ) (salt bits : ℕ) (f : Followed) (nodes : List Node) → FollowsNodes bytes f nodes → bits ≡ length f.codes → IsShapeOf (record { form = 1; salt = salt; starts = f.table; count = f.count; bits = bits }) (split_index salt nodes)
unfolding split_index
nodes_shape bytes salt bits f nodes h bits-is = record {
  form_is = refl;
  salt_is = refl;
  starts_is = h.table_is;
  count_is = h.count_is;
  bits_is = bits-is ∙ ap length h.codes_are;
  starts_fit = h.starts_fit;
  offsets_fit = h.offsets_fit;
}

none_followed : (bytes : List ℕ) (o : Option (List Node)) → FollowsAll bytes None o → o ≡ None
none_followed bytes None h = refl
none_followed bytes (Some ns) h = absurd h

some_followed : (bytes : List ℕ) (f : Followed) (o : Option (List Node)) → FollowsAll bytes (Some f) o → (ns : List Node) × (o ≡ Some ns) × FollowsNodes bytes f ns
some_followed bytes f None h = absurd h
some_followed bytes f (Some ns) h = (ns, refl, h)

-- the nodes under a salt
pub followed_here : (bytes : List ℕ) (tries salt : ℕ) (words : List (List ℕ)) (keys : List HashedKey) (followed : Option Followed) (f : Followed) → keys ≡ hashed_keys salt words → followed ≡ Some f → FollowsAll bytes followed (nodes_of tries keys)
    → (ns : List Node) × (nodes_of tries (hashed_keys salt words) ≡ Some ns) × FollowsNodes bytes f ns
followed_here bytes tries salt words keys followed f keys-are some h =
    some_followed bytes f (nodes_of tries (hashed_keys salt words))
    (subst (λ (k : List HashedKey). FollowsAll bytes (Some f) (nodes_of tries k)) keys-are (subst (λ (o : Option Followed). FollowsAll bytes o (nodes_of tries keys)) some h))

pub none_here : (bytes : List ℕ) (tries salt : ℕ) (words : List (List ℕ)) (keys : List HashedKey) (followed : Option Followed) → keys ≡ hashed_keys salt words → followed ≡ None → FollowsAll bytes followed (nodes_of tries keys) → nodes_of tries (hashed_keys salt words) ≡ None
none_here bytes tries salt words keys followed keys-are none h =
    none_followed bytes (nodes_of tries (hashed_keys salt words))
    (subst (λ (k : List HashedKey). FollowsAll bytes None (nodes_of tries k)) keys-are (subst (λ (o : Option Followed). FollowsAll bytes o (nodes_of tries keys)) none h))

-- ---- a layout

pub layout_place : (bytes : List ℕ) (l : Layout) (x : Index) (place : Option ℕ) → IsLayoutOf l x → place ≡ first_difference bytes (laid_out l.form l.salt l.starts.items l.offsets.items l.text) → place ≡ first_difference bytes (spelling x)
layout_place bytes l x place h is = is ∙ ap (first_difference bytes) (laid_same l x h)

-- ---- what it says of the bytes

pub compared_same : (bytes seen : List ℕ) (c : Compared) (x : Index) → IsCompared seen c x → seen ≡ bytes → c.place ≡ None → bytes ≡ spelling x
compared_same bytes seen c x h seen-is none = sym seen-is ∙ same_from_none seen (spelling x) (sym h.place_is ∙ none)

pub compared_apart : (bytes seen : List ℕ) (c : Compared) (x : Index) (at : ℕ) → IsCompared seen c x → seen ≡ bytes → c.place ≡ Some at → first_difference bytes (spelling x) ≡ Some at
compared_apart bytes seen c x at h seen-is e = ap (λ (b : List ℕ). first_difference b (spelling x)) (sym seen-is) ∙ sym h.place_is ∙ e
