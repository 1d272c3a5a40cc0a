-- The nodes of all buckets, followed bucket by bucket.
use Rattle.std.proofs.Common.{◌≡◌, ℕ, ◌+◌, ◌*◌, ◌^◌, ◌<◌, ◌≤◌, Bool, true, false, List, [], ◌∷◌, ◌++◌, length, Option, Some, None, Result, refl, sym, ap, subst, ◌∙◌, arith}
use Rattle.std.proofs.lemmas.List.{length-append, length-map}
use Rattle.file_numbers.specs.Lists.{number_bytes, AreNumbers}
use Rattle.file_numbers.proofs.Listed.{number_bytes-append, both_numbers}
use Rattle.recsplit_index.specs.declared.keys.HashedKey.{HashedKey}
use Rattle.recsplit_index.specs.declared.follow.Followed.{Followed}
use Rattle.recsplit_index.specs.Nodes.{Node, PutsNode}
use Rattle.recsplit_index.specs.Index.{bucket_count, bucket_keys, bucket_node, nodes_of, starts_from}
use Rattle.recsplit_index.specs.Layout.{Follows, IsWithin}
use Rattle.recsplit_index.specs.InPlace.{behind, FollowsNodes, FollowsAll}
use Rattle.recsplit_index.proofs.Shapes.{node_long}
use Rattle.recsplit_index.proofs.Positions.{bucket_total, bucket_total_none, bucket_total_more, bucket_total_few}
use Rattle.recsplit_index.proofs.Finds.{nodes_long, starts_long}
use Rattle.recsplit_index.proofs.Buildings.{IsBuilding, building_none, building_more, placed_some, no_nodes, all_nodes}

-- what is followed goes on with this text
abbrev pub Carries : List ℕ → List ℕ → Result ℕ ℕ → Result ℕ ℕ → Type 0
Carries bytes text old new = (at : ℕ) (front : List ℕ) → Follows bytes at front old → Follows bytes at (front ++ text) new

-- the buckets so far, their starts and offsets as far as they were followed
pub record IsFollowing (bytes : List ℕ) (at tries buckets : ℕ) (keys : List HashedKey) (i : ℕ) (starts offsets : Result ℕ ℕ) (count : ℕ) (codes : List Bool) : Type 0 where
  pub table : List ℕ
  pub slots : List ℕ
  pub building : IsBuilding tries buckets keys i table codes slots
  pub starts_within : IsWithin bytes starts
  pub offsets_within : IsWithin bytes offsets
  pub starts_follow : 16 ≤ length bytes → Follows bytes 16 (number_bytes table) starts
  pub offsets_follow : at ≤ length bytes → Follows bytes at (number_bytes slots) offsets
  pub counted : count ≡ length slots
  pub sum : length slots ≡ bucket_total buckets keys i
  pub table_fits : AreNumbers table
  pub slots_fit : AreNumbers slots

no_numbers : (bytes : List ℕ) (at : ℕ) (r : Result ℕ ℕ) → Follows bytes at [] r → Follows bytes at (number_bytes []) r
unfolding number_bytes
no_numbers bytes at r f = f

pub following_none : (bytes : List ℕ) (at tries buckets : ℕ) (keys : List HashedKey) (starts offsets : Result ℕ ℕ) (codes : List Bool) → IsWithin bytes starts → IsWithin bytes offsets → (16 ≤ length bytes → Follows bytes 16 [] starts) → (at ≤ length bytes → Follows bytes at [] offsets) → codes ≡ []
    → IsFollowing bytes at tries buckets keys 0 starts offsets 0 codes
following_none bytes at tries buckets keys starts offsets codes sw ow sf of none = record {
  table = [];
  slots = [];
  building = building_none tries buckets keys [] codes [] refl none refl;
  starts_within = sw;
  offsets_within = ow;
  starts_follow = λ le. no_numbers bytes 16 starts (sf le);
  offsets_follow = λ le. no_numbers bytes at offsets (of le);
  counted = refl;
  sum = sym (bucket_total_none buckets keys);
  table_fits = tt;
  slots_fit = tt;
}

-- what is put behind nothing is put behind all
puts_behind : (placed : Bool) (o : Option Node) (bits new_bits : List Bool) (front new : List ℕ) → PutsNode placed o bits [] new_bits new → PutsNode placed o bits front new_bits (front ++ new)
puts_behind placed None bits new_bits front new p = p
puts_behind placed (Some n) bits new_bits front new p = (p.0, p.1, ap (λ (l : List ℕ). front ++ l) p.2)

new_long : (tries buckets i : ℕ) (keys : List HashedKey) (codes codes2 : List Bool) (new : List ℕ) → PutsNode true (bucket_node tries buckets keys i) codes [] codes2 new → length new ≡ length (bucket_keys buckets keys i)
new_long tries buckets i keys codes codes2 new puts =
    let here = bucket_keys buckets keys i in
    let found = placed_some (bucket_node tries buckets keys i) codes [] codes2 new puts in
    let n : Node = found.0 in
    ap length found.3 ∙ length-map n.slots (λ key. key.offset) ∙ node_long (length here) tries 0 here n found.1

-- there is room to count one bucket more
pub following_room : (bytes : List ℕ) (at tries buckets : ℕ) (keys : List HashedKey) (i : ℕ) (starts offsets : Result ℕ ℕ) (count : ℕ) (codes codes2 : List Bool) (new : List ℕ) → IsFollowing bytes at tries buckets keys i starts offsets count codes
    → PutsNode true (bucket_node tries buckets keys i) codes [] codes2 new → count + length new ≤ length keys
following_room bytes at tries buckets keys i starts offsets count codes codes2 new f puts =
    omega (arith, f.counted, f.sum, new_long tries buckets i keys codes codes2 new puts, bucket_total_more buckets keys i, bucket_total_few buckets keys (i + 1))

pub following_few : (bytes : List ℕ) (at tries buckets : ℕ) (keys : List HashedKey) (i : ℕ) (starts offsets : Result ℕ ℕ) (count : ℕ) (codes : List Bool) → IsFollowing bytes at tries buckets keys i starts offsets count codes → count ≤ length keys
following_few bytes at tries buckets keys i starts offsets count codes f = omega (arith, f.counted, f.sum, bucket_total_few buckets keys i)

start_is : (table slots : List ℕ) (codes : List Bool) (count bits : ℕ) → count ≡ length slots → bits ≡ length codes → table ++ count ∷ bits ∷ [] ≡ table ++ (length slots ∷ length codes ∷ [])
start_is table slots codes count bits count-is bits-is = ap (λ (n : ℕ). table ++ n ∷ bits ∷ []) count-is ∙ ap (λ (n : ℕ). table ++ length slots ∷ n ∷ []) bits-is

carried : (bytes : List ℕ) (at : ℕ) (front new : List ℕ) (old reached : Result ℕ ℕ) → Carries bytes (number_bytes new) old reached → Follows bytes at (number_bytes front) old → Follows bytes at (number_bytes (front ++ new)) reached
carried bytes at front new old reached carry f = subst (λ (t : List ℕ). Follows bytes at t reached) (sym (number_bytes-append front new)) (carry at (number_bytes front) f)

-- one bucket more
pub following_more : (bytes : List ℕ) (at tries buckets : ℕ) (keys : List HashedKey) (i : ℕ) (starts starts2 offsets offsets2 : Result ℕ ℕ) (count bits : ℕ) (codes codes2 : List Bool) (new : List ℕ) → i < buckets → IsFollowing bytes at tries buckets keys i starts offsets count codes
    → PutsNode true (bucket_node tries buckets keys i) codes [] codes2 new → length keys < 2 ^ 64 → bits < 2 ^ 64 → bits ≡ length codes → AreNumbers new → Carries bytes (number_bytes (count ∷ bits ∷ [])) starts starts2 → IsWithin bytes starts2 → Carries bytes (number_bytes new) offsets offsets2
    → IsWithin bytes offsets2 → IsFollowing bytes at tries buckets keys (i + 1) starts2 offsets2 (count + length new) codes2
following_more bytes at tries buckets keys i starts starts2 offsets offsets2 count bits codes codes2 new lt f puts keys-fit bits-fit bits-is new-fit one sw other ow =
    let few = following_few bytes at tries buckets keys i starts offsets count codes f in
    let counted : count + length new ≡ length (f.slots ++ new) = omega (arith, f.counted, length-append f.slots new) in
    record {
      table = f.table ++ count ∷ bits ∷ [];
      slots = f.slots ++ new;
      building = building_more tries buckets keys i f.table (f.table ++ count ∷ bits ∷ []) codes codes2 f.slots (f.slots ++ new) lt f.building (start_is f.table f.slots codes count bits f.counted bits-is)
          (puts_behind true (bucket_node tries buckets keys i) codes codes2 f.slots new puts);
      starts_within = sw;
      offsets_within = ow;
      starts_follow = λ le. carried bytes 16 f.table (count ∷ bits ∷ []) starts starts2 one (f.starts_follow le);
      offsets_follow = λ le. carried bytes at f.slots new offsets offsets2 other (f.offsets_follow le);
      counted = counted;
      sum = omega (arith, length-append f.slots new, f.sum, new_long tries buckets i keys codes codes2 new puts, bucket_total_more buckets keys i);
      table_fits = both_numbers f.table (count ∷ bits ∷ []) f.table_fits (omega (arith, few, keys-fit), (bits-fit, tt));
      slots_fit = both_numbers f.slots new f.slots_fit new-fit;
    }

followed_none : (bytes : List ℕ) (o : Option (List Node)) → o ≡ None → FollowsAll bytes None o
followed_none bytes None is = tt
followed_none bytes (Some ns) is = absurd cc

pub following_fails : (bytes : List ℕ) (at tries b : ℕ) (keys : List HashedKey) (i : ℕ) (starts offsets : Result ℕ ℕ) (count : ℕ) (codes codes2 : List Bool) (new : List ℕ) → b ≡ bucket_count (length keys) → i < b → IsFollowing bytes at tries b keys i starts offsets count codes
    → PutsNode false (bucket_node tries b keys i) codes [] codes2 new → FollowsAll bytes None (nodes_of tries keys)
following_fails bytes at tries b keys i starts offsets count codes codes2 new b-is lt f puts =
    followed_none bytes (nodes_of tries keys) (no_nodes tries b keys i f.table codes codes2 f.slots (f.slots ++ new) b-is lt f.building (puts_behind false (bucket_node tries b keys i) codes codes2 f.slots new puts))

table_long : (tries b : ℕ) (keys : List HashedKey) (nodes : List Node) → b ≡ bucket_count (length keys) → nodes_of tries keys ≡ Some nodes → 2 * b + 2 ≡ length (starts_from 0 0 nodes)
unfolding nodes_of
table_long tries b keys nodes b-is is =
    let long = nodes_long tries (bucket_count (length keys)) keys (bucket_count (length keys)) 0 nodes is in
    omega (arith, long, b-is, starts_long 0 0 nodes)

followed_some : (bytes : List ℕ) (f : Followed) (nodes : List Node) (o : Option (List Node)) → o ≡ Some nodes → FollowsNodes bytes f nodes → FollowsAll bytes (Some f) o
followed_some bytes f nodes o is h = subst (λ (x : Option (List Node)). FollowsAll bytes (Some f) x) (sym is) h

pub following_all : (bytes : List ℕ) (table tries b : ℕ) (keys : List HashedKey) (i : ℕ) (starts offsets : Result ℕ ℕ) (bits : ℕ) (made : Followed) → b ≡ bucket_count (length keys) → b ≤ i → table ≡ 2 * b + 2 → IsFollowing bytes (behind table) tries b keys i starts offsets made.count made.codes
    → made.offsets ≡ offsets → made.table ≡ table → length keys < 2 ^ 64 → bits < 2 ^ 64 → bits ≡ length made.codes → Carries bytes (number_bytes (made.count ∷ bits ∷ [])) starts made.starts → IsWithin bytes made.starts → FollowsAll bytes (Some made) (nodes_of tries keys)
following_all bytes table tries b keys i starts offsets bits made b-is ge table-is f offsets-is made-table keys-fit bits-fit bits-is one sw =
    let start = made.count ∷ bits ∷ [] in
    let few = following_few bytes (behind table) tries b keys i starts offsets made.count made.codes f in
    let all = all_nodes tries b keys i f.table (f.table ++ start) made.codes f.slots b-is ge f.building (start_is f.table f.slots made.codes made.count bits f.counted bits-is) in
    let fits : AreNumbers (f.table ++ start) = both_numbers f.table start f.table_fits (omega (arith, few, keys-fit), (bits-fit, tt)) in
    let follows : made.offsets ≡ offsets → behind made.table ≤ length bytes → Follows bytes (behind made.table) (number_bytes f.slots) made.offsets =
    λ same. rw (same, made-table) f.offsets_follow
    in
    followed_some bytes made all.nodes (nodes_of tries keys) all.nodes_are
    (record {
      starts_within = sw;
      offsets_within = subst (IsWithin bytes) (sym offsets-is) f.offsets_within;
      starts_follow = λ le. subst (λ (t : List ℕ). Follows bytes 16 (number_bytes t) made.starts) all.starts_are (carried bytes 16 f.table start starts made.starts one (f.starts_follow le));
      offsets_follow = λ le. subst (λ (t : List ℕ). Follows bytes (behind made.table) (number_bytes t) made.offsets) all.offsets_are (follows offsets-is le);
      table_is = made-table ∙ table-is ∙ table_long tries b keys all.nodes b-is all.nodes_are;
      count_is = f.counted ∙ ap length all.offsets_are;
      codes_are = all.codes_are;
      starts_fit = subst AreNumbers all.starts_are fits;
      offsets_fit = subst AreNumbers all.offsets_are f.slots_fit;
    })
