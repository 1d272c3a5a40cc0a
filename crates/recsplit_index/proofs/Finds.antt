-- A bucket in the bytes of form 1.
use Rattle.std.proofs.Common.{◌≡◌, ℕ, zero, suc, ◌+◌, ◌-◌, ◌*◌, ◌/◌, ◌<◌, ◌≤◌, Bool, ◌==◌, List, [], ◌∷◌, ◌++◌, length, map, take, drop, get_or, Option, Some, refl, sym, ap, subst, ◌∙◌, arith, zero-add}
use Rattle.std.specs.Prelude.{slice_get, IsSomeAnd}
use Rattle.std.specs.List.{AllByRecursion}
use Rattle.std.specs.Option.{option_map}
use Rattle.std.specs.Int.{w64, from_be_bytes}
use Rattle.std.proofs.lemmas.Bool.{eq-eqb}
use Rattle.std.proofs.lemmas.Option.{slice_get-get_or, get_or_from_slice_get, slice_get_within}
use Rattle.std.proofs.lemmas.List.{length-append, length-map, get_or-map, drop_at, take-append-le, take_all}
use Rattle.std.proofs.lemmas.List.Concat.{flat_map-append}
use Rattle.bit_store.specs.Bits.{bits_of, text_of}
use Rattle.bit_store.specs.Rice.{StandsAt}
use Rattle.bit_store.proofs.Texts.{length-bytes_from, bits_of-text_of}
use Rattle.recsplit_index.specs.declared.keys.HashedKey.{HashedKey}
use Rattle.std.specs.List.{range_with_len}
use Rattle.std.proofs.lemmas.List.FromFn.{get_or-map-range_with_len, length-map-range_with_len}
use Rattle.recsplit_index.specs.Hash.{scaled, key_hash}
use Rattle.word_file.specs.Paired.{key_count, key_at, key_offset}
use Rattle.recsplit_index.specs.Keys.{hashed_key, hashed_keys, IsNoKey}
use Rattle.recsplit_index.specs.Nodes.{Node, offsets_of}
use Rattle.recsplit_index.specs.Spelling.{spelling}
use Rattle.recsplit_index.specs.Index.{bucket_count, bucket_keys, bucket_node, nodes_from, nodes_of, starts_from, slots_of, bits_of_nodes, split_index}
use Rattle.recsplit_index.specs.Walks.{IsNodeAt, HasNode, IsSlotOf, IsSplitOver, IsOnly, HasNone}
use Rattle.recsplit_index.proofs.Layouts.{laid_long, after_offsets, read_number}
use Rattle.recsplit_index.proofs.Every.{some_is, all_weaker, all_at, all_filtered, all_unfiltered, all_among, get_front, get_back}
use Rattle.recsplit_index.proofs.Shapes.{map_some, then_some, node_long, node_all}

-- ---- one node among all

pub record IsCut (tries buckets : ℕ) (keys : List HashedKey) (b : ℕ) (nodes : List Node) (i : ℕ) : Type 0 where
  pub front : List Node
  pub here : Node
  pub back : List Node
  pub parts : nodes ≡ front ++ here ∷ back
  pub place : length front ≡ i
  pub node_is : bucket_node tries buckets keys (b + i) ≡ Some here

pub record IsFirst (tries buckets : ℕ) (keys : List HashedKey) (more b : ℕ) (nodes : List Node) : Type 0 where
  pub first : Node
  pub rest : List Node
  pub first_is : bucket_node tries buckets keys b ≡ Some first
  pub rest_is : nodes_from tries buckets keys more (b + 1) ≡ Some rest
  pub whole : first ∷ rest ≡ nodes

first_of : (tries buckets : ℕ) (keys : List HashedKey) (more b : ℕ) (nodes : List Node) → nodes_from tries buckets keys (suc more) b ≡ Some nodes → IsFirst tries buckets keys more b nodes
unfolding nodes_from
first_of tries buckets keys more b nodes is =
    let one = then_some (λ here. option_map (λ rest. here ∷ rest) (nodes_from tries buckets keys more (b + 1))) (bucket_node tries buckets keys b) nodes is in
    let others = map_some (λ rest. one.0 ∷ rest) (nodes_from tries buckets keys more (b + 1)) nodes one.2 in
    record { first = one.0; rest = others.0; first_is = one.1; rest_is = others.1; whole = others.2 }

nodes_cut : (tries buckets : ℕ) (keys : List HashedKey) (more b i : ℕ) (nodes : List Node) → nodes_from tries buckets keys more b ≡ Some nodes → i < more → IsCut tries buckets keys b nodes i
nodes_cut tries buckets keys zero b i nodes is lt = absurd (omega arith)
nodes_cut tries buckets keys (suc more) b zero nodes is lt =
    let f = first_of tries buckets keys more b nodes is in
    let at : b + 0 ≡ b = omega arith in
    record { front = []; here = f.first; back = f.rest; parts = sym f.whole; place = refl; node_is = ap (bucket_node tries buckets keys) at ∙ f.first_is }
nodes_cut tries buckets keys (suc more) b (suc i) nodes is lt =
    let f = first_of tries buckets keys more b nodes is in
    let c = nodes_cut tries buckets keys more (b + 1) i f.rest f.rest_is (omega arith) in
    let at : b + suc i ≡ b + 1 + i = omega arith in
    record {
      front = f.first ∷ c.front;
      here = c.here;
      back = c.back;
      parts = sym f.whole ∙ ap (λ (l : List Node). f.first ∷ l) c.parts;
      place = omega (arith, c.place);
      node_is = ap (bucket_node tries buckets keys) at ∙ c.node_is;
    }

pub nodes_long : (tries buckets : ℕ) (keys : List HashedKey) (more b : ℕ) (nodes : List Node) → nodes_from tries buckets keys more b ≡ Some nodes → length nodes ≡ more
unfolding nodes_from
nodes_long tries buckets keys zero b nodes is = ap length (sym (some_is [] nodes is))
nodes_long tries buckets keys (suc more) b nodes is =
    let f = first_of tries buckets keys more b nodes is in
    omega (arith, ap length f.whole, nodes_long tries buckets keys more (b + 1) f.rest f.rest_is)

-- ---- what stands before a bucket

pub starts_long : (k s : ℕ) (nodes : List Node) → length (starts_from k s nodes) ≡ 2 * length nodes + 2
unfolding starts_from
starts_long k s [] = omega arith
starts_long k s (n ∷ ns) = omega (arith, starts_long (k + length n.slots) (s + length n.bits) ns)

starts_head : (k s : ℕ) (nodes : List Node) → get_or (starts_from k s nodes) 0 0 ≡ k
unfolding starts_from
starts_head k s [] = refl
starts_head k s (n ∷ ns) = refl

keys_before : (front : List Node) (n : Node) (back : List Node) (k s i : ℕ) → i ≡ 2 * length front → get_or (starts_from k s (front ++ n ∷ back)) i 0 ≡ k + length (slots_of front)
unfolding starts_from
keys_before [] n back k s zero is = omega arith
keys_before [] n back k s (suc i) is = absurd (omega (arith, is))
keys_before (m ∷ front) n back k s zero is = absurd (omega (arith, is))
keys_before (m ∷ front) n back k s (suc zero) is = absurd (omega (arith, is))
keys_before (m ∷ front) n back k s (suc (suc i)) is =
    omega (arith, keys_before front n back (k + length m.slots) (s + length m.bits) i (omega (arith, is)), length-append m.slots (slots_of front))

bits_before : (front : List Node) (n : Node) (back : List Node) (k s i : ℕ) → i ≡ 2 * length front + 1 → get_or (starts_from k s (front ++ n ∷ back)) i 0 ≡ s + length (bits_of_nodes front)
unfolding starts_from
bits_before [] n back k s zero is = absurd (omega (arith, is))
bits_before [] n back k s (suc zero) is = omega arith
bits_before [] n back k s (suc (suc i)) is = absurd (omega (arith, is))
bits_before (m ∷ front) n back k s zero is = absurd (omega (arith, is))
bits_before (m ∷ front) n back k s (suc zero) is = absurd (omega (arith, is))
bits_before (m ∷ front) n back k s (suc (suc i)) is =
    omega (arith, bits_before front n back (k + length m.slots) (s + length m.bits) i (omega (arith, is)), length-append m.bits (bits_of_nodes front))

keys_behind : (front : List Node) (n : Node) (back : List Node) (k s i : ℕ) → i ≡ 2 * length front + 2 → get_or (starts_from k s (front ++ n ∷ back)) i 0 ≡ k + length (slots_of front) + length n.slots
unfolding starts_from
keys_behind [] n back k s zero is = absurd (omega (arith, is))
keys_behind [] n back k s (suc zero) is = absurd (omega (arith, is))
keys_behind [] n back k s (suc (suc zero)) is = omega (arith, starts_head (k + length n.slots) (s + length n.bits) back)
keys_behind [] n back k s (suc (suc (suc i))) is = absurd (omega (arith, is))
keys_behind (m ∷ front) n back k s zero is = absurd (omega (arith, is))
keys_behind (m ∷ front) n back k s (suc zero) is = absurd (omega (arith, is))
keys_behind (m ∷ front) n back k s (suc (suc i)) is =
    omega (arith, keys_behind front n back (k + length m.slots) (s + length m.bits) i (omega (arith, is)), length-append m.slots (slots_of front))

stands_between : (a b c : List Bool) → StandsAt (a ++ (b ++ c)) (length a) b
stands_between a b c = ap (take (length b)) (drop_at a (b ++ c) (length a) refl) ∙ take-append-le (length b) b c (omega arith) ∙ take_all (length b) b (omega arith)

-- ---- a bucket in the bytes

get_or_left : (xs ys : List ℕ) (i d : ℕ) → i < length xs → get_or (xs ++ ys) i d ≡ get_or xs i d
get_or_left [] ys i d lt = absurd (omega arith)
get_or_left (x ∷ xs) ys zero d lt = refl
get_or_left (x ∷ xs) ys (suc i) d lt = get_or_left xs ys i d (omega arith)

get_or_right : (xs ys : List ℕ) (i j d : ℕ) → j ≡ length xs + i → get_or (xs ++ ys) j d ≡ get_or ys i d
get_or_right [] ys i j d is = let e : j ≡ i = omega (arith, is) in ap (λ (n : ℕ). get_or ys n d) e
get_or_right (x ∷ xs) ys i zero d is = absurd (omega (arith, is))
get_or_right (x ∷ xs) ys i (suc j) d is = get_or_right xs ys i j d (omega (arith, is))

-- what holds of all the bytes
pub record IsWhole (keys : List HashedKey) (starts count bits : ℕ) (bytes : List ℕ) : Type 0 where
  pub starts_are : starts ≡ 2 * bucket_count (length keys) + 2
  pub long : 16 + 8 * (starts + count) ≤ length bytes
  pub bits_fit : bits ≤ 8 * length (drop (16 + 8 * (starts + count)) bytes)

-- what holds of a bucket
pub record IsBucket (keys : List HashedKey) (starts count bits : ℕ) (bytes : List ℕ) (b : ℕ) : Type 0 where
  pub here : Node
  pub first : ℕ
  pub bit : ℕ
  pub reads_first : from_be_bytes w64 (drop (16 + 8 * (2 * b)) bytes) ≡ first
  pub reads_bit : from_be_bytes w64 (drop (16 + 8 * (2 * b + 1)) bytes) ≡ bit
  pub reads_next : from_be_bytes w64 (drop (16 + 8 * (2 * b + 2)) bytes) ≡ first + length (bucket_keys (bucket_count (length keys)) keys b)
  pub there : IsNodeAt (take bits (bits_of (drop (16 + 8 * (starts + count)) bytes))) bit 0 (bucket_keys (bucket_count (length keys)) keys b) here
  pub room : first + length (bucket_keys (bucket_count (length keys)) keys b) ≤ count
  pub offset : (slot : ℕ) (key : HashedKey) → slice_get here.slots slot ≡ Some key → from_be_bytes w64 (drop (16 + 8 * (starts + first + slot)) bytes) ≡ key.offset

whole_text : (keys : List HashedKey) (starts count bits : ℕ) (bytes : List ℕ) (s : IsSplitOver keys starts count bits bytes) → drop (16 + 8 * (starts + count)) bytes ≡ text_of (bits_of_nodes s.nodes)
unfolding split_index
whole_text keys starts count bits bytes s =
    let x = split_index s.salt s.nodes in
    ap (λ (b : List ℕ). drop (16 + 8 * (starts + count)) b) s.spelled.spelled
    ∙ ap (λ (n : ℕ). drop (16 + 8 * (n + count)) (spelling x)) s.spelled.starts_is ∙ ap (λ (n : ℕ). drop (16 + 8 * (length x.starts + n)) (spelling x)) s.spelled.count_is
    ∙ after_offsets 1 s.salt x.starts x.offsets (text_of x.bits)

pub whole_of : (keys : List HashedKey) (starts count bits : ℕ) (bytes : List ℕ) → IsSplitOver keys starts count bits bytes → IsWhole keys starts count bits bytes
unfolding split_index nodes_of
whole_of keys starts count bits bytes s =
    let B = bucket_count (length keys) in
    let text = whole_text keys starts count bits bytes s in
    let many : length s.nodes ≡ B = nodes_long s.tries B keys B 0 s.nodes s.nodes_are in
    let starts_len : starts ≡ length (starts_from 0 0 s.nodes) = s.spelled.starts_is in
    let count_len : count ≡ length (offsets_of (slots_of s.nodes)) = s.spelled.count_is in
    let bits_len : bits ≡ length (bits_of_nodes s.nodes) = s.spelled.bits_is in
    let all : length bytes ≡ 16 + (8 * (length (starts_from 0 0 s.nodes) + length (offsets_of (slots_of s.nodes))) + length (text_of (bits_of_nodes s.nodes))) = ap length s.spelled.spelled ∙ laid_long 1 s.salt (starts_from 0 0 s.nodes) (offsets_of (slots_of s.nodes)) (text_of (bits_of_nodes s.nodes)) in
    record {
      starts_are = omega (arith, starts_len, starts_long 0 0 s.nodes, many);
      long = omega (arith, all, starts_len, count_len);
      bits_fit = omega (arith, ap length text, length-bytes_from ((length (bits_of_nodes s.nodes) + 7) / 8) (bits_of_nodes s.nodes), bits_len);
    }

pub bucket_of : (keys : List HashedKey) (starts count bits : ℕ) (bytes : List ℕ) (b : ℕ) → b < bucket_count (length keys) → IsSplitOver keys starts count bits bytes → IsBucket keys starts count bits bytes b
unfolding split_index nodes_of
bucket_of keys starts count bits bytes b lt s =
    let B = bucket_count (length keys) in
    let group = bucket_keys B keys b in
    let c = nodes_cut s.tries B keys B 0 b s.nodes s.nodes_are lt in
    let at : 0 + b ≡ b = zero-add b in
    let made : bucket_node s.tries B keys b ≡ Some c.here = ap (bucket_node s.tries B keys) (sym at) ∙ c.node_is in
    let S = starts_from 0 0 s.nodes in
    let O = offsets_of (slots_of s.nodes) in
    let whole = whole_of keys starts count bits bytes s in
    let starts_len : starts ≡ length S = s.spelled.starts_is in
    let count_len : count ≡ length O = s.spelled.count_is in
    let read : (k : ℕ) → k < length S + length O → from_be_bytes w64 (drop (16 + 8 * k) bytes) ≡ get_or (S ++ O) k 0 = λ k less. read_number 1 s.salt S O (text_of (bits_of_nodes s.nodes)) bytes k s.spelled.starts_fit s.spelled.offsets_fit s.spelled.spelled less in
    let start : (k : ℕ) → k < length S → from_be_bytes w64 (drop (16 + 8 * k) bytes) ≡ get_or S k 0 = λ k less. read k (omega arith) ∙ get_or_left S O k 0 less in
    let cut : (k : ℕ) → get_or S k 0 ≡ get_or (starts_from 0 0 (c.front ++ c.here ∷ c.back)) k 0 = λ k. ap (λ (l : List Node). get_or (starts_from 0 0 l) k 0) c.parts in
    let slots_parts : slots_of s.nodes ≡ slots_of c.front ++ (c.here.slots ++ slots_of c.back) = ap (λ (l : List Node). slots_of l) c.parts ∙ flat_map-append (λ m. m.slots) c.front (c.here ∷ c.back) in
    let bits_parts : bits_of_nodes s.nodes ≡ bits_of_nodes c.front ++ (c.here.bits ++ bits_of_nodes c.back) = ap (λ (l : List Node). bits_of_nodes l) c.parts ∙ flat_map-append (λ m. m.bits) c.front (c.here ∷ c.back) in
    let long : length c.here.slots ≡ length group = node_long (length group) s.tries 0 group c.here made in
    let all_slots : length (slots_of s.nodes) ≡ length (slots_of c.front) + (length c.here.slots + length (slots_of c.back)) =
    ap length slots_parts ∙ length-append (slots_of c.front) (c.here.slots ++ slots_of c.back) ∙ ap (λ (n : ℕ). length (slots_of c.front) + n) (length-append c.here.slots (slots_of c.back))
    in
    let offsets_long : length O ≡ length (slots_of s.nodes) = length-map (slots_of s.nodes) (λ key. key.offset) in
    let view : take bits (bits_of (drop (16 + 8 * (starts + count)) bytes)) ≡ bits_of_nodes s.nodes =
    ap (λ (t : List ℕ). take bits (bits_of t)) (whole_text keys starts count bits bytes s) ∙ ap (λ (n : ℕ). take n (bits_of (text_of (bits_of_nodes s.nodes)))) s.spelled.bits_is ∙ bits_of-text_of (bits_of_nodes s.nodes)
    in
    record {
      here = c.here;
      first = length (slots_of c.front);
      bit = length (bits_of_nodes c.front);
      reads_first = start (2 * b) (omega (arith, starts_len, whole.starts_are)) ∙ cut (2 * b) ∙ keys_before c.front c.here c.back 0 0 (2 * b) (omega (arith, c.place)) ∙ zero-add (length (slots_of c.front));
      reads_bit = start (2 * b + 1) (omega (arith, starts_len, whole.starts_are)) ∙ cut (2 * b + 1) ∙ bits_before c.front c.here c.back 0 0 (2 * b + 1) (omega (arith, c.place)) ∙ zero-add (length (bits_of_nodes c.front));
      reads_next = start (2 * b + 2) (omega (arith, starts_len, whole.starts_are)) ∙ cut (2 * b + 2) ∙ keys_behind c.front c.here c.back 0 0 (2 * b + 2) (omega (arith, c.place)) ∙ omega (arith, long);
      there = record {
        splits = length group;
        tries = s.tries;
        enough = omega arith;
        few = s.few;
        node_is = made;
        stands = subst (λ (v : List Bool). StandsAt v (length (bits_of_nodes c.front)) c.here.bits) (sym (view ∙ bits_parts)) (stands_between (bits_of_nodes c.front) c.here.bits (bits_of_nodes c.back));
      };
      room = omega (arith, all_slots, offsets_long, count_len, long);
      offset = λ slot key found.
          let within = slice_get_within c.here.slots slot key found in
          let place = length (slots_of c.front) + slot in
          let among : slice_get (slots_of s.nodes) place ≡ Some key =
          ap (λ (l : List HashedKey). slice_get l place) slots_parts ∙ get_back (slots_of c.front) (c.here.slots ++ slots_of c.back) slot place (Some key) refl (get_front c.here.slots (slots_of c.back) slot key found)
          in
          let less : place < length (slots_of s.nodes) = omega (arith, all_slots, within) in
          let sum : starts + length (slots_of c.front) + slot ≡ length S + place = omega (arith, starts_len) in
          ap (λ (k : ℕ). from_be_bytes w64 (drop (16 + 8 * k) bytes)) sum ∙ read (length S + place) (omega (arith, less, offsets_long)) ∙ get_or_right S O place (length S + place) 0 refl
          ∙ get_or-map (λ key. key.offset) (slots_of s.nodes) place key 0 less ∙ ap (λ (x : HashedKey). x.offset) (get_or_from_slice_get (slots_of s.nodes) place key key among);
    }

-- ---- what is found there

-- no bucket, no key
pub no_buckets : (keys : List HashedKey) (starts count bits hash : ℕ) (bytes : List ℕ) → starts / 2 - 1 ≡ 0 → IsSplitOver keys starts count bits bytes → HasNone hash keys
no_buckets [] starts count bits hash bytes none s = tt
no_buckets (key ∷ keys) starts count bits hash bytes none s = absurd (omega (arith, none, (whole_of (key ∷ keys) starts count bits bytes s).starts_are))

into_bucket : (buckets hash b : ℕ) (P : HashedKey → Type 0) (keys : List HashedKey) → b ≡ scaled hash buckets → AllByRecursion P (bucket_keys buckets keys b) → AllByRecursion (λ key. key.hash ≡ hash → P key) keys
unfolding bucket_keys
into_bucket buckets hash b P keys b-is all =
    all_unfiltered (λ key. key.hash ≡ hash) P (λ key. scaled key.hash buckets == b) keys (λ key hashed. eq-eqb (scaled key.hash buckets) b (ap (λ (h : ℕ). scaled h buckets) hashed ∙ sym b-is)) all

empty_all : (P : HashedKey → Type 0) (keys : List HashedKey) → length keys ≡ 0 → AllByRecursion P keys
empty_all P [] none = tt
empty_all P (key ∷ keys) none = absurd (omega (arith, none))

pub empty_bucket : (keys : List HashedKey) (hash b : ℕ) → b ≡ scaled hash (bucket_count (length keys)) → length (bucket_keys (bucket_count (length keys)) keys b) ≡ 0 → HasNone hash keys
empty_bucket keys hash b b-is none = into_bucket (bucket_count (length keys)) hash b (λ _. ⊥) keys b-is (empty_all (λ _. ⊥) (bucket_keys (bucket_count (length keys)) keys b) none)

pub one_found : (keys : List HashedKey) (starts count bits : ℕ) (bytes : List ℕ) (hash b slot offset : ℕ) (k : IsBucket keys starts count bits bytes b) → b ≡ scaled hash (bucket_count (length keys)) → IsSlotOf hash slot (bucket_keys (bucket_count (length keys)) keys b) k.here.slots
    → offset ≡ from_be_bytes w64 (drop (16 + 8 * (starts + k.first + slot)) bytes) → IsOnly hash offset keys
unfolding bucket_keys
one_found keys starts count bits bytes hash b slot offset k b-is found offset-is =
    let B = bucket_count (length keys) in
    let group = bucket_keys B keys b in
    let d : HashedKey = record { hash = 0; offset = 0 } in
    let long : length k.here.slots ≡ length group = node_long k.there.splits k.there.tries 0 group k.here k.there.node_is in
    let within : slot < length k.here.slots = omega (arith, long, found.within) in
    let key = get_or k.here.slots slot d in
    let stands : slice_get k.here.slots slot ≡ Some key = slice_get-get_or k.here.slots slot d within in
    let P : HashedKey → Type 0 = λ x. (i : ℕ) × (slice_get keys i ≡ Some x) in
    let among : P key = all_at P k.here.slots slot d within (node_all P k.there.splits k.there.tries 0 group k.here k.there.node_is (all_filtered P (λ other. scaled other.hash B == b) keys (all_among keys))) in
    record {
      place = among.0;
      key = key;
      key_is = among.1;
      offset_is = offset-is ∙ k.offset slot key stands;
      only =
          all_weaker (λ other. other.hash ≡ hash → other.hash ≡ hash → slice_get k.here.slots slot ≡ Some other) (λ other. other.hash ≡ hash → other ≡ key) keys (λ other f hashed. some_is other key (sym (f hashed hashed) ∙ stands))
          (into_bucket B hash b (λ other. other.hash ≡ hash → slice_get k.here.slots slot ≡ Some other) keys b-is found.only);
    }

-- what is read of the bucket of a hash
pub record IsRead (keys : List HashedKey) (starts count bits hash : ℕ) (bytes : List ℕ) (bucket first bit next : ℕ) : Type 0 where
  pub read : IsBucket keys starts count bits bytes bucket
  pub bucket_is : bucket ≡ scaled hash (bucket_count (length keys))
  pub first_is : first ≡ read.first
  pub order : first ≤ next
  pub size_is : next - first ≡ length (bucket_keys (bucket_count (length keys)) keys bucket)
  pub there : IsNodeAt (take bits (bits_of (drop (16 + 8 * (starts + count)) bytes))) bit 0 (bucket_keys (bucket_count (length keys)) keys bucket) read.here

pub read_of : (keys : List HashedKey) (starts count bits hash : ℕ) (bytes : List ℕ) (bucket first bit next : ℕ) → bucket ≡ scaled hash (starts / 2 - 1) → bucket < starts / 2 - 1 → first ≡ from_be_bytes w64 (drop (16 + 8 * (2 * bucket)) bytes) → bit ≡ from_be_bytes w64 (drop (16 + 8 * (2 * bucket + 1)) bytes)
    → next ≡ from_be_bytes w64 (drop (16 + 8 * (2 * bucket + 2)) bytes) → IsSplitOver keys starts count bits bytes → IsRead keys starts count bits hash bytes bucket first bit next
read_of keys starts count bits hash bytes bucket first bit next bucket-is lt first-is bit-is next-is s =
    let whole = whole_of keys starts count bits bytes s in
    let all : starts / 2 - 1 ≡ bucket_count (length keys) = omega (arith, whole.starts_are) in
    let k = bucket_of keys starts count bits bytes bucket (subst (λ (n : ℕ). bucket < n) all lt) s in
    let group = bucket_keys (bucket_count (length keys)) keys bucket in
    let one : first ≡ k.first = first-is ∙ k.reads_first in
    let two : next ≡ k.first + length group = next-is ∙ k.reads_next in
    record {
      read = k;
      bucket_is = bucket-is ∙ ap (scaled hash) all;
      first_is = one;
      order = omega (arith, one, two);
      size_is = omega (arith, one, two);
      there = subst (λ (n : ℕ). IsNodeAt (take bits (bits_of (drop (16 + 8 * (starts + count)) bytes))) n 0 group k.here) (sym (bit-is ∙ k.reads_bit)) k.there;
    }

pub node_read : (keys : List HashedKey) (starts count bits hash : ℕ) (bytes : List ℕ) (bucket first bit next : ℕ) → IsRead keys starts count bits hash bytes bucket first bit next → HasNode (take bits (bits_of (drop (16 + 8 * (starts + count)) bytes))) bit 0 (next - first)
node_read keys starts count bits hash bytes bucket first bit next r = record { keys = bucket_keys (bucket_count (length keys)) keys bucket; built = r.read.here; size_is = r.size_is; there = r.there }

pub none_read : (keys : List HashedKey) (starts count bits hash : ℕ) (bytes : List ℕ) (bucket first bit next : ℕ) → next - first ≡ 0 → IsRead keys starts count bits hash bytes bucket first bit next → HasNone hash keys
none_read keys starts count bits hash bytes bucket first bit next none r = empty_bucket keys hash bucket r.bucket_is (sym r.size_is ∙ none)

-- a slot that a walk gave
abbrev pub LeadsIn : List Bool → ℕ → ℕ → ℕ → Option ℕ → Type 0
LeadsIn bits bit size hash result = (keys : List HashedKey) (n : Node) → size ≡ length keys → IsNodeAt bits bit 0 keys n → IsSomeAnd result (λ slot. IsSlotOf hash slot keys n.slots)

slot_there : (P : ℕ → Type 0) (result : Option ℕ) (slot : ℕ) → result ≡ Some slot → IsSomeAnd result P → P slot
slot_there P result slot is p = subst (λ (o : Option ℕ). IsSomeAnd o P) is p

pub slot_read : (keys : List HashedKey) (starts count bits hash : ℕ) (bytes : List ℕ) (bucket first bit next slot : ℕ) (result : Option ℕ) (r : IsRead keys starts count bits hash bytes bucket first bit next)
    → LeadsIn (take bits (bits_of (drop (16 + 8 * (starts + count)) bytes))) bit (next - first) hash result → result ≡ Some slot → IsSlotOf hash slot (bucket_keys (bucket_count (length keys)) keys bucket) r.read.here.slots
slot_read keys starts count bits hash bytes bucket first bit next slot result r leads is =
    let group = bucket_keys (bucket_count (length keys)) keys bucket in
    slot_there (λ (x : ℕ). IsSlotOf hash x group r.read.here.slots) result slot is (leads group r.read.here r.size_is r.there)

pub slot_room : (keys : List HashedKey) (starts count bits hash : ℕ) (bytes : List ℕ) (bucket first bit next slot : ℕ) (result : Option ℕ) (r : IsRead keys starts count bits hash bytes bucket first bit next)
    → LeadsIn (take bits (bits_of (drop (16 + 8 * (starts + count)) bytes))) bit (next - first) hash result → result ≡ Some slot → first + slot < count
slot_room keys starts count bits hash bytes bucket first bit next slot result r leads is =
    let found = slot_read keys starts count bits hash bytes bucket first bit next slot result r leads is in
    omega (arith, found.within, r.first_is, r.read.room)

pub only_read : (keys : List HashedKey) (starts count bits hash : ℕ) (bytes : List ℕ) (bucket first bit next slot offset : ℕ) (result : Option ℕ) (r : IsRead keys starts count bits hash bytes bucket first bit next)
    → LeadsIn (take bits (bits_of (drop (16 + 8 * (starts + count)) bytes))) bit (next - first) hash result → result ≡ Some slot → offset ≡ from_be_bytes w64 (drop (16 + 8 * (starts + first + slot)) bytes) → IsOnly hash offset keys
only_read keys starts count bits hash bytes bucket first bit next slot offset result r leads is offset-is =
    one_found keys starts count bits bytes hash bucket slot offset r.read r.bucket_is (slot_read keys starts count bits hash bytes bucket first bit next slot result r leads is)
    (offset-is ∙ ap (λ (n : ℕ). from_be_bytes w64 (drop (16 + 8 * (starts + n + slot)) bytes)) r.first_is)

-- ---- the key that stands there

pub no_hash : (salt : ℕ) (words : List (List ℕ)) (key : List ℕ) (hash : ℕ) → hash ≡ key_hash salt key → HasNone hash (hashed_keys salt words) → IsNoKey words key
unfolding hashed_keys
no_hash salt words key hash hash-is none = λ place within is.
    let f = hashed_key salt words in
    let n = key_count words in
    let here : get_or (map f (range_with_len 0 n)) place (f place) ≡ f place = get_or-map-range_with_len f 0 n place place (f place) within (zero-add place) in
    let long : place < length (map f (range_with_len 0 n)) = omega (arith, length-map-range_with_len f 0 n) in
    let not_it = all_at (λ k. k.hash ≡ hash → ⊥) (map f (range_with_len 0 n)) place (f place) long none in
    not_it (ap (λ (k : HashedKey). k.hash) here ∙ ap (key_hash salt) is ∙ sym hash-is)

pub record IsOnlyAt (salt : ℕ) (words : List (List ℕ)) (hash offset : ℕ) : Type 0 where
  pub place : ℕ
  pub within : place < key_count words
  pub offset_is : offset ≡ key_offset words place
  pub only : (other : ℕ) → other < key_count words → key_hash salt (key_at words other) ≡ hash → key_offset words other ≡ offset

pub only_at : (salt : ℕ) (words : List (List ℕ)) (hash offset : ℕ) → IsOnly hash offset (hashed_keys salt words) → IsOnlyAt salt words hash offset
unfolding hashed_keys
only_at salt words hash offset o =
    let f = hashed_key salt words in
    let n = key_count words in
    let keys = map f (range_with_len 0 n) in
    let long = length-map-range_with_len f 0 n in
    let within : o.place < n = omega (arith, slice_get_within keys o.place o.key o.key_is, long) in
    let is : o.key ≡ f o.place = sym (get_or_from_slice_get keys o.place o.key o.key o.key_is) ∙ get_or-map-range_with_len f 0 n o.place o.place o.key within (zero-add o.place) in
    record {
      place = o.place;
      within = within;
      offset_is = o.offset_is ∙ ap (λ (k : HashedKey). k.offset) is;
      only = λ other less hashed.
          let here : get_or keys other o.key ≡ f other = get_or-map-range_with_len f 0 n other other o.key less (zero-add other) in
          let it = all_at (λ k. k.hash ≡ hash → k ≡ o.key) keys other o.key (omega (arith, long)) o.only in
          ap (λ (k : HashedKey). k.offset) (sym here ∙ it (ap (λ (k : HashedKey). k.hash) here ∙ hashed)) ∙ sym o.offset_is;
    }
