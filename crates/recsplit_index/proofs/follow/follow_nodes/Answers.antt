use Rattle.std.proofs.Common.{◌≡◌, true, false, ◌+◌, ◌*◌, ◌^◌, ◌<◌, [], le_refl, List, Bool, ℕ, Vec, Global, length, get_or, refl, ap, subst, sym, ◌∙◌, arith}
use Rattle.file_numbers.specs.Lists.{number_bytes, AreNumbers}
use Rattle.recsplit_index.specs.declared.keys.HashedKey.{HashedKey}
use Rattle.recsplit_index.specs.Keys.{hashed_keys}
use Rattle.recsplit_index.specs.Nodes.{node, PutsNode}
use Rattle.recsplit_index.specs.Index.{bucket_keys, bucket_node}
use Rattle.recsplit_index.specs.InPlace.{behind}
use Rattle.recsplit_index.proofs.KeyLists.{group_at, grouped_length, length-hashed_keys, bucket_number}
use Rattle.recsplit_index.proofs.Buildings.{group_puts}
use Rattle.recsplit_index.proofs.Alongside.{Carries, IsFollowing, following_none, following_room, following_more, following_fails, following_all}
use Rattle.recsplit_index.proofs.follow.follow_nodes.Goals as goal

-- what is put of a group, where nothing was held before
puts_here : (placed : Bool) (tries buckets i : ℕ) (keys group : List HashedKey) (codes codes2 : List Bool) (held new : List ℕ) → held ≡ [] → group ≡ bucket_keys buckets keys i → PutsNode placed (node (length group) tries 0 group) codes held codes2 new → PutsNode placed (bucket_node tries buckets keys i) codes [] codes2 new
puts_here placed tries buckets i keys group codes codes2 held new none is puts =
    group_puts placed tries buckets i keys group codes codes2 [] new is (subst (λ (h : List ℕ). PutsNode placed (node (length group) tries 0 group) codes h codes2 new) none puts)

pub loop-group-init : goal.loop-group-init
loop-group-init g c =
    let buckets = c.bucket_count-buckets.result in
    record {
      following = following_none c.args.bytes.now (behind (2 * buckets + 2)) c.args.tries buckets (hashed_keys c.args.salt c.args.words.now.words) c.start_at-starts.result c.start_at-offsets.result c.new.result c.start_at-starts.ensures.within c.start_at-offsets.ensures.within
          c.start_at-starts.ensures.text c.start_at-offsets.ensures.text c.new.ensures;
      emptied = c.new-2.ensures.items;
    }

pub returns-then-not-branch : goal.returns-then-not-branch
returns-then-not-branch g c =
    let words = c.args.words.now.words in
    let keys = hashed_keys c.args.salt words in
    let buckets = c.bucket_count-buckets.result in
    let i = c.loop-group.group-index in
    let groups = c.in_ok-groups.groups.items in
    let here = c.as_slice.result.now in
    let codes = c.loop-group.parts.codes in
    let held = c.loop-group.parts.offsets.items in
    let lt : i < length groups = omega (arith, c.loop-group-test.true, ap length c.deref-group-items.ensures.value) in
    let less : i < buckets = omega (arith, lt, grouped_length buckets groups (bucket_keys buckets keys) c.in_ok-groups.ensures) in
    let group : here ≡ bucket_keys buckets keys i =
    c.as_slice.ensures.value ∙ group_at buckets groups keys i c.group-item.result lt (c.group-item.is ∙ ap (λ (l : List (Vec HashedKey Global)). get_or l i c.group-item.result) c.deref-group-items.ensures.value) c.in_ok-groups.ensures
    in
    let puts = subst (λ (b : Bool). PutsNode b (node (length here) c.args.tries 0 here) codes held c.put_node.new.out.codes c.put_node.new.out.offsets.items) c.if-not-branch.true (c.in_ok-put_node.ensures (length here) (le_refl _)) in
    following_fails c.args.bytes.now (behind (2 * buckets + 2)) c.args.tries buckets keys i c.loop-group.starts c.loop-group.offsets c.loop-group.count codes c.put_node.new.out.codes c.put_node.new.out.offsets.items
    (bucket_number c.args.salt words c.count-keys.result buckets c.count-keys.ensures.count c.bucket_count-buckets.ensures.value) less c.loop-group.invariant.following
    (puts_here false c.args.tries buckets i keys here codes c.put_node.new.out.codes held c.put_node.new.out.offsets.items c.loop-group.invariant.emptied group puts)

pub overflow_add-count : goal.overflow_add-count
overflow_add-count g c =
    let words = c.args.words.now.words in
    let keys = hashed_keys c.args.salt words in
    let buckets = c.bucket_count-buckets.result in
    let i = c.loop-group.group-index in
    let groups = c.in_ok-groups.groups.items in
    let here = c.as_slice.result.now in
    let codes = c.loop-group.parts.codes in
    let held = c.loop-group.parts.offsets.items in
    let new = c.put_node.new.out.offsets.items in
    let lt : i < length groups = omega (arith, c.loop-group-test.true, ap length c.deref-group-items.ensures.value) in
    let group : here ≡ bucket_keys buckets keys i =
    c.as_slice.ensures.value ∙ group_at buckets groups keys i c.group-item.result lt (c.group-item.is ∙ ap (λ (l : List (Vec HashedKey Global)). get_or l i c.group-item.result) c.deref-group-items.ensures.value) c.in_ok-groups.ensures
    in
    let puts = subst (λ (b : Bool). PutsNode b (node (length here) c.args.tries 0 here) codes held c.put_node.new.out.codes new) c.if-not-branch.false (c.in_ok-put_node.ensures (length here) (le_refl _)) in
    let room = following_room c.args.bytes.now (behind (2 * buckets + 2)) c.args.tries buckets keys i c.loop-group.starts c.loop-group.offsets c.loop-group.count codes c.put_node.new.out.codes new c.loop-group.invariant.following
    (puts_here true c.args.tries buckets i keys here codes c.put_node.new.out.codes held new c.loop-group.invariant.emptied group puts)
    in
    omega (arith, room, ap length c.as_slice-slots.ensures.value, length-hashed_keys c.args.salt words, c.count-keys.ensures.fits.count)

pub loop-group-preserved : goal.loop-group-preserved
loop-group-preserved g c =
    let words = c.args.words.now.words in
    let bytes = c.args.bytes.now in
    let keys = hashed_keys c.args.salt words in
    let buckets = c.bucket_count-buckets.result in
    let at = behind (2 * buckets + 2) in
    let i = c.loop-group.group-index in
    let groups = c.in_ok-groups.groups.items in
    let here = c.as_slice.result.now in
    let codes = c.loop-group.parts.codes in
    let held = c.loop-group.parts.offsets.items in
    let new = c.put_node.new.out.offsets.items in
    let slots = c.as_slice-slots.result.now in
    let lt : i < length groups = omega (arith, c.loop-group-test.true, ap length c.deref-group-items.ensures.value) in
    let less : i < buckets = omega (arith, lt, grouped_length buckets groups (bucket_keys buckets keys) c.in_ok-groups.ensures) in
    let group : here ≡ bucket_keys buckets keys i =
    c.as_slice.ensures.value ∙ group_at buckets groups keys i c.group-item.result lt (c.group-item.is ∙ ap (λ (l : List (Vec HashedKey Global)). get_or l i c.group-item.result) c.deref-group-items.ensures.value) c.in_ok-groups.ensures
    in
    let puts = subst (λ (b : Bool). PutsNode b (node (length here) c.args.tries 0 here) codes held c.put_node.new.out.codes new) c.if-not-branch.false (c.in_ok-put_node.ensures (length here) (le_refl _)) in
    let keys_fit : length keys < 2 ^ 64 = omega (arith, length-hashed_keys c.args.salt words, c.count-keys.ensures.fits.count) in
    let fits : AreNumbers slots = c.follow_numbers-offsets.ensures.fits in
    let other : Carries bytes (number_bytes new) c.loop-group.offsets c.follow_numbers-offsets.result =
    subst (λ (l : List ℕ). Carries bytes (number_bytes l) c.loop-group.offsets c.follow_numbers-offsets.result) c.as_slice-slots.ensures.value c.follow_numbers-offsets.ensures.text
    in
    let more = following_more bytes at c.args.tries buckets keys i c.loop-group.starts c.follow_numbers-starts.result c.loop-group.offsets c.follow_numbers-offsets.result c.loop-group.count c.len-bits.result codes c.put_node.new.out.codes new less c.loop-group.invariant.following
    (puts_here true c.args.tries buckets i keys here codes c.put_node.new.out.codes held new c.loop-group.invariant.emptied group puts) keys_fit (omega arith) c.len-bits.ensures (subst AreNumbers c.as_slice-slots.ensures.value fits) c.follow_numbers-starts.ensures.text c.follow_numbers-starts.ensures.within
    other c.follow_numbers-offsets.ensures.within
    in
    record {
      following = subst (λ (n : ℕ). IsFollowing bytes at c.args.tries buckets keys (i + 1) c.follow_numbers-starts.result c.follow_numbers-offsets.result (c.loop-group.count + n) c.put_node.new.out.codes) (sym (ap length c.as_slice-slots.ensures.value)) more;
      emptied = c.clear.ensures.items;
    }

pub returns : goal.returns
returns g c =
    let words = c.args.words.now.words in
    let bytes = c.args.bytes.now in
    let keys = hashed_keys c.args.salt words in
    let buckets = c.bucket_count-buckets.result in
    let table = 2 * buckets + 2 in
    let groups = c.in_ok-groups.groups.items in
    let len = grouped_length buckets groups (bucket_keys buckets keys) c.in_ok-groups.ensures in
    let keys_fit : length keys < 2 ^ 64 = omega (arith, length-hashed_keys c.args.salt words, c.count-keys.ensures.fits.count) in
    following_all bytes table c.args.tries buckets keys c.loop-group.group-index c.loop-group.starts c.loop-group.offsets c.len-total.result
    (record { starts = c.follow_numbers-starts-2.result; offsets = c.loop-group.offsets; table = table; count = c.loop-group.count; codes = c.loop-group.parts.codes })
    (bucket_number c.args.salt words c.count-keys.result buckets c.count-keys.ensures.count c.bucket_count-buckets.ensures.value) (omega (arith, c.loop-group-test.false, len, ap length c.deref-group-items.ensures.value)) refl c.loop-group.invariant.following refl refl keys_fit (omega arith)
    c.len-total.ensures c.follow_numbers-starts-2.ensures.text c.follow_numbers-starts-2.ensures.within
