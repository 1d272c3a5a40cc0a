use Rattle.std.proofs.Common.{ℕ, ◌*◌, ap, sym, ◌∙◌}
use Rattle.std.proofs.lemmas.Bool.{false≢true}
use Rattle.recsplit_index.specs.Hash.{key_hash}
use Rattle.recsplit_index.specs.Keys.{hashed_keys, IsNoKey}
use Rattle.recsplit_index.specs.Walks.{HasNone}
use Rattle.recsplit_index.proofs.Layouts.{held_as}
use Rattle.recsplit_index.proofs.Finds.{no_hash}
use Rattle.recsplit_index.proofs.Plains.{plain_held, split_held, none_any, none_is, some_is_only, only_place, only_found, only_none}
use Rattle.recsplit_index.proofs.file.HashIndex.find.Goals as goal

pub find_sorted-requires : goal.find_sorted-requires
find_sorted-requires g c =
    let f = c.self.inside in
    plain_held c.args.words.now.words c.args.self.now f.form f.salt f.starts f.count f.bits f.bytes c.as_slice-bytes.result.now c.requires c.if-self-eq0.true (held_as c.args.self.now c.self.invariant c.self.view_is) c.as_slice-bytes.ensures

pub offset_of-requires : goal.offset_of-requires
offset_of-requires g c =
    let f = c.self.inside in (
      hashed_keys f.salt c.args.words.now.words,
      split_held c.args.words.now.words c.args.self.now f.form f.salt f.starts f.count f.bits f.bytes c.as_slice-bytes.result.now c.requires c.if-self-eq0.false (held_as c.args.self.now c.self.invariant c.self.view_is) c.as_slice-bytes.ensures,
    )

pub returns-in_err-offset-clause-none : goal.returns-in_err-offset-clause-none
returns-in_err-offset-clause-none g c =
    let f = c.self.inside in
    let words = c.args.words.now.words in
    let keys = hashed_keys f.salt words in
    let over = split_held words c.args.self.now f.form f.salt f.starts f.count f.bits f.bytes c.as_slice-bytes.result.now c.requires c.if-self-eq0.false (held_as c.args.self.now c.self.invariant c.self.view_is) c.as_slice-bytes.ensures in
    let hash = c.key_hash-hash.ensures ∙ ap (λ (s : ℕ). key_hash s c.args.key.now) c.from.ensures in
    let none : HasNone c.key_hash-hash.result keys = none_is (HasNone c.key_hash-hash.result keys) c.offset_of.result c.in_err-offset.was (c.offset_of.ensures.none keys over) in
    none_any (IsNoKey words c.args.key.now) c.from_residual.result (no_hash f.salt words c.args.key.now c.key_hash-hash.result hash none)

pub is_key-requires : goal.is_key-requires
is_key-requires g c =
    let f = c.self.inside in
    let words = c.args.words.now.words in
    let keys = hashed_keys f.salt words in
    let over = split_held words c.args.self.now f.form f.salt f.starts f.count f.bits f.bytes c.as_slice-bytes.result.now c.requires c.if-self-eq0.false (held_as c.args.self.now c.self.invariant c.self.view_is) c.as_slice-bytes.ensures in
    let o = some_is_only f.salt words c.key_hash-hash.result c.in_ok-offset.offset c.offset_of.result c.in_ok-offset.was (c.offset_of.ensures.found keys over) in
    (2 * o.place, only_place f.salt words c.key_hash-hash.result c.in_ok-offset.offset o)

pub returns-then-is_key-clause-found : goal.returns-then-is_key-clause-found
returns-then-is_key-clause-found g c =
    let f = c.self.inside in
    let words = c.args.words.now.words in
    let keys = hashed_keys f.salt words in
    let over = split_held words c.args.self.now f.form f.salt f.starts f.count f.bits f.bytes c.as_slice-bytes.result.now c.requires c.if-self-eq0.false (held_as c.args.self.now c.self.invariant c.self.view_is) c.as_slice-bytes.ensures in
    let o = some_is_only f.salt words c.key_hash-hash.result c.in_ok-offset.offset c.offset_of.result c.in_ok-offset.was (c.offset_of.ensures.found keys over) in
    only_found f.salt words c.key_hash-hash.result c.in_ok-offset.offset c.args.key.now o
    ((c.is_key.ensures.value (2 * o.place) (only_place f.salt words c.key_hash-hash.result c.in_ok-offset.offset o)).0 c.if-is_key.true)

pub returns-else-is_key-clause-none : goal.returns-else-is_key-clause-none
returns-else-is_key-clause-none g c =
    let f = c.self.inside in
    let words = c.args.words.now.words in
    let keys = hashed_keys f.salt words in
    let over = split_held words c.args.self.now f.form f.salt f.starts f.count f.bits f.bytes c.as_slice-bytes.result.now c.requires c.if-self-eq0.false (held_as c.args.self.now c.self.invariant c.self.view_is) c.as_slice-bytes.ensures in
    let hash = c.key_hash-hash.ensures ∙ ap (λ (s : ℕ). key_hash s c.args.key.now) c.from.ensures in
    let o = some_is_only f.salt words c.key_hash-hash.result c.in_ok-offset.offset c.offset_of.result c.in_ok-offset.was (c.offset_of.ensures.found keys over) in
    only_none f.salt words c.key_hash-hash.result c.in_ok-offset.offset c.args.key.now hash o (λ i place is. false≢true (sym c.if-is_key.false ∙ (c.is_key.ensures.value i place).1 is))
