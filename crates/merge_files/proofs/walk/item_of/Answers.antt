use Rattle.std.proofs.Common.{◌≡◌, ℕ, List, refl}
use Rattle.merge_files.specs.Walks.{Item}
use Rattle.merge_files.proofs.GivenWords.{fronted, front-some, front-lists}
use Rattle.merge_files.proofs.walk.item_of.Goals as goal

pub invariant_of-result : goal.invariant_of-result
invariant_of-result c = record {
  some = front-some c.args.kind c.args.count c.args.words.now c.front-words.result.now c.front-words.ensures c.requires;
  lists = front-lists c.args.kind c.args.count c.args.words.now c.front-words.result.now c.front-words.ensures c.requires;
}

pub returns : goal.returns
returns c =
    let are = fronted c.args.kind c.args.count c.args.words.now c.front-words.result.now c.front-words.ensures c.requires in
    λ i. record { kind = c.args.kind; key = c.args.key.now; words = are i }
