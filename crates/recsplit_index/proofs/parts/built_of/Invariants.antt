use Rattle.std.proofs.Common.{◌≡◌, List}
use Rattle.recsplit_index.specs.Nodes.{Node}
use Rattle.recsplit_index.specs.Parts.{what_are_held, what_are_of}
use Rattle.recsplit_index.proofs.PartLists.{IsAssembling}
use Rattle.recsplit_index.proofs.parts.built_of.Given as goal

abbrev pub invariant-loop-part : goal.invariant-loop-part
invariant-loop-part l = (nodes : List Node) → what_are_held l.parts ≡ what_are_of nodes → IsAssembling nodes l.part-index l.starts.items l.all.codes l.all.offsets.items
