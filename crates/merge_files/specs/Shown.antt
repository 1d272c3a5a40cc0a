-- A walk's item as contracts see it.
use Rattle.std.specs.Prelude.{map}
use Rattle.merge_files.specs.declared.item.MergeItem.{MergeItem}
use Rattle.merge_files.specs.Walks.{Item}

abbrev pub shown : MergeItem → Item
shown m = record { kind = m.kind; key = m.key.now; words = map (λ w. w.now) m.words.now }
