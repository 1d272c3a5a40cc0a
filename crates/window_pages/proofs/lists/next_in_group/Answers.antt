use Rattle.std.proofs.Common.{◌≡◌, [], subst}
use Rattle.inverted_index.specs.EfFile.{TaggedLists}
use Rattle.window_pages.proofs.KeyWalks.{next-empty}
use Rattle.window_pages.proofs.lists.next_in_group.Goals as goal

pub key_from-requires : goal.key_from-requires
key_from-requires c = c.in-Some.ensures.start

pub returns-in_default-clause-next : goal.returns-in_default-clause-next
returns-in_default-clause-next c = next-empty c.args.group.now.ef.lists c.args.first.now (subst (λ (f : TaggedLists). f.lists ≡ []) c.ef-ef.ensures c.in_default.ensures.none)
