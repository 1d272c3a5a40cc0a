use Rattle.std.proofs.Common.{Vec, Global, [], ◌∷◌, ◌++◌, ap, ◌∙◌}
use Rattle.recsplit_index.specs.declared.keys.HashedKey.{HashedKey}
use Rattle.recsplit_index.proofs.KeyLists.{group_put}
use Rattle.recsplit_index.proofs.keys.put_in_group.Goals as goal

pub returns : goal.returns
returns c =
    group_put c.args.groups.now.items c.args.at c.index_mut-group.result.now c.push.new.self c.args.key c.requires
    (c.in_ok-push.ensures.items ∙ ap (λ (g : Vec HashedKey Global). g.items ++ c.args.key ∷ []) c.index_mut-group.ensures.value)
