use Rattle.history_core.proofs.KeyWords.{key_word-put}
use Rattle.history_core.proofs.key_word.put_key_word.Goals as goal

pub returns : goal.returns
returns c =
    key_word-put c.args.out.now c.args.key.now c.args.tx c.copy_from_slice.new.self c.write_u64.new.buf c.requires c.copy_from_slice.ensures.after c.write_u64.ensures
