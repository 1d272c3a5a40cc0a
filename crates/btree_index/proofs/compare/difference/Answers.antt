use Rattle.std.proofs.Common.{sym}
use Rattle.word_file.specs.Paired.{key_offsets}
use Rattle.btree_index.specs.Levels.{spelling}
use Rattle.word_file.proofs.Agreements.{all_same, goes_past}
use Rattle.btree_index.proofs.compare.difference.Goals as goal

pub returns-then-end-bytes : goal.returns-then-end-bytes
returns-then-end-bytes c = sym (goes_past c.args.bytes.now (spelling (key_offsets c.args.words.now.words)) c.in-Ok.end c.in-Ok.ensures.end c.if-end-bytes.true)

pub returns-else-end-bytes : goal.returns-else-end-bytes
returns-else-end-bytes c = sym (all_same c.args.bytes.now (spelling (key_offsets c.args.words.now.words)) c.in-Ok.end c.in-Ok.ensures.end c.if-end-bytes.false)
