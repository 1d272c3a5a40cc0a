use Rattle.domain_core.proofs.Held.{held_paired, held_differ}
use Rattle.domain_core.proofs.kv_file.KvFile.of.Goals as goal

pub build-requires : goal.build-requires
build-requires c = held_paired c.args.words.words c.requires

pub of-requires-clause-paired : goal.of-requires-clause-paired
of-requires-clause-paired c = held_paired c.args.words.words c.requires

pub of-requires-clause-differ : goal.of-requires-clause-differ
of-requires-clause-differ c = held_differ c.args.words.words c.requires
