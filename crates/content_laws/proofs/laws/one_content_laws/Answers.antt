use Rattle.content_laws.proofs.OneContent.{one-kv, one-v, one-ef}
use Rattle.content_laws.proofs.laws.one_content_laws.Goals as goal

pub returns-clause-kv : goal.returns-clause-kv
returns-clause-kv c = one-kv

pub returns-clause-v : goal.returns-clause-v
returns-clause-v c = one-v

pub returns-clause-ef : goal.returns-clause-ef
returns-clause-ef c = one-ef
