use Rattle.content_laws.proofs.PairParts.{word-parts, value-parts}
use Rattle.content_laws.proofs.BeforeParts.{before-parts}
use Rattle.content_laws.proofs.TimesParts.{numbers-parts}
use Rattle.content_laws.proofs.laws.parts_laws.Goals as goal

pub returns-clause-kv : goal.returns-clause-kv
returns-clause-kv c =
    λ list e k a b ranges valid adjoin. word-parts list.size list.changes e k valid.ascend valid.fit a b ranges adjoin

pub returns-clause-v : goal.returns-clause-v
returns-clause-v c =
    λ list e k n a b ranges valid adjoin. before-parts list.changes e k n list.size a b ranges adjoin

pub returns-clause-ef : goal.returns-clause-ef
returns-clause-ef c =
    λ list e k a b ranges valid adjoin. numbers-parts list.size list.changes e k a b ranges valid.ascend adjoin

pub returns-clause-value : goal.returns-clause-value
returns-clause-value c =
    λ list e k f ranges valid adjoin. value-parts list.size list.changes e k valid.ascend valid.fit f ranges adjoin
