use Rattle.merge_ranges.proofs.CutLaws.{canon-IsCut, end_of-canon, union_of_two, canon_of_all}
use Rattle.merge_ranges.proofs.NameOrder.{cut-ascend}
use Rattle.merge_ranges.proofs.cut.canon_laws.Goals as goal

pub returns-clause-cut : goal.returns-clause-cut
returns-clause-cut c = canon-IsCut

pub returns-clause-end : goal.returns-clause-end
returns-clause-end c = end_of-canon

pub returns-clause-union : goal.returns-clause-union
returns-clause-union c = union_of_two

pub returns-clause-whole : goal.returns-clause-whole
returns-clause-whole c = canon_of_all

pub returns-clause-ascend : goal.returns-clause-ascend
returns-clause-ascend c = cut-ascend
