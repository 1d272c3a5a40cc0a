use Rattle.inverted_index.proofs.ContentLaws.{ef_contents-AreLists}
use Rattle.inverted_index.proofs.laws.list_laws.Goals as goal

pub returns : goal.returns
returns c = λ list e from to valid most. ef_contents-AreLists list e from to valid most
