use Rattle.group_files.proofs.ExactLaws.{exactly_step}
use Rattle.group_files.proofs.laws.exact_laws.Goals as goal

pub returns : goal.returns
returns c = λ list step names before now small are has published. exactly_step list step names before now small are has published
