use Rattle.std.proofs.Common.{ap, ◌∙◌}
use Rattle.inverted_index.specs.EfFile.{efi_spelling}
use Rattle.inverted_index.proofs.Acceptances.{held_accessor}
use Rattle.inverted_index.proofs.ef_file.EfFile.efi_bytes.Goals as goal

pub returns : goal.returns
returns c = c.accessor.ensures ∙ held_accessor c.self.inside.held c.self.invariant ∙ ap efi_spelling c.self.view_is
