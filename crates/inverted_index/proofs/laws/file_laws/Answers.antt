use Rattle.std.proofs.Common.{List, ap}
use Rattle.agg_model.specs.declared.contents.Times.{Times}
use Rattle.agg_model.proofs.ContentsLaws.{ef_contents-later}
use Rattle.inverted_index.specs.EfFile.{tagged_lists, ef_tag, ef_spelling, efi_spelling, ef_file_bytes, efi_file_bytes}
use Rattle.inverted_index.proofs.laws.file_laws.Goals as goal

pub returns-clause-bytes : goal.returns-clause-bytes
unfolding ef_file_bytes
returns-clause-bytes c = λ size changes e from to file is. ap ef_spelling is

pub returns-clause-accessor : goal.returns-clause-accessor
unfolding efi_file_bytes
returns-clause-accessor c = λ size changes e from to file is. ap efi_spelling is

pub returns-clause-stays : goal.returns-clause-stays
unfolding ef_file_bytes
returns-clause-stays c = λ size cs ds e from to late.
    ap (λ (ts : List Times). ef_spelling (tagged_lists (ef_tag e size from to) ts)) (ef_contents-later size cs ds e from to late)

pub returns-clause-accessor_stays : goal.returns-clause-accessor_stays
unfolding efi_file_bytes
returns-clause-accessor_stays c = λ size cs ds e from to late.
    ap (λ (ts : List Times). efi_spelling (tagged_lists (ef_tag e size from to) ts)) (ef_contents-later size cs ds e from to late)
