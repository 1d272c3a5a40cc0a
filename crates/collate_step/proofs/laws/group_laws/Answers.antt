use Rattle.std.specs.Prelude.{cond, Some, None, refl}
use Rattle.std.specs.Option.{option_map}
use Rattle.std.proofs.Common.{ap}
use Rattle.domain_core.specs.KvFile.{kv_spelling, bt_spelling, kvi_spelling, kv_file_bytes, bt_file_bytes, kvi_file_bytes}
use Rattle.history_core.specs.VFile.{v_spelling, vi_spelling, v_file_bytes, vi_file_bytes}
use Rattle.inverted_index.specs.EfFile.{ef_file_bytes, efi_file_bytes}
use Rattle.collate_step.specs.Groups.{kv_of, v_of}
use Rattle.collate_step.proofs.laws.group_laws.Goals as goal

pub returns-clause-kv : goal.returns-clause-kv
unfolding kv_file_bytes
returns-clause-kv c = λ list e r domain. ap (λ t. option_map kv_spelling (cond t (Some (kv_of list e r)) None)) domain

pub returns-clause-bt : goal.returns-clause-bt
unfolding bt_file_bytes
returns-clause-bt c = λ list e r domain. ap (λ t. option_map bt_spelling (cond t (Some (kv_of list e r)) None)) domain

pub returns-clause-kvi : goal.returns-clause-kvi
unfolding kvi_file_bytes
returns-clause-kvi c = λ list e r domain. ap (λ t. option_map kvi_spelling (cond t (Some (kv_of list e r)) None)) domain

pub returns-clause-v : goal.returns-clause-v
unfolding v_file_bytes
returns-clause-v c = λ list e r domain. ap (λ t. option_map v_spelling (cond t (Some (v_of list e r)) None)) domain

pub returns-clause-vi : goal.returns-clause-vi
unfolding vi_file_bytes
returns-clause-vi c = λ list e r domain. ap (λ t. option_map vi_spelling (cond t (Some (v_of list e r)) None)) domain

pub returns-clause-ef : goal.returns-clause-ef
unfolding ef_file_bytes
returns-clause-ef c = λ list e r. refl

pub returns-clause-efi : goal.returns-clause-efi
unfolding efi_file_bytes
returns-clause-efi c = λ list e r. refl
