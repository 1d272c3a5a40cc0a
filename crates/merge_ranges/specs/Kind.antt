-- The kinds of files, in the order of names, and their endings.
use Rattle.std.specs.Prelude.{ℕ, Bool, true, false, List, codes}
use Rattle.agg_model.specs.declared.entity.FileKind.{FileKind}
use Rattle.agg_model.specs.declared.entity.FileKind.TheVariants.{Kv, Bt, Kvi, V, Vi, Ef, Efi}

unfoldable pub kind_number : FileKind → ℕ
kind_number Kv = 0
kind_number Bt = 1
kind_number Kvi = 2
kind_number V = 3
kind_number Vi = 4
kind_number Ef = 5
kind_number Efi = 6

unfoldable pub ending : FileKind → List ℕ
ending Kv = codes "kv"
ending Bt = codes "bt"
ending Kvi = codes "kvi"
ending V = codes "v"
ending Vi = codes "vi"
ending Ef = codes "ef"
ending Efi = codes "efi"

-- the kinds that indexes have too
unfoldable pub is_index_kind : FileKind → Bool
is_index_kind Kv = false
is_index_kind Bt = false
is_index_kind Kvi = false
is_index_kind V = false
is_index_kind Vi = false
is_index_kind Ef = true
is_index_kind Efi = true
