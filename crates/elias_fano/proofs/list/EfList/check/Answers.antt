use Rattle.std.proofs.Common.{◌≡◌, ◌<◌, ◌^◌, ◌∙◌, sym, arith, List, ℕ, length, Result, Ok, Err, Some, None}
use Rattle.std.specs.Prelude.{IfOk, IfErr, IsOkAnd}
use Rattle.bit_store.proofs.Texts.{IsBytes}
use Rattle.elias_fano.specs.declared.error.EfError.{EfError}
use Rattle.elias_fano.specs.Spelling.{IsListable, spelling}
use Rattle.elias_fano.specs.Reading.{fault_in, items_of, parts_in, IsFine}
use Rattle.elias_fano.proofs.Spelled.{is_spelled}
use Rattle.elias_fano.proofs.ReadBack.{read_back}
use Rattle.elias_fano.proofs.list.EfList.check.Goals as goal

found : (bytes : List ℕ) (r : Result (List ℕ) EfError) → IsBytes bytes → length bytes < 2 ^ 60 → IfOk r (λ list. list ≡ items_of (parts_in bytes)) → IfOk r (λ list. IsFine bytes) → IfOk r (λ list. IsListable list × (bytes ≡ spelling list))
found bytes (Ok list) fits short is fine = let s = is_spelled bytes fits short fine in rw is s
found bytes (Err e) fits short is fine = tt

only : (bytes items : List ℕ) (r : Result (List ℕ) EfError) → IfOk r (λ list. list ≡ items_of (parts_in bytes)) → IfErr r (λ e. fault_in bytes ≡ Some e) → IsListable items → bytes ≡ spelling items → IsOkAnd r (λ list. list ≡ items)
only bytes items (Ok list) is fault can e = is ∙ (read_back items bytes can e).1
only bytes items (Err x) is fault can e = let back = read_back items bytes can e in let bad : None ≡ Some x = sym back.0 ∙ fault in absurd cc

pub returns-clause-found : goal.returns-clause-found
returns-clause-found c = found c.args.bytes.now c.checked.result (λ i. omega (arith, c.type_inv.bytes i)) c.requires c.checked.ensures.ok c.checked.ensures.fine

pub returns-clause-only : goal.returns-clause-only
returns-clause-only c = λ items can e. only c.args.bytes.now items c.checked.result c.checked.ensures.ok c.checked.ensures.err can e
