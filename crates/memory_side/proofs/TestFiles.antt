-- A file that was written is there, where a disk tells its files.
use Rattle.std.proofs.Common.{◌≡◌, ℕ, List, true, Option, Some, None, IfSome, IfNone, refl, ap, sym, subst, ◌∙◌}
use Rattle.std.specs.Option.{is_some}
use Rattle.std.specs.Ordering.{nat_cmp, is_eq, eq_by_cmp}
use Rattle.std.specs.Cmp.{tied_itself}
use Rattle.std.specs.Cmp.Lexicographic.{slice_cmp, nat_list_cmp_total}
use Rattle.std.specs.FinMap.{insert, contains_key, get-insert}
use Rattle.agg_outside.specs.Files.{Files}

there : (files : Files) (name bytes : List ℕ) → contains_key (insert files name bytes) name ≡ true
there files name bytes =
    let same : eq_by_cmp (slice_cmp nat_cmp) name name ≡ true = ap is_eq (tied_itself nat_list_cmp_total name) in
    ap (λ (o : Option (List ℕ)). is_some o) (get-insert nat_list_cmp_total files name bytes name) ∙ rw same refl

some_is : (a b : Files) → Some a ≡ Some b → a ≡ b
some_is a b e = cc e

pub written_there : (old new : Option Files) (name bytes : List ℕ) → IfSome old (λ f. new ≡ Some (insert f name bytes)) → IfNone old (new ≡ None) → (told : Files) → new ≡ Some told → contains_key told name ≡ true
written_there None new name bytes put silent told is = let none : None ≡ Some told = sym silent ∙ is in cc none
written_there (Some files) new name bytes put silent told is =
    subst (λ (f : Files). contains_key f name ≡ true) (some_is (insert files name bytes) told (sym put ∙ is)) (there files name bytes)
