-- What holds of an entry whoever was its caller.
use Rattle.std.proofs.Common.{◌≡◌, ℕ, Bool, List, sym, subst}
use Rattle.std.specs.Prelude.{IfOk, Result}
use Rattle.agg_model.specs.declared.change.Change.{Change}
use Rattle.core_machine.specs.declared.entry.Entry.{Entry}
use Rattle.core_machine.specs.declared.entry.Entry.TheVariants.{Ingest, Publish, Stray, Sweep, Settled}
use Rattle.core_machine.specs.declared.machine.Machine.{Machine}
use Rattle.core_run.specs.Runs.{Steps}

module _ (x : ℕ) (entry : Entry) (m n : Machine) where
  pub any-ingest : {E : Type 0} (batch : List Change) (r : Result Bool E) → entry ≡ Ingest x batch → ((caller : ℕ) → IfOk r (Steps m (Ingest caller batch) n)) → IfOk r (Steps m entry n)
  any-ingest batch r is all = subst (λ (e : Entry). IfOk r (Steps m e n)) (sym is) (all x)

  pub any-publish : {E : Type 0} (added replaced : List (List ℕ)) (r : Result Bool E) → entry ≡ Publish x added replaced → ((caller : ℕ) → IfOk r (Steps m (Publish caller added replaced) n)) → IfOk r (Steps m entry n)
  any-publish added replaced r is all = subst (λ (e : Entry). IfOk r (Steps m e n)) (sym is) (all x)

  pub any-stray : {E : Type 0} (names : List (List ℕ)) (r : Result Bool E) → entry ≡ Stray x names → ((caller : ℕ) → IfOk r (Steps m (Stray caller names) n)) → IfOk r (Steps m entry n)
  any-stray names r is all = subst (λ (e : Entry). IfOk r (Steps m e n)) (sym is) (all x)

  pub any-settled : {E : Type 0} (names : List (List ℕ)) (r : Result Bool E) → entry ≡ Settled x names → ((caller : ℕ) → IfOk r (Steps m (Settled caller names) n)) → IfOk r (Steps m entry n)
  any-settled names r is all = subst (λ (e : Entry). IfOk r (Steps m e n)) (sym is) (all x)

  pub any-sweep : (name : List ℕ) (b : Bool) → entry ≡ Sweep x name → ((caller : ℕ) → Steps m (Sweep caller name) n b) → Steps m entry n b
  any-sweep name b is all = subst (λ (e : Entry). Steps m e n b) (sym is) (all x)
