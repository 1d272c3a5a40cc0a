-- Laws of what each call keeps of a store.
use Rattle.std.proofs.Common.{◌≡◌, inl, ◌≤◌, ℕ, ◌+◌, Result, Ok, Err, OnErr, IsErrOf, refl, ap, subst, sym, ◌∙◌, arith}
use Rattle.agg_core.proofs.Kept.{outside-refl, outside-trans}
use Rattle.agg_outside.specs.declared.disk.Disk.{Ghosts as DiskGhosts}
use Rattle.agg_model.specs.ChangeList.{ChangeList}
use Rattle.row_epochs.specs.Versions.{Versions}
use Rattle.state_store.specs.declared.stop.Stop.{Stop}
use Rattle.state_store.specs.declared.stop.Stop.TheVariants as stops
use Rattle.state_store.specs.declared.store.Store.{Store}
use Rattle.state_store.specs.Store.{IsStore, Holds, Goes, HasCauses}
use Rattle.session_link.specs.Running.{StillHas, KeepsDevices}

-- ---- results

pub on_err : {T E : Type 0} (r : Result T E) (P : Type 0) → P → OnErr r P
on_err (Ok x) P p = tt
on_err (Err e) P p = p

same_error : {T : Type 0} (r : Result T Stop) (a b : Stop) → r ≡ Err a → r ≡ Err b → a ≡ b
same_error r a b e f = cc

-- want of memory blames no device, and isn't a worn epoch
memory_alone : {T : Type 0} (r : Result T Stop) (stop : Stop) → r ≡ Err stops.Memory → r ≡ Err stop → stops.Memory ≡ stop
memory_alone r stop is was = same_error r stops.Memory stop is was

-- ---- what each call keeps

module _ {D K : Type 0} (disk : DiskGhosts D) where
  pub goes-refl : (store : Store D K) → Goes disk store store
  goes-refl store = record {
    outside = outside-refl (disk.files store.disk);
    size = refl;
    end = omega arith;
    disk_faults = omega arith;
    keeper_faults = omega arith;
    sees = λ view list sees. sees;
  }

  pub goes-trans : (first mid last : Store D K) → Goes disk first mid → Goes disk mid last → Goes disk first last
  goes-trans first mid last one two = record {
    outside = outside-trans (disk.files first.disk) (disk.files mid.disk) (disk.files last.disk) one.outside two.outside;
    size = two.size ∙ one.size;
    end = omega (arith, one.end, two.end);
    disk_faults = omega (arith, one.disk_faults, two.disk_faults);
    keeper_faults = omega (arith, one.keeper_faults, two.keeper_faults);
    sees = λ view list sees. two.sees view list (one.sees view list sees);
  }

  -- a store that holds a list has it
  pub kept : (store : Store D K) (list : ChangeList) → Holds disk store list → StillHas disk store list
  kept store list holds = inl holds

  -- ---- what is kept of the devices

  -- a call that went well
  pub devices_ok : {T : Type 0} (old new : Store D K) (r : Result T Stop) (x : T) → r ≡ Ok x → Goes disk old new → new.hot.epoch ≤ old.hot.epoch + 1 → KeepsDevices disk old new r
  devices_ok old new r x is goes epoch = record {
    goes = goes;
    causes = record { of_disk = λ e. cc; of_keeper = λ e. cc };
    epoch = epoch;
    unworn = λ e. cc;
  }

  -- want of memory
  pub devices_memory : {T : Type 0} (old new : Store D K) (r : Result T Stop) → r ≡ Err stops.Memory → Goes disk old new → new.hot.epoch ≤ old.hot.epoch + 1 → KeepsDevices disk old new r
  devices_memory old new r is goes epoch = record {
    goes = goes;
    causes = record {
      of_disk = λ e. let same : stops.Memory ≡ stops.Disk = memory_alone r stops.Disk is e in cc;
      of_keeper = λ e. let same : stops.Memory ≡ stops.Keeper = memory_alone r stops.Keeper is e in cc;
    };
    epoch = epoch;
    unworn = λ e. let same : stops.Memory ≡ stops.Worn = memory_alone r stops.Worn is e in cc;
  }

  -- an error of the call below
  pub devices_err : {S T : Type 0} (old new : Store D K) (below : Result S Stop) (r : Result T Stop) (stop : Stop) → below ≡ Err stop → r ≡ Err stop → KeepsDevices disk old new below → KeepsDevices disk old new r
  devices_err old new below r stop was is devices = record {
    goes = devices.goes;
    causes = record {
      of_disk = λ e. devices.causes.of_disk (was ∙ ap Err (same_error r stop stops.Disk is e));
      of_keeper = λ e. devices.causes.of_keeper (was ∙ ap Err (same_error r stop stops.Keeper is e));
    };
    epoch = devices.epoch;
    unworn = λ e. devices.unworn (was ∙ ap Err (same_error r stop stops.Worn is e));
  }

  -- what the call below says of itself
  pub devices_below : {T : Type 0} (old new : Store D K) (r : Result T Stop) → Goes disk old new → HasCauses disk old new r → new.hot.epoch ≤ old.hot.epoch + 1 → (IsErrOf r stops.Worn → ⊥) → KeepsDevices disk old new r
  devices_below old new r goes causes epoch unworn = record { goes = goes; causes = causes; epoch = epoch; unworn = unworn }

-- ---- what a read changes

-- the count of the keeper's faults alone
abbrev pub IsReadOf : {D K : Type 0} → Store D K → Store D K → Type 0
IsReadOf old new = new ≡ record old { hot = record old.hot { faults = new.hot.faults } }

module _ {D K : Type 0} (old : Store D K) where
  abbrev pub with_faults : ℕ → Store D K
  with_faults faults = record old { hot = record old.hot { faults = faults } }

  pub read_sound : (new : Store D K) (most : ℕ) → IsReadOf old new → IsStore most old → IsStore most new
  read_sound new most is sound = subst (λ (s : Store D K). IsStore most s) (sym is) (record {
    size_from_one = sound.size_from_one;
    size_within = sound.size_within;
    next_within = sound.next_within;
    content = sound.content;
    complete = sound.complete;
    below = sound.below;
  })

  pub read_holds : (disk : DiskGhosts D) (new : Store D K) (list : ChangeList) → IsReadOf old new → Holds disk old list → Holds disk new list
  read_holds disk new list is holds = subst (λ (s : Store D K). Holds disk s list) (sym is) (record {
    valid = holds.valid;
    rows = holds.rows;
    plain = holds.plain;
    next = holds.next;
    content = holds.content;
    size = holds.size;
    complete = holds.complete;
    groups = holds.groups;
    single = holds.single;
    stand = holds.stand;
  })

  pub read_epoch : (new : Store D K) → IsReadOf old new → new.hot.epoch ≤ old.hot.epoch + 1
  read_epoch new is = let same : new.hot.epoch ≡ old.hot.epoch = ap (λ (s : Store D K). s.hot.epoch) is in omega (arith, same)
