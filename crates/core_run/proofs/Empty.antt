-- The machine to which nothing came is sound.
use Rattle.std.proofs.Common.{◌≡◌, ℕ, ◌^◌, ◌*◌, ◌≤◌, ◌<◌, List, [], refl, sym, subst, arith}
use Rattle.std.specs.List.Sorted.{IsStrictlySortedBy}
use Rattle.std.proofs.lemmas.List.Elements.{All-nil}
use Rattle.agg_model.specs.declared.entity.Entity.{Entity}
use Rattle.agg_model.specs.declared.change.Change.{Change}
use Rattle.agg_model.specs.Batch.{IsChange}
use Rattle.core_machine.specs.declared.machine.Machine.{Machine}
use Rattle.core_machine.specs.declared.machine.Opening.{Opening}
use Rattle.core_machine.specs.Sound.{IsSound}
use Rattle.core_machine.specs.Texts.{AreAmong, IsInForm}

abbrev bare : ℕ → Machine
bare size = record { changes = []; next = 0; size = size; opened = []; present = []; visible = [] }

nothing-within : (size : ℕ) → 0 ≤ 4096 * size
nothing-within size = omega arith

nothing-complete : (size : ℕ) → 0 * size ≤ 0
nothing-complete size = omega arith

sound-bare : (size : ℕ) → 1 ≤ size → size ≤ 2 ^ 32 → IsSound (bare size)
unfolding IsStrictlySortedBy
sound-bare size some within = record {
  list = record {
    size_from_one = some;
    size_within = within;
    next_within = nothing-within size;
    below_next = All-nil (λ (c : Change). c.tx < 0);
    ascend = tt;
    no_repeats = tt;
    fit = All-nil IsChange;
  };
  apart = tt;
  groups = record { cuts = λ e. []; end = 0; cut = λ e. tt; ends = λ e. refl; are = λ q. refl };
  complete = nothing-complete size;
  visible = λ q h. h;
  rows = All-nil (λ (row : Opening). AreAmong row.names []);
  form = record { present = tt; visible = tt; rows = All-nil (λ (row : Opening). IsInForm row.names) };
}

pub empty-sound : (m : Machine) → 1 ≤ m.size → m.size ≤ 2 ^ 32 → m.changes ≡ [] → m.next ≡ 0 → m.opened ≡ [] → m.present ≡ [] → m.visible ≡ [] → IsSound m
empty-sound m some within changes next opened present visible =
    let is : bare m.size ≡ m = λ i. record { changes = sym changes i; next = sym next i; size = m.size; opened = sym opened i; present = sym present i; visible = sym visible i } in
    subst IsSound is (sound-bare m.size some within)
