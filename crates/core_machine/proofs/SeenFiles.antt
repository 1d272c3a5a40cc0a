-- What a row sees keeps its bytes.
use Rattle.std.proofs.Common.{◌≡◌, true, List, ℕ, ◌*◌, ◌≤◌, subst, arith}
use Rattle.std.proofs.Math.Nat.{mul-le-mul_right}
use Rattle.std.specs.Cmp.{first_so, second_so}
use Rattle.agg_model.specs.ChangeList.{ChangeList}
use Rattle.merge_ranges.specs.declared.name.FileName.{FileName}
use Rattle.merge_ranges.specs.Name.{is_name, has_kind, spelled}
use Rattle.merge_ranges.specs.Cut.{is_aligned}
use Rattle.core_machine.specs.declared.entry.Entry.{Entry}
use Rattle.core_machine.specs.declared.machine.Machine.{Machine}
use Rattle.core_machine.specs.Texts.{has}
use Rattle.core_machine.specs.Sound.{list_of, AreWholeGroups, IsSound}
use Rattle.core_machine.specs.Entries.{ArePossible, replay}
use Rattle.core_machine.specs.Histories.{AreLasting}
use Rattle.core_machine.proofs.Inside.{In}
use Rattle.core_machine.proofs.Cuts.{to-in}
use Rattle.core_machine.proofs.Visible.{inside-of}
use Rattle.core_machine.proofs.Histories.{bytes-last}

le_chain : {a b c : ℕ} → a ≤ b → b ≤ c → a ≤ c
le_chain h g = omega (arith, h, g)

visible-range : (names : List (List ℕ)) (g : AreWholeGroups names) (name : FileName) → is_name name ≡ true → has names (spelled name) ≡ true → In name.range (g.cuts name.entity)
unfolding is_name
visible-range names g name is there =
    inside-of names g name.entity name.range name.kind (first_so (is_aligned name.range) (has_kind name.entity name.kind) is)
    (second_so (is_aligned name.range) (has_kind name.entity name.kind) is) there

-- a visible file is of complete steps
pub visible-complete : (m : Machine) (name : FileName) → IsSound m → is_name name ≡ true → has m.visible (spelled name) ≡ true → name.range.to * m.size ≤ m.next
visible-complete m name sound is there =
    let g = sound.groups in
    let within : name.range.to ≤ g.end =
    subst (λ n. name.range.to ≤ n) (g.ends name.entity) (to-in 0 (g.cuts name.entity) name.range (g.cut name.entity) (visible-range m.visible g name is there)) in
    le_chain (mul-le-mul_right m.size within) sound.complete

pub seen-last : (bytes : ChangeList → FileName → List ℕ) → AreLasting bytes → (m : Machine) (name : FileName) (entries : List Entry) → IsSound m → is_name name ≡ true → has m.visible (spelled name) ≡ true
    → ArePossible m entries → bytes (list_of (replay m entries)) name ≡ bytes (list_of m) name
seen-last bytes lasting m name entries sound is there may = bytes-last bytes lasting name m entries may (visible-complete m name sound is there)
