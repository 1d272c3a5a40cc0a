use Rattle.std.proofs.Common.{◌≡◌, [], Option, IsSomeAnd, refl, ap, sym, subst, ◌∙◌}
use Rattle.std.specs.Option.{ForSome}
use Rattle.agg_outside.specs.Rows.{Held}
use Rattle.row_epochs.specs.Versions.{Versions}
use Rattle.state_store.proofs.ViewLaws.{holds_none, sound_none}
use Rattle.state_store.proofs.store.Store.new.Goals as goal

pub returns-clause-sound : goal.returns-clause-sound
returns-clause-sound g c = λ most some small.
    let told = ap (λ (v : Versions). v.told) (c.of-hot.ensures ∙ c.of.ensures) in
    let P : Option Held → Type 0 = λ o. ForSome o (λ h. h.rows ≡ []) in
    sound_none _ most some small (subst P (sym told) c.requires.rows) refl refl c.in-Ok.ensures.end

pub returns-clause-holds : goal.returns-clause-holds
returns-clause-holds g c = λ some small rows files.
    let told = ap (λ (v : Versions). v.told) (c.of-hot.ensures ∙ c.of.ensures) in
    let P : Option Held → Type 0 = λ o. IsSomeAnd o (λ h. (h.rows ≡ []) × (h.floor ≡ 0)) in
    let groups : c.in-Ok.sets.current.groups ≡ [] = rw (c.in-Ok.ensures.groups, c.new.ensures.items) refl in
    holds_none g.D.Disk _ c.args.size some small (subst P (sym told) rows) files refl refl refl groups c.in-Ok.ensures.end
