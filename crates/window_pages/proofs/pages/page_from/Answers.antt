use Rattle.std.proofs.Common.{◌∙◌, map, refl, sym, ap}
use Rattle.std.specs.Arc.{arc_value}
use Rattle.collate_step.specs.Groups.{groups_for}
use Rattle.window_pages.specs.Places.{places_from}
use Rattle.window_pages.proofs.pages.page_from.Goals as goal

pub returns-clause-page : goal.returns-clause-page
returns-clause-page g c = λ list stand domain.
    let files = map (λ g. arc_value g) c.args.files.now in
    let groups = groups_for c.args.entity files in
    let are = c.as_mut_slice.ensures.value ∙ c.in_ok-cursors.ensures.ok ∙ ap (λ k. places_from k groups) c.as_slice.ensures in
    c.page_on.ensures.page list groups (record { files = files; stand = stand; groups_are = refl }) domain are
