use Rattle.std.proofs.Common.{rules, ◌≡◌}
use Rattle.std.proofs.lemmas.Fn.{always_returns_same}
use Rattle.std.specs.Ordering.{nat_cmp}
use Rattle.std.specs.Cmp.Lexicographic.{slice_cmp}
use Rattle.agg_outside.specs.declared.file_map.FileEntry.{FileEntry}
use Rattle.agg_outside.proofs.FileOrder.{found_or_gap}
use Rattle.agg_outside.proofs.file_map.search.Goals as goal

pub returns : goal.returns
returns c =
    let name = c.args.name.now in
    found_or_gap name c.args.files.now c.binary_search_by.result c.requires c.binary_search_by.ensures.bound
    (c.binary_search_by.ensures.position (λ (file : FileEntry). slice_cmp nat_cmp file.name name)
    (always_returns_same _ (λ a r. r ≡ slice_cmp nat_cmp a.0.now.name name) _ (λ a r f' k. search rules)))
