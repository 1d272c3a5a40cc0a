use Rattle.std.proofs.Common.{◌∙◌}
use Rattle.group_files.proofs.RenameLaws.{names_apart}
use Rattle.group_files.proofs.publishing.publish_file.Goals as goal

pub write_and_rename-requires-after_bounds : goal.write_and_rename-requires-after_bounds
write_and_rename-requires-after_bounds g c κs within =
    names_apart c.args.name.now c.as_slice-2.result.now c.as_slice.result.now (c.as_slice-2.ensures ∙ c.in_ok-place.ensures) (c.as_slice.ensures ∙ c.in_ok-temporary.ensures)
