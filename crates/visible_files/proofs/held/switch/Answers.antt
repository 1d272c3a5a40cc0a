use Rattle.std.proofs.Common.{List, [], subst, sym, arith}
use Rattle.visible_files.specs.declared.held.HeldGroup.{HeldGroup}
use Rattle.visible_files.specs.Held.{Adds}
use Rattle.visible_files.proofs.Switches.{adds-start, switched-counts, switched-held, switched-retired}
use Rattle.visible_files.proofs.held.switch.Goals as goal

pub add_visible-requires : goal.add_visible-requires
add_visible-requires c =
    let before = c.args.before.now in
    let after = c.args.after.now in
    record {
      first = c.requires.first.1.order;
      adds = subst (λ (l : List HeldGroup). Adds before l l after after) (sym c.retire_held.ensures.items) (adds-start before after c.requires.second.0 c.requires.second.1 c.requires.replaces c.args.held.now.items c.requires.held);
      room = (omega (arith, c.requires.room, c.retire_held.ensures.len, c.retire_held.ensures.capacity));
    }

pub returns : goal.returns
returns c =
    let before = c.args.before.now in
    let after = c.args.after.now in
    let held = c.args.held.now.items in
    let new = c.add_visible.new.held.items in
    let end = c.requires.second.0 in
    let set = c.requires.second.1 in
    let a = subst (λ (l : List HeldGroup). Adds before l new after []) c.retire_held.ensures.items c.add_visible.ensures.added in
    record {
      held = switched-held before after end set c.requires.replaces held c.requires.held new a;
      counts = switched-counts before after end set c.requires.replaces held c.requires.held new a;
      retired = switched-retired before after end set c.requires.replaces held c.requires.held new a;
      len = (omega (arith, c.add_visible.ensures.len, c.retire_held.ensures.len));
      capacity = (omega (arith, c.add_visible.ensures.capacity, c.retire_held.ensures.capacity));
    }
