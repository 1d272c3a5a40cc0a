use Rattle.std.proofs.Common.{◌+◌, List, drop, subst, arith, ℕ, ◌≡◌, vec_len, vec_capacity, length}
use Rattle.std.proofs.lemmas.List.{drop_more, drop_all}
use Rattle.visible_files.specs.declared.ids.GroupId.{GroupId}
use Rattle.visible_files.specs.Ids.{added_ids}
use Rattle.visible_files.specs.Held.{Adds}
use Rattle.visible_files.proofs.Switches.{adds-absent, adds-room, adds-len, adds-next}
use Rattle.visible_files.proofs.held.add_visible.Goals as goal

pub add_if_new-requires : goal.add_if_new-requires
add_if_new-requires c =
    let before = c.args.before.now in
    let after = c.args.after.now in
    let i = c.loop-id.id-index in
    let e = drop_more after i _ c.loop-id-test.true in
    let a = subst (λ (l : List GroupId). Adds before c.args.held.now.items c.loop-id.held.items after l) e c.loop-id.invariant.adds in
    record {
      first = c.requires.first;
      order = a.order;
      absent = adds-absent before c.args.held.now.items c.loop-id.held.items after (drop (i + 1) after) _ a;
      room = λ new. adds-room before (drop (i + 1) after) (drop i after) _ e new (vec_len c.loop-id.held) (vec_len c.args.held.now) (length (added_ids before after)) (vec_capacity c.args.held.now) (vec_capacity c.loop-id.held) c.loop-id.invariant.len c.requires.room c.loop-id.invariant.capacity;
    }

pub loop-id-preserved : goal.loop-id-preserved
loop-id-preserved c =
    let before = c.args.before.now in
    let after = c.args.after.now in
    let i = c.loop-id.id-index in
    let e = drop_more after i _ c.loop-id-test.true in
    let a = subst (λ (l : List GroupId). Adds before c.args.held.now.items c.loop-id.held.items after l) e c.loop-id.invariant.adds in
    record {
      adds = adds-next before c.args.held.now.items c.loop-id.held.items c.add_if_new.new.held.items after (drop (i + 1) after) _ a c.add_if_new.ensures.kept c.add_if_new.ensures.added;
      len = adds-len before (drop (i + 1) after) (drop i after) _ e (vec_len c.add_if_new.new.held) (vec_len c.loop-id.held) (vec_len c.args.held.now) (length (added_ids before after)) c.add_if_new.ensures.len c.loop-id.invariant.len;
      capacity = (omega (arith, c.loop-id.invariant.capacity, c.add_if_new.ensures.capacity));
    }

pub returns : goal.returns
returns c =
    let before = c.args.before.now in
    let after = c.args.after.now in
    let e = drop_all c.loop-id.id-index after c.loop-id-test.false in
    record {
      added = subst (λ (l : List GroupId). Adds before c.args.held.now.items c.loop-id.held.items after l) e c.loop-id.invariant.adds;
      len = add-none (subst (λ (l : List GroupId). vec_len c.loop-id.held + length (added_ids before l) ≡ vec_len c.args.held.now + length (added_ids before after)) e c.loop-id.invariant.len);
      capacity = c.loop-id.invariant.capacity;
    }
  where
    add-none : {a b : ℕ} → a + 0 ≡ b → a ≡ b
    add-none h = omega arith
