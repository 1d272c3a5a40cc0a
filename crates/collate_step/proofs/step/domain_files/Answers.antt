use Rattle.std.proofs.Common.{◌≡◌, ◌+◌, true, sym, ◌∙◌, ap, rules}
use Rattle.agg_model.specs.Entity.{is_domain_entity}
use Rattle.merge_ranges.specs.Cut.{is_aligned}
use Rattle.domain_core.specs.KvFile.{kv_tag}
use Rattle.history_core.specs.VFile.{v_tag}
use Rattle.inverted_index.specs.EfFile.{ef_tag}
use Rattle.collate_step.proofs.Fits.{aligned_step}
use Rattle.collate_step.proofs.step.domain_files.Goals as goal

pub of-requires : goal.of-requires
of-requires g c =
    let e = c.args.place.entity in
    let size = c.args.place.size in
    let step = c.args.place.step in
    let range = c.range_of.ensures in
    let kv : c.in_ok-kv.kv.tag ≡ kv_tag e size step (step + 1) = search rules in
    let v : c.in_ok-v.v.tag ≡ v_tag e size step (step + 1) = search rules in
    let ef : c.in_ok-ef.ef.tag ≡ ef_tag e size step (step + 1) = search rules in
    let some : true ≡ is_domain_entity e = sym c.requires.domain in
    record {
      aligned = ap is_aligned range ∙ aligned_step step c.requires.step;
      kv = some;
      v = some;
      tagged = (
        size,
        record {
          kv = kv ∙ (λ i. kv_tag e size (sym range i).from (sym range i).to);
          v = v ∙ (λ i. v_tag e size (sym range i).from (sym range i).to);
          ef = ef ∙ (λ i. ef_tag e size (sym range i).from (sym range i).to);
        },
      );
    }
