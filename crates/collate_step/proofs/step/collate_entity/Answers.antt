use Rattle.std.proofs.Common.{◌≡◌, false, sym, ◌∙◌, ap}
use Rattle.agg_model.specs.Entity.{is_domain_entity}
use Rattle.merge_ranges.specs.Cut.{is_aligned}
use Rattle.inverted_index.specs.EfFile.{ef_tag}
use Rattle.collate_step.proofs.Fits.{aligned_step}
use Rattle.collate_step.proofs.step.collate_entity.Goals as goal

pub of-requires : goal.of-requires
of-requires g c =
    let e = c.args.place.entity in
    let size = c.args.place.size in
    let range = c.range_of-range.ensures in
    let none : false ≡ is_domain_entity e = sym c.if-is_domain.false ∙ c.is_domain.ensures in
    record {
      aligned = ap is_aligned range ∙ aligned_step c.args.place.step c.requires;
      kv = none;
      v = none;
      tagged = (
        size,
        record {
          kv = tt;
          v = tt;
          ef = c.in_ok-ef.ensures.tag ∙ (λ i. ef_tag e size (sym range i).from (sym range i).to);
        },
      );
    }
