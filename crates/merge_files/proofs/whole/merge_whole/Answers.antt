use Rattle.std.proofs.Common.{◌≡◌, true, false, sym, ◌∙◌, ap}
use Rattle.agg_model.specs.Entity.{is_domain_entity}
use Rattle.merge_files.proofs.whole.merge_whole.Goals as goal

pub of-requires : goal.of-requires
of-requires c =
    let none : false ≡ is_domain_entity c.args.whole.entity = sym c.if-not-is_domain.true ∙ c.is_domain.ensures in
    record {
      aligned = c.requires;
      kv = none;
      v = none;
      tagged = (c.args.whole.size, record { kv = tt; v = tt; ef = c.in_ok-ef.ensures.tag });
    }

pub of-requires-2 : goal.of-requires-2
of-requires-2 c =
    let some : true ≡ is_domain_entity c.args.whole.entity = sym c.if-not-is_domain.false ∙ c.is_domain.ensures in
    record {
      aligned = c.requires;
      kv = some;
      v = some;
      tagged = (c.args.whole.size, record { kv = c.in_ok-kv.ensures.tag; v = c.in_ok-v.ensures.tag; ef = c.in_ok-ef.ensures.tag });
    }
