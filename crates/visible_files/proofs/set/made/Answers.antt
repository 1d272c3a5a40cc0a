use Rattle.std.proofs.Common.{ap, ◌∙◌, sym, subst}
use Rattle.agg_model.specs.declared.entity.Entity.TheVariants.{Accounts}
use Rattle.merge_ranges.specs.Cut.{end_of}
use Rattle.visible_files.specs.Ids.{AreCuts, ranges_of}
use Rattle.visible_files.proofs.Cuts.{cuts-ascend}
use Rattle.visible_files.proofs.set.made.Goals as goal

pub invariant_of-result : goal.invariant_of-result
invariant_of-result g c =
    let ids = c.args.ids.items in
    let end = c.end_of_ids-end.ensures ∙ ap (λ l. end_of (ranges_of Accounts l)) c.deref.ensures.value ∙ c.requires.cuts.1.ends Accounts in
    record {
      same = c.requires.same;
      set = record {
        order = cuts-ascend (λ _. 0) 0 ids c.requires.cuts.1.cut c.requires.order;
        cuts = subst (λ m. AreCuts ids m) (sym end) c.requires.cuts.1;
      };
    }

pub returns-clause-set : goal.returns-clause-set
returns-clause-set g c =
    let ids = c.args.ids.items in
    let end = c.end_of_ids-end.ensures ∙ ap (λ l. end_of (ranges_of Accounts l)) c.deref.ensures.value ∙ c.requires.cuts.1.ends Accounts in
    record {
      same = c.requires.same;
      set = record {
        order = cuts-ascend (λ _. 0) 0 ids c.requires.cuts.1.cut c.requires.order;
        cuts = subst (λ m. AreCuts ids m) (sym end) c.requires.cuts.1;
      };
    }
