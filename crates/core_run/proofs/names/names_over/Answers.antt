use Rattle.core_run.proofs.NameSets.{all-over}
use Rattle.core_run.proofs.names.names_over.Goals as goal

pub returns : goal.returns
returns c =
    all-over c.args.cut.now c.new-set.result.keys c.add_entity.new.set.keys c.add_entity-2.new.set.keys c.add_entity-3.new.set.keys c.add_entity-4.new.set.keys c.add_entity-5.new.set.keys
    c.add_entity-6.new.set.keys c.add_entity-7.new.set.keys c.new-set.ensures.empty c.in_ok-add_entity.ensures c.in_ok-add_entity-2.ensures c.in_ok-add_entity-3.ensures
    c.in_ok-add_entity-4.ensures c.in_ok-add_entity-5.ensures c.in_ok-add_entity-6.ensures c.in_ok-add_entity-7.ensures
