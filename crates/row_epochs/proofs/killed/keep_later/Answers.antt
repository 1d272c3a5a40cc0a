use Rattle.std.proofs.Common.{not, rules}
use Rattle.std.specs.Prelude.{nat_le}
use Rattle.std.proofs.lemmas.Map.Made.{filter_same_pairs}
use Rattle.row_epochs.proofs.killed.keep_later.Goals as goal

pub returns : goal.returns
returns c =
    filter_same_pairs _ (λ e. not (nat_le e.1 c.args.oldest)) _ (λ k v b w f' t. search rules) c.args.kills.now.entries c.retain.new.self.entries c.retain.ensures.filtered
