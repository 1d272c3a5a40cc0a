use Rattle.std.proofs.Common.{◌≡◌, None, sym, ap, ◌∙◌, rules}
use Rattle.std.specs.Option.{option_copied}
use Rattle.hashed_words.proofs.Values.{none_of, value_found}
use Rattle.hashed_words.proofs.hashed.HashedWords.value.Goals as goal

pub returns-in_err-at-clause-value : goal.returns-in_err-at-clause-value
returns-in_err-at-clause-value g c =
    let left : c.from_residual.result ≡ None = search rules in
    ap option_copied left ∙ sym (none_of c.args.self.now.words c.args.key.now c.find.result c.in_err-at.was c.find.ensures.none)

pub returns-clause-value : goal.returns-clause-value
returns-clause-value g c =
    value_found c.self.inside.words c.args.self.now c.args.key.now c.value_behind.result.now c.in_ok-at.at c.self.view_is c.self.invariant.differ c.value_behind.ensures.value c.in_ok-at.ensures.found
