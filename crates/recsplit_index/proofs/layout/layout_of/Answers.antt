use Rattle.std.proofs.Common.{ℕ, ap, subst}
use Rattle.std.proofs.lemmas.Result.{IfOk-weaker}
use Rattle.recsplit_index.specs.Keys.{hashed_keys}
use Rattle.recsplit_index.specs.Spelling.{Index}
use Rattle.recsplit_index.specs.Layout.{IsLayoutOf}
use Rattle.recsplit_index.proofs.Salts.{salt_more, salt_found, salt_none}
use Rattle.recsplit_index.proofs.layout.layout_of.Goals as goal

pub returns-in-Some : goal.returns-in-Some
returns-in-Some g c =
    let words = c.args.words.now.words in
    let salt = c.loop-salt.salt in
    let found = salt_found c.args.tries words salt (hashed_keys c.from.result words) c.in_ok-built.field-0 c.in-Some.built c.loop-salt-test.true (ap (λ (s : ℕ). hashed_keys s words) c.from.ensures) c.in-Some.is c.in_ok-built.ensures c.loop-salt.invariant in
    subst (λ (x : Index). IsLayoutOf c.of.result x) found c.of.ensures

pub loop-salt-preserved : goal.loop-salt-preserved
loop-salt-preserved g c =
    let words = c.args.words.now.words in
    salt_more c.args.tries words c.loop-salt.salt (hashed_keys c.from.result words) c.in_ok-built.field-0 c.loop-salt-test.true (ap (λ (s : ℕ). hashed_keys s words) c.from.ensures) c.in_default.is c.in_ok-built.ensures c.loop-salt.invariant

pub returns : goal.returns
returns g c = IfOk-weaker c.plain.result _ _ (λ l is. subst (λ (x : Index). IsLayoutOf l x) (salt_none c.args.tries c.args.words.now.words c.loop-salt.salt c.loop-salt-test.false c.loop-salt.invariant) is) c.plain.ensures
