use Rattle.std.proofs.Common.{ℕ, ap, subst}
use Rattle.recsplit_index.specs.Keys.{hashed_keys}
use Rattle.recsplit_index.specs.Spelling.{Index}
use Rattle.recsplit_index.specs.InPlace.{IsCompared}
use Rattle.recsplit_index.proofs.Salts.{salt_next, salt_here, salt_none}
use Rattle.recsplit_index.proofs.Comparisons.{followed_here, none_here}
use Rattle.recsplit_index.proofs.compare.compare.Goals as goal

pub with_nodes-requires : goal.with_nodes-requires
with_nodes-requires g c =
    let words = c.args.words.now.words in
    let here = followed_here c.args.bytes.now c.args.tries c.loop-salt.salt words (hashed_keys c.from.result words) c.in_ok-followed.followed c.in-Some.nodes (ap (λ (s : ℕ). hashed_keys s words) c.from.ensures) c.in-Some.is c.in_ok-followed.ensures in
    (here.0, here.2)

pub returns-in-Some : goal.returns-in-Some
returns-in-Some g c =
    let words = c.args.words.now.words in
    let salt = c.loop-salt.salt in
    let here = followed_here c.args.bytes.now c.args.tries salt words (hashed_keys c.from.result words) c.in_ok-followed.followed c.in-Some.nodes (ap (λ (s : ℕ). hashed_keys s words) c.from.ensures) c.in-Some.is c.in_ok-followed.ensures in
    subst (λ (x : Index). IsCompared c.args.bytes.now c.with_nodes.result x) (salt_here c.args.tries words salt here.0 c.loop-salt-test.true here.1 c.loop-salt.invariant) (c.with_nodes.ensures here.0 here.2)

pub loop-salt-preserved : goal.loop-salt-preserved
loop-salt-preserved g c =
    let words = c.args.words.now.words in
    salt_next c.args.tries words c.loop-salt.salt c.loop-salt-test.true (none_here c.args.bytes.now c.args.tries c.loop-salt.salt words (hashed_keys c.from.result words) c.in_ok-followed.followed (ap (λ (s : ℕ). hashed_keys s words) c.from.ensures) c.in_default.is c.in_ok-followed.ensures)
    c.loop-salt.invariant

pub returns : goal.returns
returns g c =
    subst (λ (x : Index). IsCompared c.args.bytes.now c.with_layout.result x) (salt_none c.args.tries c.args.words.now.words c.loop-salt.salt c.loop-salt-test.false c.loop-salt.invariant)
    (c.with_layout.ensures _ c.in_ok-layout.ensures)
