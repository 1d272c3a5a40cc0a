use Rattle.std.proofs.Common.{◌<◌, refl, subst, arith}
use Rattle.recsplit_index.specs.Keys.{hashed_keys}
use Rattle.recsplit_index.specs.Spelling.{Index}
use Rattle.recsplit_index.specs.Layout.{IsLayoutOf}
use Rattle.recsplit_index.proofs.Salts.{salt_found}
use Rattle.recsplit_index.proofs.layout.first_layout.Goals as goal

pub returns : goal.returns
returns g c =
    let words = c.args.words.now.words in
    let first : 0 < 8 = omega arith in
    let found = salt_found c.args.tries words 0 (hashed_keys 0 words) c.in_ok-built.built c.in-Some.built first refl c.in-Some.is c.in_ok-built.ensures refl in
    subst (λ (x : Index). IsLayoutOf c.of.result x) found c.of.ensures
