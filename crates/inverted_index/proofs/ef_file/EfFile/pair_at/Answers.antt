use Rattle.std.proofs.Common.{◌≡◌, ℕ, List, Some, slice_get, sym, ap, ◌∙◌, subst}
use Rattle.hashed_words.specs.Hashed.{IsPairAt, StartsPair}
use Rattle.inverted_index.specs.EfFile.{TaggedLists}
use Rattle.inverted_index.proofs.Views.{seen_words}
use Rattle.inverted_index.proofs.ef_file.EfFile.pair_at.Goals as goal

pub pair_in-requires-clause-starts : goal.pair_in-requires-clause-starts
pair_in-requires-clause-starts c =
    subst (λ (ws : List (List ℕ)). StartsPair ws c.args.at) (sym (seen_words c.self.inside.held c.args.self.now c.self.invariant c.self.view_is)) c.requires

pub returns : goal.returns
returns c = λ place p.
    let there = subst (λ (ws : List (List ℕ)). IsPairAt ws c.args.at place) (sym (seen_words c.self.inside.held c.args.self.now c.self.invariant c.self.view_is)) p in
    ap (λ (f : TaggedLists). slice_get f.lists place) (sym c.self.view_is) ∙ c.pair_in.ensures place there
