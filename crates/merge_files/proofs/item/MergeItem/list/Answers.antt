use Rattle.std.proofs.Common.{◌≡◌, ℕ, List, [], get_or, arith}
use Rattle.std.specs.Borrow.{Bor}
use Rattle.std.proofs.lemmas.List.{length-map}
use Rattle.inverted_index.specs.EfFile.{IsTextOf, numbers_in}
use Rattle.merge_files.proofs.item.MergeItem.list.Goals as goal

pub of-requires-clause-known : goal.of-requires-clause-known
of-requires-clause-known c =
    let d : Bor (List ℕ) = record { ref_ptr = (0, 0); now = [] } in
    let word = (get_or c.args.self.now.words.now c.args.i d).now in
    let text : IsTextOf word (numbers_in word) = c.args.self.now.lists c.requires.kind c.args.i d (omega (arith, c.requires.within, length-map c.args.self.now.words.now (λ (w : Bor (List ℕ)). w.now))) in
    (numbers_in word, (text.listable, text.spelled))
