use Rattle.std.proofs.Common.{List, ℕ, sym, ap, ◌∙◌, subst}
use Rattle.word_file.specs.Reading.{tagged}
use Rattle.inverted_index.specs.EfFile.{TaggedLists, AreLists, words_of}
use Rattle.inverted_index.proofs.ef_file.EfFile.words.Goals as goal

pub returns-clause-words : goal.returns-clause-words
returns-clause-words c =
    c.words.ensures ∙ ap (tagged c.self.inside.held.tag) c.self.invariant.words ∙ ap (λ (f : TaggedLists). tagged f.tag (words_of f.lists)) c.self.view_is

pub returns-clause-lists : goal.returns-clause-lists
returns-clause-lists c = subst (λ (f : TaggedLists). AreLists f.tag f.lists) c.self.view_is c.self.invariant.lists
