use Rattle.std.proofs.Common.{◌≡◌, ℕ, List, [], map, ap, subst, ◌∙◌}
use Rattle.recsplit_index.specs.Keys.{by_key}
use Rattle.recsplit_index.specs.Spelling.{Index}
use Rattle.recsplit_index.specs.Layout.{IsLayoutOf}
use Rattle.recsplit_index.specs.Index.{plain_index}
use Rattle.recsplit_index.proofs.Layouts.{index_with}
use Rattle.recsplit_index.proofs.layout.plain.Goals as goal

pub returns : goal.returns
unfolding plain_index
returns g c =
    let words = c.args.words.now.words in
    let offsets : c.in_ok-sorted.sorted.items ≡ map (λ entry. entry.1) (by_key words) = c.in_ok-sorted.ensures ∙ ap (λ (l : List (List ℕ × ℕ)). map (λ entry. entry.1) l) c.in_ok-tree.ensures in
    let whole : index_with 0 0 c.new-starts.result.items c.in_ok-sorted.sorted.items c.new-codes.result ≡ plain_index words =
    ap (λ (l : List ℕ). index_with 0 0 l c.in_ok-sorted.sorted.items c.new-codes.result) c.new-starts.ensures.items
    ∙ ap (λ (l : List ℕ). index_with 0 0 [] l c.new-codes.result) offsets
    ∙ ap (index_with 0 0 [] (map (λ entry. entry.1) (by_key words))) c.new-codes.ensures
    in
    subst (λ (x : Index). IsLayoutOf c.of.result x) whole c.of.ensures
