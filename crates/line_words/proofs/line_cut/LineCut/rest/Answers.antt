use Rattle.std.proofs.Common.{◌≡◌, ◌<◌, Some, ℕ, List, [], length, drop, refl, sym, ap, ◌∙◌, arith}
use Rattle.std.proofs.lemmas.List.{take_rest, drop_all}
use Rattle.line_words.specs.LineCut.{Uncut, cut_of, piece_of, last_from}
use Rattle.line_words.proofs.LastLine.{rest_cut-empty, rest_cut-line}
use Rattle.line_words.proofs.Pieces.{rest_cut-lines}
use Rattle.line_words.proofs.line_cut.LineCut.rest.Goals as goal

pub returns-then-start-end : goal.returns-then-start-end
returns-then-start-end c =
    let s = c.self.inside in
    let bytes = s.buffer.items in
    let line : last_from [] (drop s.start bytes) ≡ drop c.last_line-start.result bytes = rw c.as_slice.ensures.value at c.last_line-start.ensures.line in
    let end : c.len-end.result ≡ length bytes = c.len-end.ensures ∙ s.buffer.ok.0 in
    let emptied : drop c.len-end.result bytes ≡ [] = drop_all c.len-end.result bytes (omega (arith, end)) in
    let left = ap (λ (left : List ℕ). let u : Uncut = record { limit = s.limit; left = left } in u) emptied in
    rw (← c.self.view_is) ((refl, λ _. tt, left), record { leaves = tt; cut = sym (rest_cut-empty s.limit bytes s.start c.last_line-start.result line (c.if-start-end.true ∙ end)); lines = rest_cut-lines (record { limit = s.limit; left = drop s.start bytes }) })

pub returns : goal.returns
returns c =
    let s = c.self.inside in
    let bytes = s.buffer.items in
    let line : last_from [] (drop s.start bytes) ≡ drop c.last_line-start.result bytes = rw c.as_slice.ensures.value at c.last_line-start.ensures.line in
    let end : c.len-end.result ≡ length bytes = c.len-end.ensures ∙ s.buffer.ok.0 in
    let emptied : drop c.len-end.result bytes ≡ [] = drop_all c.len-end.result bytes (omega (arith, end)) in
    let left = ap (λ (left : List ℕ). let u : Uncut = record { limit = s.limit; left = left } in u) emptied in
    let shown : cut_of c.cut_off.result ≡ Some (piece_of s.limit (drop c.last_line-start.result bytes)) = rw (c.as_slice-2.ensures.value, end, take_rest) at c.cut_off.ensures in
    let some : c.last_line-start.result < length bytes = omega (arith, c.last_line-start.ensures.within, ap length c.as_slice.ensures.value, end) in
    rw (← c.self.view_is) ((refl, λ _. tt, left), record { leaves = tt; cut = shown ∙ sym (rest_cut-line s.limit bytes s.start c.last_line-start.result line some); lines = rest_cut-lines (record { limit = s.limit; left = drop s.start bytes }) })
