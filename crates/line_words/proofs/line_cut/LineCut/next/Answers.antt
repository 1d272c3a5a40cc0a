use Rattle.std.proofs.Common.{◌≡◌, ◌+◌, ℕ, List, length, take, drop, None, Some, Option, refl, sym, ap, ◌∙◌, add_assoc}
use Rattle.std.proofs.lemmas.List.{take_rest, drop-take}
use Rattle.memchr.specs.Find.{IsFirstByte, is_byte}
use Rattle.line_words.specs.LineCut.{Uncut, Piece}
use Rattle.line_words.proofs.Feeds.{next_cut-missed, next_cut-found, IsSearched-kept}
use Rattle.line_words.proofs.Pieces.{next_cut-lines}
use Rattle.line_words.proofs.line_cut.LineCut.next.Goals as goal

pub invariant_of-self : goal.invariant_of-self
invariant_of-self c =
    let s = c.self.inside in
    let bytes = s.buffer.items in
    let missed : IsFirstByte (is_byte 10) (drop s.seen bytes) None = rw (take_rest, c.deref.ensures.value) at c.in_default.ensures in
    let count : c.len-self-inside.result ≡ length c.hold_back.new.text.items = c.len-self-inside.ensures ∙ c.hold_back.new.text.ok.0 in
    rw (count, c.hold_back.ensures, add_assoc) (IsSearched-kept bytes s.start s.seen c.self.invariant (s.limit + 1) missed)

pub returns-in_default : goal.returns-in_default
returns-in_default c =
    let s = c.self.inside in
    let bytes = s.buffer.items in
    let missed : IsFirstByte (is_byte 10) (drop s.seen bytes) None = rw (take_rest, c.deref.ensures.value) at c.in_default.ensures in
    let cut = next_cut-missed bytes s.start s.seen c.self.invariant s.limit missed in
    let kept : drop s.start c.hold_back.new.text.items ≡ take (s.limit + 1) (drop s.start bytes) =
    ap (drop s.start) (c.hold_back.ensures ∙ ap (λ n. take n bytes) (add_assoc s.start s.limit 1)) ∙ drop-take s.start (s.limit + 1) bytes in
    rw (← c.self.view_is) ((refl, λ _. tt, ap (λ (left : List ℕ). let u : Uncut = record { limit = s.limit; left = left } in u) (kept ∙ sym (ap (λ (r : Option Piece × List ℕ). r.1) cut))), record { leaves = tt; cut = sym (ap (λ (r : Option Piece × List ℕ). r.0) cut); lines = next_cut-lines (record { limit = s.limit; left = drop s.start bytes }) })

pub returns : goal.returns
returns c =
    let s = c.self.inside in
    let bytes = s.buffer.items in
    let found : IsFirstByte (is_byte 10) (drop s.seen bytes) (Some c.in-Some.ahead) = rw (take_rest, c.deref.ensures.value) at c.in-Some.ensures in
    let cut = next_cut-found bytes s.start s.seen c.self.invariant s.limit c.in-Some.ahead found in
    rw (← c.self.view_is) ((refl, λ _. tt, ap (λ (left : List ℕ). let u : Uncut = record { limit = s.limit; left = left } in u) (sym (ap (λ (r : Option Piece × List ℕ). r.1) cut))), record { leaves = tt; cut = (rw c.as_slice.ensures.value at c.cut_off.ensures) ∙ sym (ap (λ (r : Option Piece × List ℕ). r.0) cut); lines = next_cut-lines (record { limit = s.limit; left = drop s.start bytes }) })
