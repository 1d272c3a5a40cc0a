-- Laws of a source that is taken piece by piece.
use Rattle.std.proofs.Common.{◌≡◌, ℕ, ◌+◌, ◌<◌, ◌≤◌, ◌↔◌, inl, inr, List, [], ◌++◌, length, take, drop, Option, Some, None, IfSome, IsSomeAnd, OnOk, OnErr, Result, Ok, Err, MatchResult, append_assoc, append-nil, length-append, refl, ap, subst, sym, ◌∙◌, arith}
use Rattle.std.specs.Option.{ForSome}
use Rattle.std.proofs.lemmas.List.{take-append-drop}
use Rattle.std.proofs.lemmas.Grind.{common_steps}
use Rattle.agg_outside.specs.declared.disk.Disk.{Ghosts as DiskGhosts}
use Rattle.line_words.specs.LineCut.{next_cut, pieces_of}
use Rattle.session_link.specs.declared.limits.Limits.{Limits}
use Rattle.agg_session.specs.declared.served.Served.{Served}
use Rattle.agg_session.specs.declared.ends.LinkEnd.{LinkEnd}
use Rattle.agg_session.specs.declared.ends.LinkEnd.TheVariants.{Done}
use Rattle.session_link.specs.State.{State}
use Rattle.agg_session.specs.Answer.{ended_lines}
use Rattle.agg_session.specs.Served.{IsServed, IsAnswered, HasAnswered, HasStopped, IsTaken, IsAtEnd, Takes, TakesPart, Progress, ServesAll, ServesEnded, ServesPart, EndsLong, TakesAtMost, TakesFewer}
use Rattle.agg_session.proofs.StoppingLaws.{stops_before, all_ended}

-- ---- what was taken

-- what a source moved was taken of it
pub moved : (left after : Option (List ℕ)) (buffer piece : List ℕ) (count : ℕ) → ForSome left (λ bytes. (after ≡ Some (drop count bytes)) × (take count buffer ≡ take count bytes) × (count ≤ length bytes)) → piece ≡ take count buffer → IsTaken left piece after
moved left after buffer piece count moves is = λ input told.
    let m = moves input told in
    subst (λ o. IsSomeAnd o (λ rest. input ≡ piece ++ rest)) (sym m.0)
    (sym (take-append-drop count input) ∙ ap (λ p. p ++ drop count input) (sym (is ∙ m.1)))

-- nothing was taken
pub untaken : (left after : Option (List ℕ)) → after ≡ left → IsTaken left [] after
untaken left after same = λ input told. subst (λ o. IsSomeAnd o (λ rest. input ≡ rest)) (sym (same ∙ told)) refl

some_of : (o : Option (List ℕ)) (P : List ℕ → Type 0) → IsSomeAnd o P → (x : List ℕ) × (o ≡ Some x) × P x
some_of None P h = absurd h
some_of (Some x) P h = (x, refl, h)

-- one piece after another
pub taken_more : (left mid after : Option (List ℕ)) (text piece : List ℕ) → IsTaken left text mid → IsTaken mid piece after → IsTaken left (text ++ piece) after
taken_more left mid after text piece one two = λ input told.
    let m = some_of mid (λ rest. input ≡ text ++ rest) (one input told) in
    let n = some_of after (λ rest. m.0 ≡ piece ++ rest) (two m.0 m.1) in
    subst (λ o. IsSomeAnd o (λ rest. input ≡ (text ++ piece) ++ rest)) (sym n.1)
    (m.2 ∙ ap (λ r. text ++ r) n.2 ∙ sym (append_assoc text piece n.0))

-- the end stays the end of all that was taken
pub at_end_of : (left mid after : Option (List ℕ)) (text : List ℕ) → IsTaken left text mid → IsAtEnd mid after → IsAtEnd left after
at_end_of left mid after text one end = λ input told.
    let m = some_of mid (λ rest. input ≡ text ++ rest) (one input told) in
    end m.0 m.1

-- nothing came only where nothing is left
pub none_came : (left after : Option (List ℕ)) (buffer : List ℕ) (count room : ℕ) → 0 < room → IfSome left (λ bytes. (after ≡ Some (drop count bytes)) × (take count buffer ≡ take count bytes) × (count ≤ length bytes)) → IfSome left (λ bytes. 0 < room → (count ≡ 0 ↔ bytes ≡ [])) → length (take count buffer) ≡ 0 → IsAtEnd left after
none_came None after buffer count room some moves end none = λ input told. cc
none_came (Some bytes) after buffer count room some moves end none = λ input told.
    let zero : count ≡ 0 = counted bytes count moves.2 (ap length (sym moves.1) ∙ none) in
    let empty : bytes ≡ [] = (end some).0 zero in
    moves.0 ∙ ap Some (ap (drop count) empty ∙ drop_none count)
  where
    counted : (xs : List ℕ) (n : ℕ) → n ≤ length xs → length (take n xs) ≡ 0 → n ≡ 0
    counted xs n fits none = grind (arith, common_steps)

    drop_none : (n : ℕ) → drop {A = ℕ} n [] ≡ []
    drop_none n = grind (arith, common_steps)

-- where as much was taken as may be
pub ends_long : (left after : Option (List ℕ)) (text : List ℕ) (most : ℕ) → IsTaken left text after → length text ≡ most → ForSome left (λ input. EndsLong most input after)
ends_long left after text most taken is = λ input told.
    let m = some_of after (λ rest. input ≡ text ++ rest) (taken input told) in
    subst (λ o. IsSomeAnd o (λ rest. length input ≡ most + length rest)) (sym m.1)
    (omega (arith, ap length m.2, length-append text m.0, is))

-- no more was taken than may be, and where the text is shorter fewer
pub takes_at_most : (left after : Option (List ℕ)) (text : List ℕ) (most : ℕ) → IsTaken left text after → length text ≤ most → TakesAtMost most left after
takes_at_most left after text most taken within = λ input told.
    let m = some_of after (λ rest. input ≡ text ++ rest) (taken input told) in
    subst (λ o. IsSomeAnd o (λ rest. length input ≤ most + length rest)) (sym m.1)
    (omega (arith, ap length m.2, length-append text m.0, within))

pub takes_fewer : (left after : Option (List ℕ)) (text : List ℕ) (most : ℕ) → IsTaken left text after → length text < most → TakesFewer most left after
takes_fewer left after text most taken within = λ input told.
    let m = some_of after (λ rest. input ≡ text ++ rest) (taken input told) in
    subst (λ o. IsSomeAnd o (λ rest. length input < most + length rest)) (sym m.1)
    (omega (arith, ap length m.2, length-append text m.0, within))

-- ---- how far a source was taken

module _ {D K : Type 0} (disk : DiskGhosts D) (limits : Limits) (old now : Served D K) (out_old out left_old left : Option (List ℕ)) (taken : ℕ) where
  pub begins : now ≡ old → out ≡ out_old → left ≡ left_old → taken ≡ 0 → Progress disk limits old now out_old out left_old left taken
  begins same quiet is zero = record {
    text = [];
    is_taken = untaken left_old left is;
    counted = sym zero;
    answers = λ start first all. subst (λ (x : Served D K). IsAnswered disk limits x first out start []) (sym same) (subst (λ o. IsAnswered disk limits old first o start []) (sym quiet) all);
  }

  pub goes_on : (after : Served D K) (out_after left_after : Option (List ℕ)) (count : ℕ) → Progress disk limits old now out_old out left_old left taken → Takes disk limits now after out out_after left left_after count → Progress disk limits old after out_old out_after left_old left_after (taken + count)
  goes_on after out_after left_after count p t = record {
    text = p.text ++ t.piece;
    is_taken = taken_more left_old left left_after p.text t.piece p.is_taken t.is_taken;
    counted = omega (arith, length-append p.text t.piece, p.counted, t.counted);
    answers = λ start first all. t.answers start first p.text (p.answers start first all);
  }

  -- at the end of the source the last line is answered too
  pub serves_all : (mid : Served D K) (out_mid : Option (List ℕ)) (after : Served D K) (out_after left_after : Option (List ℕ)) (count : ℕ) → count ≡ 0 → taken < limits.bytes → Progress disk limits old now out_old out left_old left taken → Takes disk limits now mid out out_mid left left_after count → ((start : State) (first : Option (List ℕ)) (text : List ℕ) → IsAnswered disk limits mid first out_mid start text → HasAnswered disk limits after.session first out_after start (pieces_of limits.line text)) → ServesAll disk limits old after out_old out_after left_old left_after
  serves_all mid out_mid after out_after left_after count zero within p t finishes = record {
    text = p.text ++ t.piece;
    is_taken = taken_more left_old left left_after p.text t.piece p.is_taken t.is_taken;
    all = at_end_of left_old left left_after p.text p.is_taken (t.none zero);
    within = omega (arith, length-append p.text t.piece, p.counted, t.counted);
    answers = λ start first all. finishes start first (p.text ++ t.piece) (t.answers start first p.text (p.answers start first all));
  }

  -- or it is answered in part
  pub last_part : (mid : Served D K) (out_mid : Option (List ℕ)) (after : Served D K) (out_after left_after : Option (List ℕ)) (count : ℕ) → count ≡ 0 → taken < limits.bytes → Progress disk limits old now out_old out left_old left taken → Takes disk limits now mid out out_mid left left_after count → ((start : State) (first : Option (List ℕ)) (text : List ℕ) → IsAnswered disk limits mid first out_mid start text → HasStopped disk limits after.session.store first out_after start (pieces_of limits.line text)) → ServesPart disk limits old after out_old out_after left_old left_after
  last_part mid out_mid after out_after left_after count zero within p t finishes = record {
    text = p.text ++ t.piece;
    is_taken = taken_more left_old left left_after p.text t.piece p.is_taken t.is_taken;
    within = omega (arith, length-append p.text t.piece, p.counted, t.counted);
    lines = pieces_of limits.line (p.text ++ t.piece);
    due = inr (at_end_of left_old left left_after p.text p.is_taken (t.none zero), refl);
    answers = λ start first all. finishes start first (p.text ++ t.piece) (t.answers start first p.text (p.answers start first all));
  }

  -- a piece was taken whose lines are answered in part
  pub piece_part : (room : ℕ) (after : Served D K) (out_after left_after : Option (List ℕ)) → taken + room ≤ limits.bytes → Progress disk limits old now out_old out left_old left taken → TakesPart disk limits room now after out out_after left left_after → ServesPart disk limits old after out_old out_after left_old left_after
  piece_part room after out_after left_after within p t = record {
    text = p.text ++ t.piece;
    is_taken = taken_more left_old left left_after p.text t.piece p.is_taken t.is_taken;
    within = omega (arith, length-append p.text t.piece, p.counted, t.within);
    lines = ended_lines limits.line (p.text ++ t.piece);
    due = inl refl;
    answers = λ start first all. t.answers start first p.text (p.answers start first all);
  }

  -- between two takes
  pub serves_ended : (after : Served D K) (out_after left_after : Option (List ℕ)) → after ≡ now → out_after ≡ out → left_after ≡ left → taken ≤ limits.bytes → IsServed limits now → (next_cut now.cut).0 ≡ None → Progress disk limits old now out_old out left_old left taken → ServesEnded disk limits old after out_old out_after left_old left_after
  serves_ended after out_after left_after same quiet is within sound none p = record {
    text = p.text;
    is_taken = subst (λ o. IsTaken left_old p.text o) (sym is) p.is_taken;
    within = omega (arith, p.counted);
    answers = λ start first all.
        subst (λ (x : Served D K). HasAnswered disk limits x.session first out_after start (ended_lines limits.line p.text)) (sym same)
        (subst (λ o. HasAnswered disk limits now.session first o start (ended_lines limits.line p.text)) (sym quiet)
        (all_ended disk limits now first out start p.text sound none (p.answers start first all)));
  }

  pub ended_part : (after : Served D K) (out_after left_after : Option (List ℕ)) → after ≡ now → out_after ≡ out → left_after ≡ left → taken ≤ limits.bytes → Progress disk limits old now out_old out left_old left taken → ServesPart disk limits old after out_old out_after left_old left_after
  ended_part after out_after left_after same quiet is within p = record {
    text = p.text;
    is_taken = subst (λ o. IsTaken left_old p.text o) (sym is) p.is_taken;
    within = omega (arith, p.counted);
    lines = ended_lines limits.line (p.text ++ []);
    due = inl (ap (ended_lines limits.line) (append-nil p.text));
    answers = λ start first all.
        stops_before disk limits now after.session.store first out out_after start p.text [] (ap (λ (x : Served D K). x.session.store) same) quiet (p.answers start first all);
  }

-- how a link ends whose last line was worked on
pub finished_well : (outcome : Result (Unit {0}) LinkEnd) (end : LinkEnd) (P : Type 0) → MatchResult outcome (λ _. end ≡ Done) (λ e. end ≡ e) → end ≡ Done → (outcome ≡ Err Done → ⊥) → OnOk outcome P → P
finished_well (Ok u) end P is done never h = h
finished_well (Err e) end P is done never h = absurd (never (ap Err (sym is ∙ done)))

pub finished_badly : (outcome : Result (Unit {0}) LinkEnd) (end : LinkEnd) (P : Type 0) → MatchResult outcome (λ _. end ≡ Done) (λ e. end ≡ e) → (end ≡ Done → ⊥) → OnErr outcome P → P
finished_badly (Ok u) end P is never h = absurd (never is)
finished_badly (Err e) end P is never h = h
