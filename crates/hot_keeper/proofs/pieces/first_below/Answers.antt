use Rattle.std.proofs.Common.{◌≡◌, ℕ, List, length, drop, Option, sym, ap, subst, ◌∙◌}
use Rattle.std.specs.Prelude.{nat_lt}
use Rattle.agg_outside.specs.declared.rows.RowId.{RowId}
use Rattle.agg_outside.specs.Rows.{Held}
use Rattle.row_epochs.specs.Versions.{AreVersions}
use Rattle.row_epochs.proofs.Answering.{tell, fall}
use Rattle.hot_keeper.specs.Pruning.{low_rows, pruned_ids}
use Rattle.hot_keeper.specs.ReadAhead.{IsAhead, AreAhead}
use Rattle.hot_keeper.proofs.AheadLaws.{ahead_ids, ahead_rest, read_for}
use Rattle.hot_keeper.proofs.pieces.first_below.Goals as goal

pub read_on-requires-clause-ahead : goal.read_on-requires-clause-ahead
read_on-requires-clause-ahead g c =
    let begun = c.in_ok-begun.begun in
    tell c.args.rows.now.told (λ (h : Held). IsAhead begun.ids.items begun.place (low_rows begun.tx h.rows)) (λ h told.
    let F : ℕ → Type 0 = λ n. IsAhead begun.ids.items begun.place (low_rows n h.rows) in
    subst F (sym c.in_ok-begun.ensures.tx) (c.in_ok-begun.ensures.ahead h.rows (fall c.args.rows.now.told (λ (x : Held). AreAhead c.args.before x.rows) c.requires.ahead h told)))

pub returns-clause-ids : goal.returns-clause-ids
returns-clause-ids g c =
    let read = c.in_ok-read.read in
    tell c.args.rows.now.told (λ (h : Held). c.in_ok-first.first.ids.items ≡ pruned_ids c.args.tx c.args.limit h.rows) (λ h told.
    c.in_ok-first.ensures.ids
    ∙ (ahead_ids c.args.limit read.ids.items read.place (low_rows c.args.tx h.rows) c.in_ok-read.ensures.enough
    (read_for read.ids.items read.place c.in_ok-begun.begun.tx c.args.tx c.args.rows.now.told c.in_ok-begun.ensures.tx c.in_ok-read.ensures.ahead h told)).0)

pub returns-clause-more : goal.returns-clause-more
returns-clause-more g c =
    let read = c.in_ok-read.read in
    tell c.args.rows.now.told (λ (h : Held). c.in_ok-first.first.more ≡ nat_lt c.args.limit (length (low_rows c.args.tx h.rows))) (λ h told.
    c.in_ok-first.ensures.more
    ∙ (ahead_ids c.args.limit read.ids.items read.place (low_rows c.args.tx h.rows) c.in_ok-read.ensures.enough
    (read_for read.ids.items read.place c.in_ok-begun.begun.tx c.args.tx c.args.rows.now.told c.in_ok-begun.ensures.tx c.in_ok-read.ensures.ahead h told)).1)

pub returns-clause-rest : goal.returns-clause-rest
returns-clause-rest g c =
    let read = c.in_ok-read.read in
    let rest = c.in_ok-first.first.rest in
    tell c.args.rows.now.told (λ (h : Held). IsAhead rest.ids.items rest.place (drop c.args.limit (low_rows c.args.tx h.rows))) (λ h told.
    let F : List RowId → Type 0 = λ l. IsAhead l rest.place (drop c.args.limit (low_rows c.args.tx h.rows)) in
    let G : Option RowId → Type 0 = λ p. IsAhead (drop c.args.limit read.ids.items) p (drop c.args.limit (low_rows c.args.tx h.rows)) in
    let are = fall c.args.rows.now.told (AreVersions c.args.rows.now.epoch) c.requires.versions h told in
    subst F (sym c.in_ok-first.ensures.rest)
    (subst G (sym c.in_ok-first.ensures.place)
    (ahead_rest c.args.tx c.args.limit read.ids.items read.place h.rows are.in_order c.in_ok-read.ensures.enough
    (read_for read.ids.items read.place c.in_ok-begun.begun.tx c.args.tx c.args.rows.now.told c.in_ok-begun.ensures.tx c.in_ok-read.ensures.ahead h told))))
