use Rattle.window_pages.proofs.rows.row_of.Goals as goal

pub returns-in-Values-clause-row : goal.returns-in-Values-clause-row
returns-in-Values-clause-row g c list groups stand domain at = rw (c.in-Values.is) (c.row_with.ensures.row list groups stand domain at)

pub returns-in-Changes-clause-row : goal.returns-in-Changes-clause-row
returns-in-Changes-clause-row g c list groups stand domain at = rw (c.in-Changes.is) (c.row_at.ensures.row list groups stand domain at)
