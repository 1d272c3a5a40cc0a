-- What a session is between two lines, and what each request makes of it.
use Rattle.std.specs.Prelude.{ℕ, ◌+◌, ◌-◌, ◌*◌, ◌^◌, ◌==◌, nat_lt, nat_le, if◌then◌else◌, Bool, List, [], ◌∷◌}
use Rattle.std.specs.Prelude.{◌++◌, map, length, Option, Some, None, unwrap_or}
use Rattle.std.specs.Option.{option_or}
use Rattle.agg_model.specs.declared.entity.Entity.{Entity}
use Rattle.agg_model.specs.declared.change.Act.{Act}
use Rattle.agg_model.specs.declared.change.Act.TheVariants.{Put, Del, Mark}
use Rattle.agg_model.specs.declared.change.Change.{Change}
use Rattle.agg_model.specs.Batch.{content_of}
use Rattle.agg_model.specs.declared.page.PageRow.{PageRow}
use Rattle.agg_model.specs.ChangeList.{ChangeList, latest, as_of, next_of, grown}
use Rattle.agg_model.specs.Listed.{range, history, index, limited}
use Rattle.agg_model.specs.Merged.{merged}
use Rattle.merge_ranges.specs.Name.{spelled}
use Rattle.agg_core.specs.Names.{complete_steps, written_names}
use Rattle.line_words.specs.declared.request.Request.{Request}
use Rattle.line_words.specs.declared.request.Request.TheVariants as on
use Rattle.line_words.specs.declared.reply.Reply.{Reply}
use Rattle.line_words.specs.declared.reply.Reply.TheVariants as says
use Rattle.session_link.specs.declared.limits.Limits.{Limits}

-- an open transaction: its number, and the list as it stood at its `open`
pub record Opening : Type 0 where
  pub number : ℕ
  pub list : ChangeList

pub record State : Type 0 where
  -- all accepted changes
  pub list : ChangeList
  -- the changes since the last commit
  pub pending : List Change
  -- the current number
  pub current : Option ℕ
  -- how many transactions were opened
  pub opens : ℕ
  -- those that are open, in the order in which they were opened
  pub transactions : List Opening

-- where a session begins
abbrev pub starting : ChangeList → State
starting list = record { list = list; pending = []; current = None; opens = 0; transactions = [] }

-- the state after a request, and its reply; and how many first steps are in files from then on
pub record Outcome : Type 0 where
  pub state : State
  pub reply : Reply
  pub settled : ℕ

abbrev pub replied : State → Reply → Outcome
replied s reply = record { state = s; reply = reply; settled = 0 }

-- a refused request leaves the state `s`; one that isn't refused has the outcome
abbrev pub unless : Option Reply → State → Outcome → Outcome
unless None s o = o
unless (Some refusal) s o = replied s refusal

-- the first number that is too far
abbrev pub far_of : ChangeList → ℕ
far_of list = 4096 * list.size

-- a number that isn't above the current one
abbrev pub order_refusal : ℕ → Option ℕ → Option Reply
order_refusal n None = None
order_refusal n (Some last) = if nat_le n last then Some (says.ErrOrder last n) else None

-- or that is too far
abbrev pub number_refusal : ℕ → ℕ → Option ℕ → Option Reply
number_refusal far n current = if nat_le far n then Some (says.ErrFar far n) else order_refusal n current

-- `tx N`
abbrev pub number_on : ℕ → State → Outcome
number_on n s =
    unless (number_refusal (far_of s.list) n s.current) s (replied (record s { current = Some n }) says.Ok)

-- a change joins the pending ones, where their content stays within the limit
abbrev pub pending_on : Limits → Change → State → Outcome
pending_on limits c s =
    if nat_le (content_of (s.pending ++ c ∷ [])) limits.content
    then replied (record s { pending = s.pending ++ c ∷ [] }) says.Ok
    else replied s says.ErrLimit

-- `put E K V`, `del E K`, `mark E K`: the change has the current number
abbrev pub change_on : Limits → Option ℕ → Entity → List ℕ → Act → State → Outcome
change_on limits None e k act s = replied s says.ErrNotx
change_on limits (Some n) e k act s = pending_on limits (record { tx = n; entity = e; key = k; act = act }) s

-- the pending changes and the current number go, whatever a commit replies
abbrev pub cleared : State → State
cleared s = record s { pending = []; current = None }

-- no change is pending, or the first isn't above all numbers of the list
abbrev pub batch_refusal : ℕ → List Change → Option Reply
batch_refusal next [] = Some says.ErrEmpty
batch_refusal next (c ∷ cs) = if nat_lt c.tx next then Some (says.ErrOrder (next - 1) c.tx) else None

-- the content of the list would be above the limit
abbrev pub content_refusal : ℕ → ChangeList → List Change → Option Reply
content_refusal most list pending =
    if nat_lt most (content_of list.changes + content_of (merged pending)) then Some says.ErrLimit else None

abbrev pub commit_refusal : ℕ → ChangeList → List Change → Option Reply
commit_refusal most list pending = option_or (batch_refusal list.next pending) (content_refusal most list pending)

-- `commit`: the pending changes, of repeats the last, join the list
abbrev pub commit_on : Limits → State → Outcome
commit_on limits s =
    unless (commit_refusal limits.content s.list s.pending) (cleared s)
    (replied (record (cleared s) { list = grown s.list (merged s.pending) })
    (says.Committed (length (merged s.pending)) (next_of s.list.next (merged s.pending))))

-- one more transaction, of the list as it stands
abbrev pub with_opening : State → State
with_opening s = record s {
  opens = s.opens + 1;
  transactions = s.transactions ++ record { number = s.opens + 1; list = s.list } ∷ [];
}

-- `open`: a transaction of the list as it stands
abbrev pub open_on : Limits → State → Outcome
open_on limits s =
    if nat_lt (length s.transactions) limits.opens
    then replied (with_opening s) (says.Opened (s.opens + 1) s.list.next)
    else replied s (says.ErrOpen limits.opens)

-- the list at the opening of a transaction, where it is open
abbrev pub list_at : ℕ → List Opening → Option ChangeList
list_at t [] = None
list_at t (o ∷ os) = if o.number == t then Some o.list else list_at t os

abbrev pub openings_without : ℕ → List Opening → List Opening
openings_without t [] = []
openings_without t (o ∷ os) = if o.number == t then os else o ∷ openings_without t os

-- `close T`: the transaction is open, and is open no longer
abbrev pub close_on : ℕ → Option ChangeList → State → Outcome
close_on t None s = replied s (says.ErrTx t)
close_on t (Some list) s = replied (record s { transactions = openings_without t s.transactions }) says.Ok

-- a read of an open transaction has the reply of the list at its opening
abbrev pub read_on : ℕ → Option ChangeList → (ChangeList → Reply) → State → Outcome
read_on t None reply_of s = replied s (says.ErrTx t)
read_on t (Some list) reply_of s = replied s (reply_of list)

abbrev pub value_reply : Option (List ℕ) → Reply
value_reply None = says.NoValue
value_reply (Some v) = says.Value v

abbrev pub rows_reply : List PageRow × Option (List ℕ) → Reply
rows_reply page = says.Rows page.0 page.1

abbrev pub times_reply : List ℕ × Option ℕ → Reply
times_reply page = says.Times page.0 page.1

-- `latest T E K`: the value of the key's last change
abbrev pub latest_reply : Entity → List ℕ → ChangeList → Reply
latest_reply e k list = value_reply (latest list e k)

-- `asof T E N K`: the value of the key's last change with a number below n
abbrev pub as_of_reply : Entity → ℕ → List ℕ → ChangeList → Reply
as_of_reply e n k list = value_reply (as_of list e k n)

-- `range T E N FROM TO LIMIT`: the keys that have a value just before n
abbrev pub range_reply : Entity → ℕ → Option (List ℕ) → Option (List ℕ) → ℕ → ChangeList → Reply
range_reply e n from to limit list = rows_reply (limited (λ r. r.key) limit (range list.changes e n from to))

-- an open end of numbers is the first one, or the one above all
abbrev pub first_number : Option ℕ → ℕ
first_number a = unwrap_or a 0

abbrev pub end_number : Option ℕ → ℕ
end_number b = unwrap_or b (2 ^ 63)

-- `history T E A B FROM LIMIT`: the keys that changed from a on and below b, each with its value just before a
abbrev pub history_reply : Entity → Option ℕ → Option ℕ → Option (List ℕ) → ℕ → ChangeList → Reply
history_reply e a b from limit list =
    rows_reply (limited (λ r. r.key) limit (history list.changes e (first_number a) (end_number b) from))

-- `index T E K A B asc LIMIT`, or with `desc`: the numbers from a on and below b at which the key changed
abbrev pub index_reply : Entity → List ℕ → Option ℕ → Option ℕ → Bool → ℕ → ChangeList → Reply
index_reply e k a b descends limit list =
    times_reply (limited (λ t. t) limit (index list.changes e k (first_number a) (end_number b) descends))

-- `settle`: all complete steps are in files, which are named
abbrev pub settle_on : State → Outcome
settle_on s = record {
  state = s;
  reply = says.Files (map spelled (written_names s.list));
  settled = complete_steps s.list;
}

-- the outcome of a request
abbrev pub outcome : Limits → Request → State → Outcome
outcome limits (on.Tx n) s = number_on n s
outcome limits (on.Put e k v) s = change_on limits s.current e k (Put v) s
outcome limits (on.Del e k) s = change_on limits s.current e k Del s
outcome limits (on.Mark e k) s = change_on limits s.current e k Mark s
outcome limits on.Commit s = commit_on limits s
outcome limits on.Open s = open_on limits s
outcome limits (on.Close t) s = close_on t (list_at t s.transactions) s
outcome limits (on.Latest t e k) s = read_on t (list_at t s.transactions) (latest_reply e k) s
outcome limits (on.Asof t e n k) s = read_on t (list_at t s.transactions) (as_of_reply e n k) s
outcome limits (on.Range t e n from to limit) s =
    read_on t (list_at t s.transactions) (range_reply e n from to limit) s
outcome limits (on.History t e a b from limit) s =
    read_on t (list_at t s.transactions) (history_reply e a b from limit) s
outcome limits (on.Index t e k a b descends limit) s =
    read_on t (list_at t s.transactions) (index_reply e k a b descends limit) s
outcome limits on.Settle s = settle_on s
