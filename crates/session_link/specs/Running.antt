-- When a running session is in order, and which state it stands for.
use Rattle.std.specs.Prelude.{◌≡◌, ◌⊎◌, ℕ, ◌+◌, ◌*◌, ◌≤◌, List, Some, All, Result, IfOk, IsErrOf}
use Rattle.agg_outside.specs.declared.disk.Disk.{Ghosts as DiskGhosts}
use Rattle.agg_model.specs.ChangeList.{ChangeList}
use Rattle.line_words.specs.declared.reply.Reply.{Reply}
use Rattle.state_store.specs.declared.stop.Stop.{Stop}
use Rattle.state_store.specs.declared.stop.Stop.TheVariants as stops
use Rattle.state_store.specs.declared.store.Store.{Store}
use Rattle.state_store.specs.Store.{IsStore, Holds, Keeps, Sees, HasView, ArePinned, Goes, HasCauses, steps_held}
use Rattle.session_link.specs.declared.limits.Limits.{Limits}
use Rattle.session_link.specs.declared.link.Transaction.{Transaction}
use Rattle.session_link.specs.declared.session.Session.{Session}
use Rattle.session_link.specs.Links.{IsLink, LinkStands, AreSeen, open_of, views_of}
use Rattle.session_link.specs.State.{State, Outcome}
use Rattle.session_link.specs.Effects.{Effect}

-- the numbers fit, the store has what the open transactions read, and the files of each are pinned
pub record IsSession {D K : Type 0} (limits : Limits) (session : Session D K) : Type 0 where
  pub store : IsStore limits.content session.store
  pub link : IsLink limits (4096 * session.store.size) session.link
  pub views : All (λ t. HasView session.store t.view) session.link.transactions
  pub pins : ArePinned session.store.sets.held (views_of session.link.transactions)

-- the store holds the list, the link has the rest of the state, and each transaction sees the list of its opening
pub record Stands {D K : Type 0} (disk : DiskGhosts D) (session : Session D K) (s : State) : Type 0 where
  pub list : Holds disk session.store s.list
  pub link : LinkStands session.link s
  pub views : AreSeen session.store.hot session.store.size session.link.transactions s.transactions

-- the reply is that of the outcome, whose state the session then stands for, and the steps that it says
-- are in files
pub record Answers {D K : Type 0} (disk : DiskGhosts D) (session : Session D K)
    (reply : Reply) (o : Outcome) : Type 0 where
  pub told : reply ≡ o.reply
  pub stands : Stands disk session o.state
  pub settled : o.settled ≤ steps_held session.store

-- the text is the effect's reply, whose state the session then stands for, and the steps that it says are
-- in files
pub record HasEffect {D K : Type 0} (disk : DiskGhosts D) (session : Session D K)
    (text : List ℕ) (d : Effect) : Type 0 where
  pub told : text ≡ d.reply
  pub stands : Stands disk session d.state
  pub settled : d.settled ≤ steps_held session.store

-- what is left of a store that held the list: it holds it still, or keeps its rows and whole files
abbrev pub StillHas : {D K : Type 0} → DiskGhosts D → Store D K → ChangeList → Type 0
StillHas disk store list = Holds disk store list ⊎ Keeps disk store list

-- what the store is left as is the list's from before a line, or the one's after it
abbrev pub EndsAt : {D K : Type 0} → DiskGhosts D → Store D K → ChangeList → ChangeList → Type 0
EndsAt disk store before after = StillHas disk store before ⊎ StillHas disk store after

-- What every call keeps of the devices, and whom it may blame. The epoch rises by one at most, and is never what
-- stops it.
pub record KeepsDevices {T D K : Type 0} (disk : DiskGhosts D) (old new : Store D K) (result : Result T Stop)
    : Type 0 where
  pub goes : Goes disk old new
  pub causes : HasCauses disk old new result
  pub epoch : new.hot.epoch ≤ old.hot.epoch + 1
  pub unworn : IsErrOf result stops.Worn → ⊥

-- The reply is what a transaction sees by its own view, whatever else the store has: that of every list that the view
-- sees.
abbrev pub ReadsOwnView : {D K : Type 0} → Session D K → ℕ → (ChangeList → Reply) → Result Reply Stop → Type 0
ReadsOwnView session number reply_of result =
    (t : Transaction) (list : ChangeList) → Some t ≡ open_of number session.link.transactions →
    Sees session.store.hot session.store.size t.view list → IfOk result (λ reply. reply ≡ reply_of list)
