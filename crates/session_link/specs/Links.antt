-- When a link's fields are in order, and which state they stand for.
use Rattle.std.specs.Prelude.{◌≡◌, ℕ, ◌<◌, ◌≤◌, List, [], ◌∷◌, ◌++◌, map, length, Option, Some, None, unwrap_or, slice_get}
use Rattle.std.specs.Prelude.{remove, ◌==◌, if◌then◌else◌, All}
use Rattle.agg_model.specs.Batch.{IsBatch, content_of}
use Rattle.agg_model.specs.declared.change.Change.{Change}
use Rattle.session_link.specs.declared.limits.Limits.{Limits}
use Rattle.session_link.specs.declared.link.Link.{Link}
use Rattle.session_link.specs.declared.link.Transaction.{Transaction}
use Rattle.row_epochs.specs.Versions.{Versions}
use Rattle.state_store.specs.declared.view.View.{View}
use Rattle.state_store.specs.declared.store.Store.{Store}
use Rattle.state_store.specs.Store.{Sees, set_of}
use Rattle.session_link.specs.State.{State, Opening}

-- with numbers below far
pub record IsLink (limits : Limits) (far : ℕ) (link : Link) : Type 0 where
  pub content : link.content ≡ content_of link.pending
  pub within : link.content ≤ limits.content
  pub pending : IsBatch 0 far link.pending
  pub latest_first : All (λ (c : Change). c.tx ≤ unwrap_or link.current 0) link.pending
  pub near : unwrap_or link.current 0 < far

-- a link before its first line
abbrev pub first_link : Link
first_link = record { pending = []; content = 0; current = None; opens = 0; transactions = [] }

-- the transaction of the number, where it is open
abbrev pub open_of : ℕ → List Transaction → Option Transaction
open_of number [] = None
open_of number (t ∷ ts) = if t.number == number then Some t else open_of number ts

-- the transactions without the first of this number
abbrev pub transactions_without : ℕ → List Transaction → List Transaction
transactions_without number [] = []
transactions_without number (t ∷ ts) = if t.number == number then ts else t ∷ transactions_without number ts

-- the transaction at the place is the first of this number
pub record IsPlaceOf (number : ℕ) (ts : List Transaction) (i : ℕ) : Type 0 where
  pub within : i < length ts
  pub there : open_of number ts ≡ slice_get ts i
  pub rest : transactions_without number ts ≡ remove ts i

-- what the open transactions keep of the store
abbrev pub views_of : List Transaction → List View
views_of transactions = map (λ t. t.view) transactions

-- A transaction of this number is added, which reads the groups that are visible now, at the present epoch and below
-- the next number.
pub record OpensNow {D K : Type 0} (store : Store D K) (number : ℕ) (before after : List Transaction) : Type 0 where
  pub view : View
  pub next : view.next ≡ store.next
  pub epoch : view.epoch ≡ store.hot.epoch
  pub set : set_of view ≡ store.sets.current
  pub added : after ≡ before ++ record { number = number; view = view } ∷ []

-- the link has what the state has beside the list and what the transactions read
pub record LinkStands (link : Link) (s : State) : Type 0 where
  pub pending : link.pending ≡ s.pending
  pub current : link.current ≡ s.current
  pub opens : link.opens ≡ s.opens

-- the transaction has the number of its opening, and sees the list of it
pub record IsSeen (hot : Versions) (size : ℕ) (t : Transaction) (o : Opening) : Type 0 where
  pub number : t.number ≡ o.number
  pub sees : Sees hot size t.view o.list

-- each open transaction has its opening, in the same order
abbrev pub AreSeen : Versions → ℕ → List Transaction → List Opening → Type 0
AreSeen hot size [] [] = Unit {0}
AreSeen hot size [] (o ∷ os) = ⊥
AreSeen hot size (t ∷ ts) [] = ⊥
AreSeen hot size (t ∷ ts) (o ∷ os) = IsSeen hot size t o × AreSeen hot size ts os
