-- Laws of a running session and the state that it stands for.
use Rattle.std.proofs.Common.{◌≡◌, ℕ, ◌+◌, ◌*◌, ◌/◌, ◌<◌, ◌≤◌, Bool, true, false, ◌==◌, ◌&&◌, List, [], ◌∷◌, ◌++◌, map, length, All, Option, Some, None, IfSome, nat_lt, nat_le, get_or, unwrap_or, cond, refl, ap, subst, sym, ◌∙◌, arith}
use Rattle.std.specs.Bool.{OnTrue}
use Rattle.std.specs.Option.{option_or}
use Rattle.std.proofs.lemmas.Bool.{leb-true, leb-false, ltb-false, le-leb, le-ltb, lt-ltb}
use Rattle.std.proofs.lemmas.List.{map-append}
use Rattle.std.proofs.lemmas.List.Elements.{All-cons, All-head, All-tail, All-nil, All-append}
use Rattle.agg_outside.specs.declared.disk.Disk.{Ghosts as DiskGhosts}
use Rattle.agg_model.specs.declared.change.Change.{Change}
use Rattle.agg_model.specs.Batch.{AscendFrom, IsChange, content_of}
use Rattle.agg_model.specs.ChangeList.{ChangeList, next_of, grown, may_grow, begins_from}
use Rattle.agg_model.specs.Merged.{merged}
use Rattle.agg_core.specs.Names.{complete_steps, single_steps}
use Rattle.group_files.specs.NewFiles.{files_of_groups, new_names}
use Rattle.line_words.specs.declared.reply.Reply.{Reply}
use Rattle.line_words.specs.declared.reply.Reply.TheVariants as says
use Rattle.merge_ranges.specs.declared.name.FileName.{FileName}
use Rattle.merge_ranges.specs.CanonicalNames.{names_over}
use Rattle.merge_ranges.specs.Name.{spelled}
use Rattle.row_epochs.specs.Versions.{Versions}
use Rattle.visible_files.specs.declared.held.HeldGroup.{HeldGroup}
use Rattle.visible_files.specs.Held.{count_of, named_once}
use Rattle.state_store.specs.declared.accepting.Accepted.{Accepted}
use Rattle.state_store.specs.declared.store.Store.{Store}
use Rattle.state_store.specs.declared.view.View.{View}
use Rattle.state_store.specs.Store.{IsStore, Holds, Sees, HasView, ArePinned, Commits, Goes, set_of, pins_of, steps_held}
use Rattle.session_link.specs.declared.limits.Limits.{Limits}
use Rattle.session_link.specs.declared.link.Link.{Link}
use Rattle.session_link.specs.declared.link.Transaction.{Transaction}
use Rattle.session_link.specs.declared.session.Session.{Session}
use Rattle.session_link.specs.Links.{first_link, open_of, transactions_without, views_of, IsLink, IsSeen, AreSeen, LinkStands, OpensNow}
use Rattle.session_link.specs.Running.{IsSession, Stands, Answers}
use Rattle.session_link.specs.State.{State, Opening, settle_on, list_at, openings_without, close_on, read_on, open_on, batch_refusal, content_refusal, commit_refusal, commit_on, number_refusal, number_on, far_of, unless, replied, Outcome}
use Rattle.session_link.specs.State.{cleared as cleared_state}
use Rattle.session_link.proofs.StoreLaws.{IsReadOf, with_faults, read_sound, read_holds}

-- ---- a session before its first line

pub first_session : {D K : Type 0} (limits : Limits) (session : Session D K) → session.link ≡ first_link → IsStore limits.content session.store → IsSession limits session
first_session limits session link stored =
    let none : session.link.transactions ≡ [] = ap (λ (l : Link). l.transactions) link in
    record {
      store = stored;
      link = subst (IsLink limits (4096 * session.store.size)) (sym link) (record {
        content = refl;
        within = omega arith;
        pending = record {
          ascend = tt;
          below_far = All-nil (λ (c : Change). c.tx < 4096 * session.store.size);
          fit = All-nil IsChange;
        };
        latest_first = All-nil (λ (c : Change). c.tx ≤ 0);
        near = omega (arith, stored.size_from_one);
      });
      views = subst (λ (ts : List Transaction). All (λ (t : Transaction). HasView session.store t.view) ts) (sym none)
          (All-nil (λ (t : Transaction). HasView session.store t.view));
      pins = subst (λ (ts : List Transaction). ArePinned session.store.sets.held (views_of ts)) (sym none) (λ n. omega arith);
    }

-- ---- open transactions and what they see

suc_same : (a b : ℕ) → a ≡ b → a + 1 ≡ b + 1
suc_same a b e = ap (λ n. n + 1) e

-- of a list of a transaction's opening, what it sees
record Found (hot : Versions) (size : ℕ) (t : Transaction) (o : Option ChangeList) : Type 0 where
  pub list : ChangeList
  pub there : o ≡ Some list
  pub sees : Sees hot size t.view list

same_some : (a b : Transaction) → Some a ≡ Some b → b ≡ a
same_some a b e = cc

module _ (hot : Versions) (size : ℕ) where
  seen_length : (xs : List Transaction) (os : List Opening) → AreSeen hot size xs os → length xs ≡ length os
  seen_length [] [] seen = refl
  seen_length [] (o ∷ os) seen = absurd seen
  seen_length (x ∷ xs) [] seen = absurd seen
  seen_length (x ∷ xs) (o ∷ os) seen = let rest : length xs ≡ length os = seen_length xs os seen.1 in omega (arith, rest)

  seen_more : (xs : List Transaction) (os : List Opening) (t : Transaction) (o : Opening) → AreSeen hot size xs os → IsSeen hot size t o → AreSeen hot size (xs ++ t ∷ []) (os ++ o ∷ [])
  seen_more [] [] t o seen one = (one, tt)
  seen_more [] (p ∷ os) t o seen one = absurd seen
  seen_more (x ∷ xs) [] t o seen one = absurd seen
  seen_more (x ∷ xs) (p ∷ os) t o seen one = (seen.0, seen_more xs os t o seen.1 one)

  seen_others-by : (a b : Bool) → a ≡ b → (x : Transaction) (o : Opening) (xs ys : List Transaction) (os ps : List Opening) → IsSeen hot size x o → AreSeen hot size xs os → AreSeen hot size ys ps → AreSeen hot size (cond a xs (x ∷ ys)) (cond b os (o ∷ ps))
  seen_others-by true true same x o xs ys os ps first all left = all
  seen_others-by false false same x o xs ys os ps first all left = (first, left)
  seen_others-by true false same x o xs ys os ps first all left = cc
  seen_others-by false true same x o xs ys os ps first all left = cc

  seen_others : (n : ℕ) (xs : List Transaction) (os : List Opening) → AreSeen hot size xs os → AreSeen hot size (transactions_without n xs) (openings_without n os)
  seen_others n [] [] seen = tt
  seen_others n [] (o ∷ os) seen = absurd seen
  seen_others n (x ∷ xs) [] seen = absurd seen
  seen_others n (x ∷ xs) (o ∷ os) seen =
      seen_others-by (x.number == n) (o.number == n) (ap (λ m. m == n) seen.0.number) x o xs (transactions_without n xs) os (openings_without n os) seen.0 seen.1 (seen_others n xs os seen.1)

  seen_open-by : (a b : Bool) → a ≡ b → (t x : Transaction) (o : Opening) (rest : Option Transaction) (left : Option ChangeList) → IsSeen hot size x o → Some t ≡ cond a (Some x) rest → (Some t ≡ rest → Found hot size t left) → Found hot size t (cond b (Some o.list) left)
  seen_open-by true true same t x o rest left first is later = record {
    list = o.list;
    there = refl;
    sees = subst (λ (y : Transaction). Sees hot size y.view o.list) (same_some t x is) first.sees;
  }
  seen_open-by false false same t x o rest left first is later = later is
  seen_open-by true false same t x o rest left first is later = cc
  seen_open-by false true same t x o rest left first is later = cc

  -- an open transaction has a list that it sees
  seen_open : (n : ℕ) (xs : List Transaction) (os : List Opening) (t : Transaction) → AreSeen hot size xs os → Some t ≡ open_of n xs → Found hot size t (list_at n os)
  seen_open n [] [] t seen is = cc
  seen_open n [] (o ∷ os) t seen is = absurd seen
  seen_open n (x ∷ xs) [] t seen is = absurd seen
  seen_open n (x ∷ xs) (o ∷ os) t seen is =
      seen_open-by (x.number == n) (o.number == n) (ap (λ m. m == n) seen.0.number) t x o (open_of n xs) (list_at n os) seen.0 is (seen_open n xs os t seen.1)

  seen_none-by : (a b : Bool) → a ≡ b → (x : Transaction) (list : ChangeList) (rest : Option Transaction) (left : Option ChangeList) → None ≡ cond a (Some x) rest → (None ≡ rest → left ≡ None) → cond b (Some list) left ≡ None
  seen_none-by true true same x list rest left is later = cc
  seen_none-by false false same x list rest left is later = later is
  seen_none-by true false same x list rest left is later = cc
  seen_none-by false true same x list rest left is later = cc

  -- one that isn't open has none
  seen_none : (n : ℕ) (xs : List Transaction) (os : List Opening) → AreSeen hot size xs os → None ≡ open_of n xs → list_at n os ≡ None
  seen_none n [] [] seen is = refl
  seen_none n [] (o ∷ os) seen is = absurd seen
  seen_none n (x ∷ xs) [] seen is = absurd seen
  seen_none n (x ∷ xs) (o ∷ os) seen is =
      seen_none-by (x.number == n) (o.number == n) (ap (λ m. m == n) seen.0.number) x o.list (open_of n xs) (list_at n os) is (seen_none n xs os seen.1)

seen_at : (hot : Versions) (size : ℕ) (xs ys : List Transaction) (os : List Opening) → ys ≡ xs → AreSeen hot size xs os → AreSeen hot size ys os
seen_at hot size xs ys os is seen = subst (λ (zs : List Transaction). AreSeen hot size zs os) (sym is) seen

-- what the open transactions see stays
seen_later : {D K : Type 0} (disk : DiskGhosts D) (old new : Store D K) (xs : List Transaction) (os : List Opening) → Goes disk old new → AreSeen old.hot old.size xs os → AreSeen new.hot new.size xs os
seen_later disk old new [] [] goes seen = tt
seen_later disk old new [] (o ∷ os) goes seen = absurd seen
seen_later disk old new (x ∷ xs) [] goes seen = absurd seen
seen_later disk old new (x ∷ xs) (o ∷ os) goes seen =
    (record { number = seen.0.number; sees = goes.sees x.view o.list seen.0.sees }, seen_later disk old new xs os goes seen.1)

-- the link's transactions and those of the state, after a call on the store
seen_both : {D K : Type 0} (disk : DiskGhosts D) (old : Session D K) (store : Store D K) (xs : List Transaction) (s : State) → Stands disk old s → Goes disk old.store store → xs ≡ old.link.transactions → AreSeen store.hot store.size xs s.transactions
seen_both disk old store xs s stands goes is =
    seen_at store.hot store.size old.link.transactions xs s.transactions is (seen_later disk old.store store old.link.transactions s.transactions goes stands.views)

-- ---- pins

pins_without-by : (here : Bool) (x : Transaction) (xs rest : List Transaction) (t : Transaction) (others : Option Transaction) (n : FileName) → Some t ≡ cond here (Some x) others → (Some t ≡ others → pins_of (views_of xs) n ≡ pins_of (t.view ∷ views_of rest) n) → pins_of (x.view ∷ views_of xs) n ≡ pins_of (t.view ∷ views_of (cond here xs (x ∷ rest))) n
pins_without-by true x xs rest t others n is later =
    ap (λ (y : Transaction). pins_of (y.view ∷ views_of xs) n) (same_some t x is)
pins_without-by false x xs rest t others n is later =
    let found : pins_of (views_of xs) n ≡ named_once (set_of t.view).ids n + pins_of (views_of rest) n = later is in omega (arith, found)

-- the transaction that is taken out, and the others
pins_without : (number : ℕ) (xs : List Transaction) (t : Transaction) (n : FileName) → Some t ≡ open_of number xs → pins_of (views_of xs) n ≡ pins_of (t.view ∷ views_of (transactions_without number xs)) n
pins_without number [] t n is = cc
pins_without number (x ∷ xs) t n is =
    pins_without-by (x.number == number) x xs (transactions_without number xs) t (open_of number xs) n is (pins_without number xs t n)

pub are_pinned_without : (held : List HeldGroup) (number : ℕ) (xs : List Transaction) (t : Transaction) → Some t ≡ open_of number xs → ArePinned held (views_of xs) → ArePinned held (t.view ∷ views_of (transactions_without number xs))
are_pinned_without held number xs t is pinned n = let all : pins_of (views_of xs) n ≤ count_of held n = pinned n in subst (λ p. p ≤ count_of held n) (pins_without number xs t n is) all

pub is_pinned_one : (held : List HeldGroup) (view : View) (views : List View) → ArePinned held (view ∷ views) → ArePinned held (view ∷ [])
is_pinned_one held view views pinned n =
    let all : named_once (set_of view).ids n + pins_of views n ≤ count_of held n = pinned n in omega (arith, all)

pins_push : (xs : List View) (v : View) (n : FileName) → pins_of (xs ++ v ∷ []) n ≡ pins_of (v ∷ xs) n
pins_push [] v n = refl
pins_push (x ∷ xs) v n = let rest : pins_of (xs ++ v ∷ []) n ≡ named_once (set_of v).ids n + pins_of xs n = pins_push xs v n in omega (arith, rest)

are_pinned_push : (held : List HeldGroup) (xs : List View) (v : View) → ArePinned held (v ∷ xs) → ArePinned held (xs ++ v ∷ [])
are_pinned_push held xs v pinned n = subst (λ p. p ≤ count_of held n) (sym (pins_push xs v n)) (pinned n)

-- one more transaction is closed of those that are left
pub unpinned_more : (first old new : List HeldGroup) (all : List View) (t : Transaction) (rest left : List Transaction) → left ≡ t ∷ rest → ((n : FileName) → count_of old n + pins_of all n ≡ count_of first n + pins_of (views_of left) n) → ((n : FileName) → count_of new n + named_once (set_of t.view).ids n ≡ count_of old n) → (n : FileName) → count_of new n + pins_of all n ≡ count_of first n + pins_of (views_of rest) n
unpinned_more first old new all t rest left is so once n =
    let split : pins_of (views_of left) n ≡ named_once (set_of t.view).ids n + pins_of (views_of rest) n = ap (λ (ts : List Transaction). pins_of (views_of ts) n) is in
    omega (arith, split, so n, once n)

-- none is left
pub unpinned_all : (first last : List HeldGroup) (all : List View) (left : List Transaction) → length left ≡ 0 → ((n : FileName) → count_of last n + pins_of all n ≡ count_of first n + pins_of (views_of left) n) → (n : FileName) → count_of last n + pins_of all n ≡ count_of first n
unpinned_all first last all [] none so n = omega (arith, so n)
unpinned_all first last all (t ∷ left) none so n = absurd (omega arith)

pub are_pinned_same : (old new : List HeldGroup) (views : List View) → ((n : FileName) → count_of new n ≡ count_of old n) → ArePinned old views → ArePinned new views
are_pinned_same old new views same pinned n = subst (λ c. pins_of views n ≤ c) (sym (same n)) (pinned n)

-- ---- lists of transactions

All-others-by : (P : Transaction → Type 0) (here : Bool) (x : Transaction) (xs rest : List Transaction) → P x → All P xs → All P rest → All P (cond here xs (x ∷ rest))
All-others-by P true x xs rest first all left = all
All-others-by P false x xs rest first all left = All-cons P x rest first left

pub All-others : (P : Transaction → Type 0) (t : ℕ) (xs : List Transaction) → All P xs → All P (transactions_without t xs)
All-others P t [] all = all
All-others P t (x ∷ xs) all =
    All-others-by P (x.number == t) x xs (transactions_without t xs) (All-head P x xs all) (All-tail P x xs all) (All-others P t xs (All-tail P x xs all))

-- what holds of all that are open holds of one
pub open_of-All : (P : Transaction → Type 0) (t : ℕ) (xs : List Transaction) (x : Transaction) → Some x ≡ open_of t xs → All P xs → P x
open_of-All P t [] x e all = cc
open_of-All P t (y ∷ ys) x e all =
    elim (y.number == t) as (λ b. Some x ≡ cond b (Some y) (open_of t ys) → P x) [
      | true ↦ λ here. let same : y ≡ x = cc in subst P same (All-head P y ys all)
      | false ↦ λ later. open_of-All P t ys x later (All-tail P y ys all)
    ] e

pub open_of-has : (P : Transaction → Type 0) (t : ℕ) (xs : List Transaction) (o : Option Transaction) → o ≡ open_of t xs → All P xs → IfSome o P
open_of-has P t xs None e all = tt
open_of-has P t xs (Some x) e all = open_of-All P t xs x e all

-- a number is below another one, or not
not_below : (a b : ℕ) → nat_le b a ≡ true → nat_lt a b ≡ false
not_below a b e = le-ltb a b (leb-true b a e)

above : (a b : ℕ) → nat_le a b ≡ false → nat_lt b a ≡ true
above a b e = lt-ltb b a (leb-false a b e)

-- ---- `close`

closed-by : {D K : Type 0} (disk : DiskGhosts D) (new : Session D K) (t : ℕ) (s : State) (list : ChangeList) (o : Option ChangeList) → o ≡ Some list → Stands disk new (record s { transactions = openings_without t s.transactions }) → Answers disk new says.Ok (close_on t o s)
closed-by disk new t s list None e stands = cc
closed-by disk new t s list (Some l) e stands = record { told = refl; stands = stands; settled = omega arith }

pub closed : {D K : Type 0} (disk : DiskGhosts D) (old : Session D K) (store : Store D K) (link : Link) (t : ℕ) (x : Transaction) (s : State) → Stands disk old s → Some x ≡ open_of t old.link.transactions → link ≡ record old.link { transactions = transactions_without t old.link.transactions } → Holds disk store s.list → Goes disk old.store store → Answers disk (record { store = store; link = link }) says.Ok (close_on t (list_at t s.transactions) s)
closed disk old store link t x s stands there is holds goes =
    let found = seen_open old.store.hot old.store.size t old.link.transactions s.transactions x stands.views there in
    closed-by disk (record { store = store; link = link }) t s found.list (list_at t s.transactions) found.there
    (record {
      list = holds;
      link = record {
        pending = ap (λ (l : Link). l.pending) is ∙ stands.link.pending;
        current = ap (λ (l : Link). l.current) is ∙ stands.link.current;
        opens = ap (λ (l : Link). l.opens) is ∙ stands.link.opens;
      };
      views = seen_at store.hot store.size (transactions_without t old.link.transactions) link.transactions (openings_without t s.transactions) (ap (λ (l : Link). l.transactions) is)
          (seen_others store.hot store.size t old.link.transactions s.transactions (seen_later disk old.store store old.link.transactions s.transactions goes stands.views));
    })

not_closed-by : {D K : Type 0} (disk : DiskGhosts D) (old : Session D K) (t : ℕ) (s : State) (o : Option ChangeList) → o ≡ None → Stands disk old s → Answers disk old (says.ErrTx t) (close_on t o s)
not_closed-by disk old t s None e stands = record { told = refl; stands = stands; settled = omega arith }
not_closed-by disk old t s (Some list) e stands = cc

pub not_closed : {D K : Type 0} (disk : DiskGhosts D) (old : Session D K) (link : Link) (t : ℕ) (s : State) → Stands disk old s → None ≡ open_of t old.link.transactions → link ≡ old.link → Answers disk (record { store = old.store; link = link }) (says.ErrTx t) (close_on t (list_at t s.transactions) s)
not_closed disk old link t s stands none is =
    subst (λ (l : Link). Answers disk (record { store = old.store; link = l }) (says.ErrTx t) (close_on t (list_at t s.transactions) s)) (sym is)
    (not_closed-by disk old t s (list_at t s.transactions) (seen_none old.store.hot old.store.size t old.link.transactions s.transactions stands.views none) stands)

-- ---- reads

read-by : {D K : Type 0} (disk : DiskGhosts D) (new : Session D K) (t : ℕ) (reply_of : ChangeList → Reply) (reply : Reply) (list : ChangeList) (s : State) (o : Option ChangeList) → o ≡ Some list → reply ≡ reply_of list → Stands disk new s → Answers disk new reply (read_on t o reply_of s)
read-by disk new t reply_of reply list s None is told stands = cc
read-by disk new t reply_of reply list s (Some l) is told stands =
    let same : list ≡ l = cc in
    record { told = told ∙ ap reply_of same; stands = stands; settled = omega arith }

-- a read of an open transaction
pub read_told : {D K : Type 0} (disk : DiskGhosts D) (old : Session D K) (store : Store D K) (t : ℕ) (x : Transaction) (reply_of : ChangeList → Reply) (reply : Reply) (s : State) → Stands disk old s → Some x ≡ open_of t old.link.transactions → ((list : ChangeList) → Sees old.store.hot old.store.size x.view list → reply ≡ reply_of list) → IsReadOf old.store store → Goes disk old.store store → Answers disk (record { store = store; link = old.link }) reply (read_on t (list_at t s.transactions) reply_of s)
read_told disk old store t x reply_of reply s stands there told is goes =
    let found = seen_open old.store.hot old.store.size t old.link.transactions s.transactions x stands.views there in
    read-by disk (record { store = store; link = old.link }) t reply_of reply found.list s (list_at t s.transactions) found.there (told found.list found.sees)
    (record {
      list = read_holds old.store disk store s.list is stands.list;
      link = stands.link;
      views = seen_later disk old.store store old.link.transactions s.transactions goes stands.views;
    })

not_read-by : {D K : Type 0} (disk : DiskGhosts D) (old : Session D K) (t : ℕ) (reply_of : ChangeList → Reply) (s : State) (o : Option ChangeList) → o ≡ None → Stands disk old s → Answers disk old (says.ErrTx t) (read_on t o reply_of s)
not_read-by disk old t reply_of s None is stands = record { told = refl; stands = stands; settled = omega arith }
not_read-by disk old t reply_of s (Some list) is stands = cc

pub not_read : {D K : Type 0} (disk : DiskGhosts D) (old : Session D K) (t : ℕ) (reply_of : ChangeList → Reply) (s : State) → Stands disk old s → None ≡ open_of t old.link.transactions → Answers disk old (says.ErrTx t) (read_on t (list_at t s.transactions) reply_of s)
not_read disk old t reply_of s stands none =
    not_read-by disk old t reply_of s (list_at t s.transactions) (seen_none old.store.hot old.store.size t old.link.transactions s.transactions stands.views none) stands

-- the transaction of a number is one
pub own_read : (hot : Versions) (size number : ℕ) (xs : List Transaction) (t opened : Transaction) (list : ChangeList) (reply_of : ChangeList → Reply) (reply : Reply) → Some t ≡ open_of number xs → Some opened ≡ open_of number xs → Sees hot size t.view list → (Sees hot size opened.view list → reply ≡ reply_of list) → reply ≡ reply_of list
own_read hot size number xs t opened list reply_of reply is found sees told =
    let same : t ≡ opened = one_of t opened (open_of number xs) is found in
    told (subst (λ (x : Transaction). Sees hot size x.view list) same sees)
  where
    one_of : (a b : Transaction) (o : Option Transaction) → Some a ≡ o → Some b ≡ o → a ≡ b
    one_of a b o e f = cc

-- the store has what a transaction reads
pub has_view : {D K : Type 0} (store : Store D K) (number : ℕ) (xs : List Transaction) (t : Transaction) → Some t ≡ open_of number xs → All (λ (x : Transaction). HasView store x.view) xs → HasView store t.view
has_view store number xs t is all = open_of-All (λ (x : Transaction). HasView store x.view) number xs t is all

pub read_session : {D K : Type 0} (limits : Limits) (old : Session D K) (store : Store D K) → IsReadOf old.store store → IsSession limits old → IsSession limits (record { store = store; link = old.link })
read_session limits old store is sound = subst (λ (x : Store _ _). IsSession limits (record { store = x; link = old.link })) (sym is) (record {
  store = read_sound old.store (with_faults old.store store.hot.faults) limits.content refl sound.store;
  link = sound.link;
  views = sound.views;
  pins = sound.pins;
})

-- ---- `open`

pub opened : {D K : Type 0} (disk : DiskGhosts D) (limits : Limits) (old : Session D K) (store : Store D K) (link : Link) (full : Bool) (number next : ℕ) (view : View) (s : State) → Stands disk old s → full ≡ false → full ≡ nat_le limits.opens (length old.link.transactions) → next ≡ view.next → view.next ≡ old.store.next → number ≡ old.link.opens + 1 → link ≡ record old.link { opens = old.link.opens + 1; transactions = old.link.transactions ++ record { number = old.link.opens + 1; view = view } ∷ [] } → Holds disk store s.list → Goes disk old.store store → Sees store.hot store.size view s.list → Answers disk (record { store = store; link = link }) (says.Opened number next) (open_on limits s)
opened disk limits old store link full number next view s stands roomy could reads at is_number is holds goes sees =
    let as_many : length old.link.transactions ≡ length s.transactions = seen_length old.store.hot old.store.size old.link.transactions s.transactions stands.views in
    let room : nat_lt (length s.transactions) limits.opens ≡ true =
    above limits.opens (length s.transactions) (ap (nat_le limits.opens) (sym as_many) ∙ sym could ∙ roomy) in
    let added : Opening = record { number = s.opens + 1; list = s.list } in
    let mine : Transaction = record { number = old.link.opens + 1; view = view } in
    rw room
    (record {
      told = λ i. says.Opened ((is_number ∙ ap (λ n. n + 1) stands.link.opens) i) ((reads ∙ at ∙ stands.list.next) i);
      settled = omega arith;
      stands = record {
        list = holds;
        link = record {
          pending = ap (λ (l : Link). l.pending) is ∙ stands.link.pending;
          current = ap (λ (l : Link). l.current) is ∙ stands.link.current;
          opens = ap (λ (l : Link). l.opens) is ∙ ap (λ n. n + 1) stands.link.opens;
        };
        views = seen_at store.hot store.size (old.link.transactions ++ mine ∷ []) link.transactions (s.transactions ++ added ∷ []) (ap (λ (l : Link). l.transactions) is)
            (seen_more store.hot store.size old.link.transactions s.transactions mine added
            (seen_later disk old.store store old.link.transactions s.transactions goes stands.views)
            (record { number = ap (λ n. n + 1) stands.link.opens; sees = sees }));
      };
    })

pub not_opened : {D K : Type 0} (disk : DiskGhosts D) (limits : Limits) (old : Session D K) (full : Bool) (s : State) → Stands disk old s → full ≡ true → full ≡ nat_le limits.opens (length old.link.transactions) → Answers disk old (says.ErrOpen limits.opens) (open_on limits s)
not_opened disk limits old full s stands is could =
    let as_many : length old.link.transactions ≡ length s.transactions = seen_length old.store.hot old.store.size old.link.transactions s.transactions stands.views in
    let none : nat_lt (length s.transactions) limits.opens ≡ false =
    not_below (length s.transactions) limits.opens (ap (nat_le limits.opens) (sym as_many) ∙ sym could ∙ is) in
    rw none (record { told = refl; stands = stands; settled = omega arith })

-- ---- `commit`

first_so : (a b : Bool) → (a && b) ≡ true → a ≡ true
first_so true b e = refl
first_so false b e = cc

last_so : (a b : Bool) → a ≡ true → (a && b) ≡ false → b ≡ false
last_so true b is e = e
last_so false b is e = cc

both_so : (a b : Bool) → (a && b) ≡ true → b ≡ true
both_so true b e = e
both_so false b e = cc

-- a refusal is the reply, and else the outcome is told
unless-none : {D K : Type 0} (disk : DiskGhosts D) (new : Session D K) (reply : Reply) (o : Option Reply) (before : State) (told : Outcome) → o ≡ None → Answers disk new reply told → Answers disk new reply (unless o before told)
unless-none disk new reply None before told is answers = answers
unless-none disk new reply (Some r) before told is answers = cc

unless-some : {D K : Type 0} (disk : DiskGhosts D) (new : Session D K) (refusal : Reply) (o : Option Reply) (before : State) (told : Outcome) → o ≡ Some refusal → Stands disk new before → Answers disk new refusal (unless o before told)
unless-some disk new refusal None before told is stands = cc
unless-some disk new refusal (Some r) before told is stands = let same : refusal ≡ r = cc in record { told = same; stands = stands; settled = omega arith }

some_at : (t : Bool) (r : Reply) → t ≡ false → (cond t (Some r) None) ≡ None
some_at true r e = cc
some_at false r e = refl

not_at : (t : Bool) (r : Reply) → None ≡ (cond t (Some r) None) → t ≡ false
not_at true r e = cc
not_at false r e = refl

-- what comes behind the numbers of the list isn't refused for its order
batch_refusal-none : (next : ℕ) (pending : List Change) → begins_from next pending ≡ true → batch_refusal next pending ≡ None
batch_refusal-none next [] begins = cc
batch_refusal-none next (c ∷ cs) begins = some_at (nat_lt c.tx next) _ (not_below c.tx next begins)

begins_from-so : (next : ℕ) (pending : List Change) → None ≡ batch_refusal next pending → begins_from next pending ≡ true
begins_from-so next [] is = cc
begins_from-so next (c ∷ cs) is =
    let low : nat_lt c.tx next ≡ false = not_at (nat_lt c.tx next) _ is in
    le-leb next c.tx (ltb-false c.tx next low)

-- pending changes that may join the list aren't refused
granted : (most : ℕ) (list : ChangeList) (pending : List Change) → may_grow most list pending ≡ true → commit_refusal most list pending ≡ None
granted most list pending could =
    let content = content_of list.changes + content_of (merged pending) in
    ap (λ (o : Option Reply). option_or o (content_refusal most list pending)) (batch_refusal-none list.next pending (first_so (begins_from list.next pending) _ could))
    ∙ some_at (nat_lt most content) _ (not_below most content (both_so (begins_from list.next pending) (nat_le content most) could))

-- those that come in order may be too many
too_many : (most : ℕ) (list : ChangeList) (pending : List Change) → None ≡ batch_refusal list.next pending → may_grow most list pending ≡ false → commit_refusal most list pending ≡ Some says.ErrLimit
too_many most list pending ordered couldnt =
    let content = content_of list.changes + content_of (merged pending) in
    ap (λ (o : Option Reply). option_or o (content_refusal most list pending)) (sym ordered)
    ∙ ap (λ b. cond b (Some says.ErrLimit) None)
    (above content most (last_so (begins_from list.next pending) (nat_le content most) (begins_from-so list.next pending ordered) couldnt))

out_of_order : (most : ℕ) (list : ChangeList) (pending : List Change) (refusal : Reply) → Some refusal ≡ batch_refusal list.next pending → commit_refusal most list pending ≡ Some refusal
out_of_order most list pending refusal is = ap (λ (o : Option Reply). option_or o (content_refusal most list pending)) (sym is)

-- the link that has nothing pending stands for the state that has nothing pending
cleared_link : (old new : Link) (s : State) → LinkStands old s → new ≡ record old { pending = []; content = 0; current = None } → LinkStands new (cleared_state s)
cleared_link old new s stands cleared = record {
  pending = ap (λ (l : Link). l.pending) cleared;
  current = ap (λ (l : Link). l.current) cleared;
  opens = ap (λ (l : Link). l.opens) cleared ∙ stands.opens;
}

-- what a commit makes of the state that isn't refused
abbrev committed_outcome : State → Outcome
committed_outcome s =
    replied (record (cleared_state s) { list = grown s.list (merged s.pending) })
    (says.Committed (length (merged s.pending)) (next_of s.list.next (merged s.pending)))

pub committed : {D K : Type 0} (disk : DiskGhosts D) (limits : Limits) (old new : Session D K) (pending : List Change) (o : Option Accepted) (a : Accepted) (s : State) → Stands disk old s → Goes disk old.store new.store → pending ≡ old.link.pending → new.link ≡ record old.link { pending = []; content = 0; current = None } → o ≡ Some a → ((list : ChangeList) → Holds disk old.store list → Commits (Holds disk new.store) limits.content list pending o) → Answers disk new (says.Committed a.changes a.next) (commit_on limits s)
committed disk limits old new pending None a s stands goes is cleared given commits = cc
committed disk limits old new pending (Some b) a s stands goes is cleared given commits =
    let all : Commits (Holds disk new.store) limits.content s.list pending (Some b) = commits s.list stands.list in
    let same : pending ≡ s.pending = is ∙ stands.link.pending in
    let could : may_grow limits.content s.list s.pending ≡ true = sym (all.could ∙ ap (may_grow limits.content s.list) same) in
    let accepted_is : b ≡ a = cc in
    let told : a ≡ record { changes = length (merged s.pending); next = next_of s.list.next (merged s.pending) } =
    sym accepted_is ∙ all.told ∙ ap (λ (p : List Change). record { changes = length (merged p); next = next_of s.list.next (merged p) }) same in
    let grows : Holds disk new.store (grown s.list (merged s.pending)) =
    subst (λ (p : List Change). Holds disk new.store (grown s.list (merged p))) same all.grows in
    let link : LinkStands new.link (cleared_state s) = cleared_link old.link new.link s stands.link cleared in
    unless-none disk new (says.Committed a.changes a.next) (commit_refusal limits.content s.list s.pending) (cleared_state s) (committed_outcome s) (granted limits.content s.list s.pending could)
    (record {
      told = λ i. says.Committed (told i).changes (told i).next;
      settled = omega arith;
      stands = record {
        list = grows;
        link = record { pending = link.pending; current = link.current; opens = link.opens };
        views = seen_both disk old new.store new.link.transactions s stands goes (ap (λ (l : Link). l.transactions) cleared);
      };
    })

-- a commit that is refused for its order
pub not_in_order : {D K : Type 0} (disk : DiskGhosts D) (limits : Limits) (old new : Session D K) (pending : List Change) (next : ℕ) (refusal : Reply) (s : State) → Stands disk old s → pending ≡ old.link.pending → next ≡ old.store.next → new.store ≡ old.store → new.link ≡ record old.link { pending = []; content = 0; current = None } → Some refusal ≡ batch_refusal next pending → Answers disk new refusal (commit_on limits s)
not_in_order disk limits old new pending next refusal s stands is at store cleared refused =
    let said : Some refusal ≡ batch_refusal s.list.next s.pending =
    refused ∙ (λ i. batch_refusal ((at ∙ stands.list.next) i) ((is ∙ stands.link.pending) i)) in
    unless-some disk new refusal (commit_refusal limits.content s.list s.pending) (cleared_state s) (committed_outcome s) (out_of_order limits.content s.list s.pending refusal said)
    (record {
      list = subst (λ x. Holds disk x s.list) (sym store) stands.list;
      link = cleared_link old.link new.link s stands.link cleared;
      views = subst (λ (x : Store _ _). AreSeen x.hot x.size new.link.transactions s.transactions) (sym store)
          (seen_at old.store.hot old.store.size old.link.transactions new.link.transactions s.transactions (ap (λ (l : Link). l.transactions) cleared) stands.views);
    })

-- or for its content
pub too_large : {D K : Type 0} (disk : DiskGhosts D) (limits : Limits) (old new : Session D K) (pending : List Change) (next : ℕ) (o : Option Accepted) (s : State) → Stands disk old s → Goes disk old.store new.store → pending ≡ old.link.pending → next ≡ old.store.next → new.link ≡ record old.link { pending = []; content = 0; current = None } → None ≡ batch_refusal next pending → o ≡ None → ((list : ChangeList) → Holds disk old.store list → Commits (Holds disk new.store) limits.content list pending o) → Answers disk new says.ErrLimit (commit_on limits s)
too_large disk limits old new pending next (Some a) s stands goes is at cleared ordered none commits = cc
too_large disk limits old new pending next None s stands goes is at cleared ordered none commits =
    let all : Commits (Holds disk new.store) limits.content s.list pending None = commits s.list stands.list in
    let same : pending ≡ s.pending = is ∙ stands.link.pending in
    let couldnt : may_grow limits.content s.list s.pending ≡ false = sym (all.could ∙ ap (may_grow limits.content s.list) same) in
    let said : None ≡ batch_refusal s.list.next s.pending =
    ordered ∙ (λ i. batch_refusal ((at ∙ stands.list.next) i) (same i)) in
    unless-some disk new says.ErrLimit (commit_refusal limits.content s.list s.pending) (cleared_state s) (committed_outcome s) (too_many limits.content s.list s.pending said couldnt)
    (record {
      list = all.same;
      link = cleared_link old.link new.link s stands.link cleared;
      views = seen_both disk old new.store new.link.transactions s stands goes (ap (λ (l : Link). l.transactions) cleared);
    })

-- ---- `tx`

-- the numbers that may come are told by the list as by the store
far_same : {D K : Type 0} (disk : DiskGhosts D) (old : Session D K) (far n : ℕ) (s : State) → Stands disk old s → far ≡ 4096 * old.store.size → number_refusal far n old.link.current ≡ number_refusal (far_of s.list) n s.current
far_same disk old far n s stands at = λ i. number_refusal ((at ∙ ap (λ x. 4096 * x) stands.list.size) i) n (stands.link.current i)

pub numbered : {D K : Type 0} (disk : DiskGhosts D) (old : Session D K) (link : Link) (far n : ℕ) (s : State) → Stands disk old s → far ≡ 4096 * old.store.size → None ≡ number_refusal far n old.link.current → link ≡ record old.link { current = Some n } → Answers disk (record { store = old.store; link = link }) says.Ok (number_on n s)
numbered disk old link far n s stands at fits is =
    let after : State = record s { current = Some n } in
    unless-none disk (record { store = old.store; link = link }) says.Ok (number_refusal (far_of s.list) n s.current) s (replied after says.Ok)
    (sym (fits ∙ far_same disk old far n s stands at))
    (record {
      told = refl;
      settled = omega arith;
      stands = record {
        list = stands.list;
        link = record {
          pending = ap (λ (l : Link). l.pending) is ∙ stands.link.pending;
          current = ap (λ (l : Link). l.current) is;
          opens = ap (λ (l : Link). l.opens) is ∙ stands.link.opens;
        };
        views = seen_at old.store.hot old.store.size old.link.transactions link.transactions s.transactions (ap (λ (l : Link). l.transactions) is) stands.views;
      };
    })

pub not_numbered : {D K : Type 0} (disk : DiskGhosts D) (old : Session D K) (link : Link) (far n : ℕ) (refusal : Reply) (s : State) → Stands disk old s → far ≡ 4096 * old.store.size → Some refusal ≡ number_refusal far n old.link.current → link ≡ old.link → Answers disk (record { store = old.store; link = link }) refusal (number_on n s)
not_numbered disk old link far n refusal s stands at refused is =
    subst (λ (l : Link). Answers disk (record { store = old.store; link = l }) refusal (number_on n s)) (sym is)
    (unless-some disk old refusal (number_refusal (far_of s.list) n s.current) s (replied (record s { current = Some n }) says.Ok)
    (sym (refused ∙ far_same disk old far n s stands at)) stands)

-- a current number above the last one
pub numbered_sound : {D K : Type 0} (limits : Limits) (old : Session D K) (link : Link) (far n : ℕ) → far ≡ 4096 * old.store.size → n < far → unwrap_or old.link.current 0 ≤ n → link ≡ record old.link { current = Some n } → IsSession limits old → IsSession limits (record { store = old.store; link = link })
numbered_sound limits old link far n at near above_last is sound =
    subst (λ (l : Link). IsSession limits (record { store = old.store; link = l })) (sym is)
    (record {
      store = sound.store;
      views = sound.views;
      pins = sound.pins;
      link = record {
        content = sound.link.content;
        within = sound.link.within;
        pending = sound.link.pending;
        latest_first = λ i z below. up (sound.link.latest_first i z below) above_last;
        near = subst (λ f. n < f) at near;
      };
    })
  where
    up : {a b c : ℕ} → a ≤ b → b ≤ c → a ≤ c
    up h g = omega arith

-- ---- `put`, `del`, `mark`

appended-AscendFrom : (least : ℕ) (cs : List Change) (c : Change) → least ≤ c.tx → AscendFrom least cs → All (λ (d : Change). d.tx ≤ c.tx) cs → AscendFrom least (cs ++ c ∷ [])
appended-AscendFrom least [] c low up below = (low, tt)
appended-AscendFrom least (d ∷ cs) c low up below =
    (up.0, appended-AscendFrom d.tx cs c (All-head (λ (d : Change). d.tx ≤ c.tx) d cs below) up.1 (All-tail (λ (d : Change). d.tx ≤ c.tx) d cs below))

-- a change of the current number joins the pending ones
pub joined_link : (limits : Limits) (far : ℕ) (old new : Link) (c : Change) → IsLink limits far old → old.current ≡ Some c.tx → IsChange c → true ≡ nat_le (content_of (old.pending ++ c ∷ [])) limits.content → new ≡ record old { pending = old.pending ++ c ∷ []; content = content_of (old.pending ++ c ∷ []) } → IsLink limits far new
joined_link limits far old new c sound now fits room is =
    let number : unwrap_or old.current 0 ≡ c.tx = ap (λ o. unwrap_or o 0) now in
    let low : All (λ (d : Change). d.tx ≤ c.tx) old.pending = λ i z below. subst (λ n. (get_or old.pending i z).tx ≤ n) number (sound.latest_first i z below) in
    let near : c.tx < far = subst (λ n. n < far) number sound.near in
    subst (IsLink limits far) (sym is)
    (record {
      content = refl;
      within = leb-true (content_of (old.pending ++ c ∷ [])) limits.content (sym room);
      pending = record {
        ascend = appended-AscendFrom 0 old.pending c (omega arith) sound.pending.ascend low;
        below_far = All-append (λ (d : Change). d.tx < far) old.pending (c ∷ []) sound.pending.below_far (All-cons (λ (d : Change). d.tx < far) c [] near (All-nil (λ (d : Change). d.tx < far)));
        fit = All-append IsChange old.pending (c ∷ []) sound.pending.fit (All-cons IsChange c [] fits (All-nil IsChange));
      };
      latest_first = subst (λ n. All (λ (d : Change). d.tx ≤ n) (old.pending ++ c ∷ [])) (sym number)
          (All-append (λ (d : Change). d.tx ≤ c.tx) old.pending (c ∷ []) low (All-cons (λ (d : Change). d.tx ≤ c.tx) c [] (le_itself c.tx) (All-nil (λ (d : Change). d.tx ≤ c.tx))));
      near = sound.near;
    })
  where
    le_itself : (n : ℕ) → n ≤ n
    le_itself n = omega arith

pub on_true : (b : Bool) (P : Type 0) → b ≡ true → OnTrue b P → P
on_true true P e h = h
on_true false P e h = cc

-- ---- the views of open transactions

link_opened : (limits : Limits) (far : ℕ) (old : Link) (opens : ℕ) (xs : List Transaction) → IsLink limits far old → IsLink limits far (record old { opens = opens; transactions = xs })
link_opened limits far old opens xs link = record { content = link.content; within = link.within; pending = link.pending; latest_first = link.latest_first; near = link.near }

-- only the sets have changed
abbrev IsSetsOf : {D K : Type 0} → Store D K → Store D K → Type 0
IsSetsOf old new = new ≡ record old { sets = new.sets }

sets_size : {D K : Type 0} (old new : Store D K) → IsSetsOf old new → new.size ≡ old.size
sets_size old new is = ap (λ (x : Store _ _). x.size) is

views_same : {D K : Type 0} (old new : Store D K) (xs : List Transaction) → new.size ≡ old.size → All (λ (t : Transaction). HasView old t.view) xs → All (λ (t : Transaction). HasView new t.view) xs
views_same old new xs same all i z below = subst (λ size. (set_of (get_or xs i z).view).end * size ≤ (get_or xs i z).view.next) (sym same) (all i z below)

pub open_sound : {D K : Type 0} (limits : Limits) (old : Session D K) (store : Store D K) (link : Link) (view : View) → IsSetsOf old.store store → IsStore limits.content store → HasView store view → ArePinned store.sets.held (view ∷ views_of old.link.transactions) → link ≡ record old.link { opens = old.link.opens + 1; transactions = old.link.transactions ++ record { number = old.link.opens + 1; view = view } ∷ [] } → IsSession limits old → IsSession limits (record { store = store; link = link })
open_sound limits old store link view sets stored has pinned is sound =
    let mine : Transaction = record { number = old.link.opens + 1; view = view } in
    let added : List Transaction = old.link.transactions ++ mine ∷ [] in
    subst (λ (l : Link). IsSession limits (record { store = store; link = l })) (sym is)
    (record {
      store = stored;
      link = subst (λ n. IsLink limits (4096 * n) (record old.link { opens = old.link.opens + 1; transactions = added })) (sym (sets_size old.store store sets))
          (link_opened limits (4096 * old.store.size) old.link (old.link.opens + 1) added sound.link);
      views = All-append (λ (t : Transaction). HasView store t.view) old.link.transactions (mine ∷ [])
          (views_same old.store store old.link.transactions (sets_size old.store store sets) sound.views)
          (All-cons (λ (t : Transaction). HasView store t.view) mine [] has (All-nil (λ (t : Transaction). HasView store t.view)));
      pins = subst (λ (vs : List View). ArePinned store.sets.held vs) (sym (map-append (λ (t : Transaction). t.view) old.link.transactions (mine ∷ [])))
          (are_pinned_push store.sets.held (views_of old.link.transactions) view pinned);
    })

-- the new transaction reads what is there now
pub opens_now : {D K : Type 0} (old : Session D K) (link : Link) (view : View) → view.next ≡ old.store.next → view.epoch ≡ old.store.hot.epoch → set_of view ≡ old.store.sets.current → link ≡ record old.link { opens = old.link.opens + 1; transactions = old.link.transactions ++ record { number = old.link.opens + 1; view = view } ∷ [] } → OpensNow old.store (old.link.opens + 1) old.link.transactions link.transactions
opens_now old link view next epoch set is = record { view = view; next = next; epoch = epoch; set = set; added = ap (λ (l : Link). l.transactions) is }

pub close_sound : {D K : Type 0} (limits : Limits) (old : Session D K) (store : Store D K) (link : Link) (t : ℕ) → IsSetsOf old.store store → IsStore limits.content store → ArePinned store.sets.held (views_of (transactions_without t old.link.transactions)) → link ≡ record old.link { transactions = transactions_without t old.link.transactions } → IsSession limits old → IsSession limits (record { store = store; link = link })
close_sound limits old store link t sets stored pinned is sound =
    let left : List Transaction = transactions_without t old.link.transactions in
    subst (λ (l : Link). IsSession limits (record { store = store; link = l })) (sym is)
    (record {
      store = stored;
      link = subst (λ n. IsLink limits (4096 * n) (record old.link { transactions = left })) (sym (sets_size old.store store sets))
          (link_opened limits (4096 * old.store.size) old.link old.link.opens left sound.link);
      views = All-others (λ (x : Transaction). HasView store x.view) t old.link.transactions
          (views_same old.store store old.link.transactions (sets_size old.store store sets) sound.views);
      pins = pinned;
    })

-- the view was opened, and want of memory came behind it
pub open_failed : {D K : Type 0} (limits : Limits) (old : Session D K) (store : Store D K) (link : Link) (view : View) → IsSetsOf old.store store → IsStore limits.content store → ArePinned store.sets.held (view ∷ views_of old.link.transactions) → link ≡ old.link → IsSession limits old → IsSession limits (record { store = store; link = link })
open_failed limits old store link view sets stored pinned is sound =
    subst (λ (l : Link). IsSession limits (record { store = store; link = l })) (sym is)
    (record {
      store = stored;
      link = subst (λ n. IsLink limits (4096 * n) old.link) (sym (sets_size old.store store sets)) sound.link;
      views = views_same old.store store old.link.transactions (sets_size old.store store sets) sound.views;
      pins = less (views_of old.link.transactions) pinned;
    })
  where
    less : (vs : List View) → ArePinned store.sets.held (view ∷ vs) → ArePinned store.sets.held vs
    less vs all n = let both : named_once (set_of view).ids n + pins_of vs n ≤ count_of store.sets.held n = all n in omega (arith, both)

-- a call on the store alone
pub store_sound : {D K : Type 0} (limits : Limits) (old : Session D K) (store : Store D K) → IsStore limits.content store → store.size ≡ old.store.size → ((n : FileName) → count_of store.sets.held n ≡ count_of old.store.sets.held n) → IsSession limits old → IsSession limits (record { store = store; link = old.link })
store_sound limits old store sounds same pins sound = record {
  store = sounds;
  link = subst (λ n. IsLink limits (4096 * n) old.link) (sym same) sound.link;
  views = views_same old.store store old.link.transactions same sound.views;
  pins = are_pinned_same old.store.sets.held store.sets.held (views_of old.link.transactions) pins sound.pins;
}

-- nothing pending, and no current number
cleared_far : (limits : Limits) (far : ℕ) (old new : Link) → 1 ≤ far → new ≡ record old { pending = []; content = 0; current = None } → IsLink limits far new
cleared_far limits far old new some is =
    subst (IsLink limits far) (sym is) (record {
      content = refl;
      within = omega arith;
      pending = record {
        ascend = tt;
        below_far = All-nil (λ (d : Change). d.tx < far);
        fit = All-nil IsChange;
      };
      latest_first = All-nil (λ (d : Change). d.tx ≤ 0);
      near = omega (arith, some);
    })

pub commit_sound : {D K : Type 0} (limits : Limits) (old new : Session D K) → IsStore limits.content new.store → new.store.size ≡ old.store.size → new.store.sets ≡ old.store.sets → new.link ≡ record old.link { pending = []; content = 0; current = None } → IsSession limits old → IsSession limits new
commit_sound limits old new stored same sets is sound =
    let transactions : new.link.transactions ≡ old.link.transactions = ap (λ (l : Link). l.transactions) is in
    record {
      store = stored;
      link = cleared_far limits (4096 * new.store.size) old.link new.link (omega (arith, stored.size_from_one)) is;
      views = subst (λ (ts : List Transaction). All (λ (t : Transaction). HasView new.store t.view) ts) (sym transactions)
          (views_same old.store new.store old.link.transactions same sound.views);
      pins = subst (λ (ts : List Transaction). ArePinned new.store.sets.held (views_of ts)) (sym transactions)
          (are_pinned_same old.store.sets.held new.store.sets.held (views_of old.link.transactions) (λ n. ap (λ x. count_of x.held n) sets) sound.pins);
    }

-- ---- `settle`

pub all_settled : {D K : Type 0} (disk : DiskGhosts D) (old new : Store D K) (list : ChangeList) → Holds disk old list → steps_held new ≡ old.next / old.size → steps_held new ≡ complete_steps list
all_settled disk old new list holds all = all ∙ (λ i. holds.next i / holds.size i)

pub settled : {D K : Type 0} (disk : DiskGhosts D) (old new : Session D K) (names : List (List ℕ)) (s : State) → Stands disk old s → new.link ≡ old.link → Goes disk old.store new.store → Holds disk new.store s.list → steps_held new.store ≡ complete_steps s.list → new_names (files_of_groups new.store.sets.current.groups) ≡ names_over (single_steps (steps_held new.store)) → names ≡ map spelled (new_names (files_of_groups new.store.sets.current.groups)) → Answers disk new (says.Files names) (settle_on s)
settled disk old new names s stands link goes holds all named are = record {
  told = ap (λ (x : List (List ℕ)). says.Files x) (are ∙ ap (map spelled) (named ∙ ap (λ n. names_over (single_steps n)) all));
  stands = record {
    list = holds;
    link = subst (λ (l : Link). LinkStands l s) (sym link) stands.link;
    views = seen_both disk old new.store new.link.transactions s stands goes (ap (λ (l : Link). l.transactions) link);
  };
  settled = omega (arith, all);
}
