-- Laws of a run from its first byte.
use Rattle.std.proofs.Common.{◌≡◌, ◌⊎◌, ◌↔◌, inl, inr, Result, Ok, Err, ℕ, ◌+◌, ◌<◌, ◌≤◌, ◌^◌, ◌*◌, List, [], ◌++◌, map, length, All, Contains, Option, Some, None, IfSome, IsSomeAnd, append-nil, refl, ap, subst, sym, ◌∙◌, arith, zero, suc, le_of_mul-le-mul_right}
use Rattle.std.specs.FinMap.{empty, get, get-empty}
use Rattle.std.specs.Ordering.{nat_cmp}
use Rattle.std.specs.Cmp.Lexicographic.{slice_cmp}
use Rattle.std.specs.Option.{ForSome}
use Rattle.std.proofs.lemmas.List.Elements.{All-nil}
use Rattle.agg_outside.specs.Files.{Files}
use Rattle.agg_outside.specs.Rows.{Held}
use Rattle.agg_outside.specs.declared.rows.Row.{Row}
use Rattle.agg_outside.specs.declared.disk.Disk.{Ghosts as DiskGhosts}
use Rattle.agg_model.specs.Arranged.{arranged}
use Rattle.agg_model.specs.ChangeList.{ChangeList, IsChangeList}
use Rattle.agg_core.specs.Names.{single_steps}
use Rattle.agg_core.specs.Files.{HasFile, HasExactly, KeepsNamed, Covers, SameOutside, temporary_of}
use Rattle.agg_core.proofs.Kept.{covers}
use Rattle.command_words.specs.CommandWords.{command_of}
use Rattle.command_words.specs.declared.words.WordsError.{WordsError}
use Rattle.command_words.specs.declared.words.WordsError.TheVariants as words
use Rattle.command_words.specs.declared.words.Command.{Command}
use Rattle.command_words.specs.declared.words.Command.TheVariants.{Run}
use Rattle.line_words.specs.LineCut.{Uncut, Piece, next_cut, pieces_of}
use Rattle.merge_ranges.specs.declared.name.FileName.{FileName}
use Rattle.merge_ranges.specs.Name.{spelled}
use Rattle.merge_ranges.specs.CanonicalNames.{names_over}
use Rattle.state_store.specs.declared.store.Store.{Store}
use Rattle.group_files.specs.NewFiles.{names_for}
use Rattle.state_store.specs.Store.{IsStore, Holds, Keeps, HasView, ArePinned, Goes, HasNoFile, steps_held}
use Rattle.session_link.proofs.StoreLaws.{goes-trans}
use Rattle.session_link.proofs.SessionLaws.{first_session}
use Rattle.session_link.specs.declared.link.Link.{Link}
use Rattle.session_link.specs.declared.limits.Limits.{Limits}
use Rattle.agg_session.specs.declared.served.Served.{Served}
use Rattle.agg_session.specs.declared.ends.LinkEnd.{LinkEnd}
use Rattle.agg_session.specs.declared.ends.LinkEnd.TheVariants as ends
use Rattle.agg_session.specs.declared.status.Status.{Status}
use Rattle.agg_session.specs.declared.status.Status.TheVariants as status
use Rattle.session_link.specs.declared.link.Transaction.{Transaction}
use Rattle.session_link.specs.Links.{first_link, views_of, IsLink, AreSeen}
use Rattle.session_link.specs.Running.{StillHas}
use Rattle.agg_model.specs.declared.change.Change.{Change}
use Rattle.agg_model.specs.Batch.{IsChange}
use Rattle.agg_session.specs.Served.{IsServed, IsAnswered, ServesAll, ServesEnded, ServesPart, EndsLong}
use Rattle.session_link.specs.State.{starting}
use Rattle.agg_session.specs.Answer.{after, joined, replies, state_after, AreSettled, ended_lines}
use Rattle.agg_session.specs.Statuses.{status_of_words}
use Rattle.agg_session.specs.Top.{usual_limits, AsksForRun, empty_list, empty_held, status_of, EndsWhole, EndsBetween, EndsWithin, HasRowsOf, IsSettled, AreLeft, IsBetween, IsShort}
use Rattle.agg_session.proofs.ServingLaws.{settled-more}
use Rattle.agg_session.proofs.StoppingLaws.{not_begun}
use Rattle.agg_session.proofs.TakingLaws.{untaken}

pub nothing_cut : (limit : ℕ) → (next_cut (record { limit = limit; left = [] })).0 ≡ None
unfolding next_cut
nothing_cut limit = refl

no_file : (P : List ℕ → Type 0) (o : Option (List ℕ)) → o ≡ None → IfSome o P
no_file P None e = tt
no_file P (Some b) e = cc

nothing_kept : (list : ChangeList) (f : Files) → f ≡ empty → KeepsNamed list f
nothing_kept list f is = subst (KeepsNamed list) (sym is) (record {
  named = λ name named. no_file _ (get empty (spelled name)) (get-empty (slice_cmp nat_cmp) (spelled name));
  temporary = λ name named. no_file _ (get empty (temporary_of name)) (get-empty (slice_cmp nat_cmp) (temporary_of name));
})

-- a disk with no file has none under any name
pub no_files : (o : Option Files) → ForSome o (λ f. f ≡ empty) → ForSome o HasNoFile
no_files o none f told text = subst (λ (g : Files). get g text ≡ None) (sym (none f told)) (get-empty (slice_cmp nat_cmp) text)

-- an empty keeper has no row, and the floor 0
pub no_row : (o : Option Held) (h : Held) → o ≡ Some h → ForSome o (λ k. k ≡ empty_held) → IsSomeAnd o (λ k. (k.rows ≡ []) × (k.floor ≡ 0))
no_row o h told none =
    subst (λ (x : Option Held). IsSomeAnd x (λ k. (k.rows ≡ []) × (k.floor ≡ 0))) (sym told)
    (ap (λ (k : Held). k.rows) (none h told), ap (λ (k : Held). k.floor) (none h told))

pub no_rows : (o : Option Held) → ForSome o (λ k. k ≡ empty_held) → ForSome o (λ k. k.rows ≡ [])
no_rows o none h told = ap (λ (k : Held). k.rows) (none h told)

-- a session before its first line
pub first_served : {D K : Type 0} (limits : Limits) (served : Served D K) → served.lines ≡ 0 → served.cut ≡ record { limit = limits.line; left = [] } → served.session.link ≡ first_link → IsStore limits.content served.session.store → served.session.store.hot.epoch ≡ 1 → IsServed limits served
first_served limits served lines cut link stored epoch =
    record {
      session = first_session limits served.session link stored;
      limit = ap (λ (u : Uncut). u.limit) cut;
      opens = let same : served.session.link.opens ≡ 0 = ap (λ (l : Link). l.opens) link in omega (arith, same);
      epoch = omega (arith, epoch);
    }

-- few steps are complete
held_small : (list : ChangeList) (n : ℕ) → IsChangeList list → n * list.size ≤ list.next → n ≤ 4096
held_small list n valid complete = at_most n list.size valid.size_from_one (omega (arith, complete, valid.next_within))
  where
    at_most : (n s : ℕ) → 1 ≤ s → n * s ≤ 4096 * s → n ≤ 4096
    at_most n zero h k = absurd (omega (arith, h))
    at_most n (suc s) h k = le_of_mul-le-mul_right k (omega arith)

pub first_answered : {D K : Type 0} (disk : DiskGhosts D) (limits : Limits) (served : Served D K) (size : ℕ) (out : Option (List ℕ)) → served.lines ≡ 0 → served.cut ≡ record { limit = limits.line; left = [] } → served.session.link ≡ first_link → Holds disk served.session.store (empty_list size) → IsAnswered disk limits served out out (starting (empty_list size)) []
first_answered disk limits served size out lines cut link holds =
    let left : [] ≡ served.cut.left = ap (λ (u : Uncut). u.left) (sym cut) in
    record {
      lines = [];
      cuts = λ later i. pieces_of limits.line (left i ++ later);
      count = lines;
      all = record {
        stands = record {
          list = holds;
          link = record {
            pending = ap (λ l. l.pending) link;
            current = ap (λ l. l.current) link;
            opens = ap (λ l. l.opens) link;
          };
          views = subst (λ (ts : List Transaction). AreSeen served.session.store.hot served.session.store.size ts [])
              (sym (ap (λ (l : Link). l.transactions) link)) tt;
        };
        written = λ before told. told ∙ ap Some (sym (append-nil before));
        settled = tt;
      };
    }

-- ---- how a run ends

pub at_end : (end : LinkEnd) → status_of end ≡ status.Done → end ≡ ends.Done
at_end ends.Done e = refl
at_end ends.Source e = cc
at_end ends.Sink e = cc
at_end ends.Disk e = cc
at_end ends.Keeper e = cc
at_end ends.Long e = cc
at_end ends.Memory e = cc

pub between : (most : ℕ) (left_old left : Option (List ℕ)) (end : LinkEnd) → IsBetween most left_old left (status_of end) → (end ≡ ends.Source) ⊎ (end ≡ ends.Long)
between most left_old left ends.Source is = inl refl
between most left_old left ends.Long is = inr refl
between most left_old left ends.Done is = absurd is
between most left_old left ends.Sink is = absurd is
between most left_old left ends.Disk is = absurd is
between most left_old left ends.Keeper is = absurd is
between most left_old left ends.Memory is = absurd is

-- an empty keeper has the rows of the empty list
rows_none : (held : Option Held) (size : ℕ) → held ≡ Some empty_held → HasRowsOf held (empty_list size)
unfolding arranged
rows_none held size is = subst (λ o. HasRowsOf o (empty_list size)) (sym is) (record {
  rows = refl;
  alive = All-nil (λ (row : Row). row.killed ≡ 0);
  floor = refl;
})

-- what follows of a list that the store holds, or keeps
pub record IsLawful {D K : Type 0} (disk : DiskGhosts D) (store : Store D K) : Type 0 where
  pub keeps : (list : ChangeList) → Holds disk store list → Keeps disk store list
  pub names : (list : ChangeList) → Keeps disk store list →
      names_for store.sets.current.groups ≡ names_over (single_steps (steps_held store))

module _ {D K : Type 0} (disk : DiskGhosts D) (limits : Limits) (old last : Served D K) (size : ℕ) (out_old out left_old left : Option (List ℕ)) (store : Store D K) (laws : IsLawful disk store) where
  -- the run begins with the empty list
  abbrev pub Begins : Type 0
  Begins = IsAnswered disk limits old out_old out_old (starting (empty_list size)) []

  still : (list : ChangeList) → StillHas disk store list → Keeps disk store list
  still list (inl holds) = laws.keeps list holds
  still list (inr keeps) = keeps

  -- all was answered, and all complete steps were put in files
  pub ends_whole : ((list : ChangeList) → Holds disk last.session.store list → IsSettled disk store list) → Begins → ServesAll disk limits old last out_old out left_old left → EndsWhole limits (empty_list size) left_old left out_old out store.hot.told (disk.files store.disk)
  ends_whole settles begins s =
      let all = s.answers (starting (empty_list size)) out_old begins in
      let list : ChangeList = after limits (empty_list size) s.text in
      let settled : IsSettled disk store list = settles list all.stands.list in
      let keeps : Keeps disk store list = laws.keeps list settled.holds in
      record {
        text = s.text;
        is_taken = s.is_taken;
        all = s.all;
        within = s.within;
        written = all.written;
        rows = keeps.rows;
        stand = λ f told.
            subst (λ (ns : List FileName). HasExactly list ns f) (laws.names list keeps ∙ ap (λ n. names_over (single_steps n)) settled.all)
            (settled.holds.stand f told);
      }

  -- what is left of the store, where keeper and disk tell
  pub left_of : (list : ChangeList) → Keeps disk store list → AreLeft store.hot.told (disk.files store.disk) list
  left_of list keeps = record { rows = keeps.rows; kept = λ f told. (keeps.stand f told).kept }

  -- and the steps that it covers
  pub covered_by : (list : ChangeList) → Keeps disk store list → ForSome (disk.files store.disk) (Covers (steps_held store))
  covered_by list keeps = λ f told.
      covers list (steps_held store) f (held_small list (steps_held store) keeps.valid keeps.complete)
      (subst (All (HasFile list f)) (laws.names list keeps) (keeps.stand f told).held)

  pub ends_between : store ≡ last.session.store → Begins → ServesEnded disk limits old last out_old out left_old left → EndsBetween limits (empty_list size) left_old left out_old out store.hot.told (disk.files store.disk)
  ends_between same begins s =
      let all = s.answers (starting (empty_list size)) out_old begins in
      let lines : List Piece = ended_lines limits.line s.text in
      let list : ChangeList = (state_after limits 1 lines (starting (empty_list size))).list in
      let keeps : Keeps disk store list = laws.keeps list (subst (λ (x : Store D K). Holds disk x list) (sym same) all.stands.list) in
      record {
        text = s.text;
        is_taken = s.is_taken;
        within = s.within;
        written = all.written;
        kept = left_of list keeps;
        steps = steps_held store;
        settled = subst (λ (x : Store D K). AreSettled limits 1 lines (starting (empty_list size)) (steps_held x)) (sym same) all.settled;
        covered = covered_by list keeps;
      }

  pub ends_within : store ≡ last.session.store → Begins → ServesPart disk limits old last out_old out left_old left → EndsWithin limits (empty_list size) left_old left out_old out store.hot.told (disk.files store.disk)
  ends_within same begins s =
      let part = s.answers (starting (empty_list size)) out_old begins in
      let keeps : Keeps disk store part.list = still part.list (subst (λ (x : Store D K). StillHas disk x part.list) (sym same) part.kept) in
      record {
        text = s.text;
        is_taken = s.is_taken;
        within = s.within;
        lines = s.lines;
        due = s.due;
        steps = steps_held store;
        partway = record {
          answered = part.answered;
          rest = part.rest;
          lines_are = part.lines_are;
          part = part.part;
          list = part.list;
          begun = part.begun;
          written = part.written;
          settled = subst (λ (x : Store D K). AreSettled limits 1 part.answered (starting (empty_list size)) (steps_held x)) (sym same) part.settled;
          kept = left_of part.list keeps;
        };
        covered = covered_by part.list keeps;
      }

  -- all was answered, and not all complete steps were put in files
  pub ends_settling : ((list : ChangeList) → Holds disk last.session.store list → StillHas disk store list) → steps_held last.session.store ≤ steps_held store → Begins → ServesAll disk limits old last out_old out left_old left → EndsWithin limits (empty_list size) left_old left out_old out store.hot.told (disk.files store.disk)
  ends_settling keep more begins s =
      let all = s.answers (starting (empty_list size)) out_old begins in
      let lines : List Piece = pieces_of limits.line s.text in
      let end = state_after limits 1 lines (starting (empty_list size)) in
      let keeps : Keeps disk store end.list = still end.list (keep end.list all.stands.list) in
      record {
        text = s.text;
        is_taken = s.is_taken;
        within = below s.within;
        lines = lines;
        due = inr (s.all, refl);
        steps = steps_held store;
        partway = record {
          answered = lines;
          rest = [];
          lines_are = sym (append-nil lines);
          part = [];
          list = end.list;
          begun = (refl, refl);
          written = λ before told. all.written before told ∙ ap Some (sym (append-nil (before ++ joined (replies limits 1 lines (starting (empty_list size))))));
          settled = settled-more limits 1 lines (starting (empty_list size)) (steps_held last.session.store) (steps_held store) more all.settled;
          kept = left_of end.list keeps;
        };
        covered = covered_by end.list keeps;
      }
    where
      below : {a b : ℕ} → a < b → a ≤ b
      below h = omega arith

-- a run whose words couldn't be read: nothing was taken, and nothing written
pub ends_unread : (limits : Limits) (size : ℕ) (left out : Option (List ℕ)) (held : Option Held) (files : Option Files) → held ≡ Some empty_held → ForSome files (λ f. f ≡ empty) → EndsWithin limits (empty_list size) left left out out held files
ends_unread limits size left out held files rows nothing = record {
  text = [];
  is_taken = untaken left left refl;
  within = omega arith;
  lines = ended_lines limits.line [];
  due = inl refl;
  steps = 0;
  partway = record {
    answered = [];
    rest = ended_lines limits.line [];
    lines_are = refl;
    part = [];
    list = empty_list size;
    begun = not_begun limits 1 (ended_lines limits.line []) (starting (empty_list size));
    written = λ before told. told ∙ ap Some (sym (append-nil before) ∙ sym (append-nil (before ++ [])));
    settled = tt;
    kept = record { rows = rows_none held size rows; kept = λ f told. nothing_kept (empty_list size) f (nothing f told) };
  };
  covered = λ f told e k step built below. absurd (none_below step below);
}
  where
    none_below : (n : ℕ) → n < 0 → ⊥
    none_below n h = omega arith

-- ---- what the run hands back

-- what is told of the store is told of its parts
pub parted : {D K : Type 0} (disk : DiskGhosts D) (store : Store D K) (files_at : D) (held_at : Option Held) (P : Option Held → Option Files → Type 0) → files_at ≡ store.disk → held_at ≡ store.hot.told → P store.hot.told (disk.files store.disk) → P held_at (disk.files files_at)
parted disk store files_at held_at P files_are rows_are h =
    subst (λ held. P held (disk.files files_at)) (sym rows_are) (subst (λ d. P store.hot.told (disk.files d)) (sym files_are) h)

-- names outside the grammar
pub outside_through : {D K : Type 0} (disk : DiskGhosts D) (first mid last : Store D K) (files_at after_at : D) → first.disk ≡ files_at → after_at ≡ last.disk → Goes disk first mid → Goes disk mid last → SameOutside (disk.files files_at) (disk.files after_at)
outside_through disk first mid last files_at after_at was is one two =
    subst (λ d. SameOutside (disk.files files_at) (disk.files d)) (sym is)
    (subst (λ d. SameOutside (disk.files d) (disk.files last.disk)) was (goes-trans disk first mid last one two).outside)

-- whether a link was read to its end
pub is_done : (end : LinkEnd) → (end ≡ ends.Done) ⊎ (end ≡ ends.Done → ⊥)
is_done ends.Done = inl refl
is_done ends.Source = inr (λ e. cc e)
is_done ends.Sink = inr (λ e. cc e)
is_done ends.Disk = inr (λ e. cc e)
is_done ends.Keeper = inr (λ e. cc e)
is_done ends.Long = inr (λ e. cc e)
is_done ends.Memory = inr (λ e. cc e)

pub never_done : (end : LinkEnd) → (end ≡ ends.Source) ⊎ (end ≡ ends.Long) → end ≡ ends.Done → ⊥
never_done end (inl is) done = let e : ends.Source ≡ ends.Done = sym is ∙ done in cc
never_done end (inr is) done = let e : ends.Long ≡ ends.Done = sym is ∙ done in cc

-- a run that nothing ends early
pub complete : (s : Status) → (s ≡ status.Usage → ⊥) → (s ≡ status.SourceFault → ⊥) → (s ≡ status.SinkFault → ⊥) → (s ≡ status.DiskFault → ⊥) → (s ≡ status.KeeperFault → ⊥) → (s ≡ status.Long → ⊥) → (s ≡ status.Done) ⊎ (s ≡ status.Memory)
complete status.Done usage source sink disk keeper long = inl refl
complete status.Usage usage source sink disk keeper long = absurd (usage refl)
complete status.SourceFault usage source sink disk keeper long = absurd (source refl)
complete status.SinkFault usage source sink disk keeper long = absurd (sink refl)
complete status.DiskFault usage source sink disk keeper long = absurd (disk refl)
complete status.KeeperFault usage source sink disk keeper long = absurd (keeper refl)
complete status.Memory usage source sink disk keeper long = inr refl
complete status.Long usage source sink disk keeper long = absurd (long refl)

-- ---- what was taken

-- fewer bytes were taken than may be
not_long : (left : Option (List ℕ)) (most : ℕ) (input : List ℕ) → EndsLong most input left → IsSomeAnd left (λ rest. length input < most + length rest) → ⊥
not_long None most input long few = few
not_long (Some rest) most input long few = omega (arith, long, few)

pub short_run : (left_old left : Option (List ℕ)) (most : ℕ) → ForSome left_old (λ input. EndsLong most input left) → IsShort most left_old left → ⊥
short_run None left most long short = short
short_run (Some input) left most long short = not_long left most input (long input refl) short

-- ---- what the words ask for

module _ (e : WordsError) (s : Status) (is : s ≡ status_of_words e) where
  pub not_status : (t : Status) → (status.Usage ≡ t → ⊥) → (status.Memory ≡ t → ⊥) → s ≡ t → ⊥
  not_status t usage memory was = by_words e (sym is ∙ was)
    where
      by_words : (w : WordsError) → status_of_words w ≡ t → ⊥
      by_words words.Usage h = usage h
      by_words words.Memory h = memory h

  pub not_between : (most : ℕ) (left_old left : Option (List ℕ)) → IsBetween most left_old left s → ⊥
  not_between most left_old left between = by_words e (subst (IsBetween most left_old left) is between)
    where
      by_words : (w : WordsError) → IsBetween most left_old left (status_of_words w) → ⊥
      by_words words.Usage h = h
      by_words words.Memory h = h

usage_by : (e : WordsError) (s : Status) (r : Result Command WordsError) (o : Option Command) → s ≡ status_of_words e → r ≡ Err e → (r ≡ Err words.Usage) ↔ (o ≡ None) → (s ≡ status.Usage) ↔ (o ≡ None)
usage_by words.Usage s r o is was iff = (λ u. iff.0 was, λ none. is)
usage_by words.Memory s r o is was iff = (λ u. cc, λ none. let usage : r ≡ Err words.Usage = iff.1 none in cc)

pub usage_of_words : (e : WordsError) (s : Status) (r : Result Command WordsError) (o : Option Command) → s ≡ status_of_words e → r ≡ Err e → (r ≡ Err words.Usage) ↔ (o ≡ None) → (s ≡ status.Usage) ↔ (o ≡ None)
usage_of_words = usage_by

complete_by : (e : WordsError) (s : Status) (r : Result Command WordsError) (o : Option Command) → s ≡ status_of_words e → r ≡ Err e → (r ≡ Err words.Usage) ↔ (o ≡ None) → (o ≡ None → ⊥) → (s ≡ status.Done) ⊎ (s ≡ status.Memory)
complete_by words.Usage s r o is was iff some = absurd (some (iff.0 was))
complete_by words.Memory s r o is was iff some = inr is

pub complete_of_words : (e : WordsError) (s : Status) (r : Result Command WordsError) (o : Option Command) → s ≡ status_of_words e → r ≡ Err e → (r ≡ Err words.Usage) ↔ (o ≡ None) → (o ≡ None → ⊥) → (s ≡ status.Done) ⊎ (s ≡ status.Memory)
complete_of_words = complete_by

pub less_most : {a b : ℕ} → a < b → a ≤ b
less_most h = omega arith
