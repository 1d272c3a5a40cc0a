-- Laws of whom a link may blame.
use Rattle.std.proofs.Common.{◌≡◌, ◌⊎◌, inl, inr, ℕ, ◌≤◌, ◌<◌, Result, Ok, Err, IfErr, IsErrOf, IsErrAnd, ap, subst, sym, ◌∙◌, arith, refl, MatchResult}
use Rattle.agg_outside.specs.Counts.{Rose, HasCause}
use Rattle.agg_outside.specs.declared.disk.Disk.{Ghosts as DiskGhosts}
use Rattle.agg_outside.specs.declared.sink.Sink.{Ghosts as SinkGhosts}
use Rattle.agg_outside.specs.declared.errors.SinkError.{SinkError}
use Rattle.agg_outside.specs.declared.errors.SinkError.TheVariants as sinks
use Rattle.state_store.specs.declared.stop.Stop.{Stop}
use Rattle.state_store.specs.declared.stop.Stop.TheVariants as stops
use Rattle.state_store.specs.declared.store.Store.{Store}
use Rattle.state_store.specs.Store.{Goes, HasCauses}
use Rattle.session_link.proofs.StoreLaws.{goes-refl, goes-trans}
use Rattle.agg_session.specs.declared.ends.LinkEnd.{LinkEnd}
use Rattle.agg_session.specs.declared.ends.LinkEnd.TheVariants as ends
use Rattle.agg_session.specs.Ends.{IsBlamed, IsWant, ended_by, end_of_stop, end_of_sink}
use Rattle.session_link.specs.Running.{KeepsDevices}

-- ---- counts

pub rose_since : (first before now : ℕ) → first ≤ before → Rose before now → Rose first now
rose_since first before now low (inl more) = inl (omega (arith, more))
rose_since first before now low (inr top) = inr top

-- ---- ends that a call can't have

pub wants_done : {T : Type 0} (r : Result T LinkEnd) → r ≡ Err ends.Done → IfErr r IsWant → ⊥
wants_done (Ok x) is never = cc
wants_done (Err ends.Done) is never = never
wants_done (Err ends.Source) is never = cc
wants_done (Err ends.Sink) is never = cc
wants_done (Err ends.Disk) is never = cc
wants_done (Err ends.Keeper) is never = cc
wants_done (Err ends.Long) is never = cc
wants_done (Err ends.Memory) is never = cc

pub wants_long : {T : Type 0} (r : Result T LinkEnd) → r ≡ Err ends.Long → IfErr r IsWant → ⊥
wants_long (Ok x) is never = cc
wants_long (Err ends.Done) is never = cc
wants_long (Err ends.Source) is never = cc
wants_long (Err ends.Sink) is never = cc
wants_long (Err ends.Disk) is never = cc
wants_long (Err ends.Keeper) is never = cc
wants_long (Err ends.Long) is never = never
wants_long (Err ends.Memory) is never = cc

pub was_err : {T : Type 0} (r : Result T LinkEnd) (end other : LinkEnd) → r ≡ Err end → end ≡ other → r ≡ Err other
was_err r end other is same = is ∙ ap Err same

-- the error of a `?`
pub is_err_of : {T : Type 0} (r : Result T LinkEnd) (x : LinkEnd) → IsErrAnd r (λ e. e ≡ x) → r ≡ Err x
is_err_of (Ok y) x h = absurd h
is_err_of (Err y) x h = ap Err h

want_of_stop : (stop : Stop) → (stop ≡ stops.Worn → ⊥) → IsWant (end_of_stop stop)
want_of_stop stops.Disk unworn = tt
want_of_stop stops.Keeper unworn = tt
want_of_stop stops.Worn unworn = unworn refl
want_of_stop stops.Memory unworn = tt

want_of_sink : (error : SinkError) → IsWant (end_of_sink error)
want_of_sink sinks.Failed = tt
want_of_sink sinks.Memory = tt

pub want_at_stop : {T : Type 0} (r : Result T LinkEnd) (stop : Stop) → r ≡ Err (end_of_stop stop) → (stop ≡ stops.Worn → ⊥) → IfErr r IsWant
want_at_stop r stop is unworn = subst (λ x. IfErr x IsWant) (sym is) (want_of_stop stop unworn)

pub want_at_sink : {T : Type 0} (r : Result T LinkEnd) (error : SinkError) → r ≡ Err (end_of_sink error) → IfErr r IsWant
want_at_sink r error is = subst (λ x. IfErr x IsWant) (sym is) (want_of_sink error)

pub want_at_memory : {T : Type 0} (r : Result T LinkEnd) → r ≡ Err ends.Memory → IfErr r IsWant
want_at_memory r is = subst (λ x. IfErr x IsWant) (sym is) tt

pub want_at_source : {T : Type 0} (r : Result T LinkEnd) (end : LinkEnd) → r ≡ Err end → end ≡ ends.Source → IfErr r IsWant
want_at_source r end is source = subst (λ x. IfErr x IsWant) (sym (is ∙ ap Err source)) tt

pub want_at : {T : Type 0} (r : Result T LinkEnd) (end : LinkEnd) → r ≡ Err end → IsWant end → IfErr r IsWant
want_at r end is want = subst (λ x. IfErr x IsWant) (sym is) want

-- ---- whom a call may blame

disk_stop : (stop : Stop) → end_of_stop stop ≡ ends.Disk → stop ≡ stops.Disk
disk_stop stops.Disk e = refl
disk_stop stops.Keeper e = cc
disk_stop stops.Worn e = cc
disk_stop stops.Memory e = cc

keeper_stop : (stop : Stop) → end_of_stop stop ≡ ends.Keeper → stop ≡ stops.Keeper
keeper_stop stops.Disk e = cc
keeper_stop stops.Keeper e = refl
keeper_stop stops.Worn e = cc
keeper_stop stops.Memory e = cc

no_sink_stop : (stop : Stop) → end_of_stop stop ≡ ends.Sink → ⊥
no_sink_stop stops.Disk e = cc
no_sink_stop stops.Keeper e = cc
no_sink_stop stops.Worn e = cc
no_sink_stop stops.Memory e = cc

no_source_stop : (stop : Stop) → end_of_stop stop ≡ ends.Source → ⊥
no_source_stop stops.Disk e = cc
no_source_stop stops.Keeper e = cc
no_source_stop stops.Worn e = cc
no_source_stop stops.Memory e = cc

sink_failed : (error : SinkError) → end_of_sink error ≡ ends.Sink → error ≡ sinks.Failed
sink_failed sinks.Failed e = refl
sink_failed sinks.Memory e = cc

no_disk_sink : (error : SinkError) → end_of_sink error ≡ ends.Disk → ⊥
no_disk_sink sinks.Failed e = cc
no_disk_sink sinks.Memory e = cc

no_keeper_sink : (error : SinkError) → end_of_sink error ≡ ends.Keeper → ⊥
no_keeper_sink sinks.Failed e = cc
no_keeper_sink sinks.Memory e = cc

no_source_sink : (error : SinkError) → end_of_sink error ≡ ends.Source → ⊥
no_source_sink sinks.Failed e = cc
no_source_sink sinks.Memory e = cc

same_end : {T : Type 0} (r : Result T LinkEnd) (a b : LinkEnd) → r ≡ Err a → r ≡ Err b → a ≡ b
same_end r a b e f = cc

module _ {D K O : Type 0} (disk : DiskGhosts D) (sink : SinkGhosts O) (Case : Type 0) where
  -- a call that went well
  pub blamed_ok : {T : Type 0} (old new : Store D K) (out_old out : O) (result : Result T LinkEnd) (x : T) → result ≡ Ok x → Goes disk old new → sink.faults out_old ≤ sink.faults out → IsBlamed disk sink Case old new out_old out result
  blamed_ok old new out_old out result x is goes stays = record {
    goes = goes;
    sink_stays = stays;
    disk_rose = λ e. cc;
    keeper_rose = λ e. cc;
    sink_rose = λ e. cc;
    source_rose = λ e. cc;
  }

  -- want of memory
  pub blamed_memory : {T : Type 0} (old new : Store D K) (out_old out : O) (result : Result T LinkEnd) → result ≡ Err ends.Memory → Goes disk old new → sink.faults out_old ≤ sink.faults out → IsBlamed disk sink Case old new out_old out result
  blamed_memory old new out_old out result is goes stays = record {
    goes = goes;
    sink_stays = stays;
    disk_rose = λ e. let same : ends.Memory ≡ ends.Disk = same_end result ends.Memory ends.Disk is e in cc;
    keeper_rose = λ e. let same : ends.Memory ≡ ends.Keeper = same_end result ends.Memory ends.Keeper is e in cc;
    sink_rose = λ e. let same : ends.Memory ≡ ends.Sink = same_end result ends.Memory ends.Sink is e in cc;
    source_rose = λ e. let same : ends.Memory ≡ ends.Source = same_end result ends.Memory ends.Source is e in cc;
  }

  -- a line that couldn't be worked on
  pub blamed_stop : {S T : Type 0} (old new : Store D K) (out_old out : O) (stop : Stop) (below : Result S Stop) (result : Result T LinkEnd) → below ≡ Err stop → result ≡ Err (end_of_stop stop) → KeepsDevices disk old new below → sink.faults out_old ≤ sink.faults out → IsBlamed disk sink Case old new out_old out result
  blamed_stop old new out_old out stop below result was is devices stays = record {
    goes = devices.goes;
    sink_stays = stays;
    disk_rose = λ e. devices.causes.of_disk (was ∙ ap Err (disk_stop stop (same_end result (end_of_stop stop) ends.Disk is e)));
    keeper_rose = λ e. devices.causes.of_keeper (was ∙ ap Err (keeper_stop stop (same_end result (end_of_stop stop) ends.Keeper is e)));
    sink_rose = λ e. absurd (no_sink_stop stop (same_end result (end_of_stop stop) ends.Sink is e));
    source_rose = λ e. absurd (no_source_stop stop (same_end result (end_of_stop stop) ends.Source is e));
  }

  -- a reply that couldn't be written
  pub blamed_sink : {S T : Type 0} (old new : Store D K) (out_old out : O) (error : SinkError) (below : Result S SinkError) (result : Result T LinkEnd) → below ≡ Err error → result ≡ Err (end_of_sink error) → Goes disk old new → HasCause sinks.Failed (sink.faults out_old) (sink.faults out) below → IsBlamed disk sink Case old new out_old out result
  blamed_sink old new out_old out error below result was is goes cause = record {
    goes = goes;
    sink_stays = cause.no_fall;
    disk_rose = λ e. absurd (no_disk_sink error (same_end result (end_of_sink error) ends.Disk is e));
    keeper_rose = λ e. absurd (no_keeper_sink error (same_end result (end_of_sink error) ends.Keeper is e));
    sink_rose = λ e. cause.rose (was ∙ ap Err (sink_failed error (same_end result (end_of_sink error) ends.Sink is e)));
    source_rose = λ e. absurd (no_source_sink error (same_end result (end_of_sink error) ends.Source is e));
  }

  -- the source failed, and nothing was touched
  pub blamed_source : {T : Type 0} (old new : Store D K) (out_old out : O) (result : Result T LinkEnd) → result ≡ Err ends.Source → Goes disk old new → sink.faults out_old ≤ sink.faults out → Case → IsBlamed disk sink Case old new out_old out result
  blamed_source old new out_old out result is goes stays here = record {
    goes = goes;
    sink_stays = stays;
    disk_rose = λ e. let same : ends.Source ≡ ends.Disk = same_end result ends.Source ends.Disk is e in cc;
    keeper_rose = λ e. let same : ends.Source ≡ ends.Keeper = same_end result ends.Source ends.Keeper is e in cc;
    sink_rose = λ e. let same : ends.Source ≡ ends.Sink = same_end result ends.Source ends.Sink is e in cc;
    source_rose = λ e. here;
  }

  -- a long link, or one that is done
  pub blamed_none : {T : Type 0} (old new : Store D K) (out_old out : O) (result : Result T LinkEnd) (end : LinkEnd) → result ≡ Err end → (end ≡ ends.Done) ⊎ (end ≡ ends.Long) → Goes disk old new → sink.faults out_old ≤ sink.faults out → IsBlamed disk sink Case old new out_old out result
  blamed_none old new out_old out result end is (inl done) goes stays = record {
    goes = goes;
    sink_stays = stays;
    disk_rose = λ e. let same : ends.Done ≡ ends.Disk = sym done ∙ same_end result end ends.Disk is e in cc;
    keeper_rose = λ e. let same : ends.Done ≡ ends.Keeper = sym done ∙ same_end result end ends.Keeper is e in cc;
    sink_rose = λ e. let same : ends.Done ≡ ends.Sink = sym done ∙ same_end result end ends.Sink is e in cc;
    source_rose = λ e. let same : ends.Done ≡ ends.Source = sym done ∙ same_end result end ends.Source is e in cc;
  }
  blamed_none old new out_old out result end is (inr long) goes stays = record {
    goes = goes;
    sink_stays = stays;
    disk_rose = λ e. let same : ends.Long ≡ ends.Disk = sym long ∙ same_end result end ends.Disk is e in cc;
    keeper_rose = λ e. let same : ends.Long ≡ ends.Keeper = sym long ∙ same_end result end ends.Keeper is e in cc;
    sink_rose = λ e. let same : ends.Long ≡ ends.Sink = sym long ∙ same_end result end ends.Sink is e in cc;
    source_rose = λ e. let same : ends.Long ≡ ends.Source = sym long ∙ same_end result end ends.Source is e in cc;
  }

  -- a call that blames as the one below it does, behind others that went well
  pub blamed_behind : {S T : Type 0} (Other : Type 0) (first old new : Store D K) (out_first out_old out : O) (end : LinkEnd) (below : Result S LinkEnd) (result : Result T LinkEnd) → below ≡ Err end → result ≡ Err end → (Other → Case) → Goes disk first old → sink.faults out_first ≤ sink.faults out_old → IsBlamed disk sink Other old new out_old out below → IsBlamed disk sink Case first new out_first out result
  blamed_behind Other first old new out_first out_old out end below result was is other goes stays blamed = record {
    goes = goes-trans disk first old new goes blamed.goes;
    sink_stays = omega (arith, stays, blamed.sink_stays);
    disk_rose = λ e. rose_since (disk.faults first.disk) (disk.faults old.disk) (disk.faults new.disk) goes.disk_faults
        (blamed.disk_rose (was ∙ ap Err (same_end result end ends.Disk is e)));
    keeper_rose = λ e. rose_since first.hot.faults old.hot.faults new.hot.faults goes.keeper_faults
        (blamed.keeper_rose (was ∙ ap Err (same_end result end ends.Keeper is e)));
    sink_rose = λ e. rose_since (sink.faults out_first) (sink.faults out_old) (sink.faults out) stays
        (blamed.sink_rose (was ∙ ap Err (same_end result end ends.Sink is e)));
    source_rose = λ e. other (blamed.source_rose (was ∙ ap Err (same_end result end ends.Source is e)));
  }

  -- a link whose last line was worked on
  pub blamed_finish : (first old new : Store D K) (out_first out_old out : O) (outcome : Result (Unit {0}) LinkEnd) (end : LinkEnd) → MatchResult outcome (λ _. end ≡ ends.Done) (λ e. end ≡ e) → Goes disk first old → sink.faults out_first ≤ sink.faults out_old → IsBlamed disk sink ⊥ old new out_old out outcome → IsBlamed disk sink Case first new out_first out (ended_by end)
  blamed_finish first old new out_first out_old out (Ok u) end is goes stays blamed =
      blamed_none first new out_first out (ended_by end) end refl (inl is) (goes-trans disk first old new goes blamed.goes) (omega (arith, stays, blamed.sink_stays))
  blamed_finish first old new out_first out_old out (Err e) end is goes stays blamed =
      blamed_behind ⊥ first old new out_first out_old out e (Err e) (ended_by end) refl (ap Err is) (λ never. absurd never) goes stays blamed
