-- What a commit shows of the keeper's replies.
use Rattle.std.proofs.Common.{◌≡◌, ◌≢◌, ℕ, ◌≤◌, ◌⊎◌, Bool, true, false, inl, inr, List, [], ◌∷◌, Option, Some, None, refl, sym, ap, ◌∙◌, subst}
use Rattle.call_ticket.specs.Ticket.{TicketValue}
use Rattle.crash_base.specs.declared.rows.RowWrite.{RowWrite}
use Rattle.outside.specs.Faults.{Rose}
use Rattle.outside.specs.declared.keeper.KeeperFault.TheVariants as faults
use Rattle.outside.specs.Keeper.{TellsRefusal}
use Rattle.boot_core.specs.Boot.{BootValue}
use Rattle.boot_core.specs.Keeper.{TellsCause}
use Rattle.boot_core.specs.Refusals.{IsCause, commit_refusal}
use Rattle.boot_core.specs.declared.refusals.CommitRefusal.{CommitRefusal}
use Rattle.boot_core.specs.declared.refusals.CommitRefusal.TheVariants as commits
use Rattle.container_core.specs.Container.{ContainerValue, RefusalLeaves}
use Rattle.container_core.specs.declared.history.Event.{Event}
use Rattle.journal_model.specs.Calls.{Call}
use Rattle.scenario_text.specs.Answer.{Answer, Done}
use Rattle.seat_lines.specs.Site.{SeatsState}
use Rattle.session_steps.specs.Sessions.{SessionsState}
use Rattle.line_steps.specs.Callers.{caller_at, ended}
use Rattle.line_steps.specs.Texts.{commit_refusal_text}
use Rattle.line_steps.specs.declared.callers.Caller.{Caller}
use Rattle.line_steps.specs.declared.callers.Caller.TheVariants.{Live}
use Rattle.scenario_engine.specs.KeeperCalls.{KeeperCall, Failed, KeeperSeen, seen, AreMade}
use Rattle.scenario_engine.specs.Running.{since_refused, with_keeper, boot_refusal, commit_ends, caller_commits, commit_step, keep_calls, caller_calls, commit_calls}
use Rattle.scenario_engine.specs.State.{RunningState}
use Rattle.scenario_engine.specs.Telling.{Commits, CommitsPartly}
use Rattle.scenario_engine.proofs.Calls.{counted_unfailed, counted_failed, all_made}
use Rattle.scenario_engine.proofs.Rebooting.{run_of}

-- what the keeper did with the writes of a commit that the boot refuses so, and how the commit ends
record Meets (refusal : Option CommitRefusal) (writes : List RowWrite) (last : Option CommitRefusal) (old new : KeeperSeen) : Type 0 where
  keeps : Bool
  ends : last ≡ with_keeper refusal writes keeps
  made : AreMade (keep_calls refusal writes keeps) old new

faulted : (writes : List RowWrite) (old new : KeeperSeen) → TellsCause commits.KeeperFailed writes old.told new.told → old.faults ≤ new.faults → Rose old.faults new.faults → Meets None writes (Some commits.KeeperFailed) old new
faulted [] old new (some, tells) count rose = absurd (some refl)
faulted (w ∷ ws) old new (some, tells) count rose = record { keeps = false; ends = refl; made = record { told = (new.told, tells, refl); counted = counted_failed _ old.faults new.faults count rose } }

-- no call was made
not_asked : (old new : KeeperSeen) → new.told ≡ old.told → old.faults ≤ new.faults → AreMade [] old new
not_asked old new is count = record { told = is; counted = counted_unfailed [] old.faults new.faults refl count }

-- a refusal of the boot, before the keeper is called
tested : (cause : CommitRefusal) (writes : List RowWrite) (old new : KeeperSeen) → new.told ≡ old.told → old.faults ≤ new.faults → Meets (Some cause) writes (Some cause) old new
tested cause writes old new is count = record { keeps = true; ends = refl; made = not_asked old new is count }

-- what is known of the keeper after a commit that was refused for this cause
pub record IsAsked (cause : CommitRefusal) (writes : List RowWrite) (old new : KeeperSeen) : Type 0 where
  pub told : TellsCause cause writes old.told new.told
  pub count : old.faults ≤ new.faults
  pub failed : cause ≡ commits.KeeperFailed → Rose old.faults new.faults

refused : (refusal : Option CommitRefusal) (cause : CommitRefusal) (writes : List RowWrite) (old new : KeeperSeen) → cause ≢ commits.OutOfMemory → IsCause refusal cause → IsAsked cause writes old new → Meets refusal writes (Some cause) old new
refused refusal commits.KeeperFailed writes old new memory is asked = subst (λ o. Meets o writes (Some commits.KeeperFailed) old new) (sym is) (faulted writes old new asked.told asked.count (asked.failed refl))
refused refusal commits.OutOfMemory writes old new memory is asked = absurd (memory refl)
refused refusal (commits.Already place) writes old new memory is asked = subst (λ o. Meets o writes (Some (commits.Already place)) old new) (sym is) (tested (commits.Already place) writes old new asked.told asked.count)
refused refusal (commits.Revoked s) writes old new memory is asked = subst (λ o. Meets o writes (Some (commits.Revoked s)) old new) (sym is) (tested (commits.Revoked s) writes old new asked.told asked.count)
refused refusal (commits.Conflict c) writes old new memory is asked = subst (λ o. Meets o writes (Some (commits.Conflict c)) old new) (sym is) (tested (commits.Conflict c) writes old new asked.told asked.count)
refused refusal (commits.JournalFull full) writes old new memory is asked = subst (λ o. Meets o writes (Some (commits.JournalFull full)) old new) (sym is) (tested (commits.JournalFull full) writes old new asked.told asked.count)

-- the commit of a live call
commit_of : (r : RunningState) (caller : ℕ) (ticket : TicketValue) (keeps : Bool) → caller_at r.callers caller ≡ Live ticket → commit_ends r caller ticket (with_keeper (boot_refusal r ticket) ticket.call.writes keeps) ≡ commit_step r caller keeps
unfolding commit_step
commit_of r caller ticket keeps live = ap (λ (a : Caller). caller_commits r caller keeps a) (sym live)

calls_of : (r : RunningState) (caller : ℕ) (ticket : TicketValue) (keeps : Bool) → caller_at r.callers caller ≡ Live ticket → keep_calls (boot_refusal r ticket) ticket.call.writes keeps ≡ commit_calls r caller keeps
unfolding commit_calls
calls_of r caller ticket keeps live = ap (λ (a : Caller). caller_calls r keeps a) (sym live)

commits_so : (r : RunningState) (caller : ℕ) (ticket : TicketValue) (ends : Option CommitRefusal) (answer : Answer RunningState) (old new : KeeperSeen) → caller_at r.callers caller ≡ Live ticket → Meets (boot_refusal r ticket) ticket.call.writes ends old new → answer ≡ commit_ends r caller ticket ends → Commits r caller answer old new
commits_so r caller ticket ends answer old new live meets is =
    let P : List KeeperCall → Type 0 = λ calls. AreMade calls old new in
    record {
      keeps = meets.keeps;
      answers = is ∙ ap (λ o. commit_ends r caller ticket o) meets.ends ∙ commit_of r caller ticket meets.keeps live;
      made = subst P (calls_of r caller ticket meets.keeps live) meets.made;
    }

pub refused_so : (r : RunningState) (caller : ℕ) (ticket : TicketValue) (cause : CommitRefusal) (answer : Answer RunningState) (old new : KeeperSeen) → caller_at r.callers caller ≡ Live ticket → cause ≢ commits.OutOfMemory → IsCause (boot_refusal r ticket) cause → IsAsked cause ticket.call.writes old new → answer ≡ commit_ends r caller ticket (Some cause) → Commits r caller answer old new
refused_so r caller ticket cause answer old new live memory is asked answers =
    commits_so r caller ticket (Some cause) answer old new live (refused (boot_refusal r ticket) cause ticket.call.writes old new memory is asked) answers

-- what the keeper was asked by a commit that was refused, as by one whose writes it does not keep
unkept_calls : (refusal : Option CommitRefusal) (cause : CommitRefusal) (writes : List RowWrite) (old new : KeeperSeen) → cause ≢ commits.OutOfMemory → IsCause refusal cause → IsAsked cause writes old new → AreMade (keep_calls refusal writes false) old new
unkept_calls refusal commits.KeeperFailed writes old new memory is asked = subst (λ o. AreMade (keep_calls o writes false) old new) (sym is) (go writes asked.told)
  where
    go : (writes : List RowWrite) → TellsCause commits.KeeperFailed writes old.told new.told → AreMade (keep_calls None writes false) old new
    go [] (some, tells) = absurd (some refl)
    go (w ∷ ws) (some, tells) = record { told = (new.told, tells, refl); counted = counted_failed _ old.faults new.faults asked.count (asked.failed refl) }
unkept_calls refusal commits.OutOfMemory writes old new memory is asked = absurd (memory refl)
unkept_calls refusal (commits.Already place) writes old new memory is asked = subst (λ o. AreMade (keep_calls o writes false) old new) (sym is) (not_asked old new asked.told asked.count)
unkept_calls refusal (commits.Revoked s) writes old new memory is asked = subst (λ o. AreMade (keep_calls o writes false) old new) (sym is) (not_asked old new asked.told asked.count)
unkept_calls refusal (commits.Conflict c) writes old new memory is asked = subst (λ o. AreMade (keep_calls o writes false) old new) (sym is) (not_asked old new asked.told asked.count)
unkept_calls refusal (commits.JournalFull full) writes old new memory is asked = subst (λ o. AreMade (keep_calls o writes false) old new) (sym is) (not_asked old new asked.told asked.count)

-- a commit with writes that the boot does not refuse calls the keeper
asks : (refusal : Option CommitRefusal) (writes : List RowWrite) → refusal ≡ None → writes ≢ [] → keep_calls refusal writes false ≢ []
asks refusal writes none some = subst (λ o. keep_calls o writes false ≢ []) (sym none) (go writes some)
  where
    go : (writes : List RowWrite) → writes ≢ [] → keep_calls None writes false ≢ []
    go [] some = absurd (some refl)
    go (w ∷ ws) some = λ none. cc

-- memory ran out before the keeper had the writes
no_memory : (r : RunningState) (caller : ℕ) (ticket : TicketValue) (old new : KeeperSeen) → caller_at r.callers caller ≡ Live ticket → boot_refusal r ticket ≡ None → TellsCause commits.OutOfMemory ticket.call.writes old.told new.told → old.faults ≤ new.faults → CommitsPartly r caller old new
no_memory r caller ticket old new live none tells count = record {
  made = [];
  more = commit_calls r caller false;
  begins = refl;
  between = old.told;
  told = refl;
  last = go tells;
  counted = counted_unfailed [] old.faults new.faults refl count;
}
  where
    go : TellsCause commits.OutOfMemory ticket.call.writes old.told new.told → (new.told ≡ old.told) ⊎ ((commit_calls r caller false ≢ []) × TellsRefusal faults.OutOfMemory old.told new.told)
    go (inl is) = inl is
    go (inr (some, tells)) = inr (subst (λ (cs : List KeeperCall). cs ≢ []) (calls_of r caller ticket false live) (asks (boot_refusal r ticket) ticket.call.writes none some), tells)

-- memory ran out for what a refused commit writes
no_text : (r : RunningState) (caller : ℕ) (ticket : TicketValue) (cause : CommitRefusal) (old new : KeeperSeen) → caller_at r.callers caller ≡ Live ticket → cause ≢ commits.OutOfMemory → IsCause (boot_refusal r ticket) cause → IsAsked cause ticket.call.writes old new → CommitsPartly r caller old new
no_text r caller ticket cause old new live memory is asked =
    let P : List KeeperCall → Type 0 = λ calls. AreMade calls old new in
    all_made (commit_calls r caller false) old new (subst P (calls_of r caller ticket false live) (unkept_calls (boot_refusal r ticket) cause ticket.call.writes old new memory is asked))

pub refused_partly : (r : RunningState) (caller : ℕ) (ticket : TicketValue) (cause : CommitRefusal) (old new : KeeperSeen) → caller_at r.callers caller ≡ Live ticket → IsCause (boot_refusal r ticket) cause → IsAsked cause ticket.call.writes old new → CommitsPartly r caller old new
refused_partly r caller ticket commits.OutOfMemory old new live is asked = no_memory r caller ticket old new live is asked.told asked.count
refused_partly r caller ticket commits.KeeperFailed old new live is asked = no_text r caller ticket commits.KeeperFailed old new live (λ i. cc) is asked
refused_partly r caller ticket (commits.Already place) old new live is asked = no_text r caller ticket (commits.Already place) old new live (λ i. cc) is asked
refused_partly r caller ticket (commits.Revoked s) old new live is asked = no_text r caller ticket (commits.Revoked s) old new live (λ i. cc) is asked
refused_partly r caller ticket (commits.Conflict c) old new live is asked = no_text r caller ticket (commits.Conflict c) old new live (λ i. cc) is asked
refused_partly r caller ticket (commits.JournalFull full) old new live is asked = no_text r caller ticket (commits.JournalFull full) old new live (λ i. cc) is asked

-- over a container

-- what a refused commit leaves of the boot and its history
left_of : (cause : CommitRefusal) (call : Call) (old new : ContainerValue) → RefusalLeaves cause call old new → (new.boot ≡ old.boot) × (new.since ≡ since_refused old.since call.request cause)
left_of commits.KeeperFailed call old new leaves = leaves
left_of commits.OutOfMemory call old new leaves = leaves
left_of (commits.Already place) call old new leaves = (ap (λ (k : ContainerValue). k.boot) leaves, ap (λ (k : ContainerValue). k.since) leaves)
left_of (commits.Revoked s) call old new leaves = (ap (λ (k : ContainerValue). k.boot) leaves, ap (λ (k : ContainerValue). k.since) leaves)
left_of (commits.Conflict c) call old new leaves = (ap (λ (k : ContainerValue). k.boot) leaves, ap (λ (k : ContainerValue). k.since) leaves)
left_of (commits.JournalFull full) call old new leaves = (ap (λ (k : ContainerValue). k.boot) leaves, ap (λ (k : ContainerValue). k.since) leaves)

pub asked_of : (cause : CommitRefusal) (call : Call) (k n : ContainerValue) → RefusalLeaves cause call k n × TellsCause cause call.writes k.told n.told → k.faults ≤ n.faults → (cause ≡ commits.KeeperFailed → Rose k.faults n.faults) → IsAsked cause call.writes (seen k.told k.faults) (seen n.told n.faults)
asked_of cause call k n leaves count failed = record { told = leaves.1; count = count; failed = failed }

pub refused_in : (k n : ContainerValue) (callers taken : List Caller) (sessions : SessionsState) (seats : SeatsState) (site : Bool) (caller : ℕ) (ticket : TicketValue) (cause : CommitRefusal) (text : List ℕ) → caller_at callers caller ≡ Live ticket → cause ≢ commits.OutOfMemory → IsCause (commit_refusal k.boot.start.limits k.boot.entries ticket.call None) cause → RefusalLeaves cause ticket.call k n × TellsCause cause ticket.call.writes k.told n.told → k.faults ≤ n.faults → (cause ≡ commits.KeeperFailed → Rose k.faults n.faults) → taken ≡ ended callers caller → text ≡ commit_refusal_text caller cause → Commits (run_of k callers sessions seats site) caller (Done (run_of n taken sessions seats site) text) (seen k.told k.faults) (seen n.told n.faults)
refused_in k n callers taken sessions seats site caller ticket cause text live memory is leaves count failed took wrote =
    let r = run_of k callers sessions seats site in
    let left = left_of cause ticket.call k n leaves.0 in
    let over : BootValue → List Event → List Caller → RunningState = λ boot since cs. record { boot = boot; since = since; callers = cs; sessions = sessions; seats = seats; site = site } in
    let answers : Done (run_of n taken sessions seats site) text ≡ commit_ends r caller ticket (Some cause) =
    ap (λ (b : BootValue). Done (over b n.since taken) text) left.0
    ∙ ap (λ (es : List Event). Done (over k.boot es taken) text) left.1
    ∙ ap (λ (cs : List Caller). Done (over k.boot (since_refused k.since ticket.call.request cause) cs) text) took
    ∙ ap (λ t. Done (over k.boot (since_refused k.since ticket.call.request cause) (ended callers caller)) t) wrote in
    refused_so r caller ticket cause _ (seen k.told k.faults) (seen n.told n.faults) live memory is (asked_of cause ticket.call k n leaves count failed) answers

-- a commit that is told that the keeper failed, and not refused by its boot, made one call, which failed
pub called_where_failed : (r : RunningState) (caller : ℕ) (ticket : TicketValue) (keeps : Bool) → caller_at r.callers caller ≡ Live ticket → boot_refusal r ticket ≡ None → with_keeper None ticket.call.writes keeps ≡ Some commits.KeeperFailed → commit_calls r caller keeps ≡ Failed ∷ []
called_where_failed r caller ticket keeps live none failed =
    sym (calls_of r caller ticket keeps live) ∙ ap (λ o. keep_calls o ticket.call.writes keeps) none ∙ go ticket.call.writes keeps failed
  where
    go : (writes : List RowWrite) (keeps : Bool) → with_keeper None writes keeps ≡ Some commits.KeeperFailed → keep_calls None writes keeps ≡ Failed ∷ []
    go [] keeps failed = absurd (cc)
    go (w ∷ ws) true failed = absurd (cc)
    go (w ∷ ws) false failed = refl
