-- A try that nothing hinders goes on, may be made again, or ends its request as a page.
use Rattle.std.specs.Prelude.{IfErr, IfSome, Result, Ok, Err}
use Rattle.std.proofs.Common.{arith, ◌≡◌, ◌↔◌, ◌⊎◌, ◌+◌, ◌<◌, ◌≤◌, ℕ, Bool, true, false, List, length, Option, Some, None, inl, inr, refl, sym, ap, subst, ◌∙◌}
use Rattle.crash_base.specs.declared.fault_plans.FaultKind.{FaultKind}
use Rattle.crash_base.specs.declared.fault_plans.FaultKind.TheVariants.{Hang, Raise}
use Rattle.crash_base.specs.declared.numbers.ComponentNo.{ComponentNo}
use Rattle.crash_base.specs.declared.numbers.GroupNo.{GroupNo}
use Rattle.crash_base.specs.declared.numbers.Place.{Place}
use Rattle.deployment.specs.Groups.{group_no, group_of}
use Rattle.journal_model.specs.declared.entry.ActionEntry.{ActionEntry}
use Rattle.journal_model.specs.declared.entry.DoneText.{DoneText}
use Rattle.journal_model.specs.declared.entry.Entry.{Entry}
use Rattle.journal_model.specs.declared.entry.Entry.TheVariants.{Commit}
use Rattle.journal_model.specs.declared.limits.JournalLimits.{JournalLimits}
use Rattle.journal_model.specs.declared.stale.Stale.{Stale}
use Rattle.journal_model.specs.Calls.{Call, entry_of}
use Rattle.journal_model.specs.Conflicts.{conflict_of}
use Rattle.journal_model.specs.Limits.{entry_bytes, full_for}
use Rattle.journal_model.specs.Reboots.{down_of}
use Rattle.journal_model.specs.Requests.{commit_of}
use Rattle.journal_model.specs.Stale.{stale_in}
use Rattle.outside.specs.Faults.{Rose}
use Rattle.call_ticket.specs.declared.next.Answer.{Answer}
use Rattle.call_ticket.specs.declared.next.Next.{Next}
use Rattle.call_ticket.specs.declared.next.Next.TheVariants as next
use Rattle.boot_core.specs.Boot.{BootValue}
use Rattle.boot_core.specs.Faults.{fault_of}
use Rattle.boot_core.specs.Refusals.{CommitAnswer, IsCause, IsFirstOf, commit_refusal}
use Rattle.boot_core.specs.declared.refusals.CommitRefusal.{CommitRefusal}
use Rattle.boot_core.specs.declared.refusals.CommitRefusal.TheVariants as commits
use Rattle.boot_core.specs.declared.refusals.Refused.{Refused}
use Rattle.container_core.specs.Container.{ContainerValue, with_boot}
use Rattle.call_attempts.specs.Attempt.{AttemptValue, Continues, HasStepped, boot_left, wanted}
use Rattle.call_attempts.specs.Stops.{failure, stop_of}
use Rattle.call_attempts.specs.declared.attempt.Stepped.{Stepped}
use Rattle.call_attempts.specs.declared.attempt.Stepped.TheVariants as coming
use Rattle.call_attempts.specs.declared.stop.Stop.{Stop}
use Rattle.call_attempts.specs.declared.stop.Stop.TheVariants as stops
use Rattle.request_tries.specs.Ends.{done_at}
use Rattle.request_tries.specs.Serving.{TriesValue, closed}
use Rattle.request_tries.specs.Steps.{CommitsTry, ComesTo, EndsTry, HearsCommit, IsRefused, IsStopped, StepsAs, action_of, ended_at, from_of, front_at, progress_of, refusal_of}
use Rattle.request_tries.specs.declared.outcome.Ended.{Ended}
use Rattle.request_tries.specs.declared.outcome.HistoryFront.{HistoryFront}
use Rattle.request_tries.specs.declared.outcome.Progress.{Progress}
use Rattle.request_tries.specs.declared.outcome.Progress.TheVariants as progress
use Rattle.request_tries.specs.declared.outcome.RequestOutcome.TheVariants.{Page}
use Rattle.request_tries.specs.declared.outcome.TheConstants.{MAX_TRIES}
use Rattle.request_tries.specs.declared.outcome.TryCause.{TryCause}
use Rattle.request_tries.specs.declared.outcome.TryCause.TheVariants as cause
use Rattle.unhindered_requests.specs.Tries.{IsFree, Works}

-- the law of what refuses a commit
abbrev pub RefusedInOrder : Type 0
RefusedInOrder = (limits : JournalLimits) (es : List Entry) (call : Call) (action : Option ActionEntry) (why : CommitRefusal)
    → (commit_refusal limits es call action ≡ Some why) ↔ IsFirstOf (commit_of es call.request) (stale_in es call.touched) (conflict_of es call) (full_for limits es 1 (entry_bytes (Commit (entry_of call action)))) why

-- the laws of what stops a step
pub record StopsAlone : Type 0 where
  pub revoked : (b : BootValue) (call : Call) (x : Next) (shown : Stale) → (stop_of b call x ≡ Some (stops.Revoked shown)) ↔ (stale_in b.entries call.touched ≡ Some shown)
  pub sentinel : (b : BootValue) (call : Call) (x : Next) (group : GroupNo) (down : Place)
      → (stop_of b call x ≡ Some (stops.Sentinel group down))
      ↔ ((stale_in b.entries call.touched ≡ None)
      × ((c : ComponentNo) × (m : ℕ) × (x ≡ next.Enter c m) × (group ≡ group_no (group_of b.start.deployment c.0)) × (down_of b.entries (group_of b.start.deployment c.0) ≡ Some down)))
  pub hung : (b : BootValue) (call : Call) (x : Next) (c : ComponentNo) (fault : ℕ)
      → (stop_of b call x ≡ Some (stops.Hung c fault))
      ↔ ((stale_in b.entries call.touched ≡ None)
      × ((m : ℕ) × (x ≡ next.Enter c m) × (down_of b.entries (group_of b.start.deployment c.0) ≡ None) × (fault_of b c ≡ Some (fault, Hang))))
  pub raised : (b : BootValue) (call : Call) (x : Next) (c : ComponentNo) (fault : ℕ)
      → (stop_of b call x ≡ Some (stops.Raised c fault))
      ↔ ((stale_in b.entries call.touched ≡ None)
      × ((m : ℕ) × (x ≡ next.Enter c m) × (down_of b.entries (group_of b.start.deployment c.0) ≡ None) × (fault_of b c ≡ Some (fault, Raise))))

-- an end is a page, if it is one
abbrev pub EndsAsPage : Option Ended → Type 0
EndsAsPage None = Unit {0}
EndsAsPage (Some e) = (place : Place) × (again : Bool) × (e.outcome ≡ Page place again)

ends_so : (now : HistoryFront) (from : Place) (place : Place) (again : Bool) (copied : Option DoneText) (end : Option Ended) → end ≡ Some (ended_at now from (Page place again) copied) → EndsAsPage end
ends_so now from place again copied end is = subst EndsAsPage (sym is) (place, again, refl)

-- a try that may be made again has not ended its request
made_again : (now : HistoryFront) (s after : TriesValue) (at : Place) (why : TryCause) (repeats : Bool) (end : Option Ended) → length s.tries + 1 < MAX_TRIES → repeats ≡ true → EndsTry now (closed s) at why repeats end after → end ≡ None
made_again now s after at why repeats None few may ends = refl
made_again now s after at why repeats (Some e) few may ends = go ends.0
  where
    go : (MAX_TRIES ≤ length s.tries + 1) ⊎ (repeats ≡ false) → Some e ≡ None
    go (inl many) = absurd (omega (arith, few, many))
    go (inr single) = absurd (let yes = may in cc)

none_ends : (end : Option Ended) → end ≡ None → EndsAsPage end
none_ends end is = subst EndsAsPage (sym is) tt

-- the commit of a try that nothing hinders
pub commits_well : (law : RefusedInOrder) (old new : ContainerValue) (asks : List Answer → Next) (s after : TriesValue) (a : AttemptValue) (done : DoneText) (end : Option Ended)
    → IsFree asks old s a → wanted asks a ≡ next.Done done → (Rose old.faults new.faults → ⊥) → CommitsTry old s a done end new after → EndsAsPage end
commits_well law old new asks s after a done end free is keeps made = heard made.answer made.is_answer made.failed made.hears
  where
    from : Place
    from = from_of (closed s) a.ticket.call.at

    first : (why : CommitRefusal) → refusal_of old s a done ≡ Some why
        → IsFirstOf (commit_of old.boot.entries a.ticket.call.request) (stale_in old.boot.entries a.ticket.call.touched) (conflict_of old.boot.entries a.ticket.call) (full_for old.boot.start.limits old.boot.entries 1 (entry_bytes (Commit (entry_of a.ticket.call (action_of s done))))) why
    first why = (law old.boot.start.limits old.boot.entries a.ticket.call (action_of s done) why).0

    refused : (why : CommitRefusal) → IsCause (refusal_of old s a done) why → (why ≡ commits.KeeperFailed → Rose old.faults new.faults)
        → IsRefused (front_at new) new.boot.entries (closed s) a.ticket.call.at why a.repeats end after → EndsAsPage end
    refused (commits.Already place) why failed h = ends_so (front_at new) from place true (done_at new.boot.entries place) end h
    refused (commits.Revoked shown) why failed h =
        let there = first (commits.Revoked shown) why in
        let may = (free.commit done is there.0).reboots shown there.1 in
        none_ends end (made_again (front_at new) s after a.ticket.call.at (cause.Revoked shown) a.repeats end may.0 may.1 h)
    refused (commits.Conflict conflict) why failed h =
        let there = first (commits.Conflict conflict) why in
        none_ends end (made_again (front_at new) s after a.ticket.call.at (cause.Conflict conflict.mark conflict.newest) true end ((free.commit done is there.0).conflicts conflict there.2) refl h)
    refused (commits.JournalFull full) why failed h =
        let there = first (commits.JournalFull full) why in
        let some = there.3 in
        let room = (free.commit done is there.0).room in
        absurd (cc)
    refused commits.KeeperFailed why failed h = absurd (keeps (failed refl))
    refused commits.OutOfMemory why failed h = absurd h

    heard : (answer : Result Place Refused) → CommitAnswer (refusal_of old s a done) answer → IfErr answer (λ refused. refused.cause ≡ commits.KeeperFailed → Rose old.faults new.faults)
        → HearsCommit (front_at new) new.boot.entries (closed s) a.ticket.call.at a.repeats answer end after → EndsAsPage end
    heard (Ok place) why failed h = ends_so (front_at new) from place false None end h
    heard (Err r) why failed h = refused r.cause why failed h

-- A step leaves the request to go on, or has found its program done, and nothing changed.
abbrev pub StepsWell : ContainerValue → (List Answer → Next) → TriesValue → Progress → ContainerValue → TriesValue → Type 0
StepsWell c asks s progress.Went new mid = Unit {0}
StepsWell c asks s (progress.Done done) new mid =
    (new ≡ c) × (mid ≡ s) × (a : AttemptValue) × (s.attempt ≡ Some a) × (wanted asks a ≡ next.Done done)
StepsWell c asks s (progress.Ended e) new mid = ⊥

went_well : (c : ContainerValue) (asks : List Answer → Next) (s : TriesValue) (new : ContainerValue) (mid : TriesValue) (to : Progress) → to ≡ progress.Went → StepsWell c asks s to new mid
went_well c asks s new mid to is = subst (λ (p : Progress). StepsWell c asks s p new mid) (sym is) tt

-- a component that works does not hang, and does not fail
works_on : (boot : BootValue) (x : ComponentNo) (fault : ℕ) (kind : FaultKind) → Works boot x → fault_of boot x ≡ Some (fault, kind) → failure x (Some (fault, kind)) ≡ None
works_on boot x fault kind works is = subst (λ (f : Option (ℕ × FaultKind)). failure x f ≡ None) is works

-- a step of an open try that nothing hinders
steps_by : (law : StopsAlone) (c : ContainerValue) (asks : List Answer → Next) (s : TriesValue) (new : ContainerValue) (mid : TriesValue) (a : AttemptValue) (to : Progress)
    → s.attempt ≡ Some a → IsFree asks c s a → StepsAs c asks s (Some a) to new mid → StepsWell c asks s to new mid
steps_by law c asks s new mid a to open_now free steps = go steps.0 steps.1 steps.2 steps.3 steps.4
  where
    by_stop : Continues (wanted asks a) → (stop : Stop) (end : Option Ended) → stop_of c.boot a.ticket.call (wanted asks a) ≡ Some stop → IsStopped (front_at c) (closed s) a.ticket.call.at a.repeats a.entered stop end mid → end ≡ None
    by_stop goes (stops.Sentinel group down) end why h =
        let there = ((law.sentinel c.boot a.ticket.call (wanted asks a) group down).0 why).1 in
        let up = (free.step goes).up there.0 there.1 there.2 in
        let is_down = there.4 in
        absurd (cc)
    by_stop goes (stops.Hung x fault) end why h =
        let there = ((law.hung c.boot a.ticket.call (wanted asks a) x fault).0 why).1 in
        let none = works_on c.boot x fault Hang ((free.step goes).works x there.0 there.1) there.3 in
        absurd (cc)
    by_stop goes (stops.Raised x fault) end why h =
        let there = ((law.raised c.boot a.ticket.call (wanted asks a) x fault).0 why).1 in
        let none = works_on c.boot x fault Raise ((free.step goes).works x there.0 there.1) there.3 in
        absurd (cc)
    by_stop goes (stops.Revoked shown) end why h =
        let may = (free.step goes).reboots shown ((law.revoked c.boot a.ticket.call (wanted asks a) shown).0 why) in
        made_again (front_at c) s mid a.ticket.call.at (cause.Revoked shown) a.repeats end may.0 may.1 h

    go : (came : Stepped) (next : AttemptValue) → HasStepped c.boot asks a came next → ComesTo c asks s a came to mid → new ≡ with_boot c (boot_left c.boot (wanted asks a) came) → StepsWell c asks s to new mid
    go coming.Went next made h left = went_well c asks s new mid to h.0
    go (coming.Done done) next made h left = subst (λ (p : Progress). StepsWell c asks s p new mid) (sym h.0) (left, h.1, a, open_now, made.0)
    go (coming.Stopped stop) next made h left = went_well c asks s new mid to (h.1 ∙ ap progress_of (by_stop made.0 stop h.0 made.1 h.2))

-- a step of a request that nothing hinders
pub steps_well : (law : StopsAlone) (c : ContainerValue) (asks : List Answer → Next) (s : TriesValue) (new : ContainerValue) (mid : TriesValue) (o : Option AttemptValue) (to : Progress)
    → s.attempt ≡ o → IfSome o (λ a. IsFree asks c s a) → StepsAs c asks s o to new mid → StepsWell c asks s to new mid
steps_well law c asks s new mid None to is free steps = went_well c asks s new mid to steps.0
steps_well law c asks s new mid (Some a) to is free steps = steps_by law c asks s new mid a to is free steps
