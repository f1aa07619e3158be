-- What a request makes of the answer to its commit.
use Rattle.std.specs.Prelude.{IfErr, IfOk, IfSome, OnErr, Result, Ok, Err}
use Rattle.std.proofs.Common.{◌≡◌, ℕ, Bool, inl, inr, List, Option, Some, sym, ap, ◌∙◌, subst}
use Rattle.std.proofs.lemmas.Result.{IfOk-weaker}
use Rattle.crash_base.specs.declared.memory.OutOfMemory.{OutOfMemory}
use Rattle.crash_base.specs.declared.numbers.ComponentNo.{ComponentNo}
use Rattle.crash_base.specs.declared.numbers.Place.{Place}
use Rattle.crash_base.specs.declared.rows.RowWrite.{RowWrite}
use Rattle.journal_model.specs.declared.entry.ActionEntry.{ActionEntry}
use Rattle.journal_model.specs.declared.entry.DoneText.{DoneText}
use Rattle.journal_model.specs.declared.entry.Entry.{Entry}
use Rattle.journal_model.specs.Calls.{Call}
use Rattle.outside.specs.Faults.{Rose}
use Rattle.call_ticket.specs.Ticket.{TicketValue}
use Rattle.boot_core.specs.Keeper.{TellsCause}
use Rattle.boot_core.specs.Refusals.{CommitAnswer, commit_refusal}
use Rattle.boot_core.specs.declared.refusals.CommitRefusal.{CommitRefusal}
use Rattle.boot_core.specs.declared.refusals.CommitRefusal.TheVariants as commits
use Rattle.boot_core.specs.declared.refusals.Refused.{Refused}
use Rattle.container_core.specs.Container.{ContainerValue, CommitLeaves, RefusalLeaves}
use Rattle.call_attempts.specs.Attempt.{AttemptValue}
use Rattle.call_attempts.specs.declared.stop.Stop.{Stop}
use Rattle.request_tries.specs.Serving.{TriesValue, closed}
use Rattle.request_tries.specs.Steps.{AddsNothing, CauseAddsNothing, CommitsAs, CommitsTry, HearsCommit, IsStopped, KeepsHistory, KeepsNothing, front_at}
use Rattle.request_tries.specs.declared.outcome.Ended.{Ended}
use Rattle.request_tries.specs.declared.outcome.HistoryFront.{HistoryFront}

-- what a commit of these was answered, and what it left, as the code has them in hand
pub record WasAnswered (old new : ContainerValue) (s : TriesValue) (a : AttemptValue) (ticket : TicketValue) (text : List ℕ) (at : Place) (repeats : Bool) (done : DoneText) (answer : Result Place Refused) : Type 0 where
  pub was_open : s.attempt ≡ Some a
  pub ticket_is : ticket ≡ a.ticket
  pub repeats_is : repeats ≡ a.repeats
  pub text_is : text ≡ s.text
  pub at_is : at ≡ ticket.call.at
  pub is_answer : CommitAnswer (commit_refusal old.boot.start.limits old.boot.entries ticket.call (Some (record { text = text; done = done }))) answer
  pub leaves : CommitLeaves ticket.call (Some (record { text = text; done = done })) answer old new
  pub failed : IfErr answer (λ refused. refused.cause ≡ commits.KeeperFailed → Rose old.faults new.faults)

-- the request heard it
hears : (old new : ContainerValue) (s after : TriesValue) (a : AttemptValue) (ticket : TicketValue) (text : List ℕ) (at : Place) (repeats : Bool) (done : DoneText) (answer : Result Place Refused) (now : HistoryFront) (es : List Entry) (end : Option Ended)
    → WasAnswered old new s a ticket text at repeats done answer → now ≡ front_at new → es ≡ new.boot.entries
    → HearsCommit now es (closed s) at repeats answer end after → CommitsTry old s a done end new after
hears old new s after a ticket text at repeats done answer now es end h is_now is_es heard =
    let began : at ≡ a.ticket.call.at = h.at_is ∙ ap (λ (t : TicketValue). t.call.at) h.ticket_is in
    let Answers : TicketValue → List ℕ → Type 0 = λ t x. CommitAnswer (commit_refusal old.boot.start.limits old.boot.entries t.call (Some (record { text = x; done = done }))) answer in
    let Leaves : TicketValue → List ℕ → Type 0 = λ t x. CommitLeaves t.call (Some (record { text = x; done = done })) answer old new in
    record {
      answer = answer;
      is_answer = subst (λ (x : List ℕ). Answers a.ticket x) h.text_is (subst (λ (t : TicketValue). Answers t text) h.ticket_is h.is_answer);
      leaves = subst (λ (x : List ℕ). Leaves a.ticket x) h.text_is (subst (λ (t : TicketValue). Leaves t text) h.ticket_is h.leaves);
      failed = h.failed;
      hears = subst (λ (n : HistoryFront). HearsCommit n new.boot.entries (closed s) a.ticket.call.at a.repeats answer end after) is_now
          (subst (λ (xs : List Entry). HearsCommit now xs (closed s) a.ticket.call.at a.repeats answer end after) is_es
          (subst (λ (p : Place). HearsCommit now es (closed s) p a.repeats answer end after) began
          (subst (λ (b : Bool). HearsCommit now es (closed s) at b answer end after) h.repeats_is heard)));
    }

-- the same of a result
pub may_hear : (old new : ContainerValue) (s mid after : TriesValue) (a : AttemptValue) (ticket : TicketValue) (text : List ℕ) (at : Place) (repeats : Bool) (done : DoneText) (answer : Result Place Refused) (now : HistoryFront) (es : List Entry) (result : Result (Option Ended) OutOfMemory)
    → WasAnswered old new s a ticket text at repeats done answer → mid ≡ closed s → now ≡ front_at new → es ≡ new.boot.entries
    → IfOk result (λ end. HearsCommit now es mid at repeats answer end after) → IfOk result (λ end. CommitsAs old s s.attempt done end new after)
may_hear old new s mid after a ticket text at repeats done answer now es result h is_mid is_now is_es heard =
    IfOk-weaker result (λ end. HearsCommit now es mid at repeats answer end after) (λ end. CommitsAs old s s.attempt done end new after)
    (λ end it. subst (λ (o : Option AttemptValue). CommitsAs old s o done end new after) (sym h.was_open)
    (hears old new s after a ticket text at repeats done answer now es end h is_now is_es (subst (λ (m : TriesValue). HearsCommit now es m at repeats answer end after) is_mid it))) heard

-- a refused commit that adds nothing
keeps : (call : Call) (old new : ContainerValue) (why : CommitRefusal) → CauseAddsNothing why → RefusalLeaves why call old new → KeepsHistory old new
keeps call old new commits.KeeperFailed nothing left = absurd nothing
keeps call old new commits.OutOfMemory nothing left = left
keeps call old new (commits.Already place) nothing left = (ap (λ (c : ContainerValue). c.boot) left, ap (λ (c : ContainerValue). c.since) left)
keeps call old new (commits.Revoked s) nothing left = (ap (λ (c : ContainerValue). c.boot) left, ap (λ (c : ContainerValue). c.since) left)
keeps call old new (commits.Conflict x) nothing left = (ap (λ (c : ContainerValue). c.boot) left, ap (λ (c : ContainerValue). c.since) left)
keeps call old new (commits.JournalFull full) nothing left = (ap (λ (c : ContainerValue). c.boot) left, ap (λ (c : ContainerValue). c.since) left)

keeps_history : (call : Call) (action : Option ActionEntry) (answer : Result Place Refused) (old new : ContainerValue) → AddsNothing answer → CommitLeaves call action answer old new → KeepsHistory old new
keeps_history call action (Ok place) old new nothing left = absurd nothing
keeps_history call action (Err refused) old new nothing left = keeps call old new refused.cause nothing left.0

-- where memory ran out after it
pub may_keep : (call : Call) (action : Option ActionEntry) (answer : Result Place Refused) (old new : ContainerValue) (result : Result (Option Ended) OutOfMemory)
    → OnErr result (AddsNothing answer) → CommitLeaves call action answer old new → OnErr result (KeepsHistory old new)
may_keep call action answer old new (Ok end) nothing left = tt
may_keep call action answer old new (Err e) nothing left = keeps_history call action answer old new nothing left

-- what the keeper tells after a refused commit that adds nothing
keeps_nothing : (writes : List RowWrite) (why : CommitRefusal) (old new : ContainerValue) → CauseAddsNothing why → TellsCause why writes old.told new.told → KeepsNothing old new
keeps_nothing writes commits.KeeperFailed old new nothing tells = absurd nothing
keeps_nothing writes commits.OutOfMemory old new nothing (inl is) = inl is
keeps_nothing writes commits.OutOfMemory old new nothing (inr (some, tells)) = inr tells
keeps_nothing writes (commits.Already place) old new nothing tells = inl tells
keeps_nothing writes (commits.Revoked s) old new nothing tells = inl tells
keeps_nothing writes (commits.Conflict x) old new nothing tells = inl tells
keeps_nothing writes (commits.JournalFull full) old new nothing tells = inl tells

-- where memory ran out after it
pub may_keep_nothing : (call : Call) (action : Option ActionEntry) (answer : Result Place Refused) (old new : ContainerValue) (result : Result (Option Ended) OutOfMemory)
    → OnErr result (AddsNothing answer) → CommitLeaves call action answer old new → OnErr result (KeepsNothing old new)
may_keep_nothing call action answer old new (Ok end) nothing left = tt
may_keep_nothing call action (Ok place) old new (Err e) nothing left = absurd nothing
may_keep_nothing call action (Err refused) old new (Err e) nothing left =
    keeps_nothing call.writes refused.cause old new nothing left.1

-- A request hears that its open attempt was stopped.
pub may_stop : (old : ContainerValue) (s mid after : TriesValue) (a : AttemptValue) (ticket : TicketValue) (at : Place) (repeats : Bool) (entered : List ComponentNo) (now : HistoryFront) (stop : Stop) (result : Result (Option Ended) OutOfMemory)
    → s.attempt ≡ Some a → ticket ≡ a.ticket → at ≡ ticket.call.at → repeats ≡ a.repeats → entered ≡ a.entered → mid ≡ closed s → now ≡ front_at old
    → IfOk result (λ end. IsStopped now mid at repeats entered stop end after) → IfOk result (λ end. IfSome s.attempt (λ b. IsStopped (front_at old) (closed s) b.ticket.call.at b.repeats b.entered stop end after))
may_stop old s mid after a ticket at repeats entered now stop result was is_ticket is_at is_repeats is_entered is_mid is_now stopped =
    let began : at ≡ a.ticket.call.at = is_at ∙ ap (λ (t : TicketValue). t.call.at) is_ticket in
    let there : IfOk result (λ end. IsStopped (front_at old) (closed s) a.ticket.call.at a.repeats a.entered stop end after) =
    subst (λ (n : HistoryFront). IfOk result (λ end. IsStopped n (closed s) a.ticket.call.at a.repeats a.entered stop end after)) is_now
    (subst (λ (m : TriesValue). IfOk result (λ end. IsStopped now m a.ticket.call.at a.repeats a.entered stop end after)) is_mid
    (subst (λ (p : Place). IfOk result (λ end. IsStopped now mid p a.repeats a.entered stop end after)) began
    (subst (λ (f : Bool). IfOk result (λ end. IsStopped now mid at f a.entered stop end after)) is_repeats
    (subst (λ (cs : List ComponentNo). IfOk result (λ end. IsStopped now mid at repeats cs stop end after)) is_entered stopped)))) in
    subst (λ (o : Option AttemptValue). IfOk result (λ end. IfSome o (λ b. IsStopped (front_at old) (closed s) b.ticket.call.at b.repeats b.entered stop end after))) (sym was) there
