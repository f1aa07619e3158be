-- What a keeper tells after the step of a request in the container.
use Rattle.std.proofs.Common.{◌≡◌, ◌≢◌, Bool, true, false, List, [], ◌∷◌, Option, Some, None, Result, Ok, Err, refl, sym, ap, ◌∙◌, subst}
use Rattle.boot_core.specs.Keeper.{TellsCause, kept_writes}
use Rattle.boot_core.specs.Refusals.{CommitAnswer, IsCause}
use Rattle.boot_core.specs.declared.refusals.CommitRefusal.{CommitRefusal}
use Rattle.boot_core.specs.declared.refusals.CommitRefusal.TheVariants as commits
use Rattle.boot_core.specs.declared.refusals.Refused.{Refused}
use Rattle.call_attempts.specs.Attempt.{AttemptValue, boot_left, stop_of_attempt, wanted}
use Rattle.call_attempts.specs.declared.attempt.Stepped.{Stepped}
use Rattle.call_attempts.specs.declared.attempt.Stepped.TheVariants as coming
use Rattle.call_ticket.specs.declared.next.Answer.{Answer}
use Rattle.call_ticket.specs.declared.next.Next.{Next}
use Rattle.container_core.specs.Container.{CommitLeaves, ContainerValue, RefusalLeaves, with_boot}
use Rattle.container_core.specs.declared.history.Event.{Event}
use Rattle.container_core.specs.declared.history.Event.TheVariants.{Added, KeeperFailed}
use Rattle.crash_base.specs.declared.numbers.Place.{Place}
use Rattle.crash_base.specs.declared.rows.RowWrite.{RowWrite}
use Rattle.journal_model.specs.Calls.{entry_of}
use Rattle.journal_model.specs.declared.entry.DoneText.{DoneText}
use Rattle.journal_model.specs.declared.entry.Entry.TheVariants.{Commit}
use Rattle.outside.specs.Keeper.{KeeperTold, TellsRefusal}
use Rattle.outside.specs.declared.keeper.KeeperFault.TheVariants as faults
use Rattle.request_tries.specs.Serving.{TriesValue, closed}
use Rattle.request_tries.specs.Steps.{CommitsTry, ComesTo, HearsCommit, IsRefused, StepsAs, action_of, front_at, refusal_of}
use Rattle.request_tries.specs.declared.outcome.Ended.{Ended}
use Rattle.request_tries.specs.declared.outcome.Progress.{Progress}
use Rattle.request_visit.specs.Serving.{GoesOn}
use Rattle.request_visit.specs.Stepping.{ServesWork, VisitsInside}
use Rattle.request_visit.specs.declared.serving.Closing.{Closing}
use Rattle.request_visit.specs.declared.visit.Visit.{Visit}
use Rattle.request_visit.specs.declared.visit.Work.{Work}
use Rattle.request_visit.specs.declared.visit.Work.TheVariants.{Reading, Opening, Serving, Committed, Decided, Answered, Left}
use Rattle.shepherd_steps.specs.Inside.{HasReplied, TellsReply, added_to, came_by, handed, handed_at, handed_by, handed_in, handed_of, kept_in, untold}
use Rattle.shepherd_steps.proofs.Strides.{behind-all, came-so, gave-up, was-done, went-on}

-- the keeper kept the writes that it was handed, or was handed none
kept-told : (writes : List RowWrite) (keeps : Bool) (added : List Event) (old new : Option KeeperTold) → kept_in added ≡ true → HasReplied keeps writes added
    → new ≡ kept_writes writes old → TellsReply writes keeps old new
kept-told [] keeps added old new kept replies tells = tells
kept-told (w ∷ ws) true added old new kept replies tells = tells
kept-told (w ∷ ws) false added old new kept replies tells = absurd (cc)

-- the keeper refused the writes that it was handed
failed-told : (writes : List RowWrite) (keeps : Bool) (added : List Event) (old new : Option KeeperTold) → kept_in added ≡ false → HasReplied keeps writes added
    → writes ≢ [] → TellsRefusal faults.Failed old new → TellsReply writes keeps old new
failed-told [] keeps added old new failed replies some tells = absurd (some refl)
failed-told (w ∷ ws) true added old new failed replies some tells = absurd (cc)
failed-told (w ∷ ws) false added old new failed replies some tells = tells

-- what is handed over where something refuses a commit or nothing does
abbrev ToldBy : Bool → List RowWrite → List Event → Option KeeperTold → Option KeeperTold → Option CommitRefusal → Type 0
ToldBy keeps writes added old new r = HasReplied keeps (handed_by r writes) added → TellsReply (handed_by r writes) keeps old new

commit-told : (old : ContainerValue) (s : TriesValue) (a : AttemptValue) (done : DoneText) (answer : Result Place Refused) (end : Option Ended) (new : ContainerValue) (after : TriesValue) (keeps : Bool)
    → CommitAnswer (refusal_of old s a done) answer → CommitLeaves a.ticket.call (action_of s done) answer old new
    → HearsCommit (front_at new) new.boot.entries (closed s) a.ticket.call.at a.repeats answer end after
    → ToldBy keeps a.ticket.call.writes (added_to old.since new.since) old.told new.told (refusal_of old s a done)
commit-told old s a done (Ok place) end new after keeps is leaves hears =
    let kept : kept_in (added_to old.since new.since) ≡ true =
    ap (λ (es : List Event). kept_in (added_to old.since es)) (ap (λ (c : ContainerValue). c.since) leaves.1)
    ∙ ap kept_in (behind-all old.since (Added (Commit (entry_of a.ticket.call (action_of s done))) ∷ [])) in
    subst (ToldBy keeps a.ticket.call.writes (added_to old.since new.since) old.told new.told) (sym is)
    (λ replies. kept-told a.ticket.call.writes keeps (added_to old.since new.since) old.told new.told kept replies
    (ap (λ (c : ContainerValue). c.told) leaves.1))
commit-told old s a done (Err why) end new after keeps is leaves hears = by why.cause is leaves hears where
  by : (c : CommitRefusal) → IsCause (refusal_of old s a done) c
      → RefusalLeaves c a.ticket.call old new × TellsCause c a.ticket.call.writes old.told new.told
      → IsRefused (front_at new) new.boot.entries (closed s) a.ticket.call.at c a.repeats end after
      → ToldBy keeps a.ticket.call.writes (added_to old.since new.since) old.told new.told (refusal_of old s a done)
  by commits.KeeperFailed none left h =
      let failed : kept_in (added_to old.since new.since) ≡ false =
      ap (λ (es : List Event). kept_in (added_to old.since es)) left.0.1
      ∙ ap kept_in (behind-all old.since (KeeperFailed a.ticket.call.request ∷ [])) in
      subst (ToldBy keeps a.ticket.call.writes (added_to old.since new.since) old.told new.told) (sym none)
      (λ replies. failed-told a.ticket.call.writes keeps (added_to old.since new.since) old.told new.told failed replies left.1.0 left.1.1)
  by commits.OutOfMemory none left h = absurd h
  by (commits.Already place) some left h =
      subst (ToldBy keeps a.ticket.call.writes (added_to old.since new.since) old.told new.told) (sym some) (λ replies. left.1)
  by (commits.Revoked shown) some left h =
      subst (ToldBy keeps a.ticket.call.writes (added_to old.since new.since) old.told new.told) (sym some) (λ replies. left.1)
  by (commits.Conflict conflict) some left h =
      subst (ToldBy keeps a.ticket.call.writes (added_to old.since new.since) old.told new.told) (sym some) (λ replies. left.1)
  by (commits.JournalFull full) some left h =
      subst (ToldBy keeps a.ticket.call.writes (added_to old.since new.since) old.told new.told) (sym some) (λ replies. left.1)

-- the step of an open attempt, by what came of it
attempt-told : (asks : List Answer → Next) (old : ContainerValue) (s : TriesValue) (a : AttemptValue) (came : Stepped) (to : Progress) (between : ContainerValue) (mid : TriesValue) (end : Option Ended) (new : ContainerValue) (after : TriesValue) (keeps : Bool)
    → s.attempt ≡ Some a → ComesTo old asks s a came to mid → between ≡ with_boot old (boot_left old.boot (wanted asks a) came) → GoesOn between mid to end new after
    → HasReplied keeps (handed_at old s a came) (added_to old.since new.since) → TellsReply (handed_at old s a came) keeps old.told new.told
attempt-told asks old s a coming.Went to between mid end new after keeps under comes left goes replies =
    ap (λ (c : ContainerValue). c.told) ((went-on between mid to end new after comes.0 goes).0 ∙ left)
attempt-told asks old s a (coming.Done done) to between mid end new after keeps under comes left goes replies =
    by (was-done old s a done to between mid end new after under comes.0 comes.1 left goes) where
      by : CommitsTry old s a done end new after → TellsReply (handed_by (refusal_of old s a done) a.ticket.call.writes) keeps old.told new.told
      by h = commit-told old s a done h.answer end new after keeps h.is_answer h.leaves h.hears replies
attempt-told asks old s a (coming.Stopped stop) to between mid end new after keeps under comes left goes replies =
    ap (λ (c : ContainerValue). c.told) ((gave-up between mid to comes.0 end new after comes.1 goes).0 ∙ left)

step-told : (asks : List Answer → Next) (old : ContainerValue) (s : TriesValue) (at : Option AttemptValue) (to : Progress) (between : ContainerValue) (mid : TriesValue) (end : Option Ended) (new : ContainerValue) (after : TriesValue) (keeps : Bool)
    → s.attempt ≡ at → StepsAs old asks s at to between mid → GoesOn between mid to end new after
    → HasReplied keeps (handed_in asks (untold old.boot []) s at) (added_to old.since new.since) → TellsReply (handed_in asks (untold old.boot []) s at) keeps old.told new.told
step-told asks old s None to between mid end new after keeps under steps goes replies =
    ap (λ (c : ContainerValue). c.told) ((went-on between mid to end new after steps.0 goes).0 ∙ steps.2)
step-told asks old s (Some a) to between mid end new after keeps under steps goes replies =
    same (came_by (wanted asks a) (stop_of_attempt old.boot asks a)) replies
    (λ r. subst (λ (c : Stepped). HasReplied keeps (handed_at old s a c) (added_to old.since new.since) → TellsReply (handed_at old s a c) keeps old.told new.told)
    (sym (came-so old.boot asks a steps.0 steps.1 steps.2))
    (λ q. attempt-told asks old s a steps.0 to between mid end new after keeps under steps.3 steps.4 goes q) r) where
      same : (came : Stepped) → HasReplied keeps (handed_at (untold old.boot []) s a came) (added_to old.since new.since)
          → (HasReplied keeps (handed_at old s a came) (added_to old.since new.since) → TellsReply (handed_at old s a came) keeps old.told new.told)
          → TellsReply (handed_at (untold old.boot []) s a came) keeps old.told new.told
      same coming.Went r so = so r
      same (coming.Done done) r so = so r
      same (coming.Stopped stop) r so = so r

work-told : {P : Type 0} (asks : P → List Answer → Next) (v : Visit P) (old : ContainerValue) (w : Work P) (closing : Option Closing) (new : ContainerValue) (work : Work P) (keeps : Bool)
    → ServesWork asks old v.facts v.lease w closing new work
    → HasReplied keeps (handed_of asks w (untold old.boot [])) (added_to old.since new.since) → TellsReply (handed_of asks w (untold old.boot [])) keeps old.told new.told
work-told asks v old Reading closing new work keeps serves replies = absurd serves
work-told asks v old Opening closing new work keeps serves replies = absurd serves
work-told asks v old (Serving tries program) closing new work keeps serves replies =
    let s = serves.serves in
    step-told (asks program) old tries tries.attempt s.to s.between s.mid s.end new serves.after keeps refl s.steps s.goes_on replies
work-told asks v old (Committed place again shown) closing new work keeps serves replies = absurd serves
work-told asks v old (Decided became) closing new work keeps serves replies = absurd serves
work-told asks v old (Answered fate bytes) closing new work keeps serves replies = absurd serves
work-told asks v old (Left fate) closing new work keeps serves replies = absurd serves

pub keeper-told : {P : Type 0} (asks : P → List Answer → Next) (keeps : Bool) (old new : Visit P) (container after : ContainerValue)
    → HasReplied keeps (handed asks old container.boot) (added_to container.since after.since) → VisitsInside asks old container new after
    → TellsReply (handed asks old container.boot) keeps container.told after.told
unfolding handed
keeper-told asks keeps old new container after replies visits =
    work-told asks old container old.work visits.closing after visits.work keeps visits.serves replies
