-- What each step of a request is, and what it brings, by what the code has in hand.
use Rattle.std.specs.Prelude.{IfOk, IfSome, IsSome, Result, Ok, Err, option_map}
use Rattle.std.proofs.Common.{◌≡◌, List, Option, Some, None, refl, sym, ap, ◌∙◌, subst}
use Rattle.crash_base.specs.declared.memory.OutOfMemory.{OutOfMemory}
use Rattle.crash_base.specs.declared.rows.RowWrite.{RowWrite}
use Rattle.journal_model.specs.declared.entry.DoneText.{DoneText}
use Rattle.call_ticket.specs.declared.next.Answer.{Answer}
use Rattle.call_ticket.specs.declared.next.Next.{Next}
use Rattle.call_ticket.specs.declared.next.Next.TheVariants as next
use Rattle.call_ticket.specs.Runs.{run_of}
use Rattle.boot_core.specs.Boot.{BootValue}
use Rattle.container_core.specs.Container.{ContainerValue, events_of, with_boot}
use Rattle.container_core.specs.History.{entries_in}
use Rattle.call_attempts.specs.Attempt.{AttemptValue, boot_after, boot_left, rows_at_begin, wanted}
use Rattle.call_attempts.specs.declared.attempt.Stepped.{Stepped}
use Rattle.call_attempts.specs.declared.attempt.Stepped.TheVariants as coming
use Rattle.call_attempts.specs.declared.stop.Stop.{Stop}
use Rattle.call_attempts.proofs.UnderWay.{begins, boot_grows, same_begin, same_request}
use Rattle.request_tries.specs.Serving.{TriesValue, IsOpen, IsServing, closed, has_begun, wanted_by}
use Rattle.request_tries.specs.Steps.{AnswersOwn, Brings, CommitsAs, HasAdvanced, IsStopped, LeavesBoot, StepsAs, end_of, front_at, progress_of}
use Rattle.request_tries.specs.declared.outcome.Ended.{Ended}
use Rattle.request_tries.specs.declared.outcome.Progress.{Progress}
use Rattle.request_tries.specs.declared.outcome.Progress.TheVariants as progress
use Rattle.request_tries.proofs.Committing.{DoneLaw, commit_answers, commit_brings, some_is, stopped}
use Rattle.request_tries.proofs.Trying.{last_within, serving_longer}

-- what a step is, and what it brings
abbrev pub Makes : ContainerValue → (List Answer → Next) → TriesValue → Progress → ContainerValue → TriesValue → Type 0
Makes old asks s to new after = StepsAs old asks s s.attempt to new after × Brings old new asks s after (end_of to)

-- a request that goes on, in a container with the history that it had
goes_on : (old new : ContainerValue) (asks : List Answer → Next) (s after : TriesValue) → IsServing new.boot asks after → new.since ≡ old.since → Brings old new asks s after None
goes_on old new asks s after serving since = record { serving = λ none. serving; ended = tt; counted = tt; adds = since; failed = tt }

-- The begin of an attempt.
pub begun : (old now new : ContainerValue) (asks : List Answer → Next) (s mid after : TriesValue) → now ≡ old → new ≡ now → s.attempt ≡ None → mid ≡ s → after ≡ has_begun now.boot mid → IsServing old.boot asks s
    → Makes old asks s progress.Went new after
begun old now new asks s mid after is_now is_new none is_mid is_after serving =
    let there : after ≡ has_begun old.boot s = is_after ∙ ap (λ (c : ContainerValue). has_begun c.boot mid) is_now ∙ ap (λ (m : TriesValue). has_begun old.boot m) is_mid in
    let same : new ≡ old = is_new ∙ is_now in
    let still : IsServing old.boot asks (has_begun old.boot s) = record {
      few = serving.few;
      tries = serving.tries;
      attempt = record {
        way = begins old.boot asks s.request s.worker;
        request = refl;
        after = last_within old.boot.start.deployment asks old.boot.entries 0 s.tries serving.tries;
      };
    } in (
      subst (λ (o : Option AttemptValue). StepsAs old asks s o progress.Went new after) (sym none) (refl, there, same),
      subst (λ (c : ContainerValue). Brings old c asks s after None) (sym same) (goes_on old old asks s after (subst (λ (x : TriesValue). IsServing old.boot asks x) (sym there) still) refl),
    )

-- the attempt that is open
pub is_open : (boot : BootValue) (asks : List Answer → Next) (s : TriesValue) (o : Option AttemptValue) (a : AttemptValue) → o ≡ Some a → IfSome o (λ b. IsOpen boot asks s b) → IsOpen boot asks s a
is_open boot asks s None a is h = absurd (cc)
is_open boot asks s (Some b) a is h = subst (λ x. IsOpen boot asks s x) (cc) h

-- the container that a step of the open attempt leaves
pub leaves : (old new : ContainerValue) (asks : List Answer → Next) (s after : TriesValue) (came : Stepped) → LeavesBoot old asks s.attempt (Some came) new → (h : HasAdvanced old.boot asks s came after)
    → new ≡ with_boot old (boot_left old.boot (wanted asks h.before) came)
leaves old new asks s after came left h = subst (λ (o : Option AttemptValue). LeavesBoot old asks o (Some came) new) h.was_open left

-- A step that was answered.
pub went : (old new : ContainerValue) (asks : List Answer → Next) (s after : TriesValue) → LeavesBoot old asks s.attempt (Some coming.Went) new → IsServing old.boot asks s → HasAdvanced old.boot asks s coming.Went after
    → Makes old asks s progress.Went new after
went old new asks s after left serving h =
    let opened : IsOpen old.boot asks s h.before = is_open old.boot asks s s.attempt h.before h.was_open serving.attempt in
    let is = h.has_stepped.2 in
    let x : Next = wanted asks h.before in
    let next : ContainerValue = with_boot old (boot_after old.boot x) in
    let same : new ≡ next = leaves old new asks s after coming.Went left h in
    let request : h.after.ticket.call.request ≡ s.request = ap (λ (a : AttemptValue). a.ticket.call.request) is ∙ same_request old.boot h.before.ticket x ∙ opened.request in
    let begin : h.after.ticket.call.at ≡ h.before.ticket.call.at = ap (λ (a : AttemptValue). a.ticket.call.at) is ∙ same_begin old.boot h.before.ticket x in
    let later : IsServing next.boot asks (closed s) = serving_longer old.boot next.boot asks (closed s) (boot_grows old.boot x) (record { few = serving.few; tries = serving.tries; attempt = tt }) in
    let still : IsServing next.boot asks (record s { attempt = Some h.after }) = record {
      few = serving.few;
      tries = later.tries;
      attempt = record { way = h.way; request = request; after = rw begin opened.after };
    } in (
      subst (λ (o : Option AttemptValue). StepsAs old asks s o progress.Went new after) (sym h.was_open)
          (coming.Went, h.after, h.has_stepped, (refl, h.open_now ∙ ap (λ (a : AttemptValue). record s { attempt = Some a }) is), same),
      subst (λ (c : ContainerValue). Brings old c asks s after None) (sym same) (goes_on old next asks s after (subst (λ (t : TriesValue). IsServing next.boot asks t) (sym h.open_now) still) refl),
    )

-- where the open attempt has made no step, the request is as before
same_try : (s mid : TriesValue) (before after : AttemptValue) → s.attempt ≡ Some before → after ≡ before → mid ≡ record s { attempt = Some after } → mid ≡ s
same_try s mid before after was same is =
    is ∙ ap (λ (o : Option AttemptValue). record s { attempt = o }) (ap (λ (a : AttemptValue). Some a) same ∙ sym was)

-- An attempt that is done stays open, and asks for its commit.
pub done : (old new : ContainerValue) (asks : List Answer → Next) (s after : TriesValue) (d : DoneText) → LeavesBoot old asks s.attempt (Some (coming.Done d)) new → IsServing old.boot asks s → HasAdvanced old.boot asks s (coming.Done d) after
    → Makes old asks s (progress.Done d) new after × (after ≡ s) × (wanted_by asks after ≡ Some (next.Done d)) × (new ≡ old)
done old new asks s after d left serving h =
    let is_new : new ≡ old = leaves old new asks s after (coming.Done d) left h in
    let same : after ≡ s = same_try s after h.before h.after h.was_open h.has_stepped.1 h.open_now in
    let wants : wanted_by asks after ≡ Some (next.Done d) =
    ap (λ (x : TriesValue). wanted_by asks x) same ∙ ap (λ (o : Option AttemptValue). option_map (λ (a : AttemptValue). wanted asks a) o) h.was_open ∙ ap (λ (x : Next). Some x) h.has_stepped.0 in (
      (
        subst (λ (o : Option AttemptValue). StepsAs old asks s o (progress.Done d) new after) (sym h.was_open) (coming.Done d, h.after, h.has_stepped, (refl, same), is_new),
        subst (λ (c : ContainerValue). Brings old c asks s after None) (sym is_new) (goes_on old old asks s after (subst (λ (x : TriesValue). IsServing old.boot asks x) (sym same) serving) refl),
      ),
      same,
      wants,
      is_new,
    )

-- an end of a step that was stopped is told
pub end_is : (end : Option Ended) → end_of (progress_of end) ≡ end
end_is None = refl
end_is (Some e) = refl

-- An attempt that was stopped.
pub was_stopped : (old now new : ContainerValue) (asks : List Answer → Next) (s mid after : TriesValue) (stop : Stop) (end : Option Ended) (to : Progress)
    → LeavesBoot old asks s.attempt (Some (coming.Stopped stop)) now → new ≡ now → entries_in old.since ≡ old.boot.entries → IsServing old.boot asks s → HasAdvanced old.boot asks s (coming.Stopped stop) mid
    → IfSome mid.attempt (λ a. IsStopped (front_at now) (closed mid) a.ticket.call.at a.repeats a.entered stop end after) → to ≡ progress_of end → Makes old asks s to new after
was_stopped old now new asks s mid after stop end to left is_new seen serving h stops is_to =
    let is_now : now ≡ old = leaves old now asks s mid (coming.Stopped stop) left h in
    let same : mid ≡ s = same_try s mid h.before h.after h.was_open h.has_stepped.2 h.open_now in
    let opened : IsOpen old.boot asks s h.before = is_open old.boot asks s s.attempt h.before h.was_open serving.attempt in
    let as_is : new ≡ old = is_new ∙ is_now in
    let came : IsStopped (front_at old) (closed s) h.before.ticket.call.at h.before.repeats h.before.entered stop end after =
    subst (λ (o : Option AttemptValue). IfSome o (λ a. IsStopped (front_at old) (closed s) a.ticket.call.at a.repeats a.entered stop end after)) h.was_open
    (subst (λ (c : ContainerValue). IfSome s.attempt (λ a. IsStopped (front_at c) (closed s) a.ticket.call.at a.repeats a.entered stop end after)) is_now
    (subst (λ (m : TriesValue). IfSome m.attempt (λ a. IsStopped (front_at now) (closed m) a.ticket.call.at a.repeats a.entered stop end after)) same stops)) in
    subst (λ (p : Progress). Makes old asks s p new after) (sym is_to) (
      subst (λ (o : Option AttemptValue). StepsAs old asks s o (progress_of end) new after) (sym h.was_open) (coming.Stopped stop, h.after, h.has_stepped, (end, refl, came), as_is),
      subst (λ (e : Option Ended). Brings old new asks s after e) (sym (end_is end))
          (subst (λ (c : ContainerValue). Brings old c asks s after end) (sym as_is) (stopped old asks s after h.before stop end seen serving opened h.has_stepped.1 came)),
    )

-- a commit of an attempt that is open brings its end, and answers what was committed
committed : (law : DoneLaw) (old new : ContainerValue) (asks : List Answer → Next) (s after : TriesValue) (d : DoneText) (o : Option AttemptValue) (end : Option Ended)
    → entries_in old.since ≡ old.boot.entries → IsServing old.boot asks s → ((rows : List RowWrite) → IsSome (run_of old.boot.start.deployment asks rows))
    → s.attempt ≡ o → option_map (λ (a : AttemptValue). wanted asks a) o ≡ Some (next.Done d) → CommitsAs old s o d end new after → Brings old new asks s after end × IfSome end (AnswersOwn (events_of new) d)
committed law old new asks s after d None end seen serving some is wants commits = absurd commits
committed law old new asks s after d (Some a) end seen serving some is wants commits =
    let opened : IsOpen old.boot asks s a = is_open old.boot asks s s.attempt a is serving.attempt in
    (commit_brings law old new asks s after a d end seen (some (rows_at_begin old.boot a.ticket.call)) serving opened (some_is wants) commits, commit_answers old new s after a d end seen commits)

-- The same of a result.
pub may_commit : (law : DoneLaw) (old new : ContainerValue) (asks : List Answer → Next) (s after : TriesValue) (d : DoneText) (result : Result (Option Ended) OutOfMemory)
    → entries_in old.since ≡ old.boot.entries → IsServing old.boot asks s → ((rows : List RowWrite) → IsSome (run_of old.boot.start.deployment asks rows)) → wanted_by asks s ≡ Some (next.Done d)
    → IfOk result (λ end. CommitsAs old s s.attempt d end new after)
    → IfOk result (λ end. Brings old new asks s after end) × IfOk result (λ end. IfSome end (AnswersOwn (events_of new) d))
may_commit law old new asks s after d (Err e) seen serving some wants commits = (tt, tt)
may_commit law old new asks s after d (Ok end) seen serving some wants commits = committed law old new asks s after d s.attempt end seen serving some refl wants commits
