-- A step of a request in the container, as a function: of the boot and the events since its start, and of whether the
-- keeper keeps what a commit hands it.
use Rattle.std.specs.Prelude.{◌≡◌, ◌+◌, ◌&&◌, nat_lt, Bool, true, false, if◌then◌else◌, List, [], ◌∷◌, ◌++◌, length, drop, Option, Some, None}
use Rattle.boot_core.specs.Boot.{BootValue}
use Rattle.boot_core.specs.declared.refusals.CommitRefusal.{CommitRefusal}
use Rattle.boot_core.specs.declared.refusals.CommitRefusal.TheVariants as commits
use Rattle.call_attempts.specs.Attempt.{AttemptValue, boot_after, stepped, stop_of_attempt, wanted}
use Rattle.call_attempts.specs.declared.attempt.Stepped.{Stepped}
use Rattle.call_attempts.specs.declared.attempt.Stepped.TheVariants as coming
use Rattle.call_attempts.specs.declared.stop.Stop.{Stop}
use Rattle.call_attempts.specs.declared.stop.Stop.TheVariants as stops
use Rattle.call_ticket.specs.declared.next.Answer.{Answer}
use Rattle.call_ticket.specs.declared.next.Next.{Next}
use Rattle.call_ticket.specs.declared.next.Next.TheVariants as next
use Rattle.container_core.specs.Container.{ContainerValue, events_of, with_boot, with_entry_event}
use Rattle.container_core.specs.declared.history.Event.{Event}
use Rattle.container_core.specs.declared.history.Event.TheVariants.{Added, KeeperFailed, Started, Stopped}
use Rattle.crash_base.specs.declared.numbers.ComponentNo.{ComponentNo}
use Rattle.crash_base.specs.declared.numbers.Place.{Place}
use Rattle.crash_base.specs.declared.numbers.RequestNo.{RequestNo}
use Rattle.crash_base.specs.declared.rows.RowWrite.{RowWrite}
use Rattle.journal_model.specs.Calls.{Call, entry_of}
use Rattle.journal_model.specs.declared.entry.ActionEntry.{ActionEntry}
use Rattle.journal_model.specs.declared.entry.DoneText.{DoneText}
use Rattle.journal_model.specs.declared.entry.Entry.{Entry}
use Rattle.journal_model.specs.declared.entry.Entry.TheVariants.{Commit}
use Rattle.outside.specs.Keeper.{KeeperTold, TellsRefusal, applied}
use Rattle.outside.specs.declared.keeper.KeeperFault.TheVariants as faults
use Rattle.request_tries.specs.Ends.{done_at}
use Rattle.request_tries.specs.Serving.{TriesValue, closed, has_begun, with_try}
use Rattle.request_tries.specs.Steps.{action_of, ended_at, from_of, front_at, outcome_by, refusal_of, try_ended}
use Rattle.request_tries.specs.declared.outcome.Ended.{Ended}
use Rattle.request_tries.specs.declared.outcome.HistoryFront.{HistoryFront}
use Rattle.request_tries.specs.declared.outcome.RequestOutcome.TheVariants as outcome
use Rattle.request_tries.specs.declared.outcome.TheConstants.{MAX_TRIES}
use Rattle.request_tries.specs.declared.outcome.TryCause.{TryCause}
use Rattle.request_tries.specs.declared.outcome.TryCause.TheVariants as cause
use Rattle.request_visit.specs.Serving.{closing_of}
use Rattle.request_visit.specs.Stepping.{after_closing}
use Rattle.request_visit.specs.declared.visit.Visit.{Visit}
use Rattle.request_visit.specs.declared.visit.Work.{Work}
use Rattle.request_visit.specs.declared.visit.Work.TheVariants.{Reading, Opening, Serving, Committed, Decided, Answered, Left}

-- what a step or a commit comes to: the request is served still, by these tries; or it has ended so
pub data Course : Type 0 where
  Goes : (tries : TriesValue) → Course
  Ends : (end : Ended) → Course

-- what comes of a step that does not end the call, by what stops it
abbrev pub unless_stopped : Option Stop → Stepped
unless_stopped None = coming.Went
unless_stopped (Some stop) = coming.Stopped stop

-- what comes of the step that a program asks for, by what stops it
abbrev pub came_by : Next → Option Stop → Stepped
came_by (next.Enter component method) stop = unless_stopped stop
came_by (next.Read id) stop = unless_stopped stop
came_by (next.List table) stop = unless_stopped stop
came_by (next.Put write) stop = unless_stopped stop
came_by next.Exit stop = unless_stopped stop
came_by (next.Done done) stop = coming.Done done

-- a try has ended: another one is made, where there may be one and all of its steps may be made again; or the request
-- has ended
abbrev pub after_try : HistoryFront → TriesValue → Place → TryCause → Bool → Course
after_try now s at why repeats =
    if nat_lt (length s.tries + 1) MAX_TRIES && repeats
    then Goes (with_try s (try_ended now at why))
    else Ends (ended_at now (from_of s at) (outcome_by why (s.tries ++ try_ended now at why ∷ [])) None)

-- what becomes of a request whose try entered these components, and was stopped
abbrev pub after_stop : HistoryFront → TriesValue → Place → Bool → List ComponentNo → Stop → Course
after_stop now s at repeats entered (stops.Sentinel group down) =
    Ends (ended_at now (from_of s at) (outcome.Sentinel group down) None)
after_stop now s at repeats entered (stops.Hung component fault) =
    Ends (ended_at now (from_of s at) (outcome.Hung component fault (entered ++ component ∷ [])) None)
after_stop now s at repeats entered (stops.Raised component fault) =
    Ends (ended_at now (from_of s at) (outcome.Raised component fault (entered ++ component ∷ [])) None)
after_stop now s at repeats entered (stops.Revoked shown) = after_try now s at (cause.Revoked shown) repeats

-- what a refusal makes of a request that would commit; without memory it is served still
abbrev pub after_refusal : HistoryFront → List Entry → TriesValue → Place → Bool → CommitRefusal → Course
after_refusal now es s at repeats (commits.Revoked shown) = after_try now s at (cause.Revoked shown) repeats
after_refusal now es s at repeats (commits.Conflict conflict) =
    after_try now s at (cause.Conflict conflict.mark conflict.newest) true
after_refusal now es s at repeats (commits.Already place) =
    Ends (ended_at now (from_of s at) (outcome.Page place true) (done_at es place))
after_refusal now es s at repeats (commits.JournalFull full) =
    Ends (ended_at now (from_of s at) (outcome.JournalFull full) None)
after_refusal now es s at repeats commits.KeeperFailed =
    Ends (ended_at now (from_of s at) outcome.KeeperFailed None)
after_refusal now es s at repeats commits.OutOfMemory = Goes s

-- what a commit makes of a request whose entry would come to a place: it has ended by that, if nothing refuses it
abbrev pub after_commit : HistoryFront → List Entry → TriesValue → Place → Bool → Place → Option CommitRefusal → Course
after_commit now es s at repeats place None =
    Ends (ended_at now (from_of s at) (outcome.Page place false) None)
after_commit now es s at repeats place (Some refusal) = after_refusal now es s at repeats refusal

-- Whether the keeper keeps the writes of a commit: it is not called where there are none.
abbrev pub are_kept : List RowWrite → Bool → Bool
are_kept [] keeps = true
are_kept (w ∷ ws) keeps = keeps

-- the refusal of a commit: that of the boot, else that of a keeper that does not keep the writes
abbrev pub with_keeper : Option CommitRefusal → List RowWrite → Bool → Option CommitRefusal
with_keeper (Some refusal) writes keeps = Some refusal
with_keeper None writes keeps = if are_kept writes keeps then None else Some commits.KeeperFailed

-- the events since the start, after a commit that was refused: a keeper that failed is marked
abbrev pub since_refused : List Event → RequestNo → CommitRefusal → List Event
since_refused since request commits.KeeperFailed = since ++ KeeperFailed request ∷ []
since_refused since request commits.OutOfMemory = since
since_refused since request (commits.Already place) = since
since_refused since request (commits.Revoked shown) = since
since_refused since request (commits.Conflict conflict) = since
since_refused since request (commits.JournalFull full) = since

-- a boot and the events since its start, as a container of whose keeper nothing is told
abbrev pub untold : BootValue → List Event → ContainerValue
untold boot since = record { boot = boot; since = since; told = None; faults = 0 }

-- a container after a commit: the entry of the call joins the journal, if nothing refuses it
abbrev pub after_entry : ContainerValue → Call → Option ActionEntry → Option CommitRefusal → ContainerValue
after_entry c call action None = with_entry_event c (Commit (entry_of call action))
after_entry c call action (Some refusal) = record c { since = since_refused c.since call.request refusal }

-- what a step comes to, and the container after it
pub record Stride : Type 0 where
  pub course : Course
  pub container : ContainerValue

-- a step that leaves a container as it was
abbrev pub still : ContainerValue → Course → Stride
still c course = record { course = course; container = c }

-- a commit of an open attempt that is done: it is refused so, or not
abbrev pub commits_by : ContainerValue → TriesValue → AttemptValue → DoneText → Option CommitRefusal → Stride
commits_by c s a done refusal =
    let after = after_entry c a.ticket.call (action_of s done) refusal in
    record {
      course = after_commit (front_at after) after.boot.entries (closed s) a.ticket.call.at a.repeats (record { 0 = length c.boot.entries }) refusal;
      container = after;
    }

-- a commit of an open attempt that is done, where the keeper keeps its writes or not
abbrev pub commit_inside : Bool → ContainerValue → TriesValue → AttemptValue → DoneText → Stride
commit_inside keeps c s a done =
    commits_by c s a done (with_keeper (refusal_of c s a done) a.ticket.call.writes keeps)

-- the step of an open attempt, by what came of it: it goes on, and the container counts a component that was entered;
-- it is committed; or it is given up
abbrev pub stride_by : (List Answer → Next) → Bool → ContainerValue → TriesValue → AttemptValue → Stepped → Stride
stride_by asks keeps c s a coming.Went =
    let x = wanted asks a in
    record {
      course = Goes (record s { attempt = Some (stepped c.boot a x) });
      container = with_boot c (boot_after c.boot x);
    }
stride_by asks keeps c s a (coming.Done done) = commit_inside keeps c s a done
stride_by asks keeps c s a (coming.Stopped stop) =
    still c (after_stop (front_at c) (closed s) a.ticket.call.at a.repeats a.entered stop)

-- the step of a request: a try begins where none is open, and else the open one makes the step that is asked for
abbrev pub stride : (List Answer → Next) → Bool → ContainerValue → TriesValue → Option AttemptValue → Stride
stride asks keeps c s None = still c (Goes (has_begun c.boot s))
stride asks keeps c s (Some a) =
    stride_by asks keeps c s a (came_by (wanted asks a) (stop_of_attempt c.boot asks a))

-- a request after a step: it is served still, by its program; or it leaves the container
abbrev pub after_course : {P : Type 0} → Visit P → P → ContainerValue → Course → Visit P
after_course v program c (Goes tries) = record v { work = Serving tries program }
after_course v program c (Ends end) = after_closing (closing_of v.facts v.lease (events_of c) end) v

-- a request, the boot that serves it, and the events since the start of that
pub record Inside (P : Type 0) : Type 0 where
  pub visit : Visit P
  pub boot : BootValue
  pub since : List Event

-- a request after a step, with what the step leaves of the container
abbrev pub inside_by : {P : Type 0} → Visit P → P → Stride → Inside P
inside_by v program s = record {
  visit = after_course v program s.container s.course;
  boot = s.container.boot;
  since = s.container.since;
}

-- the same, by the work of the request: one that is not served makes no step
abbrev pub inside_of : {P : Type 0} → (P → List Answer → Next) → Bool → Visit P → Work P → ContainerValue → Inside P
inside_of asks keeps v Reading c = record { visit = v; boot = c.boot; since = c.since }
inside_of asks keeps v Opening c = record { visit = v; boot = c.boot; since = c.since }
inside_of asks keeps v (Serving tries program) c =
    inside_by v program (stride (asks program) keeps c tries tries.attempt)
inside_of asks keeps v (Committed place again shown) c = record { visit = v; boot = c.boot; since = c.since }
inside_of asks keeps v (Decided became) c = record { visit = v; boot = c.boot; since = c.since }
inside_of asks keeps v (Answered fate bytes) c = record { visit = v; boot = c.boot; since = c.since }
inside_of asks keeps v (Left fate) c = record { visit = v; boot = c.boot; since = c.since }

-- The step of a request in a boot, after these events since its start, where the keeper keeps what it is handed or not.
unfoldable pub inside : {P : Type 0} → (P → List Answer → Next) → Bool → Visit P → BootValue → List Event → Inside P
inside asks keeps v boot since = inside_of asks keeps v v.work (untold boot since)

-- whether the keeper has kept what it was handed, by the events that a step added
abbrev pub kept_in : List Event → Bool
kept_in [] = true
kept_in (Started start ∷ more) = true
kept_in (Added entry ∷ more) = true
kept_in (KeeperFailed request ∷ more) = false
kept_in (Stopped ∷ more) = true

-- the events that a step added
abbrev pub added_to : List Event → List Event → List Event
added_to since after = drop (length since) after

-- the writes that a commit hands to the keeper: none, where something refuses it
abbrev pub handed_by : Option CommitRefusal → List RowWrite → List RowWrite
handed_by None writes = writes
handed_by (Some refusal) writes = []

-- the writes that the step of an open attempt hands to the keeper, by what came of it
abbrev pub handed_at : ContainerValue → TriesValue → AttemptValue → Stepped → List RowWrite
handed_at c s a coming.Went = []
handed_at c s a (coming.Done done) = handed_by (refusal_of c s a done) a.ticket.call.writes
handed_at c s a (coming.Stopped stop) = []

-- the writes that the step of a request hands to the keeper
abbrev pub handed_in : (List Answer → Next) → ContainerValue → TriesValue → Option AttemptValue → List RowWrite
handed_in asks c s None = []
handed_in asks c s (Some a) = handed_at c s a (came_by (wanted asks a) (stop_of_attempt c.boot asks a))

-- the same, by the work of the request
abbrev pub handed_of : {P : Type 0} → (P → List Answer → Next) → Work P → ContainerValue → List RowWrite
handed_of asks Reading c = []
handed_of asks Opening c = []
handed_of asks (Serving tries program) c = handed_in (asks program) c tries tries.attempt
handed_of asks (Committed place again shown) c = []
handed_of asks (Decided became) c = []
handed_of asks (Answered fate bytes) c = []
handed_of asks (Left fate) c = []

-- The writes that the step of a request in a boot hands to the keeper: none, where it is not called.
unfoldable pub handed : {P : Type 0} → (P → List Answer → Next) → Visit P → BootValue → List RowWrite
handed asks v boot = handed_of asks v.work (untold boot [])

-- A keeper that was handed these writes keeps them or not, as the events tell that were added. Where it was handed
-- none, it was not called, and its reply may be any.
abbrev pub HasReplied : Bool → List RowWrite → List Event → Type 0
HasReplied keeps [] added = Unit {0}
HasReplied keeps (w ∷ ws) added = keeps ≡ kept_in added

-- What a keeper tells that was handed these writes: it has kept all of them, or refused them; or it was not called.
abbrev pub TellsReply : List RowWrite → Bool → Option KeeperTold → Option KeeperTold → Type 0
TellsReply [] keeps old new = new ≡ old
TellsReply (w ∷ ws) true old new = new ≡ applied (w ∷ ws) old
TellsReply (w ∷ ws) false old new = TellsRefusal faults.Failed old new
