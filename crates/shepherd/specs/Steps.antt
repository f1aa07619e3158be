-- What each step of a connection leaves.
use Rattle.std.specs.Prelude.{◌≡◌, ◌≢◌, ℕ, ◌≤◌, ◌<◌, Bool, true, if◌then◌else◌, List, drop, replicate, Option, Some, None, option_map, ◌++◌}
use Rattle.auction_calls.specs.declared.action.ActionCall.{ActionCall}
use Rattle.crash_base.specs.declared.numbers.Moment.{Moment}
use Rattle.crash_base.specs.declared.numbers.Place.{Place}
use Rattle.crash_base.specs.declared.numbers.RequestNo.{RequestNo}
use Rattle.http_wire.specs.Taking.{taken_of}
use Rattle.http_wire.specs.declared.taken.Head.{Head}
use Rattle.http_wire.specs.declared.taken.Taken.{Taken}
use Rattle.http_wire.specs.declared.taken.Taken.TheVariants as took
use Rattle.outcome_items.specs.Answers.{is_head_only}
use Rattle.outcome_items.specs.declared.item.Item.{Item}
use Rattle.outcome_items.specs.declared.outcome.ItemOutcome.TheVariants as item
use Rattle.outside.specs.Link.{Tally}
use Rattle.outside.specs.declared.clock.TheConstants.{MOMENTS_END}
use Rattle.outside.specs.declared.link.LinkCounts.{LinkCounts}
use Rattle.outside.specs.declared.link.LinkEvent.{LinkEvent}
use Rattle.request_intake.specs.Intakes.{Gives, Looks}
use Rattle.request_intake.specs.Intakes.{TakesIn}
use Rattle.request_intake.specs.declared.intake.Admission.{Admission}
use Rattle.request_intake.specs.declared.intake.Arrival.{Arrival}
use Rattle.request_intake.specs.declared.intake.Arrival.TheVariants.{Refused, SerialsSpent, Admitted}
use Rattle.request_intake.specs.declared.intake.HomeBoot.{HomeBoot}
use Rattle.request_intake.specs.declared.intake.Intake.{Intake}
use Rattle.request_visit.specs.Advancing.{IsItemOf, after_leaving, response_in, value_of}
use Rattle.request_visit.specs.Stepping.{IsGivenBack, OnServing, counted, dropped}
use Rattle.request_visit.specs.Visits.{begun, turn as visit_turn}
use Rattle.request_visit.specs.declared.visit.Turn.TheVariants as visit
use Rattle.request_visit.specs.declared.facts.VisitFacts.{VisitFacts}
use Rattle.request_visit.specs.declared.visit.Fate.TheVariants.{Writing}
use Rattle.request_visit.specs.declared.visit.Visit.{Visit}
use Rattle.request_visit.specs.declared.visit.Work.TheVariants.{Reading, Opening, Serving as ServingBy, Decided, Left}
use Rattle.session_cookie.specs.declared.cookie.Cookie.{Cookie}
use Rattle.request_tries.specs.Serving.{TriesValue, unbegun}
use Rattle.request_decisions.specs.Calls.{call_by}
use Rattle.crash_base.specs.declared.numbers.WorkerNo.{WorkerNo}
use Rattle.shepherd.specs.declared.shepherd.AskedCall.{AskedCall}
use Rattle.send_windows.specs.Windows.{WindowsValue}
use Rattle.session_way.specs.Marks.{marks_by}
use Rattle.session_way.specs.Way.{StepsOutside, after_give_back, answer_held, held}
use Rattle.session_way.specs.declared.way.SessionWay.TheVariants as way
use Rattle.site_responses.specs.Responses.{last_response}
use Rattle.site_responses.specs.declared.answer.Untaken.{Untaken}
use Rattle.site_responses.specs.declared.answer.Untaken.TheVariants as untaken
use Rattle.ssm_stub.specs.Reads.{read_start}
use Rattle.shepherd.specs.Standing.{has_left}
use Rattle.shepherd.specs.declared.shepherd.EndKind.TheVariants as ends
use Rattle.shepherd.specs.declared.shepherd.Shepherd.{Shepherd}
use Rattle.shepherd.specs.declared.shepherd.Stage.{Stage}
use Rattle.shepherd.specs.declared.shepherd.Stage.TheVariants.{Resting, Serving, Refusing, Over}

-- what is known of a request that is not served
abbrev pub bare_facts : Option RequestNo → Moment → Place → Head → VisitFacts
bare_facts request now front head = record {
  request = request;
  now = now;
  key = record { 0 = replicate 16 0 };
  write = record { node = 0; boot = 0; serial = 0 };
  front = front;
  close = head.close;
  head_only = is_head_only head.method;
}

-- what is known of a request that is served
abbrev pub facts_of : Admission → Moment → Place → Head → VisitFacts
facts_of a now front head = record {
  request = Some a.request;
  now = now;
  key = a.call.key;
  write = a.write;
  front = front;
  close = head.close;
  head_only = is_head_only head.method;
}

-- what it asks for
abbrev pub asked_call : Admission → AskedCall
asked_call a = record { request = a.request; call = a.call }

-- a request that is served begins: its session is read where it has one
abbrev pub admitted_visit : {P : Type 0} → VisitFacts → LinkCounts → Admission → Option Cookie → Stage P
admitted_visit facts counts a None = Serving (begun facts counts way.Resting Opening) (Some (asked_call a))
admitted_visit facts counts a (Some cookie) =
    Serving (begun facts counts (way.Reading (read_start facts.now a.read cookie)) Reading) (Some (asked_call a))

-- a request that was taken in begins
abbrev pub begun_by : {P : Type 0} → Place → LinkCounts → Head → Moment → Arrival → Stage P
begun_by front counts head now (Refused why) =
    Serving (begun (bare_facts None now front head) counts way.Resting (Decided (item.Refused why))) None
begun_by front counts head now (SerialsSpent request seen) =
    Serving (begun (bare_facts request now front head) counts way.Resting (Decided (item.SerialsSpent seen))) None
begun_by front counts head now (Admitted a) = admitted_visit (facts_of a now front head) counts a a.cookie

-- A request was taken off the bytes and taken in, and begins. Its moment is the clock's.
pub record Begins {P C R S : Type 0} (told : C → ℕ) (gives : Gives R) (looks : Looks S) (key : List ℕ) (home : HomeBoot) (counts : LinkCounts) (head : Head) (old : Shepherd P) (clock : C) (random : R) (serials : S) (new : Shepherd P) (clock_after : C) (random_after : R) (serials_after : S) : Type 0 where
  pub intake : Intake
  pub taken_in : TakesIn gives looks key home head random serials intake random_after serials_after
  pub rises : told clock ≤ intake.now.0
  pub told_is : told clock_after ≡ intake.now.0
  pub small : intake.now.0 < MOMENTS_END
  pub new_is : new ≡ record old { received = drop head.len old.received; stage = begun_by old.front counts head intake.now intake.arrival }

-- No further request is taken: this is the last response.
pub record Refuses {P C R S : Type 0} (why : Untaken) (old : Shepherd P) (clock : C) (random : R) (serials : S) (new : Shepherd P) (clock_after : C) (random_after : R) (serials_after : S) : Type 0 where
  pub new_is : new ≡ record old { stage = Refusing why (last_response why) }
  pub no_reading : clock_after ≡ clock
  pub no_word : random_after ≡ random
  pub no_serial : serials_after ≡ serials

-- by what the bytes begin with
abbrev pub TakesBy : {P C R S : Type 0} → (C → ℕ) → Gives R → Looks S → List ℕ → HomeBoot → LinkCounts → Taken → Shepherd P → C → R → S → Shepherd P → C → R → S → Type 0
TakesBy told gives looks key home counts (took.Request head) old clock random serials new clock_after random_after serials_after =
    Begins told gives looks key home counts head old clock random serials new clock_after random_after serials_after
TakesBy told gives looks key home counts took.Bad old clock random serials new clock_after random_after serials_after =
    Refuses untaken.Bad old clock random serials new clock_after random_after serials_after
TakesBy told gives looks key home counts (took.TooLong len lines) old clock random serials new clock_after random_after serials_after =
    Refuses untaken.TooLong old clock random serials new clock_after random_after serials_after
TakesBy told gives looks key home counts took.NoCoding old clock random serials new clock_after random_after serials_after =
    Refuses untaken.NoCoding old clock random serials new clock_after random_after serials_after
TakesBy told gives looks key home counts (took.BodyTooLong said) old clock random serials new clock_after random_after serials_after =
    Refuses untaken.BodyTooLong old clock random serials new clock_after random_after serials_after
TakesBy told gives looks key home counts took.More old clock random serials new clock_after random_after serials_after = ⊥

-- A connection took what its bytes begin with.
abbrev pub TakesRequest : {P C R S : Type 0} → (C → ℕ) → Gives R → Looks S → List ℕ → HomeBoot → LinkCounts → Shepherd P → C → R → S → Shepherd P → C → R → S → Type 0
TakesRequest told gives looks key home counts old clock random serials new clock_after random_after serials_after =
    TakesBy told gives looks key home counts (taken_of old.received) old clock random serials new clock_after random_after serials_after

-- a request is open, and this is so of it and of its call
abbrev pub OnVisit : {P : Type 0} → Stage P → (Visit P → Option AskedCall → Type 0) → Type 0
OnVisit Resting So = ⊥
OnVisit (Serving v call) So = So v call
OnVisit (Refusing why bytes) So = ⊥
OnVisit (Over end) So = ⊥

-- this is so of the request that is open and of its call, if one is open
abbrev pub IfOpen : {P : Type 0} → Stage P → (Visit P → Option AskedCall → Type 0) → Type 0
IfOpen Resting So = Unit {0}
IfOpen (Serving v call) So = So v call
IfOpen (Refusing why bytes) So = Unit {0}
IfOpen (Over end) So = Unit {0}

-- The request that is open made a step: this is so of it before and after, and nothing else changed.
abbrev pub StepsVisit : {P : Type 0} → (Visit P → Visit P → Type 0) → Stage P → Stage P → Type 0
StepsVisit {P} So old new = OnVisit old (λ v call. (after : Visit P) × So v after × (new ≡ Serving after call))

-- the same of the connection
pub record ShepherdSteps {P : Type 0} (So : Visit P → Visit P → Type 0) (old new : Shepherd P) : Type 0 where
  pub steps : StepsVisit So old.stage new.stage
  pub rest : new ≡ record old { stage = new.stage }

-- A request that is served in the container is as it was, but for its tries.
abbrev pub IsServedStill : {P : Type 0} → Visit P → Visit P → Type 0
IsServedStill old new = OnServing old.work (λ tries program. (after : TriesValue) × (new ≡ record old { work = ServingBy after program }))

-- a request made one call of the link, and saw what that has counted
pub record VisitsOutside {P L : Type 0} (makes : L → LinkEvent → L → Type 0) (tally : L → Tally) (old : Visit P) (link : L) (new : Visit P) (after : L) : Type 0 where
  pub steps : StepsOutside makes old.way link new.way after
  pub rest : new ≡ record old { way = new.way; counts = counted (tally after) }

-- A program was made of what a request asks for, as the user of its session asks for it; and the request is served by
-- tries that have not begun.
pub record OpensBy {P M : Type 0} (makes : M → ActionCall → List ℕ → P → Type 0) (maker : M) (worker : WorkerNo) (old : Visit P) (asked : AskedCall) (new : Visit P) : Type 0 where
  pub text : List ℕ
  pub program : P
  pub made : makes maker (call_by asked.call (option_map value_of old.lease)) text program
  pub new_is : new ≡ record old { work = ServingBy (unbegun asked.request worker text) program }

-- the same, where something is asked for
abbrev pub OpensCall : {P M : Type 0} → (M → ActionCall → List ℕ → P → Type 0) → M → WorkerNo → Visit P → Option AskedCall → Stage P → Type 0
OpensCall makes maker worker v None stage = ⊥
OpensCall {P} makes maker worker v (Some asked) stage =
    (after : Visit P) × OpensBy makes maker worker v asked after × (stage ≡ Serving after None)

-- the same of the request that is open
abbrev pub OpensStage : {P M : Type 0} → (M → ActionCall → List ℕ → P → Type 0) → M → WorkerNo → Stage P → Stage P → Type 0
OpensStage makes maker worker old new = OnVisit old (λ v call. OpensCall makes maker worker v call new)

-- the stage once the call in the container was given up
abbrev pub dropped_stage : {P : Type 0} → Stage P → Stage P
dropped_stage Resting = Resting
dropped_stage (Serving v call) = Serving (record v { work = dropped v.work }) call
dropped_stage (Refusing why bytes) = Refusing why bytes
dropped_stage (Over end) = Over end

-- a response is to leave
abbrev pub MayPutOut : {P : Type 0} → Stage P → Type 0
MayPutOut Resting = ⊥
MayPutOut (Serving v call) = visit_turn v ≡ visit.Output
MayPutOut (Refusing why bytes) = Unit {0}
MayPutOut (Over end) = ⊥

-- A response left: that of the request that is open; or the last one, and the connection has ended.
abbrev pub PutsOut : {P : Type 0} → Stage P → List ℕ → Stage P → Type 0
PutsOut Resting bytes after = ⊥
PutsOut (Serving v call) bytes after = (bytes ≡ response_in v.work) × (after ≡ Serving (after_leaving v) call)
PutsOut (Refusing why last) bytes after = (bytes ≡ last) × (after ≡ Over (ends.Refused why))
PutsOut (Over end) bytes after = ⊥

-- the stage behind a request
abbrev pub rested : {P : Type 0} → Bool → Stage P
rested close = if close then Over ends.Closed else Resting

-- The item of the request that is open was taken.
abbrev pub TakesItem : {P : Type 0} → Stage P → Item → Stage P → Type 0
TakesItem stage item after = OnVisit stage (λ v call. IsItemOf v v.work item × (after ≡ rested v.facts.close))

-- Passes that were held for a request were given back.
pub record VisitGivesBack {P : Type 0} (old : Visit P) (windows : WindowsValue) (new : Visit P) (after : WindowsValue) : Type 0 where
  pub back : IsGivenBack old new
  pub windows_are : after ≡ after_give_back windows (held old.way)
  pub marks : after.history ≡ windows.history ++ marks_by old.way way.Resting

-- The passes that were held for the request that is open were given back, if one is open.
abbrev pub GivesBack : {P : Type 0} → Stage P → WindowsValue → Stage P → WindowsValue → Type 0
GivesBack Resting windows new after = (new ≡ Resting) × (after ≡ windows)
GivesBack {P} (Serving v call) windows new after = (w : Visit P) × VisitGivesBack v windows w after × (new ≡ Serving w call)
GivesBack (Refusing why bytes) windows new after = (new ≡ Refusing why bytes) × (after ≡ windows)
GivesBack (Over end) windows new after = (new ≡ Over end) × (after ≡ windows)

-- the response of the request that is open has left, if one is open
abbrev pub HasLeftIfOpen : {P : Type 0} → Stage P → Type 0
HasLeftIfOpen stage = IfOpen stage (λ v call. has_left v.work ≡ true)

-- a write that is settled for the request that is open has its answer
abbrev pub HasAnswerIfOpen : {P : Type 0} → Stage P → Type 0
HasAnswerIfOpen stage = IfOpen stage (λ v call.
    (place : Place) (again : Bool) → v.work ≡ Left (Writing place again) → answer_held v.way ≢ None)
