-- A request that nothing hinders stays so at each step, and ends as a page.
use Rattle.std.specs.Prelude.{IfSome, Result, Ok, option_map}
use Rattle.std.proofs.Common.{arith, ◌≡◌, ◌≢◌, ◌≤◌, ℕ, Bool, List, Option, Some, None, inl, inr, refl, sym, ap, subst, ◌∙◌}
use Rattle.std.specs.List.{count_by}
use Rattle.crash_base.specs.declared.numbers.BrickNo.{BrickNo}
use Rattle.crash_base.specs.declared.numbers.Place.{Place}
use Rattle.crash_base.specs.declared.numbers.Version.{Version}
use Rattle.outside.specs.Faults.{Rose}
use Rattle.outside.specs.declared.link.LinkCounts.{LinkCounts}
use Rattle.outside.specs.declared.link.LinkEvent.{LinkEvent}
use Rattle.call_ticket.specs.declared.next.Answer.{Answer}
use Rattle.call_ticket.specs.declared.next.Next.{Next}
use Rattle.container_core.specs.Container.{ContainerValue, events_of}
use Rattle.container_core.specs.declared.history.Event.{Event}
use Rattle.call_attempts.specs.Attempt.{AttemptValue}
use Rattle.send_windows.specs.declared.fact.WindowFact.{WindowFact}
use Rattle.send_windows.specs.declared.windows.TakeRefusal.TheVariants as refusal
use Rattle.send_windows.specs.Windows.{WindowsValue}
use Rattle.session_cookie.specs.declared.cookie.Cookie.{Cookie}
use Rattle.ssm_stub.specs.Ends.{bricks_of}
use Rattle.ssm_stub.specs.Reads.{ReadState, read_answer, read_start}
use Rattle.ssm_stub.specs.Runs.{told_of}
use Rattle.ssm_stub.specs.Writes.{WriteState, write_answer}
use Rattle.ssm_stub.specs.declared.read_call.ReadRefusal.TheVariants as read_refusal
use Rattle.ssm_stub.specs.declared.write_call.WriteRefusal.{WriteRefusal}
use Rattle.session_way.specs.Reading.{answer_of_read}
use Rattle.session_way.specs.Way.{IsRefused, StepsOutside, StepsWindows, answer_held, passes_for, settled, wants}
use Rattle.session_way.specs.Writing.{WritingState, answer_of_write}
use Rattle.session_way.specs.declared.lease.SessionLease.{SessionLease}
use Rattle.session_way.specs.declared.session_read.ReadOutcome.{ReadOutcome}
use Rattle.session_way.specs.declared.session_read.ReadOutcome.TheVariants as read
use Rattle.session_way.specs.declared.session_write.WriteOrder.{WriteOrder}
use Rattle.session_way.specs.declared.session_write.WriteOutcome.{WriteOutcome}
use Rattle.session_way.specs.declared.session_write.WriteOutcome.TheVariants as outcome
use Rattle.session_way.specs.declared.way.SessionWay.{SessionWay}
use Rattle.session_way.specs.declared.way.SessionWay.TheVariants as way
use Rattle.session_way.specs.declared.way.Wants.{Wants}
use Rattle.session_way.specs.declared.way.Wants.TheVariants as wanted
use Rattle.request_tries.specs.Ends.{done_of}
use Rattle.request_tries.specs.Serving.{TriesValue}
use Rattle.request_tries.specs.Steps.{CommitsAs}
use Rattle.request_tries.specs.declared.outcome.Ended.{Ended}
use Rattle.request_tries.specs.declared.outcome.Progress.{Progress}
use Rattle.request_tries.specs.declared.outcome.Progress.TheVariants as progress
use Rattle.outcome_items.specs.declared.item.Item.{Item}
use Rattle.outcome_items.specs.declared.outcome.ItemOutcome.{ItemOutcome}
use Rattle.request_visit.specs.Advancing.{Advances, HearsReadOf, IsItemOf, after_leaving, after_read, departed, outcome_in}
use Rattle.request_visit.specs.Ready.{ready_of}
use Rattle.request_visit.specs.Serving.{GoesOn, closed_with, closing_of}
use Rattle.request_visit.specs.Stepping.{IsGivenBack, OnServing, ServesBy, ServesWork, VisitsInside, VisitsWindows, after_closing, after_closing_if, left_so, shown_so}
use Rattle.request_visit.specs.Visits.{after_outcome, begun, fate_missed, fate_written, or_over, or_own, turn, turn_by}
use Rattle.request_visit.specs.declared.facts.VisitFacts.{VisitFacts}
use Rattle.request_visit.specs.declared.ready.Ready.{Ready}
use Rattle.request_visit.specs.declared.ready.Ready.TheVariants.{Respond, Write}
use Rattle.request_visit.specs.declared.serving.Closed.{Closed}
use Rattle.request_visit.specs.declared.serving.Closing.{Closing}
use Rattle.request_visit.specs.declared.visit.Fate.{Fate}
use Rattle.request_visit.specs.declared.visit.Fate.TheVariants.{Known, Writing}
use Rattle.request_visit.specs.declared.visit.Turn.TheVariants as turns
use Rattle.request_visit.specs.declared.visit.Visit.{Visit}
use Rattle.request_visit.specs.declared.visit.Work.{Work}
use Rattle.request_visit.specs.declared.visit.Work.TheVariants.{Reading, Opening, Serving, Committed, Decided, Answered, Left}
use Rattle.request_visit.proofs.Marking.{none_told, work_told}
use Rattle.request_visit.proofs.Turning.{own_nothing}
use Rattle.unhindered_requests.specs.Bricks.{HasStored, MayStore, bricks_in}
use Rattle.unhindered_requests.specs.Tries.{IsFree}
use Rattle.unhindered_requests.specs.Unhindered.{IsPage, IsUnhindered, IsUnhinderedBy, MayBeFound, MayBeStored, Serve, TellsPage, WasStored}
use Rattle.unhindered_requests.proofs.Asked.{finds_on, has_stored, may_find, may_store, never_refused, stored_answers, stored_on, stores_on}
use Rattle.unhindered_requests.proofs.Given.{serving_open}
use Rattle.unhindered_requests.proofs.Tried.{EndsAsPage, RefusedInOrder, StepsWell, StopsAlone, commits_well, steps_well}

-- In the container.

shown : {P : Type 0} (serves : BrickNo → Bool) (place : Place) (again : Bool) (ready : Ready) (v : Visit P) → IsUnhindered serves (shown_so place again ready v)
shown serves place again (Respond bytes) v = (place, again, refl)
shown serves place again (Write order page) v = tt

page_left : {P : Type 0} (serves : BrickNo → Bool) (facts : VisitFacts) (lease : Option SessionLease) (events : List Event) (e : Ended) (v : Visit P) → EndsAsPage (Some e) → IsUnhindered serves (after_closing (closing_of facts lease events e) v)
page_left {P} serves facts lease events e v (place, again, is) =
    let ready : Bool → Ready = λ again. ready_of facts lease (done_of events e) in
    let w : Visit P = record v { holds = (closing_of facts lease events e).holds } in
    subst (λ (closed : Closed). IsUnhindered serves (left_so closed w)) (sym (ap (closed_with ready) is)) (shown serves place again (ready again) w)

-- what a step came to goes on, or ends as a page
goes_well : (law : RefusedInOrder) (old between new : ContainerValue) (asks : List Answer → Next) (s mid after : TriesValue) (to : Progress) (end : Option Ended)
    → IfSome s.attempt (λ a. IsFree asks old s a) → (Rose old.faults new.faults → ⊥) → StepsWell old asks s to between mid → GoesOn between mid to end new after → EndsAsPage end
goes_well law old between new asks s mid after progress.Went end free keeps well goes = subst EndsAsPage (sym goes.0) tt
goes_well law old between new asks s mid after (progress.Done done) end free keeps well goes =
    let a : AttemptValue = well.2 in
    let is_open : mid.attempt ≡ Some a = ap (λ (t : TriesValue). t.attempt) well.1 ∙ well.3 in
    let here : IsFree asks old s a = subst (λ (o : Option AttemptValue). IfSome o (λ a. IsFree asks old s a)) well.3 free in
    commits_well law old new asks mid after a done end (subst (λ (t : TriesValue). IsFree asks old t a) (sym well.1) here) well.4 keeps
    (subst (λ (c : ContainerValue). CommitsAs c mid (Some a) done end new after) well.0
    (subst (λ (o : Option AttemptValue). CommitsAs between mid o done end new after) is_open goes))
goes_well law old between new asks s mid after (progress.Ended e) end free keeps well goes = absurd well

left_well : {P : Type 0} (serves : BrickNo → Bool) (facts : VisitFacts) (lease : Option SessionLease) (events : List Event) (end : Option Ended) (tries : TriesValue) (program : P) (v : Visit P)
    → EndsAsPage end → IsUnhindered serves (after_closing_if (option_map (closing_of facts lease events) end) (record v { work = Serving tries program }))
left_well serves facts lease events None tries program v well = tt
left_well serves facts lease events (Some e) tries program v well = page_left serves facts lease events e (record v { work = Serving tries program }) well

-- a step in the container that nothing hinders
pub inside_unhindered : {P : Type 0} (refused : RefusedInOrder) (stops : StopsAlone) (asks : P → List Answer → Next) (serves : BrickNo → Bool) (old new : Visit P) (container after : ContainerValue)
    → VisitsInside asks old container new after → OnServing old.work (λ tries program. IfSome tries.attempt (λ a. IsFree (asks program) container tries a))
    → (Rose container.faults after.faults → ⊥) → IsUnhindered serves new
inside_unhindered {P} refused stops asks serves old new container after visits free keeps = by_work old.work visits.serves free
  where
    served : (tries : TriesValue) (program : P) → ServesBy asks container old.facts old.lease tries program visits.closing after visits.work → IfSome tries.attempt (λ a. IsFree (asks program) container tries a) → IsUnhindered serves new
    served tries program s free_here =
        let steps = steps_well stops container (asks program) tries s.serves.between s.serves.mid tries.attempt s.serves.to refl free_here s.serves.steps in
        let well = goes_well refused container s.serves.between after (asks program) tries s.serves.mid s.after s.serves.to s.serves.end free_here keeps steps s.serves.goes_on in
        let closing : visits.closing ≡ option_map (closing_of old.facts old.lease (events_of after)) s.serves.end = s.serves.closing_is in
        subst (IsUnhindered serves) (sym visits.new_is)
        (subst (λ (c : Option Closing). IsUnhindered serves (after_closing_if c (record old { work = visits.work }))) (sym closing)
        (subst (λ (work : Work P). IsUnhindered serves (after_closing_if (option_map (closing_of old.facts old.lease (events_of after)) s.serves.end) (record old { work = work }))) (sym s.work_is)
        (left_well serves old.facts old.lease (events_of after) s.serves.end s.after program old well)))

    by_work : (work : Work P) → ServesWork asks container old.facts old.lease work visits.closing after visits.work → OnServing work (λ tries program. IfSome tries.attempt (λ a. IsFree (asks program) container tries a)) → IsUnhindered serves new
    by_work Reading s f = absurd s
    by_work Opening s f = absurd s
    by_work (Serving tries program) s f = served tries program s f
    by_work (Committed place again page) s f = absurd s
    by_work (Decided became) s f = absurd s
    by_work (Answered fate bytes) s f = absurd s
    by_work (Left fate) s f = absurd s

-- At the windows.

-- what is told of a request, after it was told what its write came to
abbrev fate_told : Option WriteOutcome → Fate → Fate
fate_told None fate = fate
fate_told (Some (outcome.Written cookie)) fate = fate_written fate
fate_told (Some (outcome.Missed causes)) fate = fate_missed causes fate

by_answer : (told : Option WriteOutcome) (cookie : Cookie) (w : SessionWay) (place : Place) (again : Bool) → option_map answer_of_write told ≡ Some (Ok cookie) → TellsPage w (fate_told told (Writing place again))
by_answer None cookie w place again is = absurd (cc)
by_answer (Some (outcome.Written given)) cookie w place again is = (place, again, refl)
by_answer (Some (outcome.Missed causes)) cookie w place again is = absurd (cc)

-- a request whose session was stored is told so
written_page : (told : Option WriteOutcome) (w after : SessionWay) (place : Place) (again : Bool) → option_map answer_of_write told ≡ answer_held w → WasStored w → TellsPage after (fate_told told (Writing place again))
written_page told way.Resting after place again is stored = absurd stored
written_page told (way.Reading r) after place again is stored = absurd stored
written_page told (way.Ordered order) after place again is stored = absurd stored
written_page told (way.Writing v) after place again is stored = (let answer = stored_answers v.write stored in by_answer told answer.0 after place again (is ∙ answer.1))
written_page told (way.Settling v) after place again is stored = (let answer = stored_answers v.write stored in by_answer told answer.0 after place again (is ∙ answer.1))
written_page told (way.Holding passes) after place again is stored = absurd stored

known_page : (told : Option WriteOutcome) (w : SessionWay) (became : ItemOutcome) → IsPage became → TellsPage w (fate_told told (Known became))
known_page None w became page = page
known_page (Some (outcome.Written cookie)) w became page = page
known_page (Some (outcome.Missed causes)) w became page = page

told_page : (told : Option WriteOutcome) (w after : SessionWay) (fate : Fate) → option_map answer_of_write told ≡ answer_held w → TellsPage w fate → TellsPage after (fate_told told fate)
told_page told w after (Known became) is page = known_page told after became page
told_page told w after (Writing place again) is stored = written_page told w after place again is stored

-- what a request is told of its write changes its work alone
told_work : {P : Type 0} (serves : BrickNo → Bool) (told : Option WriteOutcome) (v : Visit P) → IsUnhinderedBy serves v.way (work_told told v.work) → IsUnhindered serves (after_outcome told v)
told_work serves None v h = h
told_work serves (Some (outcome.Written cookie)) v h = h
told_work serves (Some (outcome.Missed causes)) v h = h

open_told : (P : Type 0) (serves : BrickNo → Bool) (told : Option WriteOutcome) (w : SessionWay) → IsUnhinderedBy {P = P} serves w (work_told told Opening)
open_told P serves None w = tt
open_told P serves (Some (outcome.Written cookie)) w = tt
open_told P serves (Some (outcome.Missed causes)) w = tt

served_told : {P : Type 0} (serves : BrickNo → Bool) (told : Option WriteOutcome) (w : SessionWay) (tries : TriesValue) (program : P) → IsUnhinderedBy serves w (work_told told (Serving tries program))
served_told serves None w tries program = tt
served_told serves (Some (outcome.Written cookie)) w tries program = tt
served_told serves (Some (outcome.Missed causes)) w tries program = tt

answered_told : (P : Type 0) (serves : BrickNo → Bool) (told : Option WriteOutcome) (w : SessionWay) (fate : Fate) (bytes : List ℕ) → TellsPage w (fate_told told fate) → IsUnhinderedBy {P = P} serves w (work_told told (Answered fate bytes))
answered_told P serves None w fate bytes h = h
answered_told P serves (Some (outcome.Written cookie)) w fate bytes h = h
answered_told P serves (Some (outcome.Missed causes)) w fate bytes h = h

left_told : (P : Type 0) (serves : BrickNo → Bool) (told : Option WriteOutcome) (w : SessionWay) (fate : Fate) → TellsPage w (fate_told told fate) → IsUnhinderedBy {P = P} serves w (work_told told (Left fate))
left_told P serves None w fate h = h
left_told P serves (Some (outcome.Written cookie)) w fate h = h
left_told P serves (Some (outcome.Missed causes)) w fate h = h

-- of the bricks that passes are given to for an order, as many serve as are to store a value
abbrev pub EnoughServe : (BrickNo → Bool) → WindowsValue → SessionWay → Type 0
EnoughServe serves windows w = (order : WriteOrder) → w ≡ way.Ordered order → windows.wq ≤ count_by serves (bricks_of (passes_for order windows))

-- a write that begins may store its value
begins_write : {P : Type 0} (serves : BrickNo → Bool) (w after : SessionWay) (windows now : WindowsValue) (told : Option WriteOutcome) (work : Work P) → ((v : SessionWay) → MayBeStored serves v → IsUnhinderedBy serves v work)
    → option_map answer_of_write told ≡ answer_held w → StepsWindows w windows after now → EnoughServe serves windows w → MayBeStored serves w → IsUnhinderedBy serves after (work_told told work)
begins_write serves way.Resting after windows now told work so is steps enough h = absurd h
begins_write serves (way.Reading r) after windows now told work so is steps enough h = absurd h
begins_write {P} serves (way.Ordered order) after windows now told work so is steps enough h =
    let none : told ≡ None = none_told told is in
    let may = may_store serves (bricks_of (passes_for order windows)) windows.wq order.nonce order.key order.value order.expiry (enough order refl) in
    subst (λ (t : Option WriteOutcome). IsUnhinderedBy serves after (work_told t work)) (sym none)
    (so after (subst (MayBeStored serves) (sym steps.writes) may))
begins_write serves (way.Writing v) after windows now told work so is steps enough h = absurd steps
begins_write serves (way.Settling v) after windows now told work so is steps enough h = absurd h
begins_write serves (way.Holding passes) after windows now told work so is steps enough h = absurd h

-- a session that is read is none of the windows'
read_elsewhere : (serves : BrickNo → Bool) (w after : SessionWay) (windows now : WindowsValue) → StepsWindows w windows after now → MayBeFound serves w → ⊥
read_elsewhere serves way.Resting after windows now steps h = h
read_elsewhere serves (way.Reading r) after windows now steps h = steps
read_elsewhere serves (way.Ordered order) after windows now steps h = h
read_elsewhere serves (way.Writing v) after windows now steps h = h
read_elsewhere serves (way.Settling v) after windows now steps h = h
read_elsewhere serves (way.Holding passes) after windows now steps h = h

given_by : {P : Type 0} (serves : BrickNo → Bool) (w after : SessionWay) (windows now : WindowsValue) (told : Option WriteOutcome) (work : Work P)
    → option_map answer_of_write told ≡ answer_held w → StepsWindows w windows after now → EnoughServe serves windows w → IsUnhinderedBy serves w work → IsUnhinderedBy serves after (work_told told work)
given_by serves w after windows now told Reading is steps enough h = absurd (read_elsewhere serves w after windows now steps h)
given_by {P} serves w after windows now told Opening is steps enough h = open_told P serves told after
given_by serves w after windows now told (Serving tries program) is steps enough h = served_told serves told after tries program
given_by serves w after windows now told (Committed place again page) is steps enough h = begins_write serves w after windows now told (Committed place again page) (λ v may. may) is steps enough h
given_by serves w after windows now told (Decided became) is steps enough h = absurd h
given_by {P} serves w after windows now told (Answered fate bytes) is steps enough h = answered_told P serves told after fate bytes (told_page told w after fate is h)
given_by {P} serves w after windows now told (Left fate) is steps enough h = left_told P serves told after fate (told_page told w after fate is h)

-- passes are not refused
refused_nowhere : (serves : BrickNo → Bool) (w after : SessionWay) (windows now : WindowsValue) (full : List WindowFact) → IsRefused w windows after now (refusal.Overload full) → EnoughServe serves windows w → ⊥
refused_nowhere serves way.Resting after windows now full refused enough = refused
refused_nowhere serves (way.Reading r) after windows now full refused enough = refused
refused_nowhere serves (way.Ordered order) after windows now full refused enough =
    let few = refused.1.0 in
    let many = enough order refl in
    let most = serving_open serves windows order.nonce.serial in
    omega (arith, few, many, most)
refused_nowhere serves (way.Writing v) after windows now full refused enough = refused
refused_nowhere serves (way.Settling v) after windows now full refused enough = refused
refused_nowhere serves (way.Holding passes) after windows now full refused enough = refused

pub windows_unhindered : {P : Type 0} (serves : BrickNo → Bool) (old new : Visit P) (windows after : WindowsValue) → VisitsWindows old windows new after → EnoughServe serves windows old.way → IsUnhindered serves old → IsUnhindered serves new
windows_unhindered serves old new windows after (inl given) enough h =
    subst (IsUnhindered serves) (sym given.new_is)
    (told_work serves given.outcome (record old { way = new.way }) (given_by serves old.way new.way windows after given.outcome old.work given.is_outcome given.step enough h))
windows_unhindered serves old new windows after (inr over) enough h = absurd (refused_nowhere serves old.way new.way windows after over.full over.refused enough)

-- passes that are given back behind a response
pub back_unhindered : {P : Type 0} (serves : BrickNo → Bool) (old new : Visit P) (fate : Fate) → IsGivenBack old new → old.work ≡ Left fate → IsUnhindered serves old → IsUnhindered serves new
back_unhindered {P} serves old new fate back is h =
    let page : TellsPage old.way fate = subst (λ (work : Work P). IsUnhinderedBy serves old.way work) is h in
    subst (IsUnhindered serves) (sym back.new_is)
    (told_work serves back.outcome (record old { way = way.Resting })
    (subst (λ (work : Work P). IsUnhinderedBy serves way.Resting (work_told back.outcome work)) (sym is)
    (left_told P serves back.outcome way.Resting fate (told_page back.outcome old.way way.Resting fate back.is_outcome page))))

-- At the link.

module _ {L : Type 0} (makes : L → LinkEvent → L → Type 0) (serves : BrickNo → Bool) where
  finds_outside : (w after : SessionWay) (link linked : L) → StepsOutside makes w link after linked → Serve serves after → MayBeFound serves w → MayBeFound serves after
  finds_outside way.Resting after link linked steps does h = absurd h
  finds_outside (way.Reading r) after link linked (later, is, step) does h =
      let there : Serve serves (way.Reading later) = subst (Serve serves) is does in
      let heard = step.hears in
      let heard_so = subst (λ (s : ReadState). Serve serves (way.Reading s)) heard there in
      subst (MayBeFound serves) (sym is) (subst (λ (s : ReadState). MayBeFound serves (way.Reading s)) (sym heard) (finds_on serves r (told_of step.event) heard_so h))
  finds_outside (way.Ordered order) after link linked steps does h = absurd h
  finds_outside (way.Writing v) after link linked steps does h = absurd h
  finds_outside (way.Settling v) after link linked steps does h = absurd h
  finds_outside (way.Holding passes) after link linked steps does h = absurd h

  stores_outside : (w after : SessionWay) (link linked : L) → StepsOutside makes w link after linked → Serve serves after → MayBeStored serves w → MayBeStored serves after
  stores_outside way.Resting after link linked steps does h = absurd h
  stores_outside (way.Reading r) after link linked steps does h = absurd h
  stores_outside (way.Ordered order) after link linked steps does h = absurd steps
  stores_outside (way.Writing v) after link linked (later, is, step) does h =
      let there : Serve serves (way.Writing (record v { write = later })) = subst (Serve serves) is does in
      let heard = step.hears in
      let heard_so = subst (λ (s : WriteState). Serve serves (way.Writing (record v { write = s }))) heard there in
      subst (MayBeStored serves) (sym is) (subst (λ (s : WriteState). MayBeStored serves (way.Writing (record v { write = s }))) (sym heard) (stores_on serves v.write (told_of step.event) heard_so h))
  stores_outside (way.Settling v) after link linked steps does h = absurd h
  stores_outside (way.Holding passes) after link linked steps does h = absurd h

  stored_outside : (w after : SessionWay) (link linked : L) → StepsOutside makes w link after linked → WasStored w → WasStored after
  stored_outside way.Resting after link linked steps h = absurd h
  stored_outside (way.Reading r) after link linked steps h = absurd h
  stored_outside (way.Ordered order) after link linked steps h = absurd h
  stored_outside (way.Writing v) after link linked (later, is, step) h =
      subst WasStored (sym is) (subst (λ (s : WriteState). WasStored (way.Writing (record v { write = s }))) (sym step.hears) (stored_on v.write (told_of step.event) h))
  stored_outside (way.Settling v) after link linked (later, is, step) h =
      subst WasStored (sym is) (subst (λ (s : WriteState). WasStored (way.Settling (record v { write = s }))) (sym step.hears) (stored_on v.write (told_of step.event) h))
  stored_outside (way.Holding passes) after link linked steps h = absurd h

  tells_outside : (w after : SessionWay) (link linked : L) (fate : Fate) → StepsOutside makes w link after linked → TellsPage w fate → TellsPage after fate
  tells_outside w after link linked (Known became) steps h = h
  tells_outside w after link linked (Writing place again) steps h = stored_outside w after link linked steps h

  -- a step of the link
  pub outside_unhindered : {P : Type 0} (w after : SessionWay) (link linked : L) (work : Work P) → StepsOutside makes w link after linked → Serve serves after → IsUnhinderedBy serves w work → IsUnhinderedBy serves after work
  outside_unhindered w after link linked Reading steps does h = finds_outside w after link linked steps does h
  outside_unhindered w after link linked Opening steps does h = tt
  outside_unhindered w after link linked (Serving tries program) steps does h = tt
  outside_unhindered w after link linked (Committed place again page) steps does h = stores_outside w after link linked steps does h
  outside_unhindered w after link linked (Decided became) steps does h = h
  outside_unhindered w after link linked (Answered fate bytes) steps does h = tells_outside w after link linked fate steps h
  outside_unhindered w after link linked (Left fate) steps does h = tells_outside w after link linked fate steps h

-- By itself.

-- the law that a write that wants nothing has its answer
abbrev pub WriteAnswers : Type 0
WriteAnswers = (w : WritingState) → wants (way.Writing w) ≡ wanted.Nothing → write_answer w.write ≢ None

found_or_refused : {P : Type 0} (serves : BrickNo → Bool) (w : SessionWay) (old new : Visit P) → HearsReadOf w old new → MayBeFound serves w → IsUnhindered serves new
found_or_refused serves way.Resting old new hears h = absurd h
found_or_refused {P} serves (way.Reading r) old new hears h = by_outcome hears.outcome hears.is_outcome hears.new_is
  where
    by_outcome : (o : ReadOutcome) → read_answer r ≡ Some (answer_of_read o) → new ≡ after_read o old → IsUnhindered serves new
    by_outcome (read.Found lease) is new_is = subst (IsUnhindered serves) (sym new_is) tt
    by_outcome (read.Expired now expiry) is new_is = absurd (never_refused serves r (read_refusal.Expired now expiry) h is)
    by_outcome (read.Lost causes) is new_is = absurd (never_refused serves r (read_refusal.Lost causes) h is)
found_or_refused serves (way.Ordered order) old new hears h = absurd h
found_or_refused serves (way.Writing v) old new hears h = absurd h
found_or_refused serves (way.Settling v) old new hears h = absurd h
found_or_refused serves (way.Holding passes) old new hears h = absurd h

stored_with : (serves : BrickNo → Bool) (w : WriteState) (answer : Option (Result Cookie WriteRefusal)) → write_answer w ≡ answer → answer ≢ None → MayStore serves w → HasStored w
stored_with serves w None is some may = absurd (some refl)
stored_with serves w (Some answer) is some may = has_stored serves w answer may is

stored_now : (law : WriteAnswers) (serves : BrickNo → Bool) (w : SessionWay) → or_own (wants w) ≡ turns.Own → MayBeStored serves w → WasStored w
stored_now law serves way.Resting own h = absurd h
stored_now law serves (way.Reading r) own h = absurd h
stored_now law serves (way.Ordered order) own h = absurd (cc)
stored_now law serves (way.Writing v) own h = stored_with serves v.write (write_answer v.write) refl (law v (own_nothing (wants (way.Writing v)) own)) h
stored_now law serves (way.Settling v) own h = absurd h
stored_now law serves (way.Holding passes) own h = absurd h

as_before : {P : Type 0} (serves : BrickNo → Bool) (old new : Visit P) → new ≡ old → IsUnhindered serves old → IsUnhindered serves new
as_before serves old new is h = subst (IsUnhindered serves) (sym is) h

advance_by : {P : Type 0} (law : WriteAnswers) (serves : BrickNo → Bool) (key : List ℕ) (old new : Visit P) (work : Work P) → turn_by work (wants old.way) ≡ turns.Own → Advances key old work new → IsUnhindered serves old → IsUnhinderedBy serves old.way work → IsUnhindered serves new
advance_by law serves key old new Reading own advances h here = found_or_refused serves old.way old new advances here
advance_by law serves key old new Opening own advances h here = as_before serves old new advances h
advance_by law serves key old new (Serving tries program) own advances h here = as_before serves old new advances h
advance_by law serves key old new (Committed place again page) own advances h here = subst (IsUnhindered serves) (sym advances.new_is) (stored_now law serves old.way own here)
advance_by law serves key old new (Decided became) own advances h here = absurd here
advance_by law serves key old new (Answered fate bytes) own advances h here = as_before serves old new advances h
advance_by law serves key old new (Left fate) own advances h here = as_before serves old new advances h

-- a request that advances by itself
pub advance_unhindered : {P : Type 0} (law : WriteAnswers) (serves : BrickNo → Bool) (key : List ℕ) (old new : Visit P) → turn old ≡ turns.Own → Advances key old old.work new → IsUnhindered serves old → IsUnhindered serves new
advance_unhindered law serves key old new own advances h = advance_by law serves key old new old.work own advances h h

no_output : (w : Wants) → or_own w ≡ turns.Output → ⊥
no_output wanted.Nothing e = cc
no_output wanted.Outside e = cc
no_output wanted.Windows e = cc

over_output : (w : Wants) → or_over w ≡ turns.Output → ⊥
over_output wanted.Nothing e = cc
over_output wanted.Outside e = cc
over_output wanted.Windows e = cc

settles_stored : (w : SessionWay) → WasStored w → WasStored (settled w)
settles_stored way.Resting h = h
settles_stored (way.Reading r) h = h
settles_stored (way.Ordered order) h = h
settles_stored (way.Writing v) h = h
settles_stored (way.Settling v) h = h
settles_stored (way.Holding passes) h = h

settles_page : (w : SessionWay) (fate : Fate) → TellsPage w fate → TellsPage (settled w) fate
settles_page w (Known became) h = h
settles_page w (Writing place again) h = settles_stored w h

leave_by : {P : Type 0} (serves : BrickNo → Bool) (w : SessionWay) (work : Work P) → turn_by work (wants w) ≡ turns.Output → IsUnhinderedBy serves w work → IsUnhinderedBy serves (settled w) (departed work)
leave_by serves w Reading out h = absurd (no_output (wants w) out)
leave_by serves w Opening out h = tt
leave_by serves w (Serving tries program) out h = tt
leave_by serves w (Committed place again page) out h = absurd (no_output (wants w) out)
leave_by serves w (Decided became) out h = h
leave_by serves w (Answered fate bytes) out h = settles_page w fate h
leave_by serves w (Left fate) out h = settles_page w fate h

-- a request whose response leaves
pub leave_unhindered : {P : Type 0} (serves : BrickNo → Bool) (v : Visit P) → turn v ≡ turns.Output → IsUnhindered serves v → IsUnhindered serves (after_leaving v)
leave_unhindered serves v out h = leave_by serves v.way v.work out h

fate_page : (w : SessionWay) (fate : Fate) → TellsPage w fate → IsPage (outcome_in fate)
fate_page w (Known became) h = h
fate_page w (Writing place again) h = (place, again, refl)

item_by : {P : Type 0} (serves : BrickNo → Bool) (v : Visit P) (work : Work P) (i : Item) → IsItemOf v work i → IsUnhinderedBy serves v.way work → IsPage i.outcome
item_by serves v Reading i is h = absurd is
item_by serves v Opening i is h = absurd is
item_by serves v (Serving tries program) i is h = absurd is
item_by serves v (Committed place again page) i is h = absurd is
item_by serves v (Decided became) i is h = absurd is
item_by serves v (Answered fate bytes) i is h = absurd is
item_by serves v (Left fate) i is h = subst IsPage (sym (ap (λ (x : Item). x.outcome) is)) (fate_page v.way fate h)

-- the item of a request that nothing hindered
pub item_unhindered : {P : Type 0} (serves : BrickNo → Bool) (v : Visit P) (i : Item) → IsItemOf v v.work i → IsUnhindered serves v → IsPage i.outcome
item_unhindered serves v i is h = item_by serves v v.work i is h

-- At the begin.

pub unread_unhindered : {P : Type 0} (serves : BrickNo → Bool) (facts : VisitFacts) (counts : LinkCounts) (w : SessionWay) (v : Visit P) → v ≡ begun facts counts w Opening → IsUnhindered serves v
unread_unhindered serves facts counts w v is = subst (IsUnhindered serves) (sym is) tt

pub read_unhindered : {P : Type 0} (serves : BrickNo → Bool) (facts : VisitFacts) (counts : LinkCounts) (nonce : Version) (cookie : Cookie) (v : Visit P) → v ≡ begun facts counts (way.Reading (read_start facts.now nonce cookie)) Reading
    → facts.now.0 ≤ cookie.expiry.0 → 1 ≤ count_by serves (bricks_in cookie.bricks) → IsUnhindered serves v
read_unhindered serves facts counts nonce cookie v is lease some = subst (IsUnhindered serves) (sym is) (may_find serves facts.now nonce cookie lease some)
