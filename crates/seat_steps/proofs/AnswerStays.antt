-- What a request does outside leaves what it says, and the answer of its write.
use Rattle.std.proofs.Common.{◌≡◌, ◌≢◌, ◌∙◌, ℕ, Bool, true, false, IsTrue, List, [], ◌∷◌, ◌++◌, Option, Some, None, Result, refl, sym, ap, subst}
use Rattle.std.proofs.lemmas.List.Sums.{fold-append}
use Rattle.auction_calls.specs.declared.action.ActionCall.{ActionCall}
use Rattle.container_core.specs.declared.history.Event.{Event}
use Rattle.lane_link.specs.Links.{lane_link_tally}
use Rattle.lane_link.specs.declared.link.LaneLink.{LaneLink}
use Rattle.outside.specs.Link.{Made}
use Rattle.outside.specs.declared.link.LinkEvent.{LinkEvent}
use Rattle.request_visit.proofs.Chaining.{Stays}
use Rattle.request_visit.proofs.Marking.{outside_marks}
use Rattle.request_visit.proofs.Saying.{outside_says}
use Rattle.request_visit.proofs.Turning.{outside_wanted}
use Rattle.request_visit.specs.Advancing.{cookie_in}
use Rattle.request_visit.specs.Marks.{Marks, MarksOf}
use Rattle.request_visit.specs.Stepping.{counted}
use Rattle.request_visit.specs.Visits.{turn as visit_turn}
use Rattle.request_visit.specs.declared.visit.Fate.{Fate}
use Rattle.request_visit.specs.declared.visit.Fate.TheVariants.{Known, Writing}
use Rattle.request_visit.specs.declared.visit.Turn.TheVariants as visit
use Rattle.request_visit.specs.declared.visit.Visit.{Visit}
use Rattle.request_visit.specs.declared.visit.Work.{Work}
use Rattle.request_visit.specs.declared.visit.Work.TheVariants.{Reading, Opening, Serving as ServingBy, Committed, Decided, Answered, Left}
use Rattle.send_windows.specs.declared.history.WindowMark.{WindowMark}
use Rattle.session_cookie.specs.declared.cookie.Cookie.{Cookie}
use Rattle.session_way.specs.Way.{StepsOutside, answer_held, outside_or, wants}
use Rattle.session_way.specs.declared.way.SessionWay.{SessionWay}
use Rattle.session_way.specs.declared.way.SessionWay.TheVariants as way
use Rattle.session_way.specs.declared.way.Wants.TheVariants as wanted
use Rattle.shepherd_steps.specs.Outside.{event_of_receive, event_of_send, heard_over, machine_after, outside, way_outside}
use Rattle.ssm_frames.specs.Spelling.{encode_of}
use Rattle.ssm_stub.specs.Reads.{read_ask, read_machine, read_next}
use Rattle.ssm_stub.specs.Runs.{Fits, Machine, Steps, after, call_of, fits, told_of}
use Rattle.ssm_stub.specs.Turns.{next_unless}
use Rattle.ssm_stub.specs.Writes.{WriteState, write_answer, write_machine, write_next, write_start}
use Rattle.ssm_stub.specs.declared.event.StubEvent.{StubEvent}
use Rattle.ssm_stub.specs.declared.event.StubEvent.TheVariants as event
use Rattle.ssm_stub.specs.declared.event.StubNext.{StubNext}
use Rattle.ssm_stub.specs.declared.event.StubNext.TheVariants as next
use Rattle.ssm_stub.specs.declared.event.Told.{Told}
use Rattle.ssm_stub.specs.declared.write_call.WriteRefusal.{WriteRefusal}
use Rattle.seat_steps.proofs.Visiting.{Goes}
use Rattle.seat_steps.specs.Answering.{HasHeard, HearsItsWrite, IsAnsweredAt, IsAnsweredFor, WriteHasHeard}
use Rattle.seat_steps.specs.Replies.{lane_replies}

-- a link that may do anything
abbrev any : Unit {0} → LinkEvent → Unit {0} → Type 0
any old call new = Unit {0}

-- a call of the link is wanted
abbrev IsWanted : StubNext → Type 0
IsWanted (next.Send brick) = Unit {0}
IsWanted (next.Receive brick) = Unit {0}
IsWanted next.Ended = ⊥

-- what is heard fits what is wanted
heard-fits : (ask : List ℕ) (n : StubNext) (link : LaneLink) → IsWanted n → IsTrue (fits n (told_of (heard_over lane_replies ask n link).0))
heard-fits ask (next.Send brick) link is = by (lane_replies.sends link brick ask).0 where
  by : (b : Bool) → IsTrue (fits (next.Send brick) (told_of (event_of_send b)))
  by true = refl
  by false = refl
heard-fits ask (next.Receive brick) link is = by (lane_replies.receives link brick).0 where
  by : (o : Option (List ℕ)) → IsTrue (fits (next.Receive brick) (told_of (event_of_receive o)))
  by None = refl
  by (Some frame) = refl
heard-fits ask next.Ended link is = absurd is

any-made : (ask : List ℕ) (n : StubNext) (e : StubEvent) → Made any tt (call_of ask n e) tt
any-made ask (next.Send brick) event.Sent = (tt, tt, refl)
any-made ask (next.Send brick) (event.Frame bytes) = refl
any-made ask (next.Send brick) event.Silent = (tt, tt, refl)
any-made ask (next.Receive brick) event.Sent = refl
any-made ask (next.Receive brick) (event.Frame bytes) = (tt, tt, refl)
any-made ask (next.Receive brick) event.Silent = (tt, tt, refl)
any-made ask next.Ended e = refl

machine-steps : {S : Type 0} (m : Machine S) (ask : List ℕ) (s : S) (link : LaneLink) → IsWanted (m.next s) → Steps m any ask s tt (machine_after m lane_replies ask s link).0 tt
machine-steps m ask s link is = record {
  event = (heard_over lane_replies ask (m.next s) link).0;
  fitting = heard-fits ask (m.next s) link is;
  made = any-made ask (m.next s) (heard_over lane_replies ask (m.next s) link).0;
  hears = refl;
}

-- where the link is wanted, a call of it is
nothing-wanted : (n : StubNext) → outside_or wanted.Nothing n ≡ wanted.Outside → IsWanted n
nothing-wanted (next.Send brick) e = tt
nothing-wanted (next.Receive brick) e = tt
nothing-wanted next.Ended e = absurd (cc)

windows-wanted : (n : StubNext) → outside_or wanted.Windows n ≡ wanted.Outside → IsWanted n
windows-wanted (next.Send brick) e = tt
windows-wanted (next.Receive brick) e = tt
windows-wanted next.Ended e = absurd (cc)

unanswered-wanted : (answer : Option (Result Cookie WriteRefusal)) (n : StubNext) → outside_or wanted.Nothing (next_unless answer n) ≡ wanted.Outside → IsWanted n
unanswered-wanted None n e = nothing-wanted n e
unanswered-wanted (Some answer) n e = absurd (cc)

way-steps : (to : SessionWay) (link : LaneLink) → wants to ≡ wanted.Outside → StepsOutside any to tt (way_outside lane_replies to link).0 tt
way-steps way.Resting link e = absurd (cc)
way-steps (way.Reading r) link e = (
  (machine_after read_machine lane_replies (encode_of (read_ask r)) r link).0,
  refl,
  machine-steps read_machine (encode_of (read_ask r)) r link (nothing-wanted (read_next r) e),
)
way-steps (way.Ordered order) link e = absurd (cc)
way-steps (way.Writing w) link e = (
  (machine_after write_machine lane_replies (encode_of w.write.ask) w.write link).0,
  refl,
  machine-steps write_machine (encode_of w.write.ask) w.write link (unanswered-wanted (write_answer w.write) (write_next w.write) e),
)
way-steps (way.Settling w) link e = (
  (machine_after write_machine lane_replies (encode_of w.write.ask) w.write link).0,
  refl,
  machine-steps write_machine (encode_of w.write.ask) w.write link (windows-wanted (write_next w.write) e),
)
way-steps (way.Holding passes) link e = absurd (cc)

fits-more : (s : WriteState) (events : List Told) (told : Told) → Fits write_machine s events → IsTrue (fits (write_machine.next (after write_machine s events)) told) → Fits write_machine s (events ++ told ∷ [])
fits-more s [] told h step = (step, tt)
fits-more s (e ∷ events) told (first, rest) step = (first, fits-more (write_machine.hear s e) events told rest step)

module _ (law : Stays) where
  module _ (here later : WriteState) (h : HasHeard here) (s : Steps write_machine any (encode_of here.ask) here tt later tt) where
    abbrev start : WriteState
    start = write_start h.bricks h.least h.nonce h.key h.value h.expiry

    abbrev told : Told
    told = told_of s.event

    fitting : Fits write_machine start (h.events ++ told ∷ [])
    fitting = fits-more start h.events told h.fitting (subst (λ (x : WriteState). IsTrue (fits (write_machine.next x) told)) h.here_is s.fitting)

    later-is : later ≡ after write_machine start (h.events ++ told ∷ [])
    later-is = s.hears ∙ (ap (λ (x : WriteState). write_machine.hear x told) h.here_is ∙ sym (fold-append write_machine.hear start h.events (told ∷ [])))

    heard-more : HasHeard later
    heard-more = record {
      bricks = h.bricks;
      least = h.least;
      nonce = h.nonce;
      key = h.key;
      value = h.value;
      expiry = h.expiry;
      events = h.events ++ told ∷ [];
      fitting = fitting;
      here_is = later-is;
    }

    answer-stays : (answer : Result Cookie WriteRefusal) → write_answer here ≡ Some answer → write_answer later ≡ Some answer
    answer-stays answer is =
        ap write_answer later-is
        ∙ law h.events (told ∷ []) h.bricks h.least h.nonce h.key h.value h.expiry answer fitting (sym (ap write_answer h.here_is) ∙ is)

  -- a write that is held has heard more then
  way-heard : (to to' : SessionWay) → StepsOutside any to tt to' tt → WriteHasHeard to → WriteHasHeard to'
  way-heard way.Resting to' s h = absurd s
  way-heard (way.Reading r) to' s h = subst WriteHasHeard (sym s.1) tt
  way-heard (way.Ordered order) to' s h = absurd s
  way-heard (way.Writing w) to' s h = subst WriteHasHeard (sym s.1) (heard-more w.write s.0 h s.2)
  way-heard (way.Settling w) to' s h = subst WriteHasHeard (sym s.1) (heard-more w.write s.0 h s.2)
  way-heard (way.Holding passes) to' s h = absurd s

  -- and the answer that it has
  way-answer : (to to' : SessionWay) → StepsOutside any to tt to' tt → WriteHasHeard to → (answer : Result Cookie WriteRefusal) → answer_held to ≡ Some answer → answer_held to' ≡ Some answer
  way-answer way.Resting to' s h answer is = absurd s
  way-answer (way.Reading r) to' s h answer is = absurd (cc)
  way-answer (way.Ordered order) to' s h answer is = absurd s
  way-answer (way.Writing w) to' s h answer is = ap answer_held s.1 ∙ answer-stays w.write s.0 h s.2 answer is
  way-answer (way.Settling w) to' s h answer is = ap answer_held s.1 ∙ answer-stays w.write s.0 h s.2 answer is
  way-answer (way.Holding passes) to' s h answer is = absurd s

  held-still : (to to' : SessionWay) → StepsOutside any to tt to' tt → WriteHasHeard to → answer_held to ≢ None → answer_held to' ≡ answer_held to
  held-still to to' s h some = by (answer_held to) refl where
    by : (o : Option (Result Cookie WriteRefusal)) → answer_held to ≡ o → answer_held to' ≡ answer_held to
    by None is = absurd (some is)
    by (Some answer) is = way-answer to to' s h answer is ∙ sym is

  fate-answered : (fate : Fate) (to to' : SessionWay) → StepsOutside any to tt to' tt → WriteHasHeard to → IsAnsweredFor fate to → IsAnsweredFor fate to'
  fate-answered (Known became) to to' s h has = tt
  fate-answered (Writing place again) to to' s h has = λ none. has (sym (held-still to to' s h has) ∙ none)

  work-answered : (work : Work ActionCall) (to to' : SessionWay) → StepsOutside any to tt to' tt → WriteHasHeard to → IsAnsweredAt work to → IsAnsweredAt work to'
  work-answered Reading to to' s h has = tt
  work-answered Opening to to' s h has = tt
  work-answered (ServingBy tries program) to to' s h has = tt
  work-answered (Committed place again shown) to to' s h has = tt
  work-answered (Decided became) to to' s h has = tt
  work-answered (Answered fate bytes) to to' s h has = fate-answered fate to to' s h has
  work-answered (Left fate) to to' s h has = fate-answered fate to to' s h has

  rests-not : (to : SessionWay) → to ≡ way.Resting → wants to ≡ wanted.Outside → ⊥
  rests-not to is e = let same : wants way.Resting ≡ wanted.Outside = sym (ap wants is) ∙ e in cc

  -- the cookie of a write that is settled stays
  cookie-stays : (marks : List WindowMark) (v : Visit ActionCall) (to' : SessionWay) → wants v.way ≡ wanted.Outside → StepsOutside any v.way tt to' tt → HearsItsWrite v → Marks marks v
      → (fate : Fate) → v.work ≡ Left fate → cookie_in (answer_held to') ≡ cookie_in (answer_held v.way)
  cookie-stays marks v to' e s h m (Known became) is =
      let left : MarksOf {P = ActionCall} marks v.cookie v.way (Left (Known became)) = subst (λ (x : Work ActionCall). MarksOf marks v.cookie v.way x) is m in
      absurd (rests-not v.way left.rests e)
  cookie-stays marks v to' e s h m (Writing place again) is =
      ap cookie_in (held-still v.way to' s h.heard (subst (λ (x : Work ActionCall). IsAnsweredAt x v.way) is h.answered))

  -- A request that made its step outside says what it said.
  pub outside-goes : (key : List ℕ) (history : List Event) (v : Visit ActionCall) (link : LaneLink) → visit_turn v ≡ visit.Outside → Goes key history v (outside lane_replies lane_link_tally v link).0
  unfolding outside
  outside-goes key history v link is =
      let e : wants v.way ≡ wanted.Outside = outside_wanted v.work (wants v.way) is in
      let s : StepsOutside any v.way tt (way_outside lane_replies v.way link).0 tt = way-steps v.way link e in
      record {
        facts = refl;
        left = λ x. x;
        early = λ x. x;
        still = λ marks sent h m says. record {
          marks = marks;
          marked = outside_marks any marks v.cookie v.way (way_outside lane_replies v.way link).0 tt tt v.work s m;
          says = outside_says key history sent v (way_outside lane_replies v.way link).0 (counted (lane_link_tally (way_outside lane_replies v.way link).1)) is
              (cookie-stays marks v (way_outside lane_replies v.way link).0 e s h m) says;
          hears = record {
            heard = way-heard v.way (way_outside lane_replies v.way link).0 s h.heard;
            answered = work-answered v.work v.way (way_outside lane_replies v.way link).0 s h.heard h.answered;
          };
        };
      }
