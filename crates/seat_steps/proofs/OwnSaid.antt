-- What a request does by itself leaves what it says, where the cookie that it shows has a text.
use Rattle.std.specs.Prelude.{IfSome}
use Rattle.std.specs.Option.{option_and_then}
use Rattle.std.proofs.Common.{◌≡◌, ◌≢◌, ◌⊎◌, inl, inr, ◌∙◌, ℕ, Bool, true, false, List, Option, Some, None, Result, Ok, Err, refl, sym, ap, subst}
use Rattle.auction_calls.specs.declared.action.ActionCall.{ActionCall}
use Rattle.container_core.specs.declared.history.Event.{Event}
use Rattle.crash_base.specs.declared.numbers.Place.{Place}
use Rattle.request_visit.proofs.Marking.{advance_marks}
use Rattle.request_visit.proofs.Saying.{advance_says}
use Rattle.request_visit.proofs.Turning.{own_nothing}
use Rattle.request_visit.specs.Advancing.{Advances, HearsReadOf, IsShown, cookie_in}
use Rattle.request_visit.specs.Marks.{Marks, MarksOf, WritesWith}
use Rattle.request_visit.specs.Says.{Says}
use Rattle.request_visit.specs.Visits.{turn as visit_turn, turn_by as visit_turn_by}
use Rattle.request_visit.specs.declared.facts.VisitFacts.{VisitFacts}
use Rattle.request_visit.specs.declared.ready.Shown.{Shown}
use Rattle.request_visit.specs.declared.visit.Turn.TheVariants as visit
use Rattle.request_visit.specs.declared.visit.Visit.{Visit}
use Rattle.request_visit.specs.declared.visit.Work.{Work}
use Rattle.request_visit.specs.declared.visit.Work.TheVariants.{Reading, Opening, Serving as ServingBy, Committed, Decided, Answered, Left}
use Rattle.send_windows.specs.declared.history.WindowMark.{WindowMark}
use Rattle.session_cookie.specs.Text.{IsTextOf}
use Rattle.session_cookie.specs.declared.cookie.Cookie.{Cookie}
use Rattle.session_way.specs.Way.{answer_held, wants}
use Rattle.session_way.specs.Writing.{WritingState}
use Rattle.session_way.specs.declared.session_read.ReadOutcome.{ReadOutcome}
use Rattle.session_way.specs.declared.session_read.ReadOutcome.TheVariants as read
use Rattle.session_way.specs.declared.way.SessionWay.{SessionWay}
use Rattle.session_way.specs.declared.way.SessionWay.TheVariants as way
use Rattle.session_way.specs.declared.way.Wants.TheVariants as wanted
use Rattle.shepherd.specs.Standing.{has_left, is_early}
use Rattle.shepherd_steps.specs.Own.{cookie_text, heard_read, outcome_by, outcome_of_read, own, own_by, response_by, told_read}
use Rattle.ssm_stub.specs.Reads.{ReadState, read_answer}
use Rattle.ssm_stub.specs.Writes.{write_answer}
use Rattle.ssm_stub.specs.declared.read_call.ReadRefusal.{ReadRefusal}
use Rattle.ssm_stub.specs.declared.read_call.ReadRefusal.TheVariants as refusal
use Rattle.seat_steps.proofs.Visiting.{Goes, SaysThen}
use Rattle.seat_steps.specs.Answering.{HasText, HearsItsWrite}

-- the law that a write that wants nothing more has its answer
abbrev pub WritesAnswer : Type 0
WritesAnswer = (w : WritingState) → wants (way.Writing w) ≡ wanted.Nothing → write_answer w.write ≢ None

-- a request heard what its read came to, or is as it was
abbrev Hears : ReadState → Visit ActionCall → Option (Result (List ℕ) ReadRefusal) → Type 0
Hears r v o = HearsReadOf (way.Reading r) v (told_read (option_and_then (outcome_by r) o) v) ⊎ (told_read (option_and_then (outcome_by r) o) v ≡ v)

hears-read : (r : ReadState) (v : Visit ActionCall) (o : Option (Result (List ℕ) ReadRefusal)) → read_answer r ≡ o → Hears r v o
hears-read r v None is = inr refl
hears-read r v (Some (Ok value)) is =
    inl (record { outcome = read.Found (record { key = r.key; value = value; expiry = r.expiry }); is_outcome = is; of_read = (refl, refl); new_is = refl })
hears-read r v (Some (Err (refusal.Expired now expiry))) is = inl (record { outcome = read.Expired now expiry; is_outcome = is; of_read = tt; new_is = refl })
hears-read r v (Some (Err (refusal.Lost causes))) is = inl (record { outcome = read.Lost causes; is_outcome = is; of_read = tt; new_is = refl })
hears-read r v (Some (Err refusal.OutOfMemory)) is = inr refl

heard-advances : (v : Visit ActionCall) (to : SessionWay) → HearsReadOf to v (heard_read to v) ⊎ (heard_read to v ≡ v)
heard-advances v way.Resting = inl refl
heard-advances v (way.Reading r) = hears-read r v (read_answer r) refl
heard-advances v (way.Ordered order) = inl refl
heard-advances v (way.Writing w) = inl refl
heard-advances v (way.Settling w) = inl refl
heard-advances v (way.Holding passes) = inl refl

-- what is shown is the response, where the cookie has a text
shows-text : (key : List ℕ) (facts : VisitFacts) (shown : Shown) (cookie : Option Cookie) → IfSome cookie (HasText key) → IsShown key facts shown cookie (response_by key facts shown cookie)
shows-text key facts shown None has = refl
shows-text key facts shown (Some cookie) has =
    let is : IsTextOf key cookie (cookie_text key cookie) = subst (λ (text : List ℕ). IsTextOf key cookie text) has.1.1.text_is has.1 in
    (cookie_text key cookie, is, refl)

-- the cookie of a request that is committed has a text
abbrev pub Texts : List ℕ → Visit ActionCall → Type 0
Texts key v = (place : Place) (again : Bool) (shown : Shown) → v.work ≡ Committed place again shown → IfSome (cookie_in (answer_held v.way)) (HasText key)

-- what is shown tells a text of the cookie
text-shown : (key : List ℕ) (facts : VisitFacts) (shown : Shown) (cookie : Option Cookie) (bytes : List ℕ) → IsShown key facts shown cookie bytes → IfSome cookie (HasText key)
text-shown key facts shown None bytes is = tt
text-shown key facts shown (Some cookie) bytes is = (is.0, is.1)

-- A request that advanced tells a text of the cookie that it shows.
pub advance-texts : (key : List ℕ) (v w : Visit ActionCall) → Advances key v v.work w → Texts key v
advance-texts key v w advances place again shown was =
    let heard : Advances key v (Committed place again shown) w = subst (λ (x : Work ActionCall). Advances key v x w) was advances in
    text-shown key v.facts shown (cookie_in (answer_held v.way)) heard.bytes heard.is_shown

module _ (answers : WritesAnswer) (key : List ℕ) (history : List Event) (v : Visit ActionCall) where
  own-advances : Texts key v → Advances key v v.work (own key v) ⊎ (own key v ≡ v)
  unfolding own
  own-advances texts = by v.work refl where
    by : (w : Work ActionCall) → v.work ≡ w → Advances key v w (own_by key v w) ⊎ (own_by key v w ≡ v)
    by Reading was = heard-advances v v.way
    by Opening was = inl refl
    by (ServingBy tries program) was = inl refl
    by (Committed place again shown) was = inl (record {
      bytes = response_by key v.facts shown (cookie_in (answer_held v.way));
      is_shown = shows-text key v.facts shown (cookie_in (answer_held v.way)) (texts place again shown was);
      new_is = refl;
    })
    by (Decided became) was = inl refl
    by (Answered fate bytes) was = inl refl
    by (Left fate) was = inl refl

  -- a request by itself has what it had, and puts nothing out

  read-facts : (o : Option ReadOutcome) → (told_read o v).facts ≡ v.facts
  read-facts None = refl
  read-facts (Some (read.Found lease)) = refl
  read-facts (Some (read.Expired now expiry)) = refl
  read-facts (Some (read.Lost causes)) = refl

  heard-facts : (to : SessionWay) → (heard_read to v).facts ≡ v.facts
  heard-facts way.Resting = refl
  heard-facts (way.Reading r) = read-facts (outcome_of_read r)
  heard-facts (way.Ordered order) = refl
  heard-facts (way.Writing w) = refl
  heard-facts (way.Settling w) = refl
  heard-facts (way.Holding passes) = refl

  own-facts : (own key v).facts ≡ v.facts
  unfolding own
  own-facts = by v.work where
    by : (w : Work ActionCall) → (own_by key v w).facts ≡ v.facts
    by Reading = heard-facts v.way
    by Opening = refl
    by (ServingBy tries program) = refl
    by (Committed place again shown) = refl
    by (Decided became) = refl
    by (Answered fate bytes) = refl
    by (Left fate) = refl

  own-left : has_left (own key v).work ≡ false → has_left v.work ≡ false
  unfolding own
  own-left e = by v.work refl e where
    by : (w : Work ActionCall) → v.work ≡ w → has_left (own_by key v w).work ≡ false → has_left v.work ≡ false
    by Reading was e = ap has_left was
    by Opening was e = e
    by (ServingBy tries program) was e = e
    by (Committed place again shown) was e = ap has_left was
    by (Decided became) was e = ap has_left was
    by (Answered fate bytes) was e = e
    by (Left fate) was e = e

  own-early : is_early (own key v).work ≡ true → is_early v.work ≡ true
  unfolding own
  own-early e = by v.work refl e where
    by : (w : Work ActionCall) → v.work ≡ w → is_early (own_by key v w).work ≡ true → is_early v.work ≡ true
    by Reading was e = ap is_early was
    by Opening was e = e
    by (ServingBy tries program) was e = e
    by (Committed place again shown) was e = absurd (cc)
    by (Decided became) was e = absurd (cc)
    by (Answered fate bytes) was e = e
    by (Left fate) was e = e

  -- a write that a response is made by has its answer
  writing-answers : (marks : List WindowMark) (to : SessionWay) → WritesWith marks to → wants to ≡ wanted.Nothing → answer_held to ≢ None
  writing-answers marks way.Resting m e = absurd m
  writing-answers marks (way.Reading r) m e = absurd m
  writing-answers marks (way.Ordered order) m e = absurd (cc)
  writing-answers marks (way.Writing w) m e = answers w e
  writing-answers marks (way.Settling w) m e = absurd m
  writing-answers marks (way.Holding passes) m e = absurd m

  read-hears : (o : Option ReadOutcome) → HearsItsWrite v → HearsItsWrite (told_read o v)
  read-hears None h = h
  read-hears (Some (read.Found lease)) h = record { heard = tt; answered = tt }
  read-hears (Some (read.Expired now expiry)) h = record { heard = tt; answered = tt }
  read-hears (Some (read.Lost causes)) h = record { heard = tt; answered = tt }

  heard-hears : (to : SessionWay) → HearsItsWrite v → HearsItsWrite (heard_read to v)
  heard-hears way.Resting h = record { heard = h.heard; answered = tt }
  heard-hears (way.Reading r) h = read-hears (outcome_of_read r) h
  heard-hears (way.Ordered order) h = record { heard = h.heard; answered = tt }
  heard-hears (way.Writing w) h = record { heard = h.heard; answered = tt }
  heard-hears (way.Settling w) h = record { heard = h.heard; answered = tt }
  heard-hears (way.Holding passes) h = record { heard = h.heard; answered = tt }

  own-hears : visit_turn v ≡ visit.Own → (marks : List WindowMark) → Marks marks v → HearsItsWrite v → HearsItsWrite (own key v)
  unfolding own
  own-hears turned marks m h = by v.work refl where
    by : (w : Work ActionCall) → v.work ≡ w → HearsItsWrite (own_by key v w)
    by Reading was = heard-hears v.way h
    by Opening was = h
    by (ServingBy tries program) was = h
    by (Committed place again shown) was =
        let so : MarksOf {P = ActionCall} marks v.cookie v.way (Committed place again shown) = subst (λ (x : Work ActionCall). MarksOf marks v.cookie v.way x) was m in
        let own_turn : visit_turn_by {P = ActionCall} (Committed place again shown) (wants v.way) ≡ visit.Own = sym (ap (λ (x : Work ActionCall). visit_turn_by x (wants v.way)) was) ∙ turned in
        record { heard = h.heard; answered = writing-answers marks v.way so.1 (own_nothing (wants v.way) own_turn) }
    by (Decided became) was = record { heard = h.heard; answered = tt }
    by (Answered fate bytes) was = h
    by (Left fate) was = h

  -- A request that went on by itself says what became of it.
  pub own-goes : visit_turn v ≡ visit.Own → Texts key v → Goes key history v (own key v)
  own-goes turned texts = record {
    facts = own-facts;
    left = own-left;
    early = own-early;
    still = λ marks sent h m says. by marks sent h m says (own-advances texts);
  } where
    by : (marks : List WindowMark) (sent : List ℕ) → HearsItsWrite v → Marks marks v → Says key history sent v → Advances key v v.work (own key v) ⊎ (own key v ≡ v) → SaysThen key history sent (own key v)
    by marks sent h m says (inl advances) = record {
      marks = marks;
      marked = advance_marks marks key v (own key v) turned advances m;
      says = advance_says key history sent v (own key v) advances says;
      hears = own-hears turned marks m h;
    }
    by marks sent h m says (inr same) = subst (λ (w : Visit ActionCall). SaysThen key history sent w) (sym same) (record { marks = marks; marked = m; says = says; hears = h })
