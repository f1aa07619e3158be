-- A connection that takes what its bytes begin with answers its requests.
use Rattle.std.proofs.Common.{◌≡◌, ◌≢◌, ◌<◌, ◌∙◌, ℕ, Bool, true, false, if◌then◌else◌, List, [], ◌∷◌, ◌++◌, append-nil, append_assoc, drop, Option, Some, None, refl, sym, ap, subst}
use Rattle.auction_calls.specs.declared.action.ActionCall.{ActionCall}
use Rattle.container_core.specs.History.{entries_in}
use Rattle.container_core.specs.declared.history.Event.{Event}
use Rattle.crash_base.specs.declared.numbers.Moment.{Moment}
use Rattle.crash_base.specs.declared.numbers.Place.{Place}
use Rattle.http_wire.specs.Requests.{Requests, bad, before, body_too_long, closed, ended, no_coding, requests, too_long}
use Rattle.http_wire.specs.Taking.{taken_of}
use Rattle.http_wire.specs.declared.taken.Head.{Head}
use Rattle.http_wire.specs.declared.taken.Taken.{Taken}
use Rattle.http_wire.specs.declared.taken.Taken.TheVariants as took
use Rattle.outcome_items.specs.Answers.{is_head_only}
use Rattle.outcome_items.specs.declared.item.Item.{Item}
use Rattle.outside.specs.declared.clock.TheConstants.{MOMENTS_END}
use Rattle.outside.specs.declared.link.LinkCounts.{LinkCounts}
use Rattle.request_intake.specs.declared.intake.Admission.{Admission}
use Rattle.request_intake.specs.declared.intake.Arrival.{Arrival}
use Rattle.request_intake.specs.declared.intake.Arrival.TheVariants as arrives
use Rattle.request_visit.proofs.Marking.{begun_marks}
use Rattle.request_visit.proofs.Saying.{same_says}
use Rattle.request_visit.specs.Marks.{MarksOf}
use Rattle.request_visit.specs.Says.{SaysOf}
use Rattle.request_visit.specs.Visits.{begun, turn as visit_turn}
use Rattle.request_visit.specs.declared.facts.VisitFacts.{VisitFacts}
use Rattle.request_visit.specs.declared.visit.Turn.{Turn}
use Rattle.request_visit.specs.declared.visit.Turn.TheVariants as visit
use Rattle.request_visit.specs.declared.visit.Visit.{Visit}
use Rattle.request_visit.specs.declared.visit.Work.{Work}
use Rattle.request_visit.specs.declared.visit.Work.TheVariants.{Reading, Opening, Decided}
use Rattle.session_cookie.specs.declared.cookie.Cookie.{Cookie}
use Rattle.session_way.specs.declared.way.SessionWay.{SessionWay}
use Rattle.session_way.specs.declared.way.SessionWay.TheVariants as way
use Rattle.shepherd.specs.Answering.{SaysSo, StageSays, answered_bytes, answered_heads, heads_in}
use Rattle.shepherd.specs.Shepherds.{stage_turn, turn, turn_by}
use Rattle.shepherd.specs.Standing.{IsOpen, IsOpenFor, all_before, coming, heads_of, is_early, responses_of}
use Rattle.shepherd.specs.Steps.{admitted_visit, asked_call, bare_facts, begun_by, facts_of}
use Rattle.shepherd.specs.declared.shepherd.AskedCall.{AskedCall}
use Rattle.shepherd.specs.declared.shepherd.EndKind.TheVariants as ends
use Rattle.shepherd.specs.declared.shepherd.Shepherd.{Shepherd}
use Rattle.shepherd.specs.declared.shepherd.ShepherdTurn.{ShepherdTurn}
use Rattle.shepherd.specs.declared.shepherd.ShepherdTurn.TheVariants as turns
use Rattle.shepherd.specs.declared.shepherd.Stage.{Stage}
use Rattle.shepherd.specs.declared.shepherd.Stage.TheVariants.{Resting, Serving, Refusing, Over}
use Rattle.shepherd_steps.specs.Taking.{Counts, Service, arrives_by, take_request, takes_by}
use Rattle.outcome_items.specs.declared.outcome.ItemOutcome.TheVariants as item
use Rattle.ssm_stub.specs.Reads.{read_start}
use Rattle.seat_steps.specs.Answering.{HearsItsWrite, IsAnsweredAt, SeatAnswers, StageHears, WriteHasHeard}

-- the laws by which the requests of bytes are those of their parts
pub record RequestLaws : Type 0 where
  pub next : (bytes more : List ℕ) (head : Head) → taken_of bytes ≡ took.Request head → head.close ≡ false → requests (bytes ++ more) ≡ before head (requests (drop head.len bytes ++ more))
  pub last : (bytes more : List ℕ) (head : Head) → taken_of bytes ≡ took.Request head → head.close ≡ true → requests (bytes ++ more) ≡ before head (ended closed)
  pub refused : (bytes more : List ℕ) → taken_of bytes ≡ took.Bad → requests (bytes ++ more) ≡ ended bad
  pub long : (bytes more : List ℕ) (len lines : ℕ) → taken_of bytes ≡ took.TooLong len lines → requests (bytes ++ more) ≡ ended too_long
  pub coded : (bytes more : List ℕ) → taken_of bytes ≡ took.NoCoding → requests (bytes ++ more) ≡ ended no_coding
  pub long_body : (bytes more : List ℕ) (said : ℕ) → taken_of bytes ≡ took.BodyTooLong said → requests (bytes ++ more) ≡ ended body_too_long

-- whether a request is to be taken
abbrev is-request : ShepherdTurn → Bool
is-request turns.Bytes = false
is-request turns.Request = true
is-request turns.Outside = false
is-request turns.Windows = false
is-request turns.Inside = false
is-request turns.Program = false
is-request turns.Own = false
is-request turns.Output = false
is-request turns.Item = false
is-request (turns.Ended end) = false

none-taken : (t : Turn) → is-request (turn_by t) ≡ false
none-taken visit.Outside = refl
none-taken visit.Windows = refl
none-taken visit.Inside = refl
none-taken visit.Program = refl
none-taken visit.Own = refl
none-taken visit.Output = refl
none-taken visit.Over = refl

-- a request is taken where none is open
resting-then : (s : Shepherd ActionCall) → turn s ≡ turns.Request → s.stage ≡ Resting
resting-then s is = by s.wants_memory (ap is-request is) where
  at : (stage : Stage ActionCall) → is-request (stage_turn stage s.received s.ended) ≡ true → stage ≡ Resting
  at Resting e = refl
  at (Serving v call) e = absurd (let none = none-taken (visit_turn v) in cc)
  at (Refusing why bytes) e = absurd (cc)
  at (Over end) e = absurd (cc)

  by : (m : Bool) → is-request (if m then turns.Ended ends.OutOfMemory else stage_turn s.stage s.received s.ended) ≡ true → s.stage ≡ Resting
  by true e = absurd (cc)
  by false e = at s.stage e

-- A request of this head is open at a stage, and nothing was put out for it.
record Opened (key : List ℕ) (history : List Event) (front : Place) (head : Head) (stage : Stage ActionCall) : Type 0 where
  visit : Visit ActionCall
  call : Option AskedCall
  stage_is : stage ≡ Serving visit call
  is_open : IsOpenFor front visit call (head ∷ []) []
  close : visit.facts.close ≡ head.close
  so : SaysSo key history (head ∷ []) [] visit
  hears : HearsItsWrite visit

module _ (key : List ℕ) (history : List Event) (front : Place) (counts : LinkCounts) (head : Head) (now : Moment) (small : now.0 < MOMENTS_END) where
  opened-so : (facts : VisitFacts) (w : SessionWay) (work : Work ActionCall) (call : Option AskedCall) → facts.close ≡ head.close → facts.head_only ≡ is_head_only head.method → facts.front ≡ front → facts.now ≡ now
      → (is_early work ≡ true → call ≢ None) → MarksOf [] None w work → SaysOf key (entries_in []) facts None w [] work → WriteHasHeard w → IsAnsweredAt work w → Opened key history front head (Serving (begun facts counts w work) call)
  opened-so facts w work call close head_only is_front is_now asked marked says heard answered = record {
    visit = begun facts counts w work;
    call = call;
    stage_is = refl;
    is_open = record {
      head = head;
      opened_is = refl;
      close_is = close;
      head_only_is = head_only;
      front_is = is_front;
      small = subst (λ (m : Moment). m.0 < MOMENTS_END) (sym is_now) small;
      sent_is = λ e. refl;
      asked = asked;
    };
    close = close;
    so = record {
      head = head;
      opened_is = refl;
      for_head = record { close_is = close; head_only_is = head_only };
      marks = [];
      marks_are = begun_marks (begun facts counts w work) facts counts w work refl marked;
      says = same_says key history facts counts w work (begun facts counts w work) refl says;
      unsent = λ e. refl;
    };
    hears = record { heard = heard; answered = answered };
  }

  admitted-opens : (a : Admission) (cookie : Option Cookie) → Opened key history front head (admitted_visit (facts_of a now front head) counts a cookie)
  admitted-opens a None =
      opened-so (facts_of a now front head) way.Resting Opening (Some (asked_call a)) refl refl refl refl (λ e none. cc) (refl, record { rests = refl; marks_are = refl }) refl tt tt
  admitted-opens a (Some cookie) =
      opened-so (facts_of a now front head) (way.Reading (read_start now a.read cookie)) Reading (Some (asked_call a)) refl refl refl refl (λ e none. cc) (refl, refl, tt) refl tt tt

  begun-opens : (arrival : Arrival) → Opened key history front head (begun_by front counts head now arrival)
  begun-opens (arrives.Refused why) =
      opened-so (bare_facts None now front head) way.Resting (Decided (item.Refused why)) None refl refl refl refl (λ e. absurd (cc)) (refl, record { rests = refl; marks_are = refl }) (refl, λ p. p) tt tt
  begun-opens (arrives.SerialsSpent request seen) =
      opened-so (bare_facts request now front head) way.Resting (Decided (item.SerialsSpent seen)) None refl refl refl refl (λ e. absurd (cc)) (refl, record { rests = refl; marks_are = refl }) (refl, λ p. p) tt tt
  begun-opens (arrives.Admitted a) = admitted-opens a a.cookie

module _ (laws : RequestLaws) (key : List ℕ) (history : List Event) (fed : List ℕ) (heads : List Head) (written : List ℕ) (items : List Item) (s : Shepherd ActionCall) (rest : s.stage ≡ Resting) (h : SeatAnswers key history fed heads written items s) where
  -- nothing is open, and nothing was put out behind the items
  open-none : (h.stands.opened ≡ []) × (h.stands.sent ≡ [])
  open-none = subst (λ (x : Stage ActionCall). IsOpen s.front x h.stands.opened h.stands.sent) rest h.stands.is_open

  says-none : (h.answers.opened ≡ []) × (h.answers.sent ≡ [])
  says-none = subst (λ (x : Stage ActionCall). StageSays key history h.answers.opened h.answers.sent x) rest h.answers.says

  still-to-come : (more : List ℕ) → requests (fed ++ more) ≡ all_before (heads_of h.stands.served ++ h.stands.opened) (requests (s.received ++ more))
  still-to-come more =
      subst (λ (x : Stage ActionCall). requests (fed ++ more) ≡ all_before (heads_of h.stands.served ++ h.stands.opened) (coming x (s.received ++ more))) rest (h.stands.requests_are more)

  composes : (more : List ℕ) (head : Head) → taken_of s.received ≡ took.Request head → requests (s.received ++ more) ≡ before head (if head.close then ended closed else requests (drop head.len s.received ++ more))
  composes more head is = by head.close refl where
    by : (b : Bool) → head.close ≡ b → requests (s.received ++ more) ≡ before head (if b then ended closed else requests (drop head.len s.received ++ more))
    by true e = laws.last s.received more head is e
    by false e = laws.next s.received more head is e

  one-more : (hs opened : List Head) (head : Head) (r : Requests) → opened ≡ [] → all_before (hs ++ opened) (before head r) ≡ all_before (hs ++ head ∷ []) r
  one-more hs opened head r none =
      ap (λ (xs : List Head). all_before xs (before head r)) (ap (λ (xs : List Head). hs ++ xs) none ∙ append-nil hs)
      ∙ ap (λ (xs : List Head). let x : Requests = record { heads = xs; ending = r.ending } in x) (sym (append_assoc hs (head ∷ []) r.heads))

  request-taken : (head : Head) (stage : Stage ActionCall) → taken_of s.received ≡ took.Request head → Opened key history s.front head stage
      → SeatAnswers key history fed (heads ++ head ∷ []) written items (record s { received = drop head.len s.received; stage = stage })
  request-taken head stage is g =
      subst (λ (x : Stage ActionCall). SeatAnswers key history fed (heads ++ head ∷ []) written items (record s { received = drop head.len s.received; stage = x })) (sym g.stage_is) (record {
        stands = record {
          served = h.stands.served;
          opened = head ∷ [];
          sent = [];
          heads_are = ap (λ (hs : List Head). hs ++ head ∷ []) (h.stands.heads_are ∙ (ap (λ (hs : List Head). heads_of h.stands.served ++ hs) open-none.0 ∙ append-nil (heads_of h.stands.served)));
          items_are = h.stands.items_are;
          requests_are = λ more.
              still-to-come more
              ∙ (ap (λ (r : Requests). all_before (heads_of h.stands.served ++ h.stands.opened) r) (composes more head is)
              ∙ (one-more (heads_of h.stands.served) h.stands.opened head (if head.close then ended closed else requests (drop head.len s.received ++ more)) open-none.0
              ∙ ap (λ (b : Bool). all_before (heads_of h.stands.served ++ head ∷ []) (if b then ended closed else requests (drop head.len s.received ++ more))) (sym g.close)));
          written_is = h.stands.written_is ∙ ap (λ (bs : List ℕ). responses_of h.stands.served ++ bs) open-none.1;
          is_open = g.is_open;
          front_is = h.stands.front_is;
        };
        answers = record {
          answered = h.answers.answered;
          opened = head ∷ [];
          sent = [];
          heads_are = ap (λ (hs : List Head). hs ++ head ∷ []) (h.answers.heads_are ∙ (ap (λ (hs : List Head). answered_heads h.answers.answered ++ hs) says-none.0 ∙ append-nil (answered_heads h.answers.answered)));
          items_are = h.answers.items_are;
          written_is = h.answers.written_is ∙ ap (λ (bs : List ℕ). answered_bytes h.answers.answered ++ bs) says-none.1;
          said = h.answers.said;
          says = g.so;
        };
        hears = g.hears;
      })

  none-more : (to : Stage ActionCall) → ((more : List ℕ) → requests (s.received ++ more) ≡ coming to (s.received ++ more)) → IsOpen s.front to h.stands.opened h.stands.sent
      → StageSays key history h.answers.opened h.answers.sent to → StageHears to → SeatAnswers key history fed (heads ++ []) written items (record s { stage = to })
  none-more to end opened says hears = record {
    stands = record {
      served = h.stands.served;
      opened = h.stands.opened;
      sent = h.stands.sent;
      heads_are = append-nil heads ∙ h.stands.heads_are;
      items_are = h.stands.items_are;
      requests_are = λ more. still-to-come more ∙ ap (λ (r : Requests). all_before (heads_of h.stands.served ++ h.stands.opened) r) (end more);
      written_is = h.stands.written_is;
      is_open = opened;
      front_is = h.stands.front_is;
    };
    answers = record {
      answered = h.answers.answered;
      opened = h.answers.opened;
      sent = h.answers.sent;
      heads_are = append-nil heads ∙ h.answers.heads_are;
      items_are = h.answers.items_are;
      written_is = h.answers.written_is;
      said = h.answers.said;
      says = says;
    };
    hears = hears;
  }

  -- A connection took what its bytes begin with.
  pub takes : (service : Service) (seen : LinkCounts) (now : Moment) (counts : Counts) → now.0 < MOMENTS_END
      → SeatAnswers key history fed (heads ++ heads_in (taken_of s.received)) written items (take_request service seen now s counts).0
  unfolding take_request
  takes service seen now counts small = by (taken_of s.received) refl where
    by : (t : Taken) → taken_of s.received ≡ t → SeatAnswers key history fed (heads ++ heads_in t) written items (takes_by service seen now t s counts).0
    by (took.Request head) is =
        request-taken head (begun_by s.front seen head now (arrives_by service now (service.decides head) counts).0) is
        (begun-opens key history s.front seen head now small (arrives_by service now (service.decides head) counts).0)
    by took.Bad is = none-more (takes_by service seen now took.Bad s counts).0.stage (λ more. laws.refused s.received more is) (open-none.0, open-none.1, refl) (says-none.0, says-none.1, refl) tt
    by (took.TooLong len lines) is = none-more (takes_by service seen now (took.TooLong len lines) s counts).0.stage (λ more. laws.long s.received more len lines is) (open-none.0, open-none.1, refl) (says-none.0, says-none.1, refl) tt
    by took.NoCoding is = none-more (takes_by service seen now took.NoCoding s counts).0.stage (λ more. laws.coded s.received more is) (open-none.0, open-none.1, refl) (says-none.0, says-none.1, refl) tt
    by (took.BodyTooLong said) is = none-more (takes_by service seen now (took.BodyTooLong said) s counts).0.stage (λ more. laws.long_body s.received more said is) (open-none.0, open-none.1, refl) (says-none.0, says-none.1, refl) tt
    by took.More is = subst (λ (hs : List Head). SeatAnswers key history fed hs written items s) (sym (append-nil heads)) h

-- A request is taken where it is its turn.
pub takes-request : (laws : RequestLaws) (key : List ℕ) (history : List Event) (fed : List ℕ) (heads : List Head) (written : List ℕ) (items : List Item) (s : Shepherd ActionCall) → turn s ≡ turns.Request
    → SeatAnswers key history fed heads written items s → (service : Service) (seen : LinkCounts) (now : Moment) (counts : Counts) → now.0 < MOMENTS_END
    → SeatAnswers key history fed (heads ++ heads_in (taken_of s.received)) written items (take_request service seen now s counts).0
takes-request laws key history fed heads written items s turned h service seen now counts small =
    takes laws key history fed heads written items s (resting-then s turned) h service seen now counts small
