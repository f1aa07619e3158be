-- A connection answers its requests behind a step of the one that is open, where that says still what became of it.
use Rattle.std.proofs.Common.{◌≡◌, ◌≢◌, ◌<◌, ◌∙◌, ℕ, Bool, true, false, if◌then◌else◌, List, ◌++◌, Option, Some, None, refl, sym, ap, subst}
use Rattle.auction_calls.specs.declared.action.ActionCall.{ActionCall}
use Rattle.container_core.specs.declared.history.Event.{Event}
use Rattle.http_wire.specs.Requests.{closed, ended, requests}
use Rattle.http_wire.specs.declared.taken.Head.{Head}
use Rattle.outcome_items.specs.declared.item.Item.{Item}
use Rattle.outside.specs.declared.clock.TheConstants.{MOMENTS_END}
use Rattle.request_visit.specs.Marks.{Marks}
use Rattle.request_visit.specs.Says.{Says}
use Rattle.request_visit.specs.Visits.{turn as visit_turn}
use Rattle.request_visit.specs.declared.facts.VisitFacts.{VisitFacts}
use Rattle.request_visit.specs.declared.visit.Turn.{Turn}
use Rattle.request_visit.specs.declared.visit.Turn.TheVariants as visit
use Rattle.request_visit.specs.declared.visit.Visit.{Visit}
use Rattle.send_windows.specs.declared.history.WindowMark.{WindowMark}
use Rattle.shepherd.specs.Answering.{Answering, SaysSo, StageSays}
use Rattle.shepherd.specs.Shepherds.{stage_turn, turn, turn_by}
use Rattle.shepherd.specs.Standing.{IsOpen, IsOpenFor, Standing, all_before, coming, has_left, heads_of, is_early}
use Rattle.shepherd.specs.declared.shepherd.AskedCall.{AskedCall}
use Rattle.shepherd.specs.declared.shepherd.EndKind.TheVariants as ends
use Rattle.shepherd.specs.declared.shepherd.Shepherd.{Shepherd}
use Rattle.shepherd.specs.declared.shepherd.ShepherdTurn.{ShepherdTurn}
use Rattle.shepherd.specs.declared.shepherd.ShepherdTurn.TheVariants as turns
use Rattle.shepherd.specs.declared.shepherd.Stage.{Stage}
use Rattle.shepherd.specs.declared.shepherd.Stage.TheVariants.{Resting, Serving, Refusing, Over}
use Rattle.shepherd_steps.specs.Stepping.{steps_in}
use Rattle.seat_steps.specs.Answering.{HearsItsWrite, SeatAnswers, StageHears}

-- What a request says then, and the marks that it has left.
pub record SaysThen (key : List ℕ) (history : List Event) (sent : List ℕ) (w : Visit ActionCall) : Type 0 where
  pub marks : List WindowMark
  pub marked : Marks marks w
  pub says : Says key history sent w
  pub hears : HearsItsWrite w

-- A request made a step, and says still what became of it.
pub record Goes (key : List ℕ) (history : List Event) (v w : Visit ActionCall) : Type 0 where
  pub facts : w.facts ≡ v.facts
  pub left : has_left w.work ≡ false → has_left v.work ≡ false
  pub early : is_early w.work ≡ true → is_early v.work ≡ true
  pub still : (marks : List WindowMark) (sent : List ℕ) → HearsItsWrite v → Marks marks v → Says key history sent v → SaysThen key history sent w

-- a request that is as it was
pub goes-still : (key : List ℕ) (history : List Event) (v : Visit ActionCall) → Goes key history v v
goes-still key history v = record {
  facts = refl;
  left = λ e. e;
  early = λ e. e;
  still = λ marks sent hears marked says. record { marks = marks; marked = marked; says = says; hears = hears };
}

-- the turn of the request that is open, by whose step is next
abbrev pub visit_of : ShepherdTurn → Option Turn
visit_of turns.Bytes = None
visit_of turns.Request = None
visit_of turns.Outside = Some visit.Outside
visit_of turns.Windows = Some visit.Windows
visit_of turns.Inside = Some visit.Inside
visit_of turns.Program = Some visit.Program
visit_of turns.Own = Some visit.Own
visit_of turns.Output = Some visit.Output
visit_of turns.Item = Some visit.Over
visit_of (turns.Ended end) = None

back : (t wanted : Turn) → visit_of (turn_by t) ≡ Some wanted → t ≡ wanted
back visit.Outside wanted is = cc
back visit.Windows wanted is = cc
back visit.Inside wanted is = cc
back visit.Program wanted is = cc
back visit.Own wanted is = cc
back visit.Output wanted is = cc
back visit.Over wanted is = cc

-- the turn of a request that is open
pub turned : (s : Shepherd ActionCall) (v : Visit ActionCall) (call : Option AskedCall) (wanted : Turn) → s.stage ≡ Serving v call → visit_of (turn s) ≡ Some wanted → visit_turn v ≡ wanted
turned s v call wanted was is = by s.wants_memory is where
  by : (m : Bool) → visit_of (if m then turns.Ended ends.OutOfMemory else stage_turn s.stage s.received s.ended) ≡ Some wanted → visit_turn v ≡ wanted
  by true e = absurd (cc)
  by false e = back (visit_turn v) wanted (ap (λ (x : Stage ActionCall). visit_of (stage_turn x s.received s.ended)) (sym was) ∙ e)

module _ (key : List ℕ) (history : List Event) (fed : List ℕ) (heads : List Head) (written : List ℕ) (items : List Item) (s : Shepherd ActionCall) where
  module _ (v w : Visit ActionCall) (call to : Option AskedCall) (was : s.stage ≡ Serving v call) (goes : Goes key history v w) where
    open-stands : ((is_early v.work ≡ true → call ≢ None) → is_early w.work ≡ true → to ≢ None) → Standing fed heads written items s → Standing fed heads written items (record s { stage = Serving w to })
    open-stands asked h =
        let is : IsOpenFor s.front v call h.opened h.sent = subst (λ (x : Stage ActionCall). IsOpen s.front x h.opened h.sent) was h.is_open in
        record {
          served = h.served;
          opened = h.opened;
          sent = h.sent;
          heads_are = h.heads_are;
          items_are = h.items_are;
          requests_are = λ more.
              h.requests_are more
              ∙ (ap (λ (x : Stage ActionCall). all_before (heads_of h.served ++ h.opened) (coming x (s.received ++ more))) was
              ∙ ap (λ (f : VisitFacts). all_before (heads_of h.served ++ h.opened) (if f.close then ended closed else requests (s.received ++ more))) (sym goes.facts));
          written_is = h.written_is;
          is_open = record {
            head = is.head;
            opened_is = is.opened_is;
            close_is = ap (λ (f : VisitFacts). f.close) goes.facts ∙ is.close_is;
            head_only_is = ap (λ (f : VisitFacts). f.head_only) goes.facts ∙ is.head_only_is;
            front_is = ap (λ (f : VisitFacts). f.front) goes.facts ∙ is.front_is;
            small = subst (λ (f : VisitFacts). f.now.0 < MOMENTS_END) (sym goes.facts) is.small;
            sent_is = λ e. is.sent_is (goes.left e);
            asked = asked is.asked;
          };
          front_is = h.front_is;
        }

    open-answers : HearsItsWrite v → Answering key history heads written items s → Answering key history heads written items (record s { stage = Serving w to }) × HearsItsWrite w
    open-answers hears h =
        let t : SaysSo key history h.opened h.sent v = subst (λ (x : Stage ActionCall). StageSays key history h.opened h.sent x) was h.says in
        let now : SaysThen key history h.sent w = goes.still t.marks h.sent hears t.marks_are t.says in (
          record {
            answered = h.answered;
            opened = h.opened;
            sent = h.sent;
            heads_are = h.heads_are;
            items_are = h.items_are;
            written_is = h.written_is;
            said = h.said;
            says = record {
              head = t.head;
              opened_is = t.opened_is;
              for_head = record {
                close_is = ap (λ (f : VisitFacts). f.close) goes.facts ∙ t.for_head.close_is;
                head_only_is = ap (λ (f : VisitFacts). f.head_only) goes.facts ∙ t.for_head.head_only_is;
              };
              marks = now.marks;
              marks_are = now.marked;
              says = now.says;
              unsent = λ e. t.unsent (goes.left e);
            };
          },
          now.hears,
        )

    -- A connection whose request made a step answers its requests.
    pub open-goes : ((is_early v.work ≡ true → call ≢ None) → is_early w.work ≡ true → to ≢ None) → SeatAnswers key history fed heads written items s → SeatAnswers key history fed heads written items (record s { stage = Serving w to })
    open-goes asked h =
        let both = open-answers (subst StageHears was h.hears) h.answers in
        record { stands = open-stands asked h.stands; answers = both.0; hears = both.1 }

  same-stage : (x : Stage ActionCall) → s.stage ≡ x → SeatAnswers key history fed heads written items s → SeatAnswers key history fed heads written items (record s { stage = x })
  same-stage x was h = subst (λ (y : Stage ActionCall). SeatAnswers key history fed heads written items (record s { stage = y })) was h

  -- So it does where the request that is open, if one is, made a step in something.
  pub stage-goes : {X : Type 0} (step : Visit ActionCall → X → Visit ActionCall × X) (x : X) → ((v : Visit ActionCall) (call : Option AskedCall) → s.stage ≡ Serving v call → Goes key history v (step v x).0)
      → SeatAnswers key history fed heads written items s → SeatAnswers key history fed heads written items (record s { stage = (steps_in step s.stage x).0 })
  stage-goes step x goes h = by s.stage refl where
    by : (stage : Stage ActionCall) → s.stage ≡ stage → SeatAnswers key history fed heads written items (record s { stage = (steps_in step stage x).0 })
    by Resting was = same-stage Resting was h
    by (Serving v call) was =
        let g : Goes key history v (step v x).0 = goes v call was in
        open-goes v (step v x).0 call call was g (λ asked e. asked (g.early e)) h
    by (Refusing why bytes) was = same-stage (Refusing why bytes) was h
    by (Over end) was = same-stage (Over end) was h
