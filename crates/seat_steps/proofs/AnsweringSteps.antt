-- A connection of a scenario answers its requests behind each step.
use Rattle.std.specs.Option.{option_map}
use Rattle.std.proofs.Common.{◌≡◌, ◌<◌, ◌∙◌, ℕ, Bool, true, false, List, [], ◌∷◌, ◌++◌, append-nil, append_assoc, Option, Some, None, refl, sym, ap, subst}
use Rattle.auction_calls.specs.declared.action.ActionCall.{ActionCall}
use Rattle.auction_site.specs.Actions.{steps_of}
use Rattle.boot_core.specs.Boot.{BootValue}
use Rattle.container_core.specs.declared.history.Event.{Event}
use Rattle.container_core.specs.declared.history.Event.TheVariants.{Started}
use Rattle.http_wire.specs.declared.taken.Head.{Head}
use Rattle.lane_link.specs.Links.{lane_link_tally}
use Rattle.lane_link.specs.declared.link.LaneLink.{LaneLink}
use Rattle.outcome_items.specs.declared.item.Item.{Item}
use Rattle.outside.specs.declared.clock.TheConstants.{MOMENTS_END}
use Rattle.request_decisions.specs.Calls.{call_by}
use Rattle.request_tries.specs.Serving.{unbegun}
use Rattle.request_visit.proofs.Chaining.{Stays}
use Rattle.request_visit.proofs.Marking.{opened_marks}
use Rattle.request_visit.proofs.Saying.{opened_says}
use Rattle.request_visit.specs.Advancing.{IsItemOf, after_leaving, departed, item_of, response_in, value_of}
use Rattle.request_visit.specs.Stepping.{counted}
use Rattle.request_visit.specs.Visits.{or_over, or_own, turn as visit_turn, turn_by as visit_turn_by}
use Rattle.request_visit.specs.declared.visit.Fate.{Fate}
use Rattle.request_visit.specs.declared.visit.Fate.TheVariants.{Known, Writing}
use Rattle.request_visit.specs.declared.visit.Turn.TheVariants as visit
use Rattle.request_visit.specs.declared.visit.Visit.{Visit}
use Rattle.request_visit.specs.declared.visit.Work.{Work}
use Rattle.request_visit.specs.declared.visit.Work.TheVariants.{Reading, Opening, Serving as ServingBy, Committed, Decided, Answered, Left}
use Rattle.session_way.specs.Way.{answer_held, settled, wants}
use Rattle.session_way.specs.declared.way.SessionWay.{SessionWay}
use Rattle.session_way.specs.declared.way.SessionWay.TheVariants as way
use Rattle.session_way.specs.declared.way.Wants.{Wants}
use Rattle.session_way.specs.declared.way.Wants.TheVariants as wanted
use Rattle.shepherd.specs.Answering.{Answering}
use Rattle.shepherd.specs.Shepherds.{has_item, is_over, turn}
use Rattle.shepherd.specs.Standing.{Standing, has_left}
use Rattle.shepherd.specs.Steps.{PutsOut, TakesItem, rested}
use Rattle.shepherd.specs.declared.shepherd.AskedCall.{AskedCall}
use Rattle.shepherd.specs.declared.shepherd.EndKind.TheVariants as ends
use Rattle.shepherd.specs.declared.shepherd.Shepherd.{Shepherd}
use Rattle.shepherd.specs.declared.shepherd.ShepherdTurn.{ShepherdTurn}
use Rattle.shepherd.specs.declared.shepherd.ShepherdTurn.TheVariants as turns
use Rattle.shepherd.specs.declared.shepherd.Stage.{Stage}
use Rattle.shepherd.specs.declared.shepherd.Stage.TheVariants.{Resting, Serving, Refusing, Over}
use Rattle.shepherd_steps.specs.Alone.{Making, alone, alone_at, gone_alone, own_stage}
use Rattle.shepherd_steps.specs.Events.{event_of}
use Rattle.shepherd_steps.specs.Inside.{inside}
use Rattle.shepherd_steps.specs.Leaving.{item_by, item_taken, items_in, output_of}
use Rattle.shepherd_steps.specs.Opening.{open_stage, served_by}
use Rattle.shepherd_steps.specs.Outside.{outside}
use Rattle.shepherd_steps.specs.Own.{own}
use Rattle.shepherd_steps.specs.Passes.{windows_step}
use Rattle.shepherd_steps.specs.Stepping.{World, event_at, step, step_inside, steps_in}
use Rattle.seat_steps.proofs.AnswerStays.{outside-goes}
use Rattle.seat_steps.proofs.InsideSaid.{inside-goes, inside-grows}
use Rattle.seat_steps.proofs.OwnSaid.{Texts, WritesAnswer, own-goes}
use Rattle.seat_steps.proofs.PassesSaid.{AnswersPlainly, windows-goes}
use Rattle.seat_steps.proofs.RequestSaid.{RequestLaws, takes-request}
use Rattle.seat_steps.proofs.Visiting.{Goes, open-goes, stage-goes, turned, visit_of}
use Rattle.seat_steps.specs.Answering.{HearsItsWrite, IsAnsweredAt, IsAnsweredFor, SeatAnswers, ShowsAt, ShowsText, ShowsTexts, StageHears, StageShows, WriteHasHeard, events_in, heads_at, heads_taken}
use Rattle.seat_steps.specs.Replies.{lane_replies}
use Rattle.seat_steps.specs.Seats.{SeatGivens, SeatWorld, givens_in, making_by, seat_step, seen_by, service_in}
use Rattle.seat_steps.specs.declared.seat.Seat.{Seat}

-- the laws by which a connection answers its requests
pub record AnswerLaws : Type 0 where
  pub stays : Stays
  pub plain : AnswersPlainly
  pub answers : WritesAnswer
  pub requests : RequestLaws
  pub meanwhile : (key : List ℕ) (history more : List Event) (heads : List Head) (written : List ℕ) (items : List Item) (s : Shepherd ActionCall)
      → Answering key history heads written items s → Answering key (history ++ more) heads written items s
  pub out_stands : (fed : List ℕ) (heads : List Head) (written bytes : List ℕ) (items : List Item) (s : Shepherd ActionCall) (stage : Stage ActionCall) → turn s ≡ turns.Output → PutsOut s.stage bytes stage
      → Standing fed heads written items s → Standing fed heads (written ++ bytes) items (record s { stage = stage })
  pub out_answers : (key : List ℕ) (history : List Event) (heads : List Head) (written bytes : List ℕ) (items : List Item) (s : Shepherd ActionCall) (stage : Stage ActionCall) → turn s ≡ turns.Output → PutsOut s.stage bytes stage
      → Answering key history heads written items s → Answering key history heads (written ++ bytes) items (record s { stage = stage })
  pub item_stands : (fed : List ℕ) (heads : List Head) (written : List ℕ) (items : List Item) (i : Item) (s : Shepherd ActionCall) (stage : Stage ActionCall) → TakesItem s.stage i stage
      → Standing fed heads written items s → Standing fed heads written (items ++ i ∷ []) (record s { front = i.holds.front; stage = stage })
  pub item_answers : (key : List ℕ) (history : List Event) (heads : List Head) (written : List ℕ) (items : List Item) (i : Item) (s : Shepherd ActionCall) (stage : Stage ActionCall) → has_item s.stage ≡ true → TakesItem s.stage i stage
      → Answering key history heads written items s → Answering key history heads written (items ++ i ∷ []) (record s { front = i.holds.front; stage = stage })

-- a connection answers so over a history that has grown
pub grown : AnswerLaws → (key : List ℕ) (history more : List Event) (fed : List ℕ) (heads : List Head) (written : List ℕ) (items : List Item) (s : Shepherd ActionCall)
    → SeatAnswers key history fed heads written items s → SeatAnswers key (history ++ more) fed heads written items s
grown laws key history more fed heads written items s h = record { stands = h.stands; answers = laws.meanwhile key history more heads written items s h.answers; hears = h.hears }

-- a write that is settled has heard what it had
settled-heard : (to : SessionWay) → WriteHasHeard to → WriteHasHeard (settled to)
settled-heard way.Resting h = tt
settled-heard (way.Reading r) h = tt
settled-heard (way.Ordered order) h = tt
settled-heard (way.Writing w) h = h
settled-heard (way.Settling w) h = h
settled-heard (way.Holding passes) h = tt

settled-held : (to : SessionWay) → answer_held (settled to) ≡ answer_held to
settled-held way.Resting = refl
settled-held (way.Reading r) = refl
settled-held (way.Ordered order) = refl
settled-held (way.Writing w) = refl
settled-held (way.Settling w) = refl
settled-held (way.Holding passes) = refl

settled-for : (fate : Fate) (to : SessionWay) → IsAnsweredFor fate to → IsAnsweredFor fate (settled to)
settled-for (Known became) to has = tt
settled-for (Writing place again) to has = λ none. has (sym (settled-held to) ∙ none)

departed-answered : (work : Work ActionCall) (to : SessionWay) → IsAnsweredAt work to → IsAnsweredAt (departed work) (settled to)
departed-answered Reading to has = tt
departed-answered Opening to has = tt
departed-answered (ServingBy tries program) to has = tt
departed-answered (Committed place again shown) to has = tt
departed-answered (Decided became) to has = tt
departed-answered (Answered fate bytes) to has = settled-for fate to has
departed-answered (Left fate) to has = settled-for fate to has

leaving-hears : (v : Visit ActionCall) → HearsItsWrite v → HearsItsWrite (after_leaving v)
leaving-hears v h = record { heard = settled-heard v.way h.heard; answered = departed-answered v.work v.way h.answered }

-- a request whose program is to be made waits for that
own-program : (w : Wants) → or_own w ≡ visit.Program → ⊥
own-program wanted.Nothing e = cc
own-program wanted.Outside e = cc
own-program wanted.Windows e = cc

over-program : (w : Wants) → or_over w ≡ visit.Program → ⊥
over-program wanted.Nothing e = cc
over-program wanted.Outside e = cc
over-program wanted.Windows e = cc

opening-then : (work : Work ActionCall) (w : Wants) → visit_turn_by work w ≡ visit.Program → work ≡ Opening
opening-then Reading w e = absurd (own-program w e)
opening-then Opening w e = refl
opening-then (ServingBy tries program) w e = absurd (cc)
opening-then (Committed place again shown) w e = absurd (own-program w e)
opening-then (Decided became) w e = absurd (cc)
opening-then (Answered fate bytes) w e = absurd (cc)
opening-then (Left fate) w e = absurd (over-program w e)

-- one of which nothing is left to be done has put out its response
own-over : (w : Wants) → or_own w ≡ visit.Over → ⊥
own-over wanted.Nothing e = cc
own-over wanted.Outside e = cc
own-over wanted.Windows e = cc

left-then : (work : Work ActionCall) (w : Wants) → visit_turn_by work w ≡ visit.Over → (fate : Fate) × (work ≡ Left fate)
left-then Reading w e = absurd (own-over w e)
left-then Opening w e = absurd (cc)
left-then (ServingBy tries program) w e = absurd (cc)
left-then (Committed place again shown) w e = absurd (own-over w e)
left-then (Decided became) w e = absurd (cc)
left-then (Answered fate bytes) w e = absurd (cc)
left-then (Left fate) w e = (fate, refl)

-- where a connection is to go on by what its request does, the cookie that it is to show has a text
abbrev OwnTexts : List ℕ → Shepherd ActionCall → Type 0
OwnTexts key s = turn s ≡ turns.Own → (v : Visit ActionCall) (call : Option AskedCall) → s.stage ≡ Serving v call → Texts key v

-- as it is told
texts-told : (key : List ℕ) (s : Shepherd ActionCall) → ShowsText key s → OwnTexts key s
texts-told key s shows = λ turn_is v call stage_is place again shown was.
    let at : ShowsAt key v.way v.work = subst (λ (x : Stage ActionCall). StageShows key x) stage_is (shows turn_is) in
    subst (λ (w : Work ActionCall). ShowsAt key v.way w) was at

module _ (laws : AnswerLaws) (key : List ℕ) (history : List Event) (fed : List ℕ) (heads : List Head) (written : List ℕ) (s : Shepherd ActionCall) where
  abbrev Answers : List Item → Shepherd ActionCall → Type 0
  Answers items x = SeatAnswers key history fed heads written items x

  no-item : (items : List Item) (x : Shepherd ActionCall) → Answers items x → Answers (items ++ []) x
  no-item items x h = subst (λ (is : List Item). Answers is x) (sym (append-nil items)) h

  same : (items : List Item) (x : Stage ActionCall) → s.stage ≡ x → Answers items s → Answers (items ++ []) (record s { stage = x })
  same items x was h = no-item items (record s { stage = x }) (subst (λ (y : Stage ActionCall). Answers items (record s { stage = y })) was h)

  program-made : (items : List Item) (m : Making ActionCall) → turn s ≡ turns.Program → Answers items s → Answers (items ++ []) (record s { stage = open_stage m.made m.worker s.stage })
  unfolding open_stage
  program-made items m turn_is h = by s.stage refl where
    by : (x : Stage ActionCall) → s.stage ≡ x → Answers (items ++ []) (record s { stage = open_stage m.made m.worker x })
    by Resting was = same items Resting was h
    by (Serving v None) was = same items (Serving v None) was h
    by (Serving v (Some asked)) was =
        let opening : v.work ≡ Opening = opening-then v.work (wants v.way) (turned s v (Some asked) visit.Program was (ap visit_of turn_is)) in
        let made : List ℕ × ActionCall = m.made (call_by asked.call (option_map value_of v.lease)) in
        let goes : Goes key history v (served_by m.worker v asked made) = record {
          facts = refl;
          left = λ e. ap has_left opening;
          early = λ e. absurd (cc);
          still = λ marks sent hears marked says. record {
            marks = marks;
            marked = opened_marks marks v (unbegun asked.request m.worker made.0) made.1 opening marked;
            says = opened_says key history sent v (unbegun asked.request m.worker made.0) made.1 opening says;
            hears = record { heard = hears.heard; answered = tt };
          };
        } in
        no-item items (record s { stage = Serving (served_by m.worker v asked made) None })
        (open-goes key history fed heads written items s v (served_by m.worker v asked made) (Some asked) None was goes (λ asked e. absurd (cc)) h)
    by (Refusing why bytes) was = same items (Refusing why bytes) was h
    by (Over end) was = same items (Over end) was h

  own-made : (items : List Item) → turn s ≡ turns.Own → OwnTexts key s → Answers items s → Answers (items ++ []) (record s { stage = own_stage key s.stage })
  own-made items turn_is texts h = by s.stage refl where
    by : (x : Stage ActionCall) → s.stage ≡ x → Answers (items ++ []) (record s { stage = own_stage key x })
    by Resting was = same items Resting was h
    by (Serving v call) was =
        let g : Goes key history v (own key v) = own-goes laws.answers key history v (turned s v call visit.Own was (ap visit_of turn_is)) (texts turn_is v call was) in
        no-item items (record s { stage = Serving (own key v) call }) (open-goes key history fed heads written items s v (own key v) call call was g (λ asked e. asked (g.early e)) h)
    by (Refusing why bytes) was = same items (Refusing why bytes) was h
    by (Over end) was = same items (Over end) was h

  pub rested-hears : (close : Bool) → StageHears (rested close)
  rested-hears true = tt
  rested-hears false = tt

  item-made : (items : List Item) → turn s ≡ turns.Item → Answers items s → Answers (items ++ (item_taken s).1) (item_taken s).0
  unfolding item_taken
  item-made items turn_is h = by s.stage refl where
    by : (x : Stage ActionCall) → s.stage ≡ x → Answers (items ++ (item_by s x).1) (item_by s x).0
    by Resting was = no-item items s h
    by (Serving v call) was =
        let over : visit_turn v ≡ visit.Over = turned s v call visit.Over was (ap visit_of turn_is) in
        let left : (fate : Fate) × (v.work ≡ Left fate) = left-then v.work (wants v.way) over in
        let i : Item = item_of v left.0 in
        let takes : TakesItem s.stage i (rested v.facts.close) =
        subst (λ (x : Stage ActionCall). TakesItem x i (rested v.facts.close)) (sym was) (subst (λ (w : Work ActionCall). IsItemOf v w i) (sym left.1) refl, refl) in
        let has : has_item s.stage ≡ true = ap has_item was ∙ ap is_over over in
        subst (λ (is : List Item). Answers (items ++ is) (record s { front = v.holds.front; stage = rested v.facts.close })) (sym (ap (items_in v) left.1)) (record {
          stands = laws.item_stands fed heads written items i s (rested v.facts.close) takes h.stands;
          answers = laws.item_answers key history heads written items i s (rested v.facts.close) has takes h.answers;
          hears = rested-hears v.facts.close;
        })
    by (Refusing why bytes) was = no-item items s h
    by (Over end) was = no-item items s h

-- A connection answers its requests behind one thing that it does by itself.
alone-answers : (laws : AnswerLaws) (m : Making ActionCall) (history : List Event) (fed : List ℕ) (heads : List Head) (written : List ℕ) (items : List Item) (s : Shepherd ActionCall) → OwnTexts m.key s
    → SeatAnswers m.key history fed heads written items s → SeatAnswers m.key history fed heads written (items ++ (alone m s).1) (alone m s).0
unfolding alone
alone-answers laws m history fed heads written items s texts h = by (turn s) refl where
  none : SeatAnswers m.key history fed heads written (items ++ []) s
  none = no-item laws m.key history fed heads written s items s h

  by : (t : ShepherdTurn) → turn s ≡ t → SeatAnswers m.key history fed heads written (items ++ (alone_at m t s).1) (alone_at m t s).0
  by turns.Bytes is = none
  by turns.Request is = none
  by turns.Outside is = none
  by turns.Windows is = none
  by turns.Inside is = none
  by turns.Program is = program-made laws m.key history fed heads written s items m is h
  by turns.Own is = own-made laws m.key history fed heads written s items is texts h
  by turns.Output is = none
  by turns.Item is = item-made laws m.key history fed heads written s items is h
  by (turns.Ended end) is = none

-- the same of the two things that a connection does by itself
abbrev GoneTexts : Making ActionCall → Shepherd ActionCall → Type 0
GoneTexts m s = OwnTexts m.key s × OwnTexts m.key (alone m s).0

-- So it does once others are to step.
gone-answers : (laws : AnswerLaws) (m : Making ActionCall) (history : List Event) (fed : List ℕ) (heads : List Head) (written : List ℕ) (items : List Item) (s : Shepherd ActionCall) → GoneTexts m s
    → SeatAnswers m.key history fed heads written items s → SeatAnswers m.key history fed heads written (items ++ (gone_alone m s).1) (gone_alone m s).0
unfolding gone_alone
gone-answers laws m history fed heads written items s texts h =
    let first : Shepherd ActionCall × List Item = alone m s in
    let second : Shepherd ActionCall × List Item = alone m first.0 in
    subst (λ (is : List Item). SeatAnswers m.key history fed heads written is second.0) (append_assoc items first.1 second.1)
    (alone-answers laws m history fed heads written (items ++ first.1) first.0 texts.1 (alone-answers laws m history fed heads written items s texts.0 h))

module _ (laws : AnswerLaws) (key : List ℕ) (fed : List ℕ) (heads : List Head) (written : List ℕ) (items : List Item) (s : Shepherd ActionCall) where
  output-answers : (history : List Event) → turn s ≡ turns.Output → SeatAnswers key history fed heads written items s → SeatAnswers key history fed heads (written ++ (output_of s.stage).0) items (record s { stage = (output_of s.stage).1 })
  unfolding output_of
  output-answers history turn_is h = by s.stage refl where
    unchanged : (x : Stage ActionCall) → s.stage ≡ x → SeatAnswers key history fed heads (written ++ []) items (record s { stage = x })
    unchanged x was =
        subst (λ (bs : List ℕ). SeatAnswers key history fed heads bs items (record s { stage = x })) (sym (append-nil written))
        (subst (λ (y : Stage ActionCall). SeatAnswers key history fed heads written items (record s { stage = y })) was h)

    leaves : (bytes : List ℕ) (to : Stage ActionCall) → PutsOut s.stage bytes to → StageHears to → SeatAnswers key history fed heads (written ++ bytes) items (record s { stage = to })
    leaves bytes to puts hears = record {
      stands = laws.out_stands fed heads written bytes items s to turn_is puts h.stands;
      answers = laws.out_answers key history heads written bytes items s to turn_is puts h.answers;
      hears = hears;
    }

    by : (x : Stage ActionCall) → s.stage ≡ x → SeatAnswers key history fed heads (written ++ (output_of x).0) items (record s { stage = (output_of x).1 })
    by Resting was = unchanged Resting was
    by (Serving v call) was =
        leaves (response_in v.work) (Serving (after_leaving v) call)
        (subst (λ (y : Stage ActionCall). PutsOut y (response_in v.work) (Serving (after_leaving v) call)) (sym was) (refl, refl))
        (leaving-hears v (subst StageHears was h.hears))
    by (Refusing why last) was =
        leaves last (Over (ends.Refused why)) (subst (λ (y : Stage ActionCall). PutsOut y last (Over (ends.Refused why))) (sym was) (refl, refl)) tt
    by (Over end) was = unchanged (Over end) was

  inside-answers : (keeps : Bool) (boot : BootValue) (since : List Event) → SeatAnswers key (Started boot.start ∷ since) fed heads written items s
      → (let to = steps_in (step_inside steps_of keeps) s.stage (boot, since) in SeatAnswers key (Started to.1.0.start ∷ to.1.1) fed heads written items (record s { stage = to.0 }))
  inside-answers keeps boot since h = by s.stage refl where
    unchanged : (x : Stage ActionCall) → s.stage ≡ x → SeatAnswers key (Started boot.start ∷ since) fed heads written items (record s { stage = x })
    unchanged x was = subst (λ (y : Stage ActionCall). SeatAnswers key (Started boot.start ∷ since) fed heads written items (record s { stage = y })) was h

    by : (x : Stage ActionCall) → s.stage ≡ x
        → (let to = steps_in (step_inside steps_of keeps) x (boot, since) in SeatAnswers key (Started to.1.0.start ∷ to.1.1) fed heads written items (record s { stage = to.0 }))
    by Resting was = unchanged Resting was
    by (Serving v call) was =
        let more = inside-grows keeps v boot since in
        let history : List Event = Started (inside steps_of keeps v boot since).boot.start ∷ (inside steps_of keeps v boot since).since in
        let g : Goes key history v (inside steps_of keeps v boot since).visit = inside-goes key keeps v boot since in
        let later : SeatAnswers key history fed heads written items s =
        subst (λ (events : List Event). SeatAnswers key events fed heads written items s) (sym more.1) (grown laws key (Started boot.start ∷ since) more.0 fed heads written items s h) in
        open-goes key history fed heads written items s v (inside steps_of keeps v boot since).visit call call was g (λ asked e. asked (g.early e)) later
    by (Refusing why bytes) was = unchanged (Refusing why bytes) was
    by (Over end) was = unchanged (Over end) was

module _ (laws : AnswerLaws) (g : SeatGivens) (seat : Seat) (w : SeatWorld) (fed : List ℕ) (heads : List Head) (written : List ℕ) (items : List Item) (small : g.now.0 < MOMENTS_END)
    (h : SeatAnswers g.key (events_in w) fed heads written items seat.connection) where
  abbrev s : Shepherd ActionCall
  s = seat.connection

  abbrev link : LaneLink
  link = record { lanes = w.store; active = seat.twin }

  -- nothing is taken off the bytes
  no-head : (history : List Event) (out : List ℕ) (x : Shepherd ActionCall) → SeatAnswers g.key history fed heads out items x → SeatAnswers g.key history fed (heads ++ []) out items x
  no-head history out x a = subst (λ (hs : List Head). SeatAnswers g.key history fed hs out items x) (sym (append-nil heads)) a

  -- nothing is put out
  no-bytes : (history : List Event) (hs : List Head) (x : Shepherd ActionCall) → SeatAnswers g.key history fed hs written items x → SeatAnswers g.key history fed hs (written ++ []) items x
  no-bytes history hs x a = subst (λ (out : List ℕ). SeatAnswers g.key history fed hs out items x) (sym (append-nil written)) a

  neither : (history : List Event) (x : Shepherd ActionCall) → SeatAnswers g.key history fed heads written items x → SeatAnswers g.key history fed (heads ++ []) (written ++ []) items x
  neither history x a = no-bytes history (heads ++ []) x (no-head history written x a)

  abbrev E : ShepherdTurn → World ActionCall LaneLink × List ℕ
  E t = event_at (givens_in g w) t (seen_by seat w)

  event-answers : (t : ShepherdTurn) → turn s ≡ t → SeatAnswers g.key (Started (E t).0.boot.start ∷ (E t).0.since) fed (heads ++ heads_at t s) (written ++ (E t).1) items (E t).0.connection
  event-answers turns.Bytes is = neither (events_in w) s h
  event-answers turns.Request is =
      no-bytes (events_in w) (heads ++ heads_at turns.Request s) (E turns.Request).0.connection
      (takes-request laws.requests g.key (events_in w) fed heads written items s is h (service_in g w) (counted (lane_link_tally link)) g.now (record { words = 0; serials = 0 }) small)
  event-answers turns.Outside is =
      neither (events_in w) (E turns.Outside).0.connection
      (stage-goes g.key (events_in w) fed heads written items s (outside lane_replies lane_link_tally) link
      (λ v call was. outside-goes laws.stays g.key (events_in w) v link (turned s v call visit.Outside was (ap visit_of is))) h)
  event-answers turns.Windows is =
      neither (events_in w) (E turns.Windows).0.connection
      (stage-goes g.key (events_in w) fed heads written items s windows_step w.store.windows (λ v call was. windows-goes laws.plain g.key (events_in w) v w.store.windows) h)
  event-answers turns.Inside is =
      neither (Started (E turns.Inside).0.boot.start ∷ (E turns.Inside).0.since) (E turns.Inside).0.connection (inside-answers laws g.key fed heads written items s g.keeps w.boot w.since h)
  event-answers turns.Program is = neither (events_in w) s h
  event-answers turns.Own is = neither (events_in w) s h
  event-answers turns.Output is = no-head (events_in w) (written ++ (output_of s.stage).0) (E turns.Output).0.connection (output-answers laws g.key fed heads written items s (events_in w) is h)
  event-answers turns.Item is = neither (events_in w) s h
  event-answers (turns.Ended end) is = neither (events_in w) s h

  -- A connection answers its requests behind a step.
  pub step-answers : ShowsTexts g seat w
      → SeatAnswers g.key (events_in (seat_step g seat w).world) fed (heads ++ heads_taken s) (written ++ (seat_step g seat w).bytes) (items ++ (seat_step g seat w).items) (seat_step g seat w).seat.connection
  unfolding seat_step step event_of
  step-answers shows =
      let e : World ActionCall LaneLink × List ℕ = E (turn s) in
      let texts : GoneTexts (making_by g) e.0.connection = (texts-told g.key e.0.connection shows.first, texts-told g.key (alone (making_by g) e.0.connection).0 shows.second) in
      gone-answers laws (making_by g) (Started e.0.boot.start ∷ e.0.since) fed (heads ++ heads_at (turn s) s) (written ++ e.1) items e.0.connection texts (event-answers (turn s) refl)

-- The history grows by a step: it begins with what it was.
pub step-grows : (g : SeatGivens) (seat : Seat) (w : SeatWorld) → (more : List Event) × (events_in (seat_step g seat w).world ≡ events_in w ++ more)
unfolding seat_step step
step-grows g seat w = by (turn seat.connection) where
  same : (more : List Event) × (events_in w ≡ events_in w ++ more)
  same = ([], sym (append-nil (events_in w)))

  inside-at : (x : Stage ActionCall)
      → (more : List Event) × ((let to = steps_in (step_inside steps_of g.keeps) x (w.boot, w.since) in Started to.1.0.start ∷ to.1.1) ≡ events_in w ++ more)
  inside-at Resting = same
  inside-at (Serving v call) = inside-grows g.keeps v w.boot w.since
  inside-at (Refusing why bytes) = same
  inside-at (Over end) = same

  by : (t : ShepherdTurn) → (more : List Event) × ((let e = event_at (givens_in g w) t (seen_by seat w) in Started e.0.boot.start ∷ e.0.since) ≡ events_in w ++ more)
  by turns.Bytes = same
  by turns.Request = same
  by turns.Outside = same
  by turns.Windows = same
  by turns.Inside = inside-at seat.connection.stage
  by turns.Program = same
  by turns.Own = same
  by turns.Output = same
  by turns.Item = same
  by (turns.Ended end) = same
