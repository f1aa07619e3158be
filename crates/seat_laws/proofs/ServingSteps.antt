-- A connection of a scenario serves its requests behind a step that is made by its calls.
use Rattle.std.specs.Prelude.{◌⊎◌}
use Rattle.std.proofs.Common.{◌≡◌, ◌≤◌, ◌<◌, ◌∙◌, ◌^◌, ◌+◌, ◌%◌, ℕ, List, [], ◌∷◌, ◌++◌, None, inl, inr, refl, sym, ap, subst, arith, add-zero}
use Rattle.std.proofs.Math.Nat.{mod-eq_of_lt}
use Rattle.std.specs.Option.{option_to_list}
use Rattle.auction_calls.specs.declared.action.ActionCall.{ActionCall}
use Rattle.auction_site.specs.Actions.{steps_of}
use Rattle.boot_core.specs.Boot.{BootValue}
use Rattle.boot_core.specs.declared.boot.Start.{Start}
use Rattle.container_core.specs.Container.{ContainerValue, HasGrownBy, events_of}
use Rattle.container_core.specs.declared.history.Event.{Event}
use Rattle.container_core.specs.declared.history.Event.TheVariants.{Started}
use Rattle.crash_base.specs.declared.numbers.Moment.{Moment}
use Rattle.crash_base.specs.declared.numbers.WorkerNo.{WorkerNo}
use Rattle.http_wire.specs.declared.taken.Head.{Head}
use Rattle.lane_link.specs.Links.{LaneLinkMakes}
use Rattle.lane_link.specs.declared.link.LaneLink.{LaneLink}
use Rattle.outcome_items.specs.declared.item.Item.{Item}
use Rattle.outside.specs.Clock.{PlainClockValue}
use Rattle.outside.specs.Random.{PlainGives}
use Rattle.outside.specs.Serials.{PlainLooks}
use Rattle.outside.specs.declared.clock.TheConstants.{MOMENTS_END}
use Rattle.request_decisions.specs.Decisions.{IsDecided}
use Rattle.request_decisions.specs.Drawing.{HasDrawn}
use Rattle.request_decisions.specs.declared.draws.Draw.{Draw}
use Rattle.served_items.specs.Attributing.{Attributing}
use Rattle.served_items.specs.Holding.{Holding}
use Rattle.session_cookie.specs.declared.cookie.TheConstants.{MAX_HOLDERS}
use Rattle.session_lanes.specs.Lanes.{LanesState}
use Rattle.shepherd.specs.Shepherds.{turn}
use Rattle.shepherd.specs.declared.shepherd.Shepherd.{Shepherd}
use Rattle.shepherd_steps.specs.Deciding.{ReadRightly, Readings, decided_by}
use Rattle.shepherd_steps.specs.Events.{event_of}
use Rattle.shepherd_steps.specs.Stepping.{AreFunctions, Calls, Givens, Leaves, World, step, world_of}
use Rattle.shepherd_steps.specs.Taking.{AreInTurn, Counts}
use Rattle.site_programs.specs.Errands.{IsMadeOf}
use Rattle.site_programs.specs.declared.maker.SiteMaker.{SiteMaker}
use Rattle.seat_steps.proofs.Functions.{CookieLaw, NoneLaw, TokenLaw, lane-answers, makes-just, reads-rightly}
use Rattle.seat_steps.specs.Answering.{SeatAnswers, ShowsTexts, events_in, heads_taken}
use Rattle.seat_steps.specs.Seats.{SeatGivens, SeatOutcome, SeatWorld, givens_in, numbers_from, readings_under, seat_step}
use Rattle.seat_steps.specs.Stepped.{HasStepped, MakesCalls, SeatCalling, calling, clock_told, world_from}
use Rattle.seat_steps.specs.declared.seat.NextDraws.{NextDraws}
use Rattle.seat_steps.specs.declared.seat.Seat.{Seat}
use Rattle.seat_steps.specs.declared.seat.TheConstants.{NODE}
use Rattle.seat_laws.specs.Reporting.{HasReported}
use Rattle.seat_laws.specs.Serving.{Course, DrewNext, SeatServes, course_behind, history_in}
use Rattle.seat_laws.proofs.ReportedOnce.{step-reported, step-reports}
use Rattle.seat_laws.proofs.ServingCalls.{CallLaws, DrewSo, OfConnection, call-so, twice-so}

-- how items go back to their requests in boots of this start
abbrev pub AttributesFrom : List ℕ → Start → Moment → Course → OfConnection
AttributesFrom key start now c history heads drawn items s =
    Attributing steps_of LaneLinkMakes (λ (maker : SiteMaker). IsMadeOf) PlainGives PlainLooks (record { key = key; home = record { node = NODE; boot = start.boot }; maker = record {} }) start history heads drawn c.opened.0 now.0 items s

-- the same, and how far the history had come for them
abbrev pub ItemsStand : List ℕ → Start → Moment → Course → OfConnection
ItemsStand key start now c history heads drawn items s = AttributesFrom key start now c history heads drawn items s × Holding c.behind history items s

-- A connection serves its requests in any boot of the same start.
pub same-start : (key : List ℕ) (boot after : BootValue) (since : List Event) (now : Moment) (c : Course) (s : Shepherd ActionCall) → after.start ≡ boot.start → SeatServes key boot since now c s → SeatServes key after since now c s
same-start key boot after since now c s is h = record {
  heads = h.heads;
  answers = subst (λ (start : Start). SeatAnswers key (Started start ∷ since) c.fed h.heads c.written c.items s) (sym is) h.answers;
  attributes = subst (λ (start : Start). AttributesFrom key start now c (Started start ∷ since) h.heads c.drawn c.items s) (sym is) h.attributes;
  holds = subst (λ (start : Start). Holding c.behind (Started start ∷ since) c.items s) (sym is) h.holds;
  reported = h.reported;
}

-- the words and the serial numbers from these on, by how many were drawn
abbrev words-from : ℕ → ℕ → ℕ
words-from word = λ n. (word + n) % (2 ^ 64)

abbrev serials-from : ℕ → ℕ → ℕ
serials-from serial = λ n. serial + n

-- the laws by which the event of a step is a function
pub record EventLaws : Type 0 where
  pub event_is : (g : Givens ActionCall LaneLink) (maker : SiteMaker) (words serials : ℕ → ℕ) (drawn : Counts) (old mid : SeatCalling) (bytes : List ℕ)
      → AreFunctions {C = PlainClockValue} LaneLinkMakes (λ (m : SiteMaker). IsMadeOf) clock_told PlainGives PlainLooks g maker words serials
      → old.random ≡ words drawn.words → old.serials ≡ serials drawn.serials
      → Calls LaneLinkMakes (λ (m : SiteMaker). IsMadeOf) clock_told PlainGives PlainLooks g (turn old.connection) old mid bytes
      → Leaves words serials mid bytes [] (event_of g (world_of old drawn))
  pub in_turn : (word serial : ℕ) → AreInTurn PlainGives PlainLooks (words-from word) (serials-from serial) (numbers_from word serial)
  pub decided : (key : List ℕ) (readings : Readings) (boot : ℕ) (head : Head) → ReadRightly key readings → IsDecided key boot head (decided_by readings boot head)
  pub cookies : CookieLaw
  pub none : NoneLaw
  pub tokens : TokenLaw

module _ (laws : EventLaws) (g : SeatGivens) (seat : Seat) (old new : ContainerValue) (lanes : LanesState) (next : NextDraws) (word : next.word < 2 ^ 64) (o : SeatOutcome) (calls : MakesCalls g seat old (world_from old lanes next) new o) where
  abbrev W : SeatWorld
  W = world_from old lanes next

  first-word : next.word ≡ (next.word + 0) % (2 ^ 64)
  first-word = sym (mod-eq_of_lt {n = next.word + 0} {m = 2 ^ 64} (let p : next.word + 0 < 2 ^ 64 = omega (arith, word) in p) ∙ add-zero next.word)

  leaves : Leaves (words-from next.word) (serials-from next.serial) calls.made.mid o.bytes []
      (event_of (givens_in g W) (world_of (calling g.now seat.connection old (record { lanes = lanes; active = seat.twin }) next) (record { words = 0; serials = 0 })))
  leaves =
      laws.event_is (givens_in g W) (record {}) (words-from next.word) (serials-from next.serial) (record { words = 0; serials = 0 }) (calling g.now seat.connection old (record { lanes = lanes; active = seat.twin }) next)
      calls.made.mid o.bytes (record {
        answers = lane-answers;
        decides = λ head. laws.decided g.key (readings_under g.key) old.boot.start.boot head (reads-rightly laws.cookies laws.none laws.tokens g.key);
        in_turn = laws.in_turn next.word next.serial;
        made = makes-just (record {});
      }) first-word (omega arith) calls.made.calls

  -- the container behind a step is the one that the function gives
  boot-is : new.boot ≡ (seat_step g seat W).world.boot
  unfolding seat_step step event_of
  boot-is = sym (ap (λ (x : ContainerValue). x.boot) calls.made.container_is) ∙ ap (λ (x : World ActionCall LaneLink). x.boot) leaves.world_is

  since-is : new.since ≡ (seat_step g seat W).world.since
  unfolding seat_step step event_of
  since-is = sym (ap (λ (x : ContainerValue). x.since) calls.made.container_is) ∙ ap (λ (x : World ActionCall LaneLink). x.since) leaves.world_is

  pub events-are : o ≡ seat_step g seat W → events_of new ≡ history_in o.world.boot o.world.since
  events-are is =
      ap (λ (boot : BootValue). Started boot.start ∷ new.since) (boot-is ∙ sym (ap (λ (x : SeatOutcome). x.world.boot) is))
      ∙ ap (λ (since : List Event). Started o.world.boot.start ∷ since) (since-is ∙ sym (ap (λ (x : SeatOutcome). x.world.since) is))

  pub start-is : o ≡ seat_step g seat W → HasGrownBy old new → o.world.boot.start ≡ old.boot.start
  start-is is grown = ap (λ (x : SeatOutcome). x.world.boot.start) is ∙ (sym (ap (λ (boot : BootValue). boot.start) boot-is) ∙ grown.boot.start)

-- the laws by which a connection of a scenario answers its requests behind a step that is made
pub record StepAnswers : Type 0 where
  pub step : (g : SeatGivens) (seat : Seat) (w : SeatWorld) (fed : List ℕ) (heads : List Head) (written : List ℕ) (items : List Item) → g.now.0 < MOMENTS_END
      → SeatAnswers g.key (events_in w) fed heads written items seat.connection → ShowsTexts g seat w
      → SeatAnswers g.key (events_in (seat_step g seat w).world) fed (heads ++ heads_taken seat.connection) (written ++ (seat_step g seat w).bytes) (items ++ (seat_step g seat w).items) (seat_step g seat w).seat.connection
  pub shows : (key : List ℕ) (worker : WorkerNo) (now : Moment) (seat : Seat) (old new : ContainerValue) (lanes : LanesState) (next : NextDraws) (o : SeatOutcome) → next.word < 2 ^ 64
      → (stepped : HasStepped key worker now seat old (world_from old lanes next) new o)
      → ShowsTexts (record { key = key; worker = worker; now = now; keeps = stepped.keeps }) seat (world_from old lanes next)

module _ (events : EventLaws) (answers : StepAnswers) (key : List ℕ) (worker : WorkerNo) (now : Moment) (seat : Seat) (old new : ContainerValue) (lanes : LanesState) (next : NextDraws) (o : SeatOutcome) (c : Course)
    (laws : CallLaws key now old (ItemsStand key old.boot.start now c)) (small : now.0 < MOMENTS_END) (word : next.word < 2 ^ 64) (grown : HasGrownBy old new) (some : 1 ≤ lanes.windows.wq) (few : lanes.windows.wq ≤ MAX_HOLDERS)
    (stepped : HasStepped key worker now seat old (world_from old lanes next) new o) (h : SeatServes key old.boot old.since now c seat.connection) where
  abbrev g : SeatGivens
  g = record { key = key; worker = worker; now = now; keeps = stepped.keeps }

  abbrev s : Shepherd ActionCall
  s = seat.connection

  abbrev heads : List Head
  heads = h.heads ++ heads_taken s

  abbrev Stand : OfConnection
  Stand = ItemsStand key old.boot.start now c

  abbrev m : SeatCalling
  m = stepped.calls.made.mid

  drew : DrewSo (λ ds. Stand (events_of m.container) heads ds c.items m.connection) c.drawn next.word m.random next.serial m.serials
  drew =
      call-so g old (record { lanes = lanes; active = seat.twin }) next Stand laws some few h.heads c.drawn c.items s (h.attributes, h.holds) (turn s) refl m o.bytes
      (subst (λ (x : ContainerValue). HasGrownBy old x) (sym stepped.calls.made.container_is) grown) stepped.calls.made.calls

  stands : Stand (events_of new) heads (c.drawn ++ drew.more) (c.items ++ o.items) o.seat.connection
  stands =
      twice-so key worker now old Stand laws (events_of new) heads (c.drawn ++ drew.more) c.items o.items stepped.calls.mid o.seat.connection stepped.calls.alone
      (subst (λ (x : Shepherd ActionCall). Stand (events_of new) heads (c.drawn ++ drew.more) c.items x) stepped.calls.made.connection_is
      (subst (λ (x : ContainerValue). Stand (events_of x) heads (c.drawn ++ drew.more) c.items m.connection) stepped.calls.made.container_is drew.so))

  -- a serial number that is spent stays the next one
  looked : stepped.calls.made.mid.serials ≡ drew.mid
  looked = by drew.looked where
    by : ((m.serials ≡ drew.mid) ⊎ ((seen : ℕ) × PlainLooks drew.mid seen None m.serials)) → m.serials ≡ drew.mid
    by (inl is) = is
    by (inr (seen, looks)) = looks.1

  drew-next : DrewNext (world_from old lanes next) drew.more o.world
  drew-next =
      subst (λ (after : ℕ). HasDrawn PlainLooks PlainGives next.serial next.word drew.more o.world.serial after) stepped.calls.made.word_is
      (subst (λ (after : ℕ). HasDrawn PlainLooks PlainGives next.serial next.word drew.more after m.random) (sym looked ∙ stepped.calls.made.serial_is) drew.drew)

  history-is : events_of new ≡ history_in o.world.boot o.world.since
  history-is = events-are events g seat old new lanes next word o stepped.calls stepped.step_is

  behind : Stand (history_in o.world.boot o.world.since) heads (c.drawn ++ drew.more) (c.items ++ o.items) o.seat.connection
  behind = subst (λ (history : List Event). Stand history heads (c.drawn ++ drew.more) (c.items ++ o.items) o.seat.connection) history-is stands

  -- It serves them behind the step, with what was drawn.
  pub step-serves : (drawn : List Draw) × DrewNext (world_from old lanes next) drawn o.world × SeatServes key o.world.boot o.world.since now (course_behind c drawn o) o.seat.connection
  step-serves = (
    drew.more,
    drew-next,
    record {
      heads = heads;
      answers = subst (λ (x : SeatOutcome). SeatAnswers key (events_in x.world) c.fed heads (c.written ++ x.bytes) (c.items ++ x.items) x.seat.connection) (sym stepped.step_is)
          (answers.step g seat (world_from old lanes next) c.fed h.heads c.written c.items small h.answers (answers.shows key worker now seat old new lanes next o word stepped));
      attributes = subst (λ (start : Start). AttributesFrom key start now c (history_in o.world.boot o.world.since) heads (c.drawn ++ drew.more) (c.items ++ o.items) o.seat.connection)
          (sym (start-is events g seat old new lanes next word o stepped.calls stepped.step_is grown)) behind.0;
      holds = behind.1;
      reported = subst (λ (x : SeatOutcome). HasReported (c.reports ++ option_to_list x.report) (c.items ++ x.items) x.seat.connection.stage) (sym stepped.step_is)
          (let left : SeatOutcome = seat_step g seat (world_from old lanes next) in step-reported c.reports (option_to_list left.report) c.items left.items s.stage left.seat.connection.stage (step-reports g seat (world_from old lanes next)) h.reported);
    },
  )
