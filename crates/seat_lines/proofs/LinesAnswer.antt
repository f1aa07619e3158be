-- Over lines a connection answers its requests.
use Rattle.std.proofs.Common.{◌≡◌, ◌≢◌, ◌<◌, ◌^◌, ◌∙◌, ℕ, Bool, true, List, [], ◌∷◌, ◌++◌, append-nil, append_assoc, Option, Some, None, refl, sym, ap, subst}
use Rattle.auction_calls.specs.declared.action.ActionCall.{ActionCall}
use Rattle.boot_core.specs.Boot.{BootValue}
use Rattle.container_core.specs.Container.{ContainerValue}
use Rattle.container_core.specs.declared.history.Event.{Event}
use Rattle.container_core.specs.declared.history.Event.TheVariants.{Started}
use Rattle.crash_base.specs.declared.numbers.Moment.{Moment}
use Rattle.crash_base.specs.declared.numbers.WorkerNo.{WorkerNo}
use Rattle.http_wire.specs.declared.taken.Head.{Head}
use Rattle.outcome_items.specs.declared.item.Item.{Item}
use Rattle.outside.specs.declared.clock.TheConstants.{MOMENTS_END}
use Rattle.scenario_text.specs.Answer.{Done}
use Rattle.scenario_text.specs.declared.seat_line.SeatLine.{SeatLine}
use Rattle.scenario_text.specs.declared.seat_line.SeatLine.TheVariants as lines
use Rattle.seat_steps.specs.Answering.{SeatAnswers, ShowsTexts, events_in, heads_taken}
use Rattle.seat_steps.specs.Gone.{seat_gone}
use Rattle.seat_steps.specs.Seats.{SeatGivens, SeatOutcome, SeatWorld, seat_step}
use Rattle.seat_steps.specs.Stepped.{HasStepped, draws_in, world_from}
use Rattle.seat_steps.specs.declared.seat.NextDraws.{NextDraws}
use Rattle.seat_steps.specs.declared.seat.Seat.{Seat}
use Rattle.session_lanes.specs.Lanes.{LanesState}
use Rattle.session_steps.specs.Sessions.{SessionsState}
use Rattle.shepherd.specs.Shepherds.{fresh, turn}
use Rattle.shepherd.specs.declared.shepherd.Shepherd.{Shepherd}
use Rattle.seat_lines.specs.Changing.{IsLeftBySeat, number_in}
use Rattle.seat_lines.specs.Giving.{items_if}
use Rattle.seat_lines.specs.Items.{line_items, line_outs}
use Rattle.seat_lines.specs.Lines.{givens_of, world_of}
use Rattle.seat_lines.specs.Making.{LineWasMade, StepMade, WasStepped, line_makes}
use Rattle.seat_lines.specs.Responding.{AnswersMore, PlaceAnswers, bytes_by, history_of, in_row}
use Rattle.seat_lines.specs.Runs.{seat_line}
use Rattle.seat_lines.specs.Site.{SiteState, seat_at}
use Rattle.seat_lines.proofs.Keeping.{KeepingLaws, PlaceHolds, SiteStays, history_stays, items_by, items_by_steps, line_holds, line_stays, outs_by_steps, written_by}
use Rattle.seat_lines.proofs.OneSeat.{opens_fresh, others_stay}

-- the laws of the steps of seats
pub record SeatLaws : Type 0 where
  pub begins : (key : List ℕ) (history : List Event) → SeatAnswers key history [] [] [] [] fresh
  pub fed : (key : List ℕ) (history : List Event) (fed more : List ℕ) (heads : List Head) (written : List ℕ) (items : List Item) (s : Shepherd ActionCall) → SeatAnswers key history fed heads written items s
      → SeatAnswers key history (fed ++ more) heads written items (record s { received = s.received ++ more })
  pub ended : (key : List ℕ) (history : List Event) (fed : List ℕ) (heads : List Head) (written : List ℕ) (items : List Item) (s : Shepherd ActionCall) → SeatAnswers key history fed heads written items s
      → SeatAnswers key history fed heads written items (record s { ended = true })
  pub meanwhile : (key : List ℕ) (history more : List Event) (fed : List ℕ) (heads : List Head) (written : List ℕ) (items : List Item) (s : Shepherd ActionCall) → SeatAnswers key history fed heads written items s
      → SeatAnswers key (history ++ more) fed heads written items s
  pub step_is : (g : SeatGivens) (seat : Seat) (w : SeatWorld) (fed : List ℕ) (heads : List Head) (written : List ℕ) (items : List Item) → g.now.0 < MOMENTS_END → SeatAnswers g.key (events_in w) fed heads written items seat.connection
      → ShowsTexts g seat w
      → SeatAnswers g.key (events_in (seat_step g seat w).world) fed (heads ++ heads_taken seat.connection) (written ++ (seat_step g seat w).bytes) (items ++ (seat_step g seat w).items) (seat_step g seat w).seat.connection
  pub grows : (g : SeatGivens) (seat : Seat) (w : SeatWorld) → (more : List Event) × (events_in (seat_step g seat w).world ≡ events_in w ++ more)
  pub gone : (key : List ℕ) (history : List Event) (fed : List ℕ) (heads : List Head) (written : List ℕ) (items : List Item) (seat : Seat) (st : LanesState) (i : Item) → (seat_gone seat st).item ≡ Some i
      → SeatAnswers key history fed heads written items seat.connection → (after : Shepherd ActionCall) × SeatAnswers key history fed heads written (items ++ i ∷ []) after
  pub shows : (key : List ℕ) (worker : WorkerNo) (now : Moment) (seat : Seat) (old new : ContainerValue) (lanes : LanesState) (next : NextDraws) (o : SeatOutcome) → next.word < 2 ^ 64
      → (stepped : HasStepped key worker now seat old (world_from old lanes next) new o) → ShowsTexts (record { key = key; worker = worker; now = now; keeps = stepped.keeps }) seat (world_from old lanes next)

-- the cookies that a step shows which was made have texts
made_shows : SeatLaws → (g : SeatGivens) (seat : Seat) (w : SeatWorld) → WasStepped g seat w → ShowsTexts g seat w
made_shows laws g seat w made = subst Shown same shown made.stepped made.keeps_is where
  next : NextDraws
  next = draws_in w

  Shown : SeatWorld → Type 0
  Shown x = (stepped : HasStepped g.key g.worker g.now seat made.old x made.new (seat_step g seat w)) → stepped.keeps ≡ g.keeps → ShowsTexts g seat x

  shown : Shown (world_from made.old w.store next)
  shown stepped keeps =
      subst (λ (k : Bool). ShowsTexts (record { key = g.key; worker = g.worker; now = g.now; keeps = k }) seat (world_from made.old w.store next)) keeps
      (laws.shows g.key g.worker g.now seat made.old made.new w.store next (seat_step g seat w) made.word stepped)

  same : world_from made.old w.store next ≡ w
  same =
      ap (λ (b : BootValue). let x : SeatWorld = record { boot = b; since = made.old.since; store = w.store; word = w.word; serial = w.serial } in x) made.boot_is
      ∙ ap (λ (es : List Event). let x : SeatWorld = record { boot = w.boot; since = es; store = w.store; word = w.word; serial = w.serial } in x) made.since_is

-- A connection answers its requests, of which these were taken before.
abbrev AnswersFrom : List Head → SiteState → List ℕ → List ℕ → List Item → List StepMade → Shepherd ActionCall → Type 0
AnswersFrom heads s fed written items steps c = (taken : List Head) × SeatAnswers s.sessions.key (history_of s) fed (heads ++ taken) written items c

-- the same, told of what is equal
answers_as : (key key' : List ℕ) (history history' : List Event) (fed : List ℕ) (heads heads' : List Head) (written : List ℕ) (items : List Item) (c : Shepherd ActionCall)
    → key ≡ key' → history ≡ history' → heads ≡ heads' → SeatAnswers key history fed heads written items c → SeatAnswers key' history' fed heads' written items c
answers_as key key' history history' fed heads heads' written items c a b d h =
    subst (λ (x : List ℕ). SeatAnswers x history' fed heads' written items c) a
    (subst (λ (x : List Event). SeatAnswers key x fed heads' written items c) b
    (subst (λ (x : List Head). SeatAnswers key history fed x written items c) d h))

stays_answers : SeatLaws → (s t : SiteState) (fed : List ℕ) (heads : List Head) (written : List ℕ) (items : List Item) (c : Shepherd ActionCall) → SiteStays s t
    → SeatAnswers s.sessions.key (history_of s) fed heads written items c → SeatAnswers t.sessions.key (history_of t) fed heads written items c
stays_answers laws s t fed heads written items c stays h =
    answers_as s.sessions.key t.sessions.key (history_of s ++ stays.more) (history_of t) fed heads heads written items c (sym stays.key) (sym (history_stays s t stays)) refl
    (laws.meanwhile s.sessions.key (history_of s) stays.more fed heads written items c h)

-- so it is kept by lines
answers_keep : SeatLaws → (heads : List Head) → KeepingLaws (AnswersFrom heads)
answers_keep laws heads = record {
  fed = λ s fed more written items steps c h. (h.0, laws.fed s.sessions.key (history_of s) fed more (heads ++ h.0) written items c h.1);
  ended = λ s fed written items steps c h. (h.0, laws.ended s.sessions.key (history_of s) fed (heads ++ h.0) written items c h.1);
  meanwhile = λ s t fed written items steps c stays h. (h.0, stays_answers laws s t fed (heads ++ h.0) written items c stays h.1);
  still = λ s n keeps seat fed written items steps there rests h. h;
  step = λ s t n keeps text seat st fed written items steps there bricks moving made left h. stepped s t n keeps text seat st fed written items made left h;
} where
  stepped : (s t : SiteState) (n : ℕ) (keeps : Bool) (text : List ℕ) (seat : Seat) (st : LanesState) (fed written : List ℕ) (items : List Item) → WasStepped (givens_of s n keeps) seat (world_of s st)
      → IsLeftBySeat s n (turn seat.connection) (seat_step (givens_of s n keeps) seat (world_of s st)) t text → (taken : List Head) × SeatAnswers s.sessions.key (history_of s) fed (heads ++ taken) written items seat.connection
      → (taken : List Head)
      × SeatAnswers t.sessions.key (history_of t) fed (heads ++ taken) (written ++ (seat_step (givens_of s n keeps) seat (world_of s st)).bytes) (items ++ (seat_step (givens_of s n keeps) seat (world_of s st)).items)
      (seat_step (givens_of s n keeps) seat (world_of s st)).seat.connection
  stepped s t n keeps text seat st fed written items made left (taken, h) =
      let g : SeatGivens = givens_of s n keeps in
      let w : SeatWorld = world_of s st in
      let o : SeatOutcome = seat_step g seat w in
      let history : history_of t ≡ events_in o.world = ap (λ (b : BootValue). Started b.start ∷ t.since) left.boot ∙ ap (λ (xs : List Event). Started o.world.boot.start ∷ xs) left.since in (
        taken ++ heads_taken seat.connection,
        answers_as s.sessions.key t.sessions.key (events_in o.world) (history_of t) fed ((heads ++ taken) ++ heads_taken seat.connection) (heads ++ (taken ++ heads_taken seat.connection)) (written ++ o.bytes) (items ++ o.items)
            o.seat.connection (sym (ap (λ (x : SessionsState). x.key) left.sessions)) (sym history) (append_assoc heads taken (heads_taken seat.connection))
            (laws.step_is g seat w fed (heads ++ taken) written items made.in_time h (made_shows laws g seat w made)),
      )

-- a connection in its place that is so answers its requests, and took more
placed : (t : SiteState) (fed : List ℕ) (heads : List Head) (written : List ℕ) (items : List Item) (steps : List StepMade) (p : Option Seat) → PlaceHolds (AnswersFrom heads) t fed written items steps p
    → AnswersMore t.sessions.key (history_of t) fed heads written items p
placed t fed heads written items steps None (last, end, over, h) = record { taken = h.0; answers = (last, end, over, h.1) }
placed t fed heads written items steps (Some seat) (taken, h) = record { taken = taken; answers = h }

-- A connection answers its requests behind a line about it.
pub line-more : SeatLaws → (s t : SiteState) (line : SeatLine) (replies : List Bool) (text bytes : List ℕ) (heads : List Head) (written : List ℕ) (items : List Item) (seat : Seat)
    → seat_line s line replies ≡ Some (Done t text) → LineWasMade s line replies → seat_at s.seats.seats (number_in line) ≡ Some seat → SeatAnswers s.sessions.key (history_of s) bytes heads written items seat.connection
    → AnswersMore t.sessions.key (history_of t) (bytes ++ bytes_by line) heads (written ++ in_row (line_outs s line replies)) (items ++ line_items s line replies) (seat_at t.seats.seats (number_in line))
line-more laws s t line replies text bytes heads written items seat is made there h =
    let steps : List StepMade = line_makes s line replies in
    let first : (taken : List Head) × SeatAnswers s.sessions.key (history_of s) bytes (heads ++ taken) written items seat.connection =
    ([], subst (λ (hs : List Head). SeatAnswers s.sessions.key (history_of s) bytes hs written items seat.connection) (sym (append-nil heads)) h) in
    let more : AnswersMore t.sessions.key (history_of t) (bytes ++ bytes_by line) heads (written ++ written_by steps) (items ++ items_by steps) (seat_at t.seats.seats (number_in line)) =
    placed t (bytes ++ bytes_by line) heads (written ++ written_by steps) (items ++ items_by steps) ([] ++ steps) (seat_at t.seats.seats (number_in line))
    (line_holds (AnswersFrom heads) (answers_keep laws heads) s t line replies text bytes written items [] seat is made there first) in
    subst (λ (bs : List ℕ). AnswersMore t.sessions.key (history_of t) (bytes ++ bytes_by line) heads (written ++ bs) (items ++ line_items s line replies) (seat_at t.seats.seats (number_in line))) (sym (outs_by_steps s t line replies text is))
    (subst (λ (xs : List Item). AnswersMore t.sessions.key (history_of t) (bytes ++ bytes_by line) heads (written ++ written_by steps) (items ++ xs) (seat_at t.seats.seats (number_in line))) (sym (items_by_steps s t line replies text is)) more)

-- A line about another connection changes nothing of it.
pub others-more : SeatLaws → (s t : SiteState) (line : SeatLine) (replies : List Bool) (text bytes : List ℕ) (heads : List Head) (written : List ℕ) (items : List Item) (m : ℕ) → seat_line s line replies ≡ Some (Done t text) → m ≢ number_in line
    → PlaceAnswers s.sessions.key (history_of s) bytes heads written items (seat_at s.seats.seats m) → PlaceAnswers t.sessions.key (history_of t) bytes heads written items (seat_at t.seats.seats m)
others-more laws s t line replies text bytes heads written items m is other h =
    subst (λ (p : Option Seat). PlaceAnswers t.sessions.key (history_of t) bytes heads written items p) (sym (others_stay s t line replies text m is other))
    (place (seat_at s.seats.seats m) h)
  where
    stays : SiteStays s t
    stays = line_stays laws.grows s t line replies text is

    place : (p : Option Seat) → PlaceAnswers s.sessions.key (history_of s) bytes heads written items p → PlaceAnswers t.sessions.key (history_of t) bytes heads written items p
    place None (last, end, over, a) = (last, end, over, stays_answers laws s t bytes heads written items last stays a)
    place (Some seat) a = stays_answers laws s t bytes heads written items seat.connection stays a

-- A connection that opens answers its requests.
pub opens-answers : SeatLaws → (s t : SiteState) (n : ℕ) (replies : List Bool) (text : List ℕ) → seat_line s (lines.Conn n) replies ≡ Some (Done t text) → PlaceAnswers t.sessions.key (history_of t) [] [] [] [] (seat_at t.seats.seats n)
opens-answers laws s t n replies text is =
    subst (λ (p : Option Seat). PlaceAnswers t.sessions.key (history_of t) [] [] [] [] p) (sym (opens_fresh s t n replies text is)) (laws.begins t.sessions.key (history_of t))

-- So does one that is given up.
pub given-up : SeatLaws → (key : List ℕ) (history : List Event) (bytes : List ℕ) (heads : List Head) (written : List ℕ) (items : List Item) (seat : Seat) (st : LanesState) → SeatAnswers key history bytes heads written items seat.connection
    → (after : Shepherd ActionCall) × SeatAnswers key history bytes heads written (items ++ items_if (seat_gone seat st).item) after
given-up laws key history bytes heads written items seat st h = by (seat_gone seat st).item refl where
  by : (o : Option Item) → (seat_gone seat st).item ≡ o → (after : Shepherd ActionCall) × SeatAnswers key history bytes heads written (items ++ items_if o) after
  by None is = (seat.connection, subst (λ (xs : List Item). SeatAnswers key history bytes heads written xs seat.connection) (sym (append-nil items)) h)
  by (Some i) is = laws.gone key history bytes heads written items seat st i is h
