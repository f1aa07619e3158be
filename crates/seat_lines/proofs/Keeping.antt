-- What lines leave of what holds of a connection, step by step, whatever it is: of the site, of the bytes that were fed
-- to the connection, of what it put out, of its items, and of the steps that it made.
use Rattle.std.proofs.Common.{◌≡◌, ◌≢◌, ◌⊎◌, inl, inr, ◌∙◌, ℕ, Bool, true, false, cond, List, [], ◌∷◌, ◌++◌, append-nil, append_assoc, Option, Some, None, refl, sym, ap, subst}
use Rattle.std.specs.Prelude.{All}
use Rattle.std.specs.List.{flat_map}
use Rattle.std.proofs.lemmas.List.{get_or-set_same}
use Rattle.std.proofs.lemmas.List.Concat.{flat_map-append}
use Rattle.std.proofs.lemmas.List.Elements.{All-head, All-tail}
use Rattle.auction_calls.specs.declared.action.ActionCall.{ActionCall}
use Rattle.boot_core.specs.Boot.{BootValue}
use Rattle.boot_core.specs.declared.boot.Start.{Start}
use Rattle.container_core.specs.declared.history.Event.{Event}
use Rattle.container_core.specs.declared.history.Event.TheVariants.{Started}
use Rattle.outcome_items.specs.declared.item.Item.{Item}
use Rattle.scenario_text.specs.Answer.{Answer, Refused, Done}
use Rattle.scenario_text.specs.declared.seat_line.SeatLine.{SeatLine}
use Rattle.scenario_text.specs.declared.seat_line.SeatLine.TheVariants as lines
use Rattle.seat_steps.specs.Answering.{events_in}
use Rattle.seat_steps.specs.Seats.{SeatGivens, SeatOutcome, SeatWorld, givens_in, seat_step, seen_by}
use Rattle.seat_steps.specs.declared.seat.Seat.{Seat}
use Rattle.session_lanes.specs.Lanes.{LanesState}
use Rattle.session_steps.specs.Sessions.{SessionsState}
use Rattle.shepherd.specs.Shepherds.{turn}
use Rattle.shepherd.specs.declared.shepherd.EndKind.{EndKind}
use Rattle.shepherd.specs.declared.shepherd.Shepherd.{Shepherd}
use Rattle.shepherd.specs.declared.shepherd.ShepherdTurn.{ShepherdTurn}
use Rattle.shepherd.specs.declared.shepherd.ShepherdTurn.TheVariants as turns
use Rattle.shepherd_steps.specs.Stepping.{event_at, step}
use Rattle.seat_lines.specs.Changing.{ChangesSeatsAlone, IsLeftBySeat, SeatBecomes, makes_steps, number_in}
use Rattle.seat_lines.specs.Items.{items_at, line_items, line_outs, outs_at, over_yields, place_yields, run_yields, step_yields}
use Rattle.seat_lines.specs.Lines.{ended, fed, givens_of, moves, step_line, world_of}
use Rattle.seat_lines.specs.Making.{LineWasMade, StepMade, WasMade, WasStepped, line_makes, run_makes, step_makes}
use Rattle.seat_lines.specs.Responding.{bytes_by, in_row}
use Rattle.seat_lines.specs.Runs.{rests, run_from, seat_line, steps_from}
use Rattle.seat_lines.specs.Site.{SiteState, seat_at, with_seat}
use Rattle.seat_lines.proofs.Answering.{Comes, run_begun, run_keeps}
use Rattle.seat_lines.proofs.OneSeat.{answer_is, bytes_fed, input_ended, others_stay, still_alone, there_refused}
use Rattle.seat_lines.proofs.Saying.{none_given}
use Rattle.seat_lines.proofs.SeatSteps.{goes_ended, left_by_seat, near_step, none_steps, stays_at, waits_still, with_bricks, within_places}

-- What a line leaves of a site: its key, its moment and the start of its boot are as they were, and events were added
-- at the end.
pub record SiteStays (s t : SiteState) : Type 0 where
  pub key : t.sessions.key ≡ s.sessions.key
  pub moment : t.sessions.moment ≡ s.sessions.moment
  pub start : t.boot.start ≡ s.boot.start
  pub more : List Event
  pub since : t.since ≡ s.since ++ more

-- a step of a seat adds events at the end of the history
abbrev pub GrowsLaw : Type 0
GrowsLaw = (g : SeatGivens) (seat : Seat) (w : SeatWorld) → (more : List Event) × (events_in (seat_step g seat w).world ≡ events_in w ++ more)

-- What is asked of what holds: it stays where bytes come or end, and where the site stays; and a step of the connection
-- leaves it, of what it put out and gave besides, if it is one that is made by calls.
pub record KeepingLaws (So : SiteState → List ℕ → List ℕ → List Item → List StepMade → Shepherd ActionCall → Type 0) : Type 0 where
  pub fed : (s : SiteState) (fed more written : List ℕ) (items : List Item) (steps : List StepMade) (c : Shepherd ActionCall) → So s fed written items steps c
      → So s (fed ++ more) written items steps (record c { received = c.received ++ more })
  pub ended : (s : SiteState) (fed written : List ℕ) (items : List Item) (steps : List StepMade) (c : Shepherd ActionCall) → So s fed written items steps c
      → So s fed written items steps (record c { ended = true })
  pub meanwhile : (s t : SiteState) (fed written : List ℕ) (items : List Item) (steps : List StepMade) (c : Shepherd ActionCall) → SiteStays s t → So s fed written items steps c
      → So t fed written items steps c
  pub still : (s : SiteState) (n : ℕ) (keeps : Bool) (seat : Seat) (fed written : List ℕ) (items : List Item) (steps : List StepMade) → seat_at s.seats.seats n ≡ Some seat
      → moves (turn seat.connection) ≡ false → So s fed written items steps seat.connection
      → So s fed written items (steps ++ record { site = s; number = n; keeps = keeps } ∷ []) seat.connection
  pub step : (s t : SiteState) (n : ℕ) (keeps : Bool) (text : List ℕ) (seat : Seat) (st : LanesState) (fed written : List ℕ) (items : List Item) (steps : List StepMade)
      → seat_at s.seats.seats n ≡ Some seat → s.sessions.store ≡ Some st → moves (turn seat.connection) ≡ true → WasStepped (givens_of s n keeps) seat (world_of s st)
      → IsLeftBySeat s n (turn seat.connection) (seat_step (givens_of s n keeps) seat (world_of s st)) t text → So s fed written items steps seat.connection
      → So t fed (written ++ (seat_step (givens_of s n keeps) seat (world_of s st)).bytes) (items ++ (seat_step (givens_of s n keeps) seat (world_of s st)).items)
      (steps ++ record { site = s; number = n; keeps = keeps } ∷ []) (seat_step (givens_of s n keeps) seat (world_of s st)).seat.connection

-- what holds of a connection in its place; of one that is gone it held at its end
abbrev pub PlaceHolds : (SiteState → List ℕ → List ℕ → List Item → List StepMade → Shepherd ActionCall → Type 0) → SiteState → List ℕ → List ℕ → List Item → List StepMade → Option Seat → Type 0
PlaceHolds So s fed written items steps (Some seat) = So s fed written items steps seat.connection
PlaceHolds So s fed written items steps None =
    (last : Shepherd ActionCall) × (end : EndKind) × (turn last ≡ turns.Ended end) × So s fed written items steps last

-- what these steps put out, in order
abbrev pub written_by : List StepMade → List ℕ
written_by steps = flat_map (λ (step : StepMade). in_row (step_yields outs_at step.site step.number step.keeps)) steps

-- the items that they gave, in order
abbrev pub items_by : List StepMade → List Item
items_by steps = flat_map (λ (step : StepMade). step_yields items_at step.site step.number step.keeps) steps

-- what a step puts out are its bytes
pub bytes_out : (g : SeatGivens) (seat : Seat) (w : SeatWorld) (t : ShepherdTurn) → turn seat.connection ≡ t → in_row (outs_at t (seat_step g seat w)) ≡ (seat_step g seat w).bytes
unfolding seat_step step
bytes_out g seat w t is = by t is where
  none : (u : ShepherdTurn) → turn seat.connection ≡ u → (event_at (givens_in g w) u (seen_by seat w)).1 ≡ [] → [] ≡ (seat_step g seat w).bytes
  none u at empty = sym (ap (λ (x : ShepherdTurn). (event_at (givens_in g w) x (seen_by seat w)).1) at ∙ empty)

  by : (u : ShepherdTurn) → turn seat.connection ≡ u → in_row (outs_at u (seat_step g seat w)) ≡ (seat_step g seat w).bytes
  by turns.Bytes at = none turns.Bytes at refl
  by turns.Request at = none turns.Request at refl
  by turns.Outside at = none turns.Outside at refl
  by turns.Windows at = none turns.Windows at refl
  by turns.Inside at = none turns.Inside at refl
  by turns.Program at = none turns.Program at refl
  by turns.Own at = none turns.Own at refl
  by turns.Output at = append-nil (seat_step g seat w).bytes
  by turns.Item at = none turns.Item at refl
  by (turns.Ended end) at = none (turns.Ended end) at refl

-- What a site leaves of another.

stays_by : (s t : SiteState) → t.sessions ≡ s.sessions → t.boot ≡ s.boot → t.since ≡ s.since → SiteStays s t
stays_by s t sessions boot since = record {
  key = ap (λ (x : SessionsState). x.key) sessions;
  moment = ap (λ (x : SessionsState). x.moment) sessions;
  start = ap (λ (b : BootValue). b.start) boot;
  more = [];
  since = since ∙ sym (append-nil s.since);
}

pub stays_on : (s x t : SiteState) → SiteStays s x → SiteStays x t → SiteStays s t
stays_on s x t first later = record {
  key = later.key ∙ first.key;
  moment = later.moment ∙ first.moment;
  start = later.start ∙ first.start;
  more = first.more ++ later.more;
  since = later.since ∙ (ap (λ (es : List Event). es ++ later.more) first.since ∙ append_assoc s.since first.more later.more);
}

-- the history of a site that stays
pub history_stays : (s t : SiteState) → (stays : SiteStays s t) → Started t.boot.start ∷ t.since ≡ (Started s.boot.start ∷ s.since) ++ stays.more
history_stays s t stays = ap (λ (x : Start). Started x ∷ t.since) stays.start ∙ ap (λ (es : List Event). Started s.boot.start ∷ es) stays.since

split_history : (a b : Start) (xs ys : List Event) → Started a ∷ xs ≡ Started b ∷ ys → (a ≡ b) × (xs ≡ ys)
split_history a b xs ys is = let starts : a ≡ b = cc in let rest : xs ≡ ys = cc in (starts, rest)

module _ (s : SiteState) (n : ℕ) (keeps : Bool) (t : SiteState) (text : List ℕ) (is : step_line s n keeps ≡ Done t text) where
  -- what a step gives that is done
  pub given : {A : Type 0} (gives : ShepherdTurn → SeatOutcome → List A) (seat : Seat) (st : LanesState) → seat_at s.seats.seats n ≡ Some seat → s.sessions.store ≡ Some st
      → step_yields gives s n keeps ≡ gives (turn seat.connection) (seat_step (givens_of s n keeps) seat (world_of s st))
  given {A} gives seat st there bricks =
      ap (λ (b : Bool). cond b [] (over_yields gives s n keeps s.sessions.store)) (near_step s n keeps t text is)
      ∙ (ap (λ (o : Option LanesState). over_yields gives s n keeps o) bricks
      ∙ ap (λ (o : Option Seat). place_yields gives (givens_of s n keeps) o (world_of s st)) there)

  module _ (seat : Seat) (there : seat_at s.seats.seats n ≡ Some seat) (st : LanesState) (bricks : s.sessions.store ≡ Some st) where
    abbrev o : SeatOutcome
    o = seat_step (givens_of s n keeps) seat (world_of s st)

    abbrev at : ShepherdTurn
    at = turn seat.connection

    -- one that moves puts out the bytes of its seat, and gives its items
    pub moving_outs : in_row (step_yields outs_at s n keeps) ≡ o.bytes
    moving_outs = ap in_row (given outs_at seat st there bricks) ∙ bytes_out (givens_of s n keeps) seat (world_of s st) at refl

    pub moving_items : moves at ≡ true → step_yields items_at s n keeps ≡ o.items
    moving_items moving = given items_at seat st there bricks ∙ ap (λ (b : Bool). cond b o.items []) moving

    -- one that does not puts out nothing, and gives none
    pub still_outs : moves at ≡ false → in_row (step_yields outs_at s n keeps) ≡ []
    still_outs still = ap in_row (given outs_at seat st there bricks ∙ (none_given at o still).0)

    pub still_items : moves at ≡ false → step_yields items_at s n keeps ≡ []
    still_items still = given items_at seat st there bricks ∙ (none_given at o still).1

    left_stays : GrowsLaw → IsLeftBySeat s n at o t text → SiteStays s t
    left_stays grows left =
        let grown = grows (givens_of s n keeps) seat (world_of s st) in
        let both : (o.world.boot.start ≡ s.boot.start) × (o.world.since ≡ s.since ++ grown.0) = split_history o.world.boot.start s.boot.start o.world.since (s.since ++ grown.0) grown.1 in
        record {
          key = ap (λ (x : SessionsState). x.key) left.sessions;
          moment = ap (λ (x : SessionsState). x.moment) left.sessions;
          start = ap (λ (b : BootValue). b.start) left.boot ∙ both.0;
          more = grown.0;
          since = left.since ∙ both.1;
        }

    -- a site that a connection left which has ended
    gone_stays : t ≡ with_seat s n None → SiteStays s t
    gone_stays gone = stays_by s t (ap (λ (x : SiteState). x.sessions) gone) (ap (λ (x : SiteState). x.boot) gone) (ap (λ (x : SiteState). x.since) gone)

    gone_place : t ≡ with_seat s n None → seat_at t.seats.seats n ≡ None
    gone_place gone = ap (λ (x : SiteState). seat_at x.seats.seats n) gone ∙ get_or-set_same s.seats.seats n None None (within_places s.seats.seats n seat there)

    at_stays : GrowsLaw → SiteStays s t
    at_stays grows = by (moves at) refl where
      still : ((at ≡ turns.Bytes) ⊎ ((end : EndKind) × (at ≡ turns.Ended end))) → SiteStays s t
      still (inl waiting) =
          let same : t ≡ s = (waits_still s n keeps t text seat there waiting is).0 in
          stays_by s t (ap (λ (x : SiteState). x.sessions) same) (ap (λ (x : SiteState). x.boot) same) (ap (λ (x : SiteState). x.since) same)
      still (inr (end, over)) = gone_stays (goes_ended s n keeps t text seat end there over is).0

      by : (b : Bool) → moves at ≡ b → SiteStays s t
      by true moving = left_stays grows (left_by_seat s n keeps t text seat st there bricks moving is)
      by false none = still (stays_at at none)

  -- A step leaves a site that stays.
  step_stays : GrowsLaw → SiteStays s t
  step_stays grows = go (with_bricks s n keeps t text is) where
    at_place : (st : LanesState) → s.sessions.store ≡ Some st → (x : Option Seat) → seat_at s.seats.seats n ≡ x → SiteStays s t
    at_place st bricks None none = absurd (let refuses : Refused ≡ Done t text = sym (none_steps s n keeps none) ∙ is in cc)
    at_place st bricks (Some seat) there = at_stays seat there st bricks grows

    go : ((st : LanesState) × (s.sessions.store ≡ Some st)) → SiteStays s t
    go (st, bricks) = at_place st bricks (seat_at s.seats.seats n) refl

-- What any line leaves of the site.
pub line_stays : GrowsLaw → (s t : SiteState) (line : SeatLine) (replies : List Bool) (text : List ℕ) → seat_line s line replies ≡ Some (Done t text) → SiteStays s t
line_stays grows s t line replies text is = by line is where
  alone : (x : SeatLine) → seat_line s x replies ≡ Some (Done t text) → makes_steps x ≡ false → SiteStays s t
  alone x e still = let a : ChangesSeatsAlone s t text = still_alone s t x replies text e still in stays_by s t a.sessions a.boot a.since

  stepped : (n : ℕ) (rs : List Bool) → seat_line s (lines.Step n) rs ≡ Some (Done t text) → SiteStays s t
  stepped n [] e = absurd (cc)
  stepped n (keeps ∷ more) e = step_stays s n keeps t text (answer_is (step_line s n keeps) t text e) grows

  each : (n : ℕ) (x : SiteState) (keeps : Bool) → SiteStays s x → Comes (λ y o. SiteStays s y) (step_line x n keeps)
  each n x keeps so = at (step_line x n keeps) refl where
    at : (a : Answer SiteState) → step_line x n keeps ≡ a → Comes (λ y o. SiteStays s y) a
    at Refused e = tt
    at (Done y o) e = stays_on s x y so (step_stays x n keeps y o e grows)

  by : (x : SeatLine) → seat_line s x replies ≡ Some (Done t text) → SiteStays s t
  by (lines.Conn n) e = alone (lines.Conn n) e refl
  by (lines.Bytes n came) e = alone (lines.Bytes n came) e refl
  by (lines.End n) e = alone (lines.End n) e refl
  by (lines.Step n) e = stepped n replies e
  by (lines.Run n) e = run_keeps (λ x. SiteStays s x) n (each n) s [] replies t text (stays_by s s refl refl refl) (run_begun s t n replies text e)

-- These steps of a connection lead from a site to another: each is done over the site that the one before left.
abbrev pub LeadTo : ℕ → List StepMade → SiteState → SiteState → Type 0
LeadTo n [] s t = t ≡ s
LeadTo n (step ∷ steps) s t =
    (keeps : Bool) × (step ≡ record { site = s; number = n; keeps = keeps })
    × (mid : SiteState) × (out : List ℕ) × (step_line s n keeps ≡ Done mid out) × LeadTo n steps mid t

-- the steps of a run that is done lead to where it ends
run_leads : (n : ℕ) (replies : List Bool) (s : SiteState) (text : List ℕ) (t : SiteState) (out : List ℕ) → run_from s text n replies ≡ Some (Done t out) → LeadTo n (run_makes s n replies) s t
run_leads n [] s text t out is = go (rests (seat_at s.seats.seats n)) is where
  go : (b : Bool) → cond b (Some (Done s text)) None ≡ Some (Done t out) → t ≡ s
  go true e = cc
  go false e = absurd (cc)
run_leads n (keeps ∷ more) s text t out is = go (λ x o. run_leads n more x (text ++ o) t out) (rests (seat_at s.seats.seats n)) (step_line s n keeps) refl is where
  Later : Type 0
  Later = (x : SiteState) (o : List ℕ) → run_from x (text ++ o) n more ≡ Some (Done t out) → LeadTo n (run_makes x n more) x t

  go : Later → (b : Bool) (a : Answer SiteState) → step_line s n keeps ≡ a → cond b (Some (Done s text)) (elim a [ Refused ↦ Some Refused | Done x o ↦ run_from x (text ++ o) n more ]) ≡ Some (Done t out)
      → LeadTo n (cond b [] (elim a [ Refused ↦ [] | Done x o ↦ record { site = s; number = n; keeps = keeps } ∷ run_makes x n more ])) s t
  go later true a at e = let same : t ≡ s = cc in same
  go later false Refused at e = absurd (cc)
  go later false (Done x o) at e = (keeps, refl, x, o, at, later x o e)

-- and those of a run that is under way to where it is
steps_lead : (n : ℕ) (replies : List Bool) (s t : SiteState) → steps_from s n replies ≡ Some t → LeadTo n (run_makes s n replies) s t
steps_lead n [] s t is = let same : t ≡ s = cc in same
steps_lead n (keeps ∷ more) s t is = go (λ x. steps_lead n more x t) (rests (seat_at s.seats.seats n)) (step_line s n keeps) refl is where
  go : ((x : SiteState) → steps_from x n more ≡ Some t → LeadTo n (run_makes x n more) x t) → (b : Bool) (a : Answer SiteState) → step_line s n keeps ≡ a → cond b None (elim a [ Refused ↦ None | Done x o ↦ steps_from x n more ]) ≡ Some t
      → LeadTo n (cond b [] (elim a [ Refused ↦ [] | Done x o ↦ record { site = s; number = n; keeps = keeps } ∷ run_makes x n more ])) s t
  go later true a at e = absurd (cc)
  go later false Refused at e = absurd (cc)
  go later false (Done x o) at e = (keeps, refl, x, o, at, later x e)

-- and one step to what it leaves
step_leads : (n : ℕ) (keeps : Bool) (more : List Bool) (s t : SiteState) (text : List ℕ) → step_line s n keeps ≡ Done t text → LeadTo n (step_makes s n (keeps ∷ more)) s t
step_leads n keeps more s t text is =
    subst (λ (a : Answer SiteState). LeadTo n (elim a [ Refused ↦ [] | Done x o ↦ record { site = s; number = n; keeps = keeps } ∷ [] ]) s t) (sym is) (keeps, refl, t, text, is, refl)

-- What steps yield.

-- what a run yields is what its steps yield
pub run_by_steps : {A : Type 0} (gives : ShepherdTurn → SeatOutcome → List A) (n : ℕ) (replies : List Bool) (s : SiteState)
    → run_yields gives s n replies ≡ flat_map (λ (step : StepMade). step_yields gives step.site step.number step.keeps) (run_makes s n replies)
run_by_steps {A} gives n [] s = refl
run_by_steps {A} gives n (keeps ∷ more) s = go (λ x. run_by_steps gives n more x) (rests (seat_at s.seats.seats n)) (step_line s n keeps) where
  Yields : List StepMade → List A
  Yields steps = flat_map (λ (step : StepMade). step_yields gives step.site step.number step.keeps) steps

  go : ((x : SiteState) → run_yields gives x n more ≡ Yields (run_makes x n more)) → (b : Bool) (a : Answer SiteState)
      → cond b [] (elim a [ Refused ↦ [] | Done x o ↦ step_yields gives s n keeps ++ run_yields gives x n more ])
      ≡ Yields (cond b [] (elim a [ Refused ↦ [] | Done x o ↦ record { site = s; number = n; keeps = keeps } ∷ run_makes x n more ]))
  go later true a = refl
  go later false Refused = refl
  go later false (Done x o) = ap (λ (xs : List A). step_yields gives s n keeps ++ xs) (later x)

-- what a line yields is what its steps yield
pub line_by_steps : {A : Type 0} (gives : ShepherdTurn → SeatOutcome → List A) (n : ℕ) (keeps : Bool) (more : List Bool) (s t : SiteState) (text : List ℕ) → step_line s n keeps ≡ Done t text
    → step_yields gives s n keeps ≡ flat_map (λ (step : StepMade). step_yields gives step.site step.number step.keeps) (step_makes s n (keeps ∷ more))
line_by_steps {A} gives n keeps more s t text is =
    sym (ap (λ (a : Answer SiteState). flat_map (λ (step : StepMade). step_yields gives step.site step.number step.keeps) (elim a [ Refused ↦ [] | Done x o ↦ record { site = s; number = n; keeps = keeps } ∷ [] ])) is
    ∙ append-nil (step_yields gives s n keeps))

pub items_by_steps : (s t : SiteState) (line : SeatLine) (replies : List Bool) (text : List ℕ) → seat_line s line replies ≡ Some (Done t text) → line_items s line replies ≡ items_by (line_makes s line replies)
items_by_steps s t (lines.Conn n) replies text is = refl
items_by_steps s t (lines.Bytes n bytes) replies text is = refl
items_by_steps s t (lines.End n) replies text is = refl
items_by_steps s t (lines.Step n) [] text is = refl
items_by_steps s t (lines.Step n) (keeps ∷ more) text is = line_by_steps items_at n keeps more s t text (answer_is (step_line s n keeps) t text is)
items_by_steps s t (lines.Run n) replies text is = run_by_steps items_at n replies s

-- what was put out by steps, response by response, is what they put out
in_row_by_steps : (steps : List StepMade) → in_row (flat_map (λ (step : StepMade). step_yields outs_at step.site step.number step.keeps) steps) ≡ written_by steps
in_row_by_steps [] = refl
in_row_by_steps (step ∷ steps) =
    let this : List (List ℕ) = step_yields outs_at step.site step.number step.keeps in
    flat_map-append (λ (bytes : List ℕ). bytes) this (flat_map (λ (x : StepMade). step_yields outs_at x.site x.number x.keeps) steps) ∙ ap (λ (bs : List ℕ). in_row this ++ bs) (in_row_by_steps steps)

pub outs_by_steps : (s t : SiteState) (line : SeatLine) (replies : List Bool) (text : List ℕ) → seat_line s line replies ≡ Some (Done t text) → in_row (line_outs s line replies) ≡ written_by (line_makes s line replies)
outs_by_steps s t (lines.Conn n) replies text is = refl
outs_by_steps s t (lines.Bytes n bytes) replies text is = refl
outs_by_steps s t (lines.End n) replies text is = refl
outs_by_steps s t (lines.Step n) [] text is = refl
outs_by_steps s t (lines.Step n) (keeps ∷ more) text is =
    ap in_row (line_by_steps outs_at n keeps more s t text (answer_is (step_line s n keeps) t text is)) ∙ in_row_by_steps (step_makes s n (keeps ∷ more))
outs_by_steps s t (lines.Run n) replies text is = ap in_row (run_by_steps outs_at n replies s) ∙ in_row_by_steps (run_makes s n replies)

-- What steps leave of what holds.

module _ (So : SiteState → List ℕ → List ℕ → List Item → List StepMade → Shepherd ActionCall → Type 0) where
  -- the same, told of what is equal
  place_as : (t : SiteState) (bytes written written' : List ℕ) (items items' : List Item) (steps steps' : List StepMade) (p p' : Option Seat) → written ≡ written' → items ≡ items' → steps ≡ steps' → p ≡ p'
      → PlaceHolds So t bytes written items steps p → PlaceHolds So t bytes written' items' steps' p'
  place_as t bytes written written' items items' steps steps' p p' a b c d h =
      subst (λ (x : List ℕ). PlaceHolds So t bytes x items' steps' p') a
      (subst (λ (x : List Item). PlaceHolds So t bytes written x steps' p') b
      (subst (λ (x : List StepMade). PlaceHolds So t bytes written items x p') c
      (subst (λ (x : Option Seat). PlaceHolds So t bytes written items steps x) d h)))

  module _ (laws : KeepingLaws So) where
    module _ (s : SiteState) (n : ℕ) (keeps : Bool) (t : SiteState) (text : List ℕ) (is : step_line s n keeps ≡ Done t text) (bytes written : List ℕ) (items : List Item) (steps : List StepMade)
        (seat : Seat) (there : seat_at s.seats.seats n ≡ Some seat) (h : So s bytes written items steps seat.connection) where
      abbrev more : List StepMade
      more = steps ++ record { site = s; number = n; keeps = keeps } ∷ []

      module _ (st : LanesState) (bricks : s.sessions.store ≡ Some st) where
        abbrev out : SeatOutcome
        out = seat_step (givens_of s n keeps) seat (world_of s st)

        abbrev here : ShepherdTurn
        here = turn seat.connection

        abbrev Stepped : Type 0
        Stepped = PlaceHolds So t bytes (written ++ in_row (outs_at here out)) (items ++ items_at here out) more (seat_at t.seats.seats n)

        -- at a turn at which none is made
        no_outs : (u : ShepherdTurn) → here ≡ u → outs_at u out ≡ [] → written ≡ written ++ in_row (outs_at here out)
        no_outs u same none = sym (ap (λ (x : ShepherdTurn). written ++ in_row (outs_at x out)) same ∙ (ap (λ (xs : List (List ℕ)). written ++ in_row xs) none ∙ append-nil written))

        no_items : (u : ShepherdTurn) → here ≡ u → items_at u out ≡ [] → items ≡ items ++ items_at here out
        no_items u same none = sym (ap (λ (x : ShepherdTurn). items ++ items_at x out) same ∙ (ap (λ (xs : List Item). items ++ xs) none ∙ append-nil items))

        moving_holds : WasStepped (givens_of s n keeps) seat (world_of s st) → moves here ≡ true → Stepped
        moving_holds made moving =
            let left : IsLeftBySeat s n here out t text = left_by_seat s n keeps t text seat st there bricks moving is in
            let gets : items_at here out ≡ out.items = ap (λ (b : Bool). cond b out.items []) moving in
            place_as t bytes (written ++ out.bytes) (written ++ in_row (outs_at here out)) (items ++ out.items) (items ++ items_at here out) more more (Some out.seat) (seat_at t.seats.seats n)
            (ap (λ (bs : List ℕ). written ++ bs) (sym (bytes_out (givens_of s n keeps) seat (world_of s st) here refl))) (ap (λ (xs : List Item). items ++ xs) (sym gets)) refl (sym left.seat)
            (laws.step s t n keeps text seat st bytes written items steps there bricks moving made left h)

        waits_holds : here ≡ turns.Bytes → Stepped
        waits_holds waiting =
            let same : t ≡ s = (waits_still s n keeps t text seat there waiting is).0 in
            place_as t bytes written (written ++ in_row (outs_at here out)) items (items ++ items_at here out) more more (Some seat) (seat_at t.seats.seats n)
            (no_outs turns.Bytes waiting refl) (no_items turns.Bytes waiting refl) refl (sym there ∙ ap (λ (x : SiteState). seat_at x.seats.seats n) (sym same))
            (subst (λ (x : SiteState). So x bytes written items more seat.connection) (sym same) (laws.still s n keeps seat bytes written items steps there (ap moves waiting) h))

        ends_holds : (end : EndKind) → here ≡ turns.Ended end → Stepped
        ends_holds end over =
            let gone : t ≡ with_seat s n None = (goes_ended s n keeps t text seat end there over is).0 in
            place_as t bytes written (written ++ in_row (outs_at here out)) items (items ++ items_at here out) more more None (seat_at t.seats.seats n)
            (no_outs (turns.Ended end) over refl) (no_items (turns.Ended end) over refl) refl (sym (gone_place s n keeps t text is seat there st bricks gone)) (
              seat.connection,
              end,
              over,
              laws.meanwhile s t bytes written items more seat.connection (gone_stays s n keeps t text is seat there st bricks gone) (laws.still s n keeps seat bytes written items steps there (ap moves over) h),
            )

        at_holds : (moves here ≡ true → WasStepped (givens_of s n keeps) seat (world_of s st)) → Stepped
        at_holds made = by (moves here) refl where
          still : ((here ≡ turns.Bytes) ⊎ ((end : EndKind) × (here ≡ turns.Ended end))) → Stepped
          still (inl waiting) = waits_holds waiting
          still (inr (end, over)) = ends_holds end over

          by : (b : Bool) → moves here ≡ b → Stepped
          by true moving = moving_holds (made moving) moving
          by false none = still (stays_at here none)

      -- What a step leaves of a connection that is there.
      step_holds : WasMade (record { site = s; number = n; keeps = keeps }) → PlaceHolds So t bytes (written ++ in_row (step_yields outs_at s n keeps)) (items ++ step_yields items_at s n keeps) more (seat_at t.seats.seats n)
      step_holds made = go (with_bricks s n keeps t text is) where
        go : ((st : LanesState) × (s.sessions.store ≡ Some st)) → PlaceHolds So t bytes (written ++ in_row (step_yields outs_at s n keeps)) (items ++ step_yields items_at s n keeps) more (seat_at t.seats.seats n)
        go (st, bricks) =
            let o : SeatOutcome = seat_step (givens_of s n keeps) seat (world_of s st) in
            place_as t bytes (written ++ in_row (outs_at (turn seat.connection) o)) (written ++ in_row (step_yields outs_at s n keeps)) (items ++ items_at (turn seat.connection) o) (items ++ step_yields items_at s n keeps)
            more more (seat_at t.seats.seats n) (seat_at t.seats.seats n)
            (ap (λ (xs : List (List ℕ)). written ++ in_row xs) (sym (given s n keeps t text is outs_at seat st there bricks))) (ap (λ (xs : List Item). items ++ xs) (sym (given s n keeps t text is items_at seat st there bricks))) refl refl
            (at_holds st bricks (λ moving. made st seat bricks there moving))

    -- What steps leave of their connection.
    lead_holds : (n : ℕ) (made : List StepMade) (s t : SiteState) (bytes written : List ℕ) (items : List Item) (steps : List StepMade) → LeadTo n made s t → All WasMade made
        → PlaceHolds So s bytes written items steps (seat_at s.seats.seats n) → PlaceHolds So t bytes (written ++ written_by made) (items ++ items_by made) (steps ++ made) (seat_at t.seats.seats n)
    lead_holds n [] s t bytes written items steps is all h =
        place_as t bytes written (written ++ []) items (items ++ []) steps (steps ++ []) (seat_at t.seats.seats n) (seat_at t.seats.seats n) (sym (append-nil written)) (sym (append-nil items)) (sym (append-nil steps)) refl
        (subst (λ (x : SiteState). PlaceHolds So x bytes written items steps (seat_at x.seats.seats n)) (sym is) h)
    lead_holds n (step ∷ made) s t bytes written items steps (keeps, step_is, mid, out, done, later) all h =
        go (λ w i x. lead_holds n made mid t bytes w i x later (All-tail WasMade step made all)) (seat_at s.seats.seats n) refl h where
          this : StepMade
          this = record { site = s; number = n; keeps = keeps }

          outs : List ℕ
          outs = in_row (step_yields outs_at s n keeps)

          gives : List Item
          gives = step_yields items_at s n keeps

          Later : Type 0
          Later = (w : List ℕ) (i : List Item) (x : List StepMade) → PlaceHolds So mid bytes w i x (seat_at mid.seats.seats n) → PlaceHolds So t bytes (w ++ written_by made) (i ++ items_by made) (x ++ made) (seat_at t.seats.seats n)

          go : Later → (p : Option Seat) → seat_at s.seats.seats n ≡ p → PlaceHolds So s bytes written items steps p
              → PlaceHolds So t bytes (written ++ written_by (step ∷ made)) (items ++ items_by (step ∷ made)) (steps ++ step ∷ made) (seat_at t.seats.seats n)
          go on None none held = absurd (let refuses : Refused ≡ Done mid out = sym (none_steps s n keeps none) ∙ done in cc)
          go on (Some seat) there held =
              let made_so : WasMade this = subst WasMade step_is (All-head WasMade step made all) in
              let first : PlaceHolds So mid bytes (written ++ outs) (items ++ gives) (steps ++ this ∷ []) (seat_at mid.seats.seats n) = step_holds s n keeps mid out done bytes written items steps seat there held made_so in
              place_as t bytes ((written ++ outs) ++ written_by made) (written ++ written_by (step ∷ made)) ((items ++ gives) ++ items_by made) (items ++ items_by (step ∷ made)) ((steps ++ this ∷ []) ++ made) (steps ++ step ∷ made)
              (seat_at t.seats.seats n) (seat_at t.seats.seats n)
              (append_assoc written outs (written_by made) ∙ ap (λ (x : StepMade). written ++ written_by (x ∷ made)) (sym step_is))
              (append_assoc items gives (items_by made) ∙ ap (λ (x : StepMade). items ++ items_by (x ∷ made)) (sym step_is))
              (append_assoc steps (this ∷ []) made ∙ ap (λ (x : StepMade). steps ++ x ∷ made) (sym step_is)) refl
              (on (written ++ outs) (items ++ gives) (steps ++ this ∷ []) first)

    -- What whole steps of a run leave of their connection, which may go on.
    pub steps_hold : (s t : SiteState) (n : ℕ) (replies : List Bool) (bytes written : List ℕ) (items : List Item) (steps : List StepMade) → steps_from s n replies ≡ Some t → All WasMade (run_makes s n replies)
        → PlaceHolds So s bytes written items steps (seat_at s.seats.seats n)
        → PlaceHolds So t bytes (written ++ written_by (run_makes s n replies)) (items ++ items_by (run_makes s n replies)) (steps ++ run_makes s n replies) (seat_at t.seats.seats n)
    steps_hold s t n replies bytes written items steps is made h = lead_holds n (run_makes s n replies) s t bytes written items steps (steps_lead n replies s t is) made h

    -- what comes to a connection
    came_holds : (n : ℕ) (s t : SiteState) (text bytes written : List ℕ) (items : List Item) (steps : List StepMade) (seat : Seat) (become : Seat → Seat) → seat_at s.seats.seats n ≡ Some seat → SeatBecomes n s become t
        → ChangesSeatsAlone s t text → So s bytes written items steps (become seat).connection → PlaceHolds So t bytes (written ++ []) (items ++ []) (steps ++ []) (seat_at t.seats.seats n)
    came_holds n s t text bytes written items steps seat become there comes alone h =
        let same : comes.seat ≡ seat = (let both : Some comes.seat ≡ Some seat = sym comes.was ∙ there in cc) in
        place_as t bytes written (written ++ []) items (items ++ []) steps (steps ++ []) (Some (become seat)) (seat_at t.seats.seats n) (sym (append-nil written)) (sym (append-nil items)) (sym (append-nil steps))
        (ap (λ (x : Seat). Some (become x)) (sym same) ∙ sym comes.becomes)
        (laws.meanwhile s t bytes written items steps (become seat).connection (stays_by s t alone.sessions alone.boot alone.since) h)

    -- What a line leaves of its connection, which is there or gone behind it.
    pub line_holds : (s t : SiteState) (line : SeatLine) (replies : List Bool) (text bytes written : List ℕ) (items : List Item) (steps : List StepMade) (seat : Seat)
        → seat_line s line replies ≡ Some (Done t text) → LineWasMade s line replies → seat_at s.seats.seats (number_in line) ≡ Some seat → So s bytes written items steps seat.connection
        → PlaceHolds So t (bytes ++ bytes_by line) (written ++ written_by (line_makes s line replies)) (items ++ items_by (line_makes s line replies)) (steps ++ line_makes s line replies) (seat_at t.seats.seats (number_in line))
    line_holds s t (lines.Conn n) replies text bytes written items steps seat is made there h = absurd (let not : seat_line s (lines.Conn n) replies ≡ Some Refused = there_refused s n replies seat there in cc)
    line_holds s t (lines.Bytes n came) replies text bytes written items steps seat is made there h =
        came_holds n s t text (bytes ++ came) written items steps seat (λ x. fed x came) there (bytes_fed s t n came replies text is) (still_alone s t (lines.Bytes n came) replies text is refl)
        (laws.fed s bytes came written items steps seat.connection h)
    line_holds s t (lines.End n) replies text bytes written items steps seat is made there h =
        came_holds n s t text (bytes ++ []) written items steps seat ended there (input_ended s t n replies text is) (still_alone s t (lines.End n) replies text is refl)
        (subst (λ (b : List ℕ). So s b written items steps (ended seat).connection) (sym (append-nil bytes)) (laws.ended s bytes written items steps seat.connection h))
    line_holds s t (lines.Step n) [] text bytes written items steps seat is made there h = absurd (cc)
    line_holds s t (lines.Step n) (keeps ∷ more) text bytes written items steps seat is made there h =
        let one : List StepMade = step_makes s n (keeps ∷ more) in
        subst (λ (b : List ℕ). PlaceHolds So t b (written ++ written_by one) (items ++ items_by one) (steps ++ one) (seat_at t.seats.seats n)) (sym (append-nil bytes))
        (lead_holds n one s t bytes written items steps (step_leads n keeps more s t text (answer_is (step_line s n keeps) t text is)) made
        (subst (λ (p : Option Seat). PlaceHolds So s bytes written items steps p) (sym there) h))
    line_holds s t (lines.Run n) replies text bytes written items steps seat is made there h =
        let all : List StepMade = run_makes s n replies in
        subst (λ (b : List ℕ). PlaceHolds So t b (written ++ written_by all) (items ++ items_by all) (steps ++ all) (seat_at t.seats.seats n)) (sym (append-nil bytes))
        (lead_holds n all s t bytes written items steps (run_leads n replies s [] t text (run_begun s t n replies text is)) made
        (subst (λ (p : Option Seat). PlaceHolds So s bytes written items steps p) (sym there) h))

    -- What a site that stays leaves of a connection, or of one that is gone.
    pub place_stays : (s t : SiteState) (bytes written : List ℕ) (items : List Item) (steps : List StepMade) (p : Option Seat) → SiteStays s t → PlaceHolds So s bytes written items steps p
        → PlaceHolds So t bytes written items steps p
    place_stays s t bytes written items steps None stays (last, end, over, h) = (last, end, over, laws.meanwhile s t bytes written items steps last stays h)
    place_stays s t bytes written items steps (Some seat) stays h = laws.meanwhile s t bytes written items steps seat.connection stays h

    -- A line about another connection changes nothing of it.
    pub others_hold : GrowsLaw → (s t : SiteState) (line : SeatLine) (replies : List Bool) (text bytes written : List ℕ) (items : List Item) (steps : List StepMade) (m : ℕ) → seat_line s line replies ≡ Some (Done t text)
        → m ≢ number_in line → PlaceHolds So s bytes written items steps (seat_at s.seats.seats m) → PlaceHolds So t bytes written items steps (seat_at t.seats.seats m)
    others_hold grows s t line replies text bytes written items steps m is other h =
        subst (λ (p : Option Seat). PlaceHolds So t bytes written items steps p) (sym (others_stay s t line replies text m is other))
        (place_stays s t bytes written items steps (seat_at s.seats.seats m) (line_stays grows s t line replies text is) h)

-- What whole steps of a run leave of the site.
pub steps_stay : GrowsLaw → (s t : SiteState) (n : ℕ) (replies : List Bool) → steps_from s n replies ≡ Some t → SiteStays s t
steps_stay grows s t n replies is = lead_stays (run_makes s n replies) s (steps_lead n replies s t is) where
  lead_stays : (steps : List StepMade) (x : SiteState) → LeadTo n steps x t → SiteStays x t
  lead_stays [] x same = stays_by x t (ap (λ (y : SiteState). y.sessions) same) (ap (λ (y : SiteState). y.boot) same) (ap (λ (y : SiteState). y.since) same)
  lead_stays (step ∷ steps) x (keeps, step_is, mid, out, done, later) = stays_on x mid t (step_stays x n keeps mid out done grows) (lead_stays steps mid later)
