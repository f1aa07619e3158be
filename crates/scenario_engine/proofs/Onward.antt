-- From the begin of a step on, which a connection makes over bricks: the steps of its turn are made over later bricks,
-- and what a connection begins that was idle then is none of their calls. So it is in the boot that the turn leaves.
use Rattle.std.proofs.Common.{◌≡◌, ℕ, Bool, true, false, cond, if◌then◌else◌, List, [], ◌∷◌, ◌++◌, Option, Some, None, is_some, refl, sym, ap, ◌∙◌, subst}
use Rattle.std.specs.Prelude.{All}
use Rattle.std.specs.Option.{option_map}
use Rattle.std.proofs.lemmas.List.Elements.{All-cons, All-head, All-nil, All-tail, All-weaker}
use Rattle.lane_link.specs.Twins.{ByEvents}
use Rattle.line_steps.specs.declared.head.Head.{Head}
use Rattle.scenario_text.specs.Answer.{Answer, Refused, Done, within}
use Rattle.scenario_text.specs.Line.{is_event}
use Rattle.scenario_text.specs.Reading.{line_of}
use Rattle.scenario_text.specs.declared.line.Line.{Line}
use Rattle.scenario_text.specs.declared.line.Line.TheVariants as lines
use Rattle.scenario_text.specs.declared.seat_line.SeatLine.{SeatLine}
use Rattle.scenario_text.specs.declared.seat_line.SeatLine.TheVariants as seats
use Rattle.scenario_text.proofs.Leaving.{Leaves}
use Rattle.seat_lines.specs.Lines.{is_beyond, step_line}
use Rattle.seat_lines.specs.Making.{StepHearsSpelled, StepMade, line_makes, run_makes}
use Rattle.seat_lines.specs.Runs.{can_run, rests, run_from, run_line, seat_line}
use Rattle.seat_lines.specs.Site.{SeatsState, SiteState, no_seats, seat_at}
use Rattle.seat_steps.specs.declared.seat.Seat.{Seat}
use Rattle.session_lanes.specs.Lanes.{LanesState}
use Rattle.session_steps.specs.Lent.{LentStep, after_lent}
use Rattle.session_steps.specs.Sessions.{SessionsState}
use Rattle.session_steps.specs.Setup.{set_up}
use Rattle.scenario_engine.specs.Connections.{IsMadeBy, makes_on, makes_over, makes_to, turn_makes}
use Rattle.scenario_engine.specs.Engine.{Replies, line_on, line_over, opened_target, step, target_of}
use Rattle.scenario_engine.specs.Lending.{lends_by}
use Rattle.scenario_engine.specs.Opening.{Opening, Opened, UnstartedBoot, opening}
use Rattle.scenario_engine.specs.Running.{started}
use Rattle.scenario_engine.specs.Seats.{after_steps, by_replies, in_boot, seat_over}
use Rattle.scenario_engine.specs.State.{RunningState, State, Heading, Running, Outcome, RefusedIn, DoneTo, UnstartedIn, UnderWayIn, site_of, with_site}
use Rattle.scenario_engine.specs.Transcript.{Turn, answer_to, turn_outcome}
use Rattle.scenario_engine.proofs.Leading.{StateHasDrawn, first_drew}
use Rattle.scenario_engine.proofs.Pausing.{AnyBricks, AnyTwin, BeginsBehind, GrowsLaw, LaterThan, no_number, pause_kept}
use Rattle.scenario_engine.proofs.SeatRows.{RunsTo, bricks_of, line_of_run, near_of, run_to}
use Rattle.scenario_engine.proofs.SeatsLead.{DrawLaws, Goes, SiteHasDrawn, goes_step}
use Rattle.scenario_engine.proofs.SeatsStand.{IsStep, IsWhole, KeptLaws, StandLaws, WholeIf, known_line, step_goes, steps_go}
use Rattle.scenario_engine.proofs.Standing.{EventsLaw, LaterAt, StandIn, later_on, lent_events}

-- each of these steps, with those behind it

abbrev pub EachOn : (StepMade → List StepMade → Type 0) → List StepMade → Type 0
EachOn R [] = Unit {0}
EachOn R (b ∷ steps) = R b steps × EachOn R steps

pub on_weaker : (Q R : StepMade → List StepMade → Type 0) (steps : List StepMade) → ((b : StepMade) (rest : List StepMade) → Q b rest → R b rest) → EachOn Q steps → EachOn R steps
on_weaker Q R [] weaker each = tt
on_weaker Q R (b ∷ steps) weaker (this, rest) = (weaker b steps this, on_weaker Q R steps weaker rest)

-- those of two lists, one behind the other
pub on_append : (Q R : StepMade → List StepMade → Type 0) (xs ys : List StepMade) → ((b : StepMade) (rest : List StepMade) → Q b rest → R b (rest ++ ys)) → EachOn Q xs → EachOn R ys → EachOn R (xs ++ ys)
on_append Q R [] ys on each more = more
on_append Q R (x ∷ xs) ys on (this, rest) more = (on x xs this, on_append Q R xs ys on rest more)

-- one of them
pub on_at : (R : StepMade → List StepMade → Type 0) (xs ys : List StepMade) (at : StepMade) → EachOn R (xs ++ at ∷ ys) → R at ys
on_at R [] ys at (this, rest) = this
on_at R (x ∷ xs) ys at (this, rest) = on_at R xs ys at rest

-- what is so of each step by those behind it
pub on_all : (R : StepMade → List StepMade → Type 0) (P : StepMade → Type 0) (steps : List StepMade) → ((b : StepMade) (rest : List StepMade) → R b rest → P b) → EachOn R steps → All P steps
on_all R P [] each on = All-nil P
on_all R P (b ∷ steps) each (this, rest) = All-cons P b steps (each b steps this) (on_all R P steps each rest)

-- what is so of each step up to one, which is this one or behind it
pub on_up_to : (R : StepMade → List StepMade → Type 0) (P : StepMade → Type 0) (xs ys : List StepMade) (at : StepMade) → (R at ys → P at)
    → ((b : StepMade) (us : List StepMade) → R b (us ++ at ∷ ys) → P b) → EachOn R (xs ++ at ∷ ys) → All P (xs ++ at ∷ [])
on_up_to R P [] ys at last each (this, rest) = All-cons P at [] (last this) (All-nil P)
on_up_to R P (x ∷ xs) ys at last each (this, rest) = All-cons P x (xs ++ at ∷ []) (each x xs this) (on_up_to R P xs ys at last each rest)

-- from the begin of a step on

-- what is known of a step wherever it stands
abbrev pub IsKnown : StepMade → Type 0
IsKnown b = IsStep AnyBricks AnyTwin b

-- A step and those behind it, over later bricks than those of the step, and what they leave.
abbrev pub Onward : (SeatsState → LanesState → Type 0) → StepMade → List StepMade → Type 0
Onward P at rest = (seat : Seat) (bricks : LanesState) → IsMadeBy at seat bricks → All (IsStep (LaterThan bricks) (BeginsBehind at.site.seats bricks)) (at ∷ rest) × P at.site.seats bricks

onward_weaker : (P Q : SeatsState → LanesState → Type 0) (steps : List StepMade) → ((past : SeatsState) (bricks : LanesState) → P past bricks → Q past bricks) → EachOn (Onward P) steps → EachOn (Onward Q) steps
onward_weaker P Q steps weaker each =
    on_weaker (Onward P) (Onward Q) steps (λ b rest its seat bricks made. (let it = its seat bricks made in (it.0, weaker b.site.seats bricks it.1))) each

-- A site is left behind bricks at which there were these connections.
record IsBehind (past : SeatsState) (bricks : LanesState) (t : SiteState) : Type 0 where
  whole : WholeIf (LaterThan bricks) (BeginsBehind past bricks) t
  later : (st : LanesState) → t.sessions.store ≡ Some st → ByEvents bricks st

-- a boot is
abbrev pub BootBehind : State → SeatsState → LanesState → Type 0
BootBehind (Heading head) past bricks = ⊥
BootBehind (Running q) past bricks = StandIn (BeginsBehind past bricks) q × LaterAt (LaterThan bricks) (Running q)

-- an outcome leaves one, where it is done
abbrev pub WhereDone : Outcome → SeatsState → LanesState → Type 0
WhereDone (RefusedIn t) past bricks = Unit {0}
WhereDone (DoneTo t text) past bricks = BootBehind t past bricks
WhereDone (UnstartedIn t cause) past bricks = Unit {0}
WhereDone (UnderWayIn t) past bricks = Unit {0}

abbrev made_at : SiteState → ℕ → Bool → StepMade
made_at s n keeps = record { site = s; number = n; keeps = keeps }

-- the steps that are behind a site, and the site behind them
abbrev SiteOnward : SiteState → StepMade → List StepMade → Type 0
SiteOnward t at rest = Onward (λ past bricks. IsBehind past bricks t) at rest

one_store : (o : Option LanesState) (st end : LanesState) → o ≡ Some st → o ≡ Some end → st ≡ end
one_store o st end is at = let both : Some st ≡ Some end = sym is ∙ at in cc

pub still : (o : Option LanesState) (st end : LanesState) → o ≡ Some st → o ≡ Some end → ByEvents st end
still o st end is at = subst (ByEvents st) (one_store o st end is at) ([], refl)

module _ (draw : DrawLaws) (laws : StandLaws) (grows : GrowsLaw) (events : EventsLaw) where
  -- the bricks behind steps

  abbrev Lends : SiteState → ℕ → Bool → List LentStep
  Lends s n keeps = lends_by s n keeps (seat_at s.seats.seats n) s.sessions.store

  abbrev Reach : SiteState → SiteState → Type 0
  Reach s t = (st end : LanesState) → s.sessions.store ≡ Some st → t.sessions.store ≡ Some end → ByEvents st end

  lent_to : (s t : SiteState) (steps : List LentStep) (st : LanesState) → Goes s steps t → s.sessions.store ≡ Some st → t.sessions.store ≡ Some (after_lent st steps)
  lent_to s t steps st goes is =
      ap (λ (x : SessionsState). x.store) goes.lent.state_is ∙ ap (λ (x : Option LanesState). option_map (λ (y : LanesState). after_lent y steps) x) is

  reach_on : (s v t : SiteState) (steps : List LentStep) → Goes s steps v → Reach v t → Reach s t
  reach_on s v t steps goes rest = λ st end is at.
      later_on st (after_lent st steps) end (lent_events events st steps) (rest (after_lent st steps) end (lent_to s v steps st goes is) at)

  reach_run : (s : SiteState) (n : ℕ) (replies : List Bool) → SiteHasDrawn s → Reach s (after_steps s n replies)
  reach_run s n [] has = still s.sessions.store
  reach_run s n (keeps ∷ more) has = go (λ v its. reach_run v n more its) (rests (seat_at s.seats.seats n)) (step_line s n keeps) (goes_step draw s n keeps has)
    where
      go : ((v : SiteState) → SiteHasDrawn v → Reach v (after_steps v n more)) → (b : Bool) (a : Answer SiteState) → Leaves (Goes s (Lends s n keeps)) a
          → Reach s (cond b s (elim a [ Refused ↦ s | Done v out ↦ after_steps v n more ]))
      go rest true a left = still s.sessions.store
      go rest false Refused left = still s.sessions.store
      go rest false (Done v out) left = reach_on s v (after_steps v n more) (Lends s n keeps) left (rest v left.has)

  -- from one step on
  module _ (s : SiteState) (n : ℕ) (keeps : Bool) (has : SiteHasDrawn s) (its : IsKnown (made_at s n keeps)) (seat : Seat) (bricks : LanesState) (made : IsMadeBy (made_at s n keeps) seat bricks) where
    abbrev L : LanesState → Type 0
    L = LaterThan bricks

    abbrev K : ℕ → Option ℕ → Type 0
    K = BeginsBehind s.seats bricks

    here : IsWhole AnyBricks AnyTwin s bricks
    here = its.whole bricks made.bricks_are made.unspent

    kept : KeptLaws L K
    kept = pause_kept grows s.seats bricks (here.all.each n seat made.seat_is).stands.sound

    from_here : WholeIf L K s
    from_here = λ st is left.
        let old : IsWhole AnyBricks AnyTwin s st = its.whole st is left in
        record {
          fresh = old.fresh;
          all = old.all;
          later = still s.sessions.store bricks st made.bricks_are is;
          twins = λ i a there idle number twin. absurd (no_number number (sym (idle a there) ∙ twin));
        }

    this_on : IsStep L K (made_at s n keeps)
    this_on = record { near = its.near; whole = from_here; hears = its.hears }

    run_on : (replies : List Bool) → All StepHearsSpelled (run_makes s n replies) → All (IsStep L K) (run_makes s n replies) × IsBehind s.seats bricks (after_steps s n replies)
    run_on replies heard = (
      known_line L K kept draw laws s (seats.Run n) replies has heard from_here,
      record {
        whole = steps_go L K kept draw laws s n replies has heard from_here;
        later = λ end at. reach_run s n replies has bricks end made.bricks_are at;
      },
    )

    step_on : Leaves (IsBehind s.seats bricks) (step_line s n keeps)
    step_on = go (step_line s n keeps) (goes_step draw s n keeps has) (step_goes L K kept draw laws s n keeps has (λ v out is. its.hears) from_here)
      where
        go : (a : Answer SiteState) → Leaves (Goes s (Lends s n keeps)) a → Leaves (WholeIf L K) a → Leaves (IsBehind s.seats bricks) a
        go Refused left whole = tt
        go (Done v out) left whole = record { whole = whole; later = λ end at. reach_on s v v (Lends s n keeps) left (still v.sessions.store) bricks end made.bricks_are at }

  -- from each step of a run on
  run_onward : (s : SiteState) (n : ℕ) (replies : List Bool) → SiteHasDrawn s → All IsKnown (run_makes s n replies) → EachOn (SiteOnward (after_steps s n replies)) (run_makes s n replies)
  run_onward s n [] has known = tt
  run_onward s n (keeps ∷ more) has known =
      go (λ v its on. run_onward v n more its on) (rests (seat_at s.seats.seats n)) (step_line s n keeps) (goes_step draw s n keeps has) known
      (λ its seat bricks made heard. run_on s n keeps has its seat bricks made (keeps ∷ more) heard)
    where
      makes : Bool → Answer SiteState → List StepMade
      makes b a = cond b [] (elim a [ Refused ↦ [] | Done v out ↦ made_at s n keeps ∷ run_makes v n more ])

      leaves : Bool → Answer SiteState → SiteState
      leaves b a = cond b s (elim a [ Refused ↦ s | Done v out ↦ after_steps v n more ])

      go : ((v : SiteState) → SiteHasDrawn v → All IsKnown (run_makes v n more) → EachOn (SiteOnward (after_steps v n more)) (run_makes v n more))
          → (b : Bool) (a : Answer SiteState) → Leaves (Goes s (Lends s n keeps)) a → All IsKnown (makes b a)
          → (IsKnown (made_at s n keeps) → (seat : Seat) (bricks : LanesState) → IsMadeBy (made_at s n keeps) seat bricks → All StepHearsSpelled (makes b a)
          → All (IsStep (LaterThan bricks) (BeginsBehind s.seats bricks)) (makes b a) × IsBehind s.seats bricks (leaves b a))
          → EachOn (SiteOnward (leaves b a)) (makes b a)
      go rest true a left known on = tt
      go rest false Refused left known on = tt
      go rest false (Done v out) left known on = (
        (λ seat bricks made.
            on (All-head IsKnown (made_at s n keeps) (run_makes v n more) known) seat bricks made
            (All-weaker IsKnown StepHearsSpelled (λ b its. its.hears) (made_at s n keeps ∷ run_makes v n more) known)),
        rest v left.has (All-tail IsKnown (made_at s n keeps) (run_makes v n more) known),
      )

  -- from each step of a turn on

  abbrev TurnOnward : Outcome → StepMade → List StepMade → Type 0
  TurnOnward o at rest = Onward (WhereDone o) at rest

  module _ (r : RunningState) (has : SiteHasDrawn (site_of r)) where
    abbrev S : SiteState
    S = site_of r

    boot_behind : (v : SiteState) (past : SeatsState) (bricks : LanesState) → IsBehind past bricks v → BootBehind (Running (with_site r v)) past bricks
    boot_behind v past bricks is = (
      (λ st at left. (let it : IsWhole (LaterThan bricks) (BeginsBehind past bricks) v st = is.whole st at left in record { all = it.all; twins = it.twins })),
      is.later,
    )

    step_turn : (n : ℕ) (keeps : Bool) (a : Answer SiteState) → All IsKnown (elim a [ Refused ↦ [] | Done v out ↦ made_at S n keeps ∷ [] ])
        → (IsKnown (made_at S n keeps) → (seat : Seat) (bricks : LanesState) → IsMadeBy (made_at S n keeps) seat bricks → Leaves (IsBehind S.seats bricks) a)
        → EachOn (TurnOnward (in_boot r (within (with_site r) a))) (elim a [ Refused ↦ [] | Done v out ↦ made_at S n keeps ∷ [] ])
    step_turn n keeps Refused known left = tt
    step_turn n keeps (Done v out) known left = (λ seat bricks made. from seat bricks made (All-head IsKnown (made_at S n keeps) [] known), tt)
      where
        from : (seat : Seat) (bricks : LanesState) → IsMadeBy (made_at S n keeps) seat bricks → IsKnown (made_at S n keeps)
            → All (IsStep (LaterThan bricks) (BeginsBehind S.seats bricks)) (made_at S n keeps ∷ []) × BootBehind (Running (with_site r v)) S.seats bricks
        from seat bricks made its = (
          All-cons (IsStep (LaterThan bricks) (BeginsBehind S.seats bricks)) (made_at S n keeps) [] (this_on S n keeps has its seat bricks made) (All-nil (IsStep (LaterThan bricks) (BeginsBehind S.seats bricks))),
          boot_behind v S.seats bricks (left its seat bricks made),
        )

    run_turn : (n : ℕ) (replies : List Bool) → All IsKnown (run_makes S n replies) → EachOn (TurnOnward (by_replies r (seats.Run n) replies (run_line S n replies))) (run_makes S n replies)
    run_turn n replies known = go (can_run S n) refl
      where
        by : Bool → Outcome
        by can = by_replies r (seats.Run n) replies (cond can (run_from S [] n replies) (Some Refused))

        as_run : by (can_run S n) ≡ by_replies r (seats.Run n) replies (run_line S n replies)
        as_run = ap (by_replies r (seats.Run n) replies) (line_of_run S n replies)

        End : SiteState
        End = after_steps S n replies

        each : EachOn (SiteOnward End) (run_makes S n replies)
        each = run_onward S n replies has known

        steps_alone : (o : Outcome) → ((past : SeatsState) (bricks : LanesState) → WhereDone o past bricks) → EachOn (TurnOnward o) (run_makes S n replies)
        steps_alone o none = onward_weaker (λ past bricks. IsBehind past bricks End) (WhereDone o) (run_makes S n replies) (λ past bricks is. none past bricks) each

        came : (o : Option (Answer SiteState)) → RunsTo End o → EachOn (TurnOnward (by_replies r (seats.Run n) replies o)) (run_makes S n replies)
        came None to = steps_alone (by_replies r (seats.Run n) replies None) (λ past bricks. tt)
        came (Some Refused) to = absurd to
        came (Some (Done w out)) to =
            subst (λ (x : SiteState). EachOn (TurnOnward (DoneTo (Running (with_site r x)) out)) (run_makes S n replies)) (sym to)
            (onward_weaker (λ past bricks. IsBehind past bricks End) (BootBehind (Running (with_site r End))) (run_makes S n replies) (λ past bricks is. boot_behind End past bricks is) each)

        run : (can : Bool) → can_run S n ≡ can → EachOn (TurnOnward (by can)) (run_makes S n replies)
        run true can =
            let near : is_beyond n ≡ false = near_of (is_beyond n) (is_some r.sessions.store) (is_some (seat_at r.seats.seats n)) can in
            let bricks : is_some r.sessions.store ≡ true = bricks_of (is_beyond n) (is_some r.sessions.store) (is_some (seat_at r.seats.seats n)) can in
            came (run_from S [] n replies) (run_to S [] n replies near bricks)
        run false none = steps_alone (RefusedIn (Running r)) (λ past bricks. tt)

        go : (can : Bool) → can_run S n ≡ can → EachOn (TurnOnward (by_replies r (seats.Run n) replies (run_line S n replies))) (run_makes S n replies)
        go can is = subst (λ (o : Outcome). EachOn (TurnOnward o) (run_makes S n replies)) (ap by (sym is) ∙ as_run) (run can is)

    line_turn : (line : SeatLine) (replies : List Bool) → All IsKnown (line_makes S line replies) → EachOn (TurnOnward (by_replies r line replies (seat_line S line replies))) (line_makes S line replies)
    line_turn (seats.Conn n) replies known = tt
    line_turn (seats.Bytes n bytes) replies known = tt
    line_turn (seats.End n) replies known = tt
    line_turn (seats.Step n) [] known = tt
    line_turn (seats.Step n) (keeps ∷ more) known = step_turn n keeps (step_line S n keeps) known (λ its seat bricks made. step_on S n keeps has its seat bricks made)
    line_turn (seats.Run n) replies known = run_turn n replies known

    seat_turn : (line : SeatLine) (replies : List Bool) → All IsKnown (if r.site then line_makes S line replies else []) → EachOn (TurnOnward (seat_over r line replies)) (if r.site then line_makes S line replies else [])
    unfolding seat_over
    seat_turn line replies known = go r.site known
      where
        go : (site : Bool) → All IsKnown (if site then line_makes S line replies else [])
            → EachOn (TurnOnward (cond site (by_replies r line replies (seat_line S line replies)) (RefusedIn (Running r)))) (if site then line_makes S line replies else [])
        go true known = line_turn line replies known
        go false known = tt

    over_turn : (line : Line) (replies : Replies) → All IsKnown (makes_over r line replies) → EachOn (TurnOnward (line_over r line replies)) (makes_over r line replies)
    over_turn lines.Pass replies known = tt
    over_turn (lines.Head line) replies known = tt
    over_turn (lines.Call n line) replies known = tt
    over_turn (lines.Commit n) replies known = tt
    over_turn (lines.Boot line) replies known = tt
    over_turn lines.Reopen replies known = tt
    over_turn (lines.Session line) replies known = tt
    over_turn (lines.Seat line) replies known = seat_turn line replies.keeps known

  opened_turn : (head : Head) (how : Opening) (line : Line) (replies : Replies) → All IsKnown (makes_on (opened_target head how) line replies)
      → EachOn (TurnOnward (line_on (opened_target head how) line replies)) (makes_on (opened_target head how) line replies)
  opened_turn head (Opened start) line replies known = over_turn (started (set_up head.setup 0) (no_seats head.parts) head.site start) (first_drew head start) line replies known
  opened_turn head (UnstartedBoot cause) line replies known = tt

  lines_turn : (s : State) → StateHasDrawn s → (line : Line) (replies : Replies) → All IsKnown (makes_on (target_of s (is_event line) replies.first) line replies)
      → EachOn (TurnOnward (step s line replies)) (makes_on (target_of s (is_event line) replies.first) line replies)
  unfolding step
  lines_turn (Running r) has line replies known = over_turn r has line replies known
  lines_turn (Heading head) has line replies known = go (is_event line) known
    where
      go : (event : Bool) → All IsKnown (makes_on (target_of (Heading head) event replies.first) line replies)
          → EachOn (TurnOnward (line_on (target_of (Heading head) event replies.first) line replies)) (makes_on (target_of (Heading head) event replies.first) line replies)
      go false known = tt
      go true known = opened_turn head (opening head.parts head.plans head.limits replies.first) line replies known

  answer_turn : (s : State) → StateHasDrawn s → (o : Option Line) (replies : Replies) → All IsKnown (makes_to s o replies) → EachOn (TurnOnward (answer_to s o replies)) (makes_to s o replies)
  answer_turn s has None replies known = tt
  answer_turn s has (Some line) replies known = lines_turn s has line replies known

  pub turn_onward : (s : State) → StateHasDrawn s → (turn : Turn) → All IsKnown (turn_makes s turn) → EachOn (Onward (WhereDone (turn_outcome s turn))) (turn_makes s turn)
  unfolding turn_outcome turn_makes
  turn_onward s has turn known = answer_turn s has (line_of turn.line) turn.replies known
