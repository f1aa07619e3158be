-- A line about connections leads the sessions on by what its steps do with what is lent to them, where the nonces were
-- drawn that the connections still need; and those that they need then were drawn.
use Rattle.std.proofs.Common.{◌≡◌, inl, inr, ℕ, ◌+◌, ◌-◌, ◌^◌, ◌≤◌, Bool, true, false, cond, List, [], ◌∷◌, ◌++◌, length, Option, Some, None, is_some, refl, sym, ap, ◌∙◌, subst, arith}
use Rattle.std.specs.Prelude.{All, replicate}
use Rattle.std.specs.Option.{option_map}
use Rattle.std.proofs.lemmas.Bool.{cases_lt}
use Rattle.std.proofs.lemmas.List.{get_or_past}
use Rattle.std.proofs.lemmas.List.Elements.{All-append, All-nil, All-replicate, All-set, All-weaker}
use Rattle.boot_core.specs.declared.boot.Start.{Start}
use Rattle.scenario_text.specs.Answer.{Answer, Refused, Done, or_refused, refused_if, within}
use Rattle.scenario_text.specs.declared.seat_line.SeatLine.{SeatLine}
use Rattle.scenario_text.specs.declared.seat_line.SeatLine.TheVariants as lines
use Rattle.scenario_text.proofs.Leaving.{Leaves, leaves-refused_if}
use Rattle.seat_laws.specs.Drawing.{SeatHasDrawn}
use Rattle.seat_laws.specs.LentSteps.{lent_steps}
use Rattle.seat_lines.specs.Lines.{bytes_line, bytes_step, conn_line, end_line, end_step, ended, fed, givens_of, is_beyond, new_seat, open_line, place_step, step_line, step_over, steps_at, with_place, world_of}
use Rattle.seat_lines.specs.Runs.{can_run, rests, run_from, run_line, seat_line, waits_for_bytes}
use Rattle.seat_lines.specs.Site.{SiteState, padded, seat_at, with_seat}
use Rattle.seat_steps.specs.Seats.{SeatGivens, SeatWorld, seat_step}
use Rattle.seat_steps.specs.declared.seat.Seat.{Seat}
use Rattle.session_lanes.specs.Lanes.{LanesState}
use Rattle.session_steps.specs.Lent.{BeginsSo, GoesLent, LentStep, WasDrawn, after_lent, lent_out, put_back}
use Rattle.session_steps.specs.Promise.{Lead, SessionTurn}
use Rattle.session_steps.specs.Sessions.{SessionsState}
use Rattle.shepherd.specs.Shepherds.{fresh, turn}
use Rattle.shepherd.specs.declared.shepherd.ShepherdTurn.{ShepherdTurn}
use Rattle.shepherd.specs.declared.shepherd.ShepherdTurn.TheVariants as turns
use Rattle.scenario_engine.specs.Lending.{lends_at, lends_by, steps_lend}
use Rattle.scenario_engine.specs.Seats.{after_steps, by_replies, in_boot, seat_over}
use Rattle.scenario_engine.specs.Sessions.{lent_in, seat_turns}
use Rattle.scenario_engine.specs.State.{Outcome, RefusedIn, DoneTo, Running, RunningState, State, UnderWayIn, UnstartedIn, site_of, with_site}
use Rattle.scenario_engine.proofs.Giving.{lent-append}
use Rattle.scenario_engine.proofs.SeatRows.{RunsTo, bricks_of, is_done, line_of_run, near_of, run_to, step_done, there_where}
use Rattle.seat_lines.specs.Hearing.{manager_after}
use Rattle.recovery_manager.specs.Kept.{ManagerValue}

-- what is promised of any step of a connection with what is lent to it
pub record DrawLaws : Type 0 where
  pub store : (g : SeatGivens) (seat : Seat) (w : SeatWorld) → (seat_step g seat w).world.store ≡ after_lent w.store (lent_steps g seat w)
  pub serials : (g : SeatGivens) (seat : Seat) (w : SeatWorld) → w.serial ≤ (seat_step g seat w).world.serial
  pub boot : (g : SeatGivens) (seat : Seat) (w : SeatWorld) → (seat_step g seat w).world.boot.start ≡ w.boot.start
  pub end : (g : SeatGivens) (seat : Seat) (w : SeatWorld) → w.serial ≤ 2 ^ 64 - 1 → (seat_step g seat w).world.serial ≤ 2 ^ 64 - 1
  pub begins : (boot serial : ℕ) → SeatHasDrawn boot serial (record { connection = fresh; twin = None })
  pub step : (g : SeatGivens) (seat : Seat) (w : SeatWorld) → SeatHasDrawn w.boot.start.boot w.serial seat → SeatHasDrawn w.boot.start.boot (seat_step g seat w).world.serial (seat_step g seat w).seat
  pub meanwhile : (boot old new : ℕ) (seat : Seat) → old ≤ new → SeatHasDrawn boot old seat → SeatHasDrawn boot new seat
  pub still : (boot serial : ℕ) (seat new : Seat) → new.connection.stage ≡ seat.connection.stage → SeatHasDrawn boot serial seat → SeatHasDrawn boot serial new
  pub begun : (g : SeatGivens) (seat : Seat) (w : SeatWorld) → SeatHasDrawn w.boot.start.boot w.serial seat → All (BeginsSo (WasDrawn w.boot.start.boot (seat_step g seat w).world.serial)) (lent_steps g seat w)
  pub later : (boot old new : ℕ) (steps : List LentStep) → old ≤ new → All (BeginsSo (WasDrawn boot old)) steps → All (BeginsSo (WasDrawn boot new)) steps

-- the nonces were drawn that a connection still needs, if it is there
abbrev pub IfDrew : ℕ → ℕ → Option Seat → Type 0
IfDrew boot serial None = Unit {0}
IfDrew boot serial (Some seat) = SeatHasDrawn boot serial seat

-- The sessions of a site are those of its boot, their serial is none past the last one, and the nonces were drawn that
-- its connections still need.
pub record SiteHasDrawn (s : SiteState) : Type 0 where
  pub boot : s.sessions.boot ≡ s.boot.start.boot
  pub small : s.sessions.serial ≤ 2 ^ 64 - 1
  pub drew : All (IfDrew s.boot.start.boot s.sessions.serial) s.seats.seats

-- A site came to another, and its sessions went by these steps.
pub record Goes (s : SiteState) (steps : List LentStep) (t : SiteState) : Type 0 where
  pub lent : GoesLent s.sessions steps t.sessions.serial t.sessions
  pub has : SiteHasDrawn t

if_later : DrawLaws → (boot old new : ℕ) → old ≤ new → (o : Option Seat) → IfDrew boot old o → IfDrew boot new o
if_later laws boot old new more None drew = tt
if_later laws boot old new more (Some seat) drew = laws.meanwhile boot old new seat more drew

-- so they were where the sessions and the connections are the same, or more serials were drawn
pub drew_later : DrawLaws → (s t : SiteState) → t.boot.start ≡ s.boot.start → t.seats.seats ≡ s.seats.seats → t.sessions.boot ≡ s.sessions.boot → s.sessions.serial ≤ t.sessions.serial → t.sessions.serial ≤ 2 ^ 64 - 1 → SiteHasDrawn s → SiteHasDrawn t
drew_later laws s t start seats boot more small has =
    let same : t.boot.start.boot ≡ s.boot.start.boot = ap (λ (x : Start). x.boot) start in
    let old : All (IfDrew s.boot.start.boot t.sessions.serial) s.seats.seats = All-weaker (IfDrew s.boot.start.boot s.sessions.serial) (IfDrew s.boot.start.boot t.sessions.serial) (if_later laws s.boot.start.boot s.sessions.serial t.sessions.serial more) s.seats.seats has.drew in
    record {
      boot = boot ∙ (has.boot ∙ sym same);
      small = small;
      drew = subst (λ (n : ℕ). All (IfDrew n t.sessions.serial) t.seats.seats) (sym same) (subst (All (IfDrew s.boot.start.boot t.sessions.serial)) (sym seats) old);
    }

pub drew_here : (boot serial : ℕ) (seats : List (Option Seat)) (n : ℕ) → All (IfDrew boot serial) seats → IfDrew boot serial (seat_at seats n)
drew_here boot serial seats n all = elim (cases_lt n (length seats)) [
  | inl within ↦ all n None within
  | inr past ↦ (let P : Option Seat → Type 0 = λ o. IfDrew boot serial o in subst P (sym (get_or_past seats n None past)) tt)
]

drew_set : (s : SiteState) (n : ℕ) (o : Option Seat) → SiteHasDrawn s → IfDrew s.boot.start.boot s.sessions.serial o → SiteHasDrawn (with_seat s n o)
drew_set s n o has drew = record { boot = has.boot; small = has.small; drew = All-set (IfDrew s.boot.start.boot s.sessions.serial) s.seats.seats n o drew has.drew }

-- bricks that are put back as they were lent
none_lent : (store : Option LanesState) → store ≡ option_map (λ (st : LanesState). after_lent st []) store
none_lent None = refl
none_lent (Some st) = refl

-- sessions with which nothing was done
still_lent : (s : SessionsState) → GoesLent s [] s.serial s
still_lent s = record {
  state_is = ap (λ (store : Option LanesState). put_back (lent_out s) store s.serial) (none_lent s.store);
  serials = omega arith;
  nonces = All-nil (BeginsSo (WasDrawn s.boot s.serial));
}

both_lent : (store : Option LanesState) (steps more : List LentStep)
    → option_map (λ (st : LanesState). after_lent st more) (option_map (λ (st : LanesState). after_lent st steps) store) ≡ option_map (λ (st : LanesState). after_lent st (steps ++ more)) store
both_lent None steps more = refl
both_lent (Some st) steps more = ap (λ (after : LanesState). Some after) (sym (lent-append st steps more))

-- what is done first, and then more
lent_on : DrawLaws → (s t u : SessionsState) (steps more : List LentStep) → GoesLent s steps t.serial t → GoesLent t more u.serial u → GoesLent s (steps ++ more) u.serial u
lent_on laws s t u steps more first second =
    let mid : SessionsState = put_back (lent_out s) (option_map (λ (st : LanesState). after_lent st steps) s.store) t.serial in
    let on : GoesLent mid more u.serial u = subst (λ (x : SessionsState). GoesLent x more u.serial u) first.state_is second in
    let first_up : s.serial ≤ t.serial = first.serials in
    let on_up : t.serial ≤ u.serial = on.serials in
    record {
      state_is = on.state_is ∙ ap (λ (store : Option LanesState). put_back (lent_out s) store u.serial) (both_lent s.store steps more);
      serials = omega (arith, first_up, on_up);
      nonces = All-append (BeginsSo (WasDrawn s.boot u.serial)) steps more (laws.later s.boot t.serial u.serial steps on_up first.nonces) on.nonces;
    }

pub goes_on : DrawLaws → (s t u : SiteState) (steps more : List LentStep) → Goes s steps t → Goes t more u → Goes s (steps ++ more) u
goes_on laws s t u steps more first second = record { lent = lent_on laws s.sessions t.sessions u.sessions steps more first.lent second.lent; has = second.has }

goes_none : (s : SiteState) → SiteHasDrawn s → Goes s [] s
goes_none s has = record { lent = still_lent s.sessions; has = has }

module _ (laws : DrawLaws) where
  -- lines that leave the sessions as they are

  abbrev pub Stays : SiteState → SiteState → Type 0
  Stays s t = (t.sessions ≡ s.sessions) × SiteHasDrawn t

  pub stays_conn : (s : SiteState) (n : ℕ) → SiteHasDrawn s → Leaves (Stays s) (conn_line s n)
  unfolding open_line
  stays_conn s n has =
      leaves-refused_if (Stays s) (is_beyond n) _ (λ near. leaves-refused_if (Stays s) (is_some (seat_at s.seats.seats n)) _ (λ free. opened))
    where
      opened : Stays s (with_seat (record s { seats = record (s.seats) { seats = padded s.seats.seats n } }) n (Some new_seat))
      opened =
          let I : Option Seat → Type 0 = IfDrew s.boot.start.boot s.sessions.serial in
          let more : ℕ = n + 1 - length s.seats.seats in
          let all : All I (padded s.seats.seats n) = All-append I s.seats.seats (replicate more None) has.drew (All-replicate I more None tt) in
          (refl, record { boot = has.boot; small = has.small; drew = All-set I (padded s.seats.seats n) n (Some new_seat) (laws.begins s.boot.start.boot s.sessions.serial) all })

  pub stays_bytes : (s : SiteState) (n : ℕ) (bytes : List ℕ) → SiteHasDrawn s → Leaves (Stays s) (bytes_line s n bytes)
  unfolding bytes_line
  stays_bytes s n bytes has = go (seat_at s.seats.seats n) (drew_here s.boot.start.boot s.sessions.serial s.seats.seats n has.drew)
    where
      by : (seat : Seat) (over : Bool) → SeatHasDrawn s.boot.start.boot s.sessions.serial seat → Leaves (Stays s) (within (with_seat s n) (refused_if over (Done (Some (fed seat bytes)) [])))
      by seat true drew = tt
      by seat false drew = (refl, drew_set s n (Some (fed seat bytes)) has (laws.still s.boot.start.boot s.sessions.serial seat (fed seat bytes) refl drew))

      go : (o : Option Seat) → IfDrew s.boot.start.boot s.sessions.serial o → Leaves (Stays s) (within (with_seat s n) (bytes_step bytes o))
      go None drew = tt
      go (Some seat) drew = by seat seat.connection.ended drew

  pub stays_end : (s : SiteState) (n : ℕ) → SiteHasDrawn s → Leaves (Stays s) (end_line s n)
  unfolding end_line
  stays_end s n has = go (seat_at s.seats.seats n) (drew_here s.boot.start.boot s.sessions.serial s.seats.seats n has.drew)
    where
      by : (seat : Seat) (over : Bool) → SeatHasDrawn s.boot.start.boot s.sessions.serial seat → Leaves (Stays s) (within (with_seat s n) (refused_if over (Done (Some (ended seat)) [])))
      by seat true drew = tt
      by seat false drew = (refl, drew_set s n (Some (ended seat)) has (laws.still s.boot.start.boot s.sessions.serial seat (ended seat) refl drew))

      go : (o : Option Seat) → IfDrew s.boot.start.boot s.sessions.serial o → Leaves (Stays s) (within (with_seat s n) (end_step o))
      go None drew = tt
      go (Some seat) drew = by seat seat.connection.ended drew

  -- one step over bricks

  module _ (s : SiteState) (n : ℕ) (keeps : Bool) (st : LanesState) (has : SiteHasDrawn s) (is : s.sessions.store ≡ Some st) where
    abbrev W : SeatWorld
    W = world_of s st

    abbrev G : SeatGivens
    G = givens_of s n keeps

    -- a place that is left with the world as it was
    goes_still : (m : ManagerValue) (o : Option Seat) → IfDrew s.boot.start.boot s.sessions.serial o → Goes s [] (with_place s n (record { seat = o; world = W; manager = m }))
    goes_still m o drew = record {
      lent = record {
        state_is = ap (λ (store : Option LanesState). put_back (lent_out s.sessions) store s.sessions.serial) (sym is ∙ none_lent s.sessions.store);
        serials = omega arith;
        nonces = All-nil (BeginsSo (WasDrawn s.sessions.boot s.sessions.serial));
      };
      has = record { boot = has.boot; small = has.small; drew = All-set (IfDrew s.boot.start.boot s.sessions.serial) s.seats.seats n o drew has.drew };
    }

    goes_moved : (m : ManagerValue) (seat : Seat) → SeatHasDrawn s.boot.start.boot s.sessions.serial seat
        → Goes s (lent_steps G seat W) (with_place s n (record { seat = Some (seat_step G seat W).seat; world = (seat_step G seat W).world; manager = m }))
    goes_moved m seat drew =
        let next : ℕ = (seat_step G seat W).world.serial in
        let up : s.sessions.serial ≤ next = laws.serials G seat W in
        let same : (seat_step G seat W).world.boot.start.boot ≡ s.boot.start.boot = ap (λ (x : Start). x.boot) (laws.boot G seat W) in
        let later : All (IfDrew s.boot.start.boot next) s.seats.seats = All-weaker (IfDrew s.boot.start.boot s.sessions.serial) (IfDrew s.boot.start.boot next) (if_later laws s.boot.start.boot s.sessions.serial next up) s.seats.seats has.drew in
        record {
          lent = record {
            state_is =
                ap (λ (x : LanesState). put_back (lent_out s.sessions) (Some x) next) (laws.store G seat W)
                ∙ ap (λ (store : Option LanesState). put_back (lent_out s.sessions) (option_map (λ (x : LanesState). after_lent x (lent_steps G seat W)) store) next) (sym is);
            serials = up;
            nonces = subst (λ (boot : ℕ). All (BeginsSo (WasDrawn boot next)) (lent_steps G seat W)) (sym has.boot) (laws.begun G seat W drew);
          };
          has = record {
            boot = has.boot ∙ sym same;
            small = laws.end G seat W has.small;
            drew = subst (λ (boot : ℕ). All (IfDrew boot next) (with_place s n (record { seat = Some (seat_step G seat W).seat; world = (seat_step G seat W).world; manager = m })).seats.seats) (sym same)
                (All-set (IfDrew s.boot.start.boot next) s.seats.seats n (Some (seat_step G seat W).seat) (laws.step G seat W drew) later);
          };
        }

    goes_at : (t : ShepherdTurn) (seat : Seat) → SeatHasDrawn s.boot.start.boot s.sessions.serial seat → Leaves (Goes s (lends_at t (lent_steps G seat W))) (within (with_place s n) (steps_at t G n seat W s.seats.manager))
    goes_at turns.Bytes seat drew = goes_still s.seats.manager (Some seat) drew
    goes_at turns.Request seat drew = goes_moved (manager_after s.seats.manager (seat_step G seat W).report) seat drew
    goes_at turns.Outside seat drew = goes_moved (manager_after s.seats.manager (seat_step G seat W).report) seat drew
    goes_at turns.Windows seat drew = goes_moved (manager_after s.seats.manager (seat_step G seat W).report) seat drew
    goes_at turns.Inside seat drew = goes_moved (manager_after s.seats.manager (seat_step G seat W).report) seat drew
    goes_at turns.Program seat drew = goes_moved (manager_after s.seats.manager (seat_step G seat W).report) seat drew
    goes_at turns.Own seat drew = goes_moved (manager_after s.seats.manager (seat_step G seat W).report) seat drew
    goes_at turns.Output seat drew = goes_moved (manager_after s.seats.manager (seat_step G seat W).report) seat drew
    goes_at turns.Item seat drew = goes_moved (manager_after s.seats.manager (seat_step G seat W).report) seat drew
    goes_at (turns.Ended end) seat drew = goes_still s.seats.manager None tt

    goes_there : (o : Option Seat) → IfDrew s.boot.start.boot s.sessions.serial o
        → Leaves (Goes s (lends_by s n keeps o (Some st))) (within (with_place s n) (or_refused o (λ seat. steps_at (turn seat.connection) G n seat W s.seats.manager)))
    goes_there None drew = tt
    goes_there (Some seat) drew = goes_at (turn seat.connection) seat drew

  pub goes_step : (s : SiteState) (n : ℕ) (keeps : Bool) → SiteHasDrawn s → Leaves (Goes s (lends_by s n keeps (seat_at s.seats.seats n) s.sessions.store)) (step_line s n keeps)
  unfolding step_line place_step
  goes_step s n keeps has =
      leaves-refused_if (Goes s (lends_by s n keeps (seat_at s.seats.seats n) s.sessions.store)) (is_beyond n) (or_refused s.sessions.store (λ store. step_over s n keeps store)) (λ near. by s.sessions.store refl)
    where
      by : (o : Option LanesState) → s.sessions.store ≡ o → Leaves (Goes s (lends_by s n keeps (seat_at s.seats.seats n) o)) (or_refused o (λ store. step_over s n keeps store))
      by None is = tt
      by (Some st) is = goes_there s n keeps st has is (seat_at s.seats.seats n) (drew_here s.boot.start.boot s.sessions.serial s.seats.seats n has.drew)

  -- whole steps

  some_lent : (s t : SiteState) (steps : List LentStep) → Goes s steps t → is_some s.sessions.store ≡ true → is_some t.sessions.store ≡ true
  some_lent s t steps goes bricks = ap (λ (x : SessionsState). is_some x.store) goes.lent.state_is ∙ (by s.sessions.store ∙ bricks)
    where
      by : (o : Option LanesState) → is_some (option_map (λ (st : LanesState). after_lent st steps) o) ≡ is_some o
      by None = refl
      by (Some st) = refl

  pub goes_steps : (s : SiteState) (n : ℕ) (replies : List Bool) → is_beyond n ≡ false → is_some s.sessions.store ≡ true → SiteHasDrawn s → Goes s (steps_lend s n replies) (after_steps s n replies)
  goes_steps s n [] near bricks has = goes_none s has
  goes_steps s n (keeps ∷ more) near bricks has = go (λ v there its. goes_steps v n more near there its) (rests (seat_at s.seats.seats n)) refl (step_line s n keeps) refl (goes_step s n keeps has)
    where
      go : ((v : SiteState) → is_some v.sessions.store ≡ true → SiteHasDrawn v → Goes v (steps_lend v n more) (after_steps v n more)) → (b : Bool) → rests (seat_at s.seats.seats n) ≡ b → (a : Answer SiteState) → step_line s n keeps ≡ a
          → Leaves (Goes s (lends_by s n keeps (seat_at s.seats.seats n) s.sessions.store)) a
          → Goes s (cond b [] (lends_by s n keeps (seat_at s.seats.seats n) s.sessions.store ++ (elim a [ Refused ↦ [] | Done v out ↦ steps_lend v n more ])))
          (cond b s (elim a [ Refused ↦ s | Done v out ↦ after_steps v n more ]))
      go later true here a is left = goes_none s has
      go later false here Refused is left =
          let done : is_done (step_line s n keeps) ≡ true = step_done s n keeps near bricks (there_where (seat_at s.seats.seats n) here) in
          let none : is_done (step_line s n keeps) ≡ false = ap is_done is in absurd (cc)
      go later false here (Done v out) is left =
          goes_on laws s v (after_steps v n more) (lends_by s n keeps (seat_at s.seats.seats n) s.sessions.store) (steps_lend v n more) left
          (later v (some_lent s v (lends_by s n keeps (seat_at s.seats.seats n) s.sessions.store) left bricks) left.has)

  -- a connection that waits for bytes, or is not there, does nothing
  rests_lend : (s : SiteState) (n : ℕ) (keeps : Bool) (o : Option Seat) (store : Option LanesState) → rests o ≡ true → lends_by s n keeps o store ≡ []
  rests_lend s n keeps None store is = refl
  rests_lend s n keeps (Some seat) None is = refl
  rests_lend s n keeps (Some seat) (Some st) is = by (turn seat.connection) is
    where
      by : (t : ShepherdTurn) → waits_for_bytes t ≡ true → lends_at t (lent_steps (givens_of s n keeps) seat (world_of s st)) ≡ []
      by turns.Bytes is = refl
      by turns.Request is = absurd (cc)
      by turns.Outside is = absurd (cc)
      by turns.Windows is = absurd (cc)
      by turns.Inside is = absurd (cc)
      by turns.Program is = absurd (cc)
      by turns.Own is = absurd (cc)
      by turns.Output is = absurd (cc)
      by turns.Item is = absurd (cc)
      by (turns.Ended end) is = absurd (cc)

  goes_once : (s : SiteState) (n : ℕ) (keeps : Bool) → SiteHasDrawn s → Leaves (Goes s (steps_lend s n (keeps ∷ []))) (step_line s n keeps)
  goes_once s n keeps has = go (rests (seat_at s.seats.seats n)) refl (step_line s n keeps) (goes_step s n keeps has)
    where
      go : (b : Bool) → rests (seat_at s.seats.seats n) ≡ b → (a : Answer SiteState) → Leaves (Goes s (lends_by s n keeps (seat_at s.seats.seats n) s.sessions.store)) a
          → Leaves (Goes s (cond b [] (lends_by s n keeps (seat_at s.seats.seats n) s.sessions.store ++ (elim a [ Refused ↦ [] | Done v out ↦ [] ])))) a
      go b here Refused left = tt
      go true here (Done v out) left = subst (λ (steps : List LentStep). Goes s steps v) (rests_lend s n keeps (seat_at s.seats.seats n) s.sessions.store here) left
      go false here (Done v out) left = goes_on laws s v v (lends_by s n keeps (seat_at s.seats.seats n) s.sessions.store) [] left (goes_none v left.has)

-- A line over a boot that was done, or is under way, leads the sessions to those of the boot that it leaves, whose
-- connections need only nonces that were drawn.
abbrev pub LeadsOver : RunningState → (State → List ℕ → List SessionTurn) → Outcome → Type 0
LeadsOver r turns (RefusedIn t) = t ≡ Running r
LeadsOver r turns (DoneTo t text) = (q : RunningState) × (t ≡ Running q) × Lead r.sessions (turns t text) q.sessions × SiteHasDrawn (site_of q)
LeadsOver r turns (UnstartedIn t refusal) = t ≡ Running r
LeadsOver r turns (UnderWayIn t) = (q : RunningState) × (t ≡ Running q) × Lead r.sessions (turns t []) q.sessions × SiteHasDrawn (site_of q)

module _ (laws : DrawLaws) (r : RunningState) (has : SiteHasDrawn (site_of r)) where
  leads_still : (a : Answer SiteState) → Leaves (Stays laws (site_of r)) a → LeadsOver r (λ t text. []) (in_boot r (within (with_site r) a))
  leads_still Refused left = refl
  leads_still (Done v text) left = (with_site r v, refl, left.0, left.1)

  leads_lent : (steps : List LentStep) (a : Answer SiteState) → Leaves (Goes (site_of r) steps) a → LeadsOver r (λ t text. lent_in steps t) (in_boot r (within (with_site r) a))
  leads_lent steps Refused left = refl
  leads_lent steps (Done v text) left = (with_site r v, refl, (v.sessions, left.lent, refl), left.has)

  leads_run : (n : ℕ) (replies : List Bool) → LeadsOver r (λ t text. lent_in (steps_lend (site_of r) n replies) t) (by_replies r (lines.Run n) replies (run_line (site_of r) n replies))
  leads_run n replies = go (can_run (site_of r) n) refl
    where
      by : Bool → Outcome
      by can = by_replies r (lines.Run n) replies (cond can (run_from (site_of r) [] n replies) (Some Refused))

      as_run : by (can_run (site_of r) n) ≡ by_replies r (lines.Run n) replies (run_line (site_of r) n replies)
      as_run = ap (by_replies r (lines.Run n) replies) (line_of_run (site_of r) n replies)

      came : (v : SiteState) → Goes (site_of r) (steps_lend (site_of r) n replies) v → v ≡ after_steps (site_of r) n replies → (o : Option (Answer SiteState)) → RunsTo v o
          → LeadsOver r (λ t text. lent_in (steps_lend (site_of r) n replies) t) (by_replies r (lines.Run n) replies o)
      came v goes is None to =
          let u : SiteState = after_steps (site_of r) n replies in
          let there : Goes (site_of r) (steps_lend (site_of r) n replies) u = subst (Goes (site_of r) (steps_lend (site_of r) n replies)) is goes in
          (with_site r u, refl, (u.sessions, there.lent, refl), there.has)
      came v goes is (Some Refused) to = absurd to
      came v goes is (Some (Done u out)) to =
          let there : Goes (site_of r) (steps_lend (site_of r) n replies) u = subst (Goes (site_of r) (steps_lend (site_of r) n replies)) (sym to) goes in
          (with_site r u, refl, (u.sessions, there.lent, refl), there.has)

      run : (can : Bool) → can_run (site_of r) n ≡ can → LeadsOver r (λ t text. lent_in (steps_lend (site_of r) n replies) t) (by can)
      run true can =
          let near : is_beyond n ≡ false = near_of (is_beyond n) (is_some r.sessions.store) (is_some (seat_at r.seats.seats n)) can in
          let bricks : is_some r.sessions.store ≡ true = bricks_of (is_beyond n) (is_some r.sessions.store) (is_some (seat_at r.seats.seats n)) can in
          came (after_steps (site_of r) n replies) (goes_steps laws (site_of r) n replies near bricks has) refl (run_from (site_of r) [] n replies) (run_to (site_of r) [] n replies near bricks)
      run false none = refl

      go : (can : Bool) → can_run (site_of r) n ≡ can → LeadsOver r (λ t text. lent_in (steps_lend (site_of r) n replies) t) (by_replies r (lines.Run n) replies (run_line (site_of r) n replies))
      go can is = subst (LeadsOver r (λ t text. lent_in (steps_lend (site_of r) n replies) t)) (ap by (sym is) ∙ as_run) (run can is)

  leads_line : (line : SeatLine) (replies : List Bool) → LeadsOver r (λ t text. seat_turns r line replies t) (by_replies r line replies (seat_line (site_of r) line replies))
  leads_line (lines.Conn n) replies = leads_still (conn_line (site_of r) n) (stays_conn laws (site_of r) n has)
  leads_line (lines.Bytes n bytes) replies = leads_still (bytes_line (site_of r) n bytes) (stays_bytes laws (site_of r) n bytes has)
  leads_line (lines.End n) replies = leads_still (end_line (site_of r) n) (stays_end laws (site_of r) n has)
  leads_line (lines.Step n) [] = (r, refl, (r.sessions, still_lent r.sessions, refl), has)
  leads_line (lines.Step n) (keeps ∷ more) = leads_lent (steps_lend (site_of r) n (keeps ∷ [])) (step_line (site_of r) n keeps) (goes_once laws (site_of r) n keeps has)
  leads_line (lines.Run n) replies = leads_run n replies

  -- A line about connections leads the sessions on.
  pub leads_seat : (line : SeatLine) (replies : List Bool) → LeadsOver r (λ t text. seat_turns r line replies t) (seat_over r line replies)
  unfolding seat_over
  leads_seat line replies = go r.site
    where
      go : (site : Bool) → LeadsOver r (λ t text. seat_turns r line replies t) (cond site (by_replies r line replies (seat_line (site_of r) line replies)) (RefusedIn (Running r)))
      go true = leads_line line replies
      go false = refl
