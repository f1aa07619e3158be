-- A connection has served its requests behind each line over its boot.
use Rattle.std.proofs.Common.{◌≡◌, ◌≢◌, ℕ, Bool, true, false, cond, List, [], ◌∷◌, ◌++◌, append-nil, Option, Some, None, is_some, refl, sym, ap, ◌∙◌, subst}
use Rattle.std.specs.Prelude.{All, nat_eq}
use Rattle.std.proofs.lemmas.Bool.{eq-eqb, eqb-false, eqb-true, ne_eqb}
use Rattle.std.proofs.lemmas.List.Elements.{All-head, All-tail}
use Rattle.line_steps.specs.Callers.{call_step}
use Rattle.scenario_text.proofs.Leaving.{Leaves}
use Rattle.scenario_text.specs.Answer.{Answer, Refused, Done, within}
use Rattle.scenario_text.specs.Reading.{line_of}
use Rattle.scenario_text.specs.declared.line.Line.{Line}
use Rattle.scenario_text.specs.declared.line.Line.TheVariants as lines
use Rattle.scenario_text.specs.declared.seat_line.SeatLine.{SeatLine}
use Rattle.scenario_text.specs.declared.seat_line.SeatLine.TheVariants as seats
use Rattle.seat_lines.proofs.Making.{made_of_one}
use Rattle.seat_lines.specs.Changing.{number_in}
use Rattle.seat_lines.specs.Lines.{bytes_line, conn_line, end_line, is_beyond, step_line}
use Rattle.seat_lines.specs.Making.{StepMade, WasMade, line_makes, run_makes, step_makes}
use Rattle.seat_lines.specs.Responding.{bytes_by}
use Rattle.seat_lines.specs.Runs.{can_run, run_from, run_line, seat_line}
use Rattle.seat_lines.specs.Site.{SiteState, seat_at}
use Rattle.seat_steps.specs.declared.seat.Seat.{Seat}
use Rattle.session_steps.specs.Sessions.{session_line}
use Rattle.scenario_engine.specs.Connections.{makes_over, makes_to, seat_makes, turn_makes}
use Rattle.scenario_engine.specs.Engine.{Replies, first_keeps, line_over, step}
use Rattle.scenario_engine.specs.Running.{boot_line, commit_step, with_called, with_sessions}
use Rattle.scenario_engine.specs.Seats.{after_steps, by_replies, in_boot, seat_over}
use Rattle.scenario_engine.specs.Serving.{HasServed, StaysWith, bytes_of, bytes_to, steps_of}
use Rattle.scenario_engine.specs.State.{RunningState, Running, Outcome, RefusedIn, DoneTo, UnstartedIn, UnderWayIn, site_of, with_site}
use Rattle.scenario_engine.specs.Transcript.{Turn, answer_to, turn_outcome}
use Rattle.scenario_engine.proofs.Continuing.{Beside, beside_boot, beside_called, beside_commit, beside_sessions}
use Rattle.scenario_engine.proofs.SeatRows.{RunsTo, bricks_of, line_of_run, near_of, run_to}
use Rattle.scenario_engine.proofs.ServedSteps.{LeavesOther, ServeLaws, line-leaves, made_at, run-leaves, served-bytes, served-continues, served-end, served-run, served-step}

-- steps of the connection of a number, and of others

pub all-its : (n : ℕ) (steps : List StepMade) → All (λ (step : StepMade). step.number ≡ n) steps → steps_of n steps ≡ steps
all-its n [] all = refl
all-its n (step ∷ steps) all =
    ap (λ (b : Bool). cond b (step ∷ steps_of n steps) (steps_of n steps)) (eq-eqb step.number n (All-head (λ (x : StepMade). x.number ≡ n) step steps all))
    ∙ ap (λ (xs : List StepMade). step ∷ xs) (all-its n steps (All-tail (λ (x : StepMade). x.number ≡ n) step steps all))

pub none-its : (n m : ℕ) (steps : List StepMade) → n ≢ m → All (λ (step : StepMade). step.number ≡ m) steps → steps_of n steps ≡ []
none-its n m [] other all = refl
none-its n m (step ∷ steps) other all =
    let its : step.number ≡ m = All-head (λ (x : StepMade). x.number ≡ m) step steps all in
    ap (λ (b : Bool). cond b (step ∷ steps_of n steps) (steps_of n steps)) (ne_eqb step.number n (λ same. other (sym same ∙ its)))
    ∙ none-its n m steps other (All-tail (λ (x : StepMade). x.number ≡ m) step steps all)

module _ (laws : ServeLaws) (n : ℕ) (from : SiteState) where
  -- a line leaves a boot in which the connection has served, by these bytes and steps, where it leaves one
  abbrev pub ServedTo : List ℕ → List StepMade → Outcome → Type 0
  ServedTo bytes steps (RefusedIn t) = Unit {0}
  ServedTo bytes steps (DoneTo t text) = (q : RunningState) × (t ≡ Running q) × HasServed n from bytes steps (site_of q)
  ServedTo bytes steps (UnstartedIn t cause) = Unit {0}
  ServedTo bytes steps (UnderWayIn t) = (q : RunningState) × (t ≡ Running q) × HasServed n from bytes steps (site_of q)

  -- no bytes more, and no steps
  no-more : (bytes : List ℕ) (steps : List StepMade) (o : Outcome) → ServedTo bytes steps o → ServedTo (bytes ++ []) (steps ++ []) o
  no-more bytes steps o h = subst (λ (x : List ℕ). ServedTo x (steps ++ []) o) (sym (append-nil bytes)) (subst (λ (x : List StepMade). ServedTo bytes x o) (sym (append-nil steps)) h)

  no-bytes : (bytes : List ℕ) (steps : List StepMade) (o : Outcome) → ServedTo bytes steps o → ServedTo (bytes ++ []) steps o
  no-bytes bytes steps o h = subst (λ (x : List ℕ). ServedTo x steps o) (sym (append-nil bytes)) h

  no-steps : (bytes : List ℕ) (steps : List StepMade) (o : Outcome) → ServedTo bytes steps o → ServedTo bytes (steps ++ []) o
  no-steps bytes steps o h = subst (λ (x : List StepMade). ServedTo bytes x o) (sym (append-nil steps)) h

  module _ (r : RunningState) (bytes : List ℕ) (steps : List StepMade) (its : HasServed n from bytes steps (site_of r)) where
    abbrev S : SiteState
    S = site_of r

    -- a line that leaves the connections as they are
    beside : (a : Answer RunningState) → Leaves (Beside r) a → ServedTo bytes steps (in_boot r a)
    beside Refused left = tt
    beside (Done q text) left = (q, refl, served-continues laws n from bytes S (site_of q) steps (ap (λ (xs : List (Option Seat)). seat_at xs n) left.seats) left.continues its)

    -- a line about connections, by its answer
    answered : (came : List ℕ) (made : List StepMade) (a : Answer SiteState) → ((v : SiteState) (text : List ℕ) → a ≡ Done v text → HasServed n from came made v) → ServedTo came made (in_boot r (within (with_site r) a))
    answered came made Refused each = tt
    answered came made (Done v text) each = (with_site r v, refl, each v text refl)

    -- a run comes to the site after its steps
    ran : (m : ℕ) (replies : List Bool) (made : List StepMade) → HasServed n from bytes made (after_steps S m replies) → ServedTo bytes made (by_replies r (seats.Run m) replies (run_line S m replies))
    ran m replies made after = go (can_run S m) refl
      where
        by : Bool → Outcome
        by can = by_replies r (seats.Run m) replies (cond can (run_from S [] m replies) (Some Refused))

        as_run : by (can_run S m) ≡ by_replies r (seats.Run m) replies (run_line S m replies)
        as_run = ap (by_replies r (seats.Run m) replies) (line_of_run S m replies)

        came : (o : Option (Answer SiteState)) → RunsTo (after_steps S m replies) o → ServedTo bytes made (by_replies r (seats.Run m) replies o)
        came None to = (with_site r (after_steps S m replies), refl, after)
        came (Some Refused) to = absurd to
        came (Some (Done v out)) to = (with_site r v, refl, subst (HasServed n from bytes made) (sym to) after)

        run : (can : Bool) → can_run S m ≡ can → ServedTo bytes made (by can)
        run true can = came (run_from S [] m replies) (run_to S [] m replies (near_of (is_beyond m) (is_some r.sessions.store) (is_some (seat_at r.seats.seats m)) can) (bricks_of (is_beyond m) (is_some r.sessions.store) (is_some (seat_at r.seats.seats m)) can))
        run false none = tt

        go : (can : Bool) → can_run S m ≡ can → ServedTo bytes made (by_replies r (seats.Run m) replies (run_line S m replies))
        go can is = subst (ServedTo bytes made) (ap by (sym is) ∙ as_run) (run can is)

    -- its own lines

    own-step : (replies : List Bool) → All WasMade (step_makes S n replies) → ServedTo bytes (steps ++ step_makes S n replies) (by_replies r (seats.Step n) replies (seat_line S (seats.Step n) replies))
    own-step [] made = no-steps bytes steps (UnderWayIn (Running (with_site r S))) (with_site r S, refl, its)
    own-step (keeps ∷ more) made = go (step_line S n keeps) refl made
      where
        go : (a : Answer SiteState) → step_line S n keeps ≡ a → All WasMade (elim a [ Refused ↦ [] | Done v out ↦ made_at S n keeps ∷ [] ]) → ServedTo bytes (steps ++ elim a [ Refused ↦ [] | Done v out ↦ made_at S n keeps ∷ [] ]) (in_boot r (within (with_site r) a))
        go Refused is all = tt
        go (Done v out) is all = (with_site r v, refl, served-step laws n from bytes S v keeps out is (All-head WasMade (made_at S n keeps) [] all) steps its)

    own-line : (line : SeatLine) (replies : List Bool) → number_in line ≡ n → line ≢ seats.Conn n → All WasMade (line_makes S line replies)
        → ServedTo (bytes ++ bytes_by line) (steps ++ line_makes S line replies) (by_replies r line replies (seat_line S line replies))
    own-line (seats.Conn m) replies same other made = absurd (other (ap (λ (k : ℕ). seats.Conn k) same))
    own-line (seats.Bytes m came) replies same other made =
        no-steps (bytes ++ came) steps (in_boot r (within (with_site r) (bytes_line S m came)))
        (answered (bytes ++ came) steps (bytes_line S m came) (λ v text is.
        served-bytes laws S v n from bytes came steps replies text (ap (λ (k : ℕ). seat_line S (seats.Bytes k came) replies) (sym same) ∙ ap (λ (a : Answer SiteState). Some a) is) its))
    own-line (seats.End m) replies same other made =
        no-more bytes steps (in_boot r (within (with_site r) (end_line S m)))
        (answered bytes steps (end_line S m) (λ v text is.
        served-end laws S v n from bytes steps replies text (ap (λ (k : ℕ). seat_line S (seats.End k) replies) (sym same) ∙ ap (λ (a : Answer SiteState). Some a) is) its))
    own-line (seats.Step m) replies same other made =
        no-bytes bytes (steps ++ step_makes S m replies) (by_replies r (seats.Step m) replies (seat_line S (seats.Step m) replies))
        (subst (λ (k : ℕ). All WasMade (step_makes S k replies) → ServedTo bytes (steps ++ step_makes S k replies) (by_replies r (seats.Step k) replies (seat_line S (seats.Step k) replies))) (sym same) (own-step replies) made)
    own-line (seats.Run m) replies same other made =
        no-bytes bytes (steps ++ run_makes S m replies) (by_replies r (seats.Run m) replies (seat_line S (seats.Run m) replies))
        (subst (λ (k : ℕ). All WasMade (run_makes S k replies) → ServedTo bytes (steps ++ run_makes S k replies) (by_replies r (seats.Run k) replies (run_line S k replies))) (sym same)
        (λ all. ran n replies (steps ++ run_makes S n replies) (served-run laws n from bytes S replies steps all its)) made)

    -- lines about others

    left-other : (v : SiteState) → LeavesOther laws n S v → HasServed n from bytes steps v
    left-other v left = served-continues laws n from bytes S v steps left.same left.continues its

    done-other : (line : SeatLine) (replies : List Bool) (a : Answer SiteState) → n ≢ number_in line → seat_line S line replies ≡ Some a → ServedTo bytes steps (in_boot r (within (with_site r) a))
    done-other line replies a other is = answered bytes steps a (λ v text comes. left-other v (line-leaves laws n S v line replies text other (is ∙ ap (λ (x : Answer SiteState). Some x) comes)))

    other-line : (line : SeatLine) (replies : List Bool) → n ≢ number_in line → ServedTo bytes steps (by_replies r line replies (seat_line S line replies))
    other-line (seats.Conn m) replies other = done-other (seats.Conn m) replies (conn_line S m) other refl
    other-line (seats.Bytes m came) replies other = done-other (seats.Bytes m came) replies (bytes_line S m came) other refl
    other-line (seats.End m) replies other = done-other (seats.End m) replies (end_line S m) other refl
    other-line (seats.Step m) [] other = (with_site r S, refl, its)
    other-line (seats.Step m) (keeps ∷ more) other = done-other (seats.Step m) (keeps ∷ more) (step_line S m keeps) other refl
    other-line (seats.Run m) replies other = ran m replies steps (left-other (after_steps S m replies) (run-leaves laws n m other S replies))

    -- any line about a connection

    seat-line : (line : SeatLine) (replies : List Bool) → line ≢ seats.Conn n → All WasMade (seat_makes r line replies)
        → ServedTo (bytes ++ cond (nat_eq (number_in line) n) (bytes_by line) []) (steps ++ steps_of n (seat_makes r line replies)) (seat_over r line replies)
    unfolding seat_over
    seat-line line replies not made = go r.site made
      where
        over : (same : Bool) → nat_eq (number_in line) n ≡ same → All WasMade (line_makes S line replies)
            → ServedTo (bytes ++ cond same (bytes_by line) []) (steps ++ steps_of n (line_makes S line replies)) (by_replies r line replies (seat_line S line replies))
        over true is all =
            let same : number_in line ≡ n = eqb-true (number_in line) n is in
            let one : All (λ (x : StepMade). x.number ≡ n) (line_makes S line replies) = subst (λ (k : ℕ). All (λ (x : StepMade). x.number ≡ k) (line_makes S line replies)) same (made_of_one S line replies) in
            subst (λ (xs : List StepMade). ServedTo (bytes ++ bytes_by line) (steps ++ xs) (by_replies r line replies (seat_line S line replies))) (sym (all-its n (line_makes S line replies) one))
            (own-line line replies same not all)
        over false is all =
            let other : n ≢ number_in line = λ same. eqb-false (number_in line) n is (sym same) in
            subst (λ (xs : List StepMade). ServedTo (bytes ++ []) (steps ++ xs) (by_replies r line replies (seat_line S line replies))) (sym (none-its n (number_in line) (line_makes S line replies) other (made_of_one S line replies)))
            (no-more bytes steps (by_replies r line replies (seat_line S line replies)) (other-line line replies other))

        go : (site : Bool) → All WasMade (cond site (line_makes S line replies) [])
            → ServedTo (bytes ++ cond (nat_eq (number_in line) n) (bytes_by line) []) (steps ++ steps_of n (cond site (line_makes S line replies) [])) (cond site (by_replies r line replies (seat_line S line replies)) (RefusedIn (Running r)))
        go true all = over (nat_eq (number_in line) n) refl all
        go false all = tt

    -- any line over the boot

    any-line : (line : Line) (replies : Replies) → line ≢ lines.Reopen → line ≢ lines.Seat (seats.Conn n) → All WasMade (makes_over r line replies)
        → ServedTo (bytes ++ bytes_to n line) (steps ++ steps_of n (makes_over r line replies)) (line_over r line replies)
    any-line lines.Pass replies again conn made = no-more bytes steps (DoneTo (Running r) []) (r, refl, its)
    any-line (lines.Head line) replies again conn made = tt
    any-line (lines.Call c line) replies again conn made =
        no-more bytes steps (in_boot r (within (with_called r) (call_step r.boot r.callers c line))) (beside (within (with_called r) (call_step r.boot r.callers c line)) (beside_called r c line))
    any-line (lines.Commit c) replies again conn made =
        no-more bytes steps (in_boot r (commit_step r c (first_keeps replies.keeps))) (beside (commit_step r c (first_keeps replies.keeps)) (beside_commit r c (first_keeps replies.keeps)))
    any-line (lines.Boot line) replies again conn made = no-more bytes steps (in_boot r (boot_line r line)) (beside (boot_line r line) (beside_boot r line))
    any-line lines.Reopen replies again conn made = absurd (again refl)
    any-line (lines.Session line) replies again conn made =
        no-more bytes steps (in_boot r (within (with_sessions r) (session_line r.sessions line))) (beside (within (with_sessions r) (session_line r.sessions line)) (beside_sessions r line))
    any-line (lines.Seat line) replies again conn made = seat-line line replies.keeps (λ same. conn (ap (λ (x : SeatLine). lines.Seat x) same)) made

    -- a turn

    pub any-turn : (turn : Turn) → StaysWith n turn → All WasMade (turn_makes (Running r) turn) → ServedTo (bytes ++ bytes_of n (line_of turn.line)) (steps ++ steps_of n (turn_makes (Running r) turn)) (turn_outcome (Running r) turn)
    unfolding turn_outcome turn_makes step
    any-turn turn stays made = go (line_of turn.line) stays.0 stays.1 made
      where
        go : (o : Option Line) → o ≢ Some lines.Reopen → o ≢ Some (lines.Seat (seats.Conn n)) → All WasMade (makes_to (Running r) o turn.replies)
            → ServedTo (bytes ++ bytes_of n o) (steps ++ steps_of n (makes_to (Running r) o turn.replies)) (answer_to (Running r) o turn.replies)
        go None again conn all = tt
        go (Some line) again conn all =
            any-line line turn.replies (λ same. again (ap (λ (x : Line). Some x) same)) (λ same. conn (ap (λ (x : Line). Some x) same)) all
