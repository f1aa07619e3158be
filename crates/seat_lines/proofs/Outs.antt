-- What lines about a connection write, put out and give.
use Rattle.std.proofs.Common.{◌≡◌, ◌≢◌, ◌⊎◌, ◌==◌, inl, inr, ℕ, Bool, true, false, cond, if◌then◌else◌, List, [], ◌∷◌, ◌++◌, length, Option, Some, None, refl, sym, ap, subst, ◌∙◌, append_assoc, length-append, arith}
use Rattle.std.proofs.lemmas.List.{append-nil}
use Rattle.std.proofs.lemmas.List.Concat.{flat_map-append}
use Rattle.std.proofs.lemmas.List.{get_or-set_same}
use Rattle.auction_calls.specs.declared.action.ActionCall.{ActionCall}
use Rattle.http_wire.specs.Taking.{settles, taken_of}
use Rattle.failure_scores.specs.declared.report.FailureReport.{FailureReport}
use Rattle.outcome_items.specs.declared.item.Item.{Item}
use Rattle.recovery_manager.specs.Kept.{ManagerValue}
use Rattle.request_visit.specs.Visits.{turn as visit_turn}
use Rattle.scenario_text.specs.Answer.{Answer, Refused, Done}
use Rattle.scenario_text.specs.declared.seat_line.SeatLine.{SeatLine}
use Rattle.scenario_text.specs.declared.seat_line.SeatLine.TheVariants as lines
use Rattle.seat_steps.specs.Seats.{SeatOutcome, seat_step}
use Rattle.seat_steps.specs.declared.seat.Seat.{Seat}
use Rattle.session_lanes.specs.Lanes.{LanesState}
use Rattle.shepherd.specs.Shepherds.{resting_turn, stage_turn, turn}
use Rattle.shepherd.specs.declared.shepherd.EndKind.{EndKind}
use Rattle.shepherd.specs.declared.shepherd.EndKind.TheVariants as ends
use Rattle.shepherd.specs.declared.shepherd.Shepherd.{Shepherd}
use Rattle.shepherd.specs.declared.shepherd.ShepherdTurn.{ShepherdTurn}
use Rattle.shepherd.specs.declared.shepherd.ShepherdTurn.TheVariants as turns
use Rattle.shepherd.specs.declared.shepherd.Stage.{Stage}
use Rattle.shepherd.specs.declared.shepherd.Stage.TheVariants.{Resting, Serving, Refusing, Over}
use Rattle.seat_lines.specs.Changing.{IsLeftBySeat, SeatBecomes, number_in}
use Rattle.seat_lines.specs.Hearing.{manager_by}
use Rattle.seat_lines.specs.Items.{Said, items_at, line_items, line_says, out_in, outs_at, outs_in, report_in, reports_at, reports_in, run_yields, said_at, step_yields}
use Rattle.seat_lines.specs.Lines.{ended, fed, givens_of, moves, step_line, world_of}
use Rattle.seat_lines.specs.Runs.{rests, run_from, seat_line}
use Rattle.seat_lines.specs.Site.{SiteState, seat_at, with_seat}
use Rattle.seat_lines.specs.PuttingOut.{HasPutOut, IsSent, IsSentBy, PutsOutMore, last_outs, said_text}
use Rattle.seat_lines.specs.Texts.{gone_text}
use Rattle.seat_lines.proofs.Answering.{run_begun}
use Rattle.seat_lines.proofs.Keeping.{given}
use Rattle.seat_lines.proofs.Leaving.{Passes, is_open_turn, open_turn, seat_passes}
use Rattle.seat_lines.proofs.Heard.{step_hears}
use Rattle.seat_lines.proofs.OneSeat.{answer_is, bytes_fed, input_ended, still_alone, there_refused}
use Rattle.seat_lines.proofs.Saying.{heard_on, none_given, none_said, outs_said, reports_said, said_on, step_parts, text_said}
use Rattle.seat_lines.proofs.SeatSteps.{goes_ended, left_by_seat, stays_at, waits_still, with_bricks, within_places}

-- a connection that has ended has sent its last
resting_ends : (received : List ℕ) (over : Bool) (end : EndKind) → resting_turn received over ≡ turns.Ended end → last_outs end ≡ []
resting_ends received over end is = go (settles (taken_of received)) over (length received == 0) is where
  go : (a b c : Bool) → (if a then turns.Request else (if b then (if c then turns.Ended ends.Closed else turns.Ended ends.Cut) else turns.Bytes)) ≡ turns.Ended end → last_outs end ≡ []
  go true b c e = absurd (cc)
  go false true true e = let same : ends.Closed ≡ end = cc in ap last_outs (sym same)
  go false true false e = let same : ends.Cut ≡ end = cc in ap last_outs (sym same)
  go false false c e = absurd (cc)

stage_ends : (stage : Stage ActionCall) (received : List ℕ) (over : Bool) (end : EndKind) (sent : List (List ℕ)) → stage_turn stage received over ≡ turns.Ended end → IsSent stage sent → sent ≡ last_outs end
stage_ends Resting received over end sent e is = is ∙ sym (resting_ends received over end e)
stage_ends (Serving v call) received over end sent e is = absurd (let some = open_turn (visit_turn v) in let none = ap is_open_turn e in cc)
stage_ends (Refusing why last) received over end sent e is = absurd (cc)
stage_ends (Over kind) received over end sent e is = let same : kind ≡ end = cc in is ∙ ap last_outs same

ends_told : (s : Shepherd ActionCall) (end : EndKind) (sent : List (List ℕ)) → turn s ≡ turns.Ended end → IsSent s.stage sent → end ≢ ends.OutOfMemory → sent ≡ last_outs end
ends_told s end sent is at other = go s.wants_memory is where
  go : (m : Bool) → (if m then turns.Ended ends.OutOfMemory else stage_turn s.stage s.received s.ended) ≡ turns.Ended end → sent ≡ last_outs end
  go true e = absurd (let same : ends.OutOfMemory ≡ end = cc in other (sym same))
  go false e = stage_ends s.stage s.received s.ended end sent e at

-- the same, told of what is equal
tells_as : (n : ℕ) (outs : List (List ℕ)) (items : List Item) (m : ManagerValue) (more more_is : List Said) (taken taken_is : List Item) (seat seat_is : Option Seat) (text text_is : List ℕ)
    → more ≡ more_is → taken ≡ taken_is → seat ≡ seat_is → text ≡ text_is → PutsOutMore n outs items m more taken seat text → PutsOutMore n outs items m more_is taken_is seat_is text_is
tells_as n outs items m more more_is taken taken_is seat seat_is text text_is a b c d tells =
    subst (λ (x : List Said). PutsOutMore n outs items m x taken_is seat_is text_is) a
    (subst (λ (x : List Item). PutsOutMore n outs items m more x seat_is text_is) b
    (subst (λ (x : Option Seat). PutsOutMore n outs items m more taken x text_is) c
    (subst (λ (x : List ℕ). PutsOutMore n outs items m more taken seat x) d tells)))

-- nothing was put out and given
nothing_more : (n : ℕ) (outs : List (List ℕ)) (items : List Item) (m : ManagerValue) (seat : Seat) (new : Option Seat) (text : List ℕ) → (told : HasPutOut n outs items (Some seat) []) → IsSentBy n new told.sent text → PutsOutMore n outs items m [] [] new text
nothing_more n outs items m seat new text told behind = record {
  rest = text;
  text_is = refl;
  put_out = record {
    responses = told.responses;
    sent = told.sent;
    outs_are = append-nil outs ∙ told.outs_are;
    each = told.each ∙ ap length (sym (append-nil items));
    behind = behind;
  };
}

module _ (s : SiteState) (n : ℕ) (keeps : Bool) (t : SiteState) (text : List ℕ) (is : step_line s n keeps ≡ Done t text) where
  module _ (outs : List (List ℕ)) (items : List Item) (seat : Seat) (there : seat_at s.seats.seats n ≡ Some seat) (told : HasPutOut n outs items (Some seat) []) (st : LanesState) (bricks : s.sessions.store ≡ Some st) where
    abbrev o : SeatOutcome
    o = seat_step (givens_of s n keeps) seat (world_of s st)

    abbrev at : ShepherdTurn
    at = turn seat.connection

    moving_tells : moves at ≡ true → PutsOutMore n outs items s.seats.manager (said_at at o) (items_at at o) (seat_at t.seats.seats n) text
    moving_tells moving =
        let left : IsLeftBySeat s n at o t text = left_by_seat s n keeps t text seat st there bricks moving is in
        let passes : Passes seat.connection.stage (outs_at at o) o.items o.seat.connection.stage told.sent = seat_passes (givens_of s n keeps) seat (world_of s st) told.sent moving told.behind.0 in
        let taken : items_at at o ≡ o.items = ap (λ (b : Bool). cond b o.items []) moving in
        let put : HasPutOut n (outs ++ outs_at at o) (items ++ items_at at o) (Some o.seat) [] = record {
          responses = told.responses ++ passes.responses;
          sent = passes.more;
          outs_are = ap (λ (x : List (List ℕ)). x ++ outs_at at o) told.outs_are ∙ (append_assoc told.responses told.sent (outs_at at o) ∙ (ap (λ (x : List (List ℕ)). told.responses ++ x) passes.outs_are ∙ sym (append_assoc told.responses passes.responses passes.more)));
          each = omega (arith, length-append told.responses passes.responses, length-append items (items_at at o), told.each, passes.each, ap (λ (x : List Item). length x) taken);
          behind = (passes.behind, refl);
        } in
        let now : PutsOutMore n outs items s.seats.manager (said_at at o) (items_at at o) (Some o.seat) text = record {
          rest = [];
          text_is = left.text_is ∙ text_said at n o s.seats.manager moving;
          put_out = subst (λ (x : List (List ℕ)). HasPutOut n (outs ++ x) (items ++ items_at at o) (Some o.seat) []) (sym (outs_said at o)) put;
        } in
        subst (λ (x : Option Seat). PutsOutMore n outs items s.seats.manager (said_at at o) (items_at at o) x text) (sym left.seat) now

    still_tells : moves at ≡ false → PutsOutMore n outs items s.seats.manager [] [] (seat_at t.seats.seats n) text
    still_tells still = by (stays_at at still) where
      by : ((at ≡ turns.Bytes) ⊎ ((end : EndKind) × (at ≡ turns.Ended end))) → PutsOutMore n outs items s.seats.manager [] [] (seat_at t.seats.seats n) text
      by (inl waiting) =
          let same : (t ≡ s) × (text ≡ []) = waits_still s n keeps t text seat there waiting is in
          tells_as n outs items s.seats.manager [] [] [] [] (Some seat) (seat_at t.seats.seats n) [] text refl refl (sym there ∙ ap (λ (x : SiteState). seat_at x.seats.seats n) (sym same.0)) (sym same.1)
          (nothing_more n outs items s.seats.manager seat (Some seat) [] told (told.behind.0, refl))
      by (inr (end, over)) =
          let gone : (t ≡ with_seat s n None) × (text ≡ gone_text n end) = goes_ended s n keeps t text seat end there over is in
          let none : seat_at t.seats.seats n ≡ None = ap (λ (x : SiteState). seat_at x.seats.seats n) gone.0 ∙ get_or-set_same s.seats.seats n None None (within_places s.seats.seats n seat there) in
          tells_as n outs items s.seats.manager [] [] [] [] None (seat_at t.seats.seats n) text text refl refl (sym none) refl
          (nothing_more n outs items s.seats.manager seat None text told (end, gone.1, λ other. ends_told seat.connection end told.sent over told.behind.0 other))

    at_turn_tells : PutsOutMore n outs items s.seats.manager (said_at at o) (items_at at o) (seat_at t.seats.seats n) text
    at_turn_tells = by (moves at) refl where
      by : (b : Bool) → moves at ≡ b → PutsOutMore n outs items s.seats.manager (said_at at o) (items_at at o) (seat_at t.seats.seats n) text
      by true moving = moving_tells moving
      by false still =
          tells_as n outs items s.seats.manager [] (said_at at o) [] (items_at at o) (seat_at t.seats.seats n) (seat_at t.seats.seats n) text text (sym (none_said at o still)) (sym (none_given at o still).1) refl refl (still_tells still)

  -- a step tells more of a connection that is there
  pub step_tells : (outs : List (List ℕ)) (items : List Item) (seat : Seat) → seat_at s.seats.seats n ≡ Some seat → HasPutOut n outs items (Some seat) []
      → PutsOutMore n outs items s.seats.manager (step_yields said_at s n keeps) (step_yields items_at s n keeps) (seat_at t.seats.seats n) text
  step_tells outs items seat there told = go (with_bricks s n keeps t text is) where
    go : ((st : LanesState) × (s.sessions.store ≡ Some st)) → PutsOutMore n outs items s.seats.manager (step_yields said_at s n keeps) (step_yields items_at s n keeps) (seat_at t.seats.seats n) text
    go (st, bricks) =
        tells_as n outs items s.seats.manager (said_at (turn seat.connection) (o outs items seat there told st bricks)) (step_yields said_at s n keeps) (items_at (turn seat.connection) (o outs items seat there told st bricks)) (step_yields items_at s n keeps) (seat_at t.seats.seats n) (seat_at t.seats.seats n) text text
        (sym (given s n keeps t text is said_at seat st there bricks)) (sym (given s n keeps t text is items_at seat st there bricks)) refl refl (at_turn_tells outs items seat there told st bricks)

-- a connection that is not at rest is there
going_there : (o : Option Seat) → rests o ≡ false → (seat : Seat) × (o ≡ Some seat)
going_there None e = absurd (cc)
going_there (Some seat) e = (seat, refl)

module _ (n : ℕ) (outs : List (List ℕ)) (items : List Item) (m : ManagerValue) where
  -- one more step of a run
  joined : (s x : SiteState) (keeps : Bool) (text out : List ℕ) (more : List Said) (taken : List Item) → rests (seat_at s.seats.seats n) ≡ false → step_line s n keeps ≡ Done x out
      → s.seats.manager ≡ manager_by m (reports_in more) → PutsOutMore n outs items m more taken (seat_at s.seats.seats n) text
      → PutsOutMore n outs items m (more ++ step_yields said_at s n keeps) (taken ++ step_yields items_at s n keeps) (seat_at x.seats.seats n) (text ++ out)
  joined s x keeps text out more taken going is heard tells = by (going_there (seat_at s.seats.seats n) going) where
    gives : List Said
    gives = step_yields said_at s n keeps

    gets : List Item
    gets = step_yields items_at s n keeps

    by : ((seat : Seat) × (seat_at s.seats.seats n ≡ Some seat)) → PutsOutMore n outs items m (more ++ gives) (taken ++ gets) (seat_at x.seats.seats n) (text ++ out)
    by (seat, there) =
        let told : HasPutOut n (outs ++ outs_in more) (items ++ taken) (Some seat) tells.rest = subst (λ (o : Option Seat). HasPutOut n (outs ++ outs_in more) (items ++ taken) o tells.rest) there tells.put_out in
        let bare : HasPutOut n (outs ++ outs_in more) (items ++ taken) (Some seat) [] = subst (λ (r : List ℕ). HasPutOut n (outs ++ outs_in more) (items ++ taken) (Some seat) r) told.behind.1 told in
        let next : PutsOutMore n (outs ++ outs_in more) (items ++ taken) s.seats.manager gives gets (seat_at x.seats.seats n) out = step_tells s n keeps x out is (outs ++ outs_in more) (items ++ taken) seat there bare in
        let first : text ≡ said_text n m more = tells.text_is ∙ (ap (λ (r : List ℕ). said_text n m more ++ r) told.behind.1 ∙ append-nil (said_text n m more)) in
        let all : outs ++ outs_in (more ++ gives) ≡ (outs ++ outs_in more) ++ outs_in gives = ap (λ (a : List (List ℕ)). outs ++ a) (flat_map-append out_in more gives) ∙ sym (append_assoc outs (outs_in more) (outs_in gives)) in
        record {
          rest = next.rest;
          text_is =
              ap (λ (a : List ℕ). a ++ out) first
              ∙ (ap (λ (b : List ℕ). said_text n m more ++ b) next.text_is
              ∙ (sym (append_assoc (said_text n m more) (said_text n s.seats.manager gives) next.rest)
              ∙ (ap (λ (y : ManagerValue). (said_text n m more ++ said_text n y gives) ++ next.rest) heard
              ∙ ap (λ (c : List ℕ). c ++ next.rest) (sym (said_on n more gives m)))));
          put_out = subst (λ (a : List (List ℕ)). HasPutOut n a (items ++ (taken ++ gets)) (seat_at x.seats.seats n) next.rest) (sym all)
              (subst (λ (b : List Item). HasPutOut n ((outs ++ outs_in more) ++ outs_in gives) b (seat_at x.seats.seats n) next.rest) (append_assoc items taken gets) next.put_out);
        }

  -- the manager hears what one more step reports
  joined_hears : (s x : SiteState) (keeps : Bool) (out : List ℕ) (more : List Said) → step_line s n keeps ≡ Done x out → s.seats.manager ≡ manager_by m (reports_in more)
      → x.seats.manager ≡ manager_by m (reports_in (more ++ step_yields said_at s n keeps))
  joined_hears s x keeps out more is heard =
      let gives : List Said = step_yields said_at s n keeps in
      step_hears s n keeps x out is
      ∙ (ap (λ (y : ManagerValue). manager_by y (step_yields reports_at s n keeps)) heard
      ∙ (ap (λ (rs : List FailureReport). manager_by (manager_by m (reports_in more)) rs) (sym (step_parts report_in reports_at reports_said s n keeps))
      ∙ (sym (heard_on (reports_in more) (reports_in gives) m)
      ∙ ap (λ (rs : List FailureReport). manager_by m rs) (sym (flat_map-append report_in more gives)))))

  -- what follows the answer to a step of a run
  abbrev RunThen : List ℕ → List Bool → Answer SiteState → Option (Answer SiteState)
  RunThen text replies a = elim a [ Refused ↦ Some Refused | Done x out ↦ run_from x (text ++ out) n replies ]

  abbrev YieldsThen : {A : Type 0} → (ShepherdTurn → SeatOutcome → List A) → SiteState → Bool → List Bool → Answer SiteState → List A
  YieldsThen gives s keeps replies a = elim a [ Refused ↦ [] | Done x out ↦ step_yields gives s n keeps ++ run_yields gives x n replies ]

  -- a run that is at its end
  halts : (s t : SiteState) (text out : List ℕ) (more : List Said) (taken : List Item) → Some (Done s text) ≡ Some (Done t out) → PutsOutMore n outs items m more taken (seat_at s.seats.seats n) text → PutsOutMore n outs items m (more ++ []) (taken ++ []) (seat_at t.seats.seats n) out
  halts s t text out more taken is tells =
      let same : s ≡ t = cc in
      let texts : text ≡ out = cc in
      tells_as n outs items m more (more ++ []) taken (taken ++ []) (seat_at s.seats.seats n) (seat_at t.seats.seats n) text out (sym (append-nil more)) (sym (append-nil taken)) (ap (λ (x : SiteState). seat_at x.seats.seats n) same) texts tells

  pub run_tells : (s t : SiteState) (text out : List ℕ) (more : List Said) (taken : List Item) (replies : List Bool) → s.seats.manager ≡ manager_by m (reports_in more)
      → PutsOutMore n outs items m more taken (seat_at s.seats.seats n) text → run_from s text n replies ≡ Some (Done t out)
      → PutsOutMore n outs items m (more ++ run_yields said_at s n replies) (taken ++ run_yields items_at s n replies) (seat_at t.seats.seats n) out
  run_tells s t text out more taken [] heard tells is = go (rests (seat_at s.seats.seats n)) is where
    go : (b : Bool) → cond b (Some (Done s text)) None ≡ Some (Done t out) → PutsOutMore n outs items m (more ++ []) (taken ++ []) (seat_at t.seats.seats n) out
    go true e = halts s t text out more taken e tells
    go false e = absurd (cc)
  run_tells s t text out more taken (keeps ∷ replies) heard tells is =
      go (λ x o a i. run_tells x t (text ++ o) out a i replies) (rests (seat_at s.seats.seats n)) refl is where
        Later : Type 0
        Later = (x : SiteState) (o : List ℕ) (a : List Said) (i : List Item) → x.seats.manager ≡ manager_by m (reports_in a) → PutsOutMore n outs items m a i (seat_at x.seats.seats n) (text ++ o) → run_from x (text ++ o) n replies ≡ Some (Done t out)
            → PutsOutMore n outs items m (a ++ run_yields said_at x n replies) (i ++ run_yields items_at x n replies) (seat_at t.seats.seats n) out

        by : Later → rests (seat_at s.seats.seats n) ≡ false → (a : Answer SiteState) → step_line s n keeps ≡ a → RunThen text replies a ≡ Some (Done t out)
            → PutsOutMore n outs items m (more ++ YieldsThen said_at s keeps replies a) (taken ++ YieldsThen items_at s keeps replies a) (seat_at t.seats.seats n) out
        by later going Refused at e = absurd (cc)
        by later going (Done x o) at e =
            let gives : List Said = step_yields said_at s n keeps in
            let gets : List Item = step_yields items_at s n keeps in
            tells_as n outs items m ((more ++ gives) ++ run_yields said_at x n replies) (more ++ (gives ++ run_yields said_at x n replies)) ((taken ++ gets) ++ run_yields items_at x n replies) (taken ++ (gets ++ run_yields items_at x n replies)) (seat_at t.seats.seats n) (seat_at t.seats.seats n) out out
            (append_assoc more gives (run_yields said_at x n replies)) (append_assoc taken gets (run_yields items_at x n replies)) refl refl
            (later x o (more ++ gives) (taken ++ gets) (joined_hears s x keeps o more at heard) (joined s x keeps text o more taken going at heard tells) e)

        go : Later → (b : Bool) → rests (seat_at s.seats.seats n) ≡ b → cond b (Some (Done s text)) (RunThen text replies (step_line s n keeps)) ≡ Some (Done t out)
            → PutsOutMore n outs items m (more ++ cond b [] (YieldsThen said_at s keeps replies (step_line s n keeps))) (taken ++ cond b [] (YieldsThen items_at s keeps replies (step_line s n keeps))) (seat_at t.seats.seats n) out
        go later true at e = halts s t text out more taken e tells
        go later false at e = by later at (step_line s n keeps) refl e

-- what comes to a connection changes nothing of what it has told
came_tells : (n : ℕ) (outs : List (List ℕ)) (items : List Item) (s t : SiteState) (seat : Seat) (become : Seat → Seat) (text : List ℕ) → ((x : Seat) → (become x).connection.stage ≡ x.connection.stage) → seat_at s.seats.seats n ≡ Some seat → SeatBecomes n s become t → text ≡ [] → HasPutOut n outs items (Some seat) []
    → PutsOutMore n outs items s.seats.manager [] [] (seat_at t.seats.seats n) text
came_tells n outs items s t seat become text keeps there comes silent told =
    let same : comes.seat ≡ seat = (let both : Some comes.seat ≡ Some seat = sym comes.was ∙ there in cc) in
    let stage : (become comes.seat).connection.stage ≡ seat.connection.stage = keeps comes.seat ∙ ap (λ (x : Seat). x.connection.stage) same in
    tells_as n outs items s.seats.manager [] [] [] [] (Some (become comes.seat)) (seat_at t.seats.seats n) [] text refl refl (sym comes.becomes) (sym silent)
    (nothing_more n outs items s.seats.manager seat (Some (become comes.seat)) [] told (subst (λ (x : Stage ActionCall). IsSent x told.sent) (sym stage) told.behind.0, refl))

-- a line tells more of a connection that is there
pub line_tells : (s t : SiteState) (line : SeatLine) (replies : List Bool) (text : List ℕ) (outs : List (List ℕ)) (items : List Item) (seat : Seat) → seat_line s line replies ≡ Some (Done t text) → seat_at s.seats.seats (number_in line) ≡ Some seat → HasPutOut (number_in line) outs items (Some seat) []
    → PutsOutMore (number_in line) outs items s.seats.manager (line_says s line replies) (line_items s line replies) (seat_at t.seats.seats (number_in line)) text
line_tells s t (lines.Conn n) replies text outs items seat is there told = absurd (let not : seat_line s (lines.Conn n) replies ≡ Some Refused = there_refused s n replies seat there in cc)
line_tells s t (lines.Bytes n bytes) replies text outs items seat is there told =
    came_tells n outs items s t seat (λ x. fed x bytes) text (λ x. refl) there (bytes_fed s t n bytes replies text is) (still_alone s t (lines.Bytes n bytes) replies text is refl).silent told
line_tells s t (lines.End n) replies text outs items seat is there told =
    came_tells n outs items s t seat ended text (λ x. refl) there (input_ended s t n replies text is) (still_alone s t (lines.End n) replies text is refl).silent told
line_tells s t (lines.Step n) [] text outs items seat is there told = absurd (cc)
line_tells s t (lines.Step n) (keeps ∷ more) text outs items seat is there told = step_tells s n keeps t text (answer_is (step_line s n keeps) t text is) outs items seat there told
line_tells s t (lines.Run n) replies text outs items seat is there told =
    run_tells n outs items s.seats.manager s t [] text [] [] replies refl
    (tells_as n outs items s.seats.manager [] [] [] [] (Some seat) (seat_at s.seats.seats n) [] [] refl refl (sym there) refl (nothing_more n outs items s.seats.manager seat (Some seat) [] told (told.behind.0, refl)))
    (run_begun s t n replies text is)
