-- The steps that turns make, one after the other; and over a boot lines about connections are taken.
use Rattle.std.proofs.Common.{◌≡◌, ◌≢◌, ℕ, ◌+◌, ◌≤◌, Bool, true, false, cond, nat_lt, List, [], ◌∷◌, ◌++◌, length, Option, Some, None, append-nil, append_assoc, arith, refl, ap, sym, subst, ◌∙◌}
use Rattle.std.specs.Prelude.{All}
use Rattle.std.proofs.lemmas.Bool.Decides.{nat_tests}
use Rattle.std.proofs.lemmas.List.Elements.{All-append, All-cons, All-head, All-nil, All-tail}
use Rattle.scenario_text.specs.Answer.{Answer, Refused, Done}
use Rattle.scenario_text.specs.Reading.{line_of}
use Rattle.scenario_text.specs.declared.line.Line.{Line}
use Rattle.scenario_text.specs.declared.line.Line.TheVariants as lines
use Rattle.scenario_text.specs.declared.line.TheConstants.{MAX_LINE_BYTES}
use Rattle.scenario_text.specs.declared.seat_line.SeatLine.{SeatLine}
use Rattle.seat_lines.specs.Lines.{step_line}
use Rattle.seat_lines.specs.Making.{StepMade, line_makes, run_makes}
use Rattle.seat_lines.specs.Runs.{rests, seat_line, steps_from}
use Rattle.seat_lines.specs.Site.{SiteState, seat_at}
use Rattle.scenario_engine.specs.Connections.{made_from, makes_to, turn_makes}
use Rattle.scenario_engine.specs.Seats.{by_replies, seat_over}
use Rattle.scenario_engine.specs.State.{RunningState, State, Running, Outcome, RefusedIn, DoneTo, UnstartedIn, UnderWayIn, site_of, with_site}
use Rattle.scenario_engine.specs.Transcript.{Turn, Ended, RefusedAt, TooLong, Unstarted, UnderWay, end_from, first, turn_outcome}

-- steps of a run are such, and so is one more behind them, if it is made
pub run_once_more : (P : StepMade → Type 0) (s t : SiteState) (n : ℕ) (replies : List Bool) (last : Bool) → steps_from s n replies ≡ Some t → All P (run_makes s n replies) → P (record { site = t; number = n; keeps = last }) → All P (run_makes s n (replies ++ last ∷ []))
run_once_more P s t n [] last is all one =
    let same : s ≡ t = cc in
    one_more (rests (seat_at s.seats.seats n)) (step_line s n last) (subst (λ (x : SiteState). P (record { site = x; number = n; keeps = last })) (sym same) one)
  where
    this : StepMade
    this = record { site = s; number = n; keeps = last }

    one_more : (b : Bool) (a : Answer SiteState) → P this → All P (cond b [] (elim a [ Refused ↦ [] | Done u out ↦ this ∷ [] ]))
    one_more true a its = All-nil P
    one_more false Refused its = All-nil P
    one_more false (Done u out) its = All-cons P this [] its (All-nil P)
run_once_more P s t n (keeps ∷ replies) last is all one =
    go (λ u on each. run_once_more P u t n replies last on each one) (rests (seat_at s.seats.seats n)) (step_line s n keeps) is all
  where
    this : StepMade
    this = record { site = s; number = n; keeps = keeps }

    go : ((u : SiteState) → steps_from u n replies ≡ Some t → All P (run_makes u n replies) → All P (run_makes u n (replies ++ last ∷ []))) → (b : Bool) (a : Answer SiteState)
        → cond b None (elim a [ Refused ↦ None | Done u out ↦ steps_from u n replies ]) ≡ Some t
        → All P (cond b [] (elim a [ Refused ↦ [] | Done u out ↦ this ∷ run_makes u n replies ]))
        → All P (cond b [] (elim a [ Refused ↦ [] | Done u out ↦ this ∷ run_makes u n (replies ++ last ∷ []) ]))
    go later true a on each = absurd (cc)
    go later false Refused on each = absurd (cc)
    go later false (Done u out) on each =
        All-cons P this (run_makes u n (replies ++ last ∷ [])) (All-head P this (run_makes u n replies) each)
        (later u on (All-tail P this (run_makes u n replies) each))

-- the steps of turns that were done, and of more behind them
pub made-more : (s t : State) (n : ℕ) (turns more : List Turn) → end_from s n turns ≡ Ended t → made_from s (turns ++ more) ≡ made_from s turns ++ made_from t more
made-more s t n [] more h = let same : s ≡ t = cc in ap (λ (u : State). made_from u more) same
made-more s t n (turn ∷ turns) more h = go (nat_lt MAX_LINE_BYTES (length turn.line)) (turn_outcome s turn) (λ u k. made-more u t (n + 1) turns more k) h
  where
    go : (long : Bool) (o : Outcome) → ((u : State) → end_from u (n + 1) turns ≡ Ended t → made_from u (turns ++ more) ≡ made_from u turns ++ made_from t more) → cond long (TooLong s n) (elim o [ RefusedIn u ↦ RefusedAt u n | DoneTo u text ↦ end_from u (n + 1) turns | UnstartedIn u r ↦ Unstarted u r | UnderWayIn u ↦ UnderWay u n ]) ≡ Ended t → cond long [] (turn_makes s turn ++ elim o [ RefusedIn u ↦ [] | DoneTo u text ↦ made_from u (turns ++ more) | UnstartedIn u r ↦ [] | UnderWayIn u ↦ [] ]) ≡ cond long [] (turn_makes s turn ++ elim o [ RefusedIn u ↦ [] | DoneTo u text ↦ made_from u turns | UnstartedIn u r ↦ [] | UnderWayIn u ↦ [] ]) ++ made_from t more
    go true o later k = absurd (cc)
    go false (RefusedIn u) later k = absurd (cc)
    go false (DoneTo u text) later k = ap (λ (xs : List StepMade). turn_makes s turn ++ xs) (later u k) ∙ sym (append_assoc (turn_makes s turn) (made_from u turns) (made_from t more))
    go false (UnstartedIn u r) later k = absurd (cc)
    go false (UnderWayIn u) later k = absurd (cc)

short_test : (line : List ℕ) → length line ≤ MAX_LINE_BYTES → nat_lt MAX_LINE_BYTES (length line) ≡ false
short_test line short = grind (arith, nat_tests)

-- the steps of one turn, however it ends
made-turn : (s : State) (turn : Turn) → length turn.line ≤ MAX_LINE_BYTES → made_from s (turn ∷ []) ≡ turn_makes s turn
made-turn s turn short = ap (λ (b : Bool). cond b [] (turn_makes s turn ++ elim (turn_outcome s turn) [ RefusedIn u ↦ [] | DoneTo u w ↦ [] | UnstartedIn u r ↦ [] | UnderWayIn u ↦ [] ])) (short_test turn.line short) ∙ go (turn_outcome s turn)
  where
    go : (o : Outcome) → turn_makes s turn ++ elim o [ RefusedIn u ↦ [] | DoneTo u w ↦ [] | UnstartedIn u r ↦ [] | UnderWayIn u ↦ [] ] ≡ turn_makes s turn
    go (RefusedIn u) = append-nil (turn_makes s turn)
    go (DoneTo u w) = append-nil (turn_makes s turn)
    go (UnstartedIn u r) = append-nil (turn_makes s turn)
    go (UnderWayIn u) = append-nil (turn_makes s turn)

-- turns that were done, and one more
pub made-push : (turns : List Turn) (turn : Turn) (s : State) → end_from first 1 turns ≡ Ended s → length turn.line ≤ MAX_LINE_BYTES → made_from first (turns ++ turn ∷ []) ≡ made_from first turns ++ turn_makes s turn
made-push turns turn s h short = made-more first s 1 turns (turn ∷ []) h ∙ ap (λ (xs : List StepMade). made_from first turns ++ xs) (made-turn s turn short)

-- steps of turns that were done are such, and so are those of one more, however it ends
pub all-push : (P : StepMade → Type 0) (s : State) (turns : List Turn) (turn : Turn) → end_from first 1 turns ≡ Ended s → length turn.line ≤ MAX_LINE_BYTES → All P (made_from first turns) → All P (turn_makes s turn) → All P (made_from first (turns ++ turn ∷ []))
all-push P s turns turn h short all last =
    subst (All P) (sym (made-push turns turn s h short)) (All-append P (made_from first turns) (turn_makes s turn) all last)

-- a turn over a boot makes the steps of its line
pub turn_made : (r : RunningState) (turn : Turn) (line : SeatLine) → line_of turn.line ≡ Some (lines.Seat line) → r.site ≡ true → turn_makes (Running r) turn ≡ line_makes (site_of r) line turn.replies.keeps
unfolding turn_makes
turn_made r turn line spells is =
    ap (λ (o : Option Line). makes_to (Running r) o turn.replies) spells
    ∙ ap (λ (b : Bool). cond b (line_makes (site_of r) line turn.replies.keeps) []) is

-- a line about connections is taken over a boot of the site
pub line_taken : (r : RunningState) (line : SeatLine) (replies : List Bool) → r.site ≡ true → seat_line (site_of r) line replies ≢ Some Refused → seat_over r line replies ≢ RefusedIn (Running r)
unfolding seat_over
line_taken r line replies is taken refused =
    go (seat_line (site_of r) line replies) taken (sym (ap (λ (b : Bool). cond b (by_replies r line replies (seat_line (site_of r) line replies)) (RefusedIn (Running r))) is) ∙ refused)
  where
    go : (o : Option (Answer SiteState)) → o ≢ Some Refused → by_replies r line replies o ≡ RefusedIn (Running r) → ⊥
    go None other e = cc
    go (Some Refused) other e = other refl
    go (Some (Done t text)) other e = cc

-- and refused over any other
pub line_bare : (r : RunningState) (line : SeatLine) (replies : List Bool) → r.site ≡ false → seat_over r line replies ≡ RefusedIn (Running r)
unfolding seat_over
line_bare r line replies is = ap (λ (b : Bool). cond b (by_replies r line replies (seat_line (site_of r) line replies)) (RefusedIn (Running r))) is

-- what is done there
pub line_done : (r : RunningState) (line : SeatLine) (replies : List Bool) (t : SiteState) (text : List ℕ) → r.site ≡ true → seat_line (site_of r) line replies ≡ Some (Done t text) → seat_over r line replies ≡ DoneTo (Running (with_site r t)) text
unfolding seat_over
line_done r line replies t text is done =
    ap (λ (b : Bool). cond b (by_replies r line replies (seat_line (site_of r) line replies)) (RefusedIn (Running r))) is
    ∙ ap (λ (o : Option (Answer SiteState)). by_replies r line replies o) done

-- the deployment stays what it is
pub line_stays : (r q : RunningState) (line : SeatLine) (replies : List Bool) (text : List ℕ) → seat_over r line replies ≡ DoneTo (Running q) text → q.site ≡ r.site
unfolding seat_over
line_stays r q line replies text is = over r.site refl is
  where
    by : (o : Option (Answer SiteState)) → by_replies r line replies o ≡ DoneTo (Running q) text → q.site ≡ r.site
    by None e = absurd (cc)
    by (Some Refused) e = absurd (cc)
    by (Some (Done t out)) e = let same : with_site r t ≡ q = cc in sym (ap (λ (x : RunningState). x.site) same)

    over : (b : Bool) → r.site ≡ b → cond b (by_replies r line replies (seat_line (site_of r) line replies)) (RefusedIn (Running r)) ≡ DoneTo (Running q) text → q.site ≡ r.site
    over true of_site e = by (seat_line (site_of r) line replies) e
    over false of_site e = absurd (cc)
