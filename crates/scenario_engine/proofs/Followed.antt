-- A connection can be followed from the line on by which it opened, turn by turn.
use Rattle.std.proofs.Common.{◌≡◌, ◌≢◌, ◌⊎◌, inl, inr, ℕ, ◌+◌, Bool, true, false, cond, nat_lt, List, [], ◌∷◌, ◌++◌, append-nil, append_assoc, length, length-append, Option, Some, None, refl, sym, ap, ◌∙◌, subst}
use Rattle.std.specs.Prelude.{nat_eq}
use Rattle.std.proofs.lemmas.Bool.{eq-eqb, ne_eqb}
use Rattle.std.proofs.lemmas.List.Concat.{flat_map-append}
use Rattle.std.proofs.lemmas.List.Elements.{All-nil, All-push, filter-append}
use Rattle.request_decisions.specs.declared.draws.Draw.{Draw}
use Rattle.scenario_text.specs.Reading.{line_of}
use Rattle.scenario_text.specs.declared.line.Line.{Line}
use Rattle.scenario_text.specs.declared.line.Line.TheVariants as lines
use Rattle.scenario_text.specs.declared.line.TheConstants.{MAX_LINE_BYTES}
use Rattle.scenario_text.specs.declared.seat_line.SeatLine.{SeatLine}
use Rattle.scenario_text.specs.declared.seat_line.SeatLine.TheVariants as seats
use Rattle.seat_laws.specs.Serving.{DrewNext}
use Rattle.seat_lines.proofs.Making.{made_of_one}
use Rattle.seat_lines.specs.Changing.{number_in}
use Rattle.seat_lines.specs.Making.{StepMade, line_makes}
use Rattle.seat_lines.specs.Responding.{bytes_by}
use Rattle.seat_lines.specs.Site.{seat_at}
use Rattle.seat_steps.specs.Seats.{SeatWorld}
use Rattle.seat_steps.specs.declared.seat.Seat.{Seat}
use Rattle.shepherd.specs.Shepherds.{turn as turn_of}
use Rattle.shepherd.specs.declared.shepherd.EndKind.{EndKind}
use Rattle.shepherd.specs.declared.shepherd.ShepherdTurn.TheVariants as at_turn
use Rattle.scenario_engine.specs.Connections.{made_from, makes_to, turn_makes}
use Rattle.scenario_engine.specs.Serving.{Connection, DrawsBetween, IsOf, IsServed, LeaveBoot, StaysWith, WentBy, bytes_fed, bytes_in, bytes_of, its_steps, steps_of}
use Rattle.scenario_engine.specs.State.{RunningState, State, Running, Outcome, RefusedIn, DoneTo, UnstartedIn, UnderWayIn, site_of}
use Rattle.scenario_engine.specs.Transcript.{Turn, End, Ended, RefusedAt, TooLong, Unstarted, UnderWay, end_from, first, turn_outcome}
use Rattle.scenario_engine.proofs.ServedLines.{all-its, none-its}
use Rattle.scenario_engine.proofs.StepsMade.{made-more, turn_made}
use Rattle.scenario_engine.proofs.Turns.{end_from-more}

-- where a connection opens
pub opened-by : (before : List Turn) (opening : Turn) (n : ℕ) (r : RunningState) → line_of opening.line ≡ Some (lines.Seat (seats.Conn n)) → end_from first 1 (before ++ opening ∷ []) ≡ Ended (Running r)
    → (c : Connection (before ++ opening ∷ [])) × (c.number ≡ n) × (c.opened ≡ r) × (c.last ≡ r) × (bytes_fed c ≡ []) × (its_steps c ≡ [])
opened-by before opening n r spells done =
    let c : Connection (before ++ opening ∷ []) = record {
      number = n;
      before = before;
      opening = opening;
      more = [];
      rest = [];
      turns_are = refl;
      opens = spells;
      opened = r;
      done = done;
      stays = All-nil (StaysWith n);
      last = r;
      leaves = inl done;
    } in
    (c, refl, refl, refl, refl, refl)

-- the steps of one turn that was done, or is under way
made-one : (s t : State) (k m : ℕ) (turn : Turn) → (end_from s k (turn ∷ []) ≡ Ended t) ⊎ (end_from s k (turn ∷ []) ≡ UnderWay t m) → made_from s (turn ∷ []) ≡ turn_makes s turn
made-one s t k m turn = go (nat_lt MAX_LINE_BYTES (length turn.line)) (turn_outcome s turn)
  where
    Is : End → Type 0
    Is e = (e ≡ Ended t) ⊎ (e ≡ UnderWay t m)

    go : (long : Bool) (o : Outcome) → Is (cond long (TooLong s k) (elim o [ RefusedIn u ↦ RefusedAt u k | DoneTo u text ↦ Ended u | UnstartedIn u cause ↦ Unstarted u cause | UnderWayIn u ↦ UnderWay u k ]))
        → cond long [] (turn_makes s turn ++ elim o [ RefusedIn u ↦ [] | DoneTo u text ↦ [] | UnstartedIn u cause ↦ [] | UnderWayIn u ↦ [] ]) ≡ turn_makes s turn
    go true o (inl e) = absurd (cc)
    go true o (inr e) = absurd (cc)
    go false (RefusedIn u) e = append-nil (turn_makes s turn)
    go false (DoneTo u text) e = append-nil (turn_makes s turn)
    go false (UnstartedIn u cause) e = append-nil (turn_makes s turn)
    go false (UnderWayIn u) e = append-nil (turn_makes s turn)

-- one turn more was done and left this boot, or is under way there
abbrev pub LeavesBy : List Turn → Turn → RunningState → Type 0
LeavesBy turns turn q = (end_from first 1 (turns ++ turn ∷ []) ≡ Ended (Running q)) ⊎ (end_from first 1 (turns ++ turn ∷ []) ≡ UnderWay (Running q) (length turns + 1))

so-leave : (turns : List Turn) (turn : Turn) (q : RunningState) → LeavesBy turns turn q → LeaveBoot (turns ++ turn ∷ []) q
so-leave turns turn q (inl done) = inl done
so-leave turns turn q (inr way) = inr (subst (λ (m : ℕ). end_from first 1 (turns ++ turn ∷ []) ≡ UnderWay (Running q) m) (sym (length-append turns (turn ∷ []))) way)

module _ (turns : List Turn) (turn : Turn) (c : Connection turns) (r q : RunningState) (none : c.rest ≡ []) (there : end_from first 1 turns ≡ Ended (Running r)) (stays : StaysWith c.number turn) (leaves : LeavesBy turns turn q) where
  abbrev More : List Turn
  More = c.more ++ turn ∷ []

  abbrev Opened : List Turn
  Opened = c.before ++ c.opening ∷ []

  all-are : turns ≡ c.before ++ c.opening ∷ c.more
  all-are = c.turns_are ∙ (ap (λ (xs : List Turn). c.before ++ c.opening ∷ (c.more ++ xs)) none ∙ ap (λ (xs : List Turn). c.before ++ c.opening ∷ xs) (append-nil c.more))

  more-are : turns ++ turn ∷ [] ≡ c.before ++ c.opening ∷ More
  more-are = ap (λ (xs : List Turn). xs ++ turn ∷ []) all-are ∙ append_assoc c.before (c.opening ∷ c.more) (turn ∷ [])

  -- the same connection, behind one more turn
  follow : Connection (turns ++ turn ∷ [])
  follow = record {
    number = c.number;
    before = c.before;
    opening = c.opening;
    more = More;
    rest = [];
    turns_are = more-are ∙ ap (λ (xs : List Turn). c.before ++ c.opening ∷ xs) (sym (append-nil More));
    opens = c.opens;
    opened = c.opened;
    done = c.done;
    stays = All-push (StaysWith c.number) c.more turn c.stays stays;
    last = q;
    leaves = subst (λ (xs : List Turn). LeaveBoot xs q) more-are (so-leave turns turn q leaves);
  }

  fed-more : bytes_in c.number More ≡ bytes_in c.number c.more ++ bytes_of c.number (line_of turn.line)
  fed-more =
      flat_map-append (λ (x : Turn). bytes_of c.number (line_of x.line)) c.more (turn ∷ [])
      ∙ ap (λ (xs : List ℕ). bytes_in c.number c.more ++ xs) (append-nil (bytes_of c.number (line_of turn.line)))

  made-more-by : made_from (Running c.opened) More ≡ made_from (Running c.opened) c.more ++ turn_makes (Running r) turn
  made-more-by =
      let on : end_from (Running c.opened) (1 + length Opened) c.more ≡ Ended (Running r) =
      sym (end_from-more first (Running c.opened) 1 Opened c.more c.done)
      ∙ (ap (λ (xs : List Turn). end_from first 1 xs) (append_assoc c.before (c.opening ∷ []) c.more ∙ sym all-are) ∙ there) in
      made-more (Running c.opened) (Running r) (1 + length Opened) c.more (turn ∷ []) on
      ∙ ap (λ (xs : List StepMade). made_from (Running c.opened) c.more ++ xs) (last leaves)
    where
      behind : end_from first 1 (turns ++ turn ∷ []) ≡ end_from (Running r) (1 + length turns) (turn ∷ [])
      behind = end_from-more first (Running r) 1 turns (turn ∷ []) there

      last : LeavesBy turns turn q → made_from (Running r) (turn ∷ []) ≡ turn_makes (Running r) turn
      last (inl done) = made-one (Running r) (Running q) (1 + length turns) (length turns + 1) turn (inl (sym behind ∙ done))
      last (inr way) = made-one (Running r) (Running q) (1 + length turns) (length turns + 1) turn (inr (sym behind ∙ way))

  -- It follows by just what the turn brings it.
  pub follows-by : (d : Connection (turns ++ turn ∷ [])) × (d.number ≡ c.number) × (d.opened ≡ c.opened) × (d.last ≡ q)
      × (bytes_fed d ≡ bytes_fed c ++ bytes_of c.number (line_of turn.line)) × (its_steps d ≡ its_steps c ++ steps_of c.number (turn_makes (Running r) turn))
  unfolding follow
  follows-by = (
    follow,
    refl,
    refl,
    refl,
    fed-more,
    ap (λ (xs : List StepMade). steps_of c.number xs) made-more-by ∙ filter-append (λ (x : StepMade). nat_eq x.number c.number) (made_from (Running c.opened) c.more) (turn_makes (Running r) turn),
  )

-- It stays as far as it had come, whatever turns follow.
pub stays-on : (turns more : List Turn) (c : Connection turns) → (d : Connection (turns ++ more)) × (d.number ≡ c.number) × (d.opened ≡ c.opened) × (d.last ≡ c.last) × (bytes_fed d ≡ bytes_fed c) × (its_steps d ≡ its_steps c)
stays-on turns more c =
    let d : Connection (turns ++ more) = record {
      number = c.number;
      before = c.before;
      opening = c.opening;
      more = c.more;
      rest = c.rest ++ more;
      turns_are = ap (λ (xs : List Turn). xs ++ more) c.turns_are
          ∙ (append_assoc c.before (c.opening ∷ (c.more ++ c.rest)) more
          ∙ ap (λ (xs : List Turn). c.before ++ c.opening ∷ xs) (append_assoc c.more c.rest more));
      opens = c.opens;
      opened = c.opened;
      done = c.done;
      stays = c.stays;
      last = c.last;
      leaves = c.leaves;
    } in
    (d, refl, refl, refl, refl, refl)

-- which connection has served
pub whose-is : (turns : List Turn) (c : Connection turns) (it : IsServed c) (seat : Seat) → seat_at c.last.seats.seats c.number ≡ Some seat → it.connection ≡ seat.connection
whose-is turns c it seat is = subst (λ (o : Option Seat). IsOf (its_steps c) o it.connection) is it.is_of

pub gone-is : (turns : List Turn) (c : Connection turns) (it : IsServed c) → seat_at c.last.seats.seats c.number ≡ None → (end : EndKind) × (turn_of it.connection ≡ at_turn.Ended end)
gone-is turns c it none = go went
  where
    went : WentBy (its_steps c) it.connection
    went = subst (λ (o : Option Seat). IsOf (its_steps c) o it.connection) none it.is_of

    go : WentBy (its_steps c) it.connection → (end : EndKind) × (turn_of it.connection ≡ at_turn.Ended end)
    go w = (w.end, w.ended)

-- what a step drew was next
not-empty : (before behind : List Draw) (x : Draw) → [] ≡ before ++ x ∷ behind → ⊥
not-empty [] behind x is = absurd (cc)
not-empty (y ∷ before) behind x is = absurd (cc)

pub drew-next : (moved : Bool) (w after : SeatWorld) (drawn before behind : List Draw) (x : Draw) → DrawsBetween moved w drawn after → drawn ≡ before ++ x ∷ behind → DrewNext w (before ++ x ∷ behind) after
drew-next true w after drawn before behind x drew is = subst (λ (xs : List Draw). DrewNext w xs after) is drew
drew-next false w after drawn before behind x drew is = absurd (not-empty before behind x (sym drew ∙ is))

-- what its own line brings it
pub own-line-brings : (r : RunningState) (turn : Turn) (line : SeatLine) → line_of turn.line ≡ Some (lines.Seat line) → r.site ≡ true
    → (bytes_of (number_in line) (line_of turn.line) ≡ bytes_by line) × (steps_of (number_in line) (turn_makes (Running r) turn) ≡ line_makes (site_of r) line turn.replies.keeps)
own-line-brings r turn line spells site = (
  ap (λ (o : Option Line). bytes_of (number_in line) o) spells ∙ ap (λ (b : Bool). cond b (bytes_by line) []) (eq-eqb (number_in line) (number_in line) refl),
  ap (λ (xs : List StepMade). steps_of (number_in line) xs) (turn_made r turn line spells site)
      ∙ all-its (number_in line) (line_makes (site_of r) line turn.replies.keeps) (made_of_one (site_of r) line turn.replies.keeps),
)

-- and what any other one does not
pub others-bring-none : (r : RunningState) (turn : Turn) (n : ℕ) → ((line : SeatLine) → line_of turn.line ≡ Some (lines.Seat line) → n ≢ number_in line)
    → (bytes_of n (line_of turn.line) ≡ []) × (steps_of n (turn_makes (Running r) turn) ≡ [])
unfolding turn_makes
others-bring-none r turn n other = go (line_of turn.line) other
  where
    seat : (line : SeatLine) → n ≢ number_in line → (site : Bool) → steps_of n (cond site (line_makes (site_of r) line turn.replies.keeps) []) ≡ []
    seat line not true = none-its n (number_in line) (line_makes (site_of r) line turn.replies.keeps) not (made_of_one (site_of r) line turn.replies.keeps)
    seat line not false = refl

    go : (o : Option Line) → ((line : SeatLine) → o ≡ Some (lines.Seat line) → n ≢ number_in line) → (bytes_of n o ≡ []) × (steps_of n (makes_to (Running r) o turn.replies) ≡ [])
    go None not = (refl, refl)
    go (Some lines.Pass) not = (refl, refl)
    go (Some (lines.Head line)) not = (refl, refl)
    go (Some (lines.Call caller line)) not = (refl, refl)
    go (Some (lines.Commit caller)) not = (refl, refl)
    go (Some (lines.Boot line)) not = (refl, refl)
    go (Some lines.Reopen) not = (refl, refl)
    go (Some (lines.Session line)) not = (refl, refl)
    go (Some (lines.Seat line)) not = (
      ap (λ (b : Bool). cond b (bytes_by line) []) (ne_eqb (number_in line) n (λ same. not line refl (sym same))),
      seat line (not line refl) r.site,
    )
