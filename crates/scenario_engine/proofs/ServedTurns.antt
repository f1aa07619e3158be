-- Over all turns a connection has served its requests, from the line on by which it opened.
use Rattle.std.proofs.Common.{◌≡◌, ◌⊎◌, inl, inr, ℕ, suc, ◌+◌, Bool, true, false, cond, nat_lt, List, [], ◌∷◌, ◌++◌, append-nil, append_assoc, length, length-append, Option, Some, refl, sym, ap, ◌∙◌, subst, arith}
use Rattle.std.specs.Prelude.{All, nat_eq}
use Rattle.std.proofs.lemmas.List.Elements.{All-head, All-tail, filter-append}
use Rattle.auction_calls.specs.declared.action.ActionCall.{ActionCall}
use Rattle.boot_core.specs.Boot.{BootValue}
use Rattle.container_core.specs.declared.history.Event.{Event}
use Rattle.crash_base.specs.declared.numbers.Moment.{Moment}
use Rattle.outcome_items.specs.declared.item.Item.{Item}
use Rattle.scenario_text.proofs.Cuts.{all_left}
use Rattle.scenario_text.specs.Answer.{Answer, Refused, Done, within}
use Rattle.scenario_text.specs.Reading.{line_of}
use Rattle.scenario_text.specs.declared.line.Line.{Line}
use Rattle.scenario_text.specs.declared.line.Line.TheVariants as lines
use Rattle.scenario_text.specs.declared.line.TheConstants.{MAX_LINE_BYTES}
use Rattle.scenario_text.specs.declared.seat_line.SeatLine.TheVariants as seats
use Rattle.seat_laws.specs.Serving.{Course, SeatServes}
use Rattle.seat_lines.specs.Lines.{conn_line}
use Rattle.seat_lines.specs.Making.{StepMade, WasMade}
use Rattle.seat_lines.specs.Site.{SiteState, seat_at}
use Rattle.seat_steps.specs.Gone.{seat_gone}
use Rattle.seat_steps.specs.declared.seat.Seat.{Seat}
use Rattle.session_lanes.specs.Lanes.{LanesState}
use Rattle.shepherd.specs.declared.shepherd.Shepherd.{Shepherd}
use Rattle.scenario_engine.specs.Connections.{made_from, turn_makes}
use Rattle.scenario_engine.specs.Engine.{Replies, Target, TheBoot, TheHead, TheUnstarted, line_on, step, target_of}
use Rattle.scenario_engine.specs.Hearing.{AllMade}
use Rattle.scenario_engine.specs.Seats.{in_boot, seat_over}
use Rattle.scenario_engine.specs.Serving.{AllServed, Connection, HasServed, IsServed, LeaveBoot, StaysWith, bytes_fed, bytes_in, bytes_of, course_of, its_steps, steps_of}
use Rattle.scenario_engine.specs.State.{RunningState, State, Running, Outcome, RefusedIn, DoneTo, UnstartedIn, UnderWayIn, site_of, with_site}
use Rattle.scenario_engine.specs.Transcript.{Turn, End, Ended, RefusedAt, TooLong, Unstarted, UnderWay, answer_to, end_from, first, turn_outcome}
use Rattle.scenario_engine.proofs.ServedLines.{ServedTo, any-turn}
use Rattle.scenario_engine.proofs.ServedSteps.{ServeLaws, is-there, served-opens}
use Rattle.scenario_engine.proofs.StepsMade.{made-more}
use Rattle.scenario_engine.proofs.Turns.{end_from-more}

-- what holds of each of two lists together holds of each behind the first
all-right : {A : Type 0} (P : A → Type 0) (xs ys : List A) → All P (xs ++ ys) → All P ys
all-right P [] ys all = all
all-right P (x ∷ xs) ys all = all-right P xs ys (All-tail P x (xs ++ ys) all)

-- turns end so in this boot: they were done, or the last one is under way, whose number is one less than this
abbrev EndsIn : End → ℕ → RunningState → Type 0
EndsIn e past q = (e ≡ Ended (Running q)) ⊎ ((number : ℕ) × (number + 1 ≡ past) × (e ≡ UnderWay (Running q) number))

none-behind : {A : Type 0} (xs : List A) (k m : ℕ) → k ≡ m → m + 1 ≡ k + suc (length xs) → xs ≡ []
none-behind [] k m same sum = refl
none-behind (x ∷ xs) k m same sum = absurd (omega (arith, same, sum))

-- how the turns of a connection end, behind the line by which it opened
ends-in : (turns : List Turn) (c : Connection turns) → EndsIn (end_from (Running c.opened) (1 + length (c.before ++ c.opening ∷ [])) c.more) (1 + length (c.before ++ c.opening ∷ []) + length c.more) c.last
ends-in turns c = go c.leaves
  where
    opened : List Turn
    opened = c.before ++ c.opening ∷ []

    split : c.before ++ c.opening ∷ c.more ≡ opened ++ c.more
    split = sym (append_assoc c.before (c.opening ∷ []) c.more)

    on : end_from first 1 (c.before ++ c.opening ∷ c.more) ≡ end_from (Running c.opened) (1 + length opened) c.more
    on = ap (λ (xs : List Turn). end_from first 1 xs) split ∙ end_from-more first (Running c.opened) 1 opened c.more c.done

    count : length (c.before ++ c.opening ∷ c.more) + 1 ≡ 1 + length opened + length c.more
    count = (let all : length (c.before ++ c.opening ∷ c.more) ≡ length opened + length c.more = ap length split ∙ length-append opened c.more in omega (arith, all))

    go : LeaveBoot (c.before ++ c.opening ∷ c.more) c.last → EndsIn (end_from (Running c.opened) (1 + length opened) c.more) (1 + length opened + length c.more) c.last
    go (inl ended) = inl (sym on ∙ ended)
    go (inr way) = inr (length (c.before ++ c.opening ∷ c.more), count, sym on ∙ way)

module _ (laws : ServeLaws) (n : ℕ) (from : SiteState) where
  -- Behind turns in the same boot the connection has served.
  pub served-turns : (more : List Turn) (r : RunningState) (k : ℕ) (bytes : List ℕ) (steps : List StepMade) (q : RunningState) → HasServed n from bytes steps (site_of r) → All (StaysWith n) more → All WasMade (made_from (Running r) more)
      → EndsIn (end_from (Running r) k more) (k + length more) q → HasServed n from (bytes ++ bytes_in n more) (steps ++ steps_of n (made_from (Running r) more)) (site_of q)
  served-turns [] r k bytes steps q its stays made (inl ends) =
      let same : r ≡ q = cc in
      subst (λ (x : RunningState). HasServed n from (bytes ++ []) (steps ++ []) (site_of x)) same
      (subst (λ (x : List ℕ). HasServed n from x (steps ++ []) (site_of r)) (sym (append-nil bytes)) (subst (λ (x : List StepMade). HasServed n from bytes x (site_of r)) (sym (append-nil steps)) its))
  served-turns [] r k bytes steps q its stays made (inr (m, sum, ends)) = absurd (cc)
  served-turns (turn ∷ more) r k bytes steps q its stays made ends =
      go (λ t b xs here all at. served-turns more t (k + 1) b xs q here (All-tail (StaysWith n) turn more stays) all at) (nat_lt MAX_LINE_BYTES (length turn.line)) (turn_outcome (Running r) turn)
      (any-turn laws n from r bytes steps its turn (All-head (StaysWith n) turn more stays)) made ends
    where
      Made : List StepMade
      Made = turn_makes (Running r) turn

      Now : List ℕ
      Now = bytes_of n (line_of turn.line)

      Goal : List StepMade → Type 0
      Goal later = HasServed n from (bytes ++ (Now ++ bytes_in n more)) (steps ++ steps_of n (Made ++ later)) (site_of q)

      -- these bytes and steps, and those of later turns
      joined : (later : List StepMade) → HasServed n from ((bytes ++ Now) ++ bytes_in n more) ((steps ++ steps_of n Made) ++ steps_of n later) (site_of q) → Goal later
      joined later h =
          subst (λ (x : List ℕ). HasServed n from x (steps ++ steps_of n (Made ++ later)) (site_of q)) (append_assoc bytes Now (bytes_in n more))
          (subst (λ (x : List StepMade). HasServed n from ((bytes ++ Now) ++ bytes_in n more) x (site_of q))
          (append_assoc steps (steps_of n Made) (steps_of n later) ∙ ap (λ (x : List StepMade). steps ++ x) (sym (filter-append (λ (x : StepMade). nat_eq x.number n) Made later))) h)

      Later : Type 0
      Later = (t : RunningState) (b : List ℕ) (xs : List StepMade) → HasServed n from b xs (site_of t) → All WasMade (made_from (Running t) more) → EndsIn (end_from (Running t) (k + 1) more) (k + 1 + length more) q
          → HasServed n from (b ++ bytes_in n more) (xs ++ steps_of n (made_from (Running t) more)) (site_of q)

      number-on : (P : ℕ → Type 0) → P (k + suc (length more)) → P (k + 1 + length more)
      number-on P h = (let same : k + suc (length more) ≡ k + 1 + length more = omega arith in subst P same h)

      done : Later → (t : State) → (u : RunningState) → t ≡ Running u → HasServed n from (bytes ++ Now) (steps ++ steps_of n Made) (site_of u) → All WasMade (made_from t more) → EndsIn (end_from t (k + 1) more) (k + suc (length more)) q → Goal (made_from t more)
      done later t u is here all at =
          joined (made_from t more)
          (subst (λ (x : State). HasServed n from ((bytes ++ Now) ++ bytes_in n more) ((steps ++ steps_of n Made) ++ steps_of n (made_from x more)) (site_of q)) (sym is)
          (later u (bytes ++ Now) (steps ++ steps_of n Made) here (subst (λ (x : State). All WasMade (made_from x more)) is all)
          (number-on (λ (p : ℕ). EndsIn (end_from (Running u) (k + 1) more) p q) (subst (λ (x : State). EndsIn (end_from x (k + 1) more) (k + suc (length more)) q) is at))))

      stopped : (t : State) → (u : RunningState) → t ≡ Running u → HasServed n from (bytes ++ Now) (steps ++ steps_of n Made) (site_of u) → EndsIn (UnderWay t k) (k + suc (length more)) q → Goal []
      stopped t u is here (inl e) = absurd (cc)
      stopped t u is here (inr (m, sum, e)) =
          let same : u ≡ q = (let running : Running u ≡ Running q = (let left : t ≡ Running q = cc in sym is ∙ left) in cc) in
          let number : k ≡ m = cc in
          let last : more ≡ [] = none-behind more k m number sum in
          joined [] (subst (λ (x : List Turn). HasServed n from ((bytes ++ Now) ++ bytes_in n x) ((steps ++ steps_of n Made) ++ []) (site_of q)) (sym last)
          (subst (λ (x : RunningState). HasServed n from ((bytes ++ Now) ++ []) ((steps ++ steps_of n Made) ++ []) (site_of x)) same
          (subst (λ (x : List ℕ). HasServed n from x ((steps ++ steps_of n Made) ++ []) (site_of u)) (sym (append-nil (bytes ++ Now)))
          (subst (λ (x : List StepMade). HasServed n from (bytes ++ Now) x (site_of u)) (sym (append-nil (steps ++ steps_of n Made))) here))))

      go : Later → (long : Bool) (o : Outcome) → (All WasMade Made → ServedTo laws n from (bytes ++ Now) (steps ++ steps_of n Made) o)
          → All WasMade (cond long [] (Made ++ elim o [ RefusedIn t ↦ [] | DoneTo t text ↦ made_from t more | UnstartedIn t cause ↦ [] | UnderWayIn t ↦ [] ]))
          → EndsIn (cond long (TooLong (Running r) k) (elim o [ RefusedIn t ↦ RefusedAt t k | DoneTo t text ↦ end_from t (k + 1) more | UnstartedIn t cause ↦ Unstarted t cause | UnderWayIn t ↦ UnderWay t k ])) (k + suc (length more)) q
          → HasServed n from (bytes ++ (Now ++ bytes_in n more)) (steps ++ steps_of n (cond long [] (Made ++ elim o [ RefusedIn t ↦ [] | DoneTo t text ↦ made_from t more | UnstartedIn t cause ↦ [] | UnderWayIn t ↦ [] ]))) (site_of q)
      go later true o served all (inl e) = absurd (cc)
      go later true o served all (inr (m, sum, e)) = absurd (cc)
      go later false (RefusedIn t) served all (inl e) = absurd (cc)
      go later false (RefusedIn t) served all (inr (m, sum, e)) = absurd (cc)
      go later false (DoneTo t text) served all at =
          let here = served (all_left WasMade Made (made_from t more) all) in
          done later t here.0 here.1 here.2 (all-right WasMade Made (made_from t more) all) at
      go later false (UnstartedIn t cause) served all (inl e) = absurd (cc)
      go later false (UnstartedIn t cause) served all (inr (m, sum, e)) = absurd (cc)
      go later false (UnderWayIn t) served all at =
          let here = served (all_left WasMade Made [] all) in
          stopped t here.0 here.1 here.2 at

-- The last of turns that were done was done, over what the others left.
pub record LastDone (turns : List Turn) (turn : Turn) (s t : State) : Type 0 where
  pub mid : State
  pub text : List ℕ
  pub last : turn_outcome mid turn ≡ DoneTo t text

pub last-done : (turns : List Turn) (turn : Turn) (s t : State) (k : ℕ) → end_from s k (turns ++ turn ∷ []) ≡ Ended t → LastDone turns turn s t
last-done [] turn s t k ends = go (nat_lt MAX_LINE_BYTES (length turn.line)) (turn_outcome s turn) refl ends
  where
    go : (long : Bool) (o : Outcome) → turn_outcome s turn ≡ o → cond long (TooLong s k) (elim o [ RefusedIn u ↦ RefusedAt u k | DoneTo u text ↦ Ended u | UnstartedIn u cause ↦ Unstarted u cause | UnderWayIn u ↦ UnderWay u k ]) ≡ Ended t → LastDone [] turn s t
    go true o is e = absurd (cc)
    go false (RefusedIn u) is e = absurd (cc)
    go false (DoneTo u text) is e = let same : u ≡ t = cc in record { mid = s; text = text; last = is ∙ ap (λ (x : State). DoneTo x text) same }
    go false (UnstartedIn u cause) is e = absurd (cc)
    go false (UnderWayIn u) is e = absurd (cc)
last-done (x ∷ turns) turn s t k ends = go (λ u e. last-done turns turn u t (k + 1) e) (nat_lt MAX_LINE_BYTES (length x.line)) (turn_outcome s x) ends
  where
    go : ((u : State) → end_from u (k + 1) (turns ++ turn ∷ []) ≡ Ended t → LastDone turns turn u t) → (long : Bool) (o : Outcome)
        → cond long (TooLong s k) (elim o [ RefusedIn u ↦ RefusedAt u k | DoneTo u text ↦ end_from u (k + 1) (turns ++ turn ∷ []) | UnstartedIn u cause ↦ Unstarted u cause | UnderWayIn u ↦ UnderWay u k ]) ≡ Ended t → LastDone (x ∷ turns) turn s t
    go later true o e = absurd (cc)
    go later false (RefusedIn u) e = absurd (cc)
    go later false (DoneTo u text) e = (let there : LastDone turns turn u t = later u e in record { mid = there.mid; text = there.text; last = there.last })
    go later false (UnstartedIn u cause) e = absurd (cc)
    go later false (UnderWayIn u) e = absurd (cc)

-- the steps of turns begin those of more
made-begins : (s : State) (turns more : List Turn) → (later : List StepMade) × (made_from s (turns ++ more) ≡ made_from s turns ++ later)
made-begins s [] more = (made_from s more, refl)
made-begins s (turn ∷ turns) more = go (nat_lt MAX_LINE_BYTES (length turn.line)) (turn_outcome s turn) (λ u. made-begins u turns more)
  where
    go : (long : Bool) (o : Outcome) → ((u : State) → (later : List StepMade) × (made_from u (turns ++ more) ≡ made_from u turns ++ later))
        → (later : List StepMade) × (cond long [] (turn_makes s turn ++ elim o [ RefusedIn u ↦ [] | DoneTo u text ↦ made_from u (turns ++ more) | UnstartedIn u r ↦ [] | UnderWayIn u ↦ [] ])
        ≡ cond long [] (turn_makes s turn ++ elim o [ RefusedIn u ↦ [] | DoneTo u text ↦ made_from u turns | UnstartedIn u r ↦ [] | UnderWayIn u ↦ [] ]) ++ later)
    go true o begins = ([], refl)
    go false (RefusedIn u) begins = ([], sym (append-nil (turn_makes s turn ++ [])))
    go false (DoneTo u text) begins =
        let rest : (later : List StepMade) × (made_from u (turns ++ more) ≡ made_from u turns ++ later) = begins u in
        (rest.0, ap (λ (xs : List StepMade). turn_makes s turn ++ xs) rest.1 ∙ sym (append_assoc (turn_makes s turn) (made_from u turns) rest.0))
    go false (UnstartedIn u cause) begins = ([], sym (append-nil (turn_makes s turn ++ [])))
    go false (UnderWayIn u) begins = ([], sym (append-nil (turn_makes s turn ++ [])))

-- the law of connections that are given up
abbrev pub GoneLaw : Type 0
GoneLaw = (key : List ℕ) (boot : BootValue) (since : List Event) (now : Moment) (c : Course) (seat : Seat) (st : LanesState) (i : Item) → (seat_gone seat st).item ≡ Some i → SeatServes key boot since now c seat.connection
    → (after : Shepherd ActionCall) × SeatServes key boot since now (record c { items = c.items ++ i ∷ [] }) after

module _ (laws : ServeLaws) where
  -- A connection has just opened.
  opens-seat : (r q : RunningState) (n : ℕ) (replies : List Bool) (text : List ℕ) → seat_over r (seats.Conn n) replies ≡ DoneTo (Running q) text → HasServed n (site_of q) [] [] (site_of q)
  unfolding seat_over
  opens-seat r q n replies text is = over r.site is
    where
      at : (a : Answer SiteState) → conn_line (site_of r) n ≡ a → in_boot r (within (with_site r) a) ≡ DoneTo (Running q) text → HasServed n (site_of q) [] [] (site_of q)
      at Refused here e = absurd (cc)
      at (Done v out) here e =
          let same : with_site r v ≡ q = cc in
          subst (λ (x : RunningState). HasServed n (site_of x) [] [] (site_of x)) same (served-opens laws (site_of r) v n replies out (ap (λ (a : Answer SiteState). Some a) here))

      over : (site : Bool) → cond site (in_boot r (within (with_site r) (conn_line (site_of r) n))) (RefusedIn (Running r)) ≡ DoneTo (Running q) text → HasServed n (site_of q) [] [] (site_of q)
      over true e = at (conn_line (site_of r) n) refl e
      over false e = absurd (cc)

  opens-on : (target : Target) (q : RunningState) (n : ℕ) (replies : Replies) (text : List ℕ) → line_on target (lines.Seat (seats.Conn n)) replies ≡ DoneTo (Running q) text → HasServed n (site_of q) [] [] (site_of q)
  opens-on (TheHead head) q n replies text is = absurd (cc)
  opens-on (TheBoot r) q n replies text is = opens-seat r q n replies.keeps text is
  opens-on (TheUnstarted head cause) q n replies text is = absurd (cc)

  opens-turn : (s : State) (turn : Turn) (q : RunningState) (n : ℕ) (text : List ℕ) → line_of turn.line ≡ Some (lines.Seat (seats.Conn n)) → turn_outcome s turn ≡ DoneTo (Running q) text → HasServed n (site_of q) [] [] (site_of q)
  unfolding turn_outcome step
  opens-turn s turn q n text spells is =
      let answers : answer_to s (Some (lines.Seat (seats.Conn n))) turn.replies ≡ DoneTo (Running q) text = ap (λ (o : Option Line). answer_to s o turn.replies) (sym spells) ∙ is in
      opens-on (target_of s true turn.replies.first) q n turn.replies text answers

  -- Each connection of a scenario has served.
  pub all-served : (turns : List Turn) → AllMade first turns → AllServed turns
  all-served turns made c =
      let opened : List Turn = c.before ++ c.opening ∷ [] in
      let split : (more : List Turn) → c.before ++ c.opening ∷ more ≡ opened ++ more = λ more. sym (append_assoc c.before (c.opening ∷ []) more) in
      let last : LastDone c.before c.opening first (Running c.opened) = last-done c.before c.opening first (Running c.opened) 1 c.done in
      let begins : HasServed c.number (site_of c.opened) [] [] (site_of c.opened) = opens-turn last.mid c.opening c.opened c.number last.text c.opens last.last in
      let all : All WasMade (made_from first (opened ++ (c.more ++ c.rest))) = subst (λ (xs : List Turn). All WasMade (made_from first xs)) (c.turns_are ∙ split (c.more ++ c.rest)) made in
      let later : All WasMade (made_from (Running c.opened) (c.more ++ c.rest)) =
      all-right WasMade (made_from first opened) (made_from (Running c.opened) (c.more ++ c.rest))
      (subst (All WasMade) (made-more first (Running c.opened) 1 opened (c.more ++ c.rest) c.done) all) in
      let more : (later : List StepMade) × (made_from (Running c.opened) (c.more ++ c.rest) ≡ made_from (Running c.opened) c.more ++ later) = made-begins (Running c.opened) c.more c.rest in
      let its : All WasMade (made_from (Running c.opened) c.more) = all_left WasMade (made_from (Running c.opened) c.more) more.0 (subst (All WasMade) more.1 later) in
      served-turns laws c.number (site_of c.opened) c.more c.opened (1 + length opened) [] [] c.last begins c.stays its (ends-in turns c)

-- The item that is left of a connection that is given up joins its items.
pub given-up : GoneLaw → (turns : List Turn) (c : Connection turns) (it : IsServed c) (seat : Seat) (st : LanesState) (i : Item) → seat_at c.last.seats.seats c.number ≡ Some seat → (seat_gone seat st).item ≡ Some i
    → (let course = course_of (site_of c.opened) (bytes_fed c) it.draws in (after : Shepherd ActionCall) × SeatServes c.last.sessions.key c.last.boot c.last.since c.last.sessions.moment (record course { items = course.items ++ i ∷ [] }) after)
given-up gone turns c it seat st i there is =
    let course : Course = course_of (site_of c.opened) (bytes_fed c) it.draws in
    gone c.last.sessions.key c.last.boot c.last.since c.last.sessions.moment course seat st i is
    (subst (λ (x : Shepherd ActionCall). SeatServes c.last.sessions.key c.last.boot c.last.since c.last.sessions.moment course x) (is-there (its_steps c) (seat_at c.last.seats.seats c.number) seat it.connection there it.is_of) it.serves)
