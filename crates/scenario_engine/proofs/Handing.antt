-- What lines about connections hand to the keeper, as calls of it; and how they end.
use Rattle.std.proofs.Common.{◌≡◌, ◌⊎◌, inl, inr, ℕ, Bool, true, false, cond, List, [], ◌∷◌, ◌++◌, Option, Some, None, is_some, Result, Ok, Err, MatchResult, refl, sym, ap, ◌∙◌, subst, append_assoc, arith}
use Rattle.std.specs.Prelude.{◌&&◌, All, not}
use Rattle.crash_base.specs.declared.memory.OutOfMemory.{OutOfMemory}
use Rattle.crash_base.specs.declared.rows.RowWrite.{RowWrite}
use Rattle.container_core.specs.Container.{ContainerValue}
use Rattle.outside.specs.declared.keeper.KeeperFault.TheVariants as faults
use Rattle.outside.specs.Keeper.{KeeperTold, TellsRefusal}
use Rattle.line_steps.specs.declared.callers.Caller.{Caller}
use Rattle.scenario_text.specs.Answer.{Answer, Refused, Done, answer_of, or_refused, refused_if, within}
use Rattle.scenario_text.specs.declared.answer.LineAnswer.{LineAnswer}
use Rattle.scenario_text.specs.declared.answer.LineAnswer.TheVariants as answers
use Rattle.scenario_text.specs.declared.seat_line.SeatLine.{SeatLine}
use Rattle.scenario_text.specs.declared.seat_line.SeatLine.TheVariants as lines
use Rattle.seat_lines.specs.Handing.{Handed, TellsHanded, AreCounted as CountedEach, AreHanded, AreSomeHanded, HasDone, HasAddedNothing, BreaksStep, BreaksRun, BreaksOff, IsAsStepLeaves, line_hands, step_hands, step_in, run_hands}
use Rattle.seat_lines.specs.Lines.{is_beyond, step_line, step_over}
use Rattle.seat_lines.specs.Making.{StepHearsSpelled}
use Rattle.session_lanes.specs.Lanes.{LanesState}
use Rattle.seat_lines.specs.Runs.{can_run, rests, run_from, run_line, steps_from}
use Rattle.seat_lines.specs.Site.{SeatsState, SiteState, seat_at, site_in}
use Rattle.seat_lines.proofs.Making.{one_step}
use Rattle.seat_steps.specs.declared.seat.Seat.{Seat}
use Rattle.session_steps.specs.Sessions.{SessionsState}
use Rattle.shepherd_steps.specs.Inside.{TellsReply}
use Rattle.scenario_engine.specs.Connections.{seat_makes}
use Rattle.scenario_engine.specs.KeeperCalls.{KeeperCall, seen, TellsCalls, has_failed, AreCounted, AreMade, AreSomeAsked}
use Rattle.scenario_engine.specs.Running.{keep_calls}
use Rattle.scenario_engine.specs.Seats.{in_boot, after_steps, by_replies, seat_over, handed_calls, seat_calls, DoesSite, BreaksSite}
use Rattle.scenario_engine.specs.State.{RunningState, Running, UnderWayIn, with_site}
use Rattle.scenario_engine.specs.Telling.{AnswersSeat, BreaksSeat, EndsSeat}
use Rattle.scenario_engine.proofs.Calls.{none_made, then_calls, rose_later, rose_before}
use Rattle.scenario_engine.proofs.Rebooting.{run_of}
use Rattle.scenario_engine.proofs.StepsMade.{run_once_more}
use Rattle.scenario_engine.proofs.Stepping.{no_steps}

-- what the keeper tells

tells_one : (writes : List RowWrite) (keeps : Bool) (old new : Option KeeperTold) → TellsReply writes keeps old new → TellsCalls (keep_calls None writes keeps) old new
tells_one [] keeps old new tells = tells
tells_one (w ∷ ws) true old new tells = (new, tells, refl)
tells_one (w ∷ ws) false old new tells = (new, tells, refl)

tells_handed : (handed : List Handed) (old new : Option KeeperTold) → TellsHanded handed old new → TellsCalls (handed_calls handed) old new
tells_handed [] old new tells = tells
tells_handed (h ∷ more) old new (between, reply, rest) =
    then_calls (keep_calls None h.writes h.keeps) (handed_calls more) old between new (tells_one h.writes h.keeps old between reply) (tells_handed more between new rest)

-- its count of faults, which rose where it did not keep something

failed_first : (writes : List RowWrite) (more : List KeeperCall) → has_failed (keep_calls None writes true ++ more) ≡ has_failed more
failed_first [] more = refl
failed_first (w ∷ ws) more = refl

counted_all : (handed : List Handed) (old new : ℕ) → CountedEach handed old new → AreCounted (handed_calls handed) old new
counted_all [] old new h = record { count = h; failed = λ is. absurd (cc) }
counted_all (h ∷ more) old new (between, up, rose, rest) = go h.keeps refl (counted_all more between new rest)
  where
    go : (keeps : Bool) → h.keeps ≡ keeps → AreCounted (handed_calls more) between new → AreCounted (keep_calls None h.writes h.keeps ++ handed_calls more) old new
    go false none later = record { count = omega (arith, up, later.count); failed = λ is. rose_later old between new (rose none) up later.count }
    go true kept later =
        let first : has_failed (keep_calls None h.writes h.keeps ++ handed_calls more) ≡ has_failed (handed_calls more) =
        ap (λ (k : Bool). has_failed (keep_calls None h.writes k ++ handed_calls more)) kept ∙ failed_first h.writes (handed_calls more) in
        record { count = omega (arith, up, later.count); failed = λ is. rose_before old between new (later.failed (sym first ∙ is)) up }

pub handed_made : (handed : List Handed) (old new : ContainerValue) → AreHanded handed old new → AreMade (handed_calls handed) (seen old.told old.faults) (seen new.told new.faults)
handed_made handed old new h = record {
  told = tells_handed handed old.told new.told h.tells;
  counted = counted_all handed old.faults new.faults h.counted;
}

pub handed-append : (handed more : List Handed) → handed_calls (handed ++ more) ≡ handed_calls handed ++ handed_calls more
handed-append [] more = refl
handed-append (h ∷ handed) more =
    ap (λ cs. keep_calls None h.writes h.keeps ++ cs) (handed-append handed more)
    ∙ sym (append_assoc (keep_calls None h.writes h.keeps) (handed_calls handed) (handed_calls more))

-- a call for which it had no memory is the first
last_asked : (made : List Handed) (between new : Option KeeperTold) → ((new ≡ between) ⊎ ((made ≡ []) × TellsRefusal faults.OutOfMemory between new)) → (new ≡ between) ⊎ ((handed_calls made ≡ []) × TellsRefusal faults.OutOfMemory between new)
last_asked made between new (inl same) = inl same
last_asked made between new (inr (none, tells)) = inr (ap handed_calls none, tells)

some_asked : (handed : List Handed) (old new : ContainerValue) → AreSomeHanded handed old new → AreSomeAsked (handed_calls handed) (seen old.told old.faults) (seen new.told new.faults)
some_asked handed old new h = record {
  made = handed_calls h.made;
  more = handed_calls h.more;
  begins = ap handed_calls h.begins ∙ handed-append h.made h.more;
  between = h.between;
  told = tells_handed h.made old.told h.between h.tells;
  last = last_asked h.made h.between new.told h.last;
  counted = counted_all h.made old.faults new.faults h.counted;
}

-- where nothing was handed, nothing was asked
nothing_asked : (handed : List Handed) (old new : ContainerValue) (h : AreSomeHanded handed old new) → h.made ≡ [] → AreSomeAsked [] (seen old.told old.faults) (seen new.told new.faults)
nothing_asked handed old new h none =
    some_asked [] old new (record {
      made = [];
      more = [];
      begins = refl;
      between = h.between;
      tells = subst (λ (made : List Handed). TellsHanded made old.told h.between) none h.tells;
      last = last_of h.last;
      counted = subst (λ (made : List Handed). CountedEach made old.faults new.faults) none h.counted;
    })
  where
    empty : List Handed
    empty = []

    last_of : ((new.told ≡ h.between) ⊎ ((h.made ≡ []) × TellsRefusal faults.OutOfMemory h.between new.told)) → (new.told ≡ h.between) ⊎ ((empty ≡ []) × TellsRefusal faults.OutOfMemory h.between new.told)
    last_of (inl same) = inl same
    last_of (inr (first, tells)) = inr (refl, tells)

-- of a step that broke off nothing was asked, or what it heard is spelled
broken_heard : (n : ℕ) (old new : ContainerValue) (sessions : SessionsState) (seats : SeatsState) (h : BreaksStep n old sessions seats new) → AreSomeAsked [] (seen old.told old.faults) (seen new.told new.faults) ⊎ StepHearsSpelled (step_in old sessions seats n h.keeps)
broken_heard n old new sessions seats h = go h.added
  where
    go : (HasAddedNothing h.handed.made old new ⊎ ((h.handed.more ≡ []) × (new.told ≡ h.handed.between) × IsAsStepLeaves (step_line (site_in old sessions seats) n h.keeps) new × StepHearsSpelled (step_in old sessions seats n h.keeps)))
        → AreSomeAsked [] (seen old.told old.faults) (seen new.told new.faults) ⊎ StepHearsSpelled (step_in old sessions seats n h.keeps)
    go (inl (none, keeps)) = inl (nothing_asked (step_hands (site_in old sessions seats) n (h.keeps ∷ [])) old new h.handed none)
    go (inr (all, told, left, heard)) = inr heard

-- a run that is under way

goes_there : (o : Option Seat) → rests o ≡ false → is_some o ≡ true
goes_there None goes = absurd (cc)
goes_there (Some seat) goes = refl

can_go : (s : SiteState) (n : ℕ) → is_beyond n ≡ false → is_some s.sessions.store ≡ true → is_some (seat_at s.seats.seats n) ≡ true → can_run s n ≡ true
can_go s n near store seat = rw (near, store, seat) refl

near_where : (s : SiteState) (n : ℕ) → can_run s n ≡ true → is_beyond n ≡ false
near_where s n can = go (is_beyond n) can
  where
    go : (b : Bool) → (not b && (is_some s.sessions.store && is_some (seat_at s.seats.seats n))) ≡ true → b ≡ false
    go true can = absurd (cc)
    go false can = refl

-- a step that was made has bricks

abbrev is_done : {A : Type 0} → Answer A → Bool
is_done Refused = false
is_done (Done a text) = true

-- what follows a step, by its answer

abbrev steps_on : ℕ → List Bool → Answer SiteState → Option SiteState
steps_on n more a = elim a [ Refused ↦ None | Done u out ↦ steps_from u n more ]

abbrev run_on : List ℕ → ℕ → List Bool → Answer SiteState → Option (Answer SiteState)
run_on text n more a = elim a [ Refused ↦ Some Refused | Done u out ↦ run_from u (text ++ out) n more ]

abbrev after_on : SiteState → ℕ → List Bool → Answer SiteState → SiteState
after_on s n more a = elim a [ Refused ↦ s | Done u out ↦ after_steps u n more ]

made_step : (s : SiteState) (n : ℕ) (keeps : Bool) (more : List Bool) (t : SiteState) → steps_on n more (step_line s n keeps) ≡ Some t → is_done (step_line s n keeps) ≡ true
made_step s n keeps more t is = go (step_line s n keeps) is
  where
    go : (a : Answer SiteState) → steps_on n more a ≡ Some t → is_done a ≡ true
    go Refused is = absurd (cc)
    go (Done u out) is = refl

has_bricks : (s : SiteState) (n : ℕ) (keeps : Bool) → is_done (step_line s n keeps) ≡ true → is_some s.sessions.store ≡ true
unfolding step_line
has_bricks s n keeps is = go (is_beyond n) s.sessions.store is
  where
    go : (b : Bool) (o : Option LanesState) → is_done (refused_if b (or_refused o (λ store. step_over s n keeps store))) ≡ true → is_some o ≡ true
    go true o is = absurd (cc)
    go false None is = absurd (cc)
    go false (Some store) is = refl

record IsUnderWay (s : SiteState) (text : List ℕ) (n : ℕ) (replies : List Bool) (t : SiteState) : Type 0 where
  pub run : run_from s text n replies ≡ None
  pub made : after_steps s n replies ≡ t
  pub there : can_run s n ≡ true

under_way : (s t : SiteState) (text : List ℕ) (n : ℕ) (replies : List Bool) → steps_from s n replies ≡ Some t → rests (seat_at t.seats.seats n) ≡ false → can_run t n ≡ true → IsUnderWay s text n replies t
under_way s t text n [] steps goes bricks =
    let same : s ≡ t = cc in
    let can : can_run s n ≡ true = ap (λ (u : SiteState). can_run u n) same ∙ bricks in
    let here : rests (seat_at s.seats.seats n) ≡ false = ap (λ (u : SiteState). rests (seat_at u.seats.seats n)) same ∙ goes in
    record { run = rw here refl; made = same; there = can }
under_way s t text n (keeps ∷ more) steps goes bricks = go (rests (seat_at s.seats.seats n)) refl (λ u out is. under_way u t (text ++ out) n more is goes bricks) steps
  where
    Later : Type 0
    Later = (u : SiteState) (out : List ℕ) → steps_from u n more ≡ Some t → IsUnderWay u (text ++ out) n more t

    stepped : Later → (a : Answer SiteState) → steps_on n more a ≡ Some t → (run_on text n more a ≡ None) × (after_on s n more a ≡ t)
    stepped later Refused is = absurd (cc)
    stepped later (Done u out) is = let rest : IsUnderWay u (text ++ out) n more t = later u out is in (rest.run, rest.made)

    go : (b : Bool) → rests (seat_at s.seats.seats n) ≡ b → Later → cond b None (steps_on n more (step_line s n keeps)) ≡ Some t → IsUnderWay s text n (keeps ∷ more) t
    go true here later is = absurd (cc)
    go false here later is =
        let both = stepped later (step_line s n keeps) is in
        record { run = rw here both.0; made = rw here both.1; there = can_go s n (near_where t n bricks) (has_bricks s n keeps (made_step s n keeps more t is)) (goes_there (seat_at s.seats.seats n) here) }

-- over a container

answered_so : (r : RunningState) (t : SiteState) (a : LineAnswer) → in_boot r (answer_of a (with_site r t)) ≡ in_boot r (within (with_site r) (answer_of a t))
answered_so r t answers.Refused = refl
answered_so r t answers.Done = refl
answered_so r t (answers.Wrote text) = refl

answers_seat : (k n : ContainerValue) (callers : List Caller) (sessions after : SessionsState) (seats left : SeatsState) (line : SeatLine) (a : LineAnswer) → HasDone line k sessions seats (answer_of a (site_in n after left)) n → AnswersSeat (run_of k callers sessions seats true) line (answer_of a (run_of n callers after left true)) (seen k.told k.faults) (seen n.told n.faults)
unfolding seat_over seat_calls
answers_seat k n callers sessions after seats left line a h =
    let r : RunningState = run_of k callers sessions seats true in
    record {
      keeps = h.replies;
      answers = answered_so r (site_in n after left) a ∙ ap (by_replies r line h.replies) h.answers;
      made = handed_made (line_hands (site_in k sessions seats) line h.replies) k n h.handed;
      steps = record { spelled = h.heard; made = h.made };
    }

refused_seat : (k n : ContainerValue) (callers : List Caller) (sessions after : SessionsState) (seats left : SeatsState) (line : SeatLine) (a : LineAnswer) → DoesSite false line k sessions seats (answer_of a (site_in n after left)) n → AnswersSeat (run_of k callers sessions seats false) line (answer_of a (run_of n callers after left false)) (seen k.told k.faults) (seen n.told n.faults)
unfolding seat_over seat_calls
refused_seat k n callers sessions after seats left line a h =
    let r : RunningState = run_of k callers sessions seats false in
    let P : ContainerValue → Type 0 = λ m. AreMade [] (seen k.told k.faults) (seen m.told m.faults) in
    record {
      keeps = [];
      answers = answered_so r (site_in n after left) a ∙ ap (λ (b : Answer SiteState). in_boot r (within (with_site r) b)) h.0;
      made = subst P (sym h.1) (none_made (seen k.told k.faults));
      steps = no_steps;
    }

breaks_step : (k n : ContainerValue) (callers : List Caller) (sessions : SessionsState) (seats : SeatsState) (number : ℕ) → BreaksStep number k sessions seats n → BreaksSeat (run_of k callers sessions seats true) (lines.Step number) (seen k.told k.faults) (seen n.told n.faults)
unfolding seat_over seat_calls
breaks_step k n callers sessions seats number h = record {
  keeps = [];
  mid = run_of k callers sessions seats true;
  comes = refl;
  between = seen k.told k.faults;
  whole = none_made (seen k.told k.faults);
  next = h.keeps;
  last = some_asked (step_hands (site_in k sessions seats) number (h.keeps ∷ [])) k n h.handed;
  steps = no_steps;
  last_heard = by (broken_heard number k n sessions seats h);
}
  where
    Asked : Type 0
    Asked = AreSomeAsked [] (seen k.told k.faults) (seen n.told n.faults)

    by : Asked ⊎ StepHearsSpelled (step_in k sessions seats number h.keeps) → Asked ⊎ All StepHearsSpelled (seat_makes (run_of k callers sessions seats true) (lines.Step number) (h.keeps ∷ []))
    by (inl none) = inl none
    by (inr heard) = inr (one_step StepHearsSpelled (site_in k sessions seats) number h.keeps heard)

breaks_run : (k n : ContainerValue) (callers : List Caller) (sessions : SessionsState) (seats : SeatsState) (number : ℕ) → BreaksRun number k sessions seats n → BreaksSeat (run_of k callers sessions seats true) (lines.Run number) (seen k.told k.faults) (seen n.told n.faults)
unfolding seat_over seat_calls run_line
breaks_run k n callers sessions seats number h =
    let s : SiteState = site_in k sessions seats in
    let t : SiteState = site_in h.mid h.mid_sessions h.mid_seats in
    let r : RunningState = run_of k callers sessions seats true in
    let way : IsUnderWay s [] number h.replies t = under_way s t [] number h.replies h.steps h.goes_on h.there in
    let none : run_line s number h.replies ≡ None = ap (λ (b : Bool). cond b (run_from s [] number h.replies) (Some Refused)) way.there ∙ way.run in
    record {
      keeps = h.replies;
      mid = run_of h.mid callers h.mid_sessions h.mid_seats true;
      comes = ap (by_replies r (lines.Run number) h.replies) none ∙ ap (λ (u : SiteState). UnderWayIn (Running (with_site r u))) way.made;
      between = seen h.mid.told h.mid.faults;
      whole = handed_made (run_hands s number h.replies) k h.mid h.handed;
      next = h.last.keeps;
      last = some_asked (step_hands t number (h.last.keeps ∷ [])) h.mid n h.last.handed;
      steps = record { spelled = h.heard; made = h.made };
      last_heard = by (broken_heard number h.mid n h.mid_sessions h.mid_seats h.last);
    }
  where
    Asked : Type 0
    Asked = AreSomeAsked [] (seen h.mid.told h.mid.faults) (seen n.told n.faults)

    by : Asked ⊎ StepHearsSpelled (step_in h.mid h.mid_sessions h.mid_seats number h.last.keeps) → Asked ⊎ All StepHearsSpelled (seat_makes (run_of k callers sessions seats true) (lines.Run number) (h.replies ++ h.last.keeps ∷ []))
    by (inl none) = inl none
    by (inr heard) = inr (run_once_more StepHearsSpelled (site_in k sessions seats) (site_in h.mid h.mid_sessions h.mid_seats) number h.replies h.last.keeps h.steps h.heard heard)

-- nothing was handed to the keeper of a container that is as it was
left_handed : (k n : ContainerValue) → n ≡ k → AreHanded [] k n
left_handed k n same = subst (λ (x : ContainerValue). AreHanded [] k x) (sym same) (record { tells = refl; counted = omega (arith) })

breaks_seat : (k n : ContainerValue) (callers : List Caller) (sessions : SessionsState) (seats : SeatsState) (line : SeatLine) → BreaksOff line k sessions seats n → EndsSeat (run_of k callers sessions seats true) line (seen k.told k.faults) (seen n.told n.faults)
breaks_seat k n callers sessions seats (lines.Conn number) h = inl (handed_made [] k n (left_handed k n h))
breaks_seat k n callers sessions seats (lines.Bytes number bytes) h = inl (handed_made [] k n (left_handed k n h))
breaks_seat k n callers sessions seats (lines.End number) h = inl (handed_made [] k n (left_handed k n h))
breaks_seat k n callers sessions seats (lines.Step number) h = inr (breaks_step k n callers sessions seats number h)
breaks_seat k n callers sessions seats (lines.Run number) h = inr (breaks_run k n callers sessions seats number h)

-- how a line about connections ended in a container
pub site_ended : (part : Result LineAnswer OutOfMemory) (k n : ContainerValue) (callers : List Caller) (sessions after : SessionsState) (seats left : SeatsState) (site : Bool) (line : SeatLine)
    → MatchResult part (λ a. DoesSite site line k sessions seats (answer_of a (site_in n after left)) n) (λ e. BreaksSite site line k sessions seats n)
    → MatchResult part (λ a. AnswersSeat (run_of k callers sessions seats site) line (answer_of a (run_of n callers after left site)) (seen k.told k.faults) (seen n.told n.faults)) (λ e. EndsSeat (run_of k callers sessions seats site) line (seen k.told k.faults) (seen n.told n.faults))
site_ended (Ok a) k n callers sessions after seats left true line h = answers_seat k n callers sessions after seats left line a h
site_ended (Ok a) k n callers sessions after seats left false line h = refused_seat k n callers sessions after seats left line a h
site_ended (Err e) k n callers sessions after seats left true line h = breaks_seat k n callers sessions seats line h
site_ended (Err e) k n callers sessions after seats left false line h = absurd h
