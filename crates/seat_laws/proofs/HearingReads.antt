-- What a seat heard of its session is what its read came to, over the lanes as the event of the step left them.
use Rattle.std.proofs.Common.{◌≡◌, ◌⊎◌, inl, inr, ◌∙◌, ℕ, Bool, true, false, if◌then◌else◌, List, Option, Some, None, Result, Ok, Err, refl, sym, ap, subst}
use Rattle.std.specs.Option.{option_and_then}
use Rattle.auction_calls.specs.declared.action.ActionCall.{ActionCall}
use Rattle.lane_link.specs.Links.{lane_link_tally}
use Rattle.lane_link.specs.declared.link.LaneLink.{LaneLink}
use Rattle.outside.specs.declared.link.LinkCounts.{LinkCounts}
use Rattle.request_visit.specs.Advancing.{after_read}
use Rattle.request_visit.specs.Stepping.{counted}
use Rattle.request_visit.specs.Visits.{or_own}
use Rattle.request_visit.specs.declared.visit.Visit.{Visit}
use Rattle.request_visit.specs.declared.visit.Work.{Work}
use Rattle.request_visit.specs.declared.visit.Work.TheVariants.{Reading, Opening, Serving as ServingBy, Committed, Decided, Answered, Left}
use Rattle.session_way.specs.Reading.{answer_of_read}
use Rattle.session_way.specs.Way.{outside_or}
use Rattle.session_way.specs.declared.session_read.ReadOutcome.{ReadOutcome}
use Rattle.session_way.specs.declared.session_read.ReadOutcome.TheVariants as read
use Rattle.session_way.specs.declared.way.SessionWay.{SessionWay}
use Rattle.session_way.specs.declared.way.SessionWay.TheVariants as way
use Rattle.session_way.specs.declared.way.Wants.TheVariants as wanted
use Rattle.shepherd.specs.Shepherds.{turn, turn_by}
use Rattle.shepherd.specs.declared.shepherd.AskedCall.{AskedCall}
use Rattle.shepherd.specs.declared.shepherd.EndKind.{EndKind}
use Rattle.shepherd.specs.declared.shepherd.EndKind.TheVariants as ends
use Rattle.shepherd.specs.declared.shepherd.Shepherd.{Shepherd}
use Rattle.shepherd.specs.declared.shepherd.ShepherdTurn.{ShepherdTurn}
use Rattle.shepherd.specs.declared.shepherd.ShepherdTurn.TheVariants as turns
use Rattle.shepherd.specs.declared.shepherd.Stage.{Stage}
use Rattle.shepherd.specs.declared.shepherd.Stage.TheVariants.{Resting, Serving, Refusing, Over}
use Rattle.shepherd_steps.specs.Alone.{Making, alone, alone_at, gone_alone}
use Rattle.shepherd_steps.specs.Opening.{open_stage}
use Rattle.shepherd_steps.specs.Outside.{machine_after, outside}
use Rattle.shepherd_steps.specs.Own.{outcome_by, outcome_of_read, own, told_read}
use Rattle.shepherd_steps.specs.Stepping.{World, event_at, step}
use Rattle.ssm_frames.specs.Spelling.{encode_of}
use Rattle.ssm_stub.specs.Reads.{ReadState, read_answer, read_ask, read_machine, read_next}
use Rattle.ssm_stub.specs.declared.event.StubNext.{StubNext}
use Rattle.ssm_stub.specs.declared.event.StubNext.TheVariants as next
use Rattle.ssm_stub.specs.declared.read_call.ReadRefusal.{ReadRefusal}
use Rattle.ssm_stub.specs.declared.read_call.ReadRefusal.TheVariants as refusal
use Rattle.seat_steps.specs.Replies.{lane_replies}
use Rattle.seat_steps.specs.Seats.{SeatGivens, SeatWorld, givens_in, making_by, seat_step}
use Rattle.seat_steps.specs.Twinned.{way_in}
use Rattle.seat_steps.specs.declared.seat.Seat.{Seat}
use Rattle.seat_laws.specs.Reads.{read_awaited, read_heard, read_under_way}

-- what a read came to is its answer
pub outcome-answers : (r : ReadState) (o : ReadOutcome) → outcome_of_read r ≡ Some o → read_answer r ≡ Some (answer_of_read o)
outcome-answers r o is = by (read_answer r) refl is where
  refused : (why : ReadRefusal) → read_answer r ≡ Some (Err why) → outcome_by r (Err why) ≡ Some o → read_answer r ≡ Some (answer_of_read o)
  refused (refusal.Expired now expiry) at same = let it : read.Expired now expiry ≡ o = cc in at ∙ ap (λ (x : ReadOutcome). Some (answer_of_read x)) it
  refused (refusal.Lost causes) at same = let it : read.Lost causes ≡ o = cc in at ∙ ap (λ (x : ReadOutcome). Some (answer_of_read x)) it
  refused refusal.OutOfMemory at same = absurd (cc)

  by : (x : Option (Result (List ℕ) ReadRefusal)) → read_answer r ≡ x → option_and_then (outcome_by r) x ≡ Some o → read_answer r ≡ Some (answer_of_read o)
  by None at same = absurd (cc)
  by (Some (Ok value)) at same =
      let found : ReadOutcome = read.Found (record { key = r.key; value = value; expiry = r.expiry }) in
      let it : found ≡ o = cc in at ∙ ap (λ (x : ReadOutcome). Some (answer_of_read x)) it
  by (Some (Err why)) at same = refused why at same

-- a request that waits for this read
abbrev waiting : Visit ActionCall → ReadState → Visit ActionCall
waiting v r = record v { work = Reading; way = way.Reading r }

-- a connection whose request waits for this read
abbrev pub waits : Shepherd ActionCall → Visit ActionCall → Option AskedCall → ReadState → Shepherd ActionCall
waits s v call r = record s { stage = Serving (record v { work = Reading; way = way.Reading r }) call }

same-stage : (v : Visit ActionCall) (call : Option AskedCall) (q r : ReadState) → Some q ≡ Some r → (let x : Stage ActionCall = Serving (waiting v q) call in x) ≡ Serving (waiting v r) call
same-stage v call q r is = let same : q ≡ r = cc in ap (λ (x : ReadState). let y : Stage ActionCall = Serving (waiting v x) call in y) same

-- A stage at which a read is waited for.
pub record Waits (stage : Stage ActionCall) (r : ReadState) : Type 0 where
  pub visit : Visit ActionCall
  pub call : Option AskedCall
  pub is : stage ≡ Serving (record visit { work = Reading; way = way.Reading r }) call

pub under-way : (stage : Stage ActionCall) (r : ReadState) → read_under_way stage ≡ Some r → Waits stage r
under-way Resting r is = absurd (cc)
under-way (Serving v call) r is = record { visit = v; call = call; is = by v.work v.way is } where
  by : (work : Work ActionCall) (to : SessionWay) → read_awaited work to ≡ Some r → (let x : Stage ActionCall = Serving (record v { work = work; way = to }) call in x) ≡ Serving (waiting v r) call
  by Reading way.Resting is = absurd (cc)
  by Reading (way.Reading q) is = same-stage v call q r is
  by Reading (way.Ordered order) is = absurd (cc)
  by Reading (way.Writing x) is = absurd (cc)
  by Reading (way.Settling x) is = absurd (cc)
  by Reading (way.Holding passes) is = absurd (cc)
  by Opening to is = absurd (cc)
  by (ServingBy tries program) to is = absurd (cc)
  by (Committed place again shown) to is = absurd (cc)
  by (Decided became) to is = absurd (cc)
  by (Answered fate bytes) to is = absurd (cc)
  by (Left fate) to is = absurd (cc)
under-way (Refusing why bytes) r is = absurd (cc)
under-way (Over end) r is = absurd (cc)

-- whose turn it is where a request waits for a read
abbrev pub WaitingTurn : ShepherdTurn → Type 0
WaitingTurn t = (t ≡ turns.Outside) ⊎ ((t ≡ turns.Own) ⊎ ((end : EndKind) × (t ≡ turns.Ended end)))

pub waiting-turn : (s : Shepherd ActionCall) (v : Visit ActionCall) (call : Option AskedCall) (r : ReadState) → WaitingTurn (turn (waits s v call r))
waiting-turn s v call r = by s.wants_memory (read_next r) where
  by : (b : Bool) (n : StubNext) → WaitingTurn (if b then turns.Ended ends.OutOfMemory else turn_by (or_own (outside_or wanted.Nothing n)))
  by true n = inr (inr (ends.OutOfMemory, refl))
  by false (next.Send brick) = inl refl
  by false (next.Receive brick) = inl refl
  by false next.Ended = inr (inl refl)

module _ (m : Making ActionCall) (s : Shepherd ActionCall) (v : Visit ActionCall) (call : Option AskedCall) (r : ReadState) (o : ReadOutcome) where
  abbrev c : Shepherd ActionCall
  c = waits s v call r

  -- what is heard once the request was told what its read came to
  told-heard : (x : Option ReadOutcome) → (let stage : Stage ActionCall = Serving (told_read x (waiting v r)) call in read_heard stage ≡ Some o) → x ≡ Some o
  told-heard None is = absurd (cc)
  told-heard (Some (read.Found lease)) is = is
  told-heard (Some (read.Expired now expiry)) is = is
  told-heard (Some (read.Lost causes)) is = is

  -- by what it does by itself once
  once-heard : read_heard (alone m c).0.stage ≡ Some o → outcome_of_read r ≡ Some o
  unfolding alone own
  once-heard = by (turn c) (waiting-turn s v call r) where
    K : ShepherdTurn → Type 0
    K t = read_heard (alone_at m t c).0.stage ≡ Some o → outcome_of_read r ≡ Some o

    rests : read_heard c.stage ≡ Some o → outcome_of_read r ≡ Some o
    rests is = absurd (let none : None ≡ Some o = is in cc)

    by : (t : ShepherdTurn) → WaitingTurn t → K t
    by t (inl is) = subst K (sym is) rests
    by t (inr (inl is)) = subst K (sym is) (told-heard (outcome_of_read r))
    by t (inr (inr is)) = subst K (sym is.1) rests

  -- by what it does then, once it was told what its read came to
  then-heard : (x : Option ReadOutcome) → outcome_of_read r ≡ x → (let stage : Stage ActionCall = Serving (told_read x (waiting v r)) call in read_heard (alone m (record s { stage = stage })).0.stage ≡ Some o) → outcome_of_read r ≡ Some o
  unfolding alone own open_stage
  then-heard None at is = once-heard is
  then-heard (Some (read.Found lease)) at is = at ∙ by s.wants_memory call is where
    found : Visit ActionCall
    found = after_read (read.Found lease) (waiting v r)

    by : (b : Bool) (x : Option AskedCall) → (let k : Shepherd ActionCall = record s { stage = Serving found x } in read_heard (alone_at m (if b then turns.Ended ends.OutOfMemory else turns.Program) k).0.stage ≡ Some o) → Some (read.Found lease) ≡ Some o
    by true x is = is
    by false None is = is
    by false (Some asked) is = is
  then-heard (Some (read.Expired now expiry)) at is = at ∙ by s.wants_memory is where
    decided : Shepherd ActionCall
    decided = record s { stage = Serving (after_read (read.Expired now expiry) (waiting v r)) call }

    by : (b : Bool) → read_heard (alone_at m (if b then turns.Ended ends.OutOfMemory else turns.Own) decided).0.stage ≡ Some o → Some (read.Expired now expiry) ≡ Some o
    by true is = is
    by false is = is
  then-heard (Some (read.Lost causes)) at is = at ∙ by s.wants_memory is where
    decided : Shepherd ActionCall
    decided = record s { stage = Serving (after_read (read.Lost causes) (waiting v r)) call }

    by : (b : Bool) → read_heard (alone_at m (if b then turns.Ended ends.OutOfMemory else turns.Own) decided).0.stage ≡ Some o → Some (read.Lost causes) ≡ Some o
    by true is = is
    by false is = is

  -- What a connection heard that waited for a read, and then went on by itself, is what the read came to.
  pub gone-heard : read_heard (gone_alone m c).0.stage ≡ Some o → outcome_of_read r ≡ Some o
  unfolding gone_alone alone own
  gone-heard = by (turn c) (waiting-turn s v call r) where
    K : ShepherdTurn → Type 0
    K t = read_heard (alone m (alone_at m t c).0).0.stage ≡ Some o → outcome_of_read r ≡ Some o

    by : (t : ShepherdTurn) → WaitingTurn t → K t
    by t (inl is) = subst K (sym is) once-heard
    by t (inr (inl is)) = subst K (sym is) (then-heard (outcome_of_read r) refl)
    by t (inr (inr is)) = subst K (sym is.1) once-heard

-- what was heard at a stage, where something was
abbrev pub Heard : Stage ActionCall → Type 0
Heard stage = (o : ReadOutcome) × (read_heard stage ≡ Some o)

-- the same, where no read is waited for
abbrev pub HearsOrWaits : Stage ActionCall → Type 0
HearsOrWaits stage = read_under_way stage ≡ None → Heard stage

module _ (m : Making ActionCall) (s : Shepherd ActionCall) (v : Visit ActionCall) (call : Option AskedCall) (r : ReadState) where
  abbrev waiter : Shepherd ActionCall
  waiter = waits s v call r

  -- a request that waits still has not come to hear anything
  waits-still : HearsOrWaits waiter.stage
  waits-still none = absurd (let e : Some r ≡ None = none in cc)

  -- by what it does by itself once, while its read has come to nothing
  once-waits : outcome_of_read r ≡ None → (alone m waiter).0 ≡ waiter
  unfolding alone own
  once-waits nothing = by (turn waiter) (waiting-turn s v call r) where
    by : (t : ShepherdTurn) → WaitingTurn t → (alone_at m t waiter).0 ≡ waiter
    by t (inl is) = ap (λ (x : ShepherdTurn). (alone_at m x waiter).0) is
    by t (inr (inl is)) =
        ap (λ (x : ShepherdTurn). (alone_at m x waiter).0) is
        ∙ ap (λ (x : Option ReadOutcome). let k : Shepherd ActionCall = record s { stage = Serving (told_read x (waiting v r)) call } in k) nothing
    by t (inr (inr is)) = ap (λ (x : ShepherdTurn). (alone_at m x waiter).0) is.1

  -- a request whose read has come to nothing waits still
  pub gone-waits : outcome_of_read r ≡ None → (gone_alone m waiter).0 ≡ waiter
  unfolding gone_alone
  gone-waits nothing = ap (λ (k : Shepherd ActionCall). (alone m k).0) (once-waits nothing) ∙ once-waits nothing

  -- what a request does then that was told what its read came to
  told-hears : (o : ReadOutcome) → (let k : Shepherd ActionCall = record s { stage = Serving (after_read o (waiting v r)) call } in read_heard (alone m k).0.stage ≡ Some o)
  unfolding alone own open_stage
  told-hears (read.Found lease) = by s.wants_memory call where
    by : (b : Bool) (x : Option AskedCall) → (let k : Shepherd ActionCall = record s { stage = Serving (after_read (read.Found lease) (waiting v r)) x } in
        read_heard (alone_at m (if b then turns.Ended ends.OutOfMemory else turns.Program) k).0.stage ≡ Some (read.Found lease))
    by true x = refl
    by false None = refl
    by false (Some asked) = refl
  told-hears (read.Expired now expiry) = by s.wants_memory where
    by : (b : Bool) → (let k : Shepherd ActionCall = record s { stage = Serving (after_read (read.Expired now expiry) (waiting v r)) call } in
        read_heard (alone_at m (if b then turns.Ended ends.OutOfMemory else turns.Own) k).0.stage ≡ Some (read.Expired now expiry))
    by true = refl
    by false = refl
  told-hears (read.Lost causes) = by s.wants_memory where
    by : (b : Bool) → (let k : Shepherd ActionCall = record s { stage = Serving (after_read (read.Lost causes) (waiting v r)) call } in
        read_heard (alone_at m (if b then turns.Ended ends.OutOfMemory else turns.Own) k).0.stage ≡ Some (read.Lost causes))
    by true = refl
    by false = refl

  -- A connection that waited for a read, and then went on by itself, waits still, or has heard what the read came to.
  pub gone-hears : HearsOrWaits (gone_alone m waiter).0.stage
  unfolding gone_alone alone own
  gone-hears = by (turn waiter) refl (waiting-turn s v call r) where
    Then : ShepherdTurn → Type 0
    Then t = HearsOrWaits (alone m (alone_at m t waiter).0).0.stage

    -- at a turn of others nothing is done
    stays : (t : ShepherdTurn) → turn waiter ≡ t → HearsOrWaits (alone_at m t waiter).0.stage → HearsOrWaits (alone m waiter).0.stage
    stays t is = subst (λ (x : ShepherdTurn). HearsOrWaits (alone_at m x waiter).0.stage) (sym is)

    told : (x : Option ReadOutcome) → outcome_of_read r ≡ x → (let k : Shepherd ActionCall = record s { stage = Serving (told_read x (waiting v r)) call } in HearsOrWaits (alone m k).0.stage)
    told None nothing = subst (λ (k : Shepherd ActionCall). HearsOrWaits k.stage) (sym (once-waits nothing)) waits-still
    told (Some o) came = λ none. (o, told-hears o)

    by : (t : ShepherdTurn) → turn waiter ≡ t → WaitingTurn t → Then t
    by t is (inl outside) = subst Then (sym outside) (stays turns.Outside (is ∙ outside) waits-still)
    by t is (inr (inl by_itself)) = subst Then (sym by_itself) (told (outcome_of_read r) refl)
    by t is (inr (inr over)) = subst Then (sym over.1) (stays (turns.Ended over.0) (is ∙ over.1) waits-still)

-- What a way holds is a read that came to this.
pub record HasRead (to : SessionWay) (o : ReadOutcome) : Type 0 where
  pub read : ReadState
  pub is : to ≡ way.Reading read
  pub came : outcome_of_read read ≡ Some o

module _ (g : SeatGivens) (w : SeatWorld) (link : LaneLink) where
  -- a connection as its step sees it
  abbrev seen : Shepherd ActionCall → World ActionCall LaneLink
  seen s = record { connection = s; boot = w.boot; since = w.since; windows = w.store.windows; link = link; drawn = record { words = 0; serials = 0 } }

  -- what its step leaves has heard what it waited for, or waits still
  abbrev Hears : ShepherdTurn → Shepherd ActionCall → Type 0
  Hears t s = HearsOrWaits (gone_alone (making_by g) (event_at (givens_in g w) t (seen s)).0.connection).0.stage

  event-hears : (s : Shepherd ActionCall) (v : Visit ActionCall) (call : Option AskedCall) (r : ReadState) (t : ShepherdTurn) → WaitingTurn t → Hears t (waits s v call r)
  unfolding outside
  event-hears s v call r t turn_is = by turn_is where
    K : ShepherdTurn → Type 0
    K x = Hears x (waits s v call r)

    goes : K turns.Outside
    goes =
        let after = machine_after read_machine lane_replies (encode_of (read_ask r)) r link in
        let counts : LinkCounts = counted (lane_link_tally after.1) in
        gone-hears (making_by g) s (record v { counts = counts }) call after.0

    by : WaitingTurn t → K t
    by (inl is) = subst K (sym is) goes
    by (inr (inl is)) = subst K (sym is) (gone-hears (making_by g) s v call r)
    by (inr (inr is)) = subst K (sym is.1) (gone-hears (making_by g) s v call r)

  -- Behind the event of a step a connection that waited waits still, or has heard.
  pub step-hears : (s : Shepherd ActionCall) (r : ReadState) → read_under_way s.stage ≡ Some r → Hears (turn s) s
  step-hears s r is =
      let x : Waits s.stage r = under-way s.stage r is in
      let P : Stage ActionCall → Type 0 = λ stage. let k : Shepherd ActionCall = record s { stage = stage } in Hears (turn k) k in
      subst P (sym x.is) (event-hears s x.visit x.call r (turn (waits s x.visit x.call r)) (waiting-turn s x.visit x.call r))

-- So it is behind the step of a seat.
pub hears-so : (g : SeatGivens) (seat : Seat) (w : SeatWorld) (r : ReadState) → read_under_way seat.connection.stage ≡ Some r → HearsOrWaits (seat_step g seat w).seat.connection.stage
unfolding seat_step step
hears-so g seat w r waits = step-hears g w (record { lanes = w.store; active = seat.twin }) seat.connection r waits

module _ (g : SeatGivens) (w : SeatWorld) (link : LaneLink) (o : ReadOutcome) where
  abbrev Ends : ShepherdTurn → Shepherd ActionCall → Type 0
  Ends t s =
      let e : World ActionCall LaneLink = (event_at (givens_in g w) t (seen g w link s)).0 in
      read_heard (gone_alone (making_by g) e.connection).0.stage ≡ Some o → HasRead (way_in e.connection.stage) o

  event-ends : (s : Shepherd ActionCall) (v : Visit ActionCall) (call : Option AskedCall) (r : ReadState) (t : ShepherdTurn) → WaitingTurn t → Ends t (waits s v call r)
  unfolding outside
  event-ends s v call r t turn_is = by turn_is where
    K : ShepherdTurn → Type 0
    K x = Ends x (waits s v call r)

    rests : read_heard (gone_alone (making_by g) (waits s v call r)).0.stage ≡ Some o → HasRead (way.Reading r) o
    rests heard = record { read = r; is = refl; came = gone-heard (making_by g) s v call r o heard }

    goes : K turns.Outside
    goes heard =
        let after = machine_after read_machine lane_replies (encode_of (read_ask r)) r link in
        let counts : LinkCounts = counted (lane_link_tally after.1) in
        record { read = after.0; is = refl; came = gone-heard (making_by g) s (record v { counts = counts }) call after.0 o heard }

    by : WaitingTurn t → K t
    by (inl is) = subst K (sym is) goes
    by (inr (inl is)) = subst K (sym is) rests
    by (inr (inr is)) = subst K (sym is.1) rests

  -- So it is behind the event of a step.
  pub step-ends : (s : Shepherd ActionCall) (r : ReadState) → read_under_way s.stage ≡ Some r → Ends (turn s) s
  step-ends s r is =
      let x : Waits s.stage r = under-way s.stage r is in
      let P : Stage ActionCall → Type 0 = λ stage. let k : Shepherd ActionCall = record s { stage = stage } in Ends (turn k) k in
      subst P (sym x.is) (event-ends s x.visit x.call r (turn (waits s x.visit x.call r)) (waiting-turn s x.visit x.call r))
