-- A connection whose turn says that it waits for bytes, or that it has ended.
use Rattle.std.proofs.Common.{◌≡◌, ◌⊎◌, inl, inr, ℕ, Bool, false, true, if◌then◌else◌, List, [], ◌++◌, ◌==◌, Option, length, refl, sym, ap, ◌∙◌, subst, true≢false, append-nil}
use Rattle.auction_calls.specs.declared.action.ActionCall.{ActionCall}
use Rattle.http_wire.specs.Requests.{ended, requests}
use Rattle.http_wire.specs.declared.taken.Head.{Head}
use Rattle.http_wire.specs.Taking.{settles, taken_of}
use Rattle.outcome_items.specs.declared.item.Item.{Item}
use Rattle.outside.specs.Source.{HasEnded}
use Rattle.outside.specs.declared.link.LinkEvent.{LinkEvent}
use Rattle.request_intake.specs.Intakes.{Gives}
use Rattle.request_tries.specs.Serving.{TriesValue}
use Rattle.request_visit.specs.Stepping.{OnServing}
use Rattle.request_visit.specs.Visits.{turn as visit_turn}
use Rattle.request_visit.specs.declared.visit.Turn.{Turn}
use Rattle.request_visit.specs.declared.visit.Turn.TheVariants as visit
use Rattle.request_visit.specs.declared.visit.Visit.{Visit}
use Rattle.request_visit.specs.declared.visit.Work.{Work}
use Rattle.request_visit.specs.declared.visit.Work.TheVariants.{Reading, Opening, Serving as ServingBy, Committed, Decided, Answered, Left}
use Rattle.served_connections.specs.Resting.{last_at}
use Rattle.served_items.specs.Attributing.{Service}
use Rattle.shepherd.specs.Shepherds.{stage_turn, turn, turn_by}
use Rattle.shepherd.specs.Standing.{Standing, all_before, coming, ending_of, heads_of}
use Rattle.shepherd.specs.Steps.{IsServedStill}
use Rattle.shepherd.specs.declared.shepherd.AskedCall.{AskedCall}
use Rattle.shepherd.specs.declared.shepherd.EndKind.{EndKind}
use Rattle.shepherd.specs.declared.shepherd.EndKind.TheVariants as ends
use Rattle.shepherd.specs.declared.shepherd.Shepherd.{Shepherd}
use Rattle.shepherd.specs.declared.shepherd.ShepherdTurn.{ShepherdTurn}
use Rattle.shepherd.specs.declared.shepherd.ShepherdTurn.TheVariants as turns
use Rattle.shepherd.specs.declared.shepherd.Stage.{Stage}
use Rattle.shepherd.specs.declared.shepherd.Stage.TheVariants as stages
use Rattle.site_programs.specs.declared.maker.SiteMaker.{SiteMaker}
use Rattle.connection_server.specs.Closing.{AllHaveCome, EndsBy}
use Rattle.connection_server.specs.Heeding.{StageHeeds}
use Rattle.connection_server.specs.Serving.{Ends, KeepsServing}
use Rattle.connection_server.specs.Stands.{Stand}
use Rattle.connection_server.specs.Turning.{ended_so, heeded, is_inside}
use Rattle.connection_server.specs.declared.connection.Connection.{Connection}

-- how a turn ends a connection: not at all, in bytes that are to come or otherwise; without memory, or in another way
data Way : Type 0 where
  waiting : Way
  on : Way
  without : Way
  other : Way

way_of : ShepherdTurn → Way
way_of turns.Bytes = waiting
way_of turns.Request = on
way_of turns.Outside = on
way_of turns.Windows = on
way_of turns.Inside = on
way_of turns.Program = on
way_of turns.Own = on
way_of turns.Output = on
way_of turns.Item = on
way_of (turns.Ended ends.Closed) = other
way_of (turns.Ended ends.Cut) = other
way_of (turns.Ended (ends.Refused why)) = other
way_of (turns.Ended ends.OutOfMemory) = without

goes_on : Way → Bool
goes_on waiting = true
goes_on on = true
goes_on without = false
goes_on other = false

waits : Way → Bool
waits waiting = true
waits on = false
waits without = false
waits other = false

wants : Way → Bool
wants waiting = false
wants on = false
wants without = true
wants other = false

ended_is_not_on : (end : EndKind) → goes_on (way_of (turns.Ended end)) ≡ false
unfolding goes_on way_of
ended_is_not_on ends.Closed = refl
ended_is_not_on ends.Cut = refl
ended_is_not_on (ends.Refused why) = refl
ended_is_not_on ends.OutOfMemory = refl

ended_is_no_wait : (end : EndKind) → waits (way_of (turns.Ended end)) ≡ false
unfolding waits way_of
ended_is_no_wait ends.Closed = refl
ended_is_no_wait ends.Cut = refl
ended_is_no_wait (ends.Refused why) = refl
ended_is_no_wait ends.OutOfMemory = refl

visit_is_no_wait : (v : Visit ActionCall) → waits (way_of (turn_by (visit_turn v))) ≡ false
unfolding waits way_of
visit_is_no_wait v = by (visit_turn v) where
  by : (t : Turn) → waits (way_of (turn_by t)) ≡ false
  by visit.Outside = refl
  by visit.Windows = refl
  by visit.Inside = refl
  by visit.Program = refl
  by visit.Own = refl
  by visit.Output = refl
  by visit.Over = refl

visit_goes_on : (v : Visit ActionCall) → goes_on (way_of (turn_by (visit_turn v))) ≡ true
unfolding goes_on way_of
visit_goes_on v = by (visit_turn v) where
  by : (t : Turn) → goes_on (way_of (turn_by t)) ≡ true
  by visit.Outside = refl
  by visit.Windows = refl
  by visit.Inside = refl
  by visit.Program = refl
  by visit.Own = refl
  by visit.Output = refl
  by visit.Over = refl

visit_on : (v : Visit ActionCall) → wants (way_of (turn_by (visit_turn v))) ≡ false
unfolding wants way_of
visit_on v = by (visit_turn v) where
  by : (t : Turn) → wants (way_of (turn_by t)) ≡ false
  by visit.Outside = refl
  by visit.Windows = refl
  by visit.Inside = refl
  by visit.Program = refl
  by visit.Own = refl
  by visit.Output = refl
  by visit.Over = refl

stage_of : (s : Shepherd ActionCall) → s.wants_memory ≡ false → turn s ≡ stage_turn s.stage s.received s.ended
stage_of s remembers = ap (λ (b : Bool). if b then turns.Ended ends.OutOfMemory else stage_turn s.stage s.received s.ended) remembers

-- where bytes are to come, nothing was put out at an end
pub bytes_nothing : (s : Shepherd ActionCall) → s.wants_memory ≡ false → turn s ≡ turns.Bytes → last_at s.stage ≡ []
unfolding goes_on way_of
bytes_nothing s remembers is = by s.stage (sym (stage_of s remembers) ∙ is) where
  by : (x : Stage ActionCall) → stage_turn x s.received s.ended ≡ turns.Bytes → last_at x ≡ []
  by stages.Resting at = refl
  by (stages.Serving v call) at = refl
  by (stages.Refusing why bytes) at = refl
  by (stages.Over end) at = absurd (true≢false (sym (ap (λ (t : ShepherdTurn). goes_on (way_of t)) at) ∙ ended_is_not_on end))

-- A connection waits for bytes: no request is open, what was received settles no request, and more bytes come.
record IsWaiting (s : Shepherd ActionCall) : Type 0 where
  pub at_rest : s.stage ≡ stages.Resting
  pub unsettled : settles (taken_of s.received) ≡ false
  pub unended : s.ended ≡ false

is_waiting : (s : Shepherd ActionCall) → s.wants_memory ≡ false → turn s ≡ turns.Bytes → IsWaiting s
unfolding waits way_of
is_waiting s remembers is = by s.stage refl (sym (stage_of s remembers) ∙ is) where
  by_length : (b : Bool) → waits (way_of (if b then turns.Ended ends.Closed else turns.Ended ends.Cut)) ≡ false
  by_length true = refl
  by_length false = refl

  at_rest : (settled over : Bool) → s.stage ≡ stages.Resting → settles (taken_of s.received) ≡ settled → s.ended ≡ over
      → (if settled then turns.Request else (if over then (if length s.received == 0 then turns.Ended ends.Closed else turns.Ended ends.Cut) else turns.Bytes)) ≡ turns.Bytes → IsWaiting s
  at_rest true over rests settled ended at = absurd (true≢false (sym (ap (λ (t : ShepherdTurn). waits (way_of t)) at)))
  at_rest false true rests settled ended at = absurd (true≢false (sym (ap (λ (t : ShepherdTurn). waits (way_of t)) at) ∙ by_length (length s.received == 0)))
  at_rest false false rests settled ended at = record { at_rest = rests; unsettled = settled; unended = ended }

  by : (x : Stage ActionCall) → s.stage ≡ x → stage_turn x s.received s.ended ≡ turns.Bytes → IsWaiting s
  by stages.Resting rests at = at_rest (settles (taken_of s.received)) s.ended rests refl refl at
  by (stages.Serving v call) rests at = absurd (true≢false (sym (ap (λ (t : ShepherdTurn). waits (way_of t)) at) ∙ visit_is_no_wait v))
  by (stages.Refusing why bytes) rests at = absurd (true≢false (sym (ap (λ (t : ShepherdTurn). waits (way_of t)) at)))
  by (stages.Over end) rests at = absurd (true≢false (sym (ap (λ (t : ShepherdTurn). waits (way_of t)) at) ∙ ended_is_no_wait end))

pub bytes_unended : (s : Shepherd ActionCall) → s.wants_memory ≡ false → turn s ≡ turns.Bytes → s.ended ≡ false
bytes_unended s remembers is = (is_waiting s remembers is).unended

-- where no more bytes came, it would have ended
pub bytes_end : (s : Shepherd ActionCall) → s.wants_memory ≡ false → turn s ≡ turns.Bytes
    → (turn (record s { ended = true }) ≡ turns.Ended ends.Closed) ⊎ (turn (record s { ended = true }) ≡ turns.Ended ends.Cut)
bytes_end s remembers is = by (length s.received == 0) refl where
  w : IsWaiting s
  w = is_waiting s remembers is

  over : turn (record s { ended = true }) ≡ (if length s.received == 0 then turns.Ended ends.Closed else turns.Ended ends.Cut)
  over =
      stage_of (record s { ended = true }) remembers ∙ ap (λ (x : Stage ActionCall). stage_turn x s.received true) w.at_rest
      ∙ ap (λ (b : Bool). if b then turns.Request else (if length s.received == 0 then turns.Ended ends.Closed else turns.Ended ends.Cut)) w.unsettled

  by : (b : Bool) → (length s.received == 0) ≡ b
      → (turn (record s { ended = true }) ≡ turns.Ended ends.Closed) ⊎ (turn (record s { ended = true }) ≡ turns.Ended ends.Cut)
  by true none = inl (over ∙ ap (λ (b : Bool). if b then turns.Ended ends.Closed else turns.Ended ends.Cut) none)
  by false some = inr (over ∙ ap (λ (b : Bool). if b then turns.Ended ends.Closed else turns.Ended ends.Cut) some)

-- behind a request that closes its connection no more come
pub all_come : (fed : List ℕ) (heads : List Head) (written : List ℕ) (items : List Item) (s : Shepherd ActionCall) (end : EndKind) → Standing fed heads written items s → s.stage ≡ stages.Over end → AllHaveCome fed
all_come fed heads written items s end stands at more = so more ∙ sym (so []) ∙ ap requests (append-nil fed) where
  so : (more : List ℕ) → requests (fed ++ more) ≡ all_before (heads_of stands.served ++ stands.opened) (ended (ending_of end))
  so more = stands.requests_are more ∙ ap (λ (x : Stage ActionCall). all_before (heads_of stands.served ++ stands.opened) (coming x (s.received ++ more))) at

-- the end that a turn tells of
end_of : ShepherdTurn → EndKind
end_of turns.Bytes = ends.Closed
end_of turns.Request = ends.Closed
end_of turns.Outside = ends.Closed
end_of turns.Windows = ends.Closed
end_of turns.Inside = ends.Closed
end_of turns.Program = ends.Closed
end_of turns.Own = ends.Closed
end_of turns.Output = ends.Closed
end_of turns.Item = ends.Closed
end_of (turns.Ended end) = end

-- where a connection has ended, no more bytes come, or it has ended at its last step
ended_by : (s : Shepherd ActionCall) (end : EndKind) → s.wants_memory ≡ false → turn s ≡ turns.Ended end → (s.ended ≡ true) ⊎ (s.stage ≡ stages.Over end)
unfolding goes_on way_of end_of
ended_by s end remembers is = by s.stage refl (sym (stage_of s remembers) ∙ is) where
  at_rest : (settled over : Bool) → s.ended ≡ over
      → (if settled then turns.Request else (if over then (if length s.received == 0 then turns.Ended ends.Closed else turns.Ended ends.Cut) else turns.Bytes)) ≡ turns.Ended end → s.ended ≡ true
  at_rest true over ended at = absurd (true≢false (ap (λ (t : ShepherdTurn). goes_on (way_of t)) at ∙ ended_is_not_on end))
  at_rest false true ended at = ended
  at_rest false false ended at = absurd (true≢false (ap (λ (t : ShepherdTurn). goes_on (way_of t)) at ∙ ended_is_not_on end))

  by : (x : Stage ActionCall) → s.stage ≡ x → stage_turn x s.received s.ended ≡ turns.Ended end → (s.ended ≡ true) ⊎ (s.stage ≡ stages.Over end)
  by stages.Resting stays at = inl (at_rest (settles (taken_of s.received)) s.ended refl at)
  by (stages.Serving v call) stays at = absurd (true≢false (sym (visit_goes_on v) ∙ ap (λ (t : ShepherdTurn). goes_on (way_of t)) at ∙ ended_is_not_on end))
  by (stages.Refusing why bytes) stays at = absurd (true≢false (ap (λ (t : ShepherdTurn). goes_on (way_of t)) at ∙ ended_is_not_on end))
  by (stages.Over e) stays at = inr (stays ∙ ap (λ (t : ShepherdTurn). stages.Over (end_of t)) at)

-- what a connection heeds behind a step in the container, by its turn then
at_turn : (s : Shepherd ActionCall) (v : Visit ActionCall) (call : Option AskedCall) → s.wants_memory ≡ false → s.stage ≡ stages.Serving v call → turn s ≡ turn_by (visit_turn v)
at_turn s v call remembers at = stage_of s remembers ∙ ap (λ (x : Stage ActionCall). stage_turn x s.received s.ended) at

pub heeded_before : (s : Shepherd ActionCall) (v : Visit ActionCall) (call : Option AskedCall) (found before : Bool) → s.wants_memory ≡ false → s.stage ≡ stages.Serving v call → is_inside (turn_by (visit_turn v)) ≡ true
    → heeded (turn s) before found ≡ before
heeded_before s v call found before remembers at within = ap (λ (b : Bool). if b then before else found) (ap is_inside (at_turn s v call remembers at) ∙ within)

pub heeded_found : (s : Shepherd ActionCall) (v : Visit ActionCall) (call : Option AskedCall) (found before : Bool) → s.wants_memory ≡ false → s.stage ≡ stages.Serving v call → is_inside (turn_by (visit_turn v)) ≡ false
    → heeded (turn s) before found ≡ found
heeded_found s v call found before remembers at within = ap (λ (b : Bool). if b then before else found) (ap is_inside (at_turn s v call remembers at) ∙ within)

-- a step that keeps its request but for its tries keeps how far the container had come
pub still_holds : (v w : Visit ActionCall) → IsServedStill v w → w.holds ≡ v.holds
still_holds v w still = by v.work still where
  by : (x : Work ActionCall) → OnServing x (λ tries program. (after : TriesValue) × (w ≡ record v { work = ServingBy after program })) → w.holds ≡ v.holds
  by Reading s = absurd s
  by Opening s = absurd s
  by (ServingBy tries program) s = ap (λ (y : Visit ActionCall). y.holds) s.1
  by (Committed place again shown) s = absurd s
  by (Decided became) s = absurd s
  by (Answered fate bytes) s = absurd s
  by (Left fate) s = absurd s

module _ {L R : Type 0} (calls : L → LinkEvent → L → Type 0) (gives : Gives R) (service : Service SiteMaker) (begun now : Stand) (conn : Connection) (k : KeepsServing calls gives service begun now conn) where
  no_want : (x : Stage ActionCall) → conn.shepherd.stage ≡ x → stage_turn x conn.shepherd.received conn.shepherd.ended ≡ turns.Ended ends.OutOfMemory → ⊥
  unfolding wants way_of
  no_want stages.Resting at is = true≢false (sym (ap (λ (t : ShepherdTurn). wants (way_of t)) is) ∙ never (settles (taken_of conn.shepherd.received)) conn.shepherd.ended) where
    last : (b : Bool) → wants (way_of (if b then turns.Ended ends.Closed else turns.Ended ends.Cut)) ≡ false
    last true = refl
    last false = refl

    never : (settled ended : Bool) → wants (way_of (if settled then turns.Request else (if ended then (if length conn.shepherd.received == 0 then turns.Ended ends.Closed else turns.Ended ends.Cut) else turns.Bytes))) ≡ false
    never true ended = refl
    never false true = last (length conn.shepherd.received == 0)
    never false false = refl
  no_want (stages.Serving v call) at is = true≢false (sym (ap (λ (t : ShepherdTurn). wants (way_of t)) is) ∙ visit_on v)
  no_want (stages.Refusing why bytes) at is = true≢false (sym (ap (λ (t : ShepherdTurn). wants (way_of t)) is))
  no_want (stages.Over ends.Closed) at is = true≢false (sym (ap (λ (t : ShepherdTurn). wants (way_of t)) is))
  no_want (stages.Over ends.Cut) at is = true≢false (sym (ap (λ (t : ShepherdTurn). wants (way_of t)) is))
  no_want (stages.Over (ends.Refused why)) at is = true≢false (sym (ap (λ (t : ShepherdTurn). wants (way_of t)) is))
  no_want (stages.Over ends.OutOfMemory) at is = subst (λ (x : Stage ActionCall). StageHeeds now.container.seen conn.stopped x) at k.heeds.is_open

  -- how it ended: no more bytes came, or at its last step
  closed_by : (conn.shepherd.ended ≡ true) ⊎ (conn.shepherd.stage ≡ stages.Over ends.Closed) → EndsBy ends.Closed now.left k.course.fed now.container.seen conn.items.items
  closed_by (inl ended) = inl (k.served.ended ended, k.heeds.running)
  closed_by (inr over) =
      inr (all_come k.course.fed k.served.serves.heads k.course.written k.course.items conn.shepherd ends.Closed k.served.serves.stands over, inl k.heeds.running)

  cut_by : (conn.shepherd.ended ≡ true) ⊎ (conn.shepherd.stage ≡ stages.Over ends.Cut) → HasEnded now.left
  cut_by (inl ended) = k.served.ended ended
  cut_by (inr over) = absurd (subst (λ (x : Stage ActionCall). StageHeeds now.container.seen conn.stopped x) over k.heeds.is_open)

  -- a connection that has ended
  pub ended_comes : (end : EndKind) → turn conn.shepherd ≡ turns.Ended end → Ends calls gives service begun (ended_so end) now conn
  ended_comes ends.Closed is = record {
    course = k.course;
    served = k.served;
    writes = k.writes;
    ended = is;
    heeds = closed_by (ended_by conn.shepherd ends.Closed k.served.serves.remembers is);
  }
  ended_comes ends.Cut is = record {
    course = k.course;
    served = k.served;
    writes = k.writes;
    ended = is;
    heeds = (cut_by (ended_by conn.shepherd ends.Cut k.served.serves.remembers is), k.heeds.running);
  }
  ended_comes (ends.Refused why) is = record { course = k.course; served = k.served; writes = k.writes; ended = is; heeds = k.heeds.running }
  ended_comes ends.OutOfMemory is = absurd (no_want conn.shepherd.stage refl (sym (stage_of conn.shepherd k.served.serves.remembers) ∙ is))
