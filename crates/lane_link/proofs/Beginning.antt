-- Twins begin and stay, and what they answer.
use Rattle.std.proofs.Common.{◌≡◌, inl, inr, ◌∙◌, ◌≤◌, refl, sym, ap, subst, ℕ, Bool, true, false, IsTrue, if◌then◌else◌, List, [], ◌∷◌, length, map, Option, Some, None, Result, Ok, Err, OnOk, IfErr}
use Rattle.std.specs.Prelude.{slice_get}
use Rattle.std.proofs.lemmas.List.{length-map}
use Rattle.std.proofs.lemmas.List.Elements.{All-head, All-tail}
use Rattle.crash_base.specs.declared.numbers.Moment.{Moment}
use Rattle.crash_base.specs.declared.numbers.Version.{Version}
use Rattle.send_windows.specs.Facts.{given}
use Rattle.send_windows.specs.Passes.{hushed}
use Rattle.send_windows.specs.Windows.{AreTaken, WindowsValue, after_spend, taken}
use Rattle.send_windows.specs.declared.pass.Pass.{Pass}
use Rattle.send_windows.specs.declared.windows.TakeRefusal.{TakeRefusal}
use Rattle.send_windows.specs.declared.windows.TakeRefusal.TheVariants.{Overload, OutOfMemory}
use Rattle.session_cookie.specs.Cookie.{AreHolders}
use Rattle.session_cookie.specs.declared.cookie.Cookie.{Cookie}
use Rattle.session_cookie.specs.declared.cookie.TheConstants.{MAX_HOLDERS}
use Rattle.ssm_frames.specs.declared.frame.Frame.TheVariants.{Put}
use Rattle.ssm_stub.specs.Ends.{bricks_of}
use Rattle.ssm_stub.specs.Reads.{ReadState, read_answer, read_start}
use Rattle.ssm_stub.specs.Writes.{WriteState, write_answer, write_start}
use Rattle.ssm_stub.specs.declared.read_call.ReadRefusal.{ReadRefusal}
use Rattle.ssm_world.specs.declared.call.Call.{Call}
use Rattle.ssm_world.specs.declared.call.Call.TheVariants as call
use Rattle.ssm_world.specs.declared.event.WorldEvent.{WorldEvent}
use Rattle.ssm_world.specs.Claims.{IsAcknowledged, IsRight, ReadAfter, ReadOrder, read_world, told_since}
use Rattle.ssm_world.specs.Worlds.{IsMade, WorldValue, after, is_new, may_read, may_write, new_world, with_new_call}
use Rattle.ssm_world.proofs.Lists.{get_new}
use Rattle.session_way.specs.declared.session_write.WriteOrder.{WriteOrder}
use Rattle.session_way.specs.declared.way.SessionWay.{SessionWay}
use Rattle.session_way.specs.declared.way.SessionWay.TheVariants.{Resting, Reading, Ordered, Writing, Settling, Holding}
use Rattle.session_way.specs.Way.{IsRefused, StepsWindows, after_give_back, held, passes_for, settled}
use Rattle.session_way.specs.Writing.{passes_spent, write_begun}
use Rattle.session_lanes.specs.Counts.{silent_by}
use Rattle.session_lanes.specs.Lanes.{HasLanes, LanesState, begun_read, begun_write, silent_once}
use Rattle.session_lanes.specs.Lent.{LentState, with_windows, without_windows}
use Rattle.session_lanes.specs.Sound.{LanesAreSound}
use Rattle.session_lanes.specs.Steps.{LanesStep, after_step, after_steps, is_turn_of}
use Rattle.session_lanes.proofs.Beginning.{may_begin_read, may_begin_write}
use Rattle.session_lanes.proofs.CallsEnd.{left_alone}
use Rattle.session_lanes.proofs.Ending.{MadeBy, made_on, turn_made}
use Rattle.session_lanes.proofs.Keeping.{step_keeps}
use Rattle.session_lanes.proofs.LanesStay.{lanes_counted}
use Rattle.session_lanes.proofs.SpentPasses.{spent_as_many}
use Rattle.session_lanes.proofs.StepCases.{step_cases}
use Rattle.ssm_world.specs.Worlds.{next_of}
use Rattle.lane_link.specs.Twins.{ByEvents, IsTwin, NoneTurns, ReadsAfter, call_held}

-- the call that begins in a world is the last
begun_there : (w : WorldValue) (c : Call) (b : Bool) → b ≡ true → slice_get (if b then with_new_call w c else w).calls (length w.calls) ≡ Some c
begun_there w c b is = ap (λ (b : Bool). slice_get (if b then with_new_call w c else w).calls (length w.calls)) is ∙ get_new w.calls c

pub read_begins : (st : LanesState) (nonce : Version) (now : Moment) (cookie : Cookie) → is_new st.world nonce ≡ true → AreHolders cookie.bricks → IsTwin (begun_read st nonce now cookie) (length st.world.calls) (Reading (read_start now nonce cookie))
read_begins st nonce now cookie new are = record {
  held = call.Read (read_start now nonce cookie);
  holds = refl;
  there = begun_there st.world (call.Read (read_start now nonce cookie)) (may_read st.world nonce cookie.bricks) (may_begin_read st.world nonce cookie.bricks are ∙ new);
}

pub write_begins : (st : LanesState) (order : WriteOrder) (most : ℕ) (passes : List Pass) → is_new st.world order.nonce ≡ true → 1 ≤ st.windows.wq → most ≤ MAX_HOLDERS → AreTaken st.windows.wq most passes
    → IsTwin (begun_write st order.nonce order.key order.value order.expiry passes) (length st.world.calls) (Writing (write_begun order st.windows.wq passes))
write_begins st order most passes new some few are =
    let c : Call = call.Write (write_start (bricks_of passes) st.windows.wq order.nonce order.key order.value order.expiry) in
    record {
      held = c;
      holds = refl;
      there = begun_there st.world c (may_write st.world order.nonce (bricks_of passes) st.windows.wq) (may_begin_write st.world order.nonce passes st.windows.wq most new some few are);
    }

calls_stay : (steps : List LanesStep) (st : LanesState) (n : ℕ) (c : Call) → LanesAreSound st → slice_get st.world.calls n ≡ Some c → NoneTurns n steps → slice_get (after_steps st steps).world.calls n ≡ Some c
calls_stay [] st n c sound there none = there
calls_stay (step ∷ steps) st n c sound there none =
    let N : LanesStep → Type 0 = λ s. is_turn_of n s ≡ false in
    calls_stay steps (after_step st step) n c (step_keeps st step sound) (left_alone st step n c sound there (All-head N step steps none)) (All-tail N step steps none)

pub twin_stays : (st : LanesState) (steps : List LanesStep) (n : ℕ) (way : SessionWay) → LanesAreSound st → IsTwin st n way → NoneTurns n steps → IsTwin (after_steps st steps) n way
twin_stays st steps n way sound twin none = record { held = twin.held; holds = twin.holds; there = calls_stay steps st n twin.held sound twin.there none }

pub twin_settles : (st : LanesState) (n : ℕ) (way : SessionWay) → IsTwin st n way → IsTwin st n (settled way)
twin_settles st n Resting twin = twin
twin_settles st n (Reading r) twin = twin
twin_settles st n (Ordered order) twin = twin
twin_settles st n (Writing w) twin = record { held = twin.held; holds = twin.holds; there = twin.there }
twin_settles st n (Settling w) twin = twin
twin_settles st n (Holding passes) twin = twin

-- what is done with lanes is events of their world
step_made : (st : LanesState) (s : LanesStep) → MadeBy st.world (after_step st s).world
step_made st s = step_cases (λ later. MadeBy st.world later.world) st s (record {
  same = ([], refl);
  windowed = λ windows. ([], refl);
  happens = λ e untold begun. (e ∷ [], refl);
  turned = λ n c is there. turn_made st n (next_of c);
  changed = λ windows brick lane new at names. ([], refl);
})

steps_made : (steps : List LanesStep) (st : LanesState) → MadeBy st.world (after_steps st steps).world
steps_made [] st = ([], refl)
steps_made (s ∷ steps) st = made_on st.world (after_step st s).world (after_steps (after_step st s) steps).world (step_made st s) (steps_made steps (after_step st s))

pub steps_by_events : (st : LanesState) (steps : List LanesStep) → ByEvents st (after_steps st steps)
steps_by_events st steps = steps_made steps st

pub silence_sound : (st : LanesState) (brick : ℕ) → LanesAreSound st → LanesAreSound (silent_once st brick)
silence_sound st brick sound = record { made = sound.made; lanes = lanes_counted st (silent_by brick st.counts) sound.lanes }

-- the laws of worlds by which a read is right
abbrev pub RightLaw : Type 0
RightLaw = (bricks : ℕ) (earlier later : List WorldEvent) (order : ReadOrder) (value : List ℕ) (read : ReadState) (answer : Result (List ℕ) ReadRefusal)
    → ReadAfter (after (new_world bricks) earlier) order value later read → read_answer read ≡ Some answer
    → IsRight (read_world (after (new_world bricks) earlier) order later) order value (told_since (after (new_world bricks) earlier) order later) answer

abbrev pub HoldersLaw : Type 0
HoldersLaw = (bricks : ℕ) (events : List WorldEvent) (cookie : Cookie) (value : List ℕ) → IsAcknowledged (after (new_world bricks) events) cookie value → AreHolders cookie.bricks

pub reads_right : RightLaw → HoldersLaw → (earlier later : LanesState) (order : ReadOrder) (value : List ℕ) (events : List WorldEvent) (read : ReadState) (answer : Result (List ℕ) ReadRefusal)
    → ReadsAfter earlier order value events later → IsTwin later (length earlier.world.calls) (Reading read) → read_answer read ≡ Some answer
    → IsRight later.world order value (told_since earlier.world order events) answer
reads_right law holders earlier later order value events read answer reads twin answers =
    let w : WorldValue = earlier.world in
    let made : IsMade w = reads.sound.made in
    let is : later.world ≡ read_world w order events = reads.since in
    let H : WorldValue → Type 0 = λ v. IsAcknowledged v order.cookie value → AreHolders order.cookie.bricks in
    let are : AreHolders order.cookie.bricks = subst H (sym made.made) (holders made.bricks made.events order.cookie value) reads.acknowledged in
    let there : slice_get later.world.calls (length w.calls) ≡ Some (call.Read read) = twin.there ∙ sym twin.holds in
    let R : WorldValue → Type 0 = λ v. ReadAfter v order value events read → IsRight (read_world v order events) order value (told_since v order events) answer in
    let right : R w = subst R (sym made.made) (λ after_it. law made.bricks made.events events order value read answer after_it answers) in
    let gives : IsRight (read_world w order events) order value (told_since w order events) answer = right (record {
      acknowledged = reads.acknowledged;
      may_begin = may_begin_read w order.nonce order.cookie.bricks are ∙ reads.new;
      there = ap (λ (v : WorldValue). slice_get v.calls (length w.calls)) (sym is) ∙ there;
    }) in
    subst (λ (v : WorldValue). IsRight v order value (told_since w order events) answer) (sym is) gives

pub written_acknowledged : (st : LanesState) (n : ℕ) (way : SessionWay) (order : WriteOrder) (least : ℕ) (passes : List Pass) (here : WriteState) (cookie : Cookie)
    → IsTwin st n way → call_held way ≡ Some (call.Write here) → here ≡ record ((write_begun order least passes).write) { asks = here.asks }
    → write_answer here ≡ Some (Ok cookie) → IsAcknowledged st.world cookie order.value
written_acknowledged st n way order least passes here cookie twin holds is answers =
    let P : WriteState → Type 0 = λ s. s.ask ≡ Put s.nonce s.key s.nonce s.expiry order.value in
    record {
      place = n;
      write = here;
      there = twin.there ∙ sym twin.holds ∙ holds;
      answers = answers;
      value_is = subst P (sym is) refl;
    }

-- windows of as many bricks fit
fits : (st : LanesState) (windows : WindowsValue) → HasLanes st → length windows.facts ≡ length st.windows.facts → windows.holds ≡ st.windows.holds → HasLanes (record st { windows = windows })
fits st windows has bricks holds = record {
  each = has.each ∙ sym bricks;
  few = has.few;
  holds = subst (λ (b : Bool). IsTrue b) (sym holds) has.holds;
}

spent_fit : (st : LanesState) (windows : WindowsValue) (passes : List Pass) → HasLanes st → windows ≡ after_spend st.windows passes → HasLanes (record st { windows = windows })
spent_fit st windows passes has is = fits st windows has (ap (λ (w : WindowsValue). length w.facts) is ∙ spent_as_many passes st.windows.facts) (ap (λ (w : WindowsValue). w.holds) is)

taken_fit : (st : LanesState) (windows : WindowsValue) (passes : List Pass) → HasLanes st → windows ≡ taken st.windows passes → HasLanes (record st { windows = windows })
taken_fit st windows passes has is = fits st windows has (ap (λ (w : WindowsValue). length w.facts) is ∙ length-map st.windows.facts (given passes)) (ap (λ (w : WindowsValue). w.holds) is)

pub step_fits : (st : LanesState) (way later : SessionWay) (windows : WindowsValue) → HasLanes st → StepsWindows way st.windows later windows → HasLanes (record st { windows = windows })
step_fits st Resting later windows has steps = absurd steps
step_fits st (Reading r) later windows has steps = absurd steps
step_fits st (Ordered order) later windows has steps = taken_fit st windows (passes_for order st.windows) has steps.after
step_fits st (Writing w) later windows has steps = absurd steps
step_fits st (Settling w) later windows has steps = spent_fit st windows (passes_spent w) has steps.1
step_fits st (Holding passes) later windows has steps = spent_fit st windows (map hushed passes) has steps.1

pub refused_fit : (st : LanesState) (way later : SessionWay) (windows : WindowsValue) (refusal : TakeRefusal) → HasLanes st → IsRefused way st.windows later windows refusal → HasLanes (record st { windows = windows })
refused_fit st Resting later windows refusal has refused = absurd refused
refused_fit st (Reading r) later windows refusal has refused = absurd refused
refused_fit st (Ordered order) later windows (Overload full) has refused = fits st windows has (ap (λ (w : WindowsValue). length w.facts) refused.1.2) (ap (λ (w : WindowsValue). w.holds) refused.1.2)
refused_fit st (Ordered order) later windows OutOfMemory has refused = elim refused [
  | inl same ↦ fits st windows has (ap (λ (w : WindowsValue). length w.facts) same.1) (ap (λ (w : WindowsValue). w.holds) same.1)
  | inr holding ↦ taken_fit st windows (passes_for order st.windows) has holding.after
]
refused_fit st (Writing w) later windows refusal has refused = absurd refused
refused_fit st (Settling w) later windows refusal has refused = absurd refused
refused_fit st (Holding passes) later windows refusal has refused = absurd refused

-- what a way answers of its windows, they fit
pub answered_fit : {X : Type 0} (st : LanesState) (way later : SessionWay) (windows : WindowsValue) (answer : Result X TakeRefusal) → HasLanes st → OnOk answer (StepsWindows way st.windows later windows)
    → IfErr answer (λ refusal. IsRefused way st.windows later windows refusal) → HasLanes (record st { windows = windows })
answered_fit st way later windows (Ok outcome) has ok err = step_fits st way later windows has ok
answered_fit st way later windows (Err refusal) has ok err = refused_fit st way later windows refusal has err

pub back_fits : (st : LanesState) (way : SessionWay) → HasLanes st → HasLanes (record st { windows = after_give_back st.windows (held way) })
back_fits st way has = go (held way) where
  go : (o : Option (List Pass)) → HasLanes (record st { windows = after_give_back st.windows o })
  go None = has
  go (Some passes) = spent_fit st (after_spend st.windows passes) passes has refl

-- the windows that were lent, after a way made a step of them
pub fit_again : {X : Type 0} (lent : LentState) (st : LanesState) (old new : WindowsValue) (way later : SessionWay) (answer : Result X TakeRefusal) → lent ≡ without_windows st → old ≡ st.windows → HasLanes st
    → OnOk answer (StepsWindows way old later new) → IfErr answer (λ refusal. IsRefused way old later new refusal) → HasLanes (with_windows lent new)
fit_again {X} lent st old new way later answer is same has ok err =
    let O : WindowsValue → Type 0 = λ w. OnOk answer (StepsWindows way w later new) in
    let E : WindowsValue → Type 0 = λ w. IfErr answer (λ refusal. IsRefused way w later new refusal) in
    subst (λ (l : LentState). HasLanes (with_windows l new)) (sym is) (answered_fit st way later new answer has (subst O same ok) (subst E same err))

-- and after it gave back what it held
pub fit_back : (lent : LentState) (st : LanesState) (old new : WindowsValue) (way : SessionWay) → lent ≡ without_windows st → old ≡ st.windows → HasLanes st
    → new ≡ after_give_back old (held way) → HasLanes (with_windows lent new)
fit_back lent st old new way is same has back =
    let given_back : new ≡ after_give_back st.windows (held way) = back ∙ ap (λ (w : WindowsValue). after_give_back w (held way)) same in
    subst (λ (l : LentState). HasLanes (with_windows l new)) (sym is) (subst (λ (w : WindowsValue). HasLanes (record st { windows = w })) (sym given_back) (back_fits st way has))
