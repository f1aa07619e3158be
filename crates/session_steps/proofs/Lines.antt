-- What is known of a line that was done.
use Rattle.std.proofs.Common.{◌≡◌, ◌⊎◌, inl, inr, ℕ, Bool, true, false, not, if◌then◌else◌, nat_lt, List, length, Option, Some, None, Result, Ok, Err, refl, ap}
use Rattle.std.specs.Prelude.{slice_get}
use Rattle.scenario_text.specs.Answer.{Answer, Done, refused_if, or_refused}
use Rattle.session_cookie.specs.declared.cookie.Cookie.{Cookie}
use Rattle.send_windows.specs.Facts.{open_count, full_facts}
use Rattle.send_windows.specs.Windows.{chosen, refused}
use Rattle.send_windows.specs.declared.pass.Pass.{Pass}
use Rattle.ssm_stub.specs.Writes.{WriteState, write_answer}
use Rattle.ssm_stub.specs.Reads.{ReadState, read_answer}
use Rattle.ssm_stub.specs.declared.cause.BrickCause.{BrickCause}
use Rattle.ssm_stub.specs.declared.read_call.ReadRefusal.{ReadRefusal}
use Rattle.ssm_stub.specs.declared.write_call.WriteRefusal.{WriteRefusal}
use Rattle.ssm_stub.specs.declared.write_call.WriteRefusal.TheVariants as missing
use Rattle.ssm_world.specs.declared.call.Call.{Call}
use Rattle.ssm_world.specs.declared.call.Call.TheVariants as call
use Rattle.ssm_world.specs.Worlds.{is_new, may_read}
use Rattle.session_lanes.specs.Lane.{LaneState, lane_at}
use Rattle.session_steps.specs.Sessions.{SessionsState, with_store, nonce, drawn, cookie_of, with_cookie, write_of, read_of, spent_by, written_as, told_write, store_written, answered_write, write_line, fetched_text, store_read, told_read, answered_read, fetch_line, on_lane}
use Rattle.session_lanes.specs.Lanes.{LanesState}
use Rattle.session_steps.specs.Texts.{version_text, overload_text, missed_text}

-- an answer that goes on with something that is there
pub record GoesOn {A S : Type 0} (o : Option A) (f : A → Answer S) (t : S) (text : List ℕ) : Type 0 where
  pub item : A
  pub there : o ≡ Some item
  pub done : f item ≡ Done t text

pub goes_on_with : {A S : Type 0} (o : Option A) (f : A → Answer S) (t : S) (text : List ℕ) → or_refused o f ≡ Done t text → GoesOn o f t text
goes_on_with None f t text is = absurd (cc)
goes_on_with (Some a) f t text is = record { item = a; there = refl; done = is }

pub not_refused : {S : Type 0} (b : Bool) (answer : Answer S) (t : S) (text : List ℕ) → refused_if b answer ≡ Done t text → (b ≡ false) × (answer ≡ Done t text)
not_refused true answer t text is = absurd (cc)
not_refused false answer t text is = (refl, is)

pub done_state : {S : Type 0} (s t : S) (x text : List ℕ) → Done s x ≡ Done t text → (t ≡ s) × (text ≡ x)
done_state s t x text is = (cc, cc)

pub not_false : (b : Bool) → not b ≡ false → b ≡ true
not_false true is = refl
not_false false is = absurd (cc)

-- a line that changes the store, or a brick's lane, was done
pub record OnLane (s : SessionsState) (brick : ℕ) (line : LanesState → LaneState → Answer SessionsState) (t : SessionsState) (text : List ℕ) : Type 0 where
  pub store : LanesState
  pub store_is : s.store ≡ Some store
  pub lane : LaneState
  pub lane_is : lane_at store.lanes brick ≡ Some lane
  pub done : line store lane ≡ Done t text

pub on_a_lane : (s : SessionsState) (brick : ℕ) (line : LanesState → LaneState → Answer SessionsState) (t : SessionsState) (text : List ℕ) → on_lane s brick line ≡ Done t text → OnLane s brick line t text
on_a_lane s brick line t text is =
    let first = goes_on_with s.store (λ st. or_refused (lane_at st.lanes brick) (λ lane. line st lane)) t text is in
    let second = goes_on_with (lane_at first.item.lanes brick) (λ lane. line first.item lane) t text first.done in
    record { store = first.item; store_is = first.there; lane = second.item; lane_is = second.there; done = second.done }

-- the passes of a write, and the store after it went on to its end
abbrev pub passes_of : SessionsState → LanesState → List Pass
passes_of s st = chosen st.windows s.serial

abbrev pub store_after_write : SessionsState → ℕ → List ℕ → LanesState → LanesState
store_after_write s key value st = store_written s key value (passes_of s st) st

-- a write for which too few windows are open
pub record IsOverload (s : SessionsState) (key : ℕ) (st : LanesState) (t : SessionsState) (text : List ℕ) : Type 0 where
  pub full : nat_lt (open_count st.windows.facts) st.windows.wq ≡ true
  pub state_is : t ≡ with_store (drawn s) (record st { windows = refused st.windows })
  pub text_is : text ≡ overload_text key (full_facts st.windows.facts)

-- a write that came to its answer
pub record HasAnswered (s : SessionsState) (key : ℕ) (value : List ℕ) (st : LanesState) (t : SessionsState) (text : List ℕ) : Type 0 where
  pub enough : nat_lt (open_count st.windows.facts) st.windows.wq ≡ false
  pub write : WriteState
  pub there : slice_get (store_after_write s key value st).world.calls (length st.world.calls) ≡ Some (call.Write write)
  pub answer : Result Cookie WriteRefusal
  pub answers : write_answer write ≡ Some answer
  pub done : written_as (with_store (drawn s) (spent_by write (passes_of s st) (store_after_write s key value st))) key answer ≡ Done t text

-- a write line that was done
pub record WriteDone (s : SessionsState) (key : ℕ) (value : List ℕ) (t : SessionsState) (text : List ℕ) : Type 0 where
  pub store : LanesState
  pub store_is : s.store ≡ Some store
  pub new : is_new store.world (nonce s) ≡ true
  pub by : IsOverload s key store t text ⊎ HasAnswered s key value store t text

write_there : (o : Option Call) (write : WriteState) → write_of o ≡ Some write → o ≡ Some (call.Write write)
write_there None write is = absurd (cc)
write_there (Some (call.Write w)) write is = let same : w ≡ write = cc in ap (λ x. Some (call.Write x)) same
write_there (Some (call.Read r)) write is = absurd (cc)

read_there : (o : Option Call) (read : ReadState) → read_of o ≡ Some read → o ≡ Some (call.Read read)
read_there None read is = absurd (cc)
read_there (Some (call.Write w)) read is = absurd (cc)
read_there (Some (call.Read r)) read is = let same : r ≡ read = cc in ap (λ x. Some (call.Read x)) same

answered_done : (s : SessionsState) (key : ℕ) (value : List ℕ) (st : LanesState) (t : SessionsState) (text : List ℕ) → nat_lt (open_count st.windows.facts) st.windows.wq ≡ false
    → answered_write (drawn s) key (passes_of s st) (length st.world.calls) (store_after_write s key value st) ≡ Done t text → HasAnswered s key value st t text
answered_done s key value st t text enough is =
    let after : LanesState = store_after_write s key value st in
    let first = goes_on_with (write_of (slice_get after.world.calls (length st.world.calls))) (λ write. told_write (with_store (drawn s) (spent_by write (passes_of s st) after)) key write) t text is in
    let second = goes_on_with (write_answer first.item) (λ answer. written_as (with_store (drawn s) (spent_by first.item (passes_of s st) after)) key answer) t text first.done in
    record {
      enough = enough;
      write = first.item;
      there = write_there (slice_get after.world.calls (length st.world.calls)) first.item first.there;
      answer = second.item;
      answers = second.there;
      done = second.done;
    }

pub write_done : (s : SessionsState) (key : ℕ) (value : List ℕ) (t : SessionsState) (text : List ℕ) → write_line s key value ≡ Done t text → WriteDone s key value t text
unfolding write_line
write_done s key value t text is =
    let first : GoesOn s.store rest t text = goes_on_with s.store rest t text is in
    let st : LanesState = first.item in
    let second = not_refused (not (is_new st.world (nonce s))) (either st (nat_lt (open_count st.windows.facts) st.windows.wq)) t text first.done in
    record {
      store = st;
      store_is = first.there;
      new = not_false (is_new st.world (nonce s)) second.0;
      by = go st (nat_lt (open_count st.windows.facts) st.windows.wq) refl second.1;
    }
  where
    either : LanesState → Bool → Answer SessionsState
    either st full =
        if full
        then Done (with_store (drawn s) (record st { windows = refused st.windows })) (overload_text key (full_facts st.windows.facts))
        else answered_write (drawn s) key (passes_of s st) (length st.world.calls) (store_after_write s key value st)

    rest : LanesState → Answer SessionsState
    rest st = refused_if (not (is_new st.world (nonce s))) (either st (nat_lt (open_count st.windows.facts) st.windows.wq))

    go : (st : LanesState) (full : Bool) → nat_lt (open_count st.windows.facts) st.windows.wq ≡ full → either st full ≡ Done t text → IsOverload s key st t text ⊎ HasAnswered s key value st t text
    go st true at is =
        let same = done_state (with_store (drawn s) (record st { windows = refused st.windows })) t (overload_text key (full_facts st.windows.facts)) text is in
        inl (record { full = at; state_is = same.0; text_is = same.1 })
    go st false at is = inr (answered_done s key value st t text at is)

-- a fetch line that was done
pub record FetchDone (s : SessionsState) (key : ℕ) (t : SessionsState) (text : List ℕ) : Type 0 where
  pub cookie : Cookie
  pub cookie_is : cookie_of s key ≡ Some cookie
  pub store : LanesState
  pub store_is : s.store ≡ Some store
  pub may : may_read store.world (nonce s) cookie.bricks ≡ true
  pub read : ReadState
  pub there : slice_get (store_read s cookie store).world.calls (length store.world.calls) ≡ Some (call.Read read)
  pub answer : Result (List ℕ) ReadRefusal
  pub answers : read_answer read ≡ Some answer
  pub state_is : t ≡ with_store (drawn s) (store_read s cookie store)
  pub text_is : text ≡ fetched_text key answer

pub fetch_done : (s : SessionsState) (key : ℕ) (t : SessionsState) (text : List ℕ) → fetch_line s key ≡ Done t text → FetchDone s key t text
unfolding fetch_line
fetch_done s key t text is =
    let first : GoesOn (cookie_of s key) rest t text = goes_on_with (cookie_of s key) rest t text is in
    let cookie : Cookie = first.item in
    let second : GoesOn s.store (on_store cookie) t text = goes_on_with s.store (on_store cookie) t text first.done in
    let st : LanesState = second.item in
    let after : LanesState = store_read s cookie st in
    let number : ℕ = length st.world.calls in
    let third = not_refused (not (may_read st.world (nonce s) cookie.bricks)) (answered_read (drawn s) key number after) t text second.done in
    let fourth = goes_on_with (read_of (slice_get after.world.calls number)) (λ read. told_read (with_store (drawn s) after) key read) t text third.1 in
    let fifth = goes_on_with (read_answer fourth.item) (λ answer. Done (with_store (drawn s) after) (fetched_text key answer)) t text fourth.done in
    let same = done_state (with_store (drawn s) after) t (fetched_text key fifth.item) text fifth.done in
    record {
      cookie = cookie;
      cookie_is = first.there;
      store = st;
      store_is = second.there;
      may = not_false (may_read st.world (nonce s) cookie.bricks) third.0;
      read = fourth.item;
      there = read_there (slice_get after.world.calls number) fourth.item fourth.there;
      answer = fifth.item;
      answers = fifth.there;
      state_is = same.0;
      text_is = same.1;
    }
  where
    on_store : Cookie → LanesState → Answer SessionsState
    on_store cookie st =
        refused_if (not (may_read st.world (nonce s) cookie.bricks))
        (answered_read (drawn s) key (length st.world.calls) (store_read s cookie st))

    rest : Cookie → Answer SessionsState
    rest cookie = or_refused s.store (on_store cookie)

-- how a write ended that came to its answer: with the cookie, or with the cause of each brick that did not store
pub record IsAcknowledgedAs (s : SessionsState) (key : ℕ) (answer : Result Cookie WriteRefusal) (t : SessionsState) (text : List ℕ) : Type 0 where
  pub cookie : Cookie
  pub answer_is : answer ≡ Ok cookie
  pub state_is : t ≡ with_cookie s key cookie
  pub text_is : text ≡ version_text key cookie

pub record IsMissed (s : SessionsState) (key : ℕ) (answer : Result Cookie WriteRefusal) (t : SessionsState) (text : List ℕ) : Type 0 where
  pub causes : List BrickCause
  pub answer_is : answer ≡ Err (missing.Missed causes)
  pub state_is : t ≡ s
  pub text_is : text ≡ missed_text key causes

pub written_by : (s : SessionsState) (key : ℕ) (answer : Result Cookie WriteRefusal) (t : SessionsState) (text : List ℕ) → written_as s key answer ≡ Done t text
    → IsAcknowledgedAs s key answer t text ⊎ IsMissed s key answer t text
written_by s key (Ok cookie) t text is =
    let same = done_state (with_cookie s key cookie) t (version_text key cookie) text is in
    inl (record { cookie = cookie; answer_is = refl; state_is = same.0; text_is = same.1 })
written_by s key (Err (missing.Missed causes)) t text is =
    let same = done_state s t (missed_text key causes) text is in
    inr (record { causes = causes; answer_is = refl; state_is = same.0; text_is = same.1 })
written_by s key (Err missing.OutOfMemory) t text is = absurd (cc)
