-- What a write or a fetch comes to that has gone on to its end.
use Rattle.std.proofs.Common.{◌≡◌, not, true, if◌then◌else◌, ℕ, List, length, Option, Some, Result, refl, sym, ap, ◌∙◌}
use Rattle.std.specs.Prelude.{slice_get}
use Rattle.scenario_text.specs.Answer.{Answer, Done, refused_if, or_refused, KeepsRefused, answer_of}
use Rattle.scenario_text.specs.declared.answer.LineAnswer.{LineAnswer}
use Rattle.scenario_text.specs.declared.answer.LineAnswer.TheVariants as answers
use Rattle.session_cookie.specs.Cookie.{AreHolders}
use Rattle.session_cookie.specs.declared.cookie.Cookie.{Cookie}
use Rattle.ssm_stub.specs.declared.event.StubNext.TheVariants as next
use Rattle.ssm_stub.specs.declared.read_call.ReadRefusal.{ReadRefusal}
use Rattle.ssm_stub.specs.Reads.{ReadState, read_start, read_answer}
use Rattle.ssm_world.specs.declared.call.Call.{Call}
use Rattle.ssm_world.specs.declared.call.Call.TheVariants as call
use Rattle.ssm_world.specs.declared.event.WorldEvent.TheVariants.{Read}
use Rattle.ssm_world.specs.Sound.{untold}
use Rattle.ssm_world.specs.Worlds.{is_new, may_read, next_of, step, with_new_call, IsMade}
use Rattle.session_lanes.specs.Sound.{LanesAreOf}
use Rattle.session_steps.specs.Sessions.{SessionsState, nonce, drawn, with_store, cookie_of, read_of, fetched_text, store_read, told_read, answered_read, fetch_line}
use Rattle.session_lanes.specs.Lanes.{LanesState, after_event, read_out}
use Rattle.session_lanes.proofs.Beginning.{begins, may_begin_read}
use Rattle.session_lanes.proofs.Ending.{Gone, read_ends}

-- a line that is done was not refused
pub never_refused : {S : Type 0} (a : LineAnswer) (old new t : S) (text : List ℕ) → answer_of a new ≡ Done t text → KeepsRefused a old new
never_refused answers.Refused old new t text is = absurd (cc)
never_refused answers.Done old new t text is = tt
never_refused (answers.Wrote x) old new t text is = tt

-- the read of a number that has its answer
record ReadOver (v : LanesState) (n : ℕ) : Type 0 where
  read : ReadState
  there : slice_get v.world.calls n ≡ Some (call.Read read)
  answer : Result (List ℕ) ReadRefusal
  answers : read_answer read ≡ Some answer

read_over : (v : LanesState) (n : ℕ) (s : ReadState) (d : Call) → slice_get v.world.calls n ≡ Some d → untold d ≡ untold (call.Read s) → next_of d ≡ next.Ended → ReadOver v n
read_over v n s (call.Write write) there same over = absurd (cc)
read_over v n s (call.Read read) there same over =
    let end = read_ends read over in
    record { read = read; there = there; answer = end.0; answers = end.1 }

-- What a fetch comes to that may read.
pub record FetchEnds (s : SessionsState) (key : ℕ) (v : LanesState) (n : ℕ) : Type 0 where
  pub read : ReadState
  pub there : slice_get v.world.calls n ≡ Some (call.Read read)
  pub answer : Result (List ℕ) ReadRefusal
  pub told : told_read (with_store (drawn s) v) key read ≡ fetch_line s key
  pub done : fetch_line s key ≡ Done (with_store (drawn s) v) (fetched_text key answer)
  pub lanes : LanesAreOf v

told_fetch : (s : SessionsState) (key : ℕ) (cookie : Cookie) (st : LanesState) (read : ReadState) → cookie_of s key ≡ Some cookie → s.store ≡ Some st → may_read st.world (nonce s) cookie.bricks ≡ true
    → slice_get (read_out st (nonce s) s.moment cookie).world.calls (length st.world.calls) ≡ Some (call.Read read)
    → told_read (with_store (drawn s) (read_out st (nonce s) s.moment cookie)) key read ≡ fetch_line s key
unfolding fetch_line
told_fetch s key cookie st read has store may there =
    let n : ℕ = length st.world.calls in
    let v : LanesState = read_out st (nonce s) s.moment cookie in
    let rest : Cookie → LanesState → Answer SessionsState = λ c x.
    refused_if (not (may_read x.world (nonce s) c.bricks)) (answered_read (drawn s) key (length x.world.calls) (store_read s c x)) in
    sym (
    ap (λ (o : Option Cookie). or_refused o (λ c. or_refused s.store (rest c))) has
    ∙ (ap (λ (o : Option LanesState). or_refused o (rest cookie)) store
    ∙ (ap (λ b. refused_if (not b) (answered_read (drawn s) key n v)) may
    ∙ ap (λ (o : Option Call). or_refused (read_of o) (told_read (with_store (drawn s) v) key)) there)))

pub fetch_ends : (s : SessionsState) (key : ℕ) (cookie : Cookie) (st : LanesState) → IsMade st.world → LanesAreOf st → cookie_of s key ≡ Some cookie → s.store ≡ Some st → AreHolders cookie.bricks → is_new st.world (nonce s) ≡ true
    → FetchEnds s key (read_out st (nonce s) s.moment cookie) (length st.world.calls)
fetch_ends s key cookie st made lanes has store holders new =
    let n : ℕ = length st.world.calls in
    let v : LanesState = read_out st (nonce s) s.moment cookie in
    let start : ReadState = read_start s.moment (nonce s) cookie in
    let may : may_read st.world (nonce s) cookie.bricks ≡ true = may_begin_read st.world (nonce s) cookie.bricks holders ∙ new in
    let begun : step st.world (Read (nonce s) s.moment cookie) ≡ with_new_call st.world (call.Read start) = ap (λ b. if b then with_new_call st.world (call.Read start) else st.world) may in
    let gone : Gone (after_event st (Read (nonce s) s.moment cookie)) n (call.Read start) v = begins st (Read (nonce s) s.moment cookie) (call.Read start) begun made lanes in
    let over : ReadOver v n = read_over v n start gone.end gone.there gone.same gone.over in
    let told : told_read (with_store (drawn s) v) key over.read ≡ fetch_line s key = told_fetch s key cookie st over.read has store may over.there in
    let done : told_read (with_store (drawn s) v) key over.read ≡ Done (with_store (drawn s) v) (fetched_text key over.answer) = rw over.answers refl in
    record { read = over.read; there = over.there; answer = over.answer; told = told; done = sym told ∙ done; lanes = gone.lanes }
