-- What a write and a read come to that a line begins.
use Rattle.std.proofs.Common.{◌≡◌, ◌⊎◌, inl, inr, ℕ, ◌<◌, ◌==◌, Bool, true, false, if◌then◌else◌, List, [], ◌∷◌, ◌++◌, length, map, Option, Some, None, refl, sym, ap, ◌∙◌, subst, arith}
use Rattle.std.specs.Prelude.{slice_get}
use Rattle.std.proofs.lemmas.Option.{slice_get_within}
use Rattle.crash_base.specs.declared.numbers.BrickNo.{BrickNo}
use Rattle.session_cookie.specs.declared.cookie.Cookie.{Cookie}
use Rattle.send_windows.specs.Windows.{WindowsValue, taken}
use Rattle.send_windows.specs.declared.pass.Pass.{Pass}
use Rattle.ssm_stub.specs.declared.event.StubNext.TheVariants as next
use Rattle.ssm_stub.specs.Reads.{read_start}
use Rattle.ssm_stub.specs.Writes.{WriteState, write_start}
use Rattle.ssm_world.specs.declared.call.Call.{Call}
use Rattle.ssm_world.specs.declared.call.Call.TheVariants as call
use Rattle.ssm_world.specs.declared.event.WorldEvent.{WorldEvent}
use Rattle.ssm_world.specs.declared.event.WorldEvent.TheVariants.{Write, Read}
use Rattle.ssm_world.specs.Sound.{untold}
use Rattle.ssm_world.specs.Worlds.{WorldValue, nonce_of, next_of, with_new_call, is_new, may_write, may_read, step, IsMade}
use Rattle.ssm_world.proofs.Growing.{same_nonce}
use Rattle.ssm_world.proofs.Lists.{get_last, get_new}
use Rattle.ssm_world.proofs.Making.{step_made}
use Rattle.ssm_world.proofs.Tests.{both, same_number, number_same}
use Rattle.session_steps.specs.Sessions.{SessionsState, nonce, session_key, expiry, store_read}
use Rattle.session_lanes.specs.Lanes.{LanesState, after_event, gone_on}
use Rattle.session_lanes.proofs.Ending.{MadeBy, made_on, Gone, goes_on, goes_nowhere, WriteGone, write_gone}
use Rattle.session_lanes.proofs.Keeping.{windows_keep}
use Rattle.session_lanes.specs.Sound.{LanesAreSound}
use Rattle.session_lanes.proofs.Histories.{Stores, adds_stores}
use Rattle.session_lanes.proofs.LanesStay.{same_stay, lanes_same}
use Rattle.session_steps.proofs.Lines.{passes_of, store_after_write}
use Rattle.session_lanes.proofs.Storing.{gone_adds}

-- A call that began with bricks and these windows, as it is when it has gone on: its end, and what became of the
-- bricks.
pub record CallGone (st : LanesState) (windows : WindowsValue) (c : Call) (v : LanesState) : Type 0 where
  pub end : Call
  pub there : slice_get v.world.calls (length st.world.calls) ≡ Some end
  pub same : untold end ≡ untold c
  pub over : next_of end ≡ next.Ended
  pub by : MadeBy st.world v.world
  pub stores : Stores st.world v.world
  pub windows_are : v.windows ≡ windows
  pub calls : (j : ℕ) (d : Call) → slice_get v.world.calls j ≡ Some d → (slice_get st.world.calls j ≡ Some d) ⊎ (nonce_of d ≡ nonce_of c)

begun_sound : (st : LanesState) (windows : WindowsValue) (event : WorldEvent) (c : Call) → LanesAreSound st → step st.world event ≡ with_new_call st.world c → LanesAreSound (record st { windows = windows; world = with_new_call st.world c })
begun_sound st windows event c sound begun = record {
  made = subst IsMade begun (step_made st.world event sound.made);
  lanes = lanes_same (record st { windows = windows }) (with_new_call st.world c) refl (same_stay st.world) (windows_keep st windows sound).lanes;
}

-- each call is one that was there, or the new one
each_call : (old now : List Call) (c end : Call) → nonce_of end ≡ nonce_of c → slice_get now (length old) ≡ Some end → ((j : ℕ) → (j ≡ length old → ⊥) → slice_get now j ≡ slice_get (old ++ c ∷ []) j)
    → (j : ℕ) (d : Call) → slice_get now j ≡ Some d → (slice_get old j ≡ Some d) ⊎ (nonce_of d ≡ nonce_of c)
each_call old now c end nonce_is there others j d at = go (j == length old) refl
  where
    go : (b : Bool) → (j == length old) ≡ b → (slice_get old j ≡ Some d) ⊎ (nonce_of d ≡ nonce_of c)
    go true is =
        let one : Some d ≡ Some end = sym at ∙ ap (slice_get now) (same_number j (length old) is) ∙ there in
        let same : d ≡ end = cc in
        inr (ap nonce_of same ∙ nonce_is)
    go false is =
        let apart : j ≡ length old → ⊥ = λ e. (let equal : (j == length old) ≡ true = ap (λ k. k == length old) e ∙ number_same (length old) in let clash : true ≡ false = sym equal ∙ is in cc) in
        elim (get_last old c j d (sym (others j apart) ∙ at)) [ inl before ↦ inl before | inr last ↦ absurd (apart last.0) ]

call_gone : (st : LanesState) (windows : WindowsValue) (event : WorldEvent) (c : Call) → LanesAreSound st → step st.world event ≡ with_new_call st.world c → is_new st.world (nonce_of c) ≡ true
    → CallGone st windows c (gone_on (after_event (record st { windows = windows }) event) (length st.world.calls))
call_gone st windows event c sound begun new =
    let n : ℕ = length st.world.calls in
    let w : WorldValue = with_new_call st.world c in
    let u : LanesState = record st { windows = windows; world = w } in
    let u_sound : LanesAreSound u = begun_sound st windows event c sound begun in
    let gone : Gone u n c (gone_on u n) = goes_on u n c u_sound.made u_sound.lanes (get_new st.world.calls c) in
    let C : WorldValue → Type 0 = λ x. CallGone st windows c (gone_on (record st { windows = windows; world = x }) n) in
    subst C (sym begun) (record {
      end = gone.end;
      there = gone.there;
      same = gone.same;
      over = gone.over;
      by = made_on st.world w (gone_on u n).world (event ∷ [], sym begun) gone.by;
      stores = adds_stores st.world w (gone_on u n).world (nonce_of c) refl new (gone_adds u n c u_sound.made u_sound.lanes (get_new st.world.calls c));
      windows_are = gone.keeps.windows;
      calls = λ j d at. each_call st.world.calls (gone_on u n).world.calls c gone.end (same_nonce c gone.end gone.same) gone.there gone.keeps.others j d at;
    })

-- the read of a fetch line
pub read_gone : (s : SessionsState) (cookie : Cookie) (st : LanesState) → LanesAreSound st → may_read st.world (nonce s) cookie.bricks ≡ true → CallGone st st.windows (call.Read (read_start s.moment (nonce s) cookie)) (store_read s cookie st)
read_gone s cookie st sound may =
    let c : Call = call.Read (read_start s.moment (nonce s) cookie) in
    call_gone st st.windows (Read (nonce s) s.moment cookie) c sound (ap (λ b. if b then with_new_call st.world c else st.world) may) (both _ _ may).0

-- no call stands behind the last
none_last : (calls : List Call) (c : Call) → slice_get calls (length calls) ≡ Some c → ⊥
none_last calls c is = let within : length calls < length calls = slice_get_within calls (length calls) c is in omega (arith, within)

none_there : (calls : List Call) (o : Option Call) → slice_get calls (length calls) ≡ o → o ≡ None
none_there calls None is = refl
none_there calls (Some c) is = absurd (none_last calls c is)

-- the bricks that a write line asks
abbrev pub bricks_of_write : SessionsState → LanesState → List BrickNo
bricks_of_write s st = map (λ (pass : Pass). pass.brick) (passes_of s st)

-- the write that a line begins
abbrev pub new_write : SessionsState → ℕ → List ℕ → LanesState → Call
new_write s key value st = call.Write (write_start (bricks_of_write s st) st.windows.wq (nonce s) (session_key key) value (expiry s))

-- the event by which it begins
abbrev write_event : SessionsState → ℕ → List ℕ → LanesState → WorldEvent
write_event s key value st = Write (nonce s) (session_key key) value (expiry s) (bricks_of_write s st) st.windows.wq

-- the world with it, where it may begin
begun_if : (s : SessionsState) (key : ℕ) (value : List ℕ) (st : LanesState) (may : Bool) → may_write st.world (nonce s) (bricks_of_write s st) st.windows.wq ≡ may
    → step st.world (write_event s key value st) ≡ (if may then with_new_call st.world (new_write s key value st) else st.world)
begun_if s key value st may at = ap (λ b. if b then with_new_call st.world (new_write s key value st) else st.world) at

-- the write of a write line, where it may begin
pub write_begins : (s : SessionsState) (key : ℕ) (value : List ℕ) (st : LanesState) → LanesAreSound st → is_new st.world (nonce s) ≡ true → may_write st.world (nonce s) (bricks_of_write s st) st.windows.wq ≡ true
    → CallGone st (taken st.windows (passes_of s st)) (new_write s key value st) (store_after_write s key value st)
write_begins s key value st sound new may = call_gone st (taken st.windows (passes_of s st)) (write_event s key value st) (new_write s key value st) sound (begun_if s key value st true may) new

-- its end, which has an answer
pub write_ended : (s : SessionsState) (key : ℕ) (value : List ℕ) (st : LanesState) → LanesAreSound st → may_write st.world (nonce s) (bricks_of_write s st) st.windows.wq ≡ true
    → WriteGone (write_start (bricks_of_write s st) st.windows.wq (nonce s) (session_key key) value (expiry s)) (length st.world.calls) (store_after_write s key value st)
write_ended s key value st sound may =
    let n : ℕ = length st.world.calls in
    let windows : WindowsValue = taken st.windows (passes_of s st) in
    let c : WriteState = write_start (bricks_of_write s st) st.windows.wq (nonce s) (session_key key) value (expiry s) in
    let begun : step st.world (write_event s key value st) ≡ with_new_call st.world (call.Write c) = begun_if s key value st true may in
    let u : LanesAreSound (record st { windows = windows; world = with_new_call st.world (call.Write c) }) = begun_sound st windows (write_event s key value st) (call.Write c) sound begun in
    let W : WorldValue → Type 0 = λ x. WriteGone c n (gone_on (record st { windows = windows; world = x }) n) in
    subst W (sym begun) (write_gone (record st { windows = windows; world = with_new_call st.world (call.Write c) }) n c u.made u.lanes (get_new st.world.calls (call.Write c)))

-- where there is such a call, it could begin
pub write_may : (s : SessionsState) (key : ℕ) (value : List ℕ) (st : LanesState) (end : Call) → slice_get (store_after_write s key value st).world.calls (length st.world.calls) ≡ Some end → may_write st.world (nonce s) (bricks_of_write s st) st.windows.wq ≡ true
write_may s key value st end there = go (may_write st.world (nonce s) (bricks_of_write s st) st.windows.wq) refl
  where
    taking : WorldValue → LanesState
    taking w = record st { windows = taken st.windows (passes_of s st); world = w }

    go : (may : Bool) → may_write st.world (nonce s) (bricks_of_write s st) st.windows.wq ≡ may → may ≡ true
    go true at = refl
    go false at =
        let same : store_after_write s key value st ≡ taking st.world =
        ap (λ w. gone_on (taking w) (length st.world.calls)) (begun_if s key value st false at) ∙ goes_nowhere (taking st.world) (length st.world.calls) (none_there st.world.calls (slice_get st.world.calls (length st.world.calls)) refl) in
        absurd (none_last st.world.calls end (ap (λ (x : LanesState). slice_get x.world.calls (length st.world.calls)) (sym same) ∙ there))
