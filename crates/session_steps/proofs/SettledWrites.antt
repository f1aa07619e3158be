-- What a write comes to that has gone on to its end.
use Rattle.std.proofs.Common.{◌≡◌, ◌≤◌, nat_le, nat_lt, not, Bool, true, false, if◌then◌else◌, ℕ, List, length, map, take, filter_map, Option, Some, None, Result, Ok, Err, refl, sym, ap, subst, ◌∙◌, arith}
use Rattle.std.specs.Prelude.{slice_get}
use Rattle.std.proofs.lemmas.Bool.Decides.{nat_tests}
use Rattle.crash_base.specs.declared.numbers.BrickNo.{BrickNo}
use Rattle.scenario_text.specs.Answer.{Answer, Done, refused_if, or_refused, KeepsRefused, answer_of}
use Rattle.scenario_text.specs.declared.answer.LineAnswer.{LineAnswer}
use Rattle.session_cookie.specs.Cookie.{AreHolders}
use Rattle.session_cookie.specs.declared.cookie.Cookie.{Cookie}
use Rattle.session_cookie.specs.declared.cookie.TheConstants.{MAX_HOLDERS}
use Rattle.send_windows.specs.Facts.{open_count, full_facts}
use Rattle.send_windows.specs.Passes.{hushed}
use Rattle.send_windows.specs.Windows.{KeepLimits, AreTaken, chosen, taken, refused}
use Rattle.send_windows.specs.declared.pass.Pass.{Pass}
use Rattle.ssm_stub.specs.declared.ask.Turn.{Turn}
use Rattle.ssm_stub.specs.declared.cause.BrickCause.{BrickCause}
use Rattle.ssm_stub.specs.declared.ear.Stage.{Stage}
use Rattle.ssm_stub.specs.declared.ear.Stage.TheVariants.{Unasked, Asked}
use Rattle.ssm_stub.specs.declared.event.StubNext.TheVariants as next
use Rattle.ssm_stub.specs.declared.reply.WriteReply.{WriteReply}
use Rattle.ssm_stub.specs.declared.write_call.WriteRefusal.{WriteRefusal}
use Rattle.ssm_stub.specs.declared.write_call.WriteRefusal.TheVariants as missing
use Rattle.ssm_stub.specs.Turns.{wanted, wanted_of, turn_after_asks}
use Rattle.ssm_stub.specs.Writes.{WriteState, missed_unless, holder_of, cause_of, write_start, write_next, write_answer, heard_passes}
use Rattle.ssm_stub.proofs.Concluding.{none_asked-whos}
use Rattle.ssm_stub.proofs.Searching.{all_heard}
use Rattle.ssm_world.specs.declared.call.Call.{Call}
use Rattle.ssm_world.specs.declared.call.Call.TheVariants as call
use Rattle.ssm_world.specs.declared.event.WorldEvent.{WorldEvent}
use Rattle.ssm_world.specs.declared.event.WorldEvent.TheVariants.{Write}
use Rattle.ssm_world.specs.Claims.{IsAcknowledged}
use Rattle.ssm_world.specs.Sound.{untold, asked_of, WriteIsSound}
use Rattle.ssm_world.specs.Worlds.{WorldValue, is_new, may_write, next_of, step, with_new_call, IsMade}
use Rattle.ssm_world.proofs.Askable.{acknowledged_holders}
use Rattle.ssm_world.proofs.Growing.{same_bricks}
use Rattle.session_lanes.specs.Sound.{LanesAreOf}
use Rattle.session_steps.specs.Sessions.{SessionsState, nonce, drawn, with_store, session_key, expiry, spent_by, store_written, write_of, written_as, answered_write, told_write, write_line}
use Rattle.session_lanes.specs.Lanes.{LanesState, after_event, spent_as}
use Rattle.session_steps.specs.Texts.{overload_text}
use Rattle.session_lanes.proofs.Beginning.{begins, may_begin_write}
use Rattle.session_lanes.proofs.Ending.{Gone, made_is_sound, write_ends}
use Rattle.session_steps.proofs.HeardPasses.{passes_heard}
use Rattle.session_steps.proofs.Settled.{never_refused}

-- the write of a number that wants nothing more, and that asked these bricks
record WriteOver (v : LanesState) (n : ℕ) (bricks : List BrickNo) : Type 0 where
  write : WriteState
  there : slice_get v.world.calls n ≡ Some (call.Write write)
  asked : asked_of write.asks ≡ bricks
  over : write_next write ≡ next.Ended

write_over : (v : LanesState) (n : ℕ) (s : WriteState) (d : Call) → slice_get v.world.calls n ≡ Some d → untold d ≡ untold (call.Write s) → next_of d ≡ next.Ended → WriteOver v n (asked_of s.asks)
write_over v n s (call.Write write) there same over = record { write = write; there = there; asked = same_bricks (call.Write s) (call.Write write) same; over = over }
write_over v n s (call.Read read) there same over = absurd (cc)

stage_wants : (brick : BrickNo) (stage : Stage) → wanted_of brick stage ≡ next.Ended → ⊥
stage_wants brick Unasked is = cc
stage_wants brick (Asked strays) is = cc

no_turn : (turn : Option (Turn BrickNo)) → wanted (λ (brick : BrickNo). brick) turn ≡ next.Ended → turn ≡ None
no_turn None is = refl
no_turn (Some t) is = absurd (stage_wants t.who t.stage is)

no_memory : (enough : Bool) (cookie : Cookie) (turn : Option (Turn BrickNo)) (causes : List BrickCause) → (if enough then Some (Ok cookie) else missed_unless turn causes) ≡ Some (Err missing.OutOfMemory) → ⊥
no_memory true cookie turn causes is = cc
no_memory false cookie None causes is = cc
no_memory false cookie (Some t) causes is = cc

-- a write never answers that memory ran out
knows : (write : WriteState) → write_answer write ≡ Some (Err missing.OutOfMemory) → ⊥
knows write is =
    no_memory (nat_le write.least (length (filter_map holder_of write.asks))) (record { key = write.key; version = write.nonce; expiry = write.expiry; bricks = take write.least (filter_map holder_of write.asks) })
    (turn_after_asks write.asks) (filter_map cause_of write.asks) is

-- the cookie of a write names holders
pub names_holders : (w : WorldValue) (n : ℕ) (write : WriteState) (cookie : Cookie) → IsMade w → slice_get w.calls n ≡ Some (call.Write write) → write_answer write ≡ Some (Ok cookie) → AreHolders cookie.bricks
names_holders w n write cookie made there answers =
    let sound : WriteIsSound w write = (made_is_sound w made).calls n (call.Write write) there in
    let acknowledged : IsAcknowledged w cookie sound.value = record { place = n; write = write; there = there; answers = answers; value_is = sound.ask_is } in
    let A : WorldValue → Type 0 = λ v. IsAcknowledged v cookie sound.value in
    acknowledged_holders made.bricks made.events cookie sound.value (subst A made.made acknowledged)

-- What a write comes to that was given passes: the store after it, and the answer.
pub record WriteEnds (s : SessionsState) (key : ℕ) (value : List ℕ) (v : LanesState) (n : ℕ) : Type 0 where
  pub write : WriteState
  pub there : slice_get v.world.calls n ≡ Some (call.Write write)
  pub answer : Result Cookie WriteRefusal
  pub told : told_write (with_store (drawn s) v) key write ≡ write_line s key value
  pub done : write_line s key value ≡ written_as (with_store (drawn s) v) key answer
  pub known : answer ≡ Err missing.OutOfMemory → ⊥
  pub holders : (cookie : Cookie) → answer ≡ Ok cookie → AreHolders cookie.bricks
  pub lanes : LanesAreOf v

-- a write line where there are bricks
abbrev line_at : SessionsState → ℕ → List ℕ → LanesState → Answer SessionsState
line_at s key value st =
    refused_if (not (is_new st.world (nonce s)))
    (if nat_lt (open_count st.windows.facts) st.windows.wq
    then Done (with_store (drawn s) (record st { windows = refused st.windows })) (overload_text key (full_facts st.windows.facts))
    else answered_write (drawn s) key (chosen st.windows s.serial) (length st.world.calls) (store_written s key value (chosen st.windows s.serial) st))

line_of : (s : SessionsState) (key : ℕ) (value : List ℕ) (st : LanesState) → s.store ≡ Some st → write_line s key value ≡ line_at s key value st
unfolding write_line
line_of s key value st store = ap (λ (o : Option LanesState). or_refused o (line_at s key value)) store

line_is : (s : SessionsState) (key : ℕ) (value : List ℕ) (st : LanesState) (write : WriteState) (answer : Result Cookie WriteRefusal) → s.store ≡ Some st → is_new st.world (nonce s) ≡ true → nat_lt (open_count st.windows.facts) st.windows.wq ≡ false
    → slice_get (store_written s key value (chosen st.windows s.serial) st).world.calls (length st.world.calls) ≡ Some (call.Write write) → write_answer write ≡ Some answer
    → write_line s key value ≡ written_as (with_store (drawn s) (spent_by write (chosen st.windows s.serial) (store_written s key value (chosen st.windows s.serial) st))) key answer
line_is s key value st write answer store new enough there answers =
    let passes : List Pass = chosen st.windows s.serial in
    let gone : LanesState = store_written s key value passes st in
    let full : Answer SessionsState = Done (with_store (drawn s) (record st { windows = refused st.windows })) (overload_text key (full_facts st.windows.facts)) in
    let given : Answer SessionsState = answered_write (drawn s) key passes (length st.world.calls) gone in
    let few : Bool = nat_lt (open_count st.windows.facts) st.windows.wq in
    line_of s key value st store
    ∙ (ap (λ b. refused_if (not b) (if few then full else given)) new
    ∙ (ap (λ b. if b then full else given) enough
    ∙ (ap (λ (o : Option Call). or_refused (write_of o) (λ (w : WriteState). told_write (with_store (drawn s) (spent_by w passes gone)) key w)) there
    ∙ ap (λ (o : Option (Result Cookie WriteRefusal)). or_refused o (λ r. written_as (with_store (drawn s) (spent_by write passes gone)) key r)) answers)))

told_is : (s : SessionsState) (key : ℕ) (write : WriteState) (answer : Result Cookie WriteRefusal) → write_answer write ≡ Some answer → told_write s key write ≡ written_as s key answer
told_is s key write answer answers = ap (λ (o : Option (Result Cookie WriteRefusal)). or_refused o (λ r. written_as s key r)) answers

enough_is : (a b : ℕ) → a ≤ b → nat_lt b a ≡ false
enough_is a b le = grind (arith, nat_tests)

pub settled_write : (s : SessionsState) (key : ℕ) (value : List ℕ) (st v : LanesState) → IsMade st.world → KeepLimits st.windows → AreTaken st.windows.wq st.windows.w (chosen st.windows s.serial) → LanesAreOf st → s.store ≡ Some st → is_new st.world (nonce s) ≡ true
    → st.windows.wq ≤ open_count st.windows.facts
    → ((write : WriteState) → slice_get (store_written s key value (chosen st.windows s.serial) st).world.calls (length st.world.calls) ≡ Some (call.Write write)
    → v ≡ spent_as (store_written s key value (chosen st.windows s.serial) st) (map hushed (heard_passes write (chosen st.windows s.serial))))
    → WriteEnds s key value v (length st.world.calls)
settled_write s key value st v made limits took lanes store new enough settles =
    let n : ℕ = length st.world.calls in
    let passes : List Pass = chosen st.windows s.serial in
    let bricks : List BrickNo = map (λ (pass : Pass). pass.brick) passes in
    let begun : LanesState = record st { windows = taken st.windows passes } in
    let gone : LanesState = store_written s key value passes st in
    let event : WorldEvent = Write (nonce s) (session_key key) value (expiry s) bricks st.windows.wq in
    let start : WriteState = write_start bricks st.windows.wq (nonce s) (session_key key) value (expiry s) in
    let few : st.windows.w ≤ MAX_HOLDERS = omega (arith, limits.within, limits.few) in
    let may : may_write st.world (nonce s) bricks st.windows.wq ≡ true = may_begin_write st.world (nonce s) passes st.windows.wq st.windows.w new limits.some few took in
    let first : step st.world event ≡ with_new_call st.world (call.Write start) = ap (λ b. if b then with_new_call st.world (call.Write start) else st.world) may in
    let goes : Gone (after_event begun event) n (call.Write start) gone = begins begun event (call.Write start) first made (record { as_many = lanes.as_many; queue = lanes.queue; made = lanes.made }) in
    let over : WriteOver gone n (asked_of start.asks) = write_over gone n start goes.end goes.there goes.same goes.over in
    let ended : (answer : Result Cookie WriteRefusal) × (write_answer over.write ≡ Some answer) = write_ends over.write over.over in
    let asked : asked_of over.write.asks ≡ bricks = over.asked ∙ none_asked-whos WriteReply bricks in
    let heard : map hushed (heard_passes over.write passes) ≡ heard_passes over.write passes =
    passes_heard over.write passes (λ i ask at. all_heard over.write.asks (no_turn (turn_after_asks over.write.asks) over.over) i ask at) asked in
    let spent : LanesState = spent_by over.write passes gone in
    let is : v ≡ spent = settles over.write over.there ∙ ap (spent_as gone) heard in
    let done : write_line s key value ≡ written_as (with_store (drawn s) spent) key ended.0 = line_is s key value st over.write ended.0 store new (enough_is st.windows.wq (open_count st.windows.facts) enough) over.there ended.1 in
    let told : told_write (with_store (drawn s) spent) key over.write ≡ written_as (with_store (drawn s) spent) key ended.0 = told_is (with_store (drawn s) spent) key over.write ended.0 ended.1 in
    let E : LanesState → Type 0 = λ x. WriteEnds s key value x n in
    subst E (sym is) (record {
      write = over.write;
      there = over.there;
      answer = ended.0;
      told = told ∙ sym done;
      done = done;
      known = λ same. knows over.write (ended.1 ∙ ap (λ (r : Result Cookie WriteRefusal). Some r) same);
      holders = λ cookie same. names_holders gone.world n over.write cookie goes.made over.there (ended.1 ∙ ap (λ (r : Result Cookie WriteRefusal). Some r) same);
      lanes = record { as_many = goes.lanes.as_many; queue = goes.lanes.queue; made = goes.lanes.made };
    })

-- a write that has ended is not refused
pub never_written : (s : SessionsState) (key : ℕ) (value : List ℕ) (v : LanesState) (n : ℕ) → WriteEnds s key value v n → (a : LineAnswer) (old new : SessionsState) → answer_of a new ≡ write_line s key value → KeepsRefused a old new
never_written s key value v n ends a old new is = go ends.answer ends.known (is ∙ ends.done) where
  t : SessionsState
  t = with_store (drawn s) v

  go : (answer : Result Cookie WriteRefusal) → (answer ≡ Err missing.OutOfMemory → ⊥) → answer_of a new ≡ written_as t key answer → KeepsRefused a old new
  go (Ok cookie) known same = never_refused a old new _ _ same
  go (Err (missing.Missed causes)) known same = never_refused a old new _ _ same
  go (Err missing.OutOfMemory) known same = absurd (known refl)
