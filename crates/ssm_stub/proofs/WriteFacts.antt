-- The answer of a write is that of its bricks, each heard by the calls that are about it.
use Rattle.std.proofs.Common.{◌≡◌, ◌∙◌, ap, sym, refl, ℕ, List, [], ◌∷◌, map, Some, slice_get, Result}
use Rattle.crash_base.specs.declared.numbers.BrickNo.{BrickNo}
use Rattle.crash_base.specs.declared.numbers.Moment.{Moment}
use Rattle.crash_base.specs.declared.numbers.SessionKey.{SessionKey}
use Rattle.crash_base.specs.declared.numbers.Version.{Version}
use Rattle.outside.specs.declared.link.LinkEvent.{LinkEvent}
use Rattle.outside.specs.Link.{Made}
use Rattle.session_cookie.specs.declared.cookie.Cookie.{Cookie}
use Rattle.send_windows.specs.declared.pass.Pass.{Pass}
use Rattle.ssm_frames.specs.Spelling.{encode_of}
use Rattle.ssm_stub.specs.declared.ear.Stage.TheVariants.{Unasked}
use Rattle.ssm_stub.specs.declared.ear.Ear.TheVariants.{Open}
use Rattle.ssm_stub.specs.declared.event.Told.{Told}
use Rattle.ssm_stub.specs.declared.write_call.WriteRefusal.{WriteRefusal}
use Rattle.ssm_stub.specs.Runs.{told_of, Fits, calls, after}
use Rattle.ssm_stub.specs.Turns.{none_asked}
use Rattle.ssm_stub.specs.Writes.{WriteState, put_lawful, answer_of, write_start, write_answer, write_machine, write_until, hear_write}
use Rattle.ssm_stub.specs.Hearing.{AllDiffer, all_about, ear_machine, told_to}
use Rattle.ssm_stub.specs.Ends.{WriteEnds}
use Rattle.ssm_stub.proofs.OwnEvents.{write_asking}
use Rattle.ssm_stub.proofs.LinkTelling.{calls_tell, until-fits, until-calls}
use Rattle.ssm_stub.proofs.ByEvents.{ask_by, Heard, heard_by_events}

-- a write keeps all but what was heard
write_stays : (events : List Told) (s : WriteState) → after write_until s events ≡ record s { asks = (after write_until s events).asks }
write_stays [] s = refl
write_stays (told ∷ events) s = write_stays events (hear_write s told)

-- The calls of the link in a write, and the answer over what they tell.
pub record WriteFacts {L : Type 0} (makes : L → LinkEvent → L → Type 0) (bricks : List BrickNo) (least : ℕ) (nonce : Version) (key : SessionKey) (expiry : Moment) (old new : L) (answer : Result Cookie WriteRefusal) : Type 0 where
  pub calls_made : List LinkEvent
  pub made : Made makes old calls_made new
  pub answers : answer_of least nonce key expiry (map (ask_by (λ (b : BrickNo). b) (put_lawful nonce key) (λ b. all_about b calls_made)) bricks) ≡ Some answer
  pub fitting : (i : ℕ) (brick : BrickNo) → slice_get bricks i ≡ Some brick → Fits (ear_machine brick (put_lawful nonce key brick)) (Open Unasked) (all_about brick calls_made)

pub write_facts : {L : Type 0} (makes : L → LinkEvent → L → Type 0) (bricks : List BrickNo) (least : ℕ) (nonce : Version) (key : SessionKey) (value : List ℕ) (expiry : Moment) (old new : L) (passes : List Pass) (answer : Result Cookie WriteRefusal) → AllDiffer (map (λ b. b.0) bricks) → WriteEnds makes (write_start bricks least nonce key value expiry) old new passes answer → WriteFacts makes bricks least nonce key expiry old new answer
write_facts makes bricks least nonce key value expiry old new passes answer differ ends =
    let start = write_start bricks least nonce key value expiry in
    let ask = encode_of start.ask in
    let told = map told_of ends.events in
    let made_calls = calls write_until ask start ends.events in
    let about : BrickNo → List Told = λ b. all_about b made_calls in
    let fitting : Fits write_machine start told = until-fits told start ends.ran.fitting in
    let tells : (b : BrickNo) → told_to write_machine start told b ≡ about b = λ b.
    sym (ap (all_about b) (until-calls ask ends.events start ends.ran.fitting) ∙ calls_tell write_machine ask b ends.events start fitting) in
    let heard : Heard (λ (b : BrickNo). b) (put_lawful nonce key) about bricks (after write_machine start told).asks =
    heard_by_events write_machine (λ (s : WriteState). s.asks) (λ (b : BrickNo). b) (λ (s : WriteState). put_lawful s.nonce s.key) (λ (s : WriteState). _) write_asking told start bricks about tells refl differ fitting in
    record {
      calls_made = made_calls;
      made = ends.ran.made;
      answers = ap (answer_of least nonce key expiry) (sym heard.are) ∙ (sym (ap write_answer (ends.ran.ends ∙ write_stays told start)) ∙ ends.answers);
      fitting = heard.fitting;
    }

-- these are the calls of its run
pub write_facts-calls : {L : Type 0} (makes : L → LinkEvent → L → Type 0) (bricks : List BrickNo) (least : ℕ) (nonce : Version) (key : SessionKey) (value : List ℕ) (expiry : Moment) (old new : L) (passes : List Pass) (answer : Result Cookie WriteRefusal) (differ : AllDiffer (map (λ b. b.0) bricks)) (ends : WriteEnds makes (write_start bricks least nonce key value expiry) old new passes answer) → (write_facts makes bricks least nonce key value expiry old new passes answer differ ends).calls_made ≡ calls write_until (encode_of (write_start bricks least nonce key value expiry).ask) (write_start bricks least nonce key value expiry) ends.events
unfolding write_facts
write_facts-calls makes bricks least nonce key value expiry old new passes answer differ ends = refl

-- the same of a run alone: the answer over what each brick is told
pub told_facts : (events : List Told) (bricks : List BrickNo) (s : WriteState) (answer : Result Cookie WriteRefusal) → s.asks ≡ none_asked bricks → AllDiffer (map (λ b. b.0) bricks) → Fits write_machine s events → write_answer (after write_machine s events) ≡ Some answer
    → (answer_of s.least s.nonce s.key s.expiry (map (ask_by (λ (b : BrickNo). b) (put_lawful s.nonce s.key) (told_to write_machine s events)) bricks) ≡ Some answer)
    × ((i : ℕ) (brick : BrickNo) → slice_get bricks i ≡ Some brick → Fits (ear_machine brick (put_lawful s.nonce s.key brick)) (Open Unasked) (told_to write_machine s events brick))
told_facts events bricks s answer begins differ fitting answers =
    let heard : Heard (λ (b : BrickNo). b) (put_lawful s.nonce s.key) (told_to write_machine s events) bricks (after write_machine s events).asks =
    heard_by_events write_machine (λ (t : WriteState). t.asks) (λ (b : BrickNo). b) (λ (t : WriteState). put_lawful t.nonce t.key) (λ (t : WriteState). _) write_asking events s bricks (told_to write_machine s events) (λ b. refl) begins differ fitting in
    (ap (answer_of s.least s.nonce s.key s.expiry) (sym heard.are) ∙ (sym (ap write_answer (write_stays events s)) ∙ answers), heard.fitting)
