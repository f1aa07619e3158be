-- What a write sends.
use Rattle.std.proofs.Common.{arith, ◌≡◌, ◌∙◌, ap, sym, refl, inl, inr, ◌⊎◌, ℕ, zero, suc, ◌≤◌, Bool, true, false, IsTrue, nat_le, if◌then◌else◌, List, [], ◌∷◌, ◌++◌, length, map, take, filter_map, Option, Some, None, Result, Ok, slice_get, slice_set, append-nil}
use Rattle.std.proofs.lemmas.Bool.{leb-true}
use Rattle.std.specs.List.{cons_option}
use Rattle.std.specs.Option.{option_and_then}
use Rattle.crash_base.specs.declared.numbers.BrickNo.{BrickNo}
use Rattle.crash_base.specs.declared.numbers.Moment.{Moment}
use Rattle.crash_base.specs.declared.numbers.SessionKey.{SessionKey}
use Rattle.crash_base.specs.declared.numbers.Version.{Version}
use Rattle.outside.specs.declared.link.LinkEvent.{LinkEvent}
use Rattle.send_windows.specs.declared.pass.Pass.{Pass}
use Rattle.session_cookie.specs.declared.cookie.Cookie.{Cookie}
use Rattle.session_cookie.specs.declared.cookie.Holder.{Holder}
use Rattle.ssm_frames.specs.declared.frame.Frame.{Frame}
use Rattle.ssm_frames.specs.Spelling.{encode_of}
use Rattle.ssm_stub.specs.declared.cause.BrickCause.{BrickCause}
use Rattle.ssm_stub.specs.declared.ear.Stage.{Stage}
use Rattle.ssm_stub.specs.declared.ear.Stage.TheVariants.{Unasked, Asked}
use Rattle.ssm_stub.specs.declared.ear.Outcome.TheVariants.{Silent}
use Rattle.ssm_stub.specs.declared.ear.Ear.TheVariants.{Open, Heard}
use Rattle.ssm_stub.specs.declared.event.StubEvent.{StubEvent}
use Rattle.ssm_stub.specs.declared.event.StubNext.TheVariants.{Ended, Send}
use Rattle.ssm_stub.specs.declared.event.Told.{Told}
use Rattle.ssm_stub.specs.declared.event.Told.TheVariants as told
use Rattle.ssm_stub.specs.declared.ask.Ask.{Ask}
use Rattle.ssm_stub.specs.declared.ask.Turn.{Turn}
use Rattle.ssm_stub.specs.declared.reply.WriteReply.{WriteReply}
use Rattle.ssm_stub.specs.declared.write_call.WriteRefusal.{WriteRefusal}
use Rattle.ssm_stub.specs.Ears.{heard}
use Rattle.ssm_stub.specs.Turns.{none_asked, is_unasked, turn_after_asks, with_ear, asks_after, wanted_of, wanted}
use Rattle.ssm_stub.specs.Runs.{told_of, fits, Fits, calls, after}
use Rattle.ssm_stub.specs.Writes.{WriteState, put_lawful, holder_of, cause_of, missed_unless, write_start, write_answer, write_next, write_machine, write_until, hear_write}
use Rattle.ssm_stub.specs.Ends.{WriteEnds}
use Rattle.ssm_stub.proofs.LinkTelling.{until-fits, until-calls}
use Rattle.ssm_stub.proofs.OwnEvents.{write_asking}
use Rattle.ssm_stub.proofs.Places.{with_ear-there, turn_after_asks-stands}
use Rattle.ssm_stub.proofs.Searching.{all_heard}
use Rattle.stub_laws.specs.Sends.{sends_in, each_sent}
use Rattle.ssm_stub.proofs.Unasked.{unasked_by, first_goes, first_unasked, asked_none}
use Rattle.ssm_stub.proofs.Patience.{left_of, Patient, stays_patient, none_stored, none_left, answered_all, wanted-ended, all_bricks, keeps_least}
use Rattle.stub_laws.proofs.Sending.{AsksFirst, sent_and_left}

write_first : AsksFirst (λ (s : WriteState). s.asks) (λ (b : BrickNo). b) (λ (s : WriteState). turn_after_asks s.asks)
write_first = λ s t y turn fresh none.
    let h : Ask BrickNo WriteReply → Option BrickNo = λ a. unasked_by a.who a.ear in
    let x : Ask BrickNo WriteReply = record { who = t.who; ear = Open t.stage } in
    first_goes is_unasked h (λ a apart. asked_none a.who a.who a.ear apart) s.asks t.at x y (first_unasked s.asks t turn fresh) (turn_after_asks-stands s.asks t turn) none
    ∙ ap (λ stage. cons_option (unasked_by {A = WriteReply} t.who (Open stage)) (left_of (slice_set s.asks t.at y))) fresh

-- what a write sent, and then what is left to be sent
pub write_sent : (ask : List ℕ) (events : List StubEvent) (s : WriteState) → Fits write_machine s (map told_of events) → sends_in (calls write_machine ask s events) ++ each_sent ask (left_of (after write_machine s (map told_of events)).asks) ≡ each_sent ask (left_of s.asks)
write_sent ask events s fitting = sent_and_left write_machine (λ (s : WriteState). s.asks) (λ (b : BrickNo). b) (λ (s : WriteState). put_lawful s.nonce s.key) (λ (s : WriteState). turn_after_asks s.asks) write_asking write_first ask events s fitting

module _ (ask : List ℕ) (events : List StubEvent) (bricks : List BrickNo) (least : ℕ) (nonce : Version) (key : SessionKey) (value : List ℕ) (expiry : Moment) (fitting : Fits write_machine (write_start bricks least nonce key value expiry) (map told_of events)) where
  all_sent : left_of (after write_machine (write_start bricks least nonce key value expiry) (map told_of events)).asks ≡ [] → sends_in (calls write_machine ask (write_start bricks least nonce key value expiry) events) ≡ each_sent ask bricks
  all_sent none =
      let s = write_start bricks least nonce key value expiry in
      let sent = sends_in (calls write_machine ask s events) in
      sym (append-nil sent)
      ∙ (ap (λ left. sent ++ each_sent ask left) (sym none)
      ∙ (write_sent ask events s fitting
      ∙ ap (each_sent ask) (all_bricks bricks)))

  pub sent_to_the_end : write_next (after write_machine (write_start bricks least nonce key value expiry) (map told_of events)) ≡ Ended → sends_in (calls write_machine ask (write_start bricks least nonce key value expiry) events) ≡ each_sent ask bricks
  sent_to_the_end ended =
      let e = after write_machine (write_start bricks least nonce key value expiry) (map told_of events) in
      all_sent (none_left e.asks (wanted-ended (turn_after_asks e.asks) ended))

  pub sent_at_the_answer : (answer : Result Cookie WriteRefusal) → 1 ≤ least → write_answer (after write_machine (write_start bricks least nonce key value expiry) (map told_of events)) ≡ Some answer → sends_in (calls write_machine ask (write_start bricks least nonce key value expiry) events) ≡ each_sent ask bricks
  unfolding Patient
  sent_at_the_answer answer some h =
      let s = write_start bricks least nonce key value expiry in
      let e = after write_machine s (map told_of events) in
      let many : 1 ≤ e.least = (let same = keeps_least (map told_of events) s in omega arith) in
      all_sent (answered_all e answer many (stays_patient (map told_of events) s fitting (inr (none_stored bricks))) h)

-- a write that ended with an answer sent its ask to each brick
pub ends_sent : {L : Type 0} (makes : L → LinkEvent → L → Type 0) (bricks : List BrickNo) (least : ℕ) (nonce : Version) (key : SessionKey) (value : List ℕ) (expiry : Moment) (old new : L) (passes : List Pass) (answer : Result Cookie WriteRefusal) → 1 ≤ least → (ends : WriteEnds makes (write_start bricks least nonce key value expiry) old new passes answer)
    → sends_in (calls write_until (encode_of (write_start bricks least nonce key value expiry).ask) (write_start bricks least nonce key value expiry) ends.events) ≡ each_sent (encode_of (write_start bricks least nonce key value expiry).ask) bricks
ends_sent makes bricks least nonce key value expiry old new passes answer some ends =
    let start = write_start bricks least nonce key value expiry in
    let ask = encode_of start.ask in
    ap sends_in (until-calls ask ends.events start ends.ran.fitting)
    ∙ sent_at_the_answer ask ends.events bricks least nonce key value expiry (until-fits (map told_of ends.events) start ends.ran.fitting) answer some (ap write_answer (sym ends.ran.ends) ∙ ends.answers)
