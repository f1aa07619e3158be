-- What a machine sends in a run goes to the bricks that were not asked, in order.
use Rattle.std.proofs.Common.{◌≡◌, ◌∙◌, ap, sym, refl, subst, ℕ, Bool, true, false, IsTrue, List, [], ◌∷◌, ◌++◌, map, Option, Some, None, slice_get, slice_set, append_assoc}
use Rattle.std.proofs.lemmas.List.Elements.{filter_map-append}
use Rattle.crash_base.specs.declared.numbers.BrickNo.{BrickNo}
use Rattle.ssm_frames.specs.declared.frame.Frame.{Frame}
use Rattle.ssm_frames.specs.Reading.{decode_of}
use Rattle.ssm_stub.specs.declared.ear.TheConstants.{MAX_STRAYS}
use Rattle.ssm_stub.specs.declared.ear.Stage.{Stage}
use Rattle.ssm_stub.specs.declared.ear.Stage.TheVariants.{Unasked, Asked}
use Rattle.ssm_stub.specs.declared.ear.Outcome.TheVariants.{Silent, Strayed}
use Rattle.ssm_stub.specs.declared.ear.Ear.TheVariants.{Open, Heard}
use Rattle.ssm_stub.specs.declared.event.StubEvent.{StubEvent}
use Rattle.ssm_stub.specs.declared.event.StubEvent.TheVariants as event
use Rattle.ssm_stub.specs.declared.event.StubNext.{StubNext}
use Rattle.ssm_stub.specs.declared.ask.Ask.{Ask}
use Rattle.ssm_stub.specs.declared.ask.Turn.{Turn}
use Rattle.std.specs.Prelude.{◌-◌, nat_lt, if◌then◌else◌, ◌+◌}
use Rattle.std.specs.Option.{option_and_then}
use Rattle.ssm_stub.specs.Ears.{after_frame, heard}
use Rattle.ssm_stub.specs.Turns.{with_ear, asks_after, wanted_of, wanted}
use Rattle.ssm_stub.specs.Runs.{Machine, told_of, fits, Fits, call_of, calls, after}
use Rattle.ssm_stub.proofs.OwnEvents.{Asking}
use Rattle.ssm_stub.proofs.Patience.{frame_asked}
use Rattle.ssm_stub.proofs.Places.{with_ear-there}
use Rattle.stub_laws.specs.Sends.{send_in, sends_in, each_sent}
use Rattle.ssm_stub.proofs.Unasked.{unasked_by, unasked_in, none_goes}

-- Where one that was not asked has its turn, its brick is the first that was not, and the others follow
-- once it was.
abbrev pub AsksFirst : {S W A : Type 0} → (S → List (Ask W A)) → (W → BrickNo) → (S → Option (Turn W)) → Type 0
AsksFirst {S} {W} {A} asks brick_of turn = (s : S) (t : Turn W) (y : Ask W A) → turn s ≡ Some t → t.stage ≡ Unasked → unasked_by (brick_of y.who) y.ear ≡ None → unasked_in brick_of (asks s) ≡ brick_of t.who ∷ unasked_in brick_of (slice_set (asks s) t.at y)

module _ {W A : Type 0} (ask : List ℕ) (brick_of : W → BrickNo) (lawful : W → Frame → Option A) (asks : List (Ask W A)) where
  -- what is sent of these, and what is left to be sent
  Sent-and-left : StubNext → StubEvent → List (Ask W A) → Type 0
  Sent-and-left next event ends = sends_in (call_of ask next event) ++ each_sent ask (unasked_in brick_of ends) ≡ each_sent ask (unasked_in brick_of asks)

  by_stage : (at : ℕ) (who : W) (stage : Stage) (event : StubEvent) → slice_get asks at ≡ Some (record { who = who; ear = Open stage })
      → (stage ≡ Unasked → (y : Ask W A) → unasked_by (brick_of y.who) y.ear ≡ None → unasked_in brick_of asks ≡ brick_of who ∷ unasked_in brick_of (slice_set asks at y))
      → IsTrue (fits (wanted_of (brick_of who) stage) (told_of event))
      → Sent-and-left (wanted_of (brick_of who) stage) event (with_ear asks at (heard (lawful who) stage (told_of event)))
  unfolding Sent-and-left
  by_stage at who Unasked event.Sent stands first fit =
      let y : Ask W A = record { who = who; ear = Open (Asked 0) } in
      ap (λ xs. each_sent ask (brick_of who ∷ unasked_in brick_of xs)) (with_ear-there asks at (Open (Asked 0)) (record { who = who; ear = Open Unasked }) stands)
      ∙ sym (ap (each_sent ask) (first refl y refl))
  by_stage at who Unasked (event.Frame bytes) stands first fit = absurd cc
  by_stage at who Unasked event.Silent stands first fit =
      let y : Ask W A = record { who = who; ear = Heard Silent } in
      ap (λ xs. each_sent ask (brick_of who ∷ unasked_in brick_of xs)) (with_ear-there asks at (Heard Silent) (record { who = who; ear = Open Unasked }) stands)
      ∙ sym (ap (each_sent ask) (first refl y refl))
  by_stage at who (Asked n) event.Sent stands first fit = absurd cc
  by_stage at who (Asked n) (event.Frame bytes) stands first fit =
      let reply = option_and_then (lawful who) (decode_of bytes) in
      let x : Ask W A = record { who = who; ear = Open (Asked n) } in
      let y : Ask W A = record { who = who; ear = after_frame (Asked n) reply } in
      ap (λ xs. each_sent ask (unasked_in brick_of xs)) (with_ear-there asks at (after_frame (Asked n) reply) x stands)
      ∙ ap (each_sent ask) (none_goes (λ (a : Ask W A). unasked_by (brick_of a.who) a.ear) asks at x y stands refl (frame_asked (brick_of who) n reply))
  by_stage at who (Asked n) event.Silent stands first fit =
      let x : Ask W A = record { who = who; ear = Open (Asked n) } in
      let y : Ask W A = record { who = who; ear = Heard Silent } in
      ap (λ xs. each_sent ask (unasked_in brick_of xs)) (with_ear-there asks at (Heard Silent) x stands)
      ∙ ap (each_sent ask) (none_goes (λ (a : Ask W A). unasked_by (brick_of a.who) a.ear) asks at x y stands refl refl)

  by_turn : (turn : Option (Turn W)) (event : StubEvent) → ((t : Turn W) → turn ≡ Some t → slice_get asks t.at ≡ Some (record { who = t.who; ear = Open t.stage }))
      → ((t : Turn W) (y : Ask W A) → turn ≡ Some t → t.stage ≡ Unasked → unasked_by (brick_of y.who) y.ear ≡ None → unasked_in brick_of asks ≡ brick_of t.who ∷ unasked_in brick_of (slice_set asks t.at y))
      → IsTrue (fits (wanted brick_of turn) (told_of event)) → Sent-and-left (wanted brick_of turn) event (asks_after lawful (told_of event) asks turn)
  by_turn None event stands first fit = absurd cc
  by_turn (Some t) event stands first fit = by_stage t.at t.who t.stage event (stands t refl) (λ is y none. first t y refl is none) fit

-- what was sent in a run, and then what is left to be sent, is what was left at its start
pub sent_and_left : {S W A : Type 0} (m : Machine S) (asks : S → List (Ask W A)) (brick_of : W → BrickNo) (lawful : S → W → Frame → Option A) (turn : S → Option (Turn W)) → Asking m asks brick_of lawful turn → AsksFirst asks brick_of turn
    → (ask : List ℕ) (events : List StubEvent) (s : S) → Fits m s (map told_of events)
    → sends_in (calls m ask s events) ++ each_sent ask (unasked_in brick_of (asks (after m s (map told_of events)))) ≡ each_sent ask (unasked_in brick_of (asks s))
unfolding Sent-and-left
sent_and_left m asks brick_of lawful turn is first ask [] s fitting = refl
sent_and_left {S} {W} {A} m asks brick_of lawful turn is first ask (event ∷ events) s (here, rest) =
    let told = told_of event in
    let now = call_of ask (m.next s) event in
    let later = calls m ask (m.hear s told) events in
    let left = each_sent ask (unasked_in brick_of (asks (after m (m.hear s told) (map told_of events)))) in
    let FitsNext : StubNext → Type 0 = λ next. IsTrue (fits next told) in
    let one = by_turn ask brick_of (lawful s) (asks s) (turn s) event (is.stands s) (λ t y. first s t y) (subst FitsNext (is.next_is s) here) in
    ap (λ xs. xs ++ left) (filter_map-append send_in now later)
    ∙ (append_assoc (sends_in now) (sends_in later) left
    ∙ (ap (λ xs. sends_in now ++ xs) (sent_and_left m asks brick_of lawful turn is first ask events (m.hear s told) rest)
    ∙ (ap (λ next. sends_in (call_of ask next event) ++ each_sent ask (unasked_in brick_of (asks (m.hear s told)))) (is.next_is s)
    ∙ (ap (λ xs. sends_in (call_of ask (wanted brick_of (turn s)) event) ++ each_sent ask (unasked_in brick_of xs)) (is.hear_is s told) ∙ one))))
