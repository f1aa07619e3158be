-- Whose turn it is in a write and in a read.
use Rattle.std.proofs.Common.{◌≡◌, ◌∙◌, ap, sym, refl, inl, inr, ◌⊎◌, ℕ, List, Option, Some, None, Result}
use Rattle.std.specs.List.{slice_get, slice_set}
use Rattle.std.specs.Option.{option_and_then, option_map}
use Rattle.std.proofs.lemmas.Option.{slice_get-map}
use Rattle.crash_base.specs.declared.numbers.BrickNo.{BrickNo}
use Rattle.session_cookie.specs.declared.cookie.Cookie.{Cookie}
use Rattle.session_cookie.specs.declared.cookie.Holder.{Holder}
use Rattle.ssm_frames.specs.declared.frame.Frame.{Frame}
use Rattle.ssm_stub.specs.declared.ask.Ask.{Ask}
use Rattle.ssm_stub.specs.declared.ask.Turn.{Turn}
use Rattle.ssm_stub.specs.declared.ear.Stage.TheVariants.{Unasked}
use Rattle.ssm_stub.specs.declared.ear.Ear.{Ear}
use Rattle.ssm_stub.specs.declared.ear.Ear.TheVariants.{Open, Heard}
use Rattle.ssm_stub.specs.declared.event.StubNext.TheVariants.{Ended}
use Rattle.ssm_stub.specs.declared.event.Told.{Told}
use Rattle.ssm_stub.specs.declared.reply.WriteReply.{WriteReply}
use Rattle.ssm_stub.specs.declared.reply.ReadReply.{ReadReply}
use Rattle.ssm_stub.specs.declared.write_call.WriteRefusal.{WriteRefusal}
use Rattle.ssm_stub.specs.declared.read_call.ReadRefusal.{ReadRefusal}
use Rattle.ssm_stub.specs.Ears.{heard}
use Rattle.ssm_stub.specs.Turns.{none_asked, turn_with, turn_at, turn_after_asks, turn_in_order, with_ear_of, asks_after, wanted, next_unless}
use Rattle.ssm_stub.specs.Writes.{WriteState, put_lawful, write_answer, write_machine, write_until}
use Rattle.ssm_stub.specs.Reads.{ReadState, get_lawful, read_answer, turn_unless, turn_of_read, read_machine}
use Rattle.link_memory.proofs.Asking.{Turning}

-- the one whose turn it is stands at its place
pub record At {W A : Type 0} (asks : List (Ask W A)) (turn : Turn W) : Type 0 where
  pub ask : Ask W A
  pub there : slice_get asks turn.at ≡ Some ask
  pub who_is : ask.who ≡ turn.who
  pub ear_is : ask.ear ≡ Open turn.stage

at_ear : {W A : Type 0} (asks : List (Ask W A)) (at : ℕ) (ask : Ask W A) (ear : Ear A) (turn : Turn W) → ask.ear ≡ ear → slice_get asks at ≡ Some ask → turn_with at ask ear ≡ Some turn → At asks turn
at_ear asks at ask (Heard outcome) turn is there h = absurd cc
at_ear {W} {A} asks at ask (Open stage) turn is there h =
    let e : record { at = at; who = ask.who; stage = stage } ≡ turn = cc in
    record {
      ask = ask;
      there = sym (ap (λ (t : Turn W). slice_get asks t.at) e) ∙ there;
      who_is = ap (λ (t : Turn W). t.who) e;
      ear_is = is ∙ ap (λ (t : Turn W). Open t.stage) e;
    }

at_place : {W A : Type 0} (asks : List (Ask W A)) (at : ℕ) (found : Option (Ask W A)) (turn : Turn W) → slice_get asks at ≡ found → option_and_then (λ ask. turn_with at ask ask.ear) found ≡ Some turn → At asks turn
at_place asks at None turn there h = absurd cc
at_place asks at (Some ask) turn there h = at_ear asks at ask ask.ear turn refl there h

pub at_found : {W A : Type 0} (asks : List (Ask W A)) (place : Option ℕ) (turn : Turn W) → option_and_then (turn_at asks) place ≡ Some turn → At asks turn
at_found asks None turn h = absurd cc
at_found asks (Some at) turn h = at_place asks at (slice_get asks at) turn refl h

-- its turn, where it is told an event alone
module _ {W A : Type 0} (lawful : W → Frame → Option A) (asks : List (Ask W A)) (turn : Turn W) (h : At asks turn) where
  pub stands : slice_get asks turn.at ≡ Some (record { who = turn.who; ear = Open turn.stage })
  stands = h.there ∙ ap (λ (a : Ask W A). Some a) (ap (λ w. record { who = w; ear = h.ask.ear }) h.who_is ∙ ap (λ e. record { who = turn.who; ear = e }) h.ear_is)

  pub told_on : (told : Told) → asks_after lawful told asks (Some turn) ≡ slice_set asks turn.at (record { who = turn.who; ear = heard (lawful turn.who) turn.stage told })
  told_on told = ap (with_ear_of asks turn.at (heard (lawful turn.who) turn.stage told)) stands

-- bricks of which none was asked
unasked_at : {W A : Type 0} (whos : List W) (found : Option W) (a : Ask W A) → option_map (λ who. record { who = who; ear = Open Unasked }) found ≡ Some a → a.ear ≡ Open Unasked
unasked_at whos None a h = absurd cc
unasked_at {W} {A} whos (Some who) a h = (let e : record { who = who; ear = Open Unasked } ≡ a = cc in sym (ap (λ (x : Ask W A). x.ear) e))

pub none_yet : {W A : Type 0} (whos : List W) (i : ℕ) (a : Ask W A) → slice_get (none_asked whos) i ≡ Some a → a.ear ≡ Open Unasked
none_yet {W} {A} whos i a h = unasked_at whos (slice_get whos i) a (sym (slice_get-map (λ (who : W). record { who = who; ear = Open Unasked }) whos i) ∙ h)

-- a write
abbrev pub writes : WriteState → List (Ask BrickNo WriteReply) → WriteState
writes s asks = record s { asks = asks }

module _ (s : WriteState) where
  goes_on : (asks : List (Ask BrickNo WriteReply)) (turn : Option (Turn BrickNo)) → turn_after_asks asks ≡ turn → (write_machine.next (writes s asks) ≡ Ended) ⊎ Turning (λ brick. brick) (put_lawful s.nonce s.key) write_machine (writes s) asks
  goes_on asks None is = inl (ap (wanted (λ brick. brick)) is)
  goes_on asks (Some turn) is =
      let at = at_found asks _ turn is in
      inr (record {
        at = turn.at;
        who = turn.who;
        stage = turn.stage;
        here = stands (put_lawful s.nonce s.key) asks turn at;
        wants = ap (wanted (λ brick. brick)) is;
        hears = λ told. ap (λ t. writes s (asks_after (put_lawful s.nonce s.key) told asks t)) is ∙ ap (writes s) (told_on (put_lawful s.nonce s.key) asks turn at told);
      })

  pub write_turned : (asks : List (Ask BrickNo WriteReply)) → (write_machine.next (writes s asks) ≡ Ended) ⊎ Turning (λ brick. brick) (put_lawful s.nonce s.key) write_machine (writes s) asks
  write_turned asks = goes_on asks (turn_after_asks asks) refl

  until_with : (asks : List (Ask BrickNo WriteReply)) (answer : Option (Result Cookie WriteRefusal)) → write_answer (writes s asks) ≡ answer → (write_machine.next (writes s asks) ≡ Ended) ⊎ Turning (λ brick. brick) (put_lawful s.nonce s.key) write_machine (writes s) asks
      → (write_until.next (writes s asks) ≡ Ended) ⊎ Turning (λ brick. brick) (put_lawful s.nonce s.key) write_until (writes s) asks
  until_with asks (Some answer) is turned = inl (ap (λ o. next_unless o (write_machine.next (writes s asks))) is)
  until_with asks None is (inl over) = inl (ap (λ o. next_unless o (write_machine.next (writes s asks))) is ∙ over)
  until_with asks None is (inr t) = inr (record {
    at = t.at;
    who = t.who;
    stage = t.stage;
    here = t.here;
    wants = ap (λ o. next_unless o (write_machine.next (writes s asks))) is ∙ t.wants;
    hears = t.hears;
  })

  pub until_turned : (asks : List (Ask BrickNo WriteReply)) → (write_until.next (writes s asks) ≡ Ended) ⊎ Turning (λ brick. brick) (put_lawful s.nonce s.key) write_until (writes s) asks
  until_turned asks = until_with asks (write_answer (writes s asks)) refl (write_turned asks)

-- a read
abbrev pub reads : ReadState → List (Ask Holder ReadReply) → ReadState
reads s asks = record s { asks = asks }

turn_when : (answer : Option (Result (List ℕ) ReadRefusal)) (turn : Option (Turn Holder)) (found : Turn Holder) → turn_unless answer turn ≡ Some found → turn ≡ Some found
turn_when (Some answer) turn found h = absurd cc
turn_when None turn found h = h

module _ (s : ReadState) where
  reading : (asks : List (Ask Holder ReadReply)) (turn : Option (Turn Holder)) → turn_of_read (reads s asks) ≡ turn → (read_machine.next (reads s asks) ≡ Ended) ⊎ Turning (λ holder. holder.brick) (get_lawful s.nonce s.key s.version s.expiry) read_machine (reads s) asks
  reading asks None is = inl (ap (wanted (λ (holder : Holder). holder.brick)) is)
  reading asks (Some turn) is =
      let at = at_found asks _ turn (turn_when (read_answer (reads s asks)) (turn_in_order asks) turn is) in
      inr (record {
        at = turn.at;
        who = turn.who;
        stage = turn.stage;
        here = stands (get_lawful s.nonce s.key s.version s.expiry) asks turn at;
        wants = ap (wanted (λ (holder : Holder). holder.brick)) is;
        hears = λ told. ap (λ t. reads s (asks_after (get_lawful s.nonce s.key s.version s.expiry) told asks t)) is ∙ ap (reads s) (told_on (get_lawful s.nonce s.key s.version s.expiry) asks turn at told);
      })

  pub read_turned : (asks : List (Ask Holder ReadReply)) → (read_machine.next (reads s asks) ≡ Ended) ⊎ Turning (λ holder. holder.brick) (get_lawful s.nonce s.key s.version s.expiry) read_machine (reads s) asks
  read_turned asks = reading asks (turn_of_read (reads s asks)) refl
