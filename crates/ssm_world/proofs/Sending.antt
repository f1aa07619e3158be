-- A call sends its ask to a brick that it asks.
use Rattle.std.proofs.Common.{◌≡◌, List, Option, Some, None, refl, ap, ◌∙◌}
use Rattle.std.specs.Prelude.{slice_get, option_map}
use Rattle.std.proofs.lemmas.Option.{slice_get-map}
use Rattle.crash_base.specs.declared.numbers.BrickNo.{BrickNo}
use Rattle.session_cookie.specs.declared.cookie.Holder.{Holder}
use Rattle.ssm_stub.specs.declared.ask.Ask.{Ask}
use Rattle.ssm_stub.specs.declared.ask.Turn.{Turn}
use Rattle.ssm_stub.specs.declared.ear.Stage.{Stage}
use Rattle.ssm_stub.specs.declared.ear.Stage.TheVariants.{Unasked, Asked}
use Rattle.ssm_stub.specs.declared.ear.Ear.TheVariants.{Open}
use Rattle.ssm_stub.specs.declared.event.StubNext.{StubNext}
use Rattle.ssm_stub.specs.declared.event.StubNext.TheVariants as next
use Rattle.ssm_stub.specs.Turns.{turn_after_asks, wanted, wanted_of}
use Rattle.ssm_stub.specs.Reads.{turn_of_read}
use Rattle.ssm_stub.proofs.Places.{turn_after_asks-stands, turn_of_read-stands}
use Rattle.ssm_world.specs.declared.call.Call.{Call}
use Rattle.ssm_world.specs.declared.call.Call.TheVariants as call
use Rattle.ssm_world.specs.Sound.{asked_of, bricks_asked, Asks}
use Rattle.ssm_world.specs.Worlds.{next_of, bricks_of}

-- a call asks the brick to which this sends, if it sends
abbrev pub SendsTo : Call → StubNext → Type 0
SendsTo c (next.Send brick) = Asks c brick
SendsTo c (next.Receive brick) = Unit {0}
SendsTo c next.Ended = Unit {0}

wanted_sends : (c : Call) (brick : BrickNo) (stage : Stage) → Asks c brick → SendsTo c (wanted_of brick stage)
wanted_sends c brick Unasked asks = asks
wanted_sends c brick (Asked strays) asks = tt

-- the one whose turn it is is asked
turn_asked : {W A : Type 0} (asks : List (Ask W A)) (t : Turn W) → slice_get asks t.at ≡ Some (record { who = t.who; ear = Open t.stage }) → slice_get (asked_of asks) t.at ≡ Some t.who
turn_asked {W} {A} asks t there = slice_get-map (λ (ask : Ask W A). ask.who) asks t.at ∙ ap (option_map (λ (ask : Ask W A). ask.who)) there

-- what a call wants next is sent to a brick that it asks, if it is sent
pub next_sends : (c : Call) → SendsTo c (next_of c)
next_sends (call.Write s) = go (turn_after_asks s.asks) refl
  where
    go : (turn : Option (Turn BrickNo)) → turn_after_asks s.asks ≡ turn → SendsTo (call.Write s) (wanted (λ (b : BrickNo). b) turn)
    go None now = tt
    go (Some t) now = wanted_sends (call.Write s) t.who t.stage (t.at, turn_asked s.asks t (turn_after_asks-stands s.asks t now))
next_sends (call.Read s) = go (turn_of_read s) refl
  where
    go : (turn : Option (Turn Holder)) → turn_of_read s ≡ turn → SendsTo (call.Read s) (wanted (λ (h : Holder). h.brick) turn)
    go None now = tt
    go (Some t) now =
        let among : slice_get (bricks_of (asked_of s.asks)) t.at ≡ Some t.who.brick =
        slice_get-map (λ (h : Holder). h.brick) (asked_of s.asks) t.at ∙ ap (option_map (λ (h : Holder). h.brick)) (turn_asked s.asks t (turn_of_read-stands s t now)) in
        wanted_sends (call.Read s) t.who.brick t.stage (t.at, among)

-- a call that asks the same bricks sends to one of them too
pub same_sends : (c d : Call) (n : StubNext) → bricks_asked d ≡ bricks_asked c → SendsTo c n → SendsTo d n
same_sends c d (next.Send brick) same to = (to.0, ap (λ bricks. slice_get bricks to.0) same ∙ to.1)
same_sends c d (next.Receive brick) same to = tt
same_sends c d next.Ended same to = tt
