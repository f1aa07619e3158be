-- What a call is told keeps it sound.
use Rattle.std.proofs.Common.{◌≡◌, ℕ, ◌≤◌, ◌&&◌, true, List, length, refl, ap, ◌∙◌, arith}
use Rattle.std.proofs.lemmas.Bool.Decides.{nat_tests}
use Rattle.std.specs.Prelude.{nat_le}
use Rattle.crash_base.specs.declared.numbers.BrickNo.{BrickNo}
use Rattle.crash_base.specs.declared.numbers.Moment.{Moment}
use Rattle.crash_base.specs.declared.numbers.SessionKey.{SessionKey}
use Rattle.crash_base.specs.declared.numbers.Version.{Version}
use Rattle.session_cookie.specs.declared.cookie.Cookie.{Cookie}
use Rattle.session_cookie.specs.declared.cookie.Holder.{Holder}
use Rattle.ssm_stub.specs.declared.event.Told.{Told}
use Rattle.ssm_stub.specs.declared.reply.ReadReply.{ReadReply}
use Rattle.ssm_stub.specs.declared.reply.WriteReply.{WriteReply}
use Rattle.ssm_stub.specs.Turns.{none_asked, turn_after_asks}
use Rattle.ssm_stub.specs.Writes.{put_lawful, write_start}
use Rattle.ssm_stub.specs.Reads.{get_lawful, read_start, turn_of_read}
use Rattle.ssm_world.specs.declared.call.Call.{Call}
use Rattle.ssm_world.specs.declared.call.Call.TheVariants as call
use Rattle.ssm_world.specs.Worlds.{WorldValue, next_of, hear, may_be_asked, bricks_of}
use Rattle.ssm_world.specs.Sound.{untold, CallIsSound}
use Rattle.ssm_world.proofs.Asks.{asked_after, asked_none, asks_length, none_length, none_heard, CameIsSent, after_asks_is, read_turn_is, sent_after}

-- a call keeps that with which it began
pub hear_untold : (c : Call) (told : Told) → untold (hear c told) ≡ untold c
hear_untold (call.Write s) told =
    ap (λ whos. call.Write (record s { asks = none_asked whos })) (asked_after (put_lawful s.nonce s.key) told s.asks (turn_after_asks s.asks))
hear_untold (call.Read s) told =
    ap (λ whos. call.Read (record s { asks = none_asked whos })) (asked_after (get_lawful s.nonce s.key s.version s.expiry) told s.asks (turn_of_read s))

pub hear_is_sound : (w : WorldValue) (c : Call) (told : Told) → CameIsSent w (next_of c) told → CallIsSound w c → CallIsSound w (hear c told)
hear_is_sound w (call.Write s) told comes sound = record {
  value = sound.value;
  ask_is = sound.ask_is;
  bricks = ap may_be_asked (asked_after (put_lawful s.nonce s.key) told s.asks (turn_after_asks s.asks)) ∙ sound.bricks;
  some = sound.some;
  at_most_all = omega (arith, asks_length (put_lawful s.nonce s.key) told s.asks (turn_after_asks s.asks), sound.at_most_all);
  replies = sent_after w (λ brick. brick) (put_lawful s.nonce s.key) told s.asks (turn_after_asks s.asks) (after_asks_is s.asks) comes sound.replies;
}
hear_is_sound w (call.Read s) told comes sound = record {
  bricks = ap (λ whos. may_be_asked (bricks_of whos)) (asked_after (get_lawful s.nonce s.key s.version s.expiry) told s.asks (turn_of_read s)) ∙ sound.bricks;
  replies = sent_after w (λ (holder : Holder). holder.brick) (get_lawful s.nonce s.key s.version s.expiry) told s.asks (turn_of_read s) (read_turn_is s) comes sound.replies;
}

-- a write wants some of its bricks to store its value, and at most all
some_of : (least n : ℕ) → (nat_le 1 least && nat_le least n) ≡ true → 1 ≤ least
some_of least n h = grind (arith, nat_tests)

most_of : (least n : ℕ) → (nat_le 1 least && nat_le least n) ≡ true → least ≤ n
most_of least n h = grind (arith, nat_tests)

-- a call that begins has heard nothing
pub write_begins : (w : WorldValue) (bricks : List BrickNo) (least : ℕ) (nonce : Version) (key : SessionKey) (value : List ℕ) (expiry : Moment)
    → may_be_asked bricks ≡ true → (nat_le 1 least && nat_le least (length bricks)) ≡ true → CallIsSound w (call.Write (write_start bricks least nonce key value expiry))
write_begins w bricks least nonce key value expiry may some = record {
  value = value;
  ask_is = refl;
  bricks = ap may_be_asked (asked_none WriteReply bricks) ∙ may;
  some = some_of least (length bricks) some;
  at_most_all = omega (arith, most_of least (length bricks) some, none_length WriteReply bricks);
  replies = λ i ask reply there is. absurd (none_heard WriteReply bricks i ask reply there is);
}

pub read_begins : (w : WorldValue) (moment : Moment) (nonce : Version) (cookie : Cookie) → may_be_asked (bricks_of cookie.bricks) ≡ true → CallIsSound w (call.Read (read_start moment nonce cookie))
read_begins w moment nonce cookie may = record {
  bricks = ap (λ whos. may_be_asked (bricks_of whos)) (asked_none ReadReply cookie.bricks) ∙ may;
  replies = λ i ask reply there is. absurd (none_heard ReadReply cookie.bricks i ask reply there is);
}
