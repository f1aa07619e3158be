-- A read of a session by its cookie, and what came of it.
use Rattle.std.specs.Prelude.{◌≡◌, ℕ, List, map, Result, Ok, Err}
use Rattle.crash_base.specs.declared.numbers.Moment.{Moment}
use Rattle.crash_base.specs.declared.numbers.Version.{Version}
use Rattle.session_cookie.specs.declared.cookie.Cookie.{Cookie}
use Rattle.session_cookie.specs.declared.cookie.Holder.{Holder}
use Rattle.ssm_stub.specs.declared.ask.Ask.{Ask}
use Rattle.ssm_stub.specs.declared.read_call.ReadRefusal.{ReadRefusal}
use Rattle.ssm_stub.specs.declared.read_call.ReadRefusal.TheVariants as refusal
use Rattle.ssm_stub.specs.declared.reply.ReadReply.{ReadReply}
use Rattle.ssm_stub.specs.Reads.{ReadState}
use Rattle.session_way.specs.declared.session_read.ReadOutcome.{ReadOutcome}
use Rattle.session_way.specs.declared.session_read.ReadOutcome.TheVariants.{Found, Expired, Lost}

-- what a read came to, as the answer of its call
abbrev pub answer_of_read : ReadOutcome → Result (List ℕ) ReadRefusal
answer_of_read (Found lease) = Ok lease.value
answer_of_read (Expired now expiry) = Err (refusal.Expired now expiry)
answer_of_read (Lost causes) = Err (refusal.Lost causes)

-- the cookie by which a read asks: it names the holders that are asked
abbrev pub cookie_asked : ReadState → Cookie
cookie_asked r =
    record {
      key = r.key;
      version = r.version;
      expiry = r.expiry;
      bricks = map (λ (ask : Ask Holder ReadReply). ask.who) r.asks;
    }

-- A read began at this moment, with this nonce, by this cookie.
pub record IsBegunBy (now : Moment) (drawn : Version) (cookie : Cookie) (r : ReadState) : Type 0 where
  pub moment : now ≡ r.moment
  pub nonce : drawn ≡ r.nonce
  pub key : cookie.key ≡ r.key
  pub version : cookie.version ≡ r.version
  pub expiry : cookie.expiry ≡ r.expiry
  pub bricks : cookie.bricks ≡ map (λ (ask : Ask Holder ReadReply). ask.who) r.asks
