-- Bricks that serve: they are heard, store what they are asked to, and give it back.
use Rattle.std.specs.Prelude.{◌≡◌, ◌≤◌, Bool, true, All, List, length, map, filter_map, None}
use Rattle.std.specs.List.{count_by}
use Rattle.crash_base.specs.declared.numbers.BrickNo.{BrickNo}
use Rattle.session_cookie.specs.declared.cookie.Holder.{Holder}
use Rattle.ssm_stub.specs.Reads.{ReadState, loss_by}
use Rattle.ssm_stub.specs.Writes.{WriteState, cause_by, holder_of}
use Rattle.ssm_stub.specs.declared.ask.Ask.{Ask}
use Rattle.ssm_stub.specs.declared.reply.ReadReply.{ReadReply}
use Rattle.ssm_stub.specs.declared.reply.WriteReply.{WriteReply}

-- the bricks of holders
abbrev pub bricks_in : List Holder → List BrickNo
bricks_in holders = map (λ (holder : Holder). holder.brick) holders

-- the bricks that a read asks
abbrev pub read_of : ReadState → List BrickNo
read_of r = map (λ (ask : Ask Holder ReadReply). ask.who.brick) r.asks

-- the bricks that a write asks
abbrev pub written_to : WriteState → List BrickNo
written_to w = map (λ (ask : Ask BrickNo WriteReply). ask.who) w.asks

-- None of the holders that serve has a cause against it, by what was heard of it.
abbrev pub HoldersServe : (BrickNo → Bool) → List (Ask Holder ReadReply) → Type 0
HoldersServe serves asks =
    All (λ (ask : Ask Holder ReadReply). serves ask.who.brick ≡ true → loss_by ask.ear ≡ None) asks

-- None of the bricks that serve has a cause against it, by what was heard of it.
abbrev pub BricksServe : (BrickNo → Bool) → List (Ask BrickNo WriteReply) → Type 0
BricksServe serves asks =
    All (λ (ask : Ask BrickNo WriteReply). serves ask.who ≡ true → cause_by ask.ear ≡ None) asks

-- A read may still find its value: its moment is not past the expiry, and a brick of its cookie serves.
pub record MayFind (serves : BrickNo → Bool) (r : ReadState) : Type 0 where
  pub lease : r.moment.0 ≤ r.expiry.0
  pub some : 1 ≤ count_by serves (read_of r)
  pub serve : HoldersServe serves r.asks

-- A write may still store its value: as many of its bricks serve as are to store it.
pub record MayStore (serves : BrickNo → Bool) (w : WriteState) : Type 0 where
  pub enough : w.least ≤ count_by serves (written_to w)
  pub serve : BricksServe serves w.asks

-- As many bricks have stored the value of a write as are to store it.
abbrev pub HasStored : WriteState → Type 0
HasStored w = w.least ≤ length (filter_map holder_of w.asks)
