-- What a command reads, writes and has of its keeper.
use Rattle.std.specs.Prelude.{◌≡◌, ℕ, ◌<◌, ◌≤◌, List, length, Option, IfSome}
use Rattle.scenario_engine.specs.KeeperCalls.{KeeperSeen}
use Rattle.outside.specs.Source.{prepended, HasEnded}
use Rattle.outside.specs.Sink.{appended, AppendsPrefix}

-- What the input had left and what was written to the output, each where it tells, and what is seen of the keeper,
-- before and after.
pub record Exchange : Type 0 where
  pub left_before : Option (List ℕ)
  pub left_after : Option (List ℕ)
  pub written_before : Option (List ℕ)
  pub written_after : Option (List ℕ)
  pub keeper_before : KeeperSeen
  pub keeper_after : KeeperSeen

-- these six as one
abbrev pub exchange : Option (List ℕ) → Option (List ℕ)
    → Option (List ℕ) → Option (List ℕ) → KeeperSeen → KeeperSeen → Exchange
exchange left_before left_after written_before written_after keeper_before keeper_after =
    record {
      left_before = left_before;
      left_after = left_after;
      written_before = written_before;
      written_after = written_after;
      keeper_before = keeper_before;
      keeper_after = keeper_after;
    }

-- this text was read to its end, and has no more bytes than the limit
pub record IsRead (limit : ℕ) (x : Exchange) (text : List ℕ) : Type 0 where
  pub taken : x.left_before ≡ prepended text x.left_after
  pub ended : HasEnded x.left_after
  pub short : length text ≤ limit

-- a part of the input was read, or all of it, and nothing was written
pub record WritesNothing (x : Exchange) : Type 0 where
  pub text : List ℕ
  pub taken : x.left_before ≡ prepended text x.left_after
  pub written : x.written_after ≡ x.written_before

-- this text was written
abbrev pub IsWritten : Exchange → List ℕ → Type 0
IsWritten x text = x.written_after ≡ appended x.written_before text

-- a prefix of this text was written
abbrev pub IsPartlyWritten : Exchange → List ℕ → Type 0
IsPartlyWritten x text = AppendsPrefix x.written_before x.written_after text

-- more bytes than the limit were left, where the input tells
abbrev pub IsTooLong : ℕ → Exchange → Type 0
IsTooLong limit x = IfSome x.left_before (λ text. limit < length text)
