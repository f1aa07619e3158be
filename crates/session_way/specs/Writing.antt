-- A write of a session, and the passes by which it asks.
use Rattle.std.specs.Prelude.{◌≡◌, ℕ, List, map, Result, Ok, Err}
use Rattle.send_windows.specs.declared.pass.Pass.{Pass}
use Rattle.send_windows.specs.Passes.{hushed}
use Rattle.session_cookie.specs.declared.cookie.Cookie.{Cookie}
use Rattle.ssm_frames.specs.declared.frame.Frame.TheVariants.{Put}
use Rattle.ssm_stub.specs.declared.write_call.WriteRefusal.{WriteRefusal}
use Rattle.ssm_stub.specs.declared.write_call.WriteRefusal.TheVariants as refusal
use Rattle.ssm_stub.specs.Ends.{bricks_of}
use Rattle.ssm_stub.specs.Writes.{WriteState, write_start, heard_passes}
use Rattle.session_way.specs.declared.session_write.WriteOrder.{WriteOrder}
use Rattle.session_way.specs.declared.session_write.WriteOutcome.{WriteOutcome}
use Rattle.session_way.specs.declared.session_write.WriteOutcome.TheVariants.{Written, Missed}

-- A write so far, and the passes by which it asks, as they were taken.
pub record WritingState : Type 0 where
  pub write : WriteState
  pub passes : List Pass

-- a write of this order, of which nothing was sent, to the bricks of these passes; so many of them are to store it
abbrev pub write_begun : WriteOrder → ℕ → List Pass → WritingState
write_begun order least passes =
    record {
      write = write_start (bricks_of passes) least order.nonce order.key order.value order.expiry;
      passes = passes;
    }

-- A write asks for a value to be put, as the version of its nonce.
pub record IsPut (w : WriteState) : Type 0 where
  pub value : List ℕ
  pub ask : w.ask ≡ Put w.nonce w.key w.nonce w.expiry value

-- A write was begun of this order: it asks for just this.
pub record IsBegunOf (order : WriteOrder) (w : WriteState) : Type 0 where
  pub nonce : order.nonce ≡ w.nonce
  pub key : order.key ≡ w.key
  pub expiry : order.expiry ≡ w.expiry
  pub ask : w.ask ≡ Put order.nonce order.key order.nonce order.expiry order.value

-- the passes of a write as they are spent: by what it heard of their bricks, and Silent where it heard nothing
abbrev pub passes_spent : WritingState → List Pass
passes_spent w = map hushed (heard_passes w.write w.passes)

-- what a write came to, as the answer of its call
abbrev pub answer_of_write : WriteOutcome → Result Cookie WriteRefusal
answer_of_write (Written cookie) = Ok cookie
answer_of_write (Missed causes) = Err (refusal.Missed causes)
