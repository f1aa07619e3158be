-- The bytes of an ask.
use Rattle.std.specs.Prelude.{◌≡◌, ◌≤◌, ℕ, List, length}
use Rattle.crash_base.specs.declared.items.TheConstants.{MAX_FRAME_BYTES}
use Rattle.ssm_frames.specs.declared.frame.Frame.{Frame}
use Rattle.ssm_frames.specs.Spelling.{encode_of}

-- these bytes spell this ask, and a link takes them
pub record IsAskOf (bytes : List ℕ) (ask : Frame) : Type 0 where
  pub spelled : bytes ≡ encode_of ask
  pub some : 1 ≤ length bytes
  pub few : length bytes ≤ MAX_FRAME_BYTES
