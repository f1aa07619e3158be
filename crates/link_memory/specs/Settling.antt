-- What settling passes over the link comes to, one after another, by the rule.
use Rattle.std.specs.Prelude.{◌≡◌, ◌⊎◌, IsTrue, ℕ, ◌+◌, ◌<◌, List, [], ◌∷◌, ◌++◌, length, All, Option}
use Rattle.std.specs.Option.{option_map_or}
use Rattle.crash_base.specs.declared.numbers.BrickNo.{BrickNo}
use Rattle.send_windows.specs.declared.pass.Pass.{Pass}
use Rattle.send_windows.specs.declared.pass.PassMark.{PassMark}
use Rattle.send_windows.specs.declared.pass.PassMark.TheVariants as pass_mark
use Rattle.ssm_frames.specs.declared.frame.Frame.{Frame}
use Rattle.ssm_frames.specs.Reading.{takes_memory}
use Rattle.ssm_frames.specs.Spelling.{encode_of}
use Rattle.ssm_stub.specs.declared.ear.TheConstants.{MAX_STRAYS}
use Rattle.ssm_stub.specs.declared.ear.Ear.TheVariants.{Heard}
use Rattle.ssm_stub.specs.declared.reply.WriteReply.{WriteReply}
use Rattle.ssm_stub.specs.Writes.{mark_by}
use Rattle.link_lanes.specs.Lanes.{lane_of, on_lane}
use Rattle.link_memory.specs.InOrder.{heard_over}
use Rattle.link_memory.specs.Lane.{LaneValue, counted_times}
use Rattle.link_memory.specs.Leaving.{IsUnlawful}
use Rattle.link_memory.specs.Script.{ScriptValue}

-- the replies that wait in the queue of a brick
abbrev pub queue_of : ScriptValue → BrickNo → List Frame
queue_of link brick = option_map_or (λ (lane : LaneValue). lane.queue) (lane_of link brick.0) []

-- the link after so many frames were taken from the queue of a brick, in which these are left
abbrev pub left_with : BrickNo → ℕ → List Frame → ScriptValue → ScriptValue
left_with brick frames queue link =
    on_lane brick (λ lane. record lane { queue = queue })
    (record link { got = counted_times frames link.got })

-- A brick was heard until memory was wanted: some strays were taken, fewer than 64, and perhaps one
-- frame more, which takes memory to read; nothing else changed.
pub record StopsOver (lawful : Frame → Option WriteReply) (brick : BrickNo) (old new : ScriptValue) : Type 0 where
  pub strays : List Frame
  pub rest : List Frame
  pub queue_is : queue_of old brick ≡ strays ++ rest
  pub are_strays : All (IsUnlawful lawful) strays
  pub few : length strays < MAX_STRAYS
  pub leaves : (new ≡ left_with brick (length strays) rest old)
      ⊎ ((frame : Frame) × (behind : List Frame) × (rest ≡ frame ∷ behind) × IsTrue (takes_memory (encode_of frame))
      × (new ≡ left_with brick (length strays + 1) behind old))

-- A pass was settled over the link: the brick of an unheard one was heard by the rule, which gives the
-- mark; or memory was wanted, and the mark is Silent. For any other nothing was done.
abbrev pub SettledOver : (Frame → Option WriteReply) → BrickNo → PassMark → ScriptValue → ScriptValue → PassMark → Type 0
SettledOver lawful brick pass_mark.Unheard old new mark =
    ((mark ≡ mark_by (Heard (heard_over lawful brick old).heard)) × (new ≡ (heard_over lawful brick old).link))
    ⊎ ((mark ≡ pass_mark.Silent) × StopsOver lawful brick old new)
SettledOver lawful brick pass_mark.Answered old new mark = (mark ≡ pass_mark.Answered) × (new ≡ old)
SettledOver lawful brick pass_mark.Silent old new mark = (mark ≡ pass_mark.Silent) × (new ≡ old)

-- Passes were settled over the link one after another, and have these marks then.
abbrev pub AllSettledOver : (BrickNo → Frame → Option WriteReply) → List Pass → List PassMark → ScriptValue → ScriptValue → Type 0
AllSettledOver lawful [] [] old new = new ≡ old
AllSettledOver lawful [] (mark ∷ marks) old new = ⊥
AllSettledOver lawful (pass ∷ passes) [] old new = ⊥
AllSettledOver lawful (pass ∷ passes) (mark ∷ marks) old new =
    (mid : ScriptValue) × SettledOver (lawful pass.brick) pass.brick pass.mark old mid mark
    × AllSettledOver lawful passes marks mid new
