-- Which frames are requests.
use Rattle.std.specs.Prelude.{Bool, true, false}
use Rattle.ssm_frames.specs.declared.frame.Frame.{Frame}
use Rattle.ssm_frames.specs.declared.frame.Frame.TheVariants.{Put, Get, Sweep, Stored, Found, Absent, BrickFull, Swept}

-- Whether a frame is a request to a brick, and no reply.
abbrev pub is_request : Frame → Bool
is_request (Put nonce key version expiry value) = true
is_request (Get nonce key version) = true
is_request (Sweep nonce moment) = true
is_request (Stored nonce key version brick incarnation) = false
is_request (Found nonce key version brick incarnation expiry value) = false
is_request (Absent nonce key version brick incarnation swept) = false
is_request (BrickFull nonce key version brick incarnation entries bytes) = false
is_request (Swept nonce brick incarnation moment) = false
