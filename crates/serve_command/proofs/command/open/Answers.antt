use Rattle.serve_command.proofs.Crossing.{file_keeper}
use Rattle.serve_command.proofs.command.open.Goals as goal
use denote.Param.Send.{sendable}

pub open_last-requires-send-K : goal.open_last-requires-send-K
open_last-requires-send-K c κs = search (sendable, file_keeper) depth 30
