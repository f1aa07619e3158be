use Rattle.serve_command.proofs.Crossing.{file_keeper}
use Rattle.serve_command.proofs.command.serve.Goals as goal
use denote.Param.Send.{sendable}

pub serve_opened-requires-send-K : goal.serve_opened-requires-send-K
serve_opened-requires-send-K g c κs within = search (sendable, file_keeper) depth 30
