use denote.RattleType.{RattleType}
use denote.Param.Send.{IsSend}
use Rattle.lease_list.proofs.Crosses.{Node-send}
use Rattle.lease_list.specs.contracts.links.Node.{the_row}

pub send : (T : RattleType) → IsSend (the_row T)
send = Node-send
