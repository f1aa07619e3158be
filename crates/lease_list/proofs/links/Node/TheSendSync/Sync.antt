use denote.RattleType.{RattleType}
use denote.Param.Send.{IsSync}
use Rattle.lease_list.proofs.Crosses.{Node-sync}
use Rattle.lease_list.specs.contracts.links.Node.{the_row}

pub sync : (T : RattleType) → IsSync (the_row T)
sync = Node-sync
