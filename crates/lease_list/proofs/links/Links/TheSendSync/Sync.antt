use denote.RattleType.{RattleType}
use denote.Param.Send.{IsSync}
use Rattle.lease_list.proofs.Crosses.{Links-sync}
use Rattle.lease_list.specs.contracts.links.Links.{the_row}

pub sync : (T : RattleType) → IsSync T → IsSync (the_row T)
sync = Links-sync
