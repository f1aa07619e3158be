use denote.RattleType.{RattleType}
use denote.Param.Send.{IsSend}
use Rattle.lease_list.proofs.Crosses.{Links-send}
use Rattle.lease_list.specs.contracts.links.Links.{the_row}

pub send : (T : RattleType) → IsSend T → IsSend (the_row T)
send = Links-send
