use Rattle.ssm_stub.specs.Writes.{put_lawful}
use Rattle.link_memory.proofs.SettlesOver.{all_settled}
use Rattle.link_memory.proofs.laws.settling_over_the_link.Goals as goal

pub returns : goal.returns
returns c = λ nonce key passes marks old new settled. all_settled (put_lawful nonce key) passes marks old new settled
