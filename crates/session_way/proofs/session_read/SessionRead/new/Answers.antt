use Rattle.session_way.proofs.Begun.{begun_from}
use Rattle.session_way.proofs.session_read.SessionRead.new.Goals as goal

pub invariant_of-result : goal.invariant_of-result
invariant_of-result c = (
  record { spelled = c.in_ok-ask.ensures.bytes; some = c.in_ok-ask.ensures.some; few = c.in_ok-ask.ensures.few },
  begun_from c.args.now c.args.nonce c.args.cookie c.in_ok-kept.kept c.in_ok-call.call c.in_ok-kept.ensures c.in_ok-call.ensures,
)
