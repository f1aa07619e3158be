use Rattle.ssm_stub.proofs.LawfulReplies.{lawful_put_is, is_lawful_put, lawful_get_is, is_lawful_get}
use Rattle.ssm_stub.proofs.lawful.lawful_replies_are_exact.Goals as goal

pub returns-clause-put : goal.returns-clause-put
returns-clause-put c = λ nonce key brick frame reply. (lawful_put_is nonce key brick frame reply, is_lawful_put nonce key brick frame reply)

pub returns-clause-get : goal.returns-clause-get
returns-clause-get c = λ nonce key version expiry holder frame reply.
    (lawful_get_is nonce key version expiry holder frame reply, is_lawful_get nonce key version expiry holder frame reply)
