use Rattle.std.proofs.Common.{rules}
use Rattle.ssm_stub.proofs.reply.is_reply.Goals as goal

pub returns-then-is_same_version-2 : goal.returns-then-is_same_version-2
returns-then-is_same_version-2 c = search rules

pub returns-else-is_same_version-2 : goal.returns-else-is_same_version-2
returns-else-is_same_version-2 c = search rules

pub returns-else-is_same_key : goal.returns-else-is_same_key
returns-else-is_same_key c = search rules

pub returns-else-is_same_version : goal.returns-else-is_same_version
returns-else-is_same_version c = search rules
