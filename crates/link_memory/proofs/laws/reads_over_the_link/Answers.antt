use Rattle.std.proofs.Common.{subst, sym}
use Rattle.session_cookie.specs.declared.cookie.Holder.{Holder}
use Rattle.ssm_stub.specs.Turns.{none_asked}
use Rattle.ssm_stub.specs.Reads.{ReadState, read_start, read_machine, get_lawful}
use Rattle.ssm_stub.specs.declared.reply.ReadReply.{ReadReply}
use Rattle.link_memory.specs.Leaving.{Leaves}
use Rattle.link_memory.proofs.Apart.{holders_apart, none_distinct}
use Rattle.link_memory.proofs.Asking.{leaves_by}
use Rattle.link_memory.proofs.Turns.{reads, read_turned, none_yet}
use Rattle.link_memory.proofs.laws.reads_over_the_link.Goals as goal

pub returns : goal.returns
returns c = λ now nonce cookie ask events end old new differ ran.
    let s = read_start now nonce cookie in
    let lawful = get_lawful nonce cookie.key cookie.version cookie.expiry in
    let left = leaves_by (λ (holder : Holder). holder.brick) lawful ask read_machine (reads s) (read_turned s) events (none_asked cookie.bricks) end old new (none_distinct ReadReply (λ (holder : Holder). holder.brick) cookie.bricks (holders_apart cookie.bricks differ)) (none_yet cookie.bricks) ran in
    let P : ReadState → Type 0 = λ e. Leaves (λ (holder : Holder). holder.brick) lawful ask e.asks old new in
    subst P (sym left.1) left.2
