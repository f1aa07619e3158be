use Rattle.std.proofs.Common.{map, refl, subst, sym}
use Rattle.ssm_stub.specs.Ends.{bricks_of}
use Rattle.ssm_stub.specs.Runs.{told_of}
use Rattle.ssm_stub.specs.Turns.{none_asked}
use Rattle.ssm_stub.specs.Writes.{WriteState, write_start, write_machine, write_until, put_lawful}
use Rattle.ssm_stub.specs.declared.reply.WriteReply.{WriteReply}
use Rattle.link_lanes.specs.Lanes.{lane_of}
use Rattle.link_memory.specs.Leaving.{Leaves}
use Rattle.link_memory.proofs.Apart.{passes_apart, none_distinct}
use Rattle.link_memory.proofs.Asking.{leaves_by}
use Rattle.link_memory.proofs.Turns.{writes, write_turned, until_turned, none_yet}
use Rattle.link_memory.proofs.Unheard.{none_strayed, all_wait}
use Rattle.link_memory.proofs.laws.writes_over_the_link.Goals as goal

pub returns-clause-until_answer : goal.returns-clause-until_answer
returns-clause-until_answer c = λ before least nonce key value expiry ask events end old new differ ran.
    let bricks = bricks_of before in
    let s = write_start bricks least nonce key value expiry in
    let left = leaves_by (λ brick. brick) (put_lawful nonce key) ask write_until (writes s) (until_turned s) events (none_asked bricks) end old new (none_distinct WriteReply (λ brick. brick) bricks (passes_apart before differ)) (none_yet bricks) ran in
    let P : WriteState → Type 0 = λ e. Leaves (λ brick. brick) (put_lawful nonce key) ask e.asks old new in
    subst P (sym left.1) left.2

pub returns-clause-to_the_end : goal.returns-clause-to_the_end
returns-clause-to_the_end c = λ before least nonce key value expiry ask events end old new differ ran.
    let bricks = bricks_of before in
    let s = write_start bricks least nonce key value expiry in
    let left = leaves_by (λ brick. brick) (put_lawful nonce key) ask write_machine (writes s) (write_turned s) events (none_asked bricks) end old new (none_distinct WriteReply (λ brick. brick) bricks (passes_apart before differ)) (none_yet bricks) ran in
    let P : WriteState → Type 0 = λ e. Leaves (λ brick. brick) (put_lawful nonce key) ask e.asks old new in
    subst P (sym left.1) left.2

pub returns-clause-unheard : goal.returns-clause-unheard
returns-clause-unheard c = λ before least nonce key value expiry ask events end old new answer differ ran answers i strays a lane here ear found.
    let left = (returns-clause-until_answer c before least nonce key value expiry ask events end old new differ ran).of_asked i a here in
    let none = none_strayed (map told_of events) (bricks_of before) (write_start (bricks_of before) least nonce key value expiry) end answer refl ran.fitting ran.ends answers i strays a here ear in
    (none, all_wait (put_lawful nonce key a.who) ask a.ear strays (lane_of old a.who.0) (lane_of new a.who.0) lane left ear none found)
