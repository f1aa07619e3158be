use Rattle.std.proofs.Common.{ℕ, subst}
use Rattle.session_cookie.specs.Reading.{HasNoBricks}
use Rattle.session_cookie.proofs.Forms.{no_head, no_rest, none_holds}
use Rattle.session_cookie.proofs.form.form_of.Goals as goal

pub returns-in_default : goal.returns-in_default
returns-in_default c cookie tag h = no_head c.args.bytes.now cookie tag c.in_default.ensures h

pub returns-in-None : goal.returns-in-None
returns-in-None c cookie tag h =
    let P : ℕ → Type 0 = λ count. HasNoBricks count c.in-Some.rest.now in
    no_rest c.args.bytes.now c.in-Some.rest.now c.in-Some.head.key c.in-Some.head.version c.in-Some.head.expiry c.in-Some.head.count c.in-Some.ensures.0 c.in-Some.ensures.1
    (subst P c.from.ensures (none_holds _ c.in_ok-bricks_of.field-0 c.in-None.is c.in_ok-bricks_of.ensures)) cookie tag h
