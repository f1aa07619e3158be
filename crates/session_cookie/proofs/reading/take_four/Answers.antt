use Rattle.std.proofs.Common.{rules}
use Rattle.base64.specs.GeneralPurpose.{IsBytes}
use Rattle.session_cookie.proofs.Taking.{four_taken}
use Rattle.session_cookie.proofs.reading.take_four.Goals as goal

pub returns : goal.returns
returns c =
    let small : IsBytes c.args.bytes.now = search rules in
    (four_taken c.args.bytes.now c.in_ok-number.number c.in_ok-number.rest.now small c.in_ok-number.ensures, search rules)
