use Rattle.session_cookie.proofs.Taking.{first_taken}
use Rattle.session_cookie.proofs.reading.take_key.Goals as goal

pub returns : goal.returns
returns c =
    let taken = first_taken 16 c.in_ok-key.key.now c.args.bytes.now c.in_ok-key.rest.now c.in_ok-key.ensures.cases.0 c.in_ok-key.ensures.cases.1 c.in_ok-key.ensures.cases.2 in
    (taken.0, c.key_is_in_range.ensures)
