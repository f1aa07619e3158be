use Rattle.std.proofs.Common.{◌∙◌, ◌≤◌, ap, arith, length, List, Option}
use Rattle.session_cookie.specs.declared.cookie.Cookie.{Cookie}
use Rattle.session_steps.specs.Sessions.{padded}
use Rattle.session_steps.proofs.Padding.{padded_more}
use Rattle.session_steps.proofs.writing.pad.Goals as goal

pub loop-cookies-preserved : goal.loop-cookies-preserved
loop-cookies-preserved c =
    let cookies : List (Option Cookie) = c.loop-cookies.cookies.items in
    let below : length cookies ≤ c.args.key = omega (arith, c.loop-cookies-test.true) in
    ap (λ (cs : List (Option Cookie)). padded cs c.args.key) c.in_ok-push.ensures.items ∙ padded_more cookies c.args.key below ∙ c.loop-cookies.invariant
