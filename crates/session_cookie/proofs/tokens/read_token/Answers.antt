use Rattle.std.proofs.Common.{arith, ap, sym, length, ◌∙◌, ◌≡◌}
use Rattle.std.proofs.lemmas.Bool.{both_ways}
use Rattle.session_cookie.specs.Reading.{byte_at}
use Rattle.session_cookie.specs.Token.{token_of}
use Rattle.session_cookie.proofs.Digits.{length-token, request_read, request_same}
use Rattle.session_cookie.proofs.tokens.read_token.Goals as goal

pub returns-then-text-ne-TOKEN_DIGITS : goal.returns-then-text-ne-TOKEN_DIGITS
returns-then-text-ne-TOKEN_DIGITS c r is e =
    let t = c.if-text-ne-TOKEN_DIGITS.true in
    let n = ap length e ∙ length-token c.args.key.now c.args.session r in
    omega (arith, n)

pub returns-else-is_same : goal.returns-else-is_same
returns-else-is_same c r is e =
    let found = c.in_ok-request.ensures.value in
    let same : c.in_ok-request.request ≡ r =
    request_same c.in_ok-request.request r found.0 is (λ k within. found.1 k within ∙ ap (λ text. byte_at text k) e ∙ request_read c.args.key.now c.args.session r k within) in
    let token : c.form_token.result ≡ c.args.text.now = c.form_token.ensures ∙ ap (token_of c.args.key.now c.args.session) same ∙ sym e in
    both_ways c.is_same.result c.if-is_same.false (c.is_same.ensures.1 token)
