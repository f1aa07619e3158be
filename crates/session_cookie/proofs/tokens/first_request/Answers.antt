use Rattle.std.proofs.Common.{◌∙◌}
use Rattle.session_cookie.proofs.Digits.{request_taken}
use Rattle.session_cookie.proofs.tokens.first_request.Goals as goal

pub returns-clause-value : goal.returns-clause-value
returns-clause-value c = (
  (c.in_ok-boot.ensures.1, c.in_ok-serial.ensures.1),
  λ k within. request_taken c.first_bytes-bytes.result c.in_ok-boot.rest.now c.in_ok-serial.field-0-1.now c.in_ok-boot.boot c.in_ok-serial.serial k c.in_ok-boot.ensures.0 c.in_ok-serial.ensures.0 within
      ∙ c.first_bytes-bytes.ensures k within,
)
