-- A token is of one request, and is read back as it.
use Rattle.std.proofs.Common.{◌≡◌, ℕ, List, Option, Some, None, sym, ap, refl, ◌∙◌}
use Rattle.crash_base.specs.declared.numbers.RequestNo.{RequestNo}
use Rattle.crash_base.specs.declared.numbers.SessionKey.{SessionKey}
use Rattle.session_cookie.specs.Reading.{byte_at}
use Rattle.session_cookie.specs.Token.{token_of, IsReadAs, IsRequest}
use Rattle.session_cookie.proofs.Digits.{request_read, request_same}

pub one_request : (key other_key : List ℕ) (session other_session : SessionKey) (r other : RequestNo) → IsRequest r → IsRequest other
    → token_of key session r ≡ token_of other_key other_session other → r ≡ other
one_request key other_key session other_session r other is also same =
    request_same r other is also (λ k within. sym (request_read key session r k within) ∙ ap (λ text. byte_at text k) same ∙ request_read other_key other_session other k within)

pub reads_back : (key : List ℕ) (session : SessionKey) (r : RequestNo) (read : Option RequestNo) → IsRequest r
    → IsReadAs key session (token_of key session r) read → read ≡ Some r
reads_back key session r (Some other) is (also, same) = ap (λ q. Some q) (sym (one_request key key session session r other is also same))
reads_back key session r None is none = absurd (none r is refl)
