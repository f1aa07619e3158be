-- When a response changes the cookie, when it says to try again, and which fields come with which answer.
use Rattle.std.proofs.Common.{◌≡◌, ◌↔◌, ℕ, ◌<◌, Bool, true, false, List, ◌++◌, Some, None, refl, ap, arith}
use Rattle.http_wire.specs.Response.{response_bytes}
use Rattle.http_wire.specs.declared.response.CookieField.TheVariants as change
use Rattle.http_wire.specs.declared.response.ExtraFields.{ExtraFields}
use Rattle.site_responses.specs.Responses.{IsNoPage, IsSessionGone, IsWritten, bytes_of, extra_of, last_response, left_alone, response, said, said_untaken}
use Rattle.site_responses.specs.declared.answer.SiteAnswer.{SiteAnswer}
use Rattle.site_responses.specs.declared.answer.SiteAnswer.TheVariants.{Page, NotThere, NotAllowed, Multipart, BadForm, StaleForm, Expired, Lost, TryAgain, Failed}
use Rattle.site_responses.specs.declared.answer.Untaken.{Untaken}
use Rattle.site_responses.specs.declared.answer.Untaken.TheVariants.{Bad, TooLong, BodyTooLong, NoCoding}

-- an answer that sets no cookie is no page behind which the session was written
abbrev SetsNone : SiteAnswer → Type 0
SetsNone answer = (text : List ℕ) → ((said answer).cookie ≡ change.Set text) ↔ IsWritten answer text

pub when_set : (answer : SiteAnswer) → SetsNone answer
when_set (Page status page None) text = (λ e. absurd (cc), λ e. let same = e.2 in absurd (cc))
when_set (Page status page (Some t)) text = (
  λ e. let same : t ≡ text = cc in (status, page, ap (λ (u : List ℕ). Page status page (Some u)) same),
  λ e. let same = e.2 in cc,
)
when_set NotThere text = (λ e. absurd (cc), λ e. let same = e.2 in absurd (cc))
when_set (NotAllowed allow) text = (λ e. absurd (cc), λ e. let same = e.2 in absurd (cc))
when_set Multipart text = (λ e. absurd (cc), λ e. let same = e.2 in absurd (cc))
when_set (BadForm field) text = (λ e. absurd (cc), λ e. let same = e.2 in absurd (cc))
when_set StaleForm text = (λ e. absurd (cc), λ e. let same = e.2 in absurd (cc))
when_set Expired text = (λ e. absurd (cc), λ e. let same = e.2 in absurd (cc))
when_set Lost text = (λ e. absurd (cc), λ e. let same = e.2 in absurd (cc))
when_set TryAgain text = (λ e. absurd (cc), λ e. let same = e.2 in absurd (cc))
when_set Failed text = (λ e. absurd (cc), λ e. let same = e.2 in absurd (cc))

pub when_cleared : (answer : SiteAnswer) → ((said answer).cookie ≡ change.Clear) ↔ IsSessionGone answer
when_cleared (Page status page None) = (λ e. absurd (cc), λ e. absurd e)
when_cleared (Page status page (Some t)) = (λ e. absurd (cc), λ e. absurd e)
when_cleared NotThere = (λ e. absurd (cc), λ e. absurd e)
when_cleared (NotAllowed allow) = (λ e. absurd (cc), λ e. absurd e)
when_cleared Multipart = (λ e. absurd (cc), λ e. absurd e)
when_cleared (BadForm field) = (λ e. absurd (cc), λ e. absurd e)
when_cleared StaleForm = (λ e. absurd (cc), λ e. absurd e)
when_cleared Expired = (λ e. tt, λ e. refl)
when_cleared Lost = (λ e. tt, λ e. refl)
when_cleared TryAgain = (λ e. absurd (cc), λ e. absurd e)
when_cleared Failed = (λ e. absurd (cc), λ e. absurd e)

pub when_retried : (answer : SiteAnswer) → ((said answer).retry ≡ true) ↔ (answer ≡ TryAgain)
when_retried (Page status page written) = (λ e. absurd (cc), λ e. absurd (cc))
when_retried NotThere = (λ e. absurd (cc), λ e. absurd (cc))
when_retried (NotAllowed allow) = (λ e. absurd (cc), λ e. absurd (cc))
when_retried Multipart = (λ e. absurd (cc), λ e. absurd (cc))
when_retried (BadForm field) = (λ e. absurd (cc), λ e. absurd (cc))
when_retried StaleForm = (λ e. absurd (cc), λ e. absurd (cc))
when_retried Expired = (λ e. absurd (cc), λ e. absurd (cc))
when_retried Lost = (λ e. absurd (cc), λ e. absurd (cc))
when_retried TryAgain = (λ e. refl, λ e. refl)
when_retried Failed = (λ e. absurd (cc), λ e. absurd (cc))

-- the bytes up to the page, and the page
pub page_behind : ((status : ℕ) (extra : ExtraFields) (page : List ℕ)
    → response_bytes status extra page false ≡ response_bytes status extra page true ++ page)
    → (answer : SiteAnswer) (close : Bool) → response answer close false ≡ response answer close true ++ (said answer).page
unfolding bytes_of
page_behind law answer close = law (said answer).status (extra_of (said answer) close) (said answer).page

-- no methods are named
none_named : (allow : ℕ) → 0 < allow → 0 ≡ allow → ⊥
none_named allow some e = absurd (omega arith)

pub when_allowed : (answer : SiteAnswer) (allow : ℕ) → 0 < allow → ((said answer).allow ≡ allow) ↔ (answer ≡ NotAllowed allow)
when_allowed (Page status page cookie) allow some = (λ e. absurd (none_named allow some e), λ e. absurd (cc))
when_allowed NotThere allow some = (λ e. absurd (none_named allow some e), λ e. absurd (cc))
when_allowed (NotAllowed other) allow some = (λ e. ap (λ (n : ℕ). NotAllowed n) e, λ e. cc)
when_allowed Multipart allow some = (λ e. absurd (none_named allow some e), λ e. absurd (cc))
when_allowed (BadForm field) allow some = (λ e. absurd (none_named allow some e), λ e. absurd (cc))
when_allowed StaleForm allow some = (λ e. absurd (none_named allow some e), λ e. absurd (cc))
when_allowed Expired allow some = (λ e. absurd (none_named allow some e), λ e. absurd (cc))
when_allowed Lost allow some = (λ e. absurd (none_named allow some e), λ e. absurd (cc))
when_allowed TryAgain allow some = (λ e. absurd (none_named allow some e), λ e. absurd (cc))
when_allowed Failed allow some = (λ e. absurd (none_named allow some e), λ e. absurd (cc))

pub when_forbidden : (answer : SiteAnswer) → IsNoPage answer → ((said answer).status ≡ 403) ↔ IsSessionGone answer
when_forbidden (Page status page cookie) other = absurd (other status page cookie refl)
when_forbidden NotThere other = (λ e. absurd (omega (arith, e)), λ e. absurd e)
when_forbidden (NotAllowed allow) other = (λ e. absurd (omega (arith, e)), λ e. absurd e)
when_forbidden Multipart other = (λ e. absurd (omega (arith, e)), λ e. absurd e)
when_forbidden (BadForm field) other = (λ e. absurd (omega (arith, e)), λ e. absurd e)
when_forbidden StaleForm other = (λ e. absurd (omega (arith, e)), λ e. absurd e)
when_forbidden Expired other = (λ e. tt, λ e. refl)
when_forbidden Lost other = (λ e. tt, λ e. refl)
when_forbidden TryAgain other = (λ e. absurd (omega (arith, e)), λ e. absurd e)
when_forbidden Failed other = (λ e. absurd (omega (arith, e)), λ e. absurd e)

pub bytes_say : (answer : SiteAnswer) (close head_only : Bool) → response answer close head_only
    ≡ response_bytes (said answer).status (record { cookie = (said answer).cookie; retry = (said answer).retry; allow = (said answer).allow; close = close }) (said answer).page head_only
unfolding bytes_of
bytes_say answer close head_only = refl

pub last_closes : (why : Untaken) → last_response why
    ≡ response_bytes (said_untaken why).status (record { cookie = left_alone; retry = false; allow = 0; close = true }) (said_untaken why).page false
unfolding bytes_of
last_closes Bad = refl
last_closes TooLong = refl
last_closes BodyTooLong = refl
last_closes NoCoding = refl
