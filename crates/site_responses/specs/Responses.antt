-- What each answer says, and the bytes of its response. `said` is the table of answers.
use Rattle.std.specs.Prelude.{◌≡◌, ◌≢◌, ℕ, Bool, true, false, List, [], ◌++◌, Option, Some, None, codes, ⊤}
use Rattle.http_wire.specs.Response.{response_bytes}
use Rattle.http_wire.specs.declared.response.CookieField.{CookieField}
use Rattle.http_wire.specs.declared.response.CookieField.TheVariants as change
use Rattle.http_wire.specs.declared.response.ExtraFields.{ExtraFields}
use Rattle.page_text.specs.Pages.{page_bytes}
use Rattle.action_fields.specs.Names.{field_name}
use Rattle.site_responses.specs.declared.answer.SiteAnswer.{SiteAnswer}
use Rattle.site_responses.specs.declared.answer.SiteAnswer.TheVariants.{Page, NotThere, NotAllowed, Multipart, BadForm, StaleForm, Expired, Lost, TryAgain, Failed}
use Rattle.site_responses.specs.declared.answer.Untaken.{Untaken}
use Rattle.site_responses.specs.declared.answer.Untaken.TheVariants.{Bad, TooLong, BodyTooLong, NoCoding}

-- what a response says, besides whether the connection ends
pub record Said : Type 0 where
  pub status : ℕ
  pub page : List ℕ
  pub cookie : CookieField
  pub retry : Bool
  pub allow : ℕ

-- the client keeps the cookie that it has
abbrev pub left_alone : CookieField
left_alone = change.None

-- a status, and a page of this heading alone, which has no lines
abbrev pub heading_alone : ℕ → List ℕ → Said
heading_alone status heading = record {
  status = status;
  page = page_bytes heading [];
  cookie = left_alone;
  retry = false;
  allow = 0;
}

-- the cookie of a session, where it was written
abbrev pub set_where : Option (List ℕ) → CookieField
set_where None = left_alone
set_where (Some text) = change.Set text

-- a status and a page, and the cookie of a session where it was written
abbrev pub page_said : ℕ → List ℕ → Option (List ℕ) → Said
page_said status page cookie = record {
  status = status;
  page = page;
  cookie = set_where cookie;
  retry = false;
  allow = 0;
}

-- the heading that names a field
unfoldable pub bad_field : List ℕ → List ℕ
bad_field name = codes "Bad field " ++ name

-- that a session is gone, and its cookie with it
abbrev pub gone : List ℕ → Said
gone heading = record (heading_alone 403 heading) { cookie = change.Clear }

-- that something is there by other methods
abbrev pub allowed : ℕ → Said
allowed allow = record (heading_alone 405 (codes "Method not allowed")) { allow = allow }

-- that the client may try again
abbrev pub try_again : Said
try_again = record (heading_alone 503 (codes "Try again")) { retry = true }

-- the page of an entry of the journal that has no action: its heading alone
abbrev pub failed_page : List ℕ
failed_page = page_bytes (codes "Failed") []

-- what each answer says
abbrev pub said : SiteAnswer → Said
said (Page status page cookie) = page_said status page cookie
said NotThere = heading_alone 404 (codes "Not there")
said (NotAllowed allow) = allowed allow
said Multipart = heading_alone 415 (codes "Form not understood")
said (BadForm field) = heading_alone 400 (bad_field (field_name field))
said StaleForm = heading_alone 409 (codes "Form is old")
said Expired = gone (codes "Session expired")
said Lost = gone (codes "Session lost")
said TryAgain = try_again
said Failed = heading_alone 500 (codes "Failed")

-- what is said where no further request is taken
abbrev pub said_untaken : Untaken → Said
said_untaken Bad = heading_alone 400 (codes "Bad request")
said_untaken TooLong = heading_alone 431 (codes "Head too long")
said_untaken BodyTooLong = heading_alone 413 (codes "Body too long")
said_untaken NoCoding = heading_alone 501 (codes "Coding not supported")

-- the fields that some responses have
abbrev pub extra_of : Said → Bool → ExtraFields
extra_of s close = record { cookie = s.cookie; retry = s.retry; allow = s.allow; close = close }

-- the bytes of what is said: whether the connection ends, and whether HEAD asked
unfoldable pub bytes_of : Said → Bool → Bool → List ℕ
bytes_of s close head_only = response_bytes s.status (extra_of s close) s.page head_only

-- the bytes of the response to a request
abbrev pub response : SiteAnswer → Bool → Bool → List ℕ
response answer close head_only = bytes_of (said answer) close head_only

-- the bytes of the last response, where no further request is taken
abbrev pub last_response : Untaken → List ℕ
last_response why = bytes_of (said_untaken why) true false

-- the session that the request came with is gone
abbrev pub IsSessionGone : SiteAnswer → Type 0
IsSessionGone Expired = ⊤
IsSessionGone Lost = ⊤
IsSessionGone (Page status page cookie) = ⊥
IsSessionGone NotThere = ⊥
IsSessionGone (NotAllowed allow) = ⊥
IsSessionGone Multipart = ⊥
IsSessionGone (BadForm field) = ⊥
IsSessionGone StaleForm = ⊥
IsSessionGone TryAgain = ⊥
IsSessionGone Failed = ⊥

-- the answer is a page, behind which the session was written with this cookie
abbrev pub IsWritten : SiteAnswer → List ℕ → Type 0
IsWritten answer text = (status : ℕ) × (page : List ℕ) × (answer ≡ Page status page (Some text))

-- the answer is no page of an action
abbrev pub IsNoPage : SiteAnswer → Type 0
IsNoPage answer = (status : ℕ) (page : List ℕ) (cookie : Option (List ℕ)) → answer ≢ Page status page cookie
