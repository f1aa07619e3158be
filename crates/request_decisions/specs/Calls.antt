-- The call of an order: its action with all else that the answer depends on besides the rows.
use Rattle.std.specs.Prelude.{ℕ, Bool, if◌then◌else◌, List, ◌++◌, map, filter, replicate, slice_index, Option, Some, None}
use Rattle.std.specs.Int.{w64, to_be_bytes}
use Rattle.crash_base.specs.declared.numbers.Moment.{Moment}
use Rattle.crash_base.specs.declared.numbers.RequestNo.{RequestNo}
use Rattle.crash_base.specs.declared.numbers.SessionKey.{SessionKey}
use Rattle.auction_calls.specs.declared.action.ActionCall.{ActionCall}
use Rattle.auction_rows.specs.Session.{session_user}
use Rattle.session_cookie.specs.Token.{token_of}
use Rattle.session_cookie.specs.declared.cookie.Cookie.{Cookie}
use Rattle.request_decisions.specs.Counts.{is_kind}
use Rattle.request_decisions.specs.Draws.{shows_form}
use Rattle.request_decisions.specs.declared.decision.Order.{Order}
use Rattle.request_decisions.specs.declared.draws.Draw.{Draw}
use Rattle.request_decisions.specs.declared.draws.DrawKind.{DrawKind}
use Rattle.request_decisions.specs.declared.draws.DrawKind.TheVariants.{Request, Token, KeyWord, Fresh}

-- the numbers that were drawn for this
abbrev pub numbers_for : DrawKind → List Draw → List ℕ
numbers_for kind drawn = map (λ (d : Draw). d.number) (filter (λ (d : Draw). is_kind d.kind kind) drawn)

-- the first of them, and 0 where none was drawn
abbrev pub number_for : DrawKind → List Draw → ℕ
number_for kind drawn = slice_index (numbers_for kind drawn) 0

-- the number of a request: that of its token, or the one that was drawn
abbrev pub request_of : ℕ → Option RequestNo → List Draw → RequestNo
request_of boot (Some number) drawn = number
request_of boot None drawn = record { boot = boot; serial = number_for Request drawn }

-- the key of the session that begins: the bytes of the two words that were drawn for it, and of 0 where none was
unfoldable pub new_key : List Draw → SessionKey
new_key drawn =
    record { 0 = to_be_bytes w64 (slice_index (numbers_for KeyWord drawn) 0) ++ to_be_bytes w64 (slice_index (numbers_for KeyWord drawn) 1) }

-- the key of the session: that of the cookie, or of the session that begins, and 16 zero bytes where none does
abbrev pub session_key : Option Cookie → List Draw → SessionKey
session_key (Some cookie) drawn = cookie.key
session_key None drawn = new_key drawn

-- the token that a form shows, of a session and of the number that was drawn for it; 56 zero bytes, which are no token,
-- where no form is shown
abbrev pub form_of : List ℕ → ℕ → SessionKey → Bool → List Draw → List ℕ
form_of key boot session shown drawn =
    if shown then token_of key session (record { boot = boot; serial = number_for Token drawn }) else replicate 56 0

-- the call of an order whose session is not read: of no user
unfoldable pub ordered_call : List ℕ → ℕ → Order → Moment → List Draw → ActionCall
ordered_call key boot o moment drawn = record {
  action = o.action;
  user = 0;
  key = session_key o.cookie drawn;
  now = moment;
  fresh = number_for Fresh drawn;
  form = form_of key boot (session_key o.cookie drawn) (shows_form o.action) drawn;
}

-- the user of a session with this value, and 0 without one
abbrev pub user_of : Option (List ℕ) → ℕ
user_of None = 0
user_of (Some value) = session_user value

-- a call by the user of a session
abbrev pub call_by : ActionCall → Option (List ℕ) → ActionCall
call_by call value = record call { user = user_of value }

-- The call of an order: under the service's key, in this boot, at the moment of its request, with what was drawn for it
-- and the value of its session, where that was read.
abbrev pub call_of : List ℕ → ℕ → Order → Moment → List Draw → Option (List ℕ) → ActionCall
call_of key boot o moment drawn value = call_by (ordered_call key boot o moment drawn) value
