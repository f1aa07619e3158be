-- Whose the session is after an action.
use Rattle.std.specs.Prelude.{◌≡◌, ℕ, ◌==◌, not, Bool, true, false}
use Rattle.journal_model.specs.declared.entry.DoneText.{DoneText}
use Rattle.journal_model.specs.declared.entry.SessionChange.TheVariants.{Set}
use Rattle.auction_calls.specs.declared.action.Action.{Action}
use Rattle.auction_calls.specs.declared.action.Action.TheVariants as action
use Rattle.auction_calls.specs.declared.action.ActionCall.{ActionCall}
use Rattle.auction_rows.specs.Session.{session_bytes, session_user}

-- An answer makes the session that of a user, set at a moment. User 0 is nobody.
pub record SetsSession (done : DoneText) (user now : ℕ) : Type 0 where
  pub set : done.session ≡ Set (session_bytes user now)
  pub is_user : session_user (session_bytes user now) ≡ user

-- Whether an action of a call leaves the session as it is, whatever it answers: it does not register, sign in or sign
-- out, and it is no form for one who is not signed in.
abbrev pub leaves_session : ActionCall → Action → Bool
leaves_session call action.Home = true
leaves_session call (action.Register name password) = false
leaves_session call (action.SignIn name password) = false
leaves_session call action.SignOut = false
leaves_session call action.Categories = true
leaves_session call (action.AddCategory name) = true
leaves_session call (action.Browse category page) = true
leaves_session call (action.Item item) = true
leaves_session call (action.User user) = true
leaves_session call action.About = true
leaves_session call (action.Sell title category start buy_now hours) = true
leaves_session call (action.Bid item amount) = true
leaves_session call (action.Buy item) = true
leaves_session call (action.Close item) = true
leaves_session call (action.Feedback item good text) = true
leaves_session call (action.Form kind) = not (call.user == 0)
