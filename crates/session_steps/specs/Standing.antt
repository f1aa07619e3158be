-- What stands of all that a scenario did to its sessions.
use Rattle.std.specs.Prelude.{◌≡◌, ◌<◌, ◌≤◌, ℕ, List, ◌∷◌, ◌++◌, slice_get, Some}
use Rattle.scenario_text.specs.declared.session_line.SessionLine.TheVariants as lines
use Rattle.session_cookie.specs.declared.cookie.Holder.{Holder}
use Rattle.ssm_stub.specs.declared.cause.BrickCause.{BrickCause}
use Rattle.ssm_world.specs.Worlds.{IsMade}
use Rattle.session_steps.specs.Promise.{SessionTurn, Does, Lead, CanServe, FindsValue, IsLost, IsRight, FetchedWrite, IsOfWrite, fetch_of, HasCrashedOrWasUnheard, NoneSweptLate}
use Rattle.session_steps.specs.Sessions.{SessionsState, expiry}
use Rattle.scenario_text.specs.Setup.{SetupState}
use Rattle.session_steps.specs.Setup.{set_up}
use Rattle.session_lanes.specs.Lanes.{LanesState}
use Rattle.session_steps.specs.Texts.{version_text, found_text, expired_text, lost_text}

-- What stands of a fetch of what was written. It wrote the value, that the cookie had expired, or that the value was
-- lost with the cause of each brick. The write's line told the version, and the cookie expires a lease after the write.
-- In time it found the value where a brick of the cookie could serve it, and never found another; past the expiry it
-- said so. Lost was told only with the cause of each brick, and within the lease only where every brick of the cookie
-- has crashed since, or was silent to this fetch, or strayed.
pub record FetchStands {setup : SetupState} (story : FetchedWrite setup 0) : Type 0 where
  pub right : IsRight (fetch_of story) story.text
  pub version : story.written ≡ version_text story.key story.cookie
  pub lease : story.cookie.expiry ≡ expiry story.at_write
  pub found : story.at_fetch.moment.0 ≤ story.cookie.expiry.0 → CanServe (fetch_of story) → story.text ≡ found_text story.key story.value
  pub only : (value : List ℕ) → story.text ≡ found_text story.key value → FindsValue (fetch_of story) story.text
  pub expired : story.cookie.expiry.0 < story.at_fetch.moment.0 → story.text ≡ expired_text story.key story.at_fetch.moment story.cookie.expiry
  pub lost : (causes : List BrickCause) → story.text ≡ lost_text story.key causes → IsLost (fetch_of story) story.text
  pub crashed_or_unheard : (causes : List BrickCause) (place : ℕ) (holder : Holder) → story.text ≡ lost_text story.key causes → NoneSweptLate (fetch_of story) → slice_get story.cookie.bricks place ≡ Some holder → HasCrashedOrWasUnheard (fetch_of story) holder

-- A fetch of a key after turns, which wrote a text, is of a write among these turns, and what it answered stands.
pub record IsAnswered (setup : SetupState) (turns : List SessionTurn) (key : ℕ) (text : List ℕ) : Type 0 where
  pub at_fetch : SessionsState
  pub of_write : IsOfWrite setup 0 turns at_fetch key text
  pub stands : FetchStands of_write.story

-- All turns of a scenario of this setup were done and lead to sessions at the end: their bricks, packets and calls are
-- a world that events made, and each fetch among the turns is answered so.
pub record SessionsStand (setup : SetupState) (turns : List SessionTurn) (end : SessionsState) : Type 0 where
  pub lead : Lead (set_up setup 0) turns end
  pub worlds : (st : LanesState) → end.store ≡ Some st → IsMade st.world
  pub fetches : (before after : List SessionTurn) (key : ℕ) (text : List ℕ) → turns ≡ before ++ Does (lines.Fetch key) text ∷ after → IsAnswered setup before key text
