-- What is given to the step of a seat are functions.
use Rattle.std.proofs.Common.{◌≡◌, ◌↔◌, ℕ, Bool, true, false, List, Option, Some, None, refl, sym, ap, ◌∙◌}
use Rattle.std.specs.Prelude.{slice_get}
use Rattle.auction_calls.specs.declared.action.ActionCall.{ActionCall}
use Rattle.crash_base.specs.declared.numbers.SessionKey.{SessionKey}
use Rattle.lane_link.specs.Links.{LaneLinkMakes, SpellsPacket, after_receive, after_send, heard_next}
use Rattle.lane_link.specs.declared.link.LaneLink.{LaneLink}
use Rattle.request_decisions.specs.Decisions.{IsAccepted}
use Rattle.session_cookie.specs.Text.{IsTextOf}
use Rattle.session_cookie.specs.Token.{IsReadAs}
use Rattle.session_cookie.specs.declared.cookie.Cookie.{Cookie}
use Rattle.shepherd_steps.specs.Deciding.{ReadRightly}
use Rattle.shepherd_steps.specs.Opening.{MakesJust}
use Rattle.shepherd_steps.specs.Outside.{AnswersBy}
use Rattle.site_programs.specs.Errands.{IsMadeOf}
use Rattle.site_programs.specs.declared.maker.SiteMaker.{SiteMaker}
use Rattle.ssm_world.specs.declared.event.Packet.{Packet}
use Rattle.text_readings.specs.CookieTexts.{cookie_of_text}
use Rattle.text_readings.specs.TokenTexts.{request_of_text}
use Rattle.seat_steps.specs.Replies.{frame_heard, lane_replies, packet_bytes}
use Rattle.seat_steps.specs.Seats.{made_of, readings_under}

-- bytes that spell a packet are its bytes
pub packet-spelled : (bytes : List ℕ) (o : Option Packet) → SpellsPacket bytes o → packet_bytes o ≡ bytes
packet-spelled bytes None is = sym is
packet-spelled bytes (Some packet) is = sym is.0

-- The link answers just so.
pub lane-answers : AnswersBy LaneLinkMakes lane_replies
unfolding lane_replies
lane-answers = record {
  taken = λ old new to frame makes. ap (λ (b : Bool). (b, after_send old to frame)) makes.0 ∙ ap (λ (l : LaneLink). (true, l)) (sym makes.1);
  silent = λ old new to frame makes. ap (λ (b : Bool). (b, after_send old to frame)) makes.0 ∙ ap (λ (l : LaneLink). (false, l)) (sym makes.1);
  came = λ old new from frame makes.
      let is : frame_heard old (heard_next old from) ≡ Some frame =
      ap (frame_heard old) makes.1 ∙ ap (λ (b : List ℕ). Some b) (packet-spelled frame (slice_get old.lanes.world.packets makes.0) makes.2) in
      ap (λ (o : Option (List ℕ)). (o, after_receive old from)) is ∙ ap (λ (l : LaneLink). let o : Option (List ℕ) = Some frame in (o, l)) (sym makes.3);
  none_came = λ old new from makes.
      ap (λ (o : Option (List ℕ)). (o, after_receive old from)) (ap (frame_heard old) makes.0) ∙ ap (λ (l : LaneLink). let o : Option (List ℕ) = None in (o, l)) (sym makes.1);
}

-- The maker makes just these of a call.
pub makes-just : (maker : SiteMaker) → MakesJust (λ (m : SiteMaker). IsMadeOf) maker made_of
makes-just maker = λ call text program made.
    ap (λ (t : List ℕ). (t, call)) (sym made.spelled.bytes_are) ∙ ap (λ (p : ActionCall). (text, p)) (sym made.program_is)

-- the laws by which texts are read
abbrev pub CookieLaw : Type 0
CookieLaw = (key text : List ℕ) (cookie : Cookie) → (cookie_of_text key text ≡ Some cookie) ↔ IsTextOf key cookie text

abbrev pub NoneLaw : Type 0
NoneLaw = (key text : List ℕ) → (cookie_of_text key text ≡ None) ↔ ((cookie : Cookie) → ¬ IsTextOf key cookie text)

abbrev pub TokenLaw : Type 0
TokenLaw = (key text : List ℕ) (session : SessionKey) → IsReadAs key session text (request_of_text key session text)

-- Texts are read as what they are the texts of.
pub reads-rightly : CookieLaw → NoneLaw → TokenLaw → (key : List ℕ) → ReadRightly key (readings_under key)
reads-rightly cookies none tokens key = record {
  cookies = λ text. accepted text (cookie_of_text key text) refl;
  tokens = λ cookie text. tokens key text cookie.key;
} where
  accepted : (text : List ℕ) (o : Option Cookie) → cookie_of_text key text ≡ o → IsAccepted key (Some text) o
  accepted text None is = (none key text).0 is
  accepted text (Some cookie) is = (cookies key text cookie).0 is
