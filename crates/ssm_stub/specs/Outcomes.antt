-- What writes and reads over a link come to, told by the calls of the link alone.
use Rattle.std.specs.Prelude.{◌≡◌, ℕ, ◌+◌, ◌<◌, All, List, [], ◌∷◌, ◌++◌, length, take, filter_map, Option}
use Rattle.crash_base.specs.declared.numbers.BrickNo.{BrickNo}
use Rattle.crash_base.specs.declared.numbers.Moment.{Moment}
use Rattle.crash_base.specs.declared.numbers.SessionKey.{SessionKey}
use Rattle.crash_base.specs.declared.numbers.Version.{Version}
use Rattle.outside.specs.declared.link.LinkEvent.{LinkEvent}
use Rattle.outside.specs.Link.{Made}
use Rattle.session_cookie.specs.declared.cookie.Cookie.{Cookie}
use Rattle.session_cookie.specs.declared.cookie.Holder.{Holder}
use Rattle.ssm_frames.specs.declared.frame.Frame.{Frame}
use Rattle.ssm_stub.specs.declared.cause.BrickCause.{BrickCause}
use Rattle.ssm_stub.specs.declared.cause.Cause.{Cause}
use Rattle.ssm_stub.specs.declared.cause.Cause.TheVariants as cause
use Rattle.ssm_stub.specs.declared.ear.Outcome.TheVariants.{Answered, Silent, Strayed}
use Rattle.ssm_stub.specs.declared.event.Told.{Told}
use Rattle.ssm_stub.specs.declared.reply.WriteReply.{WriteReply}
use Rattle.ssm_stub.specs.declared.reply.WriteReply.TheVariants.{Stored, Full}
use Rattle.ssm_stub.specs.declared.reply.ReadReply.{ReadReply}
use Rattle.ssm_stub.specs.declared.reply.ReadReply.TheVariants.{Found, Crashed, Swept}
use Rattle.ssm_stub.specs.Ears.{ear_after}
use Rattle.ssm_stub.specs.Hearing.{EndsIn, all_about}
use Rattle.ssm_stub.specs.Writes.{put_lawful, holder_by, cause_by, with_brick}
use Rattle.ssm_stub.specs.Reads.{get_lawful}

-- the brick as a holder, where by what bricks were told it stored the value
abbrev pub stored_of : Version → SessionKey → (BrickNo → List Told) → BrickNo → Option Holder
stored_of nonce key told brick = holder_by brick (ear_after (put_lawful nonce key brick) (told brick))

-- the brick with its cause, where by what bricks were told it has one for not having stored the value
abbrev pub missed_of : Version → SessionKey → (BrickNo → List Told) → BrickNo → Option BrickCause
missed_of nonce key told brick =
    with_brick brick (cause_by (ear_after (put_lawful nonce key brick) (told brick)))

-- the brick as a holder, where by these calls it stored the value
abbrev pub stored_by : Version → SessionKey → List LinkEvent → BrickNo → Option Holder
stored_by nonce key calls brick = stored_of nonce key (λ b. all_about b calls) brick

-- the brick with its cause, where by these calls it has one for not having stored the value
abbrev pub missed_by : Version → SessionKey → List LinkEvent → BrickNo → Option BrickCause
missed_by nonce key calls brick = missed_of nonce key (λ b. all_about b calls) brick

-- These events are why a brick did not store a value.
abbrev pub IsPutCause : (Frame → Option WriteReply) → List Told → Cause → Type 0
IsPutCause lawful events cause.Silent = EndsIn lawful events Silent
IsPutCause lawful events cause.Strayed = EndsIn lawful events Strayed
IsPutCause lawful events (cause.Full entries bytes) = EndsIn lawful events (Answered (Full entries bytes))
IsPutCause lawful events (cause.Crashed incarnation) = ⊥
IsPutCause lawful events (cause.Swept moment) = ⊥

-- These events are why a holder did not give a value.
abbrev pub IsGetCause : (Frame → Option ReadReply) → List Told → Cause → Type 0
IsGetCause lawful events cause.Silent = EndsIn lawful events Silent
IsGetCause lawful events cause.Strayed = EndsIn lawful events Strayed
IsGetCause lawful events (cause.Full entries bytes) = ⊥
IsGetCause lawful events (cause.Crashed incarnation) = EndsIn lawful events (Answered (Crashed incarnation))
IsGetCause lawful events (cause.Swept moment) = EndsIn lawful events (Answered (Swept moment))

-- A write gave a cookie: it has the write's key, nonce and expiry, and names the first `least` of the
-- bricks that gave a lawful Stored, in asked order, with the incarnations that these tell.
pub record IsWritten {L : Type 0} (makes : L → LinkEvent → L → Type 0) (bricks : List BrickNo) (least : ℕ) (nonce : Version) (key : SessionKey) (expiry : Moment) (old new : L) (cookie : Cookie) : Type 0 where
  pub calls : List LinkEvent
  pub made : Made makes old calls new
  pub key_is : cookie.key ≡ key
  pub version_is : cookie.version ≡ nonce
  pub expiry_is : cookie.expiry ≡ expiry
  pub enough : length cookie.bricks ≡ least
  pub first : cookie.bricks ≡ take least (filter_map (stored_by nonce key calls) bricks)
  pub stored : All (λ (holder : Holder). EndsIn (put_lawful nonce key holder.brick) (all_about holder.brick calls) (Answered (Stored holder.incarnation))) cookie.bricks

-- A write was missed: fewer than `least` bricks gave a lawful Stored, and each other one has its cause,
-- in asked order.
pub record IsMissed {L : Type 0} (makes : L → LinkEvent → L → Type 0) (bricks : List BrickNo) (least : ℕ) (nonce : Version) (key : SessionKey) (old new : L) (causes : List BrickCause) : Type 0 where
  pub calls : List LinkEvent
  pub made : Made makes old calls new
  pub few : length (filter_map (stored_by nonce key calls) bricks) < least
  pub causes_are : causes ≡ filter_map (missed_by nonce key calls) bricks
  pub all_heard : length (filter_map (stored_by nonce key calls) bricks) + length causes ≡ length bricks
  pub told : All (λ (c : BrickCause). IsPutCause (put_lawful nonce key c.brick) (all_about c.brick calls) c.cause) causes

-- By what the bricks of a write were told it was missed: fewer than `least` gave a lawful Stored, and each
-- other one has its cause, in asked order.
pub record IsMissedBy (bricks : List BrickNo) (least : ℕ) (nonce : Version) (key : SessionKey) (told_to : BrickNo → List Told) (causes : List BrickCause) : Type 0 where
  pub few : length (filter_map (stored_of nonce key told_to) bricks) < least
  pub causes_are : causes ≡ filter_map (missed_of nonce key told_to) bricks
  pub all_heard : length (filter_map (stored_of nonce key told_to) bricks) + length causes ≡ length bricks
  pub told : All (λ (c : BrickCause). IsPutCause (put_lawful nonce key c.brick) (told_to c.brick) c.cause) causes

-- each of these holders has its cause by what its brick was told, in order
abbrev pub HaveCausesBy : (Holder → Frame → Option ReadReply) → (BrickNo → List Told) → List Holder → List BrickCause → Type 0
HaveCausesBy lawful told [] [] = Unit {0}
HaveCausesBy lawful told [] (c ∷ causes) = ⊥
HaveCausesBy lawful told (holder ∷ holders) [] = ⊥
HaveCausesBy lawful told (holder ∷ holders) (c ∷ causes) =
    (c.brick ≡ holder.brick) × IsGetCause (lawful holder) (told holder.brick) c.cause
    × HaveCausesBy lawful told holders causes

-- each of these holders has its cause by these calls, in order
abbrev pub HaveCauses : (Holder → Frame → Option ReadReply) → List LinkEvent → List Holder → List BrickCause → Type 0
HaveCauses lawful calls holders causes = HaveCausesBy lawful (λ b. all_about b calls) holders causes

-- By what the holders of a read were told one of them gave the value by a lawful Found, each holder before
-- it has its cause, and those behind it were not asked.
pub record IsReadBy (lawful : Holder → Frame → Option ReadReply) (told : BrickNo → List Told) (holders : List Holder) (value : List ℕ) : Type 0 where
  pub before : List Holder
  pub holder : Holder
  pub behind : List Holder
  pub parts : holders ≡ before ++ holder ∷ behind
  pub causes : List BrickCause
  pub lost : HaveCausesBy lawful told before causes
  pub found : EndsIn (lawful holder) (told holder.brick) (Answered (Found value))
  pub unasked : All (λ (h : Holder). told h.brick ≡ []) behind

-- A read was lost: each holder of the cookie has its cause, in order.
pub record IsLost {L : Type 0} (makes : L → LinkEvent → L → Type 0) (nonce : Version) (cookie : Cookie) (old new : L) (causes : List BrickCause) : Type 0 where
  pub calls : List LinkEvent
  pub made : Made makes old calls new
  pub told : HaveCauses (get_lawful nonce cookie.key cookie.version cookie.expiry) calls cookie.bricks causes

-- A read gave a value: a holder gave it by a lawful Found, each holder before it has its cause, and
-- those behind it were not asked.
pub record IsRead {L : Type 0} (makes : L → LinkEvent → L → Type 0) (nonce : Version) (cookie : Cookie) (old new : L) (value : List ℕ) : Type 0 where
  pub calls : List LinkEvent
  pub made : Made makes old calls new
  pub before : List Holder
  pub holder : Holder
  pub behind : List Holder
  pub parts : cookie.bricks ≡ before ++ holder ∷ behind
  pub causes : List BrickCause
  pub lost : HaveCauses (get_lawful nonce cookie.key cookie.version cookie.expiry) calls before causes
  pub found : EndsIn (get_lawful nonce cookie.key cookie.version cookie.expiry holder) (all_about holder.brick calls) (Answered (Found value))
  pub unasked : All (λ (h : Holder). all_about h.brick calls ≡ []) behind
