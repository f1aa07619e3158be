-- The cookies of sessions are acknowledged, each by the write line that sound it.
use Rattle.std.proofs.Common.{◌≡◌, ◌⊎◌, inl, inr, ℕ, ◌==◌, Bool, true, false, List, [], ◌∷◌, Option, Some, None, refl, sym, ap, ◌∙◌, subst}
use Rattle.crash_base.specs.declared.numbers.Moment.{Moment}
use Rattle.crash_base.specs.declared.numbers.Version.{Version}
use Rattle.crash_base.specs.Same.{same_version}
use Rattle.scenario_text.specs.declared.session_line.SessionLine.TheVariants as lines
use Rattle.session_cookie.specs.declared.cookie.Cookie.{Cookie}
use Rattle.ssm_world.specs.declared.call.Call.{Call}
use Rattle.ssm_world.specs.declared.call.Call.TheVariants as call
use Rattle.ssm_world.specs.declared.event.WorldEvent.{WorldEvent}
use Rattle.ssm_world.specs.Claims.{IsAcknowledged}
use Rattle.ssm_world.specs.Worlds.{WorldValue, nonce_of, new_world, is_new, after, IsMade}
use Rattle.ssm_world.proofs.Holding.{answer_cookie}
use Rattle.ssm_world.proofs.Lists.{none_passes}
use Rattle.ssm_world.proofs.Tests.{same_number, number_same, version_same}
use Rattle.session_steps.specs.Promise.{SessionTurn, Does, Boots, Lends, Makes, Lead}
use Rattle.session_steps.specs.Sessions.{SessionsState, session_key, cookie_of}
use Rattle.session_lanes.specs.Lanes.{LanesState}
use Rattle.session_steps.proofs.Cookies.{kept_cookie, other_cookie, same_cookie}
use Rattle.session_steps.proofs.LanesKept.{SoundIfAny, one_turn_keeps}
use Rattle.session_steps.proofs.TurnsMade.{GoOn, is_write, TurnGoes, turn_goes}
use Rattle.session_steps.proofs.Written.{Acknowledged, Unacknowledged, write_ends}
use Rattle.session_steps.proofs.Went.{Goes}

-- acknowledged cookies stay acknowledged
abbrev pub StayLaw : Type 0
StayLaw = (bricks : ℕ) (earlier later : List WorldEvent) (cookie : Cookie) (value : List ℕ)
    → IsAcknowledged (after (new_world bricks) earlier) cookie value → IsAcknowledged (after (after (new_world bricks) earlier) later) cookie value

-- a turn sound a cookie of a key
pub record MadeCookie (s : SessionsState) (turn : SessionTurn) (t : SessionsState) (key : ℕ) (cookie : Cookie) : Type 0 where
  pub value : List ℕ
  pub text : List ℕ
  pub turn_is : turn ≡ Does (lines.Write key value) text
  pub by : Acknowledged s key value t text
  pub cookie_is : by.cookie ≡ cookie

-- a cookie after a turn was there before, or the turn sound it
pub cookie_before : (s : SessionsState) (turn : SessionTurn) (t : SessionsState) (key : ℕ) (cookie : Cookie) → SoundIfAny s.store → Makes s turn t → cookie_of t key ≡ Some cookie
    → (cookie_of s key ≡ Some cookie) ⊎ MadeCookie s turn t key cookie
cookie_before s turn t key cookie sound leads is = by_kind (is_write turn) refl
  where
    goes : TurnGoes s turn t
    goes = turn_goes s turn t sound leads

    acknowledged : (k : ℕ) (value text : List ℕ) (b : Bool) → (k == key) ≡ b → turn ≡ Does (lines.Write k value) text → Acknowledged s k value t text → (cookie_of s key ≡ Some cookie) ⊎ MadeCookie s turn t key cookie
    acknowledged k value text false apart turn_is by =
        inl (sym (other_cookie s t k by.cookie key by.cookies_are (λ same. let equal : (k == key) ≡ true = ap (λ n. k == n) same ∙ number_same k in let clash : true ≡ false = sym equal ∙ apart in cc)) ∙ is)
    acknowledged k value text true equal turn_is by =
        let same : k ≡ key = same_number k key equal in
        let one : Acknowledged s key value t text = subst (λ n. Acknowledged s n value t text) same by in
        let kept : Some one.cookie ≡ Some cookie = sym (kept_cookie s t key one.cookie one.cookies_are) ∙ is in
        inr (record { value = value; text = text; turn_is = turn_is ∙ ap (λ n. Does (lines.Write n value) text) same; by = one; cookie_is = cc })

    written : (k : ℕ) (value text : List ℕ) → turn ≡ Does (lines.Write k value) text → Acknowledged s k value t text ⊎ Unacknowledged s k value t text → (cookie_of s key ≡ Some cookie) ⊎ MadeCookie s turn t key cookie
    written k value text turn_is (inl by) = acknowledged k value text (k == key) refl turn_is by
    written k value text turn_is (inr none) = inl (sym (same_cookie s t key none.cookies_are) ∙ is)

    writes : (x : SessionTurn) → turn ≡ x → is_write x ≡ true → Makes s x t → (cookie_of s key ≡ Some cookie) ⊎ MadeCookie s turn t key cookie
    writes (Does (lines.Write k value) text) at so lead = written k value text at (write_ends s k value t text sound lead)
    writes (Does (lines.Now moment) text) at so lead = absurd (cc)
    writes (Does (lines.Fetch k) text) at so lead = absurd (cc)
    writes (Does (lines.Cookie k) text) at so lead = absurd (cc)
    writes (Does (lines.Present presented) text) at so lead = absurd (cc)
    writes (Does (lines.Lose brick more) text) at so lead = absurd (cc)
    writes (Does (lines.Mute brick more) text) at so lead = absurd (cc)
    writes (Does (lines.Repeat brick number) text) at so lead = absurd (cc)
    writes (Does (lines.Crash brick) text) at so lead = absurd (cc)
    writes (Does (lines.Sweep brick moment) text) at so lead = absurd (cc)
    writes (Does (lines.Values brick) text) at so lead = absurd (cc)
    writes (Does lines.Windows text) at so lead = absurd (cc)
    writes (Does (lines.Hold brick) text) at so lead = absurd (cc)
    writes (Does (lines.Free brick how) text) at so lead = absurd (cc)
    writes (Boots number) at so lead = absurd (cc)
    writes (Lends steps serial) at so lead = absurd (cc)

    by_kind : (b : Bool) → is_write turn ≡ b → (cookie_of s key ≡ Some cookie) ⊎ MadeCookie s turn t key cookie
    by_kind false kind = inl (sym (same_cookie s t key (goes.cookies kind)) ∙ is)
    by_kind true kind = writes turn refl kind leads

-- A cookie of a key is acknowledged in the world of the bricks.
pub record IsKept (s : SessionsState) (key : ℕ) (cookie : Cookie) : Type 0 where
  pub store : LanesState
  pub store_is : s.store ≡ Some store
  pub value : List ℕ
  pub acknowledged : IsAcknowledged store.world cookie value
  pub key_is : cookie.key ≡ session_key key

-- each cookie is acknowledged
abbrev pub AreKept : SessionsState → Type 0
AreKept s = (key : ℕ) (cookie : Cookie) → cookie_of s key ≡ Some cookie → IsKept s key cookie

pub acknowledged_later : StayLaw → (now : Moment) (turns : List SessionTurn) (w v : WorldValue) (cookie : Cookie) (value : List ℕ) → IsMade w → Goes now turns w v → IsAcknowledged w cookie value → IsAcknowledged v cookie value
acknowledged_later stay now turns w v cookie value made goes acknowledged =
    let first : WorldValue = after (new_world made.bricks) made.events in
    let then : IsAcknowledged (after first goes.by.0) cookie value = stay made.bricks made.events goes.by.0 cookie value (subst (λ x. IsAcknowledged x cookie value) made.made acknowledged) in
    subst (λ x. IsAcknowledged x cookie value) (sym (goes.by.1 ∙ ap (λ x. after x goes.by.0) made.made)) then

-- a cookie that was acknowledged stays so over turns
pub kept_later : StayLaw → (now : Moment) (turns : List SessionTurn) (s t : SessionsState) (key : ℕ) (cookie : Cookie) → SoundIfAny s.store → GoOn now turns s.store t.store → IsKept s key cookie → IsKept t key cookie
kept_later stay now turns s t key cookie sound goes kept = go s.store t.store refl refl kept.store_is sound goes
  where
    go : (a b : Option LanesState) → s.store ≡ a → t.store ≡ b → s.store ≡ Some kept.store → SoundIfAny a → GoOn now turns a b → IsKept t key cookie
    go None b at_a at_b is m g = absurd (let clash : None ≡ Some kept.store = sym at_a ∙ is in cc)
    go (Some u) None at_a at_b is m g = absurd g
    go (Some u) (Some v) at_a at_b is m g =
        let one : Some kept.store ≡ Some u = sym is ∙ at_a in
        let same : kept.store ≡ u = cc in
        record {
          store = v;
          store_is = at_b;
          value = kept.value;
          acknowledged = acknowledged_later stay now turns u.world v.world cookie kept.value m.made g (subst (λ (x : LanesState). IsAcknowledged x.world cookie kept.value) same kept.acknowledged);
          key_is = kept.key_is;
        }

-- each turn keeps the cookies acknowledged
pub turn_keeps : StayLaw → (s : SessionsState) (turn : SessionTurn) (t : SessionsState) → SoundIfAny s.store → AreKept s → Makes s turn t → AreKept t
turn_keeps stay s turn t sound kept leads key cookie is = elim (cookie_before s turn t key cookie sound leads is) [
  | inl old ↦ kept_later stay s.moment (turn ∷ []) s t key cookie sound (turn_goes s turn t sound leads).store (kept key cookie old)
  | inr new ↦ record {
    store = new.by.later;
    store_is = new.by.later_is;
    value = new.value;
    acknowledged = subst (λ c. IsAcknowledged new.by.later.world c new.value) new.cookie_is new.by.acknowledged;
    key_is = ap (λ (c : Cookie). c.key) (sym new.cookie_is) ∙ new.by.key_is;
  }
]

pub turns_keep : StayLaw → (turns : List SessionTurn) (s t : SessionsState) → SoundIfAny s.store → AreKept s → Lead s turns t → AreKept t
turns_keep stay [] s t sound kept is = subst (λ x. AreKept x) (sym is) kept
turns_keep stay (turn ∷ turns) s t sound kept lead =
    let between : SessionsState = lead.0 in
    turns_keep stay turns between t (one_turn_keeps s between turn sound lead.1)
    (turn_keeps stay s turn between sound kept lead.1) lead.2

-- no cookie that was acknowledged has a version which no call has had
pub acknowledged_not_new : (w : WorldValue) (cookie : Cookie) (value : List ℕ) (version : Version) → IsAcknowledged w cookie value → is_new w version ≡ true → cookie.version ≡ version → ⊥
acknowledged_not_new w cookie value version a new same =
    let version_is : a.write.nonce ≡ cookie.version = ap (λ (c : Cookie). c.version) (answer_cookie a.write cookie a.answers).0 in
    let apart : same_version a.write.nonce version ≡ false = none_passes (λ (c : Call). same_version (nonce_of c) version) w.calls a.place (call.Write a.write) new a.there in
    let equal : same_version a.write.nonce version ≡ true = ap (λ v. same_version v version) (version_is ∙ same) ∙ version_same version in
    let clash : true ≡ false = sym equal ∙ apart in
    cc

pub kept_not_new : (s : SessionsState) (st : LanesState) (key : ℕ) (cookie : Cookie) (version : Version) → IsKept s key cookie → s.store ≡ Some st → is_new st.world version ≡ true → cookie.version ≡ version → ⊥
kept_not_new s st key cookie version kept is new same =
    let one : Some kept.store ≡ Some st = sym kept.store_is ∙ is in
    let store : kept.store ≡ st = cc in
    acknowledged_not_new st.world cookie kept.value version (subst (λ (x : LanesState). IsAcknowledged x.world cookie kept.value) store kept.acknowledged) new same
