-- Where cookies come from.
use Rattle.std.proofs.Common.{◌≡◌, ◌⊎◌, inl, inr, ℕ, Bool, true, false, not, ◌&&◌, List, [], ◌∷◌, length, Some, Result, refl, sym, ap, ◌∙◌, subst}
use Rattle.scenario_text.specs.Answer.{Answer, Refused, Done, refused_if, or_refused}
use Rattle.scenario_text.specs.declared.session_line.SessionLine.TheVariants as lines
use Rattle.session_cookie.specs.declared.cookie.Cookie.{Cookie}
use Rattle.ssm_stub.specs.Reads.{ReadState, read_answer}
use Rattle.ssm_stub.specs.declared.read_call.ReadRefusal.{ReadRefusal}
use Rattle.ssm_world.specs.Worlds.{WorldValue, is_new, may_read, may_be_asked, bricks_of, IsMade}
use Rattle.ssm_world.specs.Claims.{IsAcknowledged as IsAcknowledgedIn}
use Rattle.ssm_world.proofs.Askable.{acknowledged_askable}
use Rattle.session_steps.specs.Promise.{Does, FetchedWrite, SessionTurn, Makes, Lead, IsAcknowledged, IsUnacknowledged, ComesFrom, IsOfWrite}
use Rattle.session_steps.specs.Rule.{result_by_rule}
use Rattle.session_steps.specs.Sessions.{SessionsState, with_store, nonce, drawn, cookie_of, read_of, session_line, fetched_text, store_read, answered_read, fetch_line}
use Rattle.scenario_text.specs.Setup.{SetupState}
use Rattle.session_steps.specs.Setup.{set_up}
use Rattle.session_lanes.specs.Lanes.{LanesState}
use Rattle.session_steps.proofs.Acknowledging.{StayLaw, acknowledged_later, MadeCookie, cookie_before, IsKept, turn_keeps, turns_keep, kept_not_new}
use Rattle.session_steps.proofs.ByRule.{read_by_rule}
use Rattle.session_steps.proofs.LanesKept.{SoundIfAny, one_turn_keeps, lead_keeps, set_up_sound, all_sound}
use Rattle.session_lanes.specs.Sound.{LanesAreSound}
use Rattle.session_steps.proofs.Cookies.{kept_cookie, other_cookie, same_cookie}
use Rattle.session_steps.proofs.Lines.{WriteDone, write_done, FetchDone, fetch_done}
use Rattle.session_steps.proofs.Promised.{set_up_kept}
use Rattle.session_steps.proofs.TurnsMade.{GoOn, sound_of, turns_go}
use Rattle.session_steps.proofs.Written.{Acknowledged, Unacknowledged, write_ends}

-- an acknowledged cookie may be asked for
made_askable : (w : WorldValue) (cookie : Cookie) (value : List ℕ) → IsMade w → IsAcknowledgedIn w cookie value → may_be_asked (bricks_of cookie.bricks) ≡ true
made_askable w cookie value made acknowledged = acknowledged_askable made.bricks made.events cookie value (subst (λ v. IsAcknowledgedIn v cookie value) made.made acknowledged)

-- a write line that was acknowledged
acknowledged_line : (s : SessionsState) (key : ℕ) (value : List ℕ) (t : SessionsState) (text : List ℕ) → SoundIfAny t.store → Acknowledged s key value t text → IsAcknowledged s key t text
acknowledged_line s key value t text sound a = record {
  cookie = a.cookie;
  cookie_is = kept_cookie s t key a.cookie a.cookies_are;
  version_is = a.version_is;
  key_is = a.key_is;
  expiry_is = a.expiry_is;
  askable = made_askable a.later.world a.cookie value (sound_of t.store a.later a.later_is sound).made a.acknowledged;
  enough = a.enough;
  among = a.among;
  others = λ other apart. other_cookie s t key a.cookie other a.cookies_are apart;
  text_is = a.text_is;
}

-- a write line that was done was acknowledged, or was not
pub write_told : StayLaw → (setup : SetupState) (boot : ℕ) (before : List SessionTurn) (s t : SessionsState) (key : ℕ) (value text : List ℕ) → Lead (set_up setup boot) before s
    → session_line s (lines.Write key value) ≡ Done t text → IsAcknowledged s key t text ⊎ IsUnacknowledged s key value t text
write_told stay setup boot before s t key value text leads is = go (write_ends s key value t text sound is)
  where
    start : SessionsState
    start = set_up setup boot

    sound : SoundIfAny s.store
    sound = lead_keeps start s before (set_up_sound setup boot) leads

    d : WriteDone s key value t text
    d = write_done s key value t text is

    go : Acknowledged s key value t text ⊎ Unacknowledged s key value t text → IsAcknowledged s key t text ⊎ IsUnacknowledged s key value t text
    go (inl a) = inl (acknowledged_line s key value t text (one_turn_keeps s t (Does (lines.Write key value) text) sound is) a)
    go (inr none) = inr (record {
      same = λ other. same_cookie s t other none.cookies_are;
      unlike = λ other cookie has version. (
          let kept : IsKept s other cookie = turns_keep stay before start s (set_up_sound setup boot) (set_up_kept setup boot) leads other cookie (sym (same_cookie s t other none.cookies_are) ∙ has) in
          kept_not_new s d.store other cookie (nonce s) kept d.store_is d.new version);
      says = none.says;
    })

-- a cookie was there before turns, or comes from them
made_here : (s between u : SessionsState) (turn : SessionTurn) (turns : List SessionTurn) (key : ℕ) (cookie : Cookie) → SoundIfAny between.store → Makes s turn between → Lead between turns u → MadeCookie s turn between key cookie → ComesFrom s (turn ∷ turns) u key cookie
unfolding acknowledged_line
made_here s between u turn turns key cookie sound leads rest made = record {
  value = made.value;
  text = made.text;
  before = [];
  since = turns;
  turns_are = ap (λ x. x ∷ turns) made.turn_is;
  at_write = s;
  to_write = refl;
  after_write = between;
  writes = subst (λ x. Makes s x between) made.turn_is leads;
  acknowledged = acknowledged_line s key made.value between made.text sound made.by;
  cookie_is = made.cookie_is;
  from_write = rest;
}

made_later : (s between u : SessionsState) (turn : SessionTurn) (turns : List SessionTurn) (key : ℕ) (cookie : Cookie) → Makes s turn between → ComesFrom between turns u key cookie → ComesFrom s (turn ∷ turns) u key cookie
made_later s between u turn turns key cookie leads from = record {
  value = from.value;
  text = from.text;
  before = turn ∷ from.before;
  since = from.since;
  turns_are = ap (λ xs. turn ∷ xs) from.turns_are;
  at_write = from.at_write;
  to_write = (between, leads, from.to_write);
  after_write = from.after_write;
  writes = from.writes;
  acknowledged = from.acknowledged;
  cookie_is = from.cookie_is;
  from_write = from.from_write;
}

before_or_from : (turns : List SessionTurn) (s u : SessionsState) (key : ℕ) (cookie : Cookie) → SoundIfAny s.store → Lead s turns u → cookie_of u key ≡ Some cookie → (cookie_of s key ≡ Some cookie) ⊎ ComesFrom s turns u key cookie
before_or_from [] s u key cookie sound is has = inl (ap (λ (x : SessionsState). cookie_of x key) (sym is) ∙ has)
before_or_from (turn ∷ turns) s u key cookie sound lead has =
    let between : SessionsState = lead.0 in
    elim (before_or_from turns between u key cookie (one_turn_keeps s between turn sound lead.1) lead.2 has) [
      | inl old ↦ elim (cookie_before s turn between key cookie sound lead.1 old) [
        | inl older ↦ inl older
        | inr made ↦ inr (made_here s between u turn turns key cookie (one_turn_keeps s between turn sound lead.1) lead.1 lead.2 made)
      ]
      | inr from ↦ inr (made_later s between u turn turns key cookie lead.1 from)
    ]

pub cookie_from : (setup : SetupState) (boot : ℕ) (turns : List SessionTurn) (u : SessionsState) (key : ℕ) (cookie : Cookie) → Lead (set_up setup boot) turns u → cookie_of u key ≡ Some cookie → ComesFrom (set_up setup boot) turns u key cookie
cookie_from setup boot turns u key cookie leads has = elim (before_or_from turns (set_up setup boot) u key cookie (set_up_sound setup boot) leads has) [ inl none ↦ absurd (cc) | inr from ↦ from ]

-- a fetch with a new nonce is done
fetches : (u : SessionsState) (key : ℕ) (cookie : Cookie) (st : LanesState) → cookie_of u key ≡ Some cookie → u.store ≡ Some st → LanesAreSound st → may_read st.world (nonce u) cookie.bricks ≡ true → fetch_line u key ≡ Refused → ⊥
unfolding fetch_line
fetches u key cookie st has store_is sound may is =
    let by = read_by_rule st (nonce u) u.moment cookie sound.made sound.lanes may in
    let ended : Answer SessionsState = Done (with_store (drawn u) after) (fetched_text key (result_by_rule st (nonce u) u.moment cookie)) in
    let first : or_refused (cookie_of u key) rest ≡ on_store cookie st = ap (λ o. or_refused o rest) has ∙ ap (λ o. or_refused o (on_store cookie)) store_is in
    let second : on_store cookie st ≡ answered_read (drawn u) key (length st.world.calls) after = ap (λ b. refused_if (not b) (answered_read (drawn u) key (length st.world.calls) after)) may in
    let third : answered_read (drawn u) key (length st.world.calls) after ≡ ended = ap (λ c. or_refused (read_of c) told) by.1 ∙ ap (λ o. or_refused o written) by.2 in
    let clash : Refused ≡ ended = sym is ∙ first ∙ second ∙ third in
    cc
  where
    after : LanesState
    after = store_read u cookie st

    written : Result (List ℕ) ReadRefusal → Answer SessionsState
    written answer = Done (with_store (drawn u) after) (fetched_text key answer)

    told : ReadState → Answer SessionsState
    told read = or_refused (read_answer read) written

    on_store : Cookie → LanesState → Answer SessionsState
    on_store c x =
        refused_if (not (may_read x.world (nonce u) c.bricks))
        (answered_read (drawn u) key (length x.world.calls) (store_read u c x))

    rest : Cookie → Answer SessionsState
    rest c = or_refused u.store (on_store c)

-- a fetch of a key with a cookie is refused only where a call has had its nonce
pub fetch_refused : StayLaw → (setup : SetupState) (boot : ℕ) (turns : List SessionTurn) (u : SessionsState) (key : ℕ) (cookie : Cookie) → Lead (set_up setup boot) turns u → cookie_of u key ≡ Some cookie → session_line u (lines.Fetch key) ≡ Refused
    → (st : LanesState) × (u.store ≡ Some st) × (is_new st.world (nonce u) ≡ false)
fetch_refused stay setup boot turns u key cookie leads has is = (kept.store, kept.store_is, go (is_new kept.store.world (nonce u)) refl)
  where
    start : SessionsState
    start = set_up setup boot

    kept : IsKept u key cookie
    kept = turns_keep stay turns start u (set_up_sound setup boot) (set_up_kept setup boot) leads key cookie has

    sound : LanesAreSound kept.store
    sound = all_sound setup boot turns u kept.store leads kept.store_is

    go : (new : Bool) → is_new kept.store.world (nonce u) ≡ new → new ≡ false
    go false at = refl
    go true at =
        let may : may_read kept.store.world (nonce u) cookie.bricks ≡ true = (λ l. at l && made_askable kept.store.world cookie kept.value sound.made kept.acknowledged l) in
        absurd (fetches u key cookie kept.store has kept.store_is sound may is)

-- a fetch line that was done is of a write line
pub fetch_of_write : (setup : SetupState) (boot : ℕ) (turns : List SessionTurn) (u v : SessionsState) (key : ℕ) (text : List ℕ) → Lead (set_up setup boot) turns u → session_line u (lines.Fetch key) ≡ Done v text → IsOfWrite setup boot turns u key text
fetch_of_write setup boot turns u v key text leads is =
    let d : FetchDone u key v text = fetch_done u key v text is in
    let from : ComesFrom (set_up setup boot) turns u key d.cookie = cookie_from setup boot turns u key d.cookie leads d.cookie_is in
    record {
      story = record {
        key = key;
        value = from.value;
        cookie = d.cookie;
        before = from.before;
        at_write = from.at_write;
        to_write = from.to_write;
        after_write = from.after_write;
        written = from.text;
        writes = from.writes;
        cookie_is = from.acknowledged.cookie_is ∙ ap (λ c. Some c) from.cookie_is;
        version_is = ap (λ (c : Cookie). c.version) (sym from.cookie_is) ∙ from.acknowledged.version_is;
        since = from.since;
        at_fetch = u;
        to_fetch = from.from_write;
        still = d.cookie_is;
        after_fetch = v;
        text = text;
        fetches = is;
      };
      key_is = refl;
      turns_are = from.turns_are;
      at_fetch = refl;
      text_is = refl;
    }

-- the cookie of such a fetch names 1 to 16 distinct bricks
pub fetched_askable : StayLaw → (setup : SetupState) (boot : ℕ) (story : FetchedWrite setup boot) → may_be_asked (bricks_of story.cookie.bricks) ≡ true
fetched_askable stay setup boot story = made_askable kept.store.world story.cookie kept.value sound.made kept.acknowledged
  where
    start : SessionsState
    start = set_up setup boot

    turn : SessionTurn
    turn = Does (lines.Write story.key story.value) story.written

    sound_t : SoundIfAny story.after_write.store
    sound_t = one_turn_keeps story.at_write story.after_write turn (lead_keeps start story.at_write story.before (set_up_sound setup boot) story.to_write) story.writes

    kept : IsKept story.after_write story.key story.cookie
    kept =
        turn_keeps stay story.at_write turn story.after_write (lead_keeps start story.at_write story.before (set_up_sound setup boot) story.to_write)
        (turns_keep stay story.before start story.at_write (set_up_sound setup boot) (set_up_kept setup boot) story.to_write) story.writes story.key story.cookie story.cookie_is

    sound : LanesAreSound kept.store
    sound = sound_of story.after_write.store kept.store kept.store_is sound_t

-- the cookie of a key is acknowledged with a value
pub key_acknowledged : StayLaw → (setup : SetupState) (boot : ℕ) (turns : List SessionTurn) (u : SessionsState) (key : ℕ) (cookie : Cookie) → Lead (set_up setup boot) turns u → cookie_of u key ≡ Some cookie
    → (st : LanesState) × (u.store ≡ Some st) × (value : List ℕ) × IsAcknowledgedIn st.world cookie value
key_acknowledged stay setup boot turns u key cookie leads has =
    let kept : IsKept u key cookie = turns_keep stay turns (set_up setup boot) u (set_up_sound setup boot) (set_up_kept setup boot) leads key cookie has in
    (kept.store, kept.store_is, kept.value, kept.acknowledged)

-- what was acknowledged stays so over turns
pub stays_acknowledged : StayLaw → (setup : SetupState) (boot : ℕ) (before turns : List SessionTurn) (s t : SessionsState) (st later : LanesState) (cookie : Cookie) (value : List ℕ) → Lead (set_up setup boot) before s → Lead s turns t
    → s.store ≡ Some st → t.store ≡ Some later → IsAcknowledgedIn st.world cookie value → IsAcknowledgedIn later.world cookie value
stays_acknowledged stay setup boot before turns s t st later cookie value to_s to_t store_is later_is acknowledged =
    let sound : SoundIfAny s.store = lead_keeps (set_up setup boot) s before (set_up_sound setup boot) to_s in
    let goes : GoOn s.moment turns s.store t.store = (turns_go turns s t sound to_t).store in
    let between : GoOn s.moment turns (Some st) (Some later) =
    subst (λ x. GoOn s.moment turns x (Some later)) store_is (subst (λ x. GoOn s.moment turns s.store x) later_is goes) in
    acknowledged_later stay s.moment turns st.world later.world cookie value (sound_of s.store st store_is sound).made between acknowledged
