-- A fetch answers what was written.
use Rattle.std.proofs.Common.{◌≡◌, ◌⊎◌, inl, inr, ℕ, zero, suc, ◌<◌, List, [], ◌∷◌, ◌++◌, length, Option, Some, None, refl, sym, ap, ◌∙◌, subst, arith}
use Rattle.std.specs.Prelude.{slice_get}
use Rattle.std.proofs.lemmas.Option.{slice_get_within}
use Rattle.crash_base.specs.declared.numbers.BrickNo.{BrickNo}
use Rattle.crash_base.specs.declared.numbers.Moment.{Moment}
use Rattle.crash_base.specs.declared.numbers.Version.{Version}
use Rattle.scenario_text.specs.Answer.{Done}
use Rattle.scenario_text.specs.declared.session_line.SessionLine.TheVariants as lines
use Rattle.session_cookie.specs.declared.cookie.Cookie.{Cookie}
use Rattle.session_cookie.specs.declared.cookie.Holder.{Holder}
use Rattle.ssm_frames.specs.declared.frame.Frame.{Frame}
use Rattle.ssm_frames.specs.declared.frame.Frame.TheVariants.{Put}
use Rattle.brick_store.specs.declared.event.BrickEvent.{BrickEvent}
use Rattle.ssm_stub.specs.Reads.{read_answer}
use Rattle.ssm_world.specs.declared.call.Call.TheVariants as call
use Rattle.ssm_world.specs.Claims.{IsAcknowledged, kept_for, Keeps}
use Rattle.ssm_world.specs.Sound.{Grows}
use Rattle.ssm_world.specs.Worlds.{WorldValue, new_world, history, history_at, is_new, IsMade}
use Rattle.ssm_world.proofs.Growing.{WasAsked, asked_stays}
use Rattle.ssm_world.proofs.Holding.{answer_cookie, acknowledged_keeps}
use Rattle.session_lanes.specs.Lane.{LaneState, lane_at}
use Rattle.session_steps.specs.Promise.{SessionTurn, Does, Lead, FetchMade, IsRight, lanes_of, FetchedWrite, fetch_of}
use Rattle.session_lanes.specs.Sound.{LanesAreOf}
use Rattle.session_steps.specs.Rule.{reply_by, heard_on_lane, outcome_by_rule, result_by_rule}
use Rattle.session_steps.specs.Sessions.{SessionsState, nonce, cookie_of, fetched_text, expiry, session_line, write_line}
use Rattle.scenario_text.specs.Setup.{SetupState}
use Rattle.session_steps.specs.Setup.{store_of, set_up}
use Rattle.session_lanes.specs.Lanes.{LanesState}
use Rattle.session_steps.specs.Texts.{version_text}
use Rattle.scenario_text.specs.declared.setup.BrickCounts.{BrickCounts}
use Rattle.session_steps.proofs.Acknowledging.{StayLaw, IsKept, AreKept, turns_keep, kept_not_new}
use Rattle.session_steps.proofs.Cookies.{kept_cookie, same_cookie}
use Rattle.session_steps.proofs.Holders.{HolderWent, WriteWorlds, holder_went}
use Rattle.session_steps.proofs.Lines.{WriteDone, write_done, FetchDone, fetch_done}
use Rattle.session_steps.proofs.Outcomes.{IsHeardRight, outcome_right, result_right}
use Rattle.session_steps.proofs.Replies.{holder_replies}
use Rattle.session_steps.proofs.TurnsMade.{sound_of, GoOn, TurnGoes, turn_goes, TurnsGo, turns_go}
use Rattle.session_steps.proofs.ByRule.{read_by_rule}
use Rattle.session_steps.proofs.LanesKept.{SoundIfAny, set_up_sound, one_turn_keeps, lead_keeps, all_sound}
use Rattle.session_lanes.specs.Sound.{LanesAreSound}
use Rattle.session_lanes.proofs.Ending.{made_is_sound}
use Rattle.session_steps.proofs.Went.{Goes, made_grows}
use Rattle.session_steps.proofs.Ended.{HasEndedCall}
use Rattle.session_steps.proofs.Written.{Acknowledged, Unacknowledged, write_ends}

-- the bricks of a setup are a new world, and no key has a cookie
set_up_world : (counts : Option BrickCounts) (st : LanesState) → store_of counts ≡ Some st → (n : ℕ) × (st.world ≡ new_world n)
set_up_world None st is = absurd (cc)
set_up_world (Some c) st is = (c.bricks, ap (λ (o : Option LanesState). world_in st.world o) (sym is))
  where
    world_in : WorldValue → Option LanesState → WorldValue
    world_in w None = w
    world_in w (Some x) = x.world

pub set_up_kept : (setup : SetupState) (boot : ℕ) → AreKept (set_up setup boot)
set_up_kept setup boot key cookie is = absurd (cc)

-- turns to some bricks come from some
record ComesBack (now : Moment) (turns : List SessionTurn) (a : Option LanesState) (v : LanesState) : Type 0 where
  pub store : LanesState
  pub store_is : a ≡ Some store
  pub goes : Goes now turns store.world v.world

go_back : (now : Moment) (turns : List SessionTurn) (a b : Option LanesState) (v : LanesState) → b ≡ Some v → GoOn now turns a b → ComesBack now turns a v
go_back now turns None None v is goes = absurd (cc)
go_back now turns None (Some x) v is goes = absurd goes
go_back now turns (Some u) None v is goes = absurd goes
go_back now turns (Some u) (Some x) v is goes = let same : x ≡ v = cc in record { store = u; store_is = refl; goes = subst (λ (y : LanesState). Goes now turns u.world y.world) same goes }

-- turns lead from a world to one that has grown
goes_grows : (now : Moment) (turns : List SessionTurn) (w v : WorldValue) → Goes now turns w v → Grows w v
goes_grows now turns w v goes = made_grows w v goes.by

-- what was acknowledged was asked for
acknowledged_asked : (w : WorldValue) (cookie : Cookie) (value : List ℕ) → IsAcknowledged w cookie value → WasAsked w (Put cookie.version cookie.key cookie.version cookie.expiry value)
acknowledged_asked w cookie value a =
    let is = (answer_cookie a.write cookie a.answers).0 in
    let put : Cookie → Frame = λ c. Put c.version c.key c.version c.expiry value in
    (a.place, call.Write a.write, a.there, a.value_is ∙ ap put is)

-- what was acknowledged is kept by each holder
made_keeps : (w : WorldValue) (cookie : Cookie) (value : List ℕ) (i : ℕ) (holder : Holder) → IsMade w → IsAcknowledged w cookie value → slice_get cookie.bricks i ≡ Some holder → Keeps w holder (kept_for cookie value)
made_keeps w cookie value i holder made acknowledged there =
    let K : WorldValue → Type 0 = λ v. Keeps v holder (kept_for cookie value) in
    subst K (sym made.made) (acknowledged_keeps made.bricks made.events cookie value i holder (subst (λ v. IsAcknowledged v cookie value) made.made acknowledged) there)

-- a brick with a history has a lane
lane_of : (st : LanesState) (brick : BrickNo) (h : List BrickEvent) → LanesAreOf st → history st.world brick ≡ Some h → (lane : LaneState) × (lane_at st.lanes brick.0 ≡ Some lane)
lane_of st brick h lanes is = go brick.0 is
  where
    place : (n : ℕ) (xs : List LaneState) → n < length xs → (lane : LaneState) × (slice_get xs n ≡ Some lane)
    place n [] less = absurd (omega (arith, less))
    place zero (x ∷ xs) less = (x, refl)
    place (suc n) (x ∷ xs) less = place n xs (omega (arith, less))

    go : (n : ℕ) → history_at st.world.histories n ≡ Some h → (lane : LaneState) × (lane_at st.lanes n ≡ Some lane)
    go zero at = absurd (cc)
    go (suc n) at =
        let within : n < length st.world.histories = slice_get_within st.world.histories n h at in
        place n st.lanes (omega (arith, within, lanes.as_many))

-- a write line whose cookie has its nonce was acknowledged
pub acknowledged_write : StayLaw → (setup : SetupState) (boot : ℕ) (before : List SessionTurn) (s t : SessionsState) (key : ℕ) (value text : List ℕ) (cookie : Cookie) → Lead (set_up setup boot) before s
    → write_line s key value ≡ Done t text → cookie_of t key ≡ Some cookie → cookie.version ≡ nonce s → (a : Acknowledged s key value t text) × (a.cookie ≡ cookie)
acknowledged_write stay setup boot before s t key value text cookie leads is has version = go (write_ends s key value t text sound_s is)
  where
    sound_s : SoundIfAny s.store
    sound_s = lead_keeps (set_up setup boot) s before (set_up_sound setup boot) leads

    go : Acknowledged s key value t text ⊎ Unacknowledged s key value t text → (a : Acknowledged s key value t text) × (a.cookie ≡ cookie)
    go (inl a) = let one : Some a.cookie ≡ Some cookie = sym (kept_cookie s t key a.cookie a.cookies_are) ∙ has in (a, cc)
    go (inr none) =
        let kept : IsKept s key cookie = turns_keep stay before (set_up setup boot) s (set_up_sound setup boot) (set_up_kept setup boot) leads key cookie (sym (same_cookie s t key none.cookies_are) ∙ has) in
        let d : WriteDone s key value t text = write_done s key value t text is in
        absurd (kept_not_new s d.store key cookie (nonce s) kept d.store_is d.new version)

-- what a fetch wrote is by the rule
text_by_rule : (u : SessionsState) (key : ℕ) (v : SessionsState) (text : List ℕ) (d : FetchDone u key v text) → IsMade d.store.world → LanesAreOf d.store
    → text ≡ fetched_text key (result_by_rule d.store (nonce u) u.moment d.cookie)
text_by_rule u key v text d made lanes =
    let by = read_by_rule d.store (nonce u) u.moment d.cookie made lanes d.may in
    let one : Some (call.Read by.0) ≡ Some (call.Read d.read) = sym by.1 ∙ d.there in
    let read : by.0 ≡ d.read = cc in
    let answer : Some d.answer ≡ Some (result_by_rule d.store (nonce u) u.moment d.cookie) = sym d.answers ∙ ap read_answer (sym read) ∙ by.2 in
    let same : d.answer ≡ result_by_rule d.store (nonce u) u.moment d.cookie = cc in
    d.text_is ∙ ap (fetched_text key) same

-- what a fetch writes over bricks that turns made, by the rule
pub fetch_by_rule : (setup : SetupState) (boot : ℕ) (turns : List SessionTurn) (u v : SessionsState) (key : ℕ) (text : List ℕ) (cookie : Cookie) (st : LanesState) → Lead (set_up setup boot) turns u → session_line u (lines.Fetch key) ≡ Done v text
    → cookie_of u key ≡ Some cookie → u.store ≡ Some st → text ≡ fetched_text key (result_by_rule st (nonce u) u.moment cookie)
fetch_by_rule setup boot turns u v key text cookie st leads is cookie_is store_is =
    let d : FetchDone u key v text = fetch_done u key v text is in
    let one : Some d.store ≡ Some st = sym d.store_is ∙ store_is in
    let same : d.store ≡ st = cc in
    let two : Some d.cookie ≡ Some cookie = sym d.cookie_is ∙ cookie_is in
    let its : d.cookie ≡ cookie = cc in
    let sound = all_sound setup boot turns u d.store leads d.store_is in
    text_by_rule u key v text d sound.made sound.lanes
    ∙ (ap (λ (x : LanesState). fetched_text key (result_by_rule x (nonce u) u.moment d.cookie)) same
    ∙ ap (λ (c : Cookie). fetched_text key (result_by_rule st (nonce u) u.moment c)) its)

-- the bricks of a write and of a fetch of what it wrote
record Bricks (setup : SetupState) (boot : ℕ) (story : FetchedWrite setup boot) : Type 0 where
  pub n : ℕ
  pub begun : LanesState
  pub ended : LanesState
  pub store : LanesState
  pub store_is : story.at_fetch.store ≡ Some store
  pub sound : LanesAreSound store
  pub ended_made : IsMade ended.world
  pub worlds : WriteWorlds n (set_up setup boot).moment story.before story.at_write.moment (Does (lines.Write story.key story.value) story.written) story.since begun.world ended.world store.world story.cookie.version
  pub acknowledged : IsAcknowledged ended.world story.cookie story.value

bricks_of_story : StayLaw → (setup : SetupState) (boot : ℕ) (story : FetchedWrite setup boot) → Bricks setup boot story
bricks_of_story stay setup boot story = record {
  n = new.0;
  begun = back_s.store;
  ended = back_t.store;
  store = d.store;
  store_is = d.store_is;
  ended_made = (sound_of t.store back_t.store back_t.store_is sound_t).made;
  sound = sound_of u.store d.store d.store_is (lead_keeps t u story.since sound_t story.to_fetch);
  worlds = record {
    until = subst (λ w. Goes start.moment story.before w back_s.store.world) new.1 back_0.goes;
    quiet = record { crash = λ b. refl; sweep = λ b. refl };
    by = back_s.goes;
    later = back_t.goes;
    sound = made_is_sound back_s.store.world (sound_of s.store back_s.store back_s.store_is sound_s).made;
    new = (λ l. is_new (same_s l).world (story.version_is l)) ∙ wd.new;
    over = over;
  };
  acknowledged = acknowledged;
}
  where
    start : SessionsState
    start = set_up setup boot

    s : SessionsState
    s = story.at_write

    t : SessionsState
    t = story.after_write

    u : SessionsState
    u = story.at_fetch

    turn : SessionTurn
    turn = Does (lines.Write story.key story.value) story.written

    d : FetchDone u story.key story.after_fetch story.text
    d = fetch_done u story.key story.after_fetch story.text story.fetches

    wd : WriteDone s story.key story.value t story.written
    wd = write_done s story.key story.value t story.written story.writes

    a : (a : Acknowledged s story.key story.value t story.written) × (a.cookie ≡ story.cookie)
    a = acknowledged_write stay setup boot story.before s t story.key story.value story.written story.cookie story.to_write story.writes story.cookie_is story.version_is

    to_s : TurnsGo start story.before s
    to_s = turns_go story.before start s (set_up_sound setup boot) story.to_write

    sound_s : SoundIfAny s.store
    sound_s = lead_keeps start s story.before (set_up_sound setup boot) story.to_write

    sound_t : SoundIfAny t.store
    sound_t = one_turn_keeps s t turn sound_s story.writes

    to_t : TurnGoes s turn t
    to_t = turn_goes s turn t sound_s story.writes

    to_u : TurnsGo t story.since u
    to_u = turns_go story.since t u sound_t story.to_fetch

    back_t : ComesBack s.moment story.since t.store d.store
    back_t = go_back s.moment story.since t.store u.store d.store d.store_is (subst (λ m. GoOn m story.since t.store u.store) to_t.moment_is to_u.store)

    back_s : ComesBack s.moment (turn ∷ []) s.store back_t.store
    back_s = go_back s.moment (turn ∷ []) s.store t.store back_t.store back_t.store_is to_t.store

    back_0 : ComesBack start.moment story.before start.store back_s.store
    back_0 = go_back start.moment story.before start.store s.store back_s.store back_s.store_is to_s.store

    new : (n : ℕ) × (back_0.store.world ≡ new_world n)
    new = set_up_world setup.counts back_0.store back_0.store_is

    over : HasEndedCall back_t.store.world story.cookie.version
    over =
        let one : Some a.0.later ≡ Some back_t.store = sym a.0.later_is ∙ back_t.store_is in
        let same : a.0.later ≡ back_t.store = cc in
        subst (λ (x : LanesState). HasEndedCall x.world story.cookie.version) same (subst (λ (c : Cookie). HasEndedCall a.0.later.world c.version) a.1 a.0.over)

    acknowledged : IsAcknowledged back_t.store.world story.cookie story.value
    acknowledged =
        let one : Some a.0.later ≡ Some back_t.store = sym a.0.later_is ∙ back_t.store_is in
        let same : a.0.later ≡ back_t.store = cc in
        subst (λ (x : LanesState). IsAcknowledged x.world story.cookie story.value) same (subst (λ c. IsAcknowledged a.0.later.world c story.value) a.1 a.0.acknowledged)

    same_s : back_s.store ≡ wd.store
    same_s = let one : Some back_s.store ≡ Some wd.store = sym back_s.store_is ∙ wd.store_is in cc

-- each holder is heard so
holder_right : (setup : SetupState) (boot : ℕ) (story : FetchedWrite setup boot) (b : Bricks setup boot story) (nonce : Version) (i : ℕ) (holder : Holder) → slice_get story.cookie.bricks i ≡ Some holder
    → IsHeardRight (fetch_of story) holder (outcome_by_rule b.store nonce story.cookie holder)
holder_right setup boot story b nonce i holder there =
    let fetch : FetchMade = fetch_of story in
    let w : WorldValue = b.store.world in
    let keeps : Keeps b.ended.world holder (kept_for story.cookie story.value) = made_keeps b.ended.world story.cookie story.value i holder b.ended_made b.acknowledged there in
    let grows : Grows b.ended.world w = goes_grows story.at_write.moment story.since b.ended.world w b.worlds.later in
    let now : (newer : List BrickEvent) × (history w holder.brick ≡ Some (newer ++ keeps.events)) = grows.histories holder.brick keeps.events keeps.history_is in
    let went : HolderWent (record { 0 = 0 }) story.before story.at_write.moment story.since w holder (kept_for story.cookie story.value) =
    holder_went b.n (set_up setup boot).moment story.before story.at_write.moment (Does (lines.Write story.key story.value) story.written) story.since b.begun.world b.ended.world w holder
    (kept_for story.cookie story.value) (now.0 ++ keeps.events) b.worlds keeps now.1 in
    let asked = asked_stays b.ended.world w _ grows (acknowledged_asked b.ended.world story.cookie story.value b.acknowledged) in
    let replies = holder_replies w nonce fetch holder went (made_is_sound w b.sound.made) asked in
    let lane = lane_of b.store holder.brick went.events b.sound.lanes went.history_is in
    outcome_right fetch holder b.store nonce lane.0 (reply_by (Some went.events) nonce story.cookie holder) (ap lanes_of b.store_is) lane.1
    (ap (λ h. heard_on_lane (lane_at b.store.lanes holder.brick.0) (reply_by h nonce story.cookie holder)) went.history_is) replies

-- a fetch answers what was written
pub fetch_right : StayLaw → (setup : SetupState) (boot : ℕ) (story : FetchedWrite setup boot) → IsRight (fetch_of story) story.text
fetch_right stay setup boot story =
    let u : SessionsState = story.at_fetch in
    let b : Bricks setup boot story = bricks_of_story stay setup boot story in
    let d : FetchDone u story.key story.after_fetch story.text = fetch_done u story.key story.after_fetch story.text story.fetches in
    let one : Some d.cookie ≡ Some story.cookie = sym d.cookie_is ∙ story.still in
    let cookie : d.cookie ≡ story.cookie = cc in
    let two : Some d.store ≡ Some b.store = sym d.store_is ∙ b.store_is in
    let store : d.store ≡ b.store = cc in
    let text : story.text ≡ fetched_text story.key (result_by_rule d.store (nonce u) u.moment d.cookie) =
    text_by_rule u story.key story.after_fetch story.text d (subst (λ (x : LanesState). IsMade x.world) (sym store) b.sound.made) (subst (λ x. LanesAreOf x) (sym store) b.sound.lanes) in
    let its : story.text ≡ fetched_text story.key (result_by_rule b.store (nonce u) u.moment story.cookie) = text ∙ (λ l. fetched_text story.key (result_by_rule (store l) (nonce u) u.moment (cookie l))) in
    subst (λ x. IsRight (fetch_of story) x) (sym its) (result_right (fetch_of story) b.store (nonce u) (holder_right setup boot story b (nonce u)))

-- what the write line of such a fetch wrote, and when its cookie expires
pub written_version : StayLaw → (setup : SetupState) (boot : ℕ) (story : FetchedWrite setup boot) → (story.cookie.expiry ≡ expiry story.at_write) × (story.written ≡ version_text story.key story.cookie)
written_version stay setup boot story =
    let a : (a : Acknowledged story.at_write story.key story.value story.after_write story.written) × (a.cookie ≡ story.cookie) =
    acknowledged_write stay setup boot story.before story.at_write story.after_write story.key story.value story.written story.cookie story.to_write story.writes story.cookie_is story.version_is in
    (ap (λ (c : Cookie). c.expiry) (sym a.1) ∙ a.0.expiry_is, a.0.text_is ∙ ap (version_text story.key) a.1)

-- over all turns the bricks are a world
pub turns_made : (setup : SetupState) (boot : ℕ) (turns : List SessionTurn) (t : SessionsState) (st : LanesState) → Lead (set_up setup boot) turns t → t.store ≡ Some st → IsMade st.world
turns_made setup boot turns t st leads is = (all_sound setup boot turns t st leads is).made
