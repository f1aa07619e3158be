-- What turns add to the histories of the bricks of sessions.
use Rattle.ssm_stub.specs.Writes.{heard_passes}
use Rattle.std.proofs.Common.{◌≡◌, ◌⊎◌, inl, inr, ℕ, ◌-◌, ◌^◌, ◌≤◌, Bool, true, false, not, if◌then◌else◌, nat_lt, List, [], ◌∷◌, length, Option, unwrap_or, Some, None, refl, sym, ap, ◌∙◌, subst}
use Rattle.std.specs.Prelude.{slice_get}
use Rattle.std.specs.Option.{option_map}
use Rattle.crash_base.specs.declared.numbers.Moment.{Moment}
use Rattle.crash_base.specs.declared.numbers.Version.{Version}
use Rattle.scenario_text.specs.Answer.{Done, or_refused, refused_if, within}
use Rattle.scenario_text.specs.declared.session_line.Freed.{Freed}
use Rattle.scenario_text.specs.declared.session_line.Freed.TheVariants as freed
use Rattle.scenario_text.specs.declared.session_line.SessionLine.{SessionLine}
use Rattle.scenario_text.specs.declared.session_line.SessionLine.TheVariants as lines
use Rattle.session_cookie.specs.declared.cookie.Cookie.{Cookie}
use Rattle.brick_store.specs.declared.event.BrickEvent.{BrickEvent}
use Rattle.send_windows.specs.Windows.{WindowsValue, KeepLimits, taken, refused, pass_tried, after_try, after_pass}
use Rattle.send_windows.specs.Calls.{TryPass, Take, Answered, Silent, Spend}
use Rattle.send_windows.specs.Facts.{open_count}
use Rattle.send_windows.specs.Passes.{unheard}
use Rattle.send_windows.specs.declared.pass.Pass.{Pass}
use Rattle.ssm_world.specs.declared.event.WorldEvent.TheVariants.{Crash, Sweep}
use Rattle.ssm_world.specs.Sound.{untold}
use Rattle.ssm_world.specs.Worlds.{WorldValue, is_new, nonce_of, history, with_history, crashed, swept, may_happen}
use Rattle.ssm_world.proofs.Growing.{same_nonce}
use Rattle.ssm_world.proofs.Tests.{both}
use Rattle.session_lanes.specs.Lane.{LaneState, raised, losing, dropping, waiting, reply_made, brick_no}
use Rattle.session_steps.specs.Present.{presented_text}
use Rattle.session_steps.specs.Texts.{cookie_text, values_text, windows_text}
use Rattle.session_steps.specs.declared.sessions.TheConstants.{MAX_MOMENT}
use Rattle.brick_store.specs.History.{all_held, incarnation_after}
use Rattle.session_steps.specs.Lent.{LentStep, GoesLent, WasDrawn, after_lent}
use Rattle.session_steps.specs.Promise.{SessionTurn, Does, Boots, Lends, Makes, Lead, moment_after}
use Rattle.session_steps.specs.Sessions.{SessionsState, with_store, drawn, nonce, spent_by, write_line, fetch_line, store_read, lose_line, mute_line, repeat_line, crash_line, sweep_line, values_line, windows_line, hold_line, free_line, cookie_line, now_line, holds, with_lane_of, cookie_of, text_of_cookie, freed_pass}
use Rattle.session_lanes.specs.Lanes.{LanesState, after_event, with_lane}
use Rattle.session_steps.proofs.Bricks.{SweepsBrick, goes_crash, goes_sweep}
use Rattle.session_steps.proofs.Calls.{CallGone, new_write, write_begins, write_may, read_gone}
use Rattle.session_steps.proofs.LanesKept.{SoundIfAny, one_turn_keeps}
use Rattle.session_lanes.specs.Sound.{LanesAreSound}
use Rattle.ssm_stub.specs.Reads.{read_start}
use Rattle.ssm_world.specs.declared.call.Call.{Call}
use Rattle.ssm_world.specs.declared.call.Call.TheVariants as call
use Rattle.brick_store.specs.declared.event.BrickEvent.TheVariants as happened
use Rattle.session_lanes.proofs.Ending.{MadeBy}
use Rattle.session_lanes.proofs.Histories.{stores_same}
use Rattle.session_steps.proofs.Lines.{not_false, goes_on_with, not_refused, done_state, on_a_lane, passes_of, store_after_write, IsOverload, HasAnswered, WriteDone, write_done, FetchDone, fetch_done, written_by}
use Rattle.session_steps.proofs.LentGone.{LentGone, LimitsLaw, lent_gone}
use Rattle.session_steps.proofs.Ended.{new_unhad}
use Rattle.session_steps.proofs.Went.{IsQuiet, Goes, goes_quiet, goes_stored, goes_none, goes_on, made_grows}

-- turns lead from the bricks of sessions, if there are some, to others
abbrev pub GoOn : Moment → List SessionTurn → Option LanesState → Option LanesState → Type 0
GoOn now turns None None = Unit {0}
GoOn now turns None (Some st) = ⊥
GoOn now turns (Some st) None = ⊥
GoOn now turns (Some st) (Some later) = Goes now turns st.world later.world

-- the windows of the bricks, if there are some, keep their limits
abbrev pub KeepWindows : Option LanesState → Type 0
KeepWindows None = Unit {0}
KeepWindows (Some st) = KeepLimits st.windows

pub windows_of : (o : Option LanesState) (st : LanesState) → o ≡ Some st → KeepWindows o → KeepLimits st.windows
windows_of o st is keep = subst (λ x. KeepWindows x) is keep

windows_in : (o : Option LanesState) (st : LanesState) → o ≡ Some st → KeepLimits st.windows → KeepWindows o
windows_in o st is keep = subst (λ x. KeepWindows x) (sym is) keep

-- whether a turn is a write line
abbrev pub is_write : SessionTurn → Bool
is_write (Does (lines.Write key value) text) = true
is_write (Does line text) = false
is_write (Boots number) = false
is_write (Lends steps serial) = false

-- a call has had this nonce
abbrev pub HasHad : Option LanesState → Version → Type 0
HasHad None version = ⊥
HasHad (Some st) version = (i : ℕ) × (c : Call) × (slice_get st.world.calls i ≡ Some c) × (nonce_of c ≡ version)

-- the call of a number is this
abbrev pub CallAt : Option LanesState → ℕ → Call → Type 0
CallAt None number c = ⊥
CallAt (Some st) number c = slice_get st.world.calls number ≡ Some c

-- each call stays as it is
abbrev pub CallsStay : Option LanesState → Option LanesState → Type 0
CallsStay a b = (number : ℕ) (c : Call) → CallAt a number c → CallAt b number c

-- the same over a turn that is not one of connections
abbrev pub LeavesCalls : SessionTurn → Option LanesState → Option LanesState → Type 0
LeavesCalls (Does line text) a b = CallsStay a b
LeavesCalls (Boots number) a b = CallsStay a b
LeavesCalls (Lends steps serial) a b = Unit {0}

-- how a turn leaves the boot and the serial that is drawn next
abbrev pub Clock : SessionsState → SessionTurn → SessionsState → Type 0
Clock s (Does line text) t = (t.boot ≡ s.boot) × ((t.serial ≡ s.serial) ⊎ (t.serial ≡ (drawn s).serial))
Clock s (Boots number) t = t.boot ≡ number
Clock s (Lends steps serial) t = (t.boot ≡ s.boot) × (t.serial ≡ serial) × (s.serial ≤ serial)

-- a turn began a call with this nonce: that which was drawn next; or, where connections went on, one that was drawn
abbrev pub IsBegun : SessionsState → SessionTurn → SessionsState → Version → Type 0
IsBegun s (Does line text) t version = (version ≡ nonce s) × (t.serial ≡ (drawn s).serial)
IsBegun s (Boots number) t version = (version ≡ nonce s) × (t.serial ≡ (drawn s).serial)
IsBegun s (Lends steps serial) t version = WasDrawn s.boot serial version

-- what a turn does with the bricks, the moment, the nonces and the cookies of sessions
pub record TurnGoes (s : SessionsState) (turn : SessionTurn) (t : SessionsState) : Type 0 where
  pub moment_is : t.moment ≡ moment_after s.moment turn
  pub store : GoOn s.moment (turn ∷ []) s.store t.store
  pub windows : LimitsLaw → KeepWindows s.store → KeepWindows t.store
  pub clock : Clock s turn t
  pub nonces : (version : Version) → HasHad t.store version → HasHad s.store version ⊎ IsBegun s turn t version
  pub calls : LeavesCalls turn s.store t.store
  pub cookies : is_write turn ≡ false → t.cookies ≡ s.cookies

go_same : (now : Moment) (turn : SessionTurn) (o : Option LanesState) → IsQuiet now turn → GoOn now (turn ∷ []) o o
go_same now turn None quiet = tt
go_same now turn (Some st) quiet = goes_quiet now turn st.world st.world quiet ([], refl) (stores_same st.world st.world refl)

pub sound_of : (o : Option LanesState) (st : LanesState) → o ≡ Some st → SoundIfAny o → LanesAreSound st
sound_of o st is sound = subst (λ x. SoundIfAny x) is sound

go_with : (now : Moment) (turns : List SessionTurn) (a b : Option LanesState) (st later : LanesState) → a ≡ Some st → b ≡ Some later → Goes now turns st.world later.world → GoOn now turns a b
go_with now turns a b st later a_is b_is goes = subst (λ o. GoOn now turns o b) (sym a_is) (subst (λ o. GoOn now turns (Some st) o) (sym b_is) goes)

-- where the calls are the same, the nonces are
had_before : (a b : Option LanesState) (st later : LanesState) (version : Version) → a ≡ Some st → b ≡ Some later → later.world.calls ≡ st.world.calls → HasHad b version → HasHad a version
had_before a b st later version a_is b_is calls had =
    let now : HasHad (Some later) version = subst (λ o. HasHad o version) b_is had in
    subst (λ o. HasHad o version) (sym a_is) (now.0, now.1, ap (λ cs. slice_get cs now.0) (sym calls) ∙ now.2, now.3)

-- after a call that began with a nonce, a nonce was had before, or is this one
had_or_new : (a b : Option LanesState) (st later : LanesState) (first version : Version) → a ≡ Some st → b ≡ Some later → ((j : ℕ) (d : Call) → slice_get later.world.calls j ≡ Some d → (slice_get st.world.calls j ≡ Some d) ⊎ (nonce_of d ≡ first))
    → HasHad b version → HasHad a version ⊎ (version ≡ first)
had_or_new a b st later first version a_is b_is calls had =
    let now : HasHad (Some later) version = subst (λ o. HasHad o version) b_is had in
    elim (calls now.0 now.1 now.2) [
      | inl old ↦ inl (subst (λ o. HasHad o version) (sym a_is) (now.0, now.1, old, now.3))
      | inr new ↦ inr (sym now.3 ∙ new)
    ]

-- where each call stays
leaves_all : (turn : SessionTurn) (a b : Option LanesState) → CallsStay a b → LeavesCalls turn a b
leaves_all (Does line text) a b each = each
leaves_all (Boots number) a b each = each
leaves_all (Lends steps serial) a b each = tt

calls_stay : (a b : Option LanesState) (st later : LanesState) → a ≡ Some st → b ≡ Some later → CallsStay (Some st) (Some later) → CallsStay a b
calls_stay a b st later a_is b_is each number c at = subst (λ o. CallAt o number c) (sym b_is) (each number c (subst (λ o. CallAt o number c) a_is at))

same_calls : (st later : LanesState) → later.world.calls ≡ st.world.calls → CallsStay (Some st) (Some later)
same_calls st later is number c at = ap (λ cs. slice_get cs number) is ∙ at

-- where a call began with a new nonce, the others stay
others_stay : (w v : WorldValue) (first : Version) → MadeBy w v → is_new w first ≡ true → ((j : ℕ) (d : Call) → slice_get v.calls j ≡ Some d → (slice_get w.calls j ≡ Some d) ⊎ (nonce_of d ≡ first))
    → (number : ℕ) (c : Call) → slice_get w.calls number ≡ Some c → slice_get v.calls number ≡ Some c
others_stay w v first by new calls number c at =
    let now : (d : Call) × (slice_get v.calls number ≡ Some d) × (untold d ≡ untold c) = (made_grows w v by).calls number c at in
    elim (calls number now.0 now.1) [
      | inl old ↦ now.1 ∙ sym old ∙ at
      | inr begun ↦ absurd (new_unhad w first new (number, c, at, sym (same_nonce c now.0 now.2) ∙ begun))
    ]

-- a turn that leaves the bricks as they are
stays : (s t : SessionsState) (turn : SessionTurn) → Clock s turn t → IsQuiet s.moment turn → t.moment ≡ moment_after s.moment turn → t.store ≡ s.store → t.cookies ≡ s.cookies → TurnGoes s turn t
stays s t turn clock quiet moment_is store_is cookies_are = record {
  clock = clock;
  nonces = λ version had. inl (subst (λ o. HasHad o version) store_is had);
  calls = leaves_all turn s.store t.store (λ number c at. subst (λ o. CallAt o number c) (sym store_is) at);
  moment_is = moment_is;
  windows = λ law keep. subst (λ o. KeepWindows o) (sym store_is) keep;
  cookies = λ other. cookies_are;
  store = subst (λ o. GoOn s.moment (turn ∷ []) s.store o) (sym store_is) (go_same s.moment turn s.store quiet);
}

-- a turn that changes the lanes or the windows alone
shifts : (s t : SessionsState) (line : SessionLine) (text : List ℕ) (st later : LanesState) → (LimitsLaw → KeepLimits st.windows → KeepLimits later.windows) → IsQuiet s.moment (Does line text) → moment_after s.moment (Does line text) ≡ s.moment → s.store ≡ Some st → t ≡ with_store s later → later.world ≡ st.world → TurnGoes s (Does line text) t
shifts s t line text st later limits quiet same_moment st_is t_is world_is = record {
  clock = (ap (λ (x : SessionsState). x.boot) t_is, inl (ap (λ (x : SessionsState). x.serial) t_is));
  nonces = λ version had. inl (had_before s.store t.store st later version st_is (ap (λ (x : SessionsState). x.store) t_is) (ap (λ (w : WorldValue). w.calls) world_is) had);
  calls = calls_stay s.store t.store st later st_is (ap (λ (x : SessionsState). x.store) t_is) (same_calls st later (ap (λ (w : WorldValue). w.calls) world_is));
  windows = λ law keep. windows_in t.store later (ap (λ (x : SessionsState). x.store) t_is) (limits law (windows_of s.store st st_is keep));
  moment_is = ap (λ (x : SessionsState). x.moment) t_is ∙ sym same_moment;
  cookies = λ other. ap (λ (x : SessionsState). x.cookies) t_is;
  store = go_with s.moment (Does line text ∷ []) s.store t.store st later st_is (ap (λ (x : SessionsState). x.store) t_is)
      (goes_quiet s.moment (Does line text) st.world later.world quiet ([], world_is) (stores_same st.world later.world (ap (λ (w : WorldValue). w.histories) world_is)));
}

write_goes : (s : SessionsState) (key : ℕ) (value : List ℕ) (t : SessionsState) (text : List ℕ) → SoundIfAny s.store → write_line s key value ≡ Done t text → TurnGoes s (Does (lines.Write key value) text) t
write_goes s key value t text sound is = go d.by
  where
    turn : SessionTurn
    turn = Does (lines.Write key value) text

    quiet : IsQuiet s.moment turn
    quiet = record { crash = λ b. refl; sweep = λ b. refl }

    d : WriteDone s key value t text
    d = write_done s key value t text is

    st : LanesState
    st = d.store

    st_sound : LanesAreSound st
    st_sound = sound_of s.store st d.store_is sound

    take_of : Bool → WindowsValue
    take_of full = if full then refused st.windows else taken st.windows (passes_of s st)

    took : LimitsLaw → (full : Bool) → nat_lt (open_count st.windows.facts) st.windows.wq ≡ full → KeepLimits st.windows → KeepLimits (take_of full)
    took law full at keep = subst (λ w. KeepLimits w) (ap take_of at) (law st.windows (Take s.serial) keep)

    ended : (answered : HasAnswered s key value st t text) → (t.boot ≡ s.boot) × (t.serial ≡ (drawn s).serial) → t.moment ≡ s.moment → t.store ≡ Some (spent_by answered.write (passes_of s st) (store_after_write s key value st)) → TurnGoes s turn t
    ended answered clock moment_is store_is =
        let v : LanesState = store_after_write s key value st in
        let later : LanesState = spent_by answered.write (passes_of s st) v in
        let gone : CallGone st (taken st.windows (passes_of s st)) (new_write s key value st) v = write_begins s key value st st_sound d.new (write_may s key value st (call.Write answered.write) answered.there) in
        record {
          moment_is = moment_is;
          store = go_with s.moment (turn ∷ []) s.store t.store st later d.store_is store_is (goes_quiet s.moment turn st.world v.world quiet gone.by gone.stores);
          windows = λ law keep. windows_in t.store later store_is (
              law v.windows (Spend (heard_passes answered.write (passes_of s st)))
              (subst (λ w. KeepLimits w) (sym gone.windows_are) (took law false answered.enough (windows_of s.store st d.store_is keep))));
          clock = (clock.0, inr clock.1);
          nonces = λ version had. elim (had_or_new s.store t.store st later (nonce s) version d.store_is store_is gone.calls had) [ inl old ↦ inl old | inr new ↦ inr (new, clock.1) ];
          calls = calls_stay s.store t.store st later d.store_is store_is (others_stay st.world v.world (nonce s) gone.by d.new gone.calls);
          cookies = λ other. absurd (cc);
        }

    go : IsOverload s key st t text ⊎ HasAnswered s key value st t text → TurnGoes s turn t
    go (inl over) =
        let later : LanesState = record st { windows = refused st.windows } in
        record {
          moment_is = ap (λ (x : SessionsState). x.moment) over.state_is;
          store = go_with s.moment (turn ∷ []) s.store t.store st later d.store_is (ap (λ (x : SessionsState). x.store) over.state_is)
              (goes_quiet s.moment turn st.world st.world quiet ([], refl) (stores_same st.world st.world refl));
          windows = λ law keep. windows_in t.store later (ap (λ (x : SessionsState). x.store) over.state_is) (took law true over.full (windows_of s.store st d.store_is keep));
          clock = (ap (λ (x : SessionsState). x.boot) over.state_is, inr (ap (λ (x : SessionsState). x.serial) over.state_is));
          nonces = λ version had. inl (had_before s.store t.store st later version d.store_is (ap (λ (x : SessionsState). x.store) over.state_is) refl had);
          calls = calls_stay s.store t.store st later d.store_is (ap (λ (x : SessionsState). x.store) over.state_is) (same_calls st later refl);
          cookies = λ other. absurd (cc);
        }
    go (inr answered) =
        let u : SessionsState = with_store (drawn s) (spent_by answered.write (passes_of s st) (store_after_write s key value st)) in
        elim (written_by u key answered.answer t text answered.done) [
          | inl ok ↦ ended answered (ap (λ (x : SessionsState). x.boot) ok.state_is, ap (λ (x : SessionsState). x.serial) ok.state_is) (ap (λ (x : SessionsState). x.moment) ok.state_is) (ap (λ (x : SessionsState). x.store) ok.state_is)
          | inr missed ↦ ended answered (ap (λ (x : SessionsState). x.boot) missed.state_is, ap (λ (x : SessionsState). x.serial) missed.state_is) (ap (λ (x : SessionsState). x.moment) missed.state_is) (ap (λ (x : SessionsState). x.store) missed.state_is)
        ]

fetch_goes : (s : SessionsState) (key : ℕ) (t : SessionsState) (text : List ℕ) → SoundIfAny s.store → fetch_line s key ≡ Done t text → TurnGoes s (Does (lines.Fetch key) text) t
fetch_goes s key t text sound is =
    let turn : SessionTurn = Does (lines.Fetch key) text in
    let d : FetchDone s key t text = fetch_done s key t text is in
    let v : LanesState = store_read s d.cookie d.store in
    let gone : CallGone d.store d.store.windows (call.Read (read_start s.moment (nonce s) d.cookie)) v = read_gone s d.cookie d.store (sound_of s.store d.store d.store_is sound) d.may in
    record {
      moment_is = ap (λ (x : SessionsState). x.moment) d.state_is;
      store = go_with s.moment (turn ∷ []) s.store t.store d.store v d.store_is (ap (λ (x : SessionsState). x.store) d.state_is)
          (goes_quiet s.moment turn d.store.world v.world (record { crash = λ b. refl; sweep = λ b. refl }) gone.by gone.stores);
      windows = λ law keep. windows_in t.store v (ap (λ (x : SessionsState). x.store) d.state_is) (subst (λ w. KeepLimits w) (sym gone.windows_are) (windows_of s.store d.store d.store_is keep));
      clock = (ap (λ (x : SessionsState). x.boot) d.state_is, inr (ap (λ (x : SessionsState). x.serial) d.state_is));
      nonces = λ version had. elim (had_or_new s.store t.store d.store v (nonce s) version d.store_is (ap (λ (x : SessionsState). x.store) d.state_is) gone.calls had) [
        | inl old ↦ inl old
        | inr new ↦ inr (new, ap (λ (x : SessionsState). x.serial) d.state_is)
      ];
      calls = calls_stay s.store t.store d.store v d.store_is (ap (λ (x : SessionsState). x.store) d.state_is) (others_stay d.store.world v.world (nonce s) gone.by (both _ _ d.may).0 gone.calls);
      cookies = λ other. ap (λ (x : SessionsState). x.cookies) d.state_is;
    }

now_goes : (s : SessionsState) (moment : ℕ) (t : SessionsState) (text : List ℕ) → now_line s moment ≡ Done t text → TurnGoes s (Does (lines.Now moment) text) t
unfolding now_line
now_goes s moment t text is =
    let later : SessionsState = record s { moment = record { 0 = moment } } in
    let first = not_refused (nat_lt moment s.moment.0) (refused_if (nat_lt MAX_MOMENT moment) (Done later [])) t text is in
    let second = not_refused (nat_lt MAX_MOMENT moment) (Done later []) t text first.1 in
    let same = done_state later t [] text second.1 in
    stays s t (Does (lines.Now moment) text) (ap (λ (x : SessionsState). x.boot) same.0, inl (ap (λ (x : SessionsState). x.serial) same.0)) (record { crash = λ b. refl; sweep = λ b. refl }) (ap (λ (x : SessionsState). x.moment) same.0) (ap (λ (x : SessionsState). x.store) same.0)
    (ap (λ (x : SessionsState). x.cookies) same.0)

-- a line that tells something and changes nothing
tells : (s t : SessionsState) (line : SessionLine) (text : List ℕ) → IsQuiet s.moment (Does line text) → moment_after s.moment (Does line text) ≡ s.moment → t ≡ s → TurnGoes s (Does line text) t
tells s t line text quiet same_moment is = stays s t (Does line text) (ap (λ (x : SessionsState). x.boot) is, inl (ap (λ (x : SessionsState). x.serial) is)) quiet (ap (λ (x : SessionsState). x.moment) is ∙ sym same_moment) (ap (λ (x : SessionsState). x.store) is)
    (ap (λ (x : SessionsState). x.cookies) is)

cookie_goes : (s : SessionsState) (key : ℕ) (t : SessionsState) (text : List ℕ) → cookie_line s key ≡ Done t text → TurnGoes s (Does (lines.Cookie key) text) t
unfolding cookie_line
cookie_goes s key t text is =
    let told : Cookie → List ℕ = λ cookie. cookie_text key (text_of_cookie s.key cookie) in
    let first = goes_on_with (cookie_of s key) (λ cookie. Done s (told cookie)) t text is in
    tells s t (lines.Cookie key) text (record { crash = λ b. refl; sweep = λ b. refl }) refl (done_state s t (told first.item) text first.done).0

lose_goes : (s : SessionsState) (brick more : ℕ) (t : SessionsState) (text : List ℕ) → lose_line s brick more ≡ Done t text → TurnGoes s (Does (lines.Lose brick more) text) t
unfolding lose_line
lose_goes s brick more t text is =
    let d = on_a_lane s brick (λ st lane. Done (with_lane_of s brick st (losing more lane)) []) t text is in
    let later : LanesState = with_lane d.store brick (losing more d.lane) in
    shifts s t (lines.Lose brick more) text d.store later (λ law keep. keep) (record { crash = λ b. refl; sweep = λ b. refl }) refl d.store_is (done_state (with_store s later) t [] text d.done).0 refl

mute_goes : (s : SessionsState) (brick more : ℕ) (t : SessionsState) (text : List ℕ) → mute_line s brick more ≡ Done t text → TurnGoes s (Does (lines.Mute brick more) text) t
unfolding mute_line
mute_goes s brick more t text is =
    let d = on_a_lane s brick (λ st lane. Done (with_lane_of s brick st (dropping more lane)) []) t text is in
    let later : LanesState = with_lane d.store brick (dropping more d.lane) in
    shifts s t (lines.Mute brick more) text d.store later (λ law keep. keep) (record { crash = λ b. refl; sweep = λ b. refl }) refl d.store_is (done_state (with_store s later) t [] text d.done).0 refl

repeat_goes : (s : SessionsState) (brick number : ℕ) (t : SessionsState) (text : List ℕ) → repeat_line s brick number ≡ Done t text → TurnGoes s (Does (lines.Repeat brick number) text) t
unfolding repeat_line
repeat_goes s brick number t text is =
    let d = on_a_lane s brick (λ st lane. or_refused (reply_made lane number) (λ packet. Done (with_lane_of s brick st (waiting packet lane)) [])) t text is in
    let e = goes_on_with (reply_made d.lane number) (λ packet. Done (with_lane_of s brick d.store (waiting packet d.lane)) []) t text d.done in
    let later : LanesState = with_lane d.store brick (waiting e.item d.lane) in
    shifts s t (lines.Repeat brick number) text d.store later (λ law keep. keep) (record { crash = λ b. refl; sweep = λ b. refl }) refl d.store_is (done_state (with_store s later) t [] text e.done).0 refl

-- a crash and a sweep leave the calls as they are
crash_calls : (w : WorldValue) (brick : ℕ) (o : Option (List BrickEvent)) → (crashed w (brick_no brick) o).calls ≡ w.calls
crash_calls w brick None = refl
crash_calls w brick (Some h) = go (nat_lt (incarnation_after 1 h) (2 ^ 64 - 1))
  where
    go : (b : Bool) → (if b then with_history w (brick_no brick) (happened.Crash ∷ h) else w).calls ≡ w.calls
    go true = refl
    go false = refl

sweep_calls : (w : WorldValue) (brick : ℕ) (moment : Moment) (o : Option (List BrickEvent)) → (swept w (brick_no brick) moment o).calls ≡ w.calls
sweep_calls w brick moment None = refl
sweep_calls w brick moment (Some h) = refl

crash_goes : (s : SessionsState) (brick : ℕ) (t : SessionsState) (text : List ℕ) → crash_line s brick ≡ Done t text → TurnGoes s (Does (lines.Crash brick) text) t
unfolding crash_line
crash_goes s brick t text is =
    let after_crash : LanesState → SessionsState = λ st. with_store s (after_event st (Crash (brick_no brick))) in
    let d = on_a_lane s brick (λ st lane. refused_if (not (may_happen st.world (Crash (brick_no brick)))) (Done (after_crash st) [])) t text is in
    let e = not_refused (not (may_happen d.store.world (Crash (brick_no brick)))) (Done (after_crash d.store) []) t text d.done in
    let same = done_state (after_crash d.store) t [] text e.1 in
    record {
      moment_is = ap (λ (x : SessionsState). x.moment) same.0;
      cookies = λ other. ap (λ (x : SessionsState). x.cookies) same.0;
      store = go_with s.moment (Does (lines.Crash brick) text ∷ []) s.store t.store d.store (after_event d.store (Crash (brick_no brick))) d.store_is (ap (λ (x : SessionsState). x.store) same.0)
          (goes_crash s.moment brick text d.store.world (not_false (may_happen d.store.world (Crash (brick_no brick))) e.0));
      windows = λ law keep. windows_in t.store (after_event d.store (Crash (brick_no brick))) (ap (λ (x : SessionsState). x.store) same.0) (windows_of s.store d.store d.store_is keep);
      clock = (ap (λ (x : SessionsState). x.boot) same.0, inl (ap (λ (x : SessionsState). x.serial) same.0));
      nonces = λ version had. inl (had_before s.store t.store d.store (after_event d.store (Crash (brick_no brick))) version d.store_is (ap (λ (x : SessionsState). x.store) same.0) (crash_calls d.store.world brick (history d.store.world (brick_no brick))) had);
      calls = calls_stay s.store t.store d.store (after_event d.store (Crash (brick_no brick))) d.store_is (ap (λ (x : SessionsState). x.store) same.0)
          (same_calls d.store (after_event d.store (Crash (brick_no brick))) (crash_calls d.store.world brick (history d.store.world (brick_no brick))));
    }

sweep_goes : (s : SessionsState) (brick moment : ℕ) (line : SessionLine) (t : SessionsState) (text : List ℕ) → SweepsBrick s.moment brick (record { 0 = moment }) (Does line text) → moment_after s.moment (Does line text) ≡ s.moment → sweep_line s brick moment ≡ Done t text → TurnGoes s (Does line text) t
unfolding sweep_line
sweep_goes s brick moment line t text sweeps same_moment is =
    let at : Moment = record { 0 = moment } in
    let after_sweep : LanesState → SessionsState = λ st. with_store s (after_event st (Sweep (brick_no brick) at)) in
    let d = on_a_lane s brick (λ st lane. refused_if (nat_lt MAX_MOMENT moment) (Done (after_sweep st) [])) t text is in
    let e = not_refused (nat_lt MAX_MOMENT moment) (Done (after_sweep d.store) []) t text d.done in
    let same = done_state (after_sweep d.store) t [] text e.1 in
    record {
      moment_is = ap (λ (x : SessionsState). x.moment) same.0 ∙ sym same_moment;
      cookies = λ other. ap (λ (x : SessionsState). x.cookies) same.0;
      store = go_with s.moment (Does line text ∷ []) s.store t.store d.store (after_event d.store (Sweep (brick_no brick) at)) d.store_is (ap (λ (x : SessionsState). x.store) same.0)
          (goes_sweep s.moment brick at (Does line text) d.store.world sweeps);
      windows = λ law keep. windows_in t.store (after_event d.store (Sweep (brick_no brick) at)) (ap (λ (x : SessionsState). x.store) same.0) (windows_of s.store d.store d.store_is keep);
      clock = (ap (λ (x : SessionsState). x.boot) same.0, inl (ap (λ (x : SessionsState). x.serial) same.0));
      nonces = λ version had. inl (had_before s.store t.store d.store (after_event d.store (Sweep (brick_no brick) at)) version d.store_is (ap (λ (x : SessionsState). x.store) same.0) (sweep_calls d.store.world brick at (history d.store.world (brick_no brick))) had);
      calls = calls_stay s.store t.store d.store (after_event d.store (Sweep (brick_no brick) at)) d.store_is (ap (λ (x : SessionsState). x.store) same.0)
          (same_calls d.store (after_event d.store (Sweep (brick_no brick) at)) (sweep_calls d.store.world brick at (history d.store.world (brick_no brick))));
    }

values_goes : (s : SessionsState) (brick : ℕ) (t : SessionsState) (text : List ℕ) → values_line s brick ≡ Done t text → TurnGoes s (Does (lines.Values brick) text) t
unfolding values_line
values_goes s brick t text is =
    let told : List BrickEvent → List ℕ = λ h. values_text brick (length (all_held h)) in
    let d = on_a_lane s brick (λ st lane. or_refused (history st.world (brick_no brick)) (λ h. Done s (told h))) t text is in
    let e = goes_on_with (history d.store.world (brick_no brick)) (λ h. Done s (told h)) t text d.done in
    tells s t (lines.Values brick) text (record { crash = λ b. refl; sweep = λ b. refl }) refl (done_state s t (told e.item) text e.done).0

windows_goes : (s : SessionsState) (t : SessionsState) (text : List ℕ) → windows_line s ≡ Done t text → TurnGoes s (Does lines.Windows text) t
unfolding windows_line
windows_goes s t text is =
    let d = goes_on_with s.store (λ st. Done s (windows_text st.windows.facts)) t text is in
    tells s t lines.Windows text (record { crash = λ b. refl; sweep = λ b. refl }) refl (done_state s t (windows_text d.item.windows.facts) text d.done).0

hold_goes : (s : SessionsState) (brick : ℕ) (t : SessionsState) (text : List ℕ) → hold_line s brick ≡ Done t text → TurnGoes s (Does (lines.Hold brick) text) t
unfolding hold_line
hold_goes s brick t text is =
    let d = on_a_lane s brick (λ st lane. within (with_store s) (holds st brick lane (pass_tried st.windows (brick_no brick)))) t text is in
    go d.store d.lane (pass_tried d.store.windows (brick_no brick)) d.store_is d.done
  where
    turn : SessionTurn
    turn = Does (lines.Hold brick) text

    go : (st : LanesState) (lane : LaneState) (o : Option Pass) → s.store ≡ Some st → within (with_store s) (holds st brick lane o) ≡ Done t text → TurnGoes s turn t
    go st lane None st_is done = tells s t (lines.Hold brick) text (record { crash = λ b. refl; sweep = λ b. refl }) refl ((done_state (with_store s st) t _ text done).0 ∙ ap (λ (o : Option LanesState). record s { store = o }) (sym st_is))
    go st lane (Some pass) st_is done =
        let later : LanesState = with_lane (record st { windows = after_try st.windows (brick_no brick) }) brick (record lane { held = raised lane.held 1 }) in
        shifts s t (lines.Hold brick) text st later (λ law keep. law st.windows (TryPass (brick_no brick)) keep) (record { crash = λ b. refl; sweep = λ b. refl }) refl st_is (done_state (with_store s later) t _ text done).0 refl

freed_keeps : LimitsLaw → (windows : WindowsValue) (brick : ℕ) (how : Freed) → KeepLimits windows → KeepLimits (after_pass windows (freed_pass brick how))
freed_keeps law windows brick freed.Answered keep = law windows (Answered (unheard (brick_no brick))) keep
freed_keeps law windows brick freed.Silent keep = law windows (Silent (unheard (brick_no brick))) keep

free_goes : (s : SessionsState) (brick : ℕ) (how : Freed) (t : SessionsState) (text : List ℕ) → free_line s brick how ≡ Done t text → TurnGoes s (Does (lines.Free brick how) text) t
unfolding free_line
free_goes s brick how t text is =
    let later : LanesState → LaneState → LanesState = λ st lane.
    with_lane (record st { windows = after_pass st.windows (freed_pass brick how) }) brick (record lane { held = lane.held - 1 }) in
    let d = on_a_lane s brick (λ st lane. refused_if (not (nat_lt 0 lane.held)) (Done (with_store s (later st lane)) [])) t text is in
    let e = not_refused (not (nat_lt 0 d.lane.held)) (Done (with_store s (later d.store d.lane)) []) t text d.done in
    let windows : WindowsValue = after_pass d.store.windows (freed_pass brick how) in
    shifts s t (lines.Free brick how) text d.store (later d.store d.lane) (λ law keep. freed_keeps law d.store.windows brick how keep) (record { crash = λ b. refl; sweep = λ b. refl }) refl d.store_is (done_state (with_store s (later d.store d.lane)) t [] text e.1).0 refl

-- connections go on with the bricks
lends_goes : (s : SessionsState) (steps : List LentStep) (serial : ℕ) (t : SessionsState) → SoundIfAny s.store → GoesLent s steps serial t → TurnGoes s (Lends steps serial) t
lends_goes s steps serial t sound lent =
    let store_is : t.store ≡ option_map (λ (st : LanesState). after_lent st steps) s.store = ap (λ (x : SessionsState). x.store) lent.state_is in
    let goes = by s.store sound in
    record {
      moment_is = ap (λ (x : SessionsState). x.moment) lent.state_is;
      store = subst (λ o. GoOn s.moment (turn ∷ []) s.store o) (sym store_is) goes.0;
      windows = λ law keep. subst (λ o. KeepWindows o) (sym store_is) (goes.1 law keep);
      clock = (ap (λ (x : SessionsState). x.boot) lent.state_is, ap (λ (x : SessionsState). x.serial) lent.state_is, lent.serials);
      nonces = λ version had. goes.2 version (subst (λ o. HasHad o version) store_is had);
      calls = tt;
      cookies = λ other. ap (λ (x : SessionsState). x.cookies) lent.state_is;
    }
  where
    turn : SessionTurn
    turn = Lends steps serial

    Lent : Option LanesState → Option LanesState → Type 0
    Lent o p = GoOn s.moment (turn ∷ []) o p × (LimitsLaw → KeepWindows o → KeepWindows p) × ((version : Version) → HasHad p version → HasHad o version ⊎ WasDrawn s.boot serial version)

    by : (o : Option LanesState) → SoundIfAny o → Lent o (option_map (λ (st : LanesState). after_lent st steps) o)
    by None sound_o = (tt, λ law keep. tt, λ version had. absurd had)
    by (Some st) sound_o =
        let gone : LentGone (WasDrawn s.boot serial) st (after_lent st steps) = lent_gone (WasDrawn s.boot serial) steps st sound_o lent.nonces in (
          goes_stored s.moment turn st.world (after_lent st steps).world (record { crash = λ b. refl; sweep = λ b. refl }) gone.by gone.stores,
          λ law keep. gone.windows law keep,
          λ version had. subst (λ (x : Version). HasHad (Some st) x ⊎ WasDrawn s.boot serial x) had.3 (gone.calls had.0 had.1 had.2),
        )

-- each turn
pub turn_goes : (s : SessionsState) (turn : SessionTurn) (t : SessionsState) → SoundIfAny s.store → Makes s turn t → TurnGoes s turn t
turn_goes s (Does (lines.Now moment) text) t sound is = now_goes s moment t text is
turn_goes s (Does (lines.Write key value) text) t sound is = write_goes s key value t text sound is
turn_goes s (Does (lines.Fetch key) text) t sound is = fetch_goes s key t text sound is
turn_goes s (Does (lines.Cookie key) text) t sound is = cookie_goes s key t text is
turn_goes s (Does (lines.Present presented) text) t sound is = tells s t (lines.Present presented) text (record { crash = λ b. refl; sweep = λ b. refl }) refl (done_state s t (presented_text s.key presented) text is).0
turn_goes s (Does (lines.Lose brick more) text) t sound is = lose_goes s brick more t text is
turn_goes s (Does (lines.Mute brick more) text) t sound is = mute_goes s brick more t text is
turn_goes s (Does (lines.Repeat brick number) text) t sound is = repeat_goes s brick number t text is
turn_goes s (Does (lines.Crash brick) text) t sound is = crash_goes s brick t text is
turn_goes s (Does (lines.Sweep brick moment) text) t sound is = sweep_goes s brick (unwrap_or moment s.moment.0) (lines.Sweep brick moment) t text (record { crash = λ b. refl; sweep = λ b. refl }) refl is
turn_goes s (Does (lines.Values brick) text) t sound is = values_goes s brick t text is
turn_goes s (Does lines.Windows text) t sound is = windows_goes s t text is
turn_goes s (Does (lines.Hold brick) text) t sound is = hold_goes s brick t text is
turn_goes s (Does (lines.Free brick how) text) t sound is = free_goes s brick how t text is
turn_goes s (Boots number) t sound is = stays s t (Boots number) (ap (λ (x : SessionsState). x.boot) is) (record { crash = λ b. refl; sweep = λ b. refl }) (ap (λ (x : SessionsState). x.moment) is) (ap (λ (x : SessionsState). x.store) is)
    (ap (λ (x : SessionsState). x.cookies) is)
turn_goes s (Lends steps serial) t sound is = lends_goes s steps serial t sound is

-- turns one after the other
go_on_none : (now : Moment) (o : Option LanesState) → GoOn now [] o o
go_on_none now None = tt
go_on_none now (Some st) = goes_none now st.world

go_on_more : (now : Moment) (turn : SessionTurn) (turns : List SessionTurn) (a b c : Option LanesState) → GoOn now (turn ∷ []) a b → GoOn (moment_after now turn) turns b c → GoOn now (turn ∷ turns) a c
go_on_more now turn turns None None None first second = tt
go_on_more now turn turns None None (Some w) first second = absurd second
go_on_more now turn turns None (Some v) c first second = absurd first
go_on_more now turn turns (Some u) None c first second = absurd first
go_on_more now turn turns (Some u) (Some v) None first second = absurd second
go_on_more now turn turns (Some u) (Some v) (Some w) first second = goes_on now turn turns u.world v.world w.world first second

-- turns lead from the bricks of sessions to others, which events made
pub record TurnsGo (s : SessionsState) (turns : List SessionTurn) (t : SessionsState) : Type 0 where
  pub store : GoOn s.moment turns s.store t.store
  pub windows : LimitsLaw → KeepWindows s.store → KeepWindows t.store

pub turns_go : (turns : List SessionTurn) (s t : SessionsState) → SoundIfAny s.store → Lead s turns t → TurnsGo s turns t
turns_go [] s t sound is = record {
  store = subst (λ (x : SessionsState). GoOn s.moment [] s.store x.store) (sym is) (go_on_none s.moment s.store);
  windows = λ law keep. subst (λ (x : SessionsState). KeepWindows x.store) (sym is) keep;
}
turns_go (turn ∷ turns) s t sound lead =
    let between : SessionsState = lead.0 in
    let first : TurnGoes s turn between = turn_goes s turn between sound lead.1 in
    let rest : TurnsGo between turns t = turns_go turns between t (one_turn_keeps s between turn sound lead.1) lead.2 in
    let later : GoOn (moment_after s.moment turn) turns between.store t.store = subst (λ m. GoOn m turns between.store t.store) first.moment_is rest.store in
    record { store = go_on_more s.moment turn turns s.store between.store t.store first.store later; windows = λ law keep. rest.windows law (first.windows law keep) }
