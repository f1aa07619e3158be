-- A call that goes on makes bricks store values at most, with its nonce as their version.
use Rattle.std.proofs.Common.{◌≡◌, inl, inr, ℕ, Bool, true, false, if◌then◌else◌, List, [], ◌∷◌, ◌++◌, Some, refl, sym, ap, ◌∙◌, subst, append_assoc}
use Rattle.std.specs.Prelude.{slice_get}
use Rattle.crash_base.specs.declared.numbers.BrickNo.{BrickNo}
use Rattle.crash_base.specs.declared.numbers.Version.{Version}
use Rattle.ssm_frames.specs.declared.frame.Frame.{Frame}
use Rattle.brick_store.specs.declared.kept.Kept.{Kept}
use Rattle.brick_store.specs.declared.event.BrickEvent.{BrickEvent}
use Rattle.brick_store.specs.declared.event.BrickEvent.TheVariants as happened
use Rattle.brick_store.specs.Bricks.{put_value}
use Rattle.brick_store.specs.History.{all_held}
use Rattle.brick_store.specs.Kept.{is_full}
use Rattle.brick_store.specs.Standing.{heard}
use Rattle.ssm_stub.specs.declared.event.StubNext.TheVariants as next
use Rattle.ssm_world.specs.declared.call.Call.{Call}
use Rattle.ssm_world.specs.declared.call.Call.TheVariants as call
use Rattle.ssm_world.specs.Sound.{untold, IsSound, CallIsSound}
use Rattle.ssm_world.specs.Worlds.{WorldValue, nonce_of, ask_of, next_of, history, IsMade}
use Rattle.ssm_world.proofs.CallAsks.{ask_is_request}
use Rattle.ssm_world.proofs.Growing.{same_nonce}
use Rattle.ssm_world.proofs.Hearing.{hear_untold}
use Rattle.ssm_world.proofs.Lists.{history_set}
use Rattle.session_lanes.specs.Sound.{LanesAreOf}
use Rattle.session_lanes.specs.Lanes.{LanesState, turn_to, gone_on}
use Rattle.session_lanes.proofs.Ending.{Turned, Over, made_is_sound, goes_over, turn_tells}
use Rattle.session_lanes.proofs.Turning.{answered_world, turn_cases}

-- these events are all of values that were stored under a version
abbrev pub OnlyUnder : Version → List BrickEvent → Type 0
OnlyUnder version [] = Unit {0}
OnlyUnder version (happened.Stored s ∷ h) = (s.version ≡ version) × OnlyUnder version h
OnlyUnder version (happened.Sweep moment ∷ h) = ⊥
OnlyUnder version (happened.Crash ∷ h) = ⊥

under_append : (version : Version) (newer h : List BrickEvent) → OnlyUnder version newer → OnlyUnder version h → OnlyUnder version (newer ++ h)
under_append version [] h first second = second
under_append version (happened.Stored s ∷ newer) h first second = (first.0, under_append version newer h first.1 second)
under_append version (happened.Sweep moment ∷ newer) h first second = absurd first
under_append version (happened.Crash ∷ newer) h first second = absurd first

-- a history, to which values were added at most that were stored under a version
pub record Adds (w : WorldValue) (version : Version) (brick : BrickNo) (g : List BrickEvent) : Type 0 where
  pub earlier : List BrickEvent
  pub newer : List BrickEvent
  pub history_is : history w brick ≡ Some earlier
  pub parts : g ≡ newer ++ earlier
  pub only : OnlyUnder version newer

-- each history is so
abbrev pub AddsUnder : WorldValue → Version → WorldValue → Type 0
AddsUnder w version v = (brick : BrickNo) (g : List BrickEvent) → history v brick ≡ Some g → Adds w version brick g

adds_same : (w : WorldValue) (version : Version) → AddsUnder w version w
adds_same w version brick g is = record { earlier = g; newer = []; history_is = is; parts = refl; only = tt }

adds_on : (u v w : WorldValue) (version : Version) → AddsUnder u version v → AddsUnder v version w → AddsUnder u version w
adds_on u v w version first second brick g is =
    let b : Adds v version brick g = second brick g is in
    let a : Adds u version brick b.earlier = first brick b.earlier b.history_is in
    record {
      earlier = a.earlier;
      newer = b.newer ++ a.newer;
      history_is = a.history_is;
      parts = b.parts ∙ ap (λ h. b.newer ++ h) a.parts ∙ sym (append_assoc b.newer a.newer a.earlier);
      only = under_append version b.newer a.newer b.only a.only;
    }

-- what the ask of a call adds
put_adds : (h : List BrickEvent) (s : Kept) → (newer : List BrickEvent) × ((if is_full (all_held h) s then h else happened.Stored s ∷ h) ≡ newer ++ h) × OnlyUnder s.version newer
put_adds h s = go (is_full (all_held h) s)
  where
    go : (full : Bool) → (newer : List BrickEvent) × ((if full then h else happened.Stored s ∷ h) ≡ newer ++ h) × OnlyUnder s.version newer
    go true = ([], refl, tt)
    go false = (happened.Stored s ∷ [], refl, (refl, tt))

ask_adds : (w : WorldValue) (c : Call) (h : List BrickEvent) → CallIsSound w c → (newer : List BrickEvent) × (heard h (ask_of c) ≡ newer ++ h) × OnlyUnder (nonce_of c) newer
ask_adds w (call.Write s) h sound =
    let adds = put_adds h (put_value s.key s.nonce s.expiry sound.value) in
    (adds.0, ap (heard h) sound.ask_is ∙ adds.1, adds.2)
ask_adds w (call.Read s) h sound = ([], refl, tt)

answer_adds : (w : WorldValue) (n : ℕ) (c : Call) (brick : BrickNo) (h : List BrickEvent) (frame : Frame) → CallIsSound w c → history w brick ≡ Some h → AddsUnder w (nonce_of c) (answered_world w n c brick h frame)
answer_adds w n c brick h frame sound now b g is = elim (history_set w.histories brick.0 (heard h (ask_of c)) b.0 g is) [
  | inl old ↦ adds_same w (nonce_of c) b g old
  | inr new ↦ (
      let same : b ≡ brick = (let number : b.0 ≡ brick.0 = new.0 in λ l. record { 0 = number l }) in
      let adds = ask_adds w c h sound in
      record { earlier = h; newer = adds.0; history_is = ap (history w) same ∙ now; parts = sym new.1 ∙ adds.1; only = adds.2 })
]

turn_adds : (st : LanesState) (n : ℕ) (c : Call) → LanesAreOf st → IsSound st.world → slice_get st.world.calls n ≡ Some c → AddsUnder st.world (nonce_of c) (turn_to st n (next_of c)).world
turn_adds st n c lanes sound there = turn_cases (λ v. AddsUnder st.world (nonce_of c) v.world) st n c lanes (ask_is_request st.world c (sound.calls n c there)) there (record {
  ended = λ wants. adds_same st.world (nonce_of c);
  unsent = λ brick wants at. adds_same st.world (nonce_of c);
  dropped = λ brick lane wants at drops. adds_same st.world (nonce_of c);
  answered = λ brick lane h frame wants at undropped now gives. answer_adds st.world n c brick h frame (sound.calls n c there) now;
  laneless = λ brick wants at. adds_same st.world (nonce_of c);
  silent = λ brick lane wants at empty. adds_same st.world (nonce_of c);
  came = λ brick lane packet rest p wants at queue is. adds_same st.world (nonce_of c);
})

-- a call that goes on
pub gone_adds : (st : LanesState) (n : ℕ) (c : Call) → IsMade st.world → LanesAreOf st → slice_get st.world.calls n ≡ Some c → AddsUnder st.world (nonce_of c) (gone_on st n).world
gone_adds st n c made lanes there = over.holds.1
  where
    I : LanesState → Call → Type 0
    I v d = (untold d ≡ untold c) × AddsUnder st.world (nonce_of c) v.world

    turned : (u : LanesState) (d : Call) → LanesAreOf u → IsMade u.world → slice_get u.world.calls n ≡ Some d → (next_of d ≡ next.Ended → ⊥) → I u d → Turned I n d (turn_to u n (next_of d))
    turned u d its made_u at more holds =
        let sound : IsSound u.world = made_is_sound u.world made_u in
        let v : LanesState = turn_to u n (next_of d) in
        let t : Turned (λ v d. Unit {0}) n d v = turn_tells u n d its sound at more in
        let adds : AddsUnder u.world (nonce_of c) v.world = subst (λ m. AddsUnder u.world m v.world) (same_nonce c d holds.0) (turn_adds u n d its sound at) in
        record { event = t.event; fitting = t.fitting; call_is = t.call_is; holds = (hear_untold d t.event ∙ holds.0, adds_on st.world u.world v.world (nonce_of c) holds.1 adds) }

    over : Over I n (gone_on st n)
    over = goes_over I n turned st c lanes made there (refl, adds_same st.world (nonce_of c))
