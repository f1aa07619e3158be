-- A call that has ended is told nothing more, whatever happens in its world.
use Rattle.std.proofs.Common.{◌≡◌, ℕ, ◌-◌, ◌^◌, ◌||◌, ◌==◌, Bool, true, false, not, nat_lt, if◌then◌else◌, List, [], ◌∷◌, Option, Some, None, refl, sym, ap, ◌∙◌}
use Rattle.std.specs.Prelude.{slice_get}
use Rattle.std.specs.List.{list_any}
use Rattle.crash_base.specs.declared.numbers.BrickNo.{BrickNo}
use Rattle.crash_base.specs.declared.numbers.Moment.{Moment}
use Rattle.crash_base.specs.declared.numbers.Version.{Version}
use Rattle.crash_base.specs.Same.{same_version}
use Rattle.ssm_frames.specs.declared.frame.Frame.{Frame}
use Rattle.brick_store.specs.declared.event.BrickEvent.{BrickEvent}
use Rattle.brick_store.specs.declared.event.BrickEvent.TheVariants as happened
use Rattle.brick_store.specs.Bricks.{reply}
use Rattle.brick_store.specs.History.{incarnation_after}
use Rattle.ssm_stub.specs.declared.event.StubNext.TheVariants as next
use Rattle.ssm_stub.specs.declared.event.Told.{Told}
use Rattle.ssm_world.specs.declared.call.Call.{Call}
use Rattle.ssm_world.specs.declared.event.Packet.{Packet}
use Rattle.ssm_world.specs.declared.event.WorldEvent.{WorldEvent}
use Rattle.ssm_world.specs.declared.event.WorldEvent.TheVariants.{Write, Read, Send, Deliver, Hear, Hush, Crash, Sweep}
use Rattle.ssm_world.specs.Worlds.{WorldValue, ask_of, hear, nonce_of, next_of, history, with_history, with_call, with_new_call, with_sent, with_told, told_by_send, told_by_hush, told_by_packet, packet_by_send, is_new, may_write, may_read, sent, came, hushed, brick_after, replied, reached, delivered, crashed, swept, step, after}
use Rattle.ssm_world.proofs.Lists.{get_front, none_passes}
use Rattle.ssm_world.proofs.Tests.{same_number, number_same, version_is, version_same}
use Rattle.session_lanes.proofs.Ending.{MadeBy}
use Rattle.session_lanes.proofs.Histories.{PassesAt, any_passes}
use Rattle.session_lanes.proofs.LaneLists.{get_set_other}

-- a call of a world has this nonce
abbrev pub Had : WorldValue → Version → Type 0
Had w version = (place : ℕ) × (c : Call) × (slice_get w.calls place ≡ Some c) × (nonce_of c ≡ version)

-- a call of a world that has ended has it
abbrev pub HasEndedCall : WorldValue → Version → Type 0
HasEndedCall w version =
    (place : ℕ) × (c : Call) × (slice_get w.calls place ≡ Some c) × (nonce_of c ≡ version) × (next_of c ≡ next.Ended)

-- no event changes a call that has ended
module _ (w : WorldValue) (place : ℕ) (c : Call) (there : slice_get w.calls place ≡ Some c) (ended : next_of c ≡ next.Ended) where
  told_stays : (at : ℕ) (d : Call) (o : Option Told) → slice_get w.calls at ≡ Some d → (next_of d ≡ next.Ended → o ≡ None) → slice_get (with_told w at d o).calls place ≡ Some c
  told_stays at d None here none = there
  told_stays at d (Some told) here none = go (at == place) refl where
    go : (b : Bool) → (at == place) ≡ b → slice_get (with_call w at (hear d told)).calls place ≡ Some c
    go true is =
        let one : Some d ≡ Some c = sym here ∙ ap (slice_get w.calls) (same_number at place is) ∙ there in
        let its : d ≡ c = cc in
        let clash : Some told ≡ None = none (ap next_of its ∙ ended) in
        absurd (cc)
    go false apart =
        let differ : place ≡ at → ⊥ = λ e. (let equal : (at == place) ≡ true = ap (λ n. at == n) e ∙ number_same at in let clash : true ≡ false = sym equal ∙ apart in cc) in
        get_set_other w.calls at (hear d told) place differ ∙ there

  sent_stays : (at : ℕ) (silent arrives : Bool) (o : Option Call) → slice_get w.calls at ≡ o → slice_get (sent w at silent arrives o).calls place ≡ Some c
  sent_stays at silent arrives None here = there
  sent_stays at silent arrives (Some d) here =
      packets (with_told w at d (told_by_send silent (next_of d))) (packet_by_send arrives (ask_of d) (next_of d))
      ∙ told_stays at d (told_by_send silent (next_of d)) here (λ e. ap (told_by_send silent) e) where
        packets : (v : WorldValue) (o : Option Packet) → slice_get (with_sent v o).calls place ≡ slice_get v.calls place
        packets v None = refl
        packets v (Some p) = refl

  came_stays : (at : ℕ) (packet : Option Packet) (o : Option Call) → slice_get w.calls at ≡ o → slice_get (came w at packet o).calls place ≡ Some c
  came_stays at packet None here = there
  came_stays at packet (Some d) here = told_stays at d (told_by_packet packet (next_of d)) here (λ e. ap (told_by_packet packet) e)

  hushed_stays : (at : ℕ) (o : Option Call) → slice_get w.calls at ≡ o → slice_get (hushed w at o).calls place ≡ Some c
  hushed_stays at None here = there
  hushed_stays at (Some d) here = told_stays at d (told_by_hush (next_of d)) here (λ e. ap told_by_hush e)

  replied_stays : (p : Packet) (h : List BrickEvent) (o : Option Frame) → slice_get (replied w p h o).calls place ≡ Some c
  replied_stays p h None = there
  replied_stays p h (Some frame) = there

  reached_stays : (p : Packet) (o : Option (List BrickEvent)) → slice_get (reached w p o).calls place ≡ Some c
  reached_stays p None = there
  reached_stays p (Some h) = replied_stays p h (reply (brick_after p.brick h) p.frame)

  delivered_stays : (o : Option Packet) → slice_get (delivered w o).calls place ≡ Some c
  delivered_stays None = there
  delivered_stays (Some p) = reached_stays p (history w p.brick)

  crashed_stays : (brick : BrickNo) (o : Option (List BrickEvent)) → slice_get (crashed w brick o).calls place ≡ Some c
  crashed_stays brick None = there
  crashed_stays brick (Some h) = go (nat_lt (incarnation_after 1 h) (2 ^ 64 - 1)) where
    go : (b : Bool) → slice_get (if b then with_history w brick (happened.Crash ∷ h) else w).calls place ≡ Some c
    go true = there
    go false = there

  swept_stays : (brick : BrickNo) (moment : Moment) (o : Option (List BrickEvent)) → slice_get (swept w brick moment o).calls place ≡ Some c
  swept_stays brick moment None = there
  swept_stays brick moment (Some h) = there

  begun_stays : (d : Call) (b : Bool) → slice_get (if b then with_new_call w d else w).calls place ≡ Some c
  begun_stays d true = get_front w.calls (d ∷ []) place c there
  begun_stays d false = there

  step_stays : (e : WorldEvent) → slice_get (step w e).calls place ≡ Some c
  step_stays (Write nonce key value expiry bricks least) = begun_stays _ (may_write w nonce bricks least)
  step_stays (Read nonce now cookie) = begun_stays _ (may_read w nonce cookie.bricks)
  step_stays (Send at silent arrives) = sent_stays at silent (not silent || arrives) (slice_get w.calls at) refl
  step_stays (Deliver packet) = delivered_stays (slice_get w.packets packet)
  step_stays (Hear at packet) = came_stays at (slice_get w.packets packet) (slice_get w.calls at) refl
  step_stays (Hush at) = hushed_stays at (slice_get w.calls at) refl
  step_stays (Crash brick) = crashed_stays brick (history w brick)
  step_stays (Sweep brick moment) = swept_stays brick moment (history w brick)

after_stays : (w : WorldValue) (place : ℕ) (c : Call) (es : List WorldEvent) → slice_get w.calls place ≡ Some c → next_of c ≡ next.Ended → slice_get (after w es).calls place ≡ Some c
after_stays w place c [] there ended = there
after_stays w place c (e ∷ es) there ended = after_stays (step w e) place c es (step_stays w place c there ended e) ended

-- so a nonce whose call has ended is one whose call has ended later
pub ended_later : (w v : WorldValue) (version : Version) → MadeBy w v → HasEndedCall w version → HasEndedCall v version
ended_later w v version by had =
    (had.0, had.1, ap (λ (x : WorldValue). slice_get x.calls had.0) by.1 ∙ after_stays w had.0 had.1 by.0 had.2 had.4, had.3, had.4)

-- no call has a new nonce
pub new_unhad : (w : WorldValue) (version : Version) → is_new w version ≡ true → Had w version → ⊥
new_unhad w version new had =
    let apart : same_version (nonce_of had.1) version ≡ false = none_passes (λ (c : Call). same_version (nonce_of c) version) w.calls had.0 had.1 new had.2 in
    let alike : same_version (nonce_of had.1) version ≡ true = ap (λ v. same_version v version) had.3 ∙ version_same version in
    let clash : true ≡ false = sym alike ∙ apart in
    cc

-- and a nonce is new that no call has
pub unhad_new : (w : WorldValue) (version : Version) → (Had w version → ⊥) → is_new w version ≡ true
unhad_new w version none = go (list_any (λ (c : Call). same_version (nonce_of c) version) w.calls) refl
  where
    had : PassesAt (λ (c : Call). same_version (nonce_of c) version) w.calls → ⊥
    had found = none (found.place, found.item, found.there, version_is (nonce_of found.item) version found.passes)

    go : (b : Bool) → list_any (λ (c : Call). same_version (nonce_of c) version) w.calls ≡ b → not b ≡ true
    go false is = refl
    go true is = absurd (had (any_passes (λ (c : Call). same_version (nonce_of c) version) w.calls is))
