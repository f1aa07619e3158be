-- A nonce that no call has stays new until a call begins with it.
use Rattle.std.proofs.Common.{◌≡◌, ℕ, ◌||◌, Bool, true, false, not, if◌then◌else◌, List, [], ◌∷◌, Option, Some, None, refl, ap, ◌∙◌}
use Rattle.std.proofs.lemmas.Bool.{or_parts}
use Rattle.std.specs.Prelude.{slice_get}
use Rattle.std.specs.List.{list_any}
use Rattle.std.proofs.lemmas.List.Folds.{list_any-append}
use Rattle.crash_base.specs.declared.numbers.Version.{Version}
use Rattle.crash_base.specs.Same.{same_version}
use Rattle.ssm_stub.specs.declared.event.Told.{Told}
use Rattle.ssm_stub.specs.Writes.{write_start}
use Rattle.ssm_stub.specs.Reads.{read_start}
use Rattle.ssm_world.specs.declared.call.Call.{Call}
use Rattle.ssm_world.specs.declared.call.Call.TheVariants as call
use Rattle.ssm_world.specs.declared.event.Packet.{Packet}
use Rattle.ssm_world.specs.declared.event.WorldEvent.{WorldEvent}
use Rattle.ssm_world.specs.declared.event.WorldEvent.TheVariants.{Write, Read, Send, Deliver, Hear, Hush, Crash, Sweep}
use Rattle.ssm_world.specs.Facts.{begins}
use Rattle.ssm_world.specs.Worlds.{WorldValue, nonce_of, ask_of, next_of, hear, history, with_new_call, is_new, may_write, may_read, told_by_send, told_by_hush, told_by_packet, packet_by_send, with_told, sent, came, hushed, step, after}
use Rattle.ssm_world.proofs.Nonces.{any_set, hear_nonce}
use Rattle.ssm_world.proofs.Tracing.{sent_calls, delivered_calls, crashed_calls, swept_calls}

same_calls : (w v : WorldValue) (nonce : Version) → v.calls ≡ w.calls → is_new v nonce ≡ is_new w nonce
same_calls w v nonce same = ap (λ (calls : List Call). not (list_any (λ (c : Call). same_version (nonce_of c) nonce) calls)) same

told_new : (w : WorldValue) (k : ℕ) (c : Call) (o : Option Told) (nonce : Version) → slice_get w.calls k ≡ Some c → is_new (with_told w k c o) nonce ≡ is_new w nonce
told_new w k c None nonce there = refl
told_new w k c (Some t) nonce there = ap not (any_set (λ (d : Call). same_version (nonce_of d) nonce) w.calls k c (hear c t) there (ap (λ v. same_version v nonce) (hear_nonce c t)))

sent_new : (w : WorldValue) (k : ℕ) (silent is_sent : Bool) (o : Option Call) (nonce : Version) → slice_get w.calls k ≡ o → is_new (sent w k silent is_sent o) nonce ≡ is_new w nonce
sent_new w k silent is_sent None nonce there = refl
sent_new w k silent is_sent (Some c) nonce there =
    let told : WorldValue = with_told w k c (told_by_send silent (next_of c)) in
    same_calls told (sent w k silent is_sent (Some c)) nonce (sent_calls told (packet_by_send is_sent (ask_of c) (next_of c))) ∙ told_new w k c (told_by_send silent (next_of c)) nonce there

came_new : (w : WorldValue) (k : ℕ) (packet : Option Packet) (o : Option Call) (nonce : Version) → slice_get w.calls k ≡ o → is_new (came w k packet o) nonce ≡ is_new w nonce
came_new w k packet None nonce there = refl
came_new w k packet (Some c) nonce there = told_new w k c (told_by_packet packet (next_of c)) nonce there

hushed_new : (w : WorldValue) (k : ℕ) (o : Option Call) (nonce : Version) → slice_get w.calls k ≡ o → is_new (hushed w k o) nonce ≡ is_new w nonce
hushed_new w k None nonce there = refl
hushed_new w k (Some c) nonce there = told_new w k c (told_by_hush (next_of c)) nonce there

-- a call begins with another nonce
begun_new : (w : WorldValue) (c : Call) (may : Bool) (nonce : Version) → same_version (nonce_of c) nonce ≡ false → is_new (if may then with_new_call w c else w) nonce ≡ is_new w nonce
begun_new w c false nonce other = refl
begun_new w c true nonce other =
    let test : Call → Bool = λ (d : Call). same_version (nonce_of d) nonce in
    ap not (list_any-append test w.calls (c ∷ []) ∙ ap (λ b. list_any test w.calls || (b || false)) other ∙ none_more (list_any test w.calls))
  where
    none_more : (b : Bool) → (b || (false || false)) ≡ b
    none_more true = refl
    none_more false = refl

step_new : (w : WorldValue) (e : WorldEvent) (nonce : Version) → begins nonce e ≡ false → is_new (step w e) nonce ≡ is_new w nonce
step_new w (Write n key value expiry bricks least) nonce other = begun_new w (call.Write (write_start bricks least n key value expiry)) (may_write w n bricks least) nonce other
step_new w (Read n moment cookie) nonce other = begun_new w (call.Read (read_start moment n cookie)) (may_read w n cookie.bricks) nonce other
step_new w (Send k silent is_sent) nonce other = sent_new w k silent (not silent || is_sent) (slice_get w.calls k) nonce refl
step_new w (Deliver packet) nonce other = same_calls w (step w (Deliver packet)) nonce (delivered_calls w (slice_get w.packets packet))
step_new w (Hear k packet) nonce other = came_new w k (slice_get w.packets packet) (slice_get w.calls k) nonce refl
step_new w (Hush k) nonce other = hushed_new w k (slice_get w.calls k) nonce refl
step_new w (Crash brick) nonce other = same_calls w (step w (Crash brick)) nonce (crashed_calls w brick (history w brick))
step_new w (Sweep brick moment) nonce other = same_calls w (step w (Sweep brick moment)) nonce (swept_calls w brick moment (history w brick))

pub stays_new : (w : WorldValue) (events : List WorldEvent) (nonce : Version) → is_new w nonce ≡ true → list_any (begins nonce) events ≡ false → is_new (after w events) nonce ≡ true
stays_new w [] nonce new none = new
stays_new w (e ∷ events) nonce new none =
    let parts : (begins nonce e ≡ false) × (list_any (begins nonce) events ≡ false) = or_parts (begins nonce e) (list_any (begins nonce) events) none in
    stays_new (step w e) events nonce (step_new w e nonce parts.0 ∙ new) parts.1
