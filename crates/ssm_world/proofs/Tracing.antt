-- A call is what its machine is after all that events told it.
use Rattle.std.proofs.Common.{◌≡◌, ℕ, zero, suc, ◌==◌, ◌-◌, ◌^◌, ◌&&◌, ◌||◌, Bool, true, false, not, IsTrue, if◌then◌else◌, nat_lt, List, [], ◌∷◌, map, Option, Some, None, Result, refl, sym, ap, ◌∙◌, subst, arith}
use Rattle.std.specs.Prelude.{slice_get, slice_set}
use Rattle.std.specs.List.{list_any, cons_option, fold}
use Rattle.std.proofs.lemmas.Bool.Decides.{nat_tests}
use Rattle.crash_base.specs.declared.numbers.BrickNo.{BrickNo}
use Rattle.crash_base.specs.declared.numbers.Moment.{Moment}
use Rattle.session_cookie.specs.declared.cookie.Holder.{Holder}
use Rattle.ssm_frames.specs.declared.frame.Frame.{Frame}
use Rattle.ssm_frames.specs.Requests.{is_request}
use Rattle.brick_store.specs.declared.event.BrickEvent.{BrickEvent}
use Rattle.brick_store.specs.declared.event.BrickEvent.TheVariants as happened
use Rattle.brick_store.specs.Bricks.{reply}
use Rattle.brick_store.specs.History.{incarnation_after}
use Rattle.ssm_stub.specs.declared.ask.Ask.{Ask}
use Rattle.ssm_stub.specs.declared.ear.Stage.TheVariants.{Unasked}
use Rattle.ssm_stub.specs.declared.ear.Outcome.{Outcome}
use Rattle.ssm_stub.specs.declared.ear.Ear.TheVariants.{Open, Heard}
use Rattle.ssm_stub.specs.declared.event.Told.{Told}
use Rattle.ssm_stub.specs.declared.event.Told.TheVariants as told
use Rattle.ssm_stub.specs.declared.event.StubNext.{StubNext}
use Rattle.ssm_stub.specs.declared.event.StubNext.TheVariants as next
use Rattle.ssm_stub.specs.declared.reply.ReadReply.{ReadReply}
use Rattle.ssm_stub.specs.Ears.{ear_after}
use Rattle.ssm_stub.specs.Runs.{Machine, fits, Fits, after as run}
use Rattle.ssm_stub.specs.Hearing.{AllDiffer, EndsIn, OwnAt, ear_machine, numbers, told_to}
use Rattle.ssm_stub.specs.Turns.{none_asked, turn_in_order, wanted}
use Rattle.ssm_stub.specs.Reads.{ReadState, get_lawful, read_start, read_answer, turn_unless, read_machine}
use Rattle.ssm_stub.specs.declared.read_call.ReadRefusal.{ReadRefusal}
use Rattle.ssm_world.specs.declared.call.Call.{Call}
use Rattle.ssm_world.specs.declared.call.Call.TheVariants as call
use Rattle.ssm_world.specs.declared.event.Packet.{Packet}
use Rattle.ssm_world.specs.declared.event.WorldEvent.{WorldEvent}
use Rattle.ssm_world.specs.declared.event.WorldEvent.TheVariants.{Write, Read, Send, Deliver, Hear, Hush, Crash, Sweep}
use Rattle.ssm_world.specs.Worlds.{WorldValue, ask_of, next_of, hear, history, with_history, with_new_call, with_sent, same_brick, are_distinct, may_write, may_read, bricks_of, told_by_send, told_by_hush, told_by_packet, packet_by_send, with_told, sent, came, hushed, brick_after, replied, reached, delivered, crashed, swept, step, after}
use Rattle.ssm_world.specs.Traces.{told_by, told_at, all_told}
use Rattle.ssm_world.specs.Claims.{ReadOrder, HeardAs}
use Rattle.ssm_world.proofs.Lists.{get_front, get_set_same, none_passes}
use Rattle.ssm_stub.proofs.Tests.{both, same_number, number_same}

-- a call after it was told something, if it was
abbrev told_on : Call → Option Told → Call
told_on c None = c
told_on c (Some t) = hear c t

get_set_other : {A : Type 0} (xs : List A) (k : ℕ) (y : A) (i : ℕ) (x : A) → (k == i) ≡ false → slice_get xs i ≡ Some x → slice_get (slice_set xs k y) i ≡ Some x
get_set_other [] k y i x apart is = absurd (cc)
get_set_other (z ∷ xs) zero y zero x apart is = absurd (let same : (0 == 0) ≡ true = number_same 0 in cc)
get_set_other (z ∷ xs) zero y (suc i) x apart is = is
get_set_other (z ∷ xs) (suc k) y zero x apart is = is
get_set_other (z ∷ xs) (suc k) y (suc i) x apart is = get_set_other xs k y i x (grind (arith, nat_tests)) is

-- what becomes of a call where one is told something
told_call : (w : WorldValue) (k : ℕ) (c : Call) (o : Option Told) (place : ℕ) (d : Call) → slice_get w.calls k ≡ Some c → slice_get w.calls place ≡ Some d → slice_get (with_told w k c o).calls place ≡ Some (told_on d (if k == place then o else None))
told_call w k c o place d at_k at_place = go (k == place) refl o
  where
    go : (same : Bool) → (k == place) ≡ same → (p : Option Told) → slice_get (with_told w k c p).calls place ≡ Some (told_on d (if same then p else None))
    go true is None = at_place
    go false is None = at_place
    go false is (Some t) = get_set_other w.calls k (hear c t) place d is at_place
    go true is (Some t) =
        let place_is : k ≡ place = same_number k place is in
        let one : Some c ≡ Some d = sym at_k ∙ ap (slice_get w.calls) place_is ∙ at_place in
        let called : c ≡ d = cc in
        ap (slice_get (slice_set w.calls k (hear c t))) (sym place_is) ∙ get_set_same w.calls k (hear c t) c at_k ∙ ap (λ x. Some (hear x t)) called

-- a call at a place is there, so what is told to a place without one is not told to it
none_told : (w : WorldValue) (k place : ℕ) (d : Call) (o : Option Told) → slice_get w.calls k ≡ None → slice_get w.calls place ≡ Some d → slice_get w.calls place ≡ Some (told_on d (if k == place then o else None))
none_told w k place d o none at_place = go (k == place) refl
  where
    go : (same : Bool) → (k == place) ≡ same → slice_get w.calls place ≡ Some (told_on d (if same then o else None))
    go true is = absurd (
        let place_is : k ≡ place = same_number k place is in
        let one : None ≡ Some d = sym none ∙ ap (slice_get w.calls) place_is ∙ at_place in
        cc)
    go false is = at_place

-- calls stay where a packet is sent, and where a brick goes on
pub sent_calls : (w : WorldValue) (o : Option Packet) → (with_sent w o).calls ≡ w.calls
sent_calls w None = refl
sent_calls w (Some packet) = refl

-- an event tells only what its own next wants
told_next : (w : WorldValue) (place k : ℕ) (c d : Call) (f : StubNext → Option Told) → slice_get w.calls k ≡ Some c → slice_get w.calls place ≡ Some d → (if k == place then f (next_of c) else None) ≡ (if k == place then f (next_of d) else None)
told_next w place k c d f at_k at_place = go (k == place) refl
  where
    go : (same : Bool) → (k == place) ≡ same → (if same then f (next_of c) else None) ≡ (if same then f (next_of d) else None)
    go false is = refl
    go true is =
        let one : Some c ≡ Some d = sym at_k ∙ ap (slice_get w.calls) (same_number k place is) ∙ at_place in
        let called : c ≡ d = cc in
        ap (λ x. f (next_of x)) called

-- what becomes of a call where one is told what it wants
tells : (w w' : WorldValue) (k place : ℕ) (c d : Call) (f : StubNext → Option Told) → w'.calls ≡ (with_told w k c (f (next_of c))).calls → slice_get w.calls k ≡ Some c → slice_get w.calls place ≡ Some d → slice_get w'.calls place ≡ Some (told_on d (if k == place then f (next_of d) else None))
tells w w' k place c d f calls at_k at_place =
    ap (λ cs. slice_get cs place) calls ∙ told_call w k c (f (next_of c)) place d at_k at_place
    ∙ ap (λ o. Some (told_on d o)) (told_next w place k c d f at_k at_place)

sends_call : (w : WorldValue) (k place : ℕ) (silent is_sent : Bool) (o : Option Call) (d : Call) → slice_get w.calls k ≡ o → slice_get w.calls place ≡ Some d
    → slice_get (sent w k silent is_sent o).calls place ≡ Some (told_on d (if k == place then told_by_send silent (next_of d) else None))
sends_call w k place silent is_sent None d at_k at_place = none_told w k place d (told_by_send silent (next_of d)) at_k at_place
sends_call w k place silent is_sent (Some c) d at_k at_place = tells w (sent w k silent is_sent (Some c)) k place c d (told_by_send silent) (sent_calls (with_told w k c (told_by_send silent (next_of c))) (packet_by_send is_sent (ask_of c) (next_of c))) at_k at_place

comes_call : (w : WorldValue) (k place : ℕ) (packet : Option Packet) (o : Option Call) (d : Call) → slice_get w.calls k ≡ o → slice_get w.calls place ≡ Some d
    → slice_get (came w k packet o).calls place ≡ Some (told_on d (if k == place then told_by_packet packet (next_of d) else None))
comes_call w k place packet None d at_k at_place = none_told w k place d (told_by_packet packet (next_of d)) at_k at_place
comes_call w k place packet (Some c) d at_k at_place = tells w (came w k packet (Some c)) k place c d (told_by_packet packet) refl at_k at_place

hushes_call : (w : WorldValue) (k place : ℕ) (o : Option Call) (d : Call) → slice_get w.calls k ≡ o → slice_get w.calls place ≡ Some d
    → slice_get (hushed w k o).calls place ≡ Some (told_on d (if k == place then told_by_hush (next_of d) else None))
hushes_call w k place None d at_k at_place = none_told w k place d (told_by_hush (next_of d)) at_k at_place
hushes_call w k place (Some c) d at_k at_place = tells w (hushed w k (Some c)) k place c d told_by_hush refl at_k at_place

-- the other events tell a call nothing
new_call_keeps : (w : WorldValue) (c : Call) (may : Bool) (place : ℕ) (d : Call) → slice_get w.calls place ≡ Some d → slice_get (if may then with_new_call w c else w).calls place ≡ Some d
new_call_keeps w c true place d there = get_front w.calls (c ∷ []) place d there
new_call_keeps w c false place d there = there

replied_calls : (w : WorldValue) (p : Packet) (h : List BrickEvent) (o : Option Frame) → (replied w p h o).calls ≡ w.calls
replied_calls w p h None = refl
replied_calls w p h (Some frame) = refl

pub delivered_calls : (w : WorldValue) (o : Option Packet) → (delivered w o).calls ≡ w.calls
delivered_calls w None = refl
delivered_calls w (Some p) = go (history w p.brick)
  where
    go : (o : Option (List BrickEvent)) → (reached w p o).calls ≡ w.calls
    go None = refl
    go (Some h) = replied_calls w p h (reply (brick_after p.brick h) p.frame)

pub crashed_calls : (w : WorldValue) (brick : BrickNo) (o : Option (List BrickEvent)) → (crashed w brick o).calls ≡ w.calls
crashed_calls w brick None = refl
crashed_calls w brick (Some h) = go (nat_lt (incarnation_after 1 h) (2 ^ 64 - 1))
  where
    go : (b : Bool) → (if b then with_history w brick (happened.Crash ∷ h) else w).calls ≡ w.calls
    go true = refl
    go false = refl

pub swept_calls : (w : WorldValue) (brick : BrickNo) (moment : Moment) (o : Option (List BrickEvent)) → (swept w brick moment o).calls ≡ w.calls
swept_calls w brick moment None = refl
swept_calls w brick moment (Some h) = refl

-- what becomes of a call at an event
call_step : (w : WorldValue) (e : WorldEvent) (place : ℕ) (d : Call) → slice_get w.calls place ≡ Some d → slice_get (step w e).calls place ≡ Some (told_on d (told_by w place (next_of d) e))
call_step w (Write nonce key value expiry bricks least) place d there = new_call_keeps w _ (may_write w nonce bricks least) place d there
call_step w (Read nonce moment cookie) place d there = new_call_keeps w _ (may_read w nonce cookie.bricks) place d there
call_step w (Send k silent is_sent) place d there = sends_call w k place silent (not silent || is_sent) (slice_get w.calls k) d refl there
call_step w (Deliver packet) place d there = ap (λ cs. slice_get cs place) (delivered_calls w (slice_get w.packets packet)) ∙ there
call_step w (Hear k packet) place d there = comes_call w k place (slice_get w.packets packet) (slice_get w.calls k) d refl there
call_step w (Hush k) place d there = hushes_call w k place (slice_get w.calls k) d refl there
call_step w (Crash brick) place d there = ap (λ cs. slice_get cs place) (crashed_calls w brick (history w brick)) ∙ there
call_step w (Sweep brick moment) place d there = ap (λ cs. slice_get cs place) (swept_calls w brick moment (history w brick)) ∙ there

-- and at all events: it has heard what they told it, in order
pub calls_hear : (w : WorldValue) (place : ℕ) (c : Call) (es : List WorldEvent) → slice_get w.calls place ≡ Some c → slice_get (after w es).calls place ≡ Some (fold hear c (all_told w place es))
calls_hear w place c [] there = there
calls_hear w place c (e ∷ es) there =
    let P : Option Told → Type 0 = λ o. slice_get (after (step w e) es).calls place ≡ Some (fold hear c (cons_option o (all_told (step w e) place es))) in
    subst P (sym (ap (told_at w place e) there)) (go (λ d now. calls_hear (step w e) place d es now) (told_by w place (next_of c) e) (call_step w e place c there))
  where
    go : ((d : Call) → slice_get (step w e).calls place ≡ Some d → slice_get (after (step w e) es).calls place ≡ Some (fold hear d (all_told (step w e) place es)))
        → (o : Option Told) → slice_get (step w e).calls place ≡ Some (told_on c o) → slice_get (after (step w e) es).calls place ≡ Some (fold hear c (cons_option o (all_told (step w e) place es)))
    go on None now = on c now
    go on (Some t) now = on (hear c t) now

-- a call that wants nothing hears nothing
none_either : (b : Bool) (o : Option Told) → o ≡ None → (if b then o else None) ≡ None
none_either true o none = none
none_either false o none = refl

ended_told : (w : WorldValue) (place : ℕ) (e : WorldEvent) → told_by w place next.Ended e ≡ None
ended_told w place (Write nonce key value expiry bricks least) = refl
ended_told w place (Read nonce moment cookie) = refl
ended_told w place (Send k silent is_sent) = none_either (k == place) None refl
ended_told w place (Deliver packet) = refl
ended_told w place (Hear k packet) = none_either (k == place) None refl
ended_told w place (Hush k) = none_either (k == place) None refl
ended_told w place (Crash brick) = refl
ended_told w place (Sweep brick moment) = refl

ended_stays : (w : WorldValue) (place : ℕ) (c : Call) (es : List WorldEvent) → slice_get w.calls place ≡ Some c → next_of c ≡ next.Ended → slice_get (after w es).calls place ≡ Some c
ended_stays w place c [] there ended = there
ended_stays w place c (e ∷ es) there ended =
    let none : told_by w place (next_of c) e ≡ None = ap (λ n. told_by w place n e) ended ∙ ended_told w place e in
    ended_stays (step w e) place c es (call_step w e place c there ∙ ap (λ o. Some (told_on c o)) none) ended

-- so a read that has answered stays as it is
pub answered_read_stays : (w : WorldValue) (place : ℕ) (s : ReadState) (answer : Result (List ℕ) ReadRefusal) (es : List WorldEvent) → slice_get w.calls place ≡ Some (call.Read s) → read_answer s ≡ Some answer → slice_get (after w es).calls place ≡ Some (call.Read s)
answered_read_stays w place s answer es there answers =
    ended_stays w place (call.Read s) es there (ap (λ o. wanted (λ (holder : Holder). holder.brick) (turn_unless o (turn_in_order s.asks))) answers)

-- an event tells a call only what can come of what it wants
pub send_fits : (silent : Bool) (n : StubNext) (t : Told) → told_by_send silent n ≡ Some t → IsTrue (fits n t)
send_fits true (next.Send brick) t is = let same : told.Silent ≡ t = cc in ap (fits (next.Send brick)) (sym same)
send_fits false (next.Send brick) t is = let same : told.Sent ≡ t = cc in ap (fits (next.Send brick)) (sym same)
send_fits silent (next.Receive brick) t is = absurd (cc)
send_fits silent next.Ended t is = absurd (cc)

pub hush_fits : (n : StubNext) (t : Told) → told_by_hush n ≡ Some t → IsTrue (fits n t)
hush_fits (next.Send brick) t is = absurd (cc)
hush_fits (next.Receive brick) t is = let same : told.Silent ≡ t = cc in ap (fits (next.Receive brick)) (sym same)
hush_fits next.Ended t is = absurd (cc)

pub packet_fits : (packet : Option Packet) (n : StubNext) (t : Told) → told_by_packet packet n ≡ Some t → IsTrue (fits n t)
packet_fits packet (next.Send brick) t is = absurd (cc)
packet_fits packet next.Ended t is = absurd (cc)
packet_fits None (next.Receive brick) t is = absurd (cc)
packet_fits (Some p) (next.Receive brick) t is = go (same_brick p.brick brick && not (is_request p.frame)) is
  where
    go : (b : Bool) → (if b then Some (told.Came (Some p.frame)) else None) ≡ Some t → IsTrue (fits (next.Receive brick) t)
    go true e = let same : told.Came (Some p.frame) ≡ t = cc in ap (fits (next.Receive brick)) (sym same)
    go false e = absurd (cc)

if_told : (b : Bool) (o : Option Told) (n : StubNext) (t : Told) → (o ≡ Some t → IsTrue (fits n t)) → (if b then o else None) ≡ Some t → IsTrue (fits n t)
if_told true o n t fit is = fit is
if_told false o n t fit is = absurd (cc)

told_fits : (w : WorldValue) (place : ℕ) (n : StubNext) (e : WorldEvent) (t : Told) → told_by w place n e ≡ Some t → IsTrue (fits n t)
told_fits w place n (Write nonce key value expiry bricks least) t is = absurd (cc)
told_fits w place n (Read nonce moment cookie) t is = absurd (cc)
told_fits w place n (Send k silent is_sent) t is = if_told (k == place) (told_by_send silent n) n t (send_fits silent n t) is
told_fits w place n (Deliver packet) t is = absurd (cc)
told_fits w place n (Hear k packet) t is = if_told (k == place) (told_by_packet (slice_get w.packets packet) n) n t (packet_fits (slice_get w.packets packet) n t) is
told_fits w place n (Hush k) t is = if_told (k == place) (told_by_hush n) n t (hush_fits n t) is
told_fits w place n (Crash brick) t is = absurd (cc)
told_fits w place n (Sweep brick moment) t is = absurd (cc)

-- A call after events is its machine after what they told it, each of which could come of what it wanted.
pub record IsRun {S : Type 0} (m : Machine S) (kind : S → Call) (v : WorldValue) (place : ℕ) (s : S) (events : List Told) : Type 0 where
  pub there : slice_get v.calls place ≡ Some (kind (run m s events))
  pub fitting : Fits m s events

module _ {S : Type 0} (m : Machine S) (kind : S → Call) (nexts : (s : S) → next_of (kind s) ≡ m.next s) (hears : (s : S) (t : Told) → hear (kind s) t ≡ kind (m.hear s t)) where
  -- what is told a call at an event, if anything is, comes before what it is told later
  run_on : (v : WorldValue) (place : ℕ) (s : S) (o : Option Told) (later : List Told) → ((t : Told) → o ≡ Some t → IsTrue (fits (m.next s) t))
      → ((r : S) → told_on (kind s) o ≡ kind r → IsRun m kind v place r later) → IsRun m kind v place s (cons_option o later)
  run_on v place s None later fit on = on s refl
  run_on v place s (Some t) later fit on =
      let rest : IsRun m kind v place (m.hear s t) later = on (m.hear s t) (hears s t) in
      record { there = rest.there; fitting = (fit t refl, rest.fitting) }

  pub call_runs : (w : WorldValue) (place : ℕ) (s : S) (es : List WorldEvent) → slice_get w.calls place ≡ Some (kind s) → IsRun m kind (after w es) place s (all_told w place es)
  call_runs w place s [] there = record { there = there; fitting = tt }
  call_runs w place s (e ∷ es) there =
      let o : Option Told = told_by w place (next_of (kind s)) e in
      let told_is : told_at w place e (slice_get w.calls place) ≡ o = ap (told_at w place e) there in
      let P : Option Told → Type 0 = λ p. IsRun m kind (after (step w e) es) place s (cons_option p (all_told (step w e) place es)) in
      let fit : (t : Told) → o ≡ Some t → IsTrue (fits (m.next s) t) = λ t is.
      let F : StubNext → Type 0 = λ n. IsTrue (fits n t) in
      subst F (nexts s) (told_fits w place (next_of (kind s)) e t is) in
      subst P (sym told_is) (
      run_on (after (step w e) es) place s o (all_told (step w e) place es) fit
      (λ r is. call_runs (step w e) place r es (call_step w e place (kind s) there ∙ ap (λ c. Some c) is)))

-- the same of a read
abbrev pub IsReadRun : WorldValue → ℕ → ReadState → List Told → Type 0
IsReadRun v place s events = IsRun read_machine (λ (r : ReadState). call.Read r) v place s events

pub read_runs : (w : WorldValue) (place : ℕ) (s : ReadState) (es : List WorldEvent) → slice_get w.calls place ≡ Some (call.Read s) → IsReadRun (after w es) place s (all_told w place es)
read_runs w place s es there = call_runs read_machine (λ (r : ReadState). call.Read r) (λ r. refl) (λ r t. refl) w place s es there

-- distinct bricks have different numbers
number_of : (bricks : List BrickNo) (i x : ℕ) → slice_get (map (λ (brick : BrickNo). brick.0) bricks) i ≡ Some x → (b : BrickNo) × (slice_get bricks i ≡ Some b) × (b.0 ≡ x)
number_of [] i x is = absurd (cc)
number_of (b ∷ bricks) zero x is = (b, refl, cc)
number_of (b ∷ bricks) (suc i) x is = number_of bricks i x is

other_number : (brick : BrickNo) (bricks : List BrickNo) → not (list_any (same_brick brick) bricks) ≡ true → (i x : ℕ) → slice_get (map (λ (b : BrickNo). b.0) bricks) i ≡ Some x → brick.0 ≡ x → ⊥
other_number brick bricks none i x at_i is =
    let found : (b : BrickNo) × (slice_get bricks i ≡ Some b) × (b.0 ≡ x) = number_of bricks i x at_i in
    let apart : same_brick brick found.0 ≡ false = none_passes (same_brick brick) bricks i found.0 none found.1 in
    let equal : same_brick brick found.0 ≡ true = ap (λ n. brick.0 == n) (found.2 ∙ sym is) ∙ number_same brick.0 in
    cc

pub bricks_differ : (bricks : List BrickNo) → are_distinct bricks ≡ true → AllDiffer (map (λ (brick : BrickNo). brick.0) bricks)
bricks_differ [] distinct = λ i j x at_i at_j. absurd (cc)
bricks_differ (b ∷ bricks) distinct =
    let parts : (not (list_any (same_brick b) bricks) ≡ true) × (are_distinct bricks ≡ true) = both _ _ distinct in
    λ i j x at_i at_j. go parts.0 (bricks_differ bricks parts.1) i j x at_i at_j
  where
    go : not (list_any (same_brick b) bricks) ≡ true → AllDiffer (map (λ (brick : BrickNo). brick.0) bricks)
        → (i j x : ℕ) → slice_get (map (λ (brick : BrickNo). brick.0) (b ∷ bricks)) i ≡ Some x → slice_get (map (λ (brick : BrickNo). brick.0) (b ∷ bricks)) j ≡ Some x → i ≡ j
    go none later zero zero x at_i at_j = refl
    go none later zero (suc j) x at_i at_j = absurd (other_number b bricks none j x at_j (cc))
    go none later (suc i) zero x at_i at_j = absurd (other_number b bricks none i x at_i (cc))
    go none later (suc i) (suc j) x at_i at_j = ap suc (later i j x at_i at_j)

-- and so have those of holders
holder_numbers : (holders : List Holder) → map (λ (brick : BrickNo). brick.0) (bricks_of holders) ≡ numbers (λ (holder : Holder). holder.brick) (none_asked {W = Holder} {A = ReadReply} holders)
holder_numbers [] = refl
holder_numbers (h ∷ hs) = ap (λ l. h.brick.0 ∷ l) (holder_numbers hs)

distinct_differ : (holders : List Holder) → are_distinct (bricks_of holders) ≡ true → AllDiffer (numbers (λ (holder : Holder). holder.brick) (none_asked {W = Holder} {A = ReadReply} holders))
distinct_differ holders distinct = let P : List ℕ → Type 0 = λ l. AllDiffer l in subst P (holder_numbers holders) (bricks_differ (bricks_of holders) distinct)

-- what the stub's laws say of reads
abbrev pub OwnLaw : Type 0
OwnLaw =
    (events : List Told) (s : ReadState) (i : ℕ) (ask : Ask Holder ReadReply) → AllDiffer (numbers (λ (holder : Holder). holder.brick) s.asks) → Fits read_machine s events → slice_get s.asks i ≡ Some ask
    → OwnAt (λ (holder : Holder). holder.brick) (get_lawful s.nonce s.key s.version s.expiry) (run read_machine s events).asks (told_to read_machine s events) i ask

abbrev pub EndLaw : Type 0
EndLaw =
    (brick : BrickNo) (lawful : Frame → Option ReadReply) (events : List Told) (outcome : Outcome ReadReply)
    → Fits (ear_machine brick lawful) (Open Unasked) events → ear_after lawful events ≡ Heard outcome → EndsIn lawful events outcome

get_none_asked : (holders : List Holder) (i : ℕ) (h : Holder) → slice_get holders i ≡ Some h → slice_get (none_asked {W = Holder} {A = ReadReply} holders) i ≡ Some (record { who = h; ear = Open Unasked })
get_none_asked [] i h is = absurd (cc)
get_none_asked (g ∷ hs) zero h is = let same : g ≡ h = cc in ap (λ x. Some (record { who = x; ear = Open Unasked })) same
get_none_asked (g ∷ hs) (suc i) h is = get_none_asked hs i h is

-- what a read heard of a holder is what events told it of that holder
pub heard_as : OwnLaw → EndLaw → (v : WorldValue) (place : ℕ) (order : ReadOrder) (events : List Told) (r : ReadState) (i : ℕ) (a : Ask Holder ReadReply) (outcome : Outcome ReadReply)
    → IsReadRun v place (read_start order.moment order.nonce order.cookie) events → slice_get v.calls place ≡ Some (call.Read r) → are_distinct (bricks_of order.cookie.bricks) ≡ true
    → slice_get order.cookie.bricks i ≡ Some a.who → slice_get r.asks i ≡ Some a → a.ear ≡ Heard outcome
    → HeardAs order a.who (told_to read_machine (read_start order.moment order.nonce order.cookie) events a.who.brick) outcome
heard_as own ends v place order events r i a outcome runs there distinct at_holder at_ask ear =
    let start : ReadState = read_start order.moment order.nonce order.cookie in
    let ask : Ask Holder ReadReply = record { who = a.who; ear = Open Unasked } in
    let its : OwnAt (λ (holder : Holder). holder.brick) (get_lawful start.nonce start.key start.version start.expiry) (run read_machine start events).asks (told_to read_machine start events) i ask =
    own events start i ask (distinct_differ order.cookie.bricks distinct) runs.fitting (get_none_asked order.cookie.bricks i a.who at_holder) in
    let one : Some (call.Read r) ≡ Some (call.Read (run read_machine start events)) = sym there ∙ runs.there in
    let same : r ≡ run read_machine start events = cc in
    let asks : Some a ≡ Some (record ask { ear = its.end }) = sym at_ask ∙ ap (λ (s : ReadState). slice_get s.asks i) same ∙ its.here in
    let end : its.end ≡ a.ear = (let whole : a ≡ record ask { ear = its.end } = cc in ap (λ (x : Ask Holder ReadReply). x.ear) (sym whole)) in
    ends a.who.brick (get_lawful start.nonce start.key start.version start.expiry a.who) (told_to read_machine start events a.who.brick) outcome its.own.fitting (sym its.own.ends ∙ end ∙ ear)
