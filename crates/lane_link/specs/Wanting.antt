-- What the active call wants of its link.
use Rattle.std.proofs.Common.{◌≡◌, ◌∙◌, refl, sym, ap, ℕ, ◌&&◌, Bool, true, false, bytes_eq, List, Option, Some, None}
use Rattle.std.specs.Prelude.{slice_get}
use Rattle.std.specs.Option.{option_map, option_and_then}
use Rattle.std.proofs.lemmas.Slice.Eq.{bytes_eq-Decides}
use Rattle.crash_base.specs.declared.numbers.BrickNo.{BrickNo}
use Rattle.ssm_frames.specs.Spelling.{encode_of}
use Rattle.ssm_stub.specs.declared.event.StubNext.{StubNext}
use Rattle.ssm_stub.specs.declared.event.StubNext.TheVariants as next
use Rattle.ssm_world.specs.declared.call.Call.{Call}
use Rattle.ssm_world.specs.Worlds.{ask_of, next_of, same_brick}
use Rattle.ssm_world.proofs.Tests.{both, same_number, number_same}
use Rattle.lane_link.specs.declared.link.LaneLink.{LaneLink}
use Rattle.lane_link.specs.Links.{active_call, sends_to, hears_from, is_ask, wants_to_send, wants_to_hear}

-- The call of this number is active, and wants this next.
pub record IsActive (link : LaneLink) (number : ℕ) (c : Call) (x : StubNext) : Type 0 where
  pub active : link.active ≡ Some number
  pub there : slice_get link.lanes.world.calls number ≡ Some c
  pub wants : next_of c ≡ x

-- The active call wants to send just these bytes to this brick.
pub record WantsSent (link : LaneLink) (to : BrickNo) (bytes : List ℕ) : Type 0 where
  pub number : ℕ
  pub call : Call
  pub is : IsActive link number call (next.Send to)
  pub ask : encode_of (ask_of call) ≡ bytes

-- The active call wants to hear this brick.
pub record WantsHeard (link : LaneLink) (from : BrickNo) : Type 0 where
  pub number : ℕ
  pub call : Call
  pub is : IsActive link number call (next.Receive from)

brick_is : (a b : BrickNo) → same_brick a b ≡ true → a ≡ b
brick_is a b same = (let number : a.0 ≡ b.0 = same_number a.0 b.0 same in λ l. record { 0 = number l })

-- what a test of the active call tells, told of each call that may be active
active_is : (link : LaneLink) (P : Type 0) (T : Option Call → Bool) → T None ≡ false → ((number : ℕ) (c : Call) → link.active ≡ Some number → slice_get link.lanes.world.calls number ≡ Some c → T (Some c) ≡ true → P) → T (active_call link) ≡ true → P
active_is link P T none each holds = go link.active refl holds where
  at : (number : ℕ) → link.active ≡ Some number → (o : Option Call) → slice_get link.lanes.world.calls number ≡ o → T o ≡ true → P
  at number active None there holds = absurd (let e : false ≡ true = sym none ∙ holds in cc)
  at number active (Some c) there holds = each number c active there holds

  go : (active : Option ℕ) → link.active ≡ active → T (option_and_then (λ (call : ℕ). slice_get link.lanes.world.calls call) active) ≡ true → P
  go None active holds = absurd (let e : false ≡ true = sym none ∙ holds in cc)
  go (Some number) active holds = at number active (slice_get link.lanes.world.calls number) refl holds

-- what the test of a send tells
pub sent_wants : (link : LaneLink) (to : BrickNo) (bytes : List ℕ) → wants_to_send link to bytes ≡ true → WantsSent link to bytes
sent_wants link to bytes holds = active_is link (WantsSent link to bytes) (λ (o : Option Call). sends_to to (option_map next_of o) && is_ask bytes o) refl (λ number c active there test. sends number c active there (next_of c) refl test) holds where
  sends : (number : ℕ) (c : Call) → link.active ≡ Some number → slice_get link.lanes.world.calls number ≡ Some c → (x : StubNext) → next_of c ≡ x → (sends_to to (Some x) && bytes_eq (encode_of (ask_of c)) bytes) ≡ true → WantsSent link to bytes
  sends number c active there (next.Send brick) wants test =
      let tests = both (same_brick brick to) (bytes_eq (encode_of (ask_of c)) bytes) test in
      record {
        number = number;
        call = c;
        is = record { active = active; there = there; wants = wants ∙ ap (λ (b : BrickNo). next.Send b) (brick_is brick to tests.0) };
        ask = (bytes_eq-Decides (encode_of (ask_of c)) bytes).0 tests.1;
      }
  sends number c active there (next.Receive brick) wants test = absurd (let e : false ≡ true = test in cc)
  sends number c active there next.Ended wants test = absurd (let e : false ≡ true = test in cc)

-- what the test of a receive tells
pub heard_wants : (link : LaneLink) (from : BrickNo) → wants_to_hear link from ≡ true → WantsHeard link from
heard_wants link from holds = active_is link (WantsHeard link from) (λ (o : Option Call). hears_from from (option_map next_of o)) refl (λ number c active there test. hears number c active there (next_of c) refl test) holds where
  hears : (number : ℕ) (c : Call) → link.active ≡ Some number → slice_get link.lanes.world.calls number ≡ Some c → (x : StubNext) → next_of c ≡ x → hears_from from (Some x) ≡ true → WantsHeard link from
  hears number c active there (next.Receive brick) wants test = record {
    number = number;
    call = c;
    is = record { active = active; there = there; wants = wants ∙ ap (λ (b : BrickNo). next.Receive b) (brick_is brick from test) };
  }
  hears number c active there (next.Send brick) wants test = absurd (let e : false ≡ true = test in cc)
  hears number c active there next.Ended wants test = absurd (let e : false ≡ true = test in cc)

call_is : (link : LaneLink) (number : ℕ) (c : Call) (x : StubNext) → IsActive link number c x → active_call link ≡ Some c
call_is link number c x is = ap (option_and_then (λ (call : ℕ). slice_get link.lanes.world.calls call)) is.active ∙ is.there

-- an active call that wants to send its ask to a brick is tested so
pub wants_sent : (link : LaneLink) (number : ℕ) (c : Call) (to : BrickNo) → IsActive link number c (next.Send to) → wants_to_send link to (encode_of (ask_of c)) ≡ true
wants_sent link number c to is =
    let bytes : List ℕ = encode_of (ask_of c) in
    let T : Option Call → Bool = λ o. sends_to to (option_map next_of o) && is_ask bytes o in
    let one : same_brick to to ≡ true = number_same to.0 in
    let two : bytes_eq bytes bytes ≡ true = (bytes_eq-Decides bytes bytes).1 refl in
    ap T (call_is link number c (next.Send to) is)
    ∙ ap (λ (x : StubNext). sends_to to (Some x) && bytes_eq bytes bytes) is.wants
    ∙ (λ l. one l && two l)

-- an active call that wants to hear a brick is tested so
pub wants_heard : (link : LaneLink) (number : ℕ) (c : Call) (from : BrickNo) → IsActive link number c (next.Receive from) → wants_to_hear link from ≡ true
wants_heard link number c from is =
    let T : Option Call → Bool = λ o. hears_from from (option_map next_of o) in
    ap T (call_is link number c (next.Receive from) is)
    ∙ ap (λ (x : StubNext). hears_from from (Some x)) is.wants
    ∙ number_same from.0
