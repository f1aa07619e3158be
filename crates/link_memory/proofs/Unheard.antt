-- At its answer a write has heard nothing of a brick without an outcome, and its lane is as asked.
use Rattle.std.proofs.Common.{arith, ◌≡◌, ◌∙◌, ap, sym, refl, subst, ℕ, zero, suc, List, [], ◌∷◌, ◌++◌, length, Option, Some, Result}
use Rattle.std.specs.List.{slice_get}
use Rattle.crash_base.specs.declared.numbers.BrickNo.{BrickNo}
use Rattle.session_cookie.specs.declared.cookie.Cookie.{Cookie}
use Rattle.ssm_frames.specs.declared.frame.Frame.{Frame}
use Rattle.ssm_stub.specs.declared.ask.Ask.{Ask}
use Rattle.ssm_stub.specs.declared.ear.Stage.TheVariants.{Asked}
use Rattle.ssm_stub.specs.declared.ear.Ear.{Ear}
use Rattle.ssm_stub.specs.declared.ear.Ear.TheVariants.{Open}
use Rattle.ssm_stub.specs.declared.event.Told.{Told}
use Rattle.ssm_stub.specs.declared.reply.WriteReply.{WriteReply}
use Rattle.ssm_stub.specs.declared.write_call.WriteRefusal.{WriteRefusal}
use Rattle.ssm_stub.specs.Turns.{none_asked}
use Rattle.ssm_stub.specs.Runs.{Fits, after}
use Rattle.ssm_stub.specs.Writes.{WriteState, write_answer, write_until}
use Rattle.stub_laws.proofs.Begun.{none_begun}
use Rattle.link_memory.specs.Lane.{LaneValue, asked}
use Rattle.link_memory.specs.Leaving.{Taken, Left}

-- no stray came of a brick that was asked and has no outcome
pub none_strayed : (events : List Told) (bricks : List BrickNo) (s end : WriteState) (answer : Result Cookie WriteRefusal) → s.asks ≡ none_asked bricks → Fits write_until s events → end ≡ after write_until s events → write_answer end ≡ Some answer
    → (i strays : ℕ) (a : Ask BrickNo WriteReply) → slice_get end.asks i ≡ Some a → a.ear ≡ Open (Asked strays) → strays ≡ 0
none_strayed events bricks s end answer begins fitting is answers i zero a here ear = refl
none_strayed events bricks s end answer begins fitting is answers i (suc strays) a here ear = absurd (
    let P : WriteState → Type 0 = λ x. slice_get x.asks i ≡ Some a in
    let Q : WriteState → Type 0 = λ x. write_answer x ≡ Some answer in
    none_begun events bricks s answer begins fitting (subst Q is answers) i strays a (subst P is here) ear)

no_frames : (before rest queue : List Frame) → queue ≡ before ++ rest → length before ≡ 0 → rest ≡ queue
no_frames [] rest queue is none = sym is
no_frames (frame ∷ before) rest queue is none = absurd (omega arith)

-- nothing was taken from the queue of a brick of which no stray came
pub all_wait : {A : Type 0} (lawful : Frame → Option A) (ask : List ℕ) (ear : Ear A) (strays : ℕ) (found left : Option LaneValue) (lane : LaneValue) → Left lawful ask ear found left → ear ≡ Open (Asked strays) → strays ≡ 0 → found ≡ Some lane → left ≡ Some (asked ask lane)
all_wait {A} lawful ask ear strays found left lane h ear_is none here =
    let E : Ear A → Type 0 = λ e. Left lawful ask e found left in
    let N : ℕ → Type 0 = λ n. Left lawful ask (Open (Asked n)) found left in
    let F : Option LaneValue → Type 0 = λ o. Left lawful ask (Open (Asked 0)) o left in
    let t : Taken lawful 0 (asked ask lane) left = subst F here (subst N none (subst E ear_is h)) in
    t.leaves ∙ ap (λ (xs : List Frame). Some (record (asked ask lane) { queue = xs })) (no_frames t.before t.rest (asked ask lane).queue t.queue_is t.so_many)
