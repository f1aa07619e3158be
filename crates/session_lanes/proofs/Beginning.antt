-- Calls that begin, and to what end they go on.
use Rattle.std.proofs.Common.{◌≡◌, ◌≢◌, ◌≤◌, ◌&&◌, ◌||◌, nat_le, not, Bool, true, false, All, ℕ, List, [], ◌∷◌, length, map, Some, refl, sym, ap, subst, ◌∙◌, arith}
use Rattle.std.specs.Prelude.{slice_get}
use Rattle.std.specs.List.{list_any}
use Rattle.std.proofs.lemmas.Bool.Decides.{nat_tests}
use Rattle.std.proofs.lemmas.List.{length-map}
use Rattle.std.proofs.lemmas.List.Elements.{All-head, All-tail}
use Rattle.crash_base.specs.declared.numbers.BrickNo.{BrickNo}
use Rattle.crash_base.specs.declared.numbers.Version.{Version}
use Rattle.session_cookie.specs.Cookie.{AreDistinct, AreHolders}
use Rattle.session_cookie.specs.declared.cookie.Holder.{Holder}
use Rattle.session_cookie.specs.declared.cookie.TheConstants.{MAX_HOLDERS}
use Rattle.send_windows.specs.Passes.{HaveDistinctBricks}
use Rattle.send_windows.specs.Windows.{AreTaken}
use Rattle.send_windows.specs.declared.pass.Pass.{Pass}
use Rattle.ssm_world.specs.declared.call.Call.{Call}
use Rattle.ssm_world.specs.declared.event.WorldEvent.{WorldEvent}
use Rattle.ssm_world.specs.Worlds.{WorldValue, is_new, same_brick, are_distinct, may_be_asked, may_write, may_read, bricks_of, with_new_call, step, IsMade}
use Rattle.ssm_world.proofs.Lists.{get_new}
use Rattle.ssm_world.proofs.Making.{step_made}
use Rattle.ssm_world.proofs.Tests.{number_other}
use Rattle.session_lanes.specs.Sound.{LanesAreOf}
use Rattle.session_lanes.specs.Lanes.{LanesState, after_event, gone_on}
use Rattle.session_lanes.proofs.Ending.{Gone, goes_on}
use Rattle.session_lanes.proofs.LanesStay.{lanes_same}

-- a brick is not among those that differ from it
none_same : {X : Type 0} (of : X → BrickNo) (brick : BrickNo) (xs : List X) → All (λ (x : X). brick.0 ≢ (of x).0) xs → list_any (same_brick brick) (map of xs) ≡ false
none_same {X} of brick [] apart = refl
none_same {X} of brick (x ∷ xs) apart =
    let A : X → Type 0 = λ x. brick.0 ≢ (of x).0 in
    let first : same_brick brick (of x) ≡ false = number_other brick.0 (of x).0 (All-head A x xs apart) in
    let later : list_any (same_brick brick) (map of xs) ≡ false = none_same of brick xs (All-tail A x xs apart) in
    λ l. first l || later l

distinct_passes : (passes : List Pass) → HaveDistinctBricks passes → are_distinct (map (λ (pass : Pass). pass.brick) passes) ≡ true
distinct_passes [] d = refl
distinct_passes (pass ∷ passes) d =
    let none = none_same (λ (p : Pass). p.brick) pass.brick passes d.0 in
    let later = distinct_passes passes d.1 in
    λ l. not (none l) && later l

distinct_holders : (holders : List Holder) → AreDistinct holders → are_distinct (bricks_of holders) ≡ true
distinct_holders [] d = refl
distinct_holders (holder ∷ holders) d =
    let none = none_same (λ (h : Holder). h.brick) holder.brick holders d.0 in
    let later = distinct_holders holders d.1 in
    λ l. not (none l) && later l

at_most_true : (a b : ℕ) → a ≤ b → nat_le a b ≡ true
at_most_true a b le = grind (arith, nat_tests)

askable : (bricks : List BrickNo) → 1 ≤ length bricks → length bricks ≤ MAX_HOLDERS → are_distinct bricks ≡ true → may_be_asked bricks ≡ true
askable bricks some few distinct =
    let least = at_most_true 1 (length bricks) some in
    let most = at_most_true (length bricks) MAX_HOLDERS few in
    λ l. (least l && most l) && distinct l

and_true : (b : Bool) → (b && true) ≡ b
and_true true = refl
and_true false = refl

-- a write with passes that were taken may begin where its nonce is new
pub may_begin_write : (w : WorldValue) (nonce : Version) (passes : List Pass) (least most : ℕ) → is_new w nonce ≡ true → 1 ≤ least → most ≤ MAX_HOLDERS → AreTaken least most passes → may_write w nonce (map (λ (pass : Pass). pass.brick) passes) least ≡ true
may_begin_write w nonce passes least most new some few taken =
    let bricks : List BrickNo = map (λ (pass : Pass). pass.brick) passes in
    let as_many : length bricks ≡ length passes = length-map passes (λ (pass : Pass). pass.brick) in
    let asks : may_be_asked bricks ≡ true = askable bricks (omega (arith, as_many, some, taken.enough)) (omega (arith, as_many, few, taken.most)) (distinct_passes passes taken.distinct) in
    let one = at_most_true 1 least some in
    let enough = at_most_true least (length bricks) (omega (arith, as_many, taken.enough)) in
    λ l. (new l && asks l) && (one l && enough l)

-- a read may begin just where its nonce is new
pub may_begin_read : (w : WorldValue) (nonce : Version) (holders : List Holder) → AreHolders holders → may_read w nonce holders ≡ is_new w nonce
may_begin_read w nonce holders are =
    let as_many : length (bricks_of holders) ≡ length holders = length-map holders (λ (h : Holder). h.brick) in
    let asks : may_be_asked (bricks_of holders) ≡ true = askable (bricks_of holders) (omega (arith, as_many, are.0)) (omega (arith, as_many, are.1)) (distinct_holders holders are.2) in
    (λ l. is_new w nonce && asks l) ∙ and_true (is_new w nonce)

-- a call that begins goes on to its end
pub begins : (st : LanesState) (event : WorldEvent) (c : Call) → step st.world event ≡ with_new_call st.world c → IsMade st.world → LanesAreOf st → Gone (after_event st event) (length st.world.calls) c (gone_on (after_event st event) (length st.world.calls))
begins st event c is made lanes =
    let n : ℕ = length st.world.calls in
    let there : slice_get (step st.world event).calls n ≡ Some c = ap (λ (w : WorldValue). slice_get w.calls n) is ∙ get_new st.world.calls c in
    let L : WorldValue → Type 0 = λ w. LanesAreOf (record st { world = w }) in
    goes_on (after_event st event) n c (step_made st.world event made) (subst L (sym is) (lanes_same st (with_new_call st.world c) refl (λ i p is. is) lanes)) there
