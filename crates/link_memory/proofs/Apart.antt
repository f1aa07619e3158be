-- Asks for bricks that are distinct.
use Rattle.std.proofs.Common.{◌≡◌, ◌≢◌, ◌∙◌, ap, sym, refl, ℕ, zero, suc, All, List, [], ◌∷◌, Option, Some, None, slice_get}
use Rattle.std.specs.Option.{option_map}
use Rattle.std.proofs.lemmas.List.Elements.{All-nil, All-cons, All-head, All-tail}
use Rattle.std.proofs.lemmas.Option.{slice_get-map}
use Rattle.crash_base.specs.declared.numbers.BrickNo.{BrickNo}
use Rattle.session_cookie.specs.declared.cookie.Holder.{Holder}
use Rattle.session_cookie.specs.Cookie.{AreDistinct}
use Rattle.send_windows.specs.declared.pass.Pass.{Pass}
use Rattle.send_windows.specs.Passes.{HaveDistinctBricks}
use Rattle.ssm_stub.specs.declared.ask.Ask.{Ask}
use Rattle.ssm_stub.specs.declared.ear.Stage.TheVariants.{Unasked}
use Rattle.ssm_stub.specs.declared.ear.Ear.TheVariants.{Open}
use Rattle.ssm_stub.specs.Ends.{bricks_of}
use Rattle.ssm_stub.specs.Turns.{none_asked}
use Rattle.link_memory.proofs.Asking.{Distinct}

-- no two places hold the same brick
abbrev pub Apart : {W : Type 0} → (W → BrickNo) → List W → Type 0
Apart {W} brick_of whos = (i j : ℕ) (v w : W) → slice_get whos i ≡ Some v → slice_get whos j ≡ Some w → (brick_of v).0 ≡ (brick_of w).0 → i ≡ j

elsewhere : {X : Type 0} (number : X → ℕ) (n : ℕ) (xs : List X) → All (λ x. n ≢ number x) xs → (i : ℕ) (x : X) → slice_get xs i ≡ Some x → n ≡ number x → ⊥
elsewhere number n [] all zero x h e = absurd cc
elsewhere number n [] all (suc i) x h e = absurd cc
elsewhere number n (y ∷ ys) all zero x h e = All-head (λ z. n ≢ number z) y ys all (let same : y ≡ x = cc in e ∙ sym (ap number same))
elsewhere number n (y ∷ ys) all (suc i) x h e = elsewhere number n ys (All-tail (λ z. n ≢ number z) y ys all) i x h e

one_more : {W : Type 0} (brick_of : W → BrickNo) (who : W) (whos : List W) → All (λ w. (brick_of who).0 ≢ (brick_of w).0) whos → Apart brick_of whos → (i j : ℕ) (v w : W) → slice_get (who ∷ whos) i ≡ Some v → slice_get (who ∷ whos) j ≡ Some w → (brick_of v).0 ≡ (brick_of w).0 → i ≡ j
one_more brick_of who whos all rest zero zero v w h k e = refl
one_more brick_of who whos all rest zero (suc j) v w h k e = absurd (elsewhere (λ x. (brick_of x).0) (brick_of who).0 whos all j w k (let same : who ≡ v = cc in ap (λ x. (brick_of x).0) same ∙ e))
one_more brick_of who whos all rest (suc i) zero v w h k e = absurd (elsewhere (λ x. (brick_of x).0) (brick_of who).0 whos all i v h (let same : who ≡ w = cc in ap (λ x. (brick_of x).0) same ∙ sym e))
one_more brick_of who whos all rest (suc i) (suc j) v w h k e = ap suc (rest i j v w h k e)

nowhere : {X : Type 0} (i : ℕ) (x : X) → slice_get [] i ≡ Some x → ⊥
nowhere zero x h = cc
nowhere (suc i) x h = cc

to_bricks : (passes : List Pass) (number : ℕ) → All (λ (other : Pass). number ≢ other.brick.0) passes → All (λ (brick : BrickNo). number ≢ brick.0) (bricks_of passes)
to_bricks [] number all = All-nil (λ (brick : BrickNo). number ≢ brick.0)
to_bricks (pass ∷ passes) number all = All-cons (λ (brick : BrickNo). number ≢ brick.0) pass.brick (bricks_of passes) (All-head (λ (other : Pass). number ≢ other.brick.0) pass passes all) (to_bricks passes number (All-tail (λ (other : Pass). number ≢ other.brick.0) pass passes all))

-- the bricks of passes that are taken together
pub passes_apart : (passes : List Pass) → HaveDistinctBricks passes → Apart (λ brick. brick) (bricks_of passes)
passes_apart [] h = λ i j v w here there e. absurd (nowhere i v here)
passes_apart (pass ∷ passes) (first, rest) = one_more (λ (brick : BrickNo). brick) pass.brick (bricks_of passes) (to_bricks passes pass.brick.0 first) (passes_apart passes rest)

-- the bricks of a cookie
pub holders_apart : (holders : List Holder) → AreDistinct holders → Apart (λ holder. holder.brick) holders
holders_apart [] h = λ i j v w here there e. absurd (nowhere i v here)
holders_apart (holder ∷ holders) (first, rest) = one_more (λ (h : Holder). h.brick) holder holders first (holders_apart holders rest)

-- The one that is asked at a place.
record Who {W A : Type 0} (found : Option W) (a : Ask W A) : Type 0 where
  who : W
  here : found ≡ Some who
  same : who ≡ a.who

who_at : {W A : Type 0} (found : Option W) (a : Ask W A) → option_map (λ who. record { who = who; ear = Open Unasked }) found ≡ Some a → Who found a
who_at None a h = absurd cc
who_at {W} {A} (Some who) a h = (let e : record { who = who; ear = Open Unasked } ≡ a = cc in record { who = who; here = refl; same = ap (λ (x : Ask W A). x.who) e })

-- and so the asks of which nothing was sent
pub none_distinct : {W : Type 0} (A : Type 0) (brick_of : W → BrickNo) (whos : List W) → Apart brick_of whos → Distinct {W = W} {A = A} brick_of (none_asked whos)
none_distinct {W} A brick_of whos apart i j a b here there e =
    let at : (n : ℕ) (x : Ask W A) → slice_get (none_asked whos) n ≡ Some x → Who (slice_get whos n) x = λ n x h. who_at (slice_get whos n) x (sym (slice_get-map (λ (who : W). record { who = who; ear = Open Unasked }) whos n) ∙ h) in
    let x = at i a here in
    let y = at j b there in
    apart i j x.who y.who x.here y.here (ap (λ w. (brick_of w).0) x.same ∙ (e ∙ sym (ap (λ w. (brick_of w).0) y.same)))
