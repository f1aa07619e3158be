-- Numbers that differ stand at different places.
use Rattle.std.proofs.Common.{◌≡◌, ◌≢◌, ◌∙◌, ap, sym, refl, ℕ, zero, suc, All, List, [], ◌∷◌, map, Some, slice_get}
use Rattle.std.proofs.lemmas.List.Elements.{All-head, All-tail}
use Rattle.crash_base.specs.declared.numbers.BrickNo.{BrickNo}
use Rattle.session_cookie.specs.declared.cookie.Holder.{Holder}
use Rattle.session_cookie.specs.Cookie.{AreDistinct}
use Rattle.send_windows.specs.declared.pass.Pass.{Pass}
use Rattle.send_windows.specs.Passes.{HaveDistinctBricks}
use Rattle.ssm_stub.specs.Ends.{bricks_of}
use Rattle.ssm_stub.specs.Hearing.{AllDiffer}
use Rattle.ssm_stub.proofs.ByEvents.{map_map}

apart : {X : Type 0} (number : X → ℕ) (n : ℕ) (xs : List X) → All (λ x. n ≢ number x) xs → (i y : ℕ) → slice_get (map number xs) i ≡ Some y → n ≡ y → ⊥
apart number n [] all zero y h e = absurd cc
apart number n [] all (suc i) y h e = absurd cc
apart number n (x ∷ xs) all zero y h e = All-head (λ z. n ≢ number z) x xs all (let same : number x ≡ y = cc in e ∙ sym same)
apart number n (x ∷ xs) all (suc i) y h e = apart number n xs (All-tail (λ z. n ≢ number z) x xs all) i y h e

differ_more : (n : ℕ) (ns : List ℕ) → ((i y : ℕ) → slice_get ns i ≡ Some y → n ≡ y → ⊥) → AllDiffer ns → (i j y : ℕ) → slice_get (n ∷ ns) i ≡ Some y → slice_get (n ∷ ns) j ≡ Some y → i ≡ j
differ_more n ns other all zero zero y h k = refl
differ_more n ns other all zero (suc j) y h k = absurd (other j y k (let same : n ≡ y = cc in same))
differ_more n ns other all (suc i) zero y h k = absurd (other i y h (let same : n ≡ y = cc in same))
differ_more n ns other all (suc i) (suc j) y h k = ap suc (all i j y h k)

nowhere : (i y : ℕ) → slice_get [] i ≡ Some y → ⊥
nowhere zero y h = cc
nowhere (suc i) y h = cc

none_differ : AllDiffer []
none_differ = λ i j y h k. absurd (nowhere i y h)

-- the bricks of passes that are taken together
pub passes-differ : (passes : List Pass) → HaveDistinctBricks passes → AllDiffer (map (λ b. b.0) (bricks_of passes))
passes-differ [] h = none_differ
passes-differ (pass ∷ passes) (first, rest) =
    let number : Pass → ℕ = λ p. p.brick.0 in
    let brick : Pass → BrickNo = λ p. p.brick in
    let same : map (λ (b : BrickNo). b.0) (bricks_of passes) ≡ map number passes = map_map (λ (b : BrickNo). b.0) brick passes in
    differ_more pass.brick.0 (map (λ b. b.0) (bricks_of passes)) (λ i y h e. apart number pass.brick.0 passes first i y (ap (λ ns. slice_get ns i) (sym same) ∙ h) e) (passes-differ passes rest)

-- the bricks of a cookie
pub holders-differ : (holders : List Holder) → AreDistinct holders → AllDiffer (map (λ (h : Holder). h.brick.0) holders)
holders-differ [] h = none_differ
holders-differ (holder ∷ holders) (first, rest) =
    differ_more holder.brick.0 (map (λ (h : Holder). h.brick.0) holders) (apart (λ (h : Holder). h.brick.0) holder.brick.0 holders first) (holders-differ holders rest)
