-- The test of two scopes.
use Rattle.std.proofs.Common.{◌≡◌, ℕ, true, refl, ap, arith}
use Rattle.std.proofs.lemmas.Grind.{common_steps}
use Rattle.std.proofs.lemmas.Bool.{eqb-true}
use Rattle.crash_base.specs.declared.numbers.GroupNo.{GroupNo}
use Rattle.crash_base.specs.declared.scope.Scope.{Scope}
use Rattle.crash_base.specs.declared.scope.Scope.TheVariants.{Group, App}
use Rattle.crash_base.specs.Scope.{holds, same_scope}

pub same_scope-self : (s : Scope) → same_scope s s ≡ true
same_scope-self (Group g) = grind (arith, common_steps)
same_scope-self App = refl

pub same_scope-true : (s r : Scope) → same_scope s r ≡ true → s ≡ r
same_scope-true (Group a) (Group b) same = ap (λ (n : ℕ). Group (let g : GroupNo = record { 0 = n } in g)) (eqb-true a.0 b.0 same)
same_scope-true (Group a) App same = absurd (cc)
same_scope-true App (Group b) same = absurd (cc)
same_scope-true App App same = refl

pub same_scope-holds : (s r : Scope) (g : ℕ) → same_scope s r ≡ true → holds s g ≡ holds r g
same_scope-holds s r g same = ap (λ x. holds x g) (same_scope-true s r same)
