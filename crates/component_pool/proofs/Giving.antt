-- Instances that are given back one after another.
use Rattle.std.proofs.Common.{◌≡◌, ◌≢◌, ℕ, Bool, true, false, ◌==◌, ◌||◌, if◌then◌else◌, List, [], ◌∷◌, ◌++◌, Option, Some, None, inl, inr, refl, sym, ap, ◌∙◌, arith}
use Rattle.std.specs.List.{list_any}
use Rattle.std.proofs.lemmas.Bool.{cases_eq}
use Rattle.std.proofs.lemmas.Bool.Decides.{nat_tests}
use Rattle.std.proofs.lemmas.List.Folds.{list_any-append}
use Rattle.component_pool.specs.declared.component.PooledComponent.{PooledComponent}
use Rattle.component_pool.specs.declared.instance.Instance.{Instance}
use Rattle.component_pool.specs.Instances.{instance_in, idle_of}
use Rattle.component_pool.specs.Pool.{AreFresh, AreGivenBack, component_in, given_back}
use Rattle.component_pool.proofs.Fresh.{fresh_given}

-- what is left of an instance that is given back where a test says so
abbrev pub given_if : List PooledComponent → Bool → Option Instance → Option Instance
given_if components b o = if b then given_back components o else o

-- Giving back those that are left comes to what giving back all of them at first would have come to.
pub record GivesRest (components : List PooledComponent) (all left : List ℕ) (before now : List (Option Instance)) : Type 0 where
  pub fresh : AreFresh components now
  pub given : (n : ℕ) → given_if components (list_any (λ m. m == n) left) (instance_in now n) ≡ given_if components (list_any (λ m. m == n) all) (instance_in before n)

-- what was given back stays so when it is given back again
given_twice : (components : List PooledComponent) (o : Option Instance) → given_back components (given_back components o) ≡ given_back components o
given_twice components None = refl
given_twice components (Some i) = go i.is_taken refl (i.generation == (component_in components i.component.0).generation)
  where
    go : (taken : Bool) → i.is_taken ≡ taken → (present : Bool)
        → given_back components (if taken then (if present then Some (idle_of i.component i.generation) else None) else Some i) ≡ (if taken then (if present then Some (idle_of i.component i.generation) else None) else Some i)
    go true t true = refl
    go true t false = refl
    go false t present = ap (λ b. if b then (if i.generation == (component_in components i.component.0).generation then Some (idle_of i.component i.generation) else None) else Some i) t

given_again : (components : List PooledComponent) (b : Bool) (o : Option Instance) → given_if components b (given_back components o) ≡ given_back components o
given_again components true o = given_twice components o
given_again components false o = refl

hit : (was : Bool) (m n : ℕ) → m ≡ n → (was || ((m == n) || false)) ≡ true
hit true m n e = refl
hit false m n e = grind (arith, nat_tests)

miss : (was : Bool) (m n : ℕ) → n ≢ m → (was || ((m == n) || false)) ≡ was
miss true m n e = refl
miss false m n e = grind (arith, nat_tests)

pub gives_one : (components : List PooledComponent) (all left rest : List ℕ) (number : ℕ) (before now after : List (Option Instance)) → left ≡ rest ++ number ∷ [] → GivesRest components all left before now
    → instance_in after number ≡ given_back components (instance_in now number) → ((m : ℕ) → m ≢ number → instance_in after m ≡ instance_in now m) → GivesRest components all rest before after
gives_one components all left rest number before now after is was here others = record {
  fresh = fresh_given components now after number was.fresh here others;
  given = λ n.
      let later = list_any (λ m. m == n) rest in
      let test : list_any (λ m. m == n) left ≡ (later || ((number == n) || false)) =
      ap (list_any (λ m. m == n)) is ∙ list_any-append (λ m. m == n) rest (number ∷ []) in
      elim (cases_eq n number) [
        | inl e ↦
            ap (given_if components later) (ap (instance_in after) e ∙ here ∙ ap (λ k. given_back components (instance_in now k)) (sym e))
            ∙ given_again components later (instance_in now n)
            ∙ ap (λ b. given_if components b (instance_in now n)) (sym (test ∙ hit later number n (sym e)))
            ∙ was.given n
        | inr other ↦
            ap (given_if components later) (others n other)
            ∙ ap (λ b. given_if components b (instance_in now n)) (sym (test ∙ miss later number n other))
            ∙ was.given n
      ];
}

-- none is left
pub gave_all : (components : List PooledComponent) (all left : List ℕ) (before now : List (Option Instance)) → left ≡ [] → GivesRest components all left before now → AreGivenBack components all before now
gave_all components all left before now is was n =
    ap (λ (ks : List ℕ). given_if components (list_any (λ m. m == n) ks) (instance_in now n)) (sym is) ∙ was.given n
