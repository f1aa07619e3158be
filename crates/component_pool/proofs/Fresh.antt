-- No stale instance is idle, call by call.
use Rattle.std.proofs.Common.{◌≡◌, ◌≢◌, ℕ, ◌+◌, ◌<◌, ◌≤◌, nat_lt, Bool, true, false, not, ◌==◌, ◌&&◌, if◌then◌else◌, List, [], Option, Some, None, inl, inr, refl, sym, ap, ◌∙◌, subst, arith}
use Rattle.std.proofs.lemmas.Bool.{cases_eq, false≢true}
use Rattle.std.proofs.lemmas.Bool.Decides.{nat_tests}
use Rattle.crash_base.specs.declared.numbers.ComponentNo.{ComponentNo}
use Rattle.crash_base.specs.declared.numbers.Level.{Level}
use Rattle.crash_base.specs.declared.scope.Scope.{Scope}
use Rattle.crash_base.specs.declared.scope.TheConstants.{MAX_GROUPS}
use Rattle.crash_base.specs.Scope.{holds}
use Rattle.component_pool.specs.declared.component.PooledComponent.{PooledComponent}
use Rattle.component_pool.specs.declared.instance.Instance.{Instance}
use Rattle.component_pool.specs.Cures.{wider}
use Rattle.component_pool.specs.Instances.{instance_in, idle_of, taken_of, left_idle, HasTaken}
use Rattle.component_pool.specs.Pool.{component_in, once_entered, once_rebooted, HaveEntered, HaveRebooted, AreFresh, AreLeftIdle, is_held, given_back}

pub fresh_new : (components : List PooledComponent) → AreFresh components []
fresh_new components = record { known = λ n i is. absurd (cc); present = λ n i is idle. absurd (cc) }

-- an entering changes no generation
same_generation : (old new : List PooledComponent) (c : ℕ) → HaveEntered old new c → (d : ℕ) → d < MAX_GROUPS → (component_in new d).generation ≡ (component_in old d).generation
same_generation old new c entered d within = go (d == c) (entered d within)
  where
    go : (b : Bool) → component_in new d ≡ (if b then once_entered (component_in old d) else component_in old d) → (component_in new d).generation ≡ (component_in old d).generation
    go true is = ap (λ (x : PooledComponent). x.generation) is
    go false is = ap (λ (x : PooledComponent). x.generation) is

pub fresh_taken : (old new : List PooledComponent) (before after : List (Option Instance)) (c : ComponentNo) (generation n : ℕ) → c.0 < MAX_GROUPS → AreFresh old before → HasTaken before after c generation n → HaveEntered old new c.0 → AreFresh new after
fresh_taken old new before after c generation n within fresh taken entered =
    let known : (m : ℕ) (i : Instance) → instance_in after m ≡ Some i → i.component.0 < MAX_GROUPS = λ m i is.
    elim (cases_eq m n) [
      | inl e ↦
          let at : instance_in after m ≡ Some (taken_of c generation) = ap (instance_in after) e ∙ taken.after in
          let same : i ≡ taken_of c generation = cc in
          omega (arith, within, ap (λ (x : Instance). x.component.0) same)
      | inr other ↦ fresh.known m i (sym (taken.others m other) ∙ is)
    ] in
    record {
      known = known;
      present = λ m i is idle. elim (cases_eq m n) [
        | inl e ↦
            let at : instance_in after m ≡ Some (taken_of c generation) = ap (instance_in after) e ∙ taken.after in
            let same : i ≡ taken_of c generation = cc in
            absurd (false≢true (sym idle ∙ ap (λ (x : Instance). x.is_taken) same))
        | inr other ↦
            fresh.present m i (sym (taken.others m other) ∙ is) idle ∙ sym (same_generation old new c.0 entered i.component.0 (known m i is))
      ];
    }

-- what is left where an instance is given back is of a component, and is of its present generation where it is idle
given_fresh : (components : List PooledComponent) (instances : List (Option Instance)) (n : ℕ) (i : Instance) → AreFresh components instances → given_back components (instance_in instances n) ≡ Some i
    → (i.component.0 < MAX_GROUPS) × (i.is_taken ≡ false → i.generation ≡ (component_in components i.component.0).generation)
given_fresh components instances n i fresh is = go (instance_in instances n) refl
  where
    by : (j : Instance) → instance_in instances n ≡ Some j → (taken : Bool) → j.is_taken ≡ taken → (present : Bool) → (j.generation == (component_in components j.component.0).generation) ≡ present
        → (if taken then (if present then Some (idle_of j.component j.generation) else None) else Some j) ≡ Some i
        → (i.component.0 < MAX_GROUPS) × (i.is_taken ≡ false → i.generation ≡ (component_in components i.component.0).generation)
    by j at true t true p left =
        let same : idle_of j.component j.generation ≡ i = cc in
        let P : Instance → Type 0 = λ x. (x.component.0 < MAX_GROUPS) × (x.is_taken ≡ false → x.generation ≡ (component_in components x.component.0).generation) in
        subst P same (fresh.known n j at, λ idle. grind (arith, nat_tests))
    by j at true t false p left = absurd (cc)
    by j at false t present p left =
        let same : j ≡ i = cc in
        let P : Instance → Type 0 = λ x. (x.component.0 < MAX_GROUPS) × (x.is_taken ≡ false → x.generation ≡ (component_in components x.component.0).generation) in
        subst P same (fresh.known n j at, fresh.present n j at)

    go : (o : Option Instance) → instance_in instances n ≡ o → (i.component.0 < MAX_GROUPS) × (i.is_taken ≡ false → i.generation ≡ (component_in components i.component.0).generation)
    go None at = absurd (let x = sym (ap (given_back components) at) ∙ is in cc)
    go (Some j) at = by j at j.is_taken refl (j.generation == (component_in components j.component.0).generation) refl (sym (ap (given_back components) at) ∙ is)

pub fresh_given : (components : List PooledComponent) (before after : List (Option Instance)) (n : ℕ) → AreFresh components before → instance_in after n ≡ given_back components (instance_in before n)
    → ((m : ℕ) → m ≢ n → instance_in after m ≡ instance_in before m) → AreFresh components after
fresh_given components before after n fresh given others = record {
  known = λ m i is. elim (cases_eq m n) [
    | inl e ↦ (given_fresh components before n i fresh (sym given ∙ ap (instance_in after) (sym e) ∙ is)).0
    | inr other ↦ fresh.known m i (sym (others m other) ∙ is)
  ];
  present = λ m i is idle. elim (cases_eq m n) [
    | inl e ↦ (given_fresh components before n i fresh (sym given ∙ ap (instance_in after) (sym e) ∙ is)).1 idle
    | inr other ↦ fresh.present m i (sym (others m other) ∙ is) idle
  ];
}

-- what is left is what was, and is not gone
pub left_was : (gone : ℕ → Bool) (o : Option Instance) (i : Instance) → left_idle gone o ≡ Some i → (o ≡ Some i) × ((i.is_taken ≡ false) → gone i.component.0 ≡ false)
left_was gone None i is = absurd (cc)
left_was gone (Some j) i is = go j.is_taken refl (gone j.component.0) refl is
  where
    go : (taken : Bool) → j.is_taken ≡ taken → (b : Bool) → gone j.component.0 ≡ b → (if not taken && b then None else Some j) ≡ Some i → (Some j ≡ Some i) × ((i.is_taken ≡ false) → gone i.component.0 ≡ false)
    go true t b g e = (e, λ idle. let same : j ≡ i = cc in absurd (false≢true (sym idle ∙ ap (λ (x : Instance). x.is_taken) (sym same) ∙ t)))
    go false t true g e = absurd (cc)
    go false t false g e = (e, λ idle. let same : j ≡ i = cc in ap (λ (x : Instance). gone x.component.0) (sym same) ∙ g)

pub fresh_rebooted : (old new : List PooledComponent) (before after : List (Option Instance)) (scope : Scope) (level : Level) → AreFresh old before → HaveRebooted old new scope level → AreLeftIdle old scope before after → AreFresh new after
fresh_rebooted old new before after scope level fresh rebooted left =
    let known : (n : ℕ) (i : Instance) → instance_in after n ≡ Some i → i.component.0 < MAX_GROUPS = λ n i is.
    fresh.known n i (left_was (is_held old scope) (instance_in before n) i (sym (left n) ∙ is)).0 in
    record {
      known = known;
      present = λ n i is idle.
          let was = left_was (is_held old scope) (instance_in before n) i (sym (left n) ∙ is) in
          let c = i.component.0 in
          let one = component_in old c in
          let more = record one { generation = one.generation + 1; widest = Some (wider one.widest level) } in
          let now : component_in new c ≡ one = rebooted c (known n i is) ∙ ap (λ b. if b then more else one) (was.1 idle) in
          fresh.present n i was.0 idle ∙ ap (λ (x : PooledComponent). x.generation) (sym now);
    }

-- of the components below a number those are rebooted that a scope holds, and their idle instances are gone
pub record RebootedBelow (scope : Scope) (level : Level) (old new : List PooledComponent) (before after : List (Option Instance)) (number : ℕ) : Type 0 where
  pub below : (c : ℕ) → c < number → component_in new c ≡ once_rebooted scope level (component_in old c)
  pub above : (c : ℕ) → number ≤ c → component_in new c ≡ component_in old c
  pub left : (n : ℕ) → instance_in after n ≡ left_idle (λ c. nat_lt c number && is_held old scope c) (instance_in before n)

none_gone : (gone : ℕ → Bool) → ((c : ℕ) → gone c ≡ false) → (o : Option Instance) → o ≡ left_idle gone o
none_gone gone none None = refl
none_gone gone none (Some i) = go i.is_taken (gone i.component.0) (none i.component.0)
  where
    go : (taken b : Bool) → b ≡ false → Some i ≡ (if not taken && b then None else Some i)
    go true b e = refl
    go false true e = absurd (cc)
    go false false e = refl

pub rebooted_none : (scope : Scope) (level : Level) (components : List PooledComponent) (instances : List (Option Instance)) → RebootedBelow scope level components components instances instances 0
rebooted_none scope level components instances = record {
  below = λ c lt. absurd (omega (arith, lt));
  above = λ c le. refl;
  left = λ n. none_gone (λ c. nat_lt c 0 && is_held components scope c) (λ c. grind (arith, nat_tests)) (instance_in instances n);
}

-- what goes by two tests goes by one that is their either
left_twice : (first second both : ℕ → Bool) → ((c : ℕ) → both c ≡ (if first c then true else second c)) → (o : Option Instance) → left_idle second (left_idle first o) ≡ left_idle both o
left_twice first second both either None = refl
left_twice first second both either (Some i) = go i.is_taken refl (first i.component.0) (second i.component.0) refl (both i.component.0) (either i.component.0)
  where
    go : (taken : Bool) → i.is_taken ≡ taken → (a b : Bool) → second i.component.0 ≡ b → (c : Bool) → c ≡ (if a then true else b) → left_idle second (if not taken && a then None else Some i) ≡ (if not taken && c then None else Some i)
    go true t a b s c e = ap (λ taken. if not taken && second i.component.0 then None else Some i) t
    go false t true b s true e = refl
    go false t true b s false e = absurd (cc)
    go false t false true s true e = ap (λ taken. if not taken && second i.component.0 then None else Some i) t ∙ ap (λ g. if g then None else Some i) s
    go false t false true s false e = absurd (cc)
    go false t false false s true e = absurd (cc)
    go false t false false s false e = ap (λ taken. if not taken && second i.component.0 then None else Some i) t ∙ ap (λ g. if g then None else Some i) s

one_number_more : (c number : ℕ) (held held_here : Bool) → (c ≡ number → held ≡ held_here) → (nat_lt c (number + 1) && held) ≡ (if nat_lt c number && held then true else ((c == number) && held_here))
one_number_more c number true true same = grind (arith, nat_tests)
one_number_more c number false false same = grind (arith, nat_tests)
one_number_more c number true false same = elim (cases_eq c number) [ inl e ↦ absurd (false≢true (sym (same e))) | inr other ↦ grind (arith, nat_tests) ]
one_number_more c number false true same = elim (cases_eq c number) [ inl e ↦ absurd (false≢true (same e)) | inr other ↦ grind (arith, nat_tests) ]

-- one component more
pub rebooted_one_more : (scope : Scope) (level : Level) (old now new : List PooledComponent) (before after later : List (Option Instance)) (number : ℕ) (one : PooledComponent) → RebootedBelow scope level old now before after number
    → one ≡ component_in now number
    → ((n : ℕ) → instance_in later n ≡ left_idle (λ d. (d == number) && holds scope one.group.0) (instance_in after n))
    → component_in new number ≡ once_rebooted scope level one → ((c : ℕ) → c ≢ number → component_in new c ≡ component_in now c) → RebootedBelow scope level old new before later (number + 1)
rebooted_one_more scope level old now new before after later number one done is dropped here others =
    let was : one ≡ component_in old number = is ∙ done.above number (omega arith) in
    record {
      below = λ c lt. elim (cases_eq c number) [
        | inl e ↦ ap (component_in new) e ∙ here ∙ ap (once_rebooted scope level) was ∙ ap (λ (n : ℕ). once_rebooted scope level (component_in old n)) (sym e)
        | inr other ↦ others c other ∙ done.below c (omega (arith, lt, other))
      ];
      above = λ c le. others c (λ e. omega (arith, le, e)) ∙ done.above c (omega (arith, le));
      left = λ n.
          dropped n ∙ ap (left_idle (λ d. (d == number) && holds scope one.group.0)) (done.left n)
          ∙ left_twice (λ c. nat_lt c number && is_held old scope c) (λ d. (d == number) && holds scope one.group.0) (λ c. nat_lt c (number + 1) && is_held old scope c)
          (λ c. one_number_more c number (is_held old scope c) (holds scope one.group.0) (λ e. ap (is_held old scope) e ∙ ap (λ (x : PooledComponent). holds scope x.group.0) (sym was)))
          (instance_in before n);
    }

-- at the end all that are held were rebooted, since each instance is of a component
pub rebooted_all : (scope : Scope) (level : Level) (old new : List PooledComponent) (before after : List (Option Instance)) → AreFresh old before → RebootedBelow scope level old new before after MAX_GROUPS → AreLeftIdle old scope before after
rebooted_all scope level old new before after fresh done n = done.left n ∙ go (instance_in before n) refl
  where
    by : (i : Instance) → i.component.0 < MAX_GROUPS → (taken held : Bool) → (if not taken && (nat_lt i.component.0 MAX_GROUPS && held) then None else Some i) ≡ (if not taken && held then None else Some i)
    by i within true held = refl
    by i within false true = grind (arith, nat_tests)
    by i within false false = grind (arith, nat_tests)

    go : (o : Option Instance) → instance_in before n ≡ o → left_idle (λ c. nat_lt c MAX_GROUPS && is_held old scope c) o ≡ left_idle (is_held old scope) o
    go None at = refl
    go (Some i) at = by i (fresh.known n i at) i.is_taken (is_held old scope i.component.0)
