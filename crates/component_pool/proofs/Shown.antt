-- Instances without their links, and what steps on chains leave of them.
use Rattle.std.proofs.Common.{◌≡◌, ◌≢◌, ℕ, ◌<◌, Bool, true, false, not, cond, ◌==◌, ◌&&◌, List, [], ◌∷◌, get_or, set, is_some, count_by, Option, Some, None, option_map, inl, inr, refl, sym, ap, ◌∙◌, subst, arith}
use Rattle.std.specs.Option.{IsSome}
use Rattle.std.proofs.Math.ListN.{get_or-map}
use Rattle.std.proofs.lemmas.Bool.{cases_eq, false≢true}
use Rattle.std.proofs.lemmas.Bool.Decides.{nat_tests}
use Rattle.std.proofs.lemmas.List.{get_or-set_same, get_or-set_other, get_or-replicate, length-replicate}
use Rattle.std.proofs.lemmas.List.Sums.{sum_by-cons}
use Rattle.crash_base.proofs.Options.{map_some}
use Rattle.crash_base.specs.declared.numbers.ComponentNo.{ComponentNo}
use Rattle.crash_base.specs.declared.scope.TheConstants.{MAX_GROUPS}
use Rattle.slab.specs.Slab.{Slab, get, with_value, Updates}
use Rattle.slab.proofs.SlabLemmas.{Updates-with_value, ContainsKey-within}
use Rattle.component_pool.specs.declared.chains.Linked.{Linked}
use Rattle.component_pool.specs.declared.instance.Instance.{Instance}
use Rattle.component_pool.specs.Chains.{linked_in, shown, IsIdleAt, AreChained, NoneIdle, IsDropped, linked_taken, linked_idle, no_firsts}
use Rattle.component_pool.specs.Instances.{instance_in, idle_of, taken_of, has_taken, left_idle, HasTaken}
use Rattle.component_pool.proofs.Chained.{SameBut, NotIdle, chained_kept, chained_popped, chained_pushed, first_idle}

abbrev bare : Linked → Instance
bare l = l.instance

-- what is shown under a number
pub shown_in : (slots : List (Option Linked)) (n : ℕ) → instance_in (shown slots) n ≡ option_map bare (linked_in slots n)
shown_in slots n = get_or-map (option_map bare) slots n None

pub shown_some : (slots : List (Option Linked)) (n : ℕ) (l : Linked) → linked_in slots n ≡ Some l → instance_in (shown slots) n ≡ Some l.instance
shown_some slots n l is = shown_in slots n ∙ ap (option_map bare) is

pub shown_none : (slots : List (Option Linked)) (n : ℕ) → linked_in slots n ≡ None → instance_in (shown slots) n ≡ None
shown_none slots n is = shown_in slots n ∙ ap (option_map bare) is

pub linked_of : (slots : List (Option Linked)) (n : ℕ) (i : Instance) → instance_in (shown slots) n ≡ Some i → (l : Linked) × (linked_in slots n ≡ Some l) × (l.instance ≡ i)
linked_of slots n i is = map_some bare (linked_in slots n) i (sym (shown_in slots n) ∙ is)

pub shown_others : (old new : List (Option Linked)) (key : ℕ) → SameBut old new key → (m : ℕ) → m ≢ key → instance_in (shown new) m ≡ instance_in (shown old) m
shown_others old new key same m other = shown_in new m ∙ ap (option_map bare) (same m other) ∙ sym (shown_in old m)

pub shown_count : (slots : List (Option Linked)) → count_by is_some (shown slots) ≡ count_by is_some slots
shown_count [] = refl
shown_count (None ∷ rest) = omega (arith, shown_count rest, sum_by-cons (λ o. cond (is_some o) 1 0) None (shown rest), sum_by-cons (λ o. cond (is_some o) 1 0) None rest)
shown_count (Some l ∷ rest) = omega (arith, shown_count rest, sum_by-cons (λ o. cond (is_some o) 1 0) (Some l.instance) (shown rest), sum_by-cons (λ o. cond (is_some o) 1 0) (Some l) rest)

-- no instances
pub chained_new : AreChained [] no_firsts
unfolding no_firsts
chained_new = record {
  many = length-replicate {A = Option ℕ} MAX_GROUPS None;
  known = λ n l is. absurd (cc);
  chains = λ c within. record { keys = []; chain = get_or-replicate {A = Option ℕ} MAX_GROUPS c None None within; whole = λ n l h. absurd (let x = h.found in cc) };
}

-- a write under a key

there : (slab : Slab Linked) (key : ℕ) (l : Linked) → get slab key ≡ Some l → IsSome (get slab key)
there slab key l is = ap is_some is

written : (slab : Slab Linked) (key : ℕ) (l t : Linked) → get slab key ≡ Some l → linked_in (set slab.slots key (Some t)) key ≡ Some t
written slab key l t is = get_or-set_same slab.slots key (Some t) None (ContainsKey-within slab key (there slab key l is))

beside : (slots : List (Option Linked)) (key : ℕ) (o : Option Linked) → SameBut slots (set slots key o) key
beside slots key o m other = get_or-set_other slots key m o None other

-- under a key that has a taken instance, or none, is no idle one
taken_not_idle : (slots : List (Option Linked)) (key : ℕ) (l : Linked) → linked_in slots key ≡ Some l → l.instance.is_taken ≡ true → (c : ℕ) → NotIdle slots c key
taken_not_idle slots key l is taken c m h =
    let one : m ≡ l = let x = h.found in cc in
    false≢true (sym h.idle ∙ ap (λ (x : Linked). x.instance.is_taken) one ∙ taken)

gone_not_idle : (slots : List (Option Linked)) (key : ℕ) → linked_in slots key ≡ None → (c : ℕ) → NotIdle slots c key
gone_not_idle slots key is c m h = let x = h.found in absurd (cc)

-- the first idle instance is taken
pub took : (slab : Slab Linked) (firsts : List (Option ℕ)) (c key : ℕ) (linked t : Linked) → c < MAX_GROUPS → AreChained slab.slots firsts → get_or firsts c None ≡ Some key → get slab key ≡ Some linked → t ≡ linked_taken linked.instance
    → (l : Linked) × IsIdleAt slab.slots c key l × Updates slab (with_value slab key t) key (Some (linked_taken l.instance))
took slab firsts c key linked t within chained first found is =
    let f = first_idle slab.slots firsts c key within chained first in
    let one : linked ≡ f.0 = let x = f.1.found in cc in
    let P : Linked → Type 0 = λ x. Updates slab (with_value slab key t) key (Some x) in
    (f.0, f.1, subst P (is ∙ ap (λ (x : Linked). linked_taken x.instance) one) (Updates-with_value slab key t (there slab key linked found)))

pub took_chained : (slab : Slab Linked) (firsts : List (Option ℕ)) (c key : ℕ) (linked t : Linked) → c < MAX_GROUPS → AreChained slab.slots firsts → get_or firsts c None ≡ Some key → get slab key ≡ Some linked → t ≡ linked_taken linked.instance
    → AreChained (set slab.slots key (Some t)) (set firsts c linked.next)
took_chained slab firsts c key linked t within chained first found is =
    let f = first_idle slab.slots firsts c key within chained first in
    let one : f.0 ≡ linked = let x = f.1.found in cc in
    let P : Linked → Type 0 = λ x. IsIdleAt slab.slots c key x in
    let new = set slab.slots key (Some t) in
    let now : linked_in new key ≡ Some t = written slab key linked t found in
    chained_popped slab.slots new firsts c key linked within chained first (subst P one f.1) (beside slab.slots key (Some t))
    (taken_not_idle new key t now (ap (λ (x : Linked). x.instance.is_taken) is))
    (λ m at. let same : m ≡ t = cc in omega (arith, chained.known key linked found, ap (λ (x : Linked). x.instance.component.0) same, ap (λ (x : Linked). x.instance.component.0) is))

-- the first idle instance is removed
pub removed_first : (old new : Slab Linked) (firsts : List (Option ℕ)) (c key : ℕ) (linked : Linked) → c < MAX_GROUPS → AreChained old.slots firsts → get_or firsts c None ≡ Some key → get old key ≡ Some linked → Updates old new key None
    → ((l : Linked) × IsIdleAt old.slots c key l × Updates old new key None) × AreChained new.slots (set firsts c linked.next)
removed_first old new firsts c key linked within chained first found updates =
    let f = first_idle old.slots firsts c key within chained first in
    let one : f.0 ≡ linked = let x = f.1.found in cc in
    let P : Linked → Type 0 = λ x. IsIdleAt old.slots c key x in (
      (f.0, f.1, updates),
      chained_popped old.slots new.slots firsts c key linked within chained first (subst P one f.1) updates.others (gone_not_idle new.slots key updates.changed) (λ m at. let x = updates.changed in absurd (cc)),
    )

-- there is always one under the first key
pub first_there : (slab : Slab Linked) (firsts : List (Option ℕ)) (c key : ℕ) → c < MAX_GROUPS → AreChained slab.slots firsts → get_or firsts c None ≡ Some key → get slab key ≡ None → ⊥
first_there slab firsts c key within chained first none =
    let f = first_idle slab.slots firsts c key within chained first in
    let x = f.1.found in absurd (cc)

-- a taken instance is idle again
pub put_chained : (slab : Slab Linked) (firsts : List (Option ℕ)) (key : ℕ) (i : Instance) (t : Linked) → i.component.0 < MAX_GROUPS → (l : Linked) × (get slab key ≡ Some l) × (l.instance ≡ i) → i.is_taken ≡ true → AreChained slab.slots firsts
    → t ≡ linked_idle i (get_or firsts i.component.0 None) → AreChained (set slab.slots key (Some t)) (set firsts i.component.0 (Some key))
put_chained slab firsts key i t within here taken chained is =
    let new = set slab.slots key (Some t) in
    chained_pushed slab.slots new firsts i.component.0 key t within chained
    (taken_not_idle slab.slots key here.0 here.1 (ap (λ (x : Instance). x.is_taken) here.2 ∙ taken))
    (record {
      found = written slab key here.0 t here.1;
      own = ap (λ (x : Linked). x.instance.component.0) is;
      idle = ap (λ (x : Linked). x.instance.is_taken) is;
    })
    (ap (λ (x : Linked). x.next) is)
    (beside slab.slots key (Some t))

-- a taken instance is removed
pub removed_chained : (old new : Slab Linked) (firsts : List (Option ℕ)) (key : ℕ) → AreChained old.slots firsts → has_taken (instance_in (shown old.slots) key) ≡ true → Updates old new key None → AreChained new.slots firsts
removed_chained old new firsts key chained taken updates = go (linked_in old.slots key) refl
  where
    go : (o : Option Linked) → linked_in old.slots key ≡ o → AreChained new.slots firsts
    go None is = absurd (false≢true (sym (ap has_taken (shown_none old.slots key is)) ∙ taken))
    go (Some l) is =
        chained_kept old.slots new.slots firsts key chained updates.others
        (taken_not_idle old.slots key l is (sym (ap has_taken (shown_some old.slots key l is)) ∙ taken))
        (gone_not_idle new.slots key updates.changed)
        (λ m at. let x = updates.changed in absurd (cc))

-- a new instance is taken
pub added_chained : (old new : Slab Linked) (firsts : List (Option ℕ)) (key : ℕ) (t : Linked) → AreChained old.slots firsts → get old key ≡ None → t.instance.is_taken ≡ true → t.instance.component.0 < MAX_GROUPS → Updates old new key (Some t) → AreChained new.slots firsts
added_chained old new firsts key t chained vacant taken within updates =
    chained_kept old.slots new.slots firsts key chained updates.others
    (gone_not_idle old.slots key vacant)
    (taken_not_idle new.slots key t updates.changed taken)
    (λ m at. let x = updates.changed in let same : m ≡ t = cc in omega (arith, within, ap (λ (x : Linked). x.instance.component.0) same))

-- what an instance is made of
same_instance : (i : Instance) (c : ComponentNo) (generation : ℕ) → i.component.0 ≡ c.0 → i.generation ≡ generation → i.is_taken ≡ false → i ≡ idle_of c generation
same_instance i c generation own made idle =
    ap (λ (n : ℕ). record { component = record { 0 = n }; generation = i.generation; is_taken = i.is_taken }) own
    ∙ ap (λ (n : ℕ). record { component = c; generation = n; is_taken = i.is_taken }) made
    ∙ ap (λ (b : Bool). record { component = c; generation = generation; is_taken = b }) idle

-- an idle instance of a component was taken
pub taken_idle : (old new : Slab Linked) (c : ComponentNo) (generation key : ℕ) (l : Linked) → IsIdleAt old.slots c.0 key l → Updates old new key (Some (linked_taken l.instance)) → l.instance.generation ≡ generation → HasTaken (shown old.slots) (shown new.slots) c generation key
taken_idle old new c generation key l here updates made =
    let is : l.instance ≡ idle_of c generation = same_instance l.instance c generation here.own made here.idle in
    record {
      before = inl (shown_some old.slots key l here.found ∙ ap (λ (i : Instance). Some i) is);
      after = shown_some new.slots key (linked_taken l.instance) updates.changed ∙ ap (λ (i : Instance). Some (record i { is_taken = true })) is;
      others = shown_others old.slots new.slots key updates.others;
    }

-- where nothing of a component is idle, no idle instance of it is shown
pub none_shown : (slots : List (Option Linked)) (c : ComponentNo) (generation : ℕ) → NoneIdle slots c.0 → (m : ℕ) → instance_in (shown slots) m ≢ Some (idle_of c generation)
none_shown slots c generation none m is =
    let l = linked_of slots m (idle_of c generation) is in
    none m l.0 (record { found = l.1; own = ap (λ (i : Instance). i.component.0) l.2; idle = ap (λ (i : Instance). i.is_taken) l.2 })

-- a new one was taken, where none was idle
pub taken_new : (old new : Slab Linked) (c : ComponentNo) (generation key : ℕ) → NoneIdle old.slots c.0 → get old key ≡ None → Updates old new key (Some (linked_taken (taken_of c generation))) → HasTaken (shown old.slots) (shown new.slots) c generation key
taken_new old new c generation key none vacant updates = record {
  before = inr (shown_none old.slots key vacant, none_shown old.slots c generation none);
  after = shown_some new.slots key (linked_taken (taken_of c generation)) updates.changed;
  others = shown_others old.slots new.slots key updates.others;
}

-- the idle instances of a component are removed one after another
pub dropped_more : (first old new : List (Option Linked)) (c key : ℕ) (l : Linked) → ((n : ℕ) → IsDropped first old c n) → IsIdleAt old c key l → linked_in new key ≡ None → SameBut old new key → (n : ℕ) → IsDropped first new c n
dropped_more first old new c key l dropped here gone same n =
    elim (cases_eq n key) [
      | inl e ↦
          let now : linked_in new n ≡ None = ap (linked_in new) e ∙ gone in
          elim (dropped n) [
            | inl was ↦
                let found : linked_in first n ≡ Some l = sym was ∙ ap (linked_in old) e ∙ here.found in
                inr (l, record { found = found; own = here.own; idle = here.idle }, now)
            | inr before ↦ inr (before.0, before.1, now)
          ]
      | inr other ↦ elim (dropped n) [
        | inl was ↦ inl (same n other ∙ was)
        | inr before ↦ inr (before.0, before.1, same n other ∙ before.2)
      ]
    ]

-- what is shown once the idle instances of a component are gone
pub shown_left : (old new : List (Option Linked)) (c n : ℕ) → IsDropped old new c n → NoneIdle new c → instance_in (shown new) n ≡ left_idle (λ d. (d == c) && true) (instance_in (shown old) n)
shown_left old new c n dropped none =
    ap (λ o. o) (shown_in new n) ∙ go (linked_in old n) refl dropped ∙ ap (left_idle (λ d. (d == c) && true)) (sym (shown_in old n))
  where
    idle_gone : (l : Linked) → l.instance.is_taken ≡ false → l.instance.component.0 ≡ c → left_idle (λ d. (d == c) && true) (Some l.instance) ≡ None
    idle_gone l idle own = cond_by (l.instance.is_taken) (l.instance.component.0) idle own
      where
        cond_by : (b : Bool) (d : ℕ) → b ≡ false → d ≡ c → cond (not b && ((d == c) && true)) None (Some l.instance) ≡ None
        cond_by true d e own' = absurd (cc)
        cond_by false d e own' = grind (arith, nat_tests)

    stays : (l : Linked) → ¬ IsIdleAt new c n l → linked_in new n ≡ Some l → Some l.instance ≡ left_idle (λ d. (d == c) && true) (Some l.instance)
    stays l not-idle is = by (l.instance.is_taken) refl (l.instance.component.0) refl
      where
        by : (b : Bool) → l.instance.is_taken ≡ b → (d : ℕ) → l.instance.component.0 ≡ d → Some l.instance ≡ cond (not b && ((d == c) && true)) None (Some l.instance)
        by true taken d own = refl
        by false idle d own = elim (cases_eq d c) [
          | inl e ↦ absurd (not-idle (record { found = is; own = own ∙ e; idle = idle }))
          | inr other ↦ grind (arith, nat_tests)
        ]

    go : (o : Option Linked) → linked_in old n ≡ o → IsDropped old new c n → option_map bare (linked_in new n) ≡ left_idle (λ d. (d == c) && true) (option_map bare (linked_in old n))
    go None is (inl same) = ap (option_map bare) (same ∙ is) ∙ sym (ap (λ o. left_idle (λ d. (d == c) && true) (option_map bare o)) is)
    go None is (inr gone) = let x = gone.1.found in absurd (cc)
    go (Some l) is (inl same) =
        ap (option_map bare) (same ∙ is) ∙ stays l (none n l) (same ∙ is) ∙ sym (ap (λ o. left_idle (λ d. (d == c) && true) (option_map bare o)) is)
    go (Some l) is (inr gone) =
        let one : gone.0 ≡ l = let x = gone.1.found in cc in
        ap (option_map bare) gone.2
        ∙ sym (idle_gone l (ap (λ (x : Linked). x.instance.is_taken) (sym one) ∙ gone.1.idle) (ap (λ (x : Linked). x.instance.component.0) (sym one) ∙ gone.1.own))
        ∙ sym (ap (λ o. left_idle (λ d. (d == c) && true) (option_map bare o)) is)
