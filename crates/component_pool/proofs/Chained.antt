-- Chains of idle instances, and what changes of one instance leave of them.
use Rattle.std.proofs.Common.{◌≡◌, ◌≢◌, ℕ, ◌<◌, List, [], ◌∷◌, length, get_or, set, Option, Some, None, inl, inr, refl, sym, ap, ◌∙◌, subst, arith}
use Rattle.std.proofs.lemmas.Bool.{cases_eq}
use Rattle.std.proofs.lemmas.List.{get_or-set_same, get_or-set_other, length-set}
use Rattle.crash_base.specs.declared.scope.TheConstants.{MAX_GROUPS}
use Rattle.component_pool.specs.declared.chains.Linked.{Linked}
use Rattle.component_pool.specs.Chains.{linked_in, IsIn, IsIdleAt, IsChain, IsIdleChain, AreChained, NoneIdle}

-- all but one key keep what they had
abbrev pub SameBut : List (Option Linked) → List (Option Linked) → ℕ → Type 0
SameBut old new key = (m : ℕ) → m ≢ key → linked_in new m ≡ linked_in old m

-- what is under a key is no idle instance of a component
abbrev pub NotIdle : List (Option Linked) → ℕ → ℕ → Type 0
NotIdle slots c key = (l : Linked) → ¬ IsIdleAt slots c key l

-- each key of a chain has an idle instance
chained_idle : (slots : List (Option Linked)) (c : ℕ) (first : Option ℕ) (keys : List ℕ) (n : ℕ) → IsChain slots c first keys → IsIn n keys → (l : Linked) × IsIdleAt slots c n l
chained_idle slots c first [] n chain here = absurd here
chained_idle slots c first (k ∷ ks) n chain (inl same) =
    let P : ℕ → Type 0 = λ m. (l : Linked) × IsIdleAt slots c m l in
    subst P (sym same) (chain.1.0, chain.1.1)
chained_idle slots c first (k ∷ ks) n chain (inr later) = chained_idle slots c chain.1.0.next ks n chain.1.2 later

-- what is idle under a key is one thing
same_linked : (slots : List (Option Linked)) (c d key : ℕ) (a b : Linked) → IsIdleAt slots c key a → IsIdleAt slots d key b → a ≡ b
same_linked slots c d key a b ha hb = let x = ha.found in let y = hb.found in cc

-- an idle instance elsewhere is still there
kept_idle : (old new : List (Option Linked)) (c key n : ℕ) (l : Linked) → SameBut old new key → n ≢ key → IsIdleAt old c n l → IsIdleAt new c n l
kept_idle old new c key n l same other h = record { found = same n other ∙ h.found; own = h.own; idle = h.idle }

was_idle : (old new : List (Option Linked)) (c key n : ℕ) (l : Linked) → SameBut old new key → n ≢ key → IsIdleAt new c n l → IsIdleAt old c n l
was_idle old new c key n l same other h = record { found = sym (same n other) ∙ h.found; own = h.own; idle = h.idle }

-- a chain stays where a key that is none of its keys changes
chain_kept : (old new : List (Option Linked)) (c : ℕ) (first : Option ℕ) (keys : List ℕ) (key : ℕ) → IsChain old c first keys → ¬ IsIn key keys → SameBut old new key → IsChain new c first keys
chain_kept old new c first [] key chain out same = chain
chain_kept old new c first (k ∷ ks) key chain out same =
    let l = chain.1.0 in
    let other : k ≢ key = λ e. out (inl (sym e)) in
    (chain.0, (l, kept_idle old new c key k l same other chain.1.1, chain_kept old new c l.next ks key chain.1.2 (λ h. out (inr h)) same), chain.2)

-- a chain stays whole where what changed is and was no idle instance of its component
idle_chain_kept : (old new : List (Option Linked)) (c : ℕ) (first : Option ℕ) (key : ℕ) → IsIdleChain old c first → NotIdle old c key → NotIdle new c key → SameBut old new key → IsIdleChain new c first
idle_chain_kept old new c first key chain before after same = record {
  keys = chain.keys;
  chain = chain_kept old new c first chain.keys key chain.chain (λ h. let was = chained_idle old c first chain.keys key chain.chain h in before was.0 was.1) same;
  whole = λ n l h. elim (cases_eq n key) [
    | inl e ↦ absurd (let P : ℕ → Type 0 = λ m. IsIdleAt new c m l in after l (subst P e h))
    | inr other ↦ chain.whole n l (was_idle old new c key n l same other h)
  ];
}

-- a chain without its first key is whole where that is idle no more
idle_chain_popped : (old new : List (Option Linked)) (c key : ℕ) (l : Linked) → IsIdleChain old c (Some key) → IsIdleAt old c key l → NotIdle new c key → SameBut old new key → IsIdleChain new c l.next
idle_chain_popped old new c key l chain here after same = go chain.keys chain.chain chain.whole
  where
    go : (keys : List ℕ) → IsChain old c (Some key) keys → ((n : ℕ) (m : Linked) → IsIdleAt old c n m → IsIn n keys) → IsIdleChain new c l.next
    go [] links whole = absurd (cc)
    go (k ∷ ks) links whole =
        let is : key ≡ k = let e = links.0 in cc in
        let P : ℕ → Type 0 = λ m. IsIdleAt old c m links.1.0 in
        let one : links.1.0 ≡ l = same_linked old c c key links.1.0 l (subst P (sym is) links.1.1) here in
        let Q : ℕ → Type 0 = λ m. ¬ IsIn m ks in
        let out : ¬ IsIn key ks = subst Q (sym is) links.2 in
        let R : Linked → Type 0 = λ m. IsChain old c m.next ks in
        record {
          keys = ks;
          chain = chain_kept old new c l.next ks key (subst R one links.1.2) out same;
          whole = λ n m h. elim (cases_eq n key) [
            | inl e ↦ absurd (let S : ℕ → Type 0 = λ x. IsIdleAt new c x m in after m (subst S e h))
            | inr other ↦ elim (whole n m (was_idle old new c key n m same other h)) [
              | inl e ↦ absurd (other (e ∙ sym is))
              | inr later ↦ later
            ]
          ];
        }

-- a chain with one key more before it is whole where that is idle now, and links to the first
idle_chain_pushed : (old new : List (Option Linked)) (c : ℕ) (first : Option ℕ) (key : ℕ) (l : Linked) → IsIdleChain old c first → NotIdle old c key → IsIdleAt new c key l → l.next ≡ first → SameBut old new key → IsIdleChain new c (Some key)
idle_chain_pushed old new c first key l chain before here links same =
    let out : ¬ IsIn key chain.keys = λ h. let was = chained_idle old c first chain.keys key chain.chain h in before was.0 was.1 in
    let P : Option ℕ → Type 0 = λ o. IsChain new c o chain.keys in
    record {
      keys = key ∷ chain.keys;
      chain = (refl, (l, here, subst P (sym links) (chain_kept old new c first chain.keys key chain.chain out same)), out);
      whole = λ n m h. elim (cases_eq n key) [
        | inl e ↦ inl e
        | inr other ↦ inr (chain.whole n m (was_idle old new c key n m same other h))
      ];
    }

-- an idle instance of one component is none of another
of_another : (slots : List (Option Linked)) (c d key : ℕ) (l : Linked) → IsIdleAt slots c key l → d ≢ c → NotIdle slots d key
of_another slots c d key l here other m h =
    let one = same_linked slots c d key l m here h in
    other (sym h.own ∙ ap (λ (x : Linked). x.instance.component.0) (sym one) ∙ here.own)

-- what is under each key is of a component, where what changed is
known_kept : (old new : List (Option Linked)) (key : ℕ) → ((n : ℕ) (l : Linked) → linked_in old n ≡ Some l → l.instance.component.0 < MAX_GROUPS) → SameBut old new key
    → ((l : Linked) → linked_in new key ≡ Some l → l.instance.component.0 < MAX_GROUPS) → (n : ℕ) (l : Linked) → linked_in new n ≡ Some l → l.instance.component.0 < MAX_GROUPS
known_kept old new key known same here n l is =
    elim (cases_eq n key) [
      | inl e ↦ here l (ap (linked_in new) (sym e) ∙ is)
      | inr other ↦ known n l (sym (same n other) ∙ is)
    ]

-- chains stay where what changed is and was no idle instance
pub chained_kept : (old new : List (Option Linked)) (firsts : List (Option ℕ)) (key : ℕ) → AreChained old firsts → SameBut old new key → ((c : ℕ) → NotIdle old c key) → ((c : ℕ) → NotIdle new c key)
    → ((l : Linked) → linked_in new key ≡ Some l → l.instance.component.0 < MAX_GROUPS) → AreChained new firsts
chained_kept old new firsts key chained same before after here = record {
  many = chained.many;
  known = known_kept old new key chained.known same here;
  chains = λ c within. idle_chain_kept old new c (get_or firsts c None) key (chained.chains c within) (before c) (after c) same;
}

-- chains stay where the first of one is idle no more
pub chained_popped : (old new : List (Option Linked)) (firsts : List (Option ℕ)) (c key : ℕ) (l : Linked) → c < MAX_GROUPS → AreChained old firsts → get_or firsts c None ≡ Some key → IsIdleAt old c key l
    → SameBut old new key → ((d : ℕ) → NotIdle new d key) → ((m : Linked) → linked_in new key ≡ Some m → m.instance.component.0 < MAX_GROUPS) → AreChained new (set firsts c l.next)
chained_popped old new firsts c key l within chained first here same after there = record {
  many = length-set firsts c l.next ∙ chained.many;
  known = known_kept old new key chained.known same there;
  chains = λ d d-within. elim (cases_eq d c) [
    | inl e ↦
        let P : ℕ → Type 0 = λ x. IsIdleChain new x (get_or (set firsts c l.next) x None) in
        let Q : Option ℕ → Type 0 = λ o. IsIdleChain new c o in
        let R : Option ℕ → Type 0 = λ o. IsIdleChain old c o in
        let inside : c < length firsts = omega (arith, chained.many) in
        subst P (sym e) (subst Q (sym (get_or-set_same firsts c l.next None inside)) (idle_chain_popped old new c key l (subst R first (chained.chains c within)) here (after c) same))
    | inr other ↦
        let Q : Option ℕ → Type 0 = λ o. IsIdleChain new d o in
        subst Q (sym (get_or-set_other firsts c d l.next None other)) (idle_chain_kept old new d (get_or firsts d None) key (chained.chains d d-within) (of_another old c d key l here other) (after d) same)
  ];
}

-- chains stay where what was not idle comes before the first of one
pub chained_pushed : (old new : List (Option Linked)) (firsts : List (Option ℕ)) (c key : ℕ) (l : Linked) → c < MAX_GROUPS → AreChained old firsts → ((d : ℕ) → NotIdle old d key) → IsIdleAt new c key l
    → l.next ≡ get_or firsts c None → SameBut old new key → AreChained new (set firsts c (Some key))
chained_pushed old new firsts c key l within chained before here links same = record {
  many = length-set firsts c (Some key) ∙ chained.many;
  known = known_kept old new key chained.known same (λ m is. let found = here.found in let one : m ≡ l = cc in omega (arith, within, here.own, ap (λ (x : Linked). x.instance.component.0) one));
  chains = λ d d-within. elim (cases_eq d c) [
    | inl e ↦
        let P : ℕ → Type 0 = λ x. IsIdleChain new x (get_or (set firsts c (Some key)) x None) in
        let Q : Option ℕ → Type 0 = λ o. IsIdleChain new c o in
        let inside : c < length firsts = omega (arith, chained.many) in
        subst P (sym e) (subst Q (sym (get_or-set_same firsts c (Some key) None inside)) (idle_chain_pushed old new c (get_or firsts c None) key l (chained.chains c within) (before c) here links same))
    | inr other ↦
        let Q : Option ℕ → Type 0 = λ o. IsIdleChain new d o in
        subst Q (sym (get_or-set_other firsts c d (Some key) None other)) (idle_chain_kept old new d (get_or firsts d None) key (chained.chains d d-within) (before d) (of_another new c d key l here other) same)
  ];
}

-- the first of a chain is idle
pub first_idle : (slots : List (Option Linked)) (firsts : List (Option ℕ)) (c key : ℕ) → c < MAX_GROUPS → AreChained slots firsts → get_or firsts c None ≡ Some key → (l : Linked) × IsIdleAt slots c key l
first_idle slots firsts c key within chained first =
    let chain = chained.chains c within in
    let go : (keys : List ℕ) → IsChain slots c (get_or firsts c None) keys → (l : Linked) × IsIdleAt slots c key l = elim [
      | [] ↦ λ links. absurd (cc)
      | k ∷ ks ↦ λ links.
          let e : k ≡ key = let x = links.0 in cc in
          let P : ℕ → Type 0 = λ m. IsIdleAt slots c m links.1.0 in
          (links.1.0, subst P e links.1.1)
    ] in
    go chain.keys chain.chain

-- where there is no first, nothing is idle
pub none_idle : (slots : List (Option Linked)) (firsts : List (Option ℕ)) (c : ℕ) → c < MAX_GROUPS → AreChained slots firsts → get_or firsts c None ≡ None → NoneIdle slots c
none_idle slots firsts c within chained first n l here =
    let chain = chained.chains c within in
    let go : (keys : List ℕ) → IsChain slots c (get_or firsts c None) keys → IsIn n keys → ⊥ = elim [
      | [] ↦ λ links in-it. in-it
      | k ∷ ks ↦ λ links in-it. let x = links.0 in absurd (cc)
    ] in
    go chain.keys chain.chain (chain.whole n l here)
