-- The responses to items, one after the other, and for which items the container was stopped.
use Rattle.std.proofs.Common.{◌≡◌, inl, inr, ◌∙◌, ℕ, zero, suc, List, [], ◌∷◌, ◌++◌, All, Some, ap, false, map, refl, slice_get, subst, sym, take}
use Rattle.std.specs.List.{flat_map}
use Rattle.std.proofs.lemmas.List.Elements.{All-cons, All-head, All-nil, All-tail}
use Rattle.container_core.specs.History.{entries_in}
use Rattle.container_core.specs.declared.history.Event.{Event}
use Rattle.http_wire.specs.declared.taken.Head.{Head}
use Rattle.outcome_items.specs.Answers.{IsResponse}
use Rattle.outcome_items.specs.declared.item.Item.{Item}
use Rattle.shepherd.specs.Answering.{Responds, Response}
use Rattle.connection_server.specs.Heeding.{AtMostLastStopped, NoneStopped, WasFound}

-- what was put out for each, one after the other
pub flat_parts : (responses : List Response) → flat_map (λ (bytes : List ℕ). bytes) (map (λ (r : Response). r.bytes) responses) ≡ flat_map (λ (r : Response). r.bytes) responses
flat_parts [] = refl
flat_parts (r ∷ responses) = ap (λ (l : List ℕ). r.bytes ++ l) (flat_parts responses)

-- what stands in the place of an item is its response, to the request in that place
pub each_responds : (key : List ℕ) (history : List Event) (responses : List Response) (behind : List Head) (n : ℕ) (i : Item) (bytes : List ℕ) → All (Responds key history) responses
    → slice_get (map (λ (r : Response). r.item) responses) n ≡ Some i → slice_get (map (λ (r : Response). r.bytes) responses) n ≡ Some bytes
    → (head : Head) × (slice_get (map (λ (r : Response). r.head) responses ++ behind) n ≡ Some head) × IsResponse key (entries_in (take i.holds.held history)) i head bytes
each_responds key history [] behind n i bytes all item part = absurd (cc)
each_responds key history (r ∷ responses) behind zero i bytes all item part =
    let same : r.item ≡ i = cc in
    let sent : r.bytes ≡ bytes = cc in (
      r.head,
      refl,
      subst (λ (b : List ℕ). IsResponse key (entries_in (take i.holds.held history)) i r.head b) sent
          (subst (λ (j : Item). IsResponse key (entries_in (take j.holds.held history)) j r.head r.bytes) same (All-head (Responds key history) r responses all)),
    )
each_responds key history (r ∷ responses) behind (suc n) i bytes all item part = each_responds key history responses behind n i bytes (All-tail (Responds key history) r responses all) item part

nothing_there : (items : List Item) (last : Item) → [] ≡ items ++ last ∷ [] → ⊥
nothing_there [] last is = absurd (cc)
nothing_there (i ∷ items) last is = absurd (cc)

-- lists with one more each are one list where they are
same_before : (before other : List Item) (last next : Item) → before ++ last ∷ [] ≡ other ++ next ∷ [] → before ≡ other
same_before [] [] last next is = refl
same_before [] (i ∷ other) last next is =
    let rest : [] ≡ other ++ next ∷ [] = cc in
    absurd (nothing_there other next rest)
same_before (i ∷ before) [] last next is =
    let rest : [] ≡ before ++ last ∷ [] = cc in
    absurd (nothing_there before last rest)
same_before (i ∷ before) (j ∷ other) last next is =
    let here : i ≡ j = cc in
    let rest : before ++ last ∷ [] ≡ other ++ next ∷ [] = cc in
    ap (λ (l : List Item). i ∷ l) (same_before before other last next rest) ∙ ap (λ (k : Item). k ∷ other) here

-- what is so of all of a list is so of its first part
all_first : (So : Item → Type 0) (before behind : List Item) → All So (before ++ behind) → All So before
all_first So [] behind all = All-nil So
all_first So (i ∷ before) behind all = All-cons So i before (All-head So i (before ++ behind) all) (all_first So before behind (All-tail So i (before ++ behind) all))

-- where the container was stopped for the last item at most, it was for none before
pub none_before : (history : List Event) (items before : List Item) (last : Item) → AtMostLastStopped history items → items ≡ before ++ last ∷ [] → NoneStopped history before
none_before history items before last (inl none) is =
    all_first (λ (i : Item). WasFound history i.holds false) before (last ∷ []) (subst (λ (l : List Item). NoneStopped history l) is none)
none_before history items before last (inr stopped) is =
    subst (λ (l : List Item). NoneStopped history l) (sym (same_before before stopped.before last stopped.last (sym is ∙ stopped.items_are))) stopped.running
