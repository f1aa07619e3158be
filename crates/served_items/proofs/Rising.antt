-- Moments that never fall.
use Rattle.std.proofs.Common.{◌≡◌, ℕ, ◌≤◌, ◌&&◌, nat_le, Bool, true, false, List, [], ◌∷◌, ◌++◌, map, arith, refl, ap, ◌∙◌, subst}
use Rattle.std.proofs.lemmas.Bool.Decides.{nat_tests}
use Rattle.std.proofs.lemmas.List.{append_assoc, map-append}
use Rattle.outcome_items.specs.declared.item.Item.{Item}
use Rattle.request_decisions.specs.Counts.{ascends}

both : (a b : Bool) → (a && b) ≡ true → (a ≡ true) × (b ≡ true)
both true b h = (refl, h)
both false b h = absurd (cc)

and : (a b : Bool) → a ≡ true → b ≡ true → (a && b) ≡ true
and a b x y = cc

le : (n m : ℕ) → nat_le n m ≡ true → n ≤ m
le n m h = grind (arith, nat_tests)

test : (n m : ℕ) → n ≤ m → nat_le n m ≡ true
test n m h = grind (arith, nat_tests)

-- the same moment twice
pub rises_at : (now : ℕ) → ascends (now ∷ now ∷ []) ≡ true
rises_at now = and (nat_le now now) true (test now now (omega arith)) refl

-- those behind some of them
behind : (before rest : List ℕ) → ascends (before ++ rest) ≡ true → ascends rest ≡ true
behind [] rest h = h
behind (n ∷ []) [] h = refl
behind (n ∷ []) (m ∷ rest) h = (both (nat_le n m) (ascends (m ∷ rest)) h).1
behind (n ∷ m ∷ before) rest h = behind (m ∷ before) rest (both (nat_le n m) (ascends (m ∷ (before ++ rest))) h).1

-- one is no more than the next
pub next_up : (before after : List ℕ) (n m : ℕ) → ascends (before ++ n ∷ m ∷ after) ≡ true → n ≤ m
next_up before after n m h = le n m (both (nat_le n m) (ascends (m ∷ after)) (behind before (n ∷ m ∷ after) h)).0

-- one is no more than the last
up_to : (n last : ℕ) (between : List ℕ) → ascends (n ∷ (between ++ last ∷ [])) ≡ true → n ≤ last
up_to n last [] h = le n last (both (nat_le n last) true h).0
up_to n last (m ∷ between) h =
    let parts = both (nat_le n m) (ascends (m ∷ (between ++ last ∷ []))) h in
    let first : n ≤ m = le n m parts.0 in
    let rest : m ≤ last = up_to m last between parts.1 in
    omega (arith, first, rest)

pub last_up : (before between : List ℕ) (n last : ℕ) → ascends (before ++ n ∷ (between ++ last ∷ [])) ≡ true → n ≤ last
last_up before between n last h = up_to n last between (behind before (n ∷ (between ++ last ∷ [])) h)

-- the last one may be later
pub rises_to : (moments : List ℕ) (latest later : ℕ) → latest ≤ later → ascends (moments ++ latest ∷ []) ≡ true → ascends (moments ++ later ∷ []) ≡ true
rises_to [] latest later less h = refl
rises_to (n ∷ []) latest later less h =
    let first : n ≤ latest = le n latest (both (nat_le n latest) true h).0 in
    and (nat_le n later) true (test n later (omega (arith, first, less))) refl
rises_to (n ∷ m ∷ moments) latest later less h =
    let parts = both (nat_le n m) (ascends (m ∷ (moments ++ latest ∷ []))) h in
    and (nat_le n m) (ascends (m ∷ (moments ++ later ∷ []))) parts.0 (rises_to (m ∷ moments) latest later less parts.1)

-- one more comes behind the last one
pub rises_by : (moments : List ℕ) (latest : ℕ) → ascends (moments ++ latest ∷ []) ≡ true → ascends (moments ++ latest ∷ latest ∷ []) ≡ true
rises_by [] latest h = and (nat_le latest latest) true (test latest latest (omega arith)) refl
rises_by (n ∷ []) latest h =
    let parts = both (nat_le n latest) true h in
    and (nat_le n latest) (nat_le latest latest && true) parts.0 (and (nat_le latest latest) true (test latest latest (omega arith)) refl)
rises_by (n ∷ m ∷ moments) latest h =
    let parts = both (nat_le n m) (ascends (m ∷ (moments ++ latest ∷ []))) h in
    and (nat_le n m) (ascends (m ∷ (moments ++ latest ∷ latest ∷ []))) parts.0 (rises_by (m ∷ moments) latest parts.1)

-- the moments of items
abbrev moments : List Item → List ℕ
moments items = map (λ (i : Item). i.moment.0) items

-- those of some items, and of the others behind them
apart : (before others : List Item) (more : List ℕ) → moments (before ++ others) ++ more ≡ moments before ++ (moments others ++ more)
apart before others more = ap (λ ms. ms ++ more) (map-append (λ (i : Item). i.moment.0) before others) ∙ append_assoc (moments before) (moments others) more

-- no item's moment is less than that of the item before
pub items_rise : (earliest : ℕ) (more : List ℕ) (before behind : List Item) (i next : Item) → ascends (earliest ∷ (moments (before ++ i ∷ next ∷ behind) ++ more)) ≡ true → i.moment.0 ≤ next.moment.0
items_rise earliest more before behind i next h =
    next_up (earliest ∷ moments before) (moments behind ++ more) i.moment.0 next.moment.0
    (subst (λ ms. ascends (earliest ∷ ms) ≡ true) (apart before (i ∷ next ∷ behind) more) h)

-- or than the earliest
pub first_rises : (earliest : ℕ) (more : List ℕ) (behind : List Item) (i : Item) → ascends (earliest ∷ (moments (i ∷ behind) ++ more)) ≡ true → earliest ≤ i.moment.0
first_rises earliest more behind i h = next_up [] (moments behind ++ more) earliest i.moment.0 h

-- and none is more than the latest
pub last_rises : (earliest latest : ℕ) (open_moments : List ℕ) (before : List Item) (i : Item) → ascends (earliest ∷ (moments (before ++ i ∷ []) ++ (open_moments ++ latest ∷ []))) ≡ true → i.moment.0 ≤ latest
last_rises earliest latest open_moments before i h =
    last_up (earliest ∷ moments before) open_moments i.moment.0 latest
    (subst (λ ms. ascends (earliest ∷ ms) ≡ true) (apart before (i ∷ []) (open_moments ++ latest ∷ [])) h)
