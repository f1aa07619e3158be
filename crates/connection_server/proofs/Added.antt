-- What a seat has added, written out.
use Rattle.std.proofs.Common.{◌≡◌, ℕ, zero, suc, ◌+◌, ◌<◌, ◌≤◌, false, List, [], ◌∷◌, ◌++◌, All, Option, Some, length, map, slice_get, option_to_list, arith, ap, refl, subst, sym}
use Rattle.std.proofs.lemmas.List.Elements.{All-head, All-tail}
use Rattle.turn_lock.specs.Seats.{SeatValue}
use Rattle.connection_server.specs.Seats.{HasAdded, RiseFrom, events_at}

-- places that rise are no less than the first
risen : (least : ℕ) (before behind : List ℕ) (place : ℕ) → RiseFrom least (before ++ place ∷ behind) → least ≤ place
risen least [] behind place rise = rise.0
risen least (p ∷ before) behind place rise =
    let first = rise.0 in
    let rest = risen (p + 1) before behind place rise.1 in
    omega (arith, first, rest)

-- and each is less than the next one
rising : (least : ℕ) (before behind : List ℕ) (place next : ℕ) → RiseFrom least (before ++ place ∷ next ∷ behind) → place < next
rising least [] behind place next rise =
    let on : place + 1 ≤ next = rise.1.0 in
    omega (arith, on)
rising least (p ∷ before) behind place next rise = rising (p + 1) before behind place next rise.1

each_below : (top : ℕ) (before behind : List ℕ) (place : ℕ) → All (λ (p : ℕ). p < top) (before ++ place ∷ behind) → place < top
each_below top [] behind place all = All-head (λ (p : ℕ). p < top) place behind all
each_below top (p ∷ before) behind place all = each_below top before behind place (All-tail (λ (q : ℕ). q < top) p (before ++ place ∷ behind) all)

-- at a place within a list something stands
get_within : {E : Type 0} (xs : List E) (place : ℕ) → place < length xs → (e : E) × (slice_get xs place ≡ Some e)
get_within [] place h = absurd (omega arith)
get_within (x ∷ xs) zero h = (x, refl)
get_within (x ∷ xs) (suc place) h = get_within xs place (omega arith)

-- at each of these places stands its event
each_stands : {E : Type 0} (history : List E) (places : List ℕ) → All (λ (p : ℕ). p < length history) places → map (λ (p : ℕ). slice_get history p) places ≡ map (λ (e : E). Some e) (events_at history places)
each_stands history [] within = refl
each_stands {E} history (p ∷ ps) within =
    let there = get_within history p (All-head (λ (q : ℕ). q < length history) p ps within) in
    let rest = each_stands history ps (All-tail (λ (q : ℕ). q < length history) p ps within) in
    subst (λ (o : Option E). o ∷ map (λ (q : ℕ). slice_get history q) ps ≡ map (λ (e : E). Some e) (option_to_list o ++ events_at history ps)) (sym there.1)
    (ap (λ (l : List (Option E)). Some there.0 ∷ l) rest)

-- A seat has its lock and its parts still, it is at home, and has seen more; it has added these events at places that
-- rise, behind what it had seen.
abbrev pub AddedAt : {E : Type 0} → SeatValue E → SeatValue E → List E → Type 0
AddedAt {E} old new added =
    (new.lock ≡ old.lock) × (new.parts ≡ old.parts) × (new.holds ≡ false)
    × ((since : List E) × (new.seen ≡ old.seen ++ since))
    × ((places : List ℕ) × (new.own ≡ old.own ++ places)
    × ((before behind : List ℕ) (place : ℕ) → places ≡ before ++ place ∷ behind → (length old.seen ≤ place) × (place < length new.seen))
    × ((before behind : List ℕ) (place next : ℕ) → places ≡ before ++ place ∷ next ∷ behind → place < next)
    × (map (λ (p : ℕ). slice_get new.seen p) places ≡ map (λ (e : E). Some e) added))

pub added_at : {E : Type 0} (old new : SeatValue E) (added : List E) → HasAdded old new added → AddedAt old new added
added_at {E} old new added h = (
  h.lock_is,
  h.parts_are,
  h.home,
  (h.seen.0, sym h.seen.1),
  (
    h.places,
    h.own,
    λ before behind place is. (
      risen (length old.seen) before behind place (subst (λ (ps : List ℕ). RiseFrom (length old.seen) ps) is h.rise),
      each_below (length new.seen) before behind place (subst (λ (ps : List ℕ). All (λ (p : ℕ). p < length new.seen) ps) is h.within),
    ),
    λ before behind place next is. rising (length old.seen) before behind place next (subst (λ (ps : List ℕ). RiseFrom (length old.seen) ps) is h.rise),
    subst (λ (l : List E). map (λ (p : ℕ). slice_get new.seen p) h.places ≡ map (λ (e : E). Some e) l) h.events (each_stands new.seen h.places h.within),
  ),
)
