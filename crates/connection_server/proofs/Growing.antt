-- A seat grows by its holds.
use Rattle.std.proofs.Common.{◌≡◌, ℕ, zero, suc, ◌+◌, ◌-◌, ◌<◌, ◌≤◌, List, [], ◌∷◌, ◌++◌, length, All, slice_get, option_to_list, Some, false, arith, refl, sym, ap, ◌∙◌, subst, append-nil}
use Rattle.std.proofs.lemmas.List.{append_assoc, length-append}
use Rattle.std.proofs.lemmas.List.Elements.{All-append, All-cons, All-head, All-nil, All-tail, All-weaker}
use Rattle.std.specs.List.{range_with_len}
use mathlib.Core.List.{IsPrefix}
use Rattle.site_locks.specs.Holds.{IsHold}
use Rattle.turn_lock.specs.Seats.{SeatValue, new_places}
use Rattle.connection_server.specs.Seats.{HasAdded, RiseFrom, events_at}

pub prefix_trans : {X : Type 0} (xs ys zs : List X) → IsPrefix xs ys → IsPrefix ys zs → IsPrefix xs zs
prefix_trans xs ys zs a b = (a.0 ++ b.0, sym (append_assoc xs a.0 b.0) ∙ ap (λ l. l ++ b.0) a.1 ∙ b.1)

pub prefix_length : {X : Type 0} (xs ys : List X) → IsPrefix xs ys → length xs ≤ length ys
prefix_length xs ys p =
    let longer : length ys ≡ length xs + length p.0 = ap length (sym p.1) ∙ length-append xs p.0 in
    omega (arith, longer)

-- what is in a list is in a longer one
get_longer : {X : Type 0} (xs more : List X) (p : ℕ) → p < length xs → slice_get (xs ++ more) p ≡ slice_get xs p
get_longer [] more p h = absurd (omega arith)
get_longer (x ∷ xs) more zero h = refl
get_longer (x ∷ xs) more (suc p) h = get_longer xs more p (omega arith)

-- the events at places stay when the history goes on
events_stay : {X : Type 0} (history more : List X) (places : List ℕ) → All (λ (p : ℕ). p < length history) places → events_at (history ++ more) places ≡ events_at history places
events_stay history more [] within = refl
events_stay {X} history more (p ∷ ps) within =
    ap (λ (o : List X). o ++ events_at (history ++ more) ps) (ap option_to_list (get_longer history more p (All-head (λ (q : ℕ). q < length history) p ps within)))
    ∙ ap (λ (o : List X). option_to_list (slice_get history p) ++ o) (events_stay history more ps (All-tail (λ (q : ℕ). q < length history) p ps within))

events_append : {X : Type 0} (history : List X) (ps qs : List ℕ) → events_at history (ps ++ qs) ≡ events_at history ps ++ events_at history qs
events_append history [] qs = refl
events_append history (p ∷ ps) qs =
    ap (λ o. option_to_list (slice_get history p) ++ o) (events_append history ps qs)
    ∙ sym (append_assoc (option_to_list (slice_get history p)) (events_at history ps) (events_at history qs))

stands_there : {X : Type 0} (history : List X) (a : X) (more : List X) (n : ℕ) → length history ≡ n → slice_get (history ++ a ∷ more) n ≡ Some a
stands_there [] a more zero e = refl
stands_there [] a more (suc n) e = absurd (omega arith)
stands_there (x ∷ xs) a more zero e = absurd (omega arith)
stands_there (x ∷ xs) a more (suc n) e = stands_there xs a more n (omega arith)

-- the events at the places by which a history has grown are those that were added
added_events : {X : Type 0} (history added : List X) (n m : ℕ) → length history ≡ n → length added ≡ m → events_at (history ++ added) (range_with_len n m) ≡ added
added_events history [] n zero e f = refl
added_events history [] n (suc m) e f = absurd (omega arith)
added_events history (a ∷ more) n zero e f = absurd (omega arith)
added_events {X} history (a ∷ more) n (suc m) e f =
    let rest : events_at ((history ++ a ∷ []) ++ more) (range_with_len (n + 1) m) ≡ more =
    added_events (history ++ a ∷ []) more (n + 1) m (omega (arith, length-append history (a ∷ []))) (omega arith) in
    let rest' : events_at (history ++ a ∷ more) (range_with_len (n + 1) m) ≡ more =
    subst (λ (l : List X). events_at l (range_with_len (n + 1) m) ≡ more) (append_assoc history (a ∷ []) more) rest in
    ap (λ o. option_to_list o ++ events_at (history ++ a ∷ more) (range_with_len (n + 1) m)) (stands_there history a more n e) ∙ ap (λ (l : List X). a ∷ l) rest'

range_within : (n m top : ℕ) → n + m ≤ top → All (λ (p : ℕ). p < top) (range_with_len n m)
range_within n zero top h = All-nil (λ (p : ℕ). p < top)
range_within n (suc m) top h = All-cons (λ (p : ℕ). p < top) n (range_with_len (n + 1) m) (omega arith) (range_within (n + 1) m top (omega arith))

-- places that rise from further on rise from here on
rise_weaker : (least more : ℕ) (ps : List ℕ) → least ≤ more → RiseFrom more ps → RiseFrom least ps
rise_weaker least more [] on rise = tt
rise_weaker least more (p ∷ ps) on rise = (omega (arith, on, rise.0), rise.1)

rise_append : (least bound : ℕ) (ps qs : List ℕ) → least ≤ bound → RiseFrom least ps → All (λ (p : ℕ). p < bound) ps → RiseFrom bound qs → RiseFrom least (ps ++ qs)
rise_append least bound [] qs on rise within more = rise_weaker least bound qs on more
rise_append least bound (p ∷ ps) qs on rise within more =
    let here : p < bound = All-head (λ (q : ℕ). q < bound) p ps within in
    (rise.0, rise_append (p + 1) bound ps qs (omega arith) rise.1 (All-tail (λ (q : ℕ). q < bound) p ps within) more)

range_rises : (n m : ℕ) → RiseFrom n (range_with_len n m)
range_rises n zero = tt
range_rises n (suc m) = (omega arith, range_rises (n + 1) m)

-- a seat after a hold
abbrev after_hold : {E : Type 0} → SeatValue E → List E → List E → SeatValue E
after_hold now before after = record now { holds = false; seen = after; own = now.own ++ new_places before after }

grew_on : {E : Type 0} (begun now : SeatValue E) (own before after added : List E) → HasAdded begun now own → IsPrefix now.seen before → after ≡ before ++ added
    → HasAdded begun (after_hold now before after) (own ++ added)
grew_on {E} begun now own before after added g pre is =
    let on : IsPrefix before after = (added, sym is) in
    let all_on : IsPrefix now.seen after = prefix_trans now.seen before after pre on in
    let longer : length now.seen + length all_on.0 ≡ length after = sym (length-append now.seen all_on.0) ∙ ap length all_on.1 in
    let grown : length after ≡ length before + length added = ap length is ∙ length-append before added in
    let old : events_at after g.places ≡ own =
    subst (λ (l : List E). events_at l g.places ≡ own) all_on.1 (events_stay now.seen all_on.0 g.places g.within ∙ g.events) in
    let same : length after - length before ≡ length added = omega arith in
    let new : events_at after (new_places before after) ≡ added =
    subst (λ (k : ℕ). events_at after (range_with_len (length before) k) ≡ added) (sym same)
    (subst (λ (l : List E). events_at l (range_with_len (length before) (length added)) ≡ added) (sym is) (added_events before added (length before) (length added) refl refl)) in
    record {
      lock_is = g.lock_is;
      parts_are = g.parts_are;
      home = refl;
      seen = prefix_trans begun.seen now.seen after g.seen all_on;
      places = g.places ++ new_places before after;
      own = ap (λ l. l ++ new_places before after) g.own ∙ append_assoc begun.own g.places (new_places before after);
      rise = rise_append (length begun.seen) (length now.seen) g.places (new_places before after) (prefix_length begun.seen now.seen g.seen) g.rise g.within
          (rise_weaker (length now.seen) (length before) (new_places before after) (prefix_length now.seen before pre) (range_rises (length before) (length after - length before)));
      within = All-append (λ (p : ℕ). p < length after) g.places (new_places before after)
          (All-weaker (λ (p : ℕ). p < length now.seen) (λ (p : ℕ). p < length after) (λ p h. omega arith) g.places g.within)
          (range_within (length before) (length after - length before) (length after) (omega arith));
      events = events_append after g.places (new_places before after) ∙ ap (λ l. l ++ events_at after (new_places before after)) old ∙ ap (λ l. own ++ l) new;
    }

-- a seat that adds these events in a hold
pub held_on : {E : Type 0} (begun now next : SeatValue E) (own before after added : List E) → HasAdded begun now own → IsHold now next before after → after ≡ before ++ added → HasAdded begun next (own ++ added)
held_on {E} begun now next own before after added g hold is =
    subst (λ (s : SeatValue E). HasAdded begun s (own ++ added)) (sym hold.seat) (grew_on begun now own before after added g hold.begun is)

-- a seat that adds nothing in a hold
pub held_still : {E : Type 0} (begun now next : SeatValue E) (own before after : List E) → HasAdded begun now own → IsHold now next before after → after ≡ before → HasAdded begun next own
held_still {E} begun now next own before after g hold same =
    subst (λ (xs : List E). HasAdded begun next xs) (append-nil own) (held_on begun now next own before after [] g hold (same ∙ sym (append-nil before)))

-- a seat that has done nothing
pub added_none : {E : Type 0} (s : SeatValue E) → s.holds ≡ false → HasAdded s s []
added_none s home = record {
  lock_is = refl;
  parts_are = refl;
  home = home;
  seen = ([], append-nil s.seen);
  places = [];
  own = sym (append-nil s.own);
  rise = tt;
  within = All-nil (λ (p : ℕ). p < length s.seen);
  events = refl;
}

-- what a hold leaves of its seat
pub held_seen : {E : Type 0} (now next : SeatValue E) (before after : List E) → IsHold now next before after → next.seen ≡ after
held_seen {E} now next before after hold = ap (λ (s : SeatValue E). s.seen) hold.seat

pub held_lock : {E : Type 0} (now next : SeatValue E) (before after : List E) → IsHold now next before after → next.lock ≡ now.lock
held_lock {E} now next before after hold = ap (λ (s : SeatValue E). s.lock) hold.seat

pub held_home : {E : Type 0} (now next : SeatValue E) (before after : List E) → IsHold now next before after → next.holds ≡ false
held_home {E} now next before after hold = ap (λ (s : SeatValue E). s.holds) hold.seat
