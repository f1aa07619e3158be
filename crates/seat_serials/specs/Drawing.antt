-- Serial numbers that are drawn with a seat of words.
use Rattle.std.specs.Prelude.{◌≡◌, ◌≢◌, ◌≤◌, ℕ, All, List, [], ◌∷◌, ◌++◌, length, option_to_list, take, Option, Some, None}
use Rattle.std.proofs.Common.{ap, arith, refl, sym}
use Rattle.std.proofs.lemmas.List.Elements.{All-cons, All-nil, All-pop, All-same}
use Rattle.outside.specs.Serials.{AllDiffer, IsDrawn, Looked}
use Rattle.shared_words.specs.Words.{WordSeatValue}

-- A number may still be drawn with a seat: it is none of those that were, and no less than what the seat saw.
pub record MayBeDrawn (seat : WordSeatValue) (serial : ℕ) : Type 0 where
  pub seen : seat.seen ≤ serial
  pub new : All (λ (drawn : ℕ). drawn ≢ serial) seat.drawn

-- A draw with a seat looked at a number, and drew this one, which is no less and is none of those that were drawn; or
-- it drew none.
abbrev pub SeatLooks : WordSeatValue → ℕ → Option ℕ → WordSeatValue → Type 0
SeatLooks old looked (Some serial) new =
    (old.seen ≤ looked) × (looked ≤ serial) × AllDiffer (old.drawn ++ serial ∷ [])
    × (new ≡ record old { drawn = old.drawn ++ serial ∷ []; seen = serial })
SeatLooks old looked None new = (old.seen ≤ looked) × (new ≡ record old { seen = looked })

-- Numbers were drawn with a seat behind those that it had drawn, and nothing else was done with it.
abbrev pub HasDrawnOn : WordSeatValue → WordSeatValue → Type 0
HasDrawnOn old new =
    (new.words ≡ old.words) × (new.parts ≡ old.parts) × (new.sights ≡ old.sights) × (old.seen ≤ new.seen)
    × (take (length old.drawn) new.drawn ≡ old.drawn)

pub goes_on : (old new : WordSeatValue) (looked : ℕ) (drawn : Option ℕ) → SeatLooks old looked drawn new → Looked MayBeDrawn old looked new
goes_on old new looked (Some serial) looks =
    let seen : new.seen ≡ serial = ap (λ (s : WordSeatValue). s.seen) looks.3 in
    let drawn : new.drawn ≡ old.drawn ++ option_to_list (Some serial) = ap (λ (s : WordSeatValue). s.drawn) looks.3 in
    record {
      past = λ other below may. omega (arith, seen, looks.1, below, may.seen);
      left = λ other may. record {
        seen = omega (arith, seen, looks.0, looks.1, may.seen);
        new = (All-pop (λ (n : ℕ). n ≢ other) new.drawn old.drawn (Some serial) drawn may.new).0;
      };
    }
goes_on old new looked None looks =
    let seen : new.seen ≡ looked = ap (λ (s : WordSeatValue). s.seen) looks.1 in
    let drawn : old.drawn ≡ new.drawn = sym (ap (λ (s : WordSeatValue). s.drawn) looks.1) in
    record {
      past = λ other below may. omega (arith, seen, below, may.seen);
      left = λ other may. record {
        seen = omega (arith, seen, looks.0, may.seen);
        new = All-same (λ (n : ℕ). n ≢ other) old.drawn new.drawn drawn may.new;
      };
    }

-- the last of numbers that all differ is none of those before
pub last_is_new : (before : List ℕ) (n : ℕ) → AllDiffer (before ++ n ∷ []) → All (λ (drawn : ℕ). drawn ≢ n) before
last_is_new [] n differ = All-nil (λ (drawn : ℕ). drawn ≢ n)
last_is_new (m ∷ before) n differ =
    All-cons (λ (drawn : ℕ). drawn ≢ n) m before
    (All-pop (λ (other : ℕ). m ≢ other) (before ++ n ∷ []) before (Some n) refl differ.0).1
    (last_is_new before n differ.1)

pub once : (old new : WordSeatValue) (looked serial : ℕ) → SeatLooks old looked (Some serial) new → IsDrawn MayBeDrawn old new serial
once old new looked serial looks =
    let drawn : new.drawn ≡ old.drawn ++ option_to_list (Some serial) = ap (λ (s : WordSeatValue). s.drawn) looks.3 in
    record {
      was_undrawn = record { seen = omega (arith, looks.0, looks.1); new = last_is_new old.drawn serial looks.2 };
      is_drawn = λ may. (All-pop (λ (n : ℕ). n ≢ serial) new.drawn old.drawn (Some serial) drawn may.new).1 refl;
    }
