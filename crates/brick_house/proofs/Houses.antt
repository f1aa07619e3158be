-- Seats of a house, a brick at a time.
use Rattle.std.proofs.Common.{arith, ◌≡◌, ◌∙◌, ap, sym, refl, subst, ℕ, zero, suc, ◌+◌, ◌-◌, ◌<◌, ◌≤◌, Bool, true, false, if◌then◌else◌, take, drop, set, get_or, List, [], ◌∷◌, ◌++◌, length, map}
use Rattle.std.proofs.lemmas.List.{length-map, map-append}
use Rattle.crash_base.specs.declared.numbers.BrickNo.{BrickNo}
use Rattle.atomic_table.specs.Seated.{TableId}
use Rattle.ssm_frames.specs.declared.frame.Frame.{Frame}
use Rattle.ssm_frames.specs.declared.frame.Frame.TheVariants.{Put, Get, Sweep, Stored, Found, Absent, BrickFull, Swept}
use Rattle.brick_store.specs.Bricks.{BrickValue, new_brick, answered, put_value}
use Rattle.brick_store.specs.Kept.{with_kept, is_full}
use Rattle.turn_lock.specs.Seats.{LockValue, SeatValue}
use Rattle.brick_house.specs.declared.cell.BrickIdentity.{BrickIdentity}
use Rattle.brick_house.specs.Houses.{identity_of, id_of, lock_of, parts_of, seat_of, seats_from, AreSplit, with_one, with_one_less, IsHome, IsReplySeen, IsReplyOf, HouseValue, HouseSeatsValue}

-- seats of this incarnation, as contracts see them
abbrev pub seen_as : ℕ → List (SeatValue BrickIdentity) → HouseSeatsValue
seen_as incarnation seats = record { house = record { locks = map lock_of seats; incarnation = incarnation }; parts = parts_of seats }

-- the locks of seats are those that they were made of
pub locks_of_seats : (incarnation parts number : ℕ) (locks : List TableId) → map lock_of (seats_from incarnation parts number locks) ≡ locks
locks_of_seats incarnation parts number [] = refl
locks_of_seats incarnation parts number (lock ∷ locks) = ap (λ ls. lock ∷ ls) (locks_of_seats incarnation parts (number + 1) locks)

-- and their parts, where there are some
pub parts_of_seats : (incarnation parts number : ℕ) (locks : List TableId) → 0 < length locks → parts_of (seats_from incarnation parts number locks) ≡ parts
parts_of_seats incarnation parts number [] h = absurd (omega arith)
parts_of_seats incarnation parts number (lock ∷ locks) h = refl

-- seats with a part or more to spare may be split
pub may_split : (incarnation parts number : ℕ) (locks : List TableId) → 1 < parts → AreSplit locks (seats_from incarnation parts number locks)
may_split incarnation parts number [] h = tt
may_split incarnation parts number (lock ∷ locks) h = (refl, refl, h, may_split incarnation parts (number + 1) locks h)

-- what is left of seats is seats with a part less
pub left_of_seats : (incarnation parts number : ℕ) (locks : List TableId) → map with_one_less (seats_from incarnation parts number locks) ≡ seats_from incarnation (parts - 1) number locks
left_of_seats incarnation parts number [] = refl
left_of_seats incarnation parts number (lock ∷ locks) = ap (λ ss. seat_of incarnation (parts - 1) number lock ∷ ss) (left_of_seats incarnation parts (number + 1) locks)

-- what was cut off is seats with one part
pub cut_of_seats : (incarnation parts number : ℕ) (locks : List TableId) → map with_one (seats_from incarnation parts number locks) ≡ seats_from incarnation 1 number locks
cut_of_seats incarnation parts number [] = refl
cut_of_seats incarnation parts number (lock ∷ locks) = ap (λ ss. seat_of incarnation 1 number lock ∷ ss) (cut_of_seats incarnation parts (number + 1) locks)

-- the seats that were split so far, and those behind them
abbrev pub split_to : ℕ → List (SeatValue BrickIdentity) → List (SeatValue BrickIdentity)
split_to at old = map with_one_less (take at old) ++ drop at old

pub split_get : (at : ℕ) (old : List (SeatValue BrickIdentity)) (s : SeatValue BrickIdentity) → get_or (split_to at old) at s ≡ get_or old at s
split_get zero old s = refl
split_get (suc at) [] s = refl
split_get (suc at) (first ∷ old) s = split_get at old s

pub split_length : (at : ℕ) (old : List (SeatValue BrickIdentity)) → length (split_to at old) ≡ length old
split_length zero old = refl
split_length (suc at) [] = refl
split_length (suc at) (first ∷ old) = ap suc (split_length at old)

pub split_set : (at : ℕ) (old : List (SeatValue BrickIdentity)) (s : SeatValue BrickIdentity) → at < length old → s ≡ get_or old at s → set (split_to at old) at (with_one_less s) ≡ split_to (suc at) old
split_set at [] s h is = absurd (omega arith)
split_set zero (first ∷ old) s h is = ap (λ x. with_one_less x ∷ old) is
split_set (suc at) (first ∷ old) s h is = ap (λ ss. with_one_less first ∷ ss) (split_set at old s (omega arith) is)

pub split_cut : (at : ℕ) (old : List (SeatValue BrickIdentity)) (s : SeatValue BrickIdentity) → at < length old → s ≡ get_or old at s → map with_one (take at old) ++ with_one s ∷ [] ≡ map with_one (take (suc at) old)
split_cut at [] s h is = absurd (omega arith)
split_cut zero (first ∷ old) s h is = ap (λ x. with_one x ∷ []) is
split_cut (suc at) (first ∷ old) s h is = ap (λ ss. with_one first ∷ ss) (split_cut at old s (omega arith) is)

-- each seat that is split is of its lock, has no value out, and has two parts or more
pub split_at : (at : ℕ) (locks : List LockValue) (old : List (SeatValue BrickIdentity)) (l : LockValue) (s : SeatValue BrickIdentity) → AreSplit (map id_of locks) old → at < length old → l ≡ get_or locks at l → s ≡ get_or old at s → (s.lock ≡ l.id) × (s.holds ≡ false) × (1 < s.parts)
split_at at [] [] l s h k a b = absurd (omega arith)
split_at at [] (first ∷ old) l s h k a b = absurd h
split_at at (lock ∷ locks) [] l s h k a b = absurd h
split_at zero (lock ∷ locks) (first ∷ old) l s h k a b =
    (ap lock_of b ∙ (h.0 ∙ ap id_of (sym a)), ap (λ (x : SeatValue BrickIdentity). x.holds) b ∙ h.1, (let P : SeatValue BrickIdentity → Type 0 = λ x. 1 < x.parts in subst P (sym b) h.2))
split_at (suc at) (lock ∷ locks) (first ∷ old) l s h k a b = split_at at locks old l s h.3 (omega arith) a b

-- there are as many seats as locks
pub split_lengths : (locks : List LockValue) (old : List (SeatValue BrickIdentity)) → AreSplit (map id_of locks) old → length old ≡ length locks
split_lengths [] [] h = refl
split_lengths [] (first ∷ old) h = absurd h
split_lengths (lock ∷ locks) [] h = absurd h
split_lengths (lock ∷ locks) (first ∷ old) h = ap suc (split_lengths locks old h.3)

-- one lock more is one seat more
pub seats_push : (incarnation parts number next : ℕ) (locks : List TableId) (lock : TableId) → number + length locks ≡ next → seats_from incarnation parts number locks ++ seat_of incarnation parts next lock ∷ [] ≡ seats_from incarnation parts number (locks ++ lock ∷ [])
seats_push incarnation parts number next [] lock h = ap (λ n. seat_of incarnation parts n lock ∷ []) (let e : next ≡ number = omega arith in e)
seats_push incarnation parts number next (first ∷ locks) lock h = ap (λ ss. seat_of incarnation parts number first ∷ ss) (seats_push incarnation parts (number + 1) next locks lock (omega arith))

-- the seats of a new lock are those of the locks before it, and its own
pub made_more : (incarnation parts at : ℕ) (locks : List LockValue) (seats : List (SeatValue BrickIdentity)) (l : LockValue) (s : SeatValue BrickIdentity) (b : BrickValue) → length locks ≡ at → seats ≡ seats_from incarnation parts 1 (map id_of locks) → b ≡ new_brick (record { 0 = at + 1 }) incarnation → s ≡ record { lock = l.id; parts = parts; holds = false; seen = identity_of b ∷ []; own = [] } → seats ++ s ∷ [] ≡ seats_from incarnation parts 1 (map id_of (locks ++ l ∷ []))
made_more incarnation parts at locks seats l s b long are new is =
    let seat : s ≡ seat_of incarnation parts (at + 1) l.id = is ∙ ap (λ (x : BrickValue). record { lock = l.id; parts = parts; holds = false; seen = identity_of x ∷ []; own = [] }) new in
    let many = length-map locks id_of in
    ap (λ xs. xs ++ s ∷ []) are
    ∙ (ap (λ x. seats_from incarnation parts 1 (map id_of locks) ++ x ∷ []) seat
    ∙ (seats_push incarnation parts 1 (at + 1) (map id_of locks) l.id (omega arith)
    ∙ ap (seats_from incarnation parts 1) (sym (map-append id_of locks (l ∷ [])))))

-- seats of some locks are what the seats of a house are
pub sits : (incarnation parts : ℕ) (ids : List TableId) (seats : List (SeatValue BrickIdentity)) → seats ≡ seats_from incarnation parts 1 ids → 0 < length ids → seats ≡ seats_from incarnation (parts_of seats) 1 (map lock_of seats)
sits incarnation parts ids seats is some =
    is
    ∙ (ap (λ p. seats_from incarnation p 1 ids) (sym (ap parts_of is ∙ parts_of_seats incarnation parts 1 ids some))
    ∙ ap (seats_from incarnation (parts_of seats) 1) (sym (ap (map lock_of) is ∙ locks_of_seats incarnation parts 1 ids)))

-- and they are seen so
pub seats_value : (incarnation parts : ℕ) (ids : List TableId) (seats : List (SeatValue BrickIdentity)) → seats ≡ seats_from incarnation parts 1 ids → 0 < length ids → seen_as incarnation seats ≡ record { house = record { locks = ids; incarnation = incarnation }; parts = parts }
seats_value incarnation parts ids seats is some =
    ap (λ (ls : List TableId). record { house = record { locks = ls; incarnation = incarnation }; parts = parts_of seats }) (ap (map lock_of) is ∙ locks_of_seats incarnation parts 1 ids)
    ∙ ap (λ (p : ℕ). record { house = record { locks = ids; incarnation = incarnation }; parts = p }) (ap parts_of is ∙ parts_of_seats incarnation parts 1 ids some)

-- where seats have a part, there is one
pub some_seats : (seats : List (SeatValue BrickIdentity)) → 0 < parts_of seats → 0 < length (map lock_of seats)
some_seats [] h = absurd (omega arith)
some_seats (s ∷ ss) h = omega arith

-- seats of a house with parts to spare may be split
pub may_be_split : (incarnation : ℕ) (seats : List (SeatValue BrickIdentity)) (locks : List LockValue) → seats ≡ seats_from incarnation (parts_of seats) 1 (map lock_of seats) → map lock_of seats ≡ map id_of locks → 1 < parts_of seats → AreSplit (map id_of locks) seats
may_be_split incarnation seats locks is same h =
    (let P : List TableId → Type 0 = λ ids. AreSplit ids seats in subst P same
    (let Q : List (SeatValue BrickIdentity) → Type 0 = λ ss. AreSplit (map lock_of seats) ss in subst Q (sym is) (may_split incarnation (parts_of seats) 1 (map lock_of seats) h)))

-- what is left of the seats of a house, and what was cut off
pub left_are : (incarnation : ℕ) (seats left : List (SeatValue BrickIdentity)) → seats ≡ seats_from incarnation (parts_of seats) 1 (map lock_of seats) → left ≡ map with_one_less seats → left ≡ seats_from incarnation (parts_of seats - 1) 1 (map lock_of seats)
left_are incarnation seats left is so = so ∙ (ap (map with_one_less) is ∙ left_of_seats incarnation (parts_of seats) 1 (map lock_of seats))

pub cut_are : (incarnation : ℕ) (seats none cut : List (SeatValue BrickIdentity)) → seats ≡ seats_from incarnation (parts_of seats) 1 (map lock_of seats) → none ≡ [] → cut ≡ none ++ map with_one seats → cut ≡ seats_from incarnation 1 1 (map lock_of seats)
cut_are incarnation seats none cut is empty so =
    so ∙ (ap (λ xs. xs ++ map with_one seats) empty ∙ (ap (map with_one) is ∙ cut_of_seats incarnation (parts_of seats) 1 (map lock_of seats)))

-- all seats were split
pub split_all : (at : ℕ) (old : List (SeatValue BrickIdentity)) → length old ≤ at → split_to at old ≡ map with_one_less old
split_all zero [] h = refl
split_all (suc at) [] h = refl
split_all zero (first ∷ old) h = absurd (omega arith)
split_all (suc at) (first ∷ old) h = ap (λ ss. with_one_less first ∷ ss) (split_all at old (omega arith))

pub cut_all : (at : ℕ) (old : List (SeatValue BrickIdentity)) → length old ≤ at → map with_one (take at old) ≡ map with_one old
cut_all zero [] h = refl
cut_all (suc at) [] h = refl
cut_all zero (first ∷ old) h = absurd (omega arith)
cut_all (suc at) (first ∷ old) h = ap (λ ss. with_one first ∷ ss) (cut_all at old (omega arith))

-- a brick stays the brick that it was, whatever comes to it
pub stays_the_brick : (b : BrickValue) (frame : Frame) → identity_of (answered b frame) ≡ identity_of b
stays_the_brick b (Put nonce key version expiry value) = go (is_full b.kept (put_value key version expiry value)) where
  go : (full : Bool) → identity_of (if full then b else record b { kept = with_kept (put_value key version expiry value) b.kept }) ≡ identity_of b
  go true = refl
  go false = refl
stays_the_brick b (Get nonce key version) = refl
stays_the_brick b (Sweep nonce moment) = refl
stays_the_brick b (Stored nonce key version brick incarnation) = refl
stays_the_brick b (Found nonce key version brick incarnation expiry value) = refl
stays_the_brick b (Absent nonce key version brick incarnation swept) = refl
stays_the_brick b (BrickFull nonce key version brick incarnation entries bytes) = refl
stays_the_brick b (Swept nonce brick incarnation moment) = refl

-- the seat of a brick, among the seats of a house
seat_among : (incarnation parts number at : ℕ) (locks : List LockValue) (l : LockValue) (s : SeatValue BrickIdentity) → at < length locks → l ≡ get_or locks at l → s ≡ get_or (seats_from incarnation parts number (map id_of locks)) at s → s ≡ seat_of incarnation parts (number + at) l.id
seat_among incarnation parts number at [] l s h a b = absurd (omega arith)
seat_among incarnation parts number zero (lock ∷ locks) l s h a b =
    b ∙ (ap (λ (x : LockValue). seat_of incarnation parts number x.id) (sym a) ∙ ap (λ n. seat_of incarnation parts n l.id) (let e : number ≡ number + 0 = omega arith in e))
seat_among incarnation parts number (suc at) (lock ∷ locks) l s h a b =
    seat_among incarnation parts (number + 1) at locks l s (omega arith) a b
    ∙ ap (λ n. seat_of incarnation parts n l.id) (let e : number + 1 + at ≡ number + suc at = omega arith in e)

pub seat_here : (incarnation parts at : ℕ) (locks : List LockValue) (seats : List (SeatValue BrickIdentity)) (l : LockValue) (s : SeatValue BrickIdentity) → seats ≡ seats_from incarnation parts 1 (map lock_of seats) → map lock_of seats ≡ map id_of locks → at < length locks → l ≡ get_or locks at l → s ≡ get_or seats at s → s ≡ seat_of incarnation parts (1 + at) l.id
seat_here incarnation parts at locks seats l s are same h a b =
    seat_among incarnation parts 1 at locks l s h a (b ∙ ap (λ ss. get_or ss at s) (are ∙ ap (seats_from incarnation parts 1) same))

-- there are as many seats as locks
pub as_many : (locks : List LockValue) (seats : List (SeatValue BrickIdentity)) → map lock_of seats ≡ map id_of locks → length seats ≡ length locks
as_many locks seats same = sym (length-map seats lock_of) ∙ (ap length same ∙ length-map locks id_of)

-- a seat of a house is at home
pub is_home : (incarnation parts number : ℕ) (lock : TableId) (s : SeatValue BrickIdentity) → s ≡ seat_of incarnation parts number lock → IsHome s
is_home incarnation parts number lock s is = subst IsHome (sym is) (record {
  home = refl;
  identity = record { number = record { 0 = number }; incarnation = incarnation };
  seen = refl;
  own = refl;
})

-- what a brick replies of which a seat of the house has seen which it is
pub reply_here : (house : HouseValue) (to : BrickNo) (request answer : Frame) (parts number : ℕ) (lock : TableId) (s : SeatValue BrickIdentity) → s ≡ seat_of house.incarnation parts number lock → number ≡ to.0 → IsReplySeen s.seen request answer → IsReplyOf house to request answer
reply_here house to request answer parts number lock s is same (b, seen, so) =
    let e : identity_of b ∷ [] ≡ record { number = record { 0 = number }; incarnation = house.incarnation } ∷ [] = sym seen ∙ ap (λ (x : SeatValue BrickIdentity). x.seen) is in
    let i : identity_of b ≡ record { number = record { 0 = number }; incarnation = house.incarnation } = cc in
    (b, record { number_is = ap (λ (x : BrickIdentity). x.number) i ∙ ap (λ n. record { 0 = n }) same; incarnation_is = ap (λ (x : BrickIdentity). x.incarnation) i }, so)
