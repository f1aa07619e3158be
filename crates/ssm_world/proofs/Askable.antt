-- An acknowledged cookie may be read.
use Rattle.std.proofs.Common.{◌≡◌, ◌≢◌, ◌==◌, All, ◌⊎◌, inl, inr, ℕ, zero, suc, ◌≤◌, ◌&&◌, ◌||◌, nat_le, Bool, true, false, not, List, [], ◌∷◌, length, take, refl, sym, ap, ◌∙◌, arith}
use Rattle.std.specs.List.{list_any, cons_option, filter_map}
use Rattle.std.proofs.lemmas.Bool.Decides.{nat_tests}
use Rattle.std.proofs.lemmas.List.{length-map}
use Rattle.std.proofs.lemmas.List.Elements.{All-nil, All-cons}
use Rattle.crash_base.specs.declared.numbers.BrickNo.{BrickNo}
use Rattle.session_cookie.specs.declared.cookie.Cookie.{Cookie}
use Rattle.session_cookie.specs.declared.cookie.Holder.{Holder}
use Rattle.session_cookie.specs.declared.cookie.TheConstants.{MAX_HOLDERS}
use Rattle.session_cookie.specs.Cookie.{AreDistinct, AreHolders}
use Rattle.ssm_stub.specs.declared.ask.Ask.{Ask}
use Rattle.ssm_stub.specs.declared.ear.Outcome.TheVariants as outcome
use Rattle.ssm_stub.specs.declared.ear.Ear.{Ear}
use Rattle.ssm_stub.specs.declared.ear.Ear.TheVariants.{Open, Heard}
use Rattle.ssm_stub.specs.declared.reply.WriteReply.{WriteReply}
use Rattle.ssm_stub.specs.declared.reply.WriteReply.TheVariants as put
use Rattle.ssm_stub.specs.Writes.{WriteState, holder_by, holder_of}
use Rattle.ssm_world.specs.declared.call.Call.TheVariants as call
use Rattle.ssm_world.specs.declared.event.WorldEvent.{WorldEvent}
use Rattle.ssm_world.specs.Worlds.{new_world, after, same_brick, are_distinct, may_be_asked, bricks_of}
use Rattle.ssm_world.specs.Sound.{asked_of, WriteIsSound}
use Rattle.ssm_world.specs.Claims.{IsAcknowledged}
use Rattle.ssm_world.proofs.Holding.{cookie_of, answer_cookie}
use Rattle.ssm_world.proofs.Steps.{world_is_sound}
use Rattle.ssm_stub.proofs.Tests.{both, number_same}

-- a holder comes from its ask
holder_brick : (a : Ask BrickNo WriteReply) (hs : List Holder) → (bricks_of (cons_option (holder_of a) hs) ≡ bricks_of hs) ⊎ (bricks_of (cons_option (holder_of a) hs) ≡ a.who ∷ bricks_of hs)
holder_brick a hs = go a.ear
  where
    go : (s : Ear WriteReply) → (bricks_of (cons_option (holder_by a.who s) hs) ≡ bricks_of hs) ⊎ (bricks_of (cons_option (holder_by a.who s) hs) ≡ a.who ∷ bricks_of hs)
    go (Open stage) = inl refl
    go (Heard outcome.Silent) = inl refl
    go (Heard outcome.Strayed) = inl refl
    go (Heard (outcome.Answered (put.Full entries bytes))) = inl refl
    go (Heard (outcome.Answered (put.Stored i))) = inr refl

or_false : (a b : Bool) → (a || b) ≡ false → (a ≡ false) × (b ≡ false)
or_false true b e = absurd (cc)
or_false false b e = (refl, e)

not_among : (test : BrickNo → Bool) (asks : List (Ask BrickNo WriteReply)) → list_any test (asked_of asks) ≡ false → list_any test (bricks_of (filter_map holder_of asks)) ≡ false
not_among test [] none = refl
not_among test (a ∷ rest) none =
    let parts : (test a.who ≡ false) × (list_any test (asked_of rest) ≡ false) = or_false _ _ none in
    let later : list_any test (bricks_of (filter_map holder_of rest)) ≡ false = not_among test rest parts.1 in
    elim (holder_brick a (filter_map holder_of rest)) [
      | inl same ↦ ap (list_any test) same ∙ later
      | inr more ↦ ap (list_any test) more ∙ (λ l. parts.0 l || later l)
    ]

not_true : (b : Bool) → not b ≡ true → b ≡ false
not_true true e = absurd (cc)
not_true false e = refl

distinct_keeping : (asks : List (Ask BrickNo WriteReply)) → are_distinct (asked_of asks) ≡ true → are_distinct (bricks_of (filter_map holder_of asks)) ≡ true
distinct_keeping [] d = refl
distinct_keeping (a ∷ rest) d =
    let parts : (not (list_any (same_brick a.who) (asked_of rest)) ≡ true) × (are_distinct (asked_of rest) ≡ true) = both _ _ d in
    let none : list_any (same_brick a.who) (bricks_of (filter_map holder_of rest)) ≡ false = not_among (same_brick a.who) rest (not_true _ parts.0) in
    let later : are_distinct (bricks_of (filter_map holder_of rest)) ≡ true = distinct_keeping rest parts.1 in
    elim (holder_brick a (filter_map holder_of rest)) [
      | inl same ↦ ap are_distinct same ∙ later
      | inr more ↦ ap are_distinct more ∙ (λ l. not (none l) && later l)
    ]

none_taken : (test : BrickNo → Bool) (n : ℕ) (hs : List Holder) → list_any test (bricks_of hs) ≡ false → list_any test (bricks_of (take n hs)) ≡ false
none_taken test zero hs none = refl
none_taken test (suc n) [] none = refl
none_taken test (suc n) (h ∷ hs) none =
    let parts : (test h.brick ≡ false) × (list_any test (bricks_of hs) ≡ false) = or_false _ _ none in
    λ l. parts.0 l || none_taken test n hs parts.1 l

distinct_taken : (n : ℕ) (hs : List Holder) → are_distinct (bricks_of hs) ≡ true → are_distinct (bricks_of (take n hs)) ≡ true
distinct_taken zero hs d = refl
distinct_taken (suc n) [] d = refl
distinct_taken (suc n) (h ∷ hs) d =
    let parts : (not (list_any (same_brick h.brick) (bricks_of hs)) ≡ true) × (are_distinct (bricks_of hs) ≡ true) = both _ _ d in
    let none : list_any (same_brick h.brick) (bricks_of (take n hs)) ≡ false = none_taken (same_brick h.brick) n hs (not_true _ parts.0) in
    λ l. not (none l) && distinct_taken n hs parts.1 l

fewer_keeping : (asks : List (Ask BrickNo WriteReply)) → length (bricks_of (filter_map holder_of asks)) ≤ length (asked_of asks)
fewer_keeping [] = omega arith
fewer_keeping (a ∷ rest) =
    let later : length (bricks_of (filter_map holder_of rest)) ≤ length (asked_of rest) = fewer_keeping rest in
    elim (holder_brick a (filter_map holder_of rest)) [
      | inl same ↦ omega (arith, ap length same, later)
      | inr more ↦ omega (arith, ap length more, later)
    ]

fewer_taken : (n : ℕ) (hs : List Holder) → (length (bricks_of (take n hs)) ≤ length (bricks_of hs)) × (length (bricks_of (take n hs)) ≡ length (take n hs))
fewer_taken zero hs = (omega arith, refl)
fewer_taken (suc n) [] = (omega arith, refl)
fewer_taken (suc n) (h ∷ hs) = (omega (arith, (fewer_taken n hs).0), ap suc (fewer_taken n hs).1)

at_most : (a b : ℕ) → 1 ≤ a → b ≡ a → b ≤ MAX_HOLDERS → (nat_le 1 b && nat_le b MAX_HOLDERS) ≡ true
at_most a b one same few = grind (arith, nat_tests)

taken_length : {A : Type 0} (n : ℕ) (xs : List A) → n ≤ length xs → length (take n xs) ≡ n
taken_length zero xs le = refl
taken_length (suc n) [] le = absurd (omega arith)
taken_length (suc n) (x ∷ xs) le = ap suc (taken_length n xs (omega arith))

all_taken : (n : ℕ) (hs : List Holder) → nat_le n (length hs) ≡ true → length (take n hs) ≡ n
all_taken n hs le = taken_length n hs (grind (arith, nat_tests))

sixteen : (n : ℕ) → (nat_le 1 n && nat_le n MAX_HOLDERS) ≡ true → n ≤ MAX_HOLDERS
sixteen n h = grind (arith, nat_tests)

pub acknowledged_askable : (n : ℕ) (es : List WorldEvent) (cookie : Cookie) (value : List ℕ) → IsAcknowledged (after (new_world n) es) cookie value → may_be_asked (bricks_of cookie.bricks) ≡ true
acknowledged_askable n es cookie value acknowledged =
    let s : WriteState = acknowledged.write in
    let holders : List Holder = filter_map holder_of s.asks in
    let sound : WriteIsSound (after (new_world n) es) s = (world_is_sound n es).calls acknowledged.place (call.Write s) acknowledged.there in
    let answers : (cookie_of s ≡ cookie) × (nat_le s.least (length holders) ≡ true) = answer_cookie s cookie acknowledged.answers in
    let parts : ((nat_le 1 (length (asked_of s.asks)) && nat_le (length (asked_of s.asks)) MAX_HOLDERS) ≡ true) × (are_distinct (asked_of s.asks) ≡ true) = both _ _ sound.bricks in
    let distinct : are_distinct (bricks_of (take s.least holders)) ≡ true = distinct_taken s.least holders (distinct_keeping s.asks parts.1) in
    let taken : (length (bricks_of (take s.least holders)) ≤ length (bricks_of holders)) × (length (bricks_of (take s.least holders)) ≡ length (take s.least holders)) = fewer_taken s.least holders in
    let few : length (bricks_of (take s.least holders)) ≤ MAX_HOLDERS = omega (arith, taken.0, fewer_keeping s.asks, sixteen (length (asked_of s.asks)) parts.0) in
    let long : length (take s.least holders) ≡ s.least = all_taken s.least holders answers.1 in
    let askable : may_be_asked (bricks_of (take s.least holders)) ≡ true =
    (λ l. at_most s.least (length (bricks_of (take s.least holders))) sound.some (taken.1 ∙ long) few l && distinct l) in
    ap (λ (c : Cookie). may_be_asked (bricks_of c.bricks)) (sym answers.0) ∙ askable

-- those that may be asked are holders of a cookie
apart_from : (h : Holder) (hs : List Holder) → list_any (same_brick h.brick) (bricks_of hs) ≡ false → All (λ (other : Holder). h.brick.0 ≢ other.brick.0) hs
apart_from h [] none = All-nil (λ (other : Holder). h.brick.0 ≢ other.brick.0)
apart_from h (other ∷ hs) none =
    let parts : (same_brick h.brick other.brick ≡ false) × (list_any (same_brick h.brick) (bricks_of hs) ≡ false) = or_false _ _ none in
    let differ : h.brick.0 ≢ other.brick.0 = λ same. (let equal : same_brick h.brick other.brick ≡ true = ap (λ n. h.brick.0 == n) (sym same) ∙ number_same h.brick.0 in cc) in
    All-cons (λ (o : Holder). h.brick.0 ≢ o.brick.0) other hs differ (apart_from h hs parts.1)

distinct_holders : (hs : List Holder) → are_distinct (bricks_of hs) ≡ true → AreDistinct hs
distinct_holders [] d = tt
distinct_holders (h ∷ hs) d =
    let parts : (not (list_any (same_brick h.brick) (bricks_of hs)) ≡ true) × (are_distinct (bricks_of hs) ≡ true) = both _ _ d in
    (apart_from h hs (not_true _ parts.0), distinct_holders hs parts.1)

within : (n : ℕ) → (nat_le 1 n && nat_le n MAX_HOLDERS) ≡ true → (1 ≤ n) × (n ≤ MAX_HOLDERS)
within n h = (grind (arith, nat_tests), grind (arith, nat_tests))

pub are_holders : (hs : List Holder) → may_be_asked (bricks_of hs) ≡ true → AreHolders hs
are_holders hs may =
    let parts : ((nat_le 1 (length (bricks_of hs)) && nat_le (length (bricks_of hs)) MAX_HOLDERS) ≡ true) × (are_distinct (bricks_of hs) ≡ true) = both _ _ may in
    let many : (1 ≤ length (bricks_of hs)) × (length (bricks_of hs) ≤ MAX_HOLDERS) = within (length (bricks_of hs)) parts.0 in
    let same : length (bricks_of hs) ≡ length hs = length-map hs (λ (h : Holder). h.brick) in
    (omega (arith, same, many.0), omega (arith, same, many.1), distinct_holders hs parts.1)

pub acknowledged_holders : (n : ℕ) (es : List WorldEvent) (cookie : Cookie) (value : List ℕ) → IsAcknowledged (after (new_world n) es) cookie value → AreHolders cookie.bricks
acknowledged_holders n es cookie value acknowledged = are_holders cookie.bricks (acknowledged_askable n es cookie value acknowledged)
