-- The call of an order is of its session.
use Rattle.std.proofs.Common.{◌≡◌, ℕ, ◌<◌, ◌^◌, ◌&&◌, Bool, true, false, cond, List, [], ◌∷◌, ◌++◌, length, replicate, slice_index, Option, Some, None, refl, ap, ◌∙◌, arith}
use Rattle.std.specs.Prelude.{is_none}
use Rattle.std.specs.Int.{to_be_bytes, w64}
use Rattle.crash_base.specs.declared.numbers.Moment.{Moment}
use Rattle.auction_rows.specs.Session.{session_bytes, session_user}
use Rattle.session_cookie.specs.declared.cookie.Cookie.{Cookie}
use Rattle.request_decisions.specs.Calls.{call_of, new_key, numbers_for, ordered_call, session_key}
use Rattle.request_decisions.specs.Draws.{AreDrawn, shows_form}
use Rattle.request_decisions.specs.declared.decision.Order.{Order}
use Rattle.request_decisions.specs.declared.draws.Draw.{Draw}
use Rattle.request_decisions.specs.declared.draws.DrawKind.TheVariants.{Fresh, KeyWord}
use Rattle.request_decisions.proofs.Counts.{all_drawn, key_cause, other_causes}

pub of_user : ((user began : ℕ) → user < 2 ^ 32 → session_user (session_bytes user began) ≡ user)
    → (key : List ℕ) (boot : ℕ) (o : Order) (moment : Moment) (drawn : List Draw) (user began : ℕ)
    → user < 2 ^ 32 → (call_of key boot o moment drawn (Some (session_bytes user began))).user ≡ user
of_user back key boot o moment drawn user began small = back user began small

pub of_cookie : (key : List ℕ) (boot : ℕ) (o : Order) (moment : Moment) (drawn : List Draw) (value : Option (List ℕ)) (cookie : Cookie)
    → o.cookie ≡ Some cookie → (call_of key boot o moment drawn value).key ≡ cookie.key
unfolding ordered_call
of_cookie key boot o moment drawn value cookie is = ap (λ (c : Option Cookie). session_key c drawn) is

-- no words are a key of zero bytes
no_words : (words : List ℕ) → length words ≡ 0 → to_be_bytes w64 (slice_index words 0) ++ to_be_bytes w64 (slice_index words 1) ≡ replicate 16 0
no_words [] none = refl
no_words (w ∷ ws) none = absurd (omega (arith, none))

no_key : (drawn : List Draw) → length (numbers_for KeyWord drawn) ≡ 0 → new_key drawn ≡ record { 0 = replicate 16 0 }
unfolding new_key
no_key drawn none = ap (λ (bytes : List ℕ). record { 0 = bytes }) (no_words (numbers_for KeyWord drawn) none)

none_begins : (shown : Bool) (cookie : Option Cookie) → shown ≡ false → ◌≡◌ {A = ℕ} (cond (shown && is_none cookie) 2 0) 0
none_begins true cookie hidden = absurd (cc)
none_begins false cookie hidden = refl

pub of_none : (key : List ℕ) (boot : ℕ) (o : Order) (moment : Moment) (drawn : List Draw) (value : Option (List ℕ))
    → AreDrawn o drawn → o.cookie ≡ None → shows_form o.action ≡ false
    → (call_of key boot o moment drawn value).key ≡ record { 0 = replicate 16 0 }
unfolding ordered_call
of_none key boot o moment drawn value are bare hidden =
    let none : length (numbers_for KeyWord drawn) ≡ 0 =
    all_drawn o drawn KeyWord are ∙ key_cause o ∙ none_begins (shows_form o.action) o.cookie hidden in
    ap (λ (c : Option Cookie). session_key c drawn) bare ∙ no_key drawn none

-- two words are the words of a key
abbrev AreWords : List ℕ → Type 0
AreWords words =
    (a b : ℕ) × (words ≡ a ∷ b ∷ [])
    × (to_be_bytes w64 (slice_index words 0) ++ to_be_bytes w64 (slice_index words 1) ≡ to_be_bytes w64 a ++ to_be_bytes w64 b)

two_words : (words : List ℕ) → length words ≡ 2 → AreWords words
two_words [] two = absurd (omega (arith, two))
two_words (a ∷ []) two = absurd (omega (arith, two))
two_words (a ∷ b ∷ []) two = (a, b, refl, refl)
two_words (a ∷ b ∷ c ∷ more) two = absurd (omega (arith, two))

one_begins : (shown : Bool) (cookie : Option Cookie) → shown ≡ true → cookie ≡ None → ◌≡◌ {A = ℕ} (cond (shown && is_none cookie) 2 0) 2
one_begins false cookie shows bare = absurd (cc)
one_begins true None shows bare = refl
one_begins true (Some cookie) shows bare = absurd (cc)

key_is : (drawn : List Draw) (a b : ℕ)
    → to_be_bytes w64 (slice_index (numbers_for KeyWord drawn) 0) ++ to_be_bytes w64 (slice_index (numbers_for KeyWord drawn) 1)
    ≡ to_be_bytes w64 a ++ to_be_bytes w64 b
    → new_key drawn ≡ record { 0 = to_be_bytes w64 a ++ to_be_bytes w64 b }
unfolding new_key
key_is drawn a b are = ap (λ (bytes : List ℕ). record { 0 = bytes }) are

pub of_words : (key : List ℕ) (boot : ℕ) (o : Order) (moment : Moment) (drawn : List Draw) (value : Option (List ℕ))
    → AreDrawn o drawn → o.cookie ≡ None → shows_form o.action ≡ true
    → (a b : ℕ) × (numbers_for KeyWord drawn ≡ a ∷ b ∷ [])
    × ((call_of key boot o moment drawn value).key ≡ record { 0 = to_be_bytes w64 a ++ to_be_bytes w64 b })
unfolding ordered_call
of_words key boot o moment drawn value are bare shows =
    let two : length (numbers_for KeyWord drawn) ≡ 2 =
    all_drawn o drawn KeyWord are ∙ key_cause o ∙ one_begins (shows_form o.action) o.cookie shows bare in
    let words = two_words (numbers_for KeyWord drawn) two in
    (words.0, words.1, words.2, ap (λ (c : Option Cookie). session_key c drawn) bare ∙ key_is drawn words.0 words.1 words.3)

one_number : (numbers : List ℕ) → length numbers ≡ 1 → numbers ≡ slice_index numbers 0 ∷ []
one_number [] one = absurd (omega (arith, one))
one_number (n ∷ []) one = refl
one_number (n ∷ m ∷ more) one = absurd (omega (arith, one))

pub of_order : (key : List ℕ) (boot : ℕ) (o : Order) (moment : Moment) (drawn : List Draw) (value : Option (List ℕ)) → AreDrawn o drawn
    → ((call_of key boot o moment drawn value).action ≡ o.action) × ((call_of key boot o moment drawn value).now ≡ moment)
    × (numbers_for Fresh drawn ≡ (call_of key boot o moment drawn value).fresh ∷ [])
unfolding ordered_call
of_order key boot o moment drawn value are =
    (refl, refl, one_number (numbers_for Fresh drawn) (all_drawn o drawn Fresh are ∙ (other_causes o).0))
