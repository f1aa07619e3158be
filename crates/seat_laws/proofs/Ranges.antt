-- What a request asks for is a call in its ranges, where its moment is.
use Rattle.std.proofs.Common.{◌≡◌, ◌<◌, ◌+◌, ◌*◌, ◌%◌, ◌^◌, ◌==◌, ◌&&◌, ℕ, suc, Bool, true, false, nat_le, nat_lt, if◌then◌else◌, List, [], ◌∷◌, ◌++◌, length, take, Option, Some, None, refl, arith, eq-eqb, le-leb, lt-ltb}
use Rattle.std.proofs.lemmas.List.{length-append, length-take-le}
use Rattle.std.proofs.lemmas.Bool.{and_from, and_parts, ltb-true}
use Rattle.std.specs.Int.{from_be_bytes, w64}
use Rattle.auction_calls.specs.Calls.{is_action, is_call, is_sized}
use Rattle.auction_calls.specs.declared.action.ActionCall.{ActionCall}
use Rattle.auction_rows.specs.Session.{session_user}
use Rattle.crash_base.specs.declared.numbers.Moment.{Moment}
use Rattle.crash_base.specs.declared.numbers.RequestNo.{RequestNo}
use Rattle.crash_base.specs.declared.numbers.SessionKey.{SessionKey}
use Rattle.outside.specs.declared.serials.TheConstants.{SERIALS_END}
use Rattle.request_decisions.specs.Calls.{call_by, form_of, new_key, number_for, ordered_call, session_key, user_of}
use Rattle.request_decisions.specs.Decisions.{IsAccepted}
use Rattle.request_decisions.specs.Draws.{shows_form}
use Rattle.request_decisions.specs.declared.decision.Order.{Order}
use Rattle.request_decisions.specs.declared.draws.Draw.{Draw}
use Rattle.request_decisions.specs.declared.draws.DrawKind.{DrawKind}
use Rattle.request_decisions.specs.declared.draws.DrawKind.TheVariants.{Request, Token, KeyWord, Fresh, Read, Write}
use Rattle.session_cookie.specs.Hmac.{hmac}
use Rattle.session_cookie.specs.Token.{hex_text, request_bytes, token_bytes, token_message, token_of}
use Rattle.session_cookie.specs.declared.cookie.Cookie.{Cookie}
use Rattle.sha2.proofs.Facts256.{length-sha256}
use Rattle.shepherd_steps.specs.Taking.{Counts, Drawing, behind, draws}
use Rattle.seat_steps.specs.Seats.{numbers_from}

-- a word is below 2^64
word-small : (word n : ℕ) → (word + n) % (2 ^ 64) < 2 ^ 64
word-small word n = omega arith

-- where the fresh word of what is drawn behind one is below 2^64, so it is with that one
kind-small : (word serial : ℕ) (kinds : List DrawKind) (counts : Counts) → ((after : Counts) → number_for Fresh (draws (numbers_from word serial) kinds after).drawn < 2 ^ 64) → (kind : DrawKind)
    → number_for Fresh (draws (numbers_from word serial) (kind ∷ kinds) counts).drawn < 2 ^ 64
kind-small word serial kinds counts more kind = by kind where
  more-serials : Drawing
  more-serials = draws (numbers_from word serial) kinds (record counts { serials = suc counts.serials })

  drawn : (k : DrawKind) (number : ℕ) (b : Bool) → number_for Fresh (record { kind = k; number = number } ∷ more-serials.drawn) < 2 ^ 64
      → number_for Fresh (if b then behind (record { kind = k; number = number }) more-serials else record { drawn = []; spent = Some number; counts = counts }).drawn < 2 ^ 64
  drawn k number true small = small
  drawn k number false small = omega arith

  test : Bool
  test = nat_lt (serial + counts.serials) SERIALS_END

  behind-serial : number_for Fresh more-serials.drawn < 2 ^ 64
  behind-serial = more (record counts { serials = suc counts.serials })

  by : (k : DrawKind) → number_for Fresh (draws (numbers_from word serial) (k ∷ kinds) counts).drawn < 2 ^ 64
  by Request = drawn Request (serial + counts.serials) test behind-serial
  by Token = drawn Token (serial + counts.serials) test behind-serial
  by KeyWord = more (record counts { words = suc counts.words })
  by Fresh = word-small word counts.words
  by Read = drawn Read (serial + counts.serials) test behind-serial
  by Write = drawn Write (serial + counts.serials) test behind-serial

-- The fresh word of what was drawn is below 2^64.
pub fresh-small : (word serial : ℕ) (kinds : List DrawKind) (counts : Counts) → number_for Fresh (draws (numbers_from word serial) kinds counts).drawn < 2 ^ 64
fresh-small word serial [] counts = omega arith
fresh-small word serial (kind ∷ kinds) counts = kind-small word serial kinds counts (λ after. fresh-small word serial kinds after) kind

-- the key of a cookie that was accepted has 16 bytes
pub accepted-sized : (key : List ℕ) (text : Option (List ℕ)) (cookie : Cookie) → IsAccepted key text (Some cookie) → length cookie.key.0 ≡ 16
accepted-sized key None cookie is = absurd (cc)
accepted-sized key (Some text) cookie is = is.0.head.0.size

new-sized : (drawn : List Draw) → length (new_key drawn).0 ≡ 16
unfolding new_key
new-sized drawn = refl

-- and so has that of a session
session-sized : (o : Option Cookie) (drawn : List Draw) → ((cookie : Cookie) → o ≡ Some cookie → length cookie.key.0 ≡ 16) → length (session_key o drawn).0 ≡ 16
session-sized None drawn sized = new-sized drawn
session-sized (Some cookie) drawn sized = sized cookie refl

-- a token has 56 digits

length-hmac : (key text : List ℕ) → length (hmac key text) ≡ 32
unfolding hmac
length-hmac key text = length-sha256 _

length-digits : (bytes : List ℕ) → length (hex_text bytes) ≡ 2 * length bytes
unfolding hex_text
length-digits [] = refl
length-digits (b ∷ bs) = let h = length-digits bs in omega (arith, h)

length-request : (r : RequestNo) → length (request_bytes r) ≡ 12
unfolding request_bytes
length-request r = refl

length-token : (key : List ℕ) (session : SessionKey) (r : RequestNo) → length (token_of key session r) ≡ 56
unfolding token_bytes
length-token key session r =
    let tag : List ℕ = hmac key (token_message session r) in
    omega (arith, length-digits (request_bytes r ++ take 16 tag), length-append (request_bytes r) (take 16 tag), length-request r, length-take-le 16 tag (omega (arith, length-hmac key (token_message session r))))

form-sized : (key : List ℕ) (boot : ℕ) (session : SessionKey) (shown : Bool) (drawn : List Draw) → length (form_of key boot session shown drawn) ≡ 56
form-sized key boot session true drawn = length-token key session (record { boot = boot; serial = number_for Token drawn })
form-sized key boot session false drawn = refl

-- a call in its ranges, by its parts
in-ranges : (c : ActionCall) → is_action c.action ≡ true → c.now.0 < 2 ^ 62 → nat_le c.user 4294967295 ≡ true → c.fresh < 2 ^ 64 → length c.key.0 ≡ 16 → length c.form ≡ 56 → is_call c ≡ true
in-ranges c action now user fresh key form =
    let sizes : ((length c.key.0 == 16) && (length c.form == 56)) ≡ true = and_from (length c.key.0 == 16) (length c.form == 56) (eq-eqb (length c.key.0) 16 key) (eq-eqb (length c.form) 56 form) in
    let few : (nat_lt c.fresh (2 ^ 64) && ((length c.key.0 == 16) && (length c.form == 56))) ≡ true =
    and_from (nat_lt c.fresh (2 ^ 64)) ((length c.key.0 == 16) && (length c.form == 56)) (lt-ltb c.fresh (2 ^ 64) fresh) sizes in
    let sized : is_sized c ≡ true = and_from (nat_le c.user 4294967295) (nat_lt c.fresh (2 ^ 64) && ((length c.key.0 == 16) && (length c.form == 56))) user few in
    and_from (is_action c.action) (nat_lt c.now.0 (2 ^ 62) && is_sized c) action (and_from (nat_lt c.now.0 (2 ^ 62)) (is_sized c) (lt-ltb c.now.0 (2 ^ 62) now) sized)

-- The call of an order is in its ranges.
pub ordered-in-ranges : (key : List ℕ) (boot : ℕ) (o : Order) (now : Moment) (drawn : List Draw) → is_action o.action ≡ true → now.0 < 2 ^ 62 → number_for Fresh drawn < 2 ^ 64
    → ((cookie : Cookie) → o.cookie ≡ Some cookie → length cookie.key.0 ≡ 16) → is_call (ordered_call key boot o now drawn) ≡ true
unfolding ordered_call
ordered-in-ranges key boot o now drawn action early small sized =
    in-ranges (ordered_call key boot o now drawn) action early refl small (session-sized o.cookie drawn sized) (form-sized key boot (session_key o.cookie drawn) (shows_form o.action) drawn)

-- a user is below 2^32
small-if : (whole : Bool) (user : ℕ) → nat_le (if whole && nat_lt user (2 ^ 32) then user else 0) 4294967295 ≡ true
small-if whole user = by whole (nat_lt user (2 ^ 32)) refl where
  by : (a b : Bool) → nat_lt user (2 ^ 32) ≡ b → nat_le (if a && b then user else 0) 4294967295 ≡ true
  by true true few = let below : user < 2 ^ 32 = ltb-true user (2 ^ 32) few in le-leb user 4294967295 (omega arith)
  by true false few = refl
  by false b few = refl

user-small : (value : Option (List ℕ)) → nat_le (user_of value) 4294967295 ≡ true
unfolding session_user
user-small None = refl
user-small (Some value) = small-if (length value == 16) (from_be_bytes w64 (take 8 value))

-- A call in its ranges is so by any user of a session.
pub by-user : (call : ActionCall) (value : Option (List ℕ)) → is_call call ≡ true → is_call (call_by call value) ≡ true
by-user call value is =
    let sizes : Bool = nat_lt call.fresh (2 ^ 64) && ((length call.key.0 == 16) && (length call.form == 56)) in
    let parts = and_parts (is_action call.action) (nat_lt call.now.0 (2 ^ 62) && is_sized call) is in
    let timed = and_parts (nat_lt call.now.0 (2 ^ 62)) (is_sized call) parts.1 in
    let sized = and_parts (nat_le call.user 4294967295) sizes timed.1 in
    and_from (is_action call.action) (nat_lt call.now.0 (2 ^ 62) && is_sized (call_by call value)) parts.0
    (and_from (nat_lt call.now.0 (2 ^ 62)) (is_sized (call_by call value)) timed.0 (and_from (nat_le (user_of value) 4294967295) sizes (user-small value) sized.1))
