-- The path of an action leads to it.
use Rattle.std.proofs.Common.{◌≡◌, ◌⊎◌, ℕ, ◌<◌, ◌^◌, ◌==◌, ◌&&◌, nat_lt, Bool, true, false, List, [], ◌∷◌, ◌++◌, length, Some, codes, refl, inl, inr, arith}
use Rattle.std.specs.Char.{is_ascii_digit}
use Rattle.std.specs.Fmt.{decimal}
use Rattle.std.specs.Str.{IsAscii, all_ascii_digits, chars, is_utf8}
use Rattle.std.proofs.lemmas.Bool.{and_parts}
use Rattle.std.proofs.lemmas.Bool.Decides.{nat_tests}
use Rattle.std.proofs.lemmas.Fmt.{IsAscii-decimal, decimal_nonempty}
use Rattle.std.proofs.lemmas.Str.{IsAscii-append, IsUtf8-from_ascii, is_utf8-from_IsUtf8}
use Rattle.std.proofs.lemmas.Str.Ascii.{IsAscii-nil, IsAscii-cons}
use lib.Utf8.{encode}
use Rattle.matchit.specs.Seek.{has_slash}
use Rattle.auction_calls.specs.Reading.{kind_of}
use Rattle.auction_calls.specs.Texts.{kind_text}
use Rattle.auction_calls.specs.declared.action.FormKind.{FormKind}
use Rattle.auction_calls.specs.declared.action.FormKind.TheVariants as kind
use Rattle.decimal_digits.proofs.Written.{decimal_is_digits, decimal_is_plain}
use Rattle.site_routes.specs.PathActions.{actions_at, id_of}
use Rattle.site_routes.specs.Paths.{HasId, IsId, is_read, path_of}
use Rattle.site_routes.specs.Routes.{site_route}
use Rattle.site_routes.specs.declared.path_actions.PathActions.{PathActions}
use Rattle.site_routes.specs.declared.path_actions.PathActions.TheVariants.{Read, Write, Both}
use Rattle.site_routes.specs.declared.path_actions.SiteAction.{SiteAction}
use Rattle.site_routes.specs.declared.path_actions.SiteAction.TheVariants as action
use Rattle.site_routes.specs.declared.site_route.SiteRoute.TheVariants.{Category, Item, User}

-- these are bytes of ASCII
abbrev are_low : List ℕ → Bool
are_low [] = true
are_low (b ∷ bytes) = nat_lt b 128 && are_low bytes

low_byte : (b : ℕ) → nat_lt b 128 ≡ true → b < 128
low_byte b h = grind (arith, nat_tests)

ascii : (bytes : List ℕ) → are_low bytes ≡ true → IsAscii bytes
ascii [] h = IsAscii-nil
ascii (b ∷ bytes) h =
    let both = and_parts (nat_lt b 128) (are_low bytes) h in
    IsAscii-cons b bytes (low_byte b both.0) (ascii bytes both.1)

-- so a text of them and a number is UTF-8
numbered : (text : List ℕ) (n : ℕ) → are_low text ≡ true → n < 2 ^ 64 → is_utf8 (text ++ decimal n) ≡ true
numbered text n low small =
    is_utf8-from_IsUtf8 (text ++ decimal n)
    (IsUtf8-from_ascii (text ++ decimal n) (IsAscii-append text (decimal n) (ascii text low) (IsAscii-decimal n small)))

digit_no_slash : (b : ℕ) → is_ascii_digit b ≡ true → (b == 47) ≡ false
digit_no_slash b h = grind (arith, nat_tests)

-- digits have no slash
flat : (digits : List ℕ) → all_ascii_digits digits ≡ true → has_slash digits ≡ false
flat [] h = refl
flat (b ∷ digits) h =
    let both = and_parts (is_ascii_digit b) (all_ascii_digits digits) h in
    rw (digit_no_slash b both.0) (flat digits both.1)

category_found : (text : List ℕ) → is_utf8 (codes "/category/" ++ text) ≡ true → 0 < length text → has_slash text ≡ false → site_route (codes "/category/" ++ text) ≡ Some Category
unfolding site_route
category_found [] utf some none = absurd (omega (arith, some))
category_found (b ∷ text) utf some none = rw (utf, none) refl

item_found : (text : List ℕ) → is_utf8 (codes "/item/" ++ text) ≡ true → 0 < length text → has_slash text ≡ false → site_route (codes "/item/" ++ text) ≡ Some Item
unfolding site_route
item_found [] utf some none = absurd (omega (arith, some))
item_found (b ∷ text) utf some none = rw (utf, none) refl

user_found : (text : List ℕ) → is_utf8 (codes "/user/" ++ text) ≡ true → 0 < length text → has_slash text ≡ false → site_route (codes "/user/" ++ text) ≡ Some User
unfolding site_route
user_found [] utf some none = absurd (omega (arith, some))
user_found (b ∷ text) utf some none = rw (utf, none) refl

in_range : (n : ℕ) → IsId n → ((n == 0) ≡ false) × (nat_lt 4294967295 n ≡ false)
in_range n (some, small) = (grind (arith, nat_tests), grind (arith, nat_tests))

-- an id that is written is read
pub id_read : (n : ℕ) → IsId n → id_of (decimal n) ≡ Some n
id_read n h =
    let range = in_range n h in
    rw (decimal_is_plain n (omega (arith, h.1)), range.0, range.1) refl

category_at : (n : ℕ) → IsId n → actions_at (codes "/category/" ++ decimal n) ≡ Some (Read (action.Browse n))
category_at n h =
    let small : n < 2 ^ 64 = omega (arith, h.1) in
    let found = category_found (decimal n) (numbered (codes "/category/") n refl small) (decimal_nonempty n small) (flat (decimal n) (decimal_is_digits n small)) in
    rw (found, id_read n h) refl

item_at : (n : ℕ) → IsId n → actions_at (codes "/item/" ++ decimal n) ≡ Some (Read (action.Item n))
item_at n h =
    let small : n < 2 ^ 64 = omega (arith, h.1) in
    let found = item_found (decimal n) (numbered (codes "/item/") n refl small) (decimal_nonempty n small) (flat (decimal n) (decimal_is_digits n small)) in
    rw (found, id_read n h) refl

user_at : (n : ℕ) → IsId n → actions_at (codes "/user/" ++ decimal n) ≡ Some (Read (action.User n))
user_at n h =
    let small : n < 2 ^ 64 = omega (arith, h.1) in
    let found = user_found (decimal n) (numbered (codes "/user/") n refl small) (decimal_nonempty n small) (flat (decimal n) (decimal_is_digits n small)) in
    rw (found, id_read n h) refl

form_at : (k : FormKind) → actions_at (codes "/form/" ++ kind_text k) ≡ Some (Read (action.Form k))
unfolding site_route is_utf8 chars kind_of encode
form_at kind.Register = refl
form_at kind.SignIn = refl
form_at kind.SignOut = refl
form_at kind.Category = refl
form_at kind.Sell = refl
form_at kind.Bid = refl
form_at kind.Buy = refl
form_at kind.Close = refl
form_at kind.Feedback = refl

-- the actions of a path have this one
abbrev pub Has : PathActions → SiteAction → Type 0
Has (Read found) asked = (found ≡ asked) × (is_read asked ≡ true)
Has (Write found) asked = (found ≡ asked) × (is_read asked ≡ false)
Has (Both read written) asked = ((read ≡ asked) × (is_read asked ≡ true)) ⊎ ((written ≡ asked) × (is_read asked ≡ false))

-- the path of an action has it
pub has_action : (asked : SiteAction) → HasId asked → (actions : PathActions) × (actions_at (path_of asked) ≡ Some actions) × Has actions asked
unfolding site_route is_utf8 chars encode
has_action action.Home h = (Read action.Home, refl, (refl, refl))
has_action action.Register h = (Write action.Register, refl, (refl, refl))
has_action action.SignIn h = (Write action.SignIn, refl, (refl, refl))
has_action action.SignOut h = (Write action.SignOut, refl, (refl, refl))
has_action action.Categories h = (Both action.Categories action.AddCategory, refl, inl (refl, refl))
has_action action.AddCategory h = (Both action.Categories action.AddCategory, refl, inr (refl, refl))
has_action (action.Browse n) h = (Read (action.Browse n), category_at n h, (refl, refl))
has_action (action.Item n) h = (Read (action.Item n), item_at n h, (refl, refl))
has_action (action.User n) h = (Read (action.User n), user_at n h, (refl, refl))
has_action action.About h = (Read action.About, refl, (refl, refl))
has_action action.Sell h = (Write action.Sell, refl, (refl, refl))
has_action action.Bid h = (Write action.Bid, refl, (refl, refl))
has_action action.Buy h = (Write action.Buy, refl, (refl, refl))
has_action action.Close h = (Write action.Close, refl, (refl, refl))
has_action action.Feedback h = (Write action.Feedback, refl, (refl, refl))
has_action (action.Form k) h = (Read (action.Form k), form_at k, (refl, refl))
