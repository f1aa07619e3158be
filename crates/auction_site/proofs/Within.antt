-- Users and items that bytes spell are within their bounds, whatever the bytes are.
use Rattle.std.proofs.Common.{◌≡◌, ℕ, ◌+◌, ◌^◌, ◌==◌, ◌≤◌, nat_lt, Bool, true, false, cond, List, [], ◌∷◌, length, take, drop, Option, Some, None, refl, sym, ap, subst, ◌∙◌, arith}
use Rattle.std.proofs.lemmas.Bool.Decides.{nat_tests}
use Rattle.std.proofs.lemmas.List.{length-take-le, length-drop}
use Rattle.std.specs.Cmp.Derive.{both_true}
use Rattle.std.specs.Int.{Width, w16, w32, w64, byte_len, from_be_bytes}
use Rattle.std.specs.Str.{is_utf8}
use Rattle.auction_rows.specs.Bounds.{is_item, is_user}
use Rattle.auction_rows.specs.Reading.{◌>>=◌, bytes_at, number_at, u8_at, id_at, text_at, byte_as, state_of, given_of, user_at, item_at, whole, user_of, item_of}
use Rattle.auction_rows.specs.Spelling.{item_bytes, user_bytes}
use Rattle.auction_rows.specs.declared.rows.ItemRow.{ItemRow}
use Rattle.auction_rows.specs.declared.rows.UserRow.{UserRow}
use Rattle.auction_rows.proofs.RowFields.{user_fields, user_by_fields, item_fields, item_by_fields}
use Rattle.auction_rows.proofs.Sizes.{user_size, item_size}
use Rattle.auction_site.proofs.Bounds.{are_few_of}

-- what was read was read of what was found before
step : {A B : Type 0} (o : Option A) (f : A → Option B) (y : B) (G : Type 0) → (o >>= f) ≡ Some y → ((x : A) → o ≡ Some x → f x ≡ Some y → G) → G
step (Some x) f y G is go = go x refl is
step None f y G is go = absurd (cc)

bytes_sized : (size : ℕ) (bytes : List ℕ) (y : List ℕ × List ℕ) → bytes_at size bytes ≡ Some y → (length y.0 ≡ size) × (length bytes ≡ size + length y.1)
unfolding bytes_at
bytes_sized size bytes y is = by_test (nat_lt (length bytes) size) refl is
  where
    by_test : (short : Bool) → nat_lt (length bytes) size ≡ short → cond short None (Some (take size bytes, drop size bytes)) ≡ Some y
        → (length y.0 ≡ size) × (length bytes ≡ size + length y.1)
    by_test true short e = absurd (cc)
    by_test false short e =
        let enough : size ≤ length bytes = grind (arith, nat_tests) in
        let same : (take size bytes, drop size bytes) ≡ y = cc in
        let P : List ℕ × List ℕ → Type 0 = λ z. (length z.0 ≡ size) × (length bytes ≡ size + length z.1) in
        subst P same (length-take-le size bytes enough, omega (arith, length-drop size bytes, enough))

number_sized : (width : Width) (bytes : List ℕ) (y : ℕ × List ℕ) → number_at width bytes ≡ Some y → length bytes ≡ byte_len width + length y.1
unfolding number_at
number_sized width bytes y is = by_test (nat_lt (length bytes) (byte_len width)) refl is
  where
    by_test : (short : Bool) → nat_lt (length bytes) (byte_len width) ≡ short
        → cond short None (Some (from_be_bytes width (take (byte_len width) bytes), drop (byte_len width) bytes)) ≡ Some y
        → length bytes ≡ byte_len width + length y.1
    by_test true short e = absurd (cc)
    by_test false short e =
        let enough : byte_len width ≤ length bytes = grind (arith, nat_tests) in
        let same : (from_be_bytes width (take (byte_len width) bytes), drop (byte_len width) bytes) ≡ y = cc in
        let size : length bytes ≡ byte_len width + length (drop (byte_len width) bytes) = omega (arith, length-drop (byte_len width) bytes, enough) in
        size ∙ ap (λ (z : ℕ × List ℕ). byte_len width + length z.1) same

id_sized : (bytes : List ℕ) (y : ℕ × List ℕ) → id_at bytes ≡ Some y → length bytes ≡ 8 + length y.1
unfolding id_at
id_sized bytes y is =
    step (number_at w64 bytes) _ y (length bytes ≡ 8 + length y.1) is (λ n at e. by_size (nat_lt n.0 (2 ^ 32)) n (number_sized w64 bytes n at) e)
  where
    by_size : (low : Bool) (n : ℕ × List ℕ) → length bytes ≡ 8 + length n.1 → cond low (Some n) None ≡ Some y → length bytes ≡ 8 + length y.1
    by_size true n size e = let same : n ≡ y = cc in size ∙ ap (λ (z : ℕ × List ℕ). 8 + length z.1) same
    by_size false n size e = absurd (cc)

byte_sized : (bytes : List ℕ) (y : ℕ × List ℕ) → u8_at bytes ≡ Some y → length bytes ≡ 1 + length y.1
unfolding u8_at
byte_sized [] y is = absurd (cc)
byte_sized (byte ∷ rest) y is = let same : (byte, rest) ≡ y = cc in let size = ap (λ (z : ℕ × List ℕ). 1 + length z.1) same in omega (arith, size)

as_sized : {A : Type 0} (make : ℕ → Option A) (bytes : List ℕ) (y : A × List ℕ) → byte_as make bytes ≡ Some y → length bytes ≡ 1 + length y.1
as_sized {A = A} make bytes y is =
    let G : Type 0 = length bytes ≡ 1 + length y.1 in
    step (u8_at bytes) _ y G is (λ byte at e.
    step (make byte.0) _ y G e (λ value made e2.
    let same : (value, byte.1) ≡ y = cc in
    byte_sized bytes byte at ∙ ap (λ (z : A × List ℕ). 1 + length z.1) same))

-- a text at the front of bytes
record IsTextOf (bytes : List ℕ) (y : List ℕ × List ℕ) : Type 0 where
  pub size : length bytes ≡ 2 + (length y.0 + length y.1)
  pub utf8 : is_utf8 y.0 ≡ true

text_sized : (bytes : List ℕ) (y : List ℕ × List ℕ) → text_at bytes ≡ Some y → IsTextOf bytes y
unfolding text_at
text_sized bytes y is =
    step (number_at w16 bytes) _ y (IsTextOf bytes y) is (λ size at e.
    step (bytes_at size.0 size.1) _ y (IsTextOf bytes y) e (λ text at2 e2.
    let first = number_sized w16 bytes size at in
    let parts = bytes_sized size.0 size.1 text at2 in
    by_utf8 (is_utf8 text.0) text refl (omega (arith, first, parts.0, parts.1)) e2))
  where
    by_utf8 : (valid : Bool) (text : List ℕ × List ℕ) → is_utf8 text.0 ≡ valid → length bytes ≡ 2 + (length text.0 + length text.1)
        → cond valid (Some text) None ≡ Some y → IsTextOf bytes y
    by_utf8 true text utf8 size e = let same : text ≡ y = cc in subst (λ z. IsTextOf bytes z) same (record { size = size; utf8 = utf8 })
    by_utf8 false text utf8 size e = absurd (cc)

-- an item at the front of bytes
record IsItemOf (bytes : List ℕ) (y : ItemRow × List ℕ) : Type 0 where
  pub size : length bytes ≡ 72 + (length y.0.title + length y.1)
  pub utf8 : is_utf8 y.0.title ≡ true

item_sized : (bytes : List ℕ) (y : ItemRow × List ℕ) → item_at bytes ≡ Some y → IsItemOf bytes y
item_sized bytes y is =
    let G : Type 0 = IsItemOf bytes y in
    let e : item_fields bytes ≡ Some y = sym (item_by_fields bytes) ∙ is in
    step (byte_as state_of bytes) _ y G e (λ state at1 e1.
    step (id_at state.1) _ y G e1 (λ seller at2 e2.
    step (id_at seller.1) _ y G e2 (λ category at3 e3.
    step (number_at w64 category.1) _ y G e3 (λ start at4 e4.
    step (number_at w64 start.1) _ y G e4 (λ buy_now at5 e5.
    step (number_at w64 buy_now.1) _ y G e5 (λ best at6 e6.
    step (id_at best.1) _ y G e6 (λ best_bidder at7 e7.
    step (number_at w32 best_bidder.1) _ y G e7 (λ bids at8 e8.
    step (number_at w64 bids.1) _ y G e8 (λ ends at9 e9.
    step (id_at ends.1) _ y G e9 (λ buyer at10 e10.
    step (byte_as given_of buyer.1) _ y G e10 (λ given at11 e11.
    step (text_at given.1) _ y G e11 (λ title at12 e12.
    let item : ItemRow = record { state = state.0; seller = seller.0; category = category.0; start = start.0; buy_now = buy_now.0; best = best.0; best_bidder = best_bidder.0; bids = bids.0; ends = record { 0 = ends.0 }; buyer = buyer.0; given = given.0; title = title.0 } in
    let same : (item, title.1) ≡ y = cc in
    let text = text_sized given.1 title at12 in
    let last = text.size in
    subst (λ z. IsItemOf bytes z) same (record {
      size = omega (
        arith,
        as_sized state_of bytes state at1,
        id_sized state.1 seller at2,
        id_sized seller.1 category at3,
        number_sized w64 category.1 start at4,
        number_sized w64 start.1 buy_now at5,
        number_sized w64 buy_now.1 best at6,
        id_sized best.1 best_bidder at7,
        number_sized w32 best_bidder.1 bids at8,
        number_sized w64 bids.1 ends at9,
        id_sized ends.1 buyer at10,
        as_sized given_of buyer.1 given at11,
        last,
      );
      utf8 = text.utf8;
    })))))))))))))

-- a user at the front of bytes
record IsUserOf (bytes : List ℕ) (y : UserRow × List ℕ) : Type 0 where
  pub size : length bytes ≡ 14 + (length y.0.name + length y.0.salt + length y.0.digest + length y.1)
  pub utf8 : is_utf8 y.0.name ≡ true

user_sized : (bytes : List ℕ) (y : UserRow × List ℕ) → user_at bytes ≡ Some y → IsUserOf bytes y
user_sized bytes y is =
    let G : Type 0 = IsUserOf bytes y in
    let e : user_fields bytes ≡ Some y = sym (user_by_fields bytes) ∙ is in
    step (text_at bytes) _ y G e (λ name at1 e1.
    step (bytes_at 8 name.1) _ y G e1 (λ salt at2 e2.
    step (bytes_at 32 salt.1) _ y G e2 (λ digest at3 e3.
    step (number_at w32 digest.1) _ y G e3 (λ good at4 e4.
    step (number_at w32 good.1) _ y G e4 (λ bad at5 e5.
    step (number_at w32 bad.1) _ y G e5 (λ items at6 e6.
    let user : UserRow = record { name = name.0; salt = salt.0; digest = digest.0; good = good.0; bad = bad.0; items = items.0 } in
    let same : (user, items.1) ≡ y = cc in
    let text = text_sized bytes name at1 in
    let first = text.size in
    let salted = bytes_sized 8 name.1 salt at2 in
    let hashed = bytes_sized 32 salt.1 digest at3 in
    subst (λ z. IsUserOf bytes z) same (record {
      size = omega (
        arith,
        first,
        salted.0,
        salted.1,
        hashed.0,
        hashed.1,
        number_sized w32 digest.1 good at4,
        number_sized w32 good.1 bad at5,
        number_sized w32 bad.1 items at6,
      );
      utf8 = text.utf8;
    })))))))

-- the whole of few bytes was read
whole_sized : {A : Type 0} (field : List ℕ → Option (A × List ℕ)) (bytes : List ℕ) (x : A) (G : Type 0) → whole field bytes ≡ Some x
    → ((rest : List ℕ) → field bytes ≡ Some (x, rest) → length rest ≡ 0 → length bytes ≤ 4096 → G) → G
whole_sized {A = A} field bytes x G is go =
    step (cond (nat_lt 4096 (length bytes)) None (field bytes)) _ x G is (λ found at e.
    by_few (nat_lt 4096 (length bytes)) refl found at e)
  where
    by_end : (none : Bool) (found : A × List ℕ) → (length found.1 == 0) ≡ none → field bytes ≡ Some found → length bytes ≤ 4096
        → cond none (Some found.0) None ≡ Some x → G
    by_end true found none at few e =
        let same : found.0 ≡ x = cc in
        let end : length found.1 ≡ 0 = grind (arith, nat_tests) in
        go found.1 (at ∙ ap (λ (z : A). Some (z, found.1)) same) end few
    by_end false found none at few e = absurd (cc)

    by_few : (many : Bool) → nat_lt 4096 (length bytes) ≡ many → (found : A × List ℕ) → cond many None (field bytes) ≡ Some found
        → cond (length found.1 == 0) (Some found.0) None ≡ Some x → G
    by_few true many found at e = absurd (cc)
    by_few false many found at e = by_end (length found.1 == 0) found refl at (grind (arith, nat_tests)) e

pub item_within : (bytes : List ℕ) (item : ItemRow) → item_of bytes ≡ Some item → is_item item ≡ true
unfolding item_of
item_within bytes item is =
    whole_sized item_at bytes item (is_item item ≡ true) is (λ rest at none few.
    let read = item_sized bytes (item, rest) at in
    let size = read.size in
    both_true read.utf8
    (are_few_of (item_bytes item) (72 + length item.title) (item_size item) (omega (arith, size, none, few))))

pub user_within : (bytes : List ℕ) (user : UserRow) → user_of bytes ≡ Some user → is_user user ≡ true
unfolding user_of
user_within bytes user is =
    whole_sized user_at bytes user (is_user user ≡ true) is (λ rest at none few.
    let read = user_sized bytes (user, rest) at in
    let size = read.size in
    both_true read.utf8
    (are_few_of (user_bytes user) (14 + (length user.name + (length user.salt + length user.digest))) (user_size user) (omega (arith, size, none, few))))
