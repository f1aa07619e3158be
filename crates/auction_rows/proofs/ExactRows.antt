-- Rows are exact: what is read is spelled so, and what is spelled so is read.
use Rattle.std.proofs.Common.{◌≡◌, ℕ, ◌^◌, ◌<◌, true, List, ◌++◌, Option, Some, IfSome, refl, subst, sym, ◌∙◌, append_assoc, arith}
use Rattle.std.specs.Str.{is_utf8}
use Rattle.auction_rows.specs.declared.rows.BidRow.{BidRow}
use Rattle.auction_rows.specs.declared.rows.CategoryRow.{CategoryRow}
use Rattle.auction_rows.specs.declared.rows.CounterRow.{CounterRow}
use Rattle.auction_rows.specs.declared.rows.EntryRow.{EntryRow}
use Rattle.auction_rows.specs.declared.rows.FeedbackRow.{FeedbackRow}
use Rattle.auction_rows.specs.declared.rows.ItemRow.{ItemRow}
use Rattle.auction_rows.specs.declared.rows.NameRow.{NameRow}
use Rattle.auction_rows.specs.declared.rows.OwnItemRow.{OwnItemRow}
use Rattle.auction_rows.specs.declared.rows.UserRow.{UserRow}
use Rattle.auction_rows.specs.Bounds.{AreBytes, fits_a_row, is_user, is_name, is_counter, is_item, is_category, is_bid, is_entry, is_feedback, is_own_item, IsUser, IsName, IsCounter, IsItem, IsCategory, IsBid, IsEntry, IsFeedback, IsOwnItem}
use Rattle.auction_rows.specs.Reading.{user_at, name_at, counter_at, item_at, category_at, bid_at, entry_at, feedback_at, own_item_at, user_of, name_of, counter_of, item_of, category_of, bid_of, entry_of, feedback_of, own_item_of}
use Rattle.auction_rows.specs.Spelling.{item_to_category, item_to_bids, item_numbers, user_bytes, name_bytes, counter_bytes, item_bytes, category_bytes, bid_bytes, entry_bytes, feedback_bytes, own_item_bytes}
use Rattle.byte_fields.proofs.Exact.{start, taken, again}
use Rattle.byte_fields.proofs.ExactFields.{bytes_exact, u32_exact, u64_exact, id_exact, IsText, text_exact, flag_exact}
use Rattle.auction_rows.proofs.Exact.{both_true, split, Reads, AreExact, whole_takes, whole_again, IsExactRow, found_within}
use Rattle.auction_rows.proofs.ExactFields.{state_exact, given_exact}
use Rattle.auction_rows.proofs.RowFields.{user_fields, user_by_fields, item_fields, item_by_fields}
use Rattle.auction_rows.proofs.Sizes.{user_short, name_short, item_short, category_short, feedback_short, counter_few, bid_few, entry_few, own_item_few}

-- a number below 2^32 is one below 2^64
wide : (n : ℕ) → n < 2 ^ 32 → n < 2 ^ 64
wide n h = omega arith

-- user: its text
user_text : (row : UserRow) → IsUser row → IsText row.name
user_text row h = record { utf8 = (split (is_utf8 row.name) (fits_a_row (user_bytes row)) h.within).0; few = user_short row h.within }

-- its fields
user_taken : (bytes : List ℕ) (y : UserRow × List ℕ) → AreBytes bytes → user_at bytes ≡ Some y → Reads user_bytes IsUser bytes y.0 y.1
unfolding user_bytes
user_taken bytes y are is =
    let G : Type 0 = Reads user_bytes IsUser bytes y.0 y.1 in
    let e : user_fields bytes ≡ Some y = sym (user_by_fields bytes) ∙ is in
    taken text_exact bytes _ bytes _ y G (start bytes are) e (λ name_ r1 t1 h1 e1.
    taken (bytes_exact 8) bytes _ r1 _ y G t1 e1 (λ salt_ r2 t2 h2 e2.
    taken (bytes_exact 32) bytes _ r2 _ y G t2 e2 (λ digest_ r3 t3 h3 e3.
    taken u32_exact bytes _ r3 _ y G t3 e3 (λ good_ r4 t4 h4 e4.
    taken u32_exact bytes _ r4 _ y G t4 e4 (λ bad_ r5 t5 h5 e5.
    taken u32_exact bytes _ r5 _ y G t5 e5 (λ items_ r6 t6 h6 e6.
    let row : UserRow = record { name = name_; salt = salt_; digest = digest_; good = good_; bad = bad_; items = items_ } in
    let same : (row, r6) ≡ y = cc in
    let P : UserRow × List ℕ → Type 0 = λ z. Reads user_bytes IsUser bytes z.0 z.1 in
    subst P same (record { takes = t6; is_in = λ few. record { within = both_true (is_utf8 name_) (fits_a_row (user_bytes row)) h1.utf8 few; salt = h2; digest = h3; good = h4; bad = h5; items = h6 } })))))))

user_again : (row : UserRow) (rest : List ℕ) → IsUser row → user_at (user_bytes row ++ rest) ≡ Some (row, rest)
unfolding user_bytes
user_again row rest h =
    let text : IsText row.name = user_text row h in
    let read : user_fields (user_bytes row ++ rest) ≡ Some (row, rest) =
    simp append_assoc
    (again text_exact row.name _ _ _ text
    (again (bytes_exact 8) row.salt _ _ _ h.salt
    (again (bytes_exact 32) row.digest _ _ _ h.digest
    (again u32_exact row.good _ _ _ h.good
    (again u32_exact row.bad _ _ _ h.bad
    (again u32_exact row.items _ _ _ h.items refl)))))) in
    user_by_fields (user_bytes row ++ rest) ∙ read

pub user_exact : IsExactRow user_of user_bytes IsUser
unfolding user_of
user_exact =
    let fields : AreExact user_at user_bytes IsUser = record { takes = user_taken; again = user_again; few = λ row h. (split (is_utf8 row.name) (fits_a_row (user_bytes row)) h.within).1 } in
    record { takes = whole_takes fields; again = whole_again fields }

-- name: its text
name_text : (row : NameRow) → IsName row → IsText row.name
name_text row h = record { utf8 = (split (is_utf8 row.name) (fits_a_row (name_bytes row)) h.within).0; few = name_short row h.within }

-- its fields
name_taken : (bytes : List ℕ) (y : NameRow × List ℕ) → AreBytes bytes → name_at bytes ≡ Some y → Reads name_bytes IsName bytes y.0 y.1
unfolding name_at name_bytes
name_taken bytes y are e =
    let G : Type 0 = Reads name_bytes IsName bytes y.0 y.1 in
    taken text_exact bytes _ bytes _ y G (start bytes are) e (λ name_ r1 t1 h1 e1.
    taken id_exact bytes _ r1 _ y G t1 e1 (λ user_ r2 t2 h2 e2.
    let row : NameRow = record { name = name_; user = user_ } in
    let same : (row, r2) ≡ y = cc in
    let P : NameRow × List ℕ → Type 0 = λ z. Reads name_bytes IsName bytes z.0 z.1 in
    subst P same (record { takes = t2; is_in = λ few. record { within = both_true (is_utf8 name_) (fits_a_row (name_bytes row)) h1.utf8 few; user = h2 } })))

name_again : (row : NameRow) (rest : List ℕ) → IsName row → name_at (name_bytes row ++ rest) ≡ Some (row, rest)
unfolding name_at name_bytes
name_again row rest h =
    let text : IsText row.name = name_text row h in
    simp append_assoc
    (again text_exact row.name _ _ _ text
    (again id_exact row.user _ _ _ h.user refl))

pub name_exact : IsExactRow name_of name_bytes IsName
unfolding name_of
name_exact =
    let fields : AreExact name_at name_bytes IsName = record { takes = name_taken; again = name_again; few = λ row h. (split (is_utf8 row.name) (fits_a_row (name_bytes row)) h.within).1 } in
    record { takes = whole_takes fields; again = whole_again fields }

-- counter
counter_taken : (bytes : List ℕ) (y : CounterRow × List ℕ) → AreBytes bytes → counter_at bytes ≡ Some y → Reads counter_bytes IsCounter bytes y.0 y.1
unfolding counter_at counter_bytes
counter_taken bytes y are e =
    let G : Type 0 = Reads counter_bytes IsCounter bytes y.0 y.1 in
    taken u64_exact bytes _ bytes _ y G (start bytes are) e (λ count_ r1 t1 h1 e1.
    let row : CounterRow = record { count = count_ } in
    let same : (row, r1) ≡ y = cc in
    let P : CounterRow × List ℕ → Type 0 = λ z. Reads counter_bytes IsCounter bytes z.0 z.1 in
    subst P same (record { takes = t1; is_in = λ few. record { count = h1 } }))

counter_again : (row : CounterRow) (rest : List ℕ) → IsCounter row → counter_at (counter_bytes row ++ rest) ≡ Some (row, rest)
unfolding counter_at counter_bytes
counter_again row rest h =
    (again u64_exact row.count _ _ _ h.count refl)

pub counter_exact : IsExactRow counter_of counter_bytes IsCounter
unfolding counter_of
counter_exact =
    let fields : AreExact counter_at counter_bytes IsCounter = record { takes = counter_taken; again = counter_again; few = λ row h. counter_few row } in
    record { takes = whole_takes fields; again = whole_again fields }

-- item: its text
item_text : (row : ItemRow) → IsItem row → IsText row.title
item_text row h = record { utf8 = (split (is_utf8 row.title) (fits_a_row (item_bytes row)) h.within).0; few = item_short row h.within }

-- its fields
item_taken : (bytes : List ℕ) (y : ItemRow × List ℕ) → AreBytes bytes → item_at bytes ≡ Some y → Reads item_bytes IsItem bytes y.0 y.1
unfolding item_bytes item_numbers item_to_bids item_to_category
item_taken bytes y are is =
    let G : Type 0 = Reads item_bytes IsItem bytes y.0 y.1 in
    let e : item_fields bytes ≡ Some y = sym (item_by_fields bytes) ∙ is in
    taken state_exact bytes _ bytes _ y G (start bytes are) e (λ state_ r1 t1 h1 e1.
    taken id_exact bytes _ r1 _ y G t1 e1 (λ seller_ r2 t2 h2 e2.
    taken id_exact bytes _ r2 _ y G t2 e2 (λ category_ r3 t3 h3 e3.
    taken u64_exact bytes _ r3 _ y G t3 e3 (λ start_ r4 t4 h4 e4.
    taken u64_exact bytes _ r4 _ y G t4 e4 (λ buy_now_ r5 t5 h5 e5.
    taken u64_exact bytes _ r5 _ y G t5 e5 (λ best_ r6 t6 h6 e6.
    taken id_exact bytes _ r6 _ y G t6 e6 (λ best_bidder_ r7 t7 h7 e7.
    taken u32_exact bytes _ r7 _ y G t7 e7 (λ bids_ r8 t8 h8 e8.
    taken u64_exact bytes _ r8 _ y G t8 e8 (λ ends_ r9 t9 h9 e9.
    taken id_exact bytes _ r9 _ y G t9 e9 (λ buyer_ r10 t10 h10 e10.
    taken given_exact bytes _ r10 _ y G t10 e10 (λ given_ r11 t11 h11 e11.
    taken text_exact bytes _ r11 _ y G t11 e11 (λ title_ r12 t12 h12 e12.
    let row : ItemRow = record { state = state_; seller = seller_; category = category_; start = start_; buy_now = buy_now_; best = best_; best_bidder = best_bidder_; bids = bids_; ends = record { 0 = ends_ }; buyer = buyer_; given = given_; title = title_ } in
    let same : (row, r12) ≡ y = cc in
    let P : ItemRow × List ℕ → Type 0 = λ z. Reads item_bytes IsItem bytes z.0 z.1 in
    subst P same (record { takes = t12; is_in = λ few. record { within = both_true (is_utf8 title_) (fits_a_row (item_bytes row)) h12.utf8 few; seller = h2; category = h3; start = h4; buy_now = h5; best = h6; best_bidder = h7; bids = h8; ends = h9; buyer = h10 } })))))))))))))

item_again : (row : ItemRow) (rest : List ℕ) → IsItem row → item_at (item_bytes row ++ rest) ≡ Some (row, rest)
unfolding item_bytes item_numbers item_to_bids item_to_category
item_again row rest h =
    let text : IsText row.title = item_text row h in
    let read : item_fields (item_bytes row ++ rest) ≡ Some (row, rest) =
    simp append_assoc
    (again state_exact row.state _ _ _ tt
    (again id_exact row.seller _ _ _ h.seller
    (again id_exact row.category _ _ _ h.category
    (again u64_exact row.start _ _ _ h.start
    (again u64_exact row.buy_now _ _ _ h.buy_now
    (again u64_exact row.best _ _ _ h.best
    (again id_exact row.best_bidder _ _ _ h.best_bidder
    (again u32_exact row.bids _ _ _ h.bids
    (again u64_exact row.ends.0 _ _ _ h.ends
    (again id_exact row.buyer _ _ _ h.buyer
    (again given_exact row.given _ _ _ tt
    (again text_exact row.title _ _ _ text refl)))))))))))) in
    item_by_fields (item_bytes row ++ rest) ∙ read

pub item_exact : IsExactRow item_of item_bytes IsItem
unfolding item_of
item_exact =
    let fields : AreExact item_at item_bytes IsItem = record { takes = item_taken; again = item_again; few = λ row h. (split (is_utf8 row.title) (fits_a_row (item_bytes row)) h.within).1 } in
    record { takes = whole_takes fields; again = whole_again fields }

-- category: its text
category_text : (row : CategoryRow) → IsCategory row → IsText row.name
category_text row h = record { utf8 = (split (is_utf8 row.name) (fits_a_row (category_bytes row)) h.within).0; few = category_short row h.within }

-- its fields
category_taken : (bytes : List ℕ) (y : CategoryRow × List ℕ) → AreBytes bytes → category_at bytes ≡ Some y → Reads category_bytes IsCategory bytes y.0 y.1
unfolding category_at category_bytes
category_taken bytes y are e =
    let G : Type 0 = Reads category_bytes IsCategory bytes y.0 y.1 in
    taken text_exact bytes _ bytes _ y G (start bytes are) e (λ name_ r1 t1 h1 e1.
    let row : CategoryRow = record { name = name_ } in
    let same : (row, r1) ≡ y = cc in
    let P : CategoryRow × List ℕ → Type 0 = λ z. Reads category_bytes IsCategory bytes z.0 z.1 in
    subst P same (record { takes = t1; is_in = λ few. record { within = both_true (is_utf8 name_) (fits_a_row (category_bytes row)) h1.utf8 few } }))

category_again : (row : CategoryRow) (rest : List ℕ) → IsCategory row → category_at (category_bytes row ++ rest) ≡ Some (row, rest)
unfolding category_at category_bytes
category_again row rest h =
    let text : IsText row.name = category_text row h in
    (again text_exact row.name _ _ _ text refl)

pub category_exact : IsExactRow category_of category_bytes IsCategory
unfolding category_of
category_exact =
    let fields : AreExact category_at category_bytes IsCategory = record { takes = category_taken; again = category_again; few = λ row h. (split (is_utf8 row.name) (fits_a_row (category_bytes row)) h.within).1 } in
    record { takes = whole_takes fields; again = whole_again fields }

-- bid
bid_taken : (bytes : List ℕ) (y : BidRow × List ℕ) → AreBytes bytes → bid_at bytes ≡ Some y → Reads bid_bytes IsBid bytes y.0 y.1
unfolding bid_at bid_bytes
bid_taken bytes y are e =
    let G : Type 0 = Reads bid_bytes IsBid bytes y.0 y.1 in
    taken id_exact bytes _ bytes _ y G (start bytes are) e (λ bidder_ r1 t1 h1 e1.
    taken u64_exact bytes _ r1 _ y G t1 e1 (λ amount_ r2 t2 h2 e2.
    taken u64_exact bytes _ r2 _ y G t2 e2 (λ moment_ r3 t3 h3 e3.
    let row : BidRow = record { bidder = bidder_; amount = amount_; moment = record { 0 = moment_ } } in
    let same : (row, r3) ≡ y = cc in
    let P : BidRow × List ℕ → Type 0 = λ z. Reads bid_bytes IsBid bytes z.0 z.1 in
    subst P same (record { takes = t3; is_in = λ few. record { bidder = h1; amount = h2; moment = h3 } }))))

bid_again : (row : BidRow) (rest : List ℕ) → IsBid row → bid_at (bid_bytes row ++ rest) ≡ Some (row, rest)
unfolding bid_at bid_bytes
bid_again row rest h =
    simp append_assoc
    (again id_exact row.bidder _ _ _ h.bidder
    (again u64_exact row.amount _ _ _ h.amount
    (again u64_exact row.moment.0 _ _ _ h.moment refl)))

pub bid_exact : IsExactRow bid_of bid_bytes IsBid
unfolding bid_of
bid_exact =
    let fields : AreExact bid_at bid_bytes IsBid = record { takes = bid_taken; again = bid_again; few = λ row h. bid_few row } in
    record { takes = whole_takes fields; again = whole_again fields }

-- entry
entry_taken : (bytes : List ℕ) (y : EntryRow × List ℕ) → AreBytes bytes → entry_at bytes ≡ Some y → Reads entry_bytes IsEntry bytes y.0 y.1
unfolding entry_at entry_bytes
entry_taken bytes y are e =
    let G : Type 0 = Reads entry_bytes IsEntry bytes y.0 y.1 in
    taken id_exact bytes _ bytes _ y G (start bytes are) e (λ item_ r1 t1 h1 e1.
    let row : EntryRow = record { item = item_ } in
    let same : (row, r1) ≡ y = cc in
    let P : EntryRow × List ℕ → Type 0 = λ z. Reads entry_bytes IsEntry bytes z.0 z.1 in
    subst P same (record { takes = t1; is_in = λ few. record { item = h1 } }))

entry_again : (row : EntryRow) (rest : List ℕ) → IsEntry row → entry_at (entry_bytes row ++ rest) ≡ Some (row, rest)
unfolding entry_at entry_bytes
entry_again row rest h =
    (again id_exact row.item _ _ _ h.item refl)

pub entry_exact : IsExactRow entry_of entry_bytes IsEntry
unfolding entry_of
entry_exact =
    let fields : AreExact entry_at entry_bytes IsEntry = record { takes = entry_taken; again = entry_again; few = λ row h. entry_few row } in
    record { takes = whole_takes fields; again = whole_again fields }

-- feedback: its text
feedback_text : (row : FeedbackRow) → IsFeedback row → IsText row.text
feedback_text row h = record { utf8 = (split (is_utf8 row.text) (fits_a_row (feedback_bytes row)) h.within).0; few = feedback_short row h.within }

-- its fields
feedback_taken : (bytes : List ℕ) (y : FeedbackRow × List ℕ) → AreBytes bytes → feedback_at bytes ≡ Some y → Reads feedback_bytes IsFeedback bytes y.0 y.1
unfolding feedback_at feedback_bytes
feedback_taken bytes y are e =
    let G : Type 0 = Reads feedback_bytes IsFeedback bytes y.0 y.1 in
    taken id_exact bytes _ bytes _ y G (start bytes are) e (λ from_ r1 t1 h1 e1.
    taken id_exact bytes _ r1 _ y G t1 e1 (λ item_ r2 t2 h2 e2.
    taken flag_exact bytes _ r2 _ y G t2 e2 (λ good_ r3 t3 h3 e3.
    taken text_exact bytes _ r3 _ y G t3 e3 (λ text_ r4 t4 h4 e4.
    let row : FeedbackRow = record { from = from_; item = item_; good = good_; text = text_ } in
    let same : (row, r4) ≡ y = cc in
    let P : FeedbackRow × List ℕ → Type 0 = λ z. Reads feedback_bytes IsFeedback bytes z.0 z.1 in
    subst P same (record { takes = t4; is_in = λ few. record { within = both_true (is_utf8 text_) (fits_a_row (feedback_bytes row)) h4.utf8 few; from = h1; item = h2 } })))))

feedback_again : (row : FeedbackRow) (rest : List ℕ) → IsFeedback row → feedback_at (feedback_bytes row ++ rest) ≡ Some (row, rest)
unfolding feedback_at feedback_bytes
feedback_again row rest h =
    let text : IsText row.text = feedback_text row h in
    simp append_assoc
    (again id_exact row.from _ _ _ h.from
    (again id_exact row.item _ _ _ h.item
    (again flag_exact row.good _ _ _ tt
    (again text_exact row.text _ _ _ text refl))))

pub feedback_exact : IsExactRow feedback_of feedback_bytes IsFeedback
unfolding feedback_of
feedback_exact =
    let fields : AreExact feedback_at feedback_bytes IsFeedback = record { takes = feedback_taken; again = feedback_again; few = λ row h. (split (is_utf8 row.text) (fits_a_row (feedback_bytes row)) h.within).1 } in
    record { takes = whole_takes fields; again = whole_again fields }

-- own item
own_item_taken : (bytes : List ℕ) (y : OwnItemRow × List ℕ) → AreBytes bytes → own_item_at bytes ≡ Some y → Reads own_item_bytes IsOwnItem bytes y.0 y.1
unfolding own_item_at own_item_bytes
own_item_taken bytes y are e =
    let G : Type 0 = Reads own_item_bytes IsOwnItem bytes y.0 y.1 in
    taken id_exact bytes _ bytes _ y G (start bytes are) e (λ item_ r1 t1 h1 e1.
    let row : OwnItemRow = record { item = item_ } in
    let same : (row, r1) ≡ y = cc in
    let P : OwnItemRow × List ℕ → Type 0 = λ z. Reads own_item_bytes IsOwnItem bytes z.0 z.1 in
    subst P same (record { takes = t1; is_in = λ few. record { item = h1 } }))

own_item_again : (row : OwnItemRow) (rest : List ℕ) → IsOwnItem row → own_item_at (own_item_bytes row ++ rest) ≡ Some (row, rest)
unfolding own_item_at own_item_bytes
own_item_again row rest h =
    (again id_exact row.item _ _ _ h.item refl)

pub own_item_exact : IsExactRow own_item_of own_item_bytes IsOwnItem
unfolding own_item_of
own_item_exact =
    let fields : AreExact own_item_at own_item_bytes IsOwnItem = record { takes = own_item_taken; again = own_item_again; few = λ row h. own_item_few row } in
    record { takes = whole_takes fields; again = whole_again fields }

pub user_within : (bytes : List ℕ) (found : Option UserRow) → AreBytes bytes → found ≡ user_of bytes → IfSome found (λ row. is_user row ≡ true)
user_within bytes found are e = found_within user_exact is_user (λ row h. h.within) bytes found are e

pub name_within : (bytes : List ℕ) (found : Option NameRow) → AreBytes bytes → found ≡ name_of bytes → IfSome found (λ row. is_name row ≡ true)
name_within bytes found are e = found_within name_exact is_name (λ row h. h.within) bytes found are e

pub counter_within : (bytes : List ℕ) (found : Option CounterRow) → AreBytes bytes → found ≡ counter_of bytes → IfSome found (λ row. is_counter row ≡ true)
counter_within bytes found are e = found_within counter_exact is_counter (λ row h. counter_few row) bytes found are e

pub item_within : (bytes : List ℕ) (found : Option ItemRow) → AreBytes bytes → found ≡ item_of bytes → IfSome found (λ row. is_item row ≡ true)
item_within bytes found are e = found_within item_exact is_item (λ row h. h.within) bytes found are e

pub category_within : (bytes : List ℕ) (found : Option CategoryRow) → AreBytes bytes → found ≡ category_of bytes → IfSome found (λ row. is_category row ≡ true)
category_within bytes found are e = found_within category_exact is_category (λ row h. h.within) bytes found are e

pub bid_within : (bytes : List ℕ) (found : Option BidRow) → AreBytes bytes → found ≡ bid_of bytes → IfSome found (λ row. is_bid row ≡ true)
bid_within bytes found are e = found_within bid_exact is_bid (λ row h. bid_few row) bytes found are e

pub entry_within : (bytes : List ℕ) (found : Option EntryRow) → AreBytes bytes → found ≡ entry_of bytes → IfSome found (λ row. is_entry row ≡ true)
entry_within bytes found are e = found_within entry_exact is_entry (λ row h. entry_few row) bytes found are e

pub feedback_within : (bytes : List ℕ) (found : Option FeedbackRow) → AreBytes bytes → found ≡ feedback_of bytes → IfSome found (λ row. is_feedback row ≡ true)
feedback_within bytes found are e = found_within feedback_exact is_feedback (λ row h. h.within) bytes found are e

pub own_item_within : (bytes : List ℕ) (found : Option OwnItemRow) → AreBytes bytes → found ≡ own_item_of bytes → IfSome found (λ row. is_own_item row ≡ true)
own_item_within bytes found are e = found_within own_item_exact is_own_item (λ row h. own_item_few row) bytes found are e
