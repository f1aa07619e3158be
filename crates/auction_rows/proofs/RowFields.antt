-- Items and users, which are read part by part, are read field by field.
use Rattle.std.proofs.Common.{◌≡◌, List, ℕ, Option, Some, None, refl, ◌∙◌}
use Rattle.std.specs.Int.{w32, w64}
use Rattle.byte_fields.specs.Reading.{◌>>=◌, Field, byte_as, bytes_at, number_at, id_at, text_at}
use Rattle.auction_rows.specs.declared.item_parts.ItemAmounts.{ItemAmounts}
use Rattle.auction_rows.specs.declared.item_parts.ItemEnd.{ItemEnd}
use Rattle.auction_rows.specs.declared.item_parts.ItemHead.{ItemHead}
use Rattle.auction_rows.specs.declared.rows.ItemRow.{ItemRow}
use Rattle.auction_rows.specs.declared.rows.UserRow.{UserRow}
use Rattle.auction_rows.specs.Reading.{state_of, given_of, item_head_at, item_amounts_at, item_end_at, item_at, user_tail_at, user_at}

-- a value of so many parts, and what is read behind it
in_one : {A X B : Type 0} (a : Option A) (make : A → X) (g : X → Option B)
    → ((a >>= λ x. Some (make x)) >>= g) ≡ (a >>= λ x. g (make x))
in_one None make g = refl
in_one (Some x) make g = refl

in_two : {A B X C : Type 0} (a : Option A) (b : A → Option B) (make : A → B → X) (g : X → Option C)
    → ((a >>= λ x. b x >>= λ y. Some (make x y)) >>= g) ≡ (a >>= λ x. b x >>= λ y. g (make x y))
in_two None b make g = refl
in_two (Some x) b make g = in_one (b x) (make x) g

in_three : {A B C X D : Type 0} (a : Option A) (b : A → Option B) (c : B → Option C) (make : A → B → C → X) (g : X → Option D)
    → ((a >>= λ x. b x >>= λ y. c y >>= λ z. Some (make x y z)) >>= g) ≡ (a >>= λ x. b x >>= λ y. c y >>= λ z. g (make x y z))
in_three None b c make g = refl
in_three (Some x) b c make g = in_two (b x) c (make x) g

in_four : {A B C D X E : Type 0} (a : Option A) (b : A → Option B) (c : B → Option C) (d : C → Option D) (make : A → B → C → D → X) (g : X → Option E)
    → ((a >>= λ x. b x >>= λ y. c y >>= λ z. d z >>= λ u. Some (make x y z u)) >>= g)
    ≡ (a >>= λ x. b x >>= λ y. c y >>= λ z. d z >>= λ u. g (make x y z u))
in_four None b c d make g = refl
in_four (Some x) b c d make g = in_three (b x) c d (make x) g

in_five : {A B C D E X F : Type 0} (a : Option A) (b : A → Option B) (c : B → Option C) (d : C → Option D) (e : D → Option E) (make : A → B → C → D → E → X) (g : X → Option F)
    → ((a >>= λ x. b x >>= λ y. c y >>= λ z. d z >>= λ u. e u >>= λ v. Some (make x y z u v)) >>= g)
    ≡ (a >>= λ x. b x >>= λ y. c y >>= λ z. d z >>= λ u. e u >>= λ v. g (make x y z u v))
in_five None b c d e make g = refl
in_five (Some x) b c d e make g = in_four (b x) c d e (make x) g

-- the same is read behind each value
behind : {A B : Type 0} (o : Option A) (f g : A → Option B) → ((x : A) → f x ≡ g x) → (o >>= f) ≡ (o >>= g)
behind None f g same = refl
behind (Some x) f g same = same x

-- a user, field by field
abbrev pub user_fields : Field UserRow
user_fields bytes = do
  name ← text_at bytes
  salt ← bytes_at 8 name.1
  digest ← bytes_at 32 salt.1
  good ← number_at w32 digest.1
  bad ← number_at w32 good.1
  items ← number_at w32 bad.1
  Some (record { name = name.0; salt = salt.0; digest = digest.0; good = good.0; bad = bad.0; items = items.0 }, items.1)

pub user_by_fields : (bytes : List ℕ) → user_at bytes ≡ user_fields bytes
unfolding user_at user_tail_at
user_by_fields bytes =
    behind (text_at bytes) _ _ (λ name.
    in_five (bytes_at 8 name.1) (λ salt. bytes_at 32 salt.1) (λ digest. number_at w32 digest.1) (λ good. number_at w32 good.1) (λ bad. number_at w32 bad.1)
    (λ salt digest good bad items. (record { salt = salt.0; digest = digest.0; good = good.0; bad = bad.0; items = items.0 }, items.1)) _)

-- an item, field by field
abbrev pub item_fields : Field ItemRow
item_fields bytes = do
  state ← byte_as state_of bytes
  seller ← id_at state.1
  category ← id_at seller.1
  start ← number_at w64 category.1
  buy_now ← number_at w64 start.1
  best ← number_at w64 buy_now.1
  best_bidder ← id_at best.1
  bids ← number_at w32 best_bidder.1
  ends ← number_at w64 bids.1
  buyer ← id_at ends.1
  given ← byte_as given_of buyer.1
  title ← text_at given.1
  Some (record { state = state.0; seller = seller.0; category = category.0; start = start.0; buy_now = buy_now.0; best = best.0; best_bidder = best_bidder.0; bids = bids.0; ends = record { 0 = ends.0 }; buyer = buyer.0; given = given.0; title = title.0 }, title.1)

-- what an item has behind each part
behind_end : ItemHead → ItemAmounts → ItemEnd × List ℕ → Option (ItemRow × List ℕ)
behind_end head amounts end = do
  title ← text_at end.1
  Some (record { state = head.state; seller = head.seller; category = head.category; start = amounts.start; buy_now = amounts.buy_now; best = amounts.best; best_bidder = amounts.best_bidder; bids = amounts.bids; ends = end.0.ends; buyer = end.0.buyer; given = end.0.given; title = title.0 }, title.1)

behind_amounts : ItemHead → ItemAmounts × List ℕ → Option (ItemRow × List ℕ)
behind_amounts head amounts = item_end_at amounts.1 >>= λ end. behind_end head amounts.0 end

behind_head : ItemHead × List ℕ → Option (ItemRow × List ℕ)
behind_head head = item_amounts_at head.1 >>= λ amounts. behind_amounts head.0 amounts

pub item_by_fields : (bytes : List ℕ) → item_at bytes ≡ item_fields bytes
unfolding item_at item_head_at item_amounts_at item_end_at behind_head behind_amounts behind_end
item_by_fields bytes =
    in_three (byte_as state_of bytes) (λ state. id_at state.1) (λ seller. id_at seller.1)
    (λ state seller category. (record { state = state.0; seller = seller.0; category = category.0 }, category.1)) behind_head
    ∙ behind (byte_as state_of bytes) _ _ (λ state. behind (id_at state.1) _ _ (λ seller. behind (id_at seller.1) _ _ (λ category.
    let head : ItemHead = record { state = state.0; seller = seller.0; category = category.0 } in
    in_five (number_at w64 category.1) (λ start. number_at w64 start.1) (λ buy_now. number_at w64 buy_now.1) (λ best. id_at best.1) (λ bidder. number_at w32 bidder.1)
    (λ start buy_now best best_bidder bids. (record { start = start.0; buy_now = buy_now.0; best = best.0; best_bidder = best_bidder.0; bids = bids.0 }, bids.1)) (behind_amounts head)
    ∙ behind (number_at w64 category.1) _ _ (λ start. behind (number_at w64 start.1) _ _ (λ buy_now. behind (number_at w64 buy_now.1) _ _ (λ best.
    behind (id_at best.1) _ _ (λ best_bidder. behind (number_at w32 best_bidder.1) _ _ (λ bids.
    let amounts : ItemAmounts = record { start = start.0; buy_now = buy_now.0; best = best.0; best_bidder = best_bidder.0; bids = bids.0 } in
    in_three (number_at w64 bids.1) (λ ends. id_at ends.1) (λ buyer. byte_as given_of buyer.1)
    (λ ends buyer given. (record { ends = record { 0 = ends.0 }; buyer = buyer.0; given = given.0 }, given.1)) (behind_end head amounts)))))))))
