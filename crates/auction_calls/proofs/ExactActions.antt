-- The actions of calls are exact: what is read is of its number and spelled by its fields, and what they spell is read.
use Rattle.std.proofs.Common.{◌≡◌, ℕ, ◌==◌, ◌^◌, ◌<◌, ◌≤◌, ◌&&◌, Bool, true, false, cond, nat_le, List, [], ◌++◌, length, Option, Some, None, refl, sym, ap, subst, ◌∙◌, arith}
use Rattle.std.specs.Option.{option_map}
use Rattle.std.specs.Str.{is_utf8}
use Rattle.std.proofs.lemmas.Bool.{and_parts}
use Rattle.std.proofs.lemmas.Bool.Decides.{nat_tests}
use Rattle.byte_fields.specs.Reading.{Field, made}
use Rattle.byte_fields.specs.Spelling.{AreBytes}
use Rattle.byte_fields.proofs.Exact.{IsExact}
use Rattle.byte_fields.proofs.ExactFields.{u64_exact, id_exact, IsText, text_exact}
use Rattle.crash_base.proofs.Options.{map_some}
use Rattle.byte_fields.proofs.MadeFields.{both_exact}
use Rattle.auction_calls.specs.declared.action.Action.{Action}
use Rattle.auction_calls.specs.declared.action.Action.TheVariants.{Home, Register, SignIn, SignOut, Categories, AddCategory, Browse, Item, User, About, Sell, Bid, Buy, Close, Feedback, Form}
use Rattle.auction_calls.specs.Calls.{is_between, is_id, is_text, is_user_name, are_credentials, is_action}
use Rattle.auction_calls.specs.Reading.{empty, register_at, sign_in_at, add_category_at, browse_at, item_at, user_at, sell_at, bid_at, buy_at, close_at, feedback_at, form_at, action_at}
use Rattle.auction_calls.specs.Texts.{action_number, field_bytes}
use Rattle.auction_calls.proofs.ExactFields.{truth_exact, kind_exact, credentials_exact}
use Rattle.auction_calls.proofs.Names.{user_name_text}

-- bytes begin with the fields of an action of this number, before a rest
pub record Begins (number : ℕ) (bytes : List ℕ) (action : Action) (rest : List ℕ) : Type 0 where
  pub parts : bytes ≡ field_bytes action ++ rest
  pub number_is : action_number action ≡ number

-- an action made of exact fields
made_takes : {A : Type 0} {field : Field A} {spell : A → List ℕ} {IsIn : A → Type 0} (number : ℕ) (make : A → Action) → IsExact field spell IsIn → ((x : A) → spell x ≡ field_bytes (make x)) → ((x : A) → action_number (make x) ≡ number) → (bytes : List ℕ) (action : Action) (rest : List ℕ) → AreBytes bytes → made make field bytes ≡ Some (action, rest) → Begins number bytes action rest
made_takes {A} {field} {spell} {IsIn} number make exact spelled numbered bytes action rest are e =
    let (x, xe, fe) = map_some (λ (x : A × List ℕ). (make x.0, x.1)) (field bytes) (action, rest) e in
    let t = exact.takes bytes x.0 x.1 are xe in
    let P : Action × List ℕ → Type 0 = λ z. Begins number bytes z.0 z.1 in
    subst P fe (record { parts = t.0.parts ∙ ap (λ s. s ++ x.1) (spelled x.0); number_is = numbered x.0 })

-- an action of no fields
empty_takes : (number : ℕ) (made : Action) → field_bytes made ≡ [] → action_number made ≡ number → (bytes : List ℕ) (action : Action) (rest : List ℕ) → empty made bytes ≡ Some (action, rest) → Begins number bytes action rest
empty_takes number made none numbered bytes action rest e =
    let same : (made, bytes) ≡ (action, rest) = cc in
    let P : Action × List ℕ → Type 0 = λ z. Begins number bytes z.0 z.1 in
    subst P same (record { parts = sym (ap (λ s. s ++ bytes) none); number_is = numbered })

-- one number more
numbered : (one number : ℕ) (bytes : List ℕ) (action : Action) (rest : List ℕ) (here later : Option (Action × List ℕ)) → (here ≡ Some (action, rest) → Begins one bytes action rest) → (later ≡ Some (action, rest) → Begins number bytes action rest) → cond (number == one) here later ≡ Some (action, rest) → Begins number bytes action rest
numbered one number bytes action rest here later f g h =
    let go : (b : Bool) → (number == one) ≡ b → cond b here later ≡ Some (action, rest) → Begins number bytes action rest = elim [
      | true ↦ λ e k.
          let same : one ≡ number = grind (arith, nat_tests) in
          let P : ℕ → Type 0 = λ n. Begins n bytes action rest in
          subst P same (f k)
      | false ↦ λ e k. g k
    ] in
    go (number == one) refl h

home_takes : (bytes : List ℕ) (action : Action) (rest : List ℕ) → empty Home bytes ≡ Some (action, rest) → Begins 1 bytes action rest
unfolding field_bytes
home_takes = empty_takes 1 Home refl refl

register_takes : (bytes : List ℕ) (action : Action) (rest : List ℕ) → AreBytes bytes → register_at bytes ≡ Some (action, rest) → Begins 2 bytes action rest
unfolding register_at field_bytes
register_takes = made_takes 2 (λ c. Register c.name c.password) credentials_exact (λ x. refl) (λ x. refl)

sign_in_takes : (bytes : List ℕ) (action : Action) (rest : List ℕ) → AreBytes bytes → sign_in_at bytes ≡ Some (action, rest) → Begins 3 bytes action rest
unfolding sign_in_at field_bytes
sign_in_takes = made_takes 3 (λ c. SignIn c.name c.password) credentials_exact (λ x. refl) (λ x. refl)

sign_out_takes : (bytes : List ℕ) (action : Action) (rest : List ℕ) → empty SignOut bytes ≡ Some (action, rest) → Begins 4 bytes action rest
unfolding field_bytes
sign_out_takes = empty_takes 4 SignOut refl refl

categories_takes : (bytes : List ℕ) (action : Action) (rest : List ℕ) → empty Categories bytes ≡ Some (action, rest) → Begins 5 bytes action rest
unfolding field_bytes
categories_takes = empty_takes 5 Categories refl refl

add_category_takes : (bytes : List ℕ) (action : Action) (rest : List ℕ) → AreBytes bytes → add_category_at bytes ≡ Some (action, rest) → Begins 6 bytes action rest
unfolding add_category_at field_bytes
add_category_takes = made_takes 6 (λ name. AddCategory name) text_exact (λ x. refl) (λ x. refl)

browse_takes : (bytes : List ℕ) (action : Action) (rest : List ℕ) → AreBytes bytes → browse_at bytes ≡ Some (action, rest) → Begins 7 bytes action rest
unfolding browse_at field_bytes
browse_takes = made_takes 7 (λ f. Browse f.0 f.1) (both_exact id_exact id_exact) (λ x. refl) (λ x. refl)

item_takes : (bytes : List ℕ) (action : Action) (rest : List ℕ) → AreBytes bytes → item_at bytes ≡ Some (action, rest) → Begins 8 bytes action rest
unfolding item_at field_bytes
item_takes = made_takes 8 (λ item. Item item) id_exact (λ x. refl) (λ x. refl)

user_takes : (bytes : List ℕ) (action : Action) (rest : List ℕ) → AreBytes bytes → user_at bytes ≡ Some (action, rest) → Begins 9 bytes action rest
unfolding user_at field_bytes
user_takes = made_takes 9 (λ user. User user) id_exact (λ x. refl) (λ x. refl)

about_takes : (bytes : List ℕ) (action : Action) (rest : List ℕ) → empty About bytes ≡ Some (action, rest) → Begins 10 bytes action rest
unfolding field_bytes
about_takes = empty_takes 10 About refl refl

sell_takes : (bytes : List ℕ) (action : Action) (rest : List ℕ) → AreBytes bytes → sell_at bytes ≡ Some (action, rest) → Begins 11 bytes action rest
unfolding sell_at field_bytes
sell_takes = made_takes 11 (λ f. Sell f.0 f.1.0 f.1.1.0 f.1.1.1.0 f.1.1.1.1) (both_exact text_exact (both_exact id_exact (both_exact u64_exact (both_exact u64_exact id_exact)))) (λ x. refl) (λ x. refl)

bid_takes : (bytes : List ℕ) (action : Action) (rest : List ℕ) → AreBytes bytes → bid_at bytes ≡ Some (action, rest) → Begins 12 bytes action rest
unfolding bid_at field_bytes
bid_takes = made_takes 12 (λ f. Bid f.0 f.1) (both_exact id_exact u64_exact) (λ x. refl) (λ x. refl)

buy_takes : (bytes : List ℕ) (action : Action) (rest : List ℕ) → AreBytes bytes → buy_at bytes ≡ Some (action, rest) → Begins 13 bytes action rest
unfolding buy_at field_bytes
buy_takes = made_takes 13 (λ item. Buy item) id_exact (λ x. refl) (λ x. refl)

close_takes : (bytes : List ℕ) (action : Action) (rest : List ℕ) → AreBytes bytes → close_at bytes ≡ Some (action, rest) → Begins 14 bytes action rest
unfolding close_at field_bytes
close_takes = made_takes 14 (λ item. Close item) id_exact (λ x. refl) (λ x. refl)

feedback_takes : (bytes : List ℕ) (action : Action) (rest : List ℕ) → AreBytes bytes → feedback_at bytes ≡ Some (action, rest) → Begins 15 bytes action rest
unfolding feedback_at field_bytes
feedback_takes = made_takes 15 (λ f. Feedback f.0 f.1.0 f.1.1) (both_exact id_exact (both_exact truth_exact text_exact)) (λ x. refl) (λ x. refl)

form_takes : (bytes : List ℕ) (action : Action) (rest : List ℕ) → AreBytes bytes → form_at bytes ≡ Some (action, rest) → Begins 16 bytes action rest
unfolding form_at field_bytes
form_takes = made_takes 16 (λ kind. Form kind) kind_exact (λ x. refl) (λ x. refl)

pub action_takes : (number : ℕ) (bytes : List ℕ) (action : Action) (rest : List ℕ) → AreBytes bytes → action_at number bytes ≡ Some (action, rest) → Begins number bytes action rest
action_takes number bytes action rest are h =
    numbered 1 number bytes action rest (empty Home bytes) _ (home_takes bytes action rest) (
    numbered 2 number bytes action rest (register_at bytes) _ (register_takes bytes action rest are) (
    numbered 3 number bytes action rest (sign_in_at bytes) _ (sign_in_takes bytes action rest are) (
    numbered 4 number bytes action rest (empty SignOut bytes) _ (sign_out_takes bytes action rest) (
    numbered 5 number bytes action rest (empty Categories bytes) _ (categories_takes bytes action rest) (
    numbered 6 number bytes action rest (add_category_at bytes) _ (add_category_takes bytes action rest are) (
    numbered 7 number bytes action rest (browse_at bytes) _ (browse_takes bytes action rest are) (
    numbered 8 number bytes action rest (item_at bytes) _ (item_takes bytes action rest are) (
    numbered 9 number bytes action rest (user_at bytes) _ (user_takes bytes action rest are) (
    numbered 10 number bytes action rest (empty About bytes) _ (about_takes bytes action rest) (
    numbered 11 number bytes action rest (sell_at bytes) _ (sell_takes bytes action rest are) (
    numbered 12 number bytes action rest (bid_at bytes) _ (bid_takes bytes action rest are) (
    numbered 13 number bytes action rest (buy_at bytes) _ (buy_takes bytes action rest are) (
    numbered 14 number bytes action rest (close_at bytes) _ (close_takes bytes action rest are) (
    numbered 15 number bytes action rest (feedback_at bytes) _ (feedback_takes bytes action rest are) (
    numbered 16 number bytes action rest (form_at bytes) None (form_takes bytes action rest are) (λ k. absurd (cc))))))))))))))))) h

-- an action made of exact fields, read again
made_again : {A : Type 0} {field : Field A} {spell : A → List ℕ} {IsIn : A → Type 0} (make : A → Action) → IsExact field spell IsIn → (x : A) (rest : List ℕ) → IsIn x → made make field (spell x ++ rest) ≡ Some (make x, rest)
made_again {A} make exact x rest h = ap (option_map (λ (x : A × List ℕ). (make x.0, x.1))) (exact.again x rest h)

-- what the ranges say of the fields
few : (n : ℕ) → is_id n ≡ true → n < 2 ^ 32
few n is = grind (arith, nat_tests)

texts : (least most : ℕ) (text : List ℕ) → most ≤ 4096 → is_text least most text ≡ true → IsText text
texts least most text small is =
    let both = and_parts (is_between least most (length text)) (is_utf8 text) is in
    let size = both.0 in
    let within : length text ≤ most = grind (arith, nat_tests) in
    record { utf8 = both.1; few = omega arith }

credentials_texts : (name password : List ℕ) → are_credentials name password ≡ true → IsText name × IsText password
credentials_texts name password is =
    let both = and_parts (is_user_name name) (is_text 1 72 password) is in
    (user_name_text name both.0, texts 1 72 password (omega arith) both.1)

page_few : (n : ℕ) → nat_le n 9999 ≡ true → n < 2 ^ 32
page_few n is = let within : n ≤ 9999 = grind (arith, nat_tests) in omega arith

amount_few : (n : ℕ) → nat_le n 4000000000 ≡ true → n < 2 ^ 64
amount_few n is = let within : n ≤ 4000000000 = grind (arith, nat_tests) in omega arith

some_amount_few : (n : ℕ) → is_between 1 4000000000 n ≡ true → n < 2 ^ 64
some_amount_few n is = amount_few n (and_parts (nat_le 1 n) (nat_le n 4000000000) is).1

hours_few : (n : ℕ) → is_between 1 720 n ≡ true → n < 2 ^ 32
hours_few n is = let within : n ≤ 720 = grind (arith, nat_tests) in omega arith

-- what spells the fields of an action is read as it, whatever follows
pub action_again : (action : Action) (rest : List ℕ) → is_action action ≡ true → action_at (action_number action) (field_bytes action ++ rest) ≡ Some (action, rest)
unfolding field_bytes register_at sign_in_at add_category_at browse_at item_at user_at sell_at bid_at buy_at close_at feedback_at form_at
action_again Home rest is = refl
action_again (Register name password) rest is = made_again (λ c. Register c.name c.password) credentials_exact (record { name = name; password = password }) rest (credentials_texts name password is)
action_again (SignIn name password) rest is = made_again (λ c. SignIn c.name c.password) credentials_exact (record { name = name; password = password }) rest (credentials_texts name password is)
action_again SignOut rest is = refl
action_again Categories rest is = refl
action_again (AddCategory name) rest is = made_again (λ name. AddCategory name) text_exact name rest (texts 1 40 name (omega arith) is)
action_again (Browse category page) rest is =
    let both = and_parts (is_id category) (nat_le page 9999) is in
    made_again (λ f. Browse f.0 f.1) (both_exact id_exact id_exact) (category, page) rest (few category both.0, page_few page both.1)
action_again (Item item) rest is = made_again (λ item. Item item) id_exact item rest (few item is)
action_again (User user) rest is = made_again (λ user. User user) id_exact user rest (few user is)
action_again About rest is = refl
action_again (Sell title category start buy_now hours) rest is =
    let a = and_parts (is_text 1 80 title) (is_id category && (is_between 1 4000000000 start && (nat_le buy_now 4000000000 && is_between 1 720 hours))) is in
    let b = and_parts (is_id category) (is_between 1 4000000000 start && (nat_le buy_now 4000000000 && is_between 1 720 hours)) a.1 in
    let c = and_parts (is_between 1 4000000000 start) (nat_le buy_now 4000000000 && is_between 1 720 hours) b.1 in
    let d = and_parts (nat_le buy_now 4000000000) (is_between 1 720 hours) c.1 in
    made_again (λ f. Sell f.0 f.1.0 f.1.1.0 f.1.1.1.0 f.1.1.1.1) (both_exact text_exact (both_exact id_exact (both_exact u64_exact (both_exact u64_exact id_exact)))) (title, (category, (start, (buy_now, hours)))) rest
    (texts 1 80 title (omega arith) a.0, (few category b.0, (some_amount_few start c.0, (amount_few buy_now d.0, hours_few hours d.1))))
action_again (Bid item amount) rest is =
    let both = and_parts (is_id item) (is_between 1 4000000000 amount) is in
    made_again (λ f. Bid f.0 f.1) (both_exact id_exact u64_exact) (item, amount) rest (few item both.0, some_amount_few amount both.1)
action_again (Buy item) rest is = made_again (λ item. Buy item) id_exact item rest (few item is)
action_again (Close item) rest is = made_again (λ item. Close item) id_exact item rest (few item is)
action_again (Feedback item good text) rest is =
    let both = and_parts (is_id item) (is_text 0 200 text) is in
    made_again (λ f. Feedback f.0 f.1.0 f.1.1) (both_exact id_exact (both_exact truth_exact text_exact)) (item, (good, text)) rest (few item both.0, (tt, texts 0 200 text (omega arith) both.1))
action_again (Form kind) rest is = made_again (λ kind. Form kind) kind_exact kind rest tt
