-- Who registers signs in with the password, and with no other.
use Rattle.std.proofs.Common.{◌≡◌, ◌≢◌, ℕ, ◌+◌, ◌<◌, ◌^◌, not, nat_le, Bool, true, false, List, ◌++◌, Option, Some, Ok, Err, refl, ap, sym, subst, ◌∙◌, arith, option_and_then}
use Rattle.std.specs.Str.{bytes_eq}
use Rattle.std.proofs.lemmas.Bool.Decides.{nat_tests}
use Rattle.std.proofs.lemmas.Slice.Eq.{bytes_eq-Decides}
use Rattle.sha2.specs.Sha256.{sha256}
use Rattle.sha2.proofs.Facts256.{length-sha256}
use Rattle.crash_base.specs.declared.rows.RowWrite.{RowWrite}
use Rattle.crash_base.specs.Rows.{put_all, row_in}
use Rattle.crash_base.proofs.Ordering.{row_in-put_all}
use Rattle.action_plans.specs.declared.plan.Outcome.{Outcome}
use Rattle.auction_calls.specs.Calls.{is_user_name}
use Rattle.auction_rows.specs.declared.rows.NameRow.{NameRow}
use Rattle.auction_rows.specs.declared.rows.UserRow.{UserRow}
use Rattle.auction_rows.specs.Bounds.{IsUser}
use Rattle.auction_rows.specs.Ids.{user_id, name_id, users_counter}
use Rattle.auction_rows.specs.Reading.{user_of, name_of}
use Rattle.auction_rows.specs.Spelling.{u64_bytes, user_bytes, name_bytes}
use Rattle.auction_rows.proofs.ExactRows.{user_exact, name_exact}
use Rattle.auction_site.specs.declared.limits.TheConstants.{LAST_NUMBER}
use Rattle.auction_site.specs.Answers.{name_taken, no_more_numbers, wrong_password}
use Rattle.auction_site.specs.Coherent.{row_at}
use Rattle.auction_site.specs.Found.{Found, and_then, refused_if, row_or, no_row, the_counter}
use Rattle.auction_site.specs.Outcomes.{digest_of, new_user, registered, signed_in}
use Rattle.auction_site.specs.Rules.{register, sign_in}
use Rattle.auction_site.specs.Accepted.{Counts}
use Rattle.auction_site.proofs.Bounds.{number_length, new_user_is, name_is}
use Rattle.auction_site.proofs.Finding.{if_found}
use Rattle.auction_site.proofs.Put.{at_here}
use Rattle.auction_site.proofs.Accepting.{split_found, then_found, then_refused, if_passes, if_refuses, row_is_found, counter_is_found}

-- the rows after a user was registered under a number
abbrev after : List ℕ → List ℕ → ℕ → ℕ → ℕ → List RowWrite → List RowWrite
after name password fresh now user rows = put_all (registered name password fresh now user).writes rows

name_there : (name password : List ℕ) (fresh now user : ℕ) (rows : List RowWrite) → is_user_name name ≡ true → user < 2 ^ 32
    → row_at (after name password fresh now user rows) name_of (name_id name) ≡ Some (record { name = name; user = user })
unfolding registered name_id
name_there name password fresh now user rows is low =
    let ws : List RowWrite = (registered name password fresh now user).writes in
    let named : NameRow = record { name = name; user = user } in
    let new : Option (List ℕ) = Some (name_bytes named) in
    ap (option_and_then name_of) (row_in-put_all ws rows (name_id name) ∙ at_here (name_id name).key new (row_in rows (name_id name)))
    ∙ name_exact.again named (record { within = name_is named is; user = low })

-- a new user is within its bounds
pub new_user_range : (name password : List ℕ) (fresh : ℕ) → is_user_name name ≡ true → IsUser (new_user name password (u64_bytes fresh))
new_user_range name password fresh is = record {
  within = new_user_is name password fresh is;
  salt = number_length fresh;
  digest = length-sha256 (u64_bytes fresh ++ password);
  good = omega arith;
  bad = omega arith;
  items = omega arith;
}

pub user_there : (name password : List ℕ) (fresh now user : ℕ) (rows : List RowWrite) → is_user_name name ≡ true
    → row_at (after name password fresh now user rows) user_of (user_id user) ≡ Some (new_user name password (u64_bytes fresh))
unfolding registered name_id
user_there name password fresh now user rows is =
    let ws : List RowWrite = (registered name password fresh now user).writes in
    let known : UserRow = new_user name password (u64_bytes fresh) in
    let new : Option (List ℕ) = Some (user_bytes known) in
    ap (option_and_then user_of) (row_in-put_all ws rows (user_id user) ∙ at_here user new (row_in rows (user_id user)))
    ∙ user_exact.again known (new_user_range name password fresh is)

-- equal bytes are not found to differ
pub equal_bytes : (a b : List ℕ) → a ≡ b → not (bytes_eq a b) ≡ false
equal_bytes a b same = ap not ((bytes_eq-Decides a b).1 same)

-- and others are
other_bytes : (a b : List ℕ) → a ≢ b → not (bytes_eq a b) ≡ true
other_bytes a b apart = by_test (bytes_eq a b) refl
  where
    by_test : (same : Bool) → bytes_eq a b ≡ same → not same ≡ true
    by_test true is = absurd (apart ((bytes_eq-Decides a b).0 is))
    by_test false is = refl

-- where the name and the user are there, the password decides
signs_in : (name password : List ℕ) (later number : ℕ) (rows : List RowWrite) (user : UserRow) (done : Found Outcome)
    → row_at rows name_of (name_id name) ≡ Some (record { name = name; user = number }) → row_at rows user_of (user_id number) ≡ Some user
    → and_then (refused_if (not (bytes_eq (digest_of user.salt password) user.digest)) wrong_password) (λ known. Ok (signed_in name later number)) ≡ done
    → sign_in name password later rows ≡ done
unfolding sign_in
signs_in name password later number rows user done named known last =
    let found : NameRow = record { name = name; user = number } in
    then_found (row_or rows name_of (name_id name) wrong_password) _ found done (row_is_found rows name_of (name_id name) wrong_password found named) (
    then_found (refused_if (not (bytes_eq name name)) wrong_password) _ tt done (if_passes (not (bytes_eq name name)) wrong_password (equal_bytes name name refl)) (
    then_found (row_or rows user_of (user_id number) wrong_password) _ user done (row_is_found rows user_of (user_id number) wrong_password user known) last))

-- how a user was registered
pub record Registers (name password : List ℕ) (fresh now users : ℕ) (outcome : Outcome) : Type 0 where
  pub low : users + 1 < 2 ^ 32
  pub same : outcome ≡ registered name password fresh now (users + 1)

pub registers : (name password : List ℕ) (fresh now users : ℕ) (rows : List RowWrite) (outcome : Outcome)
    → register name password fresh now rows ≡ Ok outcome → the_counter rows users_counter ≡ Ok users → Registers name password fresh now users outcome
unfolding register
registers name password fresh now users rows outcome is counted =
    let free = split_found (no_row rows name_of (name_id name) name_taken) _ outcome is in
    let found = split_found (the_counter rows users_counter) _ outcome free.2 in
    let one : found.0 ≡ users = same_ok (the_counter rows users_counter) found.0 users found.1 counted in
    let numbered = split_found (refused_if (nat_le LAST_NUMBER found.0) no_more_numbers) _ outcome found.2 in
    let few : nat_le LAST_NUMBER found.0 ≡ false = if_found (nat_le LAST_NUMBER found.0) no_more_numbers numbered.0 numbered.1 in
    let made : registered name password fresh now (found.0 + 1) ≡ outcome = cc in
    record {
      low = grind (arith, nat_tests);
      same = sym made ∙ ap (λ n. registered name password fresh now (n + 1)) one;
    }
  where
    same_ok : (found : Found ℕ) (a b : ℕ) → found ≡ Ok a → found ≡ Ok b → a ≡ b
    same_ok found a b x y = cc

-- the rows after what was registered
abbrev over : List RowWrite → Outcome → List RowWrite
over rows outcome = put_all outcome.writes rows

pub user_is_kept : (name password : List ℕ) (fresh now users : ℕ) (rows : List RowWrite) (outcome : Outcome)
    → is_user_name name ≡ true → register name password fresh now rows ≡ Ok outcome → Counts rows users_counter users
    → (user : UserRow) × (row_at (over rows outcome) user_of (user_id (users + 1)) ≡ Some user)
    × (user.name ≡ name) × (user.salt ≡ u64_bytes fresh) × (user.digest ≡ sha256 (u64_bytes fresh ++ password))
user_is_kept name password fresh now users rows outcome is taken counts =
    let made = registers name password fresh now users rows outcome taken (counter_is_found rows users_counter users counts) in
    let user : UserRow = new_user name password (u64_bytes fresh) in
    let P : Outcome → Type 0 = λ o. row_at (over rows o) user_of (user_id (users + 1)) ≡ Some user in
    (user, subst P (sym made.same) (user_there name password fresh now (users + 1) rows is), refl, refl, refl)

-- what comes of a sign in after it
signs_after : (name password given : List ℕ) (fresh now users later : ℕ) (rows : List RowWrite) (outcome : Outcome) (done : Found Outcome)
    → is_user_name name ≡ true → register name password fresh now rows ≡ Ok outcome → the_counter rows users_counter ≡ Ok users
    → and_then (refused_if (not (bytes_eq (sha256 (u64_bytes fresh ++ given)) (sha256 (u64_bytes fresh ++ password)))) wrong_password)
    (λ known. Ok (signed_in name later (users + 1))) ≡ done
    → sign_in name given later (over rows outcome) ≡ done
signs_after name password given fresh now users later rows outcome done is taken counted last =
    let made = registers name password fresh now users rows outcome taken counted in
    let user : UserRow = new_user name password (u64_bytes fresh) in
    let P : Outcome → Type 0 = λ o. sign_in name given later (over rows o) ≡ done in
    subst P (sym made.same)
    (signs_in name given later (users + 1) (after name password fresh now (users + 1) rows) user done
    (name_there name password fresh now (users + 1) rows is made.low) (user_there name password fresh now (users + 1) rows is) last)

pub right_signs_in : (name password : List ℕ) (fresh now users later : ℕ) (rows : List RowWrite) (outcome : Outcome)
    → is_user_name name ≡ true → register name password fresh now rows ≡ Ok outcome → Counts rows users_counter users
    → sign_in name password later (over rows outcome) ≡ Ok (signed_in name later (users + 1))
right_signs_in name password fresh now users later rows outcome is taken counts =
    let digest : List ℕ = sha256 (u64_bytes fresh ++ password) in
    signs_after name password password fresh now users later rows outcome _ is taken (counter_is_found rows users_counter users counts)
    (then_found (refused_if (not (bytes_eq digest digest)) wrong_password) _ tt _ (if_passes (not (bytes_eq digest digest)) wrong_password (equal_bytes digest digest refl)) refl)

-- a registration found the counter
counted_of : (name password : List ℕ) (fresh now : ℕ) (rows : List RowWrite) (outcome : Outcome)
    → register name password fresh now rows ≡ Ok outcome → (users : ℕ) × (the_counter rows users_counter ≡ Ok users)
unfolding register
counted_of name password fresh now rows outcome is =
    let free = split_found (no_row rows name_of (name_id name) name_taken) _ outcome is in
    let found = split_found (the_counter rows users_counter) _ outcome free.2 in
    (found.0, found.1)

pub wrong_does_not : (name password other : List ℕ) (fresh now later : ℕ) (rows : List RowWrite) (outcome : Outcome)
    → is_user_name name ≡ true → register name password fresh now rows ≡ Ok outcome
    → sha256 (u64_bytes fresh ++ other) ≢ sha256 (u64_bytes fresh ++ password)
    → sign_in name other later (over rows outcome) ≡ Err wrong_password
wrong_does_not name password other fresh now later rows outcome is taken apart =
    let a : List ℕ = sha256 (u64_bytes fresh ++ other) in
    let b : List ℕ = sha256 (u64_bytes fresh ++ password) in
    let count = counted_of name password fresh now rows outcome taken in
    signs_after name password other fresh now count.0 later rows outcome _ is taken count.1
    (then_refused (refused_if (not (bytes_eq a b)) wrong_password) _ wrong_password (if_refuses (not (bytes_eq a b)) wrong_password (other_bytes a b apart)))

-- two findings are the same that go on alike
same_after : {A B : Type 0} (found : Found A) (f g : A → Found B) → ((x : A) → f x ≡ g x) → and_then found f ≡ and_then found g
same_after (Err done) f g same = refl
same_after (Ok x) f g same = same x

-- a user is registered by the digest of the password
registered_by_digest : (name password other : List ℕ) (fresh now user : ℕ) → sha256 (u64_bytes fresh ++ other) ≡ sha256 (u64_bytes fresh ++ password)
    → registered name other fresh now user ≡ registered name password fresh now user
unfolding registered
registered_by_digest name password other fresh now user is = rw is refl

pub password_is_hidden : (name password other : List ℕ) (fresh now : ℕ) (rows : List RowWrite)
    → sha256 (u64_bytes fresh ++ other) ≡ sha256 (u64_bytes fresh ++ password)
    → register name other fresh now rows ≡ register name password fresh now rows
unfolding register
password_is_hidden name password other fresh now rows is =
    same_after (no_row rows name_of (name_id name) name_taken) _ _ (λ free.
    same_after (the_counter rows users_counter) _ _ (λ users.
    same_after (refused_if (nat_le LAST_NUMBER users) no_more_numbers) _ _ (λ numbered.
    ap Ok (registered_by_digest name password other fresh now (users + 1) is))))
