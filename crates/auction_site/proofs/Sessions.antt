-- Whose the session is after registering, signing in and out, and a form.
use Rattle.std.proofs.Common.{◌≡◌, ℕ, ◌+◌, ◌<◌, ◌^◌, List, [], ◌∷◌, ◌++◌, codes, Ok, refl, sym, subst, arith, Some, ◌==◌, Bool, true, false, cond, nat_lt, length, Option, None, option_and_then}
use Rattle.std.specs.Int.{w64}
use Rattle.std.proofs.lemmas.Bool.Decides.{nat_tests}
use Rattle.crash_base.specs.declared.rows.TheConstants.{MAX_ROW_BYTES}
use Rattle.crash_base.specs.declared.rows.RowWrite.{RowWrite}
use Rattle.crash_base.specs.Rows.{put_all, row_in}
use Rattle.action_plans.specs.declared.plan.Outcome.{Outcome}
use Rattle.auction_calls.specs.Texts.{kind_text}
use Rattle.auction_calls.specs.declared.action.Action.{Action}
use Rattle.auction_calls.specs.declared.action.Action.TheVariants.{Register, SignIn, SignOut, Form}
use Rattle.auction_calls.specs.declared.action.ActionCall.{ActionCall}
use Rattle.auction_calls.specs.declared.action.FormKind.{FormKind}
use Rattle.auction_rows.specs.Ids.{name_id, users_counter}
use Rattle.auction_rows.specs.Reading.{name_at, name_of}
use Rattle.byte_fields.specs.Reading.{id_at, number_at, text_at}
use Rattle.byte_fields.proofs.Exact.{bound, unless_some}
use Rattle.auction_rows.specs.declared.rows.NameRow.{NameRow}
use Rattle.auction_rows.proofs.Values.{read_back}
use Rattle.page_text.specs.declared.page_line.PageLine.{PageLine}
use Rattle.auction_site.specs.Actions.{meaning, site}
use Rattle.auction_site.specs.Answers.{shows_with_session}
use Rattle.auction_site.specs.Coherent.{row_at}
use Rattle.auction_site.specs.Found.{finished}
use Rattle.auction_site.specs.Outcomes.{registered, signed_in, form_line, form_shown}
use Rattle.auction_site.specs.Sessions.{SetsSession}
use Rattle.auction_site.specs.Accepted.{Counts}
use Rattle.auction_site.proofs.Coherence.{same_some}
use Rattle.auction_site.proofs.Exactly.{sign_in_accepted}
use Rattle.auction_site.proofs.LeftRows.{registered_counts}
use Rattle.auction_site.proofs.Signing.{registers}
use Rattle.auction_site.proofs.Accepting.{counter_is_found}

sets : (user now : ℕ) (heading : List ℕ) (lines : List PageLine) → user < 2 ^ 32
    → SetsSession (shows_with_session user now heading lines) user now
sets user now heading lines low = record { set = refl; is_user = read_back user now low }

registered_sets : (name password : List ℕ) (fresh now user : ℕ) → user < 2 ^ 32
    → SetsSession (registered name password fresh now user).done user now
unfolding registered
registered_sets name password fresh now user low = sets user now (codes "Welcome " ++ name) [] low

pub register_sets : (call : ActionCall) (name password : List ℕ) (users : ℕ) (rows : List RowWrite) (outcome : Outcome)
    → meaning call (Register name password) rows ≡ Ok outcome → Counts rows users_counter users
    → SetsSession outcome.done (users + 1) call.now.0
register_sets call name password users rows outcome is counts =
    let made = registers name password call.fresh call.now.0 users rows outcome is (counter_is_found rows users_counter users counts) in
    let P : Outcome → Type 0 = λ o. SetsSession o.done (users + 1) call.now.0 in
    subst P (sym made.same) (registered_sets name password call.fresh call.now.0 (users + 1) made.low)

pub register_counts : (call : ActionCall) (name password : List ℕ) (users : ℕ) (rows : List RowWrite) (outcome : Outcome)
    → meaning call (Register name password) rows ≡ Ok outcome → Counts rows users_counter users
    → Counts (put_all outcome.writes rows) users_counter (users + 1)
register_counts call name password users rows outcome is counted =
    let made = registers name password call.fresh call.now.0 users rows outcome is (counter_is_found rows users_counter users counted) in
    let P : Outcome → Type 0 = λ o. Counts (put_all o.writes rows) users_counter (users + 1) in
    subst P (sym made.same) (registered_counts name password call.fresh call.now.0 (users + 1) rows made.low)

-- an id is below 2^32
id_low : (bytes : List ℕ) (found : ℕ × List ℕ) → id_at bytes ≡ Some found → found.0 < 2 ^ 32
unfolding id_at
id_low bytes found is =
    let number = bound (number_at w64 bytes) _ found is in
    by_test (nat_lt number.value.0 (2 ^ 32)) number.value refl number.next
  where
    by_test : (small : Bool) (n : ℕ × List ℕ) → nat_lt n.0 (2 ^ 32) ≡ small → cond small (Some n) None ≡ Some found → found.0 < 2 ^ 32
    by_test true n low e =
        let one : n ≡ found = cc in
        subst (λ (f : ℕ × List ℕ). f.0 < 2 ^ 32) one (grind (arith, nat_tests))
    by_test false n low e = absurd (cc)

name_at_low : (bytes : List ℕ) (found : NameRow × List ℕ) → name_at bytes ≡ Some found → found.0.user < 2 ^ 32
unfolding name_at
name_at_low bytes found is =
    let text = bound (text_at bytes) _ found is in
    let user = bound (id_at text.value.1) _ found text.next in
    let low = id_low text.value.1 user.value user.is in
    let one : (record { name = text.value.0; user = user.value.0 }, user.value.1) ≡ found = cc in
    subst (λ (f : NameRow × List ℕ). f.0.user < 2 ^ 32) one low

-- the user of a name is below 2^32, whatever the bytes are that spell it
name_low : (bytes : List ℕ) (found : NameRow) → name_of bytes ≡ Some found → found.user < 2 ^ 32
unfolding name_of
name_low bytes found is =
    let read = bound (cond (nat_lt MAX_ROW_BYTES (length bytes)) None (name_at bytes)) _ found is in
    let low = name_at_low bytes read.value (unless_some (nat_lt MAX_ROW_BYTES (length bytes)) (name_at bytes) read.value read.is).1 in
    by_rest read.value (length read.value.1 == 0) read.next low
  where
    by_rest : (f : NameRow × List ℕ) (none : Bool) → cond none (Some f.0) None ≡ Some found → f.0.user < 2 ^ 32 → found.user < 2 ^ 32
    by_rest f true e low = let one : f.0 ≡ found = cc in subst (λ (x : NameRow). x.user < 2 ^ 32) one low
    by_rest f false e low = absurd (cc)

row_low : (bytes : Option (List ℕ)) (found : NameRow) → option_and_then name_of bytes ≡ Some found → found.user < 2 ^ 32
row_low None found is = absurd (cc)
row_low (Some bytes) found is = name_low bytes found is

pub sign_in_sets : (call : ActionCall) (name password : List ℕ) (rows : List RowWrite) (outcome : Outcome) (found : NameRow)
    → meaning call (SignIn name password) rows ≡ Ok outcome → row_at rows name_of (name_id name) ≡ Some found
    → SetsSession outcome.done found.user call.now.0
sign_in_sets call name password rows outcome found is there =
    let taken = (sign_in_accepted name password call.now.0 rows outcome).0 is in
    let one : taken.0 ≡ found = same_some (row_at rows name_of (name_id name)) taken.0 found taken.2.there there in
    let low = row_low (row_in rows (name_id name)) found there in
    let P : Outcome → Type 0 = λ o. SetsSession o.done found.user call.now.0 in
    let Q : NameRow → Type 0 = λ f. outcome ≡ signed_in name call.now.0 f.user in
    subst P (sym (subst Q one taken.3)) (sets found.user call.now.0 (codes "Welcome " ++ name) [] low)

pub sign_out_sets : (call : ActionCall) (rows : List RowWrite) → call.action ≡ SignOut → SetsSession (site call rows).done 0 call.now.0
sign_out_sets call rows is =
    let P : Action → Type 0 = λ a. SetsSession (finished (meaning call a rows)).done 0 call.now.0 in
    subst P (sym is) (sets 0 call.now.0 (codes "Signed out") [] (omega arith))

form_sets : (user now : ℕ) (token : List ℕ) (kind : FormKind) → user ≡ 0 → SetsSession (form_shown user now token kind).done 0 now
form_sets user now token kind is =
    let P : ℕ → Type 0 = λ u. SetsSession (form_shown u now token kind).done 0 now in
    subst P (sym is) (sets 0 now (codes "Form " ++ kind_text kind) (form_line kind token ∷ []) (omega arith))

pub form_of_nobody_sets : (call : ActionCall) (rows : List RowWrite) (kind : FormKind) → call.action ≡ Form kind → call.user ≡ 0
    → SetsSession (site call rows).done 0 call.now.0
form_of_nobody_sets call rows kind is nobody =
    let P : Action → Type 0 = λ a. SetsSession (finished (meaning call a rows)).done 0 call.now.0 in
    subst P (sym is) (form_sets call.user call.now.0 call.form kind nobody)
