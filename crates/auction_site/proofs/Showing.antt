-- The plans that write nothing come to what the site finds.
use Rattle.std.proofs.Common.{◌≡◌, ℕ, zero, suc, ◌+◌, ◌-◌, ◌*◌, ◌==◌, ◌≤◌, nat_le, not, min, true, List, length, map, Some, None, Ok, refl, ap, subst, ◌∙◌, arith}
use Rattle.std.specs.Prelude.{bytes_eq}
use Rattle.std.proofs.lemmas.Bool.Decides.{nat_tests}
use Rattle.crash_base.specs.declared.rows.RowWrite.{RowWrite}
use Rattle.journal_model.specs.declared.entry.DoneText.{DoneText}
use Rattle.journal_model.specs.Snapshots.{table_rows}
use Rattle.action_plans.specs.declared.plan.Outcome.{Outcome}
use Rattle.action_plans.specs.Plans.{Plan, Gives, ◌>>=◌}
use Rattle.action_plans.specs.Steps.{outcome_of}
use Rattle.auction_rows.specs.declared.rows.CategoryRow.{CategoryRow}
use Rattle.auction_rows.specs.declared.rows.TheConstants.{CATEGORY_TABLE}
use Rattle.auction_rows.specs.Ids.{user_id, name_id, category_counter, item_id, category_id, entry_id, own_item_id}
use Rattle.auction_rows.specs.Parts.{site_parts, site_components, site_references, site_tables}
use Rattle.auction_rows.specs.Reading.{user_of, name_of, item_of, category_of, entry_of, own_item_of}
use Rattle.auction_site.specs.declared.limits.TheConstants.{PAGE_ITEMS}
use Rattle.auction_site.specs.Answers.{shows, answered, not_there, wrong_password, sign_in_first}
use Rattle.auction_site.specs.Found.{Found, and_then, the_row, spelled, collected, finished}
use Rattle.auction_site.specs.Numbers.{count_up, count_down}
use Rattle.auction_site.specs.Outcomes.{digest_of, category_link, categories_shown, priced_link, category_shown, item_link, user_items_shown}
use Rattle.auction_site.specs.Planned.{sign_in_plan, category_link_plan, categories_plan, entry_link_plan, browse_plan, show_item_plan, show_user_plan, own_item_link_plan, show_own_items_plan}
use Rattle.auction_site.specs.Rules.{sign_in, category_line, categories, entry_line, browse, show_item, show_user, own_item_line, show_own_items}
use Rattle.auction_site.specs.Pieces.{decoded, asks_row, asks_each}
use Rattle.auction_site.proofs.Comes.{Comes, refuses_if_comes, reads_comes, row_comes, counter_comes, table_comes, join_comes, spent, each_comes}
use Rattle.page_text.specs.declared.page_line.PageLine.{PageLine}

-- an answer without writes, in any number of accesses
answer_comes : (n : ℕ) (rows : List RowWrite) (done : DoneText) → Comes n None rows (Gives (answered done)) (Ok (answered done))
answer_comes n rows done = let few : nat_le 0 n ≡ true = grind (arith, nat_tests) in rw few refl

pub sign_in_comes : (name password : List ℕ) (now : ℕ) (rows : List RowWrite)
    → outcome_of site_parts None rows (sign_in_plan name password now) ≡ Some (finished (sign_in name password now rows))
unfolding outcome_of sign_in_plan sign_in site_components site_references site_tables name_id
sign_in_comes name password now rows =
    row_comes 40 None rows name_of (name_id name) wrong_password _ _ refl (λ bytes found is.
    refuses_if_comes 40 None rows (not (bytes_eq found.name name)) wrong_password _ _ (λ named.
    row_comes 39 None rows user_of (user_id found.user) wrong_password _ _ refl (λ bytes user is.
    refuses_if_comes 39 None rows (not (bytes_eq (digest_of user.salt password) user.digest)) wrong_password _ _ (λ known. refl))))

category_link_comes : (rows : List RowWrite) (row : RowWrite) (n : ℕ) (f : PageLine → Plan Outcome) (g : PageLine → Found Outcome)
    → ((line : PageLine) → Comes n None rows (f line) (g line))
    → Comes n None rows (category_link_plan row >>= f) (and_then (category_line row) g)
unfolding category_link_plan ◌>>=◌
category_link_comes rows row n f g later =
    let link = λ (category : CategoryRow). category_link row.id.key category in
    join_comes n None rows (decoded row.id (category_of row.bytes)) (λ c. Gives (link c)) f
    (spelled row.id (category_of row.bytes)) (λ c. Ok (link c)) g
    (reads_comes n None rows row.id (category_of row.bytes) (λ c. f (link c)) (λ c. g (link c)) (λ c is. later (link c)))

-- no access for each of so many
none_spent : (k n : ℕ) → spent (λ m. m) k n ≡ n
unfolding spent
none_spent zero n = refl
none_spent (suc k) n = none_spent k n

pub categories_comes : (rows : List RowWrite) → outcome_of site_parts None rows categories_plan ≡ Some (finished (categories rows))
unfolding outcome_of categories_plan categories site_components site_references site_tables
categories_comes rows =
    table_comes 40 None rows CATEGORY_TABLE _
    (and_then (collected (map category_line (table_rows CATEGORY_TABLE rows))) (λ links. Ok (categories_shown links))) refl (
    subst (λ n. Comes n None rows (asks_each category_link_plan (table_rows CATEGORY_TABLE rows) >>= λ links. Gives (categories_shown links))
    (and_then (collected (map category_line (table_rows CATEGORY_TABLE rows))) (λ links. Ok (categories_shown links))))
    (none_spent (length (table_rows CATEGORY_TABLE rows)) 40)
    (each_comes (λ m. m) None rows category_link_plan category_line (category_link_comes rows) 40 (table_rows CATEGORY_TABLE rows)
    (λ links. Gives (categories_shown links)) (λ links. Ok (categories_shown links)) (λ links. refl)))

-- two accesses for each of so many
two_each : ℕ → ℕ
two_each m = suc (suc m)

two_spent : (k n : ℕ) → spent two_each k n ≡ 2 * k + n
unfolding spent two_each
two_spent zero n = omega arith
two_spent (suc k) n = omega (arith, two_spent k n)

entry_link_comes : (category : ℕ) (rows : List RowWrite) (number n : ℕ) (f : PageLine → Plan Outcome) (g : PageLine → Found Outcome)
    → ((line : PageLine) → Comes n None rows (f line) (g line))
    → Comes (two_each n) None rows (entry_link_plan category number >>= f) (and_then (entry_line rows category number) g)
unfolding entry_link_plan ◌>>=◌ two_each site_components site_references site_tables
entry_link_comes category rows number n f g later =
    join_comes (suc (suc n)) None rows (asks_row entry_of (entry_id category number)) _ f (the_row rows entry_of (entry_id category number)) _ g (
    row_comes (suc n) None rows entry_of (entry_id category number) not_there _ _ refl (λ bytes entry is.
    join_comes (suc n) None rows (asks_row item_of (item_id entry.item)) _ f (the_row rows item_of (item_id entry.item)) _ g (
    row_comes n None rows item_of (item_id entry.item) not_there _ _ refl (λ bytes item is. later (priced_link entry.item item)))))

count_up_length : (first k : ℕ) → length (count_up first k) ≡ k
count_up_length first zero = refl
count_up_length first (suc k) = ap suc (count_up_length (first + 1) k)

count_down_length : (last k : ℕ) → length (count_down last k) ≡ k
count_down_length last zero = refl
count_down_length last (suc k) = ap suc (count_down_length (last - 1) k)

-- as many links of two accesses each as there may be in so many accesses
few_links : (most : ℕ) (rows : List RowWrite) (plan : ℕ → Plan PageLine) (site : ℕ → Found PageLine) (numbers : List ℕ) (k : ℕ)
    (f : List PageLine → Plan Outcome) (g : List PageLine → Found Outcome)
    → ((x n : ℕ) (f : PageLine → Plan Outcome) (g : PageLine → Found Outcome)
    → ((y : PageLine) → Comes n None rows (f y) (g y)) → Comes (two_each n) None rows (plan x >>= f) (and_then (site x) g))
    → ((n : ℕ) (links : List PageLine) → Comes n None rows (f links) (g links))
    → length numbers ≡ k → 2 * k ≤ most
    → Comes most None rows (asks_each plan numbers >>= f) (and_then (collected (map site numbers)) g)
few_links most rows plan site numbers k f g one later many few =
    let enough : spent two_each (length numbers) (most - 2 * k) ≡ most = ap (λ m. spent two_each m (most - 2 * k)) many ∙ two_spent k (most - 2 * k) ∙ omega (arith, few) in
    subst (λ n. Comes n None rows (asks_each plan numbers >>= f) (and_then (collected (map site numbers)) g)) enough
    (each_comes two_each None rows plan site one (most - 2 * k) numbers f g (later (most - 2 * k)))

pub browse_comes : (category page : ℕ) (rows : List RowWrite)
    → outcome_of site_parts None rows (browse_plan category page) ≡ Some (finished (browse category page rows))
unfolding outcome_of browse_plan browse site_components site_references site_tables
browse_comes category page rows =
    row_comes 40 None rows category_of (category_id category) not_there _ _ refl (λ bytes found is.
    counter_comes 39 None rows (category_counter category) _ _ refl (λ entries.
    few_links 39 rows (entry_link_plan category) (entry_line rows category)
    (count_up (PAGE_ITEMS * page + 1) (min PAGE_ITEMS (entries - PAGE_ITEMS * page))) (min PAGE_ITEMS (entries - PAGE_ITEMS * page))
    (λ links. Gives (category_shown found links)) (λ links. Ok (category_shown found links))
    (entry_link_comes category rows) (λ n links. answer_comes n rows (shows 200 found.name links))
    (count_up_length (PAGE_ITEMS * page + 1) (min PAGE_ITEMS (entries - PAGE_ITEMS * page))) (omega arith)))

own_item_link_comes : (user : ℕ) (rows : List RowWrite) (number n : ℕ) (f : PageLine → Plan Outcome) (g : PageLine → Found Outcome)
    → ((line : PageLine) → Comes n None rows (f line) (g line))
    → Comes (two_each n) None rows (own_item_link_plan user number >>= f) (and_then (own_item_line rows user number) g)
unfolding own_item_link_plan ◌>>=◌ two_each site_components site_references site_tables
own_item_link_comes user rows number n f g later =
    join_comes (suc (suc n)) None rows (asks_row own_item_of (own_item_id user number)) _ f (the_row rows own_item_of (own_item_id user number)) _ g (
    row_comes (suc n) None rows own_item_of (own_item_id user number) not_there _ _ refl (λ bytes own is.
    join_comes (suc n) None rows (asks_row item_of (item_id own.item)) _ f (the_row rows item_of (item_id own.item)) _ g (
    row_comes n None rows item_of (item_id own.item) not_there _ _ refl (λ bytes item is. later (item_link own.item item)))))

pub show_own_items_comes : (number : ℕ) (rows : List RowWrite)
    → outcome_of site_parts None rows (show_own_items_plan number) ≡ Some (finished (show_own_items number rows))
unfolding outcome_of show_own_items_plan show_own_items site_components site_references site_tables
show_own_items_comes number rows =
    refuses_if_comes 41 None rows (number == 0) sign_in_first _ _ (λ signed.
    row_comes 40 None rows user_of (user_id number) not_there _ _ refl (λ bytes user is.
    few_links 40 rows (own_item_link_plan number) (own_item_line rows number)
    (count_down user.items (min PAGE_ITEMS user.items)) (min PAGE_ITEMS user.items)
    (λ links. Gives (user_items_shown user links)) (λ links. Ok (user_items_shown user links))
    (own_item_link_comes number rows) (λ n links. answer_comes n rows (shows 200 user.name links))
    (count_down_length user.items (min PAGE_ITEMS user.items)) (omega arith)))

pub show_item_comes : (number : ℕ) (rows : List RowWrite)
    → outcome_of site_parts None rows (show_item_plan number) ≡ Some (finished (show_item number rows))
unfolding outcome_of show_item_plan show_item site_components site_references site_tables
show_item_comes number rows =
    row_comes 40 None rows item_of (item_id number) not_there _ _ refl (λ bytes item is.
    row_comes 39 None rows user_of (user_id item.seller) not_there _ _ refl (λ bytes seller is. refl))

pub show_user_comes : (number : ℕ) (rows : List RowWrite)
    → outcome_of site_parts None rows (show_user_plan number) ≡ Some (finished (show_user number rows))
unfolding outcome_of show_user_plan show_user site_components site_references site_tables
show_user_comes number rows =
    row_comes 40 None rows user_of (user_id number) not_there _ _ refl (λ bytes user is. refl)
