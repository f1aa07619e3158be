-- Calls of each action, which over some rows come to each use that is within its reach.
use Rattle.std.proofs.Common.{◌≡◌, ℕ, true, List, [], ◌∷◌, ◌++◌, Some, None, refl, sym, ap}
use Rattle.std.specs.Str.{is_utf8, chars}
use lib.Utf8.{encode}
use Rattle.crash_base.specs.declared.row_id.RowId.{RowId}
use Rattle.crash_base.specs.declared.rows.RowWrite.{RowWrite}
use Rattle.deployment.specs.Parts.{component_no}
use Rattle.journal_model.specs.Calls.{Call, seen, has_read, left, entered}
use Rattle.call_ticket.specs.declared.next.Answer.{Answer}
use Rattle.call_ticket.specs.declared.next.Answer.TheVariants as answer
use Rattle.call_ticket.specs.declared.next.Next.{Next}
use Rattle.call_ticket.specs.Following.{Follows, GoesOn}
use Rattle.action_plans.specs.Plans.{walk, ◌>>=◌}
use Rattle.action_plans.specs.Steps.{enter_count, exit_count, put_count, has_just_entered, reads_in}
use Rattle.auction_calls.specs.declared.action.Action.{Action}
use Rattle.auction_calls.specs.declared.action.Action.TheVariants as action
use Rattle.auction_calls.specs.declared.action.ActionCall.{ActionCall}
use Rattle.auction_calls.specs.declared.action.FormKind.TheVariants as kind
use Rattle.auction_calls.specs.Texts.{action_number}
use Rattle.auction_rows.specs.Ids.{name_id, user_id, item_id, category_id, category_counter, entry_id, own_item_id}
use Rattle.auction_rows.specs.Parts.{site_tables}
use Rattle.auction_rows.specs.Reading.{user_of, user_at, user_tail_at, name_of, name_at, counter_of, counter_at, item_of, item_at, item_head_at, item_amounts_at, item_end_at, category_of, category_at, entry_of, entry_at, own_item_of, own_item_at, bytes_at, number_at, u8_at, id_at, text_at}
use Rattle.auction_site.specs.Actions.{through, through_of, steps_of}
use Rattle.auction_site.specs.Outcomes.{registered, category_added, offered, bid_made, bought, closed, feedback_given}
use Rattle.auction_site.specs.Pieces.{refuses_if, refuses_by, decoded, decoded_or, asks_row_or, none_decoded, asks_no_row, count_decoded, asks_counter, asks_table, asks_each}
use Rattle.auction_site.specs.Planned.{register_plan, sign_in_plan, categories_plan, add_category_plan, entry_link_plan, browse_plan, show_item_plan, show_user_plan, own_item_link_plan, show_own_items_plan, offer_plan, sell_plan, bid_plan, buy_plan, close_plan, give_feedback_plan}
use Rattle.auction_site.specs.Reached.{reach_of, web_alone, registering, selling, ending, judging}
use Rattle.reach_laws.specs.Uses.{Enters, Reads, Lists, Puts}
use Rattle.reach_laws.proofs.Following.{On, state_at, followed, found_row}
use Rattle.reach_laws.proofs.Sampled.{Uses, IsUsed, Sample, sample, uses, enters, owned, call_by, row, wide, unnamed, user, item}

home_used : IsUsed 1 web_alone None
unfolding enter_count exit_count put_count has_just_entered reads_in walk ◌>>=◌ site_tables
home_used =
    let s : Sample 1 = sample 1 0 action.Home [] refl refl in
    record {
      web = enters s 0 0 0 refl;
      inner = tt;
      enters =
          (uses s (Enters 0) 0 refl, tt);
      reads = tt;
      lists = tt;
      puts = tt;
      owners_read = tt;
      owners_listed = tt;
      owners_put = tt;
    }

register_used : IsUsed 2 registering None
unfolding enter_count exit_count put_count has_just_entered reads_in walk ◌>>=◌ site_tables register_plan registered name_id refuses_if asks_no_row none_decoded asks_counter count_decoded is_utf8 chars encode
register_used =
    let s : Sample 2 = sample 2 0 (action.Register (97 ∷ []) (97 ∷ [])) [] refl refl in
    record {
      web = enters s 0 0 0 refl;
      inner = tt;
      enters = (
        uses s (Enters 0) 0 refl,
        (
          uses s (Enters 1) 1 refl,
          (uses s (Enters 2) 4 refl, tt),
        ),
      );
      reads = (
        uses s (Reads 2) 2 refl,
        (uses s (Reads 3) 5 refl, tt),
      );
      lists = tt;
      puts = (
        uses s (Puts 3) 8 refl,
        (
          uses s (Puts 1) 11 refl,
          (uses s (Puts 2) 14 refl, tt),
        ),
      );
      owners_read = (
        owned 2 2 1 refl (enters s 1 0 1 refl),
        (owned 2 3 2 refl (enters s 2 0 4 refl), tt),
      );
      owners_listed = tt;
      owners_put = (
        owned 2 3 2 refl (enters s 2 0 4 refl),
        (
          owned 2 1 1 refl (enters s 1 0 1 refl),
          (owned 2 2 1 refl (enters s 1 0 1 refl), tt),
        ),
      );
    }

-- Signing in reads the user once it has found the name. That the row of the name is found is a lemma, since the id of
-- that row is not computed.
sign_in_reads : Uses 3 (Reads 1)
unfolding enter_count exit_count put_count has_just_entered reads_in walk ◌>>=◌ site_tables sign_in_plan name_id refuses_if asks_row_or decoded_or decoded name_of name_at bytes_at number_at id_at text_at is_utf8 chars encode
sign_in_reads =
    let call : ActionCall = call_by 0 (action.SignIn (97 ∷ []) (97 ∷ [])) in
    let asks : List Answer → Next = steps_of call in
    let id : RowId = name_id (97 ∷ []) in
    let bytes : List ℕ = 0 ∷ 1 ∷ 97 ∷ wide 0 [] in
    let rows : List RowWrite = row id bytes ∷ [] in
    let two : On = state_at asks rows 2 in
    let three : Call = has_read rows id two.call in
    let before : List Answer = two.answers ++ answer.Row (Some bytes) ∷ [] in
    let found : answer.Row (Some bytes) ≡ answer.Row (seen rows [] id) = ap (λ o. answer.Row o) (sym (found_row id bytes)) in
    let read : Follows asks rows before three = GoesOn two.answers two.call three (answer.Row (Some bytes)) (followed asks rows 2) (found, refl) in
    let out : Follows asks rows (before ++ answer.Left ∷ []) (left three) = GoesOn before three (left three) answer.Left read (refl, refl) in
    let in_users : Call = entered [] 0 (component_no 1) (left three) in
    record {
      call = call;
      in_ranges = refl;
      of_number = refl;
      rows = rows;
      answers = (before ++ answer.Left ∷ []) ++ answer.Entered ∷ [];
      making = in_users;
      follows = GoesOn (before ++ answer.Left ∷ []) (left three) in_users answer.Entered out (refl, ([], 0, refl));
      step = refl;
    }

sign_in_used : IsUsed 3 (reach_of (action.SignIn [] [])) None
unfolding enter_count exit_count put_count has_just_entered reads_in walk ◌>>=◌ site_tables sign_in_plan name_id refuses_if asks_row_or decoded_or decoded is_utf8 chars encode
sign_in_used =
    let s : Sample 3 = sample 3 0 (action.SignIn (97 ∷ []) (97 ∷ [])) (row (name_id (97 ∷ [])) (97 ∷ []) ∷ []) refl refl in
    record {
      web = enters s 0 0 0 refl;
      inner = tt;
      enters = (
        uses s (Enters 0) 0 refl,
        (uses s (Enters 1) 1 refl, tt),
      );
      reads = (
        uses s (Reads 2) 2 refl,
        (sign_in_reads, tt),
      );
      lists = tt;
      puts = tt;
      owners_read = (
        owned 3 2 1 refl (enters s 1 0 1 refl),
        (owned 3 1 1 refl (enters s 1 0 1 refl), tt),
      );
      owners_listed = tt;
      owners_put = tt;
    }

sign_out_used : IsUsed 4 web_alone None
unfolding enter_count exit_count put_count has_just_entered reads_in walk ◌>>=◌ site_tables
sign_out_used =
    let s : Sample 4 = sample 4 0 action.SignOut [] refl refl in
    record {
      web = enters s 0 0 0 refl;
      inner = tt;
      enters =
          (uses s (Enters 0) 0 refl, tt);
      reads = tt;
      lists = tt;
      puts = tt;
      owners_read = tt;
      owners_listed = tt;
      owners_put = tt;
    }

categories_used : IsUsed 5 (reach_of action.Categories) None
unfolding enter_count exit_count put_count has_just_entered reads_in walk ◌>>=◌ site_tables categories_plan asks_table
categories_used =
    let s : Sample 5 = sample 5 0 action.Categories [] refl refl in
    record {
      web = enters s 0 0 0 refl;
      inner = tt;
      enters = (
        uses s (Enters 0) 0 refl,
        (uses s (Enters 4) 1 refl, tt),
      );
      reads = tt;
      lists =
          (uses s (Lists 5) 2 refl, tt);
      puts = tt;
      owners_read = tt;
      owners_listed =
          (owned 5 5 4 refl (enters s 4 0 1 refl), tt);
      owners_put = tt;
    }

add_category_used : IsUsed 6 (reach_of (action.AddCategory [])) None
unfolding enter_count exit_count put_count has_just_entered reads_in walk ◌>>=◌ site_tables add_category_plan category_added refuses_if asks_counter count_decoded is_utf8 chars encode
add_category_used =
    let s : Sample 6 = sample 6 1 (action.AddCategory (97 ∷ [])) [] refl refl in
    record {
      web = enters s 0 0 0 refl;
      inner = tt;
      enters = (
        uses s (Enters 0) 0 refl,
        (
          uses s (Enters 2) 1 refl,
          (uses s (Enters 4) 7 refl, tt),
        ),
      );
      reads =
          (uses s (Reads 3) 2 refl, tt);
      lists = tt;
      puts = (
        uses s (Puts 3) 5 refl,
        (uses s (Puts 5) 8 refl, tt),
      );
      owners_read =
          (owned 6 3 2 refl (enters s 2 0 1 refl), tt);
      owners_listed = tt;
      owners_put = (
        owned 6 3 2 refl (enters s 2 0 1 refl),
        (owned 6 5 4 refl (enters s 4 0 7 refl), tt),
      );
    }

browse_used : IsUsed 7 (reach_of (action.Browse 0 0)) None
unfolding enter_count exit_count put_count has_just_entered reads_in walk ◌>>=◌ site_tables browse_plan entry_link_plan asks_row_or decoded_or decoded asks_counter count_decoded asks_each category_of category_at counter_of counter_at entry_of entry_at bytes_at number_at id_at text_at is_utf8 chars encode
browse_used =
    let s : Sample 7 = sample 7 0 (action.Browse 1 0) (row (category_counter 1) (wide 1 []) ∷ row (category_id 1) unnamed ∷ row (entry_id 1 1) (wide 0 []) ∷ []) refl refl in
    record {
      web = enters s 0 0 0 refl;
      inner = tt;
      enters = (
        uses s (Enters 0) 0 refl,
        (
          uses s (Enters 4) 1 refl,
          (
            uses s (Enters 2) 4 refl,
            (uses s (Enters 3) 7 refl, tt),
          ),
        ),
      );
      reads = (
        uses s (Reads 5) 2 refl,
        (
          uses s (Reads 3) 5 refl,
          (
            uses s (Reads 7) 8 refl,
            (uses s (Reads 4) 11 refl, tt),
          ),
        ),
      );
      lists = tt;
      puts = tt;
      owners_read = (
        owned 7 5 4 refl (enters s 4 0 1 refl),
        (
          owned 7 3 2 refl (enters s 2 0 4 refl),
          (
            owned 7 7 3 refl (enters s 3 0 7 refl),
            (owned 7 4 3 refl (enters s 3 0 7 refl), tt),
          ),
        ),
      );
      owners_listed = tt;
      owners_put = tt;
    }

item_used : IsUsed 8 (reach_of (action.Item 0)) None
unfolding enter_count exit_count put_count has_just_entered reads_in walk ◌>>=◌ site_tables show_item_plan asks_row_or decoded_or decoded item_of item_at item_head_at item_amounts_at item_end_at bytes_at number_at u8_at id_at text_at is_utf8 chars encode
item_used =
    let s : Sample 8 = sample 8 0 (action.Item 1) (row (item_id 1) (item 0) ∷ []) refl refl in
    record {
      web = enters s 0 0 0 refl;
      inner = tt;
      enters = (
        uses s (Enters 0) 0 refl,
        (
          uses s (Enters 3) 1 refl,
          (uses s (Enters 1) 4 refl, tt),
        ),
      );
      reads = (
        uses s (Reads 4) 2 refl,
        (uses s (Reads 1) 5 refl, tt),
      );
      lists = tt;
      puts = tt;
      owners_read = (
        owned 8 4 3 refl (enters s 3 0 1 refl),
        (owned 8 1 1 refl (enters s 1 0 4 refl), tt),
      );
      owners_listed = tt;
      owners_put = tt;
    }

user_used : IsUsed 9 (reach_of (action.User 0)) None
unfolding enter_count exit_count put_count has_just_entered reads_in walk ◌>>=◌ site_tables show_user_plan asks_row_or
user_used =
    let s : Sample 9 = sample 9 0 (action.User 1) [] refl refl in
    record {
      web = enters s 0 0 0 refl;
      inner = tt;
      enters = (
        uses s (Enters 0) 0 refl,
        (uses s (Enters 1) 1 refl, tt),
      );
      reads =
          (uses s (Reads 1) 2 refl, tt);
      lists = tt;
      puts = tt;
      owners_read =
          (owned 9 1 1 refl (enters s 1 0 1 refl), tt);
      owners_listed = tt;
      owners_put = tt;
    }

about_used : IsUsed 10 (reach_of action.About) None
unfolding enter_count exit_count put_count has_just_entered reads_in walk ◌>>=◌ site_tables show_own_items_plan own_item_link_plan refuses_if asks_row_or decoded_or decoded asks_each user_of user_at user_tail_at own_item_of own_item_at bytes_at number_at id_at text_at is_utf8 chars encode
about_used =
    let s : Sample 10 = sample 10 1 action.About (row (user_id 1) (user 1) ∷ row (own_item_id 1 1) (wide 0 []) ∷ []) refl refl in
    record {
      web = enters s 0 0 0 refl;
      inner = tt;
      enters = (
        uses s (Enters 0) 0 refl,
        (
          uses s (Enters 1) 1 refl,
          (uses s (Enters 3) 4 refl, tt),
        ),
      );
      reads = (
        uses s (Reads 1) 2 refl,
        (
          uses s (Reads 9) 5 refl,
          (uses s (Reads 4) 8 refl, tt),
        ),
      );
      lists = tt;
      puts = tt;
      owners_read = (
        owned 10 1 1 refl (enters s 1 0 1 refl),
        (
          owned 10 9 3 refl (enters s 3 0 4 refl),
          (owned 10 4 3 refl (enters s 3 0 4 refl), tt),
        ),
      );
      owners_listed = tt;
      owners_put = tt;
    }

sell_used : IsUsed 11 selling None
unfolding enter_count exit_count put_count has_just_entered reads_in walk ◌>>=◌ site_tables sell_plan offer_plan offered refuses_if asks_row_or decoded_or decoded asks_counter count_decoded category_of category_at user_of user_at user_tail_at bytes_at number_at text_at is_utf8 chars encode
sell_used =
    let s : Sample 11 = sample 11 1 (action.Sell (97 ∷ []) 1 1 0 1) (row (user_id 1) (user 0) ∷ row (category_id 1) unnamed ∷ []) refl refl in
    record {
      web = enters s 0 0 0 refl;
      inner = tt;
      enters = (
        uses s (Enters 0) 0 refl,
        (
          uses s (Enters 4) 1 refl,
          (
            uses s (Enters 2) 4 refl,
            (
              uses s (Enters 1) 10 refl,
              (uses s (Enters 3) 19 refl, tt),
            ),
          ),
        ),
      );
      reads = (
        uses s (Reads 5) 2 refl,
        (
          uses s (Reads 3) 5 refl,
          (uses s (Reads 1) 11 refl, tt),
        ),
      );
      lists = tt;
      puts = (
        uses s (Puts 3) 14 refl,
        (
          uses s (Puts 4) 20 refl,
          (
            uses s (Puts 7) 23 refl,
            (
              uses s (Puts 1) 26 refl,
              (uses s (Puts 9) 29 refl, tt),
            ),
          ),
        ),
      );
      owners_read = (
        owned 11 5 4 refl (enters s 4 0 1 refl),
        (
          owned 11 3 2 refl (enters s 2 0 4 refl),
          (owned 11 1 1 refl (enters s 1 0 10 refl), tt),
        ),
      );
      owners_listed = tt;
      owners_put = (
        owned 11 3 2 refl (enters s 2 0 4 refl),
        (
          owned 11 4 3 refl (enters s 3 0 19 refl),
          (
            owned 11 7 3 refl (enters s 3 0 19 refl),
            (
              owned 11 1 1 refl (enters s 1 0 10 refl),
              (owned 11 9 3 refl (enters s 3 0 19 refl), tt),
            ),
          ),
        ),
      );
    }

bid_used : IsUsed 12 (reach_of (action.Bid 0 0)) (through 5 0)
unfolding enter_count exit_count put_count has_just_entered reads_in walk ◌>>=◌ site_tables bid_plan bid_made refuses_if refuses_by asks_row_or decoded_or decoded item_of item_at item_head_at item_amounts_at item_end_at bytes_at number_at u8_at id_at text_at is_utf8 chars encode
bid_used =
    let s : Sample 12 = sample 12 1 (action.Bid 1 1) (row (item_id 1) (item 0) ∷ []) refl refl in
    record {
      web = enters s 0 0 0 refl;
      inner = enters s 5 0 1 refl;
      enters = (
        uses s (Enters 0) 0 refl,
        (
          uses s (Enters 5) 1 refl,
          (uses s (Enters 3) 2 refl, tt),
        ),
      );
      reads =
          (uses s (Reads 4) 3 refl, tt);
      lists = tt;
      puts = (
        uses s (Puts 6) 5 refl,
        (uses s (Puts 4) 7 refl, tt),
      );
      owners_read =
          (owned 12 4 3 refl (enters s 3 0 2 refl), tt);
      owners_listed = tt;
      owners_put = (
        owned 12 6 5 refl (enters s 5 0 1 refl),
        (owned 12 4 3 refl (enters s 3 0 2 refl), tt),
      );
    }

buy_used : IsUsed 13 ending (through 6 1)
unfolding enter_count exit_count put_count has_just_entered reads_in walk ◌>>=◌ site_tables buy_plan bought refuses_if refuses_by asks_row_or decoded_or decoded item_of item_at item_head_at item_amounts_at item_end_at bytes_at number_at u8_at id_at text_at is_utf8 chars encode
buy_used =
    let s : Sample 13 = sample 13 1 (action.Buy 1) (row (item_id 1) (item 0) ∷ []) refl refl in
    record {
      web = enters s 0 0 0 refl;
      inner = enters s 6 1 1 refl;
      enters = (
        uses s (Enters 0) 0 refl,
        (
          uses s (Enters 6) 1 refl,
          (uses s (Enters 3) 2 refl, tt),
        ),
      );
      reads =
          (uses s (Reads 4) 3 refl, tt);
      lists = tt;
      puts =
          (uses s (Puts 4) 6 refl, tt);
      owners_read =
          (owned 13 4 3 refl (enters s 3 0 2 refl), tt);
      owners_listed = tt;
      owners_put =
          (owned 13 4 3 refl (enters s 3 0 2 refl), tt);
    }

close_used : IsUsed 14 ending (through 6 0)
unfolding enter_count exit_count put_count has_just_entered reads_in walk ◌>>=◌ site_tables close_plan closed refuses_if refuses_by asks_row_or decoded_or decoded item_of item_at item_head_at item_amounts_at item_end_at bytes_at number_at u8_at id_at text_at is_utf8 chars encode
close_used =
    let s : Sample 14 = sample 14 2 (action.Close 1) (row (item_id 1) (item 0) ∷ []) refl refl in
    record {
      web = enters s 0 0 0 refl;
      inner = enters s 6 0 1 refl;
      enters = (
        uses s (Enters 0) 0 refl,
        (
          uses s (Enters 6) 1 refl,
          (uses s (Enters 3) 2 refl, tt),
        ),
      );
      reads =
          (uses s (Reads 4) 3 refl, tt);
      lists = tt;
      puts =
          (uses s (Puts 4) 6 refl, tt);
      owners_read =
          (owned 14 4 3 refl (enters s 3 0 2 refl), tt);
      owners_listed = tt;
      owners_put =
          (owned 14 4 3 refl (enters s 3 0 2 refl), tt);
    }

feedback_used : IsUsed 15 judging (through 7 0)
unfolding enter_count exit_count put_count has_just_entered reads_in walk ◌>>=◌ site_tables give_feedback_plan feedback_given refuses_if refuses_by asks_row_or decoded_or decoded user_of user_at user_tail_at item_of item_at item_head_at item_amounts_at item_end_at bytes_at number_at u8_at id_at text_at is_utf8 chars encode
feedback_used =
    let s : Sample 15 = sample 15 2 (action.Feedback 1 true []) (row (user_id 0) (user 0) ∷ row (item_id 1) (item 2) ∷ []) refl refl in
    record {
      web = enters s 0 0 0 refl;
      inner = enters s 7 0 1 refl;
      enters = (
        uses s (Enters 0) 0 refl,
        (
          uses s (Enters 7) 1 refl,
          (
            uses s (Enters 3) 2 refl,
            (uses s (Enters 1) 5 refl, tt),
          ),
        ),
      );
      reads = (
        uses s (Reads 4) 3 refl,
        (uses s (Reads 1) 6 refl, tt),
      );
      lists = tt;
      puts = (
        uses s (Puts 8) 8 refl,
        (
          uses s (Puts 1) 10 refl,
          (uses s (Puts 4) 13 refl, tt),
        ),
      );
      owners_read = (
        owned 15 4 3 refl (enters s 3 0 2 refl),
        (owned 15 1 1 refl (enters s 1 0 5 refl), tt),
      );
      owners_listed = tt;
      owners_put = (
        owned 15 8 7 refl (enters s 7 0 1 refl),
        (
          owned 15 1 1 refl (enters s 1 0 5 refl),
          (owned 15 4 3 refl (enters s 3 0 2 refl), tt),
        ),
      );
    }

form_used : IsUsed 16 web_alone None
unfolding enter_count exit_count put_count has_just_entered reads_in walk ◌>>=◌ site_tables
form_used =
    let s : Sample 16 = sample 16 0 (action.Form kind.Bid) [] refl refl in
    record {
      web = enters s 0 0 0 refl;
      inner = tt;
      enters =
          (uses s (Enters 0) 0 refl, tt);
      reads = tt;
      lists = tt;
      puts = tt;
      owners_read = tt;
      owners_listed = tt;
      owners_put = tt;
    }

-- each use within the reach of an action, and each way in
pub is_used : (a : Action) → IsUsed (action_number a) (reach_of a) (through_of a)
is_used action.Home = home_used
is_used (action.Register name password) = register_used
is_used (action.SignIn name password) = sign_in_used
is_used action.SignOut = sign_out_used
is_used action.Categories = categories_used
is_used (action.AddCategory name) = add_category_used
is_used (action.Browse category page) = browse_used
is_used (action.Item number) = item_used
is_used (action.User number) = user_used
is_used action.About = about_used
is_used (action.Sell title category start buy_now hours) = sell_used
is_used (action.Bid number amount) = bid_used
is_used (action.Buy number) = buy_used
is_used (action.Close number) = close_used
is_used (action.Feedback number good text) = feedback_used
is_used (action.Form kind) = form_used
