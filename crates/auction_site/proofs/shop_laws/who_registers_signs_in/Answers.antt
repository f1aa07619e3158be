use Rattle.auction_site.proofs.Sessions.{register_counts}
use Rattle.auction_site.proofs.Signing.{user_is_kept, right_signs_in, wrong_does_not, password_is_hidden}
use Rattle.auction_site.proofs.shop_laws.who_registers_signs_in.Goals as goal

pub returns-clause-kept : goal.returns-clause-kept
returns-clause-kept c = λ call name password users rows outcome. user_is_kept name password call.fresh call.now.0 users rows outcome

pub returns-clause-counted : goal.returns-clause-counted
returns-clause-counted c = register_counts

pub returns-clause-right : goal.returns-clause-right
returns-clause-right c = λ call later name password users rows outcome.
    right_signs_in name password call.fresh call.now.0 users later.now.0 rows outcome

pub returns-clause-wrong : goal.returns-clause-wrong
returns-clause-wrong c = λ call later name password other rows outcome.
    wrong_does_not name password other call.fresh call.now.0 later.now.0 rows outcome

pub returns-clause-hidden : goal.returns-clause-hidden
returns-clause-hidden c = λ call name password other rows. password_is_hidden name password other call.fresh call.now.0 rows
