use Rattle.auction_site.proofs.Sessions.{register_sets, sign_in_sets, sign_out_sets, form_of_nobody_sets}
use Rattle.auction_site.proofs.SessionsKept.{others_leave, refusals_leave}
use Rattle.auction_site.proofs.shop_laws.sessions_are_of_users.Goals as goal

pub returns-clause-register : goal.returns-clause-register
returns-clause-register c = register_sets

pub returns-clause-sign_in : goal.returns-clause-sign_in
returns-clause-sign_in c = sign_in_sets

pub returns-clause-sign_out : goal.returns-clause-sign_out
returns-clause-sign_out c = sign_out_sets

pub returns-clause-form : goal.returns-clause-form
returns-clause-form c = form_of_nobody_sets

pub returns-clause-others : goal.returns-clause-others
returns-clause-others c = others_leave

pub returns-clause-refused : goal.returns-clause-refused
returns-clause-refused c = refusals_leave
