use Rattle.std.proofs.Common.{ap, arith, is_ok, true≢false}
use Rattle.session_way.proofs.Holders.{written_holders}
use Rattle.shepherd_bench.proofs.shop.write_session.Goals as goal

pub returns-in-Ok-clause-holders : goal.returns-in-Ok-clause-holders
returns-in-Ok-clause-holders c =
    written_holders _ _ _ _ _ _ _ _ _ c.requires.distinct (omega arith) (omega arith)
    (c.written_cookies_name_who_stored.ensures _ _ _ _ _ _ _ _ _ _ c.requires.distinct (c.in-Ok.ensures.ends (λ e. true≢false (ap is_ok e))))
