use Rattle.std.proofs.Common.{◌≡◌, ℕ, [], List, ap, ◌∙◌, rules}
use Rattle.crash_base.specs.declared.rows.RowWrite.{RowWrite}
use Rattle.crash_base.specs.Rows.{put_all}
use Rattle.outside.specs.MapKeeper.{MapKeeperState, failed_calls}
use Rattle.outside.proofs.FailedCalls.{failed_calls-none}
use Rattle.outside.proofs.map_keeper.MapKeeper.new.Goals as goal

pub returns : goal.returns
returns c =
    let failing = c.args.failing in
    let keeper : List RowWrite → List ℕ → MapKeeperState = λ rows failed. record { told = record { rows = rows; calls = 0; failed = failed }; failing = failing; faults = 0 } in
    let rows : c.put_rows.new.self ≡ put_all c.args.rows [] = search rules in
    ap (λ rs. keeper rs (failed_calls failing 0)) rows ∙ ap (λ failed. keeper (put_all c.args.rows []) failed) (failed_calls-none failing)
