use Rattle.std.proofs.Common.{◌++◌}
use Rattle.scenario_engine.proofs.connections.connections_read_back.Goals as goal

pub returns-clause-right : goal.returns-clause-right
returns-clause-right c = λ turns more t u r q st now n keeps seat read value outcome told all done store idle last there left its hears waits written heard.
    c.connections_read_what_was_written.ensures.right (turns ++ more) t u q now st n keeps seat read value outcome told all last there left its hears
    (c.connections_stand_over_bricks.ensures.since turns more t u r q st now n seat read told all done store idle last there left its waits) written heard

pub returns-clause-in_time : goal.returns-clause-in_time
returns-clause-in_time c = λ turns more t u r q st now n keeps seat read value outcome told all done store idle last there left its hears waits written heard in_time.
    c.connections_read_what_was_written.ensures.in_time (turns ++ more) t u q now st n keeps seat read value outcome told all last there left its hears
    (c.connections_stand_over_bricks.ensures.since turns more t u r q st now n seat read told all done store idle last there left its waits) written heard in_time
