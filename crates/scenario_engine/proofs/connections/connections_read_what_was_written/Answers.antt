use Rattle.seat_lines.specs.Lines.{givens_of, world_of}
use Rattle.scenario_engine.specs.State.{site_of}
use Rattle.scenario_engine.proofs.connections.connections_read_what_was_written.Goals as goal

pub returns-clause-right : goal.returns-clause-right
returns-clause-right c = λ turns t u r st earlier n keeps seat read value outcome told all last store left there hears since written heard.
    c.seats_read_what_was_written.ensures.right earlier (givens_of (site_of r) n keeps) seat (world_of (site_of r) st) read value outcome
    (c.connections_stand_over_bricks.ensures.stands turns t u r st n seat told all last store left there) hears since written heard

pub returns-clause-in_time : goal.returns-clause-in_time
returns-clause-in_time c = λ turns t u r st earlier n keeps seat read value outcome told all last store left there hears since written heard in_time.
    c.seats_read_what_was_written.ensures.in_time earlier (givens_of (site_of r) n keeps) seat (world_of (site_of r) st) read value outcome
    (c.connections_stand_over_bricks.ensures.stands turns t u r st n seat told all last store left there) hears since written heard in_time
