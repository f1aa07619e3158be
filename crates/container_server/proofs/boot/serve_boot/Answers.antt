use Rattle.container_server.proofs.Using.{seen_on}
use Rattle.container_server.proofs.boot.serve_boot.Goals as goal

pub returns-clause-grown : goal.returns-clause-grown
returns-clause-grown g c =
    let first = c.in-Ok.made.1 in
    let last = c.join.new.seats in
    c.histories_tell_their_containers.ensures first.container.seen last.container.seen c.args.container c.close.result c.in-Ok.ensures.told c.close.ensures.told
    (seen_on first c.split-decider.new.seats c.run_threads-seats.result.0 last c.split-decider.ensures.seen.1 c.run_threads-seats.ensures.seats.1 c.join.ensures.seen)
