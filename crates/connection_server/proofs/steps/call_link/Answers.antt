use Rattle.std.proofs.Common.{arith, ap, refl}
use Rattle.auction_calls.specs.declared.action.ActionCall.{ActionCall}
use Rattle.request_visit.specs.Stepping.{counted}
use Rattle.request_visit.specs.declared.visit.Visit.{Visit}
use Rattle.shepherd.specs.Steps.{VisitsOutside}
use Rattle.shepherd.specs.declared.shepherd.Shepherd.{Shepherd}
use Rattle.connection_server.specs.Stands.{Stand, began_at}
use Rattle.connection_server.proofs.Heeding.{still, stepped}
use Rattle.connection_server.proofs.Moving.{call_wanted, called}
use Rattle.connection_server.proofs.Seen.{break_counts, step_counts}
use Rattle.connection_server.proofs.steps.call_link.Goals as goal

pub returns-in-Ok : goal.returns-in-Ok
returns-in-Ok g c = λ rest from leads k.
    let old = c.args.connection.now in
    let now : Stand = record rest { counts = counted (g.L.Link.tally c.args.link.now) } in
    called g.L.Link.makes g.R.Random.gives g.B.Outset.service g.B.Outset.begun now (counted (g.L.Link.tally c.step_outside.new.link)) from c.args.link.now c.step_outside.new.link old _ (record { items = refl; stopped = refl })
    (ap (λ (s : Shepherd ActionCall). s.ended) c.in-Ok.ensures.step.rest)
    (step_counts g.L.Link.makes g.L.Link.tally g.met.L.Link.tallies old.shepherd.stage c.step_outside.new.self.stage c.args.link.now c.step_outside.new.link c.in-Ok.ensures.step.steps)
    (λ start course serves. c.connections_are_served_behind_their_steps.ensures.outside g.B.Outset.service start (began_at g.B.Outset.begun) rest.container.seen now.counts rest.moment course old.shepherd c.step_outside.new.self
    c.args.link.now c.step_outside.new.link c.requires (record { hushed = omega arith; got = omega arith }) c.in-Ok.ensures.step serves)
    (λ heeds. stepped rest.container.seen old.items.items old.stopped (λ (v : Visit ActionCall) w. VisitsOutside g.L.Link.makes g.L.Link.tally v c.args.link.now w c.step_outside.new.link) old.shepherd.stage c.step_outside.new.self.stage
    (λ v w so. ap (λ (x : Visit ActionCall). x.holds) so.rest) c.in-Ok.ensures.step.steps heeds)
    leads k

pub returns-in-Err : goal.returns-in-Err
returns-in-Err g c = λ rest from leads k.
    let old = c.args.connection.now in
    let now : Stand = record rest { counts = counted (g.L.Link.tally c.args.link.now) } in
    call_wanted g.L.Link.makes g.R.Random.gives g.B.Outset.service g.B.Outset.begun now (counted (g.L.Link.tally c.step_outside.new.link)) from c.args.link.now c.step_outside.new.link old _ (record { items = refl; stopped = refl })
    (break_counts g.L.Link.makes g.L.Link.tally g.met.L.Link.tallies old.shepherd.stage c.args.link.now c.step_outside.new.link c.in-Err.ensures.broke)
    (λ start course serves. c.connections_stop_where_memory_is_wanted.ensures.outside g.B.Outset.service start (began_at g.B.Outset.begun) rest.container.seen now.counts rest.moment course old.shepherd c.step_outside.new.self
    c.args.link.now c.step_outside.new.link c.requires (ap (λ (s : Shepherd ActionCall). s.stage) c.in-Err.ensures.want) c.in-Err.ensures.broke serves)
    (λ heeds. still rest.container.seen old.items.items old.stopped old.shepherd.stage c.step_outside.new.self.stage (ap (λ (s : Shepherd ActionCall). s.stage) c.in-Err.ensures.want) heeds)
    leads k
