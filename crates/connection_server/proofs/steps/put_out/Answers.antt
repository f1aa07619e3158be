use Rattle.std.proofs.Common.{ℕ, List, ap, refl, subst, ◌∙◌}
use Rattle.auction_calls.specs.declared.action.ActionCall.{ActionCall}
use Rattle.outside.specs.Sink.{AppendsPrefix, appended}
use Rattle.shepherd.specs.declared.shepherd.Shepherd.{Shepherd}
use Rattle.connection_server.specs.Stands.{Stand, began_at}
use Rattle.connection_server.proofs.Heeding.{out}
use Rattle.connection_server.proofs.Moving.{broke, put}
use Rattle.connection_server.proofs.steps.put_out.Goals as goal

pub returns-in-Ok : goal.returns-in-Ok
returns-in-Ok g c = λ rest k.
    let old = c.args.connection.now in
    let new = c.output-response.new.self in
    let bytes = c.output-response.result in
    let now : Stand = record rest { written = g.T.Sink.written c.args.sink.now; write_faults = g.T.Sink.faults c.args.sink.now } in
    put g.L.Link.makes g.R.Random.gives g.B.Outset.service g.B.Outset.begun now (g.T.Sink.written c.write_all.new.out) (g.T.Sink.faults c.write_all.new.out) bytes old _ (record { items = refl; stopped = refl }) (ap (λ (s : Shepherd ActionCall). s.ended) c.output-response.ensures.rest)
    (c.in-Ok.ensures.ok ∙ ap (λ (l : List ℕ). appended (g.T.Sink.written c.args.sink.now) l) c.as_slice.ensures) c.write_all.ensures.count
    (λ start course serves. rw c.output-response.ensures.rest (c.connections_are_served_from_their_begin.ensures.out g.B.Outset.service start (began_at g.B.Outset.begun) rest.container.seen rest.counts rest.moment bytes course old.shepherd new.stage
    c.requires c.output-response.ensures.stage serves))
    (λ heeds. out rest.container.seen old.items.items old.stopped bytes old.shepherd.stage new.stage c.output-response.ensures.stage heeds)
    k

pub returns : goal.returns
returns g c = λ rest k.
    let old = c.args.connection.now in
    let new = c.output-response.new.self in
    let bytes = c.output-response.result in
    let now : Stand = record rest { written = g.T.Sink.written c.args.sink.now; write_faults = g.T.Sink.faults c.args.sink.now } in
    broke g.L.Link.makes g.R.Random.gives g.B.Outset.service g.B.Outset.begun now (g.T.Sink.written c.write_all.new.out) (g.T.Sink.faults c.write_all.new.out) bytes old _ (record { items = refl; stopped = refl }) (ap (λ (s : Shepherd ActionCall). s.ended) c.output-response.ensures.rest)
    (subst (λ (l : List ℕ). AppendsPrefix (g.T.Sink.written c.args.sink.now) (g.T.Sink.written c.write_all.new.out) l) c.as_slice.ensures c.in-Err.ensures.prefix) c.in-Err.ensures.err c.write_all.ensures.count
    (c.connections_come_to_rest.ensures.out bytes old.shepherd new.stage c.requires c.output-response.ensures.stage)
    (λ start course serves. rw c.output-response.ensures.rest (c.connections_are_served_from_their_begin.ensures.out g.B.Outset.service start (began_at g.B.Outset.begun) rest.container.seen rest.counts rest.moment bytes course old.shepherd new.stage
    c.requires c.output-response.ensures.stage serves))
    (λ heeds. out rest.container.seen old.items.items old.stopped bytes old.shepherd.stage new.stage c.output-response.ensures.stage heeds)
    k
