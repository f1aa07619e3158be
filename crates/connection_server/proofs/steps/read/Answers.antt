use Rattle.std.proofs.Common.{arith, ap, refl, List, ℕ}
use Rattle.std.specs.Prelude.{take}
use Rattle.auction_calls.specs.declared.action.ActionCall.{ActionCall}
use Rattle.shepherd.specs.declared.shepherd.Shepherd.{Shepherd}
use Rattle.connection_server.specs.Stands.{Stand, began_at}
use Rattle.connection_server.proofs.Heeding.{still}
use Rattle.connection_server.proofs.Drawn.{drawn_none}
use Rattle.connection_server.proofs.Moving.{fed, read_failed, wanted}
use Rattle.connection_server.proofs.Seen.{reached_here}
use Rattle.connection_server.proofs.Turned.{bytes_unended}
use Rattle.connection_server.proofs.steps.read.Goals as goal

pub returns-in-Err : goal.returns-in-Err
returns-in-Err g c = λ rest k.
    let old = c.args.connection.now in
    let now : Stand = record rest { left = g.S.Source.left c.args.source.now; read_faults = g.S.Source.faults c.args.source.now } in
    read_failed g.L.Link.makes g.R.Random.gives g.B.Outset.service g.B.Outset.begun now (g.S.Source.left c.read.new.self) (g.S.Source.faults c.read.new.self) old
    c.in-Err.ensures.err c.in-Err.ensures.cause c.read.ensures.count c.requires k

pub returns-in-Ok-feed : goal.returns-in-Ok-feed
returns-in-Ok-feed g c = λ rest k.
    let old = c.args.connection.now in
    let now : Stand = record rest { left = g.S.Source.left c.args.source.now; read_faults = g.S.Source.faults c.args.source.now } in
    let more : List ℕ = take c.in-Ok.count c.read.new.into in
    fed g.L.Link.makes g.R.Random.gives g.B.Outset.service g.B.Outset.begun now (g.S.Source.left c.read.new.self) (g.S.Source.faults c.read.new.self) more old _ (record { items = refl; stopped = refl })
    c.in-Ok-feed.ensures.fed (bytes_unended old.shepherd k.served.serves.remembers c.requires) c.in-Ok.ensures.taken c.read.ensures.count
    (λ start course serves. c.connections_are_served_from_their_begin.ensures.fed g.B.Outset.service start (began_at g.B.Outset.begun) rest.container.seen rest.counts rest.moment more course old.shepherd serves)
    k

pub returns-in-Err-feed : goal.returns-in-Err-feed
returns-in-Err-feed g c = λ rest k.
    let old = c.args.connection.now in
    let now : Stand = record rest { left = g.S.Source.left c.args.source.now; read_faults = g.S.Source.faults c.args.source.now } in
    let next : Stand = record rest { left = g.S.Source.left c.read.new.self; read_faults = g.S.Source.faults c.read.new.self } in
    let more : List ℕ = take c.in-Ok.count c.read.new.into in
    let same = ap (λ (s : Shepherd ActionCall). s.stage) c.in-Err-feed.ensures.want in
    wanted g.L.Link.makes g.R.Random.gives g.B.Outset.service g.B.Outset.begun now next more old _ (record { items = refl; stopped = refl }) refl refl (drawn_none rest.words) refl refl (reached_here rest.counts) c.in-Ok.ensures.taken
    c.read.ensures.count (omega arith) refl (omega arith)
    (λ start course serves. c.connections_stop_where_memory_is_wanted.ensures.bytes g.B.Outset.service start (began_at g.B.Outset.begun) rest.container.seen rest.counts rest.moment course old.shepherd c.feed.new.self c.requires same serves)
    (λ heeds. still rest.container.seen old.items.items old.stopped old.shepherd.stage c.feed.new.self.stage same heeds)
    k
