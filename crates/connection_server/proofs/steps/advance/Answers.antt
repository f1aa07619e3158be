use Rattle.std.proofs.Common.{◌≡◌, [], arith, ap, refl, sym}
use Rattle.auction_calls.specs.declared.action.ActionCall.{ActionCall}
use Rattle.request_visit.specs.Advancing.{Advances}
use Rattle.request_visit.specs.declared.visit.Visit.{Visit}
use Rattle.request_visit.specs.declared.visit.Work.TheVariants.{Opening}
use Rattle.shepherd.specs.declared.shepherd.Shepherd.{Shepherd}
use Rattle.connection_server.specs.Stands.{began_at}
use Rattle.connection_server.proofs.Heeding.{stepped}
use Rattle.connection_server.proofs.Kept.{advance_keeps}
use Rattle.connection_server.proofs.Drawn.{drawn_none}
use Rattle.connection_server.proofs.Moving.{wanted, went_on}
use Rattle.outside.proofs.Prefixes.{prepended_none}
use Rattle.connection_server.proofs.Seen.{reached_here}
use Rattle.connection_server.proofs.steps.advance.Goals as goal

pub advance-requires-clause-holders : goal.advance-requires-clause-holders
advance-requires-clause-holders g c =
    let k = c.requires.serving.1 in
    c.connections_go_on.ensures.own_turn k.served.serves.goes.container c.args.connection.now.shepherd c.requires.turn k.served.serves.goes.goes_on

pub returns-in-Ok : goal.returns-in-Ok
returns-in-Ok g c = λ now k.
    let old = c.args.connection.now in
    let key = c.as_slice.result.now in
    went_on g.L.Link.makes g.R.Random.gives g.B.Outset.service g.B.Outset.begun now now old _ (record { items = refl; stopped = refl }) (ap (λ (s : Shepherd ActionCall). s.ended) c.in-Ok.ensures.step.rest) refl refl refl refl refl (reached_here now.counts) refl (omega arith) (omega arith) refl (omega arith)
    (λ start course parts serves. c.connections_are_served_behind_their_steps.ensures.advance g.B.Outset.service start (began_at g.B.Outset.begun) now.container.seen now.counts now.moment course old.shepherd c.advance.new.self
    c.requires.turn (rw (c.requires.service, ← c.as_slice.ensures) c.in-Ok.ensures.step) serves)
    (λ heeds. stepped now.container.seen old.items.items old.stopped (λ (v : Visit ActionCall) w. Advances key v v.work w) old.shepherd.stage c.advance.new.self.stage
    (λ v w so. advance_keeps key v w so) c.in-Ok.ensures.step.steps heeds)
    k

pub returns-in-Err : goal.returns-in-Err
returns-in-Err g c = λ now k.
    let old = c.args.connection.now in
    wanted g.L.Link.makes g.R.Random.gives g.B.Outset.service g.B.Outset.begun now now [] old _ (record { items = refl; stopped = refl }) refl refl (drawn_none now.words) refl refl (reached_here now.counts) (sym (prepended_none now.left)) (omega arith) (omega arith) refl (omega arith)
    (λ start course serves. c.connections_stop_where_memory_is_wanted.ensures.advance g.B.Outset.service start (began_at g.B.Outset.begun) now.container.seen now.counts now.moment course old.shepherd c.advance.new.self
    c.requires.turn c.in-Err.ensures.holds serves)
    (λ heeds. stepped now.container.seen old.items.items old.stopped (λ (v : Visit ActionCall) w. w ≡ record v { work = Opening }) old.shepherd.stage c.advance.new.self.stage
    (λ v w so. ap (λ (x : Visit ActionCall). x.holds) so) c.in-Err.ensures.holds heeds)
    k
