use Rattle.std.proofs.Common.{[], arith, ap, refl, sym, subst}
use Rattle.auction_calls.specs.declared.action.ActionCall.{ActionCall}
use Rattle.deployment.specs.declared.parts.Parts.{Parts}
use Rattle.shepherd.specs.declared.shepherd.Shepherd.{Shepherd}
use Rattle.site_programs.specs.Errands.{IsMadeOf}
use Rattle.site_programs.specs.declared.maker.SiteMaker.{SiteMaker}
use Rattle.connection_server.specs.Serving.{IsAccepted}
use Rattle.connection_server.specs.Stands.{began_at}
use Rattle.connection_server.proofs.Heeding.{opens, unmade}
use Rattle.connection_server.proofs.Drawn.{drawn_none}
use Rattle.connection_server.proofs.Moving.{wanted, went_on}
use Rattle.outside.proofs.Prefixes.{prepended_none}
use Rattle.connection_server.proofs.Seen.{reached_here}
use Rattle.connection_server.proofs.steps.make_program.Goals as goal

pub open-requires-clause-asked : goal.open-requires-clause-asked
open-requires-clause-asked g c =
    let k = c.requires.serving.1 in
    c.connections_go_on.ensures.program_turn k.served.serves.goes.container c.args.connection.now.shepherd c.requires.turn k.served.serves.goes.goes_on

pub returns-in-Ok : goal.returns-in-Ok
returns-in-Ok g c = λ now k.
    let old = c.args.connection.now in
    went_on g.L.Link.makes g.R.Random.gives g.B.Outset.service g.B.Outset.begun now now old _ (record { items = refl; stopped = refl }) (ap (λ (s : Shepherd ActionCall). s.ended) c.in-Ok.ensures.rest) refl refl refl refl refl (reached_here now.counts) refl (omega arith) (omega arith) refl (omega arith)
    (λ start course parts serves. rw c.in-Ok.ensures.rest (c.connections_are_served_behind_their_steps.ensures.open g.B.Outset.service start (began_at g.B.Outset.begun) now.container.seen now.counts now.moment course old.shepherd
    c.open.new.self.stage c.args.worker c.requires.turn
    (λ call text program made. subst (λ (p : Parts). IsAccepted program p) (sym parts) (c.site_programs_are_accepted.ensures.accepted g.B.Outset.service.maker call text program made)) c.in-Ok.ensures.stage serves))
    (λ heeds. opens now.container.seen old.items.items old.stopped (λ (maker : SiteMaker). IsMadeOf) g.B.Outset.service.maker c.args.worker old.shepherd.stage c.open.new.self.stage c.in-Ok.ensures.stage heeds)
    k

pub returns-in-Err : goal.returns-in-Err
returns-in-Err g c = λ now k.
    let old = c.args.connection.now in
    wanted g.L.Link.makes g.R.Random.gives g.B.Outset.service g.B.Outset.begun now now [] old _ (record { items = refl; stopped = refl }) refl refl (drawn_none now.words) refl refl (reached_here now.counts) (sym (prepended_none now.left)) (omega arith) (omega arith) refl (omega arith)
    (λ start course serves. c.connections_stop_where_memory_is_wanted.ensures.open g.B.Outset.service start (began_at g.B.Outset.begun) now.container.seen now.counts now.moment course old.shepherd c.open.new.self
    c.requires.turn c.in-Err.ensures.unmade serves)
    (λ heeds. unmade now.container.seen old.items.items old.stopped old.shepherd.stage c.open.new.self.stage c.in-Err.ensures.unmade heeds)
    k
