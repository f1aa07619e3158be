use Rattle.std.proofs.Common.{◌≡◌, List, [], ◌∷◌, ◌++◌, arith, ap, refl, sym, subst, ◌∙◌}
use Rattle.auction_calls.specs.declared.action.ActionCall.{ActionCall}
use Rattle.outcome_items.specs.declared.item.Item.{Item}
use Rattle.shepherd.specs.Steps.{TakesItem}
use Rattle.shepherd.specs.declared.shepherd.Shepherd.{Shepherd}
use Rattle.connection_server.specs.Stands.{began_at}
use Rattle.connection_server.proofs.Heeding.{still}
use Rattle.connection_server.proofs.Leaving.{item_kept, item_last}
use Rattle.connection_server.proofs.Drawn.{drawn_none}
use Rattle.connection_server.proofs.Moving.{wanted}
use Rattle.outside.proofs.Prefixes.{prepended_none}
use Rattle.connection_server.proofs.Seen.{reached_here}
use Rattle.connection_server.proofs.steps.take_item.Goals as goal

pub add_item-requires-clause-item : goal.add_item-requires-clause-item
add_item-requires-clause-item g c = rw c.reserve.ensures.rest.1 (c.items_are_for_requests_in_order.ensures.item c.args.connection.now.shepherd c.requires)

pub returns-in-Err : goal.returns-in-Err
returns-in-Err g c = λ now k.
    let old = c.args.connection.now in
    let new = c.reserve.new.self in
    wanted g.L.Link.makes g.R.Random.gives g.B.Outset.service g.B.Outset.begun now now [] old new (record { items = c.reserve.ensures.items; stopped = c.reserve.ensures.rest.0 }) refl refl (drawn_none now.words) refl refl (reached_here now.counts) (sym (prepended_none now.left)) (omega arith) (omega arith) refl (omega arith)
    (λ start course serves. c.connections_stop_where_memory_is_wanted.ensures.room g.B.Outset.service start (began_at g.B.Outset.begun) now.container.seen now.counts now.moment course old.shepherd new.shepherd
    c.requires (ap (λ (s : Shepherd ActionCall). s.stage) c.reserve.ensures.rest.1) serves)
    (λ heeds. still now.container.seen old.items.items old.stopped old.shepherd.stage new.shepherd.stage (ap (λ (s : Shepherd ActionCall). s.stage) c.reserve.ensures.rest.1) heeds)
    k

pub returns-then-connection : goal.returns-then-connection
returns-then-connection g c = λ now k.
    let old = c.args.connection.now in
    let new = c.add_item.new.self in
    let same = c.reserve.ensures.rest.1 in
    let item = c.add_item.ensures.item in
    let stopped = c.add_item.ensures.stopped ∙ c.reserve.ensures.rest.0 in
    let takes : TakesItem old.shepherd.stage item.0 new.shepherd.stage = subst (λ (s : Shepherd ActionCall). TakesItem s.stage item.0 new.shepherd.stage) same item.1 in
    let is : new.shepherd ≡ record (old.shepherd) { front = item.0.holds.front; stage = new.shepherd.stage } =
    item.3 ∙ ap (λ (s : Shepherd ActionCall). record s { front = item.0.holds.front; stage = new.shepherd.stage }) same in
    rw c.stopped_so.ensures
    (item_last g.L.Link.makes g.R.Random.gives g.B.Outset.service g.B.Outset.begun now old new item.0 (item.2 ∙ ap (λ (l : List Item). l ++ item.0 ∷ []) c.reserve.ensures.items) stopped (ap (λ (s : Shepherd ActionCall). s.ended) is) takes
    (λ start course serves. rw is (c.connections_are_served_from_their_begin.ensures.item g.B.Outset.service start (began_at g.B.Outset.begun) now.container.seen now.counts now.moment item.0 course old.shepherd new.shepherd.stage
    (c.items_are_for_requests_in_order.ensures.item old.shepherd c.requires) takes serves))
    k (sym stopped ∙ c.if-connection.true))

pub returns-else-connection : goal.returns-else-connection
returns-else-connection g c = λ now k.
    let old = c.args.connection.now in
    let new = c.add_item.new.self in
    let same = c.reserve.ensures.rest.1 in
    let item = c.add_item.ensures.item in
    let stopped = c.add_item.ensures.stopped ∙ c.reserve.ensures.rest.0 in
    let takes : TakesItem old.shepherd.stage item.0 new.shepherd.stage = subst (λ (s : Shepherd ActionCall). TakesItem s.stage item.0 new.shepherd.stage) same item.1 in
    let is : new.shepherd ≡ record (old.shepherd) { front = item.0.holds.front; stage = new.shepherd.stage } =
    item.3 ∙ ap (λ (s : Shepherd ActionCall). record s { front = item.0.holds.front; stage = new.shepherd.stage }) same in
    item_kept g.L.Link.makes g.R.Random.gives g.B.Outset.service g.B.Outset.begun now old new item.0 (item.2 ∙ ap (λ (l : List Item). l ++ item.0 ∷ []) c.reserve.ensures.items) stopped (ap (λ (s : Shepherd ActionCall). s.ended) is) takes
    (λ start course serves. rw is (c.connections_are_served_from_their_begin.ensures.item g.B.Outset.service start (began_at g.B.Outset.begun) now.container.seen now.counts now.moment item.0 course old.shepherd new.shepherd.stage
    (c.items_are_for_requests_in_order.ensures.item old.shepherd c.requires) takes serves))
    k (sym stopped ∙ c.if-connection.false)
