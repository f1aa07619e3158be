use Rattle.std.proofs.Common.{◌≡◌, [], ◌++◌, ◌∙◌, arith, append-nil, ap, refl, sym, subst, Result, OnOk, OnErr}
use Rattle.crash_base.specs.declared.memory.OutOfMemory.{OutOfMemory}
use Rattle.request_visit.specs.Stepping.{counted}
use Rattle.seat_serials.specs.Drawing.{SeatLooks}
use Rattle.connection_server.specs.Stands.{Stand, began_at, words_in}
use Rattle.shared_words.specs.Words.{WordSeatValue}
use Rattle.shepherd.specs.Steps.{TakesRequest}
use Rattle.connection_server.proofs.Drawn.{drew_at_last, gave_at_last, given_behind, spent_seen}
use Rattle.connection_server.proofs.Heeding.{still, taken, taken_ended}
use Rattle.connection_server.proofs.Moving.{took, wanted}
use Rattle.outside.proofs.Prefixes.{prepended_none}
use Rattle.connection_server.proofs.Seen.{reached_here}
use Rattle.connection_server.proofs.steps.take_request.Goals as goal

pub returns-in-Ok-clause-on : goal.returns-in-Ok-clause-on
returns-in-Ok-clause-on g c = λ rest first leads k. rw (c.words-1.given.1 (sym c.take_lent-lent.ensures.loan))
    (let old = c.args.connection.now in
    let new = c.take_lent-lent.new.shepherd in
    let words = c.take_lent-lent.result.seat.now in
    let counts = counted (g.L.Link.tally c.args.link.now) in
    let now : Stand = record rest { words = c.args.words.now; counts = counts; moment = g.C.Clock.told c.args.clock.now } in
    let takes = (subst (λ (x : Result (Unit {0}) OutOfMemory). OnOk x (TakesRequest g.C.Clock.told g.R.Random.gives SeatLooks c.args.shared.now.key c.args.shared.now.home counts old.shepherd c.args.clock.now c.args.random.now c.args.words.now
    new c.take_lent-lent.new.clock c.take_lent-lent.new.random words)) c.in-Ok.is c.take_lent-lent.ensures.taken) in
    let next = c.requests_join_their_connections.ensures g.B.Outset.service k.served.start (began_at g.B.Outset.begun) rest.container.seen counts counts now.moment k.course old.shepherd new
    c.args.clock.now c.take_lent-lent.new.clock c.args.random.now c.take_lent-lent.new.random c.args.words.now words
    c.requires.turn (omega arith) (reached_here counts) (rw c.requires.service takes) k.served.serves in
    record {
      given = rest.given ++ words_in next.more;
      reached = c.take_lent-lent.new.random;
      leads = gave_at_last g.R.Random.gives first rest.given c.args.random.now c.args.words.now next.more next.mid c.take_lent-lent.new.random leads next.drew;
      stays = λ other. refl;
      so = took g.L.Link.makes g.R.Random.gives g.B.Outset.service g.B.Outset.begun now words (rest.given ++ words_in next.more) (g.C.Clock.told c.take_lent-lent.new.clock) old _ k next.more next.spent refl
          (taken_ended g.C.Clock.told g.R.Random.gives SeatLooks c.args.shared.now.key c.args.shared.now.home counts old.shepherd new
          c.args.clock.now c.take_lent-lent.new.clock c.args.random.now c.take_lent-lent.new.random c.args.words.now words takes)
          c.take_lent-lent.ensures.drawn
          (drew_at_last g.R.Random.gives g.B.Outset.begun.words k.course.drawn next.more c.args.words.now c.args.random.now next.mid c.take_lent-lent.new.random words k.served.drew next.drew next.looked)
          (given_behind g.B.Outset.begun.given rest.given k.course.drawn next.more k.served.come.given)
          (spent_seen g.R.Random.gives c.args.words.now c.args.random.now k.course.looked next.spent c.take_lent-lent.new.random words c.take_lent-lent.ensures.drawn.3 next.found k.served.saw.spent)
          c.take_lent-lent.ensures.rises next.serves
          (λ heeds. taken g.C.Clock.told g.R.Random.gives SeatLooks c.args.shared.now.key c.args.shared.now.home counts rest.container.seen old.items.items old.stopped old.shepherd new
          c.args.clock.now c.take_lent-lent.new.clock c.args.random.now c.take_lent-lent.new.random c.args.words.now words takes heeds);
    })

pub returns-in-Err-clause-on : goal.returns-in-Err-clause-on
returns-in-Err-clause-on g c = λ rest first leads k. rw (c.words-1.given.1 (sym c.take_lent-lent.ensures.loan))
    (let old = c.args.connection.now in
    let new = c.take_lent-lent.new.shepherd in
    let words = c.take_lent-lent.result.seat.now in
    let counts = counted (g.L.Link.tally c.args.link.now) in
    let now : Stand = record rest { words = c.args.words.now; counts = counts; moment = g.C.Clock.told c.args.clock.now } in
    let next : Stand = record rest { words = words; counts = counts; moment = g.C.Clock.told c.take_lent-lent.new.clock } in
    let same = subst (λ (x : Result (Unit {0}) OutOfMemory). OnErr x (new.stage ≡ old.shepherd.stage)) c.in-Err.is c.take_lent-lent.ensures.same in
    record {
      given = rest.given;
      reached = c.args.random.now;
      leads = leads;
      stays = λ other. absurd (other refl);
      so = wanted g.L.Link.makes g.R.Random.gives g.B.Outset.service g.B.Outset.begun now next [] old _ (record { items = refl; stopped = refl }) refl refl
          c.take_lent-lent.ensures.drawn refl refl (reached_here counts) (sym (prepended_none rest.left)) (omega arith) (omega arith) refl c.take_lent-lent.ensures.rises
          (λ start course serves. c.connections_stop_where_memory_is_wanted.ensures.meanwhile g.B.Outset.service start (began_at g.B.Outset.begun) rest.container.seen rest.container.seen counts now.moment next.moment course new
          ([], append-nil rest.container.seen) c.take_lent-lent.ensures.rises
          (c.connections_stop_where_memory_is_wanted.ensures.request g.B.Outset.service start (began_at g.B.Outset.begun) rest.container.seen counts now.moment course old.shepherd new c.requires.turn same serves))
          (λ heeds. still rest.container.seen old.items.items old.stopped old.shepherd.stage new.stage same heeds)
          k;
    })

pub returns-in-Ok-clause-words : goal.returns-in-Ok-clause-words
returns-in-Ok-clause-words g c =
    ap (λ (w : WordSeatValue). w.words) (c.words-1.given.1 (sym c.take_lent-lent.ensures.loan)) ∙ c.take_lent-lent.ensures.drawn.0 ∙ c.requires.words

pub returns-in-Err-clause-words : goal.returns-in-Err-clause-words
returns-in-Err-clause-words g c =
    ap (λ (w : WordSeatValue). w.words) (c.words-1.given.1 (sym c.take_lent-lent.ensures.loan)) ∙ c.take_lent-lent.ensures.drawn.0 ∙ c.requires.words
