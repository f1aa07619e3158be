use Rattle.std.proofs.Common.{true, List, [], ◌++◌, length, refl, subst}
use Rattle.std.proofs.lemmas.List.Elements.{All-nil}
use Rattle.container_core.specs.Container.{events_of}
use Rattle.container_core.specs.History.{entries_in}
use Rattle.container_core.specs.declared.history.Event.{Event}
use Rattle.outside.specs.declared.link.LinkEvent.{LinkEvent}
use Rattle.request_visit.specs.Sessions.{MakesAmong}
use Rattle.request_visit.proofs.Standing.{back_stands, dropped_stands, leave_stands, meanwhile_stands}
use Rattle.served_items.specs.Attributing.{WasTakenIn}
use Rattle.served_items.proofs.Stepping.{back, begins, given_up, item, meanwhile, out, still}
use Rattle.shepherd.specs.Shepherds.{fresh}
use Rattle.shepherd.specs.Steps.{HasAnswerIfOpen}
use Rattle.served_connections.specs.Courses.{begun_behind, no_course}
use Rattle.served_connections.specs.Full.{full_in}
use Rattle.served_connections.specs.Heard.{HeardIn}
use Rattle.served_connections.specs.Serving.{Serves}
use Rattle.served_connections.specs.Spent.{spent_in}
use Rattle.served_connections.proofs.Behind.{begun_behind_all, given_back_behind, given_up_behind, grown_behind, item_behind, out_behind, still_behind}
use Rattle.served_connections.proofs.Growing.{goes_on_longer, longer_entries}
use Rattle.served_connections.proofs.Leaving.{may_go_on}
use Rattle.served_connections.proofs.Findings.{given_back_found, given_up_found, item_found, out_found}
use Rattle.served_connections.proofs.Full.{full_elsewhere}
use Rattle.served_connections.proofs.Spent.{spent_elsewhere}
use Rattle.served_connections.proofs.beginning.connections_are_served_from_their_begin.Goals as goal

pub returns-clause-begins : goal.returns-clause-begins
returns-clause-begins g c = λ service history container counts now is journal.
    subst (λ (events : List Event). Serves g.P.Program.accepts g.P.Program.asks g.L.Link.makes g.M.ProgramMaker.makes g.R.Random.gives g.S.Serials.looks service container.boot.start (begun_behind events now counts) events counts now no_course fresh) is
    (record {
      heads = [];
      stands = c.connections_stand.ensures.begins;
      answers = c.connections_answer_their_requests.ensures.begins service.key (events_of container);
      accounts = c.connections_account_for_what_they_add.ensures.begins container.boot.start (events_of container);
      attributes = begins g.P.Program.asks (HeardIn []) (g.M.ProgramMaker.makes service.maker) (WasTakenIn g.R.Random.gives g.S.Serials.looks service.key service.home) container.boot.start (events_of container) now;
      called = All-nil (λ (call : LinkEvent). MakesAmong g.L.Link.makes tt call tt);
      holds = c.items_are_held_in_order.ensures.begins (events_of container);
      counted = c.items_account_for_their_causes.ensures.begins counts;
      follow = c.items_follow_one_another.ensures.begins;
      keep = c.items_follow_one_another.ensures.begins_kept;
      begin = begun_behind_all (length (entries_in (events_of container))) fresh tt;
      finds = refl;
      full = refl;
      remembers = refl;
      goes = record { container = container; start_is = refl; events_are = refl; journal = journal; goes_on = c.connections_go_on.ensures.begins container };
    })

pub returns-clause-meanwhile : goal.returns-clause-meanwhile
returns-clause-meanwhile g c = λ service start begun history after counts later now late course s prefix risen in_time h.
    subst (λ (events : List Event). Serves g.P.Program.accepts g.P.Program.asks g.L.Link.makes g.M.ProgramMaker.makes g.R.Random.gives g.S.Serials.looks service start begun events later late course s) prefix.1
    (record {
      heads = h.heads;
      stands = h.stands;
      answers = c.connections_answer_their_requests.ensures.meanwhile service.key history prefix.0 h.heads course.written course.items s h.answers;
      accounts = c.connections_account_for_what_they_add.ensures.meanwhile start history prefix.0 course.own course.marks course.items s h.accounts;
      attributes = meanwhile g.P.Program.asks (HeardIn course.heard) (g.M.ProgramMaker.makes service.maker) (WasTakenIn g.R.Random.gives g.S.Serials.looks service.key service.home) c.requests_account_for_their_events.ensures.meanwhile (λ first before more v so. meanwhile_stands (HeardIn course.heard) first before more v so) start history prefix.0 h.heads course.drawn begun.moment now course.items late s in_time h.attributes;
      holds = c.items_are_held_in_order.ensures.meanwhile begun.events history prefix.0 course.items s h.holds;
      counted = c.items_account_for_their_causes.ensures.meanwhile begun.counts counts later course.items s risen.hushed risen.got h.counted;
      follow = h.follow;
      keep = h.keep;
      begin = grown_behind begun.entries (length (entries_in history)) (length (entries_in (history ++ prefix.0))) course.items s (longer_entries history prefix.0) h.begin;
      finds = h.finds;
      full = h.full;
      called = h.called;
      remembers = h.remembers;
      goes = goes_on_longer g.P.Program.accepts g.P.Program.asks g.L.Link.makes c.connections_go_on.ensures.meanwhile start history prefix.0 s h.goes;
    })

pub returns-clause-fed : goal.returns-clause-fed
returns-clause-fed g c = λ service start begun history counts now more course s h.
    record {
      heads = h.heads;
      stands = c.connections_stand.ensures.fed course.fed more h.heads course.written course.items s h.stands;
      answers = c.connections_answer_their_requests.ensures.still service.key history h.heads course.written course.items s (record s { received = s.received ++ more }) refl h.answers;
      accounts = c.connections_account_for_what_they_add.ensures.still start history course.own course.marks course.items s (record s { received = s.received ++ more }) refl h.accounts;
      attributes = still g.P.Program.asks (HeardIn course.heard) (g.M.ProgramMaker.makes service.maker) (WasTakenIn g.R.Random.gives g.S.Serials.looks service.key service.home) start history h.heads course.drawn begun.moment now course.items s (record s { received = s.received ++ more }) refl h.attributes;
      holds = c.items_are_held_in_order.ensures.still begun.events history course.items s (record s { received = s.received ++ more }) refl h.holds;
      counted = c.items_account_for_their_causes.ensures.still begun.counts counts course.items s (record s { received = s.received ++ more }) refl h.counted;
      follow = h.follow;
      keep = h.keep;
      begin = still_behind begun.entries (length (entries_in history)) course.items s (record s { received = s.received ++ more }) refl h.begin;
      finds = h.finds;
      full = h.full;
      called = h.called;
      remembers = h.remembers;
      goes = record {
        container = h.goes.container;
        start_is = h.goes.start_is;
        events_are = h.goes.events_are;
        journal = h.goes.journal;
        goes_on = c.connections_go_on.ensures.still h.goes.container s (record s { received = s.received ++ more }) refl refl refl h.goes.goes_on;
      };
    }

pub returns-clause-ended : goal.returns-clause-ended
returns-clause-ended g c = λ service start begun history counts now course s h.
    record {
      heads = h.heads;
      stands = c.connections_stand.ensures.ended course.fed h.heads course.written course.items s h.stands;
      answers = c.connections_answer_their_requests.ensures.still service.key history h.heads course.written course.items s (record s { ended = true }) refl h.answers;
      accounts = c.connections_account_for_what_they_add.ensures.still start history course.own course.marks course.items s (record s { ended = true }) refl h.accounts;
      attributes = still g.P.Program.asks (HeardIn course.heard) (g.M.ProgramMaker.makes service.maker) (WasTakenIn g.R.Random.gives g.S.Serials.looks service.key service.home) start history h.heads course.drawn begun.moment now course.items s (record s { ended = true }) refl h.attributes;
      holds = c.items_are_held_in_order.ensures.still begun.events history course.items s (record s { ended = true }) refl h.holds;
      counted = c.items_account_for_their_causes.ensures.still begun.counts counts course.items s (record s { ended = true }) refl h.counted;
      follow = h.follow;
      keep = h.keep;
      begin = still_behind begun.entries (length (entries_in history)) course.items s (record s { ended = true }) refl h.begin;
      finds = h.finds;
      full = h.full;
      called = h.called;
      remembers = h.remembers;
      goes = record {
        container = h.goes.container;
        start_is = h.goes.start_is;
        events_are = h.goes.events_are;
        journal = h.goes.journal;
        goes_on = c.connections_go_on.ensures.still h.goes.container s (record s { ended = true }) refl refl refl h.goes.goes_on;
      };
    }

pub returns-clause-out : goal.returns-clause-out
returns-clause-out g c = λ service start begun history counts now bytes course s stage turn_is puts h.
    record {
      heads = h.heads;
      stands = c.connections_stand.ensures.out course.fed h.heads course.written bytes course.items s stage turn_is puts h.stands;
      answers = c.connections_answer_their_requests.ensures.out service.key history h.heads course.written bytes course.items s stage turn_is puts h.answers;
      accounts = c.connections_account_for_what_they_add.ensures.out start history course.own course.marks bytes course.items s stage turn_is puts h.accounts;
      attributes = out g.P.Program.asks (HeardIn course.heard) (g.M.ProgramMaker.makes service.maker) (WasTakenIn g.R.Random.gives g.S.Serials.looks service.key service.home) c.requests_account_for_their_events.ensures.leave (λ first before v over so. leave_stands (HeardIn course.heard) first before v over so) start history h.heads course.drawn begun.moment now course.items bytes s stage turn_is puts h.attributes;
      holds = c.items_are_held_in_order.ensures.out begun.events history course.items bytes s stage puts h.holds;
      counted = c.items_account_for_their_causes.ensures.out begun.counts counts course.items bytes s stage puts h.counted;
      follow = h.follow;
      keep = h.keep;
      begin = out_behind begun.entries (length (entries_in history)) course.items bytes s stage puts h.begin;
      finds = out_found spent_in spent_elsewhere course.looked course.items bytes s.stage stage puts h.finds;
      full = out_found full_in full_elsewhere course.full course.items bytes s.stage stage puts h.full;
      called = h.called;
      remembers = h.remembers;
      goes = record {
        container = h.goes.container;
        start_is = h.goes.start_is;
        events_are = h.goes.events_are;
        journal = h.goes.journal;
        goes_on = c.connections_go_on.ensures.out h.goes.container bytes s stage turn_is puts h.goes.goes_on;
      };
    }

pub returns-clause-item : goal.returns-clause-item
returns-clause-item g c = λ service start begun history counts now i course s stage has takes h.
    record {
      heads = h.heads;
      stands = c.connections_stand.ensures.item course.fed h.heads course.written course.items i s stage takes h.stands;
      answers = c.connections_answer_their_requests.ensures.item service.key history h.heads course.written course.items i s stage has takes h.answers;
      accounts = c.connections_account_for_what_they_add.ensures.item start history course.own course.marks course.items i s stage has takes h.accounts;
      attributes = item g.P.Program.asks (HeardIn course.heard) (g.M.ProgramMaker.makes service.maker) (WasTakenIn g.R.Random.gives g.S.Serials.looks service.key service.home) start history h.heads course.drawn begun.moment now course.items i s stage has takes h.attributes;
      holds = c.items_are_held_in_order.ensures.item begun.events history course.items i s stage takes h.holds;
      counted = c.items_account_for_their_causes.ensures.item begun.counts counts course.items i s stage takes h.counted;
      follow = c.items_follow_one_another.ensures.item h.goes.container.boot course.fed h.heads course.written course.items i s stage takes
          (may_go_on g.P.Program.accepts g.P.Program.asks g.L.Link.makes h.goes.container s.stage i stage takes (h.goes.goes_on h.remembers).opened) h.stands h.follow;
      keep = c.items_follow_one_another.ensures.keeps start history course.own course.marks course.fed h.heads course.written course.items i s stage takes h.accounts h.stands h.keep;
      begin = item_behind begun.entries (length (entries_in history)) course.items i s stage takes h.begin;
      finds = item_found spent_in spent_elsewhere course.looked course.items i s.stage stage takes h.finds;
      full = item_found full_in full_elsewhere course.full course.items i s.stage stage takes h.full;
      called = h.called;
      remembers = h.remembers;
      goes = record {
        container = h.goes.container;
        start_is = h.goes.start_is;
        events_are = h.goes.events_are;
        journal = h.goes.journal;
        goes_on = c.connections_go_on.ensures.item h.goes.container i s stage takes h.goes.goes_on;
      };
    }

pub returns-clause-given_up : goal.returns-clause-given_up
returns-clause-given_up g c = λ service start begun history counts now course s h.
    record {
      heads = h.heads;
      stands = c.connections_stand_with_their_requests.ensures.given_up course.fed h.heads course.written course.items s h.stands;
      answers = c.connections_answer_their_requests.ensures.given_up service.key history h.heads course.written course.items s h.answers;
      accounts = c.connections_account_for_what_they_add.ensures.given_up start history course.own course.marks course.items s h.accounts;
      attributes = given_up g.P.Program.asks (HeardIn course.heard) (g.M.ProgramMaker.makes service.maker) (WasTakenIn g.R.Random.gives g.S.Serials.looks service.key service.home) c.requests_account_for_their_events.ensures.dropped (λ first before v so. dropped_stands (HeardIn course.heard) first before v so) start history h.heads course.drawn begun.moment now course.items s h.attributes;
      holds = c.items_are_held_in_order.ensures.given_up begun.events history course.items s h.holds;
      counted = c.items_account_for_their_causes.ensures.given_up begun.counts counts course.items s h.counted;
      follow = h.follow;
      keep = h.keep;
      begin = given_up_behind begun.entries (length (entries_in history)) course.items s h.begin;
      finds = given_up_found spent_in spent_elsewhere course.looked course.items s.stage h.finds;
      full = given_up_found full_in full_elsewhere course.full course.items s.stage h.full;
      called = h.called;
      remembers = h.remembers;
      goes = record {
        container = h.goes.container;
        start_is = h.goes.start_is;
        events_are = h.goes.events_are;
        journal = h.goes.journal;
        goes_on = c.connections_go_on.ensures.given_up h.goes.container s h.goes.goes_on;
      };
    }

pub returns-clause-given_back : goal.returns-clause-given_back
returns-clause-given_back g c = λ service start begun history counts now course s stage windows after gives left h.
    let answered : HasAnswerIfOpen s.stage = c.connections_go_on.ensures.answered h.goes.container s h.remembers h.goes.goes_on in
    let marks = c.connections_account_for_what_they_add.ensures.given_back start history course.own course.marks course.items s stage windows after gives left answered h.accounts in
    record {
      added = marks.added;
      grown = marks.grown;
      serves = record {
        heads = h.heads;
        stands = c.connections_stand_with_their_requests.ensures.given_back course.fed h.heads course.written course.items s stage windows after gives h.stands;
        answers = c.connections_answer_their_requests.ensures.given_back service.key history h.heads course.written course.items s stage windows after gives left answered h.answers;
        accounts = marks.accounts;
        attributes = back g.P.Program.asks (HeardIn course.heard) (g.M.ProgramMaker.makes service.maker) (WasTakenIn g.R.Random.gives g.S.Serials.looks service.key service.home) c.requests_account_for_their_events.ensures.back (λ first before v w fate gives is so. back_stands (HeardIn course.heard) first before v w fate gives is so) start history h.heads course.drawn begun.moment now course.items s stage windows after left gives h.attributes;
        holds = c.items_are_held_in_order.ensures.given_back begun.events history course.items s stage windows after gives h.holds;
        counted = c.items_account_for_their_causes.ensures.given_back begun.counts counts course.items s stage windows after gives h.counted;
        follow = h.follow;
        keep = h.keep;
        begin = given_back_behind begun.entries (length (entries_in history)) course.items s stage windows after gives h.begin;
        finds = given_back_found spent_in spent_elsewhere course.looked course.items s.stage stage windows after gives h.finds;
        full = given_back_found full_in full_elsewhere course.full course.items s.stage stage windows after gives h.full;
        called = h.called;
        remembers = h.remembers;
        goes = record {
          container = h.goes.container;
          start_is = h.goes.start_is;
          events_are = h.goes.events_are;
          journal = h.goes.journal;
          goes_on = c.connections_go_on.ensures.given_back h.goes.container s stage windows after gives left h.goes.goes_on;
        };
      };
    }
