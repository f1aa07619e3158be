use Rattle.std.proofs.Common.{ℕ, ◌≤◌, length, length-append, arith, ◌≡◌, List, ◌∷◌, ◌++◌, refl, sym, ap, ◌∙◌, subst}
use Rattle.std.proofs.lemmas.List.Elements.{All-append}
use mathlib.Core.List.{IsPrefix}
use Rattle.boot_core.specs.declared.boot.Start.{Start}
use Rattle.container_core.specs.Container.{HasGrownBy, events_of}
use Rattle.container_core.specs.History.{entries_in}
use Rattle.container_core.specs.declared.history.Event.{Event}
use Rattle.container_core.specs.declared.history.Event.TheVariants.{Started}
use Rattle.outside.specs.declared.link.LinkEvent.{LinkEvent}
use Rattle.request_visit.specs.Advancing.{Advances}
use Rattle.request_visit.specs.Sessions.{MakesAmong}
use Rattle.request_visit.specs.Stepping.{VisitsInside, VisitsWindows, counted}
use Rattle.request_visit.proofs.Ended.{BeginWithFirstTries}
use Rattle.request_visit.proofs.Standing.{advance_stands, inside_stands, meanwhile_stands, opened_stands, outside_stands, windows_stand}
use Rattle.shepherd.specs.Steps.{VisitsOutside}
use Rattle.shepherd.specs.Accounting.{Accounting, AddsEvents}
use Rattle.shepherd.specs.Answering.{Answering}
use Rattle.served_items.specs.Attributing.{Attributing, WasTakenIn}
use Rattle.served_items.specs.Holding.{Holding}
use Rattle.served_items.proofs.Stepping.{advance, inside, meanwhile, opens, outside, windows as at_windows}
use Rattle.served_connections.specs.Behind.{Beginning}
use Rattle.served_connections.specs.Full.{full_in}
use Rattle.served_connections.specs.Heard.{HeardIn}
use Rattle.served_connections.specs.Spent.{spent_in}
use Rattle.served_connections.proofs.Behind.{advance_behind, grown_behind, inside_behind, opens_behind, outside_behind, steps_behind, windows_behind}
use Rattle.served_connections.proofs.Growing.{grown_from, longer_entries}
use Rattle.served_connections.proofs.Heard.{attributes_among, made_called, outside_heard, still_heard}
use Rattle.served_connections.proofs.Leaving.{remembering}
use Rattle.served_connections.proofs.Findings.{advance_found, inside_found, is_program, open_found, outside_found, step_found}
use Rattle.served_connections.proofs.Full.{full_elsewhere, windows_full}
use Rattle.served_connections.proofs.Spent.{spent_elsewhere, windows_spent}
use Rattle.served_connections.proofs.stepping.connections_are_served_behind_their_steps.Goals as goal

pub returns-clause-outside : goal.returns-clause-outside
returns-clause-outside g c = λ service start begun history counts now course old new link after turn_is risen steps h.
    let heard = outside_heard g.L.Link.makes g.L.Link.tally course.heard old link new after steps in
    let all : List LinkEvent = course.heard ++ heard.made in
    record {
      made = heard.made;
      leads = heard.leads;
      serves = record {
        heads = h.heads;
        stands = c.connections_stand_with_their_requests.ensures.outside course.fed h.heads course.written course.items old new link after steps h.stands;
        answers = c.connections_answer_their_requests.ensures.outside service.key history h.heads course.written course.items old new link after turn_is
            (c.connections_go_on.ensures.stays h.goes.container old new link after turn_is steps h.goes.goes_on) h.answers;
        accounts = c.connections_account_for_what_they_add.ensures.outside start history course.own course.marks course.items old new link after steps h.accounts;
        attributes = outside g.P.Program.asks (HeardIn all) (g.M.ProgramMaker.makes service.maker) (WasTakenIn g.R.Random.gives g.S.Serials.looks service.key service.home) (λ (u : Unit {0}). g.L.Link.tally after) c.requests_account_for_their_events.ensures.outside
            (λ first before v way counts from to is goes so. outside_stands (HeardIn all) first c.answers_stay.ensures.write before v way counts from to is goes so)
            start history h.heads course.drawn begun.moment now course.items old new tt tt turn_is heard.steps
            (attributes_among g.P.Program.asks (HeardIn course.heard) (HeardIn all) (still_heard course.heard heard.made) (g.M.ProgramMaker.makes service.maker) (WasTakenIn g.R.Random.gives g.S.Serials.looks service.key service.home) start history h.heads course.drawn begun.moment now course.items old h.attributes);
        called = All-append (λ (call : LinkEvent). MakesAmong g.L.Link.makes tt call tt) course.heard heard.made h.called (made_called g.L.Link.makes link heard.made after heard.leads);
        holds = c.items_are_held_in_order.ensures.outside begun.events history course.items old new link after steps h.holds;
        counted = c.items_account_for_their_causes.ensures.outside begun.counts counts course.items old new link after steps risen.hushed risen.got h.counted;
        follow = h.follow;
        keep = h.keep;
        begin = steps_behind (λ v w. VisitsOutside g.L.Link.makes g.L.Link.tally v link w after) begun.entries (length (entries_in history)) (length (entries_in history)) course.items old new h.begin.least_is (λ v w visits. outside_behind begun.entries (length (entries_in history)) v w (counted (g.L.Link.tally after)) visits.rest) steps.steps h.begin;
        finds = step_found spent_in spent_elsewhere (λ v w. VisitsOutside g.L.Link.makes g.L.Link.tally v link w after) course.looked course.items old.stage new.stage (λ v w visits. outside_found spent_in spent_elsewhere v w (counted (g.L.Link.tally after)) visits.rest) steps.steps h.finds;
        full = step_found full_in full_elsewhere (λ v w. VisitsOutside g.L.Link.makes g.L.Link.tally v link w after) course.full course.items old.stage new.stage (λ v w visits. outside_found full_in full_elsewhere v w (counted (g.L.Link.tally after)) visits.rest) steps.steps h.full;
        remembers = remembering old new steps.rest h.remembers;
        goes = record {
          container = h.goes.container;
          start_is = h.goes.start_is;
          events_are = h.goes.events_are;
          journal = h.goes.journal;
          goes_on = c.connections_go_on.ensures.outside h.goes.container old new link after turn_is steps h.goes.goes_on;
        };
      };
    }

pub returns-clause-windows : goal.returns-clause-windows
returns-clause-windows g c = λ service start begun history counts now course old new windows after turn_is some few steps h.
    let marks = c.connections_account_for_what_they_add.ensures.windows start history course.own course.marks course.items old new windows after turn_is steps h.accounts in
    let next = windows_full course.full course.items old.stage new.stage windows after h.full steps.steps in
    record {
      added = marks.added;
      grown = marks.grown;
      told = next.told;
      found = next.found;
      serves = record {
        heads = h.heads;
        stands = c.connections_stand_with_their_requests.ensures.windows course.fed h.heads course.written course.items old new windows after steps h.stands;
        answers = c.connections_answer_their_requests.ensures.windows service.key history h.heads course.written course.items old new windows after turn_is steps h.answers;
        accounts = marks.accounts;
        attributes = at_windows g.P.Program.asks (HeardIn course.heard) (g.M.ProgramMaker.makes service.maker) (WasTakenIn g.R.Random.gives g.S.Serials.looks service.key service.home) c.requests_account_for_their_events.ensures.windows (λ first before v w from to some few visits so. windows_stand (HeardIn course.heard) first before v w from to some few visits so) start history h.heads course.drawn begun.moment now course.items old new windows after some few steps h.attributes;
        holds = c.items_are_held_in_order.ensures.windows begun.events history course.items old new windows after steps h.holds;
        counted = c.items_account_for_their_causes.ensures.windows begun.counts counts course.items old new windows after steps h.counted;
        follow = h.follow;
        keep = h.keep;
        begin = steps_behind (λ v w. VisitsWindows v windows w after) begun.entries (length (entries_in history)) (length (entries_in history)) course.items old new h.begin.least_is (λ v w visits. windows_behind begun.entries (length (entries_in history)) v w windows after visits) steps.steps h.begin;
        finds = step_found spent_in spent_elsewhere (λ v w. VisitsWindows v windows w after) course.looked course.items old.stage new.stage (λ v w visits. windows_spent v w windows after visits) steps.steps h.finds;
        full = next.finds;
        called = h.called;
        remembers = remembering old new steps.rest h.remembers;
        goes = record {
          container = h.goes.container;
          start_is = h.goes.start_is;
          events_are = h.goes.events_are;
          journal = h.goes.journal;
          goes_on = c.connections_go_on.ensures.windows h.goes.container old new windows after some few steps h.goes.goes_on;
        };
      };
    }

pub returns-clause-inside : goal.returns-clause-inside
returns-clause-inside g c = λ service start begun history counts now course old new before after prefix journal after_journal grown steps h.
    let behind : IsPrefix (events_of h.goes.container) (events_of before) = subst (λ (events : List Event). IsPrefix events (events_of before)) (sym h.goes.events_are) prefix in
    let since : HasGrownBy h.goes.container before = grown_from c.histories_grow.ensures.boots h.goes.container before h.goes.journal journal behind in
    let start_is : before.boot.start ≡ start = since.boot.start ∙ h.goes.start_is in
    let accounts : Accounting g.P.Program.asks before.boot.start (events_of before) course.own course.marks course.items old =
    subst (λ (x : Start). Accounting g.P.Program.asks x (events_of before) course.own course.marks course.items old) (sym start_is)
    (subst (λ (events : List Event). Accounting g.P.Program.asks start events course.own course.marks course.items old) prefix.1
    (c.connections_account_for_what_they_add.ensures.meanwhile start history prefix.0 course.own course.marks course.items old h.accounts)) in
    let adds : AddsEvents g.P.Program.asks course.own course.marks course.items before after new = c.connections_account_for_what_they_add.ensures.inside course.own course.marks course.items old new before after steps journal grown accounts in
    let first : BeginWithFirstTries = record {
      stopped = λ d asks end. c.ends_begin_with_the_first_try.ensures.stopped d end asks;
      committed = c.ends_begin_with_the_first_try.ensures.committed;
      stepped = λ d asks end. c.ends_begin_with_the_first_try.ensures.stepped d end asks;
      tried = c.ends_begin_with_the_first_try.ensures.tried;
    } in
    let begin : Beginning begun.entries (length before.boot.entries) course.items old =
    subst (λ (n : ℕ). Beginning begun.entries n course.items old) (ap length journal)
    (subst (λ (events : List Event). Beginning begun.entries (length (entries_in events)) course.items old) prefix.1
    (grown_behind begun.entries (length (entries_in history)) (length (entries_in (history ++ prefix.0))) course.items old (longer_entries history prefix.0) h.begin)) in
    let grown_entries : length before.boot.entries ≤ length after.boot.entries =
    (let parts : length after.boot.entries ≡ length (before.boot.entries ++ grown.boot.more) = ap length grown.boot.entries in omega (arith, parts, length-append before.boot.entries grown.boot.more)) in
    let begin_after : Beginning begun.entries (length (entries_in (events_of after))) course.items new =
    subst (λ (n : ℕ). Beginning begun.entries n course.items new) (sym (ap length after_journal))
    (steps_behind (λ v w. VisitsInside g.P.Program.asks v before w after) begun.entries (length before.boot.entries) (length after.boot.entries) course.items old new (omega (arith, grown_entries, begin.least_is))
    (λ v w visits. inside_behind first g.P.Program.asks begun.entries v w before after visits) steps.steps begin) in
    let start_after : after.boot.start ≡ start = grown.boot.start ∙ start_is in
    record {
      added = adds.added;
      grown = ap (λ (x : Start). Started x ∷ after.since) grown.boot.start ∙ ap (λ (events : List Event). Started before.boot.start ∷ events) adds.grown;
      serves = record {
        heads = h.heads;
        stands = c.connections_stand_with_their_requests.ensures.inside course.fed h.heads course.written course.items old new before after steps h.stands;
        answers = c.connections_answer_their_requests.ensures.inside service.key h.heads course.written course.items old new before after steps grown
            (subst (λ (events : List Event). Answering service.key events h.heads course.written course.items old) prefix.1
            (c.connections_answer_their_requests.ensures.meanwhile service.key history prefix.0 h.heads course.written course.items old h.answers));
        accounts = subst (λ (x : Start). Accounting g.P.Program.asks x (events_of after) (course.own ++ adds.added) course.marks course.items new) start_after adds.accounts;
        attributes = subst (λ (x : Start). Attributing g.P.Program.asks (HeardIn course.heard) g.M.ProgramMaker.makes g.R.Random.gives g.S.Serials.looks service x (events_of after) h.heads course.drawn begun.moment now course.items new) start_after
            (inside g.P.Program.asks (HeardIn course.heard) (g.M.ProgramMaker.makes service.maker) (WasTakenIn g.R.Random.gives g.S.Serials.looks service.key service.home) c.requests_account_for_their_events.ensures.meanwhile (λ first before more v so. meanwhile_stands (HeardIn course.heard) first before more v so) c.requests_account_for_their_events.ensures.inside (λ first v w from to visits longer so. inside_stands (HeardIn course.heard) first g.P.Program.asks v w from to visits longer so) h.heads course.drawn begun.moment now course.items old new before after steps journal grown
            (subst (λ (x : Start). Attributing g.P.Program.asks (HeardIn course.heard) g.M.ProgramMaker.makes g.R.Random.gives g.S.Serials.looks service x (events_of before) h.heads course.drawn begun.moment now course.items old) (sym start_is)
            (subst (λ (events : List Event). Attributing g.P.Program.asks (HeardIn course.heard) g.M.ProgramMaker.makes g.R.Random.gives g.S.Serials.looks service start events h.heads course.drawn begun.moment now course.items old) prefix.1
            (meanwhile g.P.Program.asks (HeardIn course.heard) (g.M.ProgramMaker.makes service.maker) (WasTakenIn g.R.Random.gives g.S.Serials.looks service.key service.home) c.requests_account_for_their_events.ensures.meanwhile (λ first before more v so. meanwhile_stands (HeardIn course.heard) first before more v so) start history prefix.0 h.heads course.drawn begun.moment now course.items now old (omega arith) h.attributes))));
        holds = c.items_are_held_in_order.ensures.inside begun.events course.items old new before after steps grown
            (subst (λ (events : List Event). Holding begun.events events course.items old) prefix.1
            (c.items_are_held_in_order.ensures.meanwhile begun.events history prefix.0 course.items old h.holds));
        counted = c.items_account_for_their_causes.ensures.inside begun.counts counts course.items old new before after steps h.counted;
        follow = h.follow;
        keep = h.keep;
        begin = begin_after;
        finds = step_found spent_in spent_elsewhere (λ v w. VisitsInside g.P.Program.asks v before w after) course.looked course.items old.stage new.stage (λ v w visits. inside_found spent_in spent_elsewhere g.P.Program.asks v w before after visits) steps.steps h.finds;
        full = step_found full_in full_elsewhere (λ v w. VisitsInside g.P.Program.asks v before w after) course.full course.items old.stage new.stage (λ v w visits. inside_found full_in full_elsewhere g.P.Program.asks v w before after visits) steps.steps h.full;
        called = h.called;
        remembers = remembering old new steps.rest h.remembers;
        goes = record {
          container = after;
          start_is = start_after;
          events_are = refl;
          journal = after_journal;
          goes_on = c.connections_go_on.ensures.inside old new before after steps grown (c.connections_go_on.ensures.meanwhile h.goes.container before old since h.goes.goes_on);
        };
      };
    }

pub returns-clause-open : goal.returns-clause-open
returns-clause-open g c = λ service start begun history counts now course s stage worker turn_is accepted opened h.
    record {
      heads = h.heads;
      stands = c.connections_stand_with_their_requests.ensures.open course.fed h.heads course.written course.items s stage service.maker worker turn_is opened h.stands;
      answers = c.connections_answer_their_requests.ensures.open service.key history h.heads course.written course.items s stage service.maker worker turn_is opened h.answers;
      accounts = c.connections_account_for_what_they_add.ensures.open start history course.own course.marks course.items s stage service.maker worker turn_is opened h.accounts;
      attributes = opens g.P.Program.asks (HeardIn course.heard) g.M.ProgramMaker.makes service.maker (WasTakenIn g.R.Random.gives g.S.Serials.looks service.key service.home) c.requests_account_for_their_events.ensures.opens (λ first before v tries program is so. opened_stands (HeardIn course.heard) first before v tries program is so) start history h.heads course.drawn begun.moment now course.items s stage worker turn_is opened h.attributes;
      holds = c.items_are_held_in_order.ensures.open begun.events history course.items s stage service.maker worker opened h.holds;
      counted = c.items_account_for_their_causes.ensures.open begun.counts counts course.items s stage service.maker worker opened h.counted;
      follow = h.follow;
      keep = h.keep;
      begin = opens_behind g.M.ProgramMaker.makes service.maker worker begun.entries (length (entries_in history)) course.items s stage opened h.begin;
      finds = open_found spent_in spent_elsewhere g.M.ProgramMaker.makes service.maker worker course.looked course.items s stage (ap is_program turn_is) opened h.finds;
      full = open_found full_in full_elsewhere g.M.ProgramMaker.makes service.maker worker course.full course.items s stage (ap is_program turn_is) opened h.full;
      called = h.called;
      remembers = h.remembers;
      goes = record {
        container = h.goes.container;
        start_is = h.goes.start_is;
        events_are = h.goes.events_are;
        journal = h.goes.journal;
        goes_on = c.connections_go_on.ensures.open h.goes.container s stage service.maker worker turn_is
            (λ call text program made. subst (λ (x : Start). g.P.Program.accepts program x.deployment) (sym h.goes.start_is) (accepted call text program made)) opened h.goes.goes_on;
      };
    }

pub returns-clause-advance : goal.returns-clause-advance
returns-clause-advance g c = λ service start begun history counts now course old new turn_is steps h.
    record {
      heads = h.heads;
      stands = c.connections_stand_with_their_requests.ensures.advance course.fed h.heads course.written service.key course.items old new steps h.stands;
      answers = c.connections_answer_their_requests.ensures.advance service.key history h.heads course.written course.items old new turn_is steps h.answers;
      accounts = c.connections_account_for_what_they_add.ensures.advance start history course.own course.marks service.key course.items old new turn_is steps h.accounts;
      attributes = advance g.P.Program.asks (HeardIn course.heard) (g.M.ProgramMaker.makes service.maker) (WasTakenIn g.R.Random.gives g.S.Serials.looks service.key service.home) c.requests_account_for_their_events.ensures.advance (λ first key before v w is advances so. advance_stands (HeardIn course.heard) first c.ways_have_answers.ensures.write key before v w is advances so) start history h.heads course.drawn begun.moment now course.items service.key old new turn_is steps h.attributes;
      holds = c.items_are_held_in_order.ensures.advance begun.events history course.items service.key old new steps h.holds;
      counted = c.items_account_for_their_causes.ensures.advance begun.counts counts course.items service.key old new steps h.counted;
      follow = h.follow;
      keep = h.keep;
      begin = steps_behind (λ v w. Advances service.key v v.work w) begun.entries (length (entries_in history)) (length (entries_in history)) course.items old new h.begin.least_is (λ v w advances. advance_behind begun.entries (length (entries_in history)) service.key v w advances) steps.steps h.begin;
      finds = step_found spent_in spent_elsewhere (λ v w. Advances service.key v v.work w) course.looked course.items old.stage new.stage (λ v w advances. advance_found spent_in spent_elsewhere service.key v w advances) steps.steps h.finds;
      full = step_found full_in full_elsewhere (λ v w. Advances service.key v v.work w) course.full course.items old.stage new.stage (λ v w advances. advance_found full_in full_elsewhere service.key v w advances) steps.steps h.full;
      called = h.called;
      remembers = remembering old new steps.rest h.remembers;
      goes = record {
        container = h.goes.container;
        start_is = h.goes.start_is;
        events_are = h.goes.events_are;
        journal = h.goes.journal;
        goes_on = c.connections_go_on.ensures.advance h.goes.container service.key old new turn_is steps h.goes.goes_on;
      };
    }
