use Rattle.std.proofs.Common.{◌++◌, length, ap, ◌∙◌}
use Rattle.container_core.specs.History.{entries_in}
use Rattle.http_wire.specs.Taking.{taken_of}
use Rattle.served_items.proofs.Taking.{taken}
use Rattle.shepherd.specs.Answering.{heads_in}
use Rattle.served_connections.specs.Heard.{HeardIn}
use Rattle.served_connections.specs.Findings.{found_at}
use Rattle.served_connections.specs.Spent.{spent_in}
use Rattle.served_connections.proofs.Behind.{taken_behind}
use Rattle.served_connections.proofs.Heard.{sessions_begin}
use Rattle.served_connections.proofs.Remembering.{takes_remembering}
use Rattle.served_connections.proofs.Findings.{taken_found, takes_next}
use Rattle.served_connections.proofs.Full.{taken_full}
use Rattle.served_connections.proofs.Spent.{spent_elsewhere, taken_spent}
use Rattle.served_connections.proofs.taking.requests_join_their_connections.Goals as goal

pub returns : goal.returns
returns g c = λ service start begun history counts later now course s new clock clock_after random random_after serials serials_after turn_is in_time risen takes h.
    let next = taken g.P.Program.asks (HeardIn course.heard) g.M.ProgramMaker.makes g.C.Clock.told g.R.Random.gives g.S.Serials.looks c.requests_account_for_their_events.ensures.begins (sessions_begin (HeardIn course.heard)) service later start history h.heads course.drawn begun.moment now course.items s new clock clock_after random random_after serials serials_after turn_is in_time takes h.attributes in
    record {
      more = next.more;
      mid = next.mid;
      drew = next.drew;
      looked = next.looked;
      spent = found_at spent_in new.stage;
      found = taken_spent g.C.Clock.told g.R.Random.gives g.S.Serials.looks service.key service.home later s clock random serials new clock_after random_after serials_after (taken_of s.received) takes;
      serves = record {
        heads = h.heads ++ heads_in (taken_of s.received);
        stands = c.connections_stand.ensures.taken service.key service.home later course.fed h.heads course.written course.items s new clock clock_after random random_after serials serials_after turn_is takes h.stands;
        answers = c.taken_requests_are_answered.ensures service.key service.home later history h.heads course.written course.items s new clock clock_after random random_after serials serials_after turn_is takes h.answers;
        accounts = c.taken_requests_add_nothing.ensures service.key service.home later start history course.own course.marks course.items s new clock clock_after random random_after serials serials_after turn_is takes h.accounts;
        attributes = next.attributes;
        holds = c.items_are_held_in_order.ensures.taken service.key service.home later begun.events history course.items s new clock clock_after random random_after serials serials_after turn_is takes h.holds;
        counted = c.items_account_for_their_causes.ensures.taken service.key service.home begun.counts counts later course.items s new clock clock_after random random_after serials serials_after turn_is risen.hushed risen.got takes h.counted;
        follow = h.follow;
        keep = h.keep;
        begin = taken_behind g.C.Clock.told g.R.Random.gives g.S.Serials.looks service.key service.home later (taken_of s.received) s clock random serials new clock_after random_after serials_after begun.entries (length (entries_in history)) course.items takes h.begin;
        finds = taken_found spent_in spent_elsewhere course.looked course.items s new.stage (ap takes_next turn_is) h.finds;
        full = taken_full g.C.Clock.told g.R.Random.gives g.S.Serials.looks service.key service.home later course.full course.items (taken_of s.received) s clock random serials new clock_after random_after serials_after (ap takes_next turn_is) takes h.full;
        called = h.called;
        remembers = takes_remembering g.C.Clock.told g.R.Random.gives g.S.Serials.looks service.key service.home later (taken_of s.received) s clock random serials new clock_after random_after serials_after takes ∙ h.remembers;
        goes = record {
          container = h.goes.container;
          start_is = h.goes.start_is;
          events_are = h.goes.events_are;
          journal = h.goes.journal;
          goes_on = c.taken_requests_go_on.ensures h.goes.container service.key service.home later s new clock clock_after random random_after serials serials_after takes h.goes.goes_on;
        };
      };
    }
