use Rattle.std.proofs.Common.{arith, inl, inr, List, [], ◌∷◌, ◌++◌, map, refl, sym, ap, ◌∙◌, subst}
use Rattle.container_core.specs.declared.history.Event.{Event}
use Rattle.outcome_items.specs.Traces.{uncounted}
use Rattle.send_windows.specs.declared.history.WindowMark.{WindowMark}
use Rattle.shepherd.specs.Shepherds.{has_item}
use Rattle.send_windows.specs.declared.windows.TakeRefusal.TheVariants as refusal
use Rattle.session_way.specs.Way.{IsRefused}
use Rattle.shepherd.specs.Steps.{GivesBack, HasLeftIfOpen, IsServedStill, TakesItem, dropped_stage}
use Rattle.shepherd.specs.Stopping.{Stopped}
use Rattle.served_connections.specs.Stopping.{IsUnsent}
use Rattle.served_connections.proofs.Heard.{broke_off, served_longer}
use Rattle.served_connections.proofs.Leaving.{by_cases, is_before, is_end, item_held, item_unended, last_back, last_dropped, last_open, left_or_unsent, nothing_held, unended, unsent_back, unsent_before, unsent_dropped, unsent_inside, unsent_no_item, unsent_windows}
use Rattle.served_connections.proofs.stopping.connections_stop_where_memory_is_wanted.Goals as goal

pub returns-clause-bytes : goal.returns-clause-bytes
returns-clause-bytes g c = λ service start begun history counts now course s new is same h. record {
  was = s;
  before = course.marks;
  served = h;
  unended = unended s (ap is_end is);
  stopped = c.stopped_connections_account_for_what_they_left.ensures.still start history course.own course.marks course.items s new same
      (c.stopped_connections_account_for_what_they_left.ensures.stops start history course.own course.marks course.items s h.accounts);
  open_so = inr (record { stage_is = same; marks_are = refl });
}

pub returns-clause-request : goal.returns-clause-request
returns-clause-request g c = λ service start begun history counts now course s new is same h. record {
  was = s;
  before = course.marks;
  served = h;
  unended = unended s (ap is_end is);
  stopped = c.stopped_connections_account_for_what_they_left.ensures.still start history course.own course.marks course.items s new same
      (c.stopped_connections_account_for_what_they_left.ensures.stops start history course.own course.marks course.items s h.accounts);
  open_so = inr (record { stage_is = same; marks_are = refl });
}

pub returns-clause-outside : goal.returns-clause-outside
returns-clause-outside g c = λ service start begun history counts now course s new link after is same broke h.
    let called = broke_off g.L.Link.makes s.stage link after broke in
    record {
      made = called.made;
      leads = called.leads;
      so_far = record {
        was = s;
        before = course.marks;
        served = served_longer g.P.Program.accepts g.P.Program.asks g.L.Link.makes g.M.ProgramMaker.makes g.R.Random.gives g.S.Serials.looks service start begun history counts now course s link called.made after called.leads h;
        unended = unended s (ap is_end is);
        stopped = c.stopped_connections_account_for_what_they_left.ensures.still start history course.own course.marks course.items s new same
            (c.stopped_connections_account_for_what_they_left.ensures.stops start history course.own course.marks course.items s h.accounts);
        open_so = inr (record { stage_is = same; marks_are = refl });
      };
    }

pub returns-clause-output : goal.returns-clause-output
returns-clause-output g c = λ service start begun history counts now course s new is same h. record {
  was = s;
  before = course.marks;
  served = h;
  unended = unended s (ap is_end is);
  stopped = c.stopped_connections_account_for_what_they_left.ensures.still start history course.own course.marks course.items s new same
      (c.stopped_connections_account_for_what_they_left.ensures.stops start history course.own course.marks course.items s h.accounts);
  open_so = inr (record { stage_is = same; marks_are = refl });
}

pub returns-clause-room : goal.returns-clause-room
returns-clause-room g c = λ service start begun history counts now course s new is same h. record {
  was = s;
  before = course.marks;
  served = h;
  unended = unended s (ap is_end is);
  stopped = c.stopped_connections_account_for_what_they_left.ensures.still start history course.own course.marks course.items s new same
      (c.stopped_connections_account_for_what_they_left.ensures.stops start history course.own course.marks course.items s h.accounts);
  open_so = inr (record { stage_is = same; marks_are = refl });
}

pub returns-clause-windows : goal.returns-clause-windows
returns-clause-windows g c = λ service start begun history counts now course s new windows after refused rest h.
    let leaves = c.stopped_connections_account_for_what_they_left.ensures.refused start history course.own course.marks course.items s new windows after refused (c.stopped_connections_account_for_what_they_left.ensures.stops start history course.own course.marks course.items s h.accounts) in
    let unsent : IsUnsent s.stage = unsent_windows g.P.Program.asks start history h.accounts.open_own h.accounts.open_marks s.stage new.stage windows after refused h.accounts.tells in
    record {
      added = leaves.added;
      grown = leaves.grown;
      so_far = record {
        was = s;
        before = course.marks;
        served = h;
        unended = last_open (λ v w. IsRefused v.way windows w.way after refusal.OutOfMemory) s.stage new.stage refused;
        stopped = leaves.stopped;
        open_so = inl (unsent, c.stopped_connections_account_for_what_they_left.ensures.unsent_still s new (inr (inl rest)) unsent);
      };
    }

pub returns-clause-inside : goal.returns-clause-inside
returns-clause-inside g c = λ service start begun history counts now course s new steps h. record {
  was = s;
  before = course.marks;
  served = h;
  unended = last_open IsServedStill s.stage new.stage steps;
  stopped = c.stopped_connections_account_for_what_they_left.ensures.inside start history course.own course.marks course.items s new steps (c.stopped_connections_account_for_what_they_left.ensures.stops start history course.own course.marks course.items s h.accounts);
  open_so = inl (unsent_inside s.stage new.stage steps, c.stopped_connections_account_for_what_they_left.ensures.unsent s new (inr steps));
}

pub returns-clause-open : goal.returns-clause-open
returns-clause-open g c = λ service start begun history counts now course s new is unmade h.
    let unsent : IsUnsent s.stage = unsent_before s (ap is_before is) in
    record {
      was = s;
      before = course.marks;
      served = h;
      unended = unended s (ap is_end is);
      stopped = c.stopped_connections_account_for_what_they_left.ensures.unmade start history course.own course.marks course.items s new unmade (c.stopped_connections_account_for_what_they_left.ensures.stops start history course.own course.marks course.items s h.accounts);
      open_so = inl (unsent, c.stopped_connections_account_for_what_they_left.ensures.unsent_still s new (inr (inr unmade)) unsent);
    }

pub returns-clause-advance : goal.returns-clause-advance
returns-clause-advance g c = λ service start begun history counts now course s new is steps h. record {
  was = s;
  before = course.marks;
  served = h;
  unended = unended s (ap is_end is);
  stopped = c.stopped_connections_account_for_what_they_left.ensures.opening start history course.own course.marks course.items s new steps (c.stopped_connections_account_for_what_they_left.ensures.stops start history course.own course.marks course.items s h.accounts);
  open_so = inl (unsent_before s (ap is_before is), c.stopped_connections_account_for_what_they_left.ensures.unsent s new (inl steps));
}

pub returns-clause-meanwhile : goal.returns-clause-meanwhile
returns-clause-meanwhile g c = λ service start begun history after counts now late course s prefix in_time h. record {
  was = h.was;
  before = h.before;
  served = c.connections_are_served_from_their_begin.ensures.meanwhile service start begun history after counts counts now late (record course { marks = h.before }) h.was prefix (record { hushed = omega arith; got = omega arith }) in_time h.served;
  unended = h.unended;
  stopped = subst (λ (events : List Event). Stopped g.P.Program.asks start events course.own course.marks course.items s) prefix.1
      (c.stopped_connections_account_for_what_they_left.ensures.meanwhile start history prefix.0 course.own course.marks course.items s h.stopped);
  open_so = h.open_so;
}

pub returns-clause-given_up : goal.returns-clause-given_up
returns-clause-given_up g c = λ service start begun history counts now course s h.
    by_cases h.open_so
    (λ unsent. record {
      was = h.was;
      before = h.before;
      served = h.served;
      unended = h.unended;
      stopped = c.stopped_connections_account_for_what_they_left.ensures.given_up start history course.own course.marks course.items s h.stopped;
      open_so = inl (unsent.0, unsent_dropped s.stage unsent.1);
    })
    (λ same. record {
      was = record (h.was) { stage = dropped_stage h.was.stage };
      before = h.before;
      served = c.connections_are_served_from_their_begin.ensures.given_up service start begun history counts now (record course { marks = h.before }) h.was h.served;
      unended = last_dropped h.was.stage h.unended;
      stopped = c.stopped_connections_account_for_what_they_left.ensures.given_up start history course.own course.marks course.items s h.stopped;
      open_so = inr (record { stage_is = ap dropped_stage same.stage_is; marks_are = same.marks_are });
    })

pub returns-clause-given_back : goal.returns-clause-given_back
returns-clause-given_back g c = λ service start begun history counts now course s stage windows after back h.
    let leaves = c.stopped_connections_account_for_what_they_left.ensures.given_back start history course.own course.marks course.items s stage windows after back h.stopped in
    by_cases h.open_so
    (λ unsent. record {
      added = leaves.added;
      grown = leaves.grown;
      so_far = record {
        was = h.was;
        before = h.before;
        served = h.served;
        unended = h.unended;
        stopped = leaves.stopped;
        open_so = inl (unsent.0, unsent_back s.stage stage windows after back unsent.1);
      };
    })
    (λ same. by_cases (left_or_unsent s.stage)
    (λ left.
    let there = c.connections_are_served_from_their_begin.ensures.given_back service start begun history counts now (record course { marks = h.before }) h.was stage windows after
    (subst (λ x. GivesBack x windows stage after) same.stage_is back) (subst HasLeftIfOpen same.stage_is left) h.served in
    record {
      added = there.added;
      grown = there.grown;
      so_far = record {
        was = record (h.was) { stage = stage };
        before = h.before ++ map uncounted there.added;
        served = there.serves;
        unended = last_back h.was.stage stage windows after (subst (λ x. GivesBack x windows stage after) same.stage_is back) h.unended;
        stopped = subst (λ (ms : List WindowMark). Stopped g.P.Program.asks start history course.own (ms ++ map uncounted there.added) course.items (record s { stage = stage })) (sym same.marks_are)
            (c.stopped_connections_account_for_what_they_left.ensures.still start history course.own (h.before ++ map uncounted there.added) course.items (record (h.was) { stage = stage }) (record s { stage = stage }) refl
            (c.stopped_connections_account_for_what_they_left.ensures.stops start history course.own (h.before ++ map uncounted there.added) course.items (record (h.was) { stage = stage }) there.serves.accounts));
        open_so = inr (record { stage_is = refl; marks_are = ap (λ (ms : List WindowMark). ms ++ map uncounted there.added) same.marks_are });
      };
    })
    (λ unsent. record {
      added = leaves.added;
      grown = leaves.grown;
      so_far = record {
        was = h.was;
        before = h.before;
        served = h.served;
        unended = h.unended;
        stopped = leaves.stopped;
        open_so = inl (subst IsUnsent same.stage_is unsent, unsent_back s.stage stage windows after back unsent);
      };
    }))

pub returns-clause-nothing_held : goal.returns-clause-nothing_held
returns-clause-nothing_held g c = λ s stage windows after back. nothing_held s.stage stage windows after back

pub returns-clause-item : goal.returns-clause-item
returns-clause-item g c = λ service start begun history counts now i course s stage has takes h.
    by_cases h.open_so
    (λ unsent. absurd (unsent_no_item s.stage unsent.1 has))
    (λ same.
    let there = c.connections_are_served_from_their_begin.ensures.item service start begun history counts now i (record course { marks = h.before }) h.was stage
    (ap has_item (sym same.stage_is) ∙ has) (subst (λ x. TakesItem x i stage) same.stage_is takes) h.served in
    record {
      was = record (h.was) { front = i.holds.front; stage = stage };
      before = h.before;
      served = there;
      unended = item_unended i s.stage stage takes;
      stopped = subst (λ (ms : List WindowMark). Stopped g.P.Program.asks start history course.own ms (course.items ++ i ∷ []) (record s { front = i.holds.front; stage = stage })) (sym same.marks_are)
          (c.stopped_connections_account_for_what_they_left.ensures.still start history course.own h.before (course.items ++ i ∷ []) (record (h.was) { front = i.holds.front; stage = stage }) (record s { front = i.holds.front; stage = stage }) refl
          (c.stopped_connections_account_for_what_they_left.ensures.stops start history course.own h.before (course.items ++ i ∷ []) (record (h.was) { front = i.holds.front; stage = stage }) there.accounts));
      open_so = inr (record { stage_is = refl; marks_are = same.marks_are });
    })

pub returns-clause-item_held : goal.returns-clause-item_held
returns-clause-item_held g c = λ i stage after takes. item_held i stage after takes
