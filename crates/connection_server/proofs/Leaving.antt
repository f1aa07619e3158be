-- A connection that a call leaves: its last item, and what was served over it.
use Rattle.std.specs.Prelude.{map}
use Rattle.std.proofs.Common.{◌≡◌, ◌⊎◌, inl, inr, ℕ, Bool, true, false, if◌then◌else◌, List, [], ◌∷◌, ◌++◌, ◌+◌, length, arith, refl, sym, ap, ◌∙◌, subst, Option, append-nil}
use Rattle.std.proofs.lemmas.List.{append_assoc, length-append, length-map, map-append}
use Rattle.std.proofs.lemmas.List.Elements.{All-push}
use mathlib.Core.List.{IsPrefix}
use Rattle.auction_calls.specs.declared.action.ActionCall.{ActionCall}
use Rattle.auction_site.specs.Actions.{steps_of}
use Rattle.boot_core.specs.declared.boot.Start.{Start}
use Rattle.container_core.specs.Container.{ContainerValue, events_of}
use Rattle.container_core.specs.declared.history.Event.{Event}
use Rattle.http_wire.specs.Requests.{Requests, requests}
use Rattle.http_wire.specs.declared.taken.Head.{Head}
use Rattle.outcome_items.specs.Traces.{uncounted}
use Rattle.outcome_items.specs.declared.item.Item.{Item}
use Rattle.outside.specs.Sink.{appended}
use Rattle.outside.specs.declared.link.LinkCounts.{LinkCounts}
use Rattle.outside.specs.declared.link.LinkEvent.{LinkEvent}
use Rattle.request_intake.specs.Intakes.{Gives}
use Rattle.send_windows.specs.Windows.{WindowsValue}
use Rattle.send_windows.specs.declared.history.WindowMark.{WindowMark}
use Rattle.served_connections.specs.Courses.{Course}
use Rattle.served_connections.specs.Resting.{HasLeftAll, Rests, last_at}
use Rattle.served_connections.specs.Serving.{Serves, ServesLeaving}
use Rattle.served_connections.specs.Stopping.{HoldsNothing, IsAsBefore, IsUnsent, ServesSoFar, StopsLeaving}
use Rattle.served_connections.specs.Telling.{HasEnded, HasServedWhole, HasStopped}
use Rattle.served_items.specs.Attributing.{Service}
use Rattle.served_items.specs.Counting.{StageCounts, last_counts}
use Rattle.request_visit.specs.declared.visit.Visit.{Visit}
use Rattle.shepherd.specs.Shepherds.{has_item, stage_turn, turn}
use Rattle.shepherd.specs.Standing.{IsOpen, IsOpenFor, Served, Standing, coming, heads_of}
use Rattle.shepherd.specs.Steps.{GivesBack, HasLeftIfOpen, TakesItem, dropped_stage, rested}
use Rattle.shepherd.specs.declared.shepherd.AskedCall.{AskedCall}
use Rattle.shepherd.specs.declared.shepherd.EndKind.{EndKind}
use Rattle.shepherd.specs.declared.shepherd.EndKind.TheVariants as ends
use Rattle.shepherd.specs.declared.shepherd.Shepherd.{Shepherd}
use Rattle.shepherd.specs.declared.shepherd.ShepherdTurn.TheVariants as turns
use Rattle.shepherd.specs.declared.shepherd.Stage.{Stage}
use Rattle.shepherd.specs.declared.shepherd.Stage.TheVariants as stages
use Rattle.site_locks.specs.Holds.{Holds, HoldsWindows}
use Rattle.site_programs.specs.Errands.{IsMadeOf}
use Rattle.site_programs.specs.declared.maker.SiteMaker.{SiteMaker}
use Rattle.site_responses.specs.declared.answer.Untaken.{Untaken}
use Rattle.turn_lock.specs.Seats.{SeatValue}
use Rattle.seat_serials.specs.Drawing.{SeatLooks}
use Rattle.connection_server.specs.Closing.{EndsBy, LastStaysOpen}
use Rattle.connection_server.specs.Ending.{AllServed, FirstServed, HasServedAllOf, HasServedItems, HasTakenAll, ServedBy}
use Rattle.connection_server.specs.Heeding.{AtMostLastStopped, Heeds, LastStopped, NoneStopped, WasFound}
use Rattle.connection_server.specs.Seats.{BeginsWith}
use Rattle.connection_server.specs.Serving.{BreaksOff, ComesToEnd, Ends, IsAccepted, IsServed, IsWritten, KeepsServing, Waits, WantsMemory}
use Rattle.connection_server.specs.Stands.{HasCome, HasSeen, Stand, began_at}
use Rattle.connection_server.specs.Turning.{stopped_so}
use Rattle.connection_server.specs.declared.connection.Connection.{Connection}
use Rattle.connection_server.specs.declared.served.ServedEnd.{ServedEnd}
use Rattle.connection_server.specs.declared.served.ServedEnd.TheVariants.{Closed, Cut, Refused, Stopped, ReadFault, WriteFault, OutOfMemory}
use Rattle.connection_server.proofs.Growing.{held_on, held_seen, held_still, prefix_trans}
use Rattle.connection_server.proofs.Heeding.{ends_stay, given_back as back_heeds, given_up as up_heeds, item as item_heeds, item_found, last_stays, meanwhile, none_stopped_stays, rests as rests_behind}
use Rattle.connection_server.proofs.Moving.{came, starts_with}
use Rattle.connection_server.proofs.Refusing.{hold_refused}
use Rattle.connection_server.proofs.Seen.{reached_here, saw_item, unsent_no_item}
use Rattle.connection_server.proofs.Turned.{all_come, bytes_end}

ended_turn : (s : Shepherd ActionCall) (end : EndKind) → s.wants_memory ≡ false → s.stage ≡ stages.Over end → turn s ≡ turns.Ended end
ended_turn s end remembers at =
    ap (λ (b : Bool). if b then turns.Ended ends.OutOfMemory else stage_turn s.stage s.received s.ended) remembers
    ∙ ap (λ (x : Stage ActionCall). stage_turn x s.received s.ended) at

-- the request that is open does not close its connection, and its item is taken
stays_open : (fed : List ℕ) (heads : List Head) (written : List ℕ) (items : List Item) (s : Shepherd ActionCall) (v : Visit ActionCall) (call : Option AskedCall) (i : Item) → Standing fed heads written items s
    → s.stage ≡ stages.Serving v call → v.facts.close ≡ false → LastStaysOpen fed (items ++ i ∷ [])
stays_open fed heads written items s v call i stands at stays =
    let first : List Head = heads_of stands.served in
    let behind : List Head = (coming s.stage (s.received ++ [])).heads in
    let opens : IsOpenFor s.front v call stands.opened stands.sent = subst (λ (x : Stage ActionCall). IsOpen s.front x stands.opened stands.sent) at stands.is_open in
    let as_first : length items ≡ length first =
    ap length stands.items_are ∙ length-map stands.served (λ (x : Served). x.item) ∙ sym (length-map stands.served (λ (x : Served). x.head)) in
    record {
      before = first;
      last = opens.head;
      behind = behind;
      heads_are = ap (λ (r : Requests). r.heads) (sym (ap requests (append-nil fed)) ∙ stands.requests_are []) ∙ ap (λ (l : List Head). (first ++ l) ++ behind) opens.opened_is
          ∙ append_assoc first (opens.head ∷ []) behind;
      as_many = length-append items (i ∷ []) ∙ ap (λ (n : ℕ). n + 1) as_first;
      stays = sym opens.close_is ∙ stays;
    }

-- behind an item none is left
none_behind : (x after : Stage ActionCall) (i : Item) → TakesItem x i after → has_item after ≡ false
none_behind stages.Resting after i t = absurd t
none_behind (stages.Serving v call) after i t = ap has_item t.1 ∙ at_rest v.facts.close where
  at_rest : (close : Bool) → has_item {P = ActionCall} (rested close) ≡ false
  at_rest true = refl
  at_rest false = refl
none_behind (stages.Refusing why bytes) after i t = absurd t
none_behind (stages.Over end) after i t = absurd t

module _ {L R : Type 0} (calls : L → LinkEvent → L → Type 0) (gives : Gives R) (service : Service SiteMaker) (begun : Stand) where
  abbrev Keeps : Stand → Connection → Type 0
  Keeps now conn = KeepsServing calls gives service begun now conn

  abbrev SiteServes : Start → Stand → Course → Shepherd ActionCall → Type 0
  SiteServes start now c s = Serves IsAccepted steps_of calls (λ (maker : SiteMaker). IsMadeOf) gives SeatLooks service start (began_at begun) now.container.seen now.counts now.moment c s

  -- an item was taken
  module _ (now : Stand) (old new : Connection) (i : Item) (items : new.items.items ≡ old.items.items ++ i ∷ []) (stopped : new.stopped ≡ old.stopped) (over : new.shepherd.ended ≡ old.shepherd.ended) (takes : TakesItem old.shepherd.stage i new.shepherd.stage)
      (on : (start : Start) (c : Course) → SiteServes start now c old.shepherd → SiteServes start now (record c { items = c.items ++ i ∷ [] }) new.shepherd) (k : Keeps now old) where
    abbrev later : Course
    later = record (k.course) { items = k.course.items ++ i ∷ [] }

    served : IsServed calls gives service begun now later new.shepherd
    served = record {
      start = k.served.start;
      parts_are = k.served.parts_are;
      boot_is = k.served.boot_is;
      come = came begun now now k.course later k.served.come refl refl refl refl refl refl k.served.come.words k.served.come.given (omega arith) (omega arith) (omega arith);
      drew = k.served.drew;
      saw = saw_item begun now k.course i (last_counts begun.counts k.course.items) now.counts old.shepherd.stage new.shepherd.stage takes k.served.serves.counted.is_open (reached_here now.counts) k.served.saw;
      read = k.served.read;
      ended = λ is. k.served.ended (sym over ∙ is);
      serves = on k.served.start k.course k.served.serves;
    }

    writes : IsWritten calls gives service begun now later new
    writes = record { written = k.writes.written; items_are = ap (λ (l : List Item). l ++ i ∷ []) k.writes.items_are ∙ sym items }

    found : (b : Bool) → old.stopped ≡ b → AtMostLastStopped now.container.seen new.items.items
    found b is =
        subst (λ (l : List Item). AtMostLastStopped now.container.seen l) (sym items)
        (item_found now.container.seen old.items.items i b k.heeds.running
        (subst (λ (x : Bool). WasFound now.container.seen i.holds x) is (item_heeds now.container.seen old.items.items old.stopped old.shepherd.stage new.shepherd.stage i takes k.heeds)))

    pub item_kept : old.stopped ≡ false → Keeps now new
    item_kept is = record {
      course = later;
      served = served;
      writes = writes;
      heeds = record {
        running = subst (λ (l : List Item). NoneStopped now.container.seen l) (sym items)
            (All-push (λ (x : Item). WasFound now.container.seen x.holds false) old.items.items i k.heeds.running
            (subst (λ (x : Bool). WasFound now.container.seen i.holds x) is (item_heeds now.container.seen old.items.items old.stopped old.shepherd.stage new.shepherd.stage i takes k.heeds)));
        is_open = rests_behind now.container.seen new.items.items new.stopped old.shepherd.stage new.shepherd.stage i takes;
      };
    }

    last_found : old.stopped ≡ true → LastStopped now.container.seen new.items.items
    last_found is = record {
      before = old.items.items;
      last = i;
      items_are = items;
      running = k.heeds.running;
      stopped = subst (λ (x : Bool). WasFound now.container.seen i.holds x) is (item_heeds now.container.seen old.items.items old.stopped old.shepherd.stage new.shepherd.stage i takes k.heeds);
    }

    pub item_last : old.stopped ≡ true → Ends calls gives service begun (stopped_so new.shepherd.stage) now new
    item_last is = by old.shepherd.stage refl takes where
      by_close : (v : Visit ActionCall) (call : Option AskedCall) (close : Bool) → old.shepherd.stage ≡ stages.Serving v call → v.facts.close ≡ close → new.shepherd.stage ≡ rested close
          → Ends calls gives service begun (stopped_so new.shepherd.stage) now new
      by_close v call true opens closes at =
          subst (λ (e : ServedEnd). Ends calls gives service begun e now new) (sym (ap stopped_so at))
          (record {
            course = later;
            served = served;
            writes = writes;
            ended = ended_turn new.shepherd ends.Closed served.serves.remembers at;
            heeds = inr (all_come later.fed served.serves.heads later.written later.items new.shepherd ends.Closed served.serves.stands at, inr (last_found is));
          })
      by_close v call false opens closes at =
          subst (λ (e : ServedEnd). Ends calls gives service begun e now new) (sym (ap stopped_so at))
          (record {
            course = later;
            served = served;
            writes = writes;
            rests = subst (λ (x : Stage ActionCall). Rests x) (sym at) tt;
            nothing = ap last_at at;
            heeds = last_found is;
            stays = subst (λ (l : List Item). LastStaysOpen k.course.fed l) writes.items_are
                (stays_open k.course.fed k.served.serves.heads k.course.written k.course.items old.shepherd v call i k.served.serves.stands opens closes);
          })

      by : (x : Stage ActionCall) → old.shepherd.stage ≡ x → TakesItem x i new.shepherd.stage → Ends calls gives service begun (stopped_so new.shepherd.stage) now new
      by stages.Resting opens t = absurd t
      by (stages.Serving v call) opens t = by_close v call v.facts.close opens refl t.1
      by (stages.Refusing why bytes) opens t = absurd t
      by (stages.Over end) opens t = absurd t

  -- A connection that rests is as it was, where its call and its passes are given up, and others add meanwhile.
  pub stays_served : (now : Stand) (seat : SeatValue Event) (windows : SeatValue WindowMark) (before after : ContainerValue) (before_windows after_windows : WindowsValue) (c : Course) (s : Shepherd ActionCall)
      → Holds now.container seat before after → after ≡ before → HoldsWindows now.windows windows before_windows after_windows → after_windows ≡ before_windows
      → ((start : Start) → IsPrefix now.container.seen seat.seen → SiteServes start now c s → SiteServes start (record now { container = seat; windows = windows }) c s)
      → IsServed calls gives service begun now c s → IsServed calls gives service begun (record now { container = seat; windows = windows }) c s
  stays_served now seat windows before after before_windows after_windows c s hold same hold_windows same_windows on h =
      let seen : seat.seen ≡ events_of after = held_seen now.container seat (events_of before) (events_of after) hold.hold in
      let longer : IsPrefix now.container.seen (events_of after) = prefix_trans now.container.seen (events_of before) (events_of after) hold.hold.begun hold.hold.grown in
      record {
        start = h.start;
        parts_are = h.parts_are;
        boot_is = h.boot_is;
        come = record {
          container = held_still begun.container now.container seat c.own (events_of before) (events_of after) h.come.container hold.hold (ap (λ (x : ContainerValue). events_of x) same);
          marks = h.come.marks;
          marks_are = h.come.marks_are;
          windows = held_still begun.windows now.windows windows h.come.marks before_windows.history after_windows.history h.come.windows hold_windows.hold (ap (λ (x : WindowsValue). x.history) same_windows);
          words = h.come.words;
          heard = h.come.heard;
          given = h.come.given;
          read_faults = h.come.read_faults;
          write_faults = h.come.write_faults;
          moment = h.come.moment;
        };
        drew = h.drew;
        saw = record { spent = h.saw.spent; full = hold_refused now.windows windows before_windows after_windows hold_windows c.full h.saw.full; counted = h.saw.counted };
        read = h.read;
        ended = h.ended;
        serves = on h.start (subst (λ (es : List Event). IsPrefix now.container.seen es) (sym seen) longer) h.serves;
      }

module _ {L R : Type 0} (calls : L → LinkEvent → L → Type 0) (gives : Gives R) (service : Service SiteMaker) (begun now : Stand) (conn : Connection) where
  abbrev ServesBehind : Start → List Event → Course → Shepherd ActionCall → Type 0
  ServesBehind start history c s = Serves IsAccepted steps_of calls (λ (maker : SiteMaker). IsMadeOf) gives SeatLooks service start (began_at begun) history now.counts now.moment c s

  abbrev LeavesBehind : Start → List Event → Course → Shepherd ActionCall → WindowsValue → WindowsValue → Type 0
  LeavesBehind start history c s windows after = ServesLeaving IsAccepted steps_of calls (λ (maker : SiteMaker). IsMadeOf) gives SeatLooks service start (began_at begun) history now.counts now.moment c s windows after

  abbrev SoFarBehind : Start → List Event → LinkCounts → Course → Shepherd ActionCall → Type 0
  SoFarBehind start history counts c s = ServesSoFar IsAccepted steps_of calls (λ (maker : SiteMaker). IsMadeOf) gives SeatLooks service start (began_at begun) history counts now.moment c s

  abbrev StopsBehind : Start → List Event → LinkCounts → Course → Shepherd ActionCall → WindowsValue → WindowsValue → Type 0
  StopsBehind start history counts c s windows after = StopsLeaving IsAccepted steps_of calls (λ (maker : SiteMaker). IsMadeOf) gives SeatLooks service start (began_at begun) history counts now.moment c s windows after

  abbrev WholeBehind : Start → List Event → Course → List ℕ → Type 0
  WholeBehind start history c last = HasServedWhole steps_of calls (λ (maker : SiteMaker). IsMadeOf) gives SeatLooks service start (began_at begun) history now.moment c last

  -- what the laws of connections that are served say, of this one
  pub record Laws : Type 0 where
    pub later : (start : Start) (history after : List Event) (c : Course) (s : Shepherd ActionCall) → IsPrefix history after → ServesBehind start history c s → ServesBehind start after c s
    pub no_more : (start : Start) (history : List Event) (c : Course) (s : Shepherd ActionCall) → ServesBehind start history c s → ServesBehind start history c (record s { ended = true })
    pub up : (start : Start) (history : List Event) (c : Course) (s : Shepherd ActionCall) → ServesBehind start history c s → ServesBehind start history c (record s { stage = dropped_stage s.stage })
    pub back : (start : Start) (history : List Event) (c : Course) (s : Shepherd ActionCall) (stage : Stage ActionCall) (windows after : WindowsValue) → GivesBack s.stage windows stage after → HasLeftIfOpen s.stage
        → ServesBehind start history c s → LeavesBehind start history c (record s { stage = stage }) windows after
    pub item : (start : Start) (history : List Event) (c : Course) (i : Item) (s : Shepherd ActionCall) (stage : Stage ActionCall) → has_item s.stage ≡ true → TakesItem s.stage i stage
        → ServesBehind start history c s → ServesBehind start history (record c { items = c.items ++ i ∷ [] }) (record s { front = i.holds.front; stage = stage })
    pub rested : (start : Start) (history : List Event) (c : Course) (s : Shepherd ActionCall) → Rests s.stage → ServesBehind start history c s → WholeBehind start history c (last_at s.stage)
    pub ended : (start : Start) (history : List Event) (c : Course) (s : Shepherd ActionCall) (end : EndKind) → turn s ≡ turns.Ended end → ServesBehind start history c s
        → HasEnded steps_of calls (λ (maker : SiteMaker). IsMadeOf) gives SeatLooks service start (began_at begun) history now.moment c end
    pub rests_at_bytes : (s : Shepherd ActionCall) → turn s ≡ turns.Bytes → Rests s.stage
    pub rests_at_end : (s : Shepherd ActionCall) (end : EndKind) → turn s ≡ turns.Ended end → s.wants_memory ≡ false → Rests s.stage
    pub still : (stage : Stage ActionCall) → Rests stage → dropped_stage stage ≡ stage
    pub kept : (stage behind : Stage ActionCall) (windows after : WindowsValue) → Rests stage → GivesBack stage windows behind after → (behind ≡ stage) × (after ≡ windows)
    pub dropped : (stage : Stage ActionCall) → HasLeftAll stage → HasLeftAll (dropped_stage stage)
    pub left : (stage : Stage ActionCall) → HasLeftAll stage → HasLeftIfOpen stage
    pub behind : (stage behind : Stage ActionCall) (windows after : WindowsValue) → HasLeftAll stage → GivesBack stage windows behind after → has_item behind ≡ false → Rests behind
    pub rests : (i : Item) (stage after : Stage ActionCall) → TakesItem stage i after → Rests after
    pub later_so_far : (start : Start) (history after : List Event) (counts : LinkCounts) (c : Course) (s : Shepherd ActionCall) → IsPrefix history after → SoFarBehind start history counts c s → SoFarBehind start after counts c s
    pub up_so_far : (start : Start) (history : List Event) (counts : LinkCounts) (c : Course) (s : Shepherd ActionCall) → SoFarBehind start history counts c s → SoFarBehind start history counts c (record s { stage = dropped_stage s.stage })
    pub back_so_far : (start : Start) (history : List Event) (counts : LinkCounts) (c : Course) (s : Shepherd ActionCall) (stage : Stage ActionCall) (windows after : WindowsValue) → GivesBack s.stage windows stage after
        → SoFarBehind start history counts c s → StopsBehind start history counts c (record s { stage = stage }) windows after
    pub item_so_far : (start : Start) (history : List Event) (counts : LinkCounts) (c : Course) (i : Item) (s : Shepherd ActionCall) (stage : Stage ActionCall) → has_item s.stage ≡ true → TakesItem s.stage i stage
        → SoFarBehind start history counts c s → SoFarBehind start history counts (record c { items = c.items ++ i ∷ [] }) (record s { front = i.holds.front; stage = stage })
    pub nothing_held : (s : Shepherd ActionCall) (stage : Stage ActionCall) (windows after : WindowsValue) → GivesBack s.stage windows stage after → HoldsNothing stage
    pub item_held : (i : Item) (stage after : Stage ActionCall) → TakesItem stage i after → HoldsNothing after
    pub stopped : (start : Start) (history : List Event) (counts : LinkCounts) (c : Course) (s : Shepherd ActionCall) → HoldsNothing s.stage → has_item s.stage ≡ false → SoFarBehind start history counts c s
        → HasStopped steps_of calls (λ (maker : SiteMaker). IsMadeOf) gives SeatLooks service start (began_at begun) history now.moment c

  -- the holds in which its call and its passes were given up, and the items that it left
  pub record Leaves (seat : SeatValue Event) (windows : SeatValue WindowMark) (items : List Item) : Type 0 where
    pub before : ContainerValue
    pub after : ContainerValue
    pub held : Holds now.container seat before after
    pub same : after ≡ before
    pub before_windows : WindowsValue
    pub after_windows : WindowsValue
    pub held_windows : HoldsWindows now.windows windows before_windows after_windows
    pub dropped : Shepherd ActionCall
    pub dropped_is : dropped ≡ record (conn.shepherd) { stage = dropped_stage conn.shepherd.stage }
    pub last : Shepherd ActionCall
    pub gives_back : GivesBack dropped.stage before_windows last.stage after_windows
    pub last_is : last ≡ record dropped { stage = last.stage }
    pub none : has_item last.stage ≡ false → items ≡ conn.items.items
    pub item : has_item last.stage ≡ true → (i : Item) × (stage : Stage ActionCall) × TakesItem last.stage i stage × (items ≡ conn.items.items ++ i ∷ [])

  module _ (laws : Laws) (seat : SeatValue Event) (windows : SeatValue WindowMark) (items : List Item) (l : Leaves seat windows items) where
    abbrev next : Stand
    next = record now { container = seat; windows = windows }

    seen : seat.seen ≡ events_of l.after
    seen = held_seen now.container seat (events_of l.before) (events_of l.after) l.held.hold

    longer : IsPrefix now.container.seen seat.seen
    longer =
        subst (λ (es : List Event). IsPrefix now.container.seen es) (sym seen)
        (prefix_trans now.container.seen (events_of l.before) (events_of l.after) l.held.hold.begun l.held.hold.grown)

    starts_there : (start : Start) → BeginsWith start now.container.seen → BeginsWith start seat.seen
    starts_there start b = (b.0 ++ longer.0, sym longer.1 ∙ ap (λ (es : List Event). es ++ longer.0) b.1)

    abbrev Items : ServedEnd → Type 0
    Items end = HasServedItems calls gives service begun next items end

    -- it rests
    module _ (c : Course) (h : IsServed calls gives service begun now c conn.shepherd) (rests : Rests conn.shepherd.stage) (items_are : c.items ≡ conn.items.items) where
      stage_is : l.dropped.stage ≡ conn.shepherd.stage
      stage_is = ap (λ (s : Shepherd ActionCall). s.stage) l.dropped_is ∙ laws.still conn.shepherd.stage rests

      kept_so : (l.last.stage ≡ conn.shepherd.stage) × (l.after_windows ≡ l.before_windows)
      kept_so =
          laws.kept conn.shepherd.stage l.last.stage l.before_windows l.after_windows rests
          (subst (λ (x : Stage ActionCall). GivesBack x l.before_windows l.last.stage l.after_windows) stage_is l.gives_back)

      no_item : (x : Stage ActionCall) → Rests x → has_item x ≡ false
      no_item stages.Resting r = refl
      no_item (stages.Serving v call) r = absurd r
      no_item (stages.Refusing why bytes) r = absurd r
      no_item (stages.Over end) r = refl

      pub items_same : items ≡ c.items
      items_same = l.none (ap has_item kept_so.0 ∙ no_item conn.shepherd.stage rests) ∙ sym items_are

      pub served_there : IsServed calls gives service begun next c conn.shepherd
      served_there =
          stays_served calls gives service begun now seat windows l.before l.after l.before_windows l.after_windows c conn.shepherd l.held l.same l.held_windows kept_so.1
          (λ start on serves. laws.later start now.container.seen seat.seen c conn.shepherd on serves) h

      pub items_told : (end : ServedEnd) → ServedBy calls gives service begun next h.start c end → Items end
      items_told end told = record {
        course = c;
        start = h.start;
        starts = starts_there h.start (starts_with calls gives service begun h.start now c conn.shepherd h.serves);
        parts_are = h.parts_are;
        boot_is = h.boot_is;
        come = served_there.come;
        items_are = items_same;
        served = told;
      }

      took : HasTakenAll calls gives service begun next c
      took = record { read = served_there.read; drew = served_there.drew; saw = served_there.saw }

      pub all_told : (end : EndKind) (s : Shepherd ActionCall) → turn s ≡ turns.Ended end → next.written ≡ appended begun.written c.written → ServesBehind h.start seat.seen c s → HasServedAllOf calls gives service begun next h.start c end
      all_told end s ends wrote serves = record { ended = laws.ended h.start seat.seen c s end ends serves; wrote = wrote; took = took }

      pub first_told : last_at conn.shepherd.stage ≡ [] → FirstServed calls gives service begun next h.start c
      unfolding served_there stays_served
      first_told nothing = subst (λ (bytes : List ℕ). WholeBehind h.start seat.seen c bytes) nothing (laws.rested h.start seat.seen c conn.shepherd rests served_there.serves)

      pub serves_there : ServesBehind h.start seat.seen c conn.shepherd
      unfolding served_there stays_served
      serves_there = served_there.serves

    at_end : (end : EndKind) (e : ServedEnd) (k : ComesToEnd calls gives service begun end now conn)
        → ((start : Start) → HasServedAllOf calls gives service begun next start k.course end → EndsBy end next.left k.course.fed seat.seen k.course.items → ServedBy calls gives service begun next start k.course e) → Items e
    at_end end e k so =
        let rests = laws.rests_at_end conn.shepherd end k.ended k.served.serves.remembers in
        let items_are = k.writes.items_are in
        items_told k.course k.served rests items_are e
        (so k.served.start
        (all_told k.course k.served rests items_are end conn.shepherd k.ended k.writes.written (serves_there k.course k.served rests items_are))
        (subst (λ (is : List Item). EndsBy end now.left k.course.fed seat.seen is) (sym items_are) (ends_stay end now.left k.course.fed now.container.seen seat.seen conn.items.items longer k.heeds)))

    -- all that came was served
    module _ (k : Waits calls gives service begun now conn) where
      abbrev waited : Shepherd ActionCall
      waited = record (conn.shepherd) { ended = true }

      waited_rests : Rests conn.shepherd.stage
      waited_rests = laws.rests_at_bytes conn.shepherd k.waits

      waited_serves : ServesBehind k.served.start seat.seen k.course waited
      waited_serves = laws.no_more k.served.start seat.seen k.course conn.shepherd (serves_there k.course k.served waited_rests k.writes.items_are)

      came_all : (turn waited ≡ turns.Ended ends.Closed) ⊎ (turn waited ≡ turns.Ended ends.Cut)
          → HasServedAllOf calls gives service begun next k.served.start k.course ends.Closed ⊎ HasServedAllOf calls gives service begun next k.served.start k.course ends.Cut
      came_all (inl closed) = inl (all_told k.course k.served waited_rests k.writes.items_are ends.Closed waited closed k.writes.written waited_serves)
      came_all (inr cut) = inr (all_told k.course k.served waited_rests k.writes.items_are ends.Cut waited cut k.writes.written waited_serves)

      read_all : Items ReadFault
      read_all =
          items_told k.course k.served waited_rests k.writes.items_are ReadFault
          (record {
            all = came_all (bytes_end conn.shepherd k.served.serves.remembers k.waits);
            failed = k.failed;
            running = subst (λ (is : List Item). NoneStopped seat.seen is) (sym k.writes.items_are) (none_stopped_stays now.container.seen seat.seen conn.items.items longer k.heeds);
          })

    -- the first requests were served, or all of them, and what followed is refused
    answered : (start : Start) (c : Course) (s : Shepherd ActionCall) → Rests s.stage → ServesBehind start seat.seen c s
        → FirstServed calls gives service begun next start c ⊎ ((why : Untaken) × AllServed calls gives service begun next start c (ends.Refused why))
    answered start c s rests serves = by s.stage refl rests where
      told : (x : Stage ActionCall) → s.stage ≡ x → WholeBehind start seat.seen c (last_at x)
      told x at = subst (λ (y : Stage ActionCall). WholeBehind start seat.seen c (last_at y)) at (laws.rested start seat.seen c s rests serves)

      by : (x : Stage ActionCall) → s.stage ≡ x → Rests x
          → FirstServed calls gives service begun next start c ⊎ ((why : Untaken) × AllServed calls gives service begun next start c (ends.Refused why))
      by stages.Resting at r = inl (told stages.Resting at)
      by (stages.Serving v call) at r = absurd r
      by (stages.Refusing why bytes) at r = absurd r
      by (stages.Over ends.Closed) at r = inl (told (stages.Over ends.Closed) at)
      by (stages.Over ends.Cut) at r = inl (told (stages.Over ends.Cut) at)
      by (stages.Over (ends.Refused why)) at r = inr (why, laws.ended start seat.seen c s (ends.Refused why) (ended_turn s (ends.Refused why) serves.remembers at) serves)
      by (stages.Over ends.OutOfMemory) at r = inl (told (stages.Over ends.OutOfMemory) at)

    -- what is found of an item that is left
    heeds_there : Heeds now.container.seen conn.items.items conn.stopped conn.shepherd.stage → Heeds seat.seen conn.items.items conn.stopped l.last.stage
    heeds_there heeds =
        back_heeds seat.seen conn.items.items conn.stopped l.dropped.stage l.last.stage l.before_windows l.after_windows l.gives_back
        (subst (λ (x : Stage ActionCall). Heeds seat.seen conn.items.items conn.stopped x) (sym (ap (λ (s : Shepherd ActionCall). s.stage) l.dropped_is))
        (up_heeds seat.seen conn.items.items conn.stopped conn.shepherd.stage (meanwhile now.container.seen seat.seen conn.items.items conn.stopped conn.shepherd.stage longer heeds)))

    heeds_none : Heeds now.container.seen conn.items.items conn.stopped conn.shepherd.stage → items ≡ conn.items.items → AtMostLastStopped seat.seen items
    heeds_none heeds same = subst (λ (is : List Item). AtMostLastStopped seat.seen is) (sym same) (inl (none_stopped_stays now.container.seen seat.seen conn.items.items longer heeds.running))

    heeds_item : Heeds now.container.seen conn.items.items conn.stopped conn.shepherd.stage → (i : Item) (stage : Stage ActionCall) → TakesItem l.last.stage i stage → items ≡ conn.items.items ++ i ∷ [] → AtMostLastStopped seat.seen items
    heeds_item heeds i stage takes same =
        let there = heeds_there heeds in
        subst (λ (is : List Item). AtMostLastStopped seat.seen is) (sym same)
        (item_found seat.seen conn.items.items i conn.stopped there.running (item_heeds seat.seen conn.items.items conn.stopped l.last.stage stage i takes there))

    -- how far the call has come then
    come_there : (c : Course) (added : List WindowMark) → HasCome begun now c → l.after_windows.history ≡ l.before_windows.history ++ added → HasCome begun next (record c { marks = c.marks ++ map uncounted added })
    come_there c added come grown = record {
      container = held_still begun.container now.container seat c.own (events_of l.before) (events_of l.after) come.container l.held.hold (ap (λ (x : ContainerValue). events_of x) l.same);
      marks = come.marks ++ added;
      marks_are = ap (λ (ms : List WindowMark). ms ++ map uncounted added) come.marks_are ∙ sym (map-append uncounted come.marks added);
      windows = held_on begun.windows now.windows windows come.marks l.before_windows.history l.after_windows.history added come.windows l.held_windows.hold grown;
      words = come.words;
      heard = come.heard;
      given = come.given;
      read_faults = come.read_faults;
      write_faults = come.write_faults;
      moment = come.moment;
    }

    come_item : (c : Course) (i : Item) → HasCome begun next c → HasCome begun next (record c { items = c.items ++ i ∷ [] })
    come_item c i come = came begun next next c (record c { items = c.items ++ i ∷ [] }) come refl refl refl refl refl refl come.words come.given (omega arith) (omega arith) (omega arith)

    -- a part of a response was written
    module _ (k : BreaksOff calls gives service begun now conn) where
      abbrev broken_start : Start
      broken_start = k.served.start

      broken_up_left : HasLeftAll l.dropped.stage
      broken_up_left = subst (λ (x : Stage ActionCall). HasLeftAll x) (sym (ap (λ (s : Shepherd ActionCall). s.stage) l.dropped_is)) (laws.dropped conn.shepherd.stage k.left)

      broken_up_serves : ServesBehind broken_start seat.seen k.course l.dropped
      broken_up_serves = subst (λ (s : Shepherd ActionCall). ServesBehind broken_start seat.seen k.course s) (sym l.dropped_is)
          (laws.up broken_start seat.seen k.course conn.shepherd (laws.later broken_start now.container.seen seat.seen k.course conn.shepherd longer k.served.serves))

      broken_leaves : LeavesBehind broken_start seat.seen k.course (record (l.dropped) { stage = l.last.stage }) l.before_windows l.after_windows
      broken_leaves = laws.back broken_start seat.seen k.course l.dropped l.last.stage l.before_windows l.after_windows l.gives_back (laws.left l.dropped.stage broken_up_left) broken_up_serves

      abbrev broken_later : Course
      broken_later = record (k.course) { marks = k.course.marks ++ map uncounted broken_leaves.added }

      broken_serves : ServesBehind broken_start seat.seen broken_later l.last
      broken_serves = subst (λ (s : Shepherd ActionCall). ServesBehind broken_start seat.seen broken_later s) (sym l.last_is) broken_leaves.serves

      broken_starts : BeginsWith broken_start seat.seen
      broken_starts = starts_there broken_start (starts_with calls gives service begun broken_start now k.course conn.shepherd k.served.serves)

      broken_saw : HasSeen begun next broken_later
      broken_saw = record { spent = k.served.saw.spent; full = hold_refused now.windows windows l.before_windows l.after_windows l.held_windows k.course.full k.served.saw.full; counted = k.served.saw.counted }

      broken_by : (b : Bool) → has_item l.last.stage ≡ b → Items WriteFault
      broken_by false without =
          let same = l.none without in
          let rests : Rests l.last.stage = laws.behind l.dropped.stage l.last.stage l.before_windows l.after_windows broken_up_left l.gives_back without in
          record {
            course = broken_later;
            start = broken_start;
            starts = broken_starts;
            parts_are = k.served.parts_are;
            boot_is = k.served.boot_is;
            come = come_there k.course broken_leaves.added k.served.come broken_leaves.grown;
            items_are = same ∙ sym k.items_are;
            served = record {
              served = answered broken_start broken_later l.last rests broken_serves;
              wrote = k.written;
              failed = k.failed;
              took = record { read = k.served.read; drew = k.served.drew; saw = broken_saw };
              heeds = subst (λ (is : List Item). AtMostLastStopped seat.seen is) (same ∙ sym k.items_are) (heeds_none k.heeds same);
            };
          }
      broken_by true there =
          let left = l.item there in
          let i : Item = left.0 in
          let last : Shepherd ActionCall = record (l.last) { front = i.holds.front; stage = left.1 } in
          let all : items ≡ k.course.items ++ i ∷ [] = left.3 ∙ ap (λ (is : List Item). is ++ i ∷ []) (sym k.items_are) in
          let rests : Rests left.1 = laws.rests i l.last.stage left.1 left.2 in
          let serves : ServesBehind broken_start seat.seen (record broken_later { items = k.course.items ++ i ∷ [] }) last = laws.item broken_start seat.seen broken_later i l.last left.1 there left.2 broken_serves in
          record {
            course = record broken_later { items = k.course.items ++ i ∷ [] };
            start = broken_start;
            starts = broken_starts;
            parts_are = k.served.parts_are;
            boot_is = k.served.boot_is;
            come = come_item broken_later i (come_there k.course broken_leaves.added k.served.come broken_leaves.grown);
            items_are = all;
            served = record {
              served = answered broken_start (record broken_later { items = k.course.items ++ i ∷ [] }) last rests serves;
              wrote = k.written;
              failed = k.failed;
              took = record {
                read = k.served.read;
                drew = k.served.drew;
                saw = saw_item begun next broken_later i (last_counts begun.counts k.course.items) now.counts l.last.stage left.1 left.2 broken_serves.counted.is_open (reached_here now.counts) broken_saw;
              };
              heeds = subst (λ (is : List Item). AtMostLastStopped seat.seen is) all (heeds_item k.heeds i left.1 left.2 left.3);
            };
          }

      broken : Items WriteFault
      broken = broken_by (has_item l.last.stage) refl

    -- memory was wanted
    module _ (k : WantsMemory calls gives service begun now conn) where
      abbrev unfinished_start : Start
      unfinished_start = k.start

      unfinished_up_serves : SoFarBehind unfinished_start seat.seen k.counts k.course l.dropped
      unfinished_up_serves = subst (λ (s : Shepherd ActionCall). SoFarBehind unfinished_start seat.seen k.counts k.course s) (sym l.dropped_is)
          (laws.up_so_far unfinished_start seat.seen k.counts k.course conn.shepherd (laws.later_so_far unfinished_start now.container.seen seat.seen k.counts k.course conn.shepherd longer k.serves))

      unfinished_leaves : StopsBehind unfinished_start seat.seen k.counts k.course (record (l.dropped) { stage = l.last.stage }) l.before_windows l.after_windows
      unfinished_leaves = laws.back_so_far unfinished_start seat.seen k.counts k.course l.dropped l.last.stage l.before_windows l.after_windows l.gives_back unfinished_up_serves

      abbrev unfinished_later : Course
      unfinished_later = record (k.course) { marks = k.course.marks ++ map uncounted unfinished_leaves.added }

      unfinished_serves : SoFarBehind unfinished_start seat.seen k.counts unfinished_later l.last
      unfinished_serves = subst (λ (s : Shepherd ActionCall). SoFarBehind unfinished_start seat.seen k.counts unfinished_later s) (sym l.last_is) unfinished_leaves.so_far

      unfinished_saw : HasSeen begun next unfinished_later
      unfinished_saw = record { spent = k.saw.spent; full = hold_refused now.windows windows l.before_windows l.after_windows l.held_windows k.course.full k.saw.full; counted = k.saw.counted }

      -- where its item is left, all of its request is as it was
      unfinished_counted : (i : Item) (after : Stage ActionCall) → TakesItem l.last.stage i after → StageCounts (last_counts begun.counts k.course.items) k.counts l.last.stage
      unfinished_counted i after takes = by unfinished_serves.open_so where
        by : (IsUnsent unfinished_serves.was.stage × IsUnsent l.last.stage) ⊎ IsAsBefore unfinished_serves.was l.last unfinished_serves.before unfinished_later.marks
            → StageCounts (last_counts begun.counts k.course.items) k.counts l.last.stage
        by (inl unsent) = absurd (unsent_no_item l.last.stage after i takes unsent.1)
        by (inr same) = subst (λ (y : Stage ActionCall). StageCounts (last_counts begun.counts k.course.items) k.counts y) (sym same.stage_is) unfinished_serves.served.counted.is_open

      unfinished_by : (b : Bool) → has_item l.last.stage ≡ b → Items OutOfMemory
      unfinished_by false without =
          let same = l.none without in
          record {
            course = unfinished_later;
            start = unfinished_start;
            starts = starts_there unfinished_start k.starts;
            parts_are = k.parts_are;
            boot_is = k.boot_is;
            come = come_there k.course unfinished_leaves.added k.come unfinished_leaves.grown;
            items_are = same ∙ sym k.writes.items_are;
            served = record {
              lost = k.lost;
              read = k.read;
              drew = k.drew;
              saw = unfinished_saw;
              stopped = laws.stopped unfinished_start seat.seen k.counts unfinished_later l.last (laws.nothing_held l.dropped l.last.stage l.before_windows l.after_windows l.gives_back) without unfinished_serves;
              wrote = k.writes.written;
              heeds = subst (λ (is : List Item). AtMostLastStopped seat.seen is) (same ∙ sym k.writes.items_are) (heeds_none k.heeds same);
            };
          }
      unfinished_by true there =
          let left = l.item there in
          let i : Item = left.0 in
          let last : Shepherd ActionCall = record (l.last) { front = i.holds.front; stage = left.1 } in
          let all : items ≡ k.course.items ++ i ∷ [] = left.3 ∙ ap (λ (is : List Item). is ++ i ∷ []) (sym k.writes.items_are) in
          record {
            course = record unfinished_later { items = k.course.items ++ i ∷ [] };
            start = unfinished_start;
            starts = starts_there unfinished_start k.starts;
            parts_are = k.parts_are;
            boot_is = k.boot_is;
            come = come_item unfinished_later i (come_there k.course unfinished_leaves.added k.come unfinished_leaves.grown);
            items_are = all;
            served = record {
              lost = k.lost;
              read = k.read;
              drew = k.drew;
              saw = saw_item begun next unfinished_later i (last_counts begun.counts k.course.items) k.counts l.last.stage left.1 left.2 (unfinished_counted i left.1 left.2) k.count_on unfinished_saw;
              stopped = laws.stopped unfinished_start seat.seen k.counts (record unfinished_later { items = k.course.items ++ i ∷ [] }) last (laws.item_held i l.last.stage left.1 left.2) (none_behind l.last.stage left.1 i left.2)
                  (laws.item_so_far unfinished_start seat.seen k.counts unfinished_later i l.last left.1 there left.2 unfinished_serves);
              wrote = k.writes.written;
              heeds = subst (λ (is : List Item). AtMostLastStopped seat.seen is) all (heeds_item k.heeds i left.1 left.2 left.3);
            };
          }

      unfinished : Items OutOfMemory
      unfinished = unfinished_by (has_item l.last.stage) refl

    -- what was served, by how the connection came to its end
    pub left_so : (end : ServedEnd) → Ends calls gives service begun end now conn → Items end
    left_so Closed k = at_end ends.Closed Closed k (λ start all by. record { all = all; by = by })
    left_so Cut k = at_end ends.Cut Cut k (λ start all by. record { all = all; by = by })
    left_so (Refused why) k = at_end (ends.Refused why) (Refused why) k (λ start all by. record { all = all; by = by })
    left_so Stopped k =
        items_told k.course k.served k.rests k.writes.items_are Stopped
        (record {
          first = first_told k.course k.served k.rests k.writes.items_are k.nothing;
          wrote = k.writes.written;
          took = took k.course k.served k.rests k.writes.items_are;
          stopped = subst (λ (is : List Item). LastStopped seat.seen is) (sym k.writes.items_are) (last_stays now.container.seen seat.seen conn.items.items longer k.heeds);
          stays = subst (λ (is : List Item). LastStaysOpen k.course.fed is) (sym k.writes.items_are) k.stays;
        })
    left_so ReadFault k = read_all k
    left_so WriteFault k = broken k
    left_so OutOfMemory k = unfinished k
