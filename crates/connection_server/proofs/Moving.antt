-- A connection that a call serves, behind each of its turns.
use Rattle.std.specs.Prelude.{All, map, option_to_list}
use Rattle.std.proofs.Common.{◌≡◌, inl, inr, ℕ, ◌≤◌, Bool, true, false, List, [], ◌∷◌, ◌++◌, arith, refl, sym, ap, ◌∙◌, subst, Option, append-nil, true≢false}
use Rattle.std.proofs.lemmas.List.{append_assoc, map-append}
use mathlib.Core.List.{IsPrefix}
use Rattle.auction_calls.specs.declared.action.ActionCall.{ActionCall}
use Rattle.auction_rows.specs.Parts.{site_parts}
use Rattle.auction_site.specs.Actions.{steps_of}
use Rattle.boot_core.specs.declared.boot.Start.{Start}
use Rattle.container_core.specs.Container.{ContainerValue, events_of}
use Rattle.container_core.specs.declared.history.Event.{Event}
use Rattle.container_core.specs.declared.history.Event.TheVariants.{Started}
use Rattle.outcome_items.specs.Traces.{uncounted}
use Rattle.outcome_items.specs.declared.item.Item.{Item}
use Rattle.outside.specs.Faults.{Rose}
use Rattle.outside.specs.Link.{Made}
use Rattle.outside.specs.Sink.{AppendsPrefix, appended}
use Rattle.outside.specs.Source.{HasEnded, prepended}
use Rattle.outside.proofs.Prefixes.{prefix_more, prepended_none}
use Rattle.outside.specs.declared.link.LinkCounts.{LinkCounts}
use Rattle.outside.specs.declared.link.LinkEvent.{LinkEvent}
use Rattle.request_decisions.specs.declared.draws.Draw.{Draw}
use Rattle.request_intake.specs.Intakes.{Gives}
use Rattle.send_windows.specs.Windows.{WindowsValue}
use Rattle.send_windows.specs.declared.fact.WindowFact.{WindowFact}
use Rattle.send_windows.specs.declared.history.WindowMark.{WindowMark}
use Rattle.served_connections.specs.Courses.{Course}
use Rattle.served_connections.specs.Resting.{HasLeftAll}
use Rattle.served_connections.specs.Serving.{Serves, ServesAdding, ServesAtWindows, ServesCalling}
use Rattle.served_connections.specs.Stopping.{ServesSoFar, StopsCalling, StopsLeaving}
use Rattle.served_items.specs.Attributing.{Service}
use Rattle.served_items.specs.Counting.{AreReached, last_counts}
use Rattle.shared_words.specs.Words.{WordSeatValue}
use Rattle.shepherd.specs.Shepherds.{turn}
use Rattle.shepherd.specs.declared.shepherd.Shepherd.{Shepherd}
use Rattle.shepherd.specs.declared.shepherd.ShepherdTurn.TheVariants as turns
use Rattle.shepherd.specs.declared.shepherd.Stage.{Stage}
use Rattle.site_locks.specs.Holds.{Holds, HoldsWindows}
use Rattle.site_programs.specs.Errands.{IsMadeOf}
use Rattle.site_programs.specs.declared.maker.SiteMaker.{SiteMaker}
use Rattle.turn_lock.specs.Seats.{SeatValue}
use Rattle.seat_serials.specs.Drawing.{HasDrawnOn, SeatLooks}
use Rattle.connection_server.specs.Heeding.{Heeds}
use Rattle.connection_server.specs.Refusing.{AllRefused}
use Rattle.connection_server.specs.Seats.{BeginsWith, HasAdded}
use Rattle.connection_server.specs.Serving.{BreaksOff, IsAccepted, KeepsServing, Waits, WantsMemory}
use Rattle.connection_server.specs.Stands.{HasCalled, HasCome, Stand, began_at, with_drawn, words_in}
use Rattle.connection_server.specs.declared.connection.Connection.{Connection}
use Rattle.connection_server.proofs.Drawn.{drawn_on, drew_just, drew_on, seen_on}
use Rattle.connection_server.proofs.Growing.{held_on, held_seen, held_still, prefix_trans}
use Rattle.connection_server.proofs.Heeding.{meanwhile, still}
use Rattle.connection_server.proofs.Reading.{read_on, written_on}
use Rattle.connection_server.proofs.Refusing.{hold_refused, next_refused}
use Rattle.connection_server.proofs.Seen.{reached_here, reached_on}

pub rose_on : (begun now later : ℕ) → begun ≤ now → Rose now later → Rose begun later
rose_on begun now later least (inl more) = inl (omega (arith, least, more))
rose_on begun now later least (inr last) = inr last

-- The items of a connection are as they were.
pub record SameItems (old new : Connection) : Type 0 where
  pub items : new.items.items ≡ old.items.items
  pub stopped : new.stopped ≡ old.stopped

-- a call has come further: with its seat of the container, of the windows, and with all else
container_came : (begun now : Stand) (c : Course) (seat : SeatValue Event) (added : List Event) → HasCome begun now c → HasAdded begun.container seat (c.own ++ added)
    → HasCome begun (record now { container = seat }) (record c { own = c.own ++ added })
container_came begun now c seat added come grew = record {
  container = grew;
  marks = come.marks;
  marks_are = come.marks_are;
  windows = come.windows;
  words = come.words;
  heard = come.heard;
  given = come.given;
  read_faults = come.read_faults;
  write_faults = come.write_faults;
  moment = come.moment;
}

windows_came : (begun now : Stand) (c : Course) (seat : SeatValue WindowMark) (added : List WindowMark) (full : List (List WindowFact)) (come : HasCome begun now c) → HasAdded begun.windows seat (come.marks ++ added)
    → HasCome begun (record now { windows = seat }) (record c { marks = c.marks ++ map uncounted added; full = full })
windows_came begun now c seat added full come grew = record {
  container = come.container;
  marks = come.marks ++ added;
  marks_are = ap (λ (l : List WindowMark). l ++ map uncounted added) come.marks_are ∙ sym (map-append uncounted come.marks added);
  windows = grew;
  words = come.words;
  heard = come.heard;
  given = come.given;
  read_faults = come.read_faults;
  write_faults = come.write_faults;
  moment = come.moment;
}

pub came : (begun now next : Stand) (c later : Course) → HasCome begun now c → next.container ≡ now.container → later.own ≡ c.own → next.windows ≡ now.windows → later.marks ≡ c.marks → next.heard ≡ now.heard → later.heard ≡ c.heard
    → HasDrawnOn begun.words next.words → next.given ≡ begun.given ++ words_in later.drawn → now.read_faults ≤ next.read_faults → now.write_faults ≤ next.write_faults → now.moment ≤ next.moment → HasCome begun next later
came begun now next c later come container own windows marks heard same words given read write moment =
    let reads = come.read_faults in
    let writes = come.write_faults in
    let told = come.moment in
    record {
      container = subst (λ (s : SeatValue Event). HasAdded begun.container s later.own) (sym container)
          (subst (λ (l : List Event). HasAdded begun.container now.container l) (sym own) come.container);
      marks = come.marks;
      marks_are = marks ∙ come.marks_are;
      windows = subst (λ (s : SeatValue WindowMark). HasAdded begun.windows s come.marks) (sym windows) come.windows;
      words = words;
      heard = heard ∙ come.heard ∙ ap (λ (l : List LinkEvent). begun.heard ++ l) (sym same);
      given = given;
      read_faults = omega (arith, reads, read);
      write_faults = omega (arith, writes, write);
      moment = omega (arith, told, moment);
    }

-- calls in a row, and more of them
joined : {L : Type 0} (calls : L → LinkEvent → L → Type 0) (from : L) (first : List LinkEvent) (mid : L) (more : List LinkEvent) (to : L) → Made calls from first mid → Made calls mid more to → Made calls from (first ++ more) to
joined {L} calls from [] mid more to h rest = subst (λ (l : L). Made calls l more to) (sym h) rest
joined {L} calls from (call ∷ first) mid more to (next, here, h) rest = (next, here, joined calls next first mid more to h rest)

called_came : (begun now : Stand) (c : Course) (counts : LinkCounts) (made : List LinkEvent) → HasCome begun now c
    → HasCome begun (record now { counts = counts; heard = now.heard ++ made }) (record c { heard = c.heard ++ made })
called_came begun now c counts made come = record {
  container = come.container;
  marks = come.marks;
  marks_are = come.marks_are;
  windows = come.windows;
  words = come.words;
  heard = ap (λ (l : List LinkEvent). l ++ made) come.heard ∙ append_assoc begun.heard c.heard made;
  given = come.given;
  read_faults = come.read_faults;
  write_faults = come.write_faults;
  moment = come.moment;
}

pub heeds_to : (history : List Event) (old new : Connection) (stage : Stage ActionCall) → SameItems old new → Heeds history old.items.items old.stopped stage → Heeds history new.items.items new.stopped stage
heeds_to history old new stage same h =
    subst (λ (l : List Item). Heeds history l new.stopped stage) (sym same.items) (subst (λ (b : Bool). Heeds history old.items.items b stage) (sym same.stopped) h)

module _ {L R : Type 0} (calls : L → LinkEvent → L → Type 0) (gives : Gives R) (service : Service SiteMaker) (begun : Stand) where
  abbrev Keeps : Stand → Connection → Type 0
  Keeps now conn = KeepsServing calls gives service begun now conn

  abbrev SiteServes : Start → Stand → Course → Shepherd ActionCall → Type 0
  SiteServes start now c s = Serves IsAccepted steps_of calls (λ (maker : SiteMaker). IsMadeOf) gives SeatLooks service start (began_at begun) now.container.seen now.counts now.moment c s

  abbrev SiteServesSoFar : Start → LinkCounts → Stand → Course → Shepherd ActionCall → Type 0
  SiteServesSoFar start counts now c s = ServesSoFar IsAccepted steps_of calls (λ (maker : SiteMaker). IsMadeOf) gives SeatLooks service start (began_at begun) now.container.seen counts now.moment c s

  -- the history of a container that a connection is served in begins with its start
  pub starts_with : (start : Start) (now : Stand) (c : Course) (s : Shepherd ActionCall) → SiteServes start now c s → BeginsWith start now.container.seen
  starts_with start now c s serves =
      let goes = serves.goes in
      (goes.container.since, sym goes.events_are ∙ ap (λ (x : Start). Started x ∷ goes.container.since) goes.start_is)

  -- bytes came
  pub fed : (now : Stand) (left : Option (List ℕ)) (faults : ℕ) (more : List ℕ) (old new : Connection) → SameItems old new → new.shepherd ≡ record (old.shepherd) { received = old.shepherd.received ++ more }
      → old.shepherd.ended ≡ false → now.left ≡ prepended more left → now.read_faults ≤ faults
      → ((start : Start) (c : Course) → SiteServes start now c old.shepherd → SiteServes start now (record c { fed = c.fed ++ more }) (record (old.shepherd) { received = old.shepherd.received ++ more }))
      → Keeps now old → Keeps (record now { left = left; read_faults = faults }) new
  fed now left faults more old new same is unended read count on k =
      let c = k.course in
      let start = k.served.start in
      let later : Course = record c { fed = c.fed ++ more } in
      let next : Stand = record now { left = left; read_faults = faults } in
      record {
        course = later;
        served = record {
          start = start;
          parts_are = k.served.parts_are;
          boot_is = k.served.boot_is;
          come = came begun now next c later k.served.come refl refl refl refl refl refl k.served.come.words k.served.come.given count (omega arith) (omega arith);
          drew = k.served.drew;
          saw = record { spent = k.served.saw.spent; full = k.served.saw.full; counted = k.served.saw.counted };
          read = read_on begun.left now.left left c.fed more k.served.read read;
          ended = λ over. absurd (true≢false (sym over ∙ ap (λ (s : Shepherd ActionCall). s.ended) is ∙ unended));
          serves = subst (λ (s : Shepherd ActionCall). SiteServes start next later s) (sym is) (on start c k.served.serves);
        };
        writes = record { written = k.writes.written; items_are = k.writes.items_are ∙ sym same.items };
        heeds = heeds_to now.container.seen old new new.shepherd.stage same
            (still now.container.seen old.items.items old.stopped old.shepherd.stage new.shepherd.stage (ap (λ (s : Shepherd ActionCall). s.stage) is) k.heeds);
      }

  -- no more bytes come
  pub no_more : (now : Stand) (left : Option (List ℕ)) (faults : ℕ) (old new : Connection) → SameItems old new → new.shepherd ≡ record (old.shepherd) { ended = true }
      → now.left ≡ prepended [] left → now.read_faults ≤ faults → HasEnded left
      → ((start : Start) (c : Course) → SiteServes start now c old.shepherd → SiteServes start now c (record (old.shepherd) { ended = true }))
      → Keeps now old → Keeps (record now { left = left; read_faults = faults }) new
  no_more now left faults old new same is read count over on k =
      let c = k.course in
      let start = k.served.start in
      let next : Stand = record now { left = left; read_faults = faults } in
      record {
        course = c;
        served = record {
          start = start;
          parts_are = k.served.parts_are;
          boot_is = k.served.boot_is;
          come = came begun now next c c k.served.come refl refl refl refl refl refl k.served.come.words k.served.come.given count (omega arith) (omega arith);
          drew = k.served.drew;
          saw = record { spent = k.served.saw.spent; full = k.served.saw.full; counted = k.served.saw.counted };
          read = k.served.read ∙ ap (prepended c.fed) (read ∙ prepended_none left);
          ended = λ is. over;
          serves = subst (λ (s : Shepherd ActionCall). SiteServes start next c s) (sym is) (on start c k.served.serves);
        };
        writes = record { written = k.writes.written; items_are = k.writes.items_are ∙ sym same.items };
        heeds = heeds_to now.container.seen old new new.shepherd.stage same
            (still now.container.seen old.items.items old.stopped old.shepherd.stage new.shepherd.stage (ap (λ (s : Shepherd ActionCall). s.stage) is) k.heeds);
      }

  -- a stand with another left of the source, and another count of its faults, and nothing else done
  pub went_on : (now next : Stand) (old new : Connection) → SameItems old new → new.shepherd.ended ≡ old.shepherd.ended → next.container ≡ now.container → next.windows ≡ now.windows → next.words ≡ now.words → next.heard ≡ now.heard → next.given ≡ now.given → AreReached now.counts next.counts → now.left ≡ next.left
      → now.read_faults ≤ next.read_faults → now.write_faults ≤ next.write_faults → next.written ≡ now.written → now.moment ≤ next.moment
      → ((start : Start) (c : Course) → start.deployment ≡ site_parts → SiteServes start now c old.shepherd → SiteServes start next c new.shepherd)
      → (Heeds now.container.seen old.items.items old.stopped old.shepherd.stage → Heeds now.container.seen old.items.items old.stopped new.shepherd.stage)
      → Keeps now old → Keeps next new
  went_on now next old new same over container windows words heard given counts left reads writes written moment on heeds k =
      let c = k.course in
      let start = k.served.start in
      record {
        course = c;
        served = record {
          start = start;
          parts_are = k.served.parts_are;
          boot_is = k.served.boot_is;
          come = came begun now next c c k.served.come container refl windows refl heard refl (subst (λ (w : WordSeatValue). HasDrawnOn begun.words w) (sym words) k.served.come.words) (given ∙ k.served.come.given) reads writes moment;
          drew = subst (λ (w : WordSeatValue). w ≡ with_drawn begun.words c.drawn w.seen) (sym words) k.served.drew;
          saw = record {
            spent = subst (λ (w : WordSeatValue). All (λ (serial : ℕ). serial ≤ w.seen) c.looked) (sym words) k.served.saw.spent;
            full = subst (λ (w : SeatValue WindowMark). AllRefused w.seen c.full) (sym windows) k.served.saw.full;
            counted = reached_on (last_counts begun.counts c.items) now.counts next.counts k.served.saw.counted counts;
          };
          read = k.served.read ∙ ap (prepended c.fed) left;
          ended = λ is. subst (λ (l : Option (List ℕ)). HasEnded l) left (k.served.ended (sym over ∙ is));
          serves = on start c k.served.parts_are k.served.serves;
        };
        writes = record { written = written ∙ k.writes.written; items_are = k.writes.items_are ∙ sym same.items };
        heeds = subst (λ (s : SeatValue Event). Heeds s.seen new.items.items new.stopped new.shepherd.stage) (sym container) (heeds_to now.container.seen old new new.shepherd.stage same (heeds k.heeds));
      }

  -- the source failed
  pub read_failed : (now : Stand) (left : Option (List ℕ)) (faults : ℕ) (conn : Connection) → left ≡ now.left → Rose now.read_faults faults → now.read_faults ≤ faults → turn conn.shepherd ≡ turns.Bytes
      → Keeps now conn → Waits calls gives service begun (record now { left = left; read_faults = faults }) conn
  read_failed now left faults conn same rose count waits k =
      let c = k.course in
      let next : Stand = record now { left = left; read_faults = faults } in
      record {
        course = c;
        served = record {
          start = k.served.start;
          parts_are = k.served.parts_are;
          boot_is = k.served.boot_is;
          come = came begun now next c c k.served.come refl refl refl refl refl refl k.served.come.words k.served.come.given count (omega arith) (omega arith);
          drew = k.served.drew;
          saw = record { spent = k.served.saw.spent; full = k.served.saw.full; counted = k.served.saw.counted };
          read = k.served.read ∙ ap (prepended c.fed) (sym same);
          ended = λ is. subst (λ (l : Option (List ℕ)). HasEnded l) (sym same) (k.served.ended is);
          serves = k.served.serves;
        };
        writes = record { written = k.writes.written; items_are = k.writes.items_are };
        waits = waits;
        failed = rose_on begun.read_faults now.read_faults faults k.served.come.read_faults rose;
        heeds = k.heeds.running;
      }

  -- memory was wanted, and the stand is another
  pub wanted : (now next : Stand) (lost : List ℕ) (old new : Connection) → SameItems old new → next.container ≡ now.container → next.windows ≡ now.windows → HasDrawnOn now.words next.words → next.heard ≡ now.heard → next.given ≡ now.given → AreReached now.counts next.counts → now.left ≡ prepended lost next.left
      → now.read_faults ≤ next.read_faults → now.write_faults ≤ next.write_faults → next.written ≡ now.written → now.moment ≤ next.moment
      → ((start : Start) (c : Course) → SiteServes start now c old.shepherd → SiteServesSoFar start now.counts next c new.shepherd)
      → (Heeds now.container.seen old.items.items old.stopped old.shepherd.stage → Heeds now.container.seen old.items.items old.stopped new.shepherd.stage)
      → Keeps now old → WantsMemory calls gives service begun next new
  wanted now next lost old new same container windows words heard given counts left reads writes written moment on heeds k =
      let c = k.course in
      let start = k.served.start in
      record {
        course = c;
        start = start;
        starts = subst (λ (s : SeatValue Event). BeginsWith start s.seen) (sym container) (starts_with start now c old.shepherd k.served.serves);
        parts_are = k.served.parts_are;
        boot_is = k.served.boot_is;
        counts = now.counts;
        count_on = counts;
        come = came begun now next c c k.served.come container refl windows refl heard refl (drawn_on begun.words now.words next.words k.served.come.words words) (given ∙ k.served.come.given) reads writes moment;
        drew = drew_on begun.words now.words next.words c.drawn k.served.drew words;
        saw = record {
          spent = seen_on now.words.seen next.words.seen c.looked words.3 k.served.saw.spent;
          full = subst (λ (w : SeatValue WindowMark). AllRefused w.seen c.full) (sym windows) k.served.saw.full;
          counted = reached_on (last_counts begun.counts c.items) now.counts next.counts k.served.saw.counted counts;
        };
        lost = lost;
        read = read_on begun.left now.left next.left c.fed lost k.served.read left;
        serves = on start c k.served.serves;
        writes = record { written = written ∙ k.writes.written; items_are = k.writes.items_are ∙ sym same.items };
        heeds = subst (λ (s : SeatValue Event). Heeds s.seen new.items.items new.stopped new.shepherd.stage) (sym container) (heeds_to now.container.seen old new new.shepherd.stage same (heeds k.heeds));
      }

  -- the link made a call
  pub called : (now : Stand) (counts : LinkCounts) (from link after : L) (old new : Connection) → SameItems old new → new.shepherd.ended ≡ old.shepherd.ended → AreReached now.counts counts
      → ((start : Start) (c : Course) → SiteServes start now c old.shepherd
      → ServesCalling IsAccepted steps_of calls (λ (maker : SiteMaker). IsMadeOf) gives SeatLooks service start (began_at begun) now.container.seen counts now.moment c new.shepherd link after)
      → (Heeds now.container.seen old.items.items old.stopped old.shepherd.stage → Heeds now.container.seen old.items.items old.stopped new.shepherd.stage)
      → Made calls from now.heard link → Keeps now old → HasCalled calls from after (λ heard. Keeps (record now { counts = counts; heard = heard }) new)
  called now counts from link after old new same over reached on heeds leads k =
      let c = k.course in
      let start = k.served.start in
      let calling = on start c k.served.serves in
      record {
        heard = now.heard ++ calling.made;
        leads = joined calls from now.heard link calling.made after leads calling.leads;
        so = record {
          course = record c { heard = c.heard ++ calling.made };
          served = record {
            start = start;
            parts_are = k.served.parts_are;
            boot_is = k.served.boot_is;
            come = called_came begun now c counts calling.made k.served.come;
            drew = k.served.drew;
            saw = record { spent = k.served.saw.spent; full = k.served.saw.full; counted = reached_on (last_counts begun.counts c.items) now.counts counts k.served.saw.counted reached };
            read = k.served.read;
            ended = λ is. k.served.ended (sym over ∙ is);
            serves = calling.serves;
          };
          writes = record { written = k.writes.written; items_are = k.writes.items_are ∙ sym same.items };
          heeds = heeds_to now.container.seen old new new.shepherd.stage same (heeds k.heeds);
        };
      }

  -- the link was called, and memory was wanted
  pub call_wanted : (now : Stand) (counts : LinkCounts) (from link after : L) (old new : Connection) → SameItems old new → AreReached now.counts counts
      → ((start : Start) (c : Course) → SiteServes start now c old.shepherd
      → StopsCalling IsAccepted steps_of calls (λ (maker : SiteMaker). IsMadeOf) gives SeatLooks service start (began_at begun) now.container.seen now.counts now.moment c new.shepherd link after)
      → (Heeds now.container.seen old.items.items old.stopped old.shepherd.stage → Heeds now.container.seen old.items.items old.stopped new.shepherd.stage)
      → Made calls from now.heard link → Keeps now old → HasCalled calls from after (λ heard. WantsMemory calls gives service begun (record now { counts = counts; heard = heard }) new)
  call_wanted now counts from link after old new same reached on heeds leads k =
      let c = k.course in
      let start = k.served.start in
      let calling = on start c k.served.serves in
      record {
        heard = now.heard ++ calling.made;
        leads = joined calls from now.heard link calling.made after leads calling.leads;
        so = record {
          course = record c { heard = c.heard ++ calling.made };
          start = start;
          starts = starts_with start now c old.shepherd k.served.serves;
          parts_are = k.served.parts_are;
          boot_is = k.served.boot_is;
          counts = now.counts;
          count_on = reached;
          come = called_came begun now c counts calling.made k.served.come;
          drew = drew_just begun.words now.words c.drawn k.served.drew;
          saw = record { spent = k.served.saw.spent; full = k.served.saw.full; counted = reached_on (last_counts begun.counts c.items) now.counts counts k.served.saw.counted reached };
          lost = [];
          read = subst (λ (l : List ℕ). begun.left ≡ prepended l now.left) (sym (append-nil c.fed)) k.served.read;
          serves = calling.so_far;
          writes = record { written = k.writes.written; items_are = k.writes.items_are ∙ sym same.items };
          heeds = heeds_to now.container.seen old new new.shepherd.stage same (heeds k.heeds);
        };
      }

  -- a request was taken off the bytes
  pub took : (now : Stand) (words : WordSeatValue) (given : List ℕ) (moment : ℕ) (old new : Connection) (k : Keeps now old) (more : List Draw) (spent : Option ℕ) → new.items.items ≡ old.items.items → new.shepherd.ended ≡ old.shepherd.ended → HasDrawnOn now.words words
      → words ≡ with_drawn begun.words (k.course.drawn ++ more) words.seen → given ≡ begun.given ++ words_in (k.course.drawn ++ more) → All (λ (serial : ℕ). serial ≤ words.seen) (k.course.looked ++ option_to_list spent) → now.moment ≤ moment
      → SiteServes k.served.start (record now { moment = moment }) (record (k.course) { drawn = k.course.drawn ++ more; looked = k.course.looked ++ option_to_list spent }) new.shepherd
      → (Heeds now.container.seen old.items.items old.stopped old.shepherd.stage → Heeds now.container.seen old.items.items new.stopped new.shepherd.stage)
      → Keeps (record now { words = words; given = given; moment = moment }) new
  took now words given moment old new k more spent items over since drew gave seen rises serves heeds =
      let c = k.course in
      let start = k.served.start in
      let later : Course = record c { drawn = c.drawn ++ more; looked = c.looked ++ option_to_list spent } in
      let next : Stand = record now { words = words; given = given; moment = moment } in
      record {
        course = later;
        served = record {
          start = start;
          parts_are = k.served.parts_are;
          boot_is = k.served.boot_is;
          come = came begun now next c later k.served.come refl refl refl refl refl refl (drawn_on begun.words now.words words k.served.come.words since) gave (omega arith) (omega arith) rises;
          drew = drew;
          saw = record { spent = seen; full = k.served.saw.full; counted = k.served.saw.counted };
          read = k.served.read;
          ended = λ is. k.served.ended (sym over ∙ is);
          serves = serves;
        };
        writes = record { written = k.writes.written; items_are = k.writes.items_are ∙ sym items };
        heeds = subst (λ (l : List Item). Heeds now.container.seen l new.stopped new.shepherd.stage) (sym items) (heeds k.heeds);
      }

  -- one hold of the windows
  pub windows_held : (now : Stand) (seat : SeatValue WindowMark) (before after : WindowsValue) (old new : Connection) → SameItems old new → new.shepherd.ended ≡ old.shepherd.ended → HoldsWindows now.windows seat before after
      → ((start : Start) (c : Course) → SiteServes start now c old.shepherd → ServesAtWindows IsAccepted steps_of calls (λ (maker : SiteMaker). IsMadeOf) gives SeatLooks service start (began_at begun) now.container.seen now.counts now.moment c new.shepherd before after)
      → (Heeds now.container.seen old.items.items old.stopped old.shepherd.stage → Heeds now.container.seen old.items.items old.stopped new.shepherd.stage)
      → Keeps now old → Keeps (record now { windows = seat }) new
  windows_held now seat before after old new same over hold on heeds k =
      let c = k.course in
      let start = k.served.start in
      let leaves = on start c k.served.serves in
      record {
        course = record c { marks = c.marks ++ map uncounted leaves.added; full = c.full ++ option_to_list leaves.told };
        served = record {
          start = start;
          parts_are = k.served.parts_are;
          boot_is = k.served.boot_is;
          come = windows_came begun now c seat leaves.added (c.full ++ option_to_list leaves.told) k.served.come (held_on begun.windows now.windows seat k.served.come.marks before.history after.history leaves.added k.served.come.windows hold.hold leaves.grown);
          drew = k.served.drew;
          saw = record { spent = k.served.saw.spent; full = next_refused now.windows seat before after hold c.full leaves.told leaves.found k.served.saw.full; counted = k.served.saw.counted };
          read = k.served.read;
          ended = λ is. k.served.ended (sym over ∙ is);
          serves = leaves.serves;
        };
        writes = record { written = k.writes.written; items_are = k.writes.items_are ∙ sym same.items };
        heeds = heeds_to now.container.seen old new new.shepherd.stage same (heeds k.heeds);
      }

  pub windows_wanted : (now : Stand) (seat : SeatValue WindowMark) (before after : WindowsValue) (old new : Connection) → SameItems old new → HoldsWindows now.windows seat before after
      → ((start : Start) (c : Course) → SiteServes start now c old.shepherd → StopsLeaving IsAccepted steps_of calls (λ (maker : SiteMaker). IsMadeOf) gives SeatLooks service start (began_at begun) now.container.seen now.counts now.moment c new.shepherd before after)
      → (Heeds now.container.seen old.items.items old.stopped old.shepherd.stage → Heeds now.container.seen old.items.items old.stopped new.shepherd.stage)
      → Keeps now old → WantsMemory calls gives service begun (record now { windows = seat }) new
  windows_wanted now seat before after old new same hold on heeds k =
      let c = k.course in
      let start = k.served.start in
      let leaves = on start c k.served.serves in
      record {
        course = record c { marks = c.marks ++ map uncounted leaves.added };
        start = start;
        starts = starts_with start now c old.shepherd k.served.serves;
        parts_are = k.served.parts_are;
        boot_is = k.served.boot_is;
        counts = now.counts;
        count_on = reached_here now.counts;
        come = windows_came begun now c seat leaves.added c.full k.served.come (held_on begun.windows now.windows seat k.served.come.marks before.history after.history leaves.added k.served.come.windows hold.hold leaves.grown);
        drew = drew_just begun.words now.words c.drawn k.served.drew;
        saw = record { spent = k.served.saw.spent; full = hold_refused now.windows seat before after hold c.full k.served.saw.full; counted = k.served.saw.counted };
        lost = [];
        read = subst (λ (l : List ℕ). begun.left ≡ prepended l now.left) (sym (append-nil c.fed)) k.served.read;
        serves = leaves.so_far;
        writes = record { written = k.writes.written; items_are = k.writes.items_are ∙ sym same.items };
        heeds = heeds_to now.container.seen old new new.shepherd.stage same (heeds k.heeds);
      }

  -- one hold of the container
  pub container_held : (now : Stand) (seat : SeatValue Event) (before after : ContainerValue) (old new : Connection) → new.items.items ≡ old.items.items → new.shepherd.ended ≡ old.shepherd.ended → Holds now.container seat before after
      → ((start : Start) (c : Course) → SiteServes start now c old.shepherd → ServesAdding IsAccepted steps_of calls (λ (maker : SiteMaker). IsMadeOf) gives SeatLooks service start (began_at begun) before after now.counts now.moment c new.shepherd)
      → (Heeds (events_of after) old.items.items old.stopped old.shepherd.stage → Heeds (events_of after) old.items.items new.stopped new.shepherd.stage)
      → Keeps now old → Keeps (record now { container = seat }) new
  container_held now seat before after old new items over hold on heeds k =
      let c = k.course in
      let start = k.served.start in
      let adds = on start c k.served.serves in
      let later : Course = record c { own = c.own ++ adds.added } in
      let seen : seat.seen ≡ events_of after = held_seen now.container seat (events_of before) (events_of after) hold.hold in
      let longer : IsPrefix now.container.seen (events_of after) = prefix_trans now.container.seen (events_of before) (events_of after) hold.hold.begun hold.hold.grown in
      record {
        course = later;
        served = record {
          start = start;
          parts_are = k.served.parts_are;
          boot_is = k.served.boot_is;
          come = container_came begun now c seat adds.added k.served.come (held_on begun.container now.container seat c.own (events_of before) (events_of after) adds.added k.served.come.container hold.hold adds.grown);
          drew = k.served.drew;
          saw = record { spent = k.served.saw.spent; full = k.served.saw.full; counted = k.served.saw.counted };
          read = k.served.read;
          ended = λ is. k.served.ended (sym over ∙ is);
          serves = subst (λ (es : List Event). Serves IsAccepted steps_of calls (λ (maker : SiteMaker). IsMadeOf) gives SeatLooks service start (began_at begun) es now.counts now.moment later new.shepherd) (sym seen) adds.serves;
        };
        writes = record { written = k.writes.written; items_are = k.writes.items_are ∙ sym items };
        heeds = subst (λ (es : List Event). Heeds es new.items.items new.stopped new.shepherd.stage) (sym seen)
            (subst (λ (l : List Item). Heeds (events_of after) l new.stopped new.shepherd.stage) (sym items)
            (heeds (meanwhile now.container.seen (events_of after) old.items.items old.stopped old.shepherd.stage longer k.heeds)));
      }

  pub container_wanted : (now : Stand) (seat : SeatValue Event) (before after : ContainerValue) (old new : Connection) → SameItems old new → Holds now.container seat before after → after.since ≡ before.since
      → ((start : Start) (history : List Event) → IsPrefix now.container.seen history → (c : Course) → SiteServes start now c old.shepherd
      → ServesSoFar IsAccepted steps_of calls (λ (maker : SiteMaker). IsMadeOf) gives SeatLooks service start (began_at begun) history now.counts now.moment c new.shepherd)
      → (Heeds (events_of after) old.items.items old.stopped old.shepherd.stage → Heeds (events_of after) old.items.items old.stopped new.shepherd.stage)
      → Keeps now old → WantsMemory calls gives service begun (record now { container = seat }) new
  container_wanted now seat before after old new same hold nothing on heeds k =
      let c = k.course in
      let start = k.served.start in
      let seen : seat.seen ≡ events_of after = held_seen now.container seat (events_of before) (events_of after) hold.hold in
      let longer : IsPrefix now.container.seen (events_of after) = prefix_trans now.container.seen (events_of before) (events_of after) hold.hold.begun hold.hold.grown in
      let to_seen : IsPrefix now.container.seen seat.seen = subst (λ (es : List Event). IsPrefix now.container.seen es) (sym seen) longer in
      let first : BeginsWith start now.container.seen = starts_with start now c old.shepherd k.served.serves in
      let still : events_of after ≡ events_of before = ap (λ (x : Start). Started x ∷ after.since) hold.grown.boot.start ∙ ap (λ (es : List Event). Started before.boot.start ∷ es) nothing in
      record {
        course = c;
        start = start;
        starts = (first.0 ++ to_seen.0, sym to_seen.1 ∙ ap (λ (es : List Event). es ++ to_seen.0) first.1);
        parts_are = k.served.parts_are;
        boot_is = k.served.boot_is;
        counts = now.counts;
        count_on = reached_here now.counts;
        come = record {
          container = held_still begun.container now.container seat c.own (events_of before) (events_of after) k.served.come.container hold.hold still;
          marks = k.served.come.marks;
          marks_are = k.served.come.marks_are;
          windows = k.served.come.windows;
          words = k.served.come.words;
          heard = k.served.come.heard;
          given = k.served.come.given;
          read_faults = k.served.come.read_faults;
          write_faults = k.served.come.write_faults;
          moment = k.served.come.moment;
        };
        drew = drew_just begun.words now.words c.drawn k.served.drew;
        saw = record { spent = k.served.saw.spent; full = k.served.saw.full; counted = k.served.saw.counted };
        lost = [];
        read = subst (λ (l : List ℕ). begun.left ≡ prepended l now.left) (sym (append-nil c.fed)) k.served.read;
        serves = on start seat.seen to_seen c k.served.serves;
        writes = record { written = k.writes.written; items_are = k.writes.items_are ∙ sym same.items };
        heeds = subst (λ (es : List Event). Heeds es new.items.items new.stopped new.shepherd.stage) (sym seen)
            (heeds_to (events_of after) old new new.shepherd.stage same
            (heeds (meanwhile now.container.seen (events_of after) old.items.items old.stopped old.shepherd.stage longer k.heeds)));
      }

  -- a response was put out, and written whole
  pub put : (now : Stand) (written : Option (List ℕ)) (faults : ℕ) (bytes : List ℕ) (old new : Connection) → SameItems old new → new.shepherd.ended ≡ old.shepherd.ended → written ≡ appended now.written bytes → now.write_faults ≤ faults
      → ((start : Start) (c : Course) → SiteServes start now c old.shepherd → SiteServes start now (record c { written = c.written ++ bytes }) new.shepherd)
      → (Heeds now.container.seen old.items.items old.stopped old.shepherd.stage → Heeds now.container.seen old.items.items old.stopped new.shepherd.stage)
      → Keeps now old → Keeps (record now { written = written; write_faults = faults }) new
  put now written faults bytes old new same over is count on heeds k =
      let c = k.course in
      let start = k.served.start in
      let later : Course = record c { written = c.written ++ bytes } in
      let next : Stand = record now { written = written; write_faults = faults } in
      record {
        course = later;
        served = record {
          start = start;
          parts_are = k.served.parts_are;
          boot_is = k.served.boot_is;
          come = came begun now next c later k.served.come refl refl refl refl refl refl k.served.come.words k.served.come.given (omega arith) count (omega arith);
          drew = k.served.drew;
          saw = record { spent = k.served.saw.spent; full = k.served.saw.full; counted = k.served.saw.counted };
          read = k.served.read;
          ended = λ is. k.served.ended (sym over ∙ is);
          serves = on start c k.served.serves;
        };
        writes = record { written = written_on begun.written now.written written c.written bytes k.writes.written is; items_are = k.writes.items_are ∙ sym same.items };
        heeds = heeds_to now.container.seen old new new.shepherd.stage same (heeds k.heeds);
      }

  -- a part of it was written
  pub broke : (now : Stand) (written : Option (List ℕ)) (faults : ℕ) (bytes : List ℕ) (old new : Connection) → SameItems old new → new.shepherd.ended ≡ old.shepherd.ended → AppendsPrefix now.written written bytes → Rose now.write_faults faults → now.write_faults ≤ faults
      → HasLeftAll new.shepherd.stage
      → ((start : Start) (c : Course) → SiteServes start now c old.shepherd → SiteServes start now (record c { written = c.written ++ bytes }) new.shepherd)
      → (Heeds now.container.seen old.items.items old.stopped old.shepherd.stage → Heeds now.container.seen old.items.items old.stopped new.shepherd.stage)
      → Keeps now old → BreaksOff calls gives service begun (record now { written = written; write_faults = faults }) new
  broke now written faults bytes old new same over part rose count left on heeds k =
      let c = k.course in
      let start = k.served.start in
      let later : Course = record c { written = c.written ++ bytes } in
      let next : Stand = record now { written = written; write_faults = faults } in
      record {
        course = later;
        served = record {
          start = start;
          parts_are = k.served.parts_are;
          boot_is = k.served.boot_is;
          come = came begun now next c later k.served.come refl refl refl refl refl refl k.served.come.words k.served.come.given (omega arith) count (omega arith);
          drew = k.served.drew;
          saw = record { spent = k.served.saw.spent; full = k.served.saw.full; counted = k.served.saw.counted };
          read = k.served.read;
          ended = λ is. k.served.ended (sym over ∙ is);
          serves = on start c k.served.serves;
        };
        written = prefix_more begun.written now.written written c.written bytes k.writes.written part;
        failed = rose_on begun.write_faults now.write_faults faults k.served.come.write_faults rose;
        items_are = k.writes.items_are ∙ sym same.items;
        left = left;
        heeds = heeds_to now.container.seen old new new.shepherd.stage same (heeds k.heeds);
      }
