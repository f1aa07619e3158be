-- Where a call stands with all that it serves a connection over.
use Rattle.std.specs.Prelude.{◌≡◌, ◌≢◌, ◌≤◌, ℕ, false, List, [], ◌∷◌, ◌++◌, All, map, filter, not, Option, Some, None}
use Rattle.atomic_table.specs.Seated.{TableId}
use Rattle.container_core.specs.declared.history.Event.{Event}
use Rattle.outcome_items.specs.Traces.{uncounted}
use Rattle.outside.specs.Link.{Made, Tally}
use Rattle.outside.specs.declared.link.LinkCounts.{LinkCounts}
use Rattle.outside.specs.declared.link.LinkEvent.{LinkEvent}
use Rattle.request_decisions.specs.Draws.{is_serial}
use Rattle.request_decisions.specs.declared.draws.Draw.{Draw}
use Rattle.request_intake.specs.Intakes.{Gives, serials_in}
use Rattle.request_visit.specs.Stepping.{counted}
use Rattle.send_windows.specs.declared.history.WindowMark.{WindowMark}
use Rattle.served_connections.specs.Courses.{Begun, Course, begun_behind}
use Rattle.served_items.specs.Counting.{AreReached, last_counts}
use Rattle.shared_words.specs.Words.{WordSeatValue}
use Rattle.turn_lock.specs.Seats.{SeatValue}
use Rattle.seat_serials.specs.Drawing.{HasDrawnOn}
use Rattle.connection_server.specs.Refusing.{AllRefused}
use Rattle.connection_server.specs.Seats.{HasAdded}
use Rattle.connection_server.specs.declared.served.ServedEnd.{ServedEnd}
use Rattle.connection_server.specs.declared.served.ServedEnd.TheVariants.{OutOfMemory}

-- Where a call stands: its seats of the container, of the windows and of the words; what its source has left, where it
-- tells, and how often it has failed; what was written to its sink, where that tells, and how often it has failed; what
-- its link has counted, and which calls of it were made since the call began; which words its random source has given
-- since then; and the last moment of its clock.
pub record Stand : Type 0 where
  pub container : SeatValue Event
  pub windows : SeatValue WindowMark
  pub words : WordSeatValue
  pub left : Option (List ℕ)
  pub read_faults : ℕ
  pub written : Option (List ℕ)
  pub write_faults : ℕ
  pub counts : LinkCounts
  pub heard : List LinkEvent
  pub given : List ℕ
  pub moment : ℕ

-- the stand of these, where no call of the link was made and no word was given
abbrev pub stand_of : SeatValue Event → SeatValue WindowMark → WordSeatValue → Option (List ℕ) → ℕ → Option (List ℕ) → ℕ → Tally → ℕ → Stand
stand_of container windows words left read_faults written write_faults tally moment = record {
  container = container;
  windows = windows;
  words = words;
  left = left;
  read_faults = read_faults;
  written = written;
  write_faults = write_faults;
  counts = counted tally;
  heard = [];
  given = [];
  moment = moment;
}

-- where a connection begins that is served from a stand on
abbrev pub began_at : Stand → Begun
began_at begun = begun_behind begun.container.seen begun.moment begun.counts

-- a seat of words with which the serial numbers among these were drawn
abbrev pub with_drawn : WordSeatValue → List Draw → ℕ → WordSeatValue
with_drawn seat drawn seen = record seat { drawn = seat.drawn ++ serials_in drawn; seen = seen }

-- the random words among what was drawn, in order
abbrev pub words_in : List Draw → List ℕ
words_in drawn = map (λ (d : Draw). d.number) (filter (λ (d : Draw). not (is_serial d.kind)) drawn)

-- A call has come from one stand to another on the course of its connection: it has added the events of the course to
-- the history of the container, and left its marks in that of the windows; and it has done no more with its seat of
-- words than to draw, has made the calls of the course, and was given the random words of it, in order, and no others.
pub record HasCome (begun now : Stand) (c : Course) : Type 0 where
  pub container : HasAdded begun.container now.container c.own
  pub marks : List WindowMark
  pub marks_are : c.marks ≡ map uncounted marks
  pub windows : HasAdded begun.windows now.windows marks
  pub words : HasDrawnOn begun.words now.words
  pub heard : now.heard ≡ begun.heard ++ c.heard
  pub given : now.given ≡ begun.given ++ words_in c.drawn
  pub read_faults : begun.read_faults ≤ now.read_faults
  pub write_faults : begun.write_faults ≤ now.write_faults
  pub moment : begun.moment ≤ now.moment

-- A call has seen what its course tells of: its seat of words each serial number that was found spent, its seat of the
-- windows each refusal, and its link has counted as much as the items tell.
pub record HasSeen (begun now : Stand) (c : Course) : Type 0 where
  pub spent : All (λ (serial : ℕ). serial ≤ now.words.seen) c.looked
  pub full : AllRefused now.windows.seen c.full
  pub counted : AreReached (last_counts begun.counts c.items) now.counts

-- The serial numbers of a course were drawn with a seat of words, and perhaps more behind them.
abbrev pub DrewAtLeast : WordSeatValue → List Draw → WordSeatValue → Type 0
DrewAtLeast begun drawn now = (more : List ℕ) × (now.drawn ≡ begun.drawn ++ (serials_in drawn ++ more))

-- These calls of a link lead from where it was to where it is, and this is so with them.
pub record HasCalled {L : Type 0} (calls : L → LinkEvent → L → Type 0) (from to : L) (So : List LinkEvent → Type 0) : Type 0 where
  pub heard : List LinkEvent
  pub leads : Made calls from heard to
  pub so : So heard

-- A random source gives these words in a row, from the one state to the other.
abbrev pub GivesAll : {R : Type 0} → Gives R → R → List ℕ → R → Type 0
GivesAll gives from [] to = from ≡ to
GivesAll {R} gives from (word ∷ words) to = (next : R) × gives from word next × GivesAll gives next words to

-- A random source gave these words from where it was, and this is so with them. It is where they lead to, unless the
-- call ended for want of memory: then words that it gave behind them may be lost.
pub record HasGiven {R : Type 0} (gives : Gives R) (from to : R) (end : Option ServedEnd) (So : List ℕ → Type 0) : Type 0 where
  pub given : List ℕ
  pub reached : R
  pub leads : GivesAll gives from given reached
  pub stays : end ≢ Some OutOfMemory → reached ≡ to
  pub so : So given

-- a seat of no lock, and of no words, and the stand of such a call
abbrev pub no_table : TableId
no_table = record { words = 0; slots = 0; views_name = 0; atom = 0; block = 0; offset = 0; slot_names = [] }

abbrev pub no_seat : {E : Type 0} → SeatValue E
no_seat = record { lock = no_table; parts = 0; holds = false; seen = []; own = [] }

abbrev pub nowhere : Stand
nowhere = record {
  container = no_seat;
  windows = no_seat;
  words = record { words = no_table; parts = 0; drawn = []; seen = 0; sights = [] };
  left = None;
  read_faults = 0;
  written = None;
  write_faults = 0;
  counts = record { hushed = 0; got = 0 };
  heard = [];
  given = [];
  moment = 0;
}
