-- A connection of the site that a call serves, at each of its turns.
use Rattle.std.specs.Prelude.{◌≡◌, ◌++◌, ℕ, true, List, [], Option, Some, None}
use Rattle.auction_calls.specs.Calls.{is_call}
use Rattle.auction_calls.specs.declared.action.ActionCall.{ActionCall}
use Rattle.auction_rows.specs.Parts.{site_parts}
use Rattle.auction_site.specs.Actions.{steps_of}
use Rattle.boot_core.specs.declared.boot.Start.{Start}
use Rattle.deployment.specs.declared.parts.Parts.{Parts}
use Rattle.outside.specs.Faults.{Rose}
use Rattle.outside.specs.Sink.{AppendsPrefix, appended}
use Rattle.outside.specs.Source.{HasEnded, prepended}
use Rattle.outside.specs.declared.link.LinkCounts.{LinkCounts}
use Rattle.outside.specs.declared.link.LinkEvent.{LinkEvent}
use Rattle.request_intake.specs.Intakes.{Gives}
use Rattle.request_intake.specs.declared.intake.HomeBoot.{HomeBoot}
use Rattle.served_connections.specs.Courses.{Course}
use Rattle.served_connections.specs.Resting.{HasLeftAll, Rests, last_at}
use Rattle.served_connections.specs.Serving.{Serves}
use Rattle.served_connections.specs.Stopping.{ServesSoFar}
use Rattle.seat_serials.specs.Drawing.{SeatLooks}
use Rattle.served_items.specs.Attributing.{Service}
use Rattle.served_items.specs.Counting.{AreReached}
use Rattle.shepherd.specs.Shepherds.{turn}
use Rattle.shepherd.specs.declared.shepherd.EndKind.{EndKind}
use Rattle.shepherd.specs.declared.shepherd.EndKind.TheVariants as ends
use Rattle.shepherd.specs.declared.shepherd.Shepherd.{Shepherd}
use Rattle.shepherd.specs.declared.shepherd.ShepherdTurn.TheVariants as turns
use Rattle.site_programs.specs.Errands.{IsMadeOf}
use Rattle.site_programs.specs.declared.maker.SiteMaker.{SiteMaker}
use Rattle.connection_server.specs.Closing.{EndsBy, LastStaysOpen}
use Rattle.connection_server.specs.Heeding.{Heeds, LastStopped, NoneStopped}
use Rattle.connection_server.specs.Seats.{BeginsWith}
use Rattle.connection_server.specs.Stands.{DrewAtLeast, HasCome, HasSeen, Stand, began_at, with_drawn}
use Rattle.connection_server.specs.declared.connection.Connection.{Connection}
use Rattle.connection_server.specs.declared.served.ServedEnd.{ServedEnd}
use Rattle.connection_server.specs.declared.served.ServedEnd.TheVariants.{Closed, Cut, Refused, Stopped, ReadFault, WriteFault, OutOfMemory}

-- what requests of the site are served by
abbrev pub service_of : List ℕ → HomeBoot → Service SiteMaker
service_of key home = record { key = key; home = home; maker = record {} }

-- what the site's deployment accepts: a call whose fields are in their ranges
abbrev pub IsAccepted : ActionCall → Parts → Type 0
IsAccepted call parts = (parts ≡ site_parts) × (is_call call ≡ true)

module _ {L R : Type 0} (calls : L → LinkEvent → L → Type 0) (gives : Gives R) (service : Service SiteMaker) (begun : Stand) where
  -- A connection is served, in a container of the site: the call has come this far, has drawn the numbers of the
  -- course with its seat of words, has seen what that tells of, and has read what was fed; and where no more is to be
  -- read, the source has nothing left.
  pub record IsServed (now : Stand) (c : Course) (s : Shepherd ActionCall) : Type 0 where
    pub start : Start
    pub parts_are : start.deployment ≡ site_parts
    pub boot_is : start.boot ≡ service.home.boot
    pub come : HasCome begun now c
    pub drew : now.words ≡ with_drawn begun.words c.drawn now.words.seen
    pub saw : HasSeen begun now c
    pub read : begun.left ≡ prepended c.fed now.left
    pub ended : s.ended ≡ true → HasEnded now.left
    pub serves : Serves IsAccepted steps_of calls (λ (maker : SiteMaker). IsMadeOf) gives SeatLooks service start (began_at begun) now.container.seen now.counts now.moment c s

  -- What was put out was written, and the items are those of the course.
  pub record IsWritten (now : Stand) (c : Course) (conn : Connection) : Type 0 where
    pub written : now.written ≡ appended begun.written c.written
    pub items_are : c.items ≡ conn.items.items

  -- A connection goes on being served, in a container that was not stopped for an item.
  pub record KeepsServing (now : Stand) (conn : Connection) : Type 0 where
    pub course : Course
    pub served : IsServed now course conn.shepherd
    pub writes : IsWritten now course conn
    pub heeds : Heeds now.container.seen conn.items.items conn.stopped conn.shepherd.stage

  -- A connection came to its end.
  pub record ComesToEnd (end : EndKind) (now : Stand) (conn : Connection) : Type 0 where
    pub course : Course
    pub served : IsServed now course conn.shepherd
    pub writes : IsWritten now course conn
    pub ended : turn conn.shepherd ≡ turns.Ended end
    pub heeds : EndsBy end now.left course.fed now.container.seen conn.items.items

  -- A connection stops behind an item that the container was stopped for, and whose request does not close it.
  pub record StopsOpen (now : Stand) (conn : Connection) : Type 0 where
    pub course : Course
    pub served : IsServed now course conn.shepherd
    pub writes : IsWritten now course conn
    pub rests : Rests conn.shepherd.stage
    pub nothing : last_at conn.shepherd.stage ≡ []
    pub heeds : LastStopped now.container.seen conn.items.items
    pub stays : LastStaysOpen course.fed conn.items.items

  -- A connection waits for bytes, and the source failed.
  pub record Waits (now : Stand) (conn : Connection) : Type 0 where
    pub course : Course
    pub served : IsServed now course conn.shepherd
    pub writes : IsWritten now course conn
    pub waits : turn conn.shepherd ≡ turns.Bytes
    pub failed : Rose begun.read_faults now.read_faults
    pub heeds : NoneStopped now.container.seen conn.items.items

  -- A response was put out, and a part of it was written.
  pub record BreaksOff (now : Stand) (conn : Connection) : Type 0 where
    pub course : Course
    pub served : IsServed now course conn.shepherd
    pub written : AppendsPrefix begun.written now.written course.written
    pub failed : Rose begun.write_faults now.write_faults
    pub items_are : course.items ≡ conn.items.items
    pub left : HasLeftAll conn.shepherd.stage
    pub heeds : Heeds now.container.seen conn.items.items conn.stopped conn.shepherd.stage

  -- Memory was wanted: bytes that were read and numbers that were drawn may be lost. The link had counted so much when
  -- it was wanted.
  pub record WantsMemory (now : Stand) (conn : Connection) : Type 0 where
    pub course : Course
    pub start : Start
    pub starts : BeginsWith start now.container.seen
    pub parts_are : start.deployment ≡ site_parts
    pub boot_is : start.boot ≡ service.home.boot
    pub counts : LinkCounts
    pub count_on : AreReached counts now.counts
    pub come : HasCome begun now course
    pub drew : DrewAtLeast begun.words course.drawn now.words
    pub saw : HasSeen begun now course
    pub lost : List ℕ
    pub read : begun.left ≡ prepended (course.fed ++ lost) now.left
    pub serves : ServesSoFar IsAccepted steps_of calls (λ (maker : SiteMaker). IsMadeOf) gives SeatLooks service start (began_at begun) now.container.seen counts now.moment course conn.shepherd
    pub writes : IsWritten now course conn
    pub heeds : Heeds now.container.seen conn.items.items conn.stopped conn.shepherd.stage

  -- How a connection comes to an end.
  abbrev pub Ends : ServedEnd → Stand → Connection → Type 0
  Ends Closed now conn = ComesToEnd ends.Closed now conn
  Ends Cut now conn = ComesToEnd ends.Cut now conn
  Ends (Refused why) now conn = ComesToEnd (ends.Refused why) now conn
  Ends Stopped now conn = StopsOpen now conn
  Ends ReadFault now conn = Waits now conn
  Ends WriteFault now conn = BreaksOff now conn
  Ends OutOfMemory now conn = WantsMemory now conn

  -- What comes of a turn: the connection goes on being served, or comes to an end.
  abbrev pub ComesTo : Option ServedEnd → Stand → Connection → Type 0
  ComesTo None now conn = KeepsServing now conn
  ComesTo (Some end) now conn = Ends end now conn
