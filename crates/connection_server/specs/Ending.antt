-- What a call has served over its connection, at its end.
use Rattle.std.specs.Prelude.{◌≡◌, ◌⊎◌, ◌++◌, ℕ, List, [], Some}
use Rattle.auction_rows.specs.Parts.{site_parts}
use Rattle.auction_site.specs.Actions.{steps_of}
use Rattle.boot_core.specs.declared.boot.Start.{Start}
use Rattle.outcome_items.specs.declared.item.Item.{Item}
use Rattle.outside.specs.Faults.{Rose}
use Rattle.outside.specs.Sink.{AppendsPrefix, appended}
use Rattle.outside.specs.Source.{prepended}
use Rattle.outside.specs.declared.link.LinkEvent.{LinkEvent}
use Rattle.request_intake.specs.Intakes.{Gives}
use Rattle.served_connections.specs.Courses.{Course}
use Rattle.served_connections.specs.Telling.{HasEnded, HasServedWhole, HasStopped}
use Rattle.served_items.specs.Attributing.{Service}
use Rattle.shepherd.specs.Standing.{last_front}
use Rattle.shepherd.specs.declared.shepherd.EndKind.{EndKind}
use Rattle.shepherd.specs.declared.shepherd.EndKind.TheVariants as ends
use Rattle.site_programs.specs.Errands.{IsMadeOf}
use Rattle.site_programs.specs.declared.maker.SiteMaker.{SiteMaker}
use Rattle.site_responses.specs.declared.answer.Untaken.{Untaken}
use Rattle.seat_serials.specs.Drawing.{SeatLooks}
use Rattle.connection_server.specs.Closing.{EndsBy, LastStaysOpen}
use Rattle.connection_server.specs.Heeding.{AtMostLastStopped, LastStopped, NoneStopped}
use Rattle.connection_server.specs.Seats.{BeginsWith}
use Rattle.connection_server.specs.Stands.{DrewAtLeast, HasCalled, HasCome, HasGiven, HasSeen, Stand, began_at, with_drawn}
use Rattle.connection_server.specs.declared.served.Served.{Served}
use Rattle.connection_server.specs.declared.served.ServedEnd.{ServedEnd}
use Rattle.connection_server.specs.declared.served.ServedEnd.TheVariants.{Closed, Cut, Refused, Stopped, ReadFault, WriteFault, OutOfMemory}

module _ {L R : Type 0} (calls : L → LinkEvent → L → Type 0) (gives : Gives R) (service : Service SiteMaker) (begun now : Stand) where
  -- All that a course put out was written.
  abbrev pub WroteAll : Course → Type 0
  WroteAll c = now.written ≡ appended begun.written c.written

  -- Just the bytes of a course were read, just its numbers were drawn, and what it tells of was seen.
  pub record HasTakenAll (c : Course) : Type 0 where
    pub read : begun.left ≡ prepended c.fed now.left
    pub drew : now.words ≡ with_drawn begun.words c.drawn now.words.seen
    pub saw : HasSeen begun now c

  module _ (start : Start) (c : Course) where
    -- the first requests of the bytes were served
    abbrev pub FirstServed : Type 0
    FirstServed = HasServedWhole steps_of calls (λ (maker : SiteMaker). IsMadeOf) gives SeatLooks service start (began_at begun) now.container.seen now.moment c []

    -- all requests of the bytes were served, and the bytes ended so
    abbrev pub AllServed : EndKind → Type 0
    AllServed end = HasEnded steps_of calls (λ (maker : SiteMaker). IsMadeOf) gives SeatLooks service start (began_at begun) now.container.seen now.moment c end

    -- All requests of the bytes were served, which ended so, and all was written.
    pub record HasServedAllOf (end : EndKind) : Type 0 where
      pub ended : AllServed end
      pub wrote : WroteAll c
      pub took : HasTakenAll c

    -- The connection came to its end by itself.
    pub record HasComeToEnd (end : EndKind) : Type 0 where
      pub all : HasServedAllOf end
      pub by : EndsBy end now.left c.fed now.container.seen c.items

    -- The container was stopped: the first requests of the bytes were served, up to the one that found it so.
    pub record HasHeededStop : Type 0 where
      pub first : FirstServed
      pub wrote : WroteAll c
      pub took : HasTakenAll c
      pub stopped : LastStopped now.container.seen c.items
      pub stays : LastStaysOpen c.fed c.items

    -- The source failed: all requests of the bytes that were read were served.
    pub record HasReadAll : Type 0 where
      pub all : HasServedAllOf ends.Closed ⊎ HasServedAllOf ends.Cut
      pub failed : Rose begun.read_faults now.read_faults
      pub running : NoneStopped now.container.seen c.items

    -- The sink failed: the first requests of the bytes were served, or all of them, with what followed refused; and a
    -- part of what was put out was written.
    pub record HasBrokenOff : Type 0 where
      pub served : FirstServed ⊎ ((why : Untaken) × AllServed (ends.Refused why))
      pub wrote : AppendsPrefix begun.written now.written c.written
      pub failed : Rose begun.write_faults now.write_faults
      pub took : HasTakenAll c
      pub heeds : AtMostLastStopped now.container.seen c.items

    -- Memory was wanted: the first requests of the bytes were served, and something may have been done for one more;
    -- and bytes that were read and numbers that were drawn may be lost.
    pub record HasWantedMemory : Type 0 where
      pub lost : List ℕ
      pub read : begun.left ≡ prepended (c.fed ++ lost) now.left
      pub drew : DrewAtLeast begun.words c.drawn now.words
      pub saw : HasSeen begun now c
      pub stopped : HasStopped steps_of calls (λ (maker : SiteMaker). IsMadeOf) gives SeatLooks service start (began_at begun) now.container.seen now.moment c
      pub wrote : WroteAll c
      pub heeds : AtMostLastStopped now.container.seen c.items

    -- What was served, by how the call ended.
    abbrev pub ServedBy : ServedEnd → Type 0
    ServedBy Closed = HasComeToEnd ends.Closed
    ServedBy Cut = HasComeToEnd ends.Cut
    ServedBy (Refused why) = HasComeToEnd (ends.Refused why)
    ServedBy Stopped = HasHeededStop
    ServedBy ReadFault = HasReadAll
    ServedBy WriteFault = HasBrokenOff
    ServedBy OutOfMemory = HasWantedMemory

  -- These items were served on a course, over which a call has come from where it began to where it stands now, in a
  -- container of the site. What its serial numbers were drawn with is its seat of words, and its random words were
  -- given by the source of the call.
  pub record HasServedItems (items : List Item) (end : ServedEnd) : Type 0 where
    pub course : Course
    pub start : Start
    pub starts : BeginsWith start now.container.seen
    pub parts_are : start.deployment ≡ site_parts
    pub boot_is : start.boot ≡ service.home.boot
    pub come : HasCome begun now course
    pub items_are : items ≡ course.items
    pub served : ServedBy start course end

-- A call has served its connection, made the calls of its link that lead from where that was to where it is, and drawn
-- the words of its random source likewise.
pub record HasServedConnection {L R : Type 0} (calls : L → LinkEvent → L → Type 0) (from to : L) (gives : Gives R) (first last : R) (service : Service SiteMaker) (begun now : Stand) (told : Served) : Type 0 where
  pub served : HasCalled calls from to (λ heard.
      HasGiven gives first last (Some told.ended) (λ given.
      HasServedItems calls gives service begun (record now { heard = heard; given = given }) told.items told.ended))
  pub front_is : told.front ≡ last_front (record { 0 = 0 }) told.items
