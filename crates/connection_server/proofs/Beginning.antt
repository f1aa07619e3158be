-- A connection that a call begins to serve.
use Rattle.std.proofs.Common.{◌≡◌, append-nil, inl, ℕ, ◌≤◌, false, List, [], ◌∷◌, arith, refl, sym, ap, ◌∙◌, subst, true≢false}
use Rattle.std.proofs.lemmas.List.Elements.{All-nil}
use Rattle.std.specs.Prelude.{length}
use Rattle.auction_calls.specs.declared.action.ActionCall.{ActionCall}
use Rattle.auction_rows.specs.Parts.{site_parts}
use Rattle.auction_site.specs.Actions.{steps_of}
use Rattle.boot_core.specs.declared.boot.Start.{Start}
use Rattle.container_core.specs.Container.{ContainerValue, events_of}
use Rattle.container_core.specs.declared.history.Event.{Event}
use Rattle.container_core.specs.declared.history.Event.TheVariants.{Added, KeeperFailed, Started, Stopped}
use Rattle.outcome_items.specs.declared.item.Item.{Item}
use Rattle.outside.specs.declared.link.LinkEvent.{LinkEvent}
use Rattle.request_intake.specs.Intakes.{Gives}
use Rattle.request_intake.specs.declared.intake.HomeBoot.{HomeBoot}
use Rattle.send_windows.specs.declared.fact.WindowFact.{WindowFact}
use Rattle.send_windows.specs.declared.history.WindowMark.{WindowMark}
use Rattle.send_windows.specs.declared.history.WindowMark.TheVariants as mark
use Rattle.served_connections.specs.Courses.{no_course}
use Rattle.served_connections.specs.Serving.{Serves}
use Rattle.served_connections.specs.Telling.{HasServedWhole}
use Rattle.served_items.specs.Attributing.{Service}
use Rattle.shepherd.specs.Shepherds.{fresh}
use Rattle.shepherd.specs.declared.shepherd.Shepherd.{Shepherd}
use Rattle.shepherd.specs.declared.shepherd.Stage.{Stage}
use Rattle.site_programs.specs.Errands.{IsMadeOf}
use Rattle.site_programs.specs.declared.maker.SiteMaker.{SiteMaker}
use Rattle.seat_serials.specs.Drawing.{SeatLooks}
use Rattle.connection_server.specs.Ending.{HasServedItems}
use Rattle.connection_server.specs.Heeding.{NoneStopped, StageHeeds, WasFound}
use Rattle.connection_server.specs.Refusing.{WereRefused}
use Rattle.connection_server.specs.Seats.{BeginsWith, IsOfSite}
use Rattle.site_locks.specs.Holds.{Tells}
use Rattle.connection_server.specs.Serving.{IsAccepted, KeepsServing, service_of}
use Rattle.connection_server.specs.Stands.{HasCome, HasSeen, Stand, began_at}
use Rattle.connection_server.specs.declared.connection.Connection.{Connection}
use Rattle.connection_server.specs.declared.served.ServedEnd.TheVariants.{OutOfMemory}
use Rattle.connection_server.proofs.Drawn.{drawn_none, drew_just, drew_none}
use Rattle.connection_server.proofs.Growing.{added_none}
use Rattle.outside.proofs.Prefixes.{appended_none, prepended_none}
use Rattle.connection_server.proofs.Seen.{reached_here}

come_none : (begun : Stand) → begun.container.holds ≡ false → begun.windows.holds ≡ false → HasCome begun begun no_course
come_none begun home windows_home = record {
  container = added_none begun.container home;
  marks = [];
  marks_are = refl;
  windows = added_none begun.windows windows_home;
  words = drawn_none begun.words;
  heard = sym (append-nil begun.heard);
  given = sym (append-nil begun.given);
  read_faults = omega arith;
  write_faults = omega arith;
  moment = omega arith;
}

module _ {L R : Type 0} (calls : L → LinkEvent → L → Type 0) (gives : Gives R) (service : Service SiteMaker) (begun : Stand) (home : begun.container.holds ≡ false) (windows_home : begun.windows.holds ≡ false)
    (site : IsOfSite service.home begun.container.seen) where
  saw_none : HasSeen begun begun no_course
  saw_none = record { spent = All-nil (λ (serial : ℕ). serial ≤ begun.words.seen); full = All-nil (λ (full : List WindowFact). WereRefused begun.windows.seen full); counted = reached_here begun.counts }

  pub begins : (conn : Connection) → conn.shepherd ≡ fresh → conn.items.items ≡ [] → conn.stopped ≡ false
      → Serves IsAccepted steps_of calls (λ (maker : SiteMaker). IsMadeOf) gives SeatLooks service site.container.boot.start (began_at begun) begun.container.seen begun.counts begun.moment no_course fresh
      → KeepsServing calls gives service begun begun conn
  begins conn is none stopped serves = record {
    course = no_course;
    served = record {
      start = site.container.boot.start;
      parts_are = site.parts_are;
      boot_is = site.boot_is;
      come = come_none begun home windows_home;
      drew = drew_none begun.words;
      saw = saw_none;
      read = sym (prepended_none begun.left);
      ended = λ over. absurd (true≢false (sym over ∙ ap (λ (s : Shepherd ActionCall). s.ended) is));
      serves = subst (λ (s : Shepherd ActionCall). Serves IsAccepted steps_of calls (λ (maker : SiteMaker). IsMadeOf) gives SeatLooks service site.container.boot.start (began_at begun) begun.container.seen begun.counts begun.moment no_course s) (sym is) serves;
    };
    writes = record { written = sym (appended_none begun.written); items_are = sym none };
    heeds = record {
      running = subst (λ (is : List Item). NoneStopped begun.container.seen is) (sym none) (All-nil (λ (i : Item). WasFound begun.container.seen i.holds false));
      is_open = subst (λ (x : Stage ActionCall). StageHeeds begun.container.seen conn.stopped x) (sym (ap (λ (s : Shepherd ActionCall). s.stage) is)) tt;
    };
  }

  -- where it could not begin, for want of memory, nothing was served
  pub unbegun : HasServedWhole steps_of calls (λ (maker : SiteMaker). IsMadeOf) gives SeatLooks service site.container.boot.start (began_at begun) begun.container.seen begun.moment no_course []
      → HasServedItems calls gives service begun begun [] OutOfMemory
  unbegun whole = record {
    course = no_course;
    start = site.container.boot.start;
    starts = (site.container.since, sym site.tells.events);
    parts_are = site.parts_are;
    boot_is = site.boot_is;
    come = come_none begun home windows_home;
    items_are = refl;
    served = record {
      lost = [];
      read = sym (prepended_none begun.left);
      drew = drew_just begun.words begun.words [] (drew_none begun.words);
      saw = saw_none;
      stopped = record {
        opened = [];
        open_own = [];
        open_marks = [];
        served = whole;
        few = omega arith;
        of_one = inl refl;
        spent = λ same. differ same;
        more = inl refl;
      };
      wrote = sym (appended_none begun.written);
      heeds = inl (All-nil (λ (i : Item). WasFound begun.container.seen i.holds false));
    };
  }
    where
      differ : [] ≡ mark.Taken 0 ∷ [] → ⊥
      differ same = absurd (omega (arith, ap (λ (l : List WindowMark). length l) same))

-- what a seat has seen where a call begins is of the site of its service
pub site_there : (service : Service SiteMaker) (key : List ℕ) (home : HomeBoot) (begun now : Stand) → service ≡ service_of key home → begun ≡ now → IsOfSite home now.container.seen → IsOfSite service.home begun.container.seen
site_there service key home begun now is begun_is site =
    subst (λ (x : Service SiteMaker). IsOfSite x.home begun.container.seen) (sym is) (subst (λ (b : Stand). IsOfSite home b.container.seen) (sym begun_is) site)

-- the same at the stand at which a call begins
module _ {L R : Type 0} (calls : L → LinkEvent → L → Type 0) (gives : Gives R) (service : Service SiteMaker) (begun now : Stand) (begun_is : begun ≡ now) (home : now.container.holds ≡ false) (windows_home : now.windows.holds ≡ false)
    (site : IsOfSite service.home begun.container.seen) where
  at_home : begun.container.holds ≡ false
  at_home = ap (λ (b : Stand). b.container.holds) begun_is ∙ home

  windows_at_home : begun.windows.holds ≡ false
  windows_at_home = ap (λ (b : Stand). b.windows.holds) begun_is ∙ windows_home

  pub begins_there : (conn : Connection) → conn.shepherd ≡ fresh → conn.items.items ≡ [] → conn.stopped ≡ false
      → Serves IsAccepted steps_of calls (λ (maker : SiteMaker). IsMadeOf) gives SeatLooks service site.container.boot.start (began_at begun) begun.container.seen begun.counts begun.moment no_course fresh
      → KeepsServing calls gives service begun now conn
  begins_there conn is none stopped serves =
      subst (λ (n : Stand). KeepsServing calls gives service begun n conn) begun_is
      (begins calls gives service begun at_home windows_at_home site conn is none stopped serves)

  pub unbegun_there : HasServedWhole steps_of calls (λ (maker : SiteMaker). IsMadeOf) gives SeatLooks service site.container.boot.start (began_at begun) begun.container.seen begun.moment no_course []
      → HasServedItems calls gives service begun now [] OutOfMemory
  unbegun_there whole =
      subst (λ (n : Stand). HasServedItems calls gives service begun n [] OutOfMemory) begun_is
      (unbegun calls gives service begun at_home windows_at_home site whole)

-- the start that a history begins with, or else this
first_start : Start → List Event → Start
first_start other [] = other
first_start other (Started start ∷ more) = start
first_start other (Added entry ∷ more) = other
first_start other (KeeperFailed request ∷ more) = other
first_start other (Stopped ∷ more) = other

-- what was seen is of the site still
pub of_site : (home : HomeBoot) (seen : List Event) (after : ContainerValue) (start : Start) → Tells (events_of after) after → seen ≡ events_of after → BeginsWith start seen → start.deployment ≡ site_parts → start.boot ≡ home.boot
    → IsOfSite home seen
unfolding first_start
of_site home seen after start tells is first parts boot =
    let same : after.boot.start ≡ start = ap (first_start start) (sym is ∙ first.1) in
    record {
      container = after;
      tells = record { events = sym is; journal = tells.journal };
      parts_are = ap (λ (x : Start). x.deployment) same ∙ parts;
      boot_is = ap (λ (x : Start). x.boot) same ∙ boot;
    }
