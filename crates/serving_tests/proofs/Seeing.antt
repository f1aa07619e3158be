-- What a seat has seen of the site's container, behind a hold.
use Rattle.std.proofs.Common.{◌≡◌, ℕ, Bool, true, false, List, [], ◌∷◌, ◌++◌, Option, Some, None, refl, sym, ap, ◌∙◌, subst, true≢false}
use mathlib.Core.List.{IsPrefix}
use Rattle.container_core.specs.Container.{ContainerValue, events_of}
use Rattle.container_core.specs.History.{entries_in}
use Rattle.container_core.specs.declared.history.Event.{Event}
use Rattle.container_core.specs.declared.history.Event.TheVariants.{Added, KeeperFailed, Started, Stopped}
use Rattle.deployment.specs.declared.parts.Parts.{Parts}
use Rattle.request_intake.specs.declared.intake.HomeBoot.{HomeBoot}
use Rattle.report_queue.specs.Passes.{PassValue}
use Rattle.send_windows.specs.declared.history.WindowMark.{WindowMark}
use Rattle.shared_words.specs.Words.{WordSeatValue}
use Rattle.site_locks.specs.Holds.{InHold}
use Rattle.turn_lock.specs.Seats.{SeatValue}
use Rattle.connection_server.specs.Seats.{AreSeatsOf, IsOfSite, SharedIds}
use Rattle.serving_tests.specs.Site.{BeginsSite}

some_parts : Option Parts → Bool
some_parts None = false
some_parts (Some parts) = true

parts_or : Parts → Option Parts → Parts
parts_or other None = other
parts_or other (Some parts) = parts

boot_or : ℕ → Option ℕ → ℕ
boot_or other None = other
boot_or other (Some boot) = boot

-- what begins with a start of the site is the history of a container of the site
pub to_site : (home : HomeBoot) (seen : List Event) → BeginsSite home seen → IsOfSite home seen
unfolding some_parts parts_or boot_or
to_site home [] b = absurd (true≢false (sym (ap some_parts b.parts_are)))
to_site home (Started start ∷ since) b = record {
  container = record { boot = record { start = start; entries = entries_in since; entered = [] }; since = since; told = None; faults = 0 };
  tells = record { events = refl; journal = refl };
  parts_are = ap (parts_or start.deployment) b.parts_are;
  boot_is = ap (boot_or start.boot) b.boot_is;
}
to_site home (Added entry ∷ since) b = absurd (true≢false (sym (ap some_parts b.parts_are)))
to_site home (KeeperFailed request ∷ since) b = absurd (true≢false (sym (ap some_parts b.parts_are)))
to_site home (Stopped ∷ since) b = absurd (true≢false (sym (ap some_parts b.parts_are)))

-- and that begins with a start of the site
pub of_site : (home : HomeBoot) (seen : List Event) → IsOfSite home seen → BeginsSite home seen
of_site home seen site =
    subst (λ (es : List Event). BeginsSite home es) site.tells.events
    (record { parts_are = ap (λ (p : Parts). Some p) site.parts_are; boot_is = ap (λ (n : ℕ). Some n) site.boot_is })

-- behind a hold a seat has seen a container of the site
pub site_on : (home : HomeBoot) (old new : SeatValue Event) (So : ContainerValue → ContainerValue → Type 0) → BeginsSite home old.seen → InHold old new So → BeginsSite home new.seen
unfolding some_parts
site_on home old new So site (before, after, holds, so) =
    subst (λ (es : List Event). BeginsSite home es) (sym (ap (λ (s : SeatValue Event). s.seen) holds.hold.seat))
    (longer (events_of before) (events_of after) holds.hold.grown (longer old.seen (events_of before) holds.hold.begun site))
  where
    begins : (shorter rest : List Event) → BeginsSite home shorter → BeginsSite home (shorter ++ rest)
    begins [] rest b = absurd (true≢false (sym (ap some_parts b.parts_are)))
    begins (Started start ∷ since) rest b = record { parts_are = b.parts_are; boot_is = b.boot_is }
    begins (Added entry ∷ since) rest b = record { parts_are = b.parts_are; boot_is = b.boot_is }
    begins (KeeperFailed request ∷ since) rest b = record { parts_are = b.parts_are; boot_is = b.boot_is }
    begins (Stopped ∷ since) rest b = record { parts_are = b.parts_are; boot_is = b.boot_is }

    longer : (shorter all : List Event) → IsPrefix shorter all → BeginsSite home shorter → BeginsSite home all
    longer shorter all on b = subst (λ (es : List Event). BeginsSite home es) on.1 (begins shorter on.0 b)

-- and the seats are of what is shared still
pub seats_on : (ids : SharedIds) (old new : SeatValue Event) (windows : SeatValue WindowMark) (words : WordSeatValue) (pass : PassValue Unit) (So : ContainerValue → ContainerValue → Type 0) → AreSeatsOf ids old windows words pass
    → InHold old new So → AreSeatsOf ids new windows words pass
seats_on ids old new windows words pass So seats (before, after, holds, so) = record {
  container_is = ap (λ (s : SeatValue Event). s.lock) holds.hold.seat ∙ seats.container_is;
  container_home = ap (λ (s : SeatValue Event). s.holds) holds.hold.seat;
  windows_are = seats.windows_are;
  windows_home = seats.windows_home;
  words_are = seats.words_are;
  pass_is = seats.pass_is;
}

-- a hold leaves a seat its parts
pub parts_on : (old new : SeatValue Event) (So : ContainerValue → ContainerValue → Type 0) → InHold old new So → new.parts ≡ old.parts
parts_on old new So (before, after, holds, so) = ap (λ (s : SeatValue Event). s.parts) holds.hold.seat
