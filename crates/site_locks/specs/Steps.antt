-- What is done in one hold, and what it answers.
use Rattle.std.specs.Prelude.{◌≡◌, ◌↔◌, ◌≤◌, Bool, true, [], ◌∷◌, ◌++◌, if◌then◌else◌, length, List, Result, Some, slice_get, IfOk, IsFalse, IsTrue, OnErr, OnOk}
use Rattle.boot_core.specs.Refusals.{RebootAnswer, reboot_refusal}
use Rattle.boot_core.specs.declared.refusals.RebootRefusal.{RebootRefusal}
use Rattle.call_ticket.specs.declared.next.Answer.{Answer}
use Rattle.call_ticket.specs.declared.next.Next.{Next}
use Rattle.container_core.specs.Container.{ContainerValue, events_of, with_boot, with_entry_event}
use Rattle.container_core.specs.History.{is_stopped}
use Rattle.container_core.specs.declared.history.Event.TheVariants.{Stopped}
use Rattle.crash_base.specs.declared.memory.OutOfMemory.{OutOfMemory}
use Rattle.crash_base.specs.declared.numbers.Place.{Place}
use Rattle.crash_base.specs.declared.scope.Scope.{Scope}
use Rattle.journal_model.specs.Reboots.{IsUndone}
use Rattle.journal_model.specs.declared.entry.Entry.TheVariants.{Down, Up}
use Rattle.request_tries.specs.Steps.{HasAtMostAdvanced, KeepsNothing}
use Rattle.request_visit.specs.Stepping.{OnServing, VisitsInside, VisitsWindows}
use Rattle.send_windows.specs.Windows.{WindowsValue}
use Rattle.send_windows.specs.declared.windows.TakeRefusal.TheVariants as refusal
use Rattle.session_way.specs.Way.{IsRefused}
use Rattle.shepherd.specs.Steps.{IsServedStill, OnVisit, ShepherdSteps, StepsVisit}
use Rattle.shepherd.specs.declared.shepherd.Shepherd.{Shepherd}

-- A connection made one step in the container, and found whether that is stopped. Or there was no memory: it has ended,
-- nothing was added to the history, of the boot at most the entering that was asked for was counted, and its request is
-- as it was, but for its tries.
pub record StepsInside {P : Type 0} (asks : P → List Answer → Next) (old : Shepherd P) (before : ContainerValue) (result : Result Bool OutOfMemory) (new : Shepherd P) (after : ContainerValue) : Type 0 where
  pub step : OnOk result (ShepherdSteps (λ v w. VisitsInside asks v before w after) old new)
  pub stopped : IfOk result (λ stopped. stopped ≡ is_stopped (events_of after))
  pub still : OnErr result (StepsVisit IsServedStill old.stage new.stage)
  pub want : OnErr result (new ≡ record old { stage = new.stage; wants_memory = true })
  pub nothing : OnErr result (after.since ≡ before.since)
  pub at_most : OnErr result (OnVisit old.stage (λ v call. OnServing v.work (λ tries program. HasAtMostAdvanced before (asks program) tries.attempt (with_boot before after.boot))))
  pub keeper : OnErr result (KeepsNothing before after)
  pub count : before.faults ≤ after.faults

-- The reboot of a scope began, exactly where nothing refuses it and there is memory; else nothing changed.
pub record GoesDown (scope : Scope) (before : ContainerValue) (result : Result Place RebootRefusal) (after : ContainerValue) : Type 0 where
  pub answer : RebootAnswer (reboot_refusal before.boot.start.limits before.boot.entries scope) result
  pub place : IfOk result (λ place. place.0 ≡ length before.boot.entries)
  pub down : OnOk result (after ≡ with_entry_event before (Down scope))
  pub same : OnErr result (after ≡ before)

-- The reboot that began at this place ended, exactly where one was under way; else nothing changed.
pub record ComesUp (down : Place) (before : ContainerValue) (result : Bool) (after : ContainerValue) : Type 0 where
  pub whether : IsTrue result ↔ ((s : Scope) × IsUndone before.boot.entries down.0 s)
  pub up : IsTrue result → (s : Scope) → slice_get before.boot.entries down.0 ≡ Some (Down s)
      → after ≡ with_entry_event before (Up s)
  pub same : IsFalse result → after ≡ before

-- a container that is stopped: a second stop changes nothing
abbrev pub after_stop : ContainerValue → ContainerValue
after_stop c = if is_stopped (events_of c) then c else record c { since = c.since ++ Stopped ∷ [] }

-- A connection made one call of the windows. Or there was no memory: it has ended, and its request is as it was, but
-- for what it does with its session.
pub record StepsWindows {P : Type 0} (old : Shepherd P) (before : WindowsValue) (result : Result Unit OutOfMemory) (new : Shepherd P) (after : WindowsValue) : Type 0 where
  pub step : OnOk result (ShepherdSteps (λ v w. VisitsWindows v before w after) old new)
  pub held : OnErr result (StepsVisit (λ v w. IsRefused v.way before w.way after refusal.OutOfMemory) old.stage new.stage)
  pub rest : OnErr result (StepsVisit (λ v w. w ≡ record v { way = w.way }) old.stage new.stage)
  pub want : OnErr result (new ≡ record old { stage = new.stage; wants_memory = true })
