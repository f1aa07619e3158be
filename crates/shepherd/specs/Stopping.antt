-- What a connection that stopped, since memory was wanted, has added and left. What it did for the request that was
-- open may be told by no item.
use Rattle.std.specs.Prelude.{◌≡◌, ◌⊎◌, ◌≤◌, List, [], ◌∷◌, ◌++◌, All, length, map}
use Rattle.boot_core.specs.declared.boot.Start.{Start}
use Rattle.call_ticket.specs.declared.next.Answer.{Answer}
use Rattle.call_ticket.specs.declared.next.Next.{Next}
use Rattle.container_core.specs.declared.history.Event.{Event}
use Rattle.outcome_items.specs.Traces.{uncounted}
use Rattle.outcome_items.specs.declared.item.Item.{Item}
use Rattle.send_windows.specs.Windows.{WindowsValue}
use Rattle.send_windows.specs.declared.history.WindowMark.{WindowMark}
use Rattle.send_windows.specs.declared.history.WindowMark.TheVariants as mark
use Rattle.session_way.specs.declared.way.SessionWay.{SessionWay}
use Rattle.session_way.specs.declared.way.SessionWay.TheVariants as way
use Rattle.shepherd.specs.Accounting.{IsTold, Told, told_events, told_items, told_marks}
use Rattle.shepherd.specs.declared.shepherd.Shepherd.{Shepherd}
use Rattle.shepherd.specs.declared.shepherd.Stage.{Stage}
use Rattle.shepherd.specs.declared.shepherd.Stage.TheVariants.{Resting, Serving, Refusing, Over}

-- The marks of a request are those of what it does with its session: passes that are held were taken; where nothing is
-- done any more, none were asked for, or they were refused, or taken and spent.
abbrev pub AreMarksOf : SessionWay → List WindowMark → Type 0
AreMarksOf way.Resting marks = (marks ≡ []) ⊎ ((marks ≡ mark.Refused ∷ []) ⊎ (marks ≡ mark.Taken 0 ∷ mark.Spent ∷ []))
AreMarksOf (way.Reading r) marks = marks ≡ []
AreMarksOf (way.Ordered order) marks = marks ≡ []
AreMarksOf (way.Writing w) marks = marks ≡ mark.Taken 0 ∷ []
AreMarksOf (way.Settling w) marks = marks ≡ mark.Taken 0 ∷ []
AreMarksOf (way.Holding passes) marks = marks ≡ mark.Taken 0 ∷ []

-- the same of a stage: where no request is open, there are none
abbrev pub StageMarks : {P : Type 0} → Stage P → List WindowMark → Type 0
StageMarks Resting marks = marks ≡ []
StageMarks (Serving v call) marks = AreMarksOf v.way marks
StageMarks (Refusing why bytes) marks = marks ≡ []
StageMarks (Over end) marks = marks ≡ []

-- A connection has added the events of its items and left their marks, in order, and then one event at most, and the
-- marks of what it does with the session of the request that is open.
pub record Stopped {P : Type 0} (asks : P → List Answer → Next) (start : Start) (history own : List Event) (marks : List WindowMark) (items : List Item) (s : Shepherd P) : Type 0 where
  pub told : List (Told P)
  pub open_own : List Event
  pub open_marks : List WindowMark
  pub items_are : items ≡ told_items told
  pub stand : All (IsTold asks start history) told
  pub own_is : own ≡ told_events told ++ open_own
  pub marks_are : marks ≡ told_marks told ++ open_marks
  pub few : length open_own ≤ 1
  pub stage_marks : StageMarks s.stage open_marks

-- Marks were added to the history of the windows, and it is so with them.
pub record StopsWith {P : Type 0} (asks : P → List Answer → Next) (start : Start) (history own : List Event) (marks : List WindowMark) (items : List Item) (windows after : WindowsValue) (new : Shepherd P) : Type 0 where
  pub added : List WindowMark
  pub grown : after.history ≡ windows.history ++ added
  pub stopped : Stopped asks start history own (marks ++ map uncounted added) items new

-- the marks of one request at most: none, passes refused, or taken, and spent or not
abbrev pub AreOfOne : List WindowMark → Type 0
AreOfOne marks =
    (marks ≡ []) ⊎ ((marks ≡ mark.Refused ∷ []) ⊎ ((marks ≡ mark.Taken 0 ∷ []) ⊎ (marks ≡ mark.Taken 0 ∷ mark.Spent ∷ [])))
