-- What a request has left in the history of the windows so far. How many passes were taken is left out.
use Rattle.std.specs.Prelude.{◌≡◌, List, [], ◌∷◌, ◌++◌, map, Option, None}
use Rattle.send_windows.specs.Windows.{WindowsValue}
use Rattle.send_windows.specs.declared.history.WindowMark.{WindowMark}
use Rattle.send_windows.specs.declared.history.WindowMark.TheVariants as mark
use Rattle.session_cookie.specs.declared.cookie.Cookie.{Cookie}
use Rattle.session_way.specs.declared.way.SessionWay.{SessionWay}
use Rattle.session_way.specs.declared.way.SessionWay.TheVariants as way
use Rattle.outcome_items.specs.Traces.{marks_of_outcome, uncounted}
use Rattle.request_visit.specs.declared.visit.Fate.{Fate}
use Rattle.request_visit.specs.declared.visit.Fate.TheVariants.{Known, Writing}
use Rattle.request_visit.specs.declared.visit.Visit.{Visit}
use Rattle.request_visit.specs.declared.visit.Work.{Work}
use Rattle.request_visit.specs.declared.visit.Work.TheVariants.{Reading, Opening, Serving, Committed, Decided, Answered, Left}

-- a session is read, or nothing is done with it
abbrev pub MayBeRead : SessionWay → Type 0
MayBeRead way.Resting = Unit {0}
MayBeRead (way.Reading r) = Unit {0}
MayBeRead (way.Ordered order) = ⊥
MayBeRead (way.Writing w) = ⊥
MayBeRead (way.Settling w) = ⊥
MayBeRead (way.Holding passes) = ⊥

-- the marks of a session that is to be written, or is written
abbrev pub WritesWith : List WindowMark → SessionWay → Type 0
WritesWith marks way.Resting = ⊥
WritesWith marks (way.Reading r) = ⊥
WritesWith marks (way.Ordered order) = marks ≡ []
WritesWith marks (way.Writing w) = marks ≡ mark.Taken 0 ∷ []
WritesWith marks (way.Settling w) = ⊥
WritesWith marks (way.Holding passes) = ⊥

-- a write is held, until its response has left
abbrev pub HasWrite : SessionWay → Type 0
HasWrite way.Resting = ⊥
HasWrite (way.Reading r) = ⊥
HasWrite (way.Ordered order) = ⊥
HasWrite (way.Writing w) = Unit {0}
HasWrite (way.Settling w) = ⊥
HasWrite (way.Holding passes) = ⊥

-- a write is settled
abbrev pub IsSettling : SessionWay → Type 0
IsSettling way.Resting = ⊥
IsSettling (way.Reading r) = ⊥
IsSettling (way.Ordered order) = ⊥
IsSettling (way.Writing w) = ⊥
IsSettling (way.Settling w) = Unit {0}
IsSettling (way.Holding passes) = ⊥

-- A request whose session rests has left just these marks.
pub record Rests (marks : List WindowMark) (w : SessionWay) (left : List WindowMark) : Type 0 where
  pub rests : w ≡ way.Resting
  pub marks_are : marks ≡ left

-- A request whose write is not settled yet has taken passes.
pub record HoldsWrite (marks : List WindowMark) (cookie : Option Cookie) (HeldSo : Type 0) : Type 0 where
  pub no_cookie : cookie ≡ None
  pub marks_are : marks ≡ mark.Taken 0 ∷ []
  pub held_so : HeldSo

-- the marks of a request whose response is made, by what is told of it so far, and how it holds its write
abbrev pub FateMarks : List WindowMark → Option Cookie → SessionWay → Type 0 → Fate → Type 0
FateMarks marks cookie w HeldSo (Known became) = Rests marks w (marks_of_outcome cookie became)
FateMarks marks cookie w HeldSo (Writing place again) = HoldsWrite marks cookie HeldSo

-- The marks of a request, by how far it has come: none before its session is written, and then a take, a spend, or a
-- refusal.
abbrev pub MarksOf : {P : Type 0} → List WindowMark → Option Cookie → SessionWay → Work P → Type 0
MarksOf marks cookie w Reading = (cookie ≡ None) × (marks ≡ []) × MayBeRead w
MarksOf marks cookie w Opening = (cookie ≡ None) × Rests marks w []
MarksOf marks cookie w (Serving tries program) = (cookie ≡ None) × Rests marks w []
MarksOf marks cookie w (Committed place again shown) = (cookie ≡ None) × WritesWith marks w
MarksOf marks cookie w (Decided became) = (cookie ≡ None) × Rests marks w (marks_of_outcome None became)
MarksOf marks cookie w (Answered fate bytes) = FateMarks marks cookie w (HasWrite w) fate
MarksOf marks cookie w (Left fate) = FateMarks marks cookie w (IsSettling w) fate

-- The request has left these marks so far.
abbrev pub Marks : {P : Type 0} → List WindowMark → Visit P → Type 0
Marks marks v = MarksOf marks v.cookie v.way v.work

-- A step of the windows left these marks, and the request tells so.
pub record AddsMarks {P : Type 0} (marks : List WindowMark) (windows after : WindowsValue) (new : Visit P) : Type 0 where
  pub added : List WindowMark
  pub grown : after.history ≡ windows.history ++ added
  pub told : Marks (marks ++ map uncounted added) new
