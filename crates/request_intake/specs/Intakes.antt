-- A request that was taken in: what was decided of it, and what was drawn for it.
use Rattle.std.specs.Prelude.{◌≡◌, ℕ, ◌==◌, ◌≤◌, if◌then◌else◌, List, [], ◌∷◌, length, map, filter, Option, Some, None, Ok, Err}
use Rattle.crash_base.specs.declared.numbers.Moment.{Moment}
use Rattle.crash_base.specs.declared.numbers.RequestNo.{RequestNo}
use Rattle.crash_base.specs.declared.numbers.Version.{Version}
use Rattle.http_wire.specs.declared.taken.Head.{Head}
use Rattle.outside.specs.declared.serials.TheConstants.{SERIALS_END}
use Rattle.request_decisions.specs.Calls.{call_by, call_of, number_for, numbers_for, ordered_call, request_of}
use Rattle.request_decisions.specs.Decisions.{IsDecided}
use Rattle.request_decisions.specs.Drawing.{Draws}
use Rattle.request_decisions.specs.Draws.{AreCutShort, AreDrawn, drawn_for, is_serial}
use Rattle.request_decisions.specs.declared.decision.Decision.{Decision}
use Rattle.request_decisions.specs.declared.decision.Decision.TheVariants as decided
use Rattle.request_decisions.specs.declared.decision.Order.{Order}
use Rattle.request_decisions.specs.declared.drawing.DrawRefusal.TheVariants.{Spent}
use Rattle.request_decisions.specs.declared.draws.Draw.{Draw}
use Rattle.request_decisions.specs.declared.draws.DrawKind.{DrawKind}
use Rattle.request_decisions.specs.declared.draws.DrawKind.TheVariants.{Read, Request, Write}
use Rattle.session_cookie.specs.declared.cookie.Cookie.{Cookie}
use Rattle.request_intake.specs.declared.intake.Admission.{Admission}
use Rattle.request_intake.specs.declared.intake.Arrival.{Arrival}
use Rattle.request_intake.specs.declared.intake.Arrival.TheVariants.{Refused, SerialsSpent, Admitted}
use Rattle.request_intake.specs.declared.intake.HomeBoot.{HomeBoot}
use Rattle.request_intake.specs.declared.intake.Intake.{Intake}

-- the states of random words, before and after a word is given
abbrev pub Gives : Type 0 → Type 1
Gives R = R → ℕ → R → Type 0

-- the states of serial numbers, before and after a draw that looks at a number, and draws one or none
abbrev pub Looks : Type 0 → Type 1
Looks S = S → ℕ → Option ℕ → S → Type 0

-- the nonce whose serial was drawn for this
abbrev pub nonce_of : HomeBoot → DrawKind → List Draw → Version
nonce_of home kind drawn = record { node = home.node; boot = home.boot; serial = number_for kind drawn }

-- The number of a request for which no more was drawn than this, where it is known: that of its token; or the one that
-- was drawn, which is drawn first.
abbrev pub known_request : ℕ → Option RequestNo → List Draw → Option RequestNo
known_request boot (Some number) drawn = Some number
known_request boot None drawn = if length drawn == 0 then None else Some (request_of boot None drawn)

-- what a request is served with, by its order and what was drawn for it
abbrev pub admission_of : List ℕ → HomeBoot → Order → Moment → List Draw → Admission
admission_of key home o now drawn = record {
  request = request_of home.boot o.number drawn;
  call = ordered_call key home.boot o now drawn;
  cookie = o.cookie;
  read = nonce_of home Read drawn;
  write = nonce_of home Write drawn;
}

-- All was drawn for an order, and it is served with that; or a serial number was spent.
abbrev pub TakesInOrder : {R S : Type 0} → Gives R → Looks S → List ℕ → HomeBoot → Order → Moment → R → S → List Draw → Arrival → R → S → Type 0
TakesInOrder gives looks key home o now random serials drawn (Refused why) random_after serials_after = ⊥
TakesInOrder gives looks key home o now random serials drawn (SerialsSpent request seen) random_after serials_after =
    Draws looks gives o serials random (Err (Spent seen drawn)) serials_after random_after
    × (request ≡ known_request home.boot o.number drawn)
TakesInOrder gives looks key home o now random serials drawn (Admitted admission) random_after serials_after =
    Draws looks gives o serials random (Ok drawn) serials_after random_after
    × (admission ≡ admission_of key home o now drawn)

-- What becomes of a request by its decision: one that is refused draws nothing.
abbrev pub TakesInBy : {R S : Type 0} → Gives R → Looks S → List ℕ → HomeBoot → Decision → R → S → Intake → R → S → Type 0
TakesInBy gives looks key home (decided.Refused why) random serials i random_after serials_after =
    (i.arrival ≡ Refused why) × (i.drawn ≡ []) × (random_after ≡ random) × (serials_after ≡ serials)
TakesInBy gives looks key home (decided.Ordered o) random serials i random_after serials_after =
    TakesInOrder gives looks key home o i.now random serials i.drawn i.arrival random_after serials_after

-- A request was taken in.
pub record TakesIn {R S : Type 0} (gives : Gives R) (looks : Looks S) (key : List ℕ) (home : HomeBoot) (head : Head) (random : R) (serials : S) (i : Intake) (random_after : R) (serials_after : S) : Type 0 where
  pub decision : Decision
  pub decided : IsDecided key home.boot head decision
  pub follows : TakesInBy gives looks key home decision random serials i random_after serials_after

-- A request that is admitted has the number of its order, or one that was drawn for it in this boot; its call is that
-- of its order, under the service's key and in this boot, whoever the user of its session is; and each nonce is of this
-- boot, with a serial that was drawn for it.
pub record IsAdmittedBy (key : List ℕ) (home : HomeBoot) (o : Order) (i : Intake) (a : Admission) : Type 0 where
  pub drawn : AreDrawn o i.drawn
  pub token : (number : RequestNo) → o.number ≡ Some number → a.request ≡ number
  pub own : o.number ≡ None
      → (serial : ℕ) × (numbers_for Request i.drawn ≡ serial ∷ []) × (a.request ≡ record { boot = home.boot; serial = serial })
  pub call : (value : Option (List ℕ)) → call_by a.call value ≡ call_of key home.boot o i.now i.drawn value
  pub asks : a.call.action ≡ o.action
  pub moment : a.call.now ≡ i.now
  pub cookie : a.cookie ≡ o.cookie
  pub read : (cookie : Cookie) → o.cookie ≡ Some cookie → (serial : ℕ) × (numbers_for Read i.drawn ≡ serial ∷ []) × (a.read ≡ record { node = home.node; boot = home.boot; serial = serial })
  pub write : (serial : ℕ) × (numbers_for Write i.drawn ≡ serial ∷ []) × (a.write ≡ record { node = home.node; boot = home.boot; serial = serial })

-- A request for which this serial number was looked at, which is spent: nothing was drawn behind it. The request's own
-- number is told where its order has one, or where it was drawn.
pub record IsCutShortBy (home : HomeBoot) (o : Order) (i : Intake) (request : Option RequestNo) (seen : ℕ) : Type 0 where
  pub cut : AreCutShort (drawn_for o) i.drawn
  pub past : SERIALS_END ≤ seen
  pub token : (number : RequestNo) → o.number ≡ Some number → request ≡ Some number
  pub own : (serial : ℕ) → o.number ≡ None → numbers_for Request i.drawn ≡ serial ∷ []
      → request ≡ Some (record { boot = home.boot; serial = serial })
  pub unknown : o.number ≡ None → i.drawn ≡ [] → request ≡ None

-- the serial numbers among what was drawn, in order
abbrev pub serials_in : List Draw → List ℕ
serials_in drawn = map (λ (d : Draw). d.number) (filter (λ (d : Draw). is_serial d.kind) drawn)
