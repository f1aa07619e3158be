-- How a request is taken off the bytes of a connection, as a function of the moment and of the numbers that are to
-- come.
use Rattle.std.specs.Prelude.{◌≡◌, ℕ, suc, nat_lt, if◌then◌else◌, List, [], ◌∷◌, drop, Option, Some, None}
use Rattle.crash_base.specs.declared.numbers.Moment.{Moment}
use Rattle.http_wire.specs.Taking.{taken_of}
use Rattle.http_wire.specs.declared.taken.Head.{Head}
use Rattle.http_wire.specs.declared.taken.Taken.{Taken}
use Rattle.http_wire.specs.declared.taken.Taken.TheVariants as took
use Rattle.outside.specs.declared.link.LinkCounts.{LinkCounts}
use Rattle.outside.specs.declared.serials.TheConstants.{SERIALS_END}
use Rattle.request_decisions.specs.Draws.{drawn_for, is_serial}
use Rattle.request_decisions.specs.declared.decision.Decision.{Decision}
use Rattle.request_decisions.specs.declared.decision.Decision.TheVariants as decided
use Rattle.request_decisions.specs.declared.decision.Order.{Order}
use Rattle.request_decisions.specs.declared.draws.Draw.{Draw}
use Rattle.request_decisions.specs.declared.draws.DrawKind.{DrawKind}
use Rattle.request_intake.specs.Intakes.{Gives, Looks, admission_of, known_request}
use Rattle.request_intake.specs.declared.intake.Arrival.{Arrival}
use Rattle.request_intake.specs.declared.intake.Arrival.TheVariants as arrives
use Rattle.request_intake.specs.declared.intake.HomeBoot.{HomeBoot}
use Rattle.shepherd.specs.Steps.{begun_by}
use Rattle.shepherd.specs.declared.shepherd.Shepherd.{Shepherd}
use Rattle.shepherd.specs.declared.shepherd.Stage.TheVariants.{Refusing}
use Rattle.site_responses.specs.Responses.{last_response}
use Rattle.site_responses.specs.declared.answer.Untaken.{Untaken}
use Rattle.site_responses.specs.declared.answer.Untaken.TheVariants as untaken

-- The numbers that are to come: the random word, and the serial number, that stand behind so many of their kind.
pub record Numbers : Type 0 where
  pub words : ℕ → ℕ
  pub serials : ℕ → ℕ

-- how many of each were drawn
pub record Counts : Type 0 where
  pub words : ℕ
  pub serials : ℕ

-- What gives random words goes through these states, one a word, and gives just these words.
pub record GivesInTurn {R : Type 0} (gives : Gives R) (states : ℕ → R) (words : ℕ → ℕ) : Type 0 where
  pub gives_next : (n word : ℕ) (after : R) → gives (states n) word after → (word ≡ words n) × (after ≡ states (suc n))

-- What gives serial numbers goes through these states, one a number that is drawn, and looks at just these numbers; one
-- that it draws is the one that it looks at.
pub record LooksInTurn {S : Type 0} (looks : Looks S) (states : ℕ → S) (serials : ℕ → ℕ) : Type 0 where
  pub draws_next : (n seen serial : ℕ) (after : S) → looks (states n) seen (Some serial) after → (seen ≡ serials n) × (serial ≡ serials n) × (after ≡ states (suc n))
  pub draws_none : (n seen : ℕ) (after : S) → looks (states n) seen None after → (seen ≡ serials n) × (after ≡ states n)

-- What gives words and what gives serial numbers go through these states, and give the numbers that are to come.
pub record AreInTurn {R S : Type 0} (gives : Gives R) (looks : Looks S) (words : ℕ → R) (serials : ℕ → S) (numbers : Numbers) : Type 0 where
  pub words_in_turn : GivesInTurn gives words numbers.words
  pub serials_in_turn : LooksInTurn looks serials numbers.serials

-- what was drawn, in order; the serial number that was looked at and is spent, if one is; and how many were drawn then
pub record Drawing : Type 0 where
  pub drawn : List Draw
  pub spent : Option ℕ
  pub counts : Counts

-- a draw before others
abbrev pub behind : Draw → Drawing → Drawing
behind d more = record more { drawn = d ∷ more.drawn }

-- Numbers are drawn for these, one after another, until a serial number is spent.
abbrev pub draws : Numbers → List DrawKind → Counts → Drawing
draws numbers [] counts = record { drawn = []; spent = None; counts = counts }
draws numbers (kind ∷ kinds) counts =
    if is_serial kind
    then (if nat_lt (numbers.serials counts.serials) SERIALS_END
    then behind (record { kind = kind; number = numbers.serials counts.serials }) (draws numbers kinds (record counts { serials = suc counts.serials }))
    else record { drawn = []; spent = Some (numbers.serials counts.serials); counts = counts })
    else behind (record { kind = kind; number = numbers.words counts.words }) (draws numbers kinds (record counts { words = suc counts.words }))

-- what becomes at once of an order for which this was drawn: a serial number was spent, or it is to be served
abbrev pub arrival_by : List ℕ → HomeBoot → Order → Moment → List Draw → Option ℕ → Arrival
arrival_by key home o now drawn (Some seen) = arrives.SerialsSpent (known_request home.boot o.number drawn) seen
arrival_by key home o now drawn None = arrives.Admitted (admission_of key home o now drawn)

-- The service that takes requests: its key, the boot that it runs in, what it decides of a request, and the numbers
-- that it draws.
pub record Service : Type 0 where
  pub key : List ℕ
  pub home : HomeBoot
  pub decides : Head → Decision
  pub numbers : Numbers

-- what becomes of a request at once by its decision, and how many numbers were drawn then
abbrev pub arrives_by : Service → Moment → Decision → Counts → Arrival × Counts
arrives_by service now (decided.Refused why) counts = (arrives.Refused why, counts)
arrives_by service now (decided.Ordered o) counts =
    let d = draws service.numbers (drawn_for o) counts in
    (arrival_by service.key service.home o now d.drawn d.spent, d.counts)

-- a connection on which a request begins, by what became of it at once
abbrev pub begins_with : {P : Type 0} → LinkCounts → Head → Moment → Shepherd P → Arrival × Counts → Shepherd P × Counts
begins_with seen head now s arrived =
    (record s { received = drop head.len s.received; stage = begun_by s.front seen head now arrived.0 }, arrived.1)

-- a connection on which no further request is taken
abbrev pub refuses : {P : Type 0} → Untaken → Shepherd P → Counts → Shepherd P × Counts
refuses why s counts = (record s { stage = Refusing why (last_response why) }, counts)

-- a connection by what its bytes begin with
abbrev pub takes_by : {P : Type 0} → Service → LinkCounts → Moment → Taken → Shepherd P → Counts → Shepherd P × Counts
takes_by service seen now (took.Request head) s counts =
    begins_with seen head now s (arrives_by service now (service.decides head) counts)
takes_by service seen now took.Bad s counts = refuses untaken.Bad s counts
takes_by service seen now (took.TooLong len lines) s counts = refuses untaken.TooLong s counts
takes_by service seen now took.NoCoding s counts = refuses untaken.NoCoding s counts
takes_by service seen now (took.BodyTooLong said) s counts = refuses untaken.BodyTooLong s counts
takes_by service seen now took.More s counts = (s, counts)

-- A connection takes what its bytes begin with, at a moment, where a link has counted this and so many numbers were
-- drawn.
unfoldable pub take_request : {P : Type 0} → Service → LinkCounts → Moment → Shepherd P → Counts → Shepherd P × Counts
take_request service seen now s counts = takes_by service seen now (taken_of s.received) s counts
