-- What the link counted while a request was on its way, by the causes that it was told.
use Rattle.std.specs.Prelude.{ℕ, ◌+◌, ◌-◌, ◌*◌, ◌^◌, ◌≤◌, min, List, []}
use Rattle.std.specs.List.{count_by, sum_by}
use Rattle.outside.specs.declared.link.LinkCounts.{LinkCounts}
use Rattle.ssm_stub.specs.Counted.{is_silent, is_strayed}
use Rattle.ssm_stub.specs.declared.ask.Ask.{Ask}
use Rattle.ssm_stub.specs.declared.cause.BrickCause.{BrickCause}
use Rattle.ssm_stub.specs.declared.ear.Ear.{Ear}
use Rattle.ssm_stub.specs.declared.ear.Ear.TheVariants.{Open, Heard}
use Rattle.ssm_stub.specs.declared.ear.Outcome.TheVariants as heard
use Rattle.ssm_stub.specs.declared.ear.Stage.{Stage}
use Rattle.ssm_stub.specs.declared.ear.Stage.TheVariants.{Unasked, Asked}
use Rattle.ssm_stub.specs.declared.ear.TheConstants.{MAX_STRAYS}
use Rattle.session_way.specs.declared.way.SessionWay.{SessionWay}
use Rattle.session_way.specs.declared.way.SessionWay.TheVariants as way
use Rattle.outcome_items.specs.declared.outcome.ItemOutcome.{ItemOutcome}
use Rattle.outcome_items.specs.declared.outcome.ItemOutcome.TheVariants as item
use Rattle.request_visit.specs.declared.visit.Fate.{Fate}
use Rattle.request_visit.specs.declared.visit.Fate.TheVariants.{Known, Writing}
use Rattle.request_visit.specs.declared.visit.Visit.{Visit}
use Rattle.request_visit.specs.declared.visit.Work.{Work}
use Rattle.request_visit.specs.declared.visit.Work.TheVariants.{Reading, Opening, Serving, Committed, Decided, Answered, Left}

-- silences of bricks, and frames of bricks that strayed
pub record Noted : Type 0 where
  pub silences : ℕ
  pub strays : ℕ

-- nothing was noted
abbrev pub nothing_noted : Noted
nothing_noted = record { silences = 0; strays = 0 }

-- what these causes say: one silence for each brick that was silent, and 64 frames for each that strayed
abbrev pub noted_by : List BrickCause → Noted
noted_by causes =
    record { silences = count_by is_silent causes; strays = MAX_STRAYS * count_by is_strayed causes }

-- whether a silence ended the hearing of a brick, as a number
abbrev pub silences_in : {A : Type 0} → Ear A → ℕ
silences_in (Open stage) = 0
silences_in (Heard (heard.Answered reply)) = 0
silences_in (Heard heard.Silent) = 1
silences_in (Heard heard.Strayed) = 0

-- the strays of a brick without an outcome
abbrev pub strays_so_far : Stage → ℕ
strays_so_far Unasked = 0
strays_so_far (Asked strays) = strays

-- the strays of a brick, while it is heard and where they ended that
abbrev pub strays_in : {A : Type 0} → Ear A → ℕ
strays_in (Open stage) = strays_so_far stage
strays_in (Heard (heard.Answered reply)) = 0
strays_in (Heard heard.Silent) = 0
strays_in (Heard heard.Strayed) = MAX_STRAYS

-- what was noted so far of those that are asked
abbrev pub noted_of : {W A : Type 0} → List (Ask W A) → Noted
noted_of asks =
    record { silences = sum_by (λ ask. silences_in ask.ear) asks; strays = sum_by (λ ask. strays_in ask.ear) asks }

-- the same of the read or the write that is held, if one is
abbrev pub noted_in : SessionWay → Noted
noted_in way.Resting = nothing_noted
noted_in (way.Reading r) = noted_of r.asks
noted_in (way.Ordered order) = nothing_noted
noted_in (way.Writing w) = noted_of w.write.asks
noted_in (way.Settling w) = noted_of w.write.asks
noted_in (way.Holding passes) = nothing_noted

-- the causes for which a session was lost, or a write missed
abbrev pub causes_of : ItemOutcome → List BrickCause
causes_of (item.Refused why) = []
causes_of (item.SerialsSpent seen) = []
causes_of (item.Expired now expiry) = []
causes_of (item.Lost causes) = causes
causes_of (item.Ended end) = []
causes_of (item.Overload place again full) = []
causes_of (item.Missed place again causes) = causes

-- the same, of what is told of a request so far
abbrev pub causes_by : Fate → List BrickCause
causes_by (Known became) = causes_of became
causes_by (Writing place again) = []

-- the same, by how far the request has come
abbrev pub causes_in : {P : Type 0} → Work P → List BrickCause
causes_in Reading = []
causes_in Opening = []
causes_in (Serving tries program) = []
causes_in (Committed place again shown) = []
causes_in (Decided became) = causes_of became
causes_in (Answered fate bytes) = causes_by fate
causes_in (Left fate) = causes_by fate

-- so many more, up to the last value of a count
abbrev pub raised : ℕ → ℕ → ℕ
raised more n = min (n + more) (2 ^ 64 - 1)

-- A link has counted at least this much since.
pub record HasCounted (noted : Noted) (old new : LinkCounts) : Type 0 where
  pub hushed : raised noted.silences old.hushed ≤ new.hushed
  pub got : raised noted.strays old.got ≤ new.got

-- Since a request began, the link has counted at least what is noted for its session now, and at least what the causes
-- say that it was told.
pub record CountsStand {P : Type 0} (begin : LinkCounts) (v : Visit P) : Type 0 where
  pub held : HasCounted (noted_in v.way) begin v.counts
  pub told : HasCounted (noted_by (causes_in v.work)) begin v.counts
