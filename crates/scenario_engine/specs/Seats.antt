-- Lines about connections over a boot, and what they ask of the keeper.
use Rattle.std.specs.Prelude.{◌≡◌, ℕ, Bool, true, false, if◌then◌else◌, List, [], ◌∷◌, ◌++◌, Option, Some, None}
use Rattle.scenario_text.specs.Answer.{Answer, Refused, Done, within}
use Rattle.scenario_text.specs.declared.seat_line.SeatLine.{SeatLine}
use Rattle.scenario_text.specs.declared.seat_line.SeatLine.TheVariants as lines
use Rattle.container_core.specs.Container.{ContainerValue}
use Rattle.seat_lines.specs.Handing.{BreaksOff, Handed, HasDone, line_hands, step_hands}
use Rattle.seat_lines.specs.Lines.{step_line}
use Rattle.seat_lines.specs.Runs.{rests, seat_line}
use Rattle.seat_lines.specs.Site.{SeatsState, SiteState, seat_at}
use Rattle.session_steps.specs.Sessions.{SessionsState}
use Rattle.scenario_engine.specs.KeeperCalls.{KeeperCall}
use Rattle.scenario_engine.specs.Running.{keep_calls}
use Rattle.scenario_engine.specs.State.{RunningState, Running, Outcome, RefusedIn, DoneTo, UnderWayIn, site_of, with_site}

-- a line over a boot, by its answer
abbrev pub in_boot : RunningState → Answer RunningState → Outcome
in_boot r Refused = RefusedIn (Running r)
in_boot r (Done next text) = DoneTo (Running next) text

-- the site after whole steps of a connection up to its rest, where the keeper replies so to one after the other
abbrev pub after_steps : SiteState → ℕ → List Bool → SiteState
after_steps s n [] = s
after_steps s n (keeps ∷ more) =
    if rests (seat_at s.seats.seats n) then s else
    (elim (step_line s n keeps) [ Refused ↦ s | Done t out ↦ after_steps t n more ])

-- the site after the whole steps that a line makes, where the keeper replies so to them
abbrev pub steps_made : SiteState → SeatLine → List Bool → SiteState
steps_made s (lines.Conn n) replies = s
steps_made s (lines.Bytes n bytes) replies = s
steps_made s (lines.End n) replies = s
steps_made s (lines.Step n) replies = s
steps_made s (lines.Run n) replies = after_steps s n replies

-- a line about connections over a boot, by its answer, if the keeper has replied to as many steps as it makes; else it
-- is under way
abbrev pub by_replies : RunningState → SeatLine → List Bool → Option (Answer SiteState) → Outcome
by_replies r line replies None = UnderWayIn (Running (with_site r (steps_made (site_of r) line replies)))
by_replies r line replies (Some answer) = in_boot r (within (with_site r) answer)

-- A line about connections over a boot, where the keeper replies so to one step after the other. Refused is one where
-- the deployment is not that of the site.
unfoldable pub seat_over : RunningState → SeatLine → List Bool → Outcome
seat_over r line replies =
    if r.site then by_replies r line replies (seat_line (site_of r) line replies) else RefusedIn (Running r)

-- the calls of the keeper that is handed these writes: none where there are none
abbrev pub handed_calls : List Handed → List KeeperCall
handed_calls [] = []
handed_calls (h ∷ more) = keep_calls None h.writes h.keeps ++ handed_calls more

-- The calls of the keeper that a line about connections makes over a boot: one for each commit of a step with writes
-- that the boot does not refuse.
unfoldable pub seat_calls : RunningState → SeatLine → List Bool → List KeeperCall
seat_calls r line replies = if r.site then handed_calls (line_hands (site_of r) line replies) else []

-- the calls of the keeper that one step of a connection makes, where the keeper replies so
abbrev pub step_calls : RunningState → ℕ → Bool → List KeeperCall
step_calls r n keeps = handed_calls (step_hands (site_of r) n (keeps ∷ []))

-- the calls of the keeper by the next step that a line about connections makes over a boot, where the keeper replies so
abbrev pub next_calls_over : RunningState → SeatLine → Bool → List KeeperCall
next_calls_over r (lines.Conn n) keeps = []
next_calls_over r (lines.Bytes n bytes) keeps = []
next_calls_over r (lines.End n) keeps = []
next_calls_over r (lines.Step n) keeps = step_calls r n keeps
next_calls_over r (lines.Run n) keeps = step_calls r n keeps

-- A line about connections came to this answer in a container, where the deployment is that of the site or not; else it
-- is refused.
abbrev pub DoesSite : Bool → SeatLine → ContainerValue → SessionsState → SeatsState → Answer SiteState → ContainerValue → Type 0
DoesSite true line old sessions seats answer new = HasDone line old sessions seats answer new
DoesSite false line old sessions seats answer new = (answer ≡ Refused) × (new ≡ old)

-- Memory ran out in a line about connections, where the deployment is that of the site.
abbrev pub BreaksSite : Bool → SeatLine → ContainerValue → SessionsState → SeatsState → ContainerValue → Type 0
BreaksSite true line old sessions seats new = BreaksOff line old sessions seats new
BreaksSite false line old sessions seats new = ⊥
