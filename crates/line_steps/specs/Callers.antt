-- Callers of a scenario, and what their lines do to their calls.
use Rattle.std.specs.Prelude.{◌≡◌, ℕ, ◌+◌, ◌-◌, ◌^◌, nat_le, ◌&&◌, not, Bool, true, false, List, [], ◌++◌, length, replicate, slice_index_or, slice_set, All}
use Rattle.crash_base.specs.declared.numbers.RequestNo.{RequestNo}
use Rattle.call_ticket.specs.Ticket.{TicketValue, ticket_begun}
use Rattle.boot_core.specs.Boot.{BootValue}
use Rattle.boot_core.specs.Fits.{FitsIn}
use Rattle.scenario_text.specs.declared.line.TheConstants.{MAX_CALLER}
use Rattle.scenario_text.specs.declared.call_line.CallLine.{CallLine}
use Rattle.line_steps.specs.declared.callers.Caller.{Caller}
use Rattle.line_steps.specs.declared.callers.Caller.TheVariants.{Absent, Live}
use Rattle.scenario_text.specs.Answer.{Answer, Refused, Done, refused_if, within}
use Rattle.line_steps.specs.CallLines.{CallDone, done_within, call_line}

-- what a caller has in hand, of callers by their numbers; those past the end have no call
abbrev pub caller_at : List Caller → ℕ → Caller
caller_at callers n = slice_index_or callers n Absent

-- the callers with a place for each number up to this one
abbrev pub padded : List Caller → ℕ → List Caller
padded callers n = callers ++ replicate (n + 1 - length callers) Absent

-- the request that a caller makes in a boot
abbrev pub request_of : ℕ → ℕ → RequestNo
request_of boot caller = record { boot = boot; serial = 2 ^ 63 + caller }

-- the ticket of a caller's new call
abbrev pub new_ticket : BootValue → ℕ → TicketValue
new_ticket b caller =
    ticket_begun (request_of b.start.boot caller) (record { 0 = caller })
    (record { 0 = length b.entries })

-- whether a caller has a call that has not ended
abbrev pub is_live : Caller → Bool
is_live Absent = false
is_live (Live ticket) = true

-- whether a caller may begin a call: its number is one of a caller, and it has no live call
abbrev pub can_begin : List Caller → ℕ → Bool
can_begin callers n = nat_le n MAX_CALLER && not (is_live (caller_at callers n))

-- A caller begins. Refused are a number above `MAX_CALLER`, and a caller that is live.
unfoldable pub begin_step : BootValue → List Caller → ℕ → Answer (List Caller)
begin_step b callers n =
    refused_if (not (can_begin callers n))
    (Done (slice_set (padded callers n) n (Live (new_ticket b n))) [])

-- a line of a caller's call, which has to be live
abbrev pub caller_line : BootValue → ℕ → CallLine → Caller → Answer (CallDone Caller)
caller_line b n line Absent = Refused
caller_line b n line (Live ticket) = within (done_within (λ t. Live t)) (call_line b n ticket line)

-- a line of the call of the caller of this number
unfoldable pub call_step : BootValue → List Caller → ℕ → CallLine → Answer (CallDone (List Caller))
call_step b callers n line =
    within (done_within (slice_set callers n)) (caller_line b n line (caller_at callers n))

-- the callers once the call of one has ended
abbrev pub ended : List Caller → ℕ → List Caller
ended callers n = slice_set callers n Absent

-- a caller's call, if it is live, fits the boot
abbrev pub FitsCaller : BootValue → Caller → Type 0
FitsCaller b Absent = Unit {0}
FitsCaller b (Live ticket) = FitsIn b ticket.call

-- each live call fits the boot
abbrev pub AllFit : BootValue → List Caller → Type 0
AllFit b callers = All (FitsCaller b) callers

-- A caller's live call was taken.
pub record TakesCall (old new : List Caller) (n : ℕ) (ticket : TicketValue) : Type 0 where
  pub live : caller_at old n ≡ Live ticket
  pub taken : new ≡ ended old n

-- no call of the caller is live
abbrev pub IsAway : Caller → Type 0
IsAway Absent = Unit {0}
IsAway (Live ticket) = ⊥
