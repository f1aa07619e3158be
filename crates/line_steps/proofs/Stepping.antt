-- The calls of callers go on fitting their boot, whatever their lines are.
use Rattle.std.proofs.Common.{◌≡◌, ℕ, ◌<◌, ◌≤◌, Bool, true, false, List, [], ◌∷◌, length, Option, Some, None, option_map, refl, sym, arith}
use Rattle.std.specs.Prelude.{◌==◌, not, bytes_eq, slice_set}
use Rattle.call_ticket.specs.Ticket.{TicketValue, ticket_kept, ticket_left}
use Rattle.call_ticket.specs.declared.limits.TheConstants.{MAX_FRAMES, MAX_STEPS}
use Rattle.crash_base.specs.Refusals.{only_if}
use Rattle.crash_base.specs.declared.rows.TheConstants.{MAX_ROW_BYTES}
use Rattle.crash_base.specs.declared.scope.TheConstants.{MAX_GROUPS}
use Rattle.crash_base.proofs.Positions.{position-some}
use Rattle.deployment.specs.declared.parts.ComponentPart.{ComponentPart}
use Rattle.deployment.specs.declared.parts.Parts.{Parts}
use Rattle.deployment.specs.Groups.{group_no, group_of}
use Rattle.deployment.specs.Parts.{component_no, named}
use Rattle.deployment.proofs.Grouping.{group_least}
use Rattle.journal_model.specs.declared.entry.Entry.{Entry}
use Rattle.journal_model.specs.Calls.{Call, seen, listed}
use Rattle.journal_model.specs.Fits.{IsWrite}
use Rattle.journal_model.specs.Reboots.{down_of}
use Rattle.boot_core.specs.Boot.{BootValue, HasOnlyEntered, with_entered}
use Rattle.boot_core.specs.Faults.{fault_of}
use Rattle.boot_core.specs.Fits.{FitsIn}
use Rattle.call_ticket.specs.Access.{is_in_owner, may_enter}
use Rattle.boot_core.specs.Refusals.{revoked, barred, failing, enter_refusal, exit_refusal, read_refusal, list_refusal, put_refusal}
use Rattle.boot_core.specs.Steps.{ticket_entered, ticket_has_read, ticket_has_listed}
use Rattle.boot_core.specs.declared.refusals.CallRefusal.{CallRefusal}
use Rattle.boot_core.specs.declared.refusals.CallRefusal.TheVariants.{Depth, Steps, Sentinel}
use Rattle.boot_core.proofs.Fitting.{begins_fitting, fits_entering, fits_leaving, fits_reading, fits_listing, fits_putting, fits_grown}
use Rattle.boot_core.proofs.Refusing.{first_none, map_none}
use Rattle.scenario_text.specs.declared.call_line.CallLine.{CallLine}
use Rattle.scenario_text.specs.declared.call_line.CallLine.TheVariants as calls
use Rattle.line_steps.specs.declared.callers.Caller.{Caller}
use Rattle.line_steps.specs.declared.callers.Caller.TheVariants.{Absent, Live}
use Rattle.scenario_text.specs.Answer.{Answer, Done, refused_if}
use Rattle.line_steps.specs.CallLines.{CallDone, done_in, done_within, step_answer, row, row_id, rows_then, enter_step, exit_step, read_step, list_step, put_step, call_line}
use Rattle.line_steps.specs.Callers.{caller_at, padded, can_begin, new_ticket, caller_line, begin_step, call_step, request_of, AllFit, FitsCaller}
use Rattle.line_steps.specs.Tables.{table_of}
use Rattle.line_steps.specs.Texts.{row_answer_text, list_answer_text}
use Rattle.line_steps.proofs.FewParts.{AreFew}
use Rattle.line_steps.proofs.Fitting.{fit_padded, fit_put, fit_set, fit_at, fit_meanwhile, grown_entered}
use Rattle.scenario_text.proofs.Leaving.{Leaves, leaves-refused_if, leaves-or_refused, leaves-within, leaves-weaker}
use Rattle.line_steps.proofs.Numbering.{table_of-positive}

-- where there are no more components than groups, the group of a component of a name is one of them
pub group_known : (parts : Parts) (name : List ℕ) (x : ℕ) → AreFew parts → named parts.components name ≡ Some x → group_of parts x < MAX_GROUPS
group_known parts name x few found =
    let p : ComponentPart → Bool = λ c. bytes_eq c.name name in
    let at = position-some p parts.components x found in
    omega (arith, at.0, at.1, few, group_least parts.references x x ([], refl))

-- one call

not_false : (b : Bool) → not b ≡ false → b ≡ true
not_false true h = refl
not_false false h = absurd (cc)

-- where an enter is not barred, the group is up
entered_up : (es : List Entry) (call : Call) (g : ℕ) → barred es call g ≡ None → down_of es g ≡ None
entered_up es call g none =
    let sentinel : Option CallRefusal = option_map (λ place. Sentinel (group_no g) place) (down_of es g) in
    let steps : Option CallRefusal = only_if (call.steps == MAX_STEPS) Steps in
    let depth : Option CallRefusal = only_if (length call.frames == MAX_FRAMES) Depth in
    let a = first_none (revoked es call) (depth ∷ steps ∷ sentinel ∷ []) none in
    let b = first_none depth (steps ∷ sentinel ∷ []) a.1 in
    let c = first_none steps (sentinel ∷ []) b.1 in
    let d = first_none sentinel [] c.1 in
    map_none (λ place. Sentinel (group_no g) place) (down_of es g) d.0

-- A line of a call leaves a boot that is as it was but for how often its components were entered, and a call that fits.
pub record GoesOn (b : BootValue) (done : CallDone TicketValue) : Type 0 where
  pub entered : HasOnlyEntered b done.boot
  pub fits : FitsIn done.boot done.left.call

-- it does where the boot is as it was
goes_on : (b : BootValue) (ticket : TicketValue) → FitsIn b ticket.call → GoesOn b (done_in b ticket)
goes_on b ticket fits = record { entered = refl; fits = fits }

goes_step : (b : BootValue) (caller : ℕ) (ticket next : TicketValue) (after : BootValue) (text : List ℕ) (refusal : Option CallRefusal) → FitsIn b ticket.call → (refusal ≡ None → GoesOn b (done_in after next)) → Leaves (GoesOn b) (step_answer b caller ticket refusal after next text)
goes_step b caller ticket next after text None fits goes = goes refl
goes_step b caller ticket next after text (Some refusal) fits goes = goes_on b ticket fits

-- one step that enters nothing
goes_same : (b : BootValue) (caller : ℕ) (ticket next : TicketValue) (text : List ℕ) (refusal : Option CallRefusal) → FitsIn b ticket.call → FitsIn b next.call → Leaves (GoesOn b) (step_answer b caller ticket refusal b next text)
goes_same b caller ticket next text refusal fits after = goes_step b caller ticket next b text refusal fits (λ _. goes_on b next after)

goes_enter : (b : BootValue) (caller : ℕ) (ticket : TicketValue) (name : List ℕ) → AreFew b.start.deployment → FitsIn b ticket.call → Leaves (GoesOn b) (enter_step b caller ticket name)
unfolding enter_step
goes_enter b caller ticket name few fits =
    let parts = b.start.deployment in
    let refusal : ℕ → Option CallRefusal = λ x. enter_refusal b ticket.call (component_no x) in
    let next : ℕ → TicketValue = λ x. ticket_entered b.entries (group_of parts x) (component_no x) ticket in
    let after : ℕ → BootValue = λ x. with_entered b (component_no x) in
    let shut : ℕ → Bool = λ x. not (may_enter parts ticket.call (component_no x)) in
    leaves-or_refused (GoesOn b) (named parts.components name) (λ x. refused_if (shut x) (step_answer b caller ticket (refusal x) (after x) (next x) [])) (λ x found.
    leaves-refused_if (GoesOn b) (shut x) (step_answer b caller ticket (refusal x) (after x) (next x) []) (λ free.
    goes_step b caller ticket (next x) (after x) [] (refusal x) fits (λ none.
    let bars : Option CallRefusal = barred b.entries ticket.call (group_of parts x) in
    let fails : Option CallRefusal = failing (component_no x) (fault_of b (component_no x)) in
    let up = entered_up b.entries ticket.call (group_of parts x) (first_none bars (fails ∷ []) none).0 in
    let now : FitsIn b (next x).call = fits_entering b ticket.call (component_no x) fits (group_known parts name x few found) up in
    record { entered = refl; fits = fits_grown b (after x) (next x).call (grown_entered b (after x) refl) now })))

goes_exit : (b : BootValue) (caller : ℕ) (ticket : TicketValue) → FitsIn b ticket.call → Leaves (GoesOn b) (exit_step b caller ticket)
unfolding exit_step
goes_exit b caller ticket fits =
    leaves-refused_if (GoesOn b) (length ticket.call.frames == 0) (step_answer b caller ticket (exit_refusal b.entries ticket.call) b (ticket_left ticket) []) (λ inside.
    goes_same b caller ticket (ticket_left ticket) [] (exit_refusal b.entries ticket.call) fits (fits_leaving b ticket.call fits))

-- whether the call is outside of the component that owns a table
abbrev pub is_outside : BootValue → TicketValue → ℕ → Bool
is_outside b ticket table = not (is_in_owner b.start.deployment ticket.call table)

goes_read : (b : BootValue) (caller : ℕ) (ticket : TicketValue) (number key : ℕ) → FitsIn b ticket.call → Leaves (GoesOn b) (read_step b caller ticket number key)
unfolding read_step
goes_read b caller ticket number key fits =
    let refusal : ℕ → Option CallRefusal = λ table. read_refusal b.entries ticket.call (row_id table key) in
    let next : ℕ → TicketValue = λ table. ticket_has_read (rows_then b ticket) (row_id table key) ticket in
    let text : ℕ → List ℕ = λ table. row_answer_text caller (seen (rows_then b ticket) ticket.call.writes (row_id table key)) in
    let go : ℕ → Answer (CallDone TicketValue) = λ table. step_answer b caller ticket (refusal table) b (next table) (text table) in
    leaves-or_refused (GoesOn b) (table_of number) (λ table. refused_if (is_outside b ticket table) (go table)) (λ table is.
    leaves-refused_if (GoesOn b) (is_outside b ticket table) (go table) (λ inside.
    goes_same b caller ticket (next table) (text table) (refusal table) fits (fits_reading b ticket.call (row_id table key) fits)))

goes_list : (b : BootValue) (caller : ℕ) (ticket : TicketValue) (number : ℕ) → FitsIn b ticket.call → Leaves (GoesOn b) (list_step b caller ticket number)
unfolding list_step
goes_list b caller ticket number fits =
    let refusal : ℕ → Option CallRefusal = λ table. list_refusal b.entries ticket.call table in
    let text : ℕ → List ℕ = λ table. list_answer_text caller (listed (rows_then b ticket) ticket.call.writes table) in
    let go : ℕ → Answer (CallDone TicketValue) = λ table. step_answer b caller ticket (refusal table) b (ticket_has_listed table ticket) (text table) in
    leaves-or_refused (GoesOn b) (table_of number) (λ table. refused_if (is_outside b ticket table) (go table)) (λ table is.
    leaves-refused_if (GoesOn b) (is_outside b ticket table) (go table) (λ inside.
    goes_same b caller ticket (ticket_has_listed table ticket) (text table) (refusal table) fits (fits_listing b ticket.call table fits)))

goes_put : (b : BootValue) (caller : ℕ) (ticket : TicketValue) (number key : ℕ) (bytes : List ℕ) → length bytes ≤ MAX_ROW_BYTES → FitsIn b ticket.call → Leaves (GoesOn b) (put_step b caller ticket number key bytes)
unfolding put_step
goes_put b caller ticket number key bytes short fits =
    let refusal : ℕ → Option CallRefusal = λ table. put_refusal b.entries ticket.call (row_id table key) in
    let go : ℕ → Answer (CallDone TicketValue) = λ table. step_answer b caller ticket (refusal table) b (ticket_kept (row table key bytes) ticket) [] in
    leaves-or_refused (GoesOn b) (table_of number) (λ table. refused_if (is_outside b ticket table) (go table)) (λ table is.
    leaves-refused_if (GoesOn b) (is_outside b ticket table) (go table) (λ inside.
    let write : IsWrite (row table key bytes) = record { own = (let positive = table_of-positive number table (sym is) in λ none. omega (arith, positive, none)); short = short } in
    goes_same b caller ticket (ticket_kept (row table key bytes) ticket) [] (refusal table) fits (fits_putting b ticket.call (row table key bytes) fits write (not_false (is_in_owner b.start.deployment ticket.call table) inside))))

-- a put of a line has no more bytes than a row may have
abbrev pub IsShortCall : CallLine → Type 0
IsShortCall (calls.Enter name) = Unit {0}
IsShortCall calls.Exit = Unit {0}
IsShortCall (calls.Read table key) = Unit {0}
IsShortCall (calls.List table) = Unit {0}
IsShortCall (calls.Put table key bytes) = length bytes ≤ MAX_ROW_BYTES

goes_call_line : (b : BootValue) (caller : ℕ) (line : CallLine) (ticket : TicketValue) → IsShortCall line → AreFew b.start.deployment → FitsIn b ticket.call → Leaves (GoesOn b) (call_line b caller ticket line)
goes_call_line b caller (calls.Enter name) ticket short few fits = goes_enter b caller ticket name few fits
goes_call_line b caller calls.Exit ticket short few fits = goes_exit b caller ticket fits
goes_call_line b caller (calls.Read table key) ticket short few fits = goes_read b caller ticket table key fits
goes_call_line b caller (calls.List table) ticket short few fits = goes_list b caller ticket table fits
goes_call_line b caller (calls.Put table key bytes) ticket short few fits = goes_put b caller ticket table key bytes short fits

-- the same of a caller
pub record GoesOnWith (b : BootValue) (done : CallDone Caller) : Type 0 where
  pub entered : HasOnlyEntered b done.boot
  pub fits : FitsCaller done.boot done.left

goes_caller_line : (b : BootValue) (n : ℕ) (line : CallLine) (caller : Caller) → IsShortCall line → AreFew b.start.deployment → FitsCaller b caller → Leaves (GoesOnWith b) (caller_line b n line caller)
goes_caller_line b n line Absent short few fits = tt
goes_caller_line b n line (Live ticket) short few fits =
    let a : Answer (CallDone TicketValue) = call_line b n ticket line in
    let live : CallDone TicketValue → CallDone Caller = done_within (λ t. Live t) in
    leaves-within (GoesOnWith b) live a
    (leaves-weaker (GoesOn b) (λ d. GoesOnWith b (live d)) a (λ d goes. record { entered = goes.entered; fits = goes.fits }) (goes_call_line b n line ticket short few fits))

-- after a begin
pub fits_begin_step : (b : BootValue) (callers : List Caller) (n : ℕ) → AllFit b callers → Leaves (AllFit b) (begin_step b callers n)
unfolding begin_step
fits_begin_step b callers n all =
    let new : TicketValue = new_ticket b n in
    let ticket : FitsIn b new.call = begins_fitting b (request_of b.start.boot n) (record { 0 = n }) in
    leaves-refused_if (AllFit b) (not (can_begin callers n)) (Done (slice_set (padded callers n) n (Live new)) []) (λ free.
    fit_put b (padded callers n) n new ticket (fit_padded b callers n all))

-- A line of a live call leaves a boot that is as it was but for how often its components were entered, and callers
-- whose live calls fit it.
pub record GoOn (b : BootValue) (done : CallDone (List Caller)) : Type 0 where
  pub entered : HasOnlyEntered b done.boot
  pub fit : AllFit done.boot done.left

pub goes_call_step : (b : BootValue) (callers : List Caller) (n : ℕ) (line : CallLine) → IsShortCall line → AreFew b.start.deployment → AllFit b callers → Leaves (GoOn b) (call_step b callers n line)
unfolding call_step
goes_call_step b callers n line short few all =
    let a : Answer (CallDone Caller) = caller_line b n line (caller_at callers n) in
    let whole : CallDone Caller → CallDone (List Caller) = done_within (slice_set callers n) in
    let goes : (d : CallDone Caller) → GoesOnWith b d → GoOn b (whole d) = λ d one. record {
      entered = one.entered;
      fit = fit_set d.boot callers n d.left one.fits (fit_meanwhile b d.boot callers (grown_entered b d.boot one.entered) all);
    } in
    leaves-within (GoOn b) whole a
    (leaves-weaker (GoesOnWith b) (λ d. GoOn b (whole d)) a goes (goes_caller_line b n line (caller_at callers n) short few (fit_at b callers n all)))
