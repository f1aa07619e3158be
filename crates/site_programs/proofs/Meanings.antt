-- What a program of the site makes over rows is what the site means by its call there.
use Rattle.std.proofs.Common.{◌≡◌, ℕ, true, List, Option, Some, refl, sym, ap, ◌∙◌, subst}
use Rattle.crash_base.specs.declared.rows.RowWrite.{RowWrite}
use Rattle.deployment.specs.declared.parts.Parts.{Parts}
use Rattle.journal_model.specs.declared.entry.ActionEntry.{ActionEntry}
use Rattle.journal_model.specs.declared.entry.CommitEntry.{CommitEntry}
use Rattle.journal_model.specs.declared.entry.DoneText.{DoneText}
use Rattle.journal_model.specs.declared.entry.Mark.{Mark}
use Rattle.call_ticket.specs.declared.next.Answer.{Answer}
use Rattle.call_ticket.specs.declared.next.Next.{Next}
use Rattle.call_ticket.specs.Runs.{Makes, Ran, run_of}
use Rattle.action_plans.specs.declared.plan.Outcome.{Outcome}
use Rattle.auction_calls.specs.declared.action.ActionCall.{ActionCall}
use Rattle.auction_calls.specs.Calls.{is_call}
use Rattle.auction_rows.specs.Parts.{site_parts}
use Rattle.auction_site.specs.Actions.{site, steps_of}
use Rattle.auction_site.specs.Meant.{IsMeant, Means}
use Rattle.boot_core.specs.declared.boot.Start.{Start}
use Rattle.request_tries.specs.Ends.{Errand, IsAskedFor}
use Rattle.site_programs.specs.Errands.{AsksSite}
use Rattle.site_programs.specs.Pages.{HasOutcome}

-- the run of each call writes and answers what the site means by it
abbrev pub RunRule : Type 0
RunRule = (call : ActionCall) (rows : List RowWrite) → is_call call ≡ true
    → (marks : List Mark) × (run_of site_parts (steps_of call) rows
    ≡ Some (record { marks = marks; writes = (site call rows).writes; done = (site call rows).done }))

same_run : (o : Option Ran) (a b : Ran) → o ≡ Some a → o ≡ Some b → a ≡ b
same_run o a b x y = cc

-- what a call of the site did over rows is what the site means by it there
makes_site : RunRule → (call : ActionCall) (rows : List RowWrite) (entry : CommitEntry) (done : DoneText) → is_call call ≡ true
    → Makes site_parts (steps_of call) rows entry done → (entry.writes ≡ (site call rows).writes) × (done ≡ (site call rows).done)
unfolding Makes
makes_site rule call rows entry done is made =
    let runs = rule call rows is in
    let here : Ran = record { marks = entry.reads; writes = entry.writes; done = done } in
    let its : Ran = record { marks = runs.0; writes = (site call rows).writes; done = (site call rows).done } in
    let one : here ≡ its = same_run (run_of site_parts (steps_of call) rows) here its made runs.1 in
    (ap (λ (r : Ran). r.writes) one, ap (λ (r : Ran). r.done) one)

-- so an entry that was asked for, and was made over rows, has that outcome
pub made_so : RunRule → (start : Start) (errand : Errand) (call : ActionCall) (from : ℕ) (rows : List RowWrite) (entry : CommitEntry) (done : DoneText)
    → AsksSite start errand call → IsAskedFor errand from entry done → Makes start.deployment errand.asks rows entry done → HasOutcome errand (site call rows) entry
made_so rule start errand call from rows entry done asks asked made =
    let here : Makes site_parts (steps_of call) rows entry done =
    subst (λ (steps : List Answer → Next). Makes site_parts steps rows entry done) asks.steps_are (subst (λ (parts : Parts). Makes parts errand.asks rows entry done) asks.parts_are made) in
    let its = makes_site rule call rows entry done asks.spelled.in_ranges here in
    let says : DoneText → Option ActionEntry = λ d. Some (record { text = errand.text; done = d }) in
    record { request_is = asked.request; writes_are = its.0; action_is = asked.action ∙ ap says its.1 }

-- a commit has one action
same_action : (o : Option ActionEntry) (a b : ActionEntry) → o ≡ Some a → o ≡ Some b → a ≡ b
same_action o a b x y = cc

-- and an entry with that outcome is meant
pub outcome_is_meant : (start : Start) (errand : Errand) (call : ActionCall) (rows : List RowWrite) (entry : CommitEntry) → AsksSite start errand call
    → HasOutcome errand (site call rows) entry → IsMeant rows entry
outcome_is_meant start errand call rows entry asks has = λ action is.
    let own : ActionEntry = record { text = errand.text; done = (site call rows).done } in
    let P : ActionEntry → Type 0 = λ a. Means rows entry a in
    subst P (same_action entry.action own action has.action_is is) (record { call = call; spelled = asks.spelled; writes = has.writes_are; answers = refl })

-- an action has one answer
same_done : (a b : ActionEntry) → Some a ≡ Some b → a.done ≡ b.done
same_done a b is = let same : a ≡ b = cc in ap (λ (x : ActionEntry). x.done) same

-- it has no other one
pub one_outcome : (errand : Errand) (entry : CommitEntry) (a b : Outcome) → HasOutcome errand a entry → HasOutcome errand b entry → a ≡ b
one_outcome errand entry a b has other =
    let writes : a.writes ≡ b.writes = sym has.writes_are ∙ other.writes_are in
    let done : a.done ≡ b.done =
    same_done (record { text = errand.text; done = a.done }) (record { text = errand.text; done = b.done }) (sym has.action_is ∙ other.action_is) in
    let with_writes : List RowWrite → Outcome = λ w. record { writes = w; done = a.done } in
    let with_done : DoneText → Outcome = λ d. record { writes = b.writes; done = d } in
    ap with_writes writes ∙ ap with_done done
