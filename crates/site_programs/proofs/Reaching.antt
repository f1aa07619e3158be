-- What requests of the site are touched by is within the reach of their actions.
use Rattle.std.proofs.Common.{◌≡◌, ◌↔◌, ◌⊎◌, inl, inr, ℕ, true, List, [], ◌∷◌, length, take, All, refl, sym, subst}
use Rattle.std.proofs.lemmas.List.Concat.{flat_map-cons}
use Rattle.std.proofs.lemmas.List.Elements.{All-append, All-cons, All-nil}
use Rattle.std.specs.List.{flat_map, range_with_len}
use Rattle.crash_base.specs.declared.numbers.ComponentNo.{ComponentNo}
use Rattle.crash_base.specs.declared.numbers.GroupNo.{GroupNo}
use Rattle.crash_base.specs.declared.numbers.Place.{Place}
use Rattle.deployment.specs.declared.parts.Parts.{Parts}
use Rattle.journal_model.specs.declared.entry.Entry.{Entry}
use Rattle.call_ticket.specs.declared.next.Answer.{Answer}
use Rattle.call_ticket.specs.declared.next.Next.{Next}
use Rattle.call_ticket.specs.declared.next.Next.TheVariants as next
use Rattle.call_attempts.specs.Attempt.{Accesses, EntersGroup, EntersOnce, FailsOnItsWay, entered_by, entered_in, table_in}
use Rattle.auction_calls.specs.declared.action.Action.TheVariants.{Buy}
use Rattle.auction_calls.specs.declared.action.ActionCall.{ActionCall}
use Rattle.auction_rows.specs.Parts.{site_parts}
use Rattle.auction_site.specs.Actions.{steps_of}
use Rattle.auction_site.specs.Reached.{reach_of}
use Rattle.boot_core.specs.declared.boot.Start.{Start}
use Rattle.container_core.specs.History.{entries_in}
use Rattle.container_core.specs.declared.history.Event.{Event}
use Rattle.reach_laws.specs.Uses.{MayEnter, MayEnterGroup, has_table}
use Rattle.request_tries.specs.Ends.{EndStands, Errand}
use Rattle.request_tries.specs.Tries.{AreTries, CauseStands}
use Rattle.request_tries.specs.declared.outcome.Ended.{Ended}
use Rattle.request_tries.specs.declared.outcome.RequestOutcome.TheVariants as outcomes
use Rattle.request_tries.specs.declared.outcome.Try.{Try}
use Rattle.request_tries.specs.declared.outcome.TryCause.{TryCause}
use Rattle.request_tries.specs.declared.outcome.TryCause.TheVariants as cause
use Rattle.site_programs.specs.Errands.{AsksSite}
use Rattle.site_programs.specs.Touched.{IsReached, MayGoThrough, TryIsReached}
use Rattle.site_programs.proofs.Showing.{outcome_of_end}

-- each group that a call enters, and each table that it accesses, is within the reach of its action
abbrev pub GroupRule : Type 0
GroupRule = (call : ActionCall) (group : GroupNo) → EntersGroup site_parts (steps_of call) group → MayEnterGroup call.action group

abbrev pub TableRule : Type 0
TableRule = (call : ActionCall) (table : ℕ) → Accesses (steps_of call) table → has_table (reach_of call.action) table ≡ true

-- what an errand enters, the steps of its call enter in the site
groups_reached : GroupRule → (start : Start) (errand : Errand) (call : ActionCall) (group : GroupNo) → AsksSite start errand call
    → EntersGroup start.deployment errand.asks group → MayEnterGroup call.action group
groups_reached rule start errand call group asks enters =
    rule call group (subst (λ (steps : List Answer → Next). EntersGroup site_parts steps group) asks.steps_are
    (subst (λ (parts : Parts). EntersGroup parts errand.asks group) asks.parts_are enters))

cause_reached : GroupRule → TableRule → (start : Start) (errand : Errand) (call : ActionCall) → AsksSite start errand call → (es : List Entry) (at : ℕ) (why : TryCause)
    → CauseStands start.deployment errand.asks es at why → IsReached call.action why
cause_reached groups tables start errand call asks es at (cause.Revoked shown) stands = groups_reached groups start errand call shown.group asks stands.1
cause_reached groups tables start errand call asks es at (cause.Conflict mark newest) stands =
    tables call (table_in mark) (subst (λ (steps : List Answer → Next). Accesses steps (table_in mark)) asks.steps_are stands.1)

tries_reached : GroupRule → TableRule → (start : Start) (errand : Errand) (call : ActionCall) → AsksSite start errand call → (es : List Entry) (from : ℕ) (tries : List Try)
    → AreTries start.deployment errand.asks es from tries → All (TryIsReached call.action) tries
tries_reached groups tables start errand call asks es from [] are = All-nil (TryIsReached call.action)
tries_reached groups tables start errand call asks es from (t ∷ ts) are =
    All-cons (TryIsReached call.action) t ts (cause_reached groups tables start errand call asks (take t.front.0 es) t.at.0 t.cause are.1.cause)
    (tries_reached groups tables start errand call asks es t.front.0 ts are.2)

pub down_reached : GroupRule → (start : Start) (events : List Event) (errand : Errand) (call : ActionCall) (e : Ended) (group : GroupNo) (down : Place) → AsksSite start errand call
    → EndStands start events errand e → e.outcome ≡ outcomes.Sentinel group down → MayEnterGroup call.action group
down_reached groups start events errand call e group down asks stands is =
    let shows = outcome_of_end start events errand e (outcomes.Sentinel group down) stands is in
    groups_reached groups start errand call group asks shows.1

-- each component that a call enters is one that its action may enter
abbrev pub ComponentRule : Type 0
ComponentRule = (call : ActionCall) (answers : List Answer) (component : ComponentNo) (method : ℕ) → steps_of call answers ≡ next.Enter component method
    → MayEnter call.action component method

-- the component that fails an errand is one that its call may enter
component_reached : ComponentRule → (start : Start) (errand : Errand) (call : ActionCall) (component : ComponentNo) (path : List ComponentNo) → AsksSite start errand call
    → FailsOnItsWay errand.asks component path → (method : ℕ) × MayEnter call.action component method
component_reached rule start errand call component path asks fails =
    let steps : FailsOnItsWay (steps_of call) component path = subst (λ (steps : List Answer → Next). FailsOnItsWay steps component path) asks.steps_are fails in
    (steps.method, rule call steps.answers component steps.method steps.asked)

-- so are those that it entered before
step_reached : ComponentRule → (call : ActionCall) (answers : List Answer) (step : Next) → steps_of call answers ≡ step → All (MayGoThrough call.action) (entered_in step)
step_reached rule call answers (next.Enter c m) is = All-cons (MayGoThrough call.action) c [] (m, rule call answers c m is) (All-nil (MayGoThrough call.action))
step_reached rule call answers (next.Read id) is = All-nil (MayGoThrough call.action)
step_reached rule call answers (next.List table) is = All-nil (MayGoThrough call.action)
step_reached rule call answers (next.Put w) is = All-nil (MayGoThrough call.action)
step_reached rule call answers next.Exit is = All-nil (MayGoThrough call.action)
step_reached rule call answers (next.Done d) is = All-nil (MayGoThrough call.action)

steps_reached : ComponentRule → (call : ActionCall) (answers : List Answer) (places : List ℕ)
    → All (MayGoThrough call.action) (flat_map (λ before. entered_in (steps_of call (take before answers))) places)
steps_reached rule call answers [] = All-nil (MayGoThrough call.action)
steps_reached rule call answers (n ∷ ns) =
    subst (λ (cs : List ComponentNo). All (MayGoThrough call.action) cs) (sym (flat_map-cons (λ before. entered_in (steps_of call (take before answers))) n ns))
    (All-append (MayGoThrough call.action) (entered_in (steps_of call (take n answers))) (flat_map (λ before. entered_in (steps_of call (take before answers))) ns)
    (step_reached rule call (take n answers) (steps_of call (take n answers)) refl) (steps_reached rule call answers ns))

entered_reached : ComponentRule → (call : ActionCall) (answers : List Answer) → All (MayGoThrough call.action) (entered_by (steps_of call) answers)
unfolding entered_by
entered_reached rule call answers = steps_reached rule call answers (range_with_len 0 (length answers))

-- The path of an errand that a component fails has such components alone.
path_reached : ComponentRule → (start : Start) (errand : Errand) (call : ActionCall) (component : ComponentNo) (path : List ComponentNo) → AsksSite start errand call
    → FailsOnItsWay errand.asks component path → All (MayGoThrough call.action) path
path_reached rule start errand call component path asks fails =
    let steps : FailsOnItsWay (steps_of call) component path = subst (λ (steps : List Answer → Next). FailsOnItsWay steps component path) asks.steps_are fails in
    subst (λ (cs : List ComponentNo). All (MayGoThrough call.action) cs) (sym steps.path_is)
    (All-append (MayGoThrough call.action) (entered_by (steps_of call) steps.answers) (component ∷ []) (entered_reached rule call steps.answers)
    (All-cons (MayGoThrough call.action) component [] (component_reached rule start errand call component path asks fails) (All-nil (MayGoThrough call.action))))

pub hung_reached : ComponentRule → (start : Start) (events : List Event) (errand : Errand) (call : ActionCall) (e : Ended) (component : ComponentNo) (fault : ℕ) (path : List ComponentNo) → AsksSite start errand call
    → EndStands start events errand e → e.outcome ≡ outcomes.Hung component fault path → (method : ℕ) × MayEnter call.action component method
hung_reached rule start events errand call e component fault path asks stands is =
    let shows = outcome_of_end start events errand e (outcomes.Hung component fault path) stands is in
    component_reached rule start errand call component path asks shows.1

pub raised_reached : ComponentRule → (start : Start) (events : List Event) (errand : Errand) (call : ActionCall) (e : Ended) (component : ComponentNo) (fault : ℕ) (path : List ComponentNo) → AsksSite start errand call
    → EndStands start events errand e → e.outcome ≡ outcomes.Raised component fault path → (method : ℕ) × MayEnter call.action component method
raised_reached rule start events errand call e component fault path asks stands is =
    let shows = outcome_of_end start events errand e (outcomes.Raised component fault path) stands is in
    component_reached rule start errand call component path asks shows.1

pub failed_reached : ComponentRule → (start : Start) (events : List Event) (errand : Errand) (call : ActionCall) (e : Ended) (component : ComponentNo) (fault : ℕ) (path : List ComponentNo) → AsksSite start errand call
    → EndStands start events errand e → (e.outcome ≡ outcomes.Hung component fault path) ⊎ (e.outcome ≡ outcomes.Raised component fault path) → All (MayGoThrough call.action) path
failed_reached rule start events errand call e component fault path asks stands (inl is) =
    let shows = outcome_of_end start events errand e (outcomes.Hung component fault path) stands is in
    path_reached rule start errand call component path asks shows.1
failed_reached rule start events errand call e component fault path asks stands (inr is) =
    let shows = outcome_of_end start events errand e (outcomes.Raised component fault path) stands is in
    path_reached rule start errand call component path asks shows.1

pub revoked_reached : GroupRule → TableRule → (start : Start) (events : List Event) (errand : Errand) (call : ActionCall) (e : Ended) (tries : List Try) → AsksSite start errand call
    → EndStands start events errand e → e.outcome ≡ outcomes.Revoked tries → All (TryIsReached call.action) tries
revoked_reached groups tables start events errand call e tries asks stands is =
    let shows = outcome_of_end start events errand e (outcomes.Revoked tries) stands is in
    tries_reached groups tables start errand call asks (entries_in (take e.held events)) e.from.0 tries shows.0

pub conflict_reached : GroupRule → TableRule → (start : Start) (events : List Event) (errand : Errand) (call : ActionCall) (e : Ended) (tries : List Try) → AsksSite start errand call
    → EndStands start events errand e → e.outcome ≡ outcomes.Conflict tries → All (TryIsReached call.action) tries
conflict_reached groups tables start events errand call e tries asks stands is =
    let shows = outcome_of_end start events errand e (outcomes.Conflict tries) stands is in
    tries_reached groups tables start errand call asks (entries_in (take e.held events)) e.from.0 tries shows.0

-- a purchase alone enters by a method that may not be called again
abbrev pub OnceRule : Type 0
OnceRule = (call : ActionCall) → EntersOnce site_parts (steps_of call) ↔ ((item : ℕ) × (call.action ≡ Buy item))

pub once_bought : OnceRule → (start : Start) (errand : Errand) (call : ActionCall) → AsksSite start errand call → EntersOnce start.deployment errand.asks
    → (item : ℕ) × (call.action ≡ Buy item)
once_bought rule start errand call asks once =
    (rule call).0 (subst (λ (steps : List Answer → Next). EntersOnce site_parts steps) asks.steps_are
    (subst (λ (parts : Parts). EntersOnce parts errand.asks) asks.parts_are once))
