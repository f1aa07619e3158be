-- A step of others with a request changes neither whether its program is still to be made nor whether its response has
-- left.
use Rattle.std.proofs.Common.{◌≡◌, Bool, true, false, not, List, map, Option, Some, None, refl, sym, ap, ◌∙◌}
use Rattle.std.specs.Prelude.{nat_lt, if◌then◌else◌}
use Rattle.boot_core.specs.Boot.{BootValue}
use Rattle.call_ticket.specs.declared.next.Answer.{Answer}
use Rattle.call_ticket.specs.declared.next.Next.{Next}
use Rattle.container_core.specs.Container.{ContainerValue, events_of}
use Rattle.container_core.specs.declared.history.Event.{Event}
use Rattle.outside.specs.Link.{Tally}
use Rattle.request_visit.specs.Serving.{closing_of}
use Rattle.request_visit.specs.Stepping.{left_so}
use Rattle.request_visit.specs.Visits.{after_outcome, fate_missed, fate_written, overloaded, with_fate}
use Rattle.request_visit.specs.declared.ready.Ready.TheVariants.{Respond, Write}
use Rattle.request_visit.specs.declared.serving.Closed.{Closed}
use Rattle.request_visit.specs.declared.serving.Closed.TheVariants as closes
use Rattle.request_visit.specs.declared.serving.Closing.{Closing}
use Rattle.request_visit.specs.declared.visit.Fate.{Fate}
use Rattle.request_visit.specs.declared.visit.Visit.{Visit}
use Rattle.request_visit.specs.declared.visit.Work.{Work}
use Rattle.request_visit.specs.declared.visit.Work.TheVariants.{Reading, Opening, Serving as ServingBy, Committed, Decided, Answered, Left}
use Rattle.send_windows.specs.Facts.{full_facts, open_count}
use Rattle.send_windows.specs.Passes.{hushed}
use Rattle.send_windows.specs.Windows.{WindowsValue, after_spend, refused, taken}
use Rattle.send_windows.specs.declared.fact.WindowFact.{WindowFact}
use Rattle.session_way.specs.Way.{answer_held, passes_for}
use Rattle.session_way.specs.Writing.{passes_spent, write_begun}
use Rattle.session_way.specs.declared.session_write.WriteOrder.{WriteOrder}
use Rattle.session_way.specs.declared.session_write.WriteOutcome.{WriteOutcome}
use Rattle.session_way.specs.declared.session_write.WriteOutcome.TheVariants as outcome
use Rattle.session_way.specs.declared.way.SessionWay.{SessionWay}
use Rattle.session_way.specs.declared.way.SessionWay.TheVariants as way
use Rattle.shepherd.specs.Standing.{has_left, is_early}
use Rattle.shepherd.specs.declared.shepherd.Stage.{Stage}
use Rattle.shepherd.specs.declared.shepherd.Stage.TheVariants.{Resting, Serving, Refusing, Over}
use Rattle.shepherd_steps.specs.Alone.{HasCall}
use Rattle.shepherd_steps.specs.Events.{owes}
use Rattle.shepherd_steps.specs.Inside.{Course, Goes, Ends, after_course, inside, inside_of, stride, untold}
use Rattle.shepherd_steps.specs.Outside.{Replies, outside}
use Rattle.shepherd_steps.specs.Passes.{goes, outcome_of, takes, windows_by, windows_step}
use Rattle.shepherd_steps.specs.Stepping.{steps_in}

-- Two works are as far from their program and from their response.
abbrev pub Same : {P : Type 0} → Work P → Work P → Type 0
Same new old = (is_early new ≡ is_early old) × (has_left new ≡ has_left old)

over-same : {P : Type 0} (full : List WindowFact) (w : Work P) → Same (overloaded full w) w
over-same full Reading = (refl, refl)
over-same full Opening = (refl, refl)
over-same full (ServingBy tries program) = (refl, refl)
over-same full (Committed place again shown) = (refl, refl)
over-same full (Decided became) = (refl, refl)
over-same full (Answered fate bytes) = (refl, refl)
over-same full (Left fate) = (refl, refl)

fate-same : {P : Type 0} (change : Fate → Fate) (w : Work P) → Same (with_fate change w) w
fate-same change Reading = (refl, refl)
fate-same change Opening = (refl, refl)
fate-same change (ServingBy tries program) = (refl, refl)
fate-same change (Committed place again shown) = (refl, refl)
fate-same change (Decided became) = (refl, refl)
fate-same change (Answered fate bytes) = (refl, refl)
fate-same change (Left fate) = (refl, refl)

told-same : {P : Type 0} (o : Option WriteOutcome) (v : Visit P) → Same (after_outcome o v).work v.work
told-same None v = (refl, refl)
told-same (Some (outcome.Written cookie)) v = fate-same fate_written v.work
told-same (Some (outcome.Missed causes)) v = fate-same (fate_missed causes) v.work

goes-same : {P : Type 0} (v : Visit P) (to : SessionWay) (windows : WindowsValue) → Same (goes v to windows).0.work v.work
goes-same v to windows = told-same (outcome_of (answer_held v.way)) (record v { way = to })

takes-same : {P : Type 0} (v : Visit P) (order : WriteOrder) (windows : WindowsValue) → Same (takes v order windows).0.work v.work
takes-same {P} v order windows = by (nat_lt (open_count windows.facts) windows.wq) where
  by : (few : Bool)
      → Same (if few then (record v { way = way.Resting; work = overloaded (full_facts windows.facts) v.work }, refused windows)
      else goes v (way.Writing (write_begun order windows.wq (passes_for order windows))) (taken windows (passes_for order windows))).0.work v.work
  by true = over-same (full_facts windows.facts) v.work
  by false =
      goes-same v (way.Writing (write_begun order windows.wq (passes_for order windows))) (taken windows (passes_for order windows))

by-way : {P : Type 0} (v : Visit P) (w : SessionWay) (windows : WindowsValue) → Same (windows_by v w windows).0.work v.work
by-way v way.Resting windows = (refl, refl)
by-way v (way.Reading r) windows = (refl, refl)
by-way v (way.Ordered order) windows = takes-same v order windows
by-way v (way.Writing w) windows = (refl, refl)
by-way v (way.Settling w) windows =
    goes-same v way.Resting (after_spend windows (passes_spent w))
by-way v (way.Holding passes) windows =
    goes-same v way.Resting (after_spend windows (map hushed passes))

pub windows-same : {P : Type 0} (v : Visit P) (windows : WindowsValue) → Same (windows_step v windows).0.work v.work
unfolding windows_step
windows-same v windows = by-way v v.way windows

pub outside-same : {P L : Type 0} (replies : Replies L) (tally : L → Tally) (v : Visit P) (link : L) → Same (outside replies tally v link).0.work v.work
unfolding outside
outside-same replies tally v link = (refl, refl)

-- a request that was served is neither early nor left after its step
closed-late : {P : Type 0} (c : Closed) (v : Visit P) → (is_early (left_so c v).work ≡ false) × (has_left (left_so c v).work ≡ false)
closed-late (closes.Page place again (Respond bytes)) v = (refl, refl)
closed-late (closes.Page place again (Write order shown)) v = (refl, refl)
closed-late (closes.Other became) v = (refl, refl)

course-late : {P : Type 0} (v : Visit P) (program : P) (c : ContainerValue) (to : Course)
    → (is_early (after_course v program c to).work ≡ false) × (has_left (after_course v program c to).work ≡ false)
course-late v program c (Goes tries) = (refl, refl)
course-late v program c (Ends end) =
    let closing : Closing = closing_of v.facts v.lease (events_of c) end in
    closed-late closing.closed (record v { holds = closing.holds })

by-work : {P : Type 0} (asks : P → List Answer → Next) (keeps : Bool) (v : Visit P) (w : Work P) (c : ContainerValue) → v.work ≡ w
    → Same (inside_of asks keeps v w c).visit.work w
by-work {P} asks keeps v Reading c is = (ap (λ (x : Work P). is_early x) is, ap (λ (x : Work P). has_left x) is)
by-work {P} asks keeps v Opening c is = (ap (λ (x : Work P). is_early x) is, ap (λ (x : Work P). has_left x) is)
by-work asks keeps v (ServingBy tries program) c is =
    let to = stride (asks program) keeps c tries tries.attempt in course-late v program to.container to.course
by-work {P} asks keeps v (Committed place again shown) c is =
    (ap (λ (x : Work P). is_early x) is, ap (λ (x : Work P). has_left x) is)
by-work {P} asks keeps v (Decided became) c is =
    (ap (λ (x : Work P). is_early x) is, ap (λ (x : Work P). has_left x) is)
by-work {P} asks keeps v (Answered fate bytes) c is =
    (ap (λ (x : Work P). is_early x) is, ap (λ (x : Work P). has_left x) is)
by-work {P} asks keeps v (Left fate) c is = (ap (λ (x : Work P). is_early x) is, ap (λ (x : Work P). has_left x) is)

pub inside-same : {P : Type 0} (asks : P → List Answer → Next) (keeps : Bool) (v : Visit P) (boot : BootValue) (since : List Event)
    → Same (inside asks keeps v boot since).visit.work v.work
unfolding inside
inside-same asks keeps v boot since = by-work asks keeps v v.work (untold boot since) refl

pub steps-called : {P X : Type 0} (by : Visit P → X → Visit P × X) → ((v : Visit P) (x : X) → Same (by v x).0.work v.work)
    → (stage : Stage P) (x : X) → HasCall stage → HasCall (steps_in by stage x).0
steps-called by same Resting x has = tt
steps-called by same (Serving v call) x has = λ early. has (sym (same v x).0 ∙ early)
steps-called by same (Refusing why bytes) x has = tt
steps-called by same (Over end) x has = tt

pub steps-owe : {P X : Type 0} (by : Visit P → X → Visit P × X) → ((v : Visit P) (x : X) → Same (by v x).0.work v.work)
    → (stage : Stage P) (x : X) → owes (steps_in by stage x).0 ≡ owes stage
steps-owe by same Resting x = refl
steps-owe by same (Serving v call) x = ap not (same v x).1
steps-owe by same (Refusing why bytes) x = refl
steps-owe by same (Over end) x = refl
