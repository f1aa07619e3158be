-- A request after a step in the container is the one that the function gives.
use Rattle.std.proofs.Common.{◌≡◌, Bool, if◌then◌else◌, List, [], ◌∷◌, Option, Some, None, refl, sym, ap, ◌∙◌}
use Rattle.std.specs.Prelude.{option_map}
use Rattle.boot_core.specs.Boot.{BootValue}
use Rattle.boot_core.specs.declared.refusals.CommitRefusal.{CommitRefusal}
use Rattle.boot_core.specs.declared.refusals.CommitRefusal.TheVariants as commits
use Rattle.crash_base.specs.declared.rows.RowWrite.{RowWrite}
use Rattle.call_attempts.specs.Attempt.{AttemptValue, stop_of_attempt, wanted}
use Rattle.call_attempts.specs.declared.attempt.Stepped.{Stepped}
use Rattle.call_attempts.specs.declared.attempt.Stepped.TheVariants as coming
use Rattle.journal_model.specs.declared.entry.DoneText.{DoneText}
use Rattle.request_tries.specs.Steps.{refusal_of}
use Rattle.call_ticket.specs.declared.next.Answer.{Answer}
use Rattle.call_ticket.specs.declared.next.Next.{Next}
use Rattle.container_core.specs.Container.{ContainerValue, events_of}
use Rattle.container_core.specs.declared.history.Event.{Event}
use Rattle.request_tries.specs.Serving.{TriesValue}
use Rattle.request_tries.specs.declared.outcome.Ended.{Ended}
use Rattle.request_visit.specs.Serving.{closing_of}
use Rattle.request_visit.specs.Stepping.{ServesBy, ServesWork, VisitsInside, after_closing, after_closing_if}
use Rattle.request_visit.specs.declared.ready.Ready.TheVariants.{Respond, Write}
use Rattle.request_visit.specs.declared.serving.Closed.{Closed}
use Rattle.request_visit.specs.declared.serving.Closed.TheVariants as closes
use Rattle.request_visit.specs.declared.serving.Closing.{Closing}
use Rattle.request_visit.specs.declared.visit.Visit.{Visit}
use Rattle.request_visit.specs.declared.visit.Work.{Work}
use Rattle.request_visit.specs.declared.visit.Work.TheVariants.{Reading, Opening, Serving, Committed, Decided, Answered, Left}
use Rattle.shepherd_steps.specs.Inside.{Inside, Stride, HasReplied, added_to, after_course, came_by, commits_by, handed, handed_at, handed_by, handed_in, handed_of, inside, inside_by, inside_of, kept_in, stride, stride_by, untold, with_keeper}
use Rattle.shepherd_steps.proofs.Strides.{Comes, came_to, strides}

-- a request that leaves the container has the same work whatever work it had
closed-over : {P : Type 0} (closing : Closing) (v : Visit P) (w : Work P) → after_closing closing (record v { work = w }) ≡ after_closing closing v
closed-over {P} closing v w = by closing.closed where
  by : (c : Closed) → Rattle.request_visit.specs.Stepping.left_so c (record v { work = w; holds = closing.holds }) ≡ Rattle.request_visit.specs.Stepping.left_so c (record v { holds = closing.holds })
  by (closes.Page place again (Respond bytes)) = refl
  by (closes.Page place again (Write order shown)) = refl
  by (closes.Other became) = refl

events-same : (x y : ContainerValue) → x.boot ≡ y.boot → x.since ≡ y.since → events_of x ≡ events_of y
events-same x y boot since =
    ap (λ (b : BootValue). events_of (record x { boot = b })) boot
    ∙ ap (λ (es : List Event). events_of (record x { boot = y.boot; since = es })) since

-- a request by the end that a step came to
by-end : {P : Type 0} (v : Visit P) (program : P) (new : ContainerValue) (after : TriesValue) (end : Option Ended) (closing : Option Closing)
    → closing ≡ option_map (closing_of v.facts v.lease (events_of new)) end
    → after_closing_if closing (record v { work = Serving after program }) ≡ after_course v program new (came_to end after)
by-end v program new after None closing is =
    ap (λ (c : Option Closing). after_closing_if c (record v { work = Serving after program })) is
by-end v program new after (Some end) closing is =
    ap (λ (c : Option Closing). after_closing_if c (record v { work = Serving after program })) is
    ∙ closed-over (closing_of v.facts v.lease (events_of new) end) v (Serving after program)

-- the same, by what the step left of the container
by-stride : {P : Type 0} (v : Visit P) (program : P) (to : Stride) (end : Option Ended) (new : ContainerValue) (after : TriesValue) → Comes to end after new
    → after_course v program new (came_to end after) ≡ after_course v program to.container to.course
by-stride v program to end new after comes =
    ap (λ (c : Rattle.shepherd_steps.specs.Inside.Course). after_course v program new c) comes.course
    ∙ over to.course where
      over : (c : Rattle.shepherd_steps.specs.Inside.Course) → after_course v program new c ≡ after_course v program to.container c
      over (Rattle.shepherd_steps.specs.Inside.Goes tries) = refl
      over (Rattle.shepherd_steps.specs.Inside.Ends end) =
          ap (λ (es : List Event). after_closing (closing_of v.facts v.lease es end) v) (events-same new to.container comes.boot comes.since)

-- the parts of a step together
together : {P : Type 0} (x y : Inside P) → x.visit ≡ y.visit → x.boot ≡ y.boot → x.since ≡ y.since → x ≡ y
together {P} x y visit boot since =
    ap (λ (v : Visit P). let i : Inside P = record { visit = v; boot = x.boot; since = x.since } in i) visit
    ∙ (ap (λ (b : BootValue). let i : Inside P = record { visit = y.visit; boot = b; since = x.since } in i) boot
    ∙ ap (λ (es : List Event). let i : Inside P = record { visit = y.visit; boot = y.boot; since = es } in i) since)

-- what the keeper tells of itself changes nothing of what a step leaves
untold-same : {P : Type 0} (v : Visit P) (program : P) (asks : List Answer → Next) (keeps : Bool) (c : ContainerValue) (s : TriesValue) (at : Option AttemptValue)
    → inside_by v program (stride asks keeps c s at) ≡ inside_by v program (stride asks keeps (untold c.boot c.since) s at)
untold-same v program asks keeps c s None = refl
untold-same {P} v program asks keeps c s (Some a) = by (came_by (wanted asks a) (stop_of_attempt c.boot asks a)) where
  refused : (done : DoneText) (r : Option CommitRefusal) → inside_by v program (commits_by c s a done r) ≡ inside_by v program (commits_by (untold c.boot c.since) s a done r)
  refused done None = refl
  refused done (Some refusal) = refl

  by : (came : Stepped) → inside_by v program (stride_by asks keeps c s a came) ≡ inside_by v program (stride_by asks keeps (untold c.boot c.since) s a came)
  by coming.Went = refl
  by (coming.Done done) = refused done (with_keeper (refusal_of c s a done) a.ticket.call.writes keeps)
  by (coming.Stopped stop) = refl

serves-so : {P : Type 0} (asks : P → List Answer → Next) (v : Visit P) (old : ContainerValue) (w : Work P) (closing : Option Closing) (new : ContainerValue) (work : Work P)
    → ServesWork asks old v.facts v.lease w closing new work
    → (let after : Inside P = record { visit = after_closing_if closing (record v { work = work }); boot = new.boot; since = new.since } in after)
    ≡ inside_of asks (kept_in (added_to old.since new.since)) v w (untold old.boot old.since)
serves-so asks v old Reading closing new work serves = absurd serves
serves-so asks v old Opening closing new work serves = absurd serves
serves-so {P} asks v old (Serving tries program) closing new work serves =
    let s = serves.serves in
    let comes = strides (asks program) old tries tries.attempt s.to s.between s.mid s.end new serves.after refl s.steps s.goes_on in
    let to : Stride = stride (asks program) (kept_in (added_to old.since new.since)) old tries tries.attempt in
    together (record { visit = after_closing_if closing (record v { work = work }); boot = new.boot; since = new.since }) (inside_by v program to)
    (ap (λ (w : Work P). after_closing_if closing (record v { work = w })) serves.work_is
    ∙ (by-end v program new serves.after s.end closing s.closing_is ∙ by-stride v program to s.end new serves.after comes))
    comes.boot comes.since
    ∙ untold-same v program (asks program) (kept_in (added_to old.since new.since)) old tries tries.attempt
serves-so asks v old (Committed place again shown) closing new work serves = absurd serves
serves-so asks v old (Decided became) closing new work serves = absurd serves
serves-so asks v old (Answered fate bytes) closing new work serves = absurd serves
serves-so asks v old (Left fate) closing new work serves = absurd serves

pub inside-fixed : {P : Type 0} (asks : P → List Answer → Next) (old new : Visit P) (container after : ContainerValue) → VisitsInside asks old container new after
    → (let to : Inside P = record { visit = new; boot = after.boot; since = after.since } in to)
    ≡ inside asks (kept_in (added_to container.since after.since)) old container.boot container.since
unfolding inside
inside-fixed {P} asks old new container after visits =
    ap (λ (v : Visit P). let to : Inside P = record { visit = v; boot = after.boot; since = after.since } in to) visits.new_is
    ∙ serves-so asks old container old.work visits.closing after visits.work visits.serves

-- what the keeper replies matters only where it was called
replied : (r : Option CommitRefusal) (writes : List RowWrite) (keeps : Bool) (added : List Event) → HasReplied keeps (handed_by r writes) added
    → with_keeper r writes (kept_in added) ≡ with_keeper r writes keeps
replied None [] keeps added h = refl
replied None (w ∷ ws) keeps added h = ap (λ (k : Bool). if k then None else Some commits.KeeperFailed) (sym h)
replied (Some refusal) writes keeps added h = refl

stride-replied : (asks : List Answer → Next) (keeps : Bool) (added : List Event) (c : ContainerValue) (s : TriesValue) (at : Option AttemptValue)
    → HasReplied keeps (handed_in asks c s at) added → stride asks (kept_in added) c s at ≡ stride asks keeps c s at
stride-replied asks keeps added c s None h = refl
stride-replied asks keeps added c s (Some a) h = by (came_by (wanted asks a) (stop_of_attempt c.boot asks a)) h where
  by : (came : Stepped) → HasReplied keeps (handed_at c s a came) added → stride_by asks (kept_in added) c s a came ≡ stride_by asks keeps c s a came
  by coming.Went e = refl
  by (coming.Done done) e =
      ap (λ (r : Option CommitRefusal). commits_by c s a done r) (replied (refusal_of c s a done) a.ticket.call.writes keeps added e)
  by (coming.Stopped stop) e = refl

inside-replied : {P : Type 0} (asks : P → List Answer → Next) (keeps : Bool) (added : List Event) (v : Visit P) (w : Work P) (boot : BootValue) (since : List Event)
    → HasReplied keeps (handed_of asks w (untold boot [])) added
    → inside_of asks (kept_in added) v w (untold boot since) ≡ inside_of asks keeps v w (untold boot since)
inside-replied asks keeps added v Reading boot since h = refl
inside-replied asks keeps added v Opening boot since h = refl
inside-replied asks keeps added v (Serving tries program) boot since h =
    ap (λ (to : Stride). inside_by v program to) (stride-replied (asks program) keeps added (untold boot since) tries tries.attempt (same tries.attempt h)) where
      same : (at : Option AttemptValue) → HasReplied keeps (handed_in (asks program) (untold boot []) tries at) added
          → HasReplied keeps (handed_in (asks program) (untold boot since) tries at) added
      same None e = e
      same (Some a) e = by (came_by (wanted (asks program) a) (stop_of_attempt boot (asks program) a)) e where
        by : (came : Stepped) → HasReplied keeps (handed_at (untold boot []) tries a came) added → HasReplied keeps (handed_at (untold boot since) tries a came) added
        by coming.Went x = x
        by (coming.Done done) x = x
        by (coming.Stopped stop) x = x
inside-replied asks keeps added v (Committed place again shown) boot since h = refl
inside-replied asks keeps added v (Decided became) boot since h = refl
inside-replied asks keeps added v (Answered fate bytes) boot since h = refl
inside-replied asks keeps added v (Left fate) boot since h = refl

pub inside-so : {P : Type 0} (asks : P → List Answer → Next) (keeps : Bool) (old new : Visit P) (container after : ContainerValue)
    → HasReplied keeps (handed asks old container.boot) (added_to container.since after.since) → VisitsInside asks old container new after
    → (let to : Inside P = record { visit = new; boot = after.boot; since = after.since } in to) ≡ inside asks keeps old container.boot container.since
unfolding inside handed
inside-so asks keeps old new container after replies visits =
    inside-fixed asks old new container after visits
    ∙ inside-replied asks keeps (added_to container.since after.since) old old.work container.boot container.since replies
