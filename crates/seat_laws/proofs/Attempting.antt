-- The call of an open attempt fits the boot behind a step in the container, and so does the one that is committed.
use Rattle.std.specs.Prelude.{IfSome, IsSome}
use Rattle.std.proofs.Common.{◌≡◌, inl, inr, ◌∙◌, ◌<◌, ◌&&◌, ◌+◌, ℕ, Bool, true, false, nat_lt, if◌then◌else◌, List, [], ◌∷◌, ◌++◌, append-nil, length, Option, Some, None, option_map, refl, sym, ap, subst, arith}
use Rattle.auction_calls.specs.Calls.{is_action}
use Rattle.auction_calls.specs.declared.action.ActionCall.{ActionCall}
use Rattle.auction_rows.specs.Parts.{site_components, site_parts}
use Rattle.auction_site.specs.Actions.{steps_of}
use Rattle.boot_core.proofs.Fitting.{fits_entering, fits_leaving, fits_listing, fits_putting, fits_reading}
use Rattle.boot_core.proofs.Refusing.{first_none, map_none}
use Rattle.boot_core.specs.Boot.{BootValue, HasGrown}
use Rattle.boot_core.specs.Fits.{FitsIn}
use Rattle.boot_core.specs.declared.boot.Start.{Start}
use Rattle.boot_core.specs.declared.refusals.CommitRefusal.{CommitRefusal}
use Rattle.boot_core.specs.declared.refusals.CommitRefusal.TheVariants as commits
use Rattle.call_attempts.proofs.UnderWay.{begins, boot_grows, goes_on, same_request, stays}
use Rattle.call_attempts.specs.Attempt.{AttemptValue, Continues, IsUnderWay, boot_after, rows_at_begin, stepped, stop_of_attempt, ticket_after, wanted}
use Rattle.call_attempts.specs.Stops.{fault_stops, stop_of}
use Rattle.call_attempts.specs.declared.attempt.Stepped.TheVariants as coming
use Rattle.call_attempts.specs.declared.stop.Stop.{Stop}
use Rattle.call_attempts.specs.declared.stop.Stop.TheVariants as stops
use Rattle.call_ticket.specs.Following.{Follows, MayMake}
use Rattle.call_ticket.specs.Runs.{run_of}
use Rattle.call_ticket.specs.Ticket.{TicketValue}
use Rattle.call_ticket.specs.declared.next.Answer.{Answer}
use Rattle.call_ticket.specs.declared.next.Next.{Next}
use Rattle.call_ticket.specs.declared.next.Next.TheVariants as next
use Rattle.container_core.specs.Container.{ContainerValue}
use Rattle.crash_base.specs.declared.numbers.ComponentNo.{ComponentNo}
use Rattle.crash_base.specs.declared.numbers.Place.{Place}
use Rattle.crash_base.specs.declared.numbers.RequestNo.{RequestNo}
use Rattle.crash_base.specs.declared.rows.RowWrite.{RowWrite}
use Rattle.crash_base.specs.declared.scope.TheConstants.{MAX_GROUPS}
use Rattle.deployment.proofs.Grouping.{group_below}
use Rattle.deployment.specs.Groups.{group_no, group_of}
use Rattle.deployment.specs.declared.parts.Parts.{Parts}
use Rattle.journal_model.specs.Calls.{Call, entry_of}
use Rattle.journal_model.specs.Reboots.{down_of}
use Rattle.journal_model.specs.Stale.{stale_in}
use Rattle.journal_model.specs.declared.entry.DoneText.{DoneText}
use Rattle.journal_model.specs.declared.entry.Entry.{Entry}
use Rattle.journal_model.specs.declared.entry.Entry.TheVariants.{Commit}
use Rattle.journal_model.specs.declared.stale.Stale.{Stale}
use Rattle.request_tries.specs.Serving.{TriesValue, closed, with_try}
use Rattle.request_tries.specs.Steps.{action_of, ended_at, from_of, front_at, outcome_by, refusal_of, try_ended}
use Rattle.request_tries.specs.declared.outcome.HistoryFront.{HistoryFront}
use Rattle.request_tries.specs.declared.outcome.TheConstants.{MAX_TRIES}
use Rattle.request_tries.specs.declared.outcome.TryCause.{TryCause}
use Rattle.request_tries.specs.declared.outcome.TryCause.TheVariants as cause
use Rattle.shepherd_steps.specs.Inside.{Course, Ends, Goes, Stride, after_entry, after_refusal, after_stop, after_try, came_by, commits_by, stride, stride_by, with_keeper}
use Rattle.seat_laws.proofs.Passing.{CourseServes}
use Rattle.seat_laws.proofs.Running.{action-runs}
use Rattle.seat_laws.specs.Fitting.{CommitsAtMost, EntersAtMost, IsOpenFor, IsOwnCall, ServesInBoot}

-- a call that follows its program may make the step that is asked for next
abbrev pub FollowLaw : Type 0
FollowLaw = (parts : Parts) (asks : List Answer → Next) (rows : List RowWrite) (answers : List Answer) (call : Call) → IsSome (run_of parts asks rows)
    → Follows asks rows answers call → MayMake parts call (asks answers)

-- the boot has grown by what was committed
pub grown-by : (old new : BootValue) → CommitsAtMost old new → HasGrown old new
grown-by old new (inl (inl same)) = subst (λ (b : BootValue). HasGrown old b) (sym same) (record { start = refl; more = []; entries = sym (append-nil old.entries) })
grown-by old new (inl (inr (component, counts))) =
    subst (λ (b : BootValue). HasGrown old b) (sym counts) (record { start = refl; more = []; entries = sym (append-nil old.entries) })
grown-by old new (inr has) =
    let e : Entry = Commit (entry_of has.call (Some has.action)) in
    subst (λ (b : BootValue). HasGrown old b) (sym has.added) (record { start = refl; more = e ∷ []; entries = refl })

-- a request that is served in a boot is so in each that has grown from it
pub serves-on : (old new : BootValue) (tries : TriesValue) (program : ActionCall) → HasGrown old new → ServesInBoot old tries program → ServesInBoot new tries program
serves-on old new tries program grown serves = record {
  action = serves.action;
  own = serves.own ∙ ap (λ s. s.boot) (sym grown.start);
  attempt = by tries.attempt serves.attempt;
} where
  by : (o : Option AttemptValue) → IfSome o (IsOpenFor old program tries.request) → IfSome o (IsOpenFor new program tries.request)
  by None opened = tt
  by (Some a) opened = record { way = stays old new (steps_of program) a grown opened.way; request_is = opened.request_is }

-- the groups of the site's components are few
group-known : (parts : Parts) (c : ℕ) → parts ≡ site_parts → c < length parts.components → group_of parts c < MAX_GROUPS
unfolding site_components
group-known parts c is within =
    let few : length parts.components ≡ 8 = ap (λ (p : Parts). length p.components) is in
    let below = group_below parts.references c in
    omega (arith, few, below, within)

-- nothing that stops an enter leaves its group up
up-where : (boot : BootValue) (call : Call) (c : ComponentNo) (m : ℕ) → stop_of boot call (next.Enter c m) ≡ None
    → down_of boot.entries (group_of boot.start.deployment c.0) ≡ None
up-where boot call c m none =
    let g : ℕ = group_of boot.start.deployment c.0 in
    let first : Option Stop = option_map (λ (s : Stale). stops.Revoked s) (stale_in boot.entries call.touched) in
    let second : Option Stop = option_map (λ (place : Place). stops.Sentinel (group_no g) place) (down_of boot.entries g) in
    let third : Option Stop = fault_stops boot (next.Enter c m) in
    map_none (λ (place : Place). stops.Sentinel (group_no g) place) (down_of boot.entries g)
    (first_none second (third ∷ []) (first_none first (second ∷ third ∷ []) none).1).0

-- The call of a step that it may make, and that nothing stops, still fits.
fits-step : (boot : BootValue) (t : TicketValue) (x : Next) → boot.start.deployment ≡ site_parts → FitsIn boot t.call → MayMake boot.start.deployment t.call x
    → stop_of boot t.call x ≡ None → Continues x → FitsIn boot (ticket_after boot t x).call
fits-step boot t (next.Enter c m) site fits may none on =
    fits_entering boot t.call c fits (group-known boot.start.deployment c.0 site may.0) (up-where boot t.call c m none)
fits-step boot t (next.Read id) site fits may none on = fits_reading boot t.call id fits
fits-step boot t (next.List table) site fits may none on = fits_listing boot t.call table fits
fits-step boot t (next.Put w) site fits may none on = fits_putting boot t.call w fits may.1 may.0
fits-step boot t next.Exit site fits may none on = fits_leaving boot t.call fits
fits-step boot t (next.Done d) site fits may none on = absurd on

module _ (follow : FollowLaw) (boot : BootValue) (program : ActionCall) (site : boot.start.deployment ≡ site_parts) (action : is_action program.action ≡ true) where
  -- the open attempt may make the step that it asks for
  may-make : (a : AttemptValue) → IsUnderWay boot (steps_of program) a → MayMake boot.start.deployment a.ticket.call (wanted (steps_of program) a)
  may-make a way =
      let rows : List RowWrite = rows_at_begin boot a.ticket.call in
      follow boot.start.deployment (steps_of program) rows a.answers a.ticket.call
      (subst (λ (p : Parts). IsSome (run_of p (steps_of program) rows)) (sym site) (action-runs program rows action)) way.follows

  -- An attempt that was answered is under way still, in the boot that counts what it entered.
  pub steps-on : (a : AttemptValue) (request : RequestNo) → IsOpenFor boot program request a → Continues (wanted (steps_of program) a) → stop_of_attempt boot (steps_of program) a ≡ None
      → IsOpenFor (boot_after boot (wanted (steps_of program) a)) program request (stepped boot a (wanted (steps_of program) a))
  steps-on a request opened on none =
      let x : Next = wanted (steps_of program) a in
      let way : IsUnderWay boot (steps_of program) (stepped boot a x) =
      goes_on boot (steps_of program) a x opened.way refl on (fits-step boot a.ticket x site opened.way.fits (may-make a opened.way) none on) in
      record {
        way = stays boot (boot_after boot x) (steps_of program) (stepped boot a x) (boot_grows boot x) way;
        request_is = same_request boot a.ticket x ∙ opened.request_is;
      }

-- a step that was answered counts one entering more at most
enters-at-most : (boot : BootValue) (x : Next) → EntersAtMost boot (boot_after boot x)
enters-at-most boot (next.Enter component method) = inr (component, refl)
enters-at-most boot (next.Read id) = inl refl
enters-at-most boot (next.List table) = inl refl
enters-at-most boot (next.Put write) = inl refl
enters-at-most boot next.Exit = inl refl
enters-at-most boot (next.Done done) = inl refl

-- what a step comes to is served in the boot then, where it is served still
abbrev pub CourseFits : BootValue → ActionCall → Course → Type 0
CourseFits boot program course = CourseServes (ServesInBoot boot) program course

-- A step in the container leaves this.
pub record StrideFits (old : BootValue) (program : ActionCall) (s : Stride) : Type 0 where
  pub commits : CommitsAtMost old s.container.boot
  pub course : CourseFits s.container.boot program s.course

closed-fits : (boot : BootValue) (tries : TriesValue) (program : ActionCall) → ServesInBoot boot tries program → ServesInBoot boot (closed tries) program
closed-fits boot tries program serves = record { action = serves.action; own = serves.own; attempt = tt }

try-fits : (now : HistoryFront) (boot : BootValue) (s : TriesValue) (program : ActionCall) (at : Place) (why : TryCause) (repeats : Bool) → ServesInBoot boot s program → CourseFits boot program (after_try now s at why repeats)
try-fits now boot s program at why repeats serves = by (nat_lt (length s.tries + 1) MAX_TRIES && repeats) where
  by : (b : Bool) → CourseFits boot program (if b then Goes (with_try s (try_ended now at why)) else Ends (ended_at now (from_of s at) (outcome_by why (s.tries ++ try_ended now at why ∷ [])) None))
  by true = record { action = serves.action; own = serves.own; attempt = tt }
  by false = tt

stop-fits : (now : HistoryFront) (boot : BootValue) (s : TriesValue) (program : ActionCall) (at : Place) (repeats : Bool) (entered : List ComponentNo) (stop : Stop) → ServesInBoot boot s program → CourseFits boot program (after_stop now s at repeats entered stop)
stop-fits now boot s program at repeats entered (stops.Sentinel group down) serves = tt
stop-fits now boot s program at repeats entered (stops.Hung component fault) serves = tt
stop-fits now boot s program at repeats entered (stops.Raised component fault) serves = tt
stop-fits now boot s program at repeats entered (stops.Revoked shown) serves = try-fits now boot s program at (cause.Revoked shown) repeats serves

refusal-fits : (now : HistoryFront) (boot : BootValue) (es : List Entry) (s : TriesValue) (program : ActionCall) (at : Place) (repeats : Bool) (refusal : CommitRefusal) → ServesInBoot boot s program
    → CourseFits boot program (after_refusal now es s at repeats refusal)
refusal-fits now boot es s program at repeats (commits.Revoked shown) serves = try-fits now boot s program at (cause.Revoked shown) repeats serves
refusal-fits now boot es s program at repeats (commits.Conflict conflict) serves = try-fits now boot s program at (cause.Conflict conflict.mark conflict.newest) true serves
refusal-fits now boot es s program at repeats (commits.Already place) serves = tt
refusal-fits now boot es s program at repeats (commits.JournalFull full) serves = tt
refusal-fits now boot es s program at repeats commits.KeeperFailed serves = tt
refusal-fits now boot es s program at repeats commits.OutOfMemory serves = serves

pub unrefused : (o : Option CommitRefusal) (ws : List RowWrite) (keeps : Bool) → with_keeper o ws keeps ≡ None → o ≡ None
unrefused None ws keeps free = refl
unrefused (Some refusal) ws keeps free = absurd (cc)

-- the call of an open attempt is one of the boot's own
pub own-call : (boot : BootValue) (tries : TriesValue) (program : ActionCall) (a : AttemptValue) → tries.request.boot ≡ boot.start.boot → IsOpenFor boot program tries.request a → IsOwnCall boot a.ticket.call
own-call boot tries program a own opened = record { fits = opened.way.fits; own = ap (λ (r : RequestNo). r.boot) opened.request_is ∙ own }

commits-fit : (c : ContainerValue) (tries : TriesValue) (program : ActionCall) (a : AttemptValue) (done : DoneText) (refusal : Option CommitRefusal) → ServesInBoot c.boot tries program → IsOpenFor c.boot program tries.request a
    → (refusal ≡ None → refusal_of c tries a done ≡ None) → StrideFits c.boot program (commits_by c tries a done refusal)
commits-fit c tries program a done None serves opened free = record {
  commits = inr (record { call = a.ticket.call; action = record { text = tries.text; done = done }; is_own = own-call c.boot tries program a serves.own opened; unrefused = free refl; added = refl });
  course = tt;
}
commits-fit c tries program a done (Some refusal) serves opened free =
    let after : ContainerValue = after_entry c a.ticket.call (action_of tries done) (Some refusal) in
    record {
      commits = inl (inl refl);
      course = refusal-fits (front_at after) c.boot after.boot.entries (closed tries) program a.ticket.call.at a.repeats refusal (closed-fits c.boot tries program serves);
    }

-- the step of a request leaves the boot as it was, or counts an entering, or adds its commit; and the request is served
-- still in it
pub stride-fits : FollowLaw → (keeps : Bool) (c : ContainerValue) (tries : TriesValue) (program : ActionCall) → c.boot.start.deployment ≡ site_parts → ServesInBoot c.boot tries program
    → StrideFits c.boot program (stride (steps_of program) keeps c tries tries.attempt)
stride-fits follow keeps c tries program site serves = by tries.attempt serves.attempt where
  asks : List Answer → Next
  asks = steps_of program

  open-fits : (a : AttemptValue) → IsOpenFor c.boot program tries.request a → (x : Next) → wanted asks a ≡ x → (o : Option Stop) → stop_of_attempt c.boot asks a ≡ o
      → StrideFits c.boot program (stride_by asks keeps c tries a (came_by x o))
  open-fits a opened x is o stop = at x is o stop where
    went : Continues (wanted asks a) → stop_of_attempt c.boot asks a ≡ None → StrideFits c.boot program (stride_by asks keeps c tries a coming.Went)
    went on none = record {
      commits = inl (enters-at-most c.boot (wanted asks a));
      course = record {
        action = serves.action;
        own = serves.own ∙ sym (ap (λ (s : Start). s.boot) (boot_grows c.boot (wanted asks a)).start);
        attempt = steps-on follow c.boot program site serves.action a tries.request opened on none;
      };
    }

    stopped : (stop : Stop) → StrideFits c.boot program (stride_by asks keeps c tries a (coming.Stopped stop))
    stopped stop = record {
      commits = inl (inl refl);
      course = stop-fits (front_at c) c.boot (closed tries) program a.ticket.call.at a.repeats a.entered stop (closed-fits c.boot tries program serves);
    }

    on : (x : Next) → wanted asks a ≡ x → Continues x → Continues (wanted asks a)
    on x is there = subst (λ (y : Next). Continues y) (sym is) there

    at : (x : Next) → wanted asks a ≡ x → (o : Option Stop) → stop_of_attempt c.boot asks a ≡ o → StrideFits c.boot program (stride_by asks keeps c tries a (came_by x o))
    at (next.Enter component method) is None none = went (on (next.Enter component method) is tt) none
    at (next.Enter component method) is (Some stop) none = stopped stop
    at (next.Read id) is None none = went (on (next.Read id) is tt) none
    at (next.Read id) is (Some stop) none = stopped stop
    at (next.List table) is None none = went (on (next.List table) is tt) none
    at (next.List table) is (Some stop) none = stopped stop
    at (next.Put write) is None none = went (on (next.Put write) is tt) none
    at (next.Put write) is (Some stop) none = stopped stop
    at next.Exit is None none = went (on next.Exit is tt) none
    at next.Exit is (Some stop) none = stopped stop
    at (next.Done done) is o none =
        commits-fit c tries program a done (with_keeper (refusal_of c tries a done) a.ticket.call.writes keeps) serves opened (unrefused (refusal_of c tries a done) a.ticket.call.writes keeps)

  by : (o : Option AttemptValue) → IfSome o (IsOpenFor c.boot program tries.request) → StrideFits c.boot program (stride asks keeps c tries o)
  by None opened = record {
    commits = inl (inl refl);
    course = record {
      action = serves.action;
      own = serves.own;
      attempt = record { way = begins c.boot asks tries.request tries.worker; request_is = refl };
    };
  }
  by (Some a) opened = open-fits a opened (wanted asks a) refl (stop_of_attempt c.boot asks a) refl
