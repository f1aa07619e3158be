-- How one boot comes behind others.
use Rattle.std.proofs.Common.{◌≡◌, ◌≢◌, inl, inr, ◌≤◌, ℕ, zero, suc, List, Option, Some, None, MatchOption, Result, Ok, Err, IfErr, IfOk, MatchResult, [], append-nil, refl, sym, ap, subst, ◌∙◌, arith}
use Rattle.auction_rows.specs.Parts.{site_parts}
use Rattle.boot_core.specs.declared.boot.Start.{Start}
use Rattle.boot_core.specs.declared.refusals.StartRefusal.{StartRefusal}
use Rattle.boot_core.specs.declared.refusals.StartRefusal.TheVariants as refusals
use Rattle.component_pool.specs.Plans.{left_by_process}
use Rattle.container_core.specs.Container.{ContainerValue, HasGrownBy}
use Rattle.container_core.specs.Start.{IsRefusedStart, IsStarted}
use Rattle.container_server.specs.Running.{EndedOver, HasStarted, IsSoundContainer, KeeperSeen, RanBoots, RanFrom, RanOver, ServerSeen, TellsClosed, end_of, plans_behind, seen, server_seen, service_limits}
use Rattle.container_server.specs.Telling.{HasToldBoot}
use Rattle.crash_base.specs.declared.fault_plans.FaultPlan.{FaultPlan}
use Rattle.deployment.specs.declared.parts.Parts.{Parts}
use Rattle.journal_model.specs.declared.limits.JournalLimits.{JournalLimits}
use Rattle.outside.specs.Faults.{Rose}
use Rattle.outside.specs.Keeper.{KeeperTold}
use Rattle.service_log.specs.Ending.{IsToldAs, end_line, status_of}
use Rattle.service_log.specs.Logging.{Log, WritesLine}
use Rattle.service_log.specs.declared.ending.ServiceEnd.{ServiceEnd}
use Rattle.service_log.specs.declared.ending.ServiceEnd.TheVariants.{Closed, KeeperFailed, BadRow, BootsSpent, OutOfMemory}

-- the start of a container that was started
start_is : (plans : List FaultPlan) (before : ServerSeen) (c : ContainerValue) (log : Log) (s : HasStarted plans before c log)
    → (c.boot.start.deployment ≡ site_parts) × (c.boot.start.plans ≡ plans_behind s.boots plans) × (c.boot.start.limits ≡ service_limits)
start_is plans before c log s =
    let is = s.started.opened.boot in
    (ap (λ b. b.start.deployment) is, ap (λ b. b.start.plans) is, ap (λ b. b.start.limits) is)

-- one more boot is run
pub one_more : (plans : List FaultPlan) (before : ServerSeen) (c ended : ContainerValue) (log later : Log) (s : HasStarted plans before c log) → HasGrownBy c ended → IsSoundContainer ended → HasToldBoot c log later
    → RanBoots plans (suc s.boots) before (server_seen (seen ended.told ended.faults) later)
one_more plans before c ended log later s grown sound told = (
  s.between,
  s.ran,
  record {
    started = c;
    is_started = s.started;
    ended = ended;
    grown = grown;
    sound = sound;
    left = refl;
    told = subst (λ (l : Log). HasToldBoot c l later) s.untold told;
  },
)

-- two numbers and what is told, as a keeper that is seen
pub seen_same : (told told' : Option KeeperTold) (faults faults' : ℕ) → told' ≡ told → faults' ≡ faults → seen told' faults' ≡ seen told faults
seen_same told told' faults faults' p q = ap (λ (t : Option KeeperTold). seen t faults') p ∙ ap (λ (f : ℕ). seen told f) q

-- a boot is run, and then a server ends
pub ends_behind : (plans : List FaultPlan) (before : ServerSeen) (c ended : ContainerValue) (log later : Log) (end : ServiceEnd) (after : KeeperSeen) → HasStarted plans before c log → HasGrownBy c ended → IsSoundContainer ended
    → HasToldBoot c log later → EndedOver end (seen ended.told ended.faults) after → RanFrom plans end before (server_seen after later)
ends_behind plans before c ended log later end after s grown sound told over = record {
  boots = suc s.boots;
  last = server_seen (seen ended.told ended.faults) later;
  ran = one_more plans before c ended log later s grown sound told;
  ended = over;
  untold = refl;
  once = λ is. omega arith;
}

-- a container was not started
pub over_refused : (refusal : StartRefusal) (old new : KeeperSeen) → IsRefusedStart refusal old.told new.told → (refusal ≡ refusals.KeeperFailed → Rose old.faults new.faults) → EndedOver (end_of refusal) old new
over_refused refusals.KeeperFailed old new refused rose = (refused, rose refl)
over_refused (refusals.BadRow id) old new refused rose = refused
over_refused refusals.BootsSpent old new refused rose = refused
over_refused refusals.OutOfMemory old new refused rose = inr (inl refused)

-- a container that is not started ends a server with a status that is not 0
pub not_closed : (refusal : StartRefusal) → status_of (end_of refusal) ≢ 0
not_closed refusals.KeeperFailed e = absurd (omega (arith, e))
not_closed (refusals.BadRow id) e = absurd (omega (arith, e))
not_closed refusals.BootsSpent e = absurd (omega (arith, e))
not_closed refusals.OutOfMemory e = absurd (omega (arith, e))

-- the first container was not started
pub first_refused : (plans : List FaultPlan) (refusal : StartRefusal) (end : ServiceEnd) (old new : KeeperSeen) (log : Log) → end ≡ end_of refusal → IsRefusedStart refusal old.told new.told → (refusal ≡ refusals.KeeperFailed → Rose old.faults new.faults)
    → RanFrom plans end (server_seen old log) (server_seen new log)
first_refused plans refusal end old new log is refused rose = record {
  boots = zero;
  last = server_seen old log;
  ran = refl;
  ended = subst (λ (e : ServiceEnd). EndedOver e old new) (sym is) (over_refused refusal old new refused rose);
  untold = refl;
  once = λ closed. absurd (not_closed refusal (ap status_of (sym is ∙ closed)));
}

-- a boot was run, and a container was started behind it
pub next_started : (plans : List FaultPlan) (before : ServerSeen) (c ended next : ContainerValue) (log later : Log) → HasStarted plans before c log → HasGrownBy c ended → IsSoundContainer ended → HasToldBoot c log later
    → IsStarted ended.boot.start.deployment (left_by_process ended.boot.start.plans) ended.boot.start.limits ended.told next → HasStarted plans before next later
next_started plans before c ended next log later s grown sound told started =
    let was = start_is plans before c log s in
    let same = grown.boot.start in
    let parts : ended.boot.start.deployment ≡ site_parts = ap (λ (t : Start). t.deployment) same ∙ was.0 in
    let left : left_by_process ended.boot.start.plans ≡ plans_behind (suc s.boots) plans = ap (λ (t : Start). left_by_process t.plans) same ∙ ap left_by_process was.1 in
    let limits : ended.boot.start.limits ≡ service_limits = ap (λ (t : Start). t.limits) same ∙ was.2 in
    record {
      boots = suc s.boots;
      between = server_seen (seen ended.told ended.faults) later;
      ran = one_more plans before c ended log later s grown sound told;
      started = subst (λ (l : JournalLimits). IsStarted site_parts (plans_behind (suc s.boots) plans) l ended.told next) limits
          (subst (λ (ps : List FaultPlan). IsStarted site_parts ps ended.boot.start.limits ended.told next) left
          (subst (λ (p : Parts). IsStarted p (left_by_process ended.boot.start.plans) ended.boot.start.limits ended.told next) parts started));
      untold = refl;
    }

-- a boot was run, and the container was started again behind it, or a server ended
pub behind : {Y X : Type 0} (next_in : Y → ContainerValue) (end_in : X → ServiceEnd) (keeper_in : X → KeeperSeen) (plans : List FaultPlan) (before : ServerSeen) (c ended : ContainerValue) (log later : Log) → HasStarted plans before c log
    → HasGrownBy c ended → IsSoundContainer ended → HasToldBoot c log later → (found : Result Y X)
    → IfOk found (λ next. IsStarted ended.boot.start.deployment (left_by_process ended.boot.start.plans) ended.boot.start.limits ended.told (next_in next))
    → IfErr found (λ x. EndedOver (end_in x) (seen ended.told ended.faults) (keeper_in x))
    → MatchResult found (λ next. HasStarted plans before (next_in next) later) (λ x. RanFrom plans (end_in x) before (server_seen (keeper_in x) later))
behind next_in end_in keeper_in plans before c ended log later s grown sound told (Ok next) again over = next_started plans before c ended (next_in next) log later s grown sound told again
behind next_in end_in keeper_in plans before c ended log later s grown sound told (Err x) again over = ends_behind plans before c ended log later (end_in x) (keeper_in x) s grown sound told over

-- a container that was started is one of the site
pub of_site : (plans : List FaultPlan) (before : ServerSeen) (c : ContainerValue) (log : Log) → HasStarted plans before c log → c.boot.start.deployment ≡ site_parts
of_site plans before c log s = (start_is plans before c log s).0

-- no server that wants memory has ended by its connections
not_memory : OutOfMemory ≢ Closed
not_memory is = absurd (cc)

-- where there is no memory for the line of a bad row, that is the end
ended_any : (end told : ServiceEnd) (old new : KeeperSeen) → EndedOver end old new → IsToldAs end told → EndedOver told old new
ended_any end told old new over (inl same) = subst (λ (e : ServiceEnd). EndedOver e old new) (sym same) over
ended_any end told old new over (inr (id, bad, want)) =
    subst (λ (e : ServiceEnd). EndedOver e old new) (sym want) (inr (inr (id, subst (λ (e : ServiceEnd). EndedOver e old new) bad over)))

once_any : (end told : ServiceEnd) (boots : ℕ) → (end ≡ Closed → 1 ≤ boots) → IsToldAs end told → told ≡ Closed → 1 ≤ boots
once_any end told boots once (inl same) is = once (sym same ∙ is)
once_any end told boots once (inr (id, bad, want)) is = absurd (not_memory (sym want ∙ is))

ran_any : (plans : List FaultPlan) (end told : ServiceEnd) (before after : ServerSeen) → RanFrom plans end before after → IsToldAs end told → RanFrom plans told before after
ran_any plans end told before after ran is = record {
  boots = ran.boots;
  last = ran.last;
  ran = ran.ran;
  ended = ended_any end told ran.last.keeper after.keeper ran.ended is;
  untold = ran.untold;
  once = once_any end told ran.boots ran.once is;
}

-- the end is told
pub reported : (gives : List FaultPlan → Type 0) (plans : List FaultPlan) (end told : ServiceEnd) (before : ServerSeen) (after : KeeperSeen) (log later : Log) → RanFrom plans end before (server_seen after log) → gives plans
    → IsToldAs end told → WritesLine (end_line told) log later → RanOver gives told before (server_seen after later)
reported gives plans end told before after log later ran given is line = record {
  plans = plans;
  log = log;
  ran = ran_any plans end told before (server_seen after log) ran is;
  given = λ some. given;
  reported = line;
}

-- there was no memory to begin with
pub never_ran : (gives : List FaultPlan → Type 0) (told : ServiceEnd) (keeper : KeeperSeen) (log later : Log) → IsToldAs OutOfMemory told → WritesLine (end_line told) log later
    → RanOver gives told (server_seen keeper log) (server_seen keeper later)
never_ran gives told keeper log later is line = record {
  plans = [];
  log = log;
  ran = record {
    boots = zero;
    last = server_seen keeper log;
    ran = refl;
    ended = ended_any OutOfMemory told keeper keeper (inl refl) is;
    untold = refl;
    once = once_any OutOfMemory told zero (λ is. absurd (not_memory is)) is;
  };
  given = λ (some : 1 ≤ 0). absurd (omega (arith, some));
  reported = line;
}

-- the status is 0 exactly where no more connections come
pub status_told : {C : Type 0} (closed : Option C) (end told : ServiceEnd) → TellsClosed closed end → IsToldAs end told → (end ≡ Closed → told ≡ end)
    → MatchOption closed (status_of told ≢ 0) (λ _. status_of told ≡ 0)
status_told None end told tells (inl same) keeps = λ (e : status_of told ≡ 0). tells (ap status_of (sym same) ∙ e)
status_told None end told tells (inr (id, bad, want)) keeps = λ (e : status_of told ≡ 0). absurd (omega (arith, ap status_of (sym want) ∙ e))
status_told (Some closed) end told tells is keeps = ap status_of (keeps tells ∙ tells)

-- the same of an end that is told
pub untold : {C : Type 0} (closed : Option C) (end : ServiceEnd) (refusal : StartRefusal) → closed ≡ None → end ≡ end_of refusal → TellsClosed closed end
untold closed end refusal none is = subst (λ o. TellsClosed o end) (sym none) (λ (e : status_of end ≡ 0). not_closed refusal (ap status_of (sym is) ∙ e))

-- the first container was started as one of the site
pub started_first : (plans : List FaultPlan) (keeper : KeeperSeen) (log : Log) (c : ContainerValue) (parts : Parts) (limits : JournalLimits) → parts ≡ site_parts → limits ≡ service_limits
    → IsStarted parts plans limits keeper.told c → HasStarted plans (server_seen keeper log) c log
started_first plans keeper log c parts limits site most started = record {
  boots = zero;
  between = server_seen keeper log;
  ran = refl;
  started = subst (λ (l : JournalLimits). IsStarted site_parts plans l keeper.told c) most (subst (λ (p : Parts). IsStarted p plans limits keeper.told c) site started);
  untold = refl;
}

-- a container that nothing was done in has grown
pub grown_none : (c : ContainerValue) → HasGrownBy c c
grown_none c = record { boot = record { start = refl; more = []; entries = sym (append-nil c.boot.entries) }; more = []; since = sym (append-nil c.since) }
