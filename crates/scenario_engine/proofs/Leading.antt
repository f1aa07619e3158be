-- The turns of a scenario lead its sessions from their setup to their end.
use Rattle.std.proofs.Common.{◌≡◌, ◌⊎◌, inl, inr, ℕ, ◌+◌, ◌-◌, ◌^◌, ◌≤◌, append-nil, Bool, true, false, if◌then◌else◌, List, [], ◌∷◌, ◌++◌, length, Option, Some, None, refl, sym, ap, subst, arith}
use Rattle.std.specs.Prelude.{nat_lt, not, ◌==◌, ◌&&◌}
use Rattle.boot_core.specs.Refusals.{reboot_refusal}
use Rattle.boot_core.specs.declared.boot.Start.{Start}
use Rattle.boot_core.specs.declared.refusals.CommitRefusal.{CommitRefusal}
use Rattle.boot_core.specs.declared.refusals.RebootRefusal.{RebootRefusal}
use Rattle.call_ticket.specs.Ticket.{TicketValue}
use Rattle.crash_base.specs.declared.scope.Scope.{Scope}
use Rattle.journal_model.specs.Reboots.{undone_of}
use Rattle.scenario_text.specs.declared.boot_line.BootLine.{BootLine}
use Rattle.scenario_text.specs.declared.boot_line.BootLine.TheVariants as boots
use Rattle.scenario_text.specs.declared.head_line.HeadLine.{HeadLine}
use Rattle.scenario_text.specs.declared.head_line.HeadLine.TheVariants as heads
use Rattle.line_steps.specs.declared.callers.Caller.{Caller}
use Rattle.line_steps.specs.declared.callers.Caller.TheVariants.{Absent, Live}
use Rattle.line_steps.specs.declared.head.Head.{Head}
use Rattle.line_steps.specs.Callers.{caller_at, begin_step, call_step}
use Rattle.line_steps.specs.Head.{declares, head_line, head_step, open_step, site_step, with_site, with_parts, with_setup, component_step, reference_step, owns_step, limit_step, with_plans, fault_step}
use Rattle.scenario_text.proofs.Leaving.{Leaves, leaves-refused_if, leaves-or_refused, leaves-weaker}
use Rattle.scenario_text.specs.Answer.{Answer, Refused, Done, within}
use Rattle.scenario_text.specs.Line.{is_event}
use Rattle.scenario_text.specs.Reading.{line_of}
use Rattle.scenario_text.specs.declared.line.Line.{Line}
use Rattle.scenario_text.specs.declared.line.Line.TheVariants as lines
use Rattle.scenario_text.specs.declared.line.TheConstants.{MAX_LINE_BYTES}
use Rattle.session_steps.specs.Promise.{SessionTurn, Boots, Lead}
use Rattle.session_steps.specs.Sessions.{SessionsState, session_line, reopened}
use Rattle.deployment.specs.declared.parts.Parts.{Parts}
use Rattle.journal_model.specs.declared.limits.TheConstants.{MAX_ENTRIES, MAX_JOURNAL_BYTES}
use Rattle.scenario_text.specs.Setup.{SetupState, HasCounts, no_setup, bricks_step, key_step}
use Rattle.session_steps.specs.Setup.{set_up}
use Rattle.session_steps.proofs.Leading.{lead_on}
use Rattle.scenario_engine.proofs.Giving.{given_leads}
use Rattle.scenario_engine.proofs.SeatsLead.{DrawLaws, IfDrew, LeadsOver, SiteHasDrawn, drew_later, leads_seat}
use Rattle.scenario_engine.proofs.SessionSerials.{Drew, serial_last, serial_up, session_drew}
use Rattle.scenario_text.specs.declared.session_line.SessionLine.{SessionLine}
use Rattle.std.proofs.lemmas.List.Elements.{All-nil}
use Rattle.std.specs.Prelude.{All}
use Rattle.scenario_engine.specs.Engine.{Replies, first_keeps, target_of, opened_target, in_head, next_opening, reopens, line_over, line_on, step}
use Rattle.scenario_engine.specs.Seats.{in_boot}
use Rattle.scenario_engine.specs.Lending.{give_lends}
use Rattle.seat_lines.specs.Giving.{sessions_given_back, without_seats}
use Rattle.seat_lines.specs.Site.{SeatsState, no_seats}
use Rattle.line_steps.specs.declared.head.TheConstants.{SITE_BRICKS, SITE_MOST, SITE_LEAST}
use Rattle.scenario_engine.specs.Opening.{Opening, Opened, UnstartedBoot, opening}
use Rattle.scenario_engine.specs.Running.{started, reopened_over, with_callers, with_called, with_sessions, commit_ends, with_keeper, boot_refusal, caller_commits, caller_drops, commit_step, drop_step, scope_of, goes_down, reboots, down_step, up_step, reboot_step, table_step, journal_step, boot_line}
use Rattle.scenario_engine.specs.Sessions.{AreSessionsOf, lent_if_any, turns_over, turns_by, first_start, starts_by, starts_on, turns_to, turn_on_sessions, session_turns}
use Rattle.scenario_engine.specs.State.{RunningState, State, Heading, Running, Outcome, RefusedIn, DoneTo, UnstartedIn, UnderWayIn, site_of}
use Rattle.scenario_engine.specs.Transcript.{Turn, TooLong, RefusedAt, Unstarted, UnderWay, end_from, last_state, answer_to, turn_outcome}
use Rattle.boot_core.specs.Boot.{BootValue}
use Rattle.scenario_engine.proofs.Entered.{leaves_called}
use Rattle.scenario_text.specs.declared.call_line.CallLine.{CallLine}
use Rattle.crash_base.specs.declared.fault_plans.FaultPlan.{FaultPlan}
use Rattle.scenario_engine.proofs.Reported.{leaves_report}

-- lines that leave the sessions and the connections as they were, and the boot the one that was started

abbrev pub SameSessions : RunningState → RunningState → Type 0
SameSessions old new = (new.sessions ≡ old.sessions) × (new.boot.start ≡ old.boot.start) × (new.seats.seats ≡ old.seats.seats)

-- and the manager as well
abbrev pub SameBeside : RunningState → RunningState → Type 0
SameBeside old new = (new.sessions ≡ old.sessions) × (new.boot.start ≡ old.boot.start) × (new.seats ≡ old.seats)

pub as_sessions : (r : RunningState) (a : Answer RunningState) → Leaves (SameBeside r) a → Leaves (SameSessions r) a
as_sessions r a same =
    leaves-weaker (SameBeside r) (SameSessions r) a (λ q its. (its.0, its.1, ap (λ (x : SeatsState). x.seats) its.2)) same

pub same_called : (r : RunningState) (a : Answer (List Caller)) → Leaves (SameBeside r) (within (with_callers r) a)
same_called r Refused = tt
same_called r (Done callers text) = (refl, refl, refl)

pub same_entered : (r : RunningState) (n : ℕ) (line : CallLine) → Leaves (SameBeside r) (within (with_called r) (call_step r.boot r.callers n line))
same_entered r n line = leaves_called (SameBeside r) r n line (λ done is. (refl, ap (λ (b : BootValue). b.start) is, refl))

same_committed : (r : RunningState) (n : ℕ) (ticket : TicketValue) (refusal : Option CommitRefusal) → Leaves (SameBeside r) (commit_ends r n ticket refusal)
same_committed r n ticket None = (refl, refl, refl)
same_committed r n ticket (Some refusal) = (refl, refl, refl)

pub same_commit : (r : RunningState) (n : ℕ) (keeps : Bool) → Leaves (SameBeside r) (commit_step r n keeps)
unfolding commit_step
same_commit r n keeps = go (caller_at r.callers n)
  where
    go : (caller : Caller) → Leaves (SameBeside r) (caller_commits r n keeps caller)
    go Absent = tt
    go (Live ticket) = same_committed r n ticket (with_keeper (boot_refusal r ticket) ticket.call.writes keeps)

pub same_drop : (r : RunningState) (n : ℕ) → Leaves (SameBeside r) (drop_step r n)
unfolding drop_step
same_drop r n = go (caller_at r.callers n)
  where
    go : (caller : Caller) → Leaves (SameBeside r) (caller_drops r n caller)
    go Absent = tt
    go (Live ticket) = (refl, refl, refl)

pub same_down : (r : RunningState) (name : List ℕ) → Leaves (SameBeside r) (down_step r name)
unfolding down_step
same_down r name =
    leaves-or_refused (SameBeside r) (scope_of r.boot.start.deployment name) (λ s. goes_down r s (reboot_refusal r.boot.start.limits r.boot.entries s)) (λ s found.
    go s (reboot_refusal r.boot.start.limits r.boot.entries s))
  where
    go : (s : Scope) (refusal : Option RebootRefusal) → Leaves (SameBeside r) (goes_down r s refusal)
    go s None = (refl, refl, refl)
    go s (Some refusal) = (refl, refl, refl)

pub same_up : (r : RunningState) (name : List ℕ) → Leaves (SameBeside r) (up_step r name)
unfolding up_step
same_up r name =
    leaves-or_refused (SameBeside r) (scope_of r.boot.start.deployment name) _ (λ s known.
    leaves-or_refused (SameBeside r) (undone_of r.boot.entries s) _ (λ place found. (refl, refl, refl)))

pub same_reboot : (r : RunningState) (name : List ℕ) → Leaves (SameBeside r) (reboot_step r name)
unfolding reboot_step
same_reboot r name =
    leaves-or_refused (SameBeside r) (scope_of r.boot.start.deployment name) (λ s. reboots r s (reboot_refusal r.boot.start.limits r.boot.entries s)) (λ s found.
    go s (reboot_refusal r.boot.start.limits r.boot.entries s))
  where
    go : (s : Scope) (refusal : Option RebootRefusal) → Leaves (SameBeside r) (reboots r s refusal)
    go s None = (refl, refl, refl)
    go s (Some refusal) = (refl, refl, refl)

-- over a boot

no_fall : (n : ℕ) → n ≤ n
no_fall n = omega arith

same_drew : DrawLaws → (r q : RunningState) → SameSessions r q → SiteHasDrawn (site_of r) → SiteHasDrawn (site_of q)
same_drew laws r q (sessions, start, seats) has =
    drew_later laws (site_of r) (site_of q) start seats (ap (λ (x : SessionsState). x.boot) sessions)
    (subst (λ (x : SessionsState). r.sessions.serial ≤ x.serial) (sym sessions) (no_fall r.sessions.serial)) (subst (λ (x : SessionsState). x.serial ≤ 2 ^ 64 - 1) (sym sessions) has.small) has

-- a boot that was just started, without connections
started_drew : (sessions : SessionsState) (seats : SeatsState) (site : Bool) (start : Start) → seats.seats ≡ [] → SiteHasDrawn (site_of (started sessions seats site start))
started_drew sessions seats site start none =
    record { boot = refl; small = zero_small; drew = subst (All (IfDrew start.boot 0)) (sym none) (All-nil (IfDrew start.boot 0)) }
  where
    zero_small : 0 ≤ 2 ^ 64 - 1
    zero_small = omega arith

leads_same : DrawLaws → (r : RunningState) → SiteHasDrawn (site_of r) → (made : State → List ℕ → List SessionTurn) (a : Answer RunningState) → ((t : State) (text : List ℕ) → made t text ≡ []) → Leaves (SameSessions r) a → LeadsOver r made (in_boot r a)
leads_same laws r has made Refused none same = refl
leads_same laws r has made (Done q text) none same =
    let P : List SessionTurn → Type 0 = λ turns. Lead r.sessions turns q.sessions in
    (q, refl, subst P (sym (none (Running q) text)) same.0, same_drew laws r q same has)

leads_session : DrawLaws → (r : RunningState) → SiteHasDrawn (site_of r) → (line : SessionLine) (replies : Replies) (a : Answer SessionsState) → session_line r.sessions line ≡ a → LeadsOver r (turns_over r (lines.Session line) replies) (in_boot r (within (with_sessions r) a))
leads_session laws r has line replies Refused is = refl
leads_session laws r has line replies (Done sessions text) is =
    let drew : Drew r.sessions sessions = subst (Leaves (Drew r.sessions)) is (session_drew r.sessions line) in
    (with_sessions r sessions, refl, (sessions, is, refl), drew_later laws (site_of r) (site_of (with_sessions r sessions)) refl refl drew.0 (serial_up r.sessions sessions has.small drew) (serial_last r.sessions sessions has.small drew) has)

-- what connections give back leads the sessions to those that the next boot starts over
leads_given : (r : RunningState) → Lead r.sessions (lent_if_any (give_lends r.seats.seats) r.sessions.serial) (sessions_given_back r.seats.seats r.sessions)
leads_given r = given_leads r.sessions r.seats.seats

leads_reopen : (r : RunningState) (replies : Replies) (how : Opening) → LeadsOver r (turns_over r lines.Reopen replies) (reopens r how)
leads_reopen r replies (Opened start) =
    let given : SessionsState = sessions_given_back r.seats.seats r.sessions in
    let next : SessionsState = reopened given start.boot in
    let started_next : Lead given (Boots start.boot ∷ []) next = (next, refl, refl) in
    (reopened_over r start, refl, lead_on r.sessions given next (lent_if_any (give_lends r.seats.seats) r.sessions.serial) (Boots start.boot ∷ []) (leads_given r) started_next, started_drew given (without_seats r.seats) r.site start refl)
leads_reopen r replies (UnstartedBoot refusal) = refl

pub same_boot : (r : RunningState) (line : BootLine) → Leaves (SameSessions r) (boot_line r line)
unfolding table_step journal_step
same_boot r (boots.Begin c) = as_sessions r (within (with_callers r) (begin_step r.boot r.callers c)) (same_called r (begin_step r.boot r.callers c))
same_boot r (boots.Drop c) = as_sessions r (drop_step r c) (same_drop r c)
same_boot r (boots.Down name) = as_sessions r (down_step r name) (same_down r name)
same_boot r (boots.Up name) = as_sessions r (up_step r name) (same_up r name)
same_boot r (boots.Reboot name) = as_sessions r (reboot_step r name) (same_reboot r name)
same_boot r boots.Table = (refl, refl, refl)
same_boot r boots.Journal = (refl, refl, refl)
same_boot r (boots.Report names) = leaves_report (SameSessions r) r names (λ manager. (refl, refl, refl))

leads_over : DrawLaws → (r : RunningState) → SiteHasDrawn (site_of r) → (line : Line) (replies : Replies) → LeadsOver r (turns_over r line replies) (line_over r line replies)
leads_over laws r has lines.Pass replies = (r, refl, refl, has)
leads_over laws r has (lines.Head line) replies = refl
leads_over laws r has (lines.Call c line) replies = leads_same laws r has (turns_over r (lines.Call c line) replies) _ (λ t text. refl) (as_sessions r (within (with_called r) (call_step r.boot r.callers c line)) (same_entered r c line))
leads_over laws r has (lines.Commit c) replies = leads_same laws r has (turns_over r (lines.Commit c) replies) (commit_step r c (first_keeps replies.keeps)) (λ t text. refl) (as_sessions r (commit_step r c (first_keeps replies.keeps)) (same_commit r c (first_keeps replies.keeps)))
leads_over laws r has (lines.Boot line) replies = leads_same laws r has (turns_over r (lines.Boot line) replies) (boot_line r line) (λ t text. refl) (same_boot r line)
leads_over laws r has lines.Reopen replies = leads_reopen r replies (next_opening r replies.again)
leads_over laws r has (lines.Session line) replies = leads_session laws r has line replies (session_line r.sessions line) refl
leads_over laws r has (lines.Seat line) replies = leads_seat laws r has line replies.keeps

-- over the head

-- What head lines about sessions keep of a setup: as many bricks as they allow.
pub record CountsLaw : Type 0 where
  pub none : HasCounts no_setup.counts
  pub bricks : (setup : SetupState) (bricks most least : ℕ) (t : SetupState) (text : List ℕ) → bricks_step setup bricks most least ≡ Done t text → HasCounts t.counts
  pub key : (setup : SetupState) (key : List ℕ) (t : SetupState) (text : List ℕ) → HasCounts setup.counts → key_step setup key ≡ Done t text → HasCounts t.counts

-- the bricks of one head are as many as head lines allow where those of another are
abbrev KeepsCounts : Head → Head → Type 0
KeepsCounts old new = HasCounts old.setup.counts → HasCounts new.setup.counts

counts_setup : (head : Head) (a : Answer SetupState) → ((t : SetupState) (text : List ℕ) → a ≡ Done t text → HasCounts head.setup.counts → HasCounts t.counts) → Leaves (KeepsCounts head) (within (with_setup head) a)
counts_setup head Refused keeps = tt
counts_setup head (Done t text) keeps = keeps t text refl

counts_parts : (head : Head) (a : Answer Parts) → Leaves (KeepsCounts head) (within (with_parts head) a)
counts_parts head Refused = tt
counts_parts head (Done parts text) = λ has. has

counts_plans : (head : Head) (a : Answer (List FaultPlan)) → Leaves (KeepsCounts head) (within (with_plans head) a)
counts_plans head Refused = tt
counts_plans head (Done plans text) = λ has. has

counts_limit : (head : Head) (entries bytes : ℕ) → Leaves (KeepsCounts head) (limit_step head entries bytes)
unfolding limit_step
counts_limit head entries bytes =
    leaves-refused_if (KeepsCounts head) (nat_lt MAX_ENTRIES entries) _ (λ low. leaves-refused_if (KeepsCounts head) (nat_lt MAX_JOURNAL_BYTES bytes) _ (λ small. λ has. has))

-- A line of the head leaves a head, and does nothing to sessions.
abbrev StaysHead : Head → Outcome → Type 0
StaysHead old (RefusedIn t) = t ≡ Heading old
StaysHead old (DoneTo t text) = (head : Head) × (t ≡ Heading head) × KeepsCounts old head
StaysHead old (UnstartedIn t refusal) = t ≡ Heading old
StaysHead old (UnderWayIn t) = t ≡ Heading old

stays_in : (head : Head) (a : Answer Head) → Leaves (KeepsCounts head) a → StaysHead head (in_head head a)
stays_in head Refused keeps = refl
stays_in head (Done next text) keeps = (next, refl, keeps)

-- the parts of the site come with its bricks
counts_site : CountsLaw → (head : Head) → Leaves (KeepsCounts head) (site_step head)
unfolding site_step
counts_site law head =
    leaves-refused_if (KeepsCounts head) (not (length head.parts.components == 0)) _ (λ bare. go (bricks_step head.setup SITE_BRICKS SITE_MOST SITE_LEAST) refl)
  where
    go : (a : Answer SetupState) → bricks_step head.setup SITE_BRICKS SITE_MOST SITE_LEAST ≡ a → Leaves (KeepsCounts head) (within (with_site head) a)
    go Refused is = tt
    go (Done t text) is = λ has. law.bricks head.setup SITE_BRICKS SITE_MOST SITE_LEAST t text is

open_counts : CountsLaw → (head : Head) (line : HeadLine) → Leaves (KeepsCounts head) (open_step head line)
open_counts law head (heads.Component name) = counts_parts head (component_step head.parts name)
open_counts law head (heads.Hard from to) = counts_parts head (reference_step head.parts from to true)
open_counts law head (heads.Soft from to) = counts_parts head (reference_step head.parts from to false)
open_counts law head (heads.Owns name table) = counts_parts head (owns_step head.parts name table)
open_counts law head (heads.Fault name after kind level) = counts_plans head (fault_step head.parts head.plans name after kind level)
open_counts law head (heads.Limit entries bytes) = counts_limit head entries bytes
open_counts law head (heads.Bricks bricks most least) =
    counts_setup head (bricks_step head.setup bricks most least) (λ t text is has. law.bricks head.setup bricks most least t text is)
open_counts law head (heads.Key bytes) =
    counts_setup head (key_step head.setup bytes) (λ t text is has. law.key head.setup bytes t text has is)
open_counts law head heads.Site = counts_site law head

keeps_counts : CountsLaw → (head : Head) (line : HeadLine) → Leaves (KeepsCounts head) (head_step head line)
keeps_counts law head line = leaves-refused_if (KeepsCounts head) (head.site && declares line) (open_step head line) (λ free. open_counts law head line)

stays_head : CountsLaw → (head : Head) (line : Line) → StaysHead head (in_head head (head_line head line))
stays_head law head lines.Pass = (head, refl, λ has. has)
stays_head law head (lines.Head line) = stays_in head (head_step head line) (keeps_counts law head line)
stays_head law head (lines.Call c line) = refl
stays_head law head (lines.Commit c) = refl
stays_head law head (lines.Boot line) = refl
stays_head law head lines.Reopen = refl
stays_head law head (lines.Session line) = refl
stays_head law head (lines.Seat line) = refl

-- one turn

-- in a boot, the nonces were drawn that its connections still need
abbrev pub StateHasDrawn : State → Type 0
StateHasDrawn (Heading head) = Unit {0}
StateHasDrawn (Running r) = SiteHasDrawn (site_of r)

-- What turns of sessions come to between two states: from the head to a head, where nothing is done to sessions, or
-- from the sessions that the head sets up to those of a boot; or from the sessions of a boot to those of a boot.
abbrev pub Reaches : State → List SessionTurn → State → Type 0
Reaches (Heading head) turns t =
    ((next : Head) × (t ≡ Heading next) × (turns ≡ []) × KeepsCounts head next)
    ⊎ ((q : RunningState) × (t ≡ Running q) × Lead (set_up head.setup 0) turns q.sessions × SiteHasDrawn (site_of q))
Reaches (Running r) turns t = (q : RunningState) × (t ≡ Running q) × Lead r.sessions turns q.sessions × SiteHasDrawn (site_of q)

has_reached : (s t : State) (turns : List SessionTurn) → Reaches s turns t → StateHasDrawn t
has_reached (Heading head) t turns (inl (next, is, none, keeps)) = subst StateHasDrawn (sym is) tt
has_reached (Heading head) t turns (inr (q, is, lead, has)) = subst StateHasDrawn (sym is) has
has_reached (Running r) t turns (q, is, lead, has) = subst StateHasDrawn (sym is) has

-- what a turn from a state comes to
abbrev pub LeadsTo : State → List SessionTurn → (State → List ℕ → List SessionTurn) → Outcome → Type 0
LeadsTo s starts turns (RefusedIn t) = Reaches s starts t
LeadsTo s starts turns (DoneTo t text) = Reaches s (turns t text) t
LeadsTo s starts turns (UnstartedIn t refusal) = Reaches s starts t
LeadsTo s starts turns (UnderWayIn t) = Reaches s (turns t []) t

-- a state is itself reached by no turn
stays : (s : State) → StateHasDrawn s → Reaches s [] s
stays (Heading head) has = inl (head, refl, refl, λ counts. counts)
stays (Running r) has = (r, refl, refl, has)

leads_running : (r : RunningState) → SiteHasDrawn (site_of r) → (made : State → List ℕ → List SessionTurn) (o : Outcome) → LeadsOver r made o → LeadsTo (Running r) [] made o
leads_running r has made (RefusedIn t) is = (r, is, refl, has)
leads_running r has made (DoneTo t text) leads = leads
leads_running r has made (UnstartedIn t refusal) is = (r, is, refl, has)
leads_running r has made (UnderWayIn t) leads = leads

leads_heading : (head : Head) (o : Outcome) → StaysHead head o → LeadsTo (Heading head) [] (λ t text. []) o
leads_heading head (RefusedIn t) is = inl (head, is, refl, λ has. has)
leads_heading head (DoneTo t text) (next, is, keeps) = inl (next, is, refl, keeps)
leads_heading head (UnstartedIn t refusal) is = inl (head, is, refl, λ has. has)
leads_heading head (UnderWayIn t) is = inl (head, is, refl, λ has. has)

pub first_drew : (head : Head) (start : Start) → SiteHasDrawn (site_of (started (set_up head.setup 0) (no_seats head.parts) head.site start))
first_drew head start = started_drew (set_up head.setup 0) (no_seats head.parts) head.site start refl

leads_first : (head : Head) (start : Start) (made : State → List ℕ → List SessionTurn) (o : Outcome) → LeadsOver (started (set_up head.setup 0) (no_seats head.parts) head.site start) made o
    → LeadsTo (Heading head) (Boots start.boot ∷ []) (λ t text. Boots start.boot ∷ made t text) o
leads_first head start made (RefusedIn t) is =
    inr (started (set_up head.setup 0) (no_seats head.parts) head.site start, is, (reopened (set_up head.setup 0) start.boot, refl, refl), first_drew head start)
leads_first head start made (DoneTo t text) (q, is, lead, has) =
    inr (q, is, (reopened (set_up head.setup 0) start.boot, refl, lead), has)
leads_first head start made (UnstartedIn t refusal) is =
    inr (started (set_up head.setup 0) (no_seats head.parts) head.site start, is, (reopened (set_up head.setup 0) start.boot, refl, refl), first_drew head start)
leads_first head start made (UnderWayIn t) (q, is, lead, has) =
    inr (q, is, (reopened (set_up head.setup 0) start.boot, refl, lead), has)

leads_opened : DrawLaws → (head : Head) (how : Opening) (line : Line) (replies : Replies)
    → LeadsTo (Heading head) (first_start (Heading head) (opened_target head how)) (λ t text. first_start (Heading head) (opened_target head how) ++ turns_by (opened_target head how) line replies t text) (line_on (opened_target head how) line replies)
leads_opened laws head (Opened start) line replies =
    let r : RunningState = started (set_up head.setup 0) (no_seats head.parts) head.site start in
    leads_first head start (turns_over r line replies) (line_over r line replies) (leads_over laws r (first_drew head start) line replies)
leads_opened laws head (UnstartedBoot refusal) line replies = stays (Heading head) tt

leads_step : CountsLaw → DrawLaws → (s : State) → StateHasDrawn s → (line : Line) (replies : Replies)
    → LeadsTo s (first_start s (target_of s (is_event line) replies.first)) (λ t text. first_start s (target_of s (is_event line) replies.first) ++ turns_by (target_of s (is_event line) replies.first) line replies t text) (step s line replies)
unfolding step
leads_step law laws (Running r) has line replies = leads_running r has (turns_over r line replies) (line_over r line replies) (leads_over laws r has line replies)
leads_step law laws (Heading head) has line replies = go (is_event line)
  where
    go : (event : Bool) → LeadsTo (Heading head) (first_start (Heading head) (target_of (Heading head) event replies.first)) (λ t text. first_start (Heading head) (target_of (Heading head) event replies.first) ++ turns_by (target_of (Heading head) event replies.first) line replies t text) (line_on (target_of (Heading head) event replies.first) line replies)
    go false = leads_heading head (in_head head (head_line head line)) (stays_head law head line)
    go true = leads_opened laws head (opening head.parts head.plans head.limits replies.first) line replies

leads_answer : CountsLaw → DrawLaws → (s : State) → StateHasDrawn s → (o : Option Line) (replies : Replies) → LeadsTo s (starts_by s o replies) (turns_to s o replies) (answer_to s o replies)
leads_answer law laws s has None replies = stays s has
leads_answer law laws s has (Some line) replies = leads_step law laws s has line replies

pub leads_turn : CountsLaw → DrawLaws → (s : State) → StateHasDrawn s → (turn : Turn) → LeadsTo s (starts_on s turn) (turn_on_sessions s turn) (turn_outcome s turn)
unfolding turn_outcome turn_on_sessions starts_on
leads_turn law laws s has turn = leads_answer law laws s has (line_of turn.line) turn.replies

-- all turns

-- Turns of sessions from a state lead to the sessions of the last one; from the head they begin with those that some
-- head sets up, with as many bricks as head lines allow.
abbrev pub AllLead : State → List SessionTurn → State → Type 0
AllLead (Heading head) turns last =
    HasCounts head.setup.counts → (setup : SetupState) × (end : SessionsState) × Lead (set_up setup 0) turns end × HasCounts setup.counts × AreSessionsOf last setup end
AllLead (Running r) turns last = (end : SessionsState) × Lead r.sessions turns end × ((setup : SetupState) → AreSessionsOf last setup end)

no_lead : (s : State) → AllLead s [] s
no_lead (Heading head) = λ has. (head.setup, set_up head.setup 0, refl, has, (refl, refl))
no_lead (Running r) = (r.sessions, refl, λ setup. refl)

lead_more : (s t last : State) (turns more : List SessionTurn) → Reaches s turns t → AllLead t more last → AllLead s (turns ++ more) last
lead_more (Heading head) t last turns more (inl (next, is, none, keeps)) rest = λ has.
    let P : State → Type 0 = λ u. AllLead u more last in
    let Q : List SessionTurn → Type 0 = λ xs. (setup : SetupState) × (end : SessionsState) × Lead (set_up setup 0) (xs ++ more) end × HasCounts setup.counts × AreSessionsOf last setup end in
    subst Q (sym none) (subst P is rest (keeps has))
lead_more (Heading head) t last turns more (inr (q, is, lead, drew)) rest = λ has.
    let P : State → Type 0 = λ u. AllLead u more last in
    let after = subst P is rest in
    (head.setup, after.0, lead_on (set_up head.setup 0) q.sessions after.0 turns more lead after.1, has, after.2 head.setup)
lead_more (Running r) t last turns more (q, is, lead, drew) rest =
    let P : State → Type 0 = λ u. AllLead u more last in
    let after = subst P is rest in
    (after.0, lead_on r.sessions q.sessions after.0 turns more lead after.1, after.2)

-- where the turns stop
lead_last : (s t : State) (turns : List SessionTurn) → Reaches s turns t → AllLead s turns t
lead_last s t turns reaches =
    let P : List SessionTurn → Type 0 = λ xs. AllLead s xs t in
    subst P (append-nil turns) (lead_more s t t turns [] reaches (no_lead t))

pub all_lead : CountsLaw → DrawLaws → (s : State) → StateHasDrawn s → (n : ℕ) (turns : List Turn) → AllLead s (session_turns s turns) (last_state (end_from s n turns))
all_lead law laws s has n [] = no_lead s
all_lead law laws s has n (turn ∷ turns) =
    go (nat_lt MAX_LINE_BYTES (length turn.line)) (turn_outcome s turn) (leads_turn law laws s has turn) (λ t its. all_lead law laws t its (n + 1) turns)
  where
    go : (long : Bool) (o : Outcome) → LeadsTo s (starts_on s turn) (turn_on_sessions s turn) o → ((t : State) → StateHasDrawn t → AllLead t (session_turns t turns) (last_state (end_from t (n + 1) turns))) → AllLead s (if long then [] else (elim o [
      | RefusedIn t ↦ starts_on s turn
      | DoneTo t text ↦ turn_on_sessions s turn t text ++ session_turns t turns
      | UnstartedIn t refusal ↦ starts_on s turn
      | UnderWayIn t ↦ turn_on_sessions s turn t []
    ])) (last_state (if long then TooLong s n else (elim o [
      | RefusedIn t ↦ RefusedAt t n
      | DoneTo t text ↦ end_from t (n + 1) turns
      | UnstartedIn t refusal ↦ Unstarted t refusal
      | UnderWayIn t ↦ UnderWay t n
    ])))
    go true o leads later = no_lead s
    go false (RefusedIn t) leads later = lead_last s t (starts_on s turn) leads
    go false (DoneTo t text) leads later = lead_more s t (last_state (end_from t (n + 1) turns)) (turn_on_sessions s turn t text) (session_turns t turns) leads (later t (has_reached s t (turn_on_sessions s turn t text) leads))
    go false (UnstartedIn t refusal) leads later = lead_last s t (starts_on s turn) leads
    go false (UnderWayIn t) leads later = lead_last s t (turn_on_sessions s turn t []) leads
