-- Which refusal a call of a boot meets first.
use Rattle.deployment.specs.Groups.{group_no, group_of}
use Rattle.std.specs.Prelude.{◌≡◌, ℕ, zero, suc, ◌+◌, ◌<◌, ◌==◌, true, if◌then◌else◌, Option, Some, None, Result, Ok, Err, List, [], ◌∷◌, length, option_map}
use Rattle.crash_base.specs.declared.fault_plans.FaultKind.{FaultKind}
use Rattle.crash_base.specs.declared.fault_plans.FaultKind.TheVariants.{Raise, Hang, Leak}
use Rattle.crash_base.specs.declared.numbers.ComponentNo.{ComponentNo}
use Rattle.crash_base.specs.declared.numbers.GroupNo.{GroupNo}
use Rattle.crash_base.specs.declared.numbers.Place.{Place}
use Rattle.crash_base.specs.declared.row_id.RowId.{RowId}
use Rattle.crash_base.specs.declared.scope.Scope.{Scope}
use Rattle.crash_base.specs.declared.scope.TheConstants.{MAX_GROUPS}
use Rattle.crash_base.specs.Refusals.{first_of, only_if}
use Rattle.crash_base.specs.Scope.{holds}
use Rattle.journal_model.specs.declared.entry.ActionEntry.{ActionEntry}
use Rattle.journal_model.specs.declared.entry.Entry.{Entry}
use Rattle.journal_model.specs.declared.entry.Entry.TheVariants.{Commit}
use Rattle.journal_model.specs.declared.limits.FullAt.{FullAt}
use Rattle.journal_model.specs.declared.limits.JournalLimits.{JournalLimits}
use Rattle.journal_model.specs.declared.conflict.Conflict.{Conflict}
use Rattle.journal_model.specs.declared.entry.ReadMark.{ReadMark}
use Rattle.journal_model.specs.declared.entry.ReadMark.TheVariants.{Row, Table}
use Rattle.journal_model.specs.declared.stale.Stale.{Stale}
use Rattle.journal_model.specs.Calls.{Call, is_put, is_marked, entry_of}
use Rattle.journal_model.specs.Conflicts.{conflict_of}
use Rattle.journal_model.specs.Limits.{entry_bytes, full_for}
use Rattle.journal_model.specs.Reboots.{down_of}
use Rattle.journal_model.specs.Requests.{commit_of}
use Rattle.journal_model.specs.Stale.{stale_in}
use Rattle.call_ticket.specs.declared.limits.TheConstants.{MAX_FRAMES, MAX_STEPS, MAX_MARKS, MAX_WRITES}
use Rattle.boot_core.specs.Boot.{BootValue}
use Rattle.boot_core.specs.Faults.{fault_of}
use Rattle.boot_core.specs.declared.refusals.CallRefusal.{CallRefusal}
use Rattle.boot_core.specs.declared.refusals.CallRefusal.TheVariants.{Revoked, Depth, Steps, Reads, Writes, Sentinel, Hung, Raised, OutOfMemory}
use Rattle.boot_core.specs.declared.refusals.CommitRefusal.{CommitRefusal}
use Rattle.boot_core.specs.declared.refusals.CommitRefusal.TheVariants as commits
use Rattle.boot_core.specs.declared.refusals.RebootRefusal.{RebootRefusal}
use Rattle.boot_core.specs.declared.refusals.RebootRefusal.TheVariants as reboots
use Rattle.boot_core.specs.declared.refusals.Refused.{Refused}

-- a step of a call that has a stale touch is refused
abbrev pub revoked : List Entry → Call → Option CallRefusal
revoked es call = option_map (λ s. Revoked s) (stale_in es call.touched)

-- an enter of a component of a group is barred where the call is stale, has all its frames open or made all its
-- steps, and where the group is down
abbrev pub barred : List Entry → Call → ℕ → Option CallRefusal
barred es call g =
    first_of (revoked es call
    ∷ only_if (length call.frames == MAX_FRAMES) Depth
    ∷ only_if (call.steps == MAX_STEPS) Steps
    ∷ option_map (λ place. Sentinel (group_no g) place) (down_of es g)
    ∷ [])

-- a component fails by a plan of its kind; one that leaks does not
abbrev pub failing : ComponentNo → Option (ℕ × FaultKind) → Option CallRefusal
failing c None = None
failing c (Some (fault, Raise)) = Some (Raised c fault)
failing c (Some (fault, Hang)) = Some (Hung c fault)
failing c (Some (fault, Leak)) = None

-- An enter of a component is refused where it is barred, and where the component fails.
abbrev pub enter_refusal : BootValue → Call → ComponentNo → Option CallRefusal
enter_refusal b call c =
    first_of (barred b.entries call (group_of b.start.deployment c.0) ∷ failing c (fault_of b c) ∷ [])

-- an exit is refused where the call is stale or has made all its steps
abbrev pub exit_refusal : List Entry → Call → Option CallRefusal
exit_refusal es call = first_of (revoked es call ∷ only_if (call.steps == MAX_STEPS) Steps ∷ [])

-- a mark of what is read would be one too many
abbrev pub reads_refusal : Call → ReadMark → Option CallRefusal
reads_refusal call read =
    if is_marked call.marks read then None else only_if (length call.marks == MAX_MARKS) Reads

-- a read of a row is refused where the call is stale or has made all its steps, and where its mark would be one too
-- many; its own put is read without a mark
abbrev pub read_refusal : List Entry → Call → RowId → Option CallRefusal
read_refusal es call id =
    first_of (revoked es call
    ∷ only_if (call.steps == MAX_STEPS) Steps
    ∷ (if is_put call.writes id then None else reads_refusal call (Row id))
    ∷ [])

-- a list of a table is refused where the call is stale or has made all its steps, and where its mark would be one too
-- many
abbrev pub list_refusal : List Entry → Call → ℕ → Option CallRefusal
list_refusal es call t =
    first_of (revoked es call
    ∷ only_if (call.steps == MAX_STEPS) Steps
    ∷ reads_refusal call (Table t)
    ∷ [])

-- a put is refused where the call is stale or has made all its steps, and where its row would be one too many
abbrev pub put_refusal : List Entry → Call → RowId → Option CallRefusal
put_refusal es call id =
    first_of (revoked es call
    ∷ only_if (call.steps == MAX_STEPS) Steps
    ∷ (if is_put call.writes id then None else only_if (length call.writes == MAX_WRITES) Writes)
    ∷ [])

-- the first refusal is answered, and out of memory only where there is none
abbrev pub CallAnswer : {T : Type 0} → Option CallRefusal → Result T CallRefusal → Type 0
CallAnswer refusal (Ok _) = refusal ≡ None
CallAnswer refusal (Err OutOfMemory) = refusal ≡ None
CallAnswer refusal (Err e) = refusal ≡ Some e

-- the journal has room for the entry of a call
abbrev pub HasRoomFor : JournalLimits → List Entry → Call → Option ActionEntry → Type 0
HasRoomFor limits es call action =
    full_for limits es 1 (entry_bytes (Commit (entry_of call action))) ≡ None

-- A commit is refused where the request has committed, where the call is stale, where what it read or writes was
-- written since it began, and where its entry would pass a limit of the journal.
abbrev pub commit_refusal : JournalLimits → List Entry → Call → Option ActionEntry → Option CommitRefusal
commit_refusal limits es call action =
    first_of (option_map (λ (place : Place). commits.Already place) (commit_of es call.request)
    ∷ option_map (λ (s : Stale). commits.Revoked s) (stale_in es call.touched)
    ∷ option_map (λ (c : Conflict). commits.Conflict c) (conflict_of es call)
    ∷ option_map
    (λ (full : FullAt). commits.JournalFull full)
    (full_for limits es 1 (entry_bytes (Commit (entry_of call action))))
    ∷ [])

-- The cause is the first of four parts that is there: the earlier commit of the request, a stale touch, a conflict, and
-- a journal that is too full.
abbrev pub IsFirstOf : Option Place → Option Stale → Option Conflict → Option FullAt → CommitRefusal → Type 0
IsFirstOf already stale conflict full commits.OutOfMemory = ⊥
IsFirstOf already stale conflict full commits.KeeperFailed = ⊥
IsFirstOf already stale conflict full (commits.Already place) = already ≡ Some place
IsFirstOf already stale conflict full (commits.Revoked s) = (already ≡ None) × (stale ≡ Some s)
IsFirstOf already stale conflict full (commits.Conflict c) =
    (already ≡ None) × (stale ≡ None) × (conflict ≡ Some c)
IsFirstOf already stale conflict full (commits.JournalFull at) =
    (already ≡ None) × (stale ≡ None) × (conflict ≡ None) × (full ≡ Some at)

-- The cause has a test: it is neither out of memory nor a failed keeper.
abbrev pub IsTested : CommitRefusal → Type 0
IsTested commits.OutOfMemory = ⊥
IsTested commits.KeeperFailed = ⊥
IsTested (commits.Already place) = Unit {0}
IsTested (commits.Revoked s) = Unit {0}
IsTested (commits.Conflict c) = Unit {0}
IsTested (commits.JournalFull full) = Unit {0}

-- the cause of a refused commit is the first refusal, and out of memory or a failed keeper only where there is none
abbrev pub IsCause : Option CommitRefusal → CommitRefusal → Type 0
IsCause refusal commits.OutOfMemory = refusal ≡ None
IsCause refusal commits.KeeperFailed = refusal ≡ None
IsCause refusal (commits.Already place) = refusal ≡ Some (commits.Already place)
IsCause refusal (commits.Revoked s) = refusal ≡ Some (commits.Revoked s)
IsCause refusal (commits.Conflict c) = refusal ≡ Some (commits.Conflict c)
IsCause refusal (commits.JournalFull full) = refusal ≡ Some (commits.JournalFull full)

-- a commit is answered by its place where nothing refuses it, and else by that cause
abbrev pub CommitAnswer : Option CommitRefusal → Result Place Refused → Type 0
CommitAnswer refusal (Ok _) = refusal ≡ None
CommitAnswer refusal (Err refused) = IsCause refusal refused.cause

-- a group that the scope holds is busy while it is down
abbrev pub busy_at : List Entry → Scope → ℕ → Option RebootRefusal
busy_at es s g =
    if holds s g then option_map (λ place. reboots.Busy (group_no g) place) (down_of es g) else None

-- the first of n groups from g on that is busy
abbrev pub busy_from : List Entry → Scope → ℕ → ℕ → Option RebootRefusal
busy_from es s g zero = None
busy_from es s g (suc n) = first_of (busy_at es s g ∷ busy_from es s (g + 1) n ∷ [])

-- the least group that is busy, with the place of the Down that keeps it down: the law `least_group_is_busy` says so
unfoldable pub busy : List Entry → Scope → Option RebootRefusal
busy es s = busy_from es s 0 MAX_GROUPS

-- a reboot is refused where a group of its scope is busy, and where its Down and its Up would pass a limit
abbrev pub reboot_refusal : JournalLimits → List Entry → Scope → Option RebootRefusal
reboot_refusal limits es s =
    first_of (busy es s
    ∷ option_map (λ (full : FullAt). reboots.JournalFull full) (full_for limits es 2 0)
    ∷ [])

-- the first refusal of a reboot is answered, and out of memory only where there is none
abbrev pub RebootAnswer : Option RebootRefusal → Result Place RebootRefusal → Type 0
RebootAnswer refusal (Ok _) = refusal ≡ None
RebootAnswer refusal (Err reboots.OutOfMemory) = refusal ≡ None
RebootAnswer refusal (Err e) = refusal ≡ Some e

-- The least group of a scope that is down, and the place of the Down that keeps it down.
pub record IsLeastDown (es : List Entry) (s : Scope) (group : GroupNo) (place : Place) : Type 0 where
  pub within : group.0 < MAX_GROUPS
  pub held : holds s group.0 ≡ true
  pub down : down_of es group.0 ≡ Some place
  pub least : (g : ℕ) → g < group.0 → holds s g ≡ true → down_of es g ≡ None
