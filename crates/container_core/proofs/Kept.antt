-- A container whose parts agree, once an entry or a mark came.
use Rattle.std.proofs.Common.{◌≡◌, ◌≤◌, ℕ, Bool, true, false, if◌then◌else◌, inl, inr, List, [], ◌∷◌, ◌++◌, length, Option, Some, None, Result, Ok, Err, OnOk, OnErr, refl, sym, ◌∙◌, ap, subst, append-nil, arith, length-append}
use Rattle.crash_base.specs.declared.numbers.Place.{Place}
use Rattle.crash_base.specs.declared.numbers.RequestNo.{RequestNo}
use Rattle.crash_base.specs.declared.rows.RowWrite.{RowWrite}
use Rattle.crash_base.specs.Rows.{put_all}
use Rattle.journal_model.specs.Calls.{Call}
use Rattle.journal_model.specs.declared.entry.Entry.{Entry}
use Rattle.journal_model.specs.Rows.{writes_of, rows_after}
use Rattle.journal_model.proofs.Adding.{rows_after-push}
use Rattle.outside.specs.Keeper.{KeeperTold, TellsRefusal, after_fault}
use Rattle.outside.specs.declared.keeper.KeeperFault.{KeeperFault}
use Rattle.outside.specs.declared.keeper.KeeperFault.TheVariants as faults
use Rattle.boot_core.specs.Boot.{BootValue, with_entry}
use Rattle.boot_core.specs.Keeper.{kept_writes, TellsCause}
use Rattle.boot_core.specs.Refusals.{IsTested}
use Rattle.boot_core.specs.declared.refusals.CommitRefusal.{CommitRefusal}
use Rattle.boot_core.specs.declared.refusals.CommitRefusal.TheVariants as commits
use Rattle.container_core.specs.Container.{ContainerValue, HoldsRows, PartsAgree, HasGrownBy, RefusalLeaves, with_entry_event}
use Rattle.container_core.specs.History.{laid, AreLaid, has_stop, stop_count, is_stopped, mark_at, marks_after}
use Rattle.container_core.specs.declared.history.Event.{Event}
use Rattle.container_core.specs.declared.history.Event.TheVariants.{Added, KeeperFailed, Stopped}
use Rattle.container_core.specs.declared.history.HistoryMark.{HistoryMark}
use Rattle.container_core.specs.declared.history.MarkedEvent.TheVariants as marked
use Rattle.container_core.proofs.Laid.{laid-push, laid-mark, laid_more, laid_marked, stop_is, stops-first, stops-failure}

-- the container of these parts
abbrev pub of_parts : BootValue → List HistoryMark → Option KeeperTold → ℕ → ContainerValue
of_parts boot marks told faults = record { boot = boot; since = laid 0 boot.entries marks; told = told; faults = faults }

-- an entry without writes leaves the rows
pub holds_still : (told : Option KeeperTold) (boot : BootValue) (e : Entry) → writes_of e ≡ [] → HoldsRows told boot → HoldsRows told (with_entry boot e)
holds_still None boot e none holds = holds
holds_still (Some t) boot e none holds =
    holds ∙ ap (λ ws. put_all ws (rows_after boot.start.base boot.entries)) (sym none) ∙ sym (rows_after-push boot.start.base boot.entries e)

-- the writes of a commit are put by the keeper as by the journal
pub holds_commit : (told : Option KeeperTold) (boot : BootValue) (e : Entry) (ws : List RowWrite) → writes_of e ≡ ws → HoldsRows told boot → HoldsRows (kept_writes ws told) (with_entry boot e)
holds_commit told boot e [] made holds = holds_still told boot e made holds
holds_commit None boot e (w ∷ ws) made holds = holds
holds_commit (Some t) boot e (w ∷ ws) made holds =
    ap (put_all (w ∷ ws)) holds ∙ ap (λ xs. put_all xs (rows_after boot.start.base boot.entries)) (sym made) ∙ sym (rows_after-push boot.start.base boot.entries e)

abbrev rows_told : Option KeeperTold → List RowWrite
rows_told None = []
rows_told (Some t) = t.rows

-- a call that answered a fault leaves the rows that are told
fault_rows : (fault : KeeperFault) (t : KeeperTold) → (after_fault fault t).rows ≡ t.rows
fault_rows faults.OutOfMemory t = refl
fault_rows faults.Failed t = refl

holds_fault : (fault : KeeperFault) (told after : Option KeeperTold) (boot : BootValue) → TellsRefusal fault told after → HoldsRows told boot → HoldsRows after boot
holds_fault fault told None boot tells holds = tt
holds_fault fault None (Some u) boot (inl is) holds = absurd (cc)
holds_fault fault None (Some u) boot (inr is) holds = absurd (cc)
holds_fault fault (Some t) (Some u) boot (inl is) holds = ap rows_told is ∙ fault_rows fault t ∙ holds
holds_fault fault (Some t) (Some u) boot (inr is) holds = absurd (cc)

holds_same : (told after : Option KeeperTold) (boot : BootValue) → after ≡ told → HoldsRows told boot → HoldsRows after boot
holds_same told after boot same holds = let P : Option KeeperTold → Type 0 = λ t. HoldsRows t boot in subst P (sym same) holds

-- a refused commit leaves the rows that the keeper tells
pub holds_refused : (cause : CommitRefusal) (ws : List RowWrite) (told after : Option KeeperTold) (boot : BootValue) → TellsCause cause ws told after → HoldsRows told boot → HoldsRows after boot
holds_refused commits.KeeperFailed ws told after boot tells holds = holds_fault faults.Failed told after boot tells.1 holds
holds_refused commits.OutOfMemory ws told after boot (inl same) holds = holds_same told after boot same holds
holds_refused commits.OutOfMemory ws told after boot (inr tells) holds = holds_fault faults.OutOfMemory told after boot tells.1 holds
holds_refused (commits.Already at) ws told after boot tells holds = holds_same told after boot tells holds
holds_refused (commits.Revoked s) ws told after boot tells holds = holds_same told after boot tells holds
holds_refused (commits.Conflict c) ws told after boot tells holds = holds_same told after boot tells holds
holds_refused (commits.JournalFull full) ws told after boot tells holds = holds_same told after boot tells holds

pub kept_push : (boot now : BootValue) (marks : List HistoryMark) (told after : Option KeeperTold) (e : Entry) → now ≡ with_entry boot e → PartsAgree boot marks told → HoldsRows after (with_entry boot e) → PartsAgree now marks after
kept_push boot now marks told after e made kept holds =
    let P : BootValue → Type 0 = λ b. PartsAgree b marks after in
    subst P (sym made) (record {
      marked = laid_more 0 (length boot.entries) (length (boot.entries ++ e ∷ [])) marks kept.marked (omega (arith, length-append boot.entries (e ∷ [])));
      stops = kept.stops;
      rows = holds;
    })

-- a container has grown by an entry
pub pushed_is : (boot now : BootValue) (marks : List HistoryMark) (told after : Option KeeperTold) (count later : ℕ) (e : Entry) → now ≡ with_entry boot e → AreLaid 0 marks (length boot.entries)
    → of_parts now marks after later ≡ (record (with_entry_event (of_parts boot marks told count) e) { told = after; faults = later })
pushed_is boot now marks told after count later e made fits =
    ap (λ (b : BootValue). of_parts b marks after later) made
    ∙ ap (λ (since : List Event). let c : ContainerValue = record { boot = with_entry boot e; since = since; told = after; faults = later } in c) (laid-push 0 boot.entries e marks fits)

pub grown_by : (boot now : BootValue) (marks : List HistoryMark) (told after : Option KeeperTold) (count later : ℕ) (e : Entry) → now ≡ with_entry boot e → AreLaid 0 marks (length boot.entries)
    → HasGrownBy (of_parts boot marks told count) (of_parts now marks after later)
grown_by boot now marks told after count later e made fits =
    let P : ContainerValue → Type 0 = λ c. HasGrownBy (of_parts boot marks told count) c in
    subst P (sym (pushed_is boot now marks told after count later e made fits)) (record {
      boot = record { start = refl; more = e ∷ []; entries = refl };
      more = Added e ∷ [];
      since = refl;
    })

marked_with : (boot : BootValue) (marks : List HistoryMark) (told : Option KeeperTold) (place : Place) → place.0 ≡ length boot.entries → has_stop marks ≡ false → PartsAgree boot marks told → PartsAgree boot (marks ++ mark_at place marked.Stopped ∷ []) told
marked_with boot marks told place at none kept = record {
  marked = laid_marked 0 (length boot.entries) place marked.Stopped marks at kept.marked;
  stops = stops-first place marks none;
  rows = kept.rows;
}

kept_stop_if : (b : Bool) (boot : BootValue) (marks : List HistoryMark) (told : Option KeeperTold) (place : Place) → place.0 ≡ length boot.entries → has_stop marks ≡ b → PartsAgree boot marks told
    → PartsAgree boot (if b then marks else marks ++ mark_at place marked.Stopped ∷ []) told
kept_stop_if true boot marks told place at stopped kept = kept
kept_stop_if false boot marks told place at none kept = marked_with boot marks told place at none kept

pub kept_stop : (boot : BootValue) (marks more : List HistoryMark) (told : Option KeeperTold) (place : Place) → place.0 ≡ length boot.entries → more ≡ (if has_stop marks then marks else marks ++ mark_at place marked.Stopped ∷ []) → PartsAgree boot marks told → PartsAgree boot more told
kept_stop boot marks more told place at made kept =
    let P : List HistoryMark → Type 0 = λ ms. PartsAgree boot ms told in
    subst P (sym made) (kept_stop_if (has_stop marks) boot marks told place at refl kept)

stopped_if : (b : Bool) (boot : BootValue) (marks : List HistoryMark) (told : Option KeeperTold) (count : ℕ) (place : Place) → place.0 ≡ length boot.entries → AreLaid 0 marks (length boot.entries)
    → of_parts boot (if b then marks else marks ++ mark_at place marked.Stopped ∷ []) told count
    ≡ (if b then of_parts boot marks told count else record (of_parts boot marks told count) { since = laid 0 boot.entries marks ++ Stopped ∷ [] })
stopped_if true boot marks told count place at fits = refl
stopped_if false boot marks told count place at fits =
    ap (λ (since : List Event). let c : ContainerValue = record { boot = boot; since = since; told = told; faults = count } in c) (laid-mark 0 boot.entries place marked.Stopped marks at fits)

-- a stop marks a container that was not stopped, and no other
pub stopped_as : (boot : BootValue) (marks more : List HistoryMark) (told : Option KeeperTold) (count : ℕ) (place : Place) → place.0 ≡ length boot.entries → more ≡ (if has_stop marks then marks else marks ++ mark_at place marked.Stopped ∷ []) → AreLaid 0 marks (length boot.entries)
    → of_parts boot more told count
    ≡ (if is_stopped (laid 0 boot.entries marks) then of_parts boot marks told count else record (of_parts boot marks told count) { since = laid 0 boot.entries marks ++ Stopped ∷ [] })
stopped_as boot marks more told count place at made fits =
    ap (λ (ms : List HistoryMark). of_parts boot ms told count) made
    ∙ stopped_if (has_stop marks) boot marks told count place at fits
    ∙ ap (λ (b : Bool). if b then of_parts boot marks told count else record (of_parts boot marks told count) { since = laid 0 boot.entries marks ++ Stopped ∷ [] }) (sym (stop_is 0 boot.entries marks))

stop_grows : (b : Bool) (old : ContainerValue) → HasGrownBy old (if b then old else record old { since = old.since ++ Stopped ∷ [] })
stop_grows true old = record { boot = record { start = refl; more = []; entries = sym (append-nil old.boot.entries) }; more = []; since = sym (append-nil old.since) }
stop_grows false old = record { boot = record { start = refl; more = []; entries = sym (append-nil old.boot.entries) }; more = Stopped ∷ []; since = refl }

pub grown_by_stop : (old new : ContainerValue) → new ≡ (if is_stopped old.since then old else record old { since = old.since ++ Stopped ∷ [] }) → HasGrownBy old new
grown_by_stop old new is =
    let P : ContainerValue → Type 0 = λ c. HasGrownBy old c in
    subst P (sym is) (stop_grows (is_stopped old.since) old)

all_same : (boot now : BootValue) (marks more : List HistoryMark) (told after : Option KeeperTold) (count later : ℕ) → now ≡ boot → more ≡ marks → (after ≡ told) × (later ≡ count) → of_parts now more after later ≡ of_parts boot marks told count
all_same boot now marks more told after count later a b c =
    ap (λ (x : BootValue). of_parts x more after later) a ∙ ap (λ x. of_parts boot x after later) b
    ∙ ap (λ x. of_parts boot marks x later) c.0 ∙ ap (λ x. of_parts boot marks told x) c.1

-- what a refused commit leaves
pub refused_as : (cause : CommitRefusal) (call : Call) (boot now : BootValue) (marks more : List HistoryMark) (told after : Option KeeperTold) (count later : ℕ) (place : Place) (request : RequestNo)
    → now ≡ boot → place.0 ≡ length boot.entries → request ≡ call.request → more ≡ marks_after cause place request marks → AreLaid 0 marks (length boot.entries) → (IsTested cause → (after ≡ told) × (later ≡ count))
    → RefusalLeaves cause call (of_parts boot marks told count) (of_parts now more after later)
refused_as commits.KeeperFailed call boot now marks more told after count later place request same at from made fits tested =
    (same, ap (λ (b : BootValue). laid 0 b.entries more) same ∙ ap (laid 0 boot.entries) made ∙ laid-mark 0 boot.entries place (marked.KeeperFailed request) marks at fits ∙ ap (λ r. laid 0 boot.entries marks ++ KeeperFailed r ∷ []) from)
refused_as commits.OutOfMemory call boot now marks more told after count later place request same at from made fits tested =
    (same, ap (λ (b : BootValue). laid 0 b.entries more) same ∙ ap (laid 0 boot.entries) made)
refused_as (commits.Already x) call boot now marks more told after count later place request same at from made fits tested = all_same boot now marks more told after count later same made (tested tt)
refused_as (commits.Revoked x) call boot now marks more told after count later place request same at from made fits tested = all_same boot now marks more told after count later same made (tested tt)
refused_as (commits.Conflict x) call boot now marks more told after count later place request same at from made fits tested = all_same boot now marks more told after count later same made (tested tt)
refused_as (commits.JournalFull x) call boot now marks more told after count later place request same at from made fits tested = all_same boot now marks more told after count later same made (tested tt)

marked_after : (cause : CommitRefusal) (boot : BootValue) (marks : List HistoryMark) (place : Place) (request : RequestNo) → place.0 ≡ length boot.entries → AreLaid 0 marks (length boot.entries) → AreLaid 0 (marks_after cause place request marks) (length boot.entries)
marked_after commits.KeeperFailed boot marks place request at fits = laid_marked 0 (length boot.entries) place (marked.KeeperFailed request) marks at fits
marked_after commits.OutOfMemory boot marks place request at fits = fits
marked_after (commits.Already x) boot marks place request at fits = fits
marked_after (commits.Revoked x) boot marks place request at fits = fits
marked_after (commits.Conflict x) boot marks place request at fits = fits
marked_after (commits.JournalFull x) boot marks place request at fits = fits

few_after : (cause : CommitRefusal) (place : Place) (request : RequestNo) (marks : List HistoryMark) → stop_count marks ≤ 1 → stop_count (marks_after cause place request marks) ≤ 1
few_after commits.KeeperFailed place request marks few = omega (arith, few, stops-failure place request marks)
few_after commits.OutOfMemory place request marks few = few
few_after (commits.Already x) place request marks few = few
few_after (commits.Revoked x) place request marks few = few
few_after (commits.Conflict x) place request marks few = few
few_after (commits.JournalFull x) place request marks few = few

pub kept_refused : (cause : CommitRefusal) (ws : List RowWrite) (boot now : BootValue) (marks more : List HistoryMark) (told after : Option KeeperTold) (place : Place) (request : RequestNo)
    → now ≡ boot → place.0 ≡ length boot.entries → more ≡ marks_after cause place request marks → TellsCause cause ws told after → PartsAgree boot marks told → PartsAgree now more after
kept_refused cause ws boot now marks more told after place request same at made tells kept =
    let P : BootValue → Type 0 = λ b. PartsAgree b more after in
    let Q : List HistoryMark → Type 0 = λ ms. PartsAgree boot ms after in
    subst P (sym same) (subst Q (sym made) (record {
      marked = marked_after cause boot marks place request at kept.marked;
      stops = few_after cause place request marks kept.stops;
      rows = holds_refused cause ws told after boot tells kept.rows;
    }))

abbrev more_marks : (cause : CommitRefusal) (place : Place) (request : RequestNo) → List Event
more_marks commits.KeeperFailed place request = KeeperFailed request ∷ []
more_marks commits.OutOfMemory place request = []
more_marks (commits.Already x) place request = []
more_marks (commits.Revoked x) place request = []
more_marks (commits.Conflict x) place request = []
more_marks (commits.JournalFull x) place request = []

-- the mark of a refused commit comes last among the events
laid_after : (cause : CommitRefusal) (boot : BootValue) (marks : List HistoryMark) (place : Place) (request : RequestNo) → place.0 ≡ length boot.entries → AreLaid 0 marks (length boot.entries)
    → laid 0 boot.entries (marks_after cause place request marks) ≡ laid 0 boot.entries marks ++ more_marks cause place request
laid_after commits.KeeperFailed boot marks place request at fits = laid-mark 0 boot.entries place (marked.KeeperFailed request) marks at fits
laid_after commits.OutOfMemory boot marks place request at fits = sym (append-nil (laid 0 boot.entries marks))
laid_after (commits.Already x) boot marks place request at fits = sym (append-nil (laid 0 boot.entries marks))
laid_after (commits.Revoked x) boot marks place request at fits = sym (append-nil (laid 0 boot.entries marks))
laid_after (commits.Conflict x) boot marks place request at fits = sym (append-nil (laid 0 boot.entries marks))
laid_after (commits.JournalFull x) boot marks place request at fits = sym (append-nil (laid 0 boot.entries marks))

pub grown_by_refused : (cause : CommitRefusal) (boot now : BootValue) (marks more : List HistoryMark) (told after : Option KeeperTold) (count later : ℕ) (place : Place) (request : RequestNo)
    → now ≡ boot → place.0 ≡ length boot.entries → more ≡ marks_after cause place request marks → AreLaid 0 marks (length boot.entries)
    → HasGrownBy (of_parts boot marks told count) (of_parts now more after later)
grown_by_refused cause boot now marks more told after count later place request same at made fits = record {
  boot = record {
    start = ap (λ (b : BootValue). b.start) same;
    more = [];
    entries = ap (λ (b : BootValue). b.entries) same ∙ sym (append-nil boot.entries);
  };
  more = more_marks cause place request;
  since = ap (λ (b : BootValue). laid 0 b.entries more) same ∙ ap (laid 0 boot.entries) made ∙ laid_after cause boot marks place request at fits;
}

pub kept_if_pushed : {T E : Type 0} (result : Result T E) (boot now : BootValue) (marks : List HistoryMark) (told : Option KeeperTold) (e : Entry) → OnOk result (now ≡ with_entry boot e) → OnErr result (now ≡ boot) → writes_of e ≡ [] → PartsAgree boot marks told → PartsAgree now marks told
kept_if_pushed (Ok x) boot now marks told e ok err none kept = kept_push boot now marks told told e ok kept (holds_still told boot e none kept.rows)
kept_if_pushed (Err x) boot now marks told e ok err none kept = let P : BootValue → Type 0 = λ b. PartsAgree b marks told in subst P (sym err) kept

pub pushed_if : {T E : Type 0} (result : Result T E) (boot now : BootValue) (marks : List HistoryMark) (told : Option KeeperTold) (count : ℕ) (e : Entry) → OnOk result (now ≡ with_entry boot e) → AreLaid 0 marks (length boot.entries)
    → OnOk result (of_parts now marks told count ≡ with_entry_event (of_parts boot marks told count) e)
pushed_if (Ok x) boot now marks told count e ok fits = pushed_is boot now marks told told count count e ok fits
pushed_if (Err x) boot now marks told count e ok fits = tt

pub grown_if : {T E : Type 0} (result : Result T E) (boot now : BootValue) (marks : List HistoryMark) (told : Option KeeperTold) (count : ℕ) (e : Entry) → OnOk result (now ≡ with_entry boot e) → OnErr result (now ≡ boot) → AreLaid 0 marks (length boot.entries)
    → HasGrownBy (of_parts boot marks told count) (of_parts now marks told count)
grown_if (Ok x) boot now marks told count e ok err fits = grown_by boot now marks told told count count e ok fits
grown_if (Err x) boot now marks told count e ok err fits =
    let P : BootValue → Type 0 = λ b. HasGrownBy (of_parts boot marks told count) (of_parts b marks told count) in
    subst P (sym err) (record {
      boot = record { start = refl; more = []; entries = sym (append-nil boot.entries) };
      more = [];
      since = sym (append-nil (laid 0 boot.entries marks));
    })
