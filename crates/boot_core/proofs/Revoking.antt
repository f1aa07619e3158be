-- What reboots do to calls.
use Rattle.std.proofs.Common.{◌≡◌, ◌≢◌, ◌==◌, ℕ, suc, ◌+◌, ◌<◌, ◌≤◌, max, arith, length-append, true, false, cond, if◌then◌else◌, List, [], ◌∷◌, ◌++◌, length, position, Option, Some, None, option_map, All, slice_get, refl, sym, ap, ◌∙◌}
use Rattle.crash_base.specs.declared.row_id.RowId.{RowId}
use Rattle.crash_base.specs.declared.scope.Scope.{Scope}
use Rattle.crash_base.specs.Scope.{holds}
use Rattle.journal_model.specs.declared.entry.Entry.{Entry}
use Rattle.journal_model.specs.declared.entry.Entry.TheVariants.{Down, Up}
use Rattle.journal_model.specs.declared.entry.Touch.{Touch}
use Rattle.journal_model.specs.declared.stale.Stale.{Stale}
use Rattle.journal_model.specs.declared.status.GroupStatus.{GroupStatus}
use Rattle.journal_model.specs.Calls.{Call}
use Rattle.journal_model.specs.Legal.{AreInTurn, MayEnd}
use Rattle.journal_model.specs.Reboots.{is_down_of, down_of}
use Rattle.journal_model.specs.Stale.{IsTouch, IsStale, stale_in}
use Rattle.journal_model.proofs.Ending.{status_of-up}
use Rattle.journal_model.proofs.Places.{all_there}
use Rattle.journal_model.proofs.Rebooting.{status_of-beside_down, status_of-beside_up}
use Rattle.journal_model.proofs.Filling.{bytes_of-push, undone_downs-up}
use Rattle.journal_model.specs.Limits.{places, bytes_of}
use Rattle.journal_model.specs.declared.entry.ActionEntry.{ActionEntry}
use Rattle.journal_model.specs.declared.limits.JournalLimits.{JournalLimits}
use Rattle.call_ticket.specs.declared.limits.TheConstants.{MAX_FRAMES, MAX_STEPS}
use Rattle.std.proofs.lemmas.Bool.Decides.{nat_tests}
use Rattle.journal_model.proofs.Revoking.{first_stale, none_stale, stale_lasts, stale_in-beside}
use Rattle.crash_base.specs.declared.numbers.RequestNo.{RequestNo}
use Rattle.crash_base.proofs.Positions.{position-cons}
use Rattle.journal_model.specs.declared.entry.ReadMark.{ReadMark}
use Rattle.journal_model.specs.Conflicts.{conflict_in, rests_on}
use Rattle.journal_model.specs.Requests.{is_commit_of, commit_of, place_no}
use Rattle.journal_model.specs.Rows.{writes_of}
use Rattle.journal_model.specs.Snapshots.{newest_from, writes_read}
use Rattle.std.proofs.lemmas.Grind.{common_steps}
use Rattle.boot_core.specs.Refusals.{barred, exit_refusal, read_refusal, list_refusal, put_refusal, commit_refusal, HasRoomFor}
use Rattle.boot_core.specs.Revoked.{IsRevoked}

revoked_by : (es : List Entry) (call : Call) (s : Stale) → stale_in es call.touched ≡ Some s → IsRevoked es call
revoked_by es call s found = record {
  shown = s;
  first = first_stale es call.touched s found;
  check = found;
  enter = λ g. rw found refl;
  exit = rw found refl;
  read = λ id. rw found refl;
  list = λ t. rw found refl;
  put = λ id. rw found refl;
  commit = λ limits action once. rw (once, found) refl;
}

revoked_where : (es : List Entry) (call : Call) → stale_in es call.touched ≢ None → IsRevoked es call
revoked_where es call stale = go (stale_in es call.touched) refl
  where
    go : (o : Option Stale) → stale_in es call.touched ≡ o → IsRevoked es call
    go None is = absurd (stale is)
    go (Some s) is = revoked_by es call s is

pub revoked_lasts : (es more : List Entry) (call : Call) → IsRevoked es call → IsRevoked (es ++ more) call
revoked_lasts es more call r = revoked_where (es ++ more) call (stale_lasts es more call.touched (λ none. let is : Some r.shown ≡ None = sym r.check ∙ none in cc))

at_end : (es : List Entry) (e : Entry) → slice_get (es ++ e ∷ []) (length es) ≡ Some e
at_end [] e = refl
at_end (x ∷ xs) e = at_end xs e

pub down_revokes : (es : List Entry) (call : Call) (t : Touch) (i : ℕ) (s : Scope) → slice_get call.touched i ≡ Some t → t.front.0 ≤ length es → holds s t.group.0 ≡ true → IsRevoked (es ++ Down s ∷ []) call
down_revokes es call t i s there since held = revoked_where (es ++ Down s ∷ []) call (λ none.
    all_there (λ u. ¬ IsStale (es ++ Down s ∷ []) u) call.touched i t (none_stale (es ++ Down s ∷ []) call.touched none) there
    (record { place = length es; since = since; scope = s; down = at_end es (Down s); holding = held }))

pub put_beside : (es : List Entry) (e : Entry) (call : Call) (id : RowId) → All (IsTouch es) call.touched → All (λ t. is_down_of t.group.0 e ≡ false) call.touched → put_refusal (es ++ e ∷ []) call id ≡ put_refusal es call id
put_beside es e call id touches apart = rw (stale_in-beside es e call.touched touches apart) refl

pub exit_beside : (es : List Entry) (e : Entry) (call : Call) → All (IsTouch es) call.touched → All (λ t. is_down_of t.group.0 e ≡ false) call.touched → exit_refusal (es ++ e ∷ []) call ≡ exit_refusal es call
exit_beside es e call touches apart = rw (stale_in-beside es e call.touched touches apart) refl

pub read_beside : (es : List Entry) (e : Entry) (call : Call) (id : RowId) → All (IsTouch es) call.touched → All (λ t. is_down_of t.group.0 e ≡ false) call.touched → read_refusal (es ++ e ∷ []) call id ≡ read_refusal es call id
read_beside es e call id touches apart = rw (stale_in-beside es e call.touched touches apart) refl

pub list_beside : (es : List Entry) (e : Entry) (call : Call) (t : ℕ) → All (IsTouch es) call.touched → All (λ t. is_down_of t.group.0 e ≡ false) call.touched → list_refusal (es ++ e ∷ []) call t ≡ list_refusal es call t
list_beside es e call t touches apart = rw (stale_in-beside es e call.touched touches apart) refl

pub enter_beside : (es : List Entry) (s : Scope) (call : Call) (g : ℕ) → All (IsTouch es) call.touched → All (λ t. holds s t.group.0 ≡ false) call.touched → holds s g ≡ false → barred (es ++ Down s ∷ []) call g ≡ barred es call g
enter_beside es s call g touches apart beside =
    let down : down_of (es ++ Down s ∷ []) g ≡ down_of es g = ap (λ (x : GroupStatus). x.down) (status_of-beside_down es s g beside) in
    rw (stale_in-beside es (Down s) call.touched touches apart, down) refl

-- an Up is no Down of any group
up_beside : (s : Scope) (touched : List Touch) → All (λ (t : Touch). is_down_of t.group.0 (Up s) ≡ false) touched
up_beside s touched = λ k d within. refl

pub enter_up_beside : (es : List Entry) (s : Scope) (call : Call) (g : ℕ) → All (IsTouch es) call.touched → holds s g ≡ false → barred (es ++ Up s ∷ []) call g ≡ barred es call g
enter_up_beside es s call g touches beside =
    let up : down_of (es ++ Up s ∷ []) g ≡ down_of es g = ap (λ (x : GroupStatus). x.down) (status_of-beside_up es s g beside) in
    rw (stale_in-beside es (Up s) call.touched touches (up_beside s call.touched), up) refl

-- an entry that writes nothing and is no commit changes neither which request has committed nor what is newest

commit_of_push : (es : List Entry) (e : Entry) (r : RequestNo) → is_commit_of r e ≡ false → commit_of (es ++ e ∷ []) r ≡ commit_of es r
commit_of_push es e r other = ap (option_map place_no) (go es)
  where
    go : (xs : List Entry) → position (is_commit_of r) (xs ++ e ∷ []) ≡ position (is_commit_of r) xs
    go [] = position-cons (is_commit_of r) e [] ∙ rw other refl
    go (x ∷ xs) = position-cons (is_commit_of r) x (xs ++ e ∷ []) ∙ ap (λ o. if is_commit_of r x then Some 0 else option_map suc o) (go xs) ∙ sym (position-cons (is_commit_of r) x xs)

newest_push : (i : ℕ) (es : List Entry) (e : Entry) (read : ReadMark) → writes_of e ≡ [] → newest_from i (es ++ e ∷ []) read ≡ newest_from i es read
newest_push i [] e read none = rw none (grind (arith, common_steps))
newest_push i (x ∷ xs) e read none = ap (max (cond (writes_read read (writes_of x)) (i + 1) 0)) (newest_push (i + 1) xs e read none)

conflict_push : (es : List Entry) (e : Entry) (at : ℕ) (reads : List ReadMark) → writes_of e ≡ [] → conflict_in (es ++ e ∷ []) at reads ≡ conflict_in es at reads
conflict_push es e at [] none = refl
conflict_push es e at (r ∷ rs) none = rw (newest_push 0 es e r none, conflict_push es e at rs none) refl

pub commit_beside : (limits : JournalLimits) (es : List Entry) (s : Scope) (call : Call) (action : Option ActionEntry) → All (IsTouch es) call.touched → All (λ t. holds s t.group.0 ≡ false) call.touched → HasRoomFor limits es call action → HasRoomFor limits (es ++ Down s ∷ []) call action → commit_refusal limits (es ++ Down s ∷ []) call action ≡ commit_refusal limits es call action
commit_beside limits es s call action touches apart before after = rw (commit_of_push es (Down s) call.request refl, stale_in-beside es (Down s) call.touched touches apart, conflict_push es (Down s) call.at.0 (rests_on call) refl, before, after) refl

pub commit_up : (limits : JournalLimits) (es : List Entry) (s : Scope) (call : Call) (action : Option ActionEntry) → AreInTurn es → MayEnd es s → All (IsTouch es) call.touched → commit_refusal limits (es ++ Up s ∷ []) call action ≡ commit_refusal limits es call action
commit_up limits es s call action turns may touches =
    let places_same : places (es ++ Up s ∷ []) ≡ places es = omega (arith, undone_downs-up es s turns may, length-append es (Up s ∷ [])) in
    let bytes_same : bytes_of (es ++ Up s ∷ []) ≡ bytes_of es = omega (arith, bytes_of-push es (Up s)) in
    rw (commit_of_push es (Up s) call.request refl, stale_in-beside es (Up s) call.touched touches (up_beside s call.touched), conflict_push es (Up s) call.at.0 (rests_on call) refl, places_same, bytes_same) refl

-- what is below a number is not that number
pub below_differs : (a b : ℕ) → a < b → (a == b) ≡ false
below_differs a b below = grind (arith, nat_tests)

pub enter_up : (es : List Entry) (s : Scope) (g : ℕ) (call : Call) → AreInTurn es → MayEnd es s → holds s g ≡ true → All (IsTouch es) call.touched → stale_in es call.touched ≡ None → length call.frames < MAX_FRAMES → call.steps < MAX_STEPS → barred (es ++ Up s ∷ []) call g ≡ None
enter_up es s g call turns may held touches fresh frames steps =
    let up : down_of (es ++ Up s ∷ []) g ≡ None = ap (λ (x : GroupStatus). x.down) (status_of-up es s g turns may held) in
    let still : stale_in (es ++ Up s ∷ []) call.touched ≡ None = stale_in-beside es (Up s) call.touched touches (up_beside s call.touched) ∙ fresh in
    rw (still, up, below_differs (length call.frames) MAX_FRAMES frames, below_differs call.steps MAX_STEPS steps) refl
