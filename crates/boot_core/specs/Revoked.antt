-- What a reboot does to the calls that entered one of its groups.
use Rattle.std.specs.Prelude.{◌≡◌, ℕ, List, Option, Some, None}
use Rattle.crash_base.specs.declared.row_id.RowId.{RowId}
use Rattle.journal_model.specs.declared.entry.ActionEntry.{ActionEntry}
use Rattle.journal_model.specs.declared.entry.Entry.{Entry}
use Rattle.journal_model.specs.declared.limits.JournalLimits.{JournalLimits}
use Rattle.journal_model.specs.declared.stale.Stale.{Stale}
use Rattle.journal_model.specs.Calls.{Call}
use Rattle.journal_model.specs.Requests.{commit_of}
use Rattle.journal_model.specs.Revoked.{IsFirstStale}
use Rattle.journal_model.specs.Stale.{stale_in}
use Rattle.boot_core.specs.Refusals.{barred, exit_refusal, read_refusal, list_refusal, put_refusal, commit_refusal}
use Rattle.boot_core.specs.declared.refusals.CallRefusal.TheVariants as calls
use Rattle.boot_core.specs.declared.refusals.CommitRefusal.TheVariants as commits

-- A call is revoked: whatever it tries is refused, and tells the group that it entered first among the stale ones,
-- with its generations then and now. Its commit alone tells before that that the request has committed.
pub record IsRevoked (es : List Entry) (call : Call) : Type 0 where
  pub shown : Stale
  pub first : IsFirstStale es call.touched shown
  pub check : stale_in es call.touched ≡ Some shown
  pub enter : (g : ℕ) → barred es call g ≡ Some (calls.Revoked shown)
  pub exit : exit_refusal es call ≡ Some (calls.Revoked shown)
  pub read : (id : RowId) → read_refusal es call id ≡ Some (calls.Revoked shown)
  pub list : (t : ℕ) → list_refusal es call t ≡ Some (calls.Revoked shown)
  pub put : (id : RowId) → put_refusal es call id ≡ Some (calls.Revoked shown)
  pub commit : (limits : JournalLimits) (action : Option ActionEntry) →
      commit_of es call.request ≡ None →
      commit_refusal limits es call action ≡ Some (commits.Revoked shown)
