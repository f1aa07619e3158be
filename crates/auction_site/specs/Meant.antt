-- Commits of actions: how they are made, and what they mean.
use Rattle.std.specs.Prelude.{◌≡◌, ℕ, List, take, slice_get, Some}
use Rattle.crash_base.specs.declared.rows.RowWrite.{RowWrite}
use Rattle.journal_model.specs.declared.entry.ActionEntry.{ActionEntry}
use Rattle.journal_model.specs.declared.entry.CommitEntry.{CommitEntry}
use Rattle.journal_model.specs.declared.entry.Entry.{Entry}
use Rattle.journal_model.specs.declared.entry.Entry.TheVariants.{Commit, Down, Up}
use Rattle.journal_model.specs.Rows.{rows_after}
use Rattle.call_ticket.specs.Runs.{Makes}
use Rattle.auction_calls.specs.declared.action.ActionCall.{ActionCall}
use Rattle.auction_calls.specs.Texts.{Spells}
use Rattle.auction_rows.specs.Parts.{site_parts}
use Rattle.auction_site.specs.Actions.{site, steps_of}

-- A commit is what the call that its action's text spells does over these rows, with its answer.
pub record IsMade (rows : List RowWrite) (entry : CommitEntry) : Type 0 where
  pub action : ActionEntry
  pub is_there : entry.action ≡ Some action
  pub call : ActionCall
  pub spelled : Spells action.text call
  pub made : Makes site_parts (steps_of call) rows entry action.done

-- The text of an action spells a call, and the writes of its commit and its answer are what the site means by
-- the call over these rows.
pub record Means (rows : List RowWrite) (entry : CommitEntry) (action : ActionEntry) : Type 0 where
  pub call : ActionCall
  pub spelled : Spells action.text call
  pub writes : entry.writes ≡ (site call rows).writes
  pub answers : action.done ≡ (site call rows).done

-- A commit is meant over these rows: where it has an action, it is what the site means by the call of the text.
abbrev pub IsMeant : List RowWrite → CommitEntry → Type 0
IsMeant rows entry = (action : ActionEntry) → entry.action ≡ Some action → Means rows entry action

-- an entry is meant over these rows: a commit is, and the begin and the end of a reboot mean nothing
abbrev pub IsMeantEntry : List RowWrite → Entry → Type 0
IsMeantEntry rows (Commit entry) = IsMeant rows entry
IsMeantEntry rows (Down scope) = Unit {0}
IsMeantEntry rows (Up scope) = Unit {0}

-- A journal is meant over a base: each of its entries is, over the rows that those before it leave.
pub record AreMeant (base : List RowWrite) (es : List Entry) : Type 0 where
  pub each : (i : ℕ) (e : Entry) → slice_get es i ≡ Some e → IsMeantEntry (rows_after base (take i es)) e
