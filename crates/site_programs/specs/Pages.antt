-- The entries of requests, in the words of the site.
use Rattle.std.specs.Prelude.{◌≡◌, ◌≤◌, ℕ, List, length, slice_get, Option, Some, None, option_map}
use Rattle.crash_base.specs.declared.numbers.Place.{Place}
use Rattle.crash_base.specs.declared.numbers.RequestNo.{RequestNo}
use Rattle.crash_base.specs.declared.rows.RowWrite.{RowWrite}
use Rattle.journal_model.specs.declared.entry.ActionEntry.{ActionEntry}
use Rattle.journal_model.specs.declared.entry.CommitEntry.{CommitEntry}
use Rattle.journal_model.specs.declared.entry.Entry.{Entry}
use Rattle.journal_model.specs.declared.entry.Entry.TheVariants.{Commit}
use Rattle.journal_model.specs.declared.limits.FullAt.{FullAt}
use Rattle.journal_model.specs.Limits.{entry_bytes, full_for}
use Rattle.journal_model.specs.Snapshots.{snapshot}
use Rattle.action_plans.specs.declared.plan.Outcome.{Outcome}
use Rattle.auction_calls.specs.declared.action.ActionCall.{ActionCall}
use Rattle.auction_site.specs.Actions.{site}
use Rattle.boot_core.specs.declared.boot.Start.{Start}
use Rattle.container_core.specs.History.{entries_in}
use Rattle.container_core.specs.declared.history.Event.{Event}
use Rattle.request_tries.specs.Ends.{Errand, done_of}
use Rattle.request_tries.specs.declared.outcome.Ended.{Ended}
use Rattle.request_tries.specs.declared.outcome.RequestOutcome.{RequestOutcome}
use Rattle.request_tries.specs.declared.outcome.RequestOutcome.TheVariants.{Page}
use Rattle.outcome_items.specs.declared.outcome.ItemOutcome.{ItemOutcome}
use Rattle.outcome_items.specs.declared.outcome.ItemOutcome.TheVariants as item

-- A commit is an errand's, with this outcome: it has the errand's number and text, and the outcome's writes and answer.
pub record HasOutcome (errand : Errand) (outcome : Outcome) (entry : CommitEntry) : Type 0 where
  pub request_is : entry.request ≡ errand.request
  pub writes_are : entry.writes ≡ outcome.writes
  pub action_is : entry.action ≡ Some (record { text = errand.text; done = outcome.done })

-- The entry at a place of a journal is an errand's, and its outcome is what the site means by the call over the rows
-- just before it.
pub record IsMeantThere (base : List RowWrite) (es : List Entry) (place : Place) (errand : Errand) (call : ActionCall) : Type 0 where
  pub entry : CommitEntry
  pub there : slice_get es place.0 ≡ Some (Commit entry)
  pub outcome : HasOutcome errand (site call (snapshot base es place.0)) entry

-- The entry at a place of a journal is a commit of this number, and the end of a request shows what that entry answers.
pub record ShowsEntry (events : List Event) (place : Place) (request : RequestNo) (e : Ended) : Type 0 where
  pub entry : CommitEntry
  pub there : slice_get (entries_in events) place.0 ≡ Some (Commit entry)
  pub request_is : entry.request ≡ request
  pub shown : done_of events e ≡ option_map (λ (a : ActionEntry). a.done) entry.action

-- A journal is so full that it has no room for an errand's entry, whose outcome is what the site means by the call over
-- the rows at the begin of its try.
pub record HasNoRoomFor (start : Start) (es : List Entry) (errand : Errand) (from : ℕ) (call : ActionCall) (full : FullAt) : Type 0 where
  pub entry : CommitEntry
  pub since : from ≤ entry.at.0
  pub within : entry.at.0 ≤ length es
  pub outcome : HasOutcome errand (site call (snapshot start.base es entry.at.0)) entry
  pub full_is : full_for start.limits es 1 (entry_bytes (Commit entry)) ≡ Some full

-- What became of the request of an item in the container, if it came there: a page, where only its session could not be
-- written.
abbrev pub end_in : ItemOutcome → Option RequestOutcome
end_in (item.Refused why) = None
end_in (item.SerialsSpent seen) = None
end_in (item.Expired now expiry) = None
end_in (item.Lost causes) = None
end_in (item.Ended outcome) = Some outcome
end_in (item.Overload place again full) = Some (Page place again)
end_in (item.Missed place again causes) = Some (Page place again)
