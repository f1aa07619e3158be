-- What holds of the journal of each boot of a scenario.
use Rattle.std.specs.Prelude.{◌≡◌, ℕ, Some, slice_get, All}
use Rattle.auction_site.specs.Meant.{AreMeant}
use Rattle.journal_model.specs.declared.entry.CommitEntry.{CommitEntry}
use Rattle.journal_model.specs.declared.entry.Entry.TheVariants.{Commit}
use Rattle.journal_model.specs.Revoked.{IsUnrebooted}
use Rattle.journal_model.specs.Serial.{IsSerial}
use Rattle.boot_core.specs.Boot.{BootValue}

-- No group that a commit's call entered was rebooted between the call's first entering of it and the commit.
abbrev pub CommitsUnrebooted : BootValue → Type 0
CommitsUnrebooted b = (place : ℕ) (e : CommitEntry) → slice_get b.entries place ≡ Some (Commit e) →
    All (λ t. IsUnrebooted b.entries t.group.0 t.front.0 place) e.touched

-- The journal of a boot is a serial execution of its calls, in its order.
abbrev pub RunsSerially : BootValue → Type 0
RunsSerially b = IsSerial b.start.base b.entries

-- Each commit of a boot is of a request of this boot.
abbrev pub CommitsOwnRequests : BootValue → Type 0
CommitsOwnRequests b = (place : ℕ) (e : CommitEntry) → slice_get b.entries place ≡ Some (Commit e) →
    e.request.boot ≡ b.start.boot

-- Each commit of a boot that has an action wrote and answered what the site means by the action's text, over the rows
-- just before it.
abbrev pub CommitsAsMeant : BootValue → Type 0
CommitsAsMeant b = AreMeant b.start.base b.entries
