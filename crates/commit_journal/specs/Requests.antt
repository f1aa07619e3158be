-- The commits of a journal by their requests: most of them, and few that came late.
use Rattle.std.specs.Prelude.{◌≡◌, ℕ, ◌+◌, ◌≤◌, min, List, [], length, Option, position, vec_capacity}
use Rattle.crash_base.specs.declared.numbers.RequestNo.{RequestNo}
use Rattle.journal_model.specs.declared.entry.Entry.{Entry}
use Rattle.journal_model.specs.declared.entry.Entry.TheVariants.{Commit, Down, Up}
use Rattle.journal_model.specs.declared.limits.JournalLimits.{JournalLimits}
use Rattle.journal_model.specs.declared.status.GroupStatus.{GroupStatus}
use Rattle.journal_model.specs.Requests.{same_request, is_commit_of}
use Rattle.commit_journal.specs.Journal.{IsKept}
use Rattle.commit_journal.specs.Made.{AreSorted, place_in, or_else, made_if}
use Rattle.commit_journal.specs.declared.requests.Requests.{Requests}
use Rattle.commit_journal.specs.declared.requests.TheConstants.{MOST_LATE}

-- the place of the commit of a request, in one of two lists
abbrev pub place_among : RequestNo → Requests → Option ℕ
place_among r made = or_else (place_in r made.most.items) (place_in r made.late.items)

-- how many requests there are
abbrev pub made_count : Requests → ℕ
made_count made = length made.most.items + length made.late.items

-- Both lists are in order, few came late, and no merge is left half done.
pub record AreInOrder (made : Requests) : Type 0 where
  pub most : AreSorted made.most.items
  pub late : AreSorted made.late.items
  pub few : length made.late.items ≤ MOST_LATE
  pub merged : made.merged.items ≡ []

-- So many requests have memory in whichever list they come to.
pub record HaveRoom (made : Requests) (room : ℕ) : Type 0 where
  pub most : room ≤ vec_capacity made.most
  pub merged : room ≤ vec_capacity made.merged
  pub late : min room MOST_LATE ≤ vec_capacity made.late

-- What is in the lists stays, whatever memory they have.
pub record AreSame (old new : Requests) : Type 0 where
  pub most : new.most.items ≡ old.most.items
  pub late : new.late.items ≡ old.late.items
  pub merged : new.merged.items ≡ old.merged.items

-- The same requests have the same places, whichever list they are in.
pub record KeepPlaces (old new : Requests) : Type 0 where
  pub order : AreInOrder new
  pub places : (q : RequestNo) → place_among q new ≡ place_among q old
  pub few : made_count new ≤ made_count old
  pub room : (n : ℕ) → HaveRoom old n → HaveRoom new n

-- One request has a place that had none, and the others stay.
pub record HasMade (old new : Requests) (r : RequestNo) (p : ℕ) : Type 0 where
  pub order : AreInOrder new
  pub places : (q : RequestNo) → place_among q new ≡ or_else (place_among q old) (made_if (same_request r q) p)
  pub few : made_count new ≤ made_count old + 1
  pub room : (n : ℕ) → HaveRoom old n → HaveRoom new n

-- the requests with one entry more at a place
abbrev pub HasMadeOf : Requests → Requests → ℕ → Entry → Type 0
HasMadeOf old new p (Commit e) = HasMade old new e.request p
HasMadeOf old new p (Down s) = new ≡ old
HasMadeOf old new p (Up s) = new ≡ old

-- These are the first commits of the entries by their requests, and no more than these.
pub record AreMade (made : Requests) (es : List Entry) : Type 0 where
  pub order : AreInOrder made
  pub places : (r : RequestNo) → place_among r made ≡ position (is_commit_of r) es
  pub few : made_count made ≤ length es

-- What a journal keeps: what is counted of its entries where so many places have memory, and their commits by request.
pub record AreKept (entries : List Entry) (limits : JournalLimits) (bytes downs : ℕ) (statuses : List GroupStatus) (room : ℕ) (requests : Requests) (capacity : ℕ) : Type 0 where
  pub counted : IsKept entries limits bytes downs statuses room
  pub made : AreMade requests entries
  pub for_entries : room ≤ capacity
  pub for_requests : HaveRoom requests room
