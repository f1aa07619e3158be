-- What is shown of an entry, and how items follow one another.
use Rattle.std.proofs.Common.{◌≡◌, ◌∙◌, ℕ, ◌≤◌, Bool, List, [], ◌∷◌, ◌++◌, slice_get, ap, Option, Some, None}
use Rattle.std.specs.Prelude.{option_map}
use Rattle.crash_base.specs.declared.numbers.Place.{Place}
use Rattle.journal_model.specs.declared.entry.ActionEntry.{ActionEntry}
use Rattle.journal_model.specs.declared.entry.CommitEntry.{CommitEntry}
use Rattle.journal_model.specs.declared.entry.DoneText.{DoneText}
use Rattle.journal_model.specs.declared.entry.Entry.{Entry}
use Rattle.journal_model.specs.declared.entry.Entry.TheVariants.{Commit}
use Rattle.request_tries.specs.Ends.{done_at, done_if}
use Rattle.request_tries.specs.declared.outcome.RequestOutcome.TheVariants.{Page}
use Rattle.site_responses.specs.Responses.{failed_page, said}
use Rattle.outcome_items.specs.Answers.{answer_of, answer_of_page, shown_by_entry}
use Rattle.served_items.specs.Following.{FollowOn, KeepFront}
use Rattle.outcome_items.specs.declared.item.Item.{Item}
use Rattle.outcome_items.specs.declared.outcome.ItemOutcome.TheVariants as item

-- what an entry at a place answers
answers_there : (es : List Entry) (e : CommitEntry) (place : Place) (what : Option ActionEntry) → slice_get es place.0 ≡ Some (Commit e) → e.action ≡ what
    → done_at es place ≡ option_map (λ (a : ActionEntry). a.done) what
answers_there es e place what there acts = ap done_if there ∙ ap (λ (x : Option ActionEntry). option_map (λ (a : ActionEntry). a.done) x) acts

pub shown : (es : List Entry) (e : CommitEntry) (text : List ℕ) (done : DoneText) (place : Place) (again : Bool) (cookie : Option (List ℕ)) → slice_get es place.0 ≡ Some (Commit e)
    → e.action ≡ Some (record { text = text; done = done })
    → ((said (answer_of (shown_by_entry es (item.Ended (Page place again))) cookie (item.Ended (Page place again)))).status ≡ done.status)
    × ((said (answer_of (shown_by_entry es (item.Ended (Page place again))) cookie (item.Ended (Page place again)))).page ≡ done.page)
shown es e text done place again cookie there acts =
    let so : done_at es place ≡ Some done = answers_there es e place (Some (record { text = text; done = done })) there acts in
    (ap (λ (d : Option DoneText). (said (answer_of_page d cookie)).status) so, ap (λ (d : Option DoneText). (said (answer_of_page d cookie)).page) so)

pub failed : (es : List Entry) (e : CommitEntry) (place : Place) (again : Bool) (cookie : Option (List ℕ)) → slice_get es place.0 ≡ Some (Commit e) → e.action ≡ None
    → ((said (answer_of (shown_by_entry es (item.Ended (Page place again))) cookie (item.Ended (Page place again)))).status ≡ 500)
    × ((said (answer_of (shown_by_entry es (item.Ended (Page place again))) cookie (item.Ended (Page place again)))).page ≡ failed_page)
failed es e place again cookie there acts =
    let so : done_at es place ≡ None = answers_there es e place None there acts in
    (ap (λ (d : Option DoneText). (said (answer_of_page d cookie)).status) so, ap (λ (d : Option DoneText). (said (answer_of_page d cookie)).page) so)

pub follows : (front : Place) (before behind : List Item) (i next : Item) → FollowOn front (before ++ i ∷ next ∷ behind)
    → (i.holds.front.0 ≤ next.holds.from.0) × (next.holds.from.0 ≤ next.holds.front.0)
follows front [] behind i next h = let rest = h.2 in (rest.0, rest.1)
follows front (x ∷ before) behind i next h = follows x.holds.front before behind i next h.2

pub kept : (front : Place) (before behind : List Item) (i next : Item) → KeepFront front (before ++ i ∷ next ∷ behind) → next.holds.held ≡ 0
    → (next.holds.from ≡ i.holds.front) × (next.holds.front ≡ i.holds.front)
kept front [] behind i next h none = let rest = h.1 in rest.0 none
kept front (x ∷ before) behind i next h none = kept x.holds.front before behind i next h.1 none

pub first_kept : (front : Place) (behind : List Item) (i : Item) → KeepFront front (i ∷ behind) → i.holds.held ≡ 0
    → (i.holds.from ≡ front) × (i.holds.front ≡ front)
first_kept front behind i h none = h.0 none
