-- The places that an item tells of, and the entry at them.
use Rattle.std.specs.Prelude.{◌↔◌}
use Rattle.std.proofs.Common.{◌≡◌, ℕ, ◌≤◌, Bool, true, false, List, [], ◌∷◌, ◌++◌, length, take, slice_get, arith, refl, sym, ap, ◌∙◌, subst, Some}
use Rattle.std.proofs.lemmas.Grind.{flat_map-append}
use Rattle.boot_core.specs.declared.boot.Start.{Start}
use Rattle.container_core.specs.History.{entries_in, entry_in}
use Rattle.container_core.specs.declared.history.Event.{Event}
use Rattle.container_core.specs.declared.history.Event.TheVariants.{Added}
use Rattle.crash_base.specs.declared.numbers.Place.{Place}
use Rattle.crash_base.specs.declared.numbers.RequestNo.{RequestNo}
use Rattle.journal_model.proofs.Found.{commit_there}
use Rattle.journal_model.specs.declared.entry.CommitEntry.{CommitEntry}
use Rattle.journal_model.specs.declared.entry.Entry.{Entry}
use Rattle.journal_model.specs.declared.entry.Entry.TheVariants.{Commit}
use Rattle.outcome_items.specs.Traces.{is_outside}
use Rattle.outcome_items.specs.declared.item.Holds.{Holds}
use Rattle.outcome_items.specs.declared.outcome.ItemOutcome.{ItemOutcome}
use Rattle.outcome_items.specs.declared.outcome.ItemOutcome.TheVariants as item
use Rattle.request_tries.specs.Ends.{Errand, OutcomeStands}
use Rattle.request_tries.specs.declared.outcome.RequestOutcome.{RequestOutcome}
use Rattle.request_tries.specs.declared.outcome.RequestOutcome.TheVariants.{Page, Sentinel, Hung, Raised, Revoked, Conflict, JournalFull, KeeperFailed}
use Rattle.request_visit.specs.Accounts.{Became, EndsWith, IsUnheld}
use Rattle.request_visit.specs.declared.facts.VisitFacts.{VisitFacts}
use Rattle.served_items.specs.Served.{committed_at}

-- the last item of a list
at_last : {A : Type 0} (xs : List A) (y : A) → slice_get (xs ++ y ∷ []) (length xs) ≡ Some y
at_last [] y = refl
at_last (x ∷ xs) y = at_last xs y

module _ (start : Start) (history : List Event) (errand : Errand) (facts : VisitFacts) (holds : Holds) (own : List Event) where
  -- a request for which the container was held, was held at one event at least
  was_held : (end : RequestOutcome) → EndsWith start history errand facts holds end own → 1 ≤ holds.held
  was_held end h = subst (λ (n : ℕ). 1 ≤ n) (sym (ap (λ (x : Holds). x.held) h.holds_is)) h.stands.begun

  kept_out : IsUnheld facts holds own → (holds.held ≡ 0) ↔ (true ≡ true)
  kept_out h = (λ none. refl, λ out. ap (λ (x : Holds). x.held) h.holds_are)

  came_in : (end : RequestOutcome) → EndsWith start history errand facts holds end own → (holds.held ≡ 0) ↔ (false ≡ true)
  came_in end h = (λ none. absurd (let some = was_held end h in omega (arith, none, some)), λ out. absurd (cc))

  -- the container was held for those requests alone that came to it
  pub held_if : (became : ItemOutcome) → Became start history errand facts holds own became → (holds.held ≡ 0) ↔ (is_outside became ≡ true)
  held_if (item.Refused why) h = kept_out h
  held_if (item.SerialsSpent seen) h = kept_out h
  held_if (item.Expired now expiry) h = kept_out h
  held_if (item.Lost causes) h = kept_out h
  held_if (item.Ended end) h = came_in end h
  held_if (item.Overload place again full) h = came_in (Page place again) h
  held_if (item.Missed place again causes) h = came_in (Page place again) h

  -- and where it was not held, the places are the request's front
  pub unheld_at : (became : ItemOutcome) → Became start history errand facts holds own became → holds.held ≡ 0 → (holds.from ≡ facts.front) × (holds.front ≡ facts.front)
  unheld_at became h none = by became h where
    outside : IsUnheld facts holds own → (holds.from ≡ facts.front) × (holds.front ≡ facts.front)
    outside u = (ap (λ (x : Holds). x.from) u.holds_are, ap (λ (x : Holds). x.front) u.holds_are)

    inside : (end : RequestOutcome) → EndsWith start history errand facts holds end own → (holds.from ≡ facts.front) × (holds.front ≡ facts.front)
    inside end e = absurd (let some = was_held end e in omega (arith, none, some))

    by : (o : ItemOutcome) → Became start history errand facts holds own o → (holds.from ≡ facts.front) × (holds.front ≡ facts.front)
    by (item.Refused why) h = outside h
    by (item.SerialsSpent seen) h = outside h
    by (item.Expired now expiry) h = outside h
    by (item.Lost causes) h = outside h
    by (item.Ended end) h = inside end h
    by (item.Overload place again full) h = inside (Page place again) h
    by (item.Missed place again causes) h = inside (Page place again) h

  -- an end that is the page of the entry at a place
  record Paged (place : Place) : Type 0 where
    again : Bool
    ends : EndsWith start history errand facts holds (Page place again) own

  paged_so : (place other : Place) (again : Bool) → Some other ≡ Some place → EndsWith start history errand facts holds (Page other again) own → Paged place
  paged_so place other again is h =
      let same : other ≡ place = cc in
      record { again = again; ends = subst (λ (p : Place). EndsWith start history errand facts holds (Page p again) own) same h }

  paged_end : (place : Place) (end : RequestOutcome) → committed_at (item.Ended end) ≡ Some place → EndsWith start history errand facts holds end own → Paged place
  paged_end place (Page other again) is h = paged_so place other again is h
  paged_end place (Sentinel group down) is h = absurd (cc)
  paged_end place (Hung component fault path) is h = absurd (cc)
  paged_end place (Raised component fault path) is h = absurd (cc)
  paged_end place (Revoked tries) is h = absurd (cc)
  paged_end place (Conflict tries) is h = absurd (cc)
  paged_end place (JournalFull full) is h = absurd (cc)
  paged_end place KeeperFailed is h = absurd (cc)

  paged : (place : Place) (became : ItemOutcome) → committed_at became ≡ Some place → Became start history errand facts holds own became → Paged place
  paged place (item.Refused why) is h = absurd (cc)
  paged place (item.SerialsSpent seen) is h = absurd (cc)
  paged place (item.Expired now expiry) is h = absurd (cc)
  paged place (item.Lost causes) is h = absurd (cc)
  paged place (item.Ended end) is h = paged_end place end is h
  paged place (item.Overload other again full) is h = paged_so place other again is h
  paged place (item.Missed other again causes) is h = paged_so place other again is h

  -- the entry of a request's number at a place of these events
  abbrev pub HasEntry : List Event → RequestNo → Place → Type 0
  HasEntry seen request place = (e : CommitEntry) × (slice_get (entries_in seen) place.0 ≡ Some (Commit e)) × (e.request ≡ request)

  entry_there : (seen : List Event) (from : ℕ) (place : Place) (again : Bool) → OutcomeStands start seen errand from (Page place again) → HasEntry seen errand.request place
  entry_there seen from place true stands = commit_there (entries_in seen) errand.request place stands
  entry_there seen from place false s =
      let es : entries_in seen ≡ entries_in s.before ++ Commit s.entry ∷ [] = ap entries_in s.last ∙ flat_map-append entry_in s.before (Added (Commit s.entry) ∷ []) in
      let at : slice_get (entries_in s.before ++ Commit s.entry ∷ []) place.0 ≡ Some (Commit s.entry) =
      subst (λ (n : ℕ). slice_get (entries_in s.before ++ Commit s.entry ∷ []) n ≡ Some (Commit s.entry)) (sym s.place_is) (at_last (entries_in s.before) (Commit s.entry)) in (
        s.entry,
        subst (λ (xs : List Entry). slice_get xs place.0 ≡ Some (Commit s.entry)) (sym es) at,
        s.asked_for.request,
      )

  -- a page names an entry of its request
  pub named : (place : Place) (became : ItemOutcome) → committed_at became ≡ Some place → Became start history errand facts holds own became
      → (e : CommitEntry) × (slice_get (entries_in (take holds.held history)) place.0 ≡ Some (Commit e)) × (facts.request ≡ Some e.request)
  named place became is h =
      let p = paged place became is h in
      let ended = p.ends.ended in
      let held : ended.held ≡ holds.held = sym (ap (λ (x : Holds). x.held) p.ends.holds_is) in
      let there : HasEntry (take ended.held history) errand.request place =
      entry_there (take ended.held history) ended.from.0 place p.again
      (subst (λ (o : RequestOutcome). OutcomeStands start (take ended.held history) errand ended.from.0 o) p.ends.outcome_is p.ends.stands.outcome) in (
        there.0,
        subst (λ (n : ℕ). slice_get (entries_in (take n history)) place.0 ≡ Some (Commit there.0)) held there.1,
        p.ends.number_is ∙ ap Some (sym there.2),
      )
