-- Items follow on one another, since each request begins behind the item before.
use Rattle.std.proofs.Common.{◌≡◌, ℕ, ◌≤◌, List, [], ◌∷◌, ◌++◌, length, sym, ◌∙◌, subst}
use Rattle.boot_core.specs.Boot.{BootValue}
use Rattle.boot_core.specs.declared.boot.Start.{Start}
use Rattle.call_ticket.specs.declared.next.Answer.{Answer}
use Rattle.call_ticket.specs.declared.next.Next.{Next}
use Rattle.container_core.specs.declared.history.Event.{Event}
use Rattle.crash_base.specs.declared.numbers.Place.{Place}
use Rattle.deployment.specs.declared.parts.Parts.{Parts}
use Rattle.http_wire.specs.declared.taken.Head.{Head}
use Rattle.outcome_items.specs.declared.item.Holds.{Holds}
use Rattle.outcome_items.specs.declared.item.Item.{Item}
use Rattle.request_visit.specs.Accounts.{Became}
use Rattle.request_visit.specs.Advancing.{IsItemOf}
use Rattle.request_visit.specs.Going.{MayGoOn}
use Rattle.request_visit.specs.declared.visit.Visit.{Visit}
use Rattle.send_windows.specs.declared.history.WindowMark.{WindowMark}
use Rattle.shepherd.specs.Accounting.{Accounting, StageTells}
use Rattle.shepherd.specs.Standing.{IsOpen, Standing, last_front}
use Rattle.shepherd.specs.Steps.{OnVisit, TakesItem}
use Rattle.shepherd.specs.declared.shepherd.Shepherd.{Shepherd}
use Rattle.shepherd.specs.declared.shepherd.Stage.{Stage}
use Rattle.shepherd.specs.declared.shepherd.Stage.TheVariants.{Resting, Serving, Refusing, Over}
use Rattle.served_items.specs.Following.{FollowOn, KeepFront}
use Rattle.served_items.proofs.Placing.{unheld_at}
use Rattle.served_items.proofs.Serving.{ItemBecame, item_facts}

joins : (front : Place) (items : List Item) (i : Item) → (last_front front items).0 ≤ i.holds.from.0 → i.holds.from.0 ≤ i.holds.front.0 → FollowOn front items → FollowOn front (items ++ i ∷ [])
joins front [] i behind lasts h = (behind, lasts, tt)
joins front (j ∷ items) i behind lasts h = (h.0, h.1, joins j.holds.front items i behind lasts h.2)

pub follows : {P : Type 0} (accepts : P → Parts → Type 0) (asks : P → List Answer → Next)
    → ((boot : BootValue) (v : Visit P) (i : Item) → IsItemOf v v.work i → MayGoOn accepts asks boot v → (v.facts.front.0 ≤ i.holds.from.0) × (i.holds.from.0 ≤ i.holds.front.0) × (i.holds.front.0 ≤ length boot.entries))
    → (boot : BootValue) (fed : List ℕ) (heads : List Head) (written : List ℕ) (items : List Item) (i : Item) (s : Shepherd P) (stage : Stage P) → TakesItem s.stage i stage
    → OnVisit s.stage (λ v call. MayGoOn accepts asks boot v) → Standing fed heads written items s → FollowOn (record { 0 = 0 }) items → FollowOn (record { 0 = 0 }) (items ++ i ∷ [])
follows {P} accepts asks going boot fed heads written items i s stage takes goes stands h = by s.stage takes goes stands.is_open where
  by : (x : Stage P) → TakesItem x i stage → OnVisit x (λ v call. MayGoOn accepts asks boot v) → IsOpen s.front x stands.opened stands.sent → FollowOn (record { 0 = 0 }) (items ++ i ∷ [])
  by Resting takes goes open_so = absurd takes
  by (Serving v call) takes goes open_so =
      let on = going boot v i takes.0 goes in
      joins (record { 0 = 0 }) items i (subst (λ (p : Place). p.0 ≤ i.holds.from.0) (open_so.front_is ∙ stands.front_is) on.0) on.1 h
  by (Refusing why bytes) takes goes open_so = absurd takes
  by (Over end) takes goes open_so = absurd takes

joins_kept : (front : Place) (items : List Item) (i : Item) → (i.holds.held ≡ 0 → (i.holds.from ≡ last_front front items) × (i.holds.front ≡ last_front front items)) → KeepFront front items → KeepFront front (items ++ i ∷ [])
joins_kept front [] i kept h = (kept, tt)
joins_kept front (j ∷ items) i kept h = (h.0, joins_kept j.holds.front items i kept h.1)

pub keeps : {P : Type 0} (asks : P → List Answer → Next) → ItemBecame asks
    → (start : Start) (history own : List Event) (marks : List WindowMark) (fed : List ℕ) (heads : List Head) (written : List ℕ) (items : List Item) (i : Item) (s : Shepherd P) (stage : Stage P) → TakesItem s.stage i stage
    → Accounting asks start history own marks items s → Standing fed heads written items s → KeepFront (record { 0 = 0 }) items → KeepFront (record { 0 = 0 }) (items ++ i ∷ [])
keeps {P} asks became start history own marks fed heads written items i s stage takes accounts stands h = by s.stage takes accounts.tells stands.is_open where
  by : (x : Stage P) → TakesItem x i stage → StageTells asks start history accounts.open_own accounts.open_marks x → IsOpen s.front x stands.opened stands.sent → KeepFront (record { 0 = 0 }) (items ++ i ∷ [])
  by Resting takes tells open_so = absurd takes
  by (Serving v call) takes tells open_so =
      let so : Became start history tells.errand v.facts i.holds accounts.open_own i.outcome =
      subst (λ (x : Holds). Became start history tells.errand v.facts x accounts.open_own i.outcome) (sym (item_facts v v.work i takes.0).holds)
      (became start history tells.errand accounts.open_own v i takes.0 tells.accounts).0 in
      let front : v.facts.front ≡ last_front (record { 0 = 0 }) items = open_so.front_is ∙ stands.front_is in
      joins_kept (record { 0 = 0 }) items i
      (λ none. let at = unheld_at start history tells.errand v.facts i.holds accounts.open_own i.outcome so none in (at.0 ∙ front, at.1 ∙ front)) h
  by (Refusing why bytes) takes tells open_so = absurd takes
  by (Over end) takes tells open_so = absurd takes
