-- What could have become of a request that nothing hindered: a page alone.
use Rattle.std.specs.Prelude.{max}
use Rattle.std.proofs.Common.{◌≡◌, ◌≤◌, ◌<◌, ◌+◌, ℕ, zero, suc, Bool, true, false, if◌then◌else◌, List, [], ◌∷◌, ◌++◌, length, take, slice_get, Option, Some, None, arith, refl, sym, ap, ◌∙◌, subst, true≢false}
use Rattle.auction_calls.specs.declared.action.ActionCall.{ActionCall}
use Rattle.boot_core.specs.declared.boot.Start.{Start}
use Rattle.call_ticket.specs.declared.next.Answer.{Answer}
use Rattle.call_ticket.specs.declared.next.Next.{Next}
use Rattle.container_core.specs.History.{entries_in}
use Rattle.container_core.specs.declared.history.Event.{Event}
use Rattle.crash_base.specs.declared.fault_plans.FaultKind.TheVariants.{Raise, Hang}
use Rattle.deployment.specs.declared.parts.Parts.{Parts}
use Rattle.journal_model.specs.Snapshots.{newest, newest_from, writes_read}
use Rattle.journal_model.specs.declared.entry.Entry.{Entry}
use Rattle.journal_model.specs.Rows.{writes_of}
use Rattle.journal_model.specs.declared.entry.ReadMark.{ReadMark}
use Rattle.outcome_items.specs.Traces.{marks_of_outcome}
use Rattle.outcome_items.specs.declared.item.Holds.{Holds}
use Rattle.outcome_items.specs.declared.item.Item.{Item}
use Rattle.outcome_items.specs.declared.outcome.ItemOutcome.{ItemOutcome}
use Rattle.outcome_items.specs.declared.outcome.ItemOutcome.TheVariants as item
use Rattle.outside.specs.declared.link.LinkEvent.{LinkEvent}
use Rattle.request_intake.specs.declared.intake.Admission.{Admission}
use Rattle.request_intake.specs.declared.intake.Arrival.{Arrival}
use Rattle.request_intake.specs.declared.intake.Arrival.TheVariants as arrival
use Rattle.request_tries.specs.Ends.{EndsSo, Errand, OutcomeStands, WasInConflict, WasRevoked}
use Rattle.request_tries.specs.Tries.{AreTries, CauseStands, TryStands}
use Rattle.request_tries.specs.declared.outcome.RequestOutcome.{RequestOutcome}
use Rattle.request_tries.specs.declared.outcome.RequestOutcome.TheVariants.{Page, Sentinel, Hung, Raised, Revoked, Conflict, JournalFull, KeeperFailed}
use Rattle.request_tries.specs.declared.outcome.Try.{Try}
use Rattle.request_tries.specs.declared.outcome.TryCause.{TryCause}
use Rattle.request_tries.specs.declared.outcome.TryCause.TheVariants as cause
use Rattle.request_visit.specs.Accounts.{Became, EndsWith}
use Rattle.request_visit.specs.Sessions.{IsGone, SessionTold}
use Rattle.served_items.specs.Attributing.{BecameBy, IsErrandOf, OnAdmitted, TakenIn, read_by}
use Rattle.served_items.specs.Served.{IsItemFor, committed_at}
use Rattle.shepherd.specs.Accounting.{trace_in}
use Rattle.ssm_stub.specs.Reads.{ReadState}
use Rattle.ssm_stub.specs.declared.read_call.ReadRefusal.{ReadRefusal}
use Rattle.ssm_stub.specs.declared.read_call.ReadRefusal.TheVariants as read_refusal
use Rattle.ssm_stub.specs.declared.write_call.WriteRefusal.TheVariants as write_refusal
use Rattle.served_connections.specs.Unhindered.{IsPage, NothingHindered, NothingStops}

-- what is in a list at an index is at one within it
get_within : {X : Type 0} (xs : List X) (n : ℕ) (x : X) → slice_get xs n ≡ Some x → n < length xs
get_within [] n x is = absurd (cc)
get_within (y ∷ xs) zero x is = omega arith
get_within (y ∷ xs) (suc n) x is =
    let below = get_within xs n x is in
    omega (arith, below)

take_within : {X : Type 0} (n : ℕ) (xs : List X) → length (take n xs) ≤ length xs
take_within zero xs = omega arith
take_within (suc n) [] = omega arith
take_within (suc n) (x ∷ xs) =
    let shorter = take_within n xs in
    omega (arith, shorter)

-- what was written last of what is read was so by one of the entries
newest_from_within : (i : ℕ) (es : List Entry) (mark : ReadMark) → newest_from i es mark ≤ i + length es
newest_from_within i [] mark = omega arith
newest_from_within i (e ∷ es) mark = by (writes_read mark (writes_of e)) (newest_from_within (i + 1) es mark) where
  by : (b : Bool) → newest_from (i + 1) es mark ≤ (i + 1) + length es → max (if b then i + 1 else 0) (newest_from (i + 1) es mark) ≤ i + suc (length es)
  by true rest = omega (arith, rest)
  by false rest = omega (arith, rest)

-- The last of some tries stands in the journal, and began no earlier than the first.
last_stands : (parts : Parts) (asks : List Answer → Next) (es : List Entry) (from : ℕ) (before : List Try) (last : Try) → AreTries parts asks es from (before ++ last ∷ [])
    → (from ≤ last.at.0) × TryStands parts asks es last
last_stands parts asks es from [] last tries = (tries.0, tries.1)
last_stands parts asks es from (t ∷ before) last tries =
    let rest = last_stands parts asks es t.front.0 before last tries.2 in
    let lasts = tries.1.lasts in
    (omega (arith, tries.0, lasts, rest.0), rest.1)

-- it ended so since an entry came behind its begin
behind_begin : (parts : Parts) (asks : List Answer → Next) (es : List Entry) (t : Try) → TryStands parts asks es t → t.at.0 < length es
behind_begin parts asks es t stands = by t.cause stands.cause where
  shorter : length (take t.front.0 es) ≤ length es
  shorter = take_within t.front.0 es

  by : (c : TryCause) → CauseStands parts asks (take t.front.0 es) t.at.0 c → t.at.0 < length es
  by (cause.Revoked shown) so =
      let there = get_within (take t.front.0 es) so.0.place _ so.0.down in
      let since = so.0.since in
      omega (arith, there, since, shorter)
  by (cause.Conflict mark place) so =
      let within = newest_from_within 0 (take t.front.0 es) mark in
      let is : place.0 ≡ newest (take t.front.0 es) mark = so.0.newest_is in
      let newer = so.0.newer in
      omega (arith, is, newer, within, shorter)

-- so tries that end without a page show an entry since their begin
tried : (parts : Parts) (asks : List Answer → Next) (es : List Entry) (from : ℕ) (tries : List Try) (So : TryCause → Type 0) → AreTries parts asks es from tries → EndsSo So tries
    → (at : ℕ) × (from ≤ at) × (at < length es)
tried parts asks es from tries So stand ends =
    let last = last_stands parts asks es from ends.before ends.last (subst (λ (ts : List Try). AreTries parts asks es from ts) ends.parts stand) in
    (ends.last.at.0, last.0, behind_begin parts asks es ends.last last.1)

abbrev is_admitted : Arrival → Bool
is_admitted (arrival.Refused why) = false
is_admitted (arrival.SerialsSpent request seen) = false
is_admitted (arrival.Admitted a) = true

module _ {P L : Type 0} (asks : P → List Answer → Next) (calls : L → LinkEvent → L → Type 0) (makes : ActionCall → List ℕ → P → Type 0) (came : TakenIn → Type 0) (start : Start) (history : List Event) (t : TakenIn) (i : Item)
    (h : IsItemFor asks calls makes came start history t i) (n : NothingHindered asks makes start history t i) where
  abbrev es : List Entry
  es = entries_in (take i.holds.held history)

  not_admitted : is_admitted t.intake.arrival ≡ false → ⊥
  not_admitted is = true≢false (sym (ap is_admitted n.arrived) ∙ is)

  -- what it asked of the container is its own
  abbrev Own : Admission → Type 0
  Own a = IsErrandOf asks makes i.value h.errand a

  own : OnAdmitted t.intake.arrival Own → Own n.admission
  own whence = subst (λ (a : Arrival). OnAdmitted a Own) n.arrived whence

  stands : (end : RequestOutcome) → EndsWith start history h.errand h.facts i.holds end (trace_in history i) → OutcomeStands start (take i.holds.held history) h.errand i.holds.from.0 end
  stands end ends =
      subst (λ (o : RequestOutcome). OutcomeStands start (take i.holds.held history) h.errand i.holds.from.0 o) ends.outcome_is
      (subst (λ (x : Holds). OutcomeStands start (take x.held history) h.errand x.from.0 ends.ended.outcome) (sym ends.holds_is) ends.stands.outcome)

  tried_alone : (at : ℕ) → i.holds.from.0 ≤ at → at < length es → committed_at i.outcome ≡ None → ⊥
  tried_alone at from within none = absurd (let own = n.alone at from within in cc)

  -- the program of its own call was stopped by nothing
  free : (mine : Own n.admission) → NothingStops start es h.errand.asks
  free mine = subst (λ (e : Errand). NothingStops start es e.asks) (sym mine.errand_is) (n.free mine.text mine.program mine.made)

  in_container : (end : RequestOutcome) → i.outcome ≡ item.Ended end → Own n.admission → OutcomeStands start (take i.holds.held history) h.errand i.holds.from.0 end → IsPage (item.Ended end)
  in_container (Page place again) is mine so = (place, again, refl)
  in_container (Sentinel group down) is mine so = absurd (let none = (free mine).up group so.1 in let some = so.0 in cc)
  in_container (Hung component fault path) is mine so = absurd ((free mine).works component path fault Hang so.1 so.0)
  in_container (Raised component fault path) is mine so = absurd ((free mine).works component path fault Raise so.1 so.0)
  in_container (Revoked tries) is mine so =
      let behind = tried start.deployment h.errand.asks es i.holds.from.0 tries WasRevoked so.0 so.1 in
      absurd (tried_alone behind.0 behind.1 behind.2 (ap committed_at is))
  in_container (Conflict tries) is mine so =
      let behind = tried start.deployment h.errand.asks es i.holds.from.0 tries WasInConflict so.0 so.1 in
      absurd (tried_alone behind.0 behind.1 behind.2 (ap committed_at is))
  in_container (JournalFull full) is mine so = absurd (let none = (free mine).room so.0.entry so.0.done so.0.within so.0.made in let some = so.1 in cc)
  in_container KeeperFailed is mine so = absurd (n.kept so.0 h.errand.request so.1)

  pub ends_as_page : IsPage i.outcome
  ends_as_page = by i.outcome refl h.became h.became_by where
    by : (o : ItemOutcome) → i.outcome ≡ o → Became start history h.errand h.facts i.holds (trace_in history i) o → BecameBy t.intake.arrival Own o → IsPage o
    by (item.Refused why) is became whence = absurd (not_admitted (ap is_admitted whence))
    by (item.SerialsSpent seen) is became whence = absurd (not_admitted (ap is_admitted whence.1))
    by (item.Expired now expiry) is became whence = absurd (n.session.fresh now expiry is)
    by (item.Lost causes) is became whence = absurd (n.session.found causes is)
    by (item.Ended end) is became whence = in_container end is (own whence) (stands end became)
    by (item.Overload place again full) is became whence = absurd (n.passes (ap (marks_of_outcome i.cookie) is))
    by (item.Missed place again causes) is became whence = absurd (n.session.stored place again causes is)
