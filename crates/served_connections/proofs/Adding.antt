-- What a request that is open has added, by an errand of its own call.
use Rattle.std.specs.Prelude.{option_map}
use Rattle.std.proofs.Common.{◌≡◌, ◌⊎◌, inl, inr, ℕ, List, [], ◌∷◌, ◌++◌, length, map, drop, Option, Result, refl, sym, ap, ◌∙◌, subst}
use Rattle.std.proofs.Math.Seq.{drop-append_seam}
use Rattle.std.proofs.lemmas.Grind.{flat_map-append}
use Rattle.std.proofs.lemmas.List.{append-nil, length-map, map-append}
use Rattle.auction_calls.specs.declared.action.ActionCall.{ActionCall}
use Rattle.boot_core.specs.declared.boot.Start.{Start}
use Rattle.call_ticket.specs.declared.next.Answer.{Answer}
use Rattle.call_ticket.specs.declared.next.Next.{Next}
use Rattle.container_core.specs.declared.history.Event.{Event}
use Rattle.http_wire.specs.declared.taken.Head.{Head}
use Rattle.journal_model.specs.declared.entry.Entry.{Entry}
use Rattle.outcome_items.specs.declared.item.Holds.{Holds}
use Rattle.outcome_items.specs.declared.item.Item.{Item}
use Rattle.outcome_items.specs.declared.outcome.ItemOutcome.{ItemOutcome}
use Rattle.outcome_items.specs.declared.outcome.ItemOutcome.TheVariants as item
use Rattle.outside.specs.declared.link.LinkEvent.{LinkEvent}
use Rattle.request_decisions.specs.declared.draws.Draw.{Draw}
use Rattle.request_intake.specs.declared.intake.Admission.{Admission}
use Rattle.request_intake.specs.declared.intake.Arrival.{Arrival}
use Rattle.request_intake.specs.declared.intake.Arrival.TheVariants as arrival
use Rattle.request_tries.specs.Ends.{Errand}
use Rattle.request_tries.specs.declared.outcome.RequestOutcome.{RequestOutcome}
use Rattle.request_tries.specs.declared.outcome.RequestOutcome.TheVariants.{Page}
use Rattle.request_visit.specs.Accounts.{AccountsOf, Became, EndsWith, FateStands}
use Rattle.request_visit.specs.Advancing.{value_of}
use Rattle.request_visit.specs.Sessions.{FateTold, HasAnswer, IsKnown, SessionOf, SessionTold, SettlesWith}
use Rattle.request_visit.specs.declared.facts.VisitFacts.{VisitFacts}
use Rattle.request_visit.specs.declared.visit.Fate.{Fate}
use Rattle.request_visit.specs.declared.visit.Fate.TheVariants.{Known, Writing}
use Rattle.request_visit.specs.declared.visit.Work.{Work}
use Rattle.request_visit.specs.declared.visit.Work.TheVariants.{Reading, Opening, Serving as ServingBy, Committed, Decided, Answered, Left}
use Rattle.send_windows.specs.declared.history.WindowMark.{WindowMark}
use Rattle.session_cookie.specs.declared.cookie.Cookie.{Cookie}
use Rattle.session_way.specs.declared.lease.SessionLease.{SessionLease}
use Rattle.session_way.specs.declared.session_write.WriteOrder.{WriteOrder}
use Rattle.session_way.specs.declared.way.SessionWay.{SessionWay}
use Rattle.served_items.specs.Attributing.{Attributed, BecameBy, FateBy, IsErrandOf, OnAdmitted, StageBy, TakenIn, WorkBy, attributed_items, drawn_for_all, facts_by, read_by, taken_heads, taken_in}
use Rattle.ssm_stub.specs.declared.write_call.WriteRefusal.{WriteRefusal}
use Rattle.shepherd.specs.Accounting.{StageTells}
use Rattle.shepherd.specs.Answering.{AreResponses, Response}
use Rattle.shepherd.specs.declared.shepherd.AskedCall.{AskedCall}
use Rattle.shepherd.specs.declared.shepherd.Stage.{Stage}
use Rattle.shepherd.specs.declared.shepherd.Stage.TheVariants.{Resting, Serving, Refusing, Over}
use Rattle.served_connections.specs.Telling.{HasAddedMore}

module _ (start : Start) (history : List Event) (errand other : Errand) (facts : VisitFacts) (holds : Holds) (own same : List Event) where
  became_own : (o : ItemOutcome) → Became start history errand facts holds own o → Became start history other facts holds same o → own ≡ same
  became_own (item.Refused why) a b = a.own_is ∙ sym b.own_is
  became_own (item.SerialsSpent seen) a b = a.own_is ∙ sym b.own_is
  became_own (item.Expired now expiry) a b = a.own_is ∙ sym b.own_is
  became_own (item.Lost causes) a b = a.own_is ∙ sym b.own_is
  became_own (item.Ended end) a b = a.own_is ∙ sym b.own_is
  became_own (item.Overload place again full) a b = a.own_is ∙ sym b.own_is
  became_own (item.Missed place again causes) a b = a.own_is ∙ sym b.own_is

  fate_own : (f : Fate) → FateStands start history errand facts holds own f → FateStands start history other facts holds same f → own ≡ same
  fate_own (Known became) a b = became_own became a b
  fate_own (Writing place again) a b = a.own_is ∙ sym b.own_is

  -- What a request has added is fixed by how far it has come.
  one_own : {P : Type 0} (asks : P → List Answer → Next) (work : Work P) → AccountsOf asks start history errand facts holds own work → AccountsOf asks start history other facts holds same work → own ≡ same
  one_own asks Reading a b = a.own_is ∙ sym b.own_is
  one_own asks Opening a b = a.own_is ∙ sym b.own_is
  one_own asks (ServingBy tries program) a b = a.unheld_is.own_is ∙ sym b.unheld_is.own_is
  one_own asks (Committed place again shown) a b = a.own_is ∙ sym b.own_is
  one_own asks (Decided became) a b = became_own became a b
  one_own asks (Answered fate bytes) a b = fate_own fate a b
  one_own asks (Left fate) a b = fate_own fate a b

-- A request is the one of these heads, and numbers were drawn for it last.
pub record IsLast (opened : List Head) (drawn : List Draw) (t : TakenIn) : Type 0 where
  pub opened_is : opened ≡ t.head ∷ []
  pub before : List Draw
  pub drawn_are : drawn ≡ before ++ t.intake.drawn

module _ {P L : Type 0} (asks : P → List Answer → Next) (calls : L → LinkEvent → L → Type 0) (makes : ActionCall → List ℕ → P → Type 0) (taken_so : TakenIn → Type 0) (start : Start) (history : List Event) (opened : List Head) (drawn : List Draw) (own : List Event)
    (t : TakenIn) (took : taken_so t) (last : IsLast opened drawn t) (errand : Errand) (facts : VisitFacts) (facts_are : facts ≡ facts_by facts.front t.head t.intake.now t.intake.arrival) (holds : Holds)
    (lease : Option SessionLease) (cookie : Option Cookie) (es : List Entry) where
  abbrev Own : Admission → Type 0
  Own a = IsErrandOf asks makes (option_map value_of lease) errand a

  abbrev Added : Type 0
  Added = (own ≡ []) ⊎ HasAddedMore asks calls makes taken_so start history opened drawn own

  ends_so : (a : Arrival) → t.intake.arrival ≡ a → (end : RequestOutcome) → EndsWith start history errand facts holds end own → IsKnown calls (read_by t.intake.now t.intake.arrival) lease → OnAdmitted a Own → Added
  ends_so (arrival.Refused why) arrived end ends known by_own = absurd by_own
  ends_so (arrival.SerialsSpent request seen) arrived end ends known by_own = absurd by_own
  ends_so (arrival.Admitted a) arrived end ends known by_own = inr (record {
    came = t;
    came_so = took;
    opened_is = last.opened_is;
    before = last.before;
    drawn_are = last.drawn_are;
    admission = a;
    arrived = arrived;
    lease = lease;
    known = known;
    value = option_map value_of lease;
    value_is = refl;
    errand = errand;
    own_call = by_own;
    facts = facts;
    facts_are = facts_are;
    holds = holds;
    end = end;
    ends = ends;
  })

  became_so : (a : Arrival) → t.intake.arrival ≡ a → (o : ItemOutcome) → Became start history errand facts holds own o
      → SessionTold calls (read_by t.intake.now t.intake.arrival) es facts lease cookie o → BecameBy a Own o → Added
  became_so a arrived (item.Refused why) became told by_own = inl became.own_is
  became_so a arrived (item.SerialsSpent seen) became told by_own = inl became.own_is
  became_so a arrived (item.Expired now expiry) became told by_own = inl became.own_is
  became_so a arrived (item.Lost causes) became told by_own = inl became.own_is
  became_so a arrived (item.Ended end) became told by_own = ends_so a arrived end became told.0 by_own
  became_so a arrived (item.Overload place again full) became told by_own = ends_so a arrived (Page place again) became told.0 by_own
  became_so a arrived (item.Missed place again causes) became told by_own = ends_so a arrived (Page place again) became told.0 by_own

  fate_so : (a : Arrival) → t.intake.arrival ≡ a → (f : Fate) (w : SessionWay) (HeldSo : WriteOrder → Result Cookie WriteRefusal → Type 0) → FateStands start history errand facts holds own f
      → FateTold calls (read_by t.intake.now t.intake.arrival) es facts lease cookie w HeldSo f → FateBy a Own f → Added
  fate_so a arrived (Known became) w HeldSo stands told by_own = became_so a arrived became stands told.0 by_own
  fate_so a arrived (Writing place again) w HeldSo stands told by_own = ends_so a arrived (Page place again) stands told.0 by_own

  -- It has added nothing, or what its end adds, by its own errand.
  work_so : (a : Arrival) → t.intake.arrival ≡ a → (call : Option AskedCall) (w : SessionWay) (work : Work P) → AccountsOf asks start history errand facts holds own work
      → SessionOf calls (read_by t.intake.now t.intake.arrival) es facts lease cookie w work → WorkBy a Own call work → Added
  work_so a arrived call w Reading accounts session by_own = inl accounts.own_is
  work_so a arrived call w Opening accounts session by_own = inl accounts.own_is
  work_so a arrived call w (ServingBy tries program) accounts session by_own = inl accounts.unheld_is.own_is
  work_so a arrived call w (Committed place again shown) accounts session by_own = ends_so a arrived (Page place again) accounts session.0 by_own
  work_so a arrived call w (Decided became) accounts session by_own = became_so a arrived became accounts session.0 by_own
  work_so a arrived call w (Answered fate bytes) accounts session by_own = fate_so a arrived fate w (HasAnswer calls w) accounts session by_own
  work_so a arrived call w (Left fate) accounts session by_own = fate_so a arrived fate w (SettlesWith calls w) accounts session by_own

-- What was added for the request that is open is of its own call.
pub stage_added : {P L : Type 0} (asks : P → List Answer → Next) (calls : L → LinkEvent → L → Type 0) (makes : ActionCall → List ℕ → P → Type 0) (taken_so : TakenIn → Type 0) (start : Start) (history own : List Event) (marks : List WindowMark) (taken : List TakenIn)
    (opened : List Head) (drawn : List Draw) (stage : Stage P) → ((t : TakenIn) → taken ≡ t ∷ [] → IsLast opened drawn t)
    → StageTells asks start history own marks stage → StageBy asks calls makes taken_so start history taken stage → (own ≡ []) ⊎ HasAddedMore asks calls makes taken_so start history opened drawn own
stage_added asks calls makes taken_so start history own marks taken opened drawn Resting last tells is_open = inl tells.0
stage_added asks calls makes taken_so start history own marks taken opened drawn (Serving v call) last tells is_open =
    subst (λ (x : List Event). (x ≡ []) ⊎ HasAddedMore asks calls makes taken_so start history opened drawn x)
    (one_own start history is_open.errand tells.errand v.facts v.holds is_open.own own asks v.work is_open.goes_back.accounts tells.accounts)
    (work_so asks calls makes taken_so start history opened drawn is_open.own is_open.taken is_open.goes_back.came_so (last is_open.taken is_open.opened_is) is_open.errand v.facts is_open.goes_back.facts_are v.holds
    v.lease v.cookie _ is_open.taken.intake.arrival refl call v.way v.work is_open.goes_back.accounts is_open.goes_back.session.so is_open.goes_back.work)
stage_added asks calls makes taken_so start history own marks taken opened drawn (Refusing why bytes) last tells is_open = inl tells.0
stage_added asks calls makes taken_so start history own marks taken opened drawn (Over end) last tells is_open = inl tells.0

-- what follows as many elements
same_rest : {A : Type 0} (xs ys us vs : List A) → length xs ≡ length us → xs ++ ys ≡ us ++ vs → ys ≡ vs
same_rest xs ys us vs long is =
    sym (drop-append_seam xs ys) ∙ (ap (λ (l : List _). drop (length xs) l) is ∙ (ap (λ (n : ℕ). drop n (us ++ vs)) long ∙ drop-append_seam us vs))

-- The request that was taken in last is the one that is open, and numbers were drawn for it last.
pub came_last : {P : Type 0} (key : List ℕ) (history : List Event) (heads : List Head) (drawn : List Draw) (written : List ℕ) (items : List Item) (opened : List Head) (sent : List ℕ) (served : List (Attributed P)) (taken : List TakenIn)
    → AreResponses key history heads written items opened sent → heads ≡ taken_heads (taken_in served ++ taken) → items ≡ attributed_items served → drawn ≡ drawn_for_all (taken_in served ++ taken)
    → (t : TakenIn) → taken ≡ t ∷ [] → IsLast opened drawn t
came_last {P} key history heads drawn written items opened sent served taken answers heads_are items_are drawn_are t one = record {
  opened_is = same_rest (map (λ (r : Response). r.head) answers.responses) opened (taken_heads (taken_in served)) (t.head ∷ []) as_many
      (sym answers.heads_are ∙ (heads_are ∙ (ap (λ (ts : List TakenIn). taken_heads (taken_in served ++ ts)) one ∙ map-append (λ (x : TakenIn). x.head) (taken_in served) (t ∷ []))));
  before = drawn_for_all (taken_in served);
  drawn_are = drawn_are ∙ (ap (λ (ts : List TakenIn). drawn_for_all (taken_in served ++ ts)) one
      ∙ (flat_map-append (λ (x : TakenIn). x.intake.drawn) (taken_in served) (t ∷ []) ∙ ap (λ (ds : List Draw). drawn_for_all (taken_in served) ++ ds) (append-nil t.intake.drawn)));
} where
  as_many : length (map (λ (r : Response). r.head) answers.responses) ≡ length (taken_heads (taken_in served))
  as_many = length-map answers.responses (λ (r : Response). r.head) ∙ (sym (length-map answers.responses (λ (r : Response). r.item))
      ∙ (ap length (sym answers.items_are ∙ items_are) ∙ (length-map served (λ (x : Attributed P). x.item)
      ∙ (sym (length-map served (λ (x : Attributed P). x.taken)) ∙ sym (length-map (taken_in served) (λ (x : TakenIn). x.head))))))
