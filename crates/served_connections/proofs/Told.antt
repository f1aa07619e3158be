-- What a connection tells at an end.
use Rattle.std.specs.Prelude.{◌↔◌}
use Rattle.std.proofs.Common.{◌≡◌, ◌≢◌, ◌⊎◌, inl, inr, ℕ, ◌==◌, ◌<◌, Bool, true, false, List, [], ◌∷◌, ◌++◌, All, arith, length, map, take, slice_get, Some, refl, sym, ap, ◌∙◌, subst, if◌then◌else◌}
use Rattle.std.proofs.lemmas.List.{append-nil, length-append, length-map}
use Rattle.std.proofs.lemmas.List.Elements.{All-cons, All-head, All-nil, All-tail}
use Rattle.std.proofs.lemmas.Option.{slice_get_within}
use Rattle.boot_core.specs.declared.boot.Start.{Start}
use Rattle.call_ticket.specs.declared.next.Answer.{Answer}
use Rattle.call_ticket.specs.declared.next.Next.{Next}
use Rattle.container_core.specs.History.{entries_in}
use Rattle.container_core.specs.declared.history.Event.{Event}
use Rattle.crash_base.specs.declared.numbers.Place.{Place}
use Rattle.http_wire.specs.Requests.{Requests, requests}
use Rattle.http_wire.specs.Taking.{settles, taken_of}
use Rattle.http_wire.specs.declared.taken.Head.{Head}
use Rattle.journal_model.specs.declared.entry.CommitEntry.{CommitEntry}
use Rattle.journal_model.specs.declared.entry.Entry.TheVariants.{Commit}
use Rattle.outcome_items.specs.Traces.{is_outside}
use Rattle.outcome_items.specs.declared.item.Holds.{Holds}
use Rattle.outcome_items.specs.declared.item.Item.{Item}
use Rattle.outcome_items.specs.declared.outcome.ItemOutcome.{ItemOutcome}
use Rattle.outcome_items.specs.declared.outcome.ItemOutcome.TheVariants as item
use Rattle.request_tries.specs.Ends.{Errand}
use Rattle.request_tries.specs.declared.outcome.RequestOutcome.{RequestOutcome}
use Rattle.request_tries.specs.declared.outcome.RequestOutcome.TheVariants.{Page}
use Rattle.request_visit.specs.Accounts.{Became, EndsWith, IsUnheld}
use Rattle.request_visit.specs.Visits.{turn as visit_turn}
use Rattle.request_visit.specs.declared.facts.VisitFacts.{VisitFacts}
use Rattle.send_windows.specs.declared.history.WindowMark.{WindowMark}
use Rattle.send_windows.specs.declared.history.WindowMark.TheVariants as mark
use Rattle.session_way.specs.declared.way.SessionWay.{SessionWay}
use Rattle.session_way.specs.declared.way.SessionWay.TheVariants as way
use Rattle.served_items.specs.Served.{ServedItem, committed_at}
use Rattle.shepherd.specs.Accounting.{StageTells}
use Rattle.shepherd.specs.Answering.{StageSays}
use Rattle.shepherd.specs.Shepherds.{stage_turn, turn}
use Rattle.shepherd.specs.Standing.{HasServedAll, IsOpen, Served, Standing, all_before, coming, ending_of, heads_of, last_of}
use Rattle.shepherd.specs.Stopping.{AreMarksOf, StageMarks}
use Rattle.shepherd.specs.declared.shepherd.EndKind.{EndKind}
use Rattle.shepherd.specs.declared.shepherd.EndKind.TheVariants as ends
use Rattle.shepherd.specs.declared.shepherd.Shepherd.{Shepherd}
use Rattle.shepherd.specs.declared.shepherd.ShepherdTurn.TheVariants as turns
use Rattle.shepherd.specs.declared.shepherd.Stage.{Stage}
use Rattle.shepherd.specs.declared.shepherd.Stage.TheVariants.{Resting, Serving, Refusing, Over}
use Rattle.site_responses.specs.declared.answer.Untaken.{Untaken}
use Rattle.served_connections.specs.Resting.{Rests, last_at}
use Rattle.served_connections.specs.Stopping.{HoldsNothing, IsUnsent}
use Rattle.served_connections.specs.Telling.{TellsHolds}
use Rattle.served_connections.proofs.Resting.{bytes_remember, is_rest, rests_at, served_no_rest}

-- What was said at rest are the last bytes, and what was added and left is told by items.
pub says_rest : {P : Type 0} (key : List ℕ) (history : List Event) (opened : List Head) (sent : List ℕ) (stage : Stage P) → Rests stage → StageSays key history opened sent stage → (opened ≡ []) × (sent ≡ last_at stage)
says_rest key history opened sent Resting rests says = says
says_rest key history opened sent (Serving v call) rests says = absurd rests
says_rest key history opened sent (Refusing why bytes) rests says = absurd rests
says_rest key history opened sent (Over end) rests says = says

pub tells_rest : {P : Type 0} (asks : P → List Answer → Next) (start : Start) (history own : List Event) (marks : List WindowMark) (stage : Stage P) → Rests stage → StageTells asks start history own marks stage → (own ≡ []) × (marks ≡ [])
tells_rest asks start history own marks Resting rests tells = tells
tells_rest asks start history own marks (Serving v call) rests tells = absurd rests
tells_rest asks start history own marks (Refusing why bytes) rests tells = absurd rests
tells_rest asks start history own marks (Over end) rests tells = tells

-- Nothing was said for a request whose response has not left.
pub says_unsent : {P : Type 0} (key : List ℕ) (history : List Event) (opened : List Head) (sent : List ℕ) (stage : Stage P) → last_at stage ≡ [] → IsUnsent stage → StageSays key history opened sent stage → sent ≡ []
says_unsent key history opened sent Resting last unsent says = says.1
says_unsent key history opened sent (Serving v call) last unsent says = says.unsent unsent
says_unsent key history opened sent (Refusing why bytes) last unsent says = says.1
says_unsent key history opened sent (Over end) last unsent says = says.1 ∙ last

rest_spent : (marks : List WindowMark) → AreMarksOf way.Resting marks → marks ≢ mark.Taken 0 ∷ []
rest_spent marks (inl none) taken = absurd (cc)
rest_spent marks (inr (inl refused)) taken = absurd (cc)
rest_spent marks (inr (inr spent)) taken = absurd (cc)

-- Where nothing is held, no passes are unspent.
pub marks_spent : {P : Type 0} (marks : List WindowMark) (stage : Stage P) → HoldsNothing stage → StageMarks stage marks → marks ≢ mark.Taken 0 ∷ []
marks_spent marks Resting holds are taken = absurd (cc)
marks_spent marks (Serving v call) holds are taken = rest_spent marks (subst (λ (w : SessionWay). AreMarksOf w marks) holds are) taken
marks_spent marks (Refusing why bytes) holds are taken = absurd (cc)
marks_spent marks (Over end) holds are taken = absurd (cc)

-- how a connection ended that has its turn at an end
ends_resting : (a b c : Bool) (end : EndKind) → (if a then turns.Request else (if b then (if c then turns.Ended ends.Closed else turns.Ended ends.Cut) else turns.Bytes)) ≡ turns.Ended end → (last_of end ≡ []) × (end ≢ ends.OutOfMemory)
ends_resting true b c end is = absurd (cc)
ends_resting false true true end is = let same : ends.Closed ≡ end = cc in (ap last_of (sym same), λ other. absurd (cc))
ends_resting false true false end is = let same : ends.Cut ≡ end = cc in (ap last_of (sym same), λ other. absurd (cc))
ends_resting false false c end is = absurd (cc)

at_end : {P : Type 0} (s : Shepherd P) (end : EndKind) → s.wants_memory ≡ false → turn s ≡ turns.Ended end → stage_turn s.stage s.received s.ended ≡ turns.Ended end
at_end s end remembers is = subst (λ (m : Bool). (if m then turns.Ended ends.OutOfMemory else stage_turn s.stage s.received s.ended) ≡ turns.Ended end) remembers is

-- The last bytes of a connection that has ended are those of its end.
pub last_ended : {P : Type 0} (s : Shepherd P) (end : EndKind) → Rests s.stage → s.wants_memory ≡ false → turn s ≡ turns.Ended end → last_at s.stage ≡ last_of end
last_ended {P} s end rests remembers is = by s.stage rests (at_end s end remembers is) where
  by : (x : Stage P) → Rests x → stage_turn x s.received s.ended ≡ turns.Ended end → last_at x ≡ last_of end
  by Resting rests is = sym (ends_resting (settles (taken_of s.received)) s.ended (length s.received == 0) end is).0
  by (Serving v call) rests is = absurd rests
  by (Refusing why bytes) rests is = absurd rests
  by (Over e) rests is = ap last_of (let same : e ≡ end = cc in same)

empty_rest : {A : Type 0} (xs ys zs : List A) → xs ++ ys ≡ zs → length xs ≡ length zs → xs ≡ zs
empty_rest xs [] zs is same = sym (append-nil xs) ∙ is
empty_rest xs (y ∷ ys) zs is same = absurd (let all : length (xs ++ y ∷ ys) ≡ length zs = ap length is in let both = length-append xs (y ∷ ys) in omega (arith, all, both, same))

-- The requests of all bytes of a connection that has ended are those that were taken off.
pub all_taken : {P : Type 0} (fed : List ℕ) (heads : List Head) (written : List ℕ) (items : List Item) (s : Shepherd P) (end : EndKind) → Rests s.stage → s.wants_memory ≡ false → turn s ≡ turns.Ended end
    → (end ≢ ends.OutOfMemory → HasServedAll fed written items end) → Standing fed heads written items s → requests fed ≡ record { heads = heads; ending = ending_of end }
all_taken {P} fed heads written items s end rests remembers is served h = by s.stage rests (at_end s end remembers is) h.is_open taken where
  all : List Head
  all = heads_of h.served ++ h.opened

  same_bytes : requests (fed ++ []) ≡ requests fed
  same_bytes = ap requests (append-nil fed)

  taken : requests fed ≡ all_before heads (coming s.stage (s.received ++ []))
  taken = sym same_bytes ∙ (h.requests_are [] ∙ ap (λ (hs : List Head). all_before hs (coming s.stage (s.received ++ []))) (sym h.heads_are))

  by : (x : Stage P) → Rests x → stage_turn x s.received s.ended ≡ turns.Ended end → IsOpen s.front x h.opened h.sent → requests fed ≡ all_before heads (coming x (s.received ++ [])) → requests fed ≡ record { heads = heads; ending = ending_of end }
  by Resting rests ends_so open_so came =
      let whole : HasServedAll fed written items end = served (ends_resting (settles (taken_of s.received)) s.ended (length s.received == 0) end ends_so).1 in
      let none : heads ≡ heads_of h.served = h.heads_are ∙ (ap (λ (hs : List Head). heads_of h.served ++ hs) open_so.0 ∙ append-nil (heads_of h.served)) in
      let both : heads ++ (requests (s.received ++ [])).heads ≡ heads_of whole.served = ap (λ (r : Requests). r.heads) (sym came ∙ whole.requests_are) in
      let long : length heads ≡ length (heads_of whole.served) =
      ap length none ∙ (length-map h.served (λ (x : Served). x.head) ∙ (sym (length-map h.served (λ (x : Served). x.item)) ∙ (ap length (sym h.items_are ∙ whole.items_are)
      ∙ (length-map whole.served (λ (x : Served). x.item) ∙ sym (length-map whole.served (λ (x : Served). x.head)))))) in
      whole.requests_are ∙ ap (λ (hs : List Head). let r : Requests = record { heads = hs; ending = ending_of end } in r) (sym (empty_rest heads (requests (s.received ++ [])).heads (heads_of whole.served) both long))
  by (Serving v call) rests ends_so open_so came = absurd rests
  by (Refusing why bytes) rests ends_so open_so came = absurd rests
  by (Over e) rests ends_so open_so came =
      came ∙ (ap (λ (hs : List Head). let r : Requests = record { heads = hs; ending = ending_of e } in r) (append-nil heads)
      ∙ ap (λ (k : EndKind). let r : Requests = record { heads = heads; ending = ending_of k } in r) (let same : e ≡ end = cc in same))

-- whose step it is where no more bytes come behind those that were to be waited for
ends_then : (a b c : Bool) → (if a then turns.Request else (if b then (if c then turns.Ended ends.Closed else turns.Ended ends.Cut) else turns.Bytes)) ≡ turns.Bytes
    → (end : EndKind) × ((if a then turns.Request else (if c then turns.Ended ends.Closed else turns.Ended ends.Cut)) ≡ turns.Ended end)
ends_then true b c is = absurd (cc)
ends_then false true true is = absurd (cc)
ends_then false true false is = absurd (cc)
ends_then false false true is = (ends.Closed, refl)
ends_then false false false is = (ends.Cut, refl)

would_end : {P : Type 0} (s : Shepherd P) → turn s ≡ turns.Bytes → (end : EndKind) × (turn (record s { ended = true }) ≡ turns.Ended end)
would_end {P} s is = by s.wants_memory s.stage is where
  by : (m : Bool) (x : Stage P) → (if m then turns.Ended ends.OutOfMemory else stage_turn x s.received s.ended) ≡ turns.Bytes
      → (end : EndKind) × ((if m then turns.Ended ends.OutOfMemory else stage_turn x s.received true) ≡ turns.Ended end)
  by true x is = absurd (cc)
  by false Resting is = ends_then (settles (taken_of s.received)) s.ended (length s.received == 0) is
  by false (Serving v call) is = absurd (let none = served_no_rest (visit_turn v) in let rest = ap is_rest is in cc)
  by false (Refusing why bytes) is = absurd (cc)
  by false (Over end) is = absurd (cc)

-- The requests of all bytes of a connection that waits for more are those that were taken off.
pub all_came : {P : Type 0} (fed : List ℕ) (heads : List Head) (written : List ℕ) (items : List Item) (s : Shepherd P) → turn s ≡ turns.Bytes
    → ((end : EndKind) → turn (record s { ended = true }) ≡ turns.Ended end → end ≢ ends.OutOfMemory → Standing fed heads written items (record s { ended = true }) → HasServedAll fed written items end)
    → Standing fed heads written items s → (requests fed).heads ≡ heads
all_came {P} fed heads written items s is served h =
    let over : Standing fed heads written items (record s { ended = true }) = record {
      served = h.served;
      opened = h.opened;
      sent = h.sent;
      heads_are = h.heads_are;
      items_are = h.items_are;
      requests_are = h.requests_are;
      written_is = h.written_is;
      is_open = h.is_open;
      front_is = h.front_is;
    } in
    let end = would_end s is in
    let remembers : s.wants_memory ≡ false = bytes_remember s is in
    ap (λ (r : Requests). r.heads)
    (all_taken fed heads written items (record s { ended = true }) end.0 (rests_at s remembers (ap is_rest is)) remembers end.1 (λ other. served end.0 end.1 other over) over)

-- A connection that rests has no last bytes, or it has ended at what is refused.
pub last_or_refused : {P : Type 0} (s : Shepherd P) → Rests s.stage → s.wants_memory ≡ false → (last_at s.stage ≡ []) ⊎ ((why : Untaken) × (turn s ≡ turns.Ended (ends.Refused why)))
last_or_refused {P} s rests remembers = by s.stage rests refl where
  ended : (why : Untaken) → s.stage ≡ Over (ends.Refused why) → turn s ≡ turns.Ended (ends.Refused why)
  ended why is =
      ap (λ (m : Bool). if m then turns.Ended ends.OutOfMemory else stage_turn s.stage s.received s.ended) remembers
      ∙ ap (λ (x : Stage P). stage_turn x s.received s.ended) is

  by : (x : Stage P) → Rests x → s.stage ≡ x → (last_at x ≡ []) ⊎ ((why : Untaken) × (turn s ≡ turns.Ended (ends.Refused why)))
  by Resting rests is = inl refl
  by (Serving v call) rests is = absurd rests
  by (Refusing why bytes) rests is = absurd rests
  by (Over ends.Closed) rests is = inl refl
  by (Over ends.Cut) rests is = inl refl
  by (Over (ends.Refused why)) rests is = inr (why, ended why is)
  by (Over ends.OutOfMemory) rests is = inl refl

module _ (start : Start) (history : List Event) (errand : Errand) (facts : VisitFacts) (holds : Holds) (own : List Event) where
  never_held : IsUnheld facts holds own → holds.held ≢ 0 → length (entries_in (take holds.held history)) ≡ holds.front.0
  never_held h some = absurd (some (ap (λ (x : Holds). x.held) h.holds_are))

  held_at : (end : RequestOutcome) → EndsWith start history errand facts holds end own → length (entries_in (take holds.held history)) ≡ holds.front.0
  held_at end h = subst (λ (x : Holds). length (entries_in (take x.held history)) ≡ x.front.0) (sym h.holds_is) h.stands.front

  -- The journal had so many entries when the container was last held for a request as its item says.
  pub front_told : (o : ItemOutcome) → Became start history errand facts holds own o → holds.held ≢ 0 → length (entries_in (take holds.held history)) ≡ holds.front.0
  front_told (item.Refused why) became some = never_held became some
  front_told (item.SerialsSpent seen) became some = never_held became some
  front_told (item.Expired now expiry) became some = never_held became some
  front_told (item.Lost causes) became some = never_held became some
  front_told (item.Ended end) became some = held_at end became
  front_told (item.Overload place again full) became some = held_at (Page place again) became
  front_told (item.Missed place again causes) became some = held_at (Page place again) became

inside_named : (o : ItemOutcome) (place : Place) → committed_at o ≡ Some place → is_outside o ≡ false
inside_named (item.Refused why) place is = absurd (cc)
inside_named (item.SerialsSpent seen) place is = absurd (cc)
inside_named (item.Expired now expiry) place is = absurd (cc)
inside_named (item.Lost causes) place is = absurd (cc)
inside_named (item.Ended end) place is = refl
inside_named (item.Overload place again full) at is = refl
inside_named (item.Missed place again causes) at is = refl

-- An item tells how far the history had come.
pub tells_holds : (start : Start) (history : List Event) (errand : Errand) (facts : VisitFacts) (own : List Event) (i : Item)
    → Became start history errand facts i.holds own i.outcome → (i.holds.held ≡ 0) ↔ (is_outside i.outcome ≡ true)
    → ((place : Place) → committed_at i.outcome ≡ Some place → (e : CommitEntry) × (slice_get (entries_in (take i.holds.held history)) place.0 ≡ Some (Commit e)))
    → TellsHolds history i
tells_holds start history errand facts own i became unheld entry = record {
  unheld = unheld;
  front_is = front_told start history errand facts i.holds own i.outcome became;
  below = λ place named.
      let inside : is_outside i.outcome ≡ false = inside_named i.outcome place named in
      let some : i.holds.held ≢ 0 = λ none. let out : is_outside i.outcome ≡ true = unheld.0 none in absurd (cc) in
      let there = entry place named in
      subst (λ (n : ℕ). place.0 < n) (front_told start history errand facts i.holds own i.outcome became some)
      (slice_get_within (entries_in (take i.holds.held history)) place.0 (Commit there.0) there.1);
}

-- What is so of each served item is so of each item.
pub all_items : (So : Item → Type 0) (served : List ServedItem) → All (λ (x : ServedItem). So x.item) served → All So (map (λ (x : ServedItem). x.item) served)
all_items So [] each = All-nil So
all_items So (x ∷ served) each =
    All-cons So x.item (map (λ (y : ServedItem). y.item) served) (All-head (λ (y : ServedItem). So y.item) x served each) (all_items So served (All-tail (λ (y : ServedItem). So y.item) x served each))
