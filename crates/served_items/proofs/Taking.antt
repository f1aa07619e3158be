-- A request that is taken off the bytes is attributed with how it was taken in.
use Rattle.std.specs.Prelude.{◌⊎◌}
use Rattle.std.proofs.Common.{◌≡◌, inl, inr, ℕ, ◌≤◌, true, List, [], ◌∷◌, ◌++◌, arith, refl, sym, ap, ◌∙◌, subst, Option, Some, None}
use Rattle.std.proofs.lemmas.Grind.{flat_map-append}
use Rattle.std.proofs.lemmas.List.{append-nil, append_assoc, map-append}
use Rattle.auction_calls.specs.declared.action.ActionCall.{ActionCall}
use Rattle.boot_core.specs.declared.boot.Start.{Start}
use Rattle.call_ticket.specs.declared.next.Answer.{Answer}
use Rattle.call_ticket.specs.declared.next.Next.{Next}
use Rattle.call_ticket.specs.declared.next.Next.TheVariants as next
use Rattle.container_core.specs.declared.history.Event.{Event}
use Rattle.crash_base.specs.declared.numbers.Moment.{Moment}
use Rattle.crash_base.specs.declared.numbers.Place.{Place}
use Rattle.crash_base.specs.declared.numbers.RequestNo.{RequestNo}
use Rattle.crash_base.specs.declared.numbers.Version.{Version}
use Rattle.http_wire.specs.Taking.{taken_of}
use Rattle.http_wire.specs.declared.taken.Head.{Head}
use Rattle.http_wire.specs.declared.taken.Taken.{Taken}
use Rattle.http_wire.specs.declared.taken.Taken.TheVariants as took
use Rattle.outcome_items.specs.declared.item.Item.{Item}
use Rattle.outcome_items.specs.declared.outcome.ItemOutcome.TheVariants as item
use Rattle.outside.specs.declared.link.LinkCounts.{LinkCounts}
use Rattle.outside.specs.declared.link.LinkEvent.{LinkEvent}
use Rattle.request_decisions.specs.Counts.{ascends}
use Rattle.request_decisions.specs.Drawing.{HasDrawn}
use Rattle.request_decisions.specs.declared.decision.Decision.{Decision}
use Rattle.request_decisions.specs.declared.decision.Decision.TheVariants as decided
use Rattle.request_decisions.specs.declared.decision.Refusal.{Refusal}
use Rattle.request_decisions.specs.declared.decision.Refusal.TheVariants as refusal
use Rattle.request_decisions.specs.declared.draws.Draw.{Draw}
use Rattle.request_intake.specs.Intakes.{Gives, Looks, TakesInBy, TakesInOrder}
use Rattle.request_intake.specs.declared.intake.Admission.{Admission}
use Rattle.request_intake.specs.declared.intake.Arrival.{Arrival}
use Rattle.request_intake.specs.declared.intake.Arrival.TheVariants.{Refused, SerialsSpent, Admitted}
use Rattle.request_intake.specs.declared.intake.HomeBoot.{HomeBoot}
use Rattle.request_intake.specs.declared.intake.Intake.{Intake}
use Rattle.request_tries.specs.Ends.{Errand}
use Rattle.request_visit.specs.Accounts.{Accounts}
use Rattle.request_visit.specs.Sessions.{SessionStands}
use Rattle.request_visit.specs.Visits.{begun}
use Rattle.request_visit.specs.declared.facts.VisitFacts.{VisitFacts}
use Rattle.request_visit.specs.declared.visit.Visit.{Visit}
use Rattle.request_visit.specs.declared.visit.Work.TheVariants.{Reading, Opening, Decided}
use Rattle.session_cookie.specs.declared.cookie.Cookie.{Cookie}
use Rattle.session_way.specs.declared.way.SessionWay.{SessionWay}
use Rattle.session_way.specs.declared.way.SessionWay.TheVariants as way
use Rattle.shepherd.specs.Answering.{heads_in}
use Rattle.shepherd.specs.Shepherds.{turn}
use Rattle.shepherd.specs.Steps.{Begins, TakesBy, TakesRequest, admitted_visit, bare_facts, begun_by, facts_of}
use Rattle.shepherd.specs.declared.shepherd.Shepherd.{Shepherd}
use Rattle.shepherd.specs.declared.shepherd.ShepherdTurn.TheVariants as turns
use Rattle.shepherd.specs.declared.shepherd.Stage.{Stage}
use Rattle.ssm_stub.specs.Reads.{read_start}
use Rattle.served_items.specs.Attributing.{AttributesBy, Service, StageBy, TakenIn, WasTakenIn, drawn_for_all, taken_heads, moments_of, taken_in}
use Rattle.served_items.specs.Served.{AttributesNext}
use Rattle.served_items.proofs.Rising.{rises_by, rises_to}
use Rattle.served_items.proofs.Turning.{rests}

-- what a law tells of requests that begin
abbrev pub AccountsBegin : {P : Type 0} → (P → List Answer → Next) → Type 0
AccountsBegin {P} asks = (start : Start) (history : List Event) (errand : Errand) (facts : VisitFacts) (counts : LinkCounts) (way : SessionWay) (why : Refusal) (seen : ℕ)
    → Accounts asks start history errand [] (begun facts counts way Reading)
    × Accounts asks start history errand [] (begun facts counts way Opening)
    × Accounts asks start history errand [] (begun facts counts way (Decided (item.Refused why)))
    × Accounts asks start history errand [] (begun facts counts way (Decided (item.SerialsSpent seen)))

-- what another tells of their sessions
pub record SessionsBegin {L : Type 0} (P : Type 0) (calls : L → LinkEvent → L → Type 0) : Type 0 where
  pub read : (history : List Event) (facts : VisitFacts) (counts : LinkCounts) (nonce : Version) (cookie : Cookie) (v : Visit P) → v ≡ begun facts counts (way.Reading (read_start facts.now nonce cookie)) Reading
      → SessionStands calls (Some (read_start facts.now nonce cookie)) history v
  pub unread : (history : List Event) (facts : VisitFacts) (counts : LinkCounts) (v : Visit P) → v ≡ begun facts counts way.Resting Opening → SessionStands calls None history v
  pub refused : (history : List Event) (facts : VisitFacts) (counts : LinkCounts) (why : Refusal) (v : Visit P) → v ≡ begun facts counts way.Resting (Decided (item.Refused why)) → SessionStands calls None history v
  pub spent : (history : List Event) (facts : VisitFacts) (counts : LinkCounts) (seen : ℕ) (v : Visit P) → v ≡ begun facts counts way.Resting (Decided (item.SerialsSpent seen)) → SessionStands calls None history v

-- what is asked of the container before a program is made: anything
nothing : Errand
nothing = record { request = record { boot = 0; serial = 0 }; text = []; asks = λ answers. next.Exit }

module _ {P L : Type 0} (asks : P → List Answer → Next) (calls : L → LinkEvent → L → Type 0) (makes : ActionCall → List ℕ → P → Type 0) (came : TakenIn → Type 0) (accounts : AccountsBegin asks) (sessions : SessionsBegin P calls) (start : Start) (history : List Event) (front : Place) (counts : LinkCounts) where
  by_cookie : (head : Head) (now : Moment) (drawn : List Draw) (request : RequestNo) (call : ActionCall) (cookie : Option Cookie) (read write : Version)
      → came (record { head = head; intake = record { now = now; drawn = drawn; arrival = Admitted (record { request = request; call = call; cookie = cookie; read = read; write = write }) } })
      → StageBy asks calls makes came start history (record { head = head; intake = record { now = now; drawn = drawn; arrival = Admitted (record { request = request; call = call; cookie = cookie; read = read; write = write }) } } ∷ [])
      (admitted_visit (facts_of (record { request = request; call = call; cookie = cookie; read = read; write = write }) now front head) counts (record { request = request; call = call; cookie = cookie; read = read; write = write }) cookie)
  by_cookie head now drawn request call None read write took =
      let a : Admission = record { request = request; call = call; cookie = None; read = read; write = write } in
      record {
        taken = record { head = head; intake = record { now = now; drawn = drawn; arrival = Admitted a } };
        opened_is = refl;
        errand = nothing;
        own = [];
        goes_back = record {
          came_so = took;
          facts_are = refl;
          session = sessions.unread history (facts_of a now front head) counts (begun (facts_of a now front head) counts way.Resting Opening) refl;
          accounts = (accounts start history nothing (facts_of a now front head) counts way.Resting refusal.NotThere 0).1;
          work = refl;
        };
      }
  by_cookie head now drawn request call (Some cookie) read write took =
      let a : Admission = record { request = request; call = call; cookie = Some cookie; read = read; write = write } in
      record {
        taken = record { head = head; intake = record { now = now; drawn = drawn; arrival = Admitted a } };
        opened_is = refl;
        errand = nothing;
        own = [];
        goes_back = record {
          came_so = took;
          facts_are = refl;
          session = sessions.read history (facts_of a now front head) counts read cookie (begun (facts_of a now front head) counts (way.Reading (read_start now read cookie)) Reading) refl;
          accounts = (accounts start history nothing (facts_of a now front head) counts (way.Reading (read_start now read cookie)) refusal.NotThere 0).0;
          work = refl;
        };
      }

  by_arrival : (head : Head) (now : Moment) (drawn : List Draw) (arrival : Arrival) → came (record { head = head; intake = record { now = now; drawn = drawn; arrival = arrival } })
      → StageBy asks calls makes came start history (record { head = head; intake = record { now = now; drawn = drawn; arrival = arrival } } ∷ []) (begun_by front counts head now arrival)
  by_arrival head now drawn (Refused why) took = record {
    taken = record { head = head; intake = record { now = now; drawn = drawn; arrival = Refused why } };
    opened_is = refl;
    errand = nothing;
    own = [];
    goes_back = record {
      came_so = took;
      facts_are = refl;
      session = sessions.refused history (bare_facts None now front head) counts why (begun (bare_facts None now front head) counts way.Resting (Decided (item.Refused why))) refl;
      accounts = (accounts start history nothing (bare_facts None now front head) counts way.Resting why 0).2;
      work = refl;
    };
  }
  by_arrival head now drawn (SerialsSpent request seen) took = record {
    taken = record { head = head; intake = record { now = now; drawn = drawn; arrival = SerialsSpent request seen } };
    opened_is = refl;
    errand = nothing;
    own = [];
    goes_back = record {
      came_so = took;
      facts_are = refl;
      session = sessions.spent history (bare_facts request now front head) counts seen (begun (bare_facts request now front head) counts way.Resting (Decided (item.SerialsSpent seen))) refl;
      accounts = (accounts start history nothing (bare_facts request now front head) counts way.Resting refusal.NotThere seen).3;
      work = (request, refl);
    };
  }
  by_arrival head now drawn (Admitted a) took = by_cookie head now drawn a.request a.call a.cookie a.read a.write took

  pub begun_back : (t : TakenIn) → came t → StageBy asks calls makes came start history (t ∷ []) (begun_by front counts t.head t.intake.now t.intake.arrival)
  begun_back t took = by_arrival t.head t.intake.now t.intake.drawn t.intake.arrival took

-- what was drawn, and what was looked at last
record Drew {R S : Type 0} (gives : Gives R) (looks : Looks S) (random random_after : R) (serials serials_after : S) (more : List Draw) : Type 0 where
  mid : S
  drew : HasDrawn looks gives serials random more mid random_after
  looked : (serials_after ≡ mid) ⊎ ((seen : ℕ) × looks mid seen None serials_after)

drew_by : {R S : Type 0} (gives : Gives R) (looks : Looks S) (key : List ℕ) (home : HomeBoot) (random random_after : R) (serials serials_after : S) (i : Intake) (d : Decision)
    → TakesInBy gives looks key home d random serials i random_after serials_after → Drew gives looks random random_after serials serials_after i.drawn
drew_by {R} {S} gives looks key home random random_after serials serials_after i (decided.Refused why) takes = record {
  mid = serials;
  drew = subst (λ (ds : List Draw). HasDrawn looks gives serials random ds serials random_after) (sym takes.1) (refl, takes.2);
  looked = inl takes.3;
}
drew_by {R} {S} gives looks key home random random_after serials serials_after i (decided.Ordered o) takes = by i.arrival takes where
  by : (arrival : Arrival) → TakesInOrder gives looks key home o i.now random serials i.drawn arrival random_after serials_after → Drew gives looks random random_after serials serials_after i.drawn
  by (Refused why) x = absurd x
  by (SerialsSpent request seen) x = record { mid = x.0.before; drew = x.0.drawn_are; looked = inr (seen, x.0.looked) }
  by (Admitted a) x = record { mid = serials_after; drew = x.0.1; looked = inl refl }

-- What is taken off the bytes is attributed.
pub taken : {P L M C R S : Type 0} (asks : P → List Answer → Next) (calls : L → LinkEvent → L → Type 0) (makes : M → ActionCall → List ℕ → P → Type 0) (told : C → ℕ) (gives : Gives R) (looks : Looks S)
    → AccountsBegin asks → SessionsBegin P calls → (service : Service M) (counts : LinkCounts) (start : Start) (history : List Event) (heads : List Head) (drawn : List Draw) (earliest latest : ℕ) (items : List Item) (s new : Shepherd P)
    (clock clock_after : C) (random random_after : R) (serials serials_after : S) → turn s ≡ turns.Request → latest ≤ told clock
    → TakesRequest told gives looks service.key service.home counts s clock random serials new clock_after random_after serials_after
    → AttributesBy asks calls (makes service.maker) (WasTakenIn gives looks service.key service.home) start history heads drawn earliest latest items s
    → AttributesNext asks calls makes gives looks service start history (heads ++ heads_in (taken_of s.received)) drawn earliest (told clock_after) items new random random_after serials serials_after
taken {P} {L} {M} {C} {R} {S} asks calls makes told gives looks accounts sessions service counts start history heads drawn earliest latest items s new clock clock_after random random_after serials serials_after is late takes h = by (taken_of s.received) takes where
  none : h.opened ≡ []
  none = subst (λ (x : Stage P). StageBy asks calls (makes service.maker) (WasTakenIn gives looks service.key service.home) start history h.opened x) (rests s is) h.is_open

  -- nothing is taken
  refuses : StageBy asks calls (makes service.maker) (WasTakenIn gives looks service.key service.home) start history [] new.stage → clock_after ≡ clock → random_after ≡ random → serials_after ≡ serials
      → AttributesNext asks calls makes gives looks service start history (heads ++ []) drawn earliest (told clock_after) items new random random_after serials serials_after
  refuses stands no_reading no_word no_serial = record {
    more = [];
    mid = serials;
    drew = (refl, no_word);
    looked = inl no_serial;
    attributes = record {
      served = h.served;
      opened = h.opened;
      heads_are = append-nil heads ∙ h.heads_are;
      drawn_are = append-nil drawn ∙ h.drawn_are;
      rise = rises_to (earliest ∷ moments_of (taken_in h.served ++ h.opened)) latest (told clock_after) (subst (λ (c : C). latest ≤ told c) (sym no_reading) late) h.rise;
      items_are = h.items_are;
      attributed = h.attributed;
      is_open = subst (λ (ts : List TakenIn). StageBy asks calls (makes service.maker) (WasTakenIn gives looks service.key service.home) start history ts new.stage) (sym none) stands;
    };
  }

  -- a request is taken
  begins : (head : Head) → Begins told gives looks service.key service.home counts head s clock random serials new clock_after random_after serials_after
      → AttributesNext asks calls makes gives looks service start history (heads ++ head ∷ []) drawn earliest (told clock_after) items new random random_after serials serials_after
  begins head b =
      let t : TakenIn = record { head = head; intake = b.intake } in
      let drew = drew_by gives looks service.key service.home random random_after serials serials_after b.intake b.taken_in.decision b.taken_in.follows in
      let bare : taken_in h.served ++ h.opened ≡ taken_in h.served = ap (λ ts. taken_in h.served ++ ts) none ∙ append-nil (taken_in h.served) in
      let stage : new.stage ≡ begun_by s.front counts head b.intake.now b.intake.arrival = ap (λ (x : Shepherd P). x.stage) b.new_is in
      let later : latest ≤ b.intake.now.0 = (let rises = b.rises in omega (arith, late, rises)) in
      let rose : ascends (earliest ∷ (moments_of (taken_in h.served) ++ b.intake.now.0 ∷ [])) ≡ true =
      rises_to (earliest ∷ moments_of (taken_in h.served)) latest b.intake.now.0 later (subst (λ ts. ascends (earliest ∷ (moments_of ts ++ latest ∷ [])) ≡ true) bare h.rise) in
      let twice : moments_of (taken_in h.served ++ t ∷ []) ++ b.intake.now.0 ∷ [] ≡ moments_of (taken_in h.served) ++ b.intake.now.0 ∷ b.intake.now.0 ∷ [] =
      ap (λ ms. ms ++ b.intake.now.0 ∷ []) (map-append (λ (x : TakenIn). x.intake.now.0) (taken_in h.served) (t ∷ [])) ∙ append_assoc (moments_of (taken_in h.served)) (b.intake.now.0 ∷ []) (b.intake.now.0 ∷ []) in
      record {
        more = b.intake.drawn;
        mid = drew.mid;
        drew = drew.drew;
        looked = drew.looked;
        attributes = record {
          served = h.served;
          opened = t ∷ [];
          heads_are = ap (λ hs. hs ++ head ∷ []) (h.heads_are ∙ ap taken_heads bare) ∙ sym (map-append (λ (x : TakenIn). x.head) (taken_in h.served) (t ∷ []));
          drawn_are = ap (λ ds. ds ++ b.intake.drawn) (h.drawn_are ∙ ap drawn_for_all bare)
              ∙ ap (λ ds. drawn_for_all (taken_in h.served) ++ ds) (sym (append-nil b.intake.drawn)) ∙ sym (flat_map-append (λ (x : TakenIn). x.intake.drawn) (taken_in h.served) (t ∷ []));
          rise = subst (λ (m : ℕ). ascends (earliest ∷ (moments_of (taken_in h.served ++ t ∷ []) ++ m ∷ [])) ≡ true) (sym b.told_is)
              (subst (λ ms. ascends (earliest ∷ ms) ≡ true) (sym twice) (rises_by (earliest ∷ moments_of (taken_in h.served)) b.intake.now.0 rose));
          items_are = h.items_are;
          attributed = h.attributed;
          is_open = subst (λ (x : Stage P). StageBy asks calls (makes service.maker) (WasTakenIn gives looks service.key service.home) start history (t ∷ []) x) (sym stage)
              (begun_back asks calls (makes service.maker) (WasTakenIn gives looks service.key service.home) accounts sessions start history s.front counts t (random, serials, random_after, serials_after, b.taken_in));
        };
      }

  refused : (stage : Stage P) → (new.stage ≡ stage) → StageBy asks calls (makes service.maker) (WasTakenIn gives looks service.key service.home) start history [] stage → StageBy asks calls (makes service.maker) (WasTakenIn gives looks service.key service.home) start history [] new.stage
  refused stage same stands = subst (λ (x : Stage P). StageBy asks calls (makes service.maker) (WasTakenIn gives looks service.key service.home) start history [] x) (sym same) stands

  by : (x : Taken) → TakesBy told gives looks service.key service.home counts x s clock random serials new clock_after random_after serials_after
      → AttributesNext asks calls makes gives looks service start history (heads ++ heads_in x) drawn earliest (told clock_after) items new random random_after serials serials_after
  by (took.Request head) b = begins head b
  by took.Bad r = refuses (refused _ (ap (λ (x : Shepherd P). x.stage) r.new_is) refl) r.no_reading r.no_word r.no_serial
  by (took.TooLong len lines) r = refuses (refused _ (ap (λ (x : Shepherd P). x.stage) r.new_is) refl) r.no_reading r.no_word r.no_serial
  by took.NoCoding r = refuses (refused _ (ap (λ (x : Shepherd P). x.stage) r.new_is) refl) r.no_reading r.no_word r.no_serial
  by (took.BodyTooLong said) r = refuses (refused _ (ap (λ (x : Shepherd P). x.stage) r.new_is) refl) r.no_reading r.no_word r.no_serial
  by took.More r = absurd r
