use Rattle.std.proofs.Common.{◌≡◌, ◌∙◌, inl, inr, true, arith, ℕ, ◌≤◌, Option, List, [], ◌∷◌, ◌++◌, length, map, slice_get, Some, refl, sym, ap, subst}
use Rattle.std.proofs.lemmas.List.{append-nil, append_assoc, length-map}
use Rattle.http_wire.specs.Requests.{Requests}
use Rattle.http_wire.specs.declared.taken.Head.{Head}
use Rattle.outcome_items.specs.declared.item.Item.{Item}
use Rattle.outside.specs.declared.link.LinkEvent.{LinkEvent}
use Rattle.request_decisions.specs.Counts.{ascends}
use Rattle.request_intake.specs.declared.intake.Arrival.{Arrival}
use Rattle.request_tries.specs.Ends.{Errand}
use Rattle.request_visit.specs.Accounts.{EndsWith}
use Rattle.request_visit.specs.Sessions.{IsKnown}
use Rattle.request_visit.specs.declared.facts.VisitFacts.{VisitFacts}
use Rattle.served_items.specs.Attributing.{TakenIn, WasTakenIn, facts_by, moments_of, read_by}
use Rattle.served_items.specs.Counting.{CountOn, last_counts}
use Rattle.served_items.specs.Following.{FollowOn, KeepFront}
use Rattle.served_items.specs.Holding.{HoldOn, furthest}
use Rattle.served_items.specs.Served.{IsServedFor, IsValueRead}
use Rattle.shepherd.specs.Answering.{Response}
use Rattle.shepherd.specs.Shepherds.{fresh}
use Rattle.served_connections.specs.Heard.{HeardIn}
use Rattle.served_connections.proofs.Among.{AreAmong, known_among}
use Rattle.served_connections.proofs.Heard.{called_among, item_among}
use Rattle.served_connections.proofs.Leaving.{by_cases}
use Rattle.served_connections.proofs.Shown.{in_its_place, moments_between, next_there, none_unspent, responds_in_place, still_there, value_read}
use Rattle.served_connections.proofs.showing.courses_show_what_was_served.Goals as goal

pub returns-clause-request : goal.returns-clause-request
returns-clause-request g c = λ service start begun history now course opened last own marks before behind i more h is.
    let So : TakenIn → Item → Type 0 = λ t x. IsServedFor g.P.Program.asks (HeardIn course.heard) g.M.ProgramMaker.makes g.R.Random.gives g.S.Serials.looks service start history t x in
    let all = h.requests_are more in
    let there = in_its_place So h.served.served h.served.opened before behind i (sym is ∙ h.served.items_are) h.served.each in
    let here : slice_get h.heads (length before) ≡ Some there.0.head = ap (λ (hs : List Head). slice_get hs (length before)) h.served.heads_are ∙ there.1 in (
      there.0,
      ap (λ (r : Requests). slice_get r.heads (length before)) all.1 ∙ still_there h.heads all.0.heads (length before) there.0.head here,
      item_among g.P.Program.asks (HeardIn course.heard) g.L.Link.makes (called_among g.L.Link.makes course.heard h.called) (g.M.ProgramMaker.makes service.maker) (WasTakenIn g.R.Random.gives g.S.Serials.looks service.key service.home) start history there.0 i there.2,
      (there.3.0, there.3.1, h.served.drawn_are ∙ there.3.2),
    )

pub returns-clause-heard : goal.returns-clause-heard
returns-clause-heard g c = λ service start begun history now course opened last own marks before behind i more h is.
    let So : TakenIn → Item → Type 0 = λ t x. IsServedFor g.P.Program.asks (HeardIn course.heard) g.M.ProgramMaker.makes g.R.Random.gives g.S.Serials.looks service start history t x in
    let all = h.requests_are more in
    let there = in_its_place So h.served.served h.served.opened before behind i (sym is ∙ h.served.items_are) h.served.each in
    let here : slice_get h.heads (length before) ≡ Some there.0.head = ap (λ (hs : List Head). slice_get hs (length before)) h.served.heads_are ∙ there.1 in (
      there.0,
      ap (λ (r : Requests). slice_get r.heads (length before)) all.1 ∙ still_there h.heads all.0.heads (length before) there.0.head here,
      there.2,
      (there.3.0, there.3.1, h.served.drawn_are ∙ there.3.2),
    )

-- each of the calls that were made stands among them
stand_there : (heard : List LinkEvent) → AreAmong (HeardIn heard) (λ (old : Unit {0}) (call : LinkEvent) (new : Unit {0}). (n : ℕ) × (slice_get heard n ≡ Some call))
stand_there heard call (old, new, (before, behind, is)) =
    (tt, tt, (length before, subst (λ (l : List LinkEvent). slice_get l (length before) ≡ Some call) (sym is) (next_there before behind call (length before) refl)))

pub returns-clause-among : goal.returns-clause-among
returns-clause-among g c = λ service start begun history now course opened last own marks before behind i more h is.
    let So : TakenIn → Item → Type 0 = λ t x. IsServedFor g.P.Program.asks (HeardIn course.heard) g.M.ProgramMaker.makes g.R.Random.gives g.S.Serials.looks service start history t x in
    let all = h.requests_are more in
    let there = in_its_place So h.served.served h.served.opened before behind i (sym is ∙ h.served.items_are) h.served.each in
    let here : slice_get h.heads (length before) ≡ Some there.0.head = ap (λ (hs : List Head). slice_get hs (length before)) h.served.heads_are ∙ there.1 in (
      there.0,
      ap (λ (r : Requests). slice_get r.heads (length before)) all.1 ∙ still_there h.heads all.0.heads (length before) there.0.head here,
      item_among g.P.Program.asks (HeardIn course.heard) (λ (old : Unit {0}) (call : LinkEvent) (new : Unit {0}). (n : ℕ) × (slice_get course.heard n ≡ Some call)) (stand_there course.heard) (g.M.ProgramMaker.makes service.maker)
          (WasTakenIn g.R.Random.gives g.S.Serials.looks service.key service.home) start history there.0 i there.2,
      (there.3.0, there.3.1, h.served.drawn_are ∙ there.3.2),
    )

pub returns-clause-called : goal.returns-clause-called
returns-clause-called g c = λ service start begun history now course opened last own marks before behind call h is.
    called_among g.L.Link.makes course.heard h.called call (tt, tt, (before, behind, is))

pub returns-clause-response : goal.returns-clause-response
returns-clause-response g c = λ service start begun history now course opened last own marks before behind i more h is.
    let all = h.requests_are more in
    let r = h.responses in
    let there = responds_in_place service.key history r.responses opened before behind i (sym is ∙ r.items_are) r.respond in
    let here : slice_get h.heads (length before) ≡ Some there.0 = ap (λ (hs : List Head). slice_get hs (length before)) r.heads_are ∙ there.1 in
    let first : List ℕ = there.2.0 in
    let bytes : List ℕ = there.2.1 in
    let rest : List ℕ = there.2.2 in (
      there.0,
      ap (λ (q : Requests). slice_get q.heads (length before)) all.1 ∙ still_there h.heads all.0.heads (length before) there.0 here,
      (
        first,
        bytes,
        rest ++ last,
        r.written_is ∙ (ap (λ (bs : List ℕ). bs ++ last) there.2.3 ∙ (append_assoc first (bytes ++ rest) last ∙ ap (λ (bs : List ℕ). first ++ bs) (append_assoc bytes rest last))),
        there.2.4,
      ),
    )

pub returns-clause-since : goal.returns-clause-since
returns-clause-since g c = λ service start begun history now course opened last own marks before behind i h is some.
    let hold_on = subst (HoldOn begun.events) is h.hold_on in
    let within = subst (λ (items : List Item). furthest begun.events items ≤ length history) is h.within in (
      c.items_are_held_in_order.ensures.since begun.events history before behind i fresh (record { hold_on = hold_on; within = within; is_open = tt }) some,
      c.items_are_held_in_order.ensures.within begun.events history before behind i fresh (record { hold_on = hold_on; within = within; is_open = tt }),
    )

pub returns-clause-later : goal.returns-clause-later
returns-clause-later g c = λ service start begun history now course opened last own marks before between behind i later h is some.
    c.items_are_held_in_order.ensures.later begun.events history before between behind i later fresh
    (record {
      hold_on = subst (HoldOn begun.events) is h.hold_on;
      within = subst (λ (items : List Item). furthest begun.events items ≤ length history) is h.within;
      is_open = tt;
    })
    some

pub returns-clause-follows : goal.returns-clause-follows
returns-clause-follows g c = λ service start begun history now course opened last own marks before behind i next h is. (
  (c.places_of_items_are_in_order.ensures.follows (record { 0 = 0 }) before behind i next (subst (FollowOn (record { 0 = 0 })) is h.follow)).0,
  c.places_of_items_are_in_order.ensures.kept (record { 0 = 0 }) before behind i next (subst (KeepFront (record { 0 = 0 })) is h.keep),
)

pub returns-clause-moment : goal.returns-clause-moment
returns-clause-moment g c = λ service start begun history now course opened last own marks before behind i h is.
    moments_between begun.moment now (moments_of h.served.opened) before behind i
    (subst (λ (items : List Item). ascends (begun.moment ∷ (map (λ (i : Item). i.moment.0) items ++ (moments_of h.served.opened ++ now ∷ []))) ≡ true) is h.served.rise)

pub returns-clause-first : goal.returns-clause-first
returns-clause-first g c = λ service start begun history now course opened last own marks behind i causes h is lost.
    c.items_account_for_their_causes.ensures.first_lost begun.counts (last_counts begun.counts (i ∷ behind)) i behind causes fresh
    (record {
      count_on = subst (CountOn begun.counts) is h.count_on;
      is_open = record { hushed = omega arith; got = omega arith };
    })
    lost

pub returns-clause-next : goal.returns-clause-next
returns-clause-next g c = λ service start begun history now course opened last own marks before behind i next causes h is lost.
    c.items_account_for_their_causes.ensures.lost begun.counts (last_counts begun.counts (before ++ i ∷ next ∷ behind)) before behind i next causes fresh
    (record {
      count_on = subst (CountOn begun.counts) is h.count_on;
      is_open = record { hushed = omega arith; got = omega arith };
    })
    lost

pub returns-clause-told : goal.returns-clause-told
returns-clause-told g c = λ service start begun history now course opened last own marks h. (h.accounted.events, h.accounted.marks_are)

pub returns-clause-ended : goal.returns-clause-ended
returns-clause-ended g c = λ service start begun history now course end h.
    let r = h.whole.responses in
    let heads : length h.whole.heads ≡ length (map (λ (x : Response). x.head) r.responses) = ap length (r.heads_are ∙ append-nil (map (λ (x : Response). x.head) r.responses)) in (
      ap length r.items_are ∙ (length-map r.responses (λ (x : Response). x.item) ∙ (sym (length-map r.responses (λ (x : Response). x.head)) ∙ (sym heads ∙ ap (λ (q : Requests). length q.heads) (sym h.all)))),
      ap (λ (q : Requests). q.ending) h.all,
    )

pub returns-clause-stopped : goal.returns-clause-stopped
returns-clause-stopped g c = λ service start begun history now course h.
    (h.open_own, h.open_marks, h.served.accounted.events, h.served.accounted.marks_are, h.few, none_unspent h.open_marks h.of_one h.spent)

pub returns-clause-more : goal.returns-clause-more
returns-clause-more g c = λ service start begun history now course more h.
    let all = h.served.requests_are more in
    let r = h.served.responses in
    let n : ℕ = length course.items in
    let as_many : n ≡ length (map (λ (x : Response). x.head) r.responses) =
    ap length r.items_are ∙ (length-map r.responses (λ (x : Response). x.item) ∙ sym (length-map r.responses (λ (x : Response). x.head))) in (
      h.open_own,
      h.served.accounted.events,
      by_cases h.more (λ none. inl none)
          (λ a. inr (
            a.came,
            a.came_so,
            ap (λ (q : Requests). slice_get q.heads n) all.1
                ∙ still_there h.served.heads all.0.heads n a.came.head
                (ap (λ (hs : List Head). slice_get hs n) (r.heads_are ∙ ap (λ (hs : List Head). map (λ (x : Response). x.head) r.responses ++ hs) a.opened_is)
                ∙ next_there (map (λ (x : Response). x.head) r.responses) [] a.came.head n as_many),
            (a.before, a.drawn_are),
            (
              a.admission,
              a.arrived,
              (
                a.value,
                subst (λ (value : Option (List ℕ)). IsValueRead g.L.Link.makes a.came.intake.now a.admission.read a.admission.cookie value) (sym a.value_is)
                    (value_read g.L.Link.makes a.came.intake.now a.admission.read a.admission.cookie a.lease (subst (λ (x : Arrival). IsKnown g.L.Link.makes (read_by a.came.intake.now x) a.lease) a.arrived
                    (known_among (HeardIn course.heard) g.L.Link.makes (called_among g.L.Link.makes course.heard h.served.called) (read_by a.came.intake.now a.came.intake.arrival) a.lease a.known))),
                (
                  a.own_call.text,
                  a.own_call.program,
                  a.own_call.made,
                  (
                    a.facts.front,
                    a.holds,
                    a.end,
                    subst (λ (errand : Errand). EndsWith start history errand (facts_by a.facts.front a.came.head a.came.intake.now a.came.intake.arrival) a.holds a.end h.open_own) a.own_call.errand_is
                        (subst (λ (facts : VisitFacts). EndsWith start history a.errand facts a.holds a.end h.open_own) a.facts_are a.ends),
                  ),
                ),
              ),
            ),
          )),
    )
