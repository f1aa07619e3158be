-- A connection stands with a request that is taken off its bytes, with what is put out, and with an item that is taken.
use Rattle.std.proofs.Common.{◌≡◌, ℕ, ◌<◌, Bool, true, false, if◌then◌else◌, List, [], ◌∷◌, ◌++◌, drop, refl, sym, ap, ◌∙◌, subst, Option, Some, None}
use Rattle.std.proofs.lemmas.Grind.{flat_map-append}
use Rattle.std.proofs.lemmas.List.{append-nil, append_assoc, map-append}
use Rattle.crash_base.specs.declared.numbers.Moment.{Moment}
use Rattle.crash_base.specs.declared.numbers.Place.{Place}
use Rattle.http_wire.specs.Requests.{Ending, Requests, bad, before, body_too_long, closed, ended, no_coding, requests, too_long}
use Rattle.http_wire.specs.Taking.{taken_of}
use Rattle.http_wire.specs.declared.taken.Head.{Head}
use Rattle.http_wire.specs.declared.taken.Taken.{Taken}
use Rattle.http_wire.specs.declared.taken.Taken.TheVariants as took
use Rattle.outcome_items.specs.declared.item.Item.{Item}
use Rattle.outside.specs.declared.clock.TheConstants.{MOMENTS_END}
use Rattle.outside.specs.declared.link.LinkCounts.{LinkCounts}
use Rattle.request_intake.specs.Intakes.{Gives, Looks}
use Rattle.request_intake.specs.declared.intake.Admission.{Admission}
use Rattle.request_intake.specs.declared.intake.Arrival.{Arrival}
use Rattle.request_intake.specs.declared.intake.Arrival.TheVariants.{Refused, SerialsSpent, Admitted}
use Rattle.request_intake.specs.declared.intake.HomeBoot.{HomeBoot}
use Rattle.request_visit.specs.Advancing.{departed}
use Rattle.request_visit.specs.Visits.{turn_by as visit_turn_by}
use Rattle.request_visit.specs.declared.visit.Turn.TheVariants as visit
use Rattle.request_visit.specs.declared.visit.Visit.{Visit}
use Rattle.request_visit.specs.declared.visit.Work.{Work}
use Rattle.request_visit.specs.declared.visit.Work.TheVariants.{Reading, Opening, Serving as ServingBy, Committed, Decided, Answered, Left}
use Rattle.session_cookie.specs.declared.cookie.Cookie.{Cookie}
use Rattle.session_way.specs.Way.{wants}
use Rattle.session_way.specs.declared.way.Wants.{Wants}
use Rattle.session_way.specs.declared.way.Wants.TheVariants as wanted
use Rattle.site_responses.specs.Responses.{last_response}
use Rattle.site_responses.specs.declared.answer.Untaken.{Untaken}
use Rattle.site_responses.specs.declared.answer.Untaken.TheVariants as untaken
use Rattle.shepherd.specs.Shepherds.{turn}
use Rattle.shepherd.specs.Answering.{heads_in}
use Rattle.shepherd.specs.Standing.{IsOpen, IsOpenFor, Served, Standing, all_before, coming, ending_at, has_left, heads_of, is_early, last_front, responses_of}
use Rattle.shepherd.specs.Steps.{Begins, MayPutOut, PutsOut, Refuses, TakesBy, TakesItem, TakesRequest, admitted_visit, begun_by, facts_of, rested}
use Rattle.shepherd.specs.declared.shepherd.AskedCall.{AskedCall}
use Rattle.shepherd.specs.declared.shepherd.Shepherd.{Shepherd}
use Rattle.shepherd.specs.declared.shepherd.ShepherdTurn.TheVariants as turns
use Rattle.shepherd.specs.declared.shepherd.Stage.{Stage}
use Rattle.shepherd.specs.declared.shepherd.Stage.TheVariants.{Resting, Serving, Refusing, Over}
use Rattle.shepherd.proofs.Turning.{asks_output, asks_request, unsent}

-- a request is open at a stage, and nothing was put out for it
record Opens {P : Type 0} (front : Place) (head : Head) (stage : Stage P) : Type 0 where
  visit : Visit P
  call : Option AskedCall
  stage_is : stage ≡ Serving visit call
  is_open : IsOpenFor front visit call (head ∷ []) []
  close : visit.facts.close ≡ head.close

admitted_opens : {P : Type 0} (front : Place) (head : Head) (now : Moment) (counts : LinkCounts) (a : Admission) (cookie : Option Cookie) → now.0 < MOMENTS_END
    → Opens {P = P} front head (admitted_visit (facts_of a now front head) counts a cookie)
admitted_opens front head now counts a None small = record {
  visit = _;
  call = _;
  stage_is = refl;
  is_open = record { head = head; opened_is = refl; close_is = refl; head_only_is = refl; front_is = refl; small = small; sent_is = λ e. refl; asked = λ e. λ n. absurd (cc) };
  close = refl;
}
admitted_opens front head now counts a (Some cookie) small = record {
  visit = _;
  call = _;
  stage_is = refl;
  is_open = record { head = head; opened_is = refl; close_is = refl; head_only_is = refl; front_is = refl; small = small; sent_is = λ e. refl; asked = λ e. λ n. absurd (cc) };
  close = refl;
}

begun_opens : {P : Type 0} (front : Place) (counts : LinkCounts) (head : Head) (now : Moment) (arrival : Arrival) → now.0 < MOMENTS_END → Opens {P = P} front head (begun_by front counts head now arrival)
begun_opens front counts head now (Refused why) small = record {
  visit = _;
  call = _;
  stage_is = refl;
  is_open = record { head = head; opened_is = refl; close_is = refl; head_only_is = refl; front_is = refl; small = small; sent_is = λ e. refl; asked = λ e. absurd (cc) };
  close = refl;
}
begun_opens front counts head now (SerialsSpent request seen) small = record {
  visit = _;
  call = _;
  stage_is = refl;
  is_open = record { head = head; opened_is = refl; close_is = refl; head_only_is = refl; front_is = refl; small = small; sent_is = λ e. refl; asked = λ e. absurd (cc) };
  close = refl;
}
begun_opens front counts head now (Admitted a) small = admitted_opens front head now counts a a.cookie small

-- requests of these heads
abbrev pub with_heads : List Head → Ending → Requests
with_heads heads ending = record { heads = heads; ending = ending }

-- one head more
one_more : (hs opened : List Head) (head : Head) (r : Requests) → opened ≡ [] → all_before (hs ++ opened) (before head r) ≡ all_before (hs ++ head ∷ []) r
one_more hs opened head r none =
    ap (λ (xs : List Head). all_before xs (before head r)) (ap (λ (xs : List Head). hs ++ xs) none ∙ append-nil hs)
    ∙ ap (λ (xs : List Head). with_heads xs r.ending) (sym (append_assoc hs (head ∷ []) r.heads))

-- how the requests of bytes go on behind the first
abbrev Composes : Type 0
Composes = (bytes more : List ℕ) (head : Head) → taken_of bytes ≡ took.Request head → requests (bytes ++ more) ≡ before head (if head.close then ended closed else requests (drop head.len bytes ++ more))

pub composes : ((bytes more : List ℕ) (head : Head) → taken_of bytes ≡ took.Request head → head.close ≡ false → requests (bytes ++ more) ≡ before head (requests (drop head.len bytes ++ more)))
    → ((bytes more : List ℕ) (head : Head) → taken_of bytes ≡ took.Request head → head.close ≡ true → requests (bytes ++ more) ≡ before head (ended closed))
    → (bytes more : List ℕ) (head : Head) → taken_of bytes ≡ took.Request head → requests (bytes ++ more) ≡ before head (if head.close then ended closed else requests (drop head.len bytes ++ more))
composes next last bytes more head is = by head.close refl where
  by : (b : Bool) → head.close ≡ b → requests (bytes ++ more) ≡ before head (if b then ended closed else requests (drop head.len bytes ++ more))
  by true e = last bytes more head is e
  by false e = next bytes more head is e

-- a connection at rest has nothing open
resting_open : {P : Type 0} (fed : List ℕ) (heads : List Head) (written : List ℕ) (items : List Item) (s : Shepherd P) (h : Standing fed heads written items s) → s.stage ≡ Resting → (h.opened ≡ []) × (h.sent ≡ [])
resting_open fed heads written items s h is = subst (λ x. IsOpen s.front x h.opened h.sent) is h.is_open

resting_requests : {P : Type 0} (fed : List ℕ) (heads : List Head) (written : List ℕ) (items : List Item) (s : Shepherd P) (h : Standing fed heads written items s) → s.stage ≡ Resting
    → (more : List ℕ) → requests (fed ++ more) ≡ all_before (heads_of h.served ++ h.opened) (requests (s.received ++ more))
resting_requests fed heads written items s h is more =
    subst (λ x. requests (fed ++ more) ≡ all_before (heads_of h.served ++ h.opened) (coming x (s.received ++ more))) is (h.requests_are more)

began : {P C R S : Type 0} (told : C → ℕ) (gives : Gives R) (looks : Looks S) (key : List ℕ) (home : HomeBoot) (counts : LinkCounts) (head : Head) (fed : List ℕ) (heads : List Head) (written : List ℕ) (items : List Item)
    (s new : Shepherd P) (clock clock_after : C) (random random_after : R) (serials serials_after : S) → Composes → s.stage ≡ Resting → taken_of s.received ≡ took.Request head
    → Begins told gives looks key home counts head s clock random serials new clock_after random_after serials_after → Standing fed heads written items s → Standing fed (heads ++ head ∷ []) written items new
began {P} told gives looks key home counts head fed heads written items s new clock clock_after random random_after serials serials_after compose rest is b h =
    let g : Opens {P = P} s.front head (begun_by s.front counts head b.intake.now b.intake.arrival) = begun_opens s.front counts head b.intake.now b.intake.arrival b.small in
    subst (λ x. Standing fed (heads ++ head ∷ []) written items x) (sym b.new_is)
    (subst (λ x. Standing fed (heads ++ head ∷ []) written items (record s { received = drop head.len s.received; stage = x })) (sym g.stage_is) (record {
      served = h.served;
      opened = head ∷ [];
      sent = [];
      heads_are = ap (λ hs. hs ++ head ∷ []) (h.heads_are ∙ ap (λ hs. heads_of h.served ++ hs) (resting_open fed heads written items s h rest).0 ∙ append-nil (heads_of h.served));
      items_are = h.items_are;
      requests_are = λ more.
          resting_requests fed heads written items s h rest more
          ∙ ap (λ r. all_before (heads_of h.served ++ h.opened) r) (compose s.received more head is)
          ∙ one_more (heads_of h.served) h.opened head (if head.close then ended closed else requests (drop head.len s.received ++ more)) (resting_open fed heads written items s h rest).0
          ∙ ap (λ b. all_before (heads_of h.served ++ head ∷ []) (if b then ended closed else requests (drop head.len s.received ++ more))) (sym g.close);
      written_is = h.written_is ∙ ap (λ bs. responses_of h.served ++ bs) (resting_open fed heads written items s h rest).1;
      is_open = g.is_open;
      front_is = h.front_is;
    }))

refused : {P C R S : Type 0} (why : Untaken) (fed : List ℕ) (heads : List Head) (written : List ℕ) (items : List Item) (s new : Shepherd P) (clock clock_after : C) (random random_after : R) (serials serials_after : S)
    → ((more : List ℕ) → requests (s.received ++ more) ≡ ended (ending_at why)) → s.stage ≡ Resting
    → Refuses why s clock random serials new clock_after random_after serials_after → Standing fed heads written items s → Standing fed (heads ++ []) written items new
refused why fed heads written items s new clock clock_after random random_after serials serials_after ends rest r h =
    subst (λ x. Standing fed (heads ++ []) written items x) (sym r.new_is) (record {
      served = h.served;
      opened = h.opened;
      sent = h.sent;
      heads_are = append-nil heads ∙ h.heads_are;
      items_are = h.items_are;
      requests_are = λ more. resting_requests fed heads written items s h rest more ∙ ap (λ r. all_before (heads_of h.served ++ h.opened) r) (ends more);
      written_is = h.written_is;
      is_open = ((resting_open fed heads written items s h rest).0, (resting_open fed heads written items s h rest).1, refl);
      front_is = h.front_is;
    })

pub takes : {P C R S : Type 0} (told : C → ℕ) (gives : Gives R) (looks : Looks S) (key : List ℕ) (home : HomeBoot) (counts : LinkCounts) (fed : List ℕ) (heads : List Head) (written : List ℕ) (items : List Item)
    (s new : Shepherd P) (clock clock_after : C) (random random_after : R) (serials serials_after : S) → Composes
    → ((bytes more : List ℕ) → taken_of bytes ≡ took.Bad → requests (bytes ++ more) ≡ ended bad)
    → ((bytes more : List ℕ) (len lines : ℕ) → taken_of bytes ≡ took.TooLong len lines → requests (bytes ++ more) ≡ ended too_long)
    → ((bytes more : List ℕ) → taken_of bytes ≡ took.NoCoding → requests (bytes ++ more) ≡ ended no_coding)
    → ((bytes more : List ℕ) (said : ℕ) → taken_of bytes ≡ took.BodyTooLong said → requests (bytes ++ more) ≡ ended body_too_long)
    → turn s ≡ turns.Request → TakesRequest told gives looks key home counts s clock random serials new clock_after random_after serials_after
    → Standing fed heads written items s → Standing fed (heads ++ heads_in (taken_of s.received)) written items new
takes told gives looks key home counts fed heads written items s new clock clock_after random random_after serials serials_after compose as_bad as_long as_coded as_big turned t h =
    let rest = (asks_request s turned).0 in by rest (taken_of s.received) refl t where
      by : s.stage ≡ Resting → (x : Taken) → taken_of s.received ≡ x → TakesBy told gives looks key home counts x s clock random serials new clock_after random_after serials_after → Standing fed (heads ++ heads_in x) written items new
      by rest (took.Request head) is b = began told gives looks key home counts head fed heads written items s new clock clock_after random random_after serials serials_after compose rest is b h
      by rest took.Bad is r = refused untaken.Bad fed heads written items s new clock clock_after random random_after serials serials_after (λ more. as_bad s.received more is) rest r h
      by rest (took.TooLong len lines) is r = refused untaken.TooLong fed heads written items s new clock clock_after random random_after serials serials_after (λ more. as_long s.received more len lines is) rest r h
      by rest took.NoCoding is r = refused untaken.NoCoding fed heads written items s new clock clock_after random random_after serials serials_after (λ more. as_coded s.received more is) rest r h
      by rest (took.BodyTooLong said) is r = refused untaken.BodyTooLong fed heads written items s new clock clock_after random random_after serials serials_after (λ more. as_big s.received more said is) rest r h
      by rest took.More is r = absurd r

-- the response of a request that is to leave then has left
pub then_left : {P : Type 0} (w : Work P) (want : Wants) → visit_turn_by w want ≡ visit.Output → has_left (departed w) ≡ true
then_left Reading wanted.Nothing is = absurd (cc)
then_left Reading wanted.Outside is = absurd (cc)
then_left Reading wanted.Windows is = absurd (cc)
then_left Opening want is = absurd (cc)
then_left (ServingBy tries program) want is = absurd (cc)
then_left (Committed place again shown) wanted.Nothing is = absurd (cc)
then_left (Committed place again shown) wanted.Outside is = absurd (cc)
then_left (Committed place again shown) wanted.Windows is = absurd (cc)
then_left (Decided became) want is = absurd (cc)
then_left (Answered fate bytes) want is = refl
then_left (Left fate) want is = refl

pub still_early : {P : Type 0} (w : Work P) → is_early (departed w) ≡ is_early w
still_early Reading = refl
still_early Opening = refl
still_early (ServingBy tries program) = refl
still_early (Committed place again shown) = refl
still_early (Decided became) = refl
still_early (Answered fate bytes) = refl
still_early (Left fate) = refl

-- what was put out, with more, where nothing was behind the last response to an item
with_bytes : (written bytes : List ℕ) (served : List Served) (sent : List ℕ) → written ≡ responses_of served ++ sent → sent ≡ [] → written ++ bytes ≡ responses_of served ++ bytes
with_bytes written bytes served sent is none =
    ap (λ xs. xs ++ bytes) (is ∙ ap (λ xs. responses_of served ++ xs) none ∙ append-nil (responses_of served))

pub puts_out : {P : Type 0} (fed : List ℕ) (heads : List Head) (written bytes : List ℕ) (items : List Item) (s : Shepherd P) (stage : Stage P) → turn s ≡ turns.Output → PutsOut s.stage bytes stage
    → Standing fed heads written items s → Standing fed heads (written ++ bytes) items (record s { stage = stage })
puts_out {P} fed heads written bytes items s stage turned out h = by s.stage refl (asks_output s turned) out where
  by : (x : Stage P) → s.stage ≡ x → MayPutOut x → PutsOut x bytes stage → Standing fed heads (written ++ bytes) items (record s { stage = stage })
  by Resting was may out = absurd may
  by (Serving v call) was may out =
      let o : IsOpenFor s.front v call h.opened h.sent = subst (λ x. IsOpen s.front x h.opened h.sent) was h.is_open in
      subst (λ x. Standing fed heads (written ++ bytes) items (record s { stage = x })) (sym out.1) (record {
        served = h.served;
        opened = h.opened;
        sent = bytes;
        heads_are = h.heads_are;
        items_are = h.items_are;
        requests_are = λ more. subst (λ x. requests (fed ++ more) ≡ all_before (heads_of h.served ++ h.opened) (coming x (s.received ++ more))) was (h.requests_are more);
        written_is = with_bytes written bytes h.served h.sent h.written_is (o.sent_is (unsent v.work (wants v.way) may));
        is_open = record {
          head = o.head;
          opened_is = o.opened_is;
          close_is = o.close_is;
          head_only_is = o.head_only_is;
          front_is = o.front_is;
          small = o.small;
          sent_is = λ e. absurd (let left = then_left v.work (wants v.way) may in cc);
          asked = λ e. o.asked (sym (still_early v.work) ∙ e);
        };
        front_is = h.front_is;
      })
  by (Refusing why last) was may out =
      let o : (h.opened ≡ []) × (h.sent ≡ []) × (last ≡ last_response why) = subst (λ x. IsOpen s.front x h.opened h.sent) was h.is_open in
      subst (λ x. Standing fed heads (written ++ bytes) items (record s { stage = x })) (sym out.1) (record {
        served = h.served;
        opened = h.opened;
        sent = bytes;
        heads_are = h.heads_are;
        items_are = h.items_are;
        requests_are = λ more. subst (λ x. requests (fed ++ more) ≡ all_before (heads_of h.served ++ h.opened) (coming x (s.received ++ more))) was (h.requests_are more);
        written_is = with_bytes written bytes h.served h.sent h.written_is o.1;
        is_open = (o.0, out.0 ∙ o.2);
        front_is = h.front_is;
      })
  by (Over end) was may out = absurd may

last_more : (front : Place) (items : List Item) (i : Item) → last_front front (items ++ i ∷ []) ≡ i.holds.front
last_more front [] i = refl
last_more front (x ∷ items) i = last_more x.holds.front items i

coming_behind : (P : Type 0) (b : Bool) (bytes : List ℕ) → coming (rested {P = P} b) bytes ≡ (if b then ended closed else requests bytes)
coming_behind P true bytes = refl
coming_behind P false bytes = refl

nothing_open : (P : Type 0) (front : Place) (b : Bool) → IsOpen front (rested {P = P} b) [] []
nothing_open P front true = (refl, refl)
nothing_open P front false = (refl, refl)

pub takes_item : {P : Type 0} (fed : List ℕ) (heads : List Head) (written : List ℕ) (items : List Item) (i : Item) (s : Shepherd P) (stage : Stage P) → TakesItem s.stage i stage
    → Standing fed heads written items s → Standing fed heads written (items ++ i ∷ []) (record s { front = i.holds.front; stage = stage })
takes_item {P} fed heads written items i s stage takes h = by s.stage refl takes where
  by : (x : Stage P) → s.stage ≡ x → TakesItem x i stage → Standing fed heads written (items ++ i ∷ []) (record s { front = i.holds.front; stage = stage })
  by Resting was t = absurd t
  by (Serving v call) was t =
      let o : IsOpenFor s.front v call h.opened h.sent = subst (λ x. IsOpen s.front x h.opened h.sent) was h.is_open in
      let one : Served = record { head = o.head; item = i; response = h.sent } in
      let joined : heads_of h.served ++ h.opened ≡ heads_of (h.served ++ one ∷ []) ++ [] =
      ap (λ hs. heads_of h.served ++ hs) o.opened_is ∙ sym (map-append (λ (x : Served). x.head) h.served (one ∷ [])) ∙ sym (append-nil (heads_of (h.served ++ one ∷ []))) in
      subst (λ x. Standing fed heads written (items ++ i ∷ []) (record s { front = i.holds.front; stage = x })) (sym t.1) (record {
        served = h.served ++ one ∷ [];
        opened = [];
        sent = [];
        heads_are = h.heads_are ∙ joined;
        items_are = ap (λ xs. xs ++ i ∷ []) h.items_are ∙ sym (map-append (λ (x : Served). x.item) h.served (one ∷ []));
        requests_are = λ more.
            subst (λ x. requests (fed ++ more) ≡ all_before (heads_of h.served ++ h.opened) (coming x (s.received ++ more))) was (h.requests_are more)
            ∙ ap (λ hs. all_before hs (if v.facts.close then ended closed else requests (s.received ++ more))) joined
            ∙ ap (λ r. all_before (heads_of (h.served ++ one ∷ []) ++ []) r) (sym (coming_behind P v.facts.close (s.received ++ more)));
        written_is = h.written_is ∙ ap (λ xs. responses_of h.served ++ xs) (sym (append-nil h.sent)) ∙ sym (flat_map-append (λ (x : Served). x.response) h.served (one ∷ [])) ∙ sym (append-nil (responses_of (h.served ++ one ∷ [])));
        is_open = nothing_open P i.holds.front v.facts.close;
        front_is = sym (last_more (record { 0 = 0 }) items i);
      })
  by (Refusing why last) was t = absurd t
  by (Over end) was t = absurd t
