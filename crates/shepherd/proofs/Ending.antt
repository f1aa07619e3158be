-- What a connection's items are for, at any time and at its end.
use Rattle.std.proofs.Common.{◌≡◌, ◌≢◌, ℕ, ◌<◌, ◌^◌, ◌==◌, Bool, true, false, if◌then◌else◌, List, [], ◌++◌, length, refl, sym, ap, ◌∙◌, subst, Option, Some, None}
use Rattle.std.proofs.lemmas.List.{append-nil, append_assoc}
use Rattle.http_wire.specs.Requests.{closed, cut, ended, requests}
use Rattle.http_wire.specs.Taking.{settles, taken_of}
use Rattle.http_wire.specs.declared.taken.Head.{Head}
use Rattle.http_wire.specs.declared.taken.Taken.{Taken}
use Rattle.http_wire.specs.declared.taken.Taken.TheVariants as took
use Rattle.outcome_items.specs.declared.item.Item.{Item}
use Rattle.request_visit.specs.Visits.{turn as visit_turn}
use Rattle.request_visit.specs.declared.visit.Turn.{Turn}
use Rattle.request_visit.specs.declared.visit.Turn.TheVariants as visit
use Rattle.request_visit.specs.declared.visit.Visit.{Visit}
use Rattle.session_way.specs.Way.{wants}
use Rattle.site_responses.specs.Responses.{last_response}
use Rattle.site_responses.specs.declared.answer.Untaken.{Untaken}
use Rattle.shepherd.specs.Shepherds.{has_item, is_over, stage_turn, turn, turn_by}
use Rattle.shepherd.specs.Standing.{HasServedAll, HasServedFirst, IsOpen, IsOpenFor, Served, Standing, all_before, coming, ending_of, heads_of, items_of, last_of, responses_of}
use Rattle.shepherd.specs.Steps.{OnVisit}
use Rattle.shepherd.specs.declared.shepherd.AskedCall.{AskedCall}
use Rattle.shepherd.specs.declared.shepherd.EndKind.{EndKind}
use Rattle.shepherd.specs.declared.shepherd.EndKind.TheVariants as ends
use Rattle.shepherd.specs.declared.shepherd.Shepherd.{Shepherd}
use Rattle.shepherd.specs.declared.shepherd.ShepherdTurn.{ShepherdTurn}
use Rattle.shepherd.specs.declared.shepherd.ShepherdTurn.TheVariants as turns
use Rattle.shepherd.specs.declared.shepherd.Stage.{Stage}
use Rattle.shepherd.specs.declared.shepherd.Stage.TheVariants.{Resting, Serving, Refusing, Over}
use Rattle.shepherd.proofs.Requests.{with_heads}
use Rattle.shepherd.proofs.Turning.{asks_visit, early, step_of}

pub serves_first : {P : Type 0} (fed more : List ℕ) (heads : List Head) (written : List ℕ) (items : List Item) (s : Shepherd P) → Standing fed heads written items s → HasServedFirst fed written items more
serves_first fed more heads written items s h = record {
  served = h.served;
  behind = h.opened ++ (coming s.stage (s.received ++ more)).heads;
  last = h.sent;
  items_are = h.items_are;
  requests_are = ap (λ r. r.heads) (h.requests_are more) ∙ append_assoc (heads_of h.served) h.opened (coming s.stage (s.received ++ more)).heads;
  written_is = h.written_is;
}

-- how a turn says that the connection has ended
abbrev end_in : ShepherdTurn → Option EndKind
end_in turns.Bytes = None
end_in turns.Request = None
end_in turns.Outside = None
end_in turns.Windows = None
end_in turns.Inside = None
end_in turns.Program = None
end_in turns.Own = None
end_in turns.Output = None
end_in turns.Item = None
end_in (turns.Ended end) = Some end

no_end : (t : Turn) → end_in (turn_by t) ≡ None
no_end visit.Outside = refl
no_end visit.Windows = refl
no_end visit.Inside = refl
no_end visit.Program = refl
no_end visit.Own = refl
no_end visit.Output = refl
no_end visit.Over = refl

unsettled : (t : Taken) → settles t ≡ false → t ≡ took.More
unsettled (took.Request head) is = absurd (cc)
unsettled took.Bad is = absurd (cc)
unsettled (took.TooLong len lines) is = absurd (cc)
unsettled took.NoCoding is = absurd (cc)
unsettled (took.BodyTooLong said) is = absurd (cc)
unsettled took.More is = refl

-- the end of a connection at rest, by whether its bytes are settled, have ended and are empty
rest_end : (a b c : Bool) (end : EndKind) → end_in (if a then turns.Request else (if b then (if c then turns.Ended ends.Closed else turns.Ended ends.Cut) else turns.Bytes)) ≡ Some end
    → (a ≡ false) × (ending_of end ≡ (if c then closed else cut)) × (last_of end ≡ [])
rest_end true b c end is = absurd (cc)
rest_end false true true end is = let e : end ≡ ends.Closed = cc in (refl, ap ending_of e, ap last_of e)
rest_end false true false end is = let e : end ≡ ends.Cut = cc in (refl, ap ending_of e, ap last_of e)
rest_end false false c end is = absurd (cc)

pub serves_all : {P : Type 0} (fed : List ℕ) (heads : List Head) (written : List ℕ) (items : List Item) (s : Shepherd P) (end : EndKind)
    → ((bytes : List ℕ) → taken_of bytes ≡ took.More → requests bytes ≡ ended (if length bytes == 0 then closed else cut))
    → turn s ≡ turns.Ended end → end ≢ ends.OutOfMemory → Standing fed heads written items s → HasServedAll fed written items end
serves_all {P} fed heads written items s end rest turned memory h = by_memory s.wants_memory (ap end_in turned) where
  all : h.opened ≡ [] → h.sent ≡ last_of end → coming s.stage s.received ≡ ended (ending_of end) → HasServedAll fed written items end
  all none sent ends = record {
    served = h.served;
    items_are = h.items_are;
    requests_are =
        ap requests (sym (append-nil fed)) ∙ h.requests_are []
        ∙ ap (λ r. all_before (heads_of h.served ++ h.opened) r) (ap (λ bs. coming s.stage bs) (append-nil s.received) ∙ ends)
        ∙ ap (λ hs. with_heads hs (ending_of end))
        (append-nil (heads_of h.served ++ h.opened) ∙ ap (λ hs. heads_of h.served ++ hs) none ∙ append-nil (heads_of h.served));
    written_is = h.written_is ∙ ap (λ bs. responses_of h.served ++ bs) sent;
  }

  by_stage : (x : Stage P) → s.stage ≡ x → end_in (stage_turn x s.received s.ended) ≡ Some end → HasServedAll fed written items end
  by_stage Resting was e =
      let o : (h.opened ≡ []) × (h.sent ≡ []) = subst (λ x. IsOpen s.front x h.opened h.sent) was h.is_open in
      let found = rest_end (settles (taken_of s.received)) s.ended (length s.received == 0) end e in
      all o.0 (o.1 ∙ sym found.2) (ap (λ x. coming x s.received) was ∙ rest s.received (unsettled (taken_of s.received) found.0) ∙ ap ended (sym found.1))
  by_stage (Serving v call) was e = absurd (let none = no_end (visit_turn v) in cc)
  by_stage (Refusing why last) was e = absurd (cc)
  by_stage (Over over) was e =
      let same : over ≡ end = cc in
      let o : (h.opened ≡ []) × (h.sent ≡ last_of over) = subst (λ x. IsOpen s.front x h.opened h.sent) was h.is_open in
      all o.0 (o.1 ∙ ap last_of same) (ap (λ x. coming x s.received) was ∙ ap (λ x. ended (ending_of x)) same)

  by_memory : (m : Bool) → end_in (if m then turns.Ended ends.OutOfMemory else stage_turn s.stage s.received s.ended) ≡ Some end → HasServedAll fed written items end
  by_memory true e = absurd (memory (cc))
  by_memory false e = by_stage s.stage refl e

-- what is so of each request that is open is so of the one whose step is next
open_is : {P : Type 0} (So : Visit P → Option AskedCall → Type 0) (fed : List ℕ) (heads : List Head) (written : List ℕ) (items : List Item) (s : Shepherd P) (wanted : Turn) → step_of (turn s) ≡ Some wanted
    → ((front : Rattle.crash_base.specs.declared.numbers.Place.Place) (v : Visit P) (call : Option AskedCall) (opened : List Rattle.http_wire.specs.declared.taken.Head.Head) (sent : List ℕ)
    → visit_turn v ≡ wanted → IsOpenFor front v call opened sent → So v call)
    → Standing fed heads written items s → OnVisit s.stage So
open_is {P} So fed heads written items s wanted is shows h = by s.stage refl (asks_visit s wanted is) where
  by : (x : Stage P) → s.stage ≡ x → OnVisit x (λ v call. visit_turn v ≡ wanted) → OnVisit x So
  by Resting was turned = absurd turned
  by (Serving v call) was turned = shows s.front v call h.opened h.sent turned (subst (λ x. IsOpen s.front x h.opened h.sent) was h.is_open)
  by (Refusing why last) was turned = absurd turned
  by (Over end) was turned = absurd turned

pub has_call : {P : Type 0} (fed : List ℕ) (heads : List Head) (written : List ℕ) (items : List Item) (s : Shepherd P) → turn s ≡ turns.Program → Standing fed heads written items s → OnVisit s.stage (λ v call. call ≢ None)
has_call fed heads written items s is h =
    open_is (λ v call. call ≢ None) fed heads written items s visit.Program (ap step_of is) (λ front v call opened sent turned o. o.asked (early v.work (wants v.way) turned)) h

pub has_moment : {P : Type 0} (fed : List ℕ) (heads : List Head) (written : List ℕ) (items : List Item) (s : Shepherd P) → turn s ≡ turns.Inside → Standing fed heads written items s → OnVisit s.stage (λ v call. v.facts.now.0 < 2 ^ 62)
has_moment fed heads written items s is h =
    open_is (λ v call. v.facts.now.0 < 2 ^ 62) fed heads written items s visit.Inside (ap step_of is) (λ front v call opened sent turned o. o.small) h

-- nothing is left to be done where the item is next
pub item_next : {P : Type 0} (s : Shepherd P) → turn s ≡ turns.Item → has_item s.stage ≡ true
item_next {P} s is = by s.stage (asks_visit s visit.Over (ap step_of is)) where
  by : (x : Stage P) → OnVisit x (λ v call. visit_turn v ≡ visit.Over) → has_item x ≡ true
  by Resting turned = absurd turned
  by (Serving v call) turned = ap is_over turned
  by (Refusing why last) turned = absurd turned
  by (Over end) turned = absurd turned

-- the requests of all bytes begin with those that were taken
pub takes_first : {P : Type 0} (fed more : List ℕ) (heads : List Head) (written : List ℕ) (items : List Item) (s : Shepherd P) → Standing fed heads written items s
    → requests (fed ++ more) ≡ all_before heads (coming s.stage (s.received ++ more))
takes_first fed more heads written items s h = h.requests_are more ∙ ap (λ hs. all_before hs (coming s.stage (s.received ++ more))) (sym h.heads_are)

pub last_leaves : {P : Type 0} (fed : List ℕ) (heads : List Head) (written : List ℕ) (items : List Item) (s : Shepherd P) (why : Untaken) → s.stage ≡ Over (ends.Refused why) → Standing fed heads written items s
    → (served : List Served) × (items ≡ items_of served) × (written ≡ responses_of served ++ last_response why)
last_leaves fed heads written items s why over h =
    let ended_so = subst (λ x. IsOpen s.front x h.opened h.sent) over h.is_open in
    (h.served, h.items_are, h.written_is ∙ ap (λ xs. responses_of h.served ++ xs) ended_so.1)
