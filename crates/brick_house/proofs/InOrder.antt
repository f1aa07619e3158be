-- What one event of a link, and then several, make of the replies that wait.
use Rattle.std.proofs.Common.{◌≡◌, ◌∙◌, ap, sym, refl, subst, inl, inr, ◌⊎◌, ℕ, zero, suc, ◌-◌, ◌==◌, nat_lt, drop, replicate, Bool, true, false, if◌then◌else◌, List, [], ◌∷◌, ◌++◌, length, All, Option, Some, None, IsSome, append_assoc, append-nil}
use Rattle.std.specs.List.{slice_get, flat_map, AllZip}
use Rattle.std.specs.Option.{option_map, option_map_or, option_and_then}
use Rattle.std.proofs.lemmas.Bool.{cases_eq, eqb-true, eq-eqb}
use Rattle.std.proofs.lemmas.List.Elements.{All-append, All-nil, All-cons, All-head, All-tail, All-same}
use Rattle.crash_base.specs.declared.numbers.BrickNo.{BrickNo}
use Rattle.crash_base.specs.declared.numbers.Version.{Version}
use Rattle.ssm_frames.specs.declared.frame.Frame.{Frame}
use Rattle.ssm_frames.specs.declared.frame.Frame.TheVariants.{Put, Get, Sweep, Stored, Found, Absent, BrickFull, Swept}
use Rattle.ssm_frames.specs.Reading.{decode_of}
use Rattle.ssm_frames.specs.Requests.{is_request}
use Rattle.brick_store.specs.declared.kept.Kept.{Kept}
use Rattle.brick_store.specs.Bricks.{BrickValue, put_value, put_reply, get_reply, reply}
use Rattle.brick_store.specs.Kept.{kept_under, bytes_of, is_full}
use Rattle.outside.specs.declared.link.LinkEvent.{LinkEvent}
use Rattle.outside.specs.declared.link.LinkEvent.TheVariants.{Sends, SendsInSilence, Gets, HearsSilence, WantsToSend, WantsToReceive}
use Rattle.outside.specs.Faults.{counted}
use Rattle.outside.specs.Link.{Made}
use Rattle.link_lanes.specs.Lanes.{LanesValue, lane_of, on_lane, more_unknown, hushed_with, IsFirst}
use Rattle.link_lanes.specs.Tallies.{own_lane, other_lane}
use Rattle.brick_house.specs.Houses.{HouseValue, HouseSeatsValue, IsBrickOf, IsReplyOf}
use Rattle.brick_house.specs.HouseLinks.{HouseLinkValue, LaneValue, HouseMakes, empty_lane, new_link, with_reply, asked, given, silent, with_bricks, Gives, IsQuiet}
use Rattle.brick_house.specs.InOrder.{Bears, BearsBrick, request_if, request_to, frame_from, IsDecodedTo, ComeInOrder, waiting, AllBear}

eqb-different : (a b : ℕ) → (a ≡ b → ⊥) → (a == b) ≡ false
eqb-different a b differ = go (a == b) refl where
  go : (yes : Bool) → (a == b) ≡ yes → (a == b) ≡ false
  go true e = absurd (differ (eqb-true a b e))
  go false e = e

abbrev queue_of : Option LaneValue → List Frame
queue_of found = option_map_or (λ (lane : LaneValue). lane.queue) found []

abbrev waits : LanesValue LaneValue → ℕ → List Frame
waits link brick = queue_of (lane_of link brick)

-- a brick replies to a frame just where it is a request
pub replied_or_none : (b : BrickValue) (frame : Frame) → ((is_request frame ≡ true) × ((answer : Frame) × (reply b frame ≡ Some answer))) ⊎ ((is_request frame ≡ false) × (reply b frame ≡ None))
replied_or_none b (Put nonce key version expiry value) = inl (refl, (put_reply b nonce (put_value key version expiry value), refl))
replied_or_none b (Get nonce key version) = inl (refl, (get_reply b.number b.incarnation b.swept nonce key version (kept_under key version b.kept), refl))
replied_or_none b (Sweep nonce moment) = inl (refl, (Swept nonce b.number b.incarnation moment, refl))
replied_or_none b (Stored nonce key version brick incarnation) = inr (refl, refl)
replied_or_none b (Found nonce key version brick incarnation expiry value) = inr (refl, refl)
replied_or_none b (Absent nonce key version brick incarnation swept) = inr (refl, refl)
replied_or_none b (BrickFull nonce key version brick incarnation entries bytes) = inr (refl, refl)
replied_or_none b (Swept nonce brick incarnation moment) = inr (refl, refl)

-- a reply bears the brick's number and incarnation
put_bears : (b : BrickValue) (nonce : Version) (s : Kept) (full : Bool) → Bears b.number b.incarnation (if full then BrickFull nonce s.key s.version b.number b.incarnation (length b.kept) (bytes_of b.kept) else Stored nonce s.key s.version b.number b.incarnation)
put_bears b nonce s true = (refl, refl)
put_bears b nonce s false = (refl, refl)

pub reply_bears : (b : BrickValue) (frame answer : Frame) → reply b frame ≡ Some answer → Bears b.number b.incarnation answer
reply_bears b (Put nonce key version expiry value) answer is =
    let s = put_value key version expiry value in
    let e : put_reply b nonce s ≡ answer = cc in
    subst (Bears b.number b.incarnation) e (put_bears b nonce s (is_full b.kept s))
reply_bears b (Get nonce key version) answer is = go (kept_under key version b.kept) is where
  go : (found : Option Kept) → Some (get_reply b.number b.incarnation b.swept nonce key version found) ≡ Some answer → Bears b.number b.incarnation answer
  go None e = (let f : get_reply b.number b.incarnation b.swept nonce key version None ≡ answer = cc in subst (Bears b.number b.incarnation) f (refl, refl))
  go (Some s) e = (let f : get_reply b.number b.incarnation b.swept nonce key version (Some s) ≡ answer = cc in subst (Bears b.number b.incarnation) f (refl, refl))
reply_bears b (Sweep nonce moment) answer is = (let e : Swept nonce b.number b.incarnation moment ≡ answer = cc in subst (Bears b.number b.incarnation) e (refl, refl))
reply_bears b (Stored nonce key version brick incarnation) answer is = absurd cc
reply_bears b (Found nonce key version brick incarnation expiry value) answer is = absurd cc
reply_bears b (Absent nonce key version brick incarnation swept) answer is = absurd cc
reply_bears b (BrickFull nonce key version brick incarnation entries bytes) answer is = absurd cc
reply_bears b (Swept nonce brick incarnation moment) answer is = absurd cc

house_bears : (house : HouseValue) (brick : BrickNo) (request answer : Frame) → IsReplyOf house brick request answer → Bears brick house.incarnation answer
house_bears house brick request answer (b, of, is) =
    (let P : BrickNo → Type 0 = λ n. Bears n house.incarnation answer in subst P of.number_is
    (let Q : ℕ → Type 0 = λ n. Bears b.number n answer in subst Q of.incarnation_is (reply_bears b request answer is)))

all_bear : (house : HouseValue) (brick : BrickNo) (requests answers : List Frame) → AllZip (IsReplyOf house brick) requests answers → All (Bears brick house.incarnation) answers
all_bear house brick [] [] h = All-nil (Bears brick house.incarnation)
all_bear house brick [] (answer ∷ answers) h = absurd h
all_bear house brick (request ∷ requests) [] h = absurd h
all_bear house brick (request ∷ requests) (answer ∷ answers) h = All-cons (Bears brick house.incarnation) answer answers (house_bears house brick request answer h.0) (all_bear house brick requests answers h.1)

zip_on : {A B : Type 0} (R : A → B → Type 0) (xs : List A) (ys : List B) (more : List A) (others : List B) → AllZip R xs ys → AllZip R more others → AllZip R (xs ++ more) (ys ++ others)
zip_on R [] [] more others h k = k
zip_on R [] (y ∷ ys) more others h k = absurd h
zip_on R (x ∷ xs) [] more others h k = absurd h
zip_on R (x ∷ xs) (y ∷ ys) more others h k = (h.0, zip_on R xs ys more others h.1 k)

-- what one event makes of the replies that wait for a brick
record Turn (old : HouseLinkValue) (brick : BrickNo) (event : LinkEvent) (new : HouseLinkValue) : Type 0 where
  answers : List Frame
  came : List Frame
  are_replies : AllZip (IsReplyOf old.seats.house brick) (request_to brick.0 event) answers
  are_spelled : AllZip IsDecodedTo (frame_from brick.0 event) came
  in_order : waiting old brick.0 ++ answers ≡ came ++ waiting new brick.0

-- an event that is no request to the brick and gives no frame of it, and leaves what waits for it
still : (old : HouseLinkValue) (brick : BrickNo) (event : LinkEvent) (new : HouseLinkValue) → request_to brick.0 event ≡ [] → frame_from brick.0 event ≡ [] → waiting new brick.0 ≡ waiting old brick.0 → Turn old brick event new
still old brick event new no_request no_frame same = record {
  answers = [];
  came = [];
  are_replies = (let P : List Frame → Type 0 = λ xs. AllZip (IsReplyOf old.seats.house brick) xs [] in subst P (sym no_request) tt);
  are_spelled = (let P : List (List ℕ) → Type 0 = λ xs. AllZip IsDecodedTo xs [] in subst P (sym no_frame) tt);
  in_order = append-nil (waiting old brick.0) ∙ sym same;
}

-- what waits for other bricks stays
waits_beside : (link : LanesValue LaneValue) (to : BrickNo) (change : LaneValue → LaneValue) (brick : ℕ) → (to.0 ≡ brick → ⊥) → waits (on_lane to change link) brick ≡ waits link brick
waits_beside link to change brick differ = ap queue_of (other_lane link to change brick differ)

-- what waits for a brick whose lane changed
waits_here : (link : LanesValue LaneValue) (to : BrickNo) (change : LaneValue → LaneValue) → waits (on_lane to change link) to.0 ≡ queue_of (option_map change (lane_of link to.0))
waits_here link to change = ap queue_of (own_lane link to change)

-- what waits stays where no queue of the lane changes
waits_on : (link : LanesValue LaneValue) (to : BrickNo) (change : LaneValue → LaneValue) (brick : ℕ) → ((lane : LaneValue) → (change lane).queue ≡ lane.queue) → waits (on_lane to change link) brick ≡ waits link brick
waits_on link to change brick keeps = elim (cases_eq to.0 brick) [
  | inl is ↦ (let P : ℕ → Type 0 = λ n. waits (on_lane to change link) n ≡ waits link n in subst P is (waits_here link to change ∙ kept (lane_of link to.0)))
  | inr differ ↦ waits_beside link to change brick differ
]
  where
    kept : (found : Option LaneValue) → queue_of (option_map change found) ≡ queue_of found
    kept None = refl
    kept (Some lane) = keeps lane

-- a count of silences has nothing to do with what waits
waits_silent : (old : LanesValue LaneValue) (to : BrickNo) (brick : ℕ) → waits (hushed_with silent to old) brick ≡ waits old brick
waits_silent old to brick = go (lane_of old to.0) ∙ waits_on (record old { hushed = counted old.hushed }) to silent brick (λ lane. refl) where
  go : (found : Option LaneValue) → waits (more_unknown found (on_lane to silent (record old { hushed = counted old.hushed }))) brick ≡ waits (on_lane to silent (record old { hushed = counted old.hushed })) brick
  go None = refl
  go (Some lane) = refl

-- bytes that came to a brick of the house, by what they spell
asked_here : (house : HouseValue) (brick : BrickNo) (b : BrickValue) (lane : LaneValue) (found : Option Frame) → IsBrickOf house brick b
    → (answers : List Frame) × AllZip (IsReplyOf house brick) (request_if found) answers × (lane.queue ++ answers ≡ (with_reply (option_and_then (reply b) found) lane).queue)
asked_here house brick b lane None of = ([], tt, append-nil lane.queue)
asked_here house brick b lane (Some frame) of = elim (replied_or_none b frame) [
  | inl (is, (answer, so)) ↦ (
    answer ∷ [],
    (let P : Bool → Type 0 = λ yes. AllZip (IsReplyOf house brick) (if yes then frame ∷ [] else []) (answer ∷ []) in subst P (sym is) ((b, of, so), tt)),
    ap (λ found. (with_reply found lane).queue) (sym so),
  )
  | inr (is, so) ↦ (
    [],
    (let P : Bool → Type 0 = λ yes. AllZip (IsReplyOf house brick) (if yes then frame ∷ [] else []) [] in subst P (sym is) tt),
    append-nil lane.queue ∙ ap (λ found. (with_reply found lane).queue) (sym so),
  )
]

sends_turn : (old new : HouseLinkValue) (to : BrickNo) (frame : List ℕ) (brick : BrickNo) → HouseMakes old (Sends to frame) new → Turn old brick (Sends to frame) new
sends_turn old new to frame brick (there, (b, of, is)) = elim (cases_eq to.0 brick.0) [
  | inl same ↦ (let e : to ≡ brick = ap (λ n. record { 0 = n }) same in
      let P : BrickNo → Type 0 = λ n. Turn old n (Sends to frame) new in subst P e (here (lane_of old.bricks to.0) refl there))
  | inr differ ↦ still old brick (Sends to frame) new
      (ap (λ yes. if yes then request_if (decode_of frame) else []) (eqb-different to.0 brick.0 differ))
      refl
      (ap (λ l. waiting l brick.0) is ∙ waits_beside old.bricks to (asked b frame) brick.0 differ)
]
  where
    here : (found : Option LaneValue) → lane_of old.bricks to.0 ≡ found → IsSome found → Turn old to (Sends to frame) new
    here None at some = absurd cc
    here (Some lane) at some =
        let got = asked_here old.seats.house to b lane (decode_of frame) of in
        let self : (to.0 == to.0) ≡ true = eq-eqb to.0 to.0 refl in
        record {
          answers = got.0;
          came = [];
          are_replies = (let P : Bool → Type 0 = λ yes. AllZip (IsReplyOf old.seats.house to) (if yes then request_if (decode_of frame) else []) got.0 in subst P (sym self) got.1);
          are_spelled = tt;
          in_order = ap (λ o. queue_of o ++ got.0) at ∙ (got.2 ∙ (ap (λ o. queue_of (option_map (asked b frame) o)) (sym at) ∙ (sym (waits_here old.bricks to (asked b frame)) ∙ ap (λ l. waiting l to.0) (sym is))));
        }

gets_turn : (old new : HouseLinkValue) (from : BrickNo) (frame : List ℕ) (brick : BrickNo) → HouseMakes old (Gets from frame) new → Turn old brick (Gets from frame) new
gets_turn old new from frame brick (gives, fits, is) = elim (cases_eq from.0 brick.0) [
  | inl same ↦ (let e : from ≡ brick = ap (λ n. record { 0 = n }) same in
      let P : BrickNo → Type 0 = λ n. Turn old n (Gets from frame) new in subst P e (here (lane_of old.bricks from.0) refl gives))
  | inr differ ↦ still old brick (Gets from frame) new
      refl
      (ap (λ yes. if yes then frame ∷ [] else []) (eqb-different from.0 brick.0 differ))
      (ap (λ l. waiting l brick.0) is ∙ waits_beside before from given brick.0 differ)
]
  where
    before : LanesValue LaneValue
    before = record (old.bricks) { got = counted old.bricks.got }

    taken : (lane : LaneValue) (queue : List Frame) → lane.queue ≡ queue → IsFirst frame queue → lane_of old.bricks from.0 ≡ Some lane → Turn old from (Gets from frame) new
    taken lane [] q first at = absurd first
    taken lane (answer ∷ rest) q first at =
        let self : (from.0 == from.0) ≡ true = eq-eqb from.0 from.0 refl in
        record {
          answers = [];
          came = answer ∷ [];
          are_replies = tt;
          are_spelled = (let P : Bool → Type 0 = λ yes. AllZip IsDecodedTo (if yes then frame ∷ [] else []) (answer ∷ []) in subst P (sym self) (first.1, tt));
          in_order = append-nil (waiting old from.0) ∙ (ap queue_of at ∙ (q ∙ ap (λ xs. answer ∷ xs) (ap (drop 1) (sym q) ∙ (ap (λ o. queue_of (option_map given o)) (sym at) ∙ (sym (waits_here before from given) ∙ ap (λ l. waiting l from.0) (sym is))))));
        }

    here : (found : Option LaneValue) → lane_of old.bricks from.0 ≡ found → Gives frame found → Turn old from (Gets from frame) new
    here None at g = absurd g
    here (Some lane) at g = taken lane lane.queue refl g at

turn : (old new : HouseLinkValue) (event : LinkEvent) (brick : BrickNo) → HouseMakes old event new → Turn old brick event new
turn old new (Sends to frame) brick h = sends_turn old new to frame brick h
turn old new (SendsInSilence to frame) brick h = still old brick (SendsInSilence to frame) new refl refl (ap (λ l. waiting l brick.0) h.2 ∙ waits_silent old.bricks to brick.0)
turn old new (Gets from frame) brick h = gets_turn old new from frame brick h
turn old new (HearsSilence from) brick h = still old brick (HearsSilence from) new refl refl (ap (λ l. waiting l brick.0) h.2 ∙ waits_silent old.bricks from brick.0)
turn old new (WantsToSend to frame) brick h = still old brick (WantsToSend to frame) new refl refl (ap (λ l. waiting l brick.0) h)
turn old new (WantsToReceive from) brick h = still old brick (WantsToReceive from) new refl refl (ap (λ l. waiting l brick.0) h)

-- the seats stay
seats_stay : (old new : HouseLinkValue) (event : LinkEvent) → HouseMakes old event new → new.seats ≡ old.seats
seats_stay old new (Sends to frame) (there, (b, of, is)) = ap (λ l. l.seats) is
seats_stay old new (SendsInSilence to frame) h = ap (λ l. l.seats) h.2
seats_stay old new (Gets from frame) h = ap (λ l. l.seats) h.2
seats_stay old new (HearsSilence from) h = ap (λ l. l.seats) h.2
seats_stay old new (WantsToSend to frame) h = ap (λ l. l.seats) h
seats_stay old new (WantsToReceive from) h = ap (λ l. l.seats) h

pub seats_stay_on : (old new : HouseLinkValue) (events : List LinkEvent) → Made HouseMakes old events new → new.seats ≡ old.seats
seats_stay_on old new [] h = ap (λ l. l.seats) (sym h)
seats_stay_on old new (event ∷ events) (mid, first, rest) = seats_stay_on mid new events rest ∙ seats_stay old mid event first

-- Replies come in order over any events.
pub come_in_order : (old new : HouseLinkValue) (events : List LinkEvent) (brick : BrickNo) → Made HouseMakes old events new → ComeInOrder old brick events new
come_in_order old new [] brick h = record {
  answers = [];
  came = [];
  are_replies = tt;
  are_spelled = tt;
  in_order = append-nil (waiting old brick.0) ∙ ap (λ l. waiting l brick.0) h;
}
come_in_order old new (event ∷ events) brick (mid, first, rest) =
    let t = turn old mid event brick first in
    let on = come_in_order mid new events brick rest in
    record {
      answers = t.answers ++ on.answers;
      came = t.came ++ on.came;
      are_replies = zip_on (IsReplyOf old.seats.house brick) (request_to brick.0 event) t.answers (flat_map (request_to brick.0) events) on.answers t.are_replies
          (let P : HouseSeatsValue → Type 0 = λ s. AllZip (IsReplyOf s.house brick) (flat_map (request_to brick.0) events) on.answers in subst P (seats_stay old mid event first) on.are_replies);
      are_spelled = zip_on IsDecodedTo (frame_from brick.0 event) t.came (flat_map (frame_from brick.0) events) on.came t.are_spelled on.are_spelled;
      in_order = sym (append_assoc (waiting old brick.0) t.answers on.answers) ∙ (ap (λ xs. xs ++ on.answers) t.in_order
          ∙ (append_assoc t.came (waiting mid brick.0) on.answers ∙ (ap (λ xs. t.came ++ xs) on.in_order ∙ sym (append_assoc t.came on.came (waiting new brick.0)))));
    }

-- what one event makes of frames that bear their brick
bears_turn : (old new : HouseLinkValue) (event : LinkEvent) (brick : BrickNo) → All (Bears brick old.seats.house.incarnation) (waiting old brick.0) → (t : Turn old brick event new) → All (Bears brick old.seats.house.incarnation) (t.came ++ waiting new brick.0)
bears_turn old new event brick h t =
    let P = Bears brick old.seats.house.incarnation in
    All-same P (t.came ++ waiting new brick.0) (waiting old brick.0 ++ t.answers) (sym t.in_order)
    (All-append P (waiting old brick.0) t.answers h (all_bear old.seats.house brick (request_to brick.0 event) t.answers t.are_replies))

All-left : {X : Type 0} (P : X → Type 0) (xs ys : List X) → All P (xs ++ ys) → All P xs
All-left P [] ys h = All-nil P
All-left P (x ∷ xs) ys h = All-cons P x xs (All-head P x (xs ++ ys) h) (All-left P xs ys (All-tail P x (xs ++ ys) h))

All-right : {X : Type 0} (P : X → Type 0) (xs ys : List X) → All P (xs ++ ys) → All P ys
All-right P [] ys h = h
All-right P (x ∷ xs) ys h = All-right P xs ys (All-tail P x (xs ++ ys) h)

bear_on : (old new : HouseLinkValue) (event : LinkEvent) → AllBear old → HouseMakes old event new → AllBear new
bear_on old new event h made brick =
    let t = turn old new event brick made in
    (let P : HouseSeatsValue → Type 0 = λ s. All (Bears brick s.house.incarnation) (waiting new brick.0) in
    subst P (sym (seats_stay old new event made)) (All-right (Bears brick old.seats.house.incarnation) t.came (waiting new brick.0) (bears_turn old new event brick (h brick) t)))

-- a frame that came bears its brick
spelled_bears : (brick : BrickNo) (first : ℕ) (frame : List ℕ) (came : List Frame) → AllZip IsDecodedTo (frame ∷ []) came → All (Bears brick first) came → (answer : Frame) × (decode_of frame ≡ Some answer) × Bears brick first answer
spelled_bears brick first frame [] h k = absurd h
spelled_bears brick first frame (answer ∷ rest) h k = (answer, h.0, All-head (Bears brick first) answer rest k)

event_bears : (old new : HouseLinkValue) (event : LinkEvent) → AllBear old → HouseMakes old event new → BearsBrick old.seats.house.incarnation event
event_bears old new (Sends to frame) h made = tt
event_bears old new (SendsInSilence to frame) h made = tt
event_bears old new (Gets from frame) h made =
    let t = gets_turn old new from frame from made in
    let P = Bears from old.seats.house.incarnation in
    let here : AllZip IsDecodedTo (frame ∷ []) t.came = (let Q : Bool → Type 0 = λ yes. AllZip IsDecodedTo (if yes then frame ∷ [] else []) t.came in subst Q (eq-eqb from.0 from.0 refl) t.are_spelled) in
    spelled_bears from old.seats.house.incarnation frame t.came here (All-left P t.came (waiting new from.0) (bears_turn old new (Gets from frame) from (h from) t))
event_bears old new (HearsSilence from) h made = tt
event_bears old new (WantsToSend to frame) h made = tt
event_bears old new (WantsToReceive from) h made = tt

pub bear_on_all : (old new : HouseLinkValue) (events : List LinkEvent) → AllBear old → Made HouseMakes old events new → AllBear new
bear_on_all old new [] h made = subst AllBear made h
bear_on_all old new (event ∷ events) h (mid, first, rest) = bear_on_all mid new events (bear_on old mid event h first) rest

pub events_bear : (old new : HouseLinkValue) (events : List LinkEvent) → AllBear old → Made HouseMakes old events new → All (BearsBrick old.seats.house.incarnation) events
events_bear old new [] h made = All-nil (BearsBrick old.seats.house.incarnation)
events_bear old new (event ∷ events) h (mid, first, rest) =
    All-cons (BearsBrick old.seats.house.incarnation) event events (event_bears old mid event h first)
    (let P : HouseSeatsValue → Type 0 = λ s. All (BearsBrick s.house.incarnation) events in subst P (seats_stay old mid event first) (events_bear mid new events (bear_on old mid event h first) rest))

-- in a new link nothing waits
empty_lanes : (n i : ℕ) → queue_of (slice_get (replicate n empty_lane) i) ≡ []
empty_lanes zero i = refl
empty_lanes (suc n) zero = refl
empty_lanes (suc n) (suc i) = empty_lanes n i

pub none_waits : (seats : HouseSeatsValue) (brick : ℕ) → waiting (new_link seats) brick ≡ []
none_waits seats brick = go (nat_lt 0 brick) where
  go : (some : Bool) → queue_of (if some then slice_get (replicate (length seats.house.locks) empty_lane) (brick - 1) else None) ≡ []
  go true = empty_lanes (length seats.house.locks) (brick - 1)
  go false = refl

pub new_bear : (seats : HouseSeatsValue) → AllBear (new_link seats)
new_bear seats brick = All-same (Bears brick seats.house.incarnation) (waiting (new_link seats) brick.0) [] (none_waits seats brick.0) (All-nil (Bears brick seats.house.incarnation))

longer_than_none : (queue : List Frame) (answer : Frame) → queue ++ answer ∷ [] ≡ [] → ⊥
longer_than_none [] answer is = absurd (cc)
longer_than_none (x ∷ queue) answer is = absurd (cc)

-- the lane of a brick after bytes were sent to it
sent_lane : (old mid : HouseLinkValue) (brick : BrickNo) (request : List ℕ) (b : BrickValue) (lane : LaneValue) → mid ≡ with_bricks old (on_lane brick (asked b request) old.bricks) → lane_of old.bricks brick.0 ≡ Some lane → lane_of mid.bricks brick.0 ≡ Some (asked b request lane)
sent_lane old mid brick request b lane made at = ap (λ (l : HouseLinkValue). lane_of l.bricks brick.0) made ∙ (own_lane old.bricks brick (asked b request) ∙ ap (option_map (asked b request)) at)

-- Behind a request its brick is not silent.
pub no_silence_behind : (old mid new : HouseLinkValue) (brick : BrickNo) (request : List ℕ) (question : Frame) → decode_of request ≡ Some question → is_request question ≡ true → HouseMakes old (Sends brick request) mid → HouseMakes mid (HearsSilence brick) new → ⊥
no_silence_behind old mid new brick request question is asks (there, (b, of, made)) hears = by (lane_of old.bricks brick.0) refl there where
  told : (lane : LaneValue) → (asked b request lane).queue ≡ [] → ((is_request question ≡ true) × ((answer : Frame) × (reply b question ≡ Some answer))) ⊎ ((is_request question ≡ false) × (reply b question ≡ None)) → ⊥
  told lane none (inl (asked_so, (answer, so))) =
      longer_than_none lane.queue answer (sym (ap (λ (found : Option Frame). (with_reply (option_and_then (reply b) found) lane).queue) is ∙ ap (λ (found : Option Frame). (with_reply found lane).queue) so) ∙ none)
  told lane none (inr (unasked, so)) = absurd (cc)

  by : (found : Option LaneValue) → lane_of old.bricks brick.0 ≡ found → IsSome found → ⊥
  by None at some = absurd (cc)
  by (Some lane) at some = told lane (subst IsQuiet (sent_lane old mid brick request b lane made at) hears.0) (replied_or_none b question)

-- What comes behind one request is the reply to it.
pub heard_behind : (old mid new : HouseLinkValue) (brick : BrickNo) (request frame : List ℕ) → waiting old brick.0 ≡ [] → HouseMakes old (Sends brick request) mid → HouseMakes mid (Gets brick frame) new
    → (b : BrickValue) × (question : Frame) × (b.number ≡ brick) × (b.incarnation ≡ old.seats.house.incarnation) × (decode_of request ≡ Some question) × (decode_of frame ≡ reply b question)
heard_behind old mid new brick request frame none (there, (b, of, made)) gets = by (lane_of old.bricks brick.0) refl there where
  Told : Type 0
  Told = (b : BrickValue) × (question : Frame) × (b.number ≡ brick) × (b.incarnation ≡ old.seats.house.incarnation) × (decode_of request ≡ Some question) × (decode_of frame ≡ reply b question)

  by_reply : (lane : LaneValue) → lane.queue ≡ [] → (found : Option Frame) → option_and_then (reply b) (decode_of request) ≡ found → IsFirst frame (with_reply found lane).queue → (question : Option Frame) → decode_of request ≡ question → Told
  by_reply lane empty None so is question at = absurd (subst (IsFirst frame) empty is)
  by_reply lane empty (Some answer) so is None at = absurd (let none_is : None ≡ Some answer = ap (option_and_then (reply b)) (sym at) ∙ so in cc)
  by_reply lane empty (Some answer) so is (Some question) at =
      let here : IsFirst frame (answer ∷ []) = subst (λ (queue : List Frame). IsFirst frame (queue ++ answer ∷ [])) empty is in
      let replied : reply b question ≡ Some answer = ap (option_and_then (reply b)) (sym at) ∙ so in
      (b, question, of.number_is, of.incarnation_is, at, here.1 ∙ sym replied)

  by : (found : Option LaneValue) → lane_of old.bricks brick.0 ≡ found → IsSome found → Told
  by None at some = absurd (cc)
  by (Some lane) at some =
      let gives : Gives frame (Some (asked b request lane)) = subst (Gives frame) (sent_lane old mid brick request b lane made at) gets.0 in
      by_reply lane (sym (ap queue_of at) ∙ none) (option_and_then (reply b) (decode_of request)) refl gives (decode_of request) refl

All-among : {X : Type 0} (P : X → Type 0) (before behind : List X) (x : X) → All P (before ++ x ∷ behind) → P x
All-among P [] behind x all = All-head P x behind all
All-among P (b ∷ before) behind x all = All-among P before behind x (All-tail P b (before ++ x ∷ behind) all)

-- What a frame that came is decoded to bears its brick.
pub came_bears : (old new : HouseLinkValue) (before behind : List LinkEvent) (from : BrickNo) (bytes : List ℕ) (answer : Frame) → AllBear old → Made HouseMakes old (before ++ Gets from bytes ∷ behind) new → decode_of bytes ≡ Some answer → Bears from old.seats.house.incarnation answer
came_bears old new before behind from bytes answer all made is =
    let spelled = All-among (BearsBrick old.seats.house.incarnation) before behind (Gets from bytes) (events_bear old new (before ++ Gets from bytes ∷ behind) all made) in
    let same : spelled.0 ≡ answer = cc in
    subst (Bears from old.seats.house.incarnation) same spelled.2
