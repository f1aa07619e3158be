-- Counts of a link over several events.
use Rattle.std.proofs.Common.{arith, rules, ◌≡◌, ◌∙◌, ap, sym, refl, subst, inl, inr, ℕ, ◌+◌, ◌^◌, ◌<◌, ◌==◌, Bool, true, false, List, [], ◌∷◌, Option, Some, None, IsSome, cond}
use Rattle.std.specs.List.{count_by}
use Rattle.std.specs.Option.{option_map, option_map_or}
use Rattle.std.proofs.lemmas.Bool.{cases_eq, eqb-true, eq-eqb}
use Rattle.std.proofs.lemmas.List.Sums.{sum_by-cons}
use Rattle.crash_base.specs.declared.numbers.BrickNo.{BrickNo}
use Rattle.outside.specs.declared.link.LinkEvent.{LinkEvent}
use Rattle.outside.specs.declared.link.LinkEvent.TheVariants.{Sends, SendsInSilence, Gets, HearsSilence, WantsToSend, WantsToReceive}
use Rattle.outside.specs.Faults.{counted}
use Rattle.outside.specs.Link.{Made, is_silence, is_silence_of, is_frame}
use Rattle.link_lanes.specs.Lanes.{LanesValue, lane_of, on_lane, silences_by, more_unknown, hushed_with, raised}
use Rattle.link_lanes.specs.Tallies.{own_lane, other_lane, hushed_more, hushed_of_all, others_stay, silences_stay}
use Rattle.brick_house.specs.HouseLinks.{HouseLinkValue, LaneValue, HouseMakes, asked, given, silent, silences_of}
use Rattle.brick_house.specs.Tallies.{asked_counts, silences}

-- a count after an event: one more where it is one of those, and else as it was
abbrev CountsOne : Bool → ℕ → ℕ → Type 0
CountsOne true old new = new ≡ counted old
CountsOne false old new = new ≡ old

raised_on : (yes : Bool) (old mid new more total : ℕ) → old < 2 ^ 64 → CountsOne yes old mid → new ≡ raised mid more → total ≡ cond yes 1 0 + more → new ≡ raised old total
raised_on true old mid new more total fits one rest is = omega arith
raised_on false old mid new more total fits one rest is = omega arith

fits_on : (yes : Bool) (old mid : ℕ) → old < 2 ^ 64 → CountsOne yes old mid → mid < 2 ^ 64
fits_on true old mid fits one = omega arith
fits_on false old mid fits one = omega arith

-- a count of those events, while a condition lasts, comes to their number
module _ (number : HouseLinkValue → ℕ) (is : LinkEvent → Bool) (While : HouseLinkValue → Type 0)
    (lasts : (old new : HouseLinkValue) (event : LinkEvent) → While old → HouseMakes old event new → While new)
    (one : (old new : HouseLinkValue) (event : LinkEvent) → While old → HouseMakes old event new → CountsOne (is event) (number old) (number new)) where
  pub counts_all : (events : List LinkEvent) (old new : HouseLinkValue) → While old → number old < 2 ^ 64 → Made HouseMakes old events new → number new ≡ raised (number old) (count_by is events)
  counts_all [] old new w fits h = (let e : number new ≡ number old = ap number (sym h) in omega arith)
  counts_all (event ∷ events) old new w fits (mid, first, rest) =
      let here = one old mid event w first in
      raised_on (is event) (number old) (number mid) (number new) (count_by is events) (count_by is (event ∷ events)) fits here
      (counts_all events mid new (lasts old mid event w first) (fits_on (is event) (number old) (number mid) fits here) rest)
      (sum_by-cons (λ x. cond (is x) 1 0) event events)

always : (old new : HouseLinkValue) (event : LinkEvent) → Unit {0} → HouseMakes old event new → Unit {0}
always old new event w h = tt

hushed_one : (old new : HouseLinkValue) (event : LinkEvent) → Unit {0} → HouseMakes old event new → CountsOne (is_silence event) old.bricks.hushed new.bricks.hushed
hushed_one old new (Sends to frame) w (there, (b, of, is)) = ap (λ l. l.bricks.hushed) is ∙ (others_stay old.bricks to.0 (option_map (asked b frame) (lane_of old.bricks to.0))).0
hushed_one old new (SendsInSilence to frame) w h = ap (λ l. l.bricks.hushed) h.2 ∙ (hushed_of_all silent old.bricks to).0
hushed_one old new (Gets from frame) w h = ap (λ l. l.bricks.hushed) h.2 ∙ (others_stay (record (old.bricks) { got = counted old.bricks.got }) from.0 (option_map given (lane_of old.bricks from.0))).0
hushed_one old new (HearsSilence from) w h = ap (λ l. l.bricks.hushed) h.2 ∙ (hushed_of_all silent old.bricks from).0
hushed_one old new (WantsToSend to frame) w h = ap (λ l. l.bricks.hushed) h
hushed_one old new (WantsToReceive from) w h = ap (λ l. l.bricks.hushed) h

got_one : (old new : HouseLinkValue) (event : LinkEvent) → Unit {0} → HouseMakes old event new → CountsOne (is_frame event) old.bricks.got new.bricks.got
got_one old new (Sends to frame) w (there, (b, of, is)) = ap (λ l. l.bricks.got) is ∙ (others_stay old.bricks to.0 (option_map (asked b frame) (lane_of old.bricks to.0))).1
got_one old new (SendsInSilence to frame) w h = ap (λ l. l.bricks.got) h.2 ∙ (hushed_of_all silent old.bricks to).1
got_one old new (Gets from frame) w h = ap (λ l. l.bricks.got) h.2 ∙ (others_stay (record (old.bricks) { got = counted old.bricks.got }) from.0 (option_map given (lane_of old.bricks from.0))).1
got_one old new (HearsSilence from) w h = ap (λ l. l.bricks.got) h.2 ∙ (hushed_of_all silent old.bricks from).1
got_one old new (WantsToSend to frame) w h = ap (λ l. l.bricks.got) h
got_one old new (WantsToReceive from) w h = ap (λ l. l.bricks.got) h

pub hushed_counts : (old new : HouseLinkValue) (events : List LinkEvent) → old.bricks.hushed < 2 ^ 64 → Made HouseMakes old events new → new.bricks.hushed ≡ raised old.bricks.hushed (count_by is_silence events)
hushed_counts old new events fits h = counts_all (λ l. l.bricks.hushed) is_silence (λ l. Unit {0}) always hushed_one events old new tt fits h

pub got_counts : (old new : HouseLinkValue) (events : List LinkEvent) → old.bricks.got < 2 ^ 64 → Made HouseMakes old events new → new.bricks.got ≡ raised old.bricks.got (count_by is_frame events)
got_counts old new events fits h = counts_all (λ l. l.bricks.got) is_frame (λ l. Unit {0}) always got_one events old new tt fits h

eqb-different : (a b : ℕ) → (a ≡ b → ⊥) → (a == b) ≡ false
eqb-different a b differ = go (a == b) refl where
  go : (yes : Bool) → (a == b) ≡ yes → (a == b) ≡ false
  go true e = absurd (differ (eqb-true a b e))
  go false e = e

-- lanes of bricks stay
unknown_lanes : (found : Option LaneValue) (link : LanesValue LaneValue) (brick : ℕ) → lane_of (more_unknown found link) brick ≡ lane_of link brick
unknown_lanes None link brick = refl
unknown_lanes (Some lane) link brick = refl

some_mapped : (change : LaneValue → LaneValue) (found : Option LaneValue) → IsSome found → IsSome (option_map change found)
some_mapped change None h = absurd cc
some_mapped change (Some lane) h = search rules

some_on : (link : LanesValue LaneValue) (to : BrickNo) (change : LaneValue → LaneValue) (brick : ℕ) → IsSome (lane_of link brick) → IsSome (lane_of (on_lane to change link) brick)
some_on link to change brick h = elim (cases_eq to.0 brick) [
  | inl is ↦ (let P : ℕ → Type 0 = λ n. IsSome (lane_of link n) → IsSome (lane_of (on_lane to change link) n) in
      subst P is (λ k. subst IsSome (sym (own_lane link to change)) (some_mapped change (lane_of link to.0) k)) h)
  | inr differ ↦ subst IsSome (sym (other_lane link to change brick differ)) h
]

some_hushed : (old : LanesValue LaneValue) (to : BrickNo) (brick : ℕ) → IsSome (lane_of old brick) → IsSome (lane_of (hushed_with silent to old) brick)
some_hushed old to brick h =
    let before : LanesValue LaneValue = record old { hushed = counted old.hushed } in
    subst IsSome (sym (unknown_lanes (lane_of old to.0) (on_lane to silent before) brick)) (some_on before to silent brick h)

some_lasts : (brick : ℕ) (old new : HouseLinkValue) (event : LinkEvent) → IsSome (lane_of old.bricks brick) → HouseMakes old event new → IsSome (lane_of new.bricks brick)
some_lasts brick old new (Sends to frame) h (there, (b, of, is)) = (let P : HouseLinkValue → Type 0 = λ l. IsSome (lane_of l.bricks brick) in subst P (sym is) (some_on old.bricks to (asked b frame) brick h))
some_lasts brick old new (SendsInSilence to frame) h made = (let P : HouseLinkValue → Type 0 = λ l. IsSome (lane_of l.bricks brick) in subst P (sym made.2) (some_hushed old.bricks to brick h))
some_lasts brick old new (Gets from frame) h made = (let P : HouseLinkValue → Type 0 = λ l. IsSome (lane_of l.bricks brick) in subst P (sym made.2) (some_on (record (old.bricks) { got = counted old.bricks.got }) from given brick h))
some_lasts brick old new (HearsSilence from) h made = (let P : HouseLinkValue → Type 0 = λ l. IsSome (lane_of l.bricks brick) in subst P (sym made.2) (some_hushed old.bricks from brick h))
some_lasts brick old new (WantsToSend to frame) h made = (let P : HouseLinkValue → Type 0 = λ l. IsSome (lane_of l.bricks brick) in subst P (sym made) h)
some_lasts brick old new (WantsToReceive from) h made = (let P : HouseLinkValue → Type 0 = λ l. IsSome (lane_of l.bricks brick) in subst P (sym made) h)

-- silences of a brick that has a lane, where its lane is the same
same_silences : (old new : LanesValue LaneValue) (brick : ℕ) (found : Option LaneValue) → IsSome found → lane_of old brick ≡ found → lane_of new brick ≡ found → silences_by silences new brick ≡ silences_by silences old brick
same_silences old new brick None h at there = absurd cc
same_silences old new brick (Some lane) h at there =
    ap (λ o. option_map_or silences o new.unknown) there
    ∙ sym (ap (λ o. option_map_or silences o old.unknown) at)

-- a silence adds one to those of its brick, and to those of no other brick
silence_one : (old : LanesValue LaneValue) (to : BrickNo) (brick : ℕ) → IsSome (lane_of old brick) → CountsOne (to.0 == brick) (silences_by silences old brick) (silences_by silences (hushed_with silent to old) brick)
silence_one old to brick h = elim (cases_eq to.0 brick) [
  | inl is ↦ (let P : ℕ → Type 0 = λ n. CountsOne (to.0 == n) (silences_by silences old n) (silences_by silences (hushed_with silent to old) n) in
      subst P is (let Q : Bool → Type 0 = λ yes. CountsOne yes (silences_by silences old to.0) (silences_by silences (hushed_with silent to old) to.0) in subst Q (sym (eq-eqb to.0 to.0 refl)) (hushed_more silences silent (λ lane. refl) old to)))
  | inr differ ↦ (let Q : Bool → Type 0 = λ yes. CountsOne yes (silences_by silences old brick) (silences_by silences (hushed_with silent to old) brick) in
      subst Q (sym (eqb-different to.0 brick differ)) (same_silences old (hushed_with silent to old) brick (lane_of old brick) h refl
      (unknown_lanes (lane_of old to.0) (on_lane to silent (record old { hushed = counted old.hushed })) brick ∙ other_lane (record old { hushed = counted old.hushed }) to silent brick differ)))
]

brick_one : (brick : ℕ) (old new : HouseLinkValue) (event : LinkEvent) → IsSome (lane_of old.bricks brick) → HouseMakes old event new → CountsOne (is_silence_of brick event) (silences_of old brick) (silences_of new brick)
brick_one brick old new (Sends to frame) h (there, (b, of, is)) = ap (λ l. silences_of l brick) is ∙ silences_stay silences old.bricks to (asked b frame) brick (asked_counts b frame)
brick_one brick old new (SendsInSilence to frame) h made = (let P : HouseLinkValue → Type 0 = λ l. CountsOne (to.0 == brick) (silences_of old brick) (silences_of l brick) in subst P (sym made.2) (silence_one old.bricks to brick h))
brick_one brick old new (Gets from frame) h made = ap (λ l. silences_of l brick) made.2 ∙ silences_stay silences (record (old.bricks) { got = counted old.bricks.got }) from given brick (λ lane. refl)
brick_one brick old new (HearsSilence from) h made = (let P : HouseLinkValue → Type 0 = λ l. CountsOne (from.0 == brick) (silences_of old brick) (silences_of l brick) in subst P (sym made.2) (silence_one old.bricks from brick h))
brick_one brick old new (WantsToSend to frame) h made = ap (λ l. silences_of l brick) made
brick_one brick old new (WantsToReceive from) h made = ap (λ l. silences_of l brick) made

pub brick_counts : (old new : HouseLinkValue) (events : List LinkEvent) (brick : ℕ) → IsSome (lane_of old.bricks brick) → silences_of old brick < 2 ^ 64 → Made HouseMakes old events new → silences_of new brick ≡ raised (silences_of old brick) (count_by (is_silence_of brick) events)
brick_counts old new events brick some fits h = counts_all (λ l. silences_of l brick) (is_silence_of brick) (λ l. IsSome (lane_of l.bricks brick)) (some_lasts brick) (brick_one brick) events old new some fits h
