-- The bricks of the link go on standing for their histories.
use Rattle.std.proofs.Common.{arith, ◌≡◌, ◌∙◌, ap, sym, refl, subst, inl, inr, ℕ, ◌-◌, ◌<◌, ◌==◌, Bool, true, false, nat_lt, if◌then◌else◌, List, [], ◌∷◌, ◌++◌, map, Option, Some, None}
use Rattle.std.specs.List.{slice_get, range_with_len}
use Rattle.std.specs.Option.{option_map}
use Rattle.std.proofs.lemmas.Bool.{cases_eq, eq-eqb, eqb-true, ltb-true}
use Rattle.std.proofs.lemmas.List.FromFn.{length-map-range_with_len, get_or-map-range_with_len}
use Rattle.std.proofs.lemmas.Option.{slice_get_within, get_or_from_slice_get}
use Rattle.crash_base.specs.declared.numbers.BrickNo.{BrickNo}
use Rattle.ssm_frames.specs.declared.frame.Frame.{Frame}
use Rattle.ssm_frames.specs.declared.frame.Frame.TheVariants.{Put, Get, Sweep, Stored, Found, Absent, BrickFull, Swept}
use Rattle.ssm_frames.specs.Reading.{decode_of}
use Rattle.brick_store.specs.declared.event.BrickEvent.{BrickEvent}
use Rattle.brick_store.specs.Bricks.{BrickValue, new_brick, put_value, answered, reply}
use Rattle.brick_store.specs.Kept.{is_full, with_kept}
use Rattle.brick_store.specs.Standing.{StandsFor, heard}
use Rattle.outside.specs.declared.link.LinkEvent.{LinkEvent}
use Rattle.outside.specs.declared.link.LinkEvent.TheVariants.{Sends, SendsInSilence, Gets, HearsSilence, WantsToSend, WantsToReceive}
use Rattle.outside.specs.Faults.{counted}
use Rattle.link_lanes.specs.Lanes.{lane_of, on_lane, more_unknown}
use Rattle.link_lanes.specs.Tallies.{own_lane, other_lane}
use Rattle.link_memory.specs.Lane.{LaneValue, new_lane, with_reply_if, reached, asked, given, silent}
use Rattle.link_memory.specs.Script.{ScriptValue, new_link, hushed_by, ScriptMakes}
use Rattle.link_memory.specs.Standing.{StandsAs, AllStand, with_history, reached_in, asked_in, histories_after}

-- a changed lane stands for the history that the change makes
pub changed_stands : (link : ScriptValue) (brick : BrickNo) (change : LaneValue → LaneValue) (history : List BrickEvent) (histories : ℕ → List BrickEvent) → AllStand histories link → ((lane : LaneValue) → lane_of link brick.0 ≡ Some lane → StandsAs brick.0 (histories brick.0) lane → StandsAs brick.0 history (change lane)) → AllStand (with_history brick history histories) (on_lane brick change link)
changed_stands link brick change history histories stand keeps number lane here = elim (cases_eq brick.0 number) [
  | inl is ↦ (let P : ℕ → Type 0 = λ n. lane_of (on_lane brick change link) n ≡ Some lane in
      let Q : ℕ → Type 0 = λ n. StandsAs n (with_history brick history histories n) lane in
      let R : Bool → Type 0 = λ b. StandsAs brick.0 (if b then history else histories brick.0) lane in
      subst Q is (subst R (sym (eq-eqb brick.0 brick.0 refl)) (own (lane_of link brick.0) refl (sym (own_lane link brick change) ∙ subst P (sym is) here))))
  | inr differ ↦ (let R : Bool → Type 0 = λ b. StandsAs number (if b then history else histories number) lane in
      subst R (sym (apart (brick.0 == number) refl differ)) (stand number lane (sym (other_lane link brick change number differ) ∙ here)))
]
  where
    apart : (b : Bool) → (brick.0 == number) ≡ b → (brick.0 ≡ number → ⊥) → (brick.0 == number) ≡ false
    apart true e differ = absurd (differ (eqb-true brick.0 number e))
    apart false e differ = e

    own : (found : Option LaneValue) → lane_of link brick.0 ≡ found → option_map change found ≡ Some lane → StandsAs brick.0 history lane
    own None h e = absurd cc
    own (Some before) h e = (let f : change before ≡ lane = cc in let P : LaneValue → Type 0 = λ l. StandsAs brick.0 history l in subst P f (keeps before h (stand brick.0 before h)))

-- a change that leaves the brick leaves the histories
pub unchanged_stands : (link : ScriptValue) (brick : BrickNo) (change : LaneValue → LaneValue) (histories : ℕ → List BrickEvent) → ((lane : LaneValue) → (change lane).brick ≡ lane.brick) → AllStand histories link → AllStand histories (on_lane brick change link)
unchanged_stands link brick change histories same stand number lane here = elim (cases_eq brick.0 number) [
  | inl is ↦ (let P : ℕ → Type 0 = λ n. lane_of (on_lane brick change link) n ≡ Some lane in
      let Q : ℕ → Type 0 = λ n. StandsAs n (histories n) lane in
      subst Q is (own (lane_of link brick.0) refl (sym (own_lane link brick change) ∙ subst P (sym is) here)))
  | inr differ ↦ stand number lane (sym (other_lane link brick change number differ) ∙ here)
]
  where
    own : (found : Option LaneValue) → lane_of link brick.0 ≡ found → option_map change found ≡ Some lane → StandsAs brick.0 (histories brick.0) lane
    own None h e = absurd cc
    own (Some before) h e =
        let f : change before ≡ lane = cc in
        let b : before.brick ≡ lane.brick = sym (same before) ∙ ap (λ (l : LaneValue). l.brick) f in
        let N : BrickValue → Type 0 = λ x. x.number.0 ≡ brick.0 in
        let S : BrickValue → Type 0 = λ x. StandsFor 1 (histories brick.0) x in
        record { number_is = subst N b (stand brick.0 before h).number_is; stands = subst S b (stand brick.0 before h).stands }

-- a brick keeps its number
numbered : (b : BrickValue) (frame : Frame) → (answered b frame).number ≡ b.number
numbered b (Put nonce key version expiry value) = put (is_full b.kept (put_value key version expiry value)) where
  put : (full : Bool) → (if full then b else record b { kept = with_kept (put_value key version expiry value) b.kept }).number ≡ b.number
  put true = refl
  put false = refl
numbered b (Get nonce key version) = refl
numbered b (Sweep nonce moment) = refl
numbered b (Stored nonce key version brick incarnation) = refl
numbered b (Found nonce key version brick incarnation expiry value) = refl
numbered b (Absent nonce key version brick incarnation swept) = refl
numbered b (BrickFull nonce key version brick incarnation entries bytes) = refl
numbered b (Swept nonce brick incarnation moment) = refl

-- the brick of a lane after bytes were sent to it
module _ (law : (first : ℕ) (h : List BrickEvent) (b : BrickValue) (request : Frame) → StandsFor first h b → StandsFor first (heard h request) (answered b request)) where
  asked_stands : (bytes : List ℕ) (number : ℕ) (history : List BrickEvent) (lane : LaneValue) → StandsAs number history lane → StandsAs number (asked_in bytes (Some lane) history) (asked bytes lane)
  asked_stands bytes number history lane before = go (nat_lt 0 lane.to_drop) (decode_of bytes) where
    lost_or : (lose : Bool) (new : Frame) (l : LaneValue) → (if lose then record l { to_lose = l.to_lose - 1; made = l.made ++ new ∷ [] } else record l { made = l.made ++ new ∷ []; queue = l.queue ++ new ∷ [] }).brick ≡ l.brick
    lost_or true new l = refl
    lost_or false new l = refl

    kept : (found : Option Frame) (l : LaneValue) → (with_reply_if found l).brick ≡ l.brick
    kept None l = refl
    kept (Some new) l = lost_or (nat_lt 0 l.to_lose) new l

    came : (found : Option Frame) → StandsAs number (reached_in found history) (reached found lane)
    came None = before
    came (Some frame) =
        let b : (reached (Some frame) lane).brick ≡ answered lane.brick frame = kept (reply lane.brick frame) (record lane { brick = answered lane.brick frame }) in
        let P : BrickValue → Type 0 = λ x. StandsFor 1 (heard history frame) x in
        record {
          number_is = ap (λ (x : BrickValue). x.number.0) b ∙ (ap (λ (x : BrickNo). x.0) (numbered lane.brick frame) ∙ before.number_is);
          stands = subst P (sym b) (law 1 history lane.brick frame before.stands);
        }

    go : (dropped : Bool) (found : Option Frame) → StandsAs number (if dropped then history else reached_in found history) (if dropped then record lane { to_drop = lane.to_drop - 1 } else reached found lane)
    go true found = record { number_is = before.number_is; stands = before.stands }
    go false found = came found

  hushed_stands : (link : ScriptValue) (brick : BrickNo) (histories : ℕ → List BrickEvent) → AllStand histories link → AllStand histories (hushed_by brick link)
  hushed_stands link brick histories stand = go (lane_of link brick.0) (unchanged_stands (record link { hushed = counted link.hushed }) brick silent histories (λ lane. refl) stand) where
    go : (found : Option LaneValue) → AllStand histories (on_lane brick silent (record link { hushed = counted link.hushed })) → AllStand histories (more_unknown found (on_lane brick silent (record link { hushed = counted link.hushed })))
    go None h = h
    go (Some lane) h = h

  pub event_stands : (old new : ScriptValue) (event : LinkEvent) (histories : ℕ → List BrickEvent) → AllStand histories old → ScriptMakes old event new → AllStand (histories_after old event histories) new
  event_stands old new (Sends to frame) histories stand (there, is) = (let P : ScriptValue → Type 0 = λ l. AllStand (histories_after old (Sends to frame) histories) l in
      subst P (sym is) (changed_stands old to (asked frame) (asked_in frame (lane_of old to.0) (histories to.0)) histories stand
      (λ lane here before. (let Q : Option LaneValue → Type 0 = λ o. StandsAs to.0 (asked_in frame o (histories to.0)) (asked frame lane) in subst Q (sym here) (asked_stands frame to.0 (histories to.0) lane before)))))
  event_stands old new (SendsInSilence to frame) histories stand (none, fit, is) = (let P : ScriptValue → Type 0 = λ l. AllStand histories l in subst P (sym is) (hushed_stands old to histories stand))
  event_stands old new (Gets from frame) histories stand (gives, few, is) = (let P : ScriptValue → Type 0 = λ l. AllStand histories l in subst P (sym is) (unchanged_stands (record old { got = counted old.got }) from given histories (λ lane. refl) stand))
  event_stands old new (HearsSilence from) histories stand (quiet, fit, is) = (let P : ScriptValue → Type 0 = λ l. AllStand histories l in subst P (sym is) (hushed_stands old from histories stand))
  event_stands old new (WantsToSend brick frame) histories stand is = (let P : ScriptValue → Type 0 = λ l. AllStand histories l in subst P (sym is) stand)
  event_stands old new (WantsToReceive brick) histories stand is = (let P : ScriptValue → Type 0 = λ l. AllStand histories l in subst P (sym is) stand)

-- a lane of a new link
new_lane_at : (bricks number : ℕ) (lane : LaneValue) → lane_of (new_link bricks) number ≡ Some lane → lane ≡ new_lane number
new_lane_at bricks number lane = go (nat_lt 0 number) refl where
  go : (some : Bool) → nat_lt 0 number ≡ some → (if some then slice_get (map new_lane (range_with_len 1 bricks)) (number - 1) else None) ≡ Some lane → lane ≡ new_lane number
  go true e h =
      let within : number - 1 < bricks = (let w = slice_get_within (map new_lane (range_with_len 1 bricks)) (number - 1) lane h in let l = length-map-range_with_len new_lane 1 bricks in omega arith) in
      sym (get_or_from_slice_get (map new_lane (range_with_len 1 bricks)) (number - 1) lane lane h)
      ∙ get_or-map-range_with_len new_lane 1 bricks (number - 1) number lane within (let m = ltb-true 0 number e in omega arith)
  go false e h = absurd cc

pub new_stands : ((number : BrickNo) (first : ℕ) → StandsFor first [] (new_brick number first)) → (bricks : ℕ) → AllStand (λ _. []) (new_link bricks)
new_stands law bricks number lane here =
    let P : LaneValue → Type 0 = λ l. StandsAs number [] l in
    subst P (sym (new_lane_at bricks number lane here)) (record { number_is = refl; stands = law (record { 0 = number }) 1 })
