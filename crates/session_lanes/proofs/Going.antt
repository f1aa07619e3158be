-- What a turn of a call comes to.
use Rattle.std.proofs.Common.{◌≡◌, ◌∙◌, ap, sym, refl, ℕ, zero, suc, List, [], ◌∷◌, Some, get_or}
use Rattle.std.specs.Prelude.{slice_get, slice_set}
use Rattle.std.proofs.lemmas.List.{set-get_or}
use Rattle.std.proofs.lemmas.Option.{get_or_from_slice_get}
use Rattle.crash_base.specs.declared.numbers.BrickNo.{BrickNo}
use Rattle.ssm_world.specs.declared.event.WorldEvent.TheVariants.{Hush}
use Rattle.session_lanes.specs.Lane.{LaneState}
use Rattle.session_lanes.specs.Lanes.{LanesState, in_silence, gets, hears, turn_of, turns}

-- a call hears no reply where none waits
pub heard_none : (st : LanesState) (call place : ℕ) (brick : BrickNo) (old new lane : LaneState) → old.queue ≡ [] → new ≡ old → old ≡ get_or st.lanes place old → brick.0 ≡ suc place → slice_get st.lanes place ≡ Some lane
    → in_silence (record st { lanes = slice_set st.lanes place new }) (suc place) (Hush call) ≡ hears st call brick lane lane.queue
heard_none st call place brick old new lane none same here number there =
    let is : old ≡ lane = here ∙ get_or_from_slice_get st.lanes place lane old there in
    let queue : lane.queue ≡ [] = ap (λ (l : LaneState). l.queue) (sym is) ∙ none in
    let back : slice_set st.lanes place new ≡ st.lanes = ap (slice_set st.lanes place) (same ∙ here) ∙ set-get_or st.lanes place old in
    ap (λ (ls : List LaneState). in_silence (record st { lanes = ls }) (suc place) (Hush call)) back
    ∙ ap (λ n. in_silence st n (Hush call)) (sym number) ∙ sym (ap (hears st call brick lane) queue)

-- a call hears the first reply that waits
pub heard_first : (st : LanesState) (call place packet : ℕ) (brick : BrickNo) (old new lane : LaneState) → old.queue ≡ packet ∷ new.queue → new ≡ record old { queue = new.queue } → old ≡ get_or st.lanes place old → brick.0 ≡ suc place → slice_get st.lanes place ≡ Some lane → gets (record st { lanes = slice_set st.lanes place new }) call packet ≡ hears st call brick lane lane.queue
heard_first st call place packet brick old new lane first less here number there =
    let is : old ≡ lane = here ∙ get_or_from_slice_get st.lanes place lane old there in
    let queue : lane.queue ≡ packet ∷ new.queue = ap (λ (l : LaneState). l.queue) (sym is) ∙ first in
    let left : new ≡ record lane { queue = new.queue } = less ∙ ap (λ (l : LaneState). record l { queue = new.queue }) is in
    rw (queue, number) (ap (λ (l : LaneState). gets (record st { lanes = slice_set st.lanes place l }) call packet) left)

-- a call that wants nothing more stays as it is
pub turns_end : (n : ℕ) (st : LanesState) (call : ℕ) → turn_of st call (slice_get st.world.calls call) ≡ st → turns n st call ≡ st
turns_end zero st call ended = refl
turns_end (suc n) st call ended = ap (λ (s : LanesState). turns n s call) ended ∙ turns_end n st call ended
