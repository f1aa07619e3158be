use Rattle.ssm_frames.specs.declared.frame.Frame.TheVariants.{Absent, BrickFull, Found, Stored, Swept}
use Rattle.brick_house.proofs.InOrder.{new_bear, bear_on_all, came_bears, events_bear, seats_stay_on}
use Rattle.brick_house.proofs.laws.houses_answer_for_their_bricks.Goals as goal

pub returns : goal.returns
returns c = record {
  new = new_bear;
  waiting = bear_on_all;
  frames = events_bear;
  seats = seats_stay_on;
  stored = λ old new before behind from bytes nonce key version brick incarnation. came_bears old new before behind from bytes (Stored nonce key version brick incarnation);
  found = λ old new before behind from bytes nonce key version brick incarnation expiry value. came_bears old new before behind from bytes (Found nonce key version brick incarnation expiry value);
  absent = λ old new before behind from bytes nonce key version brick incarnation swept. came_bears old new before behind from bytes (Absent nonce key version brick incarnation swept);
  full = λ old new before behind from bytes nonce key version brick incarnation entries stored. came_bears old new before behind from bytes (BrickFull nonce key version brick incarnation entries stored);
  swept = λ old new before behind from bytes nonce brick incarnation moment. came_bears old new before behind from bytes (Swept nonce brick incarnation moment);
}
