use Rattle.std.proofs.Common.{rules, ◌≡◌, ◌∙◌, ◌+◌, ◌<◌, ap, Option, IsSome, sym, subst, length, Some, List, slice_set}
use Rattle.link_lanes.specs.Lanes.{lane_of}
use Rattle.brick_house.specs.Houses.{HouseValue, HouseSeatsValue, IsBrickOf}
use Rattle.brick_house.specs.HouseLinks.{HouseLinkValue, LaneValue, asked, with_bricks}
use Rattle.link_lanes.proofs.Places.{lane_here, changed_here, set_back}
use Rattle.brick_house.proofs.link.HouseLinkLink.send.Goals as goal
use Rattle.brick_house.proofs.link.HouseLinkLink.send.Goals.{in-Ok, in-Err}

pub returns-after-ask : goal.returns-after-ask
returns-after-ask g c =
    let s : HouseLinkValue = record {
      seats = c.self.inside.seats;
      bricks = record { lanes = c.self.inside.lanes.items; unknown = c.self.inside.unknown; hushed = c.self.inside.hushed; got = c.self.inside.got };
    } in
    let lane = c.index_mut-lane.result.now in
    let at = c.in-Some.place in
    let number : at + 1 ≡ c.args.to.0 = c.in-Some.ensures.0 in
    let within : at < length s.bricks.lanes = (let P : List LaneValue → Type 0 = λ lanes. at < length lanes in subst P c.deref.ensures.value c.in-Some.ensures.1) in
    let here : lane_of s.bricks c.args.to.0 ≡ Some lane = lane_here s.bricks.lanes c.args.to.0 at lane number within c.index_mut-lane.ensures.value in
    let there : IsSome (lane_of s.bricks c.args.to.0) = (let P : Option LaneValue → Type 0 = λ o. IsSome o in subst P (sym here) (search rules)) in
    let seats = ap (λ (ss : HouseSeatsValue). record { seats = ss; bricks = record (s.bricks) { lanes = slice_set s.bricks.lanes at c.ask.new.self } }) c.ask.ensures.seats in
    elim c.match-ask.branch [
      | in-Ok w ↦ (let ok = w.in-Ok.ensures.ok in
          let of : IsBrickOf s.seats.house c.args.to ok.0 = (let P : HouseValue → Type 0 = λ h. IsBrickOf h c.args.to ok.0 in subst P (sym c.self.invariant.0) ok.1) in
          rw (← c.self.view_is, w.result-is) (there, (ok.0, of, seats ∙ (ap (λ (l : LaneValue). record s { bricks = record (s.bricks) { lanes = slice_set s.bricks.lanes at l } }) ok.2 ∙ ap (with_bricks s) (changed_here s.bricks c.args.to (asked ok.0 c.args.frame.now) at lane number within c.index_mut-lane.ensures.value)))))
      | in-Err w ↦ rw (← c.self.view_is, w.result-is) (seats ∙ (ap (λ (l : LaneValue). record s { bricks = record (s.bricks) { lanes = slice_set s.bricks.lanes at l } }) w.in-Err.ensures.err ∙ ap (λ (lanes : List LaneValue). record s { bricks = record (s.bricks) { lanes = lanes } }) (set_back s.bricks.lanes at lane c.index_mut-lane.ensures.value)))
    ]
