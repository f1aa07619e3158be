use Rattle.std.proofs.Common.{◌≤◌, length, subst, arith}
use Rattle.send_windows.specs.declared.fact.TheConstants.{MAX_BRICKS}
use Rattle.session_lanes.specs.Lanes.{LanesState}
use Rattle.session_lanes.proofs.lanes.Lanes.number_at.Goals as goal

pub overflow_cast-result : goal.overflow_cast-result
overflow_cast-result c =
    let P : LanesState → Type 0 = λ st. length st.lanes ≤ MAX_BRICKS in
    let few : length c.args.self.now.lanes ≤ MAX_BRICKS = subst P c.self.view_is c.self.invariant.few in
    omega (arith, c.requires, few)

pub overflow_add-result : goal.overflow_add-result
overflow_add-result c =
    let P : LanesState → Type 0 = λ st. length st.lanes ≤ MAX_BRICKS in
    let few : length c.args.self.now.lanes ≤ MAX_BRICKS = subst P c.self.view_is c.self.invariant.few in
    omega (arith, c.requires, few)
