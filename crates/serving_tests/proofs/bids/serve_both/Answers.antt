use mathlib.Core.List.{[], ◌∷◌}
use Rattle.connection_server.proofs.Crossing.{captured, shared, worker_seat}
use Rattle.connection_server.specs.contracts.shared.Shared as Shared
use Rattle.connection_server.specs.contracts.shared.WorkerSeat as WorkerSeat
use Rattle.outside.proofs.map_keeper.MapKeeper.TheSendSync as keeper
use Rattle.outside.specs.contracts.map_keeper.MapKeeper as MapKeeper
use Rattle.outside.specs.contracts.map_keeper.MapKeeperKeeper.TheImpl.{ghosts}
use Rattle.serving_tests.proofs.bids.serve_both.Goals as goal
use Rattle.serving_tests.specs.contracts.bids.serve_both.{R-row}
use Rattle.std.proofs.Crossing.{crosses}
use Rattle.std.specs.contracts.alloc.Global as Global
use denote.Param.Send.{arg_send, param_send, sendable, shr_send}
use denote.Ref.{ShrRef}

pub join-one-requires-send-F : goal.join-one-requires-send-F
join-one-requires-send-F g c κs within =
    let site = Shared.the_row MapKeeper.the_row ghosts in
    captured 1 _ _ (ShrRef _ _ (R-row g.row.R) ∷ Global.the_row ∷ ShrRef _ _ site ∷ WorkerSeat.the_row MapKeeper.the_row ghosts ∷ []) (
      shr_send _ _ (R-row g.row.R) c.type_bounds.sync-R,
      (search (sendable, crosses), (shr_send _ _ site (shared MapKeeper.the_row ghosts keeper.the_send), (worker_seat MapKeeper.the_row ghosts keeper.the_send, tt))),
    )

pub join-one-requires-send-A : goal.join-one-requires-send-A
join-one-requires-send-A g c κs within = search (param_send, arg_send, worker_seat, keeper.the_send, crosses, sendable) depth 12
