use mathlib.Core.List.{[], ◌∷◌}
use Rattle.std.proofs.Common.{rules}
use denote.Param.{param}
use denote.Param.Send.{IsSend, sendable, shr_send}
use denote.Ref.{ShrRef}
use denote.Struct.Field.{u16-field}
use Rattle.boot_core.proofs.boot.Remains.TheSendSync as remains
use Rattle.boot_core.specs.contracts.boot.Remains as Remains
use Rattle.connection_server.proofs.Crossing.{captured}
use Rattle.container_server.proofs.Crossing.{passed_send, passed_sync, seats_send, site_sync}
use Rattle.container_server.proofs.deciding.Desk.TheSendSync as desk
use Rattle.container_server.proofs.signals.Signals.TheSendSync as signals
use Rattle.container_server.proofs.tools.Tools.TheSendSync as tools
use Rattle.container_server.specs.contracts.deciding.Desk as Desk
use Rattle.container_server.specs.contracts.seats.Seats as Seats
use Rattle.container_server.specs.contracts.signals.Signals as Signals
use Rattle.container_server.specs.contracts.site.Site as Site
use Rattle.container_server.specs.contracts.tools.Tools as Tools
use Rattle.std.proofs.alloc.Global.TheSendSync as global
use Rattle.std.proofs.option.Option.TheSendSync as option
use Rattle.std.proofs.sync.Mutex.TheSendSync as mutex
use Rattle.std.specs.contracts.alloc.Global as Global
use Rattle.std.specs.contracts.option.Option as Option
use Rattle.std.specs.contracts.sync.Mutex as Mutex
use Rattle.container_server.proofs.boot.run_threads.Goals as goal

pub join-decided-requires-send-F : goal.join-decided-requires-send-F
join-decided-requires-send-F g c κs within =
    let seats = seats_send (param 1 g.row.K) g.K.Keeper c.type_bounds.send-K in
    let site = site_sync (param 1 g.row.K) g.K.Keeper c.type_bounds.send-K in
    let number : IsSend (u16-field).row = search sendable in
    let tool = mutex.the_sync _ (tools.the_send (param 6 g.row.G-L) (param 7 g.row.G-C) (param 8 g.row.G-R) c.type_bounds.send-G-L c.type_bounds.send-G-C c.type_bounds.send-G-R) in
    captured 1 _ _ (
    ShrRef _ _ (param 3 g.row.R) ∷ Global.the_row ∷ ShrRef _ _ (param 0 g.row.G) ∷ ShrRef _ _ (Site.the_row (param 1 g.row.K) g.K.Keeper)
    ∷ ShrRef _ _ Signals.the_row ∷ ShrRef _ _ (Mutex.the_row (Tools.the_row (param 6 g.row.G-L) (param 7 g.row.G-C) (param 8 g.row.G-R)))
    ∷ ShrRef _ _ (Mutex.the_row (Tools.the_row (param 6 g.row.G-L) (param 7 g.row.G-C) (param 8 g.row.G-R)))
    ∷ (u16-field).row ∷ Option.the_row Remains.the_row ∷ Seats.the_row (param 1 g.row.K) g.K.Keeper ∷ Desk.the_row _ (param 2 g.row.E) ∷ [])
    (shr_send _ _ _ c.type_bounds.sync-R, (global.the_send, (shr_send _ _ _ c.type_bounds.sync-G, (shr_send _ _ _ site, (shr_send _ _ _ signals.the_sync, (shr_send _ _ _ tool, (shr_send _ _ _ tool, (number, (option.the_send _ remains.the_send, (seats, (desk.the_send _ _ c.type_bounds.send-E, tt)))))))))))

pub join-decided-requires-send-A : goal.join-decided-requires-send-A
join-decided-requires-send-A g c κs within =
    let seats = seats_send (param 1 g.row.K) g.K.Keeper c.type_bounds.send-K in
    captured 3 _ _ (Seats.the_row (param 1 g.row.K) g.K.Keeper ∷ Desk.the_row _ (param 2 g.row.E) ∷ []) (seats, (desk.the_send _ _ c.type_bounds.send-E, tt))

pub join-decided-requires-after_bounds : goal.join-decided-requires-after_bounds
join-decided-requires-after_bounds g c κs within =
    let b = c.type_bounds in (
      (
        passed_sync 3 3 _ g.row.R b.sync-R,
        (
          c.requires.bricks,
          (
            c.requires.seats.1,
            (
              c.requires.names,
              (
                passed_send 1 1 _ g.row.K b.send-K,
                passed_send 2 2 _ g.row.E b.send-E,
                passed_send 4 4 _ g.row.G-In b.send-G-In,
                passed_send 5 5 _ g.row.G-Out b.send-G-Out,
                passed_send 6 6 _ g.row.G-L b.send-G-L,
                passed_send 7 7 _ g.row.G-C b.send-G-C,
                passed_send 8 8 _ g.row.G-R b.send-G-R,
                passed_send 9 9 _ g.row.G-Closed b.send-G-Closed,
                passed_sync 0 0 _ g.row.G b.sync-G,
                passed_sync 3 3 _ g.row.R b.sync-R,
              ),
            ),
          ),
        ),
      ),
      (
        passed_sync 2 3 _ g.row.R b.sync-R,
        (
          (
            passed_send 1 1 _ g.row.K b.send-K,
            passed_send 8 9 _ g.row.G-Closed b.send-G-Closed,
            passed_send 5 6 _ g.row.G-L b.send-G-L,
            passed_send 6 7 _ g.row.G-C b.send-G-C,
            passed_send 7 8 _ g.row.G-R b.send-G-R,
            passed_sync 0 0 _ g.row.G b.sync-G,
            passed_sync 2 3 _ g.row.R b.sync-R,
            passed_send 3 4 _ g.row.G-In b.send-G-In,
            passed_send 4 5 _ g.row.G-Out b.send-G-Out,
          ),
          (
            (search rules, search rules, search rules),
            (
              c.requires.seats.0,
              (
                c.requires.seen,
                (
                  c.requires.parts,
                  (
                    c.requires.passes,
                    (
                      passed_send 1 1 _ g.row.K b.send-K,
                      passed_send 3 4 _ g.row.G-In b.send-G-In,
                      passed_send 4 5 _ g.row.G-Out b.send-G-Out,
                      passed_send 5 6 _ g.row.G-L b.send-G-L,
                      passed_send 6 7 _ g.row.G-C b.send-G-C,
                      passed_send 7 8 _ g.row.G-R b.send-G-R,
                      passed_send 8 9 _ g.row.G-Closed b.send-G-Closed,
                      passed_sync 0 0 _ g.row.G b.sync-G,
                      passed_sync 2 3 _ g.row.R b.sync-R,
                    ),
                  ),
                ),
              ),
            ),
          ),
        ),
      ),
    )
