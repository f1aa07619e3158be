use Rattle.std.proofs.Common.{rules, arith, List, [], ◌∷◌, sym, subst}
use Rattle.connection_server.specs.Seats.{IsOfSite}
use Rattle.container_core.specs.declared.history.Event.{Event}
use denote.Param.{arg, param}
use denote.Param.Send.{IsSend, arg_send, param_send, sendable, shr_send}
use denote.Param.SendFields.{as_row_send, declared_send}
use denote.Ref.{ShrRef}
use denote.Struct.Tuple.{TupleAt}
use Rattle.atomic_table.below.core.proofs.marker.ClosureMark.TheSendSync as mark
use Rattle.atomic_table.below.core.specs.contracts.marker.ClosureMark as ClosureMark
use Rattle.connection_server.proofs.Crossing.{captured}
use Rattle.container_server.proofs.Crossing.{seats_send, site_sync}
use Rattle.container_server.proofs.signals.Signals.TheSendSync as signals
use Rattle.container_server.proofs.tools.Tools.TheSendSync as tools
use Rattle.container_server.specs.contracts.seats.Seats as Seats
use Rattle.container_server.specs.contracts.signals.Signals as Signals
use Rattle.container_server.specs.contracts.site.Site as Site
use Rattle.container_server.specs.contracts.tools.Tools as Tools
use Rattle.std.proofs.alloc.Global.TheSendSync as global
use Rattle.std.proofs.option.Option.TheSendSync as option
use Rattle.std.proofs.sync.Mutex.TheSendSync as mutex
use Rattle.std.specs.contracts.alloc.Global as Global
use Rattle.std.specs.contracts.option.Option as Option
use Rattle.std.specs.contracts.sync.Mutex as Mutex
use Rattle.container_server.proofs.crew.+fn-work_all-join+arg3+work_all.Goals as goal

pub join-mine-requires-send-A : goal.join-mine-requires-send-A
join-mine-requires-send-A g t c κs within =
    let b = c.requires.bounds in
    captured 3 _ _ (Seats.the_row (param 1 g.row.K) g.K.Keeper ∷ Option.the_row (param 8 g.row.G-Closed) ∷ []) (seats_send (param 1 g.row.K) g.K.Keeper b.0, (option.the_send _ b.1, tt))

pub join-mine-requires-send-F : goal.join-mine-requires-send-F
join-mine-requires-send-F g t c κs within =
    let b = c.requires.bounds in
    let memory : IsSend Global.the_row = global.the_send in
    let closed : IsSend (ClosureMark.the_row (TupleAt (40 ∷ 95 ∷ 44 ∷ 41 ∷ []) (param 8 g.row.G-Closed ∷ []))) = search (sendable, mark.the_send, declared_send, as_row_send, b.1) depth 10 in
    captured 1 _ _ (
    Seats.the_row (param 1 g.row.K) g.K.Keeper ∷ ShrRef _ _ (param 2 g.row.R) ∷ Global.the_row ∷ ShrRef _ _ (param 0 g.row.G) ∷ ShrRef _ _ (Site.the_row (param 1 g.row.K) g.K.Keeper)
    ∷ ShrRef _ _ Signals.the_row ∷ ShrRef _ _ (Mutex.the_row (Tools.the_row (param 5 g.row.G-L) (param 6 g.row.G-C) (param 7 g.row.G-R)))
    ∷ ClosureMark.the_row (TupleAt (40 ∷ 95 ∷ 44 ∷ 41 ∷ []) (param 8 g.row.G-Closed ∷ [])) ∷ []) (
      seats_send (param 1 g.row.K) g.K.Keeper b.0,
      (
        shr_send _ _ _ b.6,
        (
          memory,
          (
            shr_send _ _ _ b.5,
            (
              shr_send _ _ _ (site_sync (param 1 g.row.K) g.K.Keeper b.0),
              (
                shr_send _ _ _ signals.the_sync,
                (shr_send _ _ _ (mutex.the_sync _ (tools.the_send _ _ _ b.2 b.3 b.4)), (closed, tt)),
              ),
            ),
          ),
        ),
      ),
    )

pub join-mine-requires-after_bounds : goal.join-mine-requires-after_bounds
join-mine-requires-after_bounds g t c κs within =
    let b = c.requires.bounds in
    let cut = c.split-others.ensures in
    let taken = c.take_pass-pass.ensures in
    let left = taken.left in
    ((search (sendable, b.6) depth 6, (cut.seats.0, (subst (λ (l : List Event). IsOfSite c.args.site.now.home l) (sym cut.seen.1) c.requires.seen, (param_send 1 (arg _ denote.Exit.no (param 1 g.row.K)) (arg_send _ denote.Exit.no (param 1 g.row.K) b.0), param_send 3 (arg _ denote.Exit.no (param 3 g.row.G-In)) (arg_send _ denote.Exit.no (param 3 g.row.G-In) b.7), param_send 4 (arg _ denote.Exit.no (param 4 g.row.G-Out)) (arg_send _ denote.Exit.no (param 4 g.row.G-Out) b.8), param_send 5 (arg _ denote.Exit.no (param 5 g.row.G-L)) (arg_send _ denote.Exit.no (param 5 g.row.G-L) b.2), param_send 6 (arg _ denote.Exit.no (param 6 g.row.G-C)) (arg_send _ denote.Exit.no (param 6 g.row.G-C) b.3), param_send 7 (arg _ denote.Exit.no (param 7 g.row.G-R)) (arg_send _ denote.Exit.no (param 7 g.row.G-R) b.4), param_send 8 (arg _ denote.Exit.no (param 8 g.row.G-Closed)) (arg_send _ denote.Exit.no (param 8 g.row.G-Closed) b.1), search (sendable, b.5) depth 6, search (sendable, b.6) depth 6)))), (search rules, ((λ a m. m), ((λ a m. m), ((λ a m. m), ((λ a m. m), ((λ a m. m), ((λ a m. m), ((λ a m. m), ((λ a m. m), ((λ a m. m), (b.6, (b, (search rules, (cut.seats.1, (subst (λ (l : List Event). IsOfSite c.args.site.now.home l) (sym cut.seen.0) c.requires.seen, (search rules, ((omega (arith, left, c.requires.passes.0), taken.others), (b.0, b.7, b.8, b.2, b.3, b.4, b.1, b.5, b.6)))))))))))))))))))
