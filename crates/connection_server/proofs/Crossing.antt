-- The seats of a thread may go to another one, and what threads share may be shared.
use Rattle.connection_server.specs.contracts.shared.Shared as Shared
use Rattle.connection_server.specs.contracts.shared.WorkerSeat as WorkerSeat
use Rattle.container_core.specs.contracts.history.Event as Event
use Rattle.crash_base.proofs.items.Items.TheSendSync.{the_sync as items_sync}
use Rattle.crash_base.proofs.numbers.WorkerNo.TheSendSync.{the_field_send as worker_send}
use Rattle.matchit.proofs.route.Route.TheSendSync.{the_sync as route_sync}
use Rattle.matchit.proofs.tree.Node.TheLaws.TheKnot.{sync-Node}
use Rattle.outside.specs.declared.keeper.Keeper.{Ghosts}
use Rattle.report_queue.proofs.pass.ReportPass.TheSendSync.{the_send as pass_send}
use Rattle.report_queue.proofs.queue.ReportQueue.TheSendSync.{the_sync as queue_sync}
use Rattle.request_intake.proofs.intake.HomeBoot.TheSendSync.{the_field_sync as home_sync}
use Rattle.send_windows.proofs.fact.WindowFact.TheSendSync.{the_send as fact_send}
use Rattle.send_windows.proofs.history.Chain.TheLaws.TheKnot.{send-Chain}
use Rattle.shared_words.proofs.seat.WordSeat.TheSendSync.{the_send as word_send}
use Rattle.shared_words.proofs.words.Words.TheSendSync.{the_sync as words_sync}
use Rattle.site_locks.proofs.cells.ContainerCell.TheSendSync.{the_send as cell_send}
use Rattle.site_locks.proofs.container_lock.ContainerLock.TheSendSync.{the_sync as container_lock_sync}
use Rattle.site_locks.specs.contracts.cells.ContainerCell as ContainerCell
use Rattle.site_locks.specs.contracts.cells.ContainerCellChronicle.TheImpl as Impl
use Rattle.site_locks.specs.contracts.cells.WindowsCell as WindowsCell
use Rattle.site_locks.specs.contracts.windows_lock.WindowsLock as WindowsLock
use Rattle.site_routes.proofs.site_route.SiteRoute.TheSendSync.{the_sync as site_route_sync}
use Rattle.slab.proofs.Slab.TheSendSync.{the_sync as slab_sync}
use Rattle.std.proofs.Crossing.{crosses}
use Rattle.std.proofs.option.Option.TheSendSync.{the_sync as option_sync}
use Rattle.turn_lock.proofs.lock.TurnLock.TheSendSync.{the_sync as lock_sync}
use Rattle.turn_lock.proofs.seat.Seat.TheSendSync.{the_send as seat_send}
use Rattle.turn_lock.specs.contracts.seat.Seat as Seat
use Rattle.turn_lock.specs.declared.chronicle.Chronicle as Chronicle
use denote.Param.Send.{AllSend, AllSync, IsSend, IsSync, arg_send, param_send, sendable, struct_send, struct_sync, recorded_send, recorded_sync}
use denote.Exit.{no}
use denote.Param.{param, arg}
use denote.RattleType.{RattleType}
use denote.Struct.Declared.{shape}
use denote.Struct.Field.{rows}
use denote.Struct.Struct.{Struct}
use denote.Struct.Tuple.{TupleAt, type_at, parts}
use mathlib.Core.List.{List, [], ◌∷◌}
use mir.Syntax.{Sym, Ty}
use Prim.Native.Nat.{ℕ}

-- windows
windows_cell : IsSend WindowsCell.the_row
windows_cell = search (sendable, crosses, fact_send, send-Chain) depth 30

-- their lock
windows_lock : IsSync WindowsLock.the_row
windows_lock = search (sendable, lock_sync, windows_cell) depth 30

-- a seat of a container
container : (K : RattleType) (g : Ghosts K.Denot) (h : Chronicle.Ghosts (ContainerCell.the_row K g).Denot (Event.the_row).Denot) → IsSend K → IsSend (Seat.the_row (ContainerCell.the_row K g) Event.the_row h)
container K g h k = seat_send (ContainerCell.the_row K g) Event.the_row h (cell_send K g k)

-- the seats of a thread
pub worker_seat : (K : RattleType) (g : Ghosts K.Denot) → IsSend K → IsSend (WorkerSeat.the_row K g)
worker_seat K g k =
    let S = shape (WorkerSeat.the_type K g) in
    let fields : AllSend S.fields = (worker_send, (container K g (Impl.ghosts K g Impl.no_dict Impl.no_dict) k, (search (sendable, seat_send, windows_cell), (word_send, (search (sendable, pass_send), tt))))) in
    recorded_send (Struct S) _ _ (WorkerSeat.the_type K g).to_one (struct_send S fields)

-- what threads share
pub shared : (K : RattleType) (g : Ghosts K.Denot) → IsSend K → IsSync (Shared.the_row K g)
shared K g k =
    let S = shape (Shared.the_type K g) in
    let fields : AllSync S.fields = (container_lock_sync K g k, (windows_lock, (words_sync, (search (sendable, queue_sync), (search (sendable, crosses, route_sync, slab_sync, site_route_sync, option_sync, sync-Node) depth 30, (search (sendable, items_sync), (home_sync, tt))))))) in
    recorded_sync (Struct S) _ _ (Shared.the_type K g).to_one (struct_sync S fields)

fields : (Ts : List RattleType) → AllSend Ts → AllSend (rows (parts Ts))
fields [] s = tt
fields (R ∷ Ts) s = (s.0, fields Ts s.1)

-- what a closure has captured, or a tuple that it gives back
pub captured : (i : ℕ) (δ : Ty) (ν : Sym) (Ts : List RattleType) → AllSend Ts → IsSend (param i (arg δ no (TupleAt ν Ts)))
captured i δ ν Ts s =
    let S = shape (type_at ν Ts) in
    param_send i (arg δ no (TupleAt ν Ts)) (arg_send δ no (TupleAt ν Ts) (recorded_send (Struct S) _ _ (type_at ν Ts).to_one (struct_send S (fields Ts s))))
