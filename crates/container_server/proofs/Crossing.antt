-- The seats of a thread may go to another one, and what threads share may be shared.
use Rattle.connection_server.proofs.Crossing.{shared, worker_seat}
use Rattle.container_server.specs.contracts.seats.Seats as Seats
use Rattle.container_server.specs.contracts.seats.Seats.TheInside as SeatsInside
use Rattle.container_server.specs.contracts.site.Site as Site
use Rattle.container_server.specs.contracts.site.Site.TheInside as SiteInside
use Rattle.outside.specs.declared.keeper.Keeper.{Ghosts}
use denote.Param.Send.{IsSend, IsSync, arg_send, arg_sync, param_send, param_sync, sendable}
use denote.Exit.{no}
use denote.Param.{param, arg}
use denote.Param.SendFields.{as_row_send, as_row_sync, declared_send, declared_sync}
use denote.RattleType.{RattleType}
use mir.Syntax.{Ty}
use Prim.Native.Nat.{ℕ}

seats_inside : (K : RattleType) (g : Ghosts K.Denot) → IsSend K → IsSend (SeatsInside.the_row K g)
seats_inside K g k = let seat = worker_seat K g k in declared_send (SeatsInside.the_type K g) (search (as_row_send, seat), tt)

pub seats_send : (K : RattleType) (g : Ghosts K.Denot) → IsSend K → IsSend (Seats.the_row K g)
seats_send K g k = let inside = seats_inside K g k in search (sendable, inside) depth 8

site_inside : (K : RattleType) (g : Ghosts K.Denot) → IsSend K → IsSync (SiteInside.the_row K g)
site_inside K g k = let all = shared K g k in declared_sync (SiteInside.the_type K g) (search (as_row_sync, all), tt)

pub site_sync : (K : RattleType) (g : Ghosts K.Denot) → IsSend K → IsSync (Site.the_row K g)
site_sync K g k = let inside = site_inside K g k in search (sendable, inside) depth 8

-- a type that is passed on to another function
pub passed_send : (i j : ℕ) (δ : Ty) (T : RattleType) → IsSend (param j T) → IsSend (param i (arg δ no (param j T)))
passed_send i j δ T s = param_send i (arg δ no (param j T)) (arg_send δ no (param j T) s)

pub passed_sync : (i j : ℕ) (δ : Ty) (T : RattleType) → IsSync (param j T) → IsSync (param i (arg δ no (param j T)))
passed_sync i j δ T s = param_sync i (arg δ no (param j T)) (arg_sync δ no (param j T) s)
