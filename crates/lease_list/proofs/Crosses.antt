-- The links may cross threads as the values may, and a node's name may always.
use Rattle.std.specs.Prelude.{◌+◌, List, [], ◌∷◌}
use mir.Syntax.{Ty}
use base.Shift.{Keyless}
use denote.RattleType.{RattleType}
use denote.RawPtr.{Ptr, block_ptr, null_ptr, room_for}
use denote.Builtin.{RawPtr}
use denote.Struct.Struct.{exits_of}
use denote.Struct.Owning.{shape, fields, to}
use denote.Param.Send.{IsSend, IsSync, Common, AllSend, owning_send, struct_send, struct_sync, sendable}
use Rattle.std_alloc.proofs.SendSync.{quiet, lies, seen}
use Rattle.libc.specs.Heap.{chunk-Keyless}
use Rattle.lease_list.specs.Leases.{Lease}
use Rattle.lease_list.specs.Ownership.{prev_at, next_at, path, stems, values_lent}
use Rattle.lease_list.specs.contracts.links.Links as Links
use Rattle.lease_list.specs.contracts.links.Node as Node

room : (τ : Ty) (p : Ptr) → Keyless (room_for τ p)
room τ (block_ptr b o) = tt
room τ null_ptr = tt

pointer_send : IsSend RawPtr
pointer_send = search sendable

pointer_sync : IsSync RawPtr
pointer_sync = search sendable

next_at-Keyless : (a q : Ptr) → Keyless (next_at a q)
next_at-Keyless null_ptr q = tt
next_at-Keyless (block_ptr b o) q = lies RawPtr pointer_send (block_ptr b (o + 8)) q

prev_at-Keyless : (a p : Ptr) → Keyless (prev_at a p)
prev_at-Keyless null_ptr p = tt
prev_at-Keyless (block_ptr b o) p = lies RawPtr pointer_send (block_ptr b (o + 0)) p

path-Keyless : (a : Ptr) (ps : List Ptr) → Keyless (path a ps)
path-Keyless a [] = tt
path-Keyless a (p ∷ ps) = ((next_at-Keyless a p, prev_at-Keyless p a), path-Keyless p ps)

module _ (T : RattleType) where
  stems-Keyless : IsSend T → (ns : List (Lease T.Denot)) → Keyless (stems T ns)
  stems-Keyless s [] = tt
  stems-Keyless s (n ∷ ns) = ((lies T s _ n.value, (chunk-Keyless _ n.at, ((room _ _, (room _ _, room _ _)), room _ n.at))), stems-Keyless s ns)

  values_lent-Common : IsSync T → (ns : List (Lease T.Denot)) → Common (values_lent T ns)
  values_lent-Common y [] κ = tt
  values_lent-Common y (n ∷ ns) κ = (seen T y _ n.value κ, values_lent-Common y ns κ)

  pub Links-send : IsSend T → IsSend (Links.the_row T)
  Links-send s =
      let O = Links.the_type T in let all : AllSend (fields O) = (pointer_send, (pointer_send, tt)) in
      owning_send O all (λ d. (stems-Keyless s d.nodes, (path-Keyless _ _, next_at-Keyless d.tail _)))
      (λ k. quiet (to O) (exits_of k (fields O)) ((struct_send (shape O) all).leaving k))

  pub Links-sync : IsSync T → IsSync (Links.the_row T)
  Links-sync y = let O = Links.the_type T in record {
    shared = λ d b o κ. ((struct_sync (shape O) (pointer_sync, (pointer_sync, tt))).shared (to O d) b o κ, values_lent-Common y d.nodes κ);
  }

  pub Node-send : IsSend (Node.the_row T)
  Node-send =
      let O = Node.the_type T in let all : AllSend (fields O) = (pointer_send, tt) in
      owning_send O all (λ d. tt) (λ k. quiet (to O) (exits_of k (fields O)) ((struct_send (shape O) all).leaving k))

  pub Node-sync : IsSync (Node.the_row T)
  Node-sync = let O = Node.the_type T in record {
    shared = λ d b o κ. ((struct_sync (shape O) (pointer_sync, tt)).shared (to O d) b o κ, tt);
  }
