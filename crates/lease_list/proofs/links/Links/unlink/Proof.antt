-- `unlink` joins the node's neighbours, or the list's ends, and gives its block back as room. Assumes `Logic`.
use Rattle.std.proofs.Common.{◌≡◌, ℕ, ◌+◌, List, [], ◌∷◌, ◌++◌, refl, sym, ap, subst, ◌∙◌, lit<, IsTrue}
use seplogic.Ra.Ura.{Ura}
use mir.Syntax.{Fn, named}
use mir.MapTy.{inst_fn}
use mir.Val.{Val, vptr}
use base.Logic.{SProp, ent, sep}
use base.Fml.{Lft, GName, Share, ftrue, flft, fobs, fbor}
use prog.Wp.{Wp, after_seq, after_block, Env, Calls, Loops, WpFn, Tables}
use types.Logic.{Logic}
use contract.Monad.{fact}
use contract.Running.{tables, tables_of}
use sound.WpLaws.{WpFn-mono}
use types.Kit.{pick, some, any_q, post, Post as After, Item, ⋆, ‵, ◌⊛◌, at_ret, ◌$◌, ◌∵◌, !, qed, by, move, keep, given, learn, use1, use2, split, split3, join, group, rewrite, fsplit, fsplit3, fjoin, fjoin3, feq_i, feq_l, suffices, frame, done}
use types.Part.{whole, sub, agg, store_in}
use types.Run.{look, addr, store, stop, fld, load, lit, of_opd, bin, and_then, no_more, assigns_last, first, blocks, branches, exec, returns, enter}
use types.ByLocal.{sets_last, alloc_all, pass_all, free_all, look_at, get, get_in, through, sets, is, env}
use types.SemTy.{Body as Borrowed}
use denote.Exit.{yes, no}
use denote.RattleType.{RattleType, owns}
use denote.Memory.{mem}
use denote.Param.{layout}
use denote.RawPtr.{Ptr, block_ptr, null_ptr, ptr_val, tests_null}
use denote.Ref.{MutBor, MutRef}
use denote.Builtin.{RefMutOf}
use denote.Signature.{plain}
use denote.Steps.{nothing}
use denote.Triple.Carry.{spared}
use denote.Triple.Clauses.{Clauses, Ended, closing}
use denote.Triple.Entry.{on_entry}
use denote.Triple.Spec.{Meets, triple_of}
use denote.Triple.Table.{entered, run_framed}
use denote.Triple.Walked.{needs, Stays, stay_dropped, stay_ref, walk_of, ends_at, Goes-ref, walk_Meets}
use Rattle.core.proofs.alloc.Calls.{Goes-blank}
use Rattle.core.proofs.cell.Inside.{Good}
use Rattle.core.proofs.alloc.Shapes.{after, head, inside}
use Rattle.core.proofs.alloc.Calls.{handle_tells}
use Rattle.std_alloc.proofs.RcSteps.{Ptr-Good, word, word-Good}
use Rattle.lease_list.specs.Leases.{Lease, lease, places, first_place, last_place, is_start, all_start}
use Rattle.lease_list.specs.Ownership.{next_at, prev_at, path, list_owns}
use Rattle.lease_list.proofs.Facts.{by_nodes, last_block}
use Rattle.lease_list.proofs.Memory.{Row, args, R, τ, X, D, Lr, Nd, Rm, Z, vo, words, any_pointer, both, room_good, pointer_out, pointer_in, path_cut, stems_cut, Stem, Stems, al, word_had, says_both, links_opens, links_closes}
use Rattle.lease_list.specs.contracts.links.Links.unlink.Key.{name as #self}
use Rattle.lease_list.proofs.links.Links.unlink.Statement as stated
use Rattle.lease_list.proofs.links.Links.unlink.Code as code
use denote.Struct.Tuple.{Tuple}
use denote.Memory.{cell_at}
use base.Fraction.{full_share}
use base.Fml.{fat}
use mir.Syntax.{Body as Code}
use Rattle.std_alloc.proofs.Pairs.{pair_val, pair_Typed, pair_of}
use Rattle.lease_list.specs.Leases.{Stands, Leaves}
use Rattle.lease_list.proofs.Facts.{start_is, last_cut, last_joined, places_joined, starts_cut, rises_cut}
use Rattle.lease_list.proofs.Joins.{onward, node_out, joined, value_out, block_back, room_made}

module _ {M : Type 1} {𝓤 : Ura M} (𝓛 : Logic 𝓤) where
  open 𝓛 use {H}

  abbrev then_runs : Calls 𝓤 H → Loops 𝓤 H → Env 𝓤 H → Code → After 𝓤 H → After 𝓤 H
  then_runs C Λ E b q = any_q (after_seq 𝓤 H (Wp 𝓤 H C Λ E b (post 𝓤 H q)) (post 𝓤 H q))

  abbrev out_of_block : After 𝓤 H → After 𝓤 H
  out_of_block q = any_q (after_block 𝓤 H (post 𝓤 H q))

module _ (E : Row) where
  abbrev function : Fn
  function = inst_fn (args E) code.function

  abbrev Out : RattleType
  Out = Tuple (R E ∷ Rm E ∷ [])

  abbrev ended : Ended
  ended = record { signature = record { lifetimes = 1; outlives = []; params = RefMutOf (0 ∷ []) tt (plain (λ _. Lr E)) (λ _. tt) ∷ plain (λ _. Nd E) ∷ plain (λ _. Z) ∷ []; result = plain (λ _. Out) }; kept = (yes, (no, (no, tt))) }

  abbrev stayed : Stays ended.signature.params ended.kept
  stayed = (stay_ref (0 ∷ []) tt (plain (λ _. Lr E)), (stay_dropped (plain (λ _. Nd E)) no, (stay_dropped (plain (λ _. Z)) no, tt)))

  abbrev Asks : D E → (Nd E).Denot → Type 0
  Asks d node = Stands d.nodes node.number node.at

  abbrev Gives0 : D E → D E → Type 0
  Gives0 d new = new.next ≡ d.next

  abbrev Gives1 : D E → (Nd E).Denot → Out.Denot → D E → Type 0
  Gives1 d node r new = Leaves d.nodes node.number node.at r.0 new.nodes

  abbrev spec : {M : Type 1} {𝓤 : Ura M} (𝓛 : Logic 𝓤) → Clauses 𝓤 ended
  spec {𝓤 = 𝓤} 𝓛 κs a = record { ghost = Unit {0}; requires = λ _. fact 𝓤 (Asks a.0.now a.1.0); ensures = λ _ r w. sep 𝓤 (fact 𝓤 (Gives0 a.0.now w.0.now)) (fact 𝓤 (Gives1 a.0.now a.1.0 r w.0.now)) }

module _ (E : Row) {M : Type 1} {𝓤 : Ura M} (𝓛 : Logic 𝓤) (C : Calls 𝓤 𝓛.H) (Λ : Loops 𝓤 𝓛.H) (κ : Lft) (q₀ : Share) (rb ro : ℕ) (γ : GName) (d : D E) (node : (Nd E).Denot) (alloc : Z.Denot) (ps us vs : List Val) where
  open 𝓛 use {H, A}

  abbrev self : MutBor (D E)
  self = record { ref_ptr = (rb, ro); ghost_name = γ; now = d }

  abbrev bound : (walk_of 𝓛 (ended E) (stayed E) (spec E 𝓛)).Ghost
  bound = (((κ, tt), (q₀, tt), tt, (self, (node, (alloc, tt))), (ps, (us, (vs, tt)))), tt)

  abbrev Post : Val → SProp 𝓤
  Post = (walk_of 𝓛 (ended E) (stayed E) (spec E 𝓛)).post bound

  exits : ps ≡ vptr rb ro ∷ [] → (r : (Out E).Denot) (v : Val) (new : D E) → Gives0 E d new → Gives1 E d node r new
      → ent 𝓤 (⋆ 𝓛 (‵ (fobs γ ((Lr E).coded.code new)) ∷ ‵ (fbor κ (Borrowed (mem (Lr E)) rb ro γ)) ∷ ‵ (flft κ q₀) ∷ ‵ ((Out E).own_val r (v ∷ [])) ∷ [])) (Post v)
  exits passed r v new g0 g1 =
      qed 𝓛 (‵ (fobs γ ((Lr E).coded.code new)) ∷ ‵ (fbor κ (Borrowed (mem (Lr E)) rb ro γ)) ∷ ‵ (flft κ q₀) ∷ ‵ ((Out E).own_val r (v ∷ [])) ∷ []) ∵
      suffices ! _ (ends_at 𝓛 (ended E) (stayed E) (spec E 𝓛) bound v r (new, (tt, (tt, tt))) (tt, (tt, (tt, tt)))) $ says_both ! g0 g1 $
      nothing ! $ move ! (3 ∷ 0 ∷ []) $ join ! $ frame ! $ feq_i ! (List Val) ps (vptr rb ro ∷ []) passed $ fjoin3 ! $ nothing ! $ nothing ! $ fjoin ! $ nothing ! $ fjoin ! $ move ! (1 ∷ 0 ∷ []) $ fjoin ! $ done !

  abbrev Had : Val → List (Item 𝓤)
  Had h = ‵ (fobs γ ((Lr E).coded.code d)) ∷ ‵ (fbor κ (Borrowed (mem (Lr E)) rb ro γ)) ∷ ‵ (flft κ q₀) ∷ ‵ (Z.own_val alloc (h ∷ [])) ∷ []

  walk : ps ≡ vptr rb ro ∷ [] → (asked : Asks E d node) → (b : ℕ) → node.at ≡ block_ptr b 0 → (h : Val) → Good (layout Z) h → ent 𝓤 (⋆ 𝓛 (Had h)) (WpFn 𝓤 H C Λ (function E) (vptr rb ro ∷ word node.at ∷ h ∷ []) Post)
  walk passed asked b ep h fits =
      let xs = asked.0 in let x : X E = asked.1 in let ys = asked.2 in
      let p : Ptr = block_ptr b 0 in
      let n : Lease (X E) = lease node.number p x in
      let here : d.nodes ≡ xs ++ n ∷ ys = asked.3 ∙ ap (λ (r : Ptr). xs ++ lease node.number r x ∷ ys) ep in
      let a : Ptr = last_place null_ptr (places xs) in
      let q : Ptr = first_place (places ys) in
      let cut : places d.nodes ≡ places xs ++ p ∷ places ys = ap places here ∙ places_joined xs (n ∷ ys) in
      let tail_is : d.tail ≡ last_place p (places ys) = d.ends.1 ∙ ap (last_place null_ptr) cut ∙ last_cut null_ptr (places xs) p (places ys) in
      let last_is : last_place null_ptr (places (xs ++ ys)) ≡ last_place a (places ys) = ap (last_place null_ptr) (places_joined xs ys) ∙ last_joined null_ptr (places xs) (places ys) in
      let starts = starts_cut xs n ys (subst (λ ns. IsTrue (all_start ns)) here d.starts) in
      let new : D E = record { head = first_place (places (xs ++ ys)); tail = last_place null_ptr (places (xs ++ ys)); nodes = xs ++ ys; next = d.next; ends = (refl, refl); starts = starts.1; rising = rises_cut d.next xs n ys (subst (λ ns. IsTrue (Rattle.lease_list.specs.Leases.rises d.next ns)) here d.rising) } in
      let made : (Rm E).Denot = record { ptr = p; alloc = alloc } in
      let room : Val = both (vptr b 0) h in
      qed 𝓛 (Had h) ∵ enter ! C Λ (function E) (vptr rb ro ∷ word node.at ∷ h ∷ []) _ $ alloc_all ! (λ l. pass_all ! refl ((tt, tt), (word-Good [] node.at, (fits, tt))) $
      let En : Env 𝓤 H = env (function E).locals l in
      let Inner : Code = inside (head (after 1 (function E).body)) in
      let Then : After 𝓤 H = out_of_block 𝓛 (then_runs 𝓛 C Λ En (after 2 (function E).body) (at_ret En Post)) in
      links_opens E ! tt d rb ro $ fsplit ! $ move ! (1 ∷ []) $ fsplit ! $
      rewrite ! 0 (λ (rs : List Ptr). ‵ (path null_ptr rs)) cut refl $ rewrite ! 1 (λ (r : Ptr). ‵ (next_at r null_ptr)) tail_is refl $ rewrite ! 2 (λ (ns : List (Lease (X E))). ‵ (Stems 𝓛 E ns)) here refl $
      use1 𝓛 (‵ (path null_ptr (places xs)) ⊛ ‵ (path a (p ∷ places ys))) (path_cut 𝓛 null_ptr (places xs) (p ∷ places ys)) $ split ! $ move ! (1 ∷ 2 ∷ []) $
      use2 𝓛 (‵ (next_at a p) ⊛ ‵ (prev_at p a) ⊛ ‵ (next_at p q) ⊛ ‵ (prev_at q p) ⊛ ‵ (onward (places ys))) (node_out 𝓛 a p (places ys)) $ split3 ! $ move ! (2 ∷ []) $ split3 ! $
      -- [next of p; prev of q; onward; next of a; prev of p; the path before; the stems; the words; the open borrow;
      -- obs; auth; the handle]
      move ! (6 ∷ []) $ use1 𝓛 (‵ (Stem 𝓛 E n) ⊛ ‵ (Stems 𝓛 E (xs ++ ys))) (stems_cut 𝓛 E xs n ys) $ split ! $ fsplit ! $ move ! (1 ∷ []) $ fsplit ! $ move ! (2 ∷ []) $
      use1 𝓛 (some (λ (w : Val). given (Good (τ E) w) (‵ (fat full_share (τ E) b (0 + vo E) w) ⊛ ‵ (E.row.own_val x (w ∷ []))))) (value_out E 𝓛 x b (0 + vo E)) $ pick ! (λ w. learn ! (λ good. split ! $
      let pair : Val = pair_val w room in
      let whole_good = pair_Typed (τ E) (layout (Rm E)) w room good (room_good b 0 h fits) in
      move ! (9 ∷ []) $ pointer_out ! a b (0 + 0) $ move ! (6 ∷ []) $ pointer_out ! q b (0 + 8) $ move ! (1 ∷ 0 ∷ 9 ∷ 7 ∷ 2 ∷ 11 ∷ []) $
      -- [prev of p; next of p; next of a; prev of q; the value's cell; the words; the value; the token; the way back;
      -- the stems; onward; the path before; the open borrow; obs; auth; the handle]
      sets ! (is ! (of_opd ! (get_in ! (fld ! refl (stop !)) (sub ! 0 refl (whole !)))) (ap ptr_val ep)) refl (tt, tt) $ first ! $ blocks ! $
      by_nodes xs (λ nonex. let ea : a ≡ null_ptr = ap (λ zs. last_place null_ptr (places zs)) nonex in
      by_nodes ys (λ noney. let eq : q ≡ null_ptr = ap (λ zs. first_place (places zs)) noney in
      let eh : null_ptr ≡ new.head = sym eq ∙ ap (λ zs. first_place (places (zs ++ ys))) (sym nonex) in
      let et : null_ptr ≡ new.tail = sym ea ∙ sym (ap (λ zs. last_place a (places zs)) noney) ∙ sym last_is in
      rewrite ! 2 (λ (r : Ptr). ‵ (next_at r p)) ea refl $ rewrite ! 3 (λ (r : Ptr). ‵ (prev_at r p)) eq refl $
      sets ! (is ! (of_opd ! (load ! (through ! refl (fld ! refl (stop !))) (look ! 0 refl))) (ap ptr_val ea)) refl (Ptr-Good null_ptr) $ sets ! (is ! (of_opd ! (load ! (through ! refl (fld ! refl (stop !))) (look ! 1 refl))) (ap ptr_val eq)) refl (Ptr-Good null_ptr) $
      sets ! (bin ! (get ! refl) (lit ! tt) tt) refl (tt, tt) $ first ! $ branches ! (get ! refl)
      (λ yes. assigns_last ! (of_opd ! (get ! refl)) (through ! refl (fld ! refl (stop !))) (store_in ! 5 (sub ! 0 refl (whole !)) (search any_pointer)) $ exec ! C Λ En (after 4 Inner) Then $
      sets ! (bin ! (get ! refl) (lit ! tt) tt) refl (tt, tt) $ first ! $ branches ! (get ! refl)
      (λ yes. assigns_last ! (of_opd ! (get ! refl)) (through ! refl (fld ! refl (stop !))) (store_in ! 5 (sub ! 1 refl (whole !)) (search any_pointer)) $ exec ! C Λ En (after 6 Inner) Then $
      sets ! (addr ! (through ! refl (fld ! refl (stop !)))) refl (tt, tt) $ sets ! (of_opd ! (load ! (through ! refl (stop !)) (look ! 4 refl))) refl good $ sets ! (of_opd ! (get ! refl)) refl good $
      sets ! (agg ! (and_then ! (get ! refl) (and_then ! (get ! refl) (no_more !)))) refl (room_good b 0 h fits) $ sets_last ! (agg ! (and_then ! (get ! refl) (and_then ! (get ! refl) (no_more !)))) refl whole_good $ exec ! C Λ En (after 2 (function E).body) (at_ret En Post) $ sets ! (of_opd ! (get ! refl)) refl whole_good $
      rewrite ! 2 (λ (r : Ptr). ‵ (next_at r q)) (sym ea) refl $
      rewrite ! 3 (λ (r : Ptr). ‵ (prev_at r a)) (sym eq) refl $
      move ! (0 ∷ 1 ∷ 4 ∷ 8 ∷ []) $ block_back E ! b 0 a q w $ move ! (0 ∷ 5 ∷ 12 ∷ []) $ room_made E ! alloc b 0 $ move ! (4 ∷ 0 ∷ []) $
      use2 𝓛 (‵ ((Out E).own_val (x, made) (pair ∷ []))) (pair_of 𝓛 (R E) (Rm E) x made w room) $
      move ! (1 ∷ 2 ∷ 5 ∷ 6 ∷ 4 ∷ []) $ group ! 5 $ use1 𝓛 (‵ (list_owns (R E) new.tail new.nodes)) (joined 𝓛 E xs ys) $ move ! (0 ∷ 2 ∷ 3 ∷ 4 ∷ 5 ∷ []) $
      rewrite ! 1 (λ (u : Ptr × Ptr). ‵ (cell_at full_share (Lr E).mir (words u.0 u.1 ∷ []) rb ro)) (λ i. (eh i, et i)) refl $
      links_closes E ! tt new rb ro $ returns ! (look_at ! 0 refl) $ free_all ! refl $ keep ! (0 ∷ 1 ∷ 2 ∷ 3 ∷ []) $ by ! (exits passed (x, made) pair new refl (xs, ys, asked.3, refl)))
      (λ not. absurd not))
      (λ not. absurd not)) (λ y zs₀ morey. let firsty = start_is y.at (Rattle.lease_list.proofs.Facts.and_out (is_start y.at) (all_start zs₀) (subst (λ ns. IsTrue (all_start ns)) morey starts.3)).0 in let s : ℕ = firsty.0 in let eq : q ≡ block_ptr s 0 = ap (λ zs. first_place (places zs)) morey ∙ firsty.1 in
      let eh : (block_ptr s 0) ≡ new.head = sym eq ∙ ap (λ zs. first_place (places (zs ++ ys))) (sym nonex) in
      let et : d.tail ≡ new.tail = tail_is ∙ ap (λ zs. last_place p (places zs)) morey ∙ sym (ap (λ zs. last_place a (places zs)) morey) ∙ sym last_is in
      rewrite ! 2 (λ (r : Ptr). ‵ (next_at r p)) ea refl $ rewrite ! 3 (λ (r : Ptr). ‵ (prev_at r p)) eq refl $
      move ! (3 ∷ []) $ pointer_out ! p s (0 + 0) $ move ! (1 ∷ 2 ∷ 3 ∷ 0 ∷ []) $
      sets ! (is ! (of_opd ! (load ! (through ! refl (fld ! refl (stop !))) (look ! 0 refl))) (ap ptr_val ea)) refl (Ptr-Good null_ptr) $ sets ! (is ! (of_opd ! (load ! (through ! refl (fld ! refl (stop !))) (look ! 1 refl))) (ap ptr_val eq)) refl (tt, tt) $
      sets ! (bin ! (get ! refl) (lit ! tt) tt) refl (tt, tt) $ first ! $ branches ! (get ! refl)
      (λ yes. assigns_last ! (of_opd ! (get ! refl)) (through ! refl (fld ! refl (stop !))) (store_in ! 5 (sub ! 0 refl (whole !)) (search any_pointer)) $ exec ! C Λ En (after 4 Inner) Then $
      sets ! (bin ! (get ! refl) (lit ! tt) (tests_null (block_ptr s 0) (lit< tt))) refl (tt, tt) $ first ! $ branches ! (get ! refl)
      (λ yes. absurd yes)
      (λ not. assigns_last ! (of_opd ! (get ! refl)) (through ! refl (fld ! refl (stop !))) (store ! 3 refl (search any_pointer)) $ exec ! C Λ En (after 6 Inner) Then $
      sets ! (addr ! (through ! refl (fld ! refl (stop !)))) refl (tt, tt) $ sets ! (of_opd ! (load ! (through ! refl (stop !)) (look ! 4 refl))) refl good $ sets ! (of_opd ! (get ! refl)) refl good $
      sets ! (agg ! (and_then ! (get ! refl) (and_then ! (get ! refl) (no_more !)))) refl (room_good b 0 h fits) $ sets_last ! (agg ! (and_then ! (get ! refl) (and_then ! (get ! refl) (no_more !)))) refl whole_good $ exec ! C Λ En (after 2 (function E).body) (at_ret En Post) $ sets ! (of_opd ! (get ! refl)) refl whole_good $
      rewrite ! 2 (λ (r : Ptr). ‵ (next_at r q)) (sym ea) refl $
      move ! (3 ∷ []) $ pointer_in ! null_ptr s (0 + 0) $ rewrite ! 0 (λ (u : Ptr × Ptr). ‵ (prev_at u.0 u.1)) (λ i. (sym eq i, sym ea i)) refl $ move ! (1 ∷ 2 ∷ 3 ∷ 0 ∷ []) $
      move ! (0 ∷ 1 ∷ 4 ∷ 8 ∷ []) $ block_back E ! b 0 a q w $ move ! (0 ∷ 5 ∷ 12 ∷ []) $ room_made E ! alloc b 0 $ move ! (4 ∷ 0 ∷ []) $
      use2 𝓛 (‵ ((Out E).own_val (x, made) (pair ∷ []))) (pair_of 𝓛 (R E) (Rm E) x made w room) $
      move ! (1 ∷ 2 ∷ 5 ∷ 6 ∷ 4 ∷ []) $ group ! 5 $ use1 𝓛 (‵ (list_owns (R E) new.tail new.nodes)) (joined 𝓛 E xs ys) $ move ! (0 ∷ 2 ∷ 3 ∷ 4 ∷ 5 ∷ []) $
      rewrite ! 1 (λ (u : Ptr × Ptr). ‵ (cell_at full_share (Lr E).mir (words u.0 u.1 ∷ []) rb ro)) (λ i. (eh i, et i)) refl $
      links_closes E ! tt new rb ro $ returns ! (look_at ! 0 refl) $ free_all ! refl $ keep ! (0 ∷ 1 ∷ 2 ∷ 3 ∷ []) $ by ! (exits passed (x, made) pair new refl (xs, ys, asked.3, refl))))
      (λ not. absurd not))) (λ m ms morex. let lastx = last_block m ms (subst (λ ns. IsTrue (all_start ns)) morex starts.2) in let t : ℕ = lastx.0 in let ea : a ≡ block_ptr t 0 = ap (λ zs. last_place null_ptr (places zs)) morex ∙ lastx.1 in
      by_nodes ys (λ noney. let eq : q ≡ null_ptr = ap (λ zs. first_place (places zs)) noney in
      let eh : d.head ≡ new.head = d.ends.0 ∙ ap (λ ns. first_place (places ns)) here ∙ ap (λ zs. first_place (places (zs ++ n ∷ ys))) morex ∙ ap (λ zs. first_place (places (zs ++ ys))) (sym morex) in
      let et : (block_ptr t 0) ≡ new.tail = sym ea ∙ sym (ap (λ zs. last_place a (places zs)) noney) ∙ sym last_is in
      rewrite ! 2 (λ (r : Ptr). ‵ (next_at r p)) ea refl $ rewrite ! 3 (λ (r : Ptr). ‵ (prev_at r p)) eq refl $
      move ! (2 ∷ []) $ pointer_out ! p t (0 + 8) $ move ! (1 ∷ 2 ∷ 0 ∷ []) $
      sets ! (is ! (of_opd ! (load ! (through ! refl (fld ! refl (stop !))) (look ! 0 refl))) (ap ptr_val ea)) refl (tt, tt) $ sets ! (is ! (of_opd ! (load ! (through ! refl (fld ! refl (stop !))) (look ! 1 refl))) (ap ptr_val eq)) refl (Ptr-Good null_ptr) $
      sets ! (bin ! (get ! refl) (lit ! tt) (tests_null (block_ptr t 0) (lit< tt))) refl (tt, tt) $ first ! $ branches ! (get ! refl)
      (λ yes. absurd yes)
      (λ not. assigns_last ! (of_opd ! (get ! refl)) (through ! refl (fld ! refl (stop !))) (store ! 2 refl (search any_pointer)) $ exec ! C Λ En (after 4 Inner) Then $
      sets ! (bin ! (get ! refl) (lit ! tt) tt) refl (tt, tt) $ first ! $ branches ! (get ! refl)
      (λ yes. assigns_last ! (of_opd ! (get ! refl)) (through ! refl (fld ! refl (stop !))) (store_in ! 5 (sub ! 1 refl (whole !)) (search any_pointer)) $ exec ! C Λ En (after 6 Inner) Then $
      sets ! (addr ! (through ! refl (fld ! refl (stop !)))) refl (tt, tt) $ sets ! (of_opd ! (load ! (through ! refl (stop !)) (look ! 4 refl))) refl good $ sets ! (of_opd ! (get ! refl)) refl good $
      sets ! (agg ! (and_then ! (get ! refl) (and_then ! (get ! refl) (no_more !)))) refl (room_good b 0 h fits) $ sets_last ! (agg ! (and_then ! (get ! refl) (and_then ! (get ! refl) (no_more !)))) refl whole_good $ exec ! C Λ En (after 2 (function E).body) (at_ret En Post) $ sets ! (of_opd ! (get ! refl)) refl whole_good $
      move ! (2 ∷ []) $ pointer_in ! null_ptr t (0 + 8) $ rewrite ! 0 (λ (u : Ptr × Ptr). ‵ (next_at u.0 u.1)) (λ i. (sym ea i, sym eq i)) refl $ move ! (1 ∷ 2 ∷ 0 ∷ []) $
      rewrite ! 3 (λ (r : Ptr). ‵ (prev_at r a)) (sym eq) refl $
      move ! (0 ∷ 1 ∷ 4 ∷ 8 ∷ []) $ block_back E ! b 0 a q w $ move ! (0 ∷ 5 ∷ 12 ∷ []) $ room_made E ! alloc b 0 $ move ! (4 ∷ 0 ∷ []) $
      use2 𝓛 (‵ ((Out E).own_val (x, made) (pair ∷ []))) (pair_of 𝓛 (R E) (Rm E) x made w room) $
      move ! (1 ∷ 2 ∷ 5 ∷ 6 ∷ 4 ∷ []) $ group ! 5 $ use1 𝓛 (‵ (list_owns (R E) new.tail new.nodes)) (joined 𝓛 E xs ys) $ move ! (0 ∷ 2 ∷ 3 ∷ 4 ∷ 5 ∷ []) $
      rewrite ! 1 (λ (u : Ptr × Ptr). ‵ (cell_at full_share (Lr E).mir (words u.0 u.1 ∷ []) rb ro)) (λ i. (eh i, et i)) refl $
      links_closes E ! tt new rb ro $ returns ! (look_at ! 0 refl) $ free_all ! refl $ keep ! (0 ∷ 1 ∷ 2 ∷ 3 ∷ []) $ by ! (exits passed (x, made) pair new refl (xs, ys, asked.3, refl)))
      (λ not. absurd not))) (λ y zs₀ morey. let firsty = start_is y.at (Rattle.lease_list.proofs.Facts.and_out (is_start y.at) (all_start zs₀) (subst (λ ns. IsTrue (all_start ns)) morey starts.3)).0 in let s : ℕ = firsty.0 in let eq : q ≡ block_ptr s 0 = ap (λ zs. first_place (places zs)) morey ∙ firsty.1 in
      let eh : d.head ≡ new.head = d.ends.0 ∙ ap (λ ns. first_place (places ns)) here ∙ ap (λ zs. first_place (places (zs ++ n ∷ ys))) morex ∙ ap (λ zs. first_place (places (zs ++ ys))) (sym morex) in
      let et : d.tail ≡ new.tail = tail_is ∙ ap (λ zs. last_place p (places zs)) morey ∙ sym (ap (λ zs. last_place a (places zs)) morey) ∙ sym last_is in
      rewrite ! 2 (λ (r : Ptr). ‵ (next_at r p)) ea refl $ rewrite ! 3 (λ (r : Ptr). ‵ (prev_at r p)) eq refl $
      move ! (2 ∷ []) $ pointer_out ! p t (0 + 8) $ move ! (1 ∷ 2 ∷ 0 ∷ []) $
      move ! (3 ∷ []) $ pointer_out ! p s (0 + 0) $ move ! (1 ∷ 2 ∷ 3 ∷ 0 ∷ []) $
      sets ! (is ! (of_opd ! (load ! (through ! refl (fld ! refl (stop !))) (look ! 0 refl))) (ap ptr_val ea)) refl (tt, tt) $ sets ! (is ! (of_opd ! (load ! (through ! refl (fld ! refl (stop !))) (look ! 1 refl))) (ap ptr_val eq)) refl (tt, tt) $
      sets ! (bin ! (get ! refl) (lit ! tt) (tests_null (block_ptr t 0) (lit< tt))) refl (tt, tt) $ first ! $ branches ! (get ! refl)
      (λ yes. absurd yes)
      (λ not. assigns_last ! (of_opd ! (get ! refl)) (through ! refl (fld ! refl (stop !))) (store ! 2 refl (search any_pointer)) $ exec ! C Λ En (after 4 Inner) Then $
      sets ! (bin ! (get ! refl) (lit ! tt) (tests_null (block_ptr s 0) (lit< tt))) refl (tt, tt) $ first ! $ branches ! (get ! refl)
      (λ yes. absurd yes)
      (λ not. assigns_last ! (of_opd ! (get ! refl)) (through ! refl (fld ! refl (stop !))) (store ! 3 refl (search any_pointer)) $ exec ! C Λ En (after 6 Inner) Then $
      sets ! (addr ! (through ! refl (fld ! refl (stop !)))) refl (tt, tt) $ sets ! (of_opd ! (load ! (through ! refl (stop !)) (look ! 4 refl))) refl good $ sets ! (of_opd ! (get ! refl)) refl good $
      sets ! (agg ! (and_then ! (get ! refl) (and_then ! (get ! refl) (no_more !)))) refl (room_good b 0 h fits) $ sets_last ! (agg ! (and_then ! (get ! refl) (and_then ! (get ! refl) (no_more !)))) refl whole_good $ exec ! C Λ En (after 2 (function E).body) (at_ret En Post) $ sets ! (of_opd ! (get ! refl)) refl whole_good $
      move ! (2 ∷ []) $ pointer_in ! (block_ptr s 0) t (0 + 8) $ rewrite ! 0 (λ (u : Ptr × Ptr). ‵ (next_at u.0 u.1)) (λ i. (sym ea i, sym eq i)) refl $ move ! (1 ∷ 2 ∷ 0 ∷ []) $
      move ! (3 ∷ []) $ pointer_in ! (block_ptr t 0) s (0 + 0) $ rewrite ! 0 (λ (u : Ptr × Ptr). ‵ (prev_at u.0 u.1)) (λ i. (sym eq i, sym ea i)) refl $ move ! (1 ∷ 2 ∷ 3 ∷ 0 ∷ []) $
      move ! (0 ∷ 1 ∷ 4 ∷ 8 ∷ []) $ block_back E ! b 0 a q w $ move ! (0 ∷ 5 ∷ 12 ∷ []) $ room_made E ! alloc b 0 $ move ! (4 ∷ 0 ∷ []) $
      use2 𝓛 (‵ ((Out E).own_val (x, made) (pair ∷ []))) (pair_of 𝓛 (R E) (Rm E) x made w room) $
      move ! (1 ∷ 2 ∷ 5 ∷ 6 ∷ 4 ∷ []) $ group ! 5 $ use1 𝓛 (‵ (list_owns (R E) new.tail new.nodes)) (joined 𝓛 E xs ys) $ move ! (0 ∷ 2 ∷ 3 ∷ 4 ∷ 5 ∷ []) $
      rewrite ! 1 (λ (u : Ptr × Ptr). ‵ (cell_at full_share (Lr E).mir (words u.0 u.1 ∷ []) rb ro)) (λ i. (eh i, et i)) refl $
      links_closes E ! tt new rb ro $ returns ! (look_at ! 0 refl) $ free_all ! refl $ keep ! (0 ∷ 1 ∷ 2 ∷ 3 ∷ []) $ by ! (exits passed (x, made) pair new refl (xs, ys, asked.3, refl)))))))))

  entry : Asks E d node → ent 𝓤 (on_entry 𝓛 (ended E).signature (κ, tt) (q₀, tt) (self, (node, (alloc, tt))) (ps, (us, (vs, tt)))) (WpFn 𝓤 H C Λ (function E) (ps ++ (us ++ (vs ++ []))) Post)
  entry asked =
      let start = start_is node.at (starts_cut asked.0 (lease node.number node.at asked.1) asked.2 (subst (λ ns. IsTrue (all_start ns)) asked.3 d.starts)).0 in
      qed 𝓛 ((‵ (flft κ q₀) ⊛ ‵ ftrue) ∷ ‵ (owns (MutRef (named 0) κ (Lr E) ∷ Nd E ∷ Z ∷ []) (self, (node, (alloc, tt))) (ps, (us, (vs, tt)))) ∷ []) ∵ split ! $ move ! (2 ∷ []) $ fsplit3 ! $ fsplit3 ! $ feq_l ! (λ e.
      move ! (3 ∷ []) $ fsplit ! $ handle_tells al ! alloc vs (λ h g fits. move ! (4 ∷ []) $ fsplit ! $ word_had ! node.at us (λ f. keep ! (3 ∷ 4 ∷ 5 ∷ 1 ∷ []) $
      by ! (subst (λ (ws : List Val × List Val × List Val). ent 𝓤 (⋆ 𝓛 (Had h)) (WpFn 𝓤 H C Λ (function E) (ws.0 ++ (ws.1 ++ (ws.2 ++ []))) Post)) (λ j. (sym e j, sym f j, sym g j)) (walk e asked start.0 start.1 h fits)))))

meets : (E : Row) {M : Type 1} {𝓤 : Ura M} (𝓛 : Logic 𝓤) (𝓣 : Tables 𝓤 𝓛.H)
    → Meets 𝓛 (ended E).signature (WpFn 𝓤 𝓛.H 𝓣.C 𝓣.Λ (function E)) (closing 𝓛 (ended E) (spec E 𝓛))
meets E {𝓤 = 𝓤} 𝓛 𝓣 =
    walk_Meets 𝓛 (ended E) (stayed E) (Goes-ref 𝓛 1 0 tt (plain (λ _. Lr E)), (Goes-blank 𝓛 1 (plain (λ _. Nd E)) no (λ κs x f. tt), (Goes-blank 𝓛 1 (plain (λ _. Z)) no (λ κs x f. tt), tt))) (spec E 𝓛) (WpFn 𝓤 𝓛.H 𝓣.C 𝓣.Λ (function E)) (WpFn-mono 𝓤 𝓛.H 𝓛.laws 𝓣 (function E))
    (λ z. let a = z.0.3 in let vss = z.0.4 in needs 𝓤 (Asks E a.0.now a.1.0) _ (entry E 𝓛 𝓣.C 𝓣.Λ z.0.0.0 z.0.1.0 a.0.ref_ptr.0 a.0.ref_ptr.1 a.0.ghost_name a.0.now a.1.0 a.1.1.0 vss.0 vss.1.0 vss.1.1.0))

pub unlink_spec : {M : Type 1} → stated.statement M
unfolding tables_of
unlink_spec 𝓤 𝓛 𝓜 𝓡 wired Y L y =
    let E : Row = record { row = Y; laws = L } in
    let 𝓣 : Tables 𝓤 𝓛.H = tables_of 𝓤 𝓛.H 𝓜 (tables 𝓤 𝓛.H 𝓜 𝓡 𝓡.env) in
    let k = #self (args E) in
    spared 𝓛 (ended E).signature (𝓡.run (𝓡.env k)) (run_framed 𝓤 𝓛.H 𝓜 𝓡 (𝓡.env k)) 1 (Y.lives, tt) (closing 𝓛 (ended E) (spec E 𝓛))
    (entered 𝓤 𝓛.H (triple_of 𝓛 (ended E).signature (closing 𝓛 (ended E) (spec E 𝓛))) 𝓣.C 𝓣.Λ k (function E) (code.unfolded 𝓤 𝓛.H 𝓜 𝓡 wired (Y, tt)) (meets E 𝓛 𝓣))
    ((y.0.0, y.0.1, tt, y.0.3, y.0.4), y.1)
