use Rattle.std.proofs.Common.{◌≡◌, [], ◌∷◌, ◌++◌, Some, None, sym, ap, subst, ◌∙◌}
use Rattle.std.specs.Map.{set_value}
use Rattle.std.specs.Ordering.{nat_cmp}
use Rattle.std.specs.BTreeMap.{ContainsKey, get, get_key}
use Rattle.std.specs.BTreeMap.Entry.{MatchEntry, entry_key, entry_map_ref, entry_value, map_with_value}
use Rattle.std.proofs.lemmas.Result.{IfOk-weaker, on_err_weaker}
use Rattle.lease_list.specs.Leases.{lease}
use Rattle.lease_wheel.specs.Lists.{leased_at, leased_in, is_filled, IsSound, AreSound, at}
use Rattle.lease_wheel.specs.Wheels.{with_leased}
use Rattle.lease_wheel.proofs.Finding.{set_same, sound_at, sound_set}
use Rattle.lease_wheel.proofs.Adding.{added_there, added_new, insert_there, sound_new}
use Rattle.lease_wheel.proofs.lists.push_at.Goals as goal

pub returns-in-Occupied-clause-ok : goal.returns-in-Occupied-clause-ok
returns-in-Occupied-clause-ok c =
    let es = c.args.lists.now.entries in
    let e = c.args.expiry in
    let w = c.push_on.new.list in
    let l = c.into_mut.result.now in
    let is = c.in-Occupied.is in
    let here = sym c.in_ok-entry.ensures.value ∙ ap entry_value is ∙ c.into_mut.ensures.value in
    let name = sym c.in_ok-entry.ensures.same_map ∙ ap (λ x. (entry_map_ref x).ghost_name) is in
    let set = ap (λ m. m.entries) (c.lists-in-Occupied-2-1.given.1 name) ∙ ap (λ x. (map_with_value x w).entries) (sym is) ∙ c.in_ok-entry.ensures.update.1 w ∙ insert_there e es l w c.in_ok-entry.ensures.ordered here in
    IfOk-weaker c.push_on.result (λ n. w.nodes ≡ l.nodes ++ lease n.number n.at c.args.item ∷ [])
    (λ n. leased_in c.lists-in-Occupied-2-1.given.0.entries ≡ with_leased (leased_at e (lease n.number n.at c.args.item)) (leased_in es))
    (λ n nodes. ap leased_in set ∙ added_there e (lease n.number n.at c.args.item) es l w c.in_ok-entry.ensures.ordered here nodes) c.push_on.ensures.ok

pub returns-in-Occupied-clause-err : goal.returns-in-Occupied-clause-err
returns-in-Occupied-clause-err c =
    let es = c.args.lists.now.entries in
    let e = c.args.expiry in
    let w = c.push_on.new.list in
    let l = c.into_mut.result.now in
    let is = c.in-Occupied.is in
    let here = sym c.in_ok-entry.ensures.value ∙ ap entry_value is ∙ c.into_mut.ensures.value in
    let name = sym c.in_ok-entry.ensures.same_map ∙ ap (λ x. (entry_map_ref x).ghost_name) is in
    let set = ap (λ m. m.entries) (c.lists-in-Occupied-2-1.given.1 name) ∙ ap (λ x. (map_with_value x w).entries) (sym is) ∙ c.in_ok-entry.ensures.update.1 w ∙ insert_there e es l w c.in_ok-entry.ensures.ordered here in
    on_err_weaker c.push_on.result (λ same. set ∙ ap (set_value (at e) es) same ∙ set_same e es l here) c.push_on.ensures.err

pub returns-in-Occupied-clause-sound : goal.returns-in-Occupied-clause-sound
returns-in-Occupied-clause-sound c = λ sound.
    let es = c.args.lists.now.entries in
    let e = c.args.expiry in
    let w = c.push_on.new.list in
    let l = c.into_mut.result.now in
    let is = c.in-Occupied.is in
    let here = sym c.in_ok-entry.ensures.value ∙ ap entry_value is ∙ c.into_mut.ensures.value in
    let name = sym c.in_ok-entry.ensures.same_map ∙ ap (λ x. (entry_map_ref x).ghost_name) is in
    let set = ap (λ m. m.entries) (c.lists-in-Occupied-2-1.given.1 name) ∙ ap (λ x. (map_with_value x w).entries) (sym is) ∙ c.in_ok-entry.ensures.update.1 w ∙ insert_there e es l w c.in_ok-entry.ensures.ordered here in
    let own = sound_at e es l sound here in
    subst AreSound (sym set) (sound_set e es w (c.push_on.ensures.filled own.0, c.push_on.ensures.rising) sound)

pub returns-in_ok-list-in-Vacant-clause-ok : goal.returns-in_ok-list-in-Vacant-clause-ok
returns-in_ok-list-in-Vacant-clause-ok c =
    let es = c.args.lists.now.entries in
    let w = c.insert.result.now in
    let same = c.insert.ensures.value in
    let node = c.in_ok-list-in-Vacant.node in
    let is = c.in-Vacant.is in
    let name = sym c.in_ok-entry.ensures.same_map ∙ ap (λ x. (entry_map_ref x).ghost_name) is in
    let set = ap (λ m. m.entries) (c.lists-in-Vacant-2-1.given.1 name) ∙ ap (λ x. (map_with_value x w).entries) (sym is) ∙ c.in_ok-entry.ensures.update.1 w in
    let m = c.args.lists.now in
    let none = subst (λ x. MatchEntry x (ContainsKey nat_cmp m c.args.expiry × (get_key nat_cmp m c.args.expiry ≡ Some (entry_key c.in_ok-entry.field-0))) (get nat_cmp m c.args.expiry ≡ None)) is c.in_ok-entry.ensures.found in
    ap leased_in set
    ∙ added_new c.args.expiry (lease node.number node.at c.args.item) es w c.in_ok-entry.ensures.ordered none (ap (λ v. v.nodes) same ∙ c.in_ok-list-in-Vacant.ensures.nodes)

pub returns-in_ok-list-in-Vacant-clause-sound : goal.returns-in_ok-list-in-Vacant-clause-sound
returns-in_ok-list-in-Vacant-clause-sound c = λ sound.
    let es = c.args.lists.now.entries in
    let w = c.insert.result.now in
    let same = c.insert.ensures.value in
    let is = c.in-Vacant.is in
    let name = sym c.in_ok-entry.ensures.same_map ∙ ap (λ x. (entry_map_ref x).ghost_name) is in
    let set = ap (λ m. m.entries) (c.lists-in-Vacant-2-1.given.1 name) ∙ ap (λ x. (map_with_value x w).entries) (sym is) ∙ c.in_ok-entry.ensures.update.1 w in
    let own = subst IsSound (sym same) (ap is_filled c.in_ok-list-in-Vacant.ensures.nodes, c.in_ok-list-in-Vacant.ensures.rising) in
    subst AreSound (sym set) (sound_new c.args.expiry es w own sound)
