use Rattle.std.proofs.Common.{◌≡◌, Some, None, refl, sym, ap, subst, ◌∙◌}
use Rattle.std.specs.Map.{set_value}
use Rattle.std.specs.Ordering.{nat_cmp}
use Rattle.std.specs.BTreeMap.{ContainsKey, get, get_key}
use Rattle.std.specs.BTreeMap.Entry.{MatchEntry, entry_key, entry_map_ref, entry_value, map_with_value, map_without_entry}
use Rattle.lease_wheel.specs.Lists.{AreSound, at}
use Rattle.lease_wheel.proofs.Finding.{in_list, some_same, none_some, remove_set, unlinked, unlinked_out, sound_set, sound_left, filled_from, not_empty}
use Rattle.lease_wheel.proofs.Adding.{insert_there}
use Rattle.lease_wheel.proofs.lists.unlink_at.Goals as goal

pub unlink_from-is_empty-requires : goal.unlink_from-is_empty-requires
unlink_from-is_empty-requires c =
    let r = in_list c.args.lists.now.entries c.args.expiry c.args.node.number c.args.node.at c.requires.0 c.entry.ensures.ordered c.requires.1 in
    let here = sym c.in-Ok-Occupied.ensures.value ∙ ap entry_value c.in-Ok-Occupied.field-0-is ∙ c.get_mut.ensures.value in
    let same = some_same c.get_mut.result.now r.list (sym here ∙ r.is) in
    (r.before, c.requires.0, r.after, (λ i. (same i).nodes) ∙ r.nodes)

pub unreachable-requires : goal.unreachable-requires
unreachable-requires c =
    let r = in_list c.args.lists.now.entries c.args.expiry c.args.node.number c.args.node.at c.requires.0 c.entry.ensures.ordered c.requires.1 in
    let m = c.args.lists.now in
    let none = subst (λ x. MatchEntry x (ContainsKey nat_cmp m c.args.expiry × (get_key nat_cmp m c.args.expiry ≡ Some (entry_key c.in-Ok-Vacant.field-0))) (get nat_cmp m c.args.expiry ≡ None)) c.in-Ok-Vacant.field-0-is c.in-Ok-Vacant.ensures.found in
    none_some r.list (sym none ∙ r.is)

pub unreachable-requires-in-Err : goal.unreachable-requires-in-Err
unreachable-requires-in-Err c =
    let r = in_list c.args.lists.now.entries c.args.expiry c.args.node.number c.args.node.at c.requires.0 c.entry.ensures.ordered c.requires.1 in
    none_some r.list (sym c.in-Err.ensures.absent ∙ r.is)

pub returns-then-is_empty-clause-item : goal.returns-then-is_empty-clause-item
returns-then-is_empty-clause-item c =
    let es = c.args.lists.now.entries in
    let e = c.args.expiry in
    let w = c.unlink_from-is_empty.new.list in
    let l = c.get_mut.result.now in
    let is = c.in-Ok-Occupied.field-0-is in
    let here = sym c.in-Ok-Occupied.ensures.value ∙ ap entry_value is ∙ c.get_mut.ensures.value in
    let name = sym c.in-Ok-Occupied.ensures.same_map ∙ ap (λ x. (entry_map_ref x).ghost_name) is in
    let gone = ap (λ m. m.entries) (c.lists-1.given.1 name) ∙ c.remove.ensures.removed ∙ (c.get_mut.ensures.written w).5 ∙ ap (λ x. (map_without_entry x).entries) (sym is) ∙ c.in-Ok-Occupied.ensures.removal.1 in
    unlinked_out e c.args.node.number c.args.node.at c.unlink_from-is_empty.result.0 es l w here c.unlink_from-is_empty.ensures.nodes
    (set_value (at e) es w) c.lists-1.given.0.entries refl (gone ∙ sym (remove_set e es w)) (c.unlink_from-is_empty.ensures.empty.0 c.if-is_empty.true)

pub returns-then-is_empty-clause-sound : goal.returns-then-is_empty-clause-sound
returns-then-is_empty-clause-sound c = λ sound.
    let es = c.args.lists.now.entries in
    let e = c.args.expiry in
    let w = c.unlink_from-is_empty.new.list in
    let is = c.in-Ok-Occupied.field-0-is in
    let name = sym c.in-Ok-Occupied.ensures.same_map ∙ ap (λ x. (entry_map_ref x).ghost_name) is in
    let gone = ap (λ m. m.entries) (c.lists-1.given.1 name) ∙ c.remove.ensures.removed ∙ (c.get_mut.ensures.written w).5 ∙ ap (λ x. (map_without_entry x).entries) (sym is) ∙ c.in-Ok-Occupied.ensures.removal.1 in
    subst AreSound (sym (gone ∙ sym (remove_set e es w))) (sound_left e es w sound)

pub returns-else-is_empty-clause-item : goal.returns-else-is_empty-clause-item
returns-else-is_empty-clause-item c =
    let es = c.args.lists.now.entries in
    let e = c.args.expiry in
    let w = c.unlink_from-is_empty.new.list in
    let l = c.get_mut.result.now in
    let is = c.in-Ok-Occupied.field-0-is in
    let here = sym c.in-Ok-Occupied.ensures.value ∙ ap entry_value is ∙ c.get_mut.ensures.value in
    let name = sym c.in-Ok-Occupied.ensures.same_map ∙ ap (λ x. (entry_map_ref x).ghost_name) is in
    let set = ap (λ m. m.entries) (c.lists-else-is_empty-1.given.1 name) ∙ ap (λ m. m.entries) (c.get_mut.ensures.written w).1 ∙ ap (λ x. (map_with_value x w).entries) (sym is) ∙ c.in-Ok-Occupied.ensures.update.1 w ∙ insert_there e es l w c.entry.ensures.ordered here in
    unlinked e c.args.node.number c.args.node.at c.unlink_from-is_empty.result.0 es l w here c.unlink_from-is_empty.ensures.nodes c.lists-else-is_empty-1.given.0.entries set

pub returns-else-is_empty-clause-sound : goal.returns-else-is_empty-clause-sound
returns-else-is_empty-clause-sound c = λ sound.
    let es = c.args.lists.now.entries in
    let e = c.args.expiry in
    let w = c.unlink_from-is_empty.new.list in
    let l = c.get_mut.result.now in
    let is = c.in-Ok-Occupied.field-0-is in
    let here = sym c.in-Ok-Occupied.ensures.value ∙ ap entry_value is ∙ c.get_mut.ensures.value in
    let name = sym c.in-Ok-Occupied.ensures.same_map ∙ ap (λ x. (entry_map_ref x).ghost_name) is in
    let set = ap (λ m. m.entries) (c.lists-else-is_empty-1.given.1 name) ∙ ap (λ m. m.entries) (c.get_mut.ensures.written w).1 ∙ ap (λ x. (map_with_value x w).entries) (sym is) ∙ c.in-Ok-Occupied.ensures.update.1 w ∙ insert_there e es l w c.entry.ensures.ordered here in
    let filled = filled_from w.nodes (λ none. not_empty (sym (c.unlink_from-is_empty.ensures.empty.1 none) ∙ c.if-is_empty.false)) in
    subst AreSound (sym set) (sound_set e es w (filled, c.unlink_from-is_empty.ensures.rising) sound)
