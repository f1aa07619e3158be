use Rattle.std.proofs.Common.{rules, ◌≡◌, false, length, is_some, IfOk, OnErr, Some, None, sym, ap, subst, ◌∙◌}
use Rattle.std.specs.BTreeMap.{ContainsKey, get, get_key}
use Rattle.std.specs.BTreeMap.Entry.{MatchEntry, entry_key, entry_map_ref, entry_value, map_with_value}
use Rattle.brick_store.specs.Bricks.{put_value}
use Rattle.brick_store.specs.Kept.{is_full}
use Rattle.brick_store.specs.Pairs.{pair_of, kept_in}
use Rattle.brick_store.specs.Puts.{PutEnds}
use Rattle.brick_store.specs.Tied.{pair_order, value_at, AreTied}
use Rattle.brick_store.proofs.Leases.{kept_put}
use Rattle.brick_store.proofs.Putting.{at_err, full_none, less_there, put_none, put_over, renewed_tied, renewed_ends, renewed_err, renewed_room}
use Rattle.brick_store.proofs.Tying.{is_put, tied_new}
use Rattle.brick_store.proofs.kept_map.put_in.Goals as goal

pub renew-requires-clause-less : goal.renew-requires-clause-less
renew-requires-clause-less c =
    let had = sym c.in-Some.ensures.value in
    less_there c.args.leases.now.entries c.args.wheel.now c.args.bytes c.requires c.pair_of-pair.result c.in-Some.lease.now had

pub returns-in-Some-clause-tied : goal.returns-in-Some-clause-tied
returns-in-Some-clause-tied c =
    let m = c.args.leases.now in
    let w = c.renew.new.lease in
    let n = c.get_mut.follows.lender w in
    let holds = c.get_mut.follows.holds w in
    let had = sym c.in-Some.ensures.value in
    let put = holds.0 ∙ sym (put_over c.pair_of-pair.result m.entries c.in-Some.lease.now w c.get_mut.ensures.ordered had) in
    renewed_tied m n c.args.item c.args.expiry c.args.value.now c.args.wheel.now c.renew.new.wheel c.args.bytes c.requires c.pair_of-pair.result c.pair_of-pair.ensures c.in-Some.lease.now w had (holds.3 (ap is_some had)) put c.get_mut.ensures.ordered c.renew.result c.renew.ensures

pub returns-in-Some-clause-ok : goal.returns-in-Some-clause-ok
returns-in-Some-clause-ok c =
    let m = c.args.leases.now in
    let w = c.renew.new.lease in
    let n = c.get_mut.follows.lender w in
    let holds = c.get_mut.follows.holds w in
    let had = sym c.in-Some.ensures.value in
    let put = holds.0 ∙ sym (put_over c.pair_of-pair.result m.entries c.in-Some.lease.now w c.get_mut.ensures.ordered had) in
    renewed_ends m n c.args.item c.args.expiry c.args.value.now c.args.wheel.now c.renew.new.wheel c.args.bytes c.requires c.pair_of-pair.result c.pair_of-pair.ensures c.in-Some.lease.now w had (holds.3 (ap is_some had)) put c.get_mut.ensures.ordered c.renew.result c.renew.ensures

pub returns-in-Some-clause-err : goal.returns-in-Some-clause-err
returns-in-Some-clause-err c =
    let m = c.args.leases.now in
    let w = c.renew.new.lease in
    let n = c.get_mut.follows.lender w in
    let holds = c.get_mut.follows.holds w in
    let had = sym c.in-Some.ensures.value in
    let put = holds.0 ∙ sym (put_over c.pair_of-pair.result m.entries c.in-Some.lease.now w c.get_mut.ensures.ordered had) in
    renewed_err m n c.args.item c.args.expiry c.args.value.now c.args.wheel.now c.renew.new.wheel c.args.bytes c.requires c.pair_of-pair.result c.pair_of-pair.ensures c.in-Some.lease.now w had (holds.3 (ap is_some had)) put c.get_mut.ensures.ordered c.renew.result c.renew.ensures

pub returns-in-Some-clause-memory : goal.returns-in-Some-clause-memory
returns-in-Some-clause-memory c =
    let m = c.args.leases.now in
    let w = c.renew.new.lease in
    let n = c.get_mut.follows.lender w in
    let holds = c.get_mut.follows.holds w in
    let had = sym c.in-Some.ensures.value in
    let put = holds.0 ∙ sym (put_over c.pair_of-pair.result m.entries c.in-Some.lease.now w c.get_mut.ensures.ordered had) in
    renewed_room m n c.args.item c.args.expiry c.args.value.now c.args.wheel.now c.renew.new.wheel c.args.bytes c.requires c.pair_of-pair.result c.pair_of-pair.ensures c.in-Some.lease.now w had (holds.3 (ap is_some had)) put c.get_mut.ensures.ordered c.renew.result c.renew.ensures

pub returns-in-None-clause-ok : goal.returns-in-None-clause-ok
returns-in-None-clause-ok c =
    let absent = sym c.in-None.ensures.value in
    let none = ap (λ r. value_at r c.args.leases.now.entries) (sym c.pair_of-pair.ensures) ∙ absent in
    (full_none c.args.item.key c.args.item.version c.args.expiry c.args.value.now c.args.leases.now.entries c.args.wheel.now c.args.bytes (length c.as_slice.result.now) c.requires (ap length c.as_slice.ensures.value) none c.len.result c.len.ensures.len ∙ sym c.is_full_with.ensures ∙ c.if-is_full_with.true, search rules)

pub returns-in_err-entry-clause-memory : goal.returns-in_err-entry-clause-memory
returns-in_err-entry-clause-memory c =
    let r = c.from_residual.result in
    let none = ap (λ q. value_at q c.args.leases.now.entries) (sym c.pair_of-pair.ensures) ∙ c.in_err-entry.ensures.absent in
    at_err r (is_full (kept_in c.args.leases.now.entries) (put_value c.args.item.key c.args.item.version c.args.expiry c.args.value.now) ≡ false) (full_none c.args.item.key c.args.item.version c.args.expiry c.args.value.now c.args.leases.now.entries c.args.wheel.now c.args.bytes (length c.as_slice.result.now) c.requires (ap length c.as_slice.ensures.value) none c.len.result c.len.ensures.len ∙ sym c.is_full_with.ensures ∙ c.if-is_full_with.false)

pub renew-requires-in-Occupied-clause-less : goal.renew-requires-in-Occupied-clause-less
renew-requires-in-Occupied-clause-less c =
    let had = sym c.in_ok-entry.ensures.value ∙ ap entry_value c.in-Occupied.is ∙ c.into_mut.ensures.value in
    less_there c.args.leases.now.entries c.args.wheel.now c.args.bytes c.requires c.pair_of-pair.result c.into_mut.result.now had

pub returns-in-Occupied-clause-tied : goal.returns-in-Occupied-clause-tied
returns-in-Occupied-clause-tied c =
    let m = c.args.leases.now in
    let w = c.renew-in-Occupied.new.lease in
    let e = c.in_ok-entry.field-0 in
    let is = c.in-Occupied.is in
    let n = map_with_value e w in
    let had = sym c.in_ok-entry.ensures.value ∙ ap entry_value is ∙ c.into_mut.ensures.value in
    let update = c.in_ok-entry.ensures.update in
    let name = sym c.in_ok-entry.ensures.same_map ∙ ap (λ x. (entry_map_ref x).ghost_name) is in
    let whole = c.leases-in-Occupied-2-1.given.1 name ∙ ap (λ x. map_with_value x w) (sym is) in
    subst (λ x. AreTied x.entries c.renew-in-Occupied.new.wheel) (sym whole) (renewed_tied m n c.args.item c.args.expiry c.args.value.now c.args.wheel.now c.renew-in-Occupied.new.wheel c.args.bytes c.requires c.pair_of-pair.result c.pair_of-pair.ensures c.into_mut.result.now w had (update.0 w) (update.1 w) c.in_ok-entry.ensures.ordered c.renew-in-Occupied.result c.renew-in-Occupied.ensures)

pub returns-in-Occupied-clause-ok : goal.returns-in-Occupied-clause-ok
returns-in-Occupied-clause-ok c =
    let m = c.args.leases.now in
    let w = c.renew-in-Occupied.new.lease in
    let e = c.in_ok-entry.field-0 in
    let is = c.in-Occupied.is in
    let n = map_with_value e w in
    let had = sym c.in_ok-entry.ensures.value ∙ ap entry_value is ∙ c.into_mut.ensures.value in
    let update = c.in_ok-entry.ensures.update in
    let name = sym c.in_ok-entry.ensures.same_map ∙ ap (λ x. (entry_map_ref x).ghost_name) is in
    let whole = c.leases-in-Occupied-2-1.given.1 name ∙ ap (λ x. map_with_value x w) (sym is) in
    let r = c.renew-in-Occupied.result in
    subst (λ x. IfOk r (PutEnds (put_value c.args.item.key c.args.item.version c.args.expiry c.args.value.now) (kept_in m.entries) (kept_in x.entries))) (sym whole) (renewed_ends m n c.args.item c.args.expiry c.args.value.now c.args.wheel.now c.renew-in-Occupied.new.wheel c.args.bytes c.requires c.pair_of-pair.result c.pair_of-pair.ensures c.into_mut.result.now w had (update.0 w) (update.1 w) c.in_ok-entry.ensures.ordered r c.renew-in-Occupied.ensures)

pub returns-in-Occupied-clause-err : goal.returns-in-Occupied-clause-err
returns-in-Occupied-clause-err c =
    let m = c.args.leases.now in
    let w = c.renew-in-Occupied.new.lease in
    let e = c.in_ok-entry.field-0 in
    let is = c.in-Occupied.is in
    let n = map_with_value e w in
    let had = sym c.in_ok-entry.ensures.value ∙ ap entry_value is ∙ c.into_mut.ensures.value in
    let update = c.in_ok-entry.ensures.update in
    let name = sym c.in_ok-entry.ensures.same_map ∙ ap (λ x. (entry_map_ref x).ghost_name) is in
    let whole = c.leases-in-Occupied-2-1.given.1 name ∙ ap (λ x. map_with_value x w) (sym is) in
    let r = c.renew-in-Occupied.result in
    subst (λ x. OnErr r (x.entries ≡ m.entries)) (sym whole) (renewed_err m n c.args.item c.args.expiry c.args.value.now c.args.wheel.now c.renew-in-Occupied.new.wheel c.args.bytes c.requires c.pair_of-pair.result c.pair_of-pair.ensures c.into_mut.result.now w had (update.0 w) (update.1 w) c.in_ok-entry.ensures.ordered r c.renew-in-Occupied.ensures)

pub returns-in-Occupied-clause-memory : goal.returns-in-Occupied-clause-memory
returns-in-Occupied-clause-memory c =
    let m = c.args.leases.now in
    let w = c.renew-in-Occupied.new.lease in
    let e = c.in_ok-entry.field-0 in
    let is = c.in-Occupied.is in
    let n = map_with_value e w in
    let had = sym c.in_ok-entry.ensures.value ∙ ap entry_value is ∙ c.into_mut.ensures.value in
    let update = c.in_ok-entry.ensures.update in
    renewed_room m n c.args.item c.args.expiry c.args.value.now c.args.wheel.now c.renew-in-Occupied.new.wheel c.args.bytes c.requires c.pair_of-pair.result c.pair_of-pair.ensures c.into_mut.result.now w had (update.0 w) (update.1 w) c.in_ok-entry.ensures.ordered c.renew-in-Occupied.result c.renew-in-Occupied.ensures

pub returns-in_err-lease-in-Vacant-clause-memory : goal.returns-in_err-lease-in-Vacant-clause-memory
returns-in_err-lease-in-Vacant-clause-memory c =
    let m = c.args.leases.now in
    let es = m.entries in
    let q = c.pair_of-pair.result in
    let is = c.in-Vacant.is in
    let e = c.in_ok-entry.field-0 in
    let absent = subst (λ x. MatchEntry x (ContainsKey pair_order m q × (get_key pair_order m q ≡ Some (entry_key e))) (get pair_order m q ≡ None)) is c.in_ok-entry.ensures.found in
    let none = ap (λ r. value_at r es) (sym c.pair_of-pair.ensures) ∙ absent in
    at_err c.from_residual-in_err-lease-in-Vacant.result (is_full (kept_in es) (put_value c.args.item.key c.args.item.version c.args.expiry c.args.value.now) ≡ false) (full_none c.args.item.key c.args.item.version c.args.expiry c.args.value.now c.args.leases.now.entries c.args.wheel.now c.args.bytes (length c.as_slice.result.now) c.requires (ap length c.as_slice.ensures.value) none c.len.result c.len.ensures.len ∙ sym c.is_full_with.ensures ∙ c.if-is_full_with.false)

pub returns-in_ok-lease-in-Vacant-clause-tied : goal.returns-in_ok-lease-in-Vacant-clause-tied
returns-in_ok-lease-in-Vacant-clause-tied c =
    let m = c.args.leases.now in
    let es = m.entries in
    let q = c.pair_of-pair.result in
    let is = c.in-Vacant.is in
    let e = c.in_ok-entry.field-0 in
    let absent = subst (λ x. MatchEntry x (ContainsKey pair_order m q × (get_key pair_order m q ≡ Some (entry_key e))) (get pair_order m q ≡ None)) is c.in_ok-entry.ensures.found in
    let none = ap (λ r. value_at r es) (sym c.pair_of-pair.ensures) ∙ absent in
    let w = c.in_ok-lease-in-Vacant.lease in
    let update = c.in_ok-entry.ensures.update in
    let name = sym c.in_ok-entry.ensures.same_map ∙ ap (λ x. (entry_map_ref x).ghost_name) is in
    let set = ap (λ n. n.entries) (c.leases-in-Vacant-2-1.given.1 name ∙ ap (λ x. map_with_value x c.insert.result.now) (sym is) ∙ ap (map_with_value e) c.insert.ensures.value) in
    let mid = c.lease_of.new.wheel in
    let put = is_put m (map_with_value e w) c.args.wheel.now mid q (pair_of c.args.item.key c.args.item.version) w (update.0 w) c.pair_of-pair.ensures c.in_ok-lease-in-Vacant.ensures.wheel in
    subst (λ fs. AreTied fs mid) (sym set) (tied_new es (map_with_value e w).entries c.args.wheel.now mid q w put c.requires.tied absent)

pub returns-in_ok-lease-in-Vacant-clause-ok : goal.returns-in_ok-lease-in-Vacant-clause-ok
returns-in_ok-lease-in-Vacant-clause-ok c =
    let m = c.args.leases.now in
    let es = m.entries in
    let q = c.pair_of-pair.result in
    let is = c.in-Vacant.is in
    let e = c.in_ok-entry.field-0 in
    let absent = subst (λ x. MatchEntry x (ContainsKey pair_order m q × (get_key pair_order m q ≡ Some (entry_key e))) (get pair_order m q ≡ None)) is c.in_ok-entry.ensures.found in
    let none = ap (λ r. value_at r es) (sym c.pair_of-pair.ensures) ∙ absent in
    let w = c.in_ok-lease-in-Vacant.lease in
    let update = c.in_ok-entry.ensures.update in
    let name = sym c.in_ok-entry.ensures.same_map ∙ ap (λ x. (entry_map_ref x).ghost_name) is in
    let set = ap (λ n. n.entries) (c.leases-in-Vacant-2-1.given.1 name ∙ ap (λ x. map_with_value x c.insert.result.now) (sym is) ∙ ap (map_with_value e) c.insert.ensures.value) in
    let is_lease = c.in_ok-lease-in-Vacant.ensures.lease in
    let new = ap kept_in (set ∙ update.1 w) ∙ kept_put (put_value c.args.item.key c.args.item.version c.args.expiry c.args.value.now) q w es c.pair_of-pair.ensures is_lease.0 is_lease.1 in
    put_none c.args.item.key c.args.item.version c.args.expiry c.args.value.now c.args.leases.now.entries c.args.wheel.now c.args.bytes (length c.as_slice.result.now) c.requires (ap length c.as_slice.ensures.value) none c.len.result c.len.ensures.len c.leases-in-Vacant-2-1.given.0.entries (sym c.is_full_with.ensures ∙ c.if-is_full_with.false) new
