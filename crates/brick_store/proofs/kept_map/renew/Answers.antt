use Rattle.std.proofs.Common.{sym, subst}
use Rattle.lease_wheel.specs.Wheels.{named, Stands}
use Rattle.brick_store.proofs.Tying.{stands_still}
use Rattle.brick_store.proofs.kept_map.renew.Goals as goal

pub let_go-size-requires : goal.let_go-size-requires
let_go-size-requires c =
    let mid = c.lease_of.new.wheel in
    let made = c.in_ok-renewed.ensures.wheel in
    subst (λ old. Stands mid old.node) (sym c.replace-old.ensures.value)
    (stands_still c.args.lease.now.node c.args.item (named c.in_ok-renewed.renewed.node c.args.item) c.args.wheel.now mid made c.requires.stands)
