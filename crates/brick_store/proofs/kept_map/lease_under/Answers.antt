use Rattle.std.proofs.Common.{◌≡◌, ◌∙◌, ap, refl, Option, Some, None, Bor}
use Rattle.std.specs.Prelude.{option_map}
use Rattle.std.specs.Option.{option_copied}
use Rattle.std.specs.BTreeMap.{get}
use Rattle.brick_store.specs.declared.kept.Kept.{Kept}
use Rattle.brick_store.specs.declared.kept_map.Lease.{Lease}
use Rattle.brick_store.specs.Pairs.{pair_of, kept_at}
use Rattle.brick_store.specs.Tied.{pair_order}
use Rattle.brick_store.proofs.Leases.{kept_in-found}
use Rattle.brick_store.proofs.kept_map.lease_under.Goals as goal

copied : (f : Lease → Kept) (found : Option (Bor Lease)) → option_map (λ (lease : Bor Lease). f lease.now) found ≡ option_map f (option_copied found)
copied f None = refl
copied f (Some lease) = refl

pub returns : goal.returns
returns c =
    let leases = c.args.leases.now in
    let p = pair_of c.args.key c.args.version in
    copied (λ lease. kept_at (p, lease)) c.get.result
    ∙ ap (option_map (λ lease. kept_at (p, lease))) (c.get.ensures.value ∙ ap (λ q. get pair_order leases q) c.pair_of.ensures)
    ∙ kept_in-found c.args.key c.args.version leases.entries
