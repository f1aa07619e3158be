use Rattle.std.proofs.Common.{◌≡◌, ◌∙◌, ◌<◌, List, Some, length, ap, sym, arith}
use Rattle.std.specs.Prelude.{slice_get}
use Rattle.std.proofs.lemmas.Option.{slice_get-get_or}
use Rattle.ssm_world.specs.declared.call.Call.{Call}
use Rattle.ssm_world.proofs.Nonces.{nonces_set, told_nonce, told_set}
use Rattle.ssm_world.proofs.call_list.CallList.tell.Goals as goal

pub invariant_of-self : goal.invariant_of-self
invariant_of-self c =
    let items : List Call = c.self.inside.calls.items in
    let was : Call = c.index_mut.result.now in
    let within : c.args.call < length items = omega (arith, ap length c.self.view_is, c.requires) in
    let there : slice_get items c.args.call ≡ Some was = slice_get-get_or items c.args.call was within ∙ ap (λ x. Some x) (sym c.index_mut.ensures.value) in
    nonces_set c.self.inside.nonces items c.args.call was c.hear.new.self there (told_nonce c.hear.result was c.hear.new.self c.args.told c.hear.ensures.ok c.hear.ensures.err) c.self.invariant

pub returns-clause-ok : goal.returns-clause-ok
returns-clause-ok c =
    let items : List Call = c.self.inside.calls.items in
    let was : Call = c.index_mut.result.now in
    let within : c.args.call < length items = omega (arith, ap length c.self.view_is, c.requires) in
    let there : slice_get items c.args.call ≡ Some was = slice_get-get_or items c.args.call was within ∙ ap (λ x. Some x) (sym c.index_mut.ensures.value) in
    told_set c.hear.result items c.args.self.now c.args.call was c.hear.new.self c.args.told c.self.view_is there c.hear.ensures.ok
