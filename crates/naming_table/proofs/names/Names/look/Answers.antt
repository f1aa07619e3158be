use Rattle.std.proofs.Common.{◌≡◌, ◌<◌, ◌∙◌, subst, All, rules}
use Rattle.crash_base.specs.declared.scope.TheConstants.{MAX_GROUPS}
use Rattle.naming_table.specs.Names.{NamesValue, binding_now}
use Rattle.naming_table.proofs.Finding.{binding_follows}
use Rattle.naming_table.proofs.names.Names.look.Goals as goal

pub returns-clause-journal : goal.returns-clause-journal
returns-clause-journal c = λ parts es follows.
    let names = c.args.self.now in
    let value : c.bound_to.result ≡ binding_now names c.args.name.now = search rules in
    let P : NamesValue → Type 0 = λ n. All (λ b. b.group.0 < MAX_GROUPS) n.bound in
    value ∙ binding_follows names parts es c.args.name.now (subst P c.self.view_is c.self.invariant.groups) follows
