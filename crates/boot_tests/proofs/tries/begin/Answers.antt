use Rattle.std.proofs.Common.{sym, subst}
use Rattle.request_tries.specs.Serving.{IsServing, TriesValue}
use Rattle.boot_tests.proofs.tries.begin.Goals as goal

pub returns : goal.returns
returns c = λ boot asks. subst (λ (s : TriesValue). IsServing boot asks s) (sym c.new.ensures) (c.ends_stay_true.ensures.unbegun boot asks c.args.request (record { 0 = 4 }) c.new-text.result)
