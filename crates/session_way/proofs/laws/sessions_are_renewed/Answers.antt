use Rattle.std.proofs.Common.{◌≡◌, ap, ◌-◌, Bool, true, false, arith, Some, None}
use Rattle.std.proofs.lemmas.Bool.{le-ltb, lt-ltb}
use Rattle.std.specs.Prelude.{if◌then◌else◌}
use Rattle.session_way.specs.Lease.{is_due}
use Rattle.session_way.proofs.laws.sessions_are_renewed.Goals as goal

pub returns-clause-due : goal.returns-clause-due
returns-clause-due c = λ now lease near.
    let due : is_due now lease.expiry ≡ true = lt-ltb (lease.expiry.0 - now.0) 900000 (omega arith) in
    (due, ap (λ (test : Bool). if test then Some lease.value else None) due)

pub returns-clause-early : goal.returns-clause-early
returns-clause-early c = λ now lease far.
    let early : is_due now lease.expiry ≡ false = le-ltb (lease.expiry.0 - now.0) 900000 (omega arith) in
    (early, ap (λ (test : Bool). if test then Some lease.value else None) early)
