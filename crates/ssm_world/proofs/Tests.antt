-- What the test of lateness tells, beside what those of numbers, versions, keys, bricks and replies tell.
use Rattle.std.proofs.Common.{◌≡◌, ◌+◌, ◌<◌, true, arith}
use Rattle.std.proofs.lemmas.Bool.Decides.{nat_tests}
use Rattle.crash_base.specs.declared.numbers.Moment.{Moment}
use Rattle.brick_store.specs.Kept.{is_late}
use Rattle.ssm_frames.specs.declared.frame.TheConstants.{SWEEP_GRACE}
pub use Rattle.ssm_stub.proofs.Tests.{both, same_number, number_same, number_other, version_is, version_same, key_same}

pub late_is : (moment expiry : Moment) → is_late moment expiry ≡ true → expiry.0 + SWEEP_GRACE < moment.0
late_is moment expiry h = grind (arith, nat_tests)

pub late_from : (moment expiry : Moment) → expiry.0 + SWEEP_GRACE < moment.0 → is_late moment expiry ≡ true
late_from moment expiry h = grind (arith, nat_tests)
