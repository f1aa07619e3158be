use Rattle.std.proofs.Common.{◌≡◌, ◌+◌, ◌*◌, ◌++◌, length}
use Rattle.std.specs.List.{All, flat_map}
use Rattle.session_cookie.specs.Cookie.{holder_bytes, IsHolder}
use Rattle.session_cookie.proofs.form.holders_of.Given as goal

abbrev pub invariant-loop-holder : goal.invariant-loop-holder
invariant-loop-holder l = record {
  so_far : l.fn.bytes ≡ flat_map holder_bytes l.holders.items ++ l.left;
  each : All IsHolder l.holders.items;
  sizes : length l.fn.bytes ≡ 10 * length l.holders.items + length l.left;
}

abbrev pub decreases-loop-holder : goal.decreases-loop-holder
decreases-loop-holder l = length l.left
