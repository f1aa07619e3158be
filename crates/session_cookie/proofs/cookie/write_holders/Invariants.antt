use Rattle.std.proofs.Common.{◌≡◌, ◌++◌, take}
use Rattle.std.specs.List.{All, flat_map}
use Rattle.session_cookie.specs.Cookie.{holder_bytes, IsHolder}
use Rattle.session_cookie.proofs.cookie.write_holders.Given as goal

abbrev pub invariant-loop-holder : goal.invariant-loop-holder
invariant-loop-holder l =
    (l.bytes.items ≡ l.initial.bytes.items ++ flat_map holder_bytes (take l.holder-index l.holders))
    × All IsHolder (take l.holder-index l.holders)
