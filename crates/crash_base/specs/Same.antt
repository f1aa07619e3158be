-- When two keys or two versions are the same.
use Rattle.std.specs.Prelude.{◌==◌, ◌&&◌, bytes_eq, Bool}
use Rattle.crash_base.specs.declared.numbers.SessionKey.{SessionKey}
use Rattle.crash_base.specs.declared.numbers.Version.{Version}

-- whether both are the same key
abbrev pub same_key : SessionKey → SessionKey → Bool
same_key a b = bytes_eq a.0 b.0

-- whether both are the same version
abbrev pub same_version : Version → Version → Bool
same_version a b = (a.node == b.node) && ((a.boot == b.boot) && (a.serial == b.serial))
