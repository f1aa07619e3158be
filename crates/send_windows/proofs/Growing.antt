-- Histories of which one begins the other.
use Rattle.std.proofs.Common.{◌≡◌, List, [], ◌++◌, sym, ◌∙◌, append-nil}
use mathlib.Core.List.{IsPrefix}
use Rattle.send_windows.specs.declared.history.WindowMark.{WindowMark}

pub begins_itself : (old new : List WindowMark) → new ≡ old → IsPrefix old new
begins_itself old new same = ([], append-nil old ∙ sym same)

pub begins_more : (old new more : List WindowMark) → new ≡ old ++ more → IsPrefix old new
begins_more old new more is = (more, sym is)
