use Rattle.std.proofs.Common.{◌≡◌, ◌++◌, take}
use Rattle.std.specs.List.{flat_map}
use Rattle.page_text.specs.Pages.{line_bytes}
use Rattle.page_text.proofs.pages.write_lines.Given as goal

abbrev pub invariant-loop-line : goal.invariant-loop-line
invariant-loop-line l = l.page.items ≡ l.initial.page.items ++ flat_map line_bytes (take l.line-index l.lines)
