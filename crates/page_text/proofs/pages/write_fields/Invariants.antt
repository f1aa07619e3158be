use Rattle.std.proofs.Common.{◌≡◌, ◌++◌, take}
use Rattle.std.specs.List.{flat_map}
use Rattle.page_text.specs.Pages.{field_bytes}
use Rattle.page_text.proofs.pages.write_fields.Given as goal

abbrev pub invariant-loop-name : goal.invariant-loop-name
invariant-loop-name l = l.page.items ≡ l.initial.page.items ++ flat_map field_bytes (take l.name-index l.names)
