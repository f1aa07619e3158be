use Rattle.std.proofs.Common.{codes}
use Rattle.page_text.specs.Escapes.{escaped}
use Rattle.page_text.specs.Pages.{field_bytes}
use Rattle.page_text.proofs.Joining.{joined}
use Rattle.page_text.proofs.pages.write_field.Goals as goal

pub returns : goal.returns
unfolding field_bytes
returns c =
    joined (codes "<label>") (escaped c.args.name.now) (codes " <input name=\"") (escaped c.args.name.now) (codes "\"></label>\n") c.args.page.now.items c.write_text.new.page.items c.write_text-2.new.page.items c.extend_from_slice.new.self.items
    c.in_ok-write_text.ensures c.in_ok-write_text-2.ensures c.in_ok-extend_from_slice.ensures.items
