use Rattle.std.proofs.Common.{codes}
use Rattle.page_text.specs.Escapes.{escaped}
use Rattle.page_text.specs.Pages.{form_start}
use Rattle.page_text.proofs.Joining.{joined}
use Rattle.page_text.proofs.pages.write_form_start.Goals as goal

pub returns : goal.returns
unfolding form_start
returns c =
    joined (codes "<form method=\"post\" action=\"") (escaped c.args.address.now) (codes "\">\n<input type=\"hidden\" name=\"token\" value=\"") (escaped c.args.token.now) (codes "\">\n") c.args.page.now.items c.write_text.new.page.items c.write_text-2.new.page.items c.extend_from_slice.new.self.items
    c.in_ok-write_text.ensures c.in_ok-write_text-2.ensures c.in_ok-extend_from_slice.ensures.items
