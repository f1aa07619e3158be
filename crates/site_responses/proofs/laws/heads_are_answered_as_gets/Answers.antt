use Rattle.site_responses.proofs.Changes.{page_behind}
use Rattle.site_responses.proofs.laws.heads_are_answered_as_gets.Goals as goal

pub returns : goal.returns
returns c = page_behind c.heads_come_before_pages.ensures.same
