use Rattle.site_programs.proofs.Joining.{item_meant}
use Rattle.site_programs.proofs.meaning.items_are_what_the_site_means.Goals as goal

pub returns : goal.returns
returns g c = λ service start history t i place site served is.
    item_meant c.pages_are_what_the_site_means.ensures.own g.L.Link.makes _ start history t i place site served is
