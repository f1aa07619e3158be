use Rattle.std.proofs.lemmas.List.Elements.{All-weaker}
use Rattle.auction_site.specs.Actions.{steps_of}
use Rattle.lane_link.specs.Links.{LaneLinkMakes}
use Rattle.outside.specs.Random.{PlainGives}
use Rattle.outside.specs.Serials.{PlainLooks}
use Rattle.served_items.specs.Served.{IsServedFor, ServedItem}
use Rattle.site_programs.specs.Errands.{IsMadeOf}
use Rattle.site_programs.specs.declared.maker.SiteMaker.{SiteMaker}
use Rattle.seat_laws.specs.Serving.{PageIsMeant, history_in, service_of}
use Rattle.seat_laws.proofs.serving.pages_of_seats_are_meant.Goals as goal

pub returns : goal.returns
returns c = λ key boot since now course heads site told.
    All-weaker (λ (x : ServedItem). IsServedFor steps_of LaneLinkMakes (λ (maker : SiteMaker). IsMadeOf) PlainGives PlainLooks (service_of key boot) boot.start (history_in boot since) x.taken x.item)
    (PageIsMeant boot.start (history_in boot since))
    (λ x served place is. c.items_are_what_the_site_means.ensures (service_of key boot) boot.start (history_in boot since) x.taken x.item place site served is) told.served told.each
