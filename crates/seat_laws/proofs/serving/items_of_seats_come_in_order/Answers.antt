use Rattle.std.proofs.Common.{◌≡◌, All, List, Some, sym, subst}
use Rattle.std.proofs.lemmas.List.Elements.{All-map, All-weaker}
use Rattle.auction_site.specs.Actions.{steps_of}
use Rattle.crash_base.specs.declared.numbers.RequestNo.{RequestNo}
use Rattle.lane_link.specs.Links.{LaneLinkMakes}
use Rattle.outcome_items.specs.declared.item.Item.{Item}
use Rattle.outside.specs.Random.{PlainGives}
use Rattle.outside.specs.Serials.{PlainLooks}
use Rattle.served_items.specs.Holding.{Holding}
use Rattle.served_items.specs.Served.{IsServedFor, ServedItem}
use Rattle.site_programs.specs.Errands.{IsMadeOf}
use Rattle.site_programs.specs.declared.maker.SiteMaker.{SiteMaker}
use Rattle.seat_laws.specs.Serving.{history_in, service_of}
use Rattle.seat_laws.proofs.ServingSteps.{AttributesFrom}
use Rattle.seat_laws.proofs.serving.items_of_seats_come_in_order.Goals as goal

pub returns-clause-first : goal.returns-clause-first
returns-clause-first c = λ key boot since now course s behind i h is.
    c.moments_of_items_never_fall.ensures.first (service_of key boot) boot.start (history_in boot since) h.heads course.drawn course.opened.0 now.0 behind i s
    (subst (λ (items : List Item). AttributesFrom key boot.start now course (history_in boot since) h.heads course.drawn items s) is h.attributes)

pub returns-clause-next : goal.returns-clause-next
returns-clause-next c = λ key boot since now course s before behind i next h is.
    c.moments_of_items_never_fall.ensures.next (service_of key boot) boot.start (history_in boot since) h.heads course.drawn course.opened.0 now.0 before behind i next s
    (subst (λ (items : List Item). AttributesFrom key boot.start now course (history_in boot since) h.heads course.drawn items s) is h.attributes)

pub returns-clause-last : goal.returns-clause-last
returns-clause-last c = λ key boot since now course s before i h is.
    c.moments_of_items_never_fall.ensures.last (service_of key boot) boot.start (history_in boot since) h.heads course.drawn course.opened.0 now.0 before i s
    (subst (λ (items : List Item). AttributesFrom key boot.start now course (history_in boot since) h.heads course.drawn items s) is h.attributes)

pub returns-clause-since : goal.returns-clause-since
returns-clause-since c = λ key boot since now course s before behind i h is.
    c.items_are_held_in_order.ensures.since course.behind (history_in boot since) before behind i s (subst (λ (items : List Item). Holding course.behind (history_in boot since) items s) is h.holds)

pub returns-clause-later : goal.returns-clause-later
returns-clause-later c = λ key boot since now course s before between behind i next h is.
    c.items_are_held_in_order.ensures.later course.behind (history_in boot since) before between behind i next s (subst (λ (items : List Item). Holding course.behind (history_in boot since) items s) is h.holds)

pub returns-clause-within : goal.returns-clause-within
returns-clause-within c = λ key boot since now course s before behind i h is.
    c.items_are_held_in_order.ensures.within course.behind (history_in boot since) before behind i s (subst (λ (items : List Item). Holding course.behind (history_in boot since) items s) is h.holds)

pub returns-clause-boot : goal.returns-clause-boot
returns-clause-boot c = λ key boot since now course s h.
    let Own : Item → Type 0 = λ i. (request : RequestNo) → i.request ≡ Some request → request.boot ≡ boot.start.boot in
    let told = c.items_tell_what_was_served.ensures.served (service_of key boot) boot.start (history_in boot since) h.heads course.drawn course.opened.0 now.0 course.items s h.attributes in
    subst (λ (items : List Item). All Own items) (sym told.items_are)
    (All-map Own (λ (x : ServedItem). x.item) told.served
    (All-weaker (λ (x : ServedItem). IsServedFor steps_of LaneLinkMakes (λ (maker : SiteMaker). IsMadeOf) PlainGives PlainLooks (service_of key boot) boot.start (history_in boot since) x.taken x.item)
    (λ (x : ServedItem). Own x.item) (λ x served request is. c.items_have_numbers_of_their_boot.ensures.boot (service_of key boot) boot.start (history_in boot since) x.taken x.item request served is) told.served told.each))
