use Rattle.std.proofs.Common.{◌≡◌, ap, ◌∙◌}
use Rattle.journal_model.specs.declared.entry.CommitEntry.{CommitEntry}
use Rattle.shepherd.specs.Accounting.{trace_in}
use Rattle.served_items.proofs.Numbered.{item_of_boot, tries_of_boot}
use Rattle.served_items.proofs.Placing.{named}
use Rattle.served_items.proofs.numbering.items_have_numbers_of_their_boot.Goals as goal

pub returns-clause-boot : goal.returns-clause-boot
returns-clause-boot g c = λ service start history t i request h is.
    item_of_boot c.orders_are_exact.ensures g.P.Program.asks g.L.Link.makes (g.M.ProgramMaker.makes service.maker) g.R.Random.gives g.S.Serials.looks service.key service.home start history t i request h is

pub returns-clause-tries : goal.returns-clause-tries
returns-clause-tries g c = λ service start history heads drawn earliest latest items s v call tries program h was is.
    tries_of_boot c.orders_are_exact.ensures g.P.Program.asks g.L.Link.makes (g.M.ProgramMaker.makes service.maker) g.R.Random.gives g.S.Serials.looks service.key service.home start history
    heads drawn earliest latest items s v call tries program h was is

pub returns-clause-own_boot : goal.returns-clause-own_boot
returns-clause-own_boot g c = λ service start history t i place e home h is at.
    let there = named start history h.errand h.facts i.holds (trace_in history i) place i.outcome is h.became in
    let same : e ≡ there.0 = (let other = there.1 in cc) in
    ap (λ (x : CommitEntry). x.request.boot) same
    ∙ item_of_boot c.orders_are_exact.ensures g.P.Program.asks g.L.Link.makes (g.M.ProgramMaker.makes service.maker) g.R.Random.gives g.S.Serials.looks service.key service.home start history t i there.0.request h
    (h.number_is ∙ there.2) ∙ home
