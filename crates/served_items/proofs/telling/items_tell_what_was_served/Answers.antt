use Rattle.std.proofs.Common.{◌∙◌, subst}
use Rattle.outcome_items.specs.declared.outcome.ItemOutcome.{ItemOutcome}
use Rattle.shepherd.specs.Accounting.{trace_in}
use Rattle.served_items.specs.Attributing.{BecameBy, IsErrandOf, WasTakenIn}
use Rattle.served_items.proofs.Arriving.{admitted_number, admitted_with, call_made, cookie_so, expired_so, lost_so, own_page, page_again, refused_arrival, refused_bare, refused_draws, refused_outcome, spent_number, spent_outcome, value_read}
use Rattle.served_items.proofs.Placing.{held_if, named}
use Rattle.served_items.proofs.Serving.{bear, served}
use Rattle.served_items.proofs.telling.items_tell_what_was_served.Goals as goal

pub returns-clause-served : goal.returns-clause-served
returns-clause-served g c = λ service start history heads drawn earliest latest items s h.
    served g.P.Program.asks g.L.Link.makes g.M.ProgramMaker.makes g.R.Random.gives g.S.Serials.looks
    c.requests_account_for_their_events.ensures.item c.requests_account_for_their_sessions.ensures.item
    service start history heads drawn earliest latest items s h

pub returns-clause-tries : goal.returns-clause-tries
returns-clause-tries g c = λ service start history heads drawn earliest latest items s v call tries program h was is.
    bear g.P.Program.asks g.L.Link.makes (g.M.ProgramMaker.makes service.maker) (WasTakenIn g.R.Random.gives g.S.Serials.looks service.key service.home)
    start history heads drawn earliest latest items s v call tries program h was is

pub returns-clause-refused : goal.returns-clause-refused
returns-clause-refused g c = λ service start history t i why h. (
  λ is. refused_outcome t.intake.arrival (λ a. IsErrandOf g.P.Program.asks (g.M.ProgramMaker.makes service.maker) i.value h.errand a) why i.outcome is h.became_by,
  λ is. refused_arrival t.intake.arrival (λ a. IsErrandOf g.P.Program.asks (g.M.ProgramMaker.makes service.maker) i.value h.errand a) why i.outcome is h.became_by,
)

pub returns-clause-nothing : goal.returns-clause-nothing
returns-clause-nothing g c = λ service start history t i why h is.
    let bare = refused_bare g.P.Program.asks g.L.Link.makes (g.M.ProgramMaker.makes service.maker) (WasTakenIn g.R.Random.gives g.S.Serials.looks service.key service.home) start history t i h why is in
    (bare.0, bare.1, bare.2, refused_draws g.R.Random.gives g.S.Serials.looks service.key service.home t why h.came_so is)

pub returns-clause-spent : goal.returns-clause-spent
returns-clause-spent g c = λ service start history t i request seen h is. (
  spent_outcome t.intake.arrival (λ a. IsErrandOf g.P.Program.asks (g.M.ProgramMaker.makes service.maker) i.value h.errand a) request seen i.outcome is h.became_by,
  spent_number g.P.Program.asks g.L.Link.makes (g.M.ProgramMaker.makes service.maker) (WasTakenIn g.R.Random.gives g.S.Serials.looks service.key service.home) start history t i h request seen is,
)

pub returns-clause-spent_so : goal.returns-clause-spent_so
returns-clause-spent_so g c = λ service start history t i seen h is.
    subst (λ (o : ItemOutcome). BecameBy t.intake.arrival (λ a. IsErrandOf g.P.Program.asks (g.M.ProgramMaker.makes service.maker) i.value h.errand a) o) is h.became_by

pub returns-clause-admitted : goal.returns-clause-admitted
returns-clause-admitted g c = λ service start history t i a h is. (
  admitted_number g.P.Program.asks g.L.Link.makes (g.M.ProgramMaker.makes service.maker) (WasTakenIn g.R.Random.gives g.S.Serials.looks service.key service.home) start history t i h a is,
  h.moment_is,
  admitted_with g.R.Random.gives g.S.Serials.looks service.key service.home t a h.came_so is,
)

pub returns-clause-read : goal.returns-clause-read
returns-clause-read g c = λ service start history t i a h is out.
    value_read g.P.Program.asks g.L.Link.makes (g.M.ProgramMaker.makes service.maker) (WasTakenIn g.R.Random.gives g.S.Serials.looks service.key service.home) start history t i h a is out

pub returns-clause-expired : goal.returns-clause-expired
returns-clause-expired g c = λ service start history t i now expiry h is.
    expired_so g.P.Program.asks g.L.Link.makes (g.M.ProgramMaker.makes service.maker) (WasTakenIn g.R.Random.gives g.S.Serials.looks service.key service.home) start history t i h now expiry is

pub returns-clause-lost : goal.returns-clause-lost
returns-clause-lost g c = λ service start history t i causes h is.
    lost_so g.P.Program.asks g.L.Link.makes (g.M.ProgramMaker.makes service.maker) (WasTakenIn g.R.Random.gives g.S.Serials.looks service.key service.home) start history t i h causes is

pub returns-clause-call : goal.returns-clause-call
returns-clause-call g c = λ service start history t i h out.
    call_made g.P.Program.asks g.L.Link.makes (g.M.ProgramMaker.makes service.maker) (WasTakenIn g.R.Random.gives g.S.Serials.looks service.key service.home) start history t i h out

pub returns-clause-page : goal.returns-clause-page
returns-clause-page g c = λ service start history t i h is.
    own_page g.P.Program.asks g.L.Link.makes (g.M.ProgramMaker.makes service.maker) (WasTakenIn g.R.Random.gives g.S.Serials.looks service.key service.home) start history t i h is

pub returns-clause-again : goal.returns-clause-again
returns-clause-again g c = λ service start history t i h is.
    page_again g.P.Program.asks g.L.Link.makes (g.M.ProgramMaker.makes service.maker) (WasTakenIn g.R.Random.gives g.S.Serials.looks service.key service.home) start history t i h is

pub returns-clause-entry : goal.returns-clause-entry
returns-clause-entry g c = λ service start history t i place h is.
    let there = named start history h.errand h.facts i.holds (trace_in history i) place i.outcome is h.became in
    (there.0, there.1, h.number_is ∙ there.2)

pub returns-clause-unheld : goal.returns-clause-unheld
returns-clause-unheld g c = λ service start history t i h.
    held_if start history h.errand h.facts i.holds (trace_in history i) i.outcome h.became

pub returns-clause-cookie : goal.returns-clause-cookie
returns-clause-cookie g c = λ service start history t i cookie h some.
    cookie_so g.P.Program.asks g.L.Link.makes (g.M.ProgramMaker.makes service.maker) (WasTakenIn g.R.Random.gives g.S.Serials.looks service.key service.home) start history t i h
    c.requests_account_for_their_sessions.ensures.cookie cookie some
