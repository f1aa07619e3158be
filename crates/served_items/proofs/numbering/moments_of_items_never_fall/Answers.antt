use Rattle.served_items.specs.Attributing.{moments_of}
use Rattle.served_items.proofs.Rising.{first_rises, items_rise, last_rises}
use Rattle.served_items.proofs.Serving.{served}
use Rattle.served_items.proofs.numbering.moments_of_items_never_fall.Goals as goal
use Rattle.std.proofs.Common.{◌∷◌, ◌++◌, []}

pub returns-clause-next : goal.returns-clause-next
returns-clause-next g c = λ service start history heads drawn earliest latest before behind i next s h.
    let all = served g.P.Program.asks g.L.Link.makes g.M.ProgramMaker.makes g.R.Random.gives g.S.Serials.looks
    c.requests_account_for_their_events.ensures.item c.requests_account_for_their_sessions.ensures.item
    service start history heads drawn earliest latest (before ++ i ∷ next ∷ behind) s h in
    items_rise earliest (moments_of all.opened ++ latest ∷ []) before behind i next all.rise

pub returns-clause-first : goal.returns-clause-first
returns-clause-first g c = λ service start history heads drawn earliest latest behind i s h.
    let all = served g.P.Program.asks g.L.Link.makes g.M.ProgramMaker.makes g.R.Random.gives g.S.Serials.looks
    c.requests_account_for_their_events.ensures.item c.requests_account_for_their_sessions.ensures.item
    service start history heads drawn earliest latest (i ∷ behind) s h in
    first_rises earliest (moments_of all.opened ++ latest ∷ []) behind i all.rise

pub returns-clause-last : goal.returns-clause-last
returns-clause-last g c = λ service start history heads drawn earliest latest before i s h.
    let all = served g.P.Program.asks g.L.Link.makes g.M.ProgramMaker.makes g.R.Random.gives g.S.Serials.looks
    c.requests_account_for_their_events.ensures.item c.requests_account_for_their_sessions.ensures.item
    service start history heads drawn earliest latest (before ++ i ∷ []) s h in
    last_rises earliest latest (moments_of all.opened) before i all.rise
