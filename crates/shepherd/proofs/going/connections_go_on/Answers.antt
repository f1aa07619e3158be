use Rattle.std.proofs.Common.{◌∙◌, refl, sym}
use Rattle.shepherd.specs.Shepherds.{fresh}
use Rattle.shepherd.proofs.Driving.{advance, answered, begins, given_back, given_up, inside, inside_turn, item, meanwhile, opens, out, outside, own_turn, program_turn, stays, still, windows}
use Rattle.shepherd.proofs.going.connections_go_on.Goals as goal

pub returns-clause-begins : goal.returns-clause-begins
returns-clause-begins g c = λ container.
    begins g.P.Program.accepts g.P.Program.asks g.L.Link.makes container fresh refl refl

pub returns-clause-wants : goal.returns-clause-wants
returns-clause-wants g c = λ container s wants memory.
    absurd (let no = sym wants ∙ memory in cc)

pub returns-clause-meanwhile : goal.returns-clause-meanwhile
returns-clause-meanwhile g c = λ container after s grown goes.
    meanwhile g.P.Program.accepts g.P.Program.asks g.L.Link.makes c.requests_go_on.ensures.grows c.requests_account_for_their_sessions.ensures.meanwhile container after s grown goes

pub returns-clause-still : goal.returns-clause-still
returns-clause-still g c = λ container s new stage front same goes.
    still g.P.Program.accepts g.P.Program.asks g.L.Link.makes container s new stage front same goes

pub returns-clause-outside : goal.returns-clause-outside
returns-clause-outside g c = λ container old new link after is steps goes.
    outside g.P.Program.accepts g.P.Program.asks g.L.Link.makes g.L.Link.tally c.requests_go_on.ensures.outside c.requests_account_for_their_sessions.ensures.outside container old new link after is steps goes

pub returns-clause-windows : goal.returns-clause-windows
returns-clause-windows g c = λ container old new win after some few steps goes.
    windows g.P.Program.accepts g.P.Program.asks g.L.Link.makes c.requests_go_on.ensures.windows c.requests_account_for_their_sessions.ensures.windows container old new win after some few steps goes

pub returns-clause-inside : goal.returns-clause-inside
returns-clause-inside g c = λ old new container after steps grown goes.
    inside g.P.Program.accepts g.P.Program.asks g.L.Link.makes c.requests_go_on.ensures.inside c.requests_account_for_their_sessions.ensures.inside old new container after steps grown goes

pub returns-clause-advance : goal.returns-clause-advance
returns-clause-advance g c = λ container key old new is steps goes.
    advance g.P.Program.accepts g.P.Program.asks g.L.Link.makes c.requests_go_on.ensures.advance c.requests_account_for_their_sessions.ensures.advance container key old new is steps goes

pub returns-clause-open : goal.returns-clause-open
returns-clause-open g c = λ container s stage maker worker is accepted does goes.
    opens g.P.Program.accepts g.P.Program.asks g.L.Link.makes g.M.ProgramMaker.makes c.requests_go_on.ensures.opens c.requests_account_for_their_sessions.ensures.opens container s stage maker worker is accepted does goes

pub returns-clause-out : goal.returns-clause-out
returns-clause-out g c = λ container bytes s stage is puts goes.
    out g.P.Program.accepts g.P.Program.asks g.L.Link.makes c.requests_go_on.ensures.leave c.requests_account_for_their_sessions.ensures.leave container bytes s stage is puts goes

pub returns-clause-item : goal.returns-clause-item
returns-clause-item g c = λ container i s stage takes goes.
    item g.P.Program.accepts g.P.Program.asks g.L.Link.makes container i s stage takes goes

pub returns-clause-given_up : goal.returns-clause-given_up
returns-clause-given_up g c = λ container s goes.
    given_up g.P.Program.accepts g.P.Program.asks g.L.Link.makes c.requests_go_on.ensures.dropped c.requests_account_for_their_sessions.ensures.dropped container s goes

pub returns-clause-given_back : goal.returns-clause-given_back
returns-clause-given_back g c = λ container s stage win after back left goes.
    given_back g.P.Program.accepts g.P.Program.asks g.L.Link.makes c.requests_go_on.ensures.back c.requests_account_for_their_sessions.ensures.back container s stage win after back left goes

pub returns-clause-inside_turn : goal.returns-clause-inside_turn
returns-clause-inside_turn g c = λ container s is goes.
    inside_turn g.P.Program.accepts g.P.Program.asks g.L.Link.makes c.requests_go_on.ensures.inside_turn container s is goes

pub returns-clause-own_turn : goal.returns-clause-own_turn
returns-clause-own_turn g c = λ container s is goes.
    own_turn g.P.Program.accepts g.P.Program.asks g.L.Link.makes c.requests_account_for_their_sessions.ensures.holders container s is goes

pub returns-clause-program_turn : goal.returns-clause-program_turn
returns-clause-program_turn g c = λ container s is goes.
    program_turn g.P.Program.accepts g.P.Program.asks g.L.Link.makes container s is goes

pub returns-clause-stays : goal.returns-clause-stays
returns-clause-stays g c = λ container old new link after is steps goes.
    stays g.P.Program.accepts g.P.Program.asks g.L.Link.makes g.L.Link.tally c.requests_account_for_their_sessions.ensures.stays container old new link after is steps goes

pub returns-clause-answered : goal.returns-clause-answered
returns-clause-answered g c = λ container s memory goes.
    answered g.P.Program.accepts g.P.Program.asks g.L.Link.makes c.requests_account_for_their_sessions.ensures.answered container s memory goes
