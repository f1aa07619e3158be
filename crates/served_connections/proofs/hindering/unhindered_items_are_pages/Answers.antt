use Rattle.served_items.specs.Attributing.{WasTakenIn}
use Rattle.served_connections.proofs.Unhindered.{ends_as_page}
use Rattle.served_connections.proofs.hindering.unhindered_items_are_pages.Goals as goal

pub returns : goal.returns
returns g c = λ service start history t i h n.
    ends_as_page g.P.Program.asks g.L.Link.makes (g.M.ProgramMaker.makes service.maker) (WasTakenIn g.R.Random.gives g.S.Serials.looks service.key service.home) start history t i h n
