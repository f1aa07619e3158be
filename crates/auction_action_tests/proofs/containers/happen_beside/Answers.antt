use Rattle.auction_action_tests.proofs.containers.happen_beside.Goals as goal

pub returns : goal.returns
returns g c = c.calls_go_on_fitting.ensures.meanwhile _ _ _ c.happen.ensures.boot c.requires
