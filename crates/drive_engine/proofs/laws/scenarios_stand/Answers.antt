use Rattle.drive_engine.proofs.laws.scenarios_stand.Goals as goal

pub returns : goal.returns
returns c = λ turns old new whole. record {
  did = c.turns_stand.ensures turns old new whole.done;
  served = c.connections_serve_their_requests.ensures.served turns whole.steps;
  decided = c.decisions_are_by_all_reports.ensures.decided turns;
}
