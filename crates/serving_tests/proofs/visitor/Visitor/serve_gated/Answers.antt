use Rattle.serving_tests.proofs.Seeing.{to_site}
use Rattle.serving_tests.proofs.visitor.Visitor.serve_gated.Goals as goal

pub serve_gated-requires-clause-site : goal.serve_gated-requires-clause-site
serve_gated-requires-clause-site g c κs within = to_site c.args.self.now.shared.now.home c.args.self.now.seat.container.seen c.args.self.now.of_site
