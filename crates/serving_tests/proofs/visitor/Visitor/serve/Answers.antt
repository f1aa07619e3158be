use Rattle.serving_tests.proofs.Seeing.{to_site}
use Rattle.serving_tests.proofs.visitor.Visitor.serve.Goals as goal

pub serve_connection-requires-clause-site : goal.serve_connection-requires-clause-site
serve_connection-requires-clause-site g c κs within = to_site c.args.self.now.shared.now.home c.args.self.now.seat.container.seen c.args.self.now.of_site
