use Rattle.std.proofs.Common.{◌≡◌, ◌≢◌, [], length, ap, sym, ◌∙◌, arith}
use Rattle.std.proofs.lemmas.Bool.Decides.{nat_tests}
use Rattle.std.proofs.lemmas.List.{nil_from_length}
use Rattle.drive_engine.proofs.Coming.{ends_with_feed, ends_without_feed, ends_at_end}
use Rattle.drive_engine.proofs.play.Play.finish.Goals as goal

pub returns-then-is_empty-clause-ends : goal.returns-then-is_empty-clause-ends
returns-then-is_empty-clause-ends g c =
    let written = g.T.Sink.written c.args.out.now in
    let same = ap (λ p. p.part) c.self.view_is in
    let none : c.args.self.now.part ≡ [] = sym same ∙ nil_from_length c.self.inside.part.items (grind (arith, nat_tests, c.self.inside.part.ok.0)) in
    λ left left_now from told more ended h. ends_with_feed left left_now from written told (c.args.self.now.keeper) more c.args.self.now c.scenarios_stand.ensures none ended h

pub returns-in-Ok-clause-ends : goal.returns-in-Ok-clause-ends
returns-in-Ok-clause-ends g c =
    let old = g.T.Sink.written c.args.out.now in
    let new = g.T.Sink.written c.do_kept.new.out in
    let before = c.args.self.now.keeper in
    let after = c.do_kept.new.self.keeper in
    let some : c.args.self.now.part ≢ [] = λ none. let empty : length c.self.inside.part.items ≡ 0 = ap (λ p. length p.part) c.self.view_is ∙ ap length none in grind (arith, nat_tests, c.self.inside.part.ok.0) in
    λ left left_now from told more ended h. ends_without_feed left left_now from old new told before after more c.args.self.now c.do_kept.new.self.state c.scenarios_stand.ensures some c.in-Ok.ensures.does ended h

pub returns-in-Err-clause-ends : goal.returns-in-Err-clause-ends
returns-in-Err-clause-ends g c =
    let old = g.T.Sink.written c.args.out.now in
    let new = g.T.Sink.written c.do_kept.new.out in
    let before = c.args.self.now.keeper in
    let after = c.do_kept.new.self.keeper in
    let some : c.args.self.now.part ≢ [] = λ none. let empty : length c.self.inside.part.items ≡ 0 = ap (λ p. length p.part) c.self.view_is ∙ ap length none in grind (arith, nat_tests, c.self.inside.part.ok.0) in
    λ left left_now from told more ended h. ends_at_end c.in-Err.ending left left_now from old new told before after more c.args.self.now c.scenarios_stand.ensures c.turns_stand.ensures some c.in-Err.ensures.does ended h
