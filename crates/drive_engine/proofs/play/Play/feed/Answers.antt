use Rattle.std.proofs.Common.{List, [], ℕ, subst, sym, ap, arith}
use Rattle.std.proofs.lemmas.Result.{MatchResult-weaker}
use Rattle.scenario_engine.specs.KeeperCalls.{KeeperSeen}
use Rattle.drive_engine.specs.declared.ending.Ending.{Ending}
use Rattle.drive_engine.specs.declared.words.Command.TheVariants.{Drive}
use Rattle.drive_engine.specs.Command.{Runs}
use Rattle.drive_engine.specs.Play.{HasCome, Comes, EndsFrom}
use Rattle.drive_engine.specs.Exchange.{exchange}
use Rattle.drive_engine.proofs.Coming.{comes_line, comes_kept, ends_in_piece, ends_long}
use Rattle.drive_engine.proofs.play.Play.feed.Goals as goal

pub returns-in-Err-clause-comes : goal.returns-in-Err-clause-comes
returns-in-Err-clause-comes g c =
    let old = g.T.Sink.written c.loop-part.out in
    let new = g.T.Sink.written c.end_line.new.out in
    let before = c.loop-part.self.keeper in
    let after = c.end_line.new.self.keeper in
    let part = c.in-Some.part.now in
    let more = c.in-Some.more.now in
    let cut = c.in-Some.ensures.ended in
    λ left left_now written told room past h.
    let P : List ℕ → Type 0 = λ t. HasCome (exchange left left_now written old told before) room t past c.loop-part.self in
    ends_in_piece c.in-Err.ending left left_now written old new told before after room past c.loop-part.self part more c.scenarios_stand.ensures c.turns_stand.ensures cut.0 c.in-Err.ensures.does (subst P cut.1 (c.loop-part.invariant.comes left left_now written told room past h))

pub loop-part-preserved : goal.loop-part-preserved
loop-part-preserved g c =
    let old = g.T.Sink.written c.loop-part.out in
    let new = g.T.Sink.written c.end_line.new.out in
    let before = c.loop-part.self.keeper in
    let after = c.end_line.new.self.keeper in
    let part = c.in-Some.part.now in
    let more = c.in-Some.more.now in
    let cut = c.in-Some.ensures.ended in
    record {
      comes = λ left left_now written told room past h.
          let P : List ℕ → Type 0 = λ t. HasCome (exchange left left_now written old told before) room t past c.loop-part.self in
          comes_line left left_now written old new told before after room past c.loop-part.self c.end_line.new.self part more cut.0 c.in-Ok.ensures.does c.in-Ok.ensures.next.0 c.in-Ok.ensures.next.1 (subst P cut.1 (c.loop-part.invariant.comes left left_now written told room past h));
      number = omega (arith, c.in-Some.ensures.shorter, c.in-Ok.ensures.next.1);
      count = omega arith;
      keeper_count = omega arith;
    }

pub returns-clause-comes : goal.returns-clause-comes
returns-clause-comes g c =
    let new = g.T.Sink.written c.loop-part.out in
    let after = c.keep.new.self.keeper in
    let p = c.loop-part.self in
    let rest = c.loop-part.rest.now in
    let one = c.in_default.ensures.ended in
    let old = g.T.Sink.written c.args.out.now in
    let before = c.args.self.now.keeper in
    let P : KeeperSeen → Type 0 = λ k. Comes c.args.self.now c.args.piece.now old before p rest new k in
    let come = subst P (sym c.keep.ensures.kept) c.loop-part.invariant.comes in
    MatchResult-weaker c.keep.result
    {P' = λ x. Comes c.args.self.now c.args.piece.now old before c.keep.new.self [] new after}
    {Q' = λ ending. EndsFrom c.args.self.now c.args.piece.now old before ending new after}
    c.keep.ensures.keeps
    (λ x k. λ left left_now written told room past h. comes_kept left left_now written new told after room past p c.keep.new.self rest one k.0 k.1 (come left left_now written told room past h))
    (λ ending k. λ left left_now written told room past h.
    let P : Ending → Type 0 = λ e. Runs Drive e (exchange left left_now written new told after) in
    subst P (sym k.0) (ends_long left left_now written new told after room past p rest c.scenarios_stand.ensures one k.1 (come left left_now written told room past h)))

pub returns-clause-keeper_count : goal.returns-clause-keeper_count
returns-clause-keeper_count g c =
    let same = ap (λ (k : KeeperSeen). k.faults) c.keep.ensures.kept in
    omega (arith, same, c.loop-part.invariant.keeper_count)
