use Rattle.std.proofs.Common.{◌≡◌, ◌≢◌, ℕ, ◌-◌, List, [], length, take, drop, min, Ok, Err, refl, ap, sym, subst, length-drop, arith}
use Rattle.std.proofs.lemmas.List.{length-take, nil_from_length}
use Rattle.outside.specs.Source.{prepended}
use Rattle.drive_engine.specs.declared.drive.TheConstants.{MAX_SCENARIO_BYTES}
use Rattle.drive_engine.specs.Exchange.{exchange}
use Rattle.drive_engine.specs.Play.{PlayState, HasCome}
use Rattle.drive_engine.proofs.Coming.{comes_first, comes_read, stops_at_failed_read, stops_past_limit}
use Rattle.drive_engine.proofs.drive.play_on.Goals as goal

pub pieces-init : goal.pieces-init
pieces-init g c =
    let left = g.S.Source.left c.args.input.now in
    let written = g.T.Sink.written c.args.out.now in
    let told = c.args.play.now.keeper in
    let P : PlayState → Type 0 = λ p. HasCome (exchange left left written written told told) MAX_SCENARIO_BYTES [] [] p in
    let start : c.args.play.now.number ≡ 1 = ap (λ p. p.number) c.requires in
    record {
      come = subst P (sym c.requires) (comes_first left written told);
      number = omega (arith, start);
      reads = omega arith;
      writes = omega arith;
      asks = omega arith;
    }

pub returns-in-Err-clause-runs : goal.returns-in-Err-clause-runs
returns-in-Err-clause-runs g c =
    let left = g.S.Source.left in
    let written = g.T.Sink.written in
    stops_at_failed_read (left c.args.input.now) (left c.pieces.input) (left c.read.new.self) (written c.args.out.now) (written c.pieces.out) c.args.play.now.keeper c.pieces.play.keeper c.pieces.more c.pieces.play c.scenarios_stand.ensures c.in-Err.ensures.err c.pieces.invariant.come

pub returns-in-Ok-eq0-clause-runs : goal.returns-in-Ok-eq0-clause-runs
returns-in-Ok-eq0-clause-runs g c =
    let left = g.S.Source.left in
    let written = g.T.Sink.written in
    let none : c.in-Ok-eq0.field-0 ≡ 0 = c.in-Ok-eq0.field-0-test in
    let P : ℕ → Type 0 = λ n. left c.pieces.input ≡ prepended (take n c.read.new.into) (left c.read.new.self) in
    let taken = subst P none c.in-Ok-eq0.ensures.taken in
    let come = comes_read (left c.args.input.now) (left c.pieces.input) (left c.read.new.self) (written c.args.out.now) (written c.pieces.out) c.args.play.now.keeper c.pieces.play.keeper c.pieces.more c.pieces.more 0 0 c.read.new.into c.pieces.play (omega arith) (omega arith) (omega arith) taken c.pieces.invariant.come in
    c.finish.ensures.ends (left c.args.input.now) (left c.read.new.self) (written c.args.out.now) c.args.play.now.keeper c.pieces.more (c.in-Ok-eq0.ensures.end (ap Ok none) (omega arith)) come

pub returns-in-Ok-eq0-clause-read_failed : goal.returns-in-Ok-eq0-clause-read_failed
returns-in-Ok-eq0-clause-read_failed g c = λ e. absurd (c.finish.ensures.reads_nothing e)

pub returns-in-Err-feed-clause-runs : goal.returns-in-Err-feed-clause-runs
returns-in-Err-feed-clause-runs g c =
    let left = g.S.Source.left in
    let written = g.T.Sink.written in
    let n = c.in-Ok.n in
    let k = c.min.result in
    let rest = c.pieces.more - k in
    let come = comes_read (left c.args.input.now) (left c.pieces.input) (left c.read.new.self) (written c.args.out.now) (written c.pieces.out) c.args.play.now.keeper c.pieces.play.keeper c.pieces.more rest n k c.read.new.into c.pieces.play (omega arith) (omega (arith, c.in-Ok.ensures.within)) (omega arith) c.in-Ok.ensures.taken c.pieces.invariant.come in
    c.in-Err-feed.ensures.comes (left c.args.input.now) (left c.read.new.self) (written c.args.out.now) c.args.play.now.keeper rest (take (n - k) (drop k c.read.new.into)) come

pub returns-in-Err-feed-clause-read_failed : goal.returns-in-Err-feed-clause-read_failed
returns-in-Err-feed-clause-read_failed g c = λ e. absurd (c.in-Err-feed.ensures.reads_nothing (ap Err e))

pub returns-then-n-more-clause-runs : goal.returns-then-n-more-clause-runs
returns-then-n-more-clause-runs g c =
    let left = g.S.Source.left in
    let written = g.T.Sink.written in
    let n = c.in-Ok.n in
    let k = c.min.result in
    let past = take (n - k) (drop k c.read.new.into) in
    let size : length past ≡ min (n - k) (length (drop k c.read.new.into)) = length-take (n - k) (drop k c.read.new.into) in
    let some : past ≢ [] = λ none. let empty : length past ≡ 0 = ap length none in absurd (omega (arith, c.in-Ok.ensures.within, length-drop k c.read.new.into)) in
    let come = comes_read (left c.args.input.now) (left c.pieces.input) (left c.read.new.self) (written c.args.out.now) (written c.pieces.out) c.args.play.now.keeper c.pieces.play.keeper c.pieces.more 0 n k c.read.new.into c.pieces.play (omega arith) (omega (arith, c.in-Ok.ensures.within)) (omega arith) c.in-Ok.ensures.taken c.pieces.invariant.come in (
      refl,
      stops_past_limit (left c.args.input.now) (left c.read.new.self) (written c.args.out.now) (written c.feed.new.out) c.args.play.now.keeper c.feed.new.self.keeper past c.feed.new.self c.scenarios_stand.ensures some
          (c.in-Ok-feed.ensures.comes (left c.args.input.now) (left c.read.new.self) (written c.args.out.now) c.args.play.now.keeper 0 past come),
    )

pub pieces-preserved : goal.pieces-preserved
pieces-preserved g c =
    let left = g.S.Source.left in
    let written = g.T.Sink.written in
    let n = c.in-Ok.n in
    let k = c.min.result in
    let rest = c.pieces.more - n in
    let past = take (n - k) (drop k c.read.new.into) in
    let none : past ≡ [] = nil_from_length past (omega (arith, length-take (n - k) (drop k c.read.new.into))) in
    let come = comes_read (left c.args.input.now) (left c.pieces.input) (left c.read.new.self) (written c.args.out.now) (written c.pieces.out) c.args.play.now.keeper c.pieces.play.keeper c.pieces.more rest n k c.read.new.into c.pieces.play (omega arith) (omega (arith, c.in-Ok.ensures.within)) (omega arith) c.in-Ok.ensures.taken c.pieces.invariant.come in
    let P : List ℕ → Type 0 = λ t. HasCome (exchange (left c.args.input.now) (left c.read.new.self) (written c.args.out.now) (written c.feed.new.out) c.args.play.now.keeper c.feed.new.self.keeper) rest [] t c.feed.new.self in
    record {
      come = subst P none (c.in-Ok-feed.ensures.comes (left c.args.input.now) (left c.read.new.self) (written c.args.out.now) c.args.play.now.keeper rest past come);
      number = omega (arith, c.in-Ok-feed.ensures.number, length-take k c.read.new.into);
      reads = omega (arith, c.in-Ok.ensures.count);
      writes = omega (arith, c.feed.ensures.count);
      asks = omega (arith, c.feed.ensures.keeper_count);
    }
