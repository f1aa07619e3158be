use Rattle.std.proofs.Common.{◌≡◌, ◌∙◌, Some, ℕ, true, false, is_some, string_bytes, arith}
use Rattle.std.proofs.lemmas.Bool.Decides.{nat_tests}
use Rattle.std.proofs.lemmas.Result.{IfOk-at_ok}
use Rattle.session_steps.specs.Lent.{put_back}
use Rattle.session_steps.specs.Sessions.{SessionsState}
use Rattle.seat_lines.specs.Handing.{RunsOnce}
use Rattle.seat_lines.specs.Runs.{rests}
use Rattle.seat_lines.specs.Site.{seat_at}
use Rattle.seat_lines.proofs.RunSteps.{can_begin, can_go, run_ends, run_gives_up, run_refused, runs_begin, runs_on}
use Rattle.seat_lines.proofs.seats.Seats.run.Goals as goal

pub returns-then-not-is_there-clause-answer : goal.returns-then-not-is_there-clause-answer
returns-then-not-is_there-clause-answer g c =
    let there : is_some (seat_at c.args.self.now.seats c.args.number) ≡ false = grind (arith, nat_tests, c.is_there.ensures, c.if-not-is_there.true) in
    run_refused c.args.number c.args.container.now (put_back c.args.lent.now (Some c.args.lending.lanes) c.args.lending.serial) c.args.self.now
    (can_begin c.args.number c.args.container.now c.args.lent.now c.args.lending.lanes c.args.lending.serial c.args.self.now c.requires.number ∙ there)

pub loop-alloc-init : goal.loop-alloc-init
loop-alloc-init g c =
    runs_begin c.args.number c.args.container.now (put_back c.args.lent.now (Some c.args.lending.lanes) c.args.lending.serial) c.args.self.now (Some c.args.lending.lanes) (string_bytes c.new-text.result)
    c.new-text.ensures.bytes c.requires.sound c.requires.goes c.requires.site

pub returns-then-left-eq0-clause-breaks : goal.returns-then-left-eq0-clause-breaks
returns-then-left-eq0-clause-breaks g c =
    let going : rests (seat_at c.loop-alloc.self.seats c.args.number) ≡ false = grind (arith, nat_tests, c.rests.ensures, c.loop-alloc-test.true) in
    run_gives_up c.args.number c.args.container.now (put_back c.args.lent.now (Some c.args.lending.lanes) c.args.lending.serial) c.args.self.now
    c.loop-alloc.container (put_back c.args.lent.now (Some c.loop-alloc.lending.lanes) c.loop-alloc.lending.serial) c.loop-alloc.self (string_bytes c.loop-alloc.text) c.loop-alloc.invariant.run
    (can_go c.args.number c.loop-alloc.container c.args.lent.now c.loop-alloc.lending.lanes c.loop-alloc.lending.serial c.loop-alloc.self c.requires.number going) going

pub loop-alloc-preserved : goal.loop-alloc-preserved
loop-alloc-preserved g c =
    let n : ℕ = c.args.number in
    let sessions : SessionsState = put_back c.args.lent.now (Some c.args.lending.lanes) c.args.lending.serial in
    let mid : SessionsState = put_back c.args.lent.now (Some c.loop-alloc.lending.lanes) c.loop-alloc.lending.serial in
    let after : SessionsState = put_back c.args.lent.now (Some c.run_on-after.result.0.lanes) c.run_on-after.result.0.serial in
    let going : rests (seat_at c.loop-alloc.self.seats n) ≡ false = grind (arith, nat_tests, c.rests.ensures, c.loop-alloc-test.true) in
    let once : RunsOnce n c.loop-alloc.container mid c.loop-alloc.self (string_bytes c.loop-alloc.text) c.run_on-after.new.container after c.run_on-after.new.self (string_bytes c.run_on-after.new.text) = IfOk-at_ok _ c.in-Ok.is c.run_on-after.ensures.run in
    runs_on n c.args.container.now sessions c.args.self.now c.loop-alloc.container mid c.loop-alloc.self (string_bytes c.loop-alloc.text) (Some c.loop-alloc.lending.lanes)
    c.run_on-after.new.container after c.run_on-after.new.self (string_bytes c.run_on-after.new.text) (Some c.run_on-after.result.0.lanes) c.loop-alloc.invariant going once
    (IfOk-at_ok _ c.in-Ok.is c.run_on-after.ensures.sound) c.run_on-after.ensures.goes c.run_on-after.ensures.grown c.run_on-after.ensures.count

pub returns-clause-answer : goal.returns-clause-answer
returns-clause-answer g c =
    let n : ℕ = c.args.number in
    let sessions : SessionsState = put_back c.args.lent.now (Some c.args.lending.lanes) c.args.lending.serial in
    let there : is_some (seat_at c.args.self.now.seats n) ≡ true = grind (arith, nat_tests, c.is_there.ensures, c.if-not-is_there.false) in
    let at_rest : rests (seat_at c.loop-alloc.self.seats n) ≡ true = grind (arith, nat_tests, c.rests.ensures, c.loop-alloc-test.false) in
    run_ends n c.args.container.now sessions c.args.self.now c.loop-alloc.container (put_back c.args.lent.now (Some c.loop-alloc.lending.lanes) c.loop-alloc.lending.serial) c.loop-alloc.self (string_bytes c.loop-alloc.text) c.loop-alloc.invariant.run
    (can_begin n c.args.container.now c.args.lent.now c.args.lending.lanes c.args.lending.serial c.args.self.now c.requires.number ∙ there) at_rest
