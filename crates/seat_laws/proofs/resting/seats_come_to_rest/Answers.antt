use Rattle.std.proofs.Common.{arith, ap}
use Rattle.boot_core.specs.Boot.{BootValue}
use Rattle.seat_steps.proofs.Functions.{reads-rightly}
use Rattle.seat_steps.specs.Seats.{seat_step}
use Rattle.seat_laws.proofs.Attempting.{grown-by}
use Rattle.seat_laws.proofs.Remaining.{LeftLaws, counted-going, counted-meanwhile, counted-still, step-counted, step-less, step-windows}
use Rattle.seat_laws.proofs.SeatsFit.{FitLaws, fit-laws, step-commits}
use Rattle.seat_laws.proofs.resting.seats_come_to_rest.Goals as goal
use Rattle.seat_laws.specs.StepsLeft.{stage_left}

pub returns-clause-begins : goal.returns-clause-begins
returns-clause-begins c = λ boot site. record { fits = record { site = site; stage = tt }; called = tt; tries = tt }

pub returns-clause-step : goal.returns-clause-step
returns-clause-step c =
    let fit : FitLaws = fit-laws c.cookies_are_accepted_of_their_texts.ensures.cookie c.cookies_are_accepted_of_their_texts.ensures.none c.tokens_are_read_once.ensures.read
    c.requests_are_decided_as_read.ensures c.orders_are_in_range.ensures c.orders_are_exact.ensures c.calls_follow.ensures.step in
    λ g seat w its. step-counted fit c.steps_are_one_event.ensures.called g seat w its

pub returns-clause-meanwhile : goal.returns-clause-meanwhile
returns-clause-meanwhile c = counted-meanwhile

pub returns-clause-others : goal.returns-clause-others
returns-clause-others c =
    let fit : FitLaws = fit-laws c.cookies_are_accepted_of_their_texts.ensures.cookie c.cookies_are_accepted_of_their_texts.ensures.none c.tokens_are_read_once.ensures.read
    c.requests_are_decided_as_read.ensures c.orders_are_in_range.ensures c.orders_are_exact.ensures c.calls_follow.ensures.step in
    λ g seat other w its others.
    let new : BootValue = (seat_step g seat w).world.boot in counted-meanwhile w.boot new other (grown-by w.boot new (step-commits fit g seat w its.fits)) others

pub returns-clause-still : goal.returns-clause-still
returns-clause-still c = counted-still

pub returns-clause-goes : goal.returns-clause-goes
returns-clause-goes c = counted-going

pub returns-clause-fewer : goal.returns-clause-fewer
returns-clause-fewer c =
    let laws : LeftLaws = record {
      ask = record {
        rightly = reads-rightly c.cookies_are_accepted_of_their_texts.ensures.cookie c.cookies_are_accepted_of_their_texts.ensures.none c.tokens_are_read_once.ensures.read;
        decides = c.requests_are_decided_as_read.ensures;
        accepted = c.cookies_are_of_the_key.ensures.accepted;
      };
      done = c.attempts_come_to_their_end.ensures.done;
      rests = c.going_alone_ends.ensures.rests;
      bytes = c.requests_have_bytes.ensures;
    } in
    λ g seat w its few some going. step-less laws g seat w its few some going

pub returns-clause-windows : goal.returns-clause-windows
returns-clause-windows c = step-windows

pub returns-clause-idle : goal.returns-clause-idle
returns-clause-idle c = λ seat is. (let rest = ap stage_left is in omega (arith, rest))
