use Rattle.boot_core.specs.Boot.{BootValue}
use Rattle.seat_laws.proofs.Attempting.{grown-by}
use Rattle.seat_laws.proofs.SeatsFit.{FitLaws, fit-laws, fits-attempt, fits-meanwhile, fits-still, step-commits, step-fits}
use Rattle.seat_laws.proofs.fitting.attempts_fit.Goals as goal
use Rattle.seat_steps.specs.Seats.{seat_step}

pub returns-clause-begins : goal.returns-clause-begins
returns-clause-begins c = λ boot site. record { site = site; stage = tt }

pub returns-clause-step : goal.returns-clause-step
returns-clause-step c =
    let laws : FitLaws = fit-laws c.cookies_are_accepted_of_their_texts.ensures.cookie c.cookies_are_accepted_of_their_texts.ensures.none c.tokens_are_read_once.ensures.read
    c.requests_are_decided_as_read.ensures c.orders_are_in_range.ensures c.orders_are_exact.ensures c.calls_follow.ensures.step in
    λ g seat w its. step-fits laws g seat w its

pub returns-clause-others : goal.returns-clause-others
returns-clause-others c =
    let laws : FitLaws = fit-laws c.cookies_are_accepted_of_their_texts.ensures.cookie c.cookies_are_accepted_of_their_texts.ensures.none c.tokens_are_read_once.ensures.read
    c.requests_are_decided_as_read.ensures c.orders_are_in_range.ensures c.orders_are_exact.ensures c.calls_follow.ensures.step in
    λ g seat other w its others.
    let new : BootValue = (seat_step g seat w).world.boot in fits-meanwhile w.boot new other (grown-by w.boot new (step-commits laws g seat w its)) others

pub returns-clause-meanwhile : goal.returns-clause-meanwhile
returns-clause-meanwhile c = fits-meanwhile

pub returns-clause-still : goal.returns-clause-still
returns-clause-still c = fits-still

pub returns-clause-attempt : goal.returns-clause-attempt
returns-clause-attempt c = fits-attempt
