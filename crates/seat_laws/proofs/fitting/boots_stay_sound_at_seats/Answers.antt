use Rattle.seat_laws.proofs.Attempting.{grown-by}
use Rattle.seat_laws.proofs.Meaning.{step-meant}
use Rattle.seat_laws.proofs.SeatsFit.{FitLaws, fit-laws, own-at-seats, sound-at-seats, step-commits}
use Rattle.seat_laws.proofs.fitting.boots_stay_sound_at_seats.Goals as goal
use Rattle.seat_steps.specs.Seats.{seat_step}

pub returns-clause-commits : goal.returns-clause-commits
returns-clause-commits c =
    let laws : FitLaws = fit-laws c.cookies_are_accepted_of_their_texts.ensures.cookie c.cookies_are_accepted_of_their_texts.ensures.none c.tokens_are_read_once.ensures.read
    c.requests_are_decided_as_read.ensures c.orders_are_in_range.ensures c.orders_are_exact.ensures c.calls_follow.ensures.step in
    λ g seat w its. step-commits laws g seat w its

pub returns-clause-grown : goal.returns-clause-grown
returns-clause-grown c =
    let laws : FitLaws = fit-laws c.cookies_are_accepted_of_their_texts.ensures.cookie c.cookies_are_accepted_of_their_texts.ensures.none c.tokens_are_read_once.ensures.read
    c.requests_are_decided_as_read.ensures c.orders_are_in_range.ensures c.orders_are_exact.ensures c.calls_follow.ensures.step in
    λ g seat w its. grown-by w.boot (seat_step g seat w).world.boot (step-commits laws g seat w its)

pub returns-clause-sound : goal.returns-clause-sound
returns-clause-sound c =
    let laws : FitLaws = fit-laws c.cookies_are_accepted_of_their_texts.ensures.cookie c.cookies_are_accepted_of_their_texts.ensures.none c.tokens_are_read_once.ensures.read
    c.requests_are_decided_as_read.ensures c.orders_are_in_range.ensures c.orders_are_exact.ensures c.calls_follow.ensures.step in
    λ g seat w its. sound-at-seats laws g seat w its c.boots_stay_sound.ensures.commit

pub returns-clause-own : goal.returns-clause-own
returns-clause-own c =
    let laws : FitLaws = fit-laws c.cookies_are_accepted_of_their_texts.ensures.cookie c.cookies_are_accepted_of_their_texts.ensures.none c.tokens_are_read_once.ensures.read
    c.requests_are_decided_as_read.ensures c.orders_are_in_range.ensures c.orders_are_exact.ensures c.calls_follow.ensures.step in
    λ g seat w its. own-at-seats laws g seat w its

pub returns-clause-meant : goal.returns-clause-meant
returns-clause-meant c = λ g seat w its spells meant. step-meant c.journals_stay_meant.ensures.followed g seat w its spells meant
