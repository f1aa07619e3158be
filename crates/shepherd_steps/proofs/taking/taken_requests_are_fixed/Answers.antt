use Rattle.shepherd_steps.proofs.TakingSteps.{take-fixed}
use Rattle.shepherd_steps.proofs.taking.taken_requests_are_fixed.Goals as goal

pub returns : goal.returns
returns g c = λ service words serials seen now counts s new clock clock_after word_after serial_after decides in_turn tells takes.
    let so = take-fixed g.S.Serials.looks g.R.Random.gives service.numbers serials words in_turn.serials_in_turn in_turn.words_in_turn
    g.C.Clock.told service.key service.home service.decides seen now s clock counts new clock_after word_after serial_after
    (λ head decision is. c.decisions_are_one.ensures service.key service.home.boot head decision (service.decides head) is (decides head)) tells takes in
    (so.connection, so.word_state, so.serial_state)
