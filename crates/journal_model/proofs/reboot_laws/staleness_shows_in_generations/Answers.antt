use Rattle.journal_model.proofs.Staleness.{tested, is_tested, same_tests, new_is_touch, new_is_not_stale, touch_kept, stale_kept, live_of}
use Rattle.journal_model.proofs.reboot_laws.staleness_shows_in_generations.Goals as goal

pub returns-clause-places : goal.returns-clause-places
returns-clause-places c = λ es t. (is_tested es t, (tested es t).0)

pub returns-clause-generations : goal.returns-clause-generations
returns-clause-generations c = same_tests

pub returns-clause-new : goal.returns-clause-new
returns-clause-new c = λ es g known up. (new_is_touch es g known up, new_is_not_stale es g)

pub returns-clause-kept : goal.returns-clause-kept
returns-clause-kept c = touch_kept

pub returns-clause-lasting : goal.returns-clause-lasting
returns-clause-lasting c = stale_kept

pub returns-clause-live : goal.returns-clause-live
returns-clause-live c = live_of
