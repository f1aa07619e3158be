use Rattle.std.proofs.Common.{◌∷◌, [], ◌++◌, sym}
use Rattle.journal_model.specs.declared.entry.Entry.TheVariants.{Commit, Down, Up}
use Rattle.component_pool.specs.Cures.{level_of}
use Rattle.component_pool.specs.Journal.{reboots_in}
use Rattle.component_pool.specs.Pool.{rebooted_at}
use Rattle.component_pool.proofs.Journals.{reboots_in-down, reboots_in-commit, reboots_in-up, stands_alike, follows_generation, follows_may}
use Rattle.component_pool.proofs.Counting.{stands_as_counted}
use Rattle.component_pool.proofs.journal_laws.pools_follow_journals.Goals as goal

pub returns-clause-down : goal.returns-clause-down
returns-clause-down c = λ pool parts given enterings es s.
    stands_alike pool parts given enterings (rebooted_at s (level_of s) (reboots_in es)) (reboots_in (es ++ Down s ∷ [])) (λ g. sym (reboots_in-down es s g))

pub returns-clause-commit : goal.returns-clause-commit
returns-clause-commit c = λ pool parts given enterings es e.
    stands_alike pool parts given enterings (reboots_in es) (reboots_in (es ++ Commit e ∷ [])) (λ g. sym (reboots_in-commit es e g))

pub returns-clause-up : goal.returns-clause-up
returns-clause-up c = λ pool parts given enterings es s.
    stands_alike pool parts given enterings (reboots_in es) (reboots_in (es ++ Up s ∷ [])) (λ g. sym (reboots_in-up es s g))

pub returns-clause-generation : goal.returns-clause-generation
returns-clause-generation c = λ pool parts given enterings es n stands. follows_generation pool parts given enterings es stands n

pub returns-clause-few : goal.returns-clause-few
returns-clause-few c = follows_may

pub returns-clause-counted : goal.returns-clause-counted
returns-clause-counted c = stands_as_counted
