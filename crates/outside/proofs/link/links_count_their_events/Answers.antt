use Rattle.outside.specs.Link.{is_silence, is_silence_of, is_frame}
use Rattle.outside.proofs.Counting.{rose_by_all}
use Rattle.outside.proofs.link.links_count_their_events.Goals as goal

pub returns-clause-brick : goal.returns-clause-brick
returns-clause-brick g c = λ old new events brick made. rose_by_all g.L.Link.makes (λ l. (g.L.Link.tally l).silences brick) (is_silence_of brick) (λ o n e m. (g.met.L.Link.tallies o n e m).silences_never_fall brick) (λ o n e m. (g.met.L.Link.tallies o n e m).silence_rises brick) events old new made

pub returns-clause-hushed : goal.returns-clause-hushed
returns-clause-hushed g c = λ old new events made. rose_by_all g.L.Link.makes (λ l. (g.L.Link.tally l).hushed) is_silence (λ o n e m. (g.met.L.Link.tallies o n e m).hushed_never_falls) (λ o n e m. (g.met.L.Link.tallies o n e m).hushed_rises) events old new made

pub returns-clause-got : goal.returns-clause-got
returns-clause-got g c = λ old new events made. rose_by_all g.L.Link.makes (λ l. (g.L.Link.tally l).got) is_frame (λ o n e m. (g.met.L.Link.tallies o n e m).got_never_falls) (λ o n e m. (g.met.L.Link.tallies o n e m).got_rises) events old new made
