use Rattle.session_steps.proofs.WriteLines.{write_refused, none_counts, bricks_counts, key_counts}
use Rattle.session_steps.proofs.laws.writes_with_new_nonces_are_done.Goals as goal

pub returns-clause-refused : goal.returns-clause-refused
returns-clause-refused c = write_refused c.windows_keep_their_limits.ensures.call c.windows_keep_their_limits.ensures.new c.taken_passes_are_lawful.ensures

pub returns-clause-none : goal.returns-clause-none
returns-clause-none c = none_counts

pub returns-clause-bricks : goal.returns-clause-bricks
returns-clause-bricks c = bricks_counts

pub returns-clause-key : goal.returns-clause-key
returns-clause-key c = key_counts
