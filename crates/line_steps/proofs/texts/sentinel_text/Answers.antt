use Rattle.std.proofs.lemmas.List.{append_assoc}
use Rattle.line_steps.proofs.texts.sentinel_text.Goals as goal

pub returns : goal.returns
returns c = simp append_assoc (simp c.new-text.ensures.bytes at c.in_ok-write.ensures.bytes)
