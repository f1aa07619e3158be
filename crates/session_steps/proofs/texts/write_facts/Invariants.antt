use Rattle.std.proofs.Common.{◌≡◌, ◌++◌, drop, string_bytes}
use Rattle.std.specs.List.{flat_map}
use Rattle.session_steps.specs.Texts.{fact_text}
use Rattle.session_steps.proofs.texts.write_facts.Given as goal

abbrev pub invariant-loop-fact : goal.invariant-loop-fact
invariant-loop-fact l =
    string_bytes l.text ++ flat_map fact_text (drop l.fact-index l.facts) ≡ string_bytes l.initial.text ++ flat_map fact_text l.facts
