use Rattle.std.proofs.Common.{◌≡◌, ◌++◌, drop, string_bytes}
use Rattle.std.specs.List.{flat_map}
use Rattle.session_steps.specs.Texts.{cause_text}
use Rattle.session_steps.proofs.texts.write_causes.Given as goal

abbrev pub invariant-loop-cause : goal.invariant-loop-cause
invariant-loop-cause l =
    string_bytes l.text ++ flat_map cause_text (drop l.cause-index l.causes) ≡ string_bytes l.initial.text ++ flat_map cause_text l.causes
