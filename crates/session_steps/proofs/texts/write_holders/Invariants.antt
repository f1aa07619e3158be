use Rattle.std.proofs.Common.{◌≡◌, ◌++◌, drop, string_bytes}
use Rattle.std.specs.List.{flat_map}
use Rattle.session_steps.specs.Texts.{holder_text}
use Rattle.session_steps.proofs.texts.write_holders.Given as goal

abbrev pub invariant-loop-holder : goal.invariant-loop-holder
invariant-loop-holder l =
    string_bytes l.text ++ flat_map holder_text (drop l.holder-index l.holders) ≡ string_bytes l.initial.text ++ flat_map holder_text l.holders
