use Rattle.std.proofs.Common.{◌≡◌, ◌≤◌, ◌+◌, ◌*◌, ◌++◌, length, drop}
use Rattle.std.specs.List.{flat_map}
use Rattle.std.specs.String.{string_bytes, string_len, string_capacity}
use Rattle.scenario_text.specs.Texts.{byte_text, hex_text}
use Rattle.scenario_text.proofs.texts.write_hex.Given as goal

abbrev pub invariant-loop-byte : goal.invariant-loop-byte
invariant-loop-byte l = record {
  so_far : string_bytes l.text ++ flat_map byte_text (drop l.byte-index l.bytes) ≡ string_bytes l.fn.text ++ hex_text l.bytes;
  room : string_len l.text + 2 * length (drop l.byte-index l.bytes) ≤ string_capacity l.text;
}
