-- Which line about sessions a text spells.
use Rattle.std.specs.Prelude.{ℕ, if◌then◌else◌, List, Option, Some, None, codes}
use Rattle.std.specs.Option.{option_map, option_or}
use Rattle.std.specs.Str.{bytes_eq}
use Rattle.scenario_text.specs.declared.session_line.SessionLine.{SessionLine}
use Rattle.scenario_text.specs.declared.session_line.SessionLine.TheVariants.{Now, Write, Fetch, Cookie, Present, Lose, Mute, Repeat, Crash, Sweep, Values, Windows, Hold, Free}
use Rattle.scenario_text.specs.Words.{no_words}
use Rattle.scenario_text.specs.Arguments.{one_number, one_key, one_text, one_brick, brick_and_number, key_and_bytes, brick_and_freed}

-- the line of sweep and these words: a brick, and maybe a moment
abbrev pub sweep_line : List (List ℕ) → Option SessionLine
sweep_line words =
    option_or
    (option_map (λ b. Sweep b None) (one_brick words))
    (option_map (λ p. Sweep p.0 (Some p.1)) (brick_and_number words))

-- the line about sessions that a first word and the further words spell
abbrev pub session_line : List ℕ → List (List ℕ) → Option SessionLine
session_line first words =
    if bytes_eq first (codes "now") then option_map (λ n. Now n) (one_number words) else (
    if bytes_eq first (codes "write") then option_map (λ p. Write p.0 p.1) (key_and_bytes words) else (
    if bytes_eq first (codes "fetch") then option_map (λ k. Fetch k) (one_key words) else (
    if bytes_eq first (codes "cookie") then option_map (λ k. Cookie k) (one_key words) else (
    if bytes_eq first (codes "present") then option_map (λ t. Present t) (one_text words) else (
    if bytes_eq first (codes "lose") then option_map (λ p. Lose p.0 p.1) (brick_and_number words) else (
    if bytes_eq first (codes "mute") then option_map (λ p. Mute p.0 p.1) (brick_and_number words) else (
    if bytes_eq first (codes "repeat") then option_map (λ p. Repeat p.0 p.1) (brick_and_number words) else (
    if bytes_eq first (codes "crash") then option_map (λ b. Crash b) (one_brick words) else (
    if bytes_eq first (codes "sweep") then sweep_line words else (
    if bytes_eq first (codes "values") then option_map (λ b. Values b) (one_brick words) else (
    if bytes_eq first (codes "windows") then option_map (λ _. Windows) (no_words words) else (
    if bytes_eq first (codes "hold") then option_map (λ b. Hold b) (one_brick words) else (
    if bytes_eq first (codes "free") then option_map (λ p. Free p.0 p.1) (brick_and_freed words) else None)))))))))))))
