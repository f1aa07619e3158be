-- The words of the command `serve`.
use Rattle.std.specs.Prelude.{ℕ, ◌≤◌, ◌&&◌, nat_le, if◌then◌else◌, List, [], ◌∷◌, Option, Some, None, option_and_then, option_map, codes}
use Rattle.std.specs.Fmt.{decimal}
use Rattle.std.specs.Str.{bytes_eq}
use Rattle.decimal_digits.specs.Digits.{plain_number}
use Rattle.serve_command.specs.declared.words.TheConstants.{MAX_PORT, MAX_WORKERS}

-- What the words of `serve` say.
pub record ServeValue : Type 0 where
  pub port : ℕ
  pub file : List ℕ
  pub key_file : List ℕ
  pub workers : ℕ

-- the number from 1 to a greatest one that a word writes in decimal, without leading zeros
abbrev pub number_to : ℕ → List ℕ → Option ℕ
number_to most word =
    option_and_then (λ n. if nat_le 1 n && nat_le n most then Some n else None) (plain_number word)

-- what the four words behind `serve` say
abbrev pub serve_of : List ℕ → List ℕ → List ℕ → List ℕ → Option ServeValue
serve_of port file key_file workers =
    option_and_then (λ p. option_map
    (λ w. record { port = p; file = file; key_file = key_file; workers = w })
    (number_to MAX_WORKERS workers)) (number_to MAX_PORT port)

-- what two words say behind a port and a file
abbrev pub serve_behind : List ℕ → List ℕ → List (List ℕ) → Option ServeValue
serve_behind port file [] = None
serve_behind port file (key_file ∷ []) = None
serve_behind port file (key_file ∷ workers ∷ []) = serve_of port file key_file workers
serve_behind port file (key_file ∷ workers ∷ more ∷ words) = None

-- what the words say behind `serve`: four
abbrev pub serve_with : List (List ℕ) → Option ServeValue
serve_with [] = None
serve_with (port ∷ []) = None
serve_with (port ∷ file ∷ words) = serve_behind port file words

-- What words say that spell the command: `serve`, and behind it a port, a file, the file of the key, and how many
-- workers.
abbrev pub serve_words : List (List ℕ) → Option ServeValue
serve_words [] = None
serve_words (name ∷ words) = if bytes_eq name (codes "serve") then serve_with words else None

-- What may be said: a port from 1 to 65,535, and 1 to 64 workers.
pub record IsSaid (said : ServeValue) : Type 0 where
  pub some_port : 1 ≤ said.port
  pub last_port : said.port ≤ MAX_PORT
  pub some_workers : 1 ≤ said.workers
  pub most_workers : said.workers ≤ MAX_WORKERS

-- The five words that say it: `serve`, the port, the file, the file of the key, and how many workers, each number in
-- decimal as `{}` writes it.
abbrev pub words_saying : ServeValue → List (List ℕ)
words_saying said =
    codes "serve" ∷ decimal said.port ∷ said.file ∷ said.key_file ∷ decimal said.workers ∷ []
