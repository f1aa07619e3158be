-- What spells `serve`.
use Rattle.std.proofs.Common.{◌≡◌, ℕ, ◌<◌, ◌≤◌, ◌^◌, ◌&&◌, nat_le, Bool, true, false, cond, List, [], ◌∷◌, Option, Some, None, codes, refl, ap, subst, ◌∙◌, arith}
use Rattle.std.specs.Fmt.{decimal}
use Rattle.std.specs.Option.{option_map}
use Rattle.std.specs.Str.{bytes_eq}
use Rattle.std.proofs.lemmas.Bool.{and_parts}
use Rattle.std.proofs.lemmas.Bool.Decides.{nat_tests}
use Rattle.std.proofs.lemmas.Slice.Eq.{bytes_eq-Decides}
use Rattle.crash_base.proofs.Options.{then_some, map_some}
use Rattle.decimal_digits.specs.Digits.{plain_number}
use Rattle.decimal_digits.proofs.Written.{plain_is_decimal, decimal_reads}
use Rattle.serve_command.specs.declared.words.TheConstants.{MAX_PORT, MAX_WORKERS}
use Rattle.serve_command.specs.Words.{IsSaid, ServeValue, number_to, serve_of, serve_with, serve_words, words_saying}

-- a test that gives something
given : (b : Bool) (m n : ℕ) → cond b (Some m) None ≡ Some n → (b ≡ true) × (m ≡ n)
given true m n h = (refl, cc)
given false m n h = cc

-- a word that says a number is that number in decimal
number_spelled : (most : ℕ) (word : List ℕ) (n : ℕ) → number_to most word ≡ Some n → (word ≡ decimal n) × (1 ≤ n) × (n ≤ most)
number_spelled most word n h =
    let f : ℕ → Option ℕ = λ m. cond (nat_le 1 m && nat_le m most) (Some m) None in
    let (m, e, k) = then_some f (plain_number word) n h in
    let g = given (nat_le 1 m && nat_le m most) m n k in
    let d = plain_is_decimal word m e in
    let same : m ≡ n = g.1 in
    let t = and_parts (nat_le 1 m) (nat_le m most) g.0 in
    let low : 1 ≤ n = grind (arith, nat_tests) in
    let high : n ≤ most = grind (arith, nat_tests) in
    (d.0 ∙ ap decimal same, low, high)

-- and that word says it
number_read : (most n : ℕ) → most < 10 ^ 19 → 1 ≤ n → n ≤ most → number_to most (decimal n) ≡ Some n
number_read most n bound low high =
    let some : nat_le 1 n ≡ true = grind (arith, nat_tests) in
    let few : nat_le n most ≡ true = grind (arith, nat_tests) in
    let small : n < 10 ^ 19 = omega (arith, bound, high) in
    rw (decimal_reads (decimal n) n (refl, small), some, few) refl

-- a port and a number of workers in decimal, a file and a file of the key
said_by : (p w : ℕ) (port file key workers : List ℕ) → (port ≡ decimal p) × (1 ≤ p) × (p ≤ MAX_PORT) → (workers ≡ decimal w) × (1 ≤ w) × (w ≤ MAX_WORKERS)
    → (codes "serve" ∷ port ∷ file ∷ key ∷ workers ∷ [] ≡ words_saying (record { port = p; file = file; key_file = key; workers = w }))
    × IsSaid (record { port = p; file = file; key_file = key; workers = w })
said_by p w port file key workers ports works = (
  ap (λ x. codes "serve" ∷ x ∷ file ∷ key ∷ workers ∷ []) ports.0 ∙ ap (λ x. codes "serve" ∷ decimal p ∷ file ∷ key ∷ x ∷ []) works.0,
  record { some_port = ports.1; last_port = ports.2; some_workers = works.1; most_workers = works.2 },
)

-- four words that say something are those that say it
four_spelled : (port file key workers : List ℕ) (said : ServeValue) → serve_of port file key workers ≡ Some said
    → (codes "serve" ∷ port ∷ file ∷ key ∷ workers ∷ [] ≡ words_saying said) × IsSaid said
four_spelled port file key workers said h =
    let saying : ℕ → ℕ → ServeValue = λ p w. record { port = p; file = file; key_file = key; workers = w } in
    let (p, e, k) = then_some (λ p. option_map (saying p) (number_to MAX_WORKERS workers)) (number_to MAX_PORT port) said h in
    let (w, d, same) = map_some (saying p) (number_to MAX_WORKERS workers) said k in
    let P : ServeValue → Type 0 = λ s. (codes "serve" ∷ port ∷ file ∷ key ∷ workers ∷ [] ≡ words_saying s) × IsSaid s in
    subst P same (said_by p w port file key workers (number_spelled MAX_PORT port p e) (number_spelled MAX_WORKERS workers w d))

-- the words that spell the command are those that say it
pub words_spelled : (words : List (List ℕ)) (said : ServeValue) → serve_words words ≡ Some said → (words ≡ words_saying said) × IsSaid said
words_spelled [] said h = cc
words_spelled (name ∷ words) said h = named (bytes_eq name (codes "serve")) refl h
  where
    behind : (words : List (List ℕ)) → serve_with words ≡ Some said → (codes "serve" ∷ words ≡ words_saying said) × IsSaid said
    behind [] k = cc
    behind (port ∷ []) k = cc
    behind (port ∷ file ∷ []) k = cc
    behind (port ∷ file ∷ key ∷ []) k = cc
    behind (port ∷ file ∷ key ∷ workers ∷ []) k = four_spelled port file key workers said k
    behind (port ∷ file ∷ key ∷ workers ∷ more ∷ rest) k = cc

    named : (b : Bool) → bytes_eq name (codes "serve") ≡ b → cond b (serve_with words) None ≡ Some said → (name ∷ words ≡ words_saying said) × IsSaid said
    named true e k =
        let is : name ≡ codes "serve" = (bytes_eq-Decides name (codes "serve")).0 e in
        let (found, range) = behind words k in
        (ap (λ x. x ∷ words) is ∙ found, range)
    named false e k = cc

-- and those words say it
pub words_read : (words : List (List ℕ)) (said : ServeValue) → words ≡ words_saying said → IsSaid said → serve_words words ≡ Some said
words_read words said is range =
    let port : number_to MAX_PORT (decimal said.port) ≡ Some said.port
    = number_read MAX_PORT said.port (omega arith) range.some_port range.last_port in
    let workers : number_to MAX_WORKERS (decimal said.workers) ≡ Some said.workers
    = number_read MAX_WORKERS said.workers (omega arith) range.some_workers range.most_workers in
    rw is (rw (port, workers) refl)
