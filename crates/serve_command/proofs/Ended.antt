-- Why a server was not started, and before which lines a reason stands.
use Rattle.std.proofs.Common.{◌≡◌, ◌⊎◌, inl, inr, ℕ, suc, ◌&&◌, ◌||◌, nat_le, Bool, true, false, if◌then◌else◌, List, [], ◌++◌, length, take, drop, codes, refl, sym, ap, ◌∙◌, arith}
use Rattle.std.specs.Str.{bytes_eq}
use Rattle.std.proofs.lemmas.Bool.{and_parts}
use Rattle.std.proofs.lemmas.Bool.Decides.{nat_tests}
use Rattle.std.proofs.lemmas.List.{take-append-drop}
use Rattle.std.proofs.lemmas.Slice.Eq.{bytes_eq-Decides}
use Rattle.outside.specs.Sink.{AppendsOrFails}
use Rattle.service_log.specs.Logging.{Log}
use Rattle.serve_command.specs.Ending.{report_of, status_of}
use Rattle.serve_command.specs.LastLine.{ending, is_bad_row, is_last_line}
use Rattle.serve_command.specs.declared.ending.StartFault.{StartFault}
use Rattle.serve_command.specs.declared.ending.StartFault.TheVariants.{KeyRefused, StartFailed, OutOfMemory}

-- the status and the lines of a server that was not started
abbrev pub IsTold : ℕ → List ℕ → List ℕ → Type 0
IsTold status reason line =
    ((status ≡ 13) × (line ≡ codes "key refused\n")) ⊎ (((status ≡ 14) × (line ≡ codes "start failed\n"))
    ⊎ ((status ≡ 9) × (line ≡ codes "out of memory\n") × (reason ≡ [])))

pub not_started : (fault : StartFault) (status : ℕ) (before after : Log) → status ≡ status_of fault
    → AppendsOrFails before.written after.written before.faults after.faults (report_of fault)
    → (reason : List ℕ) × (line : List ℕ) × IsTold status reason line × AppendsOrFails before.written after.written before.faults after.faults (reason ++ line)
not_started (KeyRefused reason) status before after is told = (reason, codes "key refused\n", inl (is, refl), told)
not_started (StartFailed reason) status before after is told = (reason, codes "start failed\n", inr (inl (is, refl)), told)
not_started OutOfMemory status before after is told = ([], codes "out of memory\n", inr (inr (is, refl, refl)), told)

-- a reason stands before what is the line of an end, and before nothing else
pub with_reason : (reason kept : List ℕ) → is_last_line kept ≡ true → ending reason kept ≡ reason ++ kept
with_reason reason kept last = ap (λ b. (if b then reason else []) ++ kept) last

pub without_reason : (reason kept : List ℕ) → is_last_line kept ≡ false → ending reason kept ≡ kept
without_reason reason kept last = ap (λ b. (if b then reason else []) ++ kept) last

-- what begins as the line of a bad row is one
at_least_8 : (n : ℕ) → nat_le 8 (suc (suc (suc (suc (suc (suc (suc (suc n)))))))) ≡ true
at_least_8 n = grind (arith, nat_tests)

bad_row : (row : List ℕ) → is_bad_row (codes "bad row " ++ row) ≡ true
bad_row row = ap (λ b. b && bytes_eq (take 8 (codes "bad row " ++ row)) (codes "bad row ")) (at_least_8 (length row))

pub last_line : (kept : List ℕ)
    → (kept ≡ codes "keeper failed\n") ⊎ ((kept ≡ codes "boots spent\n") ⊎ ((kept ≡ codes "out of memory\n") ⊎ ((row : List ℕ) × (kept ≡ codes "bad row " ++ row))))
    → is_last_line kept ≡ true
last_line kept (inl is) = ap is_last_line is
last_line kept (inr (inl is)) = ap is_last_line is
last_line kept (inr (inr (inl is))) = ap is_last_line is
last_line kept (inr (inr (inr (row, is)))) = ap is_last_line is ∙ bad_row row

by_no : (b : Bool) → (b ≡ true → ⊥) → b ≡ false
by_no true differs = absurd (differs refl)
by_no false differs = refl

-- what is none of these lines is no line of an end
other : (kept line : List ℕ) → (kept ≡ line → ⊥) → bytes_eq kept line ≡ false
other kept line differs = by_no (bytes_eq kept line) (λ is. differs ((bytes_eq-Decides kept line).0 is))

no_bad_row : (kept : List ℕ) → ((row : List ℕ) → kept ≡ codes "bad row " ++ row → ⊥) → is_bad_row kept ≡ false
no_bad_row kept differs =
    by_no (is_bad_row kept) (λ is. differs (drop 8 kept) (go ((bytes_eq-Decides (take 8 kept) (codes "bad row ")).0 (and_parts (nat_le 8 (length kept)) (bytes_eq (take 8 kept) (codes "bad row ")) is).1)))
  where
    go : take 8 kept ≡ codes "bad row " → kept ≡ codes "bad row " ++ drop 8 kept
    go is = sym (take-append-drop 8 kept) ∙ ap (λ xs. xs ++ drop 8 kept) is

pub no_last_line : (kept : List ℕ) → (kept ≡ codes "keeper failed\n" → ⊥) → (kept ≡ codes "boots spent\n" → ⊥) → (kept ≡ codes "out of memory\n" → ⊥)
    → ((row : List ℕ) → kept ≡ codes "bad row " ++ row → ⊥) → is_last_line kept ≡ false
no_last_line kept failed spent wanted row =
    ap (λ b. b || (bytes_eq kept (codes "boots spent\n") || (bytes_eq kept (codes "out of memory\n") || is_bad_row kept))) (other kept (codes "keeper failed\n") failed)
    ∙ ap (λ b. b || (bytes_eq kept (codes "out of memory\n") || is_bad_row kept)) (other kept (codes "boots spent\n") spent)
    ∙ ap (λ b. b || is_bad_row kept) (other kept (codes "out of memory\n") wanted)
    ∙ no_bad_row kept row
