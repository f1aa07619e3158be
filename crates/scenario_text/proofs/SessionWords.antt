-- Texts, and how a pass is spent: what one word says, and what spells it.
use Rattle.std.proofs.Common.{◌≡◌, ◌≢◌, ℕ, ◌<◌, ◌≤◌, ◌&&◌, Bool, true, false, cond, nat_le, List, length, Some, None, codes, refl, arith}
use Rattle.std.specs.Bool.{Decides}
use Rattle.std.specs.List.{list_all, All}
use Rattle.std.specs.Str.{bytes_eq}
use Rattle.std.proofs.lemmas.Bool.{and_parts}
use Rattle.std.proofs.lemmas.Option.{cond_some}
use Rattle.std.proofs.lemmas.Bool.Decides.{nat_tests, Decides-by_and}
use Rattle.std.proofs.lemmas.Slice.Eq.{bytes_eq-Decides}
use Rattle.scenario_text.specs.declared.session_line.Freed.{Freed}
use Rattle.scenario_text.specs.declared.session_line.Freed.TheVariants.{Answered, Silent}
use Rattle.scenario_text.specs.Fields.{is_text_byte, text_of, freed_of}
use Rattle.scenario_text.specs.FieldSpelling.{IsText, freed_word}
use Rattle.scenario_text.proofs.Splits.{is_whole, tested_whole}

-- the test of a byte of such a text decides what the grammar says of it, and so for texts
text_byte_decides : (b : ℕ) → Decides (is_text_byte b) ((b < 128) × (b ≢ 32) × (b ≢ 13))
text_byte_decides b = (λ h. grind (arith, nat_tests), λ h. grind (arith, nat_tests))

text_bytes_decide : (bs : List ℕ) → Decides (list_all is_text_byte bs) (All (λ b. (b < 128) × (b ≢ 32) × (b ≢ 13)) bs)
text_bytes_decide bs = Decides-by_and is_text_byte (λ b. (b < 128) × (b ≢ 32) × (b ≢ 13)) (list_all is_text_byte) text_byte_decides refl (λ _ _. refl) bs

-- a word that says a text is that text
pub text_spelled : (word text : List ℕ) → text_of word ≡ Some text → (word ≡ text) × IsText text
text_spelled word text h =
    let g = cond_some (nat_le 1 (length word) && list_all is_text_byte word) word text h in
    let t = and_parts (nat_le 1 (length word)) (list_all is_text_byte word) g.0 in
    let some : 1 ≤ length word = grind (arith, nat_tests) in
    (g.1, rw (← g.1) (some, (text_bytes_decide word).0 t.1))

-- and a text says itself
pub text_read : (text : List ℕ) → IsText text → text_of text ≡ Some text
text_read text (some, each) =
    let long : nat_le 1 (length text) ≡ true = grind (arith, nat_tests) in
    rw (long, (text_bytes_decide text).1 each) refl

-- it has no space
pub text_whole : (text : List ℕ) → IsText text → is_whole text ≡ true
text_whole text (some, each) = tested_whole is_text_byte (λ b p. grind (arith, nat_tests)) text ((text_bytes_decide text).1 each)

-- a word that says how a pass is spent is the word for it
pub freed_spelled : (word : List ℕ) (freed : Freed) → freed_of word ≡ Some freed → (word ≡ freed_word freed) × Unit {0}
freed_spelled word freed h = answered (bytes_eq word (codes "answered")) refl h
  where
    silent : (b : Bool) → bytes_eq word (codes "silent") ≡ b → cond b (Some Silent) None ≡ Some freed → (word ≡ freed_word freed) × Unit {0}
    silent true e k = let same : Silent ≡ freed = cc in rw (← same) ((bytes_eq-Decides word (codes "silent")).0 e, tt)
    silent false e k = cc

    answered : (b : Bool) → bytes_eq word (codes "answered") ≡ b → cond b (Some Answered) (cond (bytes_eq word (codes "silent")) (Some Silent) None) ≡ Some freed → (word ≡ freed_word freed) × Unit {0}
    answered true e k = let same : Answered ≡ freed = cc in rw (← same) ((bytes_eq-Decides word (codes "answered")).0 e, tt)
    answered false e k = silent (bytes_eq word (codes "silent")) refl k

-- and that word says it
pub freed_read : (freed : Freed) → freed_of (freed_word freed) ≡ Some freed
freed_read Answered = refl
freed_read Silent = refl

-- it has no space
pub freed_whole : (freed : Freed) → is_whole (freed_word freed) ≡ true
freed_whole Answered = refl
freed_whole Silent = refl
