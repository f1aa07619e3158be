-- What is drawn one after another are the numbers that come next.
use Rattle.std.proofs.Common.{◌≡◌, ◌∙◌, ◌+◌, ◌%◌, ◌^◌, ℕ, Bool, true, false, not, cond, List, [], ◌∷◌, ◌++◌, sym, ap, arith, add-zero}
use Rattle.std.proofs.Math.Nat.{mod-add-mod}
use Rattle.std.proofs.lemmas.List.Sums.{sum_by-cons}
use Rattle.outside.specs.Random.{PlainGives}
use Rattle.outside.specs.Serials.{PlainLooks}
use Rattle.request_decisions.specs.Drawing.{DrawsOne, HasDrawn}
use Rattle.request_decisions.specs.Draws.{is_serial}
use Rattle.request_decisions.specs.declared.draws.Draw.{Draw}
use Rattle.seat_laws.specs.Serving.{serials_among, words_among}

abbrev one-if : Bool → ℕ
one-if b = cond b 1 0

serials-cons : (d : Draw) (ds : List Draw) → serials_among (d ∷ ds) ≡ one-if (is_serial d.kind) + serials_among ds
serials-cons d ds = sum_by-cons (λ (x : Draw). cond (is_serial x.kind) 1 0) d ds

words-cons : (d : Draw) (ds : List Draw) → words_among (d ∷ ds) ≡ one-if (not (is_serial d.kind)) + words_among ds
words-cons d ds = sum_by-cons (λ (x : Draw). cond (not (is_serial x.kind)) 1 0) d ds

-- the number behind one that was drawn, of serial numbers, and of random words, by how far these have come
serial-next : (b : Bool) (s r number t q : ℕ) → DrawsOne PlainLooks PlainGives b s r number t q → t ≡ s + one-if b
serial-next true s r number t q one = one.2.2
serial-next false s r number t q one = one.1 ∙ sym (add-zero s)

word-next : (b : Bool) (s r number t q from : ℕ) → r ≡ from % (2 ^ 64) → DrawsOne PlainLooks PlainGives b s r number t q → q ≡ (from + one-if (not b)) % (2 ^ 64)
word-next true s r number t q from at one = one.3 ∙ (at ∙ ap (λ (n : ℕ). n % (2 ^ 64)) (sym (add-zero from)))
word-next false s r number t q from at one = one.0.1 ∙ (ap (λ (n : ℕ). (n + 1) % (2 ^ 64)) at ∙ mod-add-mod from (2 ^ 64) 1)

-- one more in between
between : (s n m : ℕ) → (s + n) + m ≡ s + (n + m)
between s n m = omega arith

-- The next serial number is that behind all that were drawn.
pub serial-after : (s r : ℕ) (ds : List Draw) (t q : ℕ) → HasDrawn PlainLooks PlainGives s r ds t q → t ≡ s + serials_among ds
serial-after s r [] t q drew = drew.0 ∙ sym (add-zero s)
serial-after s r (d ∷ ds) t q (mid, next, one, rest) =
    serial-after mid next ds t q rest
    ∙ (ap (λ (n : ℕ). n + serials_among ds) (serial-next (is_serial d.kind) s r d.number mid next one)
    ∙ (between s (one-if (is_serial d.kind)) (serials_among ds) ∙ ap (λ (n : ℕ). s + n) (sym (serials-cons d ds))))

-- The next random word is.
pub word-after : (s r from : ℕ) (ds : List Draw) (t q : ℕ) → r ≡ from % (2 ^ 64) → HasDrawn PlainLooks PlainGives s r ds t q → q ≡ (from + words_among ds) % (2 ^ 64)
word-after s r from [] t q at drew = drew.1 ∙ (at ∙ ap (λ (n : ℕ). n % (2 ^ 64)) (sym (add-zero from)))
word-after s r from (d ∷ ds) t q at (mid, next, one, rest) =
    word-after mid next (from + one-if (not (is_serial d.kind))) ds t q (word-next (is_serial d.kind) s r d.number mid next from at one) rest
    ∙ ap (λ (n : ℕ). n % (2 ^ 64)) (between from (one-if (not (is_serial d.kind))) (words_among ds) ∙ ap (λ (n : ℕ). from + n) (sym (words-cons d ds)))

serial-first : (b : Bool) (s r number t q : ℕ) → b ≡ true → DrawsOne PlainLooks PlainGives b s r number t q → number ≡ s
serial-first true s r number t q is one = one.2.1
serial-first false s r number t q is one = absurd (cc)

word-first : (b : Bool) (s r number t q : ℕ) → b ≡ false → DrawsOne PlainLooks PlainGives b s r number t q → number ≡ r
word-first true s r number t q is one = absurd (cc)
word-first false s r number t q is one = one.0.0

-- Each serial number is as far behind the first as serial numbers were drawn before it.
pub serial-here : (s r : ℕ) (before behind : List Draw) (d : Draw) (t q : ℕ) → HasDrawn PlainLooks PlainGives s r (before ++ d ∷ behind) t q → is_serial d.kind ≡ true → d.number ≡ s + serials_among before
serial-here s r [] behind d t q (mid, next, one, rest) is = serial-first (is_serial d.kind) s r d.number mid next is one ∙ sym (add-zero s)
serial-here s r (x ∷ before) behind d t q (mid, next, one, rest) is =
    serial-here mid next before behind d t q rest is
    ∙ (ap (λ (n : ℕ). n + serials_among before) (serial-next (is_serial x.kind) s r x.number mid next one)
    ∙ (between s (one-if (is_serial x.kind)) (serials_among before) ∙ ap (λ (n : ℕ). s + n) (sym (serials-cons x before))))

-- Each random word is.
pub word-here : (s r from : ℕ) (before behind : List Draw) (d : Draw) (t q : ℕ) → r ≡ from % (2 ^ 64) → HasDrawn PlainLooks PlainGives s r (before ++ d ∷ behind) t q → is_serial d.kind ≡ false
    → d.number ≡ (from + words_among before) % (2 ^ 64)
word-here s r from [] behind d t q at (mid, next, one, rest) is =
    word-first (is_serial d.kind) s r d.number mid next is one ∙ (at ∙ ap (λ (n : ℕ). n % (2 ^ 64)) (sym (add-zero from)))
word-here s r from (x ∷ before) behind d t q at (mid, next, one, rest) is =
    word-here mid next (from + one-if (not (is_serial x.kind))) before behind d t q (word-next (is_serial x.kind) s r x.number mid next from at one) rest is
    ∙ ap (λ (n : ℕ). n % (2 ^ 64)) (between from (one-if (not (is_serial x.kind))) (words_among before) ∙ ap (λ (n : ℕ). from + n) (sym (words-cons x before)))
