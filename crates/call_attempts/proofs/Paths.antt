-- The components that a program entered, by one step more.
use Rattle.std.specs.List.{flat_map, range_with_len}
use Rattle.std.proofs.Common.{◌≡◌, ℕ, zero, suc, ◌+◌, ◌<◌, List, [], ◌∷◌, ◌++◌, length, map, take, refl, sym, ap, ◌∙◌, arith, length-append}
use Rattle.std.proofs.lemmas.Grind.{flat_map-append}
use Rattle.std.proofs.lemmas.List.{append-nil, take-append-le, take_at}
use Rattle.std.proofs.lemmas.List.Folds.{flat_map-map}
use Rattle.std.proofs.lemmas.List.FromFn.{map-range_with_len_more}
use Rattle.crash_base.specs.declared.numbers.ComponentNo.{ComponentNo}
use Rattle.call_ticket.specs.declared.next.Answer.{Answer}
use Rattle.call_ticket.specs.declared.next.Next.{Next}
use Rattle.call_attempts.specs.Attempt.{entered_by, entered_in}

-- what is the same of each of some numbers is so of them all
same_range : {A : Type 0} (f g : ℕ → List A) (from n : ℕ) → ((k : ℕ) → k < from + n → f k ≡ g k) → flat_map f (range_with_len from n) ≡ flat_map g (range_with_len from n)
same_range f g from zero same = refl
same_range f g from (suc n) same =
    let rest = same_range f g (from + 1) n (λ k below. same k (omega (arith, below))) in
    ap (λ xs. xs ++ flat_map f (range_with_len (from + 1) n)) (same from (omega arith)) ∙ ap (λ xs. g from ++ xs) rest

-- what is made of one number more
range_more : {A : Type 0} (f : ℕ → List A) (n : ℕ) → flat_map f (range_with_len 0 (n + 1)) ≡ flat_map f (range_with_len 0 n) ++ f n
range_more f n =
    let parts : flat_map (λ xs. xs) (map f (range_with_len 0 n)) ≡ flat_map f (range_with_len 0 n) = flat_map-map (λ xs. xs) f (range_with_len 0 n) in
    sym (flat_map-map (λ xs. xs) f (range_with_len 0 (n + 1)))
    ∙ ap (λ xss. flat_map (λ xs. xs) xss) (map-range_with_len_more f 0 n n (omega arith))
    ∙ flat_map-append (λ xs. xs) (map f (range_with_len 0 n)) (f n ∷ [])
    ∙ ap (λ xs. xs ++ (f n ++ [])) parts
    ∙ ap (λ xs. flat_map f (range_with_len 0 n) ++ xs) (append-nil (f n))

-- What a program entered by one step more: what it entered before, and what that step enters.
pub entered_more : (asks : List Answer → Next) (answers : List Answer) (a : Answer) → entered_by asks (answers ++ a ∷ []) ≡ entered_by asks answers ++ entered_in (asks answers)
unfolding entered_by
entered_more asks answers a =
    let f : ℕ → List ComponentNo = λ before. entered_in (asks (take before (answers ++ a ∷ []))) in
    let g : ℕ → List ComponentNo = λ before. entered_in (asks (take before answers)) in
    ap (λ n. flat_map f (range_with_len 0 n)) (length-append answers (a ∷ []))
    ∙ range_more f (length answers)
    ∙ ap (λ xs. xs ++ f (length answers))
    (same_range f g 0 (length answers) (λ before below. ap (λ given. entered_in (asks given)) (take-append-le before answers (a ∷ []) (omega (arith, below)))))
    ∙ ap (λ given. flat_map g (range_with_len 0 (length answers)) ++ entered_in (asks given)) (take_at answers (a ∷ []) (length answers) refl)

-- Nothing was entered by no step.
pub entered_none : (asks : List Answer → Next) → [] ≡ entered_by asks []
unfolding entered_by
entered_none asks = refl
