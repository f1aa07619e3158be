-- Two pieces that were written, one after the other.
use Rattle.std.proofs.Common.{◌≡◌, ℕ, ◌≤◌, List, ◌++◌, Option, ap, ◌∙◌, inl, inr, arith}
use Rattle.outside.specs.Faults.{Rose}
use Rattle.outside.specs.Sink.{appended, AppendsOrFails}
use Rattle.outside.proofs.Prefixes.{appended_more, prefix_more}

-- a count that rose from a later moment on rose from an earlier one on
rose_on : (a b c : ℕ) → a ≤ b → Rose b c → Rose a c
rose_on a b c less (inl more) = inl (omega (arith, less, more))
rose_on a b c less (inr last) = inr last

-- the first was written whole, and then the second whole or in part
pub after_first : (o n m : Option (List ℕ)) (a b c : ℕ) (xs ys : List ℕ) → n ≡ appended o xs → a ≤ b → AppendsOrFails n m b c ys → AppendsOrFails o m a c (xs ++ ys)
after_first o n m a b c xs ys first count (inl whole) = inl (whole ∙ ap (λ x. appended x ys) first ∙ appended_more o xs ys)
after_first o n m a b c xs ys first count (inr (rose, part)) = inr (rose_on a b c count rose, prefix_more o n m xs ys first part)
