-- Counts over several events of a link.
use Rattle.std.proofs.Common.{arith, ◌≡◌, ◌∙◌, ap, refl, subst, inl, inr, ℕ, ◌+◌, Bool, true, false, IsTrue, List, [], ◌∷◌, cond}
use Rattle.std.specs.List.{count_by}
use Rattle.std.proofs.lemmas.List.Sums.{sum_by-cons}
use Rattle.outside.specs.declared.link.LinkEvent.{LinkEvent}
use Rattle.outside.specs.Faults.{NeverFalls, Rose, RoseBy}
use Rattle.outside.specs.Link.{Made}

-- one more, and then some
rose-more : (total more a b c : ℕ) → total ≡ 1 + more → Rose a b → NeverFalls b c → RoseBy more b c → RoseBy total a c
rose-more total more a b c is (inl less) k (inl above) = inl (omega arith)
rose-more total more a b c is (inl less) k (inr last) = inr last
rose-more total more a b c is (inr last) k rest = inr (k.stays last)

same-more : (total more a b c : ℕ) → total ≡ 0 + more → NeverFalls a b → RoseBy more b c → RoseBy total a c
same-more total more a b c is h (inl above) = inl (let x = h.least in omega arith)
same-more total more a b c is h (inr last) = inr last

never-on : (a b c : ℕ) → NeverFalls a b → NeverFalls b c → NeverFalls a c
never-on a b c h k = record { least = (let x = h.least in let y = k.least in omega arith); stays = λ e. k.stays (h.stays e) }

-- a count that never falls, and rises where an event is one of those, rises by their number
module _ {L : Type 0} (makes : L → LinkEvent → L → Type 0) (number : L → ℕ) (is : LinkEvent → Bool)
    (never : (old new : L) (event : LinkEvent) → makes old event new → NeverFalls (number old) (number new))
    (rises : (old new : L) (event : LinkEvent) → makes old event new → IsTrue (is event) → Rose (number old) (number new)) where
  all_never : (events : List LinkEvent) (old new : L) → Made makes old events new → NeverFalls (number old) (number new)
  all_never [] old new h = (let P : L → Type 0 = λ l. NeverFalls (number old) (number l) in subst P h (record { least = omega arith; stays = λ e. e }))
  all_never (event ∷ events) old new (mid, first, rest) = never-on (number old) (number mid) (number new) (never old mid event first) (all_never events mid new rest)

  pub rose_by_all : (events : List LinkEvent) (old new : L) → Made makes old events new → RoseBy (count_by is events) (number old) (number new)
  rose_by_all [] old new h = (let P : L → Type 0 = λ l. RoseBy 0 (number old) (number l) in subst P h (inl (omega arith)))
  rose_by_all (event ∷ events) old new (mid, first, rest) = here (is event) refl (rose_by_all events mid new rest) where
    here : (b : Bool) → is event ≡ b → RoseBy (count_by is events) (number mid) (number new) → RoseBy (count_by is (event ∷ events)) (number old) (number new)
    here true e later = rose-more (count_by is (event ∷ events)) (count_by is events) (number old) (number mid) (number new) (sum_by-cons (λ x. cond (is x) 1 0) event events ∙ ap (λ x. cond x 1 0 + count_by is events) e) (rises old mid event first e) (all_never events mid new rest) later
    here false e later = same-more (count_by is (event ∷ events)) (count_by is events) (number old) (number mid) (number new) (sum_by-cons (λ x. cond (is x) 1 0) event events ∙ ap (λ x. cond x 1 0 + count_by is events) e) (never old mid event first) later
