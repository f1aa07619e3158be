-- A plan for each of several things, one after the other: how far a loop over them has come.
use Rattle.std.proofs.Common.{◌≡◌, ℕ, suc, ◌+◌, ◌-◌, ◌<◌, ◌≤◌, length, get_or, drop, List, [], ◌∷◌, ◌++◌, Result, Err, refl, ap, sym, subst, ◌∙◌, append_assoc, append-nil, arith}
use Rattle.std.specs.Result.{IsErrAnd}
use Rattle.std.proofs.lemmas.List.{at_drop_more}
use Rattle.call_ticket.specs.declared.next.Answer.{Answer}
use Rattle.action_plans.specs.declared.plan.Stop.{Stop}
use Rattle.action_plans.specs.Plans.{Plan, Asks, Refuses, Gives, Has, HasCome, Walked, Came, walk, ◌>>=◌}
use Rattle.action_plans.proofs.Walking.{walk_on, walk_bind, walk_gives, bind_gives, exit_part, out_come}
use Rattle.auction_site.specs.Numbers.{count_up, count_down}
use Rattle.auction_site.specs.Pieces.{asks_each}

-- the plan of what is left, after the values so far
unfoldable pub so_far : {A B : Type 0} → (A → Plan B) → List B → List A → Plan (List B)
so_far plan front rest = asks_each plan rest >>= λ ys. Gives (front ++ ys)

-- plans that lead on from one another, however they are grouped

bind_end : {A : Type 0} (p : Plan A) → (p >>= λ x. Gives x) ≡ p
unfolding ◌>>=◌
bind_end (Asks m go) = ap (Asks m) (λ i a. bind_end (go a) i)
bind_end (Refuses d) = refl
bind_end (Gives x) = refl

bind_bind : {A B C : Type 0} (p : Plan A) (f : A → Plan B) (g : B → Plan C) → ((p >>= f) >>= g) ≡ (p >>= λ x. f x >>= g)
unfolding ◌>>=◌
bind_bind (Asks m go) f g = ap (Asks m) (λ i a. bind_bind (go a) f g i)
bind_bind (Refuses d) f g = refl
bind_bind (Gives x) f g = refl

gives_bind : {A B : Type 0} (x : A) (f : A → Plan B) → (Gives x >>= f) ≡ f x
unfolding ◌>>=◌
gives_bind x f = refl

-- nothing is done
pub so_far_none : {A B : Type 0} (plan : A → Plan B) (xs : List A) → so_far plan [] xs ≡ asks_each plan xs
unfolding so_far
so_far_none plan xs = bind_end (asks_each plan xs)

-- all is done
pub so_far_all : {A B : Type 0} (plan : A → Plan B) (front : List B) → so_far plan front [] ≡ Gives front
unfolding so_far asks_each ◌>>=◌
so_far_all plan front = ap (λ l. Gives l) (append-nil front)

-- the first of the rest is done, and then the others
so_far_more : {A B : Type 0} (plan : A → Plan B) (front : List B) (x : A) (rest : List A)
    → so_far plan front (x ∷ rest) ≡ (plan x >>= λ y. so_far plan (front ++ y ∷ []) rest)
unfolding so_far asks_each
so_far_more {A = A} {B = B} plan front x rest =
    bind_bind (plan x) one all ∙ ap (λ (f : B → Plan (List B)). plan x >>= f) (λ i y. after y i)
  where
    all : List B → Plan (List B)
    all ys = Gives (front ++ ys)

    one : B → Plan (List B)
    one y = asks_each plan rest >>= λ ys. Gives (y ∷ ys)

    each : (y : B) (ys : List B) → (Gives (y ∷ ys) >>= all) ≡ Gives ((front ++ y ∷ []) ++ ys)
    each y ys = gives_bind (y ∷ ys) all ∙ ap (λ l. Gives l) (sym (append_assoc front (y ∷ []) ys))

    after : (y : B) → (one y >>= all) ≡ (asks_each plan rest >>= λ ys. Gives ((front ++ y ∷ []) ++ ys))
    after y = bind_bind (asks_each plan rest) (λ ys. Gives (y ∷ ys)) all ∙ ap (λ (f : List B → Plan (List B)). asks_each plan rest >>= f) (λ i ys. each y ys i)

-- a loop that reads: an exit within it, one value more, and its end

module _ {A B : Type 0} (plan : A → Plan B) (front : List B) (xs : List A) (had : List Answer) (w : Walked (List B)) (so : walk (so_far plan front xs) had ≡ w) where
  one_more : (x : A) (rest : List A) → xs ≡ x ∷ rest → walk_on (walk (plan x) had) (λ y. so_far plan (front ++ y ∷ []) rest) ≡ w
  one_more x rest is =
      sym (walk_bind (plan x) (λ y. so_far plan (front ++ y ∷ []) rest) had)
      ∙ ap (λ p. walk p had) (sym (so_far_more plan front x rest)) ∙ ap (λ l. walk (so_far plan front l) had) (sym is) ∙ so

  pub each_stops : (r : Result (List B) Stop) (e : Stop) (left passed : List Answer) (x : A) (rest : List A) → xs ≡ x ∷ rest
      → IsErrAnd r (λ y. y ≡ e) → HasCome {A = B} (Err e) passed (walk (plan x) had) → HasCome r left w
  each_stops r e left passed x rest is out come =
      let P : Walked (List B) → Type 0 = λ v. HasCome r left v in
      subst P (one_more x rest is) (out_come r e left passed (walk (plan x) had) (λ y. so_far plan (front ++ y ∷ []) rest) out come)

  pub each_goes_on : (left : List Answer) (x : A) (rest : List A) (y : B) (new : List B) → xs ≡ x ∷ rest → walk (plan x) had ≡ Came y left
      → new ≡ front ++ y ∷ [] → walk (so_far plan new rest) left ≡ w
  each_goes_on left x rest y new is came more =
      ap (λ l. walk (so_far plan l rest) left) more
      ∙ ap (λ v. walk_on v (λ y. so_far plan (front ++ y ∷ []) rest)) (sym came) ∙ one_more x rest is

  pub each_ends : xs ≡ [] → w ≡ Came front had
  each_ends is = sym so ∙ ap (λ l. walk (so_far plan front l) had) is ∙ ap (λ p. walk p had) (so_far_all plan front) ∙ walk_gives front had

pub each_begins : {A B : Type 0} (plan : A → Plan B) (front : List B) (xs all : List A) (had : List Answer) → front ≡ [] → xs ≡ all
    → walk (so_far plan front xs) had ≡ walk (asks_each plan all) had
each_begins plan front xs all had none is =
    ap (λ l. walk (so_far plan l xs) had) none ∙ ap (λ l. walk (so_far plan [] l) had) is ∙ ap (λ p. walk p had) (so_far_none plan all)

-- the same of a loop without a read

module _ {A B : Type 0} (plan : A → Plan B) (front : List B) (xs : List A) (p : Plan (List B)) (so : so_far plan front xs ≡ p) where
  has_one_more : (x : A) (rest : List A) → xs ≡ x ∷ rest → (plan x >>= λ y. so_far plan (front ++ y ∷ []) rest) ≡ p
  has_one_more x rest is = sym (so_far_more plan front x rest) ∙ ap (λ l. so_far plan front l) (sym is) ∙ so

  pub each_has_stopped : (r : Result (List B) Stop) (e : Stop) (x : A) (rest : List A) → xs ≡ x ∷ rest
      → IsErrAnd r (λ y. y ≡ e) → Has {A = B} (Err e) (plan x) → Has r p
  each_has_stopped r e x rest is out has =
      let P : Plan (List B) → Type 0 = λ q. Has r q in
      subst P (has_one_more x rest is) (exit_part r e (plan x) (λ y. so_far plan (front ++ y ∷ []) rest) out has)

  pub each_has_gone_on : (x : A) (rest : List A) (y : B) (new : List B) → xs ≡ x ∷ rest → plan x ≡ Gives y → new ≡ front ++ y ∷ [] → so_far plan new rest ≡ p
  each_has_gone_on x rest y new is gives more =
      ap (λ l. so_far plan l rest) more
      ∙ sym (bind_gives (plan x) (λ y. so_far plan (front ++ y ∷ []) rest) y gives) ∙ has_one_more x rest is

  pub each_has_ended : xs ≡ [] → p ≡ Gives front
  each_has_ended is = sym so ∙ ap (λ l. so_far plan front l) is ∙ so_far_all plan front

-- what is left of a list: its first and the others, or nothing; and at the begin all of it

pub rows_left : {A : Type 0} (xs : List A) (i : ℕ) (x : A) → i < length xs → x ≡ get_or xs i x → drop i xs ≡ x ∷ drop (i + 1) xs
rows_left xs i x within is = at_drop_more (λ l. l) xs i x within ∙ ap (λ y. y ∷ drop (i + 1) xs) (sym is)

pub up_left : (n end : ℕ) → n < end → count_up n (end - n) ≡ n ∷ count_up (n + 1) (end - (n + 1))
up_left n end within =
    let more : end - n ≡ suc (end - (n + 1)) = omega (arith, within) in
    ap (count_up n) more

pub up_done : (n end : ℕ) → end ≤ n → count_up n (end - n) ≡ []
up_done n end past =
    let none : end - n ≡ 0 = omega (arith, past) in
    ap (count_up n) none

pub up_all : (n count : ℕ) → count_up n (n + count - n) ≡ count_up n count
up_all n count =
    let same : n + count - n ≡ count = omega arith in
    ap (count_up n) same

pub down_left : (last n count : ℕ) → n < count → count_down (last - n) (count - n) ≡ (last - n) ∷ count_down (last - (n + 1)) (count - (n + 1))
down_left last n count within =
    let more : count - n ≡ suc (count - (n + 1)) = omega (arith, within) in
    let next : last - n - 1 ≡ last - (n + 1) = omega arith in
    ap (count_down (last - n)) more ∙ ap (λ k. (last - n) ∷ count_down k (count - (n + 1))) next

pub down_done : (last n count : ℕ) → count ≤ n → count_down (last - n) (count - n) ≡ []
down_done last n count past =
    let none : count - n ≡ 0 = omega (arith, past) in
    ap (count_down (last - n)) none

pub down_all : (last count : ℕ) → count_down (last - 0) (count - 0) ≡ count_down last count
down_all last count =
    let same : last - 0 ≡ last = omega arith in
    let all : count - 0 ≡ count = omega arith in
    ap (λ k. count_down k (count - 0)) same ∙ ap (count_down last) all
