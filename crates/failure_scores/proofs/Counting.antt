-- What each report adds to a score.
use Rattle.std.proofs.Common.{◌≡◌, ◌∙◌, ◌≢◌, ℕ, ◌+◌, ◌-◌, ◌<◌, ◌≤◌, ◌==◌, ◌&&◌, nat_le, Bool, true, false, cond, List, [], ◌∷◌, ◌++◌, length, filter, Contains, All, refl, sym, ap, subst, arith}
use Rattle.std.proofs.lemmas.Bool.Decides.{nat_tests}
use Rattle.std.proofs.lemmas.List.Elements.{All-weaker}
use Rattle.std.proofs.lemmas.List.Folds.{list_any_at, list_any_none}
use Rattle.crash_base.specs.declared.numbers.ComponentNo.{ComponentNo}
use Rattle.crash_base.specs.declared.numbers.Moment.{Moment}
use Rattle.failure_scores.specs.declared.report.TheConstants.{SCORED_MILLISECONDS}
use Rattle.failure_scores.specs.declared.report.PathReport.{PathReport}
use Rattle.failure_scores.specs.Scores.{is_on, is_recent, counts, score}

-- components of one number are one
pub one_number : (c d : ComponentNo) → c.0 ≡ d.0 → c ≡ d
one_number c d same = let numbered : ℕ → ComponentNo = λ n. record { 0 = n } in ap numbered same

pub and_first : (a b : Bool) → (a && b) ≡ true → a ≡ true
and_first true b both = refl
and_first false b both = both

pub and_second : (a b : Bool) → (a && b) ≡ true → b ≡ true
and_second true b both = both
and_second false b both = let wrong : false ≡ true = both in cc

pub and_of : (a b : Bool) → a ≡ true → b ≡ true → (a && b) ≡ true
and_of true b one other = other
and_of false b one other = one

pub and_without : (a b : Bool) → b ≡ false → (a && b) ≡ false
and_without true b fails = fails
and_without false b fails = refl

pub and_lacking : (a b : Bool) → a ≡ false → (a && b) ≡ false
and_lacking true b fails = let wrong : true ≡ false = fails in cc
and_lacking false b fails = refl

-- an element that passes adds one to how many do
counted : {X : Type 0} (p : X → Bool) (before after : List X) (x : X) → p x ≡ true → length (filter p (before ++ x ∷ after)) ≡ length (filter p (before ++ after)) + 1
counted {X} p [] after x passes = ap (λ (b : Bool). length (cond b (x ∷ filter p after) (filter p after))) passes ∙ omega arith
counted {X} p (y ∷ before) after x passes = go (counted p before after x passes) (p y)
  where
    go : length (filter p (before ++ x ∷ after)) ≡ length (filter p (before ++ after)) + 1 → (b : Bool) → length (cond b (y ∷ filter p (before ++ x ∷ after)) (filter p (before ++ x ∷ after))) ≡ length (cond b (y ∷ filter p (before ++ after)) (filter p (before ++ after))) + 1
    go more true = omega arith
    go more false = more

-- an element that does not pass adds nothing
passed_over : {X : Type 0} (p : X → Bool) (before after : List X) (x : X) → p x ≡ false → length (filter p (before ++ x ∷ after)) ≡ length (filter p (before ++ after))
passed_over {X} p [] after x fails = ap (λ (b : Bool). length (cond b (x ∷ filter p after) (filter p after))) fails
passed_over {X} p (y ∷ before) after x fails = go (passed_over p before after x fails) (p y)
  where
    go : length (filter p (before ++ x ∷ after)) ≡ length (filter p (before ++ after)) → (b : Bool) → length (cond b (y ∷ filter p (before ++ x ∷ after)) (filter p (before ++ x ∷ after))) ≡ length (cond b (y ∷ filter p (before ++ after)) (filter p (before ++ after)))
    go more true = omega arith
    go more false = more

-- where each element that passes the one test passes the other, filtering by the other first changes nothing
pub filter_within : {X : Type 0} (p q : X → Bool) → ((x : X) → p x ≡ true → q x ≡ true) → (xs : List X) → filter p (filter q xs) ≡ filter p xs
filter_within {X} p q implied [] = refl
filter_within {X} p q implied (x ∷ xs) = go (filter_within p q implied xs) (q x) refl
  where
    lacking : q x ≡ false → (b : Bool) → p x ≡ b → p x ≡ false
    lacking fails true passes = let wrong : q x ≡ true = implied x passes in cc
    lacking fails false same = same

    go : filter p (filter q xs) ≡ filter p xs → (b : Bool) → q x ≡ b → filter p (cond b (x ∷ filter q xs) (filter q xs)) ≡ cond (p x) (x ∷ filter p xs) (filter p xs)
    go rest true passes = ap (λ (ys : List X). cond (p x) (x ∷ ys) ys) rest
    go rest false fails = rest ∙ sym (ap (λ (b : Bool). cond b (x ∷ filter p xs) (filter p xs)) (lacking fails (p x) refl))

pub same_number : (n : ℕ) → (n == n) ≡ true
same_number n = grind (arith, nat_tests)

-- a component that a path contains is on it
on_path : (c : ComponentNo) (path : List ComponentNo) → Contains path c → is_on c path ≡ true
on_path c path has = list_any_at (λ (d : ComponentNo). d.0 == c.0) path has.0 c has.1 (subst (λ (d : ComponentNo). (d.0 == c.0) ≡ true) (sym has.2) (same_number c.0))

unlike : (c d : ComponentNo) → d ≢ c → (d.0 == c.0) ≡ false
unlike c d apart = go (d.0 == c.0) refl
  where
    go : (b : Bool) → (d.0 == c.0) ≡ b → (d.0 == c.0) ≡ false
    go true same = let equal : d.0 ≡ c.0 = grind (arith, nat_tests) in absurd (apart (one_number d c equal))
    go false same = same

-- a component that is no component of a path is not on it
pub off_path : (c : ComponentNo) (path : List ComponentNo) → All (λ (d : ComponentNo). d ≢ c) path → is_on c path ≡ false
off_path c path apart = list_any_none (λ (d : ComponentNo). d.0 == c.0) path (All-weaker (λ (d : ComponentNo). d ≢ c) (λ (d : ComponentNo). (d.0 == c.0) ≡ false) (unlike c) path apart)

within_so_far : (now m k : ℕ) → now ≤ m + k → nat_le (now - m) k ≡ true
within_so_far now m k soon = grind (arith, nat_tests)

pub not_within : (now m k : ℕ) → m + k < now → nat_le (now - m) k ≡ false
not_within now m k late = grind (arith, nat_tests)

-- what is recent now was so before
pub within_before : (then now m k : ℕ) → then ≤ now → nat_le (now - m) k ≡ true → nat_le (then - m) k ≡ true
within_before then now m k earlier soon = grind (arith, nat_tests)

pub score_one : (before after : List PathReport) (r : PathReport) (c : ComponentNo) (now : Moment) → Contains r.path c → now.0 ≤ r.moment.0 + SCORED_MILLISECONDS → score (before ++ r ∷ after) c now ≡ score (before ++ after) c now + 1
score_one before after r c now has soon = counted (counts c now) before after r (and_of (is_recent now r) (is_on c r.path) (within_so_far now.0 r.moment.0 SCORED_MILLISECONDS soon) (on_path c r.path has))

pub score_old : (before after : List PathReport) (r : PathReport) (c : ComponentNo) (now : Moment) → r.moment.0 + SCORED_MILLISECONDS < now.0 → score (before ++ r ∷ after) c now ≡ score (before ++ after) c now
score_old before after r c now late = passed_over (counts c now) before after r (and_lacking (is_recent now r) (is_on c r.path) (not_within now.0 r.moment.0 SCORED_MILLISECONDS late))

pub score_elsewhere : (before after : List PathReport) (r : PathReport) (c : ComponentNo) (now : Moment) → All (λ (d : ComponentNo). d ≢ c) r.path → score (before ++ r ∷ after) c now ≡ score (before ++ after) c now
score_elsewhere before after r c now apart = passed_over (counts c now) before after r (and_without (is_recent now r) (is_on c r.path) (off_path c r.path apart))

-- what counts now was recent before
pub recent_before : (then now : Moment) (c : ComponentNo) → then.0 ≤ now.0 → (r : PathReport) → counts c now r ≡ true → is_recent then r ≡ true
recent_before then now c earlier r passes = within_before then.0 now.0 r.moment.0 SCORED_MILLISECONDS earlier (and_first (is_recent now r) (is_on c r.path) passes)

pub score_kept : (reports : List PathReport) (then now : Moment) (c : ComponentNo) → then.0 ≤ now.0 → score (filter (is_recent then) reports) c now ≡ score reports c now
score_kept reports then now c earlier = ap (λ (rs : List PathReport). length rs) (filter_within (counts c now) (is_recent then) (recent_before then now c earlier) reports)
