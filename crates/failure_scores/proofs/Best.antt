-- The best of the components that were seen.
use Rattle.std.proofs.Common.{◌≡◌, ◌∙◌, ◌⊎◌, inl, inr, ℕ, ◌+◌, ◌<◌, ◌≤◌, ◌==◌, ◌||◌, Bool, true, false, cond, List, [], ◌∷◌, ◌++◌, length, filter, take, get_or, All, Option, Some, None, MatchOption, refl, sym, ap, subst, arith}
use Rattle.std.specs.List.{flat_map}
use Rattle.std.proofs.lemmas.Bool.Decides.{nat_tests}
use Rattle.std.proofs.lemmas.Grind.{flat_map-append}
use Rattle.std.proofs.lemmas.List.{append_assoc, append-nil, take_all, take_more}
use Rattle.std.proofs.lemmas.List.Elements.{All-head, All-tail, All-push, All-weaker}
use Rattle.crash_base.specs.declared.numbers.ComponentNo.{ComponentNo}
use Rattle.crash_base.specs.declared.numbers.Moment.{Moment}
use Rattle.failure_scores.specs.declared.report.PathReport.{PathReport}
use Rattle.failure_scores.specs.Scores.{is_on, is_recent, counts, score}
use Rattle.failure_scores.specs.Top.{IsBehind, IsTop, IsBest}
use Rattle.failure_scores.proofs.Counting.{one_number, and_second}

-- the paths of reports, one behind the other
abbrev pub on_paths : List PathReport → List ComponentNo
on_paths reports = flat_map (λ (r : PathReport). r.path) reports

pub still_none : (s : ComponentNo → ℕ) (seen : List ComponentNo) (c : ComponentNo) → IsBest s seen None → s c ≡ 0 → IsBest s (seen ++ c ∷ []) None
still_none s seen c none zero = All-push (λ (d : ComponentNo). s d ≡ 0) seen c none zero

pub first_best : (s : ComponentNo → ℕ) (seen : List ComponentNo) (c : ComponentNo) (n : ℕ) → IsBest s seen None → s c ≡ n → 0 < n → IsBest s (seen ++ c ∷ []) (Some (c, n))
first_best s seen c n none scores some =
    let behind : (d : ComponentNo) → s d ≡ 0 → IsBehind s c n d = λ d zero. record { no_more = omega arith; later = λ same. (absurd (omega arith)) } in
    record { scores = scores; some = some; behind = All-push (IsBehind s c n) seen c (All-weaker (λ (d : ComponentNo). s d ≡ 0) (IsBehind s c n) behind seen none) (record { no_more = omega arith; later = λ same. (omega arith) }) }

-- a component that comes before the best so far is the best
pub next_best : (s : ComponentNo → ℕ) (seen : List ComponentNo) (c b : ComponentNo) (n m : ℕ) → IsBest s seen (Some (b, m)) → s c ≡ n → m ≤ n → (m ≡ n → c.0 < b.0) → IsBest s (seen ++ c ∷ []) (Some (c, n))
next_best s seen c b n m best scores more before =
    let some : 0 < m = best.some in
    let behind : (d : ComponentNo) → IsBehind s b m d → IsBehind s c n d = λ d behind. next_behind s c b d n m more before behind in
    record { scores = scores; some = omega arith; behind = All-push (IsBehind s c n) seen c (All-weaker (IsBehind s b m) (IsBehind s c n) behind seen best.behind) (record { no_more = omega arith; later = λ same. (omega arith) }) }
  where
    next_behind : (s : ComponentNo → ℕ) (c b d : ComponentNo) (n m : ℕ) → m ≤ n → (m ≡ n → c.0 < b.0) → IsBehind s b m d → IsBehind s c n d
    next_behind s c b d n m more before behind =
        let no_more : s d ≤ m = behind.no_more in
        record {
          no_more = omega arith;
          later = λ (same : s d ≡ n). (let equal : m ≡ n = omega arith in let first : c.0 < b.0 = before equal in let next : b.0 ≤ d.0 = behind.later (same ∙ sym equal) in omega arith);
        }

-- a component that does not come before the best so far leaves it
pub same_best : (s : ComponentNo → ℕ) (seen : List ComponentNo) (c b : ComponentNo) (n m : ℕ) → IsBest s seen (Some (b, m)) → s c ≡ n → n ≤ m → (n ≡ m → b.0 ≤ c.0) → IsBest s (seen ++ c ∷ []) (Some (b, m))
same_best s seen c b n m best scores no_more later =
    record {
      scores = best.scores;
      some = best.some;
      behind = All-push (IsBehind s b m) seen c best.behind (record { no_more = subst (λ (k : ℕ). k ≤ m) (sym scores) no_more; later = λ (same : s c ≡ m). later (sym scores ∙ same) });
    }

-- what holds of each component of a path and of others holds of one that is on the path, and of each of the others
on_front : (P : ComponentNo → Type 0) (c : ComponentNo) (path others : List ComponentNo) → All P (path ++ others) → (is_on c path ≡ true → P c) × All P others
on_front P c [] others all = (λ (on : false ≡ true). (cc), all)
on_front P c (d ∷ path) others all = (go (on_front P c path others (All-tail P d (path ++ others) all)).0 (d.0 == c.0) refl, (on_front P c path others (All-tail P d (path ++ others) all)).1)
  where
    go : (is_on c path ≡ true → P c) → (b : Bool) → (d.0 == c.0) ≡ b → (b || is_on c path) ≡ true → P c
    go more true same on = let equal : d.0 ≡ c.0 = grind (arith, nat_tests) in subst P (one_number d c equal) (All-head P d (path ++ others) all)
    go more false apart on = more on

-- a component scores 0, or what holds of each component on the paths holds of it
seen_or_none : (P : ComponentNo → Type 0) (reports : List PathReport) (c : ComponentNo) (now : Moment) → All P (on_paths reports) → (score reports c now ≡ 0) ⊎ P c
seen_or_none P [] c now all = inl refl
seen_or_none P (r ∷ rs) c now all = go (on_front P c r.path (on_paths rs) all).0 (seen_or_none P rs c now (on_front P c r.path (on_paths rs) all).1) (counts c now r) refl
  where
    go : (is_on c r.path ≡ true → P c) → (score rs c now ≡ 0) ⊎ P c → (b : Bool) → counts c now r ≡ b → (length (cond b (r ∷ filter (counts c now) rs) (filter (counts c now) rs)) ≡ 0) ⊎ P c
    go here rest true passes = inr (here (and_second (is_recent now r) (is_on c r.path) passes))
    go here rest false fails = rest

-- the best of the components on the paths is the best of all
pub best_is_top : (reports : List PathReport) (now : Moment) (best : Option (ComponentNo × ℕ)) → IsBest (λ (c : ComponentNo). score reports c now) (on_paths reports) best → MatchOption best ((c : ComponentNo) → score reports c now ≡ 0) (λ top. IsTop reports now top.0 top.1)
best_is_top reports now None none = λ c. (go c (seen_or_none (λ (d : ComponentNo). score reports d now ≡ 0) reports c now none))
  where
    go : (c : ComponentNo) → (score reports c now ≡ 0) ⊎ (score reports c now ≡ 0) → score reports c now ≡ 0
    go c (inl zero) = zero
    go c (inr zero) = zero
best_is_top reports now (Some best) is_best = record { scores = is_best.scores; some = is_best.some; behind = λ d. (go d (seen_or_none (IsBehind (λ (e : ComponentNo). score reports e now) best.0 best.1) reports d now is_best.behind)) }
  where
    lowest : (m n : ℕ) → 0 < n → m ≡ 0 → m ≤ n
    lowest m n some zero = omega arith

    apart : (m n : ℕ) → 0 < n → m ≡ 0 → m ≡ n → ⊥
    apart m n some zero same = omega arith

    go : (d : ComponentNo) → (score reports d now ≡ 0) ⊎ IsBehind (λ (e : ComponentNo). score reports e now) best.0 best.1 d → IsBehind (λ (e : ComponentNo). score reports e now) best.0 best.1 d
    go d (inl zero) = record { no_more = lowest (score reports d now) best.1 is_best.some zero; later = λ same. (absurd (apart (score reports d now) best.1 is_best.some zero same)) }
    go d (inr behind) = behind

-- no two components are the top
pub tops_agree : (reports : List PathReport) (now : Moment) (c d : ComponentNo) (n m : ℕ) → IsTop reports now c n → IsTop reports now d m → (c ≡ d) × (n ≡ m)
tops_agree reports now c d n m a b =
    let up : n ≤ m = subst (λ (k : ℕ). k ≤ m) a.scores ((b.behind c).no_more) in
    let down : m ≤ n = subst (λ (k : ℕ). k ≤ n) b.scores ((a.behind d).no_more) in
    let one : n ≡ m = omega arith in
    let left : c.0 ≤ d.0 = (a.behind d).later (b.scores ∙ sym one) in
    let right : d.0 ≤ c.0 = (b.behind c).later (a.scores ∙ one) in
    (one_number c d (omega arith), one)

-- one more component of a path was seen
pub best_more : (s : ComponentNo → ℕ) (seen path : List ComponentNo) (i : ℕ) (d : ComponentNo) (best : Option (ComponentNo × ℕ)) → i < length path → IsBest s ((seen ++ take i path) ++ get_or path i d ∷ []) best → IsBest s (seen ++ take (i + 1) path) best
best_more s seen path i d best within is_best =
    let more : (seen ++ take i path) ++ get_or path i d ∷ [] ≡ seen ++ take (i + 1) path = append_assoc seen (take i path) (get_or path i d ∷ []) ∙ ap (λ (front : List ComponentNo). seen ++ front) (sym (take_more path i d within)) in
    subst (λ (front : List ComponentNo). IsBest s front best) more is_best

pub best_whole : (s : ComponentNo → ℕ) (seen path : List ComponentNo) (i : ℕ) (best : Option (ComponentNo × ℕ)) → length path ≤ i → IsBest s (seen ++ take i path) best → IsBest s (seen ++ path) best
best_whole s seen path i best end is_best = subst (λ (front : List ComponentNo). IsBest s (seen ++ front) best) (take_all i path end) is_best

-- the components of one more report were seen
pub paths_more : (s : ComponentNo → ℕ) (reports : List PathReport) (i : ℕ) (report : PathReport) (path : List ComponentNo) (best : Option (ComponentNo × ℕ)) → i < length reports → report ≡ get_or reports i report → path ≡ report.path → IsBest s (on_paths (take i reports) ++ path) best → IsBest s (on_paths (take (i + 1) reports)) best
paths_more s reports i report path best within is_there same is_best =
    let last : on_paths (get_or reports i report ∷ []) ≡ path = ap (λ (r : PathReport). r.path ++ []) (sym is_there) ∙ append-nil report.path ∙ sym same in
    let more : on_paths (take (i + 1) reports) ≡ on_paths (take i reports) ++ path = ap on_paths (take_more reports i report within) ∙ flat_map-append (λ (r : PathReport). r.path) (take i reports) (get_or reports i report ∷ []) ∙ ap (λ (front : List ComponentNo). on_paths (take i reports) ++ front) last in
    subst (λ (front : List ComponentNo). IsBest s front best) (sym more) is_best

pub paths_whole : (s : ComponentNo → ℕ) (reports : List PathReport) (i : ℕ) (best : Option (ComponentNo × ℕ)) → length reports ≤ i → IsBest s (on_paths (take i reports)) best → IsBest s (on_paths reports) best
paths_whole s reports i best end is_best = subst (λ (rs : List PathReport). IsBest s (on_paths rs) best) (take_all i reports end) is_best
