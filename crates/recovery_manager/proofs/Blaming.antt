-- The component to blame.
use Rattle.std.proofs.Common.{◌≡◌, ◌∙◌, ◌≢◌, ◌↔◌, ◌⊎◌, inl, inr, ℕ, zero, suc, ◌+◌, ◌-◌, ◌<◌, ◌≤◌, ◌&&◌, nat_le, nat_lt, Bool, true, false, cond, List, [], ◌∷◌, ◌++◌, length, map, filter, slice_get, All, Option, Some, None, refl, sym, ap, subst, arith}
use Rattle.std.specs.Prelude.{find}
use Rattle.std.specs.List.{list_all, range_with_len}
use Rattle.std.specs.Option.{option_and_then}
use Rattle.std.proofs.lemmas.Bool.Decides.{nat_tests}
use Rattle.std.proofs.lemmas.List.Elements.{All-head, All-tail, All-weaker}
use Rattle.std.proofs.lemmas.List.FromFn.{length-map-range_with_len, get_or-map-range_with_len, map-range_with_len_more}
use Rattle.std.proofs.lemmas.Option.{slice_get-get_or}
use Rattle.crash_base.specs.declared.numbers.ComponentNo.{ComponentNo}
use Rattle.crash_base.specs.declared.numbers.GroupNo.{GroupNo}
use Rattle.crash_base.specs.declared.numbers.Level.{Level}
use Rattle.crash_base.specs.declared.numbers.Moment.{Moment}
use Rattle.deployment.specs.declared.parts.Parts.{Parts}
use Rattle.deployment.specs.Groups.{group_no, group_of}
use Rattle.deployment.specs.Parts.{component_no}
use Rattle.failure_scores.specs.declared.report.PathReport.{PathReport}
use Rattle.failure_scores.specs.Scores.{is_on, counts, score}
use Rattle.failure_scores.specs.Scores as scores
use Rattle.failure_scores.specs.Top.{IsTop}
use Rattle.failure_scores.proofs.Counting.{one_number, and_first, and_second, and_of, and_lacking, and_without, off_path}
use Rattle.recovery_manager.specs.declared.acts.Act.{Act}
use Rattle.recovery_manager.specs.declared.decision.TheConstants.{REPORTS_TO_REBOOT}
use Rattle.recovery_manager.specs.declared.decision.Decision.{Decision}
use Rattle.recovery_manager.specs.declared.decision.Decision.TheVariants as decided
use Rattle.recovery_manager.specs.Decisions.{components_of, is_to_blame, blamed, own_group, decision_for, decision_of}
use Rattle.recovery_manager.specs.Kept.{groups_of, AreKnown, decision_at, kept_decision}
use Rattle.recovery_manager.specs.Levels.{is_recent, next_level}
use Rattle.recovery_manager.proofs.Widening.{one_group, next_kept}

-- the components of these numbers
abbrev numbered : ℕ → ℕ → List ComponentNo
numbered from len = map component_no (range_with_len from len)

below_or_not : (a b : ℕ) → (a < b) ⊎ (b ≤ a)
below_or_not a b = go (nat_lt a b) refl
  where
    go : (t : Bool) → nat_lt a b ≡ t → (a < b) ⊎ (b ≤ a)
    go true less = inl (grind (arith, nat_tests))
    go false more = inr (grind (arith, nat_tests))

tests_le : (a b : ℕ) → a ≤ b → nat_le a b ≡ true
tests_le a b within = grind (arith, nat_tests)

tests_more : (a b : ℕ) → b < a → nat_le a b ≡ false
tests_more a b more = grind (arith, nat_tests)

le_tested : (a b : ℕ) → nat_le a b ≡ true → a ≤ b
le_tested a b test = grind (arith, nat_tests)

all_of : (p : ComponentNo → Bool) (from len : ℕ) → ((d : ComponentNo) → from ≤ d.0 → d.0 < from + len → p d ≡ true) → list_all p (numbered from len) ≡ true
all_of p from zero each = refl
all_of p from (suc len) each =
    and_of (p (component_no from)) (list_all p (numbered (from + 1) len)) (each (component_no from) (omega arith) (omega arith))
    (all_of p (from + 1) len (λ (d : ComponentNo) (above : from + 1 ≤ d.0) (below : d.0 < from + 1 + len). each d (omega arith) (omega arith)))

all_at : (p : ComponentNo → Bool) (from len : ℕ) → list_all p (numbered from len) ≡ true → (d : ComponentNo) → from ≤ d.0 → d.0 < from + len → p d ≡ true
all_at p from zero all d above below = absurd (omega arith)
all_at p from (suc len) all d above below = go (all_at p (from + 1) len (and_second (p (component_no from)) (list_all p (numbered (from + 1) len)) all) d) (below_or_not from d.0)
  where
    go : (from + 1 ≤ d.0 → d.0 < from + 1 + len → p d ≡ true) → (from < d.0) ⊎ (d.0 ≤ from) → p d ≡ true
    go later (inl after) = later (omega arith) (omega arith)
    go later (inr at) =
        let same : from ≡ d.0 = omega arith in
        subst (λ (c : ComponentNo). p c ≡ true) (one_number (component_no from) d same) (and_first (p (component_no from)) (list_all p (numbered (from + 1) len)) all)

-- the first component that passes is found
find_first : (p : ComponentNo → Bool) (from len : ℕ) (c : ComponentNo) → from ≤ c.0 → c.0 < from + len → p c ≡ true → ((d : ComponentNo) → from ≤ d.0 → d.0 < c.0 → p d ≡ false) → find p (numbered from len) ≡ Some c
find_first p from zero c above below passes before = absurd (omega arith)
find_first p from (suc len) c above below passes before = go (find_first p (from + 1) len c) (below_or_not from c.0)
  where
    go : (from + 1 ≤ c.0 → c.0 < from + 1 + len → p c ≡ true → ((d : ComponentNo) → from + 1 ≤ d.0 → d.0 < c.0 → p d ≡ false) → find p (numbered (from + 1) len) ≡ Some c) → (from < c.0) ⊎ (c.0 ≤ from) → cond (p (component_no from)) (Some (component_no from)) (find p (numbered (from + 1) len)) ≡ Some c
    go later (inl after) =
        ap (λ (b : Bool). cond b (Some (component_no from)) (find p (numbered (from + 1) len))) (before (component_no from) (omega arith) after)
        ∙ later (omega arith) (omega arith) passes (λ (d : ComponentNo) (next : from + 1 ≤ d.0) (earlier : d.0 < c.0). before d (omega arith) earlier)
    go later (inr at) =
        let same : from ≡ c.0 = omega arith in
        let one : component_no from ≡ c = one_number (component_no from) c same in
        ap (λ (d : ComponentNo). cond (p d) (Some d) (find p (numbered (from + 1) len))) one
        ∙ ap (λ (b : Bool). cond b (Some c) (find p (numbered (from + 1) len))) passes

-- where no component passes, none is found
find_none : (p : ComponentNo → Bool) (from len : ℕ) → ((d : ComponentNo) → from ≤ d.0 → d.0 < from + len → p d ≡ false) → find p (numbered from len) ≡ None
find_none p from zero each = refl
find_none p from (suc len) each =
    ap (λ (b : Bool). cond b (Some (component_no from)) (find p (numbered (from + 1) len))) (each (component_no from) (omega arith) (omega arith))
    ∙ find_none p (from + 1) len (λ (d : ComponentNo) (above : from + 1 ≤ d.0) (below : d.0 < from + 1 + len). each d (omega arith) (omega arith))

-- where none is found, no component passes
none_passes : (p : ComponentNo → Bool) (from len : ℕ) → find p (numbered from len) ≡ None → (d : ComponentNo) → from ≤ d.0 → d.0 < from + len → p d ≡ false
none_passes p from zero none d above below = absurd (omega arith)
none_passes p from (suc len) none d above below = go (none_passes p (from + 1) len) (p (component_no from)) refl (below_or_not from d.0)
  where
    go : (find p (numbered (from + 1) len) ≡ None → (e : ComponentNo) → from + 1 ≤ e.0 → e.0 < from + 1 + len → p e ≡ false) → (b : Bool) → p (component_no from) ≡ b → (from < d.0) ⊎ (d.0 ≤ from) → p d ≡ false
    go later true passes place = let wrong : Some (component_no from) ≡ None = sym (ap (λ (b : Bool). cond b (Some (component_no from)) (find p (numbered (from + 1) len))) passes) ∙ none in cc
    go later false fails (inl after) = later (sym (ap (λ (b : Bool). cond b (Some (component_no from)) (find p (numbered (from + 1) len))) fails) ∙ none) d (omega arith) (omega arith)
    go later false fails (inr at) =
        let same : from ≡ d.0 = omega arith in
        subst (λ (c : ComponentNo). p c ≡ false) (one_number (component_no from) d same) fails

-- of numbers below a bound there is one whose value is the greatest
greatest : (s : ℕ → ℕ) (n : ℕ) → (c : ℕ) × (c < n + 1) × ((d : ℕ) → d < n + 1 → s d ≤ s c)
greatest s zero = (0, omega arith, λ (d : ℕ) (below : d < zero + 1). (let same : 0 ≡ d = omega arith in subst (λ (k : ℕ). s k ≤ s 0) same (omega arith)))
greatest s (suc n) = go (greatest s n).0 (greatest s n).1 (greatest s n).2
  where
    last : (d : ℕ) → d < suc n + 1 → n + 1 ≤ d → n + 1 ≡ d
    last d below above = omega arith

    more : (a b c : ℕ) → a ≤ b → b < c → a ≤ c
    more a b c p q = omega arith

    itself : (a : ℕ) → a ≤ a
    itself a = omega arith

    up_to : (k : ℕ) → ((d : ℕ) → d < n + 1 → s d ≤ k) → s (n + 1) ≤ k → (d : ℕ) → d < suc n + 1 → (d < n + 1) ⊎ (n + 1 ≤ d) → s d ≤ k
    up_to k most here d below (inl before) = most d before
    up_to k most here d below (inr at) = subst (λ (e : ℕ). s e ≤ k) (last d below at) here

    pick : (c : ℕ) → c < n + 1 → ((d : ℕ) → d < n + 1 → s d ≤ s c) → (s c < s (n + 1)) ⊎ (s (n + 1) ≤ s c) → (e : ℕ) × (e < suc n + 1) × ((d : ℕ) → d < suc n + 1 → s d ≤ s e)
    pick c below most (inl less) = (n + 1, omega arith, λ d within. up_to (s (n + 1)) (λ e lower. more (s e) (s c) (s (n + 1)) (most e lower) less) (itself (s (n + 1))) d within (below_or_not d (n + 1)))
    pick c below most (inr not_less) = (c, omega arith, λ d within. up_to (s c) most not_less d within (below_or_not d (n + 1)))

    go : (c : ℕ) → c < n + 1 → ((d : ℕ) → d < n + 1 → s d ≤ s c) → (e : ℕ) × (e < suc n + 1) × ((d : ℕ) → d < suc n + 1 → s d ≤ s e)
    go c below most = pick c below most (below_or_not (s c) (s (n + 1)))

-- a component with enough reports that none outscores is to blame
blames : (count : ℕ) (reports : List PathReport) (now : Moment) (c : ComponentNo) → REPORTS_TO_REBOOT ≤ score reports c now → ((d : ComponentNo) → d.0 < count → score reports d now ≤ score reports c now) → is_to_blame count reports now c ≡ true
blames count reports now c enough most =
    and_of (nat_le REPORTS_TO_REBOOT (score reports c now)) (list_all (λ (d : ComponentNo). nat_le (score reports d now) (score reports c now)) (components_of count)) (tests_le REPORTS_TO_REBOOT (score reports c now) enough)
    (all_of (λ (d : ComponentNo). nat_le (score reports d now) (score reports c now)) 0 (count) (λ (d : ComponentNo) (above : 0 ≤ d.0) (below : d.0 < 0 + count). tests_le (score reports d now) (score reports c now) (most d (omega arith))))

-- a component that another one outscores is not to blame
spared : (count : ℕ) (reports : List PathReport) (now : Moment) (c d : ComponentNo) → c.0 < count → score reports d now < score reports c now → is_to_blame count reports now d ≡ false
spared count reports now c d below less = go (is_to_blame count reports now d) refl
  where
    most : is_to_blame count reports now d ≡ true → nat_le (score reports c now) (score reports d now) ≡ true
    most blame = all_at (λ (e : ComponentNo). nat_le (score reports e now) (score reports d now)) 0 (count) (and_second (nat_le REPORTS_TO_REBOOT (score reports d now)) (list_all (λ (e : ComponentNo). nat_le (score reports e now) (score reports d now)) (components_of count)) blame) c (omega arith) (omega arith)

    go : (b : Bool) → is_to_blame count reports now d ≡ b → is_to_blame count reports now d ≡ false
    go true blame = let wrong : true ≡ false = sym (most blame) ∙ tests_more (score reports c now) (score reports d now) less in cc
    go false same = same

leader : (count : ℕ) (reports : List PathReport) (now : Moment) (c : ComponentNo) → c.0 < count → REPORTS_TO_REBOOT ≤ score reports c now → ((d : ComponentNo) → d.0 < count → score reports d now ≤ score reports c now) → ((d : ComponentNo) → d.0 < c.0 → score reports d now < score reports c now) → blamed count reports now ≡ Some c
leader count reports now c below enough most first =
    find_first (is_to_blame count reports now) 0 (count) c (omega arith) (omega arith) (blames count reports now c enough most) (λ d above before. spared count reports now c d below (first d before))

nobody : (count : ℕ) (reports : List PathReport) (now : Moment) → ((c : ComponentNo) → c.0 < count → score reports c now < REPORTS_TO_REBOOT) → blamed count reports now ≡ None
nobody count reports now few =
    find_none (is_to_blame count reports now) 0 (count) (λ (d : ComponentNo) (above : 0 ≤ d.0) (below : d.0 < 0 + count). and_lacking (nat_le REPORTS_TO_REBOOT (score reports d now)) (list_all (λ (e : ComponentNo). nat_le (score reports e now) (score reports d now)) (components_of count)) (tests_more REPORTS_TO_REBOOT (score reports d now) (few d (omega arith))))

for_none : (parts : Parts) (acts : List Act) (now : Moment) (c : Option ComponentNo) → decision_for parts acts now c ≡ decided.None → c ≡ None
for_none parts acts now None same = refl
for_none parts acts now (Some c) same = let wrong : decided.Reboot (next_level acts (own_group parts c) now) ≡ decided.None = same in cc

none_has_few : (count : ℕ) (reports : List PathReport) (now : Moment) → blamed count reports now ≡ None → (c : ComponentNo) → c.0 < count → score reports c now < REPORTS_TO_REBOOT
none_has_few count reports now none c below = go (below_or_not (score reports c now) REPORTS_TO_REBOOT)
  where
    blame : (n : ℕ) → n < count - 1 + 1 → ((d : ℕ) → d < count - 1 + 1 → score reports (component_no d) now ≤ score reports (component_no n) now) → REPORTS_TO_REBOOT ≤ score reports c now → score reports c now < REPORTS_TO_REBOOT
    blame n within most enough =
        let more : score reports c now ≤ score reports (component_no n) now = most c.0 (omega arith) in
        let yes_ : is_to_blame count reports now (component_no n) ≡ true = blames count reports now (component_no n) (omega arith) (λ (d : ComponentNo) (lower : d.0 < count). most d.0 (omega arith)) in
        let no_ : is_to_blame count reports now (component_no n) ≡ false = none_passes (is_to_blame count reports now) 0 (count) none (component_no n) (omega arith) (omega arith) in
        let wrong : true ≡ false = sym yes_ ∙ no_ in cc

    go : (score reports c now < REPORTS_TO_REBOOT) ⊎ (REPORTS_TO_REBOOT ≤ score reports c now) → score reports c now < REPORTS_TO_REBOOT
    go (inl few) = few
    go (inr enough) =
        let found : (n : ℕ) × (n < count - 1 + 1) × ((d : ℕ) → d < count - 1 + 1 → score reports (component_no d) now ≤ score reports (component_no n) now) = greatest (λ (n : ℕ). score reports (component_no n) now) (count - 1) in
        blame found.0 found.1 found.2 enough

pub none_exactly : (parts : Parts) (reports : List PathReport) (acts : List Act) (now : Moment) → (decision_of parts reports acts now ≡ decided.None) ↔ ((c : ComponentNo) → c.0 < length parts.components → score reports c now < REPORTS_TO_REBOOT)
none_exactly parts reports acts now = (
  λ none. none_has_few (length parts.components) reports now (for_none parts acts now (blamed (length parts.components) reports now) none),
  λ few. ap (λ (c : Option ComponentNo). decision_for parts acts now c) (nobody (length parts.components) reports now few),
)

pub reboot_for_leader : (parts : Parts) (reports : List PathReport) (acts : List Act) (now : Moment) (c : ComponentNo) → c.0 < length parts.components → REPORTS_TO_REBOOT ≤ score reports c now → ((d : ComponentNo) → d.0 < length parts.components → score reports d now ≤ score reports c now) → ((d : ComponentNo) → d.0 < c.0 → score reports d now < score reports c now) → decision_of parts reports acts now ≡ decided.Reboot (next_level acts (own_group parts c) now)
reboot_for_leader parts reports acts now c below enough most first = ap (λ (d : Option ComponentNo). decision_for parts acts now d) (leader (length parts.components) reports now c below enough most first)

-- the groups of one more component
pub groups_more : (parts : Parts) (i : ℕ) (before after : List GroupNo) (g : GroupNo) → before ≡ map (λ (c : ℕ). group_no (group_of parts c)) (range_with_len 0 i) → g.0 ≡ group_of parts i → after ≡ before ++ g ∷ [] → after ≡ map (λ (c : ℕ). group_no (group_of parts c)) (range_with_len 0 (i + 1))
groups_more parts i before after g so_far own more =
    more
    ∙ ap (λ (gs : List GroupNo). gs ++ g ∷ []) so_far
    ∙ ap (λ (h : GroupNo). map (λ (c : ℕ). group_no (group_of parts c)) (range_with_len 0 i) ++ h ∷ []) (one_group g (group_no (group_of parts i)) own)
    ∙ sym (map-range_with_len_more (λ (c : ℕ). group_no (group_of parts c)) 0 i i (omega arith))

-- the group of a component stands at its number
own_at : (parts : Parts) (c : ComponentNo) → c.0 < length parts.components → slice_get (groups_of parts) c.0 ≡ Some (own_group parts c)
own_at parts c below =
    let len : length (groups_of parts) ≡ length parts.components = length-map-range_with_len (λ (n : ℕ). group_no (group_of parts n)) 0 (length parts.components) in
    slice_get-get_or (groups_of parts) c.0 (own_group parts c) (omega arith)
    ∙ ap (λ (g : GroupNo). Some g) (get_or-map-range_with_len (λ (n : ℕ). group_no (group_of parts n)) 0 (length parts.components) c.0 c.0 (own_group parts c) below (omega arith))

-- a number that is on no path of known components scores nothing
scores_nothing : (count : ℕ) (kept : List PathReport) (now : Moment) (c : ComponentNo) → AreKnown count kept → count ≤ c.0 → score kept c now ≡ 0
scores_nothing count [] now c known above = refl
scores_nothing count (r ∷ rs) now c known above =
    ap (λ (b : Bool). length (cond b (r ∷ filter (counts c now) rs) (filter (counts c now) rs))) (and_without (scores.is_recent now r) (is_on c r.path) (off_path c r.path (All-weaker (λ (d : ComponentNo). d.0 < count) (λ (d : ComponentNo). d ≢ c) (λ d lower same. differ d.0 lower (ap (λ (e : ComponentNo). e.0) same)) r.path (All-head (λ (q : PathReport). All (λ (d : ComponentNo). d.0 < count) q.path) r rs known))))
    ∙ scores_nothing count rs now c (All-tail (λ (q : PathReport). All (λ (d : ComponentNo). d.0 < count) q.path) r rs known) above
  where
    differ : (d : ℕ) → d < count → d ≡ c.0 → ⊥
    differ d lower same = omega arith

-- a component that scores is one of those that are known
is_component : (count : ℕ) (kept : List PathReport) (now : Moment) (c : ComponentNo) (n : ℕ) → AreKnown count kept → IsTop kept now c n → c.0 < count
is_component count kept now c n known top = go (below_or_not c.0 count)
  where
    nothing : (m k : ℕ) → m ≡ k → 0 < k → m ≡ 0 → ⊥
    nothing m k same some none = omega arith

    go : (c.0 < count) ⊎ (count ≤ c.0) → c.0 < count
    go (inl below) = below
    go (inr above) = absurd (nothing (score kept c now) n top.scores top.some (scores_nothing count kept now c known above))

-- a number that is at most another, and less where it would be out of order, is less
less : (m k a b : ℕ) → m ≤ k → (m ≡ k → a ≤ b) → b < a → m < k
less m k a b no_more later before = go (below_or_not m k)
  where
    go : (m < k) ⊎ (k ≤ m) → m < k
    go (inl lower) = lower
    go (inr more) = let same : m ≡ k = omega arith in let after : a ≤ b = later same in absurd (omega arith)

-- the decision for the component to blame, by the groups that are kept
abbrev decision_for_kept : List GroupNo → List Act → Moment → Option ComponentNo → Decision
decision_for_kept groups acts now c = decision_at acts now (option_and_then (λ (d : ComponentNo). slice_get groups d.0) c)

pub decided_for_top : (groups : List GroupNo) (kept : List PathReport) (acts : List Act) (now : Moment) (c : ComponentNo) (n : ℕ) → AreKnown (length groups) kept → IsTop kept now c n → REPORTS_TO_REBOOT ≤ n → decision_at acts now (slice_get groups c.0) ≡ kept_decision groups kept acts now
decided_for_top groups kept acts now c n known top enough =
    sym (ap (λ (d : Option ComponentNo). decision_for_kept groups acts now d) (leader (length groups) kept now c (is_component (length groups) kept now c n known top) (subst (λ (k : ℕ). REPORTS_TO_REBOOT ≤ k) (sym top.scores) enough) (λ d lower. subst (λ (k : ℕ). score kept d now ≤ k) (sym top.scores) (top.behind d).no_more) (λ d before. subst (λ (k : ℕ). score kept d now < k) (sym top.scores) (less (score kept d now) n c.0 d.0 (top.behind d).no_more (top.behind d).later before))))

pub decided_for_few : (groups : List GroupNo) (kept : List PathReport) (acts : List Act) (now : Moment) (c : ComponentNo) (n : ℕ) → IsTop kept now c n → n < REPORTS_TO_REBOOT → decided.None ≡ kept_decision groups kept acts now
decided_for_few groups kept acts now c n top few =
    sym (ap (λ (d : Option ComponentNo). decision_for_kept groups acts now d) (nobody (length groups) kept now (λ d below. lower (score kept d now) n REPORTS_TO_REBOOT (top.behind d).no_more few)))
  where
    lower : (a b k : ℕ) → a ≤ b → b < k → a < k
    lower a b k p q = omega arith

pub decided_for_none : (groups : List GroupNo) (kept : List PathReport) (acts : List Act) (now : Moment) → ((c : ComponentNo) → score kept c now ≡ 0) → decided.None ≡ kept_decision groups kept acts now
decided_for_none groups kept acts now nothing =
    sym (ap (λ (d : Option ComponentNo). decision_for_kept groups acts now d) (nobody (length groups) kept now (λ d below. none_counts (score kept d now) (nothing d))))
  where
    none_counts : (a : ℕ) → a ≡ 0 → a < REPORTS_TO_REBOOT
    none_counts a none = omega arith

-- two tests that agree at each of these components
all_same : (p q : ComponentNo → Bool) (from len : ℕ) → ((d : ComponentNo) → d.0 < from + len → p d ≡ q d) → list_all p (numbered from len) ≡ list_all q (numbered from len)
all_same p q from zero same = refl
all_same p q from (suc len) same =
    ap (λ (b : Bool). b && list_all p (numbered (from + 1) len)) (same (component_no from) (omega arith))
    ∙ ap (λ (b : Bool). q (component_no from) && b) (all_same p q (from + 1) len (λ (d : ComponentNo) (below : d.0 < from + 1 + len). same d (omega arith)))

find_same : (p q : ComponentNo → Bool) (from len : ℕ) → ((d : ComponentNo) → d.0 < from + len → p d ≡ q d) → find p (numbered from len) ≡ find q (numbered from len)
find_same p q from zero same = refl
find_same p q from (suc len) same =
    ap (λ (b : Bool). cond b (Some (component_no from)) (find p (numbered (from + 1) len))) (same (component_no from) (omega arith))
    ∙ ap (λ (d : Option ComponentNo). cond (q (component_no from)) (Some (component_no from)) d) (find_same p q (from + 1) len (λ (d : ComponentNo) (below : d.0 < from + 1 + len). same d (omega arith)))

-- where each component scores the same, the same one is to blame
blamed_same : (count : ℕ) (kept reports : List PathReport) (now : Moment) → ((c : ComponentNo) → c.0 < count → score kept c now ≡ score reports c now) → blamed count kept now ≡ blamed count reports now
blamed_same count kept reports now same = find_same (is_to_blame count kept now) (is_to_blame count reports now) 0 count (λ (c : ComponentNo) (below : c.0 < 0 + count). blames_same c (same c (omega arith)))
  where
    others : (m n : ℕ) → m ≡ n → list_all (λ (d : ComponentNo). nat_le (score kept d now) m) (components_of count) ≡ list_all (λ (d : ComponentNo). nat_le (score reports d now) n) (components_of count)
    others m n one =
        all_same (λ (d : ComponentNo). nat_le (score kept d now) m) (λ (d : ComponentNo). nat_le (score reports d now) m) 0 count (λ (d : ComponentNo) (below : d.0 < 0 + count). ap (λ (k : ℕ). nat_le k m) (same d (omega arith)))
        ∙ ap (λ (k : ℕ). list_all (λ (d : ComponentNo). nat_le (score reports d now) k) (components_of count)) one

    blames_same : (c : ComponentNo) → score kept c now ≡ score reports c now → is_to_blame count kept now c ≡ is_to_blame count reports now c
    blames_same c one =
        ap (λ (k : ℕ). nat_le REPORTS_TO_REBOOT k && list_all (λ (d : ComponentNo). nat_le (score kept d now) (score kept c now)) (components_of count)) one
        ∙ ap (λ (b : Bool). nat_le REPORTS_TO_REBOOT (score reports c now) && b) (others (score kept c now) (score reports c now) one)

-- for a component that is found the decision by the groups that are kept is the one by the parts
found_same : (parts : Parts) (acts : List Act) (now : Moment) (p : ComponentNo → Bool) (from len : ℕ) → from + len ≤ length parts.components → decision_for_kept (groups_of parts) acts now (find p (numbered from len)) ≡ decision_for parts acts now (find p (numbered from len))
found_same parts acts now p from zero within = refl
found_same parts acts now p from (suc len) within = go (found_same parts acts now p (from + 1) len (omega arith)) (p (component_no from))
  where
    own : slice_get (groups_of parts) (component_no from).0 ≡ Some (own_group parts (component_no from))
    own = own_at parts (component_no from) (omega arith)

    go : decision_for_kept (groups_of parts) acts now (find p (numbered (from + 1) len)) ≡ decision_for parts acts now (find p (numbered (from + 1) len)) → (b : Bool) → decision_for_kept (groups_of parts) acts now (cond b (Some (component_no from)) (find p (numbered (from + 1) len))) ≡ decision_for parts acts now (cond b (Some (component_no from)) (find p (numbered (from + 1) len)))
    go later true = ap (λ (g : Option GroupNo). decision_at acts now g) own
    go later false = later

-- what is decided by the kept groups and reports is decided by all, where each component scores the same
pub decided_by_scores : (parts : Parts) (groups : List GroupNo) (kept reports : List PathReport) (acts : List Act) (now : Moment) → groups ≡ groups_of parts → ((c : ComponentNo) → c.0 < length parts.components → score kept c now ≡ score reports c now) → kept_decision groups kept acts now ≡ decision_of parts reports acts now
decided_by_scores parts groups kept reports acts now groups_are same =
    ap (λ (gs : List GroupNo). kept_decision gs kept acts now) groups_are
    ∙ ap (λ (n : ℕ). decision_for_kept (groups_of parts) acts now (blamed n kept now)) (length-map-range_with_len (λ (n : ℕ). group_no (group_of parts n)) 0 (length parts.components))
    ∙ ap (λ (c : Option ComponentNo). decision_for_kept (groups_of parts) acts now c) (blamed_same (length parts.components) kept reports now same)
    ∙ found_same parts acts now (is_to_blame (length parts.components) reports now) 0 (length parts.components) (omega arith)

-- the acts that are kept decide as all do
pub decision_kept : (parts : Parts) (reports : List PathReport) (acts : List Act) (then now : Moment) → then.0 ≤ now.0 → decision_of parts reports (filter (is_recent then) acts) now ≡ decision_of parts reports acts now
decision_kept parts reports acts then now earlier = go (blamed (length parts.components) reports now)
  where
    go : (c : Option ComponentNo) → decision_for parts (filter (is_recent then) acts) now c ≡ decision_for parts acts now c
    go None = refl
    go (Some c) = ap (λ (level : Level). decided.Reboot level) (next_kept acts (own_group parts c) then now earlier)
