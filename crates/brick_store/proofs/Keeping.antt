-- What a put and a sweep leave of kept values: their order, what is under a key and version, how many they are, and
-- how many bytes they have.
use Rattle.std.proofs.Common.{◌≡◌, ℕ, suc, ◌+◌, ◌≤◌, Bool, true, false, cond, if◌then◌else◌, not, List, [], ◌∷◌, length, filter, All, Option, Some, None, refl, sym, ap, ◌∙◌, subst, arith}
use Rattle.std.proofs.lemmas.List.Elements.{All-nil, All-cons, All-head, All-tail, All-weaker}
use Rattle.std.proofs.lemmas.Cmp.{tied_itself}
use Rattle.std.specs.Ordering.{is_eq, match_ordering, ordering_reverse}
use Rattle.std.specs.declared.cmp.Ordering.{Ordering}
use Rattle.std.specs.declared.cmp.Ordering.TheVariants.{Less, Equal, Greater}
use Rattle.crash_base.specs.declared.numbers.Moment.{Moment}
use Rattle.crash_base.specs.declared.numbers.SessionKey.{SessionKey}
use Rattle.crash_base.specs.declared.numbers.Version.{Version}
use Rattle.brick_store.specs.declared.kept.Kept.{Kept}
use Rattle.brick_store.specs.History.{left_by}
use Rattle.brick_store.specs.Kept.{is_under, is_late, kept_order, kept_under, with_kept, bytes_of, size_of, outlives, AreInOrder}
use Rattle.brick_store.proofs.KeptOrder.{kept_total, is_eq-kept_order, under_alike, under_both, under_after}

-- one value comes before another
abbrev IsBefore : Kept → Kept → Type 0
IsBefore s t = kept_order s t ≡ Less

under_self : (s t : Kept) (o : Ordering) → kept_order s t ≡ o → is_under s.key s.version t ≡ is_eq o
under_self s t o order = sym (is_eq-kept_order s t) ∙ ap is_eq order

after_back : (s t : Kept) → kept_order s t ≡ Greater → kept_order t s ≡ Less
after_back s t order = kept_total.antisymm t s ∙ ap ordering_reverse order

-- ---- what is under a key and version

found_step : (key : SessionKey) (version : Version) (s t : Kept) (ts : List Kept) (o : Ordering) → kept_order s t ≡ o
    → kept_under key version (with_kept s ts) ≡ (if is_under key version s then Some s else kept_under key version ts)
    → kept_under key version (match_ordering o (s ∷ t ∷ ts) (s ∷ ts) (t ∷ with_kept s ts)) ≡ (if is_under key version s then Some s else kept_under key version (t ∷ ts))
found_step key version s t ts Less order later = refl
found_step key version s t ts Equal order later = over (is_under key version s) (is_under key version t) (under_alike key version s t order)
  where
    over : (here there : Bool) → here ≡ there
        → (if here then Some s else kept_under key version ts) ≡ (if here then Some s else (if there then Some t else kept_under key version ts))
    over true there same = refl
    over false false same = refl
    over false true same = absurd (cc)
found_step key version s t ts Greater order later =
    ap (λ found. if is_under key version t then Some t else found) later
    ∙ swap (is_under key version s) (is_under key version t) (λ here there. let same : kept_order s t ≡ Equal = under_both key version s t here there in cc)
  where
    swap : (here there : Bool) → (here ≡ true → there ≡ true → ⊥)
        → (if there then Some t else (if here then Some s else kept_under key version ts)) ≡ (if here then Some s else (if there then Some t else kept_under key version ts))
    swap true true apart = absurd (apart refl refl)
    swap true false apart = refl
    swap false there apart = refl

-- a value that was put is found under its key and version, and the others are found as before
pub found_with : (key : SessionKey) (version : Version) (s : Kept) (ts : List Kept)
    → kept_under key version (with_kept s ts) ≡ (if is_under key version s then Some s else kept_under key version ts)
found_with key version s [] = refl
found_with key version s (t ∷ ts) = found_step key version s t ts (kept_order s t) refl (found_with key version s ts)

none_after : (key : SessionKey) (version : Version) (t : Kept) (ts : List Kept) → is_under key version t ≡ true → All (IsBefore t) ts → kept_under key version ts ≡ None
none_after key version t [] here after = refl
none_after key version t (s ∷ ss) here after =
    rw (under_after key version t s here (All-head (IsBefore t) s ss after)) (none_after key version t ss here (All-tail (IsBefore t) s ss after))

left_step : (key : SessionKey) (version : Version) (moment : Moment) (t : Kept) (ts : List Kept) (late : Bool) → is_late moment t.expiry ≡ late
    → (is_under key version t ≡ true → kept_under key version ts ≡ None)
    → kept_under key version (filter (outlives moment) ts) ≡ left_by moment (kept_under key version ts)
    → kept_under key version (cond (not late) (t ∷ filter (outlives moment) ts) (filter (outlives moment) ts)) ≡ left_by moment (kept_under key version (t ∷ ts))
left_step key version moment t ts false timely none later = go (is_under key version t)
  where
    go : (here : Bool) → (if here then Some t else kept_under key version (filter (outlives moment) ts)) ≡ left_by moment (if here then Some t else kept_under key version ts)
    go true = rw timely refl
    go false = later
left_step key version moment t ts true late none later = go (is_under key version t) none
  where
    taken : left_by moment (Some t) ≡ None
    taken = rw late refl

    go : (here : Bool) → (here ≡ true → kept_under key version ts ≡ None)
        → kept_under key version (filter (outlives moment) ts) ≡ left_by moment (if here then Some t else kept_under key version ts)
    go true gone = later ∙ ap (left_by moment) (gone refl) ∙ sym taken
    go false gone = later

-- a sweep leaves under each key and version what it leaves of the value there
pub found_left : (key : SessionKey) (version : Version) (moment : Moment) (ts : List Kept) → AreInOrder ts
    → kept_under key version (filter (outlives moment) ts) ≡ left_by moment (kept_under key version ts)
found_left key version moment [] ordered = refl
found_left key version moment (t ∷ ts) ordered =
    left_step key version moment t ts (is_late moment t.expiry) refl (λ here. none_after key version t ts here ordered.0) (found_left key version moment ts ordered.1)

-- ---- their order

all_step : (P : Kept → Type 0) (s t : Kept) (ts : List Kept) (o : Ordering) → P s → All P (t ∷ ts) → All P (with_kept s ts)
    → All P (match_ordering o (s ∷ t ∷ ts) (s ∷ ts) (t ∷ with_kept s ts))
all_step P s t ts Less new all later = All-cons P s (t ∷ ts) new all
all_step P s t ts Equal new all later = All-cons P s ts new (All-tail P t ts all)
all_step P s t ts Greater new all later = All-cons P t (with_kept s ts) (All-head P t ts all) later

All-with : (P : Kept → Type 0) (s : Kept) (ts : List Kept) → P s → All P ts → All P (with_kept s ts)
All-with P s [] new all = All-cons P s [] new all
All-with P s (t ∷ ts) new all = all_step P s t ts (kept_order s t) new all (All-with P s ts new (All-tail P t ts all))

-- a value before the first of others in order is before all of them
before_all : (s t : Kept) (ts : List Kept) → kept_order s t ≡ Less → AreInOrder (t ∷ ts) → All (IsBefore s) (t ∷ ts)
before_all s t ts before ordered =
    All-cons (IsBefore s) t ts before (All-weaker (IsBefore t) (IsBefore s) (λ u after. kept_total.trans s t u before after) ts ordered.0)

order_step : (s t : Kept) (ts : List Kept) (o : Ordering) → kept_order s t ≡ o → AreInOrder (t ∷ ts) → AreInOrder (with_kept s ts)
    → AreInOrder (match_ordering o (s ∷ t ∷ ts) (s ∷ ts) (t ∷ with_kept s ts))
order_step s t ts Less order ordered later = (before_all s t ts order ordered, ordered)
order_step s t ts Equal order ordered later =
    (All-weaker (IsBefore t) (IsBefore s) (λ u after. kept_total.congr s t u order ∙ after) ts ordered.0, ordered.1)
order_step s t ts Greater order ordered later = (All-with (IsBefore t) s ts (after_back s t order) ordered.0, later)

pub ordered_with : (s : Kept) (ts : List Kept) → AreInOrder ts → AreInOrder (with_kept s ts)
ordered_with s [] ordered = (All-nil (IsBefore s), tt)
ordered_with s (t ∷ ts) ordered = order_step s t ts (kept_order s t) refl ordered (ordered_with s ts ordered.1)

All-left : (P : Kept → Type 0) (p : Kept → Bool) (ts : List Kept) → All P ts → All P (filter p ts)
All-left P p [] all = All-nil P
All-left P p (t ∷ ts) all = go (p t) (All-left P p ts (All-tail P t ts all))
  where
    go : (b : Bool) → All P (filter p ts) → All P (cond b (t ∷ filter p ts) (filter p ts))
    go true later = All-cons P t (filter p ts) (All-head P t ts all) later
    go false later = later

pub ordered_left : (p : Kept → Bool) (ts : List Kept) → AreInOrder ts → AreInOrder (filter p ts)
ordered_left p [] ordered = tt
ordered_left p (t ∷ ts) ordered = go (p t) (ordered_left p ts ordered.1)
  where
    go : (b : Bool) → AreInOrder (filter p ts) → AreInOrder (cond b (t ∷ filter p ts) (filter p ts))
    go true later = (All-left (IsBefore t) p ts ordered.0, later)
    go false later = later

-- ---- sums over them

-- what a value weighs, summed up
abbrev total : (Kept → ℕ) → List Kept → ℕ
total f [] = 0
total f (t ∷ ts) = f t + total f ts

abbrev pub weight : (Kept → ℕ) → Option Kept → ℕ
weight f None = 0
weight f (Some t) = f t

none_before : (s : Kept) (ts : List Kept) → All (IsBefore s) ts → kept_under s.key s.version ts ≡ None
none_before s [] before = refl
none_before s (t ∷ ts) before =
    rw (under_self s t Less (All-head (IsBefore s) t ts before)) (none_before s ts (All-tail (IsBefore s) t ts before))

total_step : (f : Kept → ℕ) (s t : Kept) (ts : List Kept) (o : Ordering) → kept_order s t ≡ o → AreInOrder (t ∷ ts)
    → total f (with_kept s ts) + weight f (kept_under s.key s.version ts) ≡ total f ts + f s
    → total f (match_ordering o (s ∷ t ∷ ts) (s ∷ ts) (t ∷ with_kept s ts)) + weight f (kept_under s.key s.version (t ∷ ts)) ≡ total f (t ∷ ts) + f s
total_step f s t ts Less order ordered later = rw (none_before s (t ∷ ts) (before_all s t ts order ordered)) (omega arith)
total_step f s t ts Equal order ordered later = rw (under_self s t Equal order) (omega arith)
total_step f s t ts Greater order ordered later = rw (under_self s t Greater order) (omega (arith, later))

total_with : (f : Kept → ℕ) (s : Kept) (ts : List Kept) → AreInOrder ts → total f (with_kept s ts) + weight f (kept_under s.key s.version ts) ≡ total f ts + f s
total_with f s [] ordered = omega arith
total_with f s (t ∷ ts) ordered = total_step f s t ts (kept_order s t) refl ordered (total_with f s ts ordered.1)

-- a put adds one value, and takes away the one that it replaces
count_total : (ts : List Kept) → length ts ≡ total (λ t. 1) ts
count_total [] = refl
count_total (t ∷ ts) = omega (arith, count_total ts)

bytes_total : (ts : List Kept) → bytes_of ts ≡ total (λ t. length t.value) ts
bytes_total [] = refl
bytes_total (t ∷ ts) = ap (λ n. length t.value + n) (bytes_total ts)

size_weight : (found : Option Kept) → size_of found ≡ weight (λ t. length t.value) found
size_weight None = refl
size_weight (Some t) = refl

pub bytes_with : (s : Kept) (ts : List Kept) → AreInOrder ts → bytes_of (with_kept s ts) + size_of (kept_under s.key s.version ts) ≡ bytes_of ts + length s.value
bytes_with s ts ordered =
    (λ l. bytes_total (with_kept s ts) l + size_weight (kept_under s.key s.version ts) l)
    ∙ total_with (λ t. length t.value) s ts ordered
    ∙ ap (λ n. n + length s.value) (sym (bytes_total ts))

-- the same, where a map tells its bytes, those that it takes away, and those that it adds
pub bytes_put : (s : Kept) (ts now : List Kept) (bytes less size : ℕ) → ts ≡ now → AreInOrder ts → bytes ≡ bytes_of ts
    → less ≡ size_of (kept_under s.key s.version now) → size ≡ length s.value → bytes_of (with_kept s ts) + less ≡ bytes + size
bytes_put s ts now bytes less size same ordered all taken added =
    ap (λ n. bytes_of (with_kept s ts) + n) (taken ∙ ap (λ us. size_of (kept_under s.key s.version us)) (sym same))
    ∙ bytes_with s ts ordered
    ∙ (λ l. sym all l + sym added l)

pub count_with : (s : Kept) (ts : List Kept) → AreInOrder ts → length (with_kept s ts) + weight (λ t. 1) (kept_under s.key s.version ts) ≡ length ts + 1
count_with s ts ordered =
    ap (λ n. n + weight (λ t. 1) (kept_under s.key s.version ts)) (count_total (with_kept s ts))
    ∙ total_with (λ t. 1) s ts ordered
    ∙ ap (λ n. n + 1) (sym (count_total ts))

-- a sweep leaves no more than was there
pub fewer_left : (p : Kept → Bool) (ts : List Kept) → (length (filter p ts) ≤ length ts) × (bytes_of (filter p ts) ≤ bytes_of ts)
fewer_left p [] = (omega arith, omega arith)
fewer_left p (t ∷ ts) = go (p t) (fewer_left p ts)
  where
    go : (b : Bool) → (length (filter p ts) ≤ length ts) × (bytes_of (filter p ts) ≤ bytes_of ts)
        → (length (cond b (t ∷ filter p ts) (filter p ts)) ≤ suc (length ts)) × (bytes_of (cond b (t ∷ filter p ts) (filter p ts)) ≤ length t.value + bytes_of ts)
    go true less = (omega (arith, less.0), omega (arith, less.1))
    go false less = (omega (arith, less.0), omega (arith, less.1))

-- ---- lists in order with the same values are one

found_first : (s : Kept) (ts : List Kept) → kept_under s.key s.version (s ∷ ts) ≡ Some s
found_first s ts = rw (under_self s s Equal (tied_itself kept_total s)) refl

missed : (s : Kept) (ss ts : List Kept) → All (IsBefore s) ts → kept_under s.key s.version (s ∷ ss) ≡ kept_under s.key s.version ts → ⊥
missed s ss ts before alike =
    let found : kept_under s.key s.version (s ∷ ss) ≡ Some s = found_first s ss in
    let none : kept_under s.key s.version ts ≡ None = none_before s ts before in
    cc

rest_alike : (s : Kept) (ss ts : List Kept) (key : SessionKey) (version : Version) (here : Bool) → is_under key version s ≡ here → AreInOrder (s ∷ ss) → AreInOrder (s ∷ ts)
    → (if here then Some s else kept_under key version ss) ≡ (if here then Some s else kept_under key version ts) → kept_under key version ss ≡ kept_under key version ts
rest_alike s ss ts key version true here first second alike = none_after key version s ss here first.0 ∙ sym (none_after key version s ts here second.0)
rest_alike s ss ts key version false here first second alike = alike

abbrev Alike : List Kept → List Kept → Type 0
Alike ss ts = (key : SessionKey) (version : Version) → kept_under key version ss ≡ kept_under key version ts

first_same : (s t : Kept) (ss ts : List Kept) (o : Ordering) → kept_order s t ≡ o → AreInOrder (s ∷ ss) → AreInOrder (t ∷ ts) → Alike (s ∷ ss) (t ∷ ts) → s ≡ t
first_same s t ss ts Less order first second alike = absurd (missed s ss (t ∷ ts) (before_all s t ts order second) (alike s.key s.version))
first_same s t ss ts Greater order first second alike = absurd (missed t ts (s ∷ ss) (before_all t s ss (after_back s t order) first) (sym (alike t.key t.version)))
first_same s t ss ts Equal order first second alike =
    let there : kept_under s.key s.version (t ∷ ts) ≡ Some t = rw (under_self s t Equal order) refl in
    let here : kept_under s.key s.version (s ∷ ss) ≡ Some s = found_first s ss in
    let both : Some s ≡ Some t = sym here ∙ alike s.key s.version ∙ there in
    cc

pub same_from_found : (ss ts : List Kept) → AreInOrder ss → AreInOrder ts → ((key : SessionKey) (version : Version) → kept_under key version ss ≡ kept_under key version ts) → ss ≡ ts
same_from_found [] [] first second alike = refl
same_from_found [] (t ∷ ts) first second alike = absurd (missed t ts [] (All-nil (IsBefore t)) (sym (alike t.key t.version)))
same_from_found (s ∷ ss) [] first second alike = absurd (missed s ss [] (All-nil (IsBefore s)) (alike s.key s.version))
same_from_found (s ∷ ss) (t ∷ ts) first second alike =
    let same : s ≡ t = first_same s t ss ts (kept_order s t) refl first second alike in
    let P : Kept → Type 0 = λ u. AreInOrder (u ∷ ts) in
    let Q : Kept → Type 0 = λ u. (key : SessionKey) (version : Version) → kept_under key version (s ∷ ss) ≡ kept_under key version (u ∷ ts) in
    let second' : P s = subst P (sym same) second in
    let alike' : Q s = subst Q (sym same) alike in
    let rest : ss ≡ ts = same_from_found ss ts first.1 second.1 (λ key version. rest_alike s ss ts key version (is_under key version s) refl first second' (alike' key version)) in
    (λ l. same l ∷ rest l)
