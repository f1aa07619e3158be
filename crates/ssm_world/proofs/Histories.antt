-- What histories say that grow.
use Rattle.std.proofs.Common.{◌≡◌, ℕ, suc, ◌<◌, ◌≤◌, ◌||◌, Bool, true, false, if◌then◌else◌, nat_lt, List, [], ◌∷◌, ◌++◌, Option, Some, None, refl, ap, subst, arith}
use Rattle.std.proofs.lemmas.Bool.{or_parts}
use Rattle.std.specs.Prelude.{slice_get}
use Rattle.std.proofs.lemmas.Bool.Decides.{nat_tests}
use Rattle.crash_base.specs.declared.numbers.Moment.{Moment}
use Rattle.crash_base.specs.declared.numbers.SessionKey.{SessionKey}
use Rattle.crash_base.specs.declared.numbers.Version.{Version}
use Rattle.brick_store.specs.declared.kept.Kept.{Kept}
use Rattle.brick_store.specs.declared.event.BrickEvent.{BrickEvent}
use Rattle.brick_store.specs.declared.event.BrickEvent.TheVariants.{Stored, Sweep, Crash}
use Rattle.brick_store.specs.Kept.{is_under, is_late}
use Rattle.brick_store.specs.History.{left_by, held, incarnation_after, swept_after}
use Rattle.ssm_world.specs.Facts.{is_late_sweep, has_late_sweep, AllStored, WasSweptAt}
use Rattle.ssm_stub.proofs.Tests.{key_same, version_same}

-- a crash alone raises the incarnation
pub incarnation_grows : (later h : List BrickEvent) → incarnation_after 1 h ≤ incarnation_after 1 (later ++ h)
incarnation_grows [] h = omega arith
incarnation_grows (Stored s ∷ later) h = incarnation_grows later h
incarnation_grows (Sweep moment ∷ later) h = incarnation_grows later h
incarnation_grows (Crash ∷ later) h = omega (arith, incarnation_grows later h)

-- what a sweep left was held before it
pub left_is : (moment : Moment) (o : Option Kept) (s : Kept) → left_by moment o ≡ Some s → o ≡ Some s
left_is moment None s is = is
left_is moment (Some t) s is = go (is_late moment t.expiry) is
  where
    go : (b : Bool) → (if b then None else Some t) ≡ Some s → Some t ≡ Some s
    go true e = absurd (cc)
    go false e = e

-- what holds of each value that was stored holds of each that is held
pub held_was_stored : (P : Kept → Type 0) (h : List BrickEvent) (key : SessionKey) (version : Version) (s : Kept) → AllStored P h → held h key version ≡ Some s → P s × (is_under key version s ≡ true)
held_was_stored P [] key version s all is = absurd (cc)
held_was_stored P (Crash ∷ h) key version s all is = absurd (cc)
held_was_stored P (Stored t ∷ h) key version s all is = go (is_under key version t) (held_was_stored P h key version s all.1) refl is
  where
    go : (b : Bool) → (held h key version ≡ Some s → P s × (is_under key version s ≡ true)) → is_under key version t ≡ b → (if b then Some t else held h key version) ≡ Some s → P s × (is_under key version s ≡ true)
    go true before under e =
        let same : t ≡ s = cc in
        let Q : Kept → Type 0 = λ u. P u × (is_under key version u ≡ true) in
        subst Q same (all.0, under)
    go false before under e = before e
held_was_stored P (Sweep moment ∷ h) key version s all is = held_was_stored P h key version s all (left_is moment (held h key version) s is)

-- A value that was stored is held until the brick crashes or sweeps late for it, where each value that was
-- stored under its key and version is this one.
pub held_on : (later earlier : List BrickEvent) (s : Kept)
    → AllStored (λ (t : Kept). is_under s.key s.version t ≡ true → t ≡ s) later
    → incarnation_after 1 (later ++ Stored s ∷ earlier) ≡ incarnation_after 1 earlier
    → has_late_sweep s.expiry later ≡ false
    → held (later ++ Stored s ∷ earlier) s.key s.version ≡ Some s
held_on [] earlier s all same quiet = rw (key_same s.key, version_same s.version) refl
held_on (Crash ∷ later) earlier s all same quiet = absurd (omega (arith, incarnation_grows (later ++ Stored s ∷ []) earlier, incarnation_grows later (Stored s ∷ earlier)))
held_on (Stored t ∷ later) earlier s all same quiet = go (is_under s.key s.version t) refl (held_on later earlier s all.1 same quiet)
  where
    go : (b : Bool) → is_under s.key s.version t ≡ b → held (later ++ Stored s ∷ earlier) s.key s.version ≡ Some s → (if b then Some t else held (later ++ Stored s ∷ earlier) s.key s.version) ≡ Some s
    go true under before = ap (λ u. Some u) (all.0 under)
    go false under before = before
held_on (Sweep moment ∷ later) earlier s all same quiet =
    let parts : (is_late moment s.expiry ≡ false) × (has_late_sweep s.expiry later ≡ false) = or_parts (is_late moment s.expiry) (has_late_sweep s.expiry later) quiet in
    let before : held (later ++ Stored s ∷ earlier) s.key s.version ≡ Some s = held_on later earlier s all same parts.1 in
    rw (before, parts.0) refl

pub stored_front : (P : Kept → Type 0) (later h : List BrickEvent) → AllStored P (later ++ h) → AllStored P later
stored_front P [] h all = tt
stored_front P (Stored s ∷ later) h all = (all.0, stored_front P later h all.1)
stored_front P (Sweep moment ∷ later) h all = stored_front P later h all
stored_front P (Crash ∷ later) h all = stored_front P later h all

pub stored_behind : (P : Kept → Type 0) (later h : List BrickEvent) → AllStored P (later ++ h) → AllStored P h
stored_behind P [] h all = all
stored_behind P (Stored s ∷ later) h all = stored_behind P later h all.1
stored_behind P (Sweep moment ∷ later) h all = stored_behind P later h all
stored_behind P (Crash ∷ later) h all = stored_behind P later h all

pub stored_weaker : (P Q : Kept → Type 0) (h : List BrickEvent) → ((s : Kept) → P s → Q s) → AllStored P h → AllStored Q h
stored_weaker P Q [] weaker all = tt
stored_weaker P Q (Stored s ∷ h) weaker all = (weaker s all.0, stored_weaker P Q h weaker all.1)
stored_weaker P Q (Sweep moment ∷ h) weaker all = stored_weaker P Q h weaker all
stored_weaker P Q (Crash ∷ h) weaker all = stored_weaker P Q h weaker all

-- the brick was swept at the greatest moment since its last crash, where that is late for an expiry
pub greatest_swept : (expiry : Moment) (h : List BrickEvent) → is_late (swept_after h) expiry ≡ true → WasSweptAt h (incarnation_after 1 h) (swept_after h)
greatest_swept expiry [] late = absurd (grind (arith, nat_tests))
greatest_swept expiry (Stored s ∷ h) late =
    let before : WasSweptAt h (incarnation_after 1 h) (swept_after h) = greatest_swept expiry h late in
    record { earlier = before.earlier; later = Stored s ∷ before.later; parts = ap (λ g. Stored s ∷ g) before.parts; incarnation_is = before.incarnation_is }
greatest_swept expiry (Crash ∷ h) late = absurd (grind (arith, nat_tests))
greatest_swept expiry (Sweep moment ∷ h) late = go (nat_lt (swept_after h).0 moment.0) (greatest_swept expiry h) late
  where
    go : (t : Bool) → (is_late (swept_after h) expiry ≡ true → WasSweptAt h (incarnation_after 1 h) (swept_after h)) → is_late (if t then moment else swept_after h) expiry ≡ true
        → WasSweptAt (Sweep moment ∷ h) (incarnation_after 1 h) (if t then moment else swept_after h)
    go true before e = record { earlier = h; later = []; parts = refl; incarnation_is = refl }
    go false before e =
        let there : WasSweptAt h (incarnation_after 1 h) (swept_after h) = before e in
        record { earlier = there.earlier; later = Sweep moment ∷ there.later; parts = ap (λ g. Sweep moment ∷ g) there.parts; incarnation_is = there.incarnation_is }

-- and at no later one
pub swept_before : (later earlier : List BrickEvent) (moment : Moment) → incarnation_after 1 (later ++ Sweep moment ∷ earlier) ≡ incarnation_after 1 earlier → moment.0 ≤ (swept_after (later ++ Sweep moment ∷ earlier)).0
swept_before [] earlier moment same = go (nat_lt (swept_after earlier).0 moment.0) refl
  where
    go : (t : Bool) → nat_lt (swept_after earlier).0 moment.0 ≡ t → moment.0 ≤ (if t then moment else swept_after earlier).0
    go true less = omega arith
    go false less = grind (arith, nat_tests)
swept_before (Stored s ∷ later) earlier moment same = swept_before later earlier moment same
swept_before (Crash ∷ later) earlier moment same = absurd (omega (arith, same, incarnation_grows later (Sweep moment ∷ earlier)))
swept_before (Sweep m ∷ later) earlier moment same = go (nat_lt (swept_after (later ++ Sweep moment ∷ earlier)).0 m.0) refl (swept_before later earlier moment same)
  where
    go : (t : Bool) → nat_lt (swept_after (later ++ Sweep moment ∷ earlier)).0 m.0 ≡ t → moment.0 ≤ (swept_after (later ++ Sweep moment ∷ earlier)).0
        → moment.0 ≤ (if t then m else swept_after (later ++ Sweep moment ∷ earlier)).0
    go true less before = grind (arith, nat_tests)
    go false less before = before

-- a late sweep among these events
pub record LateSweep (expiry : Moment) (h : List BrickEvent) : Type 0 where
  pub moment : Moment
  pub earlier : List BrickEvent
  pub later : List BrickEvent
  pub parts : h ≡ later ++ Sweep moment ∷ earlier
  pub late : is_late moment expiry ≡ true

behind : (expiry : Moment) (e : BrickEvent) (h : List BrickEvent) → LateSweep expiry h → LateSweep expiry (e ∷ h)
behind expiry e h there = record { moment = there.moment; earlier = there.earlier; later = e ∷ there.later; parts = ap (λ g. e ∷ g) there.parts; late = there.late }

pub late_sweep : (expiry : Moment) (h : List BrickEvent) → has_late_sweep expiry h ≡ true → LateSweep expiry h
late_sweep expiry [] has = absurd (cc)
late_sweep expiry (Stored s ∷ h) has = behind expiry (Stored s) h (late_sweep expiry h has)
late_sweep expiry (Crash ∷ h) has = behind expiry Crash h (late_sweep expiry h has)
late_sweep expiry (Sweep moment ∷ h) has = go (is_late moment expiry) refl has (late_sweep expiry h)
  where
    go : (b : Bool) → is_late moment expiry ≡ b → (b || has_late_sweep expiry h) ≡ true → (has_late_sweep expiry h ≡ true → LateSweep expiry h) → LateSweep expiry (Sweep moment ∷ h)
    go true late is rest = record { moment = moment; earlier = h; later = []; parts = refl; late = late }
    go false late is rest = behind expiry (Sweep moment) h (rest is)

pub late_among : (expiry : Moment) (later earlier : List BrickEvent) (moment : Moment) → is_late moment expiry ≡ true → has_late_sweep expiry (later ++ Sweep moment ∷ earlier) ≡ true
late_among expiry [] earlier moment late = ap (λ b. b || has_late_sweep expiry earlier) late
late_among expiry (e ∷ later) earlier moment late = go (is_late_sweep expiry e) (late_among expiry later earlier moment late)
  where
    go : (b : Bool) → has_late_sweep expiry (later ++ Sweep moment ∷ earlier) ≡ true → (b || has_late_sweep expiry (later ++ Sweep moment ∷ earlier)) ≡ true
    go true there = refl
    go false there = there

-- what stands in a history stands in a later one
pub stands_behind : (later h : List BrickEvent) (i : ℕ) (e : BrickEvent) → slice_get h i ≡ Some e → (j : ℕ) × (slice_get (later ++ h) j ≡ Some e)
stands_behind [] h i e is = (i, is)
stands_behind (d ∷ later) h i e is = let there = stands_behind later h i e is in (suc there.0, there.1)

-- no late sweep among all is none among the last ones
pub no_late_behind : (expiry : Moment) (later h : List BrickEvent) → has_late_sweep expiry (later ++ h) ≡ false → has_late_sweep expiry h ≡ false
no_late_behind expiry [] h none = none
no_late_behind expiry (e ∷ later) h none = go (is_late_sweep expiry e) (no_late_behind expiry later h) none
  where
    go : (a : Bool) → (has_late_sweep expiry (later ++ h) ≡ false → has_late_sweep expiry h ≡ false) → (a || has_late_sweep expiry (later ++ h)) ≡ false → has_late_sweep expiry h ≡ false
    go true before is = absurd (cc)
    go false before is = before is

-- where the incarnation grew a crash stands
pub crash_stands : (later h : List BrickEvent) → incarnation_after 1 h < incarnation_after 1 (later ++ h) → (i : ℕ) × (slice_get later i ≡ Some Crash)
crash_stands [] h grew = absurd (omega arith)
crash_stands (Stored s ∷ later) h grew = let there = crash_stands later h grew in (suc there.0, there.1)
crash_stands (Sweep moment ∷ later) h grew = let there = crash_stands later h grew in (suc there.0, there.1)
crash_stands (Crash ∷ later) h grew = (0, refl)
