-- The order in which a commit is refused.
use Rattle.std.proofs.Common.{◌≡◌, ◌↔◌, [], ◌∷◌, Option, Some, None, option_map, refl, subst}
use Rattle.crash_base.specs.declared.numbers.Place.{Place}
use Rattle.crash_base.specs.Refusals.{first_of}
use Rattle.journal_model.specs.declared.conflict.Conflict.{Conflict}
use Rattle.journal_model.specs.declared.limits.FullAt.{FullAt}
use Rattle.journal_model.specs.declared.stale.Stale.{Stale}
use Rattle.boot_core.specs.declared.refusals.CommitRefusal.{CommitRefusal}
use Rattle.boot_core.specs.declared.refusals.CommitRefusal.TheVariants as commits
use Rattle.boot_core.specs.Keeper.{IsOfKeeper}
use Rattle.boot_core.specs.Refusals.{IsCause, IsFirstOf, IsTested}

-- two answers that are one are of one value
pub some_same : {A : Type 0} (a b : A) → Some a ≡ Some b → a ≡ b
some_same a b is = cc

-- the first of the four parts
abbrev first_part : Option Place → Option Stale → Option Conflict → Option FullAt → Option CommitRefusal
first_part already stale conflict full =
    first_of (option_map (λ (place : Place). commits.Already place) already
    ∷ option_map (λ (s : Stale). commits.Revoked s) stale
    ∷ option_map (λ (c : Conflict). commits.Conflict c) conflict
    ∷ option_map (λ (at : FullAt). commits.JournalFull at) full
    ∷ [])

is_first : (already : Option Place) (stale : Option Stale) (conflict : Option Conflict) (full : Option FullAt) (cause : CommitRefusal) → first_part already stale conflict full ≡ Some cause → IsFirstOf already stale conflict full cause
is_first (Some place) stale conflict full cause is =
    subst (IsFirstOf (Some place) stale conflict full) (some_same (commits.Already place) cause is) refl
is_first None (Some s) conflict full cause is =
    subst (IsFirstOf None (Some s) conflict full) (some_same (commits.Revoked s) cause is) (refl, refl)
is_first None None (Some c) full cause is =
    subst (IsFirstOf None None (Some c) full) (some_same (commits.Conflict c) cause is) (refl, refl, refl)
is_first None None None (Some at) cause is =
    subst (IsFirstOf None None None (Some at)) (some_same (commits.JournalFull at) cause is) (refl, refl, refl, refl)
is_first None None None None cause is = absurd (cc)

comes_first : (already : Option Place) (stale : Option Stale) (conflict : Option Conflict) (full : Option FullAt) (cause : CommitRefusal) → IsFirstOf already stale conflict full cause → first_part already stale conflict full ≡ Some cause
comes_first already stale conflict full commits.OutOfMemory is = absurd is
comes_first already stale conflict full commits.KeeperFailed is = absurd is
comes_first already stale conflict full (commits.Already place) is = rw is refl
comes_first already stale conflict full (commits.Revoked s) is = rw (is.0, is.1) refl
comes_first already stale conflict full (commits.Conflict c) is = rw (is.0, is.1, is.2) refl
comes_first already stale conflict full (commits.JournalFull at) is = rw (is.0, is.1, is.2, is.3) refl

pub first_is : (already : Option Place) (stale : Option Stale) (conflict : Option Conflict) (full : Option FullAt) (cause : CommitRefusal) → (first_part already stale conflict full ≡ Some cause) ↔ IsFirstOf already stale conflict full cause
first_is already stale conflict full cause =
    (is_first already stale conflict full cause, comes_first already stale conflict full cause)

no_part : (already : Option Place) (stale : Option Stale) (conflict : Option Conflict) (full : Option FullAt) → first_part already stale conflict full ≡ None → (already ≡ None) × (stale ≡ None) × (conflict ≡ None) × (full ≡ None)
no_part (Some place) stale conflict full none = absurd (cc)
no_part None (Some s) conflict full none = absurd (cc)
no_part None None (Some c) full none = absurd (cc)
no_part None None None (Some at) none = absurd (cc)
no_part None None None None none = (refl, refl, refl, refl)

pub none_is : (already : Option Place) (stale : Option Stale) (conflict : Option Conflict) (full : Option FullAt) → (first_part already stale conflict full ≡ None) ↔ ((already ≡ None) × (stale ≡ None) × (conflict ≡ None) × (full ≡ None))
none_is already stale conflict full = (no_part already stale conflict full, λ none. rw (none.0, none.1, none.2, none.3) refl)

-- the cause of a refused commit: one that has a test is the first refusal, and one of the keeper comes where there is
-- none

pub tested_cause : (o : Option CommitRefusal) (cause : CommitRefusal) → o ≡ Some cause → IsTested cause → IsCause o cause
tested_cause o commits.OutOfMemory is tested = absurd tested
tested_cause o commits.KeeperFailed is tested = absurd tested
tested_cause o (commits.Already place) is tested = is
tested_cause o (commits.Revoked s) is tested = is
tested_cause o (commits.Conflict c) is tested = is
tested_cause o (commits.JournalFull at) is tested = is

pub keeper_cause : (o : Option CommitRefusal) (cause : CommitRefusal) → o ≡ None → IsOfKeeper cause → IsCause o cause
keeper_cause o commits.OutOfMemory none of = none
keeper_cause o commits.KeeperFailed none of = none
keeper_cause o (commits.Already place) none of = absurd of
keeper_cause o (commits.Revoked s) none of = absurd of
keeper_cause o (commits.Conflict c) none of = absurd of
keeper_cause o (commits.JournalFull at) none of = absurd of
