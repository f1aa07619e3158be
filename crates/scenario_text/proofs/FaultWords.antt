-- What a component does that fails, and what cures it: what one word says, and what spells it.
use Rattle.std.proofs.Common.{◌≡◌, ℕ, Bool, true, false, cond, List, Some, None, codes, refl}
use Rattle.std.specs.Str.{bytes_eq}
use Rattle.std.proofs.lemmas.Slice.Eq.{bytes_eq-Decides}
use Rattle.crash_base.specs.declared.fault_plans.FaultKind.{FaultKind}
use Rattle.crash_base.specs.declared.fault_plans.FaultKind.TheVariants.{Raise, Hang, Leak}
use Rattle.scenario_text.specs.declared.head_line.CureLevel.{CureLevel}
use Rattle.scenario_text.specs.declared.head_line.CureLevel.TheVariants.{Group, App, Process}
use Rattle.scenario_text.specs.Fields.{kind_of, level_of}
use Rattle.scenario_text.specs.FieldSpelling.{IsKind, kind_word, level_word}
use Rattle.scenario_text.proofs.Splits.{is_whole}

-- a word that says what a component does that fails is the word for it
pub kind_spelled : (word : List ℕ) (kind : FaultKind) → kind_of word ≡ Some kind → (word ≡ kind_word kind) × IsKind kind
kind_spelled word kind h = raise (bytes_eq word (codes "raise")) refl h
  where
    hang : (b : Bool) → bytes_eq word (codes "hang") ≡ b → cond b (Some Hang) None ≡ Some kind → (word ≡ kind_word kind) × IsKind kind
    hang true e k = let same : Hang ≡ kind = cc in rw (← same) ((bytes_eq-Decides word (codes "hang")).0 e, tt)
    hang false e k = cc

    raise : (b : Bool) → bytes_eq word (codes "raise") ≡ b → cond b (Some Raise) (cond (bytes_eq word (codes "hang")) (Some Hang) None) ≡ Some kind → (word ≡ kind_word kind) × IsKind kind
    raise true e k = let same : Raise ≡ kind = cc in rw (← same) ((bytes_eq-Decides word (codes "raise")).0 e, tt)
    raise false e k = hang (bytes_eq word (codes "hang")) refl k

-- and that word says it
pub kind_read : (kind : FaultKind) → IsKind kind → kind_of (kind_word kind) ≡ Some kind
kind_read Raise h = refl
kind_read Hang h = refl
kind_read Leak h = absurd h

-- it has no space
pub kind_whole : (kind : FaultKind) → IsKind kind → is_whole (kind_word kind) ≡ true
kind_whole Raise h = refl
kind_whole Hang h = refl
kind_whole Leak h = refl

-- a word that says what cures a fault is the word for it
pub level_spelled : (word : List ℕ) (level : CureLevel) → level_of word ≡ Some level → (word ≡ level_word level) × Unit {0}
level_spelled word level h = group (bytes_eq word (codes "group")) refl h
  where
    process : (b : Bool) → bytes_eq word (codes "process") ≡ b → cond b (Some Process) None ≡ Some level → (word ≡ level_word level) × Unit {0}
    process true e k = let same : Process ≡ level = cc in rw (← same) ((bytes_eq-Decides word (codes "process")).0 e, tt)
    process false e k = cc

    app : (b : Bool) → bytes_eq word (codes "app") ≡ b → cond b (Some App) (cond (bytes_eq word (codes "process")) (Some Process) None) ≡ Some level → (word ≡ level_word level) × Unit {0}
    app true e k = let same : App ≡ level = cc in rw (← same) ((bytes_eq-Decides word (codes "app")).0 e, tt)
    app false e k = process (bytes_eq word (codes "process")) refl k

    group : (b : Bool) → bytes_eq word (codes "group") ≡ b → cond b (Some Group) (cond (bytes_eq word (codes "app")) (Some App) (cond (bytes_eq word (codes "process")) (Some Process) None)) ≡ Some level → (word ≡ level_word level) × Unit {0}
    group true e k = let same : Group ≡ level = cc in rw (← same) ((bytes_eq-Decides word (codes "group")).0 e, tt)
    group false e k = app (bytes_eq word (codes "app")) refl k

-- and that word says it
pub level_read : (level : CureLevel) → level_of (level_word level) ≡ Some level
level_read Group = refl
level_read App = refl
level_read Process = refl

-- it has no space
pub level_whole : (level : CureLevel) → is_whole (level_word level) ≡ true
level_whole Group = refl
level_whole App = refl
level_whole Process = refl
