-- What an event does with the lanes: its own call takes a turn, or none does; and the windows change.
use Rattle.std.proofs.Common.{◌≡◌, ◌⊎◌, inl, inr, ◌∙◌, ℕ, ◌==◌, Bool, true, false, List, [], ◌∷◌, ◌++◌, Option, Some, None, refl, sym, ap, subst}
use Rattle.std.specs.Prelude.{slice_get}
use Rattle.std.proofs.lemmas.List.Elements.{All-cons, All-nil}
use Rattle.lane_link.specs.Twins.{ByEvents, IsTwin, NoneTurns}
use Rattle.send_windows.specs.Windows.{WindowsValue}
use Rattle.session_lanes.specs.Lanes.{LanesState}
use Rattle.session_lanes.specs.Sound.{LanesAreSound}
use Rattle.session_lanes.specs.Steps.{LanesStep, TakesTurn, after_steps, is_turn_of}
use Rattle.session_way.specs.declared.way.SessionWay.{SessionWay}
use Rattle.ssm_world.proofs.Tests.{same_number}
use Rattle.ssm_world.specs.Worlds.{WorldValue, after, step}
use Rattle.ssm_world.specs.declared.event.WorldEvent.{WorldEvent}
use Rattle.seat_laws.specs.Standing.{AreApart}

-- only the call of a twin takes a turn, and once at most
abbrev pub OwnTurns : Option ℕ → List LanesStep → Type 0
OwnTurns None steps = steps ≡ []
OwnTurns (Some n) steps = (steps ≡ []) ⊎ (steps ≡ TakesTurn n ∷ [])

-- Lanes came to others: by turns of this twin, and with other windows.
pub record Moves (st : LanesState) (twin : Option ℕ) (mid : LanesState) : Type 0 where
  pub steps : List LanesStep
  pub windows : WindowsValue
  pub own : OwnTurns twin steps
  pub is : mid ≡ record (after_steps st steps) { windows = windows }

none-own : (twin : Option ℕ) → OwnTurns twin []
none-own None = refl
none-own (Some n) = inl refl

-- lanes of which only the windows change
pub rests-moves : (st : LanesState) (twin : Option ℕ) (windows : WindowsValue) → Moves st twin (record st { windows = windows })
rests-moves st twin windows = record { steps = []; windows = windows; own = none-own twin; is = refl }

-- the world is the same where there is no twin
pub same-world : (st mid : LanesState) → Moves st None mid → mid.world ≡ st.world
same-world st mid moves = ap (λ (l : LanesState). l.world) moves.is ∙ ap (λ (steps : List LanesStep). (after_steps st steps).world) moves.own

-- a step is no turn of a call
abbrev pub NotOf : ℕ → LanesStep → Type 0
NotOf n = λ (s : LanesStep). is_turn_of n s ≡ false

pub none-of : (n : ℕ) → NoneTurns n []
none-of n = All-nil (NotOf n)

pub one-of : (n : ℕ) (s : LanesStep) → NotOf n s → NoneTurns n (s ∷ [])
one-of n s is = All-cons (NotOf n) s [] is (All-nil (NotOf n))

-- the laws of lanes
pub record MoveLaws : Type 0 where
  pub sound : (st : LanesState) (steps : List LanesStep) → LanesAreSound st → LanesAreSound (after_steps st steps)
  pub windowed : (st : LanesState) (windows : WindowsValue) → LanesAreSound st → LanesAreSound (record st { windows = windows })
  pub events : (st : LanesState) (steps : List LanesStep) → ByEvents st (after_steps st steps)
  pub stays : (st : LanesState) (steps : List LanesStep) (number : ℕ) (to : SessionWay) → LanesAreSound st → IsTwin st number to → NoneTurns number steps → IsTwin (after_steps st steps) number to

-- the twin of a way by the world alone
pub on-world : (st later : LanesState) (n : ℕ) (to : SessionWay) → later.world ≡ st.world → IsTwin st n to → IsTwin later n to
on-world st later n to same twin = record {
  held = twin.held;
  holds = twin.holds;
  there = ap (λ (w : WorldValue). slice_get w.calls n) same ∙ twin.there;
}

-- events after events
pub events-on : (st mid later : LanesState) → ByEvents st mid → ByEvents mid later → ByEvents st later
events-on st mid later first second =
    (first.0 ++ second.0, second.1 ∙ (ap (λ (w : WorldValue). after w second.0) first.1 ∙ sym (all-after first.0 st.world second.0))) where
      all-after : (a : List WorldEvent) (w : WorldValue) (b : List WorldEvent) → after w (a ++ b) ≡ after (after w a) b
      all-after [] w b = refl
      all-after (e ∷ a) w b = all-after a (step w e) b

module _ (laws : MoveLaws) (st mid : LanesState) (twin : Option ℕ) (sound : LanesAreSound st) (moves : Moves st twin mid) where
  pub moves-sound : LanesAreSound mid
  moves-sound = subst LanesAreSound (sym moves.is) (laws.windowed (after_steps st moves.steps) moves.windows (laws.sound st moves.steps sound))

  pub moves-events : ByEvents st mid
  moves-events = let e = laws.events st moves.steps in (e.0, ap (λ (l : LanesState). l.world) moves.is ∙ e.1)

  differs : (n m : ℕ) → (n ≡ m → ⊥) → (b : Bool) → (n == m) ≡ b → (n == m) ≡ false
  differs n m apart true is = absurd (apart (same_number n m is))
  differs n m apart false is = is

  none-turns : (other : Option ℕ) (n : ℕ) → other ≡ Some n → AreApart twin other → (twin' : Option ℕ) → twin ≡ twin' → OwnTurns twin' moves.steps → NoneTurns n moves.steps
  none-turns other n is apart None same own = subst (NoneTurns n) (sym own) (All-nil (NotOf n))
  none-turns other n is apart (Some m) same own = elim own [
    | inl none ↦ subst (NoneTurns n) (sym none) (All-nil (NotOf n))
    | inr turn ↦ subst (NoneTurns n) (sym turn) (one-of n (TakesTurn m) (differs m n (λ e. apart m same (is ∙ ap (λ (x : ℕ). Some x) (sym e))) (m == n) refl))
  ]

  -- a twin that is no part of these turns stays
  pub other-stays : (n : ℕ) (to : SessionWay) → AreApart twin (Some n) → IsTwin st n to → IsTwin mid n to
  other-stays n to apart is =
      on-world (after_steps st moves.steps) mid n to (ap (λ (l : LanesState). l.world) moves.is)
      (laws.stays st moves.steps n to sound is (none-turns (Some n) n refl apart twin refl moves.own))
