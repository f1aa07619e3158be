-- What turns add to the history of a brick.
use Rattle.std.proofs.Common.{◌≡◌, ◌⊎◌, inl, inr, ℕ, zero, suc, ◌+◌, Bool, false, cond, if◌then◌else◌, List, [], ◌∷◌, ◌++◌, Some, refl, sym, ap, ◌∙◌, subst, arith, append_assoc}
use Rattle.std.specs.Prelude.{slice_get}
use Rattle.std.proofs.lemmas.List.Sums.{sum_by-append}
use Rattle.crash_base.specs.declared.numbers.BrickNo.{BrickNo}
use Rattle.crash_base.specs.declared.numbers.Moment.{Moment}
use Rattle.brick_store.specs.declared.kept.Kept.{Kept}
use Rattle.brick_store.specs.declared.event.BrickEvent.{BrickEvent}
use Rattle.brick_store.specs.declared.event.BrickEvent.TheVariants as happened
use Rattle.brick_store.specs.History.{incarnation_after, swept_after}
use Rattle.ssm_world.specs.Sound.{Grows}
use Rattle.ssm_world.specs.Worlds.{WorldValue, history}
use Rattle.ssm_world.proofs.Histories.{stands_behind}
use Rattle.ssm_world.proofs.Lists.{get_front}
use Rattle.ssm_world.proofs.Steps.{after_stays}
use Rattle.session_steps.specs.Promise.{SessionTurn, is_crash_of, crashes, moment_after, sweep_by, Sweeps, later_of, swept_over}
use Rattle.session_lanes.proofs.Ending.{OnlyStores, stores_incarnation, stores_swept, MadeBy, made_on}
use Rattle.session_lanes.proofs.Histories.{AreNew, OnlyGrew, Stores}
use Rattle.session_steps.proofs.Ended.{HasEndedCall, ended_later, new_unhad}

-- Newer events of a brick are those that turns make, from this present moment on: each of its crashes, each of its
-- sweeps at its moment, and what it stored.
pub record Went (now : Moment) (brick : ℕ) (turns : List SessionTurn) (newer : List BrickEvent) : Type 0 where
  pub crashed : (h : List BrickEvent) → incarnation_after 1 (newer ++ h) ≡ incarnation_after 1 h + crashes brick turns
  pub swept : (moment : Moment) (i : ℕ) → slice_get newer i ≡ Some (happened.Sweep moment) → Sweeps now brick moment turns
  pub sweeps : (moment : Moment) → Sweeps now brick moment turns → (i : ℕ) × (slice_get newer i ≡ Some (happened.Sweep moment))
  pub greatest : (h : List BrickEvent) → swept_after (newer ++ h) ≡ swept_over now brick (swept_after h) turns

-- No call that has ended stored any of these events' values: each has a version that is the nonce of none.
abbrev pub AreUnended : WorldValue → List BrickEvent → Type 0
AreUnended w newer = (i : ℕ) (s : Kept) → slice_get newer i ≡ Some (happened.Stored s) → HasEndedCall w s.version → ⊥

pub new_are_unended : (w : WorldValue) (newer : List BrickEvent) → AreNew w newer → AreUnended w newer
new_are_unended w newer new i s at had = new_unhad w s.version (new i s at) (had.0, had.1, had.2, had.3)

-- a history, to which turns made these events be added
pub record Gone (now : Moment) (turns : List SessionTurn) (w : WorldValue) (brick : BrickNo) (g : List BrickEvent) : Type 0 where
  pub earlier : List BrickEvent
  pub newer : List BrickEvent
  pub history_is : history w brick ≡ Some earlier
  pub parts : g ≡ newer ++ earlier
  pub went : Went now brick.0 turns newer
  pub unended : AreUnended w newer

-- Turns lead from a world to another: by events, which are those of the turns in the history of each brick.
pub record Goes (now : Moment) (turns : List SessionTurn) (w v : WorldValue) : Type 0 where
  pub by : MadeBy w v
  pub each : (brick : BrickNo) (g : List BrickEvent) → history v brick ≡ Some g → Gone now turns w brick g

pub crashes_one : (brick : ℕ) (turn : SessionTurn) → crashes brick (turn ∷ []) ≡ cond (is_crash_of brick turn) 1 0
crashes_one brick turn = omega arith

crashes_more : (brick : ℕ) (turn : SessionTurn) (turns : List SessionTurn) → crashes brick (turn ∷ turns) ≡ cond (is_crash_of brick turn) 1 0 + crashes brick turns
crashes_more brick turn turns = omega (arith, sum_by-append (λ t. cond (is_crash_of brick t) 1 0) (turn ∷ []) turns, crashes_one brick turn)

-- a turn that neither crashes a brick nor sweeps one
pub record IsQuiet (now : Moment) (turn : SessionTurn) : Type 0 where
  pub crash : (brick : ℕ) → is_crash_of brick turn ≡ false
  pub sweep : (brick : ℕ) → sweep_by now brick turn ≡ []

pub no_sweep : (now : Moment) (brick : ℕ) (moment : Moment) (turn : SessionTurn) → sweep_by now brick turn ≡ [] → Sweeps now brick moment (turn ∷ []) → ⊥
no_sweep now brick moment turn none (inl is) = let clash : moment ∷ [] ≡ [] = sym is ∙ none in cc
no_sweep now brick moment turn none (inr later) = later

only_swept : (newer : List BrickEvent) (i : ℕ) (moment : Moment) → OnlyStores newer → slice_get newer i ≡ Some (happened.Sweep moment) → ⊥
only_swept [] i moment only is = cc
only_swept (happened.Stored s ∷ newer) zero moment only is = cc
only_swept (happened.Stored s ∷ newer) (suc i) moment only is = only_swept newer i moment only is
only_swept (happened.Sweep m ∷ newer) i moment only is = only
only_swept (happened.Crash ∷ newer) i moment only is = only

-- a turn that does not crash a brick may sweep it
pub uncrashed_swept : (now : Moment) (brick : ℕ) (turn : SessionTurn) (so_far : Moment) → is_crash_of brick turn ≡ false → swept_over now brick so_far (turn ∷ []) ≡ later_of so_far (sweep_by now brick turn)
uncrashed_swept now brick turn so_far uncrashed = ap (λ b. if b then record { 0 = 0 } else later_of so_far (sweep_by now brick turn)) uncrashed

-- a quiet turn adds values at most that were stored
went_quiet : (now : Moment) (brick : ℕ) (turn : SessionTurn) (newer : List BrickEvent) → IsQuiet now turn → OnlyStores newer → Went now brick (turn ∷ []) newer
went_quiet now brick turn newer quiet only =
    let count : Bool → ℕ = λ b. cond b 1 0 in
    let none : count (is_crash_of brick turn) ≡ count false = ap count (quiet.crash brick) in
    record {
      crashed = λ h. omega (arith, stores_incarnation 1 newer h only, crashes_one brick turn, none);
      swept = λ moment i is. absurd (only_swept newer i moment only is);
      sweeps = λ moment does. absurd (no_sweep now brick moment turn (quiet.sweep brick) does);
      greatest = λ h. stores_swept newer h only ∙ sym (uncrashed_swept now brick turn (swept_after h) (quiet.crash brick) ∙ ap (later_of (swept_after h)) (quiet.sweep brick));
    }

-- a history, to which values were added at most that calls stored which had not ended
pub record StoredOn (w : WorldValue) (brick : BrickNo) (g : List BrickEvent) : Type 0 where
  pub earlier : List BrickEvent
  pub newer : List BrickEvent
  pub history_is : history w brick ≡ Some earlier
  pub parts : g ≡ newer ++ earlier
  pub only : OnlyStores newer
  pub unended : AreUnended w newer

-- each history is so
abbrev pub StoresOn : WorldValue → WorldValue → Type 0
StoresOn w v = (brick : BrickNo) (g : List BrickEvent) → history v brick ≡ Some g → StoredOn w brick g

pub stores_on : (w v : WorldValue) → Stores w v → StoresOn w v
stores_on w v stores brick g is =
    let grew : OnlyGrew w brick g = stores.each brick g is in
    record {
      earlier = grew.earlier;
      newer = grew.newer;
      history_is = grew.history_is;
      parts = grew.parts;
      only = grew.only;
      unended = new_are_unended w grew.newer grew.new;
    }

-- by a quiet turn
pub goes_stored : (now : Moment) (turn : SessionTurn) (w v : WorldValue) → IsQuiet now turn → MadeBy w v → StoresOn w v → Goes now (turn ∷ []) w v
goes_stored now turn w v quiet by stores = record {
  by = by;
  each = λ brick g is. (
      let grew : StoredOn w brick g = stores brick g is in
      record {
        earlier = grew.earlier;
        newer = grew.newer;
        history_is = grew.history_is;
        parts = grew.parts;
        went = went_quiet now brick.0 turn grew.newer quiet grew.only;
        unended = grew.unended;
      });
}

pub goes_quiet : (now : Moment) (turn : SessionTurn) (w v : WorldValue) → IsQuiet now turn → MadeBy w v → Stores w v → Goes now (turn ∷ []) w v
goes_quiet now turn w v quiet by stores = goes_stored now turn w v quiet by (stores_on w v stores)

-- no turns add nothing
went_none : (now : Moment) (brick : ℕ) → Went now brick [] []
went_none now brick = record {
  crashed = λ h. omega arith;
  swept = λ moment i is. absurd (cc);
  sweeps = λ moment does. absurd does;
  greatest = λ h. refl;
}

pub goes_none : (now : Moment) (w : WorldValue) → Goes now [] w w
goes_none now w = record {
  by = ([], refl);
  each = λ brick g is. record { earlier = g; newer = []; history_is = is; parts = refl; went = went_none now brick.0; unended = λ i s at had. absurd (cc) };
}

-- what stands in two parts stands in one
in_front : {A : Type 0} (xs ys : List A) (i : ℕ) (x : A) → slice_get (xs ++ ys) i ≡ Some x → ((j : ℕ) × (slice_get xs j ≡ Some x)) ⊎ ((j : ℕ) × (slice_get ys j ≡ Some x))
in_front [] ys i x is = inr (i, is)
in_front (z ∷ xs) ys zero x is = inl (0, is)
in_front (z ∷ xs) ys (suc i) x is = elim (in_front xs ys i x is) [ inl a ↦ inl (suc a.0, a.1) | inr b ↦ inr b ]

-- one turn, and then others
went_on : (now : Moment) (brick : ℕ) (turn : SessionTurn) (turns : List SessionTurn) (newer newest : List BrickEvent)
    → Went now brick (turn ∷ []) newer → Went (moment_after now turn) brick turns newest → Went now brick (turn ∷ turns) (newest ++ newer)
went_on now brick turn turns newer newest first second = record {
  crashed = λ h. (
      let parts : incarnation_after 1 ((newest ++ newer) ++ h) ≡ incarnation_after 1 (newest ++ (newer ++ h)) = ap (incarnation_after 1) (append_assoc newest newer h) in
      omega (arith, parts, first.crashed h, second.crashed (newer ++ h), crashes_one brick turn, crashes_more brick turn turns));
  swept = λ moment i is. elim (in_front newest newer i (happened.Sweep moment) is) [
    | inl new ↦ inr (second.swept moment new.0 new.1)
    | inr old ↦ elim (first.swept moment old.0 old.1) [ inl by ↦ inl by | inr none ↦ absurd none ]
  ];
  sweeps = λ moment does. elim does [
    | inl by ↦ (let there = first.sweeps moment (inl by) in stands_behind newest newer there.0 (happened.Sweep moment) there.1)
    | inr later ↦ (let there = second.sweeps moment later in (there.0, get_front newest newer there.0 (happened.Sweep moment) there.1))
  ];
  greatest = λ h.
      ap swept_after (append_assoc newest newer h) ∙ second.greatest (newer ++ h) ∙ ap (λ so_far. swept_over (moment_after now turn) brick so_far turns) (first.greatest h);
}

-- a world has grown that events made of another
pub made_grows : (w v : WorldValue) → MadeBy w v → Grows w v
made_grows w v by = subst (λ x. Grows w x) (sym by.1) (after_stays w w by.0).grows

-- values that calls stored which had not ended, over two worlds
pub unended_on : (u v : WorldValue) (newest newer : List BrickEvent) → MadeBy u v → AreUnended v newest → AreUnended u newer → AreUnended u (newest ++ newer)
unended_on u v newest newer by second first i s at had = elim (in_front newest newer i (happened.Stored s) at) [
  | inl new ↦ second new.0 s new.1 (ended_later u v s.version by had)
  | inr old ↦ first old.0 s old.1 had
]

pub goes_on : (now : Moment) (turn : SessionTurn) (turns : List SessionTurn) (u v w : WorldValue) → Goes now (turn ∷ []) u v → Goes (moment_after now turn) turns v w → Goes now (turn ∷ turns) u w
goes_on now turn turns u v w first second = record {
  by = made_on u v w first.by second.by;
  each = λ brick g is. (
      let b : Gone (moment_after now turn) turns v brick g = second.each brick g is in
      let a : Gone now (turn ∷ []) u brick b.earlier = first.each brick b.earlier b.history_is in
      record {
        earlier = a.earlier;
        newer = b.newer ++ a.newer;
        history_is = a.history_is;
        parts = b.parts ∙ ap (λ h. b.newer ++ h) a.parts ∙ sym (append_assoc b.newer a.newer a.earlier);
        went = went_on now brick.0 turn turns a.newer b.newer a.went b.went;
        unended = unended_on u v b.newer a.newer first.by b.unended a.unended;
      });
}
