-- A connection that went on by itself, at its turn and once more, has gone on until others are to step.
use Rattle.std.proofs.Common.{◌≡◌, ◌∙◌, ℕ, Bool, true, false, if◌then◌else◌, List, [], ◌∷◌, ◌++◌, refl, sym, ap, subst, append-nil}
use Rattle.auction_calls.specs.declared.action.ActionCall.{ActionCall}
use Rattle.auction_site.specs.Actions.{steps_of}
use Rattle.container_core.specs.Container.{ContainerValue}
use Rattle.crash_base.specs.declared.numbers.WorkerNo.{WorkerNo}
use Rattle.lane_link.specs.Links.{LaneLinkMakes}
use Rattle.outcome_items.specs.declared.item.Item.{Item}
use Rattle.request_visit.specs.Advancing.{Advances}
use Rattle.request_visit.specs.declared.visit.Visit.{Visit}
use Rattle.shepherd.specs.Going.{OpenGoesOn}
use Rattle.shepherd.specs.Shepherds.{stage_turn, turn}
use Rattle.shepherd.specs.Steps.{IfOpen, OpensStage, StepsVisit, TakesItem}
use Rattle.shepherd.specs.declared.shepherd.EndKind.TheVariants as ends
use Rattle.shepherd.specs.declared.shepherd.Shepherd.{Shepherd}
use Rattle.shepherd.specs.declared.shepherd.ShepherdTurn.{ShepherdTurn}
use Rattle.shepherd.specs.declared.shepherd.ShepherdTurn.TheVariants as turns
use Rattle.shepherd.specs.declared.shepherd.Stage.{Stage}
use Rattle.shepherd.specs.declared.shepherd.Stage.TheVariants.{Resting, Serving, Refusing, Over}
use Rattle.shepherd_steps.specs.Alone.{GoesAlone, GoesAloneThrough, HasCall, Making, alone, alone_at, goes_alone, gone_alone, own_stage}
use Rattle.shepherd_steps.specs.Leaving.{item_taken}
use Rattle.shepherd_steps.specs.Opening.{MakesJust, open_stage}
use Rattle.shepherd_steps.specs.Own.{own}
use Rattle.site_programs.specs.Errands.{IsMadeOf}
use Rattle.site_programs.specs.declared.maker.SiteMaker.{SiteMaker}
use Rattle.seat_steps.specs.Going.{GoesOnAtSeat, IsAccepted}
use Rattle.seat_steps.specs.Seats.{made_of}
use Rattle.seat_steps.specs.Stepped.{AloneAt, AloneIf, GoesAloneTwice}
use Rattle.seat_steps.proofs.Functions.{makes-just}

-- the laws by which each of these calls is a function
pub record AloneLaws : Type 0 where
  pub own_is : (key : List ℕ) (old new : Visit ActionCall) → Advances key old old.work new → new ≡ own key old
  pub open_is : (made : ActionCall → List ℕ × ActionCall) (maker : SiteMaker) (worker : WorkerNo) (old new : Stage ActionCall)
      → MakesJust (λ (m : SiteMaker). IsMadeOf) maker made → OpensStage (λ (m : SiteMaker). IsMadeOf) maker worker old new → new ≡ open_stage made worker old
  pub item_is : (i : Item) (s : Shepherd ActionCall) (stage : Stage ActionCall) → TakesItem s.stage i stage
      → (record s { front = i.holds.front; stage = stage }, i ∷ []) ≡ item_taken s
  pub rests : (m : Making ActionCall) (s : Shepherd ActionCall) → HasCall s.stage → goes_alone (turn (gone_alone m s).0) ≡ false

-- a connection whose turn is of others does nothing
still-of : (key : List ℕ) (worker : WorkerNo) (t : ShepherdTurn) (s new : Shepherd ActionCall) (items : List Item) → goes_alone t ≡ false → AloneAt key worker t s new items → (new ≡ s) × (items ≡ [])
still-of key worker t s new items never at = subst (λ (b : Bool). AloneIf b key worker t s new items) never at

-- one that goes on by itself makes its call
goes-of : (key : List ℕ) (worker : WorkerNo) (t : ShepherdTurn) (s new : Shepherd ActionCall) (items : List Item) → goes_alone t ≡ true → AloneAt key worker t s new items
    → GoesAlone (λ (m : SiteMaker). IsMadeOf) (record {}) worker key t s new items
goes-of key worker t s new items does at = subst (λ (b : Bool). AloneIf b key worker t s new items) does at

module _ (laws : AloneLaws) (key : List ℕ) (worker : WorkerNo) where
  abbrev making : Making ActionCall
  making = record { key = key; worker = worker; made = made_of }

  own-so : (stage new : Stage ActionCall) → StepsVisit (λ (v w : Visit ActionCall). Advances key v v.work w) stage new → new ≡ own_stage key stage
  own-so Resting new steps = absurd steps
  own-so (Serving v call) new steps = steps.2 ∙ ap (λ (w : Visit ActionCall). Serving w call) (laws.own_is key v steps.0 steps.1)
  own-so (Refusing why bytes) new steps = absurd steps
  own-so (Over end) new steps = absurd steps

  abbrev pair : Shepherd ActionCall → List Item → Shepherd ActionCall × List Item
  pair s items = (s, items)

  both-so : (s new : Shepherd ActionCall) (items : List Item) → (new ≡ s) × (items ≡ []) → pair new items ≡ pair s []
  both-so s new items same = ap (λ (x : Shepherd ActionCall). pair x items) same.0 ∙ ap (λ (i : List Item). pair s i) same.1

  at-stage : (s new : Shepherd ActionCall) (items : List Item) (stage : Stage ActionCall) → new ≡ record s { stage = new.stage } → new.stage ≡ stage → items ≡ []
      → pair new items ≡ pair (record s { stage = stage }) []
  at-stage s new items stage rest is none =
      both-so (record s { stage = stage }) new items (rest ∙ ap (λ (x : Stage ActionCall). let y : Shepherd ActionCall = record s { stage = x } in y) is, none)

  pub at-so : (t : ShepherdTurn) (s new : Shepherd ActionCall) (items : List Item) → AloneAt key worker t s new items → (new, items) ≡ alone_at making t s
  at-so turns.Bytes s new items at = both-so s new items at
  at-so turns.Request s new items at = both-so s new items at
  at-so turns.Outside s new items at = both-so s new items at
  at-so turns.Windows s new items at = both-so s new items at
  at-so turns.Inside s new items at = both-so s new items at
  at-so turns.Program s new items at =
      at-stage s new items (open_stage made_of worker s.stage) at.rest (laws.open_is made_of (record {}) worker s.stage new.stage (makes-just (record {})) at.opens) at.items_are
  at-so turns.Own s new items at = at-stage s new items (own_stage key s.stage) at.steps.rest (own-so s.stage new.stage at.steps.steps) at.items_are
  at-so turns.Output s new items at = both-so s new items at
  at-so turns.Item s new items at =
      ap (λ (x : Shepherd ActionCall). (x, items)) at.rest
      ∙ (ap (λ (i : List Item). let x : Shepherd ActionCall = record s { front = at.item.holds.front; stage = new.stage } in (x, i)) at.items_are
      ∙ laws.item_is at.item s new.stage at.takes)
  at-so (turns.Ended end) s new items at = both-so s new items at

  -- the connection then is what the function gives
  gone-so : (s new : Shepherd ActionCall) (items : List Item) → GoesAloneTwice key worker s new items → (new, items) ≡ gone_alone making s
  unfolding alone gone_alone
  gone-so s new items goes =
      ap (λ (i : List Item). (new, i)) goes.items_are
      ∙ (ap (λ (b : Shepherd ActionCall × List Item). (b.0, goes.first ++ b.1)) (at-so (turn goes.between) goes.between new goes.second goes.twice)
      ∙ ap (λ (a : Shepherd ActionCall × List Item). ((alone making a.0).0, a.1 ++ (alone making a.0).1)) (at-so (turn s) s goes.between goes.first goes.once))

  -- a connection whose turn is of others has gone nowhere
  stays : (s new : Shepherd ActionCall) (items : List Item) → GoesAloneTwice key worker s new items → goes_alone (turn s) ≡ false → (new ≡ s) × (items ≡ [])
  stays s new items goes never =
      let first = still-of key worker (turn s) s goes.between goes.first never goes.once in
      let second = still-of key worker (turn goes.between) goes.between new goes.second (ap (λ (x : Shepherd ActionCall). goes_alone (turn x)) first.0 ∙ never) goes.twice in
      (second.0 ∙ first.0, goes.items_are ∙ (ap (λ (i : List Item). i ++ goes.second) first.1 ∙ second.1))

  pub through : (s new : Shepherd ActionCall) (items : List Item) → GoesAloneTwice key worker s new items → goes_alone (turn new) ≡ false
      → (through : List (Shepherd ActionCall × List Item)) × GoesAloneThrough (λ (m : SiteMaker). IsMadeOf) (record {}) worker key through s new items
  through s new items goes ended = by (goes_alone (turn s)) refl where
    behind : goes_alone (turn s) ≡ true → (b : Bool) → goes_alone (turn goes.between) ≡ b
        → (through : List (Shepherd ActionCall × List Item)) × GoesAloneThrough (λ (m : SiteMaker). IsMadeOf) (record {}) worker key through s new items
    behind does false never =
        let second = still-of key worker (turn goes.between) goes.between new goes.second never goes.twice in (
          (goes.between, goes.first) ∷ [],
          (
            [],
            goes-of key worker (turn s) s goes.between goes.first does goes.once,
            (never, second.0, refl),
            goes.items_are ∙ ap (λ (i : List Item). goes.first ++ i) second.1,
          ),
        )
    behind does true again = (
      (goes.between, goes.first) ∷ (new, goes.second) ∷ [],
      (
        goes.second,
        goes-of key worker (turn s) s goes.between goes.first does goes.once,
        ([], goes-of key worker (turn goes.between) goes.between new goes.second again goes.twice, (ended, refl, refl), sym (append-nil goes.second)),
        goes.items_are,
      ),
    )

    by : (b : Bool) → goes_alone (turn s) ≡ b → (through : List (Shepherd ActionCall × List Item)) × GoesAloneThrough (λ (m : SiteMaker). IsMadeOf) (record {}) worker key through s new items
    by false never = let same = stays s new items goes never in ([], (never, same.0, same.1))
    by true does = behind does (goes_alone (turn goes.between)) refl

  has-call : (container : ContainerValue) (stage : Stage ActionCall) → IfOpen stage (OpenGoesOn IsAccepted steps_of LaneLinkMakes container) → HasCall stage
  has-call container Resting opened = tt
  has-call container (Serving v call) opened = opened.asked
  has-call container (Refusing why bytes) opened = tt
  has-call container (Over end) opened = tt

  -- others are to step, or it has ended
  pub ended : (container : ContainerValue) (s new : Shepherd ActionCall) (items : List Item) → GoesOnAtSeat container s → GoesAloneTwice key worker s new items → goes_alone (turn new) ≡ false
  ended container s new items on goes = by s.wants_memory refl where
    by : (b : Bool) → s.wants_memory ≡ b → goes_alone (turn new) ≡ false
    by true wants =
        let never : goes_alone (turn s) ≡ false = ap (λ (b : Bool). goes_alone (if b then turns.Ended ends.OutOfMemory else stage_turn s.stage s.received s.ended)) wants in
        ap (λ (x : Shepherd ActionCall). goes_alone (turn x)) (stays s new items goes never).0 ∙ never
    by false wants =
        ap (λ (z : Shepherd ActionCall × List Item). goes_alone (turn z.0)) (gone-so s new items goes)
        ∙ laws.rests making s (has-call container s.stage (on.goes_on wants).opened)
