-- What the keeper tells after the event of a step.
use Rattle.std.proofs.Common.{◌≡◌, ℕ, Bool, true, false, List, [], ◌∷◌, Option, ap, subst, sym}
use Rattle.auction_calls.specs.declared.action.ActionCall.{ActionCall}
use Rattle.boot_core.specs.Keeper.{kept_writes}
use Rattle.call_ticket.specs.declared.next.Answer.{Answer}
use Rattle.call_ticket.specs.declared.next.Next.{Next}
use Rattle.container_core.specs.Container.{ContainerValue}
use Rattle.crash_base.specs.declared.rows.RowWrite.{RowWrite}
use Rattle.outcome_items.specs.declared.item.Item.{Item}
use Rattle.outside.specs.Keeper.{KeeperTold}
use Rattle.outside.specs.declared.link.LinkEvent.{LinkEvent}
use Rattle.request_intake.specs.Intakes.{Gives, Looks}
use Rattle.request_visit.specs.Stepping.{VisitsInside}
use Rattle.request_visit.specs.declared.visit.Visit.{Visit}
use Rattle.shepherd.specs.Shepherds.{turn}
use Rattle.shepherd.specs.Steps.{OnVisit}
use Rattle.shepherd.specs.declared.shepherd.AskedCall.{AskedCall}
use Rattle.shepherd.specs.declared.shepherd.ShepherdTurn.{ShepherdTurn}
use Rattle.shepherd.specs.declared.shepherd.ShepherdTurn.TheVariants as turns
use Rattle.shepherd.specs.declared.shepherd.Stage.{Stage}
use Rattle.shepherd.specs.declared.shepherd.Stage.TheVariants.{Resting, Serving, Refusing, Over}
use Rattle.shepherd_steps.specs.Events.{handed_at_step, handed_at_turn, handed_on}
use Rattle.shepherd_steps.specs.Inside.{HasReplied, TellsReply, added_to, handed}
use Rattle.shepherd_steps.specs.Stepping.{Calling, Calls, Givens, MakesStep, world_of}
use Rattle.shepherd_steps.specs.Taking.{Counts}
use Rattle.shepherd_steps.proofs.Keepers.{keeper-told}

-- a step in the container, by how far the connection has come
inside-told : {P : Type 0} (asks : P → List Answer → Next) (keeps : Bool) (stage new : Stage P) (container after : ContainerValue)
    → OnVisit stage (λ (v : Visit P) (call : Option AskedCall). (w : Visit P) × VisitsInside asks v container w after × (new ≡ Serving w call))
    → OnVisit stage (λ (v : Visit P) (call : Option AskedCall). HasReplied keeps (handed asks v container.boot) (added_to container.since after.since))
    → TellsReply (handed_on asks stage container.boot) keeps container.told after.told
inside-told asks keeps Resting new container after steps replies = absurd steps
inside-told asks keeps (Serving v call) new container after steps replies =
    keeper-told asks keeps v steps.0 container after replies steps.1
inside-told asks keeps (Refusing why bytes) new container after steps replies = absurd steps
inside-told asks keeps (Over end) new container after steps replies = absurd steps

-- a keeper that keeps what it is handed tells just that
pub kept-all : (writes : List RowWrite) (keeps : Bool) (old new : Option KeeperTold) → TellsReply writes keeps old new → keeps ≡ true → new ≡ kept_writes writes old
kept-all [] keeps old new tells is = tells
kept-all (w ∷ ws) true old new tells is = tells
kept-all (w ∷ ws) false old new tells is = absurd (cc)

-- a keeper that is handed nothing tells nothing else
pub kept-none : (writes : List RowWrite) (keeps : Bool) (old new : Option KeeperTold) → TellsReply writes keeps old new → writes ≡ [] → new ≡ old
kept-none [] keeps old new tells is = tells
kept-none (w ∷ ws) keeps old new tells is = absurd (cc)

module _ {P L M C R S : Type 0} (makes : L → LinkEvent → L → Type 0) (opens : M → ActionCall → List ℕ → P → Type 0) (told : C → ℕ) (gives : Gives R) (looks : Looks S) (g : Givens P L)
    (drawn : Counts) (old new : Calling P L C R S) (bytes : List ℕ) where
  at-turn : (t : ShepherdTurn) → Calls makes opens told gives looks g t old new bytes
      → TellsReply (handed_at_turn g t (world_of old drawn)) g.keeps old.container.told new.container.told
  at-turn turns.Bytes calls = ap (λ (n : Calling P L C R S). n.container.told) calls.same
  at-turn turns.Request calls = ap (λ (n : Calling P L C R S). n.container.told) calls.rest
  at-turn turns.Outside calls = ap (λ (n : Calling P L C R S). n.container.told) calls.rest
  at-turn turns.Windows calls = ap (λ (n : Calling P L C R S). n.container.told) calls.rest
  at-turn turns.Inside calls =
      inside-told g.asks g.keeps old.connection.stage new.connection.stage old.container new.container calls.steps.steps calls.replies
  at-turn turns.Program calls = ap (λ (n : Calling P L C R S). n.container.told) calls.same
  at-turn turns.Own calls = ap (λ (n : Calling P L C R S). n.container.told) calls.same
  at-turn turns.Output calls = ap (λ (n : Calling P L C R S). n.container.told) calls.rest
  at-turn turns.Item calls = ap (λ (n : Calling P L C R S). n.container.told) calls.same
  at-turn (turns.Ended end) calls = ap (λ (n : Calling P L C R S). n.container.told) calls.same

  pub event-told : Calls makes opens told gives looks g (turn old.connection) old new bytes
      → TellsReply (handed_at_step g (world_of old drawn)) g.keeps old.container.told new.container.told
  unfolding handed_at_step
  event-told calls = at-turn (turn old.connection) calls

pub step-told : {P L M C R S : Type 0} (makes : L → LinkEvent → L → Type 0) (opens : M → ActionCall → List ℕ → P → Type 0) (told : C → ℕ) (gives : Gives R) (looks : Looks S) (g : Givens P L)
    (maker : M) (drawn : Counts) (old new : Calling P L C R S) (bytes : List ℕ) (items : List Item) → MakesStep makes opens told gives looks g maker old new bytes items
    → TellsReply (handed_at_step g (world_of old drawn)) g.keeps old.container.told new.container.told
step-told {P} {L} {M} {C} {R} {S} makes opens told gives looks g maker drawn old new bytes items made =
    subst (λ (n : Calling P L C R S). TellsReply (handed_at_step g (world_of old drawn)) g.keeps old.container.told n.container.told) (sym made.rest)
    (event-told makes opens told gives looks g drawn old made.mid bytes made.calls)
