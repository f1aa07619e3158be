-- The cookies that are shown in a step that is made have texts.
use Rattle.std.proofs.Common.{◌≡◌, ℕ, ◌<◌, ◌^◌, List, refl, ap, subst}
use Rattle.auction_calls.specs.declared.action.ActionCall.{ActionCall}
use Rattle.container_core.specs.Container.{ContainerValue}
use Rattle.crash_base.specs.declared.numbers.WorkerNo.{WorkerNo}
use Rattle.outcome_items.specs.declared.item.Item.{Item}
use Rattle.request_visit.specs.Advancing.{Advances}
use Rattle.request_visit.specs.declared.visit.Visit.{Visit}
use Rattle.request_visit.specs.declared.visit.Work.{Work}
use Rattle.request_visit.specs.declared.visit.Work.TheVariants.{Reading, Opening, Serving as ServingBy, Committed, Decided, Answered, Left}
use Rattle.session_lanes.specs.Lanes.{LanesState}
use Rattle.shepherd.specs.Shepherds.{turn}
use Rattle.shepherd.specs.Steps.{StepsVisit}
use Rattle.shepherd.specs.declared.shepherd.Shepherd.{Shepherd}
use Rattle.shepherd.specs.declared.shepherd.ShepherdTurn.{ShepherdTurn}
use Rattle.shepherd.specs.declared.shepherd.Stage.{Stage}
use Rattle.shepherd.specs.declared.shepherd.Stage.TheVariants.{Resting, Serving, Refusing, Over}
use Rattle.shepherd_steps.specs.Alone.{DoesOwn, alone}
use Rattle.seat_steps.proofs.BehindEvents.{EventLaws, mid-is}
use Rattle.seat_steps.proofs.GoneAlone.{AloneLaws, at-so}
use Rattle.seat_steps.proofs.OwnSaid.{advance-texts}
use Rattle.seat_steps.specs.Answering.{ShowsAt, ShowsText, ShowsTexts, StageShows}
use Rattle.seat_steps.specs.Seats.{SeatGivens, SeatOutcome, behind_event, making_by}
use Rattle.seat_steps.specs.Stepped.{AloneAt, MakesCalls, draws_in, world_from}
use Rattle.seat_steps.specs.declared.seat.NextDraws.{NextDraws}
use Rattle.seat_steps.specs.declared.seat.Seat.{Seat}

-- a connection that goes on by what its request does tells a text of the cookie that it shows
own-told : (key : List ℕ) (worker : WorkerNo) (s new : Shepherd ActionCall) (items : List Item) → AloneAt key worker (turn s) s new items → ShowsText key s
own-told key worker s new items at = λ turn_is.
    let own : DoesOwn key s new items = subst (λ (t : ShepherdTurn). AloneAt key worker t s new items) turn_is at in by s.stage own.steps.steps where
      shows : (v w : Visit ActionCall) → Advances key v v.work w → (x : Work ActionCall) → v.work ≡ x → ShowsAt key v.way x
      shows v w advances Reading was = tt
      shows v w advances Opening was = tt
      shows v w advances (ServingBy tries program) was = tt
      shows v w advances (Committed place again shown) was = advance-texts key v w advances place again shown was
      shows v w advances (Decided became) was = tt
      shows v w advances (Answered fate bytes) was = tt
      shows v w advances (Left fate) was = tt

      by : (x : Stage ActionCall) → StepsVisit (λ (y z : Visit ActionCall). Advances key y y.work z) x new.stage → StageShows key x
      by Resting steps = tt
      by (Serving v call) steps = shows v steps.0 steps.1 v.work refl
      by (Refusing why bytes) steps = tt
      by (Over end) steps = tt

module _ (alone_laws : AloneLaws) (events : EventLaws) (g : SeatGivens) (seat : Seat) (container : ContainerValue) (lanes : LanesState) (next : NextDraws) (word : next.word < 2 ^ 64)
    (new : ContainerValue) (o : SeatOutcome) (calls : MakesCalls g seat container (world_from container lanes next) new o) where
  between-is : calls.alone.between ≡ (alone (making_by g) calls.mid).0
  unfolding alone
  between-is = ap (λ (p : Shepherd ActionCall × List Item). p.0) (at-so alone_laws g.key g.worker (turn calls.mid) calls.mid calls.alone.between calls.alone.first calls.alone.once)

  -- The cookies that a step shows that is made have texts.
  pub made-shows : ShowsTexts g seat (world_from container lanes next)
  made-shows =
      let is : calls.mid ≡ behind_event g seat (world_from container lanes next) = mid-is events g seat container lanes next word o.bytes calls.mid new calls.link (draws_in o.world) calls.made in
      record {
        first = subst (λ (x : Shepherd ActionCall). ShowsText g.key x) is (own-told g.key g.worker calls.mid calls.alone.between calls.alone.first calls.alone.once);
        second = subst (λ (x : Shepherd ActionCall). ShowsText g.key (alone (making_by g) x).0) is
            (subst (λ (x : Shepherd ActionCall). ShowsText g.key x) between-is (own-told g.key g.worker calls.alone.between o.seat.connection calls.alone.second calls.alone.twice));
      }
