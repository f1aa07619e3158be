-- The connection behind the event of a step that is made is the one that the function gives.
use Rattle.std.proofs.Common.{◌≡◌, ◌∙◌, ℕ, ◌+◌, ◌<◌, ◌%◌, ◌^◌, List, [], sym, ap, arith, add-zero}
use Rattle.std.proofs.Math.Nat.{mod-eq_of_lt}
use Rattle.auction_calls.specs.declared.action.ActionCall.{ActionCall}
use Rattle.container_core.specs.Container.{ContainerValue}
use Rattle.http_wire.specs.declared.taken.Head.{Head}
use Rattle.lane_link.specs.Links.{LaneLinkMakes}
use Rattle.lane_link.specs.declared.link.LaneLink.{LaneLink}
use Rattle.outside.specs.Clock.{PlainClockValue}
use Rattle.outside.specs.Random.{PlainGives}
use Rattle.outside.specs.Serials.{PlainLooks}
use Rattle.request_decisions.specs.Decisions.{IsDecided}
use Rattle.session_lanes.specs.Lanes.{LanesState}
use Rattle.shepherd.specs.Shepherds.{turn}
use Rattle.shepherd.specs.declared.shepherd.Shepherd.{Shepherd}
use Rattle.shepherd_steps.specs.Deciding.{ReadRightly, Readings, decided_by}
use Rattle.shepherd_steps.specs.Events.{event_of}
use Rattle.shepherd_steps.specs.Stepping.{AreFunctions, Calls, Givens, Leaves, World, world_of}
use Rattle.shepherd_steps.specs.Taking.{AreInTurn, Counts}
use Rattle.site_programs.specs.Errands.{IsMadeOf}
use Rattle.site_programs.specs.declared.maker.SiteMaker.{SiteMaker}
use Rattle.seat_steps.specs.Seats.{SeatGivens, SeatWorld, behind_event, givens_in, numbers_from, readings_under}
use Rattle.seat_steps.specs.Stepped.{MakesEvent, SeatCalling, calling, clock_told, world_from}
use Rattle.seat_steps.specs.declared.seat.NextDraws.{NextDraws}
use Rattle.seat_steps.specs.declared.seat.Seat.{Seat}
use Rattle.seat_steps.proofs.Functions.{CookieLaw, NoneLaw, TokenLaw, lane-answers, makes-just, reads-rightly}

-- the words and the serial numbers from these on, by how many were drawn
abbrev pub words_from : ℕ → ℕ → ℕ
words_from word = λ n. (word + n) % (2 ^ 64)

abbrev pub serials_from : ℕ → ℕ → ℕ
serials_from serial = λ n. serial + n

-- the laws by which the event of a step is a function
pub record EventLaws : Type 0 where
  pub event_is : (g : Givens ActionCall LaneLink) (maker : SiteMaker) (words serials : ℕ → ℕ) (drawn : Counts) (old mid : SeatCalling) (bytes : List ℕ)
      → AreFunctions {C = PlainClockValue} LaneLinkMakes (λ (m : SiteMaker). IsMadeOf) clock_told PlainGives PlainLooks g maker words serials
      → old.random ≡ words drawn.words → old.serials ≡ serials drawn.serials
      → Calls LaneLinkMakes (λ (m : SiteMaker). IsMadeOf) clock_told PlainGives PlainLooks g (turn old.connection) old mid bytes
      → Leaves words serials mid bytes [] (event_of g (world_of old drawn))
  pub in_turn : (word serial : ℕ) → AreInTurn PlainGives PlainLooks (words_from word) (serials_from serial) (numbers_from word serial)
  pub decided : (key : List ℕ) (readings : Readings) (boot : ℕ) (head : Head) → ReadRightly key readings → IsDecided key boot head (decided_by readings boot head)
  pub cookies : CookieLaw
  pub none : NoneLaw
  pub tokens : TokenLaw

-- a word is the first of those from it on
pub first-word : (word : ℕ) → word < 2 ^ 64 → word ≡ (word + 0) % (2 ^ 64)
first-word word small =
    sym (mod-eq_of_lt {n = word + 0} {m = 2 ^ 64} (let p : word + 0 < 2 ^ 64 = omega (arith, small) in p) ∙ add-zero word)

module _ (laws : EventLaws) (g : SeatGivens) (seat : Seat) (container : ContainerValue) (lanes : LanesState) (next : NextDraws) where
  abbrev link : LaneLink
  link = record { lanes = lanes; active = seat.twin }

  abbrev world : SeatWorld
  world = world_from container lanes next

  -- What the step of a connection is given are functions.
  pub functions : (maker : SiteMaker) → AreFunctions {C = PlainClockValue} LaneLinkMakes (λ (m : SiteMaker). IsMadeOf) clock_told PlainGives PlainLooks (givens_in g world) maker (words_from next.word) (serials_from next.serial)
  functions maker = record {
    answers = lane-answers;
    decides = λ head. laws.decided g.key (readings_under g.key) container.boot.start.boot head (reads-rightly laws.cookies laws.none laws.tokens g.key);
    in_turn = laws.in_turn next.word next.serial;
    made = makes-just maker;
  }

  -- The connection is the one that the function gives.
  pub mid-is : next.word < 2 ^ 64 → (bytes : List ℕ) (mid : Shepherd ActionCall) (after : ContainerValue) (link_after : LaneLink) (next_after : NextDraws)
      → MakesEvent g seat.connection container link next bytes mid after link_after next_after → mid ≡ behind_event g seat world
  mid-is small bytes mid after link_after next_after event =
      let leaves = laws.event_is (givens_in g world) (record {}) (words_from next.word) (serials_from next.serial) (record { words = 0; serials = 0 }) (calling g.now seat.connection container link next) event.mid bytes
      (functions (record {})) (first-word next.word small) (omega arith) event.calls in
      sym event.connection_is ∙ ap (λ (x : World ActionCall LaneLink). x.connection) leaves.world_is
