-- What a connection has put out, and how it stands for its items.
use Rattle.std.specs.Prelude.{◌≡◌, ◌≢◌, ℕ, if◌then◌else◌, List, [], ◌∷◌, ◌++◌, length, Option, Some, None}
use Rattle.auction_calls.specs.declared.action.ActionCall.{ActionCall}
use Rattle.outcome_items.specs.declared.item.Item.{Item}
use Rattle.recovery_manager.specs.Kept.{ManagerValue}
use Rattle.seat_steps.specs.declared.seat.Seat.{Seat}
use Rattle.shepherd.specs.Standing.{has_left}
use Rattle.shepherd.specs.declared.shepherd.EndKind.{EndKind}
use Rattle.shepherd.specs.declared.shepherd.EndKind.TheVariants as ends
use Rattle.shepherd.specs.declared.shepherd.Stage.{Stage}
use Rattle.shepherd.specs.declared.shepherd.Stage.TheVariants.{Resting, Serving, Refusing, Over}
use Rattle.site_responses.specs.Responses.{last_response}
use Rattle.seat_lines.specs.Hearing.{decided_text, manager_after}
use Rattle.seat_lines.specs.Items.{PutOut, Reported, Said, outs_in}
use Rattle.seat_lines.specs.Texts.{gone_text, out_text}

-- what a connection puts out at last that ends so: the response to what is refused
abbrev pub last_outs : EndKind → List (List ℕ)
last_outs ends.Closed = []
last_outs ends.Cut = []
last_outs (ends.Refused why) = last_response why ∷ []
last_outs ends.OutOfMemory = []

-- what was put out behind the responses of the items: the one of the request that is open, if it has left, or that to
-- what is refused
abbrev pub IsSent : Stage ActionCall → List (List ℕ) → Type 0
IsSent Resting sent = sent ≡ []
IsSent (Serving v call) sent = length sent ≡ (if has_left v.work then 1 else 0)
IsSent (Refusing why last) sent = (sent ≡ []) × (last ≡ last_response why)
IsSent (Over end) sent = sent ≡ last_outs end

-- the same of a connection that is there; or of one that is gone and wrote how it ended: where memory ran out, nothing
-- is said of what it put out, and no connection goes so
abbrev pub IsSentBy : ℕ → Option Seat → List (List ℕ) → List ℕ → Type 0
IsSentBy n (Some seat) sent rest = IsSent seat.connection.stage sent × (rest ≡ [])
IsSentBy n None sent rest =
    (end : EndKind) × (rest ≡ gone_text n end) × (end ≢ ends.OutOfMemory → sent ≡ last_outs end)

-- A connection has put out as many responses as it has items, and what is sent behind them. Which response is whose is
-- in `SeatAnswers` of `seat_steps/specs/Answering.antt`.
pub record HasPutOut (n : ℕ) (outs : List (List ℕ)) (items : List Item) (seat : Option Seat) (rest : List ℕ) : Type 0 where
  pub responses : List (List ℕ)
  pub sent : List (List ℕ)
  pub outs_are : outs ≡ responses ++ sent
  pub each : length responses ≡ length items
  pub behind : IsSentBy n seat sent rest

-- what is written of what a connection says: the bytes that it puts out, and what the manager decides on its reports
abbrev pub said_text : ℕ → ManagerValue → List Said → List ℕ
said_text n m [] = []
said_text n m (PutOut bytes ∷ more) = out_text n bytes ++ said_text n m more
said_text n m (Reported report ∷ more) =
    decided_text m (Some report) ++ said_text n (manager_after m (Some report)) more

-- A line wrote what its connection said by it, with this manager before it, and how the connection ended, if it went;
-- and the connection has put out so much more.
pub record PutsOutMore (n : ℕ) (outs : List (List ℕ)) (items : List Item) (manager : ManagerValue) (more : List Said) (taken : List Item) (seat : Option Seat) (text : List ℕ) : Type 0 where
  pub rest : List ℕ
  pub text_is : text ≡ said_text n manager more ++ rest
  pub put_out : HasPutOut n (outs ++ outs_in more) (items ++ taken) seat rest

-- What was put out is as many responses as there are items, and at last what a connection puts out that ends so.
pub record HasAccounted (outs : List (List ℕ)) (items : List Item) : Type 0 where
  pub responses : List (List ℕ)
  pub end : EndKind
  pub outs_are : outs ≡ responses ++ last_outs end
  pub each : length responses ≡ length items
