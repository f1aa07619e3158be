-- What a connection put out: the responses to its items, and what has left for the request that is open.
use Rattle.std.specs.Prelude.{◌≡◌, ℕ, false, List, [], ◌∷◌, ◌++◌, map, take, All}
use Rattle.std.specs.List.{flat_map}
use Rattle.container_core.specs.History.{entries_in}
use Rattle.container_core.specs.declared.history.Event.{Event}
use Rattle.http_wire.specs.declared.taken.Head.{Head}
use Rattle.http_wire.specs.declared.taken.Taken.{Taken}
use Rattle.http_wire.specs.declared.taken.Taken.TheVariants.{Request, Bad, TooLong, NoCoding, BodyTooLong, More}
use Rattle.outcome_items.specs.Answers.{IsResponse, is_head_only}
use Rattle.outcome_items.specs.declared.item.Item.{Item}
use Rattle.request_visit.specs.Advancing.{IsItemOf}
use Rattle.request_visit.specs.Marks.{Marks}
use Rattle.request_visit.specs.Says.{Says}
use Rattle.request_visit.specs.Visits.{turn as visit_turn}
use Rattle.request_visit.specs.declared.visit.Turn.TheVariants as visit
use Rattle.request_visit.specs.declared.visit.Visit.{Visit}
use Rattle.send_windows.specs.declared.history.WindowMark.{WindowMark}
use Rattle.site_responses.specs.Responses.{last_response}
use Rattle.shepherd.specs.Standing.{has_left, last_of}
use Rattle.shepherd.specs.declared.shepherd.Shepherd.{Shepherd}
use Rattle.shepherd.specs.declared.shepherd.Stage.{Stage}
use Rattle.shepherd.specs.declared.shepherd.Stage.TheVariants.{Resting, Serving, Refusing, Over}

-- a request that was answered: its head, how it was at its end, its item, the marks that it left, and what was put out
-- for it
pub record Answered (P : Type 0) : Type 0 where
  pub head : Head
  pub visit : Visit P
  pub item : Item
  pub marks : List WindowMark
  pub sent : List ℕ

-- their heads
abbrev pub answered_heads : {P : Type 0} → List (Answered P) → List Head
answered_heads {P} answered = map (λ (a : Answered P). a.head) answered

-- their items
abbrev pub answered_items : {P : Type 0} → List (Answered P) → List Item
answered_items {P} answered = map (λ (a : Answered P). a.item) answered

-- what was put out for them
abbrev pub answered_bytes : {P : Type 0} → List (Answered P) → List ℕ
answered_bytes {P} answered = flat_map (λ (a : Answered P). a.sent) answered

-- A request is served for this head: whether the connection ends behind it, and whether its page is left out.
pub record IsForHead {P : Type 0} (head : Head) (v : Visit P) : Type 0 where
  pub close_is : v.facts.close ≡ head.close
  pub head_only_is : v.facts.head_only ≡ is_head_only head.method

-- A request that was answered says what became of it, as the history shows.
pub record SaidAll {P : Type 0} (key : List ℕ) (history : List Event) (a : Answered P) : Type 0 where
  pub over : visit_turn a.visit ≡ visit.Over
  pub is_item : IsItemOf a.visit a.visit.work a.item
  pub for_head : IsForHead a.head a.visit
  pub marks_are : Marks a.marks a.visit
  pub says : Says key history a.sent a.visit

-- The request that is open is the one of this head, and what has left for it says what became of it.
pub record SaysSo {P : Type 0} (key : List ℕ) (history : List Event) (opened : List Head) (sent : List ℕ) (v : Visit P) : Type 0 where
  pub head : Head
  pub opened_is : opened ≡ head ∷ []
  pub for_head : IsForHead head v
  pub marks : List WindowMark
  pub marks_are : Marks marks v
  pub says : Says key history sent v
  pub unsent : has_left v.work ≡ false → sent ≡ []

-- the same of a stage: where no request is open, nothing has left but the last response
abbrev pub StageSays : {P : Type 0} → List ℕ → List Event → List Head → List ℕ → Stage P → Type 0
StageSays key history opened sent Resting = (opened ≡ []) × (sent ≡ [])
StageSays key history opened sent (Serving v call) = SaysSo key history opened sent v
StageSays key history opened sent (Refusing why last) = (opened ≡ []) × (sent ≡ []) × (last ≡ last_response why)
StageSays key history opened sent (Over end) = (opened ≡ []) × (sent ≡ last_of end)

-- A connection answers the requests of these heads, in order: what it put out is what was put out for each, and what
-- has left for the one that is open, or at last for what is refused; and each says what became of its request.
pub record Answering {P : Type 0} (key : List ℕ) (history : List Event) (heads : List Head) (written : List ℕ) (items : List Item) (s : Shepherd P) : Type 0 where
  pub answered : List (Answered P)
  pub opened : List Head
  pub sent : List ℕ
  pub heads_are : heads ≡ answered_heads answered ++ opened
  pub items_are : items ≡ answered_items answered
  pub written_is : written ≡ answered_bytes answered ++ sent
  pub said : All (SaidAll key history) answered
  pub says : StageSays key history opened sent s.stage

-- the head that is taken off, if a request is
abbrev pub heads_in : Taken → List Head
heads_in (Request head) = head ∷ []
heads_in Bad = []
heads_in (TooLong len lines) = []
heads_in NoCoding = []
heads_in (BodyTooLong said) = []
heads_in More = []

-- a request with its item and the bytes that were put out for it
pub record Response : Type 0 where
  pub head : Head
  pub item : Item
  pub bytes : List ℕ

-- The bytes are the response to the item of the request, over the history as it was when the container was last held
-- for it.
abbrev pub Responds : List ℕ → List Event → Response → Type 0
Responds key history r = IsResponse key (entries_in (take r.item.holds.held history)) r.item r.head r.bytes

-- What was put out are the responses to these items, in order, each to the request of its head, and then these bytes.
pub record AreResponses (key : List ℕ) (history : List Event) (heads : List Head) (written : List ℕ) (items : List Item) (opened : List Head) (last : List ℕ) : Type 0 where
  pub responses : List Response
  pub heads_are : heads ≡ map (λ (r : Response). r.head) responses ++ opened
  pub items_are : items ≡ map (λ (r : Response). r.item) responses
  pub written_is : written ≡ flat_map (λ (r : Response). r.bytes) responses ++ last
  pub respond : All (Responds key history) responses
