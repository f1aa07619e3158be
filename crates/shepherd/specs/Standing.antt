-- What is so of a connection at any time: over the bytes that were fed to it, those that it put out, and the items that
-- were taken.
use Rattle.std.specs.Prelude.{◌≡◌, ◌≢◌, ℕ, ◌<◌, Bool, true, false, if◌then◌else◌, List, [], ◌∷◌, ◌++◌, map, Option, None}
use Rattle.std.specs.List.{flat_map}
use Rattle.crash_base.specs.declared.numbers.Place.{Place}
use Rattle.http_wire.specs.Requests.{Ending, Requests, bad, body_too_long, closed, cut, ended, no_coding, requests, too_long}
use Rattle.http_wire.specs.declared.taken.Head.{Head}
use Rattle.outcome_items.specs.Answers.{is_head_only}
use Rattle.outcome_items.specs.declared.item.Item.{Item}
use Rattle.outside.specs.declared.clock.TheConstants.{MOMENTS_END}
use Rattle.request_visit.specs.declared.visit.Visit.{Visit}
use Rattle.request_visit.specs.declared.visit.Work.{Work}
use Rattle.request_visit.specs.declared.visit.Work.TheVariants.{Reading, Opening, Serving as ServingBy, Committed, Decided, Answered, Left}
use Rattle.site_responses.specs.Responses.{last_response}
use Rattle.site_responses.specs.declared.answer.Untaken.{Untaken}
use Rattle.site_responses.specs.declared.answer.Untaken.TheVariants as untaken
use Rattle.shepherd.specs.declared.shepherd.AskedCall.{AskedCall}
use Rattle.shepherd.specs.declared.shepherd.EndKind.{EndKind}
use Rattle.shepherd.specs.declared.shepherd.EndKind.TheVariants as ends
use Rattle.shepherd.specs.declared.shepherd.Shepherd.{Shepherd}
use Rattle.shepherd.specs.declared.shepherd.Stage.{Stage}
use Rattle.shepherd.specs.declared.shepherd.Stage.TheVariants.{Resting, Serving, Refusing, Over}

-- a request that was served: its head, its item, and the bytes that were put out for it
pub record Served : Type 0 where
  pub head : Head
  pub item : Item
  pub response : List ℕ

-- the heads of these
abbrev pub heads_of : List Served → List Head
heads_of served = map (λ (x : Served). x.head) served

-- their items
abbrev pub items_of : List Served → List Item
items_of served = map (λ (x : Served). x.item) served

-- what was put out for them
abbrev pub responses_of : List Served → List ℕ
responses_of served = flat_map (λ (x : Served). x.response) served

-- requests behind these
abbrev pub all_before : List Head → Requests → Requests
all_before heads behind = record { heads = heads ++ behind.heads; ending = behind.ending }

-- how requests end at what is refused
abbrev pub ending_at : Untaken → Ending
ending_at untaken.Bad = bad
ending_at untaken.TooLong = too_long
ending_at untaken.BodyTooLong = body_too_long
ending_at untaken.NoCoding = no_coding

-- how they end where the connection ended so
abbrev pub ending_of : EndKind → Ending
ending_of ends.Closed = closed
ending_of ends.Cut = cut
ending_of (ends.Refused why) = ending_at why
ending_of ends.OutOfMemory = cut

-- the last response of a connection that ended so, if it has one
abbrev pub last_of : EndKind → List ℕ
last_of ends.Closed = []
last_of ends.Cut = []
last_of (ends.Refused why) = last_response why
last_of ends.OutOfMemory = []

-- the requests that are still to be taken, where these bytes are left and still to come
abbrev pub coming : {P : Type 0} → Stage P → List ℕ → Requests
coming Resting bytes = requests bytes
coming (Serving v call) bytes = if v.facts.close then ended closed else requests bytes
coming (Refusing why last) bytes = ended (ending_at why)
coming (Over end) bytes = ended (ending_of end)

-- whether the response of a request has left
abbrev pub has_left : {P : Type 0} → Work P → Bool
has_left Reading = false
has_left Opening = false
has_left (ServingBy tries program) = false
has_left (Committed place again shown) = false
has_left (Decided became) = false
has_left (Answered fate bytes) = false
has_left (Left fate) = true

-- whether the program of a request is still to be made, if it is to be served
abbrev pub is_early : {P : Type 0} → Work P → Bool
is_early Reading = true
is_early Opening = true
is_early (ServingBy tries program) = false
is_early (Committed place again shown) = false
is_early (Decided became) = false
is_early (Answered fate bytes) = false
is_early (Left fate) = false

-- The request that is open is the one of this head, behind an item with this front; this was put out for it, and its
-- call is there until its program is made.
pub record IsOpenFor {P : Type 0} (front : Place) (v : Visit P) (call : Option AskedCall) (opened : List Head) (sent : List ℕ) : Type 0 where
  pub head : Head
  pub opened_is : opened ≡ head ∷ []
  pub close_is : v.facts.close ≡ head.close
  pub head_only_is : v.facts.head_only ≡ is_head_only head.method
  pub front_is : v.facts.front ≡ front
  pub small : v.facts.now.0 < MOMENTS_END
  pub sent_is : has_left v.work ≡ false → sent ≡ []
  pub asked : is_early v.work ≡ true → call ≢ None

-- The requests that are open, one at most, and what was put out behind the last response to an item.
abbrev pub IsOpen : {P : Type 0} → Place → Stage P → List Head → List ℕ → Type 0
IsOpen front Resting opened sent = (opened ≡ []) × (sent ≡ [])
IsOpen front (Serving v call) opened sent = IsOpenFor front v call opened sent
IsOpen front (Refusing why last) opened sent = (opened ≡ []) × (sent ≡ []) × (last ≡ last_response why)
IsOpen front (Over end) opened sent = (opened ≡ []) × (sent ≡ last_of end)

-- the front of the last of these items, or else this
abbrev pub last_front : Place → List Item → Place
last_front front [] = front
last_front front (i ∷ items) = last_front i.holds.front items

-- A connection stands for the requests of these heads: whatever bytes follow, the requests of all bytes are those, in
-- order, and then those of what is left and of what follows. They are those of its items, each once and in order, and
-- the one that is open. And what it put out is the responses of those, in order, and what has left for the one that is
-- open, or at last for what is refused.
pub record Standing {P : Type 0} (fed : List ℕ) (heads : List Head) (written : List ℕ) (items : List Item) (s : Shepherd P) : Type 0 where
  pub served : List Served
  pub opened : List Head
  pub sent : List ℕ
  pub heads_are : heads ≡ heads_of served ++ opened
  pub items_are : items ≡ items_of served
  pub requests_are : (more : List ℕ) → requests (fed ++ more) ≡ all_before (heads_of served ++ opened) (coming s.stage (s.received ++ more))
  pub written_is : written ≡ responses_of served ++ sent
  pub is_open : IsOpen s.front s.stage opened sent
  pub front_is : s.front ≡ last_front (record { 0 = 0 }) items

-- A connection has ended so: its items are for all requests of its bytes, and all their responses were put out, with
-- the last one of what is refused.
pub record HasServedAll (fed written : List ℕ) (items : List Item) (end : EndKind) : Type 0 where
  pub served : List Served
  pub items_are : items ≡ items_of served
  pub requests_are : requests fed ≡ record { heads = heads_of served; ending = ending_of end }
  pub written_is : written ≡ responses_of served ++ last_of end

-- A connection has served the first requests of its bytes, whatever bytes follow.
pub record HasServedFirst (fed written : List ℕ) (items : List Item) (more : List ℕ) : Type 0 where
  pub served : List Served
  pub behind : List Head
  pub last : List ℕ
  pub items_are : items ≡ items_of served
  pub requests_are : (requests (fed ++ more)).heads ≡ heads_of served ++ behind
  pub written_is : written ≡ responses_of served ++ last
