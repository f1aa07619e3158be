-- What an item tells of the request that it is for, as a reader of a connection's items wants it.
use Rattle.std.specs.Prelude.{◌≡◌, ◌⊎◌, ◌≤◌, ℕ, true, List, [], ◌∷◌, ◌++◌, length, map, take, All, Option, Some, None, Ok, Err}
use Rattle.auction_calls.specs.declared.action.ActionCall.{ActionCall}
use Rattle.auction_rows.specs.Session.{session_user}
use Rattle.boot_core.specs.declared.boot.Start.{Start}
use Rattle.call_ticket.specs.Runs.{Makes}
use Rattle.call_ticket.specs.declared.next.Answer.{Answer}
use Rattle.call_ticket.specs.declared.next.Next.{Next}
use Rattle.container_core.specs.History.{entries_in}
use Rattle.container_core.specs.declared.history.Event.{Event}
use Rattle.container_core.specs.declared.history.Event.TheVariants.{Added}
use Rattle.crash_base.specs.declared.numbers.Moment.{Moment}
use Rattle.crash_base.specs.declared.numbers.Place.{Place}
use Rattle.crash_base.specs.declared.numbers.Version.{Version}
use Rattle.http_wire.specs.declared.taken.Head.{Head}
use Rattle.journal_model.specs.Rows.{rows_after}
use Rattle.journal_model.specs.declared.entry.CommitEntry.{CommitEntry}
use Rattle.journal_model.specs.declared.entry.DoneText.{DoneText}
use Rattle.journal_model.specs.declared.entry.Entry.TheVariants.{Commit}
use Rattle.outcome_items.specs.declared.item.Item.{Item}
use Rattle.outcome_items.specs.declared.outcome.ItemOutcome.{ItemOutcome}
use Rattle.outcome_items.specs.declared.outcome.ItemOutcome.TheVariants as item
use Rattle.outside.specs.declared.link.LinkEvent.{LinkEvent}
use Rattle.request_decisions.specs.Counts.{ascends}
use Rattle.request_decisions.specs.Drawing.{HasDrawn}
use Rattle.request_decisions.specs.declared.draws.Draw.{Draw}
use Rattle.request_intake.specs.Intakes.{Gives, Looks}
use Rattle.request_intake.specs.declared.intake.Admission.{Admission}
use Rattle.request_intake.specs.declared.intake.Arrival.TheVariants.{Admitted}
use Rattle.request_tries.specs.Ends.{Errand, page_of}
use Rattle.request_visit.specs.Accounts.{Became}
use Rattle.request_visit.specs.Sessions.{ReadsTo, TellsSession}
use Rattle.request_visit.specs.declared.facts.VisitFacts.{VisitFacts}
use Rattle.session_cookie.specs.declared.cookie.Cookie.{Cookie}
use Rattle.ssm_stub.specs.Reads.{read_start}
use Rattle.ssm_stub.specs.declared.read_call.ReadRefusal.{ReadRefusal}
use Rattle.shepherd.specs.Accounting.{trace_in}
use Rattle.shepherd.specs.declared.shepherd.Shepherd.{Shepherd}
use Rattle.served_items.specs.Attributing.{Attributing, BecameBy, IsErrandOf, Service, TakenIn, WasTakenIn, drawn_for_all, facts_by, taken_heads, moments_of, read_by}

-- An item is for the request that was taken in so. It has its number and its moment. What it tells of its session is
-- what came of the read of its own cookie, and of a write under its own key and with its own nonce. And this became of
-- it, as the history shows: what it asked of the container has its number, and was made of its own call, as the user of
-- the session that was read asks for it.
pub record IsItemFor {P L : Type 0} (asks : P → List Answer → Next) (calls : L → LinkEvent → L → Type 0) (makes : ActionCall → List ℕ → P → Type 0) (came : TakenIn → Type 0) (start : Start) (history : List Event) (t : TakenIn) (i : Item) : Type 0 where
  pub came_so : came t
  pub facts : VisitFacts
  pub facts_are : facts ≡ facts_by facts.front t.head t.intake.now t.intake.arrival
  pub number_is : i.request ≡ facts.request
  pub moment_is : i.moment ≡ t.intake.now
  pub session : TellsSession calls (read_by t.intake.now t.intake.arrival) facts (entries_in (take i.holds.held history)) i
  pub errand : Errand
  pub became : Became start history errand facts i.holds (trace_in history i) i.outcome
  pub became_by : BecameBy t.intake.arrival (λ a. IsErrandOf asks makes i.value errand a) i.outcome

-- the same of a connection of a service
abbrev pub IsServedFor : {P L M R S : Type 0} → (P → List Answer → Next) → (L → LinkEvent → L → Type 0) → (M → ActionCall → List ℕ → P → Type 0) → Gives R → Looks S → Service M → Start → List Event → TakenIn → Item → Type 0
IsServedFor asks calls makes gives looks service start history t i =
    IsItemFor asks calls (makes service.maker) (WasTakenIn gives looks service.key service.home) start history t i

-- an item that was served: how its request was taken in, and the item
pub record ServedItem : Type 0 where
  pub taken : TakenIn
  pub item : Item

-- The items of a connection are for its requests, in order: the heads are theirs, and then that of the request that is
-- open; what was drawn was drawn for them, in order; and no moment is less than the earliest one or the one before it,
-- or more than the latest one.
pub record AreServed {P L M R S : Type 0} (asks : P → List Answer → Next) (calls : L → LinkEvent → L → Type 0) (makes : M → ActionCall → List ℕ → P → Type 0) (gives : Gives R) (looks : Looks S) (service : Service M) (start : Start) (history : List Event) (heads : List Head) (drawn : List Draw) (earliest latest : ℕ) (items : List Item) : Type 0 where
  pub served : List ServedItem
  pub opened : List TakenIn
  pub one_open : length opened ≤ 1
  pub heads_are : heads ≡ taken_heads (map (λ (x : ServedItem). x.taken) served ++ opened)
  pub drawn_are : drawn ≡ drawn_for_all (map (λ (x : ServedItem). x.taken) served ++ opened)
  pub items_are : items ≡ map (λ (x : ServedItem). x.item) served
  pub rise : ascends (earliest ∷ (map (λ (i : Item). i.moment.0) items ++ (moments_of opened ++ latest ∷ []))) ≡ true
  pub each : All (λ (x : ServedItem). IsServedFor asks calls makes gives looks service start history x.taken x.item) served

-- The value of a session that was read is what that read answered, by the cookie and the nonce; and there is none where
-- there is no cookie.
abbrev pub IsValueRead : {L : Type 0} → (L → LinkEvent → L → Type 0) → Moment → Version → Option Cookie → Option (List ℕ) → Type 0
IsValueRead calls now nonce None value = value ≡ None
IsValueRead calls now nonce (Some cookie) value =
    (bytes : List ℕ) × (value ≡ Some bytes) × ReadsTo calls (read_start now nonce cookie) (Ok bytes)

-- A session was read by a cookie and a nonce, and refused for this.
abbrev pub IsReadGone : {L : Type 0} → (L → LinkEvent → L → Type 0) → Moment → Version → Option Cookie → ReadRefusal → Type 0
IsReadGone calls now nonce None why = ⊥
IsReadGone calls now nonce (Some cookie) why = ReadsTo calls (read_start now nonce cookie) (Err why)

-- A call is that of an admission, by the user of a session with this value: nobody where there is none, and else the
-- one that the value names.
pub record IsCallOf (a : Admission) (value : Option (List ℕ)) (call : ActionCall) : Type 0 where
  pub same : call ≡ record a.call { user = call.user }
  pub nobody : value ≡ None → call.user ≡ 0
  pub somebody : (bytes : List ℕ) → value ≡ Some bytes → call.user ≡ session_user bytes

-- the place of the entry of a request, if it is committed
abbrev pub committed_at : ItemOutcome → Option Place
committed_at (item.Refused why) = None
committed_at (item.SerialsSpent seen) = None
committed_at (item.Expired now expiry) = None
committed_at (item.Lost causes) = None
committed_at (item.Ended end) = page_of end
committed_at (item.Overload place again full) = Some place
committed_at (item.Missed place again causes) = Some place

-- The request of an item that came to the container had this text and this program, made of its own call.
pub record IsOfOwnCall {P : Type 0} (makes : ActionCall → List ℕ → P → Type 0) (t : TakenIn) (i : Item) (text : List ℕ) (program : P) : Type 0 where
  pub admission : Admission
  pub arrived : t.intake.arrival ≡ Admitted admission
  pub number_is : i.request ≡ Some admission.request
  pub call : ActionCall
  pub call_is : IsCallOf admission i.value call
  pub made : makes call text program

-- A request that no earlier call of it had committed has its own entry, which was the last event when the container
-- left it: under the item's number and with the text of its own call, made by the program of that call over the rows
-- just before the entry. Its call had begun no earlier than the container was first held for it.
pub record HasOwnEntry {P : Type 0} (asks : P → List Answer → Next) (makes : ActionCall → List ℕ → P → Type 0) (start : Start) (history : List Event) (t : TakenIn) (i : Item) : Type 0 where
  pub text : List ℕ
  pub program : P
  pub made_of : IsOfOwnCall makes t i text program
  pub before : List Event
  pub entry : CommitEntry
  pub done : DoneText
  pub last : take i.holds.held history ≡ before ++ Added (Commit entry) ∷ []
  pub place : Place
  pub committed : committed_at i.outcome ≡ Some place
  pub place_is : place.0 ≡ length (entries_in before)
  pub number_is : i.request ≡ Some entry.request
  pub action_is : entry.action ≡ Some (record { text = text; done = done })
  pub since : i.holds.from.0 ≤ entry.at.0
  pub runs : Makes start.deployment (asks program) (rows_after start.base (entries_in before)) entry done

-- What a connection takes off its bytes is the next request, if one is taken: it draws these numbers, one after
-- another, and looks at a serial number last where that is spent; and the connection attributes its items with it.
pub record AttributesNext {P L M R S : Type 0} (asks : P → List Answer → Next) (calls : L → LinkEvent → L → Type 0) (makes : M → ActionCall → List ℕ → P → Type 0) (gives : Gives R) (looks : Looks S) (service : Service M) (start : Start) (history : List Event) (heads : List Head) (drawn : List Draw) (earliest latest : ℕ) (items : List Item) (new : Shepherd P) (random random_after : R) (serials serials_after : S) : Type 0 where
  pub more : List Draw
  pub mid : S
  pub drew : HasDrawn looks gives serials random more mid random_after
  pub looked : (serials_after ≡ mid) ⊎ ((seen : ℕ) × looks mid seen None serials_after)
  pub attributes : Attributing asks calls makes gives looks service start history heads (drawn ++ more) earliest latest items new
