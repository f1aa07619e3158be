use Rattle.std.proofs.Common.{◌≡◌, Bool, Option, Some, ◌⊎◌, inl, inr, ◌≤◌, ◌+◌, ◌∙◌, ℕ, suc, zero, false, List, [], ◌∷◌, ◌++◌, All, ap, append-nil, arith, length, map, refl, slice_get, subst, sym, take}
use Rattle.std.specs.List.{flat_map}
use Rattle.std.proofs.lemmas.List.{append_assoc, length-map}
use Rattle.std.proofs.lemmas.List.Elements.{All-head, All-tail, All-weaker}
use Rattle.container_core.specs.History.{is_stopped}
use Rattle.container_core.specs.declared.history.Event.{Event}
use Rattle.boot_core.specs.declared.boot.Start.{Start}
use Rattle.outside.specs.Sink.{AppendsPrefix, appended}
use Rattle.outside.specs.Source.{HasEnded, prepended}
use Rattle.outside.specs.declared.link.LinkCounts.{LinkCounts}
use Rattle.outside.specs.declared.link.LinkEvent.{LinkEvent}
use Rattle.auction_calls.specs.declared.action.ActionCall.{ActionCall}
use Rattle.call_ticket.specs.declared.next.Answer.{Answer}
use Rattle.call_ticket.specs.declared.next.Next.{Next}
use Rattle.request_decisions.specs.declared.draws.Draw.{Draw}
use Rattle.request_intake.specs.Intakes.{Gives, Looks, serials_in}
use Rattle.served_connections.specs.Courses.{Course}
use Rattle.served_connections.specs.Findings.{AreFoundFor, found_in_all}
use Rattle.served_connections.specs.Full.{full_in}
use Rattle.served_connections.specs.Heard.{HeardIn}
use Rattle.served_connections.specs.Spent.{spent_in}
use Rattle.served_items.specs.Counting.{AreReached, last_counts}
use Rattle.served_items.specs.Attributing.{Service, TakenIn, WasTakenIn, taken_heads}
use Rattle.served_items.specs.Served.{AreServed, IsServedFor, ServedItem}
use Rattle.shepherd.specs.Accounting.{traces_in}
use Rattle.shepherd.specs.Answering.{AreResponses, Response}
use Rattle.shepherd.specs.declared.shepherd.EndKind.{EndKind}
use Rattle.site_programs.specs.declared.maker.SiteMaker.{SiteMaker}
use Rattle.crash_base.specs.declared.numbers.Place.{Place}
use Rattle.http_wire.specs.Requests.{Requests, requests}
use Rattle.outcome_items.specs.Traces.{uncounted, window_traces}
use Rattle.outcome_items.specs.declared.item.Item.{Item}
use Rattle.outcome_items.specs.declared.outcome.ItemOutcome.{ItemOutcome}
use Rattle.outcome_items.specs.declared.outcome.ItemOutcome.TheVariants as item
use Rattle.shepherd.specs.Standing.{last_front, last_of}
use Rattle.shepherd.specs.declared.shepherd.EndKind.TheVariants as ends
use Rattle.connection_server.specs.Closing.{AllHaveCome, EndsBy}
use Rattle.connection_server.specs.Ending.{AllServed, FirstServed, HasServedAllOf, HasTakenAll, ServedBy, WroteAll}
use Rattle.connection_server.specs.Heeding.{AtMostLastStopped, WasFound}
use Rattle.connection_server.specs.Refusing.{WereRefused}
use Rattle.connection_server.specs.Seats.{HasAdded}
use Rattle.connection_server.specs.Stands.{GivesAll, HasSeen, Stand, began_at}
use Rattle.connection_server.specs.declared.served.ServedEnd.{ServedEnd}
use Rattle.connection_server.specs.declared.served.ServedEnd.TheVariants.{Closed, Cut, Refused, Stopped, ReadFault, WriteFault, OutOfMemory}
use Rattle.shared_words.specs.Words.{WordSeatValue}
use Rattle.auction_site.specs.Actions.{steps_of}
use Rattle.http_wire.specs.declared.taken.Head.{Head}
use Rattle.send_windows.specs.declared.fact.WindowFact.{WindowFact}
use Rattle.send_windows.specs.declared.history.WindowMark.{WindowMark}
use Rattle.served_connections.specs.Telling.{HasServed}
use Rattle.served_connections.proofs.Among.{AreAmong}
use Rattle.served_connections.proofs.Findings.{IsAmong, among_more, each_found}
use Rattle.served_connections.proofs.Heard.{item_among}
use Rattle.served_connections.proofs.Shown.{next_there, none_unspent}
use Rattle.seat_serials.specs.Drawing.{SeatLooks}
use Rattle.site_programs.specs.Errands.{IsMadeOf}
use Rattle.site_responses.specs.Responses.{last_response}
use Rattle.site_responses.specs.declared.answer.Untaken.{Untaken}
use Rattle.connection_server.proofs.Added.{added_at}
use Rattle.connection_server.proofs.Full.{FullAtRefusal, full_at}
use Rattle.connection_server.proofs.Marked.{AreOfRequest, each_told, taken_are_spent}
use Rattle.connection_server.proofs.Responding.{each_responds, flat_parts, none_before}
use Rattle.connection_server.proofs.Seen.{last_is as last_counted}
use Rattle.connection_server.proofs.showing.served_connections_tell_how_they_ended.Goals as goal

running : (history : List Event) (items : List Item) → All (λ (i : Item). WasFound history i.holds false) items
    → All (λ (i : Item). is_stopped (take i.holds.held history) ≡ false) items
running history items h = All-weaker (λ (i : Item). WasFound history i.holds false) (λ (i : Item). is_stopped (take i.holds.held history) ≡ false) (λ i w. w.found) items h

-- the front of the last item
last_is : (front : Place) (before : List Item) (last : Item) → last_front front (before ++ last ∷ []) ≡ last.holds.front
last_is front [] last = refl
last_is front (i ∷ before) last = last_is i.holds.front before last

some_same : (a b : ServedEnd) → Some a ≡ Some b → a ≡ b
some_same a b is = cc

same_refusal : (why other : Untaken) → Refused why ≡ Refused other → why ≡ other
same_refusal why other is = cc

-- What is put out behind the responses to items: that to what is refused, where a call ended so, and else nothing; but
-- where the sink failed, perhaps that to some refusal.
abbrev IsLastOf : ServedEnd → List ℕ → Type 0
IsLastOf end last =
    ((why : Untaken) → end ≡ Refused why → last ≡ last_response why)
    × ((last ≡ []) ⊎ ((why : Untaken) × (last ≡ last_response why) × ((end ≡ Refused why) ⊎ (end ≡ WriteFault))))

module _ {L R : Type 0} (calls : L → LinkEvent → L → Type 0) (gives : Gives R) (service : Service SiteMaker) (begun now : Stand) (items : List Item) where
  -- What was read and drawn: just what the course tells, or more where memory was wanted.
  record TookSo (course : Course) (end : ServedEnd) : Type 0 where
    pub lost : List ℕ
    pub read : begun.left ≡ prepended (course.fed ++ lost) now.left
    pub more : List ℕ
    pub drew : now.words.drawn ≡ begun.words.drawn ++ (serials_in course.drawn ++ more)
    pub just : (end ≡ OutOfMemory → ⊥) → (lost ≡ []) × (more ≡ [])

  took_all : (course : Course) (end : ServedEnd) → HasTakenAll calls gives service begun now course → TookSo course end
  took_all course end took = record {
    lost = [];
    read = took.read ∙ ap (λ (l : List ℕ). prepended l now.left) (sym (append-nil course.fed));
    more = [];
    drew = ap (λ (w : WordSeatValue). w.drawn) took.drew ∙ ap (λ (l : List ℕ). begun.words.drawn ++ l) (sym (append-nil (serials_in course.drawn)));
    just = λ not. (refl, refl);
  }

  took_so : (start : Start) (course : Course) (end : ServedEnd) → ServedBy calls gives service begun now start course end → TookSo course end
  took_so start course Closed h = took_all course Closed h.all.took
  took_so start course Cut h = took_all course Cut h.all.took
  took_so start course (Refused why) h = took_all course (Refused why) h.all.took
  took_so start course Stopped h = took_all course Stopped h.took
  took_so start course ReadFault h = by h.all where
    by : HasServedAllOf calls gives service begun now start course ends.Closed ⊎ HasServedAllOf calls gives service begun now start course ends.Cut → TookSo course ReadFault
    by (inl all) = took_all course ReadFault all.took
    by (inr all) = took_all course ReadFault all.took
  took_so start course WriteFault h = took_all course WriteFault h.took
  took_so start course OutOfMemory h = record { lost = h.lost; read = h.read; more = h.drew.0; drew = h.drew.1; just = λ not. absurd (not refl) }

  -- What the course tells of was seen, however the call ended.
  saw_so : (start : Start) (course : Course) (end : ServedEnd) → ServedBy calls gives service begun now start course end → HasSeen begun now course
  saw_so start course Closed h = h.all.took.saw
  saw_so start course Cut h = h.all.took.saw
  saw_so start course (Refused why) h = h.all.took.saw
  saw_so start course Stopped h = h.took.saw
  saw_so start course ReadFault h = by h.all where
    by : HasServedAllOf calls gives service begun now start course ends.Closed ⊎ HasServedAllOf calls gives service begun now start course ends.Cut → HasSeen begun now course
    by (inl all) = all.took.saw
    by (inr all) = all.took.saw
  saw_so start course WriteFault h = h.took.saw
  saw_so start course OutOfMemory h = h.saw

  -- where the sink did not fail, all was written
  wrote_all : (start : Start) (course : Course) (end : ServedEnd) → (end ≡ WriteFault → ⊥) → ServedBy calls gives service begun now start course end → WroteAll calls gives service begun now course
  wrote_all start course Closed not h = h.all.wrote
  wrote_all start course Cut not h = h.all.wrote
  wrote_all start course (Refused why) not h = h.all.wrote
  wrote_all start course Stopped not h = h.wrote
  wrote_all start course ReadFault not h = by h.all where
    by : HasServedAllOf calls gives service begun now start course ends.Closed ⊎ HasServedAllOf calls gives service begun now start course ends.Cut → WroteAll calls gives service begun now course
    by (inl all) = all.wrote
    by (inr all) = all.wrote
  wrote_all start course WriteFault not h = absurd (not refl)
  wrote_all start course OutOfMemory not h = h.wrote

  read_all : (start : Start) (course : Course) → ((end : EndKind) → AllServed calls gives service begun now start course end → length course.items ≡ length (requests course.fed).heads)
      → HasServedAllOf calls gives service begun now start course ends.Closed ⊎ HasServedAllOf calls gives service begun now start course ends.Cut → items ≡ course.items
      → (fed : List ℕ) × (begun.left ≡ prepended fed now.left) × (length items ≡ length (requests fed).heads)
  read_all start course all (inl h) is = (course.fed, h.took.read, ap length is ∙ all ends.Closed h.ended)
  read_all start course all (inr h) is = (course.fed, h.took.read, ap length is ∙ all ends.Cut h.ended)

  -- A call has served what its course tells, up to here; and no request is open then, unless memory was wanted: then it
  -- has added one event at most, and left the marks of one request.
  record ServedSo (start : Start) (course : Course) (end : ServedEnd) : Type 0 where
    pub opened : List Head
    pub last : List ℕ
    pub own : List Event
    pub marks : List WindowMark
    pub so : HasServed steps_of calls (λ (maker : SiteMaker). IsMadeOf) gives SeatLooks service start (began_at begun) now.container.seen now.moment course opened last own marks
    pub whole : (end ≡ OutOfMemory → ⊥) → (opened ≡ []) × (own ≡ []) × (marks ≡ [])
    pub few : length own ≤ 1
    pub of_one : AreOfRequest marks
    pub last_is : IsLastOf end last

  all_so : (start : Start) (course : Course) (so_ended : EndKind) (end : ServedEnd) → IsLastOf end (last_of so_ended) → AllServed calls gives service begun now start course so_ended → ServedSo start course end
  all_so start course so_ended end last h = record { opened = []; last = last_of so_ended; own = []; marks = []; so = h.whole; whole = λ not. (refl, refl, refl); few = omega arith; of_one = inl refl; last_is = last }

  first_so : (start : Start) (course : Course) (end : ServedEnd) → IsLastOf end [] → FirstServed calls gives service begun now start course → ServedSo start course end
  first_so start course end last h = record { opened = []; last = []; own = []; marks = []; so = h; whole = λ not. (refl, refl, refl); few = omega arith; of_one = inl refl; last_is = last }

  served_so : (start : Start) (course : Course) (end : ServedEnd) → ServedBy calls gives service begun now start course end → ServedSo start course end
  served_so start course Closed h = all_so start course ends.Closed Closed (λ why is. absurd (cc), inl refl) h.all.ended
  served_so start course Cut h = all_so start course ends.Cut Cut (λ why is. absurd (cc), inl refl) h.all.ended
  served_so start course (Refused why) h =
      all_so start course (ends.Refused why) (Refused why) (λ other is. ap (λ (w : Untaken). last_response w) (same_refusal why other is), inr (why, refl, inl refl)) h.all.ended
  served_so start course Stopped h = first_so start course Stopped (λ why is. absurd (cc), inl refl) h.first
  served_so start course ReadFault h = by h.all where
    by : HasServedAllOf calls gives service begun now start course ends.Closed ⊎ HasServedAllOf calls gives service begun now start course ends.Cut → ServedSo start course ReadFault
    by (inl all) = all_so start course ends.Closed ReadFault (λ why is. absurd (cc), inl refl) all.ended
    by (inr all) = all_so start course ends.Cut ReadFault (λ why is. absurd (cc), inl refl) all.ended
  served_so start course WriteFault h = by h.served where
    by : FirstServed calls gives service begun now start course ⊎ ((why : Untaken) × AllServed calls gives service begun now start course (ends.Refused why)) → ServedSo start course WriteFault
    by (inl first) = first_so start course WriteFault (λ why is. absurd (cc), inl refl) first
    by (inr (why, all)) = all_so start course (ends.Refused why) WriteFault (λ other is. absurd (cc), inr (why, refl, inr refl)) all
  served_so start course OutOfMemory h = record {
    opened = h.stopped.opened;
    last = [];
    own = h.stopped.open_own;
    marks = h.stopped.open_marks;
    so = h.stopped.served;
    whole = λ not. absurd (not refl);
    few = h.stopped.few;
    of_one = none_unspent h.stopped.open_marks h.stopped.of_one h.stopped.spent;
    last_is = (λ why is. absurd (cc), inl refl);
  }

  -- The container was stopped for the last item at most, however the call ended.
  heeds_so : (start : Start) (course : Course) (end : ServedEnd) → ServedBy calls gives service begun now start course end → AtMostLastStopped now.container.seen course.items
  heeds_so start course Closed h = by h.by where
    by : EndsBy ends.Closed now.left course.fed now.container.seen course.items → AtMostLastStopped now.container.seen course.items
    by (inl ended) = inl ended.1
    by (inr come) = come.1
  heeds_so start course Cut h = inl h.by.1
  heeds_so start course (Refused why) h = inl h.by
  heeds_so start course Stopped h = inr h.stopped
  heeds_so start course ReadFault h = inl h.running
  heeds_so start course WriteFault h = h.heeds
  heeds_so start course OutOfMemory h = h.heeds

-- a call stands among these
abbrev StandsIn : List LinkEvent → Unit {0} → LinkEvent → Unit {0} → Type 0
StandsIn heard old call new = (n : ℕ) × (slice_get heard n ≡ Some call)

-- the calls that a course tells stand among those that were made by then
stand_there : (before heard all : List LinkEvent) → all ≡ before ++ heard → AreAmong (HeardIn heard) (StandsIn all)
stand_there before heard all is call (old, new, (first, behind, there)) =
    let whole : all ≡ (before ++ first) ++ call ∷ behind = is ∙ ap (λ (l : List LinkEvent). before ++ l) there ∙ sym (append_assoc before first (call ∷ behind)) in
    (tt, tt, (length (before ++ first), subst (λ (l : List LinkEvent). slice_get l (length (before ++ first)) ≡ Some call) (sym whole) (next_there (before ++ first) behind call (length (before ++ first)) refl)))

-- an item and the request that stands in the same place are one that was served
zipped : (So : TakenIn → Item → Type 0) (served : List ServedItem) (n : ℕ) (i : Item) (t : TakenIn) → slice_get (map (λ (x : ServedItem). x.item) served) n ≡ Some i → slice_get (map (λ (x : ServedItem). x.taken) served) n ≡ Some t
    → All (λ (x : ServedItem). So x.taken x.item) served → So t i
zipped So [] n i t item taken all = absurd (cc)
zipped So (x ∷ served) zero i t item taken all =
    let same : x.item ≡ i = cc in
    let same_taken : x.taken ≡ t = cc in
    subst (λ (j : Item). So t j) same (subst (λ (u : TakenIn). So u x.item) same_taken (All-head (λ (x : ServedItem). So x.taken x.item) x served all))
zipped So (x ∷ served) (suc n) i t item taken all = zipped So served n i t item taken (All-tail (λ (x : ServedItem). So x.taken x.item) x served all)

-- where the requests that have an item are as many as all, none is open
none_open : (served : List ServedItem) (opened : List TakenIn) → length (taken_heads (map (λ (x : ServedItem). x.taken) served ++ opened)) ≡ length served → opened ≡ []
none_open [] [] is = refl
none_open [] (t ∷ opened) is = absurd (omega (arith, is))
none_open (x ∷ served) opened is = none_open served opened (omega (arith, is))

-- where each request has its response, none is open
nothing_open : {P L M R S : Type 0} {asks : P → List Answer → Next} {calls : L → LinkEvent → L → Type 0} {makes : M → ActionCall → List ℕ → P → Type 0} {gives : Gives R} {looks : Looks S} {service : Service M} {start : Start}
    {key : List ℕ} {history : List Event} {heads opened : List Head} {written last : List ℕ} {drawn : List Draw} {earliest latest : ℕ} {items : List Item}
    (r : AreResponses key history heads written items opened last) (h : AreServed asks calls makes gives looks service start history heads drawn earliest latest items) → opened ≡ [] → h.opened ≡ []
nothing_open r h none =
    let heads : length (taken_heads (map (λ (x : ServedItem). x.taken) h.served ++ h.opened)) ≡ length (map (λ (r : Response). r.head) r.responses ++ []) =
    ap length (sym h.heads_are ∙ r.heads_are) ∙ ap (λ (l : List Head). length (map (λ (r : Response). r.head) r.responses ++ l)) none in
    let responses : length (map (λ (r : Response). r.head) r.responses ++ []) ≡ length r.responses =
    ap length (append-nil (map (λ (r : Response). r.head) r.responses)) ∙ length-map r.responses (λ (r : Response). r.head) in
    let items : length r.responses ≡ length h.served =
    sym (length-map r.responses (λ (r : Response). r.item)) ∙ ap length (sym r.items_are ∙ h.items_are) ∙ length-map h.served (λ (x : ServedItem). x.item) in
    none_open h.served h.opened (heads ∙ responses ∙ items)

-- A random source gave words in a row, over these states.
record Runs {R : Type 0} (gives : Gives R) (from : R) (words : List ℕ) (to : R) : Type 0 where
  pub state : ℕ → R
  pub begins : state 0 ≡ from
  pub each : (n word : ℕ) → slice_get words n ≡ Some word → gives (state n) word (state (n + 1))
  pub leads : state (length words) ≡ to

-- a state, and then these
abbrev behind_one : {R : Type 0} → R → (ℕ → R) → ℕ → R
behind_one first rest zero = first
behind_one first rest (suc n) = rest n

runs_one : {R : Type 0} (gives : Gives R) (from : R) (word : ℕ) (words : List ℕ) (next to : R) → gives from word next → Runs gives next words to → Runs gives from (word ∷ words) to
runs_one {R} gives from word words next to here rest = record { state = behind_one from rest.state; begins = refl; each = each; leads = rest.leads } where
  each : (n w : ℕ) → slice_get (word ∷ words) n ≡ Some w → gives (behind_one from rest.state n) w (behind_one from rest.state (n + 1))
  each zero w is =
      let same : word ≡ w = cc in
      subst (λ (x : ℕ). gives from x (rest.state 0)) same (subst (λ (r : R). gives from word r) (sym rest.begins) here)
  each (suc n) w is =
      let far : suc (n + 1) ≡ suc n + 1 = omega arith in
      subst (λ (m : ℕ). gives (rest.state n) w (behind_one from rest.state m)) far (rest.each n w is)

runs : {R : Type 0} (gives : Gives R) (from : R) (words : List ℕ) (to : R) → GivesAll gives from words to → Runs gives from words to
runs gives from [] to h = record { state = λ n. from; begins = refl; each = λ n word is. absurd (cc); leads = h }
runs gives from (word ∷ words) to (next, here, h) = runs_one gives from word words next to here (runs gives next words to h)

pub returns-clause-cut : goal.returns-clause-cut
returns-clause-cut g c = λ from to random random_after service begun now told h is.
    let there = h.served.so.so in
    let by = subst (λ (e : ServedEnd). ServedBy g.L.Link.makes g.R.Random.gives service begun (record now { heard = h.served.heard; given = h.served.so.given }) there.start there.course e) is there.served in
    let all = c.courses_show_what_was_served.ensures.ended service there.start (began_at begun) now.container.seen now.moment there.course ends.Cut by.all.ended in
    (there.course.fed, by.all.took.read, by.by.0, ap length there.items_are ∙ all.0, all.1, (there.course.written, by.all.wrote), running now.container.seen told.items (subst (λ (is : List Item). All (λ (i : Item). WasFound now.container.seen i.holds false) is) (sym there.items_are) by.by.1))

closed_by : (left : Option (List ℕ)) (fed : List ℕ) (history : List Event) (items told : List Item) → told ≡ items → EndsBy ends.Closed left fed history items
    → (HasEnded left × All (λ (i : Item). is_stopped (take i.holds.held history) ≡ false) told) ⊎ AllHaveCome fed
closed_by left fed history items told is (inl h) = inl (h.0, running history told (subst (λ (l : List Item). All (λ (i : Item). WasFound history i.holds false) l) (sym is) h.1))
closed_by left fed history items told is (inr h) = inr h.0

pub returns-clause-closed : goal.returns-clause-closed
returns-clause-closed g c = λ from to random random_after service begun now told h is.
    let there = h.served.so.so in
    let by = subst (λ (e : ServedEnd). ServedBy g.L.Link.makes g.R.Random.gives service begun (record now { heard = h.served.heard; given = h.served.so.given }) there.start there.course e) is there.served in
    let all = c.courses_show_what_was_served.ensures.ended service there.start (began_at begun) now.container.seen now.moment there.course ends.Closed by.all.ended in
    (there.course.fed, by.all.took.read, ap length there.items_are ∙ all.0, all.1, closed_by now.left there.course.fed now.container.seen there.course.items told.items there.items_are by.by)

pub returns-clause-refused : goal.returns-clause-refused
returns-clause-refused g c = λ from to random random_after service begun now told why h is.
    let there = h.served.so.so in
    let by = subst (λ (e : ServedEnd). ServedBy g.L.Link.makes g.R.Random.gives service begun (record now { heard = h.served.heard; given = h.served.so.given }) there.start there.course e) is there.served in
    let all = c.courses_show_what_was_served.ensures.ended service there.start (began_at begun) now.container.seen now.moment there.course (ends.Refused why) by.all.ended in
    (there.course.fed, by.all.took.read, ap length there.items_are ∙ all.0, all.1, running now.container.seen told.items (subst (λ (is : List Item). All (λ (i : Item). WasFound now.container.seen i.holds false) is) (sym there.items_are) by.by))

pub returns-clause-responses : goal.returns-clause-responses
returns-clause-responses g c = λ from to random random_after service begun now told h.
    let there = h.served.so.so in
    let course : Course = there.course in
    let end : Stand = record now { heard = h.served.heard; given = h.served.so.given } in
    let all = served_so g.L.Link.makes g.R.Random.gives service begun end told.items there.start course told.ended there.served in
    let took = took_so g.L.Link.makes g.R.Random.gives service begun end told.items there.start course told.ended there.served in
    let first = all.so.requests_are [] in
    let put = all.so.responses in
    let parts : List (List ℕ) = map (λ (r : Response). r.bytes) put.responses in
    let behind : List Head = all.opened ++ first.0.heads in
    let heads : (requests course.fed).heads ≡ map (λ (r : Response). r.head) put.responses ++ behind =
    ap (λ (l : List ℕ). (requests l).heads) (sym (append-nil course.fed)) ∙ ap (λ (r : Requests). r.heads) first.1 ∙ ap (λ (l : List Head). l ++ first.0.heads) put.heads_are
    ∙ append_assoc (map (λ (r : Response). r.head) put.responses) all.opened first.0.heads in
    let items : told.items ≡ map (λ (r : Response). r.item) put.responses = there.items_are ∙ put.items_are in
    let whole : course.written ≡ flat_map (λ (bytes : List ℕ). bytes) parts ++ all.last = put.written_is ∙ ap (λ (l : List ℕ). l ++ all.last) (sym (flat_parts put.responses)) in (
      course.fed,
      took.lost,
      took.read,
      λ not. (took.just not).0,
      (
        parts,
        all.last,
        length-map put.responses (λ (r : Response). r.bytes) ∙ sym (ap length items ∙ length-map put.responses (λ (r : Response). r.item)),
        λ n i bytes item part.
            let responds = each_responds service.key now.container.seen put.responses behind n i bytes put.respond (ap (λ (l : List Item). slice_get l n) (sym items) ∙ item) part in
            (responds.0, ap (λ (l : List Head). slice_get l n) heads ∙ responds.1, responds.2),
        λ not. wrote_all g.L.Link.makes g.R.Random.gives service begun end told.items there.start course told.ended not there.served ∙ ap (λ (w : List ℕ). appended begun.written w) whole,
        λ is.
            let by = subst (λ (e : ServedEnd). ServedBy g.L.Link.makes g.R.Random.gives service begun end there.start course e) is there.served in
            subst (λ (w : List ℕ). AppendsPrefix begun.written now.written w) whole by.wrote,
        all.last_is.0,
        all.last_is.1,
      ),
    )

pub returns-clause-heeded : goal.returns-clause-heeded
returns-clause-heeded g c = λ from to random random_after service begun now told h before last is.
    let there = h.served.so.so in
    let end : Stand = record now { heard = h.served.heard; given = h.served.so.given } in
    let heeds = heeds_so g.L.Link.makes g.R.Random.gives service begun end told.items there.start there.course told.ended there.served in
    running now.container.seen before (none_before now.container.seen there.course.items before last heeds (sym there.items_are ∙ is))

pub returns-clause-stopped : goal.returns-clause-stopped
returns-clause-stopped g c = λ from to random random_after service begun now told h is.
    let there = h.served.so.so in
    let by = subst (λ (e : ServedEnd). ServedBy g.L.Link.makes g.R.Random.gives service begun (record now { heard = h.served.heard; given = h.served.so.given }) there.start there.course e) is there.served in (
      by.stopped.before,
      by.stopped.last,
      there.items_are ∙ by.stopped.items_are,
      by.stopped.stopped.found,
      running now.container.seen by.stopped.before by.stopped.running,
      (there.course.fed, by.took.read, (by.stays.before, by.stays.last, by.stays.behind, by.stays.heads_are, ap length there.items_are ∙ by.stays.as_many, by.stays.stays)),
    )

pub returns-clause-read_fault : goal.returns-clause-read_fault
returns-clause-read_fault g c = λ from to random random_after service begun now told h is.
    let there = h.served.so.so in
    let by = subst (λ (e : ServedEnd). ServedBy g.L.Link.makes g.R.Random.gives service begun (record now { heard = h.served.heard; given = h.served.so.given }) there.start there.course e) is there.served in (
      by.failed,
      running now.container.seen told.items (subst (λ (is : List Item). All (λ (i : Item). WasFound now.container.seen i.holds false) is) (sym there.items_are) by.running),
      read_all g.L.Link.makes g.R.Random.gives service begun (record now { heard = h.served.heard; given = h.served.so.given }) told.items there.start there.course
          (λ end ended. (c.courses_show_what_was_served.ensures.ended service there.start (began_at begun) now.container.seen now.moment there.course end ended).0) by.all there.items_are,
    )

pub returns-clause-write_fault : goal.returns-clause-write_fault
returns-clause-write_fault g c = λ from to random random_after service begun now told h is.
    let there = h.served.so.so in
    let by = subst (λ (e : ServedEnd). ServedBy g.L.Link.makes g.R.Random.gives service begun (record now { heard = h.served.heard; given = h.served.so.given }) there.start there.course e) is there.served in
    (by.failed, (there.course.written, by.wrote))

pub returns-clause-front : goal.returns-clause-front
returns-clause-front g c = λ from to random random_after service begun now told h. (
  λ none. ap (λ (front : Place). front.0) (h.front_is ∙ ap (λ (items : List Item). last_front (record { 0 = 0 }) items) none),
  λ before last is. h.front_is ∙ ap (λ (items : List Item). last_front (record { 0 = 0 }) items) is ∙ last_is (record { 0 = 0 }) before last,
)

pub returns-clause-added : goal.returns-clause-added
returns-clause-added g c = λ from to random random_after service begun now told h.
    let there = h.served.so.so in
    let course : Course = there.course in
    let end : Stand = record now { heard = h.served.heard; given = h.served.so.given } in
    let all = served_so g.L.Link.makes g.R.Random.gives service begun end told.items there.start course told.ended there.served in
    let traces : course.own ≡ traces_in now.container.seen told.items ++ all.own =
    all.so.accounted.events ∙ ap (λ (items : List Item). traces_in now.container.seen items ++ all.own) (sym there.items_are) in
    let added = added_at begun.container now.container (traces_in now.container.seen told.items ++ all.own) (subst (λ (own : List Event). HasAdded begun.container now.container own) traces there.come.container) in
    let at = added.4 in
    (added.0, added.1, added.2, added.3, (at.0, at.1, at.2, at.3, (all.own, all.few, λ not. (all.whole not).1, at.4)))

pub returns-clause-marked : goal.returns-clause-marked
returns-clause-marked g c = λ from to random random_after service begun now told h.
    let there = h.served.so.so in
    let course : Course = there.course in
    let end : Stand = record now { heard = h.served.heard; given = h.served.so.given } in
    let all = served_so g.L.Link.makes g.R.Random.gives service begun end told.items there.start course told.ended there.served in
    let marks : List WindowMark = there.come.marks in
    let tell : List WindowMark = window_traces told.items ++ all.marks in
    let traces : map uncounted marks ≡ tell =
    sym there.come.marks_are ∙ all.so.accounted.marks_are ∙ ap (λ (items : List Item). window_traces items ++ all.marks) (sym there.items_are) in
    let added = added_at begun.windows now.windows marks there.come.windows in
    let at = added.4 in (
      added.0,
      added.1,
      added.2,
      added.3,
      (
        at.0,
        at.1,
        at.2,
        at.3,
        (
          marks,
          at.4,
          taken_are_spent marks all.marks told.items traces all.of_one,
          (
            all.marks,
            λ not. (all.whole not).2,
            all.of_one,
            sym (length-map marks uncounted) ∙ ap length traces,
            λ n m t is tells. each_told marks n m t is (ap (λ (l : List WindowMark). slice_get l n) traces ∙ tells),
          ),
        ),
      ),
    )

pub returns-clause-onward : goal.returns-clause-onward
returns-clause-onward g c = λ from to random random_after service begun now told h.
    let come = h.served.so.so.come in
    (come.moment, come.read_faults, come.write_faults)

pub returns-clause-items : goal.returns-clause-items
returns-clause-items g c = λ from to random random_after service begun now told h.
    let there = h.served.so.so in
    let heard : List LinkEvent = h.served.heard in
    let given = h.served.so in
    let course : Course = there.course in
    let end : Stand = record now { heard = heard; given = given.given } in
    let all = served_so g.L.Link.makes g.R.Random.gives service begun end told.items there.start course told.ended there.served in
    let took = took_so g.L.Link.makes g.R.Random.gives service begun end told.items there.start course told.ended there.served in
    let served = all.so.served in
    let taken : List TakenIn = map (λ (x : ServedItem). x.taken) served.served in
    let first = all.so.requests_are [] in
    let words = runs g.R.Random.gives random given.given given.reached given.leads in
    let items : told.items ≡ map (λ (x : ServedItem). x.item) served.served = there.items_are ∙ served.items_are in
    let So : TakenIn → Item → Type 0 = λ t i. IsServedFor steps_of (StandsIn heard) (λ (maker : SiteMaker). IsMadeOf) g.R.Random.gives SeatLooks service there.start now.container.seen t i in (
      there.start,
      there.starts.0,
      there.starts.1,
      there.parts_are,
      there.boot_is,
      (
        course.fed,
        took.lost,
        took.read,
        (
          heard,
          h.served.leads,
          (
            given.given,
            words.state,
            words.begins,
            words.each,
            (
              taken,
              served.opened,
              length-map served.served (λ (x : ServedItem). x.taken) ∙ sym (ap length items ∙ length-map served.served (λ (x : ServedItem). x.item)),
              served.one_open,
              (
                first.0.heads,
                ap (λ (l : List ℕ). (requests l).heads) (sym (append-nil course.fed)) ∙ ap (λ (r : Requests). r.heads) first.1 ∙ ap (λ (l : List Head). l ++ first.0.heads) served.heads_are,
                (
                  course.drawn,
                  served.drawn_are,
                  there.come.given,
                  (
                    took.more,
                    took.drew,
                    λ not. (
                      nothing_open all.so.responses all.so.served (all.whole not).0,
                      (took.just not).0,
                      (took.just not).1,
                      words.leads ∙ given.stays (λ is. not (some_same told.ended OutOfMemory is)),
                    ),
                    λ n i t item request.
                        zipped So served.served n i t (ap (λ (l : List Item). slice_get l n) (sym items) ∙ item) request
                        (All-weaker (λ (x : ServedItem). IsServedFor steps_of (HeardIn course.heard) (λ (maker : SiteMaker). IsMadeOf) g.R.Random.gives SeatLooks service there.start now.container.seen x.taken x.item) (λ (x : ServedItem). So x.taken x.item)
                        (λ x so. item_among steps_of (HeardIn course.heard) (StandsIn heard) (stand_there begun.heard course.heard heard there.come.heard) IsMadeOf (WasTakenIn g.R.Random.gives SeatLooks service.key service.home) there.start now.container.seen x.taken x.item so)
                        served.served served.each),
                  ),
                ),
              ),
            ),
          ),
        ),
      ),
    )

pub returns-clause-words : goal.returns-clause-words
returns-clause-words g c = λ from to random random_after service begun now told h.
    let words = h.served.so.so.come.words in
    (words.0, words.1, words.2, words.3)

-- what is so of all of these is so of one that is among them
one_of : {A : Type 0} (So : A → Type 0) (all before behind : List A) (a : A) → all ≡ before ++ a ∷ behind → All So all → So a
one_of {A} So all before behind a is h = within before (subst (λ (l : List A). All So l) is h) where
  within : (first : List A) → All So (first ++ a ∷ behind) → So a
  within [] h = All-head So a behind h
  within (b ∷ first) h = within first (All-tail So b (first ++ a ∷ behind) h)

-- each that an item tells of is one of those that the course of its connection tells of, and what is so of these is so
-- of it
told_so : {A : Type 0} (tell : ItemOutcome → Option A) (So : A → Type 0) (found : List A) (items : List Item) (opened : List Head) → AreFoundFor tell found items opened → All So found
    → All (λ (i : Item). (one : A) → tell i.outcome ≡ Some one → So one) items
told_so {A} tell So found items opened h all =
    All-weaker (λ (i : Item). (one : A) → tell i.outcome ≡ Some one → IsAmong (found_in_all tell items) one) (λ (i : Item). (one : A) → tell i.outcome ≡ Some one → So one)
    (λ i among one is. let at = among_more tell found (found_in_all tell items) h.more one h.found_are (among one is) in one_of So found at.0 at.1 one at.2 all)
    items (each_found tell items)

pub returns-clause-spent : goal.returns-clause-spent
returns-clause-spent g c = λ from to random random_after service begun now told h.
    let there = h.served.so.so in
    let course : Course = there.course in
    let end : Stand = record now { heard = h.served.heard; given = h.served.so.given } in
    let all = served_so g.L.Link.makes g.R.Random.gives service begun end told.items there.start course told.ended there.served in
    let saw = saw_so g.L.Link.makes g.R.Random.gives service begun end told.items there.start course told.ended there.served in
    subst (λ (items : List Item). All (λ (i : Item). (serial : ℕ) → i.outcome ≡ item.SerialsSpent serial → serial ≤ now.words.seen) items) (sym there.items_are)
    (All-weaker (λ (i : Item). (serial : ℕ) → spent_in i.outcome ≡ Some serial → serial ≤ now.words.seen) (λ (i : Item). (serial : ℕ) → i.outcome ≡ item.SerialsSpent serial → serial ≤ now.words.seen)
    (λ i so serial is. so serial (ap spent_in is))
    course.items (told_so spent_in (λ (n : ℕ). n ≤ now.words.seen) course.looked course.items all.opened all.so.looked saw.spent))

pub returns-clause-full : goal.returns-clause-full
returns-clause-full g c = λ from to random random_after service begun now told h.
    let there = h.served.so.so in
    let course : Course = there.course in
    let end : Stand = record now { heard = h.served.heard; given = h.served.so.given } in
    let all = served_so g.L.Link.makes g.R.Random.gives service begun end told.items there.start course told.ended there.served in
    let saw = saw_so g.L.Link.makes g.R.Random.gives service begun end told.items there.start course told.ended there.served in
    let So : Item → Type 0 = λ i. (place : Place) (again : Bool) (full : List WindowFact) → i.outcome ≡ item.Overload place again full → FullAtRefusal now.windows.seen full in
    subst (λ (items : List Item). All So items) (sym there.items_are)
    (All-weaker (λ (i : Item). (full : List WindowFact) → full_in i.outcome ≡ Some full → WereRefused now.windows.seen full) So
    (λ i so place again full is. full_at now.windows.seen full (so full (ap full_in is)))
    course.items (told_so full_in (λ (full : List WindowFact). WereRefused now.windows.seen full) course.full course.items all.opened all.so.full saw.full))

pub returns-clause-counted : goal.returns-clause-counted
returns-clause-counted g c = λ from to random random_after service begun now told h.
    let there = h.served.so.so in
    let course : Course = there.course in
    let end : Stand = record now { heard = h.served.heard; given = h.served.so.given } in
    let saw = saw_so g.L.Link.makes g.R.Random.gives service begun end told.items there.start course told.ended there.served in (
      λ none.
          let least = subst (λ (items : List Item). AreReached (last_counts begun.counts items) now.counts) (sym there.items_are ∙ none) saw.counted in
          (least.hushed, least.got),
      λ before last is.
          let least = subst (λ (items : List Item). AreReached (last_counts begun.counts items) now.counts) (sym there.items_are ∙ is) saw.counted in
          let told_last = subst (λ (counts : LinkCounts). AreReached counts now.counts) (last_counted begun.counts before last) least in
          (told_last.hushed, told_last.got),
    )
