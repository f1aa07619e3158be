-- A link counts on from item to item of a connection, step by step.
use Rattle.std.proofs.Common.{◌≡◌, ◌⊎◌, inl, inr, ℕ, ◌≤◌, Bool, true, false, List, [], ◌∷◌, ◌++◌, arith, refl, sym, ap, ◌∙◌, subst, Option, Some, None}
use Rattle.auction_calls.specs.declared.action.ActionCall.{ActionCall}
use Rattle.call_ticket.specs.declared.next.Answer.{Answer}
use Rattle.call_ticket.specs.declared.next.Next.{Next}
use Rattle.container_core.specs.Container.{ContainerValue}
use Rattle.crash_base.specs.declared.numbers.Moment.{Moment}
use Rattle.crash_base.specs.declared.numbers.Place.{Place}
use Rattle.crash_base.specs.declared.numbers.Version.{Version}
use Rattle.crash_base.specs.declared.numbers.WorkerNo.{WorkerNo}
use Rattle.http_wire.specs.Taking.{taken_of}
use Rattle.http_wire.specs.declared.taken.Head.{Head}
use Rattle.http_wire.specs.declared.taken.Taken.{Taken}
use Rattle.http_wire.specs.declared.taken.Taken.TheVariants as took
use Rattle.outcome_items.specs.declared.item.Item.{Item}
use Rattle.outcome_items.specs.declared.outcome.ItemOutcome.TheVariants as item
use Rattle.outside.specs.Link.{Tally}
use Rattle.outside.specs.declared.link.LinkCounts.{LinkCounts}
use Rattle.outside.specs.declared.link.LinkEvent.{LinkEvent}
use Rattle.request_decisions.specs.declared.decision.Refusal.{Refusal}
use Rattle.request_intake.specs.Intakes.{Gives, Looks}
use Rattle.request_intake.specs.declared.intake.Admission.{Admission}
use Rattle.request_intake.specs.declared.intake.Arrival.{Arrival}
use Rattle.request_intake.specs.declared.intake.Arrival.TheVariants.{Refused, SerialsSpent, Admitted}
use Rattle.request_intake.specs.declared.intake.HomeBoot.{HomeBoot}
use Rattle.request_tries.specs.Serving.{TriesValue, unbegun}
use Rattle.request_visit.specs.Advancing.{Advances, IsItemOf, after_leaving}
use Rattle.request_visit.specs.Counts.{CountsStand, HasCounted, Noted, causes_of, noted_by}
use Rattle.request_visit.specs.Stepping.{IsGivenBack, VisitsInside, VisitsWindows, counted, dropped}
use Rattle.request_visit.specs.Visits.{begun}
use Rattle.request_visit.specs.declared.facts.VisitFacts.{VisitFacts}
use Rattle.request_visit.specs.declared.visit.Visit.{Visit}
use Rattle.request_visit.specs.declared.visit.Work.TheVariants.{Reading, Opening, Serving as ServingBy, Decided}
use Rattle.send_windows.specs.Windows.{WindowsValue}
use Rattle.session_cookie.specs.declared.cookie.Cookie.{Cookie}
use Rattle.session_way.specs.Way.{StepsOutside}
use Rattle.session_way.specs.declared.way.SessionWay.{SessionWay}
use Rattle.session_way.specs.declared.way.SessionWay.TheVariants as way
use Rattle.shepherd.specs.Shepherds.{fresh, turn}
use Rattle.shepherd.specs.Steps.{GivesBack, OpensCall, OpensStage, PutsOut, ShepherdSteps, TakesBy, TakesItem, TakesRequest, VisitsOutside, admitted_visit, bare_facts, begun_by, dropped_stage, facts_of, rested}
use Rattle.shepherd.specs.declared.shepherd.AskedCall.{AskedCall}
use Rattle.shepherd.specs.declared.shepherd.Shepherd.{Shepherd}
use Rattle.shepherd.specs.declared.shepherd.ShepherdTurn.TheVariants as turns
use Rattle.shepherd.specs.declared.shepherd.Stage.{Stage}
use Rattle.shepherd.specs.declared.shepherd.Stage.TheVariants.{Resting, Serving, Refusing, Over}
use Rattle.ssm_stub.specs.Reads.{read_start}
use Rattle.served_items.specs.Counting.{AreReached, CountOn, Counting, OpenCounts, StageCounts, last_counts}
use Rattle.served_items.proofs.Stepping.{went}
use Rattle.served_items.proofs.Turning.{rests}
use Rattle.served_items.proofs.Unchanged.{advance_same, back_same, inside_same, item_same, windows_same}

here : (counts : LinkCounts) → AreReached counts counts
here counts = record { hushed = omega arith; got = omega arith }

further : (a b c : LinkCounts) → AreReached a b → AreReached b c → AreReached a c
further a b c first second = record { hushed = omega (arith, first.hushed, second.hushed); got = omega (arith, first.got, second.got) }

-- what was counted since a link had counted more, was counted since it had counted less
since_less : (noted : Noted) (less more now : LinkCounts) → AreReached less more → HasCounted noted more now → HasCounted noted less now
since_less noted less more now reached h = record { hushed = omega (arith, reached.hushed, h.hushed); got = omega (arith, reached.got, h.got) }

-- one more item behind those that count on
joins : (begin : LinkCounts) (items : List Item) (i : Item) → HasCounted (noted_by (causes_of i.outcome)) (last_counts begin items) i.counts → CountOn begin items → CountOn begin (items ++ i ∷ [])
joins begin [] i more h = (more, tt)
joins begin (j ∷ items) i more h = (h.0, joins j.counts items i more h.1)

lasts : (begin : LinkCounts) (items : List Item) (i : Item) → last_counts begin (items ++ i ∷ []) ≡ i.counts
lasts begin [] i = refl
lasts begin (j ∷ items) i = lasts j.counts items i

-- an item counts on behind the one before it
pub next_counts : (begin : LinkCounts) (before behind : List Item) (i next : Item) → CountOn begin (before ++ i ∷ next ∷ behind) → HasCounted (noted_by (causes_of next.outcome)) i.counts next.counts
next_counts begin [] behind i next h = h.1.0
next_counts begin (j ∷ before) behind i next h = next_counts j.counts before behind i next h.1

-- behind a request the link has counted at least what its item tells
at_rest : (P : Type 0) (last now : LinkCounts) (close : Bool) → AreReached last now → StageCounts {P = P} last now (rested close)
at_rest P last now true h = h
at_rest P last now false h = h

module _ {P : Type 0} where
  -- another stage counts so
  with_stage : (begin now later : LinkCounts) (items : List Item) (s new : Shepherd P) → StageCounts (last_counts begin items) later new.stage → Counting begin now items s → Counting begin later items new
  with_stage begin now later items s new stands h = record { count_on = h.count_on; is_open = stands }

  pub begins : (now : LinkCounts) → Counting {P = P} now now [] fresh
  begins now = record { count_on = tt; is_open = here now }

  pub still : (begin now : LinkCounts) (items : List Item) (s new : Shepherd P) → new.stage ≡ s.stage → Counting begin now items s → Counting begin now items new
  still begin now items s new same h =
      with_stage begin now now items s new (subst (λ (x : Stage P). StageCounts (last_counts begin items) now x) (sym same) h.is_open) h

  counts_later : (last now later : LinkCounts) (stage : Stage P) → AreReached now later → StageCounts last now stage → StageCounts last later stage
  counts_later last now later Resting more h = further last now later h more
  counts_later last now later (Serving v call) more h = record { begin = h.begin; since = h.since; stands = h.stands; seen = further v.counts now later h.seen more }
  counts_later last now later (Refusing why bytes) more h = further last now later h more
  counts_later last now later (Over end) more h = further last now later h more

  pub meanwhile : (begin now later : LinkCounts) (items : List Item) (s : Shepherd P) → now.hushed ≤ later.hushed → now.got ≤ later.got → Counting begin now items s → Counting begin later items s
  meanwhile begin now later items s hushed got h =
      with_stage begin now later items s s (counts_later (last_counts begin items) now later s.stage (record { hushed = hushed; got = got }) h.is_open) h

  -- a request whose counts stand as before, and that saw no more than this
  goes_on : (last now later : LinkCounts) (v w : Visit P) → ((begin : LinkCounts) → CountsStand begin v → CountsStand begin w) → (AreReached v.counts now → AreReached w.counts later)
      → OpenCounts last now v → OpenCounts last later w
  goes_on last now later v w stands seen h = record { begin = h.begin; since = h.since; stands = stands h.begin h.stands; seen = seen h.seen }

  -- a request that saw no more than before
  keeps_on : (last now : LinkCounts) (v w : Visit P) → ((begin : LinkCounts) → CountsStand begin v → CountsStand begin w) → w.counts ≡ v.counts → OpenCounts last now v → OpenCounts last now w
  keeps_on last now v w stands same h = goes_on last now now v w stands (λ seen. subst (λ (c : LinkCounts). AreReached c now) (sym same) seen) h

  stepped : (So : Visit P → Visit P → Type 0) (begin now later : LinkCounts) (items : List Item) (old new : Shepherd P) → ShepherdSteps So old new
      → ((v w : Visit P) → So v w → OpenCounts (last_counts begin items) now v → OpenCounts (last_counts begin items) later w)
      → Counting begin now items old → Counting begin later items new
  stepped So begin now later items old new steps goes h =
      let g = went So old new steps in
      let open_so : OpenCounts (last_counts begin items) now g.visit = subst (λ (x : Stage P). StageCounts (last_counts begin items) now x) g.was h.is_open in
      with_stage begin now later items old new (subst (λ (x : Stage P). StageCounts (last_counts begin items) later x) (sym g.is) (goes g.visit g.after g.so open_so)) h

  pub outside : {L : Type 0} (makes : L → LinkEvent → L → Type 0) (tally : L → Tally)
      → ((begin : LinkCounts) (v : Visit P) (w : SessionWay) (link after : L) → StepsOutside makes v.way link w after → v.counts.hushed ≤ (tally link).hushed → v.counts.got ≤ (tally link).got
      → CountsStand begin v → CountsStand begin (record v { way = w; counts = counted (tally after) }))
      → (begin now : LinkCounts) (items : List Item) (old new : Shepherd P) (link after : L) → ShepherdSteps (λ v w. VisitsOutside makes tally v link w after) old new
      → now.hushed ≤ (tally link).hushed → now.got ≤ (tally link).got → Counting begin now items old → Counting begin (counted (tally after)) items new
  outside makes tally law begin now items old new link after steps hushed got h =
      stepped (λ (v : Visit P) w. VisitsOutside makes tally v link w after) begin now (counted (tally after)) items old new steps
      (λ v w so o. record {
        begin = o.begin;
        since = o.since;
        stands = subst (λ (x : Visit P). CountsStand o.begin x) (sym so.rest)
            (law o.begin v w.way link after so.steps (let seen = o.seen.hushed in omega (arith, seen, hushed)) (let seen = o.seen.got in omega (arith, seen, got)) o.stands);
        seen = subst (λ (c : LinkCounts). AreReached c (counted (tally after))) (sym (ap (λ (x : Visit P). x.counts) so.rest)) (here (counted (tally after)));
      }) h

  pub windows : ((begin : LinkCounts) (old new : Visit P) (windows after : WindowsValue) → VisitsWindows old windows new after → CountsStand begin old → CountsStand begin new)
      → (begin now : LinkCounts) (items : List Item) (old new : Shepherd P) (win after : WindowsValue) → ShepherdSteps (λ v w. VisitsWindows v win w after) old new → Counting begin now items old → Counting begin now items new
  windows law begin now items old new win after steps h =
      stepped (λ (v : Visit P) w. VisitsWindows v win w after) begin now now items old new steps
      (λ v w so o. keeps_on (last_counts begin items) now v w (λ since. law since v w win after so) (windows_same v win w after so).counts o) h

  pub inside : (asks : P → List Answer → Next)
      → ((begin : LinkCounts) (old new : Visit P) (container after : ContainerValue) → VisitsInside asks old container new after → CountsStand begin old → CountsStand begin new)
      → (begin now : LinkCounts) (items : List Item) (old new : Shepherd P) (container after : ContainerValue) → ShepherdSteps (λ v w. VisitsInside asks v container w after) old new
      → Counting begin now items old → Counting begin now items new
  inside asks law begin now items old new container after steps h =
      stepped (λ (v : Visit P) w. VisitsInside asks v container w after) begin now now items old new steps
      (λ v w so o. keeps_on (last_counts begin items) now v w (λ since. law since v w container after so) (inside_same asks v container w after so) o) h

  pub advance : ((begin : LinkCounts) (key : List ℕ) (old new : Visit P) → Advances key old old.work new → CountsStand begin old → CountsStand begin new)
      → (begin now : LinkCounts) (items : List Item) (key : List ℕ) (old new : Shepherd P) → ShepherdSteps (λ v w. Advances key v v.work w) old new → Counting begin now items old → Counting begin now items new
  advance law begin now items key old new steps h =
      stepped (λ (v : Visit P) w. Advances key v v.work w) begin now now items old new steps
      (λ v w so o. keeps_on (last_counts begin items) now v w (λ since. law since key v w so) (advance_same key v w so).counts o) h

  pub opens : {M : Type 0} (makes : M → ActionCall → List ℕ → P → Type 0)
      → ((begin : LinkCounts) (v : Visit P) (tries : TriesValue) (program : P) → CountsStand begin v → CountsStand begin (record v { work = ServingBy tries program }))
      → (begin now : LinkCounts) (items : List Item) (s : Shepherd P) (stage : Stage P) (maker : M) (worker : WorkerNo) → OpensStage makes maker worker s.stage stage
      → Counting begin now items s → Counting begin now items (record s { stage = stage })
  opens makes law begin now items s stage maker worker does h = with_stage begin now now items s (record s { stage = stage }) (by s.stage h.is_open does) h where
    one : (v : Visit P) (call : Option AskedCall) → OpenCounts (last_counts begin items) now v → OpensCall makes maker worker v call stage → StageCounts (last_counts begin items) now stage
    one v None o does = absurd does
    one v (Some asked) o does =
        let to : stage ≡ Serving (record v { work = ServingBy (unbegun asked.request worker does.1.text) does.1.program }) None = does.2 ∙ ap (λ (x : Visit P). Serving x None) does.1.new_is in
        subst (λ (x : Stage P). StageCounts (last_counts begin items) now x) (sym to)
        (keeps_on (last_counts begin items) now v (record v { work = ServingBy (unbegun asked.request worker does.1.text) does.1.program })
        (λ since. law since v (unbegun asked.request worker does.1.text) does.1.program) refl o)

    by : (x : Stage P) → StageCounts (last_counts begin items) now x → OpensStage makes maker worker x stage → StageCounts (last_counts begin items) now stage
    by Resting o does = absurd does
    by (Serving v call) o does = one v call o does
    by (Refusing why bytes) o does = absurd does
    by (Over end) o does = absurd does

  pub out : ((begin : LinkCounts) (v : Visit P) → CountsStand begin v → CountsStand begin (after_leaving v))
      → (begin now : LinkCounts) (items : List Item) (bytes : List ℕ) (s : Shepherd P) (stage : Stage P) → PutsOut s.stage bytes stage → Counting begin now items s → Counting begin now items (record s { stage = stage })
  out law begin now items bytes s stage puts h = with_stage begin now now items s (record s { stage = stage }) (by s.stage h.is_open puts) h where
    by : (x : Stage P) → StageCounts (last_counts begin items) now x → PutsOut x bytes stage → StageCounts (last_counts begin items) now stage
    by Resting o puts = absurd puts
    by (Serving v call) o puts = subst (λ (x : Stage P). StageCounts (last_counts begin items) now x) (sym puts.1)
        (keeps_on (last_counts begin items) now v (after_leaving v) (λ since. law since v) refl o)
    by (Refusing why last) o puts = subst (λ (x : Stage P). StageCounts (last_counts begin items) now x) (sym puts.1) o
    by (Over end) o puts = absurd puts

  pub item_joins : ((begin : LinkCounts) (v : Visit P) (i : Item) → IsItemOf v v.work i → CountsStand begin v → HasCounted (noted_by (causes_of i.outcome)) begin i.counts)
      → (begin now : LinkCounts) (items : List Item) (i : Item) (s : Shepherd P) (stage : Stage P) → TakesItem s.stage i stage
      → Counting begin now items s → Counting begin now (items ++ i ∷ []) (record s { front = i.holds.front; stage = stage })
  item_joins law begin now items i s stage takes h = by s.stage h.is_open takes where
    by : (x : Stage P) → StageCounts (last_counts begin items) now x → TakesItem x i stage → Counting begin now (items ++ i ∷ []) (record s { front = i.holds.front; stage = stage })
    by Resting o takes = absurd takes
    by (Serving v call) o takes = record {
      count_on = joins begin items i
          (since_less (noted_by (causes_of i.outcome)) (last_counts begin items) o.begin i.counts o.since (law o.begin v i takes.0 o.stands)) h.count_on;
      is_open = subst (λ (x : Stage P). StageCounts (last_counts begin (items ++ i ∷ [])) now x) (sym takes.1)
          (at_rest P (last_counts begin (items ++ i ∷ [])) now v.facts.close
          (subst (λ (c : LinkCounts). AreReached c now) (sym (lasts begin items i ∙ (item_same v i takes.0).0)) o.seen));
    }
    by (Refusing why bytes) o takes = absurd takes
    by (Over end) o takes = absurd takes

  pub given_up : ((begin : LinkCounts) (v : Visit P) → CountsStand begin v → CountsStand begin (record v { work = dropped v.work }))
      → (begin now : LinkCounts) (items : List Item) (s : Shepherd P) → Counting begin now items s → Counting begin now items (record s { stage = dropped_stage s.stage })
  given_up law begin now items s h = with_stage begin now now items s (record s { stage = dropped_stage s.stage }) (by s.stage h.is_open) h where
    by : (x : Stage P) → StageCounts (last_counts begin items) now x → StageCounts (last_counts begin items) now (dropped_stage x)
    by Resting o = o
    by (Serving v call) o = keeps_on (last_counts begin items) now v (record v { work = dropped v.work }) (λ since. law since v) refl o
    by (Refusing why bytes) o = o
    by (Over end) o = o

  pub back : ((begin : LinkCounts) (old new : Visit P) → IsGivenBack old new → CountsStand begin old → CountsStand begin new)
      → (begin now : LinkCounts) (items : List Item) (s : Shepherd P) (stage : Stage P) (win after : WindowsValue) → GivesBack s.stage win stage after
      → Counting begin now items s → Counting begin now items (record s { stage = stage })
  back law begin now items s stage win after gives h = with_stage begin now now items s (record s { stage = stage }) (by s.stage h.is_open gives) h where
    by : (x : Stage P) → StageCounts (last_counts begin items) now x → GivesBack x win stage after → StageCounts (last_counts begin items) now stage
    by Resting o gives = subst (λ (x : Stage P). StageCounts (last_counts begin items) now x) (sym gives.0) o
    by (Serving v call) o gives = subst (λ (x : Stage P). StageCounts (last_counts begin items) now x) (sym gives.2)
        (keeps_on (last_counts begin items) now v gives.0 (λ since. law since v gives.0 gives.1.back) (back_same v gives.0 gives.1.back).counts o)
    by (Refusing why bytes) o gives = subst (λ (x : Stage P). StageCounts (last_counts begin items) now x) (sym gives.0) o
    by (Over end) o gives = subst (λ (x : Stage P). StageCounts (last_counts begin items) now x) (sym gives.0) o

-- what a law tells of the counts of requests that begin
pub record CountsBegin (P : Type 0) : Type 0 where
  pub served : (facts : VisitFacts) (counts : LinkCounts) (nonce : Version) (cookie : Cookie) (v : Visit P)
      → (v ≡ begun facts counts (way.Reading (read_start facts.now nonce cookie)) Reading) ⊎ (v ≡ begun facts counts way.Resting Opening) → CountsStand counts v
  pub refused : (facts : VisitFacts) (counts : LinkCounts) (why : Refusal) (v : Visit P) → v ≡ begun facts counts way.Resting (Decided (item.Refused why)) → CountsStand counts v
  pub spent : (facts : VisitFacts) (counts : LinkCounts) (seen : ℕ) (v : Visit P) → v ≡ begun facts counts way.Resting (Decided (item.SerialsSpent seen)) → CountsStand counts v

module _ {P : Type 0} (law : CountsBegin P) (last counts : LinkCounts) (since : AreReached last counts) where
  opens_at : (v : Visit P) → v.counts ≡ counts → CountsStand counts v → OpenCounts last counts v
  opens_at v same stands = record { begin = counts; since = since; stands = stands; seen = subst (λ (c : LinkCounts). AreReached c counts) (sym same) (here counts) }

  -- any cookie, for a request whose session is not read
  none : Cookie
  none = record { key = record { 0 = [] }; version = record { node = 0; boot = 0; serial = 0 }; expiry = record { 0 = 0 }; bricks = [] }

  admitted : (facts : VisitFacts) (a : Admission) (cookie : Option Cookie) → StageCounts {P = P} last counts (admitted_visit facts counts a cookie)
  admitted facts a None = opens_at (begun facts counts way.Resting Opening) refl (law.served facts counts a.read none (begun facts counts way.Resting Opening) (inr refl))
  admitted facts a (Some cookie) =
      opens_at (begun facts counts (way.Reading (read_start facts.now a.read cookie)) Reading) refl
      (law.served facts counts a.read cookie (begun facts counts (way.Reading (read_start facts.now a.read cookie)) Reading) (inl refl))

  by_arrival : (front : Place) (head : Head) (now : Moment) (arrival : Arrival) → StageCounts {P = P} last counts (begun_by front counts head now arrival)
  by_arrival front head now (Refused why) =
      opens_at (begun (bare_facts None now front head) counts way.Resting (Decided (item.Refused why))) refl
      (law.refused (bare_facts None now front head) counts why (begun (bare_facts None now front head) counts way.Resting (Decided (item.Refused why))) refl)
  by_arrival front head now (SerialsSpent request seen) =
      opens_at (begun (bare_facts request now front head) counts way.Resting (Decided (item.SerialsSpent seen))) refl
      (law.spent (bare_facts request now front head) counts seen (begun (bare_facts request now front head) counts way.Resting (Decided (item.SerialsSpent seen))) refl)
  by_arrival front head now (Admitted a) = admitted (facts_of a now front head) a a.cookie

pub taken : {P C R S : Type 0} (law : CountsBegin P) (told : C → ℕ) (gives : Gives R) (looks : Looks S) (key : List ℕ) (home : HomeBoot) (begin now counts : LinkCounts) (items : List Item) (s new : Shepherd P)
    (clock clock_after : C) (random random_after : R) (serials serials_after : S) → turn s ≡ turns.Request → now.hushed ≤ counts.hushed → now.got ≤ counts.got
    → TakesRequest told gives looks key home counts s clock random serials new clock_after random_after serials_after → Counting begin now items s → Counting begin counts items new
taken {P} {C} {R} {S} law told gives looks key home begin now counts items s new clock clock_after random random_after serials serials_after is hushed got takes h =
    record { count_on = h.count_on; is_open = by (taken_of s.received) takes } where
      since : AreReached (last_counts begin items) counts
      since = further (last_counts begin items) now counts (subst (λ (x : Stage P). StageCounts (last_counts begin items) now x) (rests s is) h.is_open) (record { hushed = hushed; got = got })

      to : (stage : Stage P) → new.stage ≡ stage → StageCounts (last_counts begin items) counts stage → StageCounts (last_counts begin items) counts new.stage
      to stage same stands = subst (λ (x : Stage P). StageCounts (last_counts begin items) counts x) (sym same) stands

      by : (x : Taken) → TakesBy told gives looks key home counts x s clock random serials new clock_after random_after serials_after → StageCounts (last_counts begin items) counts new.stage
      by (took.Request head) b =
          to (begun_by s.front counts head b.intake.now b.intake.arrival) (ap (λ (x : Shepherd P). x.stage) b.new_is) (by_arrival law (last_counts begin items) counts since s.front head b.intake.now b.intake.arrival)
      by took.Bad r = to _ (ap (λ (x : Shepherd P). x.stage) r.new_is) since
      by (took.TooLong len lines) r = to _ (ap (λ (x : Shepherd P). x.stage) r.new_is) since
      by took.NoCoding r = to _ (ap (λ (x : Shepherd P). x.stage) r.new_is) since
      by (took.BodyTooLong said) r = to _ (ap (λ (x : Shepherd P). x.stage) r.new_is) since
      by took.More r = absurd r
