-- A connection holds on behind what it has seen, step by step.
use Rattle.std.specs.Prelude.{max}
use Rattle.std.proofs.Common.{◌≡◌, ◌⊎◌, inl, inr, ℕ, ◌≤◌, Bool, true, false, List, [], ◌∷◌, ◌++◌, length, arith, refl, sym, ap, ◌∙◌, subst, Option, Some, None}
use Rattle.auction_calls.specs.declared.action.ActionCall.{ActionCall}
use Rattle.call_ticket.specs.declared.next.Answer.{Answer}
use Rattle.call_ticket.specs.declared.next.Next.{Next}
use Rattle.container_core.specs.Container.{ContainerValue, HasGrownBy, event_count, events_of}
use Rattle.container_core.specs.declared.history.Event.{Event}
use Rattle.container_core.specs.declared.history.Event.TheVariants.{Started}
use Rattle.crash_base.specs.declared.numbers.Moment.{Moment}
use Rattle.crash_base.specs.declared.numbers.Place.{Place}
use Rattle.crash_base.specs.declared.numbers.WorkerNo.{WorkerNo}
use Rattle.http_wire.specs.Taking.{taken_of}
use Rattle.http_wire.specs.declared.taken.Head.{Head}
use Rattle.http_wire.specs.declared.taken.Taken.{Taken}
use Rattle.http_wire.specs.declared.taken.Taken.TheVariants as took
use Rattle.outcome_items.specs.declared.item.Holds.{Holds}
use Rattle.outcome_items.specs.declared.item.Item.{Item}
use Rattle.outside.specs.Link.{Tally}
use Rattle.outside.specs.declared.link.LinkCounts.{LinkCounts}
use Rattle.outside.specs.declared.link.LinkEvent.{LinkEvent}
use Rattle.request_intake.specs.Intakes.{Gives, Looks}
use Rattle.request_intake.specs.declared.intake.Admission.{Admission}
use Rattle.request_intake.specs.declared.intake.Arrival.{Arrival}
use Rattle.request_intake.specs.declared.intake.Arrival.TheVariants.{Refused, SerialsSpent, Admitted}
use Rattle.request_intake.specs.declared.intake.HomeBoot.{HomeBoot}
use Rattle.request_visit.specs.Advancing.{Advances}
use Rattle.request_visit.specs.Stepping.{VisitsInside, VisitsWindows}
use Rattle.request_visit.specs.declared.facts.VisitFacts.{VisitFacts}
use Rattle.request_visit.specs.declared.visit.Visit.{Visit}
use Rattle.send_windows.specs.Windows.{WindowsValue}
use Rattle.session_cookie.specs.declared.cookie.Cookie.{Cookie}
use Rattle.shepherd.specs.Shepherds.{fresh, turn}
use Rattle.shepherd.specs.Steps.{GivesBack, IfOpen, OpensCall, OpensStage, PutsOut, ShepherdSteps, TakesBy, TakesItem, TakesRequest, VisitsOutside, admitted_visit, begun_by, dropped_stage, facts_of, rested}
use Rattle.shepherd.specs.declared.shepherd.AskedCall.{AskedCall}
use Rattle.shepherd.specs.declared.shepherd.Shepherd.{Shepherd}
use Rattle.shepherd.specs.declared.shepherd.ShepherdTurn.TheVariants as turns
use Rattle.shepherd.specs.declared.shepherd.Stage.{Stage}
use Rattle.shepherd.specs.declared.shepherd.Stage.TheVariants.{Resting, Serving, Refusing, Over}
use Rattle.served_items.specs.Holding.{HoldOn, Holding, IsHeldBehind, furthest}
use Rattle.served_items.proofs.Stepping.{longer_length, went}
use Rattle.served_items.proofs.Unchanged.{advance_same, back_same, inside_held, item_same, windows_same}

-- one more item behind those that hold on
joins : (reached : ℕ) (items : List Item) (i : Item) → (1 ≤ i.holds.held → furthest reached items ≤ i.holds.held) → HoldOn reached items → HoldOn reached (items ++ i ∷ [])
joins reached [] i behind h = (behind, tt)
joins reached (j ∷ items) i behind h = (h.0, joins (max reached j.holds.held) items i behind h.1)

lasts : (reached : ℕ) (items : List Item) (i : Item) → furthest reached (items ++ i ∷ []) ≡ max (furthest reached items) i.holds.held
lasts reached [] i = refl
lasts reached (j ∷ items) i = lasts (max reached j.holds.held) items i

-- the furthest is at least that behind which the items hold on
reaches : (reached : ℕ) (items : List Item) → reached ≤ furthest reached items
reaches reached [] = omega arith
reaches reached (i ∷ items) = let more = reaches (max reached i.holds.held) items in omega (arith, more)

-- and at least what each of them reached
passes : (reached : ℕ) (before behind : List Item) (i : Item) → i.holds.held ≤ furthest reached (before ++ i ∷ behind)
passes reached [] behind i = let more = reaches (max reached i.holds.held) behind in omega (arith, more)
passes reached (j ∷ before) behind i = passes (max reached j.holds.held) before behind i

-- an item is held behind what items behind it hold on to
pub held_since : (reached : ℕ) (before behind : List Item) (i : Item) → HoldOn reached (before ++ i ∷ behind) → 1 ≤ i.holds.held → reached ≤ i.holds.held
held_since reached [] behind i h some = h.0 some
held_since reached (j ∷ before) behind i h some = let more = held_since (max reached j.holds.held) before behind i h.1 some in omega (arith, more)

pub held_later : (reached : ℕ) (before between behind : List Item) (i later : Item) → HoldOn reached (before ++ i ∷ (between ++ later ∷ behind)) → 1 ≤ later.holds.held → i.holds.held ≤ later.holds.held
held_later reached [] between behind i later h some = let more = held_since (max reached i.holds.held) between behind later h.1 some in omega (arith, more)
held_later reached (j ∷ before) between behind i later h some = held_later (max reached j.holds.held) before between behind i later h.1 some

pub held_within : (reached last : ℕ) (before behind : List Item) (i : Item) → furthest reached (before ++ i ∷ behind) ≤ last → i.holds.held ≤ last
held_within reached last before behind i within = let at = passes reached before behind i in omega (arith, at, within)

grows : (container after : ContainerValue) → HasGrownBy container after → length (events_of container) ≤ length (events_of after)
grows container after grown =
    subst (λ es. length (events_of container) ≤ length es) (sym (ap (λ x. Started x ∷ after.since) grown.boot.start ∙ ap (λ xs. Started container.boot.start ∷ xs) grown.since))
    (longer_length (events_of container) grown.more)

-- behind a request none is open
at_rest : (P : Type 0) (reached : ℕ) (history : List Event) (close : Bool) → IfOpen {P = P} (rested close) (λ v call. IsHeldBehind reached history v)
at_rest P reached history true = tt
at_rest P reached history false = tt

-- a request that begins is not held yet
admitted : (P : Type 0) (reached : ℕ) (history : List Event) (facts : VisitFacts) (counts : LinkCounts) (a : Admission) (cookie : Option Cookie) → IfOpen {P = P} (admitted_visit facts counts a cookie) (λ v call. IsHeldBehind reached history v)
admitted P reached history facts counts a None = record { held = λ some. absurd (omega (arith, some)); within = omega arith }
admitted P reached history facts counts a (Some cookie) = record { held = λ some. absurd (omega (arith, some)); within = omega arith }

by_arrival : (P : Type 0) (reached : ℕ) (history : List Event) (front : Place) (counts : LinkCounts) (head : Head) (now : Moment) (arrival : Arrival)
    → IfOpen {P = P} (begun_by front counts head now arrival) (λ v call. IsHeldBehind reached history v)
by_arrival P reached history front counts head now (Refused why) = record { held = λ some. absurd (omega (arith, some)); within = omega arith }
by_arrival P reached history front counts head now (SerialsSpent request seen) = record { held = λ some. absurd (omega (arith, some)); within = omega arith }
by_arrival P reached history front counts head now (Admitted a) = admitted P reached history (facts_of a now front head) counts a a.cookie

module _ {P : Type 0} where
  -- another stage holds on
  with_stage : (begun : ℕ) (history : List Event) (items : List Item) (s new : Shepherd P) → IfOpen new.stage (λ v call. IsHeldBehind (furthest begun items) history v) → Holding begun history items s → Holding begun history items new
  with_stage begun history items s new stands h = record { hold_on = h.hold_on; within = h.within; is_open = stands }

  pub begins : (history : List Event) → Holding {P = P} (length history) history [] fresh
  begins history = record { hold_on = tt; within = omega arith; is_open = tt }

  pub still : (begun : ℕ) (history : List Event) (items : List Item) (s new : Shepherd P) → new.stage ≡ s.stage → Holding begun history items s → Holding begun history items new
  still begun history items s new same h =
      with_stage begun history items s new (subst (λ (x : Stage P). IfOpen x (λ v call. IsHeldBehind (furthest begun items) history v)) (sym same) h.is_open) h

  later_so : (reached : ℕ) (history after : List Event) (stage : Stage P) → length history ≤ length after → IfOpen stage (λ v call. IsHeldBehind reached history v) → IfOpen stage (λ v call. IsHeldBehind reached after v)
  later_so reached history after Resting more o = tt
  later_so reached history after (Serving v call) more o = record { held = o.held; within = (let within = o.within in omega (arith, within, more)) }
  later_so reached history after (Refusing why bytes) more o = tt
  later_so reached history after (Over end) more o = tt

  pub meanwhile : (begun : ℕ) (history more : List Event) (items : List Item) (s : Shepherd P) → Holding begun history items s → Holding begun (history ++ more) items s
  meanwhile begun history more items s h =
      let longer = longer_length history more in
      record {
        hold_on = h.hold_on;
        within = (let within = h.within in omega (arith, within, longer));
        is_open = later_so (furthest begun items) history (history ++ more) s.stage longer h.is_open;
      }

  -- a request that is held as before
  held_so : (reached : ℕ) (history : List Event) (v w : Visit P) → w.holds ≡ v.holds → IsHeldBehind reached history v → IsHeldBehind reached history w
  held_so reached history v w same h = record {
    held = subst (λ (x : Holds). 1 ≤ x.held → reached ≤ x.held) (sym same) h.held;
    within = subst (λ (x : Holds). x.held ≤ length history) (sym same) h.within;
  }

  stepped : (So : Visit P → Visit P → Type 0) (begun : ℕ) (history : List Event) (items : List Item) (old new : Shepherd P) → ShepherdSteps So old new → ((v w : Visit P) → So v w → w.holds ≡ v.holds)
      → Holding begun history items old → Holding begun history items new
  stepped So begun history items old new steps same h =
      let g = went So old new steps in
      let o : IsHeldBehind (furthest begun items) history g.visit = subst (λ (x : Stage P). IfOpen x (λ v call. IsHeldBehind (furthest begun items) history v)) g.was h.is_open in
      with_stage begun history items old new (subst (λ (x : Stage P). IfOpen x (λ v call. IsHeldBehind (furthest begun items) history v)) (sym g.is)
      (held_so (furthest begun items) history g.visit g.after (same g.visit g.after g.so) o)) h

  pub outside : {L : Type 0} (makes : L → LinkEvent → L → Type 0) (tally : L → Tally) (begun : ℕ) (history : List Event) (items : List Item) (old new : Shepherd P) (link after : L)
      → ShepherdSteps (λ v w. VisitsOutside makes tally v link w after) old new → Holding begun history items old → Holding begun history items new
  outside makes tally begun history items old new link after steps h =
      stepped (λ (v : Visit P) w. VisitsOutside makes tally v link w after) begun history items old new steps (λ v w so. ap (λ (x : Visit P). x.holds) so.rest) h

  pub windows : (begun : ℕ) (history : List Event) (items : List Item) (old new : Shepherd P) (win after : WindowsValue) → ShepherdSteps (λ v w. VisitsWindows v win w after) old new
      → Holding begun history items old → Holding begun history items new
  windows begun history items old new win after steps h =
      stepped (λ (v : Visit P) w. VisitsWindows v win w after) begun history items old new steps (λ v w so. (windows_same v win w after so).holds) h

  pub advance : (begun : ℕ) (history : List Event) (items : List Item) (key : List ℕ) (old new : Shepherd P) → ShepherdSteps (λ v w. Advances key v v.work w) old new
      → Holding begun history items old → Holding begun history items new
  advance begun history items key old new steps h =
      stepped (λ (v : Visit P) w. Advances key v v.work w) begun history items old new steps (λ v w so. (advance_same key v w so).holds) h

  pub inside : (asks : P → List Answer → Next) (begun : ℕ) (items : List Item) (old new : Shepherd P) (container after : ContainerValue) → ShepherdSteps (λ v w. VisitsInside asks v container w after) old new
      → HasGrownBy container after → Holding begun (events_of container) items old → Holding begun (events_of after) items new
  inside asks begun items old new container after steps grown h =
      let g = went (λ (v : Visit P) w. VisitsInside asks v container w after) old new steps in
      let longer = grows container after grown in
      let within = h.within in
      let o : IsHeldBehind (furthest begun items) (events_of container) g.visit = subst (λ (x : Stage P). IfOpen x (λ v call. IsHeldBehind (furthest begun items) (events_of container) v)) g.was h.is_open in
      let now : IsHeldBehind (furthest begun items) (events_of after) g.visit = later_so (furthest begun items) (events_of container) (events_of after) (Serving g.visit g.call) longer o in
      let held : IsHeldBehind (furthest begun items) (events_of after) g.after = by g.visit g.after now longer within (inside_held asks g.visit container g.after after g.so) in
      record {
        hold_on = h.hold_on;
        within = omega (arith, within, longer);
        is_open = subst (λ (x : Stage P). IfOpen x (λ v call. IsHeldBehind (furthest begun items) (events_of after) v)) (sym g.is) held;
      }
    where
      by : (v w : Visit P) → IsHeldBehind (furthest begun items) (events_of after) v → length (events_of container) ≤ length (events_of after) → furthest begun items ≤ length (events_of container)
          → (w.holds ≡ v.holds) ⊎ (w.holds.held ≡ event_count after) → IsHeldBehind (furthest begun items) (events_of after) w
      by v w now longer within (inl same) = held_so (furthest begun items) (events_of after) v w same now
      by v w now longer within (inr all) = record { held = λ some. omega (arith, within, longer, all); within = omega (arith, all) }

  pub opens : {M : Type 0} (makes : M → ActionCall → List ℕ → P → Type 0) (begun : ℕ) (history : List Event) (items : List Item) (s : Shepherd P) (stage : Stage P) (maker : M) (worker : WorkerNo)
      → OpensStage makes maker worker s.stage stage → Holding begun history items s → Holding begun history items (record s { stage = stage })
  opens makes begun history items s stage maker worker does h = with_stage begun history items s (record s { stage = stage }) (by s.stage h.is_open does) h where
    one : (v : Visit P) (call : Option AskedCall) → IsHeldBehind (furthest begun items) history v → OpensCall makes maker worker v call stage → IfOpen stage (λ w c. IsHeldBehind (furthest begun items) history w)
    one v None o does = absurd does
    one v (Some asked) o does =
        subst (λ (x : Stage P). IfOpen x (λ w c. IsHeldBehind (furthest begun items) history w)) (sym does.2)
        (held_so (furthest begun items) history v does.0 (ap (λ (x : Visit P). x.holds) does.1.new_is) o)

    by : (x : Stage P) → IfOpen x (λ v call. IsHeldBehind (furthest begun items) history v) → OpensStage makes maker worker x stage → IfOpen stage (λ v call. IsHeldBehind (furthest begun items) history v)
    by Resting o does = absurd does
    by (Serving v call) o does = one v call o does
    by (Refusing why bytes) o does = absurd does
    by (Over end) o does = absurd does

  pub out : (begun : ℕ) (history : List Event) (items : List Item) (bytes : List ℕ) (s : Shepherd P) (stage : Stage P) → PutsOut s.stage bytes stage
      → Holding begun history items s → Holding begun history items (record s { stage = stage })
  out begun history items bytes s stage puts h = with_stage begun history items s (record s { stage = stage }) (by s.stage h.is_open puts) h where
    to : (x : Stage P) → stage ≡ x → IfOpen x (λ v call. IsHeldBehind (furthest begun items) history v) → IfOpen stage (λ v call. IsHeldBehind (furthest begun items) history v)
    to x is o = subst (λ (y : Stage P). IfOpen y (λ v call. IsHeldBehind (furthest begun items) history v)) (sym is) o

    by : (x : Stage P) → IfOpen x (λ v call. IsHeldBehind (furthest begun items) history v) → PutsOut x bytes stage → IfOpen stage (λ v call. IsHeldBehind (furthest begun items) history v)
    by Resting o puts = absurd puts
    by (Serving v call) o puts = to _ puts.1 (record { held = o.held; within = o.within })
    by (Refusing why last) o puts = to _ puts.1 tt
    by (Over end) o puts = absurd puts

  pub item_joins : (begun : ℕ) (history : List Event) (items : List Item) (i : Item) (s : Shepherd P) (stage : Stage P) → TakesItem s.stage i stage
      → Holding begun history items s → Holding begun history (items ++ i ∷ []) (record s { front = i.holds.front; stage = stage })
  item_joins begun history items i s stage takes h = by s.stage h.is_open takes where
    by : (x : Stage P) → IfOpen x (λ v call. IsHeldBehind (furthest begun items) history v) → TakesItem x i stage → Holding begun history (items ++ i ∷ []) (record s { front = i.holds.front; stage = stage })
    by Resting o takes = absurd takes
    by (Serving v call) o takes =
        let same : i.holds ≡ v.holds = (item_same v i takes.0).1 in
        let held : 1 ≤ i.holds.held → furthest begun items ≤ i.holds.held = subst (λ (x : Holds). 1 ≤ x.held → furthest begun items ≤ x.held) (sym same) o.held in
        let few : i.holds.held ≤ length history = subst (λ (x : Holds). x.held ≤ length history) (sym same) o.within in
        let within = h.within in
        let last = lasts begun items i in
        record {
          hold_on = joins begun items i held h.hold_on;
          within = omega (arith, few, within, last);
          is_open = subst (λ (x : Stage P). IfOpen x (λ w c. IsHeldBehind (furthest begun (items ++ i ∷ [])) history w)) (sym takes.1)
              (at_rest P (furthest begun (items ++ i ∷ [])) history v.facts.close);
        }
    by (Refusing why bytes) o takes = absurd takes
    by (Over end) o takes = absurd takes

  pub given_up : (begun : ℕ) (history : List Event) (items : List Item) (s : Shepherd P) → Holding begun history items s → Holding begun history items (record s { stage = dropped_stage s.stage })
  given_up begun history items s h = with_stage begun history items s (record s { stage = dropped_stage s.stage }) (by s.stage h.is_open) h where
    by : (x : Stage P) → IfOpen x (λ v call. IsHeldBehind (furthest begun items) history v) → IfOpen (dropped_stage x) (λ v call. IsHeldBehind (furthest begun items) history v)
    by Resting o = tt
    by (Serving v call) o = record { held = o.held; within = o.within }
    by (Refusing why bytes) o = tt
    by (Over end) o = tt

  pub back : (begun : ℕ) (history : List Event) (items : List Item) (s : Shepherd P) (stage : Stage P) (win after : WindowsValue) → GivesBack s.stage win stage after
      → Holding begun history items s → Holding begun history items (record s { stage = stage })
  back begun history items s stage win after gives h = with_stage begun history items s (record s { stage = stage }) (by s.stage h.is_open gives) h where
    to : (x : Stage P) → stage ≡ x → IfOpen x (λ v call. IsHeldBehind (furthest begun items) history v) → IfOpen stage (λ v call. IsHeldBehind (furthest begun items) history v)
    to x is o = subst (λ (y : Stage P). IfOpen y (λ v call. IsHeldBehind (furthest begun items) history v)) (sym is) o

    by : (x : Stage P) → IfOpen x (λ v call. IsHeldBehind (furthest begun items) history v) → GivesBack x win stage after → IfOpen stage (λ v call. IsHeldBehind (furthest begun items) history v)
    by Resting o gives = to Resting gives.0 tt
    by (Serving v call) o gives = to (Serving gives.0 call) gives.2 (held_so (furthest begun items) history v gives.0 (back_same v gives.0 gives.1.back).holds o)
    by (Refusing why bytes) o gives = to (Refusing why bytes) gives.0 tt
    by (Over end) o gives = to (Over end) gives.0 tt

pub taken : {P C R S : Type 0} (told : C → ℕ) (gives : Gives R) (looks : Looks S) (key : List ℕ) (home : HomeBoot) (counts : LinkCounts) (begun : ℕ) (history : List Event) (items : List Item) (s new : Shepherd P)
    (clock clock_after : C) (random random_after : R) (serials serials_after : S) → turn s ≡ turns.Request
    → TakesRequest told gives looks key home counts s clock random serials new clock_after random_after serials_after → Holding begun history items s → Holding begun history items new
taken {P} {C} {R} {S} told gives looks key home counts begun history items s new clock clock_after random random_after serials serials_after is takes h =
    record { hold_on = h.hold_on; within = h.within; is_open = by (taken_of s.received) takes } where
      to : (stage : Stage P) → new.stage ≡ stage → IfOpen stage (λ v call. IsHeldBehind (furthest begun items) history v) → IfOpen new.stage (λ v call. IsHeldBehind (furthest begun items) history v)
      to stage same stands = subst (λ (x : Stage P). IfOpen x (λ v call. IsHeldBehind (furthest begun items) history v)) (sym same) stands

      by : (x : Taken) → TakesBy told gives looks key home counts x s clock random serials new clock_after random_after serials_after → IfOpen new.stage (λ v call. IsHeldBehind (furthest begun items) history v)
      by (took.Request head) b =
          to (begun_by s.front counts head b.intake.now b.intake.arrival) (ap (λ (x : Shepherd P). x.stage) b.new_is) (by_arrival P (furthest begun items) history s.front counts head b.intake.now b.intake.arrival)
      by took.Bad r = to _ (ap (λ (x : Shepherd P). x.stage) r.new_is) tt
      by (took.TooLong len lines) r = to _ (ap (λ (x : Shepherd P). x.stage) r.new_is) tt
      by took.NoCoding r = to _ (ap (λ (x : Shepherd P). x.stage) r.new_is) tt
      by (took.BodyTooLong said) r = to _ (ap (λ (x : Shepherd P). x.stage) r.new_is) tt
      by took.More r = absurd r
