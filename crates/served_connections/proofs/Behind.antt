-- Items begin behind what the journal had when their connection began.
use Rattle.std.specs.Prelude.{option_map, unwrap_or}
use Rattle.std.proofs.Common.{◌≡◌, ◌≢◌, ◌≤◌, ℕ, inl, inr, arith, Bool, true, false, List, [], ◌∷◌, ◌++◌, length, Option, Some, None, refl, sym, ap, subst}
use Rattle.std.proofs.lemmas.List.Elements.{All-nil, All-push}
use Rattle.call_attempts.specs.Attempt.{AttemptValue}
use Rattle.call_ticket.specs.declared.next.Answer.{Answer}
use Rattle.call_ticket.specs.declared.next.Next.{Next}
use Rattle.container_core.specs.Container.{ContainerValue, events_of}
use Rattle.crash_base.specs.declared.numbers.Moment.{Moment}
use Rattle.crash_base.specs.declared.numbers.Place.{Place}
use Rattle.http_wire.specs.declared.taken.Head.{Head}
use Rattle.http_wire.specs.declared.taken.Taken.{Taken}
use Rattle.http_wire.specs.declared.taken.Taken.TheVariants as took
use Rattle.outcome_items.specs.declared.item.Holds.{Holds}
use Rattle.outcome_items.specs.declared.item.Item.{Item}
use Rattle.outside.specs.declared.link.LinkCounts.{LinkCounts}
use Rattle.request_intake.specs.Intakes.{Gives, Looks}
use Rattle.request_intake.specs.declared.intake.Arrival.{Arrival}
use Rattle.request_intake.specs.declared.intake.Arrival.TheVariants as arrival
use Rattle.request_intake.specs.declared.intake.HomeBoot.{HomeBoot}
use Rattle.request_tries.specs.Serving.{TriesValue, begun_at}
use Rattle.request_tries.specs.Tries.{first_begin}
use Rattle.request_tries.specs.declared.outcome.Ended.{Ended}
use Rattle.request_tries.specs.declared.outcome.Try.{Try}
use Rattle.request_visit.specs.Advancing.{Advances, HearsReadOf, IsItemOf, after_read, departed}
use Rattle.request_visit.specs.Serving.{GoesOn, closing_of}
use Rattle.request_visit.specs.Stepping.{IsGivenBack, ServesWork, VisitsInside, VisitsWindows, after_closing_if, dropped, left_so}
use Rattle.request_visit.specs.Visits.{after_outcome, fate_missed, fate_written, overloaded, with_fate}
use Rattle.request_visit.specs.declared.ready.Ready.TheVariants.{Respond, Write}
use Rattle.request_visit.specs.declared.serving.Closed.{Closed}
use Rattle.request_visit.specs.declared.serving.Closed.TheVariants as closes
use Rattle.request_visit.specs.declared.serving.Closing.{Closing}
use Rattle.request_visit.specs.declared.visit.Fate.{Fate}
use Rattle.request_visit.specs.declared.visit.Visit.{Visit}
use Rattle.request_visit.specs.declared.visit.Work.{Work}
use Rattle.request_visit.specs.declared.visit.Work.TheVariants.{Reading, Opening, Serving as ServingBy, Committed, Decided, Answered, Left}
use Rattle.request_visit.proofs.Ended.{BeginWithFirstTries, begun_kept, ended_from}
use Rattle.send_windows.specs.Windows.{WindowsValue}
use Rattle.send_windows.specs.declared.fact.WindowFact.{WindowFact}
use Rattle.session_cookie.specs.declared.cookie.Cookie.{Cookie}
use Rattle.session_way.specs.declared.session_read.ReadOutcome.{ReadOutcome}
use Rattle.session_way.specs.declared.session_read.ReadOutcome.TheVariants as read
use Rattle.session_way.specs.declared.session_write.WriteOutcome.{WriteOutcome}
use Rattle.session_way.specs.declared.session_write.WriteOutcome.TheVariants as outcome
use Rattle.session_way.specs.declared.way.SessionWay.{SessionWay}
use Rattle.session_way.specs.declared.way.SessionWay.TheVariants as way
use Rattle.shepherd.specs.Steps.{GivesBack, IfOpen, OpensStage, PutsOut, StepsVisit, TakesBy, TakesItem, admitted_visit, begun_by, dropped_stage, facts_of, rested}
use Rattle.shepherd.specs.declared.shepherd.AskedCall.{AskedCall}
use Rattle.shepherd.specs.declared.shepherd.Shepherd.{Shepherd}
use Rattle.shepherd.specs.declared.shepherd.Stage.{Stage}
use Rattle.shepherd.specs.declared.shepherd.Stage.TheVariants.{Resting, Serving, Refusing, Over}
use Rattle.auction_calls.specs.declared.action.ActionCall.{ActionCall}
use Rattle.crash_base.specs.declared.numbers.WorkerNo.{WorkerNo}
use Rattle.served_connections.specs.Behind.{Beginning, BeginsBehind, IfTries, ItemBehind}

-- the open request of a stage begins behind so many entries
abbrev StageBehind : {P : Type 0} → ℕ → ℕ → Stage P → Type 0
StageBehind {P} least n stage = IfOpen stage (λ (v : Visit P) (call : Option AskedCall). BeginsBehind least n v)

-- Where tries begin that have not begun is no earlier in a longer journal.
later_begin : (ts : List Try) (a : Option AttemptValue) (n m k : ℕ) → n ≤ m
    → k ≤ first_begin ts (unwrap_or (option_map (λ (x : AttemptValue). x.ticket.call.at.0) a) n)
    → k ≤ first_begin ts (unwrap_or (option_map (λ (x : AttemptValue). x.ticket.call.at.0) a) m)
later_begin [] None n m k le since = omega (arith, le, since)
later_begin [] (Some a) n m k le since = since
later_begin (t ∷ ts) a n m k le since = since

later_tries : {P : Type 0} (work : Work P) (least n m : ℕ) → n ≤ m → IfTries work (λ tries. least ≤ begun_at tries n) → IfTries work (λ tries. least ≤ begun_at tries m)
later_tries Reading least n m le h = tt
later_tries Opening least n m le h = tt
later_tries (ServingBy tries program) least n m le h = later_begin tries.tries tries.attempt n m least le h
later_tries (Committed place again shown) least n m le h = tt
later_tries (Decided became) least n m le h = tt
later_tries (Answered fate bytes) least n m le h = tt
later_tries (Left fate) least n m le h = tt

pub grown_behind : {P : Type 0} (least n m : ℕ) (items : List Item) (s : Shepherd P) → n ≤ m → Beginning least n items s → Beginning least m items s
grown_behind {P} least n m items s le h = record { least_is = let small = h.least_is in omega (arith, le, small); each = h.each; is_open = by s.stage h.is_open } where
  by : (x : Stage P) → StageBehind least n x → StageBehind least m x
  by Resting o = tt
  by (Serving v call) o = record { tries = later_tries v.work least n m le o.tries; from = o.from }
  by (Refusing why bytes) o = tt
  by (Over end) o = tt

pub begun_behind_all : {P : Type 0} (n : ℕ) (s : Shepherd P) → StageBehind n n s.stage → Beginning n n [] s
begun_behind_all n s o = record { least_is = omega arith; each = All-nil (ItemBehind n); is_open = o }

pub still_behind : {P : Type 0} (least n : ℕ) (items : List Item) (s new : Shepherd P) → new.stage ≡ s.stage → Beginning least n items s → Beginning least n items new
still_behind {P} least n items s new same h = record { least_is = h.least_is; each = h.each; is_open = subst (λ (x : Stage P). StageBehind least n x) (sym same) h.is_open }

-- behind a step of the open request
pub steps_behind : {P : Type 0} (So : Visit P → Visit P → Type 0) (least n m : ℕ) (items : List Item) (old new : Shepherd P) → least ≤ m
    → ((v w : Visit P) → So v w → BeginsBehind least n v → BeginsBehind least m w) → StepsVisit So old.stage new.stage → Beginning least n items old → Beginning least m items new
steps_behind {P} So least n m items old new small behind steps h = record { least_is = small; each = h.each; is_open = by old.stage steps h.is_open } where
  by : (x : Stage P) → StepsVisit So x new.stage → StageBehind least n x → StageBehind least m new.stage
  by Resting steps o = absurd steps
  by (Serving v call) steps o = subst (λ (x : Stage P). StageBehind least m x) (sym steps.2) (behind v steps.0 steps.1 o)
  by (Refusing why bytes) steps o = absurd steps
  by (Over end) steps o = absurd steps

fated : {P : Type 0} (change : Fate → Fate) (work : Work P) (So : TriesValue → Type 0) → IfTries work So → IfTries (with_fate change work) So
fated change Reading So h = tt
fated change Opening So h = tt
fated change (ServingBy tries program) So h = h
fated change (Committed place again shown) So h = tt
fated change (Decided became) So h = tt
fated change (Answered fate bytes) So h = tt
fated change (Left fate) So h = tt

full_told : {P : Type 0} (full : List WindowFact) (work : Work P) (So : TriesValue → Type 0) → IfTries work So → IfTries (overloaded full work) So
full_told full Reading So h = tt
full_told full Opening So h = tt
full_told full (ServingBy tries program) So h = h
full_told full (Committed place again shown) So h = tt
full_told full (Decided became) So h = tt
full_told full (Answered fate bytes) So h = tt
full_told full (Left fate) So h = tt

told_behind : {P : Type 0} (least n : ℕ) (v : Visit P) (w : SessionWay) (told : Option WriteOutcome) → BeginsBehind least n v → BeginsBehind least n (after_outcome told (record v { way = w }))
told_behind least n v w None h = record { tries = h.tries; from = h.from }
told_behind least n v w (Some (outcome.Written cookie)) h = record { tries = fated fate_written v.work (λ tries. least ≤ begun_at tries n) h.tries; from = h.from }
told_behind least n v w (Some (outcome.Missed causes)) h = record { tries = fated (fate_missed causes) v.work (λ tries. least ≤ begun_at tries n) h.tries; from = h.from }

pub outside_behind : {P : Type 0} (least n : ℕ) (v w : Visit P) (counts : LinkCounts) → w ≡ record v { way = w.way; counts = counts } → BeginsBehind least n v → BeginsBehind least n w
outside_behind {P} least n v w counts is h = subst (λ (x : Visit P). BeginsBehind least n x) (sym is) (record { tries = h.tries; from = h.from })

pub windows_behind : {P : Type 0} (least n : ℕ) (v w : Visit P) (windows after : WindowsValue) → VisitsWindows v windows w after → BeginsBehind least n v → BeginsBehind least n w
windows_behind {P} least n v w windows after (inl given) h = subst (λ (x : Visit P). BeginsBehind least n x) (sym given.new_is) (told_behind least n v w.way given.outcome h)
windows_behind {P} least n v w windows after (inr refused) h =
    subst (λ (x : Visit P). BeginsBehind least n x) (sym refused.new_is) (record { tries = full_told refused.full v.work (λ tries. least ≤ begun_at tries n) h.tries; from = h.from })

pub back_behind : {P : Type 0} (least n : ℕ) (v w : Visit P) → IsGivenBack v w → BeginsBehind least n v → BeginsBehind least n w
back_behind {P} least n v w back h = subst (λ (x : Visit P). BeginsBehind least n x) (sym back.new_is) (told_behind least n v way.Resting back.outcome h)

read_behind : {P : Type 0} (least n : ℕ) (v : Visit P) (told : ReadOutcome) → BeginsBehind least n v → BeginsBehind least n (after_read told v)
read_behind least n v (read.Found lease) h = record { tries = tt; from = h.from }
read_behind least n v (read.Expired now expiry) h = record { tries = tt; from = h.from }
read_behind least n v (read.Lost causes) h = record { tries = tt; from = h.from }

hearing_behind : {P : Type 0} (least n : ℕ) (w : SessionWay) (v new : Visit P) → HearsReadOf w v new → BeginsBehind least n v → BeginsBehind least n new
hearing_behind {P} least n w v new hears h = by w hears where
  opening : new ≡ record v { work = Opening } → BeginsBehind least n new
  opening is = subst (λ (x : Visit P). BeginsBehind least n x) (sym is) (record { tries = tt; from = h.from })

  by : (w : SessionWay) → HearsReadOf w v new → BeginsBehind least n new
  by (way.Reading r) hears = subst (λ (x : Visit P). BeginsBehind least n x) (sym hears.new_is) (read_behind least n v hears.outcome h)
  by way.Resting hears = opening hears
  by (way.Ordered order) hears = opening hears
  by (way.Writing x) hears = opening hears
  by (way.Settling x) hears = opening hears
  by (way.Holding passes) hears = opening hears

pub advance_behind : {P : Type 0} (least n : ℕ) (key : List ℕ) (v w : Visit P) → Advances key v v.work w → BeginsBehind least n v → BeginsBehind least n w
advance_behind {P} least n key v w advances h = by v.work advances where
  same : w ≡ v → BeginsBehind least n w
  same is = subst (λ (x : Visit P). BeginsBehind least n x) (sym is) h

  answered : (fate : Fate) (bytes : List ℕ) → w ≡ record v { work = Answered fate bytes } → BeginsBehind least n w
  answered fate bytes is = subst (λ (x : Visit P). BeginsBehind least n x) (sym is) (record { tries = tt; from = h.from })

  by : (work : Work P) → Advances key v work w → BeginsBehind least n w
  by Reading a = hearing_behind least n v.way v w a h
  by Opening a = same a
  by (ServingBy tries program) a = same a
  by (Committed place again shown) a = answered _ a.bytes a.new_is
  by (Decided became) a = answered _ _ a
  by (Answered fate bytes) a = same a
  by (Left fate) a = same a

left_behind : {P : Type 0} (least m : ℕ) (closed : Closed) (v : Visit P) → least ≤ v.holds.from.0 → BeginsBehind least m (left_so closed v)
left_behind least m (closes.Page place again (Respond bytes)) v le = record { tries = tt; from = λ held. le }
left_behind least m (closes.Page place again (Write order shown)) v le = record { tries = tt; from = λ held. le }
left_behind least m (closes.Other became) v le = record { tries = tt; from = λ held. le }

pub inside_behind : {P : Type 0} (first : BeginWithFirstTries) (asks : P → List Answer → Next) (least : ℕ) (v w : Visit P) (container after : ContainerValue)
    → VisitsInside asks v container w after → BeginsBehind least (length container.boot.entries) v → BeginsBehind least (length after.boot.entries) w
inside_behind {P} first asks least v w container after visits h = subst (λ (x : Visit P). BeginsBehind least m x) (sym visits.new_is) (by v.work h.tries visits.serves) where
  m : ℕ
  m = length after.boot.entries

  by : (work : Work P) → IfTries work (λ tries. least ≤ begun_at tries (length container.boot.entries)) → ServesWork asks container v.facts v.lease work visits.closing after visits.work
      → BeginsBehind least m (after_closing_if visits.closing (record v { work = visits.work }))
  by Reading since serves = absurd serves
  by Opening since serves = absurd serves
  by (ServingBy tries program) since serves =
      subst (λ (c : Option Closing). BeginsBehind least m (after_closing_if c (record v { work = visits.work }))) (sym serves.serves.closing_is)
      (subst (λ (work : Work P). BeginsBehind least m (after_closing_if (option_map (closing_of v.facts v.lease (events_of after)) serves.serves.end) (record v { work = work }))) (sym serves.work_is)
      (closes_so serves.serves.end refl)) where
        closes_so : (end : Option Ended) → serves.serves.end ≡ end → BeginsBehind least m (after_closing_if (option_map (closing_of v.facts v.lease (events_of after)) end) (record v { work = ServingBy serves.after program }))
        closes_so None is = record {
          tries =
              subst (λ (k : ℕ). least ≤ k)
              (sym (begun_kept first container serves.serves.between after (asks program) tries serves.serves.mid serves.after serves.serves.to m serves.serves.steps
              (subst (λ (o : Option Ended). GoesOn serves.serves.between serves.serves.mid serves.serves.to o after serves.after) is serves.serves.goes_on)))
              since;
          from = h.from;
        }
        closes_so (Some e) is =
            let goes = subst (λ (o : Option Ended). GoesOn serves.serves.between serves.serves.mid serves.serves.to o after serves.after) is serves.serves.goes_on in
            let from = ended_from first container serves.serves.between after (asks program) tries serves.serves.mid serves.after serves.serves.to e serves.serves.steps goes in
            left_behind least m (closing_of v.facts v.lease (events_of after) e).closed _ (subst (λ (k : ℕ). least ≤ k) (sym from) since)
  by (Committed place again shown) since serves = absurd serves
  by (Decided became) since serves = absurd serves
  by (Answered fate bytes) since serves = absurd serves
  by (Left fate) since serves = absurd serves

pub opens_behind : {P M : Type 0} (makes : M → ActionCall → List ℕ → P → Type 0) (maker : M) (worker : WorkerNo) (least n : ℕ) (items : List Item) (s : Shepherd P) (stage : Stage P)
    → OpensStage makes maker worker s.stage stage → Beginning least n items s → Beginning least n items (record s { stage = stage })
opens_behind {P} makes maker worker least n items s stage opens h = record { least_is = h.least_is; each = h.each; is_open = by s.stage opens h.is_open } where
  by : (x : Stage P) → OpensStage makes maker worker x stage → StageBehind least n x → StageBehind least n stage
  by Resting opens o = absurd opens
  by (Serving v None) opens o = absurd opens
  by (Serving v (Some asked)) opens o =
      subst (λ (x : Stage P). StageBehind least n x) (sym opens.2) (subst (λ (x : Visit P). BeginsBehind least n x) (sym opens.1.new_is) (record { tries = h.least_is; from = o.from }))
  by (Refusing why bytes) opens o = absurd opens
  by (Over end) opens o = absurd opens

departed_tries : {P : Type 0} (work : Work P) (So : TriesValue → Type 0) → IfTries work So → IfTries (departed work) So
departed_tries Reading So h = tt
departed_tries Opening So h = tt
departed_tries (ServingBy tries program) So h = h
departed_tries (Committed place again shown) So h = tt
departed_tries (Decided became) So h = tt
departed_tries (Answered fate bytes) So h = tt
departed_tries (Left fate) So h = tt

pub out_behind : {P : Type 0} (least n : ℕ) (items : List Item) (bytes : List ℕ) (s : Shepherd P) (stage : Stage P) → PutsOut s.stage bytes stage → Beginning least n items s → Beginning least n items (record s { stage = stage })
out_behind {P} least n items bytes s stage puts h = record { least_is = h.least_is; each = h.each; is_open = by s.stage puts h.is_open } where
  by : (x : Stage P) → PutsOut x bytes stage → StageBehind least n x → StageBehind least n stage
  by Resting puts o = absurd puts
  by (Serving v call) puts o = subst (λ (x : Stage P). StageBehind least n x) (sym puts.1) (record { tries = departed_tries v.work (λ tries. least ≤ begun_at tries n) o.tries; from = o.from })
  by (Refusing why last) puts o = subst (λ (x : Stage P). StageBehind least n x) (sym puts.1) tt
  by (Over end) puts o = absurd puts

closed_begin : (ts : List Try) (a : Option AttemptValue) (n k : ℕ) → k ≤ n
    → k ≤ first_begin ts (unwrap_or (option_map (λ (x : AttemptValue). x.ticket.call.at.0) a) n) → k ≤ first_begin ts n
closed_begin [] a n k le since = le
closed_begin (t ∷ ts) a n k le since = since

dropped_tries : {P : Type 0} (work : Work P) (least n : ℕ) → least ≤ n → IfTries work (λ tries. least ≤ begun_at tries n) → IfTries (dropped work) (λ tries. least ≤ begun_at tries n)
dropped_tries Reading least n le h = tt
dropped_tries Opening least n le h = tt
dropped_tries (ServingBy tries program) least n le h = closed_begin tries.tries tries.attempt n least le h
dropped_tries (Committed place again shown) least n le h = tt
dropped_tries (Decided became) least n le h = tt
dropped_tries (Answered fate bytes) least n le h = tt
dropped_tries (Left fate) least n le h = tt

pub given_up_behind : {P : Type 0} (least n : ℕ) (items : List Item) (s : Shepherd P) → Beginning least n items s → Beginning least n items (record s { stage = dropped_stage s.stage })
given_up_behind {P} least n items s h = record { least_is = h.least_is; each = h.each; is_open = by s.stage h.is_open } where
  by : (x : Stage P) → StageBehind least n x → StageBehind least n (dropped_stage x)
  by Resting o = tt
  by (Serving v call) o = record { tries = dropped_tries v.work least n h.least_is o.tries; from = o.from }
  by (Refusing why bytes) o = tt
  by (Over end) o = tt

pub given_back_behind : {P : Type 0} (least n : ℕ) (items : List Item) (s : Shepherd P) (stage : Stage P) (windows after : WindowsValue) → GivesBack s.stage windows stage after → Beginning least n items s
    → Beginning least n items (record s { stage = stage })
given_back_behind {P} least n items s stage windows after back h = record { least_is = h.least_is; each = h.each; is_open = by s.stage back h.is_open } where
  by : (x : Stage P) → GivesBack x windows stage after → StageBehind least n x → StageBehind least n stage
  by Resting back o = subst (λ (x : Stage P). StageBehind least n x) (sym back.0) tt
  by (Serving v call) back o = subst (λ (x : Stage P). StageBehind least n x) (sym back.2) (back_behind least n v back.0 back.1.back o)
  by (Refusing why bytes) back o = subst (λ (x : Stage P). StageBehind least n x) (sym back.0) tt
  by (Over end) back o = subst (λ (x : Stage P). StageBehind least n x) (sym back.0) tt

item_holds : {P : Type 0} (v : Visit P) (work : Work P) (i : Item) → IsItemOf v work i → i.holds ≡ v.holds
item_holds v Reading i is = absurd is
item_holds v Opening i is = absurd is
item_holds v (ServingBy tries program) i is = absurd is
item_holds v (Committed place again shown) i is = absurd is
item_holds v (Decided became) i is = absurd is
item_holds v (Answered fate bytes) i is = absurd is
item_holds v (Left fate) i is = ap (λ (x : Item). x.holds) is

rested_behind : (P : Type 0) (close : Bool) (least n : ℕ) → StageBehind least n (rested {P = P} close)
rested_behind P true least n = tt
rested_behind P false least n = tt

pub item_behind : {P : Type 0} (least n : ℕ) (items : List Item) (i : Item) (s : Shepherd P) (stage : Stage P) → TakesItem s.stage i stage → Beginning least n items s
    → Beginning least n (items ++ i ∷ []) (record s { front = i.holds.front; stage = stage })
item_behind {P} least n items i s stage takes h = by s.stage takes h.is_open where
  by : (x : Stage P) → TakesItem x i stage → StageBehind least n x → Beginning least n (items ++ i ∷ []) (record s { front = i.holds.front; stage = stage })
  by Resting takes o = absurd takes
  by (Serving v call) takes o = record {
    least_is = h.least_is;
    each = All-push (ItemBehind least) items i h.each (subst (λ (x : Holds). x.held ≢ 0 → least ≤ x.from.0) (sym (item_holds v v.work i takes.0)) o.from);
    is_open = subst (λ (x : Stage P). StageBehind least n x) (sym takes.1) (rested_behind P v.facts.close least n);
  }
  by (Refusing why bytes) takes o = absurd takes
  by (Over end) takes o = absurd takes

arrived_behind : (P : Type 0) (front : Place) (counts : LinkCounts) (head : Head) (now : Moment) (a : Arrival) (least n : ℕ) → StageBehind least n (begun_by {P = P} front counts head now a)
arrived_behind P front counts head now (arrival.Refused why) least n = record { tries = tt; from = λ held. absurd (held refl) }
arrived_behind P front counts head now (arrival.SerialsSpent request seen) least n = record { tries = tt; from = λ held. absurd (held refl) }
arrived_behind P front counts head now (arrival.Admitted a) least n = by a.cookie where
  by : (cookie : Option Cookie) → StageBehind least n (admitted_visit {P = P} (facts_of a now front head) counts a cookie)
  by None = record { tries = tt; from = λ held. absurd (held refl) }
  by (Some cookie) = record { tries = tt; from = λ held. absurd (held refl) }

pub taken_behind : {P C R S : Type 0} (told : C → ℕ) (gives : Gives R) (looks : Looks S) (key : List ℕ) (home : HomeBoot) (counts : LinkCounts) (took_is : Taken) (s : Shepherd P) (clock : C) (random : R) (serials : S) (new : Shepherd P) (clock_after : C) (random_after : R) (serials_after : S)
    (least n : ℕ) (items : List Item) → TakesBy told gives looks key home counts took_is s clock random serials new clock_after random_after serials_after → Beginning least n items s → Beginning least n items new
taken_behind {P} told gives looks key home counts took_is s clock random serials new clock_after random_after serials_after least n items takes h =
    record { least_is = h.least_is; each = h.each; is_open = by took_is takes } where
      refused : (stage : Stage P) → StageBehind least n stage → new ≡ record s { stage = stage } → StageBehind least n new.stage
      refused stage o is = subst (λ (x : Stage P). StageBehind least n x) (sym (ap (λ (x : Shepherd P). x.stage) is)) o

      by : (t : Taken) → TakesBy told gives looks key home counts t s clock random serials new clock_after random_after serials_after → StageBehind least n new.stage
      by (took.Request head) takes =
          subst (λ (x : Stage P). StageBehind least n x) (sym (ap (λ (x : Shepherd P). x.stage) takes.new_is)) (arrived_behind P s.front counts head takes.intake.now takes.intake.arrival least n)
      by took.Bad takes = refused _ tt takes.new_is
      by (took.TooLong len lines) takes = refused _ tt takes.new_is
      by took.NoCoding takes = refused _ tt takes.new_is
      by (took.BodyTooLong said) takes = refused _ tt takes.new_is
      by took.More takes = absurd takes
