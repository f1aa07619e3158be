-- A request that may go on may go on after each step.
use Rattle.std.specs.Prelude.{option_map, unwrap_or}
use Rattle.std.proofs.Common.{◌≡◌, ℕ, ◌≤◌, ◌<◌, ◌^◌, ◌++◌, List, [], ◌∷◌, length, Option, Some, None, refl, sym, ap, subst, inl, inr, arith, length-append}
use Rattle.boot_core.specs.Boot.{BootValue, HasGrown}
use Rattle.boot_core.specs.declared.boot.Start.{Start}
use Rattle.call_attempts.specs.Attempt.{AttemptValue}
use Rattle.call_ticket.specs.declared.next.Answer.{Answer}
use Rattle.call_ticket.specs.declared.next.Next.{Next}
use Rattle.container_core.specs.Container.{ContainerValue, HasGrownBy, events_of}
use Rattle.crash_base.specs.declared.numbers.Place.{Place}
use Rattle.deployment.specs.declared.parts.Parts.{Parts}
use Rattle.journal_model.specs.declared.entry.Entry.{Entry}
use Rattle.outcome_items.specs.declared.item.Item.{Item}
use Rattle.outside.specs.declared.link.LinkCounts.{LinkCounts}
use Rattle.request_tries.specs.Ends.{MayEnd}
use Rattle.request_tries.specs.Serving.{IsServing, TriesValue, begun_at, errand_of}
use Rattle.request_tries.specs.Tries.{first_begin}
use Rattle.request_tries.specs.declared.outcome.Ended.{Ended}
use Rattle.request_tries.specs.declared.outcome.Try.{Try}
use Rattle.send_windows.specs.Windows.{WindowsValue}
use Rattle.send_windows.specs.declared.fact.WindowFact.{WindowFact}
use Rattle.session_way.specs.declared.session_read.ReadOutcome.{ReadOutcome}
use Rattle.session_way.specs.declared.session_read.ReadOutcome.TheVariants as read
use Rattle.session_way.specs.declared.session_write.WriteOutcome.{WriteOutcome}
use Rattle.session_way.specs.declared.session_write.WriteOutcome.TheVariants as outcome
use Rattle.session_way.specs.declared.way.SessionWay.{SessionWay}
use Rattle.session_way.specs.declared.way.SessionWay.TheVariants as way
use Rattle.session_way.specs.declared.way.Wants.{Wants}
use Rattle.session_way.specs.declared.way.Wants.TheVariants as wanted
use Rattle.session_way.specs.Way.{wants}
use Rattle.request_visit.specs.Advancing.{Advances, HearsReadOf, IsItemOf, after_leaving, after_read, departed}
use Rattle.request_visit.specs.Going.{IsServedFrom, IsServedIn, MayGoOn}
use Rattle.request_visit.specs.Serving.{GoesOn, Serves, closing_of}
use Rattle.request_visit.specs.Stepping.{IsGivenBack, OnServing, ServesWork, VisitsInside, VisitsWindows, after_closing_if, dropped, left_so}
use Rattle.request_visit.specs.Visits.{after_outcome, begun, fate_missed, fate_written, overloaded, turn, turn_by, with_fate}
use Rattle.request_visit.specs.declared.facts.VisitFacts.{VisitFacts}
use Rattle.request_visit.specs.declared.ready.Ready.TheVariants.{Respond, Write}
use Rattle.request_visit.specs.declared.serving.Closed.{Closed}
use Rattle.request_visit.specs.declared.serving.Closed.TheVariants as closes
use Rattle.request_visit.specs.declared.serving.Closing.{Closing}
use Rattle.request_visit.specs.declared.visit.Fate.{Fate}
use Rattle.request_visit.specs.declared.visit.Turn.TheVariants as turns
use Rattle.request_visit.specs.declared.visit.Visit.{Visit}
use Rattle.request_visit.specs.declared.visit.Work.{Work}
use Rattle.request_visit.specs.declared.visit.Work.TheVariants.{Reading, Opening, Serving, Committed, Decided, Answered, Left}
use Rattle.request_visit.proofs.Ended.{BeginWithFirstTries, begun_kept, ended_from, ended_front}

-- the law that a request is served in each boot that has grown
abbrev pub StaysServed : Type 0
StaysServed = (old new : BootValue) (asks : List Answer → Next) (s : TriesValue) → HasGrown old new → IsServing old asks s → IsServing new asks s

-- A request that begins may go on, where it was not served yet.
pub begun_goes : {P : Type 0} (accepts : P → Parts → Type 0) (asks : P → List Answer → Next) (boot : BootValue) (facts : VisitFacts) (counts : LinkCounts) (w : SessionWay) (work : Work P)
    → facts.front.0 ≤ length boot.entries → facts.now.0 < 2 ^ 62 → IsServedIn accepts asks boot facts.front work
    → MayGoOn accepts asks boot (begun facts counts w work)
begun_goes accepts asks boot facts counts w work within small served =
    record { served = served; from = omega arith; front = omega arith; within = within; small = small }

-- what is so of a request whose work is another
other_work : {P : Type 0} (accepts : P → Parts → Type 0) (asks : P → List Answer → Next) (boot : BootValue) (v : Visit P) (work : Work P)
    → IsServedIn accepts asks boot v.facts.front work → MayGoOn accepts asks boot v → MayGoOn accepts asks boot (record v { work = work })
other_work accepts asks boot v work served g = record { served = served; from = g.from; front = g.front; within = g.within; small = g.small }

-- a change of its session changes nothing of it
pub outside_goes : {P : Type 0} (accepts : P → Parts → Type 0) (asks : P → List Answer → Next) (boot : BootValue) (v : Visit P) (w : SessionWay) (counts : LinkCounts)
    → MayGoOn accepts asks boot v → MayGoOn accepts asks boot (record v { way = w; counts = counts })
outside_goes accepts asks boot v w counts g = record { served = g.served; from = g.from; front = g.front; within = g.within; small = g.small }

-- a request that comes to the container
pub opened_goes : {P : Type 0} (accepts : P → Parts → Type 0) (asks : P → List Answer → Next) (boot : BootValue) (v : Visit P) (tries : TriesValue) (program : P)
    → begun_at tries (length boot.entries) ≡ length boot.entries → accepts program boot.start.deployment → IsServing boot (asks program) tries
    → MayGoOn accepts asks boot v → MayGoOn accepts asks boot (record v { work = Serving tries program })
opened_goes accepts asks boot v tries program fresh accepted serving g =
    let since : v.facts.front.0 ≤ begun_at tries (length boot.entries) = omega (arith, fresh, g.from, g.front, g.within) in
    other_work accepts asks boot v (Serving tries program) (record { accepted = accepted; serving = serving; since = since }) g

-- where tries begin that have not begun is no earlier in a longer journal
later_begin : (ts : List Try) (a : Option AttemptValue) (n m k : ℕ) → n ≤ m
    → k ≤ first_begin ts (unwrap_or (option_map (λ (x : AttemptValue). x.ticket.call.at.0) a) n)
    → k ≤ first_begin ts (unwrap_or (option_map (λ (x : AttemptValue). x.ticket.call.at.0) a) m)
later_begin [] None n m k le since = omega (arith, le, since)
later_begin [] (Some a) n m k le since = since
later_begin (t ∷ ts) a n m k le since = since

longer : (old new : BootValue) → HasGrown old new → length old.entries ≤ length new.entries
longer old new grown =
    let more : length new.entries ≡ length (old.entries ++ grown.more) = ap (λ (es : List Entry). length es) grown.entries in
    omega (arith, more, length-append old.entries grown.more)

served_longer : {P : Type 0} (stays : StaysServed) (accepts : P → Parts → Type 0) (asks : P → List Answer → Next) (old new : BootValue) (front : Place) (work : Work P)
    → HasGrown old new → IsServedIn accepts asks old front work → IsServedIn accepts asks new front work
served_longer stays accepts asks old new front Reading grown s = tt
served_longer stays accepts asks old new front Opening grown s = tt
served_longer stays accepts asks old new front (Serving tries program) grown s = record {
  accepted = subst (λ (start : Start). accepts program start.deployment) (sym grown.start) s.accepted;
  serving = stays old new (asks program) tries grown s.serving;
  since = later_begin tries.tries tries.attempt (length old.entries) (length new.entries) front.0 (longer old new grown) s.since;
}
served_longer stays accepts asks old new front (Committed place again shown) grown s = tt
served_longer stays accepts asks old new front (Decided became) grown s = tt
served_longer stays accepts asks old new front (Answered fate bytes) grown s = tt
served_longer stays accepts asks old new front (Left fate) grown s = tt

-- others may add to the journal meanwhile
pub grown_goes : {P : Type 0} (stays : StaysServed) (accepts : P → Parts → Type 0) (asks : P → List Answer → Next) (old new : BootValue) (v : Visit P)
    → HasGrown old new → MayGoOn accepts asks old v → MayGoOn accepts asks new v
grown_goes stays accepts asks old new v grown g = record {
  served = served_longer stays accepts asks old new v.facts.front v.work grown g.served;
  from = g.from;
  front = g.front;
  within = let more = longer old new grown in omega (arith, more, g.within);
  small = g.small;
}

-- the work of a request that is told what its write came to
fated : {P : Type 0} (change : Fate → Fate) (accepts : P → Parts → Type 0) (asks : P → List Answer → Next) (boot : BootValue) (front : Place) (work : Work P)
    → IsServedIn accepts asks boot front work → IsServedIn accepts asks boot front (with_fate change work)
fated change accepts asks boot front Reading s = tt
fated change accepts asks boot front Opening s = tt
fated change accepts asks boot front (Serving tries program) s = s
fated change accepts asks boot front (Committed place again shown) s = tt
fated change accepts asks boot front (Decided became) s = tt
fated change accepts asks boot front (Answered fate bytes) s = tt
fated change accepts asks boot front (Left fate) s = tt

-- or that its session cannot be written
full_told : {P : Type 0} (full : List WindowFact) (accepts : P → Parts → Type 0) (asks : P → List Answer → Next) (boot : BootValue) (front : Place) (work : Work P)
    → IsServedIn accepts asks boot front work → IsServedIn accepts asks boot front (overloaded full work)
full_told full accepts asks boot front Reading s = tt
full_told full accepts asks boot front Opening s = tt
full_told full accepts asks boot front (Serving tries program) s = s
full_told full accepts asks boot front (Committed place again shown) s = tt
full_told full accepts asks boot front (Decided became) s = tt
full_told full accepts asks boot front (Answered fate bytes) s = tt
full_told full accepts asks boot front (Left fate) s = tt

told_goes : {P : Type 0} (accepts : P → Parts → Type 0) (asks : P → List Answer → Next) (boot : BootValue) (old : Visit P) (w : SessionWay) (told : Option WriteOutcome)
    → MayGoOn accepts asks boot old → MayGoOn accepts asks boot (after_outcome told (record old { way = w }))
told_goes accepts asks boot old w None g = record { served = g.served; from = g.from; front = g.front; within = g.within; small = g.small }
told_goes accepts asks boot old w (Some (outcome.Written cookie)) g =
    record { served = fated fate_written accepts asks boot old.facts.front old.work g.served; from = g.from; front = g.front; within = g.within; small = g.small }
told_goes accepts asks boot old w (Some (outcome.Missed causes)) g =
    record { served = fated (fate_missed causes) accepts asks boot old.facts.front old.work g.served; from = g.from; front = g.front; within = g.within; small = g.small }

pub windows_go : {P : Type 0} (accepts : P → Parts → Type 0) (asks : P → List Answer → Next) (boot : BootValue) (old new : Visit P) (windows after : WindowsValue)
    → VisitsWindows old windows new after → MayGoOn accepts asks boot old → MayGoOn accepts asks boot new
windows_go {P} accepts asks boot old new windows after (inl given) g =
    subst (λ (v : Visit P). MayGoOn accepts asks boot v) (sym given.new_is) (told_goes accepts asks boot old new.way given.outcome g)
windows_go {P} accepts asks boot old new windows after (inr refused) g =
    subst (λ (v : Visit P). MayGoOn accepts asks boot v) (sym refused.new_is) (record {
      served = full_told refused.full accepts asks boot old.facts.front old.work g.served;
      from = g.from;
      front = g.front;
      within = g.within;
      small = g.small;
    })

pub back_goes : {P : Type 0} (accepts : P → Parts → Type 0) (asks : P → List Answer → Next) (boot : BootValue) (old new : Visit P)
    → IsGivenBack old new → MayGoOn accepts asks boot old → MayGoOn accepts asks boot new
back_goes {P} accepts asks boot old new back g =
    subst (λ (v : Visit P). MayGoOn accepts asks boot v) (sym back.new_is) (told_goes accepts asks boot old way.Resting back.outcome g)

-- a request that heard its read
read_goes : {P : Type 0} (accepts : P → Parts → Type 0) (asks : P → List Answer → Next) (boot : BootValue) (old : Visit P) (told : ReadOutcome)
    → MayGoOn accepts asks boot old → MayGoOn accepts asks boot (after_read told old)
read_goes accepts asks boot old (read.Found lease) g = record { served = tt; from = g.from; front = g.front; within = g.within; small = g.small }
read_goes accepts asks boot old (read.Expired now expiry) g = record { served = tt; from = g.from; front = g.front; within = g.within; small = g.small }
read_goes accepts asks boot old (read.Lost causes) g = record { served = tt; from = g.from; front = g.front; within = g.within; small = g.small }

hearing_goes : {P : Type 0} (accepts : P → Parts → Type 0) (asks : P → List Answer → Next) (boot : BootValue) (w : SessionWay) (old new : Visit P)
    → HearsReadOf w old new → MayGoOn accepts asks boot old → MayGoOn accepts asks boot new
hearing_goes {P} accepts asks boot w old new hears g = by w hears where
  opening : new ≡ record old { work = Opening } → MayGoOn accepts asks boot new
  opening is = subst (λ (v : Visit P). MayGoOn accepts asks boot v) (sym is) (other_work accepts asks boot old Opening tt g)

  by : (w : SessionWay) → HearsReadOf w old new → MayGoOn accepts asks boot new
  by (way.Reading r) h = subst (λ (v : Visit P). MayGoOn accepts asks boot v) (sym h.new_is) (read_goes accepts asks boot old h.outcome g)
  by way.Resting h = opening h
  by (way.Ordered order) h = opening h
  by (way.Writing x) h = opening h
  by (way.Settling x) h = opening h
  by (way.Holding passes) h = opening h

pub advance_goes : {P : Type 0} (accepts : P → Parts → Type 0) (asks : P → List Answer → Next) (boot : BootValue) (key : List ℕ) (old new : Visit P)
    → Advances key old old.work new → MayGoOn accepts asks boot old → MayGoOn accepts asks boot new
advance_goes {P} accepts asks boot key old new advances g = by old.work advances where
  same : new ≡ old → MayGoOn accepts asks boot new
  same is = subst (λ (v : Visit P). MayGoOn accepts asks boot v) (sym is) g

  answered : (fate : Fate) (bytes : List ℕ) → new ≡ record old { work = Answered fate bytes } → MayGoOn accepts asks boot new
  answered fate bytes is = subst (λ (v : Visit P). MayGoOn accepts asks boot v) (sym is) (other_work accepts asks boot old (Answered fate bytes) tt g)

  by : (w : Work P) → Advances key old w new → MayGoOn accepts asks boot new
  by Reading a = hearing_goes accepts asks boot old.way old new a g
  by Opening a = same a
  by (Serving tries program) a = same a
  by (Committed place again shown) a = answered _ a.bytes a.new_is
  by (Decided became) a = answered _ _ a
  by (Answered fate bytes) a = same a
  by (Left fate) a = same a

pub leave_goes : {P : Type 0} (accepts : P → Parts → Type 0) (asks : P → List Answer → Next) (boot : BootValue) (v : Visit P)
    → MayGoOn accepts asks boot v → MayGoOn accepts asks boot (after_leaving v)
leave_goes {P} accepts asks boot v g = record { served = by v.work g.served; from = g.from; front = g.front; within = g.within; small = g.small } where
  by : (w : Work P) → IsServedIn accepts asks boot v.facts.front w → IsServedIn accepts asks boot v.facts.front (departed w)
  by Reading s = tt
  by Opening s = tt
  by (Serving tries program) s = s
  by (Committed place again shown) s = tt
  by (Decided became) s = tt
  by (Answered fate bytes) s = tt
  by (Left fate) s = tt

-- a call that was given up has not begun
closed_begin : (ts : List Try) (a : Option AttemptValue) (n k : ℕ) → k ≤ n
    → k ≤ first_begin ts (unwrap_or (option_map (λ (x : AttemptValue). x.ticket.call.at.0) a) n) → k ≤ first_begin ts n
closed_begin [] a n k le since = le
closed_begin (t ∷ ts) a n k le since = since

pub dropped_goes : {P : Type 0} (accepts : P → Parts → Type 0) (asks : P → List Answer → Next) (boot : BootValue) (v : Visit P)
    → MayGoOn accepts asks boot v → MayGoOn accepts asks boot (record v { work = dropped v.work })
dropped_goes {P} accepts asks boot v g = other_work accepts asks boot v (dropped v.work) (by v.work g.served) g where
  by : (w : Work P) → IsServedIn accepts asks boot v.facts.front w → IsServedIn accepts asks boot v.facts.front (dropped w)
  by Reading s = tt
  by Opening s = tt
  by (Serving tries program) s = record {
    accepted = s.accepted;
    serving = record { few = s.serving.few; tries = s.serving.tries; attempt = tt };
    since = closed_begin tries.tries tries.attempt (length boot.entries) v.facts.front.0 (omega (arith, g.from, g.front, g.within)) s.since;
  }
  by (Committed place again shown) s = tt
  by (Decided became) s = tt
  by (Answered fate bytes) s = tt
  by (Left fate) s = tt

-- a request that has left the container
left_goes : {P : Type 0} (accepts : P → Parts → Type 0) (asks : P → List Answer → Next) (boot : BootValue) (v : Visit P) (closed : Closed)
    → v.facts.front.0 ≤ v.holds.from.0 → v.holds.from.0 ≤ v.holds.front.0 → v.holds.front.0 ≤ length boot.entries → v.facts.now.0 < 2 ^ 62
    → MayGoOn accepts asks boot (left_so closed v)
left_goes accepts asks boot v (closes.Page place again (Respond bytes)) from front within small = record { served = tt; from = from; front = front; within = within; small = small }
left_goes accepts asks boot v (closes.Page place again (Write order shown)) from front within small = record { served = tt; from = from; front = front; within = within; small = small }
left_goes accepts asks boot v (closes.Other became) from front within small = record { served = tt; from = from; front = front; within = within; small = small }

-- a request that is served and made a step there
serves_goes : {P : Type 0} (first : BeginWithFirstTries) (stays : StaysServed) (accepts : P → Parts → Type 0) (asks : P → List Answer → Next) (old : Visit P) (container after : ContainerValue) (tries : TriesValue) (program : P) (closing : Option Closing) (work : Work P) (later : TriesValue)
    → HasGrownBy container after → MayGoOn accepts asks container.boot old → IsServedFrom accepts asks container.boot old.facts.front tries program
    → Serves container (asks program) old.facts old.lease tries closing after later → work ≡ Serving later program
    → MayGoOn accepts asks after.boot (after_closing_if closing (record old { work = work }))
serves_goes {P} first stays accepts asks old container after tries program closing work later grown g s serves work_is =
    subst (λ (c : Option Closing). MayGoOn accepts asks after.boot (after_closing_if c (record old { work = work }))) (sym serves.closing_is)
    (subst (λ (w : Work P). MayGoOn accepts asks after.boot (after_closing_if (option_map (closing_of old.facts old.lease (events_of after)) serves.end) (record old { work = w }))) (sym work_is)
    (by serves.end refl)) where
      now : MayGoOn accepts asks after.boot old
      now = grown_goes stays accepts asks container.boot after.boot old grown.boot g

      on : serves.end ≡ None → IsServedFrom accepts asks after.boot old.facts.front later program
      on none = record {
        accepted = subst (λ (start : Start). accepts program start.deployment) (sym grown.boot.start) s.accepted;
        serving = serves.brings.serving none;
        since =
            subst (λ (n : ℕ). old.facts.front.0 ≤ n)
            (sym (begun_kept first container serves.between after (asks program) tries serves.mid later serves.to (length after.boot.entries) serves.steps
            (subst (λ (o : Option Ended). GoesOn serves.between serves.mid serves.to o after later) none serves.goes_on)))
            s.since;
      }

      by : (end : Option Ended) → serves.end ≡ end → MayGoOn accepts asks after.boot (after_closing_if (option_map (closing_of old.facts old.lease (events_of after)) end) (record old { work = Serving later program }))
      by None is = other_work accepts asks after.boot old (Serving later program) (on is) now
      by (Some e) is =
          let goes = subst (λ (o : Option Ended). GoesOn serves.between serves.mid serves.to o after later) is serves.goes_on in
          let from = ended_from first container serves.between after (asks program) tries serves.mid later serves.to e serves.steps goes in
          let front = ended_front container serves.between after (asks program) tries serves.mid later serves.to e serves.steps goes in
          let stands = subst (λ (o : Option Ended). MayEnd after.boot.start (events_of after) (errand_of tries (asks program)) o) is serves.brings.ended in
          left_goes accepts asks after.boot _ (closing_of old.facts old.lease (events_of after) e).closed
          (subst (λ (n : ℕ). old.facts.front.0 ≤ n) (sym from) s.since) stands.from (omega (arith, front)) g.small

pub inside_goes : {P : Type 0} (first : BeginWithFirstTries) (stays : StaysServed) (accepts : P → Parts → Type 0) (asks : P → List Answer → Next) (old new : Visit P) (container after : ContainerValue)
    → VisitsInside asks old container new after → HasGrownBy container after → MayGoOn accepts asks container.boot old → MayGoOn accepts asks after.boot new
inside_goes {P} first stays accepts asks old new container after visits grown g =
    subst (λ (v : Visit P). MayGoOn accepts asks after.boot v) (sym visits.new_is) (by old.work g.served visits.serves) where
      by : (w : Work P) → IsServedIn accepts asks container.boot old.facts.front w → ServesWork asks container old.facts old.lease w visits.closing after visits.work
          → MayGoOn accepts asks after.boot (after_closing_if visits.closing (record old { work = visits.work }))
      by Reading s serves = absurd serves
      by Opening s serves = absurd serves
      by (Serving tries program) s serves =
          serves_goes first stays accepts asks old container after tries program visits.closing visits.work serves.after grown g s serves.serves serves.work_is
      by (Committed place again shown) s serves = absurd serves
      by (Decided became) s serves = absurd serves
      by (Answered fate bytes) s serves = absurd serves
      by (Left fate) s serves = absurd serves

-- a request of which the next step is the container's is served there
pub inside_turn : {P : Type 0} (accepts : P → Parts → Type 0) (asks : P → List Answer → Next) (boot : BootValue) (v : Visit P)
    → turn v ≡ turns.Inside → MayGoOn accepts asks boot v
    → OnServing v.work (λ tries program. accepts program boot.start.deployment × IsServing boot (asks program) tries)
inside_turn {P} accepts asks boot v is g = by v.work g.served (wants v.way) is where
  by : (work : Work P) → IsServedIn accepts asks boot v.facts.front work → (w : Wants) → turn_by work w ≡ turns.Inside
      → OnServing work (λ tries program. accepts program boot.start.deployment × IsServing boot (asks program) tries)
  by Reading s wanted.Nothing is = absurd (cc)
  by Reading s wanted.Outside is = absurd (cc)
  by Reading s wanted.Windows is = absurd (cc)
  by Opening s w is = absurd (cc)
  by (Serving tries program) s w is = (s.accepted, s.serving)
  by (Committed place again shown) s wanted.Nothing is = absurd (cc)
  by (Committed place again shown) s wanted.Outside is = absurd (cc)
  by (Committed place again shown) s wanted.Windows is = absurd (cc)
  by (Decided became) s w is = absurd (cc)
  by (Answered fate bytes) s w is = absurd (cc)
  by (Left fate) s wanted.Nothing is = absurd (cc)
  by (Left fate) s wanted.Outside is = absurd (cc)
  by (Left fate) s wanted.Windows is = absurd (cc)

-- The places of its item are in order.
abbrev InOrder : Place → BootValue → Item → Type 0
InOrder front boot i = (front.0 ≤ i.holds.from.0) × (i.holds.from.0 ≤ i.holds.front.0) × (i.holds.front.0 ≤ length boot.entries)

pub item_goes : {P : Type 0} (accepts : P → Parts → Type 0) (asks : P → List Answer → Next) (boot : BootValue) (v : Visit P) (i : Item)
    → IsItemOf v v.work i → MayGoOn accepts asks boot v → InOrder v.facts.front boot i
item_goes {P} accepts asks boot v i is g = by v.work is where
  by : (w : Work P) → IsItemOf v w i → InOrder v.facts.front boot i
  by Reading is = absurd is
  by Opening is = absurd is
  by (Serving tries program) is = absurd is
  by (Committed place again shown) is = absurd is
  by (Decided became) is = absurd is
  by (Answered fate bytes) is = absurd is
  by (Left fate) is = subst (λ (x : Item). InOrder v.facts.front boot x) (sym is) (g.from, g.front, g.within)
