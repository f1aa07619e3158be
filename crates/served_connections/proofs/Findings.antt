-- What the items of a connection and the request that is open tell of one kind, behind each step.
use Rattle.std.specs.Prelude.{option_map, option_to_list}
use Rattle.std.proofs.Common.{◌≡◌, ◌≤◌, ℕ, arith, Bool, true, false, List, [], ◌∷◌, ◌++◌, All, length, Option, Some, None, refl, sym, ap, ◌∙◌, subst, if◌then◌else◌}
use Rattle.std.proofs.lemmas.Grind.{flat_map-append}
use Rattle.std.proofs.lemmas.List.{append-nil, append_assoc}
use Rattle.std.proofs.lemmas.List.Elements.{All-cons, All-nil, All-weaker}
use Rattle.auction_calls.specs.declared.action.ActionCall.{ActionCall}
use Rattle.call_ticket.specs.declared.next.Answer.{Answer}
use Rattle.call_ticket.specs.declared.next.Next.{Next}
use Rattle.container_core.specs.Container.{ContainerValue, events_of}
use Rattle.container_core.specs.declared.history.Event.{Event}
use Rattle.crash_base.specs.declared.numbers.Moment.{Moment}
use Rattle.crash_base.specs.declared.numbers.Place.{Place}
use Rattle.crash_base.specs.declared.numbers.WorkerNo.{WorkerNo}
use Rattle.http_wire.specs.declared.taken.Head.{Head}
use Rattle.outcome_items.specs.declared.item.Item.{Item}
use Rattle.outcome_items.specs.declared.outcome.ItemOutcome.{ItemOutcome}
use Rattle.outcome_items.specs.declared.outcome.ItemOutcome.TheVariants as item
use Rattle.outside.specs.declared.link.LinkCounts.{LinkCounts}
use Rattle.request_tries.specs.declared.outcome.Ended.{Ended}
use Rattle.request_tries.specs.declared.outcome.RequestOutcome.{RequestOutcome}
use Rattle.request_tries.specs.declared.outcome.RequestOutcome.TheVariants.{Page, Sentinel, Hung, Raised, Revoked, Conflict, JournalFull, KeeperFailed}
use Rattle.request_visit.specs.Advancing.{Advances, HearsReadOf, IsItemOf, after_read, departed, outcome_in}
use Rattle.request_visit.specs.Serving.{closed_with, closing_of}
use Rattle.request_visit.specs.Stepping.{IsGiven, ServesWork, VisitsInside, after_closing_if, dropped, left_so}
use Rattle.request_visit.specs.Visits.{after_outcome, fate_missed, fate_written, turn as visit_turn, turn_by as visit_turn_by, with_fate}
use Rattle.request_visit.specs.declared.facts.VisitFacts.{VisitFacts}
use Rattle.request_visit.specs.declared.ready.Ready.{Ready}
use Rattle.request_visit.specs.declared.ready.Ready.TheVariants.{Respond, Write}
use Rattle.request_visit.specs.declared.serving.Closing.{Closing}
use Rattle.request_visit.specs.declared.visit.Fate.{Fate}
use Rattle.request_visit.specs.declared.visit.Fate.TheVariants.{Known, Writing}
use Rattle.request_visit.specs.declared.visit.Turn.{Turn}
use Rattle.request_visit.specs.declared.visit.Turn.TheVariants as visit
use Rattle.request_visit.specs.declared.visit.Visit.{Visit}
use Rattle.request_visit.specs.declared.visit.Work.{Work}
use Rattle.request_visit.specs.declared.visit.Work.TheVariants.{Reading, Opening, Serving as ServingBy, Committed, Decided, Answered, Left}
use Rattle.send_windows.specs.Windows.{WindowsValue}
use Rattle.session_way.specs.Way.{wants}
use Rattle.session_way.specs.declared.lease.SessionLease.{SessionLease}
use Rattle.session_way.specs.declared.session_read.ReadOutcome.{ReadOutcome}
use Rattle.session_way.specs.declared.session_read.ReadOutcome.TheVariants as read
use Rattle.session_way.specs.declared.session_write.WriteOutcome.{WriteOutcome}
use Rattle.session_way.specs.declared.session_write.WriteOutcome.TheVariants as outcome
use Rattle.session_way.specs.declared.way.SessionWay.{SessionWay}
use Rattle.session_way.specs.declared.way.SessionWay.TheVariants as way
use Rattle.session_way.specs.declared.way.Wants.{Wants}
use Rattle.session_way.specs.declared.way.Wants.TheVariants as wanted
use Rattle.shepherd.specs.Answering.{StageSays}
use Rattle.shepherd.specs.Shepherds.{stage_turn, turn, turn_by}
use Rattle.shepherd.specs.Steps.{GivesBack, OpensStage, PutsOut, StepsVisit, TakesItem, dropped_stage, rested}
use Rattle.shepherd.specs.declared.shepherd.EndKind.TheVariants as ends
use Rattle.shepherd.specs.declared.shepherd.Shepherd.{Shepherd}
use Rattle.shepherd.specs.declared.shepherd.ShepherdTurn.{ShepherdTurn}
use Rattle.shepherd.specs.declared.shepherd.ShepherdTurn.TheVariants as turns
use Rattle.shepherd.specs.declared.shepherd.Stage.{Stage}
use Rattle.shepherd.specs.declared.shepherd.Stage.TheVariants.{Resting, Serving, Refusing, Over}
use Rattle.ssm_stub.specs.declared.cause.BrickCause.{BrickCause}
use Rattle.served_connections.specs.Findings.{AreFoundFor, Finds, found_at, found_by, found_by_fate, found_in_all}

-- This kind is told of no request that has ended in the container or whose session is gone, nor of one whose write was
-- missed.
pub record IsToldElsewhere {A : Type 0} (tell : ItemOutcome → Option A) : Type 0 where
  pub ended : (end : RequestOutcome) → tell (item.Ended end) ≡ None
  pub expired : (now expiry : Moment) → tell (item.Expired now expiry) ≡ None
  pub lost : (causes : List BrickCause) → tell (item.Lost causes) ≡ None
  pub missed : (place : Place) (again : Bool) (causes : List BrickCause) → tell (item.Missed place again causes) ≡ None

-- whether a program is to be made
abbrev pub is_program : ShepherdTurn → Bool
is_program turns.Bytes = false
is_program turns.Request = false
is_program turns.Outside = false
is_program turns.Windows = false
is_program turns.Inside = false
is_program turns.Program = true
is_program turns.Own = false
is_program turns.Output = false
is_program turns.Item = false
is_program (turns.Ended end) = false

left_makes_none : (P : Type 0) (fate : Fate) (w : Wants) → is_program (turn_by (visit_turn_by {P = P} (Left fate) w)) ≡ false
left_makes_none P fate wanted.Nothing = refl
left_makes_none P fate wanted.Outside = refl
left_makes_none P fate wanted.Windows = refl

-- whether a request is to be taken
abbrev pub takes_next : ShepherdTurn → Bool
takes_next turns.Bytes = false
takes_next turns.Request = true
takes_next turns.Outside = false
takes_next turns.Windows = false
takes_next turns.Inside = false
takes_next turns.Program = false
takes_next turns.Own = false
takes_next turns.Output = false
takes_next turns.Item = false
takes_next (turns.Ended end) = false

served_takes_none : (t : Turn) → takes_next (turn_by t) ≡ false
served_takes_none visit.Outside = refl
served_takes_none visit.Windows = refl
served_takes_none visit.Inside = refl
served_takes_none visit.Program = refl
served_takes_none visit.Own = refl
served_takes_none visit.Output = refl
served_takes_none visit.Over = refl

module _ {A : Type 0} (tell : ItemOutcome → Option A) (late : IsToldElsewhere tell) where
  -- Behind a step that leaves it open what is told of the request that is open.
  pub same_found : {P : Type 0} (found : List A) (items : List Item) (old new : Stage P) → found_at tell new ≡ found_at tell old → Finds tell found items old → Finds tell found items new
  same_found found items old new same finds = finds ∙ ap (λ (one : Option A). found_in_all tell items ++ option_to_list one) (sym same)

  -- the same behind a step of the request that is open
  pub step_found : {P : Type 0} (So : Visit P → Visit P → Type 0) (found : List A) (items : List Item) (old new : Stage P) → ((v w : Visit P) → So v w → found_by tell w.work ≡ found_by tell v.work)
      → StepsVisit So old new → Finds tell found items old → Finds tell found items new
  step_found {P} So found items old new kept steps finds = same_found found items old new (by old steps) finds where
    by : (x : Stage P) → StepsVisit So x new → found_at tell new ≡ found_at tell x
    by Resting steps = absurd steps
    by (Serving v call) steps = ap (λ x. found_at tell x) steps.2 ∙ kept v steps.0 steps.1
    by (Refusing why bytes) steps = absurd steps
    by (Over end) steps = absurd steps

  pub outside_found : {P : Type 0} (v w : Visit P) (counts : LinkCounts) → w ≡ record v { way = w.way; counts = counts } → found_by tell w.work ≡ found_by tell v.work
  outside_found {P} v w counts is = ap (λ (x : Visit P). found_by tell x.work) is

  fated : {P : Type 0} (change : Fate → Fate) (work : Work P) → ((fate : Fate) → found_by_fate tell (change fate) ≡ found_by_fate tell fate) → found_by tell (with_fate change work) ≡ found_by tell work
  fated change Reading same = refl
  fated change Opening same = refl
  fated change (ServingBy tries program) same = refl
  fated change (Committed place again shown) same = refl
  fated change (Decided became) same = refl
  fated change (Answered fate bytes) same = same fate
  fated change (Left fate) same = same fate

  written_found : (fate : Fate) → found_by_fate tell (fate_written fate) ≡ found_by_fate tell fate
  written_found (Known became) = refl
  written_found (Writing place again) = late.ended (Page place again)

  missed_found : (causes : List BrickCause) (fate : Fate) → found_by_fate tell (fate_missed causes fate) ≡ found_by_fate tell fate
  missed_found causes (Known became) = refl
  missed_found causes (Writing place again) = late.missed place again causes

  told_found : {P : Type 0} (v : Visit P) (w : SessionWay) (told : Option WriteOutcome) → found_by tell (after_outcome told (record v { way = w })).work ≡ found_by tell v.work
  told_found v w None = refl
  told_found v w (Some (outcome.Written cookie)) = fated fate_written v.work written_found
  told_found v w (Some (outcome.Missed causes)) = fated (fate_missed causes) v.work (missed_found causes)

  pub given_found : {P : Type 0} (v w : Visit P) (windows after : WindowsValue) → IsGiven v windows w after → found_by tell w.work ≡ found_by tell v.work
  given_found {P} v w windows after given = ap (λ (x : Visit P). found_by tell x.work) given.new_is ∙ told_found v w.way given.outcome

  heard_found : {P : Type 0} (told : ReadOutcome) (v : Visit P) → found_by tell (after_read told v).work ≡ None
  heard_found (read.Found lease) v = refl
  heard_found (read.Expired now expiry) v = late.expired now expiry
  heard_found (read.Lost causes) v = late.lost causes

  hearing_found : {P : Type 0} (w : SessionWay) (v new : Visit P) → HearsReadOf w v new → found_by tell new.work ≡ None
  hearing_found {P} (way.Reading r) v new hears = ap (λ (x : Visit P). found_by tell x.work) hears.new_is ∙ heard_found hears.outcome v
  hearing_found {P} way.Resting v new hears = ap (λ (x : Visit P). found_by tell x.work) hears
  hearing_found {P} (way.Ordered order) v new hears = ap (λ (x : Visit P). found_by tell x.work) hears
  hearing_found {P} (way.Writing x) v new hears = ap (λ (x : Visit P). found_by tell x.work) hears
  hearing_found {P} (way.Settling x) v new hears = ap (λ (x : Visit P). found_by tell x.work) hears
  hearing_found {P} (way.Holding passes) v new hears = ap (λ (x : Visit P). found_by tell x.work) hears

  pub advance_found : {P : Type 0} (key : List ℕ) (v w : Visit P) → Advances key v v.work w → found_by tell w.work ≡ found_by tell v.work
  advance_found {P} key v w advances = by v.work refl advances where
    same : w ≡ v → found_by tell w.work ≡ found_by tell v.work
    same is = ap (λ (x : Visit P). found_by tell x.work) is

    by : (work : Work P) → v.work ≡ work → Advances key v work w → found_by tell w.work ≡ found_by tell v.work
    by Reading is a = hearing_found v.way v w a ∙ sym (ap (λ x. found_by tell x) is)
    by Opening is a = same a
    by (ServingBy tries program) is a = same a
    by (Committed place again shown) is a = ap (λ (x : Visit P). found_by tell x.work) a.new_is ∙ sym (ap (λ x. found_by tell x) is)
    by (Decided became) is a = ap (λ (x : Visit P). found_by tell x.work) a ∙ sym (ap (λ x. found_by tell x) is)
    by (Answered fate bytes) is a = same a
    by (Left fate) is a = same a

  closed_found : {P : Type 0} (ready : Bool → Ready) (end : RequestOutcome) (v : Visit P) → found_by tell (left_so (closed_with ready end) v).work ≡ None
  closed_found {P} ready (Page place again) v = by (ready again) where
    by : (r : Ready) → found_by tell (left_so (closed_with (λ again. r) (Page place again)) v).work ≡ None
    by (Respond bytes) = late.ended (Page place again)
    by (Write order shown) = refl
  closed_found ready (Sentinel group down) v = late.ended (Sentinel group down)
  closed_found ready (Hung component fault path) v = late.ended (Hung component fault path)
  closed_found ready (Raised component fault path) v = late.ended (Raised component fault path)
  closed_found ready (Revoked tries) v = late.ended (Revoked tries)
  closed_found ready (Conflict tries) v = late.ended (Conflict tries)
  closed_found ready (JournalFull full) v = late.ended (JournalFull full)
  closed_found ready KeeperFailed v = late.ended KeeperFailed

  pub inside_found : {P : Type 0} (asks : P → List Answer → Next) (v w : Visit P) (container after : ContainerValue) → VisitsInside asks v container w after → found_by tell w.work ≡ found_by tell v.work
  inside_found {P} asks v w container after visits = ap (λ (x : Visit P). found_by tell x.work) visits.new_is ∙ by v.work visits.serves where
    closes : (facts : VisitFacts) (lease : Option SessionLease) (end : Option Ended) (x : Visit P) → found_by tell x.work ≡ None → found_by tell (after_closing_if (option_map (closing_of facts lease (events_of after)) end) x).work ≡ None
    closes facts lease None x none = none
    closes facts lease (Some e) x none = closed_found _ e.outcome (record x { holds = (closing_of facts lease (events_of after) e).holds })

    by : (work : Work P) → ServesWork asks container v.facts v.lease work visits.closing after visits.work → found_by tell (after_closing_if visits.closing (record v { work = visits.work })).work ≡ found_by tell work
    by Reading serves = absurd serves
    by Opening serves = absurd serves
    by (ServingBy tries program) serves =
        ap (λ (c : Option Closing). found_by tell (after_closing_if c (record v { work = visits.work })).work) serves.serves.closing_is
        ∙ closes v.facts v.lease serves.serves.end (record v { work = visits.work }) (ap (λ x. found_by tell x) serves.work_is)
    by (Committed place again shown) serves = absurd serves
    by (Decided became) serves = absurd serves
    by (Answered fate bytes) serves = absurd serves
    by (Left fate) serves = absurd serves

  unfound_at : {P : Type 0} (work : Work P) (w : Wants) → is_program (turn_by (visit_turn_by work w)) ≡ true → found_by tell work ≡ None
  unfound_at Reading w is = refl
  unfound_at Opening w is = refl
  unfound_at (ServingBy tries program) w is = refl
  unfound_at (Committed place again shown) w is = refl
  unfound_at (Decided became) w is = absurd (cc)
  unfound_at (Answered fate bytes) w is = absurd (cc)
  unfound_at {P} (Left fate) w is = absurd (let none = left_makes_none P fate w in cc)

  opened_found : {P M : Type 0} (makes : M → ActionCall → List ℕ → P → Type 0) (maker : M) (worker : WorkerNo) (stage after : Stage P) → OpensStage makes maker worker stage after → found_at tell after ≡ None
  opened_found makes maker worker Resting after opens = absurd opens
  opened_found makes maker worker (Serving v None) after opens = absurd opens
  opened_found {P} makes maker worker (Serving v (Some asked)) after opens = ap (λ x. found_at tell x) opens.2 ∙ ap (λ (x : Visit P). found_by tell x.work) opens.1.new_is
  opened_found makes maker worker (Refusing why bytes) after opens = absurd opens
  opened_found makes maker worker (Over end) after opens = absurd opens

  -- Behind the making of a program.
  pub open_found : {P M : Type 0} (makes : M → ActionCall → List ℕ → P → Type 0) (maker : M) (worker : WorkerNo) (found : List A) (items : List Item) (s : Shepherd P) (stage : Stage P) → is_program (turn s) ≡ true
      → OpensStage makes maker worker s.stage stage → Finds tell found items s.stage → Finds tell found items stage
  open_found {P} makes maker worker found items s stage is opens finds = same_found found items s.stage stage (opened_found makes maker worker s.stage stage opens ∙ sym (by_memory s.wants_memory is)) finds where
    by_stage : (x : Stage P) → is_program (stage_turn x s.received s.ended) ≡ true → found_at tell x ≡ None
    by_stage Resting is = refl
    by_stage (Serving v call) is = unfound_at v.work (wants v.way) is
    by_stage (Refusing why bytes) is = refl
    by_stage (Over end) is = refl

    by_memory : (m : Bool) → is_program (if m then turns.Ended ends.OutOfMemory else stage_turn s.stage s.received s.ended) ≡ true → found_at tell s.stage ≡ None
    by_memory true is = absurd (cc)
    by_memory false is = by_stage s.stage is

  departed_found : {P : Type 0} (work : Work P) → found_by tell (departed work) ≡ found_by tell work
  departed_found Reading = refl
  departed_found Opening = refl
  departed_found (ServingBy tries program) = refl
  departed_found (Committed place again shown) = refl
  departed_found (Decided became) = refl
  departed_found (Answered fate bytes) = refl
  departed_found (Left fate) = refl

  -- Behind a response that left.
  pub out_found : {P : Type 0} (found : List A) (items : List Item) (bytes : List ℕ) (stage after : Stage P) → PutsOut stage bytes after → Finds tell found items stage → Finds tell found items after
  out_found {P} found items bytes stage after puts finds = same_found found items stage after (by stage puts) finds where
    by : (x : Stage P) → PutsOut x bytes after → found_at tell after ≡ found_at tell x
    by Resting puts = absurd puts
    by (Serving v call) puts = ap (λ x. found_at tell x) puts.1 ∙ departed_found v.work
    by (Refusing why last) puts = ap (λ x. found_at tell x) puts.1
    by (Over end) puts = absurd puts

  dropped_found : {P : Type 0} (work : Work P) → found_by tell (dropped work) ≡ found_by tell work
  dropped_found Reading = refl
  dropped_found Opening = refl
  dropped_found (ServingBy tries program) = refl
  dropped_found (Committed place again shown) = refl
  dropped_found (Decided became) = refl
  dropped_found (Answered fate bytes) = refl
  dropped_found (Left fate) = refl

  pub given_up_found : {P : Type 0} (found : List A) (items : List Item) (stage : Stage P) → Finds tell found items stage → Finds tell found items (dropped_stage stage)
  given_up_found {P} found items stage finds = same_found found items stage (dropped_stage stage) (by stage) finds where
    by : (x : Stage P) → found_at tell (dropped_stage x) ≡ found_at tell x
    by Resting = refl
    by (Serving v call) = dropped_found v.work
    by (Refusing why bytes) = refl
    by (Over end) = refl

  pub given_back_found : {P : Type 0} (found : List A) (items : List Item) (stage after : Stage P) (windows behind : WindowsValue) → GivesBack stage windows after behind → Finds tell found items stage → Finds tell found items after
  given_back_found {P} found items stage after windows behind back finds = same_found found items stage after (by stage back) finds where
    by : (x : Stage P) → GivesBack x windows after behind → found_at tell after ≡ found_at tell x
    by Resting back = ap (λ x. found_at tell x) back.0
    by (Serving v call) back = ap (λ x. found_at tell x) back.2 ∙ (ap (λ (x : Visit P). found_by tell x.work) back.1.back.new_is ∙ told_found v way.Resting back.1.back.outcome)
    by (Refusing why bytes) back = ap (λ x. found_at tell x) back.0
    by (Over end) back = ap (λ x. found_at tell x) back.0

  fate_told : (fate : Fate) → tell (outcome_in fate) ≡ found_by_fate tell fate
  fate_told (Known became) = refl
  fate_told (Writing place again) = late.ended (Page place again)

  item_told : {P : Type 0} (v : Visit P) (work : Work P) (i : Item) → IsItemOf v work i → tell i.outcome ≡ found_by tell work
  item_told v Reading i is = absurd is
  item_told v Opening i is = absurd is
  item_told v (ServingBy tries program) i is = absurd is
  item_told v (Committed place again shown) i is = absurd is
  item_told v (Decided became) i is = absurd is
  item_told v (Answered fate bytes) i is = absurd is
  item_told v (Left fate) i is = ap (λ (x : Item). tell x.outcome) is ∙ fate_told fate

  rested_found : (P : Type 0) (close : Bool) → found_at tell (rested {P = P} close) ≡ None
  rested_found P true = refl
  rested_found P false = refl

  -- Behind an item that was taken.
  pub item_found : {P : Type 0} (found : List A) (items : List Item) (i : Item) (stage after : Stage P) → TakesItem stage i after → Finds tell found items stage → Finds tell found (items ++ i ∷ []) after
  item_found found items i Resting after takes finds = absurd takes
  item_found {P} found items i (Serving v call) after takes finds =
      finds ∙ (ap (λ (one : Option A). found_in_all tell items ++ option_to_list one) (sym (item_told v v.work i takes.0))
      ∙ (ap (λ (more : List A). found_in_all tell items ++ more) (sym (append-nil (option_to_list (tell i.outcome))))
      ∙ (sym (flat_map-append (λ (x : Item). option_to_list (tell x.outcome)) items (i ∷ []))
      ∙ (sym (append-nil (found_in_all tell (items ++ i ∷ [])))
      ∙ ap (λ (one : Option A). found_in_all tell (items ++ i ∷ []) ++ option_to_list one) (sym (ap (λ x. found_at tell x) takes.1 ∙ rested_found P v.facts.close))))))
  item_found found items i (Refusing why bytes) after takes finds = absurd takes
  item_found found items i (Over end) after takes finds = absurd takes

  -- none is told where a request is to be taken off the bytes
  pub none_before : {P : Type 0} (s : Shepherd P) → takes_next (turn s) ≡ true → found_at tell s.stage ≡ None
  none_before {P} s is = by_memory s.wants_memory is where
    by_stage : (x : Stage P) → takes_next (stage_turn x s.received s.ended) ≡ true → found_at tell x ≡ None
    by_stage Resting is = refl
    by_stage (Serving v call) is = absurd (let none = served_takes_none (visit_turn v) in cc)
    by_stage (Refusing why bytes) is = refl
    by_stage (Over end) is = refl

    by_memory : (m : Bool) → takes_next (if m then turns.Ended ends.OutOfMemory else stage_turn s.stage s.received s.ended) ≡ true → found_at tell s.stage ≡ None
    by_memory true is = absurd (cc)
    by_memory false is = by_stage s.stage is

  -- Behind a request that was taken off the bytes: none was open before.
  pub taken_found : {P : Type 0} (found : List A) (items : List Item) (s : Shepherd P) (new : Stage P) → takes_next (turn s) ≡ true → Finds tell found items s.stage → Finds tell (found ++ option_to_list (found_at tell new)) items new
  taken_found {P} found items s new is finds =
      ap (λ (l : List A). l ++ option_to_list (found_at tell new))
      (finds ∙ (ap (λ (one : Option A). found_in_all tell items ++ option_to_list one) (none_before s is) ∙ append-nil (found_in_all tell items)))

  -- What is told at an end: of a request that is open, one at most.
  pub told_found_for : {P : Type 0} (key : List ℕ) (history : List Event) (opened : List Head) (sent : List ℕ) (found : List A) (items : List Item) (stage : Stage P) → StageSays key history opened sent stage
      → Finds tell found items stage → AreFoundFor tell found items opened
  told_found_for {P} key history opened sent found items stage says finds = record { more = option_to_list (found_at tell stage); found_are = finds; few = by stage says } where
    one : (told : Option A) → length (option_to_list told) ≤ 1
    one None = omega arith
    one (Some x) = omega arith

    by : (x : Stage P) → StageSays key history opened sent x → length (option_to_list (found_at tell x)) ≤ length opened
    by Resting says = omega arith
    by (Serving v call) says = subst (λ (hs : List Head). length (option_to_list (found_by tell v.work)) ≤ length hs) (sym says.opened_is) (one (found_by tell v.work))
    by (Refusing why bytes) says = omega arith
    by (Over end) says = omega arith

-- it is one of these
abbrev pub IsAmong : {A : Type 0} → List A → A → Type 0
IsAmong {A} found one = (before : List A) × (behind : List A) × (found ≡ before ++ one ∷ behind)

module _ {A : Type 0} (tell : ItemOutcome → Option A) where
  abbrev TellsOne : List A → Item → Type 0
  TellsOne found i = (one : A) → tell i.outcome ≡ Some one → IsAmong found one

  item_first : (i : Item) (one : A) (more : List A) → tell i.outcome ≡ Some one → option_to_list (tell i.outcome) ++ more ≡ one ∷ more
  item_first i one more is = ap (λ (told : Option A). option_to_list told ++ more) is

  -- What an item tells is one of what all tell.
  pub each_found : (items : List Item) → All (TellsOne (found_in_all tell items)) items
  each_found [] = All-nil (TellsOne [])
  each_found (i ∷ items) =
      All-cons (TellsOne (found_in_all tell (i ∷ items))) i items
      (λ one is. ([], found_in_all tell items, item_first i one (found_in_all tell items) is))
      (All-weaker (TellsOne (found_in_all tell items)) (TellsOne (found_in_all tell (i ∷ items)))
      (λ x among one is. let there = among one is in
      (option_to_list (tell i.outcome) ++ there.0, there.1, ap (λ (l : List A). option_to_list (tell i.outcome) ++ l) there.2 ∙ sym (append_assoc (option_to_list (tell i.outcome)) there.0 (one ∷ there.1)))) items (each_found items))

  pub among_more : (found told more : List A) (one : A) → found ≡ told ++ more → IsAmong told one → IsAmong found one
  among_more found told more one is there =
      (there.0, there.1 ++ more, is ∙ (ap (λ (l : List A). l ++ more) there.2 ∙ append_assoc there.0 (one ∷ there.1) more))
