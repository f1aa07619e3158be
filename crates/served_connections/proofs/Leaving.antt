-- When the response of a request has left, and what is left of it then.
use Rattle.std.proofs.Common.{◌≡◌, ◌⊎◌, inl, inr, Bool, true, false, List, [], Option, Some, None, refl, sym, ap, ◌∙◌, subst, if◌then◌else◌}
use Rattle.boot_core.specs.declared.boot.Start.{Start}
use Rattle.call_ticket.specs.declared.next.Answer.{Answer}
use Rattle.call_ticket.specs.declared.next.Next.{Next}
use Rattle.container_core.specs.Container.{ContainerValue}
use Rattle.container_core.specs.declared.history.Event.{Event}
use Rattle.deployment.specs.declared.parts.Parts.{Parts}
use Rattle.outcome_items.specs.declared.item.Item.{Item}
use Rattle.outside.specs.declared.link.LinkEvent.{LinkEvent}
use Rattle.request_tries.specs.Serving.{TriesValue}
use Rattle.request_visit.specs.Going.{MayGoOn}
use Rattle.request_visit.specs.Marks.{MarksOf}
use Rattle.request_visit.specs.Stepping.{OnServing, dropped}
use Rattle.request_visit.specs.Visits.{after_outcome, fate_missed, fate_written, turn_by as visit_turn_by, with_fate}
use Rattle.request_visit.specs.declared.visit.Fate.{Fate}
use Rattle.request_visit.specs.declared.visit.Fate.TheVariants.{Known, Writing}
use Rattle.request_visit.specs.declared.visit.Visit.{Visit}
use Rattle.request_visit.specs.declared.visit.Work.{Work}
use Rattle.request_visit.specs.declared.visit.Work.TheVariants.{Reading, Opening, Serving as ServingBy, Committed, Decided, Answered, Left}
use Rattle.send_windows.specs.Windows.{WindowsValue}
use Rattle.send_windows.specs.declared.history.WindowMark.{WindowMark}
use Rattle.send_windows.specs.declared.windows.TakeRefusal.TheVariants as refusal
use Rattle.session_cookie.specs.declared.cookie.Cookie.{Cookie}
use Rattle.session_way.specs.Way.{IsRefused, wants}
use Rattle.session_way.specs.declared.session_write.WriteOutcome.{WriteOutcome}
use Rattle.session_way.specs.declared.session_write.WriteOutcome.TheVariants as outcome
use Rattle.session_way.specs.declared.way.SessionWay.{SessionWay}
use Rattle.session_way.specs.declared.way.SessionWay.TheVariants as way
use Rattle.session_way.specs.declared.way.Wants.{Wants}
use Rattle.session_way.specs.declared.way.Wants.TheVariants as wanted
use Rattle.shepherd.specs.Accounting.{StageTells}
use Rattle.shepherd.specs.Going.{OpenGoesOn}
use Rattle.shepherd.specs.Shepherds.{has_item, is_over, stage_turn, turn, turn_by}
use Rattle.shepherd.specs.Standing.{has_left}
use Rattle.shepherd.specs.Steps.{GivesBack, HasLeftIfOpen, IfOpen, IsServedStill, OnVisit, StepsVisit, TakesItem, dropped_stage, rested}
use Rattle.shepherd.specs.declared.shepherd.EndKind.{EndKind}
use Rattle.shepherd.specs.declared.shepherd.EndKind.TheVariants as ends
use Rattle.shepherd.specs.declared.shepherd.Shepherd.{Shepherd}
use Rattle.shepherd.specs.declared.shepherd.ShepherdTurn.{ShepherdTurn}
use Rattle.shepherd.specs.declared.shepherd.ShepherdTurn.TheVariants as turns
use Rattle.shepherd.specs.declared.shepherd.Stage.{Stage}
use Rattle.shepherd.specs.declared.shepherd.Stage.TheVariants.{Resting, Serving, Refusing, Over}
use Rattle.served_connections.specs.Resting.{last_at}
use Rattle.served_connections.specs.Stopping.{HoldsNothing, IsUnsent}

-- A request whose item is taken may go on.
pub may_go_on : {P L : Type 0} (accepts : P → Parts → Type 0) (asks : P → List Answer → Next) (calls : L → LinkEvent → L → Type 0) (container : ContainerValue) (stage : Stage P) (i : Item) (after : Stage P)
    → TakesItem stage i after → IfOpen stage (OpenGoesOn accepts asks calls container) → OnVisit stage (λ v call. MayGoOn accepts asks container.boot v)
may_go_on accepts asks calls container Resting i after takes goes = absurd takes
may_go_on accepts asks calls container (Serving v call) i after takes goes = goes.goes_on
may_go_on accepts asks calls container (Refusing why bytes) i after takes goes = absurd takes
may_go_on accepts asks calls container (Over end) i after takes goes = absurd takes

-- one of two
pub by_cases : {A B C : Type 0} → A ⊎ B → (A → C) → (B → C) → C
by_cases (inl a) left right = left a
by_cases (inr b) left right = right b

-- Memory is not wanted behind a step that changes a stage alone.
pub remembering : {P : Type 0} (old new : Shepherd P) → new ≡ record old { stage = new.stage } → old.wants_memory ≡ false → new.wants_memory ≡ false
remembering {P} old new rest is = ap (λ (x : Shepherd P). x.wants_memory) rest ∙ is

-- Where a request is open, the connection has not ended.
pub last_open : {P : Type 0} (So : Visit P → Visit P → Type 0) (stage after : Stage P) → StepsVisit So stage after → last_at stage ≡ []
last_open So Resting after steps = refl
last_open So (Serving v call) after steps = refl
last_open So (Refusing why bytes) after steps = refl
last_open So (Over end) after steps = absurd steps

-- whether a connection has ended, by its turn
abbrev pub is_end : ShepherdTurn → Bool
is_end turns.Bytes = false
is_end turns.Request = false
is_end turns.Outside = false
is_end turns.Windows = false
is_end turns.Inside = false
is_end turns.Program = false
is_end turns.Own = false
is_end turns.Output = false
is_end turns.Item = false
is_end (turns.Ended end) = true

both_end : (wants : Bool) (a b : EndKind) → is_end (if wants then turns.Ended a else turns.Ended b) ≡ true
both_end true a b = refl
both_end false a b = refl

-- A connection whose turn is no end has not ended, so it has no last bytes.
pub unended : {P : Type 0} (s : Shepherd P) → is_end (turn s) ≡ false → last_at s.stage ≡ []
unended {P} s is = by s.stage is where
  by : (x : Stage P) → is_end (if s.wants_memory then turns.Ended ends.OutOfMemory else stage_turn x s.received s.ended) ≡ false → last_at x ≡ []
  by Resting is = refl
  by (Serving v call) is = refl
  by (Refusing why bytes) is = refl
  by (Over end) is = absurd (let ends_so = both_end s.wants_memory ends.OutOfMemory end in cc)

-- whether it is a step that a request makes only before its response has left
abbrev pub is_before : ShepherdTurn → Bool
is_before turns.Bytes = false
is_before turns.Request = false
is_before turns.Outside = false
is_before turns.Windows = false
is_before turns.Inside = true
is_before turns.Program = true
is_before turns.Own = true
is_before turns.Output = true
is_before turns.Item = false
is_before (turns.Ended end) = false

left_turn : (P : Type 0) (fate : Fate) (w : Wants) → is_before (turn_by (visit_turn_by {P = P} (Left fate) w)) ≡ false
left_turn P fate wanted.Nothing = refl
left_turn P fate wanted.Outside = refl
left_turn P fate wanted.Windows = refl

unsent_at : {P : Type 0} (work : Work P) (w : Wants) → is_before (turn_by (visit_turn_by work w)) ≡ true → has_left work ≡ false
unsent_at Reading w is = refl
unsent_at Opening w is = refl
unsent_at (ServingBy tries program) w is = refl
unsent_at (Committed place again shown) w is = refl
unsent_at (Decided became) w is = refl
unsent_at (Answered fate bytes) w is = refl
unsent_at {P} (Left fate) w is = absurd (let no = left_turn P fate w in cc)

-- At such a turn the response of the open request has not left.
pub unsent_before : {P : Type 0} (s : Shepherd P) → is_before (turn s) ≡ true → IsUnsent s.stage
unsent_before {P} s is = by_memory s.wants_memory is where
  by_stage : (x : Stage P) → is_before (stage_turn x s.received s.ended) ≡ true → IsUnsent x
  by_stage Resting is = tt
  by_stage (Serving v call) is = unsent_at v.work (wants v.way) is
  by_stage (Refusing why bytes) is = tt
  by_stage (Over end) is = tt

  by_memory : (m : Bool) → is_before (if m then turns.Ended ends.OutOfMemory else stage_turn s.stage s.received s.ended) ≡ true → IsUnsent s.stage
  by_memory true is = absurd (cc)
  by_memory false is = by_stage s.stage is

served_unsent : {P : Type 0} (work : Work P) (So : TriesValue → P → Type 0) → OnServing work So → has_left work ≡ false
served_unsent Reading So so = absurd so
served_unsent Opening So so = absurd so
served_unsent (ServingBy tries program) So so = refl
served_unsent (Committed place again shown) So so = absurd so
served_unsent (Decided became) So so = absurd so
served_unsent (Answered fate bytes) So so = absurd so
served_unsent (Left fate) So so = absurd so

-- The response of a request that is served in the container has not left.
pub unsent_inside : {P : Type 0} (stage after : Stage P) → StepsVisit IsServedStill stage after → IsUnsent stage
unsent_inside Resting after steps = tt
unsent_inside (Serving v call) after steps = served_unsent v.work (λ tries program. (after : TriesValue) × (steps.0 ≡ record v { work = ServingBy after program })) steps.1
unsent_inside (Refusing why bytes) after steps = tt
unsent_inside (Over end) after steps = tt

-- passes are to be taken
abbrev IsToTake : SessionWay → Type 0
IsToTake way.Resting = ⊥
IsToTake (way.Reading r) = ⊥
IsToTake (way.Ordered order) = Unit {0}
IsToTake (way.Writing w) = ⊥
IsToTake (way.Settling w) = ⊥
IsToTake (way.Holding passes) = ⊥

to_take : (w : SessionWay) (win : WindowsValue) (new : SessionWay) (after : WindowsValue) → IsRefused w win new after refusal.OutOfMemory → IsToTake w
to_take way.Resting win new after refused = absurd refused
to_take (way.Reading r) win new after refused = absurd refused
to_take (way.Ordered order) win new after refused = tt
to_take (way.Writing w) win new after refused = absurd refused
to_take (way.Settling w) win new after refused = absurd refused
to_take (way.Holding passes) win new after refused = absurd refused

left_takes_none : (P : Type 0) (marks : List WindowMark) (cookie : Option Cookie) (w : SessionWay) (fate : Fate) → MarksOf {P = P} marks cookie w (Left fate) → IsToTake w → ⊥
left_takes_none P marks cookie w (Known became) marked takes = subst IsToTake marked.rests takes
left_takes_none P marks cookie way.Resting (Writing place again) marked takes = absurd takes
left_takes_none P marks cookie (way.Reading r) (Writing place again) marked takes = absurd takes
left_takes_none P marks cookie (way.Ordered order) (Writing place again) marked takes = marked.held_so
left_takes_none P marks cookie (way.Writing w) (Writing place again) marked takes = absurd takes
left_takes_none P marks cookie (way.Settling w) (Writing place again) marked takes = absurd takes
left_takes_none P marks cookie (way.Holding passes) (Writing place again) marked takes = absurd takes

unsent_taking : {P : Type 0} (marks : List WindowMark) (cookie : Option Cookie) (w : SessionWay) (work : Work P) → MarksOf marks cookie w work → IsToTake w → has_left work ≡ false
unsent_taking marks cookie w Reading marked takes = refl
unsent_taking marks cookie w Opening marked takes = refl
unsent_taking marks cookie w (ServingBy tries program) marked takes = refl
unsent_taking marks cookie w (Committed place again shown) marked takes = refl
unsent_taking marks cookie w (Decided became) marked takes = refl
unsent_taking marks cookie w (Answered fate bytes) marked takes = refl
unsent_taking {P} marks cookie w (Left fate) marked takes = absurd (left_takes_none P marks cookie w fate marked takes)

-- The response of a request that was to take passes has not left.
pub unsent_windows : {P : Type 0} (asks : P → List Answer → Next) (start : Start) (history own : List Event) (marks : List WindowMark) (stage after : Stage P) (windows behind : WindowsValue)
    → StepsVisit (λ (v w : Visit P). IsRefused v.way windows w.way behind refusal.OutOfMemory) stage after → StageTells asks start history own marks stage → IsUnsent stage
unsent_windows asks start history own marks Resting after windows behind steps tells = tt
unsent_windows asks start history own marks (Serving v call) after windows behind steps tells =
    unsent_taking marks v.cookie v.way v.work tells.marks_are (to_take v.way windows steps.0.way behind steps.1)
unsent_windows asks start history own marks (Refusing why bytes) after windows behind steps tells = tt
unsent_windows asks start history own marks (Over end) after windows behind steps tells = tt

-- A response has left, or it has not.
pub left_or_unsent : {P : Type 0} (stage : Stage P) → HasLeftIfOpen stage ⊎ IsUnsent stage
left_or_unsent Resting = inl tt
left_or_unsent (Serving v call) = by (has_left v.work) where
  by : (b : Bool) → (b ≡ true) ⊎ (b ≡ false)
  by true = inl refl
  by false = inr refl
left_or_unsent (Refusing why bytes) = inl tt
left_or_unsent (Over end) = inl tt

dropped_left : {P : Type 0} (work : Work P) → has_left (dropped work) ≡ has_left work
dropped_left Reading = refl
dropped_left Opening = refl
dropped_left (ServingBy tries program) = refl
dropped_left (Committed place again shown) = refl
dropped_left (Decided became) = refl
dropped_left (Answered fate bytes) = refl
dropped_left (Left fate) = refl

pub unsent_dropped : {P : Type 0} (stage : Stage P) → IsUnsent stage → IsUnsent (dropped_stage stage)
unsent_dropped Resting unsent = tt
unsent_dropped (Serving v call) unsent = dropped_left v.work ∙ unsent
unsent_dropped (Refusing why bytes) unsent = tt
unsent_dropped (Over end) unsent = tt

pub last_dropped : {P : Type 0} (stage : Stage P) → last_at stage ≡ [] → last_at (dropped_stage stage) ≡ []
last_dropped Resting is = refl
last_dropped (Serving v call) is = refl
last_dropped (Refusing why bytes) is = refl
last_dropped (Over end) is = is

fate_left : {P : Type 0} (change : Fate → Fate) (work : Work P) → has_left (with_fate change work) ≡ has_left work
fate_left change Reading = refl
fate_left change Opening = refl
fate_left change (ServingBy tries program) = refl
fate_left change (Committed place again shown) = refl
fate_left change (Decided became) = refl
fate_left change (Answered fate bytes) = refl
fate_left change (Left fate) = refl

pub outcome_left : {P : Type 0} (told : Option WriteOutcome) (v : Visit P) → has_left (after_outcome told v).work ≡ has_left v.work
outcome_left None v = refl
outcome_left (Some (outcome.Written cookie)) v = fate_left fate_written v.work
outcome_left (Some (outcome.Missed causes)) v = fate_left (fate_missed causes) v.work

pub outcome_rests : {P : Type 0} (told : Option WriteOutcome) (v : Visit P) → (after_outcome told v).way ≡ v.way
outcome_rests None v = refl
outcome_rests (Some (outcome.Written cookie)) v = refl
outcome_rests (Some (outcome.Missed causes)) v = refl

-- Where passes were given back, a response that has not left has not left still, and nothing is held any more.
pub unsent_back : {P : Type 0} (stage behind : Stage P) (windows after : WindowsValue) → GivesBack stage windows behind after → IsUnsent stage → IsUnsent behind
unsent_back {P} Resting behind windows after back unsent = subst IsUnsent (sym back.0) tt
unsent_back {P} (Serving v call) behind windows after back unsent =
    subst IsUnsent (sym back.2)
    (ap (λ (x : Visit P). has_left x.work) back.1.back.new_is ∙ (outcome_left back.1.back.outcome (record v { way = way.Resting }) ∙ unsent))
unsent_back {P} (Refusing why bytes) behind windows after back unsent = subst IsUnsent (sym back.0) tt
unsent_back {P} (Over end) behind windows after back unsent = subst IsUnsent (sym back.0) tt

pub nothing_held : {P : Type 0} (stage behind : Stage P) (windows after : WindowsValue) → GivesBack stage windows behind after → HoldsNothing behind
nothing_held {P} Resting behind windows after back = subst HoldsNothing (sym back.0) tt
nothing_held {P} (Serving v call) behind windows after back =
    subst HoldsNothing (sym back.2) (ap (λ (x : Visit P). x.way) back.1.back.new_is ∙ outcome_rests back.1.back.outcome (record v { way = way.Resting }))
nothing_held {P} (Refusing why bytes) behind windows after back = subst HoldsNothing (sym back.0) tt
nothing_held {P} (Over end) behind windows after back = subst HoldsNothing (sym back.0) tt

pub last_back : {P : Type 0} (stage behind : Stage P) (windows after : WindowsValue) → GivesBack stage windows behind after → last_at stage ≡ [] → last_at behind ≡ []
last_back Resting behind windows after back is = ap last_at back.0
last_back (Serving v call) behind windows after back is = ap last_at back.2
last_back (Refusing why bytes) behind windows after back is = ap last_at back.0
last_back (Over end) behind windows after back is = ap last_at back.0 ∙ is

rested_holds_nothing : (P : Type 0) (close : Bool) → HoldsNothing (rested {P = P} close)
rested_holds_nothing P true = tt
rested_holds_nothing P false = tt

pub last_rested : (P : Type 0) (close : Bool) → last_at (rested {P = P} close) ≡ []
last_rested P true = refl
last_rested P false = refl

-- Behind an item nothing is held, and there are no last bytes.
pub item_held : {P : Type 0} (i : Item) (stage after : Stage P) → TakesItem stage i after → HoldsNothing after
item_held i Resting after takes = absurd takes
item_held {P} i (Serving v call) after takes = subst HoldsNothing (sym takes.1) (rested_holds_nothing P v.facts.close)
item_held i (Refusing why bytes) after takes = absurd takes
item_held i (Over end) after takes = absurd takes

pub item_unended : {P : Type 0} (i : Item) (stage after : Stage P) → TakesItem stage i after → last_at after ≡ []
item_unended i Resting after takes = absurd takes
item_unended {P} i (Serving v call) after takes = ap last_at takes.1 ∙ last_rested P v.facts.close
item_unended i (Refusing why bytes) after takes = absurd takes
item_unended i (Over end) after takes = absurd takes

unsent_over : {P : Type 0} (w : Work P) (want : Wants) → has_left w ≡ false → is_over (visit_turn_by w want) ≡ false
unsent_over Reading wanted.Nothing e = refl
unsent_over Reading wanted.Outside e = refl
unsent_over Reading wanted.Windows e = refl
unsent_over Opening want e = refl
unsent_over (ServingBy tries program) want e = refl
unsent_over (Committed place again shown) wanted.Nothing e = refl
unsent_over (Committed place again shown) wanted.Outside e = refl
unsent_over (Committed place again shown) wanted.Windows e = refl
unsent_over (Decided became) want e = refl
unsent_over (Answered fate bytes) want e = refl
unsent_over (Left fate) want e = absurd (cc)

-- No item can be taken of a request whose response has not left.
pub unsent_no_item : {P : Type 0} (stage : Stage P) → IsUnsent stage → has_item stage ≡ true → ⊥
unsent_no_item Resting unsent has = absurd (cc)
unsent_no_item (Serving v call) unsent has = absurd (let none = unsent_over v.work (wants v.way) unsent in cc)
unsent_no_item (Refusing why bytes) unsent has = absurd (cc)
unsent_no_item (Over end) unsent has = absurd (cc)

held_item : {P : Type 0} (work : Work P) (w : SessionWay) → w ≡ way.Resting → is_over (visit_turn_by work (wants w)) ≡ false → has_left work ≡ false
held_item Reading w rests none = refl
held_item Opening w rests none = refl
held_item (ServingBy tries program) w rests none = refl
held_item (Committed place again shown) w rests none = refl
held_item (Decided became) w rests none = refl
held_item (Answered fate bytes) w rests none = refl
held_item {P} (Left fate) w rests none = absurd (let over : is_over (visit_turn_by {P = P} (Left fate) (wants w)) ≡ true = ap (λ (x : SessionWay). is_over (visit_turn_by {P = P} (Left fate) (wants x))) rests in cc)

-- Where nothing is held and no item can be taken, the response has not left.
pub unsent_without_item : {P : Type 0} (stage : Stage P) → HoldsNothing stage → has_item stage ≡ false → IsUnsent stage
unsent_without_item Resting holds none = tt
unsent_without_item (Serving v call) holds none = held_item v.work v.way holds none
unsent_without_item (Refusing why bytes) holds none = tt
unsent_without_item (Over end) holds none = tt
