-- How a connection comes to rest.
use Rattle.std.proofs.Common.{◌≡◌, ℕ, Bool, true, false, List, refl, sym, ap, ◌∙◌, subst, if◌then◌else◌}
use Rattle.outcome_items.specs.declared.item.Item.{Item}
use Rattle.request_visit.specs.Advancing.{departed}
use Rattle.request_visit.specs.Stepping.{IsGivenBack, dropped}
use Rattle.request_visit.specs.Visits.{turn as visit_turn, turn_by as visit_turn_by}
use Rattle.request_visit.specs.declared.visit.Turn.{Turn}
use Rattle.request_visit.specs.declared.visit.Turn.TheVariants as visit
use Rattle.request_visit.specs.declared.visit.Visit.{Visit}
use Rattle.request_visit.specs.declared.visit.Work.{Work}
use Rattle.request_visit.specs.declared.visit.Work.TheVariants.{Reading, Opening, Serving as ServingBy, Committed, Decided, Answered, Left}
use Rattle.send_windows.specs.Windows.{WindowsValue}
use Rattle.session_way.specs.Way.{wants}
use Rattle.session_way.specs.declared.way.SessionWay.{SessionWay}
use Rattle.session_way.specs.declared.way.SessionWay.TheVariants as way
use Rattle.session_way.specs.declared.way.Wants.{Wants}
use Rattle.session_way.specs.declared.way.Wants.TheVariants as wanted
use Rattle.shepherd.specs.Shepherds.{has_item, is_over, stage_turn, turn, turn_by}
use Rattle.shepherd.specs.Standing.{has_left}
use Rattle.shepherd.specs.Steps.{GivesBack, HasLeftIfOpen, PutsOut, TakesItem, dropped_stage, rested}
use Rattle.shepherd.specs.declared.shepherd.EndKind.TheVariants as ends
use Rattle.shepherd.specs.declared.shepherd.Shepherd.{Shepherd}
use Rattle.shepherd.specs.declared.shepherd.ShepherdTurn.{ShepherdTurn}
use Rattle.shepherd.specs.declared.shepherd.ShepherdTurn.TheVariants as turns
use Rattle.shepherd.specs.declared.shepherd.Stage.{Stage}
use Rattle.shepherd.specs.declared.shepherd.Stage.TheVariants.{Resting, Serving, Refusing, Over}
use Rattle.served_connections.specs.Resting.{HasLeftAll, Rests}
use Rattle.served_connections.proofs.Leaving.{outcome_left, outcome_rests}

-- whether bytes are to come, or nothing is
abbrev pub is_rest : ShepherdTurn → Bool
is_rest turns.Bytes = true
is_rest turns.Request = false
is_rest turns.Outside = false
is_rest turns.Windows = false
is_rest turns.Inside = false
is_rest turns.Program = false
is_rest turns.Own = false
is_rest turns.Output = false
is_rest turns.Item = false
is_rest (turns.Ended end) = true

pub served_no_rest : (t : Turn) → is_rest (turn_by t) ≡ false
served_no_rest visit.Outside = refl
served_no_rest visit.Windows = refl
served_no_rest visit.Inside = refl
served_no_rest visit.Program = refl
served_no_rest visit.Own = refl
served_no_rest visit.Output = refl
served_no_rest visit.Over = refl

-- A connection rests where bytes are to come, and where it has ended.
pub rests_at : {P : Type 0} (s : Shepherd P) → s.wants_memory ≡ false → is_rest (turn s) ≡ true → Rests s.stage
rests_at {P} s remembers is =
    by s.stage (subst (λ (m : Bool). is_rest (if m then turns.Ended ends.OutOfMemory else stage_turn s.stage s.received s.ended) ≡ true) remembers is)
  where
    by : (x : Stage P) → is_rest (stage_turn x s.received s.ended) ≡ true → Rests x
    by Resting is = tt
    by (Serving v call) is = absurd (let no = served_no_rest (visit_turn v) in cc)
    by (Refusing why bytes) is = absurd (cc)
    by (Over end) is = tt

-- where bytes are to come, memory was not wanted
pub bytes_remember : {P : Type 0} (s : Shepherd P) → turn s ≡ turns.Bytes → s.wants_memory ≡ false
bytes_remember s is = by s.wants_memory is where
  by : (m : Bool) → (if m then turns.Ended ends.OutOfMemory else stage_turn s.stage s.received s.ended) ≡ turns.Bytes → m ≡ false
  by true is = absurd (cc)
  by false is = refl

pub all_left : {P : Type 0} (stage : Stage P) → Rests stage → HasLeftAll stage
all_left Resting rests = tt
all_left (Serving v call) rests = absurd rests
all_left (Refusing why bytes) rests = absurd rests
all_left (Over end) rests = tt

-- whether a response is to leave
abbrev pub is_output : ShepherdTurn → Bool
is_output turns.Bytes = false
is_output turns.Request = false
is_output turns.Outside = false
is_output turns.Windows = false
is_output turns.Inside = false
is_output turns.Program = false
is_output turns.Own = false
is_output turns.Output = true
is_output turns.Item = false
is_output (turns.Ended end) = false

departs : {P : Type 0} (work : Work P) (w : Wants) → is_output (turn_by (visit_turn_by work w)) ≡ true → has_left (departed work) ≡ true
departs Reading wanted.Nothing is = absurd (cc)
departs Reading wanted.Outside is = absurd (cc)
departs Reading wanted.Windows is = absurd (cc)
departs Opening w is = absurd (cc)
departs (ServingBy tries program) w is = absurd (cc)
departs (Committed place again shown) wanted.Nothing is = absurd (cc)
departs (Committed place again shown) wanted.Outside is = absurd (cc)
departs (Committed place again shown) wanted.Windows is = absurd (cc)
departs (Decided became) w is = absurd (cc)
departs (Answered fate bytes) w is = refl
departs (Left fate) w is = refl

-- Where a response left, all has left.
pub left_out : {P : Type 0} (bytes : List ℕ) (s : Shepherd P) (after : Stage P) → is_output (turn s) ≡ true → PutsOut s.stage bytes after → HasLeftAll after
left_out {P} bytes s after is puts = by_memory s.wants_memory is where
  by_stage : (x : Stage P) → is_output (stage_turn x s.received s.ended) ≡ true → PutsOut x bytes after → HasLeftAll after
  by_stage Resting is puts = absurd puts
  by_stage (Serving v call) is puts = subst HasLeftAll (sym puts.1) (departs v.work (wants v.way) is)
  by_stage (Refusing why last) is puts = subst HasLeftAll (sym puts.1) tt
  by_stage (Over end) is puts = absurd puts

  by_memory : (m : Bool) → is_output (if m then turns.Ended ends.OutOfMemory else stage_turn s.stage s.received s.ended) ≡ true → HasLeftAll after
  by_memory true is = absurd (cc)
  by_memory false is = by_stage s.stage is puts

dropped_all : {P : Type 0} (work : Work P) → has_left work ≡ true → has_left (dropped work) ≡ true
dropped_all Reading is = is
dropped_all Opening is = is
dropped_all (ServingBy tries program) is = absurd (cc)
dropped_all (Committed place again shown) is = is
dropped_all (Decided became) is = is
dropped_all (Answered fate bytes) is = is
dropped_all (Left fate) is = is

pub left_dropped : {P : Type 0} (stage : Stage P) → HasLeftAll stage → HasLeftAll (dropped_stage stage)
left_dropped Resting left = tt
left_dropped (Serving v call) left = dropped_all v.work left
left_dropped (Refusing why bytes) left = left
left_dropped (Over end) left = tt

pub left_if_open : {P : Type 0} (stage : Stage P) → HasLeftAll stage → HasLeftIfOpen stage
left_if_open Resting left = tt
left_if_open (Serving v call) left = left
left_if_open (Refusing why bytes) left = tt
left_if_open (Over end) left = tt

left_item : {P : Type 0} (work : Work P) → has_left work ≡ true → is_over (visit_turn_by work wanted.Nothing) ≡ true
left_item Reading is = absurd (cc)
left_item Opening is = absurd (cc)
left_item (ServingBy tries program) is = absurd (cc)
left_item (Committed place again shown) is = absurd (cc)
left_item (Decided became) is = absurd (cc)
left_item (Answered fate bytes) is = absurd (cc)
left_item (Left fate) is = refl

left_stays : {P : Type 0} (v w : Visit P) → IsGivenBack v w → has_left v.work ≡ true → is_over (visit_turn w) ≡ false → ⊥
left_stays {P} v w back left none =
    let rests : w.way ≡ way.Resting = ap (λ (x : Visit P). x.way) back.new_is ∙ outcome_rests back.outcome (record v { way = way.Resting }) in
    let there : has_left w.work ≡ true = ap (λ (x : Visit P). has_left x.work) back.new_is ∙ (outcome_left back.outcome (record v { way = way.Resting }) ∙ left) in
    let over : is_over (visit_turn w) ≡ true = ap (λ (x : SessionWay). is_over (visit_turn_by w.work (wants x))) rests ∙ left_item w.work there in
    absurd (cc)

-- Where passes were given back behind a response, its item is left, or the connection rests.
pub rests_back : {P : Type 0} (stage behind : Stage P) (windows after : WindowsValue) → HasLeftAll stage → GivesBack stage windows behind after → has_item behind ≡ false → Rests behind
rests_back Resting behind windows after left back none = subst Rests (sym back.0) tt
rests_back {P} (Serving v call) behind windows after left back none =
    absurd (left_stays v back.0 back.1.back left (subst (λ (x : Stage P). has_item x ≡ false) back.2 none))
rests_back (Refusing why bytes) behind windows after left back none = absurd left
rests_back (Over end) behind windows after left back none = subst Rests (sym back.0) tt

pub rest_dropped : {P : Type 0} (stage : Stage P) → Rests stage → dropped_stage stage ≡ stage
rest_dropped Resting rests = refl
rest_dropped (Serving v call) rests = absurd rests
rest_dropped (Refusing why bytes) rests = absurd rests
rest_dropped (Over end) rests = refl

pub rest_kept : {P : Type 0} (stage behind : Stage P) (windows after : WindowsValue) → Rests stage → GivesBack stage windows behind after → (behind ≡ stage) × (after ≡ windows)
rest_kept Resting behind windows after rests back = back
rest_kept (Serving v call) behind windows after rests back = absurd rests
rest_kept (Refusing why bytes) behind windows after rests back = absurd rests
rest_kept (Over end) behind windows after rests back = back

rested_rests : (P : Type 0) (close : Bool) → Rests (rested {P = P} close)
rested_rests P true = tt
rested_rests P false = tt

pub item_rests : {P : Type 0} (i : Item) (stage after : Stage P) → TakesItem stage i after → Rests after
item_rests i Resting after takes = absurd takes
item_rests {P} i (Serving v call) after takes = subst Rests (sym takes.1) (rested_rests P v.facts.close)
item_rests i (Refusing why bytes) after takes = absurd takes
item_rests i (Over end) after takes = absurd takes
