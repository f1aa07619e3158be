-- What is still asked and heard of several bricks.
use Rattle.std.proofs.Common.{◌≡◌, ◌∙◌, ap, sym, refl, ℕ, true, false, IsTrue, List, [], ◌∷◌, ◌++◌, Option, Some, None}
use Rattle.std.proofs.lemmas.List.Elements.{All-head, All-tail}
use Rattle.crash_base.specs.declared.numbers.BrickNo.{BrickNo}
use Rattle.outside.specs.Link.{Made}
use Rattle.ssm_frames.specs.declared.frame.Frame.{Frame}
use Rattle.ssm_stub.specs.declared.ask.Ask.{Ask}
use Rattle.ssm_stub.specs.declared.ear.Stage.{Stage}
use Rattle.ssm_stub.specs.declared.ear.Stage.TheVariants.{Unasked, Asked}
use Rattle.ssm_stub.specs.declared.ear.Ear.{Ear}
use Rattle.ssm_stub.specs.declared.ear.Ear.TheVariants.{Open, Heard}
use Rattle.ssm_stub.specs.declared.event.StubEvent.{StubEvent}
use Rattle.ssm_stub.specs.declared.event.StubEvent.TheVariants as event
use Rattle.ssm_stub.specs.declared.event.StubNext.TheVariants.{Ended}
use Rattle.ssm_stub.specs.Ears.{heard}
use Rattle.ssm_stub.specs.Turns.{none_asked, is_unasked, is_asked, is_open, wanted_of}
use Rattle.ssm_stub.specs.Runs.{told_of, fits, call_of}
use Rattle.link_lanes.specs.Lanes.{lane_of}
use Rattle.link_memory.specs.Lane.{LaneValue}
use Rattle.link_memory.specs.InOrder.{Over, asked_at, asked_over, asked_in_order, heard_out, with_ask}
use Rattle.link_memory.specs.Script.{ScriptValue, ScriptMakes}
use Rattle.link_memory.proofs.HearingOn.{heard_rest, begun, ask_step, hear_step, still}
use Rattle.link_memory.proofs.Places.{NonePass}

-- what the ask comes to, which is sent to a brick that was not asked
abbrev pub asked_once : {A : Type 0} → List ℕ → BrickNo → Ear A → ScriptValue → Over (Ear A)
asked_once ask brick (Open Unasked) link = asked_over ask brick link
asked_once ask brick (Open (Asked strays)) link = record { heard = Open (Asked strays); link = link }
asked_once ask brick (Heard outcome) link = record { heard = Heard outcome; link = link }

-- what is heard of a brick that is asked where it was not
abbrev pub rest_of : {A : Type 0} → (Frame → Option A) → List ℕ → BrickNo → Ear A → ScriptValue → Over (Ear A)
rest_of lawful ask brick ear link = heard_rest lawful brick (asked_once ask brick ear link).heard (asked_once ask brick ear link).link

-- all are asked that were not
abbrev pub ask_rest : {A : Type 0} → List ℕ → List (Ask BrickNo A) → ScriptValue → Over (List (Ask BrickNo A))
ask_rest ask [] link = record { heard = []; link = link }
ask_rest ask (a ∷ asks) link = with_ask a.who (asked_once ask a.who a.ear link).heard (ask_rest ask asks (asked_once ask a.who a.ear link).link)

-- others before those that are left
abbrev pub prepend : {X : Type 0} → List X → Over (List X) → Over (List X)
prepend before over = record { heard = before ++ over.heard; link = over.link }

pub once_asked : {A : Type 0} (W : Type 0) (who : W) (ask : List ℕ) (brick : BrickNo) (ear : Ear A) (link : ScriptValue) → is_unasked (record { who = who; ear = ear }) ≡ false → asked_once ask brick ear link ≡ record { heard = ear; link = link }
once_asked W who ask brick (Open Unasked) link h = absurd cc
once_asked W who ask brick (Open (Asked strays)) link h = refl
once_asked W who ask brick (Heard outcome) link h = refl

-- what was asked stays so
pub ask_passes : {A : Type 0} (ask : List ℕ) (before rest : List (Ask BrickNo A)) (link : ScriptValue) → NonePass is_unasked before → ask_rest ask (before ++ rest) link ≡ prepend before (ask_rest ask rest link)
ask_passes ask [] rest link all = refl
ask_passes {A} ask (a ∷ before) rest link all =
    let first = once_asked BrickNo a.who ask a.who a.ear link (All-head (λ (x : Ask BrickNo A). is_unasked x ≡ false) a before all) in
    ap (λ (o : Over (Ear A)). with_ask a.who o.heard (ask_rest ask (before ++ rest) o.link)) first
    ∙ ap (with_ask a.who a.ear) (ask_passes ask before rest link (All-tail (λ (x : Ask BrickNo A). is_unasked x ≡ false) a before all))

pub all_asked : {A : Type 0} (ask : List ℕ) (asks : List (Ask BrickNo A)) (link : ScriptValue) → NonePass is_unasked asks → ask_rest ask asks link ≡ record { heard = asks; link = link }
all_asked ask [] link all = refl
all_asked {A} ask (a ∷ asks) link all =
    let first = once_asked BrickNo a.who ask a.who a.ear link (All-head (λ (x : Ask BrickNo A). is_unasked x ≡ false) a asks all) in
    ap (λ (o : Over (Ear A)). with_ask a.who o.heard (ask_rest ask asks o.link)) first
    ∙ ap (with_ask a.who a.ear) (all_asked ask asks link (All-tail (λ (x : Ask BrickNo A). is_unasked x ≡ false) a asks all))

-- an event is not told to leave a brick unasked
pub told_once : {A : Type 0} (W : Type 0) (who : W) (lawful : Frame → Option A) (brick : BrickNo) (stage : Stage) (e : StubEvent) → IsTrue (fits (wanted_of brick stage) (told_of e)) → is_unasked (record { who = who; ear = heard lawful stage (told_of e) }) ≡ false
told_once W who lawful brick Unasked event.Sent fit = refl
told_once W who lawful brick Unasked (event.Frame bytes) fit = absurd cc
told_once W who lawful brick Unasked event.Silent fit = refl
told_once {A} W who lawful brick (Asked strays) e fit = by_ear (heard lawful (Asked strays) (told_of e)) refl where
  by_ear : (ear : Ear A) → heard lawful (Asked strays) (told_of e) ≡ ear → is_unasked (record { who = who; ear = ear }) ≡ false
  by_ear (Open Unasked) is = absurd (still lawful strays e is)
  by_ear (Open (Asked more)) is = refl
  by_ear (Heard outcome) is = refl

-- A brick goes on by the rule, from before its ask.
pub rest_step : {A : Type 0} (lawful : Frame → Option A) (ask : List ℕ) (brick : BrickNo) (stage : Stage) (e : StubEvent) (link mid : ScriptValue) → IsTrue (fits (wanted_of brick stage) (told_of e)) → Made ScriptMakes link (call_of ask (wanted_of brick stage) e) mid
    → rest_of lawful ask brick (Open stage) link ≡ rest_of lawful ask brick (heard lawful stage (told_of e)) mid
rest_step {A} lawful ask brick stage e link mid fit made = by_stage stage fit made ∙ ap (λ (o : Over (Ear A)). heard_rest lawful brick o.heard o.link) (sym (once_asked BrickNo brick ask brick (heard lawful stage (told_of e)) mid (told_once BrickNo brick lawful brick stage e fit))) where
  by_stage : (s : Stage) → IsTrue (fits (wanted_of brick s) (told_of e)) → Made ScriptMakes link (call_of ask (wanted_of brick s) e) mid → rest_of lawful ask brick (Open s) link ≡ heard_rest lawful brick (heard lawful s (told_of e)) mid
  by_stage Unasked fits_so made_so = ap (λ (o : Over (Ear A)). heard_rest lawful brick o.heard o.link) (ask_step lawful ask brick e link mid fits_so made_so)
  by_stage (Asked strays) fits_so made_so = hear_step lawful ask brick strays e link mid fits_so made_so

-- what was just asked is heard by the rule
pub just_asked : {A : Type 0} (lawful : Frame → Option A) (ask : List ℕ) (brick : BrickNo) (link other : ScriptValue) → heard_rest lawful brick (asked_over {A = A} ask brick link).heard other ≡ heard_out lawful brick (asked_over {A = A} ask brick link).heard other
just_asked {A} lawful ask brick link other = go (lane_of link brick.0) where
  go : (found : Option LaneValue) → heard_rest lawful brick (asked_at {A = A} ask brick found link).heard other ≡ heard_out lawful brick (asked_at {A = A} ask brick found link).heard other
  go None = refl
  go (Some lane) = begun lawful brick other

pub asks_start : {A : Type 0} (ask : List ℕ) (bricks : List BrickNo) (link : ScriptValue) → ask_rest {A = A} ask (none_asked bricks) link ≡ asked_in_order ask bricks link
asks_start ask [] link = refl
asks_start {A} ask (brick ∷ bricks) link = ap (with_ask brick (asked_over {A = A} ask brick link).heard) (asks_start ask bricks (asked_over {A = A} ask brick link).link)

-- the ears of those that were asked, heard or not
pub open_or_not : {A : Type 0} (W : Type 0) (who : W) (ear : Ear A) → is_unasked (record { who = who; ear = ear }) ≡ false → is_asked (record { who = who; ear = ear }) ≡ false → is_open (record { who = who; ear = ear }) ≡ false
open_or_not W who (Open Unasked) h k = cc
open_or_not W who (Open (Asked strays)) h k = cc
open_or_not W who (Heard outcome) h k = refl

pub was_unasked : {A : Type 0} (W : Type 0) (who : W) (ear : Ear A) → is_unasked (record { who = who; ear = ear }) ≡ true → ear ≡ Open Unasked
was_unasked W who (Open Unasked) h = refl
was_unasked W who (Open (Asked strays)) h = absurd cc
was_unasked W who (Heard outcome) h = absurd cc

-- One that was asked, with its strays.
pub record Strays {A : Type 0} (ear : Ear A) : Type 0 where
  pub strays : ℕ
  pub is : ear ≡ Open (Asked strays)

pub was_asked : {A : Type 0} (W : Type 0) (who : W) (ear : Ear A) → is_asked (record { who = who; ear = ear }) ≡ true → Strays ear
was_asked W who (Open Unasked) h = absurd cc
was_asked W who (Open (Asked strays)) h = record { strays = strays; is = refl }
was_asked W who (Heard outcome) h = absurd cc

-- One without an outcome, with its stage.
pub record Staged {A : Type 0} (ear : Ear A) : Type 0 where
  pub stage : Stage
  pub is : ear ≡ Open stage

pub was_open : {A : Type 0} (W : Type 0) (who : W) (ear : Ear A) → is_open (record { who = who; ear = ear }) ≡ true → Staged ear
was_open W who (Open stage) h = record { stage = stage; is = refl }
was_open W who (Heard outcome) h = absurd cc

-- something is wanted of one without an outcome
pub wants_none : (brick : BrickNo) (stage : Stage) → wanted_of brick stage ≡ Ended → ⊥
wants_none brick Unasked h = cc
wants_none brick (Asked strays) h = cc
