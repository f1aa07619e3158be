-- A connection that has gone on by itself does no more by itself.
use Rattle.std.proofs.Common.{◌≡◌, ◌≢◌, ◌<◌, ◌≤◌, ℕ, Bool, true, false, if◌then◌else◌, List, Option, Some, None, Result, Err, refl, sym, ap, ◌∙◌, subst, arith, nat_lt}
use Rattle.std.specs.Option.{option_and_then}
use Rattle.outcome_items.specs.declared.item.Item.{Item}
use Rattle.request_visit.specs.Visits.{or_own, turn as visit_turn, turn_by as visit_turn_by}
use Rattle.request_visit.specs.declared.visit.Visit.{Visit}
use Rattle.request_visit.specs.declared.visit.Work.{Work}
use Rattle.request_visit.specs.declared.visit.Work.TheVariants.{Reading, Opening, Serving as ServingBy, Committed, Decided, Answered, Left}
use Rattle.session_cookie.specs.declared.cookie.Holder.{Holder}
use Rattle.session_way.specs.Way.{outside_or, wants}
use Rattle.session_way.specs.declared.session_read.ReadOutcome.{ReadOutcome}
use Rattle.session_way.specs.declared.session_read.ReadOutcome.TheVariants as read
use Rattle.session_way.specs.declared.way.SessionWay.{SessionWay}
use Rattle.session_way.specs.declared.way.SessionWay.TheVariants as way
use Rattle.session_way.specs.declared.way.Wants.{Wants}
use Rattle.session_way.specs.declared.way.Wants.TheVariants as wanted
use Rattle.shepherd.specs.Shepherds.{turn, turn_by}
use Rattle.http_wire.specs.declared.taken.Head.{Head}
use Rattle.shepherd.specs.Standing.{IsOpen, Standing, is_early}
use Rattle.shepherd.specs.Steps.{OnVisit, rested}
use Rattle.shepherd.specs.declared.shepherd.AskedCall.{AskedCall}
use Rattle.shepherd.specs.declared.shepherd.Shepherd.{Shepherd}
use Rattle.shepherd.specs.declared.shepherd.ShepherdTurn.{ShepherdTurn}
use Rattle.shepherd.specs.declared.shepherd.ShepherdTurn.TheVariants as turns
use Rattle.shepherd.specs.declared.shepherd.Stage.{Stage}
use Rattle.shepherd.specs.declared.shepherd.Stage.TheVariants.{Resting, Serving, Refusing, Over}
use Rattle.shepherd_steps.specs.Leaving.{item_by, item_taken}
use Rattle.shepherd_steps.specs.Opening.{open_stage}
use Rattle.shepherd_steps.specs.Own.{heard_read, outcome_by, outcome_of_read, own, own_by, told_read}
use Rattle.shepherd_steps.specs.Alone.{HasCall, Making, alone, alone_at, goes_alone, gone_alone, own_stage}
use Rattle.shepherd_steps.proofs.GoingAlone.{ahead, ahead_by, alone-open, few-ahead, over-not-own, to-open, turned-so}
use Rattle.ssm_stub.specs.Reads.{ReadState, found_in, found_or, lost_unless, read_answer, read_next, turn_unless}
use Rattle.ssm_stub.specs.Turns.{wanted as wanted_by}
use Rattle.ssm_stub.specs.declared.ask.Turn.{Turn}
use Rattle.ssm_stub.specs.declared.cause.BrickCause.{BrickCause}
use Rattle.ssm_stub.specs.declared.ear.Stage.{Stage as EarStage}
use Rattle.ssm_stub.specs.declared.ear.Stage.TheVariants.{Unasked, Asked}
use Rattle.ssm_stub.specs.declared.read_call.ReadRefusal.{ReadRefusal}
use Rattle.ssm_stub.specs.declared.read_call.ReadRefusal.TheVariants as refusal

-- the answer of a read, by whether it is late, what was found, and whose turn it is
abbrev answer_so : ReadState → Bool → Option (List ℕ) → Option (Turn Holder) → List BrickCause → Option (Result (List ℕ) ReadRefusal)
answer_so r late found turn causes =
    if late then Some (Err (refusal.Expired r.moment r.expiry)) else found_or found (lost_unless turn causes)

-- a read that wants nothing has come to something
read-over : (r : ReadState) (late : Bool) (found : Option (List ℕ)) (turn : Option (Turn Holder)) (causes : List BrickCause)
    → outside_or wanted.Nothing (wanted_by (λ (h : Holder). h.brick) (turn_unless (answer_so r late found turn causes) turn)) ≡ wanted.Nothing
    → (o : ReadOutcome) × (option_and_then (outcome_by r) (answer_so r late found turn causes) ≡ Some o)
read-over r true found turn causes e = (read.Expired r.moment r.expiry, refl)
read-over r false (Some value) turn causes e = (read.Found (record { key = r.key; value = value; expiry = r.expiry }), refl)
read-over r false None None causes e = (read.Lost causes, refl)
read-over r false None (Some turn) causes e = absurd (by turn.stage e) where
  by : (stage : EarStage) → outside_or wanted.Nothing (Rattle.ssm_stub.specs.Turns.wanted_of turn.who.brick stage) ≡ wanted.Nothing → ⊥
  by Unasked is = cc
  by (Asked strays) is = cc

-- a request that heard its read has one thing less ahead
less-heard : {P : Type 0} (v : Visit P) (call : Option AskedCall) (w : SessionWay) → turn_by (or_own (wants w)) ≡ turns.Own → call ≢ None
    → (ahead_by (heard_read w v).work < 2) × (is_early (heard_read w v).work ≡ true → call ≢ None)
less-heard {P} v call (way.Reading r) e some =
    subst (λ (o : Option ReadOutcome). (ahead_by (told_read o v).work < 2) × (is_early (told_read o v).work ≡ true → call ≢ None)) (sym over.1) (by over.0) where
      nothing : (x : Wants) → turn_by (or_own x) ≡ turns.Own → x ≡ wanted.Nothing
      nothing wanted.Nothing is = refl
      nothing wanted.Outside is = absurd (cc)
      nothing wanted.Windows is = absurd (cc)

      over : (o : ReadOutcome) × (outcome_of_read r ≡ Some o)
      over = read-over r (nat_lt r.expiry.0 r.moment.0) (found_in r.asks) (Rattle.ssm_stub.specs.Turns.turn_in_order r.asks)
          (Rattle.std.specs.Prelude.filter_map Rattle.ssm_stub.specs.Reads.loss_of r.asks) (nothing (wants (way.Reading r)) e)

      by : (o : ReadOutcome) → (ahead_by (told_read (Some o) v).work < 2) × (is_early (told_read (Some o) v).work ≡ true → call ≢ None)
      by (read.Found lease) = (omega arith, λ early. some)
      by (read.Expired now expiry) = (omega arith, λ early. some)
      by (read.Lost causes) = (omega arith, λ early. some)
less-heard v call way.Resting e some = (omega arith, λ early. some)
less-heard v call (way.Ordered order) e some = (omega arith, λ early. some)
less-heard v call (way.Writing w) e some = (omega arith, λ early. some)
less-heard v call (way.Settling w) e some = (omega arith, λ early. some)
less-heard v call (way.Holding passes) e some = (omega arith, λ early. some)

less-done : {P : Type 0} (key : List ℕ) (v : Visit P) (call : Option AskedCall) (w : Work P) → turn_by (visit_turn_by w (wants v.way)) ≡ turns.Own
    → (is_early w ≡ true → call ≢ None)
    → (ahead_by (own_by key v w).work < ahead_by w) × (is_early (own_by key v w).work ≡ true → call ≢ None)
less-done key v call Reading e some = less-heard v call v.way e (some refl)
less-done key v call Opening e some = absurd (cc)
less-done key v call (ServingBy tries program) e some = absurd (cc)
less-done key v call (Committed place again shown) e some = (omega arith, λ early. absurd (cc))
less-done key v call (Decided became) e some = (omega arith, λ early. absurd (cc))
less-done key v call (Answered fate bytes) e some = absurd (cc)
less-done key v call (Left fate) e some = absurd (over-not-own (wants v.way) e)

-- one thing less is ahead, and the call is there until the program is made
abbrev pub Less : {P : Type 0} → Stage P → Stage P → Type 0
Less old new = (ahead new < ahead old) × HasCall new

own-less : {P : Type 0} (key : List ℕ) (old : Stage P) → OnVisit old (λ (v : Visit P) (call : Option AskedCall). turn_by (visit_turn v) ≡ turns.Own)
    → HasCall old → Less old (own_stage key old)
unfolding own
own-less key Resting turned has = absurd turned
own-less key (Serving v call) turned has = less-done key v call v.work turned has
own-less key (Refusing why bytes) turned has = absurd turned
own-less key (Over end) turned has = absurd turned

open-less : {P : Type 0} (m : Making P) (old : Stage P) → OnVisit old (λ (v : Visit P) (call : Option AskedCall). turn_by (visit_turn v) ≡ turns.Program)
    → HasCall old → Less old (open_stage m.made m.worker old)
unfolding open_stage
open-less m Resting turned has = absurd turned
open-less {P} m (Serving v None) turned has =
    absurd (has (ap (λ (w : Work P). is_early w) (to-open v.work (wants v.way) turned)) refl)
open-less {P} m (Serving v (Some asked)) turned has =
    let one : ahead_by v.work ≡ 1 = ap (λ (w : Work P). ahead_by w) (to-open v.work (wants v.way) turned) in
    (omega arith, λ early. absurd (cc))
open-less m (Refusing why bytes) turned has = absurd turned
open-less m (Over end) turned has = absurd turned

-- a request that goes on by itself has something ahead
some-ahead : {P : Type 0} (w : Work P) (x : Wants) → goes_alone (turn_by (visit_turn_by w x)) ≡ true → 0 < ahead_by w
some-ahead Reading x e = omega arith
some-ahead Opening x e = omega arith
some-ahead (ServingBy tries program) x e = absurd (cc)
some-ahead (Committed place again shown) x e = omega arith
some-ahead (Decided became) x e = omega arith
some-ahead (Answered fate bytes) x e = absurd (cc)
some-ahead (Left fate) x e = omega arith

stage-ahead : {P : Type 0} (s : Shepherd P) → goes_alone (turn s) ≡ true → 0 < ahead s.stage
stage-ahead {P} s is = by s.stage (alone-open s is) where
  by : (stage : Stage P) → OnVisit stage (λ (v : Visit P) (call : Option AskedCall). turn_by (visit_turn v) ≡ turn s) → 0 < ahead stage
  by Resting h = absurd h
  by (Serving v call) h = some-ahead v.work (wants v.way) (ap goes_alone h ∙ is)
  by (Refusing why bytes) h = absurd h
  by (Over end) h = absurd h

item-less : {P : Type 0} (s : Shepherd P) (old : Stage P) → 0 < ahead old → Less old (item_by s old).0.stage
item-less s Resting some = absurd (omega arith)
item-less {P} s (Serving v call) some = by v.facts.close where
  by : (close : Bool) → Less (Serving v call) (rested close)
  by true = (some, tt)
  by false = (some, tt)
item-less s (Refusing why bytes) some = absurd (omega arith)
item-less s (Over end) some = absurd (omega arith)

pub alone-less : {P : Type 0} (m : Making P) (s : Shepherd P) → goes_alone (turn s) ≡ true → HasCall s.stage → Less s.stage (alone m s).0.stage
unfolding alone item_taken
alone-less {P} m s is has = by (turn s) refl where
  by : (t : ShepherdTurn) → turn s ≡ t → Less s.stage (alone_at m t s).0.stage
  by turns.Bytes e = absurd (let same = ap goes_alone e in cc)
  by turns.Request e = absurd (let same = ap goes_alone e in cc)
  by turns.Outside e = absurd (let same = ap goes_alone e in cc)
  by turns.Windows e = absurd (let same = ap goes_alone e in cc)
  by turns.Inside e = absurd (let same = ap goes_alone e in cc)
  by turns.Program e = open-less m s.stage (turned-so s turns.Program e refl) has
  by turns.Own e = own-less m.key s.stage (turned-so s turns.Own e refl) has
  by turns.Output e = absurd (let same = ap goes_alone e in cc)
  by turns.Item e = item-less s s.stage (stage-ahead s is)
  by (turns.Ended end) e = absurd (let same = ap goes_alone e in cc)

pub alone-stays : {P : Type 0} (m : Making P) (s : Shepherd P) → goes_alone (turn s) ≡ false → (alone m s).0 ≡ s
unfolding alone
alone-stays m s is = by (turn s) is where
  by : (t : ShepherdTurn) → goes_alone t ≡ false → (alone_at m t s).0 ≡ s
  by turns.Bytes e = refl
  by turns.Request e = refl
  by turns.Outside e = refl
  by turns.Windows e = refl
  by turns.Inside e = refl
  by turns.Program e = absurd (cc)
  by turns.Own e = absurd (cc)
  by turns.Output e = refl
  by turns.Item e = absurd (cc)
  by (turns.Ended end) e = refl

-- with nothing ahead a connection does not go on by itself
none-ahead : {P : Type 0} (s : Shepherd P) → ahead s.stage ≤ 0 → goes_alone (turn s) ≡ false
none-ahead s none = by (goes_alone (turn s)) refl where
  by : (b : Bool) → goes_alone (turn s) ≡ b → b ≡ false
  by true is = absurd (let some = stage-ahead s is in omega arith)
  by false is = refl

-- one thing more, if it goes on by itself, from so few things ahead on
next-rests : {P : Type 0} (m : Making P) (s : Shepherd P) → HasCall s.stage → ahead s.stage ≤ 1 → goes_alone (turn (alone m s).0) ≡ false
next-rests {P} m s has few = by (goes_alone (turn s)) refl where
  by : (b : Bool) → goes_alone (turn s) ≡ b → goes_alone (turn (alone m s).0) ≡ false
  by true is = none-ahead (alone m s).0 (let less = (alone-less m s is has).0 in omega arith)
  by false is = ap (λ (x : Shepherd P). goes_alone (turn x)) (alone-stays m s is) ∙ is

pub gone-alone-ends : {P : Type 0} (m : Making P) (s : Shepherd P) → HasCall s.stage → goes_alone (turn (gone_alone m s).0) ≡ false
unfolding gone_alone
gone-alone-ends {P} m s has = by (goes_alone (turn s)) refl where
  by : (b : Bool) → goes_alone (turn s) ≡ b → goes_alone (turn (alone m (alone m s).0).0) ≡ false
  by true is =
      let less = alone-less m s is has in
      let few = few-ahead s.stage in
      next-rests m (alone m s).0 less.1 (omega arith)
  by false is =
      let same = alone-stays m s is in
      ap (λ (x : Shepherd P). goes_alone (turn (alone m x).0)) same
      ∙ (ap (λ (x : Shepherd P). goes_alone (turn x)) same ∙ is)

-- a connection that stands for its requests has the call of the one that is open, until its program is made
pub stands-called : {P : Type 0} (fed : List ℕ) (heads : List Head) (written : List ℕ) (items : List Item) (s : Shepherd P) → Standing fed heads written items s → HasCall s.stage
stands-called {P} fed heads written items s stands = by s.stage stands.is_open where
  by : (stage : Stage P) → IsOpen s.front stage stands.opened stands.sent → HasCall stage
  by Resting h = tt
  by (Serving v call) h = h.asked
  by (Refusing why bytes) h = tt
  by (Over end) h = tt
