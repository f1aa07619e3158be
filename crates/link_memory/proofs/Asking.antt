-- A run of a machine that asks bricks in turn over the link.
use Rattle.std.proofs.Common.{◌≡◌, ◌∙◌, ap, sym, refl, subst, inl, inr, ◌⊎◌, ℕ, IsTrue, List, [], ◌∷◌, map, Option, Some, None}
use Rattle.std.specs.List.{slice_get, slice_set}
use Rattle.std.proofs.lemmas.Bool.{cases_eq}
use Rattle.crash_base.specs.declared.numbers.BrickNo.{BrickNo}
use Rattle.outside.specs.Link.{Made}
use Rattle.ssm_frames.specs.declared.frame.Frame.{Frame}
use Rattle.ssm_stub.specs.declared.ask.Ask.{Ask}
use Rattle.ssm_stub.specs.declared.ear.Stage.{Stage}
use Rattle.ssm_stub.specs.declared.ear.Stage.TheVariants.{Unasked}
use Rattle.ssm_stub.specs.declared.ear.Ear.{Ear}
use Rattle.ssm_stub.specs.declared.ear.Ear.TheVariants.{Open}
use Rattle.ssm_stub.specs.declared.event.StubEvent.{StubEvent}
use Rattle.ssm_stub.specs.declared.event.StubNext.TheVariants.{Ended}
use Rattle.ssm_stub.specs.declared.event.StubNext.{StubNext}
use Rattle.ssm_stub.specs.declared.event.Told.{Told}
use Rattle.ssm_stub.specs.declared.event.Told.TheVariants.{Sent, Came, Silent as NoneCame}
use Rattle.ssm_stub.specs.Ears.{heard}
use Rattle.ssm_stub.specs.Turns.{wanted_of}
use Rattle.ssm_stub.specs.Runs.{Machine, told_of, fits, Fits, call_of, calls, after, Ran}
use Rattle.link_lanes.specs.Lanes.{lane_of}
use Rattle.link_lanes.specs.Tallies.{slice_get-set_same, slice_get-set_other}
use Rattle.link_memory.specs.Lane.{LaneValue}
use Rattle.link_memory.specs.Leaving.{Left, IsAsked, Leaves}
use Rattle.link_memory.specs.Script.{ScriptValue, ScriptMakes}
use Rattle.link_memory.proofs.Counting.{counts_on, none_counted}
use Rattle.link_memory.proofs.Steps.{own_step, beside_step, made_split}

-- The turn of one that is asked: it stands at a place, and an event is told to it alone.
pub record Turning {W A S : Type 0} (brick_of : W → BrickNo) (lawful : W → Frame → Option A) (m : Machine S) (state : List (Ask W A) → S) (asks : List (Ask W A)) : Type 0 where
  pub at : ℕ
  pub who : W
  pub stage : Stage
  pub here : slice_get asks at ≡ Some (record { who = who; ear = Open stage })
  pub wants : m.next (state asks) ≡ wanted_of (brick_of who) stage
  pub hears : (told : Told) → m.hear (state asks) told ≡ state (slice_set asks at (record { who = who; ear = heard (lawful who) stage told }))

-- the asks stand for distinct bricks
abbrev pub Distinct : {W A : Type 0} → (W → BrickNo) → List (Ask W A) → Type 0
Distinct {W} {A} brick_of asks = (i j : ℕ) (a b : Ask W A) → slice_get asks i ≡ Some a → slice_get asks j ≡ Some b → (brick_of a.who).0 ≡ (brick_of b.who).0 → i ≡ j

pub nothing_fits : (told : Told) → IsTrue (fits Ended told) → ⊥
nothing_fits Sent h = absurd cc
nothing_fits (Came frame) h = absurd cc
nothing_fits NoneCame h = absurd cc

unasked : {A : Type 0} (lawful : Frame → Option A) (ask : List ℕ) (found : Option LaneValue) → Left lawful ask (Open Unasked) found found
unasked lawful ask None = refl
unasked lawful ask (Some lane) = refl

module _ {W A S : Type 0} (brick_of : W → BrickNo) (lawful : W → Frame → Option A) (ask : List ℕ) (m : Machine S) (state : List (Ask W A) → S)
    (turned : (asks : List (Ask W A)) → (m.next (state asks) ≡ Ended) ⊎ Turning brick_of lawful m state asks) where
  -- who stands at a place stays
  stood : (asks : List (Ask W A)) (at : ℕ) (who : W) (ear new : Ear A) → slice_get asks at ≡ Some (record { who = who; ear = ear }) → (i : ℕ) (a : Ask W A) → slice_get (slice_set asks at (record { who = who; ear = new })) i ≡ Some a → (b : Ask W A) × (slice_get asks i ≡ Some b) × (b.who ≡ a.who)
  stood asks at who ear new here i a h = elim (cases_eq at i) [
    | inl is ↦ (let P : ℕ → Type 0 = λ n. slice_get asks n ≡ Some (record { who = who; ear = ear }) in
        let Q : ℕ → Type 0 = λ n. slice_get (slice_set asks at (record { who = who; ear = new })) n ≡ Some (record { who = who; ear = new }) in
        let there = subst Q is (slice_get-set_same asks at (record { who = who; ear = ear }) (record { who = who; ear = new }) here) in
        let e : Some (record { who = who; ear = new }) ≡ Some a = sym there ∙ h in
        let f : record { who = who; ear = new } ≡ a = cc in
        (record { who = who; ear = ear }, subst P is here, ap (λ (x : Ask W A). x.who) f))
    | inr differ ↦ (a, sym (slice_get-set_other asks at i (record { who = who; ear = new }) differ) ∙ h, refl)
  ]

  stands_on : (asks : List (Ask W A)) (at : ℕ) (who : W) (ear new : Ear A) → slice_get asks at ≡ Some (record { who = who; ear = ear }) → (i : ℕ) (b : Ask W A) → slice_get asks i ≡ Some b → (a : Ask W A) × (slice_get (slice_set asks at (record { who = who; ear = new })) i ≡ Some a) × (b.who ≡ a.who)
  stands_on asks at who ear new here i b h = elim (cases_eq at i) [
    | inl is ↦ (let P : ℕ → Type 0 = λ n. slice_get asks n ≡ Some (record { who = who; ear = ear }) in
        let Q : ℕ → Type 0 = λ n. slice_get (slice_set asks at (record { who = who; ear = new })) n ≡ Some (record { who = who; ear = new }) in
        let there = subst Q is (slice_get-set_same asks at (record { who = who; ear = ear }) (record { who = who; ear = new }) here) in
        let e : Some b ≡ Some (record { who = who; ear = ear }) = sym h ∙ subst P is here in
        let f : b ≡ record { who = who; ear = ear } = cc in
        (record { who = who; ear = new }, there, ap (λ (x : Ask W A). x.who) f))
    | inr differ ↦ (b, slice_get-set_other asks at i (record { who = who; ear = new }) differ ∙ h, refl)
  ]

  distinct_on : (asks : List (Ask W A)) (at : ℕ) (who : W) (ear new : Ear A) → slice_get asks at ≡ Some (record { who = who; ear = ear }) → Distinct brick_of asks → Distinct brick_of (slice_set asks at (record { who = who; ear = new }))
  distinct_on asks at who ear new here differ i j a b first second same =
      let x = stood asks at who ear new here i a first in
      let y = stood asks at who ear new here j b second in
      differ i j x.0 y.0 x.1 y.1 (ap (λ w. (brick_of w).0) x.2 ∙ (same ∙ sym (ap (λ w. (brick_of w).0) y.2)))

  abbrev heard_of : (who : W) (stage : Stage) (told : Told) → Ask W A
  heard_of who stage told = record { who = who; ear = heard (lawful who) stage told }

  -- what one call leaves
  step : (asks : List (Ask W A)) (at : ℕ) (who : W) (stage : Stage) (e : StubEvent) (old link mid : ScriptValue) → Distinct brick_of asks → slice_get asks at ≡ Some (record { who = who; ear = Open stage }) → Leaves brick_of lawful ask asks old link → IsTrue (fits (wanted_of (brick_of who) stage) (told_of e)) → Made ScriptMakes link (call_of ask (wanted_of (brick_of who) stage) e) mid
      → Leaves brick_of lawful ask (slice_set asks at (heard_of who stage (told_of e))) old mid
  step asks at who stage e old link mid differ here leaves fit made = record { of_asked = asked_ones; of_others = other_ones; counts = counts_on brick_of lawful ask asks at who stage e old link mid here (leaves.of_asked at (record { who = who; ear = Open stage }) here) leaves.counts fit made } where
    asked_ones : (i : ℕ) (a : Ask W A) → slice_get (slice_set asks at (heard_of who stage (told_of e))) i ≡ Some a → Left (lawful a.who) ask a.ear (lane_of old (brick_of a.who).0) (lane_of mid (brick_of a.who).0)
    asked_ones i a h = elim (cases_eq at i) [
      | inl is ↦ (let Q : ℕ → Type 0 = λ n. slice_get (slice_set asks at (heard_of who stage (told_of e))) n ≡ Some (heard_of who stage (told_of e)) in
          let e1 : Some (heard_of who stage (told_of e)) ≡ Some a = sym (subst Q is (slice_get-set_same asks at (record { who = who; ear = Open stage }) (heard_of who stage (told_of e)) here)) ∙ h in
          let f : (heard_of who stage (told_of e)) ≡ a = cc in
          let P : Ask W A → Type 0 = λ x. Left (lawful x.who) ask x.ear (lane_of old (brick_of x.who).0) (lane_of mid (brick_of x.who).0) in
          subst P f (own_step (lawful who) ask (brick_of who) stage e (lane_of old (brick_of who).0) link mid (leaves.of_asked at (record { who = who; ear = Open stage }) here) fit made))
      | inr apart ↦ (let there = sym (slice_get-set_other asks at i (heard_of who stage (told_of e)) apart) ∙ h in
          let P : Option LaneValue → Type 0 = λ o. Left (lawful a.who) ask a.ear (lane_of old (brick_of a.who).0) o in
          subst P (sym (beside_step ask (brick_of who) stage e link mid (brick_of a.who).0 (λ same. apart (differ at i (record { who = who; ear = Open stage }) a here there same)) fit made)) (leaves.of_asked i a there))
    ]

    other_ones : (brick : ℕ) → (IsAsked brick_of (slice_set asks at (heard_of who stage (told_of e))) brick → ⊥) → lane_of mid brick ≡ lane_of old brick
    other_ones brick none =
        let not_before : IsAsked brick_of asks brick → ⊥ = λ (asked : IsAsked brick_of asks brick). (let x = stands_on asks at who (Open stage) (heard (lawful who) stage (told_of e)) here asked.0 asked.1 asked.2 in none (asked.0, x.0, x.1, sym (ap (λ w. (brick_of w).0) x.2) ∙ asked.3)) in
        beside_step ask (brick_of who) stage e link mid brick (λ same. not_before (at, record { who = who; ear = Open stage }, here, same)) fit made
        ∙ leaves.of_others brick not_before

  abbrev Ends : ScriptValue → ScriptValue → List StubEvent → List (Ask W A) → Type 0
  Ends old new events asks = (ends : List (Ask W A)) × (after m (state asks) (map told_of events) ≡ state ends) × Leaves brick_of lawful ask ends old new

  -- what calls in a row leave, where the first is the turn of one
  turn : (asks : List (Ask W A)) (e : StubEvent) (events : List StubEvent) (old link new : ScriptValue) → Turning brick_of lawful m state asks → Distinct brick_of asks → Leaves brick_of lawful ask asks old link → Fits m (state asks) (map told_of (e ∷ events)) → Made ScriptMakes link (calls m ask (state asks) (e ∷ events)) new
      → ((on : List (Ask W A)) (mid : ScriptValue) → Distinct brick_of on → Leaves brick_of lawful ask on old mid → Fits m (state on) (map told_of events) → Made ScriptMakes mid (calls m ask (state on) events) new → Ends old new events on)
      → Ends old new (e ∷ events) asks
  turn asks e events old link new t differ leaves fit made again =
      let on = slice_set asks t.at (heard_of t.who t.stage (told_of e)) in
      let P : StubNext → Type 0 = λ next. IsTrue (fits next (told_of e)) in
      let fit_here = subst P t.wants fit.0 in
      let parts = made_split (call_of ask (m.next (state asks)) e) (calls m ask (m.hear (state asks) (told_of e)) events) link new made in
      let Q : StubNext → Type 0 = λ next. Made ScriptMakes link (call_of ask next e) parts.0 in
      let made_here = subst Q t.wants parts.1 in
      let R : S → Type 0 = λ s. Fits m s (map told_of events) in
      let T : S → Type 0 = λ s. Made ScriptMakes parts.0 (calls m ask s events) new in
      let later = again on parts.0 (distinct_on asks t.at t.who (Open t.stage) (heard (lawful t.who) t.stage (told_of e)) t.here differ)
      (step asks t.at t.who t.stage e old link parts.0 differ t.here leaves fit_here made_here)
      (subst R (t.hears (told_of e)) fit.1) (subst T (t.hears (told_of e)) parts.2) in
      (later.0, ap (λ s. after m s (map told_of events)) (t.hears (told_of e)) ∙ later.1, later.2)

  -- what calls in a row leave
  pub steps : (events : List StubEvent) (asks : List (Ask W A)) (old link new : ScriptValue) → Distinct brick_of asks → Leaves brick_of lawful ask asks old link → Fits m (state asks) (map told_of events) → Made ScriptMakes link (calls m ask (state asks) events) new → Ends old new events asks
  steps [] asks old link new differ leaves fit made = (asks, refl, (let P : ScriptValue → Type 0 = λ l. Leaves brick_of lawful ask asks old l in subst P made leaves))
  steps (e ∷ events) asks old link new differ leaves fit made = elim (turned asks) [
    | inl over ↦ (let P : StubNext → Type 0 = λ next. IsTrue (fits next (told_of e)) in let no_fit : IsTrue (fits Ended (told_of e)) = subst P over fit.0 in absurd (nothing_fits (told_of e) no_fit))
    | inr t ↦ turn asks e events old link new t differ leaves fit made (λ on mid. steps events on old mid new)
  ]

  -- nothing was left by what was not asked
  nothing : (asks : List (Ask W A)) (link : ScriptValue) → ((i : ℕ) (a : Ask W A) → slice_get asks i ≡ Some a → a.ear ≡ Open Unasked) → Leaves brick_of lawful ask asks link link
  nothing asks link none = record {
    of_asked = λ i a h. (let P : Ear A → Type 0 = λ ear. Left (lawful a.who) ask ear (lane_of link (brick_of a.who).0) (lane_of link (brick_of a.who).0) in
        subst P (sym (none i a h)) (unasked (lawful a.who) ask (lane_of link (brick_of a.who).0)));
    of_others = λ brick not_asked. refl;
    counts = none_counted brick_of lawful ask asks link none;
  }

  pub leaves_by : (events : List StubEvent) (asks : List (Ask W A)) (end : S) (old new : ScriptValue) → Distinct brick_of asks → ((i : ℕ) (a : Ask W A) → slice_get asks i ≡ Some a → a.ear ≡ Open Unasked) → Ran m ScriptMakes ask (state asks) old events end new → (ends : List (Ask W A)) × (end ≡ state ends) × Leaves brick_of lawful ask ends old new
  leaves_by events asks end old new differ none ran =
      let ends = steps events asks old old new differ (nothing asks old none) ran.fitting ran.made in
      (ends.0, ran.ends ∙ ends.1, ends.2)
