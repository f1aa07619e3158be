-- What a loop over the calls of a connection that goes on by itself leaves is what the function gives.
use Rattle.std.proofs.Common.{◌≡◌, ◌<◌, ◌≤◌, ◌==◌, ℕ, Bool, true, false, if◌then◌else◌, List, [], ◌∷◌, ◌++◌, append-nil, length, Option, Some, None, refl, sym, ap, ◌∙◌, subst, arith}
use Rattle.auction_calls.specs.declared.action.ActionCall.{ActionCall}
use Rattle.crash_base.specs.declared.numbers.WorkerNo.{WorkerNo}
use Rattle.http_wire.specs.Taking.{settles, taken_of}
use Rattle.outcome_items.specs.declared.item.Item.{Item}
use Rattle.request_visit.specs.Advancing.{Advances, HearsReadOf, IsItemOf, after_read}
use Rattle.request_visit.specs.Visits.{or_over, or_own, turn as visit_turn, turn_by as visit_turn_by}
use Rattle.request_visit.specs.declared.visit.Visit.{Visit}
use Rattle.request_visit.specs.declared.visit.Work.{Work}
use Rattle.request_visit.specs.declared.visit.Work.TheVariants.{Reading, Opening, Serving as ServingBy, Committed, Decided, Answered, Left}
use Rattle.session_way.specs.Way.{wants}
use Rattle.session_way.specs.declared.session_read.ReadOutcome.{ReadOutcome}
use Rattle.session_way.specs.declared.session_read.ReadOutcome.TheVariants as read
use Rattle.session_way.specs.declared.way.SessionWay.{SessionWay}
use Rattle.session_way.specs.declared.way.SessionWay.TheVariants as way
use Rattle.session_way.specs.declared.way.Wants.{Wants}
use Rattle.session_way.specs.declared.way.Wants.TheVariants as wanted
use Rattle.shepherd.specs.Shepherds.{stage_turn, turn, turn_by}
use Rattle.shepherd.specs.Steps.{OnVisit, OpensStage, TakesItem, rested}
use Rattle.shepherd.specs.declared.shepherd.AskedCall.{AskedCall}
use Rattle.shepherd.specs.declared.shepherd.EndKind.TheVariants as ends
use Rattle.shepherd.specs.declared.shepherd.Shepherd.{Shepherd}
use Rattle.shepherd.specs.declared.shepherd.ShepherdTurn.{ShepherdTurn}
use Rattle.shepherd.specs.declared.shepherd.ShepherdTurn.TheVariants as turns
use Rattle.shepherd.specs.declared.shepherd.Stage.{Stage}
use Rattle.shepherd.specs.declared.shepherd.Stage.TheVariants.{Resting, Serving, Refusing, Over}
use Rattle.shepherd_steps.specs.Opening.{MakesJust, open_stage}
use Rattle.shepherd_steps.specs.Alone.{GoesAlone, GoesAloneThrough, Making, alone, alone_at, goes_alone, gone_alone, own_stage}
use Rattle.shepherd_steps.proofs.OpeningSteps.{item-fixed, open-fixed}
use Rattle.shepherd_steps.proofs.OwnSteps.{own-fixed}

-- how many things a request of this work may still do by itself before others are to step
abbrev pub ahead_by : {P : Type 0} → Work P → ℕ
ahead_by Reading = 2
ahead_by Opening = 1
ahead_by (ServingBy tries program) = 0
ahead_by (Committed place again shown) = 1
ahead_by (Decided became) = 1
ahead_by (Answered fate bytes) = 0
ahead_by (Left fate) = 1

-- the same of a stage
abbrev pub ahead : {P : Type 0} → Stage P → ℕ
ahead Resting = 0
ahead (Serving v call) = ahead_by v.work
ahead (Refusing why bytes) = 0
ahead (Over end) = 0

pub few-ahead : {P : Type 0} (stage : Stage P) → ahead stage ≤ 2
few-ahead {P} stage = of stage where
  by : (w : Work P) → ahead_by w ≤ 2
  by Reading = omega arith
  by Opening = omega arith
  by (ServingBy tries program) = omega arith
  by (Committed place again shown) = omega arith
  by (Decided became) = omega arith
  by (Answered fate bytes) = omega arith
  by (Left fate) = omega arith

  of : (st : Stage P) → ahead st ≤ 2
  of Resting = omega arith
  of (Serving v call) = by v.work
  of (Refusing why bytes) = omega arith
  of (Over end) = omega arith

-- a stage and what was received have the turn that a connection has, unless memory was wanted
of-stage : {P : Type 0} (s : Shepherd P) → goes_alone (turn s) ≡ true → stage_turn s.stage s.received s.ended ≡ turn s
of-stage s is = by s.wants_memory is where
  by : (m : Bool) → goes_alone (if m then turns.Ended ends.OutOfMemory else stage_turn s.stage s.received s.ended) ≡ true
      → stage_turn s.stage s.received s.ended ≡ (if m then turns.Ended ends.OutOfMemory else stage_turn s.stage s.received s.ended)
  by true e = absurd (cc)
  by false e = refl

none-resting : (a b c : Bool) → goes_alone (if a then turns.Request else (if b then (if c then turns.Ended ends.Closed else turns.Ended ends.Cut) else turns.Bytes)) ≡ false
none-resting true b c = refl
none-resting false true true = refl
none-resting false true false = refl
none-resting false false c = refl

-- a connection that goes on by itself has a request open, whose turn that is
pub alone-open : {P : Type 0} (s : Shepherd P) → goes_alone (turn s) ≡ true → OnVisit s.stage (λ (v : Visit P) (call : Option AskedCall). turn_by (visit_turn v) ≡ turn s)
alone-open {P} s is = by s.stage (of-stage s is) where
  by : (stage : Stage P) → stage_turn stage s.received s.ended ≡ turn s → OnVisit stage (λ (v : Visit P) (call : Option AskedCall). turn_by (visit_turn v) ≡ turn s)
  by Resting e = absurd (let none = none-resting (settles (taken_of s.received)) s.ended (length s.received == 0) in let same = ap goes_alone e in cc)
  by (Serving v call) e = e
  by (Refusing why bytes) e = absurd (let same = ap goes_alone e in cc)
  by (Over end) e = absurd (let same = ap goes_alone e in cc)

not-program : (x : Wants) → turn_by (or_own x) ≡ turns.Program → ⊥
not-program wanted.Nothing e = cc
not-program wanted.Outside e = cc
not-program wanted.Windows e = cc

over-not-program : (x : Wants) → turn_by (or_over x) ≡ turns.Program → ⊥
over-not-program wanted.Nothing e = cc
over-not-program wanted.Outside e = cc
over-not-program wanted.Windows e = cc

pub over-not-own : (x : Wants) → turn_by (or_over x) ≡ turns.Own → ⊥
over-not-own wanted.Nothing e = cc
over-not-own wanted.Outside e = cc
over-not-own wanted.Windows e = cc

-- a request whose program is to be made has come so far, and no further
pub to-open : {P : Type 0} (w : Work P) (x : Wants) → turn_by (visit_turn_by w x) ≡ turns.Program → w ≡ Opening
to-open Reading x e = absurd (not-program x e)
to-open Opening x e = refl
to-open (ServingBy tries program) x e = absurd (cc)
to-open (Committed place again shown) x e = absurd (not-program x e)
to-open (Decided became) x e = absurd (cc)
to-open (Answered fate bytes) x e = absurd (cc)
to-open (Left fate) x e = absurd (over-not-program x e)

-- one thing less is ahead once a read was heard
less-read : {P : Type 0} (v : Visit P) (w : SessionWay) (new : Visit P) → HearsReadOf w v new → ahead_by new.work < 2
less-read {P} v (way.Reading r) new hears = subst (λ (x : Visit P). ahead_by x.work < 2) (sym hears.new_is) (by hears.outcome) where
  by : (o : ReadOutcome) → ahead_by (after_read o v).work < 2
  by (read.Found lease) = omega arith
  by (read.Expired now expiry) = omega arith
  by (read.Lost causes) = omega arith
less-read {P} v way.Resting new hears = subst (λ (x : Visit P). ahead_by x.work < 2) (sym hears) (omega arith)
less-read {P} v (way.Ordered order) new hears = subst (λ (x : Visit P). ahead_by x.work < 2) (sym hears) (omega arith)
less-read {P} v (way.Writing w) new hears = subst (λ (x : Visit P). ahead_by x.work < 2) (sym hears) (omega arith)
less-read {P} v (way.Settling w) new hears = subst (λ (x : Visit P). ahead_by x.work < 2) (sym hears) (omega arith)
less-read {P} v (way.Holding passes) new hears = subst (λ (x : Visit P). ahead_by x.work < 2) (sym hears) (omega arith)

less-own : {P : Type 0} (key : List ℕ) (v new : Visit P) (w : Work P) (x : Wants) → turn_by (visit_turn_by w x) ≡ turns.Own → Advances key v w new
    → ahead_by new.work < ahead_by w
less-own key v new Reading x e h = less-read v v.way new h
less-own key v new Opening x e h = absurd (cc)
less-own key v new (ServingBy tries program) x e h = absurd (cc)
less-own {P} key v new (Committed place again shown) x e h = subst (λ (u : Visit P). ahead_by u.work < 1) (sym h.new_is) (omega arith)
less-own {P} key v new (Decided became) x e h = subst (λ (u : Visit P). ahead_by u.work < 1) (sym h) (omega arith)
less-own key v new (Answered fate bytes) x e h = absurd (cc)
less-own key v new (Left fate) x e h = absurd (over-not-own x e)

less-item : {P : Type 0} (v : Visit P) (w : Work P) (i : Item) → IsItemOf v w i → 0 < ahead_by w
less-item v Reading i is = absurd is
less-item v Opening i is = absurd is
less-item v (ServingBy tries program) i is = absurd is
less-item v (Committed place again shown) i is = absurd is
less-item v (Decided became) i is = absurd is
less-item v (Answered fate bytes) i is = absurd is
less-item v (Left fate) i is = omega arith

none-rested : (P : Type 0) (close : Bool) → ahead (rested {P = P} close) ≡ 0
none-rested P true = refl
none-rested P false = refl

-- a stage at whose turn a call was made has one thing less ahead
less-opened : {P M : Type 0} (makes : M → ActionCall → List ℕ → P → Type 0) (maker : M) (worker : WorkerNo) (old new : Stage P)
    → OnVisit old (λ (v : Visit P) (call : Option AskedCall). turn_by (visit_turn v) ≡ turns.Program) → OpensStage makes maker worker old new → ahead new < ahead old
less-opened makes maker worker Resting new turned opened = absurd opened
less-opened makes maker worker (Serving v None) new turned opened = absurd opened
less-opened {P} makes maker worker (Serving v (Some asked)) new turned opened =
    let none : ahead new ≡ 0 = ap (λ (st : Stage P). ahead st) opened.2 ∙ ap (λ (w : Visit P). ahead_by w.work) opened.1.new_is in
    let one : ahead_by v.work ≡ 1 = ap (λ (w : Work P). ahead_by w) (to-open v.work (wants v.way) turned) in
    omega arith
less-opened makes maker worker (Refusing why bytes) new turned opened = absurd opened
less-opened makes maker worker (Over end) new turned opened = absurd opened

less-done : {P : Type 0} (key : List ℕ) (old new : Stage P)
    → OnVisit old (λ (v : Visit P) (call : Option AskedCall). turn_by (visit_turn v) ≡ turns.Own)
    → OnVisit old (λ (v : Visit P) (call : Option AskedCall). (after : Visit P) × Advances key v v.work after × (new ≡ Serving after call)) → ahead new < ahead old
less-done key Resting new turned done = absurd done
less-done {P} key (Serving v call) new turned done =
    subst (λ (st : Stage P). ahead st < ahead_by v.work) (sym done.2) (less-own key v done.0 v.work (wants v.way) turned done.1)
less-done key (Refusing why bytes) new turned done = absurd done
less-done key (Over end) new turned done = absurd done

less-taken : {P : Type 0} (old new : Stage P) (i : Item) → TakesItem old i new → ahead new < ahead old
less-taken Resting new i takes = absurd takes
less-taken {P} (Serving v call) new i takes =
    let none : ahead new ≡ 0 = ap (λ (st : Stage P). ahead st) takes.1 ∙ none-rested P v.facts.close in
    let some = less-item v v.work i takes.0 in omega arith
less-taken (Refusing why bytes) new i takes = absurd takes
less-taken (Over end) new i takes = absurd takes

-- the turn of the request that is open, where a connection has this turn
pub turned-so : {P : Type 0} (s : Shepherd P) (t : ShepherdTurn) → turn s ≡ t → goes_alone t ≡ true → OnVisit s.stage (λ (v : Visit P) (call : Option AskedCall). turn_by (visit_turn v) ≡ t)
turned-so {P} s t is goes =
    subst (λ (x : ShepherdTurn). OnVisit s.stage (λ (v : Visit P) (call : Option AskedCall). turn_by (visit_turn v) ≡ x)) is
    (alone-open s (ap goes_alone is ∙ goes))

falls : {P M : Type 0} (makes : M → ActionCall → List ℕ → P → Type 0) (maker : M) (worker : WorkerNo) (key : List ℕ) (old new : Shepherd P) (items : List Item)
    → GoesAlone makes maker worker key (turn old) old new items → ahead new.stage < ahead old.stage
falls {P} makes maker worker key old new items goes = by (turn old) refl goes where
  by : (t : ShepherdTurn) → turn old ≡ t → GoesAlone makes maker worker key t old new items → ahead new.stage < ahead old.stage
  by turns.Bytes is h = absurd h
  by turns.Request is h = absurd h
  by turns.Outside is h = absurd h
  by turns.Windows is h = absurd h
  by turns.Inside is h = absurd h
  by turns.Program is h = less-opened makes maker worker old.stage new.stage (turned-so old turns.Program is refl) h.opens
  by turns.Own is h = less-done key old.stage new.stage (turned-so old turns.Own is refl) h.steps.steps
  by turns.Output is h = absurd h
  by turns.Item is h = less-taken old.stage new.stage h.item h.takes
  by (turns.Ended end) is h = absurd h

own-stage-so : {P : Type 0} (key : List ℕ) (old new : Stage P)
    → OnVisit old (λ (v : Visit P) (call : Option AskedCall). (after : Visit P) × Advances key v v.work after × (new ≡ Serving after call)) → new ≡ own_stage key old
own-stage-so key Resting new done = absurd done
own-stage-so {P} key (Serving v call) new done = done.2 ∙ ap (λ (w : Visit P). Serving w call) (own-fixed key v done.0 done.1)
own-stage-so key (Refusing why bytes) new done = absurd done
own-stage-so key (Over end) new done = absurd done

module _ {P M : Type 0} (makes : M → ActionCall → List ℕ → P → Type 0) (maker : M) (m : Making P) (just : MakesJust makes maker m.made) where
  alone-so : (old new : Shepherd P) (items : List Item) → GoesAlone makes maker m.worker m.key (turn old) old new items → (new, items) ≡ alone m old
  unfolding alone
  alone-so old new items goes = by (turn old) goes where
    by : (t : ShepherdTurn) → GoesAlone makes maker m.worker m.key t old new items → (new, items) ≡ alone_at m t old
    by turns.Bytes h = absurd h
    by turns.Request h = absurd h
    by turns.Outside h = absurd h
    by turns.Windows h = absurd h
    by turns.Inside h = absurd h
    by turns.Program h =
        ap (λ (s : Shepherd P). (s, items)) h.rest
        ∙ (ap (λ (st : Stage P). (record old { stage = st }, items)) (open-fixed makes maker m.made m.worker old.stage new.stage just h.opens)
        ∙ ap (λ (l : List Item). (record old { stage = open_stage m.made m.worker old.stage }, l)) h.items_are)
    by turns.Own h =
        ap (λ (s : Shepherd P). (s, items)) h.steps.rest
        ∙ (ap (λ (st : Stage P). (record old { stage = st }, items)) (own-stage-so m.key old.stage new.stage h.steps.steps)
        ∙ ap (λ (l : List Item). (record old { stage = own_stage m.key old.stage }, l)) h.items_are)
    by turns.Output h = absurd h
    by turns.Item h =
        ap (λ (s : Shepherd P). (s, items)) h.rest
        ∙ (ap (λ (l : List Item). (record old { front = h.item.holds.front; stage = new.stage }, l)) h.items_are
        ∙ item-fixed old h.item new.stage h.takes)
    by (turns.Ended end) h = absurd h

  stays : (s : Shepherd P) → goes_alone (turn s) ≡ false → alone m s ≡ (s, [])
  unfolding alone
  stays s is = by (turn s) is where
    by : (t : ShepherdTurn) → goes_alone t ≡ false → alone_at m t s ≡ (s, [])
    by turns.Bytes e = refl
    by turns.Request e = refl
    by turns.Outside e = refl
    by turns.Windows e = refl
    by turns.Inside e = refl
    by turns.Program e = absurd (cc)
    by turns.Own e = absurd (cc)
    by turns.Output e = refl
    by turns.Item e = absurd (cc)
    by (turns.Ended end) e = refl

  -- what is left once the first thing was done
  then_alone : Shepherd P × List Item → Shepherd P × List Item
  then_alone first = let second = alone m first.0 in (second.0, first.1 ++ second.1)

  gone-by : (s : Shepherd P) → gone_alone m s ≡ then_alone (alone m s)
  unfolding gone_alone then_alone
  gone-by s = refl

  then-stays : (first : Shepherd P × List Item) → goes_alone (turn first.0) ≡ false → then_alone first ≡ first
  unfolding then_alone
  then-stays first is =
      ap (λ (second : Shepherd P × List Item). (second.0, first.1 ++ second.1)) (stays first.0 is)
      ∙ ap (λ (l : List Item). (first.0, l)) (append-nil first.1)

  then-goes : (first second : Shepherd P × List Item) → second ≡ alone m first.0 → then_alone first ≡ (second.0, first.1 ++ second.1)
  unfolding then_alone
  then-goes first second is = ap (λ (x : Shepherd P × List Item). (x.0, first.1 ++ x.1)) (sym is)

  -- a loop that makes no call more leaves what it began with
  pub gone-alone-fixed : (through : List (Shepherd P × List Item)) (old new : Shepherd P) (items : List Item)
      → GoesAloneThrough makes maker m.worker m.key through old new items → (length through ≤ 2) × ((new, items) ≡ gone_alone m old)
  gone-alone-fixed [] old new items h = (
    omega arith,
    ap (λ (s : Shepherd P). (s, items)) h.1
        ∙ (ap (λ (l : List Item). (old, l)) h.2
        ∙ (sym (then-stays (old, []) h.0) ∙ (ap then_alone (sym (stays old h.0)) ∙ sym (gone-by old)))),
  )
  gone-alone-fixed (a ∷ []) old new items h =
      let end = h.2 in (
        omega arith,
        ap (λ (s : Shepherd P). (s, items)) end.1
            ∙ (ap (λ (l : List Item). (a.0, l)) (h.3 ∙ (ap (λ (l : List Item). a.1 ++ l) end.2 ∙ append-nil a.1))
            ∙ (sym (then-stays a end.0) ∙ (ap then_alone (alone-so old a.0 a.1 h.1) ∙ sym (gone-by old)))),
      )
  gone-alone-fixed (a ∷ b ∷ []) old new items h =
      let next = h.2 in
      let end = next.2 in (
        omega arith,
        ap (λ (s : Shepherd P). (s, items)) end.1
            ∙ (ap (λ (l : List Item). (b.0, l)) (h.3 ∙ ap (λ (l : List Item). a.1 ++ l) (next.3 ∙ (ap (λ (l : List Item). b.1 ++ l) end.2 ∙ append-nil b.1)))
            ∙ (sym (then-goes a b (alone-so a.0 b.0 b.1 next.1)) ∙ (ap then_alone (alone-so old a.0 a.1 h.1) ∙ sym (gone-by old)))),
      )
  gone-alone-fixed (a ∷ b ∷ c ∷ more) old new items h =
      let one = falls makes maker m.worker m.key old a.0 a.1 h.1 in
      let two = falls makes maker m.worker m.key a.0 b.0 b.1 h.2.1 in
      let three = falls makes maker m.worker m.key b.0 c.0 c.1 h.2.2.1 in
      let few = few-ahead old.stage in
      absurd (omega arith)
