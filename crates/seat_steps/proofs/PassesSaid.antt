-- What a request does in the windows leaves what it says, and what its write came to is what its response says.
use Rattle.std.specs.Prelude.{option_map}
use Rattle.std.proofs.Common.{◌≡◌, ◌≢◌, ◌∙◌, ℕ, Bool, true, false, nat_lt, if◌then◌else◌, List, [], ◌∷◌, ◌++◌, map, take, Option, Some, None, Result, Ok, Err, refl, sym, ap, subst}
use Rattle.auction_calls.specs.declared.action.ActionCall.{ActionCall}
use Rattle.container_core.specs.declared.history.Event.{Event}
use Rattle.container_core.specs.History.{entries_in}
use Rattle.crash_base.specs.declared.numbers.Place.{Place}
use Rattle.journal_model.specs.declared.entry.Entry.{Entry}
use Rattle.outcome_items.specs.Traces.{uncounted}
use Rattle.request_visit.proofs.Marking.{back_marks}
use Rattle.request_visit.proofs.Saying.{back_says}
use Rattle.request_visit.specs.Marks.{Marks, MarksOf}
use Rattle.request_visit.specs.Says.{Says, SaysOf}
use Rattle.request_visit.specs.Stepping.{IsGivenBack}
use Rattle.request_visit.specs.Visits.{after_outcome, fate_missed, fate_written, overloaded, with_fate}
use Rattle.request_visit.specs.declared.ready.Shown.{Shown}
use Rattle.request_visit.specs.declared.visit.Fate.{Fate}
use Rattle.request_visit.specs.declared.visit.Fate.TheVariants.{Known, Writing}
use Rattle.request_visit.specs.declared.visit.Visit.{Visit}
use Rattle.request_visit.specs.declared.visit.Work.{Work}
use Rattle.request_visit.specs.declared.visit.Work.TheVariants.{Reading, Opening, Serving as ServingBy, Committed, Decided, Answered, Left}
use Rattle.send_windows.specs.Facts.{full_facts, open_count}
use Rattle.send_windows.specs.Windows.{WindowsValue, refused, taken}
use Rattle.send_windows.specs.declared.fact.WindowFact.{WindowFact}
use Rattle.send_windows.specs.declared.history.WindowMark.{WindowMark}
use Rattle.send_windows.specs.declared.history.WindowMark.TheVariants as mark
use Rattle.send_windows.specs.declared.pass.Pass.{Pass}
use Rattle.session_cookie.specs.declared.cookie.Cookie.{Cookie}
use Rattle.session_way.specs.Marks.{marks_by}
use Rattle.session_way.specs.Way.{answer_held, passes_for}
use Rattle.session_way.specs.Writing.{WritingState, answer_of_write, write_begun}
use Rattle.session_way.specs.declared.session_write.WriteOrder.{WriteOrder}
use Rattle.session_way.specs.declared.session_write.WriteOutcome.{WriteOutcome}
use Rattle.session_way.specs.declared.session_write.WriteOutcome.TheVariants as outcome
use Rattle.session_way.specs.declared.way.SessionWay.{SessionWay}
use Rattle.session_way.specs.declared.way.SessionWay.TheVariants as way
use Rattle.shepherd.specs.Standing.{has_left, is_early}
use Rattle.shepherd_steps.specs.Passes.{goes, outcome_of, windows_by, windows_step}
use Rattle.ssm_stub.specs.Ends.{bricks_of}
use Rattle.ssm_stub.specs.Writes.{WriteState, write_answer}
use Rattle.ssm_stub.specs.declared.write_call.WriteRefusal.{WriteRefusal}
use Rattle.ssm_stub.specs.declared.write_call.WriteRefusal.TheVariants as refusal
use Rattle.seat_steps.proofs.Visiting.{Goes, SaysThen, goes-still}
use Rattle.seat_steps.specs.Answering.{HearsItsWrite, IsAnsweredAt, IsAnsweredFor, WriteHasHeard}

-- the law that no answer is that memory was wanted
abbrev pub AnswersPlainly : Type 0
AnswersPlainly = (here : WriteState) → write_answer here ≢ Some (Err refusal.OutOfMemory)

-- what is told of a write leaves its request what it is

told-facts : (o : Option WriteOutcome) (v : Visit ActionCall) → (after_outcome o v).facts ≡ v.facts
told-facts None v = refl
told-facts (Some (outcome.Written cookie)) v = refl
told-facts (Some (outcome.Missed causes)) v = refl

pub told-left : (o : Option WriteOutcome) (v : Visit ActionCall) → has_left (after_outcome o v).work ≡ has_left v.work
told-left None v = refl
told-left (Some (outcome.Written cookie)) v = by v.work where
  by : (w : Work ActionCall) → has_left (with_fate fate_written w) ≡ has_left w
  by Reading = refl
  by Opening = refl
  by (ServingBy tries program) = refl
  by (Committed place again shown) = refl
  by (Decided became) = refl
  by (Answered fate bytes) = refl
  by (Left fate) = refl
told-left (Some (outcome.Missed causes)) v = by v.work where
  by : (w : Work ActionCall) → has_left (with_fate (fate_missed causes) w) ≡ has_left w
  by Reading = refl
  by Opening = refl
  by (ServingBy tries program) = refl
  by (Committed place again shown) = refl
  by (Decided became) = refl
  by (Answered fate bytes) = refl
  by (Left fate) = refl

told-early : (o : Option WriteOutcome) (v : Visit ActionCall) → is_early (after_outcome o v).work ≡ is_early v.work
told-early None v = refl
told-early (Some (outcome.Written cookie)) v = by v.work where
  by : (w : Work ActionCall) → is_early (with_fate fate_written w) ≡ is_early w
  by Reading = refl
  by Opening = refl
  by (ServingBy tries program) = refl
  by (Committed place again shown) = refl
  by (Decided became) = refl
  by (Answered fate bytes) = refl
  by (Left fate) = refl
told-early (Some (outcome.Missed causes)) v = by v.work where
  by : (w : Work ActionCall) → is_early (with_fate (fate_missed causes) w) ≡ is_early w
  by Reading = refl
  by Opening = refl
  by (ServingBy tries program) = refl
  by (Committed place again shown) = refl
  by (Decided became) = refl
  by (Answered fate bytes) = refl
  by (Left fate) = refl

full-left : (full : List WindowFact) (w : Work ActionCall) → has_left (overloaded full w) ≡ has_left w
full-left full Reading = refl
full-left full Opening = refl
full-left full (ServingBy tries program) = refl
full-left full (Committed place again shown) = refl
full-left full (Decided became) = refl
full-left full (Answered fate bytes) = refl
full-left full (Left fate) = refl

full-early : (full : List WindowFact) (w : Work ActionCall) → is_early (overloaded full w) ≡ is_early w
full-early full Reading = refl
full-early full Opening = refl
full-early full (ServingBy tries program) = refl
full-early full (Committed place again shown) = refl
full-early full (Decided became) = refl
full-early full (Answered fate bytes) = refl
full-early full (Left fate) = refl

-- what is told of a write is its answer
told-so : (a : Option (Result Cookie WriteRefusal)) → a ≢ Some (Err refusal.OutOfMemory) → option_map answer_of_write (outcome_of a) ≡ a
told-so None plain = refl
told-so (Some (Ok cookie)) plain = refl
told-so (Some (Err (refusal.Missed causes))) plain = refl
told-so (Some (Err refusal.OutOfMemory)) plain = absurd (plain refl)

held-plain : AnswersPlainly → (to : SessionWay) → answer_held to ≢ Some (Err refusal.OutOfMemory)
held-plain law way.Resting = λ is. cc
held-plain law (way.Reading r) = λ is. cc
held-plain law (way.Ordered order) = λ is. cc
held-plain law (way.Writing w) = law w.write
held-plain law (way.Settling w) = law w.write
held-plain law (way.Holding passes) = λ is. cc

-- a response that a write waited for is known once the passes are back
back-answered : (o : Option (Result Cookie WriteRefusal)) (fate : Fate) (v : Visit ActionCall) → v.work ≡ Left fate → o ≢ Some (Err refusal.OutOfMemory)
    → ((place : Place) (again : Bool) → fate ≡ Writing place again → o ≢ None) → IsAnsweredAt (after_outcome (outcome_of o) v).work way.Resting
back-answered None (Known became) v is plain some = subst (λ (x : Work ActionCall). IsAnsweredAt x way.Resting) (sym is) tt
back-answered None (Writing place again) v is plain some = absurd (some place again refl refl)
back-answered (Some (Ok cookie)) (Known became) v is plain some =
    subst (λ (x : Work ActionCall). IsAnsweredAt (after_outcome (Some (outcome.Written cookie)) (record v { work = x })).work way.Resting) (sym is) tt
back-answered (Some (Ok cookie)) (Writing place again) v is plain some =
    subst (λ (x : Work ActionCall). IsAnsweredAt (after_outcome (Some (outcome.Written cookie)) (record v { work = x })).work way.Resting) (sym is) tt
back-answered (Some (Err (refusal.Missed causes))) (Known became) v is plain some =
    subst (λ (x : Work ActionCall). IsAnsweredAt (after_outcome (Some (outcome.Missed causes)) (record v { work = x })).work way.Resting) (sym is) tt
back-answered (Some (Err (refusal.Missed causes))) (Writing place again) v is plain some =
    subst (λ (x : Work ActionCall). IsAnsweredAt (after_outcome (Some (outcome.Missed causes)) (record v { work = x })).work way.Resting) (sym is) tt
back-answered (Some (Err refusal.OutOfMemory)) fate v is plain some = absurd (plain refl)

pub told-way : (o : Option WriteOutcome) (v : Visit ActionCall) → (after_outcome o v).way ≡ v.way
told-way None v = refl
told-way (Some (outcome.Written cookie)) v = refl
told-way (Some (outcome.Missed causes)) v = refl

-- a request that gave back what it held, as it is told what its write came to
abbrev pub given-back : Visit ActionCall → Visit ActionCall
given-back v = after_outcome (outcome_of (answer_held v.way)) (record v { way = way.Resting })

module _ (plain : AnswersPlainly) (key : List ℕ) (history : List Event) (v : Visit ActionCall) where
  is-back : IsGivenBack v (given-back v)
  is-back = record {
    outcome = outcome_of (answer_held v.way);
    is_outcome = told-so (answer_held v.way) (held-plain plain v.way);
    new_is = refl;
  }

  -- Behind its response, a request that gave back what it held says what became of it.
  pub back-then : (fate : Fate) → v.work ≡ Left fate → (marks : List WindowMark) (sent : List ℕ) → HearsItsWrite v → Marks marks v → Says key history sent v → SaysThen key history sent (given-back v)
  back-then fate is marks sent h m says =
      let some : (place : Place) (again : Bool) → fate ≡ Writing place again → answer_held v.way ≢ None = λ place again same.
      subst (λ (f : Fate). IsAnsweredFor f v.way) same (subst (λ (x : Work ActionCall). IsAnsweredAt x v.way) is h.answered) in
      record {
        marks = marks ++ map uncounted (marks_by v.way way.Resting);
        marked = back_marks marks v (given-back v) fate is-back is some m;
        says = back_says key history sent marks v (given-back v) fate is-back is some m says;
        hears = record {
          heard = subst WriteHasHeard (sym (told-way (outcome_of (answer_held v.way)) (record v { way = way.Resting }))) tt;
          answered = subst (λ (x : SessionWay). IsAnsweredAt (given-back v).work x) (sym (told-way (outcome_of (answer_held v.way)) (record v { way = way.Resting })))
              (back-answered (answer_held v.way) fate (record v { way = way.Resting }) is (held-plain plain v.way) some);
        };
      }

  pub back-goes : ((marks : List WindowMark) (sent : List ℕ) → HearsItsWrite v → Marks marks v → Says key history sent v → SaysThen key history sent (given-back v)) → Goes key history v (given-back v)
  back-goes still = record {
    facts = told-facts (outcome_of (answer_held v.way)) (record v { way = way.Resting });
    left = λ e. sym (told-left (outcome_of (answer_held v.way)) (record v { way = way.Resting })) ∙ e;
    early = λ e. sym (told-early (outcome_of (answer_held v.way)) (record v { way = way.Resting })) ∙ e;
    still = still;
  }

  -- A session that is to be written is that of a request that is committed.
  committed : (marks : List WindowMark) (order : WriteOrder) (work : Work ActionCall) → MarksOf marks v.cookie (way.Ordered order) work
      → (place : Place) × (again : Bool) × (shown : Shown) × (work ≡ Committed place again shown)
  committed marks order Reading m = absurd m.2
  committed marks order Opening m = absurd (let r = m.1.rests in cc)
  committed marks order (ServingBy tries program) m = absurd (let r = m.1.rests in cc)
  committed marks order (Committed place again shown) m = (place, again, shown, refl)
  committed marks order (Decided became) m = absurd (let r = m.1.rests in cc)
  committed marks order (Answered (Known became) bytes) m = absurd (let r = m.rests in cc)
  committed marks order (Answered (Writing place again) bytes) m = absurd m.held_so
  committed marks order (Left (Known became)) m = absurd (let r = m.rests in cc)
  committed marks order (Left (Writing place again)) m = absurd m.held_so

  -- One that is settled is that of a request whose response has left.
  settled : (marks : List WindowMark) (w : WritingState) (work : Work ActionCall) → MarksOf marks v.cookie (way.Settling w) work → (fate : Fate) × (work ≡ Left fate)
  settled marks w Reading m = absurd m.2
  settled marks w Opening m = absurd (let r = m.1.rests in cc)
  settled marks w (ServingBy tries program) m = absurd (let r = m.1.rests in cc)
  settled marks w (Committed place again shown) m = absurd m.1
  settled marks w (Decided became) m = absurd (let r = m.1.rests in cc)
  settled marks w (Answered (Known became) bytes) m = absurd (let r = m.rests in cc)
  settled marks w (Answered (Writing place again) bytes) m = absurd m.held_so
  settled marks w (Left fate) m = (fate, refl)

  -- None holds passes without a write.
  unheld : (marks : List WindowMark) (passes : List Pass) (work : Work ActionCall) → MarksOf marks v.cookie (way.Holding passes) work → ⊥
  unheld marks passes Reading m = m.2
  unheld marks passes Opening m = let r = m.1.rests in cc
  unheld marks passes (ServingBy tries program) m = let r = m.1.rests in cc
  unheld marks passes (Committed place again shown) m = m.1
  unheld marks passes (Decided became) m = let r = m.1.rests in cc
  unheld marks passes (Answered (Known became) bytes) m = let r = m.rests in cc
  unheld marks passes (Answered (Writing place again) bytes) m = m.held_so
  unheld marks passes (Left (Known became)) m = let r = m.rests in cc
  unheld marks passes (Left (Writing place again)) m = m.held_so

  abbrev es : List Entry
  es = entries_in (take v.holds.held history)

  -- passes were refused
  overloaded-goes : (order : WriteOrder) (full : List WindowFact) → v.way ≡ way.Ordered order → Goes key history v (record v { way = way.Resting; work = overloaded full v.work })
  overloaded-goes order full was = record {
    facts = refl;
    left = λ e. sym (full-left full v.work) ∙ e;
    early = λ e. sym (full-early full v.work) ∙ e;
    still = λ marks sent h m says.
        let c = committed marks order v.work (subst (λ (x : SessionWay). MarksOf marks v.cookie x v.work) was m) in
        let none : v.cookie ≡ None = (subst (λ (x : Work ActionCall). MarksOf marks v.cookie v.way x) c.3 m).0 in
        record {
          marks = mark.Refused ∷ [];
          marked = subst (λ (x : Work ActionCall). MarksOf (mark.Refused ∷ []) v.cookie way.Resting (overloaded full x)) (sym c.3) (none, record { rests = refl; marks_are = refl });
          says = record {
            within = says.within;
            says = subst (λ (x : Work ActionCall). SaysOf key es v.facts v.cookie way.Resting sent (overloaded full x)) (sym c.3) (none, λ p. p);
          };
          hears = record { heard = tt; answered = subst (λ (x : Work ActionCall). IsAnsweredAt (overloaded full x) way.Resting) (sym c.3) tt };
        };
  }

  -- the write of a session begins
  begun-goes : (order : WriteOrder) (least : ℕ) (passes : List Pass) → v.way ≡ way.Ordered order → Goes key history v (record v { way = way.Writing (write_begun order least passes) })
  begun-goes order least passes was = record {
    facts = refl;
    left = λ e. e;
    early = λ e. e;
    still = λ marks sent h m says.
        let c = committed marks order v.work (subst (λ (x : SessionWay). MarksOf marks v.cookie x v.work) was m) in
        let none : v.cookie ≡ None = (subst (λ (x : Work ActionCall). MarksOf marks v.cookie v.way x) c.3 m).0 in
        let to : SessionWay = way.Writing (write_begun order least passes) in
        record {
          marks = mark.Taken 0 ∷ [];
          marked = subst (λ (x : Work ActionCall). MarksOf (mark.Taken 0 ∷ []) v.cookie to x) (sym c.3) (none, refl);
          says = record {
            within = says.within;
            says = subst (λ (x : Work ActionCall). SaysOf key es v.facts v.cookie to sent x) (sym c.3)
                (subst (λ (x : Work ActionCall). SaysOf key es v.facts v.cookie v.way sent x) c.3 says.says);
          };
          hears = record {
            heard = record {
              bricks = bricks_of passes;
              least = least;
              nonce = order.nonce;
              key = order.key;
              value = order.value;
              expiry = order.expiry;
              events = [];
              fitting = tt;
              here_is = refl;
            };
            answered = subst (λ (x : Work ActionCall). IsAnsweredAt x to) (sym c.3) tt;
          };
        };
  }

  takes-goes : (order : WriteOrder) (windows : WindowsValue) → v.way ≡ way.Ordered order → Goes key history v (windows_by v (way.Ordered order) windows).0
  takes-goes order windows was = by (nat_lt (open_count windows.facts) windows.wq) where
    by : (b : Bool) → Goes key history v (if b then (record v { way = way.Resting; work = overloaded (full_facts windows.facts) v.work }, refused windows) else goes v (way.Writing (write_begun order windows.wq (passes_for order windows))) (taken windows (passes_for order windows))).0
    by true = overloaded-goes order (full_facts windows.facts) was
    by false =
        subst (λ (o : Option (Result Cookie WriteRefusal)). Goes key history v (after_outcome (outcome_of o) (record v { way = way.Writing (write_begun order windows.wq (passes_for order windows)) }))) (sym (ap answer_held was))
        (begun-goes order windows.wq (passes_for order windows) was)

  -- A request that made its step in the windows says what became of it.
  pub windows-goes : (windows : WindowsValue) → Goes key history v (windows_step v windows).0
  unfolding windows_step
  windows-goes windows = by v.way refl where
    by : (to : SessionWay) → v.way ≡ to → Goes key history v (windows_by v to windows).0
    by way.Resting was = goes-still key history v
    by (way.Reading r) was = goes-still key history v
    by (way.Ordered order) was = takes-goes order windows was
    by (way.Writing w) was = goes-still key history v
    by (way.Settling w) was = back-goes (λ marks sent h m says. let f = settled marks w v.work (subst (λ (x : SessionWay). MarksOf marks v.cookie x v.work) was m) in back-then f.0 f.1 marks sent h m says)
    by (way.Holding passes) was = back-goes (λ marks sent h m says. absurd (unheld marks passes v.work (subst (λ (x : SessionWay). MarksOf marks v.cookie x v.work) was m)))
