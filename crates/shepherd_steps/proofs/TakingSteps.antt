-- A connection that took what its bytes begin with is the one that the function gives.
use Rattle.std.proofs.Common.{◌≡◌, ◌<◌, ◌≤◌, ◌+◌, ◌%◌, ◌^◌, arith, ℕ, suc, Bool, true, false, List, [], ◌∷◌, ◌++◌, append-nil, Option, Some, None, refl, sym, ap, ◌∙◌, subst, nat_lt, if◌then◌else◌}
use Rattle.std.proofs.Math.Nat.{mod-add-mod}
use Rattle.std.proofs.lemmas.Bool.{le-ltb, lt-ltb}
use Rattle.crash_base.specs.declared.numbers.Moment.{Moment}
use Rattle.http_wire.specs.Taking.{taken_of}
use Rattle.http_wire.specs.declared.taken.Head.{Head}
use Rattle.http_wire.specs.declared.taken.Taken.{Taken}
use Rattle.http_wire.specs.declared.taken.Taken.TheVariants as took
use Rattle.outside.specs.declared.link.LinkCounts.{LinkCounts}
use Rattle.outside.specs.Random.{PlainGives}
use Rattle.outside.specs.Serials.{PlainLooks}
use Rattle.outside.specs.declared.serials.TheConstants.{SERIALS_END}
use Rattle.request_decisions.specs.Decisions.{IsDecided}
use Rattle.request_decisions.specs.Drawing.{DrawsOne, HasDrawn, IsSpent}
use Rattle.request_decisions.specs.Draws.{drawn_for, is_serial, kinds_of}
use Rattle.request_decisions.specs.declared.decision.Decision.{Decision}
use Rattle.request_decisions.specs.declared.decision.Decision.TheVariants as decided
use Rattle.request_decisions.specs.declared.decision.Order.{Order}
use Rattle.request_decisions.specs.declared.draws.Draw.{Draw}
use Rattle.request_decisions.specs.declared.draws.DrawKind.{DrawKind}
use Rattle.request_intake.specs.Intakes.{Gives, Looks, TakesInBy, TakesInOrder}
use Rattle.request_intake.specs.declared.intake.Arrival.{Arrival}
use Rattle.request_intake.specs.declared.intake.Arrival.TheVariants as arrives
use Rattle.request_intake.specs.declared.intake.HomeBoot.{HomeBoot}
use Rattle.shepherd.specs.Steps.{Begins, Refuses, TakesBy, TakesRequest}
use Rattle.shepherd.specs.declared.shepherd.Shepherd.{Shepherd}
use Rattle.shepherd_steps.specs.Taking.{AreInTurn, Counts, Drawing, GivesInTurn, LooksInTurn, Numbers, Service, arrival_by, arrives_by, begins_with, behind, draws, refuses, take_request, takes_by}
use Rattle.site_responses.specs.declared.answer.Untaken.{Untaken}
use Rattle.site_responses.specs.declared.answer.Untaken.TheVariants as untaken

-- the first of what is drawn, by whether it is a serial number, and whether that is left
first_draw : Bool → Bool → Numbers → DrawKind → List DrawKind → Counts → Drawing
first_draw serial left numbers kind kinds counts =
    if serial
    then (if left
    then behind (record { kind = kind; number = numbers.serials counts.serials }) (draws numbers kinds (record counts { serials = suc counts.serials }))
    else record { drawn = []; spent = Some (numbers.serials counts.serials); counts = counts })
    else behind (record { kind = kind; number = numbers.words counts.words }) (draws numbers kinds (record counts { words = suc counts.words }))

draws-first : (numbers : Numbers) (kind : DrawKind) (kinds : List DrawKind) (counts : Counts) (serial left : Bool)
    → is_serial kind ≡ serial → nat_lt (numbers.serials counts.serials) SERIALS_END ≡ left
    → draws numbers (kind ∷ kinds) counts ≡ first_draw serial left numbers kind kinds counts
unfolding first_draw
draws-first numbers kind kinds counts serial left is_so left_so =
    ap (λ (b : Bool). first_draw b (nat_lt (numbers.serials counts.serials) SERIALS_END) numbers kind kinds counts) is_so
    ∙ ap (λ (b : Bool). first_draw serial b numbers kind kinds counts) left_so

draws-word : (numbers : Numbers) (kind : DrawKind) (kinds : List DrawKind) (counts : Counts) → is_serial kind ≡ false
    → draws numbers (kind ∷ kinds) counts ≡ behind (record { kind = kind; number = numbers.words counts.words }) (draws numbers kinds (record counts { words = suc counts.words }))
unfolding first_draw
draws-word numbers kind kinds counts is = draws-first numbers kind kinds counts false (nat_lt (numbers.serials counts.serials) SERIALS_END) is refl

draws-serial : (numbers : Numbers) (kind : DrawKind) (kinds : List DrawKind) (counts : Counts) → is_serial kind ≡ true → numbers.serials counts.serials < SERIALS_END
    → draws numbers (kind ∷ kinds) counts ≡ behind (record { kind = kind; number = numbers.serials counts.serials }) (draws numbers kinds (record counts { serials = suc counts.serials }))
unfolding first_draw
draws-serial numbers kind kinds counts is left =
    draws-first numbers kind kinds counts true true is (lt-ltb (numbers.serials counts.serials) SERIALS_END left)

draws-spent : (numbers : Numbers) (kind : DrawKind) (kinds : List DrawKind) (counts : Counts) → is_serial kind ≡ true → SERIALS_END ≤ numbers.serials counts.serials
    → draws numbers (kind ∷ kinds) counts ≡ record { drawn = []; spent = Some (numbers.serials counts.serials); counts = counts }
unfolding first_draw
draws-spent numbers kind kinds counts is past =
    draws-first numbers kind kinds counts true false is (le-ltb (numbers.serials counts.serials) SERIALS_END past)

-- these draws before others
all_behind : List Draw → Drawing → Drawing
all_behind drawn more = record more { drawn = drawn ++ more.drawn }

module _ {S R : Type 0} (looks : Looks S) (gives : Gives R) (numbers : Numbers) (serial_states : ℕ → S) (word_states : ℕ → R)
    (in_turn : LooksInTurn looks serial_states numbers.serials) (words_in_turn : GivesInTurn gives word_states numbers.words) where
  -- what was drawn was drawn in turn, before what is still to be drawn
  record Drew (drawn : List Draw) (rest : List DrawKind) (counts : Counts) (t : S) (q : R) : Type 0 where
    after : Counts
    is : draws numbers (kinds_of drawn ++ rest) counts ≡ all_behind drawn (draws numbers rest after)
    serial_state : t ≡ serial_states after.serials
    word_state : q ≡ word_states after.words

  -- one more before what was drawn
  with_one : (d : Draw) (ds : List Draw) (rest : List DrawKind) (counts later : Counts) (t : S) (q : R)
      → draws numbers (d.kind ∷ (kinds_of ds ++ rest)) counts ≡ behind d (draws numbers (kinds_of ds ++ rest) later)
      → Drew ds rest later t q → Drew (d ∷ ds) rest counts t q
  unfolding all_behind
  with_one d ds rest counts later t q first more = record {
    after = more.after;
    is = first ∙ ap (behind d) more.is;
    serial_state = more.serial_state;
    word_state = more.word_state;
  }

  draw-of : (d : Draw) (n : ℕ) → d.number ≡ n → record { kind = d.kind; number = n } ≡ d
  draw-of d n is = ap (λ (x : ℕ). record d { number = x }) (sym is)

  drew : (drawn : List Draw) (rest : List DrawKind) (counts : Counts) (t : S) (q : R)
      → HasDrawn looks gives (serial_states counts.serials) (word_states counts.words) drawn t q → Drew drawn rest counts t q
  unfolding all_behind
  drew [] rest counts t q has = record {
    after = counts;
    is = refl;
    serial_state = has.0;
    word_state = has.1;
  }
  drew (d ∷ ds) rest counts t q has = by (λ later at. drew ds rest later t q at) (is_serial d.kind) refl has.2 where
    by : ((later : Counts) → HasDrawn looks gives (serial_states later.serials) (word_states later.words) ds t q → Drew ds rest later t q)
        → (b : Bool) → is_serial d.kind ≡ b → DrawsOne looks gives b (serial_states counts.serials) (word_states counts.words) d.number has.0 has.1
        → Drew (d ∷ ds) rest counts t q
    by again true is one =
        let next = in_turn.draws_next counts.serials one.0 d.number has.0 one.2 in
        let later : Counts = record counts { serials = suc counts.serials } in
        let left : numbers.serials counts.serials < SERIALS_END = subst (λ (n : ℕ). n < SERIALS_END) next.0 one.1 in
        let at_s : HasDrawn looks gives (serial_states later.serials) has.1 ds t q = subst (λ (s : S). HasDrawn looks gives s has.1 ds t q) next.2 has.3 in
        let at : HasDrawn looks gives (serial_states later.serials) (word_states later.words) ds t q = subst (λ (r : R). HasDrawn looks gives (serial_states later.serials) r ds t q) one.3 at_s in
        with_one d ds rest counts later t q
        (draws-serial numbers d.kind (kinds_of ds ++ rest) counts is left
        ∙ ap (λ (x : Draw). behind x (draws numbers (kinds_of ds ++ rest) later)) (draw-of d (numbers.serials counts.serials) next.1))
        (again later at)
    by again false is one =
        let next = words_in_turn.gives_next counts.words d.number has.1 one.0 in
        let later : Counts = record counts { words = suc counts.words } in
        let at_r : HasDrawn looks gives has.0 (word_states later.words) ds t q = subst (λ (r : R). HasDrawn looks gives has.0 r ds t q) next.1 has.3 in
        let at : HasDrawn looks gives (serial_states later.serials) (word_states later.words) ds t q = subst (λ (s : S). HasDrawn looks gives s (word_states later.words) ds t q) one.1 at_r in
        with_one d ds rest counts later t q
        (draws-word numbers d.kind (kinds_of ds ++ rest) counts is
        ∙ ap (λ (x : Draw). behind x (draws numbers (kinds_of ds ++ rest) later)) (draw-of d (numbers.words counts.words) next.0))
        (again later at)

  -- what was drawn for kinds, until a serial number was spent or to the end
  record DrewAll (kinds : List DrawKind) (counts : Counts) (drawn : List Draw) (spent : Option ℕ) (t : S) (q : R) : Type 0 where
    after : Counts
    is : draws numbers kinds counts ≡ record { drawn = drawn; spent = spent; counts = after }
    serial_state : t ≡ serial_states after.serials
    word_state : q ≡ word_states after.words

  all-drawn : (kinds : List DrawKind) (counts : Counts) (drawn : List Draw) (t : S) (q : R)
      → kinds_of drawn ≡ kinds → HasDrawn looks gives (serial_states counts.serials) (word_states counts.words) drawn t q
      → DrewAll kinds counts drawn None t q
  unfolding all_behind
  all-drawn kinds counts drawn t q are has =
      let d = drew drawn [] counts t q has in
      record {
        after = d.after;
        is = ap (λ (ks : List DrawKind). draws numbers ks counts) (sym are ∙ sym (append-nil (kinds_of drawn)))
            ∙ (d.is ∙ ap (λ (l : List Draw). let x : Drawing = record { drawn = l; spent = None; counts = d.after } in x) (append-nil drawn));
        serial_state = d.serial_state;
        word_state = d.word_state;
      }

  cut-short : (kinds : List DrawKind) (counts : Counts) (drawn : List Draw) (seen : ℕ) (t : S) (q : R)
      → IsSpent looks gives kinds (serial_states counts.serials) (word_states counts.words) drawn seen t q
      → DrewAll kinds counts drawn (Some seen) t q
  unfolding all_behind
  cut-short kinds counts drawn seen t q spent =
      let d = drew drawn (spent.cut.spent ∷ spent.cut.behind) counts spent.before q spent.drawn_are in
      let none = in_turn.draws_none d.after.serials seen t (subst (λ (s : S). looks s seen None t) d.serial_state spent.looked) in
      let past : SERIALS_END ≤ numbers.serials d.after.serials = subst (λ (n : ℕ). SERIALS_END ≤ n) none.0 spent.past in
      record {
        after = d.after;
        is = ap (λ (ks : List DrawKind). draws numbers ks counts) spent.cut.kinds_are
            ∙ (d.is
            ∙ (ap (all_behind drawn) (draws-spent numbers spent.cut.spent spent.cut.behind d.after spent.cut.of_serials past)
            ∙ (ap (λ (l : List Draw). let x : Drawing = record { drawn = l; spent = Some (numbers.serials d.after.serials); counts = d.after } in x) (append-nil drawn)
            ∙ ap (λ (n : ℕ). let x : Drawing = record { drawn = drawn; spent = Some n; counts = d.after } in x) (sym none.0))));
        serial_state = none.1;
        word_state = d.word_state;
      }

  -- what became of a request at once is what the function gives
  record Arrived (service : Service) (now : Moment) (decision : Decision) (counts : Counts) (arrival : Arrival) (t : S) (q : R) : Type 0 where
    after : Counts
    is : (arrival, after) ≡ arrives_by service now decision counts
    serial_state : t ≡ serial_states after.serials
    word_state : q ≡ word_states after.words

  by-drawing : (key : List ℕ) (home : HomeBoot) (decides : Head → Decision) (o : Order) (now : Moment) (counts : Counts) (drawn : List Draw) (spent : Option ℕ) (arrival : Arrival) (t : S) (q : R)
      → DrewAll (drawn_for o) counts drawn spent t q → arrival ≡ arrival_by key home o now drawn spent
      → Arrived (record { key = key; home = home; decides = decides; numbers = numbers }) now (decided.Ordered o) counts arrival t q
  by-drawing key home decides o now counts drawn spent arrival t q all is = record {
    after = all.after;
    is = ap (λ (a : Arrival). (a, all.after)) is
        ∙ ap (λ (d : Drawing). (arrival_by key home o now d.drawn d.spent, d.counts)) (sym all.is);
    serial_state = all.serial_state;
    word_state = all.word_state;
  }

  ordered-so : (key : List ℕ) (home : HomeBoot) (decides : Head → Decision) (o : Order) (now : Moment) (counts : Counts) (drawn : List Draw) (arrival : Arrival) (t : S) (q : R)
      → TakesInOrder gives looks key home o now (word_states counts.words) (serial_states counts.serials) drawn arrival q t
      → Arrived (record { key = key; home = home; decides = decides; numbers = numbers }) now (decided.Ordered o) counts arrival t q
  ordered-so key home decides o now counts drawn (arrives.Refused why) t q takes = absurd takes
  ordered-so key home decides o now counts drawn (arrives.SerialsSpent request seen) t q takes =
      by-drawing key home decides o now counts drawn (Some seen) (arrives.SerialsSpent request seen) t q
      (cut-short (drawn_for o) counts drawn seen t q takes.0)
      (ap (λ (r : Option Rattle.crash_base.specs.declared.numbers.RequestNo.RequestNo). arrives.SerialsSpent r seen) takes.1)
  ordered-so key home decides o now counts drawn (arrives.Admitted admission) t q takes =
      by-drawing key home decides o now counts drawn None (arrives.Admitted admission) t q
      (all-drawn (drawn_for o) counts drawn t q takes.0.0 takes.0.1)
      (ap arrives.Admitted takes.1)

  arrived-so : (key : List ℕ) (home : HomeBoot) (decides : Head → Decision) (decision : Decision) (counts : Counts) (now : Moment) (drawn : List Draw) (arrival : Arrival) (t : S) (q : R)
      → TakesInBy gives looks key home decision (word_states counts.words) (serial_states counts.serials) (record { now = now; drawn = drawn; arrival = arrival }) q t
      → Arrived (record { key = key; home = home; decides = decides; numbers = numbers }) now decision counts arrival t q
  arrived-so key home decides (decided.Refused why) counts now drawn arrival t q takes = record {
    after = counts;
    is = ap (λ (a : Arrival). (a, counts)) takes.0;
    serial_state = takes.3;
    word_state = takes.2;
  }
  arrived-so key home decides (decided.Ordered o) counts now drawn arrival t q takes =
      ordered-so key home decides o now counts drawn arrival t q takes

  -- A connection took what its bytes begin with, and so many numbers were drawn.
  pub record Takes {P : Type 0} (after : Shepherd P × Counts) (new : Shepherd P) (t : S) (q : R) : Type 0 where
    pub connection : new ≡ after.0
    pub serial_state : t ≡ serial_states after.1.serials
    pub word_state : q ≡ word_states after.1.words

  refuses-so : {P C : Type 0} (why : Untaken) (old : Shepherd P) (clock : C) (counts : Counts) (new : Shepherd P) (clock_after : C) (q : R) (t : S)
      → Refuses why old clock (word_states counts.words) (serial_states counts.serials) new clock_after q t
      → Takes (refuses why old counts) new t q
  refuses-so why old clock counts new clock_after q t r =
      record { connection = r.new_is; serial_state = r.no_serial; word_state = r.no_word }

  begins-so : {P C : Type 0} (told : C → ℕ) (key : List ℕ) (home : HomeBoot) (decides : Head → Decision) (seen : LinkCounts) (now : Moment) (head : Head) (old : Shepherd P) (clock : C) (counts : Counts) (new : Shepherd P) (clock_after : C) (q : R) (t : S)
      → ((decision : Decision) → IsDecided key home.boot head decision → decision ≡ decides head)
      → told clock_after ≡ now.0
      → Begins told gives looks key home seen head old clock (word_states counts.words) (serial_states counts.serials) new clock_after q t
      → (let service : Service = record { key = key; home = home; decides = decides; numbers = numbers } in
      Takes (begins_with seen head now old (arrives_by service now (decides head) counts)) new t q)
  begins-so {P} told key home decides seen now head old clock counts new clock_after q t one tells begins =
      let service : Service = record { key = key; home = home; decides = decides; numbers = numbers } in
      let i = begins.intake in
      let arrived = arrived-so key home decides begins.taken_in.decision counts i.now i.drawn i.arrival t q begins.taken_in.follows in
      let moment : i.now ≡ now = ap (λ (n : ℕ). let m : Moment = record { 0 = n } in m) (sym begins.told_is ∙ tells) in
      let same : (i.arrival, arrived.after) ≡ arrives_by service now (decides head) counts =
      arrived.is
      ∙ (ap (λ (d : Decision). arrives_by service i.now d counts) (one begins.taken_in.decision begins.taken_in.decided)
      ∙ ap (λ (m : Moment). arrives_by service m (decides head) counts) moment) in
      let so : Takes (begins_with seen head i.now old (i.arrival, arrived.after)) new t q =
      record { connection = begins.new_is; serial_state = arrived.serial_state; word_state = arrived.word_state } in
      let at : Takes (begins_with seen head now old (i.arrival, arrived.after)) new t q =
      subst (λ (m : Moment). Takes (begins_with seen head m old (i.arrival, arrived.after)) new t q) moment so in
      subst (λ (a : Arrival × Counts). Takes (begins_with seen head now old a) new t q) same at

  pub take-fixed : {P C : Type 0} (told : C → ℕ) (key : List ℕ) (home : HomeBoot) (decides : Head → Decision) (seen : LinkCounts) (now : Moment) (old : Shepherd P) (clock : C) (counts : Counts) (new : Shepherd P) (clock_after : C) (q : R) (t : S)
      → ((head : Head) (decision : Decision) → IsDecided key home.boot head decision → decision ≡ decides head)
      → ((head : Head) → taken_of old.received ≡ took.Request head → told clock_after ≡ now.0)
      → TakesRequest told gives looks key home seen old clock (word_states counts.words) (serial_states counts.serials) new clock_after q t
      → Takes (take_request (record { key = key; home = home; decides = decides; numbers = numbers }) seen now old counts) new t q
  unfolding take_request
  take-fixed {P} {C} told key home decides seen now old clock counts new clock_after q t one tells takes = by (taken_of old.received) refl takes where
    by : (taken : Taken) → taken_of old.received ≡ taken → TakesBy told gives looks key home seen taken old clock (word_states counts.words) (serial_states counts.serials) new clock_after q t
        → (let service : Service = record { key = key; home = home; decides = decides; numbers = numbers } in
        Takes (takes_by service seen now taken old counts) new t q)
    by (took.Request head) is h = begins-so told key home decides seen now head old clock counts new clock_after q t (one head) (tells head is) h
    by took.Bad is h = refuses-so untaken.Bad old clock counts new clock_after q t h
    by (took.TooLong len lines) is h = refuses-so untaken.TooLong old clock counts new clock_after q t h
    by took.NoCoding is h = refuses-so untaken.NoCoding old clock counts new clock_after q t h
    by (took.BodyTooLong said) is h = refuses-so untaken.BodyTooLong old clock counts new clock_after q t h
    by took.More is h = absurd h

-- numbers that are counted come in turn
pub counted-so : (word serial : ℕ) → AreInTurn PlainGives PlainLooks (λ n. (word + n) % (2 ^ 64)) (λ n. serial + n)
    (record { words = λ n. (word + n) % (2 ^ 64); serials = λ n. serial + n })
counted-so word serial = record {
  words_in_turn = record {
    gives_next = λ n given after gives. (gives.0, gives.1 ∙ (mod-add-mod (word + n) (2 ^ 64) 1 ∙ ap (λ (x : ℕ). x % (2 ^ 64)) (more word n)));
  };
  serials_in_turn = record {
    draws_next = λ n seen drawn after looks. (looks.0, looks.1, looks.2 ∙ more serial n);
    draws_none = λ n seen after looks. (looks.0, looks.1);
  };
} where
  more : (from n : ℕ) → from + n + 1 ≡ from + suc n
  more from n = omega arith
