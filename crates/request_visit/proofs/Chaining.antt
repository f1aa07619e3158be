-- Reads and writes go on by steps over a link that others call as well.
use Rattle.std.proofs.Common.{◌≡◌, ◌∙◌, ap, sym, refl, subst, ℕ, IsTrue, List, [], ◌∷◌, ◌++◌, map, append_assoc, append-nil, Some, Result, Ok, Err}
use Rattle.std.proofs.lemmas.List.{map-append}
use Rattle.std.proofs.lemmas.List.Sums.{fold-append}
use Rattle.crash_base.specs.declared.numbers.BrickNo.{BrickNo}
use Rattle.crash_base.specs.declared.numbers.Moment.{Moment}
use Rattle.crash_base.specs.declared.numbers.SessionKey.{SessionKey}
use Rattle.crash_base.specs.declared.numbers.Version.{Version}
use Rattle.outside.specs.declared.link.LinkEvent.{LinkEvent}
use Rattle.outside.specs.Link.{Made}
use Rattle.send_windows.specs.declared.pass.Pass.{Pass}
use Rattle.session_cookie.specs.Cookie.{AreHolders}
use Rattle.session_cookie.specs.declared.cookie.Cookie.{Cookie}
use Rattle.ssm_frames.specs.Spelling.{encode_of}
use Rattle.ssm_stub.specs.Ends.{WriteEnds, bricks_of}
use Rattle.ssm_stub.specs.Outcomes.{IsMissed, IsWritten}
use Rattle.ssm_stub.specs.Reads.{ReadState, read_ask, read_machine}
use Rattle.ssm_stub.specs.Runs.{Fits, Machine, Ran, Steps, after, call_of, calls, fits, told_of}
use Rattle.ssm_stub.specs.Writes.{WriteState, pass_of, write_answer, write_machine, write_start, write_until}
use Rattle.ssm_stub.specs.declared.cause.BrickCause.{BrickCause}
use Rattle.ssm_stub.specs.declared.event.StubEvent.{StubEvent}
use Rattle.ssm_stub.specs.declared.event.Told.{Told}
use Rattle.ssm_stub.specs.declared.write_call.WriteRefusal.{WriteRefusal}
use Rattle.ssm_stub.specs.declared.write_call.WriteRefusal.TheVariants as write_refusal
use Rattle.ssm_stub.proofs.Distinct.{passes-differ}
use Rattle.ssm_stub.proofs.LinkTelling.{until-calls, until-fits}
use Rattle.ssm_stub.proofs.WriteFacts.{WriteFacts, write_facts}
use Rattle.ssm_stub.proofs.WriteOutcomes.{missed, written}
use Rattle.session_way.proofs.GoingOn.{read_same, read_step_of, write_same, write_step_of, written_on}
use Rattle.session_way.proofs.Holders.{written_holders}
use Rattle.session_way.specs.Runs.{HasRead, HasSettled, HasWritten}
use Rattle.session_way.specs.Way.{outside_or, passes_for}
use Rattle.session_way.specs.Writing.{WritingState, write_begun}
use Rattle.session_way.specs.declared.session_write.WriteOrder.{WriteOrder}
use Rattle.session_way.specs.declared.way.SessionWay.TheVariants as way
use Rattle.session_way.specs.declared.way.Wants.TheVariants as wanted
use Rattle.request_visit.specs.Sessions.{HasBegun, RunsOn, MakesAmong, WritesTo}

-- calls in a row are calls among others
made_among : {L : Type 0} (makes : L → LinkEvent → L → Type 0) (old : L) (made : List LinkEvent) (new : L) → Made makes old made new → Made (MakesAmong makes) tt made tt
made_among makes old [] new h = refl
made_among makes old (call ∷ made) new (next, here, rest) = (tt, (old, next, here), made_among makes next made new rest)

pub steps_among : {S L : Type 0} (m : Machine S) (makes : L → LinkEvent → L → Type 0) (ask : List ℕ) (start : S) (old : L) (end : S) (new : L) → Steps m makes ask start old end new → Steps m (MakesAmong makes) ask start tt end tt
steps_among m makes ask start old end new step = record {
  event = step.event;
  fitting = step.fitting;
  made = made_among makes old (call_of ask (m.next start) step.event) new step.made;
  hears = step.hears;
}

made_join : {L : Type 0} (makes : L → LinkEvent → L → Type 0) (old : L) (first : List LinkEvent) (mid : L) (more : List LinkEvent) (new : L) → Made makes old first mid → Made makes mid more new → Made makes old (first ++ more) new
made_join {L} makes old [] mid more new h k = (let P : L → Type 0 = λ l. Made makes l more new in subst P (sym h) k)
made_join makes old (e ∷ first) mid more new (next, here, rest) k = (next, here, made_join makes next first mid more new rest k)

fits_more : {S : Type 0} (m : Machine S) (s : S) (events : List Told) (told : Told) → Fits m s events → IsTrue (fits (m.next (after m s events)) told) → Fits m s (events ++ told ∷ [])
fits_more m s [] told h step = (step, tt)
fits_more m s (e ∷ events) told (first, rest) step = (first, fits_more m (m.hear s e) events told rest step)

calls_more : {S : Type 0} (m : Machine S) (ask : List ℕ) (s : S) (events : List StubEvent) (event : StubEvent) → calls m ask s (events ++ event ∷ []) ≡ calls m ask s events ++ call_of ask (m.next (after m s (map told_of events))) event
calls_more m ask s [] event = append-nil (call_of ask (m.next s) event)
calls_more m ask s (e ∷ events) event =
    ap (λ rest. call_of ask (m.next s) e ++ rest) (calls_more m ask (m.hear s (told_of e)) events event)
    ∙ sym (append_assoc (call_of ask (m.next s) e) (calls m ask (m.hear s (told_of e)) events) (call_of ask (m.next (after m s (map told_of (e ∷ events)))) event))

-- a run goes on by a step
ran_on : {S L : Type 0} (m : Machine S) (makes : L → LinkEvent → L → Type 0) (ask : List ℕ) (start : S) (old : L) (events : List StubEvent) (mid : S) (reached : L) (end : S) (new : L) → Ran m makes ask start old events mid reached → (step : Steps m makes ask mid reached end new) → Ran m makes ask start old (events ++ step.event ∷ []) end new
ran_on {S} m makes ask start old events mid reached end new ran step =
    let told : List Told = map told_of events in
    let all : map told_of (events ++ step.event ∷ []) ≡ told ++ told_of step.event ∷ [] = map-append told_of events (step.event ∷ []) in
    let now : mid ≡ after m start told = ran.ends in
    let FitsAt : S → Type 0 = λ s. IsTrue (fits (m.next s) (told_of step.event)) in
    let MadeAt : S → Type 0 = λ s. Made makes reached (call_of ask (m.next s) step.event) new in
    record {
      fitting = rw all (fits_more m start told (told_of step.event) ran.fitting (subst FitsAt now step.fitting));
      made = rw (calls_more m ask start events step.event) (made_join makes old (calls m ask start events) reached (call_of ask (m.next (after m start told)) step.event) new ran.made (subst MadeAt now step.made));
      ends = step.hears ∙ (ap (λ s. m.hear s (told_of step.event)) now ∙ (sym (fold-append m.hear start told (told_of step.event ∷ [])) ∙ ap (after m start) (sym all)));
    }

pub read_on : {L : Type 0} (makes : L → LinkEvent → L → Type 0) (start here later : ReadState) (old new : L) → HasRead (MakesAmong makes) start tt here tt → Steps read_machine makes (encode_of (read_ask here)) here old later new → HasRead (MakesAmong makes) start tt later tt
read_on makes start here later old new h step =
    let own : Steps read_machine (MakesAmong makes) (encode_of (read_ask start)) here tt later tt =
    read_step_of (MakesAmong makes) start here tt later tt h.same (steps_among read_machine makes (encode_of (read_ask here)) here old later new step) in
    record {
      events = h.events ++ own.event ∷ [];
      ran = ran_on read_machine (MakesAmong makes) (encode_of (read_ask start)) start tt h.events here tt later tt h.ran own;
      same = read_same start here later (told_of own.event) h.same own.hears;
    }

-- a write up to its answer is one that may run on
machine_run : {L : Type 0} (makes : L → LinkEvent → L → Type 0) (start here : WriteState) (old new : L) (h : HasWritten makes start old here new) → Ran write_machine makes (encode_of start.ask) start old h.events here new
machine_run makes start here old new h =
    let Making : List LinkEvent → Type 0 = λ made. Made makes old made new in
    record {
      fitting = until-fits (map told_of h.events) start h.ran.fitting;
      made = subst Making (until-calls (encode_of start.ask) h.events start h.ran.fitting) h.ran.made;
      ends = h.ran.ends;
    }

pub settled_from : {L : Type 0} (makes : L → LinkEvent → L → Type 0) (start here : WriteState) (old new : L) → HasWritten makes start old here new → HasSettled makes start old here new
settled_from makes start here old new h = record { events = h.events; ran = machine_run makes start here old new h; same = h.same }

own_step : {L : Type 0} (makes : L → LinkEvent → L → Type 0) (start here later : WriteState) (old new : L) → here ≡ record start { asks = here.asks } → Steps write_machine makes (encode_of here.ask) here old later new → Steps write_machine (MakesAmong makes) (encode_of start.ask) here tt later tt
own_step makes start here later old new same step =
    write_step_of (MakesAmong makes) start here tt later tt same (steps_among write_machine makes (encode_of here.ask) here old later new step)

pub write_on : {L : Type 0} (makes : L → LinkEvent → L → Type 0) (start here later : WriteState) (old new : L) → HasWritten (MakesAmong makes) start tt here tt → outside_or wanted.Nothing (write_until.next here) ≡ wanted.Outside
    → Steps write_machine makes (encode_of here.ask) here old later new → HasWritten (MakesAmong makes) start tt later tt
write_on makes start here later old new h wants step =
    let own : Steps write_machine (MakesAmong makes) (encode_of start.ask) here tt later tt = own_step makes start here later old new h.same step in
    written_on (MakesAmong makes) start here later tt tt tt h wants own
    (ran_on write_machine (MakesAmong makes) (encode_of start.ask) start tt h.events here tt later tt (machine_run (MakesAmong makes) start here tt tt h) own)

-- the law that the answer of a write stays while it runs on
abbrev pub Stays : Type 0
Stays = (first more : List Told) (bricks : List BrickNo) (least : ℕ) (nonce : Version) (key : SessionKey) (value : List ℕ) (expiry : Moment) (answer : Result Cookie WriteRefusal)
    → Fits write_machine (write_start bricks least nonce key value expiry) (first ++ more)
    → write_answer (after write_machine (write_start bricks least nonce key value expiry) first) ≡ Some answer
    → write_answer (after write_machine (write_start bricks least nonce key value expiry) (first ++ more)) ≡ Some answer

-- a write has begun as its order says
begun_is : (order : WriteOrder) (begun : WritingState) (b : HasBegun order begun) → begun ≡ write_begun order b.old.wq (passes_for order b.old)
begun_is order begun b =
    let h : way.Writing begun ≡ way.Writing (write_begun order b.old.wq (passes_for order b.old)) = b.is_taken.writes in
    cc

-- a write that has an answer runs on, and has it still
pub settle_on : {L : Type 0} (law : Stays) (makes : L → LinkEvent → L → Type 0) (order : WriteOrder) (answer : Result Cookie WriteRefusal) (here later : WriteState) (old new : L) → RunsOn makes order answer here
    → Steps write_machine makes (encode_of here.ask) here old later new → RunsOn makes order answer later
settle_on law makes order answer here later old new s step =
    let start : WriteState = s.begun.write in
    let own : Steps write_machine (MakesAmong makes) (encode_of start.ask) here tt later tt = own_step makes start here later old new s.ran.same step in
    let ran : Ran write_machine (MakesAmong makes) (encode_of start.ask) start tt (s.ran.events ++ own.event ∷ []) later tt =
    ran_on write_machine (MakesAmong makes) (encode_of start.ask) start tt s.ran.events here tt later tt s.ran.ran own in
    let first : List Told = map told_of s.ran.events in
    let more : List Told = told_of own.event ∷ [] in
    let all : map told_of (s.ran.events ++ own.event ∷ []) ≡ first ++ more = map-append told_of s.ran.events (own.event ∷ []) in
    let b : WriteState = (write_begun order s.has_begun.old.wq (passes_for order s.has_begun.old)).write in
    let is : start ≡ b = ap (λ (w : WritingState). w.write) (begun_is order s.begun s.has_begun) in
    let fitting : Fits write_machine start (first ++ more) = subst (λ (told : List Told). Fits write_machine start told) all ran.fitting in
    let was : write_answer (after write_machine start first) ≡ Some answer = subst (λ (w : WriteState). write_answer w ≡ Some answer) s.ran.ran.ends s.answers in
    let stays : write_answer (after write_machine b (first ++ more)) ≡ Some answer =
    law first more (bricks_of (passes_for order s.has_begun.old)) s.has_begun.old.wq order.nonce order.key order.value order.expiry answer
    (subst (λ (w : WriteState). Fits write_machine w (first ++ more)) is fitting)
    (subst (λ (w : WriteState). write_answer (after write_machine w first) ≡ Some answer) is was) in
    let here_too : write_answer (after write_machine start (first ++ more)) ≡ Some answer =
    subst (λ (w : WriteState). write_answer (after write_machine w (first ++ more)) ≡ Some answer) (sym is) stays in
    record {
      begun = s.begun;
      has_begun = s.has_begun;
      ran = record {
        events = s.ran.events ++ own.event ∷ [];
        ran = ran;
        same = write_same start here later (told_of own.event) s.ran.same own.hears;
      };
      answers = subst (λ (w : WriteState). write_answer w ≡ Some answer) (sym ran.ends)
          (subst (λ (told : List Told). write_answer (after write_machine start told) ≡ Some answer) (sym all) here_too);
    }

-- a write that came to an answer has ended as a call ends
facts_of : {L : Type 0} (makes : L → LinkEvent → L → Type 0) (order : WriteOrder) (answer : Result Cookie WriteRefusal) (w : WritesTo makes order answer)
    → WriteFacts (MakesAmong makes) (bricks_of (passes_for order w.writing.has_begun.old)) w.writing.has_begun.old.wq order.nonce order.key order.expiry tt tt answer
facts_of makes order answer w =
    let b : HasBegun order w.writing.begun = w.writing.has_begun in
    let passes : List Pass = passes_for order b.old in
    let ran : HasWritten (MakesAmong makes) (write_begun order b.old.wq passes).write tt w.end tt =
    subst (λ (x : WritingState). HasWritten (MakesAmong makes) x.write tt w.end tt) (begun_is order w.writing.begun b) w.writing.ran in
    let ends : WriteEnds (MakesAmong makes) (write_begun order b.old.wq passes).write tt tt (map pass_of w.end.asks) answer =
    record { events = ran.events; end = w.end; ran = ran.ran; answers = w.answers; marks = refl } in
    write_facts (MakesAmong makes) (bricks_of passes) b.old.wq order.nonce order.key order.value order.expiry tt tt (map pass_of w.end.asks) answer (passes-differ passes b.is_taken.lawful.distinct) ends

pub written_so : {L : Type 0} (makes : L → LinkEvent → L → Type 0) (order : WriteOrder) (cookie : Cookie) (w : WritesTo makes order (Ok cookie))
    → IsWritten (MakesAmong makes) (bricks_of (passes_for order w.writing.has_begun.old)) w.writing.has_begun.old.wq order.nonce order.key order.expiry tt tt cookie
written_so makes order cookie w =
    let b : HasBegun order w.writing.begun = w.writing.has_begun in
    written (MakesAmong makes) (bricks_of (passes_for order b.old)) b.old.wq order.nonce order.key order.expiry tt tt cookie (facts_of makes order (Ok cookie) w)

pub missed_so : {L : Type 0} (makes : L → LinkEvent → L → Type 0) (order : WriteOrder) (causes : List BrickCause) (w : WritesTo makes order (Err (write_refusal.Missed causes)))
    → IsMissed (MakesAmong makes) (bricks_of (passes_for order w.writing.has_begun.old)) w.writing.has_begun.old.wq order.nonce order.key tt tt causes
missed_so makes order causes w =
    let b : HasBegun order w.writing.begun = w.writing.has_begun in
    missed (MakesAmong makes) (bricks_of (passes_for order b.old)) b.old.wq order.nonce order.key order.expiry tt tt causes (facts_of makes order (Err (write_refusal.Missed causes)) w)

pub holders_of : {L : Type 0} (makes : L → LinkEvent → L → Type 0) (order : WriteOrder) (cookie : Cookie) (w : WritesTo makes order (Ok cookie)) → AreHolders cookie.bricks
holders_of makes order cookie w =
    let b : HasBegun order w.writing.begun = w.writing.has_begun in
    written_holders (MakesAmong makes) (passes_for order b.old) b.old.wq order.nonce order.key order.expiry tt tt cookie b.is_taken.lawful.distinct b.some b.few (written_so makes order cookie w)
