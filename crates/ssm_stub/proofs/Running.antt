-- Runs grow by an event at their end.
use Rattle.std.proofs.Common.{◌≡◌, ◌∙◌, ap, sym, refl, subst, inl, inr, ℕ, IsTrue, List, [], ◌∷◌, ◌++◌, map, append_assoc, append-nil}
use Rattle.std.proofs.lemmas.List.{map-append}
use Rattle.std.proofs.lemmas.List.Sums.{fold-append}
use Rattle.outside.specs.declared.link.LinkEvent.{LinkEvent}
use Rattle.outside.specs.Link.{Made}
use Rattle.ssm_stub.specs.declared.event.StubEvent.{StubEvent}
use Rattle.ssm_stub.specs.declared.event.StubNext.{StubNext}
use Rattle.ssm_stub.specs.declared.event.Told.{Told}
use Rattle.crash_base.specs.declared.numbers.BrickNo.{BrickNo}
use Rattle.ssm_stub.specs.declared.event.StubEvent.TheVariants.{Frame}
use Rattle.ssm_stub.specs.declared.event.StubNext.TheVariants.{Receive}
use Rattle.ssm_stub.specs.Runs.{Machine, told_of, fits, call_of, Fits, calls, after, Ran, ReceiveFails, Steps, BreaksOff, Stopped}

-- calls that follow each other
pub made_join : {L : Type 0} (makes : L → LinkEvent → L → Type 0) (old : L) (first : List LinkEvent) (mid : L) (more : List LinkEvent) (new : L) → Made makes old first mid → Made makes mid more new → Made makes old (first ++ more) new
made_join {L} makes old [] mid more new h k = (let P : L → Type 0 = λ l. Made makes l more new in subst P (sym h) k)
made_join makes old (e ∷ first) mid more new (next, here, rest) k = (next, here, made_join makes next first mid more new rest k)

fits_more : {S : Type 0} (m : Machine S) (s : S) (events : List Told) (told : Told) → Fits m s events → IsTrue (fits (m.next (after m s events)) told) → Fits m s (events ++ told ∷ [])
fits_more m s [] told h step = (step, tt)
fits_more m s (e ∷ events) told (first, rest) step = (first, fits_more m (m.hear s e) events told rest step)

calls_more : {S : Type 0} (m : Machine S) (ask : List ℕ) (s : S) (events : List StubEvent) (event : StubEvent) → calls m ask s (events ++ event ∷ []) ≡ calls m ask s events ++ call_of ask (m.next (after m s (map told_of events))) event
calls_more m ask s [] event = append-nil (call_of ask (m.next s) event)
calls_more m ask s (e ∷ events) event =
    ap (λ rest. call_of ask (m.next s) e ++ rest) (calls_more m ask (m.hear s (told_of e)) events event)
    ∙ sym (append_assoc (call_of ask (m.next s) e) (calls m ask (m.hear s (told_of e)) events) (call_of ask (m.next (after m s (map told_of (e ∷ events)))) event))

-- nothing was told yet
pub ran_nothing : {S L : Type 0} (m : Machine S) (makes : L → LinkEvent → L → Type 0) (ask : List ℕ) (s : S) (l : L) → Ran m makes ask s l [] s l
ran_nothing m makes ask s l = record { fitting = tt; made = refl; ends = refl }

-- a run goes on by an event that fits
pub ran_more : {S L : Type 0} (m : Machine S) (makes : L → LinkEvent → L → Type 0) (ask : List ℕ) (start : S) (old : L) (events : List StubEvent) (mid : S) (reached : L) (event : StubEvent) (end : S) (new : L) → Ran m makes ask start old events mid reached → IsTrue (fits (m.next mid) (told_of event)) → Made makes reached (call_of ask (m.next mid) event) new → end ≡ m.hear mid (told_of event) → Ran m makes ask start old (events ++ event ∷ []) end new
ran_more {S} {L} m makes ask start old events mid reached event end new ran fitting made heard =
    let told = map told_of events in
    let all : map told_of (events ++ event ∷ []) ≡ told ++ told_of event ∷ [] = map-append told_of events (event ∷ []) in
    let now : mid ≡ after m start told = ran.ends in
    let FitsAt : S → Type 0 = λ s. IsTrue (fits (m.next s) (told_of event)) in
    let MadeAt : S → Type 0 = λ s. Made makes reached (call_of ask (m.next s) event) new in
    record {
      fitting = rw all (fits_more m start told (told_of event) ran.fitting (subst FitsAt now fitting));
      made = rw (calls_more m ask start events event) (made_join makes old (calls m ask start events) reached (call_of ask (m.next (after m start told)) event) new ran.made (subst MadeAt now made));
      ends = heard ∙ (ap (λ s. m.hear s (told_of event)) now ∙ (sym (fold-append m.hear start told (told_of event ∷ [])) ∙ ap (after m start) (sym all)));
    }

-- a run stops where a step breaks off
pub stopped_by : {S L : Type 0} (m : Machine S) (makes : L → LinkEvent → L → Type 0) (ask : List ℕ) (start : S) (old : L) (events : List StubEvent) (end : S) (reached : L) (new : L) → Ran m makes ask start old events end reached → BreaksOff makes ask (m.next end) reached new → Stopped m makes ask start old end new
stopped_by m makes ask start old events end reached new ran broke =
    record { events = events; reached = reached; ran = ran; breaks_off = broke }

-- a step breaks off where a receive fails
pub broke_receiving : {L : Type 0} (makes : L → LinkEvent → L → Type 0) (ask : List ℕ) (brick : BrickNo) (old new : L) → ReceiveFails makes brick old new → BreaksOff makes ask (Receive brick) old new
broke_receiving makes ask brick old new fails = record {
  last = fails.call ∷ [];
  at_most_one = inr (elim fails.wanted [
    | inl wants ↦ inl (ap (λ call. call ∷ []) wants)
    | inr got ↦ inr (Frame got.0, refl, ap (λ call. call ∷ []) got.2)
  ]);
  made = (new, fails.made, refl);
}

-- a step breaks off before its call
pub broke_before : {L : Type 0} (makes : L → LinkEvent → L → Type 0) (ask : List ℕ) (next : StubNext) (l : L) → BreaksOff makes ask next l l
broke_before makes ask next l = record { last = []; at_most_one = inl refl; made = refl }

-- a step of what was wanted
pub stepped : {S L : Type 0} (m : Machine S) (makes : L → LinkEvent → L → Type 0) (ask : List ℕ) (next : StubNext) (start : S) (old : L) (end : S) (new : L) → next ≡ m.next start → (event : StubEvent) × IsTrue (fits next (told_of event)) × (end ≡ m.hear start (told_of event)) × Made makes old (call_of ask next event) new → Steps m makes ask start old end new
stepped m makes ask next start old end new is (event, fitting, hears, made) =
    let Fitting : StubNext → Type 0 = λ n. IsTrue (fits n (told_of event)) in
    let Making : StubNext → Type 0 = λ n. Made makes old (call_of ask n event) new in
    record { event = event; fitting = subst Fitting is fitting; made = subst Making is made; hears = hears }

-- one step is a run
pub ran_once : {S L : Type 0} (m : Machine S) (makes : L → LinkEvent → L → Type 0) (ask : List ℕ) (start : S) (old : L) (end : S) (new : L) → (step : Steps m makes ask start old end new) → Ran m makes ask start old (step.event ∷ []) end new
ran_once m makes ask start old end new step =
    record { fitting = (step.fitting, tt); made = rw (append-nil (call_of ask (m.next start) step.event)) step.made; ends = step.hears }

fits_join : {S : Type 0} (m : Machine S) (s : S) (first more : List Told) → Fits m s first → Fits m (after m s first) more → Fits m s (first ++ more)
fits_join m s [] more h k = k
fits_join m s (told ∷ first) more (one, rest) k = (one, fits_join m (m.hear s told) first more rest k)

calls_join : {S : Type 0} (m : Machine S) (ask : List ℕ) (s : S) (first more : List StubEvent) → calls m ask s (first ++ more) ≡ calls m ask s first ++ calls m ask (after m s (map told_of first)) more
calls_join m ask s [] more = refl
calls_join m ask s (event ∷ first) more =
    ap (λ rest. call_of ask (m.next s) event ++ rest) (calls_join m ask (m.hear s (told_of event)) first more)
    ∙ sym (append_assoc (call_of ask (m.next s) event) (calls m ask (m.hear s (told_of event)) first) (calls m ask (after m s (map told_of (event ∷ first))) more))

-- a run that goes on where another ended
pub ran_join : {S L : Type 0} (m : Machine S) (makes : L → LinkEvent → L → Type 0) (ask : List ℕ) (start : S) (old : L) (first : List StubEvent) (mid : S) (reached : L) (more : List StubEvent) (end : S) (new : L) → Ran m makes ask start old first mid reached → Ran m makes ask mid reached more end new → Ran m makes ask start old (first ++ more) end new
ran_join {S} m makes ask start old first mid reached more end new ran next =
    let told = map told_of first in
    let told_more = map told_of more in
    let all : map told_of (first ++ more) ≡ told ++ told_more = map-append told_of first more in
    let FitsFrom : S → Type 0 = λ s. Fits m s told_more in
    let MadeFrom : S → Type 0 = λ s. Made makes reached (calls m ask s more) new in
    record {
      fitting = rw all (fits_join m start told told_more ran.fitting (subst FitsFrom ran.ends next.fitting));
      made = rw (calls_join m ask start first more) (made_join makes old (calls m ask start first) reached (calls m ask (after m start told) more) new ran.made (subst MadeFrom ran.ends next.made));
      ends = next.ends ∙ (ap (λ s. after m s told_more) ran.ends ∙ (sym (fold-append m.hear start told told_more) ∙ ap (after m start) (sym all)));
    }
