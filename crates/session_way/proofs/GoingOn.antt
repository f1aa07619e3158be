-- Runs that go on by a step.
use Rattle.std.proofs.Common.{◌≡◌, ◌∙◌, ap, sym, refl, subst, IsTrue, List, [], ◌∷◌, ◌++◌, map, Option, Some, None}
use Rattle.std.proofs.lemmas.List.{map-append}
use Rattle.outside.specs.declared.link.LinkEvent.{LinkEvent}
use Rattle.outside.specs.Link.{Made}
use Rattle.ssm_frames.specs.Spelling.{encode_of}
use Rattle.ssm_stub.specs.declared.event.StubNext.{StubNext}
use Rattle.ssm_stub.specs.declared.event.Told.{Told}
use Rattle.ssm_stub.specs.Reads.{ReadState, read_ask, read_machine}
use Rattle.ssm_stub.specs.Runs.{Fits, Ran, Steps, after, fits, told_of}
use Rattle.ssm_stub.specs.Turns.{next_unless}
use Rattle.ssm_stub.specs.Writes.{WriteState, write_answer, write_machine, write_next, write_until}
use Rattle.ssm_stub.proofs.LinkTelling.{until-calls}
use Rattle.session_way.specs.declared.way.Wants.TheVariants.{Nothing, Outside}
use Rattle.session_way.specs.Runs.{HasWritten}
use Rattle.session_way.specs.Way.{outside_or}

-- a call that wants the link has no answer, so what it wants is not held back by one
unanswered : {X : Type 0} (answer : Option X) (next : StubNext) → outside_or Nothing (next_unless answer next) ≡ Outside → next_unless answer next ≡ next
unanswered None next h = refl
unanswered (Some answer) next h = cc

-- events that fit a write up to its answer, and one more
fits_more : (s : WriteState) (events : List Told) (told : Told) → Fits write_until s events → IsTrue (fits (write_until.next (after write_until s events)) told) → Fits write_until s (events ++ told ∷ [])
fits_more s [] told h step = (step, tt)
fits_more s (e ∷ events) told (first, rest) step = (first, fits_more (write_until.hear s e) events told rest step)

-- a read stays the one that began
pub read_same : (start here after : ReadState) (told : Told) → here ≡ record start { asks = here.asks } → after ≡ read_machine.hear here told → after ≡ record start { asks = after.asks }
read_same start here after told same hears =
    let heard = (read_machine.hear here told).asks in
    hears ∙ (ap (λ (s : ReadState). record s { asks = heard }) same ∙ ap (λ asks. record start { asks = asks }) (sym (ap (λ (s : ReadState). s.asks) hears)))

-- a write stays the one that began
pub write_same : (start here after : WriteState) (told : Told) → here ≡ record start { asks = here.asks } → after ≡ write_machine.hear here told → after ≡ record start { asks = after.asks }
write_same start here after told same hears =
    let heard = (write_machine.hear here told).asks in
    hears ∙ (ap (λ (s : WriteState). record s { asks = heard }) same ∙ ap (λ asks. record start { asks = asks }) (sym (ap (λ (s : WriteState). s.asks) hears)))

module _ {L : Type 0} (makes : L → LinkEvent → L → Type 0) where
  -- a step with the ask of the read that began
  pub read_step_of : (start here : ReadState) (mid : L) (after : ReadState) (new : L) → here ≡ record start { asks = here.asks } → Steps read_machine makes (encode_of (read_ask here)) here mid after new → Steps read_machine makes (encode_of (read_ask start)) here mid after new
  read_step_of start here mid after new same step =
      let P : List _ → Type 0 = λ ask. Steps read_machine makes ask here mid after new in
      subst P (ap (λ (s : ReadState). encode_of (read_ask s)) same) step

  -- a step with the ask of the write that began
  pub write_step_of : (start here : WriteState) (mid : L) (after : WriteState) (new : L) → here ≡ record start { asks = here.asks } → Steps write_machine makes (encode_of here.ask) here mid after new → Steps write_machine makes (encode_of start.ask) here mid after new
  write_step_of start here mid after new same step =
      let P : List _ → Type 0 = λ ask. Steps write_machine makes ask here mid after new in
      subst P (ap (λ (s : WriteState). encode_of s.ask) same) step

  -- a run of a write that went on by a step before its answer goes at most to its answer
  pub written_on : (start here after : WriteState) (old mid new : L) (h : HasWritten makes start old here mid) → outside_or Nothing (write_until.next here) ≡ Outside → (step : Steps write_machine makes (encode_of start.ask) here mid after new) → Ran write_machine makes (encode_of start.ask) start old (h.events ++ step.event ∷ []) after new → HasWritten makes start old after new
  written_on start here after old mid new h wants step joined =
      let told = map told_of h.events in
      let events = h.events ++ step.event ∷ [] in
      let all : map told_of events ≡ told ++ told_of step.event ∷ [] = map-append told_of h.events (step.event ∷ []) in
      let same_next : write_until.next here ≡ write_next here = unanswered (write_answer here) (write_next here) wants in
      let Fitting : StubNext → Type 0 = λ next. IsTrue (fits next (told_of step.event)) in
      let FitsAt : WriteState → Type 0 = λ s. IsTrue (fits (write_until.next s) (told_of step.event)) in
      let fitting : Fits write_until start (map told_of events) = rw all (fits_more start told (told_of step.event) h.ran.fitting (subst FitsAt h.ran.ends (subst Fitting (sym same_next) step.fitting))) in
      let Making : List LinkEvent → Type 0 = λ calls. Made makes old calls new in
      record {
        events = events;
        ran = record {
          fitting = fitting;
          made = subst Making (sym (until-calls (encode_of start.ask) events start fitting)) joined.made;
          ends = joined.ends;
        };
        same = write_same start here after (told_of step.event) h.same step.hears;
      }
