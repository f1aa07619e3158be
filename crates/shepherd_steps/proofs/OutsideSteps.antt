-- A request after a step outside is the one that the function gives.
use Rattle.std.proofs.Common.{◌≡◌, ℕ, Bool, true, false, IsTrue, List, [], ◌∷◌, Option, sym, ap, ◌∙◌, subst}
use Rattle.outside.specs.Link.{Made, Tally}
use Rattle.outside.specs.declared.link.LinkEvent.{LinkEvent}
use Rattle.outside.specs.declared.link.LinkEvent.TheVariants.{Sends, SendsInSilence, Gets, HearsSilence}
use Rattle.request_visit.specs.Stepping.{counted}
use Rattle.request_visit.specs.declared.visit.Visit.{Visit}
use Rattle.session_way.specs.Way.{StepsOutside}
use Rattle.session_way.specs.declared.way.SessionWay.{SessionWay}
use Rattle.session_way.specs.declared.way.SessionWay.TheVariants as way
use Rattle.shepherd.specs.Steps.{VisitsOutside}
use Rattle.shepherd_steps.specs.Outside.{AnswersBy, Replies, event_of_receive, event_of_send, heard_over, machine_after, outside, way_outside}
use Rattle.ssm_frames.specs.Spelling.{encode_of}
use Rattle.ssm_stub.specs.Reads.{ReadState, read_ask, read_machine}
use Rattle.ssm_stub.specs.Runs.{Machine, Steps, call_of, fits, told_of}
use Rattle.ssm_stub.specs.Writes.{WriteState, write_machine}
use Rattle.ssm_stub.specs.declared.event.StubEvent.{StubEvent}
use Rattle.ssm_stub.specs.declared.event.StubEvent.TheVariants as event
use Rattle.ssm_stub.specs.declared.event.StubNext.{StubNext}
use Rattle.ssm_stub.specs.declared.event.StubNext.TheVariants.{Send, Receive, Ended}

-- a call that a link made is the one event of it
made-one : {L : Type 0} (makes : L → LinkEvent → L → Type 0) (call : LinkEvent) (old new : L) → Made makes old (call ∷ []) new → makes old call new
made-one {L} makes call old new made = subst (λ (l : L). makes old call l) made.2 made.1

untrue : false ≡ true → ⊥
untrue e = cc

-- what was heard, and the link after it
heard-so : {L : Type 0} (makes : L → LinkEvent → L → Type 0) (replies : Replies L) (ask : List ℕ) (next : StubNext) (came : StubEvent) (old new : L)
    → AnswersBy makes replies → IsTrue (fits next (told_of came)) → Made makes old (call_of ask next came) new
    → (came, new) ≡ heard_over replies ask next old
heard-so {L} makes replies ask (Send brick) event.Sent old new answers fitting made =
    ap (λ (x : Bool × L). (event_of_send x.0, x.1)) (sym (answers.taken old new brick ask (made-one makes (Sends brick ask) old new made)))
heard-so makes replies ask (Send brick) (event.Frame bytes) old new answers fitting made = absurd (untrue fitting)
heard-so {L} makes replies ask (Send brick) event.Silent old new answers fitting made =
    ap (λ (x : Bool × L). (event_of_send x.0, x.1)) (sym (answers.silent old new brick ask (made-one makes (SendsInSilence brick ask) old new made)))
heard-so makes replies ask (Receive brick) event.Sent old new answers fitting made = absurd (untrue fitting)
heard-so {L} makes replies ask (Receive brick) (event.Frame bytes) old new answers fitting made =
    ap (λ (x : Option (List ℕ) × L). (event_of_receive x.0, x.1)) (sym (answers.came old new brick bytes (made-one makes (Gets brick bytes) old new made)))
heard-so {L} makes replies ask (Receive brick) event.Silent old new answers fitting made =
    ap (λ (x : Option (List ℕ) × L). (event_of_receive x.0, x.1)) (sym (answers.none_came old new brick (made-one makes (HearsSilence brick) old new made)))
heard-so makes replies ask Ended came old new answers fitting made = absurd (untrue fitting)

machine-so : {S L : Type 0} (m : Machine S) (makes : L → LinkEvent → L → Type 0) (replies : Replies L) (ask : List ℕ) (s : S) (old : L) (end : S) (new : L)
    → AnswersBy makes replies → Steps m makes ask s old end new → (end, new) ≡ machine_after m replies ask s old
machine-so {S} {L} m makes replies ask s old end new answers steps =
    ap (λ (x : S). (x, new)) steps.hears
    ∙ ap (λ (h : StubEvent × L). (m.hear s (told_of h.0), h.1)) (heard-so makes replies ask (m.next s) steps.event old new answers steps.fitting steps.made)

way-so : {L : Type 0} (makes : L → LinkEvent → L → Type 0) (replies : Replies L) (old : SessionWay) (link : L) (new : SessionWay) (after : L)
    → AnswersBy makes replies → StepsOutside makes old link new after → (new, after) ≡ way_outside replies old link
way-so makes replies way.Resting link new after answers steps = absurd steps
way-so {L} makes replies (way.Reading r) link new after answers steps =
    ap (λ (w : SessionWay). (w, after)) steps.1
    ∙ ap (λ (x : ReadState × L). (way.Reading x.0, x.1)) (machine-so read_machine makes replies (encode_of (read_ask r)) r link steps.0 after answers steps.2)
way-so makes replies (way.Ordered order) link new after answers steps = absurd steps
way-so {L} makes replies (way.Writing w) link new after answers steps =
    ap (λ (x : SessionWay). (x, after)) steps.1
    ∙ ap (λ (x : WriteState × L). (way.Writing (record w { write = x.0 }), x.1)) (machine-so write_machine makes replies (encode_of w.write.ask) w.write link steps.0 after answers steps.2)
way-so {L} makes replies (way.Settling w) link new after answers steps =
    ap (λ (x : SessionWay). (x, after)) steps.1
    ∙ ap (λ (x : WriteState × L). (way.Settling (record w { write = x.0 }), x.1)) (machine-so write_machine makes replies (encode_of w.write.ask) w.write link steps.0 after answers steps.2)
way-so makes replies (way.Holding passes) link new after answers steps = absurd steps

pub outside-fixed : {P L : Type 0} (makes : L → LinkEvent → L → Type 0) (tally : L → Tally) (replies : Replies L) (old : Visit P) (link : L) (new : Visit P) (after : L)
    → AnswersBy makes replies → VisitsOutside makes tally old link new after → (new, after) ≡ outside replies tally old link
unfolding outside
outside-fixed {P} {L} makes tally replies old link new after answers visits =
    ap (λ (v : Visit P). (v, after)) visits.rest
    ∙ ap (λ (x : SessionWay × L). (record old { way = x.0; counts = counted (tally x.1) }, x.1)) (way-so makes replies old.way link new.way after answers visits.steps)
