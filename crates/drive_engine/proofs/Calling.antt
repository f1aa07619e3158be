-- Each text calls for one status, whatever the keeper replies.
use Rattle.std.proofs.Common.{◌≡◌, ◌≢◌, inl, inr, ℕ, ◌≤◌, Bool, true, false, cond, nat_lt, Option, Some, None, List, [], ◌∷◌, length, take, Result, Ok, Err, refl, ap, sym, subst, ◌∙◌, arith}
use Rattle.std.proofs.lemmas.Bool.{cases_lt}
use Rattle.deployment.specs.declared.parts.Parts.{Parts}
use Rattle.descriptor_text.specs.Text.{IsAnswer}
use Rattle.descriptor_text.specs.declared.refusals.TextRefusal.{TextRefusal}
use Rattle.descriptor_text.specs.declared.refusals.TextRefusal.TheVariants.{OutOfMemory}
use Rattle.descriptor_text.proofs.Exactness.{one_answer}
use Rattle.scenario_text.specs.Cutting.{lines_of, IsCut}
use Rattle.scenario_text.proofs.EndedLines.{cut_of, cut_once}
use Rattle.scenario_engine.specs.Transcript.{Turn, lines_in, first, End, Ended, RefusedAt, TooLong, Unstarted, UnderWay, IsAnswered, end_from}
use Rattle.scenario_text.specs.declared.line.TheConstants.{MAX_LINE_BYTES}
use Rattle.drive_engine.specs.declared.drive.TheConstants.{MAX_SCENARIO_BYTES}
use Rattle.drive_engine.specs.declared.groups.TheConstants.{MAX_DESCRIPTOR_BYTES}
use Rattle.drive_engine.specs.declared.words.Command.{Command}
use Rattle.drive_engine.specs.declared.words.Command.TheVariants.{Drive, Groups, Workload}
use Rattle.drive_engine.specs.Command.{CallsFor, DescriptorsCallFor, status_of_end, status_of_opening, status_of_unstarted, status_past_limit, start_replies}
use Rattle.drive_engine.specs.Work.{work_opening}

-- a text has lines, and calls for a status whatever the keeper replies to them
abbrev pub CallsForAny : Command → List ℕ → Type 0
CallsForAny command text = (lines : List (List ℕ)) × ((turns : List Turn) → lines_in turns ≡ lines → IsAnswered (end_from first 1 turns) → (status : ℕ) × CallsFor command text turns status)

-- a text of descriptors that is short enough calls for 0 or for 10, by its answer
called_by_answer : (text : List ℕ) (a : Result Parts TextRefusal) → length text ≤ MAX_DESCRIPTOR_BYTES → a ≢ Err OutOfMemory → IsAnswer text a → (status : ℕ) × DescriptorsCallFor text status
called_by_answer text (Ok parts) short found answer = (0, inr (inl (refl, (short, (parts, answer)))))
called_by_answer text (Err cause) short found answer = (10, inr (inr (refl, (short, record { cause = cause; found = λ is. found (ap Err is); answer = answer }))))

called_for_groups : ((text : List ℕ) → (a : Result Parts TextRefusal) × (a ≢ Err OutOfMemory) × IsAnswer text a) → (text : List ℕ) → (status : ℕ) × DescriptorsCallFor text status
called_for_groups answers text = elim (cases_lt MAX_DESCRIPTOR_BYTES (length text)) [
  | inl long ↦ (8, inl (refl, long))
  | inr short ↦ (let a = answers text in called_by_answer text a.0 short a.1 a.2)
]

-- turns of no lines are none
no_turns : (turns : List Turn) → lines_in turns ≡ [] → turns ≡ []
no_turns [] is = refl
no_turns (turn ∷ turns) is = cc

-- an end calls for a status, where no line is under way

status_there : (e : End) → IsAnswered e → (n : ℕ) × (Some n ≡ status_of_end e)
status_there (Ended s) answered = (0, refl)
status_there (RefusedAt s n) answered = (3, refl)
status_there (TooLong s n) answered = (8, refl)
status_there (Unstarted s r) answered = (status_of_unstarted r, refl)
status_there (UnderWay s n) answered = absurd answered

past_there : (e : End) (bytes : ℕ) → IsAnswered e → (n : ℕ) × (Some n ≡ status_past_limit e bytes)
past_there (Ended s) bytes answered = go (nat_lt MAX_LINE_BYTES bytes)
  where
    go : (long : Bool) → (n : ℕ) × (Some n ≡ cond long (Some 8) (Some 12))
    go true = (8, refl)
    go false = (12, refl)
past_there (RefusedAt s n) bytes answered = (3, refl)
past_there (TooLong s n) bytes answered = (8, refl)
past_there (Unstarted s r) bytes answered = (status_of_unstarted r, refl)
past_there (UnderWay s n) bytes answered = absurd answered

same_number : (a b : ℕ) → Some a ≡ Some b → a ≡ b
same_number a b is = cc

pub status_called : ((text : List ℕ) → (a : Result Parts TextRefusal) × (a ≢ Err OutOfMemory) × IsAnswer text a) → (command : Command) (text : List ℕ) → CallsForAny command text
status_called answers Drive text = elim (cases_lt MAX_SCENARIO_BYTES (length text)) [
  | inl long ↦ (let h = cut_of (take MAX_SCENARIO_BYTES text) in (h.0, λ turns is answered. (let p = past_there (end_from first 1 turns) (length h.1) answered in (p.0, inr (record { long = long; part = h.1; cut = subst (λ ls. IsCut (take MAX_SCENARIO_BYTES text) ls h.1) (sym is) h.2; called = p.1 })))))
  | inr short ↦ (lines_of text, λ turns is answered. (let p = status_there (end_from first 1 turns) answered in (p.0, inl (record { short = short; lines = is; called = p.1 }))))
]
status_called answers Groups text = ([], λ turns is answered. (let called = called_for_groups answers text in (called.0, (no_turns turns is, called.1))))
status_called answers (Workload number count) text = ([] ∷ [], λ turns is answered. (status_of_opening (work_opening (start_replies turns)), (is, refl)))

called_once_for_groups : (text : List ℕ) (a b : ℕ) → DescriptorsCallFor text a → DescriptorsCallFor text b → a ≡ b
called_once_for_groups text a b (inl h) (inl k) = h.0 ∙ sym k.0
called_once_for_groups text a b (inl h) (inr (inl k)) = absurd (omega (arith, h.1, k.1.0))
called_once_for_groups text a b (inl h) (inr (inr k)) = absurd (omega (arith, h.1, k.1.0))
called_once_for_groups text a b (inr (inl h)) (inl k) = absurd (omega (arith, k.1, h.1.0))
called_once_for_groups text a b (inr (inl h)) (inr (inl k)) = h.0 ∙ sym k.0
called_once_for_groups text a b (inr (inl (e, (short, (parts, d))))) (inr (inr (f, (short', r)))) = let same = one_answer text (Ok parts) (Err r.cause) d r.answer (λ i. cc) (λ i. r.found (cc)) in cc
called_once_for_groups text a b (inr (inr h)) (inl k) = absurd (omega (arith, k.1, h.1.0))
called_once_for_groups text a b (inr (inr (f, (short', r)))) (inr (inl (e, (short, (parts, d))))) = let same = one_answer text (Ok parts) (Err r.cause) d r.answer (λ i. cc) (λ i. r.found (cc)) in cc
called_once_for_groups text a b (inr (inr h)) (inr (inr k)) = h.0 ∙ sym k.0

-- each calls for one status at most
pub called_once : (command : Command) (text : List ℕ) (turns : List Turn) (a b : ℕ) → CallsFor command text turns a → CallsFor command text turns b → a ≡ b
called_once Drive text turns a b (inl h) (inl k) = same_number a b (h.called ∙ sym k.called)
called_once Drive text turns a b (inl h) (inr k) = absurd (omega (arith, h.short, k.long))
called_once Drive text turns a b (inr h) (inl k) = absurd (omega (arith, h.long, k.short))
called_once Drive text turns a b (inr h) (inr k) =
    let same = cut_once (take MAX_SCENARIO_BYTES text) (lines_in turns) (lines_in turns) h.part k.part h.cut k.cut in
    same_number a b (h.called ∙ ap (λ p. status_past_limit (end_from first 1 turns) (length p)) same.1 ∙ sym k.called)
called_once Groups text turns a b h k = called_once_for_groups text a b h.1 k.1
called_once (Workload number count) text turns a b h k = h.1 ∙ sym k.1
