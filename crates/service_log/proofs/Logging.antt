-- What is written of one event.
use Rattle.std.proofs.Common.{◌≡◌, ◌∙◌, inl, inr, List, ℕ, [], ◌∷◌, ◌++◌, Result, Ok, Err, IfOk, OnErr, sym, ap, subst}
use Rattle.std.proofs.lemmas.List.{append_assoc}
use Rattle.std.specs.Fmt.{decimal}
use Rattle.crash_base.specs.declared.memory.OutOfMemory.{OutOfMemory}
use Rattle.deployment.specs.declared.parts.Parts.{Parts}
use Rattle.service_log.specs.Lines.{line_of}
use Rattle.service_log.specs.Logging.{Log, LogsEvent, LogsEvents, WritesLine}
use Rattle.service_log.specs.declared.event.ServiceEvent.{ServiceEvent}

-- the line of an event was made and written, or there was no memory for it and nothing was written
pub logged : {X : Type 0} (items : X → List ℕ) (parts : Parts) (event : ServiceEvent) (found : Result X OutOfMemory) (old new : Log)
    → IfOk found (λ x. items x ≡ line_of parts event) → IfOk found (λ x. WritesLine (items x) old new) → OnErr found (new ≡ old) → LogsEvent parts event old new
logged items parts event (Ok line) old new is written none =
    inr (subst (λ (bytes : List ℕ). WritesLine bytes old new) is written)
logged items parts event (Err OutOfMemory) old new is written none = inl none

-- two numbers between three texts, added in two steps to what was empty
pub joined : (start a b c first second : List ℕ) (x same y : ℕ) → start ≡ [] → same ≡ x → first ≡ start ++ (a ++ decimal same ++ b) → second ≡ first ++ (decimal y ++ c)
    → second ≡ a ++ decimal x ++ b ++ decimal y ++ c
joined start a b c first second x same y empty is p q =
    let began : first ≡ a ++ decimal x ++ b = p ∙ (ap (λ (l : List ℕ). l ++ (a ++ decimal same ++ b)) empty ∙ ap (λ (n : ℕ). a ++ decimal n ++ b) is) in
    q ∙ (ap (λ (l : List ℕ). l ++ (decimal y ++ c)) began ∙ sym (append_assoc (a ++ decimal x ++ b) (decimal y) c))

-- events that are told behind others
pub logged_behind : (parts : Parts) (first second : List ServiceEvent) (old between new : Log) → LogsEvents parts first old between → LogsEvents parts second between new → LogsEvents parts (first ++ second) old new
logged_behind parts [] second old between new is told = subst (λ (l : Log). LogsEvents parts second l new) is told
logged_behind parts (event ∷ first) second old between new (next, here, rest) told = (next, here, logged_behind parts first second next between new rest told)
