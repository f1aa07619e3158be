-- Tries that stand in a journal.
use Rattle.std.specs.Prelude.{IfSome}
use Rattle.std.proofs.Common.{◌≡◌, ℕ, ◌≤◌, List, [], ◌∷◌, ◌++◌, length, take, Option, Some, None, sym, ap, ◌∙◌, subst, arith, length-append}
use Rattle.std.proofs.lemmas.List.{take-append-le, take_all}
use Rattle.crash_base.specs.declared.numbers.RequestNo.{RequestNo}
use Rattle.crash_base.specs.declared.numbers.WorkerNo.{WorkerNo}
use Rattle.deployment.specs.declared.parts.Parts.{Parts}
use Rattle.journal_model.specs.declared.entry.Entry.{Entry}
use Rattle.call_ticket.specs.declared.next.Answer.{Answer}
use Rattle.call_ticket.specs.declared.next.Next.{Next}
use Rattle.boot_core.specs.Boot.{BootValue, HasGrown}
use Rattle.call_attempts.specs.Attempt.{AttemptValue}
use Rattle.call_attempts.proofs.UnderWay.{stays}
use Rattle.request_tries.specs.Serving.{TriesValue, IsOpen, IsServing, unbegun}
use Rattle.request_tries.specs.Tries.{TryStands, AreTries, last_front, first_begin, CauseStands}
use Rattle.request_tries.specs.declared.outcome.Try.{Try}

-- A try that stands in a journal stands in each longer one.
pub try_longer : (parts : Parts) (asks : List Answer → Next) (es more : List Entry) (t : Try) → TryStands parts asks es t → TryStands parts asks (es ++ more) t
try_longer parts asks es more t s = record {
  lasts = s.lasts;
  within = omega (arith, s.within, length-append es more);
  cause = rw (take-append-le t.front.0 es more s.within) s.cause;
}

pub tries_longer : (parts : Parts) (asks : List Answer → Next) (es more : List Entry) (from : ℕ) (ts : List Try) → AreTries parts asks es from ts → AreTries parts asks (es ++ more) from ts
tries_longer parts asks es more from [] h = omega (arith, h, length-append es more)
tries_longer parts asks es more from (t ∷ ts) h = (h.0, try_longer parts asks es more t h.1, tries_longer parts asks es more t.front.0 ts h.2)

-- they end in order, within the journal
pub last_within : (parts : Parts) (asks : List Answer → Next) (es : List Entry) (from : ℕ) (ts : List Try) → AreTries parts asks es from ts → last_front from ts ≤ length es
last_within parts asks es from [] h = h
last_within parts asks es from (t ∷ ts) h = last_within parts asks es t.front.0 ts h.2

pub before_last : (parts : Parts) (asks : List Answer → Next) (es : List Entry) (from : ℕ) (ts : List Try) → AreTries parts asks es from ts → from ≤ last_front from ts
before_last parts asks es from [] h = omega arith
before_last parts asks es from (t ∷ ts) h =
    let rest = before_last parts asks es t.front.0 ts h.2 in
    let lasts = h.1.lasts in
    omega (arith, h.0, lasts, rest)

-- the first of them began before what comes after the last
pub first_before : (parts : Parts) (asks : List Answer → Next) (es : List Entry) (ts : List Try) (at : ℕ) → AreTries parts asks es 0 ts → last_front 0 ts ≤ at → first_begin ts at ≤ at
first_before parts asks es [] at h after = omega arith
first_before parts asks es (t ∷ ts) at h after =
    let rest = before_last parts asks es t.front.0 ts h.2 in
    let lasts = h.1.lasts in
    omega (arith, after, lasts, rest)

-- one try more
pub tries_more : (parts : Parts) (asks : List Answer → Next) (es : List Entry) (from : ℕ) (ts : List Try) (t : Try) → AreTries parts asks es from ts → last_front from ts ≤ t.at.0 → TryStands parts asks es t → AreTries parts asks es from (ts ++ t ∷ [])
tries_more parts asks es from [] t h after s = (after, s, s.within)
tries_more parts asks es from (u ∷ ts) t h after s = (h.0, h.1, tries_more parts asks es u.front.0 ts t h.2 after s)

-- they stand from the begin of the first of them on
pub from_first : (parts : Parts) (asks : List Answer → Next) (es : List Entry) (ts : List Try) (t : Try) → AreTries parts asks es 0 (ts ++ t ∷ []) → AreTries parts asks es (first_begin ts t.at.0) (ts ++ t ∷ [])
from_first parts asks es [] t h = (omega arith, h.1, h.2)
from_first parts asks es (u ∷ ts) t h = (omega arith, h.1, h.2)

-- A try whose cause the journal shows stands in it.
pub stands_now : (parts : Parts) (asks : List Answer → Next) (es : List Entry) (t : Try) → t.front.0 ≡ length es → t.at.0 ≤ length es → CauseStands parts asks es t.at.0 t.cause → TryStands parts asks es t
stands_now parts asks es t now le shows = record {
  lasts = omega (arith, now, le);
  within = omega (arith, now);
  cause = subst (λ (xs : List Entry). CauseStands parts asks xs t.at.0 t.cause) (sym (ap (λ (n : ℕ). take n es) now ∙ take_all (length es) es (omega arith))) shows;
}

-- A request that is being served is so in each boot that has grown.
pub serving_longer : (old new : BootValue) (asks : List Answer → Next) (s : TriesValue) → HasGrown old new → IsServing old asks s → IsServing new asks s
serving_longer old new asks s grown serving = record {
  few = serving.few;
  tries =
      let P : List Entry → Type 0 = λ es. AreTries old.start.deployment asks es 0 s.tries in
      let longer : AreTries old.start.deployment asks new.entries 0 s.tries = subst P (sym grown.entries) (tries_longer old.start.deployment asks old.entries grown.more 0 s.tries serving.tries) in
      rw grown.start longer;
  attempt = open_longer s.attempt serving.attempt;
}
  where
    open_longer : (o : Option AttemptValue) → (IfSome o (λ t. IsOpen old asks s t)) → IfSome o (λ t. IsOpen new asks s t)
    open_longer None h = tt
    open_longer (Some t) h = record { way = stays old new asks t grown h.way; request = h.request; after = h.after }

-- A request that was not begun is being served.
pub serves_unbegun : (boot : BootValue) (asks : List Answer → Next) (request : RequestNo) (worker : WorkerNo) (text : List ℕ) → IsServing boot asks (unbegun request worker text)
serves_unbegun boot asks request worker text = record { few = omega arith; tries = omega arith; attempt = tt }
