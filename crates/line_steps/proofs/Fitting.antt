-- Callers whose live calls fit the boot.
use Rattle.std.proofs.Common.{◌≡◌, ℕ, ◌+◌, ◌-◌, ◌<◌, ◌≤◌, inl, inr, List, [], ◌∷◌, ◌++◌, suc, length, refl, subst, sym, ap, ◌∙◌, arith, append-nil, length-append}
use Rattle.std.specs.Prelude.{replicate, slice_set}
use Rattle.std.proofs.lemmas.Bool.{cases_lt}
use Rattle.std.proofs.lemmas.List.{append_assoc, get_or_past, length-replicate}
use Rattle.std.proofs.lemmas.List.Elements.{All-append, All-replicate, All-set, All-weaker}
use Rattle.journal_model.specs.declared.entry.Entry.{Entry}
use Rattle.call_ticket.specs.Ticket.{TicketValue}
use Rattle.boot_core.specs.Boot.{BootValue, with_entry, HasGrown, HasOnlyEntered}
use Rattle.boot_core.specs.Fits.{FitsIn}
use Rattle.boot_core.proofs.Fitting.{fits_grown}
use Rattle.line_steps.specs.declared.callers.Caller.{Caller}
use Rattle.line_steps.specs.declared.callers.Caller.TheVariants.{Absent, Live}
use Rattle.line_steps.specs.Callers.{caller_at, padded, ended, AllFit, FitsCaller}

pub fit_set : (b : BootValue) (callers : List Caller) (n : ℕ) (x : Caller) → FitsCaller b x → AllFit b callers → AllFit b (slice_set callers n x)
fit_set b callers n x fits all = All-set (FitsCaller b) callers n x fits all

pub fit_padded : (b : BootValue) (callers : List Caller) (n : ℕ) → AllFit b callers → AllFit b (padded callers n)
fit_padded b callers n all = All-append (FitsCaller b) callers (replicate (n + 1 - length callers) Absent) all (All-replicate (FitsCaller b) (n + 1 - length callers) Absent tt)

-- there is a place for the number up to which places were made
pub padded_holds : (callers now : List Caller) (n : ℕ) → now ≡ padded callers n → n < length now
padded_holds callers now n made =
    let rest : List Caller = replicate (n + 1 - length callers) Absent in
    let count : length rest ≡ n + 1 - length callers = length-replicate (n + 1 - length callers) Absent in
    let P : List Caller → Type 0 = λ cs. n < length cs in
    subst P (sym made) (omega (arith, length-append callers rest, count))

pub fit_more : (b : BootValue) (callers : List Caller) → AllFit b callers → AllFit b (callers ++ Absent ∷ [])
fit_more b callers all = All-append (FitsCaller b) callers (replicate 1 Absent) all (All-replicate (FitsCaller b) 1 Absent tt)

pub fit_at : (b : BootValue) (callers : List Caller) (n : ℕ) → AllFit b callers → FitsCaller b (caller_at callers n)
fit_at b callers n all = elim (cases_lt n (length callers)) [
  | inl within ↦ all n Absent within
  | inr past ↦ (let P : Caller → Type 0 = λ x. FitsCaller b x in subst P (sym (get_or_past callers n Absent past)) tt)
]

-- a place for the next number changes nothing of the callers with a place for each
pub padded_more : (callers : List Caller) (n : ℕ) → length callers ≤ n → padded (callers ++ Absent ∷ []) n ≡ padded callers n
padded_more callers n below =
    let rest : ℕ → List Caller = λ k. replicate k Absent in
    let now : n + 1 - length (callers ++ Absent ∷ []) ≡ n - length callers = omega (arith, length-append callers (Absent ∷ []), below) in
    let before : suc (n - length callers) ≡ n + 1 - length callers = omega (arith, below) in
    ap (λ k. (callers ++ Absent ∷ []) ++ rest k) now ∙ append_assoc callers (Absent ∷ []) (rest (n - length callers)) ∙ ap (λ k. callers ++ rest k) before

-- the callers fit once one of them has a call that fits
pub fit_put : (b : BootValue) (callers : List Caller) (n : ℕ) (ticket : TicketValue) → FitsIn b ticket.call → AllFit b callers → AllFit b (slice_set callers n (Live ticket))
fit_put b callers n ticket fits all = fit_set b callers n (Live ticket) fits all

-- the calls of callers go on fitting a boot that grows
pub fit_meanwhile : (old new : BootValue) (callers : List Caller) → HasGrown old new → AllFit old callers → AllFit new callers
fit_meanwhile old new callers grown all = All-weaker (FitsCaller old) (FitsCaller new) (λ x. go x) callers all
  where
    go : (x : Caller) → FitsCaller old x → FitsCaller new x
    go Absent fits = tt
    go (Live ticket) fits = fits_grown old new ticket.call grown fits

-- and so they do when one of them has ended
pub fit_ended : (old new : BootValue) (callers left : List Caller) (n : ℕ) → left ≡ ended callers n → HasGrown old new → AllFit old callers → AllFit new left
fit_ended old new callers left n is grown all =
    let P : List Caller → Type 0 = λ cs. AllFit old cs in
    fit_meanwhile old new left grown (subst P (sym is) (fit_set old callers n Absent tt all))

-- a boot grows by an entry
pub grown_entry : (b : BootValue) (e : Entry) → HasGrown b (with_entry b e)
grown_entry b e = record { start = refl; more = e ∷ []; entries = refl }

-- a boot grows by nothing where only components are entered
pub grown_entered : (old new : BootValue) → HasOnlyEntered old new → HasGrown old new
grown_entered old new is = record {
  start = ap (λ (b : BootValue). b.start) is;
  more = [];
  entries = ap (λ (b : BootValue). b.entries) is ∙ sym (append-nil old.entries);
}

-- and they go on fitting one with an entry more
pub fit_after : (b : BootValue) (e : Entry) (callers : List Caller) → AllFit b callers → AllFit (with_entry b e) callers
fit_after b e callers all = fit_meanwhile b (with_entry b e) callers (grown_entry b e) all
