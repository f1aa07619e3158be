-- Attempts that are under way.
use Rattle.std.proofs.Common.{◌≡◌, ◌⊎◌, ◌↔◌, ℕ, ◌&&◌, Bool, true, false, cond, List, [], ◌∷◌, ◌++◌, length, take, All, Option, None, inl, inr, refl, sym, ap, ◌∙◌, subst, arith, length-append}
use Rattle.std.proofs.lemmas.Bool.{cases_lt}
use Rattle.std.proofs.lemmas.List.{append-nil, take-append-le, take_at}
use Rattle.std.proofs.lemmas.List.Elements.{All-nil, All-push}
use Rattle.crash_base.specs.declared.numbers.ComponentNo.{ComponentNo}
use Rattle.crash_base.specs.declared.numbers.RequestNo.{RequestNo}
use Rattle.crash_base.specs.declared.numbers.WorkerNo.{WorkerNo}
use Rattle.crash_base.specs.declared.row_id.RowId.{RowId}
use Rattle.crash_base.specs.declared.rows.RowWrite.{RowWrite}
use Rattle.crash_base.specs.Rows.{row_in}
use Rattle.deployment.specs.declared.parts.Parts.{Parts}
use Rattle.deployment.specs.Groups.{group_of}
use Rattle.journal_model.specs.declared.entry.Entry.{Entry}
use Rattle.journal_model.specs.declared.entry.Mark.{Mark}
use Rattle.journal_model.specs.declared.entry.ReadMark.{ReadMark}
use Rattle.journal_model.specs.declared.entry.ReadMark.TheVariants as reads
use Rattle.journal_model.specs.declared.entry.Touch.{Touch}
use Rattle.journal_model.specs.Calls.{Call, is_touched, is_put, is_marked, marked_with, marks_read, touched_with}
use Rattle.journal_model.specs.Stale.{IsSince, new_touch}
use Rattle.journal_model.proofs.Writes.{all-with_write}
use Rattle.call_ticket.specs.declared.next.Answer.{Answer}
use Rattle.call_ticket.specs.declared.next.Next.{Next}
use Rattle.call_ticket.specs.declared.next.Next.TheVariants as next
use Rattle.call_ticket.specs.Following.{Follows, Begins, GoesOn, MakesStep}
use Rattle.call_ticket.specs.Repeated.{may_repeat}
use Rattle.call_ticket.specs.Ticket.{TicketValue}
use Rattle.boot_core.specs.Boot.{BootValue, HasGrown, with_entered}
use Rattle.boot_core.specs.declared.boot.Start.{Start}
use Rattle.boot_core.specs.Fits.{FitsIn}
use Rattle.boot_core.proofs.Fitting.{begins_fitting, fits_grown}
use Rattle.call_attempts.specs.Attempt.{Accesses, AttemptValue, Continues, EntersGroup, HasEnteredOnce, HasMade, HasStepped, IsUnderWay, answer_to, attempt_begun, boot_after, entered_by, entered_in, rows_at_begin, stepped, table_in, table_of, ticket_after, wanted}
use Rattle.call_attempts.specs.Stops.{stop_of}
use Rattle.call_attempts.specs.declared.attempt.Stepped.TheVariants.{Went}
use Rattle.call_attempts.specs.declared.steps.Made.TheVariants as make
use Rattle.call_attempts.proofs.Paths.{entered_more, entered_none}

-- what holds of each touch, and of the new one, holds of each after an enter
all_touched : (P : Touch → Type 0) (es : List Entry) (g : ℕ) (touched : List Touch) → All P touched → P (new_touch es g)
    → All P (touched_with es g touched)
all_touched P es g touched each new = go (is_touched touched g)
  where
    go : (b : Bool) → All P (cond b touched (touched ++ new_touch es g ∷ []))
    go true = each
    go false = All-push P touched (new_touch es g) each new

-- what holds of each mark, and of the new one, holds of each after a read
all_marked : (P : Mark → Type 0) (read : ReadMark) (value : Option (List ℕ)) (marks : List Mark) → All P marks
    → P (record { read = read; value = value }) → All P (marked_with read value marks)
all_marked P read value marks each new = go (is_marked marks read)
  where
    go : (b : Bool) → All P (cond b marks (marks ++ record { read = read; value = value } ∷ []))
    go true = each
    go false = All-push P marks (record { read = read; value = value }) each new

all_read : (P : Mark → Type 0) (rows : List RowWrite) (id : RowId) (call : Call) → All P call.marks
    → P (record { read = reads.Row id; value = row_in rows id }) → All P (marks_read rows id call)
all_read P rows id call each new = go (is_put call.writes id)
  where
    go : (b : Bool) → All P (cond b call.marks (marked_with (reads.Row id) (row_in rows id) call.marks))
    go true = each
    go false = all_marked P (reads.Row id) (row_in rows id) call.marks each new

-- what was entered once is among one answer more
once_longer : (parts : Parts) (asks : List Answer → Next) (answers : List Answer) (a : Answer) → HasEnteredOnce parts asks answers
    → HasEnteredOnce parts asks (answers ++ a ∷ [])
once_longer parts asks answers a h =
    let within = h.answered in
    let same : take h.before (answers ++ a ∷ []) ≡ take h.before answers = take-append-le h.before answers (a ∷ []) (omega (arith, within)) in
    record {
      before = h.before;
      answered = omega (arith, within, length-append answers (a ∷ []));
      once = ap (λ (given : List Answer). may_repeat parts (asks given)) same ∙ h.once;
    }

once_now : (parts : Parts) (asks : List Answer → Next) (answers : List Answer) (a : Answer) → may_repeat parts (asks answers) ≡ false
    → HasEnteredOnce parts asks (answers ++ a ∷ [])
once_now parts asks answers a is = record {
  before = length answers;
  answered = omega (arith, length-append answers (a ∷ []));
  once = ap (λ (given : List Answer). may_repeat parts (asks given)) (take_at answers (a ∷ []) (length answers) refl) ∙ is;
}

-- and it was before, or is the last step
once_before : (parts : Parts) (asks : List Answer → Next) (answers : List Answer) (a : Answer) → HasEnteredOnce parts asks (answers ++ a ∷ [])
    → HasEnteredOnce parts asks answers ⊎ (may_repeat parts (asks answers) ≡ false)
once_before parts asks answers a h =
    let within = h.answered in
    elim (cases_lt h.before (length answers)) [
      | inl lt ↦ let same : take h.before (answers ++ a ∷ []) ≡ take h.before answers = take-append-le h.before answers (a ∷ []) (omega (arith, lt)) in
          inl (record { before = h.before; answered = lt; once = sym (ap (λ (given : List Answer). may_repeat parts (asks given)) same) ∙ h.once })
      | inr ge ↦ let last : length answers ≡ h.before = omega (arith, ge, within, length-append answers (a ∷ [])) in
          inr (sym (ap (λ (given : List Answer). may_repeat parts (asks given)) (take_at answers (a ∷ []) h.before last)) ∙ h.once)
    ]

-- whether all steps may be made again, by one step more
once_more : (parts : Parts) (asks : List Answer → Next) (answers : List Answer) (a : Answer) (repeats : Bool) → ((repeats ≡ false) ↔ HasEnteredOnce parts asks answers)
    → (repeats && may_repeat parts (asks answers) ≡ false) ↔ HasEnteredOnce parts asks (answers ++ a ∷ [])
once_more parts asks answers a true was =
    (λ is. once_now parts asks answers a is, λ h. elim (once_before parts asks answers a h) [ inl earlier ↦ absurd (let e = was.1 earlier in cc) | inr now ↦ now ])
once_more parts asks answers a false was = (λ is. once_longer parts asks answers a (was.0 refl), λ h. refl)

-- a step that was made
made : (boot : BootValue) (asks : List Answer → Next) (a : AttemptValue) (x : Next) → wanted asks a ≡ x → Continues x
    → MakesStep (rows_at_begin boot a.ticket.call) a.ticket.call x (answer_to (rows_at_begin boot a.ticket.call) a.ticket.call x) (ticket_after boot a.ticket x).call
made boot asks a (next.Enter c m) e on = (refl, (boot.entries, group_of boot.start.deployment c.0, refl))
made boot asks a (next.Read id) e on = (refl, refl)
made boot asks a (next.List table) e on = (refl, refl)
made boot asks a (next.Put w) e on = (refl, refl)
made boot asks a next.Exit e on = (refl, refl)
made boot asks a (next.Done d) e on = absurd on

-- the call of an attempt begins where it began
pub same_begin : (boot : BootValue) (t : TicketValue) (x : Next) → (ticket_after boot t x).call.at ≡ t.call.at
same_begin boot t (next.Enter c m) = refl
same_begin boot t (next.Read id) = refl
same_begin boot t (next.List table) = refl
same_begin boot t (next.Put w) = refl
same_begin boot t next.Exit = refl
same_begin boot t (next.Done d) = refl

-- and is of the same request
pub same_request : (boot : BootValue) (t : TicketValue) (x : Next) → (ticket_after boot t x).call.request ≡ t.call.request
same_request boot t (next.Enter c m) = refl
same_request boot t (next.Read id) = refl
same_request boot t (next.List table) = refl
same_request boot t (next.Put w) = refl
same_request boot t next.Exit = refl
same_request boot t (next.Done d) = refl

-- An attempt that is under way stays so by the step that it asks for.
pub goes_on : (boot : BootValue) (asks : List Answer → Next) (a : AttemptValue) (x : Next) → IsUnderWay boot asks a → wanted asks a ≡ x
    → Continues x → FitsIn boot (stepped boot a x).ticket.call → IsUnderWay boot asks (stepped boot a x)
goes_on boot asks a x way e on fits = record {
  fits = fits;
  follows =
      let step : MakesStep rows a.ticket.call (asks a.answers) given (ticket_after boot a.ticket x).call = rw e (made boot asks a x e on) in
      follows (GoesOn a.answers a.ticket.call (ticket_after boot a.ticket x).call given way.follows step);
  since = since x;
  groups = groups x e;
  marks = marks x e;
  writes = writes x e;
  once = subst (λ (y : Next). (a.repeats && may_repeat boot.start.deployment y ≡ false) ↔ HasEnteredOnce boot.start.deployment asks (a.answers ++ given ∷ [])) e
      (once_more boot.start.deployment asks a.answers given a.repeats way.once);
  entered = ap (λ (path : List ComponentNo). path ++ entered_in x) way.entered
      ∙ ap (λ (y : Next). entered_by asks a.answers ++ entered_in y) (sym e)
      ∙ sym (entered_more asks a.answers given);
}
  where
    rows : List RowWrite
    rows = rows_at_begin boot a.ticket.call

    given : Answer
    given = answer_to rows a.ticket.call x

    follows : Follows asks rows (a.answers ++ given ∷ []) (ticket_after boot a.ticket x).call
        → Follows asks (rows_at_begin boot (ticket_after boot a.ticket x).call) (a.answers ++ given ∷ []) (ticket_after boot a.ticket x).call
    follows it = rw (same_begin boot a.ticket x) it

    since : (y : Next) → All (IsSince (ticket_after boot a.ticket y).call.at.0) (ticket_after boot a.ticket y).call.touched
    since (next.Enter c m) = all_touched (IsSince a.ticket.call.at.0) boot.entries (group_of boot.start.deployment c.0) a.ticket.call.touched way.since way.fits.journal.at
    since (next.Read id) = way.since
    since (next.List table) = way.since
    since (next.Put w) = way.since
    since next.Exit = way.since
    since (next.Done d) = way.since

    groups : (y : Next) → wanted asks a ≡ y → All (λ (t : Touch). EntersGroup boot.start.deployment asks t.group) (ticket_after boot a.ticket y).call.touched
    groups (next.Enter c m) is = all_touched (λ (t : Touch). EntersGroup boot.start.deployment asks t.group) boot.entries (group_of boot.start.deployment c.0) a.ticket.call.touched way.groups
        (record { answers = a.answers; component = c; method = m; asked = is; group_is = refl })
    groups (next.Read id) is = way.groups
    groups (next.List table) is = way.groups
    groups (next.Put w) is = way.groups
    groups next.Exit is = way.groups
    groups (next.Done d) is = way.groups

    marks : (y : Next) → wanted asks a ≡ y → All (λ (m : Mark). Accesses asks (table_in m.read)) (ticket_after boot a.ticket y).call.marks
    marks (next.Enter c m) is = way.marks
    marks (next.Read id) is = all_read (λ (m : Mark). Accesses asks (table_in m.read)) rows id a.ticket.call way.marks (record { answers = a.answers; access = ap table_of is })
    marks (next.List table) is = all_marked (λ (m : Mark). Accesses asks (table_in m.read)) (reads.Table table) None a.ticket.call.marks way.marks (record { answers = a.answers; access = ap table_of is })
    marks (next.Put w) is = way.marks
    marks next.Exit is = way.marks
    marks (next.Done d) is = way.marks

    writes : (y : Next) → wanted asks a ≡ y → All (λ (w : RowWrite). Accesses asks w.id.table) (ticket_after boot a.ticket y).call.writes
    writes (next.Enter c m) is = way.writes
    writes (next.Read id) is = way.writes
    writes (next.List table) is = way.writes
    writes (next.Put w) is = all-with_write (λ (v : RowWrite). Accesses asks v.id.table) a.ticket.call.writes w (record { answers = a.answers; access = ap table_of is }) way.writes
    writes next.Exit is = way.writes
    writes (next.Done d) is = way.writes

-- An attempt that has done nothing yet is under way.
pub begins : (boot : BootValue) (asks : List Answer → Next) (request : RequestNo) (worker : WorkerNo)
    → IsUnderWay boot asks (attempt_begun request worker (record { 0 = length boot.entries }))
begins boot asks request worker = record {
  fits = begins_fitting boot request worker;
  follows = Begins request worker (record { 0 = length boot.entries });
  since = All-nil (IsSince (length boot.entries));
  groups = All-nil (λ (t : Touch). EntersGroup boot.start.deployment asks t.group);
  marks = All-nil (λ (m : Mark). Accesses asks (table_in m.read));
  writes = All-nil (λ (w : RowWrite). Accesses asks w.id.table);
  once = (λ e. absurd (cc), λ h. let none = h.answered in absurd (omega (arith, none)));
  entered = entered_none asks;
}

-- An attempt that is under way stays so, whatever else enters the journal.
pub stays : (old new : BootValue) (asks : List Answer → Next) (a : AttemptValue) → HasGrown old new → IsUnderWay old asks a → IsUnderWay new asks a
stays old new asks a grown way =
    let longer : IsUnderWay (record { start = old.start; entries = old.entries ++ grown.more; entered = new.entered }) asks a = record {
      fits = fits_grown old (record { start = old.start; entries = old.entries ++ grown.more; entered = new.entered }) a.ticket.call (record { start = refl; more = grown.more; entries = refl }) way.fits;
      follows = rw (take-append-le a.ticket.call.at.0 old.entries grown.more way.fits.journal.at) way.follows;
      since = way.since;
      groups = way.groups;
      marks = way.marks;
      writes = way.writes;
      once = way.once;
      entered = way.entered;
    } in
    let P : List Entry → Type 0 = λ es. IsUnderWay (record { start = old.start; entries = es; entered = new.entered }) asks a in
    let Q : Start → Type 0 = λ start. IsUnderWay (record { start = start; entries = new.entries; entered = new.entered }) asks a in
    subst Q (sym grown.start) (subst P (sym grown.entries) longer)

-- A step changes of a boot at most how often a component was entered.
pub boot_grows : (boot : BootValue) (x : Next) → HasGrown boot (boot_after boot x)
boot_grows boot (next.Enter c m) = record { start = refl; more = []; entries = sym (append-nil boot.entries) }
boot_grows boot (next.Read id) = record { start = refl; more = []; entries = sym (append-nil boot.entries) }
boot_grows boot (next.List table) = record { start = refl; more = []; entries = sym (append-nil boot.entries) }
boot_grows boot (next.Put w) = record { start = refl; more = []; entries = sym (append-nil boot.entries) }
boot_grows boot next.Exit = record { start = refl; more = []; entries = sym (append-nil boot.entries) }
boot_grows boot (next.Done d) = record { start = refl; more = []; entries = sym (append-nil boot.entries) }

-- So a call that fits the boot after it fits the one before.
fits_before : (boot : BootValue) (x : Next) (call : Call) → FitsIn (boot_after boot x) call → FitsIn boot call
fits_before boot (next.Enter c m) call fits =
    fits_grown (with_entered boot c) boot call (record { start = refl; more = []; entries = sym (append-nil boot.entries) }) fits
fits_before boot (next.Read id) call fits = fits
fits_before boot (next.List table) call fits = fits
fits_before boot (next.Put w) call fits = fits
fits_before boot next.Exit call fits = fits
fits_before boot (next.Done d) call fits = fits

-- the value of an attempt, by its fields
abbrev pub fields : TicketValue → List Answer → Bool → List ComponentNo → AttemptValue
fields ticket answers repeats entered =
    record { ticket = ticket; answers = answers; repeats = repeats; entered = entered }

-- A step that was answered.
pub answered : (boot : BootValue) (asks : List Answer → Next) (old : AttemptValue) (t0 : TicketValue) (a0 : List Answer) (r0 : Bool) (e0 : List ComponentNo) → fields t0 a0 r0 e0 ≡ old
    → (x : Next) (a : Answer) (ticket : TicketValue) (answers : List Answer) (repeats : Bool) (entered : List ComponentNo) → IsUnderWay boot asks old → x ≡ asks a0
    → HasMade boot t0 x (make.Answered a) ticket → FitsIn (boot_after boot x) ticket.call → answers ≡ a0 ++ a ∷ [] → repeats ≡ r0 && may_repeat boot.start.deployment x → entered ≡ e0 ++ entered_in x
    → HasStepped boot asks old Went (fields ticket answers repeats entered) × IsUnderWay (boot_after boot x) asks (fields ticket answers repeats entered)
answered boot asks old t0 a0 r0 e0 view x a ticket answers repeats entered way is made_so fits more flag path =
    subst (λ (o : AttemptValue). HasStepped boot asks o Went after × IsUnderWay (boot_after boot x) asks after) view
    (stepping, stays boot (boot_after boot x) asks after (boot_grows boot x) going)
  where
    was : AttemptValue
    was = fields t0 a0 r0 e0

    after : AttemptValue
    after = fields ticket answers repeats entered

    same : after ≡ stepped boot was x
    same = rw (made_so.3, more, flag, path, made_so.2) refl

    stepping : HasStepped boot asks was Went after
    stepping = subst (λ (y : Next). Continues y × (stop_of boot t0.call y ≡ None) × (after ≡ stepped boot was y)) is (made_so.0, made_so.1, same)

    going : IsUnderWay boot asks after
    going = subst (λ (t : AttemptValue). IsUnderWay boot asks t) (sym same)
        (goes_on boot asks was x (subst (λ (o : AttemptValue). IsUnderWay boot asks o) (sym view) way) (sym is) made_so.0 (subst (λ (t : TicketValue). FitsIn boot t.call) made_so.3 (fits_before boot x ticket.call fits)))
