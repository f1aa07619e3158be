-- Rows that are the same in all that a run marked give an equal run.
use Rattle.std.proofs.Common.{◌≡◌, ℕ, zero, suc, ◌+◌, ◌||◌, Bool, true, false, cond, List, [], ◌∷◌, ◌++◌, Option, Some, None, refl, ap, sym, subst, ◌∙◌, arith}
use Rattle.std.specs.Prelude.{All}
use Rattle.std.proofs.lemmas.Grind.{common_steps}
use Rattle.std.proofs.lemmas.List.Elements.{All-nil, All-cons, All-head, All-tail}
use Rattle.crash_base.specs.declared.row_id.RowId.{RowId}
use Rattle.crash_base.specs.declared.rows.RowWrite.{RowWrite}
use Rattle.crash_base.specs.Rows.{put_all, row_in}
use Rattle.crash_base.proofs.IdOrder.{same_id-true}
use Rattle.deployment.specs.declared.parts.Parts.{Parts}
use Rattle.journal_model.specs.declared.entry.CommitEntry.{CommitEntry}
use Rattle.journal_model.specs.declared.entry.DoneText.{DoneText}
use Rattle.journal_model.specs.declared.entry.Entry.{Entry}
use Rattle.journal_model.specs.declared.entry.Mark.{Mark}
use Rattle.journal_model.specs.declared.entry.ReadMark.{ReadMark}
use Rattle.journal_model.specs.declared.entry.ReadMark.TheVariants.{Row, Table}
use Rattle.journal_model.specs.Calls.{is_put, same_mark, is_marked, marked_with, seen, listed}
use Rattle.journal_model.specs.Legal.{IsCurrent}
use Rattle.journal_model.specs.Rows.{rows_after}
use Rattle.journal_model.specs.Snapshots.{snapshot, table_rows, AgreeOn}
use Rattle.journal_model.proofs.Standing.{current_reads}
use Rattle.call_ticket.specs.declared.limits.TheConstants.{MAX_STEPS}
use Rattle.call_ticket.specs.declared.next.Answer.{Answer}
use Rattle.call_ticket.specs.declared.next.Answer.TheVariants as answer
use Rattle.call_ticket.specs.declared.next.Next.{Next}
use Rattle.call_ticket.specs.declared.next.Next.TheVariants as next
use Rattle.call_ticket.specs.Runs.{Running, Ran, not_run, keeps_rules, marks_after, after_step, resume, run, run_of, Makes}

-- both rows are the same in what was marked
abbrev Alike : List RowWrite → List RowWrite → Mark → Type 0
Alike rows others m = AgreeOn rows others m.read

same_mark-true : (a b : ReadMark) → same_mark a b ≡ true → a ≡ b
same_mark-true (Row a) (Row b) same = ap Row (same_id-true a b same)
same_mark-true (Table a) (Table b) same = let is : a ≡ b = grind (arith, common_steps) in ap Table is
same_mark-true (Row a) (Table b) same = absurd (cc)
same_mark-true (Table a) (Row b) same = absurd (cc)

-- what is marked already is the same as the other marks are
marked_alike : (rows others : List RowWrite) (read : ReadMark) (marks : List Mark) → is_marked marks read ≡ true → All (Alike rows others) marks → AgreeOn rows others read
marked_alike rows others read [] there all = absurd (cc)
marked_alike rows others read (x ∷ xs) there all = go (same_mark x.read read) refl there (λ any. marked_alike rows others read xs any (All-tail (Alike rows others) x xs all))
  where
    go : (b : Bool) → same_mark x.read read ≡ b → (b || is_marked xs read) ≡ true → (is_marked xs read ≡ true → AgreeOn rows others read) → AgreeOn rows others read
    go true is any later = let P : ReadMark → Type 0 = λ r. AgreeOn rows others r in subst P (same_mark-true x.read read is) (All-head (Alike rows others) x xs all)
    go false is any later = later any

all_but_last : {A : Type 0} (P : A → Type 0) (xs : List A) (x : A) → All P (xs ++ x ∷ []) → All P xs
all_but_last P [] x all = All-nil P
all_but_last P (y ∷ ys) x all = All-cons P y ys (All-head P y (ys ++ x ∷ []) all) (all_but_last P ys x (All-tail P y (ys ++ x ∷ []) all))

all_last : {A : Type 0} (P : A → Type 0) (xs : List A) (x : A) → All P (xs ++ x ∷ []) → P x
all_last P [] x all = All-head P x [] all
all_last P (y ∷ ys) x all = all_last P ys x (All-tail P y (ys ++ x ∷ []) all)

marked_with_alike : (rows others : List RowWrite) (read : ReadMark) (value : Option (List ℕ)) (marks : List Mark) → All (Alike rows others) (marked_with read value marks) → All (Alike rows others) marks × AgreeOn rows others read
marked_with_alike rows others read value marks = go (is_marked marks read) refl
  where
    go : (b : Bool) → is_marked marks read ≡ b → All (Alike rows others) (cond b marks (marks ++ record { read = read; value = value } ∷ [])) → All (Alike rows others) marks × AgreeOn rows others read
    go true is all = (all, marked_alike rows others read marks is all)
    go false is all = (all_but_last (Alike rows others) marks (record { read = read; value = value }) all, all_last (Alike rows others) marks (record { read = read; value = value }) all)

taken : {A : Type 0} (b : Bool) (x : Option A) (y : A) → cond b x None ≡ Some y → (b ≡ true) × (x ≡ Some y)
taken true x y is = (refl, is)
taken false x y is = absurd (cc)

given : {A : Type 0} (b : Bool) (x : Option A) (y : A) → b ≡ true → x ≡ Some y → cond b x None ≡ Some y
given b x y test is = ap (λ c. cond c x None) test ∙ is

-- a read of rows that are the same in what it marks
record ReadsAlike (rows others writes : List RowWrite) (id : RowId) (marks : List Mark) : Type 0 where
  before : All (Alike rows others) marks
  value : seen rows writes id ≡ seen others writes id
  after : marks_after rows writes id marks ≡ marks_after others writes id marks

reads_alike : (rows others writes : List RowWrite) (id : RowId) (marks : List Mark) → All (Alike rows others) (marks_after rows writes id marks) → ReadsAlike rows others writes id marks
reads_alike rows others writes id marks = go (is_put writes id) refl
  where
    go : (b : Bool) → is_put writes id ≡ b → All (Alike rows others) (cond b marks (marked_with (Row id) (row_in rows id) marks)) → ReadsAlike rows others writes id marks
    go true is all = record { before = all; value = rw is refl; after = rw is refl }
    go false is all =
        let two = marked_with_alike rows others (Row id) (row_in rows id) marks all in
        let same : row_in rows id ≡ row_in others id = two.1 in
        record { before = two.0; value = rw is same; after = rw is (ap (λ (v : Option (List ℕ)). marked_with (Row id) v marks) same) }

-- one step
pub step_alike : (parts : Parts) (rows others : List RowWrite) (s : Running) (ran : Ran) (go on : Running → Option Ran) (x : Next)
    → All (Alike rows others) ran.marks
    → ((t : Running) → go t ≡ Some ran → All (Alike rows others) t.marks × (on t ≡ Some ran))
    → resume parts rows s x go ≡ Some ran → All (Alike rows others) s.marks × (resume parts others s x on ≡ Some ran)
step_alike parts rows others s ran go on (next.Enter c m) all later is =
    let t : Running = after_step rows s (next.Enter c m) in
    let made = taken (keeps_rules parts s (next.Enter c m)) (go t) ran is in
    let rest = later t made.1 in
    (rest.0, given (keeps_rules parts s (next.Enter c m)) (on t) ran made.0 rest.1)
step_alike parts rows others s ran go on (next.Read id) all later is =
    let made = taken (keeps_rules parts s (next.Read id)) (go (after_step rows s (next.Read id))) ran is in
    let rest = later (after_step rows s (next.Read id)) made.1 in
    let r = reads_alike rows others s.writes id s.marks rest.0 in
    let t = λ (value : Option (List ℕ)) (marks : List Mark). let u : Running = record s { answers = s.answers ++ answer.Row value ∷ []; reads = s.reads + 1; marks = marks } in u in
    let same : after_step rows s (next.Read id) ≡ after_step others s (next.Read id) = ap (λ v. t v (marks_after rows s.writes id s.marks)) r.value ∙ ap (t (seen others s.writes id)) r.after in
    (r.before, given (keeps_rules parts s (next.Read id)) (on (after_step others s (next.Read id))) ran made.0 (ap on (sym same) ∙ rest.1))
step_alike parts rows others s ran go on (next.List n) all later is =
    let made = taken (keeps_rules parts s (next.List n)) (go (after_step rows s (next.List n))) ran is in
    let rest = later (after_step rows s (next.List n)) made.1 in
    let two = marked_with_alike rows others (Table n) None s.marks rest.0 in
    let table : table_rows n rows ≡ table_rows n others = two.1 in
    let same : listed rows s.writes n ≡ listed others s.writes n = ap (put_all (table_rows n s.writes)) table in
    let state : after_step rows s (next.List n) ≡ after_step others s (next.List n) = ap (λ (l : List RowWrite). let u : Running = record s { answers = s.answers ++ answer.Rows l ∷ []; reads = s.reads + 1; marks = marked_with (Table n) None s.marks } in u) same in
    (two.0, given (keeps_rules parts s (next.List n)) (on (after_step others s (next.List n))) ran made.0 (ap on (sym state) ∙ rest.1))
step_alike parts rows others s ran go on (next.Put w) all later is =
    let t : Running = after_step rows s (next.Put w) in
    let made = taken (keeps_rules parts s (next.Put w)) (go t) ran is in
    let rest = later t made.1 in
    (rest.0, given (keeps_rules parts s (next.Put w)) (on t) ran made.0 rest.1)
step_alike parts rows others s ran go on next.Exit all later is =
    let t : Running = after_step rows s next.Exit in
    let made = taken (keeps_rules parts s next.Exit) (go t) ran is in
    let rest = later t made.1 in
    (rest.0, given (keeps_rules parts s next.Exit) (on t) ran made.0 rest.1)
step_alike parts rows others s ran go on (next.Done d) all later is =
    let same : ran ≡ record { marks = s.marks; writes = s.writes; done = d } = cc in
    let P : Ran → Type 0 = λ r. All (Alike rows others) r.marks in
    (subst P same all, is)

runs_alike : (n : ℕ) (parts : Parts) (asks : List Answer → Next) (rows others : List RowWrite) (s : Running) (ran : Ran) → All (Alike rows others) ran.marks
    → run n parts asks rows s ≡ Some ran → All (Alike rows others) s.marks × (run n parts asks others s ≡ Some ran)
unfolding run
runs_alike zero parts asks rows others s ran all is = absurd (cc)
runs_alike (suc n) parts asks rows others s ran all is =
    step_alike parts rows others s ran (λ t. run n parts asks rows t) (λ t. run n parts asks others t) (asks s.answers) all (λ t. runs_alike n parts asks rows others t ran all) is

pub equal_run : (parts : Parts) (asks : List Answer → Next) (rows others : List RowWrite) (ran : Ran) → run_of parts asks rows ≡ Some ran → All (λ (m : Mark). AgreeOn rows others m.read) ran.marks → run_of parts asks others ≡ Some ran
unfolding run_of
equal_run parts asks rows others ran is all = (runs_alike (MAX_STEPS + 1) parts asks rows others not_run ran all is).1

pub serial : (parts : Parts) (asks : List Answer → Next) (base : List RowWrite) (es : List Entry) (e : CommitEntry) (done : DoneText) → IsCurrent base es e → Makes parts asks (snapshot base es e.at.0) e done → Makes parts asks (rows_after base es) e done
unfolding Makes
serial parts asks base es e done current made = equal_run parts asks (snapshot base es e.at.0) (rows_after base es) (record { marks = e.reads; writes = e.writes; done = done }) made (current_reads base es e current)
