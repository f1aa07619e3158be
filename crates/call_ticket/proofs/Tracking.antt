-- A call that follows its program is where the run of the program comes to.
use Rattle.std.proofs.Common.{◌≡◌, ◌≢◌, ℕ, zero, suc, ◌+◌, ◌-◌, ◌<◌, ◌≤◌, ◌==◌, ◌&&◌, nat_lt, nat_le, not, Bool, true, false, cond, List, [], ◌∷◌, ◌++◌, length, Option, Some, None, refl, ap, sym, subst, ◌∙◌, arith, length-append}
use Rattle.std.specs.Prelude.{IsSome}
use Rattle.std.proofs.lemmas.Bool.Decides.{nat_tests}
use Rattle.crash_base.specs.declared.numbers.ComponentNo.{ComponentNo}
use Rattle.crash_base.specs.declared.numbers.Place.{Place}
use Rattle.crash_base.specs.declared.numbers.RequestNo.{RequestNo}
use Rattle.crash_base.specs.declared.numbers.WorkerNo.{WorkerNo}
use Rattle.crash_base.specs.declared.row_id.RowId.{RowId}
use Rattle.crash_base.specs.declared.row_id.TheConstants.{SERVICE_TABLE}
use Rattle.crash_base.specs.declared.rows.RowWrite.{RowWrite}
use Rattle.crash_base.specs.declared.rows.TheConstants.{MAX_ROW_BYTES}
use Rattle.crash_base.specs.RowId.{same_id}
use Rattle.crash_base.specs.Rows.{row_in}
use Rattle.deployment.specs.declared.parts.Parts.{Parts}
use Rattle.journal_model.specs.declared.entry.DoneText.{DoneText}
use Rattle.journal_model.specs.declared.entry.Entry.{Entry}
use Rattle.journal_model.specs.declared.entry.Mark.{Mark}
use Rattle.journal_model.specs.declared.entry.ReadMark.{ReadMark}
use Rattle.journal_model.specs.declared.entry.ReadMark.TheVariants.{Row, Table}
use Rattle.journal_model.specs.Calls.{Call, begun, entered, left, kept, is_put, is_marked, marked_with, with_write, seen, listed, marks_read, has_read, has_listed}
use Rattle.journal_model.specs.Fits.{IsWrite}
use Rattle.call_ticket.specs.declared.limits.TheConstants.{MAX_FRAMES, MAX_STEPS, MAX_MARKS, MAX_WRITES}
use Rattle.call_ticket.specs.declared.next.Answer.{Answer}
use Rattle.call_ticket.specs.declared.next.Answer.TheVariants as answer
use Rattle.call_ticket.specs.declared.next.Next.{Next}
use Rattle.call_ticket.specs.declared.next.Next.TheVariants as next
use Rattle.call_ticket.specs.Access.{last_frame, may_enter_from, is_inside}
use Rattle.call_ticket.specs.Following.{MakesStep, MayMake, Follows, Begins, GoesOn}
use Rattle.call_ticket.specs.Runs.{Running, Ran, is_write, keeps_rules, resume, run, run_of}
use Rattle.call_ticket.proofs.MoreSteps.{run_step}

-- the run between two steps at which a call is
abbrev at : List Answer → ℕ → ℕ → Call → Running
at answers reads puts call = record { answers = answers; frames = call.frames; reads = reads; puts = puts; marks = call.marks; writes = call.writes }

-- the run of the program is the one from where the call is
record Tracks (parts : Parts) (asks : List Answer → Next) (rows : List RowWrite) (answers : List Answer) (call : Call) : Type 0 where
  reads : ℕ
  puts : ℕ
  marked : length call.marks ≤ reads
  put : length call.writes ≤ puts
  steps : call.steps ≤ MAX_STEPS
  here : run_of parts asks rows ≡ run ((MAX_STEPS + 1) - call.steps) parts asks rows (at answers reads puts call)

tracks_begun : (parts : Parts) (asks : List Answer → Next) (rows : List RowWrite) (request : RequestNo) (worker : WorkerNo) (place : Place) → Tracks parts asks rows [] (begun request worker place)
unfolding run_of
tracks_begun parts asks rows request worker place = record { reads = 0; puts = 0; marked = omega arith; put = omega arith; steps = omega arith; here = refl }

some_fuel : (n : ℕ) (parts : Parts) (asks : List Answer → Next) (rows : List RowWrite) (s : Running) → IsSome (run n parts asks rows s) → 0 < n
unfolding run
some_fuel zero parts asks rows s some = absurd (cc)
some_fuel (suc n) parts asks rows s some = omega arith

chosen : {A : Type 0} (b : Bool) (x : Option A) → IsSome (cond b x None) → (b ≡ true) × IsSome x
chosen true x some = (refl, some)
chosen false x some = absurd (cc)

-- a step that was made kept the rules, was not one too many, and is tracked
record Made (parts : Parts) (asks : List Answer → Next) (rows : List RowWrite) (answers : List Answer) (call after : Call) (kept_rules : Bool) : Type 0 where
  test : kept_rules ≡ true
  steps : call.steps < MAX_STEPS
  tracks : Tracks parts asks rows answers after

make : (parts : Parts) (asks : List Answer → Next) (rows : List RowWrite) (answers more : List Answer) (call after : Call) (x : Next) (b : Bool) (r p : ℕ) → IsSome (run_of parts asks rows) → (f : Tracks parts asks rows answers call) → asks answers ≡ x
    → resume parts rows (at answers f.reads f.puts call) x (λ t. run (MAX_STEPS - call.steps) parts asks rows t) ≡ cond b (run (MAX_STEPS - call.steps) parts asks rows (at more r p after)) None
    → after.steps ≡ call.steps + 1 → length after.marks ≤ r → length after.writes ≤ p → Made parts asks rows more call after b
make parts asks rows answers more call after x b r p some f asked step count marked put =
    let within = f.steps in
    let fuel : (MAX_STEPS + 1) - call.steps ≡ suc (MAX_STEPS - call.steps) = omega (arith, within) in
    let made : run_of parts asks rows ≡ cond b (run (MAX_STEPS - call.steps) parts asks rows (at more r p after)) None =
    f.here ∙ ap (λ n. run n parts asks rows (at answers f.reads f.puts call)) fuel
    ∙ run_step (MAX_STEPS - call.steps) parts asks rows (at answers f.reads f.puts call) x asked ∙ step in
    let P : Option Ran → Type 0 = λ o. IsSome o in
    let two = chosen b (run (MAX_STEPS - call.steps) parts asks rows (at more r p after)) (subst P made some) in
    let free = some_fuel (MAX_STEPS - call.steps) parts asks rows (at more r p after) two.1 in
    let low : call.steps < MAX_STEPS = omega (arith, free) in
    let rest : MAX_STEPS - call.steps ≡ (MAX_STEPS + 1) - after.steps = omega (arith, count) in
    record {
      test = two.0;
      steps = low;
      tracks = record {
        reads = r;
        puts = p;
        marked = marked;
        put = put;
        steps = omega (arith, low, count);
        here = made ∙ ap (λ c. cond c (run (MAX_STEPS - call.steps) parts asks rows (at more r p after)) None) two.0 ∙ ap (λ n. run n parts asks rows (at more r p after)) rest;
      };
    }

marked_with_few : (read : ReadMark) (value : Option (List ℕ)) (marks : List Mark) → length (marked_with read value marks) ≤ length marks + 1
marked_with_few read value marks = go (is_marked marks read)
  where
    go : (b : Bool) → length (cond b marks (marks ++ record { read = read; value = value } ∷ [])) ≤ length marks + 1
    go true = omega arith
    go false = let m : Mark = record { read = read; value = value } in omega (arith, length-append marks (m ∷ []))

marks_read_few : (rows : List RowWrite) (id : RowId) (call : Call) → length (marks_read rows id call) ≤ length call.marks + 1
marks_read_few rows id call = go (is_put call.writes id)
  where
    go : (b : Bool) → length (cond b call.marks (marked_with (Row id) (row_in rows id) call.marks)) ≤ length call.marks + 1
    go true = omega arith
    go false = marked_with_few (Row id) (row_in rows id) call.marks

with_write_few : (ws : List RowWrite) (w : RowWrite) → length (with_write ws w) ≤ length ws + 1
with_write_few [] w = omega arith
with_write_few (x ∷ xs) w = go (same_id x.id w.id) (with_write_few xs w)
  where
    go : (b : Bool) → length (with_write xs w) ≤ length xs + 1 → length (cond b (w ∷ xs) (x ∷ with_write xs w)) ≤ suc (length xs) + 1
    go true few = omega arith
    go false few = omega (arith, few)

make_enter : (parts : Parts) (asks : List Answer → Next) (rows : List RowWrite) (answers : List Answer) (call : Call) (c : ComponentNo) (m : ℕ) (es : List Entry) (g : ℕ) → IsSome (run_of parts asks rows) → (f : Tracks parts asks rows answers call) → asks answers ≡ next.Enter c m
    → Made parts asks rows (answers ++ answer.Entered ∷ []) call (entered es g c call) (keeps_rules parts (at answers f.reads f.puts call) (next.Enter c m))
make_enter parts asks rows answers call c m es g some f asked =
    make parts asks rows answers (answers ++ answer.Entered ∷ []) call (entered es g c call) (next.Enter c m) (keeps_rules parts (at answers f.reads f.puts call) (next.Enter c m)) f.reads f.puts some f asked refl refl f.marked f.put

make_read : (parts : Parts) (asks : List Answer → Next) (rows : List RowWrite) (answers : List Answer) (call : Call) (id : RowId) → IsSome (run_of parts asks rows) → (f : Tracks parts asks rows answers call) → asks answers ≡ next.Read id
    → Made parts asks rows (answers ++ answer.Row (seen rows call.writes id) ∷ []) call (has_read rows id call) (keeps_rules parts (at answers f.reads f.puts call) (next.Read id))
make_read parts asks rows answers call id some f asked =
    let few = f.marked in
    make parts asks rows answers (answers ++ answer.Row (seen rows call.writes id) ∷ []) call (has_read rows id call) (next.Read id) (keeps_rules parts (at answers f.reads f.puts call) (next.Read id)) (f.reads + 1) f.puts some f asked refl refl
    (omega (arith, marks_read_few rows id call, few)) f.put

make_list : (parts : Parts) (asks : List Answer → Next) (rows : List RowWrite) (answers : List Answer) (call : Call) (t : ℕ) → IsSome (run_of parts asks rows) → (f : Tracks parts asks rows answers call) → asks answers ≡ next.List t
    → Made parts asks rows (answers ++ answer.Rows (listed rows call.writes t) ∷ []) call (has_listed t call) (keeps_rules parts (at answers f.reads f.puts call) (next.List t))
make_list parts asks rows answers call t some f asked =
    let few = f.marked in
    make parts asks rows answers (answers ++ answer.Rows (listed rows call.writes t) ∷ []) call (has_listed t call) (next.List t) (keeps_rules parts (at answers f.reads f.puts call) (next.List t)) (f.reads + 1) f.puts some f asked refl refl
    (omega (arith, marked_with_few (Table t) None call.marks, few)) f.put

make_put : (parts : Parts) (asks : List Answer → Next) (rows : List RowWrite) (answers : List Answer) (call : Call) (w : RowWrite) → IsSome (run_of parts asks rows) → (f : Tracks parts asks rows answers call) → asks answers ≡ next.Put w
    → Made parts asks rows (answers ++ answer.Kept ∷ []) call (kept w call) (keeps_rules parts (at answers f.reads f.puts call) (next.Put w))
make_put parts asks rows answers call w some f asked =
    let few = f.put in
    make parts asks rows answers (answers ++ answer.Kept ∷ []) call (kept w call) (next.Put w) (keeps_rules parts (at answers f.reads f.puts call) (next.Put w)) f.reads (f.puts + 1) some f asked refl refl f.marked
    (omega (arith, with_write_few call.writes w, few))

make_exit : (parts : Parts) (asks : List Answer → Next) (rows : List RowWrite) (answers : List Answer) (call : Call) → IsSome (run_of parts asks rows) → (f : Tracks parts asks rows answers call) → asks answers ≡ next.Exit
    → Made parts asks rows (answers ++ answer.Left ∷ []) call (left call) (keeps_rules parts (at answers f.reads f.puts call) next.Exit)
make_exit parts asks rows answers call some f asked =
    make parts asks rows answers (answers ++ answer.Left ∷ []) call (left call) next.Exit (keeps_rules parts (at answers f.reads f.puts call) next.Exit) f.reads f.puts some f asked refl refl f.marked f.put

both : (a b : Bool) → (a && b) ≡ true → (a ≡ true) × (b ≡ true)
both true b is = (refl, is)
both false b is = absurd (cc)

below : (n m : ℕ) → nat_lt n m ≡ true → n < m
below n m is = grind (arith, nat_tests)

within : (n m : ℕ) → nat_le n m ≡ true → n ≤ m
within n m is = grind (arith, nat_tests)

other : (n m : ℕ) → not (n == m) ≡ true → n ≢ m
other n m is same = grind (arith, nat_tests)

is_a_write : (w : RowWrite) → is_write w ≡ true → IsWrite w
is_a_write w is =
    let two = both (not (w.id.table == SERVICE_TABLE)) (nat_le (length w.bytes) MAX_ROW_BYTES) is in
    record { own = other w.id.table SERVICE_TABLE two.0; short = within (length w.bytes) MAX_ROW_BYTES two.1 }

are_open : (frames : List ComponentNo) → nat_lt 0 (length frames) ≡ true → frames ≢ []
are_open frames some none = let P : List ComponentNo → Type 0 = λ fs. nat_lt 0 (length fs) ≡ true in let bad = subst P none some in absurd (cc)

-- the step that is asked for may be made
may_step : (parts : Parts) (asks : List Answer → Next) (rows : List RowWrite) (answers : List Answer) (call : Call) (x : Next) → IsSome (run_of parts asks rows) → Tracks parts asks rows answers call → asks answers ≡ x → MayMake parts call x
may_step parts asks rows answers call (next.Enter c m) some f asked =
    let made = make_enter parts asks rows answers call c m [] 0 some f asked in
    let known : Bool = nat_lt c.0 (length parts.components) in
    let from : Bool = may_enter_from parts (last_frame call.frames) c in
    let two = both (known && from) (nat_lt (length call.frames) MAX_FRAMES) made.test in
    let one = both known from two.0 in
    (below c.0 (length parts.components) one.0, one.1, below (length call.frames) MAX_FRAMES two.1, made.steps)
may_step parts asks rows answers call (next.Read id) some f asked =
    let made = make_read parts asks rows answers call id some f asked in
    let two = both (is_inside parts call.frames id.table) (nat_lt f.reads MAX_MARKS) made.test in
    let low = below f.reads MAX_MARKS two.1 in
    let few = f.marked in
    (two.0, made.steps, omega (arith, low, few))
may_step parts asks rows answers call (next.List t) some f asked =
    let made = make_list parts asks rows answers call t some f asked in
    let two = both (is_inside parts call.frames t) (nat_lt f.reads MAX_MARKS) made.test in
    let low = below f.reads MAX_MARKS two.1 in
    let few = f.marked in
    (two.0, made.steps, omega (arith, low, few))
may_step parts asks rows answers call (next.Put w) some f asked =
    let made = make_put parts asks rows answers call w some f asked in
    let inside : Bool = is_inside parts call.frames w.id.table in
    let two = both (inside && is_write w) (nat_lt f.puts MAX_WRITES) made.test in
    let one = both inside (is_write w) two.0 in
    let low = below f.puts MAX_WRITES two.1 in
    let few = f.put in
    (one.0, is_a_write w one.1, made.steps, omega (arith, low, few))
may_step parts asks rows answers call next.Exit some f asked =
    let made = make_exit parts asks rows answers call some f asked in
    (are_open call.frames made.test, made.steps)
may_step parts asks rows answers call (next.Done d) some f asked = tt

-- what is tracked with an answer is so with one that is equal, and with an equal call
moved : (parts : Parts) (asks : List Answer → Next) (rows : List RowWrite) (answers : List Answer) (a b : Answer) (call after : Call) → b ≡ a → after ≡ call → Tracks parts asks rows (answers ++ a ∷ []) call → Tracks parts asks rows (answers ++ b ∷ []) after
moved parts asks rows answers a b call after same equal f =
    let P : Answer → Type 0 = λ a. Tracks parts asks rows (answers ++ a ∷ []) after in
    let Q : Call → Type 0 = λ call. Tracks parts asks rows (answers ++ a ∷ []) call in
    subst P (sym same) (subst Q (sym equal) f)

-- a step that is made is tracked
tracks_on : (parts : Parts) (asks : List Answer → Next) (rows : List RowWrite) (answers : List Answer) (call after : Call) (a : Answer) (x : Next) → IsSome (run_of parts asks rows) → Tracks parts asks rows answers call → asks answers ≡ x → MakesStep rows call x a after → Tracks parts asks rows (answers ++ a ∷ []) after
tracks_on parts asks rows answers call after a (next.Enter c m) some f asked made =
    let es = (made.1).0 in
    let g = (made.1).1 in
    moved parts asks rows answers answer.Entered a (entered es g c call) after made.0 (made.1).2 (make_enter parts asks rows answers call c m es g some f asked).tracks
tracks_on parts asks rows answers call after a (next.Read id) some f asked made =
    moved parts asks rows answers (answer.Row (seen rows call.writes id)) a (has_read rows id call) after made.0 made.1 (make_read parts asks rows answers call id some f asked).tracks
tracks_on parts asks rows answers call after a (next.List t) some f asked made =
    moved parts asks rows answers (answer.Rows (listed rows call.writes t)) a (has_listed t call) after made.0 made.1 (make_list parts asks rows answers call t some f asked).tracks
tracks_on parts asks rows answers call after a (next.Put w) some f asked made =
    moved parts asks rows answers answer.Kept a (kept w call) after made.0 made.1 (make_put parts asks rows answers call w some f asked).tracks
tracks_on parts asks rows answers call after a next.Exit some f asked made =
    moved parts asks rows answers answer.Left a (left call) after made.0 made.1 (make_exit parts asks rows answers call some f asked).tracks
tracks_on parts asks rows answers call after a (next.Done d) some f asked made = absurd made

tracks : (parts : Parts) (asks : List Answer → Next) (rows : List RowWrite) (answers : List Answer) (call : Call) → IsSome (run_of parts asks rows) → Follows asks rows answers call → Tracks parts asks rows answers call
tracks parts asks rows answers call some (Begins request worker place) = tracks_begun parts asks rows request worker place
tracks parts asks rows answers call some (GoesOn before was after a follows made) =
    tracks_on parts asks rows before was after a (asks before) some (tracks parts asks rows before was some follows) refl made

pub followed_may_step : (parts : Parts) (asks : List Answer → Next) (rows : List RowWrite) (answers : List Answer) (call : Call) → IsSome (run_of parts asks rows) → Follows asks rows answers call → MayMake parts call (asks answers)
followed_may_step parts asks rows answers call some follows = may_step parts asks rows answers call (asks answers) some (tracks parts asks rows answers call some follows) refl

pub followed_is_done : (parts : Parts) (asks : List Answer → Next) (rows : List RowWrite) (answers : List Answer) (call : Call) (d : DoneText) → IsSome (run_of parts asks rows) → Follows asks rows answers call → asks answers ≡ next.Done d
    → run_of parts asks rows ≡ Some (record { marks = call.marks; writes = call.writes; done = d })
followed_is_done parts asks rows answers call d some follows asked =
    let f = tracks parts asks rows answers call some follows in
    let within = f.steps in
    let fuel : (MAX_STEPS + 1) - call.steps ≡ suc (MAX_STEPS - call.steps) = omega (arith, within) in
    f.here ∙ ap (λ n. run n parts asks rows (at answers f.reads f.puts call)) fuel ∙ run_step (MAX_STEPS - call.steps) parts asks rows (at answers f.reads f.puts call) (next.Done d) asked
