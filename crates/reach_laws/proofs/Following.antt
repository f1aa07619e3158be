-- A call that follows its program over rows for so many steps.
use Rattle.std.proofs.Common.{◌≡◌, ℕ, zero, suc, ◌==◌, ◌&&◌, Bool, true, false, cond, List, [], ◌∷◌, ◌++◌, Some, None, refl, ap, sym, subst, arith}
use Rattle.std.proofs.lemmas.Bool.Decides.{nat_tests}
use Rattle.crash_base.specs.declared.numbers.Place.{Place}
use Rattle.crash_base.specs.declared.numbers.RequestNo.{RequestNo}
use Rattle.crash_base.specs.declared.numbers.WorkerNo.{WorkerNo}
use Rattle.crash_base.specs.declared.row_id.RowId.{RowId}
use Rattle.crash_base.specs.declared.rows.RowWrite.{RowWrite}
use Rattle.journal_model.specs.Calls.{Call, begun, entered, left, kept, seen, listed, has_read, has_listed}
use Rattle.call_ticket.specs.declared.next.Answer.{Answer}
use Rattle.call_ticket.specs.declared.next.Answer.TheVariants as answer
use Rattle.call_ticket.specs.declared.next.Next.{Next}
use Rattle.call_ticket.specs.declared.next.Next.TheVariants as next
use Rattle.call_ticket.specs.Following.{Follows, Begins, GoesOn, MakesStep}

-- a call on its way, with the answers that it had
pub record On : Type 0 where
  pub answers : List Answer
  pub call : Call

abbrev request : RequestNo
request = record { boot = 1; serial = 1 }

abbrev worker : WorkerNo
worker = record { 0 = 0 }

abbrev first : Place
first = record { 0 = 0 }

-- the call after a step over rows; nothing follows the last one
abbrev pub went : List RowWrite → On → Next → On
went rows s (next.Enter c m) = record { answers = s.answers ++ answer.Entered ∷ []; call = entered [] 0 c s.call }
went rows s (next.Read id) = record { answers = s.answers ++ answer.Row (seen rows s.call.writes id) ∷ []; call = has_read rows id s.call }
went rows s (next.List t) = record { answers = s.answers ++ answer.Rows (listed rows s.call.writes t) ∷ []; call = has_listed t s.call }
went rows s (next.Put w) = record { answers = s.answers ++ answer.Kept ∷ []; call = kept w s.call }
went rows s next.Exit = record { answers = s.answers ++ answer.Left ∷ []; call = left s.call }
went rows s (next.Done d) = s

abbrev pub step_of : (List Answer → Next) → List RowWrite → On → On
step_of asks rows s = went rows s (asks s.answers)

-- the call after so many steps
abbrev pub state_at : (List Answer → Next) → List RowWrite → ℕ → On
state_at asks rows zero = record { answers = []; call = begun request worker first }
state_at asks rows (suc n) = step_of asks rows (state_at asks rows n)

goes_on : (asks : List Answer → Next) (rows : List RowWrite) (s : On) (x : Next) → asks s.answers ≡ x → Follows asks rows s.answers s.call
    → Follows asks rows (went rows s x).answers (went rows s x).call
goes_on asks rows s (next.Enter c m) is so_far =
    GoesOn s.answers s.call (entered [] 0 c s.call) answer.Entered so_far
    (subst (λ x. MakesStep rows s.call x answer.Entered (entered [] 0 c s.call)) (sym is) (refl, ([], 0, refl)))
goes_on asks rows s (next.Read id) is so_far =
    GoesOn s.answers s.call (has_read rows id s.call) (answer.Row (seen rows s.call.writes id)) so_far
    (subst (λ x. MakesStep rows s.call x (answer.Row (seen rows s.call.writes id)) (has_read rows id s.call)) (sym is) (refl, refl))
goes_on asks rows s (next.List t) is so_far =
    GoesOn s.answers s.call (has_listed t s.call) (answer.Rows (listed rows s.call.writes t)) so_far
    (subst (λ x. MakesStep rows s.call x (answer.Rows (listed rows s.call.writes t)) (has_listed t s.call)) (sym is) (refl, refl))
goes_on asks rows s (next.Put w) is so_far =
    GoesOn s.answers s.call (kept w s.call) answer.Kept so_far
    (subst (λ x. MakesStep rows s.call x answer.Kept (kept w s.call)) (sym is) (refl, refl))
goes_on asks rows s next.Exit is so_far =
    GoesOn s.answers s.call (left s.call) answer.Left so_far
    (subst (λ x. MakesStep rows s.call x answer.Left (left s.call)) (sym is) (refl, refl))
goes_on asks rows s (next.Done d) is so_far = so_far

pub followed : (asks : List Answer → Next) (rows : List RowWrite) (n : ℕ) → Follows asks rows (state_at asks rows n).answers (state_at asks rows n).call
followed asks rows zero = Begins request worker first
followed asks rows (suc n) =
    let s : On = state_at asks rows n in
    goes_on asks rows s (asks s.answers) refl (followed asks rows n)

eq-self : (n : ℕ) → (n == n) ≡ true
eq-self n = grind (arith, nat_tests)

both : (a b : Bool) → a ≡ true → b ≡ true → (a && b) ≡ true
both true b is also = also
both false b is also = absurd (cc)

-- the only row is found under its id
pub found_row : (id : RowId) (bytes : List ℕ) → seen (record { id = id; bytes = bytes } ∷ []) [] id ≡ Some bytes
found_row id bytes =
    ap (λ is. cond is (Some bytes) None) (both (id.table == id.table) (id.key == id.key) (eq-self id.table) (eq-self id.key))
