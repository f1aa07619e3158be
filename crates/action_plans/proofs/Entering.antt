-- The rules that an action keeps: where it enters, and what it accesses there.
use Rattle.std.proofs.Common.{◌≡◌, ℕ, ◌==◌, ◌&&◌, ◌||◌, nat_lt, Bool, true, false, cond, List, [], ◌∷◌, ◌++◌, Option, Some, None, refl, ap, ◌∙◌, arith}
use Rattle.std.proofs.lemmas.Bool.Decides.{nat_tests}
use Rattle.crash_base.specs.declared.numbers.ComponentNo.{ComponentNo}
use Rattle.crash_base.specs.declared.rows.RowWrite.{RowWrite}
use Rattle.deployment.specs.declared.parts.Parts.{Parts}
use Rattle.deployment.specs.Parts.{owner_of}
use Rattle.journal_model.specs.declared.entry.Mark.{Mark}
use Rattle.call_ticket.specs.declared.limits.TheConstants.{MAX_FRAMES}
use Rattle.call_ticket.specs.declared.next.Answer.{Answer}
use Rattle.call_ticket.specs.declared.next.Answer.TheVariants as answer
use Rattle.call_ticket.specs.declared.next.Next.TheVariants as next
use Rattle.call_ticket.specs.Access.{is_same_component, is_inside}
use Rattle.call_ticket.specs.Runs.{Running, Ran, resume}
use Rattle.action_plans.specs.declared.plan.Through.{Through}
use Rattle.action_plans.specs.declared.plan.TheConstants.{GATEWAY}
use Rattle.action_plans.specs.Steps.{home_of, is_home, may_go, is_near, reaches}

-- a run between two steps
abbrev pub state : List Answer → List ComponentNo → ℕ → ℕ → List Mark → List RowWrite → Running
state had frames r q ms ws = record { answers = had; frames = frames; reads = r; puts = q; marks = ms; writes = ws }

-- the components that are open at home
abbrev pub home_frames : Option Through → List ComponentNo
home_frames None = GATEWAY ∷ []
home_frames (Some t) = GATEWAY ∷ t.component ∷ []

-- one of two tests holds, and it is not the first
pub second : (a b : Bool) → a ≡ false → (a || b) ≡ true → b ≡ true
second true b off is = absurd (cc)
second false b off is = is

pub taken : {A : Type 0} (b : Bool) (x : Option A) (y : A) → cond b x None ≡ Some y → (b ≡ true) × (x ≡ Some y)
taken true x y is = (refl, is)
taken false x y is = absurd (cc)

same_test : (n : ℕ) → (n == n) ≡ true
same_test n = grind (arith, nat_tests)

flip_test : (a b : ℕ) → (a == b) ≡ true → (b == a) ≡ true
flip_test a b is = grind (arith, nat_tests)

-- the owner of a table that the action can access
pub record Near (parts : Parts) (through : Option Through) (t : ℕ) : Type 0 where
  pub owner : ComponentNo
  pub owns : owner_of parts.tables t ≡ Some owner
  pub near : (is_home through owner || may_go parts (home_of through) owner) ≡ true

pub near : (parts : Parts) (through : Option Through) (t : ℕ) → reaches parts through t ≡ true → Near parts through t
near parts through t can = go (owner_of parts.tables t) refl can
  where
    go : (o : Option ComponentNo) → owner_of parts.tables t ≡ o → is_near parts through o ≡ true → Near parts through t
    go None is none = absurd (cc)
    go (Some owner) is near = record { owner = owner; owns = is; near = near }

-- at home the action is in the owner where that is its home, and away it is in the owner
pub inside_home : (parts : Parts) (through : Option Through) (t : ℕ) (c : ComponentNo) → owner_of parts.tables t ≡ Some c → is_home through c ≡ true → is_inside parts (home_frames through) t ≡ true
inside_home parts None t c owns home = ap (is_same_component (Some GATEWAY)) owns ∙ flip_test c.0 GATEWAY.0 home
inside_home parts (Some h) t c owns home = ap (is_same_component (Some h.component)) owns ∙ flip_test c.0 h.component.0 home

pub inside_owner : (parts : Parts) (through : Option Through) (t : ℕ) (c : ComponentNo) → owner_of parts.tables t ≡ Some c → is_inside parts (home_frames through ++ c ∷ []) t ≡ true
inside_owner parts None t c owns = ap (is_same_component (Some c)) owns ∙ same_test c.0
inside_owner parts (Some h) t c owns = ap (is_same_component (Some c)) owns ∙ same_test c.0

-- an owner that may be entered from home is entered
pub enters : (parts : Parts) (rows : List RowWrite) (through : Option Through) (c : ComponentNo) (had : List Answer) (r q : ℕ) (ms : List Mark) (ws : List RowWrite) (go : Running → Option Ran) → may_go parts (home_of through) c ≡ true
    → resume parts rows (state had (home_frames through) r q ms ws) (next.Enter c 0) go ≡ go (state (had ++ answer.Entered ∷ []) (home_frames through ++ c ∷ []) r q ms ws)
enters parts rows None c had r q ms ws go may =
    ap (λ b. cond (b && nat_lt 1 MAX_FRAMES) (go (state (had ++ answer.Entered ∷ []) (GATEWAY ∷ c ∷ []) r q ms ws)) None) may
enters parts rows (Some h) c had r q ms ws go may =
    ap (λ b. cond (b && nat_lt 2 MAX_FRAMES) (go (state (had ++ answer.Entered ∷ []) (GATEWAY ∷ h.component ∷ c ∷ []) r q ms ws)) None) may

-- an owner is left for home
pub leaves : (parts : Parts) (rows : List RowWrite) (through : Option Through) (c : ComponentNo) (had : List Answer) (r q : ℕ) (ms : List Mark) (ws : List RowWrite) (go : Running → Option Ran)
    → resume parts rows (state had (home_frames through ++ c ∷ []) r q ms ws) next.Exit go ≡ go (state (had ++ answer.Left ∷ []) (home_frames through) r q ms ws)
leaves parts rows None c had r q ms ws go = refl
leaves parts rows (Some h) c had r q ms ws go = refl
