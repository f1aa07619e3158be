-- What is shown of an action by calls of it: each use within its reach, and each way in.
use Rattle.std.proofs.Common.{◌≡◌, ℕ, true, List, [], ◌∷◌, Option, Some, None, sym, subst, ◌∙◌}
use Rattle.crash_base.specs.declared.numbers.ComponentNo.{ComponentNo}
use Rattle.crash_base.specs.declared.row_id.RowId.{RowId}
use Rattle.crash_base.specs.declared.rows.RowWrite.{RowWrite}
use Rattle.deployment.specs.Parts.{component_no, owner_of}
use Rattle.call_ticket.specs.declared.next.Next.{Next}
use Rattle.call_ticket.specs.declared.next.Next.TheVariants as next
use Rattle.action_plans.specs.declared.plan.Through.{Through}
use Rattle.auction_calls.specs.declared.action.Action.{Action}
use Rattle.auction_calls.specs.declared.action.ActionCall.{ActionCall}
use Rattle.auction_calls.specs.Calls.{is_call}
use Rattle.auction_calls.specs.Texts.{action_number}
use Rattle.auction_rows.specs.Parts.{site_tables}
use Rattle.auction_site.specs.Actions.{steps_of}
use Rattle.auction_site.specs.Reached.{Reach}
use Rattle.reach_laws.specs.Uses.{Use, Enters, Reads, Lists, Puts, use_of, ComesTo}
use Rattle.reach_laws.proofs.Following.{state_at, followed}

-- a fact of each of these
abbrev pub Each : (ℕ → Type 0) → List ℕ → Type 0
Each P [] = Unit {0}
Each P (n ∷ ns) = P n × Each P ns

-- calls of this number come to a use
abbrev pub Uses : ℕ → Use → Type 0
Uses number u = ComesTo number (λ (x : Next). use_of x ≡ Some u)

-- calls of this number enter a component by a method
abbrev pub EntersBy : ℕ → ℕ → ℕ → Type 0
EntersBy number c m = ComesTo number (λ (x : Next). x ≡ next.Enter (component_no c) m)

-- they enter what the action goes through
abbrev pub EntersInner : ℕ → Option Through → Type 0
EntersInner number None = Unit {0}
EntersInner number (Some t) = EntersBy number t.component.0 t.method

-- they enter the owner of a table by its method `call`
abbrev pub EntersOwner : ℕ → ℕ → Type 0
EntersOwner number t = (c : ComponentNo) → owner_of site_tables t ≡ Some c → EntersBy number c.0 0

-- calls of this number come to each use within a reach, and enter all that the action may
pub record IsUsed (number : ℕ) (r : Reach) (through : Option Through) : Type 0 where
  pub web : EntersBy number 0 0
  pub inner : EntersInner number through
  pub enters : Each (λ c. Uses number (Enters c)) r.enters
  pub reads : Each (λ t. Uses number (Reads t)) r.reads
  pub lists : Each (λ t. Uses number (Lists t)) r.lists
  pub puts : Each (λ t. Uses number (Puts t)) r.puts
  pub owners_read : Each (EntersOwner number) r.reads
  pub owners_listed : Each (EntersOwner number) r.lists
  pub owners_put : Each (EntersOwner number) r.puts

-- a call of this number, and the rows over which it is made
pub record Sample (number : ℕ) : Type 0 where
  pub call : ActionCall
  pub in_ranges : is_call call ≡ true
  pub of_number : action_number call.action ≡ number
  pub rows : List RowWrite

comes : (number : ℕ) (s : Sample number) (Such : Next → Type 0) (n : ℕ) → Such (steps_of s.call (state_at (steps_of s.call) s.rows n).answers) → ComesTo number Such
comes number s Such n step = record {
  call = s.call;
  in_ranges = s.in_ranges;
  of_number = s.of_number;
  rows = s.rows;
  answers = (state_at (steps_of s.call) s.rows n).answers;
  making = (state_at (steps_of s.call) s.rows n).call;
  follows = followed (steps_of s.call) s.rows n;
  step = step;
}

-- what it uses after so many steps
pub uses : {number : ℕ} (s : Sample number) (u : Use) (n : ℕ) → use_of (steps_of s.call (state_at (steps_of s.call) s.rows n).answers) ≡ Some u → Uses number u
uses {number} s u n step = comes number s (λ x. use_of x ≡ Some u) n step

-- what it enters after so many steps
pub enters : {number : ℕ} (s : Sample number) (c m n : ℕ) → steps_of s.call (state_at (steps_of s.call) s.rows n).answers ≡ next.Enter (component_no c) m → EntersBy number c m
enters {number} s c m n step = comes number s (λ x. x ≡ next.Enter (component_no c) m) n step

-- the owner of a table is this one
pub owned : (number t c : ℕ) → owner_of site_tables t ≡ Some (component_no c) → EntersBy number c 0 → EntersOwner number t
owned number t c is way = λ owner owns.
    let either : Some (component_no c) ≡ Some owner = sym is ∙ owns in
    let same : component_no c ≡ owner = cc in
    subst (λ (o : ComponentNo). EntersBy number o.0 0) same way

abbrev pub row : RowId → List ℕ → RowWrite
row id bytes = record { id = id; bytes = bytes }

-- a number of eight bytes, and of four, before other bytes
abbrev pub wide : ℕ → List ℕ → List ℕ
wide n bytes = 0 ∷ 0 ∷ 0 ∷ 0 ∷ 0 ∷ 0 ∷ 0 ∷ n ∷ bytes

abbrev narrow : ℕ → List ℕ → List ℕ
narrow n bytes = 0 ∷ 0 ∷ 0 ∷ n ∷ bytes

-- a category without a name
abbrev pub unnamed : List ℕ
unnamed = 0 ∷ 0 ∷ []

-- a user without a name, who offered so many items
abbrev pub user : ℕ → List ℕ
user items = 0 ∷ 0 ∷ wide 0 (wide 0 (wide 0 (wide 0 (wide 0 (narrow 0 (narrow 0 (narrow items [])))))))

-- an item in this state, of seller 2, without bids and buyer, to be bought for 1 cent, until moment 1
abbrev pub item : ℕ → List ℕ
item state = state ∷ wide 2 (wide 0 (wide 0 (wide 1 (wide 0 (wide 0 (narrow 0 (wide 1 (wide 0 (0 ∷ 0 ∷ 0 ∷ [])))))))))

-- a call of a user, at moment 0
abbrev pub call_by : ℕ → Action → ActionCall
call_by user a = record {
  action = a;
  user = user;
  key = record { 0 = wide 0 (wide 0 []) };
  now = record { 0 = 0 };
  fresh = 0;
  form = wide 0 (wide 0 (wide 0 (wide 0 (wide 0 (wide 0 (wide 0 []))))));
}

abbrev pub sample : (number user : ℕ) (a : Action) (rows : List RowWrite) → is_call (call_by user a) ≡ true → action_number a ≡ number → Sample number
sample number user a rows ranges is = record { call = call_by user a; in_ranges = ranges; of_number = is; rows = rows }
