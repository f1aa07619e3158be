-- What calls of an action enter and access, beside how far the action reaches.
use Rattle.std.specs.Prelude.{◌≡◌, ◌⊎◌, ℕ, ◌||◌, Bool, true, List, Option, Some, None}
use Rattle.crash_base.specs.declared.numbers.ComponentNo.{ComponentNo}
use Rattle.crash_base.specs.declared.numbers.GroupNo.{GroupNo}
use Rattle.crash_base.specs.declared.rows.RowWrite.{RowWrite}
use Rattle.deployment.specs.Groups.{group_of, group_no}
use Rattle.deployment.specs.Parts.{owner_of}
use Rattle.journal_model.specs.Calls.{Call}
use Rattle.call_ticket.specs.declared.next.Answer.{Answer}
use Rattle.call_ticket.specs.declared.next.Next.{Next}
use Rattle.call_ticket.specs.declared.next.Next.TheVariants as next
use Rattle.call_ticket.specs.Following.{Follows}
use Rattle.auction_calls.specs.declared.action.Action.{Action}
use Rattle.auction_calls.specs.declared.action.ActionCall.{ActionCall}
use Rattle.auction_calls.specs.Calls.{is_call}
use Rattle.auction_calls.specs.Texts.{action_number}
use Rattle.auction_rows.specs.declared.components.TheConstants.{WEB, CALL}
use Rattle.auction_rows.specs.Parts.{site_parts}
use Rattle.auction_site.specs.Actions.{steps_of, through_of}
use Rattle.auction_site.specs.Reached.{Reach, is_among, reach_of}

-- what a step does with a component or a table: it enters the one, or reads, lists or puts rows of the other
pub data Use : Type 0 where
  Enters : ℕ → Use
  Reads : ℕ → Use
  Lists : ℕ → Use
  Puts : ℕ → Use

-- the use that a step makes, if it makes one
abbrev pub use_of : Next → Option Use
use_of (next.Enter c m) = Some (Enters c.0)
use_of (next.Read id) = Some (Reads id.table)
use_of (next.List t) = Some (Lists t)
use_of (next.Put w) = Some (Puts w.id.table)
use_of next.Exit = None
use_of (next.Done d) = None

-- whether a use is within a reach
abbrev pub allows : Reach → Use → Bool
allows r (Enters c) = is_among r.enters c
allows r (Reads t) = is_among r.reads t
allows r (Lists t) = is_among r.lists t
allows r (Puts t) = is_among r.puts t

-- Some call of the action of this number, with each field in its range, comes to such a step: it has followed its steps
-- up to there over some rows.
pub record ComesTo (number : ℕ) (Such : Next → Type 0) : Type 0 where
  pub call : ActionCall
  pub in_ranges : is_call call ≡ true
  pub of_number : action_number call.action ≡ number
  pub rows : List RowWrite
  pub answers : List Answer
  pub making : Call
  pub follows : Follows (steps_of call) rows answers making
  pub step : Such (steps_of call answers)

-- whether a reach has a table: its rows may be read, listed or put
abbrev pub has_table : Reach → ℕ → Bool
has_table r t = is_among r.reads t || (is_among r.lists t || is_among r.puts t)

-- a component owns a table that a reach has
pub record OwnsTable (r : Reach) (component : ComponentNo) : Type 0 where
  pub table : ℕ
  pub reached : has_table r table ≡ true
  pub owned : owner_of site_parts.tables table ≡ Some component

-- How an action may enter a component: Web by its method `call`; the one that it goes through, by the method for that;
-- and the owner of a table that it reaches, by its method `call`.
abbrev pub MayEnter : Action → ComponentNo → ℕ → Type 0
MayEnter a component method =
    ((component.0 ≡ WEB) × (method ≡ CALL))
    ⊎ ((through_of a ≡ Some (record { component = component; method = method }))
    ⊎ (OwnsTable (reach_of a) component × (method ≡ CALL)))

-- a group is that of a component which an action may enter
pub record MayEnterGroup (a : Action) (group : GroupNo) : Type 0 where
  pub component : ComponentNo
  pub method : ℕ
  pub may : MayEnter a component method
  pub group_is : group ≡ group_no (group_of site_parts component.0)
