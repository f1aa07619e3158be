-- What holds where memory ran out, also for a report.
use Rattle.std.proofs.Common.{◌≡◌, ◌≢◌, List, codes, inl, inr, ℕ, Option, Some, None, refl, sym, ◌∙◌, subst, arith}
use Rattle.std.specs.Prelude.{IfSome}
use Rattle.drive_engine.specs.declared.words.Command.{Command}
use Rattle.drive_engine.specs.declared.words.Command.TheVariants.{Drive, Groups, Workload}
use Rattle.drive_engine.specs.declared.ending.Ending.{Ending}
use Rattle.drive_engine.specs.declared.ending.Ending.TheVariants as endings
use Rattle.drive_engine.specs.Command.{Runs, Ends, RunsOutOfMemory, EndsOutOfMemory}
use Rattle.drive_engine.specs.Ending.{status, report, HasNumbers, IsReported}
use Rattle.drive_engine.specs.Exchange.{Exchange}

is_out_of_memory : (e : Ending) → status e ≡ 9 → e ≡ endings.OutOfMemory
is_out_of_memory endings.Done is = absurd (omega arith)
is_out_of_memory endings.UnknownCommand is = absurd (omega arith)
is_out_of_memory (endings.LineRefused n) is = absurd (omega arith)
is_out_of_memory endings.ReadFailed is = absurd (omega arith)
is_out_of_memory endings.WriteFailed is = absurd (omega arith)
is_out_of_memory endings.KeeperFailed is = absurd (omega arith)
is_out_of_memory (endings.BadRow id) is = absurd (omega arith)
is_out_of_memory (endings.LineTooLong n) is = absurd (omega arith)
is_out_of_memory endings.OutOfMemory is = refl
is_out_of_memory endings.DescriptorsRefused is = absurd (omega arith)
is_out_of_memory endings.BootsSpent is = absurd (omega arith)
is_out_of_memory endings.ScenarioTooLong is = absurd (omega arith)

ran_out : (command : Command) (x : Exchange) → RunsOutOfMemory command x → EndsOutOfMemory command x
ran_out Drive x h = inl h
ran_out Groups x h = h
ran_out (Workload number count) x h = inl h

too_long : (command : Command) (n : ℕ) (x : Exchange) → Runs command (endings.LineTooLong n) x → EndsOutOfMemory command x
too_long Drive n x h = inr (inr (inl (n, h)))
too_long Groups n x h = h.1.silent
too_long (Workload number count) n x h = absurd h

-- there is no memory for the numbers of a report
without_numbers : (command : Command) (e : Ending) (x : Exchange) → HasNumbers e → Runs command e x → EndsOutOfMemory command x
without_numbers command endings.Done x has h = absurd has
without_numbers command endings.UnknownCommand x has h = absurd has
without_numbers Drive (endings.LineRefused n) x has h = inr (inl (n, h.1))
without_numbers Groups (endings.LineRefused n) x has h = cc
without_numbers (Workload number count) (endings.LineRefused n) x has h = cc
without_numbers command endings.ReadFailed x has h = absurd has
without_numbers command endings.WriteFailed x has h = absurd has
without_numbers command endings.KeeperFailed x has h = absurd has
without_numbers Drive (endings.BadRow id) x has h = inr (inr (inr (id, h)))
without_numbers Groups (endings.BadRow id) x has h = absurd h
without_numbers (Workload number count) (endings.BadRow id) x has h = inr (id, h)
without_numbers command (endings.LineTooLong n) x has h = too_long command n x h
without_numbers command endings.OutOfMemory x has h = absurd has
without_numbers command endings.DescriptorsRefused x has h = absurd has
without_numbers command endings.BootsSpent x has h = absurd has
without_numbers command endings.ScenarioTooLong x has h = absurd has

pub out_of_memory_reported : (words : Option Command) (e r : Ending) (x : Exchange) → Ends words e x → IsReported e r → status r ≡ 9 → IfSome words (λ command. EndsOutOfMemory command x)
out_of_memory_reported None e r x ends reported is = tt
out_of_memory_reported (Some command) e r x ends (inl same) is = let P : Ending → Type 0 = λ e. Runs command e x in ran_out command x (subst P (sym same ∙ is_out_of_memory r is) ends)
out_of_memory_reported (Some command) e r x ends (inr (out, has)) is = without_numbers command e x has ends

-- this is reported
pub report_of_memory : (r : Ending) (P : List ℕ → Type 0) → status r ≡ 9 → (r ≢ endings.Done → P (report r)) → P (codes "out of memory\n")
report_of_memory r P is reported = let out = is_out_of_memory r is in subst (λ (e : Ending). P (report e)) out (reported (λ done. done_is_not out done))
  where
    done_is_not : r ≡ endings.OutOfMemory → r ≡ endings.Done → ⊥
    done_is_not out done = cc
