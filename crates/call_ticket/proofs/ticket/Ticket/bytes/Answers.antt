use Rattle.std.proofs.Common.{◌≡◌, ◌+◌, length, sum_by, ap, arith, rules}
use Rattle.crash_base.specs.declared.rows.RowWrite.{RowWrite}
use Rattle.journal_model.specs.declared.entry.Mark.{Mark}
use Rattle.journal_model.specs.Limits.{value_bytes, call_bytes}
use Rattle.call_ticket.proofs.Sums.{small_call}
use Rattle.call_ticket.proofs.ticket.Ticket.bytes.Goals as goal

pub read_bytes-requires : goal.read_bytes-requires
read_bytes-requires c =
    let within = c.self.invariant.0 in
    let read = ap (sum_by (λ (m : Mark). value_bytes m.value)) c.deref.ensures.value in
    omega (arith, read, small_call c.self.inside.marks.items c.self.inside.writes.items within.reads within.values within.puts within.rows)

pub written_bytes-requires : goal.written_bytes-requires
written_bytes-requires c =
    let within = c.self.invariant.0 in
    let written = ap (sum_by (λ (w : RowWrite). length w.bytes)) c.deref-2.ensures.value in
    omega (arith, written, small_call c.self.inside.marks.items c.self.inside.writes.items within.reads within.values within.puts within.rows)

pub overflow_add-result : goal.overflow_add-result
overflow_add-result c =
    let within = c.self.invariant.0 in
    let sum : c.read_bytes.result + c.written_bytes.result ≡ call_bytes c.self.inside.marks.items c.self.inside.writes.items = search rules in
    omega (arith, sum, small_call c.self.inside.marks.items c.self.inside.writes.items within.reads within.values within.puts within.rows)

pub returns-clause-limit : goal.returns-clause-limit
returns-clause-limit c =
    let within = c.self.invariant.0 in
    let sum : c.read_bytes.result + c.written_bytes.result ≡ call_bytes c.self.inside.marks.items c.self.inside.writes.items = search rules in
    omega (arith, sum, small_call c.self.inside.marks.items c.self.inside.writes.items within.reads within.values within.puts within.rows)
