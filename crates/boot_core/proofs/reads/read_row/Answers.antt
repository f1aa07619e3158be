use Rattle.std.proofs.Common.{ℕ, ◌≤◌, List, [], Option, sym, ap, ◌∙◌, subst}
use Rattle.crash_base.specs.declared.numbers.Place.{Place}
use Rattle.crash_base.specs.declared.rows.TheConstants.{MAX_ROW_BYTES}
use Rattle.crash_base.proofs.Ordering.{row_in-put_all}
use Rattle.journal_model.specs.Limits.{value_bytes}
use Rattle.row_store.specs.Rows.{row_before, all_before, writes_before}
use Rattle.boot_core.proofs.Found.{seen_found, read_found_row}
use Rattle.boot_core.proofs.reads.read_row.Goals as goal

pub read_found-requires-clause-short : goal.read_found-requires-clause-short
read_found-requires-clause-short c =
    let P : Option (List ℕ) → Type 0 = λ v. value_bytes v ≤ MAX_ROW_BYTES in
    let same = row_in-put_all (writes_before c.args.rows.now c.args.ticket.now.call.at.0) [] c.args.id in
    subst P (same ∙ ap (λ (p : Place). row_before c.args.rows.now p.0 c.args.id) (sym c.at.ensures) ∙ sym c.row_at-found.ensures.value) c.requires.short

pub returns-clause-value : goal.returns-clause-value
returns-clause-value c =
    let same = row_in-put_all (writes_before c.args.rows.now c.args.ticket.now.call.at.0) [] c.args.id in
    seen_found (all_before c.args.rows.now c.args.ticket.now.call.at.0) c.args.ticket.now.call.writes c.args.id _ c.read_found.result (sym c.is_put.ensures ∙ c.if-is_put.false)
    (same ∙ ap (λ (p : Place). row_before c.args.rows.now p.0 c.args.id) (sym c.at.ensures) ∙ sym c.row_at-found.ensures.value) c.read_found.ensures.value

pub returns-clause-ok : goal.returns-clause-ok
returns-clause-ok c =
    let same = row_in-put_all (writes_before c.args.rows.now c.args.ticket.now.call.at.0) [] c.args.id in
    read_found_row (all_before c.args.rows.now c.args.ticket.now.call.at.0) c.args.id c.args.ticket.now c.read_found.new.ticket _ c.read_found.result (sym c.is_put.ensures ∙ c.if-is_put.false)
    (same ∙ ap (λ (p : Place). row_before c.args.rows.now p.0 c.args.id) (sym c.at.ensures) ∙ sym c.row_at-found.ensures.value) c.read_found.ensures.ok
