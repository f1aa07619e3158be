use Rattle.std.proofs.Common.{ℕ, ◌<◌, subst}
use Rattle.std.specs.Prelude.{All}
use Rattle.row_store.specs.declared.noted.Noted.{Noted}
use Rattle.row_store.proofs.Noting.{noted_before_end}
use Rattle.boot_core.proofs.commits.note_writes.Goals as goal

pub note-requires-clause-later : goal.note-requires-clause-later
note-requires-clause-later c =
    let P : ℕ → Type 0 = λ n. All (λ (m : Noted). m.place.0 < n) c.args.rows.now.noted in
    subst P c.requires.3 (noted_before_end c.args.rows.now c.requires.0 c.requires.1 c.requires.2)
