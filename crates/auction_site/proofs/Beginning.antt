-- Rows are coherent where there is none, and stay so by each commit.
use Rattle.std.proofs.Common.{◌≡◌, List, [], ◌∷◌, ◌++◌, sym, subst, ◌∙◌, ap}
use Rattle.crash_base.specs.declared.rows.RowWrite.{RowWrite}
use Rattle.crash_base.specs.Rows.{put_all}
use Rattle.journal_model.specs.declared.entry.CommitEntry.{CommitEntry}
use Rattle.journal_model.specs.declared.entry.Entry.{Entry}
use Rattle.journal_model.specs.declared.entry.Entry.TheVariants.{Commit}
use Rattle.journal_model.specs.Legal.{IsCurrent}
use Rattle.journal_model.specs.Rows.{rows_after}
use Rattle.journal_model.specs.Snapshots.{snapshot}
use Rattle.journal_model.proofs.Adding.{rows_after-push}
use Rattle.auction_site.specs.Actions.{site}
use Rattle.auction_site.specs.Coherent.{IsCoherent}
use Rattle.auction_site.specs.Meant.{IsMade}
use Rattle.auction_site.proofs.Keeping.{call_keeps}
use Rattle.auction_site.proofs.Meaning.{made_at_its_place}

pub none_coherent : IsCoherent []
none_coherent = record {
  items = λ number is. absurd (cc);
  bids = λ key is. absurd (cc);
  counter = λ is. absurd (cc);
}

pub commit_keeps : (base : List RowWrite) (es : List Entry) (entry : CommitEntry) → IsCurrent base es entry
    → IsMade (snapshot base es entry.at.0) entry → IsCoherent (rows_after base es) → IsCoherent (rows_after base (es ++ Commit entry ∷ []))
commit_keeps base es entry current made coherent =
    let meant = made_at_its_place base es entry current made in
    let same : rows_after base (es ++ Commit entry ∷ []) ≡ put_all (site meant.call (rows_after base es)).writes (rows_after base es) =
    rows_after-push base es (Commit entry) ∙ ap (λ (ws : List RowWrite). put_all ws (rows_after base es)) meant.writes in
    subst (λ (rows : List RowWrite). IsCoherent rows) (sym same) (call_keeps meant.call (rows_after base es) meant.spelled.in_ranges coherent)
