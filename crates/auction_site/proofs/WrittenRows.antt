-- The writes of a call are rows, and the rows after it have bytes.
use Rattle.std.proofs.Common.{◌≡◌, true, List, [], ◌∷◌, All}
use Rattle.std.proofs.lemmas.List.Elements.{All-head, All-tail, All-weaker}
use Rattle.crash_base.specs.declared.rows.RowWrite.{RowWrite}
use Rattle.crash_base.specs.Rows.{put, put_all}
use Rattle.crash_base.proofs.Ordering.{All-put}
use Rattle.auction_calls.specs.Calls.{is_call}
use Rattle.auction_calls.specs.declared.action.ActionCall.{ActionCall}
use Rattle.auction_rows.specs.Bounds.{AreBytes}
use Rattle.auction_site.specs.Actions.{site}
use Rattle.auction_site.specs.Written.{HaveBytes, SpellsARow}
use Rattle.auction_site.proofs.RowWrites.{SpellsInBytes, all_spell}
use Rattle.auction_site.proofs.Written.{call_writes}

-- what holds of rows and of writes holds of the rows after them
All-put_all : (P : RowWrite → Type 0) (ws rows : List RowWrite) → All P ws → All P rows → All P (put_all ws rows)
All-put_all P [] rows written all = all
All-put_all P (w ∷ ws) rows written all =
    All-put_all P ws (put w rows) (All-tail P w ws written) (All-put P w rows (All-head P w ws written) all)

pub call_writes_rows : (call : ActionCall) (rows : List RowWrite) → is_call call ≡ true → HaveBytes rows → All SpellsARow (site call rows).writes
call_writes_rows call rows is all =
    let ws : List RowWrite = (site call rows).writes in
    All-weaker SpellsInBytes SpellsARow (λ w s. s.spells) ws (all_spell ws (call_writes call rows is all))

pub rows_after_have_bytes : (call : ActionCall) (rows : List RowWrite) → is_call call ≡ true → HaveBytes rows → HaveBytes (put_all (site call rows).writes rows)
rows_after_have_bytes call rows is all =
    let ws : List RowWrite = (site call rows).writes in
    let written = All-weaker SpellsInBytes (λ (w : RowWrite). AreBytes w.bytes) (λ w s. s.are) ws (all_spell ws (call_writes call rows is all)) in
    All-put_all (λ (w : RowWrite). AreBytes w.bytes) ws rows written all
