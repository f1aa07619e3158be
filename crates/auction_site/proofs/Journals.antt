-- Journals stay meant by each entry.
use Rattle.std.proofs.Common.{◌≡◌, ◌≤◌, ℕ, List, [], ◌∷◌, ◌++◌, length, Some, None, sym, subst, ◌∙◌}
use Rattle.std.proofs.lemmas.Option.{none-some}
use Rattle.crash_base.specs.declared.rows.RowWrite.{RowWrite}
use Rattle.crash_base.specs.declared.scope.Scope.{Scope}
use Rattle.journal_model.specs.declared.entry.ActionEntry.{ActionEntry}
use Rattle.journal_model.specs.declared.entry.CommitEntry.{CommitEntry}
use Rattle.journal_model.specs.declared.entry.Entry.{Entry}
use Rattle.journal_model.specs.declared.entry.Entry.TheVariants.{Commit, Down, Up}
use Rattle.journal_model.specs.Calls.{Call, entry_of}
use Rattle.journal_model.specs.Legal.{IsCurrent}
use Rattle.journal_model.specs.Rows.{rows_after}
use Rattle.journal_model.specs.Snapshots.{snapshot}
use Rattle.journal_model.proofs.Growing.{each_push}
use Rattle.call_ticket.specs.declared.next.Answer.{Answer}
use Rattle.call_ticket.specs.declared.next.Next.TheVariants as next
use Rattle.call_ticket.specs.Following.{Follows}
use Rattle.auction_calls.specs.declared.action.ActionCall.{ActionCall}
use Rattle.auction_calls.specs.Texts.{Spells}
use Rattle.auction_site.specs.Actions.{steps_of}
use Rattle.auction_site.specs.Meant.{IsMade, IsMeantEntry, AreMeant}
use Rattle.auction_site.proofs.Meaning.{FollowRule, commit_is_meant, followed_is_made}

pub none_meant : (base : List RowWrite) → AreMeant base []
none_meant base = record { each = λ i e is. absurd (none-some e is) }

-- one entry more
entry_meant : (base : List RowWrite) (es : List Entry) (e : Entry) → AreMeant base es → IsMeantEntry (rows_after base es) e
    → AreMeant base (es ++ e ∷ [])
entry_meant base es e are is =
    record { each = each_push (λ before x. IsMeantEntry (rows_after base before) x) es e are.each is }

pub down_meant : (base : List RowWrite) (es : List Entry) (scope : Scope) → AreMeant base es → AreMeant base (es ++ Down scope ∷ [])
down_meant base es scope are = entry_meant base es (Down scope) are tt

pub up_meant : (base : List RowWrite) (es : List Entry) (scope : Scope) → AreMeant base es → AreMeant base (es ++ Up scope ∷ [])
up_meant base es scope are = entry_meant base es (Up scope) are tt

-- a commit without an action means nothing
pub plain_meant : (base : List RowWrite) (es : List Entry) (entry : CommitEntry) → entry.action ≡ None → AreMeant base es
    → AreMeant base (es ++ Commit entry ∷ [])
plain_meant base es entry none are =
    entry_meant base es (Commit entry) are (λ action is. absurd (none-some action (sym none ∙ is)))

pub made_meant : (base : List RowWrite) (es : List Entry) (entry : CommitEntry) → IsCurrent base es entry
    → IsMade (snapshot base es entry.at.0) entry → AreMeant base es → AreMeant base (es ++ Commit entry ∷ [])
made_meant base es entry current made are = entry_meant base es (Commit entry) are (commit_is_meant base es entry current made)

pub followed_meant : FollowRule → (base : List RowWrite) (es : List Entry) (call : ActionCall) (answers : List Answer) (held : Call) (action : ActionEntry)
    → Spells action.text call → Follows (steps_of call) (snapshot base es held.at.0) answers held
    → steps_of call answers ≡ next.Done action.done → IsCurrent base es (entry_of held (Some action)) → AreMeant base es
    → AreMeant base (es ++ Commit (entry_of held (Some action)) ∷ [])
followed_meant rule base es call answers held action spelled follows done current are =
    made_meant base es (entry_of held (Some action)) current
    (followed_is_made rule call (snapshot base es held.at.0) answers held action spelled follows done) are

-- what the journal has had stays as it was
abbrev StayRule : Type 0
StayRule = (base : List RowWrite) (es more : List Entry) (at : ℕ) → at ≤ length es → snapshot base (es ++ more) at ≡ snapshot base es at

pub held_stays : StayRule → (base : List RowWrite) (es more : List Entry) (call : ActionCall) (answers : List Answer) (held : Call) → held.at.0 ≤ length es
    → Follows (steps_of call) (snapshot base es held.at.0) answers held → Follows (steps_of call) (snapshot base (es ++ more) held.at.0) answers held
held_stays rule base es more call answers held within follows =
    let Q : List RowWrite → Type 0 = λ rows. Follows (steps_of call) rows answers held in
    subst Q (sym (rule base es more held.at.0 within)) follows
