-- What the pieces of plans come to that read on.
use Rattle.std.proofs.Common.{◌≡◌, ℕ, List, Option, Some, Result, Err, refl, sym, subst, ◌∙◌}
use Rattle.std.specs.Result.{IsErrAnd}
use Rattle.crash_base.specs.declared.row_id.RowId.{RowId}
use Rattle.journal_model.specs.declared.entry.DoneText.{DoneText}
use Rattle.action_plans.specs.declared.plan.Stop.{Stop}
use Rattle.action_plans.specs.Plans.{Plan, Gives, Refuses, Has, ◌>>=◌}
use Rattle.action_plans.proofs.Walking.{bind_gives, exit_part}
use Rattle.auction_rows.specs.declared.rows.CounterRow.{CounterRow}
use Rattle.auction_rows.specs.Reading.{counter_of}
use Rattle.auction_site.specs.Pieces.{decoded, none_decoded, count_decoded}

count_is : (id : RowId) (o : Option (List ℕ)) (bytes : List ℕ) (found : Option CounterRow) → o ≡ Some bytes → found ≡ counter_of bytes
    → count_decoded id o ≡ (decoded id found >>= λ counter. Gives counter.count)
unfolding count_decoded
count_is id o bytes found some is = rw (some, is) refl

pub count_gives : (id : RowId) (o : Option (List ℕ)) (bytes : List ℕ) (found : Option CounterRow) (counter : CounterRow) → o ≡ Some bytes
    → found ≡ counter_of bytes → decoded id found ≡ Gives counter → count_decoded id o ≡ Gives counter.count
count_gives id o bytes found counter some is gives =
    count_is id o bytes found some is ∙ bind_gives (decoded id found) (λ c. Gives c.count) counter gives

pub count_stops : (r : Result ℕ Stop) (e : Stop) (id : RowId) (o : Option (List ℕ)) (bytes : List ℕ) (found : Option CounterRow) → o ≡ Some bytes
    → found ≡ counter_of bytes → IsErrAnd r (λ y. y ≡ e) → Has {A = CounterRow} (Err e) (decoded id found) → Has r (count_decoded id o)
count_stops r e id o bytes found some is out has =
    let P : Plan ℕ → Type 0 = λ p. Has r p in
    subst P (sym (count_is id o bytes found some is)) (exit_part r e (decoded id found) (λ c. Gives c.count) out has)

none_is : {T : Type 0} (spells : List ℕ → Option T) (id : RowId) (there : DoneText) (o : Option (List ℕ)) (bytes : List ℕ) (found : Option T)
    → o ≡ Some bytes → found ≡ spells bytes → none_decoded spells id there o ≡ (decoded id found >>= λ row. Refuses there)
unfolding none_decoded
none_is spells id there o bytes found some is = rw (some, is) refl

pub none_refuses : {T : Type 0} (spells : List ℕ → Option T) (id : RowId) (there : DoneText) (o : Option (List ℕ)) (bytes : List ℕ) (found : Option T) (row : T)
    → o ≡ Some bytes → found ≡ spells bytes → decoded id found ≡ Gives row → none_decoded spells id there o ≡ Refuses there
none_refuses spells id there o bytes found row some is gives =
    none_is spells id there o bytes found some is ∙ bind_gives (decoded id found) (λ x. Refuses there) row gives

pub none_stops : {T : Type 0} (r : Result (Unit {0}) Stop) (e : Stop) (spells : List ℕ → Option T) (id : RowId) (there : DoneText) (o : Option (List ℕ)) (bytes : List ℕ) (found : Option T)
    → o ≡ Some bytes → found ≡ spells bytes → IsErrAnd r (λ y. y ≡ e) → Has {A = T} (Err e) (decoded id found) → Has r (none_decoded spells id there o)
none_stops r e spells id there o bytes found some is out has =
    let P : Plan (Unit {0}) → Type 0 = λ p. Has r p in
    subst P (sym (none_is spells id there o bytes found some is)) (exit_part r e (decoded id found) (λ x. Refuses there) out has)
