-- What a legal journal shows of its commits.
use Rattle.std.proofs.Common.{◌≡◌, ℕ, ◌<◌, ◌≤◌, Bool, true, false, List, length, take, Some, All, slice_get, refl, sym, ap, ◌∙◌, arith}
use Rattle.std.proofs.lemmas.List.{take-take, length-take-le}
use Rattle.std.proofs.lemmas.Option.{slice_get_within}
use Rattle.crash_base.specs.declared.rows.RowWrite.{RowWrite}
use Rattle.crash_base.specs.declared.scope.Scope.{Scope}
use Rattle.crash_base.specs.Scope.{holds}
use Rattle.journal_model.specs.declared.entry.CommitEntry.{CommitEntry}
use Rattle.journal_model.specs.declared.entry.Entry.{Entry}
use Rattle.journal_model.specs.declared.entry.Entry.TheVariants.{Commit, Down}
use Rattle.journal_model.specs.declared.entry.Touch.{Touch}
use Rattle.journal_model.specs.Legal.{IsLegal}
use Rattle.journal_model.specs.Reboots.{generation, down_of}
use Rattle.journal_model.specs.Revoked.{IsUnrebooted}
use Rattle.journal_model.specs.Stale.{IsTouch, IsLive}
use Rattle.journal_model.proofs.Places.{slice_get-take}

-- a touch that is live where a commit is shows the group unrebooted from its front to there
unrebooted : (es : List Entry) (place : ℕ) (t : Touch) → place ≤ length es → IsTouch (take place es) t → IsLive (take place es) t → IsUnrebooted es t.group.0 t.front.0 place
unrebooted es place t inside touch live =
    let short : length (take place es) ≡ place = length-take-le place es inside in
    let within : t.front.0 ≤ place = omega (arith, touch.within, short) in
    let front : take t.front.0 (take place es) ≡ take t.front.0 es = take-take t.front.0 place es within in
    record {
      within = within;
      no_down = λ i s since before is. go i s since before is (holds s t.group.0) refl;
      generations = ap (λ xs. generation xs t.group.0) (sym front) ∙ sym touch.had ∙ live.present;
      up_before = ap (λ xs. down_of xs t.group.0) (sym front) ∙ touch.up;
      up = live.up;
    }
  where
    go : (i : ℕ) (s : Scope) → t.front.0 ≤ i → i < place → slice_get es i ≡ Some (Down s) → (b : Bool) → holds s t.group.0 ≡ b → holds s t.group.0 ≡ false
    go i s since before is true held = absurd (live.unrebooted (record { place = i; since = since; scope = s; down = slice_get-take es place i (Down s) before is; holding = held }))
    go i s since before is false held = held

pub commits_unrebooted : (base : List RowWrite) (es : List Entry) (place : ℕ) (e : CommitEntry) → IsLegal base es → slice_get es place ≡ Some (Commit e) → All (λ t. IsUnrebooted es t.group.0 t.front.0 place) e.touched
commits_unrebooted base es place e legal is =
    let may = legal.each place (Commit e) is in
    let inside : place < length es = slice_get_within es place (Commit e) is in
    λ i d within. unrebooted es place _ (omega arith) (may.touches i d within) (may.live i d within)
