-- The listing of a journal grows by the lines of its entries.
use Rattle.std.proofs.Common.{◌≡◌, ℕ, ◌+◌, suc, ◌<◌, List, ◌∷◌, ◌++◌, length, drop, get_or, codes, Some, option_map, sym, ap, ◌∙◌}
use Rattle.std.specs.List.{slice_get}
use Rattle.std.proofs.Math.Numerals.{suc-eq-add-one}
use Rattle.std.proofs.Math.Seq.{drop-cons}
use Rattle.std.proofs.lemmas.List.{append_assoc}
use Rattle.std.proofs.lemmas.Option.{slice_get-get_or}
use Rattle.commit_journal.specs.Lines.{entry_line}
use Rattle.crash_base.specs.declared.scope.Scope.TheVariants.{App}
use Rattle.journal_model.specs.declared.entry.Entry.{Entry}
use Rattle.journal_model.specs.declared.entry.Entry.TheVariants.{Up}
use Rattle.line_steps.specs.Texts.{entries_text}

pub listed_more : (old text new line : List ℕ) (place : ℕ) (es : List Entry) → place < length es → option_map (entry_line place) (slice_get es place) ≡ Some line → text ≡ old ++ line → new ≡ text ++ codes "\n" → new ++ entries_text (place + 1) (drop (place + 1) es) ≡ old ++ entries_text place (drop place es)
listed_more old text new line place es within is first second =
    let e : Entry = get_or es place (Up App) in
    let rest : List ℕ = entries_text (place + 1) (drop (place + 1) es) in
    let there : Some (entry_line place e) ≡ Some line = sym (ap (option_map (entry_line place)) (slice_get-get_or es place (Up App) within)) ∙ is in
    let same : entry_line place e ≡ line = cc in
    let next : suc place ≡ place + 1 = suc-eq-add-one place in
    let parts : drop place es ≡ e ∷ drop (place + 1) es = drop-cons es place (Up App) within ∙ ap (λ k. e ∷ drop k es) next in
    let whole : new ≡ (old ++ entry_line place e) ++ codes "\n" = second ∙ ap (λ t. t ++ codes "\n") (first ∙ ap (λ l. old ++ l) (sym same)) in
    ap (λ n. n ++ rest) whole
    ∙ append_assoc (old ++ entry_line place e) (codes "\n") rest
    ∙ append_assoc old (entry_line place e) (codes "\n" ++ rest)
    ∙ sym (ap (λ p. old ++ p) (append_assoc (entry_line place e) (codes "\n") rest))
    ∙ sym (ap (λ es. old ++ entries_text place es) parts)
