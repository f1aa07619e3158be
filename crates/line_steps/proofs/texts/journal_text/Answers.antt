use Rattle.std.proofs.Common.{◌++◌, ap, ◌∙◌, ◌<◌, length, List, ℕ, string_bytes, subst}
use Rattle.line_steps.proofs.Listing.{listed_more}
use Rattle.line_steps.proofs.texts.journal_text.Goals as goal

pub loop-place-preserved : goal.loop-place-preserved
loop-place-preserved c =
    let first = c.in_ok-push_str.ensures.bytes ∙ ap (λ (l : List ℕ). string_bytes c.loop-place.text ++ l) c.as_str.ensures.value in
    let within : c.loop-place.place < length c.args.journal.now.entries = subst (λ n. c.loop-place.place < n) c.len-place-end.ensures c.loop-place-test.true in
    listed_more (string_bytes c.loop-place.text) (string_bytes c.push_str.new.self) (string_bytes c.push_str-in-loop-place.new.self) (string_bytes c.in_ok-line.line) c.loop-place.place c.args.journal.now.entries within c.in_ok-line.ensures first c.in_ok-push_str-2.ensures.bytes ∙ c.loop-place.invariant
