use Rattle.std.proofs.Common.{◌≡◌, ℕ, List, ◌++◌, string_bytes, ap, ◌∙◌, append_assoc}
use Rattle.workload.specs.Summary.{call_lines, refusal_lines, row_lines, digest_line, lines_of}
use Rattle.workload.proofs.summary.write_lines.Goals as goal

joined : (t a b c d : List ℕ) → (((t ++ a) ++ b) ++ c) ++ d ≡ t ++ (a ++ (b ++ (c ++ d)))
joined t a b c d = append_assoc ((t ++ a) ++ b) c d ∙ append_assoc (t ++ a) b (c ++ d) ∙ append_assoc t a (b ++ (c ++ d))

after : (t u v w x a b c d : List ℕ) → u ≡ t ++ a → v ≡ u ++ b → w ≡ v ++ c → x ≡ w ++ d → x ≡ t ++ (a ++ (b ++ (c ++ d)))
after t u v w x a b c d one two three four =
    four ∙ ap (λ y. y ++ d) (three ∙ ap (λ y. y ++ c) (two ∙ ap (λ y. y ++ b) one)) ∙ joined t a b c d

pub returns : goal.returns
unfolding lines_of
returns c =
    after (string_bytes c.args.text.now) (string_bytes c.write_calls.new.text) (string_bytes c.write_refusals.new.text) (string_bytes c.write_rows.new.text) (string_bytes c.write_digest.new.text) (call_lines c.args.tally) (refusal_lines c.args.tally) (row_lines c.args.entries c.args.rows) (digest_line c.args.table.now) c.in_ok-write_calls.ensures c.in_ok-write_refusals.ensures c.in_ok-write_rows.ensures c.in_ok-write_digest.ensures
