-- What is read of a source, and written to a sink, in pieces.
use Rattle.std.proofs.Common.{◌≡◌, ℕ, List, ◌++◌, Option, ap, ◌∙◌}
use Rattle.outside.specs.Sink.{appended}
use Rattle.outside.specs.Source.{prepended}
use Rattle.outside.proofs.Prefixes.{appended_more, prepended_more}

-- bytes are read behind others
pub read_on : (begun now next : Option (List ℕ)) (first more : List ℕ) → begun ≡ prepended first now → now ≡ prepended more next → begun ≡ prepended (first ++ more) next
read_on begun now next first more was is = was ∙ ap (prepended first) is ∙ prepended_more first more next

-- bytes are written behind others
pub written_on : (begun now next : Option (List ℕ)) (first more : List ℕ) → now ≡ appended begun first → next ≡ appended now more → next ≡ appended begun (first ++ more)
written_on begun now next first more was is = is ∙ ap (λ (o : Option (List ℕ)). appended o more) was ∙ appended_more begun first more
