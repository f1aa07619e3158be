-- How often something is drawn, and in which order.
use Rattle.std.specs.Prelude.{ℕ, ◌==◌, ◌&&◌, nat_le, Bool, true, List, [], ◌∷◌, count_by}
use Rattle.request_decisions.specs.declared.draws.DrawKind.{DrawKind}
use Rattle.request_decisions.specs.declared.draws.DrawKind.TheVariants.{Request, Token, KeyWord, Fresh, Read, Write}

-- the number of a kind of draw
abbrev pub kind_number : DrawKind → ℕ
kind_number Request = 0
kind_number Token = 1
kind_number KeyWord = 2
kind_number Fresh = 3
kind_number Read = 4
kind_number Write = 5

-- whether two kinds of draws are one
abbrev pub is_kind : DrawKind → DrawKind → Bool
is_kind one other = kind_number one == kind_number other

-- how often a kind is among these draws
abbrev pub count_of : DrawKind → List DrawKind → ℕ
count_of kind drawn = count_by (λ (k : DrawKind). is_kind k kind) drawn

-- whether no number is less than the one before it
abbrev pub ascends : List ℕ → Bool
ascends [] = true
ascends (n ∷ []) = true
ascends (n ∷ m ∷ ns) = nat_le n m && ascends (m ∷ ns)
