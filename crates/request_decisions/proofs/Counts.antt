-- Each draw comes as often as there is cause for it, and in its order.
use Rattle.std.proofs.Common.{◌≡◌, ◌+◌, Bool, true, false, cond, List, [], ◌∷◌, ◌++◌, map, length, refl, sym, ap, ◌∙◌, arith}
use Rattle.std.specs.Prelude.{filter, is_none, is_some}
use Rattle.std.proofs.lemmas.List.Sums.{sum_by-cons}
use Rattle.request_decisions.specs.Calls.{numbers_for}
use Rattle.request_decisions.specs.Counts.{ascends, count_of, is_kind, kind_number}
use Rattle.request_decisions.specs.Draws.{AreDrawn, begins_session, drawn_for, kinds_of, shows_form, where_so}
use Rattle.request_decisions.specs.declared.draws.Draw.{Draw}
use Rattle.request_decisions.specs.declared.decision.Order.{Order}
use Rattle.request_decisions.specs.declared.draws.DrawKind.{DrawKind}
use Rattle.request_decisions.specs.declared.draws.DrawKind.TheVariants.{Request, Token, KeyWord, Fresh, Read, Write}

-- the draws of a request: whether it has no number, shows a form, begins a session, and has a cookie
abbrev drawn : Bool → Bool → Bool → Bool → List DrawKind
drawn bare form begins cookie =
    where_so bare (Request ∷ [])
    ++ (where_so form (Token ∷ [])
    ++ (where_so begins (KeyWord ∷ KeyWord ∷ [])
    ++ (Fresh ∷ where_so cookie (Read ∷ [])
    ++ (Write ∷ []))))

abbrev Counts : Bool → Bool → Bool → Bool → List DrawKind → Type 0
Counts bare form begins cookie kinds =
    (count_of Request kinds ≡ cond bare 1 0) × (count_of Token kinds ≡ cond form 1 0)
    × (count_of KeyWord kinds ≡ cond begins 2 0) × (count_of Read kinds ≡ cond cookie 1 0)
    × (count_of Fresh kinds ≡ 1) × (count_of Write kinds ≡ 1) × (ascends (map kind_number kinds) ≡ true)

counts : (bare form begins cookie : Bool) → Counts bare form begins cookie (drawn bare form begins cookie)
counts true true true true = (refl, refl, refl, refl, refl, refl, refl)
counts true true true false = (refl, refl, refl, refl, refl, refl, refl)
counts true true false true = (refl, refl, refl, refl, refl, refl, refl)
counts true true false false = (refl, refl, refl, refl, refl, refl, refl)
counts true false true true = (refl, refl, refl, refl, refl, refl, refl)
counts true false true false = (refl, refl, refl, refl, refl, refl, refl)
counts true false false true = (refl, refl, refl, refl, refl, refl, refl)
counts true false false false = (refl, refl, refl, refl, refl, refl, refl)
counts false true true true = (refl, refl, refl, refl, refl, refl, refl)
counts false true true false = (refl, refl, refl, refl, refl, refl, refl)
counts false true false true = (refl, refl, refl, refl, refl, refl, refl)
counts false true false false = (refl, refl, refl, refl, refl, refl, refl)
counts false false true true = (refl, refl, refl, refl, refl, refl, refl)
counts false false true false = (refl, refl, refl, refl, refl, refl, refl)
counts false false false true = (refl, refl, refl, refl, refl, refl, refl)
counts false false false false = (refl, refl, refl, refl, refl, refl, refl)

counted : (o : Order) → Counts (is_none o.number) (shows_form o.action) (begins_session o) (is_some o.cookie) (drawn_for o)
unfolding drawn_for
counted o = counts (is_none o.number) (shows_form o.action) (begins_session o) (is_some o.cookie)

pub draws_ascend : (o : Order) → ascends (map kind_number (drawn_for o)) ≡ true
draws_ascend o = (counted o).6

pub request_cause : (o : Order) → count_of Request (drawn_for o) ≡ cond (is_none o.number) 1 0
request_cause o = (counted o).0

pub token_cause : (o : Order) → count_of Token (drawn_for o) ≡ cond (shows_form o.action) 1 0
token_cause o = (counted o).1

pub key_cause : (o : Order) → count_of KeyWord (drawn_for o) ≡ cond (begins_session o) 2 0
key_cause o = (counted o).2

pub read_cause : (o : Order) → count_of Read (drawn_for o) ≡ cond (is_some o.cookie) 1 0
read_cause o = (counted o).3

pub other_causes : (o : Order) → (count_of Fresh (drawn_for o) ≡ 1) × (count_of Write (drawn_for o) ≡ 1)
other_causes o = ((counted o).4, (counted o).5)

-- as many numbers were drawn for a kind as its draws are
as_many : (kind : DrawKind) (drawn : List Draw) → length (numbers_for kind drawn) ≡ count_of kind (kinds_of drawn)
as_many kind [] = refl
as_many kind (d ∷ ds) =
    by (is_kind d.kind kind) (as_many kind ds)
    ∙ sym (sum_by-cons (λ (k : DrawKind). cond (is_kind k kind) 1 0) d.kind (kinds_of ds))
  where
    by : (test : Bool) → length (numbers_for kind ds) ≡ count_of kind (kinds_of ds)
        → length (map (λ (x : Draw). x.number) (cond test (d ∷ filter (λ (x : Draw). is_kind x.kind kind) ds) (filter (λ (x : Draw). is_kind x.kind kind) ds)))
        ≡ cond test 1 0 + count_of kind (kinds_of ds)
    by true e = omega (arith, e)
    by false e = omega (arith, e)

pub all_drawn : (o : Order) (drawn : List Draw) (kind : DrawKind) → AreDrawn o drawn
    → length (numbers_for kind drawn) ≡ count_of kind (drawn_for o)
all_drawn o drawn kind are = as_many kind drawn ∙ ap (count_of kind) are
