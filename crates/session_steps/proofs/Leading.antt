-- Turns that lead from sessions to others do so by each part of them.
use Rattle.std.proofs.Common.{List, [], ◌∷◌, ◌++◌, refl, subst}
use Rattle.session_steps.specs.Promise.{SessionTurn, Lead}
use Rattle.session_steps.specs.Sessions.{SessionsState}

-- turns lead on from where others lead
pub lead_on : (s t u : SessionsState) (xs ys : List SessionTurn) → Lead s xs t → Lead t ys u → Lead s (xs ++ ys) u
lead_on s t u [] ys there more = let P : SessionsState → Type 0 = λ v. Lead v ys u in subst P there more
lead_on s t u (x ∷ xs) ys (between, leads, rest) more = (between, leads, lead_on between t u xs ys rest more)

-- turns lead by sessions between any two parts of them
pub lead_cut : (xs ys : List SessionTurn) (s u : SessionsState) → Lead s (xs ++ ys) u → (t : SessionsState) × Lead s xs t × Lead t ys u
lead_cut [] ys s u lead = (s, refl, lead)
lead_cut (x ∷ xs) ys s u (between, leads, rest) =
    let cut = lead_cut xs ys between u rest in
    (cut.0, (between, leads, cut.1), cut.2)
