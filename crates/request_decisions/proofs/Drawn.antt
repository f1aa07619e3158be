-- Draws in a row, and one behind them.
use Rattle.std.proofs.Common.{◌≡◌, ℕ, ◌≤◌, ◌-◌, List, [], ◌∷◌, ◌++◌, length, take, drop, get_or, Option, refl, sym, ap, subst, ◌∙◌, arith}
use Rattle.std.proofs.lemmas.List.{take_rest}
use Rattle.request_decisions.specs.Drawing.{DrawsOne, HasDrawn}
use Rattle.request_decisions.specs.Draws.{is_serial, kinds_of}
use Rattle.request_decisions.specs.declared.draws.Draw.{Draw}
use Rattle.request_decisions.specs.declared.draws.DrawKind.{DrawKind}

-- the kinds of draws with one more, before those that are left
kinds_more : (ds : List Draw) (d : Draw) (rest : List DrawKind) → kinds_of (ds ++ d ∷ []) ++ rest ≡ kinds_of ds ++ d.kind ∷ rest
kinds_more [] d rest = refl
kinds_more (e ∷ ds) d rest = ap (λ (ks : List DrawKind). e.kind ∷ ks) (kinds_more ds d rest)

module _ {S R : Type 0} (looks : S → ℕ → Option ℕ → S → Type 0) (gives : R → ℕ → R → Type 0) where
  -- what is drawn behind others
  drawn_more : (s : S) (r : R) (ds : List Draw) (t : S) (q : R) (d : Draw) (u : S) (p : R)
      → HasDrawn looks gives s r ds t q → DrawsOne looks gives (is_serial d.kind) t q d.number u p
      → HasDrawn looks gives s r (ds ++ d ∷ []) u p
  drawn_more s r [] t q d u p h one =
      let here : DrawsOne looks gives (is_serial d.kind) s r d.number u p =
      subst (λ (x : S). DrawsOne looks gives (is_serial d.kind) x r d.number u p) h.0
      (subst (λ (y : R). DrawsOne looks gives (is_serial d.kind) t y d.number u p) h.1 one) in
      (u, p, here, (refl, refl))
  drawn_more s r (e ∷ ds) t q d u p h one = (h.0, h.1, h.2, drawn_more h.0 h.1 ds t q d u p h.3 one)

  -- one more is drawn of those that are left
  pub step : (s : S) (r : R) (kinds rest : List DrawKind) (ds new : List Draw) (none : DrawKind) (number : ℕ) (t : S) (q : R) (u : S) (p : R)
      → 1 ≤ length rest → kinds_of ds ++ rest ≡ kinds → HasDrawn looks gives s r ds t q
      → DrawsOne looks gives (is_serial (get_or rest 0 none)) t q number u p
      → new ≡ ds ++ record { kind = get_or rest 0 none; number = number } ∷ []
      → (kinds_of new ++ take (length rest - 1) (drop 1 rest) ≡ kinds) × HasDrawn looks gives s r new u p
  step s r kinds [] ds new none number t q u p some are drawn one is = absurd (omega (arith, some))
  step s r kinds (k ∷ ks) ds new none number t q u p some are drawn one is =
      let d : Draw = record { kind = k; number = number } in
      let left : take (length (k ∷ ks) - 1) ks ≡ ks = take_rest (k ∷ ks) 1 in (
        ap (λ (ns : List Draw). kinds_of ns ++ take (length (k ∷ ks) - 1) ks) is
            ∙ ap (λ (ls : List DrawKind). kinds_of (ds ++ d ∷ []) ++ ls) left
            ∙ kinds_more ds d ks ∙ are,
        subst (λ (ns : List Draw). HasDrawn looks gives s r ns u p) (sym is) (drawn_more s r ds t q d u p drawn one),
      )
