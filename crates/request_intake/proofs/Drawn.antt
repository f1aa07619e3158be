-- The serial numbers among what was drawn.
use Rattle.std.proofs.Common.{◌≡◌, ℕ, Bool, true, false, if◌then◌else◌, List, [], ◌∷◌, map, Option, Some, refl, sym, ap, subst}
use Rattle.std.specs.List.{filter_map}
use Rattle.std.specs.Prelude.{filter}
use Rattle.outside.specs.Serials.{AllDiffer, Draws as DrawsSerials}
use Rattle.request_decisions.specs.Drawing.{DrawsOne, HasDrawn}
use Rattle.request_decisions.specs.Draws.{is_serial}
use Rattle.request_decisions.specs.declared.draws.Draw.{Draw}
use Rattle.request_intake.specs.Intakes.{Gives, Looks, serials_in}

-- the numbers of a list, told as each that is there
all_there : (ns : List ℕ) → filter_map (λ (n : Option ℕ). n) (map Some ns) ≡ ns
all_there [] = refl
all_there (n ∷ ns) = ap (λ (ms : List ℕ). n ∷ ms) (all_there ns)

module _ {S R : Type 0} (looks : Looks S) (gives : Gives R) where
  pub serial_draws : (r : R) (s : S) (drawn : List Draw) (t : S) (q : R) → HasDrawn looks gives s r drawn t q
      → DrawsSerials looks s (map Some (serials_in drawn)) t
  serial_draws r s [] t q has = sym has.0
  serial_draws r s (d ∷ ds) t q has =
      by_kind (is_serial d.kind) has.2 (serial_draws has.1 has.0 ds t q has.3) where
        by_kind : (test : Bool) → DrawsOne looks gives test s r d.number has.0 has.1
            → DrawsSerials looks has.0 (map Some (serials_in ds)) t
            → DrawsSerials looks s (map Some (map (λ (e : Draw). e.number) (if test then d ∷ filter (λ (e : Draw). is_serial e.kind) ds else filter (λ (e : Draw). is_serial e.kind) ds))) t
        by_kind true one more = (one.0, has.0, one.2, more)
        by_kind false one more = subst (λ (x : S). DrawsSerials looks x (map Some (serials_in ds)) t) one.1 more

  pub serials_apart : ((old new : S) (draws : List (Option ℕ)) → DrawsSerials looks old draws new
      → AllDiffer (filter_map (λ (n : Option ℕ). n) draws))
      → (r : R) (s : S) (drawn : List Draw) (t : S) (q : R) → HasDrawn looks gives s r drawn t q → AllDiffer (serials_in drawn)
  serials_apart differ r s drawn t q has =
      subst AllDiffer (all_there (serials_in drawn)) (differ s t (map Some (serials_in drawn)) (serial_draws r s drawn t q has))
