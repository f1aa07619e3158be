-- One turn of a sweep.
use Rattle.std.proofs.Common.{◌≡◌, ℕ, ◌+◌, true, cond, List, ◌∷◌, Some, None, option_map, filter, length, IsSome, sym, ap, subst, ◌∙◌}
use Rattle.std.specs.Map.{remove_entry}
use Rattle.crash_base.specs.declared.numbers.Moment.{Moment}
use Rattle.lease_wheel.specs.declared.wheel.WheelItem.{WheelItem}
use Rattle.lease_wheel.specs.Leased.{Leased}
use Rattle.lease_wheel.specs.Wheels.{is_due, AreInOrder}
use Rattle.brick_store.specs.declared.kept_map.Pair.{Pair}
use Rattle.brick_store.specs.Kept.{bytes_of, outlives}
use Rattle.brick_store.specs.Pairs.{kept_in}
use Rattle.brick_store.specs.Tied.{is_pair, value_at, pair_at, AreTied}
use Rattle.brick_store.proofs.Leases.{bytes_out, sweep_out}
use Rattle.brick_store.proofs.Tying.{Entries, first_lease, tied_popped}

some_same : {X : Type 0} (x y : X) → Some x ≡ Some y → x ≡ y
some_same x y is = cc

some_there : {X : Type 0} (x : X) → IsSome (Some x)
some_there x = search

-- the item that the wheel gives out is that of a lease, and what is left without both
module _ (moment : Moment) (es fs : Entries) (d : Leased) (ds : List Leased) (item : WheelItem) (tied : AreTied es (d ∷ ds)) (ordered : AreInOrder (d ∷ ds)) (is : d.item ≡ item) where
  pub item_there : IsSome (value_at (pair_at item) es)
  item_there =
      let r = first_lease es fs d ds tied ordered in
      subst IsSome (sym r.1 ∙ ap (λ i. value_at (pair_at i) es) is) (some_there r.0)

  pub sweep_step : is_due moment d ≡ true → (size : ℕ) → option_map (λ lease. length lease.value) (value_at (pair_at item) es) ≡ Some size
      → fs ≡ remove_entry (is_pair (pair_at item)) es → ((q : Pair) → value_at q fs ≡ cond (is_pair (pair_at item) q) None (value_at q es))
      → AreTied fs ds × (bytes_of (kept_in es) ≡ size + bytes_of (kept_in fs)) × (filter (outlives moment) (kept_in fs) ≡ filter (outlives moment) (kept_in es))
  sweep_step due size sized gone others =
      let r = first_lease es fs d ds tied ordered in
      let here : value_at (pair_at item) es ≡ Some r.0 = ap (λ i. value_at (pair_at i) es) (sym is) ∙ r.1 in
      let long : length r.0.value ≡ size = some_same (length r.0.value) size (ap (option_map (λ lease. length lease.value)) (sym here) ∙ sized) in
      let late = ap (is_due moment) r.2 ∙ due in (
        tied_popped es fs d ds tied ordered (λ q. others q ∙ ap (λ i. cond (is_pair (pair_at i) q) None (value_at q es)) (sym is)),
        bytes_out (pair_at item) es r.0 here ∙ (λ i. long i + bytes_of (kept_in (sym gone i))),
        ap (λ gs. filter (outlives moment) (kept_in gs)) gone ∙ sweep_out moment (pair_at item) es r.0 here late,
      )
