use Rattle.std.proofs.Common.{◌≡◌, [], ◌∷◌, ◌++◌, codes, refl, append_assoc}
use Rattle.auction_rows.specs.Parts.{caller, purchases, site_components}
use Rattle.auction_rows.proofs.site.add_components.Goals as goal

pub returns : goal.returns
unfolding site_components
returns c =
    let e1 : c.add_caller.new.components ≡ c.args.components.now ++ (caller (codes "Web") ∷ []) = c.in_ok-add_caller.ensures in
    let e2 : c.add_caller-2.new.components ≡ c.add_caller.new.components ++ (caller (codes "Users") ∷ []) = c.in_ok-add_caller-2.ensures in
    let e3 : c.add_caller-3.new.components ≡ c.add_caller-2.new.components ++ (caller (codes "Numbers") ∷ []) = c.in_ok-add_caller-3.ensures in
    let e4 : c.add_caller-4.new.components ≡ c.add_caller-3.new.components ++ (caller (codes "Items") ∷ []) = c.in_ok-add_caller-4.ensures in
    let e5 : c.add_caller-5.new.components ≡ c.add_caller-4.new.components ++ (caller (codes "Categories") ∷ []) = c.in_ok-add_caller-5.ensures in
    let e6 : c.add_caller-6.new.components ≡ c.add_caller-5.new.components ++ (caller (codes "Bids") ∷ []) = c.in_ok-add_caller-6.ensures in
    let e7 : c.add_purchases.new.components ≡ c.add_caller-6.new.components ++ (purchases ∷ []) = c.in_ok-add_purchases.ensures in
    let e8 : c.add_caller-7.new.components ≡ c.add_purchases.new.components ++ (caller (codes "Feedback") ∷ []) = c.in_ok-add_caller-7.ensures in
    simp (e8, e7, e6, e5, e4, e3, e2, e1, append_assoc) refl
