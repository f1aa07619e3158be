use Rattle.std.proofs.Common.{◌≡◌, List, length, ap, sym, subst, ◌∙◌, arith, vec_capacity}
use Rattle.std.specs.Global.{Vec}
use Rattle.commit_journal.specs.declared.made.Made.{Made}
use Rattle.commit_journal.specs.Made.{AreSorted, place_in, or_else}
use Rattle.commit_journal.proofs.LateOnes.{made_merged}
use Rattle.commit_journal.proofs.requests.Requests.merge.Goals as goal

pub returns-clause-kept : goal.returns-clause-kept
returns-clause-kept c =
    let old = c.args.self.now in
    let ms = c.as_slice.ensures.value in
    let ls = c.as_slice-2.ensures.value in
    let most : c.swap.new.x ≡ c.merge.new.merged = c.swap.ensures.x_after in
    let merged : c.swap.new.y ≡ old.most = c.swap.ensures.y_after in
    let sorted = subst (λ (v : Vec Made). AreSorted v.items) (sym most) c.merge.ensures.sorted in
    let capacity : vec_capacity c.swap.new.x ≡ vec_capacity c.merge.new.merged = ap (λ (v : Vec Made). vec_capacity v) most in
    let kept : vec_capacity c.swap.new.y ≡ vec_capacity old.most = ap (λ (v : Vec Made). vec_capacity v) merged in
    made_merged old c.swap.new.x c.clear.new.self c.clear-2.new.self c.requires.order sorted
    (λ q.
    ap (λ (v : Vec Made). place_in q v.items) most ∙ c.merge.ensures.places q
    ∙ ap (λ xs. or_else (place_in q xs) (place_in q c.as_slice-2.result.now)) ms
    ∙ ap (λ xs. or_else (place_in q old.most.items) (place_in q xs)) ls)
    (omega (arith, ap (λ (v : Vec Made). length v.items) most, ap (λ (xs : List Made). length xs) ms, ap (λ (xs : List Made). length xs) ls, c.merge.ensures.few))
    (omega (arith, capacity, c.merge.ensures.capacity))
    c.clear.ensures.items
    (omega (arith, kept, c.clear.ensures.capacity))
    c.clear-2.ensures.items
    (omega (arith, c.clear-2.ensures.capacity))
