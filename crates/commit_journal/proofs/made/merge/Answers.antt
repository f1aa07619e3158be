use Rattle.std.proofs.Common.{◌≡◌, ◌+◌, ◌<◌, suc, [], ◌∷◌, List, ap, sym, subst, ◌∙◌, arith, get_or, drop, length, length-append, rules}
use Rattle.std.proofs.Math.Seq.{drop-cons}
use Rattle.std.proofs.lemmas.List.{drop_all}
use Rattle.commit_journal.specs.declared.made.Made.{Made}
use Rattle.commit_journal.specs.Made.{AreSorted, place_in}
use Rattle.commit_journal.proofs.Merging.{merging_first, merging_next, merging_last, left_sorted}
use Rattle.commit_journal.proofs.made.merge.Goals as goal

pub loop-done-init : goal.loop-done-init
loop-done-init c = record {
  within = omega arith;
  merging = merging_first c.args.made.now c.args.others.now c.args.merged.now.items c.requires.empty c.requires.sorted c.requires.sorted_others;
  capacity = omega arith;
}

pub merge_one-left-requires-clause-sorted : goal.merge_one-left-requires-clause-sorted
merge_one-left-requires-clause-sorted c = left_sorted c.args.made.now c.args.others.now _ _ _ c.loop-done.invariant.merging

pub merge_one-left-requires-clause-room : goal.merge_one-left-requires-clause-room
merge_one-left-requires-clause-room c = omega (arith, length-append {A = Made}, c.loop-done.invariant.merging.few, c.loop-done.invariant.capacity, c.requires.room)

pub loop-done-preserved : goal.loop-done-preserved
loop-done-preserved c =
    let k = c.loop-done.done in
    let made = c.args.made.now in
    let others = c.args.others.now in
    let none : Made = record { request = record { boot = 0; serial = 0 }; place = 0 } in
    let one = get_or others k none in
    let new = c.merge_one-left.new.merged.items in
    let left = c.merge_one-left.result.now in
    let within : k < length others = search rules in
    let next : suc k ≡ k + 1 = omega arith in
    let rest : drop k others ≡ one ∷ drop (suc k) others = drop-cons others k none within in
    record {
      within = omega arith;
      merging = merging_next made others _ _ _ (drop (suc k) others) _ one new left c.loop-done.invariant.merging rest (ap (λ j. drop j others) next) c.merge_one-left.ensures.whole c.merge_one-left.ensures.before;
      capacity = omega (arith, c.merge_one-left.ensures.capacity, c.loop-done.invariant.capacity);
    }

pub append-requires : goal.append-requires
append-requires c = omega (arith, length-append {A = Made}, c.loop-done.invariant.merging.few, c.loop-done.invariant.capacity, c.requires.room)

pub returns-clause-sorted : goal.returns-clause-sorted
returns-clause-sorted c = subst AreSorted (sym c.append.ensures.items) c.loop-done.invariant.merging.sorted

pub returns-clause-places : goal.returns-clause-places
returns-clause-places c = λ q.
    let others = c.args.others.now in
    let none : drop c.loop-done.done others ≡ [] = drop_all c.loop-done.done others (omega arith) in
    ap (λ xs. place_in q xs) c.append.ensures.items ∙ merging_last c.args.made.now others _ _ _ q c.loop-done.invariant.merging none

pub returns-clause-few : goal.returns-clause-few
returns-clause-few c = omega (arith, ap (λ (xs : List Made). length xs) c.append.ensures.items, c.loop-done.invariant.merging.few)
