use Rattle.std.proofs.Common.{arith, append_assoc, ◌≡◌, ◌∙◌, ◌+◌, ◌<◌, ◌++◌, ◌∷◌, [], ap, get_or, length, map, set, suc, take}
use Rattle.brick_house.specs.Houses.{with_one, with_one_less}
use Rattle.brick_house.proofs.Houses.{split_to, split_get, split_length, split_lengths, split_set, split_cut, split_at, split_all, cut_all}
use Rattle.brick_house.proofs.house.split_each.Goals as goal

pub index_mut-requires : goal.index_mut-requires
index_mut-requires c =
    let many : length c.loop-place.seats.items ≡ length c.args.seats.now.items = ap length c.loop-place.invariant.seats ∙ split_length c.loop-place.place c.args.seats.now.items in
    let all = split_lengths c.args.locks.now c.args.seats.now.items c.requires.seats in
    omega (arith, c.loop-place.seats.ok.0, c.loop-place-test.true)

pub split-seat-requires-clause-seat : goal.split-seat-requires-clause-seat
split-seat-requires-clause-seat c =
    let all = split_lengths c.args.locks.now c.args.seats.now.items c.requires.seats in
    (split_at c.loop-place.place c.args.locks.now c.args.seats.now.items c.index-locks-place.result c.index_mut.result.now c.requires.seats (omega (arith, c.loop-place-test.true)) c.index-locks-place.is
    (c.index_mut.ensures.value ∙ (ap (λ ss. get_or ss c.loop-place.place c.index_mut.result.now) c.loop-place.invariant.seats ∙ split_get c.loop-place.place c.args.seats.now.items c.index_mut.result.now))).0

pub split-seat-requires-clause-home : goal.split-seat-requires-clause-home
split-seat-requires-clause-home c =
    let all = split_lengths c.args.locks.now c.args.seats.now.items c.requires.seats in
    (split_at c.loop-place.place c.args.locks.now c.args.seats.now.items c.index-locks-place.result c.index_mut.result.now c.requires.seats (omega (arith, c.loop-place-test.true)) c.index-locks-place.is
    (c.index_mut.ensures.value ∙ (ap (λ ss. get_or ss c.loop-place.place c.index_mut.result.now) c.loop-place.invariant.seats ∙ split_get c.loop-place.place c.args.seats.now.items c.index_mut.result.now))).1

pub split-seat-requires-clause-parts : goal.split-seat-requires-clause-parts
split-seat-requires-clause-parts c =
    let all = split_lengths c.args.locks.now c.args.seats.now.items c.requires.seats in (
      omega arith,
      (split_at c.loop-place.place c.args.locks.now c.args.seats.now.items c.index-locks-place.result c.index_mut.result.now c.requires.seats (omega (arith, c.loop-place-test.true)) c.index-locks-place.is
          (c.index_mut.ensures.value ∙ (ap (λ ss. get_or ss c.loop-place.place c.index_mut.result.now) c.loop-place.invariant.seats ∙ split_get c.loop-place.place c.args.seats.now.items c.index_mut.result.now))).2,
    )

pub loop-place-preserved : goal.loop-place-preserved
loop-place-preserved c =
    let at = c.loop-place.place in
    let old = c.args.seats.now.items in
    let s = c.index_mut.result.now in
    let all = split_lengths c.args.locks.now old c.requires.seats in
    let within : at < length old = omega (arith, c.loop-place-test.true) in
    let here : s ≡ get_or old at s = c.index_mut.ensures.value ∙ (ap (λ ss. get_or ss at s) c.loop-place.invariant.seats ∙ split_get at old s) in
    let next : suc at ≡ at + 1 = omega arith in
    record {
      seats = ap (set c.loop-place.seats.items at) c.split-seat.ensures.left ∙ (ap (λ ss. set ss at (with_one_less s)) c.loop-place.invariant.seats ∙ (split_set at old s within here ∙ ap (λ n. split_to n old) next));
      cut = c.push_reserved.ensures.items ∙ (ap (λ ss. ss ++ c.split-seat.result ∷ []) c.loop-place.invariant.cut ∙ (ap (λ x. (c.args.cut.now.items ++ map with_one (take at old)) ++ x ∷ []) c.split-seat.ensures.cut
          ∙ (append_assoc c.args.cut.now.items (map with_one (take at old)) (with_one s ∷ []) ∙ ap (λ ss. c.args.cut.now.items ++ ss) (split_cut at old s within here ∙ ap (λ n. map with_one (take n old)) next))));
      many = omega (arith, c.push_reserved.ensures.len, c.loop-place.invariant.many);
      room = c.push_reserved.ensures.capacity ∙ c.loop-place.invariant.room;
    }

pub returns-clause-left : goal.returns-clause-left
returns-clause-left c =
    let all = split_lengths c.args.locks.now c.args.seats.now.items c.requires.seats in
    c.loop-place.invariant.seats ∙ split_all c.loop-place.place c.args.seats.now.items (omega (arith, c.loop-place-test.false))

pub returns-clause-cut : goal.returns-clause-cut
returns-clause-cut c =
    let all = split_lengths c.args.locks.now c.args.seats.now.items c.requires.seats in
    c.loop-place.invariant.cut ∙ ap (λ ss. c.args.cut.now.items ++ ss) (cut_all c.loop-place.place c.args.seats.now.items (omega (arith, c.loop-place-test.false)))
