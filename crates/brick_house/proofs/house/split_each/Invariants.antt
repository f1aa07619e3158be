use Rattle.std.proofs.Common.{◌≡◌, ◌+◌, ◌++◌, map, take}
use Rattle.std.specs.Vec.{vec_len, vec_capacity}
use Rattle.brick_house.specs.Houses.{with_one}
use Rattle.brick_house.proofs.Houses.{split_to}
use Rattle.brick_house.proofs.house.split_each.Given as goal

abbrev pub invariant-loop-place : goal.invariant-loop-place
invariant-loop-place l = record {
  seats : l.seats.items ≡ split_to l.place l.fn.seats.items;
  cut : l.cut.items ≡ l.fn.cut.items ++ map with_one (take l.place l.fn.seats.items);
  many : vec_len l.cut ≡ vec_len l.fn.cut + l.place;
  room : vec_capacity l.cut ≡ vec_capacity l.fn.cut;
}
