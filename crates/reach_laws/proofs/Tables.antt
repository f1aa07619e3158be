-- A reach has the tables that may be read, listed and put.
use Rattle.std.proofs.Common.{◌≡◌, ℕ, ◌||◌, Bool, true, false, refl}
use Rattle.auction_site.specs.Reached.{Reach, is_among}
use Rattle.reach_laws.specs.Uses.{has_table}

first_of : (a b : Bool) → a ≡ true → (a || b) ≡ true
first_of true b is = refl
first_of false b is = absurd (cc)

second_of : (a b : Bool) → b ≡ true → (a || b) ≡ true
second_of true b is = refl
second_of false b is = is

pub read_table : (r : Reach) (t : ℕ) → is_among r.reads t ≡ true → has_table r t ≡ true
read_table r t is = first_of (is_among r.reads t) (is_among r.lists t || is_among r.puts t) is

pub listed_table : (r : Reach) (t : ℕ) → is_among r.lists t ≡ true → has_table r t ≡ true
listed_table r t is = second_of (is_among r.reads t) (is_among r.lists t || is_among r.puts t) (first_of (is_among r.lists t) (is_among r.puts t) is)

pub put_table : (r : Reach) (t : ℕ) → is_among r.puts t ≡ true → has_table r t ≡ true
put_table r t is = second_of (is_among r.reads t) (is_among r.lists t || is_among r.puts t) (second_of (is_among r.lists t) (is_among r.puts t) is)
