-- Seats that are used, split and joined.
use Rattle.std.proofs.Common.{◌≡◌, ℕ, ◌+◌, arith, subst, List, [], ◌++◌, refl, sym, ap, ◌∙◌, append-nil}
use Rattle.std.proofs.lemmas.List.{append_assoc}
use mathlib.Core.List.{IsPrefix}
use Rattle.container_core.specs.Container.{ContainerValue}
use Rattle.container_core.specs.declared.history.Event.{Event}
use Rattle.container_server.specs.Seats.{AreOf, SeatsValue, SiteValue, WereUsed}
use Rattle.site_locks.specs.Holds.{InHold}
use Rattle.turn_lock.specs.Seats.{SeatValue}

prefix_trans : {X : Type 0} (xs ys zs : List X) → IsPrefix xs ys → IsPrefix ys zs → IsPrefix xs zs
prefix_trans xs ys zs a b = (a.0 ++ b.0, sym (append_assoc xs a.0 b.0) ∙ ap (λ l. l ++ b.0) a.1 ∙ b.1)

-- seats that were not used
pub used_none : (s : SeatsValue) → WereUsed s s
used_none s = record { parts = refl; seen = ([], append-nil s.container.seen) }

-- seats that were used and then used again
pub used_twice : (a b c : SeatsValue) → WereUsed a b → WereUsed b c → WereUsed a c
used_twice a b c p q = record { parts = q.parts ∙ p.parts; seen = prefix_trans a.container.seen b.container.seen c.container.seen p.seen q.seen }

-- seats that were split, used on both sides, and joined again
pub used_apart : (a s s' o o' n : SeatsValue) (cut : ℕ) → s.container.parts + cut ≡ a.container.parts → s.container.seen ≡ a.container.seen → o.container.parts ≡ cut
    → WereUsed s s' → WereUsed o o' → n.container.parts ≡ s'.container.parts + o'.container.parts → IsPrefix s'.container.seen n.container.seen → WereUsed a n
used_apart a s s' o o' n cut parts seen other mine theirs sum on = record {
  parts = omega (arith, mine.parts, theirs.parts, parts, other, sum);
  seen = subst (λ (l : List Event). IsPrefix l n.container.seen) seen (prefix_trans s.container.seen s'.container.seen n.container.seen mine.seen on);
}

-- seats behind a hold of the container
pub held_of : (site : SiteValue) (a n : SeatsValue) (So : ContainerValue → ContainerValue → Type 0) → AreOf site a → InHold a.container n.container So
    → n.windows ≡ a.windows → n.words ≡ a.words → n.pass ≡ a.pass → AreOf site n
held_of site a n So of (before, after, holds, so) windows words pass = record {
  container_is = ap (λ (s : SeatValue Event). s.lock) holds.hold.seat ∙ of.container_is;
  container_home = ap (λ (s : SeatValue Event). s.holds) holds.hold.seat;
  windows_are = ap (λ w. w.lock) windows ∙ of.windows_are;
  windows_home = ap (λ w. w.holds) windows ∙ of.windows_home;
  words_are = ap (λ w. w.words) words ∙ of.words_are;
  pass_is = ap (λ p. p.queue) pass ∙ of.pass_is;
}

pub held_used : (a n : SeatsValue) (So : ContainerValue → ContainerValue → Type 0) → InHold a.container n.container So → IsPrefix a.container.seen n.container.seen → WereUsed a n
held_used a n So (before, after, holds, so) seen = record { parts = ap (λ (s : SeatValue Event). s.parts) holds.hold.seat; seen = seen }

-- seats that were split, used, and joined have seen no less
pub seen_on : (a s u n : SeatsValue) → s.container.seen ≡ a.container.seen → WereUsed s u → IsPrefix u.container.seen n.container.seen → IsPrefix a.container.seen n.container.seen
seen_on a s u n same used on = subst (λ (l : List Event). IsPrefix l n.container.seen) same (prefix_trans s.container.seen u.container.seen n.container.seen used.seen on)
