-- Which names stand when a node has left.
use Rattle.std.proofs.Common.{◌≡◌, ℕ, ◌<◌, ◌&&◌, List, [], ◌∷◌, ◌++◌, IsTrue, ltb, refl, sym, ap, subst, ◌∙◌, arith}
use denote.RawPtr.{Ptr}
use Rattle.lease_list.specs.Leases.{Lease, lease, all_above, rises, Stands, Leaves, HasValue}
use Rattle.lease_list.proofs.Facts.{and_out, above_at}

module _ {T : Type 0} where
  -- the node m stands among the nodes
  abbrev Has : List (Lease T) → Lease T → Type 0
  Has ns m = (us : List (Lease T)) × (vs : List (Lease T)) × (ns ≡ us ++ m ∷ vs)

  -- the numbers behind the first node are above its own
  first_below : (k : ℕ) (n : Lease T) (ns : List (Lease T)) → IsTrue (rises k (n ∷ ns)) → IsTrue (all_above n.number ns) × IsTrue (rises k ns)
  first_below k n ns t = and_out (all_above n.number ns) (rises k ns) (and_out (ltb n.number k) (all_above n.number ns && rises k ns) t).1

  -- no node behind the first has its number
  above_first : (k : ℕ) (n : Lease T) (us : List (Lease T)) (m : Lease T) (vs : List (Lease T)) → IsTrue (rises k (n ∷ (us ++ m ∷ vs))) → n.number < m.number
  above_first k n us m vs t = above_at n.number us m vs (first_below k n (us ++ m ∷ vs) t).0

  -- two nodes of one number are one
  same : (k : ℕ) (xs : List (Lease T)) (n : Lease T) (ys us : List (Lease T)) (m : Lease T) (vs : List (Lease T)) → IsTrue (rises k (xs ++ n ∷ ys)) → xs ++ n ∷ ys ≡ us ++ m ∷ vs
      → n.number ≡ m.number → n ≡ m
  same k [] n ys [] m vs t e is = cc
  same k [] n ys (u ∷ us) m vs t e is =
      let rest : ys ≡ us ++ m ∷ vs = cc in
      let below : n.number < m.number = above_first k n us m vs (subst (λ zs. IsTrue (rises k (n ∷ zs))) rest t) in
      absurd (omega (arith, below, is))
  same k (x ∷ xs) n ys [] m vs t e is =
      let first : x ≡ m = cc in
      let number : x.number ≡ m.number = ap (λ z. z.number) first in
      let below : x.number < n.number = above_first k x xs n ys t in
      absurd (omega (arith, below, is, number))
  same k (x ∷ xs) n ys (u ∷ us) m vs t e is =
      let rest : xs ++ n ∷ ys ≡ us ++ m ∷ vs = cc in same k xs n ys us m vs (first_below k x (xs ++ n ∷ ys) t).1 rest is

  -- a node that is cut out has no other of its number
  gone : (k : ℕ) (xs : List (Lease T)) (n : Lease T) (ys us : List (Lease T)) (m : Lease T) (vs : List (Lease T)) → IsTrue (rises k (xs ++ n ∷ ys)) → xs ++ ys ≡ us ++ m ∷ vs
      → n.number ≡ m.number → ⊥
  gone k [] n ys us m vs t e is =
      let below : n.number < m.number = above_first k n us m vs (subst (λ zs. IsTrue (rises k (n ∷ zs))) e t) in
      absurd (omega (arith, below, is))
  gone k (x ∷ xs) n ys [] m vs t e is =
      let first : x ≡ m = cc in
      let number : x.number ≡ m.number = ap (λ z. z.number) first in
      let below : x.number < n.number = above_first k x xs n ys t in
      absurd (omega (arith, below, is, number))
  gone k (x ∷ xs) n ys (u ∷ us) m vs t e is =
      let rest : xs ++ ys ≡ us ++ m ∷ vs = cc in gone k xs n ys us m vs (first_below k x (xs ++ n ∷ ys) t).1 rest is

  -- a node of another number than one that is cut out stays
  stays : (xs : List (Lease T)) (n : Lease T) (ys us : List (Lease T)) (m : Lease T) (vs : List (Lease T)) → xs ++ n ∷ ys ≡ us ++ m ∷ vs → (m.number ≡ n.number → ⊥) → Has (xs ++ ys) m
  stays [] n ys [] m vs e other = let first : m ≡ n = cc in absurd (other (ap (λ z. z.number) first))
  stays [] n ys (u ∷ us) m vs e other = let rest : ys ≡ us ++ m ∷ vs = cc in (us, vs, rest)
  stays (x ∷ xs) n ys [] m vs e other = let first : x ≡ m = cc in ([], xs ++ ys, ap (λ z. z ∷ (xs ++ ys)) first)
  stays (x ∷ xs) n ys (u ∷ us) m vs e other =
      let rest : xs ++ n ∷ ys ≡ us ++ m ∷ vs = cc in
      let on : Has (xs ++ ys) m = stays xs n ys us m vs rest other in (x ∷ on.0, on.1, ap (λ zs. x ∷ zs) on.2)

  -- and what stays was there
  stood : (xs : List (Lease T)) (n : Lease T) (ys us : List (Lease T)) (m : Lease T) (vs : List (Lease T)) → xs ++ ys ≡ us ++ m ∷ vs → Has (xs ++ n ∷ ys) m
  stood [] n ys us m vs e = (n ∷ us, vs, ap (λ zs. n ∷ zs) e)
  stood (x ∷ xs) n ys [] m vs e = let first : x ≡ m = cc in ([], xs ++ n ∷ ys, ap (λ z. z ∷ (xs ++ n ∷ ys)) first)
  stood (x ∷ xs) n ys (u ∷ us) m vs e =
      let rest : xs ++ ys ≡ us ++ m ∷ vs = cc in
      let on : Has (xs ++ n ∷ ys) m = stood xs n ys us m vs rest in (x ∷ on.0, on.1, ap (λ zs. x ∷ zs) on.2)

  pub has_one : (next : ℕ) (ns : List (Lease T)) (k : ℕ) (p q : Ptr) (v w : T) → IsTrue (rises next ns) → HasValue ns k p v → HasValue ns k q w → (p ≡ q) × (v ≡ w)
  has_one next ns k p q v w t (xs, ys, here) (us, vs, there) =
      let is : lease k p v ≡ lease k q w = same next xs (lease k p v) ys us (lease k q w) vs (subst (λ zs. IsTrue (rises next zs)) here t) (sym here ∙ there) refl in
      (ap (λ n. n.at) is, ap (λ n. n.value) is)

  pub has_left : (next : ℕ) (old new : List (Lease T)) (k : ℕ) (p q : Ptr) (v : T) → IsTrue (rises next old) → Leaves old k p v new → Stands new k q → ⊥
  has_left next old new k p q v t (xs, ys, was, now) (us, w, vs, stands) =
      gone next xs (lease k p v) ys us (lease k q w) vs (subst (λ zs. IsTrue (rises next zs)) was t) (sym now ∙ stands) refl

  pub has_stayed : (old new : List (Lease T)) (k j : ℕ) (p q : Ptr) (v w : T) → Leaves old k p v new → (j ≡ k → ⊥) → HasValue old j q w → HasValue new j q w
  has_stayed old new k j p q v w (xs, ys, was, now) other (us, vs, here) =
      let on : Has (xs ++ ys) (lease j q w) = stays xs (lease k p v) ys us (lease j q w) vs (sym was ∙ here) other in (on.0, on.1, now ∙ on.2)

  pub had_stood : (old new : List (Lease T)) (k j : ℕ) (p q : Ptr) (v w : T) → Leaves old k p v new → HasValue new j q w → HasValue old j q w
  had_stood old new k j p q v w (xs, ys, was, now) (us, vs, here) =
      let on : Has (xs ++ lease k p v ∷ ys) (lease j q w) = stood xs (lease k p v) ys us (lease j q w) vs (sym now ∙ here) in (on.0, on.1, was ∙ on.2)
