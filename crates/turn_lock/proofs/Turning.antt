-- The steps keep the rule.
use Rattle.std.proofs.Common.{◌≡◌, ◌≢◌, ◌⊎◌, inl, inr, ℕ, zero, suc, ◌+◌, ◌-◌, ◌%◌, ◌^◌, ◌<◌, ◌≤◌, List, [], ◌∷◌, ◌++◌, length, set, Option, Some, arith, refl, sym, ap, ◌∙◌, ⊎_elim, subst, append-nil, get_or, Bool, true, false, nat_lt, if◌then◌else◌, take, drop}
use Rattle.std.proofs.lemmas.List.{length-set, length-append, append_assoc, take-append-le, take-append-drop}
use Rattle.std.proofs.Math.Seq.{take-append_seam}
use Rattle.std.proofs.lemmas.Bool.{ltb-true, ltb-false}
use Rattle.std.proofs.lemmas.Bool.Decides.{nat_tests}
use mathlib.Core.Option.{some, none, some-injective, some-ne-none}
use mathlib.Core.List.{IsPrefix}
use mathlib.Core.Logic.{dite}
use native.Mathlib.Decide.{ℕ_discrete}
use lib.ListN.{get_elem?}
use Rattle.atomic_table.proofs.Lists.{at_set, at_snoc, at_longer, set_here, set_else, set_again, one_turn}
use Rattle.atomic_table.specs.Table.{State, opening, Splits, Joins, Final, Seen, Allows, keeps, takes, gives, Step}
use Rattle.turn_lock.specs.declared.view.View.{View}
use Rattle.turn_lock.specs.declared.view.Stage.{Stage}
use Rattle.turn_lock.specs.declared.view.Stage.TheVariants.{Idle, Waiting, Holding}
use Rattle.turn_lock.specs.Turns.{Kept, total, weight, queued, Knows, Stands, NoneHolds, SeesAll, Draws, Looks, Compares, Goes, MeOf, longer, shorter}
use Rattle.std.specs.List.{range_with_len}

-- the total after a change of one
total_set : {X : Type 0} (f : X → ℕ) (xs : List X) (i : ℕ) (v w : X) → get_elem? xs i ≡ some v → total f (set xs i w) + f v ≡ total f xs + f w
total_set f [] i v w e = absurd (some-ne-none v (sym e))
total_set f (x ∷ xs) zero v w e = let same : f x ≡ f v = ap f (some-injective x v e) in omega arith
total_set f (x ∷ xs) (suc i) v w e = let h = total_set f xs i v w e in omega arith

one_le : {X : Type 0} (f : X → ℕ) (xs : List X) (i : ℕ) (v : X) → get_elem? xs i ≡ some v → f v ≤ total f xs
one_le f [] i v e = absurd (some-ne-none v (sym e))
one_le f (x ∷ xs) zero v e = let same : f x ≡ f v = ap f (some-injective x v e) in omega arith
one_le f (x ∷ xs) (suc i) v e = let h = one_le f xs i v e in omega arith

total_append : {X : Type 0} (f : X → ℕ) (xs ys : List X) → total f (xs ++ ys) ≡ total f xs + total f ys
total_append f [] ys = omega arith
total_append f (x ∷ xs) ys = let h = total_append f xs ys in omega arith

-- each is at most the other
total_le : {X : Type 0} (f g : X → ℕ) (xs : List X) → ((i : ℕ) (v : X) → get_elem? xs i ≡ some v → f v ≤ g v) → total f xs ≤ total g xs
total_le f g [] h = omega arith
total_le f g (x ∷ xs) h = let a = h 0 x refl in let b = total_le f g xs (λ i v e. h (suc i) v e) in omega arith

there : {X : Type 0} (xs : List X) (i : ℕ) (v : X) → get_elem? xs i ≡ some v → i < length xs
there [] i v e = absurd (some-ne-none v (sym e))
there (x ∷ xs) zero v e = omega arith
there (x ∷ xs) (suc i) v e = let h = there xs i v e in omega arith

prefix_refl : {X : Type 0} (xs : List X) → IsPrefix xs xs
prefix_refl xs = ([], append-nil xs)

prefix_trans : {X : Type 0} (xs ys zs : List X) → IsPrefix xs ys → IsPrefix ys zs → IsPrefix xs zs
prefix_trans xs ys zs a b = (a.0 ++ b.0, sym (append_assoc xs a.0 b.0) ∙ ap (λ l. l ++ b.0) a.1 ∙ b.1)

-- of two beginnings of one list the shorter begins the longer
prefix_whole : {X : Type 0} (xs ys log : List X) → IsPrefix xs log → IsPrefix ys log → length xs ≤ length ys → IsPrefix xs ys
prefix_whole xs ys log a b short = (
  drop (length xs) ys,
  ap (λ l. l ++ drop (length xs) ys) (sym (take-append_seam xs a.0) ∙ ap (take (length xs)) (a.1 ∙ sym b.1) ∙ take-append-le (length xs) ys b.0 short)
      ∙ take-append-drop (length xs) ys,
)

-- both the longer and the shorter of two beginnings are beginnings, and the shorter is no longer
chosen : {X : Type 0} (P : List X → Type 0) (xs ys : List X) (b : Bool) → P xs → P ys → P (if b then ys else xs)
chosen P xs ys true px py = py
chosen P xs ys false px py = px

ordered : {X : Type 0} (xs ys : List X) (b : Bool) → nat_lt (length xs) (length ys) ≡ b → length (if b then xs else ys) ≤ length (if b then ys else xs)
ordered xs ys true is = grind (arith, nat_tests)
ordered xs ys false is = grind (arith, nat_tests)

-- what is beside a joined seat is no longer than what it has seen
pub joined_order : {X : Type 0} (xs ys : List X) → length (shorter xs ys) ≤ length (longer xs ys)
joined_order xs ys = ordered xs ys (nat_lt (length xs) (length ys)) refl

-- a beginning that is no shorter is the whole
whole_prefix : {X : Type 0} (xs log : List X) → IsPrefix xs log → length log ≤ length xs → xs ≡ log
whole_prefix {X} xs log begins long = sym (append-nil xs) ∙ (ap (λ (more : List X). xs ++ more) (sym (none begins.0 (let e = ap length begins.1 in let l = length-append xs begins.0 in omega arith))) ∙ begins.1) where
  none : (more : List X) → length more ≤ 0 → more ≡ []
  none [] h = refl
  none (x ∷ more) h = absurd (omega arith)

-- of two beginnings, one of them the whole, the longer is the whole
longest : {X : Type 0} (xs ys log : List X) → IsPrefix xs log → IsPrefix ys log → (xs ≡ log) ⊎ (ys ≡ log) → longer xs ys ≡ log
longest xs ys log a b one = go (nat_lt (length xs) (length ys)) refl where
  go : (shorter_first : Bool) → nat_lt (length xs) (length ys) ≡ shorter_first → (if shorter_first then ys else xs) ≡ log
  go true is = ⊎_elim (λ e. whole_prefix ys log b (let l : length xs ≡ length log = ap length e in let m : length xs < length ys = ltb-true (length xs) (length ys) is in omega arith)) (λ e. e) one
  go false is = ⊎_elim (λ e. e) (λ e. whole_prefix xs log a (let l : length ys ≡ length log = ap length e in let m : length ys ≤ length xs = ltb-false (length xs) (length ys) is in omega arith)) one

-- who has seen all goes on to do so where a seat changes that has a part still, and has seen all if it had
sees_on : {E : Type 0} (log : List E) (views : List (View E)) (id : ℕ) (v w : View E) → get_elem? views id ≡ some v → (0 < v.parts → 0 < w.parts) → (v.seen ≡ log → w.seen ≡ log) → SeesAll log views → SeesAll log (set views id w)
sees_on {E} log views id v w at has sees latest = dite (ℕ_discrete latest.by id)
    (λ e. let same : latest.view ≡ v = some-injective latest.view v (sym latest.here ∙ ap (get_elem? views) e ∙ at) in record {
      by = id;
      view = w;
      here = set_here views id w (there views id v at);
      some_part = has (subst (λ (u : View E). 0 < u.parts) same latest.some_part);
      whole = sees (ap (λ (u : View E). u.seen) (sym same) ∙ latest.whole);
    })
    (λ ne. record {
      by = latest.by;
      view = latest.view;
      here = set_else views id latest.by w ne ∙ latest.here;
      some_part = latest.some_part;
      whole = latest.whole;
    })

-- stages differ
not_idle : (s : Stage) → s ≡ Idle → s ≡ Holding → ⊥
not_idle s a b = let e : Idle ≡ Holding = sym a ∙ b in cc

not_waiting : (s : Stage) → s ≡ Waiting → s ≡ Holding → ⊥
not_waiting s a b = let e : Waiting ≡ Holding = sym a ∙ b in cc

module _ {T E : Type 0} (events : T → List E) where
  -- what stands goes on to stand where a ticket was drawn
  stands_on : (log : List E) (served drawn : ℕ) (v : View E) (st : Stage) → Stands log served drawn v st → Stands log served (drawn + 1) v st
  stands_on log served drawn v Idle h = tt
  stands_on log served drawn v Waiting h = (h.0, omega (arith, h.1))
  stands_on log served drawn v Holding h = (h.0, omega (arith, h.1), h.2)

  -- a ticket that stands was drawn
  was_drawn : (log : List E) (served drawn : ℕ) (v : View E) (st : Stage) → Stands log served drawn v st → queued st ≡ 1 → v.ticket < drawn
  was_drawn log served drawn v Idle h one = absurd (omega arith)
  was_drawn log served drawn v Waiting h one = h.1
  was_drawn log served drawn v Holding h one = h.1

  pub draws : (all id : ℕ) (me : MeOf events) (st : Step (Option T)) → me.0.stage ≡ Idle → 0 < me.0.parts
      → Allows (Kept events all) 1 id me 0 (λ n. (n + 1) % 2 ^ 64) (Draws events st me)
  draws all id me st idle some_parts s kept slots at small =
      let v = me.0 in
      let w : View E = record v { stage = Waiting; ticket = kept.drawn } in
      let light : weight v ≡ 0 = ap queued idle in
      let found : get_or s.words 0 0 ≡ kept.drawn % 2 ^ 64 = ap (λ (ws : List ℕ). get_or ws 0 0) kept.words in
      let weights = total_set weight s.views id v w at in
      let shares = total_set (λ (u : View E). u.parts) s.views id v w at in
      let mine = kept.knows id v at in
      let before = kept.counted in
      let whole = kept.parts in (
        w,
        keeps,
        tt,
        record {
          few = kept.few;
          log = kept.log;
          drawn = kept.drawn + 1;
          served = kept.served;
          words = ap (λ (ws : List ℕ). set ws 0 ((get_or ws 0 0 + 1) % 2 ^ 64)) kept.words ∙ ap (λ (n : ℕ). n ∷ (kept.served % 2 ^ 64) ∷ []) (let e : (kept.drawn % 2 ^ 64 + 1) % 2 ^ 64 ≡ (kept.drawn + 1) % 2 ^ 64 = omega arith in e);
          behind = omega (arith, kept.behind);
          counted = omega arith;
          parts = omega arith;
          knows = (λ by u there. ⊎_elim
              (λ h. subst (Knows kept.log kept.served (kept.drawn + 1)) h.1 (mine.0, omega arith, (omega (arith, kept.behind), omega arith), mine.3))
              (λ h. let k = kept.knows by u h.1 in (k.0, k.1, stands_on kept.log kept.served kept.drawn u u.stage k.2, k.3))
              (at_set s.views id by w u there));
          latest = sees_on kept.log s.views id v w at (λ h. h) (λ e. e) kept.latest;
          apart = (λ i j a b ai bj one two same. ⊎_elim
              (λ h. ⊎_elim
              (λ g. h.0 ∙ sym g.0)
              (λ g. absurd (let d = was_drawn kept.log kept.served kept.drawn b b.stage (kept.knows j b g.1).2 two in let e : kept.drawn ≡ a.ticket = ap (λ (u : View E). u.ticket) h.1 in omega (arith, same)))
              (at_set s.views id j w b bj))
              (λ h. ⊎_elim
              (λ g. absurd (let d = was_drawn kept.log kept.served kept.drawn a a.stage (kept.knows i a h.1).2 one in let e : kept.drawn ≡ b.ticket = ap (λ (u : View E). u.ticket) g.1 in omega (arith, same)))
              (λ g. kept.apart i j a b h.1 g.1 one two same)
              (at_set s.views id j w b bj))
              (at_set s.views id i w a ai));
          slots = kept.slots;
          home = (λ none_now. kept.home (λ i u ui held. dite (ℕ_discrete i id)
              (λ e. not_idle u.stage (ap (λ (x : View E). x.stage) (some-injective u v (sym ui ∙ ap (get_elem? s.views) e ∙ at)) ∙ idle) held)
              (λ ne. none_now i u (set_else s.views id i w ne ∙ ui) held)));
        },
        (refl, refl, refl, refl, refl, found),
      )

  -- a ticket that is the one served is the seat's turn
  its_turn : (all id : ℕ) (v : View E) (s : State (Option T) (View E)) (kept : Kept events all s) → get_elem? s.views id ≡ some v → v.stage ≡ Waiting
      → kept.served % 2 ^ 64 ≡ v.ticket % 2 ^ 64 → kept.served ≡ v.ticket
  its_turn all id v s kept at waits same =
      let k = kept.knows id v at in
      let stands : Stands kept.log kept.served kept.drawn v Waiting = subst (Stands kept.log kept.served kept.drawn v) waits k.2 in
      let few = total_le weight (λ (u : View E). u.parts) s.views (λ i u ui. (kept.knows i u ui).1) in
      one_turn kept.served v.ticket (2 ^ 64) stands.0 (omega (arith, stands.1, few, kept.few, kept.counted, kept.parts)) same

  pub looks : (all id : ℕ) (me : MeOf events) (st : Step (Option T)) → me.0.stage ≡ Waiting
      → Allows (Kept events all) 1 id me 1 (λ n. n) (Looks events st me)
  looks all id me st waits s kept slots at small =
      let v = me.0 in
      let found : get_or s.words 1 0 ≡ kept.served % 2 ^ 64 = ap (λ (ws : List ℕ). get_or ws 1 0) kept.words in
      let same_words : set s.words 1 (get_or s.words 1 0) ≡ s.words = ap (λ (ws : List ℕ). set ws 1 (get_or ws 1 0)) kept.words ∙ sym kept.words in
      dite (ℕ_discrete (get_or s.words 1 0) (v.ticket % 2 ^ 64))
      (λ now.
      let turn = its_turn all id v s kept at waits (sym found ∙ now) in
      let mine = kept.knows id v at in
      let stands : Stands kept.log kept.served kept.drawn v Waiting = subst (Stands kept.log kept.served kept.drawn v) waits mine.2 in
      let one : weight v ≡ 1 = ap queued waits in
      let alone : NoneHolds s.views = (λ i u ui held.
      let k = kept.knows i u ui in
      let theirs : Stands kept.log kept.served kept.drawn u Holding = subst (Stands kept.log kept.served kept.drawn u) held k.2 in
      let here : i ≡ id = kept.apart i id u v ui at (ap queued held) one (theirs.0 ∙ turn) in
      not_waiting u.stage (ap (λ (x : View E). x.stage) (some-injective u v (sym ui ∙ ap (get_elem? s.views) here ∙ at)) ∙ waits) held) in
      let it = kept.home alone in
      let w : View E = record v { stage = Holding; seen = kept.log } in
      let weights = total_set weight s.views id v w at in
      let shares = total_set (λ (u : View E). u.parts) s.views id v w at in
      let before = kept.counted in
      let whole = kept.parts in (
        w,
        takes 0 (Some it.0),
        it.1,
        record {
          few = kept.few;
          log = kept.log;
          drawn = kept.drawn;
          served = kept.served;
          words = same_words ∙ kept.words;
          behind = kept.behind;
          counted = omega arith;
          parts = omega arith;
          knows = (λ by u there. ⊎_elim
              (λ h. subst (Knows kept.log kept.served kept.drawn) h.1 (prefix_refl kept.log, omega (arith, mine.1), (sym turn, stands.1, refl), mine.3))
              (λ h. kept.knows by u h.1)
              (at_set s.views id by w u there));
          latest = sees_on kept.log s.views id v w at (λ h. h) (λ e. refl) kept.latest;
          apart = (λ i j a b ai bj first second same. ⊎_elim
              (λ h. ⊎_elim
              (λ g. h.0 ∙ sym g.0)
              (λ g. h.0 ∙ kept.apart id j v b at g.1 one second (ap (λ (u : View E). u.ticket) h.1 ∙ same))
              (at_set s.views id j w b bj))
              (λ h. ⊎_elim
              (λ g. kept.apart i id a v h.1 at first one (same ∙ sym (ap (λ (u : View E). u.ticket) g.1)) ∙ sym g.0)
              (λ g. kept.apart i j a b h.1 g.1 first second same)
              (at_set s.views id j w b bj))
              (at_set s.views id i w a ai));
          slots = length-set s.homes 0 none ∙ kept.slots;
          home = (λ none_now. absurd (none_now id w (set_here s.views id w (there s.views id v at)) refl));
        },
        ((λ e. (it.0, refl, sym it.2, subst (IsPrefix v.seen) (sym it.2) mine.0, refl, refl, refl)), (λ ne. absurd (ne now))),
      ))
      (λ other.
      let same_views : set s.views id v ≡ s.views = set_again s.views id v at in (
        v,
        keeps,
        tt,
        subst (λ (vs : List (View E)). Kept events all record { words = set s.words 1 (get_or s.words 1 0); homes = s.homes; views = vs }) (sym same_views)
            (subst (λ (ws : List ℕ). Kept events all record { words = ws; homes = s.homes; views = s.views }) (sym same_words) kept),
        ((λ e. absurd (other e)), (λ ne. refl)),
      ))

  -- a ticket that waits, and is not the one served, stands when that one is done
  stands_still : (log log' : List E) (served drawn : ℕ) (v : View E) (st : Stage) → (queued st ≡ 1 → v.ticket ≢ served) → Stands log served drawn v st → Stands log' (served + 1) drawn v st
  stands_still log log' served drawn v Idle other h = tt
  stands_still log log' served drawn v Waiting other h = (let n = other refl in let a = h.0 in let ne : ¬ (v.ticket ≡ served) = n in omega arith, h.1)
  stands_still log log' served drawn v Holding other h = absurd (other refl h.0)

  pub goes_home : (all id : ℕ) (v : View E) (x : T) (st : Step (Option T)) → v.stage ≡ Holding → IsPrefix v.seen (events x)
      → Allows (Kept events all) 1 id (v, (0, Some x) ∷ []) 1 (λ n. (n + 1) % 2 ^ 64) (Goes events st (v, (0, Some x) ∷ []))
  goes_home all id v x st holds grows s kept slots at small =
      let w : View E = record v { stage = Idle; seen = events x; own = v.own ++ range_with_len (length v.seen) (length (events x) - length v.seen) } in
      let mine = kept.knows id v at in
      let stands : Stands kept.log kept.served kept.drawn v Holding = subst (Stands kept.log kept.served kept.drawn v) holds mine.2 in
      let heavy : weight v ≡ 1 = ap queued holds in
      let weights = total_set weight s.views id v w at in
      let shares = total_set (λ (u : View E). u.parts) s.views id v w at in
      let before = kept.counted in
      let whole = kept.parts in
      let longer_now : IsPrefix kept.log (events x) = subst (λ l. IsPrefix l (events x)) stands.2 grows in (
        w,
        gives,
        tt,
        record {
          few = kept.few;
          log = events x;
          drawn = kept.drawn;
          served = kept.served + 1;
          words = ap (λ (ws : List ℕ). set ws 1 ((get_or ws 1 0 + 1) % 2 ^ 64)) kept.words ∙ ap (λ (n : ℕ). (kept.drawn % 2 ^ 64) ∷ n ∷ []) (let e : (kept.served % 2 ^ 64 + 1) % 2 ^ 64 ≡ (kept.served + 1) % 2 ^ 64 = omega arith in e);
          behind = omega (arith, stands.0, stands.1);
          counted = omega arith;
          parts = omega arith;
          knows = (λ by u there. ⊎_elim
              (λ h. subst (Knows (events x) (kept.served + 1) kept.drawn) h.1 (prefix_refl (events x), omega arith, tt, prefix_trans v.beside kept.log (events x) mine.3 longer_now))
              (λ h. let k = kept.knows by u h.1 in (
                prefix_trans u.seen kept.log (events x) k.0 longer_now,
                k.1,
                stands_still kept.log (events x) kept.served kept.drawn u u.stage (λ one same. h.0 (kept.apart by id u v h.1 at one heavy (same ∙ sym stands.0))) k.2,
                prefix_trans u.beside kept.log (events x) k.3 longer_now,
              ))
              (at_set s.views id by w u there));
          latest = record { by = id; view = w; here = set_here s.views id w (there s.views id v at); some_part = omega (arith, mine.1); whole = refl };
          apart = (λ i j a b ai bj first second same. ⊎_elim
              (λ h. absurd (let e : 0 ≡ weight a = ap weight h.1 in omega arith))
              (λ h. ⊎_elim
              (λ g. absurd (let e : 0 ≡ weight b = ap weight g.1 in omega arith))
              (λ g. kept.apart i j a b h.1 g.1 first second same)
              (at_set s.views id j w b bj))
              (at_set s.views id i w a ai));
          slots = length-set s.homes 0 (some (Some x)) ∙ kept.slots;
          home = (λ none_now. (x, set_here s.homes 0 (some (Some x)) (omega (arith, kept.slots)), refl));
        },
        (x, refl, refl, refl, refl, refl, refl),
      )

  -- a new lock
  pub starts : (all : ℕ) (x : T) (told : List E) → 0 < all → all < 2 ^ 32 → told ≡ events x
      → Kept events all (opening (0 ∷ 0 ∷ []) (Some x ∷ []) record { parts = all; stage = Idle; ticket = 0; seen = told; beside = []; own = [] })
  starts all x told some_part small same =
      let first : View E = record { parts = all; stage = Idle; ticket = 0; seen = told; beside = []; own = [] } in
      let only : (by : ℕ) (u : View E) → get_elem? (first ∷ []) by ≡ some u → (by ≡ 0) × (first ≡ u) = alone first in
      record {
        few = small;
        log = events x;
        drawn = 0;
        served = 0;
        words = refl;
        behind = omega arith;
        counted = refl;
        parts = omega arith;
        knows = (λ by u there. subst (Knows (events x) 0 0) (only by u there).1 (subst (λ l. IsPrefix l (events x)) (sym same) (prefix_refl (events x)), omega arith, tt, (events x, refl)));
        latest = record { by = 0; view = first; here = refl; some_part = some_part; whole = same };
        apart = (λ i j a b ai bj one two ticket. (only i a ai).0 ∙ sym (only j b bj).0);
        slots = refl;
        home = (λ none. (x, refl, refl));
      }
    where
      alone : (v : View E) (by : ℕ) (u : View E) → get_elem? (v ∷ []) by ≡ some u → (by ≡ 0) × (v ≡ u)
      alone v zero u e = (refl, some-injective v u e)
      alone v (suc by) u e = absurd (some-ne-none u (sym e))

  -- a seat that is idle and has all parts: nobody holds the value
  pub rests : (all id : ℕ) (s : State (Option T) (View E)) (v : View E) → Kept events all s → get_elem? s.views id ≡ some v → v.stage ≡ Idle → v.parts ≡ all → NoneHolds s.views
  rests all id s v kept at idle whole i u ui held = dite (ℕ_discrete i id)
      (λ e. not_idle u.stage (ap (λ (x : View E). x.stage) (some-injective u v (sym ui ∙ ap (get_elem? s.views) e ∙ at)) ∙ idle) held)
      (λ ne.
      let blank : View E = record v { parts = 0 } in
      let less = total_set (λ (x : View E). x.parts) s.views id v blank at in
      let there' : get_elem? (set s.views id blank) i ≡ some u = set_else s.views id i blank ne ∙ ui in
      let mine = one_le (λ (x : View E). x.parts) (set s.views id blank) i u there' in
      let heavy : weight u ≡ 1 = ap queued held in
      omega (arith, (kept.knows i u ui).1, kept.parts))

  -- a seat is cut in two
  pub splits : (all id n : ℕ) (v : View E) → v.stage ≡ Idle → n < v.parts
      → Splits (Kept events all) id v (record v { parts = v.parts - n }) (record v { parts = n; own = [] })
  splits all id n v idle some_parts s kept at =
      let left : View E = record v { parts = v.parts - n } in
      let right : View E = record v { parts = n; own = [] } in
      let light : weight v ≡ 0 = ap queued idle in
      let shares = total_set (λ (u : View E). u.parts) s.views id v left at in
      let weights = total_set weight s.views id v left at in
      let more = total_append (λ (u : View E). u.parts) (set s.views id left) (right ∷ []) in
      let more' = total_append weight (set s.views id left) (right ∷ []) in
      let mine = kept.knows id v at in
      let knew : (u : View E) → u.stage ≡ Idle → u.seen ≡ v.seen → u.beside ≡ v.beside → Knows kept.log kept.served kept.drawn u =
      (λ u is same same'. (subst (λ l. IsPrefix l kept.log) (sym same) mine.0, (let z : weight u ≡ 0 = ap queued is in omega arith), subst (Stands kept.log kept.served kept.drawn u) (sym is) tt, subst (λ l. IsPrefix l kept.log) (sym same') mine.3)) in
      let old_or : (by : ℕ) (u : View E) → get_elem? (set s.views id left ++ right ∷ []) by ≡ some u → (get_elem? s.views by ≡ some u) ⊎ (weight u ≡ 0) =
      (λ by u found. ⊎_elim
      (λ old. ⊎_elim (λ h. inr (ap weight (sym h.1) ∙ light)) (λ h. inl h.1) (at_set s.views id by left u old))
      (λ new. inr (ap weight (sym new) ∙ light))
      (at_snoc (set s.views id left) right u by found)) in
      record {
        few = kept.few;
        log = kept.log;
        drawn = kept.drawn;
        served = kept.served;
        words = kept.words;
        behind = kept.behind;
        counted = omega (arith, kept.counted);
        parts = omega (arith, kept.parts);
        knows = (λ by u found. ⊎_elim
            (λ old. ⊎_elim (λ h. subst (Knows kept.log kept.served kept.drawn) h.1 (knew left idle refl refl)) (λ h. kept.knows by u h.1) (at_set s.views id by left u old))
            (λ new. subst (Knows kept.log kept.served kept.drawn) new (knew right idle refl refl))
            (at_snoc (set s.views id left) right u by found));
        latest = longer_on right (sees_on kept.log s.views id v left at (λ h. omega (arith, some_parts)) (λ e. e) kept.latest);
        apart = (λ i j a b ai bj one two same. ⊎_elim
            (λ x. ⊎_elim (λ y. kept.apart i j a b x y one two same) (λ z. absurd (omega arith)) (old_or j b bj))
            (λ z. absurd (omega arith))
            (old_or i a ai));
        slots = kept.slots;
        home = (λ none_now. kept.home (λ i u ui held. dite (ℕ_discrete i id)
            (λ e. not_idle u.stage (ap (λ (x : View E). x.stage) (some-injective u v (sym ui ∙ ap (get_elem? s.views) e ∙ at)) ∙ idle) held)
            (λ ne. none_now i u (at_longer (set s.views id left) (right ∷ []) i u (set_else s.views id i left ne ∙ ui)) held)));
      }
    where
      longer_on : {log : List E} {views : List (View E)} (more : View E) → SeesAll log views → SeesAll log (views ++ more ∷ [])
      longer_on {log} {views} more latest = record {
        by = latest.by;
        view = latest.view;
        here = at_longer views (more ∷ []) latest.by latest.view latest.here;
        some_part = latest.some_part;
        whole = latest.whole;
      }

  -- a seat that has all parts has seen the whole history
  sees_whole : (all id : ℕ) (s : State (Option T) (View E)) (v : View E) (kept : Kept events all s) → get_elem? s.views id ≡ some v → v.parts ≡ all → v.seen ≡ kept.log
  sees_whole all id s v kept at whole = dite (ℕ_discrete kept.latest.by id)
      (λ e. ap (λ (x : View E). x.seen) (some-injective v kept.latest.view (sym at ∙ ap (get_elem? s.views) (sym e) ∙ kept.latest.here)) ∙ kept.latest.whole)
      (λ ne. absurd
      (let blank : View E = record v { parts = 0 } in
      let less = total_set (λ (x : View E). x.parts) s.views id v blank at in
      let beside : get_elem? (set s.views id blank) kept.latest.by ≡ some kept.latest.view = set_else s.views id kept.latest.by blank ne ∙ kept.latest.here in
      let theirs = one_le (λ (x : View E). x.parts) (set s.views id blank) kept.latest.by kept.latest.view beside in
      omega (arith, kept.latest.some_part, kept.parts)))

  -- at the end the slot has a value, whose history is what the seat saw
  pub ends : (all id : ℕ) (v : View E) (words : List ℕ) (slots : List (Option T)) → v.stage ≡ Idle → v.parts ≡ all
      → Final (Seen (Kept events all) id v) words slots → (x : T) × (get_elem? slots 0 ≡ some (Some x)) × (events x ≡ v.seen)
  ends all id v words slots idle whole final =
      let kept = final.1.0 in
      let at = final.1.1 in
      let it = kept.home (rests all id final.0 v kept at idle whole) in
      (it.0, final.4 0 (Some it.0) it.1, it.2 ∙ sym (sees_whole all id final.0 v kept at whole))

  -- a load without a ticket: what was seen begins with what is beside it
  pub compares : (all id : ℕ) (me : MeOf events) (st : Step (Option T)) → length me.0.beside ≤ length me.0.seen
      → Allows (Kept events all) 1 id me 1 (λ n. n) (Compares events st me)
  compares all id me st short s kept slots at small =
      let v = me.0 in
      let mine = kept.knows id v at in
      let same_words : set s.words 1 (get_or s.words 1 0) ≡ s.words = ap (λ (ws : List ℕ). set ws 1 (get_or ws 1 0)) kept.words ∙ sym kept.words in
      let same_views : set s.views id v ≡ s.views = set_again s.views id v at in (
        v,
        keeps,
        tt,
        subst (λ (vs : List (View E)). Kept events all record { words = set s.words 1 (get_or s.words 1 0); homes = s.homes; views = vs }) (sym same_views)
            (subst (λ (ws : List ℕ). Kept events all record { words = ws; homes = s.homes; views = s.views }) (sym same_words) kept),
        (refl, prefix_whole v.beside v.seen kept.log mine.3 mine.0 short),
      )

  abbrev joined : View E → View E → View E
  joined v w = record v { parts = v.parts + w.parts; seen = longer v.seen w.seen; beside = shorter v.seen w.seen; own = v.own ++ w.own }

  abbrev spent : View E
  spent = record { parts = 0; stage = Idle; ticket = 0; seen = []; beside = []; own = [] }

  -- a seat takes in another
  pub joins : (all id other : ℕ) (v w : View E) → v.stage ≡ Idle → w.stage ≡ Idle → Joins (Kept events all) id v other w (joined v w) spent
  joins all id other v w idle idle' s kept at differ at' =
      let both = joined v w in
      let light : weight v ≡ 0 = ap queued idle in
      let light' : weight w ≡ 0 = ap queued idle' in
      let shares = total_set (λ (u : View E). u.parts) s.views id v both at in
      let shares' = total_set (λ (u : View E). u.parts) (set s.views id both) other w spent at' in
      let weights = total_set weight s.views id v both at in
      let weights' = total_set weight (set s.views id both) other w spent at' in
      let there' : get_elem? s.views other ≡ some w = sym (set_else s.views id other both differ) ∙ at' in
      let mine = kept.knows id v at in
      let theirs = kept.knows other w there' in
      let b = nat_lt (length v.seen) (length w.seen) in
      let knew : Knows kept.log kept.served kept.drawn both = (
        chosen (λ l. IsPrefix l kept.log) v.seen w.seen b mine.0 theirs.0,
        (let z : weight both ≡ 0 = ap queued idle in omega arith),
        subst (Stands kept.log kept.served kept.drawn both) (sym idle) tt,
        chosen (λ l. IsPrefix l kept.log) w.seen v.seen b theirs.0 mine.0,
      ) in
      let here_both : get_elem? (set (set s.views id both) other spent) id ≡ some both = set_else (set s.views id both) other id spent (λ e. differ (sym e)) ∙ set_here s.views id both (there s.views id v at) in
      let by_both : 0 < both.parts → (v.seen ≡ kept.log) ⊎ (w.seen ≡ kept.log) → SeesAll kept.log (set (set s.views id both) other spent) =
      (λ some_part one. record { by = id; view = both; here = here_both; some_part = some_part; whole = longest v.seen w.seen kept.log mine.0 theirs.0 one }) in
      let was = kept.latest in
      let latest : SeesAll kept.log (set (set s.views id both) other spent) = dite (ℕ_discrete was.by id)
      (λ e. let same : was.view ≡ v = some-injective was.view v (sym was.here ∙ ap (get_elem? s.views) e ∙ at) in
      by_both (let p : 0 < v.parts = subst (λ (u : View E). 0 < u.parts) same was.some_part in omega arith) (inl (ap (λ (u : View E). u.seen) (sym same) ∙ was.whole)))
      (λ ne. dite (ℕ_discrete was.by other)
      (λ e. let same : was.view ≡ w = some-injective was.view w (sym was.here ∙ ap (get_elem? s.views) e ∙ there') in
      by_both (let p : 0 < w.parts = subst (λ (u : View E). 0 < u.parts) same was.some_part in omega arith) (inr (ap (λ (u : View E). u.seen) (sym same) ∙ was.whole)))
      (λ ne'. record {
        by = was.by;
        view = was.view;
        here = set_else (set s.views id both) other was.by spent ne' ∙ set_else s.views id was.by both ne ∙ was.here;
        some_part = was.some_part;
        whole = was.whole;
      })) in
      let old_or : (by : ℕ) (u : View E) → get_elem? (set (set s.views id both) other spent) by ≡ some u → (get_elem? s.views by ≡ some u) ⊎ (weight u ≡ 0) =
      (λ by u found. ⊎_elim
      (λ h. inr (ap weight (sym h.1)))
      (λ h. ⊎_elim (λ g. inr (ap weight (sym g.1) ∙ light)) (λ g. inl g.1) (at_set s.views id by both u h.1))
      (at_set (set s.views id both) other by spent u found)) in
      record {
        few = kept.few;
        log = kept.log;
        drawn = kept.drawn;
        served = kept.served;
        words = kept.words;
        behind = kept.behind;
        counted = omega (arith, kept.counted);
        parts = omega (arith, kept.parts);
        knows = (λ by u found. ⊎_elim
            (λ h. subst (Knows kept.log kept.served kept.drawn) h.1 ((kept.log, refl), omega arith, tt, (kept.log, refl)))
            (λ h. ⊎_elim (λ g. subst (Knows kept.log kept.served kept.drawn) g.1 knew) (λ g. kept.knows by u g.1) (at_set s.views id by both u h.1))
            (at_set (set s.views id both) other by spent u found));
        latest = latest;
        apart = (λ i j a b ai bj one two same. ⊎_elim
            (λ x. ⊎_elim (λ y. kept.apart i j a b x y one two same) (λ z. absurd (omega arith)) (old_or j b bj))
            (λ z. absurd (omega arith))
            (old_or i a ai));
        slots = kept.slots;
        home = (λ none_now. kept.home (λ i u ui held. dite (ℕ_discrete i id)
            (λ e. not_idle u.stage (ap (λ (x : View E). x.stage) (some-injective u v (sym ui ∙ ap (get_elem? s.views) e ∙ at)) ∙ idle) held)
            (λ ne. dite (ℕ_discrete i other)
            (λ e. not_idle u.stage (ap (λ (x : View E). x.stage) (some-injective u w (sym ui ∙ ap (get_elem? s.views) e ∙ there')) ∙ idle') held)
            (λ ne'. none_now i u (set_else (set s.views id both) other i spent ne' ∙ set_else s.views id i both ne ∙ ui) held))));
      }
