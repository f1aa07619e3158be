-- The first stale touch of a call.
use Rattle.std.proofs.Common.{◌≡◌, ◌≢◌, ◌≤◌, ◌||◌, Bool, true, false, cond, List, [], ◌∷◌, ◌++◌, length, take, drop, Some, None, All, refl, ap, ◌∙◌, arith}
use Rattle.std.specs.List.{list_any}
use Rattle.std.proofs.lemmas.List.{take-append-le, drop-append-le}
use Rattle.std.proofs.lemmas.List.Elements.{All-nil, All-cons, All-head, All-tail, All-weaker}
use Rattle.std.proofs.lemmas.List.Folds.{list_any-append}
use Rattle.journal_model.specs.declared.entry.Entry.{Entry}
use Rattle.journal_model.specs.declared.entry.Touch.{Touch}
use Rattle.journal_model.specs.declared.stale.Stale.{Stale}
use Rattle.journal_model.specs.Reboots.{is_down_of, generation}
use Rattle.journal_model.specs.Revoked.{IsFirstStale}
use Rattle.journal_model.specs.Stale.{IsTouch, IsStale, IsLive, is_stale, stale_by, stale_in}
use Rattle.journal_model.proofs.Adding.{generation-append}
use Rattle.journal_model.proofs.Staleness.{tested, live_of, stale_kept}

-- where none is found, none is stale
pub none_stale : (es : List Entry) (ts : List Touch) → stale_in es ts ≡ None → All (λ t. ¬ IsStale es t) ts
none_stale es [] none = All-nil (λ t. ¬ IsStale es t)
none_stale es (t ∷ ts) none = go (is_stale es t) refl none (none_stale es ts)
  where
    go : (b : Bool) → is_stale es t ≡ b → cond b (Some (stale_by es t)) (stale_in es ts) ≡ None → (stale_in es ts ≡ None → All (λ u. ¬ IsStale es u) ts) → All (λ u. ¬ IsStale es u) (t ∷ ts)
    go true is h later = absurd (cc)
    go false is h later = All-cons (λ u. ¬ IsStale es u) t ts ((tested es t).1 is) (later h)

pub stale_none : (es : List Entry) (ts : List Touch) → All (λ t. ¬ IsStale es t) ts → stale_in es ts ≡ None
stale_none es [] fresh = refl
stale_none es (t ∷ ts) fresh = go (is_stale es t) refl (stale_none es ts (All-tail (λ u. ¬ IsStale es u) t ts fresh))
  where
    go : (b : Bool) → is_stale es t ≡ b → stale_in es ts ≡ None → cond b (Some (stale_by es t)) (stale_in es ts) ≡ None
    go true is later = absurd (All-head (λ u. ¬ IsStale es u) t ts fresh ((tested es t).0 is))
    go false is later = later

-- what is found is the first stale touch
pub first_stale : (es : List Entry) (ts : List Touch) (s : Stale) → stale_in es ts ≡ Some s → IsFirstStale es ts s
first_stale es [] s found = absurd (cc)
first_stale es (t ∷ ts) s found = go (is_stale es t) refl found (first_stale es ts s)
  where
    go : (b : Bool) → is_stale es t ≡ b → cond b (Some (stale_by es t)) (stale_in es ts) ≡ Some s → (stale_in es ts ≡ Some s → IsFirstStale es ts s) → IsFirstStale es (t ∷ ts) s
    go true is h later = record { before = []; touch = t; after = ts; parts = refl; fresh = All-nil (λ u. ¬ IsStale es u); stale = (tested es t).0 is; shown = cc }
    go false is h later =
        let next = later h in
        record {
          before = t ∷ next.before;
          touch = next.touch;
          after = next.after;
          parts = ap (λ us. t ∷ us) next.parts;
          fresh = All-cons (λ u. ¬ IsStale es u) t next.before ((tested es t).1 is) next.fresh;
          stale = next.stale;
          shown = next.shown;
        }

-- touches that are not stale are live
pub all_live : (es : List Entry) (ts : List Touch) → All (IsTouch es) ts → stale_in es ts ≡ None → All (IsLive es) ts
all_live es ts touches none = λ i d within. live_of es _ (touches i d within) (none_stale es ts none i d within)

-- a stale call stays stale
pub stale_lasts : (es more : List Entry) (ts : List Touch) → stale_in es ts ≢ None → stale_in (es ++ more) ts ≢ None
stale_lasts es more ts stale none = stale (stale_none es ts (All-weaker (λ t. ¬ IsStale (es ++ more) t) (λ t. ¬ IsStale es t) (λ t fresh is. fresh (stale_kept es more t is)) ts (none_stale (es ++ more) ts none)))

-- an entry that is a Down of no touched group changes nothing
stale_beside : (es : List Entry) (x : Entry) (t : Touch) → t.front.0 ≤ length es → is_down_of t.group.0 x ≡ false → (is_stale (es ++ x ∷ []) t ≡ is_stale es t) × (stale_by (es ++ x ∷ []) t ≡ stale_by es t)
stale_beside es x t within apart =
    let g = t.group.0 in
    let k = t.front.0 in
    let cut = ap (list_any (is_down_of g)) (drop-append-le k es (x ∷ []) within) ∙ list_any-append (is_down_of g) (drop k es) (x ∷ []) in
    let none : list_any (is_down_of g) (x ∷ []) ≡ false = rw apart refl in
    let zero_more : generation (x ∷ []) g ≡ 0 = rw apart refl in
    let now : generation (es ++ x ∷ []) g ≡ generation es g = omega (arith, generation-append es (x ∷ []) g, zero_more) in
    let had : generation (take k (es ++ x ∷ [])) g ≡ generation (take k es) g = ap (λ xs. generation xs g) (take-append-le k es (x ∷ []) within) in
    (cut ∙ ap (λ b. is_stale es t || b) none ∙ or_false (is_stale es t), made now had)
  where
    or_false : (b : Bool) → (b || false) ≡ b
    or_false true = refl
    or_false false = refl

    made : generation (es ++ x ∷ []) t.group.0 ≡ generation es t.group.0 → generation (take t.front.0 (es ++ x ∷ [])) t.group.0 ≡ generation (take t.front.0 es) t.group.0 → stale_by (es ++ x ∷ []) t ≡ stale_by es t
    made now had = cc

pub stale_in-beside : (es : List Entry) (x : Entry) (ts : List Touch) → All (IsTouch es) ts → All (λ t. is_down_of t.group.0 x ≡ false) ts → stale_in (es ++ x ∷ []) ts ≡ stale_in es ts
stale_in-beside es x [] touches apart = refl
stale_in-beside es x (t ∷ ts) touches apart =
    let here = stale_beside es x t (All-head (IsTouch es) t ts touches).within (All-head (λ u. is_down_of u.group.0 x ≡ false) t ts apart) in
    let later = stale_in-beside es x ts (All-tail (IsTouch es) t ts touches) (All-tail (λ u. is_down_of u.group.0 x ≡ false) t ts apart) in
    ap (λ b. cond b (Some (stale_by (es ++ x ∷ []) t)) (stale_in (es ++ x ∷ []) ts)) here.0 ∙ ap (λ s. cond (is_stale es t) (Some s) (stale_in (es ++ x ∷ []) ts)) here.1 ∙ ap (λ o. cond (is_stale es t) (Some (stale_by es t)) o) later
