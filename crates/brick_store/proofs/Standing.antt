-- A brick goes on standing for its history.
use Rattle.std.proofs.Common.{◌≡◌, ℕ, Bool, true, false, if◌then◌else◌, List, [], ◌∷◌, Option, Some, None, refl, sym, ap, subst, ◌∙◌}
use Rattle.crash_base.specs.declared.numbers.Moment.{Moment}
use Rattle.crash_base.specs.declared.numbers.SessionKey.{SessionKey}
use Rattle.crash_base.specs.declared.numbers.Version.{Version}
use Rattle.ssm_frames.specs.declared.frame.Frame.{Frame}
use Rattle.ssm_frames.specs.declared.frame.Frame.TheVariants.{Put, Get, Sweep, Stored, Found, Absent, BrickFull, Swept}
use Rattle.brick_store.specs.declared.kept.Kept.{Kept}
use Rattle.brick_store.specs.declared.event.BrickEvent.{BrickEvent}
use Rattle.brick_store.specs.declared.event.BrickEvent.TheVariants as event
use Rattle.brick_store.specs.Bricks.{BrickValue, put_value, stored, swept_at, answered}
use Rattle.brick_store.specs.History.{held, all_held, later, left_by}
use Rattle.brick_store.specs.Kept.{is_under, is_late, is_full, kept_under, with_kept, outlives, AreInOrder}
use Rattle.brick_store.specs.Standing.{StandsFor, stored_in, heard}
use Rattle.brick_store.proofs.Keeping.{found_with, found_left, ordered_with, ordered_left, same_from_found}

-- all values held are in order
pub all_ordered : (h : List BrickEvent) → AreInOrder (all_held h)
all_ordered [] = tt
all_ordered (event.Stored s ∷ h) = ordered_with s (all_held h) (all_ordered h)
all_ordered (event.Sweep moment ∷ h) = ordered_left (outlives moment) (all_held h) (all_ordered h)
all_ordered (event.Crash ∷ h) = tt

-- a value is held under a key and a version where it is found there among all that are
pub all_found : (h : List BrickEvent) (key : SessionKey) (version : Version) → kept_under key version (all_held h) ≡ held h key version
all_found [] key version = refl
all_found (event.Stored s ∷ h) key version =
    found_with key version s (all_held h) ∙ ap (λ found. if is_under key version s then Some s else found) (all_found h key version)
all_found (event.Sweep moment ∷ h) key version =
    found_left key version moment (all_held h) (all_ordered h) ∙ ap (left_by moment) (all_found h key version)
all_found (event.Crash ∷ h) key version = refl

pub stands_for_all : (first : ℕ) (h : List BrickEvent) (b : BrickValue) → StandsFor first h b → b.kept ≡ all_held h
stands_for_all first h b stands =
    same_from_found b.kept (all_held h) stands.in_order (all_ordered h) (λ key version. stands.pairs key version ∙ sym (all_found h key version))

stands_stored : (first : ℕ) (h : List BrickEvent) (b : BrickValue) (s : Kept) → StandsFor first h b → StandsFor first (stored_in h s) (stored b s)
stands_stored first h b s stands =
    subst (λ kept. StandsFor first (if is_full kept s then h else event.Stored s ∷ h) (stored b s)) (stands_for_all first h b stands) (go (is_full b.kept s))
  where
    go : (full : Bool) → StandsFor first (if full then h else event.Stored s ∷ h) (if full then b else record b { kept = with_kept s b.kept })
    go true = stands
    go false = record {
      pairs = λ key version. found_with key version s b.kept ∙ ap (λ found. if is_under key version s then Some s else found) (stands.pairs key version);
      in_order = ordered_with s b.kept stands.in_order;
      incarnation_is = stands.incarnation_is;
      swept_is = stands.swept_is;
    }

pub stands_swept : (first : ℕ) (h : List BrickEvent) (b : BrickValue) (moment : Moment) → StandsFor first h b → StandsFor first (event.Sweep moment ∷ h) (swept_at b moment)
stands_swept first h b moment stands = record {
  pairs = λ key version. found_left key version moment b.kept stands.in_order ∙ ap (left_by moment) (stands.pairs key version);
  in_order = ordered_left (outlives moment) b.kept stands.in_order;
  incarnation_is = stands.incarnation_is;
  swept_is = ap (λ swept. later swept moment) stands.swept_is;
}

pub stands_answered : (first : ℕ) (h : List BrickEvent) (b : BrickValue) (request : Frame) → StandsFor first h b → StandsFor first (heard h request) (answered b request)
stands_answered first h b (Put n k v e x) stands = stands_stored first h b (put_value k v e x) stands
stands_answered first h b (Get n k v) stands = stands
stands_answered first h b (Sweep n moment) stands = stands_swept first h b moment stands
stands_answered first h b (Stored n k v c i) stands = stands
stands_answered first h b (Found n k v c i e x) stands = stands
stands_answered first h b (Absent n k v c i s) stands = stands
stands_answered first h b (BrickFull n k v c i e s) stands = stands
stands_answered first h b (Swept n c i m) stands = stands

left_same : (s t : Kept) (late : Bool) → (if late then None else Some t) ≡ Some s → t ≡ s
left_same s t true found = absurd (cc)
left_same s t false found = cc

-- what is held under a key and a version is under them
pub held_under : (h : List BrickEvent) (key : SessionKey) (version : Version) (s : Kept) → held h key version ≡ Some s → is_under key version s ≡ true
held_under [] key version s is = absurd (cc)
held_under (event.Stored t ∷ h) key version s is = go (is_under key version t) refl (held_under h key version s) is
  where
    go : (here : Bool) → is_under key version t ≡ here → (held h key version ≡ Some s → is_under key version s ≡ true)
        → (if here then Some t else held h key version) ≡ Some s → is_under key version s ≡ true
    go true here before found = let same : t ≡ s = cc in ap (is_under key version) (sym same) ∙ here
    go false here before found = before found
held_under (event.Sweep moment ∷ h) key version s is = go (held h key version) (held_under h key version s) is
  where
    go : (found : Option Kept) → (found ≡ Some s → is_under key version s ≡ true) → left_by moment found ≡ Some s → is_under key version s ≡ true
    go None before left = absurd (cc)
    go (Some t) before left = before (ap Some (left_same s t (is_late moment t.expiry) left))
held_under (event.Crash ∷ h) key version s is = absurd (cc)
