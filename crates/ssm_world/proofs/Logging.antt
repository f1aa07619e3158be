-- A brick that stands for its history is the one after it.
use Rattle.std.proofs.Common.{◌≡◌, Bool, true, false, if◌then◌else◌, List, [], ◌∷◌, ◌++◌, Some, refl, sym, ap, ◌∙◌}
use Rattle.std.specs.Prelude.{reverse}
use Rattle.std.proofs.lemmas.List.{reverse-append}
use Rattle.ssm_frames.specs.declared.frame.Frame.{Frame}
use Rattle.ssm_frames.specs.declared.frame.Frame.TheVariants.{Put, Get, Sweep, Stored, Found, Absent, BrickFull, Swept}
use Rattle.brick_store.specs.declared.kept.Kept.{Kept}
use Rattle.brick_store.specs.declared.event.BrickEvent.{BrickEvent}
use Rattle.brick_store.specs.declared.event.BrickEvent.TheVariants as happened
use Rattle.brick_store.specs.Bricks.{BrickValue, put_value, answered, reply}
use Rattle.brick_store.specs.Kept.{is_full, with_kept}
use Rattle.brick_store.specs.Standing.{StandsFor, stored_in}
use Rattle.brick_store.proofs.Standing.{stands_for_all}
use Rattle.ssm_world.specs.Worlds.{brick_after}

pub brick_stands : (h : List BrickEvent) (b : BrickValue) → StandsFor 1 h b → b ≡ brick_after b.number h
brick_stands h b stands =
    let kept = stands_for_all 1 h b stands in
    λ l. record { number = b.number; incarnation = stands.incarnation_is l; swept = stands.swept_is l; kept = kept l }

pub stands_reply : (h : List BrickEvent) (b : BrickValue) (request answer : Frame) → StandsFor 1 h b → reply b request ≡ Some answer → reply (brick_after b.number h) request ≡ Some answer
stands_reply h b request answer stands is = ap (λ c. reply c request) (sym (brick_stands h b stands)) ∙ is

-- a Put that a brick has room for is stored, and no other
pub stored_unless : (h : List BrickEvent) (b : BrickValue) (s : Kept) (full : Bool) → StandsFor 1 h b → is_full b.kept s ≡ full → stored_in h s ≡ (if full then h else happened.Stored s ∷ h)
stored_unless h b s full stands is =
    ap (λ c. if c then h else happened.Stored s ∷ h) (ap (λ kept. is_full kept s) (sym (stands_for_all 1 h b stands)) ∙ is)

-- a request leaves a brick its number
pub answered_number : (b : BrickValue) (request : Frame) → (answered b request).number ≡ b.number
answered_number b (Put n k v d x) = go (is_full b.kept (put_value k v d x))
  where
    go : (full : Bool) → (if full then b else record b { kept = with_kept (put_value k v d x) b.kept }).number ≡ b.number
    go true = refl
    go false = refl
answered_number b (Get n k v) = refl
answered_number b (Sweep n moment) = refl
answered_number b (Stored n k v c i) = refl
answered_number b (Found n k v c i d x) = refl
answered_number b (Absent n k v c i s) = refl
answered_number b (BrickFull n k v c i s t) = refl
answered_number b (Swept n c i s) = refl

-- what is pushed last is the newest
pub newest : (items : List BrickEvent) (event : BrickEvent) → reverse (items ++ event ∷ []) ≡ event ∷ reverse items
newest items event = reverse-append items (event ∷ [])
