-- A brick stands for the history of what happened to it.
use Rattle.std.specs.Prelude.{◌≡◌, ℕ, if◌then◌else◌, List, ◌∷◌}
use Rattle.crash_base.specs.declared.numbers.SessionKey.{SessionKey}
use Rattle.crash_base.specs.declared.numbers.Version.{Version}
use Rattle.ssm_frames.specs.declared.frame.Frame.{Frame}
use Rattle.ssm_frames.specs.declared.frame.Frame.TheVariants.{Put, Get, Sweep, Stored, Found, Absent, BrickFull, Swept}
use Rattle.brick_store.specs.declared.kept.Kept.{Kept}
use Rattle.brick_store.specs.declared.event.BrickEvent.{BrickEvent}
use Rattle.brick_store.specs.declared.event.BrickEvent.TheVariants as event
use Rattle.brick_store.specs.Bricks.{BrickValue, put_value}
use Rattle.brick_store.specs.History.{held, all_held, incarnation_after, swept_after}
use Rattle.brick_store.specs.Kept.{kept_under, is_full, AreInOrder}

-- A brick of this first incarnation stands for a history, newest first: it keeps just what is held,
-- and its incarnation and moment swept are those of the history.
pub record StandsFor (first : ℕ) (h : List BrickEvent) (b : BrickValue) : Type 0 where
  pub pairs : (key : SessionKey) (version : Version) → kept_under key version b.kept ≡ held h key version
  pub in_order : AreInOrder b.kept
  pub incarnation_is : b.incarnation ≡ incarnation_after first h
  pub swept_is : b.swept ≡ swept_after h

-- the history after a value was to be kept
abbrev pub stored_in : List BrickEvent → Kept → List BrickEvent
stored_in h s = if is_full (all_held h) s then h else event.Stored s ∷ h

-- The history of a brick after a request that came to it. A Put that it has no room for, a Get and
-- a reply are no part of it.
abbrev pub heard : List BrickEvent → Frame → List BrickEvent
heard h (Put nonce key version expiry value) = stored_in h (put_value key version expiry value)
heard h (Get nonce key version) = h
heard h (Sweep nonce moment) = event.Sweep moment ∷ h
heard h (Stored nonce key version brick incarnation) = h
heard h (Found nonce key version brick incarnation expiry value) = h
heard h (Absent nonce key version brick incarnation swept) = h
heard h (BrickFull nonce key version brick incarnation entries bytes) = h
heard h (Swept nonce brick incarnation moment) = h
