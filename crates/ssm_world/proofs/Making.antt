-- A world that events made is made by one event more.
use Rattle.std.proofs.Common.{◌≡◌, List, [], ◌∷◌, ◌++◌, Result, Ok, Err, OnOk, OnErr, refl, sym, ap, subst, ◌∙◌}
use Rattle.ssm_world.specs.declared.event.WorldEvent.{WorldEvent}
use Rattle.ssm_world.specs.Worlds.{WorldValue, new_world, step, after, IsMade}

pub after_more : (w : WorldValue) (es : List WorldEvent) (e : WorldEvent) → step (after w es) e ≡ after w (es ++ e ∷ [])
after_more w [] e = refl
after_more w (d ∷ es) e = after_more (step w d) es e

pub step_made : (w : WorldValue) (e : WorldEvent) → IsMade w → IsMade (step w e)
step_made w e made = record {
  bricks = made.bricks;
  events = made.events ++ e ∷ [];
  made = ap (λ v. step v e) made.made ∙ after_more (new_world made.bricks) made.events e;
}

-- whether memory ran out or not
pub either_made : {A X : Type 0} (result : Result A X) (w v : WorldValue) (e : WorldEvent) → IsMade w → OnOk result (v ≡ step w e) → OnErr result (v ≡ w) → IsMade v
either_made (Ok a) w v e made ok err = subst (λ u. IsMade u) (sym ok) (step_made w e made)
either_made (Err x) w v e made ok err = subst (λ u. IsMade u) (sym err) made
