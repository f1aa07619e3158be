-- Purchases alone enter a component by a method that may not be called again.
use Rattle.std.proofs.Common.{◌≡◌, ◌≢◌, ◌⊎◌, ◌↔◌, ℕ, true, false, [], ◌∷◌, inl, inr, refl}
use Rattle.call_ticket.specs.declared.next.Answer.TheVariants.{Entered}
use Rattle.call_ticket.specs.Repeated.{may_repeat}
use Rattle.call_attempts.specs.Attempt.{EntersOnce}
use Rattle.auction_calls.specs.declared.action.Action.{Action}
use Rattle.auction_calls.specs.declared.action.Action.TheVariants as action
use Rattle.auction_calls.specs.declared.action.ActionCall.{ActionCall}
use Rattle.auction_rows.specs.Parts.{site_parts}
use Rattle.auction_site.specs.Actions.{steps_of}
use Rattle.auction_site.proofs.Repeating.{buy_does_not, others_repeat}

-- an action is a purchase, or it is none
abbrev IsOrNot : Action → Type 0
IsOrNot a = ((item : ℕ) × (a ≡ action.Buy item)) ⊎ ((item : ℕ) → a ≢ action.Buy item)

is_or_not : (a : Action) → IsOrNot a
is_or_not action.Home = inr (λ item is. cc)
is_or_not (action.Register name password) = inr (λ item is. cc)
is_or_not (action.SignIn name password) = inr (λ item is. cc)
is_or_not action.SignOut = inr (λ item is. cc)
is_or_not action.Categories = inr (λ item is. cc)
is_or_not (action.AddCategory name) = inr (λ item is. cc)
is_or_not (action.Browse category page) = inr (λ item is. cc)
is_or_not (action.Item item) = inr (λ item is. cc)
is_or_not (action.User user) = inr (λ item is. cc)
is_or_not action.About = inr (λ item is. cc)
is_or_not (action.Sell title category start buy_now hours) = inr (λ item is. cc)
is_or_not (action.Bid item amount) = inr (λ item is. cc)
is_or_not (action.Buy item) = inl (item, refl)
is_or_not (action.Close item) = inr (λ item is. cc)
is_or_not (action.Feedback item good text) = inr (λ item is. cc)
is_or_not (action.Form kind) = inr (λ item is. cc)

only_buy : (call : ActionCall) → EntersOnce site_parts (steps_of call) → IsOrNot call.action → (item : ℕ) × (call.action ≡ action.Buy item)
only_buy call e (inl buys) = buys
only_buy call e (inr other) =
    let may : may_repeat site_parts (steps_of call e.answers) ≡ true = others_repeat call e.answers other in
    let may_not : may_repeat site_parts (steps_of call e.answers) ≡ false = e.once in
    absurd (cc)

pub once_is_buy : (call : ActionCall) → EntersOnce site_parts (steps_of call) ↔ ((item : ℕ) × (call.action ≡ action.Buy item))
once_is_buy call =
    (λ e. only_buy call e (is_or_not call.action), λ buys. record { answers = Entered ∷ []; once = buy_does_not call buys.0 buys.1 })
