-- Which actions show a form.
use Rattle.std.proofs.Common.{◌≡◌, ◌↔◌, true, refl}
use Rattle.auction_calls.specs.declared.action.Action.{Action}
use Rattle.auction_calls.specs.declared.action.Action.TheVariants as action
use Rattle.auction_calls.specs.declared.action.FormKind.{FormKind}
use Rattle.request_decisions.specs.Draws.{shows_form}

pub forms_alone : (a : Action) → (shows_form a ≡ true) ↔ ((kind : FormKind) × (a ≡ action.Form kind))
forms_alone action.Home = (λ h. absurd (cc), λ h. let is = h.1 in absurd (cc))
forms_alone (action.Register name password) = (λ h. absurd (cc), λ h. let is = h.1 in absurd (cc))
forms_alone (action.SignIn name password) = (λ h. absurd (cc), λ h. let is = h.1 in absurd (cc))
forms_alone action.SignOut = (λ h. absurd (cc), λ h. let is = h.1 in absurd (cc))
forms_alone action.Categories = (λ h. absurd (cc), λ h. let is = h.1 in absurd (cc))
forms_alone (action.AddCategory name) = (λ h. absurd (cc), λ h. let is = h.1 in absurd (cc))
forms_alone (action.Browse category page) = (λ h. absurd (cc), λ h. let is = h.1 in absurd (cc))
forms_alone (action.Item item) = (λ h. absurd (cc), λ h. let is = h.1 in absurd (cc))
forms_alone (action.User user) = (λ h. absurd (cc), λ h. let is = h.1 in absurd (cc))
forms_alone action.About = (λ h. absurd (cc), λ h. let is = h.1 in absurd (cc))
forms_alone (action.Sell title category start buy_now hours) = (λ h. absurd (cc), λ h. let is = h.1 in absurd (cc))
forms_alone (action.Bid item amount) = (λ h. absurd (cc), λ h. let is = h.1 in absurd (cc))
forms_alone (action.Buy item) = (λ h. absurd (cc), λ h. let is = h.1 in absurd (cc))
forms_alone (action.Close item) = (λ h. absurd (cc), λ h. let is = h.1 in absurd (cc))
forms_alone (action.Feedback item good text) = (λ h. absurd (cc), λ h. let is = h.1 in absurd (cc))
forms_alone (action.Form kind) = (λ h. (kind, refl), λ h. refl)
