-- What follows a commit, by the value that is to be written.
use Rattle.std.proofs.Common.{◌≡◌, ℕ, ◌+◌, List, Option, Some, None, refl, sym, ap, ◌∙◌}
use Rattle.journal_model.specs.declared.entry.DoneText.{DoneText}
use Rattle.journal_model.specs.declared.entry.SessionChange.TheVariants.{Keep, Set}
use Rattle.session_way.specs.declared.session_write.WriteOrder.{WriteOrder}
use Rattle.site_responses.specs.Responses.{response}
use Rattle.outcome_items.specs.Answers.{answer_of_page}
use Rattle.request_visit.specs.Ready.{order_of, ready_by, set_by, set_in, shown_by, shown_response}
use Rattle.request_visit.specs.declared.facts.VisitFacts.{VisitFacts}
use Rattle.request_visit.specs.declared.ready.Ready.TheVariants.{Respond, Write}
use Rattle.request_visit.specs.declared.ready.Shown.{Shown}

pub responds : (facts : VisitFacts) (what : Option DoneText) (value : Option (List ℕ)) (bytes : List ℕ) → ready_by facts what value ≡ Respond bytes
    → (value ≡ None) × (bytes ≡ response (answer_of_page what None) facts.close facts.head_only)
responds facts what None bytes e =
    let same : response (answer_of_page what None) facts.close facts.head_only ≡ bytes = cc in
    (refl, sym same)
responds facts what (Some value) bytes e = absurd (cc)

-- what an order of a write says
abbrev OrderSays : VisitFacts → Option (List ℕ) → WriteOrder → Type 0
OrderSays facts value order =
    (value ≡ Some order.value) × (order.key ≡ facts.key) × (order.nonce ≡ facts.write) × (order.expiry.0 ≡ facts.now.0 + 1800000)

pub writes : (facts : VisitFacts) (what : Option DoneText) (value : Option (List ℕ)) (order : WriteOrder) (shown : Shown) → ready_by facts what value ≡ Write order shown
    → OrderSays facts value order
writes facts what None order shown e = absurd (cc)
writes facts what (Some value) order shown e =
    let same : order_of facts value ≡ order = cc in
    (ap (λ (o : WriteOrder). Some o.value) same, sym (ap (λ (o : WriteOrder). o.key) same), sym (ap (λ (o : WriteOrder). o.nonce) same), sym (ap (λ (o : WriteOrder). o.expiry.0) same))

pub shows_entry : (facts : VisitFacts) (what : Option DoneText) (text : List ℕ)
    → shown_response facts (shown_by what) text ≡ response (answer_of_page what (Some text)) facts.close facts.head_only
shows_entry facts (Some d) text = refl
shows_entry facts None text = refl

pub shows : (facts : VisitFacts) (what : Option DoneText) (value : Option (List ℕ)) (order : WriteOrder) (shown : Shown) (text : List ℕ) → ready_by facts what value ≡ Write order shown
    → shown_response facts shown text ≡ response (answer_of_page what (Some text)) facts.close facts.head_only
shows facts what None order shown text e = absurd (cc)
shows facts what (Some value) order shown text e =
    let same : shown_by what ≡ shown = cc in
    sym (ap (λ (s : Shown). shown_response facts s text) same) ∙ shows_entry facts what text

pub sets : (d : DoneText) (value : List ℕ) → d.session ≡ Set value → set_in (Some d) ≡ Some value
sets d value e = ap set_by e

pub keeps : (d : DoneText) → d.session ≡ Keep → set_in (Some d) ≡ None
keeps d e = ap set_by e
