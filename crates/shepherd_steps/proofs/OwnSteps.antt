-- What a request becomes by itself is what the function gives.
use Rattle.std.proofs.Common.{◌≡◌, ℕ, List, Option, Some, None, Result, refl, sym, ap, ◌∙◌}
use Rattle.std.specs.Option.{option_and_then}
use Rattle.request_visit.specs.Advancing.{Advances, HearsReadOf, IsOfRead, IsShown, cookie_in}
use Rattle.request_visit.specs.Ready.{shown_response}
use Rattle.request_visit.specs.declared.facts.VisitFacts.{VisitFacts}
use Rattle.request_visit.specs.declared.ready.Shown.{Shown}
use Rattle.request_visit.specs.declared.visit.Fate.TheVariants.{Writing}
use Rattle.request_visit.specs.declared.visit.Visit.{Visit}
use Rattle.request_visit.specs.declared.visit.Work.{Work}
use Rattle.request_visit.specs.declared.visit.Work.TheVariants.{Reading, Opening, Serving, Committed, Decided, Answered, Left}
use Rattle.crash_base.specs.declared.numbers.Moment.{Moment}
use Rattle.crash_base.specs.declared.numbers.SessionKey.{SessionKey}
use Rattle.session_cookie.specs.declared.cookie.Cookie.{Cookie}
use Rattle.session_way.specs.Reading.{answer_of_read}
use Rattle.session_way.specs.Way.{answer_held}
use Rattle.session_way.specs.declared.lease.SessionLease.{SessionLease}
use Rattle.session_way.specs.declared.session_read.ReadOutcome.{ReadOutcome}
use Rattle.session_way.specs.declared.session_read.ReadOutcome.TheVariants as read
use Rattle.session_way.specs.declared.way.SessionWay.{SessionWay}
use Rattle.session_way.specs.declared.way.SessionWay.TheVariants as way
use Rattle.shepherd_steps.specs.Own.{heard_read, outcome_by, own, own_by, response_by, told_read}
use Rattle.ssm_stub.specs.Reads.{ReadState}
use Rattle.ssm_stub.specs.declared.read_call.ReadRefusal.{ReadRefusal}

-- what a read came to, by its answer
outcome-so : (r : ReadState) (o : ReadOutcome) → IsOfRead r o → Some o ≡ outcome_by r (answer_of_read o)
outcome-so r (read.Found lease) of = ap (λ (l : SessionLease). Some (read.Found l)) (lease-so lease of.0 of.1) where
  lease-so : (l : SessionLease) → l.key ≡ r.key → l.expiry ≡ r.expiry → l ≡ record { key = r.key; value = l.value; expiry = r.expiry }
  lease-so l key expiry =
      ap (λ (k : SessionKey). record l { key = k }) key
      ∙ ap (λ (e : Moment). record l { key = r.key; expiry = e }) expiry
outcome-so r (read.Expired now expiry) of = refl
outcome-so r (read.Lost causes) of = refl

heard-so : {P : Type 0} (w : SessionWay) (old new : Visit P) → HearsReadOf w old new → new ≡ heard_read w old
heard-so (way.Reading r) old new hears =
    hears.new_is
    ∙ ap (λ (o : Option ReadOutcome). told_read o old)
    (outcome-so r hears.outcome hears.of_read
    ∙ ap (λ (a : Option (Result (List ℕ) ReadRefusal)). option_and_then (outcome_by r) a) (sym hears.is_outcome))
heard-so way.Resting old new hears = hears
heard-so (way.Ordered order) old new hears = hears
heard-so (way.Writing w) old new hears = hears
heard-so (way.Settling w) old new hears = hears
heard-so (way.Holding passes) old new hears = hears

shown-so : (key : List ℕ) (facts : VisitFacts) (shown : Shown) (cookie : Option Cookie) (bytes : List ℕ) → IsShown key facts shown cookie bytes → bytes ≡ response_by key facts shown cookie
shown-so key facts shown None bytes is = is
shown-so key facts shown (Some cookie) bytes is = is.2 ∙ ap (λ (text : List ℕ). shown_response facts shown text) is.1.1.text_is

own-so : {P : Type 0} (key : List ℕ) (old : Visit P) (w : Work P) (new : Visit P) → Advances key old w new → new ≡ own_by key old w
own-so key old Reading new advances = heard-so old.way old new advances
own-so key old Opening new advances = advances
own-so key old (Serving tries program) new advances = advances
own-so key old (Committed place again shown) new advances =
    advances.new_is
    ∙ ap (λ (bytes : List ℕ). record old { work = Answered (Writing place again) bytes })
    (shown-so key old.facts shown (cookie_in (answer_held old.way)) advances.bytes advances.is_shown)
own-so key old (Decided became) new advances = advances
own-so key old (Answered fate bytes) new advances = advances
own-so key old (Left fate) new advances = advances

pub own-fixed : {P : Type 0} (key : List ℕ) (old new : Visit P) → Advances key old old.work new → new ≡ own key old
unfolding own
own-fixed key old new advances = own-so key old old.work new advances
