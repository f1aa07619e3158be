-- The reads of requests that are taken are by the cookies that these bear, which name 1 to 16 distinct bricks.
use Rattle.std.proofs.Common.{◌≡◌, ◌∙◌, ◌↔◌, ℕ, List, Option, Some, None, refl, ap, subst}
use Rattle.http_wire.specs.declared.taken.Head.{Head}
use Rattle.request_decisions.specs.Decisions.{IsDecided}
use Rattle.request_decisions.specs.declared.decision.Decision.TheVariants as decided
use Rattle.request_decisions.specs.declared.decision.Order.{Order}
use Rattle.session_cookie.specs.Cookie.{AreHolders}
use Rattle.session_cookie.specs.Text.{IsTextOf}
use Rattle.session_cookie.specs.declared.cookie.Cookie.{Cookie}
use Rattle.shepherd_steps.specs.Deciding.{ReadRightly, Readings, accepted_by, decided_by}
use Rattle.text_readings.specs.CookieTexts.{cookie_of_text}
use Rattle.seat_steps.specs.Seats.{readings_under}

-- the laws by which requests are decided
pub record AskLaws : Type 0 where
  pub rightly : (key : List ℕ) → ReadRightly key (readings_under key)
  pub decides : (key : List ℕ) (readings : Readings) (boot : ℕ) (head : Head) → ReadRightly key readings → IsDecided key boot head (decided_by readings boot head)
  pub accepted : (key : List ℕ) (boot : ℕ) (head : Head) (o : Order) (cookie : Cookie) → IsDecided key boot head (decided.Ordered o) → o.cookie ≡ Some cookie
      → (text : List ℕ) × (head.cookie ≡ Some text) × IsTextOf key cookie text

pub asked-holders : AskLaws → (key : List ℕ) (boot : ℕ) (head : Head) (o : Order) (cookie : Cookie) → decided_by (readings_under key) boot head ≡ decided.Ordered o → o.cookie ≡ Some cookie
    → AreHolders cookie.bricks
asked-holders laws key boot head o cookie is has =
    let by : IsDecided key boot head (decided.Ordered o) = subst (IsDecided key boot head) is (laws.decides key (readings_under key) boot head (laws.rightly key)) in
    (laws.accepted key boot head o cookie by has).2.0.bricks

-- the laws by which a text is read as a cookie, and an order has the cookie that is read so
pub record BearLaws : Type 0 where
  pub reads : (key text : List ℕ) (cookie : Cookie) → (cookie_of_text key text ≡ Some cookie) ↔ IsTextOf key cookie text
  pub taken : (key : List ℕ) (boot : ℕ) (head : Head) (o : Order) (cookie : Cookie) (text : List ℕ) → IsDecided key boot head (decided.Ordered o) → head.cookie ≡ Some text
      → IsTextOf key cookie text → o.cookie ≡ Some cookie

module _ (laws : AskLaws) (more : BearLaws) (key : List ℕ) (boot : ℕ) (head : Head) (o : Order) (cookie : Cookie) (is : decided_by (readings_under key) boot head ≡ decided.Ordered o) where
  ordered-so : IsDecided key boot head (decided.Ordered o)
  ordered-so = subst (IsDecided key boot head) is (laws.decides key (readings_under key) boot head (laws.rightly key))

  -- the cookie of an order is the one that is accepted
  pub accepted-cookie : o.cookie ≡ Some cookie → accepted_by (readings_under key) head.cookie ≡ Some cookie
  accepted-cookie has =
      let at = laws.accepted key boot head o cookie ordered-so has in
      ap (λ (text : Option (List ℕ)). accepted_by (readings_under key) text) at.1 ∙ (more.reads key at.0 cookie).1 at.2

  -- and an order has the one that is accepted
  pub borne-cookie : accepted_by (readings_under key) head.cookie ≡ Some cookie → o.cookie ≡ Some cookie
  borne-cookie accepted = by head.cookie refl accepted where
    by : (text : Option (List ℕ)) → head.cookie ≡ text → accepted_by (readings_under key) text ≡ Some cookie → o.cookie ≡ Some cookie
    by None at e = absurd (cc)
    by (Some text) at e = more.taken key boot head o cookie text ordered-so at ((more.reads key text cookie).0 e)
