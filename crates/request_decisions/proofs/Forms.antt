-- The token of a form is one of the session of its call, and where none is shown there is no token.
use Rattle.std.proofs.Common.{◌≡◌, ◌≢◌, ℕ, ◌+◌, ◌<◌, ◌^◌, Bool, true, false, cond, nat_lt, List, Option, Some, None, replicate, get_or, sym, ap, ◌∙◌, arith}
use Rattle.std.specs.Char.{digit_char}
use Rattle.crash_base.specs.declared.numbers.Moment.{Moment}
use Rattle.crash_base.specs.declared.numbers.RequestNo.{RequestNo}
use Rattle.crash_base.specs.declared.numbers.SessionKey.{SessionKey}
use Rattle.session_cookie.specs.Token.{IsReadAs, hex_text, request_bytes, token_bytes, token_of}
use Rattle.request_decisions.specs.Calls.{call_of, form_of, number_for, ordered_call, session_key}
use Rattle.request_decisions.specs.Draws.{shows_form}
use Rattle.request_decisions.specs.declared.decision.Order.{Order}
use Rattle.request_decisions.specs.declared.draws.Draw.{Draw}
use Rattle.request_decisions.specs.declared.draws.DrawKind.TheVariants.{Token}

shown_form : (key : List ℕ) (boot : ℕ) (session : SessionKey) (shown : Bool) (drawn : List Draw)
    → shown ≡ true → boot < 2 ^ 32 → number_for Token drawn < 2 ^ 64
    → IsReadAs key session (form_of key boot session shown drawn) (Some (record { boot = boot; serial = number_for Token drawn }))
shown_form key boot session shown drawn shows small few =
    ((small, few), ap (λ (test : Bool). form_of key boot session test drawn) shows)

pub form_reads : (key : List ℕ) (boot : ℕ) (o : Order) (moment : Moment) (drawn : List Draw) (value : Option (List ℕ))
    → shows_form o.action ≡ true → boot < 2 ^ 32 → number_for Token drawn < 2 ^ 64
    → IsReadAs key (call_of key boot o moment drawn value).key (call_of key boot o moment drawn value).form (Some (record { boot = boot; serial = number_for Token drawn }))
unfolding ordered_call
form_reads key boot o moment drawn value shows small few =
    shown_form key boot (session_key o.cookie drawn) (shows_form o.action) drawn shows small few

-- no digit is a zero byte
digit_some : (n : ℕ) → digit_char n ≢ 0
digit_some n e = by (nat_lt n 10) e
  where
    by : (test : Bool) → cond test (48 + n) (87 + n) ≢ 0
    by true e = absurd (omega (arith, e))
    by false e = absurd (omega (arith, e))

token_is_some : (key : List ℕ) (session : SessionKey) (r : RequestNo) → replicate 56 0 ≢ token_of key session r
unfolding hex_text token_bytes request_bytes
token_is_some key session r e = digit_some _ (sym (ap (λ (bytes : List ℕ). get_or bytes 0 0) e))

no_form : (key : List ℕ) (boot : ℕ) (session other : SessionKey) (shown : Bool) (drawn : List Draw) → shown ≡ false
    → IsReadAs key other (form_of key boot session shown drawn) None
no_form key boot session other shown drawn hidden r is e =
    token_is_some key other r (sym (ap (λ (test : Bool). form_of key boot session test drawn) hidden) ∙ e)

pub nothing_reads : (key : List ℕ) (boot : ℕ) (o : Order) (moment : Moment) (drawn : List Draw) (value : Option (List ℕ)) (session : SessionKey)
    → shows_form o.action ≡ false → IsReadAs key session (call_of key boot o moment drawn value).form None
unfolding ordered_call
nothing_reads key boot o moment drawn value session hidden =
    no_form key boot (session_key o.cookie drawn) session (shows_form o.action) drawn hidden
