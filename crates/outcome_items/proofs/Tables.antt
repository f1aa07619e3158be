-- What the table of answers says of each outcome.
use Rattle.std.specs.Prelude.{IfSome}
use Rattle.std.proofs.Common.{◌≡◌, ◌↔◌, ◌⊎◌, ℕ, true, false, List, Option, Some, None, refl, inl, inr, ap, sym, ◌∙◌, arith}
use Rattle.journal_model.specs.declared.entry.DoneText.{DoneText}
use Rattle.journal_model.specs.declared.entry.Entry.{Entry}
use Rattle.http_wire.specs.declared.response.CookieField.TheVariants as field
use Rattle.http_wire.specs.declared.taken.Head.{Head}
use Rattle.session_cookie.specs.Text.{IsTextOf}
use Rattle.session_cookie.specs.declared.cookie.Cookie.{Cookie}
use Rattle.request_decisions.specs.declared.decision.Refusal.{Refusal}
use Rattle.request_decisions.specs.declared.decision.Refusal.TheVariants as refusal
use Rattle.request_tries.specs.declared.outcome.RequestOutcome.{RequestOutcome}
use Rattle.request_tries.specs.declared.outcome.RequestOutcome.TheVariants.{Page, Sentinel, Hung, Raised, Revoked, Conflict, JournalFull, KeeperFailed}
use Rattle.site_responses.specs.Responses.{left_alone, said, response}
use Rattle.outcome_items.specs.Answers.{HasNoSession, IsFault, IsFaultEnd, IsPage, IsPageEnd, IsResponse, IsTextWhere, answer_of, answer_of_end, answer_of_page, answer_of_refusal, shown_by_entry, is_head_only}
use Rattle.outcome_items.specs.declared.item.Item.{Item}
use Rattle.outcome_items.specs.declared.outcome.ItemOutcome.{ItemOutcome}
use Rattle.outcome_items.specs.declared.outcome.ItemOutcome.TheVariants.{Refused, SerialsSpent, Expired, Lost, Ended, Overload, Missed}

-- no refusal is answered 500
refusal_fails : (why : Refusal) → (said (answer_of_refusal why)).status ≡ 500 → ⊥
refusal_fails refusal.NotThere e = omega arith
refusal_fails (refusal.NotAllowed allow) e = omega arith
refusal_fails refusal.Multipart e = omega arith
refusal_fails (refusal.BadForm f) e = omega arith
refusal_fails (refusal.StaleForm token_boot boot) e = omega arith

page_fails : (what : Option DoneText) (cookie : Option (List ℕ)) → (said (answer_of_page what cookie)).status ≡ 500 → IfSome what (λ d. d.status ≡ 500)
page_fails (Some d) cookie e = e
page_fails None cookie e = tt

end_fails : (what : Option DoneText) (cookie : Option (List ℕ)) (end : RequestOutcome) → (said (answer_of_end what cookie end)).status ≡ 500 → IsFaultEnd end ⊎ (IsPageEnd end × IfSome what (λ d. d.status ≡ 500))
end_fails what cookie (Page place again) e = inr (tt, page_fails what cookie e)
end_fails what cookie (Sentinel group down) e = absurd (omega arith)
end_fails what cookie (Hung component fault path) e = inl tt
end_fails what cookie (Raised component fault path) e = inl tt
end_fails what cookie (Revoked tries) e = absurd (omega arith)
end_fails what cookie (Conflict tries) e = absurd (omega arith)
end_fails what cookie (JournalFull full) e = absurd (omega arith)
end_fails what cookie KeeperFailed e = absurd (omega arith)

pub fails : (what : Option DoneText) (cookie : Option (List ℕ)) (outcome : ItemOutcome) → (said (answer_of what cookie outcome)).status ≡ 500 → IsFault outcome ⊎ (IsPage outcome × IfSome what (λ d. d.status ≡ 500))
fails what cookie (Refused why) e = absurd (refusal_fails why e)
fails what cookie (SerialsSpent seen) e = absurd (omega arith)
fails what cookie (Expired now expiry) e = absurd (omega arith)
fails what cookie (Lost causes) e = absurd (omega arith)
fails what cookie (Ended end) e = end_fails what cookie end e
fails what cookie (Overload place again full) e = absurd (omega arith)
fails what cookie (Missed place again causes) e = absurd (omega arith)

-- no refusal changes the client's cookie
refusal_keeps : (why : Refusal) → (said (answer_of_refusal why)).cookie ≡ left_alone
refusal_keeps refusal.NotThere = refl
refusal_keeps (refusal.NotAllowed allow) = refl
refusal_keeps refusal.Multipart = refl
refusal_keeps (refusal.BadForm f) = refl
refusal_keeps (refusal.StaleForm token_boot boot) = refl

page_sets : (what : Option DoneText) (cookie : Option (List ℕ)) (text : List ℕ) → ((said (answer_of_page what cookie)).cookie ≡ field.Set text) ↔ (Unit {0} × (cookie ≡ Some text))
page_sets (Some d) (Some t) text = (λ e. let same : t ≡ text = cc in (tt, ap (λ (u : List ℕ). Some u) same), λ e. let same = e.1 in cc)
page_sets (Some d) None text = (λ e. absurd (cc), λ e. let same = e.1 in absurd (cc))
page_sets None (Some t) text = (λ e. let same : t ≡ text = cc in (tt, ap (λ (u : List ℕ). Some u) same), λ e. let same = e.1 in cc)
page_sets None None text = (λ e. absurd (cc), λ e. let same = e.1 in absurd (cc))

end_sets : (what : Option DoneText) (cookie : Option (List ℕ)) (end : RequestOutcome) (text : List ℕ) → ((said (answer_of_end what cookie end)).cookie ≡ field.Set text) ↔ (IsPageEnd end × (cookie ≡ Some text))
end_sets what cookie (Page place again) text = page_sets what cookie text
end_sets what cookie (Sentinel group down) text = (λ e. absurd (cc), λ e. absurd e.0)
end_sets what cookie (Hung component fault path) text = (λ e. absurd (cc), λ e. absurd e.0)
end_sets what cookie (Raised component fault path) text = (λ e. absurd (cc), λ e. absurd e.0)
end_sets what cookie (Revoked tries) text = (λ e. absurd (cc), λ e. absurd e.0)
end_sets what cookie (Conflict tries) text = (λ e. absurd (cc), λ e. absurd e.0)
end_sets what cookie (JournalFull full) text = (λ e. absurd (cc), λ e. absurd e.0)
end_sets what cookie KeeperFailed text = (λ e. absurd (cc), λ e. absurd e.0)

pub sets : (what : Option DoneText) (cookie : Option (List ℕ)) (outcome : ItemOutcome) (text : List ℕ) → ((said (answer_of what cookie outcome)).cookie ≡ field.Set text) ↔ (IsPage outcome × (cookie ≡ Some text))
sets what cookie (Refused why) text = (λ e. let none = refusal_keeps why in absurd (cc), λ e. absurd e.0)
sets what cookie (SerialsSpent seen) text = (λ e. absurd (cc), λ e. absurd e.0)
sets what cookie (Expired now expiry) text = (λ e. absurd (cc), λ e. absurd e.0)
sets what cookie (Lost causes) text = (λ e. absurd (cc), λ e. absurd e.0)
sets what cookie (Ended end) text = end_sets what cookie end text
sets what cookie (Overload place again full) text = (λ e. absurd (cc), λ e. absurd e.0)
sets what cookie (Missed place again causes) text = (λ e. absurd (cc), λ e. absurd e.0)

page_clears : (what : Option DoneText) (cookie : Option (List ℕ)) → (said (answer_of_page what cookie)).cookie ≡ field.Clear → ⊥
page_clears (Some d) (Some t) e = cc
page_clears (Some d) None e = cc
page_clears None (Some t) e = cc
page_clears None None e = cc

end_clears : (what : Option DoneText) (cookie : Option (List ℕ)) (end : RequestOutcome) → (said (answer_of_end what cookie end)).cookie ≡ field.Clear → ⊥
end_clears what cookie (Page place again) e = page_clears what cookie e
end_clears what cookie (Sentinel group down) e = cc
end_clears what cookie (Hung component fault path) e = cc
end_clears what cookie (Raised component fault path) e = cc
end_clears what cookie (Revoked tries) e = cc
end_clears what cookie (Conflict tries) e = cc
end_clears what cookie (JournalFull full) e = cc
end_clears what cookie KeeperFailed e = cc

pub clears : (what : Option DoneText) (cookie : Option (List ℕ)) (outcome : ItemOutcome) → ((said (answer_of what cookie outcome)).cookie ≡ field.Clear) ↔ HasNoSession outcome
clears what cookie (Refused why) = (λ e. let none = refusal_keeps why in absurd (cc), λ e. absurd e)
clears what cookie (SerialsSpent seen) = (λ e. absurd (cc), λ e. absurd e)
clears what cookie (Expired now expiry) = (λ e. tt, λ e. refl)
clears what cookie (Lost causes) = (λ e. tt, λ e. refl)
clears what cookie (Ended end) = (λ e. absurd (end_clears what cookie end e), λ e. absurd e)
clears what cookie (Overload place again full) = (λ e. absurd (cc), λ e. absurd e)
clears what cookie (Missed place again causes) = (λ e. absurd (cc), λ e. absurd e)

-- a status of 503, and the cookie as it is
abbrev KeepsAt : Option DoneText → Option (List ℕ) → ItemOutcome → Type 0
KeepsAt what cookie outcome = ((said (answer_of what cookie outcome)).status ≡ 503) × ((said (answer_of what cookie outcome)).cookie ≡ left_alone)

refusal_retries : (why : Refusal) → (said (answer_of_refusal why)).retry ≡ true → ⊥
refusal_retries refusal.NotThere e = cc
refusal_retries (refusal.NotAllowed allow) e = cc
refusal_retries refusal.Multipart e = cc
refusal_retries (refusal.BadForm f) e = cc
refusal_retries (refusal.StaleForm token_boot boot) e = cc

page_retries : (what : Option DoneText) (cookie : Option (List ℕ)) → (said (answer_of_page what cookie)).retry ≡ true → ⊥
page_retries (Some d) cookie e = cc
page_retries None cookie e = cc

end_keeps : (what : Option DoneText) (cookie : Option (List ℕ)) (end : RequestOutcome) → (said (answer_of_end what cookie end)).retry ≡ true → KeepsAt what cookie (Ended end)
end_keeps what cookie (Page place again) e = absurd (page_retries what cookie e)
end_keeps what cookie (Sentinel group down) e = (refl, refl)
end_keeps what cookie (Hung component fault path) e = absurd (cc)
end_keeps what cookie (Raised component fault path) e = absurd (cc)
end_keeps what cookie (Revoked tries) e = (refl, refl)
end_keeps what cookie (Conflict tries) e = (refl, refl)
end_keeps what cookie (JournalFull full) e = (refl, refl)
end_keeps what cookie KeeperFailed e = (refl, refl)

pub keeps : (what : Option DoneText) (cookie : Option (List ℕ)) (outcome : ItemOutcome) → (said (answer_of what cookie outcome)).retry ≡ true → KeepsAt what cookie outcome
keeps what cookie (Refused why) e = absurd (refusal_retries why e)
keeps what cookie (SerialsSpent seen) e = (refl, refl)
keeps what cookie (Expired now expiry) e = absurd (cc)
keeps what cookie (Lost causes) e = absurd (cc)
keeps what cookie (Ended end) e = end_keeps what cookie end e
keeps what cookie (Overload place again full) e = (refl, refl)
keeps what cookie (Missed place again causes) e = (refl, refl)

-- who is not told to try again
abbrev IsNotRetried : ItemOutcome → Type 0
IsNotRetried outcome = ((why : Refusal) × (outcome ≡ Refused why)) ⊎ (HasNoSession outcome ⊎ (IsFault outcome ⊎ IsPage outcome))

end_else : (what : Option DoneText) (cookie : Option (List ℕ)) (end : RequestOutcome) → (said (answer_of_end what cookie end)).retry ≡ false → IsFaultEnd end ⊎ IsPageEnd end
end_else what cookie (Page place again) e = inr tt
end_else what cookie (Sentinel group down) e = absurd (cc)
end_else what cookie (Hung component fault path) e = inl tt
end_else what cookie (Raised component fault path) e = inl tt
end_else what cookie (Revoked tries) e = absurd (cc)
end_else what cookie (Conflict tries) e = absurd (cc)
end_else what cookie (JournalFull full) e = absurd (cc)
end_else what cookie KeeperFailed e = absurd (cc)

pub else_told : (what : Option DoneText) (cookie : Option (List ℕ)) (outcome : ItemOutcome) → (said (answer_of what cookie outcome)).retry ≡ false → IsNotRetried outcome
else_told what cookie (Refused why) e = inl (why, refl)
else_told what cookie (SerialsSpent seen) e = absurd (cc)
else_told what cookie (Expired now expiry) e = inr (inl tt)
else_told what cookie (Lost causes) e = inr (inl tt)
else_told what cookie (Ended end) e = inr (inr (end_else what cookie end e))
else_told what cookie (Overload place again full) e = absurd (cc)
else_told what cookie (Missed place again causes) e = absurd (cc)

-- a cookie has one text under a key
one_text : (key : List ℕ) (cookie : Cookie) (text other : List ℕ) → IsTextOf key cookie text → IsTextOf key cookie other → text ≡ other
one_text key cookie text other a b = a.1.text_is ∙ sym b.1.text_is

one_where : (key : List ℕ) (cookie : Option Cookie) (text other : Option (List ℕ)) → IsTextWhere key cookie text → IsTextWhere key cookie other → text ≡ other
one_where key None text other a b = a ∙ sym b
one_where key (Some cookie) (Some text) (Some other) a b = ap (λ (t : List ℕ). Some t) (one_text key cookie text other a b)
one_where key (Some cookie) (Some text) None a b = absurd b
one_where key (Some cookie) None other a b = absurd a

pub one_response : (key : List ℕ) (es : List Entry) (item : Item) (head : Head) (bytes other : List ℕ) → IsResponse key es item head bytes → IsResponse key es item head other → bytes ≡ other
one_response key es item head bytes other a b =
    let same : a.text ≡ b.text = one_where key item.cookie a.text b.text a.text_is b.text_is in
    a.bytes_are ∙ ap (λ (t : Option (List ℕ)). response (answer_of (shown_by_entry es item.outcome) t item.outcome) head.close (is_head_only head.method)) same ∙ sym b.bytes_are
