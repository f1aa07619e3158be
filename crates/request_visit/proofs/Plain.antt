-- What an item says of its session, in plain words.
use Rattle.std.proofs.Common.{◌≡◌, ◌∙◌, ap, sym, refl, subst, inl, inr, ℕ, ◌≤◌, ◌<◌, ◌+◌, ◌-◌, arith, Bool, true, false, List, [], ◌∷◌, map, Option, Some, None, Ok, Err}
use Rattle.std.proofs.lemmas.Bool.{ltb-false, ltb-true}
use Rattle.std.specs.Prelude.{filter_map, if◌then◌else◌, nat_lt, option_map}
use Rattle.crash_base.specs.declared.numbers.Moment.{Moment}
use Rattle.crash_base.specs.declared.numbers.Place.{Place}
use Rattle.crash_base.specs.declared.numbers.Version.{Version}
use Rattle.journal_model.specs.declared.entry.Entry.{Entry}
use Rattle.outcome_items.specs.declared.item.Item.{Item}
use Rattle.outcome_items.specs.declared.outcome.ItemOutcome.{ItemOutcome}
use Rattle.outcome_items.specs.declared.outcome.ItemOutcome.TheVariants as item
use Rattle.outside.specs.declared.link.LinkEvent.{LinkEvent}
use Rattle.request_tries.specs.Ends.{done_at}
use Rattle.request_tries.specs.declared.outcome.RequestOutcome.TheVariants.{Page}
use Rattle.request_visit.specs.Ready.{set_in}
use Rattle.request_visit.specs.Sessions.{CookieTold, HasCome, IsKnown, ReadsTo, SessionTold, TellsSession, WereFull, WritesTo}
use Rattle.request_visit.specs.Stepping.{VisitsWindows}
use Rattle.request_visit.specs.Visits.{after_outcome, fate_missed, fate_written, overloaded, with_fate}
use Rattle.request_visit.specs.declared.facts.VisitFacts.{VisitFacts}
use Rattle.request_visit.specs.declared.ready.Shown.{Shown}
use Rattle.request_visit.specs.declared.visit.Visit.{Visit}
use Rattle.request_visit.specs.declared.visit.Work.{Work}
use Rattle.request_visit.specs.declared.visit.Work.TheVariants.{Committed, Decided}
use Rattle.send_windows.specs.Facts.{full_facts, open_count}
use Rattle.send_windows.specs.Windows.{WindowsValue}
use Rattle.send_windows.specs.declared.fact.WindowFact.{WindowFact}
use Rattle.send_windows.specs.declared.windows.TakeRefusal.TheVariants as refusal
use Rattle.session_cookie.specs.declared.cookie.Cookie.{Cookie}
use Rattle.session_way.specs.Lease.{is_due, value_to_write}
use Rattle.session_way.specs.Way.{IsRefused}
use Rattle.session_way.specs.declared.lease.SessionLease.{SessionLease}
use Rattle.session_way.specs.declared.session_write.WriteOrder.{WriteOrder}
use Rattle.session_way.specs.declared.session_write.WriteOutcome.{WriteOutcome}
use Rattle.session_way.specs.declared.session_write.WriteOutcome.TheVariants as outcome
use Rattle.session_way.specs.declared.way.SessionWay.{SessionWay}
use Rattle.session_way.specs.declared.way.SessionWay.TheVariants as way
use Rattle.session_cookie.specs.declared.cookie.Holder.{Holder}
use Rattle.ssm_stub.specs.Reads.{ReadState, found_in, found_or, hear_read, loss_of, lost_unless, read_answer, read_machine, read_start}
use Rattle.ssm_stub.specs.Runs.{after as after_told, told_of}
use Rattle.ssm_stub.specs.Turns.{turn_in_order}
use Rattle.ssm_stub.specs.declared.ask.Turn.{Turn as BrickTurn}
use Rattle.ssm_stub.specs.declared.cause.BrickCause.{BrickCause}
use Rattle.ssm_stub.specs.declared.event.Told.{Told}
use Rattle.ssm_stub.specs.declared.read_call.ReadRefusal.TheVariants as read_refusal

-- the session of a page by its cookie
page_told : {L : Type 0} (makes : L → LinkEvent → L → Type 0) (begin : Option ReadState) (facts : VisitFacts) (es : List Entry) (i : Item) (place : Place) (again : Bool) (cookie : Option Cookie)
    → (t : TellsSession makes begin facts es i) → i.outcome ≡ item.Ended (Page place again) → i.cookie ≡ cookie → CookieTold makes facts t.lease (done_at es place) cookie
page_told makes begin facts es i place again cookie t is has =
    let told : SessionTold makes begin es facts t.lease i.cookie (item.Ended (Page place again)) = subst (λ (o : ItemOutcome). SessionTold makes begin es facts t.lease i.cookie o) is t.told in
    subst (λ (c : Option Cookie). CookieTold makes facts t.lease (done_at es place) c) has told.1

-- what is known of the session of a page is what its read answered
known_of : {L : Type 0} (makes : L → LinkEvent → L → Type 0) (begin : Option ReadState) (facts : VisitFacts) (es : List Entry) (i : Item) (place : Place) (again : Bool)
    → (t : TellsSession makes begin facts es i) → i.outcome ≡ item.Ended (Page place again) → IsKnown makes begin t.lease
known_of makes begin facts es i place again t is =
    let told : SessionTold makes begin es facts t.lease i.cookie (item.Ended (Page place again)) = subst (λ (o : ItemOutcome). SessionTold makes begin es facts t.lease i.cookie o) is t.told in
    told.0

-- a lease that is not due ends late, and one that is due ends early
ends_late : (now expiry : Moment) → is_due now expiry ≡ false → now.0 + 900000 ≤ expiry.0
ends_late now expiry h = (let far : 900000 ≤ expiry.0 - now.0 = ltb-false (expiry.0 - now.0) 900000 h in omega (arith, far))

ends_early : (now expiry : Moment) → is_due now expiry ≡ true → expiry.0 ≤ now.0 + 899999
ends_early now expiry h = (let near : expiry.0 - now.0 < 900000 = ltb-true (expiry.0 - now.0) 900000 h in omega (arith, near))

-- whether a lease is due, by what is written where the action sets nothing
not_due : (due : Bool) (value : List ℕ) → (if due then Some value else None) ≡ None → due ≡ false
not_due true value h = absurd (cc)
not_due false value h = refl

is_due_for : (due : Bool) (value written : List ℕ) → (if due then Some value else None) ≡ Some written → (due ≡ true) × (value ≡ written)
is_due_for true value written h = (refl, cc)
is_due_for false value written h = absurd (cc)

-- Nothing is written: then nothing is set, and the lease of a session that was read ends late.
unset_told : {L : Type 0} (makes : L → LinkEvent → L → Type 0) (begin : Option ReadState) (now : Moment) (set : Option (List ℕ)) (lease : Option SessionLease)
    → IsKnown makes begin lease → value_to_write set now lease ≡ None → (set ≡ None) × ((start : ReadState) → begin ≡ Some start → now.0 + 900000 ≤ start.expiry.0)
unset_told makes begin now (Some value) lease known h = absurd (cc)
unset_told makes None now None lease known h = (refl, λ start is. absurd (cc))
unset_told makes (Some r) now None None known h = absurd known
unset_told makes (Some r) now None (Some lease) known h =
    let late : now.0 + 900000 ≤ lease.expiry.0 = ends_late now lease.expiry (not_due (is_due now lease.expiry) lease.value h) in
    (refl, λ start is. subst (λ (m : Moment). now.0 + 900000 ≤ m.0) (known.1 ∙ of_start r start is) late)
  where
    of_start : (r start : ReadState) → Some r ≡ Some start → r.expiry ≡ start.expiry
    of_start r start is =
        let same : r ≡ start = cc in
        ap (λ (x : ReadState). x.expiry) same

pub unset_by : {L : Type 0} (makes : L → LinkEvent → L → Type 0) (begin : Option ReadState) (facts : VisitFacts) (es : List Entry) (i : Item) (place : Place) (again : Bool)
    → TellsSession makes begin facts es i → i.outcome ≡ item.Ended (Page place again) → i.cookie ≡ None
    → (set_in (done_at es place) ≡ None) × ((start : ReadState) → begin ≡ Some start → facts.now.0 + 900000 ≤ start.expiry.0)
unset_by makes begin facts es i place again t is none =
    unset_told makes begin facts.now (set_in (done_at es place)) t.lease (known_of makes begin facts es i place again t is)
    (page_told makes begin facts es i place again None t is none)

-- A value is written: it is the one that is set; or none is set, and it was read, and its lease ends early.
set_told : {L : Type 0} (makes : L → LinkEvent → L → Type 0) (begin : Option ReadState) (now : Moment) (set : Option (List ℕ)) (lease : Option SessionLease) (told : Option (List ℕ)) (written : List ℕ)
    → IsKnown makes begin lease → told ≡ option_map (λ (l : SessionLease). l.value) lease → value_to_write set now lease ≡ Some written
    → ((value : List ℕ) → set ≡ Some value → written ≡ value)
    × (set ≡ None → (start : ReadState) × (begin ≡ Some start) × (start.expiry.0 ≤ now.0 + 899999) × (told ≡ Some written))
set_told makes begin now (Some set) lease told written known is h = (λ value same. cc, λ none. absurd (cc))
set_told makes begin now None None told written known is h = absurd (cc)
set_told makes None now None (Some lease) told written known is h = absurd known
set_told makes (Some r) now None (Some lease) told written known is h =
    let due = is_due_for (is_due now lease.expiry) lease.value written h in
    let early : lease.expiry.0 ≤ now.0 + 899999 = ends_early now lease.expiry due.0 in
    (λ value same. absurd (cc), λ none. (r, refl, subst (λ (m : Moment). m.0 ≤ now.0 + 899999) known.1 early, is ∙ ap Some due.1))

pub set_by : {L : Type 0} (makes : L → LinkEvent → L → Type 0) (begin : Option ReadState) (facts : VisitFacts) (es : List Entry) (i : Item) (place : Place) (again : Bool) (c : Cookie)
    → TellsSession makes begin facts es i → i.outcome ≡ item.Ended (Page place again) → i.cookie ≡ Some c
    → (order : WriteOrder) × WritesTo makes order (Ok c) × ((value : List ℕ) → set_in (done_at es place) ≡ Some value → order.value ≡ value)
    × (set_in (done_at es place) ≡ None → (start : ReadState) × (begin ≡ Some start) × (start.expiry.0 ≤ facts.now.0 + 899999) × (i.value ≡ Some order.value))
set_by makes begin facts es i place again c t is some =
    let h : HasCome makes facts t.lease (done_at es place) (Ok c) = page_told makes begin facts es i place again (Some c) t is some in
    let so = set_told makes begin facts.now (set_in (done_at es place)) t.lease i.value h.order.value (known_of makes begin facts es i place again t is) t.value_is h.is_order.value_is in
    (h.order, h.writes_to, so.0, so.1)

pub full_by : {L : Type 0} (makes : L → LinkEvent → L → Type 0) (begin : Option ReadState) (facts : VisitFacts) (es : List Entry) (i : Item) (place : Place) (again : Bool) (full : List WindowFact)
    → TellsSession makes begin facts es i → i.outcome ≡ item.Overload place again full → WereFull full
full_by makes begin facts es i place again full t is =
    let told : SessionTold makes begin es facts t.lease i.cookie (item.Overload place again full) = subst (λ (o : ItemOutcome). SessionTold makes begin es facts t.lease i.cookie o) is t.told in
    told.3

-- a request that is committed is so still where it was told what its write came to
committed_still : {P : Type 0} (told : Option WriteOutcome) (v : Visit P) (place : Place) (again : Bool) (shown : Shown) → v.work ≡ Committed place again shown → (after_outcome told v).work ≡ Committed place again shown
committed_still None v place again shown is = is
committed_still (Some (outcome.Written cookie)) v place again shown is = ap (with_fate fate_written) is
committed_still (Some (outcome.Missed causes)) v place again shown is = ap (with_fate (fate_missed causes)) is

-- passes are refused by an order alone, and by the windows as they are
refused_so : (w after : SessionWay) (windows later : WindowsValue) (full : List WindowFact) → IsRefused w windows after later (refusal.Overload full)
    → (open_count windows.facts < windows.wq) × (full ≡ full_facts windows.facts)
refused_so way.Resting after windows later full r = absurd r
refused_so (way.Reading x) after windows later full r = absurd r
refused_so (way.Ordered order) after windows later full r = (r.1.0, r.1.1)
refused_so (way.Writing v) after windows later full r = absurd r
refused_so (way.Settling v) after windows later full r = absurd r
refused_so (way.Holding passes) after windows later full r = absurd r

-- one overload is told as another
same_overload : {P : Type 0} (work : Work P) (place told : Place) (again once : Bool) (full said : List WindowFact) → work ≡ Decided (item.Overload place again full) → work ≡ Decided (item.Overload told once said)
    → (told ≡ place) × (once ≡ again) × (said ≡ full)
same_overload work place told again once full said is so = (cc, cc, cc)

pub overload_by : {P : Type 0} (old new : Visit P) (windows after : WindowsValue) (place told : Place) (again once : Bool) (shown : Shown) (full : List WindowFact)
    → VisitsWindows old windows new after → old.work ≡ Committed place again shown → new.work ≡ Decided (item.Overload told once full)
    → (told ≡ place) × (once ≡ again) × (open_count windows.facts < windows.wq) × (full ≡ full_facts windows.facts)
overload_by {P} old new windows after place told again once shown full (inl given) was is =
    let still : new.work ≡ Committed place again shown =
    ap (λ (v : Visit P). v.work) given.new_is ∙ committed_still given.outcome (record old { way = new.way }) place again shown was in
    absurd (cc)
overload_by {P} old new windows after place told again once shown full (inr o) was is =
    let so : new.work ≡ Decided (item.Overload place again o.full) = ap (λ (v : Visit P). v.work) o.new_is ∙ ap (overloaded o.full) was in
    let same = same_overload new.work place told again once o.full full so is in
    let refused = refused_so old.way new.way windows after o.full o.refused in
    (same.0, same.1, refused.0, same.2 ∙ refused.1)

-- a read keeps all but what was heard
read_stays : (events : List Told) (s : ReadState) → after_told read_machine s events ≡ record s { asks = (after_told read_machine s events).asks }
read_stays [] s = refl
read_stays (told ∷ events) s = read_stays events (hear_read s told)

-- an answer that a read expired is by the test of its moment, and tells that and the expiry
expired_only : (past : Bool) (found : Option (List ℕ)) (turn : Option (BrickTurn Holder)) (causes : List BrickCause) (now expiry at until : Moment)
    → (if past then Some (Err (read_refusal.Expired now expiry)) else found_or found (lost_unless turn causes)) ≡ Some (Err (read_refusal.Expired at until))
    → (past ≡ true) × (at ≡ now) × (until ≡ expiry)
expired_only true found turn causes now expiry at until h = (refl, cc, cc)
expired_only false (Some value) turn causes now expiry at until h = absurd (cc)
expired_only false None (Some turn) causes now expiry at until h = absurd (cc)
expired_only false None None causes now expiry at until h = absurd (cc)

-- A read expires past the expiry of its cookie alone, and tells that and its own moment.
pub expired_by : {L : Type 0} (makes : L → LinkEvent → L → Type 0) (now at expiry : Moment) (nonce : Version) (cookie : Cookie)
    → ReadsTo makes (read_start now nonce cookie) (Err (read_refusal.Expired at expiry)) → (at ≡ now) × (expiry ≡ cookie.expiry) × (cookie.expiry.0 < now.0)
expired_by makes now at expiry nonce cookie ends =
    let start = read_start now nonce cookie in
    let told : List Told = map told_of ends.events in
    let here : ReadState = record start { asks = (after_told read_machine start told).asks } in
    let answers : read_answer here ≡ Some (Err (read_refusal.Expired at expiry)) = sym (ap read_answer (ends.ran.ends ∙ read_stays told start)) ∙ ends.answers in
    let so = expired_only (nat_lt cookie.expiry.0 now.0) (found_in here.asks) (turn_in_order here.asks) (filter_map loss_of here.asks) now cookie.expiry at expiry answers in
    (so.1, so.2, ltb-true cookie.expiry.0 now.0 so.0)
