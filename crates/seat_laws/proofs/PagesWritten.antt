-- What a connection writes of a session is what its page sets.
use Rattle.std.proofs.Common.{◌≡◌, ℕ, List, Option, Some, None, refl, ap, ◌∙◌}
use Rattle.std.specs.Prelude.{Result, Ok, take}
use Rattle.auction_calls.specs.declared.action.ActionCall.{ActionCall}
use Rattle.auction_site.specs.Actions.{steps_of}
use Rattle.boot_core.specs.declared.boot.Start.{Start}
use Rattle.container_core.specs.History.{entries_in}
use Rattle.container_core.specs.declared.history.Event.{Event}
use Rattle.crash_base.specs.declared.numbers.Place.{Place}
use Rattle.journal_model.specs.declared.entry.Entry.{Entry}
use Rattle.lane_link.specs.Links.{LaneLinkMakes}
use Rattle.request_tries.specs.Ends.{done_at}
use Rattle.request_visit.specs.Sessions.{FateTold, HasAnswer, HasBegun, IsOrderOf, IsReading, IsWriting, RunsOn, SessionOf, SettlesWith, WritesBy}
use Rattle.request_visit.specs.declared.facts.VisitFacts.{VisitFacts}
use Rattle.request_visit.specs.declared.visit.Fate.{Fate}
use Rattle.request_visit.specs.declared.visit.Fate.TheVariants.{Known, Writing}
use Rattle.request_visit.specs.declared.visit.Visit.{Visit}
use Rattle.request_visit.specs.declared.visit.Work.{Work}
use Rattle.request_visit.specs.declared.visit.Work.TheVariants.{Reading, Opening, Serving as ServingBy, Committed, Decided, Answered, Left}
use Rattle.send_windows.specs.Windows.{WindowsValue}
use Rattle.served_items.specs.Attributing.{StageBy, TakenIn}
use Rattle.session_cookie.specs.declared.cookie.Cookie.{Cookie}
use Rattle.session_way.specs.Way.{IsTaken, answer_held}
use Rattle.session_way.specs.Writing.{WritingState}
use Rattle.session_way.specs.declared.lease.SessionLease.{SessionLease}
use Rattle.session_way.specs.declared.session_write.WriteOrder.{WriteOrder}
use Rattle.session_way.specs.declared.way.SessionWay.{SessionWay}
use Rattle.session_way.specs.declared.way.SessionWay.TheVariants as way
use Rattle.shepherd.specs.declared.shepherd.AskedCall.{AskedCall}
use Rattle.shepherd.specs.declared.shepherd.Stage.{Stage}
use Rattle.shepherd.specs.declared.shepherd.Stage.TheVariants.{Resting, Serving, Refusing, Over}
use Rattle.ssm_frames.specs.declared.frame.Frame.TheVariants.{Put}
use Rattle.ssm_stub.specs.Reads.{ReadState}
use Rattle.ssm_stub.specs.Writes.{WriteState}
use Rattle.ssm_stub.specs.declared.write_call.WriteRefusal.{WriteRefusal}
use Rattle.seat_steps.specs.Twinned.{value_put, way_in}
use Rattle.seat_laws.specs.Reads.{value_written}
use Rattle.seat_laws.specs.Serving.{WritesPage, page_by_fate, page_written}

-- what a write sends that was begun of an order
abbrev pub SentLaw : Type 0
SentLaw = (order : WriteOrder) (old new : WindowsValue) (w : WritingState) → IsTaken order old (way.Writing w) new → w.write.ask ≡ Put order.nonce order.key order.nonce order.expiry order.value

module _ (sent : SentLaw) where
  put-begun : (order : WriteOrder) (begun : WritingState) → HasBegun order begun → value_put begun.write.ask ≡ order.value
  put-begun order begun has = ap value_put (sent order has.old has.new begun has.is_taken)

  put-written : (order : WriteOrder) (here : WriteState) → IsWriting LaneLinkMakes order here → value_put here.ask ≡ order.value
  put-written order here it = ap (λ (w : WriteState). value_put w.ask) it.ran.same ∙ put-begun order it.begun it.has_begun

  put-on : (order : WriteOrder) (answer : Result Cookie WriteRefusal) (here : WriteState) → RunsOn LaneLinkMakes order answer here → value_put here.ask ≡ order.value
  put-on order answer here it = ap (λ (w : WriteState). value_put w.ask) it.ran.same ∙ put-begun order it.begun it.has_begun

  -- by what is done with the session
  by-writes : (order : WriteOrder) (w : SessionWay) (cookie : Cookie) → WritesBy LaneLinkMakes order w → answer_held w ≡ Some (Ok cookie) → value_written w ≡ order.value
  by-writes order way.Resting cookie so is = absurd so
  by-writes order (way.Reading r) cookie so is = absurd so
  by-writes order (way.Ordered now) cookie so is = absurd (cc)
  by-writes order (way.Writing w) cookie so is = put-written order w.write so
  by-writes order (way.Settling w) cookie so is = absurd so
  by-writes order (way.Holding passes) cookie so is = absurd so

  by-answer : (w : SessionWay) (order : WriteOrder) (answer : Result Cookie WriteRefusal) → HasAnswer LaneLinkMakes w order answer → value_written w ≡ order.value
  by-answer way.Resting order answer so = absurd so
  by-answer (way.Reading r) order answer so = absurd so
  by-answer (way.Ordered now) order answer so = absurd so
  by-answer (way.Writing w) order answer so = put-on order answer w.write so
  by-answer (way.Settling w) order answer so = absurd so
  by-answer (way.Holding passes) order answer so = absurd so

  by-settling : (w : SessionWay) (order : WriteOrder) (answer : Result Cookie WriteRefusal) → SettlesWith LaneLinkMakes w order answer → value_written w ≡ order.value
  by-settling way.Resting order answer so = absurd so
  by-settling (way.Reading r) order answer so = absurd so
  by-settling (way.Ordered now) order answer so = absurd so
  by-settling (way.Writing w) order answer so = absurd so
  by-settling (way.Settling w) order answer so = put-on order answer w.write so
  by-settling (way.Holding passes) order answer so = absurd so

  none-read : (begin : Option ReadState) (w : SessionWay) (cookie : Cookie) → IsReading LaneLinkMakes begin w → answer_held w ≡ Some (Ok cookie) → ⊥
  none-read begin way.Resting cookie so is = so
  none-read begin (way.Reading r) cookie so is = absurd (cc)
  none-read begin (way.Ordered now) cookie so is = so
  none-read begin (way.Writing w) cookie so is = so
  none-read begin (way.Settling w) cookie so is = so
  none-read begin (way.Holding passes) cookie so is = so

  none-held : (w : SessionWay) (cookie : Cookie) → w ≡ way.Resting → answer_held w ≡ Some (Ok cookie) → ⊥
  none-held w cookie rests is = let none : answer_held w ≡ None = ap answer_held rests in absurd (cc)

  module _ (es : List Entry) (facts : VisitFacts) (lease : Option SessionLease) (w : SessionWay) (cookie : Cookie) (is : answer_held w ≡ Some (Ok cookie)) where
    -- the page, and the order that follows it
    abbrev Follows : Option Place → Type 0
    Follows page = (place : Place) × (order : WriteOrder) × (page ≡ Some place) × IsOrderOf facts lease (done_at es place) order × (value_written w ≡ order.value)

    by-fate : (begin : Option ReadState) (shown : Option Cookie) (HeldSo : WriteOrder → Result Cookie WriteRefusal → Type 0) → ((order : WriteOrder) (answer : Result Cookie WriteRefusal) → HeldSo order answer → value_written w ≡ order.value)
        → (fate : Fate) → FateTold LaneLinkMakes begin es facts lease shown w HeldSo fate → Follows (page_by_fate fate)
    by-fate begin shown HeldSo held (Known became) so = absurd (none-held w cookie so.1 is)
    by-fate begin shown HeldSo held (Writing place again) so = let it = so.2 in (place, it.order, refl, it.is_order, held it.order it.answer it.held_so)

    by-work : (begin : Option ReadState) (shown : Option Cookie) (work : Work ActionCall) → SessionOf LaneLinkMakes begin es facts lease shown w work → Follows (page_written work)
    by-work begin shown Reading so = absurd (none-read begin w cookie so.2 is)
    by-work begin shown Opening so = absurd (none-held w cookie so.2 is)
    by-work begin shown (ServingBy tries program) so = absurd (none-held w cookie so.2 is)
    by-work begin shown (Committed place again show) so = let it = so.2 in (place, it.order, refl, it.is_order, by-writes it.order w cookie it.writes is)
    by-work begin shown (Decided became) so = absurd (none-held w cookie so.1 is)
    by-work begin shown (Answered fate bytes) so = by-fate begin shown (HasAnswer LaneLinkMakes w) (by-answer w) fate so
    by-work begin shown (Left fate) so = by-fate begin shown (SettlesWith LaneLinkMakes w) (by-settling w) fate so

  -- So it is of the request that is open.
  pub page-written : (makes : ActionCall → List ℕ → ActionCall → Type 0) (came : TakenIn → Type 0) (start : Start) (history : List Event) (opened : List TakenIn) (stage : Stage ActionCall) (cookie : Cookie)
      → StageBy steps_of LaneLinkMakes makes came start history opened stage → answer_held (way_in stage) ≡ Some (Ok cookie)
      → (v : Visit ActionCall) × (call : Option AskedCall) × (stage ≡ Serving v call) × WritesPage history v
  page-written makes came start history opened Resting cookie by is = absurd (cc)
  page-written makes came start history opened (Serving v call) cookie by is =
      let it = by-work (entries_in (take v.holds.held history)) v.facts v.lease v.way cookie is _ v.cookie v.work by.goes_back.session.so in
      (v, call, refl, record { place = it.0; order = it.1; page_is = it.2; is_order = it.3; asked = it.4 })
  page-written makes came start history opened (Refusing why bytes) cookie by is = absurd (cc)
  page-written makes came start history opened (Over end) cookie by is = absurd (cc)
