-- What a way hears over the link, by the link's replies, is a step of it.
use Rattle.std.proofs.Common.{◌≡◌, ◌∙◌, ℕ, Bool, true, false, IsTrue, List, Option, Some, None, Result, refl, sym, ap}
use Rattle.crash_base.specs.declared.numbers.BrickNo.{BrickNo}
use Rattle.lane_link.specs.Links.{LaneLinkMakes, after_receive, after_send, heard_next, takes_send}
use Rattle.lane_link.specs.Twins.{call_held}
use Rattle.lane_link.specs.declared.link.LaneLink.{LaneLink}
use Rattle.outside.specs.Link.{Made}
use Rattle.session_cookie.specs.declared.cookie.Cookie.{Cookie}
use Rattle.session_way.specs.Way.{StepsOutside, outside_or, wants}
use Rattle.session_way.specs.Writing.{WritingState}
use Rattle.session_way.specs.declared.way.SessionWay.{SessionWay}
use Rattle.session_way.specs.declared.way.SessionWay.TheVariants as way
use Rattle.session_way.specs.declared.way.Wants.{Wants}
use Rattle.session_way.specs.declared.way.Wants.TheVariants as wanted
use Rattle.shepherd_steps.specs.Outside.{event_of_receive, event_of_send, heard_over, machine_after, way_outside}
use Rattle.ssm_frames.specs.Spelling.{encode_of}
use Rattle.ssm_stub.specs.Reads.{read_ask, read_machine, read_next}
use Rattle.ssm_stub.specs.Runs.{Machine, Steps, call_of, fits, told_of}
use Rattle.ssm_stub.specs.Turns.{next_unless}
use Rattle.ssm_stub.specs.Writes.{write_answer, write_machine, write_next, write_until}
use Rattle.ssm_stub.specs.declared.event.StubEvent.{StubEvent}
use Rattle.ssm_stub.specs.declared.event.StubNext.{StubNext}
use Rattle.ssm_stub.specs.declared.event.StubNext.TheVariants as next
use Rattle.ssm_stub.specs.declared.write_call.WriteRefusal.{WriteRefusal}
use Rattle.seat_steps.specs.Replies.{HearsSpelled, IsSpelled, frame_heard, lane_replies}

-- what would be heard where this is wanted is spelled
abbrev Spelled : LaneLink → StubNext → Type 0
Spelled link x = (from : BrickNo) → x ≡ next.Receive from → IsSpelled link.lanes (heard_next link from)

module _ (link : LaneLink) where
  -- what comes of what is wanted, and the calls of the link for it
  record Heard (ask : List ℕ) (x : StubNext) (event : StubEvent) (after : LaneLink) : Type 0 where
    fitting : IsTrue (fits x (told_of event))
    made : Made LaneLinkMakes link (call_of ask x event) after

  sent : (ask : List ℕ) (brick : BrickNo) (b : Bool) → takes_send link brick ask ≡ b → Heard ask (next.Send brick) (event_of_send b) (after_send link brick ask)
  sent ask brick true is = record { fitting = refl; made = (after_send link brick ask, (is, refl), refl) }
  sent ask brick false is = record { fitting = refl; made = (after_send link brick ask, (is, refl), refl) }

  received : (ask : List ℕ) (brick : BrickNo) (o : Option ℕ) → heard_next link brick ≡ o → IsSpelled link.lanes o → Heard ask (next.Receive brick) (event_of_receive (frame_heard link o)) (after_receive link brick)
  received ask brick None is spells = record { fitting = refl; made = (after_receive link brick, (is, refl), refl) }
  received ask brick (Some packet) is spells = record { fitting = refl; made = (after_receive link brick, (packet, is, spells, refl), refl) }

  heard : (ask : List ℕ) (x : StubNext) → Spelled link x → (x ≡ next.Ended → ⊥) → Heard ask x (heard_over lane_replies ask x link).0 (heard_over lane_replies ask x link).1
  unfolding lane_replies
  heard ask (next.Send brick) spelled more = sent ask brick (takes_send link brick ask) refl
  heard ask (next.Receive brick) spelled more = received ask brick (heard_next link brick) refl (spelled brick refl)
  heard ask next.Ended spelled more = absurd (more refl)

  machine-steps : {S : Type 0} (m : Machine S) (ask : List ℕ) (s : S) → Spelled link (m.next s) → (m.next s ≡ next.Ended → ⊥)
      → Steps m LaneLinkMakes ask s link (machine_after m lane_replies ask s link).0 (machine_after m lane_replies ask s link).1
  machine-steps m ask s spelled more =
      let h = heard ask (m.next s) spelled more in
      record { event = (heard_over lane_replies ask (m.next s) link).0; fitting = h.fitting; made = h.made; hears = refl }

  not-ended : (least : Wants) (x : StubNext) → outside_or least x ≡ wanted.Outside → (least ≡ wanted.Outside → ⊥) → x ≡ next.Ended → ⊥
  not-ended least x is other ends = other (sym (ap (outside_or least) ends) ∙ is)

  -- a write wants its answer only where it wants something at all
  until-more : (w : WritingState) → (write_until.next w.write ≡ next.Ended → ⊥) → write_next w.write ≡ next.Ended → ⊥
  until-more w more ends = more (go (write_answer w.write)) where
    go : (o : Option (Result Cookie WriteRefusal)) → next_unless o (write_next w.write) ≡ next.Ended
    go None = ends
    go (Some answer) = refl

  pub way-steps : (to : SessionWay) → HearsSpelled to link → wants to ≡ wanted.Outside → StepsOutside LaneLinkMakes to link (way_outside lane_replies to link).0 (way_outside lane_replies to link).1
  way-steps way.Resting spelled is = absurd (cc)
  way-steps (way.Reading r) spelled is = (
    (machine_after read_machine lane_replies (encode_of (read_ask r)) r link).0,
    refl,
    machine-steps read_machine (encode_of (read_ask r)) r (λ from e. spelled from (ap (λ (x : StubNext). Some x) e)) (not-ended wanted.Nothing (read_next r) is (λ e. cc)),
  )
  way-steps (way.Ordered order) spelled is = absurd (cc)
  way-steps (way.Writing w) spelled is = (
    (machine_after write_machine lane_replies (encode_of w.write.ask) w.write link).0,
    refl,
    machine-steps write_machine (encode_of w.write.ask) w.write (λ from e. spelled from (ap (λ (x : StubNext). Some x) e)) (until-more w (not-ended wanted.Nothing (write_until.next w.write) is (λ e. cc))),
  )
  way-steps (way.Settling w) spelled is = (
    (machine_after write_machine lane_replies (encode_of w.write.ask) w.write link).0,
    refl,
    machine-steps write_machine (encode_of w.write.ask) w.write (λ from e. spelled from (ap (λ (x : StubNext). Some x) e)) (not-ended wanted.Windows (write_next w.write) is (λ e. cc)),
  )
  way-steps (way.Holding passes) spelled is = absurd (cc)

-- a way that wants the link holds a call
pub outside-holds : (to : SessionWay) → wants to ≡ wanted.Outside → call_held to ≡ None → ⊥
outside-holds way.Resting is none = cc
outside-holds (way.Reading r) is none = cc
outside-holds (way.Ordered order) is none = cc
outside-holds (way.Writing w) is none = cc
outside-holds (way.Settling w) is none = cc
outside-holds (way.Holding passes) is none = cc
