-- What a link counted since a request began, step by step.
use Rattle.std.specs.Prelude.{option_map}
use Rattle.std.proofs.Common.{arith, ◌≡◌, ℕ, ◌≤◌, Bool, List, [], Option, Some, None, Err, refl, sym, ap, ◌∙◌, subst, inl, inr}
use Rattle.call_ticket.specs.declared.next.Answer.{Answer}
use Rattle.call_ticket.specs.declared.next.Next.{Next}
use Rattle.container_core.specs.Container.{ContainerValue, events_of}
use Rattle.container_core.specs.declared.history.Event.{Event}
use Rattle.crash_base.specs.declared.numbers.Version.{Version}
use Rattle.outcome_items.specs.declared.item.Item.{Item}
use Rattle.outside.specs.Link.{Tallied, Tally}
use Rattle.outside.specs.declared.link.LinkCounts.{LinkCounts}
use Rattle.outside.specs.declared.link.LinkEvent.{LinkEvent}
use Rattle.request_tries.specs.Ends.{done_of}
use Rattle.request_tries.specs.declared.outcome.Ended.{Ended}
use Rattle.request_tries.specs.declared.outcome.RequestOutcome.{RequestOutcome}
use Rattle.request_tries.specs.declared.outcome.RequestOutcome.TheVariants.{Page, Sentinel, Hung, Raised, Revoked, Conflict, JournalFull, KeeperFailed}
use Rattle.request_tries.specs.Serving.{TriesValue}
use Rattle.send_windows.specs.Windows.{WindowsValue}
use Rattle.send_windows.specs.declared.fact.WindowFact.{WindowFact}
use Rattle.send_windows.specs.declared.windows.TakeRefusal.TheVariants as refusal
use Rattle.session_cookie.specs.declared.cookie.Cookie.{Cookie}
use Rattle.session_way.specs.Reading.{answer_of_read}
use Rattle.session_way.specs.Way.{IsRefused, StepsOutside, StepsWindows, answer_held, passes_for, settled}
use Rattle.session_way.specs.Writing.{answer_of_write}
use Rattle.session_way.specs.declared.session_read.ReadOutcome.{ReadOutcome}
use Rattle.session_way.specs.declared.session_read.ReadOutcome.TheVariants as read
use Rattle.session_way.specs.declared.session_write.WriteOutcome.{WriteOutcome}
use Rattle.session_way.specs.declared.session_write.WriteOutcome.TheVariants as outcome
use Rattle.session_way.specs.declared.way.SessionWay.{SessionWay}
use Rattle.session_way.specs.declared.way.SessionWay.TheVariants as way
use Rattle.ssm_stub.specs.Ends.{bricks_of}
use Rattle.ssm_stub.specs.Reads.{ReadState, read_answer, read_ask, read_machine, read_start}
use Rattle.ssm_frames.specs.Spelling.{encode_of}
use Rattle.ssm_stub.specs.Runs.{Steps, told_of}
use Rattle.ssm_stub.specs.Writes.{WriteState, write_machine, write_next}
use Rattle.ssm_stub.specs.Reads.{read_next}
use Rattle.ssm_stub.specs.declared.cause.BrickCause.{BrickCause}
use Rattle.ssm_stub.specs.declared.event.Told.{Told}
use Rattle.ssm_stub.specs.declared.reply.ReadReply.{ReadReply}
use Rattle.ssm_stub.specs.declared.reply.WriteReply.{WriteReply}
use Rattle.ssm_stub.specs.declared.write_call.WriteRefusal.TheVariants as write_refusal
use Rattle.request_visit.specs.Advancing.{Advances, HearsReadOf, IsItemOf, after_leaving, after_read, departed, outcome_in}
use Rattle.request_visit.specs.Counts.{CountsStand, HasCounted, Noted, causes_by, causes_in, causes_of, noted_by, noted_in, noted_of, nothing_noted}
use Rattle.request_visit.specs.Ready.{ready_of}
use Rattle.request_visit.specs.Serving.{closed_with, closing_of}
use Rattle.request_visit.specs.Stepping.{IsGivenBack, ServesWork, VisitsInside, VisitsWindows, after_closing_if, counted, dropped, left_so}
use Rattle.request_visit.specs.Visits.{after_outcome, begun, fate_missed, fate_written, overloaded, with_fate}
use Rattle.request_visit.specs.declared.facts.VisitFacts.{VisitFacts}
use Rattle.request_visit.specs.declared.ready.Ready.{Ready}
use Rattle.request_visit.specs.declared.ready.Ready.TheVariants.{Respond, Write}
use Rattle.request_visit.specs.declared.serving.Closed.TheVariants as closes
use Rattle.request_visit.specs.declared.serving.Closing.{Closing}
use Rattle.request_visit.specs.declared.visit.Fate.{Fate}
use Rattle.request_visit.specs.declared.visit.Fate.TheVariants.{Known, Writing}
use Rattle.request_visit.specs.declared.visit.Visit.{Visit}
use Rattle.request_visit.specs.declared.visit.Work.{Work}
use Rattle.request_visit.specs.declared.visit.Work.TheVariants.{Reading, Opening, Serving, Committed, Decided, Answered, Left}
use Rattle.request_visit.proofs.Noting.{IsWithin, NotesMore, Raises, call_raises, counts_on, fewer, lost_within, missed_within, read_notes, unasked_notes, write_notes}

-- where something was counted, nothing was
no_less : (more : Noted) (old new : LinkCounts) → HasCounted more old new → HasCounted nothing_noted old new
no_less more old new counted = fewer nothing_noted more old new (record { silences = omega arith; strays = omega arith }) counted

nothing_yet : (counts : LinkCounts) → HasCounted nothing_noted counts counts
nothing_yet counts = record { hushed = omega arith; got = omega arith }

-- A request that begins has been told no causes.
pub begun_counts : {P : Type 0} (facts : VisitFacts) (counts : LinkCounts) (w : SessionWay) (work : Work P) (v : Visit P)
    → v ≡ begun facts counts w work → noted_in w ≡ nothing_noted → causes_in work ≡ [] → CountsStand counts v
begun_counts {P} facts counts w work v is none untold =
    subst (λ (x : Visit P). CountsStand counts x) (sym is) (record {
      held = subst (λ (n : Noted). HasCounted n counts counts) (sym none) (nothing_yet counts);
      told = subst (λ (cs : List BrickCause). HasCounted (noted_by cs) counts counts) (sym untold) (nothing_yet counts);
    })

-- a read that begins has asked no brick
pub unread : (facts : VisitFacts) (nonce : Version) (cookie : Cookie) → noted_in (way.Reading (read_start facts.now nonce cookie)) ≡ nothing_noted
unread facts nonce cookie = unasked_notes ReadReply cookie.bricks

pub opened_counts : {P : Type 0} (begin : LinkCounts) (v : Visit P) (tries : TriesValue) (program : P)
    → CountsStand begin v → CountsStand begin (record v { work = Serving tries program })
opened_counts begin v tries program s = record { held = s.held; told = no_less _ begin v.counts s.told }

dropped_told : {P : Type 0} (w : Work P) → causes_in (dropped w) ≡ causes_in w
dropped_told Reading = refl
dropped_told Opening = refl
dropped_told (Serving tries program) = refl
dropped_told (Committed place again shown) = refl
dropped_told (Decided became) = refl
dropped_told (Answered fate bytes) = refl
dropped_told (Left fate) = refl

pub dropped_counts : {P : Type 0} (begin : LinkCounts) (v : Visit P) → CountsStand begin v → CountsStand begin (record v { work = dropped v.work })
dropped_counts begin v s = record {
  held = s.held;
  told = subst (λ (cs : List BrickCause). HasCounted (noted_by cs) begin v.counts) (sym (dropped_told v.work)) s.told;
}

departed_told : {P : Type 0} (w : Work P) → causes_in (departed w) ≡ causes_in w
departed_told Reading = refl
departed_told Opening = refl
departed_told (Serving tries program) = refl
departed_told (Committed place again shown) = refl
departed_told (Decided became) = refl
departed_told (Answered fate bytes) = refl
departed_told (Left fate) = refl

settled_held : (w : SessionWay) → noted_in (settled w) ≡ noted_in w
settled_held way.Resting = refl
settled_held (way.Reading r) = refl
settled_held (way.Ordered order) = refl
settled_held (way.Writing x) = refl
settled_held (way.Settling x) = refl
settled_held (way.Holding passes) = refl

pub leave_counts : {P : Type 0} (begin : LinkCounts) (v : Visit P) → CountsStand begin v → CountsStand begin (after_leaving v)
leave_counts begin v s = record {
  held = subst (λ (n : Noted). HasCounted n begin v.counts) (sym (settled_held v.way)) s.held;
  told = subst (λ (cs : List BrickCause). HasCounted (noted_by cs) begin v.counts) (sym (departed_told v.work)) s.told;
}

-- a call of the link for the session notes no more than the link counts
module _ {L : Type 0} (makes : L → LinkEvent → L → Type 0) (tally : L → Tally) (tallies : (old new : L) (call : LinkEvent) → makes old call new → Tallied call (tally old) (tally new)) where
  -- what one step of the session notes and raises
  record Step (w after : SessionWay) (link later : L) : Type 0 where
    told : Told
    notes : NotesMore told (noted_in w) (noted_in after)
    raises : Raises told (tally link) (tally later)

  read_step : (r next : ReadState) (link later : L) → Steps read_machine makes (encode_of (read_ask r)) r link next later → Step (way.Reading r) (way.Reading next) link later
  read_step r next link later s = record {
    told = told_of s.event;
    notes = subst (λ (x : ReadState). NotesMore (told_of s.event) (noted_of r.asks) (noted_of x.asks)) (sym s.hears) (read_notes r (told_of s.event));
    raises = call_raises makes tally tallies (encode_of (read_ask r)) (read_next r) s.event link later s.fitting s.made;
  }

  write_step : (w next : WriteState) (link later : L) → Steps write_machine makes (encode_of w.ask) w link next later
      → (told : Told) × NotesMore told (noted_of w.asks) (noted_of next.asks) × Raises told (tally link) (tally later)
  write_step w next link later s = (
    told_of s.event,
    subst (λ (x : WriteState). NotesMore (told_of s.event) (noted_of w.asks) (noted_of x.asks)) (sym s.hears) (write_notes w (told_of s.event)),
    call_raises makes tally tallies (encode_of w.ask) (write_next w) s.event link later s.fitting s.made,
  )

  way_step : (w after : SessionWay) (link later : L) → StepsOutside makes w link after later → Step w after link later
  way_step way.Resting after link later s = absurd s
  way_step (way.Reading r) after link later s =
      subst (λ (x : SessionWay). Step (way.Reading r) x link later) (sym s.1) (read_step r s.0 link later s.2)
  way_step (way.Ordered order) after link later s = absurd s
  way_step (way.Writing x) after link later s =
      let step = write_step x.write s.0 link later s.2 in
      subst (λ (y : SessionWay). Step (way.Writing x) y link later) (sym s.1) (record { told = step.0; notes = step.1; raises = step.2 })
  way_step (way.Settling x) after link later s =
      let step = write_step x.write s.0 link later s.2 in
      subst (λ (y : SessionWay). Step (way.Settling x) y link later) (sym s.1) (record { told = step.0; notes = step.1; raises = step.2 })
  way_step (way.Holding passes) after link later s = absurd s

  pub outside_counts : {P : Type 0} (begin : LinkCounts) (v : Visit P) (w : SessionWay) (link later : L)
      → StepsOutside makes v.way link w later → v.counts.hushed ≤ (tally link).hushed → v.counts.got ≤ (tally link).got
      → CountsStand begin v → CountsStand begin (record v { way = w; counts = counted (tally later) })
  outside_counts begin v w link later steps hushed got s =
      let step = way_step v.way w link later steps in
      let same : NotesMore step.told (noted_by (causes_in v.work)) (noted_by (causes_in v.work)) = record { silences = omega arith; strays = omega arith } in
      record {
        held = counts_on step.told (tally link) (tally later) (noted_in v.way) (noted_in w) begin v.counts (counted (tally later)) step.raises step.notes hushed got refl refl s.held;
        told = counts_on step.told (tally link) (tally later) _ (noted_by (causes_in v.work)) begin v.counts (counted (tally later)) step.raises same hushed got refl refl s.told;
      }

-- a write that is told of as written names no causes more
written_told : {P : Type 0} (work : Work P) → causes_in (with_fate fate_written work) ≡ causes_in work
written_told {P} work = by work where
  fate : (f : Fate) → causes_by (fate_written f) ≡ causes_by f
  fate (Known became) = refl
  fate (Writing place again) = refl

  by : (w : Work P) → causes_in (with_fate fate_written w) ≡ causes_in w
  by Reading = refl
  by Opening = refl
  by (Serving tries program) = refl
  by (Committed place again shown) = refl
  by (Decided became) = refl
  by (Answered f bytes) = fate f
  by (Left f) = fate f

-- and one that is told of as missed names its own, if none were told before
missed_told : {P : Type 0} (causes : List BrickCause) (begin now : LinkCounts) (work : Work P)
    → HasCounted (noted_by causes) begin now → HasCounted (noted_by (causes_in work)) begin now → HasCounted (noted_by (causes_in (with_fate (fate_missed causes) work))) begin now
missed_told {P} causes begin now work missed told = by work told where
  fate : (f : Fate) → HasCounted (noted_by (causes_by f)) begin now → HasCounted (noted_by (causes_by (fate_missed causes f))) begin now
  fate (Known became) h = h
  fate (Writing place again) h = missed

  by : (w : Work P) → HasCounted (noted_by (causes_in w)) begin now → HasCounted (noted_by (causes_in (with_fate (fate_missed causes) w))) begin now
  by Reading h = h
  by Opening h = h
  by (Serving tries program) h = h
  by (Committed place again shown) h = h
  by (Decided became) h = h
  by (Answered f bytes) h = fate f h
  by (Left f) h = fate f h

overloaded_told : {P : Type 0} (full : List WindowFact) (begin now : LinkCounts) (work : Work P)
    → HasCounted (noted_by (causes_in work)) begin now → HasCounted (noted_by (causes_in (overloaded full work))) begin now
overloaded_told full begin now Reading h = h
overloaded_told full begin now Opening h = h
overloaded_told full begin now (Serving tries program) h = h
overloaded_told full begin now (Committed place again shown) h = h
overloaded_told full begin now (Decided became) h = h
overloaded_told full begin now (Answered fate bytes) h = h
overloaded_told full begin now (Left fate) h = h

-- the causes of a write that was missed were noted
missed_held : (w : SessionWay) (causes : List BrickCause) → answer_held w ≡ Some (Err (write_refusal.Missed causes)) → IsWithin (noted_by causes) (noted_in w)
missed_held way.Resting causes is = absurd (cc)
missed_held (way.Reading r) causes is = absurd (cc)
missed_held (way.Ordered order) causes is = absurd (cc)
missed_held (way.Writing x) causes is = missed_within x.write causes is
missed_held (way.Settling x) causes is = missed_within x.write causes is
missed_held (way.Holding passes) causes is = absurd (cc)

-- a request that is told what its write came to, of which nothing more is held
told_counts : {P : Type 0} (begin : LinkCounts) (old : Visit P) (w : SessionWay) (told : Option WriteOutcome) → option_map answer_of_write told ≡ answer_held old.way → noted_in w ≡ nothing_noted
    → CountsStand begin old → CountsStand begin (after_outcome told (record old { way = w }))
told_counts {P} begin old w told is none s = by told is where
  held : HasCounted (noted_in w) begin old.counts
  held = subst (λ (n : Noted). HasCounted n begin old.counts) (sym none) (no_less _ begin old.counts s.held)

  by : (o : Option WriteOutcome) → option_map answer_of_write o ≡ answer_held old.way → CountsStand begin (after_outcome o (record old { way = w }))
  by None is = record { held = held; told = s.told }
  by (Some (outcome.Written cookie)) is = record {
    held = held;
    told = subst (λ (cs : List BrickCause). HasCounted (noted_by cs) begin old.counts) (sym (written_told old.work)) s.told;
  }
  by (Some (outcome.Missed causes)) is = record {
    held = held;
    told = missed_told causes begin old.counts old.work (fewer (noted_by causes) (noted_in old.way) begin old.counts (missed_held old.way causes (sym is)) s.held) s.told;
  }

-- a step of the windows leaves nothing noted
windows_held : (w : SessionWay) (windows : WindowsValue) (after : SessionWay) (later : WindowsValue) → StepsWindows w windows after later → noted_in after ≡ nothing_noted
windows_held way.Resting windows after later s = absurd s
windows_held (way.Reading r) windows after later s = absurd s
windows_held (way.Ordered order) windows after later s = ap noted_in s.writes ∙ unasked_notes WriteReply (bricks_of (passes_for order windows))
windows_held (way.Writing x) windows after later s = absurd s
windows_held (way.Settling x) windows after later s = ap noted_in s.0
windows_held (way.Holding passes) windows after later s = ap noted_in s.0

refused_held : (w : SessionWay) (windows : WindowsValue) (after : SessionWay) (later : WindowsValue) (full : List WindowFact) → IsRefused w windows after later (refusal.Overload full) → noted_in after ≡ nothing_noted
refused_held way.Resting windows after later full s = absurd s
refused_held (way.Reading r) windows after later full s = absurd s
refused_held (way.Ordered order) windows after later full s = ap noted_in s.0
refused_held (way.Writing x) windows after later full s = absurd s
refused_held (way.Settling x) windows after later full s = absurd s
refused_held (way.Holding passes) windows after later full s = absurd s

pub windows_count : {P : Type 0} (begin : LinkCounts) (old new : Visit P) (windows after : WindowsValue) → VisitsWindows old windows new after → CountsStand begin old → CountsStand begin new
windows_count {P} begin old new windows after (inl given) s =
    subst (λ (v : Visit P). CountsStand begin v) (sym given.new_is)
    (told_counts begin old new.way given.outcome given.is_outcome (windows_held old.way windows new.way after given.step) s)
windows_count {P} begin old new windows after (inr refused) s =
    subst (λ (v : Visit P). CountsStand begin v) (sym refused.new_is) (record {
      held = subst (λ (n : Noted). HasCounted n begin old.counts) (sym (refused_held old.way windows new.way after refused.full refused.refused)) (no_less _ begin old.counts s.held);
      told = overloaded_told refused.full begin old.counts old.work s.told;
    })

pub back_counts : {P : Type 0} (begin : LinkCounts) (old new : Visit P) → IsGivenBack old new → CountsStand begin old → CountsStand begin new
back_counts {P} begin old new back s =
    subst (λ (v : Visit P). CountsStand begin v) (sym back.new_is) (told_counts begin old way.Resting back.outcome back.is_outcome refl s)

-- a request that heard its read
heard_counts : {P : Type 0} (begin : LinkCounts) (old : Visit P) (r : ReadState) (told : ReadOutcome) → old.way ≡ way.Reading r → read_answer r ≡ Some (answer_of_read told)
    → CountsStand begin old → CountsStand begin (after_read told old)
heard_counts begin old r (read.Found lease) is answer s = record { held = no_less _ begin old.counts s.held; told = no_less _ begin old.counts s.held }
heard_counts begin old r (read.Expired now expiry) is answer s = record { held = no_less _ begin old.counts s.held; told = no_less _ begin old.counts s.held }
heard_counts begin old r (read.Lost causes) is answer s = record {
  held = no_less _ begin old.counts s.held;
  told = fewer (noted_by causes) (noted_of r.asks) begin old.counts (lost_within r causes answer) (subst (λ (w : SessionWay). HasCounted (noted_in w) begin old.counts) is s.held);
}

other_work : {P : Type 0} (begin : LinkCounts) (old : Visit P) (work : Work P) → causes_in work ≡ [] → CountsStand begin old → CountsStand begin (record old { work = work })
other_work begin old work untold s = record {
  held = s.held;
  told = subst (λ (cs : List BrickCause). HasCounted (noted_by cs) begin old.counts) (sym untold) (no_less _ begin old.counts s.held);
}

hearing_counts : {P : Type 0} (begin : LinkCounts) (old new : Visit P) (w : SessionWay) → old.way ≡ w → HearsReadOf w old new → CountsStand begin old → CountsStand begin new
hearing_counts {P} begin old new w same hears s = by w same hears where
  opening : new ≡ record old { work = Opening } → CountsStand begin new
  opening is = subst (λ (v : Visit P). CountsStand begin v) (sym is) (other_work begin old Opening refl s)

  by : (w : SessionWay) → old.way ≡ w → HearsReadOf w old new → CountsStand begin new
  by (way.Reading r) same h = subst (λ (v : Visit P). CountsStand begin v) (sym h.new_is) (heard_counts begin old r h.outcome same h.is_outcome s)
  by way.Resting same h = opening h
  by (way.Ordered order) same h = opening h
  by (way.Writing x) same h = opening h
  by (way.Settling x) same h = opening h
  by (way.Holding passes) same h = opening h

pub advance_counts : {P : Type 0} (begin : LinkCounts) (key : List ℕ) (old new : Visit P) → Advances key old old.work new → CountsStand begin old → CountsStand begin new
advance_counts {P} begin key old new advances s = by old.work refl advances where
  same : new ≡ old → CountsStand begin new
  same is = subst (λ (v : Visit P). CountsStand begin v) (sym is) s

  by : (w : Work P) → old.work ≡ w → Advances key old w new → CountsStand begin new
  by Reading is a = hearing_counts begin old new old.way refl a s
  by Opening is a = same a
  by (Serving tries program) is a = same a
  by (Committed place again shown) is a = subst (λ (v : Visit P). CountsStand begin v) (sym a.new_is) (other_work begin old (Answered (Writing place again) a.bytes) refl s)
  by (Decided became) is a =
      subst (λ (v : Visit P). CountsStand begin v) (sym a) (record {
        held = s.held;
        told = subst (λ (w : Work P). HasCounted (noted_by (causes_in w)) begin old.counts) is s.told;
      })
  by (Answered fate bytes) is a = same a
  by (Left fate) is a = same a

-- a request that has left the container was told no causes
left_counts : {P : Type 0} (begin : LinkCounts) (v : Visit P) (ready : Bool → Ready) (end : RequestOutcome) → CountsStand begin v → CountsStand begin (left_so (closed_with ready end) v)
left_counts {P} begin v ready (Page place again) s = by (ready again) where
  by : (r : Ready) → CountsStand begin (left_so (closes.Page place again r) v)
  by (Respond bytes) = record { held = s.held; told = no_less _ begin v.counts s.held }
  by (Write order shown) = record { held = no_less _ begin v.counts s.held; told = no_less _ begin v.counts s.held }
left_counts begin v ready (Sentinel group down) s = record { held = s.held; told = no_less _ begin v.counts s.held }
left_counts begin v ready (Hung component fault path) s = record { held = s.held; told = no_less _ begin v.counts s.held }
left_counts begin v ready (Raised component fault path) s = record { held = s.held; told = no_less _ begin v.counts s.held }
left_counts begin v ready (Revoked tries) s = record { held = s.held; told = no_less _ begin v.counts s.held }
left_counts begin v ready (Conflict tries) s = record { held = s.held; told = no_less _ begin v.counts s.held }
left_counts begin v ready (JournalFull full) s = record { held = s.held; told = no_less _ begin v.counts s.held }
left_counts begin v ready KeeperFailed s = record { held = s.held; told = no_less _ begin v.counts s.held }

closed_counts : {P : Type 0} (begin : LinkCounts) (v : Visit P) (history : List Event) (end : Option Ended)
    → CountsStand begin v → CountsStand begin (after_closing_if (option_map (closing_of v.facts v.lease history) end) v)
closed_counts begin v history None s = s
closed_counts begin v history (Some e) s =
    left_counts begin (record v { holds = (closing_of v.facts v.lease history e).holds }) (λ again. ready_of v.facts v.lease (done_of history e)) e.outcome
    (record { held = s.held; told = s.told })

pub inside_counts : {P : Type 0} (begin : LinkCounts) (asks : P → List Answer → Next) (old new : Visit P) (container after : ContainerValue)
    → VisitsInside asks old container new after → CountsStand begin old → CountsStand begin new
inside_counts {P} begin asks old new container after visits s =
    subst (λ (v : Visit P). CountsStand begin v) (sym visits.new_is) (by old.work visits.serves) where
      by : (w : Work P) → ServesWork asks container old.facts old.lease w visits.closing after visits.work → CountsStand begin (after_closing_if visits.closing (record old { work = visits.work }))
      by Reading serves = absurd serves
      by Opening serves = absurd serves
      by (Serving tries program) serves =
          subst (λ (c : Option Closing). CountsStand begin (after_closing_if c (record old { work = visits.work }))) (sym serves.serves.closing_is)
          (closed_counts begin (record old { work = visits.work }) (events_of after) serves.serves.end
          (other_work begin old visits.work (ap causes_in serves.work_is) s))
      by (Committed place again shown) serves = absurd serves
      by (Decided became) serves = absurd serves
      by (Answered fate bytes) serves = absurd serves
      by (Left fate) serves = absurd serves

pub item_counts : {P : Type 0} (begin : LinkCounts) (v : Visit P) (i : Item) → IsItemOf v v.work i → CountsStand begin v → HasCounted (noted_by (causes_of i.outcome)) begin i.counts
item_counts {P} begin v i is s = by v.work is s.told where
  told : (f : Fate) → HasCounted (noted_by (causes_by f)) begin v.counts → HasCounted (noted_by (causes_of (outcome_in f))) begin v.counts
  told (Known became) h = h
  told (Writing place again) h = h

  by : (w : Work P) → IsItemOf v w i → HasCounted (noted_by (causes_in w)) begin v.counts → HasCounted (noted_by (causes_of i.outcome)) begin i.counts
  by Reading is h = absurd is
  by Opening is h = absurd is
  by (Serving tries program) is h = absurd is
  by (Committed place again shown) is h = absurd is
  by (Decided became) is h = absurd is
  by (Answered fate bytes) is h = absurd is
  by (Left fate) is h = subst (λ (x : Item). HasCounted (noted_by (causes_of x.outcome)) begin x.counts) (sym is) (told fate h)
