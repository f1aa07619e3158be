-- What a call of the link counts.
use Rattle.std.proofs.Common.{arith, ◌≡◌, inl, inr, refl, sym, ap, subst, ◌∙◌, ℕ, zero, suc, ◌+◌, ◌-◌, ◌<◌, ◌≤◌, ◌^◌, ◌&&◌, min, Bool, true, false, IsTrue, if◌then◌else◌, nat_lt, List, [], ◌∷◌, Option, Some, None, is_some}
use Rattle.std.specs.Prelude.{slice_get}
use Rattle.std.specs.Option.{option_and_then}
use Rattle.std.proofs.lemmas.Bool.Decides.{nat_tests}
use Rattle.crash_base.specs.declared.numbers.BrickNo.{BrickNo}
use Rattle.outside.specs.declared.link.LinkEvent.{LinkEvent}
use Rattle.outside.specs.declared.link.LinkEvent.TheVariants.{Sends, SendsInSilence, Gets, HearsSilence, WantsToSend, WantsToReceive}
use Rattle.outside.specs.Faults.{NeverFalls, Rose, counted}
use Rattle.outside.specs.Link.{Tallied, is_silence, is_silence_of, is_frame}
use Rattle.ssm_stub.specs.declared.event.StubNext.{StubNext}
use Rattle.ssm_stub.specs.declared.event.StubNext.TheVariants as next
use Rattle.ssm_world.specs.declared.call.Call.{Call}
use Rattle.ssm_world.specs.Worlds.{next_of}
use Rattle.ssm_world.proofs.Lists.{get_set_same}
use Rattle.ssm_world.proofs.Tests.{same_number}
use Rattle.session_lanes.specs.Counts.{CountsState, or_unknown, silences_of, silent_at, silent_by, frame_got}
use Rattle.session_lanes.specs.Lane.{LaneState, lane_at}
use Rattle.session_lanes.specs.Lanes.{LanesState, asks, listens, hears, first_waiting, turn_of, turn_to}
use Rattle.session_lanes.proofs.Counting.{Raised, Rises, same_rises, frame_rises, silent_rises, turn_rises}
use Rattle.lane_link.specs.declared.link.LaneLink.{LaneLink}
use Rattle.lane_link.specs.Links.{LaneLinkMakes, after_send, after_receive, capped, heard_next, lane_link_tally, takes_send, turned, turned_by, unwanted, wants_to_hear, wants_to_send}
use Rattle.lane_link.specs.Wanting.{IsActive, WantsSent, WantsHeard, sent_wants, heard_wants}

raised_never : (old new : ℕ) → Raised old new → NeverFalls (capped old) (capped new)
raised_never old new (inl same) = record { least = omega (arith, same); stays = λ last. omega (arith, same, last) }
raised_never old new (inr more) = (let e : new ≡ min (old + 1) (2 ^ 64 - 1) = more in record { least = omega (arith, e); stays = λ last. omega (arith, e, last) })

counted_rose : (old new : ℕ) → new ≡ counted old → Rose (capped old) (capped new)
counted_rose old new is = (let e : new ≡ min (old + 1) (2 ^ 64 - 1) = is in go e (nat_lt old (2 ^ 64 - 1)) refl) where
  go : new ≡ min (old + 1) (2 ^ 64 - 1) → (b : Bool) → nat_lt old (2 ^ 64 - 1) ≡ b → Rose (capped old) (capped new)
  go e true test = inl (let less : old < 2 ^ 64 - 1 = grind (arith, nat_tests) in omega (arith, e, less))
  go e false test = inr (let most : 2 ^ 64 - 1 ≤ old = grind (arith, nat_tests) in omega (arith, e, most))

-- the count of a number that was silent once more
silent_here : (c : CountsState) (brick : ℕ) → silences_of (silent_by brick c) brick ≡ counted (silences_of c brick)
silent_here c zero = refl
silent_here c (suc place) = go (slice_get c.silences place) refl where
  go : (o : Option ℕ) → slice_get c.silences place ≡ o → silences_of (silent_at place o c) (suc place) ≡ counted (or_unknown o c.unknown)
  go None is = ap (λ (o : Option ℕ). or_unknown o (counted c.unknown)) is
  go (Some n) is = ap (λ (o : Option ℕ). or_unknown o c.unknown) (get_set_same c.silences place (counted n) n is)

silent_sum : (c : CountsState) (brick : ℕ) → (silent_by brick c).hushed ≡ counted c.hushed
silent_sum c zero = refl
silent_sum c (suc place) = go (slice_get c.silences place) where
  go : (o : Option ℕ) → (silent_at place o c).hushed ≡ counted c.hushed
  go None = refl
  go (Some n) = refl

-- The counts of the lanes rose by just what an event is: a silence of its brick, a frame, or nothing.
pub record CountsEvent (event : LinkEvent) (old new : CountsState) : Type 0 where
  pub rises : Rises old new
  pub brick : (n : ℕ) → IsTrue (is_silence_of n event) → silences_of new n ≡ counted (silences_of old n)
  pub hushed : IsTrue (is_silence event) → new.hushed ≡ counted old.hushed
  pub got : IsTrue (is_frame event) → new.got ≡ counted old.got

tallied : (event : LinkEvent) (old new : LaneLink) → CountsEvent event old.lanes.counts new.lanes.counts → Tallied event (lane_link_tally old) (lane_link_tally new)
tallied event old new by = record {
  silences_never_fall = λ n. raised_never (silences_of old.lanes.counts n) (silences_of new.lanes.counts n) (by.rises.silences n);
  hushed_never_falls = raised_never old.lanes.counts.hushed new.lanes.counts.hushed by.rises.hushed;
  got_never_falls = raised_never old.lanes.counts.got new.lanes.counts.got by.rises.got;
  silence_rises = λ n is. counted_rose (silences_of old.lanes.counts n) (silences_of new.lanes.counts n) (by.brick n is);
  hushed_rises = λ is. counted_rose old.lanes.counts.hushed new.lanes.counts.hushed (by.hushed is);
  got_rises = λ is. counted_rose old.lanes.counts.got new.lanes.counts.got (by.got is);
}

silent_event : (event : LinkEvent) (c d : CountsState) (brick : BrickNo) → d ≡ silent_by brick.0 c → ((n : ℕ) → IsTrue (is_silence_of n event) → brick.0 ≡ n) → is_frame event ≡ false → CountsEvent event c d
silent_event event c d brick is own none = subst (λ (x : CountsState). CountsEvent event c x) (sym is) (record {
  rises = silent_rises c brick.0;
  brick = λ n test. subst (λ (m : ℕ). silences_of (silent_by brick.0 c) m ≡ counted (silences_of c m)) (own n test) (silent_here c brick.0);
  hushed = λ test. silent_sum c brick.0;
  got = λ test. absurd (let t : is_frame event ≡ true = test in let f : is_frame event ≡ false = none in cc);
})

-- what a turn counts
turned_is : (link : LaneLink) (number : ℕ) (c : Call) (x : StubNext) → IsActive link number c x → (turned link).lanes ≡ turn_to link.lanes number x
turned_is link number c x is = ap (turned_by link.lanes) is.active ∙ ap (turn_of link.lanes number) is.there ∙ ap (turn_to link.lanes number) is.wants

turned_rises : (link : LaneLink) → Rises link.lanes.counts (turned link).lanes.counts
turned_rises link = go link.active where
  at : (number : ℕ) (o : Option Call) → Rises link.lanes.counts (turn_of link.lanes number o).counts
  at number None = same_rises link.lanes.counts
  at number (Some c) = turn_rises link.lanes number (next_of c)

  go : (active : Option ℕ) → Rises link.lanes.counts (turned_by link.lanes active).counts
  go None = same_rises link.lanes.counts
  go (Some number) = at number (slice_get link.lanes.world.calls number)

send_rises : (link : LaneLink) (to : BrickNo) (bytes : List ℕ) → Rises link.lanes.counts (after_send link to bytes).lanes.counts
send_rises link to bytes = go (wants_to_send link to bytes) where
  go : (b : Bool) → Rises link.lanes.counts (if b then turned link else unwanted link to).lanes.counts
  go true = turned_rises link
  go false = silent_rises link.lanes.counts to.0

no_lane : (o : Option LaneState) → is_some o ≡ false → o ≡ None
no_lane None is = refl
no_lane (Some lane) is = absurd (cc)

-- a send that is not taken counts one silence
unsent_counts : (link : LaneLink) (to : BrickNo) (bytes : List ℕ) → takes_send link to bytes ≡ false → (after_send link to bytes).lanes.counts ≡ silent_by to.0 link.lanes.counts
unsent_counts link to bytes none = go (wants_to_send link to bytes) refl none where
  go : (b : Bool) → wants_to_send link to bytes ≡ b → (b && is_some (lane_at link.lanes.lanes to.0)) ≡ false → (if b then turned link else unwanted link to).lanes.counts ≡ silent_by to.0 link.lanes.counts
  go false is none = refl
  go true is none =
      let w : WantsSent link to bytes = sent_wants link to bytes is in
      ap (λ (st : LanesState). st.counts) (turned_is link w.number w.call (next.Send to) w.is)
      ∙ ap (λ (o : Option LaneState). (asks link.lanes w.number to o).counts) (no_lane (lane_at link.lanes.lanes to.0) none)

-- a brick that is not heard counts one silence
unheard_counts : (link : LaneLink) (from : BrickNo) → heard_next link from ≡ None → (after_receive link from).lanes.counts ≡ silent_by from.0 link.lanes.counts
unheard_counts link from none = go (wants_to_hear link from) refl none where
  empty : (number : ℕ) (o : Option LaneState) → lane_at link.lanes.lanes from.0 ≡ o → option_and_then (λ (lane : LaneState). slice_get lane.queue 0) o ≡ None → (listens link.lanes number from o).counts ≡ silent_by from.0 link.lanes.counts
  empty number None at none = refl
  empty number (Some lane) at none = queue lane.queue none where
    queue : (q : List ℕ) → slice_get q 0 ≡ None → (hears link.lanes number from lane q).counts ≡ silent_by from.0 link.lanes.counts
    queue [] none = refl
    queue (packet ∷ rest) none = absurd (cc)

  go : (b : Bool) → wants_to_hear link from ≡ b → (if b then first_waiting link.lanes from.0 else None) ≡ None → (if b then turned link else unwanted link from).lanes.counts ≡ silent_by from.0 link.lanes.counts
  go false is none = refl
  go true is none =
      let w : WantsHeard link from = heard_wants link from is in
      ap (λ (st : LanesState). st.counts) (turned_is link w.number w.call (next.Receive from) w.is)
      ∙ empty w.number (lane_at link.lanes.lanes from.0) refl none

-- a brick that is heard counts one frame
heard_counts : (link : LaneLink) (from : BrickNo) (packet : ℕ) → heard_next link from ≡ Some packet → (after_receive link from).lanes.counts ≡ frame_got link.lanes.counts
heard_counts link from packet some = go (wants_to_hear link from) refl some where
  first : (number : ℕ) (o : Option LaneState) → option_and_then (λ (lane : LaneState). slice_get lane.queue 0) o ≡ Some packet → (listens link.lanes number from o).counts ≡ frame_got link.lanes.counts
  first number None some = absurd (cc)
  first number (Some lane) some = queue lane.queue some where
    queue : (q : List ℕ) → slice_get q 0 ≡ Some packet → (hears link.lanes number from lane q).counts ≡ frame_got link.lanes.counts
    queue [] some = absurd (cc)
    queue (p ∷ rest) some = refl

  go : (b : Bool) → wants_to_hear link from ≡ b → (if b then first_waiting link.lanes from.0 else None) ≡ Some packet → (if b then turned link else unwanted link from).lanes.counts ≡ frame_got link.lanes.counts
  go false is some = absurd (cc)
  go true is some =
      let w : WantsHeard link from = heard_wants link from is in
      ap (λ (st : LanesState). st.counts) (turned_is link w.number w.call (next.Receive from) w.is)
      ∙ first w.number (lane_at link.lanes.lanes from.0) some

same_counts : (event : LinkEvent) (c d : CountsState) → d ≡ c → ((n : ℕ) → is_silence_of n event ≡ false) → is_silence event ≡ false → is_frame event ≡ false → CountsEvent event c d
same_counts event c d is brick none frame = subst (λ (x : CountsState). CountsEvent event c x) (sym is) (record {
  rises = same_rises c;
  brick = λ n test. absurd (let t : is_silence_of n event ≡ true = test in let f : is_silence_of n event ≡ false = brick n in cc);
  hushed = λ test. absurd (let t : is_silence event ≡ true = test in let f : is_silence event ≡ false = none in cc);
  got = λ test. absurd (let t : is_frame event ≡ true = test in let f : is_frame event ≡ false = frame in cc);
})

-- what a call of the link counts
pub lane_link_tallies : (old new : LaneLink) (event : LinkEvent) → LaneLinkMakes old event new → Tallied event (lane_link_tally old) (lane_link_tally new)
lane_link_tallies old new (Sends to bytes) (takes, is) = tallied (Sends to bytes) old new (record {
  rises = subst (λ (l : LaneLink). Rises old.lanes.counts l.lanes.counts) (sym is) (send_rises old to bytes);
  brick = λ n test. absurd (let t : false ≡ true = test in cc);
  hushed = λ test. absurd (let t : false ≡ true = test in cc);
  got = λ test. absurd (let t : false ≡ true = test in cc);
})
lane_link_tallies old new (SendsInSilence to bytes) (none, is) = tallied (SendsInSilence to bytes) old new (silent_event (SendsInSilence to bytes) old.lanes.counts new.lanes.counts to (ap (λ (l : LaneLink). l.lanes.counts) is ∙ unsent_counts old to bytes none) (λ n test. same_number to.0 n test) refl)
lane_link_tallies old new (Gets from bytes) (packet, some, spells, is) = tallied (Gets from bytes) old new
    (let same : new.lanes.counts ≡ frame_got old.lanes.counts = ap (λ (l : LaneLink). l.lanes.counts) is ∙ heard_counts old from packet some in
    subst (λ (x : CountsState). CountsEvent (Gets from bytes) old.lanes.counts x) (sym same) (record {
      rises = frame_rises old.lanes.counts;
      brick = λ n test. absurd (let t : false ≡ true = test in cc);
      hushed = λ test. absurd (let t : false ≡ true = test in cc);
      got = λ test. refl;
    }))
lane_link_tallies old new (HearsSilence from) (none, is) = tallied (HearsSilence from) old new (silent_event (HearsSilence from) old.lanes.counts new.lanes.counts from (ap (λ (l : LaneLink). l.lanes.counts) is ∙ unheard_counts old from none) (λ n test. same_number from.0 n test) refl)
lane_link_tallies old new (WantsToSend to bytes) stay = tallied (WantsToSend to bytes) old new (same_counts (WantsToSend to bytes) old.lanes.counts new.lanes.counts stay.counts (λ n. refl) refl refl)
lane_link_tallies old new (WantsToReceive from) stay = tallied (WantsToReceive from) old new (same_counts (WantsToReceive from) old.lanes.counts new.lanes.counts stay.counts (λ n. refl) refl refl)
