-- A link counts what is noted of the bricks that are asked.
use Rattle.std.proofs.Common.{arith, ◌≡◌, ◌∙◌, ap, refl, subst, inl, inr, ℕ, ◌+◌, ◌*◌, ◌≤◌, Bool, true, false, IsTrue, cond, if◌then◌else◌, List, [], ◌∷◌, filter_map, Option, Some, None, Ok, Err, nat_lt, slice_get, slice_set, get_or}
use Rattle.std.specs.List.{cons_option, count_by, sum_by}
use Rattle.std.specs.Option.{option_and_then}
use Rattle.std.proofs.lemmas.Bool.{ltb-false}
use Rattle.std.proofs.lemmas.List.Sums.{sum_by-cons, sum_by-set}
use Rattle.std.proofs.lemmas.Option.{slice_get_within, get_or_from_slice_get}
use Rattle.crash_base.specs.declared.numbers.BrickNo.{BrickNo}
use Rattle.crash_base.specs.declared.numbers.Moment.{Moment}
use Rattle.outside.specs.declared.link.LinkCounts.{LinkCounts}
use Rattle.outside.specs.declared.link.LinkEvent.{LinkEvent}
use Rattle.outside.specs.Faults.{Rose}
use Rattle.outside.specs.Link.{Made, Tallied, Tally}
use Rattle.session_cookie.specs.declared.cookie.Cookie.{Cookie}
use Rattle.session_cookie.specs.declared.cookie.Holder.{Holder}
use Rattle.ssm_frames.specs.declared.frame.Frame.{Frame}
use Rattle.ssm_stub.specs.Counted.{is_silent, is_strayed}
use Rattle.ssm_stub.specs.Ears.{after_frame, heard as heard_so}
use Rattle.ssm_stub.specs.Reads.{ReadState, found_or, get_lawful, loss_by, loss_of, lost_unless, read_answer, turn_of_read}
use Rattle.ssm_stub.specs.Runs.{call_of, fits, told_of}
use Rattle.ssm_stub.specs.Turns.{asks_after, none_asked, turn_after_asks}
use Rattle.ssm_stub.specs.Writes.{WriteState, cause_by, cause_of, missed_unless, put_lawful, with_brick, write_answer}
use Rattle.ssm_stub.specs.declared.ask.Ask.{Ask}
use Rattle.ssm_stub.specs.declared.ask.Turn.{Turn}
use Rattle.ssm_stub.specs.declared.cause.BrickCause.{BrickCause}
use Rattle.ssm_stub.specs.declared.ear.Ear.{Ear}
use Rattle.ssm_stub.specs.declared.ear.Ear.TheVariants.{Open, Heard}
use Rattle.ssm_stub.specs.declared.ear.Outcome.TheVariants as heard
use Rattle.ssm_stub.specs.declared.ear.Stage.{Stage}
use Rattle.ssm_stub.specs.declared.ear.Stage.TheVariants.{Unasked, Asked}
use Rattle.ssm_stub.specs.declared.event.StubEvent.{StubEvent}
use Rattle.ssm_stub.specs.declared.event.StubEvent.TheVariants as event
use Rattle.ssm_stub.specs.declared.event.StubNext.{StubNext}
use Rattle.ssm_stub.specs.declared.event.StubNext.TheVariants.{Send, Receive, Ended}
use Rattle.ssm_stub.specs.declared.event.Told.{Told}
use Rattle.ssm_stub.specs.declared.event.Told.TheVariants.{Sent, Came, Silent}
use Rattle.ssm_stub.specs.declared.read_call.ReadRefusal.TheVariants as read_refusal
use Rattle.ssm_stub.specs.declared.reply.ReadReply.{ReadReply}
use Rattle.ssm_stub.specs.declared.reply.ReadReply.TheVariants.{Found, Crashed, Swept}
use Rattle.ssm_stub.specs.declared.reply.WriteReply.{WriteReply}
use Rattle.ssm_stub.specs.declared.reply.WriteReply.TheVariants.{Stored, Full}
use Rattle.ssm_stub.specs.declared.write_call.WriteRefusal.TheVariants as write_refusal
use Rattle.ssm_stub.proofs.Places.{turn_after_asks-stands, turn_of_read-stands, with_ear-there}
use Rattle.request_visit.specs.Counts.{HasCounted, Noted, noted_by, noted_of, nothing_noted, raised, silences_in, strays_in, strays_so_far}

-- what a link counts of what a brick is told: a silence, or a frame
abbrev pub silences_by : Told → ℕ
silences_by Sent = 0
silences_by (Came frame) = 0
silences_by Silent = 1

abbrev pub frames_by : Told → ℕ
frames_by Sent = 0
frames_by (Came frame) = 1
frames_by Silent = 0

stray_ended : (A : Type 0) (strays : ℕ) (few : Bool) → silences_in {A = A} (if few then Open (Asked (strays + 1)) else Heard heard.Strayed) ≤ 0
stray_ended A strays true = omega arith
stray_ended A strays false = omega arith

frame_silences : {A : Type 0} (strays : ℕ) (reply : Option A) → silences_in (after_frame (Asked strays) reply) ≤ 0
frame_silences strays (Some reply) = omega arith
frame_silences {A} strays None = stray_ended A strays (nat_lt strays 63)

heard_silences : {A : Type 0} (lawful : Frame → Option A) (stage : Stage) (told : Told) → silences_in (heard_so lawful stage told) ≤ 0 + silences_by told
heard_silences lawful Unasked Sent = omega arith
heard_silences lawful Unasked (Came frame) = omega arith
heard_silences lawful Unasked Silent = omega arith
heard_silences lawful (Asked strays) Sent = omega arith
heard_silences lawful (Asked strays) (Came frame) = frame_silences strays (option_and_then lawful frame)
heard_silences lawful (Asked strays) Silent = omega arith

stray_adds : (A : Type 0) (strays : ℕ) (few : Bool) → nat_lt strays 63 ≡ few → strays_in {A = A} (if few then Open (Asked (strays + 1)) else Heard heard.Strayed) ≤ strays + 1
stray_adds A strays true is = omega arith
stray_adds A strays false is = let many = ltb-false strays 63 is in omega arith

frame_strays : {A : Type 0} (strays : ℕ) (reply : Option A) → strays_in (after_frame (Asked strays) reply) ≤ strays + 1
frame_strays strays (Some reply) = omega arith
frame_strays {A} strays None = stray_adds A strays (nat_lt strays 63) refl

heard_strays : {A : Type 0} (lawful : Frame → Option A) (stage : Stage) (told : Told) → strays_in (heard_so lawful stage told) ≤ strays_so_far stage + frames_by told
heard_strays lawful Unasked Sent = omega arith
heard_strays lawful Unasked (Came frame) = omega arith
heard_strays lawful Unasked Silent = omega arith
heard_strays lawful (Asked strays) Sent = omega arith
heard_strays lawful (Asked strays) (Came frame) = frame_strays strays (option_and_then lawful frame)
heard_strays lawful (Asked strays) Silent = omega arith

-- one who is told an event adds at most what that adds
told_adds : {W A : Type 0} (of : Ear A → ℕ) (more : ℕ) (lawful : W → Frame → Option A) (told : Told) (asks : List (Ask W A)) (t : Turn W)
    → slice_get asks t.at ≡ Some (record { who = t.who; ear = Open t.stage }) → of (heard_so (lawful t.who) t.stage told) ≤ of (Open t.stage) + more
    → sum_by (λ (ask : Ask W A). of ask.ear) (asks_after lawful told asks (Some t)) ≤ sum_by (λ (ask : Ask W A). of ask.ear) asks + more
told_adds {W} {A} of more lawful told asks t stands adds =
    let ask : Ask W A = record { who = t.who; ear = Open t.stage } in
    let ear : Ear A = heard_so (lawful t.who) t.stage told in
    let f : Ask W A → ℕ = λ a. of a.ear in
    let put : asks_after lawful told asks (Some t) ≡ slice_set asks t.at (record ask { ear = ear }) = with_ear-there asks t.at ear ask stands in
    let within = slice_get_within asks t.at ask stands in
    let moved = sum_by-set f asks t.at (record ask { ear = ear }) ask within in
    let here : f (get_or asks t.at ask) ≡ of (Open t.stage) = ap f (get_or_from_slice_get asks t.at ask ask stands) in
    let less : sum_by f (slice_set asks t.at (record ask { ear = ear })) ≤ sum_by f asks + more = omega (arith, moved, here, adds) in
    rw put less

turn_adds : {W A : Type 0} (of : Ear A → ℕ) (more : ℕ) (lawful : W → Frame → Option A) (told : Told) (asks : List (Ask W A)) (turn : Option (Turn W))
    → ((t : Turn W) → turn ≡ Some t → slice_get asks t.at ≡ Some (record { who = t.who; ear = Open t.stage }))
    → ((who : W) (stage : Stage) → of (heard_so (lawful who) stage told) ≤ of (Open stage) + more)
    → sum_by (λ (ask : Ask W A). of ask.ear) (asks_after lawful told asks turn) ≤ sum_by (λ (ask : Ask W A). of ask.ear) asks + more
turn_adds of more lawful told asks None stands adds = omega arith
turn_adds of more lawful told asks (Some t) stands adds = told_adds of more lawful told asks t (stands t refl) (adds t.who t.stage)

-- What is noted of those that are asked rises at most by what one of them is told.
pub record NotesMore (told : Told) (old new : Noted) : Type 0 where
  pub silences : new.silences ≤ old.silences + silences_by told
  pub strays : new.strays ≤ old.strays + frames_by told

asks_note : {W A : Type 0} (lawful : W → Frame → Option A) (told : Told) (asks : List (Ask W A)) (turn : Option (Turn W))
    → ((t : Turn W) → turn ≡ Some t → slice_get asks t.at ≡ Some (record { who = t.who; ear = Open t.stage }))
    → NotesMore told (noted_of asks) (noted_of (asks_after lawful told asks turn))
asks_note lawful told asks turn stands = record {
  silences = turn_adds silences_in (silences_by told) lawful told asks turn stands (λ who stage. heard_silences (lawful who) stage told);
  strays = turn_adds strays_in (frames_by told) lawful told asks turn stands (λ who stage. heard_strays (lawful who) stage told);
}

pub read_notes : (r : ReadState) (told : Told) → NotesMore told (noted_of r.asks) (noted_of (asks_after (get_lawful r.nonce r.key r.version r.expiry) told r.asks (turn_of_read r)))
read_notes r told = asks_note (get_lawful r.nonce r.key r.version r.expiry) told r.asks (turn_of_read r) (turn_of_read-stands r)

pub write_notes : (w : WriteState) (told : Told) → NotesMore told (noted_of w.asks) (noted_of (asks_after (put_lawful w.nonce w.key) told w.asks (turn_after_asks w.asks)))
write_notes w told = asks_note (put_lawful w.nonce w.key) told w.asks (turn_after_asks w.asks) (turn_after_asks-stands w.asks)

-- nothing is noted of those of whom none was asked
none_noted : {W A : Type 0} (of : Ear A → ℕ) → of (Open Unasked) ≡ 0 → (whos : List W) → sum_by (λ (ask : Ask W A). of ask.ear) (none_asked whos) ≡ 0
none_noted of none [] = refl
none_noted {W} {A} of none (who ∷ whos) =
    sum_by-cons (λ (ask : Ask W A). of ask.ear) (record { who = who; ear = Open Unasked }) (none_asked whos)
    ∙ (let here = none in let later = none_noted {W = W} {A = A} of none whos in omega arith)

pub unasked_notes : {W : Type 0} (A : Type 0) (whos : List W) → noted_of {W = W} {A = A} (none_asked whos) ≡ nothing_noted
unasked_notes {W} A whos =
    let silences = none_noted {W = W} {A = A} silences_in refl whos in
    let strays = none_noted {W = W} {A = A} strays_in refl whos in
    cc

-- one cause that passes, or none
abbrev one_if : (BrickCause → Bool) → Option BrickCause → ℕ
one_if is None = 0
one_if is (Some c) = cond (is c) 1 0

count_first : (is : BrickCause → Bool) (first : Option BrickCause) (causes : List BrickCause) → count_by is (cons_option first causes) ≡ one_if is first + count_by is causes
count_first is None causes = omega arith
count_first is (Some c) causes = sum_by-cons (λ y. cond (is y) 1 0) c causes

-- the causes of those that were asked are within what was noted of them
silences_within : {X : Type 0} (cause : X → Option BrickCause) (f : X → ℕ) (xs : List X) → ((x : X) → one_if is_silent (cause x) ≤ f x) → count_by is_silent (filter_map cause xs) ≤ sum_by f xs
silences_within cause f [] h = omega arith
silences_within cause f (x ∷ xs) h =
    omega (arith, count_first is_silent (cause x) (filter_map cause xs), sum_by-cons f x xs, h x, silences_within cause f xs h)

strays_within : {X : Type 0} (cause : X → Option BrickCause) (f : X → ℕ) (xs : List X) → ((x : X) → 64 * one_if is_strayed (cause x) ≤ f x) → 64 * count_by is_strayed (filter_map cause xs) ≤ sum_by f xs
strays_within cause f [] h = omega arith
strays_within cause f (x ∷ xs) h =
    omega (arith, count_first is_strayed (cause x) (filter_map cause xs), sum_by-cons f x xs, h x, strays_within cause f xs h)

cause_silences : (who : BrickNo) (ear : Ear WriteReply) → one_if is_silent (with_brick who (cause_by ear)) ≤ silences_in ear
cause_silences who (Open stage) = omega arith
cause_silences who (Heard (heard.Answered (Stored incarnation))) = omega arith
cause_silences who (Heard (heard.Answered (Full entries bytes))) = omega arith
cause_silences who (Heard heard.Silent) = omega arith
cause_silences who (Heard heard.Strayed) = omega arith

cause_strays : (who : BrickNo) (ear : Ear WriteReply) → 64 * one_if is_strayed (with_brick who (cause_by ear)) ≤ strays_in ear
cause_strays who (Open stage) = omega arith
cause_strays who (Heard (heard.Answered (Stored incarnation))) = omega arith
cause_strays who (Heard (heard.Answered (Full entries bytes))) = omega arith
cause_strays who (Heard heard.Silent) = omega arith
cause_strays who (Heard heard.Strayed) = omega arith

loss_silences : (who : Holder) (ear : Ear ReadReply) → one_if is_silent (with_brick who.brick (loss_by ear)) ≤ silences_in ear
loss_silences who (Open stage) = omega arith
loss_silences who (Heard (heard.Answered (Found value))) = omega arith
loss_silences who (Heard (heard.Answered (Crashed incarnation))) = omega arith
loss_silences who (Heard (heard.Answered (Swept moment))) = omega arith
loss_silences who (Heard heard.Silent) = omega arith
loss_silences who (Heard heard.Strayed) = omega arith

loss_strays : (who : Holder) (ear : Ear ReadReply) → 64 * one_if is_strayed (with_brick who.brick (loss_by ear)) ≤ strays_in ear
loss_strays who (Open stage) = omega arith
loss_strays who (Heard (heard.Answered (Found value))) = omega arith
loss_strays who (Heard (heard.Answered (Crashed incarnation))) = omega arith
loss_strays who (Heard (heard.Answered (Swept moment))) = omega arith
loss_strays who (Heard heard.Silent) = omega arith
loss_strays who (Heard heard.Strayed) = omega arith

-- So much is at least noted.
pub record IsWithin (less more : Noted) : Type 0 where
  pub silences : less.silences ≤ more.silences
  pub strays : less.strays ≤ more.strays

causes_within : {X : Type 0} (cause : X → Option BrickCause) (silences strays : X → ℕ) (xs : List X)
    → ((x : X) → one_if is_silent (cause x) ≤ silences x) → ((x : X) → 64 * one_if is_strayed (cause x) ≤ strays x)
    → IsWithin (noted_by (filter_map cause xs)) (record { silences = sum_by silences xs; strays = sum_by strays xs })
causes_within cause silences strays xs silent strayed = record {
  silences = silences_within cause silences xs silent;
  strays = strays_within cause strays xs strayed;
}

-- a missed write and a lost read name the causes of those that were asked
missed_is : (enough : Bool) (cookie : Cookie) (turn : Option (Turn BrickNo)) (all causes : List BrickCause)
    → (if enough then Some (Ok cookie) else missed_unless turn all) ≡ Some (Err (write_refusal.Missed causes)) → all ≡ causes
missed_is true cookie turn all causes is = absurd (cc)
missed_is false cookie (Some t) all causes is = absurd (cc)
missed_is false cookie None all causes is = cc

lost_is : (late : Bool) (now expiry : Moment) (found : Option (List ℕ)) (turn : Option (Turn Holder)) (all causes : List BrickCause)
    → (if late then Some (Err (read_refusal.Expired now expiry)) else found_or found (lost_unless turn all)) ≡ Some (Err (read_refusal.Lost causes)) → all ≡ causes
lost_is true now expiry found turn all causes is = absurd (cc)
lost_is false now expiry (Some value) turn all causes is = absurd (cc)
lost_is false now expiry None (Some t) all causes is = absurd (cc)
lost_is false now expiry None None all causes is = cc

pub missed_within : (w : WriteState) (causes : List BrickCause) → write_answer w ≡ Some (Err (write_refusal.Missed causes)) → IsWithin (noted_by causes) (noted_of w.asks)
missed_within w causes is =
    let all : filter_map cause_of w.asks ≡ causes = missed_is _ _ _ (filter_map cause_of w.asks) causes is in
    subst (λ (cs : List BrickCause). IsWithin (noted_by cs) (noted_of w.asks)) all
    (causes_within cause_of (λ a. silences_in a.ear) (λ a. strays_in a.ear) w.asks (λ a. cause_silences a.who a.ear) (λ a. cause_strays a.who a.ear))

pub lost_within : (r : ReadState) (causes : List BrickCause) → read_answer r ≡ Some (Err (read_refusal.Lost causes)) → IsWithin (noted_by causes) (noted_of r.asks)
lost_within r causes is =
    let all : filter_map loss_of r.asks ≡ causes = lost_is _ _ _ _ _ (filter_map loss_of r.asks) causes is in
    subst (λ (cs : List BrickCause). IsWithin (noted_by cs) (noted_of r.asks)) all
    (causes_within loss_of (λ a. silences_in a.ear) (λ a. strays_in a.ear) r.asks (λ a. loss_silences a.who a.ear) (λ a. loss_strays a.who a.ear))

-- What a link counts over a call, by what came of that: all that it has counted since some begin rises so.
pub record Raises (told : Told) (old new : Tally) : Type 0 where
  pub hushed : (begin more : ℕ) → raised more begin ≤ old.hushed → raised (more + silences_by told) begin ≤ new.hushed
  pub got : (begin more : ℕ) → raised more begin ≤ old.got → raised (more + frames_by told) begin ≤ new.got

kept : (old new : ℕ) → old ≤ new → (begin more : ℕ) → raised more begin ≤ old → raised (more + 0) begin ≤ new
kept old new le begin more is = omega (arith, le, is)

rose : (old new : ℕ) → Rose old new → (begin more : ℕ) → raised more begin ≤ old → raised (more + 1) begin ≤ new
rose old new (inl above) begin more is = omega (arith, above, is)
rose old new (inr last) begin more is = omega (arith, last, is)

module _ {L : Type 0} (makes : L → LinkEvent → L → Type 0) (tally : L → Tally) (tallies : (old new : L) (call : LinkEvent) → makes old call new → Tallied call (tally old) (tally new)) where
  one_call : (old new : L) (call : LinkEvent) → Made makes old (call ∷ []) new → Tallied call (tally old) (tally new)
  one_call old new call made = subst (λ (l : L). Tallied call (tally old) (tally l)) made.2 (tallies old made.0 call made.1)

  pub call_raises : (ask : List ℕ) (next : StubNext) (came : StubEvent) (old new : L) → IsTrue (fits next (told_of came)) → Made makes old (call_of ask next came) new
      → Raises (told_of came) (tally old) (tally new)
  call_raises ask (Send brick) event.Sent old new fitting made =
      let t = one_call old new _ made in
      record { hushed = kept _ _ t.hushed_never_falls.least; got = kept _ _ t.got_never_falls.least }
  call_raises ask (Send brick) (event.Frame bytes) old new fitting made = absurd (cc)
  call_raises ask (Send brick) event.Silent old new fitting made =
      let t = one_call old new _ made in
      record { hushed = rose _ _ (t.hushed_rises refl); got = kept _ _ t.got_never_falls.least }
  call_raises ask (Receive brick) event.Sent old new fitting made = absurd (cc)
  call_raises ask (Receive brick) (event.Frame bytes) old new fitting made =
      let t = one_call old new _ made in
      record { hushed = kept _ _ t.hushed_never_falls.least; got = rose _ _ (t.got_rises refl) }
  call_raises ask (Receive brick) event.Silent old new fitting made =
      let t = one_call old new _ made in
      record { hushed = rose _ _ (t.hushed_rises refl); got = kept _ _ t.got_never_falls.least }
  call_raises ask Ended came old new fitting made = absurd (cc)

-- what is counted at least, of less
pub fewer : (less more : Noted) (old new : LinkCounts) → IsWithin less more → HasCounted more old new → HasCounted less old new
fewer less more old new in_it counted = record {
  hushed = omega (arith, in_it.silences, counted.hushed);
  got = omega (arith, in_it.strays, counted.got);
}

-- A link counts what a step notes, and what had been counted stays.
pub counts_on : (told : Told) (before after : Tally) (noted later : Noted) (begin now next : LinkCounts) → Raises told before after → NotesMore told noted later
    → now.hushed ≤ before.hushed → now.got ≤ before.got → next.hushed ≡ after.hushed → next.got ≡ after.got
    → HasCounted noted begin now → HasCounted later begin next
counts_on told before after noted later begin now next raises notes hushed got hushed_is got_is counted = record {
  hushed =
      let up = raises.hushed begin.hushed noted.silences (omega (arith, hushed, counted.hushed)) in
      omega (arith, up, notes.silences, hushed_is);
  got =
      let up = raises.got begin.got noted.strays (omega (arith, got, counted.got)) in
      omega (arith, up, notes.strays, got_is);
}
