-- The marks of passes are of what was heard of their bricks.
use Rattle.std.proofs.Common.{arith, ◌≡◌, ◌∙◌, ap, sym, refl, subst, inl, inr, ℕ, zero, suc, ◌+◌, ◌-◌, ◌<◌, ◌≤◌, nat_lt, Bool, true, false, IsTrue, if◌then◌else◌, All, List, [], ◌∷◌, map, Option, Some, None, Result, slice_get}
use Rattle.std.specs.Prelude.{option_map}
use Rattle.std.specs.List.{fold}
use Rattle.std.specs.Option.{option_and_then}
use Rattle.std.proofs.lemmas.List.Elements.{All-nil, All-cons, All-map}
use Rattle.std.proofs.lemmas.Option.{slice_get-map}
use Rattle.crash_base.specs.declared.numbers.BrickNo.{BrickNo}
use Rattle.crash_base.specs.declared.numbers.Moment.{Moment}
use Rattle.crash_base.specs.declared.numbers.SessionKey.{SessionKey}
use Rattle.crash_base.specs.declared.numbers.Version.{Version}
use Rattle.outside.specs.declared.link.LinkEvent.{LinkEvent}
use Rattle.session_cookie.specs.declared.cookie.Cookie.{Cookie}
use Rattle.send_windows.specs.declared.pass.Pass.{Pass}
use Rattle.send_windows.specs.declared.pass.PassMark.{PassMark}
use Rattle.send_windows.specs.declared.pass.PassMark.TheVariants as pass_mark
use Rattle.ssm_frames.specs.declared.frame.Frame.{Frame}
use Rattle.ssm_frames.specs.Spelling.{encode_of}
use Rattle.ssm_stub.specs.declared.ear.TheConstants.{MAX_STRAYS}
use Rattle.ssm_stub.specs.declared.ear.Stage.TheVariants.{Unasked, Asked}
use Rattle.ssm_stub.specs.declared.ear.Outcome.TheVariants.{Answered, Silent, Strayed}
use Rattle.ssm_stub.specs.declared.ear.Ear.{Ear}
use Rattle.ssm_stub.specs.declared.ear.Ear.TheVariants.{Open, Heard}
use Rattle.ssm_stub.specs.declared.event.Told.{Told}
use Rattle.ssm_stub.specs.declared.event.Told.TheVariants.{Sent, Came, Silent as NoneCame}
use Rattle.ssm_stub.specs.declared.ask.Ask.{Ask}
use Rattle.ssm_stub.specs.declared.reply.WriteReply.{WriteReply}
use Rattle.ssm_stub.specs.declared.write_call.WriteRefusal.{WriteRefusal}
use Rattle.ssm_stub.specs.Ears.{after_frame, heard, heard_on, ear_after}
use Rattle.ssm_stub.specs.Ends.{bricks_of, WriteEnds}
use Rattle.ssm_stub.specs.Hearing.{AllDiffer, all_about, ear_machine, told_to}
use Rattle.ssm_stub.specs.Runs.{told_of, fits, Fits, calls, after}
use Rattle.ssm_stub.specs.Writes.{WriteState, put_lawful, mark_by, pass_of, write_start, write_answer, write_machine, write_until}
use Rattle.ssm_stub.proofs.OwnEvents.{write_asking}
use Rattle.ssm_stub.proofs.ByEvents.{map_map, ask_by, Heard as HeardByEvents, heard_by_events}
use Rattle.ssm_stub.proofs.HearingEnds.{heard_so, so_heard}
use Rattle.ssm_stub.proofs.LinkTelling.{calls_tell, until-fits, until-calls}
use Rattle.stub_laws.specs.Marks.{Tells, IsMarkOf, AreMarked}
use Rattle.ssm_stub.proofs.Patience.{map_id, answered_none_left}
use Rattle.stub_laws.proofs.Begun.{none_begun}

-- once a frame came an asked brick has more strays than before, or its outcome
More : {A : Type 0} → ℕ → Ear A → Type 0
More n (Open Unasked) = ⊥
More n (Open (Asked strays)) = n < strays
More n (Heard outcome) = Unit {0}

more_by : (A : Type 0) (k n : ℕ) (below : Bool) → n ≤ k → More {A = A} n (if below then Open (Asked (k + 1)) else Heard Strayed)
unfolding More
more_by A k n true h = omega arith
more_by A k n false h = tt

more_frame : {A : Type 0} (k n : ℕ) (reply : Option A) → n ≤ k → More n (after_frame (Asked k) reply)
unfolding More
more_frame k n (Some reply) h = tt
more_frame {A} k n None h = more_by A k n (nat_lt k (MAX_STRAYS - 1)) h

more_told : {A : Type 0} (lawful : Frame → Option A) (brick : BrickNo) (k n : ℕ) (told : Told) → n ≤ k → IsTrue (fits ((ear_machine brick lawful).next (Open (Asked k))) told) → More n (heard lawful (Asked k) told)
unfolding More
more_told lawful brick k n Sent h fit = absurd cc
more_told lawful brick k n (Came frame) h fit = more_frame k n (option_and_then lawful frame) h
more_told lawful brick k n NoneCame h fit = tt

more_after : {A : Type 0} (lawful : Frame → Option A) (brick : BrickNo) (n : ℕ) (events : List Told) (ear : Ear A) → More n ear → Fits (ear_machine brick lawful) ear events → More n (fold (heard_on lawful) ear events)
unfolding More
more_after lawful brick n [] ear h fitting = h
more_after lawful brick n (told ∷ events) (Open Unasked) h fitting = absurd h
more_after lawful brick n (told ∷ events) (Open (Asked k)) h (fit, rest) = more_after lawful brick n events (heard lawful (Asked k) told) (more_told lawful brick k n told (omega arith) fit) rest
more_after lawful brick n (told ∷ events) (Heard outcome) h fitting = absurd cc

-- of an asked brick nothing was heard where no stray is counted
asked_alone : {A : Type 0} (lawful : Frame → Option A) (brick : BrickNo) (events : List Told) → Fits (ear_machine brick lawful) (Open (Asked 0)) events → fold (heard_on lawful) (Open (Asked 0)) events ≡ Open (Asked 0) → events ≡ []
unfolding More
asked_alone lawful brick [] fitting h = refl
asked_alone {A} lawful brick (told ∷ events) (fit, rest) h = absurd (
    let more : More 0 (fold (heard_on lawful) (heard lawful (Asked 0) told) events) = more_after lawful brick 0 events (heard lawful (Asked 0) told) (more_told lawful brick 0 0 told (omega arith) fit) rest in
    let P : Ear A → Type 0 = λ ear. More 0 ear in
    let never : 0 < 0 = subst P h more in
    omega arith)

sent_alone : {A : Type 0} (lawful : Frame → Option A) (brick : BrickNo) (events : List Told) → Fits (ear_machine brick lawful) (Open Unasked) events → ear_after lawful events ≡ Open (Asked 0) → events ≡ Sent ∷ []
unfolding More
sent_alone lawful brick [] fitting h = absurd cc
sent_alone lawful brick (Sent ∷ events) (fit, rest) h = ap (λ es. Sent ∷ es) (asked_alone lawful brick events rest h)
sent_alone lawful brick (Came frame ∷ events) (fit, rest) h = absurd cc
sent_alone {A} lawful brick (NoneCame ∷ events) (fit, rest) h = absurd (
    let more : More 0 (fold (heard_on lawful) (Heard Silent) events) = more_after lawful brick 0 events (Heard Silent) tt rest in
    let P : Ear A → Type 0 = λ ear. More 0 ear in
    let never : 0 < 0 = subst P h more in
    omega arith)

-- the mark of what a brick's events lead to is the mark that they have
module _ (lawful : Frame → Option WriteReply) (brick : BrickNo) (events : List Told) (fitting : Fits (ear_machine brick lawful) (Open Unasked) events) where
  -- what events tell is so where what they lead to has this mark
  tells : (ear : Ear WriteReply) (mark : PassMark) → ear_after lawful events ≡ ear → (ear ≡ Open Unasked → ⊥) → ((strays : ℕ) → ear ≡ Open (Asked (suc strays)) → ⊥) → mark_by ear ≡ mark → Tells lawful events mark
  tells (Open Unasked) mark is asked begun h = absurd (asked refl)
  tells (Open (Asked (suc n))) mark is asked begun h = absurd (begun n refl)
  tells (Open (Asked zero)) pass_mark.Unheard is asked begun h = sent_alone lawful brick events fitting is
  tells (Open (Asked zero)) pass_mark.Answered is asked begun h = absurd cc
  tells (Open (Asked zero)) pass_mark.Silent is asked begun h = absurd cc
  tells (Heard (Answered reply)) pass_mark.Answered is asked begun h = (reply, heard_so lawful brick events (Answered reply) fitting is)
  tells (Heard (Answered reply)) pass_mark.Unheard is asked begun h = absurd cc
  tells (Heard (Answered reply)) pass_mark.Silent is asked begun h = absurd cc
  tells (Heard Silent) pass_mark.Silent is asked begun h = inl (heard_so lawful brick events Silent fitting is)
  tells (Heard Silent) pass_mark.Unheard is asked begun h = absurd cc
  tells (Heard Silent) pass_mark.Answered is asked begun h = absurd cc
  tells (Heard Strayed) pass_mark.Silent is asked begun h = inr (heard_so lawful brick events Strayed fitting is)
  tells (Heard Strayed) pass_mark.Unheard is asked begun h = absurd cc
  tells (Heard Strayed) pass_mark.Answered is asked begun h = absurd cc

  told : (mark : PassMark) → Tells lawful events mark → mark_by (ear_after lawful events) ≡ mark
  told pass_mark.Unheard h = ap (λ es. mark_by (ear_after lawful es)) h
  told pass_mark.Answered (reply, ends) = ap mark_by (so_heard lawful events (Answered reply) ends)
  told pass_mark.Silent (inl ends) = ap mark_by (so_heard lawful events Silent ends)
  told pass_mark.Silent (inr ends) = ap mark_by (so_heard lawful events Strayed ends)

  is_mark : (ear_after lawful events ≡ Open Unasked → ⊥) → ((strays : ℕ) → ear_after lawful events ≡ Open (Asked (suc strays)) → ⊥) → IsMarkOf lawful events (mark_by (ear_after lawful events))
  is_mark asked begun = λ mark. (tells (ear_after lawful events) mark refl asked begun, told mark)

all_by : {X : Type 0} (P : X → Type 0) (xs : List X) → ((i : ℕ) (x : X) → slice_get xs i ≡ Some x → P x) → All P xs
all_by P [] h = All-nil P
all_by P (x ∷ xs) h = All-cons P x xs (h zero x refl) (all_by P xs (λ i y here. h (suc i) y here))

-- the passes of a write that ended with an answer are marked by the events of their bricks
pub marked : {L : Type 0} (makes : L → LinkEvent → L → Type 0) (before : List Pass) (least : ℕ) (nonce : Version) (key : SessionKey) (value : List ℕ) (expiry : Moment) (old new : L) (passes : List Pass) (answer : Result Cookie WriteRefusal) → AllDiffer (map (λ b. b.0) (bricks_of before)) → 1 ≤ least
    → (ends : WriteEnds makes (write_start (bricks_of before) least nonce key value expiry) old new passes answer)
    → (made : List LinkEvent) → made ≡ calls write_until (encode_of (write_start (bricks_of before) least nonce key value expiry).ask) (write_start (bricks_of before) least nonce key value expiry) ends.events
    → AreMarked nonce key made before passes
marked makes before least nonce key value expiry old new passes answer differ some ends made are =
    let bricks = bricks_of before in
    let start = write_start bricks least nonce key value expiry in
    let ask = encode_of start.ask in
    let events = map told_of ends.events in
    let about : BrickNo → List Told = λ b. all_about b made in
    let mk : BrickNo → Ask BrickNo WriteReply = ask_by (λ (b : BrickNo). b) (put_lawful nonce key) about in
    let fitting : Fits write_machine start events = until-fits events start ends.ran.fitting in
    let tells_each : (b : BrickNo) → told_to write_machine start events b ≡ about b = λ b.
    sym (ap (all_about b) (are ∙ until-calls ask ends.events start ends.ran.fitting) ∙ calls_tell write_machine ask b ends.events start fitting) in
    let heard : HeardByEvents (λ (b : BrickNo). b) (put_lawful nonce key) about bricks (after write_machine start events).asks =
    heard_by_events write_machine (λ (s : WriteState). s.asks) (λ (b : BrickNo). b) (λ (s : WriteState). put_lawful s.nonce s.key) (λ (s : WriteState). _) write_asking events start bricks about tells_each refl differ fitting in
    let marks : passes ≡ map (λ b. pass_of (mk b)) bricks = ends.marks ∙ (ap (λ (s : WriteState). map pass_of s.asks) ends.ran.ends ∙ (ap (map pass_of) heard.are ∙ map_map pass_of mk bricks)) in
    let answers : write_answer (after write_until start events) ≡ Some answer = ap write_answer (sym ends.ran.ends) ∙ ends.answers in
    let here : (i : ℕ) (b : BrickNo) → slice_get bricks i ≡ Some b → slice_get (after write_until start events).asks i ≡ Some (mk b) = λ i b at. ap (λ xs. slice_get xs i) heard.are ∙ (slice_get-map mk bricks i ∙ ap (option_map mk) at) in
    let IsMarked : Pass → Type 0 = λ pass. IsMarkOf (put_lawful nonce key pass.brick) (all_about pass.brick made) pass.mark in
    let each : All (λ b. IsMarked (pass_of (mk b))) bricks = all_by (λ b. IsMarked (pass_of (mk b))) bricks (λ i b at.
    is_mark (put_lawful nonce key b) b (about b) (heard.fitting i b at)
    (answered_none_left (map told_of ends.events) bricks least nonce key value expiry fitting answer some answers i (mk b) (here i b at))
    (λ strays ear. none_begun events bricks start answer refl ends.ran.fitting answers i strays (mk b) (here i b at) ear)) in
    record {
      bricks = ap bricks_of marks ∙ (map_map (λ (p : Pass). p.brick) (λ b. pass_of (mk b)) bricks ∙ map_id bricks);
      marks = subst (All IsMarked) (sym marks) (All-map IsMarked (λ b. pass_of (mk b)) bricks each);
    }
