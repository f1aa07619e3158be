-- The causes of bricks are counted by the link.
use Rattle.std.proofs.Common.{arith, ◌≡◌, ◌∙◌, ap, sym, refl, subst, inl, inr, ℕ, zero, suc, ◌*◌, ◌≤◌, Bool, true, false, IsTrue, cond, List, [], ◌∷◌, filter_map, All, Option, Some, None, Err, slice_get}
use Rattle.std.specs.Prelude.{option_map}
use Rattle.std.specs.List.{count_by}
use Rattle.std.proofs.lemmas.List.Elements.{All-nil, All-cons}
use Rattle.std.proofs.lemmas.Option.{slice_get-map}
use Rattle.crash_base.specs.declared.numbers.BrickNo.{BrickNo}
use Rattle.crash_base.specs.declared.numbers.Moment.{Moment}
use Rattle.crash_base.specs.declared.numbers.SessionKey.{SessionKey}
use Rattle.crash_base.specs.declared.numbers.Version.{Version}
use Rattle.outside.specs.declared.link.LinkEvent.{LinkEvent}
use Rattle.outside.specs.Faults.{Rose, RoseBy}
use Rattle.outside.specs.Link.{Tally, is_silence, is_silence_of, is_frame}
use Rattle.session_cookie.specs.declared.cookie.Holder.{Holder}
use Rattle.session_cookie.specs.Cookie.{AreDistinct}
use Rattle.send_windows.specs.declared.pass.Pass.{Pass}
use Rattle.send_windows.specs.Passes.{HaveDistinctBricks}
use Rattle.ssm_frames.specs.declared.frame.Frame.{Frame}
use Rattle.ssm_stub.specs.declared.cause.BrickCause.{BrickCause}
use Rattle.ssm_stub.specs.declared.cause.Cause.{Cause}
use Rattle.ssm_stub.specs.declared.cause.Cause.TheVariants.{Silent, Strayed, Full, Crashed, Swept}
use Rattle.ssm_stub.specs.declared.event.Told.{Told}
use Rattle.ssm_stub.specs.declared.reply.ReadReply.{ReadReply}
use Rattle.ssm_stub.specs.declared.reply.WriteReply.{WriteReply}
use Rattle.ssm_stub.specs.Writes.{put_lawful}
use Rattle.ssm_stub.specs.Hearing.{all_about}
use Rattle.ssm_stub.specs.Ends.{bricks_of}
use Rattle.ssm_stub.specs.Outcomes.{missed_by, IsPutCause, IsGetCause, HaveCauses}
use Rattle.ssm_stub.specs.Counted.{is_silent, is_strayed, AreCounted}
use Rattle.ssm_stub.specs.declared.write_call.WriteRefusal.TheVariants.{Missed}
use Rattle.ssm_stub.specs.Ears.{ear_after}
use Rattle.ssm_stub.proofs.HearingEnds.{heard_so}
use Rattle.ssm_stub.proofs.WriteFacts.{WriteFacts}
use Rattle.ssm_stub.proofs.WriteOutcomes.{filter_map_map, all_found, caused_by}
use Rattle.ssm_stub.proofs.Counting.{many, weight, total, count_is, count_of_64, many_more, is_hush, is_came, is_frame_of, hushes_about, frames_about, hush_in, came_in, Distinct, silences_within, frames_within}

pub passes-distinct : (passes : List Pass) → HaveDistinctBricks passes → Distinct (λ (pass : Pass). pass.brick.0) passes
unfolding Distinct
passes-distinct [] h = tt
passes-distinct (pass ∷ passes) (first, rest) = (first, passes-distinct passes rest)

pub holders-distinct : (holders : List Holder) → AreDistinct holders → Distinct (λ (h : Holder). h.brick.0) holders
unfolding Distinct
holders-distinct [] h = tt
holders-distinct (holder ∷ holders) (first, rest) = (first, holders-distinct holders rest)

-- a cause of a Put and of a Get, by what was told
put_silent : (lawful : Frame → Option WriteReply) (events : List Told) (brick : BrickNo) (why : Cause) → IsPutCause lawful events why → cond (is_silent (record { brick = brick; cause = why })) 1 0 ≤ many 1 is_hush events
put_silent lawful events brick Silent h = hush_in lawful events h
put_silent lawful events brick Strayed h = omega arith
put_silent lawful events brick (Full entries bytes) h = omega arith
put_silent lawful events brick (Crashed incarnation) h = omega arith
put_silent lawful events brick (Swept moment) h = omega arith

put_strayed : (lawful : Frame → Option WriteReply) (events : List Told) (brick : BrickNo) (why : Cause) → IsPutCause lawful events why → cond (is_strayed (record { brick = brick; cause = why })) 64 0 ≤ many 1 is_came events
put_strayed lawful events brick Silent h = omega arith
put_strayed lawful events brick Strayed h = came_in lawful events h
put_strayed lawful events brick (Full entries bytes) h = omega arith
put_strayed lawful events brick (Crashed incarnation) h = omega arith
put_strayed lawful events brick (Swept moment) h = omega arith

get_silent : (lawful : Frame → Option ReadReply) (events : List Told) (brick : BrickNo) (why : Cause) → IsGetCause lawful events why → cond (is_silent (record { brick = brick; cause = why })) 1 0 ≤ many 1 is_hush events
get_silent lawful events brick Silent h = hush_in lawful events h
get_silent lawful events brick Strayed h = omega arith
get_silent lawful events brick (Full entries bytes) h = omega arith
get_silent lawful events brick (Crashed incarnation) h = omega arith
get_silent lawful events brick (Swept moment) h = omega arith

get_strayed : (lawful : Frame → Option ReadReply) (events : List Told) (brick : BrickNo) (why : Cause) → IsGetCause lawful events why → cond (is_strayed (record { brick = brick; cause = why })) 64 0 ≤ many 1 is_came events
get_strayed lawful events brick Silent h = omega arith
get_strayed lawful events brick Strayed h = came_in lawful events h
get_strayed lawful events brick (Full entries bytes) h = omega arith
get_strayed lawful events brick (Crashed incarnation) h = omega arith
get_strayed lawful events brick (Swept moment) h = omega arith

-- more is counted
pub less_rose : (n m a b : ℕ) → n ≤ m → RoseBy m a b → RoseBy n a b
less_rose n m a b h (inl above) = inl (omega arith)
less_rose n m a b h (inr last) = inr last

once_rose : (b : Bool) (n x y : ℕ) → cond b 1 0 ≤ n → RoseBy n x y → IsTrue b → Rose x y
once_rose true n x y h (inl above) is = inl (omega arith)
once_rose true n x y h (inr last) is = inr last
once_rose false n x y h rose is = absurd cc

-- the causes of some, each of which has a cause within its own count
causes_within : {X : Type 0} (k : ℕ) (is : BrickCause → Bool) (cause : X → Option BrickCause) (f : X → ℕ) (xs : List X) → ((i : ℕ) (x : X) → slice_get xs i ≡ Some x → weight k is (cause x) ≤ f x) → many k is (filter_map cause xs) ≤ total f xs
unfolding many total
causes_within k is cause f [] h = omega arith
causes_within k is cause f (x ∷ xs) h =
    let more = many_more k is (cause x) (filter_map cause xs) in
    let first = h zero x refl in
    let rest = causes_within k is cause f xs (λ i y here. h (suc i) y here) in
    omega arith

-- What a link counted over these calls.
pub record Counts (old new : Tally) (calls : List LinkEvent) : Type 0 where
  pub silences : (brick : ℕ) → RoseBy (count_by (is_silence_of brick) calls) (old.silences brick) (new.silences brick)
  pub hushed : RoseBy (count_by is_silence calls) old.hushed new.hushed
  pub got : RoseBy (count_by is_frame calls) old.got new.got

-- a silent brick's silences rose
silence_rose : (old new : Tally) (calls : List LinkEvent) → Counts old new calls → (c : BrickCause) (brick : BrickNo) → c.brick ≡ brick → cond (is_silent c) 1 0 ≤ many 1 is_hush (all_about brick calls) → IsTrue (is_silent c) → Rose (old.silences c.brick.0) (new.silences c.brick.0)
silence_rose old new calls counts c brick same h is =
    let n = many 1 is_hush (all_about brick calls) in
    let counted : n ≡ count_by (is_silence_of brick.0) calls = hushes_about brick calls ∙ sym (count_is (is_silence_of brick.0) calls) in
    let P : BrickNo → Type 0 = λ b. Rose (old.silences b.0) (new.silences b.0) in
    subst P (sym same) (once_rose (is_silent c) (count_by (is_silence_of brick.0) calls) (old.silences brick.0) (new.silences brick.0) (rw (sym counted) h) (counts.silences brick.0) is)

-- what is counted where the number of causes is within the number of events
counted_so : (old new : Tally) (calls : List LinkEvent) (causes : List BrickCause) → Counts old new calls → All (λ (c : BrickCause). IsTrue (is_silent c) → Rose (old.silences c.brick.0) (new.silences c.brick.0)) causes → many 1 is_silent causes ≤ count_by is_silence calls → many 64 is_strayed causes ≤ count_by is_frame calls → AreCounted old new causes
counted_so old new calls causes counts each hushes frames = record {
  silences = each;
  hushed = less_rose (count_by is_silent causes) (count_by is_silence calls) old.hushed new.hushed (rw (count_is is_silent causes) hushes) counts.hushed;
  got = less_rose (64 * count_by is_strayed causes) (count_by is_frame calls) old.got new.got (rw (count_of_64 is_strayed causes) frames) counts.got;
}

module _ {L : Type 0} (makes : L → LinkEvent → L → Type 0) (before : List Pass) (least : ℕ) (nonce : Version) (key : SessionKey) (expiry : Moment) (old new : L) (causes : List BrickCause) (facts : WriteFacts makes (bricks_of before) least nonce key expiry old new (Err (Missed causes))) where
  abbrev events_of : BrickNo → List Told
  events_of brick = all_about brick facts.calls_made

  abbrev missed_of : Pass → Option BrickCause
  missed_of pass = missed_by nonce key facts.calls_made pass.brick

  why_missed : (i : ℕ) (pass : Pass) (c : BrickCause) → slice_get before i ≡ Some pass → missed_of pass ≡ Some c → (pass.brick ≡ c.brick) × IsPutCause (put_lawful nonce key pass.brick) (events_of pass.brick) c.cause
  why_missed i pass c here e =
      let lawful = put_lawful nonce key pass.brick in
      let brick : Pass → BrickNo = λ p. p.brick in
      caused_by lawful (events_of pass.brick) pass.brick (ear_after lawful (events_of pass.brick)) c e
      (λ o is. heard_so lawful pass.brick (events_of pass.brick) o (facts.fitting i pass.brick (slice_get-map brick before i ∙ ap (option_map brick) here)) is)

  bound : (k : ℕ) (is : BrickCause → Bool) (n : ℕ) (cause : Option BrickCause) → ((c : BrickCause) → cause ≡ Some c → cond (is c) k 0 ≤ n) → weight k is cause ≤ n
  unfolding weight
  bound k is n None h = omega arith
  bound k is n (Some c) h = h c refl

  pub missed_counted : (tally_old tally_new : Tally) → HaveDistinctBricks before → Counts tally_old tally_new facts.calls_made → causes ≡ filter_map (missed_by nonce key facts.calls_made) (bricks_of before) → AreCounted tally_old tally_new causes
  missed_counted tally_old tally_new distinct counts named =
      let number : Pass → ℕ = λ p. p.brick.0 in
      let brick : Pass → BrickNo = λ p. p.brick in
      let causes_are : causes ≡ filter_map missed_of before = named ∙ filter_map_map (missed_by nonce key facts.calls_made) brick before in
      let apart = passes-distinct before distinct in
      let hushes : many 1 is_silent (filter_map missed_of before) ≤ total (λ p. many 1 (is_silence_of (number p)) facts.calls_made) before =
      causes_within 1 is_silent missed_of (λ p. many 1 (is_silence_of (number p)) facts.calls_made) before
      (λ i p here. bound 1 is_silent (many 1 (is_silence_of (number p)) facts.calls_made) (missed_of p)
      (λ c e. rw (sym (hushes_about p.brick facts.calls_made)) (put_silent (put_lawful nonce key p.brick) (events_of p.brick) c.brick c.cause (why_missed i p c here e).1))) in
      let frames : many 64 is_strayed (filter_map missed_of before) ≤ total (λ p. many 1 (is_frame_of (number p)) facts.calls_made) before =
      causes_within 64 is_strayed missed_of (λ p. many 1 (is_frame_of (number p)) facts.calls_made) before
      (λ i p here. bound 64 is_strayed (many 1 (is_frame_of (number p)) facts.calls_made) (missed_of p)
      (λ c e. rw (sym (frames_about p.brick facts.calls_made)) (put_strayed (put_lawful nonce key p.brick) (events_of p.brick) c.brick c.cause (why_missed i p c here e).1))) in
      let all_hushes = silences_within number before apart facts.calls_made in
      let all_frames = frames_within number before apart facts.calls_made in
      let Q : BrickCause → Type 0 = λ c. IsTrue (is_silent c) → Rose (tally_old.silences c.brick.0) (tally_new.silences c.brick.0) in
      let each : All Q (filter_map missed_of before) = all_found missed_of Q before (λ i p c here e.
      let why = why_missed i p c here e in
      silence_rose tally_old tally_new facts.calls_made counts c p.brick (sym why.0) (put_silent (put_lawful nonce key p.brick) (events_of p.brick) c.brick c.cause why.1)) in
      let P : List BrickCause → Type 0 = λ cs. AreCounted tally_old tally_new cs in
      subst P (sym causes_are) (counted_so tally_old tally_new facts.calls_made (filter_map missed_of before) counts each (omega arith) (omega arith))

-- the causes of holders are within their counts
module _ (lawful : Holder → Frame → Option ReadReply) (calls : List LinkEvent) where
  lost_hushes : (holders : List Holder) (causes : List BrickCause) → HaveCauses lawful calls holders causes → many 1 is_silent causes ≤ total (λ (h : Holder). many 1 (is_silence_of h.brick.0) calls) holders
  unfolding many total
  lost_hushes [] [] h = omega arith
  lost_hushes [] (c ∷ causes) h = absurd h
  lost_hushes (holder ∷ holders) [] h = absurd h
  lost_hushes (holder ∷ holders) (c ∷ causes) (same, is, rest) =
      let first = get_silent (lawful holder) (all_about holder.brick calls) c.brick c.cause is in
      let counted = hushes_about holder.brick calls in
      let later = lost_hushes holders causes rest in
      omega arith

  lost_frames : (holders : List Holder) (causes : List BrickCause) → HaveCauses lawful calls holders causes → many 64 is_strayed causes ≤ total (λ (h : Holder). many 1 (is_frame_of h.brick.0) calls) holders
  unfolding many total
  lost_frames [] [] h = omega arith
  lost_frames [] (c ∷ causes) h = absurd h
  lost_frames (holder ∷ holders) [] h = absurd h
  lost_frames (holder ∷ holders) (c ∷ causes) (same, is, rest) =
      let first = get_strayed (lawful holder) (all_about holder.brick calls) c.brick c.cause is in
      let counted = frames_about holder.brick calls in
      let later = lost_frames holders causes rest in
      omega arith

  lost_silences : (old new : Tally) → Counts old new calls → (holders : List Holder) (causes : List BrickCause) → HaveCauses lawful calls holders causes → All (λ (c : BrickCause). IsTrue (is_silent c) → Rose (old.silences c.brick.0) (new.silences c.brick.0)) causes
  lost_silences old new counts [] [] h = All-nil (λ (c : BrickCause). IsTrue (is_silent c) → Rose (old.silences c.brick.0) (new.silences c.brick.0))
  lost_silences old new counts [] (c ∷ causes) h = absurd h
  lost_silences old new counts (holder ∷ holders) [] h = absurd h
  lost_silences old new counts (holder ∷ holders) (c ∷ causes) (same, is, rest) =
      All-cons (λ (x : BrickCause). IsTrue (is_silent x) → Rose (old.silences x.brick.0) (new.silences x.brick.0)) c causes
      (silence_rose old new calls counts c holder.brick same (get_silent (lawful holder) (all_about holder.brick calls) c.brick c.cause is))
      (lost_silences old new counts holders causes rest)

  pub lost_counted : (old new : Tally) (holders : List Holder) (causes : List BrickCause) → AreDistinct holders → Counts old new calls → HaveCauses lawful calls holders causes → AreCounted old new causes
  lost_counted old new holders causes distinct counts have =
      let number : Holder → ℕ = λ h. h.brick.0 in
      let apart = holders-distinct holders distinct in
      let hushes = lost_hushes holders causes have in
      let frames = lost_frames holders causes have in
      let all_hushes = silences_within number holders apart calls in
      let all_frames = frames_within number holders apart calls in
      counted_so old new calls causes counts (lost_silences old new counts holders causes have) (omega arith) (omega arith)
