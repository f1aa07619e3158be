-- Settling over the link goes by the rule.
use Rattle.std.proofs.Common.{arith, ◌≡◌, ◌∙◌, ap, sym, refl, subst, inl, inr, ◌⊎◌, ℕ, suc, ◌+◌, ◌-◌, ◌<◌, Bool, true, false, IsTrue, nat_lt, if◌then◌else◌, All, List, [], ◌∷◌, ◌++◌, length, map, Option, Some, None, append_assoc}
use Rattle.std.specs.List.{slice_get, slice_set, fold}
use Rattle.std.specs.Option.{option_map, option_map_or, option_and_then}
use Rattle.std.proofs.lemmas.Bool.{ltb-true}
use Rattle.std.proofs.lemmas.List.{length_push, set-set}
use Rattle.std.proofs.lemmas.List.Elements.{All-nil, All-push}
use Rattle.std.proofs.lemmas.Option.{get_or_from_slice_get}
use Rattle.crash_base.specs.declared.numbers.BrickNo.{BrickNo}
use Rattle.outside.specs.declared.link.LinkEvent.{LinkEvent}
use Rattle.outside.specs.declared.link.LinkEvent.TheVariants.{Gets, WantsToReceive}
use Rattle.outside.specs.Link.{Made}
use Rattle.outside.specs.Faults.{counted}
use Rattle.send_windows.specs.declared.pass.Pass.{Pass}
use Rattle.send_windows.specs.declared.pass.PassMark.{PassMark}
use Rattle.send_windows.specs.declared.pass.PassMark.TheVariants as pass_mark
use Rattle.ssm_frames.specs.declared.frame.Frame.{Frame}
use Rattle.ssm_frames.specs.Reading.{decode_of, takes_memory}
use Rattle.ssm_frames.specs.Spelling.{encode_of}
use Rattle.ssm_stub.specs.declared.ear.TheConstants.{MAX_STRAYS}
use Rattle.ssm_stub.specs.declared.ear.Stage.TheVariants.{Asked}
use Rattle.ssm_stub.specs.declared.ear.Outcome.{Outcome}
use Rattle.ssm_stub.specs.declared.ear.Outcome.TheVariants.{Answered, Silent, Strayed}
use Rattle.ssm_stub.specs.declared.ear.Ear.{Ear}
use Rattle.ssm_stub.specs.declared.ear.Ear.TheVariants.{Open, Heard}
use Rattle.ssm_stub.specs.declared.event.StubEvent.{StubEvent}
use Rattle.ssm_stub.specs.declared.event.StubEvent.TheVariants as event
use Rattle.ssm_stub.specs.declared.event.Told.{Told}
use Rattle.ssm_stub.specs.declared.reply.WriteReply.{WriteReply}
use Rattle.ssm_stub.specs.Ears.{after_frame, heard, heard_on}
use Rattle.ssm_stub.specs.Hearing.{ear_machine}
use Rattle.ssm_stub.specs.Runs.{told_of, Fits, calls, ReceiveFails}
use Rattle.ssm_stub.specs.Writes.{mark_by}
use Rattle.ssm_stub.specs.Ends.{StopsHearing, HeardOut, SettledAs, Settled}
use Rattle.link_lanes.specs.Lanes.{lane_in, lane_of, with_lane, IsFirst}
use Rattle.link_lanes.specs.Tallies.{lane_after, own_lane}
use Rattle.link_lanes.proofs.Places.{set_back}
use Rattle.link_memory.specs.InOrder.{Over}
use Rattle.link_memory.specs.Lane.{LaneValue, given, counted_times}
use Rattle.link_memory.specs.Leaving.{IsUnlawful}
use Rattle.link_memory.specs.Script.{ScriptValue, given_by, Gives, ScriptMakes}
use Rattle.link_memory.specs.Settling.{queue_of, left_with, StopsOver, SettledOver, AllSettledOver}
use Rattle.link_memory.proofs.Counting.{sooner}
use Rattle.link_memory.proofs.HearingOn.{after_frame_by, after_frame-by, rule_over}

-- an outcome stays
stays : {A : Type 0} (lawful : Frame → Option A) (outcome : Outcome A) (events : List Told) → fold (heard_on lawful) (Heard outcome) events ≡ Heard outcome
stays lawful outcome [] = refl
stays lawful outcome (told ∷ events) = stays lawful outcome events

never_open : {A : Type 0} (lawful : Frame → Option A) (outcome : Outcome A) (events : List Told) (strays : ℕ) → fold (heard_on lawful) (Heard outcome) events ≡ Open (Asked strays) → ⊥
never_open lawful outcome events strays h = (let e : Heard outcome ≡ Open (Asked strays) = sym (stays lawful outcome events) ∙ h in cc)

-- a lane in place of itself
same_lane : (lanes : List LaneValue) (brick : ℕ) (lane : LaneValue) → lane_in lanes brick ≡ Some lane → lanes ≡ slice_set lanes (brick - 1) lane
same_lane lanes brick lane h = go (nat_lt 0 brick) h where
  go : (some : Bool) → (if some then slice_get lanes (brick - 1) else None) ≡ Some lane → lanes ≡ slice_set lanes (brick - 1) lane
  go true h = sym (set_back lanes (brick - 1) lane (sym (get_or_from_slice_get lanes (brick - 1) lane lane h)))
  go false h = absurd cc

module _ (lawful : Frame → Option WriteReply) (brick : BrickNo) (old : ScriptValue) where
  -- so many strays were taken
  record Came (strays : ℕ) (link : ScriptValue) : Type 0 where
    taken : List Frame
    rest : List Frame
    queue_is : queue_of old brick ≡ taken ++ rest
    are_strays : All (IsUnlawful lawful) taken
    many : length taken ≡ strays
    few : strays < MAX_STRAYS
    link_is : link ≡ left_with brick strays rest old

  lane_left : (frames : ℕ) (queue : List Frame) → lane_of (left_with brick frames queue old) brick.0 ≡ option_map (λ (lane : LaneValue). record lane { queue = queue }) (lane_of old brick.0)
  lane_left frames queue = own_lane (record old { got = counted_times frames old.got }) brick (λ (lane : LaneValue). record lane { queue = queue })

  -- one more frame was taken
  one_taken : (frames : ℕ) (frame : Frame) (rest : List Frame) (lane : LaneValue) → lane_of old brick.0 ≡ Some lane → given_by brick (left_with brick frames (frame ∷ rest) old) ≡ left_with brick (frames + 1) rest old
  one_taken frames frame rest lane here =
      let at = brick.0 - 1 in
      let E : ℕ → List LaneValue → ScriptValue = λ got lanes. record old { got = got; lanes = lanes } in
      let with_queue : List Frame → LaneValue = λ queue. record lane { queue = queue } in
      let left_is : (n : ℕ) (queue : List Frame) → left_with brick n queue old ≡ E (counted_times n old.got) (slice_set old.lanes at (with_queue queue)) =
      λ n queue. ap (λ o. with_lane (record old { got = counted_times n old.got }) brick.0 (option_map (λ (l : LaneValue). record l { queue = queue }) o)) here in
      let first = E (counted_times frames old.got) (slice_set old.lanes at (with_queue (frame ∷ rest))) in
      let there : lane_of first brick.0 ≡ Some (with_queue (frame ∷ rest)) = lane_after old.lanes brick.0 lane (with_queue (frame ∷ rest)) here in
      let count : counted (counted_times frames old.got) ≡ counted_times (frames + 1) old.got = sooner frames old.got ∙ ap (λ n. counted_times n old.got) (let e : suc frames ≡ frames + 1 = omega arith in e) in
      ap (given_by brick) (left_is frames (frame ∷ rest))
      ∙ (ap (λ o. with_lane (record first { got = counted (counted_times frames old.got) }) brick.0 (option_map given o)) there
      ∙ (ap (E (counted (counted_times frames old.got))) (set-set old.lanes at (with_queue (frame ∷ rest)) (with_queue rest))
      ∙ (ap (λ n. E n (slice_set old.lanes at (with_queue rest))) count
      ∙ sym (left_is (frames + 1) rest))))

  -- the frame that was given is the first of those that are left
  record Given (bytes : List ℕ) (frames : ℕ) (rest : List Frame) (new : ScriptValue) : Type 0 where
    frame : Frame
    behind : List Frame
    parts : rest ≡ frame ∷ behind
    spelled : bytes ≡ encode_of frame
    back : decode_of bytes ≡ Some frame
    new_is : new ≡ left_with brick (frames + 1) behind old

  gave : (bytes : List ℕ) (frames : ℕ) (rest : List Frame) (link new : ScriptValue) → link ≡ left_with brick frames rest old → Gives bytes (lane_of link brick.0) → new ≡ given_by brick link → Given bytes frames rest new
  gave bytes frames rest link new link_is gives is = by_lane (lane_of old brick.0) refl (let P : Option LaneValue → Type 0 = λ o. Gives bytes o in subst P (ap (λ l. lane_of l brick.0) link_is ∙ lane_left frames rest) gives) where
    by_queue : (lane : LaneValue) → lane_of old brick.0 ≡ Some lane → (queue : List Frame) → rest ≡ queue → IsFirst bytes queue → Given bytes frames rest new
    by_queue lane here [] parts first = absurd first
    by_queue lane here (frame ∷ behind) parts (spelled, back) = record {
      frame = frame;
      behind = behind;
      parts = parts;
      spelled = spelled;
      back = back;
      new_is = is ∙ (ap (given_by brick) (link_is ∙ ap (λ xs. left_with brick frames xs old) parts) ∙ one_taken frames frame behind lane here);
    }

    by_lane : (found : Option LaneValue) → lane_of old brick.0 ≡ found → Gives bytes (option_map (λ (lane : LaneValue). record lane { queue = rest }) found) → Given bytes frames rest new
    by_lane None here given_so = absurd given_so
    by_lane (Some lane) here given_so = by_queue lane here rest refl given_so

  abbrev Later : List StubEvent → Type 0
  Later events = (strays : ℕ) (link new : ScriptValue) (end : ℕ) → Came strays link → Fits (ear_machine brick lawful) (Open (Asked strays)) (map told_of events) → Made ScriptMakes link (calls (ear_machine brick lawful) [] (Open (Asked strays)) events) new
      → fold (heard_on lawful) (Open (Asked strays)) (map told_of events) ≡ Open (Asked end) → Came end new

  one_stray : (events : List StubEvent) → Later events → (strays : ℕ) (link mid new : ScriptValue) (end : ℕ) (bytes : List ℕ) → Came strays link → Gives bytes (lane_of link brick.0) → mid ≡ given_by brick link
      → Fits (ear_machine brick lawful) (heard lawful (Asked strays) (told_of (event.Frame bytes))) (map told_of events) → Made ScriptMakes mid (calls (ear_machine brick lawful) [] (heard lawful (Asked strays) (told_of (event.Frame bytes))) events) new
      → fold (heard_on lawful) (heard lawful (Asked strays) (told_of (event.Frame bytes))) (map told_of events) ≡ Open (Asked end) → Came end new
  one_stray events later strays link mid new end bytes came gives is fit made ends =
      let g = gave bytes strays came.rest link mid came.link_is gives is in
      let ear_is : heard lawful (Asked strays) (told_of (event.Frame bytes)) ≡ after_frame_by strays (lawful g.frame) (nat_lt strays (MAX_STRAYS - 1)) =
      ap (λ f. after_frame (Asked strays) (option_and_then lawful f)) g.back ∙ after_frame-by strays (lawful g.frame) in
      let F : Ear WriteReply → Type 0 = λ ear. Fits (ear_machine brick lawful) ear (map told_of events) in
      let M : Ear WriteReply → Type 0 = λ ear. Made ScriptMakes mid (calls (ear_machine brick lawful) [] ear events) new in
      let E : Ear WriteReply → Type 0 = λ ear. fold (heard_on lawful) ear (map told_of events) ≡ Open (Asked end) in
      judged g (lawful g.frame) refl (nat_lt strays (MAX_STRAYS - 1)) refl (subst F ear_is fit) (subst M ear_is made) (subst E ear_is ends)
    where
      judged : (g : Given bytes strays came.rest mid) (verdict : Option WriteReply) → lawful g.frame ≡ verdict → (more : Bool) → nat_lt strays (MAX_STRAYS - 1) ≡ more
          → Fits (ear_machine brick lawful) (after_frame_by strays verdict more) (map told_of events) → Made ScriptMakes mid (calls (ear_machine brick lawful) [] (after_frame_by strays verdict more) events) new
          → fold (heard_on lawful) (after_frame_by strays verdict more) (map told_of events) ≡ Open (Asked end) → Came end new
      judged g (Some reply) v more e fits_so made_so ends_so = absurd (never_open lawful (Answered reply) (map told_of events) end ends_so)
      judged g None v false e fits_so made_so ends_so = absurd (never_open lawful Strayed (map told_of events) end ends_so)
      judged g None v true e fits_so made_so ends_so =
          let pushed = length_push came.taken g.frame in
          let below = ltb-true strays (MAX_STRAYS - 1) e in
          let so_many = came.many in
          later (strays + 1) mid new end
          (record {
            taken = came.taken ++ g.frame ∷ [];
            rest = g.behind;
            queue_is = came.queue_is ∙ (ap (λ xs. came.taken ++ xs) g.parts ∙ sym (append_assoc came.taken (g.frame ∷ []) g.behind));
            are_strays = All-push (IsUnlawful lawful) came.taken g.frame came.are_strays v;
            many = omega arith;
            few = omega arith;
            link_is = g.new_is;
          })
          fits_so made_so ends_so

  run : (events : List StubEvent) → Later events
  run [] strays link new end came fit made ends =
      let e : strays ≡ end = cc in
      let P : ℕ → Type 0 = λ n. Came n new in
      let Q : ScriptValue → Type 0 = λ l. Came strays l in
      subst P e (subst Q made came)
  run (event.Sent ∷ events) strays link new end came fit made ends = absurd (let first = fit.0 in cc)
  run (event.Silent ∷ events) strays link new end came fit made ends = absurd (never_open lawful Silent (map told_of events) end ends)
  run (event.Frame bytes ∷ events) strays link new end came fit (mid, (gives, few, is), made) ends = one_stray events (run events) strays link mid new end bytes came gives is fit.1 made ends

  -- nothing was taken
  as_it_was : old ≡ left_with brick 0 (queue_of old brick) old
  as_it_was = by_lane (lane_of old brick.0) refl where
    by_lane : (found : Option LaneValue) → lane_of old brick.0 ≡ found → old ≡ with_lane old brick.0 (option_map (λ (lane : LaneValue). record lane { queue = option_map_or (λ (l : LaneValue). l.queue) found [] }) found)
    by_lane None here = refl
    by_lane (Some lane) here = ap (λ (lanes : List LaneValue). record old { lanes = lanes }) (same_lane old.lanes brick.0 lane here)

  begin : Came 0 old
  begin = record {
    taken = [];
    rest = queue_of old brick;
    queue_is = refl;
    are_strays = All-nil (IsUnlawful lawful);
    many = refl;
    few = omega arith;
    link_is = as_it_was;
  }

  -- what is left where memory was wanted
  abbrev Kept : List Frame → List Frame → ScriptValue → Type 0
  Kept taken rest new = (new ≡ left_with brick (length taken) rest old)
      ⊎ ((frame : Frame) × (behind : List Frame) × (rest ≡ frame ∷ behind) × IsTrue (takes_memory (encode_of frame)) × (new ≡ left_with brick (length taken + 1) behind old))

  fails : (strays : ℕ) (reached new : ScriptValue) → Came strays reached → ReceiveFails ScriptMakes brick reached new → StopsOver lawful brick old new
  fails strays reached new came f = record {
    strays = came.taken;
    rest = came.rest;
    queue_is = came.queue_is;
    are_strays = came.are_strays;
    few = (let n = came.many in let k = came.few in omega arith);
    leaves = by_call f.wanted;
  }
    where
      by_call : (f.call ≡ WantsToReceive brick) ⊎ ((bytes : List ℕ) × IsTrue (takes_memory bytes) × (f.call ≡ Gets brick bytes)) → Kept came.taken came.rest new
      by_call (inl want) =
          let M : LinkEvent → Type 0 = λ call. ScriptMakes reached call new in
          let same : new ≡ reached = subst M want f.made in
          inl (same ∙ (came.link_is ∙ ap (λ n. left_with brick n came.rest old) (sym came.many)))
      by_call (inr (bytes, memory, get)) =
          let M : LinkEvent → Type 0 = λ call. ScriptMakes reached call new in
          let made : ScriptMakes reached (Gets brick bytes) new = subst M get f.made in
          let g = gave bytes strays came.rest reached new came.link_is made.0 made.2 in
          let T : List ℕ → Type 0 = λ bs. IsTrue (takes_memory bs) in
          inr (g.frame, g.behind, g.parts, subst T g.spelled memory, g.new_is ∙ ap (λ n. left_with brick (n + 1) g.behind old) (sym came.many))

  stops : (new : ScriptValue) → StopsHearing ScriptMakes lawful brick old new → StopsOver lawful brick old new
  stops new h = fails h.strays h.reached new (run h.events 0 old h.reached h.strays begin h.ran.fitting h.ran.made (sym h.ran.ends)) h.fails

  heard_so : (new : ScriptValue) (mark : PassMark) → HeardOut ScriptMakes lawful brick old new mark → SettledOver lawful brick pass_mark.Unheard old new mark
  heard_so new mark (inl (events, outcome, ran, is)) =
      let by = rule_over lawful [] brick events outcome old new ran in
      inl (is ∙ ap (λ (o : Over (Outcome WriteReply)). mark_by (Heard o.heard)) by, ap (λ (o : Over (Outcome WriteReply)). o.link) by)
  heard_so new mark (inr (h, is)) = inr (is, stops new h)

one : (lawful : BrickNo → Frame → Option WriteReply) (brick : BrickNo) (before : PassMark) (old new : ScriptValue) (mark : PassMark) → SettledAs ScriptMakes lawful brick before old new mark → SettledOver (lawful brick) brick before old new mark
one lawful brick pass_mark.Unheard old new mark h = heard_so (lawful brick) brick old new mark h
one lawful brick pass_mark.Answered old new mark (same, is) = (is, sym same)
one lawful brick pass_mark.Silent old new mark (same, is) = (is, sym same)

-- Each pass was settled by the rule.
pub all_settled : (lawful : BrickNo → Frame → Option WriteReply) (passes : List Pass) (marks : List PassMark) (old new : ScriptValue) → Settled ScriptMakes lawful old passes marks new → AllSettledOver lawful passes marks old new
all_settled lawful [] [] old new h = sym h
all_settled lawful [] (mark ∷ marks) old new h = h
all_settled lawful (pass ∷ passes) [] old new h = h
all_settled lawful (pass ∷ passes) (mark ∷ marks) old new (mid, first, rest) = (mid, one lawful pass.brick pass.mark old mid mark first, all_settled lawful passes marks mid new rest)
