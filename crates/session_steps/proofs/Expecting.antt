-- What a read is still to be told of each brick, and what it hears by that.
use Rattle.std.proofs.Common.{◌≡◌, inl, inr, ℕ, ◌+◌, ◌<◌, ◌≤◌, ◌||◌, Bool, true, false, nat_lt, if◌then◌else◌, List, [], ◌∷◌, ◌++◌, length, map, Option, Some, None, All, refl, sym, ap, subst, ◌∙◌, arith, lt-ltb, le-ltb}
use Rattle.std.specs.Prelude.{slice_get}
use Rattle.std.specs.List.{fold}
use Rattle.std.specs.Option.{option_map, option_and_then}
use Rattle.std.proofs.lemmas.Bool.{cases_lt}
use Rattle.std.proofs.lemmas.Bool.Decides.{nat_tests}
use Rattle.std.proofs.lemmas.List.{length-map}
use Rattle.std.proofs.lemmas.List.Elements.{All-head, All-tail, All-map, All-weaker}
use Rattle.crash_base.specs.declared.numbers.Version.{Version}
use Rattle.crash_base.specs.Same.{same_version}
use Rattle.session_cookie.specs.declared.cookie.Cookie.{Cookie}
use Rattle.session_cookie.specs.declared.cookie.Holder.{Holder}
use Rattle.ssm_frames.specs.declared.frame.Frame.{Frame}
use Rattle.ssm_frames.specs.declared.frame.Frame.TheVariants.{Get}
use Rattle.ssm_stub.specs.declared.ear.Stage.TheVariants.{Unasked, Asked}
use Rattle.ssm_stub.specs.declared.ear.Outcome.TheVariants.{Silent, Strayed}
use Rattle.ssm_stub.specs.declared.ear.Ear.{Ear}
use Rattle.ssm_stub.specs.declared.ear.Ear.TheVariants.{Open, Heard}
use Rattle.ssm_stub.specs.declared.event.Told.{Told}
use Rattle.ssm_stub.specs.declared.event.Told.TheVariants.{Sent, Came, Silent as NoneCame}
use Rattle.ssm_stub.specs.declared.reply.ReadReply.{ReadReply}
use Rattle.ssm_stub.specs.declared.reply.ReadReply.TheVariants as get
use Rattle.ssm_stub.specs.Ears.{after_frame, heard_on}
use Rattle.ssm_stub.specs.Hearing.{IsStray}
use Rattle.ssm_stub.specs.Reads.{get_lawful}
use Rattle.ssm_stub.proofs.HearingEnds.{strays_pass, heard_stays}
use Rattle.ssm_world.specs.declared.call.Call.{Call}
use Rattle.ssm_world.specs.declared.event.Packet.{Packet}
use Rattle.ssm_world.specs.Facts.{frame_nonce}
use Rattle.ssm_world.specs.Sound.{WasMade, IsSound, RepliesSince}
use Rattle.ssm_world.specs.Worlds.{WorldValue, new_world, nonce_of, history, is_new, reply_to, IsMade}
use Rattle.ssm_world.proofs.CallAsks.{asked_nonce}
use Rattle.ssm_world.proofs.Growing.{WasAsked, ask_of_call}
use Rattle.ssm_world.proofs.Lawful.{lawful_get_is, IsGetReply}
use Rattle.ssm_world.proofs.Lists.{none_passes}
use Rattle.ssm_world.proofs.Replying.{RepliesTo, reply_to as replies_so}
use Rattle.ssm_world.proofs.Steps.{world_replies}
use Rattle.ssm_world.proofs.Tests.{version_same}
use Rattle.session_lanes.specs.Lane.{LaneState, lane_at}
use Rattle.session_lanes.specs.Lanes.{LanesState}
use Rattle.session_lanes.specs.Sound.{IsReplyOf, LanesAreOf}
use Rattle.session_steps.specs.Rule.{heard_behind, heard_on_lane, outcome_by_rule}
use Rattle.session_lanes.proofs.Ending.{made_is_sound}
use Rattle.session_lanes.proofs.LanesStay.{PacketsStay}

-- the frame of the packet of a number, if there is one
abbrev pub frame_at : WorldValue → ℕ → Option Frame
frame_at w k = option_map (λ (p : Packet). p.frame) (slice_get w.packets k)

-- the frames of packets
abbrev pub frames_of : WorldValue → List ℕ → List (Option Frame)
frames_of w numbers = map (frame_at w) numbers

-- what an asked brick tells: the replies that wait on its lane, and then silence
abbrev pub waiting_told : WorldValue → Option LaneState → List Told
waiting_told w None = NoneCame ∷ []
waiting_told w (Some lane) = map Came (frames_of w lane.queue) ++ NoneCame ∷ []

-- what comes behind the replies that wait: the reply, unless the ask is dropped or the reply is lost, and then silence
abbrev pub last_told : LaneState → Option Frame → List Told
last_told lane reply = if nat_lt 0 lane.to_drop || nat_lt 0 lane.to_lose then NoneCame ∷ [] else Came reply ∷ NoneCame ∷ []

-- what a brick tells that is yet to be asked, whose reply would be this
abbrev pub asked_told : WorldValue → Option Frame → Option LaneState → List Told
asked_told w reply None = NoneCame ∷ []
asked_told w reply (Some lane) = Sent ∷ (map Came (frames_of w lane.queue) ++ last_told lane reply)

-- packets that stay have their frames
pub frames_stay : (w v : WorldValue) (brick : ℕ) (numbers : List ℕ) → PacketsStay w v → All (IsReplyOf w brick) numbers → frames_of v numbers ≡ frames_of w numbers
frames_stay w v brick [] stay all = refl
frames_stay w v brick (k ∷ numbers) stay all =
    let front : IsReplyOf w brick k = All-head (IsReplyOf w brick) k numbers all in
    let first : frame_at v k ≡ frame_at w k = ap (option_map (λ (p : Packet). p.frame)) (stay k front.packet front.there ∙ sym front.there) in
    λ i. first i ∷ frames_stay w v brick numbers stay (All-tail (IsReplyOf w brick) k numbers all) i

pub waiting_stays : (st : LanesState) (v : WorldValue) (brick : ℕ) → LanesAreOf st → PacketsStay st.world v → waiting_told v (lane_at st.lanes brick) ≡ waiting_told st.world (lane_at st.lanes brick)
waiting_stays st v brick lanes stay = go (lane_at st.lanes brick) refl where
  go : (o : Option LaneState) → lane_at st.lanes brick ≡ o → waiting_told v o ≡ waiting_told st.world o
  go None at = refl
  go (Some lane) at = ap (λ fs. map Came fs ++ NoneCame ∷ []) (frames_stay st.world v brick lane.queue stay (lanes.queue brick lane at))

pub asked_stays : (st : LanesState) (v : WorldValue) (brick : ℕ) (reply : Option Frame) → LanesAreOf st → PacketsStay st.world v → asked_told v reply (lane_at st.lanes brick) ≡ asked_told st.world reply (lane_at st.lanes brick)
asked_stays st v brick reply lanes stay = go (lane_at st.lanes brick) refl where
  go : (o : Option LaneState) → lane_at st.lanes brick ≡ o → asked_told v reply o ≡ asked_told st.world reply o
  go None at = refl
  go (Some lane) at = ap (λ fs. Sent ∷ (map Came fs ++ last_told lane reply)) (frames_stay st.world v brick lane.queue stay (lanes.queue brick lane at))

-- 64 strays or more end the hearing, whatever comes behind them
strays_over : {A : Type 0} (lawful : Frame → Option A) (strays : List (Option Frame)) (n : ℕ) (rest : List Told) → All (IsStray lawful) strays → 64 ≤ n + length strays → n < 64 → fold (heard_on lawful) (Open (Asked n)) (map Came strays ++ rest) ≡ Heard Strayed
strays_over lawful [] n rest all many few = absurd (omega arith)
strays_over lawful (frame ∷ strays) n rest all many few =
    let head = All-head (IsStray lawful) frame strays all in
    let tail = All-tail (IsStray lawful) frame strays all in
    let more : List Told = map Came strays ++ rest in
    ap (λ reply. fold (heard_on lawful) (after_frame (Asked n) reply) more) head
    ∙ elim (cases_lt n 63) [
      | inl below ↦ ap (λ b. fold (heard_on lawful) (if b then Open (Asked (n + 1)) else Heard Strayed) more) (lt-ltb n 63 below) ∙ strays_over lawful strays (n + 1) rest tail (omega arith) (omega arith)
      | inr above ↦ ap (λ b. fold (heard_on lawful) (if b then Open (Asked (n + 1)) else Heard Strayed) more) (le-ltb n 63 above) ∙ heard_stays lawful Strayed more
    ]

below_or : (n : ℕ) (b : Bool) → nat_lt n 63 ≡ b → nat_lt (n + 1) 64 ≡ b
below_or n true is = grind (arith, nat_tests)
below_or n false is = grind (arith, nat_tests)

less_than : (n : ℕ) → nat_lt n 64 ≡ true → n < 64
less_than n is = grind (arith, nat_tests)

not_less : (n : ℕ) → nat_lt n 64 ≡ false → 64 ≤ n
not_less n is = grind (arith, nat_tests)

-- what is heard behind fewer than 64 strays
behind : (lawful : Frame → Option ReadReply) (n : ℕ) (reply : Option Frame) → fold (heard_on lawful) (Open (Asked n)) (Came reply ∷ NoneCame ∷ []) ≡ Heard (heard_behind n (option_and_then lawful reply))
behind lawful n reply = go (option_and_then lawful reply) where
  none : (b c : Bool) → b ≡ c → fold (heard_on lawful) (if b then Open (Asked (n + 1)) else Heard Strayed) (NoneCame ∷ []) ≡ Heard (if c then Silent else Strayed)
  none true true is = refl
  none true false is = absurd (cc)
  none false true is = absurd (cc)
  none false false is = refl

  go : (o : Option ReadReply) → fold (heard_on lawful) (after_frame (Asked n) o) (NoneCame ∷ []) ≡ Heard (heard_behind n o)
  go (Some r) = refl
  go None = none (nat_lt n 63) (nat_lt (n + 1) 64) (sym (below_or n (nat_lt n 63) refl))

last_heard : (lawful : Frame → Option ReadReply) (n : ℕ) (lane : LaneState) (reply : Option Frame) → fold (heard_on lawful) (Open (Asked n)) (last_told lane reply) ≡ Heard (if nat_lt 0 lane.to_drop || nat_lt 0 lane.to_lose then Silent else heard_behind n (option_and_then lawful reply))
last_heard lawful n lane reply = go (nat_lt 0 lane.to_drop || nat_lt 0 lane.to_lose) where
  go : (b : Bool) → fold (heard_on lawful) (Open (Asked n)) (if b then NoneCame ∷ [] else Came reply ∷ NoneCame ∷ []) ≡ Heard (if b then Silent else heard_behind n (option_and_then lawful reply))
  go true = refl
  go false = behind lawful n reply

-- what is heard of a brick on whose lane strays wait
pub heard_by_rule : (lawful : Frame → Option ReadReply) (w : WorldValue) (reply : Option Frame) (o : Option LaneState) → ((lane : LaneState) → o ≡ Some lane → All (IsStray lawful) (frames_of w lane.queue)) → fold (heard_on lawful) (Open Unasked) (asked_told w reply o) ≡ Heard (heard_on_lane o (option_and_then lawful reply))
heard_by_rule lawful w reply None strays = refl
heard_by_rule lawful w reply (Some lane) strays = go (nat_lt (length lane.queue) 64) refl where
  all : All (IsStray lawful) (frames_of w lane.queue)
  all = strays lane refl

  long : length (frames_of w lane.queue) ≡ length lane.queue
  long = length-map lane.queue (frame_at w)

  go : (b : Bool) → nat_lt (length lane.queue) 64 ≡ b → fold (heard_on lawful) (Open (Asked 0)) (map Came (frames_of w lane.queue) ++ last_told lane reply)
      ≡ Heard (if b then (if nat_lt 0 lane.to_drop || nat_lt 0 lane.to_lose then Silent else heard_behind (length lane.queue) (option_and_then lawful reply)) else Strayed)
  go true is =
      let few : length lane.queue < 64 = less_than (length lane.queue) is in
      strays_pass lawful (frames_of w lane.queue) 0 (last_told lane reply) all (omega (arith, few, long))
      ∙ ap (λ n. fold (heard_on lawful) (Open (Asked n)) (last_told lane reply)) (let e : 0 + length (frames_of w lane.queue) ≡ length lane.queue = omega (arith, long) in e)
      ∙ last_heard lawful (length lane.queue) lane reply
  go false is =
      let many : 64 ≤ length lane.queue = not_less (length lane.queue) is in
      strays_over lawful (frames_of w lane.queue) 0 (last_told lane reply) all (omega (arith, many, long)) (omega arith)

-- the nonce of a lawful reply is that of the read
lawful_nonce : (nonce : Version) (cookie : Cookie) (holder : Holder) (frame : Frame) (reply : ReadReply) → get_lawful nonce cookie.key cookie.version cookie.expiry holder frame ≡ Some reply → frame_nonce frame ≡ nonce
lawful_nonce nonce cookie holder frame reply is = go reply (lawful_get_is nonce cookie.key cookie.version cookie.expiry holder frame reply is) where
  go : (r : ReadReply) → IsGetReply nonce cookie.key cookie.version cookie.expiry holder frame r → frame_nonce frame ≡ nonce
  go (get.Found value) its = ap frame_nonce its.2
  go (get.Crashed i) its = ap frame_nonce its.1
  go (get.Swept moment) its = ap frame_nonce its.0

-- a reply to an earlier call is a stray to a read with a new nonce
reply_strays : (w : WorldValue) (brick k : ℕ) (nonce : Version) (cookie : Cookie) (holder : Holder) → IsMade w → is_new w nonce ≡ true → IsReplyOf w brick k → IsStray (get_lawful nonce cookie.key cookie.version cookie.expiry holder) (frame_at w k)
reply_strays w brick k nonce cookie holder made new is =
    ap (λ o. option_and_then lawful (option_map (λ (p : Packet). p.frame) o)) is.there ∙ go (lawful is.packet.frame) refl where
      lawful : Frame → Option ReadReply
      lawful = get_lawful nonce cookie.key cookie.version cookie.expiry holder

      sound : IsSound w
      sound = made_is_sound w made

      was_made : WasMade (new_world made.bricks) w is.packet
      was_made = (subst (λ v. RepliesSince (new_world made.bricks) v) (sym made.made) (world_replies made.bricks made.events)).each k is.packet (omega arith) is.there is.replies

      request_at : slice_get w.packets was_made.was_sent.0 ≡ Some (record { brick = is.packet.brick; frame = was_made.request })
      request_at = was_made.was_sent.1

      was_asked : WasAsked w was_made.request
      was_asked = ask_of_call w is.packet.brick was_made.request (sound.requests was_made.was_sent.0 (record { brick = is.packet.brick; frame = was_made.request }) request_at was_made.asks)

      go : (o : Option ReadReply) → lawful is.packet.frame ≡ o → o ≡ None
      go None its = refl
      go (Some reply) its = absurd (
          let to : RepliesTo was_made.request is.packet.frame = replies_so is.packet.brick was_made.earlier was_made.request is.packet.frame was_made.reply_is in
          let same : nonce_of was_asked.1 ≡ nonce = asked_nonce w was_made.request sound was_asked ∙ sym to.nonce_is ∙ lawful_nonce nonce cookie holder is.packet.frame reply its in
          let no : same_version (nonce_of was_asked.1) nonce ≡ false = none_passes (λ (c : Call). same_version (nonce_of c) nonce) w.calls was_asked.0 was_asked.1 new was_asked.2 in
          let yes : same_version (nonce_of was_asked.1) nonce ≡ true = ap (λ n. same_version n nonce) same ∙ version_same nonce in
          cc)

all_stray : (w : WorldValue) (brick : ℕ) (numbers : List ℕ) (nonce : Version) (cookie : Cookie) (holder : Holder) → IsMade w → is_new w nonce ≡ true → All (IsReplyOf w brick) numbers → All (IsStray (get_lawful nonce cookie.key cookie.version cookie.expiry holder)) (frames_of w numbers)
all_stray w brick numbers nonce cookie holder made new all =
    let Stray : Option Frame → Type 0 = IsStray (get_lawful nonce cookie.key cookie.version cookie.expiry holder) in
    All-map Stray (frame_at w) numbers (All-weaker (IsReplyOf w brick) (λ k. Stray (frame_at w k)) (λ k is. reply_strays w brick k nonce cookie holder made new is) numbers all)

-- the lawful replies of a holder to a read with this nonce of a cookie
abbrev pub lawful_to : Version → Cookie → Holder → Frame → Option ReadReply
lawful_to nonce cookie = get_lawful nonce cookie.key cookie.version cookie.expiry

-- the reply of a holder's brick to such a read
abbrev pub reply_of : LanesState → Version → Cookie → Holder → Option Frame
reply_of st nonce cookie holder = reply_to (record { brick = holder.brick; frame = Get nonce cookie.key cookie.version }) (history st.world holder.brick)

-- what a holder is still to tell such a read, by what was heard of it
abbrev pub to_come : LanesState → Version → Cookie → Holder → Ear ReadReply → List Told
to_come st nonce cookie holder (Open Unasked) = asked_told st.world (reply_of st nonce cookie holder) (lane_at st.lanes holder.brick.0)
to_come st nonce cookie holder (Open (Asked strays)) = waiting_told st.world (lane_at st.lanes holder.brick.0)
to_come st nonce cookie holder (Heard outcome) = []

-- what such a read hears of a holder in the end, if it asks it
abbrev pub expected : LanesState → Version → Cookie → Holder → Ear ReadReply → Ear ReadReply
expected st nonce cookie holder ear = fold (heard_on (lawful_to nonce cookie holder)) ear (to_come st nonce cookie holder ear)

-- before the read is told anything, that is by the rule
pub begins_by_rule : (st : LanesState) (nonce : Version) (cookie : Cookie) (holder : Holder) → IsMade st.world → LanesAreOf st → is_new st.world nonce ≡ true → expected st nonce cookie holder (Open Unasked) ≡ Heard (outcome_by_rule st nonce cookie holder)
begins_by_rule st nonce cookie holder made lanes new =
    heard_by_rule (lawful_to nonce cookie holder) st.world (reply_of st nonce cookie holder) (lane_at st.lanes holder.brick.0)
    (λ lane at. all_stray st.world holder.brick.0 lane.queue nonce cookie holder made new (lanes.queue holder.brick.0 lane at))

-- what is expected of a brick stays where its lane and its history stay
pub elsewhere_same : (st v : LanesState) (nonce : Version) (cookie : Cookie) (holder : Holder) (ear : Ear ReadReply) → LanesAreOf st → PacketsStay st.world v.world → lane_at v.lanes holder.brick.0 ≡ lane_at st.lanes holder.brick.0 → history v.world holder.brick ≡ history st.world holder.brick
    → expected v nonce cookie holder ear ≡ expected st nonce cookie holder ear
elsewhere_same st v nonce cookie holder (Open Unasked) lanes stay lane now =
    let lawful : Frame → Option ReadReply = lawful_to nonce cookie holder in
    let H : Option Frame → Option LaneState → Ear ReadReply = λ reply o. fold (heard_on lawful) (Open Unasked) (asked_told v.world reply o) in
    let request : Packet = record { brick = holder.brick; frame = Get nonce cookie.key cookie.version } in
    let replies : reply_of v nonce cookie holder ≡ reply_of st nonce cookie holder = ap (reply_to request) now in
    let first : expected v nonce cookie holder (Open Unasked) ≡ H (reply_of st nonce cookie holder) (lane_at st.lanes holder.brick.0) = λ i. H (replies i) (lane i) in
    first ∙ ap (fold (heard_on lawful) (Open Unasked)) (asked_stays st v.world holder.brick.0 (reply_of st nonce cookie holder) lanes stay)
elsewhere_same st v nonce cookie holder (Open (Asked strays)) lanes stay lane now =
    let lawful : Frame → Option ReadReply = lawful_to nonce cookie holder in
    let H : Option LaneState → Ear ReadReply = λ o. fold (heard_on lawful) (Open (Asked strays)) (waiting_told v.world o) in
    ap H lane ∙ ap (fold (heard_on lawful) (Open (Asked strays))) (waiting_stays st v.world holder.brick.0 lanes stay)
elsewhere_same st v nonce cookie holder (Heard outcome) lanes stay lane now = refl
