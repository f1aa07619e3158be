-- How a write of a world began, and what it is by what it was told since.
use Rattle.std.proofs.Common.{◌≡◌, ◌⊎◌, inl, inr, ℕ, ◌≤◌, ◌||◌, Bool, true, false, not, if◌then◌else◌, List, [], ◌∷◌, ◌++◌, length, map, take, Option, Some, None, Ok, Result, refl, sym, ap, ◌∙◌, subst, arith}
use Rattle.std.specs.Prelude.{slice_get, nat_le}
use Rattle.std.specs.List.{cons_option, filter_map}
use Rattle.std.proofs.lemmas.Bool.Decides.{nat_tests}
use Rattle.std.proofs.lemmas.Bool.{leb-true}
use Rattle.std.proofs.lemmas.List.{length-take-le}
use Rattle.crash_base.specs.declared.numbers.BrickNo.{BrickNo}
use Rattle.crash_base.specs.declared.numbers.Moment.{Moment}
use Rattle.crash_base.specs.declared.numbers.SessionKey.{SessionKey}
use Rattle.crash_base.specs.declared.numbers.Version.{Version}
use Rattle.session_cookie.specs.declared.cookie.Cookie.{Cookie}
use Rattle.ssm_frames.specs.declared.frame.Frame.TheVariants.{Put}
use Rattle.session_cookie.specs.declared.cookie.Holder.{Holder}
use Rattle.ssm_stub.specs.declared.ask.Ask.{Ask}
use Rattle.ssm_stub.specs.declared.event.Told.{Told}
use Rattle.ssm_stub.specs.declared.event.StubNext.TheVariants as next
use Rattle.ssm_stub.specs.declared.ear.Outcome.TheVariants as outcome
use Rattle.ssm_stub.specs.declared.reply.WriteReply.{WriteReply}
use Rattle.ssm_stub.specs.declared.reply.WriteReply.TheVariants.{Stored}
use Rattle.ssm_stub.specs.declared.write_call.WriteRefusal.{WriteRefusal}
use Rattle.ssm_stub.specs.Outcomes.{stored_of}
use Rattle.ssm_stub.specs.Runs.{Fits, after as run}
use Rattle.ssm_stub.specs.Writes.{WriteState, put_lawful, holder_by, holder_of, write_start, write_answer, write_next, write_machine, hear_write}
use Rattle.ssm_stub.proofs.ByEvents.{ask_by}
use Rattle.ssm_stub.proofs.HearingEnds.{so_heard}
use Rattle.ssm_stub.proofs.WriteFacts.{told_facts}
use Rattle.ssm_stub.proofs.WriteOutcomes.{filter_map_map, named}
use Rattle.ssm_stub.proofs.Patience.{sends_nothing}
use Rattle.ssm_world.specs.declared.call.Call.{Call}
use Rattle.ssm_world.specs.declared.call.Call.TheVariants as call
use Rattle.ssm_world.specs.declared.event.Packet.{Packet}
use Rattle.ssm_world.specs.declared.event.WorldEvent.{WorldEvent}
use Rattle.ssm_world.specs.declared.event.WorldEvent.TheVariants.{Write, Read, Send, Deliver, Hear, Hush, Crash, Sweep}
use Rattle.ssm_world.specs.Worlds.{WorldValue, new_world, are_distinct, ask_of, next_of, hear, history, with_new_call, may_write, may_read, told_by_send, told_by_hush, told_by_packet, packet_by_send, with_told, sent, came, hushed, step, after}
use Rattle.ssm_world.specs.Traces.{told_at, all_told}
use Rattle.ssm_world.specs.Claims.{IsAcknowledged, WriteOrder, write_event, write_state, told_to_write, told_to_write_of, NamesWhoStored}
use Rattle.ssm_world.proofs.Holding.{cookie_of, answer_cookie}
use Rattle.ssm_world.proofs.Lists.{get_last, get_new, get_set}
use Rattle.ssm_stub.proofs.Tests.{both}
use Rattle.ssm_world.proofs.Tracing.{sent_calls, delivered_calls, crashed_calls, swept_calls, IsRun, call_runs, bricks_differ}

-- a write that a world has at a place
abbrev pub HasWrite : WorldValue → ℕ → Type 0
HasWrite w place = (s : WriteState) × (slice_get w.calls place ≡ Some (call.Write s))

-- an event by which a write begins at a place
record Begins (w : WorldValue) (e : WorldEvent) (place : ℕ) : Type 0 where
  pub order : WriteOrder
  pub event_is : e ≡ write_event order
  pub may_begin : may_write w order.nonce order.bricks order.least ≡ true
  pub place_is : place ≡ length w.calls

told_write : (w : WorldValue) (k : ℕ) (c : Call) (o : Option Told) (place : ℕ) (s : WriteState) → slice_get w.calls k ≡ Some c → slice_get (with_told w k c o).calls place ≡ Some (call.Write s) → HasWrite w place
told_write w k c None place s there is = (s, is)
told_write w k c (Some t) place s there is = elim (get_set w.calls k (hear c t) place (call.Write s) is) [
  | inl old ↦ (s, old)
  | inr new ↦ go c there new.1 new.0
]
  where
    go : (c : Call) → slice_get w.calls k ≡ Some c → hear c t ≡ call.Write s → place ≡ k → HasWrite w place
    go (call.Write r) at e same = (r, ap (slice_get w.calls) same ∙ at)
    go (call.Read r) at e same = absurd (cc)

-- calls that stay have the writes that they had
same_write : (w v : WorldValue) (place : ℕ) (s : WriteState) → v.calls ≡ w.calls → slice_get v.calls place ≡ Some (call.Write s) → HasWrite w place
same_write w v place s same is = (s, ap (λ cs. slice_get cs place) (sym same) ∙ is)

sent_write : (w : WorldValue) (k : ℕ) (silent is_sent : Bool) (o : Option Call) (place : ℕ) (s : WriteState) → slice_get w.calls k ≡ o → slice_get (sent w k silent is_sent o).calls place ≡ Some (call.Write s) → HasWrite w place
sent_write w k silent is_sent None place s there is = (s, is)
sent_write w k silent is_sent (Some c) place s there is =
    told_write w k c (told_by_send silent (next_of c)) place s there
    (ap (λ cs. slice_get cs place) (sym (sent_calls (with_told w k c (told_by_send silent (next_of c))) (packet_by_send is_sent (ask_of c) (next_of c)))) ∙ is)

came_write : (w : WorldValue) (k : ℕ) (packet : Option Packet) (o : Option Call) (place : ℕ) (s : WriteState) → slice_get w.calls k ≡ o → slice_get (came w k packet o).calls place ≡ Some (call.Write s) → HasWrite w place
came_write w k packet None place s there is = (s, is)
came_write w k packet (Some c) place s there is = told_write w k c (told_by_packet packet (next_of c)) place s there is

hushed_write : (w : WorldValue) (k : ℕ) (o : Option Call) (place : ℕ) (s : WriteState) → slice_get w.calls k ≡ o → slice_get (hushed w k o).calls place ≡ Some (call.Write s) → HasWrite w place
hushed_write w k None place s there is = (s, is)
hushed_write w k (Some c) place s there is = told_write w k c (told_by_hush (next_of c)) place s there is

write_began : (w : WorldValue) (order : WriteOrder) (may : Bool) (place : ℕ) (s : WriteState) → may_write w order.nonce order.bricks order.least ≡ may
    → slice_get (if may then with_new_call w (call.Write (write_state order)) else w).calls place ≡ Some (call.Write s) → HasWrite w place ⊎ Begins w (write_event order) place
write_began w order false place s may is = inl (s, is)
write_began w order true place s may is = elim (get_last w.calls (call.Write (write_state order)) place (call.Write s) is) [
  | inl old ↦ inl (s, old)
  | inr new ↦ inr (record { order = order; event_is = refl; may_begin = may; place_is = new.0 })
]

read_began : (w : WorldValue) (c : Call) (may : Bool) (place : ℕ) (s : WriteState) → ((r : WriteState) → c ≡ call.Write r → ⊥) → slice_get (if may then with_new_call w c else w).calls place ≡ Some (call.Write s) → HasWrite w place
read_began w c false place s none is = (s, is)
read_began w c true place s none is = elim (get_last w.calls c place (call.Write s) is) [
  | inl old ↦ (s, old)
  | inr new ↦ absurd (none s new.1)
]

step_write : (w : WorldValue) (e : WorldEvent) (place : ℕ) (s : WriteState) → slice_get (step w e).calls place ≡ Some (call.Write s) → HasWrite w place ⊎ Begins w e place
step_write w (Write nonce key value expiry bricks least) place s is =
    write_began w (record { nonce = nonce; key = key; value = value; expiry = expiry; bricks = bricks; least = least }) (may_write w nonce bricks least) place s refl is
step_write w (Read nonce moment cookie) place s is = inl (read_began w _ (may_read w nonce cookie.bricks) place s (λ r e. cc) is)
step_write w (Send k silent is_sent) place s is = inl (sent_write w k silent (not silent || is_sent) (slice_get w.calls k) place s refl is)
step_write w (Deliver packet) place s is = inl (same_write w (step w (Deliver packet)) place s (delivered_calls w (slice_get w.packets packet)) is)
step_write w (Hear k packet) place s is = inl (came_write w k (slice_get w.packets packet) (slice_get w.calls k) place s refl is)
step_write w (Hush k) place s is = inl (hushed_write w k (slice_get w.calls k) place s refl is)
step_write w (Crash brick) place s is = inl (same_write w (step w (Crash brick)) place s (crashed_calls w brick (history w brick)) is)
step_write w (Sweep brick moment) place s is = inl (same_write w (step w (Sweep brick moment)) place s (swept_calls w brick moment (history w brick)) is)

-- A write began among these events.
pub record Origin (w : WorldValue) (events : List WorldEvent) (place : ℕ) : Type 0 where
  pub earlier : List WorldEvent
  pub order : WriteOrder
  pub later : List WorldEvent
  pub parts : events ≡ earlier ++ write_event order ∷ later
  pub may_begin : may_write (after w earlier) order.nonce order.bricks order.least ≡ true
  pub place_is : place ≡ length (after w earlier).calls

origin : (w : WorldValue) (events : List WorldEvent) (place : ℕ) (s : WriteState) → slice_get (after w events).calls place ≡ Some (call.Write s) → HasWrite w place ⊎ Origin w events place
origin w [] place s there = inl (s, there)
origin w (e ∷ events) place s there = elim (origin (step w e) events place s there) [
  | inl before ↦ elim (step_write w e place before.0 before.1) [
    | inl old ↦ inl old
    | inr new ↦ inr (record { earlier = []; order = new.order; later = events; parts = ap (λ x. x ∷ events) new.event_is; may_begin = new.may_begin; place_is = new.place_is })
  ]
  | inr since ↦ inr (record { earlier = e ∷ since.earlier; order = since.order; later = since.later; parts = ap (λ l. e ∷ l) since.parts; may_begin = since.may_begin; place_is = since.place_is })
]

-- worlds and what is told are made by events one after another
pub after_append : (w : WorldValue) (first more : List WorldEvent) → after w (first ++ more) ≡ after (after w first) more
after_append w [] more = refl
after_append w (e ∷ first) more = after_append (step w e) first more

option_append : {A : Type 0} (o : Option A) (xs ys : List A) → cons_option o (xs ++ ys) ≡ cons_option o xs ++ ys
option_append None xs ys = refl
option_append (Some x) xs ys = refl

told_append : (w : WorldValue) (place : ℕ) (first more : List WorldEvent) → all_told w place (first ++ more) ≡ all_told w place first ++ all_told (after w first) place more
told_append w place [] more = refl
told_append w place (e ∷ first) more =
    ap (cons_option (told_at w place e (slice_get w.calls place))) (told_append (step w e) place first more)
    ∙ option_append (told_at w place e (slice_get w.calls place)) (all_told (step w e) place first) (all_told (after (step w e) first) place more)

-- a write keeps all but what was heard
pub run_keeps : (events : List Told) (s : WriteState) → run write_machine s events ≡ record s { asks = (run write_machine s events).asks }
run_keeps [] s = refl
run_keeps (t ∷ events) s = run_keeps events (hear_write s t)

-- the write as it began
write_there : (w : WorldValue) (order : WriteOrder) → may_write w order.nonce order.bricks order.least ≡ true → slice_get (step w (write_event order)).calls (length w.calls) ≡ Some (call.Write (write_state order))
write_there w order may =
    let c : Call = call.Write (write_state order) in
    let starts : step w (write_event order) ≡ with_new_call w c = ap (λ b. if b then with_new_call w c else w) may in
    ap (λ (u : WorldValue). slice_get u.calls (length w.calls)) starts ∙ get_new w.calls c

-- and it is a run of its machine over whatever follows
pub write_runs : (w : WorldValue) (order : WriteOrder) (later : List WorldEvent) → may_write w order.nonce order.bricks order.least ≡ true
    → IsRun write_machine (λ s. call.Write s) (after (step w (write_event order)) later) (length w.calls) (write_state order) (told_to_write w order later)
write_runs w order later may = call_runs write_machine (λ s. call.Write s) (λ s. refl) (λ s t. refl) (step w (write_event order)) (length w.calls) (write_state order) later (write_there w order may)

-- A write of a world that events made of a new one: how it began, and that it is its machine after what it was
-- told since.
pub record Story (n : ℕ) (events : List WorldEvent) (place : ℕ) (s : WriteState) : Type 0 where
  pub began : Origin (new_world n) events place
  pub fitting : Fits write_machine (write_state began.order) (told_to_write (after (new_world n) began.earlier) began.order began.later)
  pub is : s ≡ run write_machine (write_state began.order) (told_to_write (after (new_world n) began.earlier) began.order began.later)

-- the world after a write began and these events is the one that all made
whole : (w : WorldValue) (events : List WorldEvent) (place : ℕ) (o : Origin w events place) (more : List WorldEvent)
    → after (step (after w o.earlier) (write_event o.order)) (o.later ++ more) ≡ after (after w events) more
whole w events place o more =
    after_append (step (after w o.earlier) (write_event o.order)) o.later more
    ∙ ap (λ v. after v more) (sym (after_append w o.earlier (write_event o.order ∷ o.later)) ∙ ap (after w) (sym o.parts))

pub story : (n : ℕ) (events : List WorldEvent) (place : ℕ) (s : WriteState) → slice_get (after (new_world n) events).calls place ≡ Some (call.Write s) → Story n events place s
story n events place s there = elim (origin (new_world n) events place s there) [
  | inl old ↦ absurd (let none : None ≡ Some (call.Write old.0) = old.1 in cc)
  | inr o ↦ (
      let w : WorldValue = after (new_world n) o.earlier in
      let told : List Told = told_to_write w o.order o.later in
      let runs : IsRun write_machine (λ r. call.Write r) (after (step w (write_event o.order)) o.later) (length w.calls) (write_state o.order) told = write_runs w o.order o.later o.may_begin in
      let at : after (step w (write_event o.order)) o.later ≡ after (new_world n) events = sym (after_append (new_world n) o.earlier (write_event o.order ∷ o.later)) ∙ ap (after (new_world n)) (sym o.parts) in
      let one : Some (call.Write s) ≡ Some (call.Write (run write_machine (write_state o.order) told)) =
      sym there ∙ ap (λ (v : WorldValue). slice_get v.calls place) (sym at) ∙ ap (slice_get (after (step w (write_event o.order)) o.later).calls) o.place_is ∙ runs.there in
      record { began = o; fitting = runs.fitting; is = cc })
]

-- once it has an answer it sends nothing more
pub answered_sends_nothing : (n : ℕ) (events : List WorldEvent) (place : ℕ) (s : WriteState) (answer : Result Cookie WriteRefusal) (brick : BrickNo) → slice_get (after (new_world n) events).calls place ≡ Some (call.Write s) → write_answer s ≡ Some answer → write_next s ≡ next.Send brick → ⊥
answered_sends_nothing n events place s answer brick there answers sends =
    let t : Story n events place s = story n events place s there in
    let order : WriteOrder = t.began.order in
    let told : List Told = told_to_write (after (new_world n) t.began.earlier) order t.began.later in
    let some : 1 ≤ order.least = leb-true 1 order.least (both _ _ (both _ _ t.began.may_begin).1).0 in
    sends_nothing told order.bricks (write_state order) answer refl some t.fitting (ap write_answer (sym t.is) ∙ answers) brick (ap write_next (sym t.is) ∙ sends)

-- what is acknowledged: the write's value, of its order
story_value : (n : ℕ) (events : List WorldEvent) (place : ℕ) (s : WriteState) (value : List ℕ) (t : Story n events place s) → s.ask ≡ Put s.nonce s.key s.nonce s.expiry value → value ≡ t.began.order.value
story_value n events place s value t ask_is =
    let start : WriteState = write_state t.began.order in
    let told : List Told = told_to_write (after (new_world n) t.began.earlier) t.began.order t.began.later in
    let keeps : s ≡ record start { asks = (run write_machine start told).asks } = t.is ∙ run_keeps told start in
    let same : Put s.nonce s.key s.nonce s.expiry value ≡ start.ask = sym ask_is ∙ ap (λ (r : WriteState). r.ask) keeps in
    cc

-- what the stub's laws say of the answers of writes
abbrev pub StayLaw : Type 0
StayLaw =
    (first more : List Told) (bricks : List BrickNo) (least : ℕ) (nonce : Version) (key : SessionKey) (value : List ℕ) (expiry : Moment) (answer : Result Cookie WriteRefusal)
    → Fits write_machine (write_start bricks least nonce key value expiry) (first ++ more)
    → write_answer (run write_machine (write_start bricks least nonce key value expiry) first) ≡ Some answer
    → write_answer (run write_machine (write_start bricks least nonce key value expiry) (first ++ more)) ≡ Some answer

-- A write that has an answer has it in a later world, where else it may have heard more.
pub record StillAnswers (v : WorldValue) (place : ℕ) (s : WriteState) (answer : Result Cookie WriteRefusal) : Type 0 where
  pub now : WriteState
  pub there : slice_get v.calls place ≡ Some (call.Write now)
  pub answers : write_answer now ≡ Some answer
  pub same : now ≡ record s { asks = now.asks }

pub still_answers : StayLaw → (n : ℕ) (earlier later : List WorldEvent) (place : ℕ) (s : WriteState) (answer : Result Cookie WriteRefusal) → slice_get (after (new_world n) earlier).calls place ≡ Some (call.Write s) → write_answer s ≡ Some answer
    → StillAnswers (after (after (new_world n) earlier) later) place s answer
still_answers stay n earlier later place s answer there answers =
    let t : Story n earlier place s = story n earlier place s there in
    let o : Origin (new_world n) earlier place = t.began in
    let w : WorldValue = after (new_world n) o.earlier in
    let begun : WorldValue = step w (write_event o.order) in
    let start : WriteState = write_state o.order in
    let first : List Told = told_to_write w o.order o.later in
    let more : List Told = all_told (after begun o.later) (length w.calls) later in
    let all : List Told = told_to_write w o.order (o.later ++ later) in
    let parts : all ≡ first ++ more = told_append begun (length w.calls) o.later later in
    let runs : IsRun write_machine (λ r. call.Write r) (after begun (o.later ++ later)) (length w.calls) start all = write_runs w o.order (o.later ++ later) o.may_begin in
    let Fit : List Told → Type 0 = λ events. Fits write_machine start events in
    let answered : write_answer (run write_machine start first) ≡ Some answer = ap write_answer (sym t.is) ∙ answers in
    let stays : write_answer (run write_machine start (first ++ more)) ≡ Some answer =
    stay first more o.order.bricks o.order.least o.order.nonce o.order.key o.order.value o.order.expiry answer (subst Fit parts runs.fitting) answered in
    let now : WriteState = run write_machine start all in
    let before : s ≡ record start { asks = (run write_machine start first).asks } = t.is ∙ run_keeps first start in
    record {
      now = now;
      there =
          ap (λ (v : WorldValue). slice_get v.calls place) (sym (whole (new_world n) earlier place o later))
          ∙ ap (slice_get (after begun (o.later ++ later)).calls) o.place_is ∙ runs.there;
      answers = ap (λ events. write_answer (run write_machine start events)) parts ∙ stays;
      same = run_keeps all start ∙ ap (λ (r : WriteState). record r { asks = now.asks }) (sym before);
    }

-- what is acknowledged stays so
pub acknowledged_stays : StayLaw → (n : ℕ) (earlier later : List WorldEvent) (cookie : Cookie) (value : List ℕ) → IsAcknowledged (after (new_world n) earlier) cookie value → IsAcknowledged (after (after (new_world n) earlier) later) cookie value
acknowledged_stays stay n earlier later cookie value acknowledged =
    let still : StillAnswers (after (after (new_world n) earlier) later) acknowledged.place acknowledged.write (Ok cookie) =
    still_answers stay n earlier later acknowledged.place acknowledged.write (Ok cookie) acknowledged.there acknowledged.answers in
    record {
      place = acknowledged.place;
      write = still.now;
      there = still.there;
      answers = still.answers;
      value_is =
          ap (λ (r : WriteState). r.ask) still.same ∙ acknowledged.value_is
          ∙ sym (ap (λ (r : WriteState). Put r.nonce r.key r.nonce r.expiry value) still.same);
    }

-- and it names who stored the value
pub names_who_stored : (n : ℕ) (events : List WorldEvent) (cookie : Cookie) (value : List ℕ) → IsAcknowledged (after (new_world n) events) cookie value → NamesWhoStored n events cookie value
names_who_stored n events cookie value acknowledged =
    let t : Story n events acknowledged.place acknowledged.write = story n events acknowledged.place acknowledged.write acknowledged.there in
    let o : Origin (new_world n) events acknowledged.place = t.began in
    let order : WriteOrder = o.order in
    let w : WorldValue = after (new_world n) o.earlier in
    let start : WriteState = write_state order in
    let all : List Told = told_to_write w order o.later in
    let told : BrickNo → List Told = told_to_write_of w order o.later in
    let mk : BrickNo → Ask BrickNo WriteReply = ask_by (λ (b : BrickNo). b) (put_lawful order.nonce order.key) told in
    let answered : write_answer (run write_machine start all) ≡ Some (Ok cookie) = ap write_answer (sym t.is) ∙ acknowledged.answers in
    let distinct : are_distinct order.bricks ≡ true = (both _ _ (both _ _ (both _ _ o.may_begin).0).1).1 in
    let facts = told_facts all order.bricks start (Ok cookie) refl (bricks_differ order.bricks distinct) t.fitting answered in
    let heard : WriteState = record start { asks = map mk order.bricks } in
    let answers : (cookie_of heard ≡ cookie) × (nat_le order.least (length (filter_map holder_of (map mk order.bricks))) ≡ true) = answer_cookie heard cookie facts.0 in
    let stored : List Holder = filter_map (stored_of order.nonce order.key told) order.bricks in
    let holders_are : filter_map holder_of (map mk order.bricks) ≡ stored = filter_map_map holder_of mk order.bricks in
    let bricks_are : cookie.bricks ≡ take order.least stored = ap (λ (c : Cookie). c.bricks) (sym answers.0) ∙ ap (take order.least) holders_are in
    let enough : order.least ≤ length stored = enough_for order.least (length stored) (ap (λ hs. nat_le order.least (length hs)) (sym holders_are) ∙ answers.1) in
    record {
      earlier = o.earlier;
      order = order;
      later = o.later;
      parts = o.parts;
      may_begin = o.may_begin;
      value_is = story_value n events acknowledged.place acknowledged.write value t acknowledged.value_is;
      key_is = ap (λ (c : Cookie). c.key) (sym answers.0);
      version_is = ap (λ (c : Cookie). c.version) (sym answers.0);
      expiry_is = ap (λ (c : Cookie). c.expiry) (sym answers.0);
      enough = ap length bricks_are ∙ length-take-le order.least stored enough;
      first = bricks_are;
      stored = named order.bricks order.least order.nonce order.key order.expiry told cookie facts.0 facts.1;
      none_left = λ brick incarnation ends.
          ap (holder_by brick) (so_heard (put_lawful order.nonce order.key brick) (told brick) (outcome.Answered (Stored incarnation)) ends);
    }
  where
    enough_for : (least n : ℕ) → nat_le least n ≡ true → least ≤ n
    enough_for least n h = grind (arith, nat_tests)
