-- What a write line leaves that was done: the cookie with which its value is acknowledged, or the cookies as they were.
use Rattle.std.proofs.Common.{◌≡◌, ◌⊎◌, inl, inr, ℕ, ◌<◌, true, if◌then◌else◌, nat_lt, List, [], ◌∷◌, ◌++◌, length, take, arith, Some, Ok, Err, sym, ap, ◌∙◌, subst}
use Rattle.std.specs.Prelude.{slice_get, slice_set, nat_le, option_map}
use Rattle.std.specs.List.{filter_map}
use Rattle.std.proofs.lemmas.List.{length-take-le}
use Rattle.std.proofs.lemmas.Option.{slice_get-map}
use Rattle.crash_base.specs.declared.numbers.BrickNo.{BrickNo}
use Rattle.std.proofs.lemmas.Bool.Decides.{nat_tests}
use Rattle.scenario_text.specs.Answer.{Done}
use Rattle.scenario_text.specs.declared.session_line.SessionLine.TheVariants as lines
use Rattle.session_cookie.specs.declared.cookie.Cookie.{Cookie}
use Rattle.session_cookie.specs.declared.cookie.Holder.{Holder}
use Rattle.ssm_frames.specs.declared.frame.Frame.TheVariants.{Put}
use Rattle.send_windows.specs.Facts.{open_count}
use Rattle.send_windows.specs.Windows.{chosen}
use Rattle.send_windows.specs.declared.pass.Pass.{Pass}
use Rattle.ssm_stub.specs.declared.ask.Ask.{Ask}
use Rattle.ssm_stub.specs.declared.cause.BrickCause.{BrickCause}
use Rattle.ssm_stub.specs.Ends.{bricks_of}
use Rattle.ssm_stub.specs.declared.reply.WriteReply.{WriteReply}
use Rattle.ssm_stub.specs.declared.write_call.WriteRefusal.TheVariants as missing
use Rattle.ssm_stub.specs.Turns.{none_asked}
use Rattle.ssm_stub.specs.Writes.{WriteState, write_start, write_answer, holder_of}
use Rattle.ssm_world.specs.declared.call.Call.{Call}
use Rattle.ssm_world.specs.declared.call.Call.TheVariants as call
use Rattle.ssm_world.specs.declared.event.WorldEvent.{WorldEvent}
use Rattle.ssm_world.specs.Claims.{IsAcknowledged, WriteOrder, write_event, write_state, WasMissed as WasMissedInWorld}
use Rattle.ssm_world.specs.Sound.{asked_of, untold, Grows}
use Rattle.ssm_world.specs.Worlds.{WorldValue, with_new_call, may_write, new_world, step, after, IsMade}
use Rattle.ssm_world.proofs.Asks.{asked_none}
use Rattle.ssm_world.proofs.Growing.{same_bricks}
use Rattle.ssm_world.proofs.Lists.{get_new}
use Rattle.ssm_world.proofs.Steps.{after_stays}
use Rattle.ssm_world.proofs.Holding.{HolderAsk, holder_ask, get_taken, answer_cookie}
use Rattle.ssm_world.proofs.Missing.{missed_for}
use Rattle.session_steps.specs.Promise.{Does, AreAmong, SaysWhy, WasMissed}
use Rattle.session_steps.specs.Sessions.{SessionsState, with_store, drawn, nonce, session_key, expiry, padded, spent_by, write_line}
use Rattle.session_lanes.specs.Lanes.{LanesState}
use Rattle.session_steps.specs.Texts.{version_text}
use Rattle.session_steps.proofs.Calls.{bricks_of_write, write_ended, write_may}
use Rattle.session_lanes.proofs.Ending.{WriteGone}
use Rattle.session_steps.proofs.LanesKept.{SoundIfAny, one_turn_keeps}
use Rattle.session_lanes.specs.Sound.{LanesAreSound}
use Rattle.session_steps.proofs.TurnsMade.{sound_of}
use Rattle.session_steps.proofs.Ended.{HasEndedCall}
use Rattle.session_steps.proofs.Lines.{passes_of, store_after_write, HasAnswered, WriteDone, write_done, IsAcknowledgedAs, IsMissed, written_by}

-- A write line was done, and its value is acknowledged with a cookie.
pub record Acknowledged (s : SessionsState) (key : ℕ) (value : List ℕ) (t : SessionsState) (text : List ℕ) : Type 0 where
  pub cookie : Cookie
  pub later : LanesState
  pub later_is : t.store ≡ Some later
  pub acknowledged : IsAcknowledged later.world cookie value
  pub over : HasEndedCall later.world cookie.version
  pub key_is : cookie.key ≡ session_key key
  pub version_is : cookie.version ≡ nonce s
  pub expiry_is : cookie.expiry ≡ expiry s
  pub enough : (st : LanesState) → s.store ≡ Some st → length cookie.bricks ≡ st.windows.wq
  pub among : (st : LanesState) → s.store ≡ Some st → AreAmong cookie.bricks (chosen st.windows (nonce s).serial)
  pub cookies_are : t.cookies ≡ slice_set (padded s.cookies key) key (Some cookie)
  pub text_is : text ≡ version_text key cookie

-- A write line was done, and its value is not acknowledged: the windows were full, or too few bricks stored it.
pub record Unacknowledged (s : SessionsState) (key : ℕ) (value : List ℕ) (t : SessionsState) (text : List ℕ) : Type 0 where
  pub cookies_are : t.cookies ≡ s.cookies
  pub says : SaysWhy s key value t text

taken_count : (n : ℕ) (holders : List Holder) → nat_le n (length holders) ≡ true → length (take n holders) ≡ n
taken_count n holders enough = length-take-le n holders (grind (arith, nat_tests))

-- the holders that a write takes are of bricks that it asked
among_asked : (asks : List (Ask BrickNo WriteReply)) (passes : List Pass) (least : ℕ) → asked_of asks ≡ bricks_of passes → AreAmong (take least (filter_map holder_of asks)) passes
among_asked asks passes least are place holder at =
    let who : Ask BrickNo WriteReply → BrickNo = λ ask. ask.who in
    let ask : HolderAsk asks holder = holder_ask asks place holder (get_taken least (filter_map holder_of asks) place holder at) in
    (ask.place, ap (λ (bricks : List BrickNo). slice_get bricks ask.place) (sym are) ∙ slice_get-map who asks ask.place ∙ ap (option_map who) ask.there ∙ ap (λ b. Some b) ask.who_is)

acknowledged_by : (s : SessionsState) (key : ℕ) (value : List ℕ) (st : LanesState) (t : SessionsState) (text : List ℕ) → s.store ≡ Some st → LanesAreSound st → (a : HasAnswered s key value st t text)
    → IsAcknowledgedAs (with_store (drawn s) (spent_by a.write (passes_of s st) (store_after_write s key value st))) key a.answer t text → Acknowledged s key value t text
acknowledged_by s key value st t text store_is sound a ok =
    let start : WriteState = write_start (bricks_of_write s st) st.windows.wq (nonce s) (session_key key) value (expiry s) in
    let n : ℕ = length st.world.calls in
    let gone : WriteGone start n (store_after_write s key value st) = write_ended s key value st sound (write_may s key value st (call.Write a.write) a.there) in
    let one : Some (call.Write gone.end) ≡ Some (call.Write a.write) = sym gone.there ∙ a.there in
    let same : gone.end ≡ a.write = cc in
    let answers : write_answer gone.end ≡ Some (Ok ok.cookie) = ap write_answer same ∙ a.answers ∙ ap (λ x. Some x) ok.answer_is in
    let both = answer_cookie gone.end ok.cookie answers in
    let is = both.0 in
    let count : length ok.cookie.bricks ≡ st.windows.wq = ap (λ (c : Cookie). length c.bricks) (sym is) ∙ taken_count gone.end.least (filter_map holder_of gone.end.asks) both.1 ∙ gone.least_is in
    let A : Cookie → Type 0 = λ c. AreAmong c.bricks (passes_of s st) in
    let among : AreAmong ok.cookie.bricks (passes_of s st) =
    subst A is (among_asked gone.end.asks (passes_of s st) gone.end.least (gone.asked_are ∙ asked_none WriteReply (bricks_of_write s st))) in
    record {
      cookie = ok.cookie;
      later = spent_by a.write (passes_of s st) (store_after_write s key value st);
      later_is = ap (λ (x : SessionsState). x.store) ok.state_is;
      acknowledged = record {
        place = n;
        write = gone.end;
        there = gone.there;
        answers = answers;
        value_is = gone.ask_is ∙ (λ l. Put (sym gone.nonce_is l) (sym gone.key_is l) (sym gone.nonce_is l) (sym gone.expiry_is l) value);
      };
      over = (n, call.Write gone.end, gone.there, ap (λ (c : Cookie). c.version) is, gone.over);
      key_is = ap (λ (c : Cookie). c.key) (sym is) ∙ gone.key_is;
      version_is = ap (λ (c : Cookie). c.version) (sym is) ∙ gone.nonce_is;
      expiry_is = ap (λ (c : Cookie). c.expiry) (sym is) ∙ gone.expiry_is;
      enough = λ x has. (
          let one : Some st ≡ Some x = sym store_is ∙ has in
          let store : st ≡ x = cc in
          count ∙ ap (λ (y : LanesState). y.windows.wq) store);
      among = λ x has. (
          let one : Some st ≡ Some x = sym store_is ∙ has in
          let store : st ≡ x = cc in
          let S : LanesState → Type 0 = λ y. AreAmong ok.cookie.bricks (passes_of s y) in
          subst S store among);
      cookies_are = ap (λ (x : SessionsState). x.cookies) ok.state_is;
      text_is = ok.text_is;
    }

-- a write that began as it was ordered asks the ordered bricks, whatever it has heard
asked_in : (w : WorldValue) (earlier : List WorldEvent) (order : WriteOrder) (later : List WorldEvent) (place : ℕ) (write : WriteState)
    → may_write (after w earlier) order.nonce order.bricks order.least ≡ true → place ≡ length (after w earlier).calls
    → slice_get (after w (earlier ++ write_event order ∷ later)).calls place ≡ Some (call.Write write) → asked_of write.asks ≡ order.bricks
asked_in w [] order later place write may place_is there =
    let u : WorldValue = step w (write_event order) in
    let c : Call = call.Write (write_state order) in
    let begun : u ≡ with_new_call w c = ap (λ b. if b then with_new_call w c else w) may in
    let first : slice_get u.calls (length w.calls) ≡ Some c = ap (λ (x : WorldValue). slice_get x.calls (length w.calls)) begun ∙ get_new w.calls c in
    let grown : Grows u (after u later) = (after_stays w u later).grows in
    let now : (d : Call) × (slice_get (after u later).calls (length w.calls) ≡ Some d) × (untold d ≡ untold c) = grown.calls (length w.calls) c first in
    let one : Some now.0 ≡ Some (call.Write write) = sym now.1 ∙ ap (slice_get (after u later).calls) (sym place_is) ∙ there in
    let same : now.0 ≡ call.Write write = cc in
    same_bricks c (call.Write write) (ap untold (sym same) ∙ now.2) ∙ asked_none WriteReply order.bricks
asked_in w (e ∷ earlier) order later place write may place_is there = asked_in (step w e) earlier order later place write may place_is there

asked_when_missed : (n : ℕ) (events : List WorldEvent) (place : ℕ) (write : WriteState) (causes : List BrickCause) (why : WasMissedInWorld n events place write causes)
    → slice_get (after (new_world n) events).calls place ≡ Some (call.Write write) → asked_of write.asks ≡ why.order.bricks
asked_when_missed n events place write causes why there =
    asked_in (new_world n) why.earlier why.order why.later place write why.may_begin why.place_is (ap (λ es. slice_get (after (new_world n) es).calls place) (sym why.parts) ∙ there)

-- the write of the line was missed in the world of the bricks
missed_by : (s : SessionsState) (key : ℕ) (value : List ℕ) (st : LanesState) (t : SessionsState) (text : List ℕ) → s.store ≡ Some st → LanesAreSound st → (a : HasAnswered s key value st t text)
    → IsMissed (with_store (drawn s) (spent_by a.write (passes_of s st) (store_after_write s key value st))) key a.answer t text → SoundIfAny t.store → WasMissed s key value t text
missed_by s key value st t text store_is sound a missed after_sound =
    let start : WriteState = write_start (bricks_of_write s st) st.windows.wq (nonce s) (session_key key) value (expiry s) in
    let n : ℕ = length st.world.calls in
    let gone : WriteGone start n (store_after_write s key value st) = write_ended s key value st sound (write_may s key value st (call.Write a.write) a.there) in
    let one : Some (call.Write gone.end) ≡ Some (call.Write a.write) = sym gone.there ∙ a.there in
    let same : gone.end ≡ a.write = cc in
    let answers : write_answer gone.end ≡ Some (Err (missing.Missed missed.causes)) = ap write_answer same ∙ a.answers ∙ ap (λ x. Some x) missed.answer_is in
    let later : LanesState = spent_by a.write (passes_of s st) (store_after_write s key value st) in
    let later_is : t.store ≡ Some later = ap (λ (x : SessionsState). x.store) missed.state_is in
    let made : IsMade later.world = (sound_of t.store later later_is after_sound).made in
    let there : slice_get (after (new_world made.bricks) made.events).calls n ≡ Some (call.Write gone.end) = ap (λ (w : WorldValue). slice_get w.calls n) (sym made.made) ∙ gone.there in
    let why : WasMissedInWorld made.bricks made.events n gone.end missed.causes = missed_for made.bricks made.events n gone.end missed.causes there answers in
    let order : WriteOrder = why.order in
    let its : write_state order ≡ record (gone.end) { asks = none_asked order.bricks } = sym why.order_is in
    let nonce_is : order.nonce ≡ nonce s = ap (λ (r : WriteState). r.nonce) its ∙ gone.nonce_is in
    let key_is : order.key ≡ session_key key = ap (λ (r : WriteState). r.key) its ∙ gone.key_is in
    let expiry_is : order.expiry ≡ expiry s = ap (λ (r : WriteState). r.expiry) its ∙ gone.expiry_is in
    let least_is : order.least ≡ st.windows.wq = ap (λ (r : WriteState). r.least) its ∙ gone.least_is in
    let puts : Put order.nonce order.key order.nonce order.expiry order.value ≡ Put (nonce s) (session_key key) (nonce s) (expiry s) value = ap (λ (r : WriteState). r.ask) its ∙ gone.ask_is in
    let value_is : order.value ≡ value = cc in
    let asked : asked_of gone.end.asks ≡ order.bricks = asked_when_missed made.bricks made.events n gone.end missed.causes why there in
    let bricks_are : order.bricks ≡ bricks_of_write s st = sym asked ∙ gone.asked_are ∙ asked_none WriteReply (bricks_of_write s st) in
    record {
      before = st;
      before_is = store_is;
      later = later;
      later_is = later_is;
      bricks = made.bricks;
      events = made.events;
      made = made.made;
      write = gone.end;
      causes = missed.causes;
      missed = why;
      order_is = λ l. record { nonce = nonce_is l; key = key_is l; value = value_is l; expiry = expiry_is l; bricks = bricks_are l; least = least_is l };
      text_is = missed.text_is;
    }

is_less : (a b : ℕ) → nat_lt a b ≡ true → a < b
is_less a b is = grind (arith, nat_tests)

-- how a write line ends that was done
pub write_ends : (s : SessionsState) (key : ℕ) (value : List ℕ) (t : SessionsState) (text : List ℕ) → SoundIfAny s.store → write_line s key value ≡ Done t text
    → Acknowledged s key value t text ⊎ Unacknowledged s key value t text
write_ends s key value t text sound is = go (write_done s key value t text is)
  where
    go : WriteDone s key value t text → Acknowledged s key value t text ⊎ Unacknowledged s key value t text
    go d = elim d.by [
      | inl over ↦ inr (record {
        cookies_are = ap (λ (x : SessionsState). x.cookies) over.state_is;
        says = inl (record {
          store = d.store;
          store_is = d.store_is;
          few_open = is_less (open_count d.store.windows.facts) d.store.windows.wq over.full;
          text_is = over.text_is;
        });
      })
      | inr a ↦ elim (written_by (with_store (drawn s) (spent_by a.write (passes_of s d.store) (store_after_write s key value d.store))) key a.answer t text a.done) [
        | inl ok ↦ inl (acknowledged_by s key value d.store t text d.store_is (sound_of s.store d.store d.store_is sound) a ok)
        | inr missed ↦ inr (record { cookies_are = ap (λ (x : SessionsState). x.cookies) missed.state_is; says = inr (missed_by s key value d.store t text d.store_is (sound_of s.store d.store d.store_is sound) a missed (one_turn_keeps s t (Does (lines.Write key value) text) sound is)) })
      ]
    ]
