-- A way's step over the link is a turn of its twin.
use Rattle.std.proofs.Common.{◌≡◌, ◌∙◌, refl, sym, ap, subst, ℕ, ◌&&◌, Bool, true, false, IsTrue, if◌then◌else◌, List, [], ◌∷◌, Option, Some, None, is_some}
use Rattle.std.specs.Prelude.{slice_get}
use Rattle.std.specs.Option.{option_and_then}
use Rattle.crash_base.specs.declared.numbers.BrickNo.{BrickNo}
use Rattle.outside.specs.Link.{Made}
use Rattle.ssm_frames.specs.declared.frame.Frame.{Frame}
use Rattle.ssm_frames.specs.Reading.{decode_of}
use Rattle.ssm_frames.specs.Requests.{is_request}
use Rattle.ssm_frames.specs.Spelling.{encode_of}
use Rattle.ssm_stub.specs.Reads.{ReadState, read_ask, read_machine, hear_read}
use Rattle.ssm_stub.specs.Runs.{Steps, call_of, fits, told_of}
use Rattle.ssm_stub.specs.Writes.{WriteState, write_machine}
use Rattle.ssm_stub.specs.declared.event.StubEvent.{StubEvent}
use Rattle.ssm_stub.specs.declared.event.StubEvent.TheVariants as event
use Rattle.ssm_stub.specs.declared.event.StubNext.{StubNext}
use Rattle.ssm_stub.specs.declared.event.StubNext.TheVariants as next
use Rattle.ssm_stub.specs.declared.event.Told.{Told}
use Rattle.ssm_stub.specs.declared.event.Told.TheVariants as told
use Rattle.ssm_world.specs.declared.call.Call.{Call}
use Rattle.ssm_world.specs.declared.call.Call.TheVariants as call
use Rattle.ssm_world.specs.Worlds.{ask_of, next_of, hear}
use Rattle.ssm_world.proofs.CallAsks.{ask_is_request}
use Rattle.ssm_world.proofs.Lists.{get_set_same}
use Rattle.session_way.specs.declared.way.SessionWay.{SessionWay}
use Rattle.session_way.specs.declared.way.SessionWay.TheVariants.{Resting, Reading, Ordered, Writing, Settling, Holding}
use Rattle.session_way.specs.Way.{StepsOutside}
use Rattle.session_lanes.specs.Lane.{LaneState, lane_at}
use Rattle.session_lanes.specs.Lanes.{LanesState, first_waiting, turn_of, turn_to}
use Rattle.session_lanes.specs.Sound.{LanesAreSound}
use Rattle.session_lanes.specs.Steps.{TakesTurn, after_step}
use Rattle.session_lanes.proofs.Ending.{made_is_sound}
use Rattle.session_lanes.proofs.Keeping.{step_keeps}
use Rattle.session_lanes.proofs.Turning.{turn_cases}
use Rattle.lane_link.specs.declared.link.LaneLink.{LaneLink}
use Rattle.lane_link.specs.Links.{LaneLinkMakes, SpellsPacket, after_receive, after_send, heard_next, takes_send, turned, turned_by, unwanted, wants_to_hear, wants_to_send}
use Rattle.lane_link.specs.Twins.{IsTwin, TurnsTwin, call_held}
use Rattle.lane_link.specs.Wanting.{wants_sent, wants_heard}

-- A link whose active call took a turn, in which it was told this.
record ToldBy (old : LaneLink) (n : ℕ) (c : Call) (t : Told) (new : LaneLink) : Type 0 where
  pub turn : new ≡ turned old
  pub hears : slice_get new.lanes.world.calls n ≡ Some (hear c t)

module _ (old : LaneLink) (n : ℕ) (c : Call) (sound : LanesAreSound old.lanes) (active : old.active ≡ Some n) (there : slice_get old.lanes.world.calls n ≡ Some c) where
  abbrev st : LanesState
  st = old.lanes

  abbrev ask : List ℕ
  ask = encode_of (ask_of c)

  asking : is_request (ask_of c) ≡ true
  asking = ask_is_request st.world c ((made_is_sound st.world sound.made).calls n c there)

  -- the call was told this
  abbrev Told_as : Told → LanesState → Type 0
  Told_as t v = slice_get v.world.calls n ≡ Some (hear c t)

  other : {P : Type 0} (x y : StubNext) → next_of c ≡ x → next_of c ≡ y → (x ≡ y → ⊥) → P
  other x y one two differ = absurd (differ (sym one ∙ two))

  same_send : (a b : BrickNo) → next_of c ≡ next.Send a → next_of c ≡ next.Send b → a ≡ b
  same_send a b one two = (let e : next.Send a ≡ next.Send b = sym one ∙ two in cc)

  same_receive : (a b : BrickNo) → next_of c ≡ next.Receive a → next_of c ≡ next.Receive b → a ≡ b
  same_receive a b one two = (let e : next.Receive a ≡ next.Receive b = sym one ∙ two in cc)

  is_there : (b a : BrickNo) (o : Option LaneState) → b ≡ a → lane_at st.lanes a.0 ≡ o → is_some (lane_at st.lanes b.0) ≡ is_some o
  is_there b a o same at = ap (λ (x : BrickNo). is_some (lane_at st.lanes x.0)) same ∙ ap is_some at

  sent_turn : (brick : BrickNo) → next_of c ≡ next.Send brick → is_some (lane_at st.lanes brick.0) ≡ true → Told_as told.Sent (turn_to st n (next_of c))
  sent_turn brick wants some = turn_cases (Told_as told.Sent) st n c sound.lanes asking there (record {
    ended = λ w. other (next.Send brick) next.Ended wants w (λ e. cc);
    unsent = λ b w at. absurd (let e : is_some (lane_at st.lanes brick.0) ≡ false = is_there brick b None (same_send brick b wants w) at in let t : is_some (lane_at st.lanes brick.0) ≡ true = some in cc);
    dropped = λ b lane w at drops. get_set_same st.world.calls n (hear c told.Sent) c there;
    answered = λ b lane h frame w at undropped now gives. get_set_same st.world.calls n (hear c told.Sent) c there;
    laneless = λ b w at. other (next.Send brick) (next.Receive b) wants w (λ e. cc);
    silent = λ b lane w at empty. other (next.Send brick) (next.Receive b) wants w (λ e. cc);
    came = λ b lane packet rest p w at queue is. other (next.Send brick) (next.Receive b) wants w (λ e. cc);
  })

  unsent_turn : (brick : BrickNo) → next_of c ≡ next.Send brick → is_some (lane_at st.lanes brick.0) ≡ false → Told_as told.Silent (turn_to st n (next_of c))
  unsent_turn brick wants none = turn_cases (Told_as told.Silent) st n c sound.lanes asking there (record {
    ended = λ w. other (next.Send brick) next.Ended wants w (λ e. cc);
    unsent = λ b w at. get_set_same st.world.calls n (hear c told.Silent) c there;
    dropped = λ b lane w at drops. absurd (let e : is_some (lane_at st.lanes brick.0) ≡ true = is_there brick b (Some lane) (same_send brick b wants w) at in let t : is_some (lane_at st.lanes brick.0) ≡ false = none in cc);
    answered = λ b lane h frame w at undropped now gives. absurd (let e : is_some (lane_at st.lanes brick.0) ≡ true = is_there brick b (Some lane) (same_send brick b wants w) at in let t : is_some (lane_at st.lanes brick.0) ≡ false = none in cc);
    laneless = λ b w at. other (next.Send brick) (next.Receive b) wants w (λ e. cc);
    silent = λ b lane w at empty. other (next.Send brick) (next.Receive b) wants w (λ e. cc);
    came = λ b lane packet rest p w at queue is. other (next.Send brick) (next.Receive b) wants w (λ e. cc);
  })

  -- what waits for a brick, by its lane
  waits : (a b : BrickNo) (lane : LaneState) (queue : List ℕ) → a ≡ b → lane_at st.lanes b.0 ≡ Some lane → lane.queue ≡ queue → first_waiting st a.0 ≡ slice_get queue 0
  waits a b lane queue same at is =
      ap (λ (x : BrickNo). first_waiting st x.0) same
      ∙ ap (option_and_then (λ (l : LaneState). slice_get l.queue 0)) at
      ∙ ap (λ (q : List ℕ). slice_get q 0) is

  silent_turn : (brick : BrickNo) → next_of c ≡ next.Receive brick → first_waiting st brick.0 ≡ None → Told_as told.Silent (turn_to st n (next_of c))
  silent_turn brick wants none = turn_cases (Told_as told.Silent) st n c sound.lanes asking there (record {
    ended = λ w. other (next.Receive brick) next.Ended wants w (λ e. cc);
    unsent = λ b w at. other (next.Receive brick) (next.Send b) wants w (λ e. cc);
    dropped = λ b lane w at drops. other (next.Receive brick) (next.Send b) wants w (λ e. cc);
    answered = λ b lane h frame w at undropped now gives. other (next.Receive brick) (next.Send b) wants w (λ e. cc);
    laneless = λ b w at. get_set_same st.world.calls n (hear c told.Silent) c there;
    silent = λ b lane w at empty. get_set_same st.world.calls n (hear c told.Silent) c there;
    came = λ b lane packet rest p w at queue is. absurd (let e : None ≡ Some packet = sym none ∙ waits brick b lane (packet ∷ rest) (same_receive brick b wants w) at queue in cc);
  })

  came_turn : (brick : BrickNo) (number : ℕ) (bytes : List ℕ) → next_of c ≡ next.Receive brick → first_waiting st brick.0 ≡ Some number → SpellsPacket bytes (slice_get st.world.packets number) → Told_as (told.Came (decode_of bytes)) (turn_to st n (next_of c))
  came_turn brick number bytes wants first spells = turn_cases (Told_as (told.Came (decode_of bytes))) st n c sound.lanes asking there (record {
    ended = λ w. other (next.Receive brick) next.Ended wants w (λ e. cc);
    unsent = λ b w at. other (next.Receive brick) (next.Send b) wants w (λ e. cc);
    dropped = λ b lane w at drops. other (next.Receive brick) (next.Send b) wants w (λ e. cc);
    answered = λ b lane h frame w at undropped now gives. other (next.Receive brick) (next.Send b) wants w (λ e. cc);
    laneless = λ b w at. absurd (
        let none : first_waiting st brick.0 ≡ None = ap (λ (x : BrickNo). first_waiting st x.0) (same_receive brick b wants w) ∙ ap (option_and_then (λ (l : LaneState). slice_get l.queue 0)) at in
        let e : None ≡ Some number = sym none ∙ first in cc);
    silent = λ b lane w at empty. absurd (let e : None ≡ Some number = sym (waits brick b lane [] (same_receive brick b wants w) at empty) ∙ first in cc);
    came = λ b lane packet rest p w at queue is.
        (let one : Some number ≡ Some packet = sym first ∙ waits brick b lane (packet ∷ rest) (same_receive brick b wants w) at queue in
        let same : number ≡ packet = cc in
        let found : slice_get st.world.packets number ≡ Some p = ap (slice_get st.world.packets) same ∙ is in
        let spelled : SpellsPacket bytes (Some p) = subst (SpellsPacket bytes) found spells in
        get_set_same st.world.calls n (hear c (told.Came (Some p.frame))) c there ∙ ap (λ (f : Option Frame). Some (hear c (told.Came f))) (sym spelled.1));
  })

  turned_is : (turned old).lanes ≡ turn_to st n (next_of c)
  turned_is = ap (turned_by st) active ∙ ap (turn_of st n) there

  told_so : (t : Told) (new : LaneLink) → new ≡ turned old → Told_as t (turn_to st n (next_of c)) → ToldBy old n c t new
  told_so t new is hears = record { turn = is; hears = ap (λ (l : LaneLink). slice_get l.lanes.world.calls n) is ∙ ap (λ (v : LanesState). slice_get v.world.calls n) turned_is ∙ hears }

  link_tells : (e : StubEvent) (new : LaneLink) → IsTrue (fits (next_of c) (told_of e)) → Made LaneLinkMakes old (call_of ask (next_of c) e) new → ToldBy old n c (told_of e) new
  link_tells e new fit made = go (next_of c) refl e fit made where
    sending : (brick : BrickNo) → next_of c ≡ next.Send brick → wants_to_send old brick ask ≡ true
    sending brick wants = wants_sent old n c brick (record { active = active; there = there; wants = wants })

    hearing : (brick : BrickNo) → next_of c ≡ next.Receive brick → wants_to_hear old brick ≡ true
    hearing brick wants = wants_heard old n c brick (record { active = active; there = there; wants = wants })

    sends : (brick : BrickNo) → next_of c ≡ next.Send brick → after_send old brick ask ≡ turned old
    sends brick wants = ap (λ (b : Bool). if b then turned old else unwanted old brick) (sending brick wants)

    receives : (brick : BrickNo) → next_of c ≡ next.Receive brick → after_receive old brick ≡ turned old
    receives brick wants = ap (λ (b : Bool). if b then turned old else unwanted old brick) (hearing brick wants)

    lane_is : (brick : BrickNo) (b : Bool) → next_of c ≡ next.Send brick → takes_send old brick ask ≡ b → is_some (lane_at st.lanes brick.0) ≡ b
    lane_is brick b wants takes = sym (ap (λ (w : Bool). w && is_some (lane_at st.lanes brick.0)) (sending brick wants)) ∙ takes

    waiting_is : (brick : BrickNo) (o : Option ℕ) → next_of c ≡ next.Receive brick → heard_next old brick ≡ o → first_waiting st brick.0 ≡ o
    waiting_is brick o wants heard = sym (ap (λ (w : Bool). if w then first_waiting st brick.0 else None) (hearing brick wants)) ∙ heard

    go : (x : StubNext) → next_of c ≡ x → (e : StubEvent) → IsTrue (fits x (told_of e)) → Made LaneLinkMakes old (call_of ask x e) new → ToldBy old n c (told_of e) new
    go (next.Send brick) wants event.Sent fit made =
        told_so told.Sent new (sym made.2 ∙ made.1.1 ∙ sends brick wants) (sent_turn brick wants (lane_is brick true wants made.1.0))
    go (next.Send brick) wants (event.Frame came) fit made = absurd (let e : false ≡ true = fit in cc)
    go (next.Send brick) wants event.Silent fit made =
        told_so told.Silent new (sym made.2 ∙ made.1.1 ∙ sends brick wants) (unsent_turn brick wants (lane_is brick false wants made.1.0))
    go (next.Receive brick) wants event.Sent fit made = absurd (let e : false ≡ true = fit in cc)
    go (next.Receive brick) wants (event.Frame came) fit made =
        told_so (told.Came (decode_of came)) new (sym made.2 ∙ made.1.3 ∙ receives brick wants) (came_turn brick made.1.0 came wants (waiting_is brick (Some made.1.0) wants made.1.1) made.1.2)
    go (next.Receive brick) wants event.Silent fit made =
        told_so told.Silent new (sym made.2 ∙ made.1.1 ∙ receives brick wants) (silent_turn brick wants (waiting_is brick None wants made.1.0))
    go next.Ended wants e fit made = absurd (let t : false ≡ true = fit in cc)

  -- the link went on by a turn of the call, which is what a way holds now
  turns_twin : (t : Told) (new : LaneLink) (after : SessionWay) → ToldBy old n c t new → call_held after ≡ Some (hear c t) → TurnsTwin n old new after
  turns_twin t new after tells held =
      let step : turned old ≡ record old { lanes = after_step st (TakesTurn n) } = ap (λ (a : Option ℕ). record old { lanes = turned_by st a }) active in
      let is : new ≡ record old { lanes = after_step st (TakesTurn n) } = tells.turn ∙ step in
      record {
        turn = is;
        twin = record { held = hear c t; holds = held; there = tells.hears };
        sound = subst (λ (l : LaneLink). LanesAreSound l.lanes) (sym is) (step_keeps st (TakesTurn n) sound);
      }

twin_there : (lanes : LanesState) (n : ℕ) (way : SessionWay) (c : Call) → IsTwin lanes n way → call_held way ≡ Some c → slice_get lanes.world.calls n ≡ Some c
twin_there lanes n way c twin is = twin.there ∙ sym twin.holds ∙ is

reads_turn : (old new : LaneLink) (n : ℕ) (r : ReadState) (after : SessionWay) → LanesAreSound old.lanes → old.active ≡ Some n → IsTwin old.lanes n (Reading r) → StepsOutside LaneLinkMakes (Reading r) old after new → TurnsTwin n old new after
reads_turn old new n r after sound active twin steps =
    let s : Steps read_machine LaneLinkMakes (encode_of (read_ask r)) r old steps.0 new = steps.2 in
    let there : slice_get old.lanes.world.calls n ≡ Some (call.Read r) = twin_there old.lanes n (Reading r) (call.Read r) twin refl in
    let held : call_held after ≡ Some (call.Read (hear_read r (told_of s.event))) = ap call_held steps.1 ∙ ap (λ (a : ReadState). Some (call.Read a)) s.hears in
    turns_twin old n (call.Read r) sound active there (told_of s.event) new after (link_tells old n (call.Read r) sound active there s.event new s.fitting s.made) held

writes_turn : (old new : LaneLink) (n : ℕ) (here end : WriteState) (after : SessionWay) → LanesAreSound old.lanes → old.active ≡ Some n → slice_get old.lanes.world.calls n ≡ Some (call.Write here) → call_held after ≡ Some (call.Write end) → Steps write_machine LaneLinkMakes (encode_of here.ask) here old end new → TurnsTwin n old new after
writes_turn old new n here end after sound active there held s =
    turns_twin old n (call.Write here) sound active there (told_of s.event) new after (link_tells old n (call.Write here) sound active there s.event new s.fitting s.made) (held ∙ ap (λ (a : WriteState). Some (call.Write a)) s.hears)

pub step_turns : (old new : LaneLink) (n : ℕ) (way after : SessionWay) → LanesAreSound old.lanes → old.active ≡ Some n → IsTwin old.lanes n way → StepsOutside LaneLinkMakes way old after new → TurnsTwin n old new after
step_turns old new n Resting after sound active twin steps = absurd steps
step_turns old new n (Reading r) after sound active twin steps = reads_turn old new n r after sound active twin steps
step_turns old new n (Ordered order) after sound active twin steps = absurd steps
step_turns old new n (Writing w) after sound active twin steps = writes_turn old new n w.write steps.0 after sound active (twin_there old.lanes n (Writing w) (call.Write w.write) twin refl) (ap call_held steps.1) steps.2
step_turns old new n (Settling w) after sound active twin steps = writes_turn old new n w.write steps.0 after sound active (twin_there old.lanes n (Settling w) (call.Write w.write) twin refl) (ap call_held steps.1) steps.2
step_turns old new n (Holding passes) after sound active twin steps = absurd steps
