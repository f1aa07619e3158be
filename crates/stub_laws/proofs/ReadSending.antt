-- What a read sends.
use Rattle.std.proofs.Common.{◌≡◌, ◌∙◌, ap, sym, refl, subst, ℕ, IsTrue, All, List, [], ◌∷◌, ◌++◌, map, Option, Some, None, Result, slice_set, append-nil, append_assoc}
use Rattle.std.specs.List.{cons_option}
use Rattle.std.proofs.lemmas.List.{map-append, append_cancel_right}
use Rattle.std.proofs.lemmas.List.Elements.{All-head, All-tail}
use Rattle.crash_base.specs.declared.numbers.BrickNo.{BrickNo}
use Rattle.crash_base.specs.declared.numbers.Moment.{Moment}
use Rattle.crash_base.specs.declared.numbers.Version.{Version}
use Rattle.outside.specs.declared.link.LinkEvent.{LinkEvent}
use Rattle.session_cookie.specs.declared.cookie.Cookie.{Cookie}
use Rattle.session_cookie.specs.declared.cookie.Holder.{Holder}
use Rattle.ssm_frames.specs.declared.frame.Frame.{Frame}
use Rattle.ssm_stub.specs.declared.cause.BrickCause.{BrickCause}
use Rattle.ssm_stub.specs.declared.cause.Cause.{Cause}
use Rattle.ssm_stub.specs.declared.cause.Cause.TheVariants as cause
use Rattle.ssm_stub.specs.declared.ear.Outcome.{Outcome}
use Rattle.ssm_stub.specs.declared.ear.Outcome.TheVariants.{Answered, Silent, Strayed}
use Rattle.ssm_stub.specs.declared.ear.Ear.TheVariants.{Open, Heard}
use Rattle.ssm_stub.specs.declared.event.StubEvent.{StubEvent}
use Rattle.ssm_stub.specs.declared.event.StubNext.{StubNext}
use Rattle.ssm_stub.specs.declared.event.StubNext.TheVariants.{Send, Receive, Ended}
use Rattle.ssm_stub.specs.declared.event.Told.{Told}
use Rattle.ssm_stub.specs.declared.ask.Ask.{Ask}
use Rattle.ssm_stub.specs.declared.ask.Turn.{Turn}
use Rattle.ssm_stub.specs.declared.reply.ReadReply.{ReadReply}
use Rattle.ssm_stub.specs.declared.reply.ReadReply.TheVariants.{Found, Crashed, Swept}
use Rattle.ssm_stub.specs.declared.read_call.ReadRefusal.{ReadRefusal}
use Rattle.ssm_stub.specs.Ears.{ear_after}
use Rattle.ssm_stub.specs.Turns.{is_open, turn_in_order, wanted}
use Rattle.ssm_stub.specs.Runs.{told_of, fits, Fits, calls, after}
use Rattle.ssm_stub.specs.Reads.{ReadState, get_lawful, read_start, read_answer, turn_unless, turn_of_read, read_machine}
use Rattle.ssm_stub.specs.Hearing.{AllDiffer, EndsIn, all_about, told_to}
use Rattle.ssm_stub.specs.Outcomes.{IsGetCause, HaveCauses}
use Rattle.ssm_stub.proofs.OwnEvents.{read_asking}
use Rattle.ssm_stub.proofs.ByEvents.{Heard as HeardByEvents, heard_by_events}
use Rattle.ssm_stub.proofs.HearingEnds.{so_heard}
use Rattle.ssm_stub.proofs.LinkTelling.{calls_tell}
use Rattle.ssm_stub.proofs.Places.{turn_of_read-stands}
use Rattle.ssm_stub.proofs.ReadFacts.{lawful_of, holder_ask}
use Rattle.stub_laws.specs.Sends.{SentFrame, sends_in, each_sent, bricks_of_holders}
use Rattle.ssm_stub.proofs.Unasked.{unasked_by, unasked_in, first_goes, first_open, heard_none, all_unasked}
use Rattle.stub_laws.proofs.Sending.{AsksFirst, sent_and_left}

-- the bricks of a read that were not asked
abbrev pub left_of : List (Ask Holder ReadReply) → List BrickNo
left_of asks = unasked_in (λ (h : Holder). h.brick) asks

turn_while : (answer : Option (Result (List ℕ) ReadRefusal)) (turn : Option (Turn Holder)) (t : Turn Holder) → turn_unless answer turn ≡ Some t → turn ≡ Some t
turn_while (Some answer) turn t h = absurd cc
turn_while None turn t h = h

read_first : AsksFirst (λ (s : ReadState). s.asks) (λ (h : Holder). h.brick) turn_of_read
read_first = λ s t y turn fresh none.
    let h : Ask Holder ReadReply → Option BrickNo = λ a. unasked_by a.who.brick a.ear in
    let x : Ask Holder ReadReply = record { who = t.who; ear = Open t.stage } in
    first_goes is_open h (λ a apart. heard_none a.who.brick a.who a.ear apart) s.asks t.at x y (first_open s.asks t (turn_while (read_answer s) (turn_in_order s.asks) t turn)) (turn_of_read-stands s t turn) none
    ∙ ap (λ stage. cons_option (unasked_by {A = ReadReply} t.who.brick (Open stage)) (left_of (slice_set s.asks t.at y))) fresh

-- what a read sent, and then what is left to be sent
pub read_sent : (ask : List ℕ) (events : List StubEvent) (s : ReadState) → Fits read_machine s (map told_of events) → sends_in (calls read_machine ask s events) ++ each_sent ask (left_of (after read_machine s (map told_of events)).asks) ≡ each_sent ask (left_of s.asks)
read_sent ask events s fitting = sent_and_left read_machine (λ (s : ReadState). s.asks) (λ (h : Holder). h.brick) (λ (s : ReadState). get_lawful s.nonce s.key s.version s.expiry) turn_of_read read_asking read_first ask events s fitting

-- one that has a cause was heard
caused_heard : (lawful : Frame → Option ReadReply) (events : List Told) (why : Cause) → IsGetCause lawful events why → (o : Outcome ReadReply) × (ear_after lawful events ≡ Heard o)
caused_heard lawful events cause.Silent h = (Silent, so_heard lawful events Silent h)
caused_heard lawful events cause.Strayed h = (Strayed, so_heard lawful events Strayed h)
caused_heard lawful events (cause.Full entries bytes) h = absurd h
caused_heard lawful events (cause.Crashed incarnation) h = (Answered (Crashed incarnation), so_heard lawful events (Answered (Crashed incarnation)) h)
caused_heard lawful events (cause.Swept moment) h = (Answered (Swept moment), so_heard lawful events (Answered (Swept moment)) h)

module _ (nonce : Version) (cookie : Cookie) (made : List LinkEvent) where
  heard_first : (holder : Holder) (holders : List Holder) (o : Outcome ReadReply) → ear_after (lawful_of nonce cookie holder) (all_about holder.brick made) ≡ Heard o → left_of (map (holder_ask nonce cookie made) (holder ∷ holders)) ≡ left_of (map (holder_ask nonce cookie made) holders)
  heard_first holder holders o is = ap (λ ear. cons_option (unasked_by holder.brick ear) (left_of (map (holder_ask nonce cookie made) holders))) is

  -- of those that have causes none is left
  caused_left : (holders behind : List Holder) (causes : List BrickCause) → HaveCauses (lawful_of nonce cookie) made holders causes → left_of (map (holder_ask nonce cookie made) (holders ++ behind)) ≡ left_of (map (holder_ask nonce cookie made) behind)
  caused_left [] behind [] h = refl
  caused_left [] behind (c ∷ causes) h = absurd h
  caused_left (holder ∷ holders) behind [] h = absurd h
  caused_left (holder ∷ holders) behind (c ∷ causes) (same, why, rest) =
      let heard = caused_heard (lawful_of nonce cookie holder) (all_about holder.brick made) c.cause why in
      heard_first holder (holders ++ behind) heard.0 heard.1 ∙ caused_left holders behind causes rest

  -- those that were told nothing are left
  untold_left : (holders : List Holder) → All (λ (h : Holder). all_about h.brick made ≡ []) holders → left_of (map (holder_ask nonce cookie made) holders) ≡ bricks_of_holders holders
  untold_left [] h = refl
  untold_left (holder ∷ holders) h =
      ap (λ events. cons_option (unasked_by holder.brick (ear_after (lawful_of nonce cookie holder) events)) (left_of (map (holder_ask nonce cookie made) holders))) (All-head (λ (x : Holder). all_about x.brick made ≡ []) holder holders h)
      ∙ ap (λ rest. holder.brick ∷ rest) (untold_left holders (All-tail (λ (x : Holder). all_about x.brick made ≡ []) holder holders h))

module _ (ask : List ℕ) (events : List StubEvent) (now : Moment) (nonce : Version) (cookie : Cookie) (differ : AllDiffer (map (λ (h : Holder). h.brick.0) cookie.bricks)) (fitting : Fits read_machine (read_start now nonce cookie) (map told_of events)) where
  -- in the end each holder was heard by the calls that are about it
  ends_are : (after read_machine (read_start now nonce cookie) (map told_of events)).asks ≡ map (holder_ask nonce cookie (calls read_machine ask (read_start now nonce cookie) events)) cookie.bricks
  ends_are =
      let start = read_start now nonce cookie in
      let told = map told_of events in
      let about : BrickNo → List Told = λ b. all_about b (calls read_machine ask start events) in
      let tells : (b : BrickNo) → told_to read_machine start told b ≡ about b = λ b. sym (calls_tell read_machine ask b events start fitting) in
      let heard : HeardByEvents (λ (h : Holder). h.brick) (lawful_of nonce cookie) about cookie.bricks (after read_machine start told).asks =
      heard_by_events read_machine (λ (s : ReadState). s.asks) (λ (h : Holder). h.brick) (λ (s : ReadState). get_lawful s.nonce s.key s.version s.expiry) turn_of_read read_asking told start cookie.bricks about tells refl differ fitting in
      heard.are

  sent_so_far : sends_in (calls read_machine ask (read_start now nonce cookie) events) ++ each_sent ask (left_of (map (holder_ask nonce cookie (calls read_machine ask (read_start now nonce cookie) events)) cookie.bricks)) ≡ each_sent ask (bricks_of_holders cookie.bricks)
  sent_so_far =
      let start = read_start now nonce cookie in
      let sent = sends_in (calls read_machine ask start events) in
      ap (λ asks. sent ++ each_sent ask (left_of asks)) (sym ends_are)
      ∙ (read_sent ask events start fitting
      ∙ ap (each_sent ask) (all_unasked ReadReply (λ (h : Holder). h.brick) cookie.bricks))

  module _ (made : List LinkEvent) (are : made ≡ calls read_machine ask (read_start now nonce cookie) events) where
    made_so_far : sends_in made ++ each_sent ask (left_of (map (holder_ask nonce cookie made) cookie.bricks)) ≡ each_sent ask (bricks_of_holders cookie.bricks)
    made_so_far =
        let Parts : List LinkEvent → Type 0 = λ cs. sends_in cs ++ each_sent ask (left_of (map (holder_ask nonce cookie cs) cookie.bricks)) ≡ each_sent ask (bricks_of_holders cookie.bricks) in
        subst Parts (sym are) sent_so_far

    -- where each has its cause, each was asked
    pub sent_to_all : (causes : List BrickCause) → HaveCauses (lawful_of nonce cookie) made cookie.bricks causes → sends_in made ≡ each_sent ask (bricks_of_holders cookie.bricks)
    sent_to_all causes h =
        let mk = holder_ask nonce cookie made in
        let none : left_of (map mk cookie.bricks) ≡ [] = sym (ap (λ hs. left_of (map mk hs)) (append-nil cookie.bricks)) ∙ caused_left nonce cookie made cookie.bricks [] causes h in
        sym (append-nil (sends_in made)) ∙ (ap (λ left. sends_in made ++ each_sent ask left) (sym none) ∙ made_so_far)

    -- those before one that gave the value were asked, and it
    pub sent_up_to : (before : List Holder) (holder : Holder) (behind : List Holder) (causes : List BrickCause) (value : List ℕ) → cookie.bricks ≡ before ++ holder ∷ behind
        → HaveCauses (lawful_of nonce cookie) made before causes
        → EndsIn (lawful_of nonce cookie holder) (all_about holder.brick made) (Answered (Found value))
        → All (λ (h : Holder). all_about h.brick made ≡ []) behind
        → sends_in made ≡ each_sent ask (bricks_of_holders (before ++ holder ∷ []))
    sent_up_to before holder behind causes value parts lost found unasked =
        let mk = holder_ask nonce cookie made in
        let sent = sends_in made in
        let to : List Holder → List SentFrame = λ hs. each_sent ask (bricks_of_holders hs) in
        let heard = so_heard (lawful_of nonce cookie holder) (all_about holder.brick made) (Answered (Found value)) found in
        let left : left_of (map mk cookie.bricks) ≡ bricks_of_holders behind =
        ap (λ hs. left_of (map mk hs)) parts
        ∙ (caused_left nonce cookie made before (holder ∷ behind) causes lost
        ∙ (heard_first nonce cookie made holder behind (Answered (Found value)) heard
        ∙ untold_left nonce cookie made behind unasked)) in
        let whole : to cookie.bricks ≡ to (before ++ holder ∷ []) ++ to behind =
        ap to (parts ∙ sym (append_assoc before (holder ∷ []) behind))
        ∙ (ap (each_sent ask) (map-append (λ (h : Holder). h.brick) (before ++ holder ∷ []) behind)
        ∙ map-append (λ (b : BrickNo). record { to = b; frame = ask }) (bricks_of_holders (before ++ holder ∷ [])) (bricks_of_holders behind)) in
        append_cancel_right sent (to (before ++ holder ∷ [])) (to behind) (ap (λ bs. sent ++ each_sent ask bs) (sym left) ∙ (made_so_far ∙ whole))
