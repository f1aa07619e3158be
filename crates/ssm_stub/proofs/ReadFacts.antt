-- The answer of a read is that of its holders, each heard by the calls that are about it.
use Rattle.std.proofs.Common.{◌≡◌, ◌∙◌, ap, sym, refl, subst, ℕ, List, [], ◌∷◌, map, Option, Some, slice_get, Result}
use Rattle.crash_base.specs.declared.numbers.BrickNo.{BrickNo}
use Rattle.crash_base.specs.declared.numbers.Moment.{Moment}
use Rattle.crash_base.specs.declared.numbers.Version.{Version}
use Rattle.outside.specs.declared.link.LinkEvent.{LinkEvent}
use Rattle.outside.specs.Link.{Made}
use Rattle.session_cookie.specs.declared.cookie.Cookie.{Cookie}
use Rattle.session_cookie.specs.declared.cookie.Holder.{Holder}
use Rattle.ssm_frames.specs.declared.frame.Frame.{Frame}
use Rattle.ssm_frames.specs.Spelling.{encode_of}
use Rattle.ssm_stub.specs.declared.ear.Stage.TheVariants.{Unasked}
use Rattle.ssm_stub.specs.declared.ear.Ear.TheVariants.{Open}
use Rattle.ssm_stub.specs.declared.event.Told.{Told}
use Rattle.ssm_stub.specs.declared.ask.Ask.{Ask}
use Rattle.ssm_stub.specs.declared.reply.ReadReply.{ReadReply}
use Rattle.ssm_stub.specs.declared.read_call.ReadRefusal.{ReadRefusal}
use Rattle.ssm_stub.specs.Runs.{told_of, calls, after, Fits}
use Rattle.ssm_stub.specs.Reads.{ReadState, get_lawful, read_answer_of, read_start, read_ask, read_answer, turn_of_read, read_machine, hear_read}
use Rattle.ssm_stub.specs.Hearing.{AllDiffer, all_about, ear_machine, told_to}
use Rattle.ssm_stub.specs.Turns.{none_asked}
use Rattle.ssm_stub.specs.Ends.{ReadEnds}
use Rattle.ssm_stub.proofs.OwnEvents.{read_asking}
use Rattle.ssm_stub.proofs.LinkTelling.{calls_tell}
use Rattle.ssm_stub.proofs.ByEvents.{ask_by, Heard, heard_by_events}
use Rattle.ssm_stub.proofs.ReadOrder.{InOrder, run_in_order, started_in_order}

-- a read keeps all but what was heard
read_stays : (events : List Told) (s : ReadState) → after read_machine s events ≡ record s { asks = (after read_machine s events).asks }
read_stays [] s = refl
read_stays (told ∷ events) s = read_stays events (hear_read s told)

-- the lawful replies of a holder in a read
abbrev pub lawful_of : Version → Cookie → Holder → Frame → Option ReadReply
lawful_of nonce cookie = get_lawful nonce cookie.key cookie.version cookie.expiry

-- a holder that was asked with what these calls lead to
abbrev pub holder_ask : Version → Cookie → List LinkEvent → Holder → Ask Holder ReadReply
holder_ask nonce cookie made_calls = ask_by (λ (h : Holder). h.brick) (lawful_of nonce cookie) (λ b. all_about b made_calls)

-- The calls of the link in a read, and the answer over what they tell.
pub record ReadFacts {L : Type 0} (makes : L → LinkEvent → L → Type 0) (now : Moment) (nonce : Version) (cookie : Cookie) (old new : L) (answer : Result (List ℕ) ReadRefusal) : Type 0 where
  pub calls_made : List LinkEvent
  pub made : Made makes old calls_made new
  pub answers : read_answer_of now cookie.expiry (map (holder_ask nonce cookie calls_made) cookie.bricks) ≡ Some answer
  pub in_order : InOrder (map (holder_ask nonce cookie calls_made) cookie.bricks)
  pub fitting : (i : ℕ) (h : Holder) → slice_get cookie.bricks i ≡ Some h → Fits (ear_machine h.brick (lawful_of nonce cookie h)) (Open Unasked) (all_about h.brick calls_made)

pub read_facts : {L : Type 0} (makes : L → LinkEvent → L → Type 0) (now : Moment) (nonce : Version) (cookie : Cookie) (old new : L) (answer : Result (List ℕ) ReadRefusal) → AllDiffer (map (λ (h : Holder). h.brick.0) cookie.bricks) → ReadEnds makes (read_start now nonce cookie) old new answer → ReadFacts makes now nonce cookie old new answer
read_facts makes now nonce cookie old new answer differ ends =
    let start = read_start now nonce cookie in
    let ask = encode_of (read_ask start) in
    let told = map told_of ends.events in
    let made_calls = calls read_machine ask start ends.events in
    let about : BrickNo → List Told = λ b. all_about b made_calls in
    let tells : (b : BrickNo) → told_to read_machine start told b ≡ about b = λ b. sym (calls_tell read_machine ask b ends.events start ends.ran.fitting) in
    let heard : Heard (λ (h : Holder). h.brick) (lawful_of nonce cookie) about cookie.bricks (after read_machine start told).asks =
    heard_by_events read_machine (λ (s : ReadState). s.asks) (λ (h : Holder). h.brick) (λ (s : ReadState). get_lawful s.nonce s.key s.version s.expiry) turn_of_read read_asking told start cookie.bricks about tells refl differ ends.ran.fitting in
    record {
      calls_made = made_calls;
      made = ends.ran.made;
      answers = ap (read_answer_of now cookie.expiry) (sym heard.are) ∙ (sym (ap read_answer (ends.ran.ends ∙ read_stays told start)) ∙ ends.answers);
      in_order = subst InOrder heard.are (run_in_order told start ends.ran.fitting (started_in_order cookie.bricks));
      fitting = heard.fitting;
    }

-- these are the calls of its run
pub read_facts-calls : {L : Type 0} (makes : L → LinkEvent → L → Type 0) (now : Moment) (nonce : Version) (cookie : Cookie) (old new : L) (answer : Result (List ℕ) ReadRefusal) (differ : AllDiffer (map (λ (h : Holder). h.brick.0) cookie.bricks)) (ends : ReadEnds makes (read_start now nonce cookie) old new answer) → (read_facts makes now nonce cookie old new answer differ ends).calls_made ≡ calls read_machine (encode_of (read_ask (read_start now nonce cookie))) (read_start now nonce cookie) ends.events
unfolding read_facts
read_facts-calls makes now nonce cookie old new answer differ ends = refl

-- the same of a run alone: the answer over what each holder's brick is told
pub record ReadTold (events : List Told) (holders : List Holder) (s : ReadState) (answer : Result (List ℕ) ReadRefusal) : Type 0 where
  pub answers : read_answer_of s.moment s.expiry (map (ask_by (λ (h : Holder). h.brick) (get_lawful s.nonce s.key s.version s.expiry) (told_to read_machine s events)) holders) ≡ Some answer
  pub in_order : InOrder (map (ask_by (λ (h : Holder). h.brick) (get_lawful s.nonce s.key s.version s.expiry) (told_to read_machine s events)) holders)
  pub fitting : (i : ℕ) (h : Holder) → slice_get holders i ≡ Some h → Fits (ear_machine h.brick (get_lawful s.nonce s.key s.version s.expiry h)) (Open Unasked) (told_to read_machine s events h.brick)

pub read_told : (events : List Told) (holders : List Holder) (s : ReadState) (answer : Result (List ℕ) ReadRefusal) → s.asks ≡ none_asked holders → AllDiffer (map (λ (h : Holder). h.brick.0) holders) → Fits read_machine s events → read_answer (after read_machine s events) ≡ Some answer → ReadTold events holders s answer
read_told events holders s answer begins differ fitting answers =
    let heard : Heard (λ (h : Holder). h.brick) (get_lawful s.nonce s.key s.version s.expiry) (told_to read_machine s events) holders (after read_machine s events).asks =
    heard_by_events read_machine (λ (t : ReadState). t.asks) (λ (h : Holder). h.brick) (λ (t : ReadState). get_lawful t.nonce t.key t.version t.expiry) turn_of_read read_asking events s holders (told_to read_machine s events) (λ b. refl) begins differ fitting in
    record {
      answers = ap (read_answer_of s.moment s.expiry) (sym heard.are) ∙ (sym (ap read_answer (read_stays events s)) ∙ answers);
      in_order = subst InOrder heard.are (run_in_order events s fitting (subst InOrder (sym begins) (started_in_order holders)));
      fitting = heard.fitting;
    }
