use Rattle.std.proofs.Common.{◌≡◌, ◌∙◌, ap, sym, subst, true, length, All, Option, Some}
use Rattle.std.specs.Prelude.{slice_get}
use Rattle.crash_base.specs.declared.numbers.Version.{Version}
use Rattle.session_cookie.specs.Cookie.{AreHolders}
use Rattle.session_cookie.specs.declared.cookie.Cookie.{Cookie}
use Rattle.scenario_text.specs.Answer.{KeepsRefused, answer_of}
use Rattle.ssm_world.specs.Worlds.{is_new, IsMade}
use Rattle.session_lanes.specs.Sound.{LanesAreOf}
use Rattle.session_steps.specs.Kept.{HasHolders, HasSoundStore}
use Rattle.session_steps.specs.Sessions.{SessionsState, nonce, drawn, with_store, cookie_of, told_read, fetch_line}
use Rattle.session_lanes.specs.Lanes.{LanesState, read_out}
use Rattle.session_steps.proofs.KeptCookies.{cookie_holders}
use Rattle.session_steps.proofs.Settled.{FetchEnds, fetch_ends, never_refused}
use Rattle.session_steps.proofs.parts.Parts.fetch_line.Goals as goal

-- what the line answers, and that it is not refused
ends_so : (c : goal.In_ok-answer) → (answer_of c.in_ok-answer.answer c.tell_read.new.self ≡ fetch_line c.args.self.now c.args.key) × KeepsRefused c.in_ok-answer.answer c.args.self.now c.tell_read.new.self
ends_so c =
    let s : SessionsState = record { moment = c.self.inside.moment; boot = c.self.inside.boot; serial = c.self.inside.serial; key = c.self.inside.key.items; cookies = c.self.inside.cookies.items; store = c.self.inside.store } in
    let st : LanesState = c.in-Some-store.store in
    let whole : s ≡ c.args.self.now = c.self.view_is in
    let store : s.store ≡ Some st = c.in-Some-store.is in
    let cookie : Cookie = c.in_ok-cookie.cookie in
    let has : cookie_of s c.args.key ≡ Some cookie = ap (λ (t : SessionsState). cookie_of t c.args.key) whole ∙ (sym c.in-Some.ensures ∙ ap (λ (x : Cookie). Some x) (sym c.in_ok-cookie.ensures)) in
    let nonce_is : c.nonce-nonce.result ≡ nonce s = c.nonce-nonce.ensures ∙ ap nonce (sym whole) in
    let new : is_new st.world (nonce s) ≡ true = ap (is_new st.world) (sym nonce_is) ∙ (sym c.is_new.ensures ∙ c.if-not-is_new.false) in
    let L : Option LanesState → Type 0 = λ o. HasSoundStore o in
    let sound : IsMade st.world × LanesAreOf st = subst L store (subst (λ (t : SessionsState). L t.store) (sym whole) c.requires.store) in
    let holders : AreHolders cookie.bricks = cookie_holders s c.args.key cookie (subst (λ (t : SessionsState). All HasHolders t.cookies) (sym whole) c.requires.cookies) has in
    let v : LanesState = read_out st (nonce s) s.moment cookie in
    let ends : FetchEnds s c.args.key v (length st.world.calls) = fetch_ends s c.args.key cookie st sound.0 sound.1 has store holders new in
    let drawn_is : c.draw.new.self ≡ with_store (drawn s) c.read_out.new.self = c.draw.ensures in
    let read_by : c.read_out.new.self ≡ read_out c.in-Some-store.store c.nonce-nonce.result s.moment cookie = c.in_ok-call.ensures.lanes in
    let read_is : c.read_out.new.self ≡ v = read_by ∙ ap (λ (n : Version). read_out st n s.moment cookie) nonce_is in
    let called : c.in_ok-call.call ≡ length c.in-Some-store.store.world.calls = c.in_ok-call.ensures.call in
    let number : c.in_ok-call.call ≡ length st.world.calls = called in
    let later_is : c.draw.new.self ≡ with_store (drawn s) v = drawn_is ∙ ap (with_store (drawn s)) read_is in
    let answered : answer_of c.in_ok-answer.answer c.tell_read.new.self ≡ told_read c.draw.new.self c.args.key ends.read =
    c.in_ok-answer.ensures v ends.read (ap (λ (t : SessionsState). t.store) later_is) (ap (slice_get v.world.calls) number ∙ ends.there) in
    let told : answer_of c.in_ok-answer.answer c.tell_read.new.self ≡ told_read (with_store (drawn s) v) c.args.key ends.read = answered ∙ ap (λ (t : SessionsState). told_read t c.args.key ends.read) later_is in (
      told ∙ (ends.told ∙ ap (λ (t : SessionsState). fetch_line t c.args.key) whole),
      never_refused c.in_ok-answer.answer c.args.self.now c.tell_read.new.self _ _ (told ∙ (ends.told ∙ ends.done)),
    )

pub returns-clause-answer : goal.returns-clause-answer
returns-clause-answer c = (ends_so c).0

pub returns-clause-refused : goal.returns-clause-refused
returns-clause-refused c = (ends_so c).1
