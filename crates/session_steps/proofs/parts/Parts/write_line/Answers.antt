use Rattle.std.proofs.Common.{◌≡◌, ◌≤◌, ◌∙◌, refl, ap, sym, subst, true, ℕ, List, length, map, Option, Some}
use Rattle.std.specs.Prelude.{slice_get}
use Rattle.scenario_text.specs.Answer.{KeepsRefused, answer_of}
use Rattle.send_windows.specs.Facts.{open_count}
use Rattle.send_windows.specs.Passes.{hushed}
use Rattle.send_windows.specs.Windows.{KeepLimits, AreTaken, chosen, taken}
use Rattle.send_windows.specs.declared.pass.Pass.{Pass}
use Rattle.ssm_stub.specs.Writes.{WriteState, heard_passes}
use Rattle.ssm_world.specs.declared.call.Call.TheVariants as call
use Rattle.ssm_world.specs.Worlds.{is_new, IsMade}
use Rattle.session_lanes.specs.Sound.{LanesAreOf}
use Rattle.session_steps.specs.Kept.{HasSoundStore}
use Rattle.session_steps.specs.Sessions.{SessionsState, nonce, drawn, with_store, session_key, expiry, store_written, told_write, write_line}
use Rattle.session_lanes.specs.Lanes.{LanesState, spent_as, written_out}
use Rattle.session_steps.proofs.SettledWrites.{WriteEnds, settled_write, never_written}
use Rattle.session_steps.proofs.parts.Parts.write_line.Goals as goal

-- what the line answers, and that it is not refused
ends_so : (c : goal.In_ok-answer-in-Ok) → (answer_of c.in_ok-answer-in-Ok.answer c.tell_write.new.self ≡ write_line c.args.self.now c.args.key c.args.value) × KeepsRefused c.in_ok-answer-in-Ok.answer c.args.self.now c.tell_write.new.self
ends_so c =
    let s : SessionsState = record { moment = c.self.inside.moment; boot = c.self.inside.boot; serial = c.self.inside.serial; key = c.self.inside.key.items; cookies = c.self.inside.cookies.items; store = c.self.inside.store } in
    let st : LanesState = c.in-Some.store in
    let whole : s ≡ c.args.self.now = c.self.view_is in
    let lent : st ≡ c.in-Some.store = refl in
    let store : s.store ≡ Some st = c.in-Some.is ∙ ap (λ (x : LanesState). Some x) (sym lent) in
    let nonce_is : c.nonce.result ≡ nonce s = c.nonce.ensures ∙ ap nonce (sym whole) in
    let new : is_new st.world (nonce s) ≡ true = ap (is_new st.world) (sym nonce_is) ∙ (sym c.is_new.ensures ∙ c.if-not-is_new.false) in
    let limits : KeepLimits st.windows = subst (λ (x : LanesState). KeepLimits x.windows) (sym lent) c.keeps_limits.ensures in
    let L : Option LanesState → Type 0 = λ o. HasSoundStore o in
    let sound : IsMade st.world × LanesAreOf st = subst L store (subst (λ (t : SessionsState). L t.store) (sym whole) c.requires.store) in
    let passes : List Pass = chosen st.windows s.serial in
    let passes_are : c.in-Ok.passes ≡ passes = c.in-Ok.ensures.passes ∙ ap (λ (x : LanesState). chosen x.windows s.serial) (sym lent) in
    let took0 : c.take.new.self ≡ record (c.in-Some.store) { windows = taken c.in-Some.store.windows (chosen c.in-Some.store.windows s.serial) } = c.in-Ok.ensures.after in
    let took : c.take.new.self ≡ record st { windows = taken st.windows passes } = took0 ∙ ap (λ (x : LanesState). record x { windows = taken x.windows (chosen x.windows s.serial) }) (sym lent) in
    let enough : st.windows.wq ≤ open_count st.windows.facts = subst (λ (x : LanesState). x.windows.wq ≤ open_count x.windows.facts) (sym lent) c.in-Ok.ensures.enough in
    let took_ok : AreTaken st.windows.wq st.windows.w passes = subst (λ (ps : List Pass). AreTaken st.windows.wq st.windows.w ps) passes_are (subst (λ (x : LanesState). AreTaken x.windows.wq x.windows.w c.in-Ok.passes) (sym lent) c.in-Ok.ensures.lawful) in
    let key_is : c.session_key.result ≡ session_key c.args.key = c.session_key.ensures in
    let value_is : c.from_vec.result ≡ c.args.value = c.from_vec.ensures ∙ c.into_vec.ensures.value in
    let expiry_is : c.expiry.result ≡ expiry s = c.expiry.ensures ∙ ap expiry (sym whole) in
    let gone : LanesState = store_written s c.args.key c.args.value passes st in
    let went : LanesState = written_out c.take.new.self c.nonce.result c.session_key.result c.from_vec.result c.expiry.result c.in-Ok.passes in
    let gone_is : went ≡ gone = λ l. written_out (took l) (nonce_is l) (key_is l) (value_is l) (expiry_is l) (passes_are l) in
    let calls : length c.take.new.self.world.calls ≡ length st.world.calls = ap (λ (x : LanesState). length x.world.calls) took in
    let Settles : LanesState → ℕ → List Pass → Type 0 = λ g n ps. (write : WriteState) → slice_get g.world.calls n ≡ Some (call.Write write) → c.write_and_settle.new.lanes ≡ spent_as g (map hushed (heard_passes write ps)) in
    let settles0 : Settles went (length c.take.new.self.world.calls) c.in-Ok.passes = c.in_ok-call-in-Ok.ensures.store in
    let settles : Settles gone (length st.world.calls) passes = subst (Settles gone (length st.world.calls)) passes_are (subst (λ n. Settles gone n c.in-Ok.passes) calls (subst (λ g. Settles g (length c.take.new.self.world.calls) c.in-Ok.passes) gone_is settles0)) in
    let ends : WriteEnds s c.args.key c.args.value c.write_and_settle.new.lanes (length st.world.calls) = settled_write s c.args.key c.args.value st c.write_and_settle.new.lanes sound.0 limits took_ok sound.1 store new enough settles in
    let drawn_is : c.draw-in-Ok.new.self ≡ with_store (drawn s) c.write_and_settle.new.lanes = c.draw-in-Ok.ensures in
    let called : c.in_ok-call-in-Ok.call ≡ length c.take.new.self.world.calls = c.in_ok-call-in-Ok.ensures.call in
    let answered : answer_of c.in_ok-answer-in-Ok.answer c.tell_write.new.self ≡ told_write c.draw-in-Ok.new.self c.args.key ends.write =
    c.in_ok-answer-in-Ok.ensures c.write_and_settle.new.lanes ends.write (ap (λ (t : SessionsState). t.store) drawn_is) (ap (slice_get c.write_and_settle.new.lanes.world.calls) (called ∙ calls) ∙ ends.there) in
    let told : answer_of c.in_ok-answer-in-Ok.answer c.tell_write.new.self ≡ told_write (with_store (drawn s) c.write_and_settle.new.lanes) c.args.key ends.write =
    answered ∙ ap (λ (t : SessionsState). told_write t c.args.key ends.write) drawn_is in (
      told ∙ (ends.told ∙ ap (λ (t : SessionsState). write_line t c.args.key c.args.value) whole),
      never_written s c.args.key c.args.value c.write_and_settle.new.lanes (length st.world.calls) ends c.in_ok-answer-in-Ok.answer c.args.self.now c.tell_write.new.self (told ∙ ends.told),
    )

pub returns-clause-answer : goal.returns-clause-answer
returns-clause-answer c = (ends_so c).0

pub returns-clause-refused : goal.returns-clause-refused
returns-clause-refused c = (ends_so c).1
