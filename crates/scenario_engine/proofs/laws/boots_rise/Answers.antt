use Rattle.std.proofs.Common.{◌≡◌, ℕ, Bool, ◌<◌, ◌≤◌, ◌-◌, ◌^◌, true, false, Some, sym, ◌∙◌, subst, arith}
use Rattle.scenario_text.specs.Answer.{Refused}
use Rattle.scenario_text.specs.declared.session_line.SessionLine.TheVariants as lines
use Rattle.session_steps.specs.Sessions.{SessionsState, nonce, cookie_of, session_line}
use Rattle.session_lanes.specs.Lanes.{LanesState}
use Rattle.ssm_world.specs.Worlds.{is_new}
use Rattle.scenario_engine.specs.Sessions.{session_turns, AreSessionsOf}
use Rattle.scenario_engine.specs.State.{State}
use Rattle.scenario_engine.specs.Transcript.{first}
use Rattle.scenario_engine.proofs.Rising.{rise_where_told}
use Rattle.scenario_engine.proofs.laws.boots_rise.Goals as goal

pub returns-clause-rise : goal.returns-clause-rise
returns-clause-rise c = λ turns t u told.
    rise_where_told turns t u (c.keepers_tell.ensures turns (Some t) (Some u) told)

no_less : (n : ℕ) → n ≤ n
no_less n = omega arith

-- what is new is not had
not_both : (b : Bool) → b ≡ true → b ≡ false → ⊥
not_both b here there = (let clash : true ≡ false = sym here ∙ there in cc)

pub returns-clause-new : goal.returns-clause-new
returns-clause-new c = λ turns t u r st told last store below.
    let rise = rise_where_told turns t u (c.keepers_tell.ensures turns (Some t) (Some u) told) in
    let has = c.scenarios_have_sessions.ensures turns in
    let P : State → Type 0 = λ s. AreSessionsOf s has.setup has.end in
    let same : has.end ≡ r.sessions = subst P last has.ends in
    let Q : SessionsState → Type 0 = λ s. s.store ≡ Some st → s.serial < 2 ^ 64 - 1 → is_new st.world (nonce s) ≡ true in
    subst Q same (λ store below. c.nonces_stay_new.ensures.new has.setup 0 (session_turns first turns) has.end st has.end.serial rise has.stand.lead store below (no_less has.end.serial)) store below

pub returns-clause-writes : goal.returns-clause-writes
returns-clause-writes c = λ turns t u r st key value told last store below refused.
    let has = c.scenarios_have_sessions.ensures turns in
    let P : State → Type 0 = λ s. AreSessionsOf s has.setup has.end in
    let same : has.end ≡ r.sessions = subst P last has.ends in
    let Q : SessionsState → Type 0 = λ s. s.store ≡ Some st → session_line s (lines.Write key value) ≡ Refused → is_new st.world (nonce s) ≡ false in
    let had : is_new st.world (nonce r.sessions) ≡ false = subst Q same (c.writes_with_new_nonces_are_done.ensures.refused has.setup 0 (session_turns first turns) has.end st key value has.counts has.stand.lead) store refused in
    not_both (is_new st.world (nonce r.sessions)) (returns-clause-new c turns t u r st told last store below) had

pub returns-clause-fetches : goal.returns-clause-fetches
returns-clause-fetches c = λ turns t u r key cookie told last there below refused.
    let has = c.scenarios_have_sessions.ensures turns in
    let P : State → Type 0 = λ s. AreSessionsOf s has.setup has.end in
    let same : has.end ≡ r.sessions = subst P last has.ends in
    let Q : SessionsState → Type 0 = λ s. cookie_of s key ≡ Some cookie → session_line s (lines.Fetch key) ≡ Refused → (st : LanesState) × (s.store ≡ Some st) × (is_new st.world (nonce s) ≡ false) in
    let had : (st : LanesState) × (r.sessions.store ≡ Some st) × (is_new st.world (nonce r.sessions) ≡ false) = subst Q same (c.fetches_with_new_nonces_are_done.ensures has.setup 0 (session_turns first turns) has.end key cookie has.stand.lead) there refused in
    not_both (is_new had.0.world (nonce r.sessions)) (returns-clause-new c turns t u r had.0 told last had.1 below) had.2
