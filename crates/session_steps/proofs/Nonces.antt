-- The nonce that is drawn next is new while boots rise.
use Rattle.std.proofs.Common.{◌≡◌, ◌≢◌, ◌⊎◌, inl, inr, ℕ, ◌+◌, ◌-◌, ◌^◌, ◌<◌, ◌≤◌, min, true, List, [], ◌∷◌, Option, Some, None, sym, ap, ◌∙◌, subst, arith}
use Rattle.crash_base.specs.declared.numbers.Version.{Version}
use Rattle.ssm_world.specs.Worlds.{is_new}
use Rattle.session_steps.specs.Promise.{SessionTurn, Does, Boots, Lends, Lead, BootsRise}
use Rattle.session_steps.specs.Sessions.{SessionsState, nonce, drawn, session_line}
use Rattle.scenario_text.specs.Answer.{Done}
use Rattle.scenario_text.specs.Setup.{SetupState}
use Rattle.scenario_text.specs.declared.session_line.SessionLine.{SessionLine}
use Rattle.session_steps.specs.Setup.{store_of, set_up}
use Rattle.session_lanes.specs.Lanes.{LanesState}
use Rattle.scenario_text.specs.declared.setup.BrickCounts.{BrickCounts}
use Rattle.session_steps.proofs.Ended.{Had, new_unhad, unhad_new}
use Rattle.session_steps.proofs.LanesKept.{AreSound, lead_keeps, one_turn_keeps, set_up_sound}
use Rattle.session_steps.proofs.TurnsMade.{HasHad, TurnGoes, turn_goes}

-- a nonce comes before the one that is drawn next, unless no more serials are left
abbrev IsEarlier : Version → SessionsState → Type 0
IsEarlier version s = (version.boot < s.boot) ⊎ ((version.boot ≡ s.boot) × ((version.serial < s.serial) ⊎ (2 ^ 64 - 1 ≤ s.serial)))

-- each nonce that a call has had is so
abbrev AreEarlier : SessionsState → Type 0
AreEarlier s = (version : Version) → HasHad s.store version → IsEarlier version s

drawn_later : (n : ℕ) → (n < min (n + 1) (2 ^ 64 - 1)) ⊎ (2 ^ 64 - 1 ≤ min (n + 1) (2 ^ 64 - 1))
drawn_later n = grind arith

no_less : (a n : ℕ) → a < n → (a < min (n + 1) (2 ^ 64 - 1)) ⊎ (2 ^ 64 - 1 ≤ min (n + 1) (2 ^ 64 - 1))
no_less a n less = grind (arith, less)

last_stays : (n : ℕ) → 2 ^ 64 - 1 ≤ n → 2 ^ 64 - 1 ≤ min (n + 1) (2 ^ 64 - 1)
last_stays n is = grind (arith, is)

-- a nonce that was earlier is so when the next serial is drawn
drawn_earlier : (version : Version) (s t : SessionsState) → t.boot ≡ s.boot → t.serial ≡ (drawn s).serial → IsEarlier version s → IsEarlier version t
drawn_earlier version s t boot serial (inl less) = inl (subst (λ b. version.boot < b) (sym boot) less)
drawn_earlier version s t boot serial (inr (same, inl less)) = inr (same ∙ sym boot, subst (λ n. (version.serial < n) ⊎ (2 ^ 64 - 1 ≤ n)) (sym serial) (no_less version.serial s.serial less))
drawn_earlier version s t boot serial (inr (same, inr last)) = inr (same ∙ sym boot, inr (subst (λ n. 2 ^ 64 - 1 ≤ n) (sym serial) (last_stays s.serial last)))

same_earlier : (version : Version) (s t : SessionsState) → t.boot ≡ s.boot → t.serial ≡ s.serial → IsEarlier version s → IsEarlier version t
same_earlier version s t boot serial (inl less) = inl (subst (λ b. version.boot < b) (sym boot) less)
same_earlier version s t boot serial (inr (same, inl less)) = inr (same ∙ sym boot, inl (subst (λ n. version.serial < n) (sym serial) less))
same_earlier version s t boot serial (inr (same, inr last)) = inr (same ∙ sym boot, inr (subst (λ n. 2 ^ 64 - 1 ≤ n) (sym serial) last))

-- when connections drew more serials
lent_earlier : (version : Version) (s t : SessionsState) (serial : ℕ) → t.boot ≡ s.boot → t.serial ≡ serial → s.serial ≤ serial → IsEarlier version s → IsEarlier version t
lent_earlier version s t serial boot is more (inl less) = inl (subst (λ b. version.boot < b) (sym boot) less)
lent_earlier version s t serial boot is more (inr (same, inl less)) = inr (same ∙ sym boot, inl (omega (arith, is, more, less)))
lent_earlier version s t serial boot is more (inr (same, inr last)) = inr (same ∙ sym boot, inr (omega (arith, is, more, last)))

-- and when a greater boot starts
booted_earlier : (version : Version) (s t : SessionsState) → s.boot < t.boot → IsEarlier version s → IsEarlier version t
booted_earlier version s t rises (inl less) = inl (omega (arith, rises, less))
booted_earlier version s t rises (inr (same, later)) = inl (omega (arith, rises, same))

-- the boot of sessions after a turn, and that it does not fall
abbrev boot_after : ℕ → SessionTurn → ℕ
boot_after boot (Does line text) = boot
boot_after boot (Boots number) = number
boot_after boot (Lends steps serial) = boot

rises_on : (turn : SessionTurn) (turns : List SessionTurn) (boot : ℕ) → BootsRise boot (turn ∷ turns) → BootsRise (boot_after boot turn) turns
rises_on (Does line text) turns boot rises = rises
rises_on (Boots number) turns boot rises = rises.1
rises_on (Lends steps serial) turns boot rises = rises

-- a turn keeps it so
turn_earlier : (s : SessionsState) (turn : SessionTurn) (turns : List SessionTurn) (t : SessionsState) → BootsRise s.boot (turn ∷ turns) → TurnGoes s turn t → AreEarlier s → AreEarlier t × (t.boot ≡ boot_after s.boot turn)
turn_earlier s (Boots number) turns t rises goes earlier = (each, goes.clock)
  where
    greater : s.boot < t.boot
    greater = subst (λ b. s.boot < b) (sym goes.clock) rises.0

    each : AreEarlier t
    each version had = elim (goes.nonces version had) [
      | inl old ↦ booted_earlier version s t greater (earlier version old)
      | inr new ↦ inl (subst (λ (v : Version). v.boot < t.boot) (sym new.0) greater)
    ]
turn_earlier s (Lends steps serial) turns t rises goes earlier = (each, goes.clock.0)
  where
    each : AreEarlier t
    each version had = elim (goes.nonces version had) [
      | inl old ↦ lent_earlier version s t serial goes.clock.0 goes.clock.1 goes.clock.2 (earlier version old)
      | inr new ↦ inr (new.0 ∙ sym goes.clock.0, inl (subst (λ n. version.serial < n) (sym goes.clock.1) new.1))
    ]
turn_earlier s (Does line text) turns t rises goes earlier = (each, goes.clock.0)
  where
    kept : (version : Version) → IsEarlier version s → (t.serial ≡ s.serial) ⊎ (t.serial ≡ (drawn s).serial) → IsEarlier version t
    kept version was (inl same) = same_earlier version s t goes.clock.0 same was
    kept version was (inr drew) = drawn_earlier version s t goes.clock.0 drew was

    fresh : (version : Version) → version ≡ nonce s → t.serial ≡ (drawn s).serial → IsEarlier version t
    fresh version is drew =
        inr (
          ap (λ (v : Version). v.boot) is ∙ sym goes.clock.0,
          subst (λ n. (version.serial < n) ⊎ (2 ^ 64 - 1 ≤ n)) (sym drew) (subst (λ n. (n < min (s.serial + 1) (2 ^ 64 - 1)) ⊎ (2 ^ 64 - 1 ≤ min (s.serial + 1) (2 ^ 64 - 1))) (sym (ap (λ (v : Version). v.serial) is)) (drawn_later s.serial)),
        )

    each : AreEarlier t
    each version had = elim (goes.nonces version had) [
      | inl old ↦ kept version (earlier version old) goes.clock.1
      | inr new ↦ fresh version new.0 new.1
    ]

turns_earlier : (turns : List SessionTurn) (s t : SessionsState) → AreSound s → BootsRise s.boot turns → Lead s turns t → AreEarlier s → AreEarlier t
turns_earlier [] s t sound rises is earlier = subst (λ x. AreEarlier x) (sym is) earlier
turns_earlier (turn ∷ turns) s t sound rises lead earlier =
    let between : SessionsState = lead.0 in
    let goes : TurnGoes s turn between = turn_goes s turn between sound lead.1 in
    let now : AreEarlier between × (between.boot ≡ boot_after s.boot turn) = turn_earlier s turn turns between rises goes earlier in
    turns_earlier turns between t (one_turn_keeps s between turn sound lead.1) (subst (λ b. BootsRise b turns) (sym now.1) (rises_on turn turns s.boot rises)) lead.2 now.0

none_had : (counts : Option BrickCounts) (version : Version) → HasHad (store_of counts) version → ⊥
none_had None version had = had
none_had (Some c) version had = let clash : None ≡ Some had.1 = had.2 in cc

-- a nonce that is still to be drawn
abbrev pub at_serial : SessionsState → ℕ → Version
at_serial u serial = record (nonce u) { serial = serial }

-- is new, while serials are left
pub nonce_new : (setup : SetupState) (boot : ℕ) (turns : List SessionTurn) (u : SessionsState) (st : LanesState) (serial : ℕ) → BootsRise boot turns → Lead (set_up setup boot) turns u → u.store ≡ Some st → u.serial < 2 ^ 64 - 1 → u.serial ≤ serial
    → is_new st.world (at_serial u serial) ≡ true
nonce_new setup boot turns u st serial rises leads store_is left still = unhad_new st.world (at_serial u serial) had
  where
    earlier : AreEarlier u
    earlier = turns_earlier turns (set_up setup boot) u (set_up_sound setup boot) rises leads (λ version had. absurd (none_had setup.counts version had))

    clashes : IsEarlier (at_serial u serial) u → ⊥
    clashes (inl less) = omega (arith, less)
    clashes (inr (same, inl less)) = omega (arith, less, still)
    clashes (inr (same, inr last)) = omega (arith, last, left)

    had : Had st.world (at_serial u serial) → ⊥
    had found = clashes (earlier (at_serial u serial) (subst (λ o. HasHad o (at_serial u serial)) (sym store_is) found))

-- A line begins a call with no nonce but the one that it draws: each other nonce that was new stays new.
pub others_stay_new : (setup : SetupState) (boot : ℕ) (turns : List SessionTurn) (s t : SessionsState) (line : SessionLine) (text : List ℕ) (st later : LanesState) (other : Version) → Lead (set_up setup boot) turns s
    → session_line s line ≡ Done t text → s.store ≡ Some st → t.store ≡ Some later → is_new st.world other ≡ true → other ≢ nonce s → is_new later.world other ≡ true
others_stay_new setup boot turns s t line text st later other leads is store_is later_is new differs =
    let goes : TurnGoes s (Does line text) t = turn_goes s (Does line text) t (lead_keeps (set_up setup boot) s turns (set_up_sound setup boot) leads) is in
    unhad_new later.world other (λ had. elim (goes.nonces other (subst (λ o. HasHad o other) (sym later_is) had)) [
      | inl old ↦ new_unhad st.world other new (subst (λ o. HasHad o other) store_is old)
      | inr begun ↦ differs begun.0
    ])
