-- What becomes of bricks that are lent to connections.
use Rattle.std.proofs.Common.{◌≡◌, ◌⊎◌, inl, inr, ℕ, zero, suc, ◌==◌, Bool, true, false, if◌then◌else◌, List, [], ◌∷◌, ◌++◌, Option, Some, None, All, refl, sym, ap, subst, ◌∙◌, append_assoc, map}
use Rattle.std.specs.Prelude.{slice_get}
use Rattle.std.proofs.lemmas.List.Elements.{All-head, All-tail}
use Rattle.crash_base.specs.declared.numbers.BrickNo.{BrickNo}
use Rattle.crash_base.specs.declared.numbers.Version.{Version}
use Rattle.brick_store.specs.declared.kept.Kept.{Kept}
use Rattle.brick_store.specs.declared.event.BrickEvent.{BrickEvent}
use Rattle.brick_store.specs.declared.event.BrickEvent.TheVariants as happened
use Rattle.brick_store.specs.Bricks.{put_value}
use Rattle.brick_store.specs.History.{all_held}
use Rattle.brick_store.specs.Kept.{is_full}
use Rattle.brick_store.specs.Standing.{heard}
use Rattle.ssm_frames.specs.declared.frame.Frame.{Frame}
use Rattle.send_windows.specs.Calls.{WindowCall, after_call}
use Rattle.send_windows.specs.Windows.{WindowsValue, KeepLimits}
use Rattle.send_windows.specs.declared.pass.Pass.{Pass}
use Rattle.ssm_stub.specs.declared.event.StubNext.TheVariants as next
use Rattle.ssm_stub.specs.Reads.{read_start}
use Rattle.ssm_stub.specs.Writes.{write_start}
use Rattle.ssm_world.specs.declared.call.Call.{Call}
use Rattle.ssm_world.specs.declared.call.Call.TheVariants as call
use Rattle.ssm_world.specs.declared.event.WorldEvent.{WorldEvent}
use Rattle.ssm_world.specs.declared.event.WorldEvent.TheVariants.{Write, Read}
use Rattle.ssm_world.specs.Sound.{untold, CallIsSound, IsSound}
use Rattle.ssm_world.specs.Worlds.{WorldValue, ask_of, history, nonce_of, next_of, with_new_call, may_write, may_read, step}
use Rattle.ssm_world.proofs.CallAsks.{ask_is_request}
use Rattle.ssm_world.proofs.Growing.{same_nonce}
use Rattle.ssm_world.proofs.Lists.{get_last, history_set}
use Rattle.ssm_world.proofs.Tests.{same_number, number_same}
use Rattle.session_lanes.specs.Counts.{silent_by}
use Rattle.session_lanes.specs.Lanes.{LanesState, after_event, turn_of, turn_to}
use Rattle.session_lanes.specs.Sound.{LanesAreSound}
use Rattle.session_lanes.specs.Steps.{BeginsRead as BeginsReadOfLanes, BeginsWrite as BeginsWriteOfLanes, TakesTurn as TakesTurnOfLanes}
use Rattle.session_lanes.proofs.Ending.{Keeps, MadeBy, OnlyStores, ended_or, made_is_sound, made_on, turn_keeps, turn_made}
use Rattle.session_lanes.proofs.Histories.{stores_same}
use Rattle.session_lanes.proofs.Keeping.{step_keeps, windows_keep}
use Rattle.session_lanes.proofs.LanesStay.{lanes_counted}
use Rattle.session_lanes.proofs.Turning.{answered_world, turn_cases}
use Rattle.session_steps.specs.Lent.{LentStep, BeginsRead, BeginsWrite, TakesTurn, CallsWindows, HearsNone, BeginsSo, after_lent, after_lent_step}
use Rattle.session_steps.proofs.Ended.{Had, HasEndedCall}
use Rattle.session_steps.proofs.Went.{StoredOn, StoresOn, made_grows, stores_on, unended_on}

-- each step keeps bricks sound
pub lent_step_sound : (st : LanesState) (s : LentStep) → LanesAreSound st → LanesAreSound (after_lent_step st s)
lent_step_sound st (BeginsRead nonce now cookie) sound = step_keeps st (BeginsReadOfLanes nonce now cookie) sound
lent_step_sound st (BeginsWrite nonce key value expiry passes) sound = step_keeps st (BeginsWriteOfLanes nonce key value expiry passes) sound
lent_step_sound st (TakesTurn n) sound = step_keeps st (TakesTurnOfLanes n) sound
lent_step_sound st (CallsWindows c) sound = windows_keep st (after_call st.windows c) sound
lent_step_sound st (HearsNone brick) sound = record { made = sound.made; lanes = lanes_counted st (silent_by brick st.counts) sound.lanes }

pub lent_sound : (steps : List LentStep) (st : LanesState) → LanesAreSound st → LanesAreSound (after_lent st steps)
lent_sound [] st sound = sound
lent_sound (s ∷ steps) st sound = lent_sound steps (after_lent_step st s) (lent_step_sound st s sound)

-- what the ask of a call makes of a history: nothing more, or one value more, whose version is the call's nonce
abbrev AsksAdd : Call → List BrickEvent → List BrickEvent → Type 0
AsksAdd c h g = (g ≡ h) ⊎ ((s : Kept) × (g ≡ happened.Stored s ∷ h) × (s.version ≡ nonce_of c))

ask_adds : (w : WorldValue) (c : Call) (h : List BrickEvent) → CallIsSound w c → AsksAdd c h (heard h (ask_of c))
ask_adds w (call.Write s) h sound = subst (λ g. AsksAdd (call.Write s) h g) (sym (ap (heard h) sound.ask_is)) (put (is_full (all_held h) value))
  where
    value : Kept
    value = put_value s.key s.nonce s.expiry sound.value

    put : (full : Bool) → AsksAdd (call.Write s) h (if full then h else happened.Stored value ∷ h)
    put true = inl refl
    put false = inr (value, refl, refl)
ask_adds w (call.Read s) h sound = inl refl

one_stored : (s t : Kept) (i : ℕ) → slice_get (happened.Stored s ∷ []) i ≡ Some (happened.Stored t) → t ≡ s
one_stored s t zero at = cc
one_stored s t (suc i) at = absurd (cc)

only_more : (newer h : List BrickEvent) → OnlyStores newer → OnlyStores h → OnlyStores (newer ++ h)
only_more [] h first second = second
only_more (happened.Stored s ∷ newer) h first second = only_more newer h first second
only_more (happened.Sweep moment ∷ newer) h first second = absurd first
only_more (happened.Crash ∷ newer) h first second = absurd first

-- each call of windows keeps their limits
abbrev pub LimitsLaw : Type 0
LimitsLaw = (windows : WindowsValue) (c : WindowCall) → KeepLimits windows → KeepLimits (after_call windows c)

-- Events made the later bricks' world, and added values at most that calls stored which had not ended; the windows keep
-- their limits; and each call was there before, or has a nonce of which this is so.
pub record LentGone (So : Version → Type 0) (st later : LanesState) : Type 0 where
  pub by : MadeBy st.world later.world
  pub stores : StoresOn st.world later.world
  pub windows : LimitsLaw → KeepLimits st.windows → KeepLimits later.windows
  pub calls : (j : ℕ) (d : Call) → slice_get later.world.calls j ≡ Some d → Had st.world (nonce_of d) ⊎ So (nonce_of d)

module _ (So : Version → Type 0) where
  -- where the world stays
  gone_same : (st later : LanesState) → later.world ≡ st.world → (LimitsLaw → KeepLimits st.windows → KeepLimits later.windows) → LentGone So st later
  gone_same st later same windows = record {
    by = ([], same);
    stores = stores_on st.world later.world (stores_same st.world later.world (ap (λ (w : WorldValue). w.histories) same));
    windows = windows;
    calls = λ j d at. inl (j, d, ap (λ (w : WorldValue). slice_get w.calls j) (sym same) ∙ at, refl);
  }

  -- where a call begins
  begun_histories : (w : WorldValue) (c : Call) (may : Bool) → (if may then with_new_call w c else w).histories ≡ w.histories
  begun_histories w c true = refl
  begun_histories w c false = refl

  begun_calls : (w : WorldValue) (c : Call) (may : Bool) → So (nonce_of c) → (j : ℕ) (d : Call) → slice_get (if may then with_new_call w c else w).calls j ≡ Some d
      → Had w (nonce_of d) ⊎ So (nonce_of d)
  begun_calls w c true drawn j d at = elim (get_last w.calls c j d at) [
    | inl old ↦ inl (j, d, old, refl)
    | inr last ↦ inr (subst (λ (x : Call). So (nonce_of x)) last.1 drawn)
  ]
  begun_calls w c false drawn j d at = inl (j, d, at, refl)

  gone_begun : (st : LanesState) (e : WorldEvent) (c : Call) (may : Bool) → step st.world e ≡ (if may then with_new_call st.world c else st.world) → So (nonce_of c) → LentGone So st (after_event st e)
  gone_begun st e c may is drawn = record {
    by = (e ∷ [], refl);
    stores = stores_on st.world (step st.world e) (stores_same st.world (step st.world e) (ap (λ (w : WorldValue). w.histories) is ∙ begun_histories st.world c may));
    windows = λ law keep. keep;
    calls = λ j d at. begun_calls st.world c may drawn j d (ap (λ (w : WorldValue). slice_get w.calls j) (sym is) ∙ at);
  }

  -- where a call takes a turn that wants more
  module _ (st : LanesState) (n : ℕ) (c : Call) (sound : LanesAreSound st) (there : slice_get st.world.calls n ≡ Some c) (more : next_of c ≡ next.Ended → ⊥) where
    worlds : IsSound st.world
    worlds = made_is_sound st.world sound.made

    -- no call that has ended has this call's nonce
    unlike : (version : Version) → version ≡ nonce_of c → HasEndedCall st.world version → ⊥
    unlike version is had =
        let place : had.0 ≡ n = worlds.nonces had.0 n had.1 c had.2 there (had.3 ∙ is) in
        let one : Some had.1 ≡ Some c = sym had.2 ∙ ap (slice_get st.world.calls) place ∙ there in
        let its : had.1 ≡ c = cc in
        more (ap next_of (sym its) ∙ had.4)

    none_stored : StoresOn st.world st.world
    none_stored = stores_on st.world st.world (stores_same st.world st.world refl)

    asked : (b : BrickNo) (h g : List BrickEvent) → history st.world b ≡ Some h → AsksAdd c h g → StoredOn st.world b g
    asked b h g now (inl same) =
        record { earlier = h; newer = []; history_is = now; parts = same; only = tt; unended = λ i s at had. absurd (cc) }
    asked b h g now (inr (s, is, version)) = record {
      earlier = h;
      newer = happened.Stored s ∷ [];
      history_is = now;
      parts = is;
      only = tt;
      unended = λ i t at had. unlike t.version (ap (λ (x : Kept). x.version) (one_stored s t i at) ∙ version) had;
    }

    answer_stores : (brick : BrickNo) (h : List BrickEvent) (frame : Frame) → history st.world brick ≡ Some h → StoresOn st.world (answered_world st.world n c brick h frame)
    answer_stores brick h frame now b g is = elim (history_set st.world.histories brick.0 (heard h (ask_of c)) b.0 g is) [
      | inl old ↦ none_stored b g old
      | inr new ↦ (
          let same : b ≡ brick = (let number : b.0 ≡ brick.0 = new.0 in λ l. record { 0 = number l }) in
          asked b h g (ap (history st.world) same ∙ now) (subst (λ x. AsksAdd c h x) new.1 (ask_adds st.world c h (worlds.calls n c there))))
    ]

    turn_stores : StoresOn st.world (turn_to st n (next_of c)).world
    turn_stores = turn_cases (λ v. StoresOn st.world v.world) st n c sound.lanes (ask_is_request st.world c (worlds.calls n c there)) there (record {
      ended = λ wants. none_stored;
      unsent = λ brick wants at. none_stored;
      dropped = λ brick lane wants at drops. none_stored;
      answered = λ brick lane h frame wants at undropped now gives. answer_stores brick h frame now;
      laneless = λ brick wants at. none_stored;
      silent = λ brick lane wants at empty. none_stored;
      came = λ brick lane packet rest p wants at queue is. none_stored;
    })

    turn_calls : (j : ℕ) (d : Call) → slice_get (turn_to st n (next_of c)).world.calls j ≡ Some d → Had st.world (nonce_of d) ⊎ So (nonce_of d)
    turn_calls j d at = go (j == n) refl where
      later : WorldValue
      later = (turn_to st n (next_of c)).world

      kept : Keeps st n (turn_to st n (next_of c))
      kept = turn_keeps st n c sound.lanes worlds there

      go : (b : Bool) → (j == n) ≡ b → Had st.world (nonce_of d) ⊎ So (nonce_of d)
      go true is =
          let now : (x : Call) × (slice_get later.calls n ≡ Some x) × (untold x ≡ untold c) = (made_grows st.world later (turn_made st n (next_of c))).calls n c there in
          let one : Some d ≡ Some now.0 = sym at ∙ ap (slice_get later.calls) (same_number j n is) ∙ now.1 in
          let its : d ≡ now.0 = cc in
          inl (n, c, there, sym (ap nonce_of its ∙ same_nonce c now.0 now.2))
      go false apart =
          let differ : j ≡ n → ⊥ = λ e. (let equal : (j == n) ≡ true = ap (λ k. k == n) e ∙ number_same n in let clash : true ≡ false = sym equal ∙ apart in cc) in
          inl (j, d, sym (kept.others j differ) ∙ at, refl)

    gone_turned : LentGone So st (turn_to st n (next_of c))
    gone_turned = record {
      by = turn_made st n (next_of c);
      stores = turn_stores;
      windows = λ law keep. subst (λ (w : WindowsValue). KeepLimits w) (sym (turn_keeps st n c sound.lanes worlds there).windows) keep;
      calls = turn_calls;
    }

  gone_turn : (st : LanesState) (n : ℕ) (o : Option Call) → LanesAreSound st → slice_get st.world.calls n ≡ o → LentGone So st (turn_of st n o)
  gone_turn st n None sound there = gone_same st st refl (λ law keep. keep)
  gone_turn st n (Some c) sound there = elim (ended_or (next_of c)) [
    | inl over ↦ subst (λ x. LentGone So st (turn_to st n x)) (sym over) (gone_same st st refl (λ law keep. keep))
    | inr more ↦ gone_turned st n c sound there more
  ]

  gone_step : (st : LanesState) (s : LentStep) → LanesAreSound st → BeginsSo So s → LentGone So st (after_lent_step st s)
  gone_step st (BeginsRead nonce now cookie) sound drawn =
      gone_begun st (Read nonce now cookie) (call.Read (read_start now nonce cookie)) (may_read st.world nonce cookie.bricks) refl drawn
  gone_step st (BeginsWrite nonce key value expiry passes) sound drawn =
      let bricks = map (λ (pass : Pass). pass.brick) passes in
      gone_begun st (Write nonce key value expiry bricks st.windows.wq) (call.Write (write_start bricks st.windows.wq nonce key value expiry)) (may_write st.world nonce bricks st.windows.wq) refl drawn
  gone_step st (TakesTurn n) sound drawn = gone_turn st n (slice_get st.world.calls n) sound refl
  gone_step st (CallsWindows c) sound drawn = gone_same st (record st { windows = after_call st.windows c }) refl (λ law keep. law st.windows c keep)
  gone_step st (HearsNone brick) sound drawn = gone_same st (after_lent_step st (HearsNone brick)) refl (λ law keep. keep)

  -- one after the other
  gone_on_lent : (st u v : LanesState) → LentGone So st u → LentGone So u v → LentGone So st v
  gone_on_lent st u v first second = record {
    by = made_on st.world u.world v.world first.by second.by;
    stores = λ brick g is. (
        let b : StoredOn u.world brick g = second.stores brick g is in
        let a : StoredOn st.world brick b.earlier = first.stores brick b.earlier b.history_is in
        record {
          earlier = a.earlier;
          newer = b.newer ++ a.newer;
          history_is = a.history_is;
          parts = b.parts ∙ ap (λ h. b.newer ++ h) a.parts ∙ sym (append_assoc b.newer a.newer a.earlier);
          only = only_more b.newer a.newer b.only a.only;
          unended = unended_on st.world u.world b.newer a.newer first.by b.unended a.unended;
        });
    windows = λ law keep. second.windows law (first.windows law keep);
    calls = λ j d at. elim (second.calls j d at) [
      | inl old ↦ subst (λ (x : Version). Had st.world x ⊎ So x) old.3 (first.calls old.0 old.1 old.2)
      | inr drawn ↦ inr drawn
    ];
  }

  pub lent_gone : (steps : List LentStep) (st : LanesState) → LanesAreSound st → All (BeginsSo So) steps → LentGone So st (after_lent st steps)
  lent_gone [] st sound drawn = gone_same st st refl (λ law keep. keep)
  lent_gone (s ∷ steps) st sound drawn =
      let u : LanesState = after_lent_step st s in
      gone_on_lent st u (after_lent u steps) (gone_step st s sound (All-head (BeginsSo So) s steps drawn))
      (lent_gone steps u (lent_step_sound st s sound) (All-tail (BeginsSo So) s steps drawn))
