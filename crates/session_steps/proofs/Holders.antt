-- What the history of a holder of a cookie says, from the write of its value on.
use Rattle.std.proofs.Common.{◌≡◌, ℕ, ◌+◌, ◌≤◌, Bool, true, false, cond, List, [], ◌∷◌, ◌++◌, Some, refl, sym, ap, ◌∙◌, subst, arith}
use Rattle.std.specs.Prelude.{slice_get}
use Rattle.crash_base.specs.declared.numbers.BrickNo.{BrickNo}
use Rattle.crash_base.specs.declared.numbers.Moment.{Moment}
use Rattle.crash_base.specs.declared.numbers.Version.{Version}
use Rattle.crash_base.specs.Same.{same_version}
use Rattle.session_cookie.specs.declared.cookie.Holder.{Holder}
use Rattle.ssm_frames.specs.declared.frame.Frame.TheVariants.{Put}
use Rattle.brick_store.specs.declared.kept.Kept.{Kept}
use Rattle.brick_store.specs.declared.event.BrickEvent.{BrickEvent}
use Rattle.brick_store.specs.declared.event.BrickEvent.TheVariants as happened
use Rattle.brick_store.specs.History.{incarnation_after, swept_after}
use Rattle.ssm_world.specs.declared.call.Call.{Call}
use Rattle.ssm_world.specs.Claims.{Keeps}
use Rattle.ssm_world.specs.Facts.{AllStored}
use Rattle.ssm_world.specs.Sound.{WasWritten, IsSound}
use Rattle.ssm_world.specs.Worlds.{WorldValue, nonce_of, new_world, history, is_new}
use Rattle.ssm_world.proofs.CallAsks.{asked_nonce}
use Rattle.ssm_world.proofs.Histories.{incarnation_grows, stored_behind, stored_weaker}
use Rattle.ssm_world.proofs.Lists.{get_front, none_passes}
use Rattle.ssm_world.proofs.Steps.{new_history}
use Rattle.ssm_world.proofs.Tests.{version_same}
use Rattle.session_steps.specs.Promise.{SessionTurn, is_crash_of, crashes, later_of, swept_over}
use Rattle.session_steps.proofs.Ended.{HasEndedCall}
use Rattle.session_steps.proofs.Went.{Went, Gone, Goes, IsQuiet, crashes_one, no_sweep, uncrashed_swept}

-- what was stored and is not in the older part of a history stands in the newer one
record InFront (newer h later : List BrickEvent) (k : Kept) (earlier : List BrickEvent) : Type 0 where
  pub rest : List BrickEvent
  pub earlier_is : earlier ≡ rest ++ h
  pub newer_is : newer ≡ later ++ happened.Stored k ∷ rest

stored_in_front : (newer h later : List BrickEvent) (k : Kept) (earlier : List BrickEvent) → later ++ happened.Stored k ∷ earlier ≡ newer ++ h → AllStored (λ (s : Kept). s ≡ k → ⊥) h → InFront newer h later k earlier
stored_in_front [] h later k earlier is none =
    let P : Kept → Type 0 = λ s. s ≡ k → ⊥ in
    let all : AllStored P (later ++ happened.Stored k ∷ earlier) = subst (λ g. AllStored P g) (sym is) none in
    absurd ((stored_behind P later (happened.Stored k ∷ earlier) all).0 refl)
stored_in_front (e ∷ newer) h [] k earlier is none =
    let first : happened.Stored k ≡ e = cc in
    record { rest = newer; earlier_is = cc; newer_is = ap (λ x. x ∷ newer) (sym first) }
stored_in_front (e ∷ newer) h (d ∷ later) k earlier is none =
    let first : d ≡ e = cc in
    let more : InFront newer h later k earlier = stored_in_front newer h later k earlier (cc) none in
    record { rest = more.rest; earlier_is = more.earlier_is; newer_is = λ l. sym first l ∷ more.newer_is l }

-- no value was written under a version that no call has had
none_written : (w : WorldValue) (brick : BrickNo) (version : Version) (k : Kept) → IsSound w → is_new w version ≡ true → k.version ≡ version → (s : Kept) → WasWritten w brick s → s ≡ k → ⊥
none_written w brick version k sound new same s was equal =
    let nonce : nonce_of was.1 ≡ s.version = asked_nonce w (Put s.version s.key s.version s.expiry s.value) sound (was.0, was.1, was.2, was.3) in
    let its : nonce_of was.1 ≡ version = nonce ∙ ap (λ (x : Kept). x.version) equal ∙ same in
    let apart : same_version (nonce_of was.1) version ≡ false = none_passes (λ (c : Call). same_version (nonce_of c) version) w.calls was.0 was.1 new was.2 in
    let alike : same_version (nonce_of was.1) version ≡ true = ap (λ v. same_version v version) its ∙ version_same version in
    let clash : true ≡ false = sym alike ∙ apart in
    cc

-- The history of a holder: what it stored, between events of the write and behind those until then; and newer ones
-- since, among which it stored nothing under the same version. The holder has crashed only before the write and since.
pub record HolderWent (first : Moment) (before : List SessionTurn) (now : Moment) (since : List SessionTurn) (w : WorldValue) (holder : Holder) (k : Kept) : Type 0 where
  pub events : List BrickEvent
  pub history_is : history w holder.brick ≡ Some events
  pub newer : List BrickEvent
  pub between : List BrickEvent
  pub earlier : List BrickEvent
  pub parts : events ≡ newer ++ (between ++ happened.Stored k ∷ earlier)
  pub went : Went now holder.brick.0 since newer
  pub unswept : (moment : Moment) (i : ℕ) → slice_get between i ≡ Some (happened.Sweep moment) → ⊥
  pub uncrashed : incarnation_after 1 (between ++ happened.Stored k ∷ earlier) ≡ holder.incarnation
  pub in_named : incarnation_after 1 earlier ≡ holder.incarnation
  pub incarnation_is : holder.incarnation ≡ 1 + crashes holder.brick.0 before
  pub swept_is : swept_after events ≡ swept_over now holder.brick.0 (swept_over first holder.brick.0 (record { 0 = 0 }) before) since
  pub others : (i : ℕ) (s : Kept) → slice_get newer i ≡ Some (happened.Stored s) → s.version ≡ k.version → ⊥

-- the worlds of a write: before any event, when the write begins, when it has ended, and later
pub record WriteWorlds (n : ℕ) (first : Moment) (before : List SessionTurn) (now : Moment) (turn : SessionTurn) (since : List SessionTurn) (begun ended w : WorldValue) (version : Version) : Type 0 where
  pub until : Goes first before (new_world n) begun
  pub quiet : IsQuiet now turn
  pub by : Goes now (turn ∷ []) begun ended
  pub later : Goes now since ended w
  pub sound : IsSound begun
  pub new : is_new begun version ≡ true
  pub over : HasEndedCall ended version

pub holder_went : (n : ℕ) (first : Moment) (before : List SessionTurn) (now : Moment) (turn : SessionTurn) (since : List SessionTurn) (begun ended w : WorldValue) (holder : Holder) (k : Kept) (g : List BrickEvent)
    → WriteWorlds n first before now turn since begun ended w k.version → Keeps ended holder k → history w holder.brick ≡ Some g → HolderWent first before now since w holder k
holder_went n first before now turn since begun ended w holder k g worlds keeps is =
    let brick : BrickNo = holder.brick in
    let after : Gone now since ended brick g = worlds.later.each brick g is in
    let one : Some after.earlier ≡ Some keeps.events = sym after.history_is ∙ keeps.history_is in
    let after_is : after.earlier ≡ keeps.events = cc in
    let during : Gone now (turn ∷ []) begun brick keeps.events = worlds.by.each brick keeps.events keeps.history_is in
    let older : Gone first before (new_world n) brick during.earlier = worlds.until.each brick during.earlier during.history_is in
    let blank : older.earlier ≡ [] = new_history n brick.0 older.earlier older.history_is in
    let later : List BrickEvent = keeps.stored.later in
    let earlier : List BrickEvent = keeps.stored.earlier in
    let none : AllStored (λ (s : Kept). s ≡ k → ⊥) during.earlier =
    stored_weaker (WasWritten begun brick) (λ (s : Kept). s ≡ k → ⊥) during.earlier (none_written begun brick k.version k worlds.sound worlds.new refl) (worlds.sound.stored brick during.earlier during.history_is) in
    let front : InFront during.newer during.earlier later k earlier = stored_in_front during.newer during.earlier later k earlier (sym keeps.stored.parts ∙ during.parts) none in
    let whole : incarnation_after 1 keeps.events ≡ incarnation_after 1 during.earlier + crashes brick.0 (turn ∷ []) = ap (incarnation_after 1) during.parts ∙ during.went.crashed during.earlier in
    let all : incarnation_after 1 (later ++ happened.Stored k ∷ earlier) ≡ incarnation_after 1 keeps.events = ap (incarnation_after 1) (sym keeps.stored.parts) in
    let at_most : incarnation_after 1 earlier ≤ incarnation_after 1 (later ++ happened.Stored k ∷ earlier) = incarnation_grows later (happened.Stored k ∷ earlier) in
    let at_least : incarnation_after 1 during.earlier ≤ incarnation_after 1 earlier = subst (λ h. incarnation_after 1 during.earlier ≤ incarnation_after 1 h) (sym front.earlier_is) (incarnation_grows front.rest during.earlier) in
    let count : Bool → ℕ = λ b. cond b 1 0 in
    let none_crashed : count (is_crash_of brick.0 turn) ≡ count false = ap count (worlds.quiet.crash brick.0) in
    let start : incarnation_after 1 during.earlier ≡ incarnation_after 1 older.earlier + crashes brick.0 before = ap (incarnation_after 1) older.parts ∙ older.went.crashed older.earlier in
    let first_is : incarnation_after 1 older.earlier ≡ 1 = ap (incarnation_after 1) blank in
    record {
      events = g;
      history_is = is;
      newer = after.newer;
      between = later;
      earlier = earlier;
      parts = after.parts ∙ ap (λ h. after.newer ++ h) (after_is ∙ keeps.stored.parts);
      went = after.went;
      unswept = λ moment i at. (
          let there : slice_get (later ++ happened.Stored k ∷ front.rest) i ≡ Some (happened.Sweep moment) = get_front later (happened.Stored k ∷ front.rest) i (happened.Sweep moment) at in
          no_sweep now brick.0 moment turn (worlds.quiet.sweep brick.0) (during.went.swept moment i (ap (λ h. slice_get h i) front.newer_is ∙ there)));
      uncrashed = omega (arith, whole, all, at_most, at_least, none_crashed, crashes_one brick.0 turn, keeps.stored.incarnation_is);
      in_named = keeps.stored.incarnation_is;
      incarnation_is = omega (arith, whole, all, at_most, at_least, none_crashed, crashes_one brick.0 turn, keeps.stored.incarnation_is, start, first_is);
      swept_is =
          ap swept_after after.parts ∙ after.went.greatest after.earlier
          ∙ ap (λ m. swept_over now brick.0 m since)
          (ap swept_after (after_is ∙ during.parts) ∙ during.went.greatest during.earlier
          ∙ uncrashed_swept now brick.0 turn (swept_after during.earlier) (worlds.quiet.crash brick.0) ∙ ap (later_of (swept_after during.earlier)) (worlds.quiet.sweep brick.0)
          ∙ ap swept_after older.parts ∙ older.went.greatest older.earlier ∙ ap (λ h. swept_over first brick.0 (swept_after h) before) blank);
      others = λ i s at same. after.unended i s at (worlds.over.0, worlds.over.1, worlds.over.2, worlds.over.3 ∙ sym same, worlds.over.4);
    }
