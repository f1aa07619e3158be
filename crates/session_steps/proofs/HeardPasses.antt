-- A write that has ended has heard each brick, and its passes are marked by that.
use Rattle.std.proofs.Common.{◌≡◌, ◌==◌, Bool, true, false, if◌then◌else◌, ℕ, zero, suc, List, [], ◌∷◌, map, Some, refl, sym, ap, ◌∙◌}
use Rattle.std.specs.Prelude.{slice_get, option_map}
use Rattle.std.proofs.lemmas.Option.{slice_get-map}
use Rattle.crash_base.specs.declared.numbers.BrickNo.{BrickNo}
use Rattle.send_windows.specs.Passes.{with_mark, hushed, hushed_mark}
use Rattle.send_windows.specs.declared.pass.Pass.{Pass}
use Rattle.ssm_stub.specs.declared.ask.Ask.{Ask}
use Rattle.ssm_stub.specs.declared.ear.Ear.{Ear}
use Rattle.ssm_stub.specs.declared.ear.Ear.TheVariants.{Open, Heard}
use Rattle.ssm_stub.specs.declared.ear.Outcome.TheVariants.{Answered, Silent, Strayed}
use Rattle.ssm_stub.specs.declared.reply.WriteReply.{WriteReply}
use Rattle.ssm_stub.specs.Turns.{is_open}
use Rattle.ssm_stub.specs.Writes.{WriteState, mark_by, mark_in, heard_passes}
use Rattle.ssm_world.specs.Sound.{asked_of}
use Rattle.ssm_world.proofs.Tests.{number_same}

-- each has its outcome
abbrev pub AllHeard : List (Ask BrickNo WriteReply) → Type 0
AllHeard asks = (i : ℕ) (ask : Ask BrickNo WriteReply) → slice_get asks i ≡ Some ask → is_open ask ≡ false

outcome_marks : (who : BrickNo) (ear : Ear WriteReply) → is_open (record { who = who; ear = ear }) ≡ false → hushed_mark (mark_by ear) ≡ mark_by ear
outcome_marks who (Open stage) is = absurd (cc)
outcome_marks who (Heard (Answered reply)) is = refl
outcome_marks who (Heard Silent) is = refl
outcome_marks who (Heard Strayed) is = refl

marks : (asks : List (Ask BrickNo WriteReply)) → AllHeard asks → (brick : BrickNo) (i : ℕ) → slice_get (asked_of asks) i ≡ Some brick → hushed_mark (mark_in asks brick) ≡ mark_in asks brick
marks [] heard brick i is = absurd (cc)
marks (a ∷ asks) heard brick i is = go (λ k at. marks asks (λ j ask there. heard (suc j) ask there) brick k at) (a.who.0 == brick.0) refl where
  later : (rest : (k : ℕ) → slice_get (asked_of asks) k ≡ Some brick → hushed_mark (mark_in asks brick) ≡ mark_in asks brick) (i : ℕ) → (a.who.0 == brick.0) ≡ false → slice_get (a.who ∷ asked_of asks) i ≡ Some brick → hushed_mark (mark_in asks brick) ≡ mark_in asks brick
  later rest zero other is = absurd (
      let who : a.who ≡ brick = cc in
      let same : (a.who.0 == brick.0) ≡ true = ap (λ (b : BrickNo). a.who.0 == b.0) (sym who) ∙ number_same a.who.0 in
      cc)
  later rest (suc i) other is = rest i is

  go : (rest : (k : ℕ) → slice_get (asked_of asks) k ≡ Some brick → hushed_mark (mark_in asks brick) ≡ mark_in asks brick) (b : Bool) → (a.who.0 == brick.0) ≡ b → hushed_mark (if b then mark_by a.ear else mark_in asks brick) ≡ (if b then mark_by a.ear else mark_in asks brick)
  go rest true same = outcome_marks a.who a.ear (heard 0 a refl)
  go rest false other = later rest i other is

each_marked : (asks : List (Ask BrickNo WriteReply)) (passes : List Pass) → ((i : ℕ) (pass : Pass) → slice_get passes i ≡ Some pass → hushed_mark (mark_in asks pass.brick) ≡ mark_in asks pass.brick)
    → map hushed (map (λ (pass : Pass). with_mark pass (mark_in asks pass.brick)) passes) ≡ map (λ (pass : Pass). with_mark pass (mark_in asks pass.brick)) passes
each_marked asks [] each = refl
each_marked asks (pass ∷ passes) each =
    let first = each 0 pass refl in
    let later = each_marked asks passes (λ i p at. each (suc i) p at) in
    λ l. with_mark pass (first l) ∷ later l

-- no pass is left unheard
pub passes_heard : (write : WriteState) (passes : List Pass) → AllHeard write.asks → asked_of write.asks ≡ map (λ (pass : Pass). pass.brick) passes → map hushed (heard_passes write passes) ≡ heard_passes write passes
passes_heard write passes heard asked =
    let brick_of : Pass → BrickNo = λ pass. pass.brick in
    each_marked write.asks passes (λ i pass at. marks write.asks heard pass.brick i (ap (λ bs. slice_get bs i) asked ∙ (slice_get-map brick_of passes i ∙ ap (option_map brick_of) at)))
