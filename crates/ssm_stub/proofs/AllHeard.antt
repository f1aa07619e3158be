-- Passes that are settled are heard.
use Rattle.std.proofs.Common.{◌≡◌, ◌≢◌, ◌∙◌, sym, inl, inr, Option, List, [], ◌∷◌}
use Rattle.std.proofs.lemmas.List.Elements.{All-nil, All-cons}
use Rattle.crash_base.specs.declared.numbers.BrickNo.{BrickNo}
use Rattle.ssm_frames.specs.declared.frame.Frame.{Frame}
use Rattle.outside.specs.declared.link.LinkEvent.{LinkEvent}
use Rattle.send_windows.specs.declared.pass.Pass.{Pass}
use Rattle.send_windows.specs.declared.pass.PassMark.{PassMark}
use Rattle.send_windows.specs.declared.pass.PassMark.TheVariants.{Unheard, Answered, Silent}
use Rattle.send_windows.specs.Passes.{AreHeard}
use Rattle.ssm_stub.specs.declared.ear.Outcome.{Outcome}
use Rattle.ssm_stub.specs.declared.ear.Outcome.TheVariants as outcomes
use Rattle.ssm_stub.specs.declared.ear.Ear.TheVariants.{Heard}
use Rattle.ssm_stub.specs.declared.reply.WriteReply.{WriteReply}
use Rattle.ssm_stub.specs.Writes.{mark_by}
use Rattle.ssm_stub.specs.Ends.{marks_of, SettledAs, Settled}

-- an outcome gives a mark
heard_mark : (outcome : Outcome WriteReply) → mark_by (Heard outcome) ≢ Unheard
heard_mark (outcomes.Answered reply) = λ e. cc
heard_mark outcomes.Silent = λ e. cc
heard_mark outcomes.Strayed = λ e. cc

module _ {L : Type 0} (makes : L → LinkEvent → L → Type 0) (lawful : BrickNo → Frame → Option WriteReply) where
  one_heard : (brick : BrickNo) (before : PassMark) (old new : L) (mark : PassMark) → SettledAs makes lawful brick before old new mark → mark ≢ Unheard
  one_heard brick Unheard old new mark (inl h) = λ e. heard_mark h.1 (sym h.3 ∙ e)
  one_heard brick Unheard old new mark (inr h) = λ e. (let silent : Silent ≡ Unheard = sym h.1 ∙ e in cc)
  one_heard brick Answered old new mark h = λ e. (let answered : Answered ≡ Unheard = sym h.1 ∙ e in cc)
  one_heard brick Silent old new mark h = λ e. (let silent : Silent ≡ Unheard = sym h.1 ∙ e in cc)

  -- passes after settling, which have these marks
  pub all_heard : (passes after : List Pass) (old new : L) → Settled makes lawful old passes (marks_of after) new → AreHeard after
  all_heard [] [] old new h = All-nil (λ (pass : Pass). pass.mark ≢ Unheard)
  all_heard [] (pass ∷ after) old new h = absurd h
  all_heard (before ∷ passes) [] old new h = absurd h
  all_heard (before ∷ passes) (pass ∷ after) old new (mid, one, rest) =
      All-cons (λ (pass : Pass). pass.mark ≢ Unheard) pass after (one_heard before.brick before.mark old mid pass.mark one) (all_heard passes after mid new rest)
