-- What the marks of a write's passes tell.
use Rattle.std.specs.Prelude.{◌≡◌, ◌⊎◌, ◌↔◌, All, List, [], ◌∷◌, Option}
use Rattle.crash_base.specs.declared.numbers.SessionKey.{SessionKey}
use Rattle.crash_base.specs.declared.numbers.Version.{Version}
use Rattle.outside.specs.declared.link.LinkEvent.{LinkEvent}
use Rattle.send_windows.specs.declared.pass.Pass.{Pass}
use Rattle.send_windows.specs.declared.pass.PassMark.{PassMark}
use Rattle.send_windows.specs.declared.pass.PassMark.TheVariants as pass_mark
use Rattle.ssm_frames.specs.declared.frame.Frame.{Frame}
use Rattle.ssm_stub.specs.declared.ear.Outcome.TheVariants.{Answered, Silent, Strayed}
use Rattle.ssm_stub.specs.declared.event.Told.{Told}
use Rattle.ssm_stub.specs.declared.event.Told.TheVariants.{Sent}
use Rattle.ssm_stub.specs.declared.reply.WriteReply.{WriteReply}
use Rattle.ssm_stub.specs.Ends.{bricks_of}
use Rattle.ssm_stub.specs.Hearing.{EndsIn, all_about}
use Rattle.ssm_stub.specs.Writes.{put_lawful}

-- What a mark tells of the events of a brick. Answered: they end in a lawful reply. Silent: they end in
-- silence, or the brick strayed. Unheard: the ask was sent, and nothing was heard since.
abbrev pub Tells : (Frame → Option WriteReply) → List Told → PassMark → Type 0
Tells lawful events pass_mark.Answered = (reply : WriteReply) × EndsIn lawful events (Answered reply)
Tells lawful events pass_mark.Silent = EndsIn lawful events Silent ⊎ EndsIn lawful events Strayed
Tells lawful events pass_mark.Unheard = events ≡ Sent ∷ []

-- A mark is the one that these events have: what it tells is so, and what any other tells is not.
abbrev pub IsMarkOf : (Frame → Option WriteReply) → List Told → PassMark → Type 0
IsMarkOf lawful events mark = (other : PassMark) → (mark ≡ other) ↔ Tells lawful events other

-- The passes of a write after it: they are to the bricks that they were to before, and each has the mark
-- of what these calls of the link tell of its brick.
pub record AreMarked (nonce : Version) (key : SessionKey) (calls : List LinkEvent) (before passes : List Pass) : Type 0 where
  pub bricks : bricks_of passes ≡ bricks_of before
  pub marks : All (λ (pass : Pass). IsMarkOf (put_lawful nonce key pass.brick) (all_about pass.brick calls) pass.mark) passes
