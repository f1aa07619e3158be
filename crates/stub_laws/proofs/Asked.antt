-- Those that were asked in a run are the first ones.
use Rattle.std.proofs.Common.{◌≡◌, ◌∙◌, ap, sym, ℕ, List, ◌++◌, length, take}
use Rattle.std.proofs.Math.Seq.{take-append_seam}
use Rattle.std.proofs.lemmas.List.{take-map}
use Rattle.crash_base.specs.declared.numbers.BrickNo.{BrickNo}
use Rattle.stub_laws.specs.Sends.{SentFrame, each_sent}

pub first_sent : (ask : List ℕ) (sent : List SentFrame) (left bricks : List BrickNo) → sent ++ each_sent ask left ≡ each_sent ask bricks → sent ≡ each_sent ask (take (length sent) bricks)
first_sent ask sent left bricks h =
    sym (take-append_seam sent (each_sent ask left))
    ∙ (ap (take (length sent)) h
    ∙ take-map (λ (b : BrickNo). record { to = b; frame = ask }) (length sent) bricks)
