-- Passes that are settled one after another.
use Rattle.std.proofs.Common.{arith, ◌≡◌, ◌∙◌, ap, sym, refl, subst, ℕ, ◌+◌, ◌<◌, List, [], ◌∷◌, ◌++◌, length, map, take, drop, Option, get_or, slice_set}
use Rattle.std.proofs.Math.Seq.{map-set_same}
use Rattle.std.proofs.lemmas.List.{take_more, take_more_set, drop_more, drop-set-lt, map-append, length-map}
use Rattle.std.proofs.lemmas.Option.{slice_get-get_or}
use Rattle.crash_base.specs.declared.numbers.BrickNo.{BrickNo}
use Rattle.ssm_frames.specs.declared.frame.Frame.{Frame}
use Rattle.outside.specs.declared.link.LinkEvent.{LinkEvent}
use Rattle.send_windows.specs.declared.pass.Pass.{Pass}
use Rattle.send_windows.specs.declared.pass.PassMark.{PassMark}
use Rattle.send_windows.specs.Passes.{marked, marked_at}
use Rattle.ssm_stub.specs.declared.reply.WriteReply.{WriteReply}
use Rattle.ssm_stub.specs.Ends.{bricks_of, marks_of, SettledAs, Settled}

module _ {L : Type 0} (makes : L → LinkEvent → L → Type 0) (lawful : BrickNo → Frame → Option WriteReply) where
  settled_more : (passes : List Pass) (marks : List PassMark) (old mid : L) (pass : Pass) (mark : PassMark) (new : L) → Settled makes lawful old passes marks mid → SettledAs makes lawful pass.brick pass.mark mid new mark → Settled makes lawful old (passes ++ pass ∷ []) (marks ++ mark ∷ []) new
  settled_more [] [] old mid pass mark new h step = (new, (let P : L → Type 0 = λ l. SettledAs makes lawful pass.brick pass.mark l new mark in subst P (sym h) step), refl)
  settled_more [] (m ∷ marks) old mid pass mark new h step = absurd h
  settled_more (p ∷ passes) [] old mid pass mark new h step = absurd h
  settled_more (p ∷ passes) (m ∷ marks) old mid pass mark new (l, first, rest) step = (l, first, settled_more passes marks l mid pass mark new rest step)

  -- what is kept after so many passes
  pub record Kept (old : L) (before passes : List Pass) (at : ℕ) (link : L) : Type 0 where
    pub settled : Settled makes lawful old (take at before) (marks_of (take at passes)) link
    pub rest : drop at passes ≡ drop at before
    pub same_bricks : bricks_of passes ≡ bricks_of before

  pub one_settled : (old : L) (before passes : List Pass) (at : ℕ) (link : L) (none : Pass) (mark : PassMark) (new : L) → at < length before → Kept old before passes at link → SettledAs makes lawful (get_or passes at none).brick (get_or passes at none).mark link new mark → Kept old before (marked passes at mark) (at + 1) new
  one_settled old before passes at link none mark new within kept step =
      let brick_of : Pass → BrickNo = λ p. p.brick in
      let mark_of : Pass → PassMark = λ p. p.mark in
      let pass = get_or passes at none in
      let pass' : Pass = record pass { mark = mark } in
      let long : length passes ≡ length before = sym (length-map passes brick_of) ∙ (ap length kept.same_bricks ∙ length-map before brick_of) in
      let there : at < length passes = omega arith in
      let put : marked passes at mark ≡ slice_set passes at pass' = ap (marked_at passes at mark) (slice_get-get_or passes at none there) in
      let parts : pass ∷ drop (at + 1) passes ≡ get_or before at none ∷ drop (at + 1) before = sym (drop_more passes at none there) ∙ (kept.rest ∙ drop_more before at none within) in
      let same : pass ≡ get_or before at none = cc in
      let rests : drop (at + 1) passes ≡ drop (at + 1) before = cc in
      let P : Pass → Type 0 = λ p. SettledAs makes lawful p.brick p.mark link new mark in
      let more = settled_more (take at before) (marks_of (take at passes)) old link (get_or before at none) mark new kept.settled (subst P same step) in
      let front : take (at + 1) before ≡ take at before ++ get_or before at none ∷ [] = take_more before at none within in
      let marks : marks_of (take (at + 1) (slice_set passes at pass')) ≡ marks_of (take at passes) ++ mark ∷ [] = ap (map mark_of) (take_more_set passes at pass' there) ∙ map-append mark_of (take at passes) (pass' ∷ []) in
      rw put (record {
        settled = rw (front, marks) more;
        rest = drop-set-lt (at + 1) passes at pass' (omega arith) ∙ rests;
        same_bricks = map-set_same brick_of passes at pass' none refl ∙ kept.same_bricks;
      })
