-- Passes that are marked one after another.
use Rattle.std.proofs.Common.{◌≡◌, ◌∙◌, ap, sym, refl, ℕ, ◌+◌, List, [], ◌∷◌, ◌++◌, length, map, take, Option, Some, None, slice_get}
use Rattle.std.specs.Prelude.{option_map}
use Rattle.std.proofs.Math.Seq.{map-set_same}
use Rattle.std.proofs.lemmas.List.{take_more_set, map_more, length-map}
use Rattle.std.proofs.lemmas.Option.{slice_get-map, slice_get_within, get_or_from_slice_get}
use Rattle.crash_base.specs.declared.numbers.BrickNo.{BrickNo}
use Rattle.send_windows.specs.declared.pass.Pass.{Pass}
use Rattle.send_windows.specs.Passes.{marked, marked_at}
use Rattle.ssm_stub.specs.Ends.{bricks_of}
use Rattle.ssm_stub.specs.declared.ask.Ask.{Ask}
use Rattle.ssm_stub.specs.declared.reply.WriteReply.{WriteReply}
use Rattle.ssm_stub.specs.Writes.{mark_by, pass_of}

-- the passes after one more was marked
pub record Marks (passes new : List Pass) (asks : List (Ask BrickNo WriteReply)) (i : ℕ) : Type 0 where
  pub bricks : bricks_of new ≡ map (λ (a : Ask BrickNo WriteReply). a.who) asks
  pub so_far : take (i + 1) new ≡ map pass_of (take (i + 1) asks)

one_more : (passes : List Pass) (asks : List (Ask BrickNo WriteReply)) (i : ℕ) (ask : Ask BrickNo WriteReply) (pass : Option Pass) → slice_get passes i ≡ pass → bricks_of passes ≡ map (λ (a : Ask BrickNo WriteReply). a.who) asks → take i passes ≡ map pass_of (take i asks) → slice_get asks i ≡ Some ask → option_map (λ (p : Pass). p.brick) pass ≡ Some ask.who → Marks passes (marked_at passes i (mark_by ask.ear) pass) asks i
one_more passes asks i ask None here bricks so_far there same = absurd cc
one_more passes asks i ask (Some pass) here bricks so_far there same =
    let new : Pass = record pass { mark = mark_by ask.ear } in
    let brick : pass.brick ≡ ask.who = cc in
    let is : new ≡ pass_of ask = ap (λ (b : BrickNo). let p : Pass = record { brick = b; mark = mark_by ask.ear } in p) brick in
    let f : Pass → BrickNo = λ p. p.brick in
    record {
      bricks = map-set_same f passes i new pass (sym (ap f (get_or_from_slice_get passes i pass pass here))) ∙ bricks;
      so_far = take_more_set passes i new (slice_get_within passes i pass here)
          ∙ (ap (λ front. front ++ new ∷ []) so_far
          ∙ (ap (λ p. map pass_of (take i asks) ++ p ∷ []) (is ∙ ap pass_of (sym (get_or_from_slice_get asks i ask ask there)))
          ∙ sym (map_more pass_of asks i ask (slice_get_within asks i ask there))));
    }

pub marks_more : (passes : List Pass) (asks : List (Ask BrickNo WriteReply)) (i : ℕ) (ask : Ask BrickNo WriteReply) → bricks_of passes ≡ map (λ (a : Ask BrickNo WriteReply). a.who) asks → take i passes ≡ map pass_of (take i asks) → slice_get asks i ≡ Some ask → Marks passes (marked passes i (mark_by ask.ear)) asks i
marks_more passes asks i ask bricks so_far there =
    let who : Ask BrickNo WriteReply → BrickNo = λ a. a.who in
    let f : Pass → BrickNo = λ p. p.brick in
    one_more passes asks i ask (slice_get passes i) refl bricks so_far there
    (sym (slice_get-map f passes i) ∙ (ap (λ bs. slice_get bs i) bricks ∙ (slice_get-map who asks i ∙ ap (option_map who) there)))

pub same_length : (passes : List Pass) (asks : List (Ask BrickNo WriteReply)) → bricks_of passes ≡ map (λ (a : Ask BrickNo WriteReply). a.who) asks → length passes ≡ length asks
same_length passes asks same =
    let who : Ask BrickNo WriteReply → BrickNo = λ a. a.who in
    let f : Pass → BrickNo = λ p. p.brick in
    sym (length-map passes f) ∙ (ap length same ∙ length-map asks who)
