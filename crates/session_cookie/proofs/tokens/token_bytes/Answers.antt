use Rattle.std.proofs.Common.{arith, ◌≡◌, ℕ, ◌+◌, List, [], ◌++◌, length, take, drop, replicate, refl, subst, ap, ◌∙◌}
use Rattle.std.proofs.lemmas.List.{append-nil, length-take-le}
use Rattle.std.specs.Int.{to_be_bytes, w32, w64}
use Rattle.session_cookie.specs.Hmac.{hmac}
use Rattle.session_cookie.specs.Token.{request_bytes, token_bytes, token_message}
use Rattle.session_cookie.proofs.Digits.{length-hmac}
use Rattle.session_cookie.proofs.Putting.{put_next}
use Rattle.session_cookie.proofs.tokens.token_bytes.Goals as goal

pub returns : goal.returns
unfolding token_bytes request_bytes
returns c =
    let boot = to_be_bytes w32 c.args.request.boot in
    let serial = to_be_bytes w64 c.args.request.serial in
    let full = hmac c.args.key.now (token_message c.args.session c.args.request) in
    let tag = take 16 full in
    let P : List ℕ → Type 0 = λ piece. c.put.new.block ≡ [] ++ (piece ++ drop (0 + length piece) (replicate 28 0)) in
    let Q : List ℕ → Type 0 = λ piece. c.put-2.new.block ≡ take 4 c.put.new.block ++ (piece ++ drop (4 + length piece) c.put.new.block) in
    let R : List ℕ → Type 0 = λ full. c.put-3.new.block ≡ take 12 c.put-2.new.block ++ (take 16 full ++ drop (12 + length (take 16 full)) c.put-2.new.block) in
    let one = put_next (replicate 28 0) c.put.new.block [] (replicate 28 0) boot 0 refl refl (subst P c.to_be_bytes.ensures c.put.ensures) in
    let two = put_next c.put.new.block c.put-2.new.block boot (replicate 24 0) serial 4 one refl (subst Q c.to_be_bytes-2.ensures c.put-2.ensures) in
    let three = put_next c.put-2.new.block c.put-3.new.block (boot ++ serial) (replicate 16 0) tag 12 two refl (subst R (c.hmac_sha256-tag.ensures ∙ ap (hmac c.args.key.now) c.token_message.ensures) c.put-3.ensures) in
    let size : length tag ≡ 16 = length-take-le 16 full (omega (arith, length-hmac c.args.key.now (token_message c.args.session c.args.request))) in
    let none : drop (length tag) (replicate 16 0) ≡ [] = ap (λ k. drop k (replicate 16 0)) size in
    three ∙ ap (λ l. boot ++ serial ++ tag ++ l) none ∙ append-nil (boot ++ serial ++ tag)
