use Rattle.std.proofs.Common.{arith, rules, ◌≡◌, ℕ, ◌+◌, List, [], ◌++◌, length, take, drop, replicate, codes, refl, subst, ap, ◌∙◌}
use Rattle.std.proofs.lemmas.List.{append-nil, append_assoc, length-append}
use Rattle.std.specs.Int.{to_be_bytes, w32, w64}
use Rattle.session_cookie.specs.Token.{request_bytes, token_message}
use Rattle.session_cookie.proofs.Putting.{put_next}
use Rattle.session_cookie.proofs.tokens.token_message.Goals as goal

pub returns : goal.returns
unfolding token_message request_bytes
returns c =
    let form = codes "form" in
    let session = c.args.session.0 in
    let boot = to_be_bytes w32 c.args.request.boot in
    let serial = to_be_bytes w64 c.args.request.serial in
    let size : length session ≡ 16 = search rules in
    let left : List ℕ = drop (length session) (replicate 28 0) in
    let P : List ℕ → Type 0 = λ piece. c.put-3.new.block ≡ take 20 c.put-2.new.block ++ (piece ++ drop (20 + length piece) c.put-2.new.block) in
    let Q : List ℕ → Type 0 = λ piece. c.put-4.new.block ≡ take 24 c.put-3.new.block ++ (piece ++ drop (24 + length piece) c.put-3.new.block) in
    let one = put_next (replicate 32 0) c.put.new.block [] (replicate 32 0) form 0 refl refl c.put.ensures in
    let two = put_next c.put.new.block c.put-2.new.block form (replicate 28 0) session 4 one refl c.put-2.ensures in
    let n : length (form ++ session) ≡ 20 = omega (arith, size, length-append form session) in
    let three = put_next c.put-2.new.block c.put-3.new.block (form ++ session) left boot 20 two n (subst P c.to_be_bytes.ensures c.put-3.ensures) in
    let m : length (form ++ session ++ boot) ≡ 24 = omega (arith, n, length-append (form ++ session) boot) in
    let four = put_next c.put-3.new.block c.put-4.new.block (form ++ session ++ boot) (drop 4 left) serial 24 three m (subst Q c.to_be_bytes-2.ensures c.put-4.ensures) in
    let none : drop 8 (drop 4 left) ≡ [] = ap (λ k. drop 8 (drop 4 (drop k (replicate 28 0)))) size in
    four ∙ ap (λ l. form ++ session ++ boot ++ serial ++ l) none ∙ append-nil (form ++ session ++ boot ++ serial) ∙ append_assoc (form ++ session) boot serial
