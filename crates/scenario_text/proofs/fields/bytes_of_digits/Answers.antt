use Rattle.std.proofs.Common.{◌≡◌, ◌∙◌, ap, ◌++◌, ◌∷◌, [], arith, length, length-drop, length-append, ◌+◌}
use Rattle.std.proofs.lemmas.List.{take_rest}
use Rattle.std.specs.Option.{option_map}
use Rattle.scenario_text.specs.Fields.{bytes_of_digits}
use Rattle.scenario_text.proofs.Forms.{digits_more}
use Rattle.scenario_text.proofs.fields.bytes_of_digits.Goals as goal

pub loop-rest-preserved : goal.loop-rest-preserved
loop-rest-preserved c =
    let rest = c.loop-rest.rest.now in
    let m = digits_more c.loop-rest.bytes.items rest c.in-Some.byte c.loop-rest-test.true c.in-Some.ensures in
    let d = length-drop 2 rest in
    let k = ap length (take_rest rest 2) in
    record {
      so_far = rw c.push_reserved.ensures.items (ap (λ r. option_map (λ more. (c.loop-rest.bytes.items ++ c.in-Some.byte ∷ []) ++ more) (bytes_of_digits r)) (take_rest rest 2) ∙ m ∙ c.loop-rest.invariant.so_far);
      count = let l : length c.push_reserved.new.self.items ≡ length c.loop-rest.bytes.items + 1 = ap length c.push_reserved.ensures.items ∙ length-append c.loop-rest.bytes.items (c.in-Some.byte ∷ []) in omega arith;
      room = c.push_reserved.ensures.capacity ∙ c.loop-rest.invariant.room;
    }
