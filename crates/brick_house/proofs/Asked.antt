-- Bytes that came to a brick of a house.
use Rattle.std.proofs.Common.{◌≡◌, ◌∙◌, ap, sym, refl, false, List, ℕ, Option, Some, None, inl, inr}
use Rattle.std.specs.Option.{option_and_then}
use Rattle.crash_base.specs.declared.numbers.BrickNo.{BrickNo}
use Rattle.ssm_frames.specs.declared.frame.Frame.{Frame}
use Rattle.ssm_frames.specs.Reading.{decode_of}
use Rattle.ssm_frames.specs.Requests.{is_request}
use Rattle.brick_store.specs.Bricks.{BrickValue, new_brick, reply}
use Rattle.brick_house.specs.Houses.{HouseValue}
use Rattle.brick_house.specs.HouseLinks.{LaneValue, with_reply, IsAsked, IsAnswered}
use Rattle.brick_house.proofs.InOrder.{replied_or_none}

-- bytes that spell no frame leave the lane
pub none_asked : (house : HouseValue) (to : BrickNo) (bytes : List ℕ) (lane : LaneValue) → decode_of bytes ≡ None → IsAsked house to bytes lane lane
none_asked house to bytes lane none =
    let b = new_brick to house.incarnation in
    (b, record { number_is = refl; incarnation_is = refl }, ap (λ (found : Option Frame). with_reply (option_and_then (reply b) found) lane) (sym none))

no_reply : (b : BrickValue) (frame : Frame) → is_request frame ≡ false → reply b frame ≡ None
no_reply b frame h = elim (replied_or_none b frame) [ inl x ↦ absurd cc | inr x ↦ x.1 ]

-- and so do those that spell a reply
pub reply_asked : (house : HouseValue) (to : BrickNo) (bytes : List ℕ) (frame : Frame) (lane : LaneValue) → decode_of bytes ≡ Some frame → is_request frame ≡ false → IsAsked house to bytes lane lane
reply_asked house to bytes frame lane is no_request =
    let b = new_brick to house.incarnation in
    (b, record { number_is = refl; incarnation_is = refl }, ap (λ (found : Option Frame). with_reply found lane) (sym (no_reply b frame no_request)) ∙ ap (λ (found : Option Frame). with_reply (option_and_then (reply b) found) lane) (sym is))

-- a request was answered
pub request_asked : (house : HouseValue) (to : BrickNo) (bytes : List ℕ) (frame : Frame) (old new : LaneValue) → decode_of bytes ≡ Some frame → IsAnswered house to frame old new → IsAsked house to bytes old new
request_asked house to bytes frame old new is (answer, (b, of, so), after) =
    (b, of, after ∙ (ap (λ (found : Option Frame). with_reply found old) (sym so) ∙ ap (λ (found : Option Frame). with_reply (option_and_then (reply b) found) old) (sym is)))
