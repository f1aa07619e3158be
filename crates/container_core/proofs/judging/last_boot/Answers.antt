use Rattle.std.proofs.Common.{[], ◌≡◌, ℕ, ◌<◌, List, length, take, Some, sym, ap, ◌∙◌, subst, arith}
use Rattle.std.specs.Int.{from_be_bytes, w32}
use Rattle.std.proofs.lemmas.Bool.Decides.{nat_tests}
use Rattle.crash_base.specs.Rows.{row_in}
use Rattle.container_core.specs.Start.{boot_id, number_in}
use Rattle.container_core.proofs.GoodRows.{good_number, number_is}
use Rattle.container_core.proofs.judging.last_boot.Goals as goal

pub returns-in-Some-take_u32 : goal.returns-in-Some-take_u32
returns-in-Some-take_u32 c =
    let found : row_in c.args.rows.now boot_id ≡ Some c.in-Some.bytes.now = sym c.in-Some.ensures in
    let four = good_number [] c.args.rows.now c.in-Some.bytes.now c.requires found in
    c.in-Some-take_u32.ensures.taken_is ∙ ap (λ bs. from_be_bytes w32 (take 4 bs)) c.as_slice.ensures ∙ number_is c.in-Some.bytes.now four ∙ ap number_in (sym found)

pub returns-in-None-take_u32 : goal.returns-in-None-take_u32
returns-in-None-take_u32 c =
    let found : row_in c.args.rows.now boot_id ≡ Some c.in-Some.bytes.now = sym c.in-Some.ensures in
    let four : length c.in-Some.bytes.now ≡ 4 = good_number [] c.args.rows.now c.in-Some.bytes.now c.requires found in
    let P : List ℕ → Type 0 = λ bs. length bs < 4 in
    let fewer : length c.in-Some.bytes.now < 4 = subst P c.as_slice.ensures c.in-None-take_u32.ensures in
    absurd (grind (arith, nat_tests))
