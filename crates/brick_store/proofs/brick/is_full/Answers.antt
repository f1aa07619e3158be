use Rattle.std.proofs.Common.{◌≡◌, ◌+◌, ◌≤◌, ◌<◌, ℕ, true, nat_lt, nat_le, ◌||◌, length, Some, None, sym, ap, ◌∙◌, arith}
use Rattle.std.proofs.lemmas.Bool.Decides.{nat_tests}
use Rattle.brick_store.specs.declared.kept.Kept.{Kept}
use Rattle.brick_store.specs.declared.kept.TheConstants.{MAX_BRICK_VALUES, MAX_BRICK_BYTES}
use Rattle.brick_store.specs.Bricks.{put_value}
use Rattle.brick_store.specs.Kept.{kept_under, bytes_of}
use Rattle.brick_store.specs.Pairs.{pair_of, kept_at}
use Rattle.brick_store.proofs.Limits.{full_new, full_over}
use Rattle.brick_store.proofs.brick.is_full.Goals as goal

past : (a b : ℕ) → MAX_BRICK_VALUES ≤ a → true ≡ (nat_le MAX_BRICK_VALUES a || nat_lt MAX_BRICK_BYTES b)
past a b h = grind (arith, nat_tests)

below : (a b : ℕ) → a < MAX_BRICK_VALUES → nat_lt MAX_BRICK_BYTES b ≡ (nat_le MAX_BRICK_VALUES a || nat_lt MAX_BRICK_BYTES b)
below a b h = grind (arith, nat_tests)

pub returns-then-len-ge-MAX_BRICK_VALUES : goal.returns-then-len-ge-MAX_BRICK_VALUES
returns-then-len-ge-MAX_BRICK_VALUES c =
    let s = put_value c.args.key c.args.version c.args.expiry c.args.value.now in
    let kept = c.args.kept.now in
    let none : kept_under s.key s.version kept ≡ None = sym c.in-None.ensures.kept in
    past (length kept) (bytes_of kept + length s.value) (omega (arith, c.len.ensures, c.if-len-ge-MAX_BRICK_VALUES.true)) ∙ sym (full_new s kept c.get.ensures.in_order none)

pub returns-else-len-ge-MAX_BRICK_VALUES : goal.returns-else-len-ge-MAX_BRICK_VALUES
returns-else-len-ge-MAX_BRICK_VALUES c =
    let s = put_value c.args.key c.args.version c.args.expiry c.args.value.now in
    let kept = c.args.kept.now in
    let none : kept_under s.key s.version kept ≡ None = sym c.in-None.ensures.kept in
    let sum : c.bytes.result + length c.as_slice.result.now ≡ bytes_of kept + length s.value = λ l. c.bytes.ensures.bytes l + length (c.as_slice.ensures.value l) in
    ap (nat_lt MAX_BRICK_BYTES) sum ∙ below (length kept) (bytes_of kept + length s.value) (omega (arith, c.len.ensures, c.if-len-ge-MAX_BRICK_VALUES.false)) ∙ sym (full_new s kept c.get.ensures.in_order none)

pub returns-in-Some : goal.returns-in-Some
returns-in-Some c =
    let s = put_value c.args.key c.args.version c.args.expiry c.args.value.now in
    let kept = c.args.kept.now in
    let t : Kept = kept_at (pair_of c.args.key c.args.version, c.in-Some.lease.now) in
    let found : kept_under s.key s.version kept ≡ Some t = sym c.in-Some.ensures.kept in
    let sum : c.bytes-in-Some.result + length c.as_slice.result.now ≡ bytes_of kept + length s.value = λ l. c.bytes-in-Some.ensures.bytes l + length (c.as_slice.ensures.value l) in
    let less : MAX_BRICK_BYTES + length c.as_slice-in-Some.result.now ≡ MAX_BRICK_BYTES + length t.value = ap (λ v. MAX_BRICK_BYTES + length v) c.as_slice-in-Some.ensures.value in
    (λ l. nat_lt (less l) (sum l)) ∙ sym (full_over s t kept c.get.ensures.in_order c.requires found)
