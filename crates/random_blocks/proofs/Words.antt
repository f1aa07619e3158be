-- A word that was cut off a block, and the first word of a new one.
use Rattle.std.proofs.Common.{◌≡◌, ℕ, ◌+◌, ◌-◌, ◌≤◌, ◌<◌, List, length, take, drop, ap, sym, subst, refl}
use Rattle.std.proofs.lemmas.List.{drop-drop, take_rest}
use Rattle.outside.specs.Random.{word_of}
use Rattle.random_blocks.specs.Blocks.{BlockValue, IsCut, IsFilled, IsFirst}

-- what is left of a block, as a slice of it has it
pub rest_of : (block : List ℕ) (at : ℕ) → length block ≡ 256 → take (256 - at) (drop at block) ≡ drop at block
rest_of block at size = subst (λ n. take (n - at) (drop at block) ≡ drop at block) size (take_rest block at)

pub cut_is : (block seed : List ℕ) (at faults word : ℕ) (old : BlockValue)
    → record { left = drop at block; seed = seed; faults = faults } ≡ old
    → 8 ≤ length old.left → word ≡ word_of (drop at block)
    → IsCut old word (record { left = drop (at + 8) block; seed = seed; faults = faults })
cut_is block seed at faults word old view enough is =
    let now : BlockValue = record { left = drop (at + 8) block; seed = seed; faults = faults } in
    let cut : 8 ≤ length (drop at block) → IsCut (record { left = drop at block; seed = seed; faults = faults }) word now =
    λ long. record {
      enough = long;
      word_is = is;
      after = ap (λ (l : List ℕ). record { left = l; seed = seed; faults = faults }) (sym (drop-drop 8 at block));
    } in
    subst (λ (o : BlockValue). 8 ≤ length o.left → IsCut o word now) view cut enough

pub first_is : (block seed : List ℕ) (faults word : ℕ) (old : BlockValue)
    → faults ≡ old.faults → length old.left < 8 → length block ≡ 256
    → seed ≡ take 32 block → word ≡ word_of (drop 32 block)
    → IsFirst old word (record { left = drop 40 block; seed = seed; faults = faults })
first_is block seed faults word old same spent size seed_is is = record {
  spent = spent;
  left = drop 32 block;
  filled = record { block = block; size = size; seed_is = seed_is; left_is = refl };
  word_is = is;
  left_is = sym (drop-drop 8 32 block);
  faults_are = same;
}
