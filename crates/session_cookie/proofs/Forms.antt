-- Bytes that are bricks and a tag, or a whole cookie and a tag.
use Rattle.std.proofs.Common.{arith, ◌≡◌, ◌≢◌, ◌<◌, ◌≤◌, ◌⊎◌, inl, inr, ℕ, ◌+◌, ◌*◌, true, false, List, ◌++◌, length, take, drop, get_or, All, Option, Some, None, MatchOption, refl, sym, ap, ◌∙◌}
use Rattle.std.proofs.lemmas.Bool.{both_ways}
use Rattle.std.proofs.lemmas.List.{append_assoc, take-append-drop, length-drop, length-append}
use Rattle.std.specs.List.{flat_map}
use Rattle.crash_base.specs.declared.numbers.Moment.{Moment}
use Rattle.crash_base.specs.declared.numbers.SessionKey.{SessionKey}
use Rattle.crash_base.specs.declared.numbers.Version.{Version}
use Rattle.session_cookie.specs.Cookie.{head_bytes, holder_bytes, IsHead, IsHolder}
use Rattle.session_cookie.specs.Reading.{IsTaken, HasBricks, HasNoBricks, are_distinct}
use Rattle.session_cookie.specs.Text.{HasForm}
use Rattle.session_cookie.specs.declared.cookie.Cookie.{Cookie}
use Rattle.session_cookie.specs.declared.cookie.Holder.{Holder}
use Rattle.session_cookie.specs.declared.cookie.TheConstants.{HEAD_BYTES, MAX_HOLDERS}
use Rattle.session_cookie.proofs.Holders.{distinct, tested}
use Rattle.session_cookie.proofs.Sizes.{length-head}
use Rattle.session_cookie.proofs.Unique.{bricks_same, head_same}

-- bytes are cut into holders and what is behind them
pub record AreCut (count : ℕ) (bytes front back : List ℕ) (holders : List Holder) : Type 0 where
  pub count_is : length holders ≡ count
  pub each : All IsHolder holders
  pub spelled : front ≡ flat_map holder_bytes holders
  pub front_is : front ≡ take (10 * count) bytes
  pub back_is : back ≡ drop (10 * count) bytes

joined : (count : ℕ) (bytes front back : List ℕ) (holders : List Holder) → AreCut count bytes front back holders → bytes ≡ flat_map holder_bytes holders ++ back
joined count bytes front back holders h =
    sym (take-append-drop (10 * count) bytes) ∙ ap (λ f. f ++ drop (10 * count) bytes) (sym h.front_is ∙ h.spelled)
    ∙ ap (λ b. flat_map holder_bytes holders ++ b) (sym h.back_is)

pub bricks_there : (count : ℕ) (bytes front back : List ℕ) (holders : List Holder) → AreCut count bytes front back holders
    → (1 ≤ count) × (count ≤ MAX_HOLDERS) × (length bytes ≡ 10 * count + 32) → are_distinct holders ≡ true → HasBricks count bytes holders back
bricks_there count bytes front back holders h (some, few, size) apart = record {
  count_is = h.count_is;
  each = h.each;
  are_holders = (omega (arith, h.count_is), omega (arith, h.count_is), distinct holders apart);
  tag_size = let n = ap length h.back_is ∙ length-drop (10 * count) bytes in omega (arith, n, size);
  bytes_are = joined count bytes front back holders h;
}

pub no_bricks_there : (count : ℕ) (bytes front back : List ℕ) (holders bricks : List Holder) (tag : List ℕ) → AreCut count bytes front back holders
    → are_distinct holders ≡ false → HasBricks count bytes bricks tag → ⊥
no_bricks_there count bytes front back holders bricks tag h twice has =
    let same = bricks_same bricks holders tag back (has.count_is ∙ sym h.count_is) has.each h.each (sym has.bytes_are ∙ joined count bytes front back holders h) in
    both_ways (are_distinct holders) twice (ap are_distinct (sym same.0) ∙ tested bricks has.are_holders.2)

first_is : (key : SessionKey) (version : Version) (expiry : Moment) (count : ℕ) (rest tag : List ℕ) → get_or (head_bytes key version expiry count ++ rest ++ tag) 0 0 ≡ 1
unfolding head_bytes
first_is key version expiry count rest tag = refl

-- bytes without a head are no cookie and tag
pub no_head : (bytes : List ℕ) (cookie : Cookie) (tag : List ℕ) → (length bytes < HEAD_BYTES) ⊎ (get_or bytes 0 0 ≢ 1) → HasForm bytes cookie tag → ⊥
no_head bytes cookie tag none h =
    let head = head_bytes cookie.key cookie.version cookie.expiry (length cookie.bricks) in
    let rest = flat_map holder_bytes cookie.bricks in
    let first = ap (λ b. get_or b 0 0) h.bytes_are ∙ first_is cookie.key cookie.version cookie.expiry (length cookie.bricks) rest tag in
    let size : length bytes ≡ length head + length rest + length tag = ap length h.bytes_are ∙ length-append (head ++ rest) tag ∙ ap (λ n. n + length tag) (length-append head rest) in
    let forty = length-head cookie.key cookie.version cookie.expiry (length cookie.bricks) h.is_cookie.head.0.size in
    elim none [
      | inl short ↦ omega (arith, short, size, forty)
      | inr other ↦ other first
    ]

-- neither are a head and what is no bricks and tag
pub no_rest : (bytes rest : List ℕ) (key : SessionKey) (version : Version) (expiry : Moment) (count : ℕ) → IsTaken (head_bytes key version expiry count) bytes rest
    → IsHead key version expiry → HasNoBricks count rest → (cookie : Cookie) (tag : List ℕ) → HasForm bytes cookie tag → ⊥
no_rest bytes rest key version expiry count taken head none cookie tag h =
    let found = head_bytes cookie.key cookie.version cookie.expiry (length cookie.bricks) in
    let both : head_bytes key version expiry count ++ rest ≡ found ++ (flat_map holder_bytes cookie.bricks ++ tag) =
    sym taken.parts ∙ h.bytes_are ∙ append_assoc found (flat_map holder_bytes cookie.bricks) tag in
    let (same, left) = head_same key cookie.key version cookie.version expiry cookie.expiry count (length cookie.bricks) rest (flat_map holder_bytes cookie.bricks ++ tag) head h.is_cookie.head both in
    none cookie.bricks tag (record {
      count_is = sym same.counts;
      each = h.is_cookie.each;
      are_holders = h.is_cookie.bricks;
      tag_size = h.tag_size;
      bytes_are = left;
    })

-- what holds where an answer is none
pub none_holds : {A : Type 0} {P : Type 0} (Q : A → Type 0) (answer : Option A) → answer ≡ None → MatchOption answer P Q → P
none_holds Q None is h = h
none_holds Q (Some x) is h = cc
