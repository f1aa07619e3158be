-- The fields that calls alone have are exact.
use Rattle.std.proofs.Common.{◌≡◌, ℕ, ◌^◌, ◌<◌, Bool, true, false, cond, List, ◌++◌, length, Option, Some, None, refl, ap, ◌∙◌, arith}
use Rattle.std.specs.Prelude.{bytes_eq}
use Rattle.std.proofs.lemmas.Slice.Eq.{bytes_eq-Decides}
use Rattle.byte_fields.specs.Reading.{flag_of}
use Rattle.byte_fields.specs.Spelling.{u64_bytes, text16, flag}
use Rattle.byte_fields.proofs.Exact.{IsExact}
use Rattle.byte_fields.proofs.ExactFields.{bytes_exact, u64_exact, id_exact, IsText, text_exact, flag_from, flag_back}
use Rattle.byte_fields.proofs.MadeFields.{made_exact, both_exact}
use Rattle.auction_calls.specs.declared.action.FormKind.{FormKind}
use Rattle.auction_calls.specs.declared.action.FormKind.TheVariants.{Register, SignIn, SignOut, Category, Sell, Bid, Buy, Close, Feedback}
use Rattle.auction_calls.specs.declared.fields.CallHead.{CallHead}
use Rattle.auction_calls.specs.declared.fields.Credentials.{Credentials}
use Rattle.auction_calls.specs.Reading.{truth_at, kind_of, kind_at, head_at, credentials_at}
use Rattle.auction_calls.specs.Texts.{kind_text}
use Rattle.auction_calls.proofs.Exact.{found_exact}
use Rattle.auction_calls.proofs.Names.{user_name_text}

flag_few : (b : Bool) → flag b < 2 ^ 64
flag_few true = omega arith
flag_few false = omega arith

pub truth_exact : IsExact truth_at (λ b. u64_bytes (flag b)) (λ b. Unit {0})
unfolding truth_at
truth_exact = found_exact flag_of flag (λ b. u64_bytes (flag b)) (λ b. Unit {0}) u64_exact (record {
  spelled = λ n b h e. ap u64_bytes (flag_from n b e);
  is_in = λ n b h e. tt;
  found = λ b h. flag_back b;
  found_spelled = λ b h. refl;
  found_in = λ b h. flag_few b;
})

-- one word more
word_step : (word : List ℕ) (kind k : FormKind) (later : Option FormKind) → (later ≡ Some k → word ≡ kind_text k) → cond (bytes_eq word (kind_text kind)) (Some kind) later ≡ Some k → word ≡ kind_text k
word_step word kind k later next e = go (bytes_eq word (kind_text kind)) refl e
  where
    go : (b : Bool) → bytes_eq word (kind_text kind) ≡ b → cond b (Some kind) later ≡ Some k → word ≡ kind_text k
    go true is f = let same : kind ≡ k = cc in (bytes_eq-Decides word (kind_text kind)).0 is ∙ ap kind_text same
    go false is f = next f

pub kind_found : (word : List ℕ) (k : FormKind) → kind_of word ≡ Some k → word ≡ kind_text k
unfolding kind_of
kind_found word k e =
    word_step word Register k _ (
    word_step word SignIn k _ (
    word_step word SignOut k _ (
    word_step word Category k _ (
    word_step word Sell k _ (
    word_step word Bid k _ (
    word_step word Buy k _ (
    word_step word Close k _ (
    word_step word Feedback k None (λ f. absurd (cc)))))))))) e

pub kind_again : (k : FormKind) → kind_of (kind_text k) ≡ Some k
unfolding kind_of
kind_again Register = refl
kind_again SignIn = refl
kind_again SignOut = refl
kind_again Category = refl
kind_again Sell = refl
kind_again Bid = refl
kind_again Buy = refl
kind_again Close = refl
kind_again Feedback = refl

kind_is_text : (k : FormKind) → IsText (kind_text k)
kind_is_text Register = user_name_text (kind_text Register) refl
kind_is_text SignIn = user_name_text (kind_text SignIn) refl
kind_is_text SignOut = user_name_text (kind_text SignOut) refl
kind_is_text Category = user_name_text (kind_text Category) refl
kind_is_text Sell = user_name_text (kind_text Sell) refl
kind_is_text Bid = user_name_text (kind_text Bid) refl
kind_is_text Buy = user_name_text (kind_text Buy) refl
kind_is_text Close = user_name_text (kind_text Close) refl
kind_is_text Feedback = user_name_text (kind_text Feedback) refl

pub kind_exact : IsExact kind_at (λ k. text16 (kind_text k)) (λ k. Unit {0})
unfolding kind_at
kind_exact = found_exact kind_of kind_text (λ k. text16 (kind_text k)) (λ k. Unit {0}) text_exact (record {
  spelled = λ word k h e. ap text16 (kind_found word k e);
  is_in = λ word k h e. tt;
  found = λ k h. kind_again k;
  found_spelled = λ k h. refl;
  found_in = λ k h. kind_is_text k;
})

-- what spells a name and a password
abbrev pub spell_credentials : Credentials → List ℕ
spell_credentials c = text16 c.name ++ text16 c.password

abbrev pub AreTexts : Credentials → Type 0
AreTexts c = IsText c.name × IsText c.password

pub credentials_exact : IsExact credentials_at spell_credentials AreTexts
unfolding credentials_at
credentials_exact = made_exact (λ c. record { name = c.0; password = c.1 }) (λ c. (c.name, c.password)) spell_credentials AreTexts (both_exact text_exact text_exact) (record {
  spelled = λ x h. refl;
  is_in = λ x h. h;
  found = λ c h. refl;
  found_spelled = λ c h. refl;
  found_in = λ c h. h;
})

-- what spells the head of a call
abbrev pub spell_head : CallHead → List ℕ
spell_head h = u64_bytes h.user ++ (h.key.0 ++ (u64_bytes h.now.0 ++ (u64_bytes h.fresh ++ h.form)))

pub record IsHead (h : CallHead) : Type 0 where
  pub user : h.user < 2 ^ 32
  pub key : length h.key.0 ≡ 16
  pub now : h.now.0 < 2 ^ 64
  pub fresh : h.fresh < 2 ^ 64
  pub form : length h.form ≡ 56

pub head_exact : IsExact head_at spell_head IsHead
unfolding head_at
head_exact = made_exact (λ h. record { user = h.0; key = record { 0 = h.1.0 }; now = record { 0 = h.1.1.0 }; fresh = h.1.1.1.0; form = h.1.1.1.1 }) (λ h. (h.user, (h.key.0, (h.now.0, (h.fresh, h.form))))) spell_head IsHead (both_exact id_exact (both_exact (bytes_exact 16) (both_exact u64_exact (both_exact u64_exact (bytes_exact 56))))) (record {
  spelled = λ x h. refl;
  is_in = λ x h. record { user = h.0; key = h.1.0; now = h.1.1.0; fresh = h.1.1.1.0; form = h.1.1.1.1 };
  found = λ x h. refl;
  found_spelled = λ x h. refl;
  found_in = λ x h. (h.user, (h.key, (h.now, (h.fresh, h.form))));
})
