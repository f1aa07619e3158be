use Rattle.std.proofs.Common.{◌≡◌, ◌≢◌, List, ℕ, Option, Some, None, ap, ◌∙◌, refl}
use Rattle.auction_calls.specs.declared.action.FormKind.{FormKind}
use Rattle.auction_calls.specs.Reading.{kind_of}
use Rattle.auction_calls.specs.Texts.{kind_text}
use Rattle.auction_calls.proofs.ExactFields.{kind_found, kind_again}
use Rattle.auction_calls.proofs.laws.words_are_of_one_form.Goals as goal

named : (word : List ℕ) (kind : FormKind) → word ≡ kind_text kind → kind_of word ≡ Some kind
named word kind is = ap kind_of is ∙ kind_again kind

none_named : (word : List ℕ) (found : Option FormKind) → kind_of word ≡ found → ((kind : FormKind) → word ≢ kind_text kind) → found ≡ None
none_named word None is none = refl
none_named word (Some kind) is none = absurd (none kind (kind_found word kind is))

pub returns-clause-some : goal.returns-clause-some
returns-clause-some c = λ word kind. (kind_found word kind, named word kind)

pub returns-clause-none : goal.returns-clause-none
returns-clause-none c = λ word. (λ none kind is. let some = named word kind is in absurd (cc), none_named word (kind_of word) refl)
