use Rattle.std.proofs.Common.{◌∙◌, codes, sym}
use Rattle.http_wire.specs.Fields.{values_of}
use Rattle.http_wire.specs.FirstCookies.{pairs_of}
use Rattle.http_wire.proofs.FirstCookies.{first_found, found_first, in_pairs, none_found, none_is}
use Rattle.http_wire.proofs.laws.cookies_are_of_the_first_pair.Goals as goal

pub returns-clause-some : goal.returns-clause-some
returns-clause-some c = λ fields text.
    let values = values_of (codes "cookie") fields in
    (λ e. found_first text (pairs_of values) (sym (in_pairs values) ∙ e), λ h. in_pairs values ∙ first_found text (pairs_of values) h)

pub returns-clause-none : goal.returns-clause-none
returns-clause-none c = λ fields.
    let values = values_of (codes "cookie") fields in
    (λ e. none_found (pairs_of values) (sym (in_pairs values) ∙ e), λ h. in_pairs values ∙ none_is (pairs_of values) h)
