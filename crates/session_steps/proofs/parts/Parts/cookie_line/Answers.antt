use Rattle.std.proofs.Common.{subst, sym, ◌∙◌, List, ℕ}
use Rattle.std.specs.Str.{IsAscii}
use Rattle.std.proofs.lemmas.Str.{IsUtf8-from_ascii}
use Rattle.base64.specs.Engines.{url_safe_no_pad}
use Rattle.base64.proofs.EngineFacts.{IsAscii-encode_of}
use Rattle.session_steps.proofs.parts.Parts.cookie_line.Goals as goal

pub cookie_text-requires : goal.cookie_text-requires
cookie_text-requires c =
    let A : List ℕ → Type 0 = λ text. IsAscii text in
    IsUtf8-from_ascii c.as_slice.result.now (subst A (sym (c.as_slice.ensures ∙ c.in_ok-shown.ensures.1.text_is)) (IsAscii-encode_of url_safe_no_pad _))
