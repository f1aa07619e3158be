-- What is written of a text that is presented as a cookie.
use Rattle.std.specs.Prelude.{ℕ, List, [], codes, Result, Ok, Err}
use Rattle.session_cookie.specs.declared.codec.CookieRefusal.{CookieRefusal}
use Rattle.session_cookie.specs.declared.codec.CookieRefusal.TheVariants.{NotBase64, Form, Tag, OutOfMemory}
use Rattle.session_cookie.specs.declared.cookie.Cookie.{Cookie}
use Rattle.text_readings.specs.CookieTexts.{answer_to}

-- what is written of an answer; of one that memory did not suffice for, nothing
abbrev pub answer_text : Result Cookie CookieRefusal → List ℕ
answer_text (Ok cookie) = codes "cookie ok\n"
answer_text (Err NotBase64) = codes "cookie notbase64\n"
answer_text (Err Form) = codes "cookie form\n"
answer_text (Err Tag) = codes "cookie tag\n"
answer_text (Err OutOfMemory) = []

-- what is written of a text under the key of the service
abbrev pub presented_text : List ℕ → List ℕ → List ℕ
presented_text key text = answer_text (answer_to key text)
