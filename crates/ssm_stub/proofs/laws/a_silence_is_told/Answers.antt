use Rattle.std.proofs.Common.{◌∙◌, sym}
use Rattle.outside.specs.Link.{is_silence_of}
use Rattle.ssm_stub.specs.Hearing.{all_about}
use Rattle.ssm_stub.proofs.Counting.{count_is, hushes_about, hush_in}
use Rattle.ssm_stub.proofs.laws.a_silence_is_told.Goals as goal

pub returns-clause-put : goal.returns-clause-put
returns-clause-put c = λ lawful brick calls ends. rw (count_is (is_silence_of brick.0) calls ∙ sym (hushes_about brick calls)) (hush_in lawful (all_about brick calls) ends)

pub returns-clause-get : goal.returns-clause-get
returns-clause-get c = λ lawful brick calls ends. rw (count_is (is_silence_of brick.0) calls ∙ sym (hushes_about brick calls)) (hush_in lawful (all_about brick calls) ends)
